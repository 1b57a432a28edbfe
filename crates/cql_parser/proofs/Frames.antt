-- The stack of the code.
use Rattle.std.proofs.Common.{◌≡◌, ◌+◌, List, [], ◌∷◌, ◌++◌, Some, None, refl, sym, ap, ◌∙◌, map, arith, ◌-◌, ◌<◌, length, take, get_or}
use Rattle.std.specs.List.{slice_get}
use Rattle.std.proofs.lemmas.List.{take_all, take_more, reverse-append}
use Rattle.std.proofs.lemmas.Option.{slice_get_within, get_or_from_slice_get, slice_get-get_or}
use Rattle.cql_parser.specs.declared.rule_state.OperandContext.TheVariants.{Within}
use Rattle.cql_parser.specs.declared.stack.Frame.{Frame as CodeFrame}
use Rattle.cql_parser.specs.declared.stack.Frame.TheVariants.{InRule as CodeInRule, Joining as CodeJoining}
use Rattle.cql_parser.specs.PartialFilters.{Node}
use Rattle.cql_parser.specs.Internal.Frames.{frame_model, stack_model, opened}
use Rattle.cql_parser.specs.Internal.Machine.{Frame, depth, due, around}
use Rattle.cql_parser.specs.Internal.TreeBuilder.{OpenRule, tree_builder}

pub shown_more : (fs : List CodeFrame) (f : CodeFrame) → stack_model (fs ++ f ∷ []) ≡ frame_model f ∷ stack_model fs
unfolding stack_model
shown_more fs f = ap (map frame_model) (reverse-append fs (f ∷ []))

pub shown_none : stack_model [] ≡ []
unfolding stack_model
shown_none = refl

pub depth_more : (f : CodeFrame) (k : List (Frame OpenRule Node)) → depth tree_builder (frame_model f ∷ k) ≡ depth tree_builder k + opened f
depth_more (CodeInRule rule) k = refl
depth_more (CodeJoining level node joint) k = omega arith

-- the innermost comes last
last_shown : (fs : List CodeFrame) (f : CodeFrame) → slice_get fs (length fs - 1) ≡ Some f
    → stack_model fs ≡ frame_model f ∷ stack_model (take (length fs - 1) fs)
last_shown fs f h =
    let within : length fs - 1 < length fs = slice_get_within fs (length fs - 1) f h in
    let all : fs ≡ take (length fs - 1) fs ++ f ∷ [] = sym (take_all (length fs - 1 + 1) fs (omega arith))
    ∙ take_more fs (length fs - 1) f within
    ∙ ap (λ g. take (length fs - 1) fs ++ g ∷ []) (get_or_from_slice_get fs (length fs - 1) f f h) in
    ap stack_model all ∙ shown_more (take (length fs - 1) fs) f

no_last : (fs : List CodeFrame) → slice_get fs (length fs - 1) ≡ None → stack_model fs ≡ []
no_last [] h = shown_none
no_last (f ∷ fs) h = let some : slice_get (f ∷ fs) (length (f ∷ fs) - 1) ≡ Some (get_or (f ∷ fs) (length (f ∷ fs) - 1) f) =
    slice_get-get_or (f ∷ fs) (length (f ∷ fs) - 1) f (omega arith) in absurd cc

due_top : (f : CodeFrame) (k : List (Frame OpenRule Node)) → due tree_builder (frame_model f ∷ k) ≡ due tree_builder (frame_model f ∷ [])
due_top (CodeInRule rule) k = refl
due_top (CodeJoining level node joint) k = refl

around_top : (f : CodeFrame) (k : List (Frame OpenRule Node)) → around tree_builder (frame_model f ∷ k) ≡ around tree_builder (frame_model f ∷ [])
around_top (CodeInRule rule) k = refl
around_top (CodeJoining level node joint) k = refl

pub due_last : (fs : List CodeFrame) (f : CodeFrame) → slice_get fs (length fs - 1) ≡ Some f
    → due tree_builder (stack_model fs) ≡ due tree_builder (frame_model f ∷ [])
due_last fs f h = ap (due tree_builder) (last_shown fs f h) ∙ due_top f (stack_model (take (length fs - 1) fs))

pub due_none : (fs : List CodeFrame) → slice_get fs (length fs - 1) ≡ None → due tree_builder (stack_model fs) ≡ 0
due_none fs h = ap (due tree_builder) (no_last fs h)

pub around_last : (fs : List CodeFrame) (f : CodeFrame) → slice_get fs (length fs - 1) ≡ Some f
    → around tree_builder (stack_model fs) ≡ around tree_builder (frame_model f ∷ [])
around_last fs f h = ap (around tree_builder) (last_shown fs f h) ∙ around_top f (stack_model (take (length fs - 1) fs))

pub around_none : (fs : List CodeFrame) → slice_get fs (length fs - 1) ≡ None → around tree_builder (stack_model fs) ≡ Within
around_none fs h = ap (around tree_builder) (no_last fs h)
