-- The trees are those of the phrases.
use Rattle.std.proofs.Common.{◌≡◌, ℕ, ◌+◌, List, [], ◌∷◌, ◌++◌, Option, Some, None, Bool, true, false, refl, sym, ap, ap₂, ◌∙◌}
use Rattle.std.specs.Prelude.{nat_le, fold}
use Rattle.cql_syntax.specs.Trees.{FilterTrees}
use Rattle.cql_syntax.specs.declared.token.QueryToken.{QueryToken}
use Rattle.cql_parser.specs.declared.rule_state.HeadState.{HeadState}
use Rattle.cql_parser.specs.declared.rule_state.HeadState.TheVariants.{Start, ListDue, Params, FileDue, MatchDue, Over}
use Rattle.cql_parser.specs.declared.rule_state.RuleState.{RuleState}
use Rattle.cql_parser.specs.declared.role.InfixOperator.{InfixOperator}
use Rattle.cql_parser.specs.declared.role.Role.{Role}
use Rattle.cql_parser.specs.declared.role.Role.TheVariants.{Word, Sign, Number, Name, Text, FileName, Outcome, Designator, End, Other}
use Rattle.cql_parser.specs.RuleStates.{role, heads, opens, goes, least, next, whole, level_of, depth_of, joint, infix_level, takes, joins}
use Rattle.cql_parser.specs.Grammar.{Phrase, made, joined, Parts, first, put, root, end, Items, more, level}
use Rattle.cql_parser.specs.PartialFilters.{Node, node, draft, trees, infix_node, node_of, opening, no_opening, add_token, Opening as Head}
use Rattle.cql_parser.specs.Internal.Machine.{Frame, InRule, Joining, State, Opening, Reading, Done, Deep, Stuck, depth, due, around, choose, open_if, begin_at, start, join, after_item, onward_by, onward, after, head_to, feed, written}
use Rattle.cql_parser.specs.Internal.TreeBuilder.{OpenRule, blank, tree_builder}
use Rattle.cql_parser.proofs.Read.{Frames, St}

abbrev pub MachineState : Type 0
MachineState = State Head OpenRule Node FilterTrees

abbrev pub rule : Parts → OpenRule
rule ps = record { root = root ps; end = end ps; draft = draft ps }

abbrev pub plants : Frames → List (Frame OpenRule Node)
plants [] = []
plants (InRule ps ∷ k) = InRule (rule ps) ∷ plants k
plants (Joining v p x j ∷ k) = Joining v (node p) blank j ∷ plants k

abbrev pub plant : St → MachineState
plant (Opening h place) = Opening (opening h) place
plant (Reading h b k) = Reading (opening h) (trees b) (plants k)
plant (Done h b) = Done (opening h) (trees b)
plant Deep = Deep
plant Stuck = Stuck

-- the open frames are joined by filters of their level
abbrev pub Leveled : Frames → Type 0
Leveled [] = Unit {0}
Leveled (InRule ps ∷ k) = Leveled k
Leveled (Joining v p x j ∷ k) = (v ≡ level p) × Leveled k

plant_choose : (t : Bool) (s u : St) → choose t (plant s) (plant u) ≡ plant (choose t s u)
plant_choose true s u = refl
plant_choose false s u = refl

depth_same : (k : Frames) → depth tree_builder (plants k) ≡ depth written k
depth_same [] = refl
depth_same (InRule ps ∷ k) = ap (λ n. n + depth_of (root ps)) (depth_same k)
depth_same (Joining v p x j ∷ k) = depth_same k

due_same : (k : Frames) → due tree_builder (plants k) ≡ due written k
due_same [] = refl
due_same (InRule ps ∷ k) = refl
due_same (Joining v p x j ∷ k) = refl

around_same : (k : Frames) → around tree_builder (plants k) ≡ around written k
around_same [] = refl
around_same (InRule ps ∷ k) = refl
around_same (Joining v p x j ∷ k) = refl

plant_open : (t w : Bool) (s : St) → open_if t w (plant s) ≡ plant (open_if t w s)
plant_open true true s = refl
plant_open true false s = refl
plant_open false w s = refl

plant_begin : (l : ℕ) (h : List QueryToken) (b : Items) (k : Frames) (x : QueryToken) (o : Option RuleState)
    → begin_at tree_builder l (opening h) (trees b) (plants k) x o ≡ plant (begin_at written l h b k x o)
plant_begin l h b k x None = refl
plant_begin l h b k x (Some s) =
    ap₂ (λ d n. open_if (nat_le d (level_of s)) (nat_le (n + depth_of s) l) (plant (Reading h b (InRule (first x s) ∷ k))))
    (due_same k) (depth_same k)
    ∙ plant_open (nat_le (due written k) (level_of s)) (nat_le (depth written k + depth_of s) l) (Reading h b (InRule (first x s) ∷ k))

plant_start : (l : ℕ) (h : List QueryToken) (b : Items) (k : Frames) (x : QueryToken) (r : Role)
    → start tree_builder l (opening h) (trees b) (plants k) x r ≡ plant (start written l h b k x r)
plant_start l h b k x r =
    ap (λ c. begin_at tree_builder l (opening h) (trees b) (plants k) x (opens c r)) (around_same k)
    ∙ plant_begin l h b k x (opens (around written k) r)

plant_join : (h : List QueryToken) (b : Items) (v : ℕ) (p : Phrase) (k : Frames) (x : QueryToken) (o : Option InfixOperator)
    → join tree_builder (opening h) (trees b) v (node p) (plants k) x o ≡ plant (join written h b v p k x o)
plant_join h b v p k x None = refl
plant_join h b v p k x (Some j) = plant_choose (takes j v) (Reading h b (Joining v p x j ∷ k)) Stuck

plant_item : (l : ℕ) (h : List QueryToken) (b : Items) (x : QueryToken) (r : Role)
    → after_item tree_builder l (opening h) (trees b) x r ≡ plant (after_item written l h b x r)
plant_item l h b x End = refl
plant_item l h b x (Word w) = plant_start l h b [] x (Word w)
plant_item l h b x (Sign s) = plant_start l h b [] x (Sign s)
plant_item l h b x (Number n) = plant_start l h b [] x (Number n)
plant_item l h b x Name = plant_start l h b [] x Name
plant_item l h b x Text = plant_start l h b [] x Text
plant_item l h b x FileName = plant_start l h b [] x FileName
plant_item l h b x Outcome = plant_start l h b [] x Outcome
plant_item l h b x Designator = plant_start l h b [] x Designator
plant_item l h b x Other = plant_start l h b [] x Other

plant_onward : (l : ℕ) (h : List QueryToken) (b : Items) (ps : Parts) (k : Frames) (x : QueryToken) (r : Role) (o : Option RuleState)
    (w : Bool) (s : MachineState) (u : St) → s ≡ plant u
    → onward_by tree_builder l (opening h) (trees b) (rule ps) (plants k) x r o w s ≡ plant (onward_by written l h b ps k x r o w u)
plant_onward l h b ps k x r (Some s) w e u is = refl
plant_onward l h b ps k x r None true e u is = is
plant_onward l h b ps k x r None false e u is = plant_start l h b (InRule ps ∷ k) x r

plant_after : (l : ℕ) (h : List QueryToken) (b : Items) (v : ℕ) (p : Phrase) (k : Frames) (x : QueryToken) (r : Role) → Leveled k
    → after tree_builder l (opening h) (trees b) v (node p) (plants k) x r ≡ plant (after written l h b v p k x r)
unfolding after
plant_after l h b v p [] x r leveled =
    ap₂ (choose (joins 0 r)) (plant_join h b v p [] x (joint r)) (plant_item l h (more b p) x r)
    ∙ plant_choose (joins 0 r) (join written h b v p [] x (joint r)) (after_item written l h (more b p) x r)
plant_after l h b v p (Joining e f y j ∷ k) x r leveled =
    ap₂ (choose (joins (infix_level j + 1) r)) (plant_join h b v p (Joining e f y j ∷ k) x (joint r))
    (ap (λ n. after tree_builder l (opening h) (trees b) (infix_level j) (infix_node n (node f) j (node p)) (plants k) x r) leveled.0
    ∙ plant_after l h b (infix_level j) (joined f y j p) k x r leveled.1)
    ∙ plant_choose (joins (infix_level j + 1) r) (join written h b v p (Joining e f y j ∷ k) x (joint r))
    (after written l h b (infix_level j) (joined f y j p) k x r)
plant_after l h b v p (InRule d ∷ k) x r leveled =
    ap₂ (choose (joins (least (end d)) r)) (plant_join h b v p (InRule d ∷ k) x (joint r))
    (plant_onward l h b (put d p (next (end d))) k x r (goes (next (end d)) r) (whole (next (end d)))
    (after tree_builder l (opening h) (trees b) (level_of (root d)) (node_of (draft (put d p (next (end d))))) (plants k) x r)
    (after written l h b (level_of (root d)) (made (put d p (next (end d)))) k x r)
    (plant_after l h b (level_of (root d)) (made (put d p (next (end d)))) k x r leveled))
    ∙ plant_choose (joins (least (end d)) r) (join written h b v p (InRule d ∷ k) x (joint r))
    (onward written l h b (put d p (next (end d))) k x r (after written l h b (level_of (root d)) (made (put d p (next (end d)))) k x r))

open_snoc : (ts : List QueryToken) (x : QueryToken) (o : Head)
    → fold (λ o x. add_token o x x.kind) o (ts ++ (x ∷ [])) ≡ add_token (fold (λ o x. add_token o x x.kind) o ts) x x.kind
open_snoc [] x o = refl
open_snoc (t ∷ ts) x o = open_snoc ts x (add_token o t t.kind)

plant_head : (h : List QueryToken) (o : Option HeadState) → head_to tree_builder (opening h) o ≡ plant (head_to written h o)
plant_head h None = refl
plant_head h (Some Start) = refl
plant_head h (Some ListDue) = refl
plant_head h (Some Params) = refl
plant_head h (Some FileDue) = refl
plant_head h (Some MatchDue) = refl
plant_head h (Some Over) = refl

abbrev pub StateLeveled : St → Type 0
StateLeveled (Opening h place) = Unit {0}
StateLeveled (Reading h b k) = Leveled k
StateLeveled (Done h b) = Unit {0}
StateLeveled Deep = Unit {0}
StateLeveled Stuck = Unit {0}

pub plant_feed : (l : ℕ) (s : St) (x : QueryToken) → StateLeveled s → feed tree_builder l (plant s) x ≡ plant (feed written l s x)
unfolding feed
plant_feed l (Opening h place) x leveled =
    ap (λ o. head_to tree_builder o (heads place (role x.kind))) (sym (open_snoc h x no_opening))
    ∙ plant_head (h ++ (x ∷ [])) (heads place (role x.kind))
plant_feed l (Reading h b []) x leveled = plant_start l h b [] x (role x.kind)
plant_feed l (Reading h b (Joining v p y j ∷ k)) x leveled = plant_start l h b (Joining v p y j ∷ k) x (role x.kind)
plant_feed l (Reading h b (InRule d ∷ k)) x leveled =
    plant_onward l h b d k x (role x.kind) (goes (end d) (role x.kind)) (whole (end d))
    (after tree_builder l (opening h) (trees b) (level_of (root d)) (node_of (draft d)) (plants k) x (role x.kind))
    (after written l h b (level_of (root d)) (made d) k x (role x.kind))
    (plant_after l h b (level_of (root d)) (made d) k x (role x.kind) leveled)
plant_feed l (Done h b) x leveled = refl
plant_feed l Deep x leveled = refl
plant_feed l Stuck x leveled = refl
