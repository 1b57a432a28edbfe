-- The way up from a node to an ancestor, reversed, is the path down.
use Rattle.std.proofs.Common.{◌≡◌, ℕ, ◌<◌, Bool, true, false, List, [], ◌∷◌, ◌++◌, length, Option, Some, None, refl, sym, ap, ap₂, ◌∙◌, subst, arith, eqb-true}
use Rattle.std.specs.Prelude.{reverse, ◌||◌, ◌==◌, Contains, IsNone, ◌↔◌}
use Rattle.std.specs.Option.{is_some}
use Rattle.std.specs.List.{last_or, list_any}
use Rattle.std.proofs.lemmas.Bool.{false_from_ne_true, eq-eqb}
use Rattle.std.proofs.lemmas.List.{reverse-append}
use Rattle.std.proofs.lemmas.List.Elements.{Contains-append_left, Contains-append_right}
use Rattle.cq_position.specs.Games.{Game, node_at, way_up, is_below, up_from, IsTree}
use Rattle.cq_position.specs.Search.{SearchedTree, IsStep, Along, IsDownPath}
use Rattle.cq_position.proofs.Ancestors.{way_step, way_head, reaches}
use Rattle.cq_position.proofs.Trees.{tree_first}

abbrev pub all_of : Game → SearchedTree
all_of g = record { game = g; variations = true }

-- from the node that is reached, the nodes that were passed lead down to the one from which the way set out
pub record HasClimbed (g : Game) (from to at : ℕ) (passed : List ℕ) : Type 0 where
  pub within : at < length g.nodes
  pub goes : Along (IsStep (all_of g) false false) at (reverse passed)
  pub ends : last_or (Some at) (reverse passed) ≡ Some to
  pub below : is_below g.nodes from to ≡ is_below g.nodes from at

pub sets_out : (g : Game) (from to : ℕ) → to < length g.nodes → HasClimbed g from to to []
sets_out g from to h = record { within = h; goes = tt; ends = refl; below = refl }

turned : (passed : List ℕ) (at : ℕ) → reverse (passed ++ at ∷ []) ≡ at ∷ reverse passed
turned passed at = reverse-append passed (at ∷ [])

pub climbs : (g : Game) (from to at p : ℕ) (passed new : List ℕ) → IsTree g.nodes → from < at → (node_at g.nodes at).parent ≡ Some p → p < length g.nodes → new ≡ passed ++ at ∷ []
    → HasClimbed g from to at passed → HasClimbed g from to p new
climbs g from to at p passed new tree h parent within is climbed =
    let turn : reverse new ≡ at ∷ reverse passed = ap reverse is ∙ turned passed at in
    record {
      within = within;
      goes = subst (Along (IsStep (all_of g) false false) p) (sym turn) (record { child = parent; is_in = refl; first = λ e. absurd cc }, climbed.goes);
      ends = ap (last_or (Some p)) turn ∙ climbed.ends;
      below = climbed.below
          ∙ ap (list_any (λ m. m == from)) (way_step g.nodes (tree_first g.nodes tree) at p parent)
          ∙ ap (λ t. t || is_below g.nodes from p) (false_from_ne_true (at == from) (λ e. let same = eqb-true at from e in omega (arith, same, h)));
    }

none_of : (f : ℕ → Bool) (xs : List ℕ) → ((m : ℕ) → Contains xs m → f m ≡ false) → list_any f xs ≡ false
none_of f [] each = refl
none_of f (x ∷ xs) each = ap₂ (λ a b. a || b) (each x (Contains-append_left (x ∷ []) xs x (0, omega arith, refl))) (none_of f xs (λ m on. each m (Contains-append_right (x ∷ []) xs m on)))

-- a way that passed by the number is not below it
pub passed_by : {A : Type 0} (r : Option A) (g : Game) (from to at : ℕ) (passed : List ℕ) → r ≡ None → IsTree g.nodes → at < from → HasClimbed g from to at passed
    → IsNone r ↔ (is_below g.nodes from to ≡ false)
passed_by r g from to at passed r_is tree h climbed = (
  λ none. climbed.below ∙ none_of (λ m. m == from) (way_up g.nodes at)
      (λ m on. let less = (reaches g.nodes (tree_first g.nodes tree) at m on).less in
      false_from_ne_true (m == from) (λ e. let same = eqb-true m from e in omega (arith, same, less, h))),
  λ is. ap is_some r_is,
)

self_below : (g : Game) (from : ℕ) → IsTree g.nodes → is_below g.nodes from from ≡ true
self_below g from tree =
    ap (list_any (λ m. m == from)) (way_head g.nodes (tree_first g.nodes tree) from)
    ∙ ap (λ t. t || list_any (λ m. m == from) (up_from from g.nodes (node_at g.nodes from).parent)) (eq-eqb from from refl)

pub arrives : (g : Game) (from to at : ℕ) (passed new path : List ℕ) → at ≡ from → HasClimbed g from to at passed → new ≡ passed ++ from ∷ [] → path ≡ reverse new → IsDownPath g from to path
arrives g from to at passed new path here climbed new_is path_is =
    let is : path ≡ from ∷ reverse passed = path_is ∙ ap reverse new_is ∙ turned passed from in
    record {
      goes = record { later = reverse passed; begins = is; goes = subst (λ n. Along (IsStep (all_of g) false false) n (reverse passed)) here climbed.goes };
      ends = ap (last_or None) is ∙ subst (λ n. last_or (Some n) (reverse passed) ≡ Some to) here climbed.ends;
    }

pub is_found : {A : Type 0} (r : Option A) (x : A) (g : Game) (from to at : ℕ) (passed : List ℕ) → r ≡ Some x → IsTree g.nodes → at ≡ from → HasClimbed g from to at passed
    → IsNone r ↔ (is_below g.nodes from to ≡ false)
is_found r x g from to at passed r_is tree here climbed = (
  λ none. absurd (let e : true ≡ false = sym (ap is_some r_is) ∙ none in cc),
  λ is. absurd (let e : true ≡ false = sym (climbed.below ∙ ap (is_below g.nodes from) here ∙ self_below g from tree) ∙ is in cc),
)
