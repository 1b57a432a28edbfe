-- The value of a form, by the values of its parts.
use Rattle.std.proofs.Common.{◌≡◌, ℕ, Bool, List, [], refl, ap, ap₂, ◌∙◌}
use Rattle.std.specs.Prelude.{is_some}
use Rattle.cq_position.specs.Games.{node_at}
use Rattle.cq_position.specs.Search.{SearchedTree}
use Rattle.cql_syntax.specs.Meaning.{Names, value, values, played_value, unary_of, directions_of}
use Rattle.cql_syntax.specs.Trees.{FilterTree, FilterTrees, PlayedTree, filter_at, unary, direction, chain, pair, if_, played, sort, any}
use Rattle.cql_syntax.specs.Values.{Value, amount, any_of, as_truth, chain_of, if_of, pair_of, reached_of}
use Rattle.cql_syntax.specs.declared.leaves.Chain.{Chain}
use Rattle.cql_syntax.specs.declared.leaves.Kind.{Kind}
use Rattle.cql_syntax.specs.declared.leaves.Pair.{Pair}
use Rattle.cql_syntax.specs.declared.leaves.Unary.{Unary}
use Rattle.cql_syntax.specs.declared.leaves.Way.{Way}

module _ (tree : SearchedTree) (e : Names) (n at : ℕ) where
  pub unary_value : (u : Unary) (a : FilterTree) → unary_of tree u (value tree [] e a) n ≡ value tree [] e (filter_at at (unary u a)) n
  unfolding value
  unary_value u a = refl

  pub steps_value : (way : Way) (least most : ℕ) (a : FilterTree) (x : Value) → x ≡ value tree [] e a n
      → reached_of (directions_of way) least most x ≡ value tree [] e (filter_at at (direction way least most a)) n
  unfolding value
  steps_value way least most a x of_a = ap (reached_of (directions_of way) least most) of_a

  pub chain_value : (c : Chain) (fs : FilterTrees) → chain_of c (values tree [] e fs n) ≡ value tree [] e (filter_at at (chain c fs)) n
  unfolding value
  chain_value c fs = refl

  pub pair_value : (p : Pair) (a b : FilterTree) (x y : Value) → x ≡ value tree [] e a n → y ≡ value tree [] e b n
      → pair_of (node_at tree.game.nodes n).position.men p x y ≡ value tree [] e (filter_at at (pair p a b)) n
  unfolding value
  pair_value p a b x y of_a of_b = ap₂ (pair_of (node_at tree.game.nodes n).position.men p) of_a of_b

  pub if_value : (a b c : FilterTree) (x y z : Value) → x ≡ value tree [] e a n → y ≡ value tree [] e b n → z ≡ value tree [] e c n
      → if_of x y z ≡ value tree [] e (filter_at at (if_ a b c)) n
  unfolding value
  if_value a b c x y z of_a of_b of_c = ap₂ (λ v w. if_of v w z) of_a of_b ∙ ap (if_of (value tree [] e a n) (value tree [] e b n)) of_c

  pub move_value : (p : PlayedTree) (met : Bool) → met ≡ played_value tree [] e p n → as_truth met ≡ value tree [] e (filter_at at (played p)) n
  unfolding value
  move_value p met is = ap as_truth is

  pub sort_value : (least : Bool) (text : List ℕ) (a : FilterTree) (x : Value) → x ≡ value tree [] e a n
      → as_truth (is_some (amount x)) ≡ value tree [] e (filter_at at (sort least text a)) n
  unfolding value
  sort_value least text a x of_a = ap (λ v. as_truth (is_some (amount v))) of_a

  pub any_value : (k : Kind) (fs : FilterTrees) → any_of k (values tree [] e fs n) ≡ value tree [] e (filter_at at (any k fs)) n
  unfolding value
  any_value k fs = refl
