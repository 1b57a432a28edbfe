-- The test, square by square, that a man on the square attacks one of a designator.
use Rattle.std.proofs.Common.{◌≡◌, ℕ, ◌<◌, Bool, true, false, not, ◌&&◌, ◌==◌, List, [], ◌∷◌, length, get_or, Option, None, Some, refl, sym, ap, ap₂, ◌∙◌, arith}
use Rattle.std.specs.Prelude.{nat_lt, IfSome, if◌then◌else◌}
use Rattle.std.proofs.lemmas.Bool.{lt-ltb}
use Rattle.std.specs.List.{list_any}
use Rattle.cq_geometry.specs.Squares.{squares}
use Rattle.cq_position.specs.Attacks.{attacks}
use Rattle.cq_position.specs.Search.{SearchedTree}
use Rattle.cq_position.proofs.Attackers.{any_pick}
use Rattle.cql_syntax.specs.Contexts.{designator_image}
use Rattle.cql_syntax.specs.Meaning.{Names, value, values, position_at, standing_of}
use Rattle.cql_syntax.specs.Trees.{FilterTree, filter_at, FilterTrees, more_filters, no_filters, pair, chain, designator}
use Rattle.cql_syntax.specs.TreeOf.{filter_tree, filter_trees}
use Rattle.cql_syntax.specs.Values.{Value, as_truth, holds, has, related, square_of, chain_of}
use Rattle.cql_syntax.specs.declared.leaves.Chain.TheVariants.{All}
use Rattle.cql_syntax.specs.declared.leaves.Designator.{Designator}
use Rattle.cql_syntax.specs.declared.leaves.Pair.TheVariants.{Attacks}
use Rattle.cql_syntax.specs.declared.tree.Filter.{Filter}
use Rattle.cql_values.specs.FilterValues.{settles}
use Rattle.cql_values.proofs.Evaluated.{by_settling}
use Rattle.cql_values.proofs.Ranges.{same_any}
use Rattle.cql_values.specs.FilterForms.{IsName}
use Rattle.cql_candidates.specs.NameAttacks.{TestsAttack, IsOnly}
use Rattle.cql_candidates.specs.Internal.Designators.{IsDesignated}

on_board : (s : ℕ) → s < 64 → nat_lt s 64 ≡ true
on_board s low = lt-ltb s 64 low

only_same : (b h r : Bool) → b ≡ true → (b && ((b && h) && r)) ≡ (r && h)
only_same true true true e = refl
only_same true true false e = refl
only_same true false true e = refl
only_same true false false e = refl
only_same false h r e = cc

-- of a set of one square
one_square : (r : ℕ → Bool) (s : ℕ) → s < 64 → list_any (λ u. nat_lt u 64 && ((nat_lt u 64 && s == u) && r u)) squares ≡ r s
one_square r s low =
    same_any (λ u. nat_lt u 64 && ((nat_lt u 64 && s == u) && r u)) (λ u. r u && s == u) (λ u h. only_same (nat_lt u 64) (s == u) (r u) (on_board u h)) ∙ any_pick r s low

pub designated : (f : FilterTree) (i : ℕ) (d : Designator) → f ≡ filter_at i (designator d) → IsDesignated d f
unfolding value designator_image
designated f i d is = record { each = λ tree e n. ap (λ g. value tree [] e g n) is }

pub pair_asks : (given : List ℕ) (d : Designator) (f a b : FilterTree) (i : ℕ) → f ≡ filter_at i (pair Attacks a b) → IsName given a → IsDesignated d b → TestsAttack given d f
unfolding value
pair_asks given d f a b i is own goals = record {
  each = λ tree e s n low. ap (λ g. holds (value tree [] ((given, s) ∷ e) g n)) is
      ∙ ap₂ (λ x y. holds (related (attacks (position_at tree n).men) x y)) (own.each tree e s n) (goals.each tree ((given, s) ∷ e) n)
      ∙ one_square (λ u. list_any (λ t. has (standing_of (position_at tree n).men (Some d)) t && attacks (position_at tree n).men u t) squares) s low;
}

pub some_both : {A : Type 0} (r : Option A) (P Q R : A → Type 0) → ((x : A) → P x → Q x → R x) → IfSome r P → IfSome r Q → IfSome r R
some_both None P Q R f p q = q
some_both (Some x) P Q R f p q = f x p q

pub and_true : (b : Bool) → (b && true) ≡ b
and_true true = refl
and_true false = refl

pub chain_asks : (given : List ℕ) (d : Designator) (f : FilterTree) (i : ℕ) (fs : FilterTrees) → f ≡ filter_at i (chain All fs) → IsOnly (TestsAttack given d) fs → TestsAttack given d f
unfolding value
chain_asks given d f i fs is one = record {
  each = λ tree e s n low. ap (λ g. holds (value tree [] ((given, s) ∷ e) g n)) is
      ∙ ap (λ gs. holds (chain_of All (values tree [] ((given, s) ∷ e) gs n))) one.are
      ∙ and_true (holds (value tree [] ((given, s) ∷ e) one.only n)) ∙ one.is.each tree e s n low;
}

pub only_one : (P : FilterTree → Type 0) (l : List Filter) (x : Filter) → length l ≡ 1 → x ≡ get_or l 0 x → P (filter_tree x) → IsOnly P (filter_trees l)
only_one P [] x long is holds = absurd (omega (arith, long))
only_one P (y ∷ []) x long is holds = record { only = filter_tree x; are = ap (λ z. more_filters (filter_tree z) no_filters) (sym is); is = holds }
only_one P (y ∷ z ∷ l) x long is holds = absurd (omega (arith, long))

here_alone : (b x r : Bool) → b ≡ true → (b && (x && r)) ≡ (x && r)
here_alone true x r e = refl
here_alone false x r e = cc

-- some square of a set is such that a man on it attacks one of the designator's
pub attack_is : (tree : SearchedTree) (e : Names) (given : List ℕ) (d : Designator) (every : Bool) (x : Value) (f : FilterTree) (n : ℕ) → every ≡ false → TestsAttack given d f
    → as_truth (holds (related (attacks (position_at tree n).men) x (standing_of (position_at tree n).men (Some d))))
    ≡ square_of every x (λ s. holds (value tree [] ((given, s) ∷ e) f n))
attack_is tree e given d true x f n some asks = cc
attack_is tree e given d false x f n some asks = sym (by_settling false x asked found is ∙ converse found)
  where
    asked : ℕ → Bool
    asked s = holds (value tree [] ((given, s) ∷ e) f n)

    found : Bool
    found = holds (related (attacks (position_at tree n).men) x (standing_of (position_at tree n).men (Some d)))

    reach : ℕ → Bool
    reach s = list_any (λ t. has (standing_of (position_at tree n).men (Some d)) t && attacks (position_at tree n).men s t) squares

    is : found ≡ list_any (settles false (has x) asked) squares
    is = same_any (λ s. nat_lt s 64 && (has x s && reach s)) (settles false (has x) asked)
        (λ s low. here_alone (nat_lt s 64) (has x s) (reach s) (on_board s low) ∙ ap (λ b. has x s && b) (sym (asks.each tree e s n low)))

    converse : (b : Bool) → as_truth (if b then not false else false) ≡ as_truth b
    converse true = refl
    converse false = refl
