-- Filters that hold at none of the live nodes of a game.
use Rattle.std.proofs.Common.{◌≡◌, ◌⊎◌, ⊎_elim, ℕ, ◌-◌, ◌^◌, ◌<◌, ◌&&◌, ◌||◌, not, nat_lt, Bool, true, false, List, [], ◌∷◌, ◌++◌, Some, zero, suc, get_or, take, drop, length, refl, sym, ap, ◌∙◌, subst, arith}
use Rattle.std.specs.Prelude.{bit_and}
use Rattle.std.specs.List.{list_all}
use Rattle.std.proofs.lemmas.Bool.{lt-ltb}
use Rattle.cq_position.specs.Men.{man_number}
use Rattle.cq_position.specs.Board.{man_at}
use Rattle.cq_position.specs.Search.{SearchedTree}
use Rattle.cq_position.specs.declared.men.Man.{Man}
use Rattle.cq_symmetry.specs.Images.{is_in}
use Rattle.cql_syntax.specs.Meaning.{Names, value, values, position_at, standing_of}
use Rattle.cql_syntax.specs.TreeOf.{filter_tree, filter_trees}
use Rattle.cql_syntax.specs.Contexts.{designator_image}
use Rattle.cql_syntax.specs.Trees.{FilterTree, FilterTrees, filter_at, designator, chain}
use Rattle.cql_syntax.specs.Values.{holds, has, all_hold, chain_of}
use Rattle.cql_syntax.specs.declared.leaves.Chain.{Chain}
use Rattle.cql_syntax.specs.declared.leaves.Chain.TheVariants.{And, All}
use Rattle.cql_syntax.specs.declared.leaves.Designator.{Designator}
use Rattle.cql_syntax.specs.declared.tree.Filter.{Filter}
use Rattle.cql_values.proofs.Masks.{in_both, nothing_in, is_in_bit, all_squares}
use Rattle.cql_values.proofs.Ranges.{left, right, both, square_found}
use Rattle.cql_columns.specs.SquareTrials.{CoverSquares}
use Rattle.cql_columns.specs.Columns.{is_live, IsNodeSet, AreSets, Where}
use Rattle.cql_values.specs.ValueModel.{as_value}
use Rattle.cql_values.specs.declared.value.Value.TheVariants.{Set}
use Rattle.cql_columns.proofs.Filling.{both_left}
use Rattle.cql_columns.proofs.Keeping.{written}
use Rattle.cql_candidates.specs.Classes.{is_as_wanted_if, IsLeft}
use Rattle.cql_candidates.specs.Occupancy.{men_on_any_square, IsOccupancy, AreOccupancies, HoldsNowhere}
use Rattle.cql_candidates.specs.Internal.Designators.{StandsNowhere}
use Rattle.cql_candidates.specs.declared.ever_standing.Occupancy.{Occupancy}

never : (b : Bool) → (b ≡ true → ⊥) → b ≡ false
never true f = absurd (f refl)
never false f = refl

-- a man of the designator on a square of it is on one of the squares gathered for these men
pub nowhere : (men : List Man) (d : Designator) (squares : ℕ) → ((s : ℕ) → has (standing_of men (Some (men_on_any_square d.men))) s ≡ true → is_in squares s ≡ true)
    → bit_and squares d.part.squares ≡ 0 → holds (standing_of men (Some d)) ≡ false
nowhere men d squares ever none = never (holds (standing_of men (Some d))) (λ h. let found = square_found (has (standing_of men (Some d))) h in on found.k (omega (arith, found.high)) found.passes)
  where
    on : (s : ℕ) → s < 64 → has (standing_of men (Some d)) s ≡ true → ⊥
    on s low h =
        let stands = right (nat_lt s 64) (is_in d.part.squares s && is_in d.men (man_number (man_at men s))) h in
        let named = left (is_in d.part.squares s) (is_in d.men (man_number (man_at men s))) stands in
        let there = right (is_in d.part.squares s) (is_in d.men (man_number (man_at men s))) stands in
        let board = lt-ltb s 64 low in
        let whole = is_in_bit (2 ^ 64 - 1) s true (all_squares.bit s low) in
        let seen = ever s (both (nat_lt s 64) (is_in (2 ^ 64 - 1) s && is_in d.men (man_number (man_at men s))) board
        (both (is_in (2 ^ 64 - 1) s) (is_in d.men (man_number (man_at men s))) whole there)) in
        let meet : is_in (bit_and squares d.part.squares) s ≡ true = in_both squares d.part.squares s ∙ both (is_in squares s) (is_in d.part.squares s) seen named in
        let no : true ≡ false = sym meet ∙ ap (λ x. is_in x s) none ∙ nothing_in s in
        cc

-- of a designator of just these men, none of whose squares is among those
pub without : (tree : SearchedTree) (live : List Bool) (e : Occupancy) (d : Designator) → e.men ≡ d.men → bit_and e.squares d.part.squares ≡ 0
    → IsOccupancy tree live e → StandsNowhere tree live d
without tree live e d same none is = λ n l.
    nowhere (position_at tree n).men d e.squares
    (λ s h. is.among.each n s l (subst (λ men. has (standing_of (position_at tree n).men (Some (men_on_any_square men))) s ≡ true) (sym same) h)) none

-- of a filter that is such a designator
pub designator_nowhere : (tree : SearchedTree) (live : List Bool) (e : Names) (f : FilterTree) (i : ℕ) (d : Designator) → f ≡ filter_at i (designator d)
    → StandsNowhere tree live d → HoldsNowhere tree live e f
unfolding value designator_image
designator_nowhere tree live e f i d is fails = λ n l. ap (λ g. holds (value tree [] e g n)) is ∙ fails n l

-- of filters that must all hold
pub chain_nowhere : (tree : SearchedTree) (live : List Bool) (e : Names) (f : FilterTree) (i : ℕ) (c : Chain) (fs : FilterTrees) → f ≡ filter_at i (chain c fs)
    → (c ≡ And) ⊎ (c ≡ All) → Where live (λ n. holds (all_hold (values tree [] e fs n)) ≡ false) → HoldsNowhere tree live e f
unfolding value
chain_nowhere tree live e f i c fs is which fails = λ n l.
    ap (λ g. holds (value tree [] e g n)) is
    ∙ ⊎_elim (λ same. ap (λ k. holds (chain_of k (values tree [] e fs n))) same) (λ same. ap (λ k. holds (chain_of k (values tree [] e fs n))) same) which ∙ fails n l

-- the squares of these men on any square at each node, and squares among which are all of those
pub ever_is : (tree : SearchedTree) (live : List Bool) (d : Designator) (men squares : ℕ) (sets : List ℕ) → d ≡ men_on_any_square men
    → AreSets sets live (λ n. standing_of (position_at tree n).men (Some d)) → CoverSquares (λ n. as_value (Set (get_or sets n 0))) live squares
    → CoverSquares (λ n. standing_of (position_at tree n).men (Some (men_on_any_square men))) live squares
ever_is tree live d men squares sets same are wanted = record {
  each = λ n s l h. wanted.each n s l
      (subst (λ v. has v s ≡ true) (sym (are n l)) (subst (λ x. has (standing_of (position_at tree n).men (Some x)) s ≡ true) (sym same) h));
}

pub ever_sets : (tree : SearchedTree) (live : List Bool) (d : Designator) (men : ℕ) (sets : List ℕ) → d ≡ men_on_any_square men
    → AreSets sets live (λ n. standing_of (position_at tree n).men (Some d)) → AreSets sets live (λ n. standing_of (position_at tree n).men (Some (men_on_any_square men)))
ever_sets tree live d men sets same are = λ n l. are n l ∙ ap (λ x. standing_of (position_at tree n).men (Some x)) same

-- at fewer nodes
pub ever_among : (tree : SearchedTree) (live left : List Bool) (occupancies : List Occupancy) → ((n : ℕ) → is_live left n ≡ true → is_live live n ≡ true) → AreOccupancies tree live occupancies → AreOccupancies tree left occupancies
ever_among tree live left occupancies some are = λ k d low. record {
  among = record { each = λ n s l h. (are k d low).among.each n s (some n l) h };
  sets = λ n l. (are k d low).sets n (some n l);
}

pub ever_fewer : (tree : SearchedTree) (live left : List Bool) (test : ℕ → Bool) (occupancies : List Occupancy) → IsLeft tree live test left → AreOccupancies tree live occupancies → AreOccupancies tree left occupancies
ever_fewer tree live left test occupancies is are = ever_among tree live left occupancies (λ n l. both_left (is_live live n) (test n) (sym (is.each n) ∙ l)) are

pub ever_begun : (tree : SearchedTree) (live left : List Bool) (occupancies given : List Occupancy) → left ≡ live → given ≡ occupancies → AreOccupancies tree live occupancies → AreOccupancies tree left given
ever_begun tree live left occupancies given same is are = subst (λ l. AreOccupancies tree l given) (sym same) (subst (AreOccupancies tree live) (sym is) are)

pub ever_later : (tree : SearchedTree) (left given later : List Bool) (test : ℕ → Bool) (occupancies : List Occupancy) (len : ℕ) → len ≡ length later → given ≡ left → IsLeft tree given test later
    → AreOccupancies tree left occupancies → AreOccupancies tree (take len (later ++ drop (length later) left)) occupancies
ever_later tree left given later test occupancies len count is asked are = subst (λ l. AreOccupancies tree l occupancies) (sym (written len later left count))
    (ever_fewer tree given later test occupancies asked (subst (λ l. AreOccupancies tree l occupancies) (sym is) are))

-- some filters together hold nowhere if one of them does
pub one_fails : (tree : SearchedTree) (e : Names) (n : ℕ) (xs : List Filter) (i : ℕ) (f : Filter) → i < length xs → f ≡ get_or xs i f → holds (value tree [] e (filter_tree f) n) ≡ false
    → list_all holds (values tree [] e (filter_trees xs) n) ≡ false
unfolding value
one_fails tree e n [] i f low is fails = absurd (omega (arith, low))
one_fails tree e n (x ∷ xs) zero f low is fails =
    ap (λ b. b && list_all holds (values tree [] e (filter_trees xs) n)) (ap (λ y. holds (value tree [] e (filter_tree y) n)) (sym is) ∙ fails)
one_fails tree e n (x ∷ xs) (suc i) f low is fails =
    ap (λ b. holds (value tree [] e (filter_tree x) n) && b) (one_fails tree e n xs i f (omega (arith, low)) is fails) ∙ and_false (holds (value tree [] e (filter_tree x) n))
  where
    and_false : (b : Bool) → (b && false) ≡ false
    and_false true = refl
    and_false false = refl

-- a filter that holds nowhere removes no node
pub left_unasked : (taken : FilterTree → Bool) (tree : SearchedTree) (e : Names) (f : FilterTree) (live : List Bool) → IsNodeSet tree live → HoldsNowhere tree live e f
    → IsLeft tree live (is_as_wanted_if taken tree e false f) live
left_unasked taken tree e f live asked nowhere = record {
  asked = asked;
  each = λ n. by (is_live live n) (holds (value tree [] e f n)) (taken f) (nowhere n);
}
  where
    by : (a h t : Bool) → (a ≡ true → h ≡ false) → a ≡ (a && (not t || not h))
    by false h t fails = refl
    by true h t fails = or_true (not t) ∙ ap (λ x. not t || not x) (sym (fails refl))
      where
        or_true : (b : Bool) → true ≡ (b || true)
        or_true true = refl
        or_true false = refl
