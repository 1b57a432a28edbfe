-- One more value of a list of filters or of the terms of a sum, squares that settle a condition, and a word before a part.
use Rattle.std.proofs.Common.{◌≡◌, ℕ, ◌+◌, ◌<◌, Bool, true, false, not, ◌&&◌, ◌||◌, List, [], ◌∷◌, ◌++◌, map, take, length, get_or, refl, sym, ap, ◌∙◌, cond}
use Rattle.std.specs.Prelude.{if◌then◌else◌}
use Rattle.std.specs.List.{filter, list_any, list_all}
use Rattle.cq_geometry.specs.Squares.{squares}
use Rattle.cq_position.specs.Search.{SearchedTree}
use Rattle.cql_syntax.specs.Contexts.{Context}
use Rattle.cql_syntax.specs.Meaning.{Names, value, values, term_values, position_at, unary_of}
use Rattle.cql_syntax.specs.Trees.{FilterTree, FilterTrees, no_filters, more_filters, with_filter, TermTrees, no_terms, more_terms, with_term}
use Rattle.cql_syntax.specs.TreeOf.{filter_tree, filter_trees, term_trees}
use Rattle.cql_syntax.specs.Values.{Value, as_truth, square_of, has, holds, complement_of, size_of, power_of, light_of, dark_of}
use Rattle.cql_syntax.specs.declared.leaves.Unary.{Unary}
use Rattle.cql_syntax.specs.declared.leaves.Unary.TheVariants.{Not, Complement, Count, Power, Light, Dark, Find, FindUp, Child, Parent}
use Rattle.cql_syntax.specs.declared.tree.Filter.{Filter}
use Rattle.cql_syntax.specs.declared.tree.Term.{Term}
use Rattle.cql_syntax.proofs.Lists.{filter_trees_more, term_trees_more}
use Rattle.cql_values.specs.FilterValues.{settles, unary_result}
use Rattle.cql_values.specs.ValueModel.{as_value, terms_as_values}
use Rattle.cql_values.specs.declared.value.Value.{Value as Kept}

pub map_snoc : {A B : Type 0} (f : A → B) (xs : List A) (x : A) → map f (xs ++ x ∷ []) ≡ map f xs ++ f x ∷ []
map_snoc f [] x = refl
map_snoc f (y ∷ xs) x = ap (λ ys. f y ∷ ys) (map_snoc f xs x)

pub values_snoc : (tree : SearchedTree) (g : Context) (e : Names) (fs : FilterTrees) (f : FilterTree) (n : ℕ) → values tree g e (with_filter fs f) n ≡ values tree g e fs n ++ value tree g e f n ∷ []
unfolding value
values_snoc tree g e no_filters f n = refl
values_snoc tree g e (more_filters x fs) f n = ap (λ vs. value tree g e x n ∷ vs) (values_snoc tree g e fs f n)

pub values_more : (tree : SearchedTree) (g : Context) (e : Names) (n : ℕ) (xs : List Filter) (i : ℕ) (f : Filter) (before later : List Kept) (v : Kept) → i < length xs → f ≡ get_or xs i f
    → map as_value before ≡ values tree g e (filter_trees (take i xs)) n → as_value v ≡ value tree g e (filter_tree f) n → later ≡ before ++ v ∷ []
    → map as_value later ≡ values tree g e (filter_trees (take (i + 1) xs)) n
values_more tree g e n xs i f before later v below is had new more =
    ap (map as_value) more ∙ map_snoc as_value before v ∙ ap (λ vs. vs ++ as_value v ∷ []) had ∙ ap (λ w. values tree g e (filter_trees (take i xs)) n ++ w ∷ []) new
    ∙ sym (values_snoc tree g e (filter_trees (take i xs)) (filter_tree f) n) ∙ sym (ap (λ fs. values tree g e fs n) (filter_trees_more xs i f below is))

pub terms_snoc : (tree : SearchedTree) (g : Context) (e : Names) (ts : TermTrees) (minus : Bool) (f : FilterTree) (n : ℕ)
    → term_values tree g e (with_term ts minus f) n ≡ term_values tree g e ts n ++ (minus, value tree g e f n) ∷ []
unfolding value
terms_snoc tree g e no_terms minus f n = refl
terms_snoc tree g e (more_terms other x ts) minus f n = ap (λ vs. (other, value tree g e x n) ∷ vs) (terms_snoc tree g e ts minus f n)

pub terms_more : (tree : SearchedTree) (g : Context) (e : Names) (n : ℕ) (xs : List Term) (i : ℕ) (t : Term) (before later : List (Bool × Kept)) (v : Kept) → i < length xs → t ≡ get_or xs i t
    → terms_as_values before ≡ term_values tree g e (term_trees (take i xs)) n → as_value v ≡ value tree g e (filter_tree t.filter) n → later ≡ before ++ (t.minus, v) ∷ []
    → terms_as_values later ≡ term_values tree g e (term_trees (take (i + 1) xs)) n
terms_more tree g e n xs i t before later v below is had new more =
    ap terms_as_values more ∙ map_snoc (λ (term : Bool × Kept). (term.0, as_value term.1)) before (t.minus, v) ∙ ap (λ vs. vs ++ (t.minus, as_value v) ∷ []) had
    ∙ ap (λ w. term_values tree g e (term_trees (take i xs)) n ++ (t.minus, w) ∷ []) new
    ∙ sym (terms_snoc tree g e (term_trees (take i xs)) t.minus (filter_tree t.filter) n) ∙ sym (ap (λ ts. term_values tree g e ts n) (term_trees_more xs i t below is))

-- every square of a set passes if none settles the contrary, and some square passes if one settles it
every_kept : (set asked : ℕ → Bool) (xs : List ℕ) → list_all asked (filter set xs) ≡ not (list_any (settles true set asked) xs)
every_kept set asked [] = refl
every_kept set asked (x ∷ xs) = by (set x) (filter set xs) (list_any (settles true set asked) xs) (every_kept set asked xs)
  where
    both : (a found : Bool) → (a && not found) ≡ not (not a || found)
    both true found = refl
    both false found = refl

    by : (s : Bool) (rest : List ℕ) (found : Bool) → list_all asked rest ≡ not found → list_all asked (cond s (x ∷ rest) rest) ≡ not ((s && not (asked x)) || found)
    by true rest found e = ap (λ b. asked x && b) e ∙ both (asked x) found
    by false rest found e = e

some_kept : (set asked : ℕ → Bool) (xs : List ℕ) → list_any asked (filter set xs) ≡ list_any (settles false set asked) xs
some_kept set asked [] = refl
some_kept set asked (x ∷ xs) = by (set x) (filter set xs) (list_any (settles false set asked) xs) (some_kept set asked xs)
  where
    by : (s : Bool) (rest : List ℕ) (found : Bool) → list_any asked rest ≡ found → list_any asked (cond s (x ∷ rest) rest) ≡ ((s && asked x) || found)
    by true rest found e = ap (λ b. asked x || b) e
    by false rest found e = e

-- the value of a condition on squares, by the squares that settle it
pub by_settling : (every : Bool) (x : Value) (asked : ℕ → Bool) (found : Bool) → found ≡ list_any (settles every (has x) asked) squares
    → square_of every x asked ≡ as_truth (if found then not every else every)
by_settling true x asked found e = ap as_truth (every_kept (has x) asked squares ∙ ap not (sym e) ∙ turned found)
  where
    turned : (b : Bool) → not b ≡ (if b then not true else true)
    turned true = refl
    turned false = refl
by_settling false x asked found e = ap as_truth (some_kept (has x) asked squares ∙ sym e ∙ same found)
  where
    same : (b : Bool) → b ≡ (if b then not false else false)
    same true = refl
    same false = refl

-- a word before a part
pub word_here : (tree : SearchedTree) (word : Unary) (v : ℕ → Value) (n : ℕ) (x : Value) → (word ≡ Find → ⊥) → (word ≡ FindUp → ⊥) → (word ≡ Child → ⊥) → (word ≡ Parent → ⊥)
    → x ≡ v n → unary_result (position_at tree n).men word x ≡ unary_of tree word v n
word_here tree Not v n x a b c d is = ap (λ y. as_truth (not (holds y))) is
word_here tree Complement v n x a b c d is = ap complement_of is
word_here tree Count v n x a b c d is = ap size_of is
word_here tree Power v n x a b c d is = ap (power_of (position_at tree n).men) is
word_here tree Light v n x a b c d is = ap light_of is
word_here tree Dark v n x a b c d is = ap dark_of is
word_here tree Find v n x a b c d is = absurd (a refl)
word_here tree FindUp v n x a b c d is = absurd (b refl)
word_here tree Child v n x a b c d is = absurd (c refl)
word_here tree Parent v n x a b c d is = absurd (d refl)
