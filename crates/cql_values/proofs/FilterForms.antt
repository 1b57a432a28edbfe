-- Filters that give no square but that of a name.
use Rattle.std.proofs.Common.{◌≡◌, ◌⊎◌, ⊎_elim, ℕ, zero, suc, ◌<◌, ◌==◌, ◌&&◌, Bool, true, false, List, [], ◌∷◌, length, get_or, refl, sym, ap, ◌∙◌, arith}
use Rattle.std.specs.Prelude.{if◌then◌else◌, ◌||◌, nat_lt}
use Rattle.std.specs.List.{list_any, list_all}
use Rattle.std.specs.Str.{bytes_eq}
use Rattle.std.proofs.lemmas.Bool.{eqb-true}
use Rattle.std.proofs.lemmas.Slice.Eq.{bytes_eq-Decides}
use Rattle.cq_geometry.specs.Squares.{squares}
use Rattle.cq_position.specs.Attacks.{attacks}
use Rattle.cq_position.specs.Search.{SearchedTree}
use Rattle.cql_syntax.specs.Meaning.{Names, value, values, is_bound_to, position_at}
use Rattle.cql_syntax.specs.Trees.{FilterTree, filter_at, FilterTrees, name, chain, pair}
use Rattle.cql_syntax.specs.TreeOf.{filter_tree, filter_trees}
use Rattle.cql_syntax.specs.Values.{Value, as_squares, squares_where, holds, has, intersection_of, related}
use Rattle.cql_syntax.specs.declared.leaves.Chain.TheVariants.{Intersect}
use Rattle.cql_syntax.specs.declared.leaves.Pair.TheVariants.{Attacks, AttackedBy}
use Rattle.cql_syntax.specs.declared.leaves.Pair.{Pair}
use Rattle.cql_syntax.specs.declared.tree.Filter.{Filter}
use Rattle.cql_values.specs.FilterForms.{Binds, IsName, GivesOnlyName}

pub own_name : (f : FilterTree) (i : ℕ) (text given : List ℕ) → f ≡ filter_at i (name text) → bytes_eq given text ≡ true → IsName given f
unfolding value
own_name f i text given is same = record {
  each = λ tree e s n. ap (λ g. value tree [] ((given, s) ∷ e) g n) is ∙ ap (λ b. squares_where (λ t. if b then s == t else is_bound_to e text t)) same;
}

-- a set within another, of which it is known that it has no other square than one
first_or : (p : ℕ → Bool) (x : ℕ) (b rest : Bool) → p x ≡ b → (rest ≡ true → (t : ℕ) × (p t ≡ true)) → (b || rest) ≡ true → (t : ℕ) × (p t ≡ true)
first_or p x true rest is later h = (x, is)
first_or p x false rest is later h = later h

pub some_there : (p : ℕ → Bool) (xs : List ℕ) → list_any p xs ≡ true → (t : ℕ) × (p t ≡ true)
some_there p [] h = cc
some_there p (x ∷ xs) h = first_or p x (p x) (list_any p xs) refl (some_there p xs) h

pub own_within : (given : List ℕ) (v w : SearchedTree → Names → ℕ → Value) (p : SearchedTree → Names → ℕ → ℕ → Bool) → ((tree : SearchedTree) (e : Names) (n : ℕ) → v tree e n ≡ as_squares (p tree e n))
    → ((tree : SearchedTree) (e : Names) (n t : ℕ) → p tree e n t ≡ true → has (w tree e n) t ≡ true) → GivesOnlyName given w → GivesOnlyName given v
own_within given v w p is sub own = record {
  only = λ tree e n s t binds h. own.only tree e n s t binds (sub tree e n t (sym (ap (λ x. has x t) (is tree e n)) ∙ h));
  some = λ tree e n s binds h.
      let there = some_there (p tree e n) squares (sym (ap holds (is tree e n)) ∙ h) in
      let same : s ≡ there.0 = own.only tree e n s there.0 binds (sub tree e n there.0 there.1) in
      ap (λ x. has x s) (is tree e n) ∙ ap (p tree e n) same ∙ there.1;
}

both_right : (a b : Bool) → (a && b) ≡ true → b ≡ true
both_right true b e = e
both_right false b e = cc

both_first : (a b : Bool) → (a && b) ≡ true → a ≡ true
both_first true b e = refl
both_first false b e = e

pub all_at : (tree : SearchedTree) (e : Names) (n : ℕ) (test : Value → Bool) (xs : List Filter) (k : ℕ) (f : Filter) → k < length xs → f ≡ get_or xs k f
    → list_all test (values tree [] e (filter_trees xs) n) ≡ true → test (value tree [] e (filter_tree f) n) ≡ true
unfolding value
all_at tree e n test [] k f h is all = absurd (omega (arith, h))
all_at tree e n test (x ∷ xs) zero f h is all =
    ap (λ g. test (value tree [] e (filter_tree g) n)) is ∙ both_first (test (value tree [] e (filter_tree x) n)) (list_all test (values tree [] e (filter_trees xs) n)) all
all_at tree e n test (x ∷ xs) (suc k) f h is all =
    all_at tree e n test xs k f (omega (arith, h)) is (both_right (test (value tree [] e (filter_tree x) n)) (list_all test (values tree [] e (filter_trees xs) n)) all)

pub intersection_own : (given : List ℕ) (xs : List Filter) (k : ℕ) (f : Filter) → k < length xs → f ≡ get_or xs k f → GivesOnlyName given (λ tree e n. value tree [] e (filter_tree f) n)
    → GivesOnlyName given (λ tree e n. intersection_of (values tree [] e (filter_trees xs) n))
intersection_own given xs k f h is own = own_within given (λ tree e n. intersection_of (values tree [] e (filter_trees xs) n)) (λ tree e n. value tree [] e (filter_tree f) n)
    (λ tree e n t. nat_lt t 64 && list_all (λ x. has x t) (values tree [] e (filter_trees xs) n)) (λ tree e n. refl)
    (λ tree e n t all. all_at tree e n (λ x. has x t) xs k f h is (both_right (nat_lt t 64) (list_all (λ x. has x t) (values tree [] e (filter_trees xs) n)) all)) own

-- the squares of a set that are so related to another set
pub related_own : (given : List ℕ) (test : SearchedTree → ℕ → ℕ → ℕ → Bool) (v w : SearchedTree → Names → ℕ → Value) → GivesOnlyName given v → GivesOnlyName given (λ tree e n. related (test tree n) (v tree e n) (w tree e n))
related_own given test v w own = own_within given (λ tree e n. related (test tree n) (v tree e n) (w tree e n)) v
    (λ tree e n t. nat_lt t 64 && (has (v tree e n) t && list_any (λ u. has (w tree e n) u && test tree n t u) squares)) (λ tree e n. refl)
    (λ tree e n t h. both_first (has (v tree e n) t) (list_any (λ u. has (w tree e n) u && test tree n t u) squares)
    (both_right (nat_lt t 64) (has (v tree e n) t && list_any (λ u. has (w tree e n) u && test tree n t u) squares) h)) own

pub own_form : (given : List ℕ) (v w : SearchedTree → Names → ℕ → Value) → ((tree : SearchedTree) (e : Names) (n : ℕ) → v tree e n ≡ w tree e n) → GivesOnlyName given w → GivesOnlyName given v
own_form given v w is own = record {
  only = λ tree e n s t binds h. own.only tree e n s t binds (sym (ap (λ x. has x t) (is tree e n)) ∙ h);
  some = λ tree e n s binds h. ap (λ x. has x s) (is tree e n) ∙ own.some tree e n s binds (sym (ap holds (is tree e n)) ∙ h);
}

texts : (a b : List ℕ) → bytes_eq a b ≡ true → a ≡ b
texts a b same = (bytes_eq-Decides a b).0 same

-- the name itself
pub name_own : (given text : List ℕ) (f : FilterTree) (i : ℕ) → f ≡ filter_at i (name text) → bytes_eq text given ≡ true → GivesOnlyName given (λ tree e n. value tree [] e f n)
unfolding value
name_own given text f i is same = own_form given (λ tree e n. value tree [] e f n) (λ tree e n. squares_where (is_bound_to e given))
    (λ tree e n. ap (λ g. value tree [] e g n) is ∙ ap (λ l. squares_where (is_bound_to e l)) (texts text given same))
    (record {
      only = λ tree e n s t binds h. eqb-true s t (sym (binds t) ∙ both_right (nat_lt t 64) (is_bound_to e given t) h);
      some = λ tree e n s binds h.
          let there = some_there (λ t. nat_lt t 64 && is_bound_to e given t) squares h in
          let at : s ≡ there.0 = eqb-true s there.0 (sym (binds there.0) ∙ both_right (nat_lt there.0 64) (is_bound_to e given there.0) there.1) in
          ap (λ t. nat_lt t 64 && is_bound_to e given t) at ∙ there.1;
    })

pub intersect_own : (given : List ℕ) (f : FilterTree) (i : ℕ) (fs : FilterTrees) → f ≡ filter_at i (chain Intersect fs) → GivesOnlyName given (λ tree e n. intersection_of (values tree [] e fs n))
    → GivesOnlyName given (λ tree e n. value tree [] e f n)
unfolding value
intersect_own given f i fs is own = own_form given (λ tree e n. value tree [] e f n) (λ tree e n. intersection_of (values tree [] e fs n)) (λ tree e n. ap (λ g. value tree [] e g n) is) own

pub attack_own : (given : List ℕ) (f a b : FilterTree) (i : ℕ) (p : Pair) → f ≡ filter_at i (pair p a b) → (p ≡ Attacks) ⊎ (p ≡ AttackedBy) → GivesOnlyName given (λ tree e n. value tree [] e a n)
    → GivesOnlyName given (λ tree e n. value tree [] e f n)
unfolding value
attack_own given f a b i p is which own = ⊎_elim
    (λ same. own_form given (λ tree e n. value tree [] e f n) (λ tree e n. related (attacks (position_at tree n).men) (value tree [] e a n) (value tree [] e b n))
    (λ tree e n. ap (λ g. value tree [] e g n) (is ∙ ap (λ q. filter_at i (pair q a b)) same))
    (related_own given (λ tree n. attacks (position_at tree n).men) (λ tree e n. value tree [] e a n) (λ tree e n. value tree [] e b n) own))
    (λ same. own_form given (λ tree e n. value tree [] e f n) (λ tree e n. related (λ s t. attacks (position_at tree n).men t s) (value tree [] e a n) (value tree [] e b n))
    (λ tree e n. ap (λ g. value tree [] e g n) (is ∙ ap (λ q. filter_at i (pair q a b)) same))
    (related_own given (λ tree n s t. attacks (position_at tree n).men t s) (λ tree e n. value tree [] e a n) (λ tree e n. value tree [] e b n) own))
    which

-- the innermost binding of a name
pub bound_here : (given : List ℕ) (s : ℕ) (e : Names) → Binds ((given, s) ∷ e) given s
bound_here given s e = λ t. ap (λ b. if b then s == t else is_bound_to e given t) ((bytes_eq-Decides given given).1 refl)
