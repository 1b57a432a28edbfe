-- A sum in one pass is pairs from the left.
use Rattle.std.proofs.Common.{◌≡◌, ◌∙◌, ℕ, Bool, true, false, List, [], ◌∷◌, ◌++◌, ◌+◌, ◌<◌, length, drop, get_or, Some, None, refl, sym, ap, append_assoc}
use Rattle.std.specs.Prelude.{unwrap_or, codes, ◌&&◌, not}
use Rattle.std.proofs.lemmas.List.{append-nil, at_drop_more}
use Rattle.cql_syntax.specs.Trees.{TermTrees, no_terms, more_terms}
use Rattle.cql_syntax.specs.TreeOf.{term_trees}
use Rattle.cql_syntax.specs.declared.tree.Term.{Term}
use Rattle.cql_rewrite.specs.FlatText.{text, in_parens, sign_word, sum_after}
use Rattle.cql_rewrite.specs.Internal.Sums.{opening, openings, term_text, sum_start}

-- the terms, the first of which may be the sum's first
abbrev pub sum_rest : Bool → TermTrees → List ℕ
sum_rest first no_terms = []
sum_rest first (more_terms minus f ts) = term_text (first && not minus) (text f) ++ sum_rest false ts

two_parts : (before t : List ℕ) → (before ++ (codes " " ++ (t ++ []))) ++ codes ")" ≡ before ++ term_text false t
two_parts before t =
    append_assoc before (codes " " ++ (t ++ [])) (codes ")") ∙ ap (λ u. before ++ (codes " " ++ (u ++ codes ")"))) (append-nil t)

pair_is : (minus : Bool) (before t : List ℕ)
    → in_parens (sign_word minus) (before ∷ t ∷ []) ≡ opening minus ++ (before ++ term_text false t)
pair_is true before t = ap (λ l. opening true ++ l) (two_parts before t)
pair_is false before t = ap (λ l. opening false ++ l) (two_parts before t)

regrouped : (o p b c r : List ℕ) → o ++ ((p ++ (b ++ c)) ++ r) ≡ (o ++ p) ++ (b ++ (c ++ r))
regrouped o p b c r =
    ap (λ u. o ++ u) (append_assoc p (b ++ c) r ∙ ap (λ u. p ++ u) (append_assoc b c r)) ∙ sym (append_assoc o p (b ++ (c ++ r)))

after_is : (ts : TermTrees) (before : List ℕ) → sum_after (Some before) ts ≡ Some (openings ts ++ (before ++ sum_rest false ts))
unfolding text
after_is no_terms before = ap Some (sym (append-nil before))
after_is (more_terms minus f ts) before =
    after_is ts (in_parens (sign_word minus) (before ∷ text f ∷ []))
    ∙ ap (λ p. Some (openings ts ++ (p ++ sum_rest false ts))) (pair_is minus before (text f))
    ∙ ap Some (regrouped (openings ts) (opening minus) before (term_text false (text f)) (sum_rest false ts))

pub sum_is : (ts : TermTrees) → sum_start ts ++ sum_rest true ts ≡ unwrap_or (sum_after None ts) (in_parens (sign_word false) [])
unfolding text
sum_is no_terms = refl
sum_is (more_terms false f ts) =
    ap (λ o. o ++ (text f ++ sum_rest false ts)) (append-nil (openings ts))
    ∙ sym (ap (λ x. unwrap_or x (in_parens (sign_word false) [])) (after_is ts (text f)))
sum_is (more_terms true f ts) =
    append_assoc (openings ts) (codes "(- 0") (term_text false (text f) ++ sum_rest false ts)
    ∙ sym (ap (λ x. unwrap_or x (in_parens (sign_word false) [])) (after_is ts (in_parens (sign_word true) (codes "0" ∷ text f ∷ [])))
    ∙ ap (λ p. openings ts ++ (p ++ sum_rest false ts)) (pair_is true (codes "0") (text f)))

-- the opening of one more pair, from the last term on
pub opened : (xs : List Term) (k : ℕ) (x : Term) → k < length xs → x ≡ get_or xs k x
    → openings (term_trees (drop k xs)) ≡ openings (term_trees (drop (k + 1) xs)) ++ opening x.minus
opened xs k x low is =
    at_drop_more (λ l. openings (term_trees l)) xs k x low ∙ sym (ap (λ y. openings (term_trees (drop (k + 1) xs)) ++ opening y.minus) is)
