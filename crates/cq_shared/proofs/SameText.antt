-- The text of a filter does not depend on its places.
use Rattle.std.proofs.Common.{◌≡◌, ℕ, Bool, true, false, List, [], ◌∷◌, Option, None, Some, refl, sym, ap, ap₂, ◌∙◌}
use Rattle.cql_rewrite.specs.FlatText.{in_parens, in_move, with_term_text, quoted, marked_text, chain_word, pair_word, square_word, sort_word, any_word, line_start, text, form_text, texts, sum_after, part_texts, body_text, written_text, items_text, sign_word}
use Rattle.cql_syntax.specs.Trees.{FilterTree, filter_at, FormTree, designator, number, name, plain, tagged, outcome, elo, unary, direction, chain, sum_of, pair, if_, square, line, played, transform, sort, comment, any, FilterTrees, no_filters, more_filters, TermTrees, no_terms, more_terms, path, move_of, WrittenTree, left_out, written, PartTrees, no_parts, more_parts, BodyTree, atom, group}
use Rattle.cql_syntax.specs.Unplaced.{with_places, form_with, all_with, terms_with, written_with, parts_with, body_with, unplaced, same_unplaced}
use Rattle.cql_syntax.specs.Words.{word_text, unary_text, way_text, family_text}
use Rattle.cql_syntax.specs.declared.words.Word.TheVariants as meanings
use Rattle.std.specs.Fmt.{decimal}
use Rattle.std.specs.Prelude.{unwrap_or, codes, ◌++◌}
use Rattle.cql_syntax.proofs.SameSound.{filter_is}
use Rattle.cql_plan.specs.Replacements.{alone}

module _ (p : Bool) where
  mutual
    unfolding text with_places

    text_same : (f : FilterTree) → text (with_places p f) ≡ text f
    text_same (filter_at at f) = form_text_same f

    form_text_same : (f : FormTree) → form_text (form_with p f) ≡ form_text f
    form_text_same (designator d) = refl
    form_text_same (number n) = refl
    form_text_same (name bound) = refl
    form_text_same (plain word) = refl
    form_text_same (tagged field value) = refl
    form_text_same (outcome o) = refl
    form_text_same (elo whose) = refl
    form_text_same (unary u f) = ap (λ t. in_parens (unary_text u) (t ∷ [])) (text_same f)
    form_text_same (direction way m n f) = ap (λ t. in_parens (way_text way) (decimal m ∷ decimal n ∷ t ∷ [])) (text_same f)
    form_text_same (chain c fs) = ap (in_parens (chain_word c)) (texts_same fs)
    form_text_same (sum_of ts) = ap (λ t. unwrap_or t (in_parens (sign_word false) [])) (sum_same None ts)
    form_text_same (pair c f g) = ap₂ (λ s t. in_parens (pair_word c) (s ∷ t ∷ [])) (text_same f) (text_same g)
    form_text_same (if_ f g h) =
        ap₂ (λ s t. in_parens (word_text meanings.If) (s ∷ t ∷ text (with_places p h) ∷ [])) (text_same f) (text_same g)
        ∙ ap (λ t. in_parens (word_text meanings.If) (text f ∷ text g ∷ t ∷ [])) (text_same h)
    form_text_same (square every bound f g) = ap₂ (λ s t. in_parens (square_word every) (bound ∷ s ∷ t ∷ [])) (text_same f) (text_same g)
    form_text_same (line (path back primary extent cs)) = ap (in_parens (line_start primary extent back)) (part_texts_same cs)
    form_text_same (played (move_of origin goal taken promoted)) =
        ap₂ (λ a b. in_move a b (written_text (written_with p taken)) (written_text (written_with p promoted))) (written_same origin) (written_same goal)
        ∙ ap₂ (λ a b. in_move (written_text origin) (written_text goal) a b) (written_same taken) (written_same promoted)
    form_text_same (transform t f) = ap (λ x. in_parens (family_text t) (x ∷ [])) (text_same f)
    form_text_same (sort least title f) = ap (λ t. in_parens (sort_word least) (quoted title ∷ t ∷ [])) (text_same f)
    form_text_same (comment note) = refl
    form_text_same (any kind fs) = ap (in_parens (any_word kind)) (texts_same fs)

    texts_same : (fs : FilterTrees) → texts (all_with p fs) ≡ texts fs
    texts_same no_filters = refl
    texts_same (more_filters f fs) = ap₂ (λ t ts. t ∷ ts) (text_same f) (texts_same fs)

    sum_same : (before : Option (List ℕ)) (ts : TermTrees) → sum_after before (terms_with p ts) ≡ sum_after before ts
    sum_same before no_terms = refl
    sum_same before (more_terms minus f ts) =
        ap (λ t. sum_after (Some (with_term_text before minus t)) (terms_with p ts)) (text_same f) ∙ sum_same (Some (with_term_text before minus (text f))) ts

    part_texts_same : (cs : PartTrees) → part_texts (parts_with p cs) ≡ part_texts cs
    part_texts_same no_parts = refl
    part_texts_same (more_parts body mark cs) = ap₂ (λ t ts. marked_text mark t ∷ ts) (body_same body) (part_texts_same cs)

    body_same : (b : BodyTree) → body_text (body_with p b) ≡ body_text b
    body_same (atom f) = text_same f
    body_same (group cs) = ap (in_parens (codes "seq")) (part_texts_same cs)

    written_same : (w : WrittenTree) → written_text (written_with p w) ≡ written_text w
    written_same left_out = refl
    written_same (written f) = ap Some (text_same f)

-- filters that are the same but for their places have one text
pub one_text : (f g : FilterTree) → same_unplaced f g ≡ true → items_text (alone f) ≡ items_text (alone g)
unfolding text
one_text f g same =
    ap (λ t. t ++ []) (sym (text_same false f) ∙ ap text (filter_is (unplaced f) (unplaced g) same) ∙ text_same false g)
