-- The texts of filters in a row.
use Rattle.std.proofs.Common.{◌≡◌, ℕ, zero, suc, ◌-◌, ◌<◌, ◌/◌, ◌%◌, List, [], ◌∷◌, ◌++◌, refl, ap, ◌∙◌, arith, append_assoc}
use Rattle.cql_syntax.specs.Trees.{FilterTree, FilterTrees, no_filters, more_filters, PartTrees, no_parts, more_parts, BodyTree, with_filter, with_part}
use Rattle.cql_syntax.specs.declared.leaves.Mark.{Mark}
use Rattle.cql_rewrite.specs.FlatText.{text, texts, part_texts, body_text, marked_text, hexadecimal, hexadecimal_digit}

pub texts_snoc : (fs : FilterTrees) (f : FilterTree) → texts (with_filter fs f) ≡ texts fs ++ text f ∷ []
unfolding text
texts_snoc no_filters f = refl
texts_snoc (more_filters x fs) f = ap (λ ts. text x ∷ ts) (texts_snoc fs f)

pub part_texts_snoc : (cs : PartTrees) (body : BodyTree) (mark : Mark) → part_texts (with_part cs body mark) ≡ part_texts cs ++ marked_text mark (body_text body) ∷ []
unfolding text
part_texts_snoc no_parts body mark = refl
part_texts_snoc (more_parts x m cs) body mark = ap (λ ts. marked_text m (body_text x) ∷ ts) (part_texts_snoc cs body mark)

digits_more : (old : List ℕ) (count n : ℕ) → (old ++ hexadecimal count (n / 16)) ++ hexadecimal_digit (n % 16) ∷ [] ≡ old ++ hexadecimal (suc count) n
digits_more old count n = append_assoc old (hexadecimal count (n / 16)) (hexadecimal_digit (n % 16) ∷ [])

pub hexadecimal_more : (old : List ℕ) (count n : ℕ) → 0 < count → (old ++ hexadecimal (count - 1) (n / 16)) ++ hexadecimal_digit (n % 16) ∷ [] ≡ old ++ hexadecimal count n
hexadecimal_more old zero n low = absurd (omega (arith, low))
hexadecimal_more old (suc count) n low =
    let less : suc count - 1 ≡ count = omega arith in
    ap (λ k. (old ++ hexadecimal k (n / 16)) ++ hexadecimal_digit (n % 16) ∷ []) less ∙ digits_more old count n
