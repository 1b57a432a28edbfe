-- The parts between commas, one after another.
use Rattle.std.proofs.Common.{◌≡◌, ℕ, ◌+◌, List, ◌∷◌, take, drop, None, Some, ap, ◌∙◌}
use Rattle.std.specs.List.{position, slice_split}
use Rattle.std.proofs.lemmas.List.Splits.{slice_split_first}
use Rattle.std.proofs.lemmas.Bool.{ltb-true}
use Rattle.std.proofs.lemmas.Option.{cond_some}
use Rattle.std.specs.Prelude.{option_and_then, bit_or}
use Rattle.cql_lexer.specs.Characters.{is_comma}
use Rattle.cql_lexer.specs.Designators.{union_of_designators, specification}

-- the first part ends at the first comma
pub parts-at_comma : (text : List ℕ) (end : ℕ) → position is_comma text ≡ Some end → slice_split is_comma text ≡ take end text ∷ slice_split is_comma (drop (end + 1) text)
parts-at_comma text end found =
    let here = cond_some _ _ _ found in
    slice_split_first is_comma text 0 (ltb-true _ _ here.0) ∙ ap (λ k. take k text ∷ slice_split is_comma (drop (k + 1) text)) here.1

-- a part that is no specification
pub union_of_designators-at_none : (so_far : ℕ) (text : List ℕ) (end : ℕ) → position is_comma text ≡ Some end → specification (take end text) ≡ None → union_of_designators specification so_far (slice_split is_comma text) ≡ None
union_of_designators-at_none so_far text end found none =
    ap (union_of_designators specification so_far) (parts-at_comma text end found)
    ∙ ap (option_and_then (λ set. union_of_designators specification (bit_or so_far set) (slice_split is_comma (drop (end + 1) text)))) none

-- a part that is one
pub union_of_designators-at_some : (so_far : ℕ) (text : List ℕ) (end set : ℕ) → position is_comma text ≡ Some end → specification (take end text) ≡ Some set
    → union_of_designators specification so_far (slice_split is_comma text) ≡ union_of_designators specification (bit_or so_far set) (slice_split is_comma (drop (end + 1) text))
union_of_designators-at_some so_far text end set found some =
    ap (union_of_designators specification so_far) (parts-at_comma text end found)
    ∙ ap (option_and_then (λ set. union_of_designators specification (bit_or so_far set) (slice_split is_comma (drop (end + 1) text)))) some
