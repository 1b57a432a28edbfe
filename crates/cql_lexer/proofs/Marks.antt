-- The longest mark at the front of a text.
use Rattle.std.proofs.Common.{◌≡◌, ℕ, zero, suc, ◌<◌, ◌≤◌, Bool, true, ltb, leb, List, [], ◌∷◌, length, take, get_or, Some, ⊎_elim, refl, sym, subst, arith, length-take-le}
use Rattle.cql_lexer.specs.Lexemes.{mark_number}
use Rattle.cql_syntax.specs.Words.{marks}
use Rattle.cql_lexer.specs.Longest.{front, longest}
use Rattle.std.specs.Prelude.{◌&&◌}
use Rattle.std.specs.Option.{option_or}
use Rattle.std.specs.List.{list_all}
use Rattle.std.specs.Str.{bytes_eq}
use Rattle.std.proofs.lemmas.Bool.{and_parts, ltb-true, leb-true}
use Rattle.std.proofs.lemmas.List.Quantifiers.{position-Some}
use Rattle.std.proofs.lemmas.Slice.Eq.{bytes_eq-Decides}
use Rattle.cql_lexer.proofs.Longest.{some_or_none, longest_parts, longest_of_three}

-- an entry is of one, two or three bytes
abbrev short : List ℕ → Bool
short entry = ltb 0 (length entry) && leb (length entry) 3

all_at : (k : ℕ) (entries : List (List ℕ)) → k < length entries → list_all short entries ≡ true → (0 < length (get_or entries k [])) × (length (get_or entries k []) ≤ 3)
all_at k [] h all = absurd (omega arith)
all_at zero (entry ∷ entries) h all =
    let parts = and_parts (short entry) (list_all short entries) all in
    let both = and_parts (ltb 0 (length entry)) (leb (length entry) 3) parts.0 in
    (ltb-true _ _ both.0, leb-true _ _ both.1)
all_at (suc k) (entry ∷ entries) h all =
    all_at k entries (omega arith) (and_parts (short entry) (list_all short entries) all).1

-- a mark is of one, two or three bytes
mark_size : (t : List ℕ) (k : ℕ) → mark_number t ≡ Some k → (0 < length t) × (length t ≤ 3)
unfolding mark_number
mark_size t k e =
    let found = position-Some (λ entry. bytes_eq entry t) marks k [] e in
    let same = (bytes_eq-Decides (get_or marks k []) t).0 found.1 in
    let within = all_at k marks found.0 refl in
    subst (λ s. (0 < length s) × (length s ≤ 3)) same within

pub mark_longest : (text : List ℕ) → option_or (option_or (front mark_number 3 text) (front mark_number 2 text)) (front mark_number 1 text) ≡ longest mark_number text
mark_longest text = longest_of_three mark_number text 3 2 1 (omega arith) (omega arith) (omega arith) (λ m h three two one.
    ⊎_elim (λ none. none) (λ some. let size = mark_size (take m text) some.0 some.1 in absurd (omega (arith, size, length-take-le m text h)))
    (some_or_none (mark_number (take m text))))

pub mark_fits : (text : List ℕ) (k len : ℕ) → Some (k, len) ≡ longest mark_number text → (0 < len) × (len ≤ length text)
mark_fits text k len e = let w = longest_parts mark_number text k len (sym e) in (w.positive, w.fits)
