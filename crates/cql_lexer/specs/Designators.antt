-- Designators: men, squares, or men on squares, as `R`, `a1`, `[KQ]a-h2` and `.[a1,b2-3]`.
use Rattle.std.specs.Prelude.{ℕ, zero, suc, ◌+◌, ◌-◌, ◌^◌, min, max, Bool, ◌&&◌, not, ◌==◌, List, [], ◌∷◌, length, take, drop, Option, None, Some, if◌then◌else◌, bit_or, option_and_then}
use Rattle.std.specs.List.{position, slice_split}
use Rattle.std.specs.Option.{option_map, option_or}
use Rattle.cq_geometry.specs.Squares.{file_of, rank_of}
use Rattle.cq_symmetry.specs.Images.{is_in}
use Rattle.cq_symmetry.specs.Parts.{are_whole_ranks, are_whole_files}
use Rattle.cql_syntax.specs.Words.{man_letters}
use Rattle.cql_syntax.specs.declared.leaves.Designator.{Designator}
use Rattle.std.specs.Int.{is_in_range}
use Rattle.cql_lexer.specs.Characters.{hyphen, is_comma, is_closing_bracket}
use Rattle.cql_lexer.specs.Longest.{longest}

-- the union of the sets that the items represent and of those so far; none if an item represents none
abbrev pub union_of_designators : {X : Type 0} → (X → Option ℕ) → ℕ → List X → Option ℕ
union_of_designators read so_far [] = Some so_far
union_of_designators read so_far (item ∷ items) = option_and_then (λ set. union_of_designators read (bit_or so_far set) items) (read item)

-- the bytes between a `[` at the front of a text and the first `]`
abbrev pub group : List ℕ → Option (List ℕ)
group [] = None
group (b ∷ text) = if b == 91 then option_map (λ end. take end text) (position is_closing_bracket text) else None

-- the bytes between the brackets of a text that is `[`, other bytes, and the first `]` as its last byte
abbrev pub in_brackets : List ℕ → Option (List ℕ)
in_brackets text = option_and_then (λ inside. if length inside + 2 == length text then Some inside else None) (group text)

-- the men of a letter: `A` is any white man, `a` any black man, and `.` any man or none
abbrev pub men_of_letter : ℕ → Option ℕ
men_of_letter letter =
    if letter == 65 then Some 0x003f
    else (if letter == 97 then Some 0x0fc0
    else (if letter == 46 then Some 0x1fff
    else option_map (λ man. 2 ^ man) (position (λ man. man == letter) man_letters)))

-- the men of one or more letters
abbrev pub men_of_letters : List ℕ → Option ℕ
men_of_letters [] = None
men_of_letters (letter ∷ letters) = union_of_designators men_of_letter 0 (letter ∷ letters)

-- the men of a letter, or of letters in brackets
abbrev pub men_of : List ℕ → Option ℕ
men_of (letter ∷ []) = men_of_letter letter
men_of text = option_and_then men_of_letters (in_brackets text)

-- the set of those squares below n that pass the test: bit k is square k
abbrev pub squares_below : (ℕ → Bool) → ℕ → ℕ
squares_below test zero = 0
squares_below test (suc k) = squares_below test k + (if test k then 2 ^ k else 0)

-- the squares from one file to another and from one rank to another, by their letters and digits, the lower ends first
unfoldable pub squares_within : ℕ → ℕ → ℕ → ℕ → ℕ
squares_within file last_file rank last_rank =
    squares_below (λ square. is_in_range file last_file (97 + file_of square) && is_in_range rank last_rank (49 + rank_of square)) 64

-- the same with ranges in either order; none if the letters are not `a` to `h` or the digits not `1` to `8`
abbrev pub rectangle : ℕ → ℕ → ℕ → ℕ → Option ℕ
rectangle file last_file rank last_rank =
    if is_in_range 97 104 file && is_in_range 97 104 last_file && is_in_range 49 56 rank && is_in_range 49 56 last_rank
    then Some (squares_within (min file last_file) (max file last_file) (min rank last_rank) (max rank last_rank))
    else None

-- the squares of a specification: a file or two with `-` between them, then a rank or two with `-` between them
abbrev pub specification : List ℕ → Option ℕ
specification (file ∷ rank ∷ []) = rectangle file file rank rank
specification (a ∷ b ∷ c ∷ d ∷ []) =
    if b == hyphen then rectangle a c d d
    else (if c == hyphen then rectangle a a b d else None)
specification (file ∷ b ∷ last_file ∷ rank ∷ c ∷ last_rank ∷ []) =
    if b == hyphen && c == hyphen then rectangle file last_file rank last_rank else None
specification text = None

-- the squares of specifications with commas between them
abbrev pub specifications : List ℕ → Option ℕ
specifications text = union_of_designators specification 0 (slice_split is_comma text)

-- the squares of a specification, or of specifications in brackets
abbrev pub squares_of : List ℕ → Option ℕ
squares_of text = option_or (specification text) (option_and_then specifications (in_brackets text))

-- both squares are in a set, or neither is
abbrev pub are_alike : ℕ → ℕ → ℕ → Bool
are_alike squares one other = if is_in squares one then is_in squares other else not (is_in squares other)

-- men on squares
unfoldable pub men_on : ℕ → ℕ → Designator
men_on men squares = record {
  men = men;
  part = record { squares = squares; whole_ranks = are_whole_ranks squares; whole_files = are_whole_files squares };
}

abbrev pub any_men : ℕ
any_men = 0x1fff

abbrev pub all_squares : ℕ
all_squares = 2 ^ 64 - 1

-- men on squares, for a text that is men and then squares
abbrev pub men_then_squares : List ℕ → Option Designator
men_then_squares text = option_and_then (λ men. option_map (men_on men.0) (squares_of (drop men.1 text))) (longest men_of text)

-- the designator that is a whole text: men on squares, any men on squares, or men on all squares
unfoldable pub designator : List ℕ → Option Designator
designator text =
    option_or (men_then_squares text)
    (option_or (option_map (men_on any_men) (squares_of text)) (option_map (λ men. men_on men all_squares) (men_of text)))
