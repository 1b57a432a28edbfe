-- The FEN text of a position (PGN standard 16.1.3).
use Rattle.std.specs.Prelude.{ℕ, zero, suc, ◌+◌, List, [], ◌∷◌, ◌++◌, Bool, true, false, ◌||◌, Option, Some, None, if◌then◌else◌, slice_range, decimal}
use Rattle.std.specs.List.{join_with_byte}
use Rattle.cq_geometry.specs.Squares.{file_of, rank_of}
use Rattle.cq_position.specs.declared.men.Man.{Man}
use Rattle.cq_position.specs.declared.men.Side.{Side}
use Rattle.cq_position.specs.declared.men.Side.TheVariants.{White, Black}
use Rattle.cq_position.specs.declared.position.Rights.{Rights}
use Rattle.cq_position.specs.Men.{letter_of_man}
use Rattle.cq_position.specs.Board.{Board, castling_right}
use Rattle.cq_position.specs.FenBytes.{space, slash, dash, digit_zero, digit_one, letter_a, side_letter, right_letter}

-- the text of a run of empty squares, a digit
abbrev pub run_text : ℕ → List ℕ
run_text zero = []
run_text (suc n) = (digit_one + n) ∷ []

-- the text that a square adds: a man's letter after the run of empty squares before it; an empty square lengthens the run
abbrev pub letter_text : ℕ → Option ℕ → List ℕ
letter_text empty None = []
letter_text empty (Some letter) = run_text empty ++ letter ∷ []

abbrev pub run_after : ℕ → Option ℕ → ℕ
run_after empty None = empty + 1
run_after empty (Some letter) = 0

-- the text of a rank after so many empty squares
abbrev pub rank_text : ℕ → List Man → List ℕ
rank_text empty [] = run_text empty
rank_text empty (man ∷ men) = letter_text empty (letter_of_man man) ++ rank_text (run_after empty (letter_of_man man)) men

-- the ranks from the eighth down
abbrev pub rank_texts : List Man → List (List ℕ)
rank_texts men =
    rank_text 0 (slice_range men 56 64)
    ∷ rank_text 0 (slice_range men 48 56)
    ∷ rank_text 0 (slice_range men 40 48)
    ∷ rank_text 0 (slice_range men 32 40)
    ∷ rank_text 0 (slice_range men 24 32)
    ∷ rank_text 0 (slice_range men 16 24)
    ∷ rank_text 0 (slice_range men 8 16)
    ∷ rank_text 0 (slice_range men 0 8)
    ∷ []

abbrev pub placement_text : List Man → List ℕ
placement_text men = join_with_byte slash (rank_texts men)

abbrev pub side_text : Side → List ℕ
side_text side = side_letter side ∷ []

-- the letter of a right, if the side has it
abbrev pub right_text : Rights → Side → Bool → List ℕ
right_text r side kingside = if castling_right r side kingside then right_letter side kingside ∷ [] else []

-- the rights in the order KQkq, or a dash
abbrev pub castling_text : Rights → List ℕ
castling_text r =
    if r.white_kingside || r.white_queenside || r.black_kingside || r.black_queenside
    then right_text r White true ++ right_text r White false ++ right_text r Black true ++ right_text r Black false
    else dash ∷ []

abbrev pub passant_text : Option ℕ → List ℕ
passant_text None = dash ∷ []
passant_text (Some square) = (letter_a + file_of square) ∷ (digit_one + rank_of square) ∷ []

-- six fields with one space between two; the halfmove clock is 0
unfoldable pub fen_of : Board → List ℕ
fen_of b =
    join_with_byte space
    (placement_text b.men ∷ side_text b.side ∷ castling_text b.rights
    ∷ passant_text b.passant ∷ (digit_zero ∷ []) ∷ decimal b.number ∷ [])
