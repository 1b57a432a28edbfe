-- The meaning of a text in Forsyth-Edwards Notation (PGN standard 16.1).
use Rattle.std.specs.Prelude.{ℕ, ◌+◌, ◌-◌, ◌*◌, ◌^◌, List, [], ◌∷◌, length, reverse, replicate, Bool, true, false, ◌&&◌, ◌||◌, not, ◌==◌, nat_le, max, Option, Some, None, Result, Ok, Err, if◌then◌else◌, filter, find, flat_map, is_some, option_to_list}
use Rattle.std.specs.Option.{option_map_or}
use Rattle.std.specs.List.{list_all, list_any, slice_split}
use Rattle.cq_position.specs.declared.men.Man.{Man}
use Rattle.cq_position.specs.declared.men.Man.TheVariants.{Empty}
use Rattle.cq_position.specs.declared.men.Side.{Side}
use Rattle.cq_position.specs.declared.men.Side.TheVariants.{White, Black}
use Rattle.cq_position.specs.declared.fen.FenFault.{FenFault}
use Rattle.cq_position.specs.declared.fen.FenFault.TheVariants.{Fields, Placement, Side as BadSide, Castling, EnPassant, Number, Kings, PawnOnEdge, TooManyMen, OpponentInCheck}
use Rattle.cq_position.specs.declared.position.Rights.{Rights}
use Rattle.cq_geometry.specs.Squares.{square_of}
use Rattle.cq_position.specs.Men.{man_with_letter, opponent}
use Rattle.cq_position.specs.Attacks.{in_check}
use Rattle.cq_position.specs.FenBytes.{space, slash, dash, digit_zero, digit_one, letter_a, side_letter, right_letter}
use Rattle.cq_position.specs.Board.{Board, are_home, was_passed, has_kings, has_pawn_on_edge, has_too_many_men}

-- the parts of a text between the occurrences of a byte
abbrev pub parts : ℕ → List ℕ → List (List ℕ)
parts byte text = slice_split (λ b. b == byte) text

-- the fields of a text are its longest parts without a space, except the empty ones
abbrev pub is_not_empty : List ℕ → Bool
is_not_empty [] = false
is_not_empty (first ∷ rest) = true

unfoldable pub fields : List ℕ → List (List ℕ)
fields text = filter is_not_empty (parts space text)

-- true if a byte is in a range, both ends included
abbrev pub is_within : ℕ → ℕ → ℕ → Bool
is_within low high byte = nat_le low byte && nat_le byte high

-- true of a digit from 1 to 8, which means as many empty squares
abbrev pub is_run : ℕ → Bool
is_run byte = is_within digit_one (digit_one + 7) byte

-- the squares that a byte of a rank means: as many empty ones as a digit says, or one with the letter's man
abbrev pub squares_of : ℕ → List Man
squares_of byte = if is_run byte then replicate (byte - digit_zero) Empty else option_to_list (man_with_letter byte)

abbrev pub is_rank_byte : ℕ → Bool
is_rank_byte byte = is_run byte || is_some (man_with_letter byte)

-- the squares of a rank's text, from the a-file on
abbrev pub rank_squares : List ℕ → List Man
rank_squares text = flat_map squares_of text

abbrev pub is_rank : List ℕ → Bool
is_rank text = list_all is_rank_byte text && (length (rank_squares text) == 8)

-- Piece placement (16.1.3.1): eight ranks from the eighth down, with a slash between two.
unfoldable pub is_placement : List ℕ → Bool
is_placement text = (length (parts slash text) == 8) && list_all is_rank (parts slash text)

unfoldable pub placed_men : List ℕ → List Man
placed_men text = flat_map rank_squares (reverse (parts slash text))

-- true if a text is this one byte
abbrev pub is_byte_alone : ℕ → List ℕ → Bool
is_byte_alone byte [] = false
is_byte_alone byte (first ∷ []) = first == byte
is_byte_alone byte (first ∷ more ∷ rest) = false

-- Active colour (16.1.3.2): w or b.
abbrev pub is_side : List ℕ → Bool
is_side text = is_byte_alone (side_letter White) text || is_byte_alone (side_letter Black) text

abbrev pub side_named : List ℕ → Side
side_named text = if is_byte_alone (side_letter White) text then White else Black

-- Castling availability (16.1.3.3): a dash, or one or more letters of KQkq.
abbrev pub is_castling_letter : ℕ → Bool
is_castling_letter byte =
    (byte == right_letter White true) || (byte == right_letter White false)
    || (byte == right_letter Black true) || (byte == right_letter Black false)

abbrev pub is_castling_field : List ℕ → Bool
is_castling_field text = is_byte_alone dash text || (is_not_empty text && list_all is_castling_letter text)

abbrev pub has_letter : ℕ → List ℕ → Bool
has_letter letter text = list_any (λ byte. byte == letter) text

-- a right counts if the text names it, and king and rook are at home
abbrev pub right_counts : List Man → List ℕ → Side → Bool → Bool
right_counts men text side kingside = has_letter (right_letter side kingside) text && are_home men side kingside

-- the rights that count
abbrev pub rights_kept : List Man → List ℕ → Rights
rights_kept men text = record {
  white_kingside = right_counts men text White true;
  white_queenside = right_counts men text White false;
  black_kingside = right_counts men text Black true;
  black_queenside = right_counts men text Black false;
}

-- true of the letter of a file, and of the digit of a rank
abbrev pub is_file_letter : ℕ → Bool
is_file_letter byte = is_within letter_a (letter_a + 7) byte

abbrev pub is_rank_digit : ℕ → ℕ → Bool
is_rank_digit rank byte = byte == digit_one + rank

-- En passant target square (16.1.3.4): a dash, or a square of the third or the sixth rank, which are 2 and 5 counted from 0.
abbrev pub names_passant_square : List ℕ → Bool
names_passant_square [] = false
names_passant_square (file ∷ []) = false
names_passant_square (file ∷ rank ∷ []) = is_file_letter file && (is_rank_digit 2 rank || is_rank_digit 5 rank)
names_passant_square (file ∷ rank ∷ more ∷ rest) = false

abbrev pub is_passant_field : List ℕ → Bool
is_passant_field text = is_byte_alone dash text || names_passant_square text

-- the named square if a pawn can just have passed it
abbrev pub passant_kept : List Man → Side → List ℕ → Option ℕ
passant_kept men side [] = None
passant_kept men side (byte ∷ []) = None
passant_kept men side (file ∷ rank ∷ rest) =
    let square = square_of (file - letter_a) (rank - digit_one) in
    if was_passed men side square then Some square else None

-- Halfmove clock (16.1.3.5) and fullmove number (16.1.3.6): 1 to 9 digits.
abbrev pub is_digit : ℕ → Bool
is_digit byte = is_within digit_zero (digit_zero + 9) byte

abbrev pub is_number : List ℕ → Bool
is_number text = is_not_empty text && nat_le (length text) 9 && list_all is_digit text

-- the number that digits write in decimal
abbrev pub value_of_digits : List ℕ → ℕ
value_of_digits [] = 0
value_of_digits (digit ∷ rest) = (digit - digit_zero) * 10 ^ length rest + value_of_digits rest

-- the six fields of a text
pub record FieldTexts : Type 0 where
  pub placement : List ℕ
  pub side : List ℕ
  pub castling : List ℕ
  pub passant : List ℕ
  pub clock : List ℕ
  pub number : List ℕ

-- six fields, or four followed by the clock 0 and the number 1
abbrev pub field_texts : List (List ℕ) → Option FieldTexts
field_texts (placement ∷ side ∷ castling ∷ passant ∷ []) =
    Some (record {
      placement = placement;
      side = side;
      castling = castling;
      passant = passant;
      clock = digit_zero ∷ [];
      number = digit_one ∷ [];
    })
field_texts (placement ∷ side ∷ castling ∷ passant ∷ clock ∷ number ∷ []) =
    Some (record {
      placement = placement;
      side = side;
      castling = castling;
      passant = passant;
      clock = clock;
      number = number;
    })
field_texts _ = None

-- the faults of six fields in their order, each with a flag that is true if the fault is present
abbrev pub faults : FieldTexts → List (Bool × FenFault)
faults f = let men = placed_men f.placement in
    (not (is_placement f.placement), Placement)
    ∷ (not (is_side f.side), BadSide)
    ∷ (not (is_castling_field f.castling), Castling)
    ∷ (not (is_passant_field f.passant), EnPassant)
    ∷ (not (is_number f.clock && is_number f.number), Number)
    ∷ (not (has_kings men), Kings)
    ∷ (has_pawn_on_edge men, PawnOnEdge)
    ∷ (has_too_many_men men, TooManyMen)
    ∷ (in_check men (opponent (side_named f.side)), OpponentInCheck)
    ∷ []

-- The position of six fields. A right counts if king and rook are at home. The clock is not kept, and the number 0 is read as 1.
abbrev pub board_of : FieldTexts → Board
board_of f = let men = placed_men f.placement in let side = side_named f.side in record {
  men = men;
  side = side;
  rights = rights_kept men f.castling;
  passant = passant_kept men side f.passant;
  number = max 1 (value_of_digits f.number);
}

abbrev pub fault_or : Board → Option (Bool × FenFault) → Result Board FenFault
fault_or board None = Ok board
fault_or board (Some fault) = Err fault.1

-- the first fault that is present, or else the position
unfoldable pub position_or_fault : FieldTexts → Result Board FenFault
position_or_fault f = fault_or (board_of f) (find (λ fault. fault.0) (faults f))

-- the position of a text, or its first fault; a text with a number of fields other than six or four has the fault `Fields`
unfoldable pub fen_meaning : List ℕ → Result Board FenFault
fen_meaning text = option_map_or position_or_fault (field_texts (fields text)) (Err Fields)
