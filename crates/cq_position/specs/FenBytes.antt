-- The bytes of a FEN text (PGN standard 16.1.3).
use Rattle.std.specs.Prelude.{ℕ, Bool, true, false}
use Rattle.cq_position.specs.declared.men.Side.{Side}
use Rattle.cq_position.specs.declared.men.Side.TheVariants.{White, Black}

-- the byte between two fields, and the byte between two ranks
abbrev pub space : ℕ
space = 32

abbrev pub slash : ℕ
slash = 47

-- the byte for no right to castle, and for no en passant square
abbrev pub dash : ℕ
dash = 45

-- the digits `0` and `1`, and the letter `a` of the first file
abbrev pub digit_zero : ℕ
digit_zero = 48

abbrev pub digit_one : ℕ
digit_one = 49

abbrev pub letter_a : ℕ
letter_a = 97

-- `w` and `b`
abbrev pub side_letter : Side → ℕ
side_letter White = 119
side_letter Black = 98

-- `K` and `Q`, `k` and `q`
abbrev pub right_letter : Side → Bool → ℕ
right_letter White true = 75
right_letter White false = 81
right_letter Black true = 107
right_letter Black false = 113
