-- The lines of a table of pieces.
use Rattle.std.specs.Prelude.{ℕ, List, ◌++◌, codes, decimal}
use Rattle.std.specs.List.{flat_map}
use Rattle.pgn_pieces.specs.declared.piece.Piece.{Piece}

-- the line of a piece: its number, its first byte, the number of its bytes, its first game, and the number of its games
abbrev pub line : Piece → List ℕ
line p =
    decimal p.number ++ codes " " ++ decimal p.offset ++ codes " " ++ decimal p.length ++ codes " " ++ decimal p.first ++ codes " "
    ++ decimal p.games ++ codes "\n"

abbrev pub table : List Piece → List ℕ
table pieces = flat_map line pieces
