-- Rivals by their origins.
use Rattle.std.specs.Prelude.{ℕ, ◌==◌, Bool, ◌&&◌, not, None}
use Rattle.cq_geometry.specs.Squares.{file_of, rank_of}
use Rattle.cq_position.specs.declared.moves.Move.{Move}
use Rattle.cq_position.specs.Board.{Board, man_at}
use Rattle.cq_san.specs.declared.parts.PieceMove.{PieceMove}
use Rattle.cq_san.specs.Writing.{is_rival, piece_of_man}

-- true of a rival from the same file, and of one from the same rank
abbrev pub on_file : Board → Move → Move → Bool
on_file p m n = is_rival p m n && (file_of m.from == file_of n.from)

abbrev pub on_rank : Board → Move → Move → Bool
on_rank p m n = is_rival p m n && (rank_of m.from == rank_of n.from)

-- the parts of a move without its origin
abbrev pub without_origin : Board → Move → PieceMove
without_origin p m = record { piece = piece_of_man (man_at p.men m.from); file = None; rank = None; goal = m.to; promotion = m.promotion }

-- true of another square, of another square on the same file, and of another square on the same rank
abbrev pub is_elsewhere : ℕ → ℕ → Bool
is_elsewhere from other = not (other == from)

abbrev pub is_elsewhere_on_file : ℕ → ℕ → Bool
is_elsewhere_on_file from other = not (other == from) && (file_of from == file_of other)

abbrev pub is_elsewhere_on_rank : ℕ → ℕ → Bool
is_elsewhere_on_rank from other = not (other == from) && (rank_of from == rank_of other)
