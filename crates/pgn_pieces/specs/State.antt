-- The state of a cut of an archive into pieces.
use Rattle.std.specs.Prelude.{◌≡◌, ℕ, List, ◌++◌, length}
use Rattle.pgn_cut.specs.Cut.{closed}
use Rattle.pgn_cut.specs.Streams.{Stands as CutterStands}
use Rattle.pgn_cut.specs.declared.span.Span.{Span}
use Rattle.pgn_pieces.specs.Pieces.{Fill, ArePieces, end_of}
use Rattle.pgn_pieces.specs.Table.{table}
use Rattle.pgn_pieces.specs.declared.piece.Piece.{Piece}
use Rattle.pgn_pieces.specs.declared.state.OpenPiece.{OpenPiece}
use Rattle.pgn_pieces.specs.declared.state.Pieces.{Pieces}

-- The full pieces of some games are these, and the open piece has the games after them.
pub record Shows (least : ℕ) (open_ : OpenPiece) (games : List Span) (pieces : List Piece) : Type 0 where
  pub fill : Fill least games pieces open_.begin
  pub count : open_.games ≡ length fill.rest
  pub end : open_.end ≡ end_of open_.begin.from fill.rest

-- The bytes taken are `front`, of which the closed games fill these pieces.
pub record Stands (p : Pieces) (front : List ℕ) (pieces : List Piece) : Type 0 where
  pub cutter : CutterStands p.cutter front
  pub taken : p.taken ≡ length front
  pub shows : Shows p.least p.open_piece (closed front) pieces

-- More games make an open piece another, and add the lines of the pieces that are full with them, whatever was before.
pub record AddsGames (least : ℕ) (was now : OpenPiece) (games : List Span) (text longer : List ℕ) : Type 0 where
  pub more : List Piece
  pub lines : longer ≡ text ++ table more
  pub shows : (before : List Span) (pieces : List Piece) → Shows least was before pieces
      → Shows least now (before ++ games) (pieces ++ more)

-- the same of more bytes of the archive
pub record TakesBytes (was now : Pieces) (bytes text longer : List ℕ) : Type 0 where
  pub more : List Piece
  pub lines : longer ≡ text ++ table more
  pub stands : (front : List ℕ) (pieces : List Piece) → Stands was front pieces → Stands now (front ++ bytes) (pieces ++ more)

-- The archive ends, which adds the lines of its last pieces.
pub record ComesToEnd (was : Pieces) (text longer : List ℕ) : Type 0 where
  pub more : List Piece
  pub lines : longer ≡ text ++ table more
  pub are : (front : List ℕ) (pieces : List Piece) → Stands was front pieces → ArePieces was.least front (pieces ++ more)
