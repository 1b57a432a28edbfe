-- The cut of an archive into pieces, each of which ends with a game.
use Rattle.std.specs.Prelude.{◌≡◌, ℕ, ◌+◌, ◌-◌, ◌≤◌, ◌<◌, List, [], ◌∷◌, ◌++◌, length, take, drop, fold, nat_lt, if◌then◌else◌}
use Rattle.pgn_cut.specs.Cut.{cut, closed}
use Rattle.pgn_cut.specs.declared.span.Span.{Span}
use Rattle.pgn_pieces.specs.declared.piece.Piece.{Piece}
use Rattle.pgn_pieces.specs.declared.piece.PieceStart.{PieceStart}

-- the end of some games of which the first begins at a place, or after it
abbrev pub end_of : ℕ → List Span → ℕ
end_of from games = fold (λ place game. game.end) from games

-- With its last game a piece that begins at a place has at least so many bytes, and without it fewer.
pub record IsLongEnough (least from : ℕ) (games : List Span) : Type 0 where
  pub fewer : List Span
  pub last : Span
  pub are : games ≡ fewer ++ last ∷ []
  pub short : end_of from fewer < from + least
  pub long : from + least ≤ last.end

-- the piece that begins at a place, ends at another and has so many games
abbrev pub piece_to : PieceStart → (to games : ℕ) → Piece
piece_to begin to games = record { number = begin.number; offset = begin.from; length = to - begin.from; first = begin.first; games = games }

-- the bytes of a piece
abbrev pub piece_bytes : List ℕ → Piece → List ℕ
piece_bytes archive p = take p.length (drop p.offset archive)

-- the start of the piece after a piece
abbrev pub after : Piece → PieceStart
after p = record { number = p.number + 1; from = p.offset + p.length; first = p.first + p.games }

-- the start of the first piece
abbrev pub start : PieceStart
start = record { number = 1; from = 0; first = 1 }

-- The games are those of these pieces, one after the other, each just long enough; the last one ends at `stop`.
unfoldable pub AreFull : ℕ → PieceStart → List Span → List Piece → PieceStart → Type 0
AreFull least begin games [] stop = (games ≡ []) × (begin ≡ stop)
AreFull least begin games (p ∷ ps) stop = (mine : List Span) × (others : List Span) × (games ≡ mine ++ others)
    × IsLongEnough least begin.from mine × (p ≡ piece_to begin (end_of begin.from mine) (length mine)) × AreFull least (after p) others ps stop

-- Some games are those of full pieces and then too few for one more, which begins at `stop`.
pub record Fill (least : ℕ) (games : List Span) (pieces : List Piece) (stop : PieceStart) : Type 0 where
  pub taken : List Span
  pub rest : List Span
  pub are : games ≡ taken ++ rest
  pub full : AreFull least start taken pieces stop
  pub short : end_of stop.from rest < stop.from + least

-- These pieces are full by the games that the first bytes of an archive close, so that they are its first ones, whatever follows.
pub record ArePrefixPieces (least : ℕ) (front : List ℕ) (pieces : List Piece) : Type 0 where
  pub stop : PieceStart
  pub fill : Fill least (closed front) pieces stop

-- The rest of an archive of so many bytes is one piece more, if it has a byte.
abbrev pub last_piece : PieceStart → (total games : ℕ) → List Piece
last_piece stop total games = if nat_lt stop.from total then piece_to stop total games ∷ [] else []

-- the pieces of an archive
pub record ArePieces (least : ℕ) (archive : List ℕ) (pieces : List Piece) : Type 0 where
  pub full : List Piece
  pub stop : PieceStart
  pub fill : Fill least (cut archive) full stop
  pub are : pieces ≡ full ++ last_piece stop (length archive) (length fill.rest)
