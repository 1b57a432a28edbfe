-- The beginning of the open game of a part of an archive.
use Rattle.std.specs.Prelude.{◌≡◌, ℕ, ◌<◌, ◌≤◌, ◌⊎◌, List, [], ◌∷◌, ◌++◌, All, length, drop, Option, None, Some}
use Rattle.pgn_cut.specs.Cut.{cut, closed, text_start}
use Rattle.pgn_cut.specs.declared.span.Span.{Span}
use Rattle.pgn_cut.specs.declared.state.State.{State}
use Rattle.pgn_cut.specs.declared.state.State.TheVariants.{AtStart, OneOfMark, TwoOfMark, Between}

-- the games of an archive with this front, after those that the front closes
abbrev pub later_games : (front more : List ℕ) → List Span
later_games front more = drop (length (closed front)) (cut (front ++ more))

-- all of some games begin at a place or after it
abbrev pub BeginFrom : ℕ → List Span → Type 0
BeginFrom place games = All (λ g. place ≤ g.start) games

-- If a game is open, the first of the later games begins there, and those after it begin after the front. A front that
-- is a part of a byte order mark opens a game only if the rest of the mark doesn't follow.
abbrev pub AreOpenAt : Option ℕ → (front more : List ℕ) → List Span → Type 0
AreOpenAt None front more games = BeginFrom (length front) games
AreOpenAt (Some place) front more [] = Unit {0}
AreOpenAt (Some place) front more (g ∷ games) =
    ((g.start ≡ place) ⊎ ((length front < text_start (front ++ more)) × (length front ≤ g.start))) × BeginFrom (length front) games

-- the open game of a front begins at this place, or none is open, whatever follows
abbrev pub IsOpenAt : Option ℕ → List ℕ → Type 0
IsOpenAt place front = (more : List ℕ) → AreOpenAt place front more (later_games front more)

-- the place of the open game's first lexeme, or of the open lexeme, by the state of a cutter, as the private functions
-- give it
abbrev pub open_place : Option ℕ → State → ℕ → Option ℕ
open_place (Some start) state at = Some start
open_place None AtStart at = None
open_place None Between at = None
open_place None OneOfMark at = Some 0
open_place None TwoOfMark at = Some 0
open_place None state at = Some at
