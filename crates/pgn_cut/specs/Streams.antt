-- The state of a cutter, by the bytes that it was fed.
use Rattle.std.specs.Prelude.{◌≡◌, ℕ, ◌+◌, ◌*◌, ◌≤◌, ◌⊎◌, Bool, true, List, [], ◌∷◌, ◌++◌, length, Option}
use Rattle.std.specs.Option.{option_to_list}
use Rattle.pgn_lexer.specs.Lexemes.{Lexeme, lexemes, first_at}
use Rattle.pgn_cut.specs.Cut.{cut_from, cut, closed, first_of_mark, second_of_mark}
use Rattle.pgn_cut.specs.Progress.{progress_of}
use Rattle.pgn_cut.specs.States.{IsOpen, takes, EndsBefore}
use Rattle.pgn_cut.specs.declared.span.Span.{Span}
use Rattle.pgn_cut.specs.declared.cutter.Cutter.{Cutter}
use Rattle.pgn_cut.specs.declared.state.State.{State}
use Rattle.pgn_cut.specs.declared.state.State.TheVariants.{AtStart, OneOfMark, TwoOfMark, Between}

-- the counts of a cutter fit the bytes that it was fed
abbrev pub IsSound : Cutter → Type 0
IsSound c = (c.game.depth ≤ 2 * c.place) × (c.at ≤ c.place)

-- These bytes are a part of a byte order mark, of which another archive may have the rest.
pub record IsInMark (c : Cutter) (fed : List ℕ) : Type 0 where
  pub part : ((c.state ≡ AtStart) × (fed ≡ []))
      ⊎ (((c.state ≡ OneOfMark) × (fed ≡ first_of_mark ∷ [])) ⊎ ((c.state ≡ TwoOfMark) × (fed ≡ first_of_mark ∷ second_of_mark ∷ [])))
  pub game : c.game ≡ progress_of []
  pub place : c.place ≡ length fed
  pub sound : IsSound c

-- These bytes are lexemes, of which `kept` are those of the open game, and then the bytes of the open lexeme. Whatever
-- follows, the cut continues after the closed games with these.
pub record IsInText (c : Cutter) (fed : List ℕ) : Type 0 where
  pub kept : List Lexeme
  pub bytes : List ℕ
  pub game : c.game ≡ progress_of kept
  pub opened : IsOpen c.first c.state bytes
  pub column : c.column ≡ first_at c.first bytes (length bytes)
  pub here : c.at + length bytes ≡ length fed
  pub place : c.place ≡ length fed
  pub sound : IsSound c
  pub cuts : (more : List ℕ) → cut (fed ++ more)
      ≡ closed fed ++ cut_from (length fed + length more) kept (lexemes c.at c.first (bytes ++ more))

-- a cutter represents the bytes that it was fed
abbrev pub Stands : Cutter → List ℕ → Type 0
Stands c fed = IsInMark c fed ⊎ IsInText c fed

-- The definitions below are the steps of a cutter, as the private functions give them.

-- nothing is open at a place
pub record IsBetween (c : Cutter) (place : ℕ) (column : Bool) : Type 0 where
  pub state : c.state ≡ Between
  pub at : c.at ≡ place
  pub first : c.first ≡ column
  pub place_ : c.place ≡ place
  pub column_ : c.column ≡ column

-- An open lexeme ends here: a game may be closed. The cut continues with the bytes that follow, if they are no part of
-- the lexeme or mark that was open.
pub record IsEnded (c : Cutter) (games : Option Span) (was : State) (fed : List ℕ) : Type 0 where
  pub kept : List Lexeme
  pub game : c.game ≡ progress_of kept
  pub between : IsBetween c (length fed) c.first
  pub shallow : c.game.depth ≤ 2 * length fed + 1
  pub cuts : (rest : List ℕ) → EndsBefore was rest → cut (fed ++ rest)
      ≡ (closed fed ++ option_to_list games) ++ cut_from (length fed + length rest) kept (lexemes c.at c.first rest)

-- The next byte belongs to what is open. With that byte these games are closed.
pub record IsReady (c : Cutter) (fed : List ℕ) (b : ℕ) (games : List Span) : Type 0 where
  pub kept : List Lexeme
  pub bytes : List ℕ
  pub game : c.game ≡ progress_of kept
  pub opened : IsOpen c.first c.state bytes
  pub column : c.column ≡ first_at c.first bytes (length bytes)
  pub here : c.at + length bytes ≡ length fed
  pub place : c.place ≡ length fed
  pub shallow : c.game.depth ≤ 2 * c.place + 1
  pub belongs : takes c.state b ≡ true
  pub cuts : (more : List ℕ) → cut (fed ++ b ∷ more)
      ≡ games ++ cut_from (length fed + length (b ∷ more)) kept (lexemes c.at c.first (bytes ++ b ∷ more))

-- a cutter was fed more bytes, and the closed games are these
abbrev pub HasTaken : Cutter → List ℕ → List Span → Type 0
HasTaken c fed games = IsInText c fed × (closed fed ≡ games)

abbrev pub StandsWith : Cutter → List ℕ → List Span → Type 0
StandsWith c fed games = Stands c fed × (closed fed ≡ games)

-- A cutter was fed these bytes and appended the games that they close, whatever it was fed before.
pub record HasGained (was now : Cutter) (bytes : List ℕ) (before after : List Span) : Type 0 where
  pub gained : List Span
  pub spans : after ≡ before ++ gained
  pub stands : (fed : List ℕ) → Stands was fed → StandsWith now (fed ++ bytes) (closed fed ++ gained)
