-- The games that the bytes of a game spell, and their fault.
use Rattle.std.specs.Prelude.{◌≡◌, ℕ, ◌+◌, ◌<◌, ◌≤◌, ◌⊎◌, Bool, List, length, slice_get, Option, Some, None, Result, Ok, Err}
use Rattle.cq_common.specs.declared.faults.Refusal.{Refusal}
use Rattle.cq_common.specs.declared.faults.Refusal.TheVariants.{Fault, NoMemory}
use Rattle.cq_position.specs.Games.{Game}
use Rattle.pgn_lexer.specs.declared.token.Token.{Token}
use Rattle.pgn_lexer.specs.Lexemes.{tokens_of}
use Rattle.pgn_reader.specs.declared.fault.GameFault.{GameFault}
use Rattle.pgn_reader.specs.declared.fault.Reason.TheVariants.{GameTooLong}
use Rattle.pgn_reader.specs.Words.{Word, words_of}
use Rattle.pgn_reader.specs.Limits.{longest}
use Rattle.pgn_reader.specs.Games.{Spells}
use Rattle.pgn_reader.specs.Faults.{IsFault}

-- a game is spelled, and no other
pub record IsOnlyGame (ts : List Word) (game : Game) : Type 0 where
  pub spells : Spells ts game
  pub alone : (g : Game) → Spells ts g → g ≡ game

-- the place of a token, or of the first byte after the game
abbrev pub place_or : ℕ → Option Token → ℕ
place_or end None = end
place_or end (Some token) = token.at

-- the bytes of a game whose first has the place `start` are too long
pub record IsTooLong (start : ℕ) (bytes : List ℕ) (f : GameFault) : Type 0 where
  pub long : longest < length bytes
  pub fault : f ≡ record { byte = start + longest; reason = GameTooLong }

-- the tokens of the bytes, which are not too long, have a fault
pub record HasTokenFault (start : ℕ) (first : Bool) (bytes : List ℕ) (f : GameFault) : Type 0 where
  pub short : length bytes ≤ longest
  pub index : ℕ
  pub fault : IsFault (words_of start first bytes) index f.reason
  pub byte : f.byte ≡ place_or (start + length bytes) (slice_get (tokens_of start first bytes) index)

abbrev pub IsGameFault : ℕ → Bool → List ℕ → GameFault → Type 0
IsGameFault start first bytes f = IsTooLong start bytes f ⊎ HasTokenFault start first bytes f

-- The outcome of the bytes of a game: the one game that they spell, if they are not too long, or their fault.
abbrev pub IsReadResult : ℕ → Bool → List ℕ → Result Game GameFault → Type 0
IsReadResult start first bytes (Ok game) = (length bytes ≤ longest) × IsOnlyGame (words_of start first bytes) game
IsReadResult start first bytes (Err fault) = IsGameFault start first bytes fault

-- the same of a result that may also be out of memory
abbrev pub IsReadOrNoMemory : ℕ → Bool → List ℕ → Result Game (Refusal GameFault) → Type 0
IsReadOrNoMemory start first bytes (Ok game) = IsReadResult start first bytes (Ok game)
IsReadOrNoMemory start first bytes (Err (Fault fault)) = IsReadResult start first bytes (Err fault)
IsReadOrNoMemory start first bytes (Err NoMemory) = Unit {0}
