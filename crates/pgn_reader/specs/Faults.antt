-- The first fault of a game's tokens.
use Rattle.std.specs.Prelude.{◌≡◌, ◌≢◌, ℕ, ◌+◌, ◌<◌, ◌≤◌, ◌⊎◌, List, [], ◌∷◌, ◌++◌, length, take, Some}
use Rattle.cq_position.specs.Games.{Game}
use Rattle.pgn_reader.specs.declared.fault.Reason.{Reason}
use Rattle.pgn_reader.specs.declared.fault.Reason.TheVariants.{TooManyPositions}
use Rattle.pgn_reader.specs.Words.{Word}
use Rattle.pgn_reader.specs.Games.{SpellsOfAnyLength}
use Rattle.pgn_reader.specs.ReadingPlace.{ReadingPlace, IsReadingPlace, fault_at, fault_at_end, moves_before}
use Rattle.pgn_reader.specs.Limits.{most_moves}

-- some game, with any number of positions, begins with the tokens
pub record IsViablePrefix (ts : List Word) : Type 0 where
  pub more : List Word
  pub game : Game
  pub spelled : SpellsOfAnyLength (ts ++ more) game

-- a token after some others: no game begins with it too, or its move makes one position too many
pub record IsFaultOf (ts : List Word) (w : Word) (s : ReadingPlace) (reason : Reason) : Type 0 where
  pub why : fault_at s w ≡ Some reason
  pub dead : reason ≢ TooManyPositions → IsViablePrefix (ts ++ w ∷ []) → ⊥

-- the end of tokens with which some game begins, but which are none
pub record IsFaultOfEnd (ts : List Word) (s : ReadingPlace) (reason : Reason) : Type 0 where
  pub why : fault_at_end s ≡ Some reason
  pub dead : (g : Game) → SpellsOfAnyLength ts g → ⊥

-- The fault of tokens: the next token after the first k of them, or the end. Some game of at most 65,536 positions
-- begins with these k.
pub record IsFault (ts : List Word) (k : ℕ) (reason : Reason) : Type 0 where
  pub alive : IsViablePrefix (take k ts)
  pub standing : ReadingPlace
  pub stands : IsReadingPlace (take k ts) standing
  pub few : moves_before standing ≤ most_moves
  pub fault : ((w : Word) × (take (k + 1) ts ≡ take k ts ++ w ∷ []) × (k < length ts) × IsFaultOf (take k ts) w standing reason)
      ⊎ ((k ≡ length ts) × IsFaultOfEnd ts standing reason)
