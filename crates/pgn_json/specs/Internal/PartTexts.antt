-- The texts that workers make of the games of a part of a batch, as the private functions give them.
use Rattle.std.specs.Prelude.{◌≡◌, ℕ, ◌+◌, ◌<◌, List, [], ◌∷◌, length, slice_get, Some}
use Rattle.pgn_batches.specs.declared.kept_game.KeptGame.{KeptGame}
use Rattle.cq_workers.specs.NumberedOutputs.{AreOutputs, HasOutputs}
use Rattle.pgn_json.specs.Internal.Parts.{Part, size}
use Rattle.pgn_json.specs.Internal.Texts.{AreTextsOf}
use Rattle.pgn_json.specs.declared.part_texts.GameTexts.{GameTexts}
use Rattle.pgn_json.specs.declared.texts.Texts.{Texts}

-- the texts of the game with this number in a part
pub record IsOfGame (part : Part) (number : ℕ) (texts : Texts) : Type 0 where
  pub game : KeptGame
  pub at : slice_get part.games number ≡ Some game
  pub are : AreTextsOf part.mark (part.before + number + 1) (game ∷ []) texts

pub record IsTextsAt (part : Part) (number : ℕ) (made : GameTexts) : Type 0 where
  pub number_is : made.number ≡ number
  pub texts_ : IsOfGame part number made.texts

abbrev pub number_in : GameTexts → ℕ
number_in made = made.number

-- a worker made these of the games with these numbers
abbrev pub HasMadeTexts : Part → List ℕ → List GameTexts → Type 0
HasMadeTexts part numbers made = HasOutputs (IsTextsAt part) number_in 0 (size part) numbers made

-- up to order, those of each game, once
abbrev pub AreGameTexts : Part → List GameTexts → Type 0
AreGameTexts part made = AreOutputs (IsTextsAt part) number_in 0 (size part) made

-- the texts of a game are at its number
abbrev pub IsPlaced : Part → ℕ → List Texts → Type 0
IsPlaced part number places = (texts : Texts) × (slice_get places number ≡ Some texts) × IsOfGame part number texts

-- there is a place for each game, and no other
pub record ArePlaced (part : Part) (places : List Texts) : Type 0 where
  pub count : length places ≡ size part
  pub each : (number : ℕ) → number < size part → IsPlaced part number places
