-- The result of reading the tokens of a game, as the private functions give it.
use Rattle.std.specs.Prelude.{◌≡◌, ◌≤◌, ℕ, Bool, List, None, Result, Ok, Err}
use Rattle.cq_position.specs.declared.games.GameResult.{GameResult}
use Rattle.cq_position.specs.Games.{Game}
use Rattle.pgn_reader.specs.declared.token_machine.Phase.{Phase}
use Rattle.pgn_reader.specs.declared.token_machine.Phase.TheVariants.{AfterResult}
use Rattle.pgn_reader.specs.declared.token_machine.Reader.{Reader}
use Rattle.pgn_reader.specs.declared.fault.GameFault.{GameFault}
use Rattle.pgn_reader.specs.Words.{Word, words_of}
use Rattle.pgn_reader.specs.Tags.{Tags, result_of_tags}
use Rattle.pgn_reader.specs.ReadingPlace.{fault_at_end}
use Rattle.pgn_reader.specs.Verdict.{HasTokenFault}
use Rattle.pgn_reader.specs.Internal.Machine.{run, first as start_state}
use Rattle.pgn_reader.specs.Internal.GameAssembly.{reading_place_of, game_of_frame}
use Rattle.pgn_reader.specs.Internal.ReaderView.{head_of, state_of, moves_in}
use Rattle.pgn_reader.specs.Limits.{most_moves}

-- all tokens were read, and a game ends with them
pub record IsWhole (ts : List Word) (r : Reader) : Type 0 where
  pub is_run : run start_state ts ≡ state_of r
  pub few : moves_in (state_of r) ≤ most_moves
  pub ends : fault_at_end (reading_place_of (state_of r)) ≡ None

-- the reading of the bytes of a game, if they are not too many
abbrev pub IsReading : (start : ℕ) → (first : Bool) → (bytes : List ℕ) → Result Reader GameFault → Type 0
IsReading start first bytes (Ok r) = IsWhole (words_of start first bytes) r
IsReading start first bytes (Err f) = HasTokenFault start first bytes f

-- the result of the marker, or without one that of the tags
abbrev pub ending_by : Phase → Tags → GameResult
ending_by (AfterResult result) tags = result
ending_by _ tags = result_of_tags tags

-- the game of which all tokens were read
abbrev pub game_of : Reader → Game
game_of r = game_of_frame (head_of r) r.line (ending_by r.phase r.tag_section.tags)
