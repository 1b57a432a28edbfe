-- The tags of a game that is being read, as the private functions give them.
use Rattle.std.specs.Prelude.{◌≡◌, Result, Ok, Err}
use Rattle.cq_common.specs.declared.faults.Refusal.{Refusal}
use Rattle.cq_common.specs.declared.faults.Refusal.TheVariants.{Fault, NoMemory}
use Rattle.cq_position.specs.Board.{Board}
use Rattle.cq_position.specs.declared.fen.FenFault.{FenFault}
use Rattle.pgn_reader.specs.Tags.{Tags, start_of}

-- tags, and the position in which the game begins by them
pub record TagSection : Type 0 where
  pub tags : Tags
  pub start : Board

-- the result of adding a tag, if these are the tags with it: the text of the tag FEN may be no position
abbrev pub IsAdded : Tags → TagSection → Result (Unit {0}) (Refusal FenFault) → Type 0
IsAdded tags p (Ok done) = (p.tags ≡ tags) × (start_of tags ≡ Ok p.start)
IsAdded tags p (Err (Fault fault)) = start_of tags ≡ Err fault
IsAdded tags p (Err NoMemory) = Unit {0}
