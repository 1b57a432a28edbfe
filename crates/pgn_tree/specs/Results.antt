-- Markers of results.
use Rattle.std.specs.Prelude.{ℕ, List, codes}
use Rattle.cq_position.specs.declared.games.GameResult.{GameResult}
use Rattle.cq_position.specs.declared.games.GameResult.TheVariants.{White as WhiteWon, Black as BlackWon, Draw, Open as Undecided}

-- the marker at the end of a game (PGN standard, section 8.2.6), which is also the value of its Result tag (8.1.1.7)
abbrev pub result_text : GameResult → List ℕ
result_text WhiteWon = codes "1-0"
result_text BlackWon = codes "0-1"
result_text Draw = codes "1/2-1/2"
result_text Undecided = codes "*"
