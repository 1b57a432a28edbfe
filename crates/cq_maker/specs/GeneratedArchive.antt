-- The archive that is generated from a seed.
use Rattle.std.specs.Prelude.{ℕ, zero, suc, ◌+◌, List, [], ◌∷◌, codes, decimal, None, if◌then◌else◌}
use Rattle.std.specs.List.{flat_map}
use Rattle.cq_position.specs.declared.games.GameResult.{GameResult}
use Rattle.cq_position.specs.declared.games.GameResult.TheVariants.{White as WhiteWon, Black as BlackWon, Draw, Open as Undecided}
use Rattle.cq_position.specs.declared.men.Side.{Side}
use Rattle.cq_position.specs.declared.men.Side.TheVariants.{White, Black}
use Rattle.cq_position.specs.Attacks.{in_check}
use Rattle.cq_position.specs.Board.{Board, start_board}
use Rattle.cq_position.specs.Continuations.{nodes_from}
use Rattle.cq_position.specs.Games.{Game, bare_node}
use Rattle.cq_position.specs.Men.{opponent}
use Rattle.pgn_export.specs.Export.{export_text}
use Rattle.pgn_export.specs.TagLines.{written_tags}
use Rattle.cq_maker.specs.Draws.{next, drawn}
use Rattle.cq_maker.specs.Line.{Line, line, is_over}

-- the result of a game that a side wins
abbrev pub won_by : Side → GameResult
won_by White = WhiteWon
won_by Black = BlackWon

-- mate wins (FIDE Laws of Chess, article 5.1.1), and stalemate is a draw (5.2.1)
unfoldable pub ending : Board → GameResult
ending p = if is_over p then (if in_check p.men p.side then won_by (opponent p.side) else Draw) else Undecided

-- a number of plies from 20 to 79 is drawn, and then a line of at most that many plies, from the initial array
unfoldable pub generated_line : ℕ → Line
generated_line x = line (20 + drawn x 60) start_board (next x)

-- the tags that have no default
abbrev pub generated_tags : ℕ → List (List ℕ × List ℕ)
generated_tags number = (codes "Event", codes "Selfrun") ∷ (codes "Round", decimal number) ∷ []

-- the game with a number and a line
unfoldable pub generated_game : ℕ → Line → Game
generated_game number l = record {
  tags = generated_tags number;
  result = ending l.last;
  nodes = bare_node None None start_board ∷ nodes_from 0 1 l.moves;
}

-- a game as it is read back from its text: with all tags that are written
abbrev pub as_read : Game → Game
as_read g = record g { tags = written_tags g }

-- `games` games, numbered from a number on; the draws of each continue those of the game before it
unfoldable pub generated_games : (number games x : ℕ) → List Game
generated_games number zero x = []
generated_games number (suc games) x = generated_game number (generated_line x) ∷ generated_games (number + 1) games (generated_line x).state

-- the export texts of the games, one after another
unfoldable pub generated_archive : (seed games : ℕ) → List ℕ
generated_archive seed games = flat_map export_text (generated_games 1 games seed)
