-- The values that queries read from a game's tags and its result.
use Rattle.std.specs.Prelude.{ℕ, ◌+◌, ◌-◌, ◌*◌, Bool, true, false, ◌&&◌, ◌||◌, nat_le, if◌then◌else◌, List, [], length, take, drop, Option, Some, None, codes, fold, ℤ, pos}
use Rattle.std.specs.List.{list_any, list_all, range_with_len, find}
use Rattle.std.specs.Char.{is_ascii_digit}
use Rattle.std.specs.Str.{bytes_eq}
use Rattle.cq_position.specs.declared.games.GameResult.{GameResult}
use Rattle.cq_position.specs.declared.games.GameResult.TheVariants.{White as WhiteWon, Black as BlackWon, Draw as Drawn, Open}
use Rattle.cq_position.specs.Games.{Game}
use Rattle.cql_syntax.specs.declared.leaves.Field.{Field}
use Rattle.cql_syntax.specs.declared.leaves.Field.TheVariants.{Player, Event, Site}
use Rattle.cql_syntax.specs.declared.leaves.Of.{Of}
use Rattle.cql_syntax.specs.declared.leaves.Of.TheVariants.{Either, White, Black}
use Rattle.cql_syntax.specs.declared.leaves.Outcome.{Outcome}
use Rattle.cql_syntax.specs.declared.leaves.Outcome.TheVariants.{White as WhiteWins, Black as BlackWins, Draw, Unfinished}
use Rattle.cql_syntax.specs.Values.{greater}

-- the value of a tag (PGN standard, section 8.1); a missing tag has the empty text
abbrev pub value_or_empty : Option (List ℕ × List ℕ) → List ℕ
value_or_empty None = []
value_or_empty (Some entry) = entry.1

abbrev pub tag : Game → List ℕ → List ℕ
tag game name = value_or_empty (find (λ entry. bytes_eq entry.0 name) game.tags)

-- a text is a part of another from some byte on; upper and lower case differ
abbrev pub is_part_of : List ℕ → List ℕ → Bool
is_part_of text whole = list_any (λ k. bytes_eq text (take (length text) (drop k whole))) (range_with_len 0 (length whole + 1))

-- true if a text is a part of one player's name, of either player's, or of the event's or site's name
abbrev pub has_text : Game → Field → List ℕ → Bool
has_text game (Player White) text = is_part_of text (tag game (codes "White"))
has_text game (Player Black) text = is_part_of text (tag game (codes "Black"))
has_text game (Player Either) text = is_part_of text (tag game (codes "White")) || is_part_of text (tag game (codes "Black"))
has_text game Event text = is_part_of text (tag game (codes "Event"))
has_text game Site text = is_part_of text (tag game (codes "Site"))

-- the number that a text of one to so many digits writes; none for any other text
abbrev pub number_in : ℕ → List ℕ → Option ℤ
number_in most text =
    if nat_le 1 (length text) && nat_le (length text) most && list_all is_ascii_digit text
    then Some (pos (fold (λ n b. n * 10 + (b - 48)) 0 text)) else None

-- the number that the first four bytes of the date write, if they are digits
abbrev pub year : Game → Option ℤ
year game = if nat_le 4 (length (tag game (codes "Date"))) then number_in 4 (take 4 (tag game (codes "Date"))) else None

-- a player's rating, of one to nine digits, or the greater one of both players
abbrev pub rating : Game → Of → Option ℤ
rating game White = number_in 9 (tag game (codes "WhiteElo"))
rating game Black = number_in 9 (tag game (codes "BlackElo"))
rating game Either = greater (number_in 9 (tag game (codes "WhiteElo"))) (number_in 9 (tag game (codes "BlackElo")))

-- true if the result of a game is the given one
abbrev pub is_result : Outcome → GameResult → Bool
is_result WhiteWins WhiteWon = true
is_result BlackWins BlackWon = true
is_result Draw Drawn = true
is_result Unfinished Open = true
is_result _ _ = false
