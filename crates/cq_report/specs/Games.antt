-- The lines of a report over games.
use Rattle.std.specs.Prelude.{ℕ, List, ◌++◌, codes, decimal}
use Rattle.pgn_reader.specs.declared.fault.GameFault.{GameFault}
use Rattle.pgn_reader.specs.declared.fault.Reason.{Reason}
use Rattle.pgn_reader.specs.declared.fault.Reason.TheVariants.{BadByte, UnclosedComment, UnclosedString, BadTag, BadFen, NagRange, NotAMove, IllegalMove, AmbiguousMove, VariationWithoutMove, EmptyVariation, UnopenedVariation, UnclosedVariation, TooDeep, TooManyPositions, GameTooLong}

-- the text of each reason
abbrev pub reason_text : Reason → List ℕ
reason_text BadByte = codes "bad byte"
reason_text UnclosedComment = codes "unclosed comment"
reason_text UnclosedString = codes "unclosed string"
reason_text BadTag = codes "bad tag"
reason_text BadFen = codes "bad FEN"
reason_text NagRange = codes "NAG out of range"
reason_text NotAMove = codes "not a move"
reason_text IllegalMove = codes "illegal move"
reason_text AmbiguousMove = codes "ambiguous move"
reason_text VariationWithoutMove = codes "variation without move"
reason_text EmptyVariation = codes "empty variation"
reason_text UnopenedVariation = codes "unopened variation"
reason_text UnclosedVariation = codes "unclosed variation"
reason_text TooDeep = codes "too deep"
reason_text TooManyPositions = codes "too many positions"
reason_text GameTooLong = codes "game too long"

-- the line of a faulty game: its number, from 1, the byte of its fault, from 0, and the reason
abbrev pub fault_line : ℕ → GameFault → List ℕ
fault_line game fault =
    codes "game " ++ decimal game ++ codes " byte " ++ decimal fault.byte ++ codes ": " ++ reason_text fault.reason ++ codes "\n"

-- the numbers of all games, of those that match, and of the faulty ones
abbrev pub counts : (games matched refused : ℕ) → List ℕ
counts games matched refused =
    codes "games " ++ decimal games ++ codes " matched " ++ decimal matched ++ codes " refused " ++ decimal refused

-- the last line of a report
abbrev pub summary_line : (games matched refused : ℕ) → List ℕ
summary_line games matched refused = counts games matched refused ++ codes "\n"

-- the line of a made archive that was searched: the number of its bytes, the counts of its games, and the bytes of the exports
abbrev pub made_line : (bytes games matched refused written : ℕ) → List ℕ
made_line bytes games matched refused written =
    codes "bytes " ++ decimal bytes ++ codes " " ++ counts games matched refused ++ codes " written " ++ decimal written ++ codes "\n"

-- the line over the exports of one of several queries: its number, from 1, and their length in bytes
abbrev pub head_line : (query bytes : ℕ) → List ℕ
head_line query bytes = codes "query " ++ decimal query ++ codes " bytes " ++ decimal bytes ++ codes "\n"
