-- One token at the front of a text, by the seven rules.
use Rattle.std.specs.Prelude.{ℕ, ◌+◌, ◌<◌, ◌≤◌, nat_lt, nat_le, nat_eq, List, length, take, drop, Option, None, Some, Result, Ok, Err, if◌then◌else◌, is_some, codes}
use Rattle.std.specs.Option.{option_map}
use Rattle.std.specs.List.{position, prefix_len, starts_with}
use Rattle.std.specs.Char.{is_ascii_digit}
use Rattle.std.specs.Str.Parse.{digits_value}
use Rattle.cql_syntax.specs.Limits.{greatest_number}
use Rattle.cql_syntax.specs.Words.{words, marks, reserved_names, place_of}
use Rattle.cql_syntax.specs.declared.leaves.Outcome.TheVariants as outcomes
use Rattle.cql_syntax.specs.declared.token.QueryTokenKind.{QueryTokenKind}
use Rattle.cql_syntax.specs.declared.token.QueryTokenKind.TheVariants.{Word, Reserved, Name, Squares, Number, Text, FileName, Outcome as OutcomeToken, Mark}
use Rattle.cql_syntax.specs.declared.fault.QueryReason.{QueryReason}
use Rattle.cql_syntax.specs.declared.fault.QueryReason.TheVariants.{BadByte, UnclosedText, NumberTooLarge}
use Rattle.cql_lexer.specs.declared.expected.Expected.{Expected}
use Rattle.cql_lexer.specs.declared.expected.Expected.TheVariants as expectations
use Rattle.cql_lexer.specs.declared.lexeme.Lexeme.{Lexeme}
use Rattle.cql_lexer.specs.Characters.{is_name_byte, is_file_byte, is_quote, begins_name_or_squares, begins}
use Rattle.cql_lexer.specs.Designators.{designator}
use Rattle.cql_lexer.specs.Longest.{longest}

-- a token of this kind, of so many bytes
abbrev pub of_len : ℕ → QueryTokenKind → Lexeme
of_len len kind = record { kind = kind; len = len }

-- it takes at least one byte, and no more than the text has
abbrev pub IsFront : Lexeme → List ℕ → Type 0
IsFront lexeme text = (0 < lexeme.len) × (lexeme.len ≤ length text)

-- 1. after `input` or `output`: the name of a file, the longest run of its bytes
unfoldable pub file_name : Expected → List ℕ → Option Lexeme
file_name expectations.FileName text =
    let len = prefix_len is_file_byte text in if nat_lt 0 len then Some (of_len len (FileName (take len text))) else None
file_name expected text = None

-- 2. after `result`: a result
unfoldable pub outcome : Expected → List ℕ → Option Lexeme
outcome expectations.Outcome text =
    if starts_with nat_eq text (codes "1/2-1/2") then Some (of_len 7 (OutcomeToken outcomes.Draw))
    else (if starts_with nat_eq text (codes "1-0") then Some (of_len 3 (OutcomeToken outcomes.White))
    else (if starts_with nat_eq text (codes "0-1") then Some (of_len 3 (OutcomeToken outcomes.Black))
    else (if starts_with nat_eq text (codes "*") then Some (of_len 1 (OutcomeToken outcomes.Unfinished))
    else None)))
outcome expected text = None

-- 3. at a quote: a text to the next quote, any bytes between
unfoldable pub quoted : List ℕ → Result Lexeme QueryReason
quoted text =
    elim (position is_quote (drop 1 text)) [
      | Some end ↦ Ok (of_len (end + 2) (Text (take end (drop 1 text))))
      | None ↦ Err UnclosedText
    ]

-- 4. at a digit: a number, the run of digits
unfoldable pub number : List ℕ → Result Lexeme QueryReason
number text =
    let len = prefix_len is_ascii_digit text in
    let value = digits_value 10 (take len text) in
    if nat_le value greatest_number then Ok (of_len len (Number value)) else Err NumberTooLarge

-- a word, a reserved name or another name
unfoldable pub named : List ℕ → QueryTokenKind
named name =
    elim (place_of name words) [
      | Some word ↦ Word word
      | None ↦ if is_some (place_of name reserved_names) then Reserved name else Name name
    ]

-- 5. at a letter, `_`, `.` or `[`: the longest designator, if it reaches the end of the run of letters, digits and `_`; otherwise that run
unfoldable pub named_or_squares : List ℕ → Option Lexeme
named_or_squares text =
    let run = prefix_len is_name_byte text in
    let name = (if nat_lt 0 run then Some (of_len run (named (take run text))) else None) in
    let squares = longest designator text in
    if begins begins_name_or_squares text
    then (elim squares [ Some found ↦ if nat_le run found.1 then Some (of_len found.1 (Squares found.0)) else name | None ↦ name ])
    else None

-- the number of the mark that is the whole text
unfoldable pub mark_number : List ℕ → Option ℕ
mark_number text = place_of text marks

-- 6. the longest mark
unfoldable pub mark : List ℕ → Option Lexeme
mark text = option_map (λ found. of_len found.1 (Mark found.0)) (longest mark_number text)

-- the first lexeme if there is one, else the other result
abbrev pub found_or : Option Lexeme → Result Lexeme QueryReason → Result Lexeme QueryReason
found_or (Some lexeme) other = Ok lexeme
found_or None other = other

-- the first rule that applies at the front of a text; 7. any other byte is bad
unfoldable pub first_lexeme : Expected → List ℕ → Result Lexeme QueryReason
first_lexeme expected text =
    found_or (file_name expected text)
    (found_or (outcome expected text)
    (if begins is_quote text then quoted text
    else (if begins is_ascii_digit text then number text
    else found_or (named_or_squares text) (found_or (mark text) (Err BadByte)))))
