-- The tokens of a query text.
use Rattle.std.specs.Prelude.{◌≡◌, ◌<◌, ◌≤◌, ℕ, zero, suc, ◌+◌, ◌-◌, ◌^◌, nat_lt, List, [], ◌∷◌, ◌++◌, length, drop, Option, Some, Result, Ok, Err, if◌then◌else◌, codes, nat_eq, unwrap_or}
use Rattle.std.specs.List.{prefix_len, position, starts_with}
use Rattle.cq_symmetry.specs.Parts.{are_whole_ranks, are_whole_files}
use Rattle.cql_syntax.specs.Limits.{most_bytes, greatest_number}
use Rattle.cql_syntax.specs.Words.{words, marks, word_of}
use Rattle.cql_syntax.specs.declared.leaves.Designator.{Designator}
use Rattle.cql_syntax.specs.declared.token.QueryToken.{QueryToken}
use Rattle.cql_syntax.specs.declared.token.QueryTokenKind.{QueryTokenKind}
use Rattle.cql_syntax.specs.declared.token.QueryTokenKind.TheVariants.{Word, Squares, Number, Mark, End}
use Rattle.cql_syntax.specs.declared.words.Word.{Word as Meaning}
use Rattle.cql_syntax.specs.declared.words.Word.TheVariants as meanings
use Rattle.cql_syntax.specs.declared.fault.QueryFault.{QueryFault}
use Rattle.cql_syntax.specs.declared.fault.QueryReason.TheVariants.{QueryTooLong}
use Rattle.cql_lexer.specs.declared.expected.Expected.{Expected}
use Rattle.cql_lexer.specs.declared.expected.Expected.TheVariants.{Token, FileName, Outcome}
use Rattle.cq_common.specs.Text.{is_white}
use Rattle.cql_lexer.specs.Characters.{is_line_feed}
use Rattle.cql_lexer.specs.Lexemes.{first_lexeme}

-- the tokens that may directly follow a word, besides those that may occur anywhere
abbrev pub expected_after_word : Option Meaning → Expected
expected_after_word (Some meanings.Input) = FileName
expected_after_word (Some meanings.Output) = FileName
expected_after_word (Some meanings.Result) = Outcome
expected_after_word word = Token

-- the tokens that may directly follow a token, besides those that may occur anywhere
abbrev pub expected_after : QueryTokenKind → Expected
expected_after (Word word) = expected_after_word (word_of word)
expected_after kind = Token

-- the number of bytes at the front that only separate tokens: white space, or `//` and the rest of its line
unfoldable pub separator_len : List ℕ → ℕ
separator_len text =
    if starts_with nat_eq text (codes "//") then unwrap_or (position is_line_feed text) (length text) else prefix_len is_white text

-- the token at the front of a text that begins at byte `at` of the query, and its length, or the fault there
abbrev pub token_at : Expected → ℕ → List ℕ → Result (QueryToken × ℕ) QueryFault
token_at expected at text =
    elim (first_lexeme expected text) [
      | Ok found ↦ Ok (record { at = at; kind = found.kind }, found.len)
      | Err reason ↦ Err (record { byte = at; reason = reason })
    ]

-- the result of a function applied to a value; a fault stays
abbrev pub result_and_then : {X Y E : Type 0} → (X → Result Y E) → Result X E → Result Y E
result_and_then f (Ok x) = f x
result_and_then f (Err e) = Err e

-- the tokens with other tokens before them, or the fault
abbrev pub with_front : List QueryToken → Result (List QueryToken) QueryFault → Result (List QueryToken) QueryFault
with_front front (Ok tokens) = Ok (front ++ tokens)
with_front front (Err fault) = Err fault

-- The tokens of a text that begins at byte `at` of the query, up to the end, or the first fault. Its first `passed` bytes belong to the
-- token before. From each other byte white space and comments are skipped, or else a token is read.
unfoldable pub tokens_from : ℕ → ℕ → Expected → List ℕ → Result (List QueryToken) QueryFault
tokens_from passed at expected [] = Ok (record { at = at; kind = End } ∷ [])
tokens_from (suc passed) at expected (b ∷ text) = tokens_from passed (at + 1) expected text
tokens_from zero at expected (b ∷ text) =
    let separator = separator_len (b ∷ text) in
    if nat_lt 0 separator then tokens_from (separator - 1) (at + 1) expected text
    else result_and_then
    (λ found. with_front (found.0 ∷ []) (tokens_from (found.1 - 1) (at + 1) (expected_after found.0.kind) text))
    (token_at expected at (b ∷ text))

-- the tokens of a query, or its first lexical fault
unfoldable pub tokens_of : List ℕ → Result (List QueryToken) QueryFault
tokens_of query =
    if nat_lt most_bytes (length query) then Err (record { byte = most_bytes; reason = QueryTooLong })
    else tokens_from 0 0 Token query

-- The readings of a text that begins at byte `at` of the query. Separators are skipped. Elsewhere the first lexeme is a token, and the
-- bytes after it are read next. The end is one token, and a fault ends the reading.
pub data Tokenizes : ℕ → Expected → List ℕ → Result (List QueryToken) QueryFault → Type 0 where
  ended : (at : ℕ) (expected : Expected) → Tokenizes at expected [] (Ok (record { at = at; kind = End } ∷ []))
  separated : (at : ℕ) (expected : Expected) (text : List ℕ) (read : Result (List QueryToken) QueryFault)
      → 0 < separator_len text → Tokenizes (at + separator_len text) expected (drop (separator_len text) text) read
      → Tokenizes at expected text read
  lexed : (at : ℕ) (expected : Expected) (text : List ℕ) (token : QueryToken) (len : ℕ) (read : Result (List QueryToken) QueryFault)
      → 0 < length text → separator_len text ≡ 0 → token_at expected at text ≡ Ok (token, len)
      → Tokenizes (at + len) (expected_after token.kind) (drop len text) read → Tokenizes at expected text (with_front (token ∷ []) read)
  faulty : (at : ℕ) (expected : Expected) (text : List ℕ) (fault : QueryFault)
      → 0 < length text → separator_len text ≡ 0 → token_at expected at text ≡ Err fault → Tokenizes at expected text (Err fault)

-- Men, squares, and flags that are right for the squares. There are 13 men, the empty square one of them.
pub record IsProperDesignator (designator : Designator) : Type 0 where
  pub men : 0 < designator.men
  pub men_fit : designator.men < 2 ^ 13
  pub squares : 0 < designator.part.squares
  pub squares_fit : designator.part.squares < 2 ^ 64
  pub whole_ranks : designator.part.whole_ranks ≡ are_whole_ranks designator.part.squares
  pub whole_files : designator.part.whole_files ≡ are_whole_files designator.part.squares

-- a token other than the end, with its number in range and a proper designator
abbrev pub IsProper : QueryTokenKind → Type 0
IsProper (Word word) = word < length words
IsProper (Squares designator) = IsProperDesignator designator
IsProper (Number number) = number ≤ greatest_number
IsProper (Mark mark) = mark < length marks
IsProper End = ⊥
IsProper kind = Unit {0}

-- proper tokens, and then one end at this byte
abbrev pub EndOnce : ℕ → List QueryToken → Type 0
EndOnce end [] = ⊥
EndOnce end (token ∷ []) = token ≡ record { at = end; kind = End }
EndOnce end (token ∷ next ∷ tokens) = IsProper token.kind × EndOnce end (next ∷ tokens)
