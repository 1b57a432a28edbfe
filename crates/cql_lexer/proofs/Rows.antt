-- The definitions at worked rows.
use Rattle.std.proofs.Common.{◌≡◌, ℕ, true, false, List, [], ◌∷◌, ◌++◌, Result, Ok, Err, refl}
use Rattle.std.specs.Prelude.{codes}
use Rattle.cq_geometry.specs.Squares as board
use Rattle.cq_symmetry.specs.Parts.{is_whole}
use Rattle.cql_syntax.specs.Words.{word_of}
use Rattle.cql_syntax.specs.declared.fault.QueryFault.{QueryFault}
use Rattle.cql_syntax.specs.declared.fault.QueryReason.{QueryReason}
use Rattle.cql_syntax.specs.declared.fault.QueryReason.TheVariants.{BadByte, UnclosedText, NumberTooLarge}
use Rattle.cql_syntax.specs.declared.leaves.Outcome.TheVariants.{White, Unfinished}
use Rattle.cql_syntax.specs.declared.token.QueryToken.{QueryToken}
use Rattle.cql_syntax.specs.declared.token.QueryTokenKind.{QueryTokenKind}
use Rattle.cql_syntax.specs.declared.token.QueryTokenKind.TheVariants.{Word, Reserved, Name, Squares, Number, Text, FileName, Outcome, Mark, End}
use Rattle.cql_lexer.specs.Designators.{designator, men_on, squares_within}
use Rattle.cql_lexer.specs.Lexemes.{first_lexeme, file_name, outcome, quoted, number, named, named_or_squares, mark, mark_number}
use Rattle.cql_lexer.specs.Longest.{longest, longest_within}
use Rattle.cql_lexer.specs.Tokens.{separator_len, tokens_from, tokens_of}

abbrev token : ℕ → QueryTokenKind → QueryToken
token at kind = record { at = at; kind = kind }

abbrev fault : ℕ → QueryReason → Result (List QueryToken) QueryFault
fault byte reason = Err (record { byte = byte; reason = reason })

-- men on some squares, which are neither whole ranks nor whole files
abbrev men : ℕ → ℕ → QueryTokenKind
men those on = Squares (record { men = those; part = record { squares = on; whole_ranks = false; whole_files = false } })

-- men on all squares
abbrev men_anywhere : ℕ → QueryTokenKind
men_anywhere those = Squares (record { men = those; part = record { squares = 0xffffffffffffffff; whole_ranks = true; whole_files = true } })

-- any man or none
abbrev any : ℕ
any = 0x1fff

-- a man on a square
king_on_a1 : tokens_of (codes "Ka1") ≡ Ok (token 0 (men 1 1) ∷ token 3 End ∷ [])
unfolding tokens_of tokens_from separator_len first_lexeme file_name outcome named_or_squares longest longest_within designator men_on is_whole board.squares squares_within
king_on_a1 = refl

-- a range of ranks has one `-` alone: c3 to c6, then the mark `-` and a number
range_and_minus : tokens_of (codes "c3-6-7") ≡ Ok (token 0 (men any 0x40404040000) ∷ token 4 (Mark 8) ∷ token 5 (Number 7) ∷ token 6 End ∷ [])
unfolding tokens_of tokens_from separator_len first_lexeme file_name outcome number named_or_squares mark mark_number longest longest_within designator men_on is_whole board.squares squares_within
range_and_minus = refl

-- a reversed range is the same range: here of files and of ranks, so that it is the whole board
reversed_ranges : tokens_of (codes "h-a8-1") ≡ Ok (token 0 (men_anywhere any) ∷ token 6 End ∷ [])
unfolding tokens_of tokens_from separator_len first_lexeme file_name outcome named_or_squares longest longest_within designator men_on is_whole board.squares squares_within
reversed_ranges = refl

-- black men on a1, and the second rank, which is whole
black_men_and_rank : tokens_of (codes "aa1 a-h2") ≡ Ok
    (token 0 (men 0xfc0 1) ∷ token 4 (Squares (record { men = any; part = record { squares = 0xff00; whole_ranks = true; whole_files = false } })) ∷ token 8 End ∷ [])
unfolding tokens_of tokens_from separator_len first_lexeme file_name outcome named_or_squares longest longest_within designator men_on is_whole board.squares squares_within
black_men_and_rank = refl

-- choices in brackets, of men and of squares: a king or a queen on a1, then a1 and b2 to b3
choices : tokens_of (codes "[KQ]a1[a1,b2-3]") ≡ Ok (token 0 (men 3 1) ∷ token 6 (men any 0x20201) ∷ token 15 End ∷ [])
unfolding tokens_of tokens_from separator_len first_lexeme file_name outcome named_or_squares longest longest_within designator men_on is_whole board.squares squares_within
choices = refl

-- brackets hold letters of men or whole specifications, but not files alone
files_in_brackets : tokens_of (codes "[a-c,h]1-3") ≡ fault 0 BadByte
unfolding tokens_of tokens_from separator_len first_lexeme file_name outcome named_or_squares mark mark_number longest longest_within designator
files_in_brackets = refl

-- any man or none on all squares
dot : tokens_of (codes ".") ≡ Ok (token 0 (men_anywhere any) ∷ token 1 End ∷ [])
unfolding tokens_of tokens_from separator_len first_lexeme file_name outcome named_or_squares longest longest_within designator men_on is_whole board.squares squares_within
dot = refl

-- a designator that ends within a run of letters gives way to the name: `b` alone is a black bishop
name_or_bishop : tokens_of (codes "bishop b") ≡ Ok (token 0 (Name (codes "bishop")) ∷ token 7 (men_anywhere 0x200) ∷ token 8 End ∷ [])
unfolding tokens_of tokens_from separator_len first_lexeme file_name outcome named named_or_squares longest longest_within designator men_on is_whole board.squares squares_within
name_or_bishop = refl

-- a word, a name that is kept back and another name
names : tokens_of (codes "check echo moves") ≡ Ok (token 0 (Word 5) ∷ token 6 (Reserved (codes "echo")) ∷ token 11 (Name (codes "moves")) ∷ token 16 End ∷ [])
unfolding tokens_of tokens_from separator_len first_lexeme file_name outcome named named_or_squares longest longest_within designator men_on is_whole board.squares squares_within word_of
names = refl

-- digits begin a number and no name
digits_first : tokens_of (codes "1_") ≡ Ok (token 0 (Number 1) ∷ token 1 (men_anywhere 0x1000) ∷ token 2 End ∷ [])
unfolding tokens_of tokens_from separator_len first_lexeme file_name outcome number named_or_squares longest longest_within designator men_on is_whole board.squares squares_within
digits_first = refl

-- the greatest number, and the next one
greatest_number : tokens_of (codes "999999999 1000000000") ≡ fault 10 NumberTooLarge
unfolding tokens_of tokens_from separator_len first_lexeme file_name outcome number
greatest_number = refl

-- a text has no escapes, and one that is not closed is a fault at its quote
unclosed_text : tokens_of (codes "\"a\\\"b\"") ≡ fault 5 UnclosedText
unfolding tokens_of tokens_from separator_len first_lexeme file_name outcome quoted named_or_squares longest longest_within designator men_on is_whole board.squares squares_within
unclosed_text = refl

-- a comment ends at its line's end, and nothing in it counts
comments : tokens_of (codes "// \"$" ++ 10 ∷ codes "R//") ≡ Ok (token 6 (men_anywhere 4) ∷ token 9 End ∷ [])
unfolding tokens_of tokens_from separator_len first_lexeme file_name outcome named_or_squares longest longest_within designator men_on is_whole board.squares squares_within
comments = refl

-- after `input` the name of a file, in which `//` begins no comment; a text may follow instead
file_names : tokens_of (codes "input a//b output \"c d\"") ≡ Ok (token 0 (Word 1) ∷ token 6 (FileName (codes "a//b")) ∷ token 11 (Word 2) ∷ token 18 (Text (codes "c d")) ∷ token 23 End ∷ [])
unfolding tokens_of tokens_from separator_len first_lexeme file_name outcome quoted named named_or_squares longest longest_within designator word_of
file_names = refl

-- after `result` a result, even where a number goes on
results : tokens_of (codes "result 1-00") ≡ Ok (token 0 (Word 19) ∷ token 7 (Outcome White) ∷ token 10 (Number 0) ∷ token 11 End ∷ [])
unfolding tokens_of tokens_from separator_len first_lexeme file_name outcome number named named_or_squares longest longest_within designator word_of
results = refl

-- there alone `*` is a result, and else a mark
stars : tokens_of (codes "result// c" ++ 10 ∷ codes "**") ≡ Ok (token 0 (Word 19) ∷ token 11 (Outcome Unfinished) ∷ token 12 (Mark 9) ∷ token 13 End ∷ [])
unfolding tokens_of tokens_from separator_len first_lexeme file_name outcome named named_or_squares mark mark_number longest longest_within designator word_of
stars = refl

-- the longest mark
arrows : tokens_of (codes "-->--->") ≡ Ok (token 0 (Mark 0) ∷ token 3 (Mark 8) ∷ token 4 (Mark 0) ∷ token 7 End ∷ [])
unfolding tokens_of tokens_from separator_len first_lexeme file_name outcome named_or_squares mark mark_number longest longest_within
arrows = refl
