-- The tokens of a text, one after another.
use Rattle.std.proofs.Common.{◌≡◌, ℕ, ◌+◌, ◌-◌, ◌≤◌, Bool, true, false, List, [], ◌∷◌, ◌++◌, length, take, drop, refl, sym, ap, ap₂, ◌∙◌, arith, true≢false}
use Rattle.std.specs.Prelude.{◌==◌, ◌||◌, map, slice_range}
use Rattle.std.specs.List.{AllByRecursion, flat_map}
use Rattle.std.specs.Char.{is_ascii_digit}
use Rattle.std.proofs.lemmas.List.{map-append}
use Rattle.cq_common.specs.Text.{is_white}
use Rattle.pgn_lexer.specs.Bytes.{ends_line, continues_symbol}
use Rattle.pgn_lexer.specs.Lexemes.{Lexeme, lexemes, first_at, moved, token_if, token_of}
use Rattle.pgn_lexer.specs.Locality.{StandsIn}
use Rattle.pgn_lexer.specs.Texts.{IsSpelled}
use Rattle.pgn_lexer.specs.SingleLexeme.{runs_on, IsEndedBy, IsReadWhole}
use Rattle.pgn_lexer.specs.declared.token.LexemeKind.{LexemeKind}
use Rattle.pgn_lexer.specs.declared.token.LexemeKind.TheVariants.{EscapeLine, Token}
use Rattle.pgn_lexer.specs.declared.token.TokenKind.{TokenKind}
use Rattle.pgn_lexer.specs.declared.token.TokenKind.TheVariants.{Open, Close, Text, Symbol, Period, Star, LeftParen, RightParen, Nag, Null, Comment, LineComment, BadByte, UnclosedComment, UnclosedText}
use Rattle.pgn_lexer.proofs.Apart.{stand_apart}
use Rattle.pgn_lexer.proofs.Ended.{next, white_ends}
use Rattle.pgn_lexer.proofs.Texts.{all_spelled}
use Rattle.pgn_lexer.proofs.Walk.{all_moved, of_nothing, over_white_byte}
use Rattle.pgn_reader.specs.Words.{Word, word_of, words_of}

-- a lexeme as the tokens, with their bytes, that it gives a game
abbrev pub word_if : LexemeKind → List ℕ → List Word
word_if EscapeLine text = []
word_if (Token kind) text = (record { kind = kind; text = text }) ∷ []

abbrev pub word_in : Lexeme → List Word
word_in l = word_if l.kind l.text

-- the tokens of a text; `first` is true if it begins in the first column
unfoldable pub told : Bool → List ℕ → List Word
told first bytes = flat_map word_in (lexemes 0 first bytes)

-- they are those of the reader, at any place of the text
word_by : (start : ℕ) (bytes : List ℕ) (kind : LexemeKind) (at : ℕ) (text : List ℕ) → start ≤ at → text ≡ slice_range bytes (at - start) (at + length text - start)
    → map (word_of start bytes) (token_if at (length text) kind) ≡ word_if kind text
word_by start bytes EscapeLine at text from is = refl
word_by start bytes (Token kind) at text from is =
    let e : at + length text - start - (at - start) ≡ length text = omega (arith, from) in
    ap (λ t. (record { kind = kind; text = t }) ∷ []) (ap (λ n. take n (drop (at - start) bytes)) (sym e) ∙ sym is)

words_by : (start : ℕ) (first : Bool) (bytes : List ℕ) (ls : List Lexeme) → AllByRecursion (StandsIn start first bytes) ls → AllByRecursion (IsSpelled start bytes) ls
    → map (word_of start bytes) (flat_map token_of ls) ≡ flat_map word_in ls
words_by start first bytes [] stand spelled = refl
words_by start first bytes (l ∷ ls) stand spelled =
    map-append (word_of start bytes) (token_of l) (flat_map token_of ls)
    ∙ ap₂ (λ a b. a ++ b) (word_by start bytes l.kind l.at l.text stand.0.from_start spelled.0.slice) (words_by start first bytes ls stand.1 spelled.1)

moved_words : (n : ℕ) (ls : List Lexeme) → flat_map word_in (map (moved n) ls) ≡ flat_map word_in ls
moved_words n [] = refl
moved_words n (l ∷ ls) = ap (λ ws. word_in l ++ ws) (moved_words n ls)

pub told_at : (n : ℕ) (first : Bool) (bytes : List ℕ) → flat_map word_in (lexemes n first bytes) ≡ told first bytes
unfolding told
told_at n first bytes =
    ap (λ k. flat_map word_in (lexemes k first bytes)) (let e : n ≡ 0 + n = omega arith in e)
    ∙ ap (flat_map word_in) (all_moved n bytes 0 0 first)
    ∙ moved_words n (lexemes 0 first bytes)

pub words_told : (start : ℕ) (first : Bool) (bytes : List ℕ) → words_of start first bytes ≡ told first bytes
words_told start first bytes =
    words_by start first bytes (lexemes start first bytes) (stand_apart start first bytes) (all_spelled start first bytes)
    ∙ told_at start first bytes

-- none
pub told_nothing : (first : Bool) → told first [] ≡ []
unfolding told
told_nothing first = ap (flat_map word_in) (of_nothing 0 first)

-- over white space
pub told_white : (first : Bool) (b : ℕ) (bs : List ℕ) → is_white b ≡ true → told first (b ∷ bs) ≡ told (ends_line b) bs
unfolding told
told_white first b bs white = ap (flat_map word_in) (over_white_byte b bs 0 first white) ∙ told_at 1 (ends_line b) bs

-- a text is read as one token of this kind at any place, and white space doesn't continue it
pub record IsOne (kind : TokenKind) (b : ℕ) (bs : List ℕ) : Type 0 where
  pub whole : (first : Bool) → IsReadWhole first (Token kind) b bs
  pub still : runs_on (Token kind) ≡ false

-- over a token
pub told_one : (kind : TokenKind) (first : Bool) (b : ℕ) (bs more : List ℕ) → IsOne kind b bs → IsEndedBy (Token kind) more
    → told first (b ∷ bs ++ more) ≡ (record { kind = kind; text = b ∷ bs }) ∷ told (first_at first (b ∷ bs) (length (b ∷ bs))) more
unfolding told
told_one kind first b bs more one ended =
    ap (flat_map word_in) (next 0 first (Token kind) b bs more (one.whole first) ended)
    ∙ ap (λ (ws : List Word). (record { kind = kind; text = b ∷ bs }) ∷ ws) (told_at (0 + length (b ∷ bs)) (first_at first (b ∷ bs) (length (b ∷ bs))) more)

-- a text that continues no token except those that continue over white space
abbrev pub IsApart : List ℕ → Type 0
IsApart more = (kind : LexemeKind) → runs_on kind ≡ false → IsEndedBy kind more

pub apart_white : (b : ℕ) (bs : List ℕ) → is_white b ≡ true → IsApart (b ∷ bs)
apart_white b bs white kind still = white_ends kind b white still

pub apart_mark : (c : ℕ) (bs : List ℕ) → continues_symbol c ≡ false → (is_ascii_digit c || c == 33 || c == 63) ≡ false → (is_ascii_digit c || c == 45) ≡ false → IsApart (c ∷ bs)
apart_mark c bs symbol number bad EscapeLine still = absurd (true≢false still)
apart_mark c bs symbol number bad (Token Open) still = refl
apart_mark c bs symbol number bad (Token Close) still = refl
apart_mark c bs symbol number bad (Token Text) still = refl
apart_mark c bs symbol number bad (Token Symbol) still = symbol
apart_mark c bs symbol number bad (Token Period) still = refl
apart_mark c bs symbol number bad (Token Star) still = refl
apart_mark c bs symbol number bad (Token LeftParen) still = refl
apart_mark c bs symbol number bad (Token RightParen) still = refl
apart_mark c bs symbol number bad (Token (Nag n)) still = number
apart_mark c bs symbol number bad (Token Null) still = refl
apart_mark c bs symbol number bad (Token Comment) still = refl
apart_mark c bs symbol number bad (Token LineComment) still = absurd (true≢false still)
apart_mark c bs symbol number bad (Token BadByte) still = bad
apart_mark c bs symbol number bad (Token UnclosedComment) still = absurd (true≢false still)
apart_mark c bs symbol number bad (Token UnclosedText) still = absurd (true≢false still)
