-- The texts of lexemes and tokens.
use Rattle.std.proofs.Common.{◌≡◌, ℕ, zero, suc, ◌+◌, ◌-◌, ◌≤◌, Bool, false, List, [], ◌∷◌, ◌++◌, length, take, drop, refl, ap₂, ◌∙◌, subst, arith}
use Rattle.std.specs.Prelude.{All, slice_range}
use Rattle.std.specs.List.{AllByRecursion}
use Rattle.std.proofs.lemmas.List.Elements.{All-from_recursion}
use Rattle.cq_common.specs.Text.{is_white}
use Rattle.pgn_lexer.specs.Bytes.{ends_line}
use Rattle.pgn_lexer.specs.Grammar.{IsLexeme}
use Rattle.pgn_lexer.specs.Lexemes.{Lexeme, end, lexeme, lexemes, lexemes_from, token_if, tokens_among, tokens_of}
use Rattle.pgn_lexer.specs.Locality.{AreLexemesInOrder, StandsIn}
use Rattle.pgn_lexer.specs.Readings.{reading}
use Rattle.pgn_lexer.specs.Texts.{IsSpelled, IsTokenOf, AreTokensInOrder}
use Rattle.pgn_lexer.specs.declared.token.LexemeKind.{LexemeKind}
use Rattle.pgn_lexer.specs.declared.token.LexemeKind.TheVariants.{EscapeLine, Token}
use Rattle.pgn_lexer.specs.declared.token.TokenKind.{TokenKind}
use Rattle.pgn_lexer.specs.declared.token.TokenKind.TheVariants.{Open, Close, Text, Symbol, Period, Star, LeftParen, RightParen, Nag, Null, Comment, LineComment, BadByte, UnclosedComment, UnclosedText}
use Rattle.pgn_lexer.specs.declared.token.Token.{Token as GameToken}
use Rattle.pgn_lexer.proofs.Apart.{in_order, stand_apart}
use Rattle.pgn_lexer.proofs.Lists.{map_all, both_all}
use Rattle.pgn_lexer.proofs.Local.{text_len}
use Rattle.pgn_lexer.proofs.Spelled.{reading_reads}
use Rattle.pgn_lexer.proofs.Within.{of_both}

-- a lexeme after a place, and its bytes
record IsAfter (at : ℕ) (bs : List ℕ) (l : Lexeme) : Type 0 where
  after : at ≤ l.at
  spelled : IsSpelled at bs l

one_on : (at b : ℕ) (bs : List ℕ) (l : Lexeme) → IsAfter (at + 1) bs l → IsAfter at (b ∷ bs) l
one_on at b bs l stands =
    let after = stands.after in
    let from : suc (l.at - (at + 1)) ≡ l.at - at = omega arith in
    let size : (end l - (at + 1)) - (l.at - (at + 1)) ≡ (end l - at) - (l.at - at) = omega arith in
    record {
      after = omega arith;
      spelled = record { slice = stands.spelled.slice ∙ ap₂ (λ i n. take n (drop i (b ∷ bs))) from size; kind = stands.spelled.kind };
    }

all_after : (bs : List ℕ) (inside at : ℕ) (first : Bool) → AllByRecursion (IsAfter at bs) (lexemes_from bs inside at first)
unfolding lexemes_from
all_after [] inside at first = tt
all_after (b ∷ bs) (suc inside) at first = map_all (IsAfter (at + 1) bs) (IsAfter at (b ∷ bs)) (one_on at b bs)
    (lexemes_from bs inside (at + 1) (ends_line b)) (all_after bs inside (at + 1) (ends_line b))
all_after (b ∷ bs) zero at first =
    let r = reading first b bs in
    let l = lexeme at first b bs in
    of_both (AllByRecursion (IsAfter at (b ∷ bs))) (is_white b) (lexemes_from bs 0 (at + 1) (ends_line b)) (l ∷ lexemes_from bs (r.len - 1) (at + 1) (ends_line b))
    (λ _. map_all (IsAfter (at + 1) bs) (IsAfter at (b ∷ bs)) (one_on at b bs) (lexemes_from bs 0 (at + 1) (ends_line b)) (all_after bs 0 (at + 1) (ends_line b)))
    (λ _.
    let len = text_len at first b bs in
    let from : 0 ≡ l.at - at = omega arith in
    let size : r.len ≡ (end l - at) - (l.at - at) = omega arith in (
      record { after = omega arith; spelled = record { slice = ap₂ (λ i n. take n (drop i (b ∷ bs))) from size; kind = reading_reads first b bs } },
      map_all (IsAfter (at + 1) bs) (IsAfter at (b ∷ bs)) (one_on at b bs) (lexemes_from bs (r.len - 1) (at + 1) (ends_line b)) (all_after bs (r.len - 1) (at + 1) (ends_line b)),
    ))

-- each lexeme of a text is spelled in it
pub all_spelled : (start : ℕ) (first : Bool) (bytes : List ℕ) → AllByRecursion (IsSpelled start bytes) (lexemes start first bytes)
all_spelled start first bytes = map_all (IsAfter start bytes) (IsSpelled start bytes) (λ l stands. stands.spelled) (lexemes start first bytes) (all_after bytes 0 start first)

-- the column counts for escape lines alone
any_column : (first : Bool) (kind : TokenKind) (text : List ℕ) → IsLexeme first (Token kind) text → IsLexeme false (Token kind) text
any_column first Open text h = h
any_column first Close text h = h
any_column first Text text h = h
any_column first Symbol text h = h
any_column first Period text h = h
any_column first Star text h = h
any_column first LeftParen text h = h
any_column first RightParen text h = h
any_column first (Nag n) text h = h
any_column first Null text h = h
any_column first Comment text h = h
any_column first LineComment text h = h
any_column first BadByte text h = h
any_column first UnclosedComment text h = h
any_column first UnclosedText text h = h

module _ (start : ℕ) (first : Bool) (bytes : List ℕ) where
  Known : Lexeme → Type 0
  Known l = StandsIn start first bytes l × IsSpelled start bytes l

  -- the token of a lexeme, with those of the lexemes after it
  one_token : (l : Lexeme) (kind : LexemeKind) → l.kind ≡ kind → (ts : List GameToken) → Known l → AllByRecursion (IsTokenOf start bytes) ts
      → AllByRecursion (IsTokenOf start bytes) (token_if l.at (length l.text) kind ++ ts)
  unfolding Known
  one_token l EscapeLine is ts known rest = rest
  one_token l (Token kind) is ts known rest = (
    record {
      from_start = known.0.from_start;
      some = known.0.some;
      to_end = known.0.to_end;
      spelled = any_column l.first kind _ (subst (λ k. IsLexeme l.first k (slice_range bytes (l.at - start) (end l - start))) is (subst (IsLexeme l.first l.kind) known.1.slice known.1.kind));
    },
    rest,
  )

  all_tokens : (ls : List Lexeme) → AllByRecursion Known ls → AllByRecursion (IsTokenOf start bytes) (tokens_among ls)
  all_tokens [] all = tt
  all_tokens (l ∷ ls) all = one_token l l.kind refl (tokens_among ls) all.0 (all_tokens ls all.1)

  pub tokens_stand : AllByRecursion (IsTokenOf start bytes) (tokens_of start first bytes)
  unfolding Known
  tokens_stand = all_tokens (lexemes start first bytes) (both_all (StandsIn start first bytes) (IsSpelled start bytes) (lexemes start first bytes)
      (stand_apart start first bytes) (all_spelled start first bytes))

  pub each_token_stands : All (IsTokenOf start bytes) (tokens_of start first bytes)
  each_token_stands = All-from_recursion (IsTokenOf start bytes) (tokens_of start first bytes) tokens_stand

lower : (from less : ℕ) (ts : List GameToken) → less ≤ from → AreTokensInOrder from ts → AreTokensInOrder less ts
lower from less [] le order = tt
lower from less (t ∷ ts) le order = let begins = order.0 in (omega arith, order.1)

one_in_order : (from at len : ℕ) (kind : LexemeKind) (ts : List GameToken) → from ≤ at → AreTokensInOrder (at + len) ts → AreTokensInOrder from (token_if at len kind ++ ts)
one_in_order from at len EscapeLine ts begins rest = lower (at + len) from ts (omega arith) rest
one_in_order from at len (Token kind) ts begins rest = (begins, rest)

tokens_ordered : (from : ℕ) (ls : List Lexeme) → AreLexemesInOrder from ls → AreTokensInOrder from (tokens_among ls)
tokens_ordered from [] order = tt
tokens_ordered from (l ∷ ls) order = one_in_order from l.at (length l.text) l.kind (tokens_among ls) order.0 (tokens_ordered (end l) ls order.2)

pub tokens_in_order : (start : ℕ) (first : Bool) (bytes : List ℕ) → AreTokensInOrder start (tokens_of start first bytes)
tokens_in_order start first bytes = tokens_ordered start (lexemes start first bytes) (in_order bytes 0 start first start (omega arith))
