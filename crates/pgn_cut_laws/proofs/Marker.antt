-- No token of a game of a cut comes after its marker.
use Rattle.std.proofs.Common.{◌≡◌, ℕ, ◌+◌, ◌-◌, Bool, true, false, List, [], ◌∷◌, ◌++◌, All, length, length-append, take, drop, map, Option, Some, None, refl, sym, ap, ap₂, ◌∙◌, subst, arith}
use Rattle.std.specs.Prelude.{◌&&◌, ◌||◌, ◌==◌, nat_lt, codes, fold, if◌then◌else◌}
use Rattle.std.specs.List.{list_all}
use Rattle.std.specs.Char.{is_ascii_digit, is_ascii_alphanumeric}
use Rattle.std.specs.Str.{bytes_eq}
use Rattle.std.proofs.lemmas.Slice.Eq.{bytes_eq-Decides}
use Rattle.std.proofs.Math.Seq.{get_or-append_seam}
use Rattle.cq_position.specs.declared.games.GameResult.{GameResult}
use Rattle.cq_position.specs.declared.games.GameResult.TheVariants.{White, Black, Draw, Open as Undecided}
use Rattle.pgn_lexer.specs.Grammar.{IsLexeme}
use Rattle.pgn_lexer.specs.Lexemes.{tokens_of}
use Rattle.pgn_lexer.specs.Texts.{IsTokenOf, token_text}
use Rattle.pgn_lexer.specs.declared.token.LexemeKind.TheVariants.{Token}
use Rattle.pgn_lexer.specs.declared.token.Token.{Token as GameToken}
use Rattle.pgn_lexer.specs.declared.token.TokenKind.{TokenKind}
use Rattle.pgn_lexer.specs.declared.token.TokenKind.TheVariants.{Symbol, Star, Nag}
use Rattle.pgn_cut.specs.Cut.{is_result, marks, nest}
use Rattle.pgn_cut.specs.OneGame.{token_depth, IsEndedByMarker}
use Rattle.pgn_reader.specs.declared.fault.Reason.TheVariants.{NagRange}
use Rattle.pgn_cut_laws.specs.Marker.{next_depth, depth_after, EndsWithItsMarker}
use Rattle.pgn_reader.specs.Words.{Word, annotates, ends, means_nothing, out_of_place, sense, sense_of, sense_of_symbol, sense_of_marker, sense_of_glyph, result_of_text, word_of, words_of}

-- tokens nest alike for the reader and the cut
symbol_nests : (d : ℕ) (digits : Bool) (text : List ℕ) (o : Option GameResult) → next_depth d (if digits then means_nothing else sense_of_marker text o) ≡ d
symbol_nests d true text o = refl
symbol_nests d false text None = refl
symbol_nests d false text (Some r) = refl

glyph_nests : (d n : ℕ) (fits : Bool) → next_depth d (if fits then annotates n else out_of_place NagRange) ≡ d
glyph_nests d n true = refl
glyph_nests d n false = refl

nests : (d : ℕ) (kind : TokenKind) (text : List ℕ) → next_depth d (sense_of kind text) ≡ nest d (Token kind)
unfolding sense_of_symbol sense_of_glyph
nests d Symbol text = symbol_nests d (list_all is_ascii_digit text) text (result_of_text text)
nests d (Nag n) text = glyph_nests d n (nat_lt n 256)
nests d _ text = refl

word_nests : (start : ℕ) (bytes : List ℕ) (t : GameToken) (d : ℕ) → next_depth d (sense (word_of start bytes t)) ≡ nest d (Token t.kind)
unfolding sense
word_nests start bytes t d = nests d t.kind (take t.len (drop (t.at - start) bytes))

same_depth : (start : ℕ) (bytes : List ℕ) (ts : List GameToken) (d : ℕ)
    → fold (λ d w. next_depth d (sense w)) d (map (word_of start bytes) ts) ≡ fold (λ d t. nest d (Token t.kind)) d ts
same_depth start bytes [] d = refl
same_depth start bytes (t ∷ ts) d =
    ap (λ x. fold (λ d w. next_depth d (sense w)) x (map (word_of start bytes) ts)) (word_nests start bytes t d)
    ∙ same_depth start bytes ts (nest d (Token t.kind))

-- and what marks a result for the reader does so for the cut: no symbol is a star
not_star_by : (t : Bool) (text more : List ℕ) (b : ℕ) → bytes_eq text (codes "*") ≡ t → text ≡ b ∷ more → is_ascii_alphanumeric b ≡ true → t ≡ false
not_star_by false text more b is first letter = refl
not_star_by true text more b is first letter =
    let star : text ≡ codes "*" = (bytes_eq-Decides text (codes "*")).0 is in
    let heads : b ∷ more ≡ 42 ∷ [] = sym first ∙ star in
    let same : b ≡ 42 = cc in
    absurd (let e : false ≡ true = sym (ap is_ascii_alphanumeric same) ∙ letter in cc)

not_star : (text : List ℕ) → IsLexeme false (Token Symbol) text → bytes_eq text (codes "*") ≡ false
not_star text (b, more, first, letter, rest) = not_star_by (bytes_eq text (codes "*")) text more b refl first letter

by_tests : (a b c d : Bool) (r : GameResult) → d ≡ false
    → (if a then Some White else (if b then Some Black else (if c then Some Draw else (if d then Some Undecided else None)))) ≡ Some r → (a || b || c) ≡ true
by_tests true b c d r other e = refl
by_tests false true c d r other e = refl
by_tests false false true d r other e = refl
by_tests false false false false r other e = absurd (let x : None ≡ Some r = e in cc)
by_tests false false false true r other e = absurd cc

result_marks : (text : List ℕ) (r : GameResult) → bytes_eq text (codes "*") ≡ false → result_of_text text ≡ Some r → is_result text ≡ true
unfolding result_of_text
result_marks text r other e =
    by_tests (bytes_eq text (codes "1-0")) (bytes_eq text (codes "0-1")) (bytes_eq text (codes "1/2-1/2")) (bytes_eq text (codes "*")) r other e

by_digits : (digits : Bool) (text : List ℕ) (o : Option GameResult) (r : GameResult) → (if digits then means_nothing else sense_of_marker text o) ≡ ends r → o ≡ Some r
by_digits true text o r e = absurd cc
by_digits false text None r e = absurd cc
by_digits false text (Some s) r e = let same : s ≡ r = cc in ap Some same

symbol_marks : (text : List ℕ) (r : GameResult) → IsLexeme false (Token Symbol) text → sense_of_symbol text ≡ ends r → is_result text ≡ true
unfolding sense_of_symbol
symbol_marks text r is e = result_marks text r (not_star text is) (by_digits (list_all is_ascii_digit text) text (result_of_text text) r e)

no_glyph_ends : (fits : Bool) (n : ℕ) (r : GameResult) → (if fits then annotates n else out_of_place NagRange) ≡ ends r → ⊥
no_glyph_ends true n r e = cc
no_glyph_ends false n r e = cc

token_marks : (kind : TokenKind) (text : List ℕ) (r : GameResult) → IsLexeme false (Token kind) text → sense_of kind text ≡ ends r → marks (Token kind) text ≡ true
unfolding sense_of_glyph
token_marks Star text r is e = refl
token_marks Symbol text r is e = symbol_marks text r is e
token_marks (Nag n) text r is e = absurd (no_glyph_ends (nat_lt n 256) n r e)
token_marks _ text r is e = absurd cc

same_text : (start : ℕ) (bytes : List ℕ) (t : GameToken) → IsTokenOf start bytes t → token_text start bytes t ≡ take t.len (drop (t.at - start) bytes)
same_text start bytes t is =
    ap (λ n. take n (drop (t.at - start) bytes)) (let from = is.from_start in let e : t.at + t.len - start - (t.at - start) ≡ t.len = omega (arith, from) in e)

sense_is : (start : ℕ) (bytes : List ℕ) (t : GameToken) → sense (word_of start bytes t) ≡ sense_of t.kind (take t.len (drop (t.at - start) bytes))
unfolding sense
sense_is start bytes t = refl

-- the tokens of some words
record Split (f : GameToken → Word) (tokens : List GameToken) (before : List Word) (w : Word) (after : List Word) : Type 0 where
  front : List GameToken
  token : GameToken
  back : List GameToken
  joined : tokens ≡ front ++ token ∷ back
  before_is : map f front ≡ before
  word_is : f token ≡ w
  after_is : map f back ≡ after

first_word : (v w : Word) (vs ws : List Word) → v ∷ vs ≡ w ∷ ws → v ≡ w
first_word v w vs ws e = cc

more_words : (v w : Word) (vs ws : List Word) → v ∷ vs ≡ w ∷ ws → vs ≡ ws
more_words v w vs ws e = cc

split : (f : GameToken → Word) (tokens : List GameToken) (before : List Word) (w : Word) (after : List Word) → map f tokens ≡ before ++ w ∷ after → Split f tokens before w after
split f [] [] w after e = absurd (let x : [] ≡ w ∷ after = e in cc)
split f [] (b ∷ before) w after e = absurd (let x : [] ≡ b ∷ (before ++ w ∷ after) = e in cc)
split f (t ∷ ts) [] w after e = record {
  front = [];
  token = t;
  back = ts;
  joined = refl;
  before_is = refl;
  word_is = first_word (f t) w (map f ts) after e;
  after_is = more_words (f t) w (map f ts) after e;
}
split f (t ∷ ts) (b ∷ before) w after e =
    let rest = split f ts before w after (more_words (f t) b (map f ts) (before ++ w ∷ after) e) in
    record {
      front = t ∷ rest.front;
      token = rest.token;
      back = rest.back;
      joined = ap (λ l. t ∷ l) rest.joined;
      before_is = ap₂ (λ x l. x ∷ l) (first_word (f t) b (map f ts) (before ++ w ∷ after) e) rest.before_is;
      word_is = rest.word_is;
      after_is = rest.after_is;
    }

one_of : (P : GameToken → Type 0) (front : List GameToken) (t : GameToken) (back : List GameToken) → All P (front ++ t ∷ back) → P t
one_of P front t back all =
    let n = length-append front (t ∷ back) in
    subst P (get_or-append_seam front t back t) (all (length front) t (omega (arith, n)))

pub ends_with_marker : (start : ℕ) (first : Bool) (bytes : List ℕ) → All (IsTokenOf start bytes) (tokens_of start first bytes)
    → IsEndedByMarker start bytes (tokens_of start first bytes) → EndsWithItsMarker (words_of start first bytes)
ends_with_marker start first bytes apart ended before w after result joined is_marker shallow =
    let s = split (word_of start bytes) (tokens_of start first bytes) before w after joined in
    let token : IsTokenOf start bytes s.token = one_of (IsTokenOf start bytes) s.front s.token s.back (subst (All (IsTokenOf start bytes)) s.joined apart) in
    let meant : sense_of s.token.kind (token_text start bytes s.token) ≡ ends result =
    ap (sense_of s.token.kind) (same_text start bytes s.token token) ∙ sym (sense_is start bytes s.token) ∙ ap sense s.word_is ∙ is_marker in
    let marked : marks (Token s.token.kind) (token_text start bytes s.token) ≡ true = token_marks s.token.kind (token_text start bytes s.token) result token.spelled meant in
    let outside : token_depth s.front ≡ 0 = sym (same_depth start bytes s.front 0) ∙ ap depth_after s.before_is ∙ shallow in
    let none : s.back ≡ [] = ended s.front s.token s.back s.joined (ap₂ (λ a n. a && n == 0) marked outside) in
    sym s.after_is ∙ ap (map (word_of start bytes)) none
