-- The tokens of a game of a cut are the archive's lexemes within it.
use Rattle.std.proofs.Common.{◌≡◌, ℕ, ◌+◌, ◌-◌, ◌≤◌, ◌⊎◌, Bool, true, false, cond, List, [], ◌∷◌, ◌++◌, length, take, drop, sym, ap, ap₂, ◌∙◌, subst, inl, arith, length-drop}
use Rattle.std.specs.Prelude.{All, ◌==◌, ◌&&◌, nat_eq, slice_range, if◌then◌else◌}
use Rattle.std.specs.List.{AllByRecursion, list_all, starts_with}
use Rattle.std.proofs.lemmas.List.{drop-drop}
use Rattle.std.proofs.lemmas.List.Elements.{All-from_recursion}
use Rattle.pgn_lexer.specs.Lexemes.{Lexeme, end, lexemes, tokens_among, first_at}
use Rattle.pgn_lexer.specs.Locality.{IsUncrossed, within, StandsIn}
use Rattle.pgn_cut.specs.Cut.{is_passed_over, ends_before, ends_after, span_to, cut_from, cut, byte_order_mark, text_start, archive_lexemes}
use Rattle.pgn_cut.specs.GameTokens.{HasItsTokens, game_bytes}
use Rattle.pgn_cut.specs.declared.span.Span.{Span}

-- the laws of lexemes, as a type
abbrev pub StandApart : Type 0
StandApart = (start : ℕ) (first : Bool) (bytes : List ℕ) → AllByRecursion (StandsIn start first bytes) (lexemes start first bytes)

abbrev pub AreLocal : Type 0
AreLocal = (start : ℕ) (first : Bool) (bytes : List ℕ) (from to : ℕ) → IsUncrossed (start + from) (lexemes start first bytes) → IsUncrossed (start + to) (lexemes start first bytes)
    → lexemes (start + from) (first_at first bytes from) (slice_range bytes from to) ≡ within (start + from) (start + to) (lexemes start first bytes)

pub map_all : {A : Type 0} (P Q : A → Type 0) → ((x : A) → P x → Q x) → (xs : List A) → AllByRecursion P xs → AllByRecursion Q xs
map_all P Q f [] all = tt
map_all P Q f (x ∷ xs) all = (f x all.0, map_all P Q f xs all.1)

all_append : {A : Type 0} (P : A → Type 0) (xs ys : List A) → AllByRecursion P xs → AllByRecursion P ys → AllByRecursion P (xs ++ ys)
all_append P [] ys all rest = rest
all_append P (x ∷ xs) ys all rest = (all.0, all_append P xs ys all.1 rest)

pub of_both : {A : Type 0} (P : A → Type 0) (t : Bool) (x y : A) → P x → P y → P (cond t x y)
of_both P true x y px py = px
of_both P false x y px py = py

-- a place of a text that no lexeme crosses
record Clean (start : ℕ) (text : List ℕ) (place : ℕ) : Type 0 where
  uncrossed : IsUncrossed place (lexemes start true text)
  after : start ≤ place

-- a span of a text between two of them
record CleanSpan (start : ℕ) (text : List ℕ) (game : Span) : Type 0 where
  begins : Clean start text game.start
  ends : Clean start text game.end
  column : game.first ≡ first_at true text (game.start - start)

module _ (start : ℕ) (text : List ℕ) where
  begin_clean : (l : Lexeme) → StandsIn start true text l → Clean start text l.at
  begin_clean l s = record { uncrossed = s.begin_uncrossed; after = s.from_start }

  end_clean : (l : Lexeme) → StandsIn start true text l → Clean start text (end l)
  end_clean l s = let after = s.from_start in record { uncrossed = s.end_uncrossed; after = omega arith }

  span_clean : (place : ℕ) (game : List Lexeme) → Clean start text place → AllByRecursion (StandsIn start true text) game → AllByRecursion (CleanSpan start text) (span_to place game)
  span_clean place [] clean all = tt
  span_clean place (l ∷ ls) clean all = (record { begins = begin_clean l all.0; ends = clean; column = all.0.column }, tt)

  -- the games of a cut begin and end where no lexeme crosses
  cut_clean : (place : ℕ) (game rest : List Lexeme) → Clean start text place → AllByRecursion (StandsIn start true text) game → AllByRecursion (StandsIn start true text) rest
      → AllByRecursion (CleanSpan start text) (cut_from place game rest)
  unfolding cut_from
  cut_clean place game [] clean before after =
      of_both (AllByRecursion (CleanSpan start text)) (list_all (λ l. is_passed_over l.kind) game) [] (span_to place game) tt (span_clean place game clean before)
  cut_clean place game (l ∷ ls) clean before after =
      let more = all_append (StandsIn start true text) game (l ∷ []) before (after.0, tt) in
      of_both (AllByRecursion (CleanSpan start text)) (ends_before game l) (span_to l.at game ++ cut_from place (l ∷ []) ls)
      (if ends_after game l then span_to (end l) (game ++ l ∷ []) ++ cut_from place [] ls else cut_from place (game ++ l ∷ []) ls)
      (all_append (CleanSpan start text) (span_to l.at game) (cut_from place (l ∷ []) ls) (span_clean l.at game (begin_clean l after.0) before)
      (cut_clean place (l ∷ []) ls clean (after.0, tt) after.1))
      (of_both (AllByRecursion (CleanSpan start text)) (ends_after game l) (span_to (end l) (game ++ l ∷ []) ++ cut_from place [] ls) (cut_from place (game ++ l ∷ []) ls)
      (all_append (CleanSpan start text) (span_to (end l) (game ++ l ∷ [])) (cut_from place [] ls)
      (span_clean (end l) (game ++ l ∷ []) (end_clean l after.0) more) (cut_clean place [] ls clean tt after.1))
      (cut_clean place (game ++ l ∷ []) ls clean more after.1))

  -- the text's end is such a place
  text_end : AllByRecursion (StandsIn start true text) (lexemes start true text) → Clean start text (start + length text)
  text_end all = record {
    uncrossed = map_all (StandsIn start true text) (λ l. (end l ≤ start + length text) ⊎ (start + length text ≤ l.at)) (λ l s. inl s.to_end) (lexemes start true text) all;
    after = omega arith;
  }

none_marked : (a : Bool) (n : ℕ) → cond (a && false) 3 0 ≤ n
none_marked true n = omega arith
none_marked false n = omega arith

none_marked_twice : (a b : Bool) (n : ℕ) → cond (a && (b && false)) 3 0 ≤ n
none_marked_twice true b n = none_marked b n
none_marked_twice false b n = omega arith

-- the text after a byte order mark
pub text_within : (archive : List ℕ) → text_start archive ≤ length archive
text_within [] = omega arith
text_within (x ∷ []) = none_marked (239 == x) 1
text_within (x ∷ y ∷ []) = none_marked_twice (239 == x) (187 == y) 2
text_within (x ∷ y ∷ z ∷ zs) = of_both (λ n. n ≤ length (x ∷ y ∷ z ∷ zs)) (starts_with nat_eq (x ∷ y ∷ z ∷ zs) byte_order_mark) 3 0 (omega arith) (omega arith)

-- a part of the text is a part of the archive
part_is : (archive : List ℕ) (start from to : ℕ) → start ≤ from → start ≤ to → slice_range (drop start archive) (from - start) (to - start) ≡ slice_range archive from to
part_is archive start from to after also =
    let a : start + (from - start) ≡ from = omega arith in
    let n : to - start - (from - start) ≡ to - from = omega arith in
    ap₂ (λ k l. take k l) n (drop-drop (from - start) start archive ∙ ap (λ k. drop k archive) a)

-- the lexemes of a game are the archive's within it
abbrev pub HasItsLexemes : List ℕ → Span → Type 0
HasItsLexemes archive game = lexemes game.start game.first (game_bytes archive game) ≡ within game.start game.end (archive_lexemes archive)

pub joined : StandApart → AreLocal → (archive : List ℕ) → AllByRecursion (HasItsLexemes archive) (cut archive)
joined apart are_local archive =
    let start = text_start archive in
    let text = drop start archive in
    let all = apart start true text in
    let inside = text_within archive in
    let whole : start + length text ≡ length archive = omega (arith, length-drop start archive) in
    map_all (CleanSpan start text) (HasItsLexemes archive)
    (λ game clean.
    let from_is : start + (game.start - start) ≡ game.start = let h = clean.begins.after in omega arith in
    let to_is : start + (game.end - start) ≡ game.end = let h = clean.ends.after in omega arith in
    let here = are_local start true text (game.start - start) (game.end - start)
    (subst (λ p. IsUncrossed p (lexemes start true text)) (sym from_is) clean.begins.uncrossed)
    (subst (λ p. IsUncrossed p (lexemes start true text)) (sym to_is) clean.ends.uncrossed) in
    ap₂ (λ c bytes. lexemes game.start c bytes) clean.column (sym (part_is archive start game.start game.end clean.begins.after clean.ends.after))
    ∙ ap (λ p. lexemes p (first_at true text (game.start - start)) (slice_range text (game.start - start) (game.end - start))) (sym from_is)
    ∙ here
    ∙ ap₂ (λ a b. within a b (lexemes start true text)) from_is to_is)
    (cut archive)
    (cut_clean start text (length archive) [] (archive_lexemes archive) (subst (Clean start text) whole (text_end start text all)) tt all)

-- and so its tokens, element by element
pub all_joined : StandApart → AreLocal → (archive : List ℕ) → All (HasItsTokens archive) (cut archive)
all_joined apart are_local archive =
    All-from_recursion (HasItsTokens archive) (cut archive)
    (map_all (HasItsLexemes archive) (HasItsTokens archive) (λ game has. ap tokens_among has) (cut archive) (joined apart are_local archive))
