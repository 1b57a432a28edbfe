-- Tag pairs: their reading, and the progress of an open game.
use Rattle.std.proofs.Common.{◌≡◌, ℕ, ◌+◌, ◌-◌, ◌<◌, ◌≤◌, Bool, true, false, List, [], ◌∷◌, ◌++◌, length, get_or, take, drop, refl, sym, ap, ap₂, ◌∙◌, subst, ⊎_elim, arith, true≢false}
use Rattle.std.specs.Prelude.{not, ◌&&◌, ◌||◌, ◌==◌}
use Rattle.std.specs.List.{AllByRecursion}
use Rattle.std.proofs.lemmas.Bool.{or_parts, and_parts}
use Rattle.std.proofs.lemmas.List.{append_assoc, append-nil, length-append, length-take-le, length-drop, get_or-take, get_or-drop, take-take, take-append-drop, drop-take, drop-drop}
use Rattle.pgn_lexer.specs.Lexemes.{Lexeme, lexemes, first_at}
use Rattle.pgn_lexer.specs.Readings.{reading, single}
use Rattle.pgn_lexer.specs.declared.token.LexemeKind.TheVariants.{Token}
use Rattle.pgn_lexer.specs.declared.token.TokenKind.TheVariants.{Close, Text}
use Rattle.pgn_cut.specs.Cut.{marks, is_marker, nest, depth, opens_pair, opens, is_movetext, has_movetext, ends_after, cut_from, closed}
use Rattle.pgn_cut.specs.Progress.{progress_of}
use Rattle.pgn_cut.specs.States.{is_in_mark}
use Rattle.pgn_cut.specs.Streams.{IsBetween, IsInText, Stands, StandsWith}
use Rattle.pgn_cut.specs.Internal.WordRuns.{AreWords, passes_words}
use Rattle.pgn_cut.specs.Internal.PairRuns.{IsSettledAs, IsPair, passes_pairs, IsQuietRun}
use Rattle.pgn_cut.specs.declared.cutter.Cutter.{Cutter}
use Rattle.pgn_cut.specs.declared.game.OpenGame.{OpenGame}
use Rattle.pgn_cut.specs.declared.state.State.TheVariants.{Between}
use Rattle.pgn_cut.proofs.Marks.{StandAlone, in_mark}
use Rattle.pgn_cut.proofs.OpenGames.{LexemesEnd}
use Rattle.pgn_cut.proofs.Pushes.{progress_push}
use Rattle.pgn_cut.proofs.Runs.{run_column}
use Rattle.pgn_cut.proofs.Streams.{Closes, WhiteIsPassed}
use Rattle.pgn_cut.proofs.WordRuns.{IsQuiet, start_stays, more_stays, quiet_all, quiet_cut, cut_on, white_read, words_between, passed_in}

-- An opening or a closing bracket, by the open tag pair after it.

record IsBracket (open_ : Bool) (l : Lexeme) : Type 0 where
  nests : (d : ℕ) → nest d l.kind ≡ d
  pairs : (was : Bool) → opens_pair was l.kind ≡ open_
  movetext : is_movetext l.kind ≡ false
  marker : is_marker l ≡ false

-- the progress, with a tag pair open or not
abbrev with_pair : Bool → OpenGame → OpenGame
with_pair open_ was = record { start = was.start; depth = was.depth; in_pair = open_; has_movetext = was.has_movetext; has_more = was.has_more }

movetext_without : (h m p : Bool) → m ≡ false → h ≡ (h || (m && p))
movetext_without true m p none = refl
movetext_without false m p none = sym (ap (λ t. t && p) none)

bracket_push : (open_ : Bool) (kept : List Lexeme) (l : Lexeme) → IsBracket open_ l → (was : OpenGame) → was ≡ progress_of kept → was.has_more ≡ true
    → with_pair open_ was ≡ progress_of (kept ++ l ∷ [])
bracket_push open_ kept l is was same more =
    progress_push kept l was same (with_pair open_ was) (start_stays kept was same more _) (sym (is.nests was.depth)) (sym (is.pairs was.in_pair))
    (movetext_without was.has_movetext (is_movetext l.kind) (not was.in_pair) is.movetext) (more_stays was.has_more _ more)

and_false : (a b : Bool) → b ≡ false → (a && b) ≡ false
and_false true b none = none
and_false false b none = refl

not_true : (b : Bool) → not b ≡ true → b ≡ false
not_true true is = absurd (true≢false (sym is))
not_true false is = refl

no_movetext : (kept : List Lexeme) (was : OpenGame) → was ≡ progress_of kept → was.has_movetext ≡ false → has_movetext kept ≡ false
unfolding progress_of
no_movetext kept was same none = sym (ap (λ w. w.has_movetext) same) ∙ none

bracket_after : (open_ : Bool) (kept : List Lexeme) (l : Lexeme) → IsBracket open_ l → ends_after kept l ≡ false
bracket_after open_ kept l is = ap (λ m. m && depth kept == 0) is.marker

-- the reading of a tag pair
record PairReads (at : ℕ) (first : Bool) (run : List ℕ) : Type 0 where
  opening : Lexeme
  inner : List Lexeme
  closing : Lexeme
  opens_ : IsBracket true opening
  quiet : AllByRecursion IsQuiet inner
  closes_ : IsBracket false closing
  no_opening : opens closing.kind ≡ false
  reads : (more : List ℕ) → lexemes at first (run ++ more)
      ≡ opening ∷ inner ++ closing ∷ lexemes (at + length run) (first_at first run (length run)) more

all_end : (P : Lexeme → Type 0) (xs : List Lexeme) (y : Lexeme) → AllByRecursion P xs → P y → AllByRecursion P (xs ++ y ∷ [])
all_end P [] y all last = (last, tt)
all_end P (x ∷ xs) y all last = (all.0, all_end P xs y all.1 last)

text_quiet : (l : Lexeme) → l.kind ≡ Token Text → IsQuiet l
text_quiet l is = record {
  nests = λ d. ap (nest d) is;
  pairs = λ o. ap (opens_pair o) is;
  opens_ = ap opens is;
  marker = ap (λ k. marks k l.text) is;
}

close_bracket : (l : Lexeme) → l.kind ≡ Token Close → IsBracket false l
close_bracket l is = record {
  nests = λ d. ap (nest d) is;
  pairs = λ was. ap (opens_pair was) is;
  movetext = ap is_movetext is;
  marker = ap (λ k. marks k l.text) is;
}

module _ (ends : LexemesEnd) (alone : StandAlone) (white : WhiteIsPassed) (at : ℕ) (first : Bool) where
  pair_opens : (l : Lexeme) × IsBracket true l × ((more : List ℕ) → lexemes at first (91 ∷ more) ≡ l ∷ lexemes (at + 1) false more)
  unfolding reading single
  pair_opens =
      let one = alone first 91 refl refl in (
        record { at = at; first = first; text = 91 ∷ []; kind = one.read },
        record {
          nests = λ d. sym (one.alike.nests d);
          pairs = λ was. sym (one.alike.pairs was);
          movetext = sym one.alike.movetext;
          marker = sym one.marked;
        },
        λ more. one.next at more tt,
      )

  -- the column after the last part is that after the whole
  column_of_last : (run front last : List ℕ) → run ≡ front ++ last → 0 < length last → (f : Bool) → first_at f last (length last) ≡ first_at first run (length run)
  column_of_last run front last is some f =
      sym (run_column f [] last some) ∙ run_column first front last some ∙ ap (λ l. first_at first l (length l)) (sym is)

  pair_reads : (run : List ℕ) → IsPair run → PairReads at first run
  pair_reads run p =
      let o = pair_opens in
      let name = p.name in
      let text = p.text in
      let last = p.closing in
      let w = words_between ends alone white name p.words (at + 1) false in
      let value = p.value.is in
      let closes = p.closes.is in
      let at_text : ℕ = at + 1 + 0 + length name in
      let first_text : Bool = first_at false name (length name) in
      let at_last : ℕ = at_text + length text in
      let first_last : Bool = first_at first_text text (length text) in
      let t : Lexeme = record { at = at_text; first = first_text; text = value.text; kind = p.value.found.kind } in
      let c : Lexeme = record { at = at_last; first = first_last; text = closes.text; kind = p.closes.found.kind } in
      let inside = length-append name (text ++ last) in
      let tail = length-append text last in
      let long = ap length p.spelled in
      let place : at_last + length last ≡ at + length run = omega arith in
      let front : List ℕ = 91 ∷ name ++ text in
      let parts : run ≡ front ++ last = p.spelled ∙ ap (λ l. 91 ∷ l) (sym (append_assoc name text last)) in
      let column = column_of_last run front last parts p.some first_last in
      record {
        opening = o.0;
        inner = w.some ++ t ∷ [];
        closing = c;
        opens_ = o.1;
        quiet = all_end IsQuiet w.some t w.quiet (text_quiet t p.value.kind_);
        closes_ = close_bracket c p.closes.kind_;
        no_opening = ap opens p.closes.kind_;
        reads = λ more.
            ap (λ l. lexemes at first (l ++ more)) p.spelled
            ∙ o.2 ((name ++ (text ++ last)) ++ more)
            ∙ ap (λ l. o.0 ∷ lexemes (at + 1) false l) (append_assoc name (text ++ last) more)
            ∙ ap (λ ls. o.0 ∷ ls) (w.reads ((text ++ last) ++ more))
            ∙ ap (λ l. o.0 ∷ w.some ++ lexemes at_text first_text l) (append_assoc text last more)
            ∙ ap (λ ls. o.0 ∷ w.some ++ ls) (value.next at_text (last ++ more))
            ∙ ap (λ ls. o.0 ∷ w.some ++ t ∷ ls) (closes.next at_last more)
            ∙ ap₂ (λ a f. o.0 ∷ w.some ++ t ∷ c ∷ lexemes a f more) place column
            ∙ ap (λ ls. o.0 ∷ ls) (sym (append_assoc w.some (t ∷ []) (c ∷ lexemes (at + length run) (first_at first run (length run)) more)));
      }

-- a tag pair leaves what is kept, and no game ends with it
pair_kept : (at : ℕ) (first : Bool) (run : List ℕ) (r : PairReads at first run) (kept : List Lexeme) (was : OpenGame) → was ≡ progress_of kept → passes_pairs was ≡ true
    → was ≡ progress_of (kept ++ (r.opening ∷ r.inner ++ r.closing ∷ []))
pair_kept at first run r kept was same passes =
    let parts = and_parts was.has_more (not (was.has_movetext || was.in_pair)) passes in
    let none = or_parts was.has_movetext was.in_pair (not_true (was.has_movetext || was.in_pair) parts.1) in
    let opened = bracket_push true kept r.opening r.opens_ was same parts.0 in
    let inside_passes : passes_words (with_pair true was) ≡ true = ap₂ (λ m h. m && (h || true)) parts.0 none.0 in
    let inside = quiet_all (kept ++ r.opening ∷ []) r.inner r.quiet (with_pair true was) opened inside_passes in
    let shut = bracket_push false ((kept ++ r.opening ∷ []) ++ r.inner) r.closing r.closes_ (with_pair true was) inside parts.0 in
    let back : was ≡ with_pair false was = ap (λ o. with_pair o was) none.1 in
    back ∙ shut ∙ ap progress_of (append_assoc (kept ++ r.opening ∷ []) r.inner (r.closing ∷ []) ∙ append_assoc kept (r.opening ∷ []) (r.inner ++ r.closing ∷ []))

pair_cut : (at : ℕ) (first : Bool) (run : List ℕ) (r : PairReads at first run) (kept : List Lexeme) → has_movetext kept ≡ false → (place : ℕ) (rest : List Lexeme)
    → cut_from place kept ((r.opening ∷ r.inner ++ r.closing ∷ []) ++ rest) ≡ cut_from place (kept ++ (r.opening ∷ r.inner ++ r.closing ∷ [])) rest
pair_cut at first run r kept none place rest =
    let o = r.opening in
    let c = r.closing in
    let after_opening : List Lexeme = kept ++ o ∷ [] in
    let inside : List Lexeme = after_opening ++ r.inner in
    ap (λ ls. cut_from place kept (o ∷ ls)) (append_assoc r.inner (c ∷ []) rest)
    ∙ cut_on place kept o (r.inner ++ c ∷ rest) (and_false (opens o.kind && o.first) (has_movetext kept) none) (bracket_after true kept o r.opens_)
    ∙ quiet_cut place after_opening r.inner (c ∷ rest) r.quiet
    ∙ cut_on place inside c rest (ap (λ t. t && c.first && has_movetext inside) r.no_opening) (bracket_after false inside c r.closes_)
    ∙ ap (λ g. cut_from place g rest) (append_assoc after_opening r.inner (c ∷ []) ∙ append_assoc kept (o ∷ []) (r.inner ++ c ∷ []))

-- A cutter between lexemes passes bytes that leave what is kept.
module _ (closes : Closes) (c : Cutter) (run fed : List ℕ) (between : c.state ≡ Between) (some : 0 < length run) (now : Cutter) (game : now.game ≡ c.game)
    (rest : IsBetween now (c.place + length run) (get_or run (length run - 1) 0 == 10)) where
  pass : (t : IsInText c fed) (more_kept : List Lexeme) → ((place : ℕ) (on : List Lexeme) → cut_from place t.kept (more_kept ++ on) ≡ cut_from place (t.kept ++ more_kept) on)
      → c.game ≡ progress_of (t.kept ++ more_kept)
      → ((more : List ℕ) → lexemes c.at c.first (run ++ more) ≡ more_kept ++ lexemes (c.at + length run) (first_at c.first run (length run)) more) → StandsWith now (fed ++ run) (closed fed)
  pass t ls cuts kept reads = passed_in closes c run fed between some now game rest t ls cuts kept reads

  pub quiet_passed : LexemesEnd → StandAlone → WhiteIsPassed → IsQuietRun c.game run → Stands c fed → StandsWith now (fed ++ run) (closed fed)
  quiet_passed ends alone white quiet stands =
      ⊎_elim
      (λ mark. absurd (true≢false (sym (in_mark c fed mark) ∙ ap is_in_mark between)))
      (λ t.
      ⊎_elim
      (λ all. pass t [] (λ place on. ap (λ g. cut_from place g on) (sym (append-nil t.kept))) (t.game ∙ ap progress_of (sym (append-nil t.kept))) (white_read white run all c.at c.first))
      (λ dark.
      ⊎_elim
      (λ words.
      let w = words_between ends alone white run words.1 c.at c.first in
      let place : c.at + 0 + length run ≡ c.at + length run = omega arith in
      pass t w.some (λ n on. quiet_cut n t.kept w.some on w.quiet) (quiet_all t.kept w.some w.quiet c.game t.game words.0)
      (λ more. w.reads more ∙ ap (λ n. w.some ++ lexemes n (first_at c.first run (length run)) more) place))
      (λ pair.
      let r = pair_reads ends alone white c.at c.first run pair.1 in
      let parts = and_parts c.game.has_more (not (c.game.has_movetext || c.game.in_pair)) pair.0 in
      let none = or_parts c.game.has_movetext c.game.in_pair (not_true (c.game.has_movetext || c.game.in_pair) parts.1) in
      pass t (r.opening ∷ r.inner ++ r.closing ∷ []) (pair_cut c.at c.first run r t.kept (no_movetext t.kept c.game t.game none.0)) (pair_kept c.at c.first run r t.kept c.game t.game pair.0)
      (λ more. r.reads more ∙ ap (λ ls. r.opening ∷ ls) (sym (append_assoc r.inner (r.closing ∷ []) (lexemes (c.at + length run) (first_at c.first run (length run)) more)))))
      dark)
      quiet)
      stands

-- The code that cuts a tag pair off the front of some bytes.

take_sum : (n m : ℕ) (xs : List ℕ) → take (n + m) xs ≡ take n xs ++ take m (drop n xs)
take_sum n m xs = sym (take-append-drop n (take (n + m) xs)) ∙ ap₂ (λ l r. l ++ r) (take-take n (n + m) xs (omega arith)) (drop-take n m xs)

take_one : (xs : List ℕ) (b : ℕ) → 0 < length xs → get_or xs 0 0 ≡ b → take 1 xs ≡ b ∷ []
take_one [] b some is = absurd (omega (arith, some))
take_one (x ∷ xs) b some is = ap (λ c. c ∷ []) is

-- the column after a part of some bytes depends on its last one
column_after : (first : Bool) (bytes : List ℕ) (at n : ℕ) → 0 < n → at + n ≤ length bytes
    → first_at first (take n (drop at bytes)) (length (take n (drop at bytes))) ≡ (get_or bytes (at + n - 1) 0 == 10)
column_after first bytes at n some fits =
    let part : List ℕ = take n (drop at bytes) in
    let left = length-drop at bytes in
    let size = length-take-le n (drop at bytes) (omega (arith, left, fits)) in
    let last : length part - 1 ≡ n - 1 = ap (λ k. k - 1) size in
    let place : at + (n - 1) ≡ at + n - 1 = omega (arith, some) in
    sym (run_column first [] part (omega (arith, size, some)))
    ∙ ap (λ k. get_or part k 0 == 10) last
    ∙ ap (λ b. b == 10) (get_or-take n (drop at bytes) (n - 1) 0 (omega (arith, some)) ∙ get_or-drop at bytes (n - 1) 0 ∙ ap (λ k. get_or bytes k 0) place)

pub pair_front : (bytes : List ℕ) (name text closing : ℕ) → 0 < length bytes → get_or bytes 0 0 ≡ 91 → 0 < name → 0 < text → 0 < closing → 1 + name + text + closing ≤ length bytes
    → AreWords (take name (drop 1 bytes))
    → IsSettledAs (Token Text) (get_or bytes (1 + name - 1) 0 == 10) (take text (drop (1 + name) bytes))
    → IsSettledAs (Token Close) (get_or bytes (1 + name + text - 1) 0 == 10) (take closing (drop (1 + name + text) bytes))
    → IsPair (take (1 + name + text + closing) bytes)
pair_front bytes name text closing some is some_name some_text some_closing fits words value closes =
    let left = length-drop (1 + name + text) bytes in
    let size = length-take-le closing (drop (1 + name + text) bytes) (omega (arith, left, fits)) in
    let first_text = column_after false bytes 1 name some_name (omega (arith, fits)) in
    let first_last = column_after (first_at false (take name (drop 1 bytes)) (length (take name (drop 1 bytes)))) bytes (1 + name) text some_text (omega (arith, fits)) in
    let total : 1 + name + text + closing ≡ 1 + (name + (text + closing)) = omega arith in
    let of_name : List ℕ = take name (drop 1 bytes) in
    let of_text : List ℕ = take text (drop (1 + name) bytes) in
    record {
      name = of_name;
      text = of_text;
      closing = take closing (drop (1 + name + text) bytes);
      spelled = ap (λ n. take n bytes) total ∙ take_sum 1 (name + (text + closing)) bytes
          ∙ ap (λ l. l ++ take (name + (text + closing)) (drop 1 bytes)) (take_one bytes 91 some is)
          ∙ ap (λ l. 91 ∷ l) (take_sum name (text + closing) (drop 1 bytes))
          ∙ ap (λ l. 91 ∷ of_name ++ take (text + closing) l) (drop-drop name 1 bytes)
          ∙ ap (λ l. 91 ∷ of_name ++ l) (take_sum text closing (drop (1 + name) bytes))
          ∙ ap (λ l. 91 ∷ of_name ++ (of_text ++ take closing l)) (drop-drop text (1 + name) bytes);
      words = words;
      value = subst (λ f. IsSettledAs (Token Text) f of_text) (sym first_text) value;
      closes = subst (λ f. IsSettledAs (Token Close) f (take closing (drop (1 + name + text) bytes))) (sym first_last) closes;
      some = omega (arith, size, some_closing);
    }
