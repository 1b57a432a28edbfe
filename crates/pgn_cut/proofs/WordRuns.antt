-- Words, and lexemes that no byte continues: their reading, and the progress of an open game.
use Rattle.std.proofs.Common.{◌≡◌, ℕ, zero, suc, ◌+◌, ◌-◌, ◌<◌, ◌≤◌, Bool, true, false, cond, List, [], ◌∷◌, ◌++◌, length, get_or, take, Some, None, Option, refl, sym, ap, ap₂, ◌∙◌, subst, inr, ⊎_elim, arith, true≢false, eqb-true}
use Rattle.std.specs.Prelude.{not, ◌&&◌, ◌||◌, ◌==◌, codes}
use Rattle.std.specs.Option.{unwrap_or}
use Rattle.std.specs.List.{AllByRecursion, prefix_len, list_any}
use Rattle.std.specs.Str.{bytes_eq}
use Rattle.std.specs.Char.{is_ascii_alphanumeric}
use Rattle.std.proofs.lemmas.Bool.{cases_Bool, false≢true, or_parts, and_parts, agree_below_at}
use Rattle.std.proofs.lemmas.Slice.Eq.{bytes_eq-Decides}
use Rattle.std.proofs.lemmas.List.{append-nil, append_assoc, length-append}
use Rattle.cq_common.specs.Text.{is_white}
use Rattle.pgn_lexer.specs.Bytes.{ends_line, continues_symbol}
use Rattle.pgn_lexer.specs.Lexemes.{Lexeme, end, lexemes, first_at}
use Rattle.pgn_lexer.specs.Readings.{reading, single}
use Rattle.pgn_cut.specs.Cut.{is_result, is_marker, nest, depth, opens_pair, opens, has_movetext, ends_before, ends_after, span_to, cut_from, cut, closed}
use Rattle.pgn_cut.specs.Progress.{progress_of}
use Rattle.pgn_cut.specs.States.{IsOpen, results_from, results_after, begun}
use Rattle.pgn_cut.specs.Streams.{IsBetween, IsInText, StandsWith}
use Rattle.pgn_cut.specs.Internal.WordRuns.{is_plain, ends_in_symbol, AreWords, passes_words}
use Rattle.pgn_cut.specs.declared.word_runs.TheConstants.{IS_PLAIN}
use Rattle.pgn_cut.specs.declared.cutter.Cutter.{Cutter}
use Rattle.pgn_cut.specs.declared.game.OpenGame.{OpenGame}
use Rattle.pgn_cut.specs.declared.game.Start.{Start}
use Rattle.pgn_cut.specs.declared.state.ResultMarkers.{ResultMarkers}
use Rattle.pgn_cut.specs.declared.state.State.{State}
use Rattle.pgn_cut.specs.declared.state.State.TheVariants.{Between, InSymbol}
use Rattle.pgn_cut.proofs.Marks.{StandAlone}
use Rattle.pgn_cut.proofs.OpenGames.{LexemesEnd}
use Rattle.pgn_cut.proofs.OpenLexemes.{marker_is, all_push, goes_on, opens_lexeme}
use Rattle.pgn_cut.proofs.Pushes.{progress_push}
use Rattle.pgn_cut.proofs.Runs.{run_column}
use Rattle.pgn_cut.proofs.Streams.{Closes, WhiteIsPassed, column_push, text_is}

pub plain_table : (b : ℕ) → b < 256 → get_or IS_PLAIN b false ≡ is_plain b
plain_table b less = agree_below_at (λ k. get_or IS_PLAIN k false) is_plain 256 b refl less

-- The code that cuts words off the front of some bytes.

front_cond : (t : Bool) (x n m : ℕ) (xs : List ℕ) → t ≡ is_plain x → suc m ≤ cond t (1 + n) 0
    → (m ≤ n → AllByRecursion (λ b. is_plain b ≡ true) (take m xs)) → AllByRecursion (λ b. is_plain b ≡ true) (take (suc m) (x ∷ xs))
front_cond true x n m xs is within rest = (sym is, rest (omega (arith, within)))
front_cond false x n m xs is within rest = absurd (omega (arith, within))

pub plain_front : (n : ℕ) (xs : List ℕ) → n ≤ prefix_len is_plain xs → AllByRecursion (λ b. is_plain b ≡ true) (take n xs)
plain_front zero [] within = tt
plain_front zero (x ∷ xs) within = tt
plain_front (suc n) [] within = absurd (omega (arith, within))
plain_front (suc n) (x ∷ xs) within = front_cond (is_plain x) x (prefix_len is_plain xs) n xs refl within (plain_front n xs)

neither : (open_ c a : Bool) → c ≡ false → a ≡ false → cond open_ c a ≡ false
neither true c a no_c no_a = no_c
neither false c a no_c no_a = no_a

pub ends_after_byte : (open_ : Bool) (n : ℕ) (xs : List ℕ) → n < length xs → continues_symbol (get_or xs n 0) ≡ false → ends_in_symbol open_ (take (suc n) xs) ≡ false
ends_after_byte open_ n [] less other = absurd (omega (arith, less))
ends_after_byte open_ zero (x ∷ xs) less other = neither open_ (continues_symbol x) (is_ascii_alphanumeric x) other (or_parts (is_ascii_alphanumeric x) _ other).0
ends_after_byte open_ (suc n) (x ∷ xs) less other = ends_after_byte (cond open_ (continues_symbol x) (is_ascii_alphanumeric x)) n xs (omega (arith, less)) other

pub words_end : (end : ℕ) (xs : List ℕ) → end ≤ length xs → end ≤ prefix_len is_plain xs → (0 < end → continues_symbol (get_or xs (end - 1) 0) ≡ false) → AreWords (take end xs)
words_end zero [] fits within stops = (tt, refl)
words_end zero (x ∷ xs) fits within stops = (tt, refl)
words_end (suc n) xs fits within stops = (
  plain_front (suc n) xs within,
  ends_after_byte false n xs (omega (arith, fits))
      (let same : n ≡ suc n - 1 = omega arith in ap (λ m. continues_symbol (get_or xs m 0)) same ∙ stops (omega arith)),
)

-- Lexemes that change nothing that is kept of a game with movetext, or in a tag pair.

pub record IsQuiet (l : Lexeme) : Type 0 where
  pub nests : (d : ℕ) → nest d l.kind ≡ d
  pub pairs : (open_ : Bool) → opens_pair open_ l.kind ≡ open_
  pub opens_ : opens l.kind ≡ false
  pub marker : is_marker l ≡ false

pub start_stays : (kept : List Lexeme) (was : OpenGame) → was ≡ progress_of kept → was.has_more ≡ true → (s : Start) → was.start ≡ Some (unwrap_or was.start s)
unfolding progress_of
start_stays [] was is more s = absurd (false≢true (sym (ap (λ w. w.has_more) is) ∙ more))
start_stays (x ∷ xs) was is more s = let e = ap (λ w. w.start) is in e ∙ sym (ap (λ o. Some (unwrap_or o s)) e)

movetext_stays : (h p m : Bool) → (h || p) ≡ true → h ≡ (h || (m && not p))
movetext_stays true p m some = refl
movetext_stays false true true some = refl
movetext_stays false true false some = refl
movetext_stays false false m some = absurd (false≢true some)

pub more_stays : (h p : Bool) → h ≡ true → h ≡ (h || p)
more_stays true p some = refl
more_stays false p some = absurd (false≢true some)

quiet_push : (kept : List Lexeme) (l : Lexeme) → IsQuiet l → (was : OpenGame) → was ≡ progress_of kept → passes_words was ≡ true → was ≡ progress_of (kept ++ l ∷ [])
quiet_push kept l q was is passes =
    let parts = and_parts was.has_more (was.has_movetext || was.in_pair) passes in
    progress_push kept l was is was (start_stays kept was is parts.0 _) (sym (q.nests was.depth)) (sym (q.pairs was.in_pair))
    (movetext_stays was.has_movetext was.in_pair _ parts.1) (more_stays was.has_more _ parts.0)

pub quiet_all : (kept some : List Lexeme) → AllByRecursion IsQuiet some → (was : OpenGame) → was ≡ progress_of kept → passes_words was ≡ true → was ≡ progress_of (kept ++ some)
quiet_all kept [] all was is passes = is ∙ ap progress_of (sym (append-nil kept))
quiet_all kept (l ∷ ls) all was is passes = quiet_all (kept ++ l ∷ []) ls all.1 was (quiet_push kept l all.0 was is passes) passes ∙ ap progress_of (append_assoc kept (l ∷ []) ls)

-- a lexeme before which and with which no game ends
pub cut_on : (place : ℕ) (kept : List Lexeme) (l : Lexeme) (on : List Lexeme) → ends_before kept l ≡ false → ends_after kept l ≡ false
    → cut_from place kept (l ∷ on) ≡ cut_from place (kept ++ l ∷ []) on
unfolding cut_from
cut_on place kept l on before after =
    ap (λ b. cond b (span_to l.at kept ++ cut_from place (l ∷ []) on) (cond (ends_after kept l) (span_to (end l) (kept ++ l ∷ []) ++ cut_from place [] on) (cut_from place (kept ++ l ∷ []) on))) before
    ∙ ap (λ b. cond b (span_to (end l) (kept ++ l ∷ []) ++ cut_from place [] on) (cut_from place (kept ++ l ∷ []) on)) after

pub quiet_cut : (place : ℕ) (kept some rest : List Lexeme) → AllByRecursion IsQuiet some → cut_from place kept (some ++ rest) ≡ cut_from place (kept ++ some) rest
quiet_cut place kept [] rest all = ap (λ g. cut_from place g rest) (sym (append-nil kept))
quiet_cut place kept (l ∷ ls) rest all =
    cut_on place kept l (ls ++ rest) (ap (λ o. o && l.first && has_movetext kept) all.0.opens_) (ap (λ m. m && depth kept == 0) all.0.marker)
    ∙ quiet_cut place (kept ++ l ∷ []) ls rest all.1
    ∙ ap (λ g. cut_from place g rest) (append_assoc kept (l ∷ []) ls)

-- The reading of words.

-- a plain byte that begins no symbol and is no white space
record IsQuietByte (first : Bool) (b : ℕ) : Type 0 where
  none : begun first b ≡ None
  nests : (d : ℕ) → nest d (reading first b []).kind ≡ d
  pairs : (open_ : Bool) → opens_pair open_ (reading first b []).kind ≡ open_
  opens_ : opens (reading first b []).kind ≡ false
  no_star : (b == 42) ≡ false

one_of : (P : ℕ → Type 0) (b c : ℕ) (rest : Bool) → P c → (rest ≡ true → P b) → ((b == c) || rest) ≡ true → P b
one_of P b c rest here later is =
    ⊎_elim (λ same. subst P (sym (eqb-true b c same)) here) (λ other. later (sym (ap (λ t. t || rest) other) ∙ is)) (cases_Bool (b == c))

quiet_byte : (first : Bool) (b : ℕ) → list_any (λ c. b == c) (codes "._+#=:") ≡ true → IsQuietByte first b
unfolding reading single
quiet_byte first b is =
    let P = IsQuietByte first in
    one_of P b 46 _ (record { none = refl; nests = λ d. refl; pairs = λ o. refl; opens_ = refl; no_star = refl })
    (one_of P b 95 _ (record { none = refl; nests = λ d. refl; pairs = λ o. refl; opens_ = refl; no_star = refl })
    (one_of P b 43 _ (record { none = refl; nests = λ d. refl; pairs = λ o. refl; opens_ = refl; no_star = refl })
    (one_of P b 35 _ (record { none = refl; nests = λ d. refl; pairs = λ o. refl; opens_ = refl; no_star = refl })
    (one_of P b 61 _ (record { none = refl; nests = λ d. refl; pairs = λ o. refl; opens_ = refl; no_star = refl })
    (one_of P b 58 _ (record { none = refl; nests = λ d. refl; pairs = λ o. refl; opens_ = refl; no_star = refl })
    (λ e. absurd (false≢true e))))))) is

no_text : (bytes marker : List ℕ) → (bytes ≡ marker → ⊥) → bytes_eq bytes marker ≡ false
no_text bytes marker other = ⊎_elim (λ same. absurd (other ((bytes_eq-Decides bytes marker).0 same))) (λ no_. no_) (cases_Bool (bytes_eq bytes marker))

-- a symbol of plain bytes marks no result
marks_nothing : (bytes : List ℕ) → AllByRecursion (λ b. is_plain b ≡ true) bytes → is_result bytes ≡ false
marks_nothing bytes plain =
    let All_plain : List ℕ → Type 0 = λ l. AllByRecursion (λ b. is_plain b ≡ true) l in
    let white = no_text bytes (codes "1-0") (λ e. false≢true (subst All_plain e plain).1.0) in
    let black = no_text bytes (codes "0-1") (λ e. false≢true (subst All_plain e plain).1.0) in
    let draw = no_text bytes (codes "1/2-1/2") (λ e. false≢true (subst All_plain e plain).1.0) in
    ap₂ (λ w k. w || k || bytes_eq bytes (codes "1/2-1/2")) white black ∙ draw

chosen : (t : Bool) (x y : Option State) → t ≡ true → cond t x y ≡ x
chosen true x y e = refl
chosen false x y e = absurd (false≢true e)

letter : (b : ℕ) (first : Bool) → is_ascii_alphanumeric b ≡ true → begun first b ≡ Some (InSymbol (results_from b))
letter b first is = chosen (is_ascii_alphanumeric b) _ _ is

column_cons : (first : Bool) (b : ℕ) (bs : List ℕ) → first_at (ends_line b) bs (length bs) ≡ first_at first (b ∷ bs) (length (b ∷ bs))
column_cons first b [] = refl
column_cons first b (c ∷ cs) = refl

-- white space
pub white_read : WhiteIsPassed → (run : List ℕ) → AllByRecursion (λ b. is_white b ≡ true) run → (at : ℕ) (first : Bool) (more : List ℕ)
    → lexemes at first (run ++ more) ≡ lexemes (at + length run) (first_at first run (length run)) more
white_read white [] all at first more = let place : at ≡ at + 0 = omega arith in ap (λ n. lexemes n first more) place
white_read white (b ∷ bs) all at first more =
    let place : at + 1 + length bs ≡ at + length (b ∷ bs) = omega arith in
    white at first b (bs ++ more) all.0 ∙ white_read white bs all.1 (at + 1) (ends_line b) more ∙ ap₂ (λ n f. lexemes n f more) place (column_cons first b bs)

-- bytes from a place on, after those of the open symbol, are read as quiet lexemes
pub record Reads (at : ℕ) (first : Bool) (open_ run : List ℕ) : Type 0 where
  pub some : List Lexeme
  pub quiet : AllByRecursion IsQuiet some
  pub reads : (more : List ℕ) → lexemes at first (open_ ++ (run ++ more))
      ≡ some ++ lexemes (at + length open_ + length run) (first_at (first_at first open_ (length open_)) run (length run)) more

module _ (ends : LexemesEnd) (alone : StandAlone) (white : WhiteIsPassed) where
  white_byte : (at : ℕ) (first : Bool) (b : ℕ) (bs : List ℕ) → is_white b ≡ true → Reads (at + 1) (ends_line b) [] bs → Reads at first [] (b ∷ bs)
  white_byte at first b bs is r =
      let place : at + 1 + 0 + length bs ≡ at + 0 + length (b ∷ bs) = omega arith in
      record {
        some = r.some;
        quiet = r.quiet;
        reads = λ more. white at first b (bs ++ more) is ∙ r.reads more ∙ ap₂ (λ n f. r.some ++ lexemes n f more) place (column_cons first b bs);
      }

  alone_byte : (at : ℕ) (first : Bool) (b : ℕ) (bs : List ℕ) → is_white b ≡ false → IsQuietByte first b → Reads (at + 1) (ends_line b) [] bs → Reads at first [] (b ∷ bs)
  alone_byte at first b bs dark q r =
      let one = alone first b dark q.none in
      let l : Lexeme = record { at = at; first = first; text = b ∷ []; kind = one.read } in
      let place : at + 1 + 0 + length bs ≡ at + 0 + length (b ∷ bs) = omega arith in
      record {
        some = l ∷ r.some;
        quiet = (
          record {
            nests = λ d. sym (one.alike.nests d) ∙ q.nests d;
            pairs = λ o. sym (one.alike.pairs o) ∙ q.pairs o;
            opens_ = sym one.alike.opens_ ∙ q.opens_;
            marker = sym one.marked ∙ q.no_star;
          },
          r.quiet,
        );
        reads = λ more. one.next at (bs ++ more) tt ∙ ap (λ ls. l ∷ ls) (r.reads more) ∙ ap₂ (λ n f. l ∷ r.some ++ lexemes n f more) place (column_cons first b bs);
      }

  other_byte : (at : ℕ) (first : Bool) (b : ℕ) (bs : List ℕ) → is_plain b ≡ true → is_ascii_alphanumeric b ≡ false → Reads (at + 1) (ends_line b) [] bs → Reads at first [] (b ∷ bs)
  other_byte at first b bs plain other r =
      ⊎_elim
      (λ is. white_byte at first b bs is r)
      (λ dark. alone_byte at first b bs dark (quiet_byte first b (sym (ap₂ (λ w a. w || a || list_any (λ c. b == c) (codes "._+#=:")) dark other) ∙ plain)) r)
      (cases_Bool (is_white b))

  -- the symbol continues
  further : (at : ℕ) (first : Bool) (o : List ℕ) (b : ℕ) (bs : List ℕ) → Reads at first (o ++ b ∷ []) bs → Reads at first o (b ∷ bs)
  further at first o b bs r =
      let size = length-append o (b ∷ []) in
      let place : at + length (o ++ b ∷ []) + length bs ≡ at + length o + length (b ∷ bs) = omega arith in
      let column : first_at (first_at first (o ++ b ∷ []) (length (o ++ b ∷ []))) bs (length bs) ≡ first_at (first_at first o (length o)) (b ∷ bs) (length (b ∷ bs)) =
      ap (λ f. first_at f bs (length bs)) (column_push first o b) ∙ column_cons (first_at first o (length o)) b bs in
      record {
        some = r.some;
        quiet = r.quiet;
        reads = λ more. ap (lexemes at first) (sym (append_assoc o (b ∷ []) (bs ++ more))) ∙ r.reads more ∙ ap₂ (λ n f. r.some ++ lexemes n f more) place column;
      }

  -- the symbol ends before a byte
  symbol_ends : (at : ℕ) (first : Bool) (r : ResultMarkers) (o : List ℕ) (b : ℕ) (bs : List ℕ) → IsOpen first (InSymbol r) o → AllByRecursion (λ c. is_plain c ≡ true) o → continues_symbol b ≡ false
      → Reads (at + length o) (first_at first o (length o)) [] (b ∷ bs) → Reads at first o (b ∷ bs)
  symbol_ends at first r o b bs is plain stops rest =
      let one = (ends first (InSymbol r) o is (λ e. cc)).0 in
      let l : Lexeme = record { at = at; first = first; text = o; kind = one.read } in
      let place : at + length o + 0 + length (b ∷ bs) ≡ at + length o + length (b ∷ bs) = omega arith in
      record {
        some = l ∷ rest.some;
        quiet = (
          record {
            nests = λ d. sym (one.alike.nests d);
            pairs = λ p. sym (one.alike.pairs p);
            opens_ = sym one.alike.opens_;
            marker = sym one.marked ∙ marker_is r o is.1 ∙ marks_nothing o plain;
          },
          rest.quiet,
        );
        reads = λ more. one.next at (b ∷ bs ++ more) stops ∙ ap (λ ls. l ∷ ls) (rest.reads more)
            ∙ ap (λ n. l ∷ rest.some ++ lexemes n (first_at (first_at first o (length o)) (b ∷ bs) (length (b ∷ bs))) more) place;
      }

  abbrev ReadsBetween : List ℕ → Type 0
  ReadsBetween run = (at : ℕ) (first : Bool) → ends_in_symbol false run ≡ false → Reads at first [] run

  abbrev ReadsInside : List ℕ → Type 0
  ReadsInside run = (at : ℕ) (first : Bool) (r : ResultMarkers) (o : List ℕ) → IsOpen first (InSymbol r) o → AllByRecursion (λ b. is_plain b ≡ true) o
      → ends_in_symbol true run ≡ false → Reads at first o run

  none_read : (at : ℕ) (first : Bool) → Reads at first [] []
  none_read at first = record { some = []; quiet = tt; reads = λ more. let place : at ≡ at + 0 + 0 = omega arith in ap (λ n. lexemes n first more) place }

  words_read : (run : List ℕ) → AllByRecursion (λ b. is_plain b ≡ true) run → ReadsBetween run × ReadsInside run
  words_read [] all = (λ at first end_. none_read at first, λ at first r o is plain end_. absurd (true≢false end_))
  words_read (b ∷ bs) all =
      let on = words_read bs all.1 in (
        λ at first end_.
            ⊎_elim
            (λ is. further at first [] b bs (on.1 at first (results_from b) (b ∷ [])
            (opens_lexeme first b (InSymbol (results_from b)) (letter b first is)) (all.0, tt) (ap (λ t. ends_in_symbol t bs) (sym is) ∙ end_)))
            (λ other. other_byte at first b bs all.0 other (on.0 (at + 1) (ends_line b) (ap (λ t. ends_in_symbol t bs) (sym other) ∙ end_)))
            (cases_Bool (is_ascii_alphanumeric b)),
        λ at first r o is plain end_.
            ⊎_elim
            (λ goes. further at first o b bs (on.1 at first (results_after r (length o) b) (o ++ b ∷ [])
            (goes_on first (InSymbol r) o b is (λ e. cc) goes refl) (all_push (λ c. is_plain c ≡ true) o b plain all.0)
            (ap (λ t. ends_in_symbol t bs) (sym goes) ∙ end_)))
            (λ stops. symbol_ends at first r o b bs is plain stops
            (other_byte (at + length o) (first_at first o (length o)) b bs all.0 (or_parts (is_ascii_alphanumeric b) _ stops).0
            (on.0 (at + length o + 1) (ends_line b) (ap (λ t. ends_in_symbol t bs) (sym stops) ∙ end_))))
            (cases_Bool (continues_symbol b)),
      )

  pub words_between : (run : List ℕ) → AreWords run → (at : ℕ) (first : Bool) → Reads at first [] run
  words_between run words at first = (words_read run words.0).0 at first words.1

-- A cutter between lexemes passes bytes that are read as lexemes which leave what is kept and end no game.
module _ (closes : Closes) (c : Cutter) (run fed : List ℕ) (between : c.state ≡ Between) (some : 0 < length run) (now : Cutter) (game : now.game ≡ c.game)
    (rest : IsBetween now (c.place + length run) (get_or run (length run - 1) 0 == 10)) where
  pub passed_in : (t : IsInText c fed) (more_kept : List Lexeme)
      → ((place : ℕ) (on : List Lexeme) → cut_from place t.kept (more_kept ++ on) ≡ cut_from place (t.kept ++ more_kept) on) → c.game ≡ progress_of (t.kept ++ more_kept)
      → ((more : List ℕ) → lexemes c.at c.first (run ++ more) ≡ more_kept ++ lexemes (c.at + length run) (first_at c.first run (length run)) more) → StandsWith now (fed ++ run) (closed fed)
  passed_in t ls cuts same reads =
      let none : t.bytes ≡ [] = subst (λ s. IsOpen c.first s t.bytes) between t.opened in
      let len = ap length none in
      let here = t.here in
      let place = t.place in
      let deep = t.sound.0 in
      let deep_is = ap (λ g. g.depth) game in
      let front = length-append fed run in
      let at_is = rest.at in
      let place_is = rest.place_ in
      let col : first_at c.first run (length run) ≡ now.first = sym (run_column c.first [] run some) ∙ sym rest.first in
      let now_at : c.at + length run ≡ now.at = omega arith in
      let text = text_is closes now (fed ++ run) (closed fed) (t.kept ++ ls) [] (game ∙ same) (subst (λ s. IsOpen now.first s []) (sym rest.state) refl)
      (record { column = rest.column_ ∙ sym rest.first; here = omega arith; place = omega arith }) (omega arith, omega arith)
      (λ more.
      let long = length-append run more in
      let n : ℕ = length (fed ++ run) + length more in
      let total : length fed + length (run ++ more) ≡ n = omega arith in
      ap cut (append_assoc fed run more) ∙ t.cuts (run ++ more)
      ∙ ap₂ (λ m l. closed fed ++ cut_from m t.kept (lexemes c.at c.first (l ++ (run ++ more)))) total none
      ∙ ap (λ xs. closed fed ++ cut_from n t.kept xs) (reads more)
      ∙ ap (λ g. closed fed ++ g) (cuts n (lexemes (c.at + length run) (first_at c.first run (length run)) more))
      ∙ ap₂ (λ a f. closed fed ++ cut_from n (t.kept ++ ls) (lexemes a f more)) now_at col) in
      (inr text.0, text.1)
