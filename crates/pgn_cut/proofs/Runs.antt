-- Bytes that leave an open lexeme as it is, many in one step, and the games of many bytes.
use Rattle.std.proofs.Common.{◌≡◌, ℕ, suc, ◌+◌, ◌-◌, ◌<◌, Bool, true, false, cond, List, [], ◌∷◌, ◌++◌, length, get_or, take, drop, refl, sym, ap, ap₂, ◌∙◌, subst, inr, ⊎_elim, arith, true≢false}
use Rattle.std.specs.Option.{option_to_list}
use Rattle.std.specs.Prelude.{Option, Result, Ok, Err, OnOk, not, ◌==◌, ◌||◌, ◌&&◌}
use Rattle.std.specs.List.{AllByRecursion, position_or_len}
use Rattle.std.proofs.Math.Seq.{drop-append_seam}
use Rattle.std.proofs.lemmas.Bool.{or_parts}
use Rattle.std.proofs.lemmas.List.{append-nil, append_assoc, length-append, get_or-append-add}
use Rattle.pgn_lexer.specs.Bytes.{ends_line}
use Rattle.pgn_lexer.specs.Lexemes.{Lexeme, lexemes, first_at}
use Rattle.pgn_lexer.specs.Readings.{is_special}
use Rattle.pgn_cut.specs.Cut.{cut_from, cut, closed}
use Rattle.pgn_cut.specs.Progress.{progress_of}
use Rattle.pgn_cut.specs.States.{IsOpen, is_in_mark, Stays}
use Rattle.pgn_cut.specs.Streams.{IsSound, IsEnded, Stands, StandsWith, HasGained}
use Rattle.pgn_cut.specs.declared.span.Span.{Span}
use Rattle.pgn_cut.specs.declared.cutter.Cutter.{Cutter}
use Rattle.pgn_cut.specs.declared.state.State.{State}
use Rattle.pgn_cut.specs.declared.state.State.TheVariants.{InComment, InLine, InText}
use Rattle.pgn_cut.proofs.OpenLexemes.{goes_on}
use Rattle.pgn_cut.proofs.Marks.{in_mark}
use Rattle.pgn_cut.proofs.Streams.{Closes, text_is}

-- the bytes before the first that passes a test fail it
before_cond : (P : ℕ → Type 0) (t : Bool) (x n : ℕ) (xs : List ℕ) → (t ≡ false → P x) → AllByRecursion P (take n xs) → AllByRecursion P (take (cond (not t) (1 + n) 0) (x ∷ xs))
before_cond P true x n xs fails all = tt
before_cond P false x n xs fails all = subst (λ m. AllByRecursion P (take m (x ∷ xs))) (let e : suc n ≡ 1 + n = omega arith in e) (fails refl, all)

pub before_first : (P : ℕ → Type 0) (test : ℕ → Bool) → ((b : ℕ) → test b ≡ false → P b) → (xs : List ℕ) → AllByRecursion P (take (position_or_len test xs) xs)
before_first P test fails [] = tt
before_first P test fails (x ∷ xs) = before_cond P (test x) x (position_or_len test xs) xs (fails x) (before_first P test fails xs)

pub stays_in_comment : (b : ℕ) → (b == 125) ≡ false → Stays InComment b
stays_in_comment b other = record { takes_ = refl; no_last = other; same = λ n. refl; some = λ e. cc; no_mark = refl }

pub stays_in_line : (b : ℕ) → (b == 10) ≡ false → Stays InLine b
stays_in_line b other = record { takes_ = ap not other; no_last = refl; same = λ n. refl; some = λ e. cc; no_mark = refl }

pub stays_in_text : (b : ℕ) → is_special b ≡ false → Stays (InText false) b
stays_in_text b plain =
    let line = or_parts ((b == 34) || (b == 92)) (b == 10) plain in
    let others = or_parts (b == 34) (b == 92) line.0 in
    record { takes_ = ap not line.1; no_last = ap (λ t. t && true) others.0; same = λ n. ap (λ t. InText (t && true)) others.1; some = λ e. cc; no_mark = refl }

run_open : (first : Bool) (s : State) (run bytes : List ℕ) → IsOpen first s bytes → AllByRecursion (Stays s) run → IsOpen first s (bytes ++ run)
run_open first s [] bytes is all = subst (IsOpen first s) (sym (append-nil bytes)) is
run_open first s (b ∷ bs) bytes is all =
    let stay = all.0 in
    let one = subst (λ t. IsOpen first t (bytes ++ b ∷ [])) (stay.same (length bytes)) (goes_on first s bytes b is stay.some stay.takes_ stay.no_last) in
    subst (IsOpen first s) (append_assoc bytes (b ∷ []) bs) (run_open first s bs (bytes ++ b ∷ []) one all.1)

pub run_column : (first : Bool) (bytes run : List ℕ) → 0 < length run → (get_or run (length run - 1) 0 == 10) ≡ first_at first (bytes ++ run) (length (bytes ++ run))
run_column first bytes run some =
    let size = length-append bytes run in
    let last : suc (length bytes + (length run - 1)) ≡ length (bytes ++ run) = omega arith in
    ap ends_line (sym (get_or-append-add bytes run (length run - 1) 0)) ∙ ap (first_at first (bytes ++ run)) last

no_run : (s : State) (run : List ℕ) → 0 < length run → AllByRecursion (Stays s) run → is_in_mark s ≡ false
no_run s [] some all = absurd (omega (arith, some))
no_run s (b ∷ bs) some all = all.0.no_mark

pub run_passed : Closes → (c : Cutter) (run fed : List ℕ) → 0 < length run → Stands c fed → AllByRecursion (Stays c.state) run
    → StandsWith (record { state = c.state; game = c.game; at = c.at; first = c.first; place = c.place + length run; column = get_or run (length run - 1) 0 == 10 }) (fed ++ run) (closed fed)
run_passed closes c run fed some stands all =
    ⊎_elim
    (λ mark. absurd (true≢false (sym (in_mark c fed mark) ∙ no_run c.state run some all)))
    (λ t.
    let front = length-append fed run in
    let size = length-append t.bytes run in
    let here = t.here in
    let place = t.place in
    let deep = t.sound.0 in
    let low = t.sound.1 in
    let text = text_is closes (record {
      state = c.state;
      game = c.game;
      at = c.at;
      first = c.first;
      place = c.place + length run;
      column = get_or run
          (length run - 1) 0 == 10;
    }) (fed ++ run) (closed fed) t.kept (t.bytes ++ run) t.game
    (run_open c.first c.state run t.bytes t.opened all) (record { column = run_column c.first t.bytes run some; here = omega arith; place = omega arith }) (omega arith, omega arith)
    (λ more.
    let long = length-append run more in
    let total : length fed + length (run ++ more) ≡ length (fed ++ run) + length more = omega arith in
    ap cut (append_assoc fed run more) ∙ t.cuts (run ++ more)
    ∙ ap₂ (λ n l. closed fed ++ cut_from n t.kept (lexemes c.at c.first l)) total (sym (append_assoc t.bytes run more))) in
    (inr text.0, text.1))
    stands

-- games of more and more bytes
pub gains_none : (c : Cutter) (spans : List Span) → HasGained c c [] spans spans
gains_none c spans = record {
  gained = [];
  spans = sym (append-nil spans);
  stands = λ fed stands. (subst (Stands c) (sym (append-nil fed)) stands, ap closed (append-nil fed) ∙ sym (append-nil (closed fed)));
}

pub gains_on : (a b c : Cutter) (xs ys : List ℕ) (p q r : List Span) → HasGained a b xs p q → HasGained b c ys q r → HasGained a c (xs ++ ys) p r
gains_on a b c xs ys p q r one two = record {
  gained = one.gained ++ two.gained;
  spans = two.spans ∙ ap (λ l. l ++ two.gained) one.spans ∙ append_assoc p one.gained two.gained;
  stands = λ fed stands.
      let here = one.stands fed stands in
      let next = two.stands (fed ++ xs) here.0 in (
        subst (Stands c) (append_assoc fed xs ys) next.0,
        ap closed (sym (append_assoc fed xs ys)) ∙ next.1 ∙ ap (λ g. g ++ two.gained) here.1 ∙ append_assoc (closed fed) one.gained two.gained,
      );
}

-- the games that are new
pub new_games : (was now : Cutter) (bytes fed : List ℕ) (before after : List Span) → HasGained was now bytes before after → Stands was fed
    → after ≡ before ++ drop (length (closed fed)) (closed (fed ++ bytes))
new_games was now bytes fed before after g stands =
    g.spans ∙ ap (λ l. before ++ l) (sym (drop-append_seam (closed fed) g.gained)) ∙ ap (λ l. before ++ drop (length (closed fed)) l) (sym (g.stands fed stands).1)

-- the counts of a cutter
pub sound_of : (c : Cutter) (fed : List ℕ) → Stands c fed → IsSound c
sound_of c fed = ⊎_elim (λ m. m.sound) (λ t. t.sound)

pub place_of : (c : Cutter) (fed : List ℕ) → Stands c fed → c.place ≡ length fed
place_of c fed = ⊎_elim (λ m. m.place) (λ t. t.place)

pub gains_same : (was now : Cutter) (bytes : List ℕ) (spans : List Span) → ((fed : List ℕ) → Stands was fed → StandsWith now (fed ++ bytes) (closed fed)) → HasGained was now bytes spans spans
gains_same was now bytes spans stands = record {
  gained = [];
  spans = sym (append-nil spans);
  stands = λ fed is. let next = stands fed is in (next.0, next.1 ∙ sym (append-nil (closed fed)));
}

take_one : (rest : List ℕ) → 0 < length rest → get_or rest 0 0 ∷ [] ≡ take 1 rest
take_one [] some = absurd (omega (arith, some))
take_one (b ∷ []) some = refl
take_one (b ∷ c ∷ bs) some = refl

pub gains_one : (was now : Cutter) (rest : List ℕ) → 0 < length rest → (before after gained : List Span) → after ≡ before ++ gained
    → ((fed : List ℕ) → Stands was fed → StandsWith now (fed ++ get_or rest 0 0 ∷ []) (closed fed ++ gained)) → HasGained was now (take 1 rest) before after
gains_one was now rest some before after gained spans stands = record {
  gained = gained;
  spans = spans;
  stands = λ fed is. subst (λ l. StandsWith now (fed ++ l) (closed fed ++ gained)) (take_one rest some) (stands fed is);
}

-- the games at the archive's end
pub last_games : (now : Cutter) (closed_ last : Option Span) (s : State) (fed : List ℕ) → IsEnded now closed_ s fed → ((at : ℕ) (first : Bool) → lexemes at first [] ≡ [])
    → ((game : List Lexeme) → now.game ≡ progress_of game → option_to_list last ≡ cut_from now.place game []) → (before after : List Span)
    → after ≡ before ++ (option_to_list closed_ ++ option_to_list last) → after ≡ before ++ drop (length (closed fed)) (cut fed)
last_games now closed_ last s fed e none last_is before after is =
    let place : length fed + 0 ≡ now.place = let p = e.between.place_ in omega arith in
    let whole : cut fed ≡ closed fed ++ (option_to_list closed_ ++ option_to_list last) =
    ap cut (sym (append-nil fed)) ∙ e.cuts [] tt
    ∙ ap₂ (λ n ls. (closed fed ++ option_to_list closed_) ++ cut_from n e.kept ls) place (none now.at now.first)
    ∙ ap (λ l. (closed fed ++ option_to_list closed_) ++ l) (sym (last_is e.kept e.game))
    ∙ append_assoc (closed fed) (option_to_list closed_) (option_to_list last) in
    is ∙ ap (λ l. before ++ l) (sym (drop-append_seam (closed fed) (option_to_list closed_ ++ option_to_list last))) ∙ ap (λ l. before ++ drop (length (closed fed)) l) (sym whole)

pub on_ok : {A E : Type 0} (P Q : Type 0) (r : Result A E) → (P → Q) → OnOk r P → OnOk r Q
on_ok P Q (Ok a) f p = f p
on_ok P Q (Err e) f p = p
