-- Lexemes at the start of some bytes that end there, whatever follows.
use Rattle.std.proofs.Common.{◌≡◌, ℕ, suc, ◌+◌, ◌-◌, ◌<◌, ◌≤◌, Bool, true, false, List, [], ◌∷◌, ◌++◌, length, get_or, take, drop, Option, Some, None, refl, sym, ap, ap₂, ◌∙◌, subst, inr, ⊎_elim, arith, true≢false}
use Rattle.std.specs.Prelude.{◌==◌, IfSome}
use Rattle.std.specs.Option.{option_to_list}
use Rattle.std.proofs.lemmas.Bool.{false≢true}
use Rattle.std.proofs.lemmas.List.{append_assoc, length-append, length-take-le, take_all, take_more, take-append-drop}
use Rattle.cq_common.specs.Text.{is_white}
use Rattle.pgn_lexer.specs.Lexemes.{Lexeme, lexemes, first_at}
use Rattle.pgn_lexer.specs.Locality.{Grows}
use Rattle.pgn_lexer.specs.Readings.{reading}
use Rattle.pgn_lexer.specs.SingleLexeme.{goes_on as goes_on_kind, runs_on, IsEndedBy, IsReadWhole}
use Rattle.pgn_lexer.specs.declared.token.Reading.{Reading}
use Rattle.pgn_lexer.specs.declared.token.LexemeKind.{LexemeKind}
use Rattle.pgn_lexer.specs.declared.token.LexemeKind.TheVariants.{EscapeLine, Token}
use Rattle.pgn_lexer.specs.declared.token.TokenKind.TheVariants.{Open, Close, Text, Symbol, Period, Star, LeftParen, RightParen, Nag, Null, Comment, LineComment, BadByte, UnclosedComment, UnclosedText}
use Rattle.pgn_cut.specs.Cut.{marks, cut_from, cut, closed}
use Rattle.pgn_cut.specs.Progress.{progress_of, IsStepOfCut, IsViewOf}
use Rattle.pgn_cut.specs.States.{IsOpen, is_in_mark}
use Rattle.pgn_cut.specs.Streams.{IsBetween, Stands, StandsWith}
use Rattle.pgn_cut.specs.Internal.SettledLexemes.{is_whole, IsSettled, IsSettledLexeme}
use Rattle.pgn_cut.specs.declared.settled_lexeme.SettledLexeme.{SettledLexeme}
use Rattle.pgn_cut.specs.declared.span.Span.{Span}
use Rattle.pgn_cut.specs.declared.cutter.Cutter.{Cutter}
use Rattle.pgn_cut.specs.declared.state.State.TheVariants.{Between}
use Rattle.pgn_cut.proofs.Marks.{in_mark}
use Rattle.pgn_cut.proofs.OpenLexemes.{same_kind, ended_always}
use Rattle.pgn_cut.proofs.Runs.{run_column}
use Rattle.pgn_cut.proofs.Streams.{Closes, WhiteIsPassed, column_push, text_is}

-- the laws of lexemes that this requires
abbrev pub ReadingsGrow : Type 0
ReadingsGrow = (first : Bool) (b : ℕ) (bs more : List ℕ) → Grows first b bs more

abbrev pub StandsNext : Type 0
StandsNext = (at : ℕ) (first : Bool) (kind : LexemeKind) (b : ℕ) (bs more : List ℕ) → IsReadWhole first kind b bs → IsEndedBy kind more
    → lexemes at first (b ∷ bs ++ more) ≡ record { at = at; first = first; text = b ∷ bs; kind = kind } ∷ lexemes (at + length (b ∷ bs)) (first_at first (b ∷ bs) (length (b ∷ bs))) more

-- white space ends every lexeme that doesn't continue over it
abbrev pub WhiteEnds : Type 0
WhiteEnds = (kind : LexemeKind) (b : ℕ) → is_white b ≡ true → runs_on kind ≡ false → goes_on_kind kind b ≡ false

whole_stops : (kind : LexemeKind) → is_whole kind ≡ true → (b : ℕ) → goes_on_kind kind b ≡ false
whole_stops EscapeLine e b = absurd (false≢true e)
whole_stops (Token Open) e b = refl
whole_stops (Token Close) e b = refl
whole_stops (Token Text) e b = refl
whole_stops (Token Symbol) e b = absurd (false≢true e)
whole_stops (Token Period) e b = refl
whole_stops (Token Star) e b = refl
whole_stops (Token LeftParen) e b = refl
whole_stops (Token RightParen) e b = refl
whole_stops (Token (Nag n)) e b = absurd (false≢true e)
whole_stops (Token Null) e b = refl
whole_stops (Token Comment) e b = refl
whole_stops (Token LineComment) e b = absurd (false≢true e)
whole_stops (Token BadByte) e b = absurd (false≢true e)
whole_stops (Token UnclosedComment) e b = absurd (false≢true e)
whole_stops (Token UnclosedText) e b = absurd (false≢true e)

first_byte : (bytes : List ℕ) → 0 < length bytes → bytes ≡ get_or bytes 0 0 ∷ take (length bytes - 1) (drop 1 bytes)
first_byte [] some = absurd (omega (arith, some))
first_byte (b ∷ bs) some = ap (λ l. b ∷ l) (sym (take_all (length (b ∷ bs) - 1) bs (omega arith)))

-- the reading at the start of some bytes is that of its own bytes alone
record IsOwn (first : Bool) (bytes : List ℕ) (r : Reading) : Type 0 where
  b : ℕ
  bs : List ℕ
  text : take r.len bytes ≡ b ∷ bs
  whole : IsReadWhole first r.kind b bs

own_at : ReadingsGrow → (first : Bool) (b : ℕ) (bs : List ℕ) (r : Reading) (n : ℕ) → is_white b ≡ false → r ≡ reading first b bs → r.len ≡ suc n
    → n ≤ length bs → IsReadWhole first r.kind b (take n bs)
own_at grow first b bs r n dark is len within =
    let size = length-take-le n bs within in
    let read = ap (λ (q : Reading). q.len) is in
    let halves = take-append-drop n bs in
    let long = ap (λ l. (reading first b l).len) halves in
    let same = (grow first b (take n bs) (drop n bs)).same (omega arith) in
    let fits : r.len ≡ length (b ∷ take n bs) = omega arith in
    record {
      dark = dark;
      reads = sym same ∙ ap (reading first b) halves ∙ sym is ∙ ap (λ m. record { kind = r.kind; len = m }) fits;
    }

own_reading : ReadingsGrow → (first : Bool) (bytes : List ℕ) (r : Reading) → 0 < length bytes → is_white (get_or bytes 0 0) ≡ false
    → r ≡ reading first (get_or bytes 0 0) (take (length bytes - 1) (drop 1 bytes)) → 0 < r.len → r.len ≤ length bytes → IsOwn first bytes r
own_reading grow first bytes r some dark is much within =
    let b : ℕ = get_or bytes 0 0 in
    let bs : List ℕ = take (length bytes - 1) (drop 1 bytes) in
    let all = first_byte bytes some in
    let size : length bytes ≡ suc (length bs) = ap length all in
    let len : r.len ≡ suc (r.len - 1) = omega arith in
    record { b = b; bs = take (r.len - 1) bs; text = ap₂ take len all; whole = own_at grow first b bs r (r.len - 1) dark is len (omega arith) }

module _ (grow : ReadingsGrow) (next : StandsNext) (ends_white : WhiteEnds) (white : WhiteIsPassed) where
  pub found_here : (first : Bool) (bytes : List ℕ) (r : Reading) (f : SettledLexeme) → 0 < length bytes → is_white (get_or bytes 0 0) ≡ false
      → r ≡ reading first (get_or bytes 0 0) (take (length bytes - 1) (drop 1 bytes)) → 0 < r.len → r.len ≤ length bytes
      → f.kind ≡ r.kind → f.len ≡ r.len → f.marker ≡ marks r.kind (take r.len bytes) → IsSettled bytes r f.taken → IsSettledLexeme first (take f.taken bytes) f
  found_here first bytes r f some dark is much within kind_is len_is marker_is settled =
      let o = own_reading grow first bytes r some dark is much within in
      let text : List ℕ = o.b ∷ o.bs in
      let size : length text ≡ r.len = sym (ap length o.text) ∙ length-take-le r.len bytes within in
      let marked : f.marker ≡ marks f.kind text = marker_is ∙ ap₂ marks (sym kind_is) o.text in
      ⊎_elim
      (λ (taken, less, is_white_, stops).
      let w : ℕ = get_or bytes r.len 0 in
      let front : take f.taken bytes ≡ text ++ w ∷ [] = ap (λ n. take n bytes) taken ∙ take_more bytes r.len 0 less ∙ ap (λ l. l ++ w ∷ []) o.text in
      let long = length-append text (w ∷ []) in
      subst (λ run. IsSettledLexeme first run f) (sym front) (record {
        text = text;
        size = size ∙ sym len_is;
        marked = marked;
        next = λ at rest.
            let place : at + length text + 1 ≡ at + length (text ++ w ∷ []) = omega arith in
            ap (lexemes at first) (append_assoc text (w ∷ []) rest)
            ∙ next at first r.kind o.b o.bs (w ∷ rest) o.whole (ends_white r.kind w is_white_ stops)
            ∙ ap₂ (λ k ls. (record { at = at; first = first; text = text; kind = k }) ∷ ls) (sym kind_is) (white (at + length text) (first_at first text (length text)) w rest is_white_
            ∙ ap₂ (λ n c. lexemes n c rest) place (sym (column_push first text w)));
      }))
      (λ (taken, whole).
      let front : take f.taken bytes ≡ text = ap (λ n. take n bytes) taken ∙ o.text in
      subst (λ run. IsSettledLexeme first run f) (sym front) (record {
        text = text;
        size = size ∙ sym len_is;
        marked = marked;
        next = λ at rest. next at first r.kind o.b o.bs rest o.whole (ended_always r.kind (whole_stops r.kind whole) rest)
            ∙ ap (λ k. (record { at = at; first = first; text = text; kind = k }) ∷ lexemes (at + length text) (first_at first text (length text)) rest) (sym kind_is);
      }))
      settled

  pub found_if : (first : Bool) (bytes : List ℕ) (r : Reading) (found : Option SettledLexeme) → 0 < length bytes → is_white (get_or bytes 0 0) ≡ false
      → r ≡ reading first (get_or bytes 0 0) (take (length bytes - 1) (drop 1 bytes)) → 0 < r.len → r.len ≤ length (take (length bytes - 1) (drop 1 bytes)) + 1
      → IfSome found (λ f. f.kind ≡ r.kind) → IfSome found (λ f. f.len ≡ r.len) → IfSome found (λ f. f.marker ≡ marks r.kind (take r.len bytes)) → IfSome found (λ f. IsSettled bytes r f.taken)
      → IfSome found (λ f. IsSettledLexeme first (take f.taken bytes) f)
  found_if first bytes r None some dark is much within kind len marker settled = tt
  found_if first bytes r (Some f) some dark is much within kind len marker settled =
      let size = ap length (first_byte bytes some) in
      found_here first bytes r f some dark is much (omega (arith, within)) kind len marker settled

-- the cutter after a run that begins with a lexeme, and the game that it closed
pub record HasMet (c : Cutter) (run : List ℕ) (f : SettledLexeme) (now : Cutter) (closed_ : Option Span) : Type 0 where
  pub rest : IsBetween now (c.place + length run) (get_or run (length run - 1) 0 == 10)
  pub deeper : now.game.depth ≤ c.game.depth + 1
  pub cuts : (game : List Lexeme) (l : Lexeme) → IsViewOf (record { at = c.at; end = c.place + f.len; first = c.first; kind = f.kind; marker = f.marker }) l
      → c.game ≡ progress_of game → IsStepOfCut now.game closed_ l game

-- a cutter between lexemes meets one
pub lexeme_met : Closes → (c : Cutter) (run : List ℕ) (f : SettledLexeme) → c.state ≡ Between → 0 < length run → IsSettledLexeme c.first run f → (now : Cutter) (closed_ : Option Span)
    → HasMet c run f now closed_ → (fed : List ℕ) → Stands c fed → StandsWith now (fed ++ run) (closed fed ++ option_to_list closed_)
lexeme_met closes c run f between some found now closed_ after_lexeme fed stands =
    let rest = after_lexeme.rest in
    let deeper = after_lexeme.deeper in
    ⊎_elim
    (λ mark. absurd (true≢false (sym (in_mark c fed mark) ∙ ap is_in_mark between)))
    (λ t.
    let none : t.bytes ≡ [] = subst (λ s. IsOpen c.first s t.bytes) between t.opened in
    let len = ap length none in
    let here = t.here in
    let place = t.place in
    let deep = t.sound.0 in
    let front = length-append fed run in
    let at_is = rest.at in
    let place_is = rest.place_ in
    let size = found.size in
    let ends : c.place + f.len ≡ c.at + length found.text = omega arith in
    let step = after_lexeme.cuts t.kept (record { at = c.at; first = c.first; text = found.text; kind = f.kind })
    (record { at = refl; ends = ends; first = refl; alike = same_kind f.kind; marker = found.marked }) t.game in
    let col : first_at c.first run (length run) ≡ now.first = sym (run_column c.first [] run some) ∙ sym rest.first in
    let now_at : c.at + length run ≡ now.at = omega arith in
    let text = text_is closes now (fed ++ run) (closed fed ++ option_to_list closed_) step.kept [] step.stands (subst (λ s. IsOpen now.first s []) (sym rest.state) refl)
    (record { column = rest.column_ ∙ sym rest.first; here = omega arith; place = omega arith }) (omega arith, omega arith)
    (λ more.
    let long = length-append run more in
    let n : ℕ = length (fed ++ run) + length more in
    let total : length fed + length (run ++ more) ≡ n = omega arith in
    ap cut (append_assoc fed run more) ∙ t.cuts (run ++ more)
    ∙ ap₂ (λ m l. closed fed ++ cut_from m t.kept (lexemes c.at c.first (l ++ (run ++ more)))) total none
    ∙ ap (λ ls. closed fed ++ cut_from n t.kept ls) (found.next c.at more)
    ∙ ap (λ g. closed fed ++ g) (step.cuts n (lexemes (c.at + length run) (first_at c.first run (length run)) more))
    ∙ sym (append_assoc (closed fed) (option_to_list closed_) (cut_from n step.kept (lexemes (c.at + length run) (first_at c.first run (length run)) more)))
    ∙ ap₂ (λ a c. (closed fed ++ option_to_list closed_) ++ cut_from n step.kept (lexemes a c more)) now_at col) in
    (inr text.0, text.1))
    stands
