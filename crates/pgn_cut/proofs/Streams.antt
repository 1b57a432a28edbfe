-- The state of a cutter, after one more byte.
use Rattle.std.proofs.Common.{◌≡◌, ℕ, suc, ◌+◌, ◌≤◌, Bool, true, false, List, [], ◌∷◌, ◌++◌, length, Option, None, refl, sym, ap, ap₂, ◌∙◌, subst, arith}
use Rattle.std.specs.Prelude.{◌==◌}
use Rattle.std.specs.Option.{option_to_list}
use Rattle.std.proofs.lemmas.List.{append-nil, append_assoc, length-append, get_or_push}
use Rattle.cq_common.specs.Text.{is_white}
use Rattle.pgn_lexer.specs.Bytes.{ends_line}
use Rattle.pgn_lexer.specs.Lexemes.{Lexeme, lexemes, first_at}
use Rattle.pgn_lexer.specs.declared.token.LexemeKind.{LexemeKind}
use Rattle.pgn_cut.specs.Cut.{cut_from, cut, closed}
use Rattle.pgn_cut.specs.Progress.{progress_of, IsStepOfCut, IsViewOf}
use Rattle.pgn_cut.specs.States.{IsOpen, takes, EndsBefore, IsOneLexeme}
use Rattle.pgn_cut.specs.Streams.{IsSound, IsBetween, IsInText, IsEnded, IsReady, HasTaken}
use Rattle.pgn_cut.specs.declared.span.Span.{Span}
use Rattle.pgn_cut.specs.declared.cutter.Cutter.{Cutter}
use Rattle.pgn_cut.specs.declared.state.State.{State}
use Rattle.pgn_cut.specs.declared.state.State.TheVariants.{Between}

-- the laws of open lexemes that this requires
abbrev pub Closes : Type 0
Closes = (front : List ℕ) (games : List Span) (at : ℕ) (first : Bool) (game : List Lexeme) (s : State) (bytes : List ℕ) → IsOpen first s bytes → at + length bytes ≡ length front
    → ((more : List ℕ) → cut (front ++ more) ≡ games ++ cut_from (length front + length more) game (lexemes at first (bytes ++ more))) → closed front ≡ games

abbrev pub WhiteIsPassed : Type 0
WhiteIsPassed = (at : ℕ) (first : Bool) (b : ℕ) (bs : List ℕ) → is_white b ≡ true → lexemes at first (b ∷ bs) ≡ lexemes (at + 1) (ends_line b) bs

abbrev pub Whenever : List ℕ → Type 0
Whenever rest = Unit {0}

-- a cutter is at the end of a front, of which it keeps the last bytes
pub record IsAtEnd (c : Cutter) (front bytes : List ℕ) : Type 0 where
  pub column : c.column ≡ first_at c.first bytes (length bytes)
  pub here : c.at + length bytes ≡ length front
  pub place : c.place ≡ length front

-- a cutter in a text, by the games that are closed
pub text_is : Closes → (c : Cutter) (front : List ℕ) (games : List Span) (kept : List Lexeme) (bytes : List ℕ) → c.game ≡ progress_of kept → IsOpen c.first c.state bytes
    → IsAtEnd c front bytes → IsSound c
    → ((more : List ℕ) → cut (front ++ more) ≡ games ++ cut_from (length front + length more) kept (lexemes c.at c.first (bytes ++ more))) → HasTaken c front games
text_is closes c front games kept bytes game opened ends sound cuts =
    let is = closes front games c.at c.first kept c.state bytes opened ends.here cuts in (
      record {
        kept = kept;
        bytes = bytes;
        game = game;
        opened = opened;
        column = ends.column;
        here = ends.here;
        place = ends.place;
        sound = sound;
        cuts = λ more. cuts more ∙ ap (λ g. g ++ cut_from (length front + length more) kept (lexemes c.at c.first (bytes ++ more))) (sym is);
      },
      is,
    )

-- one more byte
size_push : (fed more : List ℕ) (b : ℕ) → length fed + length (b ∷ more) ≡ length (fed ++ b ∷ []) + length more
size_push fed more b = let e = length-append fed (b ∷ []) in omega arith

pub column_push : (first : Bool) (bytes : List ℕ) (b : ℕ) → first_at first (bytes ++ b ∷ []) (length (bytes ++ b ∷ [])) ≡ ends_line b
column_push first bytes b =
    let e : length (bytes ++ b ∷ []) ≡ suc (length bytes) = let n = length-append bytes (b ∷ []) in omega arith in
    ap (first_at first (bytes ++ b ∷ [])) e ∙ ap ends_line (get_or_push bytes b 0 (length bytes) refl)

module _ (closes : Closes) (c : Cutter) (fed : List ℕ) (b : ℕ) (games : List Span) (r : IsReady c fed b games) where
  ready_cuts : (more : List ℕ) → cut ((fed ++ b ∷ []) ++ more) ≡ games ++ cut_from (length (fed ++ b ∷ []) + length more) r.kept (lexemes c.at c.first ((r.bytes ++ b ∷ []) ++ more))
  ready_cuts more =
      ap cut (append_assoc fed (b ∷ []) more) ∙ r.cuts more
      ∙ ap₂ (λ n t. games ++ cut_from n r.kept (lexemes c.at c.first t)) (size_push fed more b) (sym (append_assoc r.bytes (b ∷ []) more))

  place_push : c.place + 1 ≡ length (fed ++ b ∷ [])
  place_push = let e = length-append fed (b ∷ []) in let p = r.place in omega arith

  here_push : c.at + length (r.bytes ++ b ∷ []) ≡ length (fed ++ b ∷ [])
  here_push = let e = length-append fed (b ∷ []) in let f = length-append r.bytes (b ∷ []) in let h = r.here in omega arith

  -- the lexeme stays open
  pub stays_open : (now : Cutter) (s : State) → now ≡ record { state = s; game = c.game; at = c.at; first = c.first; place = c.place + 1; column = b == 10 }
      → IsOpen c.first s (r.bytes ++ b ∷ []) → HasTaken now (fed ++ b ∷ []) (games ++ [])
  stays_open now s now_is opened =
      let here = r.here in
      let place = r.place in
      let shallow = r.shallow in
      subst (λ n. HasTaken n (fed ++ b ∷ []) (games ++ [])) (sym now_is)
      (text_is closes (record { state = s; game = c.game; at = c.at; first = c.first; place = c.place + 1; column = b == 10 }) (fed ++ b ∷ []) (games ++ []) r.kept (r.bytes ++ b ∷ []) r.game opened
      (record { column = sym (column_push c.first r.bytes b); here = here_push; place = place_push }) (omega arith, omega arith)
      (λ more. ready_cuts more ∙ ap (λ g. g ++ cut_from (length (fed ++ b ∷ []) + length more) r.kept (lexemes c.at c.first ((r.bytes ++ b ∷ []) ++ more))) (sym (append-nil games))))

  -- white space
  pub passes : WhiteIsPassed → c.state ≡ Between → is_white b ≡ true → (now : Cutter)
      → now ≡ record { state = Between; game = c.game; at = c.place + 1; first = b == 10; place = c.place + 1; column = b == 10 } → HasTaken now (fed ++ b ∷ []) (games ++ [])
  passes white between is now now_is =
      let none : r.bytes ≡ [] = subst (λ s. IsOpen c.first s r.bytes) between r.opened in
      let len = ap length none in
      let here = r.here in
      let place = r.place in
      let shallow = r.shallow in
      let at_is : c.at + 1 ≡ c.place + 1 = omega arith in
      let here_now : c.place + 1 + 0 ≡ length (fed ++ b ∷ []) = let p = place_push in omega arith in
      subst (λ n. HasTaken n (fed ++ b ∷ []) (games ++ [])) (sym now_is)
      (text_is closes (record { state = Between; game = c.game; at = c.place + 1; first = b == 10; place = c.place + 1; column = b == 10 }) (fed ++ b ∷ []) (games ++ []) r.kept [] r.game refl
      (record { column = refl; here = here_now; place = place_push }) (omega arith, omega arith)
      (λ more.
      let n : ℕ = length (fed ++ b ∷ []) + length more in
      ready_cuts more
      ∙ ap (λ l. games ++ cut_from n r.kept (lexemes c.at c.first ((l ++ b ∷ []) ++ more))) none
      ∙ ap (λ ls. games ++ cut_from n r.kept ls) (white c.at c.first b more is)
      ∙ ap₂ (λ g a. g ++ cut_from n r.kept (lexemes a (b == 10) more)) (sym (append-nil games)) at_is))

  -- a lexeme ends with the byte
  pub meets : (kind : LexemeKind) (marker : Bool) → IsOneLexeme c.first (r.bytes ++ b ∷ []) kind marker Whenever → (now : Cutter) (closed_ : Option Span) → IsBetween now (c.place + 1) (b == 10)
      → now.game.depth ≤ c.game.depth + 1
      → ((game : List Lexeme) (l : Lexeme) → IsViewOf (record { at = c.at; end = c.place + 1; first = c.first; kind = kind; marker = marker }) l
      → c.game ≡ progress_of game → IsStepOfCut now.game closed_ l game)
      → HasTaken now (fed ++ b ∷ []) (games ++ option_to_list closed_)
  meets kind marker one now closed_ between deeper after_lexeme =
      let bytes : List ℕ = r.bytes ++ b ∷ [] in
      let shallow = r.shallow in
      let at_is = between.at in
      let place_is = between.place_ in
      let place = place_push in
      let here = here_push in
      let step = after_lexeme r.kept (record { at = c.at; first = c.first; text = bytes; kind = one.read })
      (record { at = refl; ends = place_push ∙ sym here_push; first = refl; alike = one.alike; marker = one.marked }) r.game in
      let now_at : c.at + length bytes ≡ now.at = here_push ∙ sym place_push ∙ sym between.at in
      let now_first : first_at c.first bytes (length bytes) ≡ now.first = column_push c.first r.bytes b ∙ sym between.first in
      text_is closes now (fed ++ b ∷ []) (games ++ option_to_list closed_) step.kept [] step.stands (subst (λ s. IsOpen now.first s []) (sym between.state) refl)
      (record { column = between.column_ ∙ sym between.first; here = omega arith; place = between.place_ ∙ place_push }) (omega arith, omega arith)
      (λ more.
      let n : ℕ = length (fed ++ b ∷ []) + length more in
      ready_cuts more
      ∙ ap (λ ls. games ++ cut_from n r.kept ls) (one.next c.at more tt)
      ∙ ap (λ x. games ++ x) (step.cuts n (lexemes (c.at + length bytes) (first_at c.first bytes (length bytes)) more))
      ∙ sym (append_assoc games (option_to_list closed_) (cut_from n step.kept (lexemes (c.at + length bytes) (first_at c.first bytes (length bytes)) more)))
      ∙ ap₂ (λ a f. (games ++ option_to_list closed_) ++ cut_from n step.kept (lexemes a f more)) now_at now_first)

-- an open lexeme ends
pub ends_here : (c : Cutter) (fed : List ℕ) (t : IsInText c fed) (kind : LexemeKind) (marker : Bool)
    → IsOneLexeme c.first t.bytes kind marker (EndsBefore c.state) → (now : Cutter) (closed_ : Option Span)
    → IsBetween now c.place c.column → now.game.depth ≤ c.game.depth + 1
    → ((game : List Lexeme) (l : Lexeme) → IsViewOf (record { at = c.at; end = c.place; first = c.first; kind = kind; marker = marker }) l
    → c.game ≡ progress_of game → IsStepOfCut now.game closed_ l game)
    → IsEnded now closed_ c.state fed
ends_here c fed t kind marker one now closed_ between deeper after_lexeme =
    let sound = t.sound.0 in
    let place = t.place in
    let step = after_lexeme t.kept (record { at = c.at; first = c.first; text = t.bytes; kind = one.read })
    (record { at = refl; ends = t.place ∙ sym t.here; first = refl; alike = one.alike; marker = one.marked }) t.game in
    let now_at : c.at + length t.bytes ≡ now.at = t.here ∙ sym t.place ∙ sym between.at in
    let now_first : first_at c.first t.bytes (length t.bytes) ≡ now.first = sym t.column ∙ sym between.first in
    record {
      kept = step.kept;
      game = step.stands;
      between = record { state = between.state; at = between.at ∙ t.place; first = refl; place_ = between.place_ ∙ t.place; column_ = between.column_ ∙ sym between.first };
      shallow = omega arith;
      cuts = λ rest ends.
          let n : ℕ = length fed + length rest in
          t.cuts rest
          ∙ ap (λ ls. closed fed ++ cut_from n t.kept ls) (one.next c.at rest ends)
          ∙ ap (λ x. closed fed ++ x) (step.cuts n (lexemes (c.at + length t.bytes) (first_at c.first t.bytes (length t.bytes)) rest))
          ∙ sym (append_assoc (closed fed) (option_to_list closed_) (cut_from n step.kept (lexemes (c.at + length t.bytes) (first_at c.first t.bytes (length t.bytes)) rest)))
          ∙ ap₂ (λ a f. (closed fed ++ option_to_list closed_) ++ cut_from n step.kept (lexemes a f rest)) now_at now_first;
    }

-- nothing is open
pub ends_between : (c : Cutter) (fed : List ℕ) → IsInText c fed → c.state ≡ Between → IsEnded c None c.state fed
ends_between c fed t between =
    let none : t.bytes ≡ [] = subst (λ s. IsOpen c.first s t.bytes) between t.opened in
    let len = ap length none in
    let here = t.here in
    let place = t.place in
    let sound = t.sound.0 in
    record {
      kept = t.kept;
      game = t.game;
      between = record { state = between; at = omega arith; first = refl; place_ = t.place; column_ = t.column ∙ ap (λ l. first_at c.first l (length l)) none };
      shallow = omega arith;
      cuts = λ rest ends.
          t.cuts rest
          ∙ ap₂ (λ g l. g ++ cut_from (length fed + length rest) t.kept (lexemes c.at c.first (l ++ rest))) (sym (append-nil (closed fed))) none;
    }

-- the byte after an ended lexeme, and after one that continues
pub ready_ended : (c : Cutter) (closed_ : Option Span) (s : State) (fed : List ℕ) (b : ℕ) → IsEnded c closed_ s fed → takes s b ≡ false → IsReady c fed b (closed fed ++ option_to_list closed_)
ready_ended c closed_ s fed b e other =
    let at_is = e.between.at in
    let place_is = e.between.place_ in
    let shallow = e.shallow in
    record {
      kept = e.kept;
      bytes = [];
      game = e.game;
      opened = subst (λ t. IsOpen c.first t []) (sym e.between.state) refl;
      column = e.between.column_;
      here = omega arith;
      place = e.between.place_;
      shallow = omega arith;
      belongs = ap (λ t. takes t b) e.between.state;
      cuts = λ more. e.cuts (b ∷ more) other;
    }

pub ready_text : (c : Cutter) (fed : List ℕ) (b : ℕ) → IsInText c fed → takes c.state b ≡ true → IsReady c fed b (closed fed)
ready_text c fed b t belongs =
    let sound = t.sound.0 in
    record {
      kept = t.kept;
      bytes = t.bytes;
      game = t.game;
      opened = t.opened;
      column = t.column;
      here = t.here;
      place = t.place;
      shallow = omega arith;
      belongs = belongs;
      cuts = λ more. t.cuts (b ∷ more);
    }
