-- A byte order mark, and bytes that begin one but are none.
use Rattle.std.proofs.Common.{◌≡◌, ℕ, suc, ◌+◌, ◌≤◌, ◌⊎◌, Bool, true, false, cond, List, [], ◌∷◌, ◌++◌, length, drop, None, refl, sym, ap, ap₂, ◌∙◌, inl, inr, ⊎_elim, arith, zero-add, append-nil, true≢false}
use Rattle.std.specs.Prelude.{◌==◌, ◌&&◌, nat_eq}
use Rattle.std.specs.List.{starts_with}
use Rattle.std.proofs.lemmas.Bool.Decides.{nat_tests}
use Rattle.cq_common.specs.Text.{is_white}
use Rattle.pgn_lexer.specs.Lexemes.{Lexeme, lexemes}
use Rattle.pgn_lexer.specs.Readings.{reading, single}
use Rattle.pgn_lexer.specs.declared.token.LexemeKind.TheVariants.{Token}
use Rattle.pgn_lexer.specs.declared.token.TokenKind.TheVariants.{BadByte}
use Rattle.pgn_cut.specs.Cut.{cut_from, cut, closed, text_start}
use Rattle.pgn_cut.specs.Progress.{progress_of, IsViewOf}
use Rattle.pgn_cut.specs.States.{IsOpen, begun, is_in_mark, EndsBefore, IsOneLexeme}
use Rattle.pgn_cut.specs.Streams.{IsInMark, IsInText, IsEnded, StandsWith}
use Rattle.pgn_cut.specs.declared.game.OpenGame.{OpenGame}
use Rattle.pgn_cut.specs.declared.game.LexemeView.{LexemeView}
use Rattle.pgn_cut.specs.declared.cutter.Cutter.{Cutter}
use Rattle.pgn_cut.specs.declared.state.State.{State}
use Rattle.pgn_cut.specs.declared.state.State.TheVariants.{AtStart, OneOfMark, TwoOfMark, Between, InComment, InLine, InText, InSymbol, InNumber, InSuffix, InNull}
use Rattle.pgn_cut.proofs.Closed.{goes_in, one_closes_nothing, two_close_nothing, nothing_closes}
use Rattle.pgn_cut.proofs.Streams.{Closes, Whenever, text_is}

abbrev pub StandAlone : Type 0
StandAlone = (first : Bool) (b : ℕ) → is_white b ≡ false → begun first b ≡ None → IsOneLexeme first (b ∷ []) (reading first b []).kind (b == 42) Whenever

one_not_start : OneOfMark ≡ AtStart → ⊥
one_not_start e = cc

two_not_start : TwoOfMark ≡ AtStart → ⊥
two_not_start e = cc

two_not_one : TwoOfMark ≡ OneOfMark → ⊥
two_not_one e = cc

-- the bytes that a cutter in a mark was fed
pub fed_none : (c : Cutter) (fed : List ℕ) → IsInMark c fed → c.state ≡ AtStart → fed ≡ []
fed_none c fed m is = ⊎_elim (λ p. p.1) (λ q. ⊎_elim (λ p. absurd (one_not_start (sym p.0 ∙ is))) (λ p. absurd (two_not_start (sym p.0 ∙ is))) q) m.part

pub fed_one : (c : Cutter) (fed : List ℕ) → IsInMark c fed → c.state ≡ OneOfMark → fed ≡ 239 ∷ []
fed_one c fed m is = ⊎_elim (λ p. absurd (one_not_start (sym is ∙ p.0))) (λ q. ⊎_elim (λ p. p.1) (λ p. absurd (two_not_one (sym p.0 ∙ is))) q) m.part

pub fed_two : (c : Cutter) (fed : List ℕ) → IsInMark c fed → (c.state ≡ AtStart → ⊥) → (c.state ≡ OneOfMark → ⊥) → (c.state ≡ TwoOfMark) × (fed ≡ 239 ∷ 187 ∷ [])
fed_two c fed m no_start no_one = ⊎_elim (λ p. absurd (no_start p.0)) (λ q. ⊎_elim (λ p. absurd (no_one p.0)) (λ p. p) q) m.part

mark_is : (s t : State) → s ≡ t → is_in_mark t ≡ true → is_in_mark s ≡ true
mark_is s t same is = ap is_in_mark same ∙ is

pub in_mark : (c : Cutter) (fed : List ℕ) → IsInMark c fed → is_in_mark c.state ≡ true
in_mark c fed m = ⊎_elim (λ p. mark_is c.state AtStart p.0 refl) (λ q. ⊎_elim (λ p. mark_is c.state OneOfMark p.0 refl) (λ p. mark_is c.state TwoOfMark p.0 refl) q) m.part

in_no_mark : (first : Bool) (s : State) (bytes : List ℕ) → IsOpen first s bytes → is_in_mark s ≡ true → ⊥
in_no_mark first AtStart bytes is mark = is
in_no_mark first OneOfMark bytes is mark = is
in_no_mark first TwoOfMark bytes is mark = is
in_no_mark first Between bytes is mark = true≢false (sym mark)
in_no_mark first InComment bytes is mark = true≢false (sym mark)
in_no_mark first InLine bytes is mark = true≢false (sym mark)
in_no_mark first (InText t) bytes is mark = true≢false (sym mark)
in_no_mark first (InSymbol r) bytes is mark = true≢false (sym mark)
in_no_mark first InNumber bytes is mark = true≢false (sym mark)
in_no_mark first InSuffix bytes is mark = true≢false (sym mark)
in_no_mark first InNull bytes is mark = true≢false (sym mark)

pub no_mark : (c : Cutter) (fed : List ℕ) → IsInText c fed → is_in_mark c.state ≡ true → ⊥
no_mark c fed t = in_no_mark c.first c.state t.bytes t.opened

-- no mark is at the start of an archive
turned : (b c : ℕ) → (b == c) ≡ false → (c == b) ≡ false
turned b c other = grind (arith, nat_tests)

start_is : (rest : List ℕ) → EndsBefore AtStart rest → text_start rest ≡ 0
start_is [] ends = refl
start_is (b ∷ bs) ends = ap (λ t. cond (t && starts_with nat_eq bs (187 ∷ 191 ∷ [])) 3 0) (turned b 239 ends)

one_is : (rest : List ℕ) → EndsBefore OneOfMark rest → text_start (239 ∷ rest) ≡ 0
one_is [] ends = refl
one_is (b ∷ bs) ends = ap (λ t. cond (t && starts_with nat_eq bs (191 ∷ [])) 3 0) (turned b 187 ends)

two_is : (rest : List ℕ) → EndsBefore TwoOfMark rest → text_start (239 ∷ 187 ∷ rest) ≡ 0
two_is [] ends = refl
two_is (b ∷ bs) ends = ap (λ t. cond (t && true) 3 0) (turned b 191 ends)

pub cut_is : (archive : List ℕ) → text_start archive ≡ 0 → cut archive ≡ cut_from (length archive) [] (lexemes 0 true archive)
cut_is archive none = ap (λ k. cut_from (length archive) [] (lexemes k true (drop k archive))) none

-- nothing was fed
pub start_ends : (game : OpenGame) → game ≡ progress_of [] → game.depth ≡ 0 → IsEnded (record { state = Between; game = game; at = 0; first = true; place = 0; column = true }) None AtStart []
start_ends game is flat = record {
  kept = [];
  game = is;
  between = record { state = refl; at = refl; first = refl; place_ = refl; column_ = refl };
  shallow = omega arith;
  cuts = λ rest ends. cut_is rest (start_is rest ends)
      ∙ ap₂ (λ g n. g ++ cut_from n [] (lexemes 0 true rest)) (sym (append-nil (closed []) ∙ nothing_closes)) (sym (zero-add (length rest)));
}

-- a byte of a mark that is none
unfoldable pub bad : (first : Bool) → ℕ → Type 0
bad first b = IsOneLexeme first (b ∷ []) (Token BadByte) false Whenever

pub bad_one : StandAlone → bad true 239
unfolding bad reading single
bad_one alone = alone true 239 refl refl

pub bad_two : StandAlone → bad false 187
unfolding bad reading single
bad_two alone = alone false 187 refl refl

unfoldable pub bad_lexeme : (at : ℕ) (first : Bool) (b : ℕ) → bad first b → Lexeme
unfolding bad
bad_lexeme at first b one = record { at = at; first = first; text = b ∷ []; kind = one.read }

bad_shows : (at : ℕ) (first : Bool) (b : ℕ) (one : bad first b) → IsViewOf (record { at = at; end = at + 1; first = first; kind = Token BadByte; marker = false }) (bad_lexeme at first b one)
unfolding bad bad_lexeme
bad_shows at first b one = record { at = refl; ends = refl; first = refl; alike = one.alike; marker = one.marked }

pub bad_goes_in : (place : ℕ) (game : List Lexeme) (at : ℕ) (first : Bool) (b : ℕ) (one : bad first b) (ls : List Lexeme)
    → cut_from place game (bad_lexeme at first b one ∷ ls) ≡ cut_from place (game ++ bad_lexeme at first b one ∷ []) ls
unfolding bad bad_lexeme
bad_goes_in place game at first b one ls = goes_in place game (record { at = at; first = first; text = b ∷ []; kind = one.read }) ls (sym one.alike.opens_) (sym one.marked)

pub bad_next : (at : ℕ) (first : Bool) (b : ℕ) (one : bad first b) (rest : List ℕ) → (b == 10) ≡ false → lexemes at first (b ∷ rest) ≡ bad_lexeme at first b one ∷ lexemes (at + 1) false rest
unfolding bad bad_lexeme
bad_next at first b one rest line = one.next at rest tt ∙ ap (λ f. (record { at = at; first = first; text = b ∷ []; kind = one.read }) ∷ lexemes (at + 1) f rest) line

-- the promise of `with` for a game
abbrev pub Gains : OpenGame → LexemeView → OpenGame → Type 0
Gains was look now = (game : List Lexeme) (l : Lexeme) → IsViewOf look l → was ≡ progress_of game → now ≡ progress_of (game ++ l ∷ [])

-- one byte of a mark was fed
pub one_ends : StandAlone → (was game : OpenGame) → was ≡ progress_of [] → game.depth ≤ 2 → Gains was (record { at = 0; end = 1; first = true; kind = Token BadByte; marker = false }) game
    → IsEnded (record { state = Between; game = game; at = 1; first = false; place = 1; column = false }) None OneOfMark (239 ∷ [])
one_ends alone was game is low gains =
    let one = bad_one alone in
    let l = bad_lexeme 0 true 239 one in
    record {
      kept = l ∷ [];
      game = gains [] l (bad_shows 0 true 239 one) is;
      between = record { state = refl; at = refl; first = refl; place_ = refl; column_ = refl };
      shallow = omega arith;
      cuts = λ rest ends.
          let size : suc (length rest) ≡ 1 + length rest = omega arith in
          cut_is (239 ∷ rest) (one_is rest ends)
          ∙ ap₂ (λ n ls. cut_from n [] ls) size (bad_next 0 true 239 one rest refl)
          ∙ bad_goes_in (1 + length rest) [] 0 true 239 one (lexemes 1 false rest)
          ∙ ap (λ g. g ++ cut_from (1 + length rest) (l ∷ []) (lexemes 1 false rest)) (sym (append-nil (closed (239 ∷ [])) ∙ one_closes_nothing));
    }

-- two bytes of a mark were fed
pub two_end : StandAlone → (was then game : OpenGame) → was ≡ progress_of [] → game.depth ≤ 2 → Gains was (record { at = 0; end = 1; first = true; kind = Token BadByte; marker = false }) then
    → Gains then (record { at = 1; end = 2; first = false; kind = Token BadByte; marker = false }) game
    → IsEnded (record { state = Between; game = game; at = 2; first = false; place = 2; column = false }) None TwoOfMark (239 ∷ 187 ∷ [])
two_end alone was then game is low gains more =
    let one = bad_one alone in
    let two = bad_two alone in
    let l = bad_lexeme 0 true 239 one in
    let k = bad_lexeme 1 false 187 two in
    record {
      kept = l ∷ k ∷ [];
      game = more (l ∷ []) k (bad_shows 1 false 187 two) (gains [] l (bad_shows 0 true 239 one) is);
      between = record { state = refl; at = refl; first = refl; place_ = refl; column_ = refl };
      shallow = omega arith;
      cuts = λ rest ends.
          let size : suc (suc (length rest)) ≡ 2 + length rest = omega arith in
          cut_is (239 ∷ 187 ∷ rest) (two_is rest ends)
          ∙ ap₂ (λ n ls. cut_from n [] ls) size (bad_next 0 true 239 one (187 ∷ rest) refl ∙ ap (λ ls. l ∷ ls) (bad_next 1 false 187 two rest refl))
          ∙ bad_goes_in (2 + length rest) [] 0 true 239 one (k ∷ lexemes 2 false rest)
          ∙ bad_goes_in (2 + length rest) (l ∷ []) 1 false 187 two (lexemes 2 false rest)
          ∙ ap (λ g. g ++ cut_from (2 + length rest) (l ∷ k ∷ []) (lexemes 2 false rest)) (sym (append-nil (closed (239 ∷ 187 ∷ [])) ∙ two_close_nothing));
    }

-- one more byte of a mark
pub mark_grows : (now : Cutter) (fed more : List ℕ) → closed fed ≡ [] → closed more ≡ [] → ((now.state ≡ OneOfMark) × (more ≡ 239 ∷ [])) ⊎ ((now.state ≡ TwoOfMark) × (more ≡ 239 ∷ 187 ∷ []))
    → now.game ≡ progress_of [] → now.game.depth ≡ 0 → now.place ≡ length more → now.at ≡ 0 → StandsWith now more (closed fed)
mark_grows now fed more none still part game flat place at =
    (inl (record { part = inr part; game = game; place = place; sound = (omega arith, omega arith) }), still ∙ sym none)

-- the whole mark
pub mark_ends : Closes → (game : OpenGame) → game ≡ progress_of [] → game.depth ≡ 0
    → StandsWith (record { state = Between; game = game; at = 3; first = true; place = 3; column = true }) (239 ∷ 187 ∷ 191 ∷ []) []
mark_ends closes game is flat =
    let text = text_is closes (record { state = Between; game = game; at = 3; first = true; place = 3; column = true })
    (239 ∷ 187 ∷ 191 ∷ []) [] [] [] is refl (record { column = refl; here = refl; place = refl }) (omega arith, omega arith)
    (λ more. let size : suc (suc (suc (length more))) ≡ 3 + length more = omega arith in ap (λ n. cut_from n [] (lexemes 3 true more)) size) in
    (inr text.0, text.1)
