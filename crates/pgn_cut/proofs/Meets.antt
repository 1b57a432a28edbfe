-- A step over a lexeme is a step of the cut.
use Rattle.std.proofs.Common.{◌≡◌, Bool, true, false, cond, List, [], ◌∷◌, ◌++◌, Option, None, sym, ap, ap₂, ◌∙◌}
use Rattle.std.specs.Prelude.{◌&&◌, ◌==◌}
use Rattle.std.specs.Option.{option_to_list}
use Rattle.pgn_lexer.specs.Lexemes.{Lexeme, end}
use Rattle.pgn_cut.specs.Cut.{marks, opens, ends_before, ends_after, span_to, cut_from}
use Rattle.pgn_cut.specs.Progress.{span_from, progress_of, IsStepOfCut, IsViewOf}
use Rattle.pgn_cut.specs.declared.span.Span.{Span}
use Rattle.pgn_cut.specs.declared.game.OpenGame.{OpenGame}
use Rattle.pgn_cut.specs.declared.game.LexemeView.{LexemeView}
use Rattle.pgn_cut.proofs.Pushes.{span_is}

-- the tests of a look are those of its lexeme
pub before_shown : (look : LexemeView) (l : Lexeme) → IsViewOf look l → (m : Bool) → (opens look.kind && look.first && m) ≡ (opens l.kind && l.first && m)
before_shown look l shows m = ap₂ (λ o f. o && f && m) shows.alike.opens_ shows.first

pub after_shown : (look : LexemeView) (l : Lexeme) → IsViewOf look l → (t : Bool) → (look.marker && t) ≡ (marks l.kind l.text && t)
after_shown look l shows t = ap (λ m. m && t) shows.marker

module _ (game : List Lexeme) (l : Lexeme) (was : OpenGame) (is : was ≡ progress_of game) where
  -- the tests, by what is kept
  before_is : (t : Bool) → t ≡ (opens l.kind && l.first && was.has_movetext) → ends_before game l ≡ t
  unfolding progress_of
  before_is t t_is = sym (t_is ∙ ap (λ w. opens l.kind && l.first && w.has_movetext) is)

  after_is : (t : Bool) → t ≡ (marks l.kind l.text && was.depth == 0) → ends_after game l ≡ t
  unfolding progress_of
  after_is t t_is = sym (t_is ∙ ap (λ w. marks l.kind l.text && w.depth == 0) is)

  pub closes_before : (t : Bool) → t ≡ (opens l.kind && l.first && was.has_movetext) → t ≡ true
      → (now : OpenGame) → now ≡ progress_of (l ∷ []) → (closed : Option Span) → closed ≡ span_from l.at was.start → IsStepOfCut now closed l game
  unfolding cut_from
  closes_before t t_is yes_ now now_is closed closed_is =
      let test = before_is t t_is ∙ yes_ in
      let span : option_to_list closed ≡ span_to l.at game = ap option_to_list closed_is ∙ span_is l.at game was is in
      record {
        kept = l ∷ [];
        stands = now_is;
        cuts = λ place rest.
            ap (λ b. cond b (span_to l.at game ++ cut_from place (l ∷ []) rest)
            (cond (ends_after game l) (span_to (end l) (game ++ l ∷ []) ++ cut_from place [] rest) (cut_from place (game ++ l ∷ []) rest))) test
            ∙ ap (λ s. s ++ cut_from place (l ∷ []) rest) (sym span);
      }

  pub closes_after : (t u : Bool) → t ≡ (opens l.kind && l.first && was.has_movetext) → t ≡ false → u ≡ (marks l.kind l.text && was.depth == 0) → u ≡ true
      → (more : OpenGame) → more ≡ progress_of (game ++ l ∷ []) → (now : OpenGame) → now ≡ progress_of [] → (closed : Option Span)
      → closed ≡ span_from (end l) more.start → IsStepOfCut now closed l game
  unfolding cut_from
  closes_after t u t_is no_ u_is yes_ more more_is now now_is closed closed_is =
      let test = before_is t t_is ∙ no_ in
      let marker = after_is u u_is ∙ yes_ in
      let span : option_to_list closed ≡ span_to (end l) (game ++ l ∷ []) = ap option_to_list closed_is ∙ span_is (end l) (game ++ l ∷ []) more more_is in
      record {
        kept = [];
        stands = now_is;
        cuts = λ place rest.
            ap (λ b. cond b (span_to l.at game ++ cut_from place (l ∷ []) rest)
            (cond (ends_after game l) (span_to (end l) (game ++ l ∷ []) ++ cut_from place [] rest) (cut_from place (game ++ l ∷ []) rest))) test
            ∙ ap (λ b. cond b (span_to (end l) (game ++ l ∷ []) ++ cut_from place [] rest) (cut_from place (game ++ l ∷ []) rest)) marker
            ∙ ap (λ s. s ++ cut_from place [] rest) (sym span);
      }

  pub goes_on : (t u : Bool) → t ≡ (opens l.kind && l.first && was.has_movetext) → t ≡ false → u ≡ (marks l.kind l.text && was.depth == 0) → u ≡ false
      → (now : OpenGame) → now ≡ progress_of (game ++ l ∷ []) → IsStepOfCut now None l game
  unfolding cut_from
  goes_on t u t_is no_ u_is none now now_is =
      let test = before_is t t_is ∙ no_ in
      let marker = after_is u u_is ∙ none in
      record {
        kept = game ++ l ∷ [];
        stands = now_is;
        cuts = λ place rest.
            ap (λ b. cond b (span_to l.at game ++ cut_from place (l ∷ []) rest)
            (cond (ends_after game l) (span_to (end l) (game ++ l ∷ []) ++ cut_from place [] rest) (cut_from place (game ++ l ∷ []) rest))) test
            ∙ ap (λ b. cond b (span_to (end l) (game ++ l ∷ []) ++ cut_from place [] rest) (cut_from place (game ++ l ∷ []) rest)) marker;
      }
