-- The beginning of the open game. The games after it begin after the bytes that were fed.
use Rattle.std.proofs.Common.{◌≡◌, ℕ, suc, ◌+◌, ◌<◌, ◌≤◌, ◌⊎◌, inl, inr, ⊎_elim, Bool, true, false, cond, List, [], ◌∷◌, ◌++◌, length, take, drop, None, Some, refl, sym, ap, ◌∙◌, subst, arith}
use Rattle.std.specs.Prelude.{◌&&◌, nat_eq, if◌then◌else◌}
use Rattle.std.specs.List.{AllByRecursion, list_all, starts_with}
use Rattle.std.proofs.Math.Seq.{drop-append_seam}
use Rattle.std.proofs.lemmas.Bool.{cases_Bool, cases_lt}
use Rattle.std.proofs.lemmas.List.{length-append, length-take-le, length-drop}
use Rattle.std.proofs.lemmas.List.Elements.{All-from_recursion}
use Rattle.pgn_lexer.specs.Lexemes.{Lexeme, end, lexeme, lexemes, first_at}
use Rattle.pgn_lexer.specs.Locality.{AreLexemesInOrder as InOrder, StandsIn, IsUnsettled}
use Rattle.pgn_lexer.specs.Readings.{reading}
use Rattle.pgn_cut.specs.Cut.{is_passed_over, opens, has_movetext, ends_before, ends_after, span_to, cut_from, cut, closed, text_start, byte_order_mark}
use Rattle.pgn_cut.specs.OpenGames.{later_games, AreOpenAt, IsOpenAt, open_place}
use Rattle.pgn_cut.specs.Progress.{begins_at, start_of, progress_of}
use Rattle.pgn_cut.specs.Spans.{AreSpansInOrder}
use Rattle.pgn_cut.specs.States.{IsOpen, is_marker_at_end, kind_at_end, EndsBefore, EndsAs}
use Rattle.pgn_cut.specs.Streams.{IsInMark, IsInText, Stands}
use Rattle.pgn_cut.specs.declared.cutter.Cutter.{Cutter}
use Rattle.pgn_cut.specs.declared.span.Span.{Span}
use Rattle.pgn_cut.specs.declared.state.State.{State}
use Rattle.pgn_cut.specs.declared.state.State.TheVariants.{AtStart, OneOfMark, TwoOfMark, Between, InComment, InLine, InText, InSymbol, InNumber, InSuffix, InNull}
use Rattle.pgn_cut.proofs.Closed.{LexemesFollow, ReadingsGrow, AreLongest, grows_no_open, long_no_open, one_closes_nothing, two_close_nothing, nothing_closes}
use Rattle.pgn_cut.proofs.Joins.{StandApart, map_all, of_both, text_within}
use Rattle.pgn_cut.proofs.Marks.{StandAlone, cut_is, bad, bad_one, bad_two, bad_lexeme, bad_goes_in, bad_next}
use Rattle.pgn_cut.proofs.Order.{StandInOrder, Begins, cut_in_order}

-- games in order from a place on begin there or after it
pub starts_from : (from to : ℕ) (games : List Span) → AreSpansInOrder from to games → AllByRecursion (λ g. from ≤ g.start) games
starts_from from to [] order = tt
starts_from from to (g ∷ games) order =
    let begins = order.0 in let some = order.1.0 in
    (begins, map_all (λ t. g.end ≤ t.start) (λ t. from ≤ t.start) (λ t h. omega (arith, h, begins, some)) games (starts_from g.end to games order.2))

-- the first game begins at a place, and those after it from another on
Opens : ℕ → ℕ → List Span → Type 0
Opens place from [] = Unit {0}
Opens place from (g ∷ games) = (g.start ≡ place) × AllByRecursion (λ t. from ≤ t.start) games

from_less : (a b : ℕ) (ls : List Lexeme) → a ≤ b → InOrder b ls → InOrder a ls
from_less a b [] le order = tt
from_less a b (l ∷ ls) le order = let h = order.0 in (omega arith, order.1, order.2)

-- a game of some lexemes continues with lexemes from a place on
open_first : (place from : ℕ) (g : Lexeme) (gs rest : List Lexeme) → InOrder from rest → AllByRecursion (λ l. end l ≤ place) rest → Opens g.at from (cut_from place (g ∷ gs) rest)
unfolding cut_from Begins Opens
open_first place from g gs [] order ends = of_both (Opens g.at from) (list_all (λ l. is_passed_over l.kind) (g ∷ gs)) [] (span_to place (g ∷ gs)) tt (refl, tt)
open_first place from g gs (l ∷ ls) order ends =
    let begins = order.0 in let some = order.1 in let last = ends.0 in
    of_both (Opens g.at from) (ends_before (g ∷ gs) l) (span_to l.at (g ∷ gs) ++ cut_from place (l ∷ []) ls)
    (if ends_after (g ∷ gs) l then span_to (end l) (g ∷ gs ++ l ∷ []) ++ cut_from place [] ls else cut_from place (g ∷ gs ++ l ∷ []) ls)
    (refl, starts_from from place (cut_from place (l ∷ []) ls) (cut_in_order place from (end l) (l ∷ []) ls (begins, omega arith) last order.2 ends.1))
    (of_both (Opens g.at from) (ends_after (g ∷ gs) l) (span_to (end l) (g ∷ gs ++ l ∷ []) ++ cut_from place [] ls) (cut_from place (g ∷ gs ++ l ∷ []) ls)
    (refl, starts_from from place (cut_from place [] ls) (cut_in_order place from (end l) [] ls (omega arith) last order.2 ends.1))
    (open_first place from g (gs ++ l ∷ []) ls (from_less from (end l) ls (omega arith) order.2) ends.1))

-- the beginning of a game of some lexemes, or else of the next lexeme
start_or : List Lexeme → ℕ → ℕ
start_or [] at = at
start_or (g ∷ gs) at = g.at

-- the next lexeme begins no tag pair, and those after it begin from a place on
open_next : (place from : ℕ) (game : List Lexeme) (l : Lexeme) (ls : List Lexeme) → opens l.kind ≡ false → from ≤ end l → end l ≤ place → InOrder (end l) ls → AllByRecursion (λ k. end k ≤ place) ls
    → Opens (start_or game l.at) from (cut_from place game (l ∷ ls))
unfolding cut_from Begins Opens start_or
open_next place from game l ls no_open late last order ends =
    let before : ends_before game l ≡ false = ap (λ t. t && l.first && has_movetext game) no_open in
    subst (Opens (start_or game l.at) from)
    (sym (ap (λ t. cond t (span_to l.at game ++ cut_from place (l ∷ []) ls)
    (cond (ends_after game l) (span_to (end l) (game ++ l ∷ []) ++ cut_from place [] ls) (cut_from place (game ++ l ∷ []) ls))) before))
    (of_both (Opens (start_or game l.at) from) (ends_after game l) (span_to (end l) (game ++ l ∷ []) ++ cut_from place [] ls) (cut_from place (game ++ l ∷ []) ls) (closes game) (goes_on game))
  where
    after : AllByRecursion (λ t. from ≤ t.start) (cut_from place [] ls)
    after = starts_from from place (cut_from place [] ls) (cut_in_order place from (end l) [] ls late last order ends)

    closes : (game : List Lexeme) → Opens (start_or game l.at) from (span_to (end l) (game ++ l ∷ []) ++ cut_from place [] ls)
    closes [] = (refl, after)
    closes (g ∷ gs) = (refl, after)

    goes_on : (game : List Lexeme) → Opens (start_or game l.at) from (cut_from place (game ++ l ∷ []) ls)
    goes_on [] = open_first place from l [] ls (from_less from (end l) ls late order) ends
    goes_on (g ∷ gs) = open_first place from g (gs ++ l ∷ []) ls (from_less from (end l) ls late order) ends

-- as the definition has it
opens_at : (front more : List ℕ) (place : ℕ) (games : List Span) → Opens place (length front) games → AreOpenAt (Some place) front more games
unfolding Opens
opens_at front more place [] all = tt
opens_at front more place (g ∷ games) all = (inl all.0, All-from_recursion (λ t. length front ≤ t.start) games all.1)

marked_at : (front more : List ℕ) (place : ℕ) (games : List Span) → length front < text_start (front ++ more)
    → AllByRecursion (λ t. length front ≤ t.start) games → AreOpenAt (Some place) front more games
marked_at front more place [] mark all = tt
marked_at front more place (g ∷ games) mark all = (inr (mark, all.0), All-from_recursion (λ t. length front ≤ t.start) games all.1)

start_is : (c : Cutter) (kept : List Lexeme) → c.game ≡ progress_of kept → begins_at c.game.start ≡ begins_at (start_of kept)
unfolding progress_of
start_is c kept is = ap (λ g. begins_at g.start) is

between_or : (s : State) → (s ≡ Between) ⊎ (s ≡ Between → ⊥)
between_or AtStart = inr (λ e. cc)
between_or OneOfMark = inr (λ e. cc)
between_or TwoOfMark = inr (λ e. cc)
between_or Between = inl refl
between_or InComment = inr (λ e. cc)
between_or InLine = inr (λ e. cc)
between_or (InText t) = inr (λ e. cc)
between_or (InSymbol r) = inr (λ e. cc)
between_or InNumber = inr (λ e. cc)
between_or InSuffix = inr (λ e. cc)
between_or InNull = inr (λ e. cc)

-- the open lexeme is where no game is open before it
at_lexeme : (first : Bool) (s : State) (bytes : List ℕ) (at : ℕ) → IsOpen first s bytes → (s ≡ Between → ⊥) → open_place None s at ≡ Some at
at_lexeme first AtStart bytes at is other = absurd is
at_lexeme first OneOfMark bytes at is other = absurd is
at_lexeme first TwoOfMark bytes at is other = absurd is
at_lexeme first Between bytes at is other = absurd (other refl)
at_lexeme first InComment bytes at is other = refl
at_lexeme first InLine bytes at is other = refl
at_lexeme first (InText t) bytes at is other = refl
at_lexeme first (InSymbol r) bytes at is other = refl
at_lexeme first InNumber bytes at is other = refl
at_lexeme first InSuffix bytes at is other = refl
at_lexeme first InNull bytes at is other = refl

-- an open lexeme has bytes
abbrev pub LexemesEnd : Type 0
LexemesEnd = (first : Bool) (s : State) (bytes : List ℕ) → IsOpen first s bytes → (s ≡ Between → ⊥) → EndsAs first bytes (kind_at_end s) (is_marker_at_end s (length bytes)) (EndsBefore s)

some_open : (first : Bool) (s : State) (bytes : List ℕ) → IsOpen first s bytes → (s ≡ Between → ⊥) → bytes ≡ [] → ⊥
some_open first AtStart bytes is other none = is
some_open first OneOfMark bytes is other none = is
some_open first TwoOfMark bytes is other none = is
some_open first Between bytes is other none = other refl
some_open first InComment bytes is other none = let e = sym is.1 ∙ none in cc
some_open first InLine bytes is other none = ⊎_elim (λ l. let e = sym l.1 ∙ none in cc) (λ l. let e = sym l.1 ∙ none in cc) is
some_open first (InText t) bytes is other none = let e = sym is.1 ∙ none in cc
some_open first (InSymbol r) bytes is other none = let e = sym is.0.2 ∙ none in cc
some_open first InNumber bytes is other none = let e = sym is.1 ∙ none in cc
some_open first InSuffix bytes is other none = ⊎_elim (λ e. let n = sym e ∙ none in cc) (λ e. let n = sym e ∙ none in cc) is
some_open first InNull bytes is other none = let e = sym is ∙ none in cc

-- a text begins with its archive, or after a mark
pub starts_by : (archive : List ℕ) → (text_start archive ≡ 0) ⊎ (text_start archive ≡ 3)
starts_by archive = ⊎_elim (λ t. inr (ap (λ b. cond b 3 0) t)) (λ f. inl (ap (λ b. cond b 3 0) f)) (cases_Bool (starts_with nat_eq archive byte_order_mark))

module _ (in_order : StandInOrder) (apart : StandApart) (follow : LexemesFollow) (grow : ReadingsGrow) (longest : AreLongest) (alone : StandAlone) (ends : LexemesEnd) where
  all_end : (at : ℕ) (first : Bool) (bytes : List ℕ) (place : ℕ) → at + length bytes ≡ place → AllByRecursion (λ l. end l ≤ place) (lexemes at first bytes)
  all_end at first bytes place is =
      map_all (StandsIn at first bytes) (λ l. end l ≤ place) (λ l s. let most = s.to_end in omega arith) (lexemes at first bytes) (apart at first bytes)

  -- the lexeme that an open one becomes begins no tag pair
  no_tag : (first : Bool) (b : ℕ) (bs more : List ℕ) → IsUnsettled first (b ∷ bs) → opens (reading first b (bs ++ more)).kind ≡ false
  no_tag first b bs more open_ = ⊎_elim
      (λ long. long_no_open first (reading first b (bs ++ more)).kind (take (reading first b (bs ++ more)).len (b ∷ bs ++ more)) (longest first b (bs ++ more)).reads
      (let size = length-take-le (reading first b (bs ++ more)).len (b ∷ bs ++ more) (longest first b (bs ++ more)).within in omega (arith, size, long)))
      (λ short. ap (λ r. opens r.kind) ((grow first b bs more).same (omega (arith, short))) ∙ grows_no_open (reading first b bs).kind open_.2)
      (cases_lt (length (b ∷ bs)) (reading first b (bs ++ more)).len)

  open_lexeme : (at : ℕ) (first : Bool) (bytes more : List ℕ) (game : List Lexeme) (place : ℕ) → IsUnsettled first bytes → (bytes ≡ [] → ⊥) → at + length bytes + length more ≡ place
      → Opens (start_or game at) (at + length bytes) (cut_from place game (lexemes at first (bytes ++ more)))
  open_lexeme at first [] more game place open_ some is = absurd (some refl)
  open_lexeme at first (b ∷ bs) more game place open_ some is =
      let r = reading first b (bs ++ more) in
      let size = length-take-le r.len (b ∷ bs ++ more) (longest first b (bs ++ more)).within in
      let longer = (grow first b bs more).longer in
      let whole = open_.1 in
      let within = (longest first b (bs ++ more)).within in
      let both = length-append (b ∷ bs) more in
      let cut_off = length-drop r.len (b ∷ bs ++ more) in
      let ends_at : at + r.len ≡ at + length (take r.len (b ∷ bs ++ more)) = omega arith in
      let rest = lexemes (at + r.len) (first_at first (b ∷ bs ++ more) r.len) (drop r.len (b ∷ bs ++ more)) in
      subst (λ ls. Opens (start_or game at) (at + length (b ∷ bs)) (cut_from place game ls)) (sym (follow at first b (bs ++ more) open_.0))
      (open_next place (at + length (b ∷ bs)) game (lexeme at first b (bs ++ more)) rest (no_tag first b bs more open_) (omega arith) (omega arith)
      (subst (λ n. InOrder n rest) ends_at (in_order (at + r.len) (first_at first (b ∷ bs ++ more) r.len) (drop r.len (b ∷ bs ++ more))))
      (all_end (at + r.len) (first_at first (b ∷ bs ++ more) r.len) (drop r.len (b ∷ bs ++ more)) place (omega arith)))

  -- nothing is open but a game
  open_game : (at : ℕ) (first : Bool) (more : List ℕ) (g : Lexeme) (gs : List Lexeme) (place : ℕ) → at + length more ≡ place → Opens g.at at (cut_from place (g ∷ gs) (lexemes at first more))
  open_game at first more g gs place is = open_first place at g gs (lexemes at first more) (in_order at first more) (all_end at first more place is)

  -- nothing is open at all
  pub open_none : (at : ℕ) (first : Bool) (more : List ℕ) (place : ℕ) → at + length more ≡ place → AllByRecursion (λ g. at ≤ g.start) (cut_from place [] (lexemes at first more))
  unfolding Begins
  open_none at first more place is = starts_from at place (cut_from place [] (lexemes at first more))
      (cut_in_order place at at [] (lexemes at first more) (omega arith) (omega arith) (in_order at first more) (all_end at first more place is))

  module _ (c : Cutter) (fed : List ℕ) where
    later_are : (t : IsInText c fed) (more : List ℕ) → later_games fed more ≡ cut_from (length fed + length more) t.kept (lexemes c.at c.first (t.bytes ++ more))
    later_are t more = ap (drop (length (closed fed))) (t.cuts more) ∙ drop-append_seam (closed fed) (cut_from (length fed + length more) t.kept (lexemes c.at c.first (t.bytes ++ more)))

    in_text : IsInText c fed → IsOpenAt (open_place (begins_at c.game.start) c.state c.at) fed
    unfolding start_or
    in_text t more = subst (λ start. AreOpenAt (open_place start c.state c.at) fed more (later_games fed more)) (sym (start_is c t.kept t.game))
        (subst (AreOpenAt (open_place (begins_at (start_of t.kept)) c.state c.at) fed more) (sym (later_are t more)) (⊎_elim (nothing t.kept) (something t.kept) (between_or c.state)))
      where
        nothing : (kept : List Lexeme) → c.state ≡ Between → AreOpenAt (open_place (begins_at (start_of kept)) c.state c.at) fed more
            (cut_from (length fed + length more) kept (lexemes c.at c.first (t.bytes ++ more)))
        nothing kept is =
            let none : t.bytes ≡ [] = subst (λ s. IsOpen c.first s t.bytes) is t.opened in
            let here : c.at ≡ length fed = let len = ap length none in let h = t.here in omega arith in
            subst (λ s. AreOpenAt (open_place (begins_at (start_of kept)) s c.at) fed more (cut_from (length fed + length more) kept (lexemes c.at c.first (t.bytes ++ more)))) (sym is)
            (subst (λ bytes. AreOpenAt (open_place (begins_at (start_of kept)) Between c.at) fed more
            (cut_from (length fed + length more) kept (lexemes c.at c.first (bytes ++ more)))) (sym none) (by kept here))
          where
            by : (kept : List Lexeme) → c.at ≡ length fed → AreOpenAt (open_place (begins_at (start_of kept)) Between c.at) fed more
                (cut_from (length fed + length more) kept (lexemes c.at c.first more))
            by [] here = All-from_recursion (λ g. length fed ≤ g.start) (cut_from (length fed + length more) [] (lexemes c.at c.first more))
                (subst (λ n. AllByRecursion (λ g. n ≤ g.start) (cut_from (length fed + length more) [] (lexemes c.at c.first more))) here
                (open_none c.at c.first more (length fed + length more) (omega arith)))
            by (g ∷ gs) here = opens_at fed more g.at (cut_from (length fed + length more) (g ∷ gs) (lexemes c.at c.first more))
                (subst (λ n. Opens g.at n (cut_from (length fed + length more) (g ∷ gs) (lexemes c.at c.first more))) here (open_game c.at c.first more g gs (length fed + length more) (omega arith)))

        something : (kept : List Lexeme) → (c.state ≡ Between → ⊥)
            → AreOpenAt (open_place (begins_at (start_of kept)) c.state c.at) fed more (cut_from (length fed + length more) kept (lexemes c.at c.first (t.bytes ++ more)))
        something kept other = by kept (subst (λ n. Opens (start_or kept c.at) n (cut_from (length fed + length more) kept (lexemes c.at c.first (t.bytes ++ more)))) t.here
            (open_lexeme c.at c.first t.bytes more kept (length fed + length more) (ends c.first c.state t.bytes t.opened other).1
            (some_open c.first c.state t.bytes t.opened other) (let h = t.here in omega arith)))
          where
            by : (kept : List Lexeme) → Opens (start_or kept c.at) (length fed) (cut_from (length fed + length more) kept (lexemes c.at c.first (t.bytes ++ more)))
                → AreOpenAt (open_place (begins_at (start_of kept)) c.state c.at) fed more (cut_from (length fed + length more) kept (lexemes c.at c.first (t.bytes ++ more)))
            by [] all = subst (λ o. AreOpenAt o fed more (cut_from (length fed + length more) [] (lexemes c.at c.first (t.bytes ++ more))))
                (sym (at_lexeme c.first c.state t.bytes c.at t.opened other))
                (opens_at fed more c.at (cut_from (length fed + length more) [] (lexemes c.at c.first (t.bytes ++ more))) all)
            by (g ∷ gs) all = opens_at fed more g.at (cut_from (length fed + length more) (g ∷ gs) (lexemes c.at c.first (t.bytes ++ more))) all

  -- after a mark, the games begin after it
  after_mark : (archive : List ℕ) → AllByRecursion (λ g. text_start archive ≤ g.start) (cut archive)
  after_mark archive = open_none (text_start archive) true (drop (text_start archive) archive) (length archive)
      (let len = length-drop (text_start archive) archive in let inside = text_within archive in omega arith)

  by_mark : (front more : List ℕ) → length front < 3 → (text_start (front ++ more) ≡ 0 → Opens 0 (length front) (cut (front ++ more))) → AreOpenAt (Some 0) front more (cut (front ++ more))
  by_mark front more short opened = ⊎_elim
      (λ none. opens_at front more 0 (cut (front ++ more)) (opened none))
      (λ mark. marked_at front more 0 (cut (front ++ more)) (omega (arith, mark, short))
      (map_all (λ g. text_start (front ++ more) ≤ g.start) (λ g. length front ≤ g.start) (λ g h. omega (arith, h, mark, short))
      (cut (front ++ more)) (after_mark (front ++ more))))
      (starts_by (front ++ more))

  one_opened : (more : List ℕ) → text_start (239 ∷ more) ≡ 0 → Opens 0 1 (cut (239 ∷ more))
  unfolding bad bad_lexeme
  one_opened more none =
      let one = bad_one alone in
      subst (Opens 0 1) (sym (cut_is (239 ∷ more) none ∙ ap (cut_from (suc (length more)) []) (bad_next 0 true 239 one more refl)
      ∙ bad_goes_in (suc (length more)) [] 0 true 239 one (lexemes 1 false more)))
      (open_game 1 false more (bad_lexeme 0 true 239 one) [] (suc (length more)) (omega arith))

  two_opened : (more : List ℕ) → text_start (239 ∷ 187 ∷ more) ≡ 0 → Opens 0 2 (cut (239 ∷ 187 ∷ more))
  unfolding bad bad_lexeme
  two_opened more none =
      let one = bad_one alone in let two = bad_two alone in
      let n : ℕ = suc (suc (length more)) in
      subst (Opens 0 2) (sym (cut_is (239 ∷ 187 ∷ more) none
      ∙ ap (cut_from n []) (bad_next 0 true 239 one (187 ∷ more) refl ∙ ap (λ ls. bad_lexeme 0 true 239 one ∷ ls) (bad_next 1 false 187 two more refl))
      ∙ bad_goes_in n [] 0 true 239 one (bad_lexeme 1 false 187 two ∷ lexemes 2 false more)
      ∙ bad_goes_in n (bad_lexeme 0 true 239 one ∷ []) 1 false 187 two (lexemes 2 false more)))
      (open_game 2 false more (bad_lexeme 0 true 239 one) (bad_lexeme 1 false 187 two ∷ []) n (omega arith))

  -- nothing closes in a mark
  all_later : (front more : List ℕ) → closed front ≡ [] → later_games front more ≡ cut (front ++ more)
  all_later front more none = ap (λ l. drop (length l) (cut (front ++ more))) none

  pub opened_at : (c : Cutter) (fed : List ℕ) → Stands c fed → IsOpenAt (open_place (begins_at c.game.start) c.state c.at) fed
  opened_at c fed stands = ⊎_elim in_mark (in_text c fed) stands
    where
      in_mark : IsInMark c fed → IsOpenAt (open_place (begins_at c.game.start) c.state c.at) fed
      in_mark m more = subst (λ start. AreOpenAt (open_place start c.state c.at) fed more (later_games fed more)) (sym (start_is c [] m.game)) (⊎_elim
          (λ p. from_parts p.0 p.1 (subst (AreOpenAt None [] more) (sym (all_later [] more nothing_closes))
          (All-from_recursion (λ g. 0 ≤ g.start) (cut more) (map_all (λ g. text_start more ≤ g.start) (λ g. 0 ≤ g.start) (λ g h. omega arith)
          (cut more) (after_mark more)))))
          (λ q. ⊎_elim
          (λ p. from_parts p.0 p.1 (subst (AreOpenAt (Some 0) (239 ∷ []) more) (sym (all_later (239 ∷ []) more one_closes_nothing)) (by_mark (239 ∷ []) more (omega arith) (one_opened more))))
          (λ p. from_parts p.0 p.1 (subst (AreOpenAt (Some 0) (239 ∷ 187 ∷ []) more) (sym (all_later (239 ∷ 187 ∷ []) more two_close_nothing))
          (by_mark (239 ∷ 187 ∷ []) more (omega arith) (two_opened more)))) q)
          m.part)
        where
          from_parts : {s : State} {front : List ℕ} → c.state ≡ s → fed ≡ front
              → AreOpenAt (open_place None s c.at) front more (later_games front more) → AreOpenAt (open_place None c.state c.at) fed more (later_games fed more)
          from_parts {s} {front} state is all = subst (λ t. AreOpenAt (open_place None t c.at) fed more (later_games fed more)) (sym state)
              (subst (λ f. AreOpenAt (open_place None s c.at) f more (later_games f more)) (sym is) all)
