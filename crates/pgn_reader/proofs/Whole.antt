-- The game that tokens spell, and the tokens that begin one.
use Rattle.std.proofs.Common.{◌≡◌, ◌⊎◌, inl, inr, List, [], ◌∷◌, ◌++◌, Ok, true, refl, sym, ap, ap₂, ◌∙◌, subst, append_assoc, append-nil}
use Rattle.cq_position.specs.declared.games.GameResult.{GameResult}
use Rattle.cq_position.specs.Board.{Board, start_board}
use Rattle.cq_position.specs.Moves.{null_move}
use Rattle.cq_position.specs.Games.{Game}
use Rattle.cq_position.specs.Continuations.{none}
use Rattle.pgn_reader.specs.Words.{Word, ends}
use Rattle.pgn_reader.specs.Tags.{Tags, tags_of, start_of, result_of_tags}
use Rattle.pgn_reader.specs.Line.{Line, text, beginning, LineTail, ParsesLine}
use Rattle.pgn_reader.specs.Games.{heading_text, MarksEnd, root, nodes_of_tail, game_of_tail, SpellsOfAnyLength}
use Rattle.pgn_reader.specs.ReadingPlace.{OpenLines, outermost, within, open_lines_text}
use Rattle.pgn_reader.specs.Faults.{IsViablePrefix}
use Rattle.pgn_reader.specs.Internal.Frame.{rows, Frame, whole, begin_game}
use Rattle.pgn_reader.specs.Internal.Machine.{Head, State, opened, named, valued, at, ended, stuck, after_pairs, feed, run, first}
use Rattle.pgn_reader.specs.Internal.GameAssembly.{nodes_of_rows, game_of_frame}
use Rattle.pgn_reader.proofs.Read.{wholly, run_append, feed_is, Reads, told_is_read, alone}
use Rattle.pgn_reader.proofs.Heading.{pairs_read}
use Rattle.pgn_reader.proofs.LineTail.{Stack, Shown}
use Rattle.pgn_reader.proofs.Stands.{Marked, Stands, all_stands}
use Rattle.pgn_reader.proofs.Arranged.{arranged_all}
use Rattle.pgn_reader.proofs.OpenLines.{Kept, run_keeps, first_keeps, Finish, finishes}
use Rattle.pgn_reader.proofs.Pairs.{finishes_opened, finishes_named, finishes_valued}

-- the end of reading of a game: after the last token of its line, or after its marker
abbrev pub IsEnd : State → Head → Frame → GameResult → Type 0
IsEnd s h f result = ((s ≡ at h f []) × (result ≡ result_of_tags h.tags)) ⊎ (s ≡ ended h f result)

-- the game that was read
pub record IsReadResult (ts : List Word) (g : Game) : Type 0 where
  pub head : Head
  pub frame : Frame
  pub result : GameResult
  pub is_end : IsEnd (run first ts) head frame result
  pub game : g ≡ game_of_frame head frame result

nodes_shown : (start : Board) (t : LineTail) (f : Frame) → whole f ≡ wholly (begin_game start) t → t.variations ≡ none → nodes_of_tail start t ≡ nodes_of_rows (whole f)
unfolding rows
nodes_shown start t f is alone =
    let all : whole f ≡ record { level = 0; move = record { move = null_move; position = start; nags = t.nags; comments = t.comments } } ∷ rows 0 t.rest =
    is ∙ ap (λ x. record { level = 0; move = record { move = null_move; position = start; nags = t.nags; comments = t.comments } } ∷ (rows 0 t.rest ++ (rows 0 x ++ []))) alone
    ∙ ap (λ x. record { level = 0; move = record { move = null_move; position = start; nags = t.nags; comments = t.comments } } ∷ x) (append-nil (rows 0 t.rest)) in
    ap (λ x. root start t.comments ∷ x) (sym (arranged_all t.rest)) ∙ sym (ap nodes_of_rows all)

pub start_none : start_of [] ≡ Ok start_board
unfolding start_of
start_none = refl

end_by : (h : Head) (f : Frame) (tags : Tags) (marker : List Word) (result : GameResult) → h.tags ≡ tags → MarksEnd tags marker result → IsEnd (run (at h f []) marker) h f result
end_by h f tags [] result same marks = inl (refl, marks ∙ ap result_of_tags (sym same))
end_by h f tags (w ∷ []) result same marks = inr (feed_is h f [] w (ends result) marks)
end_by h f tags (w ∷ v ∷ ws) result same marks = absurd marks

pub spelled_is_read : (ts : List Word) (g : Game) → SpellsOfAnyLength ts g → IsReadResult ts g
spelled_is_read ts g s =
    let tags : Tags = tags_of s.pairs in
    let h : Head = record { tags = tags; start = s.start; heading = true; moves = 0 } in
    let heading : run first (heading_text s.pairs) ≡ after_pairs tags s.start = pairs_read s.pairs [] start_board s.start s.heading start_none s.starts in
    let line : Reads h (begin_game s.start) [] (text s.line) s.told = told_is_read s.line h (begin_game s.start) [] 0 s.told refl s.tells in
    let all : run first ts ≡ run (at line.head line.frame []) s.marker =
    ap (run first) s.joined
    ∙ run_append first (heading_text s.pairs) (text s.line ++ s.marker)
    ∙ ap (λ x. run x (text s.line ++ s.marker)) heading
    ∙ run_append (after_pairs tags s.start) (text s.line) s.marker
    ∙ ap (λ x. run x s.marker) line.is_run in
    record {
      head = line.head;
      frame = line.frame;
      result = s.result;
      is_end = subst (λ x. IsEnd x line.head line.frame s.result) (sym all) (end_by line.head line.frame tags s.marker s.result line.grown.tags s.marks);
      game = s.game ∙ ap₂ (λ x y. record { tags = x; result = s.result; nodes = y }) (sym line.grown.tags)
          (nodes_shown s.start s.told line.frame line.whole (alone s.line 0 (beginning s.start) s.told s.tells refl));
    }

-- some game is spelled
pub record Spelled (ts : List Word) : Type 0 where
  pub game : Game
  pub spells : SpellsOfAnyLength ts game

-- one line at the outermost level
pub record Outermost (start : Board) (b : OpenLines) (f : Frame) : Type 0 where
  pub line : Line
  pub told : LineTail
  pub tells : ParsesLine 0 (beginning start) line told
  pub text_is : open_lines_text b ≡ text line

outermost_line : (start : Board) (b : OpenLines) (f : Frame) → Stack start b f [] → Outermost start b f
outermost_line start (outermost l) f (t, tells, end) = record { line = l; told = t; tells = tells; text_is = refl }
outermost_line start (within b o l) f wrong = absurd wrong

spelled_by : (ts marker : List Word) (h : Head) (f : Frame) (result : GameResult) → Shown ts h f [] → MarksEnd h.tags marker result → Spelled (ts ++ marker)
spelled_by ts marker h f result state_of marks =
    let out : Outermost h.start state_of.begun f = outermost_line h.start state_of.begun f state_of.stack in
    record {
      game = game_of_tail (tags_of state_of.pairs) result h.start out.told;
      spells = record {
        pairs = state_of.pairs;
        line = out.line;
        marker = marker;
        joined = ap (λ x. x ++ marker) (state_of.joined ∙ ap (λ x. heading_text state_of.pairs ++ x) out.text_is) ∙ append_assoc (heading_text state_of.pairs) (text out.line) marker;
        heading = state_of.has_heading.are_pairs;
        start = h.start;
        starts = ap start_of (sym state_of.has_heading.are_tags) ∙ state_of.has_heading.starts;
        told = out.told;
        tells = out.tells;
        result = result;
        marks = subst (λ x. MarksEnd x marker result) state_of.has_heading.are_tags marks;
        game = refl;
      };
    }

pub spelled_at : (ts : List Word) (h : Head) (f : Frame) → Shown ts h f [] → Spelled ts
spelled_at ts h f state_of = subst Spelled (append-nil ts) (spelled_by ts [] h f (result_of_tags h.tags) state_of refl)

pub spelled_marked : (ts : List Word) (h : Head) (f : Frame) (result : GameResult) → Marked ts h f result → Spelled ts
spelled_marked ts h f result m = subst Spelled (sym m.joined) (spelled_by m.before (m.marker ∷ []) h f result m.state_of m.marks)

-- tokens that are read to a game's end are spelled
pub read_at : (ts : List Word) (h : Head) (f : Frame) → run first ts ≡ at h f [] → Spelled ts
read_at ts h f is = spelled_at ts h f (subst (Stands ts) is (all_stands ts))

pub read_ended : (ts : List Word) (h : Head) (f : Frame) (result : GameResult) → run first ts ≡ ended h f result → Spelled ts
read_ended ts h f result is = spelled_marked ts h f result (subst (Stands ts) is (all_stands ts))

-- after some tokens more a game is read
begins_by : (ts : List Word) (s : State) → run first ts ≡ s → Finish s → IsViablePrefix ts
begins_by ts s is finish =
    let all : run first (ts ++ finish.more) ≡ at finish.head finish.frame [] = run_append first ts finish.more ∙ ap (λ x. run x finish.more) is ∙ finish.ends in
    let spelled : Spelled (ts ++ finish.more) = read_at (ts ++ finish.more) finish.head finish.frame all in
    record { more = finish.more; game = spelled.game; spelled = spelled.spells }

pub begins : (ts : List Word) (s : State) → run first ts ≡ s → (s ≡ stuck → ⊥) → IsViablePrefix ts
begins ts (opened tags) is live =
    let stands = subst (Stands ts) is (all_stands ts) in
    begins_by ts (opened tags) is (finishes_opened tags (record { start = stands.2.start; is = stands.2.has_heading.starts }))
begins ts (named tags name) is live =
    let stands = subst (Stands ts) is (all_stands ts) in
    begins_by ts (named tags name) is (finishes_named tags name (record { start = stands.5.start; is = stands.5.has_heading.starts }))
begins ts (valued tags start) is live = begins_by ts (valued tags start) is (finishes_valued tags start)
begins ts (at h f k) is live = begins_by ts (at h f k) is (finishes k h f (subst Kept is (run_keeps ts first first_keeps)))
begins ts (ended h f result) is live =
    let spelled : Spelled ts = read_ended ts h f result is in
    record { more = []; game = spelled.game; spelled = subst (λ x. SpellsOfAnyLength x spelled.game) (sym (append-nil ts)) spelled.spells }
begins ts stuck is live = absurd (live refl)

pub stuck_stays : (ts : List Word) → run stuck ts ≡ stuck
unfolding feed
stuck_stays [] = refl
stuck_stays (w ∷ ts) = stuck_stays ts

no_end : (s : State) (h : Head) (f : Frame) (result : GameResult) → s ≡ stuck → IsEnd s h f result → ⊥
no_end s h f result is (inl there) = let e : at h f [] ≡ stuck = sym there.0 ∙ is in cc
no_end s h f result is (inr there) = let e : ended h f result ≡ stuck = sym there ∙ is in cc

pub stuck_is_dead : (ts : List Word) → run first ts ≡ stuck → IsViablePrefix ts → ⊥
stuck_is_dead ts is b =
    let all : IsReadResult (ts ++ b.more) b.game = spelled_is_read (ts ++ b.more) b.game b.spelled in
    no_end (run first (ts ++ b.more)) all.head all.frame all.result (run_append first ts b.more ∙ ap (λ x. run x b.more) is ∙ stuck_stays b.more) all.is_end
