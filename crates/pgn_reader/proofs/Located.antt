-- The reader after some tokens is at their place.
use Rattle.std.proofs.Common.{◌≡◌, ℕ, ◌+◌, ◌≤◌, inl, inr, Bool, true, cond, List, [], ◌∷◌, ◌++◌, length, Result, Ok, Err, refl, sym, ap, ap₂, ◌∙◌, subst, arith}
use Rattle.std.specs.Prelude.{count_by, ◌&&◌}
use Rattle.std.specs.List.{list_all}
use Rattle.std.proofs.Math.Bool.{and-false}
use Rattle.std.proofs.lemmas.List.Sums.{sum_by-append}
use Rattle.std.proofs.lemmas.List.Folds.{list_all-append}
use Rattle.cq_position.specs.declared.fen.FenFault.{FenFault}
use Rattle.cq_position.specs.declared.games.GameResult.{GameResult}
use Rattle.cq_position.specs.Board.{Board, start_board}
use Rattle.cq_position.specs.Games.{Game, with_tag}
use Rattle.pgn_lexer.specs.declared.token.TokenKind.{TokenKind}
use Rattle.pgn_lexer.specs.declared.token.TokenKind.TheVariants.{Open, Close, Text, Symbol}
use Rattle.pgn_reader.specs.declared.fault.Reason.TheVariants.{BadTag}
use Rattle.pgn_reader.specs.Internal.GameAssembly.{reading_place_of}
use Rattle.pgn_reader.specs.Faults.{IsViablePrefix}
use Rattle.pgn_reader.specs.Internal.Frame.{Frame, begin, begin_game, place, whole}
use Rattle.pgn_reader.specs.Games.{heading_text, Spells}
use Rattle.pgn_reader.specs.Line.{text, LinePlace}
use Rattle.pgn_reader.specs.Internal.Machine.{Head, State, opened, named, valued, at, ended, stuck, in_body, after_pairs, on_name, on_start, on_value, on_closing, on_marker, on_sense, feed, run, first}
use Rattle.pgn_reader.specs.Internal.ReaderView.{moves_in}
use Rattle.pgn_reader.specs.ReadingPlace.{OpenLines, outermost, within, open_lines_text, depth_of, Reaches, ReadingPlace, after_opening, after_name, after_value, in_movetext, after_marker, InPair, InMovetext, AfterMarker, IsReadingPlace, moves_before}
use Rattle.pgn_reader.specs.Tags.{Tags, start_of, tags_of, value_of}
use Rattle.pgn_reader.specs.Words.{Word, ends, out_of_place, sense, sense_of, is_comment, is_remark, is_move, is_move_sense}
use Rattle.pgn_reader.proofs.Answer.{all_nodes_length, whole_counts}
use Rattle.pgn_reader.proofs.Heading.{comments_read, pairs_read, bracket_fed, name_fed}
use Rattle.pgn_reader.proofs.Read.{run_append, opening_read, counted_word, told_is_read}
use Rattle.pgn_reader.proofs.Whole.{IsEnd, IsReadResult, spelled_is_read, stuck_is_dead, start_none}

-- the beginning of a movetext is read up to its place
record IsReadUpTo (start : Board) (h : Head) (ts : List Word) (depth : ℕ) (a : LinePlace) : Type 0 where
  head : Head
  frame : Frame
  around : List Frame
  is_run : run (at h (begin_game start) []) ts ≡ at head frame around
  moves : head.moves ≡ h.moves + count_by is_move ts
  place_is : place frame ≡ a
  depth_is : depth ≡ length around
  heading : head.heading ≡ (h.heading && list_all is_comment ts)

begun_read : (b : OpenLines) (start : Board) (h : Head) (a : LinePlace) → Reaches start b a → IsReadUpTo start h (open_lines_text b) (depth_of b) a
begun_read (outermost line) start h a (t, tells, end) =
    let r = told_is_read line h (begin_game start) [] 0 t refl tells in
    record { head = r.head; frame = r.frame; around = []; is_run = r.is_run; moves = r.grown.moves; place_is = r.place ∙ end; depth_is = refl; heading = r.grown.heading }
begun_read (within around opening line) start h a (b, reaches, p, has_move, shallow, opening_is, t, tells, end) =
    let o = begun_read around start h b reaches in
    let deep = o.depth_is in
    let fed = opening_read o.head o.frame o.around opening p opening_is (ap (λ x. x.before) o.place_is ∙ has_move) (omega (arith, deep, shallow)) in
    let r = told_is_read line (in_body o.head) (begin o.frame.level p) (o.frame ∷ o.around) (depth_of around + 1) t (omega (arith, deep)) tells in
    let one = sum_by-append (λ w. cond (is_move w) 1 0) (open_lines_text around) (opening ∷ text line) in
    let two = counted_word opening (text line) in
    let three : ◌≡◌ {A = ℕ} (cond (is_move opening) 1 0) 0 = ap (λ s. cond (is_move_sense s) 1 0) opening_is in
    let four = o.moves in
    let five : r.head.moves ≡ o.head.moves + count_by is_move (text line) = r.grown.moves in
    record {
      head = r.head;
      frame = r.frame;
      around = o.frame ∷ o.around;
      is_run =
          run_append (at h (begin_game start) []) (open_lines_text around) (opening ∷ text line)
          ∙ ap (λ x. run x (opening ∷ text line)) o.is_run
          ∙ ap (λ x. run x (text line)) fed
          ∙ r.is_run;
      moves = omega (arith, one, two, three, four, five);
      place_is = r.place ∙ end;
      depth_is = omega (arith, deep);
      heading =
          r.grown.heading ∙ sym (and-false h.heading)
          ∙ ap (λ b. h.heading && b)
          (sym (and-false (list_all is_comment (open_lines_text around)))
          ∙ ap (λ s. list_all is_comment (open_lines_text around) && (is_remark s && list_all is_comment (text line))) (sym opening_is)
          ∙ sym (list_all-append is_comment (open_lines_text around) (opening ∷ text line)));
    }

-- the reader after some tokens is at their place
pub record Located (ts : List Word) (s : ReadingPlace) : Type 0 where
  pub state : State
  pub is_run : run first ts ≡ state
  pub stands : reading_place_of state ≡ s
  pub few : moves_in state ≤ 65535

-- within a tag pair
record PairRead (ts : List Word) (tags : Tags) (part : List Word) : Type 0 where
  head : Head
  frame : Frame
  tags_are : head.tags ≡ tags
  may : head.heading ≡ true
  is_run : run first ts ≡ run (at head frame []) part

pair_read : (ts : List Word) (tags : Tags) (part : List Word) → InPair ts tags part → PairRead ts tags part
pair_read ts tags part p =
    let h : Head = record { tags = tags_of p.pairs; start = p.start; heading = true; moves = 0 } in
    let starts : start_of (tags_of p.pairs) ≡ Ok p.start = ap start_of (sym p.has_heading.are_tags) ∙ p.has_heading.starts in
    let paired : run first (heading_text p.pairs) ≡ after_pairs (tags_of p.pairs) p.start = pairs_read p.pairs [] start_board p.start p.has_heading.are_pairs start_none starts in
    let c = comments_read p.comments h (begin_game p.start) [] p.are_comments in
    record {
      head = h;
      frame = c.frame;
      tags_are = sym p.has_heading.are_tags;
      may = refl;
      is_run =
          ap (run first) p.joined
          ∙ run_append first (heading_text p.pairs) (p.comments ++ part)
          ∙ ap (λ s. run s (p.comments ++ part)) paired
          ∙ run_append (after_pairs (tags_of p.pairs) p.start) p.comments part
          ∙ ap (λ s. run s part) c.is_run;
    }

opened_run : (ts : List Word) (tags : Tags) (opening : Word) (more : List Word) → opening.kind ≡ Open → InPair ts tags (opening ∷ more) → run first ts ≡ run (opened tags) more
opened_run ts tags opening more is in_pair =
    let p = pair_read ts tags (opening ∷ more) in_pair in
    p.is_run ∙ ap (λ s. run s more) (bracket_fed p.head p.frame [] opening p.may is) ∙ ap (λ t. run (opened t) more) p.tags_are

value_by : (tags : Tags) (r : Result Board FenFault) → (on_start tags r ≡ stuck → ⊥) → (reading_place_of (on_start tags r) ≡ after_value) × (moves_in (on_start tags r) ≤ 65535)
value_by tags (Ok start) live = (refl, omega arith)
value_by tags (Err fault) live = absurd (live refl)

value_fed_as : (tags : Tags) (name : List ℕ) (w : Word) → w.kind ≡ Text → feed (named tags name) w ≡ on_start (with_tag tags name (value_of w.text)) (start_of (with_tag tags name (value_of w.text)))
unfolding feed
value_fed_as tags name w is = ap (on_value (with_tag tags name (value_of w.text))) is

located_value : (ts : List Word) → IsReadingPlace ts after_value → (run first ts ≡ stuck → ⊥) → Located ts after_value
located_value ts (tags, opening, name, value, is_open, is_symbol, is_text, in_pair) live =
    let all : Tags = with_tag tags name.text (value_of value.text) in
    let is_run : run first ts ≡ on_start all (start_of all) =
    opened_run ts tags opening (name ∷ value ∷ []) is_open in_pair
    ∙ ap (λ s. run s (value ∷ [])) (name_fed tags name is_symbol)
    ∙ value_fed_as tags name.text value is_text in
    let r = value_by all (start_of all) (λ e. live (is_run ∙ e)) in
    record { state = on_start all (start_of all); is_run = is_run; stands = r.0; few = r.1 }

-- in the movetext
located_movetext : (ts : List Word) (heading : Bool) (depth moves : ℕ) (a : LinePlace) → InMovetext ts heading depth moves a → moves ≤ 65535 → Located ts (in_movetext heading depth moves a)
located_movetext ts heading depth moves a m few =
    let h : Head = record { tags = m.tags; start = m.start; heading = true; moves = 0 } in
    let u = begun_read m.begun m.start h a m.reaches in
    let starts : start_of (tags_of m.pairs) ≡ Ok m.start = ap start_of (sym m.has_heading.are_tags) ∙ m.has_heading.starts in
    let paired : run first (heading_text m.pairs) ≡ after_pairs m.tags m.start =
    pairs_read m.pairs [] start_board m.start m.has_heading.are_pairs start_none starts ∙ ap (λ t. after_pairs t m.start) (sym m.has_heading.are_tags) in
    let same_moves : u.head.moves ≡ moves = let x = u.moves in let y = m.moves_are in omega (arith, x, y) in
    let same_depth : length u.around ≡ depth = sym u.depth_is ∙ sym m.depth_is in
    let same_heading : u.head.heading ≡ heading = u.heading ∙ sym m.heading_is in
    record {
      state = at u.head u.frame u.around;
      is_run = ap (run first) m.joined ∙ run_append first (heading_text m.pairs) (open_lines_text m.begun) ∙ ap (λ s. run s (open_lines_text m.begun)) paired ∙ u.is_run;
      stands =
          ap (λ x. in_movetext x (length u.around) u.head.moves (place u.frame)) same_heading
          ∙ ap₂ (λ d n. in_movetext heading d n (place u.frame)) same_depth same_moves
          ∙ ap (in_movetext heading depth moves) u.place_is;
      few = subst (λ n. n ≤ 65535) (sym same_moves) few;
    }

-- after a marker
name_elsewhere : (tags : Tags) (kind : TokenKind) (text : List ℕ) (h : Head) (f : Frame) → on_name tags kind text ≡ at h f [] → ⊥
name_elsewhere tags Symbol text h f e = cc
name_elsewhere tags _ text h f e = cc

start_elsewhere : (tags : Tags) (r : Result Board FenFault) (h : Head) (f : Frame) → on_start tags r ≡ at h f [] → ⊥
start_elsewhere tags (Ok start) h f e = cc
start_elsewhere tags (Err fault) h f e = cc

value_elsewhere : (tags : Tags) (kind : TokenKind) (h : Head) (f : Frame) → on_value tags kind ≡ at h f [] → ⊥
value_elsewhere tags Text h f e = start_elsewhere tags (start_of tags) h f e
value_elsewhere tags _ h f e = cc

closing_is : (w : Word) → w.kind ≡ Close → sense w ≡ out_of_place BadTag
unfolding sense
closing_is w is = ap (λ x. sense_of x w.text) is

closing_elsewhere : (tags : Tags) (start : Board) (w : Word) (r : GameResult) (kind : TokenKind) → w.kind ≡ kind → sense w ≡ ends r → (h : Head) (f : Frame)
    → on_closing tags start kind ≡ at h f [] → ⊥
closing_elsewhere tags start w r Close is marks h f e = let x : out_of_place BadTag ≡ ends r = sym (closing_is w is) ∙ marks in cc
closing_elsewhere tags start w r _ is marks h f e = cc

marker_elsewhere : (i : Head) (g : Frame) (k : List Frame) (r : GameResult) (h : Head) (f : Frame) → on_marker i g k r ≡ at h f [] → ⊥
marker_elsewhere i g [] r h f e = cc
marker_elsewhere i g (x ∷ k) r h f e = cc

after_a_marker : (s : State) (w : Word) (r : GameResult) → sense w ≡ ends r → (h : Head) (f : Frame) → feed s w ≡ at h f [] → ⊥
unfolding feed
after_a_marker (opened tags) w r marks h f e = name_elsewhere tags w.kind w.text h f e
after_a_marker (named tags name) w r marks h f e = value_elsewhere (with_tag tags name (value_of w.text)) w.kind h f e
after_a_marker (valued tags start) w r marks h f e = closing_elsewhere tags start w r w.kind refl marks h f e
after_a_marker (at i g k) w r marks h f e = marker_elsewhere i g k r h f (ap (on_sense i g k w.kind) (sym marks) ∙ e)
after_a_marker (ended i g x) w r marks h f e = cc
after_a_marker stuck w r marks h f e = cc

-- the moves of a game within the limit
pub few_moves : (ts : List Word) (g : Game) → Spells ts g → (r : IsReadResult ts g) → r.head.moves ≤ 65535
few_moves ts g spells r =
    let nodes = ap (λ (x : Game). length x.nodes) r.game in
    let rows = all_nodes_length (whole r.frame) in
    let counts = whole_counts ts r.head r.frame r.result r.is_end in
    let few = spells.few in
    omega (arith, nodes, rows, counts, few)

located_end : (ts : List Word) (m : AfterMarker ts) (r : IsReadResult ts m.game) → IsEnd (run first ts) r.head r.frame r.result → Located ts after_marker
located_end ts m r (inl there) =
    let (before, marker, result, joined, marks) = m.marked in
    absurd (after_a_marker (run first before) marker result marks r.head r.frame (sym (run_append first before (marker ∷ [])) ∙ ap (run first) (sym joined) ∙ there.0))
located_end ts m r (inr there) = record { state = ended r.head r.frame r.result; is_run = there; stands = refl; few = few_moves ts m.game m.spells r }

-- so it is for all tokens with which some game begins
pub located : (ts : List Word) (s : ReadingPlace) → IsViablePrefix ts → IsReadingPlace ts s → moves_before s ≤ 65535 → Located ts s
located ts (after_opening tags) begins (opening, is_open, in_pair) few =
    record { state = opened tags; is_run = opened_run ts tags opening [] is_open in_pair; stands = refl; few = omega arith }
located ts (after_name tags name_text) begins (opening, name, is_open, is_symbol, named_is, in_pair) few = record {
  state = named tags name_text;
  is_run = opened_run ts tags opening (name ∷ []) is_open in_pair ∙ name_fed tags name is_symbol ∙ ap (named tags) named_is;
  stands = refl;
  few = omega arith;
}
located ts after_value begins stands few = located_value ts stands (λ e. stuck_is_dead ts e begins)
located ts (in_movetext heading depth moves a) begins stands few = located_movetext ts heading depth moves a stands few
located ts after_marker begins m few = let r = spelled_is_read ts m.game m.spells.spells in located_end ts m r r.is_end
