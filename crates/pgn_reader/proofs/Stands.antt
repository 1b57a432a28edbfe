-- The tokens that lead to each state.
use Rattle.std.proofs.Common.{◌≡◌, ℕ, ◌+◌, ◌<◌, List, [], ◌∷◌, ◌++◌, length, Option, Some, None, Result, Ok, Err, Bool, true, false, cond, refl, sym, ap, ◌∙◌, subst, arith, append_assoc, append-nil}
use Rattle.std.specs.Prelude.{nat_lt, ◌&&◌}
use Rattle.std.proofs.lemmas.Grind.{flat_map-append}
use Rattle.std.proofs.lemmas.List.Sums.{fold-append}
use Rattle.cq_position.specs.declared.moves.Move.{Move}
use Rattle.cq_position.specs.declared.fen.FenFault.{FenFault}
use Rattle.cq_position.specs.declared.games.GameResult.{GameResult}
use Rattle.cq_position.specs.Board.{Board, start_board}
use Rattle.cq_san.specs.declared.fault.SanFault.{SanFault}
use Rattle.cq_san.specs.San.{san}
use Rattle.pgn_lexer.specs.declared.token.TokenKind.{TokenKind}
use Rattle.pgn_lexer.specs.declared.token.TokenKind.TheVariants.{Open, Close, Text, Symbol}
use Rattle.pgn_reader.specs.Words.{Word, Sense, plays, annotates, remarks, ends, opens, closes, means_nothing, out_of_place, sense, is_remark, is_move_sense}
use Rattle.cq_position.specs.Games.{with_tag}
use Rattle.pgn_reader.specs.Tags.{Pair, IsPair, pair_text, Tags, with_pair, start_of, value_of}
use Rattle.pgn_reader.specs.Line.{Line, nothing, variation, text, beginning, position_after, empty_tail, tail_with_glyph, tail_with_comment, tail_with_move, tail_with_variation, ParsesLine}
use Rattle.pgn_reader.specs.Games.{AreHeading, heading_text}
use Rattle.pgn_reader.specs.ReadingPlace.{OpenLines, outermost, within, open_lines_text, InPair, IsReadingPlace, after_opening, after_name}
use Rattle.pgn_reader.specs.Internal.Frame.{Frame, place, begin, begin_game, advance, with_glyph, with_remark, with_variation}
use Rattle.pgn_reader.specs.Internal.Machine.{Head, State, opened, named, valued, at, ended, stuck, in_body, one_more, on_name, on_start, on_value, on_closing, on_move, on_marker, on_opening, on_end, on_bracket, on_sense, feed, run, first}
use Rattle.pgn_reader.proofs.LineTail.{longer, text_longer, Stack, Shown, stack_on, Stepped, and_false, and_true, same_moves, shown_on, one_move, one_comment, word_stands}

-- the value of a tag was read
pub record Valued (ts : List Word) (all : Tags) (start : Board) : Type 0 where
  pub tags : Tags
  pub opening : Word
  pub name : Word
  pub value : Word
  pub is_open : opening.kind ≡ Open
  pub is_symbol : name.kind ≡ Symbol
  pub is_text : value.kind ≡ Text
  pub pair : InPair ts tags (opening ∷ name ∷ value ∷ [])
  pub are_tags : all ≡ with_tag tags name.text (value_of value.text)
  pub starts : start_of all ≡ Ok start

-- the marker was read
pub record Marked (ts : List Word) (h : Head) (f : Frame) (result : GameResult) : Type 0 where
  pub before : List Word
  pub marker : Word
  pub joined : ts ≡ before ++ marker ∷ []
  pub marks : sense marker ≡ ends result
  pub state_of : Shown before h f []

abbrev pub Stands : List Word → State → Type 0
Stands ts (opened tags) = IsReadingPlace ts (after_opening tags)
Stands ts (named tags name) = IsReadingPlace ts (after_name tags name)
Stands ts (valued tags start) = Valued ts tags start
Stands ts (at h f k) = Shown ts h f k
Stands ts (ended h f result) = Marked ts h f result
Stands ts stuck = Unit {0}

-- one token more of a pair
part_on : (ts : List Word) (tags : Tags) (part : List Word) (w : Word) → InPair ts tags part → InPair (ts ++ w ∷ []) tags (part ++ w ∷ [])
part_on ts tags part w in_pair = record {
  pairs = in_pair.pairs;
  start = in_pair.start;
  has_heading = in_pair.has_heading;
  comments = in_pair.comments;
  are_comments = in_pair.are_comments;
  joined = ap (λ x. x ++ w ∷ []) in_pair.joined ∙ append_assoc (heading_text in_pair.pairs) (in_pair.comments ++ part) (w ∷ [])
      ∙ ap (λ x. heading_text in_pair.pairs ++ x) (append_assoc in_pair.comments part (w ∷ []));
}

name_stands : (ts : List Word) (tags : Tags) (w : Word) → Stands ts (opened tags) → (kind : TokenKind) → w.kind ≡ kind → Stands (ts ++ w ∷ []) (on_name tags kind w.text)
name_stands ts tags w (o, is_open, in_pair) Symbol is = (o, w, is_open, is, refl, part_on ts tags (o ∷ []) w in_pair)
name_stands ts tags w stands _ is = tt

start_stands : (ts : List Word) (tags : Tags) (name : List ℕ) (w : Word) → Stands ts (named tags name) → w.kind ≡ Text → (r : Result Board FenFault)
    → start_of (with_tag tags name (value_of w.text)) ≡ r → Stands (ts ++ w ∷ []) (on_start (with_tag tags name (value_of w.text)) r)
start_stands ts tags name w (o, n, is_open, is_symbol, named_is, in_pair) is (Ok start) starts = record {
  tags = tags;
  opening = o;
  name = n;
  value = w;
  is_open = is_open;
  is_symbol = is_symbol;
  is_text = is;
  pair = part_on ts tags (o ∷ n ∷ []) w in_pair;
  are_tags = ap (λ x. with_tag tags x (value_of w.text)) (sym named_is);
  starts = starts;
}
start_stands ts tags name w stands is (Err fault) starts = tt

value_stands : (ts : List Word) (tags : Tags) (name : List ℕ) (w : Word) → Stands ts (named tags name) → (kind : TokenKind) → w.kind ≡ kind
    → Stands (ts ++ w ∷ []) (on_value (with_tag tags name (value_of w.text)) kind)
value_stands ts tags name w stands Text is = start_stands ts tags name w stands is (start_of (with_tag tags name (value_of w.text))) refl
value_stands ts tags name w stands _ is = tt

all_append : (pairs : List Pair) (p : Pair) → AreHeading pairs → IsPair p → AreHeading (pairs ++ p ∷ [])
all_append [] p all one = (one, tt)
all_append (q ∷ pairs) p all one = (all.0, all_append pairs p all.1 one)

pair_done : (ts : List Word) (all : Tags) (start : Board) (w : Word) → Valued ts all start → w.kind ≡ Close
    → Shown (ts ++ w ∷ []) (record { tags = all; start = start; heading = true; moves = 0 }) (begin_game start) []
unfolding part_on
pair_done ts all start w v is =
    let pair : Pair = record { comments = v.pair.comments; opening = v.opening; name = v.name; value = v.value; closing = w } in
    let is_pair : IsPair pair = record { comments = v.pair.are_comments; opening = v.is_open; name = v.is_symbol; value = v.is_text; closing = is } in
    let whole : InPair (ts ++ w ∷ []) v.tags (v.opening ∷ v.name ∷ v.value ∷ w ∷ []) = part_on ts v.tags (v.opening ∷ v.name ∷ v.value ∷ []) w v.pair in
    let pairs : List Pair = v.pair.pairs ++ pair ∷ [] in
    let text_is : heading_text pairs ≡ heading_text v.pair.pairs ++ pair_text pair = flat_map-append pair_text v.pair.pairs (pair ∷ [])
    ∙ ap (λ x. heading_text v.pair.pairs ++ x) (append-nil (pair_text pair)) in
    record {
      pairs = pairs;
      has_heading = record {
        are_pairs = all_append v.pair.pairs pair v.pair.has_heading.are_pairs is_pair;
        are_tags = v.are_tags ∙ ap (λ x. with_pair x pair) v.pair.has_heading.are_tags ∙ sym (fold-append with_pair [] v.pair.pairs (pair ∷ []));
        starts = v.starts;
      };
      begun = outermost nothing;
      stack = (empty_tail (beginning start), refl, refl);
      joined = whole.joined ∙ sym text_is ∙ sym (append-nil (heading_text pairs));
      moves = refl;
      heading = refl;
    }

closing_stands : (ts : List Word) (all : Tags) (start : Board) (w : Word) → Valued ts all start → (kind : TokenKind) → w.kind ≡ kind → Stands (ts ++ w ∷ []) (on_closing all start kind)
closing_stands ts all start w v Close is = pair_done ts all start w v is
closing_stands ts all start w v _ is = tt

body_step : (h : Head) (s : Sense) → is_move_sense s ≡ false → is_remark s ≡ false → Stepped h s (in_body h)
body_step h s no_move no_remark = record {
  tags = refl;
  start = refl;
  moves = same_moves h ∙ ap (λ b. h.moves + cond b 1 0) (sym no_move);
  heading = and_false h.heading ∙ ap (λ b. h.heading && b) (sym no_remark);
}

move_stands : (ts : List Word) (h : Head) (f : Frame) (k : List Frame) (w : Word) (m : List ℕ) → sense w ≡ plays m → Shown ts h f k → (r : Result Move SanFault) → san f.reached m ≡ r
    → Stands (ts ++ w ∷ []) (on_move h f k r)
move_stands ts h f k w m is state_of (Err fault) means = tt
move_stands ts h f k w m is state_of (Ok move) means =
    let g : Frame = advance f move (position_after f.reached move) in
    word_stands ts h (one_more h) f g k w (plays m) (tail_with_move move g.reached (empty_tail (place g))) is state_of (λ d e. (move, means, refl, refl))
    (record { tags = refl; start = refl; moves = refl; heading = and_false h.heading })

marker_stands : (ts : List Word) (h : Head) (f : Frame) (k : List Frame) (w : Word) (r : GameResult) → sense w ≡ ends r → Shown ts h f k → Stands (ts ++ w ∷ []) (on_marker h f k r)
marker_stands ts h f [] w r is state_of = record { before = ts; marker = w; joined = refl; marks = is; state_of = state_of }
marker_stands ts h f (g ∷ k) w r is state_of =
    word_stands ts h (in_body h) f f (g ∷ k) w (ends r) (empty_tail (place f)) is state_of (λ d e. (omega (arith, e), refl, refl)) (body_step h (ends r) refl refl)

opening_stands : (ts : List Word) (h : Head) (f : Frame) (k : List Frame) (w : Word) → sense w ≡ opens → Shown ts h f k → (deep : Bool) → (deep ≡ true → length k < 100)
    → (o : Option Board) → f.before ≡ o → Stands (ts ++ w ∷ []) (on_opening h f k deep o)
opening_stands ts h f k w is state_of deep low None before = tt
opening_stands ts h f k w is state_of false low (Some p) before = tt
opening_stands ts h f k w is state_of true low (Some p) before =
    let step : Stepped h opens (in_body h) = body_step h opens refl refl in
    shown_on ts (w ∷ []) h (in_body h) f (begin f.level p) k (f ∷ k) state_of (within state_of.begun w nothing) refl
    (state_of.stack, p, before, low refl, is, empty_tail (beginning p), refl, refl) refl refl (one_move h (in_body h) w opens is step.moves) (one_comment h (in_body h) w opens is step.heading)

-- the innermost line ends, and becomes a variation of the one around it
pub record Closed (start : Board) (b : OpenLines) (f g : Frame) (k : List Frame) (w : Word) : Type 0 where
  pub begun : OpenLines
  pub text_is : open_lines_text begun ≡ open_lines_text b ++ w ∷ []
  pub stack : Stack start begun (with_variation g f) k

closed : (start : Board) (b : OpenLines) (f g : Frame) (k : List Frame) (w : Word) (q : Board) → sense w ≡ closes → f.before ≡ Some q → Stack start b f (g ∷ k) → Closed start b f g k w
closed start (outermost l) f g k w q is has_move wrong = absurd wrong
closed start (within b o l) f g k w q is has_move (around, p, before, shallow, opening, t, tells, end) =
    let m : Line = variation o l w nothing in
    record {
      begun = longer b m;
      text_is = text_longer b m ∙ sym (append_assoc (open_lines_text b) (o ∷ text l) (w ∷ []));
      stack = stack_on start b g (with_variation g f) k m (tail_with_variation t (empty_tail (place g))) around
          (λ d e. (
            p,
            before,
            omega (arith, e, shallow),
            opening,
            is,
            t,
            subst (λ n. ParsesLine (n + 1) (beginning p) l t) (sym e) tells,
            q,
            ap
                (λ x. x.before) end ∙ has_move,
            empty_tail (place g),
            refl,
            refl,
          )) refl;
    }

end_stands : (ts : List Word) (h : Head) (f : Frame) (k : List Frame) (w : Word) → sense w ≡ closes → Shown ts h f k → (o : Option Board) → f.before ≡ o → Stands (ts ++ w ∷ []) (on_end h f k o)
end_stands ts h f k w is state_of None before = tt
end_stands ts h f [] w is state_of (Some q) before = tt
end_stands ts h f (g ∷ k) w is state_of (Some q) before =
    let step : Stepped h closes (in_body h) = body_step h closes refl refl in
    let all : Closed h.start state_of.begun f g k w = closed h.start state_of.begun f g k w q is before state_of.stack in
    shown_on ts (w ∷ []) h (in_body h) f (with_variation g f) (g ∷ k) k state_of all.begun all.text_is all.stack refl refl
    (one_move h (in_body h) w closes is step.moves) (one_comment h (in_body h) w closes is step.heading)

bracket_stands : (ts : List Word) (h : Head) (f : Frame) (k : List Frame) (w : Word) → Shown ts h f k → (may : Bool) → h.heading ≡ may → (kind : TokenKind) → w.kind ≡ kind
    → Stands (ts ++ w ∷ []) (on_bracket may h.tags kind)
bracket_stands ts h f k w state_of true may Open is = (
  w,
  is,
  record {
    pairs = state_of.pairs;
    start = h.start;
    has_heading = state_of.has_heading;
    comments = open_lines_text state_of.begun;
    are_comments = sym state_of.heading ∙ may;
    joined = ap (λ x. x ++ w ∷ []) state_of.joined ∙ append_assoc (heading_text state_of.pairs) (open_lines_text state_of.begun) (w ∷ []);
  },
)
bracket_stands ts h f k w state_of _ may _ is = tt

below_is_true : (a b : ℕ) → nat_lt a b ≡ true → a < b
below_is_true a b h = grind arith

sense_stands : (ts : List Word) (h : Head) (f : Frame) (k : List Frame) (w : Word) → Shown ts h f k → (s : Sense) → sense w ≡ s → Stands (ts ++ w ∷ []) (on_sense h f k w.kind s)
sense_stands ts h f k w state_of (plays m) is = move_stands ts h f k w m is state_of (san f.reached m) refl
sense_stands ts h f k w state_of (annotates n) is =
    word_stands ts h (in_body h) f (with_glyph f n) k w (annotates n) (tail_with_glyph n (empty_tail (place f))) is state_of (λ d e. (refl, refl)) (body_step h (annotates n) refl refl)
sense_stands ts h f k w state_of (remarks c) is =
    word_stands ts h h f (with_remark f c) k w (remarks c) (tail_with_comment c (empty_tail (place f))) is state_of (λ d e. (refl, refl))
    (record { tags = refl; start = refl; moves = same_moves h; heading = and_true h.heading })
sense_stands ts h f k w state_of (ends r) is = marker_stands ts h f k w r is state_of
sense_stands ts h f k w state_of opens is = opening_stands ts h f k w is state_of (nat_lt (length k) 100) (below_is_true (length k) 100) f.before refl
sense_stands ts h f k w state_of closes is = end_stands ts h f k w is state_of f.before refl
sense_stands ts h f k w state_of means_nothing is =
    word_stands ts h (in_body h) f f k w means_nothing (empty_tail (place f)) is state_of (λ d e. (refl, refl)) (body_step h means_nothing refl refl)
sense_stands ts h f k w state_of (out_of_place r) is = bracket_stands ts h f k w state_of h.heading refl w.kind refl

pub step_stands : (ts : List Word) (w : Word) (s : State) → Stands ts s → Stands (ts ++ w ∷ []) (feed s w)
unfolding feed
step_stands ts w (opened tags) stands = name_stands ts tags w stands w.kind refl
step_stands ts w (named tags name) stands = value_stands ts tags name w stands w.kind refl
step_stands ts w (valued tags start) stands = closing_stands ts tags start w stands w.kind refl
step_stands ts w (at h f k) stands = sense_stands ts h f k w stands (sense w) refl
step_stands ts w (ended h f r) stands = tt
step_stands ts w stuck stands = tt

pub run_stands : (more ts : List Word) (s : State) → Stands ts s → Stands (ts ++ more) (run s more)
run_stands [] ts s stands = subst (λ x. Stands x s) (sym (append-nil ts)) stands
run_stands (w ∷ more) ts s stands =
    subst (λ x. Stands x (run (feed s w) more)) (append_assoc ts (w ∷ []) more) (run_stands more (ts ++ w ∷ []) (feed s w) (step_stands ts w s stands))

first_stands : Stands [] first
unfolding start_of
first_stands = record {
  pairs = [];
  has_heading = record { are_pairs = tt; are_tags = refl; starts = refl };
  begun = outermost nothing;
  stack = (empty_tail (beginning start_board), refl, refl);
  joined = refl;
  moves = refl;
  heading = refl;
}

pub all_stands : (ts : List Word) → Stands ts (run first ts)
all_stands ts = run_stands ts [] first first_stands
