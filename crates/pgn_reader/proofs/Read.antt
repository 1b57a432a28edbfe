-- The meaning of a line is the reading of its tokens.
use Rattle.std.proofs.Common.{◌≡◌, ℕ, ◌+◌, ◌<◌, List, [], ◌∷◌, ◌++◌, length, Option, Some, None, Bool, true, false, refl, sym, ap, ap₂, ◌∙◌, subst, arith, append_assoc, append-nil}
use Rattle.std.proofs.Common.{cond}
use Rattle.std.proofs.lemmas.List.Sums.{sum_by-append}
use Rattle.std.specs.Prelude.{nat_lt, count_by, ◌&&◌}
use Rattle.std.specs.List.{list_all}
use Rattle.std.proofs.Math.Bool.{and_assoc, and-true, and-false}
use Rattle.cq_position.specs.declared.moves.Move.{Move}
use Rattle.cq_position.specs.declared.games.GameResult.{GameResult}
use Rattle.cq_position.specs.Board.{Board}
use Rattle.cq_position.specs.Continuations.{none}
use Rattle.pgn_reader.specs.Words.{Word, Sense, plays, annotates, remarks, ends, opens, closes, means_nothing, out_of_place, sense, is_comment, is_remark, is_move, is_move_sense}
use Rattle.cq_position.specs.Comments.{words, comment_of}
use Rattle.pgn_reader.specs.Line.{Line, nothing, word, variation, text, LinePlace, beginning, position_after, LineTail, empty_tail, tail_with_glyph, tail_with_comment, tail_with_move, tail_with_variation, beside, with_leading_notes, ParsesWord, ParsesLine}
use Rattle.pgn_reader.specs.Internal.Frame.{NodeRow, rows, Frame, place, last_row_by, whole, begin, carried_notes, advance, with_glyph, with_remark, with_variation}
use Rattle.pgn_reader.specs.Internal.Machine.{Head, State, at, in_body, one_more, on_move, on_marker, on_opening, on_end, on_sense, feed, run}
use Rattle.pgn_reader.proofs.Rows.{rows_beside}

-- the nodes of a line, by the meaning of its rest
abbrev pub wholly_by : Option Move → Frame → LineTail → List NodeRow
wholly_by None f t = rows f.next (with_leading_notes (f.nags ++ t.nags) (f.comments ++ t.comments) t.rest)
wholly_by (Some m) f t =
    record {
      level = f.level;
      move = record { move = m; position = f.reached; nags = f.nags ++ t.nags; comments = f.comments ++ t.comments };
    } ∷ rows f.next t.rest

abbrev pub wholly : Frame → LineTail → List NodeRow
wholly f t = f.moves ++ (wholly_by f.last f t ++ (f.here ++ (rows f.level t.variations ++ f.earlier)))

pub run_append : (s : State) (a b : List Word) → run s (a ++ b) ≡ run (run s a) b
run_append s [] b = refl
run_append s (t ∷ a) b = run_append (feed s t) a b

-- a token of the movetext is read by what it means
pub feed_is : (h : Head) (f : Frame) (k : List Frame) (w : Word) (s : Sense) → sense w ≡ s → feed (at h f k) w ≡ on_sense h f k w.kind s
unfolding feed
feed_is h f k w s is = ap (on_sense h f k w.kind) is

-- heads before and after n moves; after comments alone tag pairs may come as before, and else no more
pub record Grown (h : Head) (n : ℕ) (comments : Bool) (j : Head) : Type 0 where
  pub tags : j.tags ≡ h.tags
  pub start : j.start ≡ h.start
  pub moves : j.moves ≡ h.moves + n
  pub heading : j.heading ≡ (h.heading && comments)

-- a frame after the rest of its line, by the meaning of the rest
pub record Reads (h : Head) (f : Frame) (k : List Frame) (ts : List Word) (t : LineTail) : Type 0 where
  pub head : Head
  pub frame : Frame
  pub is_run : run (at h f k) ts ≡ at head frame k
  pub grown : Grown h (count_by is_move ts) (list_all is_comment ts) head
  pub place : place frame ≡ t.end
  pub whole : whole frame ≡ wholly f t

-- the nodes of a line, by the parts of its meaning
pub wholly_same : (f : Frame) (t u : LineTail) → t ≡ u → wholly f t ≡ wholly f u
wholly_same f t u is = ap (wholly f) is

wholly_nothing_by : (f : Frame) (o : Option Move) → f.last ≡ o → f.moves ++ (last_row_by o f ++ (f.here ++ f.earlier))
    ≡ f.moves ++ (wholly_by o f (empty_tail (place f)) ++ (f.here ++ (rows f.level none ++ f.earlier)))
unfolding rows
wholly_nothing_by f None is = refl
wholly_nothing_by f (Some m) is =
    ap₂ (λ x y. f.moves ++ (record { level = f.level; move = record { move = m; position = f.reached; nags = x; comments = y } }
    ∷ (f.here ++ f.earlier))) (sym (append-nil f.nags)) (sym (append-nil f.comments))

pub wholly_nothing : (f : Frame) → whole f ≡ wholly f (empty_tail (place f))
wholly_nothing f = wholly_nothing_by f f.last refl

glyph_by : (f : Frame) (n : ℕ) (u : LineTail) (o : Option Move) → (with_glyph f n).moves ++ (wholly_by o (with_glyph f n) u ++ (f.here ++ (rows f.level u.variations ++ f.earlier)))
    ≡ f.moves ++ (wholly_by o f (tail_with_glyph n u) ++ (f.here ++ (rows f.level u.variations ++ f.earlier)))
glyph_by f n u None =
    ap (λ x. f.moves ++ (rows f.next (with_leading_notes x (f.comments ++ u.comments) u.rest) ++ (f.here ++ (rows f.level u.variations ++ f.earlier)))) (append_assoc f.nags (n ∷ []) u.nags)
glyph_by f n u (Some m) =
    ap (λ x. f.moves ++ (record { level = f.level; move = record { move = m; position = f.reached; nags = x; comments = f.comments ++ u.comments } }
    ∷ (rows f.next u.rest ++ (f.here ++ (rows f.level u.variations ++ f.earlier))))) (append_assoc f.nags (n ∷ []) u.nags)

remark_by : (f : Frame) (c : List ℕ) (u : LineTail) (o : Option Move) → (with_remark f c).moves ++ (wholly_by o (with_remark f c) u ++ (f.here ++ (rows f.level u.variations ++ f.earlier)))
    ≡ f.moves ++ (wholly_by o f (tail_with_comment c u) ++ (f.here ++ (rows f.level u.variations ++ f.earlier)))
remark_by f c u None =
    ap (λ x. f.moves ++ (rows f.next (with_leading_notes (f.nags ++ u.nags) x u.rest) ++ (f.here ++ (rows f.level u.variations ++ f.earlier)))) (append_assoc f.comments (comment_of (words c)) u.comments)
remark_by f c u (Some m) =
    ap (λ x. f.moves ++ (record { level = f.level; move = record { move = m; position = f.reached; nags = f.nags ++ u.nags; comments = x } }
    ∷ (rows f.next u.rest ++ (f.here ++ (rows f.level u.variations ++ f.earlier))))) (append_assoc f.comments (comment_of (words c)) u.comments)

-- the node of a move, with the glyphs and comments that wait for it, and then its own
abbrev row_of : ℕ → Move → Board → List ℕ → List (List ℕ) → NodeRow
row_of level m q nags comments = record { level = level; move = record { move = m; position = q; nags = nags; comments = comments } }

move_by : (f : Frame) (m : Move) (q : Board) (u : LineTail) (o : Option Move)
    → (f.moves ++ last_row_by o f) ++ ((record {
      level = f.next;
      move = record {
        move = m;
        position = q;
        nags = carried_notes o f.nags
            ++ u.nags;
        comments = carried_notes o f.comments ++ u.comments;
      };
    } ∷ rows (f.next + 1) u.rest)
    ++ (rows f.next u.variations ++ (f.here ++ f.earlier)))
    ≡ f.moves ++ (wholly_by o f (tail_with_move m q u) ++ (f.here ++ (rows f.level none ++ f.earlier)))
unfolding rows
move_by f m q u None =
    let tail = f.here ++ f.earlier in
    let row : List ℕ → List (List ℕ) → List NodeRow = λ x y. row_of f.next m q (x ++ u.nags) (y ++ u.comments) ∷ (rows (f.next + 1) u.rest ++ (rows f.next u.variations ++ tail)) in
    ap (λ x. x ++ row f.nags f.comments) (append-nil f.moves)
    ∙ ap₂ (λ x y. f.moves ++ row x y) (sym (append-nil f.nags)) (sym (append-nil f.comments))
    ∙ ap (λ x. f.moves ++ (row_of f.next m q ((f.nags ++ []) ++ u.nags) ((f.comments ++ []) ++ u.comments) ∷ x)) (sym (append_assoc (rows (f.next + 1) u.rest) (rows f.next u.variations) tail))
move_by f m q u (Some l) =
    let tail = f.here ++ f.earlier in
    let next : List NodeRow = row_of f.next m q u.nags u.comments ∷ (rows (f.next + 1) u.rest ++ (rows f.next u.variations ++ tail)) in
    append_assoc f.moves (row_of f.level l f.reached f.nags f.comments ∷ []) next
    ∙ ap₂ (λ x y. f.moves ++ (row_of f.level l f.reached x y ∷ next)) (sym (append-nil f.nags)) (sym (append-nil f.comments))
    ∙ ap (λ x. f.moves ++ (row_of f.level l f.reached (f.nags ++ []) (f.comments ++ []) ∷ (row_of f.next m q u.nags u.comments ∷ x)))
    (sym (append_assoc (rows (f.next + 1) u.rest) (rows f.next u.variations) tail))

move_told_is : (f : Frame) (m : Move) (q : Board) (u : LineTail) → wholly (advance f m q) u ≡ wholly f (tail_with_move m q u)
move_told_is f m q u = move_by f m q u f.last

variation_by : (g : Frame) (v u : LineTail) (inner : List NodeRow) → inner ≡ rows g.level (with_leading_notes v.nags v.comments v.rest) → (o : Option Move)
    → g.moves ++ (wholly_by o (record g { here = g.here ++ inner }) u ++ ((g.here ++ inner) ++ (rows g.level u.variations ++ g.earlier)))
    ≡ g.moves ++ (wholly_by o g (tail_with_variation v u) ++ (g.here ++ (rows g.level (beside (with_leading_notes v.nags v.comments v.rest) u.variations) ++ g.earlier)))
variation_by g v u inner is o =
    let tail : (g.here ++ inner) ++ (rows g.level u.variations ++ g.earlier) ≡ g.here ++ (rows g.level (beside (with_leading_notes v.nags v.comments v.rest) u.variations) ++ g.earlier) =
    append_assoc g.here inner (rows g.level u.variations ++ g.earlier)
    ∙ ap (λ x. g.here ++ x) (sym (append_assoc inner (rows g.level u.variations) g.earlier))
    ∙ ap (λ x. g.here ++ ((x ++ rows g.level u.variations) ++ g.earlier)) is
    ∙ ap (λ x. g.here ++ (x ++ g.earlier)) (sym (rows_beside g.level (with_leading_notes v.nags v.comments v.rest) u.variations)) in
    by_last o tail
  where
    by_last : (o : Option Move) → (g.here ++ inner) ++ (rows g.level u.variations ++ g.earlier) ≡ g.here ++ (rows g.level (beside (with_leading_notes v.nags v.comments v.rest) u.variations) ++ g.earlier)
        → g.moves ++ (wholly_by o (record g { here = g.here ++ inner }) u ++ ((g.here ++ inner) ++ (rows g.level u.variations ++ g.earlier)))
        ≡ g.moves ++ (wholly_by o g (tail_with_variation v u) ++ (g.here ++ (rows g.level (beside (with_leading_notes v.nags v.comments v.rest) u.variations) ++ g.earlier)))
    by_last None tail = ap (λ x. g.moves ++ (wholly_by None g u ++ x)) tail
    by_last (Some m) tail = ap (λ x. g.moves ++ (wholly_by (Some m) g u ++ x)) tail

variation_told_is : (g f : Frame) (p : Board) (v u : LineTail) → whole f ≡ wholly (begin g.level p) v → v.variations ≡ none → wholly (with_variation g f) u ≡ wholly g (tail_with_variation v u)
unfolding rows
variation_told_is g f p v u is alone =
    let inner : whole f ≡ rows g.level (with_leading_notes v.nags v.comments v.rest) =
    is ∙ ap (λ x. rows g.level (with_leading_notes v.nags v.comments v.rest) ++ (rows 0 x ++ [])) alone ∙ append-nil (rows g.level (with_leading_notes v.nags v.comments v.rest)) in
    variation_by g v u (whole f) inner g.last

-- a line that has no move yet has no variations of a move before it
alone_by : (depth : ℕ) (a b : LinePlace) (u t : LineTail) (s : Sense) → ParsesWord depth a s b u t → (b.before ≡ None → u.variations ≡ none) → a.before ≡ None → t.variations ≡ none
alone_by depth a b u t (plays m) tells later is = ap (λ x. x.variations) tells.3
alone_by depth a b u t (annotates n) tells later is = ap (λ x. x.variations) tells.1 ∙ later (ap (λ x. x.before) tells.0 ∙ is)
alone_by depth a b u t (remarks c) tells later is = ap (λ x. x.variations) tells.1 ∙ later (ap (λ x. x.before) tells.0 ∙ is)
alone_by depth a b u t (ends r) tells later is = ap (λ x. x.variations) tells.2 ∙ later (ap (λ x. x.before) tells.1 ∙ is)
alone_by depth a b u t means_nothing tells later is = ap (λ x. x.variations) tells.1 ∙ later (ap (λ x. x.before) tells.0 ∙ is)
alone_by depth a b u t opens tells later is = absurd tells
alone_by depth a b u t closes tells later is = absurd tells
alone_by depth a b u t (out_of_place r) tells later is = absurd tells

pub alone : (l : Line) (depth : ℕ) (a : LinePlace) (t : LineTail) → ParsesLine depth a l t → a.before ≡ None → t.variations ≡ none
alone nothing depth a t tells is = ap (λ x. x.variations) tells
alone (word w rest) depth a t (b, u, now, later) is = alone_by depth a b u t (sense w) now (alone rest depth b u later) is
alone (variation o inner c rest) depth a t (p, before, shallow, opening, closing, v, inside, q, has_move, u, later, told) is = absurd (let x : None ≡ Some p = sym is ∙ before in cc)

-- a token and the rest of its line
pub record WordReads (h : Head) (f : Frame) (k : List Frame) (w : Word) (s : Sense) (b : LinePlace) (u t : LineTail) : Type 0 where
  pub head : Head
  pub frame : Frame
  pub is_fed : feed (at h f k) w ≡ at head frame k
  pub grown : Grown h (cond (is_move_sense s) 1 0) (is_remark s) head
  pub place : place frame ≡ b
  pub whole : wholly frame u ≡ wholly f t
  pub end : u.end ≡ t.end

grown_body : (h : Head) → Grown h 0 false (in_body h)
grown_body h = record {
  tags = refl;
  start = refl;
  moves = let e : h.moves ≡ h.moves + 0 = omega arith in e;
  heading = sym (and-false h.heading);
}

grown_same : (h : Head) → Grown h 0 true h
grown_same h = record {
  tags = refl;
  start = refl;
  moves = let e : h.moves ≡ h.moves + 0 = omega arith in e;
  heading = sym (and-true h.heading);
}

grown_twice : (h i j : Head) (m n : ℕ) (s t : Bool) → Grown h m s i → Grown i n t j → Grown h (m + n) (s && t) j
grown_twice h i j m n s t a b = record {
  tags = b.tags ∙ a.tags;
  start = b.start ∙ a.start;
  moves = let e : j.moves ≡ h.moves + (m + n) = omega (arith, a.moves, b.moves) in e;
  heading = b.heading ∙ ap (λ x. x && t) a.heading ∙ and_assoc h.heading s t;
}

-- the number of moves, counted otherwise
grown_by : (h j : Head) (m n : ℕ) (s : Bool) → Grown h m s j → n ≡ m → Grown h n s j
grown_by h j m n s g is = record { tags = g.tags; start = g.start; moves = g.moves ∙ ap (λ x. h.moves + x) (sym is); heading = g.heading }

marker_skipped : (h : Head) (f : Frame) (k : List Frame) (r : GameResult) → 0 < length k → on_marker h f k r ≡ at (in_body h) f k
marker_skipped h f [] r deep = absurd (let e : 0 < 0 = deep in omega (arith, e))
marker_skipped h f (g ∷ k) r deep = refl

word_reads : (h : Head) (f : Frame) (k : List Frame) (w : Word) (b : LinePlace) (u t : LineTail) (s : Sense) → sense w ≡ s → ParsesWord (length k) (place f) s b u t → WordReads h f k w s b u t
word_reads h f k w b u t (plays m) is (move, means, to, told) = record {
  head = one_more h;
  frame = advance f move (position_after f.reached move);
  is_fed = feed_is h f k w (plays m) is ∙ ap (on_move h f k) means;
  grown = record { tags = refl; start = refl; moves = refl; heading = sym (and-false h.heading) };
  place = sym to;
  whole = move_told_is f move (position_after f.reached move) u ∙ ap (λ x. wholly f (tail_with_move move x.reached u)) (sym to) ∙ ap (wholly f) (sym told);
  end = ap (λ x. x.end) (sym told);
}
word_reads h f k w b u t (annotates n) is (to, told) = record {
  head = in_body h;
  frame = with_glyph f n;
  is_fed = feed_is h f k w (annotates n) is;
  grown = grown_body h;
  place = sym to;
  whole = glyph_by f n u f.last ∙ ap (wholly f) (sym told);
  end = ap (λ x. x.end) (sym told);
}
word_reads h f k w b u t (remarks c) is (to, told) = record {
  head = h;
  frame = with_remark f c;
  is_fed = feed_is h f k w (remarks c) is;
  grown = grown_same h;
  place = sym to;
  whole = remark_by f c u f.last ∙ ap (wholly f) (sym told);
  end = ap (λ x. x.end) (sym told);
}
word_reads h f k w b u t (ends r) is (deep, to, told) = record {
  head = in_body h;
  frame = f;
  is_fed = feed_is h f k w (ends r) is ∙ marker_skipped h f k r deep;
  grown = grown_body h;
  place = sym to;
  whole = ap (wholly f) (sym told);
  end = ap (λ x. x.end) (sym told);
}
word_reads h f k w b u t means_nothing is (to, told) = record {
  head = in_body h;
  frame = f;
  is_fed = feed_is h f k w means_nothing is;
  grown = grown_body h;
  place = sym to;
  whole = ap (wholly f) (sym told);
  end = ap (λ x. x.end) (sym told);
}
word_reads h f k w b u t opens is wrong = absurd wrong
word_reads h f k w b u t closes is wrong = absurd wrong
word_reads h f k w b u t (out_of_place r) is wrong = absurd wrong

below_is_true : (a b : ℕ) → a < b → nat_lt a b ≡ true
below_is_true a b h = grind arith

pub opening_read : (h : Head) (f : Frame) (k : List Frame) (w : Word) (p : Board) → sense w ≡ opens → f.before ≡ Some p → length k < 100 → feed (at h f k) w ≡ at (in_body h) (begin f.level p) (f ∷ k)
opening_read h f k w p is before shallow =
    feed_is h f k w opens is ∙ ap₂ (on_opening h f k) (below_is_true (length k) 100 shallow) before

pub end_read : (h : Head) (f g : Frame) (k : List Frame) (w : Word) (p : Board) → sense w ≡ closes → f.before ≡ Some p → feed (at h f (g ∷ k)) w ≡ at (in_body h) (with_variation g f) k
end_read h f g k w p is before = feed_is h f (g ∷ k) w closes is ∙ ap (on_end h f (g ∷ k)) before

one_of : (w : Word) (s : Sense) → sense w ≡ s → ◌≡◌ {A = ℕ} (cond (is_move w) 1 0) (cond (is_move_sense s) 1 0)
one_of w s is = ap (λ x. cond {A = ℕ} (is_move_sense x) 1 0) is

-- the moves of tokens, the first of them apart
pub counted_word : (w : Word) (rest : List Word) → ◌≡◌ {A = ℕ} (count_by is_move (w ∷ rest)) (cond (is_move w) 1 0 + count_by is_move rest)
counted_word w rest =
    let f : Word → ℕ = λ x. cond (is_move x) 1 0 in
    let none : (n : ℕ) → 0 + n ≡ n = λ n. omega arith in
    sum_by-append f (w ∷ []) rest ∙ ap (λ n. n + count_by is_move rest) (none (cond (is_move w) 1 0))

counted : (o c : Word) (inner rest : List Word) → sense o ≡ opens → sense c ≡ closes
    → count_by is_move (o ∷ (inner ++ c ∷ rest)) ≡ 0 + count_by is_move inner + 0 + count_by is_move rest
counted o c inner rest opening closing =
    let a = one_of o opens opening in
    let b = one_of c closes closing in
    let d = counted_word o (inner ++ c ∷ rest) in
    let e = sum_by-append (λ w. cond (is_move w) 1 0) inner (c ∷ rest) in
    let g = counted_word c rest in
    omega (arith, a, b, d, e, g)

-- a variation and the rest of its line
variation_grown : (h i j : Head) (o c : Word) (inner rest : List Word) → sense o ≡ opens → sense c ≡ closes
    → Grown (in_body h) (count_by is_move inner) (list_all is_comment inner) i → Grown (in_body i) (count_by is_move rest) (list_all is_comment rest) j
    → Grown h (count_by is_move (o ∷ (inner ++ c ∷ rest))) (list_all is_comment (o ∷ (inner ++ c ∷ rest))) j
variation_grown h i j o c inner rest opening closing a b = record {
  tags = b.tags ∙ a.tags;
  start = b.start ∙ a.start;
  moves =
      let all = counted o c inner rest opening closing in
      let one : i.moves ≡ h.moves + count_by is_move inner = a.moves in
      let two : j.moves ≡ i.moves + count_by is_move rest = b.moves in
      let e : j.moves ≡ h.moves + count_by is_move (o ∷ (inner ++ c ∷ rest)) = omega (arith, all, one, two) in
      e;
  heading = b.heading ∙ sym (and-false h.heading) ∙ ap (λ s. h.heading && (is_remark s && list_all is_comment (inner ++ c ∷ rest))) (sym opening);
}

-- the meaning of a line is the reading of its tokens, whatever lines are open around it
pub told_is_read : (l : Line) (h : Head) (f : Frame) (k : List Frame) (d : ℕ) (t : LineTail) → d ≡ length k → ParsesLine d (place f) l t → Reads h f k (text l) t
told_is_read nothing h f k d t deep told = record {
  head = h;
  frame = f;
  is_run = refl;
  grown = grown_same h;
  place = sym (ap (λ x. x.end) told);
  whole = wholly_nothing f ∙ ap (wholly f) (sym told);
}
told_is_read (word w rest) h f k d t deep (b, u, now, later) =
    let one : WordReads h f k w (sense w) b u t = word_reads h f k w b u t (sense w) refl (subst (λ n. ParsesWord n (place f) (sense w) b u t) deep now) in
    let more : Reads one.head one.frame k (text rest) u = told_is_read rest one.head one.frame k d u deep (subst (λ x. ParsesLine d x rest u) (sym one.place) later) in
    record {
      head = more.head;
      frame = more.frame;
      is_run = ap (λ x. run x (text rest)) one.is_fed ∙ more.is_run;
      grown = grown_by h more.head (cond (is_move w) 1 0 + count_by is_move (text rest)) (count_by is_move (w ∷ text rest)) (list_all is_comment (w ∷ text rest))
          (grown_twice h one.head more.head (cond (is_move w) 1 0) (count_by is_move (text rest)) (is_comment w) (list_all is_comment (text rest)) one.grown more.grown)
          (counted_word w (text rest));
      place = more.place ∙ one.end;
      whole = more.whole ∙ one.whole;
    }
told_is_read (variation o inner c rest) h f k d t deep (p, before, shallow, opening, closing, v, inside, q, has_move, u, later, told) =
    let open_ : feed (at h f k) o ≡ at (in_body h) (begin f.level p) (f ∷ k) = opening_read h f k o p opening before (omega arith) in
    let within : Reads (in_body h) (begin f.level p) (f ∷ k) (text inner) v = told_is_read inner (in_body h) (begin f.level p) (f ∷ k) (d + 1) v (omega arith) inside in
    let close_ : feed (at within.head within.frame (f ∷ k)) c ≡ at (in_body within.head) (with_variation f within.frame) k =
    end_read within.head within.frame f k c q closing (ap (λ x. x.before) within.place ∙ has_move) in
    let more : Reads (in_body within.head) (with_variation f within.frame) k (text rest) u = told_is_read rest (in_body within.head) (with_variation f within.frame) k d u deep later in
    record {
      head = more.head;
      frame = more.frame;
      is_run = ap (λ x. run x (text inner ++ c ∷ text rest)) open_
          ∙ run_append (at (in_body h) (begin f.level p) (f ∷ k)) (text inner) (c ∷ text rest)
          ∙ ap (λ x. run x (c ∷ text rest)) within.is_run
          ∙ ap (λ x. run x (text rest)) close_
          ∙ more.is_run;
      grown = variation_grown h within.head more.head o c (text inner) (text rest) opening closing within.grown more.grown;
      place = more.place ∙ ap (λ x. x.end) (sym told);
      whole = more.whole ∙ variation_told_is f within.frame p v u within.whole (alone inner (d + 1) (beginning p) v inside refl) ∙ ap (wholly f) (sym told);
    }
