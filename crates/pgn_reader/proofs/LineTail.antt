-- The tokens that are read have their meaning.
use Rattle.std.proofs.Common.{◌≡◌, ℕ, ◌+◌, ◌<◌, List, [], ◌∷◌, ◌++◌, length, Some, Ok, Bool, true, false, cond, refl, sym, ap, ◌∙◌, subst, arith, append_assoc}
use Rattle.std.specs.Prelude.{count_by, ◌&&◌}
use Rattle.std.specs.List.{list_all}
use Rattle.std.proofs.lemmas.List.Sums.{sum_by-append}
use Rattle.std.proofs.lemmas.List.Folds.{list_all-append}
use Rattle.cq_position.specs.Board.{Board}
use Rattle.pgn_reader.specs.Words.{Word, Sense, opens, sense, is_comment, is_remark, is_move, is_move_sense}
use Rattle.pgn_reader.specs.Tags.{Pair, start_of}
use Rattle.pgn_reader.specs.Line.{Line, nothing, word, text, beginning, LineTail, empty_tail, ParsesWord, ParsesLine}
use Rattle.pgn_reader.specs.Games.{heading_text}
use Rattle.pgn_reader.specs.ReadingPlace.{OpenLines, outermost, within, open_lines_text, HasHeading}
use Rattle.pgn_reader.specs.Internal.Frame.{Frame, place}
use Rattle.pgn_reader.specs.Internal.Machine.{Head}
use Rattle.pgn_reader.proofs.Read.{counted_word}
use Rattle.pgn_reader.proofs.Then.{then, text_then, end_same, Longer, tells_then}

-- the innermost of the open lines continues
abbrev pub longer : OpenLines → Line → OpenLines
longer (outermost l) m = outermost (then l m)
longer (within b o l) m = within b o (then l m)

pub text_longer : (b : OpenLines) (m : Line) → open_lines_text (longer b m) ≡ open_lines_text b ++ text m
text_longer (outermost l) m = text_then l m
text_longer (within b o l) m = ap (λ x. open_lines_text b ++ o ∷ x) (text_then l m) ∙ sym (append_assoc (open_lines_text b) (o ∷ text l) (text m))

-- the open lines as the reader has them
abbrev pub Stack : Board → OpenLines → Frame → List Frame → Type 0
Stack start (outermost l) f [] = (t : LineTail) × ParsesLine 0 (beginning start) l t × (t.end ≡ place f)
Stack start (outermost l) f (g ∷ k) = ⊥
Stack start (within b o l) f [] = ⊥
Stack start (within b o l) f (g ∷ k) =
    Stack start b g k × (p : Board) × (g.before ≡ Some p) × (length k < 100) × (sense o ≡ opens)
    × (t : LineTail) × ParsesLine (length k + 1) (beginning p) l t × (t.end ≡ place f)

-- the tokens of a state in the movetext
pub record Shown (ts : List Word) (h : Head) (f : Frame) (k : List Frame) : Type 0 where
  pub pairs : List Pair
  pub has_heading : HasHeading pairs h.tags h.start
  pub begun : OpenLines
  pub stack : Stack h.start begun f k
  pub joined : ts ≡ heading_text pairs ++ open_lines_text begun
  pub moves : h.moves ≡ count_by is_move (open_lines_text begun)
  pub heading : h.heading ≡ list_all is_comment (open_lines_text begun)

-- the line continues from one place to another
pub stack_on : (start : Board) (b : OpenLines) (f g : Frame) (k : List Frame) (m : Line) (u : LineTail) → Stack start b f k
    → ((d : ℕ) → d ≡ length k → ParsesLine d (place f) m u) → u.end ≡ place g → Stack start (longer b m) g k
stack_on start (outermost l) f g [] m u (t, tells, end) more to =
    let all : Longer 0 (beginning start) (then l m) u.end = tells_then l m 0 (beginning start) t u tells (subst (λ x. ParsesLine 0 x m u) (sym end) (more 0 refl)) in
    (all.told, all.tells, all.end ∙ to)
stack_on start (outermost l) f g (h ∷ k) m u wrong more to = absurd wrong
stack_on start (within b o l) f g [] m u wrong more to = absurd wrong
stack_on start (within b o l) f g (h ∷ k) m u (around, p, before, shallow, opening, t, tells, end) more to =
    let all : Longer (length k + 1) (beginning p) (then l m) u.end =
    tells_then l m (length k + 1) (beginning p) t u tells (subst (λ x. ParsesLine (length k + 1) x m u) (sym end) (more (length k + 1) (omega arith))) in
    (around, p, before, shallow, opening, all.told, all.tells, all.end ∙ to)

-- heads before and after a token
pub record Stepped (h : Head) (s : Sense) (j : Head) : Type 0 where
  pub tags : j.tags ≡ h.tags
  pub start : j.start ≡ h.start
  pub moves : j.moves ≡ h.moves + cond (is_move_sense s) 1 0
  pub heading : j.heading ≡ (h.heading && is_remark s)

pub and_false : (a : Bool) → false ≡ (a && false)
and_false true = refl
and_false false = refl

pub and_true : (a : Bool) → a ≡ (a && true)
and_true true = refl
and_true false = refl

pub same_moves : (h : Head) → h.moves ≡ h.moves + 0
same_moves h = omega arith

-- the tokens of a state in the movetext after some more tokens
pub shown_on : (ts more : List Word) (h j : Head) (f g : Frame) (k c : List Frame) (state_of : Shown ts h f k) (b : OpenLines)
    → open_lines_text b ≡ open_lines_text state_of.begun ++ more → Stack h.start b g c → j.tags ≡ h.tags → j.start ≡ h.start
    → j.moves ≡ h.moves + count_by is_move more → j.heading ≡ (h.heading && list_all is_comment more) → Shown (ts ++ more) j g c
shown_on ts more h j f g k c state_of b text_is stack tags start moves heading = record {
  pairs = state_of.pairs;
  has_heading = record {
    are_pairs = state_of.has_heading.are_pairs;
    are_tags = tags ∙ state_of.has_heading.are_tags;
    starts = ap start_of tags ∙ state_of.has_heading.starts ∙ ap (λ x. Ok x) (sym start);
  };
  begun = b;
  stack = subst (λ x. Stack x b g c) (sym start) stack;
  joined = ap (λ x. x ++ more) state_of.joined ∙ append_assoc (heading_text state_of.pairs) (open_lines_text state_of.begun) more ∙ ap (λ x. heading_text state_of.pairs ++ x) (sym text_is);
  moves = moves ∙ ap (λ n. n + count_by is_move more) state_of.moves ∙ sym (sum_by-append (λ w. cond (is_move w) 1 0) (open_lines_text state_of.begun) more) ∙ ap (count_by is_move) (sym text_is);
  heading = heading ∙ ap (λ x. x && list_all is_comment more) state_of.heading ∙ sym (list_all-append is_comment (open_lines_text state_of.begun) more) ∙ ap (list_all is_comment) (sym text_is);
}

-- the counts of one token
pub one_move : (h j : Head) (w : Word) (s : Sense) → sense w ≡ s → j.moves ≡ h.moves + cond (is_move_sense s) 1 0 → j.moves ≡ h.moves + count_by is_move (w ∷ [])
one_move h j w s is moves =
    let one : ◌≡◌ {A = ℕ} (cond (is_move w) 1 0) (cond (is_move_sense s) 1 0) = ap (λ x. cond {A = ℕ} (is_move_sense x) 1 0) is in
    let all : ◌≡◌ {A = ℕ} (count_by is_move (w ∷ [])) (cond (is_move w) 1 0 + count_by is_move []) = counted_word w [] in
    omega (arith, one, all, moves)

pub one_comment : (h j : Head) (w : Word) (s : Sense) → sense w ≡ s → j.heading ≡ (h.heading && is_remark s) → j.heading ≡ (h.heading && list_all is_comment (w ∷ []))
one_comment h j w s is heading = heading ∙ ap (λ x. h.heading && x) (and_true (is_remark s) ∙ ap (λ x. is_remark x && true) (sym is))

-- a token that isn't a parenthesis
pub word_stands : (ts : List Word) (h j : Head) (f g : Frame) (k : List Frame) (w : Word) (s : Sense) (u : LineTail) → sense w ≡ s → Shown ts h f k
    → ((d : ℕ) → d ≡ length k → ParsesWord d (place f) s (place g) (empty_tail (place g)) u) → Stepped h s j → Shown (ts ++ w ∷ []) j g k
word_stands ts h j f g k w s u is state_of tells step =
    let line : Line = word w nothing in
    let told : (d : ℕ) → d ≡ length k → ParsesLine d (place f) line u = λ d e.
    (place g, empty_tail (place g), subst (λ x. ParsesWord d (place f) x (place g) (empty_tail (place g)) u) (sym is) (tells d e), refl) in
    shown_on ts (w ∷ []) h j f g k k state_of (longer state_of.begun line) (text_longer state_of.begun line)
    (stack_on h.start state_of.begun f g k line u state_of.stack told (sym (end_same (length k) (place f) (place g) (empty_tail (place g)) u s (tells (length k) refl))))
    step.tags step.start (one_move h j w s is step.moves) (one_comment h j w s is step.heading)
