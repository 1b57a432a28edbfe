-- Drawn moves are legal, so that those of a game follow one another.
use Rattle.std.proofs.Common.{◌≡◌, ℕ, zero, suc, ◌+◌, ◌/◌, ◌^◌, ◌<◌, ◌≤◌, Bool, true, false, List, length, get_or, Some, inl, refl, sym, ap, ap₂, ◌∙◌, subst, arith, add-one}
use Rattle.std.proofs.lemmas.Bool.{ne_eqb}
use Rattle.std.proofs.lemmas.List.{get_or_default}
use Rattle.std.specs.Prelude.{◌==◌, if◌then◌else◌}
use Rattle.std.proofs.lemmas.List.Elements.{Contains-get_or}
use Rattle.std.proofs.Math.Nat.{mod-lt}
use Rattle.cq_position.specs.declared.moves.Move.{Move}
use Rattle.cq_position.specs.Board.{Board}
use Rattle.cq_position.specs.Continuations.{none, played, size, node_of, Follows}
use Rattle.cq_position.specs.Games.{Node, bare_node}
use Rattle.cq_position.specs.Legal.{Legal, after}
use Rattle.cq_position.specs.Moves.{null_move}
use Rattle.cq_moves.specs.LegalMoves.{legal_list}
use Rattle.cq_moves.proofs.Order.{listed_is_legal}
use Rattle.cq_maker.specs.Draws.{next, drawn}
use Rattle.cq_maker.specs.Line.{is_over, move_drawn, ply_drawn, has_variation, variation_drawn, after_variation, Line, extended, line}

-- a line that has ended
abbrev pub ended : Board → ℕ → Line
ended p x = record { moves = none; last = p; state = x }

pub line_over : (n : ℕ) (p : Board) (x : ℕ) → is_over p ≡ true → line n p x ≡ ended p x
unfolding line
line_over zero p x over = refl
line_over (suc n) p x over =
    ap (λ b. if b then ended p x else extended (ply_drawn p x) (variation_drawn p (next x)) (line n (after p (move_drawn p x)) (after_variation (next x)))) over

pub line_full : (n : ℕ) (p : Board) (x : ℕ) → n ≡ 0 → line n p x ≡ ended p x
unfolding line
line_full n p x none_left = ap (λ i. line i p x) none_left

pub line_step : (n k : ℕ) (p : Board) (x : ℕ) → is_over p ≡ false → n ≡ k + 1
    → line n p x ≡ extended (ply_drawn p x) (variation_drawn p (next x)) (line k (after p (move_drawn p x)) (after_variation (next x)))
unfolding line
line_step n k p x over is =
    ap (λ i. line i p x) (is ∙ add-one k)
    ∙ ap (λ b. if b then ended p x else extended (ply_drawn p x) (variation_drawn p (next x)) (line k (after p (move_drawn p x)) (after_variation (next x)))) over

pub some_left : (p : Board) → is_over p ≡ false → 0 < length (legal_list p)
unfolding is_over
some_left p over = grind arith

pub below : (x bound : ℕ) → 0 < bound → drawn x bound < bound
unfolding drawn
below x bound h = mod-lt (next x / 2 ^ 33) h

-- the move that is drawn is legal
pub legal_drawn : (p : Board) (x : ℕ) → 0 < length (legal_list p) → Legal p (move_drawn p x) (after p (move_drawn p x))
unfolding move_drawn
legal_drawn p x h =
    let found = listed_is_legal p (move_drawn p x) (Contains-get_or (legal_list p) (drawn x (length (legal_list p))) null_move (below x (length (legal_list p)) h)) in
    subst (Legal p (move_drawn p x)) found.1.leads found.1

variation_follows : (p : Board) (x : ℕ) → 0 < length (legal_list p) → (b : Bool) → has_variation x ≡ b → Follows p (variation_drawn p x)
unfolding variation_drawn Follows ply_drawn
variation_follows p x h true is =
    subst (λ b. Follows p (if b then played (ply_drawn p (next x)) none none else none)) (sym is) (inl (legal_drawn p (next x) h), tt, tt)
variation_follows p x h false is = subst (λ b. Follows p (if b then played (ply_drawn p (next x)) none none else none)) (sym is) tt

-- each move of a line leads from the position before it to its own
pub line_follows : (n : ℕ) (p : Board) (x : ℕ) → Follows p (line n p x).moves
unfolding line Follows ply_drawn
line_follows zero p x = tt
line_follows (suc n) p x = by_end (line_follows n (after p (move_drawn p x)) (after_variation (next x))) (is_over p) refl
  where
    by_end : Follows (after p (move_drawn p x)) (line n (after p (move_drawn p x)) (after_variation (next x))).moves
        → (b : Bool) → is_over p ≡ b → Follows p (line (suc n) p x).moves
    by_end rest true over = subst (λ l. Follows p l.moves) (sym (line_over (suc n) p x over)) tt
    by_end rest false over =
        let h = some_left p over in
        subst (λ l. Follows p l.moves) (sym (line_step (suc n) n p x over (sym (add-one n))))
        (inl (legal_drawn p x h), rest, variation_follows p (next x) h (has_variation (next x)) refl)

variation_small : (p : Board) (x : ℕ) → (b : Bool) → has_variation x ≡ b → size (variation_drawn p x) ≤ 1
unfolding variation_drawn
variation_small p x true is = subst (λ b. size (if b then played (ply_drawn p (next x)) none none else none) ≤ 1) (sym is) (omega arith)
variation_small p x false is = subst (λ b. size (if b then played (ply_drawn p (next x)) none none else none) ≤ 1) (sym is) (omega arith)

-- a line has at most two moves for each that may be played
pub line_small : (n : ℕ) (p : Board) (x : ℕ) → size (line n p x).moves ≤ n + n
unfolding line
line_small zero p x = omega arith
line_small (suc n) p x = by_end (line_small n (after p (move_drawn p x)) (after_variation (next x))) (is_over p) refl
  where
    by_end : size (line n (after p (move_drawn p x)) (after_variation (next x))).moves ≤ n + n
        → (b : Bool) → is_over p ≡ b → size (line (suc n) p x).moves ≤ suc n + suc n
    by_end rest true over = subst (λ l. size l.moves ≤ suc n + suc n) (sym (line_over (suc n) p x over)) (omega arith)
    by_end rest false over =
        let small = variation_small p (next x) (has_variation (next x)) refl in
        subst (λ l. size l.moves ≤ suc n + suc n) (sym (line_step (suc n) n p x over (sym (add-one n)))) (omega (arith, rest, small))

-- the move that a call draws
pub is_drawn : (p : Board) (x : ℕ) (moves : List Move) (i : ℕ) (m : Move) → 0 < length moves → moves ≡ legal_list p → i ≡ drawn x (length moves) → m ≡ get_or moves i m → m ≡ move_drawn p x
unfolding move_drawn
is_drawn p x moves i m some_ same at is =
    is ∙ ap (λ j. get_or moves j m) at ∙ get_or_default moves (drawn x (length moves)) m null_move (below x (length moves) some_)
    ∙ ap (λ (l : List Move). get_or l (drawn x (length l)) null_move) same

pub leads_on : (p : Board) (x : ℕ) (moves : List Move) (m : Move) → 0 < length moves → moves ≡ legal_list p → m ≡ move_drawn p x → (q : Board) × Legal p m q
leads_on p x moves m some_ same is =
    subst (λ n. (q : Board) × Legal p n q) (sym is) (after p (move_drawn p x), legal_drawn p x (subst (λ (l : List Move). 0 < length l) same some_))

pub ply_is : (parent : ℕ) (p : Board) (x : ℕ) (m : Move) (q : Board) → m ≡ move_drawn p x → q ≡ after p m
    → bare_node (Some parent) (Some m) q ≡ node_of parent (ply_drawn p x)
unfolding ply_drawn
ply_is parent p x m q is leads = ap₂ (λ n r. bare_node (Some parent) (Some n) r) is (leads ∙ ap (after p) is)

pub ply_position : (parent : ℕ) (p : Board) (x : ℕ) (n : Node) → n ≡ node_of parent (ply_drawn p x) → n.position ≡ after p (move_drawn p x)
unfolding ply_drawn
ply_position parent p x n is = ap (λ k. k.position) is

-- a variation is drawn if the number is 0
pub does_vary : (x i : ℕ) → i ≡ drawn x 16 → i ≡ 0 → has_variation x ≡ true
unfolding has_variation
does_vary x i at is = ap (λ d. d == 0) (sym at ∙ is)

pub does_not_vary : (x i : ℕ) → i ≡ drawn x 16 → (i ≡ 0 → ⊥) → has_variation x ≡ false
unfolding has_variation
does_not_vary x i at is = ne_eqb (drawn x 16) 0 (λ e. is (at ∙ e))

pub after_one : (x : ℕ) → has_variation x ≡ true → after_variation x ≡ next (next x)
unfolding after_variation
after_one x is = ap (λ b. if b then next (next x) else next x) is

pub after_none : (x : ℕ) → has_variation x ≡ false → after_variation x ≡ next x
unfolding after_variation
after_none x is = ap (λ b. if b then next (next x) else next x) is

pub goes_on : (p : Board) (b : Bool) → b ≡ (length (legal_list p) == 0) → b ≡ false → is_over p ≡ false
unfolding is_over
goes_on p b is over = sym is ∙ over

pub is_done : (p : Board) (b : Bool) → b ≡ (length (legal_list p) == 0) → b ≡ true → is_over p ≡ true
unfolding is_over
is_done p b is over = sym is ∙ over
