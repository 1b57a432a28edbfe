-- The position after a move.
use Rattle.std.proofs.Common.{◌≡◌, Bool, true, false, not, cond, Option, Some, None, refl, sym, ap, ◌∙◌, inl, inr, ◌↔◌, nat_lt}
use Rattle.std.specs.Prelude.{◌&&◌, IsNone, IfSome}
use Rattle.cq_position.specs.declared.moves.Move.{Move}
use Rattle.cq_position.specs.Board.{Board}
use Rattle.cq_position.specs.Attacks.{in_check}
use Rattle.cq_position.specs.Moves.{null_move}
use Rattle.cq_position.specs.Legal.{Legal, Passes, Leads, is_pseudo_legal, reaches, promotion_is_right, after, after_pass}
use Rattle.pgn_reader.specs.Line.{position_after}
use Rattle.pgn_reader.proofs.Heading.{and_left}

not_true : (b : Bool) → not b ≡ true → b ≡ false
not_true true is = absurd cc
not_true false is = refl

-- a legal move is not the null move
pub legal_not_null : (p q : Board) (m : Move) → Legal p m q → m.null ≡ false
unfolding is_pseudo_legal
legal_not_null p q m legal =
    let a : (not m.null && nat_lt m.to 64 && reaches p m.from m.to && promotion_is_right p m) ≡ true = legal.moves in
    not_true m.null (and_left (not m.null) (nat_lt m.to 64) (and_left (not m.null && nat_lt m.to 64) (reaches p m.from m.to)
    (and_left (not m.null && nat_lt m.to 64 && reaches p m.from m.to) (promotion_is_right p m) a)))

-- if the null move leads from a position, the side may pass
pub null_passes : (p q : Board) (m : Move) → m.null ≡ true → Leads p m q → in_check p.men p.side ≡ false
null_passes p q m is (inl legal) = absurd (let e : true ≡ false = sym is ∙ legal_not_null p q m legal in cc)
null_passes p q m is (inr passes) = passes.safe

-- any other move that leads anywhere is legal
pub other_is_legal : (p q : Board) (m : Move) → m.null ≡ false → Leads p m q → Legal p m q
other_is_legal p q m is (inl legal) = legal
other_is_legal p q m is (inr passes) = absurd (let e : true ≡ false = sym (ap (λ x. x.null) passes.null) ∙ is in cc)

pub led_by_null : (p : Board) (m : Move) → m.null ≡ true → position_after p m ≡ after_pass p
led_by_null p m is = ap (λ b. cond b (after_pass p) (after p m)) is

pub led_by_other : (p : Board) (m : Move) → m.null ≡ false → position_after p m ≡ after p m
led_by_other p m is = ap (λ b. cond b (after_pass p) (after p m)) is

-- the position after a pass, if the side may pass
pub passed_to : (p q : Board) (m : Move) (r : Option Board) → m.null ≡ true → Leads p m q → (IsNone r ↔ (in_check p.men p.side ≡ true)) → IfSome r (λ b. Passes p null_move b)
    → (b : Board) → ((x : Board) → r ≡ Some x → b ≡ x) → b ≡ position_after p m
passed_to p q m None is leads none some b gives = absurd (let e : true ≡ false = sym (none.0 refl) ∙ null_passes p q m is leads in cc)
passed_to p q m (Some x) is leads none some b gives = gives x refl ∙ some.leads ∙ sym (led_by_null p m is)
