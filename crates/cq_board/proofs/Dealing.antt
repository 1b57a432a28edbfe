-- Seats that were handed out so far, and seats that were joined so far.
use Rattle.std.proofs.Common.{lt-ltb, leb-true, Bool, true, false, zero, suc, ◌≤◌, get_or, refl, Some, length-append, ◌-◌, ◌==◌, ◌≡◌, ℕ, ◌+◌, ◌<◌, List, [], ◌∷◌, ◌++◌, length, sym, ap, ◌∙◌, subst, arith, All}
use Rattle.std.specs.Prelude.{sum_by, nat_le, Contains}
use Rattle.std.proofs.lemmas.List.{map-append}
use Rattle.std.proofs.lemmas.List.Elements.{All-pop, All-push}
use Rattle.std.proofs.lemmas.List.Sums.{sum_by_push, sum_by-cons}
use Rattle.atomic_table.specs.declared.shared.Seat.{Seat}
use Rattle.atomic_table.specs.Seated.{TableId}
use Rattle.cq_board.specs.declared.view.SeatView.{SeatView}
use Rattle.cq_board.specs.declared.seat.Board.{Board}
use Rattle.cq_board.specs.declared.seat.ClaimSeat.{ClaimSeat}
use Rattle.cq_board.specs.Draws.{times, times_in, once_below, IsDrawnOnce}
use Rattle.cq_board.specs.Views.{late, share, joined, IsKept, one_pass_less, one_pass}
use Rattle.cq_board.proofs.Increasing.{count_merged, one_if, times_first, times_more}
use Rattle.cq_board.proofs.Drawing.{below_next}
use Rattle.cq_board.proofs.Steps.{joined_share, has_all_numbers}
use mathlib.Core.Option.{some, some-injective, some-ne-none}
use lib.ListN.{get_elem?}
use Rattle.cq_board.specs.Seats.{IsSeatOf, drawn, all_drawn, HasEnded}

-- a seat that has drawn nothing, of the table with this name
pub record IsNew (id : TableId) (n seats : ℕ) (s : ClaimSeat) : Type 0 where
  pub table : s.seat.table_id ≡ id
  pub numbers : s.seat.me.0.numbers ≡ n
  pub seats_told : s.seat.me.0.seats ≡ seats
  pub nothing : drawn s ≡ []
  pub may_draw : HasEnded s → ⊥

-- the maker's seat, and the seats that were handed out before this turn
pub record Dealt (id : TableId) (n seats : ℕ) (me : Seat (Unit {0}) SeatView) (turn : ℕ) (claims : List ClaimSeat) : Type 0 where
  pub table : me.table_id ≡ id
  pub no_slot : me.me.1 ≡ []
  pub numbers : me.me.0.numbers ≡ n
  pub seats_told : me.me.0.seats ≡ seats
  pub nothing : me.me.0.drawn ≡ []
  pub passes : me.me.0.passes + turn ≡ seats + 1
  pub count : length claims + 1 ≡ turn
  pub claimed : All (IsNew id n seats) claims

pub record Gathered (b : Board) (all : List ClaimSeat) (whole : Seat (Unit {0}) SeatView) (left : List ClaimSeat) : Type 0 where
  pub table : whole.table_id ≡ b.table.shared.table_id
  pub seats : All (IsSeatOf b) left
  pub some : 0 < share b.table.shared.key.numbers whole.me.0
  pub shares : share b.table.shared.key.numbers whole.me.0 + length left ≡ b.table.shared.key.seats
  pub numbers : (x : ℕ) → times x whole.me.0.drawn + times_in x (all_drawn left) ≡ times_in x (all_drawn all)

taken_last : (x : ℕ) (rest : List ClaimSeat) (s : ClaimSeat) → times_in x (all_drawn (rest ++ s ∷ [])) ≡ times_in x (all_drawn rest) + times x (drawn s)
taken_last x rest s = ap (sum_by (times x)) (map-append drawn rest (s ∷ [])) ∙ sum_by_push (times x) (all_drawn rest) (drawn s)

pub seats_left : (b : Board) (left rest : List ClaimSeat) (s : ClaimSeat) → left ≡ rest ++ s ∷ [] → All (IsSeatOf b) left → All (IsSeatOf b) rest × IsSeatOf b s
seats_left b left rest s same all = let p = All-pop (IsSeatOf b) left rest (Some s) same all in (p.0, p.1)

pub gathered_one : (b : Board) (all rest : List ClaimSeat) (s : ClaimSeat) → all ≡ rest ++ s ∷ [] → All (IsSeatOf b) all → length all ≡ b.table.shared.key.seats
    → Gathered b all s.seat rest
gathered_one b all rest s same seats count = record {
  table = p.1.table;
  seats = p.0;
  some = let o = one in omega arith;
  shares = let o = one in let l : length all ≡ length (rest ++ s ∷ []) = ap length same in let a = length-append rest (s ∷ []) in omega arith;
  numbers = λ x. let e : times_in x (all_drawn all) ≡ times_in x (all_drawn (rest ++ s ∷ [])) = ap (λ l. times_in x (all_drawn l)) same in let t = taken_last x rest s in omega arith;
}
  where
    p : All (IsSeatOf b) rest × IsSeatOf b s
    p = seats_left b all rest s same seats

    one : share b.table.shared.key.numbers s.seat.me.0 ≡ 1
    one = subst (λ (n : ℕ). share n s.seat.me.0 ≡ 1) p.1.numbers s.one_share

pub gathered_more : (b : Board) (all left rest : List ClaimSeat) (whole next : Seat (Unit {0}) SeatView) (s : ClaimSeat) → left ≡ rest ++ s ∷ [] → Gathered b all whole left
    → next.table_id ≡ whole.table_id → next.me.0 ≡ joined whole.me.0 s.seat.me.0 → Gathered b all next rest
gathered_more b all left rest whole next s same so_far table view = record {
  table = table ∙ so_far.table;
  seats = p.0;
  some = let t = so_far.some in let o = both in omega arith;
  shares = let o = both in let i = one in let l : length left ≡ length (rest ++ s ∷ []) = ap length same in let a = length-append rest (s ∷ []) in let k = so_far.shares in omega arith;
  numbers = λ x.
      let e : times_in x (all_drawn left) ≡ times_in x (all_drawn (rest ++ s ∷ [])) = ap (λ l. times_in x (all_drawn l)) same in
      let t = taken_last x rest s in let k = so_far.numbers x in let v : times x next.me.0.drawn ≡ times x (joined whole.me.0 s.seat.me.0).drawn = ap (λ u. times x u.drawn) view in
      let m = count_merged (λ y. y == x) whole.me.0.drawn (drawn s) in omega arith;
}
  where
    n : ℕ
    n = b.table.shared.key.numbers

    p : All (IsSeatOf b) rest × IsSeatOf b s
    p = seats_left b left rest s same so_far.seats

    one : share n s.seat.me.0 ≡ 1
    one = subst (λ (k : ℕ). share k s.seat.me.0 ≡ 1) p.1.numbers s.one_share

    both : share n next.me.0 ≡ share n whole.me.0 + share n s.seat.me.0
    both = ap (share n) view ∙ joined_share n whole.me.0 s.seat.me.0

-- once all seats were joined
pub drawn_once : (b : Board) (all left : List ClaimSeat) (whole : Seat (Unit {0}) SeatView) (words : List ℕ) (views : List SeatView) (id next : ℕ) → length left ≡ 0 → Gathered b all whole left
    → IsKept b.table.shared.key words views → get_elem? views id ≡ some whole.me.0 → get_elem? words 0 ≡ some next → (x : ℕ) → times_in x (all_drawn all) ≡ once_below next x
drawn_once b all (s ∷ left) whole words views id next none so_far kept at word x = absurd (omega arith)
drawn_once b all [] whole [] views id next none so_far kept at word x = absurd (some-ne-none next (sym word))
drawn_once b all [] whole (w ∷ words) views id next none so_far kept at word x =
    let h = has_all_numbers b.table.shared.key (w ∷ words) views id whole.me.0 kept at (let k = so_far.shares in omega arith) x in
    let e : once_below w x ≡ once_below next x = ap (λ n. once_below n x) (some-injective w next word) in let k = so_far.numbers x in omega arith

-- the maker's seat hands out one more
pub dealt_more : (id : TableId) (n seats : ℕ) (me next : Seat (Unit {0}) SeatView) (turn : ℕ) (claims more : List ClaimSeat) (s : ClaimSeat) → turn < seats → Dealt id n seats me turn claims
    → next.table_id ≡ me.table_id → next.me ≡ (one_pass_less me.me.0, me.me.1) → s.seat.table_id ≡ me.table_id → s.seat.me ≡ (one_pass me.me.0, []) → more ≡ claims ++ s ∷ []
    → Dealt id n seats next (turn + 1) more
dealt_more id n seats me next turn claims more s before so_far table view own_table own_view longer = record {
  table = table ∙ so_far.table;
  no_slot = ap (λ m. m.1) view ∙ so_far.no_slot;
  numbers = ap (λ m. m.0.numbers) view ∙ so_far.numbers;
  seats_told = ap (λ m. m.0.seats) view ∙ so_far.seats_told;
  nothing = ap (λ m. m.0.drawn) view ∙ so_far.nothing;
  passes = let p : next.me.0.passes ≡ me.me.0.passes - 1 = ap (λ m. m.0.passes) view in let k = so_far.passes in omega arith;
  count = let l : length more ≡ length (claims ++ s ∷ []) = ap length longer in let a = length-append claims (s ∷ []) in let k = so_far.count in omega arith;
  claimed = subst (All (IsNew id n seats)) (sym longer) (All-push (IsNew id n seats) claims s so_far.claimed new);
}
  where
    new : IsNew id n seats s
    new = record {
      table = own_table ∙ so_far.table;
      numbers = ap (λ m. m.0.numbers) own_view ∙ so_far.numbers;
      seats_told = ap (λ m. m.0.seats) own_view ∙ so_far.seats_told;
      nothing = ap (λ m. m.0.drawn) own_view;
      may_draw = λ ended. let p : s.seat.me.0.passes ≡ 1 = ap (λ m. m.0.passes) own_view in absurd (omega arith);
    }

-- a list with a number not below n
late_there : (n : ℕ) (xs : List ℕ) → 0 < late n xs → (x : ℕ) × (n ≤ x) × (0 < times x xs)
late_there n [] more = absurd (omega arith)
late_there n (y ∷ ys) more = by_order (nat_le n y) refl (late_there n ys)
  where
    by_order : (b : Bool) → nat_le n y ≡ b → (0 < late n ys → (x : ℕ) × (n ≤ x) × (0 < times x ys)) → (x : ℕ) × (n ≤ x) × (0 < times x (y ∷ ys))
    by_order true e later = (y, leb-true n y e, times_first y ys)
    by_order false e later =
        let c = sum_by-cons (λ x. one_if (nat_le n x)) y ys in let f : one_if (nat_le n y) ≡ 0 = ap one_if e in
        let r = later (omega arith) in let m = times_more r.0 y ys in (r.0, r.1, omega (arith, r.2))

-- a seat that has ended drew a number not below the board's
pub word_past : (b : Board) (seats : List ClaimSeat) (next : ℕ) → All (IsSeatOf b) seats → IsDrawnOnce next (all_drawn seats) → (s : ClaimSeat) → Contains seats s → HasEnded s
    → b.table.shared.key.numbers ≤ next
word_past b seats next all once s is_in ended =
    let of : IsSeatOf b s = subst (IsSeatOf b) is_in.2 (all is_in.0 s is_in.1) in
    let one : share b.table.shared.key.numbers s.seat.me.0 ≡ 1 = subst (λ (n : ℕ). share n s.seat.me.0 ≡ 1) of.numbers s.one_share in
    let r = late_there b.table.shared.key.numbers (drawn s) (omega arith) in
    let t = one_stands r.0 seats is_in.0 is_in.1 is_in.2 in
    let low = below_next next (all_drawn seats) r.0 once (omega (arith, t, r.2)) in omega (arith, low, r.1)
  where
    one_stands : (x : ℕ) (ss : List ClaimSeat) (k : ℕ) → k < length ss → get_or ss k s ≡ s → times x (drawn s) ≤ times_in x (all_drawn ss)
    one_stands x [] k low e = absurd (omega arith)
    one_stands x (u ∷ ss) zero low e = let c = sum_by-cons (times x) (drawn u) (all_drawn ss) in let h : times x (drawn u) ≡ times x (drawn s) = ap (λ v. times x (drawn v)) e in omega arith
    one_stands x (u ∷ ss) (suc k) low e = let c = sum_by-cons (times x) (drawn u) (all_drawn ss) in let r = one_stands x ss k (omega arith) e in omega arith

pub all_once : (n next : ℕ) (lists : List (List ℕ)) → n ≤ next → IsDrawnOnce next lists → (x : ℕ) → x < n → times_in x lists ≡ 1
all_once n next lists most once x low = once x ∙ ap one_if (lt-ltb x next (omega arith))
