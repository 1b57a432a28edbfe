use Rattle.std.proofs.Common.{◌≡◌, ap, arith}
use Rattle.cq_first.specs.declared.view.FirstSeatView.{FirstSeatView}
use Rattle.cq_first.proofs.seat.FirstBoard.look.Goals as goal

pub returns-clause-seen : goal.returns-clause-seen
returns-clause-seen c =
    let s = c.look_at.ensures.seen in
    let e : c.look_at.new.seat.seat.me.0.last ≡ c.look_at.result = ap (λ (u : FirstSeatView). u.last) c.look_at.ensures.view in
    record {
      later = let l = s.later in omega arith;
      own = λ x there. let o = s.own x there in omega arith;
    }
