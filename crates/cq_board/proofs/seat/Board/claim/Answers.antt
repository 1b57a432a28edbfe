use Rattle.std.proofs.Common.{◌≡◌, refl, sym, ap, ◌∙◌, subst, arith}
use Rattle.cq_board.specs.Views.{share}
use Rattle.cq_board.proofs.Steps.{draws, drawing_share}
use Rattle.cq_board.proofs.seat.Board.claim.Goals as goal

pub fetch_add-found-requires : goal.fetch_add-found-requires
fetch_add-found-requires c = (
  c.requires.seat.table,
  (let w = c.args.self.now.words in omega arith),
  draws c.args.self.now.table.shared.key _ _ c.args.seat.now.seat.me c.requires.seat.numbers (omega (arith, c.requires.«open»)),
)

pub invariant_of-seat : goal.invariant_of-seat
invariant_of-seat c =
    let e = c.fetch_add-found.ensures in let old = c.args.seat.now in record {
      no_slot = ap (λ m. m.1) e.2.0 ∙ old.no_slot;
      increasing = e.2.1;
      one_share = subst (λ m. share m.0.numbers m.0 ≡ 1) (sym e.2.0)
          (drawing_share old.seat.me.0.numbers old.seat.me.0 c.fetch_add-found.result refl (omega (arith, c.requires.«open»)) ∙ old.one_share);
    }
