use Rattle.cq_position.proofs.Digits.{set_is, clear_is, set_fits, clear_fits}
use Rattle.cq_position.proofs.planes.with_bit.Goals as goal

pub returns-then-bit-eq1 : goal.returns-then-bit-eq1
returns-then-bit-eq1 c =
    let low = rw c.number.ensures.value at c.number.ensures.below in
    record { word = rw c.number.ensures.value (set_is c.args.word c.args.square c.args.bit low c.if-bit-eq1.true (set_fits c.args.word c.args.square c.ranges.word.fits)); board = low }

pub returns-else-bit-eq1 : goal.returns-else-bit-eq1
returns-else-bit-eq1 c =
    let low = rw c.number-else-bit-eq1.ensures.value at c.number-else-bit-eq1.ensures.below in
    record {
      word = rw c.number-else-bit-eq1.ensures.value (clear_is c.args.word c.args.square c.args.bit low c.requires c.if-bit-eq1.false (clear_fits c.args.word c.args.square c.ranges.word.fits));
      board = low;
    }
