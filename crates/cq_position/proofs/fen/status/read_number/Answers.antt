use Rattle.std.proofs.Common.{arith, ◌<◌, lit<}
use Rattle.cq_position.proofs.Numbers.{IsReadTo-more, fits_more, below_ten}
use Rattle.cq_position.proofs.fen.status.read_number.Goals as goal

pub overflow_mul-value : goal.overflow_mul-value
overflow_mul-value c = let fits = fits_more c.loop-byte.byte-index c.loop-byte.value 0 (omega arith) c.loop-byte.invariant.small (lit< tt) in omega arith

pub overflow_add-value : goal.overflow_add-value
overflow_add-value c =
    let is = c.in_ok-value.ensures in
    let low : c.in_ok-value.field-0 < 10 = rw is.1 (below_ten _ is.0) in
    let fits = fits_more c.loop-byte.byte-index c.loop-byte.value c.in_ok-value.field-0 (omega arith) c.loop-byte.invariant.small low in
    omega arith

pub loop-byte-preserved : goal.loop-byte-preserved
loop-byte-preserved c = let is = c.in_ok-value.ensures in IsReadTo-more _ _ _ _ (omega arith) is.0 is.1 c.loop-byte.invariant
