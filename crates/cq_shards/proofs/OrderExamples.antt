-- The rows, by computation.
use Rattle.std.proofs.Common.{arith, inl, inr, negsuc, pos, refl}
use Rattle.std.proofs.lemmas.Cmp.{int_ranked}
use Rattle.std.specs.declared.cmp.Ordering.TheVariants.{Less}
use Rattle.cq_shards.specs.OrderExamples.{OrderExamples}

pub order_rows : OrderExamples
order_rows = record {
  directions_of_the_sort_items = refl;
  greater_key = record { item = 0; inside = omega arith; alike = refl; first = int_ranked (pos 1) (pos 5) Less refl };
  lesser_key_with_min = record { item = 0; inside = omega arith; alike = refl; first = int_ranked (pos 1) (pos 5) Less refl };
  first_item = record { item = 0; inside = omega arith; alike = refl; first = int_ranked (negsuc 3) (pos 2) Less refl };
  next_item = record { item = 1; inside = omega arith; alike = refl; first = int_ranked (negsuc 0) (pos 0) Less refl };
  better_keys_of_a_later_game = inl (record { item = 0; inside = omega arith; alike = refl; first = int_ranked (pos 1) (pos 5) Less refl });
  same_keys = inr (refl, omega arith);
  no_sort_item = inr (refl, omega arith);
}
