-- Comparisons of any two answers for the private functions. The answers need not have a key for each sort item.
use Rattle.std.specs.Prelude.{ℕ, ◌+◌, ℤ, Bool, true, false, List, [], ◌∷◌, Option, slice_get}
use Rattle.std.specs.Option.{option_cmp}
use Rattle.std.specs.declared.cmp.Ordering.{Ordering}
use Rattle.std.specs.declared.cmp.Ordering.TheVariants.{Equal}
use Rattle.std.specs.Ordering.{ordering_then, flip_args, int_cmp, nat_cmp}
use Rattle.cq_shards.specs.declared.answers.GameAnswer.{GameAnswer}
use Rattle.cq_shards.specs.Order.{keys_in}

-- the keys of one item, of which any may be missing: the greater first, with `min` the lesser
abbrev pub value_cmp : (least : Bool) → Option ℤ → Option ℤ → Ordering
value_cmp true = option_cmp int_cmp
value_cmp false = flip_args (option_cmp int_cmp)

-- by the items from number i on
abbrev pub keys_cmp : (i : ℕ) → List Bool → List ℤ → List ℤ → Ordering
keys_cmp i [] xs ys = Equal
keys_cmp i (least ∷ items) xs ys = ordering_then (value_cmp least (slice_get xs i) (slice_get ys i)) (keys_cmp (i + 1) items xs ys)

-- by the keys, and then by the games
abbrev pub answer_cmp : List Bool → GameAnswer → GameAnswer → Ordering
answer_cmp items a b = ordering_then (keys_cmp 0 items (keys_in a.what) (keys_in b.what)) (nat_cmp a.index b.index)
