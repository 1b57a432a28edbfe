-- Comparisons item by item, each of which is an order.
use Rattle.std.proofs.Common.{◌≡◌, ℕ, ◌+◌, ◌<◌, ◌≤◌, ℤ, Bool, true, false, true≢false, List, [], ◌∷◌, length, drop, get_or, Option, refl, sym, ap, ◌∙◌}
use Rattle.std.proofs.lemmas.Cmp.{int_cmp_total, nat_cmp_total, on_total, then_total, back_total}
use Rattle.std.proofs.lemmas.List.{at_drop_more, at_drop_all}
use Rattle.std.specs.Cmp.{IsTotalOrder}
use Rattle.std.specs.Cmp.Lexicographic.{options_total}
use Rattle.std.specs.declared.cmp.Ordering.{Ordering}
use Rattle.std.specs.declared.cmp.Ordering.TheVariants.{Less, Equal, Greater}
use Rattle.std.specs.Ordering.{is_ne, ordering_then, ordering_reverse}
use Rattle.std.specs.Prelude.{slice_get}
use Rattle.cq_shards.specs.Internal.Comparing.{answer_cmp, keys_cmp, value_cmp}
use Rattle.cq_shards.specs.Order.{keys_in}

pub decided : (o rest : Ordering) → is_ne o ≡ true → ordering_then o rest ≡ o
decided Less rest e = refl
decided Equal rest e = absurd (true≢false (sym e))
decided Greater rest e = refl

pub tied : (o rest : Ordering) → is_ne o ≡ false → ordering_then o rest ≡ rest
tied Less rest e = absurd (true≢false e)
tied Equal rest e = refl
tied Greater rest e = absurd (true≢false e)

-- the comparison from item i on is that of item i, and then of those from the next one on
pub by_item : (items : List Bool) (xs ys : List ℤ) (i : ℕ) (d : Bool) → i < length items
    → keys_cmp i (drop i items) xs ys
    ≡ ordering_then (value_cmp (get_or items i d) (slice_get xs i) (slice_get ys i)) (keys_cmp (i + 1) (drop (i + 1) items) xs ys)
by_item items xs ys i d inside = at_drop_more (λ rest. keys_cmp i rest xs ys) items i d inside

pub no_item : (items : List Bool) (xs ys : List ℤ) (i : ℕ) → length items ≤ i → keys_cmp i (drop i items) xs ys ≡ Equal
no_item items xs ys i outside = at_drop_all (λ rest. keys_cmp i rest xs ys) items i outside

pub here : (items : List Bool) (xs ys : List ℤ) (i : ℕ) (d : Bool) (x y : Option ℤ) (order : Ordering) → i < length items → x ≡ slice_get xs i → y ≡ slice_get ys i
    → order ≡ value_cmp (get_or items i d) x y
    → keys_cmp i (drop i items) xs ys ≡ ordering_then order (keys_cmp (i + 1) (drop (i + 1) items) xs ys)
here items xs ys i d x y order inside first second is =
    by_item items xs ys i d inside
    ∙ ap (λ o. ordering_then o (keys_cmp (i + 1) (drop (i + 1) items) xs ys))
    (sym (is ∙ ap (λ v. value_cmp (get_or items i d) v y) first ∙ ap (value_cmp (get_or items i d) (slice_get xs i)) second))

value_total : (least : Bool) → IsTotalOrder (value_cmp least)
value_total true = options_total int_cmp_total
value_total false = back_total (options_total int_cmp_total)

keys_total : (i : ℕ) (items : List Bool) → IsTotalOrder (keys_cmp i items)
keys_total i [] = record { antisymm = λ xs ys. refl; trans = λ xs ys zs p q. p; congr = λ xs ys zs p. refl }
keys_total i (least ∷ items) = then_total (on_total (λ xs. slice_get xs i) (value_total least)) (keys_total (i + 1) items)

pub answer_total : (items : List Bool) → IsTotalOrder (answer_cmp items)
answer_total items = then_total (on_total (λ a. keys_in a.what) (keys_total 0 items)) (on_total (λ a. a.index) nat_cmp_total)

pub keys_turned : (items : List Bool) (xs ys : List ℤ) → keys_cmp 0 items xs ys ≡ Greater → keys_cmp 0 items ys xs ≡ Less
keys_turned items xs ys e = (keys_total 0 items).antisymm ys xs ∙ ap ordering_reverse e
