-- Of two answers one at most comes before the other.
use Rattle.std.proofs.Common.{◌≡◌, inl, inr, ℕ, ◌<◌, ℤ, pos, Bool, true, false, List, take, get_or, refl, sym, ap, subst, ◌∙◌, arith}
use Rattle.std.proofs.lemmas.Cmp.{ranked}
use Rattle.std.proofs.lemmas.List.{get_or-take}
use Rattle.std.specs.Cmp.{int_chain}
use Rattle.std.specs.Int.Signed.{<ℤ_irrefl}
use Rattle.std.specs.List.Sorted.{IsPermutation}
use Rattle.std.specs.Ordering.{nat_cmp}
use Rattle.std.specs.Prelude.{◌<ℤ◌, AllPairs}
use Rattle.std.specs.declared.cmp.Ordering.{Ordering}
use Rattle.std.specs.declared.cmp.Ordering.TheVariants.{Less, Equal, Greater}
use Rattle.cq_shards.specs.declared.answers.GameAnswer.{GameAnswer}
use Rattle.cq_shards.specs.Order.{ComesBefore, ComesFirst, IsEarlier, Precede, key_at, keys_in}
use Rattle.cq_shards.proofs.OnlyOrder.{only_order}

earlier_one_way : (a b : GameAnswer) → IsEarlier a b → IsEarlier b a → ⊥
earlier_one_way a b one other = omega (arith, one, other)

first_not_itself : (least : Bool) (x y : ℤ) → x ≡ y → ComesFirst least x y → ⊥
first_not_itself true x y same first = <ℤ_irrefl (subst (λ z. z <ℤ y) same first)
first_not_itself false x y same first = <ℤ_irrefl (subst (λ z. y <ℤ z) same first)

first_one_way : (least : Bool) (x y : ℤ) → ComesFirst least x y → ComesFirst least y x → ⊥
first_one_way true x y one other = <ℤ_irrefl (int_chain x y x one other)
first_one_way false x y one other = <ℤ_irrefl (int_chain y x y one other)

same_before : (k i : ℕ) (xs ys : List ℤ) → k < i → take i xs ≡ take i ys → key_at xs k ≡ key_at ys k
same_before k i xs ys before same =
    sym (get_or-take i xs k (pos 0) before) ∙ ap (λ keys. get_or keys k (pos 0)) same ∙ get_or-take i ys k (pos 0) before

keys_one_way : (items : List Bool) (xs ys : List ℤ) (p : Precede items xs ys) (q : Precede items ys xs) (o : Ordering) → nat_cmp p.item q.item ≡ o → ⊥
keys_one_way items xs ys p q Less e =
    first_not_itself (get_or items p.item false) (key_at xs p.item) (key_at ys p.item)
    (sym (same_before p.item q.item ys xs (ranked p.item q.item Less (sym e)) q.alike)) p.first
keys_one_way items xs ys p q Equal e =
    let same = ranked p.item q.item Equal (sym e) in
    first_one_way (get_or items q.item false) (key_at xs q.item) (key_at ys q.item)
    (subst (λ k. ComesFirst (get_or items k false) (key_at xs k) (key_at ys k)) same p.first) q.first
keys_one_way items xs ys p q Greater e =
    first_not_itself (get_or items q.item false) (key_at ys q.item) (key_at xs q.item)
    (sym (same_before q.item p.item xs ys (ranked p.item q.item Greater (sym e)) p.alike)) q.first

same_keys : (items : List Bool) (xs ys : List ℤ) → xs ≡ ys → Precede items xs ys → ⊥
same_keys items xs ys same p =
    first_not_itself (get_or items p.item false) (key_at xs p.item) (key_at ys p.item) (ap (λ keys. key_at keys p.item) same) p.first

before_one_way : (items : List Bool) (a b : GameAnswer) → ComesBefore items a b → ComesBefore items b a → ⊥
before_one_way items a b (inl p) (inl q) = keys_one_way items (keys_in a.what) (keys_in b.what) p q _ refl
before_one_way items a b (inl p) (inr q) = same_keys items (keys_in a.what) (keys_in b.what) (sym q.0) p
before_one_way items a b (inr p) (inl q) = same_keys items (keys_in b.what) (keys_in a.what) (sym p.0) q
before_one_way items a b (inr p) (inr q) = earlier_one_way a b p.1 q.1

pub one_order : (xs ys : List GameAnswer) → IsPermutation xs ys → AllPairs IsEarlier xs → AllPairs IsEarlier ys → xs ≡ ys
one_order = only_order IsEarlier earlier_one_way

pub one_order_by_keys : (items : List Bool) (xs ys : List GameAnswer) → IsPermutation xs ys → AllPairs (ComesBefore items) xs → AllPairs (ComesBefore items) ys → xs ≡ ys
one_order_by_keys items = only_order (ComesBefore items) (before_one_way items)
