-- The number that digits write, read one digit at a time.
use Rattle.std.proofs.Common.{◌≡◌, ℕ, suc, ◌+◌, ◌-◌, ◌*◌, ◌^◌, ◌<◌, ◌≤◌, true, List, length, drop, get_or, refl, sym, ◌∙◌, arith, lit<}
use Rattle.std.specs.List.{list_all}
use Rattle.std.proofs.Math.Nat.{pow-le-pow_right, pow-suc}
use Rattle.std.proofs.lemmas.Grind.{pow_more}
use Rattle.std.proofs.lemmas.Bool.Decides.{nat_tests}
use Rattle.std.proofs.lemmas.List.{drop_more}
use Rattle.cq_position.specs.Fen.{is_digit, value_of_digits}

-- the value so far and the rest of the text write the whole number
pub record IsReadTo (text : List ℕ) (i value : ℕ) : Type 0 where
  pub small : value < 10 ^ i
  pub digits : list_all is_digit (drop i text) ≡ list_all is_digit text
  pub whole : value * 10 ^ length (drop i text) + value_of_digits (drop i text) ≡ value_of_digits text

pub below_ten : (x : ℕ) → is_digit x ≡ true → x - 48 < 10
below_ten x is = grind (arith, nat_tests)

shifted : (v d p r : ℕ) → (10 * v + d) * p + r ≡ v * (p * 10) + (d * p + r)
shifted v d p r = omega arith

pub IsReadTo-more : (text : List ℕ) (i v d : ℕ) → i < length text → is_digit (get_or text i 0) ≡ true → d ≡ get_or text i 0 - 48 → IsReadTo text i v → IsReadTo text (i + 1) (10 * v + d)
IsReadTo-more text i v d lt is e r =
    let cut = drop_more text i 0 lt in
    let low : d < 10 = rw e (below_ten (get_or text i 0) is) in
    let digits : list_all is_digit (drop i text) ≡ list_all is_digit (drop (i + 1) text) = rw (cut, is) refl in
    let power : 10 ^ (i + 1) ≡ 10 ^ i * 10 = pow_more 10 i in
    let shift : 10 ^ suc (length (drop (i + 1) text)) ≡ 10 ^ length (drop (i + 1) text) * 10 = pow-suc 10 (length (drop (i + 1) text)) in
    record {
      small = omega arith;
      digits = sym digits ∙ r.digits;
      whole = rw (e, shifted, ← shift) (rw cut at r.whole);
    }

-- at most nine digits fit
pub fits_more : (i v d : ℕ) → i < 9 → v < 10 ^ i → d < 10 → 10 * v + d < 4294967296
fits_more i v d lt small low = let most : 10 ^ i ≤ 10 ^ 8 = pow-le-pow_right (lit< tt) {i = i} {j = 8} (omega arith) in omega arith
