-- A number is in a range exactly if the tests say so.
use Rattle.std.proofs.Common.{◌≡◌, ℕ, ◌≤◌, Bool, true, false, ◌&&◌, refl, ap₂}
use Rattle.std.specs.Prelude.{nat_le}
use Rattle.std.proofs.lemmas.Bool.{leb-true, le-leb}
use Rattle.cq_common.specs.Range.{is_within}

pub left : (a b : Bool) → (a && b) ≡ true → a ≡ true
left true b e = refl
left false b e = e

pub right : (a b : Bool) → (a && b) ≡ true → b ≡ true
right true b e = e
right false b e = cc

pub is_from_to : (least most n : ℕ) → is_within least most n ≡ true → (least ≤ n) × (n ≤ most)
is_from_to least most n e = (leb-true least n (left (nat_le least n) (nat_le n most) e), leb-true n most (right (nat_le least n) (nat_le n most) e))

pub from_to_is : (least most n : ℕ) → least ≤ n → n ≤ most → is_within least most n ≡ true
from_to_is least most n low high = ap₂ (λ a b. a && b) (le-leb least n low) (le-leb n most high)
