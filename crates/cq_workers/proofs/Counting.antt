-- The number of times that a number is in a list with one more element, and the number of elements of such a list that meet a test.
use Rattle.std.proofs.Common.{◌≡◌, ◌≢◌, ℕ, ◌+◌, List, [], ◌∷◌, ◌++◌, ap, ◌∙◌, arith, Bool, false}
use Rattle.std.specs.Prelude.{count_by, nat_eq}
use Rattle.std.proofs.lemmas.List.Sums.{sum_by_push}
use Rattle.cq_board.specs.Draws.{times}
use Rattle.cq_board.proofs.Increasing.{one_if}

pub made_more : {X : Type 0} (p : X → Bool) (was now : List X) (x : X) → now ≡ was ++ x ∷ [] → count_by p now ≡ count_by p was + one_if (p x)
made_more p was now x more = ap (count_by p) more ∙ sum_by_push (λ y. one_if (p y)) was x

pub times_more : (x : ℕ) (was now : List ℕ) (k : ℕ) → now ≡ was ++ k ∷ [] → times x now ≡ times x was + one_if (nat_eq k x)
times_more x was now k more = made_more (λ y. nat_eq y x) was now k more

pub same_bool : (first k x index : ℕ) → index ≡ first + k → nat_eq index (first + x) ≡ nat_eq k x
same_bool first k x index is = grind arith

pub not_same : (k x : ℕ) → k ≢ x → nat_eq k x ≡ false
not_same k x differ = grind arith
