-- A test of each square of the board in turn.
use Rattle.std.proofs.Common.{◌≡◌, ℕ, suc, ◌+◌, ◌-◌, ◌<◌, ◌≤◌, Bool, true, false, ◌∷◌, refl, arith}
use Rattle.std.specs.List.{list_any, range_with_len}
use Rattle.cq_geometry.specs.Squares.{squares}

-- one of the squares from i on passes
unfoldable pub any_from : (ℕ → Bool) → ℕ → Bool
any_from test i = list_any test (range_with_len i (64 - i))

pub any_from-start : (test : ℕ → Bool) → any_from test 0 ≡ list_any test squares
unfolding squares any_from
any_from-start test = refl

range-more : (i : ℕ) → i < 64 → range_with_len i (64 - i) ≡ i ∷ range_with_len (i + 1) (64 - (i + 1))
range-more i lt = let e : 64 - i ≡ suc (64 - (i + 1)) = omega arith in rw e refl

pub any_from-here : (test : ℕ → Bool) (i : ℕ) → i < 64 → test i ≡ true → any_from test i ≡ true
unfolding any_from
any_from-here test i lt e = rw (range-more i lt, e) refl

pub any_from-next : (test : ℕ → Bool) (i : ℕ) → i < 64 → test i ≡ false → any_from test i ≡ any_from test (i + 1)
unfolding any_from
any_from-next test i lt e = rw (range-more i lt, e) refl

pub any_from-end : (test : ℕ → Bool) (i : ℕ) → 64 ≤ i → any_from test i ≡ false
unfolding any_from
any_from-end test i le = let e : 64 - i ≡ 0 = omega arith in rw e refl
