-- The first place of a byte.
use Rattle.std.proofs.Common.{◌≡◌, ℕ, ◌<◌, Bool, List, length, Option, None, Some, arith}
use Rattle.std.specs.List.{position, position_or_len}
use Rattle.std.proofs.lemmas.List.Sums.{position_or_len_is}
use Rattle.std.proofs.lemmas.Bool.{false_from_ne_true}
use Rattle.std.proofs.lemmas.Bool.Decides.{nat_tests}
use Rattle.memchr.specs.Find.{IsFirstByte}

place_none : (test : ℕ → Bool) (hay : List ℕ) → position_or_len test hay ≡ length hay → None ≡ position test hay
place_none test hay e = grind (arith, nat_tests)

place_some : (test : ℕ → Bool) (hay : List ℕ) (k : ℕ) → position_or_len test hay ≡ k → k < length hay → Some k ≡ position test hay
place_some test hay k e h = grind (arith, nat_tests)

-- the place that is found as the first one that passes is the first place that passes
pub position-from_first : (test : ℕ → Bool) (hay : List ℕ) (r : Option ℕ) → IsFirstByte test hay r → r ≡ position test hay
position-from_first test hay None nowhere =
    place_none test hay (position_or_len_is test hay (length hay) 0 (omega arith) (λ k h. false_from_ne_true _ (nowhere k (omega arith) h)) (λ h. absurd (omega arith)))
position-from_first test hay (Some k) found =
    place_some test hay k
    (position_or_len_is test hay k 0 (omega (arith, found.0.high)) (λ i h. false_from_ne_true _ (found.0.before i (omega arith) h)) (λ h. found.1))
    found.0.high
