-- The result of a search for bytes.
use Rattle.std.proofs.Common.{◌≡◌, ℕ, ◌≤◌, Bool, List, Option, None, Some, length, get_or, sym, arith}
use Rattle.std.specs.Option.{unwrap_or}
use Rattle.std.specs.List.{position_or_len}
use Rattle.std.proofs.lemmas.List.Sums.{position_or_len_is}
use Rattle.std.proofs.lemmas.Bool.{false_from_ne_true}
use Rattle.memchr.specs.Find.{IsFirstByte}

-- the result of a search, or the length, is the first place
pub place_found : (test : ℕ → Bool) (bytes : List ℕ) (r : Option ℕ) → IsFirstByte test bytes r → unwrap_or r (length bytes) ≡ position_or_len test bytes
place_found test bytes None nowhere =
    sym (position_or_len_is test bytes (length bytes) 0 (omega arith) (λ k lt. false_from_ne_true (test (get_or bytes k 0)) (nowhere k (omega arith) lt)) (λ lt. absurd (omega arith)))
place_found test bytes (Some i) found =
    let within = found.0.high in
    sym (position_or_len_is test bytes i 0 (omega arith) (λ k lt. false_from_ne_true (test (get_or bytes k 0)) (found.0.before k (omega arith) lt)) (λ lt. found.1))

-- and it is no more than the length
pub place_within : (test : ℕ → Bool) (bytes : List ℕ) (r : Option ℕ) → IsFirstByte test bytes r → unwrap_or r (length bytes) ≤ length bytes
place_within test bytes None nowhere = omega arith
place_within test bytes (Some i) found = let within = found.0.high in omega arith
