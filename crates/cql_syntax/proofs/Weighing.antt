-- The invariant of a loop over parts: their weight.
use Rattle.std.proofs.Common.{◌≡◌, ℕ, ◌+◌, ◌^◌, ◌≤◌, arith}
use Rattle.cql_syntax.specs.Weights.{capped}

-- the total so far, the weight of the parts that are left, and the weight of all of them
pub record IsPartOf (total rest whole : ℕ) : Type 0 where
  pub bounded : total ≤ 2 ^ 18 + 1
  pub joined : capped (total + rest) ≡ capped whole

-- after one more part
pub next_part : (total part rest whole weight sum : ℕ) → IsPartOf total (part + rest) whole → weight ≡ capped part → sum ≡ capped (total + weight)
    → IsPartOf sum rest whole
next_part total part rest whole weight sum before weighed summed = record {
  bounded = omega (arith, summed);
  joined = omega (arith, before.bounded, before.joined, weighed, summed);
}
