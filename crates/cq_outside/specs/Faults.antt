-- Counts of faults, and the causes of failures.
use Rattle.std.specs.Prelude.{◌≡◌, ◌⊎◌, ℕ, ◌<◌, ◌≤◌, ◌+◌, ◌-◌, ◌^◌, min, Result, Ok, Err, OnOk, OnErr, is_ok, if◌then◌else◌}
use Rattle.cq_common.specs.declared.faults.Refusal.{Refusal}
use Rattle.cq_common.specs.declared.faults.Refusal.TheVariants.{Fault, NoMemory}

-- a count rose: it is greater than before, or at the last value of a counter
abbrev pub Rose : ℕ → ℕ → Type 0
Rose before now = (before < now) ⊎ (2 ^ 64 - 1 ≤ now)

-- the count of faults of one object around one call: it never falls, it rises if the call fails, and it is the same otherwise
pub record HasCause {T E : Type 0} (before now : ℕ) (result : Result T E) : Type 0 where
  pub later : before ≤ now
  pub failed : OnErr result (Rose before now)
  pub same : OnOk result (now ≡ before)

-- the same around a call that can also run out of memory: the count rises if the result is a fault, and is the same otherwise
abbrev pub HasRefusalCause : {T F : Type 0} → ℕ → ℕ → Result T (Refusal F) → Type 0
HasRefusalCause before now (Ok _) = now ≡ before
HasRefusalCause before now (Err (Fault _)) = (before ≤ now) × Rose before now
HasRefusalCause before now (Err NoMemory) = now ≡ before

-- a count after a call that can fail: it rises by one if the call fails, up to the last value of a u64
abbrev pub counted : {T E : Type 0} → ℕ → Result T E → ℕ
counted before result = if is_ok result then before else min (before + 1) (2 ^ 64 - 1)
