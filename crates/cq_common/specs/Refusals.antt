-- The results of calls that can also run out of memory.
use Rattle.std.specs.Prelude.{◌≡◌, Result, Ok, Err}
use Rattle.cq_common.specs.declared.faults.Refusal.{Refusal}
use Rattle.cq_common.specs.declared.faults.Refusal.TheVariants.{Fault, NoMemory}

-- the call's result by the definition is this fault; nothing is said if memory ran out
abbrev pub Refuses : {Y E : Type 0} → Refusal E → Result Y E → Type 0
Refuses (Fault fault) value = value ≡ Err fault
Refuses NoMemory value = Unit {0}

-- the call's result, as contracts view it, is this value or this fault; nothing is said if memory ran out
abbrev pub Gives : {X Y E : Type 0} → (X → Y) → Result X (Refusal E) → Result Y E → Type 0
Gives view (Ok x) value = value ≡ Ok (view x)
Gives view (Err refusal) value = Refuses refusal value
