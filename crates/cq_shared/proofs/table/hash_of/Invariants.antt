use Rattle.std.proofs.Common.{◌≡◌, ◌<◌, take}
use Rattle.cq_shared.specs.PartTables.{hash_bytes}
use Rattle.cq_shared.proofs.table.hash_of.Given as goal

abbrev pub invariant-loop-byte : goal.invariant-loop-byte
invariant-loop-byte l = record { value : l.mixed ≡ hash_bytes (take l.byte-index l.text); small : l.mixed < 4294967291 }
