-- The views of sinks that were not written to.
use Rattle.std.proofs.Common.{ℕ, List, [], append-nil, Option, Some, None, sym}
use Rattle.cq_outside.specs.Flow.{Grew}

-- a sink that was not written to has taken nothing more
pub unwritten : (taken : Option (List ℕ)) → Grew taken taken []
unwritten None = tt
unwritten (Some bytes) = sym (append-nil bytes)
