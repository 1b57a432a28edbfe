-- A sink in memory that takes the bytes of a write in pieces, and some of whose writes fail.
use Rattle.std.specs.Prelude.{ℕ, min, Bool, if◌then◌else◌, List, length, take, Option, Result, Ok, Err}
use Rattle.cq_common.specs.declared.faults.Failed.{Failed}
use Rattle.cq_outside.specs.Calls.{one_more, is_listed}
use Rattle.cq_outside.specs.BoundedBytes.{taken_with}

-- The room, the bytes taken as long as they fit the room, and the most bytes of one write. The numbers of the writes that fail, and the
-- counts of writes and of failed writes.
pub record FailingSink : Type 0 where
  pub room : ℕ
  pub taken : Option (List ℕ)
  pub piece : ℕ
  pub fails : List ℕ
  pub writes : ℕ
  pub faults : ℕ

-- true if the number of the next write, counted from 1, is listed
abbrev pub fails_next : FailingSink → Bool
fails_next sink = is_listed sink.fails (one_more sink.writes)

-- the result of the next write of these bytes
abbrev pub result_of : FailingSink → List ℕ → Result ℕ Failed
result_of sink bytes = if fails_next sink then Err (record {}) else Ok (min sink.piece (length bytes))

-- the sink after one write of these bytes
abbrev pub after_write : FailingSink → List ℕ → FailingSink
after_write sink bytes =
    if fails_next sink
    then record sink { writes = one_more sink.writes; faults = one_more sink.faults }
    else record sink { writes = one_more sink.writes; taken = taken_with sink.room sink.taken (take (min sink.piece (length bytes)) bytes) }
