-- A source in memory that gives its bytes in pieces, and some of whose reads fail.
use Rattle.std.specs.Prelude.{◌≡◌, ℕ, min, Bool, if◌then◌else◌, List, [], ◌∷◌, drop, length, Result, Ok, Err}
use Rattle.cq_outside.specs.Calls.{one_more, is_listed}
use Rattle.cq_common.specs.declared.faults.Failed.{Failed}

-- the bytes left, and the most bytes of one read; the numbers of the reads that fail; the counts of reads and of failed reads
pub record FailingSource : Type 0 where
  pub left : List ℕ
  pub piece : ℕ
  pub fails : List ℕ
  pub reads : ℕ
  pub faults : ℕ

-- true if the number of the next read, counted from 1, is listed
abbrev pub fails_next : FailingSource → Bool
fails_next source = is_listed source.fails (one_more source.reads)

-- the number of bytes that a read moves to a buffer of this length, if it does not fail
abbrev pub read_len : FailingSource → ℕ → ℕ
read_len source room = min (length source.left) (min source.piece room)

-- the result of the next read to a buffer of this length
abbrev pub result_of : FailingSource → ℕ → Result ℕ Failed
result_of source room = if fails_next source then Err (record {}) else Ok (read_len source room)

-- the source after one read to a buffer of this length
abbrev pub after_read : FailingSource → ℕ → FailingSource
after_read source room =
    if fails_next source
    then record source { reads = one_more source.reads; faults = one_more source.faults }
    else record source { reads = one_more source.reads; left = drop (read_len source room) source.left }

-- the source after reads to buffers of these lengths
abbrev pub after_reads : FailingSource → List ℕ → FailingSource
after_reads source [] = source
after_reads source (room ∷ rooms) = after_reads (after_read source room) rooms

-- a source after a list of reads, perhaps empty
abbrev pub Follows : FailingSource → FailingSource → Type 0
Follows before now = (rooms : List ℕ) × (now ≡ after_reads before rooms)
