-- The laws on which the search batch by batch relies: those of cuts and of batches, and those of reading.
use Rattle.std.specs.Prelude.{◌≡◌, ◌↔◌, ℕ, ◌+◌, Bool, List, take}
use Rattle.pgn_batches.specs.Laws.{Laws as BatchLaws}
use Rattle.pgn_reader.specs.Limits.{longest}
use Rattle.pgn_reader.specs.Verdict.{IsReadResult}
use Rattle.cq_shards.specs.ReadResults.{ReadResult}

-- all games have outcomes
abbrev pub HaveOutcomes : Type 0
HaveOutcomes = (start : ℕ) (first : Bool) (bytes : List ℕ) → (outcome : ReadResult) × IsReadResult start first bytes outcome

-- and one each
abbrev pub HaveOneOutcome : Type 0
HaveOneOutcome = (start : ℕ) (first : Bool) (bytes : List ℕ) (a b : ReadResult)
    → IsReadResult start first bytes a → IsReadResult start first bytes b → a ≡ b

pub record Laws : Type 0 where
  pub batches : BatchLaws
  pub have : HaveOutcomes
  pub one : HaveOneOutcome
  pub decide : (start : ℕ) (first : Bool) (bytes : List ℕ) (outcome : ReadResult) → IsReadResult start first (take (longest + 1) bytes) outcome
      ↔ IsReadResult start first bytes outcome
