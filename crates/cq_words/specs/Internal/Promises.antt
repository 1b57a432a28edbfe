-- The promises of `clap` on the words.
use Rattle.std.specs.Prelude.{◌≡◌, List, [], true}
use Rattle.clap.specs.Walk.{Text, rows_of}
use Rattle.clap.specs.Simple.{matches_of}
use Rattle.clap.specs.Takes.{takes}
use Rattle.clap.specs.Faults.{fault_of}
use Rattle.clap.specs.Matches.{found_of}
use Rattle.clap.specs.declared.parser.matches.ArgMatches.{ArgMatches}
use Rattle.cq_common.specs.declared.faults.Refusal.{Refusal}
use Rattle.cq_common.specs.declared.faults.Refusal.TheVariants.{Fault, NoMemory}
use Rattle.cq_words.specs.declared.job.WordsRefused.{WordsRefused}
use Rattle.cq_words.specs.Line.{line}

-- the words have no fault, and these are their matches
abbrev pub HasMatches : List Text → ArgMatches → Type 0
HasMatches words found = (fault_of line words ≡ []) × (rows_of (found_of found) ≡ matches_of line words)

-- unless out of memory, the words have a fault, and `clap` does not promise to take them
abbrev pub IsRefused : List Text → Refusal WordsRefused → Type 0
IsRefused words (Fault refused) = (fault_of line words ≡ [] → ⊥) × (takes line words ≡ true → ⊥)
IsRefused words NoMemory = Unit {0}
