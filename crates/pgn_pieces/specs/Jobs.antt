-- The job that the command words name.
use Rattle.std.specs.Prelude.{◌≡◌, ◌⊎◌, ℕ, true, List, [], Option, Some, None, Result, Ok, Err, codes, if◌then◌else◌}
use Rattle.std.specs.Prelude.{option_map, option_and_then}
use Rattle.std.specs.Str.Parse.{digits_value, without_leading_plus}
use Rattle.clap.specs.Walk.{Row, Text, first_of, is_empty, rows_of}
use Rattle.clap.specs.ValueTests.{is_unsigned_in}
use Rattle.clap.specs.Simple.{matches_of}
use Rattle.clap.specs.Takes.{takes}
use Rattle.clap.specs.Faults.{fault_of}
use Rattle.clap.specs.Matches.{found_of}
use Rattle.clap.specs.declared.parser.matches.ArgMatches.{ArgMatches}
use Rattle.cq_common.specs.declared.faults.Refusal.{Refusal}
use Rattle.cq_common.specs.declared.faults.Refusal.TheVariants.{Fault, NoMemory}
use Rattle.pgn_pieces.specs.declared.job.Job.{Job}
use Rattle.pgn_pieces.specs.declared.job.WordsRefused.{WordsRefused}
use Rattle.pgn_pieces.specs.Line.{line}

-- the number from 1 to 2^40 that a text spells; none if it spells none
abbrev pub number_of : Text → Option ℕ
number_of text = if is_unsigned_in 1 1099511627776 text then Some (digits_value 10 (without_leading_plus text)) else None

-- the job of matches
abbrev pub job_in : List Row → Option Job
job_in rows = option_and_then (λ archive. option_map (λ least. record { archive = archive; least = least })
    (option_and_then number_of (first_of (codes "bytes") rows))) (first_of (codes "archive") rows)

-- the job of words of which `clap` promises matches; none if it promises a fault
abbrev pub job_of_words : List Text → Option Job
job_of_words words = if is_empty (fault_of line words) then job_in (matches_of line words) else None

-- the result of a call on the words of a job, or of none: the job, `WordsRefused`, or out of memory
abbrev pub Answers : Option Job → Result Job (Refusal WordsRefused) → Type 0
Answers asked (Ok found) = asked ≡ Some found
Answers asked (Err (Fault refused)) = asked ≡ None
Answers asked (Err NoMemory) = Unit {0}

-- The words name this job, or none: by the matches that `clap` promises if it promises to take them, or by the faults that it finds in
-- them.
abbrev pub Asks : List Text → Option Job → Type 0
Asks words job = ((takes line words ≡ true) × (job_in (matches_of line words) ≡ job)) ⊎ (job_of_words words ≡ job)

-- the words have no fault, and these are their matches
abbrev pub HasMatches : List Text → ArgMatches → Type 0
HasMatches words found = (fault_of line words ≡ []) × (rows_of (found_of found) ≡ matches_of line words)

-- unless out of memory, the words have a fault, and `clap` does not promise to take them
abbrev pub IsRefused : List Text → Refusal WordsRefused → Type 0
IsRefused words (Fault refused) = (fault_of line words ≡ [] → ⊥) × (takes line words ≡ true → ⊥)
IsRefused words NoMemory = Unit {0}
