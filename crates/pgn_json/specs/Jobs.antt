-- The job that the command words name.
use Rattle.std.specs.Prelude.{◌≡◌, ◌⊎◌, ◌≤◌, ℕ, true, List, [], Option, Some, None, Result, Ok, Err, codes, if◌then◌else◌}
use Rattle.std.specs.Prelude.{option_map, option_and_then, unwrap_or}
use Rattle.std.specs.Str.Parse.{digits_value, without_leading_plus}
use Rattle.clap.specs.Walk.{Row, Text, first_of, is_empty, rows_of}
use Rattle.clap.specs.ValueTests.{is_unsigned_in}
use Rattle.clap.specs.Simple.{matches_of}
use Rattle.clap.specs.Takes.{takes}
use Rattle.clap.specs.Faults.{fault_of}
use Rattle.clap.specs.Matches.{found_of}
use Rattle.clap.specs.declared.parser.matches.ArgMatches.{ArgMatches}
use Rattle.cq_common.specs.declared.faults.Refusal.{Refusal}
use Rattle.cq_common.specs.declared.faults.Refusal.TheVariants.{Fault, NoMemory}
use Rattle.pgn_json.specs.declared.job.Job.{Job}
use Rattle.pgn_json.specs.declared.job.WordsRefused.{WordsRefused}
use Rattle.pgn_json.specs.Line.{line}

-- the number that a text spells; none if it spells no number of the range
abbrev pub number_of : ℕ → ℕ → Text → Option ℕ
number_of least most text = if is_unsigned_in least most text then Some (digits_value 10 (without_leading_plus text)) else None

-- the number that an option gives, or its default
abbrev pub number_or : ℕ → ℕ → Option Text → Option ℕ
number_or default most None = Some default
number_or default most (Some text) = number_of 1 most text

-- the name of the archive, which is standard input if no word gives one
abbrev pub archive_in : List Row → Text
archive_in rows = unwrap_or (first_of (codes "archive") rows) (codes "-")

-- the comment that marks
abbrev pub mark_in : List Row → Text
mark_in rows = unwrap_or (first_of (codes "mark") rows) (codes "CQL")

-- the job of matches
abbrev pub job_in : List Row → Option Job
job_in rows = option_and_then (λ workers. option_map (λ limit.
    record { archive = archive_in rows; mark = mark_in rows; workers = workers; limit = limit })
    (number_or 1099511627776 1099511627776 (first_of (codes "limit") rows))) (number_or 4 64 (first_of (codes "workers") rows))

-- the job of words of which `clap` promises matches; none if it promises a fault
abbrev pub job_of_words : List Text → Option Job
job_of_words words = if is_empty (fault_of line words) then job_in (matches_of line words) else None

-- the result of a call on the words of a job, or of none: the job, `WordsRefused`, or out of memory
abbrev pub Answers : Option Job → Result Job (Refusal WordsRefused) → Type 0
Answers asked (Ok found) = asked ≡ Some found
Answers asked (Err (Fault refused)) = asked ≡ None
Answers asked (Err NoMemory) = Unit {0}

-- each number of a job is in its range
abbrev pub IsInRange : Job → Type 0
IsInRange job = (1 ≤ job.workers) × (job.workers ≤ 64) × (1 ≤ job.limit) × (job.limit ≤ 1099511627776)

-- The words name this job, or none: by the matches that `clap` promises if it promises to take them, or by the faults that it finds in
-- them.
abbrev pub Asks : List Text → Option Job → Type 0
Asks words job = ((takes line words ≡ true) × (job_in (matches_of line words) ≡ job)) ⊎ (job_of_words words ≡ job)

-- the words have no fault, and these are their matches
abbrev pub HasMatches : List Text → ArgMatches → Type 0
HasMatches words found = (fault_of line words ≡ []) × (rows_of (found_of found) ≡ matches_of line words)

-- unless out of memory, the words have a fault, and `clap` does not promise to take them
abbrev pub IsRefused : List Text → Refusal WordsRefused → Type 0
IsRefused words (Fault refused) = (fault_of line words ≡ [] → ⊥) × (takes line words ≡ true → ⊥)
IsRefused words NoMemory = Unit {0}
