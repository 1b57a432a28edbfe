-- The jobs that command words name.
use Rattle.std.specs.Prelude.{◌≡◌, ◌≤◌, ◌||◌, ℕ, Bool, false, List, Option, Some, None, Result, Ok, Err, codes, is_some, if◌then◌else◌}
use Rattle.std.specs.Prelude.{option_map, option_and_then, unwrap_or}
use Rattle.std.specs.Str.{bytes_eq}
use Rattle.std.specs.Str.Parse.{digits_value, without_leading_plus}
use Rattle.clap.specs.Walk.{Row, Text, first_of}
use Rattle.clap.specs.Walk.{is_empty}
use Rattle.clap.specs.ValueTests.{is_unsigned_in}
use Rattle.clap.specs.Simple.{matches_of}
use Rattle.clap.specs.Faults.{fault_of}
use Rattle.cq_common.specs.declared.faults.Refusal.{Refusal}
use Rattle.cq_common.specs.declared.faults.Refusal.TheVariants.{Fault, NoMemory}
use Rattle.cq_words.specs.declared.job.Job.{Job}
use Rattle.cq_words.specs.declared.job.Job.TheVariants as job
use Rattle.cq_words.specs.declared.job.Settings.{Settings}
use Rattle.cq_words.specs.declared.job.SelfRunSettings.{SelfRunSettings}
use Rattle.cq_words.specs.declared.job.WordsRefused.{WordsRefused}
use Rattle.cq_words.specs.declared.mode.Mode.{Mode}
use Rattle.cq_words.specs.declared.mode.Mode.TheVariants as mode
use Rattle.cq_words.specs.Line.{line}

-- the mode that a word names
abbrev pub mode_of : Text → Option Mode
mode_of word =
    if bytes_eq word (codes "run") then Some mode.Run
    else (if bytes_eq word (codes "eval") then Some mode.Eval
    else (if bytes_eq word (codes "check") then Some mode.Check
    else (if bytes_eq word (codes "explain") then Some mode.Explain
    else (if bytes_eq word (codes "selfrun") then Some mode.SelfRun
    else (if bytes_eq word (codes "many") then Some mode.Many else None)))))

-- ---- the matches that are given

abbrev pub is_given : List Row → Text → Bool
is_given rows id = is_some (first_of id rows)

-- an option without a value is given
abbrev pub is_set_by : Option Text → Bool
is_set_by None = false
is_set_by (Some text) = bytes_eq text (codes "true")

abbrev pub is_set : List Row → Text → Bool
is_set rows id = is_set_by (first_of id rows)

-- the name of the archive, which is standard input if no word gives one
abbrev pub archive_in : List Row → Text
archive_in rows = unwrap_or (first_of (codes "archive") rows) (codes "-")

-- the number that a text spells; none if it spells no number of the range
abbrev pub number_of : ℕ → ℕ → Text → Option ℕ
number_of least most text = if is_unsigned_in least most text then Some (digits_value 10 (without_leading_plus text)) else None

-- the number that an option gives, or its default
abbrev pub number_or : ℕ → ℕ → ℕ → Option Text → Option ℕ
number_or default least most None = Some default
number_or default least most (Some text) = number_of least most text

abbrev pub workers_in : List Row → Option ℕ
workers_in rows = number_or 4 1 64 (first_of (codes "workers") rows)

abbrev pub seed_in : List Row → Option ℕ
seed_in rows = number_or 1 0 4294967295 (first_of (codes "seed") rows)

abbrev pub games_in : List Row → Option ℕ
games_in rows = number_or 100 0 100000 (first_of (codes "games") rows)

abbrev pub limit_in : List Row → Option ℕ
limit_in rows = number_or 1099511627776 1 1099511627776 (first_of (codes "limit") rows)

-- ---- the options of each mode

-- `run` and `eval` take `--workers`, `--limit` and `--first`
abbrev pub settings_in : List Row → Option Settings
settings_in rows =
    if is_given rows (codes "seed") || is_given rows (codes "games") then None
    else option_and_then
    (λ workers. option_map
    (λ limit. record { workers = workers; limit = limit; first = is_set rows (codes "first") }) (limit_in rows))
    (workers_in rows)

-- `many` takes `--workers` and `--limit`
abbrev pub many_settings_in : List Row → Option Settings
many_settings_in rows = if is_set rows (codes "first") then None else settings_in rows

-- `selfrun` takes `--workers`, `--seed` and `--games`, and no archive
abbrev pub self_run_settings_in : List Row → Option SelfRunSettings
self_run_settings_in rows =
    if is_given rows (codes "archive") || (is_given rows (codes "limit") || is_set rows (codes "first")) then None
    else option_and_then (λ workers. option_and_then (λ seed.
    option_map (λ games. record { seed = seed; games = games; workers = workers }) (games_in rows)) (seed_in rows)) (workers_in rows)

-- `check` and `explain` take neither an archive nor an option
abbrev pub has_more : List Row → Bool
has_more rows = is_given rows (codes "archive") || (is_given rows (codes "workers") || (is_given rows (codes "seed")
    || (is_given rows (codes "games") || (is_given rows (codes "limit") || is_set rows (codes "first")))))

abbrev pub job_by : Mode → Text → List Row → Option Job
job_by mode.Run query rows = option_map (λ s. job.Run query (archive_in rows) s) (settings_in rows)
job_by mode.Eval query rows = option_map (λ s. job.Eval query (archive_in rows) s) (settings_in rows)
job_by mode.Check query rows = if has_more rows then None else Some (job.Check query)
job_by mode.Explain query rows = if has_more rows then None else Some (job.Explain query)
job_by mode.SelfRun query rows = option_map (λ s. job.SelfRun query s) (self_run_settings_in rows)
job_by mode.Many queries rows = option_map (λ s. job.Many queries (archive_in rows) s) (many_settings_in rows)

-- the job of matches that keep the rules; none if they break one
abbrev pub job_in : List Row → Option Job
job_in rows = option_and_then (λ word. option_and_then (λ query.
    option_and_then (λ mode. job_by mode query rows) (mode_of word)) (first_of (codes "query") rows)) (first_of (codes "mode") rows)

-- ---- the words

-- The job of words of which `clap` promises matches that keep the rules. There is none if `clap` promises a fault, or the matches break a
-- rule.
abbrev pub job_of_words : List Text → Option Job
job_of_words words = if is_empty (fault_of line words) then job_in (matches_of line words) else None

-- the result of a call on the words of a job, or of none: the job, `WordsRefused`, or out of memory
abbrev pub Answers : {T : Type 0} → Option T → Result T (Refusal WordsRefused) → Type 0
Answers asked (Ok found) = asked ≡ Some found
Answers asked (Err (Fault refused)) = asked ≡ None
Answers asked (Err NoMemory) = Unit {0}

-- each number of settings is in its range
abbrev pub AreInRange : Settings → Type 0
AreInRange s = (1 ≤ s.workers) × (s.workers ≤ 64) × (1 ≤ s.limit) × (s.limit ≤ 1099511627776)

-- each number of a job is in its range
abbrev pub IsInRange : Job → Type 0
IsInRange (job.Run query archive s) = AreInRange s
IsInRange (job.Eval text archive s) = AreInRange s
IsInRange (job.Check query) = Unit {0}
IsInRange (job.Explain query) = Unit {0}
IsInRange (job.SelfRun text s) = (s.seed ≤ 4294967295) × (s.games ≤ 100000) × (1 ≤ s.workers) × (s.workers ≤ 64)
IsInRange (job.Many queries archive s) = AreInRange s
