-- Counting the matches of a query, batch by batch.
use Rattle.std.proofs.Common.{◌≡◌, inl, inr, ℕ, ◌+◌, ◌^◌, ℤ, List, [], ◌∷◌, ◌++◌, length, length-append, append_assoc, append-nil, take, Some, ◌<◌, ◌≤◌, arith, refl, ap, sym, ◌∙◌, cond, subst, Ok, Err}
use Rattle.std.specs.List.{flat_map}
use Rattle.std.proofs.lemmas.Grind.{flat_map-append}
use Rattle.std.proofs.lemmas.List.Concat.{length-flat_map}
use Rattle.std.proofs.lemmas.List.Sums.{count_by-le-length}
use Rattle.std.proofs.lemmas.List.Sorted.{sum_by-IsPermutation}
use Rattle.pgn_batches.specs.Games.{games_of, number_of}
use Rattle.pgn_batches.specs.KeptGames.{KeptGames}
use Rattle.pgn_batches.specs.Visits.{HasVisitCause, ReadsAll, IsVisitResult}
use Rattle.pgn_batches.specs.Whole.{cut_games}
use Rattle.pgn_batches.specs.declared.batch.Batch.{Batch}
use Rattle.pgn_batches.specs.declared.state.BatchFault.{BatchFault}
use Rattle.pgn_batches.specs.declared.state.BatchFault.TheVariants.{ReadFault, ArchiveTooLong}
use Rattle.cq_outside.specs.Faults.{Rose}
use Rattle.cq_common.specs.declared.faults.Refusal.TheVariants.{Fault}
use Rattle.cq_shards.specs.Answers.{AnswersBatch, answers_from, found_in, text_of}
use Rattle.cq_shards.specs.ReadResults.{ReadResult}
use Rattle.cq_shards.specs.declared.answers.Answer.TheVariants.{Match, Miss, Refused}
use Rattle.cq_shards.specs.declared.answers.GameAnswer.{GameAnswer}
use Rattle.cql_syntax.specs.Hits.{marked}
use Rattle.cql_syntax.specs.Trees.{QueryTree}
use Rattle.pgn_cut.specs.Cut.{cut}
use Rattle.pgn_export.specs.Export.{export_text}
use Rattle.pgn_reader.specs.declared.fault.GameFault.{GameFault}
use Rattle.cq_search.specs.declared.tally.Tally.{Tally}
use Rattle.cq_search.specs.declared.totals.Totals.{Totals}
use Rattle.cq_search.specs.GameOutput.{export_if, is_match, is_refused}
use Rattle.cq_search.specs.Exports.{AreExports, matches_from}
use Rattle.cq_search.specs.Internal.ByBatches.{Laws}
use Rattle.cq_search.specs.ArchiveGames.{HasGames}
use Rattle.cq_search.specs.SelfRun.{AreTotals, totals_of}
use Rattle.cq_search.specs.Internal.Visits.{HaveReadResults, HasVisited}
use Rattle.cq_search.specs.Internal.Writing.{counted}
use Rattle.cq_search.proofs.AnswerPromise.{may_be}
use Rattle.cq_search.proofs.GameByGame.{InBatch, IsFound, answers_count, is_faulty, is_found, is_no_match, next_in, same_tally, tallied_more, tally_with}
use Rattle.cq_search.proofs.Exports.{texts_same}
use Rattle.cq_search.proofs.Given.{count_read, reads_archive}
use Rattle.cq_search.proofs.Known.{reading_on}

-- ---- one game

abbrev pub totals_with : ℕ → Tally → ℕ → Totals
totals_with bytes tally written = record { bytes = bytes; tally = tally; written = written }

same_totals : (bytes : ℕ) (t u : Tally) (m n : ℕ) → t ≡ u → m ≡ n → totals_with bytes t m ≡ totals_with bytes u n
same_totals bytes t u m n e f = cc

-- one game more, whose matches and faults, 0 or 1, and the bytes of whose export are given
abbrev pub with_one : Totals → ℕ → ℕ → ℕ → Totals
with_one before matched refused written =
    totals_with before.bytes (tally_with (before.tally.games + 1) (before.tally.matched + matched) (before.tally.refused + refused)) (before.written + written)

pub missed : (query : QueryTree) (r : ReadResult) (before : Totals) → Miss ≡ found_in query r → with_one before 0 0 0 ≡ counted query before r
missed query (Ok game) before is =
    let none = is_no_match query (Ok game) is in
    same_totals before.bytes _ _ _ _ (same_tally _ _ _ _ _ _ refl (ap (λ b. before.tally.matched + cond b 1 0) (sym none)) refl)
    (ap (λ b. before.written + length (cond b (export_text (marked query game)) [])) (sym none))
missed query (Err fault) before is = absurd cc

pub found : (query : QueryTree) (r : ReadResult) (before : Totals) (text : List ℕ) (values : List ℤ) (n : ℕ) → Match text values ≡ found_in query r → n ≡ length text
    → with_one before 1 0 n ≡ counted query before r
found query r before text values n is long =
    let one : IsFound query r text = is_found query r text values is in
    subst (λ o. with_one before 1 0 n ≡ counted query before o) (sym one.is)
    (same_totals before.bytes _ _ _ _
    (same_tally _ _ _ _ _ _ refl (ap (λ b. before.tally.matched + cond b 1 0) (sym one.some)) refl)
    (ap (λ k. before.written + k) long ∙ ap (λ t. before.written + length t) one.text_is
    ∙ ap (λ b. before.written + length (cond b (export_text (marked query one.game)) [])) (sym one.some)))

pub faulty : (query : QueryTree) (r : ReadResult) (before : Totals) (fault : GameFault) → Refused fault ≡ found_in query r → with_one before 0 1 0 ≡ counted query before r
faulty query r before fault is = subst (λ o. with_one before 0 1 0 ≡ counted query before o) (sym (is_faulty query r fault is)) refl

-- ---- the games of a batch

lengths_more : (query : QueryTree) (rs : List ReadResult) (r : ReadResult)
    → length (flat_map (export_if query) rs) + length (export_if query r) ≡ length (flat_map (export_if query) (rs ++ r ∷ []))
lengths_more query rs r =
    sym (ap length (flat_map-append (export_if query) rs (r ∷ [])) ∙ length-append (flat_map (export_if query) rs) (flat_map (export_if query) (r ∷ []))
    ∙ ap (λ l. length (flat_map (export_if query) rs) + length l) (append-nil (export_if query r)))

totals_more : (query : QueryTree) (bytes : ℕ) (rs : List ReadResult) (r : ReadResult) → counted query (totals_of query bytes rs) r ≡ totals_of query bytes (rs ++ r ∷ [])
totals_more query bytes rs r = same_totals bytes _ _ _ _ (sym (tallied_more query rs r)) (lengths_more query rs r)

-- one answer more
pub count_more : (query : QueryTree) (bytes : ℕ) (a : GameAnswer) (batch : InBatch query a) (totals new : Totals)
    → totals ≡ totals_of query bytes (batch.before ++ take (length batch.ys) batch.outcomes)
    → ((r : ReadResult) (n : ℕ) → a ≡ record { index = n; what = found_in query r } → new ≡ counted query totals r)
    → new ≡ totals_of query bytes (batch.before ++ take (length (batch.ys ++ a ∷ [])) batch.outcomes)
count_more query bytes a batch totals new so_far does =
    let next = next_in query a batch in
    let front = take (length batch.ys) batch.outcomes in
    does next.r (length batch.before + length batch.ys) next.answer ∙ ap (λ t. counted query t next.r) so_far
    ∙ totals_more query bytes (batch.before ++ front) next.r
    ∙ ap (totals_of query bytes) (append_assoc batch.before front (next.r ∷ []) ∙ ap (λ l. batch.before ++ l) (sym next.step))

-- ---- all batches

-- the exports are as long in any order
same_length : (query : QueryTree) (outcomes : List ReadResult) (exports : List ℕ) → AreExports query outcomes exports
    → length (flat_map (export_if query) outcomes) ≡ length exports
same_length query outcomes exports are =
    let here = matches_from query 0 outcomes in
    ap length (sym (texts_same query 0 outcomes)) ∙ length-flat_map (λ (a : GameAnswer). text_of a.what) here
    ∙ sym (sum_by-IsPermutation (λ (a : GameAnswer). length (text_of a.what)) here are.sorted are.same)
    ∙ sym (length-flat_map (λ (a : GameAnswer). text_of a.what) are.sorted) ∙ sym (ap length are.is)

-- the totals of the games that were taken
abbrev pub CountedIn : QueryTree → ℕ → Totals → KeptGames → Type 0
CountedIn query bytes totals games = HaveReadResults games (λ outcomes. totals ≡ totals_of query bytes outcomes)

-- by the query after the call, which is the query before it
pub counted_now : (was now : QueryTree) (bytes : ℕ) (totals : Totals) (games : KeptGames) → HasVisited was now games (λ outcomes. totals ≡ totals_of was bytes outcomes)
    → CountedIn now bytes totals games
counted_now was now bytes totals games taken = subst (λ q. CountedIn q bytes totals games) (sym taken.same) taken.reading

pub count_few : (query : QueryTree) (bytes : ℕ) (totals : Totals) (games : KeptGames) (batch : Batch) (answers : List GameAnswer) → CountedIn query bytes totals games
    → number_of batch ≡ length games → AnswersBatch query batch answers → totals.tally.games + length answers < 2 ^ 62
count_few query bytes totals games batch answers at index answered =
    let counts : totals.tally.games ≡ length at.outcomes = ap (λ (t : Totals). t.tally.games) at.holds in
    let before = count_read games at.outcomes at.are_read in
    let long : length answers ≡ length answered.outcomes = ap length answered.are ∙ answers_count query (number_of batch) answered.outcomes in
    let read = count_read (games_of batch) answered.outcomes answered.are_read in
    let most = batch.numbers in
    omega (arith, counts, before, long, read, most, index)

-- the totals count no more than the games
pub count_within : (query : QueryTree) (bytes : ℕ) (totals : Totals) (games : KeptGames) → CountedIn query bytes totals games
    → (totals.tally.matched ≤ totals.tally.games) × (totals.tally.refused ≤ totals.tally.games)
count_within query bytes totals games at = (
  subst (λ (t : Totals). t.tally.matched ≤ t.tally.games) (sym at.holds) (count_by-le-length (is_match query) at.outcomes),
  subst (λ (t : Totals). t.tally.refused ≤ t.tally.games) (sym at.holds) (count_by-le-length is_refused at.outcomes),
)

-- and those of a batch
pub counted_on : (query : QueryTree) (bytes : ℕ) (totals new : Totals) (games : KeptGames) (batch : Batch) (answers : List GameAnswer)
    → (at : CountedIn query bytes totals games) → number_of batch ≡ length games → (answered : AnswersBatch query batch answers)
    → (answers ≡ answers_from query (length at.outcomes) answered.outcomes → totals ≡ totals_of query bytes at.outcomes
    → new ≡ totals_of query bytes (at.outcomes ++ answered.outcomes)) → CountedIn query bytes new (games ++ games_of batch)
counted_on query bytes totals new games batch answers at index answered counts =
    let are = answered.are ∙ ap (λ n. answers_from query n answered.outcomes) (index ∙ count_read games at.outcomes at.are_read) in
    reading_on games batch (λ outcomes. totals ≡ totals_of query bytes outcomes) (λ outcomes. new ≡ totals_of query bytes outcomes) at answered.outcomes answered.are_read
    (counts are at.holds)

-- all games were counted
pub all_counted : Laws → (query : QueryTree) (archive front after : List ℕ) (limit : ℕ) (totals : Totals) → ReadsAll limit (Some archive) (Some after) front
    → CountedIn query (length archive) totals (cut_games front) → AreTotals query archive totals
all_counted laws query archive front after limit totals reads at =
    let same : archive ≡ front = may_be (Some archive) (Some after) front reads.takes reads.at_end in
    record {
      outcomes = at.outcomes;
      holds = subst (λ a. HasGames a at.outcomes) (sym same) (reads_archive laws front (cut front) at.outcomes at.are_read);
      bytes = ap (λ (t : Totals). t.bytes) at.holds;
      tally = ap (λ (t : Totals). t.tally) at.holds;
      written = ap (λ (t : Totals). t.written) at.holds;
      as_run = λ exports are. ap (λ (t : Totals). t.written) at.holds ∙ same_length query at.outcomes exports are;
    }

-- a source in memory never fails, and its bytes are not too many
none_rose : Rose 0 0 → ⊥
none_rose (inl less) = omega (arith, less)
none_rose (inr last) = omega (arith, last)

none_too_long : (archive front after : List ℕ) (limit : ℕ) → archive ≡ front ++ after → length archive ≤ limit → limit < length front → ⊥
none_too_long archive front after limit is low long =
    let parts = length-append front after in
    let lengths : length archive ≡ length (front ++ after) = ap length is in
    omega (arith, parts, lengths, low, long)

pub never_faults : {X : Type 0} (archive after : List ℕ) (limit : ℕ) (fault : BatchFault) (HasVisited : KeptGames → Type 0) (Stopped : KeptGames → KeptGames → X → Type 0)
    → length archive ≤ limit → IsVisitResult limit (Some archive) (Some after) HasVisited Stopped (Err (Fault fault)) → HasVisitCause {X = X} 0 0 (Err (Fault fault)) → ⊥
never_faults archive after limit ReadFault HasVisited Stopped low says cause = none_rose cause
never_faults archive after limit ArchiveTooLong HasVisited Stopped low says cause = none_too_long archive says.front after limit says.reads.takes low says.count
