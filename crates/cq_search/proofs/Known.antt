-- The part of an archive that was read, and the results of reading its first games.
use Rattle.std.proofs.Common.{◌≡◌, ◌⊎◌, ℕ, ◌+◌, List, [], ◌++◌, append_assoc, append-nil, map, ap, sym, ◌∙◌, subst}
use Rattle.std.proofs.lemmas.List.{map-append, take-append-drop}
use Rattle.std.proofs.lemmas.Grind.{flat_map-append}
use Rattle.std.specs.Prelude.{take, drop}
use Rattle.pgn_batches.specs.Batching.{flat, full_batches, left_over}
use Rattle.pgn_batches.specs.Games.{games_of}
use Rattle.pgn_batches.specs.KeptGames.{KeptGames, kept}
use Rattle.pgn_batches.specs.Visits.{AreLeadingGames, Gives, Reads, ReadsAll}
use Rattle.pgn_batches.specs.Whole.{closed_games, cut_games, whole, whole_spans}
use Rattle.pgn_batches.specs.declared.batch.Batch.{Batch}
use Rattle.cq_outside.specs.Flow.{TakesAtMost}
use Rattle.pgn_cut.specs.Cut.{cut, closed}
use Rattle.pgn_cut.specs.declared.span.Span.{Span}
use Rattle.cq_shards.specs.ReadResults.{ReadResult, AreReadResults}
use Rattle.cq_search.specs.Internal.ByBatches.{Laws}
use Rattle.cq_search.specs.ArchiveGames.{AreRead, HasGames}
use Rattle.cq_search.specs.Promise.{SearchCall}
use Rattle.cq_search.specs.Internal.Visits.{HaveReadResults}
use Rattle.pgn_batches.proofs.Given.{full_grows}
use Rattle.cq_search.proofs.Given.{Rest, kept_read_on, reads_archive, rest_of, whole_are}

pub record Known (call : SearchCall) : Type 0 where
  pub front : List ℕ
  pub games : KeptGames
  pub outcomes : List ReadResult
  pub reads : Reads call.limit call.source.left call.source_after.left front
  pub first : AreLeadingGames games (whole front) ⊎ (ReadsAll call.limit call.source.left call.source_after.left front × AreLeadingGames games (cut_games front))
  pub are_read : AreReadResults games outcomes

abbrev pub known_of : (call : SearchCall) (games batch : KeptGames) (outcomes : List ReadResult) → Gives call.limit call.source.left call.source_after.left games batch
    → AreReadResults (games ++ batch) outcomes → Known call
known_of call games batch outcomes gives read = record {
  front = gives.front;
  games = games ++ batch;
  outcomes = outcomes;
  reads = gives.reads;
  first = gives.first;
  are_read = read;
}

-- if no batch is left out, the games are those that were taken
pub with_none : (games : KeptGames) (outcomes : List ReadResult) → AreReadResults games outcomes → AreReadResults (games ++ []) outcomes
with_none games outcomes read = subst (λ gs. AreReadResults gs outcomes) (sym (append-nil games)) read

pub takes_some : (call : SearchCall) (front : List ℕ) → Reads call.limit call.source.left call.source_after.left front
    → TakesAtMost (call.limit + 1) call.source.left call.source_after.left
takes_some call front reads = record { bytes = front; takes = reads.takes; few = reads.few }

-- ---- the games that follow

-- the results of reading the games that were taken, and those of a batch
pub reading_on : (games : KeptGames) (batch : Batch) (Before After : List ReadResult → Type 0) → (at : HaveReadResults games Before) → (qs : List ReadResult) → AreReadResults (games_of batch) qs
    → After (at.outcomes ++ qs) → HaveReadResults (games ++ games_of batch) After
reading_on games batch Before After at qs read holds = record {
  outcomes = at.outcomes ++ qs;
  are_read = kept_read_on games (games_of batch) at.outcomes qs at.are_read read;
  holds = holds;
}

-- and more that follows of it
pub reading_as : (games : KeptGames) (Before After : List ReadResult → Type 0) → ((outcomes : List ReadResult) → Before outcomes → After outcomes) → HaveReadResults games Before
    → HaveReadResults games After
reading_as games Before After follows at = record { outcomes = at.outcomes; are_read = at.are_read; holds = follows at.outcomes at.holds }

-- the results of reading the other games of some spans
pub record ReadOn (archive : List ℕ) (spans : List Span) (outcomes : List ReadResult) : Type 0 where
  pub more : List ReadResult
  pub are_read : AreRead archive spans (outcomes ++ more)

pub read_on : Laws → (archive : List ℕ) (spans : List Span) (games : KeptGames) (outcomes : List ReadResult) → AreLeadingGames games (map (kept archive) spans) → AreReadResults games outcomes
    → ReadOn archive spans outcomes
read_on laws archive spans games outcomes (others, are) read =
    let rest : Rest others = rest_of laws.have others in record {
      more = rest.outcomes;
      are_read = reads_archive laws archive spans (outcomes ++ rest.outcomes)
          (subst (λ gs. AreReadResults gs (outcomes ++ rest.outcomes)) (sym are) (kept_read_on games others outcomes rest.outcomes read rest.are_read));
    }

-- the first games of the whole batches are the first closed ones
pub first_closed : Laws → (front : List ℕ) (games : KeptGames) → AreLeadingGames games (whole front) → AreLeadingGames games (closed_games front)
first_closed laws front games (rest, are) = (
  rest ++ left_over (closed_games front),
  sym (laws.batches.all (closed_games front)) ∙ ap (λ l. l ++ left_over (closed_games front)) are ∙ append_assoc games rest (left_over (closed_games front)),
)

pub first_spans : Laws → (front : List ℕ) (games : KeptGames) → AreLeadingGames games (whole front) → AreLeadingGames games (map (kept front) (whole_spans front))
first_spans laws front games (rest, are) = (rest, sym (whole_are laws front) ∙ are)

-- the whole batches of the first bytes are the first ones of all of them
pub whole_first : Laws → (front more : List ℕ) → AreLeadingGames (whole front) (whole (front ++ more))
whole_first laws front more =
    let f = full_grows laws.batches front more in
    (flat f.0, ap flat f.1 ∙ flat_map-append (λ (x : KeptGames). x) (full_batches (closed_games front)) f.0)

pub whole_begins : Laws → (k : ℕ) (front : List ℕ) → AreLeadingGames (whole (take k front)) (whole front)
whole_begins laws k front = subst (λ f. AreLeadingGames (whole (take k front)) (whole f)) (take-append-drop k front) (whole_first laws (take k front) (drop k front))

-- and of all games
pub cut_begins : Laws → (k : ℕ) (front : List ℕ) → AreLeadingGames (whole (take k front)) (cut_games front)
cut_begins laws k front =
    let c = laws.batches.cuts front in
    let first = first_closed laws front (whole (take k front)) (whole_begins laws k front) in
    let last = map (kept front) c.0 in (
      first.0 ++ last,
      ap (map (kept front)) c.1 ∙ map-append (kept front) (closed front) c.0 ∙ ap (λ l. l ++ last) first.1 ∙ append_assoc (whole (take k front)) first.0 last,
    )

-- ---- all games

pub record AllRead (call : SearchCall) (archive : List ℕ) (outcomes : List ReadResult) : Type 0 where
  pub reads : ReadsAll call.limit call.source.left call.source_after.left archive
  pub counts : call.source_after.faults ≡ call.source.faults
  pub are_read : HasGames archive outcomes

pub all_read : Laws → (call : SearchCall) (archive : List ℕ) (outcomes : List ReadResult) → ReadsAll call.limit call.source.left call.source_after.left archive
    → call.source_after.faults ≡ call.source.faults → AreReadResults (cut_games archive) outcomes → AllRead call archive outcomes
all_read laws call archive outcomes reads counts read = record { reads = reads; counts = counts; are_read = reads_archive laws archive (cut archive) outcomes read }
