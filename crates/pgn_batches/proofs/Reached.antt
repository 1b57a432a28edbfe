-- The progress of a reading of an archive in batches.
use Rattle.std.proofs.Common.{◌≡◌, ◌⊎◌, ℕ, ◌+◌, ◌-◌, ◌≤◌, ◌<◌, Bool, true, false, List, [], ◌∷◌, ◌++◌, length, append-nil, take, Option, Some, ap, sym, ◌∙◌, arith, subst, inl, inr}
use Rattle.std.specs.Prelude.{slice_get}
use Rattle.std.proofs.lemmas.Bool.{cases_Bool}
use Rattle.std.proofs.lemmas.Option.{slice_get_within}
use Rattle.std.specs.Io.KnownBytes.{Consumes, IsAtEnd}
use Rattle.pgn_batches.specs.Games.{games_of, number_of}
use Rattle.pgn_batches.specs.declared.batch.Batch.{Batch}
use Rattle.pgn_batches.specs.declared.state.Batches.{Batches}
use Rattle.pgn_batches.specs.Batching.{batches, full_batches, flat}
use Rattle.pgn_batches.specs.Filling.{IsNeeded, most_read}
use Rattle.pgn_batches.specs.Laws.{Laws}
use Rattle.pgn_batches.specs.Queues.{IsNextBatch, IsBatchAt}
use Rattle.pgn_batches.specs.Streams.{Stands}
use Rattle.pgn_batches.specs.Whole.{closed_games, cut_games}
use Rattle.pgn_batches.specs.NextBatch.{Moves, GivesBatch}
use Rattle.pgn_batches.proofs.Filling.{consumes_none, consumes_on}
use Rattle.pgn_batches.proofs.Given.{flat_next, full_first, full_low, full_rises, given, given_full, given_stays, within_first}

-- the progress of a reading: the limit on its bytes, the batches, and the bytes left at its beginning and after it
pub record Place : Type 0 where
  pub limit : ℕ
  pub b : Batches
  pub left : Option (List ℕ)
  pub now : Option (List ℕ)

abbrev pub place_of : ℕ → Batches → Option (List ℕ) → Option (List ℕ) → Place
place_of limit b left now = record { limit = limit; b = b; left = left; now = now }

-- the place after some more was read
abbrev pub moved_to : Place → Batches → Option (List ℕ) → Place
moved_to place b now = place_of place.limit b place.left now

pub record Reached (place : Place) (front : List ℕ) (m : ℕ) : Type 0 where
  pub limit_ : place.b.limit ≡ place.limit
  pub takes : Consumes place.left place.now front
  pub few : length front ≤ place.limit + 1
  pub at_end : place.b.ended ≡ true → IsAtEnd place.now
  pub within : place.b.ended ≡ true → length front ≤ place.limit
  pub open_ : place.b.ended ≡ false → m ≤ length (full_batches (closed_games front))
  pub all : m ≤ length (batches (cut_games front))

pub true_not_false : (b : Bool) → b ≡ true → b ≡ false → ⊥
true_not_false b t f = let e : true ≡ false = sym t ∙ f in cc

within_open : (limit : ℕ) (was : Batches) (front : List ℕ) → was.limit ≡ limit → was.ended ≡ false → (was.ended ≡ true) ⊎ (length front ≤ was.limit) → length front ≤ limit
within_open limit was front same reads (inl over) = absurd (true_not_false was.ended over reads)
within_open limit was front same reads (inr few) = subst (λ k. length front ≤ k) same few

-- some bytes more: the batches given are the same
pub record Moved (place : Place) (front more : List ℕ) (m : ℕ) : Type 0 where
  pub reached : Reached place (front ++ more) m
  pub same : given (front ++ more) m ≡ given front m

moved_open : Laws → (place : Place) (now : Batches) (after : Option (List ℕ)) (front : List ℕ) (m : ℕ) (Given : List ℕ → ℕ → Type 0)
    → Stands place.b front m → Reached place front m → (moves : Moves place.b now place.now after Given) → place.b.ended ≡ false
    → Moved (moved_to place now after) front moves.bytes m
moved_open laws place now after front m Given stood r moves reads =
    let more = moves.bytes in
    let low = r.open_ reads in
    let rises = full_rises laws front more in
    let all = full_low laws (front ++ more) in
    record {
      reached = record {
        limit_ = moves.limit ∙ r.limit_;
        takes = consumes_on place.left place.now after front more r.takes moves.takes;
        few = subst (λ k. length (front ++ more) ≤ k + 1) r.limit_ (moves.few front m stood);
        at_end = moves.at_end;
        within = λ ends. within_open place.limit place.b (front ++ more) r.limit_ reads (moves.within front m stood ends);
        open_ = λ _. omega (arith, low, rises);
        all = omega (arith, low, rises, all);
      };
      same = given_stays laws front more m low;
    }

moved_ended : (place : Place) (now : Batches) (after : Option (List ℕ)) (front : List ℕ) (m : ℕ) (Given : List ℕ → ℕ → Type 0)
    → Stands place.b front m → Reached place front m → (moves : Moves place.b now place.now after Given) → place.b.ended ≡ true
    → Moved (moved_to place now after) front moves.bytes m
moved_ended place now after front m Given stood r moves over =
    let more = moves.bytes in
    let stays = moves.stays over in
    let same : front ++ more ≡ front = ap (λ l. front ++ l) stays.0 ∙ append-nil front in
    record {
      reached = record {
        limit_ = moves.limit ∙ r.limit_;
        takes = consumes_on place.left place.now after front more r.takes moves.takes;
        few = subst (λ f. length f ≤ place.limit + 1) (sym same) r.few;
        at_end = moves.at_end;
        within = λ _. subst (λ f. length f ≤ place.limit) (sym same) (r.within over);
        open_ = λ reads. absurd (true_not_false now.ended stays.1 reads);
        all = subst (λ f. m ≤ length (batches (cut_games f))) (sym same) r.all;
      };
      same = ap (λ f. given f m) same;
    }

moved_by : Laws → (place : Place) (now : Batches) (after : Option (List ℕ)) (front : List ℕ) (m : ℕ) (Given : List ℕ → ℕ → Type 0)
    → Stands place.b front m → Reached place front m → (moves : Moves place.b now place.now after Given) → (place.b.ended ≡ true) ⊎ (place.b.ended ≡ false)
    → Moved (moved_to place now after) front moves.bytes m
moved_by laws place now after front m Given stood r moves (inl over) = moved_ended place now after front m Given stood r moves over
moved_by laws place now after front m Given stood r moves (inr reads) = moved_open laws place now after front m Given stood r moves reads

pub moved : Laws → (place : Place) (now : Batches) (after : Option (List ℕ)) (front : List ℕ) (m : ℕ) (Given : List ℕ → ℕ → Type 0)
    → Stands place.b front m → Reached place front m → (moves : Moves place.b now place.now after Given) → Moved (moved_to place now after) front moves.bytes m
moved laws place now after front m Given stood r moves = moved_by laws place now after front m Given stood r moves (cases_Bool place.b.ended)

pub record Turned (place : Place) (front : List ℕ) (m : ℕ) (batch : Batch) : Type 0 where
  pub reached : Reached place front (m + 1)
  pub games : given front (m + 1) ≡ given front m ++ games_of batch
  pub index : number_of batch ≡ length (given front m)
  pub at : slice_get (batches (cut_games front)) m ≡ Some (games_of batch)

batch_cases : Laws → (b : Batches) (batch : Batch) (front : List ℕ) (m : ℕ) → IsNextBatch (closed_games front) m batch ⊎ (IsBatchAt (cut_games front) m batch × (b.ended ≡ true))
    → (slice_get (batches (cut_games front)) m ≡ Some (games_of batch)) × (number_of batch ≡ length (given front m)) × (b.ended ≡ false → m + 1 ≤ length (full_batches (closed_games front)))
batch_cases laws b batch front m (inl next) =
    let f = full_first laws front in
    let full = full_batches (closed_games front) in
    let less = slice_get_within full m (games_of batch) next.is in (
      subst (λ bs. slice_get bs m ≡ Some (games_of batch)) (sym f.1) (within_first full f.0 m (games_of batch) next.is),
      next.index ∙ ap (λ bs. length (flat bs)) (sym (given_full laws front m (omega (arith, less)))),
      λ _. omega (arith, less),
    )
batch_cases laws b batch front m (inr (at, over)) = (at.is, at.index, λ reads. absurd (true_not_false b.ended over reads))

pub turned : Laws → (place : Place) (front : List ℕ) (m : ℕ) (batch : Batch) → Reached place front m → GivesBatch place.b batch front m
    → Turned place front m batch
turned laws place front m batch r gives =
    let is = batch_cases laws place.b batch front m gives.is in
    let less = slice_get_within (batches (cut_games front)) m (games_of batch) is.0 in
    record {
      reached = record {
        limit_ = r.limit_;
        takes = r.takes;
        few = r.few;
        at_end = r.at_end;
        within = r.within;
        open_ = is.2;
        all = omega (arith, less);
      };
      games = flat_next (batches (cut_games front)) m (games_of batch) is.0;
      index = is.1;
      at = is.0;
    }

-- before the first read
pub no_reads : (limit : ℕ) (b : Batches) (left : Option (List ℕ)) → b.limit ≡ limit → b.ended ≡ false → Reached (place_of limit b left left) [] 0
no_reads limit b left same reads = record {
  limit_ = same;
  takes = consumes_none left;
  few = omega arith;
  at_end = λ over. absurd (true_not_false b.ended over reads);
  within = λ over. absurd (true_not_false b.ended over reads);
  open_ = λ _. omega arith;
  all = omega arith;
}

-- the batches before were all that the bytes before the last piece fill
abbrev pub Needed : List ℕ → ℕ → Type 0
Needed front m = length (full_batches (closed_games (take (length front - most_read) front))) ≤ m

pub needed_on : (front bytes : List ℕ) (m : ℕ) → Needed front m → IsNeeded front bytes m → Needed (front ++ bytes) m
needed_on front [] m so step = subst (λ f. Needed f m) (sym (append-nil front)) so
needed_on front (y ∷ ys) m so step = step (omega arith)
