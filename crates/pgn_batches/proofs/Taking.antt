-- The rounds of a visit, and their ends.
use Rattle.std.proofs.Common.{◌≡◌, ◌⊎◌, ℕ, zero, suc, ◌+◌, ◌-◌, ◌≤◌, ◌<◌, ◌^◌, Bool, true, false, List, [], ◌∷◌, ◌++◌, length, length-append, append-nil, take, drop, Option, Some, refl, ap, sym, ◌∙◌, arith, subst, inl, inr}
use Rattle.std.specs.Prelude.{slice_get, Err, if◌then◌else◌}
use Rattle.std.proofs.lemmas.Bool.{cases_Bool}
use Rattle.std.proofs.lemmas.Grind.{flat_map-append}
use Rattle.std.proofs.lemmas.List.{take_all, take-append-drop, length-map}
use Rattle.cq_common.specs.declared.faults.Refusal.{Refusal}
use Rattle.cq_common.specs.declared.faults.Refusal.TheVariants.{Fault, NoMemory as IsNoMemory}
use Rattle.pgn_cut.specs.Cut.{cut, closed}
use Rattle.pgn_batches.specs.Games.{games_of, number_of}
use Rattle.pgn_batches.specs.Batching.{batches, full_batches, full_from, is_full, left_over, as_last, flat}
use Rattle.pgn_batches.specs.Filling.{most_read}
use Rattle.pgn_batches.specs.KeptGames.{KeptGames, kept}
use Rattle.pgn_batches.specs.Laws.{Laws}
use Rattle.pgn_batches.specs.NextBatch.{Moves, GivesBatch, HasGivenAll, HasGivenFull, IsNextResult}
use Rattle.pgn_batches.specs.Visits.{AreLeadingGames, Gives, Reads, ReadsAll, IsVisitResult, TakesAll, TakesWhole}
use Rattle.pgn_batches.specs.Streams.{Stands}
use Rattle.pgn_batches.specs.Whole.{closed_games, cut_games, whole}
use Rattle.pgn_batches.specs.declared.batch.Batch.{Batch}
use Rattle.pgn_batches.specs.declared.state.BatchFault.{BatchFault}
use Rattle.pgn_batches.specs.declared.state.BatchFault.TheVariants.{ReadFault, ArchiveTooLong}
use Rattle.pgn_batches.specs.declared.state.Batches.{Batches}
use Rattle.pgn_batches.proofs.Given.{all_batches, full_each, given, given_begins, given_few, given_full}
use Rattle.pgn_batches.proofs.Reached.{Moved, Needed, Place, Reached, Turned, moved, moved_to, needed_on, no_reads, place_of, turned}
use Rattle.pgn_batches.proofs.Streams.{count_within}

-- the number of games visited: those of the batches given
pub record Rounds (place : Place) (Taken : KeptGames → Type 0) (count : ℕ) : Type 0 where
  pub front : List ℕ
  pub m : ℕ
  pub stands : Stands place.b front m
  pub reached : Reached place front m
  pub needed : Needed front m
  pub count_is : count ≡ length (given front m)
  pub taken : Taken (given front m)

-- the same after a call for the next batch, by which this was given
pub record Called (place : Place) (Taken : KeptGames → Type 0) (count : ℕ) (Given : List ℕ → ℕ → Type 0) : Type 0 where
  pub front : List ℕ
  pub m : ℕ
  pub reached : Reached place front m
  pub needed : Needed front m
  pub count_is : count ≡ length (given front m)
  pub taken : Taken (given front m)
  pub gives : Given front m

pub called : Laws → (place : Place) (now : Batches) (after : Option (List ℕ)) (Taken : KeptGames → Type 0) (count : ℕ) (Given : List ℕ → ℕ → Type 0)
    → Rounds place Taken count → Moves place.b now place.now after Given → Called (moved_to place now after) Taken count Given
called laws place now after Taken count Given so moves =
    let m : Moved (moved_to place now after) so.front moves.bytes so.m = moved laws place now after so.front so.m Given so.stands so.reached moves in
    record {
      front = so.front ++ moves.bytes;
      m = so.m;
      reached = m.reached;
      needed = needed_on so.front moves.bytes so.m so.needed (moves.needed so.front so.m so.stands);
      count_is = so.count_is ∙ ap length (sym m.same);
      taken = subst Taken (sym m.same) so.taken;
      gives = moves.given so.front so.m so.stands;
    }

-- nothing was read, and no batch is full
no_batches : Laws → Needed [] 0
no_batches laws =
    let c = laws.cuts [] in
    let e : length (cut []) ≡ length (closed [] ++ c.0) = ap length c.1 in
    let parts = length-append (closed []) c.0 in
    let count = count_within 0 0 (cut []) (laws.order []) (omega arith) in
    let same = length-map (closed []) (kept []) in
    let full = full_each [] (closed_games []) in
    omega (arith, e, parts, count, same, full)

pub no_rounds : Laws → (limit : ℕ) (b : Batches) (left : Option (List ℕ)) (Taken : KeptGames → Type 0) → Stands b [] 0 → b.limit ≡ limit → b.ended ≡ false → Taken []
    → Rounds (place_of limit b left left) Taken 0
no_rounds laws limit b left Taken stands same reads taken = record {
  front = [];
  m = 0;
  stands = stands;
  reached = no_reads limit b left same reads;
  needed = no_batches laws;
  count_is = refl;
  taken = taken;
}

-- ---- which games are given

abbrev IsPart : Place → List ℕ → KeptGames → Type 0
IsPart place front games = AreLeadingGames games (whole front) ⊎ (ReadsAll place.limit place.left place.now front × AreLeadingGames games (cut_games front))

flat_first : (bs : List KeptGames) (m : ℕ) → AreLeadingGames (flat (take m bs)) (flat bs)
flat_first bs m = (
  flat (drop m bs),
  sym (ap flat (take-append-drop m bs)) ∙ flat_map-append (λ (x : KeptGames). x) (take m bs) (drop m bs),
)

part_by : Laws → (place : Place) (front : List ℕ) (m : ℕ) → Reached place front m → (place.b.ended ≡ true) ⊎ (place.b.ended ≡ false) → IsPart place front (given front m)
part_by laws place front m r (inl over) = inr (
  record { takes = r.takes; within = r.within over; at_end = r.at_end over },
  subst (AreLeadingGames (given front m)) (all_batches laws (cut_games front)) (flat_first (batches (cut_games front)) m),
)
part_by laws place front m r (inr reads) = inl
    (subst (λ gs. AreLeadingGames gs (whole front)) (ap flat (sym (given_full laws front m (r.open_ reads)))) (flat_first (full_batches (closed_games front)) m))

part : Laws → (place : Place) (front : List ℕ) (m : ℕ) → Reached place front m → IsPart place front (given front m)
part laws place front m r = part_by laws place front m r (cases_Bool place.b.ended)

needed_games : Laws → (front : List ℕ) (m : ℕ) → Needed front m → AreLeadingGames (whole (take (length front - most_read) front)) (given front m)
needed_games laws front m needed = given_begins laws front (length front - most_read) m needed

-- ---- how a call for the next batch ends the rounds

pub starves : Laws → (place : Place) (Taken : KeptGames → Type 0) (count : ℕ) (Given : List ℕ → ℕ → Type 0) → Called place Taken count Given
    → (games : KeptGames) × Gives place.limit place.left place.now games [] × Taken games
starves laws place Taken count Given so = (
  given so.front so.m,
  record {
    front = so.front;
    reads = record { takes = so.reached.takes; few = so.reached.few };
    first = subst (IsPart place so.front) (sym (append-nil (given so.front so.m))) (part laws place so.front so.m so.reached);
    needed = needed_games laws so.front so.m so.needed;
  },
  so.taken,
)

pub breaks : Laws → (place : Place) (Taken : KeptGames → Type 0) (count : ℕ) (was : Batches) (AreRead : ℕ → Type 0)
    → Called place Taken count (HasGivenFull was AreRead) → TakesWhole place.limit place.left place.now AreRead Taken
breaks laws place Taken count was AreRead so =
    let full = full_batches (closed_games so.front) in
    let all = so.gives.all in
    let games : given so.front so.m ≡ whole so.front =
    ap flat (given_full laws so.front so.m (omega (arith, all)) ∙ take_all so.m full (omega (arith, all))) in
    record {
      front = so.front;
      reads = record { takes = so.reached.takes; few = so.reached.few };
      count = so.gives.taken;
      taken = subst Taken games so.taken;
    }

pub ends : Laws → (place : Place) (Taken : KeptGames → Type 0) (count : ℕ) → Called place Taken count (HasGivenAll place.b)
    → TakesAll place.limit place.left place.now count Taken
ends laws place Taken count so =
    let bs = batches (cut_games so.front) in
    let all = so.gives.all in
    let games : given so.front so.m ≡ cut_games so.front = ap flat (take_all so.m bs (omega (arith, all))) ∙ all_batches laws (cut_games so.front) in
    record {
      archive = so.front;
      reads = record { takes = so.reached.takes; within = so.reached.within so.gives.ended; at_end = so.reached.at_end so.gives.ended };
      count_is = so.count_is ∙ ap length games;
      taken = subst Taken games so.taken;
    }

-- ---- a batch was given

-- a batch has a game

some_if : (b : Bool) (x : KeptGames) (ys zs : List KeptGames) (m : ℕ) (y : KeptGames) → 0 < length x
    → ((k : ℕ) → slice_get ys k ≡ Some y → 0 < length y) → ((k : ℕ) → slice_get zs k ≡ Some y → 0 < length y)
    → slice_get (if b then x ∷ ys else zs) m ≡ Some y → 0 < length y
some_if true x ys zs zero y some f g at = let e : x ≡ y = cc in subst (λ (l : KeptGames). 0 < length l) e some
some_if true x ys zs (suc k) y some f g at = f k at
some_if false x ys zs m y some f g at = g m at

some_in_full : (before games : KeptGames) (m : ℕ) (y : KeptGames) → slice_get (full_from before games) m ≡ Some y → 0 < length y
unfolding full_from
some_in_full before [] m y at = cc
some_in_full before (g ∷ gs) m y at =
    let l = length-append before (g ∷ []) in
    some_if (is_full (before ++ g ∷ [])) (before ++ g ∷ []) (full_from [] gs) (full_from (before ++ g ∷ []) gs) m y (omega (arith, l))
    (λ k. some_in_full [] gs k y) (λ k. some_in_full (before ++ g ∷ []) gs k y) at

some_in_last : (games : KeptGames) (m : ℕ) (y : KeptGames) → slice_get (as_last games) m ≡ Some y → 0 < length y
some_in_last [] m y at = cc
some_in_last (g ∷ gs) zero y at = let e : g ∷ gs ≡ y = cc in subst (λ (l : KeptGames). 0 < length l) e (omega arith)
some_in_last (g ∷ gs) (suc k) y at = cc

some_in_both : (xs ys : List KeptGames) (m : ℕ) (y : KeptGames) → ((k : ℕ) → slice_get xs k ≡ Some y → 0 < length y)
    → ((k : ℕ) → slice_get ys k ≡ Some y → 0 < length y) → slice_get (xs ++ ys) m ≡ Some y → 0 < length y
some_in_both [] ys m y f g at = g m at
some_in_both (x ∷ xs) ys zero y f g at = f 0 at
some_in_both (x ∷ xs) ys (suc k) y f g at = some_in_both xs ys k y (λ j. f (suc j)) g at

some_games : (games : KeptGames) (m : ℕ) (y : KeptGames) → slice_get (batches games) m ≡ Some y → 0 < length y
some_games games m y at =
    some_in_both (full_batches games) (as_last (left_over games)) m y (λ k. some_in_full [] games k y) (λ k. some_in_last (left_over games) k y) at

pub record Turn (place : Place) (Taken : KeptGames → Type 0) (count : ℕ) (batch : Batch) : Type 0 where
  pub before : Called place Taken count (GivesBatch place.b batch)
  pub turned : Turned place before.front before.m batch
  pub index : number_of batch ≡ length (given before.front before.m)
  pub some : 0 < length (games_of batch)
  pub few : count + length (games_of batch) ≤ place.limit + 1

pub turns : Laws → (place : Place) (Taken : KeptGames → Type 0) (count : ℕ) (batch : Batch) → Called place Taken count (GivesBatch place.b batch)
    → Turn place Taken count batch
turns laws place Taken count batch so =
    let t = turned laws place so.front so.m batch so.reached so.gives in
    let more : length (given so.front (so.m + 1)) ≡ length (given so.front so.m ++ games_of batch) = ap length t.games in
    let parts = length-append (given so.front so.m) (games_of batch) in
    let most = given_few laws so.front (so.m + 1) in
    let few = so.reached.few in
    let is = so.count_is in
    record { before = so; turned = t; index = t.index; some = some_games (cut_games so.front) so.m (games_of batch) t.at; few = omega (arith, more, parts, most, few, is) }

pub stops : Laws → (place : Place) (Taken : KeptGames → Type 0) (count : ℕ) (batch : Batch) → (turn : Turn place Taken count batch)
    → Gives place.limit place.left place.now (given turn.before.front turn.before.m) (games_of batch)
stops laws place Taken count batch turn =
    let so = turn.before in
    record {
      front = so.front;
      reads = record { takes = so.reached.takes; few = so.reached.few };
      first = subst (IsPart place so.front) turn.turned.games (part laws place so.front (so.m + 1) turn.turned.reached);
      needed = needed_games laws so.front so.m so.needed;
    }

pub goes_on : (place : Place) (Taken New : KeptGames → Type 0) (count : ℕ) (batch : Batch) → (turn : Turn place Taken count batch)
    → New (given turn.before.front turn.before.m ++ games_of batch) → Rounds place New (count + length (games_of batch))
goes_on place Taken New count batch turn taken =
    let so = turn.before in
    let parts = length-append (given so.front so.m) (games_of batch) in
    let more : length (given so.front (so.m + 1)) ≡ length (given so.front so.m ++ games_of batch) = ap length turn.turned.games in
    let is = so.count_is in
    let needed = so.needed in
    record {
      front = so.front;
      m = so.m + 1;
      stands = so.gives.stands;
      reached = turn.turned.reached;
      needed = omega (arith, needed);
      count_is = omega (arith, is, parts, more);
      taken = subst New (sym turn.turned.games) taken;
    }

-- the result of a failed call for the next batch
pub refused : Laws → {X : Type 0} (place : Place) (now : Batches) (after : Option (List ℕ)) (Taken : KeptGames → Type 0) (Stopped : KeptGames → KeptGames → X → Type 0) (count : ℕ)
    (refusal : Refusal BatchFault) → Rounds place Taken count → IsNextResult place.b now place.now after (Err refusal)
    → IsVisitResult place.limit place.left after Taken Stopped (Err refusal)
refused laws place now after Taken Stopped count (Fault ReadFault) so moves =
    let given_ = called laws place now after Taken count (HasGivenFull place.b (λ n. n ≤ place.b.limit)) so moves in
    subst (λ k. TakesWhole place.limit place.left after (λ n. n ≤ k) Taken) so.reached.limit_
    (breaks laws (moved_to place now after) Taken count place.b (λ n. n ≤ place.b.limit) given_)
refused laws place now after Taken Stopped count (Fault ArchiveTooLong) so moves =
    let given_ = called laws place now after Taken count (HasGivenFull place.b (λ n. place.b.limit < n)) so moves in
    subst (λ k. TakesWhole place.limit place.left after (λ n. k < n) Taken) so.reached.limit_
    (breaks laws (moved_to place now after) Taken count place.b (λ n. place.b.limit < n) given_)
refused laws place now after Taken Stopped count IsNoMemory so moves =
    starves laws (moved_to place now after) Taken count (λ front m. Unit {0}) (called laws place now after Taken count (λ front m. Unit {0}) so moves)
