-- Reads until a batch is full.
use Rattle.std.proofs.Common.{◌≡◌, ◌⊎◌, inl, inr, ℕ, ◌+◌, ◌-◌, ◌<◌, ◌≤◌, List, [], ◌∷◌, ◌++◌, length, take, drop, Option, Some, None, refl, sym, subst, ap, ◌∙◌, arith, Bool, true, false, Result, Ok, Err, OnOk}
use Rattle.std.specs.Io.KnownBytes.{Consumes, IsAtEnd, Keeps}
use Rattle.std.proofs.lemmas.List.{append-nil, append_assoc, length-append, take-append-le, take-append-drop}
use Rattle.pgn_cut.specs.Streams.{Stands as CutterStands}
use Rattle.pgn_cut.specs.declared.cutter.Cutter.{Cutter}
use Rattle.pgn_batches.specs.declared.batch.Batch.{Batch}
use Rattle.pgn_batches.specs.declared.state.Batches.{Batches}
use Rattle.pgn_batches.specs.Batching.{full_batches}
use Rattle.pgn_batches.specs.KeptGames.{KeptGames}
use Rattle.pgn_batches.specs.Queues.{Fills, IsDone, IsNextBatch, GivesLast}
use Rattle.pgn_batches.specs.Streams.{Stands}
use Rattle.pgn_batches.specs.Filling.{most_read, IsPieceTaken, HasRead, HasReadLost, HasFilled, HasLost}
use Rattle.pgn_batches.specs.NextBatch.{Moves, GivesBatch, HasGivenAll, HasGivenFull, IsNextResult}
use Rattle.pgn_batches.specs.Whole.{closed_games, cut_games}
use Rattle.pgn_batches.proofs.Batching.{full_grow}
use Rattle.pgn_batches.proofs.Queues.{all_given, full_is_batch}
use Rattle.pgn_batches.specs.declared.state.Window.{Window}
use Rattle.pgn_batches.specs.Windows.{HasOpen, IsWindowOf}

-- the closed games of a prefix fill no more batches
abbrev pub Grows : Type 0
Grows = (front more : List ℕ) → (rest : KeptGames) × (closed_games (front ++ more) ≡ closed_games front ++ rest)

pub fewer : Grows → (front more : List ℕ) → length (full_batches (closed_games front)) ≤ length (full_batches (closed_games (front ++ more)))
fewer grows front more =
    let g = grows front more in
    let f = full_grow (closed_games front) g.0 in
    let e : length (full_batches (closed_games (front ++ more))) ≡ length (full_batches (closed_games front) ++ f.0) = ap (λ (gs : KeptGames). length (full_batches gs)) g.1 ∙ ap length f.1 in
    let l = length-append (full_batches (closed_games front)) f.0 in omega arith

needed_prefix : Grows → (f piece : List ℕ) (m : ℕ) → length piece ≤ most_read → length (full_batches (closed_games f)) ≡ m
    → length (full_batches (closed_games (take (length (f ++ piece) - most_read) (f ++ piece)))) ≤ m
needed_prefix grows f piece m short all =
    let k : ℕ = length (f ++ piece) - most_read in
    let l = length-append f piece in
    let e : take k (f ++ piece) ≡ take k f = take-append-le k f piece (omega arith) in
    let low = fewer grows (take k f) (drop k f) in
    let t : length (full_batches (closed_games (take k f ++ drop k f))) ≡ m = ap (λ (x : List ℕ). length (full_batches (closed_games x))) (take-append-drop k f) ∙ all in
    subst (λ (x : List ℕ). length (full_batches (closed_games x)) ≤ m) (sym e) (omega arith)

pub fills_none : (b : Batches) (left : Option (List ℕ)) → Consumes left left [] → (b.ended ≡ true → IsAtEnd left) → HasFilled b b left left
fills_none b left nothing ends = record {
  bytes = [];
  takes = nothing;
  limit = refl;
  at_end = ends;
  stays = λ over. (refl, over);
  low = λ over. inl over;
  stands = λ front m was. (subst (λ (f : List ℕ). Stands b f m) (sym (append-nil front)) was, λ some. absurd (omega arith));
}

pub consumes_on : (x y z : Option (List ℕ)) (a b : List ℕ) → Consumes x y a → Consumes y z b → Consumes x z (a ++ b)
consumes_on None y z a b first next = tt
consumes_on (Some x) None z a b first next = absurd first
consumes_on (Some x) (Some y) None a b first next = absurd next
consumes_on (Some x) (Some y) (Some z) a b first next = first ∙ ap (λ (l : List ℕ). a ++ l) next ∙ sym (append_assoc a b z)

pub fills_more : Grows → (was now next : Batches) (left mid after : Option (List ℕ)) → HasFilled was now left mid → now.queue.full.items ≡ [] → now.ended ≡ false
    → HasRead now next mid after → HasFilled was next left after
fills_more grows was now next left mid after so none reads read = record {
  bytes = so.bytes ++ read.piece;
  takes = consumes_on left mid after so.bytes read.piece so.takes read.takes;
  limit = read.limit ∙ so.limit;
  at_end = read.at_end;
  stays = λ over. absurd (let e = (so.stays over).1 in grind arith);
  low = λ over. inr (read.low over);
  stands = λ front m stood.
      let s = (so.stands front m stood).0 in
      let e = append_assoc front so.bytes read.piece in
      let all = all_given now.queue (closed_games (front ++ so.bytes)) m (s.open_ reads) none in (
        subst (λ (f : List ℕ). Stands next f m) e (read.stands (front ++ so.bytes) m s),
        λ some. subst (λ (f : List ℕ). length (full_batches (closed_games (take (length f - most_read) f))) ≤ m) e (needed_prefix grows (front ++ so.bytes) read.piece m read.short all),
      );
}

still : (e : Bool) (P : Type 0) → (e ≡ false → P) → (e ≡ true → P) → P
still true P reads over = over refl
still false P reads over = reads refl

before_open : (was now : Batches) (left mid : Option (List ℕ)) → HasFilled was now left mid → now.ended ≡ false → was.ended ≡ false
before_open was now left mid so reads = still was.ended (was.ended ≡ false) (λ e. e) (λ over. absurd (let e = (so.stays over).1 in grind arith))

pub lost_more : Grows → (was now next : Batches) (left mid after : Option (List ℕ)) → HasFilled was now left mid → now.queue.full.items ≡ [] → now.ended ≡ false
    → HasReadLost now next mid after → HasLost was next left after
lost_more grows was now next left mid after so none reads lost = record {
  bytes = so.bytes ++ lost.piece;
  takes = consumes_on left mid after so.bytes lost.piece so.takes lost.takes;
  limit = lost.limit ∙ so.limit;
  reads = lost.reads;
  before = before_open was now left mid so reads;
  stands = λ front m stood.
      let s = (so.stands front m stood).0 in
      let e = append_assoc front so.bytes lost.piece in
      let all = all_given now.queue (closed_games (front ++ so.bytes)) m (s.open_ reads) none in
      let l = length-append (front ++ so.bytes) lost.piece in
      let t = s.taken in
      let r = lost.room in
      let k = so.limit in
      let same : length (front ++ (so.bytes ++ lost.piece)) ≡ length ((front ++ so.bytes) ++ lost.piece) = ap length (sym e) in (
        omega arith,
        λ some. subst (λ (f : List ℕ). length (full_batches (closed_games (take (length f - most_read) f))) ≤ m) e (needed_prefix grows (front ++ so.bytes) lost.piece m lost.short all),
      );
}

pub consumes_none : (x : Option (List ℕ)) → Consumes x x []
consumes_none None = tt
consumes_none (Some x) = refl

abbrev pub one_if : Bool → ℕ
one_if true = 1
one_if false = 0

pub nearer : (limit limit' t t' p : ℕ) (old now : Bool) → limit' ≡ limit → t' ≡ t + p → old ≡ false → (now ≡ false → 0 < p) → t ≤ limit
    → (limit' + 2) - (t' + one_if now) < (limit + 2) - (t + one_if old)
nearer limit limit' t t' p true now same more reads some low = absurd (grind arith)
nearer limit limit' t t' p false true same more reads some low = omega arith
nearer limit limit' t t' p false false same more reads some low = let s = some refl in omega arith

pub took_none : {T E : Type 0} (r : Result T E) (was now : Batches) (piece : List ℕ) → was.taken ≤ was.limit → length piece ≡ 0
    → OnOk r ((front : List ℕ) (m : ℕ) → Stands was front m → Stands now front m) → OnOk r (now.ended ≡ true)
    → now.limit ≡ was.limit → now.taken ≡ was.taken → OnOk r (IsPieceTaken was now piece)
took_none (Ok x) was now [] low none stands ended limit taken = record {
  stands = λ front m stood. subst (λ (f : List ℕ). Stands now f m) (sym (append-nil front)) (stands front m stood);
  at_end = λ over. refl;
  some = λ reads. absurd (grind arith);
  limit = limit;
  count = omega arith;
  low = λ over. omega arith;
}
took_none (Ok x) was now (b ∷ piece) low none stands ended limit taken = absurd (omega arith)
took_none (Err e) was now piece low none stands ended limit taken = tt

pub took_some : {T E : Type 0} (r : Result T E) (was now : Batches) (piece : List ℕ) → 0 < length piece → was.taken + length piece ≤ was.limit + 1
    → OnOk r ((front : List ℕ) (m : ℕ) → Stands was front m → length front + length piece ≤ was.limit + 1 → Stands now (front ++ piece) m) → now.ended ≡ false
    → now.limit ≡ was.limit → OnOk r (now.taken ≡ was.taken + length piece) → OnOk r (IsPieceTaken was now piece)
took_some (Ok x) was now piece some room stands reads limit taken = record {
  stands = λ front m stood. stands front m stood (let t = stood.taken in omega arith);
  at_end = λ over. absurd (grind arith);
  some = λ open_. some;
  limit = limit;
  count = taken;
  low = λ over. absurd (grind arith);
}
took_some (Err e) was now piece some room stands reads limit taken = tt

-- a Batches is another but for its queue
pub record IsSame (mid now : Batches) : Type 0 where
  pub cutter : now.cutter ≡ mid.cutter
  pub taken : now.taken ≡ mid.taken
  pub limit : now.limit ≡ mid.limit
  pub window : now.window ≡ mid.window
  pub ended : now.ended ≡ mid.ended

stands_same : (mid now : Batches) (front : List ℕ) (m n : ℕ) → IsSame mid now → Stands mid front m → (now.ended ≡ false → Fills now.queue (closed_games front) n)
    → (now.ended ≡ true → Fills now.queue (cut_games front) n ⊎ IsDone now.queue (cut_games front) n) → Stands now front n
stands_same mid now front m n same s open_ over = record {
  cutter = subst (λ (k : Cutter). CutterStands k front) (sym same.cutter) s.cutter;
  taken = same.taken ∙ s.taken;
  few = subst (λ (k : ℕ). length front ≤ k + 1) (sym same.limit) s.few;
  window = subst (λ (w : Window). IsWindowOf w front) (sym same.window) s.window;
  opens = subst (λ (w : Window). HasOpen w front) (sym same.window) s.opens;
  open_ = open_;
  at_end = over;
}

full_at_end : (mid now : Batches) (front : List ℕ) (m : ℕ) (batch : Batch) (rest : List Batch) → IsSame mid now → Stands mid front m → mid.ended ≡ true
    → ((games : KeptGames) (m : ℕ) → Fills mid.queue games m → IsNextBatch games m batch × Fills now.queue games (m + 1)) → mid.queue.full.items ≡ batch ∷ rest
    → Fills mid.queue (cut_games front) m ⊎ IsDone mid.queue (cut_games front) m → GivesBatch now batch front m
full_at_end mid now front m batch rest same s over gives first (inl fills) =
    let g = gives (cut_games front) m fills in
    record {
      is = inr (full_is_batch (cut_games front) m batch g.0, same.ended ∙ over);
      stands = stands_same mid now front m (m + 1) same s (λ o. absurd (let e = same.ended in grind arith)) (λ o. inl g.1);
    }
full_at_end mid now front m batch rest same s over gives first (inr is) = absurd (let e : length (batch ∷ rest) ≡ 0 = ap length (sym first ∙ is.none) in omega arith)

full_by : (e : Bool) (mid now : Batches) (front : List ℕ) (m : ℕ) (batch : Batch) (rest : List Batch) → IsSame mid now → Stands mid front m → mid.ended ≡ e
    → ((games : KeptGames) (m : ℕ) → Fills mid.queue games m → IsNextBatch games m batch × Fills now.queue games (m + 1)) → mid.queue.full.items ≡ batch ∷ rest → GivesBatch now batch front m
full_by true mid now front m batch rest same s over gives first = full_at_end mid now front m batch rest same s over gives first (s.at_end over)
full_by false mid now front m batch rest same s reads gives first =
    let g = gives (closed_games front) m (s.open_ reads) in
    record { is = inl g.0; stands = stands_same mid now front m (m + 1) same s (λ o. g.1) (λ o. absurd (let e = same.ended in grind arith)) }

low_by : (was mid now : Batches) (front : List ℕ) → IsSame mid now → mid.limit ≡ was.limit → mid.taken ≡ length front → (was.ended ≡ true) ⊎ (mid.taken ≤ mid.limit)
    → (was.ended ≡ true) ⊎ (length front ≤ was.limit)
low_by was mid now front same limit taken (inl over) = inl over
low_by was mid now front same limit taken (inr low) = inr (omega (arith, limit, taken, low))

-- some reads, and a property of the bytes and batches after them
pub moves_of : (was mid now : Batches) (left left_after : Option (List ℕ)) (Given : List ℕ → ℕ → Type 0) → HasFilled was mid left left_after → IsSame mid now
    → ((front : List ℕ) (m : ℕ) → Stands mid front m → Given front m) → Moves was now left left_after Given
moves_of was mid now left left_after Given so same gives = record {
  bytes = so.bytes;
  takes = so.takes;
  limit = same.limit ∙ so.limit;
  at_end = λ over. so.at_end (sym same.ended ∙ over);
  stays = λ over. ((so.stays over).0, same.ended ∙ (so.stays over).1);
  within = λ front m stood over. low_by was mid now (front ++ so.bytes) same so.limit (so.stands front m stood).0.taken (so.low (sym same.ended ∙ over));
  few = λ front m stood. subst (λ (k : ℕ). length (front ++ so.bytes) ≤ k + 1) so.limit (so.stands front m stood).0.few;
  needed = λ front m stood. (so.stands front m stood).1;
  given = λ front m stood. gives (front ++ so.bytes) m (so.stands front m stood).0;
}

pub same_as : (b : Batches) → IsSame b b
same_as b = record { cutter = refl; taken = refl; limit = refl; window = refl; ended = refl }

pub given_full : (was mid now : Batches) (left left_after : Option (List ℕ)) (batch : Batch) (rest : List Batch) → HasFilled was mid left left_after → IsSame mid now
    → ((games : KeptGames) (m : ℕ) → Fills mid.queue games m → IsNextBatch games m batch × Fills now.queue games (m + 1)) → mid.queue.full.items ≡ batch ∷ rest
    → Moves was now left left_after (GivesBatch now batch)
given_full was mid now left left_after batch rest so same gives first =
    moves_of was mid now left left_after (GivesBatch now batch) so same (λ front m s. full_by mid.ended mid now front m batch rest same s refl gives first)

pub given_last : (r : Option Batch) (was mid now : Batches) (left left_after : Option (List ℕ)) → HasFilled was mid left left_after → IsSame mid now → mid.ended ≡ true
    → ((games : KeptGames) (m : ℕ) → Fills mid.queue games m ⊎ IsDone mid.queue games m → GivesLast games m r now.queue) → IsNextResult was now left left_after (Ok r)
given_last None was mid now left left_after so same over gives =
    moves_of was mid now left left_after (HasGivenAll now) so same
    (λ front m s.
    let g = gives (cut_games front) m (s.at_end over) in
    record { all = g.all; ended = same.ended ∙ over; stands = stands_same mid now front m m same s (λ o. absurd (let e = same.ended in grind arith)) (λ o. inr g) })
given_last (Some batch) was mid now left left_after so same over gives =
    moves_of was mid now left left_after (GivesBatch now batch) so same
    (λ front m s.
    let g = gives (cut_games front) m (s.at_end over) in
    record { is = inr (g.0, same.ended ∙ over); stands = stands_same mid now front m (m + 1) same s (λ o. absurd (let e = same.ended in grind arith)) (λ o. inr g.1) })

pub keeps_none : (x y : Option (List ℕ)) → Keeps x y → Consumes x y []
keeps_none None y same = tt
keeps_none (Some a) None same = absurd same
keeps_none (Some a) (Some b) same = sym same

-- a read failed
pub fills_no_more : (was now : Batches) (left mid after : Option (List ℕ)) → HasFilled was now left mid → Consumes mid after [] → now.ended ≡ false → HasFilled was now left after
fills_no_more was now left mid after so nothing reads = record {
  bytes = so.bytes;
  takes = subst (λ (l : List ℕ). Consumes left after l) (append-nil so.bytes) (consumes_on left mid after so.bytes [] so.takes nothing);
  limit = so.limit;
  at_end = λ over. absurd (grind arith);
  stays = so.stays;
  low = so.low;
  stands = so.stands;
}

-- no full batch is there
pub given_none : (was mid now : Batches) (left left_after : Option (List ℕ)) (AreTaken : ℕ → Type 0) → HasFilled was mid left left_after → IsSame mid now → mid.queue.full.items ≡ []
    → mid.ended ≡ false
    → ((n : ℕ) → mid.taken ≡ n → AreTaken n) → Moves was now left left_after (HasGivenFull was AreTaken)
given_none was mid now left left_after AreTaken so same none reads taken =
    moves_of was mid now left left_after (HasGivenFull was AreTaken) so same
    (λ front m s. record { all = all_given mid.queue (closed_games front) m (s.open_ reads) none; reads = before_open was mid left left_after so reads; taken = taken (length front) s.taken })

pub lost : (was now : Batches) (left left_after : Option (List ℕ)) → HasLost was now left left_after → Moves was now left left_after (λ front m. Unit {0})
lost was now left left_after so = record {
  bytes = so.bytes;
  takes = so.takes;
  limit = so.limit;
  at_end = λ over. absurd (let e = so.reads in grind arith);
  stays = λ over. absurd (let e = so.before in grind arith);
  within = λ front m stood over. absurd (let e = so.reads in grind arith);
  few = λ front m stood. (so.stands front m stood).0;
  needed = λ front m stood. (so.stands front m stood).1;
  given = λ front m stood. tt;
}

pub fills_failed : (was now next : Batches) (left mid after : Option (List ℕ)) → HasFilled was now left mid → (next ≡ now) × Consumes mid after [] → now.queue.full.items ≡ [] → now.ended ≡ false
    → HasFilled was next left after × (next.queue.full.items ≡ []) × (next.ended ≡ false)
fills_failed was now next left mid after so same none reads =
    subst (λ (b : Batches). HasFilled was b left after × (b.queue.full.items ≡ []) × (b.ended ≡ false)) (sym same.0) (fills_no_more was now left mid after so same.1 reads, none, reads)
