-- A queue of batches as games come and batches go.
use Rattle.std.proofs.Common.{◌⊎◌, inl, inr, ◌≡◌, ℕ, ◌+◌, ◌<◌, ◌^◌, List, [], ◌∷◌, ◌++◌, length, Bool, true, false, refl, sym, subst, ap, ap₂, ◌∙◌, arith, if◌then◌else◌, Option, Some, None, IfSome, All}
use Rattle.std.specs.Option.{option_to_list}
use Rattle.std.specs.Prelude.{slice_get, take}
use Rattle.std.proofs.lemmas.List.{append-nil, append_assoc, length-append}
use Rattle.std.proofs.lemmas.List.Sums.{sum_by_push}
use Rattle.std.proofs.lemmas.List.Elements.{All-push}
use Rattle.std.proofs.Math.Seq.{take-append_seam}
use Rattle.std.proofs.Math.ListN.{get_or-append}
use Rattle.std.proofs.lemmas.List.{take-append-le}
use Rattle.std.proofs.lemmas.Option.{slice_get_within, slice_get-get_or, get_or_from_slice_get}
use Rattle.pgn_batches.specs.declared.kept_game.KeptGame.{KeptGame}
use Rattle.pgn_batches.specs.declared.batch.Batch.{Batch}
use Rattle.pgn_batches.specs.declared.state.Queue.{Queue}
use Rattle.pgn_batches.specs.Batching.{is_full, full_at, size_of, full_batches, left_over, full_from, left_from, flat, batches, as_last}
use Rattle.pgn_batches.specs.KeptGames.{KeptGames}
use Rattle.pgn_batches.specs.Queues.{HasGames, AreBatches, Fills, IsNextBatch, IsDone, IsBatchAt}
use Rattle.pgn_batches.proofs.Batching.{full_push, left_push, left_low, none_low, all_there, flat_append}

pub starts : (q : Queue) → q.full.items ≡ [] → q.open.items ≡ [] → q.size ≡ 0 → q.index ≡ 0 → Fills q [] 0
unfolding full_from left_from
starts q none nothing empty zero_ = record {
  given = [];
  waiting = [];
  count = refl;
  full = refl;
  are = subst (AreBatches 0 []) (sym none) tt;
  open_ = nothing;
  size = empty;
  index = zero_;
}

are_more : (n : ℕ) (bs : List KeptGames) (qs : List Batch) (b : KeptGames) (q : Batch) → AreBatches n bs qs → HasGames (n + length (flat bs)) b q → AreBatches n (bs ++ b ∷ []) (qs ++ q ∷ [])
are_more n [] [] b q are has = (subst (λ (k : ℕ). HasGames k b q) (omega arith) has, tt)
are_more n [] (r ∷ qs) b q are has = absurd are
are_more n (c ∷ bs) [] b q are has = absurd are
are_more n (c ∷ bs) (r ∷ qs) b q are has = (
  are.0,
  are_more (n + length c) bs qs b q are.1
      (let l = length-append c (flat bs) in let e : n + length (flat (c ∷ bs)) ≡ (n + length c) + length (flat bs) = omega arith in subst (λ (k : ℕ). HasGames k b q) e has),
)

if_true : {A : Type 0} (b : Bool) (x y : A) → b ≡ true → (if b then x else y) ≡ x
if_true true x y is = refl
if_true false x y is = absurd (grind arith)

if_false : {A : Type 0} (b : Bool) (x y : A) → b ≡ false → (if b then x else y) ≡ y
if_false true x y is = absurd (grind arith)
if_false false x y is = refl

-- with the game the batch under way joins the full ones, and the next one is empty
pub record ClosesBatch (q now : Queue) (g : KeptGame) (batch : Batch) : Type 0 where
  pub more : now.full.items ≡ q.full.items ++ batch ∷ []
  pub has : batch.games.items ≡ q.open.items ++ g ∷ []
  pub at : batch.index ≡ q.index
  pub none : now.open.items ≡ []
  pub empty : now.size ≡ 0
  pub count : now.index ≡ q.index + length batch.games.items

-- the batch under way becomes full with the game
pub filled : (q now : Queue) (g : KeptGame) (batch : Batch) (games : KeptGames) (m : ℕ) → Fills q games m → is_full (left_over games ++ g ∷ []) ≡ true
    → ClosesBatch q now g batch → Fills now (games ++ g ∷ []) m
filled q now g batch games m was full_ closes =
    let b : KeptGames = left_over games ++ g ∷ [] in
    let hb : batch.games.items ≡ b = closes.has ∙ ap (λ (l : KeptGames). l ++ g ∷ []) was.open_ in
    let f : full_batches (games ++ g ∷ []) ≡ full_batches games ++ b ∷ [] =
    full_push games g ∙ ap (λ (l : List KeptGames). full_batches games ++ l) (if_true (is_full b) (b ∷ []) [] full_) in
    let l : left_over (games ++ g ∷ []) ≡ [] = left_push games g ∙ if_true (is_full b) [] b full_ in
    let n : length (flat (full_batches games)) ≡ length (flat was.given) + length (flat was.waiting) =
    ap (λ (bs : List KeptGames). length (flat bs)) was.full ∙ ap length (flat_append was.given was.waiting) ∙ length-append (flat was.given) (flat was.waiting) in
    record {
      given = was.given;
      waiting = was.waiting ++ b ∷ [];
      count = was.count;
      full = f ∙ ap (λ (l : List KeptGames). l ++ b ∷ []) was.full ∙ append_assoc was.given was.waiting (b ∷ []);
      are = subst (AreBatches (length (flat was.given)) (was.waiting ++ b ∷ [])) (sym closes.more)
          (are_more (length (flat was.given)) was.waiting q.full.items b batch was.are (record { games_ = hb; index = closes.at ∙ was.index ∙ n }));
      open_ = closes.none ∙ sym l;
      size = closes.empty ∙ sym (ap size_of l);
      index = closes.count ∙ ap₂ (λ (x y : ℕ). x + y) was.index (ap length hb)
          ∙ sym (ap (λ (bs : List KeptGames). length (flat bs)) f ∙ ap length (flat_append (full_batches games) (b ∷ [])) ∙ length-append (flat (full_batches games)) (b ++ [])
          ∙ ap (λ (l : KeptGames). length (flat (full_batches games)) + length l) (append-nil b));
    }

-- the batch under way is not full with the game
pub grown : (q now : Queue) (g : KeptGame) (games : KeptGames) (m : ℕ) → Fills q games m → is_full (left_over games ++ g ∷ []) ≡ false
    → now.full.items ≡ q.full.items → now.open.items ≡ q.open.items ++ g ∷ [] → now.size ≡ q.size + length g.bytes → now.index ≡ q.index → Fills now (games ++ g ∷ []) m
grown q now g games m was low same more sum at =
    let b : KeptGames = left_over games ++ g ∷ [] in
    let f : full_batches (games ++ g ∷ []) ≡ full_batches games =
    full_push games g ∙ ap (λ (l : List KeptGames). full_batches games ++ l) (if_false (is_full b) (b ∷ []) [] low) ∙ append-nil (full_batches games) in
    let l : left_over (games ++ g ∷ []) ≡ b = left_push games g ∙ if_false (is_full b) [] b low in
    record {
      given = was.given;
      waiting = was.waiting;
      count = was.count;
      full = f ∙ was.full;
      are = subst (AreBatches (length (flat was.given)) was.waiting) (sym same) was.are;
      open_ = more ∙ ap (λ (l : KeptGames). l ++ g ∷ []) was.open_ ∙ sym l;
      size = sum ∙ ap (λ (n : ℕ). n + length g.bytes) was.size ∙ sym (ap size_of l ∙ sum_by_push (λ h. length h.bytes) (left_over games) g);
      index = at ∙ was.index ∙ sym (ap (λ (bs : List KeptGames). length (flat bs)) f);
    }

-- the test of the code is that of the batch under way
pub tested : (q : Queue) (g : KeptGame) (games : KeptGames) (m : ℕ) → Fills q games m → (count size : ℕ) → count ≡ length (q.open.items ++ g ∷ []) → size ≡ q.size + length g.bytes
    → (b : Bool) → full_at count size ≡ b → is_full (left_over games ++ g ∷ []) ≡ b
tested q g games m was count size c s b is =
    ap₂ full_at (ap (λ (l : KeptGames). length (l ++ g ∷ [])) (sym was.open_) ∙ sym c)
    (sum_by_push (λ h. length h.bytes) (left_over games) g ∙ ap (λ (n : ℕ). n + length g.bytes) (sym was.size) ∙ sym s) ∙ is

low_size : (count size : ℕ) → full_at count size ≡ false → size < 2 ^ 24
unfolding full_at
low_size count size low = grind arith

pub small : (q : Queue) (games : KeptGames) (m : ℕ) → Fills q games m → q.size < 2 ^ 24
small q games m was = subst (λ (n : ℕ). n < 2 ^ 24) (sym was.size) (low_size (length (left_over games)) (size_of (left_over games)) (left_low [] games none_low))

pub games_are_counted : (q : Queue) (games : KeptGames) (m : ℕ) → Fills q games m → q.index + length q.open.items ≡ length games
games_are_counted q games m was = ap₂ (λ (x y : ℕ). x + y) was.index (ap length was.open_) ∙ sym (length-append (flat (full_batches games)) (left_over games)) ∙ ap length (all_there games)

at_seam : (xs : List KeptGames) (y : KeptGames) (ys : List KeptGames) → slice_get (xs ++ y ∷ ys) (length xs) ≡ Some y
at_seam [] y ys = refl
at_seam (x ∷ xs) y ys = at_seam xs y ys

leaves : (now : Queue) (batch : Batch) (games : KeptGames) (m : ℕ) (given waiting : List KeptGames) → length given ≡ m → full_batches games ≡ given ++ waiting
    → AreBatches (length (flat given)) waiting (batch ∷ now.full.items) → now.open.items ≡ left_over games → now.size ≡ size_of (left_over games)
    → now.index ≡ length (flat (full_batches games)) → IsNextBatch games m batch × Fills now games (m + 1)
leaves now batch games m given [] count full are open_ size index = absurd are
leaves now batch games m given (b ∷ bs) count full are open_ size index =
    let has = are.0 in (
      record {
        is = ap₂ slice_get full (sym count) ∙ at_seam given b bs ∙ ap Some (sym has.games_);
        index = has.index ∙ sym (ap (λ (gs : List KeptGames). length (flat gs)) (ap₂ take (sym count) full ∙ take-append_seam given (b ∷ bs)));
      },
      record {
        given = given ++ b ∷ [];
        waiting = bs;
        count = let l = length-append given (b ∷ []) in omega arith;
        full = full ∙ sym (append_assoc given (b ∷ []) bs);
        are = subst (λ (n : ℕ). AreBatches n bs now.full.items)
            (sym (ap length (flat_append given (b ∷ []) ∙ ap (λ (l : KeptGames). flat given ++ l) (append-nil b)) ∙ length-append (flat given) b)) are.1;
        open_ = open_;
        size = size;
        index = index;
      },
    )

-- a batch leaves
pub left : (q now : Queue) (batch : Batch) (games : KeptGames) (m : ℕ) → Fills q games m → q.full.items ≡ batch ∷ now.full.items → now.open.items ≡ q.open.items → now.size ≡ q.size
    → now.index ≡ q.index → IsNextBatch games m batch × Fills now games (m + 1)
left q now batch games m was first open_ size index = leaves now batch games m was.given was.waiting was.count was.full (subst (AreBatches (length (flat was.given)) was.waiting) first was.are)
    (open_ ∙ was.open_) (size ∙ was.size) (index ∙ was.index)

pub left_some : (q now : Queue) (r : Option Batch) → q.full.items ≡ option_to_list r ++ now.full.items → now.open.items ≡ q.open.items → now.size ≡ q.size → now.index ≡ q.index
    → IfSome r (λ batch. (games : KeptGames) (m : ℕ) → Fills q games m → IsNextBatch games m batch × Fills now games (m + 1))
left_some q now None first open_ size index = tt
left_some q now (Some batch) first open_ size index = λ games m was. left q now batch games m was first open_ size index

none_wait : (n : ℕ) (bs : List KeptGames) → AreBatches n bs [] → bs ≡ []
none_wait n [] are = refl
none_wait n (b ∷ bs) are = absurd are

pub all_given : (q : Queue) (games : KeptGames) (m : ℕ) → Fills q games m → q.full.items ≡ [] → length (full_batches games) ≡ m
all_given q games m was none =
    let e = none_wait (length (flat was.given)) was.waiting (subst (AreBatches (length (flat was.given)) was.waiting) none was.are) in
    ap length (was.full ∙ ap (λ (l : List KeptGames). was.given ++ l) e ∙ append-nil was.given) ∙ was.count

-- no game is left
pub last_none : (q now : Queue) (games : KeptGames) (m : ℕ) → Fills q games m ⊎ IsDone q games m → q.full.items ≡ [] → q.open.items ≡ [] → now.full.items ≡ q.full.items
    → now.open.items ≡ q.open.items → IsDone now games m
last_none q now games m (inl was) none nothing full open_ =
    let l : left_over games ≡ [] = sym was.open_ ∙ nothing in
    record {
      all = ap (λ (l : KeptGames). length (full_batches games ++ as_last l)) l ∙ ap length (append-nil (full_batches games)) ∙ all_given q games m was none;
      none = full ∙ none;
      nothing = open_ ∙ nothing;
    }
last_none q now games m (inr done) none nothing full open_ = record { all = done.all; none = full ∙ none; nothing = open_ ∙ nothing }

last_of : (q : Queue) (g : KeptGame) (gs games : KeptGames) (m : ℕ) → Fills q games m → q.full.items ≡ [] → q.open.items ≡ g ∷ gs → batches games ≡ full_batches games ++ (g ∷ gs) ∷ []
last_of q g gs games m was none some = ap (λ (l : KeptGames). full_batches games ++ as_last l) (sym was.open_ ∙ some)

-- the games that are left go as one batch
pub record TakesLeft (q now : Queue) (batch : Batch) : Type 0 where
  pub has : batch.games.items ≡ q.open.items
  pub at : batch.index ≡ q.index
  pub full : now.full.items ≡ q.full.items
  pub open_ : now.open.items ≡ []

-- some games are left
pub last_some : (q now : Queue) (batch : Batch) (open_games games : KeptGames) (m : ℕ) → Fills q games m ⊎ IsDone q games m → q.full.items ≡ [] → 0 < length open_games → q.open.items ≡ open_games
    → TakesLeft q now batch → IsBatchAt games m batch × IsDone now games (m + 1)
last_some q now batch [] games m was none some is last = absurd (omega arith)
last_some q now batch (g ∷ gs) games m (inl was) none some is last =
    let bs = last_of q g gs games m was none is in
    let n = all_given q games m was none in (
      record {
        is = ap₂ slice_get bs (sym n) ∙ at_seam (full_batches games) (g ∷ gs) [] ∙ ap Some (sym (last.has ∙ is));
        index = last.at ∙ was.index ∙ sym (ap (λ (l : List KeptGames). length (flat l)) (ap₂ take (sym n) bs ∙ take-append_seam (full_batches games) ((g ∷ gs) ∷ [])));
      },
      record { all = ap length bs ∙ (let l = length-append (full_batches games) ((g ∷ gs) ∷ []) in omega arith); none = last.full ∙ none; nothing = last.open_ },
    )
last_some q now batch (g ∷ gs) games m (inr done) none some is last = absurd (let e : length (g ∷ gs) ≡ 0 = ap length (sym is ∙ done.nothing) in omega arith)

get_within : (xs ys : List KeptGames) (m : ℕ) (b : KeptGames) → slice_get xs m ≡ Some b → (slice_get (xs ++ ys) m ≡ Some b) × (take m (xs ++ ys) ≡ take m xs)
get_within xs ys m b at =
    let less = slice_get_within xs m b at in
    let l = length-append xs ys in
    (slice_get-get_or (xs ++ ys) m b (omega arith) ∙ ap Some (get_or-append xs ys b m less ∙ get_or_from_slice_get xs m b b at), take-append-le m xs ys (omega arith))

-- a full batch of all games is one of all batches
pub full_is_batch : (games : KeptGames) (m : ℕ) (batch : Batch) → IsNextBatch games m batch → IsBatchAt games m batch
full_is_batch games m batch is =
    let at = get_within (full_batches games) (as_last (left_over games)) m batch.games.items is.is in
    record { is = at.0; index = is.index ∙ sym (ap (λ (l : List KeptGames). length (flat l)) at.1) }

pub none_of : {A : Type 0} (xs : List A) → length xs ≡ 0 → xs ≡ []
none_of [] none = refl
none_of (x ∷ xs) none = absurd (omega arith)

pub kept_same : (q now : Queue) (r : Option Batch) → r ≡ None → q.full.items ≡ option_to_list r ++ now.full.items → now.open.items ≡ q.open.items → now.size ≡ q.size → now.index ≡ q.index
    → (games : KeptGames) (m : ℕ) → Fills q games m ⊎ IsDone q games m → Fills now games m ⊎ IsDone now games m
kept_same q now (Some b) is first open_ size index games m was = absurd (grind arith)
kept_same q now None is first open_ size index games m (inl was) = inl (record {
  given = was.given;
  waiting = was.waiting;
  count = was.count;
  full = was.full;
  are = subst (AreBatches (length (flat was.given)) was.waiting) first was.are;
  open_ = open_ ∙ was.open_;
  size = size ∙ was.size;
  index = index ∙ was.index;
})
kept_same q now None is first open_ size index games m (inr done) = inr (record { all = done.all; none = sym first ∙ done.none; nothing = open_ ∙ done.nothing })

-- ---- what batches and the queue keep of their games

pub starts_push : (games now : KeptGames) (g : KeptGame) → now ≡ games ++ g ∷ [] → All (λ h. h.start < 2 ^ 62) games → g.start < 2 ^ 62 → All (λ h. h.start < 2 ^ 62) now
starts_push games now g more all low = subst (All (λ h. h.start < 2 ^ 62)) (sym more) (All-push (λ h. h.start < 2 ^ 62) games g all low)

one_more : (games now : KeptGames) (g : KeptGame) → now ≡ games ++ g ∷ [] → length now ≡ length games + 1
one_more games now g more = ap length more ∙ length-append games (g ∷ [])

pub numbers_push : (q : Queue) (g : KeptGame) (games now : KeptGames) (m : ℕ) → Fills q games m → length games < 2 ^ 61 → now ≡ q.open.items ++ g ∷ [] → q.index + length now < 2 ^ 62
numbers_push q g games now m was low more = omega (arith, one_more q.open.items now g more, games_are_counted q games m was, low)

pub few_push : (q : Queue) (g : KeptGame) (now : KeptGames) → now ≡ q.open.items ++ g ∷ [] → length now < 2 ^ 32
few_push q g now more = omega (arith, one_more q.open.items now g more, q.few)

pub few_low : (count size : ℕ) → full_at count size ≡ false → count < 1024
unfolding full_at
few_low count size low = grind arith
