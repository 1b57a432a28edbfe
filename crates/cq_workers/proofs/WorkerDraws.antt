-- Workers as they draw, and the outputs that are collected from them.
use Rattle.std.proofs.Common.{Some, length-append, ◌==◌, ◌≡◌, ℕ, ◌+◌, ◌<◌, ◌≤◌, List, [], ◌∷◌, ◌++◌, length, map, refl, sym, ap, ◌∙◌, subst, arith, All, false}
use Rattle.std.specs.Prelude.{sum_by, flat_map, Contains, Option}
use Rattle.std.proofs.lemmas.List.{append-nil, map-append}
use Rattle.std.proofs.lemmas.List.Concat.{flat_map-append}
use Rattle.std.proofs.lemmas.List.Elements.{All-pop, All-push, All-nil, All-head}
use Rattle.std.proofs.lemmas.List.Sums.{sum_by_push}
use Rattle.cq_board.proofs.Increasing.{one_if}
use Rattle.cq_board.specs.declared.seat.Board.{Board}
use Rattle.cq_board.specs.declared.seat.ClaimSeat.{ClaimSeat}
use Rattle.cq_board.specs.Draws.{times, times_in}
use Rattle.cq_board.specs.Seats.{numbers_of, seats_of, IsSeatOf, drawn, all_drawn, HasEnded}
use Rattle.cq_workers.specs.declared.workers.Worker.{Worker}
use Rattle.cq_workers.specs.Internal.WorkerStates.{HasWorked, IsFresh, IsThrough}
use Rattle.cq_workers.specs.Outputs.{AddsOutput, AreOutputsOf, WorkerRun, option_list}
use Rattle.cq_workers.proofs.Counting.{not_same, times_more}

-- ---- drawing

-- a worker before this turn
pub record IsDrawing {K X : Type 0} (HasOutputs : K → List ℕ → List X → Type 0) (board : Board) (s : ClaimSeat) (kept : K) (made : List X) (turn : ℕ) : Type 0 where
  pub seat : IsSeatOf board s
  pub may_draw : HasEnded s → ⊥
  pub turns : length (drawn s) ≡ turn
  pub few : turn ≤ numbers_of board
  pub has_outputs : HasOutputs kept (drawn s) made

pub starts : {K X : Type 0} (HasOutputs : K → List ℕ → List X → Type 0) (board : Board) (w : Worker K X) → IsFresh HasOutputs board w
    → IsDrawing HasOutputs board w.seat w.kept w.made.items 0
starts HasOutputs board w fresh = record {
  seat = fresh.seat;
  may_draw = fresh.may_draw;
  turns = ap length fresh.nothing;
  few = omega arith;
  has_outputs = subst (λ numbers. HasOutputs w.kept numbers w.made.items) (sym fresh.nothing) fresh.made;
}

-- the games that a worker draws, and their outputs
pub record DrewOne {K X : Type 0} (HasOutputs : K → List ℕ → List X → Type 0) (board : Board) (s : ClaimSeat) (kept kept' : K) (was now : List X) : Type 0 where
  pub t : ClaimSeat
  pub number : ℕ
  pub one : Option X
  pub seat : IsSeatOf board t
  pub may_draw : HasEnded t → ⊥
  pub drew : drawn t ≡ drawn s ++ number ∷ []
  pub inside : number < numbers_of board
  pub late : length (drawn s) ≤ number
  pub adds : AddsOutput HasOutputs number kept kept' one
  pub more : now ≡ was ++ option_list one

pub goes_on : {K X : Type 0} (HasOutputs : K → List ℕ → List X → Type 0) (board : Board) (s : ClaimSeat) (kept kept' : K) (was now : List X) (turn : ℕ)
    → IsDrawing HasOutputs board s kept was turn → (drew_one : DrewOne HasOutputs board s kept kept' was now) → IsDrawing HasOutputs board drew_one.t kept' now (turn + 1)
goes_on HasOutputs board s kept kept' was now turn before drew_one = record {
  seat = drew_one.seat;
  may_draw = drew_one.may_draw;
  turns =
      let l = length-append (drawn s) (drew_one.number ∷ []) in let a = before.turns in
      let e : length (drawn drew_one.t) ≡ length (drawn s ++ drew_one.number ∷ []) = ap length drew_one.drew in omega arith;
  few = let a = before.turns in let b = drew_one.late in let c = drew_one.inside in omega arith;
  has_outputs =
      subst (λ made. HasOutputs kept' (drawn drew_one.t) made) (sym drew_one.more)
      (subst (λ numbers. HasOutputs kept' numbers (was ++ option_list drew_one.one)) (sym drew_one.drew) (drew_one.adds (drawn s) was before.has_outputs));
}

-- the worker with this seat
abbrev pub with_seat : {K X : Type 0} → Worker K X → ClaimSeat → Worker K X
with_seat w s = record { seat = s; kept = w.kept; made = w.made; is_out_of_memory = w.is_out_of_memory }

pub ends : {K X : Type 0} (HasOutputs : K → List ℕ → List X → Type 0) (board : Board) (w : Worker K X) (s : ClaimSeat) (number : ℕ)
    → HasOutputs w.kept (drawn w.seat) w.made.items → IsSeatOf board s → HasEnded s → drawn s ≡ drawn w.seat ++ number ∷ [] → numbers_of board ≤ number
    → IsThrough HasOutputs board (with_seat w s)
ends HasOutputs board w s number made seat ended drew past = record {
  seat = seat;
  ended = ended;
  numbers = drawn w.seat;
  last = number;
  drew = drew;
  past = past;
  made = made;
}

-- ---- gathering

-- the states and outputs that are collected from workers
pub record Gathered (K X : Type 0) : Type 0 where
  pub seats : List ClaimSeat
  pub kept : List K
  pub made : List X

-- the states and outputs that are collected from the workers so far, while these are left
pub record IsGathering {K X : Type 0} (HasOutputs : K → List ℕ → List X → Type 0) (board : Board) (left : List (Worker K X)) (all : Gathered K X) : Type 0 where
  pub worked : All (HasWorked HasOutputs board) left
  pub taken : All (IsSeatOf board) all.seats
  pub ended : All HasEnded all.seats
  pub count : length all.seats + length left ≡ seats_of board
  pub count_kept : length all.kept + length left ≡ seats_of board
  pub shares : List (WorkerRun K X)
  pub each : All (λ s. HasOutputs s.kept s.numbers s.made) shares
  pub drawn_ : (x : ℕ) → x < numbers_of board → times_in x (all_drawn all.seats) ≡ times_in x (map (λ s. s.numbers) shares)
  pub states_are : all.kept ≡ map (λ s. s.kept) shares
  pub outputs_are : all.made ≡ flat_map (λ s. s.made) shares

pub gathers : {K X : Type 0} (HasOutputs : K → List ℕ → List X → Type 0) (board : Board) (left : List (Worker K X)) (all : Gathered K X)
    → All (HasWorked HasOutputs board) left → length left ≡ seats_of board → all.seats ≡ [] → all.kept ≡ [] → all.made ≡ [] → IsGathering HasOutputs board left all
gathers {K} {X} HasOutputs board left all worked count none unit_states nothing = record {
  worked = worked;
  taken = subst (All (IsSeatOf board)) (sym none) (All-nil (IsSeatOf board));
  ended = subst (All HasEnded) (sym none) (All-nil HasEnded);
  count = let e : length all.seats ≡ 0 = ap length none in omega (arith, e, count);
  count_kept = let e : length all.kept ≡ 0 = ap length unit_states in omega (arith, e, count);
  shares = [];
  each = All-nil (λ (s : WorkerRun K X). HasOutputs s.kept s.numbers s.made);
  drawn_ = λ x less. ap (λ l. times_in x (all_drawn l)) none;
  states_are = unit_states;
  outputs_are = nothing;
}

in_more : {S : Type 0} (of : S → List ℕ) (x : ℕ) (rest now : List S) (s : S) → now ≡ rest ++ s ∷ [] → times_in x (map of now) ≡ times_in x (map of rest) + times x (of s)
in_more of x rest now s more = ap (λ l. times_in x (map of l)) more ∙ ap (sum_by (times x)) (map-append of rest (s ∷ [])) ∙ sum_by_push (times x) (map of rest) (of s)

longer : {S : Type 0} (rest now : List S) (s : S) → now ≡ rest ++ s ∷ [] → length now ≡ length rest + 1
longer rest now s more = ap length more ∙ length-append rest (s ∷ [])

flat_more : {S X : Type 0} (of : S → List X) (rest : List S) (s : S) → flat_map of (rest ++ s ∷ []) ≡ flat_map of rest ++ of s
flat_more of rest s = flat_map-append of rest (s ∷ []) ∙ ap (λ l. flat_map of rest ++ l) (append-nil (of s))

other_test : (k x n : ℕ) → x < n → n ≤ k → one_if (k == x) ≡ 0
other_test k x n less more = ap one_if (not_same k x (λ e. absurd (omega (arith, e, less, more))))

-- one worker more is taken
pub record TookOne {K X : Type 0} (left rest : List (Worker K X)) (w : Worker K X) (all now : Gathered K X) : Type 0 where
  pub left_ : left ≡ rest ++ w ∷ []
  pub seat : now.seats ≡ all.seats ++ w.seat ∷ []
  pub own : now.kept ≡ all.kept ++ w.kept ∷ []
  pub more : now.made ≡ all.made ++ w.made.items

pub gathers_one : {K X : Type 0} (HasOutputs : K → List ℕ → List X → Type 0) (board : Board) (left rest : List (Worker K X)) (w : Worker K X) (all now : Gathered K X)
    → IsGathering HasOutputs board left all → TookOne left rest w all now → w.is_out_of_memory ≡ false → IsGathering HasOutputs board rest now
gathers_one {K} {X} HasOutputs board left rest w all now was one fed =
    let p = All-pop (HasWorked HasOutputs board) left rest (Some w) one.left_ was.worked in
    let through : IsThrough HasOutputs board w = p.1 fed in
    let share : WorkerRun K X = record { numbers = through.numbers; kept = w.kept; made = w.made.items } in record {
      worked = p.0;
      taken = subst (All (IsSeatOf board)) (sym one.seat) (All-push (IsSeatOf board) all.seats w.seat was.taken through.seat);
      ended = subst (All HasEnded) (sym one.seat) (All-push HasEnded all.seats w.seat was.ended through.ended);
      count = let a = longer all.seats now.seats w.seat one.seat in let b = longer rest left w one.left_ in let c = was.count in omega (arith, a, b, c);
      count_kept = let a = longer all.kept now.kept w.kept one.own in let b = longer rest left w one.left_ in let c = was.count_kept in omega (arith, a, b, c);
      shares = was.shares ++ share ∷ [];
      each = All-push (λ (s : WorkerRun K X). HasOutputs s.kept s.numbers s.made) was.shares share was.each through.made;
      drawn_ = λ x less.
          let a = in_more drawn x all.seats now.seats w.seat one.seat in
          let b = was.drawn_ x less in
          let c = in_more (λ (s : WorkerRun K X). s.numbers) x was.shares (was.shares ++ share ∷ []) share refl in
          let d = times_more x through.numbers (drawn w.seat) through.last through.drew in
          let o = other_test through.last x (numbers_of board) less through.past in omega (arith, a, b, c, d, o);
      states_are = one.own ∙ (ap (λ l. l ++ w.kept ∷ []) was.states_are ∙ sym (map-append (λ (s : WorkerRun K X). s.kept) was.shares (share ∷ [])));
      outputs_are = one.more ∙ (ap (λ l. l ++ w.made.items) was.outputs_are ∙ sym (flat_more (λ (s : WorkerRun K X). s.made) was.shares share));
    }

an_ended : (seats : List ClaimSeat) → 0 < length seats → All HasEnded seats → (s : ClaimSeat) × Contains seats s × HasEnded s
an_ended [] some ended = absurd (omega (arith, some))
an_ended (s ∷ seats) some ended = (s, (0, omega arith, refl), All-head HasEnded s seats ended)

pub gathered : {K X : Type 0} (HasOutputs : K → List ℕ → List X → Type 0) (board : Board) (n : ℕ) (left : List (Worker K X)) (all : Gathered K X)
    → IsGathering HasOutputs board left all → left ≡ [] → 0 < seats_of board → numbers_of board ≡ n
    → ((s : ClaimSeat) → Contains all.seats s → HasEnded s → (x : ℕ) → x < numbers_of board → times_in x (all_drawn all.seats) ≡ 1) → AreOutputsOf HasOutputs n all.kept all.made
gathered HasOutputs board n left all was none some count whole =
    let long = was.count in
    let empty : length left ≡ 0 = ap length none in
    let one = an_ended all.seats (omega (arith, long, empty, some)) was.ended in record {
      shares = was.shares;
      each = was.each;
      once = λ number less.
          let inside : number < numbers_of board = omega (arith, less, count) in
          sym (was.drawn_ number inside) ∙ whole one.0 one.1 one.2 number inside;
      states_are = was.states_are;
      outputs_are = was.outputs_are;
    }

-- ---- before the first draw

pub fresh_more : {K X : Type 0} (HasOutputs : K → List ℕ → List X → Type 0) (board : Board) (was now : List (Worker K X)) (w : Worker K X)
    → All (IsFresh HasOutputs board) was → now ≡ was ++ w ∷ [] → IsSeatOf board w.seat × (drawn w.seat ≡ []) × (HasEnded w.seat → ⊥) → HasOutputs w.kept [] [] → w.made.items ≡ []
    → All (IsFresh HasOutputs board) now
fresh_more HasOutputs board was now w before more (seat, nothing, may) begins none =
    subst (All (IsFresh HasOutputs board)) (sym more) (All-push (IsFresh HasOutputs board) was w before record {
      seat = seat;
      nothing = nothing;
      may_draw = may;
      made = subst (λ made. HasOutputs w.kept [] made) (sym none) begins;
    })

pub count_more : {K X : Type 0} (was now : List (Worker K X)) (w : Worker K X) (left rest : List ClaimSeat) (s : ClaimSeat) (n : ℕ)
    → now ≡ was ++ w ∷ [] → left ≡ rest ++ s ∷ [] → length was + length left ≡ n → length now + length rest ≡ n
count_more was now w left rest s n more taken count =
    let a = longer was now w more in let b = longer rest left s taken in omega (arith, a, b, count)
