-- Workers that look for the first match: their answers and skips, one game after another, and those of all workers, joined.
use Rattle.std.proofs.Common.{◌≡◌, ◌⊎◌, inl, inr, ⊎_elim, zero, suc, ℕ, ◌+◌, ◌<◌, ◌&&◌, List, [], ◌∷◌, ◌++◌, map, refl, sym, ap, ◌∙◌, subst, arith, All, Some, None}
use Rattle.std.specs.Prelude.{Option, flat_map}
use Rattle.std.proofs.lemmas.List.{append-nil}
use Rattle.std.proofs.lemmas.List.Elements.{All-append, All-head, All-map, All-nil, All-push, All-tail, All-weaker}
use Rattle.std.proofs.lemmas.List.Sums.{sum_by-cons}
use Rattle.pgn_batches.specs.declared.batch.Batch.{Batch}
use Rattle.pgn_batches.specs.Games.{number_of}
use Rattle.cq_board.proofs.Increasing.{one_if}
use Rattle.cq_board.specs.Draws.{times, times_in}
use Rattle.cq_workers.specs.Outputs.{AddsOutput, AreOutputsOf, WorkerRun}
use Rattle.cq_workers.proofs.Counting.{same_bool, times_more}
use Rattle.cq_first.specs.declared.seat.FirstBoard.{FirstBoard}
use Rattle.cq_first.specs.declared.seat.FirstSeat.{FirstSeat}
use Rattle.cq_first.specs.Seats.{IsLeastFound}
use Rattle.cql_syntax.specs.Trees.{QueryTree}
use Rattle.cq_shards.specs.declared.answers.GameAnswer.{GameAnswer}
use Rattle.cq_shards.specs.Answers.{answers_at}
use Rattle.cq_shards.specs.Internal.Finders.{AreFound, HasSearched, IsAnswerIn, IsSeatAt, IsUnusedSeat, HasProcessedGame, found, board_games, matches_at, skipped}
use Rattle.cq_shards.specs.Order.{is_match}
use Rattle.cq_shards.specs.Internal.WorkerAnswers.{size}
use Rattle.cq_shards.proofs.Counting.{answers_both, answers_more, matches_both, matches_more, times_added}

-- ---- by one worker

pub begins : (first : FirstBoard) (query : QueryTree) (batch : Batch) (seat : FirstSeat) → board_games first ≡ size batch → IsUnusedSeat first seat → HasSearched first query batch seat [] []
begins first query batch seat below unused = record {
  board = below;
  seat_ = unused.0;
  has_found = record {
    each = All-nil (IsAnswerIn query batch);
    drawn_ = λ x less. ap (λ (n : ℕ). 0 + n) (ap (times x) unused.1.skipped);
    found_ = λ x less. sym (ap (times x) unused.1.found);
  };
}

pub adds_found : (first : FirstBoard) (query : QueryTree) (batch : Batch) (number : ℕ) (seat now : FirstSeat) (one : Option GameAnswer)
    → HasProcessedGame first query batch number seat now one → AddsOutput (HasSearched first query batch) number seat now one
adds_found first query batch number seat now None took = λ numbers answers was. record {
  board = was.board;
  seat_ = took.seat;
  has_found = record {
    each = subst (All (IsAnswerIn query batch)) (sym (append-nil answers)) was.has_found.each;
    drawn_ = λ x less.
        let a = ap (answers_at (number_of batch + x)) (append-nil answers) in let b = was.has_found.drawn_ x less in
        let t = times_more x numbers (numbers ++ number ∷ []) number refl in
        let s = times_more x (skipped seat) (skipped now) number took.took.1 in omega (arith, a, b, t, s);
    found_ = λ x less. ap (matches_at (number_of batch + x)) (append-nil answers) ∙ (was.has_found.found_ x less ∙ sym (ap (times x) took.took.0));
  };
}
adds_found first query batch number seat now (Some answer) took = λ numbers answers was. record {
  board = was.board;
  seat_ = took.seat;
  has_found = record {
    each = All-push (IsAnswerIn query batch) answers answer was.has_found.each (number, took.took.0);
    drawn_ = λ x less.
        let a = answers_more (number_of batch + x) answers (answers ++ answer ∷ []) answer refl in
        let e = ap one_if (same_bool (number_of batch) number x answer.index (ap (λ (b : GameAnswer). b.index) took.took.0.is)) in
        let b = was.has_found.drawn_ x less in
        let t = times_more x numbers (numbers ++ number ∷ []) number refl in let s = ap (times x) took.took.2 in omega (arith, a, e, b, t, s);
    found_ = λ x less.
        let a = matches_more (number_of batch + x) answers (answers ++ answer ∷ []) answer refl in
        let e = ap (λ p. one_if (p && is_match answer)) (same_bool (number_of batch) number x answer.index (ap (λ (b : GameAnswer). b.index) took.took.0.is)) in
        let b = was.has_found.found_ x less in
        let t = times_added (is_match answer) x number (found seat) (found now) took.took.1 in omega (arith, a, e, b, t);
  };
}

-- ---- by all workers

pub seats_are : (first : FirstBoard) (query : QueryTree) (batch : Batch) (n : ℕ) (seats : List FirstSeat) (answers : List GameAnswer)
    → AreOutputsOf (HasSearched first query batch) n seats answers → All (IsSeatAt first) seats
seats_are first query batch n seats answers are =
    subst (All (IsSeatAt first)) (sym are.states_are)
    (All-map (IsSeatAt first) (λ (s : WorkerRun FirstSeat GameAnswer). s.kept) are.shares
    (All-weaker (λ (s : WorkerRun FirstSeat GameAnswer). HasSearched first query batch s.kept s.numbers s.made) (λ (s : WorkerRun FirstSeat GameAnswer). IsSeatAt first s.kept)
    (λ s is. is.seat_) are.shares are.each))

module _ (first : FirstBoard) (query : QueryTree) (batch : Batch) where
  abbrev IsSearched : WorkerRun FirstSeat GameAnswer → Type 0
  IsSearched s = HasSearched first query batch s.kept s.numbers s.made

  abbrev answers_of : List (WorkerRun FirstSeat GameAnswer) → List GameAnswer
  answers_of shares = flat_map (λ s. s.made) shares

  abbrev seats_of : List (WorkerRun FirstSeat GameAnswer) → List FirstSeat
  seats_of shares = map (λ s. s.kept) shares

  each_joined : (shares : List (WorkerRun FirstSeat GameAnswer)) → All IsSearched shares → All (IsAnswerIn query batch) (answers_of shares)
  each_joined [] all = All-nil (IsAnswerIn query batch)
  each_joined (s ∷ ss) all =
      let one : IsSearched s = All-head IsSearched s ss all in
      All-append (IsAnswerIn query batch) s.made (answers_of ss) one.has_found.each (each_joined ss (All-tail IsSearched s ss all))

  drawn_joined : (shares : List (WorkerRun FirstSeat GameAnswer)) → All IsSearched shares → (x : ℕ) → x < size batch
      → answers_at (number_of batch + x) (answers_of shares) + times_in x (map skipped (seats_of shares)) ≡ times_in x (map (λ s. s.numbers) shares)
  drawn_joined [] all x less = refl
  drawn_joined (s ∷ ss) all x less =
      let one : IsSearched s = All-head IsSearched s ss all in
      let d = one.has_found.drawn_ x less in
      let r = drawn_joined ss (All-tail IsSearched s ss all) x less in
      let a : answers_at (number_of batch + x) (answers_of (s ∷ ss)) ≡ answers_at (number_of batch + x) s.made + answers_at (number_of batch + x) (answers_of ss) =
      answers_both (number_of batch + x) s.made (answers_of ss) (answers_of (s ∷ ss)) refl in
      let k : times_in x (map skipped (seats_of (s ∷ ss))) ≡ times x (skipped s.kept) + times_in x (map skipped (seats_of ss)) =
      sum_by-cons (times x) (skipped s.kept) (map skipped (seats_of ss)) in
      let n : times_in x (map (λ (t : WorkerRun FirstSeat GameAnswer). t.numbers) (s ∷ ss)) ≡ times x s.numbers + times_in x (map (λ (t : WorkerRun FirstSeat GameAnswer). t.numbers) ss) =
      sum_by-cons (times x) s.numbers (map (λ (t : WorkerRun FirstSeat GameAnswer). t.numbers) ss) in omega (arith, d, r, a, k, n)

  found_joined : (shares : List (WorkerRun FirstSeat GameAnswer)) → All IsSearched shares → (x : ℕ) → x < size batch
      → matches_at (number_of batch + x) (answers_of shares) ≡ times_in x (map found (seats_of shares))
  found_joined [] all x less = refl
  found_joined (s ∷ ss) all x less =
      let one : IsSearched s = All-head IsSearched s ss all in
      let d = one.has_found.found_ x less in
      let r = found_joined ss (All-tail IsSearched s ss all) x less in
      let a : matches_at (number_of batch + x) (answers_of (s ∷ ss)) ≡ matches_at (number_of batch + x) s.made + matches_at (number_of batch + x) (answers_of ss) =
      matches_both (number_of batch + x) s.made (answers_of ss) (answers_of (s ∷ ss)) refl in
      let k : times_in x (map found (seats_of (s ∷ ss))) ≡ times x (found s.kept) + times_in x (map found (seats_of ss)) =
      sum_by-cons (times x) (found s.kept) (map found (seats_of ss)) in omega (arith, d, r, a, k)

none_or_some : (n : ℕ) → (n ≡ 0) ⊎ (0 < n)
none_or_some zero = inl refl
none_or_some (suc n) = inr (omega arith)

pub are_found : (first : FirstBoard) (query : QueryTree) (batch : Batch) (word : ℕ) (seats : List FirstSeat) (answers : List GameAnswer)
    → AreOutputsOf (HasSearched first query batch) (size batch) seats answers → IsLeastFound (size batch) word (map found seats) (map skipped seats)
    → AreFound query batch word answers
are_found first query batch word seats answers are is = record {
  high = is.high;
  each = subst (All (IsAnswerIn query batch)) (sym are.outputs_are) (each_joined first query batch are.shares are.each);
  once = λ x less. let d = taken x less in omega (arith, d);
  there = λ x less le. let d = taken x less in
      ⊎_elim (λ z. omega arith) (λ s. let f = is.each_skipped x s in absurd (omega arith)) (none_or_some (times_in x (map skipped seats)));
  before = λ x less lt. let d = matched x less in
      ⊎_elim (λ z. d ∙ z) (λ s. let f = is.each_found x s in absurd (omega arith)) (none_or_some (times_in x (map found seats)));
  at_word = λ less. let d = matched word less in ⊎_elim (λ e. absurd (omega arith)) (λ s. omega arith) is.least;
}
  where
    taken : (x : ℕ) → x < size batch → answers_at (number_of batch + x) answers + times_in x (map skipped seats) ≡ 1
    taken x less =
        let a = ap (answers_at (number_of batch + x)) are.outputs_are in let k = ap (λ ms. times_in x (map skipped ms)) are.states_are in
        let j = drawn_joined first query batch are.shares are.each x less in let o = are.once x less in omega (arith, a, k, j, o)

    matched : (x : ℕ) → x < size batch → matches_at (number_of batch + x) answers ≡ times_in x (map found seats)
    matched x less =
        ap (matches_at (number_of batch + x)) are.outputs_are ∙ (found_joined first query batch are.shares are.each x less ∙ sym (ap (λ ms. times_in x (map found ms)) are.states_are))
