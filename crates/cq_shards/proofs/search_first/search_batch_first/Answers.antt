use Rattle.std.proofs.Common.{◌≡◌, ℕ, ◌≤◌, ◌^◌, [], length, map, subst, arith, rules}
use Rattle.std.proofs.lemmas.List.Elements.{All-weaker}
use Rattle.pgn_batches.specs.Games.{games_of}
use Rattle.cq_first.specs.Seats.{IsLeastFound}
use Rattle.cq_shards.specs.Internal.Finders.{HasSearched, IsUnusedSeat, found, board_games, skipped}
use Rattle.cq_shards.specs.Internal.WorkerAnswers.{size}
use Rattle.cq_shards.proofs.FinderAnswers.{are_found, begins, seats_are}
use Rattle.cq_shards.proofs.search_first.search_batch_first.Goals as goal

pub run_workers-requires-clause-games : goal.run_workers-requires-clause-games
run_workers-requires-clause-games g c = λ lifetimes live. let few = c.args.batch.now.few in let e : length (games_of c.args.batch.now) ≤ 2 ^ 32 = omega (arith, few) in e

pub run_workers-requires-clause-nothing : goal.run_workers-requires-clause-nothing
run_workers-requires-clause-nothing g c = λ lifetimes live.
    let query = g.A.Matcher.query c.args.matcher.now in
    let below : board_games c.in_ok-first.first ≡ size c.args.batch.now = search rules in
    All-weaker (IsUnusedSeat c.in_ok-first.first) (λ seat. HasSearched c.in_ok-first.first query c.args.batch.now seat [] [])
    (λ seat unused. begins c.in_ok-first.first query c.args.batch.now seat below unused) c.in_ok-first.seats.items c.in_ok-first.ensures.seats

pub close-requires-clause-seats : goal.close-requires-clause-seats
close-requires-clause-seats g c =
    seats_are c.in_ok-first.first (g.A.Matcher.query c.args.matcher.now) c.args.batch.now _ c.in_ok-seats.seats.items c.in_ok-seats.answers.items c.in_ok-seats.ensures.made

pub cut_off-requires : goal.cut_off-requires
cut_off-requires g c =
    let seats = c.in_ok-seats.seats.items in
    let below : board_games c.in_ok-first.first ≡ size c.args.batch.now = search rules in
    are_found c.in_ok-first.first (g.A.Matcher.query c.args.matcher.now) c.args.batch.now c.in_ok-word.word seats c.in_ok-seats.answers.items c.in_ok-seats.ensures.made
    (subst (λ (n : ℕ). IsLeastFound n c.in_ok-word.word (map found seats) (map skipped seats)) below c.in_ok-word.ensures.first)
