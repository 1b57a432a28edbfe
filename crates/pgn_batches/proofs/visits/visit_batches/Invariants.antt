use Rattle.std.proofs.Common.{◌≡◌, ◌+◌, ◌-◌}
use Rattle.pgn_batches.specs.Visits.{moment}
use Rattle.pgn_batches.proofs.Reached.{place_of}
use Rattle.pgn_batches.proofs.Taking.{Rounds}
use Rattle.pgn_batches.proofs.visits.visit_batches.Given as goal

-- the games of the batches so far were taken
abbrev pub invariant-rounds : goal.invariant-rounds
invariant-rounds g l =
    let source = g.S.Source in
    let visitor = g.T.BatchVisitor in
    record {
      rounds : Rounds (place_of l.fn.limit l.batches (source.left l.fn.source) (source.left l.source))
          (visitor.has_taken (moment l.fn.visitor l.fn.out l.fn.err) (moment l.visitor l.out l.err)) l.games;
      counts : source.faults l.source ≡ source.faults l.fn.source;
      next : source.follows l.fn.source l.source;
    }

abbrev pub decreases-rounds : goal.decreases-rounds
decreases-rounds g l = (l.fn.limit + 2) - l.games
