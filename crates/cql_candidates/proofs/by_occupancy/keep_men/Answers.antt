use Rattle.cql_candidates.proofs.OccupancyColumnLaw.{men_kept}
use Rattle.cql_candidates.proofs.by_occupancy.keep_men.Goals as goal

pub returns-in-Some-clause-kept : goal.returns-in-Some-clause-kept
returns-in-Some-clause-kept c = λ told tree are.
    men_kept tree c.args.held.now c.keep_meeting.new.held c.args.d.now c.in-Some.sets.now (c.in-Some.ensures tree c.args.held.now are) c.keep_meeting.ensures
