use Rattle.cql_values.proofs.MenFound.{FoundTo}
use Rattle.cql_values.proofs.words.squares_of_each.Given as goal

abbrev pub invariant-loop-left : goal.invariant-loop-left
invariant-loop-left l = FoundTo l.men l.wanted l.left l.mask

abbrev pub decreases-loop-left : goal.decreases-loop-left
decreases-loop-left l = l.left
