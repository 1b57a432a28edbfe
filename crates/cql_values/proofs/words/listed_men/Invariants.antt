use Rattle.cql_values.proofs.Standing.{ListedTo}
use Rattle.cql_values.proofs.words.listed_men.Given as goal

abbrev pub invariant-loop-man : goal.invariant-loop-man
invariant-loop-man l = ListedTo l.wanted l.man-items l.man-index l.listed.items
