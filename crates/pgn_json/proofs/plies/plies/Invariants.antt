use Rattle.pgn_json.specs.Internal.Remaining.{ArePlies}
use Rattle.pgn_json.proofs.plies.plies.Given as goal

abbrev pub invariant-loop-k : goal.invariant-loop-k
invariant-loop-k l = ArePlies l.game.nodes l.k l.plies.items
