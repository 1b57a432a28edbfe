use Rattle.std.proofs.Common.{◌≡◌, ◌++◌, drop}
use Rattle.cql_rewrite.specs.FlatText.{each_after}
use Rattle.cql_rewrite.proofs.text_pieces.push_each.Given as goal

abbrev pub invariant-loop-part : goal.invariant-loop-part
invariant-loop-part l = l.text ++ each_after l.mark (drop l.part-index l.more) ≡ l.fn.text ++ each_after l.fn.mark l.fn.more
