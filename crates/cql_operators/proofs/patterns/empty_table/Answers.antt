use Rattle.std.proofs.Common.{length, arith}
use Rattle.cql_operators.proofs.LinesLaw.{table_clear, table_nodes}
use Rattle.cql_operators.proofs.patterns.empty_table.Goals as goal

pub new-requires-clause-nodes : goal.new-requires-clause-nodes
new-requires-clause-nodes g c = omega (arith, c.requires.tree.few, c.len.ensures.len)

pub returns-clause-room : goal.returns-clause-room
returns-clause-room g c = record {
  few = omega (arith, c.requires.few);
  atoms = omega (arith, c.in_ok-table.ensures.atoms, c.in_ok-pattern.ensures.next);
  nodes = table_nodes c.in_ok-table.table c.len.result (length c.args.game.now.nodes) c.in_ok-table.ensures.bits c.len.ensures.len;
  clear = table_clear c.in_ok-table.table c.len.result c.in_ok-table.ensures.bits;
}
