use Rattle.std.proofs.Common.{◌≡◌, ℕ, map, sym, subst, rules}
use Rattle.cql_lines.specs.Internal.DownwardPass.{cell}
use Rattle.cql_lines.proofs.RowsLaw.{blank_more}
use Rattle.cql_lines.proofs.visits.blank_rows.Goals as goal

pub loop-turn-preserved : goal.loop-turn-preserved
loop-turn-preserved g c = record {
  size = search rules;
  blank =
      subst (λ rows. (n j : ℕ) → cell (map g.R.StateLengths.cells rows) n j ≡ 0) (sym c.in_ok-push.ensures.items)
      (blank_more g.R.StateLengths.cells c.loop-turn.rows.items c.blank.result c.blank.ensures c.loop-turn.invariant.blank);
}
