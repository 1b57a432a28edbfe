use Rattle.std.proofs.Common.{◌≡◌, ℕ, ◌+◌, ◌<◌, length, map, slice_set, get_or, ◌∙◌, sym, ap, subst, arith, None}
use Rattle.std.proofs.lemmas.List.{length-map, length-set, length-replicate}
use Rattle.cql_lines.specs.Internal.Cells.{Represents, AllowedLength}
use Rattle.cql_lines.specs.Internal.DownwardPass.{cell}
use Rattle.cql_lines.specs.Internal.AcceptedLengths.{AcceptedLength}
use Rattle.cql_lines.specs.Internal.Passes.{IsVisited, PassInvariant, turns_before}
use Rattle.cql_lines.specs.Shapes.{Edge, is_searched}
use Rattle.cql_lines.specs.Tables.{holds}
use Rattle.cql_lines.specs.Values.{GreatestWhere}
use Rattle.cql_lines.proofs.CellsLaw.{none_known}
use Rattle.cql_lines.proofs.Counts.{exact_begun, exact_more, all_counted, no_more}
use Rattle.cql_lines.proofs.PassLaw.{pass_first, turn_of, node_low, none_done, all_done, pass_more}
use Rattle.cql_lines.proofs.visits.longest.Goals as goal

low_turn : (size nodes turn : ℕ) → nodes ≡ size → turn < nodes → turn < size
low_turn size nodes turn e low = omega arith

pub loop-turn-init : goal.loop-turn-init
loop-turn-init g c = record {
  stands =
      pass_first c.args.shape.now.back (Represents g.R.StateLengths.sets) (none_known g.R.StateLengths.sets) c.args.table.now.words.items c.args.rules.now c.args.shape.now.primary
      c.args.shape.now.tree_nodes.items (map g.R.StateLengths.cells c.as_mut_slice-grid.result.now)
      (length-map c.as_mut_slice-grid.result.now g.R.StateLengths.cells ∙ ap length c.as_mut_slice-grid.ensures.value ∙ c.in_ok-rows.ensures.count ∙ c.len-nodes.ensures)
      (subst (λ rows. (n j : ℕ) → cell (map g.R.StateLengths.cells rows) n j ≡ 0) (sym c.as_mut_slice-grid.ensures.value) c.in_ok-rows.ensures.blank);
  size = ap length c.in_ok-values.ensures ∙ length-replicate c.len-nodes.result None ∙ c.len-nodes.ensures;
  done = λ n early low. absurd (none_done c.args.shape.now.back _ n early low);
  exact = exact_begun c.args.shape.now.back c.args.shape.now.tree_nodes.items c.args.table.now.atoms _;
}

pub node_at_turn-node-requires : goal.node_at_turn-node-requires
node_at_turn-node-requires g c = low_turn _ _ _ c.len-nodes.ensures c.loop-turn-test.true

pub visit-requires-clause-counts : goal.visit-requires-clause-counts
visit-requires-clause-counts g c = c.requires.counts

pub visit-requires-clause-fit : goal.visit-requires-clause-fit
visit-requires-clause-fit g c = c.requires.fit

pub visit-requires-clause-node : goal.visit-requires-clause-node
visit-requires-clause-node g c =
    subst (λ n. n < length c.args.shape.now.tree_nodes.items) (sym c.node_at_turn-node.ensures)
    (node_low c.args.shape.now.back _ _ (low_turn _ _ _ c.len-nodes.ensures c.loop-turn-test.true))

pub visit-requires-clause-stands : goal.visit-requires-clause-stands
visit-requires-clause-stands g c =
    subst (λ t. PassInvariant c.args.shape.now.back (Represents g.R.StateLengths.sets) c.args.table.now.words.items c.args.rules.now c.args.shape.now.primary c.args.shape.now.tree_nodes.items t
    (map g.R.StateLengths.cells c.loop-turn.grid))
    (sym (ap (turns_before c.args.shape.now.back (length c.args.shape.now.tree_nodes.items)) c.node_at_turn-node.ensures
    ∙ turn_of c.args.shape.now.back _ _ (low_turn _ _ _ c.len-nodes.ensures c.loop-turn-test.true)))
    c.loop-turn.invariant.stands

pub loop-turn-preserved : goal.loop-turn-preserved
loop-turn-preserved g c =
    let s = c.args.shape.now in
    let size = length s.tree_nodes.items in
    let low = low_turn size c.len-nodes.result c.loop-turn.turn c.len-nodes.ensures c.loop-turn-test.true in
    let turns = ap (turns_before s.back size) c.node_at_turn-node.ensures ∙ turn_of s.back size c.loop-turn.turn low in
    let P : ℕ → ℕ → Type 0 = λ n. AllowedLength s.extent (AcceptedLength (holds c.args.table.now.words.items) c.args.rules.now (Edge s.back s.primary s.tree_nodes.items) c.args.first n) in
    record {
      stands =
          subst (λ t. PassInvariant s.back (Represents g.R.StateLengths.sets) c.args.table.now.words.items c.args.rules.now s.primary s.tree_nodes.items (t + 1)
          (map g.R.StateLengths.cells c.visit.new.rows)) turns c.visit.ensures.stands;
      size = length-set c.loop-turn.values.items c.node_at_turn-node.result c.visit.result ∙ c.loop-turn.invariant.size;
      done = subst (λ k. (n : ℕ) → IsVisited s.back size (c.loop-turn.turn + 1) n → n < size →
          GreatestWhere (is_searched s.tree_nodes.items n) (P n) (get_or (slice_set c.loop-turn.values.items k c.visit.result) n None)) (sym c.node_at_turn-node.ensures)
          (pass_more s.back P (is_searched s.tree_nodes.items) size c.loop-turn.values.items c.visit.result c.loop-turn.turn c.loop-turn.invariant.size low
          (subst (λ k. GreatestWhere (is_searched s.tree_nodes.items k) (P k) c.visit.result) c.node_at_turn-node.ensures c.visit.ensures.value) c.loop-turn.invariant.done);
      exact = exact_more s.back s.tree_nodes.items c.args.table.now.atoms _ _ _ c.loop-turn.turn low
          (λ off. c.visit.ensures.unsearched (ap (is_searched s.tree_nodes.items) c.node_at_turn-node.ensures ∙ off))
          (λ on. c.visit.ensures.searched (ap (is_searched s.tree_nodes.items) c.node_at_turn-node.ensures ∙ on)) c.loop-turn.invariant.exact;
    }

pub returns-clause-count : goal.returns-clause-count
returns-clause-count g c = c.loop-turn.invariant.size

pub returns-clause-values : goal.returns-clause-values
returns-clause-values g c = λ n low. c.loop-turn.invariant.done n (all_done c.args.shape.now.back _ _ _ n c.len-nodes.ensures c.loop-turn-test.false low) low

pub returns-clause-exact : goal.returns-clause-exact
returns-clause-exact g c =
    all_counted c.args.shape.now.back c.args.shape.now.tree_nodes.items c.args.table.now.atoms _ _ _ _ c.len-nodes.ensures c.loop-turn-test.false c.loop-turn.invariant.exact

pub returns-clause-cost : goal.returns-clause-cost
returns-clause-cost g c =
    no_more _ _ (all_counted c.args.shape.now.back c.args.shape.now.tree_nodes.items c.args.table.now.atoms _ _ _ _ c.len-nodes.ensures c.loop-turn-test.false c.loop-turn.invariant.exact)
