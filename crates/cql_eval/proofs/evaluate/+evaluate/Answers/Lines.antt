-- The goals of lines, in the recursion over filters.
use Rattle.std.proofs.Common.{◌+◌, ◌≡◌, ◌∙◌, ap, sym, subst, arith, refl, length, true, false}
use Rattle.std.specs.Prelude.{OnOk}
use Rattle.std.specs.List.{list_any}
use Rattle.cql_syntax.specs.Meaning.{marked}
use Rattle.cql_syntax.specs.TreeOf.{filter_tree, parts_tree, body_tree}
use Rattle.cql_syntax.specs.Trees.{atom}
use Rattle.cql_columns.specs.Scopes.{tree_in, value_in, body_in}
use Rattle.cql_columns.specs.Costs.{filter_cost, body_cost, body_atoms, searched_len}
use Rattle.cql_columns.proofs.Filling.{live_below}
use Rattle.cql_columns.proofs.Costing.{ItemOf}
use Rattle.cql_lines.specs.Tables.{holds_in}
use Rattle.cql_operators.specs.LineAtoms.{AreAllAsked}
use Rattle.cql_operators.specs.SpelledParts.{IsLive, SpellsNothing}
use Rattle.cql_operators.proofs.SpelledAlike.{all_never, reach_from, wide_leads, wide_ends, group_leads, leads_at, ends_at, onward_at, not_met, group_ends}
use Rattle.cql_operators.proofs.LineTables.{walk_in, row_in, of_body, stage, started, table_begun, table_more, table_all, ends_all, filled_all, at_all, atom_tabled, atom_leads, atom_form, leads_form, ends_form, group_tabled, group_never, never_form, atom_never, not_some}
use Rattle.cql_operators.proofs.LinesLaw.{held_put, no_line, parts_cost_more, parts_cost_within, atoms_within}
use Rattle.cql_operators.proofs.LineAtoms.{part_flat}
use Rattle.cql_operators.proofs.LineTables.{part_room}
use Rattle.cql_eval.proofs.FormLaws.{IfOk_then, within}
use Rattle.cql_eval.proofs.evaluate.+evaluate.Goals as goal

pub lines::put_row-loop-part-init : goal.lines::put_row-loop-part-init
lines::put_row-loop-part-init g t c =
    let row = row_in c.args.way.now.scope.now c.args.way.now.back c.as_slice-part-items.result.now
    (stage c.args.first c.args.live.now c.args.row.now.met c.args.row.now.table) in
    let begun = table_begun row c.in_ok-starts.starts.items c.requires.asked c.in_ok-starts.ensures in
    record {
      table = begun;
      asked = begun.asked;
      cost = omega arith;
      rises = omega arith;
      flat = λ i k h e. part_flat c.as_slice-part-items.result.now i k (parts_tree c.args.parts.now) h e c.as_slice-part-items.ensures.tree c.requires.flat;
      room = λ k h e. part_room row (record { index = 0; item = k; below = h; is = e }) (started row.begun c.in_ok-starts.starts.items)
          (length c.args.way.now.scope.now.game.now.nodes) (parts_tree c.args.parts.now) begun c.as_slice-part-items.ensures.tree c.requires.room;
    }

pub lines::put_row-loop-part-preserved : goal.lines::put_row-loop-part-preserved
lines::put_row-loop-part-preserved g t c =
    let row = row_in c.args.way.now.scope.now c.args.way.now.back c.as_slice-part-items.result.now
    (stage c.args.first c.args.live.now c.args.row.now.met c.args.row.now.table) in
    let part : ItemOf c.as_slice-part-items.result.now =
    record { index = c.loop-part.part-index; item = c.part-item.result; below = c.loop-part-test.true; is = c.part-item.is } in
    let next = stage c.in_ok-at.at c.put_part.new.starts.items c.put_part.new.row.met c.put_part.new.row.table in
    let more = table_more row part
    (stage c.loop-part.at c.loop-part.starts.items c.loop-part.row.met c.loop-part.row.table) next
    c.in_ok-at.ensures.next c.in_ok-at.ensures.leads c.in_ok-at.ensures.ends c.in_ok-at.ensures.others c.loop-part.invariant.table in
    record {
      table = more;
      asked = more.asked;
      cost = parts_cost_more (searched_len (tree_in c.args.way.now.scope.now)) c.as_slice-part-items.result.now part _ c.loop-part.steps
          c.put_part.new.steps c.loop-part.invariant.cost c.put_part.ensures.cost;
      rises = omega (arith, c.loop-part.invariant.rises, c.put_part.ensures.rises);
      flat = c.loop-part.invariant.flat;
      room = λ k h e. part_room row (record { index = c.loop-part.part-index + 1; item = k; below = h; is = e }) next
          (length c.args.way.now.scope.now.game.now.nodes) (parts_tree c.args.parts.now) more c.as_slice-part-items.ensures.tree c.requires.room;
    }

pub lines::put_row-returns-clause-next : goal.lines::put_row-returns-clause-next
lines::put_row-returns-clause-next g t c =
    at_all (row_in c.args.way.now.scope.now c.args.way.now.back c.as_slice-part-items.result.now (stage c.args.first c.args.live.now c.args.row.now.met c.args.row.now.table))
    c.loop-part.part-index (stage c.loop-part.at c.loop-part.starts.items c.loop-part.row.met c.loop-part.row.table) (parts_tree c.args.parts.now)
    (omega (arith, c.loop-part-test.false)) c.as_slice-part-items.ensures.tree c.loop-part.invariant.table

pub lines::put_row-returns-clause-value : goal.lines::put_row-returns-clause-value
lines::put_row-returns-clause-value g t c =
    table_all (row_in c.args.way.now.scope.now c.args.way.now.back c.as_slice-part-items.result.now (stage c.args.first c.args.live.now c.args.row.now.met c.args.row.now.table))
    c.loop-part.part-index (stage c.loop-part.at c.loop-part.starts.items c.loop-part.row.met c.loop-part.row.table) (parts_tree c.args.parts.now)
    (omega (arith, c.loop-part-test.false)) c.as_slice-part-items.ensures.tree c.loop-part.invariant.table

pub lines::put_row-returns-clause-never : goal.lines::put_row-returns-clause-never
lines::put_row-returns-clause-never g t c =
    ends_all (row_in c.args.way.now.scope.now c.args.way.now.back c.as_slice-part-items.result.now (stage c.args.first c.args.live.now c.args.row.now.met c.args.row.now.table))
    c.loop-part.part-index (stage c.loop-part.at c.loop-part.starts.items c.loop-part.row.met c.loop-part.row.table) (parts_tree c.args.parts.now)
    (omega (arith, c.loop-part-test.false)) c.as_slice-part-items.ensures.tree c.loop-part.invariant.table

pub lines::put_row-returns-clause-others : goal.lines::put_row-returns-clause-others
lines::put_row-returns-clause-others g t c =
    filled_all (row_in c.args.way.now.scope.now c.args.way.now.back c.as_slice-part-items.result.now (stage c.args.first c.args.live.now c.args.row.now.met c.args.row.now.table))
    c.loop-part.part-index (stage c.loop-part.at c.loop-part.starts.items c.loop-part.row.met c.loop-part.row.table) (parts_tree c.args.parts.now)
    (omega (arith, c.loop-part-test.false)) c.as_slice-part-items.ensures.tree c.loop-part.invariant.table

pub lines::put_row-returns-in_err-at-clause-cost : goal.lines::put_row-returns-in_err-at-clause-cost
lines::put_row-returns-in_err-at-clause-cost g t c =
    parts_cost_within (searched_len (tree_in c.args.way.now.scope.now)) c.as_slice-part-items.result.now
    (record { index = c.loop-part.part-index; item = c.part-item.result; below = c.loop-part-test.true; is = c.part-item.is }) _ c.loop-part.steps
    c.put_part.new.steps (parts_tree c.args.parts.now) c.loop-part.invariant.cost c.put_part.ensures.cost
    c.as_slice-part-items.ensures.tree

pub lines::put_wherever-put_nodes-requires-clause-atom : goal.lines::put_wherever-put_nodes-requires-clause-atom
lines::put_wherever-put_nodes-requires-clause-atom g t c =
    let form : body_tree c.args.body.now ≡ atom (filter_tree c.deref.result.now) =
    ap body_tree c.in-Atom.is ∙ ap (λ p. atom (filter_tree p)) (sym c.deref.ensures) in
    omega (arith, c.requires.room.atoms, ap body_atoms form)

pub lines::put_wherever-put_nodes-requires-clause-clear : goal.lines::put_wherever-put_nodes-requires-clause-clear
lines::put_wherever-put_nodes-requires-clause-clear g t c = λ n. c.requires.room.clear c.args.first n (omega arith)

pub lines::put_wherever-returns-in_ok-held-in-Atom-clause-value : goal.lines::put_wherever-returns-in_ok-held-in-Atom-clause-value
lines::put_wherever-returns-in_ok-held-in-Atom-clause-value g t c =
    atom_form (tree_in c.args.way.now.scope.now) c.args.way.now.back c.args.way.now.scope.now.names.now
    (IsLive c.args.live.now) c.put_nodes.new.table c.args.first (body_tree c.args.body.now) (filter_tree c.deref.result.now)
    (ap body_tree c.in-Atom.is ∙ ap (λ p. atom (filter_tree p)) (sym c.deref.ensures))
    (atom_tabled (tree_in c.args.way.now.scope.now) c.args.way.now.back c.put_nodes.new.table c.args.first c.in_ok-column-in-Atom.column
    (value_in c.args.way.now.scope.now (filter_tree c.deref.result.now)) c.args.live.now c.requires.asked
    c.in_ok-column-in-Atom.ensures.value
    (held_put _ c.args.live.now c.in_ok-column-in-Atom.column c.in_ok-held-in-Atom.held.items c.deref-in-Atom.result.now
    (holds_in c.put_nodes.new.table c.args.first) _ c.in_ok-held-in-Atom.ensures
    c.deref-in-Atom.ensures.value c.put_nodes.ensures.put))

pub lines::put_wherever-returns-in_ok-held-in-Atom-clause-never : goal.lines::put_wherever-returns-in_ok-held-in-Atom-clause-never
lines::put_wherever-returns-in_ok-held-in-Atom-clause-never g t c =
    λ b m. never_form (tree_in c.args.way.now.scope.now) c.args.way.now.back c.args.way.now.scope.now.names.now (IsLive c.args.live.now)
    (body_tree c.args.body.now) (filter_tree c.deref.result.now) (ap body_tree c.in-Atom.is ∙ ap (λ p. atom (filter_tree p)) (sym c.deref.ensures))
    (atom_never (tree_in c.args.way.now.scope.now) c.args.way.now.back c.put_nodes.new.table c.args.first c.in_ok-column-in-Atom.column
    (value_in c.args.way.now.scope.now (filter_tree c.deref.result.now)) c.args.live.now c.requires.asked
    c.in_ok-column-in-Atom.ensures.value
    (held_put _ c.args.live.now c.in_ok-column-in-Atom.column c.in_ok-held-in-Atom.held.items c.deref-in-Atom.result.now
    (holds_in c.put_nodes.new.table c.args.first) _ c.in_ok-held-in-Atom.ensures
    c.deref-in-Atom.ensures.value c.put_nodes.ensures.put)
    c.in_ok-held-in-Atom.held.items c.in_ok-held-in-Atom.ensures
    (ap (list_any (λ x. x)) (sym c.deref-in-Atom-2.ensures.value) ∙ sym c.any_live-some.ensures ∙ not_some _ _ b (sym c.both-row.ensures ∙ m)))

pub lines::put_part-returns-clause-leads : goal.lines::put_part-returns-clause-leads
lines::put_part-returns-clause-leads g t c =
    wide_leads (tree_in c.args.way.now.scope.now) c.requires.tree c.args.way.now.back
    (reach_from _ _ c.args.starts.now.items c.deref.result.now c.in_ok-wide.wide.items c.deref.ensures.value c.requires.asked c.in_ok-wide.ensures)
    c.deref-2.result.now c.deref-2.ensures.value
    (of_body (walk_in c.args.way.now.scope.now c.args.way.now.back) c.put_wherever.new.row.table c.args.first (body_tree c.args.part.now.body))
    c.args.part.now.mark c.in_ok-next.ensures.value

pub lines::put_part-returns-clause-ends : goal.lines::put_part-returns-clause-ends
lines::put_part-returns-clause-ends g t c =
    λ b m. let parts = not_met _ _ _ b (sym c.goes_on-row.ensures ∙ m) in
    wide_ends (tree_in c.args.way.now.scope.now) c.requires.tree c.args.way.now.back
    (reach_from _ _ c.args.starts.now.items c.deref.result.now c.in_ok-wide.wide.items c.deref.ensures.value c.requires.asked c.in_ok-wide.ensures)
    c.deref-2.result.now c.deref-2.ensures.value (body_in c.args.way.now.scope.now (body_tree c.args.part.now.body)) c.args.part.now.mark
    (sym c.is_needed-needed.ensures ∙ parts.1) (c.in_ok-next.ensures.never refl parts.0)

pub lines::put_once-returns-in_ok-behind-in-Atom-clause-leads : goal.lines::put_once-returns-in_ok-behind-in-Atom-clause-leads
lines::put_once-returns-in_ok-behind-in-Atom-clause-leads g t c =
    leads_at (tree_in c.args.way.now.scope.now) c.args.way.now.back c.args.starts.now.items c.deref-in-Atom.result.now c.in_ok-behind-in-Atom.behind.items
    c.deref-in-Atom.ensures.value
    (of_body (walk_in c.args.way.now.scope.now c.args.way.now.back) c.put_atom_once.new.row.table c.args.first (body_tree c.args.body.now))
    (leads_form (walk_in c.args.way.now.scope.now c.args.way.now.back) c.deref-in-Atom.result.now c.in_ok-behind-in-Atom.behind.items
    c.put_atom_once.new.row.table c.args.first (body_tree c.args.body.now) (filter_tree c.deref.result.now)
    (ap body_tree c.in-Atom.is ∙ ap (λ p. atom (filter_tree p)) (sym c.deref.ensures)) c.in_ok-behind-in-Atom.ensures.leads)

pub lines::put_once-returns-in_ok-behind-in-Atom-clause-ends : goal.lines::put_once-returns-in_ok-behind-in-Atom-clause-ends
lines::put_once-returns-in_ok-behind-in-Atom-clause-ends g t c =
    λ b m. ends_at (tree_in c.args.way.now.scope.now) c.args.way.now.back c.args.starts.now.items c.deref-in-Atom.result.now c.deref-in-Atom.ensures.value
    (body_in c.args.way.now.scope.now (body_tree c.args.body.now))
    (ends_form (tree_in c.args.way.now.scope.now) c.args.way.now.back c.args.way.now.scope.now.names.now c.deref-in-Atom.result.now
    (body_tree c.args.body.now) (filter_tree c.deref.result.now)
    (ap body_tree c.in-Atom.is ∙ ap (λ p. atom (filter_tree p)) (sym c.deref.ensures)) (c.in_ok-behind-in-Atom.ensures.ends b m))

pub lines::put_once-returns-in_ok-starts-in-Group-clause-leads : goal.lines::put_once-returns-in_ok-starts-in-Group-clause-leads
lines::put_once-returns-in_ok-starts-in-Group-clause-leads g t c =
    group_leads (tree_in c.args.way.now.scope.now) c.requires.tree c.args.way.now.back
    (reach_from _ _ c.args.starts.now.items c.deref-in-Group-2.result.now c.in_ok-starts-in-Group.field-0.items
    c.deref-in-Group-2.ensures.value c.requires.asked c.in_ok-starts-in-Group.ensures)
    c.deref-in-Group.result.now c.deref-in-Group.ensures.value
    (of_body (walk_in c.args.way.now.scope.now c.args.way.now.back) c.put_row.new.row.table c.args.first (body_tree c.args.body.now))
    (group_tabled (tree_in c.args.way.now.scope.now) c.args.way.now.back c.args.way.now.scope.now.names.now
    (IsLive c.deref-in-Group.result.now) c.put_row.new.row.table c.args.first (body_tree c.args.body.now) (parts_tree c.in-Group.parts)
    (ap body_tree c.in-Group.is) c.in_ok-next-in-Group.ensures.value)

pub lines::put_once-returns-in_ok-starts-in-Group-clause-ends : goal.lines::put_once-returns-in_ok-starts-in-Group-clause-ends
lines::put_once-returns-in_ok-starts-in-Group-clause-ends g t c =
    λ b m. ends_at (tree_in c.args.way.now.scope.now) c.args.way.now.back c.args.starts.now.items c.deref-in-Group.result.now c.deref-in-Group.ensures.value
    (body_in c.args.way.now.scope.now (body_tree c.args.body.now))
    (group_ends (tree_in c.args.way.now.scope.now) c.args.way.now.back c.deref-in-Group.result.now
    (body_in c.args.way.now.scope.now (body_tree c.args.body.now))
    (group_never (tree_in c.args.way.now.scope.now) c.args.way.now.back c.args.way.now.scope.now.names.now (IsLive c.deref-in-Group.result.now)
    (body_tree c.args.body.now) (parts_tree c.in-Group.parts) (ap body_tree c.in-Group.is)
    (c.in_ok-next-in-Group.ensures.never b m)))

pub lines::put_part-returns-in-Once-clause-ends : goal.lines::put_part-returns-in-Once-clause-ends
lines::put_part-returns-in-Once-clause-ends g t c =
    subst (λ m. OnOk c.put_once.result (c.args.row.now.met ≡ true → c.put_once.new.row.met ≡ false → SpellsNothing (tree_in c.args.way.now.scope.now)
    c.args.way.now.back c.args.starts.now.items
    (marked m (body_in c.args.way.now.scope.now (body_tree c.args.part.now.body))))) (sym c.in-Once.is) c.put_once.ensures.ends

pub lines::put_atom_once-returns-clause-leads : goal.lines::put_atom_once-returns-clause-leads
lines::put_atom_once-returns-clause-leads g t c =
    atom_leads (tree_in c.args.way.now.scope.now) c.args.way.now.back c.put_nodes.new.table c.args.first c.in_ok-column.column
    (value_in c.args.way.now.scope.now (filter_tree c.args.filter.now))
    c.args.live.now c.requires.asked c.in_ok-column.ensures.value
    (held_put _ c.args.live.now c.in_ok-column.column c.in_ok-held.held.items c.deref.result.now
    (holds_in c.put_nodes.new.table c.args.first) _ c.in_ok-held.ensures
    c.deref.ensures.value c.put_nodes.ensures.put)
    c.in_ok-held.held.items c.in_ok-held.ensures c.in_ok-behind.behind.items
    (onward_at (tree_in c.args.way.now.scope.now) c.args.way.now.back c.in_ok-held.held.items c.deref-3.result.now c.in_ok-behind.behind.items
    c.deref-3.ensures.value c.in_ok-behind.ensures)

pub lines::put_atom_once-put_nodes-requires-clause-atom : goal.lines::put_atom_once-put_nodes-requires-clause-atom
lines::put_atom_once-put_nodes-requires-clause-atom g t c = omega (arith, c.requires.room.atoms)

pub lines::put_atom_once-put_nodes-requires-clause-clear : goal.lines::put_atom_once-put_nodes-requires-clause-clear
lines::put_atom_once-put_nodes-requires-clause-clear g t c = λ n. c.requires.room.clear c.args.first n (omega arith)

pub lines::line_column-returns-then-not-met-clause-value : goal.lines::line_column-returns-then-not-met-clause-value
lines::line_column-returns-then-not-met-clause-value g t c =
    λ n l. no_line (tree_in c.args.scope.now) c.requires.tree c.args.scope.now.names.now c.args.line.now c.new.result.items c.new.ensures.items
    (all_never (tree_in c.args.scope.now) _ c.deref.result.now _
    (subst (AreAllAsked (tree_in c.args.scope.now)) (sym c.deref.ensures.value) c.in_ok-all.ensures) (c.in_ok-put_row.ensures.never refl c.if-not-met.true)) n
    (c.requires.asked.searched n l, let inside = live_below c.args.live.now n l in omega (arith, inside, c.requires.asked.count))

pub lines::line_column-returns-then-not-met-clause-cost : goal.lines::line_column-returns-then-not-met-clause-cost
lines::line_column-returns-then-not-met-clause-cost g t c =
    atoms_within (searched_len (tree_in c.args.scope.now)) c.args.line.now _ c.put_row.new.steps c.put_row.ensures.cost

pub lines::line_column-returns-clause-value : goal.lines::line_column-returns-clause-value
lines::line_column-returns-clause-value g t c =
    IfOk_then c.spelled_column.result c.spelled_column.ensures.value
    (λ column is n l. let inside = live_below c.args.live.now n l in
    is n (c.requires.asked.searched n l, omega (arith, inside, c.requires.asked.count)))

pub lines::line_column-returns-clause-cost : goal.lines::line_column-returns-clause-cost
lines::line_column-returns-clause-cost g t c = c.spelled_column.ensures.cost _ c.put_row.ensures.cost

pub lines::line_column-returns-in_err-put_row-clause-cost : goal.lines::line_column-returns-in_err-put_row-clause-cost
lines::line_column-returns-in_err-put_row-clause-cost g t c =
    atoms_within (searched_len (tree_in c.args.scope.now)) c.args.line.now _ c.put_row.new.steps c.put_row.ensures.cost

pub lines::put_wherever-returns-in_err-column-in-Atom-clause-cost : goal.lines::put_wherever-returns-in_err-column-in-Atom-clause-cost
unfolding filter_cost
lines::put_wherever-returns-in_err-column-in-Atom-clause-cost g t c =
    within _ _ _ _ (ap (body_cost (searched_len (tree_in c.args.way.now.scope.now))) (ap body_tree c.in-Atom.is ∙ ap (λ p. atom (filter_tree p)) (sym c.deref.ensures))) c.evaluate.ensures.cost

pub lines::put_wherever-returns-in_err-held-in-Atom-clause-cost : goal.lines::put_wherever-returns-in_err-held-in-Atom-clause-cost
unfolding filter_cost
lines::put_wherever-returns-in_err-held-in-Atom-clause-cost g t c =
    within _ _ _ _ (ap (body_cost (searched_len (tree_in c.args.way.now.scope.now))) (ap body_tree c.in-Atom.is ∙ ap (λ p. atom (filter_tree p)) (sym c.deref.ensures))) c.evaluate.ensures.cost

pub lines::put_wherever-returns-in_ok-held-in-Atom-clause-cost : goal.lines::put_wherever-returns-in_ok-held-in-Atom-clause-cost
unfolding filter_cost
lines::put_wherever-returns-in_ok-held-in-Atom-clause-cost g t c =
    within _ _ _ _ (ap (body_cost (searched_len (tree_in c.args.way.now.scope.now))) (ap body_tree c.in-Atom.is ∙ ap (λ p. atom (filter_tree p)) (sym c.deref.ensures))) c.evaluate.ensures.cost

pub lines::put_wherever-returns-in-Group-clause-cost : goal.lines::put_wherever-returns-in-Group-clause-cost
unfolding filter_cost
lines::put_wherever-returns-in-Group-clause-cost g t c =
    within _ _ _ _ (ap (body_cost (searched_len (tree_in c.args.way.now.scope.now))) (ap body_tree c.in-Group.is)) c.put_row.ensures.cost

pub lines::put_once-returns-in_err-behind-in-Atom-clause-cost : goal.lines::put_once-returns-in_err-behind-in-Atom-clause-cost
unfolding filter_cost
lines::put_once-returns-in_err-behind-in-Atom-clause-cost g t c =
    within _ _ _ _ (ap (body_cost (searched_len (tree_in c.args.way.now.scope.now))) (ap body_tree c.in-Atom.is ∙ ap (λ p. atom (filter_tree p)) (sym c.deref.ensures))) c.put_atom_once.ensures.cost

pub lines::put_once-returns-in_ok-behind-in-Atom-clause-cost : goal.lines::put_once-returns-in_ok-behind-in-Atom-clause-cost
unfolding filter_cost
lines::put_once-returns-in_ok-behind-in-Atom-clause-cost g t c =
    within _ _ _ _ (ap (body_cost (searched_len (tree_in c.args.way.now.scope.now))) (ap body_tree c.in-Atom.is ∙ ap (λ p. atom (filter_tree p)) (sym c.deref.ensures))) c.put_atom_once.ensures.cost

pub lines::put_once-returns-in_err-next-in-Group-clause-cost : goal.lines::put_once-returns-in_err-next-in-Group-clause-cost
unfolding filter_cost
lines::put_once-returns-in_err-next-in-Group-clause-cost g t c =
    within _ _ _ _ (ap (body_cost (searched_len (tree_in c.args.way.now.scope.now))) (ap body_tree c.in-Group.is)) c.put_row.ensures.cost

pub lines::put_once-returns-in_err-starts-in-Group-clause-cost : goal.lines::put_once-returns-in_err-starts-in-Group-clause-cost
unfolding filter_cost
lines::put_once-returns-in_err-starts-in-Group-clause-cost g t c =
    within _ _ _ _ (ap (body_cost (searched_len (tree_in c.args.way.now.scope.now))) (ap body_tree c.in-Group.is)) c.put_row.ensures.cost

pub lines::put_once-returns-in_ok-starts-in-Group-clause-cost : goal.lines::put_once-returns-in_ok-starts-in-Group-clause-cost
unfolding filter_cost
lines::put_once-returns-in_ok-starts-in-Group-clause-cost g t c =
    within _ _ _ _ (ap (body_cost (searched_len (tree_in c.args.way.now.scope.now))) (ap body_tree c.in-Group.is)) c.put_row.ensures.cost
