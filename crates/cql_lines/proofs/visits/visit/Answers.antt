use Rattle.std.proofs.Common.{◌∙◌, ◌<◌, map, true≢false, refl, sym, subst, arith}
use Rattle.cql_lines.specs.Internal.Cells.{Represents, both_kinds, place_cell, AllowedLength}
use Rattle.cql_lines.specs.Internal.AcceptedLengths.{AcceptedLength}
use Rattle.cql_lines.specs.Shapes.{Edge, is_searched}
use Rattle.cql_lines.specs.Tables.{holds}
use Rattle.cql_lines.proofs.CellsLaw.{same_known, two_known, none_known, goes_known, room_after, read_answer}
use Rattle.cql_lines.proofs.PassLaw.{pass_below, pass_known, pass_rows, pass_unsearched, pass_updated}
use Rattle.cql_lines.proofs.RowsLaw.{as_many}
use Rattle.cql_lines.proofs.VisitLaw.{answered_by, unanswered, below_few}
use Rattle.cql_lines.proofs.visits.visit.Goals as goal

pub returns-then-not-searched-clause-stands : goal.returns-then-not-searched-clause-stands
returns-then-not-searched-clause-stands g c =
    let s = c.args.shape.now in
    let b = g.R.StateLengths.sets in
    pass_unsearched (Represents b) (both_kinds b) (same_known b) (two_known b) (none_known b) c.args.table.now.words.items c.args.rules.now s.primary s.tree_nodes.items s.below s.whole s.back c.args.node (map g.R.StateLengths.cells c.args.rows.now)
    c.requires.node c.requires.stands (sym c.searched.ensures ∙ c.if-not-searched.true)

pub own-own-requires-clause-room : goal.own-own-requires-clause-room
own-own-requires-clause-room g c = λ j.
    let s = c.args.shape.now in
    let b = g.R.StateLengths.sets in
    room_after s.primary s.tree_nodes.items s.below c.args.table.now.words.items c.args.rules.now c.requires.fit.nodes s.back b c.args.node j _ c.requires.node
    (pass_below (Represents b) (both_kinds b) (same_known b) (two_known b) (none_known b) c.args.table.now.words.items c.args.rules.now s.primary s.tree_nodes.items s.below s.whole s.back c.args.node (map g.R.StateLengths.cells c.args.rows.now)
    (g.R.StateLengths.cells c.next_row-next.result) c.requires.node c.requires.stands c.next_row-next.ensures j)

pub returns-clause-stands : goal.returns-clause-stands
returns-clause-stands g c =
    let s = c.args.shape.now in
    let b = g.R.StateLengths.sets in
    let rows = map g.R.StateLengths.cells c.args.rows.now in
    pass_updated (Represents b) (both_kinds b) (same_known b) (two_known b) (none_known b) c.args.table.now.words.items c.args.rules.now s.primary s.tree_nodes.items s.below s.whole s.back c.args.node rows
    (map g.R.StateLengths.cells c.keep_lengths.new.rows) (g.R.StateLengths.cells c.own-own.result) c.requires.node c.requires.stands
    (pass_known (Represents b) (both_kinds b) (same_known b) (two_known b) (none_known b) c.args.table.now.words.items c.args.rules.now s.primary s.tree_nodes.items s.below s.whole s.back (place_cell b) (goes_known b) c.args.node rows
    (g.R.StateLengths.cells c.next_row-next.result) (g.R.StateLengths.cells c.own-own.result) c.held-held.result c.args.table.now.atoms c.requires.node c.requires.stands
    c.next_row-next.ensures c.held-held.ensures.held c.requires.fit.atoms c.own-own.ensures.here c.own-own.ensures.past)
    c.keep_lengths.ensures

pub returns-clause-value : goal.returns-clause-value
returns-clause-value g c =
    let s = c.args.shape.now in
    let b = g.R.StateLengths.sets in
    let rows = map g.R.StateLengths.cells c.args.rows.now in
    answered_by (is_searched s.tree_nodes.items c.args.node)
    (AllowedLength s.extent (AcceptedLength (holds c.args.table.now.words.items) c.args.rules.now (Edge s.back s.primary s.tree_nodes.items) c.args.first c.args.node))
    c.greatest_allowed.result (sym c.searched.ensures ∙ c.if-not-searched.false)
    (read_answer c.args.table.now.words.items c.args.rules.now (Edge s.back s.primary s.tree_nodes.items) c.args.first c.args.node
    (g.R.StateLengths.cells c.own-own.result) b s.extent c.greatest_allowed.result c.requires.counts
    (pass_known (Represents b) (both_kinds b) (same_known b) (two_known b) (none_known b) c.args.table.now.words.items c.args.rules.now s.primary s.tree_nodes.items s.below s.whole s.back (place_cell b) (goes_known b) c.args.node rows
    (g.R.StateLengths.cells c.next_row-next.result) (g.R.StateLengths.cells c.own-own.result) c.held-held.result c.args.table.now.atoms c.requires.node c.requires.stands
    c.next_row-next.ensures c.held-held.ensures.held c.requires.fit.atoms c.own-own.ensures.here c.own-own.ensures.past)
    c.greatest_allowed.ensures)

pub next_row-next-requires-clause-rows : goal.next_row-next-requires-clause-rows
next_row-next-requires-clause-rows g c = as_many g.R.StateLengths.cells c.args.rows.now _ (pass_rows c.args.shape.now.back _ _ _ _ _ _ _ c.requires.stands)

pub next_row-next-requires-clause-node : goal.next_row-next-requires-clause-node
next_row-next-requires-clause-node g c = c.requires.node

pub keep_lengths-requires-clause-rows : goal.keep_lengths-requires-clause-rows
keep_lengths-requires-clause-rows g c = as_many g.R.StateLengths.cells c.args.rows.now _ (pass_rows c.args.shape.now.back _ _ _ _ _ _ _ c.requires.stands)

pub keep_lengths-requires-clause-count : goal.keep_lengths-requires-clause-count
keep_lengths-requires-clause-count g c = c.requires.fit.count

pub keep_lengths-requires-clause-past : goal.keep_lengths-requires-clause-past
keep_lengths-requires-clause-past g c = c.own-own.ensures.past

pub keep_lengths-requires-clause-node : goal.keep_lengths-requires-clause-node
keep_lengths-requires-clause-node g c = c.requires.node

pub own-own-requires-clause-atoms : goal.own-own-requires-clause-atoms
own-own-requires-clause-atoms g c = λ i r e. below_few r.atom c.args.table.now.atoms (c.requires.fit.atoms i r e) c.args.table.now.few

pub returns-clause-cost : goal.returns-clause-cost
returns-clause-cost g c = omega (arith, c.held-held.ensures.cost)

pub searched-requires : goal.searched-requires
searched-requires g c = c.requires.node

pub own-own-requires-clause-count : goal.own-own-requires-clause-count
own-own-requires-clause-count g c = c.requires.fit.count

pub greatest_allowed-requires-clause-count : goal.greatest_allowed-requires-clause-count
greatest_allowed-requires-clause-count g c = c.requires.fit.count

pub greatest_allowed-requires-clause-extent : goal.greatest_allowed-requires-clause-extent
greatest_allowed-requires-clause-extent g c = c.requires.counts

pub returns-then-not-searched-clause-unsearched : goal.returns-then-not-searched-clause-unsearched
returns-then-not-searched-clause-unsearched g c = λ off. refl

pub returns-then-not-searched-clause-searched : goal.returns-then-not-searched-clause-searched
returns-then-not-searched-clause-searched g c = λ on. absurd (true≢false (sym on ∙ sym c.searched.ensures ∙ c.if-not-searched.true))

pub returns-clause-unsearched : goal.returns-clause-unsearched
returns-clause-unsearched g c = λ off. absurd (true≢false (sym (sym c.searched.ensures ∙ c.if-not-searched.false) ∙ off))

pub returns-clause-searched : goal.returns-clause-searched
returns-clause-searched g c = λ on. c.held-held.ensures.cost

pub held-held-requires : goal.held-held-requires
held-held-requires g c = record { node = subst (λ nodes. c.args.node < nodes) (sym c.requires.fit.words) c.requires.node }

pub returns-then-not-searched-clause-value : goal.returns-then-not-searched-clause-value
returns-then-not-searched-clause-value g c = unanswered _ _ (sym c.searched.ensures ∙ c.if-not-searched.true)

pub returns-then-not-searched-clause-cost : goal.returns-then-not-searched-clause-cost
returns-then-not-searched-clause-cost g c = omega arith
