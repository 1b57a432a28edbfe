use Rattle.std.proofs.Common.{sym, ◌∙◌}
use Rattle.std.proofs.lemmas.List.{nil_from_length}
use Rattle.pgn_reader.proofs.Groups.{group_added, groups_done}
use Rattle.pgn_reader.proofs.line.push_groups.Goals as goal

pub loop-group-preserved : goal.loop-group-preserved
loop-group-preserved c =
    group_added (λ group. group.items) c.loop-group.rows.items c.push_all.new.rows.items _ c.loop-group.group-iterator.iter.rest.items c.next.new.self.iter.rest.items c.in-Some.group
    c.in-Some.ensures.steps c.in_ok-push_all.ensures c.loop-group.invariant

pub returns : goal.returns
returns c =
    groups_done (λ group. group.items) c.loop-group.rows.items _ c.loop-group.group-iterator.iter.rest.items
    (nil_from_length c.loop-group.group-iterator.iter.rest.items (sym c.loop-group.group-iterator.iter.rest.ok.0 ∙ c.in-None.ensures.steps.0)) c.loop-group.invariant
