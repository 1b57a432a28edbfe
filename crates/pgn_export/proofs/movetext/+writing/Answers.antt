use Rattle.std.proofs.Common.{ℕ, sym, ◌∙◌, arith}
use Rattle.cq_position.specs.Games.{node_at}
use Rattle.pgn_export.specs.Movetext.{line_words, variation_words}
use Rattle.pgn_export.specs.Internal.Page.{with_words}
use Rattle.pgn_export.specs.Internal.NodeWords.{after_node, instead_of}
use Rattle.pgn_export.proofs.Walk.{line_step, line_end, variation_step, variations_end}
use Rattle.pgn_export.proofs.movetext.+writing.Goals as goal

pub write_line-loop-child-preserved : goal.write_line-loop-child-preserved
write_line-loop-child-preserved t c =
    let nodes = c.args.game.now.nodes in
    let at : ℕ = c.loop-child.at in
    let child : ℕ = c.in-Some.child in
    let inv = c.loop-child.invariant in
    let place = c.in-Some.ensures.place in
    let low = inv.after in
    let less = place.0 in
    record {
      after = omega arith;
      within = place.1;
      kept = line_step nodes c.is_tree.ensures.tree
          (with_words c.args.page.now (line_words (node_at nodes c.args.of).position c.args.due (after_node nodes c.args.of)))
          c.loop-child.page c.write_move.new.page c.write_variations.new.page c.loop-child.due c.is_due_in_line-due.result at child inv.within
          (sym c.child_of.ensures.value ∙ c.in-Some.is) inv.kept c.in_ok-write_move.ensures c.in_ok-write_variations.ensures c.is_due_in_line-due.ensures;
    }

pub write_line-returns : goal.write_line-returns
write_line-returns t c =
    let nodes = c.args.game.now.nodes in
    let inv = c.loop-child.invariant in
    line_end nodes c.is_tree.ensures.tree
    (with_words c.args.page.now (line_words (node_at nodes c.args.of).position c.args.due (after_node nodes c.args.of)))
    c.loop-child.page c.loop-child.due c.loop-child.at inv.within
    (sym c.child_of.ensures.value ∙ c.in_default.is) inv.kept

pub write_variations-loop-sibling-preserved : goal.write_variations-loop-sibling-preserved
write_variations-loop-sibling-preserved t c =
    let nodes = c.args.game.now.nodes in
    let at : ℕ = c.loop-sibling.at in
    let sibling : ℕ = c.in-Some.sibling in
    let inv = c.loop-sibling.invariant in
    let place = c.in-Some.ensures.place in
    let low = inv.after in
    let less = place.0 in
    record {
      after = omega arith;
      within = place.1;
      parent_is = place.2;
      kept = variation_step nodes c.is_tree.ensures.tree
          (with_words c.args.page.now (variation_words (node_at nodes c.args.parent).position (instead_of nodes c.args.parent c.args.beside)))
          c.loop-sibling.page c.write_move.new.page c.write_line.new.page c.extend_last.new.self c.is_due.result c.args.parent at sibling inv.within inv.parent_is
          (sym c.sibling_of.ensures.value ∙ c.in-Some.is) inv.kept c.in_ok-write_move.ensures c.is_due.ensures c.in_ok-write_line.ensures c.in_ok-extend_last.ensures;
    }

pub write_variations-returns : goal.write_variations-returns
write_variations-returns t c =
    let nodes = c.args.game.now.nodes in
    let inv = c.loop-sibling.invariant in
    variations_end nodes c.is_tree.ensures.tree
    (with_words c.args.page.now (variation_words (node_at nodes c.args.parent).position (instead_of nodes c.args.parent c.args.beside)))
    c.loop-sibling.page c.args.parent c.loop-sibling.at inv.within inv.parent_is
    (sym c.sibling_of.ensures.value ∙ c.in_default.is) inv.kept
