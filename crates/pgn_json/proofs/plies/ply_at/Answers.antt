use Rattle.std.proofs.Common.{◌<◌, sym, ◌∙◌, arith}
use Rattle.pgn_json.proofs.PlyCounts.{ply_low, ply_root, ply_step}
use Rattle.pgn_json.proofs.plies.ply_at.Goals as goal

pub overflow_add-result : goal.overflow_add-result
overflow_add-result c =
    let low : c.in-Some.parent < c.args.k = c.in-Some.ensures.before in
    omega (arith, ply_low c.args.game.now.nodes c.in-Some.parent, c.requires.before.each c.in-Some.parent low, low, c.requires.node, c.is_tree.ensures.tree.few)

pub returns-in-Some : goal.returns-in-Some
returns-in-Some c =
    let on = ply_step c.args.game.now.nodes c.args.k c.in-Some.parent c.is_tree.ensures.tree (sym c.parent.ensures.value ∙ c.in-Some.is) in
    omega (arith, on, c.requires.before.each c.in-Some.parent c.in-Some.ensures.before)

pub returns-in-None : goal.returns-in-None
returns-in-None c = sym (ply_root c.args.game.now.nodes c.args.k c.is_tree.ensures.tree (sym c.parent.ensures.value ∙ c.in-None.is))
