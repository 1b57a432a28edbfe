use Rattle.std.proofs.Common.{[], ◌∷◌, ◌++◌, sym, ap, ◌∙◌, subst}
use Rattle.std.proofs.lemmas.List.{nil_from_length}
use Rattle.pgn_reader.specs.Internal.GameAssembly.{nodes_by}
use Rattle.pgn_reader.proofs.Building.{IsBuilt, built_first, next_row, built_on, built_whole}
use Rattle.pgn_reader.proofs.build.add_rows.Goals as goal

pub loop-row-init : goal.loop-row-init
loop-row-init c =
    subst (λ i. IsBuilt c.args.game.now c.args.game.now c.push.new.self.items i.rest.items (c.args.game.now.nodes ++ nodes_by (0 ∷ []) 1 c.args.rows.rest.items))
    (sym c.into_iter-row-iterator.ensures.into_iter_gives)
    (subst (λ w. IsBuilt c.args.game.now c.args.game.now w c.args.rows.rest.items (c.args.game.now.nodes ++ nodes_by (0 ∷ []) 1 c.args.rows.rest.items))
    (sym (c.in_ok-push.ensures.items ∙ ap (λ w. w ++ 0 ∷ []) c.in_ok-way.ensures.items)) (built_first c.args.game.now c.args.rows.rest.items c.requires.root))

pub add_row-requires : goal.add_row-requires
add_row-requires c =
    next_row c.args.game.now c.loop-row.game c.loop-row.way.items c.loop-row.row-iterator.rest.items c.in-Some.row c.next.new.self.rest.items
    (c.args.game.now.nodes ++ nodes_by (0 ∷ []) 1 c.args.rows.rest.items) c.in-Some.ensures.steps.0 c.requires.tree c.loop-row.invariant

pub loop-row-preserved : goal.loop-row-preserved
loop-row-preserved c =
    built_on c.args.game.now c.loop-row.game c.add_row.new.game c.loop-row.way.items c.add_row.new.way.items c.loop-row.row-iterator.rest.items c.in-Some.row c.next.new.self.rest.items
    (c.args.game.now.nodes ++ nodes_by (0 ∷ []) 1 c.args.rows.rest.items) c.in-Some.ensures.steps.0 c.loop-row.invariant c.in_ok-add_row.ensures.node c.in_ok-add_row.ensures.way

pub returns : goal.returns
returns c =
    built_whole c.args.game.now c.loop-row.game c.loop-row.way.items c.loop-row.row-iterator.rest.items (c.args.game.now.nodes ++ nodes_by (0 ∷ []) 1 c.args.rows.rest.items)
    (nil_from_length c.loop-row.row-iterator.rest.items (sym c.loop-row.row-iterator.rest.ok.0 ∙ c.in-None.ensures.steps.0)) c.loop-row.invariant
