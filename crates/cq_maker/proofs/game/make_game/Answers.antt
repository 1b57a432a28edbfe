use Rattle.std.proofs.Common.{◌≡◌, ◌∷◌, [], ◌++◌, None, ◌∙◌, ap, ap₂}
use Rattle.cq_position.specs.Continuations.{nodes_from}
use Rattle.cq_position.specs.Games.{bare_node}
use Rattle.cq_maker.specs.Internal.DrawnMoves.{nodes_of_rows}
use Rattle.cq_maker.proofs.Games.{root, line_is, main_tree, all_tree, game_is}
use Rattle.cq_maker.proofs.game.make_game.Goals as goal

pub add_rows-requires : goal.add_rows-requires
add_rows-requires c =
    let x = c.args.draws.now in
    let is = line_is x c.below-most.result c.below-most.new.self c.below-most.ensures.number c.below-most.ensures.state in
    main_tree x c.in_ok-game.game.nodes (nodes_of_rows c.as_slice.result.now) (nodes_of_rows c.in_ok-line.line.beside.items)
    (ap (λ g. g.nodes) c.in_ok-game.ensures ∙ ap (λ s. bare_node None None s ∷ []) c.start.ensures)
    (ap (λ rows. nodes_of_rows rows ++ nodes_of_rows c.in_ok-line.line.beside.items) c.as_slice.ensures.value ∙ c.in_ok-line.ensures.nodes ∙ ap (λ l. nodes_from 0 1 l.moves) is)

pub add_rows-requires-2 : goal.add_rows-requires-2
add_rows-requires-2 c =
    let x = c.args.draws.now in
    let is = line_is x c.below-most.result c.below-most.new.self c.below-most.ensures.number c.below-most.ensures.state in
    let first : c.in_ok-game.game.nodes ≡ root ∷ [] = ap (λ g. g.nodes) c.in_ok-game.ensures ∙ ap (λ s. bare_node None None s ∷ []) c.start.ensures in
    all_tree x c.add_rows.new.game.nodes (nodes_of_rows c.as_slice.result.now) (nodes_of_rows c.as_slice-2.result.now)
    (ap (λ g. g.nodes) c.in_ok-add_rows.ensures ∙ ap (λ l. l ++ nodes_of_rows c.as_slice.result.now) first)
    (ap₂ (λ a b. nodes_of_rows a ++ nodes_of_rows b) c.as_slice.ensures.value c.as_slice-2.ensures.value ∙ c.in_ok-line.ensures.nodes ∙ ap (λ l. nodes_from 0 1 l.moves) is)

pub returns-clause-game : goal.returns-clause-game
returns-clause-game c =
    let x = c.args.draws.now in
    let is = line_is x c.below-most.result c.below-most.new.self c.below-most.ensures.number c.below-most.ensures.state in
    game_is x c.args.number c.in_ok-game.game c.add_rows.new.game c.add_rows-2.new.game c.in_ok-tags.tags c.ending.result c.start.result
    c.in_ok-line.line.last c.as_slice.result.now c.as_slice-2.result.now
    c.in_ok-game.ensures c.start.ensures c.in_ok-tags.ensures c.ending.ensures (c.in_ok-line.ensures.last ∙ ap (λ l. l.last) is) c.in_ok-add_rows.ensures c.in_ok-add_rows-2.ensures
    (ap₂ (λ a b. nodes_of_rows a ++ nodes_of_rows b) c.as_slice.ensures.value c.as_slice-2.ensures.value ∙ c.in_ok-line.ensures.nodes ∙ ap (λ l. nodes_from 0 1 l.moves) is)

pub returns-clause-state : goal.returns-clause-state
returns-clause-state c =
    c.in_ok-line.ensures.state ∙ ap (λ l. l.state) (line_is c.args.draws.now c.below-most.result c.below-most.new.self c.below-most.ensures.number c.below-most.ensures.state)
