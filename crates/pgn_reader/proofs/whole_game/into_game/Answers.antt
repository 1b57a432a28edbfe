use Rattle.std.proofs.Common.{◌≡◌, IfOk, ap, ◌∙◌, subst}
use Rattle.cq_position.specs.Games.{Game}
use Rattle.cq_position.specs.Position.{IsPosition}
use Rattle.pgn_reader.specs.Internal.GameAssembly.{nodes_of_rows}
use Rattle.pgn_reader.specs.Internal.Reading.{ending_by, game_of}
use Rattle.pgn_reader.proofs.Tokens.{tree_of_rows, some_rows}
use Rattle.pgn_reader.proofs.whole_game.into_game.Goals as goal

pub game_of_rows-requires-clause-tree : goal.game_of_rows-requires-clause-tree
game_of_rows-requires-clause-tree c =
    tree_of_rows c.requires.0 c.args.reader c.in_ok-rows.rows.items c.requires.1 (subst IsPosition c.start.ensures c.is_position.ensures.kept) c.in_ok-rows.ensures

pub game_of_rows-requires-clause-rooted : goal.game_of_rows-requires-clause-rooted
game_of_rows-requires-clause-rooted c =
    some_rows c.in_ok-rows.rows.items (tree_of_rows c.requires.0 c.args.reader c.in_ok-rows.rows.items c.requires.1
    (subst IsPosition c.start.ensures c.is_position.ensures.kept) c.in_ok-rows.ensures)

pub returns : goal.returns
returns c =
    subst (λ game. IfOk c.game_of_rows.result (λ g. g ≡ game))
    (ap {B = Game} (λ tags. record { tags = tags; result = c.ending_of-ending.result; nodes = nodes_of_rows c.in_ok-rows.rows.items }) c.into_tags.ensures
    ∙ ap {B = Game} (λ result. record { tags = c.args.reader.tag_section.tags; result = result; nodes = nodes_of_rows c.in_ok-rows.rows.items }) c.ending_of-ending.ensures
    ∙ ap {B = Game} (λ rows. record { tags = c.args.reader.tag_section.tags; result = ending_by c.args.reader.phase c.args.reader.tag_section.tags; nodes = nodes_of_rows rows }) c.in_ok-rows.ensures)
    c.game_of_rows.ensures
