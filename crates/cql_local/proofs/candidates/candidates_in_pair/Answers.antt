use Rattle.std.proofs.Common.{ap, sym, ◌∙◌, ◌&&◌}
use Rattle.std.specs.List.{list_any}
use Rattle.cq_geometry.specs.Squares.{squares}
use Rattle.cq_position.specs.Attacks.{attacks}
use Rattle.cql_syntax.specs.TreeOf.{filter_tree}
use Rattle.cql_syntax.specs.Values.{holds, has, pair_of}
use Rattle.cql_local.specs.Internal.Candidates.{position_of, value_with}
use Rattle.cql_local.specs.NodeScopes.{tree_of}
use Rattle.cql_local.proofs.Cutting.{cut_more, first_is, second_is}
use Rattle.cql_local.proofs.candidates.candidates_in_pair.Goals as goal

pub returns-then-is_name : goal.returns-then-is_name
returns-then-is_name c =
    let trial = c.args.trial.now in
    let men = (position_of trial).men in
    let a = value_with trial (filter_tree c.args.first.now) in
    let b = value_with trial (filter_tree c.args.second.now) in
    let own = (c.is_name.ensures c.if-is_name.true).each in
    cut_more (λ s. holds (pair_of men c.args.pair (a s) (b s))) (λ s. list_any (λ t. has (b s) t && attacks men s t) squares) c.args.set c.attacking_some.result
    (λ s e. first_is (λ s t. attacks men s t) (a s) (b s) s (own (tree_of trial.place.now) trial.names.now s trial.place.now.node) (sym (ap (λ p. holds (pair_of men p (a s) (b s))) c.in-Attacks.is) ∙ e))
    c.attacking_some.ensures

pub returns-then-is_name-2 : goal.returns-then-is_name-2
returns-then-is_name-2 c =
    let trial = c.args.trial.now in
    let men = (position_of trial).men in
    let a = value_with trial (filter_tree c.args.first.now) in
    let b = value_with trial (filter_tree c.args.second.now) in
    let own = (c.is_name-else-is_name.ensures c.if-is_name-2.true).each in
    cut_more (λ s. holds (pair_of men c.args.pair (a s) (b s))) (λ s. list_any (λ t. has (a s) t && attacks men t s) squares) c.args.set c.attacked_by_some.result
    (λ s e. second_is (λ s t. attacks men s t) (a s) (b s) s (own (tree_of trial.place.now) trial.names.now s trial.place.now.node) (sym (ap (λ p. holds (pair_of men p (a s) (b s))) c.in-Attacks.is) ∙ e))
    c.attacked_by_some.ensures

pub returns-then-is_name-3 : goal.returns-then-is_name-3
returns-then-is_name-3 c =
    let trial = c.args.trial.now in
    let men = (position_of trial).men in
    let a = value_with trial (filter_tree c.args.first.now) in
    let b = value_with trial (filter_tree c.args.second.now) in
    let own = (c.is_name-in-AttackedBy.ensures c.if-is_name-3.true).each in
    cut_more (λ s. holds (pair_of men c.args.pair (a s) (b s))) (λ s. list_any (λ t. has (b s) t && attacks men t s) squares) c.args.set c.attacked_by_some-then-is_name-3.result
    (λ s e. first_is (λ s t. attacks men t s) (a s) (b s) s (own (tree_of trial.place.now) trial.names.now s trial.place.now.node) (sym (ap (λ p. holds (pair_of men p (a s) (b s))) c.in-AttackedBy.is) ∙ e))
    c.attacked_by_some-then-is_name-3.ensures

pub returns-then-is_name-4 : goal.returns-then-is_name-4
returns-then-is_name-4 c =
    let trial = c.args.trial.now in
    let men = (position_of trial).men in
    let a = value_with trial (filter_tree c.args.first.now) in
    let b = value_with trial (filter_tree c.args.second.now) in
    let own = (c.is_name-else-is_name-3.ensures c.if-is_name-4.true).each in
    cut_more (λ s. holds (pair_of men c.args.pair (a s) (b s))) (λ s. list_any (λ t. has (a s) t && attacks men s t) squares) c.args.set c.attacking_some-then-is_name-4.result
    (λ s e. second_is (λ s t. attacks men t s) (a s) (b s) s (own (tree_of trial.place.now) trial.names.now s trial.place.now.node) (sym (ap (λ p. holds (pair_of men p (a s) (b s))) c.in-AttackedBy.is) ∙ e))
    c.attacking_some-then-is_name-4.ensures
