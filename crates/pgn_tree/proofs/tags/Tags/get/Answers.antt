use Rattle.std.proofs.Common.{ap, ◌∙◌, Some}
use Rattle.cq_position.specs.Games.{tag_value}
use Rattle.pgn_tree.proofs.TagPairs.{seen}
use Rattle.pgn_tree.proofs.tags.Tags.get.Goals as goal

pub returns-in-Some : goal.returns-in-Some
returns-in-Some c =
    ap Some c.as_slice.ensures ∙ c.in-Some.ensures.value ∙ seen (λ k. k.items) c.args.name.now c.self.inside.pairs.entries ∙ ap (tag_value c.args.name.now) c.self.view_is

pub returns-in-None : goal.returns-in-None
returns-in-None c =
    c.in-None.ensures.value ∙ seen (λ k. k.items) c.args.name.now c.self.inside.pairs.entries ∙ ap (tag_value c.args.name.now) c.self.view_is
