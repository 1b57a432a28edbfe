use Rattle.std.proofs.Common.{[], sym, ap, ◌∙◌, subst}
use Rattle.pgn_tree.specs.Internal.Comments.{parts, AreComments}
use Rattle.pgn_tree.proofs.Parts.{none_kept, no_parts}
use Rattle.pgn_tree.proofs.comments.Comments.new.Goals as goal

pub invariant_of-result : goal.invariant_of-result
invariant_of-result c =
    subst (λ t. AreComments c.new-2.result.items t) (sym c.new.ensures.items) (subst (λ e. AreComments e []) (sym c.new-2.ensures.items) none_kept)

pub returns : goal.returns
returns c = ap (parts c.new.result.items 0) c.new-2.ensures.items ∙ no_parts c.new.result.items
