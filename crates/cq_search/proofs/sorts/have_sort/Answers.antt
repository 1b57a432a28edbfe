use Rattle.std.proofs.Common.{◌∙◌, sym, ap}
use Rattle.cq_search.specs.Sorts.{have_sort}
use Rattle.cq_search.proofs.SortItems.{sort_in}
use Rattle.cq_search.proofs.sorts.have_sort.Goals as goal

pub returns : goal.returns
returns c = c.any_is_sort.ensures ∙ sym (sort_in c.as_slice.result.now) ∙ ap have_sort c.as_slice.ensures.tree
