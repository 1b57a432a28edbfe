-- The needs of the parts of a filter, one part after the other.
use Rattle.std.proofs.Common.{◌≡◌, ◌&&◌, ◌||◌, true, false, sym, ap, ◌∙◌}
use Rattle.cq_position.specs.Search.{SearchedTree}
use Rattle.cql_syntax.specs.Trees.{FilterTree, FilterTrees, no_filters, more_filters}
use Rattle.cql_plan.specs.Needs.{passes, all_pass, some_passes}

module _ (tree : SearchedTree) (f : FilterTree) (left later parts : FilterTrees) (next : left ≡ more_filters f later) where
  pub all_pass_on : passes tree f ≡ true → all_pass tree left ≡ all_pass tree parts → all_pass tree later ≡ all_pass tree parts
  unfolding passes
  all_pass_on passed had = sym (ap (all_pass tree) next ∙ ap (λ b. b && all_pass tree later) passed) ∙ had

  pub one_fails : passes tree f ≡ false → all_pass tree left ≡ all_pass tree parts → false ≡ all_pass tree parts
  unfolding passes
  one_fails failed had = sym (ap (all_pass tree) next ∙ ap (λ b. b && all_pass tree later) failed) ∙ had

  pub some_passes_on : passes tree f ≡ false → some_passes tree left ≡ some_passes tree parts → some_passes tree later ≡ some_passes tree parts
  unfolding passes
  some_passes_on failed had = sym (ap (some_passes tree) next ∙ ap (λ b. b || some_passes tree later) failed) ∙ had

  pub one_passes : passes tree f ≡ true → some_passes tree left ≡ some_passes tree parts → true ≡ some_passes tree parts
  unfolding passes
  one_passes passed had = sym (ap (some_passes tree) next ∙ ap (λ b. b || some_passes tree later) passed) ∙ had

module _ (tree : SearchedTree) (left parts : FilterTrees) (none : left ≡ no_filters) where
  pub all_passed : all_pass tree left ≡ all_pass tree parts → true ≡ all_pass tree parts
  unfolding passes
  all_passed had = sym (ap (all_pass tree) none) ∙ had

  pub none_passed : some_passes tree left ≡ some_passes tree parts → false ≡ some_passes tree parts
  unfolding passes
  none_passed had = sym (ap (some_passes tree) none) ∙ had
