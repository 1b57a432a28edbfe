-- The parts of filters, added filter by filter.
use Rattle.std.proofs.Common.{◌≡◌, ◌∙◌, ◌++◌, List, [], append_assoc, ap, refl, sym}
use Rattle.std.proofs.lemmas.List.{append-nil}
use Rattle.cql_syntax.specs.Trees.{FilterTree, FilterTrees, no_filters, more_filters}
use Rattle.cq_shared.specs.Parts.{parts_of, all_parts}

pub added_one : (all : FilterTrees → List FilterTree) (now later whole parts : List FilterTree) (left rest : FilterTrees) (f : FilterTree) → left ≡ more_filters f rest
    → all (more_filters f rest) ≡ parts ++ all rest → later ≡ now ++ parts → now ++ all left ≡ whole → later ++ all rest ≡ whole
added_one all now later whole parts left rest f next has more had =
    ap (λ fs. fs ++ all rest) more ∙ append_assoc now parts (all rest) ∙ ap (λ fs. now ++ fs) (sym (ap all next ∙ has)) ∙ had

pub added_each : (all : FilterTrees → List FilterTree) (now whole : List FilterTree) (left : FilterTrees) → left ≡ no_filters → all no_filters ≡ []
    → now ++ all left ≡ whole → now ≡ whole
added_each all now whole left none nothing had = sym (append-nil now) ∙ ap (λ fs. now ++ fs) (sym (ap all none ∙ nothing)) ∙ had

pub all_parts_more : (f : FilterTree) (fs : FilterTrees) → all_parts (more_filters f fs) ≡ parts_of f ++ all_parts fs
unfolding parts_of
all_parts_more f fs = refl

pub all_parts_none : all_parts no_filters ≡ []
unfolding parts_of
all_parts_none = refl
