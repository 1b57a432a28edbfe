use Rattle.std.proofs.Common.{◌≡◌, ◌∙◌, ap, ap₂, sym}
use Rattle.cql_syntax.specs.Trees as trees
use Rattle.cql_syntax.specs.TreeOf.{filter_tree, form_tree}
use Rattle.cql_syntax.specs.declared.leaves.Pair.TheVariants.{Attacks}
use Rattle.cql_candidates.proofs.AttackLaw.{some_both, pair_asks}
use Rattle.cql_candidates.proofs.attacks.attacked_by_pair.Goals as goal

pub returns-in-Pair-Attacks-default-default : goal.returns-in-Pair-Attacks-default-default
returns-in-Pair-Attacks-default-default c =
    let f = c.args.asked.now in
    let attacks : c.in-Pair-Attacks-default-default.field-0 ≡ Attacks = rw c.in-Pair-Attacks-default-default.is at c.in-Pair-Attacks-default-default.field-0-is in
    let first = c.deref.result.now in
    let second = c.deref-in-Pair-Attacks-default-default.result.now in
    some_both c.designated_if.result _ _ _
    (λ d own is. pair_asks c.args.name.now d.now (filter_tree f) (filter_tree first) (filter_tree second) f.at
    (ap (λ form. trees.filter_at f.at (form_tree form)) c.in-Pair-Attacks-default-default.is
    ∙ ap (λ k. trees.filter_at f.at (trees.pair k (filter_tree c.in-Pair-Attacks-default-default.first.value) (filter_tree c.in-Pair-Attacks-default-default.second.value))) attacks
    ∙ sym (ap₂ (λ p q. trees.filter_at f.at (trees.pair Attacks (filter_tree p) (filter_tree q))) c.deref.ensures c.deref-in-Pair-Attacks-default-default.ensures))
    (c.is_name.ensures own) is)
    c.designated_if.ensures.wanted c.designated_if.ensures.each
