use Rattle.std.proofs.Common.{◌≡◌, ◌∙◌, rules, sym, ap, refl, arith}
use Rattle.std.proofs.lemmas.Result.{IfOk-weaker, on_ok_weaker}
use Rattle.cql_syntax.specs.TreeOf.{filter_tree, form_tree, filters_tree}
use Rattle.cql_syntax.specs.Trees.{filter_at, unary, any}
use Rattle.cql_syntax.specs.declared.leaves.Kind.TheVariants.{Position, Set}
use Rattle.cql_plan.specs.Replacements.{StandsFor}
use Rattle.cql_plan.proofs.Gathered.{gathered_none, gathered_instead, gathered_step, gathered_end, inside_gathered}
use Rattle.cql_plan.proofs.InEach.{stands_after}
use Rattle.cql_plan.proofs.Standing.{all_begun, all_step, all_end, unary_stands, chain_stands, any_stands, no_number, set_no_number}
use Rattle.cql_plan.proofs.joining.+join.Goals as goal

pub joined_all-loop-filter-init : goal.joined_all-loop-filter-init
joined_all-loop-filter-init t c = all_begun _ c.new-made.ensures.tree

pub joined_all-loop-filter-preserved : goal.joined_all-loop-filter-preserved
joined_all-loop-filter-preserved t c =
    all_step c.as_slice-filter-items.result.now c.loop-filter.filter-index c.filter-item.result (filters_tree c.loop-filter.made) _ _
    c.loop-filter-test.true c.filter-item.is c.loop-filter.invariant c.in_ok-joined_one.ensures c.in_ok-push.ensures.tree

pub joined_all-returns : goal.joined_all-returns
joined_all-returns t c =
    all_end c.as_slice-filter-items.result.now c.loop-filter.filter-index _ _ (omega (arith, c.loop-filter-test.false))
    c.as_slice-filter-items.ensures.tree c.loop-filter.invariant

pub gather-loop-part-init : goal.gather-loop-part-init
gather-loop-part-init t c = gathered_none c.args.kind (filters_tree c.args.to.now.filters)

pub gather-loop-part-preserved : goal.gather-loop-part-preserved
gather-loop-part-preserved t c =
    gathered_step c.args.kind c.as_slice-part-items.result.now c.loop-part.part-index c.part-item.result _ _ _
    c.loop-part-test.true c.part-item.is c.loop-part.invariant c.in_ok-gather_one.ensures

pub gather-returns : goal.gather-returns
gather-returns t c =
    gathered_end c.args.kind c.as_slice-part-items.result.now c.loop-part.part-index _ _ _ (omega (arith, c.loop-part-test.false))
    c.as_slice-part-items.ensures.tree c.loop-part.invariant

pub joined_one-returns-in_ok-part-in-Unary : goal.joined_one-returns-in_ok-part-in-Unary
joined_one-returns-in_ok-part-in-Unary t c =
    unary_stands (filter_tree c.args.f.now) _ c.args.f.now.at c.in-Unary.word _ (filter_tree c.in_ok-part-in-Unary.part.value)
    (ap (filter_at c.args.f.now.at) (ap form_tree c.in-Unary.is ∙ ap (λ p. unary c.in-Unary.word (filter_tree p)) (sym c.deref.ensures)))
    refl c.in_ok-part-in-Unary.ensures

pub joined_one-returns-in_ok-parts-in-Chain : goal.joined_one-returns-in_ok-parts-in-Chain
joined_one-returns-in_ok-parts-in-Chain t c =
    chain_stands (filter_tree c.args.f.now) _ c.args.f.now.at c.in-Chain.chain _ (filters_tree c.in_ok-parts-in-Chain.parts)
    (ap (filter_at c.args.f.now.at) (ap form_tree c.in-Chain.is)) refl c.in_ok-parts-in-Chain.ensures

pub joined_one-returns-in_ok-members-in-Any-Position-default : goal.joined_one-returns-in_ok-members-in-Any-Position-default
joined_one-returns-in_ok-members-in-Any-Position-default t c =
    let f = filter_tree c.args.f.now in
    let parts = filters_tree c.in-Any-Position-default.parts in
    let members = filters_tree c.in_ok-members-in-Any-Position-default.members in
    let whole = filter_at c.args.f.now.at (any Position members) in
    let kind : c.in-Any-Position-default.field-0 ≡ Position = search rules in
    let first = any_stands f whole c.args.f.now.at Position parts members
    (ap (filter_at c.args.f.now.at) (ap form_tree c.in-Any-Position-default.is ∙ ap (λ k. any k parts) kind)) refl no_number
    c.in_ok-members-in-Any-Position-default.ensures in
    IfOk-weaker c.any_of.result (λ g. StandsFor whole (filter_tree g)) (λ g. StandsFor f (filter_tree g))
    (λ g then. stands_after f whole (filter_tree g) first then) c.any_of.ensures

pub joined_one-returns-in_ok-members-in-Any-Set-default : goal.joined_one-returns-in_ok-members-in-Any-Set-default
joined_one-returns-in_ok-members-in-Any-Set-default t c =
    let parts = filters_tree c.in-Any-Set-default.parts in
    let is : form_tree c.args.f.now.form ≡ any Set (filters_tree c.in-Any-Set-default.parts) = search rules in
    any_stands (filter_tree c.args.f.now) _ c.args.f.now.at Set parts (filters_tree c.in_ok-members-in-Any-Set-default.members)
    (ap (filter_at c.args.f.now.at) is) refl set_no_number
    c.in_ok-members-in-Any-Set-default.ensures

pub gather_one-returns-in-Position-Any-Position-default : goal.gather_one-returns-in-Position-Any-Position-default
gather_one-returns-in-Position-Any-Position-default t c =
    let parts = filters_tree c.in-Position-Any-Position-default.parts in
    let same : c.in-Position-Any-Position-default.field-0-1 ≡ Position = search rules in
    let is = ap (filter_at c.args.part.now.at) (ap form_tree c.in-Position-Any-Position-default.is-1 ∙ ap (λ k. any k parts) (same ∙ sym c.in-Position-Any-Position-default.is-0)) in
    on_ok_weaker c.gather.result
    (inside_gathered c.args.kind c.args.part.now.at (filter_tree c.args.part.now) (filters_tree c.args.to.now.filters) _ parts is
    (λ e. no_number (sym c.in-Position-Any-Position-default.is-0 ∙ e))) c.gather.ensures

pub gather_one-returns-in-Set-Any-Set-default : goal.gather_one-returns-in-Set-Any-Set-default
gather_one-returns-in-Set-Any-Set-default t c =
    let parts = filters_tree c.in-Set-Any-Set-default.parts in
    let form : form_tree c.args.part.now.form ≡ any Set (filters_tree c.in-Set-Any-Set-default.parts) = search rules in
    let is = ap (filter_at c.args.part.now.at) (form ∙ ap (λ k. any k parts) (sym c.in-Set-Any-Set-default.is-0)) in
    on_ok_weaker c.gather-in-Set-Any-Set-default.result
    (inside_gathered c.args.kind c.args.part.now.at (filter_tree c.args.part.now) (filters_tree c.args.to.now.filters) _ parts is
    (λ e. set_no_number (sym c.in-Set-Any-Set-default.is-0 ∙ e))) c.gather-in-Set-Any-Set-default.ensures

pub gather_one-returns-in_ok-member-in_default : goal.gather_one-returns-in_ok-member-in_default
gather_one-returns-in_ok-member-in_default t c =
    on_ok_weaker c.add.result
    (λ had. gathered_instead c.args.kind (filters_tree c.args.to.now.filters) _ (filter_tree c.args.part.now) (filter_tree c.in_ok-member-in_default.member)
    c.in_ok-member-in_default.ensures (had c.args.kind)) c.add.ensures
