use Rattle.std.proofs.Common.{◌∙◌, ap, ap₂, sym, refl}
use Rattle.cql_syntax.specs.Trees.{filter_at, pair, square}
use Rattle.cql_syntax.specs.TreeOf.{filter_tree, form_tree, filters_tree}
use Rattle.cql_candidates.proofs.CoverLaw.{cut_same}
use Rattle.cql_candidates.proofs.PairLaw.{paired_chain, paired_square, paired_pair, paired_all, paired_one, paired_third}
use Rattle.cql_candidates.proofs.pairs.+retain_paired.Goals as goal

pub retain_paired-returns-in-Chain-clause-cut : goal.retain_paired-returns-in-Chain-clause-cut
retain_paired-returns-in-Chain-clause-cut t c =
    paired_chain c.args.paired.now (filter_tree c.args.asked.now)
    c.args.asked.now.at c.in-Chain.chain (filters_tree c.in-Chain.parts) c.args.sets.now c.cut_chain.new.sets
    (ap (λ form. filter_at c.args.asked.now.at (form_tree form)) c.in-Chain.is) c.cut_chain.ensures.cut

pub retain_paired-returns-in-Square-clause-cut : goal.retain_paired-returns-in-Square-clause-cut
retain_paired-returns-in-Square-clause-cut t c =
    paired_square c.args.paired.now (filter_tree c.args.asked.now)
    (filter_tree c.in-Square.field-2.value) (filter_tree c.deref.result.now) c.args.asked.now.at c.in-Square.every c.as_slice-third.result.now
    c.args.sets.now c.cut_third.new.sets
    (ap (λ form. filter_at c.args.asked.now.at (form_tree form)) c.in-Square.is
    ∙ sym (ap₂ (λ x p. filter_at c.args.asked.now.at (square c.in-Square.every x (filter_tree c.in-Square.field-2.value) (filter_tree p)))
    c.as_slice-third.ensures c.deref.ensures))
    c.cut_third.ensures.cut

pub retain_paired-returns-in-Pair-clause-cut : goal.retain_paired-returns-in-Pair-clause-cut
retain_paired-returns-in-Pair-clause-cut t c =
    paired_pair c.args.paired.now (filter_tree c.args.asked.now)
    (filter_tree c.deref-in-Pair.result.now) (filter_tree c.deref-in-Pair-2.result.now) c.args.asked.now.at c.in-Pair.pair c.args.sets.now c.cut_pair.new.sets
    (ap (λ form. filter_at c.args.asked.now.at (form_tree form)) c.in-Pair.is
    ∙ sym (ap₂ (λ p q. filter_at c.args.asked.now.at (pair c.in-Pair.pair (filter_tree p) (filter_tree q))) c.deref-in-Pair.ensures c.deref-in-Pair-2.ensures))
    c.cut_pair.ensures.cut

pub cut_chain-returns-clause-cut : goal.cut_chain-returns-clause-cut
cut_chain-returns-clause-cut t c =
    paired_all c.args.paired.now c.args.chain (filters_tree c.args.parts.now)
    c.args.sets.now c.cut_each.new.sets (c.is_conjunction.ensures c.if-not-is_conjunction.false) c.cut_each.ensures.cut

pub cut_each-loop-part-init : goal.cut_each-loop-part-init
cut_each-loop-part-init t c = cut_same c.args.paired.now.live.now _ c.args.sets.now

pub cut_each-loop-part-preserved : goal.cut_each-loop-part-preserved
cut_each-loop-part-preserved t c =
    paired_one c.args.paired.now
    (record {
      items = c.as_slice-part-items.result.now;
      place = c.loop-part.part-index;
      filter = c.part-item.result;
      low = c.loop-part-test.true;
      is = c.part-item.is;
    })
    (filters_tree c.args.parts.now) c.args.sets.now c.loop-part.sets c.retain_paired.new.sets c.as_slice-part-items.ensures.tree
    c.loop-part.invariant c.retain_paired.ensures.cut

pub cut_third-returns-clause-cut : goal.cut_third-returns-clause-cut
cut_third-returns-clause-cut t c =
    paired_third c.args.paired.now c.args.third.now (filter_tree c.args.part.now)
    c.args.every c.args.sets.now c.retain_paired.new.sets (c.is_third.ensures.some c.if-not-is_third.false) (c.is_third.ensures.first c.if-not-is_third.false)
    (c.is_third.ensures.second c.if-not-is_third.false) c.retain_paired.ensures.cut

pub retain_paired-returns-in_default : goal.retain_paired-returns-in_default
retain_paired-returns-in_default t c = record { cut = cut_same c.args.paired.now.live.now _ c.args.sets.now; len = refl }

pub cut_chain-returns-then-not-is_conjunction-clause-cut : goal.cut_chain-returns-then-not-is_conjunction-clause-cut
cut_chain-returns-then-not-is_conjunction-clause-cut t c = cut_same c.args.paired.now.live.now _ c.args.sets.now

pub cut_each-returns-clause-cut : goal.cut_each-returns-clause-cut
cut_each-returns-clause-cut t c = c.loop-part.invariant

pub cut_each-returns-clause-len : goal.cut_each-returns-clause-len
cut_each-returns-clause-len t c = c.loop-part.invariant.count

pub cut_third-returns-then-not-is_third-clause-cut : goal.cut_third-returns-then-not-is_third-clause-cut
cut_third-returns-then-not-is_third-clause-cut t c = λ x. cut_same c.args.paired.now.live.now _ c.args.sets.now
