use Rattle.std.proofs.Common.{◌≡◌, ◌+◌, ◌∙◌, true, map, take, ap, subst, refl}
use Rattle.std.specs.Prelude.{◌==◌}
use Rattle.std.proofs.lemmas.List.{take_all}
use Rattle.cql_syntax.specs.TreeOf.{filter_tree}
use Rattle.cq_shared.specs.Interning.{all_shown, is_owned, with_part}
use Rattle.cq_shared.specs.Parts.{is_at, are_at, parts_with}
use Rattle.cq_shared.specs.Singles.{part_tree}
use Rattle.cq_shared.proofs.Adding.{one_stands, added_parts, added_numbers, added_all, none_at, none_asked, keeps_more, asked_push}
use Rattle.cq_shared.proofs.Seeking.{all_kept, keeps_same, keeps_then}
use Rattle.cq_shared.proofs.interning.add_all.Goals as goal

pub loop-filter-init : goal.loop-filter-init
loop-filter-init c = record {
  table = c.requires.table;
  parts = refl;
  kept = keeps_same (all_shown c.args.parts.now.items);
  numbers = none_at (all_shown c.args.parts.now.items) c.new-numbers.result.items c.new-numbers.ensures.items;
  asked = λ k q. none_asked (is_owned c.args.parts.now.items k q) (c.args.owner == q) k c.new-numbers.result.items c.new-numbers.ensures.items;
}

pub single_of-requires : goal.single_of-requires
single_of-requires c = one_stands c.args.filters.now c.loop-filter.filter-index c.filter-item.result c.requires.alone c.loop-filter-test.true c.filter-item.is

pub loop-filter-preserved : goal.loop-filter-preserved
loop-filter-preserved c =
    let v = c.args.variations in
    let fs = c.args.filters.now in
    let i = c.loop-filter.filter-index in
    let f = c.filter-item.result in
    let ps = all_shown c.loop-filter.parts.items in
    let now = all_shown c.add.new.parts.items in
    let more : now ≡ with_part ps (part_tree v (filter_tree f)) = c.in_ok-number.ensures.parts ∙ ap (with_part ps) c.in_ok-single.ensures in
    record {
      table = c.in_ok-number.ensures.table;
      parts = added_parts v fs i f ps now _ c.loop-filter-test.true c.filter-item.is more c.loop-filter.invariant.parts;
      kept = keeps_then _ ps now c.loop-filter.invariant.kept (keeps_more ps now (part_tree v (filter_tree f)) more);
      numbers = ap (λ ks. are_at now ks (parts_with v (map filter_tree (take (i + 1) fs)))) c.in_ok-push.ensures.items
          ∙ added_numbers v fs i f now c.loop-filter.numbers.items c.in_ok-number.number c.loop-filter-test.true c.filter-item.is
          (subst (λ r. is_at now c.in_ok-number.number r ≡ true) c.in_ok-single.ensures c.in_ok-number.ensures.number)
          (all_kept ps now c.loop-filter.numbers.items (parts_with v (map filter_tree (take i fs))) (keeps_more ps now (part_tree v (filter_tree f)) more) c.loop-filter.invariant.numbers);
      asked = λ k q. asked_push (is_owned c.args.parts.now.items) (is_owned c.loop-filter.parts.items) (is_owned c.add.new.parts.items) c.loop-filter.numbers.items
          c.push.new.self.items c.in_ok-number.number c.args.owner c.in_ok-push.ensures.items c.loop-filter.invariant.asked c.in_ok-number.ensures.asked k q;
    }

pub returns-clause-parts : goal.returns-clause-parts
returns-clause-parts c =
    added_all c.args.variations c.args.filters.now c.loop-filter.filter-index (all_shown c.loop-filter.parts.items) _ c.loop-filter-test.false c.loop-filter.invariant.parts

pub returns-clause-table : goal.returns-clause-table
returns-clause-table c = c.loop-filter.invariant.table

pub returns-clause-kept : goal.returns-clause-kept
returns-clause-kept c = c.loop-filter.invariant.kept

pub returns-clause-numbers : goal.returns-clause-numbers
returns-clause-numbers c =
    subst (λ fs. are_at (all_shown c.loop-filter.parts.items) c.loop-filter.numbers.items (parts_with c.args.variations (map filter_tree fs)) ≡ true)
    (take_all c.loop-filter.filter-index c.args.filters.now c.loop-filter-test.false) c.loop-filter.invariant.numbers

pub returns-clause-asked : goal.returns-clause-asked
returns-clause-asked c = c.loop-filter.invariant.asked
