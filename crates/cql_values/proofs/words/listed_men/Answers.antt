use Rattle.std.proofs.Common.{◌≡◌, ◌∙◌, ◌&&◌, ap, take, arith}
use Rattle.std.specs.List.{list_any}
use Rattle.cq_position.specs.Men.{man_number, same_man}
use Rattle.cq_symmetry.specs.Images.{is_in}
use Rattle.cql_values.proofs.Standing.{all_men, some_man, listed_more}
use Rattle.cql_values.proofs.words.listed_men.Goals as goal

pub loop-man-init : goal.loop-man-init
loop-man-init c = λ m. ap (list_any (same_man m)) c.new-listed.ensures.items

pub loop-man-preserved : goal.loop-man-preserved
loop-man-preserved c =
    listed_more c.args.wanted all_men c.loop-man.listed.items c.list_if.new.listed.items c.loop-man.man-index _ c.has_man-there.result
    c.loop-man-test.true c.in_ok-list_if.ensures c.has_man-there.ensures c.loop-man.invariant

pub returns : goal.returns
returns c = λ m.
    let end : c.loop-man.man-index ≡ 13 = omega (arith, c.loop-man-test.false, c.loop-man.auto.man-index-end) in
    c.loop-man.invariant m
    ∙ ap (λ i. list_any (λ x. same_man m x && is_in c.args.wanted (man_number x)) (take i all_men)) end
    ∙ some_man (is_in c.args.wanted) m
