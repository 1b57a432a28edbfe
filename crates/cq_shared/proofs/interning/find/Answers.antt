use Rattle.std.proofs.Common.{◌≡◌, ◌∙◌, false, length, get_or, sym, ap, refl, arith, below_more}
use Rattle.cq_shared.specs.Interning.{all_shown}
use Rattle.cq_shared.specs.Parts.{is_at}
use Rattle.cq_shared.specs.PartTables.{numbers_at}
use Rattle.cq_shared.specs.Singles.{shown}
use Rattle.cq_shared.proofs.Gaining.{shown_length}
use Rattle.cq_shared.proofs.Seeking.{at_below, none_same}
use Rattle.cq_shared.proofs.Tables.{numbers_read, sought}
use Rattle.cq_shared.proofs.interning.find.Goals as goal

pub returns-then-is_same : goal.returns-then-is_same
returns-then-is_same c =
    let here = sym c.is_same.ensures ∙ c.if-is_same.true in
    let low = at_below (all_shown c.args.parts.now) _ (shown c.args.single.now) here in
    (omega (arith, low, shown_length c.args.parts.now), here)

pub loop-number-preserved : goal.loop-number-preserved
loop-number-preserved c =
    let ps = all_shown c.args.parts.now in
    let r = shown c.args.single.now in
    let numbers : c.as_slice-number-items.result.now ≡ numbers_at c.args.places.now c.args.at =
    c.as_slice-number-items.ensures.value ∙ numbers_read c.args.places.now c.args.at (get_or c.args.places.now c.args.at c.index-places-at.result) c.requires.below
    (ap (get_or c.args.places.now c.args.at) c.index-places-at.is) in
    below_more (λ i. is_at ps (get_or (numbers_at c.args.places.now c.args.at) i 0) r ≡ false) c.loop-number.number-index c.loop-number.invariant
    (ap (λ ns. is_at ps (get_or ns c.loop-number.number-index 0) r) (sym numbers) ∙ sym c.is_same.ensures ∙ c.if-is_same.false)

pub returns : goal.returns
returns c =
    let ps = all_shown c.args.parts.now in
    let r = shown c.args.single.now in
    let numbers : c.as_slice-number-items.result.now ≡ numbers_at c.args.places.now c.args.at =
    c.as_slice-number-items.ensures.value ∙ numbers_read c.args.places.now c.args.at (get_or c.args.places.now c.args.at c.index-places-at.result) c.requires.below
    (ap (get_or c.args.places.now c.args.at) c.index-places-at.is) in
    none_same ps r
    (sought c.args.places.now ps r c.args.at (numbers_at c.args.places.now c.args.at) c.requires.table c.requires.at refl
    (λ i low. c.loop-number.invariant i (omega (arith, low, c.loop-number-test.false, ap length numbers))))
