use Rattle.std.proofs.Common.{◌≡◌, ◌∷◌, true, false, refl, sym, ◌∙◌, ap, rules, arith}
use Rattle.std.proofs.lemmas.Grind.{common_steps}
use Rattle.cq_symmetry.specs.Families.{members}
use Rattle.cq_symmetry.specs.Mappings.{PlainMapping}
use Rattle.cql_syntax.specs.TreeOf.{filter_tree}
use Rattle.cql_syntax.specs.Meaning as meaning
use Rattle.cql_images.proofs.Turns.{any_here, any_next, any_end}
use Rattle.cql_images.proofs.fits.+fit.Goals as goal

pub member_fits-returns-then-branch : goal.member_fits-returns-then-branch
member_fits-returns-then-branch t c =
    let p = λ (h : PlainMapping). meaning.fits (h ∷ c.args.context.now) (filter_tree c.args.part.now) in
    let context = c.as_slice.ensures.value ∙ c.in_ok-longer.ensures in
    let fact : p c.member.result ≡ true = sym (c.in_ok-fits.ensures ∙ ap (λ g. meaning.fits g (filter_tree c.args.part.now)) context) ∙ c.if-branch.true in
    sym (any_here p (members c.args.family) c.loop-k.k c.member.result c.member.ensures fact) ∙ c.loop-k.invariant

pub member_fits-loop-k-preserved : goal.member_fits-loop-k-preserved
member_fits-loop-k-preserved t c =
    let p = λ (h : PlainMapping). meaning.fits (h ∷ c.args.context.now) (filter_tree c.args.part.now) in
    let context = c.as_slice.ensures.value ∙ c.in_ok-longer.ensures in
    let fact : p c.member.result ≡ false = sym (c.in_ok-fits.ensures ∙ ap (λ g. meaning.fits g (filter_tree c.args.part.now)) context) ∙ c.if-branch.false in
    sym (any_next p (members c.args.family) c.loop-k.k c.member.result c.member.ensures fact) ∙ c.loop-k.invariant

pub fits-returns-in-Squares : goal.fits-returns-in-Squares
unfolding meaning.fits
fits-returns-in-Squares t c = search rules

pub fits-returns-in-Sum : goal.fits-returns-in-Sum
unfolding meaning.fits
fits-returns-in-Sum t c = search rules

pub fits-returns-in_ok-fits-in-If-3 : goal.fits-returns-in_ok-fits-in-If-3
unfolding meaning.fits
fits-returns-in_ok-fits-in-If-3 t c = search rules

pub fits-returns-else-branch-2 : goal.fits-returns-else-branch-2
unfolding meaning.fits
fits-returns-else-branch-2 t c = search rules

pub fits-returns-in-Played : goal.fits-returns-in-Played
unfolding meaning.fits
fits-returns-in-Played t c = search rules

pub fits-returns-in-Transform : goal.fits-returns-in-Transform
unfolding meaning.fits
fits-returns-in-Transform t c = search rules

pub fits-returns-in-Outcome : goal.fits-returns-in-Outcome
unfolding meaning.fits
fits-returns-in-Outcome t c = search rules

pub fits-returns-in-Outcome-2 : goal.fits-returns-in-Outcome-2
unfolding meaning.fits
fits-returns-in-Outcome-2 t c = search rules

pub fits-returns-in-Outcome-3 : goal.fits-returns-in-Outcome-3
unfolding meaning.fits
fits-returns-in-Outcome-3 t c = search rules

pub fits-returns-in-Number : goal.fits-returns-in-Number
unfolding meaning.fits
fits-returns-in-Number t c = search rules

pub fits-returns-in-Number-2 : goal.fits-returns-in-Number-2
unfolding meaning.fits
fits-returns-in-Number-2 t c = search rules

pub fits-returns-in-Number-3 : goal.fits-returns-in-Number-3
unfolding meaning.fits
fits-returns-in-Number-3 t c = search rules

pub fits-returns-in-Number-4 : goal.fits-returns-in-Number-4
unfolding meaning.fits
fits-returns-in-Number-4 t c = search rules

pub fits-returns-in_ok-fits-in-Pair-2 : goal.fits-returns-in_ok-fits-in-Pair-2
unfolding meaning.fits
fits-returns-in_ok-fits-in-Pair-2 t c = search rules

pub fits-returns-else-branch-3 : goal.fits-returns-else-branch-3
unfolding meaning.fits
fits-returns-else-branch-3 t c = search rules

pub fits-returns-in-Chain : goal.fits-returns-in-Chain
unfolding meaning.fits
fits-returns-in-Chain t c = search rules

pub fits-returns-in-Unary : goal.fits-returns-in-Unary
unfolding meaning.fits
fits-returns-in-Unary t c = search rules

pub body_fits-returns-in-Atom : goal.body_fits-returns-in-Atom
unfolding meaning.fits
body_fits-returns-in-Atom t c = search rules

pub body_fits-returns-in-Group : goal.body_fits-returns-in-Group
unfolding meaning.fits
body_fits-returns-in-Group t c = search rules

pub written_fits-returns-in-Some : goal.written_fits-returns-in-Some
unfolding meaning.fits
written_fits-returns-in-Some t c = search rules

pub written_fits-returns-in-None : goal.written_fits-returns-in-None
unfolding meaning.fits
written_fits-returns-in-None t c = search rules

pub all_fit-loop-filter-preserved : goal.all_fit-loop-filter-preserved
unfolding meaning.fits
all_fit-loop-filter-preserved t c = grind (arith, common_steps)

pub terms_fit-loop-term-preserved : goal.terms_fit-loop-term-preserved
unfolding meaning.fits
terms_fit-loop-term-preserved t c = grind (arith, common_steps)

pub parts_fit-loop-part-preserved : goal.parts_fit-loop-part-preserved
unfolding meaning.fits
parts_fit-loop-part-preserved t c = grind (arith, common_steps)

pub all_fit-returns : goal.all_fit-returns
unfolding meaning.fits
all_fit-returns t c = grind (arith, common_steps)

pub terms_fit-returns : goal.terms_fit-returns
unfolding meaning.fits
terms_fit-returns t c = grind (arith, common_steps)

pub parts_fit-returns : goal.parts_fit-returns
unfolding meaning.fits
parts_fit-returns t c = grind (arith, common_steps)

pub all_fit-returns-then-not-branch : goal.all_fit-returns-then-not-branch
unfolding meaning.fits
all_fit-returns-then-not-branch t c = grind (arith, common_steps)

pub terms_fit-returns-then-not-branch : goal.terms_fit-returns-then-not-branch
unfolding meaning.fits
terms_fit-returns-then-not-branch t c = grind (arith, common_steps)

pub parts_fit-returns-then-not-branch : goal.parts_fit-returns-then-not-branch
unfolding meaning.fits
parts_fit-returns-then-not-branch t c = grind (arith, common_steps)

pub all_fit-loop-filter-init : goal.all_fit-loop-filter-init
all_fit-loop-filter-init t c = ap (meaning.all_fit c.args.context.now) c.as_slice-filter-items.ensures.tree

pub terms_fit-loop-term-init : goal.terms_fit-loop-term-init
terms_fit-loop-term-init t c = ap (meaning.terms_fit c.args.context.now) c.as_slice-term-items.ensures.tree

pub parts_fit-loop-part-init : goal.parts_fit-loop-part-init
parts_fit-loop-part-init t c = ap (meaning.parts_fit c.args.context.now) c.as_slice-part-items.ensures.tree

pub member_fits-loop-k-init : goal.member_fits-loop-k-init
member_fits-loop-k-init t c = refl

pub member_fits-returns : goal.member_fits-returns
member_fits-returns t c =
    let p = λ (h : PlainMapping). meaning.fits (h ∷ c.args.context.now) (filter_tree c.args.part.now) in
    sym (any_end p (members c.args.family) c.loop-k.k (omega (arith, c.loop-k-test.false, c.size-k-end.ensures))) ∙ c.loop-k.invariant
