use Rattle.std.proofs.Common.{◌+◌, ◌++◌, ◌<◌, ◌≤◌, length, length-append, take, ap, sym, ◌∙◌, arith}
use Rattle.std.proofs.lemmas.List.{take_all}
use Rattle.cq_search.specs.Exports.{exports_of}
use Rattle.cq_search.proofs.Kept.{exports_more}
use Rattle.cq_search.proofs.outputs.count_bytes.Goals as goal

pub loop-i-preserved : goal.loop-i-preserved
loop-i-preserved c =
    let answers = c.args.answers.now in
    let i = c.loop-i.i in
    let inside : i < length answers = omega arith in
    let more = ap length (exports_more answers i c.index-answers-i.result inside c.index-answers-i.is)
    ∙ ap (λ t. length (exports_of (take i answers) ++ t)) (sym c.text.ensures) ∙ length-append (exports_of (take i answers)) c.text.result.now in
    let few = c.loop-i.invariant.1 in
    let fits = c.text.type_inv.0 in
    (ap (λ n. n + length c.text.result.now) c.loop-i.invariant.0 ∙ sym more, omega (arith, few, fits))

pub returns : goal.returns
returns c =
    let all : length c.args.answers.now ≤ c.loop-i.i = omega arith in
    c.loop-i.invariant.0 ∙ ap (λ xs. length (exports_of xs)) (take_all c.loop-i.i c.args.answers.now all)
