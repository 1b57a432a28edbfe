use Rattle.std.proofs.Common.{◌<◌, ap, ◌∙◌, rules}
use Rattle.cq_geometry.specs.Steps.{distance as king_distance}
use Rattle.cq_geometry.specs.Internal.Expansions.{steps_between, steps_below}
use Rattle.cq_geometry.proofs.Inside.{between_by_steps}
use Rattle.cq_geometry.proofs.lines.between.Goals as goal

pub returns-in-Some-clause-squares : goal.returns-in-Some-clause-squares
returns-in-Some-clause-squares c =
    let h : c.args.a < 64 = search rules in
    let k : c.args.b < 64 = search rules in
    c.along.ensures
    ∙ ap (steps_below c.args.a c.in-Some.c) c.distance.ensures.value
    ∙ ap (λ d. steps_between c.args.a d (king_distance c.args.a c.args.b)) c.in-Some.ensures
    ∙ between_by_steps c.args.a c.args.b h k

pub returns-in-None-clause-squares : goal.returns-in-None-clause-squares
returns-in-None-clause-squares c =
    let h : c.args.a < 64 = search rules in
    let k : c.args.b < 64 = search rules in
    c.new.ensures
    ∙ ap (λ d. steps_between c.args.a d (king_distance c.args.a c.args.b)) c.in-None.ensures
    ∙ between_by_steps c.args.a c.args.b h k
