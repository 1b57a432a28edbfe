use Rattle.std.proofs.Common.{◌≢◌, All, subst, arith, rules, ap, ◌∙◌}
use Rattle.std.proofs.lemmas.List.{take_all}
use Rattle.std.proofs.lemmas.List.Elements.{All-more}
use Rattle.cq_outside.proofs.name_map.place_of.Goals as goal

pub loop-place-preserved : goal.loop-place-preserved
loop-place-preserved g c =
    let differs : c.as_slice.result.now ≢ c.args.name.now = search rules in
    All-more (λ f. f.0 ≢ c.args.name.now) c.args.entries.now c.loop-place.place c.index-entries-place.result (omega arith) c.loop-place.invariant (λ e.
    differs (c.as_slice.ensures ∙ ap (λ f. f.0) c.index-entries-place.is ∙ e))

pub returns-clause-none : goal.returns-clause-none
returns-clause-none g c =
    subst (All (λ f. f.0 ≢ c.args.name.now)) (take_all c.loop-place.place c.args.entries.now (omega arith)) c.loop-place.invariant
