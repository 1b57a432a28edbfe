use Rattle.std.proofs.Common.{refl, sym, ap, ap₂, ◌∙◌}
use Rattle.std.specs.Option.{is_some}
use Rattle.pgn_reader.specs.Internal.Frame.{with_variation}
use Rattle.pgn_reader.proofs.Ends.{end_step}
use Rattle.pgn_reader.proofs.token_machine.Reader.end_variation.Goals as goal

pub returns-in_ok-add_variation-in-Some : goal.returns-in_ok-add_variation-in-Some
returns-in_ok-add_variation-in-Some c =
    let has = ap is_some (sym c.before-2.ensures) ∙ c.if-is_none.ensures in
    let e = end_step c.args.self.now _ c.in-Some.outer c.requires.phase c.requires.few has c.in-Some.ensures.items
    (c.in_ok-add_variation-in-Some.ensures ∙ ap₂ with_variation c.replace-inner.ensures.after c.replace-inner.ensures.value) refl refl in
    λ kind. (e.steps, e.few)
