use Rattle.std.proofs.Common.{[], ◌∷◌, ◌++◌, refl, sym, ap, ◌∙◌, arith}
use Rattle.pgn_reader.specs.Internal.Frame.{begin}
use Rattle.pgn_reader.proofs.Opens.{open_step}
use Rattle.pgn_reader.proofs.token_machine.Reader.open_variation.Goals as goal

pub returns : goal.returns
returns c =
    let e = open_step c.args.self.now _ c.in-Some.before c.requires.phase c.requires.few (sym c.before-2.ensures ∙ c.in-Some.is) (omega arith)
    (c.in_ok-push.ensures.items ∙ ap (λ f. c.args.self.now.around.items ++ f ∷ []) c.replace-outer.ensures.value)
    (c.replace-outer.ensures.after ∙ c.new-inner.ensures ∙ ap (λ level. begin level c.in-Some.before) c.level.ensures) refl refl in
    λ kind. (e.steps, e.few)
