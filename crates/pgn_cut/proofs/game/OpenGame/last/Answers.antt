use Rattle.std.proofs.Common.{[], sym, ap, ◌∙◌}
use Rattle.std.specs.Prelude.{if◌then◌else◌}
use Rattle.std.specs.Option.{option_to_list}
use Rattle.pgn_cut.specs.Cut.{span_to}
use Rattle.pgn_cut.proofs.Pushes.{span_is, last_is}
use Rattle.pgn_cut.proofs.game.OpenGame.last.Goals as goal

pub returns-then-self : goal.returns-then-self
returns-then-self c = λ game is.
    ap option_to_list c.span_to.ensures
    ∙ span_is c.args.place game c.args.self is
    ∙ sym (ap (λ t. if t then span_to c.args.place game else []) c.if-self.true)
    ∙ last_is c.args.place game c.args.self is

pub returns-else-self : goal.returns-else-self
returns-else-self c = λ game is.
    sym (ap (λ t. if t then span_to c.args.place game else []) c.if-self.false)
    ∙ last_is c.args.place game c.args.self is
