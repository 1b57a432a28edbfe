use Rattle.std.proofs.Common.{[], ap, ◌∙◌}
use Rattle.std.specs.Prelude.{◌==◌}
use Rattle.pgn_cut.specs.Progress.{span_from}
use Rattle.pgn_cut.proofs.Meets.{before_shown, after_shown, closes_before, closes_after, goes_on}
use Rattle.pgn_cut.proofs.game.OpenGame.meet.Goals as goal

pub returns-then-ends_before-clause-cuts : goal.returns-then-ends_before-clause-cuts
returns-then-ends_before-clause-cuts c = λ game l shows is.
    closes_before game l c.args.self.now is c.ends_before.result (c.ends_before.ensures ∙ before_shown c.args.look l shows c.args.self.now.has_movetext) c.if-ends_before.true
    _ (c.with.ensures.value [] l shows c.new.ensures.value) _ (c.span_to-closed.ensures ∙ ap (λ p. span_from p c.args.self.now.start) shows.at)

pub returns-then-ends-clause-cuts : goal.returns-then-ends-clause-cuts
returns-then-ends-clause-cuts c = λ game l shows is.
    closes_after game l c.args.self.now is c.ends_before.result c.ends_after-ends.result (c.ends_before.ensures ∙ before_shown c.args.look l shows c.args.self.now.has_movetext) c.if-ends_before.false
    (c.ends_after-ends.ensures ∙ after_shown c.args.look l shows (c.args.self.now.depth == 0)) c.if-ends.true
    c.add.new.self (c.add.ensures.value game l shows is) _ c.new-then-ends.ensures.value _
    (c.span_to-closed-then-ends.ensures ∙ ap (λ p. span_from p c.add.new.self.start) shows.ends)

pub returns-clause-cuts : goal.returns-clause-cuts
returns-clause-cuts c = λ game l shows is.
    goes_on game l c.args.self.now is c.ends_before.result c.ends_after-ends.result (c.ends_before.ensures ∙ before_shown c.args.look l shows c.args.self.now.has_movetext) c.if-ends_before.false
    (c.ends_after-ends.ensures ∙ after_shown c.args.look l shows (c.args.self.now.depth == 0)) c.if-ends.false
    _ (c.add.ensures.value game l shows is)
