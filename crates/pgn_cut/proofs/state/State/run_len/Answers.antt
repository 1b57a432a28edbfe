use Rattle.std.proofs.Common.{◌∙◌, sym, ap, subst, false, take}
use Rattle.std.specs.Prelude.{◌==◌}
use Rattle.std.specs.List.{AllByRecursion}
use Rattle.pgn_lexer.specs.Readings.{is_special}
use Rattle.pgn_cut.specs.States.{Stays}
use Rattle.pgn_cut.specs.declared.state.State.TheVariants.{InComment, InLine, InText}
use Rattle.pgn_cut.proofs.Runs.{before_first, stays_in_comment, stays_in_line, stays_in_text}
use Rattle.pgn_cut.proofs.state.State.run_len.Goals as goal

pub returns-in-InComment-clause-stays : goal.returns-in-InComment-clause-stays
returns-in-InComment-clause-stays c =
    subst (λ s. AllByRecursion (Stays s) (take c.place_of.result c.args.bytes.now)) (sym c.in-InComment.is)
    (subst (λ n. AllByRecursion (Stays InComment) (take n c.args.bytes.now)) (sym c.place_of.ensures.value) (before_first (Stays InComment) (λ b. b == 125) stays_in_comment c.args.bytes.now))

pub returns-in-InLine-clause-stays : goal.returns-in-InLine-clause-stays
returns-in-InLine-clause-stays c =
    subst (λ s. AllByRecursion (Stays s) (take c.place_of-in-InLine.result c.args.bytes.now)) (sym c.in-InLine.is)
    (subst (λ n. AllByRecursion (Stays InLine) (take n c.args.bytes.now)) (sym c.place_of-in-InLine.ensures.value) (before_first (Stays InLine) (λ b. b == 10) stays_in_line c.args.bytes.now))

pub returns-in-InText-false-clause-stays : goal.returns-in-InText-false-clause-stays
returns-in-InText-false-clause-stays c =
    subst (λ s. AllByRecursion (Stays s) (take c.plain_len.result c.args.bytes.now)) (sym (c.in-InText-false.is ∙ ap InText c.in-InText-false.field-0-test))
    (subst (λ n. AllByRecursion (Stays (InText false)) (take n c.args.bytes.now)) (sym c.plain_len.ensures.value) (before_first (Stays (InText false)) is_special stays_in_text c.args.bytes.now))
