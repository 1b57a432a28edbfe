use Rattle.std.proofs.Common.{◌∙◌, ap₂}
use Rattle.clap.specs.Words.{with_rule}
use Rattle.pgn_json.proofs.line.line.Goals as goal

pub returns : goal.returns
returns c =
    c.in_ok-command.ensures.shape c.number_option-2.ensures.local
    ∙ ap₂ with_rule (c.in_ok-arg-2.ensures.shape c.number_option.ensures.local
    ∙ ap₂ with_rule (c.in_ok-arg.ensures.shape c.text_option.ensures.local
    ∙ ap₂ with_rule c.in_ok-words.ensures c.text_option.ensures.rule)
    c.number_option.ensures.rule) c.number_option-2.ensures.rule
