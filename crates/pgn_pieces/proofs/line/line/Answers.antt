use Rattle.std.proofs.Common.{rules, ◌≡◌, ◌∙◌, ap₂, [], true, codes}
use Rattle.std.proofs.lemmas.Result.{IfOk-weaker}
use Rattle.clap.specs.Words.{AddsArg, App, app_of, with_rule}
use Rattle.clap.specs.Simple.{new_shape}
use Rattle.pgn_pieces.specs.Line.{line}
use Rattle.pgn_pieces.proofs.line.line.Goals as goal

pub returns : goal.returns
returns c =
    let bare : App = record {
      top = record (new_shape (codes "pgnpieces")) { no_binary_name = true; disable_help_flag = true; disable_version_flag = true };
      subs = [];
    } in
    let starts : app_of c.disable_version_flag.result ≡ bare = search rules in
    let archive = c.in_ok-arg.ensures.shape c.word.ensures.local ∙ ap₂ with_rule starts c.word.ensures.rule in
    IfOk-weaker c.arg-2.result (AddsArg c.in_ok-arg.field-0 c.number_word.result) (λ command. app_of command ≡ line)
    (λ command adds. adds.shape c.number_word.ensures.local ∙ ap₂ with_rule archive c.number_word.ensures.rule) c.arg-2.ensures
