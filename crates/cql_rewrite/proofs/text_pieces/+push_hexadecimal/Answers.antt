use Rattle.std.proofs.Common.{◌≡◌, ◌∙◌, ◌++◌, ◌∷◌, [], ◌<◌, ◌%◌, OnOk, ap, subst, arith}
use Rattle.cql_rewrite.specs.FlatText.{hexadecimal_digit}
use Rattle.cql_rewrite.proofs.Texts.{hexadecimal_more}
use Rattle.cql_rewrite.proofs.text_pieces.+push_hexadecimal.Goals as goal

pub returns : goal.returns
returns t c =
    let low : 0 < c.args.count = omega (arith, c.if-count-eq0.false) in
    subst (λ x. OnOk c.push_digit.result (c.push_digit.new.text ≡ x))
    (ap (λ x. x ++ hexadecimal_digit (c.args.n % 16) ∷ []) c.in_ok-push_hexadecimal.ensures ∙ hexadecimal_more c.args.text.now c.args.count c.args.n low)
    c.push_digit.ensures
