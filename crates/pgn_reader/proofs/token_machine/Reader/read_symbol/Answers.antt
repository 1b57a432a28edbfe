use Rattle.std.proofs.Common.{sym, ◌∙◌, subst, Some, None}
use Rattle.pgn_lexer.specs.declared.token.TokenKind.TheVariants.{Symbol}
use Rattle.pgn_reader.specs.Internal.ReaderView.{IsSenseStep}
use Rattle.pgn_reader.proofs.Symbols.{symbol_digits, symbol_other}
use Rattle.pgn_reader.proofs.token_machine.Reader.read_symbol.Goals as goal

pub returns-then-are_digits : goal.returns-then-are_digits
returns-then-are_digits c =
    subst (λ s. IsSenseStep c.args.self.now Symbol s c.pass_over.new.self c.pass_over.result)
    (symbol_digits c.args.text.now (sym c.are_digits.ensures ∙ c.if-are_digits.true)) (c.pass_over.ensures Symbol)

pub returns-in-Some : goal.returns-in-Some
returns-in-Some c =
    subst (λ s. IsSenseStep c.args.self.now Symbol s c.read_result.new.self c.read_result.result)
    (symbol_other c.args.text.now (Some c.in-Some.ending) (sym c.are_digits.ensures ∙ c.if-are_digits.false) (sym c.result_of_text.ensures ∙ c.in-Some.is)) (c.read_result.ensures Symbol)

pub returns-in-None : goal.returns-in-None
returns-in-None c =
    subst (λ s. IsSenseStep c.args.self.now Symbol s c.read_move.new.self c.read_move.result)
    (symbol_other c.args.text.now None (sym c.are_digits.ensures ∙ c.if-are_digits.false) (sym c.result_of_text.ensures ∙ c.in-None.is)) (c.read_move.ensures Symbol)
