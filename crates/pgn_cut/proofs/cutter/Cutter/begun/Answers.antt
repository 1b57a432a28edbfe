use Rattle.std.proofs.Common.{◌∙◌, sym, subst, ap, [], ◌∷◌, ◌++◌}
use Rattle.std.specs.Prelude.{◌==◌}
use Rattle.pgn_cut.specs.States.{IsOpen, IsOneLexeme}
use Rattle.pgn_cut.proofs.OpenLexemes.{opens_lexeme}
use Rattle.pgn_cut.proofs.Streams.{passes, stays_open, meets, Whenever}
use Rattle.pgn_cut.proofs.cutter.Cutter.begun.Goals as goal

pub returns-then-is_white : goal.returns-then-is_white
returns-then-is_white c = λ fed games r.
    passes c.open_lexemes_settle.ensures.closes c.args.self fed c.args.b games r c.open_lexemes_settle.ensures.white c.requires.state (sym c.is_white.ensures ∙ c.if-is_white.true) _ c.between.ensures

pub returns-in-Some : goal.returns-in-Some
returns-in-Some c = λ fed games r.
    let none = subst (λ s. IsOpen c.args.self.first s r.bytes) c.requires.state r.opened in
    stays_open c.open_lexemes_settle.ensures.closes c.args.self fed c.args.b games r _ c.in-Some.state c.with_open.ensures
    (subst (λ l. IsOpen c.args.self.first c.in-Some.state (l ++ c.args.b ∷ [])) (sym none) (opens_lexeme c.args.self.first c.args.b c.in-Some.state (sym c.begun.ensures ∙ c.in-Some.is)))

pub returns-in-None : goal.returns-in-None
returns-in-None c = λ fed games r.
    let none = subst (λ s. IsOpen c.args.self.first s r.bytes) c.requires.state r.opened in
    let dark = sym c.is_white.ensures ∙ c.if-is_white.false in
    let one = c.open_lexemes_settle.ensures.alone c.args.self.first c.args.b dark (sym c.begun.ensures ∙ c.in-None.is) in
    let read = ap (λ q. q.kind) c.longest_reading-kind.ensures.value in
    meets c.open_lexemes_settle.ensures.closes c.args.self fed c.args.b games r c.longest_reading-kind.result.kind (c.args.b == 42)
    (subst (λ l. IsOneLexeme c.args.self.first (l ++ c.args.b ∷ []) c.longest_reading-kind.result.kind (c.args.b == 42) Whenever) (sym none)
    (subst (λ k. IsOneLexeme c.args.self.first (c.args.b ∷ []) k (c.args.b == 42) Whenever) (sym read) one))
    _ _ c.after_lexeme.ensures.rest c.after_lexeme.ensures.deeper c.after_lexeme.ensures.cuts
