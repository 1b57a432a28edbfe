use Rattle.std.proofs.Common.{◌≡◌, ◌-◌, false, length, ◌∙◌, sym, subst, ap, [], ◌∷◌, ◌++◌, arith}
use Rattle.pgn_cut.specs.States.{after, IsOpen, IsOneLexeme}
use Rattle.pgn_cut.proofs.OpenLexemes.{goes_on}
use Rattle.pgn_cut.proofs.Streams.{stays_open, meets, Whenever}
use Rattle.pgn_cut.proofs.cutter.Cutter.taken.Goals as goal

pub returns-then-finishes : goal.returns-then-finishes
returns-then-finishes c = λ fed games r.
    let one = c.open_lexemes_settle.ensures.with_last c.args.self.first c.args.self.state r.bytes c.args.b r.opened r.belongs (sym c.finishes.ensures ∙ c.if-finishes.true) in
    meets c.open_lexemes_settle.ensures.closes c.args.self fed c.args.b games r c.kind_with_last-kind.result false
    (subst (λ k. IsOneLexeme c.args.self.first (r.bytes ++ c.args.b ∷ []) k false Whenever) (sym c.kind_with_last-kind.ensures) one)
    _ _ c.after_lexeme.ensures.rest c.after_lexeme.ensures.deeper c.after_lexeme.ensures.cuts

pub returns : goal.returns
returns c = λ fed games r.
    let here = r.here in
    let place = r.place in
    let len : c.args.self.place - c.args.self.at ≡ length r.bytes = omega arith in
    let state : c.after-state.result ≡ after c.args.self.state (length r.bytes) c.args.b = c.after-state.ensures ∙ ap (λ n. after c.args.self.state n c.args.b) len in
    stays_open c.open_lexemes_settle.ensures.closes c.args.self fed c.args.b games r _ c.after-state.result c.with_open.ensures
    (subst (λ s. IsOpen c.args.self.first s (r.bytes ++ c.args.b ∷ [])) (sym state)
    (goes_on c.args.self.first c.args.self.state r.bytes c.args.b r.opened (c.is_between.ensures.no c.if-is_between.false) r.belongs (sym c.finishes.ensures ∙ c.if-finishes.false)))
