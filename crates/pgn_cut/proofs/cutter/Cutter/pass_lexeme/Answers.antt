use Rattle.std.proofs.Common.{◌+◌, ◌≤◌, sym, subst}
use Rattle.pgn_cut.specs.Progress.{IsStepOfCut}
use Rattle.pgn_cut.proofs.SettledLexemes.{lexeme_met}
use Rattle.pgn_cut.proofs.cutter.Cutter.pass_lexeme.Goals as goal

pub returns : goal.returns
returns c = lexeme_met c.open_lexemes_settle.ensures.closes c.args.self.now c.args.run.now c.args.found c.requires.state c.requires.some c.requires.found c.go_on.new.self c.meet-closed.result
    (record {
      rest = c.go_on.ensures.rest c.requires.state;
      deeper = subst (λ g. g.depth ≤ c.args.self.now.game.depth + 1) (sym c.go_on.ensures.game) c.meet-closed.ensures.deeper;
      cuts = λ game l shows is. subst (λ g. IsStepOfCut g c.meet-closed.result l game) (sym c.go_on.ensures.game) (c.meet-closed.ensures.cuts game l shows is);
    })
