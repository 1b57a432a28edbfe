use Rattle.std.proofs.Common.{◌-◌, ◌+◌, ◌^◌, ℕ, length, refl, sym, ap, rules}
use Rattle.pgn_batches.proofs.Windows.{grown, most_is}
use Rattle.pgn_batches.proofs.state.Window.grow.Goals as goal

pub returns-clause-shows : goal.returns-clause-shows
returns-clause-shows c =
    let kept = length c.args.self.now.bytes.items in
    grown c.args.self.now _ c.args.piece.now ((2 ^ 24 + 1) - kept) refl (search rules) (ap (λ (k : ℕ). k - kept) (sym most_is))
