use Rattle.std.proofs.Common.{◌≡◌, ◌+◌, ◌-◌, ◌^◌, ◌++◌, List, ℕ, length, min, sym, ap, ap₂, ◌∙◌, rules}
use Rattle.std.specs.Prelude.{slice_range}
use Rattle.pgn_batches.proofs.Windows.{cut_out, most_is}
use Rattle.pgn_batches.proofs.state.Window.game.Goals as goal

pub part-requires : goal.part-requires
part-requires c = let s = c.requires.inside.some in search rules

pub returns : goal.returns
returns c = λ archive shows long.
    let w = c.args.self.now in
    let s = c.args.span in
    let bytes : c.push_all-2.new.self ≡ c.part.result.now ++ c.part-2.result.now =
    search rules in
    let last : c.min-end.result ≡ min s.end (s.start + (2 ^ 24 + 1)) = search rules in
    ap (λ (b : List ℕ). record { bytes = b; start = s.start; first = s.first })
    (bytes ∙ ap₂ (λ (x y : List ℕ). x ++ y) (c.part.ensures
    ∙ ap (λ (l : List ℕ). slice_range l (min (length l) (s.start - w.from)) (min (length l) (c.min-end.result - w.from))) c.as_slice.ensures.value) c.part-2.ensures
    ∙ cut_out w c.args.at c.args.piece.now archive s c.min-end.result shows long c.requires.inside (last ∙ ap (λ (k : ℕ). min s.end (s.start + k)) (sym most_is)))
