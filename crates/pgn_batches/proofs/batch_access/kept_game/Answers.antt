use Rattle.std.proofs.Common.{◌≡◌, ◌+◌, ◌^◌, List, ℕ, min, sym, ap, ◌∙◌, rules}
use Rattle.pgn_batches.proofs.Windows.{kept_out, most_is}
use Rattle.pgn_batches.proofs.batch_access.kept_game.Goals as goal

pub returns : goal.returns
returns c =
    let s = c.args.span in
    let last : c.min-end.result ≡ min s.end (s.start + (2 ^ 24 + 1)) = search rules in
    ap (λ (b : List ℕ). record { bytes = b; start = s.start; first = s.first })
    (c.in_ok-from_slice.ensures ∙ c.part.ensures
    ∙ kept_out c.args.bytes.now s c.min-end.result c.requires.inside.0 c.requires.inside.1 (last ∙ ap (λ (k : ℕ). min s.end (s.start + k)) (sym most_is)))
