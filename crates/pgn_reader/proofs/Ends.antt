-- The end of a variation.
use Rattle.std.proofs.Common.{◌≡◌, List, [], ◌∷◌, ◌++◌, reverse, Option, Some, None, true, refl, sym, ap, ap₂, ◌∙◌, subst, ◌≤◌}
use Rattle.std.specs.Option.{is_some}
use Rattle.std.proofs.lemmas.List.{reverse-append}
use Rattle.cq_position.specs.Board.{Board}
use Rattle.pgn_reader.specs.declared.token_machine.Reader.{Reader}
use Rattle.pgn_reader.specs.declared.token_machine.Phase.TheVariants.{Movetext}
use Rattle.pgn_reader.specs.Internal.Frame.{Frame, with_variation}
use Rattle.pgn_reader.specs.Internal.ReaderView.{head_of, state_by_phase, state_of, moves_in}
use Rattle.pgn_reader.specs.Internal.Machine.{Head, at, in_body, on_end}

end_some : (h : Head) (f g : Frame) (k : List Frame) (o : Option Board) → is_some o ≡ true → on_end h f (g ∷ k) o ≡ at (in_body h) (with_variation g f) k
end_some h f g k None wrong = absurd cc
end_some h f g k (Some p) has = refl

-- the line around the innermost one is the last of the list
pub end_pops : (h : Head) (f g : Frame) (k rest : List Frame) → is_some f.before ≡ true → k ≡ rest ++ g ∷ [] → on_end h f (reverse k) f.before ≡ at (in_body h) (with_variation g f) (reverse rest)
end_pops h f g k rest has popped =
    ap (λ x. on_end h f x f.before) (ap reverse popped ∙ reverse-append rest (g ∷ [])) ∙ end_some h f g (reverse rest) f.before has

-- the reader after it
pub record Ended (r s : Reader) : Type 0 where
  pub steps : on_end (head_of r) r.line (reverse r.around.items) r.line.before ≡ state_of s
  pub few : moves_in (state_of s) ≤ 65535

pub end_step : (r s : Reader) (g : Frame) → r.phase ≡ Movetext → r.moves ≤ 65535 → is_some r.line.before ≡ true → r.around.items ≡ s.around.items ++ g ∷ [] → s.line ≡ with_variation g r.line
    → head_of s ≡ in_body (head_of r) → s.phase ≡ r.phase → Ended r s
end_step r s g phase few has popped line head same =
    let is : state_of s ≡ at (head_of s) s.line (reverse s.around.items) = ap (λ p. state_by_phase p s) (same ∙ phase) in
    record {
      steps = end_pops (head_of r) r.line g r.around.items s.around.items has popped ∙ ap₂ (λ h f. at h f (reverse s.around.items)) (sym head) (sym line) ∙ sym is;
      few = subst (λ x. moves_in x ≤ 65535) (sym is) (subst (λ h. h.moves ≤ 65535) (sym head) few);
    }
