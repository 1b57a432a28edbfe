-- The beginning of a variation.
use Rattle.std.proofs.Common.{◌≡◌, List, [], ◌∷◌, ◌++◌, length, reverse, Some, true, sym, ap, ap₂, ◌∙◌, subst, ◌<◌, ◌≤◌}
use Rattle.std.specs.Prelude.{nat_lt}
use Rattle.std.proofs.lemmas.Bool.{lt-ltb}
use Rattle.std.proofs.lemmas.List.{length-reverse, reverse-append}
use Rattle.cq_position.specs.Board.{Board}
use Rattle.pgn_reader.specs.declared.token_machine.Reader.{Reader}
use Rattle.pgn_reader.specs.declared.token_machine.Phase.TheVariants.{Movetext}
use Rattle.pgn_reader.specs.Internal.Frame.{Frame, begin}
use Rattle.pgn_reader.specs.Internal.ReaderView.{head_of, state_by_phase, state_of, moves_in}
use Rattle.pgn_reader.specs.Internal.Machine.{at, in_body, on_opening}

-- one more variation may be open
has_room : (k : List Frame) → length k < 100 → nat_lt (length (reverse k)) 100 ≡ true
has_room k low = ap (λ n. nat_lt n 100) (length-reverse k) ∙ lt-ltb (length k) 100 low

-- the reader after it
pub record Opened (r s : Reader) : Type 0 where
  pub steps : on_opening (head_of r) r.line (reverse r.around.items) (nat_lt (length (reverse r.around.items)) 100) r.line.before ≡ state_of s
  pub few : moves_in (state_of s) ≤ 65535

pub open_step : (r s : Reader) (p : Board) → r.phase ≡ Movetext → r.moves ≤ 65535 → r.line.before ≡ Some p → length r.around.items < 100
    → s.around.items ≡ r.around.items ++ r.line ∷ [] → s.line ≡ begin r.line.level p → head_of s ≡ in_body (head_of r) → s.phase ≡ r.phase → Opened r s
open_step r s p phase few before low pushed line head same =
    let is : state_of s ≡ at (head_of s) s.line (reverse s.around.items) = ap (λ p. state_by_phase p s) (same ∙ phase) in
    record {
      steps = ap₂ (on_opening (head_of r) r.line (reverse r.around.items)) (has_room r.around.items low) before
          ∙ ap₂ (λ h f. at h f (r.line ∷ reverse r.around.items)) (sym head) (sym line)
          ∙ ap (at (head_of s) s.line) (sym (ap reverse pushed ∙ reverse-append r.around.items (r.line ∷ []))) ∙ sym is;
      few = subst (λ x. moves_in x ≤ 65535) (sym is) (subst (λ h. h.moves ≤ 65535) (sym head) few);
    }
