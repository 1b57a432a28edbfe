use Rattle.std.proofs.Common.{refl, sym, ◌∙◌, subst}
use Rattle.cq_position.specs.Legal.{Leads}
use Rattle.pgn_reader.proofs.token_machine.Reader.read_move.Goals as goal

pub position_after-position-requires : goal.position_after-position-requires
position_after-position-requires c =
    let meant = (c.in-Ok.ensures.meant c.in-Ok.step).0 refl in
    (meant.2.fits.next, subst (λ p. Leads p c.in-Ok.step meant.2.fits.next) (c.reached.ensures ∙ sym c.reached-2.ensures) meant.2.fits.leads)
