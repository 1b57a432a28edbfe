-- A move restores no right to castle if none is left.
use Rattle.std.proofs.Common.{◌≡◌, Bool, true, false, ◌&&◌, ◌||◌, refl, sym, ap, ◌∙◌}
use Rattle.cq_position.specs.declared.position.Rights.{Rights}
use Rattle.cq_position.specs.declared.moves.Move.{Move}
use Rattle.cq_position.specs.Board.{Board}
use Rattle.cq_position.specs.Legal.{rights_after}

abbrev rights_of : Bool → Bool → Bool → Bool → Rights
rights_of a b c d = record { white_kingside = a; white_queenside = b; black_kingside = c; black_queenside = d }

all_gone : (a b c d : Bool) → (((a || b) || c) || d) ≡ false → rights_of a b c d ≡ rights_of false false false false
all_gone false false false false e = refl
all_gone false false false true e = absurd (cc)
all_gone false false true d e = absurd (cc)
all_gone false true c d e = absurd (cc)
all_gone true b c d e = absurd (cc)

pub none_after : (p : Board) (m : Move)
    → (((p.rights.white_kingside || p.rights.white_queenside) || p.rights.black_kingside) || p.rights.black_queenside) ≡ false
    → p.rights ≡ rights_after p m
none_after p m none =
    let gone : p.rights ≡ rights_of false false false false = all_gone p.rights.white_kingside p.rights.white_queenside p.rights.black_kingside p.rights.black_queenside none in
    gone ∙ ap (λ r. rights_after (record p { rights = r }) m) (sym gone)

pub with_true : (b : Bool) → (b && true) ≡ b
with_true true = refl
with_true false = refl

pub with_false : (b : Bool) → (b && false) ≡ false
with_false true = refl
with_false false = refl
