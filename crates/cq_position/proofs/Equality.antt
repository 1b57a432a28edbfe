-- The meaning of `==` for positions, part by part.
use Rattle.std.proofs.Common.{◌≡◌, ℕ, Bool, true, false, ◌&&◌, ◌==◌, List, Option, Some, None, refl, sym, ap, ap₂, ◌∙◌, rules}
use Rattle.std.proofs.Math.Bool.{beq}
use Rattle.std.specs.Bool.{Decides}
use Rattle.std.specs.Option.{option_eq}
use Rattle.std.proofs.lemmas.Bool.{and_parts, and_from}
use Rattle.std.proofs.lemmas.Bool.Decides.{Decides-eqb}
use denote.Enum.Bare.{sameb, same_true, true_same}
use Rattle.cq_position.specs.declared.men.Man.{Man}
use Rattle.cq_position.specs.declared.men.Side.{Side}
use Rattle.cq_position.specs.declared.position.Rights.{Rights}
use Rattle.cq_position.specs.contracts.men.Side.{the_type as side_type}
use Rattle.cq_position.specs.Men.{same_men}
use Rattle.cq_position.specs.Board.{Board}
use Rattle.cq_position.proofs.Listed.{Decides-men}

Decides-both : {P Q : Type 0} (a b : Bool) → Decides a P → Decides b Q → Decides (a && b) (P × Q)
Decides-both a b f g = (
  λ h. (f.0 (and_parts a b h).0, g.0 (and_parts a b h).1),
  λ h. and_from a b (f.1 h.0) (g.1 h.1),
)

Decides-beq : (a b : Bool) → Decides (beq a b) (a ≡ b)
Decides-beq true true = (λ h. refl, λ h. refl)
Decides-beq true false = (λ h. sym h, λ h. sym h)
Decides-beq false true = (λ h. h, λ h. h)
Decides-beq false false = (λ h. refl, λ h. refl)

Decides-side : (a b : Side) → Decides (sameb side_type a b) (a ≡ b)
Decides-side a b = (same_true side_type (search rules) a b, true_same side_type a b)

Decides-square : (a b : Option ℕ) → Decides (option_eq (λ x y. x == y) a b) (a ≡ b)
Decides-square None None = (λ h. refl, λ h. refl)
Decides-square None (Some b) = (λ h. absurd (cc), λ h. absurd (cc))
Decides-square (Some a) None = (λ h. absurd (cc), λ h. absurd (cc))
Decides-square (Some a) (Some b) = (λ h. ap Some ((Decides-eqb a b).0 h), λ h. (Decides-eqb a b).1 (cc))

abbrev rights_of : Bool → Bool → Bool → Bool → Rights
rights_of a b c d = record { white_kingside = a; white_queenside = b; black_kingside = c; black_queenside = d }

abbrev same_rights : Rights → Rights → Bool
same_rights r s =
    beq r.white_kingside s.white_kingside && (beq r.white_queenside s.white_queenside
    && (beq r.black_kingside s.black_kingside && beq r.black_queenside s.black_queenside))

Decides-rights : (r s : Rights) → Decides (same_rights r s) (r ≡ s)
Decides-rights r s =
    let four = Decides-both _ _ (Decides-beq r.white_kingside s.white_kingside)
    (Decides-both _ _ (Decides-beq r.white_queenside s.white_queenside)
    (Decides-both _ _ (Decides-beq r.black_kingside s.black_kingside) (Decides-beq r.black_queenside s.black_queenside))) in (
      λ h.
          let parts = four.0 h in
          ap₂ (λ a b. rights_of a b r.black_kingside r.black_queenside) parts.0 parts.1.0
          ∙ ap₂ (λ c d. rights_of s.white_kingside s.white_queenside c d) parts.1.1.0 parts.1.1.1,
      λ h. four.1 (ap (λ (x : Rights). x.white_kingside) h, (ap (λ (x : Rights). x.white_queenside) h, (ap (λ (x : Rights). x.black_kingside) h, ap (λ (x : Rights). x.black_queenside) h))),
    )

abbrev board_of : List Man → Side → Rights → Option ℕ → ℕ → Board
board_of men side rights passant number =
    record { men = men; side = side; rights = rights; passant = passant; number = number }

abbrev pub same_parts : Board → Board → Bool
same_parts p q =
    p.number == q.number && (same_men p.men q.men
    && (sameb side_type p.side q.side && (same_rights p.rights q.rights && option_eq (λ x y. x == y) p.passant q.passant)))

pub equal_by_parts : (p q : Board) (r : Bool) → r ≡ same_parts p q → Decides r (p ≡ q)
equal_by_parts p q r e =
    let men = Decides-men p.men q.men in
    let five = Decides-both _ _ (Decides-eqb p.number q.number)
    (Decides-both _ _ men (Decides-both _ _ (Decides-side p.side q.side)
    (Decides-both _ _ (Decides-rights p.rights q.rights) (Decides-square p.passant q.passant)))) in (
      λ h.
          let parts = five.0 (sym e ∙ h) in
          ap₂ (λ men number. board_of men p.side p.rights p.passant number) parts.1.0 parts.0
          ∙ ap₂ (λ side rights. board_of q.men side rights p.passant q.number) parts.1.1.0 parts.1.1.1.0
          ∙ ap (λ passant. board_of q.men q.side q.rights passant q.number) parts.1.1.1.1,
      λ h. e ∙ five.1 (ap (λ (x : Board). x.number) h, (ap (λ (x : Board). x.men) h, (ap (λ (x : Board). x.side) h, (ap (λ (x : Board). x.rights) h, ap (λ (x : Board). x.passant) h)))),
    )
