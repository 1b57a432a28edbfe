-- The men that four words encode.
use Rattle.std.specs.Prelude.{◌≡◌, ℕ, zero, suc, ◌<◌, List, refl}
use Rattle.std.proofs.Common.{ap₂, ◌∙◌}
use Rattle.cq_position.specs.declared.men.Man.{Man}
use Rattle.cq_position.specs.Men.{man_number}
use Rattle.cq_position.specs.declared.planes.Men.TheInside.{Inside}
use Rattle.cq_position.specs.Planes.{man_numbered}
use Rattle.cq_square_sets.specs.Planes.{list_of, word_of, AreWords}
use Rattle.cq_square_sets.proofs.Words.{words_back, AreBack, above}

abbrev pub men_inside : Inside → List Man
men_inside p = list_of man_numbered p.ones p.twos p.fours p.eights

-- each word has 64 bits, and each square has the number of a man
abbrev pub AreMen : Inside → Type 0
AreMen p = AreWords 13 p.ones p.twos p.fours p.eights

abbrev pub words_of : List Man → Inside
words_of men = record {
  ones = word_of man_number 0 men;
  twos = word_of man_number 1 men;
  fours = word_of man_number 2 men;
  eights = word_of man_number 3 men;
}

-- the number of the man with a number
pub numbered : (n : ℕ) → n < 13 → man_number (man_numbered n) ≡ n
numbered zero h = refl
numbered (suc zero) h = refl
numbered (suc (suc zero)) h = refl
numbered (suc (suc (suc zero))) h = refl
numbered (suc (suc (suc (suc zero)))) h = refl
numbered (suc (suc (suc (suc (suc zero))))) h = refl
numbered (suc (suc (suc (suc (suc (suc zero)))))) h = refl
numbered (suc (suc (suc (suc (suc (suc (suc zero))))))) h = refl
numbered (suc (suc (suc (suc (suc (suc (suc (suc zero)))))))) h = refl
numbered (suc (suc (suc (suc (suc (suc (suc (suc (suc zero))))))))) h = refl
numbered (suc (suc (suc (suc (suc (suc (suc (suc (suc (suc zero)))))))))) h = refl
numbered (suc (suc (suc (suc (suc (suc (suc (suc (suc (suc (suc zero))))))))))) h = refl
numbered (suc (suc (suc (suc (suc (suc (suc (suc (suc (suc (suc (suc zero)))))))))))) h = refl
numbered (suc (suc (suc (suc (suc (suc (suc (suc (suc (suc (suc (suc (suc n))))))))))))) h = absurd (above n h)

abbrev inside_with : ℕ → ℕ → ℕ → ℕ → Inside
inside_with a b c d = record { ones = a; twos = b; fours = c; eights = d }

-- equality from the equations of the fields
by_fields : (a b c d e f g h : ℕ) → a ≡ e → b ≡ f → c ≡ g → d ≡ h → inside_with a b c d ≡ inside_with e f g h
by_fields a b c d e f g h p q r s = ap₂ (λ x y. inside_with x y c d) p q ∙ ap₂ (λ x y. inside_with e f x y) r s

pub men_back : (p : Inside) → AreMen p → words_of (men_inside p) ≡ p
men_back p h =
    let back : AreBack man_number man_numbered p.ones p.twos p.fours p.eights
    = words_back man_number man_numbered 13 numbered p.ones p.twos p.fours p.eights h in
    by_fields _ _ _ _ p.ones p.twos p.fours p.eights back.ones back.twos back.fours back.eights
