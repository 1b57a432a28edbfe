-- Definitions for the contracts of functions that read a text.
use Rattle.std.specs.Prelude.{◌≡◌, ℕ, ◌≤◌, List, [], Bool, true, false, Option, Some, None, MatchOption, replicate, ◌⊎◌}
use Rattle.cq_position.specs.declared.men.Man.{Man}
use Rattle.cq_position.specs.declared.men.Man.TheVariants.{Empty}
use Rattle.cq_position.specs.declared.fen.fields.Fields.{Fields}
use Rattle.cq_position.specs.FenBytes.{slash}
use Rattle.cq_position.specs.Fen.{FieldTexts, parts, squares_of, is_rank_byte}

-- the value exactly if the test is true
abbrev pub SomeIfTrue : {X : Type 0} → Option X → Bool → X → Type 0
SomeIfTrue result test value = MatchOption result (test ≡ false) (λ x. (test ≡ true) × (x ≡ value))

-- the texts of the six fields
abbrev pub texts_of : Fields → FieldTexts
texts_of f = record {
  placement = f.placement.now;
  side = f.side.now;
  castling = f.castling.now;
  passant = f.passant.now;
  clock = f.clock.now;
  number = f.number.now;
}

-- the ranks after a slash, none if there was no slash
abbrev pub ranks_left : Option (List ℕ) → List (List ℕ)
ranks_left None = []
ranks_left (Some text) = parts slash text

-- a run of squares with the same man or none, as a byte of a rank means it
pub record IsRunOf (byte : ℕ) (man : Man) (width : ℕ) : Type 0 where
  pub known : is_rank_byte byte ≡ true
  pub squares : squares_of byte ≡ replicate width man
  pub some : 1 ≤ width
  pub alone : (width ≡ 1) ⊎ (man ≡ Empty)
