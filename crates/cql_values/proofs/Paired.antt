-- The values of filters of two parts: squares or a truth.
use Rattle.std.proofs.Common.{◌≡◌, ◌⊎◌, List, refl, inl, inr}
use Rattle.cq_position.specs.declared.men.Man.{Man}
use Rattle.cql_syntax.specs.Values.{Value, as_truth, as_squares, has, pair_of}
use Rattle.cql_syntax.specs.declared.leaves.Pair.{Pair}
use Rattle.cql_syntax.specs.declared.leaves.Pair.TheVariants.{Attacks, AttackedBy, Between, Less, AtMost, Equal, AtLeast, Greater}
use Rattle.cql_values.specs.FilterValues.{is_true}

pub gives_squares : (men : List Man) (p : Pair) (x y : Value) → (p ≡ Attacks) ⊎ ((p ≡ AttackedBy) ⊎ (p ≡ Between)) → as_squares (has (pair_of men p x y)) ≡ pair_of men p x y
gives_squares men p x y is = elim is [
  | inl e ↦ rw e refl
  | inr other ↦ elim other [ inl e ↦ rw e refl | inr e ↦ rw e refl ]
]

pub gives_truth : (men : List Man) (p : Pair) (x y : Value) → (p ≡ Less) ⊎ ((p ≡ AtMost) ⊎ ((p ≡ Equal) ⊎ ((p ≡ AtLeast) ⊎ (p ≡ Greater))))
    → as_truth (is_true (pair_of men p x y)) ≡ pair_of men p x y
gives_truth men p x y is = elim is [
  | inl e ↦ rw e refl
  | inr other ↦ elim other [
    | inl e ↦ rw e refl
    | inr third ↦ elim third [ inl e ↦ rw e refl | inr last ↦ elim last [ inl e ↦ rw e refl | inr e ↦ rw e refl ] ]
  ]
]
