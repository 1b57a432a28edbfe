-- The number of squares of a set.
use Rattle.std.proofs.Common.{◌≡◌, ℕ, ◌<◌, ◌^◌, Bool, true, false, cond, List, length, map, refl, sym, ap, ◌∙◌, arith}
use Rattle.std.specs.Int.RustNames.{count_ones}
use Rattle.std.proofs.lemmas.Nat.Bits.{same_from_bits_below}
use Rattle.std.proofs.lemmas.List.{get_or-map, length-map}
use Rattle.std.proofs.lemmas.Simd.{mask_l-lt, bit_mask_l, ones-mask_l}
use lib.Lanes.{mask_l}
use Rattle.cq_position.specs.declared.men.Man.{Man}
use Rattle.cq_position.specs.declared.men.Man.TheVariants.{Empty}
use Rattle.cq_position.specs.Men.{same_man}
use Rattle.cq_position.specs.Board.{stands, count_of}
use Rattle.cq_square_sets.specs.Bitboards.{IsBitboard, bit_of}

of_bit : (b : Bool) → bit_of b ≡ cond b 1 0
of_bit true = refl
of_bit false = refl

as_mask : (mask : ℕ) (men : List Man) (man : Man) → length men ≡ 64 → mask < 2 ^ 64 → IsBitboard mask (λ k. stands men k man)
    → mask ≡ mask_l (map (λ m. same_man m man) men)
as_mask mask men man whole fits is =
    let p = λ (m : Man). same_man m man in
    let len = length-map men p ∙ whole in
    let below : mask_l (map p men) < 2 ^ 64 = rw len at (mask_l-lt (map p men)) in
    same_from_bits_below 64 mask (mask_l (map p men)) fits below
    (λ k low. is.bit k low ∙ of_bit (stands men k man)
    ∙ ap (λ b. cond b 1 0) (sym (get_or-map p men k Empty false (omega (arith, whole, low))))
    ∙ sym (bit_mask_l (map p men) k))

pub counted : (mask : ℕ) (men : List Man) (man : Man) → length men ≡ 64 → mask < 2 ^ 64 → IsBitboard mask (λ k. stands men k man) → count_ones mask ≡ count_of man men
counted mask men man whole fits is = ap count_ones (as_mask mask men man whole fits is) ∙ ones-mask_l (λ m. same_man m man) men
