-- The kinds of men on a square, man by man.
use Rattle.std.proofs.Common.{◌≡◌, ◌||◌, refl}
use Rattle.cq_position.specs.declared.men.Man.{Man}
use Rattle.cq_position.specs.declared.men.Man.TheVariants.{K, Q, R, B, N, P, BlackK, BlackQ, BlackR, BlackB, BlackN, BlackP, Empty}
use Rattle.cq_position.specs.Men.{same_man}
use Rattle.cq_bits.specs.Internal.Kinds.{is_nothing}
use Rattle.cq_bits.specs.Sets.{goes_straight, goes_diagonally}

pub nobody_there : (m : Man) → same_man m Empty ≡ is_nothing m
nobody_there K = refl
nobody_there Q = refl
nobody_there R = refl
nobody_there B = refl
nobody_there N = refl
nobody_there P = refl
nobody_there BlackK = refl
nobody_there BlackQ = refl
nobody_there BlackR = refl
nobody_there BlackB = refl
nobody_there BlackN = refl
nobody_there BlackP = refl
nobody_there Empty = refl

pub straight_there : (m : Man) → ((same_man m Q || same_man m BlackQ) || (same_man m R || same_man m BlackR)) ≡ goes_straight m
straight_there K = refl
straight_there Q = refl
straight_there R = refl
straight_there B = refl
straight_there N = refl
straight_there P = refl
straight_there BlackK = refl
straight_there BlackQ = refl
straight_there BlackR = refl
straight_there BlackB = refl
straight_there BlackN = refl
straight_there BlackP = refl
straight_there Empty = refl

pub diagonal_there : (m : Man) → ((same_man m Q || same_man m BlackQ) || (same_man m B || same_man m BlackB)) ≡ goes_diagonally m
diagonal_there K = refl
diagonal_there Q = refl
diagonal_there R = refl
diagonal_there B = refl
diagonal_there N = refl
diagonal_there P = refl
diagonal_there BlackK = refl
diagonal_there BlackQ = refl
diagonal_there BlackR = refl
diagonal_there BlackB = refl
diagonal_there BlackN = refl
diagonal_there BlackP = refl
diagonal_there Empty = refl
