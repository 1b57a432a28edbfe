-- The squares that have one of some men.
use Rattle.std.proofs.Common.{◌≡◌, ℕ, zero, suc, ◌+◌, ◌<◌, ◌≤◌, arith, Bool, true, false, ◌&&◌, ◌||◌, List, [], ◌∷◌, ◌++◌, length, take, get_or, refl, sym, ap, ap₂, ◌∙◌, min}
use Rattle.std.specs.List.{list_any}
use Rattle.std.specs.Prelude.{bit_and, if◌then◌else◌}
use Rattle.std.proofs.Math.Bool.{or-false}
use Rattle.std.proofs.lemmas.List.Folds.{list_any-append, list_any_more}
use Rattle.std.proofs.lemmas.Nat.Bits.{bit_at-zero, bit_at_and}
use Rattle.cq_position.specs.Bitboards.{IsBitboard, bit_of}
use Rattle.cq_position.specs.Men.{man_number, same_man}
use Rattle.cq_position.specs.declared.men.Man.{Man}
use Rattle.cq_position.specs.declared.men.Man.TheVariants.{K, Q, R, B, N, P, BlackK, BlackQ, BlackR, BlackB, BlackN, BlackP, Empty}
use Rattle.cq_position.proofs.Marked.{marks_same}
use Rattle.cq_symmetry.specs.Images.{is_in}
use Rattle.cql_values.proofs.Masks.{bit_is, min_of}

abbrev pub all_men : List Man
all_men = K ∷ Q ∷ R ∷ B ∷ N ∷ P ∷ BlackK ∷ BlackQ ∷ BlackR ∷ BlackB ∷ BlackN ∷ BlackP ∷ Empty ∷ []

-- the man is one of the men that pass
pub some_man : (test : ℕ → Bool) (x : Man) → list_any (λ m. same_man x m && test (man_number m)) all_men ≡ test (man_number x)
some_man test K = or-false (test 0)
some_man test Q = or-false (test 1)
some_man test R = or-false (test 2)
some_man test B = or-false (test 3)
some_man test N = or-false (test 4)
some_man test P = or-false (test 5)
some_man test BlackK = or-false (test 6)
some_man test BlackQ = or-false (test 7)
some_man test BlackR = or-false (test 8)
some_man test BlackB = or-false (test 9)
some_man test BlackN = or-false (test 10)
some_man test BlackP = or-false (test 11)
some_man test Empty = or-false (test 12)

pub and_true : (b : Bool) → b ≡ (b && true)
and_true true = refl
and_true false = refl

and_false : (b : Bool) → false ≡ (b && false)
and_false true = refl
and_false false = refl

-- the squares of a set that pass a test
pub masked : (part mask : ℕ) (test : ℕ → Bool) → IsBitboard mask test → IsBitboard (bit_and part mask) (λ s. is_in part s && test s)
masked part mask test m = record { bit = λ s low. bit_at_and part mask s ∙ ap₂ min (bit_is part s) (m.bit s low) ∙ min_of (is_in part s) (test s) }

-- men that are listed one by one
abbrev pub ListedTo : ℕ → List Man → ℕ → List Man → Type 0
ListedTo wanted xs i listed = (m : Man) → list_any (same_man m) listed ≡ list_any (λ x. same_man m x && is_in wanted (man_number x)) (take i xs)

one_listed : (p : Man → Bool) (man : Man) (b : Bool) → list_any p (if b then man ∷ [] else []) ≡ (p man && b)
one_listed p man true = or-false (p man) ∙ and_true (p man)
one_listed p man false = and_false (p man)

pub listed_more : (wanted : ℕ) (xs listed later : List Man) (i : ℕ) (d : Man) (b : Bool) → i < length xs
    → later ≡ listed ++ (if b then get_or xs i d ∷ [] else []) → b ≡ is_in wanted (man_number (get_or xs i d)) → ListedTo wanted xs i listed → ListedTo wanted xs (i + 1) later
listed_more wanted xs listed later i d b lt more there had m =
    let man = get_or xs i d in
    let test = λ (x : Man). same_man m x && is_in wanted (man_number x) in
    ap (list_any (same_man m)) more ∙ list_any-append (same_man m) listed (if b then man ∷ [] else [])
    ∙ ap₂ (λ a c. a || c) (had m) (one_listed (same_man m) man b ∙ ap (λ c. same_man m man && c) there)
    ∙ sym (list_any_more test xs i d lt)

pub take_listed : (xs : List Man) (i : ℕ) → length xs ≤ i → take i xs ≡ xs
take_listed [] zero h = refl
take_listed [] (suc i) h = refl
take_listed (x ∷ xs) zero h = absurd (omega (arith, h))
take_listed (x ∷ xs) (suc i) h = ap (λ l. x ∷ l) (take_listed xs i (omega (arith, h)))
