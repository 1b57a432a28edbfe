-- Patterns of lists, and the lists that they spell.
use Rattle.std.specs.Prelude.{◌≡◌, ◌≤◌, ◌↔◌, ℕ, zero, suc, ◌+◌, ◌-◌, min, max, List, [], ◌∷◌, ◌++◌, length, Bool, true, false, ◌&&◌, ◌||◌, Option, Some, None, IfSome}
use Rattle.std.specs.List.{list_any, range_with_len}

-- one item that passes a test; the empty list; two patterns in sequence; a pattern repeated, with the least number of times and, if given,
-- the most
pub data Pattern (A : Type 0) : Type 0 where
  one : A → Pattern A
  nothing : Pattern A
  joined : Pattern A → Pattern A → Pattern A
  repeated : ℕ → Option ℕ → Pattern A → Pattern A

-- a list of exactly k parts in order, each of which is spelled
abbrev pub Times : (List ℕ → Type 0) → ℕ → List ℕ → Type 0
Times Part zero w = w ≡ []
Times Part (suc k) w = (u : List ℕ) × (v : List ℕ) × (w ≡ u ++ v) × Part u × Times Part k v

-- The lists that a pattern spells. The test decides which numbers match an item. A sequence spells a list that splits into two spelled
-- parts. A repetition spells a list that splits into a permitted number of spelled parts.
abbrev pub Spells : {A : Type 0} → (A → ℕ → Bool) → Pattern A → List ℕ → Type 0
Spells test (one a) w = (n : ℕ) × (w ≡ n ∷ []) × (test a n ≡ true)
Spells test nothing w = w ≡ []
Spells test (joined p q) w = (u : List ℕ) × (v : List ℕ) × (w ≡ u ++ v) × Spells test p u × Spells test q v
Spells test (repeated least most p) w = (k : ℕ) × (least ≤ k) × IfSome most (λ m. k ≤ m) × Times (Spells test p) k w

-- true if some split of the list passes the test
abbrev pub splits : (List ℕ → List ℕ → Bool) → List ℕ → Bool
splits both [] = both [] []
splits both (x ∷ w) = both [] (x ∷ w) || splits (λ u v. both (x ∷ u) v) w

abbrev pub is_empty : List ℕ → Bool
is_empty [] = true
is_empty (x ∷ w) = false

abbrev pub is_one : (ℕ → Bool) → List ℕ → Bool
is_one test [] = false
is_one test (x ∷ []) = test x
is_one test (x ∷ y ∷ w) = false

abbrev pub times : (List ℕ → Bool) → ℕ → List ℕ → Bool
times part zero w = is_empty w
times part (suc k) w = splits (λ u v. part u && times part k v) w

-- The numbers of parts to try, from the least to the most. A number above both the least and the length of the list is never needed, since
-- one of the parts would be empty.
abbrev pub counts : ℕ → Option ℕ → ℕ → List ℕ
counts least None len = range_with_len least (len + 1 - least + 1)
counts least (Some most) len = range_with_len least (min (most + 1) (max least len + 1) - least)

abbrev pub spells : {A : Type 0} → (A → ℕ → Bool) → Pattern A → List ℕ → Bool
spells test (one a) w = is_one (test a) w
spells test nothing w = is_empty w
spells test (joined p q) w = splits (λ u v. spells test p u && spells test q v) w
spells test (repeated least most p) w = list_any (λ k. times (spells test p) k w) (counts least most (length w))

-- the test is true exactly of the spelled lists
abbrev pub TestIsSpelling : Type 0 → Type 0
TestIsSpelling A = (test : A → ℕ → Bool) (p : Pattern A) (w : List ℕ) → (spells test p w ≡ true) ↔ Spells test p w
