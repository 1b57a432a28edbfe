-- The rules of a pattern, as the private functions give them, numbered from a place on. The rules of a later part have lower numbers than
-- those of an earlier part.
use Rattle.std.specs.Prelude.{ℕ, zero, suc, ◌+◌, ◌-◌, ◌*◌, ◌^◌, ◌<◌, List, [], ◌∷◌, ◌++◌, Bool, true, false, ◌&&◌, Option, Some, None, bit_or}
use Rattle.cql_lines.specs.declared.automaton.FollowSet.{FollowSet}
use Rattle.cql_lines.specs.declared.automaton.Transition.{Transition}
use Rattle.cq_common.specs.Spelling.{Pattern, one, nothing, joined, repeated}
use Rattle.cql_lines.specs.Places.{when}

-- the places of the mask and, if the part may be empty, also the ways on after it
abbrev pub begins : ℕ → Bool → FollowSet → FollowSet
begins mask b next = record { places = bit_or mask (when b next.places); ends = b && next.ends }

-- true if the repeated part may be empty, by b of one part; m and n are the bounds
abbrev pub null_times : Bool → ℕ → ℕ → Bool
null_times b zero n = true
null_times b (suc m) zero = false
null_times b (suc m) (suc n) = b && null_times b m n

abbrev pub null_repeated : Bool → ℕ → Option ℕ → Bool
null_repeated b m (Some n) = null_times b m n
null_repeated b zero None = true
null_repeated b (suc m) None = b

abbrev pub nullable : Pattern ℕ → Bool
nullable (one a) = false
nullable nothing = true
nullable (joined p q) = nullable p && nullable q
nullable (repeated least most p) = null_repeated (nullable p) least most

-- the number of rules of a pattern
abbrev pub size : Pattern ℕ → ℕ
size (one a) = 1
size nothing = 0
size (joined p q) = size q + size p
size (repeated least (Some n) p) = n * size p
size (repeated least None p) = size p

-- the places that read the first node
abbrev pub firsts_times : (ℕ → ℕ) → Bool → ℕ → ℕ → ℕ → ℕ
firsts_times first b len zero k = 0
firsts_times first b len (suc n) k = bit_or (first (k + n * len)) (when b (firsts_times first b len n k))

abbrev pub firsts : Pattern ℕ → ℕ → ℕ
firsts (one a) k = 2 ^ k
firsts nothing k = 0
firsts (joined p q) k = bit_or (firsts p (k + size q)) (when (nullable p) (firsts q k))
firsts (repeated least (Some n) p) k = firsts_times (firsts p) (nullable p) (size p) n k
firsts (repeated least None p) k = firsts p k

abbrev pub rows_times : (FollowSet → ℕ → List Transition) → (ℕ → ℕ) → Bool → ℕ → ℕ → ℕ → FollowSet → ℕ → List Transition
rows_times row first b len m zero next k = []
rows_times row first b len m (suc n) next k =
    rows_times row first b len (m - 1) n next k ++ row (begins (firsts_times first b len n k) (null_times b (m - 1) n) next) (k + n * len)

abbrev pub rows : Pattern ℕ → FollowSet → ℕ → List Transition
rows (one a) next k = record { atom = a; after = next } ∷ []
rows nothing next k = []
rows (joined p q) next k = rows q next k ++ rows p (begins (firsts q k) (nullable q) next) (k + size q)
rows (repeated least (Some n) p) next k = rows_times (rows p) (firsts p) (nullable p) (size p) least n next k
rows (repeated least None p) next k = rows p (begins (firsts p k) true next) k

-- a part that is repeated without an upper bound has the lower bound 0 or 1
abbrev pub IsPlain : Pattern ℕ → Type 0
IsPlain (one a) = Unit {0}
IsPlain nothing = Unit {0}
IsPlain (joined p q) = IsPlain p × IsPlain q
IsPlain (repeated least (Some n) p) = IsPlain p
IsPlain (repeated zero None p) = IsPlain p
IsPlain (repeated (suc zero) None p) = IsPlain p
IsPlain (repeated (suc (suc m)) None p) = ⊥

-- all atoms are below a number
abbrev pub AtomsBelow : Pattern ℕ → ℕ → Type 0
AtomsBelow (one a) n = a < n
AtomsBelow nothing n = Unit {0}
AtomsBelow (joined p q) n = AtomsBelow p n × AtomsBelow q n
AtomsBelow (repeated least most p) n = AtomsBelow p n
