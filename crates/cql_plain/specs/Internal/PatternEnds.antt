-- The ends of a pattern that begins at some of the places along paths, as the private functions give them.
use Rattle.std.specs.Prelude.{◌≡◌, ◌↔◌, ℕ, suc, List, [], ◌∷◌, Bool, true, false, length, get_or}
use Rattle.cq_common.specs.Spelling.{Pattern, Spells}

-- Place 0 is before the first node of each path, and place suc k just after node k. Here `goes i k` says that paths go on from place i to
-- node k, and so to place suc k.
abbrev pub Spans : (ℕ → ℕ → Type 0) → ℕ → List ℕ → ℕ → Type 0
Spans goes i [] j = i ≡ j
Spans goes i (k ∷ w) j = goes i k × Spans goes (suc k) w j

-- some path from a place of the set leads to j, and the pattern spells its nodes
pub record IsEnd {A : Type 0} (goes : ℕ → ℕ → Type 0) (test : A → ℕ → Bool) (p : Pattern A) (Start : ℕ → Type 0) (j : ℕ) : Type 0 where
  pub start : ℕ
  pub path : List ℕ
  pub begins : Start start
  pub leads : Spans goes start path j
  pub spelled : Spells test p path

-- a set of places: one truth for each
abbrev pub HasPlace : List Bool → ℕ → Type 0
HasPlace set j = get_or set j false ≡ true

-- all places at which the pattern ends, if it begins at some place of a set
pub record AreEnds {A : Type 0} (goes : ℕ → ℕ → Type 0) (test : A → ℕ → Bool) (p : Pattern A) (starts ends : List Bool) : Type 0 where
  pub count : length ends ≡ length starts
  pub each : (j : ℕ) → HasPlace ends j ↔ IsEnd goes test p (HasPlace starts) j
