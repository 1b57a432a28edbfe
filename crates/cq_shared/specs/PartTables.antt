-- The place of a part's number in a table of numbers, by the text of the part.
use Rattle.std.specs.Prelude.{◌≡◌, ℕ, zero, suc, ◌+◌, ◌*◌, ◌%◌, ◌<◌, ◌==◌, Bool, true, List, [], ◌∷◌, fold, length, get_or}
use Rattle.std.specs.List.{list_any}
use Rattle.cql_rewrite.specs.FlatText.{items_text}
use Rattle.cq_shared.specs.Parts.{PartTree}
use Rattle.cql_plan.specs.Replacements.{alone}
use Rattle.cq_shared.specs.declared.table.PartBucket.{PartBucket}

-- a hash of the bytes of a text
unfoldable pub mixed : ℕ → ℕ → ℕ
mixed h byte = (h * 257 + byte) % 4294967291

unfoldable pub hash_bytes : List ℕ → ℕ
hash_bytes text = fold mixed 0 text

-- the place of a part in a table of `many` places
unfoldable pub bucket_of : ℕ → PartTree → ℕ
bucket_of many p = hash_bytes (items_text (alone p.filter)) % many

-- the numbers at a place
abbrev pub numbers_at : List PartBucket → ℕ → List ℕ
numbers_at [] i = []
numbers_at (x ∷ xs) zero = x.numbers.items
numbers_at (x ∷ xs) (suc i) = numbers_at xs i

abbrev pub is_among : ℕ → List ℕ → Bool
is_among k ks = list_any (λ j. j == k) ks

-- there are places, and the number of each part is at its own
pub record IsTable (places : List PartBucket) (ps : List PartTree) : Type 0 where
  pub some : 0 < length places
  pub stands : (k : ℕ) (p : PartTree) → k < length ps → p ≡ get_or ps k p
      → is_among k (numbers_at places (bucket_of (length places) p)) ≡ true
