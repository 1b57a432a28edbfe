-- Calls at elements one by one are calls at each place.
use Rattle.std.proofs.Common.{◌≡◌, refl, sym, subst, ap, ℕ, zero, suc, ◌+◌, ◌<◌, List, [], ◌∷◌, length, take, drop, ◌-◌, get_or, slice_index_or, ◌≤◌, MutBor, arith}
use Rattle.std.proofs.lemmas.List.{take_all}
use denote.Param.Members.{Shared}
use Rattle.std.specs.Fork.{AcceptsAt, AcceptsEach, ChangesAt, ChangesEach}
use Rattle.cq_workers.specs.Internal.Starts.{AcceptsFrom, ChangesFrom, MayLeave}

module _ {F T : Type 0} (g : Shared F (ℕ × (MutBor T × Unit {0})) ((Unit {0}) × (MutBor T × Unit {0}))) (f : F) where
  accepts_from : (i : ℕ) (xs : List T) → ((k : ℕ) (p : MutBor T) → k < length xs → p.now ≡ slice_index_or xs k p.now → g.pre f (i + k, (p, tt))) → AcceptsFrom g f i xs
  accepts_from i [] each = tt
  accepts_from i (x ∷ xs) each = (
    (λ p is. subst (λ n. g.pre f (n, (p, tt))) {x = i + 0} (omega arith) (each 0 p (omega arith) is)),
    accepts_from (i + 1) xs (λ k p inside is. subst (λ n. g.pre f (n, (p, tt))) {x = i + suc k} (omega arith) (each (suc k) p (omega arith) is)),
  )

  pub accepts_all : (xs : List T) → AcceptsEach g f xs → AcceptsFrom g f 0 xs
  accepts_all xs each = accepts_from 0 xs (λ k p inside is. subst (λ n. g.pre f (n, (p, tt))) {x = k} (omega arith) (each k p inside is))

  changes_at : (i : ℕ) (xs ys : List T) → ChangesFrom g f i xs ys → (k : ℕ) (d : T) → k < length xs → ChangesAt g f (i + k) (slice_index_or xs k d) (slice_index_or ys k d)
  unfolding MayLeave
  changes_at i [] ys changes k d inside = absurd (omega arith)
  changes_at i (x ∷ xs) ys changes zero d inside =
      subst (λ zs. ChangesAt g f (i + 0) x (slice_index_or zs 0 d)) (sym changes.2) (subst (λ n. ChangesAt g f n x changes.0) {x = i} (omega arith) changes.3)
  changes_at i (x ∷ xs) ys changes (suc k) d inside =
      subst (λ zs. ChangesAt g f (i + suc k) (slice_index_or xs k d) (slice_index_or zs (suc k) d)) (sym changes.2)
      (subst (λ n. ChangesAt g f n (slice_index_or xs k d) (slice_index_or changes.1 k d)) {x = (i + 1) + k} (omega arith)
      (changes_at (i + 1) xs changes.1 changes.4 k d (omega arith)))

  pub changes_all : (xs ys : List T) → ChangesFrom g f 0 xs ys → ChangesEach g f xs ys
  changes_all xs ys changes k d inside =
      (refl, subst (λ n. ChangesAt g f n (slice_index_or xs k d) (slice_index_or ys k d)) {x = 0 + k} (omega arith) (changes_at 0 xs ys changes k d inside))

  pub after_first : (i : ℕ) (xs ys : List T) (x y : T) (rest : List T) → 1 ≤ length xs → x ≡ get_or xs 0 x → ys ≡ y ∷ rest → MayLeave g f i x y
      → ChangesFrom g f (i + 1) (take (length xs - 1) (drop 1 xs)) rest → ChangesFrom g f i xs ys
  after_first i [] ys x y rest some is are changes others = absurd (omega arith)
  after_first i (z ∷ xs) ys x y rest some is are changes others =
      let all : take (length (z ∷ xs) - 1) xs ≡ xs = take_all (length (z ∷ xs) - 1) xs (omega arith) in
      (y, rest, are, subst (λ v. MayLeave g f i v y) is changes, subst (λ zs. ChangesFrom g f (i + 1) zs rest) all others)
