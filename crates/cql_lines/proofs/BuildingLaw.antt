-- The rules of a pattern are places for it.
use Rattle.std.proofs.Common.{◌≡◌, ℕ, zero, suc, ◌+◌, ◌-◌, ◌*◌, List, [], ◌∷◌, ◌++◌, length, refl, sym, ap, ◌∙◌, Bool, true, Some, None, arith, slice_get, length-append}
use Rattle.cql_lines.specs.declared.automaton.FollowSet.{FollowSet}
use Rattle.cql_lines.specs.declared.automaton.Transition.{Transition}
use Rattle.cq_common.specs.Spelling.{Pattern, one, nothing, joined, repeated}
use Rattle.cql_lines.specs.Building.{begins, null_times, nullable, size, firsts_times, firsts, rows_times, rows, IsPlain}
use Rattle.cql_lines.proofs.Built.{Built, BuiltTimes}

get_left : (xs ys : List Transition) (i : ℕ) (r : Transition) → slice_get xs i ≡ Some r → slice_get (xs ++ ys) i ≡ Some r
get_left [] ys i r e = absurd (cc)
get_left (x ∷ xs) ys zero r e = e
get_left (x ∷ xs) ys (suc i) r e = get_left xs ys i r e

get_right : (xs ys : List Transition) (i j : ℕ) (r : Transition) → j ≡ length xs + i → slice_get ys i ≡ Some r → slice_get (xs ++ ys) j ≡ Some r
get_right [] ys i j r h e = (let same : j ≡ i = omega arith in ap (slice_get ys) same ∙ e)
get_right (x ∷ xs) ys i zero r h e = absurd (omega arith)
get_right (x ∷ xs) ys i (suc j) r h e = get_right xs ys i j r (omega arith) e

-- the rows are in the rules from place k on
pub record Sit (rules : List Transition) (k : ℕ) (rs : List Transition) : Type 0 where
  pub at : (i : ℕ) (r : Transition) → slice_get rs i ≡ Some r → slice_get rules (k + i) ≡ Some r

sit_left : (rules : List Transition) (k : ℕ) (xs ys : List Transition) → Sit rules k (xs ++ ys) → Sit rules k xs
sit_left rules k xs ys s = record { at = λ i r e. s.at i r (get_left xs ys i r e) }

sit_right : (rules : List Transition) (k : ℕ) (xs ys : List Transition) (m : ℕ) → k + length xs ≡ m → Sit rules k (xs ++ ys) → Sit rules m ys
sit_right rules k xs ys m e s = record {
  at = λ i r h.
      let there : k + (length xs + i) ≡ m + i = omega arith in
      sym (ap (slice_get rules) there) ∙ s.at (length xs + i) r (get_right xs ys i (length xs + i) r refl h);
}

times_length : (row : FollowSet → ℕ → List Transition) (first : ℕ → ℕ) (b : Bool) (len : ℕ) → ((next : FollowSet) (k : ℕ) → length (row next k) ≡ len)
    → (m n : ℕ) (next : FollowSet) (k : ℕ) → length (rows_times row first b len m n next k) ≡ n * len
times_length row first b len is m zero next k = (let z : 0 ≡ 0 * len = omega arith in z)
times_length row first b len is m (suc n) next k =
    let rest = rows_times row first b len (m - 1) n next k in
    let head = row (begins (firsts_times first b len n k) (null_times b (m - 1) n) next) (k + n * len) in
    let h = times_length row first b len is (m - 1) n next k in
    let i = is (begins (firsts_times first b len n k) (null_times b (m - 1) n) next) (k + n * len) in
    let a = length-append rest head in
    grind (arith, h, i, a)

pub rows_length : (p : Pattern ℕ) (next : FollowSet) (k : ℕ) → length (rows p next k) ≡ size p
rows_length (one a) next k = refl
rows_length nothing next k = refl
rows_length (joined p q) next k =
    length-append (rows q next k) (rows p (begins (firsts q k) (nullable q) next) (k + size q))
    ∙ (let h = rows_length q next k in let i = rows_length p (begins (firsts q k) (nullable q) next) (k + size q) in omega arith)
rows_length (repeated least (Some n) p) next k = times_length (rows p) (firsts p) (nullable p) (size p) (rows_length p) least n next k
rows_length (repeated least None p) next k = rows_length p (begins (firsts p k) true next) k

module _ (rules : List Transition) where
  times_built : (row : FollowSet → ℕ → List Transition) (first : ℕ → ℕ) (b : Bool) (len : ℕ) (B : FollowSet → ℕ → Type 0)
      → ((next : FollowSet) (k : ℕ) → length (row next k) ≡ len) → ((next : FollowSet) (k : ℕ) → Sit rules k (row next k) → B next (first k))
      → (m n : ℕ) (next : FollowSet) (k : ℕ) → Sit rules k (rows_times row first b len m n next k) → BuiltTimes B b m n next (firsts_times first b len n k)
  times_built row first b len B long built m zero next k s = refl
  times_built row first b len B long built m (suc n) next k s =
      let rest = rows_times row first b len (m - 1) n next k in
      let head = row (begins (firsts_times first b len n k) (null_times b (m - 1) n) next) (k + n * len) in
      let l = times_length row first b len long (m - 1) n next k in (
        firsts_times first b len n k,
        first (k + n * len),
        times_built row first b len B long built (m - 1) n next k (sit_left rules k rest head s),
        built (begins (firsts_times first b len n k) (null_times b (m - 1) n) next) (k + n * len) (sit_right rules k rest head (k + n * len) (ap (λ x. k + x) l) s),
        refl,
      )

  pub rows_built : (p : Pattern ℕ) → IsPlain p → (next : FollowSet) (k : ℕ) → Sit rules k (rows p next k) → Built rules p next (firsts p k)
  rows_built (one a) plain next k s = (k, (let same : k + 0 ≡ k = omega arith in sym (ap (slice_get rules) same) ∙ s.at 0 _ refl), refl)
  rows_built nothing plain next k s = refl
  rows_built (joined p q) plain next k s =
      let rest = rows q next k in
      let head = rows p (begins (firsts q k) (nullable q) next) (k + size q) in (
        firsts q k,
        firsts p (k + size q),
        rows_built q plain.1 next k (sit_left rules k rest head s),
        rows_built p plain.0 (begins (firsts q k) (nullable q) next) (k + size q) (sit_right rules k rest head (k + size q) (ap (λ x. k + x) (rows_length q next k)) s),
        refl,
      )
  rows_built (repeated least (Some n) p) plain next k s = times_built (rows p) (firsts p) (nullable p) (size p) (Built rules p) (rows_length p) (rows_built p plain) least n next k s
  rows_built (repeated zero None p) plain next k s = rows_built p plain (begins (firsts p k) true next) k s
  rows_built (repeated (suc zero) None p) plain next k s = rows_built p plain (begins (firsts p k) true next) k s
  rows_built (repeated (suc (suc m)) None p) plain next k s = absurd plain
