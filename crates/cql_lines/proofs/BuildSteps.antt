-- Steps of building an automaton.
use Rattle.std.proofs.Common.{◌≡◌, ℕ, zero, suc, ◌+◌, ◌-◌, ◌*◌, ◌<◌, ◌≤◌, List, ◌++◌, length, refl, sym, ap, ◌∙◌, subst, Bool, true, false, arith, length-append, append_assoc}
use Rattle.std.specs.Prelude.{bit_or}
use Rattle.std.specs.Int.Bits.{or_zero_r}
use Rattle.cql_lines.specs.declared.automaton.Transition.{Transition}
use Rattle.cql_lines.specs.declared.automaton.FollowSet.{FollowSet}
use Rattle.cql_lines.specs.Building.{firsts_times, rows_times, begins, null_times}
use Rattle.cql_lines.specs.Places.{when}

pub or_nothing : (a more : ℕ) (b : Bool) → b ≡ false → a ≡ bit_or a (when b more)
or_nothing a more b e = rw e (sym (or_zero_r a))

-- a number of parts, at least the lower bound, may all be empty
pub null_enough : (b : Bool) (m n : ℕ) → 0 < m → m ≤ n → b ≡ null_times b m n
null_enough b zero n some h = absurd (omega arith)
null_enough b (suc m) zero some h = absurd (omega arith)
null_enough true (suc zero) (suc n) some h = refl
null_enough false (suc zero) (suc n) some h = refl
null_enough true (suc (suc m)) (suc n) some h = null_enough true (suc m) n (omega arith) (omega arith)
null_enough false (suc (suc m)) (suc n) some h = refl

pub null_few : (b : Bool) (m n : ℕ) → n < m → null_times b m n ≡ false
null_few b zero n h = absurd (omega arith)
null_few b (suc m) zero h = refl
null_few true (suc m) (suc n) h = null_few true m n (omega arith)
null_few false (suc m) (suc n) h = refl

-- rows after rows
pub rows_after : (old mid new front : List Transition) (len : ℕ) (row : ℕ → List Transition) → mid ≡ old ++ front → length front ≡ len
    → new ≡ mid ++ row (length mid) → new ≡ old ++ (front ++ row (length old + len))
rows_after old mid new front len row m l n =
    let k : length mid ≡ length old + len = ap length m ∙ length-append old front ∙ ap (λ x. length old + x) l in
    n ∙ ap (λ x. mid ++ row x) k ∙ ap (λ x. x ++ row (length old + len)) m ∙ append_assoc old front (row (length old + len))

pub length_after : (old mid front : List Transition) (len : ℕ) → mid ≡ old ++ front → length front ≡ len → length mid ≡ length old + len
length_after old mid front len m l = ap length m ∙ length-append old front ∙ ap (λ x. length old + x) l

module _ (row : FollowSet → ℕ → List Transition) (first : ℕ → ℕ) (b : Bool) (len : ℕ) where
  pub times_rows : (old mid new : List Transition) (m k : ℕ) (next : FollowSet) (f : ℕ) (null : Bool) → mid ≡ old ++ rows_times row first b len (m - 1) k next (length old)
      → length mid ≡ length old + k * len → f ≡ firsts_times first b len k (length old) → null ≡ null_times b (m - 1) k → new ≡ mid ++ row (begins f null next) (length mid)
      → new ≡ old ++ rows_times row first b len m (k + 1) next (length old)
  times_rows old mid new m k next f null is long fs ns more =
      let e : suc k ≡ k + 1 = omega arith in
      let front = rows_times row first b len (m - 1) k next (length old) in
      let l : length front ≡ k * len = (let a = ap length is in let c = length-append old front in omega arith) in
      let head : begins f null next ≡ begins (firsts_times first b len k (length old)) (null_times b (m - 1) k) next = ap
      (λ x. begins x null next) fs ∙ ap (λ x. begins (firsts_times first b len k (length old)) x next) ns in
      subst (λ j. new ≡ old ++ rows_times row first b len m j next (length old)) e
      (rows_after old mid new front (k * len) (λ x. row (begins (firsts_times first b len k (length old)) (null_times b (m - 1) k) next) x) is l
      (more ∙ ap (λ x. mid ++ row x (length mid)) head))

  pub times_first : (old mid : List Transition) (k f g h : ℕ) (empty : Bool) → length mid ≡ length old + k * len → f ≡ firsts_times first b len k (length old) → g ≡ first (length mid) → empty ≡ b
      → h ≡ bit_or g (when empty f) → h ≡ firsts_times first b len (k + 1) (length old)
  times_first old mid k f g h empty long fs gs es is =
      let e : suc k ≡ k + 1 = omega arith in
      subst (λ j. h ≡ firsts_times first b len j (length old)) e
      (is ∙ ap (λ x. bit_or x (when empty f)) (gs ∙ ap first long) ∙ ap (λ x. bit_or (first (length old + k * len)) (when x f)) es ∙ ap (λ x. bit_or (first (length old + k * len)) (when b x)) fs)

pub due_next : (m n k : ℕ) → k < n → m - (n - k) ≡ m - (n - (k + 1)) - 1
due_next m n k low = omega arith

pub left_due : (m n k : ℕ) → k < n → m - (n - k) ≡ m - (n - 1 - k) - 1
left_due m n k low = omega arith

pub left_next : (m n k : ℕ) → k < n → m - (n - 1 - k) ≡ m - (n - (k + 1))
left_next m n k low = omega arith
