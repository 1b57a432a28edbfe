-- Sets with all squares that are needed at some nodes.
use Rattle.std.proofs.Common.{◌≡◌, ℕ, ◌+◌, ◌<◌, ◌≤◌, Bool, true, false, not, ◌&&◌, ◌||◌, List, length, refl, sym, ap, ap₂, ◌∙◌, subst, arith, max, ⊎_elim}
use Rattle.std.specs.Prelude.{bit_or, if◌then◌else◌}
use Rattle.std.proofs.lemmas.Nat.Bits.{bit_at_or}
use Rattle.cq_position.specs.Bitboards.{bit_of}
use Rattle.cq_symmetry.specs.Images.{is_in}
use Rattle.cql_syntax.specs.Values.{Value, has}
use Rattle.cql_values.specs.FilterValues.{settles}
use Rattle.cql_values.proofs.Masks.{is_in_bit, bit_is}
use Rattle.cql_columns.specs.SquareTrials.{AreUnsettled, CoverSquares}
use Rattle.cql_columns.specs.Columns.{is_live}
use Rattle.cql_columns.proofs.Filling.{both_left, or_left, or_right, live_below, split_last}

-- those of the first k nodes
pub record WantedTo (x : ℕ → Value) (live : List Bool) (k wanted : ℕ) : Type 0 where
  pub each : (n s : ℕ) → n < k → is_live live n ≡ true → has (x n) s ≡ true → is_in wanted s ≡ true

pub wanted_none : (x : ℕ → Value) (live : List Bool) (wanted : ℕ) → WantedTo x live 0 wanted
wanted_none x live wanted = record { each = λ n s h a b. absurd (omega (arith, h)) }

max_of : (t u : Bool) → max (bit_of t) (bit_of u) ≡ bit_of (t || u)
max_of true true = refl
max_of true false = refl
max_of false true = refl
max_of false false = refl

pub in_either : (a b s : ℕ) → is_in (bit_or a b) s ≡ (is_in a s || is_in b s)
in_either a b s = is_in_bit (bit_or a b) s (is_in a s || is_in b s) (bit_at_or a b s ∙ ap₂ max (bit_is a s) (bit_is b s) ∙ max_of (is_in a s) (is_in b s))

pub wanted_more : (x : ℕ → Value) (live : List Bool) (k wanted more : ℕ) → (is_live live k ≡ true → has (x k) ≡ is_in more) → WantedTo x live k wanted
    → WantedTo x live (k + 1) (bit_or wanted more)
wanted_more x live k wanted more new had = record {
  each = λ n s h a b. in_either wanted more s ∙ ⊎_elim
      (λ less. or_left (is_in wanted s) (is_in more s) (had.each n s less a b))
      (λ same. or_right (is_in wanted s) (is_in more s) (sym (ap (λ t. t s) (new (subst (λ i. is_live live i ≡ true) same a))) ∙ subst (λ i. has (x i) s ≡ true) same b))
      (split_last n k h);
}

pub wanted_all : (x : ℕ → Value) (live : List Bool) (k wanted : ℕ) → length live ≤ k → WantedTo x live k wanted → CoverSquares x live wanted
wanted_all x live k wanted end had = record { each = λ n s a b. had.each n s (omega (arith, live_below live n a, end)) a b }

pub wanted_same : (x : ℕ → Value) (live left : List Bool) (wanted : ℕ) → left ≡ live → CoverSquares x live wanted → CoverSquares x left wanted
wanted_same x live left wanted same are = subst (λ l. CoverSquares x l wanted) (sym same) are

-- the same if fewer nodes are left
pub wanted_kept : (every : Bool) (x : ℕ → Value) (asked : ℕ → Bool) (s : ℕ) (left later : List Bool) (wanted : ℕ)
    → CoverSquares x left wanted → AreUnsettled every x asked s left later → CoverSquares x later wanted
wanted_kept every x asked s left later wanted are is = record {
  each = λ n t a b. are.each n t (both_left (is_live left n) (not (settles every (has (x n)) (λ u. asked n) s)) (sym (is.each n) ∙ a)) b;
}

-- a square that is not among them settles no node
pub turn_skip : (every : Bool) (x : ℕ → Value) (asked : ℕ → Bool) (s : ℕ) (left : List Bool) (wanted : ℕ) → CoverSquares x left wanted → is_in wanted s ≡ false
    → AreUnsettled every x asked s left left
turn_skip every x asked s left wanted are out = record {
  count = refl;
  each = λ n. by (is_live left n) (has (x n) s) (if every then not (asked n) else asked n) (λ a h. sym (are.each n s a h) ∙ out);
}
  where
    by : (a h z : Bool) → (a ≡ true → h ≡ true → true ≡ false) → a ≡ (a && not (h && z))
    by false h z e = refl
    by true false z e = refl
    by true true z e = let h : true ≡ false = e refl refl in cc
