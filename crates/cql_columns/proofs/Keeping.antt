-- Nodes taken out of a set one by one.
use Rattle.std.proofs.Common.{◌≡◌, ℕ, ◌+◌, ◌<◌, ◌≤◌, Bool, true, false, ◌&&◌, List, ◌++◌, length, take, drop, get_or, refl, sym, ap, ◌∙◌, subst, arith, ⊎_elim}
use Rattle.std.specs.Prelude.{slice_set, is_some, not, if◌then◌else◌}
use Rattle.std.proofs.Math.Seq.{take-append_seam}
use Rattle.std.proofs.lemmas.List.{get_or-set_same, get_or-set_other, length-set}
use Rattle.cql_columns.specs.Columns.{is_live, shown, AreKept, IsNumbered}
use Rattle.cql_columns.specs.declared.filter_column.FilterColumn.{FilterColumn}
use Rattle.cql_syntax.specs.Values.{Value, amount, has}
use Rattle.cql_columns.specs.SquareTrials.{AreNodesWithSquare, AreLeftOpen}
use Rattle.cql_columns.proofs.Filling.{split_last, split_at, past, any_default}

-- the first k nodes are tried
pub record KeptTo (test : ℕ → Bool) (live : List Bool) (k : ℕ) (left : List Bool) : Type 0 where
  pub count : length left ≡ length live
  pub tried : (n : ℕ) → n < k → is_live left n ≡ (is_live live n && test n)
  pub rest : (n : ℕ) → k ≤ n → is_live left n ≡ is_live live n

pub kept_none : (test : ℕ → Bool) (live : List Bool) → KeptTo test live 0 live
kept_none test live = record { count = refl; tried = λ n h. absurd (omega (arith, h)); rest = λ n h. refl }

-- nodes that aren't in a set are left as they are
none_left : (a t : Bool) → a ≡ false → a ≡ (a && t)
none_left true t e = cc
none_left false t e = refl

all_left : (a b t : Bool) → b ≡ false → a ≡ (a && not (b && t))
all_left true true t e = cc
all_left true false t e = refl
all_left false b t e = refl

pub kept_from : (test : ℕ → Bool) (live : List Bool) (k : ℕ) → ((n : ℕ) → n < k → get_or live n false ≡ false) → KeptTo test live k live
kept_from test live k none = record { count = refl; tried = λ n h. none_left (get_or live n false) (test n) (none n h); rest = λ n h. refl }

pub kept_more : (test : ℕ → Bool) (live left later : List Bool) (k : ℕ) (d b : Bool) → k < length left → later ≡ slice_set left k b → b ≡ (get_or left k d && test k)
    → KeptTo test live k left → KeptTo test live (k + 1) later
kept_more test live left later k d b low is new had = record {
  count = ap length is ∙ length-set left k b ∙ had.count;
  tried = λ n h. ⊎_elim
      (λ less. other n (λ e. omega (arith, less, e)) ∙ had.tried n less)
      (λ same. subst (λ i. is_live later i ≡ (is_live live i && test i)) (sym same) here)
      (split_last n k h);
  rest = λ n h. other n (λ e. omega (arith, h, e)) ∙ had.rest n (omega (arith, h));
}
  where
    other : (n : ℕ) → (n ≡ k → ⊥) → is_live later n ≡ is_live left n
    other n away = ap (λ l. get_or l n false) is ∙ get_or-set_other left k n b false away

    here : is_live later k ≡ (is_live live k && test k)
    here = ap (λ l. get_or l k false) is ∙ get_or-set_same left k b false low ∙ new
        ∙ ap (λ a. a && test k) (any_default left k d false low ∙ had.rest k (omega arith))

pub kept_all : (test : ℕ → Bool) (live left : List Bool) (k : ℕ) → length left ≤ k → KeptTo test live k left → AreKept test live left
kept_all test live left k end had = record {
  count = had.count;
  each = λ n. ⊎_elim (had.tried n)
      (λ far. past left n (omega (arith, far, end)) ∙ sym (ap (λ b. b && test n) (past live n (omega (arith, far, end, had.count)))))
      (split_at n k);
}

-- the same if no node is in the set from k on
pub kept_to : (test : ℕ → Bool) (live left : List Bool) (end k : ℕ) → end ≤ k → ((n : ℕ) → end ≤ n → get_or live n false ≡ false) → KeptTo test live k left → AreKept test live left
kept_to test live left end k done none had = record {
  count = had.count;
  each = λ n. ⊎_elim (had.tried n) (λ far. had.rest n far ∙ none_left (get_or live n false) (test n) (none n (omega (arith, far, done)))) (split_at n k);
}

pub numbered_by_kept : (live left : List Bool) (c : FilterColumn) → AreKept (λ n. is_some (amount (shown c n))) live left → IsNumbered live c left
numbered_by_kept live left c kept = record { count = kept.count; each = kept.each }

pub having_by_kept : (x : ℕ → Value) (s : ℕ) (left there : List Bool) → AreKept (λ n. has (x n) s) left there → AreNodesWithSquare x s left there
having_by_kept x s left there kept = record { count = kept.count; each = kept.each }

-- a set of which those nodes are taken that another set has, and that a column settles
pub left_from : (left there : List Bool) (t : ℕ → Bool) (k : ℕ) → ((n : ℕ) → n < k → get_or there n false ≡ false) → KeptTo (λ n. not (get_or there n false && t n)) left k left
left_from left there t k none = record { count = refl; tried = λ n h. all_left (get_or left n false) (get_or there n false) (t n) (none n h); rest = λ n h. refl }

pub left_by_kept : (every : Bool) (asked : ℕ → Bool) (left there later : List Bool) (end k : ℕ) → end ≤ k → ((n : ℕ) → end ≤ n → get_or there n false ≡ false)
    → KeptTo (λ n. not (get_or there n false && (if every then not (asked n) else asked n))) left k later → AreLeftOpen every asked left there later
left_by_kept every asked left there later end k done none had = record {
  count = had.count;
  each = λ n. ⊎_elim (had.tried n)
      (λ far. had.rest n far ∙ all_left (get_or left n false) (get_or there n false) (if every then not (asked n) else asked n) (none n (omega (arith, far, done))))
      (split_at n k);
}

-- a list that is changed in place, and is as long as it was
pub written : (len : ℕ) (new old : List Bool) → len ≡ length new → take len (new ++ drop (length new) old) ≡ new
written len new old e = ap (λ i. take i (new ++ drop (length new) old)) e ∙ take-append_seam new (drop (length new) old)
