-- Columns filled node by node.
use Rattle.std.proofs.Common.{◌≡◌, ℕ, zero, suc, ◌+◌, ◌<◌, ◌≤◌, ◌⊎◌, Bool, true, false, List, [], ◌∷◌, length, get_or, ◌&&◌, ◌||◌, refl, ap, sym, subst, ◌∙◌, arith, ⊎_elim, inl, inr}
use Rattle.cq_position.specs.Search.{SearchedTree}
use Rattle.std.specs.Prelude.{◌-◌, is_some, slice_set}
use Rattle.cq_symmetry.specs.Images.{is_in}
use Rattle.cql_syntax.specs.Values.{Value, amount, as_truth}
use Rattle.cql_values.specs.ValueModel.{as_value}
use Rattle.cql_values.specs.declared.value.Value.{Value as Kept}
use Rattle.cql_values.specs.declared.value.Value.TheVariants.{Truth, Set}
use Rattle.cql_columns.specs.Columns.{shown, Where, IsNarrowed, IsNumbered, IsNodeSet}
use Rattle.cql_columns.specs.declared.filter_column.FilterColumn.{FilterColumn}
use Rattle.std.proofs.lemmas.Bool.{cases_order}
use Rattle.std.proofs.lemmas.List.{get_or-set_same, get_or-set_other, length-set}

pub split_last : (n k : ℕ) → n < k + 1 → (n < k) ⊎ (n ≡ k)
split_last n k h = ⊎_elim (λ same. inr same) (λ o. ⊎_elim (λ less. inl less) (λ more. absurd (omega (arith, h, more))) o) (cases_order n k)

pub split_at : (n k : ℕ) → (n < k) ⊎ (k ≤ n)
split_at n k = ⊎_elim (λ same. inr (omega (arith, same))) (λ o. ⊎_elim (λ less. inl less) (λ more. inr (omega (arith, more))) o) (cases_order n k)

pub equal_or : (m n : ℕ) → (m ≡ n) ⊎ (m ≡ n → ⊥)
equal_or m n = ⊎_elim (λ same. inl same) (λ o. inr (λ e. ⊎_elim (λ less. absurd (omega (arith, less, e))) (λ more. absurd (omega (arith, more, e))) o)) (cases_order m n)

pub live_below : (live : List Bool) (n : ℕ) → get_or live n false ≡ true → n < length live
live_below [] zero e = cc
live_below [] (suc n) e = cc
live_below (b ∷ live) zero e = omega arith
live_below (b ∷ live) (suc n) e = omega (arith, live_below live n e)

-- a set has no node before one, and none past one
pub none_before : (live : List Bool) (k : ℕ) → get_or live k false ≡ false → ((n : ℕ) → n < k → get_or live n false ≡ false) → (n : ℕ) → n < k + 1 → get_or live n false ≡ false
none_before live k is had n h = ⊎_elim (had n) (λ same. ap (λ i. get_or live i false) same ∙ is) (split_last n k h)

pub none_past : (live : List Bool) (end : ℕ) → 0 < end → get_or live (end - 1) false ≡ false → ((n : ℕ) → end ≤ n → get_or live n false ≡ false)
    → (n : ℕ) → end - 1 ≤ n → get_or live n false ≡ false
none_past live end some is had n h = ⊎_elim (λ same. ap (λ i. get_or live i false) (sym same) ∙ is) (λ away. had n (omega (arith, h, some, away))) (equal_or (end - 1) n)

-- the entries of a column as values, with a default after the end
pub record Reading (A B : Type 0) : Type 0 where
  pub show : A → B
  pub none : A

abbrev pub of_truths : Reading Bool Value
of_truths = record { show = as_truth; none = false }

abbrev pub of_sets : Reading ℕ Value
of_sets = record { show = λ set. as_value (Set set); none = 0 }

abbrev pub of_squares : Reading ℕ (ℕ → Bool)
of_squares = record { show = is_in; none = 0 }

abbrev pub of_masks : Reading ℕ ℕ
of_masks = record { show = λ set. set; none = 0 }

abbrev pub of_values : Reading Kept Value
of_values = record { show = as_value; none = Truth false }

-- the live nodes among the first k have their values, in a column that is long enough and is overwritten
pub record FilledTo {A B : Type 0} (read : Reading A B) (live : List Bool) (v : ℕ → B) (end k : ℕ) (items : List A) : Type 0 where
  pub count : length items ≡ end
  pub each : (n : ℕ) → n < k → get_or live n false ≡ true → read.show (get_or items n read.none) ≡ v n
  pub past : (n : ℕ) → end ≤ n → get_or live n false ≡ false

never_both : (b : Bool) → b ≡ false → b ≡ true → ⊥
never_both true e h = cc
never_both false e h = cc

pub put_none : {A B : Type 0} (read : Reading A B) (live : List Bool) (v : ℕ → B) (end k : ℕ) (items : List A) → length items ≡ end
    → ((n : ℕ) → end ≤ n → get_or live n false ≡ false) → ((n : ℕ) → n < k → get_or live n false ≡ false) → FilledTo read live v end k items
put_none read live v end k items size past before = record { count = size; each = λ n h a. absurd (never_both (get_or live n false) (before n h) a); past = past }

pub put_more : {A B : Type 0} (read : Reading A B) (live : List Bool) (v : ℕ → B) (end k : ℕ) (items : List A) (x : A)
    → k < end → (get_or live k false ≡ true → read.show x ≡ v k) → FilledTo read live v end k items → FilledTo read live v end (k + 1) (slice_set items k x)
put_more read live v end k items x low new had = record {
  count = length-set items k x ∙ had.count;
  each = λ n h a. ⊎_elim
      (λ less. ap read.show (get_or-set_other items k n x read.none (λ e. omega (arith, less, e))) ∙ had.each n less a)
      (λ same. ap (λ i. read.show (get_or (slice_set items k x) i read.none)) same ∙ ap read.show (get_or-set_same items k x read.none (omega (arith, low, had.count)))
      ∙ new (subst (λ i. get_or live i false ≡ true) same a) ∙ ap v (sym same))
      (split_last n k h);
  past = had.past;
}

pub put_all : {A B : Type 0} (read : Reading A B) (live : List Bool) (v : ℕ → B) (end k : ℕ) (items : List A) → end ≤ k → FilledTo read live v end k items
    → Where live (λ n. read.show (get_or items n read.none) ≡ v n)
put_all read live v end k items done had = λ n a.
    ⊎_elim (λ low. had.each n (omega (arith, low, done)) a) (λ far. absurd (never_both (get_or live n false) (had.past n far) a)) (split_at n end)

-- beyond its end a list of truths has none
pub past : (xs : List Bool) (n : ℕ) → length xs ≤ n → get_or xs n false ≡ false
past [] zero h = refl
past [] (suc n) h = refl
past (x ∷ xs) zero h = absurd (omega (arith, h))
past (x ∷ xs) (suc n) h = past xs n (omega (arith, h))

-- a truth for each of the first k nodes
pub record Told (test : ℕ → Bool) (k : ℕ) (items : List Bool) : Type 0 where
  pub count : length items ≡ k
  pub each : (n : ℕ) → n < k → get_or items n false ≡ test n

-- the default has no effect on an entry that a list has
pub any_default : {A : Type 0} (l : List A) (k : ℕ) (d e : A) → k < length l → get_or l k d ≡ get_or l k e
any_default [] k d e h = absurd (omega (arith, h))
any_default (x ∷ l) zero d e h = refl
any_default (x ∷ l) (suc k) d e h = any_default l k d e (omega (arith, h))

-- the same of a list that is written over
pub record ToldTo (test : ℕ → Bool) (end k : ℕ) (items : List Bool) : Type 0 where
  pub count : length items ≡ end
  pub each : (n : ℕ) → n < k → get_or items n false ≡ test n

pub put_told : (test : ℕ → Bool) (end k : ℕ) (items later : List Bool) (x : Bool) → k < end → later ≡ slice_set items k x → x ≡ test k → ToldTo test end k items
    → ToldTo test end (k + 1) later
put_told test end k items later x low is new had = record {
  count = ap length is ∙ length-set items k x ∙ had.count;
  each = λ n h. ap (λ l. get_or l n false) is ∙ ⊎_elim
      (λ less. get_or-set_other items k n x false (λ e. omega (arith, less, e)) ∙ had.each n less)
      (λ same. ap (λ i. get_or (slice_set items k x) i false) same ∙ get_or-set_same items k x false (omega (arith, low, had.count)) ∙ new ∙ ap test (sym same))
      (split_last n k h);
}

pub told_whole : (test : ℕ → Bool) (end k : ℕ) (items : List Bool) → end ≡ k → ToldTo test end k items → Told test k items
told_whole test end k items same had = record { count = had.count ∙ same; each = had.each }

-- the same of the nodes of a set
pub put_asked : (live : List Bool) (test : ℕ → Bool) (end k : ℕ) (items : List Bool) (d x : Bool) → k < length live → k < end → x ≡ (get_or live k d && test k)
    → ToldTo (λ n. get_or live n false && test n) end k items → ToldTo (λ n. get_or live n false && test n) end (k + 1) (slice_set items k x)
put_asked live test end k items d x inside low new had =
    put_told (λ n. get_or live n false && test n) end k items (slice_set items k x) x low refl (new ∙ ap (λ b. b && test k) (any_default live k d false inside)) had

pub both_left : (a b : Bool) → (a && b) ≡ true → a ≡ true
both_left true b e = refl
both_left false b e = e

pub or_left : (a b : Bool) → a ≡ true → (a || b) ≡ true
or_left true b e = refl
or_left false b e = cc

pub or_right : (a b : Bool) → b ≡ true → (a || b) ≡ true
or_right true b e = refl
or_right false b e = e

-- the nodes of a set that pass a test, and those past the end
pub told_live : (live : List Bool) (test : ℕ → Bool) (k : ℕ) (items : List Bool) → length live ≡ k → Told (λ n. get_or live n false && test n) k items
    → (n : ℕ) → get_or items n false ≡ (get_or live n false && test n)
told_live live test k items end had n = ⊎_elim (had.each n)
    (λ far. past items n (omega (arith, far, had.count)) ∙ sym (ap (λ b. b && test n) (past live n (omega (arith, far, end)))))
    (split_at n k)

pub part_asked : (tree : SearchedTree) (live left : List Bool) (test : ℕ → Bool) → IsNodeSet tree live → length left ≡ length live
    → ((n : ℕ) → get_or left n false ≡ (get_or live n false && test n)) → IsNodeSet tree left
part_asked tree live left test asked count each = record {
  count = count ∙ asked.count;
  searched = λ n e. asked.searched n (both_left (get_or live n false) (test n) (sym (each n) ∙ e));
}

pub numbered_all : (live : List Bool) (c : FilterColumn) (k : ℕ) (items : List Bool) → length live ≡ k
    → Told (λ n. get_or live n false && is_some (amount (shown c n))) k items → IsNumbered live c items
numbered_all live c k items end had = record {
  count = had.count ∙ sym end;
  each = told_live live (λ n. is_some (amount (shown c n))) k items end had;
}

pub narrowed_asked : (tree : SearchedTree) (live left : List Bool) (c : FilterColumn) (want : Bool) → IsNodeSet tree live → IsNarrowed live c want left → IsNodeSet tree left
narrowed_asked tree live left c want asked is = is.asked tree asked
