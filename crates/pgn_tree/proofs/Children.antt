-- Children and siblings after one more node.
use Rattle.std.proofs.Common.{◌≡◌, ℕ, ◌+◌, ◌<◌, ◌≤◌, ◌⊎◌, inl, inr, Bool, true, false, cond, List, [], ◌∷◌, ◌++◌, length, Option, Some, None, refl, ap, ap₂, ◌∙◌, arith, add-one, length-append}
use Rattle.std.specs.Prelude.{nat_lt, ◌&&◌}
use Rattle.std.specs.Option.{is_some, option_or}
use Rattle.std.specs.List.{find, range_with_len}
use Rattle.std.proofs.lemmas.Bool.{lt-ltb, le-ltb}
use Rattle.std.proofs.lemmas.List.Folds.{find-append}
use Rattle.std.proofs.lemmas.List.{get_or_append_left, get_or_past}
use Rattle.std.proofs.Math.Seq.{get_or-append_seam}
use Rattle.cq_position.specs.Games.{Node, no_node, node_at, numbers, is_number, is_child_of, first_child, is_later_sibling, next_sibling}
use Rattle.pgn_tree.proofs.Found.{find_agree, find_none, find_some, range_more}

pub no_child : (nodes : List Node) (n k : ℕ) → length nodes ≤ k → is_child_of nodes n k ≡ false
no_child nodes n k past = ap (λ x. is_number x.parent n) (get_or_past nodes k no_node past)

pub none_or : (o : Option ℕ) → option_or o None ≡ o
none_or None = refl
none_or (Some x) = refl

pub some_or : (o other : Option ℕ) → is_some o ≡ true → option_or o other ≡ o
some_or None other is = absurd cc
some_or (Some x) other is = refl

module _ (nodes : List Node) (x : Node) where
  abbrev pub all : List Node
  all = nodes ++ x ∷ []

  pub old_node : (k : ℕ) → k < length nodes → node_at all k ≡ node_at nodes k
  old_node k h = get_or_append_left nodes (x ∷ []) no_node k h

  pub new_node : node_at all (length nodes) ≡ x
  new_node = get_or-append_seam nodes x [] no_node

  pub old_child : (n k : ℕ) → k < length nodes → is_child_of all n k ≡ is_child_of nodes n k
  old_child n k h = ap (λ y. is_number y.parent n) (old_node k h)

  pub new_child : (n : ℕ) → is_child_of all n (length nodes) ≡ is_number x.parent n
  new_child n = ap (λ y. is_number y.parent n) new_node

  pub numbers_more : numbers all ≡ numbers nodes ++ length nodes ∷ []
  numbers_more = ap (range_with_len 0) (length-append nodes (x ∷ []) ∙ add-one (length nodes)) ∙ range_more 0 (length nodes)
      ∙ ap (λ k. numbers nodes ++ k ∷ []) (let e : 0 + length nodes ≡ length nodes = omega arith in e)

  pub first_more : (n : ℕ) → first_child all n ≡ option_or (first_child nodes n) (cond (is_number x.parent n) (Some (length nodes)) None)
  unfolding first_child
  first_more n =
      ap (find (is_child_of all n)) numbers_more
      ∙ find-append (is_child_of all n) (numbers nodes) (length nodes ∷ [])
      ∙ ap₂ option_or (find_agree (is_child_of all n) (is_child_of nodes n) 0 (length nodes) (λ m low high. old_child n m (omega (arith, high))))
      (ap (λ t. cond t (Some (length nodes)) None) (new_child n))

  later_old : (o : Option ℕ) (n k : ℕ) → k < length nodes → is_later_sibling all o n k ≡ is_later_sibling nodes o n k
  later_old None n k h = refl
  later_old (Some p) n k h = ap (λ t. nat_lt n k && t) (old_child p k h)

  unfoldable pub later_new : Option ℕ → ℕ → Bool
  later_new None n = false
  later_new (Some p) n = nat_lt n (length nodes) && is_number x.parent p

  later_last : (o : Option ℕ) (n : ℕ) → is_later_sibling all o n (length nodes) ≡ later_new o n
  unfolding later_new
  later_last None n = refl
  later_last (Some p) n = ap (λ t. nat_lt n (length nodes) && t) (new_child p)

  pub next_more : (n : ℕ) → n < length nodes → next_sibling all n ≡ option_or (next_sibling nodes n) (cond (later_new (node_at nodes n).parent n) (Some (length nodes)) None)
  unfolding next_sibling
  next_more n h =
      let o = (node_at nodes n).parent in
      ap (λ y. find (is_later_sibling all y.parent n) (numbers all)) (old_node n h)
      ∙ ap (find (is_later_sibling all o n)) numbers_more
      ∙ find-append (is_later_sibling all o n) (numbers nodes) (length nodes ∷ [])
      ∙ ap₂ option_or (find_agree (is_later_sibling all o n) (is_later_sibling nodes o n) 0 (length nodes)
      (λ m low high. later_old o n m (omega (arith, high)))) (ap (λ t. cond t (Some (length nodes)) None) (later_last o n))

not_later : (nodes : List Node) (o : Option ℕ) (n k : ℕ) → k ≤ n → is_later_sibling nodes o n k ≡ false
not_later nodes None n k less = refl
not_later nodes (Some p) n k less = ap (λ t. t && is_child_of nodes p k) (le-ltb n k less)

-- no sibling comes after the last node
pub last_has_none : (nodes : List Node) (n : ℕ) → length nodes ≤ n + 1 → next_sibling nodes n ≡ None
unfolding next_sibling
last_has_none nodes n last = find_none (is_later_sibling nodes (node_at nodes n).parent n) 0 (length nodes) (λ m low high. not_later nodes (node_at nodes n).parent n m (omega (arith, high, last)))

-- a node with a child has a first one, and one without has none
pub has_first : (nodes : List Node) (n k : ℕ) → k < length nodes → is_child_of nodes n k ≡ true → is_some (first_child nodes n) ≡ true
unfolding first_child
has_first nodes n k h is = find_some (is_child_of nodes n) 0 (length nodes) k (omega arith) (omega (arith, h)) is

pub has_no_first : (nodes : List Node) (n : ℕ) → ((k : ℕ) → is_child_of nodes n k ≡ false) → first_child nodes n ≡ None
unfolding first_child
has_no_first nodes n none = find_none (is_child_of nodes n) 0 (length nodes) (λ m low high. none m)

both_true : (a b : Bool) → a ≡ true → b ≡ true → (a && b) ≡ true
both_true a b is it = ap₂ (λ s t. s && t) is it

-- a later child of the same parent is a next sibling, or one comes before it
pub has_next : (nodes : List Node) (n k p : ℕ) → (node_at nodes n).parent ≡ Some p → n < k → k < length nodes → is_child_of nodes p k ≡ true → is_some (next_sibling nodes n) ≡ true
unfolding next_sibling
has_next nodes n k p parent less h is =
    ap (λ o. is_some (find (is_later_sibling nodes o n) (numbers nodes))) parent
    ∙ find_some (is_later_sibling nodes (Some p) n) 0 (length nodes) k (omega arith) (omega (arith, h)) (both_true (nat_lt n k) (is_child_of nodes p k) (lt-ltb n k less) is)

false_and : (a b : Bool) → b ≡ false → (a && b) ≡ false
false_and true b is = is
false_and false b is = refl

pub has_no_next : (nodes : List Node) (n p : ℕ) → (node_at nodes n).parent ≡ Some p → ((k : ℕ) → n < k → is_child_of nodes p k ≡ false) → next_sibling nodes n ≡ None
unfolding next_sibling
has_no_next nodes n p parent none =
    ap (λ o. find (is_later_sibling nodes o n) (numbers nodes)) parent
    ∙ find_none (is_later_sibling nodes (Some p) n) 0 (length nodes) (λ m low high. by m (before m))
  where
    before : (m : ℕ) → (m ≤ n) ⊎ (n < m)
    before m = grind arith

    by : (m : ℕ) → (m ≤ n) ⊎ (n < m) → is_later_sibling nodes (Some p) n m ≡ false
    by m (inl less) = not_later nodes (Some p) n m less
    by m (inr more) = false_and (nat_lt n m) (is_child_of nodes p m) (none m more)
