-- The nodes that are in a set or below one of it, by one pass from the first node to the last.
use Rattle.std.proofs.Common.{◌≡◌, ℕ, ◌+◌, ◌<◌, ◌||◌, Bool, true, false, List, length, get_or, Option, Some, None, refl, sym, ap, ◌∙◌, subst, arith, ⊎_elim}
use Rattle.std.specs.Prelude.{slice_set}
use Rattle.std.proofs.lemmas.List.{get_or-set_same, get_or-set_other, length-set}
use Rattle.cq_position.specs.Games.{Node, node_at, IsTree, is_below}
use Rattle.cq_position.proofs.WaysUp.{is_below_self, below_parent, root_below, parent_before}
use Rattle.cql_columns.proofs.Filling.{split_last, equal_or, or_left, or_right}
use Rattle.cql_operators.specs.Trees.{flag_of, AreWithDescendants}
use Rattle.cql_operators.proofs.Raising.{either}

-- a node of the set is n or above it
abbrev pub IsUnder : List Node → List Bool → ℕ → Type 0
IsUnder nodes set n = (m : ℕ) × (get_or set m false ≡ true) × (is_below nodes m n ≡ true)

-- the first k nodes, in a list that is written over
pub record LoweredTo (nodes : List Node) (set : List Bool) (end k : ℕ) (found : List Bool) : Type 0 where
  pub count : length found ≡ end
  pub to : (n : ℕ) → n < k → get_or found n false ≡ true → IsUnder nodes set n
  pub from : (n : ℕ) → n < k → IsUnder nodes set n → get_or found n false ≡ true

module _ (nodes : List Node) (tree : IsTree nodes) (set : List Bool) (end k : ℕ) (found : List Bool) (had : LoweredTo nodes set end k found) where
  -- by the node's parent
  down : (o : Option ℕ) → (node_at nodes k).parent ≡ o → flag_of found o ≡ true → IsUnder nodes set k
  down None is e = cc
  down (Some p) is e =
      let x = had.to p (parent_before nodes k p tree is).0 e in (
        x.0,
        x.1,
        ⊎_elim
            (λ same. ap (λ i. is_below nodes i k) (sym same) ∙ is_below_self nodes k tree)
            (λ other. below_parent nodes x.0 k p tree is other ∙ x.2)
            (equal_or k x.0),
      )

  up : (o : Option ℕ) (m : ℕ) → (node_at nodes k).parent ≡ o → get_or set m false ≡ true → is_below nodes m k ≡ true → (k ≡ m → ⊥) → flag_of found o ≡ true
  up None m is s b other = absurd (let e : true ≡ false = sym b ∙ root_below nodes m k tree is other in cc)
  up (Some p) m is s b other = had.from p (parent_before nodes k p tree is).0 (m, s, sym (below_parent nodes m k p tree is other) ∙ b)

  lowered_next : (x : Bool) → k < end → x ≡ (get_or set k false || flag_of found (node_at nodes k).parent) → LoweredTo nodes set end (k + 1) (slice_set found k x)
  lowered_next x low new = record {
    count = length-set found k x ∙ had.count;
    to = λ n h e. ⊎_elim
        (λ less. had.to n less (sym (before n less) ∙ e))
        (λ same. subst (IsUnder nodes set) (sym same) (⊎_elim
        (λ s. (k, s, is_below_self nodes k tree))
        (λ f. down (node_at nodes k).parent refl f)
        (either (get_or set k false) (flag_of found (node_at nodes k).parent) (sym new ∙ sym (here n same) ∙ e))))
        (split_last n k h);
    from = λ n h u. ⊎_elim
        (λ less. before n less ∙ had.from n less u)
        (λ same. here n same ∙ new ∙ ⊎_elim
        (λ at. or_left (get_or set k false) (flag_of found (node_at nodes k).parent) (ap (λ i. get_or set i false) at ∙ u.1))
        (λ other. or_right (get_or set k false) (flag_of found (node_at nodes k).parent)
        (up (node_at nodes k).parent u.0 refl u.1 (ap (is_below nodes u.0) (sym same) ∙ u.2) other))
        (equal_or k u.0))
        (split_last n k h);
  }
    where
      before : (n : ℕ) → n < k → get_or (slice_set found k x) n false ≡ get_or found n false
      before n less = get_or-set_other found k n x false (λ e. omega (arith, less, e))

      here : (n : ℕ) → n ≡ k → get_or (slice_set found k x) n false ≡ x
      here n same = ap (λ i. get_or (slice_set found k x) i false) same ∙ get_or-set_same found k x false (omega (arith, low, had.count))

pub lowered_more : (nodes : List Node) (tree : IsTree nodes) (set : List Bool) (end k : ℕ) (found given : List Bool) (x : Bool) → given ≡ found → k < end
    → x ≡ (get_or set k false || flag_of given (node_at nodes k).parent) → LoweredTo nodes set end k found → LoweredTo nodes set end (k + 1) (slice_set found k x)
lowered_more nodes tree set end k found given x same low new had =
    lowered_next nodes tree set end k found had x low (new ∙ ap (λ f. get_or set k false || flag_of f (node_at nodes k).parent) same)

pub lowered_all : (nodes : List Node) (set found : List Bool) (k : ℕ) → k ≡ length nodes → LoweredTo nodes set (length nodes) k found → AreWithDescendants nodes set found
lowered_all nodes set found k end had = record {
  count = had.count;
  each = λ n h. (λ e. had.to n (omega (arith, h, end)) e, λ u. had.from n (omega (arith, h, end)) u);
}
