-- The searched nodes at or below the live nodes, by one pass from the first node to the last.
use Rattle.std.proofs.Common.{◌≡◌, ℕ, ◌+◌, ◌<◌, ◌||◌, Bool, true, false, List, length, get_or, Option, Some, None, refl, sym, ap, ◌∙◌, arith, ⊎_elim}
use Rattle.std.specs.Prelude.{slice_set}
use Rattle.std.proofs.lemmas.List.{get_or-set_same, get_or-set_other, length-set}
use Rattle.cq_position.specs.Games.{node_at, IsTree, is_below, is_searched}
use Rattle.cq_position.specs.Search.{SearchedTree}
use Rattle.cq_position.proofs.WaysUp.{below_parent, root_below, parent_before, searched_up}
use Rattle.cql_values.proofs.Ranges.{left, both}
use Rattle.cql_columns.specs.Columns.{is_live}
use Rattle.cql_columns.proofs.Filling.{live_below, split_last, equal_or}
use Rattle.cql_operators.specs.Trees.{IsBelowLive, flag_of}
use Rattle.cql_operators.specs.Internal.NodeSets.{is_below_live}

-- the first k nodes, in a list that is written over
pub record Widened (tree : SearchedTree) (live : List Bool) (end k : ℕ) (wide : List Bool) : Type 0 where
  pub count : length wide ≡ end
  pub searched : (n : ℕ) → n < k → is_live wide n ≡ true → is_searched tree.variations tree.game.nodes n ≡ true
  pub covers : (n m : ℕ) → m < k → is_live live n ≡ true → is_below tree.game.nodes n m ≡ true → is_searched tree.variations tree.game.nodes m ≡ true → is_live wide m ≡ true

or_left : (a b : Bool) → a ≡ true → (a || b) ≡ true
or_left true b e = refl
or_left false b e = cc

or_right : (a b : Bool) → b ≡ true → (a || b) ≡ true
or_right true b e = refl
or_right false b e = e

module _ (tree : SearchedTree) (is_tree : IsTree tree.game.nodes) (live : List Bool) (end k : ℕ) (wide : List Bool) (had : Widened tree live end k wide) where
  -- a searched node below a live node passes
  passes : (n : ℕ) (o : Option ℕ) → (node_at tree.game.nodes k).parent ≡ o → is_live live n ≡ true → is_below tree.game.nodes n k ≡ true → is_searched tree.variations tree.game.nodes k ≡ true
      → (is_live live k || flag_of wide o) ≡ true
  passes n None is l b s = ⊎_elim
      (λ same. or_left (is_live live k) false (ap (is_live live) same ∙ l))
      (λ away. absurd (let e : true ≡ false = sym b ∙ root_below tree.game.nodes n k is_tree is away in cc))
      (equal_or k n)
  passes n (Some p) is l b s = ⊎_elim
      (λ same. or_left (is_live live k) (flag_of wide (Some p)) (ap (is_live live) same ∙ l))
      (λ away. or_right (is_live live k) (flag_of wide (Some p))
      (had.covers n p (parent_before tree.game.nodes k p is_tree is).0 l (sym (below_parent tree.game.nodes n k p is_tree is away) ∙ b) (searched_up tree.variations tree.game.nodes k p is_tree is s)))
      (equal_or k n)

  widened_next : (x : Bool) → k < end → x ≡ is_below_live tree live wide k → Widened tree live end (k + 1) (slice_set wide k x)
  widened_next x low new = record {
    count = length-set wide k x ∙ had.count;
    searched = λ n h e. ⊎_elim
        (λ less. had.searched n less (sym (before n less) ∙ e))
        (λ same. let s : x ≡ true = sym (here n same) ∙ e in
        ap (is_searched tree.variations tree.game.nodes) same ∙ left _ _ (sym new ∙ s))
        (split_last n k h);
    covers = λ n m h l b s. ⊎_elim
        (λ less. before m less ∙ had.covers n m less l b s)
        (λ same. here m same ∙ new ∙ both _ _ (sym (ap (is_searched tree.variations tree.game.nodes) same) ∙ s)
        (passes n (node_at tree.game.nodes k).parent refl l (sym (ap (is_below tree.game.nodes n) same) ∙ b) (sym (ap (is_searched tree.variations tree.game.nodes) same) ∙ s)))
        (split_last m k h);
  }
    where
      before : (n : ℕ) → n < k → get_or (slice_set wide k x) n false ≡ get_or wide n false
      before n less = get_or-set_other wide k n x false (λ e. omega (arith, less, e))

      here : (n : ℕ) → n ≡ k → get_or (slice_set wide k x) n false ≡ x
      here n same = ap (λ i. get_or (slice_set wide k x) i false) same ∙ get_or-set_same wide k x false (omega (arith, low, had.count))

pub widened_more : (tree : SearchedTree) (is_tree : IsTree tree.game.nodes) (live : List Bool) (end k : ℕ) (wide : List Bool) (x : Bool) (shown : List Bool) → shown ≡ wide → k < end
    → x ≡ is_below_live tree live shown k → Widened tree live end k wide → Widened tree live end (k + 1) (slice_set wide k x)
widened_more tree is_tree live end k wide x shown same low new had =
    widened_next tree is_tree live end k wide had x low (new ∙ ap (λ w. is_below_live tree live w k) same)

pub widened_all : (tree : SearchedTree) (live : List Bool) (k : ℕ) (wide : List Bool) → k ≡ length tree.game.nodes → Widened tree live (length tree.game.nodes) k wide → IsBelowLive tree live wide
widened_all tree live k wide end had = record {
  asked = record {
    count = had.count;
    searched = λ n e. had.searched n (let inside = live_below wide n e in omega (arith, inside, had.count, end)) e;
  };
  covers = λ n m l h b s. had.covers n m (omega (arith, h, end)) l b s;
}
