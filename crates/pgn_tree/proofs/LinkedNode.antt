-- A tree with one more node keeps its links.
use Rattle.std.proofs.Common.{◌≡◌, ◌≢◌, ℕ, zero, suc, ◌+◌, ◌<◌, ◌≤◌, ◌⊎◌, ⊎_elim, Bool, true, false, cond, List, [], ◌∷◌, ◌++◌, length, get_or, Option, Some, None, refl, sym, ap, ap₂, ◌∙◌, subst, arith, length-append, eqb-true}
use Rattle.std.specs.Prelude.{nat_lt, ◌&&◌, not, IfSome}
use Rattle.std.specs.Option.{is_some, option_or}
use Rattle.std.proofs.lemmas.Bool.{false_from_ne_true, lt-ltb}
use Rattle.std.proofs.lemmas.List.{get_or_append_left}
use Rattle.std.proofs.Math.Seq.{get_or-append_seam}
use Rattle.cq_position.specs.Games.{Node, node_at, is_number, is_child_of, first_child, next_sibling, is_main, IsRoot, IsTree}
use Rattle.cq_position.proofs.Following.{root_tree}
use Rattle.cq_position.proofs.Trees.{tree_first, tree_push, MayFollow}
use Rattle.pgn_tree.specs.Links.{LinkedNode, unlinked, linked_at, nodes_of, IsLastChild, AreLinks, IsLinkedTree, with_linked, with_last_child, with_link, linked}
use Rattle.pgn_tree.proofs.Children.{no_child, none_or, some_or, old_child, new_child, first_more, later_new, next_more, last_has_none, has_first, has_no_first, has_next, has_no_next}
use Rattle.pgn_tree.proofs.MainLine.{root_is_main, main_stays, main_new, is_self}
use Rattle.pgn_tree.proofs.Linking.{length_nodes_of, nodes_of_push, linked_nodes, same_or_not, after, length_after, first_kept, first_set, first_other, next_kept, next_set, next_other, last_set, last_other, main_kept}

some_is : (p q : ℕ) → Some p ≡ Some q → p ≡ q
some_is p q e = cc

pub number_is : (o : Option ℕ) (k : ℕ) → is_number o k ≡ true → o ≡ Some k
number_is None k is = absurd cc
number_is (Some m) k is = ap Some (eqb-true m k is)

below_or_past : (k n : ℕ) → (k < n) ⊎ (n ≤ k)
below_or_past k n = grind arith

pub child_within : (nodes : List Node) (n k : ℕ) → is_child_of nodes n k ≡ true → k < length nodes
child_within nodes n k is = ⊎_elim (λ h. h) (λ past. absurd (let e : true ≡ false = sym is ∙ no_child nodes n k past in cc)) (below_or_past k (length nodes))

-- no node of a tree hangs on a number beyond it
beyond : (nodes : List Node) → IsTree nodes → (n k : ℕ) → length nodes ≤ n → is_child_of nodes n k ≡ false
beyond nodes tree n k past =
    false_from_ne_true (is_child_of nodes n k)
    (λ is. let h = child_within nodes n k is in
    let less = (tree_first nodes tree).before k n (number_is (node_at nodes k).parent n is) in omega (arith, h, less, past))

module _ (items : List LinkedNode) (x : Node) (w : Bool) (parent : ℕ) (h : parent < length items) (x_parent : x.parent ≡ Some parent)
    (tree : IsTree (nodes_of items)) (later : IsTree (nodes_of items ++ x ∷ [])) (links : AreLinks items) where
  abbrev nodes : List Node
  nodes = nodes_of items

  abbrev more : List Node
  more = nodes_of items ++ x ∷ []

  abbrev k : ℕ
  k = length items

  abbrev pushed : List LinkedNode
  pushed = items ++ unlinked x w ∷ []

  count : length nodes ≡ k
  count = length_nodes_of items

  room : parent < length pushed
  room = let len = length-append items (unlinked x w ∷ []) in omega (arith, len, h)

  old_at : (m : ℕ) → m < k → linked_at pushed m ≡ linked_at items m
  old_at m less = get_or_append_left items (unlinked x w ∷ []) _ m less

  new_at : linked_at pushed k ≡ unlinked x w
  new_at = get_or-append_seam items (unlinked x w) [] _

  old_or_new : (m : ℕ) → m < k + 1 → (m < k) ⊎ (m ≡ k)
  old_or_new m less = grind arith

  hangs_here : is_number x.parent parent ≡ true
  hangs_here = ap (λ o. is_number o parent) x_parent ∙ is_self parent

  hangs_elsewhere : (m : ℕ) → m ≢ parent → is_number x.parent m ≡ false
  hangs_elsewhere m differ = false_from_ne_true (is_number x.parent m) (λ is. differ (some_is m parent (sym (number_is x.parent m is) ∙ x_parent)))

  -- first children
  old_first : (m : ℕ) → m < k + 1 → (linked_at pushed m).first_child ≡ first_child nodes m
  old_first m less = ⊎_elim
      (λ before. ap (λ y. y.first_child) (old_at m before) ∙ links.first_child m before)
      (λ at. ap (λ i. (linked_at pushed i).first_child) at ∙ ap (λ y. y.first_child) new_at ∙ sym (has_no_first nodes m (λ j. beyond nodes tree m j (omega (arith, at, count)))))
      (old_or_new m less)

  first_elsewhere : (m : ℕ) → m ≢ parent → first_child more m ≡ first_child nodes m
  first_elsewhere m differ =
      first_more nodes x m ∙ ap (λ t. option_or (first_child nodes m) (cond t (Some (length nodes)) None)) (hangs_elsewhere m differ) ∙ none_or (first_child nodes m)

  first_here : first_child more parent ≡ option_or (first_child nodes parent) (Some (length nodes))
  first_here = first_more nodes x parent ∙ ap (λ t. option_or (first_child nodes parent) (cond t (Some (length nodes)) None)) hangs_here

  first_at : (o : Option ℕ) → IsLastChild nodes parent o → (m : ℕ) → m < k + 1 → (linked_at (after pushed parent k room o) m).first_child ≡ first_child more m
  first_at None last m less = ⊎_elim
      (λ at.
      ap (λ i. (linked_at (after pushed parent k room None) i).first_child) at
      ∙ first_set pushed parent k room
      ∙ ap Some (sym count)
      ∙ ap (λ f. option_or f (Some (length nodes))) (sym (has_no_first nodes parent
      (λ j. false_from_ne_true (is_child_of nodes parent j) (λ is. let found = last.after j is in let e : None ≡ Some found.0 = found.1 in absurd cc))))
      ∙ sym first_here
      ∙ ap (first_child more) (sym at))
      (λ differ. first_other pushed parent k room m differ ∙ old_first m less ∙ sym (first_elsewhere m differ))
      (same_or_not m parent)
  first_at (Some l) last m less =
      let child = last.child l refl in
      let within = child_within nodes parent l child in
      let len = length-append items (unlinked x w ∷ []) in
      first_kept pushed parent k room l m (omega (arith, within, count, len)) ∙ old_first m less
      ∙ ⊎_elim
      (λ at. ap (first_child nodes) at ∙ sym (first_here ∙ some_or (first_child nodes parent) (Some (length nodes)) (has_first nodes parent l within child)) ∙ ap (first_child more) (sym at))
      (λ differ. sym (first_elsewhere m differ))
      (same_or_not m parent)

  -- last children
  old_last : (m : ℕ) → m < k + 1 → IsLastChild nodes m (linked_at pushed m).last_child
  old_last m less = ⊎_elim
      (λ before. subst (λ y. IsLastChild nodes m y.last_child) (sym (old_at m before)) (links.last_child m before))
      (λ at. subst (λ y. IsLastChild nodes m y.last_child) (sym (ap (linked_at pushed) at ∙ new_at))
      (record {
        child = λ j is. absurd cc;
        after = λ j is. absurd (let e : true ≡ false = sym is ∙ beyond nodes tree m j (omega (arith, at, count)) in cc);
      }))
      (old_or_new m less)

  lifted : (m : ℕ) (v : Option ℕ) → m ≢ parent → IsLastChild nodes m v → IsLastChild more m v
  lifted m v differ last = record {
    child = λ j is. let child = last.child j is in old_child nodes x m j (child_within nodes m j child) ∙ child;
    after = λ j is. ⊎_elim
        (λ before. last.after j (sym (old_child nodes x m j before) ∙ is))
        (λ at. absurd (let e : true ≡ false = sym is ∙ ap (is_child_of more m) at ∙ new_child nodes x m ∙ hangs_elsewhere m differ in cc))
        (last_or j (child_within more m j is));
  }
    where
      last_or : (j : ℕ) → j < length more → (j < length nodes) ⊎ (j ≡ length nodes)
      last_or j less = let len = length-append nodes (x ∷ []) in grind (arith, len, less)

  last_here : IsLastChild more parent (Some k)
  last_here = record {
    child = λ j is. ap (is_child_of more parent) (sym (some_is k j is) ∙ sym count) ∙ new_child nodes x parent ∙ hangs_here;
    after = λ j is. (k, refl, (let less = child_within more parent j is in let len = length-append nodes (x ∷ []) in omega (arith, less, len, count)));
  }

  in_room : (o : Option ℕ) → IsLastChild nodes parent o → (l : ℕ) → o ≡ Some l → l < length pushed
  in_room o last l is =
      let within = child_within nodes parent l (last.child l is) in
      let len = length-append items (unlinked x w ∷ []) in omega (arith, within, len, count)

  last_at : (o : Option ℕ) → IsLastChild nodes parent o → (m : ℕ) → m < k + 1 → IsLastChild more m (linked_at (after pushed parent k room o) m).last_child
  last_at o last m less = ⊎_elim
      (λ at. subst (λ i. IsLastChild more i (linked_at (after pushed parent k room o) i).last_child) (sym at) (subst (IsLastChild more parent) (sym (last_set pushed parent k room o)) last_here))
      (λ differ. subst (IsLastChild more m) (sym (last_other pushed parent k room o m (in_room o last) differ)) (lifted m (linked_at pushed m).last_child differ (old_last m less)))
      (same_or_not m parent)

  -- next siblings
  old_next : (m : ℕ) → m < k + 1 → (linked_at pushed m).next_sibling ≡ next_sibling nodes m
  old_next m less = ⊎_elim
      (λ before. ap (λ y. y.next_sibling) (old_at m before) ∙ links.next_sibling m before)
      (λ at. ap (λ i. (linked_at pushed i).next_sibling) at ∙ ap (λ y. y.next_sibling) new_at ∙ sym (last_has_none nodes m (omega (arith, at, count))))
      (old_or_new m less)

  stays_by : (m : ℕ) → m < length nodes → (t : Bool) → later_new nodes x (node_at nodes m).parent m ≡ t
      → (t ≡ true → is_some (next_sibling nodes m) ≡ true) → next_sibling more m ≡ next_sibling nodes m
  stays_by m less true is some_ =
      next_more nodes x m less ∙ ap (λ t. option_or (next_sibling nodes m) (cond t (Some (length nodes)) None)) is ∙ some_or (next_sibling nodes m) (Some (length nodes)) (some_ refl)
  stays_by m less false is some_ =
      next_more nodes x m less ∙ ap (λ t. option_or (next_sibling nodes m) (cond t (Some (length nodes)) None)) is ∙ none_or (next_sibling nodes m)

  and_right : (a b : Bool) → (a && b) ≡ true → b ≡ true
  and_right true b is = is
  and_right false b is = absurd cc

  -- a node before which the new one is a sibling hangs on the same parent
  same_parent : (o : Option ℕ) (m : ℕ) → later_new nodes x o m ≡ true → o ≡ Some parent
  unfolding later_new
  same_parent None m is = absurd cc
  same_parent (Some p) m is = sym (number_is x.parent p (and_right (nat_lt m (length nodes)) (is_number x.parent p) is)) ∙ x_parent

  next_stays : (o : Option ℕ) → IsLastChild nodes parent o → (m : ℕ) → m < k + 1 → ((l : ℕ) → o ≡ Some l → m ≢ l) → next_sibling more m ≡ next_sibling nodes m
  next_stays o last m less differ = ⊎_elim
      (λ before.
      let h = (let e : m < length nodes = omega (arith, before, count) in e) in
      stays_by m h (later_new nodes x (node_at nodes m).parent m) refl
      (λ is. let hangs = same_parent (node_at nodes m).parent m is in
      let found = last.after m (ap (λ q. is_number q parent) hangs ∙ is_self parent) in
      let other = differ found.0 found.1 in
      let child = last.child found.0 found.1 in
      has_next nodes m found.0 parent hangs (omega (arith, other, found.2)) (child_within nodes parent found.0 child) child))
      (λ at. let len = length-append nodes (x ∷ []) in last_has_none more m (omega (arith, at, len, count)) ∙ sym (last_has_none nodes m (omega (arith, at, count))))
      (old_or_new m less)

  next_here : (l : ℕ) → IsLastChild nodes parent (Some l) → next_sibling more l ≡ Some k
  unfolding later_new
  next_here l last =
      let child = last.child l refl in
      let within = child_within nodes parent l child in
      let hangs = number_is (node_at nodes l).parent parent child in
      next_more nodes x l within
      ∙ ap₂ (λ f t. option_or f (cond t (Some (length nodes)) None))
      (has_no_next nodes l parent hangs (λ j after. false_from_ne_true (is_child_of nodes parent j)
      (λ is. let found = last.after j is in let e : l ≡ found.0 = some_is l found.0 found.1 in let less = found.2 in omega (arith, e, less, after))))
      (ap (λ q. later_new nodes x q l) hangs ∙ ap₂ (λ a b. a && b) (lt-ltb l (length nodes) within) hangs_here)
      ∙ ap Some count

  next_at : (o : Option ℕ) → IsLastChild nodes parent o → (m : ℕ) → m < k + 1 → (linked_at (after pushed parent k room o) m).next_sibling ≡ next_sibling more m
  next_at None last m less = next_kept pushed parent k room m ∙ old_next m less ∙ sym (next_stays None last m less (λ l is. absurd cc))
  next_at (Some l) last m less = ⊎_elim
      (λ at. ap (λ i. (linked_at (after pushed parent k room (Some l)) i).next_sibling) at
      ∙ next_set pushed parent k room l (in_room (Some l) last l refl) ∙ sym (next_here l last) ∙ ap (next_sibling more) (sym at))
      (λ differ. next_other pushed parent k room l m differ ∙ old_next m less ∙ sym (next_stays (Some l) last m less (λ i is. λ same. differ (same ∙ sym (some_is l i is)))))
      (same_or_not m l)

  -- the main line
  main_at : w ≡ (is_main nodes parent && not (is_some (first_child nodes parent))) → (o : Option ℕ) → IsLastChild nodes parent o → (m : ℕ)
      → m < k + 1 → (linked_at (after pushed parent k room o) m).main ≡ is_main more m
  main_at w_is o last m less =
      main_kept pushed parent k room o m (in_room o last)
      ∙ ⊎_elim
      (λ before. ap (λ y. y.main) (old_at m before) ∙ links.main m before ∙ sym (main_stays nodes x tree later m (omega (arith, before, count))))
      (λ at. ap (λ i. (linked_at pushed i).main) at ∙ ap (λ y. y.main) new_at ∙ w_is
      ∙ sym (main_new nodes x tree later parent x_parent (omega (arith, h, count))) ∙ ap (is_main more) (count ∙ sym at))
      (old_or_new m less)

  pub links_after : w ≡ (is_main nodes parent && not (is_some (first_child nodes parent))) → (o : Option ℕ) → IsLastChild nodes parent o
      → IsLinkedTree (with_linked (with_link (items ++ unlinked x w ∷ []) o parent (length items)) parent (with_last_child (length items)))
  unfolding after
  links_after w_is o last =
      let same : nodes_of (after pushed parent k room o) ≡ more = linked_nodes pushed o parent k ∙ nodes_of_push items (unlinked x w) in
      let len : length (after pushed parent k room o) ≡ k + 1 = length_after pushed parent k room o ∙ length-append items (unlinked x w ∷ []) in
      record {
        tree = subst IsTree (sym same) later;
        links = record {
          first_child = λ m less. first_at o last m (omega (arith, less, len)) ∙ ap (λ l. first_child l m) (sym same);
          last_child = λ m less. subst (λ l. IsLastChild l m (linked_at (after pushed parent k room o) m).last_child) (sym same) (last_at o last m (omega (arith, less, len)));
          next_sibling = λ m less. next_at o last m (omega (arith, less, len)) ∙ ap (λ l. next_sibling l m) (sym same);
          main = λ m less. main_at w_is o last m (omega (arith, less, len)) ∙ ap (λ l. is_main l m) (sym same);
        };
      }

default_free : (items : List LinkedNode) (n : ℕ) (d e : LinkedNode) → n < length items → get_or items n d ≡ get_or items n e
default_free [] n d e h = absurd (omega (arith, h))
default_free (y ∷ ys) zero d e h = refl
default_free (y ∷ ys) (suc n) d e h = default_free ys n d e (omega (arith, h))

pub read_at : (items : List LinkedNode) (n : ℕ) (y : LinkedNode) → n < length items → y ≡ get_or items n y → y ≡ linked_at items n
read_at items n y h is = is ∙ default_free items n y _ h

-- the nodes after `add_node`
pub record IsGrown (new : List LinkedNode) (nodes : List Node) : Type 0 where
  pub kept : IsLinkedTree new
  pub nodes_are : nodes_of new ≡ nodes

module _ (items all new : List LinkedNode) (y seen : LinkedNode) (x : Node) (w : Bool) (parent number : ℕ) (nodes : List Node) where
  pub grown : nodes_of items ≡ nodes → all ≡ items ++ y ∷ [] → y ≡ unlinked x w → new ≡ linked all parent number → number ≡ length items
      → parent < length nodes → length nodes < 65536 → MayFollow nodes x → x.parent ≡ Some parent → seen ≡ get_or items parent seen
      → w ≡ (seen.main && not (is_some seen.first_child)) → IsLinkedTree items → IsGrown new (nodes ++ x ∷ [])
  grown same all_is y_is new_is number_is_ less few may hangs seen_is w_is kept =
      let len = length_nodes_of items in
      let counts = ap length same in
      let h : parent < length items = omega (arith, less, len, counts) in
      let tree = kept.tree in
      let later : IsTree (nodes_of items ++ x ∷ []) = tree_push (nodes_of items) x (omega (arith, few, counts)) (subst (λ l. MayFollow l x) (sym same) may) tree in
      let pushed_is : all ≡ items ++ unlinked x w ∷ [] = all_is ∙ ap (λ z. items ++ z ∷ []) y_is in
      let here = read_at items parent seen h seen_is in
      let first = kept.links.first_child parent h in
      let main : w ≡ (is_main (nodes_of items) parent && not (is_some (first_child (nodes_of items) parent))) =
      w_is ∙ ap₂ (λ a b. a && not (is_some b)) (ap (λ z. z.main) here ∙ kept.links.main parent h) (ap (λ z. z.first_child) here ∙ first) in
      let o_is : (linked_at all parent).last_child ≡ (linked_at items parent).last_child =
      ap (λ l. (linked_at l parent).last_child) all_is ∙ ap (λ z. z.last_child) (get_or_append_left items (y ∷ []) _ parent h) in
      let last : IsLastChild (nodes_of items) parent (linked_at all parent).last_child = subst (IsLastChild (nodes_of items) parent) (sym o_is) (kept.links.last_child parent h) in
      let made = links_after items x w parent h hangs tree later kept.links main (linked_at all parent).last_child last in
      let new_made : new ≡ with_linked (with_link (items ++ unlinked x w ∷ []) (linked_at all parent).last_child parent (length items)) parent (with_last_child (length items)) =
      new_is ∙ ap₂ (λ l n. with_linked (with_link l (linked_at all parent).last_child parent n) parent (with_last_child n)) pushed_is number_is_ in
      record {
        kept = subst IsLinkedTree (sym new_made) made;
        nodes_are = ap nodes_of new_made
            ∙ linked_nodes (items ++ unlinked x w ∷ []) (linked_at all parent).last_child parent (length items)
            ∙ nodes_of_push items (unlinked x w) ∙ ap (λ l. l ++ x ∷ []) same;
      }

pub last_within : (items all : List LinkedNode) (y : LinkedNode) (parent : ℕ) → {nodes : List Node} → nodes_of items ≡ nodes → all ≡ items ++ y ∷ [] → parent < length nodes → IsLinkedTree items
    → IfSome (linked_at all parent).last_child (λ l. l < length all)
last_within items all y parent {nodes} same all_is less kept =
    let len = length_nodes_of items in
    let counts = ap length same in
    let more = ap length all_is ∙ length-append items (y ∷ []) in
    let h : parent < length items = omega (arith, less, len, counts) in
    subst (λ o. IfSome o (λ l. l < length all)) (sym (ap (λ l. (linked_at l parent).last_child) all_is ∙ ap (λ z. z.last_child) (get_or_append_left items (y ∷ []) _ parent h)))
    (by (linked_at items parent).last_child (kept.links.last_child parent h) len more)
  where
    by : (o : Option ℕ) → IsLastChild (nodes_of items) parent o → length (nodes_of items) ≡ length items → length all ≡ length items + 1 → IfSome o (λ l. l < length all)
    by None last len more = tt
    by (Some l) last len more = let within = child_within (nodes_of items) parent l (last.child l refl) in omega (arith, within, len, more)

-- the root alone
pub root_linked : (root : Node) → IsRoot root → IsLinkedTree (unlinked root true ∷ [])
root_linked root is =
    let tree = root_tree root is in
    let none : (n k : ℕ) → is_child_of (root ∷ []) n k ≡ false = λ n k. no_child_of_root n k in
    let only : (n : ℕ) → n < 1 → n ≡ 0 = λ n h. (let e : n ≡ 0 = omega (arith, h) in e) in
    record {
      tree = tree;
      links = record {
        first_child = λ n h. ap (λ i. (linked_at (unlinked root true ∷ []) i).first_child) (only n h) ∙ sym (has_no_first (root ∷ []) n (none n));
        last_child = λ n h. subst (λ i. IsLastChild (root ∷ []) n (linked_at (unlinked root true ∷ []) i).last_child) (sym (only n h))
            (record { child = λ k e. absurd cc; after = λ k e. absurd (let f : true ≡ false = sym e ∙ none n k in cc) });
        next_sibling = λ n h. ap (λ i. (linked_at (unlinked root true ∷ []) i).next_sibling) (only n h) ∙ sym (last_has_none (root ∷ []) n (omega arith));
        main = λ n h. ap (λ i. (linked_at (unlinked root true ∷ []) i).main) (only n h) ∙ sym (root_is_main (root ∷ []) tree) ∙ ap (is_main (root ∷ [])) (sym (only n h));
      };
    }
  where
    no_child_of_root : (n k : ℕ) → is_child_of (root ∷ []) n k ≡ false
    no_child_of_root n zero = ap (λ o. is_number o n) is.parent
    no_child_of_root n (suc k) = refl
