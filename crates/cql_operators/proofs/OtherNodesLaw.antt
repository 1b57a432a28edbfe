-- The nodes at which a word evaluates its part, and squares brought back from there.
use Rattle.std.proofs.Common.{◌≡◌, ℕ, zero, suc, ◌+◌, ◌<◌, ◌≤◌, ◌&&◌, ◌||◌, Bool, true, false, List, length, get_or, Option, Some, None, refl, sym, ap, ◌∙◌, subst, arith, ⊎_elim}
use Rattle.std.specs.Prelude.{slice_set, bit_or, option_to_list}
use Rattle.std.specs.List.{list_any}
use Rattle.std.proofs.lemmas.List.{get_or-set_same, get_or-set_other, length-set}
use Rattle.cq_position.specs.Games.{Node, node_at, IsTree, is_below, is_child_of, is_searched, way_up}
use Rattle.cq_position.specs.Search.{SearchedTree, below_in, children_in}
use Rattle.cq_position.proofs.WaysUp.{below_parent, root_below, parent_before}
use Rattle.cq_symmetry.specs.Images.{is_in}
use Rattle.cql_syntax.specs.Meaning.{unary_of}
use Rattle.cql_syntax.specs.Values.{Value, holds}
use Rattle.cql_syntax.specs.declared.leaves.Unary.{Unary}
use Rattle.cql_syntax.specs.declared.leaves.Unary.TheVariants.{Not, Complement, Count, Power, Light, Dark, Find, FindUp, Child, Parent}
use Rattle.cql_values.proofs.Ranges.{left, right, from_range}
use Rattle.cql_columns.specs.Columns.{IsNodeSet}
use Rattle.cql_columns.proofs.Filling.{equal_or, split_last, any_default, or_left, or_right}
use Rattle.cql_columns.proofs.FindLaw.{any_below}
use Rattle.cql_columns.proofs.Wanting.{in_either}
use Rattle.cql_operators.specs.OtherNodes.{ReadsFrom, is_from_other_nodes, goes_down, CoverSourceNodes, GatherSourceSquares, AddSquaresToParent}
use Rattle.cql_operators.specs.Internal.NodeSets.{set_of_node}
use Rattle.cql_operators.specs.Trees.{Searched, IsBelowLive, IsAboveLive, AreChildrenOfLive, AreParentsOfLive}
use Rattle.cql_operators.proofs.Raising.{child_is}
use Rattle.cql_operators.proofs.UnaryLaws.{any_child, at_any}

some_is : (a b : ℕ) → ◌≡◌ {A = Option ℕ} (Some a) (Some b) → a ≡ b
some_is a b e = cc

-- other words evaluate nothing at other nodes
never : (nodes : List Node) (word : Unary) (n m : ℕ) → is_from_other_nodes word ≡ false → ReadsFrom nodes word n m → ⊥
never nodes Not n m away asks = asks
never nodes Complement n m away asks = asks
never nodes Count n m away asks = asks
never nodes Power n m away asks = asks
never nodes Light n m away asks = asks
never nodes Dark n m away asks = asks
never nodes Find n m away asks = cc
never nodes FindUp n m away asks = cc
never nodes Child n m away asks = cc
never nodes Parent n m away asks = cc

-- the nodes at which the part is evaluated
pub below_looked : (tree : SearchedTree) (live wide : List Bool) → IsBelowLive tree live wide → CoverSourceNodes tree Find live wide
below_looked tree live wide is = record { asked = is.asked; covers = λ n m l asks down. is.covers n m l (down refl).0 asks (down refl).1 }

pub above_looked : (tree : SearchedTree) (live wide : List Bool) → IsAboveLive tree live wide → CoverSourceNodes tree FindUp live wide
above_looked tree live wide is = record { asked = is.asked; covers = λ n m l asks down. is.covers n m l asks }

pub children_looked : (tree : SearchedTree) (live wide : List Bool) → AreChildrenOfLive tree live wide → CoverSourceNodes tree Child live wide
children_looked tree live wide is = record { asked = is.asked; covers = λ n m l asks down. is.covers n m l asks (down refl).0 (down refl).1 }

pub parents_looked : (tree : SearchedTree) (live wide : List Bool) → AreParentsOfLive tree live wide → CoverSourceNodes tree Parent live wide
parents_looked tree live wide is = record { asked = is.asked; covers = λ n m l asks down. is.covers n m l asks }

pub same_looked : (tree : SearchedTree) (word : Unary) (live wide : List Bool) → is_from_other_nodes word ≡ false → IsNodeSet tree live → wide ≡ live → CoverSourceNodes tree word live wide
same_looked tree word live wide away asked same = record {
  asked = subst (IsNodeSet tree) (sym same) asked;
  covers = λ n m l asks down. absurd (never tree.game.nodes word n m away asks);
}

pub same_brought : (nodes : List Node) (word : Unary) (there : List ℕ) → is_from_other_nodes word ≡ false → length there ≡ length nodes → GatherSourceSquares nodes word there there
same_brought nodes word there away long = record { count = long; each = λ n m s low asks h. absurd (never nodes word n m away asks) }

-- squares are added at the parent
pub raised_none : (nodes : List Node) (k more : ℕ) (old new : List ℕ) → (node_at nodes k).parent ≡ None → new ≡ old → AddSquaresToParent nodes k more old new
raised_none nodes k more old new none same = record {
  count = ap length same;
  grows = λ n s h. subst (λ l. is_in (get_or l n 0) s ≡ true) (sym same) h;
  adds = λ n s parent h. absurd (let e : None ≡ Some n = sym none ∙ parent in cc);
  later = λ n h. ap (λ l. get_or l n 0) same;
}

pub raised_at : (nodes : List Node) (k p d more x : ℕ) (old : List ℕ) → IsTree nodes → (node_at nodes k).parent ≡ Some p → length old ≡ length nodes
    → x ≡ bit_or (get_or old p d) more → AddSquaresToParent nodes k more old (slice_set old p x)
raised_at nodes k p d more x old tree parent long is = record {
  count = length-set old p x;
  grows = λ n s h. ⊎_elim
      (λ same. subst (λ y. is_in y s ≡ true) (sym (at n same)) (in_new s (or_left (is_in (get_or old p d) s) (is_in more s)
      (subst (λ y. is_in y s ≡ true) (ap (λ i. get_or old i 0) same ∙ any_default old p 0 d low) h))))
      (λ away. subst (λ y. is_in y s ≡ true) (sym (other n away)) h)
      (equal_or n p);
  adds = λ n s here h. subst (λ y. is_in y s ≡ true) (sym (at n (some_is n p (sym here ∙ parent)))) (in_new s (or_right (is_in (get_or old p d) s) (is_in more s) h));
  later = λ n h. other n (λ e. omega (arith, h, e, before.0));
}
  where
    before : (p < k) × (k < length nodes)
    before = parent_before nodes k p tree parent

    low : p < length old
    low = omega (arith, before.0, before.1, long)

    at : (n : ℕ) → n ≡ p → get_or (slice_set old p x) n 0 ≡ x
    at n same = ap (λ i. get_or (slice_set old p x) i 0) same ∙ get_or-set_same old p x 0 low

    other : (n : ℕ) → (n ≡ p → ⊥) → get_or (slice_set old p x) n 0 ≡ get_or old n 0
    other n away = get_or-set_other old p n x 0 away

    in_new : (s : ℕ) → (is_in (get_or old p d) s || is_in more s) ≡ true → is_in x s ≡ true
    in_new s h = ap (λ y. is_in y s) is ∙ in_either (get_or old p d) more s ∙ h

-- from below: after so many turns the squares of as many last nodes are at their parents
pub record RaisedSetsTo (nodes : List Node) (there : List ℕ) (turn : ℕ) (back : List ℕ) : Type 0 where
  pub count : length back ≡ length there
  pub grows : (n s : ℕ) → is_in (get_or there n 0) s ≡ true → is_in (get_or back n 0) s ≡ true
  pub leads : (c n s : ℕ) → length nodes ≤ c + turn → (node_at nodes c).parent ≡ Some n → is_in (get_or back c 0) s ≡ true → is_in (get_or back n 0) s ≡ true

pub sets_begun : (nodes : List Node) (there : List ℕ) → IsTree nodes → RaisedSetsTo nodes there 0 there
sets_begun nodes there tree = record {
  count = refl;
  grows = λ n s h. h;
  leads = λ c n s h parent i. absurd (omega (arith, h, (parent_before nodes c n tree parent).1));
}

pub sets_next : (nodes : List Node) (there old new : List ℕ) (k turn more : ℕ) → k + turn + 1 ≡ length nodes → more ≡ get_or old k 0 → AddSquaresToParent nodes k more old new
    → RaisedSetsTo nodes there turn old → RaisedSetsTo nodes there (turn + 1) new
sets_next nodes there old new k turn more next is with_ancestors had = record {
  count = with_ancestors.count ∙ had.count;
  grows = λ n s h. with_ancestors.grows n s (had.grows n s h);
  leads = λ c n s h parent i. ⊎_elim
      (λ same. with_ancestors.adds n s (ap (λ j. (node_at nodes j).parent) (sym same) ∙ parent)
      (subst (λ y. is_in y s ≡ true) (ap (λ j. get_or new j 0) same ∙ with_ancestors.later k (omega arith) ∙ sym is) i))
      (λ away. with_ancestors.grows n s (had.leads c n s (omega (arith, h, next, away)) parent (subst (λ y. is_in y s ≡ true) (with_ancestors.later c (omega (arith, h, next))) i)))
      (equal_or c k);
}

module _ (nodes : List Node) (tree : IsTree nodes) (back : List ℕ)
    (leads : (c n s : ℕ) → (node_at nodes c).parent ≡ Some n → is_in (get_or back c 0) s ≡ true → is_in (get_or back n 0) s ≡ true) where
  up_at : (n m s : ℕ) (o : Option ℕ) → ((q : ℕ) → q < m → is_below nodes n q ≡ true → is_in (get_or back q 0) s ≡ true → is_in (get_or back n 0) s ≡ true)
      → is_below nodes n m ≡ true → (m ≡ n → ⊥) → (node_at nodes m).parent ≡ o → is_in (get_or back m 0) s ≡ true → is_in (get_or back n 0) s ≡ true
  up_at n m s None before b other is h = absurd (let e : true ≡ false = sym b ∙ root_below nodes n m tree is other in cc)
  up_at n m s (Some q) before b other is h = before q (parent_before nodes m q tree is).0 (sym (below_parent nodes n m q tree is other) ∙ b) (leads m q s is h)

  up_within : (i n m s : ℕ) → m < i → is_below nodes n m ≡ true → is_in (get_or back m 0) s ≡ true → is_in (get_or back n 0) s ≡ true
  up_within zero n m s low b h = absurd (omega (arith, low))
  up_within (suc i) n m s low b h = ⊎_elim
      (λ same. subst (λ j. is_in (get_or back j 0) s ≡ true) same h)
      (λ other. up_at n m s (node_at nodes m).parent (λ q less below there. up_within i n q s (omega (arith, low, less)) below there) b other refl h)
      (equal_or m n)

  pub up_to : (n m s : ℕ) → is_below nodes n m ≡ true → is_in (get_or back m 0) s ≡ true → is_in (get_or back n 0) s ≡ true
  up_to n m s b h = up_within (m + 1) n m s (omega arith) b h

pub sets_all : (nodes : List Node) (there back : List ℕ) (turn : ℕ) → IsTree nodes → length there ≡ length nodes → length nodes ≤ turn → RaisedSetsTo nodes there turn back
    → GatherSourceSquares nodes Find there back
sets_all nodes there back turn tree long end had = record {
  count = had.count ∙ long;
  each = λ n m s low b h. up_to nodes tree back (λ c n s parent i. had.leads c n s (omega (arith, end)) parent i) n m s b (had.grows m s h);
}

-- from children: the squares of the first t nodes are at their parents
pub record ChildSetsTo (nodes : List Node) (there : List ℕ) (t : ℕ) (back : List ℕ) : Type 0 where
  pub count : length back ≡ length nodes
  pub leads : (c n s : ℕ) → c < t → (node_at nodes c).parent ≡ Some n → is_in (get_or there c 0) s ≡ true → is_in (get_or back n 0) s ≡ true

pub child_sets_next : (nodes : List Node) (there old new : List ℕ) (k more : ℕ) → more ≡ get_or there k 0 → AddSquaresToParent nodes k more old new → ChildSetsTo nodes there k old
    → ChildSetsTo nodes there (k + 1) new
child_sets_next nodes there old new k more is with_ancestors had = record {
  count = with_ancestors.count ∙ had.count;
  leads = λ c n s h parent i. ⊎_elim
      (λ less. with_ancestors.grows n s (had.leads c n s less parent i))
      (λ same. with_ancestors.adds n s (ap (λ j. (node_at nodes j).parent) (sym same) ∙ parent) (subst (λ y. is_in y s ≡ true) (ap (λ j. get_or there j 0) same ∙ sym is) i))
      (split_last c k h);
}

pub child_sets_all : (nodes : List Node) (there back : List ℕ) (t : ℕ) → IsTree nodes → length nodes ≤ t → ChildSetsTo nodes there t back → GatherSourceSquares nodes Child there back
child_sets_all nodes there back t tree end had = record {
  count = had.count;
  each = λ n m s low parent h. had.leads m n s (omega (arith, end, (parent_before nodes m n tree parent).1)) parent h;
}

-- a set for each of the first k nodes, in a list that is written over
pub record HaveSets (v : ℕ → ℕ) (end k : ℕ) (sets : List ℕ) : Type 0 where
  pub count : length sets ≡ end
  pub each : (n : ℕ) → n < k → get_or sets n 0 ≡ v n

pub have_more : (v : ℕ → ℕ) (end k x : ℕ) (sets later : List ℕ) → k < end → later ≡ slice_set sets k x → x ≡ v k → HaveSets v end k sets → HaveSets v end (k + 1) later
have_more v end k x sets later low is new had = record {
  count = ap length is ∙ length-set sets k x ∙ had.count;
  each = λ n h. ap (λ l. get_or l n 0) is ∙ ⊎_elim
      (λ less. get_or-set_other sets k n x 0 (λ e. omega (arith, less, e)) ∙ had.each n less)
      (λ same. ap (λ i. get_or (slice_set sets k x) i 0) same ∙ get_or-set_same sets k x 0 (omega (arith, low, had.count)) ∙ new ∙ ap v (sym same))
      (split_last n k h);
}

pub parent_sets_all : (nodes : List Node) (there back : List ℕ) (k : ℕ) → k ≡ length nodes
    → HaveSets (λ n. set_of_node there (node_at nodes n).parent) (length nodes) k back → GatherSourceSquares nodes Parent there back
parent_sets_all nodes there back k end had = record {
  count = had.count;
  each = λ n m s low parent h. subst (λ y. is_in y s ≡ true) (sym (had.each n (omega (arith, low, end)) ∙ ap (set_of_node there) parent)) h;
}

-- from above: each of the first k nodes has its own squares, and those of its parent, in a list that is written over
pub record LoweredSetsTo (nodes : List Node) (there : List ℕ) (end k : ℕ) (back : List ℕ) : Type 0 where
  pub count : length back ≡ end
  pub own : (n s : ℕ) → n < k → is_in (get_or there n 0) s ≡ true → is_in (get_or back n 0) s ≡ true
  pub leads : (n p s : ℕ) → n < k → (node_at nodes n).parent ≡ Some p → is_in (get_or back p 0) s ≡ true → is_in (get_or back n 0) s ≡ true

pub lowered_sets_next : (nodes : List Node) (there back given : List ℕ) (end k x : ℕ) → IsTree nodes → given ≡ back → k < end
    → x ≡ bit_or (get_or there k 0) (set_of_node given (node_at nodes k).parent) → LoweredSetsTo nodes there end k back → LoweredSetsTo nodes there end (k + 1) (slice_set back k x)
lowered_sets_next nodes there back given end k x tree same fits new had = record {
  count = length-set back k x ∙ had.count;
  own = λ n s h i. ⊎_elim
      (λ less. subst (λ y. is_in y s ≡ true) (sym (before n less)) (had.own n s less i))
      (λ here. subst (λ y. is_in y s ≡ true) (sym (at n here)) (in_new s (or_left (is_in (get_or there k 0) s) (is_in (set_of_node given (node_at nodes k).parent) s)
      (subst (λ j. is_in (get_or there j 0) s ≡ true) here i))))
      (split_last n k h);
  leads = λ n p s h parent i.
      let low : p < n = (parent_before nodes n p tree parent).0 in
      let old : is_in (get_or back p 0) s ≡ true = subst (λ y. is_in y s ≡ true) (before p (omega (arith, low, h))) i in
      ⊎_elim
      (λ less. subst (λ y. is_in y s ≡ true) (sym (before n less)) (had.leads n p s less parent old))
      (λ here. subst (λ y. is_in y s ≡ true) (sym (at n here)) (in_new s (or_right (is_in (get_or there k 0) s) (is_in (set_of_node given (node_at nodes k).parent) s)
      (subst (λ y. is_in y s ≡ true) (sym (ap (set_of_node given) (ap (λ j. (node_at nodes j).parent) (sym here) ∙ parent) ∙ ap (λ l. get_or l p 0) same)) old))))
      (split_last n k h);
}
  where
    before : (n : ℕ) → n < k → get_or (slice_set back k x) n 0 ≡ get_or back n 0
    before n less = get_or-set_other back k n x 0 (λ e. omega (arith, less, e))

    at : (n : ℕ) → n ≡ k → get_or (slice_set back k x) n 0 ≡ x
    at n here = ap (λ i. get_or (slice_set back k x) i 0) here ∙ get_or-set_same back k x 0 (omega (arith, fits, had.count))

    in_new : (s : ℕ) → (is_in (get_or there k 0) s || is_in (set_of_node given (node_at nodes k).parent) s) ≡ true → is_in x s ≡ true
    in_new s h = ap (λ y. is_in y s) new ∙ in_either (get_or there k 0) (set_of_node given (node_at nodes k).parent) s ∙ h

module _ (nodes : List Node) (tree : IsTree nodes) (there back : List ℕ) (end k : ℕ) (had : LoweredSetsTo nodes there end k back) where
  down_at : (m n s : ℕ) (o : Option ℕ) → ((q : ℕ) → q < n → is_below nodes m q ≡ true → is_in (get_or back q 0) s ≡ true) → n < k → is_below nodes m n ≡ true → (n ≡ m → ⊥)
      → (node_at nodes n).parent ≡ o → is_in (get_or back n 0) s ≡ true
  down_at m n s None before low b other is = absurd (let e : true ≡ false = sym b ∙ root_below nodes m n tree is other in cc)
  down_at m n s (Some q) before low b other is = had.leads n q s low is (before q (parent_before nodes n q tree is).0 (sym (below_parent nodes m n q tree is other) ∙ b))

  down_within : (i m n s : ℕ) → n < i → n < k → is_below nodes m n ≡ true → is_in (get_or there m 0) s ≡ true → is_in (get_or back n 0) s ≡ true
  down_within zero m n s less low b h = absurd (omega (arith, less))
  down_within (suc i) m n s less low b h = ⊎_elim
      (λ same. had.own n s low (subst (λ j. is_in (get_or there j 0) s ≡ true) (sym same) h))
      (λ other. down_at m n s (node_at nodes n).parent (λ q before below. down_within i m q s (omega (arith, less, before)) (omega (arith, low, before)) below h) low b other refl)
      (equal_or n m)

pub lowered_sets_all : (nodes : List Node) (there back : List ℕ) (k : ℕ) → IsTree nodes → k ≡ length nodes → LoweredSetsTo nodes there (length nodes) k back → GatherSourceSquares nodes FindUp there back
lowered_sets_all nodes there back k tree end had = record {
  count = had.count;
  each = λ n m s low b h. down_within nodes tree there back (length nodes) k had (n + 1) m n s (omega arith) (omega (arith, low, end)) b h;
}

-- a word holds, and so its part holds at a node at which it is evaluated
pub record HoldsAt (tree : SearchedTree) (word : Unary) (v : ℕ → Value) (n : ℕ) : Type 0 where
  pub m : ℕ
  pub asks : ReadsFrom tree.game.nodes word n m
  pub down : goes_down word ≡ true → (m < length tree.game.nodes) × Searched tree m
  pub holds_there : holds (v m) ≡ true

holds_below : (tree : SearchedTree) (v : ℕ → Value) (n : ℕ) → list_any (λ m. holds (v m)) (below_in tree n) ≡ true → HoldsAt tree Find v n
holds_below tree v n e =
    let r = from_range (λ m. is_searched tree.variations tree.game.nodes m && (is_below tree.game.nodes n m && holds (v m))) 0 (length tree.game.nodes)
    (sym (any_below tree (λ k. holds (v k)) n) ∙ e) in
    let more : (is_below tree.game.nodes n r.k && holds (v r.k)) ≡ true = right (is_searched tree.variations tree.game.nodes r.k) (is_below tree.game.nodes n r.k && holds (v r.k)) r.passes in
    record {
      m = r.k;
      asks = left (is_below tree.game.nodes n r.k) (holds (v r.k)) more;
      down = λ sure. (omega (arith, r.high), left (is_searched tree.variations tree.game.nodes r.k) (is_below tree.game.nodes n r.k && holds (v r.k)) r.passes);
      holds_there = right (is_below tree.game.nodes n r.k) (holds (v r.k)) more;
    }

holds_above : (tree : SearchedTree) (v : ℕ → Value) (n : ℕ) → list_any (λ m. holds (v m)) (way_up tree.game.nodes n) ≡ true → HoldsAt tree FindUp v n
holds_above tree v n e =
    let x = at_any (λ m. holds (v m)) (way_up tree.game.nodes n) e in
    record { m = x.m; asks = x.on; down = λ no. cc; holds_there = x.passes }

holds_child : (tree : SearchedTree) (v : ℕ → Value) (n : ℕ) → list_any (λ m. holds (v m)) (children_in tree n) ≡ true → HoldsAt tree Child v n
holds_child tree v n e =
    let r = from_range (λ k. is_child_of tree.game.nodes n k && (is_searched tree.variations tree.game.nodes k && holds (v k))) 0 (length tree.game.nodes)
    (sym (any_child tree (λ k. holds (v k)) n) ∙ e) in
    let more : (is_searched tree.variations tree.game.nodes r.k && holds (v r.k)) ≡ true =
    right (is_child_of tree.game.nodes n r.k) (is_searched tree.variations tree.game.nodes r.k && holds (v r.k)) r.passes in
    record {
      m = r.k;
      asks = child_is n (node_at tree.game.nodes r.k).parent (left (is_child_of tree.game.nodes n r.k) (is_searched tree.variations tree.game.nodes r.k && holds (v r.k)) r.passes);
      down = λ sure. (omega (arith, r.high), left (is_searched tree.variations tree.game.nodes r.k) (holds (v r.k)) more);
      holds_there = right (is_searched tree.variations tree.game.nodes r.k) (holds (v r.k)) more;
    }

one_first : (b : Bool) → (b || false) ≡ true → b ≡ true
one_first true e = refl
one_first false e = e

holds_parent : (tree : SearchedTree) (v : ℕ → Value) (n : ℕ) → list_any (λ m. holds (v m)) (option_to_list (node_at tree.game.nodes n).parent) ≡ true → HoldsAt tree Parent v n
holds_parent tree v n e = by (node_at tree.game.nodes n).parent refl e
  where
    by : (o : Option ℕ) → (node_at tree.game.nodes n).parent ≡ o → list_any (λ m. holds (v m)) (option_to_list o) ≡ true → HoldsAt tree Parent v n
    by None is e = cc
    by (Some p) is e = record { m = p; asks = is; down = λ no. cc; holds_there = one_first (holds (v p)) e }

pub holds_at : (tree : SearchedTree) (word : Unary) (v : ℕ → Value) (n : ℕ) → is_from_other_nodes word ≡ true → holds (unary_of tree word v n) ≡ true → HoldsAt tree word v n
holds_at tree Find v n sure h = holds_below tree v n h
holds_at tree FindUp v n sure h = holds_above tree v n h
holds_at tree Child v n sure h = holds_child tree v n h
holds_at tree Parent v n sure h = holds_parent tree v n h
holds_at tree Not v n sure h = cc
holds_at tree Complement v n sure h = cc
holds_at tree Count v n sure h = cc
holds_at tree Power v n sure h = cc
holds_at tree Light v n sure h = cc
holds_at tree Dark v n sure h = cc
