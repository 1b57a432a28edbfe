-- The first child of a node and its next sibling begin the moves played after it and instead of it.
use Rattle.std.proofs.Common.{◌≡◌, ℕ, zero, suc, ◌+◌, ◌-◌, ◌<◌, ◌≤◌, Bool, true, false, cond, ◌&&◌, List, length, drop, Option, Some, None, refl, sym, ap, ap₂, ◌∙◌, subst, arith, eqb-true}
use Rattle.std.specs.Prelude.{nat_lt, IfSome}
use Rattle.std.specs.List.{find, range_with_len}
use Rattle.std.proofs.lemmas.Bool.{false_from_ne_true, eq-eqb, lt-ltb, ltb-true, false≢true}
use Rattle.std.proofs.lemmas.List.{drop_more, drop_all}
use Rattle.cq_position.specs.declared.moves.Move.{Move}
use Rattle.cq_position.specs.Legal.{Leads}
use Rattle.cq_position.specs.Games.{Node, no_node, node_at, is_number, is_child_of, is_later_sibling, first_child, next_sibling, IsTree}
use Rattle.cq_position.specs.Continuations.{none, played, continuations}
use Rattle.cq_position.proofs.Nested.{IsElsewhere, by_parent, passed_over, taken, nothing_left}
use Rattle.cq_position.proofs.Trees.{tree_first}
use Rattle.pgn_export.specs.Internal.NodeWords.{played_of, children_from, after_node, instead_of}

-- the search passes over numbers that fail the test
skip_by : (t : Bool) (a : ℕ) (r : Option ℕ) → t ≡ false → cond t (Some a) r ≡ r
skip_by true a r e = absurd (cc)
skip_by false a r e = refl

skipped : (t : ℕ → Bool) (j a n : ℕ) → ((m : ℕ) → a ≤ m → m < a + j → t m ≡ false) → find t (range_with_len a (j + n)) ≡ find t (range_with_len (a + j) n)
skipped t zero a n fails = ap₂ (λ i l. find t (range_with_len i l)) (let e : a ≡ a + 0 = omega arith in e) (let e : 0 + n ≡ n = omega arith in e)
skipped t (suc j) a n fails =
    let more : suc j + n ≡ suc (j + n) = omega arith in
    ap (λ i. find t (range_with_len a i)) more
    ∙ skip_by (t a) a (find t (range_with_len (a + 1) (j + n))) (fails a (omega arith) (omega arith))
    ∙ skipped t j (a + 1) n (λ m low high. fails m (omega (arith, low)) (omega (arith, high)))
    ∙ ap (λ i. find t (range_with_len i n)) (let e : a + 1 + j ≡ a + suc j = omega arith in e)

agree : (f g : ℕ → Bool) (a n : ℕ) → ((m : ℕ) → a ≤ m → f m ≡ g m) → find f (range_with_len a n) ≡ find g (range_with_len a n)
agree f g a zero same = refl
agree f g a (suc n) same = ap₂ (λ t r. cond t (Some a) r) (same a (omega arith)) (agree f g (a + 1) n (λ m low. same m (omega (arith, low))))

skipped_first : (t : ℕ → Bool) (j n : ℕ) → ((m : ℕ) → m < j → t m ≡ false) → find t (range_with_len 0 (j + n)) ≡ find t (range_with_len j n)
skipped_first t j n fails = skipped t j 0 n (λ m low high. fails m (omega (arith, high))) ∙ ap (λ i. find t (range_with_len i n)) (let e : 0 + j ≡ j = omega arith in e)

number_is : (o : Option ℕ) (p : ℕ) → is_number o p ≡ true → o ≡ Some p
number_is None p e = absurd (false≢true e)
number_is (Some q) p e = ap Some (eqb-true q p e)

module _ (nodes : List Node) (tree : IsTree nodes) where
  -- the place of a child of a node; its siblings begin with it
  pub record IsViablePrefix (parent k c : ℕ) : Type 0 where
    pub from : k ≤ c
    pub within : c < length nodes
    pub child : (node_at nodes c).parent ≡ Some parent
    pub begins : (m : Move) → (node_at nodes c).led_by ≡ Some m
        → children_from nodes parent k ≡ played (played_of (node_at nodes c) m) (after_node nodes c) (instead_of nodes parent c)

  BeginsBy : (parent k : ℕ) → Option ℕ → Type 0
  BeginsBy parent k None = children_from nodes parent k ≡ none
  BeginsBy parent k (Some c) = IsViablePrefix parent k c

  by_none : (parent k : ℕ) → length nodes ≤ k → BeginsBy parent k None
  unfolding BeginsBy children_from
  by_none parent k past = ap (continuations parent k) (drop_all k nodes past) ∙ nothing_left parent k

  here : (parent k : ℕ) → k < length nodes → (node_at nodes k).parent ≡ Some parent → IsViablePrefix parent k k
  unfolding children_from
  here parent k within is = record {
    from = omega arith;
    within = within;
    child = is;
    begins = λ m led. ap (continuations parent k) (drop_more nodes k no_node within) ∙ taken parent k (node_at nodes k) (drop (k + 1) nodes) m is led;
  }

  elsewhere : (parent k : ℕ) → is_child_of nodes parent k ≡ false → IsElsewhere parent (node_at nodes k)
  elsewhere parent k other =
      by_parent parent (node_at nodes k) (node_at nodes k).parent refl
      (λ q is same. false≢true (sym other ∙ ap (λ o. is_number o parent) is ∙ eq-eqb q parent same))

  later : (parent k : ℕ) (r : Option ℕ) → k < length nodes → is_child_of nodes parent k ≡ false → BeginsBy parent (k + 1) r → BeginsBy parent k r
  unfolding BeginsBy children_from
  later parent k None within other rest =
      ap (continuations parent k) (drop_more nodes k no_node within) ∙ passed_over parent k (node_at nodes k) (drop (k + 1) nodes) (elsewhere parent k other) ∙ rest
  later parent k (Some c) within other rest =
      let from = rest.from in
      record {
        from = omega arith;
        within = rest.within;
        child = rest.child;
        begins = λ m led. ap (continuations parent k) (drop_more nodes k no_node within) ∙ passed_over parent k (node_at nodes k) (drop (k + 1) nodes) (elsewhere parent k other) ∙ rest.begins m led;
      }

  by_test : (parent k : ℕ) (r : Option ℕ) (t : Bool) → k < length nodes → is_child_of nodes parent k ≡ t → BeginsBy parent (k + 1) r → BeginsBy parent k (cond t (Some k) r)
  unfolding BeginsBy
  by_test parent k r true within is rest = here parent k within (number_is (node_at nodes k).parent parent is)
  by_test parent k r false within is rest = later parent k r within is rest

  by_find : (parent n k : ℕ) → k + n ≡ length nodes → BeginsBy parent k (find (is_child_of nodes parent) (range_with_len k n))
  by_find parent zero k all = by_none parent k (omega (arith, all))
  by_find parent (suc n) k all =
      by_test parent k (find (is_child_of nodes parent) (range_with_len (k + 1) n)) (is_child_of nodes parent k) (omega (arith, all)) refl
      (by_find parent n (k + 1) (omega (arith, all)))

  -- no child comes before its parent
  not_before : (parent k : ℕ) → k ≤ parent → is_child_of nodes parent k ≡ false
  not_before parent k low =
      false_from_ne_true (is_child_of nodes parent k)
      (λ is. let before = (tree_first nodes tree).before k parent (number_is (node_at nodes k).parent parent is) in omega (arith, low, before))

  first_by : (parent : ℕ) → parent < length nodes → BeginsBy parent (parent + 1) (first_child nodes parent)
  unfolding first_child
  first_by parent within =
      let rest : ℕ = length nodes - (parent + 1) in
      let all : length nodes ≡ (parent + 1) + rest = omega (arith, within) in
      let same = ap (λ n. find (is_child_of nodes parent) (range_with_len 0 n)) all
      ∙ skipped_first (is_child_of nodes parent) (parent + 1) rest (λ m high. not_before parent m (omega (arith, high))) in
      subst (BeginsBy parent (parent + 1)) (sym same) (by_find parent rest (parent + 1) (sym all))

  late : (k m : ℕ) → k < m → (nat_lt k m && true) ≡ true
  late k m less = ap (λ t. t && true) (lt-ltb k m less)

  sibling_test : (o : Option ℕ) (parent k m : ℕ) → o ≡ Some parent → k < m → is_later_sibling nodes o k m ≡ is_child_of nodes parent m
  sibling_test o parent k m is less = ap (λ x. is_later_sibling nodes x k m) is ∙ ap (λ t. t && is_child_of nodes parent m) (lt-ltb k m less)

  early_test : (o : Option ℕ) (parent k m : ℕ) → o ≡ Some parent → m ≤ k → is_later_sibling nodes o k m ≡ false
  early_test o parent k m is low =
      ap (λ x. is_later_sibling nodes x k m) is
      ∙ ap (λ t. t && is_child_of nodes parent m) (false_from_ne_true (nat_lt k m) (λ e. let less = ltb-true k m e in omega (arith, less, low)))

  next_by : (parent k : ℕ) → k < length nodes → (node_at nodes k).parent ≡ Some parent → BeginsBy parent (k + 1) (next_sibling nodes k)
  unfolding next_sibling
  next_by parent k within is =
      let rest : ℕ = length nodes - (k + 1) in
      let all : length nodes ≡ (k + 1) + rest = omega (arith, within) in
      let test = is_later_sibling nodes (node_at nodes k).parent k in
      let same =
      ap (λ n. find test (range_with_len 0 n)) all
      ∙ skipped_first test (k + 1) rest (λ m high. early_test (node_at nodes k).parent parent k m is (omega (arith, high)))
      ∙ agree test (is_child_of nodes parent) (k + 1) rest (λ m low. sibling_test (node_at nodes k).parent parent k m is (omega (arith, low))) in
      subst (BeginsBy parent (k + 1)) (sym same) (by_find parent rest (k + 1) (sym all))

  -- by the results of the calls
  pub no_child : (parent : ℕ) → parent < length nodes → first_child nodes parent ≡ None → after_node nodes parent ≡ none
  unfolding BeginsBy
  no_child parent within e = subst (BeginsBy parent (parent + 1)) e (first_by parent within)

  pub has_child : (parent c : ℕ) → parent < length nodes → first_child nodes parent ≡ Some c → IsViablePrefix parent (parent + 1) c
  unfolding BeginsBy
  has_child parent c within e = subst (BeginsBy parent (parent + 1)) e (first_by parent within)

  pub no_sibling : (parent k : ℕ) → k < length nodes → (node_at nodes k).parent ≡ Some parent → next_sibling nodes k ≡ None → instead_of nodes parent k ≡ none
  unfolding BeginsBy
  no_sibling parent k within is e = subst (BeginsBy parent (k + 1)) e (next_by parent k within is)

  pub has_sibling : (parent k c : ℕ) → k < length nodes → (node_at nodes k).parent ≡ Some parent → next_sibling nodes k ≡ Some c → IsViablePrefix parent (k + 1) c
  unfolding BeginsBy
  has_sibling parent k c within is e = subst (BeginsBy parent (k + 1)) e (next_by parent k within is)

-- a node and its parent
pub record LedFrom (nodes : List Node) (parent k : ℕ) (m : Move) : Type 0 where
  pub after : parent < k
  pub leads : Leads (node_at nodes parent).position m (node_at nodes k).position

pub led_from : (nodes : List Node) → IsTree nodes → (parent k : ℕ) (m : Move) → k < length nodes → (node_at nodes k).parent ≡ Some parent → (node_at nodes k).led_by ≡ Some m
    → LedFrom nodes parent k m
led_from nodes tree parent k m within is led =
    let before = (tree_first nodes tree).before k parent is in
    let child = tree.children k (omega (arith, before)) within in
    let number : child.number ≡ parent = some_number child.number parent (sym child.parent ∙ is) in
    let move : child.move ≡ m = some_move child.move m (sym child.led_by ∙ led) in
    record {
      after = before;
      leads = subst (λ p. Leads (node_at nodes p).position m (node_at nodes k).position) number
          (subst (λ n. Leads (node_at nodes child.number).position n (node_at nodes k).position) move child.leads);
    }
  where
    some_number : (a b : ℕ) → Some a ≡ Some b → a ≡ b
    some_number a b e = cc

    some_move : (a b : Move) → Some a ≡ Some b → a ≡ b
    some_move a b e = cc

-- each node but the root has a parent that comes before it
pub parent_within : (nodes : List Node) → IsTree nodes → (parent k : ℕ) → k < length nodes → (node_at nodes k).parent ≡ Some parent → parent < length nodes
parent_within nodes tree parent k within is = let before = (tree_first nodes tree).before k parent is in omega (arith, before, within)

-- the places of a first child and a next sibling
pub child_place : (nodes : List Node) → IsTree nodes → (k : ℕ) (r : Option ℕ) → k < length nodes → r ≡ first_child nodes k
    → IfSome r (λ c. (k < c) × (c < length nodes) × ((node_at nodes c).parent ≡ Some k))
child_place nodes tree k None within e = tt
child_place nodes tree k (Some c) within e = let b = has_child nodes tree k c within (sym e) in let from = b.from in (omega arith, b.within, b.child)

pub sibling_place : (nodes : List Node) → IsTree nodes → (parent k : ℕ) (r : Option ℕ) → k < length nodes → (node_at nodes k).parent ≡ Some parent → r ≡ next_sibling nodes k
    → IfSome r (λ c. (k < c) × (c < length nodes) × ((node_at nodes c).parent ≡ Some parent))
sibling_place nodes tree parent k None within is e = tt
sibling_place nodes tree parent k (Some c) within is e = let b = has_sibling nodes tree parent k c within is (sym e) in let from = b.from in (omega arith, b.within, b.child)
