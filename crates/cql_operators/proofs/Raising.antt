-- The nodes that have a node of a set at or below them, by one pass from the last node to the first.
use Rattle.std.proofs.Common.{◌≡◌, ℕ, zero, suc, ◌+◌, ◌<◌, ◌≤◌, ◌⊎◌, ◌&&◌, ◌||◌, Bool, true, false, List, length, get_or, Option, Some, None, refl, sym, ap, ◌∙◌, subst, arith, inl, inr, ⊎_elim, eqb-true}
use Rattle.std.specs.Prelude.{◌↔◌}
use Rattle.std.proofs.lemmas.Bool.{cases_order, eq-eqb}
use Rattle.cq_position.specs.Games.{Node, node_at, IsTree, is_below, is_child_of, is_number}
use Rattle.cq_position.proofs.WaysUp.{is_below_self, below_parent, root_below, parent_before}
use Rattle.cql_columns.proofs.Filling.{equal_or, or_left, or_right}
use Rattle.cql_operators.specs.Trees.{AddsParent, AreWithAncestors}

-- a node of the set is n, or below a child of n that is not before t
abbrev pub Via : List Node → ℕ → ℕ → ℕ → Type 0
Via nodes t n m = (m ≡ n) ⊎ ((c : ℕ) × (t ≤ c) × ((node_at nodes c).parent ≡ Some n) × (is_below nodes c m ≡ true))

-- a node of the set comes so
abbrev pub Comes : List Node → List Bool → ℕ → ℕ → Type 0
Comes nodes set t n = (m : ℕ) × (get_or set m false ≡ true) × Via nodes t n m

pub record RaisedTo (nodes : List Node) (set : List Bool) (t : ℕ) (found : List Bool) : Type 0 where
  pub count : length found ≡ length set
  pub each : (n : ℕ) → (get_or found n false ≡ true) ↔ Comes nodes set t n

-- choices, and children by their parents
pub either : (a b : Bool) → (a || b) ≡ true → (a ≡ true) ⊎ (b ≡ true)
either true b e = inl refl
either false b e = inr e

both_left : (a b : Bool) → (a && b) ≡ true → a ≡ true
both_left true b e = refl
both_left false b e = e

both_right : (a b : Bool) → (a && b) ≡ true → b ≡ true
both_right true b e = e
both_right false b e = cc

pub child_is : (n : ℕ) (o : Option ℕ) → is_number o n ≡ true → o ≡ Some n
child_is n None e = cc
child_is n (Some m) e = ap Some (eqb-true m n e)

pub is_child : (n : ℕ) (o : Option ℕ) → o ≡ Some n → is_number o n ≡ true
is_child n o is = ap (λ x. is_number x n) is ∙ eq-eqb n n refl

module _ (nodes : List Node) (tree : IsTree nodes) where
  -- below a child is below its parent
  up_at : (n c m : ℕ) (o : Option ℕ) → ((q : ℕ) → q < m → is_below nodes c q ≡ true → is_below nodes n q ≡ true) → (node_at nodes c).parent ≡ Some n → is_below nodes c m ≡ true → (m ≡ n → ⊥)
      → (node_at nodes m).parent ≡ o → is_below nodes n m ≡ true
  up_at n c m None before p b other is = ⊎_elim
      (λ same. absurd (let e : Some n ≡ None = sym p ∙ ap (λ x. (node_at nodes x).parent) (sym same) ∙ is in cc))
      (λ away. absurd (let e : true ≡ false = sym b ∙ root_below nodes c m tree is away in cc))
      (equal_or m c)
  up_at n c m (Some q) before p b other is = ⊎_elim
      (λ same. let e : Some q ≡ Some n = sym is ∙ ap (λ x. (node_at nodes x).parent) same ∙ p in
      let f : q ≡ n = cc in
      below_parent nodes n m q tree is other ∙ ap (is_below nodes n) f ∙ is_below_self nodes n tree)
      (λ away. below_parent nodes n m q tree is other
      ∙ before q (parent_before nodes m q tree is).0 (sym (below_parent nodes c m q tree is away) ∙ b))
      (equal_or m c)

  up_within : (i n c m : ℕ) → m < i → (node_at nodes c).parent ≡ Some n → is_below nodes c m ≡ true → is_below nodes n m ≡ true
  up_within zero n c m h p b = absurd (omega (arith, h))
  up_within (suc i) n c m h p b = ⊎_elim
      (λ same. ap (is_below nodes n) same ∙ is_below_self nodes n tree)
      (λ other. up_at n c m (node_at nodes m).parent (λ q less below. up_within i n c q (omega (arith, h, less)) p below) p b other refl)
      (equal_or m n)

  pub below_up : (n c m : ℕ) → (node_at nodes c).parent ≡ Some n → is_below nodes c m ≡ true → is_below nodes n m ≡ true
  below_up n c m p b = up_within (m + 1) n c m (omega arith) p b

  -- the way to a node below n goes through a child of n
  down_at : (n m : ℕ) (o : Option ℕ) → ((q : ℕ) → q < m → is_below nodes n q ≡ true → Via nodes (n + 1) n q) → is_below nodes n m ≡ true → (m ≡ n → ⊥) → (node_at nodes m).parent ≡ o
      → Via nodes (n + 1) n m
  down_at n m None before b other is = absurd (let e : true ≡ false = sym b ∙ root_below nodes n m tree is other in cc)
  down_at n m (Some q) before b other is =
      let less = (parent_before nodes m q tree is).0 in
      ⊎_elim
      (λ same. inr (m, omega (arith, less, same), is ∙ ap Some same, is_below_self nodes m tree))
      (λ by. inr (
        by.0,
        by.1,
        by.2,
        ⊎_elim
            (λ here. ap (is_below nodes by.0) here ∙ is_below_self nodes by.0 tree)
            (λ away. below_parent nodes by.0 m q tree is away ∙ by.3)
            (equal_or m by.0),
      ))
      (before q less (sym (below_parent nodes n m q tree is other) ∙ b))

  down_within : (i n m : ℕ) → m < i → is_below nodes n m ≡ true → Via nodes (n + 1) n m
  down_within zero n m h b = absurd (omega (arith, h))
  down_within (suc i) n m h b = ⊎_elim
      (λ same. inl same)
      (λ other. down_at n m (node_at nodes m).parent (λ q less below. down_within i n q (omega (arith, h, less)) below) b other refl)
      (equal_or m n)

  below_via : (n m : ℕ) → is_below nodes n m ≡ true → Via nodes (n + 1) n m
  below_via n m b = down_within (m + 1) n m (omega arith) b

  via_below : (t n m : ℕ) → Via nodes t n m → is_below nodes n m ≡ true
  via_below t n m via = ⊎_elim (λ same. ap (is_below nodes n) same ∙ is_below_self nodes n tree) (λ by. below_up n by.0 m by.2 by.3) via

  pub raised_begun : (set : List Bool) (t : ℕ) → length nodes ≤ t → RaisedTo nodes set t set
  raised_begun set t h = record {
    count = refl;
    each = λ n. (
      λ e. (n, e, inl refl),
      λ x. ⊎_elim
          (λ same. subst (λ k. get_or set k false ≡ true) same x.1)
          (λ by. absurd (omega (arith, by.1, h, (parent_before nodes by.0 n tree by.2).1)))
          x.2,
    );
  }

  pub raised_more : (set old new : List Bool) (k t : ℕ) (there : Bool) → t ≡ k + 1 → there ≡ get_or old k false → AddsParent nodes k there old new → RaisedTo nodes set t old
      → RaisedTo nodes set k new
  raised_more set old new k t there next same r had = record {
    count = r.count ∙ had.count;
    each = λ n. (to n, from n);
  }
    where
      each : (n : ℕ) → get_or new n false ≡ (get_or old n false || (get_or old k false && is_child_of nodes n k))
      each n = r.each n ∙ ap (λ b. get_or old n false || (b && is_child_of nodes n k)) same

      to : (n : ℕ) → get_or new n false ≡ true → Comes nodes set k n
      to n e = ⊎_elim
          (λ here. let x = (had.each n).0 here in (x.0, x.1, ⊎_elim (λ same. inl same) (λ by. inr (by.0, omega (arith, by.1, next), by.2, by.3)) x.2))
          (λ more. let there = both_left (get_or old k false) (is_child_of nodes n k) more in
          let x = (had.each k).0 there in
          (x.0, x.1, inr (k, omega arith, child_is n (node_at nodes k).parent (both_right (get_or old k false) (is_child_of nodes n k) more), via_below t k x.0 x.2)))
          (either (get_or old n false) (get_or old k false && is_child_of nodes n k) (sym (each n) ∙ e))

      found : (n : ℕ) → get_or old n false ≡ true → get_or new n false ≡ true
      found n e = each n ∙ or_left (get_or old n false) (get_or old k false && is_child_of nodes n k) e

      from : (n : ℕ) → Comes nodes set k n → get_or new n false ≡ true
      from n x = ⊎_elim
          (λ same. found n ((had.each n).1 (x.0, x.1, inl same)))
          (λ by. ⊎_elim
          (λ is. let parent = ap (λ c. (node_at nodes c).parent) (sym is) ∙ by.2 in
          let below = subst (λ c. is_below nodes c x.0 ≡ true) is by.3 in
          let there = (had.each k).1 (x.0, x.1, subst (λ i. Via nodes i k x.0) (sym next) (below_via k x.0 below)) in
          each n ∙ or_right (get_or old n false) (get_or old k false && is_child_of nodes n k)
          (ap (λ b. b && is_child_of nodes n k) there ∙ is_child n (node_at nodes k).parent parent))
          (λ later. found n ((had.each n).1 (x.0, x.1, inr (by.0, omega (arith, later, next), by.2, by.3))))
          (split by.0 by.1))
          x.2
        where
          split : (c : ℕ) → k ≤ c → (c ≡ k) ⊎ (k < c)
          split c h = ⊎_elim (λ same. inl same) (λ o. ⊎_elim (λ less. absurd (omega (arith, h, less))) (λ more. inr more) o) (cases_order c k)

  pub raised_next : (set old new : List Bool) (k t later : ℕ) (there : Bool) → t ≡ k + 1 → k ≡ later → there ≡ get_or old k false → AddsParent nodes k there old new → RaisedTo nodes set t old
      → RaisedTo nodes set later new
  raised_next set old new k t later there next same is r had = subst (λ i. RaisedTo nodes set i new) same (raised_more set old new k t there next is r had)

  pub raised_all : (set found : List Bool) (t : ℕ) → t ≡ 0 → RaisedTo nodes set t found → AreWithAncestors nodes set found
  raised_all set found t end had = record {
    count = had.count;
    each = λ n. (
      λ e. let x = (had.each n).0 e in (x.0, x.1, via_below t n x.0 x.2),
      λ x. (had.each n).1 (x.0, x.1, ⊎_elim (λ same. inl same) (λ by. inr (by.0, omega (arith, end), by.2, by.3)) (below_via n x.0 x.2)),
    );
  }
