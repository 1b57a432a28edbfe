-- The way up from a node.
use Rattle.std.proofs.Common.{◌≡◌, ℕ, zero, suc, ◌+◌, ◌<◌, ◌≤◌, ⊎_elim, List, [], ◌∷◌, ◌++◌, Option, Some, None, refl, sym, ap, ◌∙◌, subst, arith, add-one}
use Rattle.std.specs.Prelude.{Contains}
use Rattle.std.proofs.lemmas.List.Elements.{Contains-push, Contains-push_cases, Contains-append_cases, Contains-append_left, Contains-append_right}
use Rattle.cq_position.specs.Games.{Node, node_at, up_from, way_up}

-- parents come before their children
pub record AreParentsFirst (nodes : List Node) : Type 0 where
  pub before : (n p : ℕ) → (node_at nodes n).parent ≡ Some p → p < n

-- the same nodes, as far as parents go, up to a number
pub record HaveSameParents (a b : List Node) (n : ℕ) : Type 0 where
  pub same : (m : ℕ) → m ≤ n → (node_at a m).parent ≡ (node_at b m).parent

module _ (a b : List Node) (first : AreParentsFirst a) where
  up_same : (i j : ℕ) (o : Option ℕ) → ((n : ℕ) → o ≡ Some n → n < i) → ((n : ℕ) → o ≡ Some n → n < j) → ((n : ℕ) → o ≡ Some n → HaveSameParents a b n)
      → up_from i a o ≡ up_from j b o
  up_same zero zero None hi hj h = refl
  up_same zero (suc j) None hi hj h = refl
  up_same (suc i) zero None hi hj h = refl
  up_same (suc i) (suc j) None hi hj h = refl
  up_same zero j (Some n) hi hj h = absurd (omega (arith, hi n refl))
  up_same (suc i) zero (Some n) hi hj h = absurd (omega (arith, hj n refl))
  up_same (suc i) (suc j) (Some n) hi hj h =
      let here = h n refl in
      let below : (p : ℕ) → (node_at a n).parent ≡ Some p → p < n = first.before n in
      ap (λ l. n ∷ l)
      (up_same i j (node_at a n).parent (λ p is. omega (arith, below p is, hi n refl)) (λ p is. omega (arith, below p is, hj n refl))
      (λ p is. record { same = λ m less. here.same m (omega (arith, below p is, less)) })
      ∙ ap (up_from j b) (here.same n (omega arith)))

  pub way_same : (n : ℕ) → HaveSameParents a b n → way_up a n ≡ way_up b n
  unfolding way_up
  way_same n same = up_same (n + 1) (n + 1) (Some n) (λ m is. let e : n ≡ m = cc in omega (arith, e))
      (λ m is. let e : n ≡ m = cc in omega (arith, e)) (λ m is. let e : n ≡ m = cc in subst (HaveSameParents a b) e same)

module _ (nodes : List Node) (first : AreParentsFirst nodes) where
  -- a node, and then the way up from its parent
  pub way_step : (n p : ℕ) → (node_at nodes n).parent ≡ Some p → way_up nodes n ≡ n ∷ way_up nodes p
  unfolding way_up
  way_step n p is =
      let less = first.before n p is in
      ap (λ i. up_from i nodes (Some n)) (add-one n)
      ∙ ap (λ l. n ∷ l) (ap (up_from n nodes) is ∙ up_same nodes nodes first n (p + 1) (Some p) (λ m e. let f : p ≡ m = cc in omega (arith, f, less))
      (λ m e. let f : p ≡ m = cc in omega (arith, f)) (λ m e. record { same = λ i h. refl }))

  pub way_root : (n : ℕ) → (node_at nodes n).parent ≡ None → way_up nodes n ≡ n ∷ []
  unfolding way_up
  way_root n is = ap (λ i. up_from i nodes (Some n)) (add-one n) ∙ ap (λ l. n ∷ l) (ap (up_from n nodes) is ∙ up_none n)
    where
      up_none : (i : ℕ) → up_from i nodes None ≡ []
      up_none zero = refl
      up_none (suc i) = refl

  -- the way up begins with the node itself
  pub way_head : (n : ℕ) → way_up nodes n ≡ n ∷ up_from n nodes (node_at nodes n).parent
  unfolding way_up
  way_head n = ap (λ i. up_from i nodes (Some n)) (add-one n)

  pub way_self : (n : ℕ) → Contains (way_up nodes n) n
  way_self n = subst (λ l. Contains l n) (sym (way_head n)) (Contains-append_left (n ∷ []) (up_from n nodes (node_at nodes n).parent) n (Contains-push [] n))

  -- the way up from a node on the way up is its end
  pub record Reaches (n q : ℕ) : Type 0 where
    pub before : List ℕ
    pub is : way_up nodes n ≡ before ++ way_up nodes q
    pub less : q ≤ n

  here : (n q : ℕ) → n ≡ q → Reaches n q
  here n q is = record { before = []; is = ap (way_up nodes) is; less = omega (arith, is) }

  alone : (n q : ℕ) → Contains (n ∷ []) q → n ≡ q
  alone n q h = ⊎_elim (λ none. absurd (omega (arith, none.1))) (λ is. is) (Contains-push_cases [] n q h)

  reaches_by : (n q : ℕ) (o : Option ℕ) → (node_at nodes n).parent ≡ o → ((p : ℕ) → p < n → Contains (way_up nodes p) q → Reaches p q) → Contains (way_up nodes n) q → Reaches n q
  reaches_by n q None is above on = here n q (alone n q (subst (λ l. Contains l q) (way_root n is) on))
  reaches_by n q (Some p) is above on = ⊎_elim
      (λ at. here n q (alone n q at))
      (λ there. let less = first.before n p is in
      let r = above p less there in
      record { before = n ∷ r.before; is = way_step n p is ∙ ap (λ l. n ∷ l) r.is; less = omega (arith, less, r.less) })
      (Contains-append_cases (n ∷ []) (way_up nodes p) q (subst (λ l. Contains l q) (way_step n p is) on))

  reaches_within : (i n q : ℕ) → n < i → Contains (way_up nodes n) q → Reaches n q
  reaches_within zero n q h on = absurd (omega (arith, h))
  reaches_within (suc i) n q h on = reaches_by n q (node_at nodes n).parent refl (λ p less above. reaches_within i p q (omega (arith, less, h)) above) on

  pub reaches : (n q : ℕ) → Contains (way_up nodes n) q → Reaches n q
  reaches n q on = reaches_within (n + 1) n q (omega arith) on

  pub way_on : (n m q : ℕ) → Contains (way_up nodes n) m → Contains (way_up nodes m) q → Contains (way_up nodes n) q
  way_on n m q on more =
      let r = reaches n m on in
      subst (λ l. Contains l q) (sym r.is) (Contains-append_right r.before (way_up nodes m) q more)
