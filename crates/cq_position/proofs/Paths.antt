-- The paths that are listed are exactly the paths of the relation.
use Rattle.std.proofs.Common.{◌≡◌, ◌↔◌, ℕ, zero, suc, ◌+◌, ◌<◌, ◌≤◌, ◌⊎◌, ⊎_elim, Bool, true, false, not, ◌||◌, List, [], ◌∷◌, map, length, Option, Some, None, refl, sym, ap, ◌∙◌, subst, arith, eqb-true}
use Rattle.std.specs.Prelude.{option_to_list}
use Rattle.std.specs.List.{Contains, filter, flat_map, range_with_len}
use Rattle.std.proofs.lemmas.Bool.{eq-eqb}
use Rattle.std.proofs.lemmas.List.{length-map, get_or-map, get_or_past}
use Rattle.std.proofs.lemmas.List.FromFn.{get_or-range_with_len, length-range_with_len}
use Rattle.std.proofs.lemmas.List.Elements.{All-filter, All-map, All-weaker, All-contains, All-contains_itself, filter_passes, Contains-append_left, Contains-append_right, Contains-append_cases, Contains-push_cases}
use Rattle.cq_geometry.proofs.Board.{contains_filter}
use Rattle.cq_position.specs.Games.{Node, no_node, node_at, is_number, is_child_of, children, is_first_child, is_searched, IsTree}
use Rattle.cq_position.specs.Search.{SearchedTree, children_in, IsStepDown, IsStepUp, Along, IsPath, next_in, paths_within, paths}
use Rattle.cq_position.proofs.Trees.{tree_first}

-- elements of lists that are made of others
in_map : (n : ℕ) (ws : List (List ℕ)) (w : List ℕ) → Contains (map (λ v. n ∷ v) ws) w → (v : List ℕ) × (w ≡ n ∷ v) × Contains ws v
in_map n ws w on =
    All-contains (λ w. (v : List ℕ) × (w ≡ n ∷ v) × Contains ws v) (map (λ v. n ∷ v) ws) w
    (All-map (λ w. (v : List ℕ) × (w ≡ n ∷ v) × Contains ws v) (λ v. n ∷ v) ws
    (All-weaker (Contains ws) (λ u. (v : List ℕ) × (n ∷ u ≡ n ∷ v) × Contains ws v) (λ v c. (v, refl, c)) ws (All-contains_itself ws))) on

onto_map : (n : ℕ) (ws : List (List ℕ)) (w : List ℕ) → Contains ws w → Contains (map (λ v. n ∷ v) ws) (n ∷ w)
onto_map n ws w (k, h, e) = (k, omega (arith, length-map ws (λ v. n ∷ v), h), get_or-map (λ v. n ∷ v) ws k w (n ∷ w) h ∙ ap (λ v. n ∷ v) e)

in_flat : (f : ℕ → List (List ℕ)) (ks : List ℕ) (w : List ℕ) → Contains (flat_map f ks) w → (k : ℕ) × Contains ks k × Contains (f k) w
in_flat f [] w (k, h, e) = absurd (omega (arith, h))
in_flat f (k ∷ ks) w on = ⊎_elim
    (λ here. (k, Contains-append_left (k ∷ []) ks k (0, omega arith, refl), here))
    (λ there. let r = in_flat f ks w there in (r.0, Contains-append_right (k ∷ []) ks r.0 r.1, r.2))
    (Contains-append_cases (f k) (flat_map f ks) w on)

onto_flat : (f : ℕ → List (List ℕ)) (ks : List ℕ) (k : ℕ) (w : List ℕ) → Contains ks k → Contains (f k) w → Contains (flat_map f ks) w
onto_flat f [] k w (i, h, e) on = absurd (omega (arith, h))
onto_flat f (j ∷ ks) k w (zero, h, e) on = Contains-append_left (f j) (flat_map f ks) w (subst (λ i. Contains (f i) w) (sym e) on)
onto_flat f (j ∷ ks) k w (suc i, h, e) on = Contains-append_right (f j) (flat_map f ks) w (onto_flat f ks k w (i, omega (arith, h), e) on)

kept : (p : ℕ → Bool) (xs : List ℕ) (x : ℕ) → Contains (filter p xs) x → Contains xs x × (p x ≡ true)
kept p xs x on = (
  All-contains (Contains xs) (filter p xs) x (All-filter p (Contains xs) xs (All-contains_itself xs)) on,
  All-contains (λ x. p x ≡ true) (filter p xs) x (filter_passes p xs) on,
)

in_numbers : (n k : ℕ) → Contains (range_with_len 0 n) k → k < n
in_numbers n k (i, h, e) =
    let below : i < n = omega (arith, h, length-range_with_len 0 n) in
    omega (arith, below, e, get_or-range_with_len 0 n i k below)

onto_numbers : (n k : ℕ) → k < n → Contains (range_with_len 0 n) k
onto_numbers n k below = (k, omega (arith, below, length-range_with_len 0 n), omega (arith, get_or-range_with_len 0 n k k below))

-- lists that begin at a number and go on to the next ones
module _ (next : ℕ → List ℕ) where
  abbrev Goes : ℕ → List ℕ → Type 0
  Goes n w = Along (λ m k. Contains (next m) k) n w

  goes_on : (most n : ℕ) (w : List ℕ) → Contains (paths_within most next n) w → (later : List ℕ) × (w ≡ n ∷ later) × Goes n later
  goes_on zero n w (k, h, e) = absurd (omega (arith, h))
  goes_on (suc most) n w on = ⊎_elim
      (λ alone. ([], ⊎_elim (λ none. absurd (omega (arith, none.1))) (λ is. sym is) (Contains-push_cases [] (n ∷ []) w alone), tt))
      (λ more. let v = in_map n (flat_map (paths_within most next) (next n)) w more in
      let k = in_flat (paths_within most next) (next n) v.0 v.2 in
      let rest = goes_on most k.0 v.0 k.2 in
      (k.0 ∷ rest.0, v.1 ∙ ap (λ l. n ∷ l) rest.1, (k.1, rest.2)))
      (Contains-append_cases ((n ∷ []) ∷ []) (map (λ w. n ∷ w) (flat_map (paths_within most next) (next n))) w on)

  is_listed : (most n : ℕ) (later : List ℕ) → length later < most → Goes n later → Contains (paths_within most next n) (n ∷ later)
  is_listed zero n later h goes = absurd (omega (arith, h))
  is_listed (suc most) n [] h goes = (0, omega arith, refl)
  is_listed (suc most) n (k ∷ ms) h goes =
      Contains-append_right ((n ∷ []) ∷ []) (map (λ w. n ∷ w) (flat_map (paths_within most next) (next n))) (n ∷ k ∷ ms)
      (onto_map n (flat_map (paths_within most next) (next n)) (k ∷ ms)
      (onto_flat (paths_within most next) (next n) k (k ∷ ms) goes.0 (is_listed most k ms (omega (arith, h)) goes.1)))

pub along_weaker : (R S : ℕ → ℕ → Type 0) → ((n k : ℕ) → R n k → S n k) → (n : ℕ) (w : List ℕ) → Along R n w → Along S n w
along_weaker R S each n [] goes = tt
along_weaker R S each n (k ∷ ms) goes = (each n k goes.0, along_weaker R S each k ms goes.1)

number_is : (o : Option ℕ) (k : ℕ) → is_number o k ≡ true → o ≡ Some k
number_is None k is = absurd cc
number_is (Some m) k is = ap Some (eqb-true m k is)

is_itself : (o : Option ℕ) (k : ℕ) → o ≡ Some k → is_number o k ≡ true
is_itself o k is = ap (λ p. is_number p k) is ∙ eq-eqb k k refl

below_or_past : (k n : ℕ) → (k < n) ⊎ (n ≤ k)
below_or_past k n = grind arith

-- a test that is made under a condition
where_asked : (asked t : Bool) → (not asked || t) ≡ true → asked ≡ true → t ≡ true
where_asked true t is asked = is
where_asked false t is asked = absurd cc

asked_where : (asked t : Bool) → (asked ≡ true → t ≡ true) → (not asked || t) ≡ true
asked_where true t each = each refl
asked_where false t each = refl

module _ (tree : SearchedTree) (is_tree : IsTree tree.game.nodes) (primary : Bool) where
  abbrev nodes : List Node
  nodes = tree.game.nodes

  some_parent : (k p : ℕ) → (node_at nodes k).parent ≡ Some p → (p < k) × (k < length nodes)
  some_parent k p is = (
    (tree_first nodes is_tree).before k p is,
    ⊎_elim (λ h. h) (λ past. absurd (let e : None ≡ Some p = ap (λ x. x.parent) (sym (get_or_past nodes k no_node past)) ∙ is in cc)) (below_or_past k (length nodes)),
  )

  down_step : (n k : ℕ) → Contains (next_in tree false primary n) k → IsStepDown tree primary n k
  unfolding children
  down_step n k on =
      let first = kept (λ c. not primary || is_first_child nodes c) (children_in tree n) k on in
      let searched = kept (is_searched tree.variations nodes) (children nodes n) k first.0 in
      let child = kept (is_child_of nodes n) (range_with_len 0 (length nodes)) k searched.0 in
      record { child = number_is (node_at nodes k).parent n child.1; is_in = searched.1; first = where_asked primary (is_first_child nodes k) first.1 }

  step_down : (n k : ℕ) → IsStepDown tree primary n k → Contains (next_in tree false primary n) k
  unfolding children
  step_down n k step =
      let h = some_parent k n step.child in
      contains_filter (λ c. not primary || is_first_child nodes c) (children_in tree n) k
      (contains_filter (is_searched tree.variations nodes) (children nodes n) k
      (contains_filter (is_child_of nodes n) (range_with_len 0 (length nodes)) k (onto_numbers (length nodes) k h.1) (is_itself (node_at nodes k).parent n step.child))
      step.is_in)
      (asked_where primary (is_first_child nodes k) step.first)

  of_option : (o : Option ℕ) (k : ℕ) → Contains (option_to_list o) k → o ≡ Some k
  of_option None k (i, h, e) = absurd (omega (arith, h))
  of_option (Some p) k on = ⊎_elim (λ none. absurd (omega (arith, none.1))) (λ is. ap Some is) (Contains-push_cases [] p k on)

  up_step : (n k : ℕ) → Contains (next_in tree true primary n) k → IsStepUp tree primary n k
  up_step n k on =
      let first = kept (λ p. not primary || is_first_child nodes n) (option_to_list (node_at nodes n).parent) k on in
      record { parent = of_option (node_at nodes n).parent k first.0; first = where_asked primary (is_first_child nodes n) first.1 }

  step_up : (n k : ℕ) → IsStepUp tree primary n k → Contains (next_in tree true primary n) k
  step_up n k step =
      contains_filter (λ p. not primary || is_first_child nodes n) (option_to_list (node_at nodes n).parent) k
      (subst (λ o. Contains (option_to_list o) k) (sym step.parent) (0, omega arith, refl))
      (asked_where primary (is_first_child nodes n) step.first)

  -- numbers rise on the way down, and fall on the way up
  few_down : (n : ℕ) (w : List ℕ) → n < length nodes → Along (IsStepDown tree primary) n w → n + length w < length nodes
  few_down n [] h goes = omega (arith, h)
  few_down n (k ∷ ms) h goes =
      let here = some_parent k n goes.0.child in
      let rest = few_down k ms here.1 goes.1 in
      omega (arith, here.0, rest)

  down_fits : (n : ℕ) (w : List ℕ) → Along (IsStepDown tree primary) n w → length w < length nodes
  down_fits n [] goes = omega (arith, is_tree.rooted)
  down_fits n (k ∷ ms) goes =
      let here = some_parent k n goes.0.child in
      let rest = few_down k ms here.1 goes.1 in
      omega (arith, here.0, rest)

  few_up : (n : ℕ) (w : List ℕ) → Along (IsStepUp tree primary) n w → length w ≤ n
  few_up n [] goes = omega arith
  few_up n (k ∷ ms) goes =
      let here = some_parent n k goes.0.parent in
      let rest = few_up k ms goes.1 in
      omega (arith, here.0, rest)

  up_fits : (n : ℕ) (w : List ℕ) → Along (IsStepUp tree primary) n w → length w < length nodes
  up_fits n [] goes = omega (arith, is_tree.rooted)
  up_fits n (k ∷ ms) goes =
      let here = some_parent n k goes.0.parent in
      let rest = few_up n (k ∷ ms) goes in
      omega (arith, here.1, rest)

  path_listed : (back : Bool) (n : ℕ) (w : List ℕ) → IsPath tree back primary n w → Contains (paths tree back primary n) w
  unfolding paths
  path_listed false n w path =
      subst (Contains (paths_within (length nodes) (next_in tree false primary) n)) (sym path.begins)
      (is_listed (next_in tree false primary) (length nodes) n path.later (down_fits n path.later path.goes)
      (along_weaker (IsStepDown tree primary) (λ m k. Contains (next_in tree false primary m) k) step_down n path.later path.goes))
  path_listed true n w path =
      subst (Contains (paths_within (length nodes) (next_in tree true primary) n)) (sym path.begins)
      (is_listed (next_in tree true primary) (length nodes) n path.later (up_fits n path.later path.goes)
      (along_weaker (IsStepUp tree primary) (λ m k. Contains (next_in tree true primary m) k) step_up n path.later path.goes))

  listed_path : (back : Bool) (n : ℕ) (w : List ℕ) → Contains (paths tree back primary n) w → IsPath tree back primary n w
  unfolding paths
  listed_path false n w on =
      let r = goes_on (next_in tree false primary) (length nodes) n w on in
      record { later = r.0; begins = r.1; goes = along_weaker (λ m k. Contains (next_in tree false primary m) k) (IsStepDown tree primary) down_step n r.0 r.2 }
  listed_path true n w on =
      let r = goes_on (next_in tree true primary) (length nodes) n w on in
      record { later = r.0; begins = r.1; goes = along_weaker (λ m k. Contains (next_in tree true primary m) k) (IsStepUp tree primary) up_step n r.0 r.2 }

pub paths_law : (tree : SearchedTree) → IsTree tree.game.nodes → (back primary : Bool) (n : ℕ) (w : List ℕ) → Contains (paths tree back primary n) w ↔ IsPath tree back primary n w
paths_law tree is_tree back primary n w = (listed_path tree is_tree primary back n w, path_listed tree is_tree primary back n w)
