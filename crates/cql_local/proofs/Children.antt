-- The children of a node, one by one.
use Rattle.std.proofs.Common.{◌≡◌, ℕ, Bool, true, false, ◌&&◌, ◌||◌, List, ◌∷◌, cond, Option, Some, refl, sym, ap, ◌∙◌}
use Rattle.std.specs.Prelude.{filter}
use Rattle.std.specs.List.{list_any}
use Rattle.cq_position.specs.Games.{Node, node_at, next_sibling, is_searched}
use Rattle.cql_values.proofs.Ways.{children_from, child_next}

any_kept : (p : ℕ → Bool) (b : Bool) (x : ℕ) (xs : List ℕ) → list_any p (cond b (x ∷ xs) xs) ≡ ((b && p x) || list_any p xs)
any_kept p true x xs = refl
any_kept p false x xs = refl

module _ (p : ℕ → Bool) (nodes : List Node) (variations : Bool) (n c : ℕ) (o : Option ℕ) (whole : Bool) (parent : (node_at nodes c).parent ≡ Some n) (next : o ≡ next_sibling nodes c) where
  one_more : list_any p (filter (is_searched variations nodes) (children_from nodes n (Some c)))
      ≡ ((is_searched variations nodes c && p c) || list_any p (filter (is_searched variations nodes) (children_from nodes n o)))
  one_more = ap (λ l. list_any p (filter (is_searched variations nodes) l)) (child_next nodes n c o parent next)
      ∙ any_kept p (is_searched variations nodes c) c (filter (is_searched variations nodes) (children_from nodes n o))

  -- the filter holds at a child that is searched
  pub child_found : (is_searched variations nodes c && p c) ≡ true → list_any p (filter (is_searched variations nodes) (children_from nodes n (Some c))) ≡ whole → true ≡ whole
  child_found is had = sym (ap (λ b. b || list_any p (filter (is_searched variations nodes) (children_from nodes n o))) is) ∙ sym one_more ∙ had

  -- the child isn't searched, or the filter doesn't hold there
  pub child_passed : (is_searched variations nodes c && p c) ≡ false → list_any p (filter (is_searched variations nodes) (children_from nodes n (Some c))) ≡ whole
      → list_any p (filter (is_searched variations nodes) (children_from nodes n o)) ≡ whole
  child_passed is had = sym (ap (λ b. b || list_any p (filter (is_searched variations nodes) (children_from nodes n o))) is) ∙ sym one_more ∙ had
