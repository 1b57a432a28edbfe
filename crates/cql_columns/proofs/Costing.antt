-- The costs of filters and of terms in a row, one by one.
use Rattle.std.proofs.Common.{◌≡◌, ℕ, zero, suc, ◌+◌, ◌-◌, ◌*◌, ◌<◌, ◌≤◌, List, [], ◌∷◌, length, drop, get_or, refl, ap, ap₂, sym, ◌∙◌, arith, subst, add-one}
use Rattle.cql_syntax.specs.TreeOf.{filter_tree, filter_trees, term_trees}
use Rattle.cql_syntax.specs.declared.tree.Filter.{Filter}
use Rattle.cql_syntax.specs.declared.tree.Term.{Term}
use Rattle.cql_syntax.specs.Trees.{FilterTrees, TermTrees}
use Rattle.cql_columns.specs.Costs.{filter_cost, filters_cost, terms_cost}

drop_more : {A : Type 0} (xs : List A) (i : ℕ) (d : A) → i < length xs → drop i xs ≡ get_or xs i d ∷ drop (suc i) xs
drop_more [] zero d h = absurd (omega (arith, h))
drop_more [] (suc i) d h = absurd (omega (arith, h))
drop_more (x ∷ xs) zero d h = refl
drop_more (x ∷ xs) (suc i) d h = drop_more xs i d (omega (arith, h))

-- an item of a list, and its place
pub record ItemOf {A : Type 0} (xs : List A) : Type 0 where
  pub index : ℕ
  pub item : A
  pub below : index < length xs
  pub is : item ≡ get_or xs index item

-- the rest of the costs of a list, each item of which has its own cost
module _ {A : Type 0} (all : List A → ℕ) (one : A → ℕ) (step : (x : A) (xs : List A) → all (x ∷ xs) ≡ one x + all xs) where
  next : (xs : List A) (i : ℕ) (x : A) → i < length xs → x ≡ get_or xs i x → all (drop i xs) ≡ one x + all (drop (i + 1) xs)
  next xs i x h is = ap all (drop_more xs i x h) ∙ step (get_or xs i x) (drop (suc i) xs) ∙ ap₂ (λ y j. one y + all (drop j xs)) (sym is) (sym (add-one i))

  pub more : (xs : List A) (i : ℕ) (x : A) (before now later : ℕ) → i < length xs → x ≡ get_or xs i x → now + all (drop i xs) ≤ before + all xs
      → later ≤ now + one x → later + all (drop (i + 1) xs) ≤ before + all xs
  more xs i x before now later h is had new = omega (arith, next xs i x h is, had, new)

  pub within : (xs : List A) (i : ℕ) (x : A) (before now later : ℕ) → i < length xs → x ≡ get_or xs i x → now + all (drop i xs) ≤ before + all xs → later ≤ now + one x → later ≤ before + all xs
  within xs i x before now later h is had new = omega (arith, next xs i x h is, had, new)

filters_step : (nodes : ℕ) (x : Filter) (xs : List Filter) → filters_cost nodes (filter_trees (x ∷ xs)) ≡ filter_cost nodes (filter_tree x) + filters_cost nodes (filter_trees xs)
unfolding filter_cost
filters_step nodes x xs = refl

terms_step : (nodes : ℕ) (x : Term) (xs : List Term) → terms_cost nodes (term_trees (x ∷ xs)) ≡ filter_cost nodes (filter_tree x.filter) + terms_cost nodes (term_trees xs)
unfolding filter_cost
terms_step nodes x xs = refl

pub cost_more : (nodes : ℕ) (xs : List Filter) (one : ItemOf xs) (before now later : ℕ)
    → now + filters_cost nodes (filter_trees (drop one.index xs)) ≤ before + filters_cost nodes (filter_trees xs) → later ≤ now + filter_cost nodes (filter_tree one.item)
    → later + filters_cost nodes (filter_trees (drop (one.index + 1) xs)) ≤ before + filters_cost nodes (filter_trees xs)
cost_more nodes xs one before now later had new =
    more (λ fs. filters_cost nodes (filter_trees fs)) (λ x. filter_cost nodes (filter_tree x)) (filters_step nodes) xs one.index one.item before now later one.below one.is had new

pub cost_within : (nodes : ℕ) (xs : List Filter) (one : ItemOf xs) (before now later : ℕ) (fs : FilterTrees)
    → now + filters_cost nodes (filter_trees (drop one.index xs)) ≤ before + filters_cost nodes (filter_trees xs) → later ≤ now + filter_cost nodes (filter_tree one.item) → filter_trees xs ≡ fs
    → later ≤ before + filters_cost nodes fs
cost_within nodes xs one before now later fs had new same = subst (λ t. later ≤ before + filters_cost nodes t) same
    (within (λ gs. filters_cost nodes (filter_trees gs)) (λ x. filter_cost nodes (filter_tree x)) (filters_step nodes) xs one.index one.item before now later one.below one.is had new)

pub terms_cost_more : (nodes : ℕ) (xs : List Term) (one : ItemOf xs) (before now later : ℕ)
    → now + terms_cost nodes (term_trees (drop one.index xs)) ≤ before + terms_cost nodes (term_trees xs) → later ≤ now + filter_cost nodes (filter_tree one.item.filter)
    → later + terms_cost nodes (term_trees (drop (one.index + 1) xs)) ≤ before + terms_cost nodes (term_trees xs)
terms_cost_more nodes xs one before now later had new =
    more (λ ts. terms_cost nodes (term_trees ts)) (λ x. filter_cost nodes (filter_tree x.filter)) (terms_step nodes) xs one.index one.item before now later one.below one.is had new

pub terms_cost_within : (nodes : ℕ) (xs : List Term) (one : ItemOf xs) (before now later : ℕ) (ts : TermTrees)
    → now + terms_cost nodes (term_trees (drop one.index xs)) ≤ before + terms_cost nodes (term_trees xs) → later ≤ now + filter_cost nodes (filter_tree one.item.filter) → term_trees xs ≡ ts
    → later ≤ before + terms_cost nodes ts
terms_cost_within nodes xs one before now later ts had new same = subst (λ u. later ≤ before + terms_cost nodes u) same
    (within (λ us. terms_cost nodes (term_trees us)) (λ x. filter_cost nodes (filter_tree x.filter)) (terms_step nodes) xs one.index one.item before now later one.below one.is had new)

pub square_cost : (c turn before now later : ℕ) → turn < 64 → now + (64 - turn) * c ≤ before + 64 * c → later ≤ now + c → later + (64 - (turn + 1)) * c ≤ before + 64 * c
square_cost c turn before now later h had new = omega (arith, split turn c h, had, new)
  where
    split : (t c : ℕ) → t < 64 → (64 - t) * c ≡ (64 - (t + 1)) * c + c
    split t c h = let e : 64 - t ≡ 64 - (t + 1) + 1 = omega (arith, h) in rw e (grind arith)
