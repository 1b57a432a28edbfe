-- The values of a part at the live nodes.
use Rattle.std.proofs.Common.{◌≡◌, ℕ, zero, suc, ◌+◌, ◌<◌, ◌≤◌, Bool, true, false, ◌&&◌, List, [], ◌∷◌, length, get_or, Option, None, Some, ℤ, refl, sym, ap, ◌∙◌, cond, subst, arith}
use Rattle.std.specs.Prelude.{is_some, count_by, if◌then◌else◌}
use Rattle.std.specs.List.{list_any, filter, range_with_len}
use Rattle.std.proofs.lemmas.List.Sums.{sum_by-cons}
use Rattle.cq_position.specs.Games.{Game, is_searched, searched}
use Rattle.cq_position.specs.Search.{SearchedTree, nodes_in}
use Rattle.cql_columns.specs.Columns.{is_live, IsNodeSet}
use Rattle.cql_columns.specs.Costs.{filter_cost, filters_cost, searched_len}
use Rattle.cql_candidates.specs.Classes.{filter_class}
use Rattle.cql_eval.specs.Hits.{AreKeysAtHits}
use Rattle.cql_syntax.specs.Hits.{is_hit}
use Rattle.cql_syntax.specs.Meaning.{value}
use Rattle.cql_syntax.specs.TreeOf.{filters_tree}
use Rattle.cql_syntax.specs.Trees.{FilterTree, filter_at, FormTree, sort, FilterTrees, no_filters, more_filters}
use Rattle.cql_syntax.specs.Values.{holds}
use Rattle.cql_values.specs.Trees.{searched_tree}
use Rattle.cq_shared.specs.Matching.{tree_for, holds_at, part_holds, part_cost, sort_number, ArePartTruths, IsRowAt}
use Rattle.cq_shared.specs.Parts.{first_of, is_single}
use Rattle.cql_plan.specs.Replacements.{alone}
use Rattle.cq_shared.specs.Singles.{shown}
use Rattle.cq_shared.specs.declared.part.Part.{Part}
use Rattle.cq_shared.proofs.Keyed.{SortForm, form_sorts, sort_has}

-- live nodes

none_live : (live : List Bool) (n : ℕ) → list_any (λ b. b) live ≡ false → is_live live n ≡ true → ⊥
none_live [] zero none there = cc
none_live [] (suc n) none there = cc
none_live (true ∷ xs) n none there = cc
none_live (false ∷ xs) zero none there = cc
none_live (false ∷ xs) (suc n) none there = none_live xs n none there

-- a part as the only item

pub cost_alone : (nodes : ℕ) (fs : FilterTrees) → is_single fs ≡ true → filters_cost nodes fs ≡ filter_cost nodes (first_of fs)
unfolding filter_cost
cost_alone nodes no_filters e = cc
cost_alone nodes (more_filters f no_filters) e = omega arith
cost_alone nodes (more_filters f (more_filters g fs)) e = cc

count_within : (t : ℕ → Bool) (live : List Bool) (k : ℕ) → ((n : ℕ) → is_live live n ≡ true → t (k + n) ≡ true)
    → count_by (λ b. b) live ≤ length (filter t (range_with_len k (length live)))
count_within t [] k all = omega arith
count_within t (b ∷ bs) k all = by b (t k) (λ e. ap t (let z : k ≡ k + 0 = omega arith in z) ∙ all 0 e)
    (count_within t bs (k + 1) (λ n there. ap t (let e : k + 1 + n ≡ k + suc n = omega arith in e) ∙ all (suc n) there))
  where
    by : (b c : Bool) → (b ≡ true → c ≡ true) → count_by (λ b. b) bs ≤ length (filter t (range_with_len (k + 1) (length bs)))
        → count_by (λ b. b) (b ∷ bs) ≤ length (cond c (k ∷ filter t (range_with_len (k + 1) (length bs))) (filter t (range_with_len (k + 1) (length bs))))
    by true true implied rest = let e = sum_by-cons (λ b. cond b 1 0) true bs in omega (arith, rest, e)
    by true false implied rest = let e = implied refl in cc
    by false true implied rest = let e = sum_by-cons (λ b. cond b 1 0) false bs in omega (arith, rest, e)
    by false false implied rest = let e = sum_by-cons (λ b. cond b 1 0) false bs in omega (arith, rest, e)

-- the live nodes are no more than those that are searched
count_asked : (tree : SearchedTree) (live : List Bool) → IsNodeSet tree live → count_by (λ b. b) live ≤ length (nodes_in tree)
unfolding searched
count_asked tree live asked =
    subst (λ len. count_by (λ b. b) live ≤ length (filter (is_searched tree.variations tree.game.nodes) (range_with_len 0 len))) asked.count
    (count_within (is_searched tree.variations tree.game.nodes) live 0
    (λ n there. ap (is_searched tree.variations tree.game.nodes) (let e : 0 + n ≡ n = omega arith in e) ∙ asked.searched n there))

pub cost_is : (game : Game) (p : Part) (live : List Bool) (before now : ℕ) → IsNodeSet (tree_for game p) live
    → now ≤ before + count_by (λ b. b) live + filters_cost (searched_len (tree_for game p)) (filters_tree p.single.query.items)
    → is_single (filters_tree p.single.query.items) ≡ true → now ≤ before + part_cost game (shown p.single)
unfolding part_cost
cost_is game p live before now asked cost one =
    omega (arith, cost, count_asked (tree_for game p) live asked, cost_alone (searched_len (tree_for game p)) (filters_tree p.single.query.items) one)

hit_alone : (tree : SearchedTree) (fs : FilterTrees) (n : ℕ) → is_single fs ≡ true → is_hit tree fs n ≡ holds (value tree [] [] (first_of fs) n)
unfolding value
hit_alone tree no_filters n e = cc
hit_alone tree (more_filters f no_filters) n e = and_true (holds (value tree [] [] f n))
  where
    and_true : (b : Bool) → (b && true) ≡ b
    and_true true = refl
    and_true false = refl
hit_alone tree (more_filters f (more_filters g fs)) n e = cc

-- a live node is a hit if the part holds
hit_there : (game : Game) (p : Part) (live hits : List Bool) (n : ℕ) → is_single (filters_tree p.single.query.items) ≡ true
    → ((k : ℕ) → get_or hits k false ≡ (is_live live k && is_hit (tree_for game p) (filters_tree p.single.query.items) k))
    → is_live live n ≡ true → get_or hits n false ≡ part_holds game p n
unfolding holds_at
hit_there game p live hits n one are there =
    are n ∙ ap (λ b. b && is_hit (tree_for game p) (filters_tree p.single.query.items) n) there ∙ hit_alone (tree_for game p) (filters_tree p.single.query.items) n one

pub told_by : (game : Game) (p : Part) (live hits truths : List Bool) → is_single (filters_tree p.single.query.items) ≡ true
    → ((k : ℕ) → get_or hits k false ≡ (is_live live k && is_hit (tree_for game p) (filters_tree p.single.query.items) k)) → truths ≡ hits → ArePartTruths game p live truths
told_by game p live hits truths one are same = record { each = λ n there. ap (λ l. get_or l n false) same ∙ hit_there game p live hits n one are there }

pub told_none : (game : Game) (p : Part) (live truths : List Bool) → list_any (λ b. b) live ≡ false → ArePartTruths game p live truths
told_none game p live truths none = record { each = λ n there. absurd (none_live live n none there) }

pub row_none : (game : Game) (p : Part) (live : List Bool) (row : List (Option ℤ)) → list_any (λ b. b) live ≡ false → IsRowAt game p live row
row_none game p live row none = record { each = λ n there. absurd (none_live live n none there) }

-- the same by the form in which the part is evaluated

pub cost_joined : (game : Game) (p : Part) (live : List Bool) (before now : ℕ) → IsNodeSet (tree_for game p) live
    → now ≤ before + count_by (λ b. b) live + filters_cost (searched_len (searched_tree game p.single.joined.variations)) (filters_tree p.single.joined.items)
    → now ≤ before + part_cost game (shown p.single)
cost_joined game p live before now asked cost =
    let there = ap (λ v. filters_cost (searched_len (searched_tree game v)) (filters_tree p.single.joined.items)) p.single.searched in
    cost_is game p live before now asked (omega (arith, cost, there, p.single.same.cost (searched_len (tree_for game p)))) p.single.one

pub told_joined : (game : Game) (p : Part) (live hits truths : List Bool)
    → ((k : ℕ) → get_or hits k false ≡ (is_live live k && is_hit (searched_tree game p.single.joined.variations) (filters_tree p.single.joined.items) k))
    → truths ≡ hits → ArePartTruths game p live truths
told_joined game p live hits truths are same =
    told_by game p live hits truths p.single.one
    (λ k. are k ∙ ap (λ v. is_live live k && is_hit (searched_tree game v) (filters_tree p.single.joined.items) k) p.single.searched
    ∙ ap (λ b. is_live live k && b) (p.single.same.here (tree_for game p) k)) same

pub asked_joined : (game : Game) (p : Part) (live : List Bool) → IsNodeSet (tree_for game p) live → IsNodeSet (searched_tree game p.single.joined.variations) live
asked_joined game p live asked = subst (λ v. IsNodeSet (searched_tree game v) live) (sym p.single.searched) asked

-- the row of a sort item as the only item

pub record OneRow (tree : SearchedTree) (hits : List Bool) (keys : List (List (Option ℤ))) (f : FilterTree) : Type 0 where
  pub some : 0 < length keys
  pub count : length (get_or keys 0 []) ≡ length tree.game.nodes
  pub numbers : (n : ℕ) → get_or hits n false ≡ true → get_or (get_or keys 0 []) n None ≡ sort_number tree f n

form_row : (tree : SearchedTree) (at : ℕ) (f : FormTree) (hits : List Bool) (keys : List (List (Option ℤ))) → SortForm f → AreKeysAtHits tree (alone (filter_at at f)) hits keys
    → OneRow tree hits keys (filter_at at f)
unfolding sort_number
form_row tree at f hits keys s are = subst (λ g. OneRow tree hits keys (filter_at at g)) (sym s.is) (by keys (subst (λ g. AreKeysAtHits tree (alone (filter_at at g)) hits keys) s.is are))
  where
    by : (keys : List (List (Option ℤ))) → AreKeysAtHits tree (alone (filter_at at (sort s.least s.title s.part))) hits keys
        → OneRow tree hits keys (filter_at at (sort s.least s.title s.part))
    by [] had = let e = had.rows in cc
    by (r ∷ []) had = record {
      some = omega arith;
      count = ap (λ l. get_or l 0 0) had.rows;
      numbers = λ n there. ap (λ l. get_or l 0 None) (had.numbers n there);
    }
    by (r ∷ k ∷ rest) had = let e = had.rows in cc

pub one_row : (tree : SearchedTree) (fs : FilterTrees) (hits : List Bool) (keys : List (List (Option ℤ))) → is_single fs ≡ true → filter_class (first_of fs) ≡ 5
    → AreKeysAtHits tree fs hits keys → OneRow tree hits keys (first_of fs)
one_row tree no_filters hits keys one e are = cc
one_row tree (more_filters (filter_at at f) no_filters) hits keys one e are = form_row tree at f hits keys (form_sorts f e) are
one_row tree (more_filters f (more_filters g fs)) hits keys one e are = cc

none_if : {A : Type 0} (o : Option A) → is_some o ≡ false → None ≡ o
none_if None e = refl
none_if (Some x) e = cc

pub row_by : (game : Game) (p : Part) (live hits : List Bool) (keys : List (List (Option ℤ))) (row : List (Option ℤ))
    → is_single (filters_tree p.single.query.items) ≡ true → p.class ≡ 5 → p.class ≡ filter_class (first_of (filters_tree p.single.query.items))
    → ((k : ℕ) → get_or hits k false ≡ (is_live live k && is_hit (tree_for game p) (filters_tree p.single.query.items) k))
    → AreKeysAtHits (tree_for game p) (filters_tree p.single.query.items) hits keys
    → ((n : ℕ) → get_or row n None ≡ (if get_or hits n false then get_or (get_or keys 0 []) n None else None)) → IsRowAt game p live row
unfolding holds_at
row_by game p live hits keys row one class class_is is are given = record {
  each = λ n there. given n ∙ by n there (get_or hits n false) refl;
}
  where
    tree : SearchedTree
    tree = tree_for game p

    f : FilterTree
    f = first_of (filters_tree p.single.query.items)

    sorts : filter_class f ≡ 5
    sorts = sym class_is ∙ class

    has : (n : ℕ) → is_live live n ≡ true → get_or hits n false ≡ is_some (sort_number tree f n)
    has n there = hit_there game p live hits n one is there ∙ sort_has tree f n sorts

    by : (n : ℕ) → is_live live n ≡ true → (b : Bool) → get_or hits n false ≡ b → (if b then get_or (get_or keys 0 []) n None else None) ≡ sort_number tree f n
    by n there true e = (one_row tree (filters_tree p.single.query.items) hits keys one sorts are).numbers n e
    by n there false e = none_if (sort_number tree f n) (sym (has n there) ∙ e)
