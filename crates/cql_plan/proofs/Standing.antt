-- A filter is a replacement of another one if its parts are.
use Rattle.std.proofs.Common.{◌≡◌, ℕ, ◌+◌, ◌<◌, ◌≤◌, Bool, true, false, ◌&&◌, List, [], ◌∷◌, ◌++◌, length, get_or, take, refl, sym, ap, ap₂, ◌∙◌, arith, subst}
use Rattle.std.specs.Prelude.{nat_lt}
use Rattle.std.specs.List.{list_all, list_any}
use Rattle.std.proofs.Math.Path.{fun_ext}
use Rattle.std.proofs.lemmas.Bool.{ltb-true}
use Rattle.std.proofs.lemmas.List.{take_all}
use Rattle.cq_common.proofs.SpellingLaw.{left, right, both_true as both}
use Rattle.cq_position.specs.Search.{SearchedTree}
use Rattle.cql_syntax.specs.Contexts.{unary_image}
use Rattle.cql_syntax.specs.Hits.{all_keys}
use Rattle.cql_syntax.specs.Kinds.{chain_kind}
use Rattle.cql_syntax.specs.Meaning.{Names, value, values, unary_of}
use Rattle.cql_syntax.specs.Occurrences.{TypingContext, top_item, part_of, occurrences, all_of, of_items, sorts_with}
use Rattle.cql_syntax.specs.TreeOf.{filter_tree, filter_trees}
use Rattle.cql_syntax.specs.Trees.{FilterTree, filter_at, unary, chain, any, FilterTrees, no_filters, more_filters, with_filter}
use Rattle.cql_syntax.specs.Values.{Value, as_truth, as_squares, holds, has, chain_of, any_of}
use Rattle.cql_syntax.specs.OperandKinds.{unary_operand_kind}
use Rattle.cql_syntax.specs.declared.leaves.Chain.{Chain}
use Rattle.cql_syntax.specs.declared.leaves.Kind.{Kind}
use Rattle.cql_syntax.specs.declared.leaves.Kind.TheVariants.{Position, Set, Number}
use Rattle.cql_syntax.specs.declared.leaves.Unary.{Unary}
use Rattle.cql_syntax.specs.declared.tree.Filter.{Filter}
use Rattle.cql_syntax.proofs.Lists.{filter_trees_more}
use Rattle.cql_columns.specs.Costs.{filter_cost, filters_cost}
use Rattle.cql_plan.specs.Replacements.{is_sound, StandsFor, AllStandFor, tells, Gathers, HaveSameHits}
use Rattle.cql_plan.proofs.Sound.{all_first, all_second, all_both, own_kind, sound_unary, sound_chain, sound_any, members_from, kinds_of, sound_of}

pub stands_itself : (f : FilterTree) → StandsFor f f
stands_itself f = record {
  value = λ tree names n. refl;
  keys = λ tree found. refl;
  kind = refl;
  sorts = λ before. refl;
  sound = λ s h. h;
  cost = λ searched. omega arith;
}

pub stands_copied : (f g : FilterTree) → g ≡ f → StandsFor f g
stands_copied f g is = subst (λ h. StandsFor f h) (sym is) (stands_itself f)

pub stands_unary : (i : ℕ) (u : Unary) (f g : FilterTree) → StandsFor f g → StandsFor (filter_at i (unary u f)) (filter_at i (unary u g))
unfolding value filter_cost occurrences
stands_unary i u f g part = record {
  value = λ tree names n. ap (λ v. unary_of tree (unary_image [] u) v n) (fun_ext (part.value tree names));
  keys = λ tree found. refl;
  kind = refl;
  sorts = λ before. refl;
  sound = λ s h.
      let own = is_sound (record { standing = s; at = i; form = unary u f }) in
      let inside = list_all is_sound (occurrences (part_of s (unary_operand_kind u)) f) in
      both (is_sound (record { standing = s; at = i; form = unary u g })) (list_all is_sound (occurrences (part_of s (unary_operand_kind u)) g))
      (sound_unary s i u f g (left own inside h)) (part.sound (part_of s (unary_operand_kind u)) (right own inside h));
  cost = part.cost;
}

-- all of some filters

pub all_none : AllStandFor no_filters no_filters
all_none = tt

pub all_more : (fs gs : FilterTrees) (f g : FilterTree) → AllStandFor fs gs → StandsFor f g → AllStandFor (with_filter fs f) (with_filter gs g)
all_more no_filters no_filters f g all one = (one, all)
all_more (more_filters h hs) (more_filters k ks) f g all one = (all.0, all_more hs ks f g all.1 one)
all_more no_filters (more_filters k ks) f g all one = absurd all
all_more (more_filters h hs) no_filters f g all one = absurd all

pub all_values : (fs gs : FilterTrees) → AllStandFor fs gs → (tree : SearchedTree) (names : Names) (n : ℕ) → values tree [] names gs n ≡ values tree [] names fs n
unfolding value
all_values no_filters no_filters all tree names n = refl
all_values (more_filters f fs) (more_filters g gs) all tree names n = ap₂ (λ v vs. v ∷ vs) (all.0.value tree names n) (all_values fs gs all.1 tree names n)
all_values no_filters (more_filters k ks) all tree names n = absurd all
all_values (more_filters h hs) no_filters all tree names n = absurd all

all_keys_same : (fs gs : FilterTrees) → AllStandFor fs gs → (tree : SearchedTree) (found : List ℕ) → all_keys tree found gs ≡ all_keys tree found fs
all_keys_same no_filters no_filters all tree found = refl
all_keys_same (more_filters f fs) (more_filters g gs) all tree found = ap₂ (λ v vs. v ++ vs) (all.0.keys tree found) (all_keys_same fs gs all.1 tree found)
all_keys_same no_filters (more_filters k ks) all tree found = absurd all
all_keys_same (more_filters h hs) no_filters all tree found = absurd all

all_costs : (fs gs : FilterTrees) → AllStandFor fs gs → (searched : ℕ) → filters_cost searched gs ≤ filters_cost searched fs
unfolding filter_cost
all_costs no_filters no_filters all searched = omega arith
all_costs (more_filters f fs) (more_filters g gs) all searched = omega (arith, all.0.cost searched, all_costs fs gs all.1 searched)
all_costs no_filters (more_filters k ks) all searched = absurd all
all_costs (more_filters h hs) no_filters all searched = absurd all

all_stand : (fs gs : FilterTrees) → AllStandFor fs gs → (s : TypingContext) → list_all is_sound (all_of s fs) ≡ true → list_all is_sound (all_of s gs) ≡ true
unfolding occurrences
all_stand no_filters no_filters all s h = refl
all_stand (more_filters f fs) (more_filters g gs) all s h =
    all_both is_sound (occurrences s g) (all_of s gs) (all.0.sound s (all_first is_sound (occurrences s f) (all_of s fs) h))
    (all_stand fs gs all.1 s (all_second is_sound (occurrences s f) (all_of s fs) h))
all_stand no_filters (more_filters k ks) all s h = absurd all
all_stand (more_filters h hs) no_filters all s e = absurd all

pub items_stand : (fs gs : FilterTrees) → AllStandFor fs gs → (before : ℕ) → list_all is_sound (of_items before fs) ≡ true → list_all is_sound (of_items before gs) ≡ true
unfolding of_items
items_stand no_filters no_filters all before h = refl
items_stand (more_filters f fs) (more_filters g gs) all before h =
    let here = occurrences (top_item before) f in
    let rest = of_items (sorts_with before f) fs in
    all_both is_sound (occurrences (top_item before) g) (of_items (sorts_with before g) gs)
    (all.0.sound (top_item before) (all_first is_sound here rest h))
    (ap (λ k. list_all is_sound (of_items k gs)) (all.0.sorts before) ∙ items_stand fs gs all.1 (sorts_with before f) (all_second is_sound here rest h))
items_stand no_filters (more_filters k ks) all before h = absurd all
items_stand (more_filters h hs) no_filters all before e = absurd all

pub stands_chain : (i : ℕ) (c : Chain) (fs gs : FilterTrees) → AllStandFor fs gs → StandsFor (filter_at i (chain c fs)) (filter_at i (chain c gs))
unfolding value filter_cost occurrences
stands_chain i c fs gs all = record {
  value = λ tree names n. ap (chain_of c) (all_values fs gs all tree names n);
  keys = λ tree found. refl;
  kind = refl;
  sorts = λ before. refl;
  sound = λ s h.
      let own = is_sound (record { standing = s; at = i; form = chain c fs }) in
      let inside = list_all is_sound (all_of (part_of s (chain_kind c)) fs) in
      both (is_sound (record { standing = s; at = i; form = chain c gs })) (list_all is_sound (all_of (part_of s (chain_kind c)) gs))
      (sound_chain s i c fs gs (left own inside h))
      (all_stand fs gs all (part_of s (chain_kind c)) (right own inside h));
  cost = all_costs fs gs all;
}

pub same_hits : (fs gs : FilterTrees) → AllStandFor fs gs → HaveSameHits fs gs
same_hits fs gs all = record {
  here = λ tree n. ap (list_all holds) (all_values fs gs all tree [] n);
  keys = all_keys_same fs gs all;
  cost = all_costs fs gs all;
}

-- a whole by its members

cut_same : (b : Bool) (p q : Bool) → (b ≡ true → p ≡ q) → (b && p) ≡ (b && q)
cut_same true p q is = is refl
cut_same false p q is = refl

whole_same : (kind : Kind) (vs ws : List Value) → (kind ≡ Number → ⊥) → ((s : ℕ) → s < 64 → list_any (tells kind s) ws ≡ list_any (tells kind s) vs) → any_of kind ws ≡ any_of kind vs
whole_same Position vs ws other told = ap as_truth (told 0 (omega arith))
whole_same Set vs ws other told =
    ap as_squares (fun_ext (λ s. cut_same (nat_lt s 64) (list_any (λ x. has x s) ws) (list_any (λ x. has x s) vs) (λ low. told s (ltb-true s 64 low))))
whole_same Number vs ws other told = absurd (other refl)

pub stands_any : (i : ℕ) (kind : Kind) (fs gs : FilterTrees) → (kind ≡ Number → ⊥) → Gathers kind no_filters gs fs
    → StandsFor (filter_at i (any kind fs)) (filter_at i (any kind gs))
unfolding value filter_cost occurrences
stands_any i kind fs gs other had = record {
  value = λ tree names n. whole_same kind (values tree [] names fs n) (values tree [] names gs n) other (λ s low. had.told tree names n s low);
  keys = λ tree found. refl;
  kind = refl;
  sorts = λ before. refl;
  sound = λ s h.
      let at : TypingContext = part_of s kind in
      let head = is_sound (record { standing = s; at = i; form = any kind fs }) in
      let inside = list_all is_sound (all_of at fs) in
      let own = left head inside h in
      let kinds = own_kind (record { standing = s; at = i; form = any kind fs }) own in
      let members = had.members s refl (members_from kind s fs kinds (right head inside h)) in
      both (is_sound (record { standing = s; at = i; form = any kind gs })) (list_all is_sound (all_of at gs))
      (sound_any s i kind fs gs (kinds_of kind s gs members) own) (sound_of kind s gs members);
  cost = λ searched. omega (arith, had.cost searched);
}

-- in a loop

pub all_begun : (fs : FilterTrees) → fs ≡ no_filters → AllStandFor no_filters fs
all_begun fs is = subst (AllStandFor no_filters) (sym is) all_none

pub all_step : (xs : List Filter) (i : ℕ) (x : Filter) (made after : FilterTrees) (g : FilterTree) → i < length xs → x ≡ get_or xs i x
    → AllStandFor (filter_trees (take i xs)) made → StandsFor (filter_tree x) g → after ≡ with_filter made g → AllStandFor (filter_trees (take (i + 1) xs)) after
all_step xs i x made after g low is had one more =
    subst (λ fs. AllStandFor fs after) (sym (filter_trees_more xs i x low is))
    (subst (AllStandFor (with_filter (filter_trees (take i xs)) (filter_tree x))) (sym more) (all_more (filter_trees (take i xs)) made (filter_tree x) g had one))

pub all_end : (xs : List Filter) (i : ℕ) (fs made : FilterTrees) → length xs ≤ i → filter_trees xs ≡ fs → AllStandFor (filter_trees (take i xs)) made → AllStandFor fs made
all_end xs i fs made high is had = subst (λ gs. AllStandFor gs made) (ap filter_trees (take_all i xs high) ∙ is) had

-- by what filters are

pub unary_stands : (f g : FilterTree) (i : ℕ) (u : Unary) (a b : FilterTree) → f ≡ filter_at i (unary u a) → g ≡ filter_at i (unary u b) → StandsFor a b → StandsFor f g
unary_stands f g i u a b is made part =
    subst (λ h. StandsFor h g) (sym is) (subst (StandsFor (filter_at i (unary u a))) (sym made) (stands_unary i u a b part))

pub chain_stands : (f g : FilterTree) (i : ℕ) (c : Chain) (fs gs : FilterTrees) → f ≡ filter_at i (chain c fs) → g ≡ filter_at i (chain c gs)
    → AllStandFor fs gs → StandsFor f g
chain_stands f g i c fs gs is made all =
    subst (λ h. StandsFor h g) (sym is) (subst (StandsFor (filter_at i (chain c fs))) (sym made) (stands_chain i c fs gs all))

pub any_stands : (f g : FilterTree) (i : ℕ) (kind : Kind) (fs gs : FilterTrees) → f ≡ filter_at i (any kind fs) → g ≡ filter_at i (any kind gs)
    → (kind ≡ Number → ⊥) → Gathers kind no_filters gs fs → StandsFor f g
any_stands f g i kind fs gs is made other had =
    subst (λ h. StandsFor h g) (sym is) (subst (StandsFor (filter_at i (any kind fs))) (sym made) (stands_any i kind fs gs other had))

pub no_number : Position ≡ Number → ⊥
no_number e = cc

pub set_no_number : Set ≡ Number → ⊥
set_no_number e = cc
