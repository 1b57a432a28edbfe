-- The members of a family, added one by one.
use Rattle.std.proofs.Common.{◌≡◌, ℕ, zero, suc, ◌+◌, ◌<◌, ◌≤◌, Bool, true, false, ◌&&◌, ◌||◌, List, [], ◌∷◌, length, get_or, take, refl, sym, ap, ◌∙◌, arith, subst}
use Rattle.std.specs.Prelude.{nat_lt}
use Rattle.std.specs.List.{list_all, list_any}
use Rattle.std.proofs.lemmas.Bool.{lt-ltb}
use Rattle.std.proofs.lemmas.List.{take_all}
use Rattle.cq_common.proofs.SpellingLaw.{left, right, both_true as both}
use Rattle.cq_position.specs.Search.{SearchedTree}
use Rattle.cql_syntax.specs.Kinds.{filter_kind}
use Rattle.cql_syntax.specs.Leaves.{same_kind}
use Rattle.cql_syntax.specs.Meaning.{Names, value, values}
use Rattle.cql_syntax.specs.Occurrences.{TypingContext, part_of, occurrences, all_of}
use Rattle.cql_syntax.specs.TreeOf.{filter_tree, filter_trees}
use Rattle.cql_syntax.specs.Trees.{FilterTree, filter_at, any, FilterTrees, no_filters, more_filters, with_filter}
use Rattle.cql_syntax.specs.Unplaced.{same_unplaced}
use Rattle.cql_syntax.specs.Values.{Value, has, any_of}
use Rattle.cql_syntax.specs.declared.leaves.Kind.{Kind}
use Rattle.cql_syntax.specs.declared.leaves.Kind.TheVariants.{Position, Set, Number}
use Rattle.cql_syntax.specs.declared.tree.Filter.{Filter}
use Rattle.cql_syntax.proofs.Lists.{filter_trees_more}
use Rattle.cql_syntax.proofs.UnplacedSame.{same_value}
use Rattle.cql_columns.specs.Costs.{filter_cost, filters_cost}
use Rattle.cql_plan.specs.Replacements.{is_sound, StandsFor, alone, has_like, tells, some_tells, is_member, are_members, Gathers}
use Rattle.cql_plan.proofs.Sound.{own_kind, members_from}

or_assoc : (a b c : Bool) → ((a || b) || (c || false)) ≡ (a || (b || c))
or_assoc true b c = refl
or_assoc false true c = refl
or_assoc false false true = refl
or_assoc false false false = refl

or_none : (a : Bool) → (a || false) ≡ a
or_none true = refl
or_none false = refl

or_both : (a b : Bool) → (a || (b || false)) ≡ (a || b)
or_both true b = refl
or_both false true = refl
or_both false false = refl

-- one more at the end

module _ (kind : Kind) (s : ℕ) (tree : SearchedTree) (names : Names) (n : ℕ) where
  tells_more : (fs : FilterTrees) (f : FilterTree) → some_tells kind s tree names n (with_filter fs f) ≡ (some_tells kind s tree names n fs || tells kind s (value tree [] names f n))
  unfolding value
  tells_more no_filters f = or_none (tells kind s (value tree [] names f n))
  tells_more (more_filters g gs) f =
      ap (λ b. tells kind s (value tree [] names g n) || b) (tells_more gs f)
      ∙ sym (or_joined (tells kind s (value tree [] names g n)) (some_tells kind s tree names n gs) (tells kind s (value tree [] names f n)))
    where
      or_joined : (a b c : Bool) → ((a || b) || c) ≡ (a || (b || c))
      or_joined true b c = refl
      or_joined false b c = refl

pub members_more : (kind : Kind) (s : TypingContext) (fs : FilterTrees) (f : FilterTree) → are_members kind s fs ≡ true → is_member kind s f ≡ true → are_members kind s (with_filter fs f) ≡ true
members_more kind s no_filters f a b = both (is_member kind s f) true b refl
members_more kind s (more_filters g gs) f a b =
    both (is_member kind s g) (are_members kind s (with_filter gs f)) (left _ _ a) (members_more kind s gs f (right (is_member kind s g) (are_members kind s gs) a) b)

pub members_before : (kind : Kind) (s : TypingContext) (fs : FilterTrees) (f : FilterTree) → are_members kind s (with_filter fs f) ≡ true → are_members kind s fs ≡ true
members_before kind s no_filters f h = refl
members_before kind s (more_filters g gs) f h =
    both (is_member kind s g) (are_members kind s gs) (left _ _ h) (members_before kind s gs f (right (is_member kind s g) (are_members kind s (with_filter gs f)) h))

pub member_last : (kind : Kind) (s : TypingContext) (fs : FilterTrees) (f : FilterTree) → are_members kind s (with_filter fs f) ≡ true → is_member kind s f ≡ true
member_last kind s no_filters f h = left (is_member kind s f) true h
member_last kind s (more_filters g gs) f h = member_last kind s gs f (right (is_member kind s g) (are_members kind s (with_filter gs f)) h)

pub cost_more : (searched : ℕ) (fs : FilterTrees) (f : FilterTree) → filters_cost searched (with_filter fs f) ≡ filters_cost searched fs + filter_cost searched f
unfolding filter_cost
cost_more searched no_filters f = omega arith
cost_more searched (more_filters g gs) f = omega (arith, cost_more searched gs f)

-- nothing is added, then one filter after the other

pub gathered_none : (kind : Kind) (members : FilterTrees) → Gathers kind members members no_filters
unfolding value filter_cost
gathered_none kind members = record {
  told = λ tree names n s low. sym (or_none (some_tells kind s tree names n members));
  members = λ s before none. before;
  cost = λ searched. omega arith;
}

pub gathered_more : (kind : Kind) (before some after fs : FilterTrees) (f : FilterTree) → Gathers kind before some fs → Gathers kind some after (alone f)
    → Gathers kind before after (with_filter fs f)
unfolding value filter_cost
gathered_more kind before some after fs f first then = record {
  told = λ tree names n s low.
      let b = some_tells kind s tree names n before in
      let t = some_tells kind s tree names n fs in
      let one = tells kind s (value tree [] names f n) in
      then.told tree names n s low ∙ ap (λ x. x || (one || false)) (first.told tree names n s low) ∙ or_assoc b t one
      ∙ ap (λ x. b || x) (sym (tells_more kind s tree names n fs f));
  members = λ s known all.
      then.members s (first.members s known (members_before kind s fs f all)) (both (is_member kind s f) true (member_last kind s fs f all) refl);
  cost = λ searched. omega (arith, then.cost searched, first.cost searched, cost_more searched fs f);
}

-- a filter that has members itself

inside_members : (kind : Kind) (s : TypingContext) (i : ℕ) (fs : FilterTrees) → is_member kind s (filter_at i (any kind fs)) ≡ true → are_members kind s fs ≡ true
unfolding occurrences
inside_members kind s i fs h =
    let at : TypingContext = part_of s kind in
    let own = is_sound (record { standing = at; at = i; form = any kind fs }) in
    let sound = right (same_kind kind kind) (own && list_all is_sound (all_of at fs)) h in
    members_from kind s fs (own_kind (record { standing = at; at = i; form = any kind fs }) (left own (list_all is_sound (all_of at fs)) sound))
    (right own (list_all is_sound (all_of at fs)) sound)

below : (s : ℕ) → s < 64 → nat_lt s 64 ≡ true
below s low = lt-ltb s 64 low

-- the members decide the truth of the whole
pub whole_tells : (kind : Kind) (s : ℕ) (vs : List Value) → s < 64 → (kind ≡ Number → ⊥) → tells kind s (any_of kind vs) ≡ list_any (tells kind s) vs
whole_tells Position s vs low other = refl
whole_tells Set s vs low other = ap (λ b. b && list_any (λ x. has x s) vs) (below s low)
whole_tells Number s vs low other = absurd (other refl)

pub gathered_inside : (kind : Kind) (i : ℕ) (before after fs : FilterTrees) → (kind ≡ Number → ⊥) → Gathers kind before after fs
    → Gathers kind before after (alone (filter_at i (any kind fs)))
unfolding value filter_cost occurrences
gathered_inside kind i before after fs other had = record {
  told = λ tree names n s low.
      had.told tree names n s low
      ∙ ap (λ x. some_tells kind s tree names n before || x)
      (sym (or_none (tells kind s (any_of kind (values tree [] names fs n))) ∙ whole_tells kind s (values tree [] names fs n) low other));
  members = λ s known all. had.members s known (inside_members kind s i fs (left (is_member kind s (filter_at i (any kind fs))) true all));
  cost = λ searched. omega (arith, had.cost searched);
}

-- a replacement of one filter

member_instead : (kind : Kind) (s : TypingContext) (f g : FilterTree) → StandsFor f g → is_member kind s f ≡ true → is_member kind s g ≡ true
member_instead kind s f g stands h =
    both (same_kind (filter_kind g) kind) (list_all is_sound (occurrences (part_of s kind) g))
    (ap (λ k. same_kind k kind) stands.kind ∙ left _ _ h)
    (stands.sound (part_of s kind) (right (same_kind (filter_kind f) kind) (list_all is_sound (occurrences (part_of s kind) f)) h))

pub gathered_instead : (kind : Kind) (before after : FilterTrees) (f g : FilterTree) → StandsFor f g → Gathers kind before after (alone g)
    → Gathers kind before after (alone f)
unfolding value filter_cost
gathered_instead kind before after f g stands had = record {
  told = λ tree names n s low.
      had.told tree names n s low ∙ ap (λ v. some_tells kind s tree names n before || (tells kind s v || false)) (stands.value tree names n);
  members = λ s known all.
      had.members s known (both (is_member kind s g) true (member_instead kind s f g stands (left (is_member kind s f) true all)) refl);
  cost = λ searched. omega (arith, had.cost searched, stands.cost searched);
}

-- a filter that is new, and one that is known

pub gathered_new : (kind : Kind) (before : FilterTrees) (f : FilterTree) → Gathers kind before (with_filter before f) (alone f)
unfolding value filter_cost
gathered_new kind before f = record {
  told = λ tree names n s low.
      tells_more kind s tree names n before f ∙ ap (λ x. some_tells kind s tree names n before || x) (sym (or_none (tells kind s (value tree [] names f n))));
  members = λ s known all. members_more kind s before f known (left (is_member kind s f) true all);
  cost = λ searched. omega (arith, cost_more searched before f);
}

or_known : (a b c : Bool) → (b || c) ≡ b → ((a || b) || c) ≡ (a || b)
or_known true b c e = refl
or_known false b c e = e

or_here : (a b c : Bool) → c ≡ a → ((a || b) || c) ≡ (a || b)
or_here true b c e = refl
or_here false true c e = refl
or_here false false c e = e

module _ (kind : Kind) (s : ℕ) (tree : SearchedTree) (names : Names) (n : ℕ) (f : FilterTree) where
  known_by : (b : Bool) (g : FilterTree) (gs : FilterTrees) → same_unplaced g f ≡ b → (b || has_like gs f) ≡ true
      → (has_like gs f ≡ true → (some_tells kind s tree names n gs || tells kind s (value tree [] names f n)) ≡ some_tells kind s tree names n gs)
      → (some_tells kind s tree names n (more_filters g gs) || tells kind s (value tree [] names f n)) ≡ some_tells kind s tree names n (more_filters g gs)
  unfolding value
  known_by true g gs same known rest =
      or_here (tells kind s (value tree [] names g n)) (some_tells kind s tree names n gs) (tells kind s (value tree [] names f n))
      (ap (tells kind s) (sym (same_value g f same tree [] names n)))
  known_by false g gs same known rest =
      or_known (tells kind s (value tree [] names g n)) (some_tells kind s tree names n gs) (tells kind s (value tree [] names f n)) (rest known)

  tells_known : (fs : FilterTrees) → has_like fs f ≡ true → (some_tells kind s tree names n fs || tells kind s (value tree [] names f n)) ≡ some_tells kind s tree names n fs
  tells_known no_filters known = cc
  tells_known (more_filters g gs) known = known_by (same_unplaced g f) g gs refl known (tells_known gs)

pub gathered_known : (kind : Kind) (before : FilterTrees) (f : FilterTree) → has_like before f ≡ true → Gathers kind before before (alone f)
unfolding value filter_cost
gathered_known kind before f known = record {
  told = λ tree names n s low.
      sym (or_both (some_tells kind s tree names n before) (tells kind s (value tree [] names f n)) ∙ tells_known kind s tree names n f before known);
  members = λ s sound all. sound;
  cost = λ searched. omega arith;
}

pub like_at : (xs : List Filter) (i : ℕ) (d : Filter) (f : FilterTree) → i < length xs → same_unplaced (filter_tree (get_or xs i d)) f ≡ true
    → has_like (filter_trees xs) f ≡ true
like_at [] i d f low same = absurd (omega (arith, low))
like_at (x ∷ xs) zero d f low same = ap (λ b. b || has_like (filter_trees xs) f) same
like_at (x ∷ xs) (suc i) d f low same = ap (λ b. same_unplaced (filter_tree x) f || b) (like_at xs i d f (omega (arith, low)) same) ∙ or_true (same_unplaced (filter_tree x) f)
  where
    or_true : (b : Bool) → (b || true) ≡ true
    or_true true = refl
    or_true false = refl

pub like_in : (xs : List Filter) (i : ℕ) (x : Filter) (fs : FilterTrees) (f : FilterTree) → i < length xs → x ≡ get_or xs i x → filter_trees xs ≡ fs
    → same_unplaced (filter_tree x) f ≡ true → has_like fs f ≡ true
like_in xs i x fs f low is all same =
    ap (λ gs. has_like gs f) (sym all) ∙ like_at xs i x f low (ap (λ y. same_unplaced (filter_tree y) f) (sym is) ∙ same)

-- in a loop

pub gathered_step : (kind : Kind) (xs : List Filter) (i : ℕ) (x : Filter) (before some after : FilterTrees) → i < length xs → x ≡ get_or xs i x
    → Gathers kind before some (filter_trees (take i xs)) → Gathers kind some after (alone (filter_tree x)) → Gathers kind before after (filter_trees (take (i + 1) xs))
gathered_step kind xs i x before some after low is had one =
    subst (Gathers kind before after) (sym (filter_trees_more xs i x low is)) (gathered_more kind before some after (filter_trees (take i xs)) (filter_tree x) had one)

pub gathered_end : (kind : Kind) (xs : List Filter) (i : ℕ) (fs before after : FilterTrees) → length xs ≤ i → filter_trees xs ≡ fs
    → Gathers kind before after (filter_trees (take i xs)) → Gathers kind before after fs
gathered_end kind xs i fs before after high is had = subst (Gathers kind before after) (ap filter_trees (take_all i xs high) ∙ is) had

pub gathered_pushed : (kind : Kind) (before after : FilterTrees) (f : FilterTree) → after ≡ with_filter before f → Gathers kind before after (alone f)
gathered_pushed kind before after f more = subst (λ fs. Gathers kind before fs (alone f)) (sym more) (gathered_new kind before f)

pub inside_gathered : (kind : Kind) (i : ℕ) (f : FilterTree) (before after fs : FilterTrees) → f ≡ filter_at i (any kind fs) → (kind ≡ Number → ⊥)
    → Gathers kind before after fs → Gathers kind before after (alone f)
inside_gathered kind i f before after fs is other had =
    subst (λ h. Gathers kind before after (alone h)) (sym is) (gathered_inside kind i before after fs other had)
