-- The parts that all members of a family have, evaluated once before the rests.
use Rattle.std.proofs.Common.{◌≡◌, ℕ, ◌+◌, ◌<◌, ◌≤◌, Bool, true, false, ◌&&◌, ◌||◌, List, [], ◌∷◌, length, get_or, take, refl, sym, ap, ap₂, ◌∙◌, arith, subst, Option, None, Some}
use Rattle.std.specs.List.{list_all}
use Rattle.std.proofs.lemmas.List.{take_all}
use Rattle.cq_common.proofs.SpellingLaw.{left, right, both_true as both}
use Rattle.cq_position.specs.Search.{SearchedTree}
use Rattle.cql_syntax.specs.Meaning.{Names, value}
use Rattle.cql_syntax.specs.Occurrences.{TypingContext, part_of, occurrences, all_of}
use Rattle.cql_syntax.specs.TreeFaults.{past_four_sorts}
use Rattle.cql_syntax.specs.TreeOf.{filter_tree, filter_trees}
use Rattle.cql_syntax.specs.Trees.{FilterTree, filter_at, chain, any, FilterTrees, no_filters, more_filters, with_filter}
use Rattle.cql_syntax.specs.Unplaced.{same_unplaced}
use Rattle.cql_syntax.specs.Values.{as_truth, holds}
use Rattle.cql_syntax.specs.declared.leaves.Chain.TheVariants.{All}
use Rattle.cql_syntax.specs.declared.leaves.Kind.TheVariants.{Position}
use Rattle.cql_syntax.specs.declared.tree.Filter.{Filter}
use Rattle.cql_syntax.proofs.Lists.{filter_trees_more}
use Rattle.cql_syntax.proofs.UnplacedSame.{same_value}
use Rattle.cql_columns.specs.Costs.{filter_cost, filters_cost}
use Rattle.cql_plan.specs.Replacements.{is_sound, StandsFor, alone, has_like, is_member}
use Rattle.cql_plan.specs.Internal.CommonParts.{each_holds, one_holds, may_stand, AreCommon, AreDivided, AreLeft, IsRest, AreRests}
use Rattle.cql_plan.proofs.Gathered.{members_more, members_before, member_last, cost_more}
use Rattle.cql_plan.proofs.Sound.{all_first, all_second, all_both, own_kind, own_rules, own_sound, rules_same, sound_chain, members_from, kinds_of, sound_of}

-- truths

and_true : (a : Bool) → (a && true) ≡ a
and_true true = refl
and_true false = refl

last_and : (a : Bool) → (a && true) ≡ (true && a)
last_and true = refl
last_and false = refl

last_or : (a : Bool) → (a || false) ≡ (false || a)
last_or true = refl
last_or false = refl

and_assoc : (a b c : Bool) → ((a && b) && c) ≡ (a && (b && c))
and_assoc true b c = refl
and_assoc false b c = refl

or_assoc : (a b c : Bool) → ((a || b) || c) ≡ (a || (b || c))
or_assoc true b c = refl
or_assoc false b c = refl

and_swapped : (a b c : Bool) → ((a && b) && c) ≡ ((a && c) && b)
and_swapped true true c = sym (and_true c)
and_swapped true false true = refl
and_swapped true false false = refl
and_swapped false b c = refl

and_comm : (a b : Bool) → (a && b) ≡ (b && a)
and_comm true b = sym (and_true b)
and_comm false true = refl
and_comm false false = refl

-- one more at the end

module _ (tree : SearchedTree) (names : Names) (n : ℕ) where
  each_more : (fs : FilterTrees) (f : FilterTree) → each_holds tree names n (with_filter fs f) ≡ (each_holds tree names n fs && holds (value tree [] names f n))
  unfolding value
  each_more no_filters f = last_and (holds (value tree [] names f n))
  each_more (more_filters g gs) f =
      ap (λ b. holds (value tree [] names g n) && b) (each_more gs f)
      ∙ sym (and_assoc (holds (value tree [] names g n)) (each_holds tree names n gs) (holds (value tree [] names f n)))

  one_more : (fs : FilterTrees) (f : FilterTree) → one_holds tree names n (with_filter fs f) ≡ (one_holds tree names n fs || holds (value tree [] names f n))
  unfolding value
  one_more no_filters f = last_or (holds (value tree [] names f n))
  one_more (more_filters g gs) f =
      ap (λ b. holds (value tree [] names g n) || b) (one_more gs f)
      ∙ sym (or_assoc (holds (value tree [] names g n)) (one_holds tree names n gs) (holds (value tree [] names f n)))

module _ (s : TypingContext) where
  may_more : (fs : FilterTrees) (f : FilterTree) → may_stand s fs ≡ true → list_all is_sound (occurrences (part_of s Position) f) ≡ true → may_stand s (with_filter fs f) ≡ true
  unfolding occurrences
  may_more no_filters f a b = all_both is_sound (occurrences (part_of s Position) f) [] b refl
  may_more (more_filters g gs) f a b =
      let here = occurrences (part_of s Position) g in
      let rest = all_of (part_of s Position) gs in
      all_both is_sound here (all_of (part_of s Position) (with_filter gs f)) (all_first is_sound here rest a) (may_more gs f (all_second is_sound here rest a) b)

  may_before : (fs : FilterTrees) (f : FilterTree) → may_stand s (with_filter fs f) ≡ true → may_stand s fs ≡ true
  unfolding occurrences
  may_before no_filters f h = refl
  may_before (more_filters g gs) f h =
      let here = occurrences (part_of s Position) g in
      let rest = all_of (part_of s Position) (with_filter gs f) in
      all_both is_sound here (all_of (part_of s Position) gs) (all_first is_sound here rest h) (may_before gs f (all_second is_sound here rest h))

  may_last : (fs : FilterTrees) (f : FilterTree) → may_stand s (with_filter fs f) ≡ true → list_all is_sound (occurrences (part_of s Position) f) ≡ true
  unfolding occurrences
  may_last no_filters f h = all_first is_sound (occurrences (part_of s Position) f) [] h
  may_last (more_filters g gs) f h =
      may_last gs f (all_second is_sound (occurrences (part_of s Position) g) (all_of (part_of s Position) (with_filter gs f)) h)

-- the truth of filters that hold if one of the members does

both_follow : (m c h : Bool) → (m && c) ≡ m → (m && (h && true)) ≡ m → (m && (c && h)) ≡ m
both_follow true c h a b = both c h a (left h true b)
both_follow false c h a b = refl

pub common_none : (members : FilterTrees) → AreCommon members no_filters
unfolding value
common_none members = record { told = λ tree names n. and_true (one_holds tree names n members) }

pub common_more : (members common : FilterTrees) (f : FilterTree) → AreCommon members (alone f) → AreCommon members common → AreCommon members (with_filter common f)
unfolding value
common_more members common f one all = record {
  told = λ tree names n.
      ap (λ b. one_holds tree names n members && b) (each_more tree names n common f)
      ∙ both_follow (one_holds tree names n members) (each_holds tree names n common) (holds (value tree [] names f n))
      (all.told tree names n) (one.told tree names n);
}

pub common_begun : (common : FilterTrees) → AreCommon no_filters common
unfolding value
common_begun common = record { told = λ tree names n. refl }

either_follows : (a h c : Bool) → (a && c) ≡ a → ((h || false) && c) ≡ (h || false) → ((a || h) && c) ≡ (a || h)
either_follows true h c p q = p
either_follows false true c p q = q
either_follows false false c p q = refl

pub common_member : (members common : FilterTrees) (m : FilterTree) → AreCommon members common → AreCommon (alone m) common → AreCommon (with_filter members m) common
unfolding value
common_member members common m all one = record {
  told = λ tree names n.
      let more = one_more tree names n members m in
      ap (λ b. b && each_holds tree names n common) more
      ∙ either_follows (one_holds tree names n members) (holds (value tree [] names m n)) (each_holds tree names n common)
      (all.told tree names n) (one.told tree names n)
      ∙ sym more;
}

and_here : (a b c : Bool) → c ≡ a → ((a && b) && c) ≡ (a && b)
and_here true b c e = ap (λ x. b && x) e ∙ and_true b
and_here false b c e = refl

and_known : (a b c : Bool) → (b && c) ≡ b → ((a && b) && c) ≡ (a && b)
and_known true b c e = e
and_known false b c e = refl

module _ (tree : SearchedTree) (names : Names) (n : ℕ) (f : FilterTree) where
  like_by : (b : Bool) (g : FilterTree) (gs : FilterTrees) → same_unplaced g f ≡ b → (b || has_like gs f) ≡ true
      → (has_like gs f ≡ true → (each_holds tree names n gs && holds (value tree [] names f n)) ≡ each_holds tree names n gs)
      → (each_holds tree names n (more_filters g gs) && holds (value tree [] names f n)) ≡ each_holds tree names n (more_filters g gs)
  unfolding value
  like_by true g gs same known rest =
      and_here (holds (value tree [] names g n)) (each_holds tree names n gs) (holds (value tree [] names f n)) (ap holds (sym (same_value g f same tree [] names n)))
  like_by false g gs same known rest =
      and_known (holds (value tree [] names g n)) (each_holds tree names n gs) (holds (value tree [] names f n)) (rest known)

  like_follows : (fs : FilterTrees) → has_like fs f ≡ true → (each_holds tree names n fs && holds (value tree [] names f n)) ≡ each_holds tree names n fs
  like_follows no_filters known = cc
  like_follows (more_filters g gs) known = like_by (same_unplaced g f) g gs refl known (like_follows gs)

alone_follows : (a h : Bool) → (a && h) ≡ a → ((a || false) && (h && true)) ≡ (a || false)
alone_follows true h e = and_true h ∙ e
alone_follows false h e = refl

common_braces : (i : ℕ) (fs : FilterTrees) (f : FilterTree) → has_like fs f ≡ true → AreCommon (alone (filter_at i (chain All fs))) (alone f)
unfolding value
common_braces i fs f known = record {
  told = λ tree names n.
      alone_follows (each_holds tree names n fs) (holds (value tree [] names f n)) (like_follows tree names n f fs known);
}

pub common_like : (i : ℕ) (fs : FilterTrees) (m f : FilterTree) → m ≡ filter_at i (chain All fs) → has_like fs f ≡ true → AreCommon (alone m) (alone f)
common_like i fs m f is known = subst (λ g. AreCommon (alone g) (alone f)) (sym is) (common_braces i fs f known)

-- parts are divided

pub divided_none : AreDivided no_filters no_filters no_filters
unfolding value occurrences filter_cost
divided_none = record {
  told = λ tree names n. refl;
  common_sound = λ s h. refl;
  rest_sound = λ s h. refl;
  cost = λ searched. omega arith;
}

pub divided_common : (parts common rest : FilterTrees) (f : FilterTree) → AreDivided parts common rest → AreDivided (with_filter parts f) (with_filter common f) rest
divided_common parts common rest f had = record {
  told = λ tree names n.
      let h = holds (value tree [] names f n) in
      each_more tree names n parts f ∙ ap (λ b. b && h) (had.told tree names n)
      ∙ and_swapped (each_holds tree names n common) (each_holds tree names n rest) h
      ∙ ap (λ b. b && each_holds tree names n rest) (sym (each_more tree names n common f));
  common_sound = λ s h. may_more s common f (had.common_sound s (may_before s parts f h)) (may_last s parts f h);
  rest_sound = λ s h. had.rest_sound s (may_before s parts f h);
  cost = λ searched. omega (arith, had.cost searched, cost_more searched parts f, cost_more searched common f);
}

pub divided_rest : (parts common rest : FilterTrees) (f : FilterTree) → AreDivided parts common rest → AreDivided (with_filter parts f) common (with_filter rest f)
divided_rest parts common rest f had = record {
  told = λ tree names n.
      let h = holds (value tree [] names f n) in
      each_more tree names n parts f ∙ ap (λ b. b && h) (had.told tree names n)
      ∙ and_assoc (each_holds tree names n common) (each_holds tree names n rest) h
      ∙ ap (λ b. each_holds tree names n common && b) (sym (each_more tree names n rest f));
  common_sound = λ s h. had.common_sound s (may_before s parts f h);
  rest_sound = λ s h. may_more s rest f (had.rest_sound s (may_before s parts f h)) (may_last s parts f h);
  cost = λ searched. omega (arith, had.cost searched, cost_more searched parts f, cost_more searched rest f);
}

-- the parts that are left

pub left_none : (common : FilterTrees) → AreLeft common no_filters no_filters
left_none common = record {
  told = λ tree names n. refl;
  sound = λ s h. h;
  cost = λ searched. omega arith;
}

out_same : (c p h r : Bool) → (c && h) ≡ c → (c && p) ≡ (c && r) → (c && (p && h)) ≡ (c && r)
out_same true p h r e q = ap (λ b. p && b) e ∙ and_true p ∙ q
out_same false p h r e q = refl

kept_same : (c p h r : Bool) → (c && p) ≡ (c && r) → (c && (p && h)) ≡ (c && (r && h))
kept_same true p h r q = ap (λ b. b && h) q
kept_same false p h r q = refl

pub left_out : (common parts rest : FilterTrees) (f : FilterTree) → has_like common f ≡ true → AreLeft common parts rest → AreLeft common (with_filter parts f) rest
left_out common parts rest f known had = record {
  told = λ tree names n.
      let c = each_holds tree names n common in
      let h = holds (value tree [] names f n) in
      ap (λ b. c && b) (each_more tree names n parts f)
      ∙ out_same c (each_holds tree names n parts) h (each_holds tree names n rest) (like_follows tree names n f common known) (had.told tree names n);
  sound = λ s h. had.sound s (may_before s parts f h);
  cost = λ searched. omega (arith, had.cost searched, cost_more searched parts f);
}

pub left_kept : (common parts rest : FilterTrees) (f : FilterTree) → AreLeft common parts rest → AreLeft common (with_filter parts f) (with_filter rest f)
left_kept common parts rest f had = record {
  told = λ tree names n.
      let c = each_holds tree names n common in
      let h = holds (value tree [] names f n) in
      ap (λ b. c && b) (each_more tree names n parts f)
      ∙ kept_same c (each_holds tree names n parts) h (each_holds tree names n rest) (had.told tree names n)
      ∙ ap (λ b. c && b) (sym (each_more tree names n rest f));
  sound = λ s h. may_more s rest f (had.sound s (may_before s parts f h)) (may_last s parts f h);
  cost = λ searched. omega (arith, had.cost searched, cost_more searched parts f, cost_more searched rest f);
}

-- the rest of a member

member_rest : (s : TypingContext) (i j : ℕ) (parts rest : FilterTrees) → (may_stand s parts ≡ true → may_stand s rest ≡ true)
    → is_member Position s (filter_at i (chain All parts)) ≡ true → is_member Position s (filter_at j (chain All rest)) ≡ true
unfolding occurrences
member_rest s i j parts rest inside h =
    let at : TypingContext = part_of s Position in
    let own = is_sound (record { standing = at; at = i; form = chain All parts }) in
    let sound = right true (own && may_stand s parts) h in
    both (is_sound (record { standing = at; at = j; form = chain All rest })) (may_stand s rest)
    (sound_chain at i All parts rest (left own (may_stand s parts) sound)) (inside (right own (may_stand s parts) sound))

rest_same : (i : ℕ) (common parts rest : FilterTrees) → AreLeft common parts rest → IsRest common (filter_at i (chain All parts)) (filter_at i (chain All rest))
unfolding value filter_cost
rest_same i common parts rest had = record {
  told = had.told;
  member = λ s h. member_rest s i i parts rest (had.sound s) h;
  cost = had.cost;
}

pub rest_braces : (i : ℕ) (common parts rest : FilterTrees) (f g : FilterTree) → f ≡ filter_at i (chain All parts) → g ≡ filter_at i (chain All rest)
    → AreLeft common parts rest → IsRest common f g
rest_braces i common parts rest f g is made had =
    subst (λ h. IsRest common h g) (sym is) (subst (IsRest common (filter_at i (chain All parts))) (sym made) (rest_same i common parts rest had))

rest_own : (common : FilterTrees) (f : FilterTree) → IsRest common f f
rest_own common f = record {
  told = λ tree names n. refl;
  member = λ s h. h;
  cost = λ searched. omega arith;
}

pub rest_itself : (common : FilterTrees) (f g : FilterTree) → g ≡ f → IsRest common f g
rest_itself common f g is = subst (IsRest common f) (sym is) (rest_own common f)

-- the rests of members

first_same : (c p r : Bool) → p ≡ (c && r) → (c && (p || false)) ≡ (c && (r || false))
first_same true p r e = ap (λ b. b || false) e
first_same false p r e = refl

pub rests_first : (i j : ℕ) (common parts rest : FilterTrees) → AreDivided parts common rest
    → AreRests common (alone (filter_at i (chain All parts))) (alone (filter_at j (chain All rest)))
unfolding value occurrences filter_cost
rests_first i j common parts rest had = record {
  told = λ tree names n. first_same (each_holds tree names n common) (each_holds tree names n parts) (each_holds tree names n rest) (had.told tree names n);
  rests_sound = λ s h.
      both (is_member Position s (filter_at j (chain All rest))) true
      (member_rest s i j parts rest (had.rest_sound s) (left (is_member Position s (filter_at i (chain All parts))) true h)) refl;
  common_sound = λ s h.
      let own = is_sound (record { standing = part_of s Position; at = i; form = chain All parts }) in
      had.common_sound s (right own (may_stand s parts) (right true (own && may_stand s parts) (left (is_member Position s (filter_at i (chain All parts))) true h)));
  cost = λ searched. omega (arith, had.cost searched);
}

either_same : (c a b h k : Bool) → (c && a) ≡ (c && b) → (c && h) ≡ (c && k) → (c && (a || h)) ≡ (c && (b || k))
either_same true a b h k p q = ap₂ (λ x y. x || y) p q
either_same false a b h k p q = refl

pub rests_more : (common members rests : FilterTrees) (f g : FilterTree) → AreRests common members rests → IsRest common f g
    → AreRests common (with_filter members f) (with_filter rests g)
rests_more common members rests f g all one = record {
  told = λ tree names n.
      let c = each_holds tree names n common in
      ap (λ b. c && b) (one_more tree names n members f)
      ∙ either_same c (one_holds tree names n members) (one_holds tree names n rests) (holds (value tree [] names f n)) (holds (value tree [] names g n))
      (all.told tree names n) (one.told tree names n)
      ∙ ap (λ b. c && b) (sym (one_more tree names n rests g));
  rests_sound = λ s h.
      members_more Position s rests g (all.rests_sound s (members_before Position s members f h)) (one.member s (member_last Position s members f h));
  common_sound = λ s h. all.common_sound s (members_before Position s members f h);
  cost = λ searched. omega (arith, all.cost searched, one.cost searched, cost_more searched members f, cost_more searched rests g);
}

-- the whole

past_braces : (item : Option ℕ) (fs gs : FilterTrees) → past_four_sorts item (chain All gs) ≡ past_four_sorts item (any Position fs)
past_braces None fs gs = refl
past_braces (Some k) fs gs = refl

whole_told : (c m r : Bool) → (m && c) ≡ m → (c && m) ≡ (c && r) → (c && r) ≡ m
whole_told c m r a b = sym b ∙ and_comm c m ∙ a

pub lifted_stands : (i : ℕ) (members common rests : FilterTrees) → AreCommon members common → AreRests common members rests
    → StandsFor (filter_at i (any Position members)) (filter_at i (chain All (with_filter common (filter_at i (any Position rests)))))
unfolding value filter_cost occurrences
lifted_stands i members common rests all had = record {
  value = λ tree names n.
      ap as_truth (each_more tree names n common (filter_at i (any Position rests))
      ∙ whole_told (each_holds tree names n common) (one_holds tree names n members) (one_holds tree names n rests) (all.told tree names n) (had.told tree names n));
  keys = λ tree found. refl;
  kind = refl;
  sorts = λ before. refl;
  sound = λ s h.
      let at : TypingContext = part_of s Position in
      let asked = filter_at i (any Position rests) in
      let whole = with_filter common asked in
      let head = is_sound (record { standing = s; at = i; form = any Position members }) in
      let own = left head (list_all is_sound (all_of at members)) h in
      let known = members_from Position s members (own_kind (record { standing = s; at = i; form = any Position members }) own)
      (right head (list_all is_sound (all_of at members)) h) in
      let rest = had.rests_sound s known in
      let inside = both (is_sound (record { standing = at; at = i; form = any Position rests })) (list_all is_sound (all_of at rests))
      (own_sound (record { standing = at; at = i; form = any Position rests }) refl (kinds_of Position s rests rest) refl) (sound_of Position s rests rest) in
      both (is_sound (record { standing = s; at = i; form = chain All whole })) (may_stand s whole)
      (own_sound (record { standing = s; at = i; form = chain All whole }) refl refl
      (rules_same s i (any Position members) (chain All whole) refl refl (past_braces s.item members whole) refl refl refl
      ∙ own_rules (record { standing = s; at = i; form = any Position members }) own))
      (may_more s common asked (had.common_sound s known) inside);
  cost = λ searched.
      let more : filters_cost searched (with_filter common (filter_at i (any Position rests))) ≡ filters_cost searched common + filters_cost searched rests =
      cost_more searched common (filter_at i (any Position rests)) in
      omega (arith, had.cost searched, more);
}

pub stands_after : (f g h : FilterTree) → StandsFor f g → StandsFor g h → StandsFor f h
stands_after f g h first then = record {
  value = λ tree names n. then.value tree names n ∙ first.value tree names n;
  keys = λ tree found. then.keys tree found ∙ first.keys tree found;
  kind = then.kind ∙ first.kind;
  sorts = λ before. then.sorts before ∙ first.sorts before;
  sound = λ s sound. then.sound s (first.sound s sound);
  cost = λ searched. omega (arith, then.cost searched, first.cost searched);
}

-- by what filters are

pub common_begun_by : (members common : FilterTrees) → common ≡ no_filters → AreCommon members common
common_begun_by members common is = subst (AreCommon members) (sym is) (common_none members)

pub divided_begun : (common rest : FilterTrees) → common ≡ no_filters → rest ≡ no_filters → AreDivided no_filters common rest
divided_begun common rest none no_rest =
    subst (λ fs. AreDivided no_filters fs rest) (sym none) (subst (AreDivided no_filters no_filters) (sym no_rest) divided_none)

pub divided_common_by : (common rest more : FilterTrees) (f : FilterTree) → more ≡ with_filter common f → (parts : FilterTrees) → AreDivided parts common rest
    → AreDivided (with_filter parts f) more rest
divided_common_by common rest more f is parts had = subst (λ fs. AreDivided (with_filter parts f) fs rest) (sym is) (divided_common parts common rest f had)

pub divided_rest_by : (common rest more : FilterTrees) (f : FilterTree) → more ≡ with_filter rest f → (parts : FilterTrees) → AreDivided parts common rest
    → AreDivided (with_filter parts f) common more
divided_rest_by common rest more f is parts had = subst (AreDivided (with_filter parts f) common) (sym is) (divided_rest parts common rest f had)

pub common_more_by : (members common more : FilterTrees) (f : FilterTree) → more ≡ with_filter common f → AreCommon members (alone f) → AreCommon members common
    → AreCommon members more
common_more_by members common more f is one all = subst (AreCommon members) (sym is) (common_more members common f one all)

pub left_begun : (common rest : FilterTrees) → rest ≡ no_filters → AreLeft common no_filters rest
left_begun common rest is = subst (AreLeft common no_filters) (sym is) (left_none common)

pub left_kept_by : (common rest more : FilterTrees) (f : FilterTree) → more ≡ with_filter rest f → (parts : FilterTrees) → AreLeft common parts rest
    → AreLeft common (with_filter parts f) more
left_kept_by common rest more f is parts had = subst (AreLeft common (with_filter parts f)) (sym is) (left_kept common parts rest f had)

pub lifted_by : (i : ℕ) (members common rests whole : FilterTrees) → whole ≡ with_filter common (filter_at i (any Position rests)) → AreCommon members common
    → AreRests common members rests → StandsFor (filter_at i (any Position members)) (filter_at i (chain All whole))
lifted_by i members common rests whole is all had =
    subst (λ fs. StandsFor (filter_at i (any Position members)) (filter_at i (chain All fs))) (sym is) (lifted_stands i members common rests all had)

-- in a loop

pub common_step : (xs : List Filter) (i : ℕ) (x : Filter) (common : FilterTrees) → i < length xs → x ≡ get_or xs i x → AreCommon (filter_trees (take i xs)) common
    → AreCommon (alone (filter_tree x)) common → AreCommon (filter_trees (take (i + 1) xs)) common
common_step xs i x common low is all one =
    subst (λ fs. AreCommon fs common) (sym (filter_trees_more xs i x low is)) (common_member (filter_trees (take i xs)) common (filter_tree x) all one)

pub common_end : (xs : List Filter) (i : ℕ) (fs common : FilterTrees) → length xs ≤ i → filter_trees xs ≡ fs → AreCommon (filter_trees (take i xs)) common → AreCommon fs common
common_end xs i fs common high is all = subst (λ gs. AreCommon gs common) (ap filter_trees (take_all i xs high) ∙ is) all

pub divided_step : (xs : List Filter) (i : ℕ) (x : Filter) (common rest : FilterTrees) → i < length xs → x ≡ get_or xs i x
    → AreDivided (with_filter (filter_trees (take i xs)) (filter_tree x)) common rest → AreDivided (filter_trees (take (i + 1) xs)) common rest
divided_step xs i x common rest low is had = subst (λ fs. AreDivided fs common rest) (sym (filter_trees_more xs i x low is)) had

pub divided_end : (xs : List Filter) (i : ℕ) (fs common rest : FilterTrees) → length xs ≤ i → filter_trees xs ≡ fs → AreDivided (filter_trees (take i xs)) common rest → AreDivided fs common rest
divided_end xs i fs common rest high is had = subst (λ gs. AreDivided gs common rest) (ap filter_trees (take_all i xs high) ∙ is) had

pub left_step : (xs : List Filter) (i : ℕ) (x : Filter) (common rest : FilterTrees) → i < length xs → x ≡ get_or xs i x
    → AreLeft common (with_filter (filter_trees (take i xs)) (filter_tree x)) rest → AreLeft common (filter_trees (take (i + 1) xs)) rest
left_step xs i x common rest low is had = subst (λ fs. AreLeft common fs rest) (sym (filter_trees_more xs i x low is)) had

pub left_end : (xs : List Filter) (i : ℕ) (fs common rest : FilterTrees) → length xs ≤ i → filter_trees xs ≡ fs → AreLeft common (filter_trees (take i xs)) rest → AreLeft common fs rest
left_end xs i fs common rest high is had = subst (λ gs. AreLeft common gs rest) (ap filter_trees (take_all i xs high) ∙ is) had

pub rests_step : (xs : List Filter) (i : ℕ) (x : Filter) (common some after : FilterTrees) (g : FilterTree) → i < length xs → x ≡ get_or xs i x
    → AreRests common (filter_trees (take i xs)) some → IsRest common (filter_tree x) g → after ≡ with_filter some g → AreRests common (filter_trees (take (i + 1) xs)) after
rests_step xs i x common some after g low is all one more =
    subst (λ fs. AreRests common fs after) (sym (filter_trees_more xs i x low is))
    (subst (AreRests common (with_filter (filter_trees (take i xs)) (filter_tree x))) (sym more) (rests_more common (filter_trees (take i xs)) some (filter_tree x) g all one))

pub rests_init : (xs : List Filter) (all : List Filter) (common some : FilterTrees) (f : FilterTree) → xs ≡ all → some ≡ alone f
    → AreRests common (filter_trees (take 1 all)) (alone f) → AreRests common (filter_trees (take 1 xs)) some
rests_init xs all common some f same is had =
    subst (λ ys. AreRests common (filter_trees (take 1 ys)) some) (sym same) (subst (AreRests common (filter_trees (take 1 all))) (sym is) had)

pub rests_end : (xs : List Filter) (i : ℕ) (fs common rests : FilterTrees) → length xs ≤ i → filter_trees xs ≡ fs → AreRests common (filter_trees (take i xs)) rests
    → AreRests common fs rests
rests_end xs i fs common rests high is all = subst (λ gs. AreRests common gs rests) (ap filter_trees (take_all i xs high) ∙ is) all

pub first_alone : (xs : List Filter) (x : Filter) → 0 < length xs → x ≡ get_or xs 0 x → filter_trees (take 1 xs) ≡ alone (filter_tree x)
first_alone [] x low is = absurd (omega (arith, low))
first_alone (y ∷ ys) x low is = ap (λ z. alone (filter_tree z)) (sym is)

pub rests_begun : (xs : List Filter) (x : Filter) (i j : ℕ) (common parts rest : FilterTrees) → 0 < length xs → x ≡ get_or xs 0 x
    → filter_tree x ≡ filter_at i (chain All parts) → AreDivided parts common rest → AreRests common (filter_trees (take 1 xs)) (alone (filter_at j (chain All rest)))
rests_begun xs x i j common parts rest low at is had =
    let first = first_alone xs x low at ∙ ap alone is in
    subst (λ fs. AreRests common fs (alone (filter_at j (chain All rest)))) (sym first) (rests_first i j common parts rest had)
