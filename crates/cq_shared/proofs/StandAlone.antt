-- The parts of a flat query can be its only item.
use Rattle.std.proofs.Common.{◌≡◌, ℕ, Bool, true, false, ◌&&◌, ◌||◌, not, List, [], ◌∷◌, ◌++◌, Option, None, Some, refl, ap, ap₂, ◌∙◌}
use Rattle.std.specs.List.{list_all, list_any}
use Rattle.cql_syntax.specs.FlatItems.{has_family, kinds_agree, break_no_rule, has_its_kind, breaks_none, is_empty}
use Rattle.cql_syntax.specs.Occurrences.{TypingContext, Occurrence, occurrences, inner, all_of, of_items, sorts_with, top_item}
use Rattle.cql_syntax.specs.TreeFaults.{broken_rules, wrong_kind, below_top, past_four_sorts, unbound_name, brace_in_comment, is_long_line, is_fifth_square, is_family}
use Rattle.cql_syntax.specs.Kinds.{form_kind}
use Rattle.cql_syntax.specs.Trees.{FilterTree, filter_at, FormTree, chain, sort, comment, FilterTrees, no_filters, more_filters}
use Rattle.cql_syntax.specs.declared.leaves.Chain.TheVariants.{And, All}
use Rattle.cql_syntax.specs.declared.leaves.Kind.TheVariants.{Position}
use Rattle.cql_syntax.specs.declared.fault.QueryReason.{QueryReason}
use Rattle.cql_plan.specs.Replacements.{is_sound, alone}
use Rattle.cql_plan.proofs.Sound.{own_kind, own_rules}
use Rattle.cq_shared.specs.StandaloneFilters.{stands_alone}
use Rattle.cq_shared.specs.Parts.{parts_of, form_parts, all_parts, item_parts, item_sorts, top_parts, top_sorts, query_parts}

first : (a b : Bool) → (a && b) ≡ true → a ≡ true
first true b e = refl
first false b e = cc

second : (a b : Bool) → (a && b) ≡ true → b ≡ true
second true b e = e
second false b e = cc

both : (a b : Bool) → a ≡ true → b ≡ true → (a && b) ≡ true
both true b e f = f
both false b e f = cc

module _ {X : Type 0} (h : X → Bool) where
  and_both : (xs ys : List X) → list_all h xs ≡ true → list_all h ys ≡ true → list_all h (xs ++ ys) ≡ true
  and_both [] ys e f = f
  and_both (x ∷ xs) ys e f = both (h x) (list_all h (xs ++ ys)) (first (h x) (list_all h xs) e) (and_both xs ys (second (h x) (list_all h xs) e) f)

  and_first : (xs ys : List X) → list_all h (xs ++ ys) ≡ true → list_all h xs ≡ true
  and_first [] ys e = refl
  and_first (x ∷ xs) ys e = both (h x) (list_all h xs) (first (h x) (list_all h (xs ++ ys)) e) (and_first xs ys (second (h x) (list_all h (xs ++ ys)) e))

  and_second : (xs ys : List X) → list_all h (xs ++ ys) ≡ true → list_all h ys ≡ true
  and_second [] ys e = e
  and_second (x ∷ xs) ys e = and_second xs ys (second (h x) (list_all h (xs ++ ys)) e)

-- the place of a filter at the top of a query, and in a part of it

abbrev standing : Option ℕ → TypingContext
standing item = record { wanted = Position; names = []; squares = 0; item = item }

below_none : (f : FormTree) → below_top (Some 0) f ≡ []
below_none (sort least text f) = refl
below_none (comment text) = refl
below_none f = refl

past_none : (f : FormTree) → past_four_sorts (Some 0) f ≡ []
past_none (sort least text f) = refl
past_none f = refl

inner_same : (i j : Option ℕ) (f : FormTree) → inner (standing i) f ≡ inner (standing j) f
unfolding occurrences
inner_same i j (comment text) = refl
inner_same i j f = refl

empty_first : {X : Type 0} (xs ys : List X) → is_empty (xs ++ ys) ≡ true → is_empty xs ≡ true
empty_first [] ys e = refl
empty_first (x ∷ xs) ys e = e

empty_second : {X : Type 0} (xs ys : List X) → is_empty (xs ++ ys) ≡ true → is_empty ys ≡ true
empty_second [] ys e = e
empty_second (x ∷ xs) ys e = cc

empty_both : {X : Type 0} (xs ys : List X) → is_empty xs ≡ true → is_empty ys ≡ true → is_empty (xs ++ ys) ≡ true
empty_both [] ys e f = f
empty_both (x ∷ xs) ys e f = e

-- a filter that breaks no rule at the top, or in a part of that, breaks none as the first item
rules_same : (i : Option ℕ) (at : ℕ) (f : FormTree) → is_empty (broken_rules (record { standing = standing i; at = at; form = f })) ≡ true
    → is_empty (broken_rules (record { standing = standing (Some 0); at = at; form = f })) ≡ true
rules_same i at f e =
    let kind : List QueryReason = wrong_kind Position (form_kind f) in
    let below : List QueryReason = below_top i f in
    let past : List QueryReason = past_four_sorts i f in
    let names : List QueryReason = unbound_name [] f in
    let brace : List QueryReason = brace_in_comment f in
    let rest : is_empty (names ++ brace) ≡ true =
    empty_second past (names ++ brace) (empty_second below (past ++ (names ++ brace)) (empty_second kind (below ++ (past ++ (names ++ brace))) e)) in
    empty_both kind (below_top (Some 0) f ++ (past_four_sorts (Some 0) f ++ (names ++ brace))) (empty_first kind (below ++ (past ++ (names ++ brace))) e)
    (ap₂ (λ a b. is_empty (a ++ (b ++ (names ++ brace)))) (below_none f) (past_none f) ∙ rest)

sound_same : (i : Option ℕ) (at : ℕ) (f : FormTree) → is_sound (record { standing = standing i; at = at; form = f }) ≡ true
    → is_sound (record { standing = standing (Some 0); at = at; form = f }) ≡ true
sound_same i at f e =
    let o : Occurrence = record { standing = standing i; at = at; form = f } in
    let family : Bool = not (is_family f) in
    let kind : Bool = has_its_kind f in
    let long : Bool = not (is_long_line f) in
    let fifth : Bool = not (is_fifth_square 0 f) in
    let none : breaks_none o ≡ true = second (family && kind) (breaks_none o) e in
    let rules : is_empty (broken_rules o) ≡ true = first (is_empty (broken_rules o)) long (first (is_empty (broken_rules o) && long) fifth none) in
    let now : Bool = is_empty (broken_rules (record { standing = standing (Some 0); at = at; form = f })) in
    both (family && kind) ((now && long) && fifth) (first (family && kind) (breaks_none o) e)
    (both (now && long) fifth
    (both now long (rules_same i at f rules) (second (is_empty (broken_rules o)) long (first (is_empty (broken_rules o) && long) fifth none)))
    (second (is_empty (broken_rules o) && long) fifth none))

alone_sound : (i : Option ℕ) (at : ℕ) (f : FormTree) → list_all is_sound (occurrences (standing i) (filter_at at f)) ≡ true → stands_alone (filter_at at f) ≡ true
unfolding stands_alone occurrences
alone_sound i at f e =
    let o : Occurrence = record { standing = standing i; at = at; form = f } in
    both (is_sound (record { standing = standing (Some 0); at = at; form = f })) (list_all is_sound (inner (standing (Some 0)) f))
    (sound_same i at f (first (is_sound o) (list_all is_sound (inner (standing i) f)) e))
    (ap (list_all is_sound) (inner_same (Some 0) i f) ∙ second (is_sound o) (list_all is_sound (inner (standing i) f)) e)

one_stands_alone : (f : FilterTree) → stands_alone f ≡ true → list_all stands_alone (f ∷ []) ≡ true
one_stands_alone f e = both (stands_alone f) true e refl

mutual
  unfolding parts_of occurrences

  part_sound : (i : Option ℕ) (f : FilterTree) → list_all is_sound (occurrences (standing i) f) ≡ true → list_all stands_alone (parts_of f) ≡ true
  part_sound i (filter_at at f) e = form_sound i at f e

  form_sound : (i : Option ℕ) (at : ℕ) (f : FormTree) → list_all is_sound (occurrences (standing i) (filter_at at f)) ≡ true → list_all stands_alone (form_parts at f) ≡ true
  form_sound i at (chain And fs) e = parts_sound fs (second (is_sound (record { standing = standing i; at = at; form = chain And fs })) (list_all is_sound (all_of (standing None) fs)) e)
  form_sound i at (chain All fs) e = parts_sound fs (second (is_sound (record { standing = standing i; at = at; form = chain All fs })) (list_all is_sound (all_of (standing None) fs)) e)
  form_sound i at f e = one_stands_alone (filter_at at f) (alone_sound i at f e)

  parts_sound : (fs : FilterTrees) → list_all is_sound (all_of (standing None) fs) ≡ true → list_all stands_alone (all_parts fs) ≡ true
  parts_sound no_filters e = refl
  parts_sound (more_filters f fs) e =
      and_both stands_alone (parts_of f) (all_parts fs) (part_sound None f (and_first is_sound (occurrences (standing None) f) (all_of (standing None) fs) e))
      (parts_sound fs (and_second is_sound (occurrences (standing None) f) (all_of (standing None) fs) e))

item_sound : (k : ℕ) (f : FilterTree) → list_all is_sound (occurrences (standing (Some k)) f) ≡ true → list_all stands_alone (item_parts f) ≡ true
unfolding item_parts
item_sound k (filter_at at (sort least text f)) e = refl
item_sound k (filter_at at (comment text)) e = refl
item_sound k (filter_at at f) e = form_sound (Some k) at f e

sort_sound : (k : ℕ) (f : FilterTree) → list_all is_sound (occurrences (standing (Some k)) f) ≡ true → list_all stands_alone (item_sorts f) ≡ true
unfolding item_sorts
sort_sound k (filter_at at (sort least text f)) e = one_stands_alone (filter_at at (sort least text f)) (alone_sound (Some k) at (sort least text f) e)
sort_sound k (filter_at at f) e = refl

items_sound : (k : ℕ) (fs : FilterTrees) → list_all is_sound (of_items k fs) ≡ true → list_all stands_alone (top_parts fs) ≡ true
unfolding of_items
items_sound k no_filters e = refl
items_sound k (more_filters f fs) e =
    let here : List Occurrence = occurrences (standing (Some k)) f in
    let later : List Occurrence = of_items (sorts_with k f) fs in
    and_both stands_alone (item_parts f) (top_parts fs) (item_sound k f (and_first is_sound here later e)) (items_sound (sorts_with k f) fs (and_second is_sound here later e))

sorts_sound : (k : ℕ) (fs : FilterTrees) → list_all is_sound (of_items k fs) ≡ true → list_all stands_alone (top_sorts fs) ≡ true
unfolding of_items
sorts_sound k no_filters e = refl
sorts_sound k (more_filters f fs) e =
    let here : List Occurrence = occurrences (standing (Some k)) f in
    let later : List Occurrence = of_items (sorts_with k f) fs in
    and_both stands_alone (item_sorts f) (top_sorts fs) (sort_sound k f (and_first is_sound here later e)) (sorts_sound (sorts_with k f) fs (and_second is_sound here later e))

-- the three facts of flat items, and what each filter keeps of them

denied : (b : Bool) → b ≡ false → not b ≡ true
denied true e = cc
denied false e = refl

granted : (b : Bool) → not b ≡ true → b ≡ false
granted true e = cc
granted false e = refl

or_first : (a b : Bool) → (a || b) ≡ false → a ≡ false
or_first true b e = cc
or_first false b e = refl

or_second : (a b : Bool) → (a || b) ≡ false → b ≡ false
or_second true b e = cc
or_second false b e = e

neither : (a b : Bool) → a ≡ false → b ≡ false → (a || b) ≡ false
neither true b e f = cc
neither false b e f = f

together : (os : List Occurrence) → list_any (λ o. is_family o.form) os ≡ false → list_all (λ o. has_its_kind o.form) os ≡ true → list_all breaks_none os ≡ true
    → list_all is_sound os ≡ true
together [] a b c = refl
together (o ∷ os) a b c =
    let families : Bool = list_any (λ o. is_family o.form) os in
    let kinds : Bool = list_all (λ o. has_its_kind o.form) os in
    let rules : Bool = list_all breaks_none os in
    both (is_sound o) (list_all is_sound os)
    (both (not (is_family o.form) && has_its_kind o.form) (breaks_none o)
    (both (not (is_family o.form)) (has_its_kind o.form) (denied (is_family o.form) (or_first (is_family o.form) families a)) (first (has_its_kind o.form) kinds b))
    (first (breaks_none o) rules c))
    (together os (or_second (is_family o.form) families a) (second (has_its_kind o.form) kinds b) (second (breaks_none o) rules c))

no_families : (os : List Occurrence) → list_all is_sound os ≡ true → list_any (λ o. is_family o.form) os ≡ false
no_families [] e = refl
no_families (o ∷ os) e =
    neither (is_family o.form) (list_any (λ o. is_family o.form) os)
    (granted (is_family o.form) (first (not (is_family o.form)) (has_its_kind o.form)
    (first (not (is_family o.form) && has_its_kind o.form) (breaks_none o) (first (is_sound o) (list_all is_sound os) e))))
    (no_families os (second (is_sound o) (list_all is_sound os) e))

all_kinds : (os : List Occurrence) → list_all is_sound os ≡ true → list_all (λ o. has_its_kind o.form) os ≡ true
all_kinds [] e = refl
all_kinds (o ∷ os) e =
    both (has_its_kind o.form) (list_all (λ o. has_its_kind o.form) os)
    (own_kind o (first (is_sound o) (list_all is_sound os) e))
    (all_kinds os (second (is_sound o) (list_all is_sound os) e))

all_rules : (os : List Occurrence) → list_all is_sound os ≡ true → list_all breaks_none os ≡ true
all_rules [] e = refl
all_rules (o ∷ os) e =
    both (breaks_none o) (list_all breaks_none os)
    (own_rules o (first (is_sound o) (list_all is_sound os) e))
    (all_rules os (second (is_sound o) (list_all is_sound os) e))

pub parts_stand : (fs : FilterTrees) → has_family fs ≡ false → kinds_agree fs ≡ true → break_no_rule fs ≡ true → list_all stands_alone (query_parts fs) ≡ true
unfolding has_family kinds_agree break_no_rule
parts_stand fs family kinds rules =
    let all = together (of_items 0 fs) family kinds rules in
    and_both stands_alone (top_parts fs) (top_sorts fs) (items_sound 0 fs all) (sorts_sound 0 fs all)

all_alone : (f : FilterTree) → stands_alone f ≡ true → list_all is_sound (of_items 0 (alone f)) ≡ true
unfolding stands_alone of_items
all_alone f e = and_both is_sound (occurrences (top_item 0) f) [] e refl

pub alone_family : (f : FilterTree) → stands_alone f ≡ true → has_family (alone f) ≡ false
unfolding has_family
alone_family f e = no_families (of_items 0 (alone f)) (all_alone f e)

pub alone_kinds : (f : FilterTree) → stands_alone f ≡ true → kinds_agree (alone f) ≡ true
unfolding kinds_agree
alone_kinds f e = all_kinds (of_items 0 (alone f)) (all_alone f e)

pub alone_rules : (f : FilterTree) → stands_alone f ≡ true → break_no_rule (alone f) ≡ true
unfolding break_no_rule
alone_rules f e = all_rules (of_items 0 (alone f)) (all_alone f e)
