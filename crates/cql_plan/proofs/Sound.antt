-- The filters that may be in a flat query, part by part.
use Rattle.std.proofs.Common.{◌≡◌, ℕ, Bool, true, false, ◌&&◌, ◌||◌, List, [], ◌∷◌, ◌++◌, Option, Some, None, refl, sym, ap, ap₂, ◌∙◌}
use Rattle.std.specs.Prelude.{not}
use Rattle.std.specs.List.{list_all, list_any}
use Rattle.std.proofs.lemmas.List.Folds.{list_all-append}
use Rattle.cq_common.proofs.SpellingLaw.{left, right, both_true as both}
use Rattle.cql_syntax.specs.FlatItems.{has_family, kinds_agree, break_no_rule, has_its_kind, breaks_none, is_empty}
use Rattle.cql_syntax.specs.Kinds.{filter_kind, form_kind}
use Rattle.cql_syntax.specs.Leaves.{same_kind}
use Rattle.cql_syntax.specs.Occurrences.{TypingContext, Occurrence, part_of, occurrences, all_of, of_items}
use Rattle.cql_syntax.specs.TreeFaults.{broken_rules, wrong_kind, below_top, past_four_sorts, unbound_name, brace_in_comment, is_long_line, is_fifth_square, is_family}
use Rattle.cql_syntax.specs.TreeLists.{filters_of}
use Rattle.cql_syntax.specs.Trees.{FilterTree, FormTree, unary, chain, any, FilterTrees, no_filters, more_filters}
use Rattle.cql_syntax.specs.declared.leaves.Chain.{Chain}
use Rattle.cql_syntax.specs.declared.leaves.Kind.{Kind}
use Rattle.cql_syntax.specs.declared.leaves.Unary.{Unary}
use Rattle.cql_plan.specs.Replacements.{is_sound, is_member, are_members}

module _ {A : Type 0} (p : A → Bool) (xs ys : List A) where
  pub all_first : list_all p (xs ++ ys) ≡ true → list_all p xs ≡ true
  all_first h = left (list_all p xs) (list_all p ys) (sym (list_all-append p xs ys) ∙ h)

  pub all_second : list_all p (xs ++ ys) ≡ true → list_all p ys ≡ true
  all_second h = right (list_all p xs) (list_all p ys) (sym (list_all-append p xs ys) ∙ h)

  pub all_both : list_all p xs ≡ true → list_all p ys ≡ true → list_all p (xs ++ ys) ≡ true
  all_both a b = list_all-append p xs ys ∙ both _ _ a b

-- the sound properties of a filter

pub own_kind : (o : Occurrence) → is_sound o ≡ true → has_its_kind o.form ≡ true
own_kind o h = right (not (is_family o.form)) (has_its_kind o.form) (left (not (is_family o.form) && has_its_kind o.form) (breaks_none o) h)

pub own_rules : (o : Occurrence) → is_sound o ≡ true → breaks_none o ≡ true
own_rules o h = right (not (is_family o.form) && has_its_kind o.form) (breaks_none o) h

own_family : (o : Occurrence) → is_sound o ≡ true → not (is_family o.form) ≡ true
own_family o h = left (not (is_family o.form)) (has_its_kind o.form) (left (not (is_family o.form) && has_its_kind o.form) (breaks_none o) h)

pub own_sound : (o : Occurrence) → not (is_family o.form) ≡ true → has_its_kind o.form ≡ true → breaks_none o ≡ true → is_sound o ≡ true
own_sound o a b c = both (not (is_family o.form) && has_its_kind o.form) (breaks_none o) (both (not (is_family o.form)) (has_its_kind o.form) a b) c

-- a filter that breaks no rule breaks none with other parts
pub rules_same : (s : TypingContext) (i : ℕ) (f g : FormTree) → form_kind g ≡ form_kind f → below_top s.item g ≡ below_top s.item f
    → past_four_sorts s.item g ≡ past_four_sorts s.item f → (unbound_name s.names g ++ brace_in_comment g) ≡ (unbound_name s.names f ++ brace_in_comment f)
    → is_long_line g ≡ is_long_line f → is_fifth_square s.squares g ≡ is_fifth_square s.squares f
    → breaks_none (record { standing = s; at = i; form = g }) ≡ breaks_none (record { standing = s; at = i; form = f })
rules_same s i f g kind below past last long fifth =
    let all : broken_rules (record { standing = s; at = i; form = g }) ≡ broken_rules (record { standing = s; at = i; form = f }) =
    ap₂ (λ k rest. wrong_kind s.wanted k ++ rest) kind (ap₂ (λ x y. x ++ y) below (ap₂ (λ x y. x ++ y) past last)) in
    ap₂ (λ x y. x && y) (ap₂ (λ x y. is_empty x && not y) all long) (ap not fifth)

past_unary : (item : Option ℕ) (u : Unary) (f g : FilterTree) → past_four_sorts item (unary u g) ≡ past_four_sorts item (unary u f)
past_unary None u f g = refl
past_unary (Some k) u f g = refl

past_chain : (item : Option ℕ) (c : Chain) (fs gs : FilterTrees) → past_four_sorts item (chain c gs) ≡ past_four_sorts item (chain c fs)
past_chain None c fs gs = refl
past_chain (Some k) c fs gs = refl

past_any : (item : Option ℕ) (kind : Kind) (fs gs : FilterTrees) → past_four_sorts item (any kind gs) ≡ past_four_sorts item (any kind fs)
past_any None kind fs gs = refl
past_any (Some k) kind fs gs = refl

pub sound_unary : (s : TypingContext) (i : ℕ) (u : Unary) (f g : FilterTree) → is_sound (record { standing = s; at = i; form = unary u f }) ≡ true
    → is_sound (record { standing = s; at = i; form = unary u g }) ≡ true
sound_unary s i u f g h =
    own_sound (record { standing = s; at = i; form = unary u g }) refl refl
    (rules_same s i (unary u f) (unary u g) refl refl (past_unary s.item u f g) refl refl refl ∙ own_rules (record { standing = s; at = i; form = unary u f }) h)

pub sound_chain : (s : TypingContext) (i : ℕ) (c : Chain) (fs gs : FilterTrees) → is_sound (record { standing = s; at = i; form = chain c fs }) ≡ true
    → is_sound (record { standing = s; at = i; form = chain c gs }) ≡ true
sound_chain s i c fs gs h =
    own_sound (record { standing = s; at = i; form = chain c gs }) refl refl
    (rules_same s i (chain c fs) (chain c gs) refl refl (past_chain s.item c fs gs) refl refl refl ∙ own_rules (record { standing = s; at = i; form = chain c fs }) h)

pub sound_any : (s : TypingContext) (i : ℕ) (kind : Kind) (fs gs : FilterTrees) → list_all (λ f. same_kind (filter_kind f) kind) (filters_of gs) ≡ true
    → is_sound (record { standing = s; at = i; form = any kind fs }) ≡ true → is_sound (record { standing = s; at = i; form = any kind gs }) ≡ true
sound_any s i kind fs gs kinds h =
    own_sound (record { standing = s; at = i; form = any kind gs }) refl kinds
    (rules_same s i (any kind fs) (any kind gs) refl refl (past_any s.item kind fs gs) refl refl refl ∙ own_rules (record { standing = s; at = i; form = any kind fs }) h)

-- the facts that the type keeps

neither : (a b : Bool) → (a || b) ≡ false → not a ≡ true
neither true b h = cc
neither false b h = refl

not_second : (a b : Bool) → (a || b) ≡ false → b ≡ false
not_second true b h = cc
not_second false b h = h

both_false : (a b : Bool) → not a ≡ true → b ≡ false → (a || b) ≡ false
both_false true b h e = cc
both_false false b h e = e

all_sound : (os : List Occurrence) → list_any (λ o. is_family o.form) os ≡ false → list_all (λ o. has_its_kind o.form) os ≡ true
    → list_all breaks_none os ≡ true → list_all is_sound os ≡ true
all_sound [] a b c = refl
all_sound (o ∷ os) a b c =
    both (is_sound o) (list_all is_sound os)
    (own_sound o (neither (is_family o.form) (list_any (λ o. is_family o.form) os) a) (left (has_its_kind o.form) (list_all (λ o. has_its_kind o.form) os) b)
    (left (breaks_none o) (list_all breaks_none os) c))
    (all_sound os (not_second (is_family o.form) (list_any (λ o. is_family o.form) os) a) (right (has_its_kind o.form) (list_all (λ o. has_its_kind o.form) os) b)
    (right (breaks_none o) (list_all breaks_none os) c))

no_families : (os : List Occurrence) → list_all is_sound os ≡ true → list_any (λ o. is_family o.form) os ≡ false
no_families [] h = refl
no_families (o ∷ os) h =
    both_false (is_family o.form) (list_any (λ o. is_family o.form) os) (own_family o (left (is_sound o) (list_all is_sound os) h))
    (no_families os (right (is_sound o) (list_all is_sound os) h))

all_kinds : (os : List Occurrence) → list_all is_sound os ≡ true → list_all (λ o. has_its_kind o.form) os ≡ true
all_kinds [] h = refl
all_kinds (o ∷ os) h =
    both (has_its_kind o.form) (list_all (λ o. has_its_kind o.form) os) (own_kind o (left (is_sound o) (list_all is_sound os) h))
    (all_kinds os (right (is_sound o) (list_all is_sound os) h))

all_rules : (os : List Occurrence) → list_all is_sound os ≡ true → list_all breaks_none os ≡ true
all_rules [] h = refl
all_rules (o ∷ os) h =
    both (breaks_none o) (list_all breaks_none os) (own_rules o (left (is_sound o) (list_all is_sound os) h))
    (all_rules os (right (is_sound o) (list_all is_sound os) h))

pub sound_from : (items : FilterTrees) → has_family items ≡ false → kinds_agree items ≡ true → break_no_rule items ≡ true → list_all is_sound (of_items 0 items) ≡ true
unfolding has_family kinds_agree break_no_rule
sound_from items a b c = all_sound (of_items 0 items) a b c

pub family_from : (items : FilterTrees) → list_all is_sound (of_items 0 items) ≡ true → has_family items ≡ false
unfolding has_family
family_from items h = no_families (of_items 0 items) h

pub kinds_from : (items : FilterTrees) → list_all is_sound (of_items 0 items) ≡ true → kinds_agree items ≡ true
unfolding kinds_agree
kinds_from items h = all_kinds (of_items 0 items) h

pub rules_from : (items : FilterTrees) → list_all is_sound (of_items 0 items) ≡ true → break_no_rule items ≡ true
unfolding break_no_rule
rules_from items h = all_rules (of_items 0 items) h

-- members are of their kind, and may be parts

module _ (kind : Kind) (s : TypingContext) where
  pub members_from : (fs : FilterTrees) → list_all (λ f. same_kind (filter_kind f) kind) (filters_of fs) ≡ true
      → list_all is_sound (all_of (part_of s kind) fs) ≡ true → are_members kind s fs ≡ true
  unfolding occurrences
  members_from no_filters a b = refl
  members_from (more_filters f fs) a b =
      let here = occurrences (part_of s kind) f in
      let rest = all_of (part_of s kind) fs in
      both (is_member kind s f) (are_members kind s fs)
      (both (same_kind (filter_kind f) kind) (list_all is_sound here) (left _ _ a) (all_first is_sound here rest b))
      (members_from fs (right _ _ a) (all_second is_sound here rest b))

  pub kinds_of : (fs : FilterTrees) → are_members kind s fs ≡ true → list_all (λ f. same_kind (filter_kind f) kind) (filters_of fs) ≡ true
  kinds_of no_filters h = refl
  kinds_of (more_filters f fs) h =
      both (same_kind (filter_kind f) kind) (list_all (λ f. same_kind (filter_kind f) kind) (filters_of fs))
      (left (same_kind (filter_kind f) kind) (list_all is_sound (occurrences (part_of s kind) f)) (left (is_member kind s f) (are_members kind s fs) h))
      (kinds_of fs (right (is_member kind s f) (are_members kind s fs) h))

  pub sound_of : (fs : FilterTrees) → are_members kind s fs ≡ true → list_all is_sound (all_of (part_of s kind) fs) ≡ true
  unfolding occurrences
  sound_of no_filters h = refl
  sound_of (more_filters f fs) h =
      all_both is_sound (occurrences (part_of s kind) f) (all_of (part_of s kind) fs)
      (right (same_kind (filter_kind f) kind) (list_all is_sound (occurrences (part_of s kind) f)) (left (is_member kind s f) (are_members kind s fs) h))
      (sound_of fs (right (is_member kind s f) (are_members kind s fs) h))
