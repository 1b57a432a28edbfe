-- Flat forms made one after the other.
use Rattle.std.proofs.Common.{◌≡◌, ℕ, zero, suc, ◌+◌, Bool, true, false, ◌||◌, List, [], ◌∷◌, ◌++◌, take, map, cond, Option, Some, None, refl, sym, ap, ap₂, ◌∙◌, add-one}
use Rattle.std.specs.Prelude.{slice_get, option_to_list, if◌then◌else◌}
use Rattle.std.specs.List.{filter}
use Rattle.std.proofs.lemmas.List.{append-nil}
use Rattle.cq_symmetry.specs.Families.{members}
use Rattle.cq_symmetry.specs.Mappings.{PlainMapping}
use Rattle.cq_symmetry.specs.declared.families.Family.{Family}
use Rattle.cql_syntax.specs.Contexts.{Context}
use Rattle.cql_syntax.specs.Flat.{without, distinct, flat, flat_form, flat_all, flat_terms, flat_parts, flat_body}
use Rattle.cql_syntax.specs.Kinds.{filter_kind}
use Rattle.cql_syntax.specs.Meaning.{fits, fitting}
use Rattle.cql_syntax.specs.Same.{same_filter}
use Rattle.cql_syntax.specs.Trees.{FilterTree, FormTree, transform, any, FilterTrees, no_filters, more_filters, TermTrees, no_terms, more_terms, PartTrees, no_parts, more_parts, BodyTree, with_filter, with_term, with_part}
use Rattle.cql_syntax.specs.declared.leaves.Mark.{Mark}
use Rattle.cql_syntax.proofs.SameSound.{filter_is}
use Rattle.cql_rewrite.specs.Internal.DistinctMembers.{flat_if_fits, some_same, with_new}

pub flat_all_snoc : (g : Context) (fs : FilterTrees) (f : FilterTree) → flat_all g (with_filter fs f) ≡ with_filter (flat_all g fs) (flat g f)
unfolding flat
flat_all_snoc g no_filters f = refl
flat_all_snoc g (more_filters x fs) f = ap (more_filters (flat g x)) (flat_all_snoc g fs f)

pub flat_terms_snoc : (g : Context) (ts : TermTrees) (minus : Bool) (f : FilterTree) → flat_terms g (with_term ts minus f) ≡ with_term (flat_terms g ts) minus (flat g f)
unfolding flat
flat_terms_snoc g no_terms minus f = refl
flat_terms_snoc g (more_terms m x ts) minus f = ap (more_terms m (flat g x)) (flat_terms_snoc g ts minus f)

pub flat_parts_snoc : (g : Context) (cs : PartTrees) (body : BodyTree) (mark : Mark) → flat_parts g (with_part cs body mark) ≡ with_part (flat_parts g cs) (flat_body g body) mark
unfolding flat
flat_parts_snoc g no_parts body mark = refl
flat_parts_snoc g (more_parts x m cs) body mark = ap (more_parts (flat_body g x) m) (flat_parts_snoc g cs body mark)

-- the members of a family

take_get_suc : {A : Type 0} (xs : List A) (k : ℕ) (x : A) → Some x ≡ slice_get xs k → take (suc k) xs ≡ take k xs ++ x ∷ []
take_get_suc [] k x e = cc
take_get_suc (y ∷ xs) zero x e = cc
take_get_suc (y ∷ xs) (suc k) x e = ap (λ ys. y ∷ ys) (take_get_suc xs k x e)

take_get : {A : Type 0} (xs : List A) (k : ℕ) (x : A) → Some x ≡ slice_get xs k → take (k + 1) xs ≡ take k xs ++ x ∷ []
take_get xs k x e = rw (add-one) (take_get_suc xs k x e)

map_one_more : {A B : Type 0} (f : A → B) (xs : List A) (x : A) → map f (xs ++ x ∷ []) ≡ map f xs ++ f x ∷ []
map_one_more f [] x = refl
map_one_more f (y ∷ xs) x = ap (λ ys. f y ∷ ys) (map_one_more f xs x)

kept_one : {A B : Type 0} (f : A → B) (x : A) (b : Bool) → map f (cond b (x ∷ []) []) ≡ option_to_list (if b then Some (f x) else None)
kept_one f x true = refl
kept_one f x false = refl

kept_after : {A B : Type 0} (f : A → B) (y : A) (xs ys : List A) (zs : List B) (b : Bool) → map f ys ≡ map f xs ++ zs → map f (cond b (y ∷ ys) ys) ≡ map f (cond b (y ∷ xs) xs) ++ zs
kept_after f y xs ys zs true e = ap (λ l. f y ∷ l) e
kept_after f y xs ys zs false e = e

kept_snoc : {A B : Type 0} (test : A → Bool) (f : A → B) (xs : List A) (x : A) → map f (filter test (xs ++ x ∷ [])) ≡ map f (filter test xs) ++ option_to_list (if test x then Some (f x) else None)
kept_snoc test f [] x = kept_one f x (test x)
kept_snoc test f (y ∷ xs) x = kept_after f y (filter test xs) (filter test (xs ++ x ∷ [])) (option_to_list (if test x then Some (f x) else None)) (test y) (kept_snoc test f xs x)

abbrev pub flats : Context → FilterTree → List PlainMapping → List FilterTree
flats g f ms = map (λ h. flat h f) (fitting g ms f)

flats_snoc : (g : Context) (f : FilterTree) (ms : List PlainMapping) (m : PlainMapping) → flats g f (ms ++ m ∷ []) ≡ flats g f ms ++ option_to_list (flat_if_fits g m f)
flats_snoc g f ms m =
    ap (λ cs. map (λ h. flat h f) (filter (λ h. fits h f) cs)) (map_one_more (λ x. x ∷ g) ms m)
    ∙ kept_snoc (λ h. fits h f) (λ h. flat h f) (map (λ x. x ∷ g) ms) (m ∷ g)

-- one more is kept where none of the kept is the same

swapped : (c a : Bool) (w : FilterTrees) (d x : FilterTree)
    → (if c then (if a then w else with_filter w x) else more_filters d (if a then w else with_filter w x))
    ≡ (if a then (if c then w else more_filters d w) else with_filter (if c then w else more_filters d w) x)
swapped true true w d x = refl
swapped true false w d x = refl
swapped false true w d x = refl
swapped false false w d x = refl

without_snoc : (y x : FilterTree) (ds : FilterTrees) → without y (with_filter ds x) ≡ (if same_filter y x then without y ds else with_filter (without y ds) x)
without_snoc y x no_filters = refl
without_snoc y x (more_filters d ds) =
    ap (λ w. if same_filter y d then w else more_filters d w) (without_snoc y x ds) ∙ swapped (same_filter y d) (same_filter y x) (without y ds) d x

still_same_at : (y x d : FilterTree) (ds w : FilterTrees) (c : Bool) → same_filter y d ≡ c → same_filter y x ≡ false → some_same w x ≡ some_same ds x
    → some_same (if c then w else more_filters d w) x ≡ (same_filter d x || some_same ds x)
still_same_at y x d ds w true is unlike e = e ∙ sym (ap (λ b. b || some_same ds x) (ap (λ z. same_filter z x) (sym (filter_is y d is)) ∙ unlike))
still_same_at y x d ds w false is unlike e = ap (λ b. same_filter d x || b) e

still_same : (y x : FilterTree) (ds : FilterTrees) → same_filter y x ≡ false → some_same (without y ds) x ≡ some_same ds x
still_same y x no_filters unlike = refl
still_same y x (more_filters d ds) unlike = still_same_at y x d ds (without y ds) (same_filter y d) refl unlike (still_same y x ds unlike)

new_last_at : (y x : FilterTree) (ds : FilterTrees) (a b : Bool) → same_filter y x ≡ a → some_same ds x ≡ b
    → more_filters y (without y (if b then ds else with_filter ds x)) ≡ (if a || some_same (without y ds) x then more_filters y (without y ds) else with_filter (more_filters y (without y ds)) x)
new_last_at y x ds true true is known = refl
new_last_at y x ds true false is known = ap (more_filters y) (without_snoc y x ds ∙ ap (λ a. if a then without y ds else with_filter (without y ds) x) is)
new_last_at y x ds false true is known =
    sym (ap (λ b. if b then more_filters y (without y ds) else with_filter (more_filters y (without y ds)) x) (still_same y x ds is ∙ known))
new_last_at y x ds false false is known =
    ap (more_filters y) (without_snoc y x ds ∙ ap (λ a. if a then without y ds else with_filter (without y ds) x) is)
    ∙ sym (ap (λ b. if b then more_filters y (without y ds) else with_filter (more_filters y (without y ds)) x) (still_same y x ds is ∙ known))

distinct_snoc : (xs : List FilterTree) (x : FilterTree) → distinct (xs ++ x ∷ []) ≡ with_new (distinct xs) (Some x)
distinct_snoc [] x = refl
distinct_snoc (y ∷ ys) x =
    ap (λ ds. more_filters y (without y ds)) (distinct_snoc ys x) ∙ new_last_at y x (distinct ys) (same_filter y x) (some_same (distinct ys) x) refl refl

distinct_more : (xs : List FilterTree) (o : Option FilterTree) → distinct (xs ++ option_to_list o) ≡ with_new (distinct xs) o
distinct_more xs None = ap distinct (append-nil xs)
distinct_more xs (Some x) = distinct_snoc xs x

pub members_made : (g : Context) (f : FilterTree) (ms : List PlainMapping) (k : ℕ) (m : PlainMapping) (old new : FilterTrees) (o : Option FilterTree)
    → Some m ≡ slice_get ms k → old ≡ distinct (flats g f (take k ms)) → o ≡ flat_if_fits g m f → new ≡ with_new old o → new ≡ distinct (flats g f (take (k + 1) ms))
members_made g f ms k m old new o is had found more =
    more ∙ ap₂ with_new had found
    ∙ sym (ap (λ l. distinct (flats g f l)) (take_get ms k m is) ∙ ap distinct (flats_snoc g f (take k ms) m) ∙ distinct_more (flats g f (take k ms)) (flat_if_fits g m f))

pub family_flat : (g : Context) (t : Family) (f : FilterTree) (form : FormTree) → form ≡ transform t f → any (filter_kind f) (distinct (flats g f (members t))) ≡ flat_form g form
unfolding flat
family_flat g t f form is = ap (flat_form g) (sym is)
