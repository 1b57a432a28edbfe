-- Parts that are added one by one are the different ones.
use Rattle.std.proofs.Common.{◌≡◌, Bool, true, false, ◌&&◌, ◌||◌, List, [], ◌∷◌, ◌++◌, refl, sym, ap, ap₂, ◌∙◌, append_assoc, inl, inr}
use Rattle.std.specs.Prelude.{not, cond, if◌then◌else◌}
use Rattle.std.specs.List.{filter, list_any}
use Rattle.std.proofs.lemmas.Bool.{and_parts, or_cases, or_left, or_right}
use Rattle.std.proofs.lemmas.List.{append-nil}
use Rattle.std.proofs.lemmas.List.Folds.{list_any-append}
use Rattle.cql_syntax.specs.Leaves.{same_flag}
use Rattle.cql_syntax.specs.Same.{same_filter}
use Rattle.cql_syntax.specs.Unplaced.{unplaced, same_unplaced}
use Rattle.cql_syntax.proofs.SameSound.{same_law}
use Rattle.cq_shared.specs.Interning.{with_part, with_parts}
use Rattle.cq_shared.specs.Parts.{PartTree, same_part, other_than, different}
use Rattle.cq_shared.proofs.Meeting.{flag_is}

-- the elements that pass one test after another
module _ {X : Type 0} (f g h : X → Bool) where
  filter_twice : ((x : X) → h x ≡ (f x && g x)) → (xs : List X) → filter h xs ≡ filter g (filter f xs)
  filter_twice each [] = refl
  filter_twice each (x ∷ xs) =
      ap₂ (λ b l. cond b (x ∷ l) l) (each x) (filter_twice each xs) ∙ by (f x) (filter f xs)
    where
      by : (b : Bool) (ys : List X) → cond (b && g x) (x ∷ filter g ys) (filter g ys) ≡ filter g (cond b (x ∷ ys) ys)
      by true ys = refl
      by false ys = refl

-- none of some parts is the same
abbrev is_new : List PartTree → PartTree → Bool
is_new seen r = not (list_any (λ s. same_part s r) seen)

same_as : (s p r : PartTree) → same_part s p ≡ true → same_part s r ≡ same_part p r
same_as s p r same =
    let both = and_parts (same_flag s.variations p.variations) (same_unplaced s.filter p.filter) same in
    ap₂ (λ v f. same_flag v r.variations && same_filter f (unplaced r.filter)) (flag_is s.variations p.variations both.0)
    ((same_law (unplaced s.filter) (unplaced p.filter)).0 both.1)

seen_too : (seen : List PartTree) (p r : PartTree) → list_any (λ s. same_part s p) seen ≡ true → same_part p r ≡ true → list_any (λ s. same_part s r) seen ≡ true
seen_too [] p r some same = cc
seen_too (s ∷ seen) p r some same = elim (or_cases (same_part s p) (list_any (λ t. same_part t p) seen) some) [
  | inl here ↦ or_left (same_part s r) (list_any (λ t. same_part t r) seen) (same_as s p r here ∙ same)
  | inr later ↦ or_right (same_part s r) (list_any (λ t. same_part t r) seen) (seen_too seen p r later same)
]

new_where_seen : (seen : List PartTree) (p r : PartTree) → list_any (λ s. same_part s p) seen ≡ true → is_new seen r ≡ (not (same_part p r) && is_new seen r)
new_where_seen seen p r some = by (same_part p r) refl
  where
    by : (b : Bool) → same_part p r ≡ b → is_new seen r ≡ (not (same_part p r) && is_new seen r)
    by true e = ap not (seen_too seen p r some e) ∙ sym (ap (λ b. not b && is_new seen r) e)
    by false e = sym (ap (λ b. not b && is_new seen r) e)

new_with : (seen : List PartTree) (p r : PartTree) → is_new (seen ++ p ∷ []) r ≡ (not (same_part p r) && is_new seen r)
new_with seen p r = ap not (list_any-append (λ s. same_part s r) seen (p ∷ [])) ∙ by (list_any (λ s. same_part s r) seen) (same_part p r)
  where
    by : (a b : Bool) → not (a || (b || false)) ≡ (not b && not a)
    by true true = refl
    by true false = refl
    by false true = refl
    by false false = refl

abbrev AddsNew : List PartTree → List PartTree → Type 0
AddsNew ps seen = with_parts seen ps ≡ seen ++ filter (is_new seen) (different ps)

one_more : (p : PartTree) (ps seen : List PartTree) (there : Bool) → list_any (λ s. same_part s p) seen ≡ there → ((seen : List PartTree) → AddsNew ps seen) → AddsNew (p ∷ ps) seen
unfolding with_parts with_part different
one_more p ps seen true there each =
    let here = ap (λ b. let l = filter (is_new seen) (other_than p (different ps)) in cond (not b) (p ∷ l) l) there in
    let same = filter_twice (λ r. not (same_part p r)) (is_new seen) (is_new seen) (λ r. new_where_seen seen p r there) (different ps) in
    ap (λ b. with_parts (if b then seen else seen ++ p ∷ []) ps) there ∙ each seen ∙ ap (λ l. seen ++ l) (same ∙ sym here)
one_more p ps seen false there each =
    let here = ap (λ b. let l = filter (is_new seen) (other_than p (different ps)) in cond (not b) (p ∷ l) l) there in
    let fewer = filter_twice (λ r. not (same_part p r)) (is_new seen) (is_new (seen ++ p ∷ [])) (new_with seen p) (different ps) in
    ap (λ b. with_parts (if b then seen else seen ++ p ∷ []) ps) there ∙ each (seen ++ p ∷ [])
    ∙ append_assoc seen (p ∷ []) (filter (is_new (seen ++ p ∷ [])) (different ps)) ∙ ap (λ l. seen ++ l) (ap (λ l. p ∷ l) fewer ∙ sym here)

adds_new : (ps seen : List PartTree) → AddsNew ps seen
unfolding with_parts different
adds_new [] seen = sym (append-nil seen)
adds_new (p ∷ ps) seen = one_more p ps seen (list_any (λ s. same_part s p) seen) refl (adds_new ps)

pub all_different : (ps : List PartTree) → with_parts [] ps ≡ different ps
all_different ps = adds_new ps [] ∙ all_new (different ps)
  where
    all_new : (rs : List PartTree) → filter (is_new []) rs ≡ rs
    all_new [] = refl
    all_new (r ∷ rs) = ap (λ l. r ∷ l) (all_new rs)
