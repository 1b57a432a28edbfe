-- Tags by the map of them.
use Rattle.std.proofs.Common.{◌≡◌, ◌≢◌, ℕ, suc, zero, ◌+◌, ◌<◌, ◌⊎◌, ⊎_elim, List, [], ◌∷◌, ◌++◌, length, Bool, true, false, cond, Option, Some, None, refl, sym, ap, ◌∙◌, arith, length-append}
use Rattle.std.specs.Prelude.{map}
use Rattle.std.specs.Option.{is_some, option_map}
use Rattle.std.specs.List.{find}
use Rattle.std.specs.Str.{bytes_eq}
use Rattle.std.specs.Map.{lookup}
use Rattle.std.proofs.lemmas.List.{get_or_append_left}
use Rattle.std.proofs.lemmas.Slice.Eq.{bytes_eq-Decides}
use Rattle.std.proofs.Math.Seq.{get_or-append_seam}
use Rattle.cq_position.specs.Games.{tag_at, tag_value, with_tag, HaveDistinctNames}

pub no_names : HaveDistinctNames []
no_names = record { differ = λ i j less h. absurd (omega (arith, h)) }

module _ {K : Type 0} (items : K → List ℕ) where
  shown : K × List ℕ → List ℕ × List ℕ
  shown e = (items e.0, e.1)

  found_by : (t : Bool) (v : List ℕ) (n : List ℕ) (rest : Option (List ℕ × List ℕ)) → option_map (λ t. t.1) (cond t (Some (n, v)) rest) ≡ cond t (Some v) (option_map (λ t. t.1) rest)
  found_by true v n rest = refl
  found_by false v n rest = refl

  pub seen : (name : List ℕ) (es : List (K × List ℕ)) → lookup (λ k. bytes_eq name (items k)) es ≡ tag_value name (map {B = List ℕ × List ℕ} (λ e. (items e.0, e.1)) es)
  seen name [] = refl
  seen name (e ∷ es) = ap (λ r. cond (bytes_eq name (items e.0)) (Some e.1) r) (seen name es)
      ∙ sym (found_by (bytes_eq name (items e.0)) e.1 (items e.0) (find (λ t. bytes_eq name t.0) (map {B = List ℕ × List ℕ} (λ e. (items e.0, e.1)) es)))

  pub shown_append : (es : List (K × List ℕ)) (k : K) (v : List ℕ)
      → map {B = List ℕ × List ℕ} (λ e. (items e.0, e.1)) (es ++ (k, v) ∷ []) ≡ map {B = List ℕ × List ℕ} (λ e. (items e.0, e.1)) es ++ (items k, v) ∷ []
  shown_append [] k v = refl
  shown_append (e ∷ es) k v = ap (λ l. (items e.0, e.1) ∷ l) (shown_append es k v)

pub none_of : {X : Type 0} (o : Option X) → false ≡ is_some o → o ≡ None
none_of None is = refl
none_of (Some x) is = absurd cc

pub kept : (tags : List (List ℕ × List ℕ)) (name value : List ℕ) → true ≡ is_some (tag_value name tags) → tags ≡ with_tag tags name value
kept tags name value there = ap (λ b. cond b tags (tags ++ (name, value) ∷ [])) there

pub put : (tags : List (List ℕ × List ℕ)) (name value : List ℕ) → false ≡ is_some (tag_value name tags) → tags ++ (name, value) ∷ [] ≡ with_tag tags name value
put tags name value none = ap (λ b. cond b tags (tags ++ (name, value) ∷ [])) none

-- a name that isn't found is none of the names
missed : (t : Bool) (x : List ℕ × List ℕ) (rest : Option (List ℕ × List ℕ)) → option_map (λ t. t.1) (cond t (Some x) rest) ≡ None → (t ≡ false) × (option_map (λ t. t.1) rest ≡ None)
missed true x rest is = absurd cc
missed false x rest is = (refl, is)

is_none : (tags : List (List ℕ × List ℕ)) (name : List ℕ) (i : ℕ) → tag_value name tags ≡ None → i < length tags → (tag_at tags i).0 ≢ name
is_none [] name i none h is = absurd (omega (arith, h))
is_none (t ∷ ts) name zero none h is =
    let miss = missed (bytes_eq name t.0) t (find (λ t. bytes_eq name t.0) ts) none in
    absurd (let e : true ≡ false = sym ((bytes_eq-Decides name name).1 refl) ∙ ap (bytes_eq name) (sym is) ∙ miss.0 in cc)
is_none (t ∷ ts) name (suc i) none h is = is_none ts name i (missed (bytes_eq name t.0) t (find (λ t. bytes_eq name t.0) ts) none).1 (omega (arith, h)) is

-- a new name keeps names distinct
pub distinct_put : (tags : List (List ℕ × List ℕ)) (name value : List ℕ) → tag_value name tags ≡ None → HaveDistinctNames tags → HaveDistinctNames (tags ++ (name, value) ∷ [])
distinct_put tags name value none distinct =
    let len = length-append tags ((name, value) ∷ []) in
    let old : (i : ℕ) → i < length tags → tag_at (tags ++ (name, value) ∷ []) i ≡ tag_at tags i = λ i h. get_or_append_left tags ((name, value) ∷ []) ([], []) i h in
    let new : tag_at (tags ++ (name, value) ∷ []) (length tags) ≡ (name, value) = get_or-append_seam tags (name, value) [] ([], []) in
    record {
      differ = λ i j less h. ⊎_elim
          (λ before is. distinct.differ i j less before (ap (λ t. t.0) (sym (old i (omega (arith, less, before)))) ∙ is ∙ ap (λ t. t.0) (old j before)))
          (λ at is. is_none tags name i none (omega (arith, less, at))
          (ap (λ t. t.0) (sym (old i (omega (arith, less, at)))) ∙ is ∙ ap (λ k. (tag_at (tags ++ (name, value) ∷ []) k).0) at ∙ ap (λ t. t.0) new))
          (last j (length tags) (omega (arith, h, len)));
    }
  where
    last : (j n : ℕ) → j < n + 1 → (j < n) ⊎ (j ≡ n)
    last j n h = grind arith
