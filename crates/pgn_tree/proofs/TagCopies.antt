-- Tags that are copied one by one.
use Rattle.std.proofs.Common.{◌≡◌, ◌≢◌, ℕ, suc, ◌+◌, ◌<◌, Bool, true, false, List, [], ◌∷◌, ◌++◌, length, take, get_or, Some, None, refl, sym, ap, ◌∙◌, arith, cond}
use Rattle.std.specs.List.{find}
use Rattle.std.specs.Option.{option_map, is_some}
use Rattle.std.specs.Str.{bytes_eq}
use Rattle.std.proofs.lemmas.List.{take_more, length-take-le, get_or-take}
use Rattle.std.proofs.lemmas.Slice.Eq.{bytes_eq-Decides}
use Rattle.cq_position.specs.Games.{tag_at, with_tag, HaveDistinctNames}

absent : {X : Type 0} (p : X → Bool) (xs : List X) (d : X) → ((k : ℕ) → k < length xs → p (get_or xs k d) ≡ false) → find p xs ≡ None
absent p [] d none = refl
absent p (x ∷ xs) d none = ap (λ b. cond b (Some x) (find p xs)) (none 0 (omega arith)) ∙ absent p xs d (λ k h. none (suc k) (omega (arith, h)))

differs : (a b : List ℕ) → a ≢ b → bytes_eq b a ≡ false
differs a b other = none (bytes_eq b a) refl
  where
    none : (t : Bool) → bytes_eq b a ≡ t → t ≡ false
    none false e = refl
    none true e = absurd (other (sym ((bytes_eq-Decides b a).0 e)))

-- one tag more, whose name is new
pub tag_more : (tags : List (List ℕ × List ℕ)) (i : ℕ) → HaveDistinctNames tags → i < length tags → with_tag (take i tags) (tag_at tags i).0 (tag_at tags i).1 ≡ take (i + 1) tags
tag_more tags i distinct h =
    let name = (tag_at tags i).0 in
    let few = length-take-le i tags (omega (arith, h)) in
    let none : find (λ t. bytes_eq name t.0) (take i tags) ≡ None =
    absent (λ t. bytes_eq name t.0) (take i tags) ([], []) (λ k less.
    let low : k < i = omega (arith, less, few) in
    ap (λ t. bytes_eq name t.0) (get_or-take i tags k ([], []) low) ∙ differs (tag_at tags k).0 name (distinct.differ k i low h)) in
    ap (λ o. cond (is_some (option_map (λ t. t.1) o)) (take i tags) (take i tags ++ (name, (tag_at tags i).1) ∷ [])) none ∙ sym (take_more tags i ([], []) h)
