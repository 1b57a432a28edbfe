-- The squares seen along the rays are the squares on a line with no occupied square between.
use Rattle.std.proofs.Common.{◌≡◌, ℕ, suc, ◌<◌, Bool, true, false, not, cond, ◌&&◌, ◌||◌, ◌==◌, List, [], ◌∷◌, ◌++◌, length, get_or, take, append_assoc, refl, inl, inr, sym, ap, ap₂, ◌∙◌, arith}
use Rattle.std.specs.List.{list_all, list_any}
use Rattle.std.proofs.lemmas.Bool.{cases_Bool, eqb-true}
use Rattle.std.proofs.lemmas.List.{append-nil}
use Rattle.std.proofs.lemmas.List.Folds.{list_all-append}
use Rattle.cq_geometry.specs.declared.compass.Compass.{Compass}
use Rattle.cq_geometry.specs.Steps.{ray_from}
use Rattle.cq_geometry.specs.Directions.{files_of, ranks_of}
use Rattle.cq_geometry.specs.Lines.{between_squares, is_open, is_orthogonal, is_diagonal, seen, sees, on_rays, orthogonals, diagonals}
use Rattle.cq_geometry.proofs.Slides.{is_direction, between_on_ray, orthogonal_rays, diagonal_rays}

-- before each square of a list stand the squares that `before` gives
record Lists (before : ℕ → List ℕ) (front xs : List ℕ) : Type 0 where
  at : (k d : ℕ) → k < length xs → before (get_or xs k d) ≡ front ++ take k xs

abbrev all_free : (ℕ → Bool) → List ℕ → Bool
all_free occupied xs = list_all (λ q. not (occupied q)) xs

abbrev has : ℕ → List ℕ → Bool
has b xs = list_any (λ q. q == b) xs

first_before : (before : ℕ → List ℕ) (front : List ℕ) (x : ℕ) (xs : List ℕ) → Lists before front (x ∷ xs) → before x ≡ front
first_before before front x xs h = h.at 0 0 (omega arith) ∙ append-nil front

rest_before : (before : ℕ → List ℕ) (front : List ℕ) (x : ℕ) (xs : List ℕ)
    → Lists before front (x ∷ xs) → Lists before (front ++ x ∷ []) xs
rest_before before front x xs h =
    record { at = λ k d below. h.at (suc k) d (omega arith) ∙ sym (append_assoc front (x ∷ []) (take k xs)) }

and_false : (t : Bool) → (t && false) ≡ false
and_false true = refl
and_false false = refl

and_over_or : (s t u : Bool) → (s && u || t && u) ≡ ((s || t) && u)
and_over_or true t true = refl
and_over_or true t false = and_false t
and_over_or false t u = refl

shut_by : (occupied : ℕ → Bool) (front : List ℕ) (x : ℕ) (t : Bool) → all_free occupied front ≡ t
    → all_free occupied (front ++ x ∷ []) ≡ (t && (not (occupied x) && true))
shut_by occupied front x t e =
    list_all-append (λ q. not (occupied q)) front (x ∷ []) ∙ ap (λ u. u && (not (occupied x) && true)) e

-- after an occupied square nothing has a free way
blocked : (occupied : ℕ → Bool) (before : ℕ → List ℕ) (b : ℕ) (front xs : List ℕ)
    → Lists before front xs → all_free occupied front ≡ false → (has b xs && all_free occupied (before b)) ≡ false
blocked occupied before b front [] h shut = refl
blocked occupied before b front (x ∷ xs) h shut =
    elim (cases_Bool (x == b)) [
      | inl e ↦
          let way = ap before (sym (eqb-true x b e)) ∙ first_before before front x xs h in
          ap (λ t. has b (x ∷ xs) && t) (ap (all_free occupied) way ∙ shut) ∙ and_false (has b (x ∷ xs))
      | inr e ↦
          ap (λ t. (t || has b xs) && all_free occupied (before b)) e
          ∙ blocked occupied before b (front ++ x ∷ []) xs (rest_before before front x xs h) (shut_by occupied front x false shut)
    ]

-- the squares seen along a list are those with a free way
reached : (occupied : ℕ → Bool) (before : ℕ → List ℕ) (b : ℕ) (front xs : List ℕ)
    → Lists before front xs → all_free occupied front ≡ true → has b (seen occupied xs) ≡ (has b xs && all_free occupied (before b))
reached occupied before b front [] h free = refl
reached occupied before b front (x ∷ xs) h free =
    let rest = cond (occupied x) [] (seen occupied xs) in
    let more = rest_before before front x xs h in
    elim (cases_Bool (x == b)) [
      | inl e ↦
          let way = ap before (sym (eqb-true x b e)) ∙ first_before before front x xs h in
          ap (λ t. t || has b rest) e ∙ sym (ap₂ (λ t u. (t || has b xs) && u) e (ap (all_free occupied) way ∙ free))
      | inr e ↦
          ap (λ t. t || has b rest) e
          ∙ elim (cases_Bool (occupied x)) [
            | inl f ↦
                let shut = shut_by occupied front x true free ∙ ap (λ t. not t && true) f in
                ap (λ t. has b (cond t [] (seen occupied xs))) f
                ∙ sym (blocked occupied before b (front ++ x ∷ []) xs more shut)
            | inr f ↦
                let open_ = shut_by occupied front x true free ∙ ap (λ t. not t && true) f in
                ap (λ t. has b (cond t [] (seen occupied xs))) f
                ∙ reached occupied before b (front ++ x ∷ []) xs more open_
          ]
          ∙ sym (ap (λ t. (t || has b xs) && all_free occupied (before b)) e)
    ]

any_same : {X : Type 0} (p q : X → Bool) → ((x : X) → p x ≡ q x) → (xs : List X) → list_any p xs ≡ list_any q xs
any_same p q e [] = refl
any_same p q e (x ∷ xs) = ap₂ (λ a b. a || b) (e x) (any_same p q e xs)

any_and : {X : Type 0} (p : X → Bool) (t : Bool) (xs : List X) → list_any (λ x. p x && t) xs ≡ (list_any p xs && t)
any_and p t [] = refl
any_and p t (x ∷ xs) = ap (λ u. p x && t || u) (any_and p t xs) ∙ and_over_or (p x) (list_any p xs) t

lists_ray : (c : Compass) (a : ℕ) → a < 64 → Lists (between_squares a) [] (ray_from (files_of c) (ranks_of c) a)
lists_ray c a h = record { at = λ k d below. between_on_ray (files_of c) (ranks_of c) a k d (is_direction c) h below }

sees_is : (directions : List Compass) (occupied : ℕ → Bool) (a b : ℕ) → a < 64
    → sees directions occupied a b ≡ (on_rays directions a b && is_open occupied a b)
sees_is directions occupied a b h =
    let ray = λ (c : Compass). ray_from (files_of c) (ranks_of c) a in
    let along = λ (c : Compass). reached occupied (between_squares a) b [] (ray c) (lists_ray c a h) refl in
    any_same (λ c. has b (seen occupied (ray c))) (λ c. has b (ray c) && is_open occupied a b) along directions
    ∙ any_and (λ c. has b (ray c)) (is_open occupied a b) directions

-- a rook sees the squares of its file and its rank to which the way is free
pub sees_orthogonals : (occupied : ℕ → Bool) (a b : ℕ) → a < 64 → b < 64
    → sees orthogonals occupied a b ≡ (is_orthogonal a b && is_open occupied a b)
sees_orthogonals occupied a b h k =
    sees_is orthogonals occupied a b h ∙ ap (λ t. t && is_open occupied a b) (orthogonal_rays a b h k)

-- a bishop sees the squares of its diagonals to which the way is free
pub sees_diagonals : (occupied : ℕ → Bool) (a b : ℕ) → a < 64 → b < 64
    → sees diagonals occupied a b ≡ (is_diagonal a b && is_open occupied a b)
sees_diagonals occupied a b h k =
    sees_is diagonals occupied a b h ∙ ap (λ t. t && is_open occupied a b) (diagonal_rays a b h k)
