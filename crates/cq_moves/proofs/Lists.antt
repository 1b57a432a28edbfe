-- Lists joined of parts: their filters, elements, order and lengths.
use Rattle.std.proofs.Common.{◌≡◌, ℕ, zero, suc, ◌+◌, ◌<◌, ◌≤◌, Bool, true, false, cond, ◌||◌, List, [], ◌∷◌, ◌++◌, map, length, get_or, take, refl, inl, inr, sym, ap, ◌∙◌, subst, arith}
use Rattle.std.specs.List.{All, AllPairs, Contains, filter, flat_map, list_any}
use Rattle.std.specs.List.Sorted.{IsStrictlyIncreasing}
use Rattle.std.proofs.lemmas.Bool.{cases_Bool}
use Rattle.std.proofs.lemmas.List.{length-map, take_more, append-nil, get_or-map}
use Rattle.std.proofs.lemmas.List.Concat.{flat_map-append}
use Rattle.std.proofs.lemmas.List.Elements.{All-append, All-nil, All-head, All-tail, All-map, All-weaker, Contains-append_left, Contains-append_right, filter-append}
use Rattle.std.proofs.lemmas.List.Folds.{list_any-append}
use Rattle.std.proofs.lemmas.List.Kept.{AllPairs-cons, AllPairs-from_increasing}

-- a filter of joined parts filters each part
pub filter-flat_map : {X A : Type 0} (p : A → Bool) (f : X → List A) (xs : List X)
    → filter p (flat_map f xs) ≡ flat_map (λ x. filter p (f x)) xs
filter-flat_map p f [] = refl
filter-flat_map p f (x ∷ xs) =
    filter-append p (f x) (flat_map f xs) ∙ ap (λ ys. filter p (f x) ++ ys) (filter-flat_map p f xs)

pub filter-map : {X A : Type 0} (p : A → Bool) (f : X → A) (xs : List X)
    → filter p (map f xs) ≡ flat_map (λ x. filter p (f x ∷ [])) xs
filter-map p f [] = refl
filter-map p f (x ∷ xs) =
    filter-append p (f x ∷ []) (map f xs) ∙ ap (λ ys. filter p (f x ∷ []) ++ ys) (filter-map p f xs)

-- a test that some element of a part passes
pub list_any-flat_map : {X A : Type 0} (p : A → Bool) (f : X → List A) (xs : List X)
    → list_any p (flat_map f xs) ≡ list_any (λ x. list_any p (f x)) xs
list_any-flat_map p f [] = refl
list_any-flat_map p f (x ∷ xs) =
    list_any-append p (f x) (flat_map f xs) ∙ ap (λ t. list_any p (f x) || t) (list_any-flat_map p f xs)

-- an element of a part
pub Contains-flat_map : {X A : Type 0} (f : X → List A) (xs : List X) (x : X) (a : A)
    → Contains xs x → Contains (f x) a → Contains (flat_map f xs) a
Contains-flat_map f [] x a (k, h, e) c = absurd (omega (arith, h))
Contains-flat_map {X} f (y ∷ ys) x a (zero, h, e) c =
    Contains-append_left (f y) (flat_map f ys) a (subst (λ (z : X). Contains (f z) a) (sym e) c)
Contains-flat_map f (y ∷ ys) x a (suc k, h, e) c =
    Contains-append_right (f y) (flat_map f ys) a (Contains-flat_map f ys x a (k, omega (arith, h), e) c)

pub Contains-map : {X A : Type 0} (f : X → A) (xs : List X) (x : X) → Contains xs x → Contains (map f xs) (f x)
Contains-map f xs x (k, h, e) = (k, omega (arith, length-map xs f, h), get_or-map f xs k x (f x) h ∙ ap f e)

pub All-flat_map : {X A : Type 0} (Q : A → Type 0) (S : X → Type 0) (f : X → List A)
    → ((x : X) → S x → All Q (f x)) → (xs : List X) → All S xs → All Q (flat_map f xs)
All-flat_map Q S f each [] h = All-nil Q
All-flat_map Q S f each (x ∷ xs) h =
    All-append Q (f x) (flat_map f xs) (each x (All-head S x xs h)) (All-flat_map Q S f each xs (All-tail S x xs h))

AllPairs-append : {X : Type 0} (R : X → X → Type 0) (xs ys : List X)
    → AllPairs R xs → AllPairs R ys → All (λ x. All (R x) ys) xs → AllPairs R (xs ++ ys)
AllPairs-append R [] ys h k l = k
AllPairs-append R (x ∷ xs) ys h k l =
    AllPairs-cons R x (xs ++ ys)
    (All-append (R x) xs ys (λ j d below. h 0 (suc j) d (omega arith) (omega arith)) (All-head (λ z. All (R z) ys) x xs l))
    (AllPairs-append R xs ys (λ i j d before below. h (suc i) (suc j) d (omega arith) (omega arith)) k (All-tail (λ z. All (R z) ys) x xs l))

-- joined parts are in order where each part is and the parts are
pub AllPairs-flat_map : {X A : Type 0} (S : X → X → Type 0) (P : X → A → Type 0) (R : A → A → Type 0) (f : X → List A)
    → ((x : X) → All (P x) (f x)) → ((x : X) → AllPairs R (f x)) → ((x y : X) (a b : A) → S x y → P x a → P y b → R a b)
    → (xs : List X) → AllPairs S xs → AllPairs R (flat_map f xs)
AllPairs-flat_map S P R f parts each across [] h = λ i j d before below. absurd (omega (arith, below))
AllPairs-flat_map {X} {A} S P R f parts each across (x ∷ xs) h =
    let later : All (S x) xs = λ k d below. h 0 (suc k) d (omega arith) (omega arith) in
    let ahead : (a : A) → P x a → All (R a) (flat_map f xs) =
    λ a pa. All-flat_map (R a) (S x) f (λ y s. All-weaker (P y) (R a) (λ b pb. across x y a b s pa pb) (f y) (parts y)) xs later in
    AllPairs-append R (f x) (flat_map f xs) (each x)
    (AllPairs-flat_map S P R f parts each across xs (λ i j d before below. h (suc i) (suc j) d (omega arith) (omega arith)))
    (All-weaker (P x) (λ a. All (R a) (flat_map f xs)) ahead (f x) (parts x))

pub AllPairs-map : {X Y : Type 0} (R : Y → Y → Type 0) (f : X → Y) (xs : List X)
    → AllPairs (λ x y. R (f x) (f y)) xs → AllPairs R (map f xs)
AllPairs-map R f [] h = λ i j d before below. absurd (omega (arith, below))
AllPairs-map R f (x ∷ xs) h =
    AllPairs-cons R (f x) (map f xs)
    (All-map (R (f x)) f xs (λ k d below. h 0 (suc k) d (omega arith) (omega arith)))
    (AllPairs-map R f xs (λ i j d before below. h (suc i) (suc j) d (omega arith) (omega arith)))

-- elements whose numbers rise
pub AllPairs-by_number : {X : Type 0} (number : X → ℕ) (xs : List X)
    → IsStrictlyIncreasing (map number xs) → AllPairs (λ x y. number x < number y) xs
AllPairs-by_number number xs h i j d before below =
    let long = length-map xs number in
    let first : i < length xs = omega arith in
    let rises = AllPairs-from_increasing (map number xs) h i j 0 before (omega arith) in
    omega (arith, rises, get_or-map number xs i d 0 first, get_or-map number xs j d 0 below)

-- one part more
pub flat_map-take_more : {X A : Type 0} (f : X → List A) (xs : List X) (n : ℕ) (d : X) → n < length xs
    → flat_map f (take (n + 1) xs) ≡ flat_map f (take n xs) ++ f (get_or xs n d)
flat_map-take_more f xs n d h =
    ap (flat_map f) (take_more xs n d h)
    ∙ flat_map-append f (take n xs) (get_or xs n d ∷ [])
    ∙ ap (λ ys. flat_map f (take n xs) ++ ys) (append-nil (f (get_or xs n d)))

-- a filter keeps nothing if no element passes
pub filter-none : {X : Type 0} (p : X → Bool) (xs : List X) → All (λ x. p x ≡ false) xs → filter p xs ≡ []
filter-none p [] h = refl
filter-none p (x ∷ xs) h =
    ap (λ t. cond t (x ∷ filter p xs) (filter p xs)) (All-head (λ y. p y ≡ false) x xs h)
    ∙ filter-none p xs (All-tail (λ y. p y ≡ false) x xs h)

-- a test that passes less keeps less
pub length-filter-within : {X : Type 0} (p q : X → Bool) (xs : List X) → All (λ x. p x ≡ true → q x ≡ true) xs
    → length (filter p xs) ≤ length (filter q xs)
length-filter-within p q [] h = omega arith
length-filter-within {X} p q (x ∷ xs) h =
    let rest = length-filter-within p q xs (All-tail (λ y. p y ≡ true → q y ≡ true) x xs h) in
    let here : p x ≡ true → q x ≡ true = All-head (λ y. p y ≡ true → q y ≡ true) x xs h in
    elim (cases_Bool (p x)) [
      | inl e ↦ rw (e, here e) (omega (arith, rest))
      | inr e ↦ rw e (elim (cases_Bool (q x)) [ inl f ↦ rw f (omega (arith, rest)) | inr f ↦ rw f rest ])
    ]
