-- Lists with a property of each element, and filters.
use Rattle.std.proofs.Common.{◌≡◌, Bool, true, false, cond, List, [], ◌∷◌, refl, ap, ◌∙◌}
use Rattle.std.specs.Prelude.{◌&&◌, filter}
use Rattle.std.specs.List.{AllByRecursion}

pub map_all : {A : Type 0} (P Q : A → Type 0) → ((x : A) → P x → Q x) → (xs : List A) → AllByRecursion P xs → AllByRecursion Q xs
map_all P Q f [] all = tt
map_all P Q f (x ∷ xs) all = (f x all.0, map_all P Q f xs all.1)

pub both_all : {A : Type 0} (P Q : A → Type 0) (xs : List A) → AllByRecursion P xs → AllByRecursion Q xs → AllByRecursion (λ x. P x × Q x) xs
both_all P Q [] p q = tt
both_all P Q (x ∷ xs) p q = ((p.0, q.0), both_all P Q xs p.1 q.1)

pub filter_all : {A : Type 0} (p : A → Bool) (P : A → Type 0) → ((x : A) → P x → p x ≡ true) → (xs : List A) → AllByRecursion P xs → filter p xs ≡ xs
filter_all p P f [] all = refl
filter_all p P f (x ∷ xs) all = ap (λ t. cond t (x ∷ filter p xs) (filter p xs)) (f x all.0) ∙ ap (λ ys. x ∷ ys) (filter_all p P f xs all.1)

pub filter_none : {A : Type 0} (p : A → Bool) (P : A → Type 0) → ((x : A) → P x → p x ≡ false) → (xs : List A) → AllByRecursion P xs → filter p xs ≡ []
filter_none p P f [] all = refl
filter_none p P f (x ∷ xs) all = ap (λ t. cond t (x ∷ filter p xs) (filter p xs)) (f x all.0) ∙ filter_none p P f xs all.1

pub filter_never : {A : Type 0} (p : A → Bool) → ((x : A) → p x ≡ false) → (xs : List A) → filter p xs ≡ []
filter_never p f [] = refl
filter_never p f (x ∷ xs) = ap (λ t. cond t (x ∷ filter p xs) (filter p xs)) (f x) ∙ filter_never p f xs

twice : {A : Type 0} (t u : Bool) (p : A → Bool) (x : A) (ys zs : List A) → p x ≡ u → filter p ys ≡ zs → filter p (cond t (x ∷ ys) ys) ≡ cond (t && u) (x ∷ zs) zs
twice true u p x ys zs px rest = ap (λ s. cond s (x ∷ filter p ys) (filter p ys)) px ∙ ap (λ l. cond u (x ∷ l) l) rest
twice false u p x ys zs px rest = rest

pub filter-filter : {A : Type 0} (p q : A → Bool) (xs : List A) → filter p (filter q xs) ≡ filter (λ x. q x && p x) xs
filter-filter p q [] = refl
filter-filter p q (x ∷ xs) = twice (q x) (p x) p x (filter q xs) (filter (λ y. q y && p y) xs) refl (filter-filter p q xs)

-- a property of each element of a list holds of each that a filter keeps
kept_all : {A : Type 0} (P : A → Type 0) (t : Bool) (x : A) (xs ys : List A) → P x × AllByRecursion P xs → AllByRecursion P ys → AllByRecursion P (cond t (x ∷ ys) ys)
kept_all P true x xs ys all rest = (all.0, rest)
kept_all P false x xs ys all rest = rest

pub all_of_filter : {A : Type 0} (P : A → Type 0) (p : A → Bool) (xs : List A) → AllByRecursion P xs → AllByRecursion P (filter p xs)
all_of_filter P p [] all = tt
all_of_filter P p (x ∷ xs) all = kept_all P (p x) x xs (filter p xs) all (all_of_filter P p xs all.1)
