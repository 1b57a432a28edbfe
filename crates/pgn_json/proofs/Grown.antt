-- One text after another.
use Rattle.std.proofs.Common.{◌≡◌, ℕ, List, [], ◌++◌, append-nil, append_assoc, Option, None, Some, ap, sym, ◌∙◌, subst}
use Rattle.cq_outside.specs.Faults.{Rose}
use Rattle.cq_outside.specs.Flow.{Grew}

pub grew_on : (a b c : Option (List ℕ)) (xs ys : List ℕ) → Grew a b xs → Grew b c ys → Grew a c (xs ++ ys)
grew_on a b None xs ys f g = tt
grew_on a None (Some zs) xs ys f g = absurd g
grew_on None (Some bs) (Some zs) xs ys f g = absurd f
grew_on (Some os) (Some bs) (Some zs) xs ys f g = g ∙ ap (λ l. l ++ ys) f ∙ append_assoc os xs ys

pub grew_none : (a : Option (List ℕ)) → Grew a a []
grew_none None = tt
grew_none (Some xs) = sym (append-nil xs)

-- a sink that takes nothing more
pub same_grew : (a b : Option (List ℕ)) (xs : List ℕ) → Grew a b xs → Grew a b (xs ++ [])
same_grew a b xs f = subst (Grew a b) (sym (append-nil xs)) f

pub rose_on : (a b c : ℕ) → b ≡ a → Rose b c → Rose a c
rose_on a b c same rose = subst (λ (k : ℕ). Rose k c) same rose
