-- Writes one after another, and reads one after another.
use Rattle.std.proofs.Common.{◌≡◌, ℕ, ◌+◌, ◌-◌, ◌≤◌, length, length-append, arith, length-drop, List, ◌++◌, take, drop, Option, None, Some, sym, ap, subst, ◌∙◌, append_assoc}
use Rattle.std.proofs.Math.Seq.{take-add}
use Rattle.std.proofs.lemmas.List.{take_all}
use Rattle.std.specs.Io.KnownBytes.{Consumes}
use Rattle.cq_common.specs.declared.faults.Refusal.{Refusal}
use Rattle.cq_common.specs.declared.faults.Refusal.TheVariants.{Fault, NoMemory}
use Rattle.cq_outside.specs.Flow.{Grew, TakesAtMost, most_taken}

-- two writes are one of both pieces
grew_on : (a b c : Option (List ℕ)) (xs ys : List ℕ) → Grew a b xs → Grew b c ys → Grew a c (xs ++ ys)
grew_on a b None xs ys f g = tt
grew_on a None (Some zs) xs ys f g = absurd g
grew_on None (Some bs) (Some zs) xs ys f g = absurd f
grew_on (Some os) (Some bs) (Some zs) xs ys f g = g ∙ ap (λ l. l ++ ys) f ∙ append_assoc os xs ys

-- the front of a text was written, and then the front of its rest
pub grew_take : (a b c : Option (List ℕ)) (xs : List ℕ) (i n : ℕ) → Grew a b (take i xs) → Grew b c (take n (take (length xs - i) (drop i xs))) → Grew a c (take (i + n) xs)
grew_take a b c xs i n f g =
    let rest : take (length xs - i) (drop i xs) ≡ drop i xs = take_all (length xs - i) (drop i xs) (omega (arith, length-drop i xs)) in
    subst (Grew a c) (sym (take-add i n xs)) (grew_on a b c (take i xs) (take n (drop i xs)) f (subst (λ l. Grew b c (take n l)) rest g))

-- two reads are one of both pieces
consumed_on : (a b c : Option (List ℕ)) (xs ys : List ℕ) → Consumes a b xs → Consumes b c ys → Consumes a c (xs ++ ys)
consumed_on None b c xs ys f g = tt
consumed_on (Some os) None c xs ys f g = absurd f
consumed_on (Some os) (Some bs) None xs ys f g = absurd g
consumed_on (Some os) (Some bs) (Some cs) xs ys f g = f ∙ ap (λ l. xs ++ l) g ∙ sym (append_assoc xs ys cs)

pub read_on : (a b c : Option (List ℕ)) (xs ys zs : List ℕ) → zs ≡ xs ++ ys → Consumes a b xs → Consumes b c ys → Consumes a c zs
read_on a b c xs ys zs e f g = subst (Consumes a c) (sym e) (consumed_on a b c xs ys f g)

pub joined_length : (xs ys zs : List ℕ) → zs ≡ xs ++ ys → length zs ≡ length xs + length ys
joined_length xs ys zs e = ap length e ∙ length-append xs ys

-- the bytes taken by a read that failed, after those read before it
pub took_more : {F : Type 0} (a b c : Option (List ℕ)) (read : List ℕ) (refusal : Refusal F) (limit room : ℕ) → Consumes a b read → length read ≤ limit → room ≤ (limit + 1) - length read
    → TakesAtMost (most_taken refusal 0 room) b c → TakesAtMost (most_taken refusal limit (limit + 1)) a c
took_more a b c read (Fault fault) limit room before short fits more =
    record { bytes = read ++ more.bytes; takes = consumed_on a b c read more.bytes before more.takes; few = omega (arith, length-append read more.bytes, more.few) }
took_more a b c read NoMemory limit room before short fits more =
    record { bytes = read ++ more.bytes; takes = consumed_on a b c read more.bytes before more.takes; few = omega (arith, length-append read more.bytes, more.few) }
