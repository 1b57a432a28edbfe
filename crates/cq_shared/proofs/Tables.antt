-- Numbers of parts in a table.
use Rattle.std.proofs.Common.{◌≡◌, ℕ, zero, suc, ◌<◌, Bool, true, false, List, [], ◌∷◌, ◌++◌, length, get_or, set, refl, sym, ap, ap₂, ◌∙◌, subst, arith, length-append, ⊎_elim}
use Rattle.std.specs.Prelude.{◌==◌, ◌%◌}
use Rattle.std.proofs.lemmas.Bool.{eqb-true, eq-eqb, or_left, or_right, or_cases, and_parts, false_from_ne_true, cases_eq, cases_lt}
use Rattle.std.proofs.lemmas.List.{get_or_default}
use Rattle.std.proofs.lemmas.List.Folds.{list_any-append}
use Rattle.cq_shared.specs.Parts.{PartTree, same_part, is_at}
use Rattle.cq_shared.specs.PartTables.{hash_bytes, bucket_of, numbers_at, is_among, IsTable}
use Rattle.cq_shared.specs.Interning.{all_shown}
use Rattle.cq_shared.specs.declared.part.Part.{Part}
use Rattle.cq_shared.specs.declared.table.PartBucket.{PartBucket}
use Rattle.cq_shared.proofs.SameText.{one_text}
use Rattle.cq_shared.proofs.Seeking.{at_read}

no_true : {b : Bool} → b ≡ false → b ≡ true → ⊥
no_true e f = cc

-- parts that are the same have one place
same_place : (many : ℕ) (p r : PartTree) → same_part p r ≡ true → bucket_of many p ≡ bucket_of many r
unfolding bucket_of
same_place many p r same = ap (λ t. hash_bytes t % many) (one_text p.filter r.filter (and_parts _ _ same).1)

-- a test that fails at each of some numbers fails at one that is among them
among_false : (test : ℕ → Bool) (k : ℕ) (ks : List ℕ) → is_among k ks ≡ true → ((i : ℕ) → i < length ks → test (get_or ks i 0) ≡ false) → test k ≡ false
among_false test k [] among none = cc
among_false test k (x ∷ xs) among none = ⊎_elim
    (λ here. ap test (sym (eqb-true x k here)) ∙ none 0 (omega arith))
    (λ later. among_false test k xs later (λ i low. none (suc i) (omega (arith, low))))
    (or_cases (x == k) (is_among k xs) among)

-- a part that is the same as none at its place is the same as none
pub sought : (places : List PartBucket) (ps : List PartTree) (r : PartTree) (at : ℕ) (numbers : List ℕ) → IsTable places ps → at ≡ bucket_of (length places) r
    → numbers ≡ numbers_at places at → ((i : ℕ) → i < length numbers → is_at ps (get_or numbers i 0) r ≡ false) → (k : ℕ) → k < length ps → is_at ps k r ≡ false
sought places ps r at numbers table place there none k low = false_from_ne_true (is_at ps k r) (λ here.
    let p : PartTree = get_or ps k r in
    let reads : p ≡ get_or ps k p = get_or_default ps k r p low in
    let same : same_part p r ≡ true = sym (at_read ps k p r low reads) ∙ here in
    let among : is_among k numbers ≡ true =
    ap (is_among k) (there ∙ ap (numbers_at places) (place ∙ sym (same_place (length places) p r same))) ∙ table.stands k p low reads in
    no_true (among_false (λ j. is_at ps j r) k numbers among none) here)

-- a number that is put at a place

among_kept : (k n : ℕ) (ks : List ℕ) → is_among k ks ≡ true → is_among k (ks ++ n ∷ []) ≡ true
among_kept k n ks among = list_any-append (λ j. j == k) ks (n ∷ []) ∙ or_left (is_among k ks) (is_among k (n ∷ [])) among

among_last : (n : ℕ) (ks : List ℕ) → is_among n (ks ++ n ∷ []) ≡ true
among_last n ks = list_any-append (λ j. j == n) ks (n ∷ []) ∙ or_right (is_among n ks) (is_among n (n ∷ [])) (or_left (n == n) false (eq-eqb n n refl))

pub put_more : (places later : List PartBucket) (ps : List PartTree) (r : PartTree) (at n : ℕ) → IsTable places ps → at ≡ bucket_of (length places) r → n ≡ length ps
    → length later ≡ length places → numbers_at later at ≡ numbers_at places at ++ n ∷ [] → ((i : ℕ) → (i ≡ at → ⊥) → numbers_at later i ≡ numbers_at places i)
    → IsTable later (ps ++ r ∷ [])
put_more places later ps r at n table place last len here others = record {
  some = subst (λ m. 0 < m) (sym len) table.some;
  stands = λ k p low reads. ⊎_elim
      (λ before. kept k p (read_before ps r k p before reads) before)
      (λ past. let e : k ≡ length ps = omega (arith, past, low, length-append ps (r ∷ [])) in ends k p e (reads ∙ ap (λ j. get_or (ps ++ r ∷ []) j p) e))
      (cases_lt k (length ps));
}
  where
    read_before : (ps : List PartTree) (r : PartTree) (k : ℕ) (p : PartTree) → k < length ps → p ≡ get_or (ps ++ r ∷ []) k p → p ≡ get_or ps k p
    read_before [] r k p low reads = absurd (omega (arith, low))
    read_before (x ∷ xs) r zero p low reads = reads
    read_before (x ∷ xs) r (suc k) p low reads = read_before xs r k p (omega (arith, low)) reads

    read_end : (ps : List PartTree) (r p : PartTree) → get_or (ps ++ r ∷ []) (length ps) p ≡ r
    read_end [] r p = refl
    read_end (x ∷ xs) r p = read_end xs r p

    among_at : (k i : ℕ) → is_among k (numbers_at places i) ≡ true → is_among k (numbers_at later i) ≡ true
    among_at k i among = ⊎_elim
        (λ e. ap (is_among k) (ap (numbers_at later) e ∙ here) ∙ among_kept k n (numbers_at places at) (ap (λ j. is_among k (numbers_at places j)) (sym e) ∙ among))
        (λ other. ap (is_among k) (others i other) ∙ among)
        (cases_eq i at)

    kept : (k : ℕ) (p : PartTree) → p ≡ get_or ps k p → k < length ps → is_among k (numbers_at later (bucket_of (length later) p)) ≡ true
    kept k p reads low =
        ap (λ m. is_among k (numbers_at later (bucket_of m p))) len ∙ among_at k (bucket_of (length places) p) (table.stands k p low reads)

    ends : (k : ℕ) (p : PartTree) → k ≡ length ps → p ≡ get_or (ps ++ r ∷ []) (length ps) p → is_among k (numbers_at later (bucket_of (length later) p)) ≡ true
    ends k p e reads =
        ap₂ (λ j q. is_among j (numbers_at later (bucket_of (length later) q))) (e ∙ sym last) (reads ∙ read_end ps r p)
        ∙ ap (λ m. is_among n (numbers_at later (bucket_of m r))) len ∙ ap (λ i. is_among n (numbers_at later i)) (sym place) ∙ ap (is_among n) here
        ∙ among_last n (numbers_at places at)

-- no parts yet
pub none_yet : (places : List PartBucket) → 0 < length places → IsTable places []
none_yet places some = record { some = some; stands = λ k p low. absurd (omega (arith, low)) }

-- the numbers of a place, as it is read
pub numbers_read : (places : List PartBucket) (at : ℕ) (x : PartBucket) → at < length places → x ≡ get_or places at x → x.numbers.items ≡ numbers_at places at
numbers_read [] at x low reads = absurd (omega (arith, low))
numbers_read (y ∷ ys) zero x low reads = ap (λ z. z.numbers.items) reads
numbers_read (y ∷ ys) (suc at) x low reads = numbers_read ys at x (omega (arith, low)) reads

-- one place that is written
pub numbers_set : (places : List PartBucket) (at : ℕ) (x : PartBucket) → at < length places → numbers_at (set places at x) at ≡ x.numbers.items
numbers_set [] at x low = absurd (omega (arith, low))
numbers_set (y ∷ ys) zero x low = refl
numbers_set (y ∷ ys) (suc at) x low = numbers_set ys at x (omega (arith, low))

pub numbers_others : (places : List PartBucket) (at i : ℕ) (x : PartBucket) → (i ≡ at → ⊥) → numbers_at (set places at x) i ≡ numbers_at places i
numbers_others [] at i x other = refl
numbers_others (y ∷ ys) zero zero x other = absurd (other refl)
numbers_others (y ∷ ys) zero (suc i) x other = refl
numbers_others (y ∷ ys) (suc at) zero x other = refl
numbers_others (y ∷ ys) (suc at) (suc i) x other = numbers_others ys at i x (λ e. other (ap suc e))

pub table_none : (places : List PartBucket) (parts : List Part) → 0 < length places → parts ≡ [] → IsTable places (all_shown parts)
table_none places parts some none = subst (λ ps. IsTable places (all_shown ps)) (sym none) (none_yet places some)
