-- A list in memory in reverse order.
use Rattle.std.proofs.Common.{◌≡◌, ℕ, ◌+◌, ◌-◌, ◌<◌, List, [], ◌∷◌, ◌++◌, length, get_or, set, reverse, take, drop, sym, ap, ◌∙◌, arith}
use Rattle.std.proofs.lemmas.List.{length-reverse, length-drop, length-set, take-append-drop, take_all, take_more, take_more_set, reverse-append}
use Rattle.std.proofs.Math.Seq.{drop-append_seam}

first_gone : {A : Type 0} (n : ℕ) (a b : List A) → length a ≡ n → drop n (a ++ b) ≡ b
first_gone n a b e = ap (λ k. drop k (a ++ b)) (sym e) ∙ drop-append_seam a b

-- without its last item
pub last_gone : {A : Type 0} (xs : List A) → 0 < length xs → reverse (take (length xs - 1) xs) ≡ drop 1 (reverse xs)
last_gone xs some_ =
    let k = length xs - 1 in
    let last = drop k xs in
    let whole : reverse xs ≡ reverse last ++ reverse (take k xs) = ap reverse (sym (take-append-drop k xs)) ∙ reverse-append (take k xs) last in
    let one : length (reverse last) ≡ 1 = length-reverse last ∙ (let l = length-drop k xs in omega arith) in
    sym (ap (drop 1) whole ∙ first_gone 1 (reverse last) (reverse (take k xs)) one)

-- the last item is the first of the reversed list
pub last_first : {A : Type 0} (xs : List A) (k : ℕ) (d : A) → k + 1 ≡ length xs → reverse xs ≡ get_or xs k d ∷ reverse (take k xs)
last_first xs k d last =
    ap reverse (sym (take_all (k + 1) xs (omega (arith, last))) ∙ take_more xs k d (omega (arith, last))) ∙ reverse-append (take k xs) (get_or xs k d ∷ [])

-- another item in its place
pub last_set : {A : Type 0} (xs : List A) (k : ℕ) (x : A) → k + 1 ≡ length xs → reverse (set xs k x) ≡ x ∷ reverse (take k xs)
last_set xs k x last =
    let len = length-set xs k x in
    ap reverse (sym (take_all (k + 1) (set xs k x) (omega (arith, last, len))) ∙ take_more_set xs k x (omega (arith, last))) ∙ reverse-append (take k xs) (x ∷ [])
