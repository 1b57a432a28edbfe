-- Texts joined by a byte come apart again.
use Rattle.std.proofs.Common.{◌≡◌, ℕ, Bool, true, false, not, ◌&&◌, eqb, ◌≤◌, length, List, [], ◌∷◌, ◌++◌, refl, sym, ap, ◌∙◌, append_assoc, arith}
use Rattle.std.specs.List.{list_all, filter, join_with_byte}
use Rattle.std.proofs.lemmas.List.Folds.{list_all-append}
use Rattle.std.proofs.lemmas.List.Splits.{slice_split_none, slice_split_at}
use Rattle.std.proofs.lemmas.Bool.Decides.{nat_tests}
use Rattle.std.proofs.lemmas.List.Sums.{AllPass-from_list_all}
use Rattle.cq_position.specs.Fen.{parts, fields, is_not_empty}

-- a byte is another one
abbrev pub is_not : ℕ → ℕ → Bool
is_not byte b = not (eqb b byte)

pub left_true : (b c : Bool) → (b && c) ≡ true → b ≡ true
left_true true c e = refl
left_true false c e = cc

pub right_true : (b c : Bool) → (b && c) ≡ true → c ≡ true
right_true true c e = e
right_true false c e = cc

false_of : (b : Bool) → not b ≡ true → b ≡ false
false_of true e = sym e
false_of false e = refl

same_byte : (c : ℕ) → eqb c c ≡ true
same_byte c = grind (arith, nat_tests)

pub parts_last : (c : ℕ) (x : List ℕ) → list_all (is_not c) x ≡ true → parts c x ≡ x ∷ []
parts_last c x e = slice_split_none (λ b. eqb b c) x (λ k d h. false_of _ (AllPass-from_list_all (is_not c) x e k d h))

pub parts_more : (c : ℕ) (x rest : List ℕ) → list_all (is_not c) x ≡ true → parts c (x ++ c ∷ rest) ≡ x ∷ parts c rest
parts_more c x rest e = slice_split_at (λ b. eqb b c) x c rest (λ k d h. false_of _ (AllPass-from_list_all (is_not c) x e k d h)) (same_byte c)

-- the parts of texts without the byte, joined by it
pub parts_join : (c : ℕ) (x : List ℕ) (xs : List (List ℕ)) → list_all (list_all (is_not c)) (x ∷ xs) ≡ true → parts c (join_with_byte c (x ∷ xs)) ≡ x ∷ xs
parts_join c x [] e = parts_last c x (left_true _ _ e)
parts_join c x (y ∷ xs) e = parts_more c x (join_with_byte c (y ∷ xs)) (left_true _ _ e) ∙ ap (λ rest. x ∷ rest) (parts_join c y xs (right_true (list_all (is_not c) x) _ e))

-- the joined text passes a test that each text and the byte between them pass
pub all_join : (q : ℕ → Bool) (c : ℕ) (xs : List (List ℕ)) → q c ≡ true → list_all (list_all q) xs ≡ true → list_all q (join_with_byte c xs) ≡ true
all_join q c [] e a = refl
all_join q c (x ∷ []) e a = left_true _ _ a
all_join q c (x ∷ y ∷ xs) e a = rw (list_all-append q x (c ∷ join_with_byte c (y ∷ xs)), left_true (list_all q x) _ a, e) (all_join q c (y ∷ xs) e (right_true (list_all q x) _ a))

pub all_weaker : (p q : ℕ → Bool) → ((b : ℕ) → p b ≡ true → q b ≡ true) → (xs : List ℕ) → list_all p xs ≡ true → list_all q xs ≡ true
all_weaker p q f [] e = refl
all_weaker p q f (x ∷ xs) e = rw (f x (left_true (p x) _ e)) (all_weaker p q f xs (right_true (p x) _ e))

filter_all : (p : List ℕ → Bool) (xs : List (List ℕ)) → list_all p xs ≡ true → filter p xs ≡ xs
filter_all p [] e = refl
filter_all p (x ∷ xs) e = rw (left_true (p x) _ e) (ap (λ rest. x ∷ rest) (filter_all p xs (right_true (p x) _ e)))

-- the fields of texts without a space, joined by spaces
pub fields_join : (x : List ℕ) (xs : List (List ℕ)) → list_all (list_all (is_not 32)) (x ∷ xs) ≡ true → list_all is_not_empty (x ∷ xs) ≡ true → fields (join_with_byte 32 (x ∷ xs)) ≡ x ∷ xs
unfolding fields
fields_join x xs e f = ap (filter is_not_empty) (parts_join 32 x xs e) ∙ filter_all is_not_empty (x ∷ xs) f

pub is_not_empty-append : (xs : List ℕ) (y : ℕ) (ys : List ℕ) → is_not_empty (xs ++ y ∷ ys) ≡ true
is_not_empty-append [] y ys = refl
is_not_empty-append (x ∷ xs) y ys = refl

-- a test of a text that has some bytes
pub some_letters : (t : Bool) (text : List ℕ) → 1 ≤ length text → (is_not_empty text && t) ≡ t
some_letters t [] some = absurd (omega arith)
some_letters t (x ∷ xs) some = refl

-- four texts that were written one after another
pub in_a_row : (s a b c d : List ℕ) → (((s ++ a) ++ b) ++ c) ++ d ≡ s ++ (a ++ (b ++ (c ++ d)))
in_a_row s a b c d = simp append_assoc
