-- The lines of words are rows of them.
use Rattle.std.proofs.Common.{◌≡◌, ℕ, ◌+◌, ◌≤◌, Bool, true, false, cond, inl, inr, List, [], ◌∷◌, ◌++◌, length, refl, sym, ap, ◌∙◌, subst, arith, append_assoc, append-nil, length-append}
use Rattle.std.specs.Prelude.{nat_le}
use Rattle.std.specs.List.{join_with_byte}
use Rattle.std.proofs.lemmas.Bool.{leb-true}
use Rattle.std.proofs.lemmas.List.Concat.{flat_map-cons}
use Rattle.pgn_export.specs.Lines.{filled, lines}
use Rattle.pgn_export.specs.Rows.{row_of_words, IsFitting, AreInRows}

-- a row with one word more
joined_more : (v : List ℕ) (vs : List (List ℕ)) (w : List ℕ) → join_with_byte 32 (v ∷ vs ++ w ∷ []) ≡ join_with_byte 32 (v ∷ vs) ++ (32 ∷ w)
joined_more v [] w = refl
joined_more v (x ∷ xs) w = ap (λ l. v ++ (32 ∷ l)) (joined_more x xs w) ∙ sym (append_assoc v (32 ∷ join_with_byte 32 (x ∷ xs)) (32 ∷ w))

row_first : (row : List (List ℕ)) (ws : List (List ℕ)) (text : List ℕ) → IsFitting row → AreInRows ws text → AreInRows (row ++ ws) (row_of_words row ++ text)
row_first row ws text fits rest = record {
  rows = row ∷ rest.rows;
  all = flat_map-cons (λ row. row) row rest.rows ∙ ap (λ l. row ++ l) rest.all;
  written = ap (λ l. row_of_words row ++ l) rest.written ∙ sym (flat_map-cons row_of_words row rest.rows);
  fitting = (fits, rest.fitting);
}

none_left : AreInRows [] []
none_left = record { rows = []; all = refl; written = refl; fitting = tt }

longer_row : (v : List ℕ) (vs : List (List ℕ)) (w : List ℕ) → length (join_with_byte 32 (v ∷ vs)) + 1 + length w ≤ 79 → IsFitting (v ∷ vs ++ w ∷ [])
longer_row v vs w few =
    let n : length (join_with_byte 32 (v ∷ vs ++ w ∷ [])) ≡ length (join_with_byte 32 (v ∷ vs)) + length (32 ∷ w) = ap length (joined_more v vs w)
    ∙ length-append (join_with_byte 32 (v ∷ vs)) (32 ∷ w) in
    (omega arith, inl (omega (arith, few, n)))

-- a row takes the next word, or ends
by_room : (room : Bool) (v : List ℕ) (vs : List (List ℕ)) (w : List ℕ) (ws : List (List ℕ)) → nat_le (length (join_with_byte 32 (v ∷ vs)) + 1 + length w) 79 ≡ room
    → IsFitting (v ∷ vs) → (IsFitting (v ∷ vs ++ w ∷ []) → AreInRows ((v ∷ vs ++ w ∷ []) ++ ws) (filled (join_with_byte 32 (v ∷ vs ++ w ∷ [])) ws)) → AreInRows (w ∷ ws) (filled w ws)
    → AreInRows (v ∷ vs ++ (w ∷ ws)) (cond room (filled (join_with_byte 32 (v ∷ vs) ++ (32 ∷ w)) ws) (join_with_byte 32 (v ∷ vs) ++ (10 ∷ filled w ws)))
by_room true v vs w ws is fits longer next =
    let few = leb-true (length (join_with_byte 32 (v ∷ vs)) + 1 + length w) 79 is in
    subst (λ l. AreInRows l (filled (join_with_byte 32 (v ∷ vs) ++ (32 ∷ w)) ws)) (append_assoc (v ∷ vs) (w ∷ []) ws)
    (subst (λ t. AreInRows ((v ∷ vs ++ w ∷ []) ++ ws) (filled t ws)) (joined_more v vs w) (longer (longer_row v vs w few)))
by_room false v vs w ws is fits longer next =
    subst (AreInRows (v ∷ vs ++ (w ∷ ws))) (append_assoc (join_with_byte 32 (v ∷ vs)) (10 ∷ []) (filled w ws))
    (row_first (v ∷ vs) (w ∷ ws) (filled w ws) fits next)

filled_rows : (ws : List (List ℕ)) (v : List ℕ) (vs : List (List ℕ)) → IsFitting (v ∷ vs) → AreInRows (v ∷ vs ++ ws) (filled (join_with_byte 32 (v ∷ vs)) ws)
unfolding filled
filled_rows [] v vs fits = subst (AreInRows (v ∷ vs ++ [])) (append-nil (row_of_words (v ∷ vs))) (row_first (v ∷ vs) [] [] fits none_left)
filled_rows (w ∷ ws) v vs fits =
    by_room (nat_le (length (join_with_byte 32 (v ∷ vs)) + 1 + length w) 79) v vs w ws refl fits (λ longer. filled_rows ws v (vs ++ w ∷ []) longer) (filled_rows ws w [] (omega arith, inr refl))

pub in_rows : (words : List (List ℕ)) → AreInRows words (lines words)
in_rows [] = none_left
in_rows (w ∷ ws) = filled_rows ws w [] (omega arith, inr refl)
