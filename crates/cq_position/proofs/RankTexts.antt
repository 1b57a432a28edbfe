-- The text of a rank means its squares.
use Rattle.std.proofs.Common.{◌≡◌, ℕ, zero, suc, ◌+◌, ◌-◌, ◌≤◌, true, eqb, Option, Some, None, List, [], ◌∷◌, ◌++◌, length, take, drop, replicate, refl, ap, ◌∙◌, arith, inl, inr}
use Rattle.std.specs.List.{list_all, join_with_byte}
use Rattle.std.proofs.lemmas.Bool.{cases_Bool, eqb-true}
use Rattle.std.proofs.lemmas.Bool.Decides.{nat_tests}
use Rattle.std.proofs.lemmas.List.{append-nil, append_assoc, replicate_more, take-append-drop, drop-drop, length-take, length-drop, take_all}
use Rattle.std.proofs.lemmas.List.Folds.{list_all-append}
use Rattle.std.proofs.lemmas.List.Concat.{flat_map-append}
use Rattle.cq_position.specs.declared.men.Man.{Man}
use Rattle.cq_position.specs.declared.men.Man.TheVariants.{K, Q, R, B, N, P, BlackK, BlackQ, BlackR, BlackB, BlackN, BlackP, Empty}
use Rattle.cq_position.specs.Men.{letter_of_man}
use Rattle.cq_position.specs.Fen.{is_within, squares_of, is_rank_byte, rank_squares, is_rank, is_placement, placed_men, is_not_empty}
use Rattle.cq_position.specs.FenText.{run_text, letter_text, run_after, rank_text, placement_text}
use Rattle.cq_position.proofs.Joined.{is_not, parts_join, all_join, all_weaker, is_not_empty-append}

-- a text of so many empty squares and the men after them
record Spells (text : List ℕ) (men : List Man) : Type 0 where
  bytes : list_all is_rank_byte text ≡ true
  squares : rank_squares text ≡ men

within_digits : (k : ℕ) → k ≤ 7 → is_within 49 56 (49 + k) ≡ true
within_digits k le = grind (arith, nat_tests)

run_spells : (n : ℕ) → n ≤ 8 → Spells (run_text n) (replicate n Empty)
run_spells zero le = record { bytes = refl; squares = refl }
run_spells (suc k) le =
    let digit = within_digits k (omega arith) in
    let width : 49 + k - 48 ≡ suc k = omega arith in
    record { bytes = rw digit refl; squares = rw (digit, width) (append-nil (replicate (suc k) Empty)) }

spells-append : (s t : List ℕ) (ms ns : List Man) → Spells s ms → Spells t ns → Spells (s ++ t) (ms ++ ns)
spells-append s t ms ns p q = record {
  bytes = rw (list_all-append is_rank_byte s t, p.bytes, q.bytes) refl;
  squares = rw (flat_map-append squares_of s t, p.squares, q.squares) refl;
}

-- the man of a man's letter
abbrev LetterFits : Man → Option ℕ → Type 0
LetterFits man None = man ≡ Empty
LetterFits man (Some letter) = Spells (letter ∷ []) (man ∷ [])

letter_fits : (man : Man) → LetterFits man (letter_of_man man)
letter_fits K = record { bytes = refl; squares = refl }
letter_fits Q = record { bytes = refl; squares = refl }
letter_fits R = record { bytes = refl; squares = refl }
letter_fits B = record { bytes = refl; squares = refl }
letter_fits N = record { bytes = refl; squares = refl }
letter_fits P = record { bytes = refl; squares = refl }
letter_fits BlackK = record { bytes = refl; squares = refl }
letter_fits BlackQ = record { bytes = refl; squares = refl }
letter_fits BlackR = record { bytes = refl; squares = refl }
letter_fits BlackB = record { bytes = refl; squares = refl }
letter_fits BlackN = record { bytes = refl; squares = refl }
letter_fits BlackP = record { bytes = refl; squares = refl }
letter_fits Empty = refl

rank_step : (n : ℕ) (man : Man) (men : List Man) (o : Option ℕ) → n ≤ 8 → LetterFits man o → Spells (rank_text (run_after n o) men) (replicate (run_after n o) Empty ++ men)
    → Spells (letter_text n o ++ rank_text (run_after n o) men) (replicate n Empty ++ man ∷ men)
rank_step n man men None le empty ih =
    let all : replicate (n + 1) Empty ++ men ≡ replicate n Empty ++ man ∷ men = rw (empty, ← replicate_more n Empty, append_assoc) refl in
    rw (← all) ih
rank_step n man men (Some letter) le fits ih =
    let all : (replicate n Empty ++ man ∷ []) ++ men ≡ replicate n Empty ++ man ∷ men = rw append_assoc refl in
    rw (← all) (spells-append _ _ _ _ (spells-append _ _ _ _ (run_spells n le) fits) ih)

room : (n m : ℕ) (o : Option ℕ) → n + 1 + m ≤ 8 → run_after n o + m ≤ 8
room n m None le = le
room n m (Some letter) le = omega arith

rank_spells : (n : ℕ) (men : List Man) → n + length men ≤ 8 → Spells (rank_text n men) (replicate n Empty ++ men)
rank_spells n [] le = rw (append-nil (replicate n Empty)) (run_spells n (omega arith))
rank_spells n (man ∷ men) le =
    rank_step n man men (letter_of_man man) (omega arith) (letter_fits man) (rank_spells (run_after n (letter_of_man man)) men (room n (length men) (letter_of_man man) (omega arith)))

no_slash : is_rank_byte 47 ≡ true → ⊥
no_slash e = cc

no_space : is_rank_byte 32 ≡ true → ⊥
no_space e = cc

-- no byte of a rank is a slash or a space
not_slash : (b : ℕ) → is_rank_byte b ≡ true → is_not 47 b ≡ true
not_slash b e = elim (cases_Bool (eqb b 47)) [ inl f ↦ absurd (no_slash (rw (eqb-true b 47 f) at e)) | inr f ↦ rw f refl ]

not_space : (b : ℕ) → is_rank_byte b ≡ true → is_not 32 b ≡ true
not_space b e = elim (cases_Bool (eqb b 32)) [ inl f ↦ absurd (no_space (rw (eqb-true b 32 f) at e)) | inr f ↦ rw f refl ]

-- a whole rank
pub record IsRankText (text : List ℕ) (row : List Man) : Type 0 where
  pub rank : is_rank text ≡ true
  pub squares : rank_squares text ≡ row
  pub slashes : list_all (is_not 47) text ≡ true
  pub spaces : list_all (is_not 32) text ≡ true

pub rank_whole : (row : List Man) → length row ≡ 8 → IsRankText (rank_text 0 row) row
rank_whole row eight =
    let s = rank_spells 0 row (omega arith) in
    let width : length (rank_squares (rank_text 0 row)) ≡ 8 = ap length s.squares ∙ eight in
    record {
      rank = rw (s.bytes, width) refl;
      squares = s.squares;
      slashes = all_weaker is_rank_byte (is_not 47) not_slash (rank_text 0 row) s.bytes;
      spaces = all_weaker is_rank_byte (is_not 32) not_space (rank_text 0 row) s.bytes;
    }

row_length : (men : List Man) (a : ℕ) → length men ≡ 64 → a ≤ 56 → length (take 8 (drop a men)) ≡ 8
row_length men a e le = omega (arith, length-take 8 (drop a men), length-drop a men)

-- the rows of a board, one after the other
cut_row : (men : List Man) (a b : ℕ) → a + 8 ≡ b → take 8 (drop a men) ++ drop b men ≡ drop a men
cut_row men a b e = rw (← e, ← drop-drop 8 a men) (take-append-drop 8 (drop a men))

rows : (men : List Man) → length men ≡ 64
    → take 8 (drop 0 men) ++ (take 8 (drop 8 men) ++ (take 8 (drop 16 men)
    ++ (take 8 (drop 24 men) ++ (take 8 (drop 32 men) ++ (take 8 (drop 40 men) ++ (take 8 (drop 48 men) ++ (take 8 (drop 56 men) ++ []))))))) ≡ men
rows men e =
    let last : take 8 (drop 56 men) ≡ drop 56 men = take_all 8 (drop 56 men) (omega (arith, length-drop 56 men)) in
    rw (append-nil, last, cut_row men 48 56 refl, cut_row men 40 48 refl, cut_row men 32 40 refl, cut_row men 24 32 refl, cut_row men 16 24 refl, cut_row men 8 16 refl) (cut_row men 0 8 refl)

-- the placement of a board's men
pub record IsPlacementOf (text : List ℕ) (men : List Man) : Type 0 where
  pub placed : is_placement text ≡ true
  pub men_are : placed_men text ≡ men
  pub spaces : list_all (is_not 32) text ≡ true
  pub some : is_not_empty text ≡ true

eight_ranks : (a b c d e f g h : List ℕ) (p q r s t u v w : List Man)
    → IsRankText a p → IsRankText b q → IsRankText c r → IsRankText d s → IsRankText e t → IsRankText f u → IsRankText g v → IsRankText h w
    → IsPlacementOf (join_with_byte 47 (a ∷ b ∷ c ∷ d ∷ e ∷ f ∷ g ∷ h ∷ [])) (w ++ (v ++ (u ++ (t ++ (s ++ (r ++ (q ++ (p ++ []))))))))
unfolding is_placement placed_men
eight_ranks a b c d e f g h p q r s t u v w ra rb rc rd re rf rg rh =
    let split = parts_join 47 a (b ∷ c ∷ d ∷ e ∷ f ∷ g ∷ h ∷ []) (rw (ra.slashes, rb.slashes, rc.slashes, rd.slashes, re.slashes, rf.slashes, rg.slashes, rh.slashes) refl) in
    record {
      placed = rw (split, ra.rank, rb.rank, rc.rank, rd.rank, re.rank, rf.rank, rg.rank, rh.rank) refl;
      men_are = rw (split, ra.squares, rb.squares, rc.squares, rd.squares, re.squares, rf.squares, rg.squares, rh.squares) refl;
      spaces = all_join (is_not 32) 47 (a ∷ b ∷ c ∷ d ∷ e ∷ f ∷ g ∷ h ∷ []) refl (rw (ra.spaces, rb.spaces, rc.spaces, rd.spaces, re.spaces, rf.spaces, rg.spaces, rh.spaces) refl);
      some = is_not_empty-append a 47 (join_with_byte 47 (b ∷ c ∷ d ∷ e ∷ f ∷ g ∷ h ∷ []));
    }

pub placement_back : (men : List Man) → length men ≡ 64 → IsPlacementOf (placement_text men) men
placement_back men e =
    let row = λ (a : ℕ) (le : a ≤ 56). rank_whole (take 8 (drop a men)) (row_length men a e le) in
    let all = eight_ranks _ _ _ _ _ _ _ _ _ _ _ _ _ _ _ _ (row 56 (omega arith)) (row 48 (omega arith)) (row 40 (omega arith)) (row 32 (omega arith))
    (row 24 (omega arith)) (row 16 (omega arith)) (row 8 (omega arith)) (row 0 (omega arith)) in
    rw (rows men e) at all
