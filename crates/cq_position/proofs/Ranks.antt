-- The squares of a rank, filled from the a-file on.
use Rattle.std.proofs.Common.{◌≡◌, ℕ, suc, ◌+◌, ◌-◌, ◌<◌, ◌≤◌, Bool, true, false, ◌&&◌, eqb, List, [], ◌∷◌, ◌++◌, length, take, drop, get_or, set, replicate, refl, sym, ap, ◌∙◌, arith, inl, inr, ◌⊎◌, zero}
use Rattle.std.specs.List.{list_all}
use Rattle.std.proofs.lemmas.List.{take_more, take-append-drop, append_assoc, append-nil, length-append, length-replicate, set_at, replicate-append-replicate}
use Rattle.std.proofs.lemmas.List.Concat.{flat_map-append}
use Rattle.std.proofs.lemmas.List.Folds.{list_all_more, list_all_at}
use Rattle.std.proofs.lemmas.Bool.Decides.{nat_tests}
use Rattle.cq_position.specs.declared.men.Man.{Man}
use Rattle.cq_position.specs.declared.men.Man.TheVariants.{Empty}
use Rattle.cq_position.specs.Fen.{squares_of, is_rank_byte, rank_squares, is_rank}
use Rattle.cq_position.specs.Reading.{IsRunOf}

-- the row has the squares of the first i bytes, and is empty after them
pub record IsRowTo (text : List ℕ) (i file : ℕ) (row : List Man) : Type 0 where
  pub fits : file ≤ 8
  pub squares : row ≡ rank_squares (take i text) ++ replicate (8 - file) Empty
  pub width : length (rank_squares (take i text)) ≡ file
  pub bytes : list_all is_rank_byte (take i text) ≡ true

squares-more : (text : List ℕ) (i : ℕ) → i < length text → rank_squares (take (i + 1) text) ≡ rank_squares (take i text) ++ squares_of (get_or text i 0)
squares-more text i lt = rw (take_more text i 0 lt, flat_map-append squares_of (take i text) (get_or text i 0 ∷ []), append-nil) refl

replicate-first : (n : ℕ) (m : Man) → 1 ≤ n → replicate n m ≡ m ∷ replicate (n - 1) m
replicate-first zero m low = absurd (omega arith)
replicate-first (suc n) m low = let e : suc n - 1 ≡ n = omega arith in rw e refl

-- a square after the front, and those that were empty after it
set_first : (front : List Man) (n : ℕ) (m : Man) → 1 ≤ n → set (front ++ replicate n Empty) (length front) m ≡ front ++ m ∷ replicate (n - 1) Empty
set_first front n m low = rw (replicate-first n Empty low) (set_at front Empty (replicate (n - 1) Empty) m (length front) refl)

-- writing the first square of a run of empty ones leaves them all
set_run : (front : List Man) (n w : ℕ) (m : Man) → 1 ≤ w → w ≤ n → (w ≡ 1) ⊎ (m ≡ Empty) → set (front ++ replicate n Empty) (length front) m ≡ (front ++ replicate w m) ++ replicate (n - w) Empty
set_run front n w m low le (inl one) = set_first front n m (omega arith) ∙ rw (one, append_assoc) refl
set_run front n w m low le (inr empty) =
    let all : w + (n - w) ≡ n = omega arith in
    set_first front n m (omega arith) ∙ rw (empty, append_assoc, replicate-append-replicate, all) (ap (λ rest. front ++ rest) (sym (replicate-first n Empty (omega arith))))

pub IsRowTo-more : (text : List ℕ) (i file : ℕ) (row : List Man) (man : Man) (width : ℕ) → i < length text → IsRunOf (get_or text i 0) man width → width ≤ 8 - file → IsRowTo text i file row
    → IsRowTo text (i + 1) (file + width) (set row file man)
IsRowTo-more text i file row man width lt run le r =
    let rest : 8 - (file + width) ≡ 8 - file - width = omega arith in
    let run_of : length (replicate width man) ≡ width = length-replicate width man in
    let fits = r.fits in
    record {
      fits = omega arith;
      squares = rw (squares-more text i lt, run.squares, rest, r.squares, ← r.width)
          (set_run (rank_squares (take i text)) (8 - length (rank_squares (take i text))) width man run.some (rw r.width le) run.alone);
      width = rw (squares-more text i lt, run.squares, length-append, run_of, r.width) refl;
      bytes = rw (list_all_more is_rank_byte text i 0 lt, r.bytes, run.known) refl;
    }

past_eight : (n : ℕ) → 8 < n → eqb n 8 ≡ false
past_eight n gt = grind (arith, nat_tests)

not_rank : (bytes width : Bool) → (bytes ≡ false) ⊎ (width ≡ false) → (bytes && width) ≡ false
not_rank true width (inl e) = cc
not_rank true width (inr e) = e
not_rank false width e = refl

-- a byte that stands for no square
pub bad_byte : (text : List ℕ) (i : ℕ) → i < length text → is_rank_byte (get_or text i 0) ≡ false → is_rank text ≡ false
bad_byte text i lt bad = not_rank _ _ (inl (list_all_at is_rank_byte text i 0 lt bad))

-- a run that goes past the h-file
pub overlong : (text : List ℕ) (i file : ℕ) (row : List Man) (man : Man) (width : ℕ) → i < length text → IsRunOf (get_or text i 0) man width
    → 8 - file < width → IsRowTo text i file row → is_rank text ≡ false
overlong text i file row man width lt run gt r =
    let front : length (rank_squares (take (i + 1) text)) ≡ file + width = rw (squares-more text i lt, run.squares, length-append, length-replicate, r.width) refl in
    let parts : rank_squares text ≡ rank_squares (take (i + 1) text)
    ++ rank_squares (drop (i + 1) text) = rw (← flat_map-append squares_of (take (i + 1) text) (drop (i + 1) text), take-append-drop) refl in
    let whole : length (rank_squares text) ≡ length (rank_squares (take (i + 1) text)) + length (rank_squares (drop (i + 1) text)) = ap length parts ∙ length-append _ _ in
    let fits = r.fits in
    not_rank _ _ (inr (past_eight (length (rank_squares text)) (omega arith)))
