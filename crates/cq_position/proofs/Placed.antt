-- The men of the ranks read so far, the eighth first.
use Rattle.std.proofs.Common.{◌≡◌, ℕ, ◌+◌, ◌-◌, ◌*◌, ◌<◌, ◌≤◌, Bool, true, false, ◌&&◌, eqb, List, [], ◌∷◌, ◌++◌, length, take, drop, get_or, reverse, replicate, refl, sym, ap, ◌∙◌, arith, inl, inr, ◌⊎◌}
use Rattle.std.specs.List.{list_all, flat_map}
use Rattle.std.proofs.lemmas.List.{take_more, drop_more, take_all, append_assoc, append-nil, length-drop, length-replicate, reverse-append, take_at, drop_at, replicate-append-replicate}
use Rattle.std.proofs.lemmas.List.Folds.{list_all_more, list_all_at}
use Rattle.std.proofs.lemmas.List.Splits.{length-slice_split}
use Rattle.std.proofs.lemmas.Bool.Decides.{nat_tests}
use borrow.Rule.Slice.PartMut.{put_mid}
use Rattle.cq_position.specs.declared.men.Man.{Man}
use Rattle.cq_position.specs.declared.men.Man.TheVariants.{Empty}
use Rattle.cq_position.specs.Fen.{parts, rank_squares, is_rank, is_placement, placed_men}

-- the men of the first ranks stand above squares that are empty so far
pub record IsPlacedTo (ranks : List (List ℕ)) (done : ℕ) (men : List Man) (left : List (List ℕ)) : Type 0 where
  pub enough : done ≤ length ranks
  pub left_is : left ≡ drop done ranks
  pub read : list_all is_rank (take done ranks) ≡ true
  pub men_are : men ≡ replicate (64 - 8 * done) Empty ++ flat_map rank_squares (reverse (take done ranks))

pub IsPlacedTo-start : (ranks : List (List ℕ)) → IsPlacedTo ranks 0 (replicate 64 Empty) ranks
IsPlacedTo-start ranks = record { enough = omega arith; left_is = refl; read = refl; men_are = sym (append-nil (replicate 64 Empty)) }

-- the next rank is the first of those left
within : (ranks : List (List ℕ)) (done : ℕ) (first : List ℕ) (left : List (List ℕ)) → first ∷ left ≡ drop done ranks → done < length ranks
within ranks done first left e = let n = ap length e ∙ length-drop done ranks in omega arith

put_row : (n : ℕ) (row back : List Man) → put_mid n 8 (replicate (n + 8) Empty ++ back) row ≡ replicate n Empty ++ (row ++ back)
put_row n row back =
    let split : replicate (n + 8) Empty ++ back ≡ replicate n Empty ++ (replicate 8 Empty ++ back) = rw (← replicate-append-replicate n 8 Empty, append_assoc) refl in
    rw (split, take_at (replicate n Empty) (replicate 8 Empty ++ back) n (length-replicate n Empty), drop_at (replicate n Empty) (replicate 8 Empty ++ back) n (length-replicate n Empty)) refl

ranks-more : (ranks : List (List ℕ)) (done : ℕ) → done < length ranks
    → flat_map rank_squares (reverse (take (done + 1) ranks)) ≡ rank_squares (get_or ranks done []) ++ flat_map rank_squares (reverse (take done ranks))
ranks-more ranks done lt = rw (take_more ranks done [] lt, reverse-append (take done ranks) (get_or ranks done [] ∷ [])) refl

pub IsPlacedTo-more : (ranks : List (List ℕ)) (done : ℕ) (men row : List Man) (first : List ℕ) (left : List (List ℕ)) → done < 8
    → IsPlacedTo ranks done men (first ∷ left) → is_rank first ≡ true → row ≡ rank_squares first
    → IsPlacedTo ranks (done + 1) (put_mid (56 - 8 * done) 8 men row) left
IsPlacedTo-more ranks done men row first left lt p is e =
    let there = within ranks done first left p.left_is in
    let cut = drop_more ranks done [] there in
    let both : first ∷ left ≡ get_or ranks done [] ∷ drop (done + 1) ranks = p.left_is ∙ cut in
    let this : first ≡ get_or ranks done [] = cc in
    let all : 64 - 8 * done ≡ 56 - 8 * done + 8 = omega arith in
    let rest : 64 - 8 * (done + 1) ≡ 56 - 8 * done = omega arith in
    record {
      enough = omega arith;
      left_is = cc;
      read = rw (list_all_more is_rank ranks done [] there, p.read, ← this, is) refl;
      men_are = rw (rest, p.men_are, all, put_row (56 - 8 * done) row (flat_map rank_squares (reverse (take done ranks))), ranks-more ranks done there, ← this, e) refl;
    }

-- a rank that is none, and too few or too many of them
pub bad_rank : (ranks : List (List ℕ)) (done : ℕ) (men : List Man) (first : List ℕ) (left : List (List ℕ)) → IsPlacedTo ranks done men (first ∷ left)
    → is_rank first ≡ false → list_all is_rank ranks ≡ false
bad_rank ranks done men first left p bad =
    let there = within ranks done first left p.left_is in
    let cut = drop_more ranks done [] there in
    let both : first ∷ left ≡ get_or ranks done [] ∷ drop (done + 1) ranks = p.left_is ∙ cut in
    let this : first ≡ get_or ranks done [] = cc in
    list_all_at is_rank ranks done [] there (rw (← this) bad)

not_placement : (length_is ranks : Bool) → (length_is ≡ false) ⊎ (ranks ≡ false) → (length_is && ranks) ≡ false
not_placement true ranks (inl e) = cc
not_placement true ranks (inr e) = e
not_placement false ranks e = refl

not_eight : (n : ℕ) → (n ≡ 8 → ⊥) → eqb n 8 ≡ false
not_eight n ne = grind (arith, nat_tests)

pub bad_placement : (text : List ℕ) → list_all is_rank (parts 47 text) ≡ false → is_placement text ≡ false
unfolding is_placement
bad_placement text bad = not_placement _ _ (inr bad)

-- fewer than eight ranks
pub few_ranks : (text : List ℕ) (done : ℕ) (men : List Man) → done < 8 → IsPlacedTo (parts 47 text) done men [] → is_placement text ≡ false
unfolding is_placement
few_ranks text done men lt p =
    let n = ap length p.left_is ∙ length-drop done (parts 47 text) in
    let fewer : length (parts 47 text) ≡ 8 → ⊥ = λ e. omega arith in
    not_placement _ _ (inl (not_eight (length (parts 47 text)) fewer))

-- more than eight ranks
pub many_ranks : (text rest : List ℕ) (men : List Man) → IsPlacedTo (parts 47 text) 8 men (parts 47 rest) → is_placement text ≡ false
unfolding is_placement
many_ranks text rest men p =
    let n = ap length p.left_is ∙ length-drop 8 (parts 47 text) in
    let some = length-slice_split (λ b. eqb b 47) rest in
    let more : length (parts 47 text) ≡ 8 → ⊥ = λ e. omega arith in
    not_placement _ _ (inl (not_eight (length (parts 47 text)) more))

pub all_placed : (text : List ℕ) (men : List Man) → IsPlacedTo (parts 47 text) 8 men [] → (is_placement text ≡ true) × (men ≡ placed_men text)
unfolding is_placement placed_men
all_placed text men p =
    let n = ap length p.left_is ∙ length-drop 8 (parts 47 text) in
    let enough = p.enough in
    let eight : length (parts 47 text) ≡ 8 = omega arith in
    let whole : take 8 (parts 47 text) ≡ parts 47 text = take_all 8 (parts 47 text) (omega arith) in
    (rw (eight, rw whole at p.read) refl, rw (p.men_are, whole) refl)
