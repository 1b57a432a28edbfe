-- Batches of lists that grow.
use Rattle.std.proofs.Common.{◌≡◌, ◌+◌, List, [], ◌∷◌, ◌++◌, Bool, true, false, refl, sym, ap, ◌∙◌, if◌then◌else◌}
use Rattle.std.proofs.lemmas.List.{append-nil, append_assoc}
use Rattle.pgn_batches.specs.declared.kept_game.KeptGame.{KeptGame}
use Rattle.pgn_batches.specs.Batching.{is_full, full_at, full_from, left_from, full_batches, left_over, flat}
use Rattle.pgn_batches.specs.KeptGames.{KeptGames}

splits_if : (b : Bool) (x : KeptGames) (full1 full2 more1 more2 : List KeptGames) (left1 left2 : KeptGames) (after : KeptGames → List KeptGames)
    → more1 ≡ full1 ++ after left1 → more2 ≡ full2 ++ after left2
    → (if b then x ∷ more1 else more2) ≡ (if b then x ∷ full1 else full2) ++ after (if b then left1 else left2)
splits_if true x full1 full2 more1 more2 left1 left2 after y n = ap (λ (l : List KeptGames). x ∷ l) y
splits_if false x full1 full2 more1 more2 left1 left2 after y n = n

pub full_splits : (before games more : KeptGames) → full_from before (games ++ more) ≡ full_from before games ++ full_from (left_from before games) more
unfolding full_from left_from
full_splits before [] more = refl
full_splits before (g ∷ gs) more =
    splits_if (is_full (before ++ g ∷ [])) (before ++ g ∷ []) (full_from [] gs) (full_from (before ++ g ∷ []) gs) (full_from [] (gs ++ more)) (full_from (before ++ g ∷ []) (gs ++ more))
    (left_from [] gs) (left_from (before ++ g ∷ []) gs) (λ l. full_from l more) (full_splits [] gs more) (full_splits (before ++ g ∷ []) gs more)

left_if : (b : Bool) (full1 full2 more1 more2 : KeptGames) (after : KeptGames → KeptGames) → more1 ≡ after full1 → more2 ≡ after full2
    → (if b then more1 else more2) ≡ after (if b then full1 else full2)
left_if true full1 full2 more1 more2 after y n = y
left_if false full1 full2 more1 more2 after y n = n

pub left_splits : (before games more : KeptGames) → left_from before (games ++ more) ≡ left_from (left_from before games) more
unfolding left_from
left_splits before [] more = refl
left_splits before (g ∷ gs) more =
    left_if (is_full (before ++ g ∷ [])) (left_from [] gs) (left_from (before ++ g ∷ []) gs) (left_from [] (gs ++ more)) (left_from (before ++ g ∷ []) (gs ++ more)) (λ l. left_from l more)
    (left_splits [] gs more) (left_splits (before ++ g ∷ []) gs more)

all_if : (b : Bool) (x : KeptGames) (full1 full2 : List KeptGames) (left1 left2 all : KeptGames) → x ++ (flat full1 ++ left1) ≡ all → flat full2 ++ left2 ≡ all
    → flat (if b then x ∷ full1 else full2) ++ (if b then left1 else left2) ≡ all
all_if true x full1 full2 left1 left2 all y n = append_assoc x (flat full1) left1 ∙ y
all_if false x full1 full2 left1 left2 all y n = n

pub all_from : (before games : KeptGames) → flat (full_from before games) ++ left_from before games ≡ before ++ games
unfolding full_from left_from
all_from before [] = sym (append-nil before)
all_from before (g ∷ gs) =
    all_if (is_full (before ++ g ∷ [])) (before ++ g ∷ []) (full_from [] gs) (full_from (before ++ g ∷ []) gs) (left_from [] gs) (left_from (before ++ g ∷ []) gs) (before ++ g ∷ gs)
    (ap (λ (l : KeptGames). (before ++ g ∷ []) ++ l) (all_from [] gs) ∙ append_assoc before (g ∷ []) gs) (all_from (before ++ g ∷ []) gs ∙ append_assoc before (g ∷ []) gs)

pub all_there : (games : KeptGames) → flat (full_batches games) ++ left_over games ≡ games
all_there games = all_from [] games

pub full_grow : (games more : KeptGames) → (rest : List KeptGames) × (full_batches (games ++ more) ≡ full_batches games ++ rest)
full_grow games more = (full_from (left_over games) more, full_splits [] games more)

pub flat_append : (xs ys : List KeptGames) → flat (xs ++ ys) ≡ flat xs ++ flat ys
flat_append [] ys = refl
flat_append (x ∷ xs) ys = ap (λ (l : KeptGames). x ++ l) (flat_append xs ys) ∙ sym (append_assoc x (flat xs) (flat ys))

-- one game more
pub full_push : (games : KeptGames) (g : KeptGame) → full_batches (games ++ g ∷ [])
    ≡ full_batches games ++ (if is_full (left_over games ++ g ∷ []) then (left_over games ++ g ∷ []) ∷ [] else [])
unfolding full_from left_from
full_push games g = full_splits [] games (g ∷ [])

pub left_push : (games : KeptGames) (g : KeptGame) → left_over (games ++ g ∷ []) ≡ (if is_full (left_over games ++ g ∷ []) then [] else left_over games ++ g ∷ [])
unfolding left_from
left_push games g = left_splits [] games (g ∷ [])

pub none_low : is_full [] ≡ false
unfolding full_at
none_low = refl

low_if : (b : Bool) (full : Bool) (full1 full2 : KeptGames) → full ≡ b → is_full full1 ≡ false → (full ≡ false → is_full full2 ≡ false) → is_full (if b then full1 else full2) ≡ false
low_if true full full1 full2 is y n = y
low_if false full full1 full2 is y n = n is

pub left_low : (before games : KeptGames) → is_full before ≡ false → is_full (left_from before games) ≡ false
unfolding left_from
left_low before [] low = low
left_low before (g ∷ gs) low =
    low_if (is_full (before ++ g ∷ [])) (is_full (before ++ g ∷ [])) (left_from [] gs) (left_from (before ++ g ∷ []) gs) refl (left_low [] gs none_low) (λ is. left_low (before ++ g ∷ []) gs is)
