-- The texts that workers make of the games of a part of a batch, put in their places.
use Rattle.std.proofs.Common.{◌==◌, ◌≡◌, ◌≢◌, ◌⊎◌, ℕ, ◌+◌, ◌<◌, true, false, List, [], ◌∷◌, ◌++◌, All, length, Some, ap, sym, ◌∙◌, subst, inl, inr, arith}
use Rattle.std.specs.Prelude.{slice_get, set}
use Rattle.std.proofs.lemmas.Bool.{cases_Bool}
use Rattle.std.proofs.lemmas.List.{get_or-set_other, get_or-set_same, length-set}
use Rattle.std.proofs.lemmas.List.Elements.{All-pop}
use Rattle.std.proofs.lemmas.Option.{get_or_from_slice_get, slice_get-get_or, slice_get_within}
use Rattle.pgn_batches.specs.declared.kept_game.KeptGame.{KeptGame}
use Rattle.cq_workers.specs.NumberedOutputs.{IsNumbered, IsOfSome, outputs_at}
use Rattle.cq_workers.proofs.Counting.{made_more}
use Rattle.pgn_json.specs.Internal.PartTexts.{AreGameTexts, ArePlaced, IsOfGame, IsPlaced, IsTextsAt, number_in}
use Rattle.pgn_json.specs.Internal.Parts.{Part, size}
use Rattle.pgn_json.specs.Internal.Texts.{AreTextsOf}
use Rattle.pgn_json.specs.declared.part_texts.GameTexts.{GameTexts}
use Rattle.pgn_json.specs.declared.texts.Texts.{Texts}

pub numbered : (part : Part) → IsNumbered (IsTextsAt part) number_in 0
numbered part = λ number made is. let same = is.number_is in omega (arith, same)

pub texts_at : (part : Part) (number : ℕ) (made : GameTexts) (texts : Texts)
    → ((game : KeptGame) × (slice_get part.games number ≡ Some game) × AreTextsOf part.mark (part.before + number + 1) (game ∷ []) texts)
    → made.number ≡ number → made.texts ≡ texts → IsTextsAt part number made
texts_at part number made texts one number_is same = record {
  number_is = number_is;
  texts_ = subst (IsOfGame part number) (sym same) (record { game = one.0; at = one.1; are = one.2 });
}

-- ---- each at its place

-- the texts that are still to be placed, and those that are placed
pub record ArePlacing (part : Part) (made : List GameTexts) (places : List Texts) : Type 0 where
  pub each : All (IsOfSome (IsTextsAt part)) made
  pub count : length places ≡ size part
  pub placed : (number : ℕ) → number < size part → (0 < outputs_at number_in 0 number made) ⊎ IsPlaced part number places

pub starts : (part : Part) (made : List GameTexts) (places : List Texts) → AreGameTexts part made → length places ≡ size part
    → ArePlacing part made places
starts part made places are count = record {
  each = are.each;
  count = count;
  placed = λ number less. let once = are.once number less in inl (omega (arith, once));
}

-- the one that is placed next, of those that are still to be placed
last_is : (part : Part) (was now : List GameTexts) (one : GameTexts) (places : List Texts) → was ≡ now ++ one ∷ []
    → ArePlacing part was places → All (IsOfSome (IsTextsAt part)) now × IsOfSome (IsTextsAt part) one
last_is part was now one places more placing = All-pop (IsOfSome (IsTextsAt part)) was now (Some one) more placing.each

pub last_within : (part : Part) (was now : List GameTexts) (one : GameTexts) (places : List Texts) → was ≡ now ++ one ∷ []
    → ArePlacing part was places → one.number < length places
last_within part was now one places more placing =
    let last = (last_is part was now one places more placing).1 in
    let texts = last.1.texts_ in
    let within = slice_get_within part.games last.0 texts.game texts.at in
    let same = last.1.number_is in
    let count = placing.count in
    omega (arith, within, same, count)

-- the value at a place that was set, and at another one
set_here : {X : Type 0} (xs : List X) (i : ℕ) (x : X) → i < length xs → slice_get (set xs i x) i ≡ Some x
set_here xs i x less =
    let long = length-set xs i x in
    slice_get-get_or (set xs i x) i x (omega (arith, less, long)) ∙ ap Some (get_or-set_same xs i x x less)

set_there : {X : Type 0} (xs : List X) (i j : ℕ) (x y : X) → j ≢ i → slice_get xs j ≡ Some y → slice_get (set xs i x) j ≡ Some y
set_there xs i j x y other at =
    let less = slice_get_within xs j y at in
    let long = length-set xs i x in
    slice_get-get_or (set xs i x) j y (omega (arith, less, long)) ∙ ap Some (get_or-set_other xs i j x y other ∙ get_or_from_slice_get xs j y y at)

-- a place, once one more is placed
record Places (part : Part) (was now : List GameTexts) (one : GameTexts) (old new : List Texts) : Type 0 where
  more : was ≡ now ++ one ∷ []
  set_ : new ≡ set old one.number one.texts
  last : IsOfSome (IsTextsAt part) one
  within : one.number < length old

here : (part : Part) (was now : List GameTexts) (one : GameTexts) (old new : List Texts) → Places part was now one old new
    → (number : ℕ) → one.number ≡ number → IsPlaced part number new
here part was now one old new p number same = (
  one.texts,
  subst (λ k. slice_get new k ≡ Some one.texts) same
      (subst (λ places. slice_get places one.number ≡ Some one.texts) (sym p.set_) (set_here old one.number one.texts p.within)),
  subst (λ k. IsOfGame part k one.texts) (sym p.last.1.number_is ∙ same) p.last.1.texts_,
)

there : (part : Part) (was now : List GameTexts) (one : GameTexts) (old new : List Texts) → Places part was now one old new
    → (number : ℕ) → number ≢ one.number → IsPlaced part number old → IsPlaced part number new
there part was now one old new p number other is = (
  is.0,
  subst (λ places. slice_get places number ≡ Some is.0) (sym p.set_) (set_there old one.number number one.texts is.0 other is.1),
  is.2,
)

still : (was now : List GameTexts) (one : GameTexts) → was ≡ now ++ one ∷ [] → (number : ℕ) → (number_in one == 0 + number) ≡ false
    → 0 < outputs_at number_in 0 number was → 0 < outputs_at number_in 0 number now
still was now one more number other some =
    let adds = made_more (λ (x : GameTexts). number_in x == 0 + number) now was one more in
    let count = rw other at adds in
    omega (arith, count, some)

placed_more : (part : Part) (was now : List GameTexts) (one : GameTexts) (old new : List Texts) → Places part was now one old new
    → (number : ℕ) → (number_in one == 0 + number ≡ true) ⊎ (number_in one == 0 + number ≡ false)
    → (0 < outputs_at number_in 0 number was) ⊎ IsPlaced part number old → (0 < outputs_at number_in 0 number now) ⊎ IsPlaced part number new
placed_more part was now one old new p number (inl same) before = inr (here part was now one old new p number (grind (arith, same)))
placed_more part was now one old new p number (inr other) (inl some) = inl (still was now one p.more number other some)
placed_more part was now one old new p number (inr other) (inr is) = inr (there part was now one old new p number (grind (arith, other)) is)

pub placed_one : (part : Part) (was now : List GameTexts) (one : GameTexts) (old new : List Texts) → was ≡ now ++ one ∷ []
    → new ≡ set old one.number one.texts → ArePlacing part was old → ArePlacing part now new
placed_one part was now one old new more set_ placing =
    let last = last_is part was now one old more placing in
    let p : Places part was now one old new =
    record { more = more; set_ = set_; last = last.1; within = last_within part was now one old more placing } in
    record {
      each = last.0;
      count = ap length set_ ∙ length-set old one.number one.texts ∙ placing.count;
      placed = λ number less.
          placed_more part was now one old new p number (cases_Bool (number_in one == 0 + number)) (placing.placed number less);
    }

none_left : (part : Part) (made : List GameTexts) (places : List Texts) (number : ℕ) → made ≡ []
    → (0 < outputs_at number_in 0 number made) ⊎ IsPlaced part number places → IsPlaced part number places
none_left part made places number none (inl some) = let nothing = ap (outputs_at number_in 0 number) none in absurd (omega (arith, some, nothing))
none_left part made places number none (inr is) = is

pub all_placed : (part : Part) (made : List GameTexts) (places : List Texts) → made ≡ [] → ArePlacing part made places → ArePlaced part places
all_placed part made places none placing = record {
  count = placing.count;
  each = λ number less. none_left part made places number none (placing.placed number less);
}
