-- Comments in one text.
use Rattle.std.proofs.Common.{◌≡◌, ℕ, zero, suc, ◌+◌, ◌-◌, ◌<◌, ◌≤◌, Bool, true, false, cond, List, [], ◌∷◌, ◌++◌, length, take, drop, get_or, slice_range, Result, Ok, Err, is_ok, is_err, OnOk, refl, sym, ap, ap₂, ◌∙◌, subst, arith, length-append, append-nil}
use Rattle.std.specs.List.{All, join_with_byte}
use Rattle.std.proofs.lemmas.List.{nil_from_length, take_all, length-drop, take-append-le, drop-append-le}
use Rattle.std.proofs.lemmas.List.Elements.{All-append, All-nil}
use Rattle.std.proofs.Math.Seq.{drop-append_seam}
use Rattle.cq_position.specs.Comments.{words, comment_of}
use Rattle.cq_position.specs.Games.{IsComment}
use Rattle.cq_position.proofs.Comments.{comments_kept}
use Rattle.pgn_tree.specs.Internal.Comments.{parts, start_of, AreEnds, AreComments}
use Rattle.pgn_tree.specs.Words.{without_braces}
use Rattle.pgn_tree.proofs.Words.{no_comment, one_comment, no_brace_left}

pub length_parts : (text : List ℕ) (from : ℕ) (ends : List ℕ) → length (parts text from ends) ≡ length ends
unfolding parts
length_parts text from [] = refl
length_parts text from (end ∷ ends) = ap suc (length_parts text end ends)

-- ends are no greater than the last
pub from_within : (from : ℕ) (ends : List ℕ) (len : ℕ) → AreEnds from ends len → from ≤ len
unfolding AreEnds
from_within from [] len are = omega (arith, are)
from_within from (end ∷ ends) len are = let later = from_within end ends len are.1 in let first = are.0 in omega (arith, first, later)

-- a part of a text is one of a longer text
part_stays : (text more : List ℕ) (from end : ℕ) → from ≤ end → end ≤ length text → slice_range (text ++ more) from end ≡ slice_range text from end
part_stays text more from end low high =
    ap (take (end - from)) (drop-append-le from text more (omega (arith, low, high)))
    ∙ take-append-le (end - from) (drop from text) more (let len = length-drop from text in omega (arith, len, low, high))

last_part : (text more : List ℕ) (from : ℕ) → from ≡ length text → slice_range (text ++ more) from (length (text ++ more)) ≡ more
last_part text more from is =
    ap (λ i. slice_range (text ++ more) i (length (text ++ more))) is
    ∙ ap (take (length (text ++ more) - length text)) (drop-append_seam text more)
    ∙ take_all (length (text ++ more) - length text) more (let len = length-append text more in omega (arith, len))

pub parts_pushed : (text more : List ℕ) (from : ℕ) (ends : List ℕ) → AreEnds from ends (length text)
    → parts (text ++ more) from (ends ++ length (text ++ more) ∷ []) ≡ parts text from ends ++ more ∷ []
unfolding parts AreEnds
parts_pushed text more from [] are = ap (λ x. x ∷ []) (last_part text more from are)
parts_pushed text more from (end ∷ ends) are =
    ap₂ (λ x xs. x ∷ xs) (part_stays text more from end are.0 (from_within end ends (length text) are.1)) (parts_pushed text more end ends are.1)

pub ends_pushed : (from : ℕ) (ends : List ℕ) (len more : ℕ) → AreEnds from ends len → len ≤ more → AreEnds from (ends ++ more ∷ []) more
unfolding AreEnds
ends_pushed from [] len more are less = (omega (arith, are, less), refl)
ends_pushed from (end ∷ ends) len more are less = (are.0, ends_pushed end ends len more are.1 less)

pub part_at : (text : List ℕ) (from : ℕ) (ends : List ℕ) (i : ℕ) → i < length ends → get_or (parts text from ends) i [] ≡ slice_range text (start_of from ends i) (get_or ends i 0)
unfolding parts
part_at text from [] i low = absurd (omega (arith, low))
part_at text from (end ∷ ends) zero low = refl
part_at text from (end ∷ ends) (suc i) low = part_at text end ends i (omega (arith, low))

pub start_within : (from : ℕ) (ends : List ℕ) (len i : ℕ) → AreEnds from ends len → i < length ends → start_of from ends i ≤ get_or ends i 0
unfolding AreEnds
start_within from [] len i are low = absurd (omega (arith, low))
start_within from (end ∷ ends) len zero are low = are.0
start_within from (end ∷ ends) len (suc i) are low = start_within end ends len i are.1 (omega (arith, low))

pub end_within : (from : ℕ) (ends : List ℕ) (len i : ℕ) → AreEnds from ends len → i < length ends → get_or ends i 0 ≤ len
unfolding AreEnds
end_within from [] len i are low = absurd (omega (arith, low))
end_within from (end ∷ ends) len zero are low = from_within end ends len are.1
end_within from (end ∷ ends) len (suc i) are low = end_within end ends len i are.1 (omega (arith, low))

-- one comment more
pub grown : (text now ends after given : List ℕ) → now ≡ text ++ join_with_byte 32 (words (without_braces given)) → (length now ≡ length text → ⊥)
    → after ≡ ends ++ length now ∷ [] → AreEnds 0 ends (length text) → parts now 0 after ≡ parts text 0 ends ++ comment_of (words (without_braces given))
grown text now ends after given now_is longer after_is are =
    let comment : List ℕ = join_with_byte 32 (words (without_braces given)) in
    let len = ap length now_is ∙ length-append text comment in
    ap₂ (λ x y. parts x 0 y) now_is (after_is ∙ ap (λ x. ends ++ length x ∷ []) now_is)
    ∙ parts_pushed text comment 0 ends are
    ∙ ap (λ c. parts text 0 ends ++ c) (sym (one_comment (without_braces given) (λ none. longer (omega (arith, len, none)))))

pub kept_grown : (text now ends after given : List ℕ) → now ≡ text ++ join_with_byte 32 (words (without_braces given)) → (length now ≡ length text → ⊥)
    → after ≡ ends ++ length now ∷ [] → AreComments ends text → AreComments after now
kept_grown text now ends after given now_is longer after_is are =
    let len = ap length now_is ∙ length-append text (join_with_byte 32 (words (without_braces given))) in
    record {
      ends_stand = subst (λ e. AreEnds 0 e (length now)) (sym after_is) (ends_pushed 0 ends (length text) (length now) are.ends_stand (omega (arith, len)));
      comments = subst (All IsComment) (sym (grown text now ends after given now_is longer after_is are.ends_stand))
          (All-append IsComment (parts text 0 ends) (comment_of (words (without_braces given))) are.comments
          (comments_kept (without_braces given) (words (without_braces given)) refl (no_brace_left given)));
    }

-- a text without words changes nothing
pub not_grown : (text now given : List ℕ) → now ≡ text ++ join_with_byte 32 (words (without_braces given)) → length now ≡ length text → comment_of (words (without_braces given)) ≡ []
not_grown text now given now_is same =
    no_comment (without_braces given) (let len = ap length now_is ∙ length-append text (join_with_byte 32 (words (without_braces given))) in omega (arith, len, same))

pub same_text : (text now given : List ℕ) → now ≡ text ++ join_with_byte 32 (words (without_braces given)) → length now ≡ length text → now ≡ text
same_text text now given now_is same =
    let comment : List ℕ = join_with_byte 32 (words (without_braces given)) in
    now_is ∙ ap (λ x. text ++ x) (nil_from_length comment (let len = ap length now_is ∙ length-append text comment in omega (arith, len, same))) ∙ append-nil text

-- no comments
pub none_kept : AreComments [] []
unfolding AreEnds parts
none_kept = record { ends_stand = refl; comments = All-nil IsComment }

pub no_parts : (text : List ℕ) → parts text 0 [] ≡ []
unfolding parts
no_parts text = refl

-- the result of a call that didn't fail
pub when_ok : {A E P : Type 0} (r : Result A E) → false ≡ is_err r → OnOk r P → P
when_ok (Ok x) is p = p
when_ok (Err x) is p = absurd cc

pub pushed : {A E B : Type 0} (r : Result A E) (xs more less : List B) → false ≡ is_err r → xs ≡ cond (is_ok r) more less → xs ≡ more
pushed (Ok x) xs more less is e = e
pushed (Err x) xs more less is e = absurd cc

-- the place of a part, by numbers that the code reads
module _ (text ends : List ℕ) (are : AreEnds 0 ends (length text)) (i start end : ℕ) (low : i < length ends) (start_is : start ≡ start_of 0 ends i) (end_is : end ≡ get_or ends i end) where
  ends_there : end ≡ get_or ends i 0
  ends_there = end_is ∙ any_default ends i end 0 low
    where
      any_default : (xs : List ℕ) (n d e : ℕ) → n < length xs → get_or xs n d ≡ get_or xs n e
      any_default [] n d e low = absurd (omega (arith, low))
      any_default (x ∷ xs) zero d e low = refl
      any_default (x ∷ xs) (suc n) d e low = any_default xs n d e (omega (arith, low))

  pub in_order : start ≤ end
  in_order = let a = start_is in let b = ends_there in let c = start_within 0 ends (length text) i are low in omega (arith, a, b, c)

  pub in_text : end ≤ length text
  in_text = let b = ends_there in let c = end_within 0 ends (length text) i are low in omega (arith, b, c)

  pub part_is : take (end - start) (drop start text) ≡ get_or (parts text 0 ends) i []
  part_is = ap₂ (λ a b. take (b - a) (drop a text)) start_is ends_there ∙ sym (part_at text 0 ends i low)
