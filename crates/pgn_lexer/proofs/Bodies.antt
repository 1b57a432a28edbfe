-- The body of a string: over plain bytes, and over a backslash.
use Rattle.std.proofs.Common.{◌≡◌, ℕ, suc, ◌+◌, ◌-◌, ◌<◌, ◌≤◌, ◌⊎◌, Bool, true, false, cond, List, [], ◌∷◌, ◌++◌, length, get_or, drop, refl, sym, ap, subst, inl, inr, ⊎_elim, ◌∙◌, arith, zero-add, eqb-true}
use Rattle.std.specs.Prelude.{◌≢◌, ◌==◌, ◌&&◌, ◌||◌, not}
use Rattle.std.specs.List.{position_or_len}
use Rattle.std.proofs.lemmas.Bool.Decides.{nat_tests}
use Rattle.std.proofs.lemmas.Bool.{false_from_ne_true, or_parts, eqb-false}
use Rattle.std.proofs.lemmas.List.{at_drop_more, at_drop_all, length-drop, get_or-drop, drop-drop}
use Rattle.std.proofs.lemmas.List.Sums.{prefix_len-le-length, passes_at_first}
use Rattle.pgn_lexer.specs.Grammar.{IsPlain, IsBody}
use Rattle.pgn_lexer.specs.Readings.{is_special, ends_body, takes_next, body_len}

-- a body, or a body and a backslash
abbrev pub IsUnfinished : List ℕ → Type 0
IsUnfinished body = IsBody body ⊎ ((before : List ℕ) × (body ≡ before ++ 92 ∷ []) × IsBody before)

-- one more byte before a body
pub plain_body : (b : ℕ) (body : List ℕ) → IsPlain b → IsBody body → IsBody (b ∷ body)
plain_body b [] plain body = plain
plain_body b (c ∷ cs) plain body = inl (plain, body)

pub plain_unfinished : (b : ℕ) (body : List ℕ) → IsPlain b → IsUnfinished body → IsUnfinished (b ∷ body)
plain_unfinished b body plain more = ⊎_elim (λ whole. inl (plain_body b body plain whole)) (λ cut. inr (b ∷ cut.0, ap (λ l. b ∷ l) cut.1, plain_body b cut.0 plain cut.2)) more

pub escaped_unfinished : (c : ℕ) (body : List ℕ) → c ≢ 10 → IsUnfinished body → IsUnfinished (92 ∷ c ∷ body)
escaped_unfinished c body other more = ⊎_elim (λ whole. inl (inr (refl, other, whole))) (λ cut. inr (92 ∷ c ∷ cut.0, ap (λ l. 92 ∷ c ∷ l) cut.1, inr (refl, other, cut.2))) more

pub body_len-plain : (b : ℕ) (bs : List ℕ) → IsPlain b → body_len false (b ∷ bs) ≡ 1 + body_len false bs
unfolding body_len
body_len-plain b bs plain =
    let goes : ends_body false b ≡ false = grind (arith, nat_tests, plain.0, plain.2) in
    let next : takes_next false b ≡ false = grind (arith, nat_tests, plain.1) in
    ap (λ t. cond t 0 (1 + body_len (takes_next false b) bs)) goes ∙ ap (λ t. 1 + body_len t bs) next

never : (t : Bool) → (t && false) ≡ false
never true = refl
never false = refl

pub body_len-escaped : (c : ℕ) (bs : List ℕ) → c ≢ 10 → body_len true (c ∷ bs) ≡ 1 + body_len false bs
unfolding body_len
body_len-escaped c bs other =
    let goes : ends_body true c ≡ false = ap (λ t. t || ((c == 34) && false)) (false_from_ne_true (c == 10) (λ is. other (eqb-true c 10 is))) ∙ never (c == 34) in
    ap (λ t. cond t 0 (1 + body_len (takes_next true c) bs)) goes ∙ ap (λ t. 1 + body_len t bs) (never (c == 92))

pub body_len-backslash : (bs : List ℕ) → body_len false (92 ∷ bs) ≡ 1 + body_len true bs
unfolding body_len
body_len-backslash bs = refl

-- a byte that isn't special is plain
plain_from : (b : ℕ) → is_special b ≡ false → IsPlain b
plain_from b plain =
    let line_feed = or_parts ((b == 34) || (b == 92)) (b == 10) plain in
    let others = or_parts (b == 34) (b == 92) line_feed.0 in
    (eqb-false b 34 others.0, eqb-false b 92 others.1, eqb-false b 10 line_feed.1)

by_first : (t : Bool) (b p : ℕ) (bs : List ℕ) → (t ≡ false → body_len false (b ∷ bs) ≡ 1 + body_len false bs) → body_len false bs ≡ p + body_len false (drop p bs)
    → body_len false (b ∷ bs) ≡ cond (not t) (1 + p) 0 + body_len false (drop (cond (not t) (1 + p) 0) (b ∷ bs))
by_first true b p bs first more = let here : body_len false (b ∷ bs) ≡ 0 + body_len false (b ∷ bs) = omega arith in here
by_first false b p bs first more =
    let here : body_len false (b ∷ bs) ≡ suc p + body_len false (drop p bs) = first refl ∙ ap (λ n. 1 + n) more ∙ omega arith in
    let one : suc p ≡ 1 + p = omega arith in
    subst (λ n. body_len false (b ∷ bs) ≡ n + body_len false (drop n (b ∷ bs))) one here

-- a body continues over all the bytes before the first special one
pub plain_front : (rest : List ℕ) → body_len false rest ≡ position_or_len is_special rest + body_len false (drop (position_or_len is_special rest) rest)
unfolding body_len
plain_front [] = refl
plain_front (b ∷ bs) = by_first (is_special b) b (position_or_len is_special bs) bs (λ plain. body_len-plain b bs (plain_from b plain)) (plain_front bs)

-- a body after a backslash at a place, which takes the next byte with it unless that is LF
starts_escape : (rest : List ℕ) (at : ℕ) → at < length rest → get_or rest at 0 ≡ 92 → body_len false (drop at rest) ≡ 1 + body_len true (drop (at + 1) rest)
starts_escape rest at within is = at_drop_more (body_len false) rest at 0 within ∙ ap (λ b. body_len false (b ∷ drop (at + 1) rest)) is ∙ body_len-backslash (drop (at + 1) rest)

pub escape_at_end : (rest : List ℕ) (at : ℕ) → at < length rest → get_or rest at 0 ≡ 92 → length rest ≤ at + 1 → body_len false (drop at rest) ≡ 1 + body_len false (drop (at + 1) rest)
unfolding body_len
escape_at_end rest at within is past =
    starts_escape rest at within is ∙ ap (λ n. 1 + n) (at_drop_all (body_len true) rest (at + 1) past ∙ sym (at_drop_all (body_len false) rest (at + 1) past))

line_ends : (backslash : Bool) (bs : List ℕ) → body_len backslash (10 ∷ bs) ≡ 0
unfolding body_len
line_ends backslash bs = refl

line_ends_at : (backslash : Bool) (rest : List ℕ) (at : ℕ) → at < length rest → get_or rest at 0 ≡ 10 → body_len backslash (drop at rest) ≡ 0
line_ends_at backslash rest at within is = at_drop_more (body_len backslash) rest at 0 within ∙ ap (λ b. body_len backslash (b ∷ drop (at + 1) rest)) is ∙ line_ends backslash (drop (at + 1) rest)

pub escape_of_line : (rest : List ℕ) (at : ℕ) → at + 1 < length rest → get_or rest at 0 ≡ 92 → get_or rest (at + 1) 0 ≡ 10 → body_len false (drop at rest) ≡ 1 + body_len false (drop (at + 1) rest)
escape_of_line rest at within is next =
    starts_escape rest at (omega arith) is ∙ ap (λ n. 1 + n) (line_ends_at true rest (at + 1) within next ∙ sym (line_ends_at false rest (at + 1) within next))

pub escape_of_byte : (rest : List ℕ) (at : ℕ) → at + 1 < length rest → get_or rest at 0 ≡ 92 → get_or rest (at + 1) 0 ≢ 10 → body_len false (drop at rest) ≡ 2 + body_len false (drop (at + 2) rest)
escape_of_byte rest at within is other =
    let taken : body_len true (drop (at + 1) rest) ≡ 1 + body_len false (drop (at + 1 + 1) rest) = at_drop_more (body_len true) rest
    (at + 1) 0 within ∙ body_len-escaped (get_or rest (at + 1) 0) (drop (at + 1 + 1) rest) other in
    let place : at + 1 + 1 ≡ at + 2 = omega arith in
    starts_escape rest at (omega arith) is ∙ ap (λ n. 1 + n) (taken ∙ ap (λ i. 1 + body_len false (drop i rest)) place) ∙ omega arith

-- a body ends at a special byte that is no backslash, and at the end
pub special_ends : (rest : List ℕ) (at : ℕ) → at < length rest → is_special (get_or rest at 0) ≡ true → get_or rest at 0 ≢ 92 → body_len false (drop at rest) ≡ 0
unfolding body_len
special_ends rest at within special other =
    let ends : ends_body false (get_or rest at 0) ≡ true = grind (arith, nat_tests, special, other) in
    at_drop_more (body_len false) rest at 0 within ∙ ap (λ t. cond t 0 (1 + body_len (takes_next false (get_or rest at 0)) (drop (at + 1) rest))) ends

pub body_at_end : (rest : List ℕ) (at : ℕ) → length rest ≤ at → body_len false (drop at rest) ≡ 0
unfolding body_len
body_at_end rest at past = at_drop_all (body_len false) rest at past

-- the body continues over the bytes before the place, which is that of a special byte or the end of the text
pub record Reaches (rest : List ℕ) (at : ℕ) : Type 0 where
  pub within : at ≤ length rest
  pub special : at < length rest → is_special (get_or rest at 0) ≡ true
  pub body : body_len false rest ≡ at + body_len false (drop at rest)

-- it reaches the first special byte from a place on that it reaches
pub reaches_next : (rest : List ℕ) (from n : ℕ) → from ≤ length rest → n ≡ position_or_len is_special (drop from rest)
    → body_len false rest ≡ from + body_len false (drop from rest) → Reaches rest (from + n)
reaches_next rest from n within is body =
    let most : n ≤ length (drop from rest) = subst (λ k. k ≤ length (drop from rest)) (sym is) (prefix_len-le-length (λ x. not (is_special x)) (drop from rest)) in
    let left : length (drop from rest) ≡ length rest - from = length-drop from rest in
    let goes : body_len false (drop from rest) ≡ n + body_len false (drop n (drop from rest)) = subst
    (λ k. body_len false (drop from rest) ≡ k + body_len false (drop k (drop from rest))) (sym is) (plain_front (drop from rest)) in
    let both : body_len false (drop n (drop from rest)) ≡ body_len false (drop (from + n) rest) = ap (body_len false) (drop-drop n from rest) in
    record {
      within = omega arith;
      special = λ more. ap is_special (sym (get_or-drop from rest n 0))
          ∙ subst (λ k. is_special (get_or (drop from rest) k 0) ≡ true) (sym is)
          (passes_at_first is_special (drop from rest) 0 (subst (λ k. k < length (drop from rest)) is (omega arith)));
      body = omega arith;
    }

pub reaches_first : (rest : List ℕ) (at : ℕ) → at ≡ position_or_len is_special rest → Reaches rest at
reaches_first rest at is = subst (Reaches rest) (zero-add at) (reaches_next rest 0 at (omega arith) is (omega arith))

-- the body ends at the end of the text, and at a special byte other than a backslash
pub reached_end : (rest : List ℕ) (at : ℕ) → Reaches rest at → length rest ≤ at → at ≡ body_len false rest
reached_end rest at reaches past =
    let ends = body_at_end rest at past in
    let body = reaches.body in
    omega arith

pub reached_special : (rest : List ℕ) (at : ℕ) → Reaches rest at → at < length rest → get_or rest at 0 ≢ 92 → at ≡ body_len false rest
reached_special rest at reaches within other =
    let ends = special_ends rest at within (reaches.special within) other in
    let body = reaches.body in
    omega arith
