-- The words of a text come off its front.
use Rattle.std.proofs.Common.{◌≡◌, ◌≢◌, ℕ, ◌<◌, ◌≤◌, Bool, true, false, cond, not, ◌==◌, List, [], ◌∷◌, ◌++◌, length, take, drop, map, Some, None, refl, sym, ap, ap₂, ◌∙◌, arith, append_assoc, length-append, append-nil, eqb-true}
use Rattle.std.proofs.lemmas.Bool.{false_from_ne_true, eq-eqb}
use Rattle.std.specs.List.{All, position, slice_split, onto_first, filter, join_with_byte}
use Rattle.std.specs.Option.{unwrap_or}
use Rattle.std.proofs.lemmas.List.{take-append-drop}
use Rattle.std.proofs.lemmas.List.Elements.{All-head, All-tail, All-cons, All-nil}
use Rattle.std.proofs.lemmas.List.Splits.{slice_split-cons_yes, slice_split-cons_no}
use Rattle.std.proofs.Math.Seq.{take-append_seam}
use Rattle.cq_common.specs.Text.{is_white}
use Rattle.cq_position.specs.Comments.{words, comment_of}
use Rattle.cq_position.specs.Fen.{is_not_empty}
use Rattle.cq_position.proofs.Splitting.{kept_parts, cuts_alone, first_of_kept}
use Rattle.pgn_tree.specs.Words.{without_brace, without_braces, Begins}

pub white_alone : (t : List ℕ) → None ≡ position (λ b. not (is_white b)) t → words t ≡ []
unfolding words kept_parts
white_alone t e = cuts_alone is_white t e

pub first_of_words : (t : List ℕ) (i : ℕ) → Some i ≡ position (λ b. not (is_white b)) t →
    words t ≡ take (unwrap_or (position is_white (drop i t)) (length (drop i t))) (drop i t) ∷ words (drop (unwrap_or (position is_white (drop i t)) (length (drop i t))) (drop i t))
unfolding words kept_parts
first_of_words t i e = first_of_kept is_white t i e

-- a word is not empty
kept_first : (xs : List (List ℕ)) (w : List ℕ) (ws : List (List ℕ)) → filter is_not_empty xs ≡ w ∷ ws → is_not_empty w ≡ true
kept_first [] w ws e = absurd cc
kept_first ([] ∷ xs) w ws e = kept_first xs w ws e
kept_first ((b ∷ bs) ∷ xs) w ws e = ap is_not_empty (sym (heads (b ∷ bs) w (filter is_not_empty xs) ws e))
  where
    heads : (x y : List ℕ) (xs ys : List (List ℕ)) → x ∷ xs ≡ y ∷ ys → x ≡ y
    heads x y xs ys e = cc

some_length : (w : List ℕ) → is_not_empty w ≡ true → 0 < length w
some_length [] e = absurd cc
some_length (b ∷ bs) e = omega arith

pub word_length : (t w : List ℕ) (ws : List (List ℕ)) → words t ≡ w ∷ ws → 0 < length w
unfolding words
word_length t w ws e = some_length w (kept_first (slice_split is_white t) w ws e)

pub shorter_after : (t : List ℕ) (i : ℕ) → Some i ≡ position (λ b. not (is_white b)) t →
    length (drop (unwrap_or (position is_white (drop i t)) (length (drop i t))) (drop i t)) < length t
shorter_after t i e =
    let n = unwrap_or (position is_white (drop i t)) (length (drop i t)) in
    let some_ = word_length t (take n (drop i t)) (words (drop n (drop i t))) (first_of_words t i e) in
    let one = length-append (take n (drop i t)) (drop n (drop i t)) in
    let two = ap length (take-append-drop n (drop i t)) in
    let three = length-append (take i t) (drop i t) in
    let four = ap length (take-append-drop i t) in
    omega (arith, some_, one, two, three, four)

-- a word and the rest after it are in the text one after the other
pub cut_here : (t : List ℕ) (i n : ℕ) → (k : ℕ) × (drop k t ≡ take n (drop i t) ++ drop n (drop i t))
cut_here t i n = (i, sym (take-append-drop n (drop i t)))

-- a word after a space, and the next
unfoldable pub spaced : List (List ℕ) → List ℕ
spaced [] = []
spaced (w ∷ ws) = 32 ∷ (w ++ spaced ws)

-- joined by spaces
joined : (w : List ℕ) (ws : List (List ℕ)) → join_with_byte 32 (w ∷ ws) ≡ w ++ spaced ws
unfolding spaced
joined w [] = sym (append-nil w)
joined w (v ∷ vs) = ap (λ x. w ++ 32 ∷ x) (joined v vs)

-- white space has no braces in it and gets none
same_white : (b : ℕ) → is_white (without_brace b) ≡ is_white b
same_white b = by (b == 125) refl
  where
    by : (t : Bool) → (b == 125) ≡ t → is_white (cond t 41 b) ≡ is_white b
    by true is = ap is_white (sym (eqb-true b 125 is))
    by false is = refl

onto_first_clean : (b : ℕ) (ws : List (List ℕ)) → onto_first (without_brace b) (map without_braces ws) ≡ map without_braces (onto_first b ws)
onto_first_clean b [] = refl
onto_first_clean b (w ∷ ws) = refl

parts_clean : (t : List ℕ) → slice_split is_white (without_braces t) ≡ map without_braces (slice_split is_white t)
parts_clean [] = refl
parts_clean (b ∷ bs) = by (is_white b) refl (parts_clean bs)
  where
    by : (t : Bool) → is_white b ≡ t → slice_split is_white (without_braces bs) ≡ map without_braces (slice_split is_white bs)
        → slice_split is_white (without_brace b ∷ without_braces bs) ≡ map without_braces (slice_split is_white (b ∷ bs))
    by true is rest = slice_split-cons_yes is_white (without_brace b) (without_braces bs) (same_white b ∙ is) ∙ ap (λ x. [] ∷ x) rest
        ∙ ap (map without_braces) (sym (slice_split-cons_yes is_white b bs is))
    by false is rest = slice_split-cons_no is_white (without_brace b) (without_braces bs) (same_white b ∙ is) ∙ ap (onto_first (without_brace b)) rest
        ∙ onto_first_clean b (slice_split is_white bs) ∙ ap (map without_braces) (sym (slice_split-cons_no is_white b bs is))

kept_clean : (ws : List (List ℕ)) → filter is_not_empty (map without_braces ws) ≡ map without_braces (filter is_not_empty ws)
kept_clean [] = refl
kept_clean ([] ∷ ws) = kept_clean ws
kept_clean ((b ∷ bs) ∷ ws) = ap (λ x. without_braces (b ∷ bs) ∷ x) (kept_clean ws)

words_clean : (t : List ℕ) → words (without_braces t) ≡ map without_braces (words t)
unfolding words
words_clean t = ap (filter is_not_empty) (parts_clean t) ∙ kept_clean (slice_split is_white t)

-- the text that is still to be added after the first words
abbrev pub left : List ℕ → List ℕ
left rest = spaced (map without_braces (words rest))

pub none_left : (t : List ℕ) → words t ≡ [] → left t ≡ []
unfolding spaced
none_left t none = ap (λ ws. spaced (map without_braces ws)) none

pub none_joined : (old t : List ℕ) → words t ≡ [] → old ≡ old ++ join_with_byte 32 (words (without_braces t))
none_joined old t none = sym (append-nil old) ∙ ap (λ ws. old ++ join_with_byte 32 ws) (sym (words_clean t ∙ ap (map without_braces) none))

pub first_joined : (old now t word rest : List ℕ) → words t ≡ word ∷ words rest → now ≡ old ++ without_braces word
    → now ++ left rest ≡ old ++ join_with_byte 32 (words (without_braces t))
first_joined old now t word rest is grown =
    ap (λ x. x ++ left rest) grown ∙ append_assoc old (without_braces word) (left rest)
    ∙ ap (λ x. old ++ x) (sym (ap (join_with_byte 32) (words_clean t ∙ ap (map without_braces) is) ∙ joined (without_braces word) (map without_braces (words rest))))

pub next_joined : (now next t word rest : List ℕ) → words t ≡ word ∷ words rest → next ≡ now ++ 32 ∷ without_braces word → next ++ left rest ≡ now ++ left t
unfolding spaced
next_joined now next t word rest is grown =
    ap (λ x. x ++ left rest) grown ∙ append_assoc now (32 ∷ without_braces word) (left rest)
    ∙ ap (λ ws. now ++ spaced (map without_braces ws)) (sym is)

pub all_joined : (now all t : List ℕ) → words t ≡ [] → now ++ left t ≡ all → now ≡ all
all_joined now all t none is = sym (append-nil now) ∙ ap (λ x. now ++ x) (sym (none_left t none)) ∙ is

-- a text that begins with another still does so when it grows
pub begins_on : (front text more : List ℕ) → Begins front text → Begins text more → Begins front more
begins_on front text more a b = (a.0 ++ b.0, b.1 ∙ ap (λ x. x ++ b.0) a.1 ∙ append_assoc front a.0 b.0)

pub begins_same : (front text : List ℕ) → text ≡ front → Begins front text
begins_same front text is = ([], is ∙ sym (append-nil front))

pub cut_back : (front text : List ℕ) → Begins front text → take (length front) text ≡ front
cut_back front text begins = ap (take (length front)) begins.1 ∙ take-append_seam front begins.0

-- no closing brace is left
pub no_brace_left : (t : List ℕ) → All (λ b. b ≢ 125) (without_braces t)
no_brace_left [] = All-nil (λ b. b ≢ 125)
no_brace_left (b ∷ bs) = All-cons (λ b. b ≢ 125) (without_brace b) (without_braces bs) (by (b == 125) refl) (no_brace_left bs)
  where
    by : (t : Bool) → (b == 125) ≡ t → cond t 41 b ≢ 125
    by true is e = absurd (omega (arith, e))
    by false is e = absurd (let f : true ≡ false = sym (eq-eqb b 125 e) ∙ is in cc)

-- a text without a closing brace does not change
pub brace_free : (t : List ℕ) → All (λ b. b ≢ 125) t → without_braces t ≡ t
brace_free [] free = refl
brace_free (b ∷ bs) free =
    ap₂ (λ x xs. x ∷ xs) (ap (λ t. cond t 41 b) (false_from_ne_true (b == 125) (λ e. All-head (λ b. b ≢ 125) b bs free (eqb-true b 125 e)))) (brace_free bs (All-tail (λ b. b ≢ 125) b bs free))

longer_joined : (w : List ℕ) (ws : List (List ℕ)) → length w ≤ length (join_with_byte 32 (w ∷ ws))
longer_joined w [] = omega arith
longer_joined w (v ∷ vs) = let len = length-append w (32 ∷ join_with_byte 32 (v ∷ vs)) in omega (arith, len)

-- no words, no comment
none_by : (ws : List (List ℕ)) → ((w : List ℕ) (more : List (List ℕ)) → ws ≡ w ∷ more → 0 < length w) → length (join_with_byte 32 ws) ≡ 0 → comment_of ws ≡ []
none_by [] some_ none = refl
none_by (w ∷ ws) some_ none = absurd (let h = some_ w ws refl in let longer = longer_joined w ws in omega (arith, h, longer, none))

pub no_comment : (t : List ℕ) → length (join_with_byte 32 (words t)) ≡ 0 → comment_of (words t) ≡ []
no_comment t none = none_by (words t) (λ w more e. word_length t w more e) none

some_by : (ws : List (List ℕ)) → (length (join_with_byte 32 ws) ≡ 0 → ⊥) → comment_of ws ≡ join_with_byte 32 ws ∷ []
some_by [] some_ = absurd (some_ refl)
some_by (w ∷ ws) some_ = refl

pub one_comment : (t : List ℕ) → (length (join_with_byte 32 (words t)) ≡ 0 → ⊥) → comment_of (words t) ≡ join_with_byte 32 (words t) ∷ []
one_comment t some_ = some_by (words t) some_
