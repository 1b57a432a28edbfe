-- A reading takes at least one byte, and no more than there are.
use Rattle.std.proofs.Common.{◌≡◌, ℕ, ◌+◌, ◌<◌, ◌≤◌, Bool, true, false, cond, List, [], ◌∷◌, length, get_or, refl, sym, ◌∙◌, arith, ⊎_elim, eqb-true}
use Rattle.std.specs.Prelude.{◌==◌, ◌&&◌, not, nat_lt, if◌then◌else◌, slice_index}
use Rattle.std.specs.List.{prefix_len, position_or_len}
use Rattle.std.specs.Char.{is_ascii_digit, is_ascii_alphanumeric}
use Rattle.std.proofs.lemmas.List.{get_or_past}
use Rattle.std.proofs.lemmas.List.Sums.{prefix_len-le-length}
use Rattle.std.proofs.lemmas.Bool.{cases_lt}
use Rattle.std.proofs.lemmas.Bool.Decides.{nat_tests}
use Rattle.pgn_lexer.specs.Bytes.{ends_line, continues_symbol}
use Rattle.pgn_lexer.specs.Readings.{comment, line_comment, escape_line, ends_body, takes_next, body_len, text, symbol, nag, good_suffix, poor_suffix, null_move, single, reading}
use Rattle.pgn_lexer.specs.declared.token.Reading.{Reading}

-- a property of both branches of a test holds of the result
pub of_both : {A : Type 0} (P : A → Type 0) (t : Bool) (x y : A) → (t ≡ true → P x) → (t ≡ false → P y) → P (cond t x y)
of_both P true x y px py = px refl
of_both P false x y px py = py refl

pub record Takes (rest : List ℕ) (r : Reading) : Type 0 where
  pub some : 0 < r.len
  pub within : r.len ≤ length rest + 1

-- a byte that isn't 0 is within the list
pub index_within : (xs : List ℕ) (i c : ℕ) → 0 < c → (get_or xs i 0 == c) ≡ true → i < length xs
index_within xs i c positive is = ⊎_elim (λ lt. lt) (λ past. let e = sym (get_or_past xs i 0 past) ∙ eqb-true (get_or xs i 0) c is in absurd (omega arith)) (cases_lt i (length xs))

body_within : (backslash : Bool) (rest : List ℕ) → body_len backslash rest ≤ length rest
unfolding body_len
body_within backslash [] = omega arith
body_within backslash (b ∷ bs) =
    let more = body_within (takes_next backslash b) bs in
    of_both (λ n. n ≤ length (b ∷ bs)) (ends_body backslash b) 0 (1 + body_len (takes_next backslash b) bs) (λ _. omega arith) (λ _. omega arith)

comment_takes : (rest : List ℕ) → Takes rest (comment rest)
unfolding comment
comment_takes rest =
    let body = prefix_len-le-length (λ b. not (b == 125)) rest in
    of_both (Takes rest) (nat_lt (position_or_len (λ b. b == 125) rest) (length rest)) _ _
    (λ lt. record { some = omega arith; within = grind (arith, nat_tests) })
    (λ ge. record { some = omega arith; within = omega arith })

text_takes : (rest : List ℕ) → Takes rest (text rest)
unfolding text
text_takes rest =
    let body = body_within false rest in
    of_both (Takes rest) (slice_index rest (body_len false rest) == 34) _ _
    (λ closed. let lt = index_within rest (body_len false rest) 34 (omega arith) closed in record { some = omega arith; within = omega arith })
    (λ open_. record { some = omega arith; within = omega arith })

suffix_takes : (rest : List ℕ) (c d : ℕ) (x y z : Reading) → 0 < c → 0 < d → x.len ≡ 2 → y.len ≡ 2 → z.len ≡ 1
    → Takes rest (if slice_index rest 0 == c then x else (if slice_index rest 0 == d then y else z))
suffix_takes rest c d x y z pc pd two_x two_y one_z =
    of_both (Takes rest) (slice_index rest 0 == c) x (if slice_index rest 0 == d then y else z)
    (λ is. let lt = index_within rest 0 c pc is in record { some = omega arith; within = omega arith })
    (λ _. of_both (Takes rest) (slice_index rest 0 == d) y z
    (λ is. let lt = index_within rest 0 d pd is in record { some = omega arith; within = omega arith })
    (λ _. record { some = omega arith; within = omega arith }))

one_takes : (rest : List ℕ) (r : Reading) → r.len ≡ 1 → Takes rest r
one_takes rest r one = record { some = omega arith; within = omega arith }

null_takes : (rest : List ℕ) → Takes rest (null_move rest)
unfolding null_move
null_takes rest = of_both (Takes rest) (slice_index rest 0 == 45) _ _
    (λ is. let lt = index_within rest 0 45 (omega arith) is in record { some = omega arith; within = omega arith })
    (λ _. one_takes rest _ refl)

nag_takes : (rest : List ℕ) → Takes rest (nag rest)
unfolding nag
nag_takes rest =
    let digits = prefix_len-le-length is_ascii_digit rest in
    of_both (Takes rest) (prefix_len is_ascii_digit rest == 0) _ _
    (λ _. one_takes rest _ refl)
    (λ _. record { some = omega arith; within = omega arith })

single_takes : (rest : List ℕ) (b : ℕ) → Takes rest (single b)
unfolding single
single_takes rest b =
    of_both (Takes rest) (b == 91) _ _ (λ _. one_takes rest _ refl) (λ _.
    of_both (Takes rest) (b == 93) _ _ (λ _. one_takes rest _ refl) (λ _.
    of_both (Takes rest) (b == 40) _ _ (λ _. one_takes rest _ refl) (λ _.
    of_both (Takes rest) (b == 41) _ _ (λ _. one_takes rest _ refl) (λ _.
    of_both (Takes rest) (b == 46) _ _ (λ _. one_takes rest _ refl) (λ _.
    of_both (Takes rest) (b == 42) _ _ (λ _. one_takes rest _ refl) (λ _. one_takes rest _ refl))))))

line_takes : (rest : List ℕ) → Takes rest (line_comment rest)
unfolding line_comment
line_takes rest = let line = prefix_len-le-length (λ b. not (ends_line b)) rest in record { some = omega arith; within = omega arith }

escape_takes : (rest : List ℕ) → Takes rest (escape_line rest)
unfolding escape_line
escape_takes rest = let line = prefix_len-le-length (λ b. not (ends_line b)) rest in record { some = omega arith; within = omega arith }

symbol_takes : (rest : List ℕ) → Takes rest (symbol rest)
unfolding symbol
symbol_takes rest = let more = prefix_len-le-length continues_symbol rest in record { some = omega arith; within = omega arith }

good_takes : (rest : List ℕ) → Takes rest (good_suffix rest)
unfolding good_suffix
good_takes rest = suffix_takes rest 33 63 _ _ _ (omega arith) (omega arith) refl refl refl

poor_takes : (rest : List ℕ) → Takes rest (poor_suffix rest)
unfolding poor_suffix
poor_takes rest = suffix_takes rest 63 33 _ _ _ (omega arith) (omega arith) refl refl refl

pub reading_takes : (first : Bool) (b : ℕ) (rest : List ℕ) → Takes rest (reading first b rest)
unfolding reading
reading_takes first b rest =
    of_both (Takes rest) (is_ascii_alphanumeric b) _ _ (λ _. symbol_takes rest) (λ _.
    of_both (Takes rest) (b == 123) _ _ (λ _. comment_takes rest) (λ _.
    of_both (Takes rest) (b == 59) _ _ (λ _. line_takes rest) (λ _.
    of_both (Takes rest) (b == 37 && first) _ _ (λ _. escape_takes rest) (λ _.
    of_both (Takes rest) (b == 34) _ _ (λ _. text_takes rest) (λ _.
    of_both (Takes rest) (b == 36) _ _ (λ _. nag_takes rest) (λ _.
    of_both (Takes rest) (b == 33) _ _ (λ _. good_takes rest) (λ _.
    of_both (Takes rest) (b == 63) _ _ (λ _. poor_takes rest) (λ _.
    of_both (Takes rest) (b == 45) _ _ (λ _. null_takes rest) (λ _. single_takes rest b)))))))))

pub reading_some : (first : Bool) (b : ℕ) (rest : List ℕ) → 0 < (reading first b rest).len
reading_some first b rest = (reading_takes first b rest).some

pub reading_within : (first : Bool) (b : ℕ) (rest : List ℕ) → (reading first b rest).len ≤ length rest + 1
reading_within first b rest = (reading_takes first b rest).within
