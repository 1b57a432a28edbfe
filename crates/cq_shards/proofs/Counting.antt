-- The number of times that a number is in a list with one more element, and the number of answers that are of one game.
use Rattle.std.proofs.Common.{◌==◌, ◌&&◌, ◌≡◌, ℕ, ◌+◌, ◌<◌, ◌≤◌, List, [], ◌∷◌, ◌++◌, refl, sym, ap, ◌∙◌, arith, All, eq-eqb, Bool, true, false}
use Rattle.std.specs.Prelude.{nat_eq}
use Rattle.std.proofs.lemmas.List.Elements.{All-head, All-tail}
use Rattle.std.proofs.lemmas.List.Sums.{sum_by-append, sum_by_push, sum_by-cons}
use Rattle.cq_board.specs.Draws.{times, once_below}
use Rattle.cq_board.proofs.Increasing.{one_if}
use Rattle.cq_workers.proofs.Counting.{not_same, times_more}
use Rattle.cq_shards.specs.declared.answers.GameAnswer.{GameAnswer}
use Rattle.cq_shards.specs.Answers.{answers_at}
use Rattle.cq_shards.specs.Internal.Finders.{adding, matches_at}
use Rattle.cq_shards.specs.Order.{is_match}

and_true : (p : Bool) → (p && true) ≡ p
and_true true = refl
and_true false = refl

and_false : (p : Bool) → (p && false) ≡ false
and_false true = refl
and_false false = refl

adding_times : (b : Bool) (x k : ℕ) (xs : List ℕ) → times x (adding b xs k) ≡ times x xs + one_if ((k == x) && b)
adding_times true x k xs = times_more x xs (xs ++ k ∷ []) k refl ∙ ap (λ p. times x xs + one_if p) (sym (and_true (k == x)))
adding_times false x k xs = let e = ap one_if (and_false (k == x)) in omega arith

pub times_added : (b : Bool) (x k : ℕ) (was now : List ℕ) → now ≡ adding b was k → times x now ≡ times x was + one_if ((k == x) && b)
times_added b x k was now more = ap (times x) more ∙ adding_times b x k was

pub answers_more : (x : ℕ) (was now : List GameAnswer) (a : GameAnswer) → now ≡ was ++ a ∷ [] → answers_at x now ≡ answers_at x was + one_if (a.index == x)
answers_more x was now a more = ap (answers_at x) more ∙ sum_by_push (λ b. one_if (b.index == x)) was a

pub matches_more : (x : ℕ) (was now : List GameAnswer) (a : GameAnswer) → now ≡ was ++ a ∷ [] → matches_at x now ≡ matches_at x was + one_if ((a.index == x) && is_match a)
matches_more x was now a more = ap (matches_at x) more ∙ sum_by_push (λ b. one_if ((b.index == x) && is_match b)) was a

pub answers_both : (x : ℕ) (xs bs now : List GameAnswer) → now ≡ xs ++ bs → answers_at x now ≡ answers_at x xs + answers_at x bs
answers_both x xs bs now more = ap (answers_at x) more ∙ sum_by-append (λ b. one_if (b.index == x)) xs bs

pub matches_both : (x : ℕ) (xs bs now : List GameAnswer) → now ≡ xs ++ bs → matches_at x now ≡ matches_at x xs + matches_at x bs
matches_both x xs bs now more = ap (matches_at x) more ∙ sum_by-append (λ b. one_if ((b.index == x) && is_match b)) xs bs

pub same_self : (k : ℕ) → nat_eq k k ≡ true
same_self k = eq-eqb k k refl

pub once_at : (next x : ℕ) → x < next → once_below next x ≡ 1
once_at next x less = grind arith

pub below_once : (next x : ℕ) → 0 < once_below next x → x < next
below_once next x some = grind arith

pub answers_cons : (x : ℕ) (a : GameAnswer) (later_ones : List GameAnswer) → answers_at x (a ∷ later_ones) ≡ one_if (a.index == x) + answers_at x later_ones
answers_cons x a later_ones = sum_by-cons (λ b. one_if (b.index == x)) a later_ones

pub matches_cons : (x : ℕ) (a : GameAnswer) (later_ones : List GameAnswer) → matches_at x (a ∷ later_ones) ≡ one_if ((a.index == x) && is_match a) + matches_at x later_ones
matches_cons x a later_ones = sum_by-cons (λ b. one_if ((b.index == x) && is_match b)) a later_ones

one_less : (p q : Bool) → one_if (p && q) ≤ one_if p
one_less true true = omega arith
one_less true false = omega arith
one_less false q = omega arith

pub matches_among : (x : ℕ) (later_ones : List GameAnswer) → matches_at x later_ones ≤ answers_at x later_ones
matches_among x [] = omega arith
matches_among x (a ∷ later_ones) =
    let m = matches_cons x a later_ones in let n = answers_cons x a later_ones in let r = matches_among x later_ones in
    let o = one_less (a.index == x) (is_match a) in omega arith

-- none of the later answers has this number
pub none_later : (x : ℕ) (later_ones : List GameAnswer) → All (λ b. x < b.index) later_ones → answers_at x later_ones ≡ 0
none_later x [] later = refl
none_later x (b ∷ bs) later =
    let h = All-head (λ c. x < c.index) b bs later in
    let n = answers_cons x b bs in let r = none_later x bs (All-tail (λ c. x < c.index) b bs later) in
    let z = ap one_if (not_same b.index x (λ e. absurd (omega (arith, e, h)))) in omega arith
