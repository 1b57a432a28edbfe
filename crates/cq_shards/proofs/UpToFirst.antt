-- Answers in order, cut off after the first match.
use Rattle.std.proofs.Common.{◌==◌, ◌&&◌, ◌≡◌, inl, inr, zero, suc, ℕ, ◌+◌, ◌<◌, ◌≤◌, List, [], ◌∷◌, length, take, get_or, refl, sym, ap, ◌∙◌, subst, arith, All, AllPairs, Bool, true, false}
use Rattle.std.specs.Prelude.{nat_eq}
use Rattle.std.specs.List.Sorted.{IsPermutation}
use Rattle.std.proofs.lemmas.Bool.{cases_lt}
use Rattle.std.proofs.lemmas.List.Elements.{All-head, All-tail, All-weaker}
use Rattle.std.proofs.lemmas.List.Sorted.{All-permutation, sum_by-IsPermutation}
use Rattle.std.proofs.lemmas.Option.{slice_get_within}
use Rattle.pgn_batches.specs.Games.{games_of, number_of}
use Rattle.pgn_batches.specs.KeptGames.{KeptGames}
use Rattle.pgn_batches.specs.declared.batch.Batch.{Batch}
use Rattle.pgn_batches.specs.declared.kept_game.KeptGame.{KeptGame}
use Rattle.cq_board.proofs.Increasing.{one_if}
use Rattle.cq_workers.proofs.Counting.{not_same}
use Rattle.cql_syntax.specs.Trees.{QueryTree}
use Rattle.pgn_reader.specs.Verdict.{IsReadResult}
use Rattle.cq_shards.specs.Answers.{IsAnswerAmong, IsAnswerOf, answer_of, answers_at}
use Rattle.cq_shards.specs.Internal.Finders.{AreFound, IsAnswerIn, matches_at}
use Rattle.cq_shards.specs.FirstMatch.{AnswersUpToFirst, AreUpToFirst}
use Rattle.cq_shards.specs.Order.{AreOfDistinctGames, IsEarlier, is_match}
use Rattle.cq_shards.specs.declared.answers.GameAnswer.{GameAnswer}
use Rattle.cq_shards.proofs.Beside.{NotLater, first_game, first_number, index_of, later_answer, later_pairs, none_counted, not_later}
use Rattle.cq_shards.proofs.Counting.{answers_cons, matches_among, matches_cons, same_self}

-- answers in the order of some games, of which those up to the game `word` are all there, and that one's is the first match
pub record AreFrom (query : QueryTree) (n : ℕ) (games : KeptGames) (word : ℕ) (xs : List GameAnswer) : Type 0 where
  pub each : All (IsAnswerAmong query n games) xs
  pub order : AllPairs NotLater xs
  pub there : (x : ℕ) → x < length games → x ≤ word → answers_at (n + x) xs ≡ 1
  pub before : (x : ℕ) → x < length games → x < word → matches_at (n + x) xs ≡ 0
  pub at_word : word < length games → 0 < matches_at (n + word) xs

-- the first answer is that of the first game, and no other is
pub record IsFirstOf (query : QueryTree) (n : ℕ) (g : KeptGame) (a : GameAnswer) (ys : List GameAnswer) : Type 0 where
  pub index : a.index ≡ n
  pub answer : IsAnswerOf query n g a
  pub none : answers_at n ys ≡ 0

same_place : (n : ℕ) → n + 0 ≡ n
same_place n = omega arith

next_place : (n x : ℕ) → (n + 1) + x ≡ n + (x + 1)
next_place n x = omega arith

is_here : (index n : ℕ) → index ≡ n → nat_eq index n ≡ true
is_here index n is = subst (λ (k : ℕ). nat_eq k n ≡ true) (sym is) (same_self n)

first_of : (query : QueryTree) (n : ℕ) (g : KeptGame) (gs : KeptGames) (word : ℕ) (a : GameAnswer) (ys : List GameAnswer) → AreFrom query n (g ∷ gs) word (a ∷ ys)
    → IsFirstOf query n g a ys
first_of query n g gs word a ys are = record {
  index = here;
  answer = (
    at.1.outcome,
    subst (λ (h : KeptGame). IsReadResult h.start h.first h.bytes at.1.outcome) (sym (first_game query n g gs a at number)) at.1.read,
    at.1.is ∙ ap (λ k. answer_of query k at.1.outcome) (let e : n + at.0 ≡ n = omega (arith, number) in e),
  );
  none = let c = answers_cons n a ys in let o = ap one_if (is_here a.index n here) in omega (arith, c, o, once);
}
  where
    at : IsAnswerAmong query n (g ∷ gs) a
    at = All-head (IsAnswerAmong query n (g ∷ gs)) a ys are.each

    once : answers_at n (a ∷ ys) ≡ 1
    once = ap (λ k. answers_at k (a ∷ ys)) (sym (same_place n)) ∙ are.there 0 (omega arith) (omega arith)

    number : at.0 ≡ 0
    number = first_number query n (g ∷ gs) a ys at are.order once (cases_lt 0 at.0)

    here : a.index ≡ n
    here = index_of query n (g ∷ gs) a at ∙ omega (arith, number)

-- the answers after the first
from_next : (query : QueryTree) (n : ℕ) (g : KeptGame) (gs : KeptGames) (word : ℕ) (a : GameAnswer) (ys : List GameAnswer) → AreFrom query n (g ∷ gs) (word + 1) (a ∷ ys)
    → IsFirstOf query n g a ys → AreFrom query (n + 1) gs word ys
from_next query n g gs word a ys are is = record {
  each = λ i d below. later_answer query n g gs (get_or ys i d) (All-tail (IsAnswerAmong query n (g ∷ gs)) a ys are.each i d below) (none_counted n ys is.none i d below);
  order = later_pairs a ys are.order;
  there = λ x less le.
      let t = are.there (x + 1) (omega (arith, less)) (omega (arith, le)) in let c = answers_cons (n + (x + 1)) a ys in let z = ap one_if (off x) in
      let m = ap (λ k. answers_at k ys) (next_place n x) in omega (arith, t, c, z, m);
  before = λ x less lt.
      let t = are.before (x + 1) (omega (arith, less)) (omega (arith, lt)) in let c = matches_cons (n + (x + 1)) a ys in
      let m = ap (λ k. matches_at k ys) (next_place n x) in omega (arith, t, c, m);
  at_word = λ less.
      let t = are.at_word (omega (arith, less)) in let c = matches_cons (n + (word + 1)) a ys in let z = ap (λ p. one_if (p && is_match a)) (off word) in
      let m = ap (λ k. matches_at k ys) (next_place n word) in omega (arith, t, c, z, m);
}
  where
    off : (x : ℕ) → nat_eq a.index (n + (x + 1)) ≡ false
    off x = let i = is.index in not_same a.index (n + (x + 1)) (λ e. absurd (omega (arith, e, i)))

-- the first answer is the first match
ends : (query : QueryTree) (n : ℕ) (g : KeptGame) (gs : KeptGames) (a : GameAnswer) (ys : List GameAnswer) (m : Bool) → is_match a ≡ m → AreFrom query n (g ∷ gs) 0 (a ∷ ys)
    → IsFirstOf query n g a ys → is_match a ≡ true
ends query n g gs a ys true e are is = e
ends query n g gs a ys false e are is =
    let t = are.at_word (omega arith) in let s = ap (λ k. matches_at k (a ∷ ys)) (same_place n) in let c = matches_cons n a ys in let among = matches_among n ys in
    let o = ap (λ p. one_if (p && is_match a)) (is_here a.index n is.index) in let z = ap one_if e in let none = is.none in absurd (omega (arith, t, s, c, among, o, z, none))

-- or it is none
goes_on : (query : QueryTree) (n : ℕ) (g : KeptGame) (gs : KeptGames) (word : ℕ) (a : GameAnswer) (ys : List GameAnswer) (m : Bool) → is_match a ≡ m
    → AreFrom query n (g ∷ gs) (word + 1) (a ∷ ys) → IsFirstOf query n g a ys → is_match a ≡ false
goes_on query n g gs word a ys false e are is = e
goes_on query n g gs word a ys true e are is =
    let t = are.before 0 (omega arith) (omega arith) in let s = ap (λ k. matches_at k (a ∷ ys)) (same_place n) in let c = matches_cons n a ys in
    let o = ap (λ p. one_if (p && is_match a)) (is_here a.index n is.index) in let z = ap one_if e in absurd (omega (arith, t, s, c, o, z))

up_to : (query : QueryTree) (n : ℕ) (games : KeptGames) (word j : ℕ) (xs : List GameAnswer) → j ≡ word + 1 → AreFrom query n games word xs → AreUpToFirst query n games (take j xs)
up_to query n games word zero xs is are = absurd (omega (arith, is))
up_to query n [] word (suc j) [] is are = tt
up_to query n [] word (suc j) (a ∷ ys) is are =
    let at = All-head (IsAnswerAmong query n []) a ys are.each in
    absurd (let less = slice_get_within [] at.0 at.1.game at.1.at in omega (arith, less))
up_to query n (g ∷ gs) word (suc j) [] is are = absurd (let t = are.there 0 (omega arith) (omega arith) in omega (arith, t))
up_to query n (g ∷ gs) zero (suc j) (a ∷ ys) is are =
    let first = first_of query n g gs 0 a ys are in (
      first.answer,
      inl (ends query n g gs a ys (is_match a) refl are first, ap (λ (k : ℕ). take k ys) (let e : j ≡ 0 = omega (arith, is) in e)),
    )
up_to query n (g ∷ gs) (suc word) (suc j) (a ∷ ys) is are =
    let from : AreFrom query n (g ∷ gs) (word + 1) (a ∷ ys) = subst (λ (k : ℕ). AreFrom query n (g ∷ gs) k (a ∷ ys)) (let e : suc word ≡ word + 1 = omega arith in e) are in
    let first = first_of query n g gs (word + 1) a ys from in (
      first.answer,
      inr (
        goes_on query n g gs word a ys (is_match a) refl from first,
        up_to query (n + 1) gs word j ys (omega (arith, is)) (from_next query n g gs word a ys from first),
      ),
    )

-- no two answers are of one game, since each game has one at most
once_apart : (xs : List GameAnswer) → All (λ a. answers_at a.index xs ≤ 1) xs → AreOfDistinctGames xs
once_apart [] once i j d before inside = absurd (omega (arith, inside))
once_apart (a ∷ ys) once zero zero d before inside = absurd (omega (arith, before))
once_apart (a ∷ ys) once zero (suc j) d before inside = λ same.
    other ys j d (omega (arith, inside)) same
    (let o = All-head (λ c. answers_at c.index (a ∷ ys) ≤ 1) a ys once in let c = answers_cons a.index a ys in let s = ap one_if (same_self a.index) in omega (arith, o, c, s))
  where
    other : (bs : List GameAnswer) (j : ℕ) (d : GameAnswer) → j < length bs → a.index ≡ (get_or bs j d).index → answers_at a.index bs ≡ 0 → ⊥
    other [] j d inside same none = absurd (omega (arith, inside))
    other (c ∷ bs) zero d inside same none =
        let n = answers_cons a.index c bs in let s = ap one_if (is_here c.index a.index (sym same)) in omega (arith, n, s, none)
    other (c ∷ bs) (suc j) d inside same none = let n = answers_cons a.index c bs in other bs j d (omega (arith, inside)) same (omega (arith, n, none))
once_apart (a ∷ ys) once (suc i) zero d before inside = absurd (omega (arith, before))
once_apart (a ∷ ys) once (suc i) (suc j) d before inside =
    once_apart ys
    (λ k e within. let o = All-tail (λ c. answers_at c.index (a ∷ ys) ≤ 1) a ys once k e within in let n = answers_cons (get_or ys k e).index a ys in omega (arith, o, n))
    i j d (omega (arith, before)) (omega (arith, inside))

are_apart : (query : QueryTree) (batch : Batch) (word : ℕ) (xs : List GameAnswer) → AreFound query batch word xs → AreOfDistinctGames xs
are_apart query batch word xs all = once_apart xs (All-weaker (IsAnswerIn query batch) (λ a. answers_at a.index xs ≤ 1) one xs all.each)
  where
    one : (a : GameAnswer) → IsAnswerIn query batch a → answers_at a.index xs ≤ 1
    one a at =
        subst (λ (n : ℕ). answers_at n xs ≤ 1) (sym (index_of query (number_of batch) (games_of batch) a at))
        (all.once at.0 (slice_get_within (games_of batch) at.0 at.1.game at.1.at))

pub cut_off : (query : QueryTree) (batch : Batch) (word : ℕ) (xs sorted kept : List GameAnswer) → AreFound query batch word xs → IsPermutation xs sorted → (AreOfDistinctGames xs → AllPairs IsEarlier sorted)
    → kept ≡ take (word + 1) sorted → AnswersUpToFirst query batch kept
cut_off query batch word xs sorted kept all moved order is =
    let n = number_of batch in
    subst (AreUpToFirst query n (games_of batch)) (sym is) (up_to query n (games_of batch) word (word + 1) sorted refl record {
      each = All-permutation (IsAnswerIn query batch) xs sorted moved all.each;
      order = not_later sorted (order (are_apart query batch word xs all));
      there = λ x less le. sum_by-IsPermutation (λ a. one_if (a.index == n + x)) xs sorted moved ∙ all.there x less le;
      before = λ x less lt. sum_by-IsPermutation (λ a. one_if ((a.index == n + x) && is_match a)) xs sorted moved ∙ all.before x less lt;
      at_word = λ less. let s = sum_by-IsPermutation (λ a. one_if ((a.index == n + word) && is_match a)) xs sorted moved in let t = all.at_word less in omega (arith, s, t);
    })
