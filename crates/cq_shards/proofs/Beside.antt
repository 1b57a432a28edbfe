-- Answers in the order of their games are the answers of the games one by one.
use Rattle.std.proofs.Common.{◌≡◌, ◌⊎◌, ℕ, zero, suc, ◌+◌, ◌≤◌, ◌<◌, ◌==◌, Bool, true, false, List, [], ◌∷◌, length, get_or, Some, All, AllPairs, refl, sym, ap, ◌∙◌, subst, arith, cond, inl, inr}
use Rattle.std.specs.Prelude.{nat_eq, slice_get}
use Rattle.std.specs.List.Sorted.{IsPermutation}
use Rattle.std.proofs.lemmas.Bool.{cases_lt}
use Rattle.std.proofs.lemmas.List.Elements.{All-head, All-tail, All-nil, All-cons}
use Rattle.std.proofs.lemmas.List.Sorted.{All-permutation, sum_by-IsPermutation}
use Rattle.std.proofs.lemmas.List.Sums.{sum_by-append}
use Rattle.std.proofs.lemmas.Option.{slice_get_within}
use Rattle.pgn_batches.specs.declared.batch.Batch.{Batch}
use Rattle.pgn_batches.specs.declared.kept_game.KeptGame.{KeptGame}
use Rattle.pgn_batches.specs.KeptGames.{KeptGames}
use Rattle.pgn_batches.specs.Games.{games_of, number_of}
use Rattle.cql_syntax.specs.Trees.{QueryTree}
use Rattle.pgn_reader.specs.Verdict.{IsReadResult}
use Rattle.cq_shards.specs.declared.answers.GameAnswer.{GameAnswer}
use Rattle.cq_shards.specs.Order.{AreOfDistinctGames, IsEarlier}
use Rattle.cq_shards.specs.Answers.{AnswersBatch, AreAnswersOf, AreInGameOrder, IsAnswerAmong, answer_of, answers_at, answers_from}

abbrev one_if : Bool → ℕ
one_if true = 1
one_if false = 0

cond_one : (b : Bool) → 0 + cond b 1 0 ≡ one_if b
cond_one true = refl
cond_one false = refl

answers_at_first : (x : ℕ) (a : GameAnswer) (ys : List GameAnswer) → answers_at x (a ∷ ys) ≡ one_if (a.index == x) + answers_at x ys
answers_at_first x a ys = sum_by-append (λ (b : GameAnswer). cond (b.index == x) 1 0) (a ∷ []) ys ∙ ap (λ n. n + answers_at x ys) (cond_one (a.index == x))

other : (x y : ℕ) → x < y → one_if (y == x) ≡ 0
other x y less = let e : nat_eq y x ≡ false = grind arith in ap one_if e

before_it : (x y : ℕ) → y < x → one_if (y == x) ≡ 0
before_it x y less = let e : nat_eq y x ≡ false = grind arith in ap one_if e

same : (x y : ℕ) → y ≡ x → one_if (y == x) ≡ 1
same x y is = let e : nat_eq y x ≡ true = grind arith in ap one_if e

none_before : (x : ℕ) (ys : List GameAnswer) → All (λ a. x < a.index) ys → answers_at x ys ≡ 0
none_before x [] later = refl
none_before x (a ∷ ys) later =
    let here = other x a.index (All-head (λ (b : GameAnswer). x < b.index) a ys later) in
    let rest = none_before x ys (All-tail (λ (b : GameAnswer). x < b.index) a ys later) in
    let sum = answers_at_first x a ys in
    omega (arith, here, rest, sum)

-- none has a number that is counted no more
differs : (x y : ℕ) → one_if (y == x) ≡ 0 → y ≡ x → ⊥
differs x y none is = let s = same x y is in omega (arith, none, s)

pub none_counted : (x : ℕ) (ys : List GameAnswer) → answers_at x ys ≡ 0 → All (λ a. a.index ≡ x → ⊥) ys
none_counted x [] none = All-nil (λ (a : GameAnswer). a.index ≡ x → ⊥)
none_counted x (a ∷ ys) none =
    let sum = answers_at_first x a ys in
    All-cons (λ (b : GameAnswer). b.index ≡ x → ⊥) a ys (differs x a.index (omega (arith, sum, none))) (none_counted x ys (omega (arith, sum, none)))

abbrev pub NotLater : GameAnswer → GameAnswer → Type 0
NotLater a b = a.index ≤ b.index

pub later_pairs : (a : GameAnswer) (ys : List GameAnswer) → AllPairs NotLater (a ∷ ys) → AllPairs NotLater ys
later_pairs a ys pairs = λ i j d before below. pairs (suc i) (suc j) d (omega (arith, before)) (omega (arith, below))

pub first_least : (a : GameAnswer) (ys : List GameAnswer) → AllPairs NotLater (a ∷ ys) → All (NotLater a) ys
first_least a ys pairs = λ j d below. pairs zero (suc j) d (omega arith) (omega (arith, below))

pub index_of : (query : QueryTree) (n : ℕ) (games : KeptGames) (a : GameAnswer) → (at : IsAnswerAmong query n games a) → a.index ≡ n + at.0
index_of query n games a at = ap (λ (b : GameAnswer). b.index) at.1.is

-- the first answer is of the first game
pub first_number : (query : QueryTree) (n : ℕ) (games : KeptGames) (a : GameAnswer) (ys : List GameAnswer) → (at : IsAnswerAmong query n games a) → AllPairs NotLater (a ∷ ys)
    → answers_at n (a ∷ ys) ≡ 1 → (0 < at.0) ⊎ (at.0 ≤ 0) → at.0 ≡ 0
first_number query n games a ys at pairs once (inr few) = omega (arith, few)
first_number query n games a ys at pairs once (inl some) =
    let index = index_of query n games a at in
    let least = first_least a ys pairs in
    let none = none_before n (a ∷ ys) (All-cons (λ (b : GameAnswer). n < b.index) a ys (omega (arith, index, some))
    (λ i d below. let l = least i d below in omega (arith, l, index, some))) in
    absurd (omega (arith, none, once))

-- an answer of a later game
pub later_answer : (query : QueryTree) (n : ℕ) (g : KeptGame) (gs : KeptGames) (a : GameAnswer) → IsAnswerAmong query n (g ∷ gs) a → (a.index ≡ n → ⊥) → IsAnswerAmong query (n + 1) gs a
later_answer query n g gs a (zero, here) apart = absurd (apart (let i = index_of query n (g ∷ gs) a (zero, here) in omega (arith, i)))
later_answer query n g gs a (suc j, later) apart = (
  j,
  record {
    game = later.game;
    outcome = later.outcome;
    at = later.at;
    read = later.read;
    is = later.is ∙ ap (λ k. answer_of query k later.outcome) (let e : n + suc j ≡ (n + 1) + j = omega arith in e);
  },
)

pub first_game : (query : QueryTree) (n : ℕ) (g : KeptGame) (gs : KeptGames) (a : GameAnswer) → (at : IsAnswerAmong query n (g ∷ gs) a) → at.0 ≡ 0 → g ≡ at.1.game
first_game query n g gs a at is = let e : slice_get (g ∷ gs) 0 ≡ Some at.1.game = ap (slice_get (g ∷ gs)) (sym is) ∙ at.1.at in cc

joined : (query : QueryTree) (n : ℕ) (g : KeptGame) (gs : KeptGames) (a : GameAnswer) (ys : List GameAnswer) → (at : IsAnswerAmong query n (g ∷ gs) a) → at.0 ≡ 0
    → AreInGameOrder query (n + 1) gs ys → AreInGameOrder query n (g ∷ gs) (a ∷ ys)
unfolding answers_from
joined query n g gs a ys at is tail =
    let game = first_game query n g gs a at is in
    let r = at.1.outcome in
    let one : a ≡ answer_of query n r = at.1.is ∙ ap (λ k. answer_of query k r) (let e : n + at.0 ≡ n = omega (arith, is) in e) in
    record {
      outcomes = r ∷ tail.outcomes;
      are_read = (subst (λ (h : KeptGame). IsReadResult h.start h.first h.bytes r) (sym game) at.1.read, tail.are_read);
      are = ap (λ b. b ∷ ys) one ∙ ap (λ bs. answer_of query n r ∷ bs) tail.are;
    }

pub in_game_order : (query : QueryTree) (n : ℕ) (games : KeptGames) (answers : List GameAnswer) → All (IsAnswerAmong query n games) answers
    → ((k : ℕ) → k < length games → answers_at (n + k) answers ≡ 1) → AllPairs NotLater answers → AreInGameOrder query n games answers
unfolding answers_from
in_game_order query n [] [] each once pairs = record { outcomes = []; are_read = tt; are = refl }
in_game_order query n [] (a ∷ ys) each once pairs =
    let at = All-head (IsAnswerAmong query n []) a ys each in
    let less = slice_get_within [] at.0 at.1.game at.1.at in
    absurd (omega (arith, less))
in_game_order query n (g ∷ gs) [] each once pairs = absurd (let e = once 0 (omega arith) in omega (arith, e))
in_game_order query n (g ∷ gs) (a ∷ ys) each once pairs =
    let games = g ∷ gs in
    let at = All-head (IsAnswerAmong query n games) a ys each in
    let start : n + 0 ≡ n = omega arith in
    let one : answers_at n (a ∷ ys) ≡ 1 = ap (λ k. answers_at k (a ∷ ys)) (sym start) ∙ once 0 (omega arith) in
    let number = first_number query n games a ys at pairs one (cases_lt 0 at.0) in
    let index = index_of query n games a at in
    let sum = answers_at_first n a ys in
    let here = same n a.index (omega (arith, index, number)) in
    let none = none_counted n ys (omega (arith, one, sum, here)) in
    let rest = All-tail (IsAnswerAmong query n games) a ys each in
    let least = first_least a ys pairs in
    joined query n g gs a ys at number
    (in_game_order query (n + 1) gs ys (λ i d below. later_answer query n g gs (get_or ys i d) (rest i d below) (none i d below))
    (λ k below.
    let more = once (k + 1) (omega (arith, below)) in
    let next : n + (k + 1) ≡ (n + 1) + k = omega arith in
    let all : answers_at ((n + 1) + k) (a ∷ ys) ≡ 1 = ap (λ j. answers_at j (a ∷ ys)) (sym next) ∙ more in
    let split = answers_at_first ((n + 1) + k) a ys in
    let off = before_it ((n + 1) + k) a.index (omega (arith, index, number)) in
    omega (arith, all, split, off))
    (later_pairs a ys pairs))

one_counted : (x : ℕ) (ys : List GameAnswer) (j : ℕ) (d : GameAnswer) → j < length ys → (get_or ys j d).index ≡ x → 1 ≤ answers_at x ys
one_counted x [] j d below is = absurd (omega (arith, below))
one_counted x (a ∷ ys) zero d below is = let s = answers_at_first x a ys in let e = same x a.index is in omega (arith, s, e)
one_counted x (a ∷ ys) (suc j) d below is = let s = answers_at_first x a ys in let r = one_counted x ys j d (omega (arith, below)) is in omega (arith, s, r)

two_counted : (x : ℕ) (ys : List GameAnswer) (i j : ℕ) (d : GameAnswer) → i < j → j < length ys → (get_or ys i d).index ≡ x → (get_or ys j d).index ≡ x → 2 ≤ answers_at x ys
two_counted x [] i j d before below is other = absurd (omega (arith, below))
two_counted x (a ∷ ys) i zero d before below is other = absurd (omega (arith, before))
two_counted x (a ∷ ys) zero (suc j) d before below is other =
    let s = answers_at_first x a ys in let e = same x a.index is in let r = one_counted x ys j d (omega (arith, below)) other in omega (arith, s, e, r)
two_counted x (a ∷ ys) (suc i) (suc j) d before below is other =
    let s = answers_at_first x a ys in let r = two_counted x ys i j d (omega (arith, before)) (omega (arith, below)) is other in omega (arith, s, r)

-- no two are of one game
apart : (query : QueryTree) (n : ℕ) (games : KeptGames) (answers : List GameAnswer) → All (IsAnswerAmong query n games) answers
    → ((k : ℕ) → k < length games → answers_at (n + k) answers ≡ 1) → AreOfDistinctGames answers
apart query n games answers each once = λ i j d before below same_index.
    let at = each j d below in
    let index = index_of query n games (get_or answers j d) at in
    let inside = slice_get_within games at.0 at.1.game at.1.at in
    let two = two_counted (n + at.0) answers i j d before below (same_index ∙ index) index in
    omega (arith, two, once at.0 inside)

pub not_later : (xs : List GameAnswer) → AllPairs IsEarlier xs → AllPairs NotLater xs
not_later xs pairs = λ i j d before below. let p = pairs i j d before below in omega (arith, p)

-- the answers of a batch, once they are in order
pub ordered_answers : (query : QueryTree) (batch : Batch) (answers sorted : List GameAnswer) → AreAnswersOf query batch answers → IsPermutation answers sorted
    → (AreOfDistinctGames answers → AllPairs IsEarlier sorted) → AnswersBatch query batch sorted
ordered_answers query batch answers sorted are same_ones order =
    let n = number_of batch in
    let games = games_of batch in
    in_game_order query n games sorted (All-permutation (IsAnswerAmong query n games) answers sorted same_ones are.each)
    (λ k below. sum_by-IsPermutation (λ (a : GameAnswer). cond (a.index == n + k) 1 0) answers sorted same_ones ∙ are.once k below)
    (not_later sorted (order (apart query n games answers are.each are.once)))
