-- Rows of answers, from which those of one query after the other are taken off.
use Rattle.std.proofs.Common.{◌==◌, ◌≡◌, ℕ, ◌+◌, ◌<◌, ◌≤◌, List, [], ◌∷◌, ◌++◌, length, get_or, take, drop, map, Some, refl, sym, ap, ap₂, ◌∙◌, subst, arith, All, length-append}
use Rattle.std.specs.List.{AllZip}
use Rattle.std.proofs.lemmas.List.{drop_more, map-append, take_all, take_more}
use Rattle.std.proofs.lemmas.List.Elements.{All-pop, All-push, All-nil}
use Rattle.pgn_batches.specs.declared.batch.Batch.{Batch}
use Rattle.pgn_batches.specs.Games.{games_of, number_of}
use Rattle.cq_board.proofs.Increasing.{one_if}
use Rattle.cq_workers.proofs.Counting.{made_more}
use Rattle.cql_syntax.specs.Trees.{QueryTree}
use Rattle.cq_shards.specs.declared.answers.GameAnswer.{GameAnswer}
use Rattle.cq_shards.specs.Answers.{AreAnswersOf, IsAnswerAmong, answer_of, answers_at}
use Rattle.cq_shards.specs.Internal.WorkerAnswers.{size}
use Rattle.cq_shards.proofs.Counting.{answers_more}
use Rattle.cq_shards.specs.declared.search_many.AnswerList.{AnswerList}
use Rattle.cq_shards.specs.declared.game_rows.GameRow.{GameRow}
use Rattle.cq_shards.specs.Many.{AreManyOf}
use Rattle.cq_shards.specs.Internal.GameRows.{AreRowsOf, AreSplitOff, IsRowIn, answers_back, rows_at}

-- lists with one last element more are the same where the lists and the elements are
snoc_same : {X : Type 0} (xs ys : List X) (a b : X) → xs ++ a ∷ [] ≡ ys ++ b ∷ [] → (xs ≡ ys) × (a ≡ b)
snoc_same [] [] a b e = (refl, ap (λ l. get_or l 0 a) e)
snoc_same [] (y ∷ ys) a b e = let n = length-append ys (b ∷ []) in let m = ap length e in absurd (omega (arith, m, n))
snoc_same (x ∷ xs) [] a b e = let n = length-append xs (a ∷ []) in let m = ap length e in absurd (omega (arith, m, n))
snoc_same (x ∷ xs) (y ∷ ys) a b e = let r = snoc_same xs ys a b (ap (drop 1) e) in (ap₂ (λ z zs. z ∷ zs) (ap (λ l. get_or l 0 x) e) r.0, r.1)

abbrev IsAnswerIn : QueryTree → Batch → GameAnswer → Type 0
IsAnswerIn query batch a = IsAnswerAmong query (number_of batch) (games_of batch) a

-- the answers taken off so far, while these rows are left
pub record IsTaking (queries : List QueryTree) (batch : Batch) (rows left : List GameRow) (answers : List GameAnswer) : Type 0 where
  pub first : QueryTree
  pub later : List QueryTree
  pub are : queries ≡ first ∷ later
  pub rows_ : All (IsRowIn queries batch) rows
  pub left_ : All (IsRowIn later batch) left
  pub answers_ : All (IsAnswerIn first batch) answers
  pub rows_once : (x : ℕ) → x < size batch → rows_at (number_of batch + x) rows + rows_at (number_of batch + x) left ≡ 1
  pub answers_once : (x : ℕ) → x < size batch → rows_at (number_of batch + x) rows + answers_at (number_of batch + x) answers ≡ 1

pub takes : (queries : List QueryTree) (k : ℕ) (batch : Batch) (rows left : List GameRow) (answers : List GameAnswer) → k < length queries → AreRowsOf (drop k queries) batch rows
    → left ≡ [] → answers ≡ [] → IsTaking (drop k queries) batch rows left answers
takes [] k batch rows left answers some are none nothing = absurd (omega (arith, some))
takes (q ∷ qs) k batch rows left answers some are none nothing = record {
  first = get_or (q ∷ qs) k q;
  later = drop (k + 1) (q ∷ qs);
  are = drop_more (q ∷ qs) k q some;
  rows_ = are.each;
  left_ = subst (All (IsRowIn (drop (k + 1) (q ∷ qs)) batch)) (sym none) (All-nil (IsRowIn (drop (k + 1) (q ∷ qs)) batch));
  answers_ = subst (All (IsAnswerIn (get_or (q ∷ qs) k q) batch)) (sym nothing) (All-nil (IsAnswerIn (get_or (q ∷ qs) k q) batch));
  rows_once = λ x less. let o = are.once x less in let z : rows_at (number_of batch + x) left ≡ 0 = ap (rows_at (number_of batch + x)) none in omega (arith, o, z);
  answers_once = λ x less. let o = are.once x less in let z : answers_at (number_of batch + x) answers ≡ 0 = ap (answers_at (number_of batch + x)) nothing in omega (arith, o, z);
}

-- a row is taken, and its last answer is taken off
pub record TookRow (was rows : List GameRow) (now : GameRow) (left left' : List GameRow) (answers answers' : List GameAnswer) : Type 0 where
  pub row : GameRow
  pub a : GameAnswer
  pub rows_ : was ≡ rows ++ row ∷ []
  pub index : now.index ≡ row.index
  pub off : row.answers.items ≡ now.answers.items ++ a ∷ []
  pub left_ : left' ≡ left ++ now ∷ []
  pub answers_ : answers' ≡ answers ++ a ∷ []

some_back : (queries later : List QueryTree) (first : QueryTree) (batch : Batch) (row : GameRow) → queries ≡ first ∷ later → (is : IsRowIn queries batch row)
    → row.answers.items ≡ answers_back later (number_of batch + is.0) is.1.outcome ++ answer_of first (number_of batch + is.0) is.1.outcome ∷ []
some_back queries later first batch row are is = is.1.answers ∙ ap (λ qs. answers_back qs (number_of batch + is.0) is.1.outcome) are

pub not_none : (queries : List QueryTree) (batch : Batch) (was rows left : List GameRow) (answers : List GameAnswer) (row : GameRow) → IsTaking queries batch was left answers
    → was ≡ rows ++ row ∷ [] → length row.answers.items ≡ 0 → ⊥
not_none queries batch was rows left answers row before taken none =
    let is : IsRowIn queries batch row = (All-pop (IsRowIn queries batch) was rows (Some row) taken before.rows_).1 in
    let e = ap length (some_back queries before.later before.first batch row before.are is) in
    let n = length-append (answers_back before.later (number_of batch + is.0) is.1.outcome) (answer_of before.first (number_of batch + is.0) is.1.outcome ∷ []) in omega (arith, none, e, n)

pub takes_one : (queries : List QueryTree) (batch : Batch) (was rows : List GameRow) (now : GameRow) (left left' : List GameRow) (answers answers' : List GameAnswer)
    → IsTaking queries batch was left answers → TookRow was rows now left left' answers answers' → IsTaking queries batch rows left' answers'
takes_one queries batch was rows now left left' answers answers' before took =
    let row = took.row in
    let a = took.a in
    let p = All-pop (IsRowIn queries batch) was rows (Some row) took.rows_ before.rows_ in
    let is : IsRowIn queries batch row = p.1 in
    let same = snoc_same now.answers.items (answers_back before.later (number_of batch + is.0) is.1.outcome) a (answer_of before.first (number_of batch + is.0) is.1.outcome)
    (sym took.off ∙ some_back queries before.later before.first batch row before.are is) in
    let row_left : IsRowIn before.later batch now = (is.0, record { outcome = is.1.outcome; read = is.1.read; index = took.index ∙ is.1.index; answers = same.0 }) in
    let answer : IsAnswerIn before.first batch a = (is.0, record { game = is.1.read.game; outcome = is.1.outcome; at = is.1.read.at; read = is.1.read.read; is = same.1 }) in
    let numbered : a.index ≡ row.index = ap (λ (b : GameAnswer). b.index) same.1 ∙ sym is.1.index in record {
      first = before.first;
      later = before.later;
      are = before.are;
      rows_ = p.0;
      left_ = subst (All (IsRowIn before.later batch)) (sym took.left_) (All-push (IsRowIn before.later batch) left now before.left_ row_left);
      answers_ = subst (All (IsAnswerIn before.first batch)) (sym took.answers_) (All-push (IsAnswerIn before.first batch) answers a before.answers_ answer);
      rows_once = λ x less.
          let o = before.rows_once x less in
          let r = made_more (λ (r : GameRow). r.index == number_of batch + x) rows was row took.rows_ in
          let l = made_more (λ (r : GameRow). r.index == number_of batch + x) left left' now took.left_ in
          let e : one_if (now.index == number_of batch + x) ≡ one_if (row.index == number_of batch + x) = ap (λ (n : ℕ). one_if (n == number_of batch + x)) took.index in
          omega (arith, o, r, l, e);
      answers_once = λ x less.
          let o = before.answers_once x less in
          let r = made_more (λ (r : GameRow). r.index == number_of batch + x) rows was row took.rows_ in
          let l = answers_more (number_of batch + x) answers answers' a took.answers_ in
          let e : one_if (a.index == number_of batch + x) ≡ one_if (row.index == number_of batch + x) = ap (λ (n : ℕ). one_if (n == number_of batch + x)) numbered in
          omega (arith, o, r, l, e);
    }

pub taken : (queries : List QueryTree) (batch : Batch) (rows left : List GameRow) (answers : List GameAnswer) → IsTaking queries batch rows left answers → rows ≡ []
    → AreSplitOff queries batch left answers
taken queries batch rows left answers was none = record {
  first = was.first;
  later = was.later;
  are = was.are;
  rows_ = record {
    each = was.left_;
    once = λ x less. let o = was.rows_once x less in let z : rows_at (number_of batch + x) rows ≡ 0 = ap (rows_at (number_of batch + x)) none in omega (arith, o, z);
  };
  answers_ = record {
    each = was.answers_;
    once = λ x less. let o = was.answers_once x less in let z : rows_at (number_of batch + x) rows ≡ 0 = ap (rows_at (number_of batch + x)) none in omega (arith, o, z);
  };
}

-- ---- query by query

zip_push : {A B : Type 0} (R : A → B → Type 0) (xs : List A) (ys : List B) (x : A) (y : B) → AllZip R xs ys → R x y → AllZip R (xs ++ x ∷ []) (ys ++ y ∷ [])
zip_push R [] [] x y all one = (one, tt)
zip_push R (a ∷ xs) (b ∷ ys) x y all one = (all.0, zip_push R xs ys x y all.1 one)
zip_push R [] (b ∷ ys) x y all one = absurd all
zip_push R (a ∷ xs) [] x y all one = absurd all

abbrev AreAnswersIn : Batch → QueryTree → List GameAnswer → Type 0
AreAnswersIn batch query row = AreAnswersOf query batch row

abbrev pub lists_in : List AnswerList → List (List GameAnswer)
lists_in lists = map (λ l. l.answers.items) lists

-- the answers of the first k queries, and the rows of those after them
pub record IsHanding (queries : List QueryTree) (k : ℕ) (batch : Batch) (rows : List GameRow) (lists : List AnswerList) : Type 0 where
  pub rows_ : AreRowsOf (drop k queries) batch rows
  pub lists_ : AllZip (AreAnswersIn batch) (take k queries) (lists_in lists)

pub hands : (queries : List QueryTree) (batch : Batch) (rows : List GameRow) (lists : List AnswerList) → AreRowsOf queries batch rows → lists ≡ [] → IsHanding queries 0 batch rows lists
hands queries batch rows lists are none = record { rows_ = are; lists_ = subst (λ ls. AllZip (AreAnswersIn batch) [] (lists_in ls)) (sym none) tt }

pub hands_one : (queries : List QueryTree) (k : ℕ) (batch : Batch) (was rows : List GameRow) (lists lists' : List AnswerList) (l : AnswerList) → k < length queries
    → IsHanding queries k batch was lists → AreSplitOff (drop k queries) batch rows l.answers.items → lists' ≡ lists ++ l ∷ [] → IsHanding queries (k + 1) batch rows lists'
hands_one queries k batch was rows lists lists' l inside before off more =
    let e = sym off.are ∙ drop_more queries k off.first inside in
    let first : off.first ≡ get_or queries k off.first = ap (λ qs. get_or qs 0 off.first) e in
    let later : off.later ≡ drop (k + 1) queries = ap (drop 1) e in
    let pushed = zip_push (AreAnswersIn batch) (take k queries) (lists_in lists) off.first l.answers.items before.lists_ off.answers_ in
    let shown : lists_in lists' ≡ lists_in lists ++ l.answers.items ∷ [] = ap lists_in more ∙ map-append (λ (m : AnswerList). m.answers.items) lists (l ∷ []) in
    let taken : take (k + 1) queries ≡ take k queries ++ off.first ∷ [] = take_more queries k off.first inside ∙ ap (λ q. take k queries ++ q ∷ []) (sym first) in record {
      rows_ = subst (λ qs. AreRowsOf qs batch rows) later off.rows_;
      lists_ = subst (λ qs. AllZip (AreAnswersIn batch) qs (lists_in lists')) (sym taken) (subst (AllZip (AreAnswersIn batch) (take k queries ++ off.first ∷ [])) (sym shown) pushed);
    }

pub handed : (queries : List QueryTree) (k : ℕ) (batch : Batch) (rows : List GameRow) (lists : List AnswerList) → IsHanding queries k batch rows lists → length queries ≤ k
    → AreManyOf queries batch (lists_in lists)
handed queries k batch rows lists was all = subst (λ qs. AllZip (AreAnswersIn batch) qs (lists_in lists)) (take_all k queries all) was.lists_
