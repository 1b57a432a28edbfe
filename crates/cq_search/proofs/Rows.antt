-- The answers of a batch to several queries, and the matches that are kept.
use Rattle.std.proofs.Common.{◌≡◌, ◌⊎◌, inl, inr, ℕ, zero, suc, ◌+◌, ◌<◌, ◌≤◌, Bool, true, false, List, [], ◌∷◌, ◌++◌, length, map, filter, get_or, set, append_assoc, arith, refl, ap, ap₂, sym, ◌∙◌, cond, subst, Ok, Err}
use Rattle.std.specs.Prelude.{count_by}
use Rattle.std.proofs.lemmas.Bool.{cases_lt}
use Rattle.std.proofs.lemmas.List.{ext_get_or, get_or-map, get_or-set_same, get_or-set_other, length-map, length-set, map-set}
use Rattle.std.proofs.lemmas.List.Elements.{filter-append}
use Rattle.std.proofs.lemmas.List.Sums.{length-filter}
use Rattle.pgn_batches.specs.Games.{games_of, number_of}
use Rattle.pgn_batches.specs.KeptGames.{KeptGames}
use Rattle.pgn_batches.specs.declared.batch.Batch.{Batch}
use Rattle.cq_position.specs.Games.{Game}
use Rattle.cql_syntax.specs.Hits.{marked, keys}
use Rattle.cql_syntax.specs.Trees.{QueryTree}
use Rattle.pgn_export.specs.Export.{export_text}
use Rattle.cq_shards.specs.Answers.{AreAnswersOf, answer_of, answers_from, has_match}
use Rattle.cq_shards.specs.Many.{AreManyOf}
use Rattle.cq_shards.specs.Order.{is_match as is_match_kept, values_in}
use Rattle.cq_shards.specs.ReadResults.{AreReadResults, ReadResult}
use Rattle.cq_shards.specs.declared.answers.Answer.TheVariants.{Match, Miss}
use Rattle.cq_shards.specs.declared.answers.GameAnswer.{GameAnswer}
use Rattle.cq_search.specs.GameOutput.{is_match}
use Rattle.cq_search.specs.Internal.ByBatches.{HaveOneOutcome, Laws}
use Rattle.cq_search.specs.Exports.{match_if, matches_from}
use Rattle.cq_search.specs.Internal.ManyWriting.{AddsMatches, AreAnswerListsOf, IsAnswerListOf, KeepsRest}
use Rattle.cq_search.proofs.Sorted.{StandBeside}

-- ---- rows of answers

one_reading : HaveOneOutcome → (games : KeptGames) (rs qs : List ReadResult) → AreReadResults games rs → AreReadResults games qs → rs ≡ qs
one_reading one [] [] [] f g = refl
one_reading one [] [] (q ∷ qs) f g = absurd g
one_reading one [] (r ∷ rs) qs f g = absurd f
one_reading one (k ∷ ks) [] qs f g = absurd f
one_reading one (k ∷ ks) (r ∷ rs) [] f g = absurd g
one_reading one (k ∷ ks) (r ∷ rs) (q ∷ qs) f g = ap₂ (λ x xs. x ∷ xs) (one k.start k.first k.bytes r q f.0 g.0) (one_reading one ks rs qs f.1 g.1)

row_is : Laws → StandBeside → (query : QueryTree) (batch : Batch) (outcomes : List ReadResult) (row : List GameAnswer) → AreReadResults (games_of batch) outcomes
    → AreAnswersOf query batch row → IsAnswerListOf query (number_of batch) outcomes row
row_is laws beside query batch outcomes row read are = λ ordered sorts.
    let found = beside query batch row ordered are sorts.0 sorts.1 in
    found.are ∙ ap (answers_from query (number_of batch)) (one_reading laws.one (games_of batch) found.outcomes outcomes found.are_read read)

-- for all results of reading the games of the batch
pub rows_are : Laws → StandBeside → (queries : List QueryTree) (batch : Batch) (outcomes : List ReadResult) (rows : List (List GameAnswer))
    → AreReadResults (games_of batch) outcomes → AreManyOf queries batch rows → AreAnswerListsOf queries (number_of batch) outcomes rows
rows_are laws beside [] batch outcomes [] read are = tt
rows_are laws beside [] batch outcomes (row ∷ rows) read are = absurd are
rows_are laws beside (q ∷ qs) batch outcomes [] read are = absurd are
rows_are laws beside (q ∷ qs) batch outcomes (row ∷ rows) read are =
    (row_is laws beside q batch outcomes row read are.0, rows_are laws beside qs batch outcomes rows read are.1)

pub many_counted : (queries : List QueryTree) (batch : Batch) (rows : List (List GameAnswer)) → AreManyOf queries batch rows → length rows ≡ length queries
many_counted [] batch [] are = refl
many_counted [] batch (row ∷ rows) are = absurd are
many_counted (q ∷ qs) batch [] are = absurd are
many_counted (q ∷ qs) batch (row ∷ rows) are = let e = many_counted qs batch rows are.1 in omega (arith, e)

pub row_at : (queries : List QueryTree) (n : ℕ) (outcomes : List ReadResult) (rows : List (List GameAnswer)) (i : ℕ) (q : QueryTree) → AreAnswerListsOf queries n outcomes rows
    → i < length queries → IsAnswerListOf (get_or queries i q) n outcomes (get_or rows i [])
row_at [] n outcomes rows i q are inside = absurd (omega (arith, inside))
row_at (p ∷ ps) n outcomes [] i q are inside = absurd are
row_at (p ∷ ps) n outcomes (row ∷ rows) zero q are inside = are.0
row_at (p ∷ ps) n outcomes (row ∷ rows) (suc i) q are inside = row_at ps n outcomes rows i q are.1 (omega (arith, inside))

-- ---- matches

abbrev match_at : QueryTree → ℕ → Game → GameAnswer
match_at query n game = record { index = n; what = Match (export_text (marked query game)) (values_in (keys query game)) }

one_kept : (query : QueryTree) (n : ℕ) (game : Game) (b : Bool) (xs ys : List GameAnswer) → xs ≡ ys
    → filter is_match_kept ((record { index = n; what = cond b (Match (export_text (marked query game)) (values_in (keys query game))) Miss }) ∷ []) ++ xs
    ≡ cond b (match_at query n game ∷ []) [] ++ ys
one_kept query n game true xs ys e = ap (λ l. match_at query n game ∷ l) e
one_kept query n game false xs ys e = e

kept_if_match : (query : QueryTree) (n : ℕ) (r : ReadResult) (xs ys : List GameAnswer) → xs ≡ ys
    → filter is_match_kept (answer_of query n r ∷ []) ++ xs ≡ match_if query n r ++ ys
kept_if_match query n (Ok game) xs ys e = one_kept query n game (has_match query game) xs ys e
kept_if_match query n (Err fault) xs ys e = e

-- the matches among answers
pub matches_are : (query : QueryTree) (n : ℕ) (rs : List ReadResult) → filter is_match_kept (answers_from query n rs) ≡ matches_from query n rs
unfolding answers_from matches_from
matches_are query n [] = refl
matches_are query n (r ∷ rs) =
    filter-append is_match_kept (answer_of query n r ∷ []) (answers_from query (n + 1) rs)
    ∙ kept_if_match query n r (filter is_match_kept (answers_from query (n + 1) rs)) (matches_from query (n + 1) rs) (matches_are query (n + 1) rs)

pub matches_on : (query : QueryTree) (n : ℕ) (rs qs : List ReadResult) → matches_from query n (rs ++ qs) ≡ matches_from query n rs ++ matches_from query (n + length rs) qs
unfolding matches_from
matches_on query n [] qs = ap (λ k. matches_from query k qs) (let e : n ≡ n + 0 = omega arith in e)
matches_on query n (r ∷ rs) qs =
    ap (λ l. match_if query n r ++ l)
    (matches_on query (n + 1) rs qs ∙ ap (λ k. matches_from query (n + 1) rs ++ matches_from query k qs) (let e : (n + 1) + length rs ≡ n + length (r ∷ rs) = omega arith in e))
    ∙ sym (append_assoc (match_if query n r) (matches_from query (n + 1) rs) (matches_from query (n + length (r ∷ rs)) qs))

long_if : (query : QueryTree) (n : ℕ) (game : Game) (b : Bool) (ms : List GameAnswer) (r : ReadResult) (rs : List ReadResult) → length ms ≡ length rs
    → length (cond b (match_at query n game ∷ []) [] ++ ms) ≡ length (cond b (r ∷ rs) rs)
long_if query n game true ms r rs e = omega (arith, e)
long_if query n game false ms r rs e = e

long_of : (query : QueryTree) (n : ℕ) (r : ReadResult) (ms : List GameAnswer) (rs : List ReadResult) → length ms ≡ length rs
    → length (match_if query n r ++ ms) ≡ length (cond (is_match query r) (r ∷ rs) rs)
long_of query n (Ok game) ms rs e = long_if query n game (has_match query game) ms (Ok game) rs e
long_of query n (Err fault) ms rs e = e

filtered : (query : QueryTree) (n : ℕ) (rs : List ReadResult) → length (matches_from query n rs) ≡ length (filter (is_match query) rs)
unfolding matches_from
filtered query n [] = refl
filtered query n (r ∷ rs) = long_of query n r (matches_from query (n + 1) rs) (filter (is_match query) rs) (filtered query (n + 1) rs)

-- there are as many as games that match
pub matches_counted : (query : QueryTree) (rs : List ReadResult) → length (matches_from query 0 rs) ≡ count_by (is_match query) rs
matches_counted query rs = filtered query 0 rs ∙ length-filter (is_match query) rs

-- ---- the matches of a batch are kept

-- the matches that are kept for each query, of games with these outcomes
abbrev pub kept_of : List ReadResult → QueryTree → List GameAnswer
kept_of outcomes query = matches_from query 0 outcomes

-- the matches that are kept before and after a batch, and after the first query's matches of it
pub record Keeping : Type 0 where
  pub before : List ReadResult
  pub outcomes : List ReadResult
  pub rows : List (List GameAnswer)
  pub old : List (List GameAnswer)
  pub first : List GameAnswer
  pub new : List (List GameAnswer)

pub record Keeps (query : QueryTree) (queries : List QueryTree) (k : Keeping) : Type 0 where
  pub are : AreAnswerListsOf (query ∷ queries) (length k.before) k.outcomes k.rows
  pub old : k.old ≡ map (kept_of k.before) (query ∷ queries)
  pub first : k.first ≡ kept_of (k.before ++ k.outcomes) query
  pub keeps : KeepsRest k.rows (set k.old 0 k.first) k.new

old_at : (query : QueryTree) (queries : List QueryTree) (k : Keeping) (i : ℕ) → Keeps query queries k → i < length (query ∷ queries)
    → get_or k.old i [] ≡ kept_of k.before (get_or (query ∷ queries) i query)
old_at query queries k i keeps inside =
    ap (λ l. get_or l i []) keeps.old ∙ get_or-map (kept_of k.before) (query ∷ queries) i query [] inside

-- by the row of a query
row_kept : (query : QueryTree) (before outcomes : List ReadResult) (row old new : List GameAnswer) → IsAnswerListOf query (length before) outcomes row
    → old ≡ kept_of before query → AddsMatches row old new → new ≡ kept_of (before ++ outcomes) query
row_kept query before outcomes row old new is was adds =
    adds.2 ∙ ap₂ (λ xs ys. xs ++ filter is_match_kept ys) was (is adds.0 adds.1)
    ∙ ap (λ l. kept_of before query ++ l) (matches_are query (length before) outcomes ∙ ap (λ n. matches_from query n outcomes) (let e : length before ≡ 0 + length before = omega arith in e))
    ∙ sym (matches_on query 0 before outcomes)

old_long : (query : QueryTree) (queries : List QueryTree) (k : Keeping) → Keeps query queries k → length k.old ≡ length (query ∷ queries)
old_long query queries k keeps = ap length keeps.old ∙ length-map (query ∷ queries) (kept_of k.before)

new_at : (query : QueryTree) (queries : List QueryTree) (k : Keeping) (i : ℕ) → Keeps query queries k → i < length (query ∷ queries)
    → get_or k.new i [] ≡ kept_of (k.before ++ k.outcomes) (get_or (query ∷ queries) i query)
new_at query queries k zero keeps inside =
    let long = old_long query queries k keeps in
    keeps.keeps.first ∙ get_or-set_same k.old 0 k.first [] (omega (arith, long, inside)) ∙ keeps.first
new_at query queries k (suc i) keeps inside =
    let long = old_long query queries k keeps in
    let same = length-set k.old 0 k.first in
    row_kept (get_or (query ∷ queries) (suc i) query) k.before k.outcomes (get_or k.rows (suc i) []) (get_or (set k.old 0 k.first) (suc i) []) (get_or k.new (suc i) [])
    (row_at (query ∷ queries) (length k.before) k.outcomes k.rows (suc i) query keeps.are inside)
    (get_or-set_other k.old 0 (suc i) k.first [] (λ e. omega (arith, e)) ∙ old_at query queries k (suc i) keeps inside)
    (keeps.keeps.rest (suc i) (omega arith) (omega (arith, long, same, inside)))

pub all_kept : (query : QueryTree) (queries : List QueryTree) (k : Keeping) → Keeps query queries k → k.new ≡ map (kept_of (k.before ++ k.outcomes)) (query ∷ queries)
all_kept query queries k keeps =
    let long = old_long query queries k keeps in
    let same = length-set k.old 0 k.first in
    let count = keeps.keeps.count in
    let mapped = length-map (query ∷ queries) (kept_of (k.before ++ k.outcomes)) in
    ext_get_or [] k.new (map (kept_of (k.before ++ k.outcomes)) (query ∷ queries)) (omega (arith, long, same, count, mapped))
    (λ i inside. let below : i < length (query ∷ queries) = omega (arith, long, same, count, inside) in
    new_at query queries k i keeps below ∙ sym (get_or-map (kept_of (k.before ++ k.outcomes)) (query ∷ queries) i query [] below))

-- ---- query by query

-- the matches of the queries below `i` but the first are added to those kept before, and the rows of the others are still there
pub record KeepsFirst (i : ℕ) (rows left before after : List (List GameAnswer)) : Type 0 where
  pub count : length after ≡ length before
  pub rows_count : length left ≡ length rows
  pub first : get_or after 0 [] ≡ get_or before 0 []
  pub done : (j : ℕ) → 1 ≤ j → j < i → AddsMatches (get_or rows j []) (get_or before j []) (get_or after j [])
  pub later : (j : ℕ) → i ≤ j → get_or after j [] ≡ get_or before j []
  pub rows_later : (j : ℕ) → i ≤ j → get_or left j [] ≡ get_or rows j []

pub none_of_rest : (rows kept : List (List GameAnswer)) → KeepsFirst 1 rows rows kept kept
none_of_rest rows kept = record {
  count = refl;
  rows_count = refl;
  first = refl;
  done = λ j some below. absurd (omega (arith, some, below));
  later = λ j from. refl;
  rows_later = λ j from. refl;
}

-- the queries below `i` are done, and the matches of this one are found
record KeepsNext (i : ℕ) (rows left before after : List (List GameAnswer)) (new : List GameAnswer) : Type 0 where
  so : KeepsFirst i rows left before after
  from : 1 ≤ i
  inside : i < length after
  adds : AddsMatches (get_or left i []) (get_or after i []) new

adds_here : (i j : ℕ) (rows left before after : List (List GameAnswer)) (new : List GameAnswer) → KeepsNext i rows left before after new → 1 ≤ j → (j < i) ⊎ (i ≤ j) → j < i + 1
    → AddsMatches (get_or rows j []) (get_or before j []) (get_or (set after i new) j [])
adds_here i j rows left before after new next some (inr from) below =
    let here : j ≡ i = omega (arith, from, below) in
    subst (λ k. AddsMatches (get_or rows k []) (get_or before k []) (get_or (set after i new) k [])) (sym here)
    (subst (AddsMatches (get_or rows i []) (get_or before i [])) (sym (get_or-set_same after i new [] next.inside))
    (subst (λ b. AddsMatches (get_or rows i []) b new) (next.so.later i (omega arith))
    (subst (λ r. AddsMatches r (get_or after i []) new) (next.so.rows_later i (omega arith)) next.adds)))
adds_here i j rows left before after new next some (inl less) below =
    subst (AddsMatches (get_or rows j []) (get_or before j [])) (sym (get_or-set_other after i j new [] (λ e. omega (arith, less, e)))) (next.so.done j some less)

one_of_rest : (i : ℕ) (rows left before after : List (List GameAnswer)) (new : List GameAnswer) → KeepsNext i rows left before after new
    → KeepsFirst (i + 1) rows (set left i []) before (set after i new)
one_of_rest i rows left before after new next = record {
  count = length-set after i new ∙ next.so.count;
  rows_count = length-set left i [] ∙ next.so.rows_count;
  first = get_or-set_other after i 0 new [] (λ e. let from = next.from in omega (arith, from, e)) ∙ next.so.first;
  done = λ j some below. adds_here i j rows left before after new next some (cases_lt j i) below;
  later = λ j more. get_or-set_other after i j new [] (λ e. omega (arith, more, e)) ∙ next.so.later j (omega (arith, more));
  rows_later = λ j more. get_or-set_other left i j [] [] (λ e. omega (arith, more, e)) ∙ next.so.rows_later j (omega (arith, more));
}

all_of_rest : (i : ℕ) (rows left before after : List (List GameAnswer)) → KeepsFirst i rows left before after → length after ≤ i → KeepsRest rows before after
all_of_rest i rows left before after so all = record {
  count = so.count;
  first = so.first;
  rest = λ j some below. so.done j some (let count = so.count in omega (arith, all, below, count));
}

-- ---- rows in vectors

-- the matches that are kept for the query of a place
pub kept_at : {X : Type 0} (items : X → List GameAnswer) (kept : List X) (i : ℕ) (x : X) → i < length kept → x ≡ get_or kept i x → items x ≡ get_or (map items kept) i []
kept_at items kept i x inside is = ap items is ∙ sym (get_or-map items kept i x [] inside)

-- a query's row is handed out, and its matches are added to those that are kept
pub record RowTaken {X : Type 0} (items : X → List GameAnswer) (i : ℕ) (left less : List (List GameAnswer)) (kept : List X) (new : X) : Type 0 where
  pub taken : List GameAnswer
  pub old : X
  pub given : taken ≡ get_or left i []
  pub is : less ≡ set left i []
  pub value : old ≡ get_or kept i old
  pub adds : AddsMatches taken (items old) (items new)

-- a row more
pub row_of_rest : {X : Type 0} (items : X → List GameAnswer) (i : ℕ) (rows left less : List (List GameAnswer)) (olds kept : List X) (new : X)
    → KeepsFirst i rows left (map items olds) (map items kept) → (1 ≤ i) × (i < length olds) → RowTaken items i left less kept new
    → KeepsFirst (i + 1) rows less (map items olds) (map items (set kept i new))
row_of_rest items i rows left less olds kept new so (from, below) row =
    let count = so.count in
    let long = length-map olds items in
    let same = length-map kept items in
    let inside : i < length kept = omega (arith, below, count, long, same) in
    let was : items row.old ≡ get_or (map items kept) i [] = kept_at items kept i row.old inside row.value in
    subst (λ l. KeepsFirst (i + 1) rows l (map items olds) (map items (set kept i new))) (sym row.is)
    (subst (KeepsFirst (i + 1) rows (set left i []) (map items olds)) (sym (map-set items kept i new))
    (one_of_rest i rows left (map items olds) (map items kept) (items new) (record {
      so = so;
      from = from;
      inside = omega (arith, inside, same);
      adds = subst (λ t. AddsMatches t (get_or (map items kept) i []) (items new)) row.given (subst (λ o. AddsMatches row.taken o (items new)) was row.adds);
    })))

pub rows_of_rest : {X : Type 0} (items : X → List GameAnswer) (i : ℕ) (rows left : List (List GameAnswer)) (olds kept : List X)
    → KeepsFirst i rows left (map items olds) (map items kept) → length olds ≤ i → KeepsRest rows (map items olds) (map items kept)
rows_of_rest items i rows left olds kept so all =
    let count = so.count in
    let long = length-map olds items in
    all_of_rest i rows left (map items olds) (map items kept) so (omega (arith, all, count, long))

-- the row of the first query was handed out before
pub rest_of_all : {X : Type 0} (items : X → List GameAnswer) (rows left : List (List GameAnswer)) (kept : List X) (first : X) (new : List (List GameAnswer)) → left ≡ set rows 0 []
    → KeepsRest left (map items (set kept 0 first)) new → KeepsRest rows (set (map items kept) 0 (items first)) new
rest_of_all items rows left kept first new is keeps =
    subst (λ ks. KeepsRest rows ks new) (map-set items kept 0 first) (record {
      count = keeps.count;
      first = keeps.first;
      rest = λ i some below. subst (λ r. AddsMatches r (get_or (map items (set kept 0 first)) i []) (get_or new i []))
          (ap (λ l. get_or l i []) is ∙ get_or-set_other rows 0 i [] [] (λ e. omega (arith, some, e))) (keeps.rest i some below);
    })
