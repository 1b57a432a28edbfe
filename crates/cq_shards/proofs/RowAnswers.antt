-- The answers of one game to several queries, made from the last query's to the first one's.
use Rattle.std.proofs.Common.{◌≡◌, ℕ, ◌+◌, ◌-◌, ◌<◌, ◌≤◌, List, [], ◌∷◌, ◌++◌, length, get_or, drop, ap, sym, ◌∙◌, arith}
use Rattle.std.proofs.lemmas.List.{drop_more}
use Rattle.cql_syntax.specs.Trees.{QueryTree}
use Rattle.cq_shards.specs.declared.answers.GameAnswer.{GameAnswer}
use Rattle.cq_shards.specs.Answers.{answer_of}
use Rattle.cq_shards.specs.ReadResults.{ReadResult}
use Rattle.cq_shards.specs.Internal.GameRows.{answers_back}

-- one answer more, of the query before the last n
one_before : (queries : List QueryTree) (k : ℕ) (d : QueryTree) (index : ℕ) (r : ReadResult) (was now : List GameAnswer) → k < length queries
    → was ≡ answers_back (drop (k + 1) queries) index r → now ≡ was ++ answer_of (get_or queries k d) index r ∷ [] → now ≡ answers_back (drop k queries) index r
one_before queries k d index r was now inside before more =
    more ∙ ap (λ xs. xs ++ answer_of (get_or queries k d) index r ∷ []) before ∙ sym (ap (λ qs. answers_back qs index r) (drop_more queries k d inside))

pub one_back : (queries : List QueryTree) (n : ℕ) (d : QueryTree) (index : ℕ) (r : ReadResult) (was now : List GameAnswer) → 0 < n → n ≤ length queries
    → was ≡ answers_back (drop n queries) index r → now ≡ was ++ answer_of (get_or queries (n - 1) d) index r ∷ [] → now ≡ answers_back (drop (n - 1) queries) index r
one_back queries n d index r was now some inside before more =
    let e : n - 1 + 1 ≡ n = omega (arith, some) in
    one_before queries (n - 1) d index r was now (omega (arith, some, inside)) (before ∙ ap (λ k. answers_back (drop k queries) index r) (sym e)) more

pub refused_back : (queries : List QueryTree) (n index : ℕ) (r : ReadResult) (was now : List GameAnswer) (a : GameAnswer) → 0 < n → n ≤ length queries
    → was ≡ answers_back (drop n queries) index r → ((q : QueryTree) → a ≡ answer_of q index r) → now ≡ was ++ a ∷ [] → now ≡ answers_back (drop (n - 1) queries) index r
refused_back [] n index r was now a some inside before is more = absurd (omega (arith, some, inside))
refused_back (q ∷ qs) n index r was now a some inside before is more =
    one_back (q ∷ qs) n q index r was now some inside before (more ∙ ap (λ b. was ++ b ∷ []) (is (get_or (q ∷ qs) (n - 1) q)))
