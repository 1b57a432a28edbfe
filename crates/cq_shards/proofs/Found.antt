-- The result of a query in a game that was read.
use Rattle.std.proofs.Common.{◌≡◌, ℕ, ◌+◌, ◌<◌, ◌==◌, true, false, ℤ, List, [], ◌∷◌, length, map, All, AllPairs, Some, Ok, Err, refl, ap, sym, subst, ◌∙◌, arith, cond}
use Rattle.std.specs.Prelude.{Result, IfOk}
use Rattle.std.specs.List.{filter, range_with_len}
use Rattle.std.proofs.lemmas.List.Elements.{All-filter}
use Rattle.std.proofs.lemmas.List.FromFn.{length-range_with_len, get_or-range_with_len}
use Rattle.std.proofs.lemmas.List.Kept.{AllPairs-filter}
use Rattle.pgn_batches.specs.KeptGames.{KeptGames}
use Rattle.cq_position.specs.Games.{Game, is_searched, searched}
use Rattle.cql_syntax.specs.Hits.{hits, is_hit, keys, marked, tree_of}
use Rattle.cql_syntax.specs.Trees.{QueryTree}
use Rattle.pgn_export.specs.Export.{export_text}
use Rattle.cq_shards.specs.Answers.{IsAnswerAt, answer_of, has_match}
use Rattle.cq_shards.specs.Order.{values_in}
use Rattle.cq_shards.specs.ReadResults.{IsReadResultAt, ReadResult}
use Rattle.cq_shards.specs.declared.answers.Answer.TheVariants.{Miss, Match}
use Rattle.cq_shards.specs.declared.answers.GameAnswer.{GameAnswer}

pub some_in : (ns : List ℕ) → (length ns == 0) ≡ false → ns ≡ [] → ⊥
some_in [] some none = cc
some_in (n ∷ ns) some none = cc

only_values : (values : List ℤ) → values_in (map Some values) ≡ values
only_values [] = refl
only_values (v ∷ values) = ap (λ l. v ∷ l) (only_values values)

pub missed_answer : (query : QueryTree) (n : ℕ) (game : Game) → has_match query game ≡ false → ◌≡◌ {A = GameAnswer} (record { index = n; what = Miss }) (answer_of query n (Ok game))
missed_answer query n game none =
    ap (λ b. record { index = n; what = cond b (Match (export_text (marked query game)) (values_in (keys query game))) Miss }) (sym none)

pub matched_answer : (query : QueryTree) (n : ℕ) (game : Game) (text : List ℕ) (values : List ℤ) → has_match query game ≡ true → text ≡ export_text (marked query game)
    → map Some values ≡ keys query game → ◌≡◌ {A = GameAnswer} (record { index = n; what = Match text values }) (answer_of query n (Ok game))
matched_answer query n game text values some is keyed =
    let values_are : values ≡ values_in (keys query game) = sym (only_values values) ∙ ap values_in keyed in
    let one : ◌≡◌ {A = GameAnswer} (record { index = n; what = Match text values }) (record { index = n; what = Match (export_text (marked query game)) (values_in (keys query game)) }) =
    cc (is, values_are) in
    one ∙ ap (λ b. record { index = n; what = cond b (Match (export_text (marked query game)) (values_in (keys query game))) Miss }) (sym some)

-- a game has the answer of its read result
pub answered : {E : Type 0} (query : QueryTree) (n : ℕ) (games : KeptGames) (number : ℕ) (r : ReadResult) (result : Result GameAnswer E) → IsReadResultAt games number r
    → IfOk result (λ a. a ≡ answer_of query (n + number) r) → IfOk result (IsAnswerAt query n games number)
answered query n games number r (Ok a) read is = record { game = read.game; outcome = r; at = read.at; read = read.read; is = is }
answered query n games number r (Err e) read is = tt

-- hits increase, and are nodes of the game
range_increases : (n : ℕ) → AllPairs (λ i j. i < j) (range_with_len 0 n)
range_increases n = λ i j d before below.
    let inside : j < n = omega (arith, below, length-range_with_len 0 n) in
    omega (arith, before, get_or-range_with_len 0 n i d (omega (arith, before, inside)), get_or-range_with_len 0 n j d inside)

range_is_below : (n : ℕ) → All (λ i. i < n) (range_with_len 0 n)
range_is_below n = λ i d below.
    let inside : i < n = omega (arith, below, length-range_with_len 0 n) in
    omega (arith, inside, get_or-range_with_len 0 n i d inside)

pub hits_rise : (query : QueryTree) (game : Game) (nodes : List ℕ) → nodes ≡ hits query game → AllPairs (λ m n. m < n) nodes
unfolding hits searched
hits_rise query game nodes are =
    let tree = tree_of query game in
    let kept = is_searched tree.variations game.nodes in
    subst (AllPairs (λ m n. m < n)) (sym are) (AllPairs-filter (λ m n. m < n) (is_hit tree query.items) (filter kept (range_with_len 0 (length game.nodes)))
    (AllPairs-filter (λ m n. m < n) kept (range_with_len 0 (length game.nodes)) (range_increases (length game.nodes))))

pub hits_inside : (query : QueryTree) (game : Game) (nodes : List ℕ) → nodes ≡ hits query game → All (λ n. n < length game.nodes) nodes
unfolding hits searched
hits_inside query game nodes are =
    let tree = tree_of query game in
    let kept = is_searched tree.variations game.nodes in
    subst (All (λ n. n < length game.nodes)) (sym are) (All-filter (is_hit tree query.items) (λ n. n < length game.nodes)
    (filter kept (range_with_len 0 (length game.nodes)))
    (All-filter kept (λ n. n < length game.nodes) (range_with_len 0 (length game.nodes)) (range_is_below (length game.nodes))))
