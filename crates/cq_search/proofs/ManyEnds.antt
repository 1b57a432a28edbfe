-- Writing the texts of several queries over an archive, once it was read to its end.
use Rattle.std.proofs.Common.{◌≡◌, ℕ, zero, suc, ◌+◌, ◌<◌, ◌≤◌, List, [], ◌∷◌, ◌++◌, ◌⊎◌, length, length-append, map, replicate, take, drop, get_or, append-nil, append_assoc, arith, refl, ap, ap₂, sym, ◌∙◌, subst, inl, inr, Ok, Err, Option}
use Rattle.std.specs.Prelude.{All, AllPairs, Result, count_by, filter}
use Rattle.std.specs.List.{flat_map}
use Rattle.std.specs.List.Sorted.{IsPermutation}
use Rattle.std.proofs.lemmas.Bool.{cases_lt}
use Rattle.std.proofs.lemmas.Grind.{flat_map-append}
use Rattle.std.proofs.lemmas.List.{get_or-map, get_or_append_left, get_or_push, length-map, length-take, map-append, replicate-append-replicate, take_more, take-append-drop}
use Rattle.std.proofs.lemmas.List.Folds.{flat_map-map}
use Rattle.std.proofs.lemmas.Simd.{map-map}
use Rattle.std.proofs.lemmas.List.Sorted.{length_permutation}
use Rattle.cq_outside.specs.Faults.{Rose}
use Rattle.cq_outside.specs.Flow.{Grew}
use Rattle.cq_common.specs.declared.faults.Failed.{Failed}
use Rattle.cq_common.specs.declared.faults.Refusal.{Refusal}
use Rattle.cq_common.specs.declared.faults.Refusal.TheVariants.{Fault, NoMemory as IsNoMemory}
use Rattle.cql_syntax.specs.TreeOf.{query_tree}
use Rattle.cql_syntax.specs.Trees.{QueryTree}
use Rattle.cql_syntax.specs.declared.typed_query.TypedQuery.{TypedQuery}
use Rattle.cql_syntax.specs.QueryTrees.{trees_of}
use Rattle.cq_report.specs.Games.{summary_line}
use Rattle.cq_shards.specs.Order.{AreOfDistinctGames, ComesBefore, HasKeys, directions, is_match as is_match_kept}
use Rattle.cq_shards.specs.ReadResults.{ReadResult}
use Rattle.cq_shards.specs.declared.answers.GameAnswer.{GameAnswer}
use Rattle.cq_query_files.specs.declared.status.Status.{Status}
use Rattle.cq_query_files.specs.declared.status.Status.TheVariants.{NoMemory, WriteFault}
use Rattle.cq_search.specs.declared.tally.Tally.{Tally}
use Rattle.cq_search.specs.GameOutput.{fault_lines, is_match, is_refused}
use Rattle.cq_search.specs.Exports.{exports_of}
use Rattle.cq_search.specs.ManyQueries.{AreAllAnswers, HaveExports, faults_alone, output_of, outputs_from, summaries, texts_of_all}
use Rattle.cq_search.specs.Internal.ManyWriting.{AreInOrder, FoundByAll, WritesOut}
use Rattle.cq_query_files.specs.Views.{SinkView, Sinks, Texts}
use Rattle.cq_search.specs.Promise.{Unfinished, WritesPart}
use Rattle.cq_search.specs.Internal.Writing.{InOrder, WritesAnswer, WritesLast, WritesText}
use Rattle.cq_search.proofs.Exports.{sorted_exports, sorted_same}
use Rattle.cq_search.proofs.GameByGame.{AllButLast, as_prefix, both_prefix}
use Rattle.cq_search.proofs.Rows.{kept_of, matches_counted}
use Rattle.cq_query_files.proofs.Sinks.{Took, fails_after, grew_on, none_after, prefix_of, then_out, took_count, took_front, took_on, with_out}

-- ---- texts one after the other

-- a part of a text, after some that were taken
pub then_part : (a b c : Option (List ℕ)) (xs ys more whole : List ℕ) → xs ++ (ys ++ more) ≡ whole → Grew a b xs → (count : ℕ) × Grew b c (take count ys)
    → (count : ℕ) × Grew a c (take count whole)
then_part a b c xs ys more whole is before part =
    let took : Took a c whole = subst (Took a c) is (took_on a b c xs ys more before (took_count b c ys part.0 part.1)) in
    (length took.part, prefix_of a c whole took)

-- a line, and then a text
pub line_written : (line text whole : List ℕ) (before mid after : SinkView) (result : Result (Unit {0}) (Refusal Failed)) → line ++ text ≡ whole
    → Grew before.taken mid.taken line → mid.faults ≡ before.faults → WritesText text mid after result → WritesOut whole before after result
line_written line text whole before mid after (Ok _) is grew same writes =
    (subst (Grew before.taken after.taken) is (grew_on before.taken mid.taken after.taken line text grew writes.0), writes.1 ∙ same)
line_written line text whole before mid after (Err (Fault _)) is grew same writes =
    (then_part before.taken mid.taken after.taken line text [] whole (ap (λ l. line ++ l) (append-nil text) ∙ is) grew writes.0, subst (λ n. Rose n after.faults) same writes.1)
line_written line text whole before mid after (Err IsNoMemory) is grew same none = absurd none

pub outputs_none : (n : ℕ) → outputs_from n [] ≡ []
unfolding outputs_from
outputs_none n = refl

outputs_first : (n : ℕ) (t : List ℕ) (ts : List (List ℕ)) → outputs_from n (t ∷ ts) ≡ output_of n t ++ outputs_from (n + 1) ts
unfolding outputs_from
outputs_first n t ts = refl

outputs_on : (n : ℕ) (xs ys : List (List ℕ)) → outputs_from n (xs ++ ys) ≡ outputs_from n xs ++ outputs_from (n + length xs) ys
unfolding outputs_from
outputs_on n [] ys = ap (λ k. outputs_from k ys) (let e : n ≡ n + 0 = omega arith in e)
outputs_on n (x ∷ xs) ys =
    ap (λ l. output_of n x ++ l)
    (outputs_on (n + 1) xs ys ∙ ap (λ k. outputs_from (n + 1) xs ++ outputs_from k ys) (let e : (n + 1) + length xs ≡ n + length (x ∷ xs) = omega arith in e))
    ∙ sym (append_assoc (output_of n x) (outputs_from (n + 1) xs) (outputs_from (n + length (x ∷ xs)) ys))

-- a text more, of some that are written one after the other
pub texts_more : {X : Type 0} (f : X → List ℕ) (xs : List X) (i : ℕ) (x : X) → i < length xs → x ≡ get_or xs i x
    → flat_map f (take (i + 1) xs) ≡ flat_map f (take i xs) ++ f x
texts_more f xs i x inside is =
    ap (flat_map f) (take_more xs i x inside) ∙ ap (λ y. flat_map f (take i xs ++ y ∷ [])) (sym is)
    ∙ flat_map-append f (take i xs) (x ∷ []) ∙ ap (λ l. flat_map f (take i xs) ++ l) (append-nil (f x))

pub outputs_more : {X : Type 0} (f : X → List ℕ) (xs : List X) (i : ℕ) (x : X) → i < length xs → x ≡ get_or xs i x
    → outputs_from 1 (map f (take (i + 1) xs)) ≡ outputs_from 1 (map f (take i xs)) ++ output_of (i + 1) (f x)
outputs_more f xs i x inside is =
    let front = map f (take i xs) in
    let long = length-map (take i xs) f in
    let few = length-take i xs in
    let e : 1 + length front ≡ i + 1 = omega (arith, long, few, inside) in
    ap (λ l. outputs_from 1 (map f l)) (take_more xs i x inside) ∙ ap (λ y. outputs_from 1 (map f (take i xs ++ y ∷ []))) (sym is)
    ∙ ap (outputs_from 1) (map-append f (take i xs) (x ∷ [])) ∙ outputs_on 1 front (f x ∷ [])
    ∙ ap (λ l. outputs_from 1 front ++ l)
    (outputs_first (1 + length front) (f x) [] ∙ ap (λ l. output_of (1 + length front) (f x) ++ l) (outputs_none (1 + length front + 1))
    ∙ append-nil (output_of (1 + length front) (f x)) ∙ ap (λ n. output_of n (f x)) e)

-- the outputs before one, it, and those after it
pub outputs_around : {X : Type 0} (f : X → List ℕ) (xs : List X) (i : ℕ) (x : X) → i < length xs → x ≡ get_or xs i x
    → outputs_from 1 (map f (take i xs)) ++ (output_of (i + 1) (f x) ++ outputs_from (1 + length (map f (take (i + 1) xs))) (map f (drop (i + 1) xs))) ≡ outputs_from 1 (map f xs)
outputs_around f xs i x inside is =
    let rest = outputs_from (1 + length (map f (take (i + 1) xs))) (map f (drop (i + 1) xs)) in
    sym (append_assoc (outputs_from 1 (map f (take i xs))) (output_of (i + 1) (f x)) rest) ∙ ap (λ l. l ++ rest) (sym (outputs_more f xs i x inside is))
    ∙ sym (outputs_on 1 (map f (take (i + 1) xs)) (map f (drop (i + 1) xs))) ∙ ap (outputs_from 1) (sym (map-append f (take (i + 1) xs) (drop (i + 1) xs)))
    ∙ ap (λ l. outputs_from 1 (map f l)) (take-append-drop (i + 1) xs)

-- the query of a plan that has this number
query_at : (queries : List TypedQuery) (n : ℕ) (t : TypedQuery) (q : QueryTree) → n < length queries → t ≡ get_or queries n t
    → query_tree t.query ≡ get_or (trees_of queries) n q
query_at queries n t q inside is =
    ap (λ (u : TypedQuery). query_tree u.query) is ∙ sym (get_or-map (λ (u : TypedQuery). query_tree u.query) queries n t q inside)

-- ---- all outputs and the report

-- each query's games that match are in its order
abbrev pub EachInOrder : List QueryTree → List ReadResult → List (List GameAnswer) → Type 0
EachInOrder queries outcomes ordered = (i : ℕ) (q : QueryTree) → i < length queries
    → InOrder (get_or queries i q) (kept_of outcomes (get_or queries i q)) (get_or ordered i [])

have_exports : (queries : List QueryTree) (outcomes : List ReadResult) (ordered : List (List GameAnswer)) → length ordered ≡ length queries
    → EachInOrder queries outcomes ordered → HaveExports queries outcomes (map exports_of ordered)
have_exports [] outcomes [] long each = tt
have_exports [] outcomes (o ∷ os) long each = absurd (omega (arith, long))
have_exports (q ∷ qs) outcomes [] long each = absurd (omega (arith, long))
have_exports (q ∷ qs) outcomes (o ∷ os) long each = (
  sorted_exports q outcomes o (each zero q (omega arith)),
  have_exports qs outcomes os (omega (arith, long)) (λ i p below. each (suc i) p (omega (arith, below))),
)

sorted_long : (query : QueryTree) (outcomes : List ReadResult) (ordered : List GameAnswer) → InOrder query (kept_of outcomes query) ordered
    → length ordered ≡ count_by (is_match query) outcomes
sorted_long query outcomes ordered order =
    length_permutation (kept_of outcomes query) ordered (sorted_same query outcomes ordered order) ∙ matches_counted query outcomes

abbrev pub lines_of : Tally → List (List GameAnswer) → List ℕ
lines_of tally rows = flat_map (λ row. summary_line tally.games (length row) tally.refused) rows

lines_are : (queries : List QueryTree) (outcomes : List ReadResult) (ordered : List (List GameAnswer)) → length ordered ≡ length queries
    → EachInOrder queries outcomes ordered
    → flat_map (λ row. summary_line (length outcomes) (length row) (count_by is_refused outcomes)) ordered ≡ summaries queries outcomes
lines_are [] outcomes [] long each = refl
lines_are [] outcomes (o ∷ os) long each = absurd (omega (arith, long))
lines_are (q ∷ qs) outcomes [] long each = absurd (omega (arith, long))
lines_are (q ∷ qs) outcomes (o ∷ os) long each =
    ap₂ (λ n l. summary_line (length outcomes) n (count_by is_refused outcomes) ++ l) (sorted_long q outcomes o (each zero q (omega arith)))
    (lines_are qs outcomes os (omega (arith, long)) (λ i p below. each (suc i) p (omega (arith, below))))

-- the queries, the state after all games, and the matches of each query in its order
pub record Ends (queries : List QueryTree) (outcomes : List ReadResult) (sinks : Sinks) (tally : Tally) (ordered : List (List GameAnswer)) : Type 0 where
  pub some : 1 ≤ length queries
  pub kept : List (List GameAnswer)
  pub found : FoundByAll queries outcomes sinks tally kept
  pub sorts : AreInOrder queries kept ordered

pub kept_long : (queries : List QueryTree) (outcomes : List ReadResult) (kept : List (List GameAnswer)) → kept ≡ map (kept_of outcomes) queries → length kept ≡ length queries
kept_long queries outcomes kept is = ap length is ∙ length-map queries (kept_of outcomes)

sorted_each : (queries : List QueryTree) (outcomes : List ReadResult) (sinks : Sinks) (tally : Tally) (ordered : List (List GameAnswer))
    → Ends queries outcomes sinks tally ordered → EachInOrder queries outcomes ordered
sorted_each queries outcomes sinks tally ordered ends = λ i q below.
    let long = kept_long queries outcomes ends.kept ends.found.kept_ in
    subst (λ ks. InOrder (get_or queries i q) ks (get_or ordered i []))
    (ap (λ l. get_or l i []) ends.found.kept_ ∙ get_or-map (kept_of outcomes) queries i q [] below) (ends.sorts.each i q (omega (arith, below, long)))

sorted_count : (queries : List QueryTree) (outcomes : List ReadResult) (sinks : Sinks) (tally : Tally) (ordered : List (List GameAnswer))
    → Ends queries outcomes sinks tally ordered → length ordered ≡ length queries
sorted_count queries outcomes sinks tally ordered ends = ends.sorts.count ∙ kept_long queries outcomes ends.kept ends.found.kept_

tally_is : (queries : List QueryTree) (outcomes : List ReadResult) (sinks : Sinks) (tally : Tally) (ordered : List (List GameAnswer))
    → Ends queries outcomes sinks tally ordered → (tally.games ≡ length outcomes) × (tally.refused ≡ count_by is_refused outcomes)
tally_is [] outcomes sinks tally ordered ends = let some = ends.some in absurd (omega (arith, some))
tally_is (q ∷ qs) outcomes sinks tally ordered ends =
    let is = ends.found.first q qs refl in (ap (λ (t : Tally). t.games) is, ap (λ (t : Tally). t.refused) is)

abbrev pub outputs_in : List (List GameAnswer) → List ℕ
outputs_in ordered = outputs_from 1 (map exports_of ordered)

all_answers : (queries : List QueryTree) (outcomes : List ReadResult) (sinks : Sinks) (tally : Tally) (ordered : List (List GameAnswer))
    → Ends queries outcomes sinks tally ordered
    → AreAllAnswers queries outcomes tally.refused (record { out = outputs_in ordered; err = fault_lines 1 outcomes ++ lines_of tally ordered })
all_answers queries outcomes sinks tally ordered ends =
    let each = sorted_each queries outcomes sinks tally ordered ends in
    let long = sorted_count queries outcomes sinks tally ordered ends in
    let is = tally_is queries outcomes sinks tally ordered ends in
    record {
      exports = map exports_of ordered;
      are = have_exports queries outcomes ordered long each;
      outputs = refl;
      report = ap (λ l. fault_lines 1 outcomes ++ l)
          (ap₂ (λ g r. flat_map (λ row. summary_line g (length row) r) ordered) is.0 is.1 ∙ lines_are queries outcomes ordered long each);
      count = is.1;
    }

-- all outputs were written
pub outputs_written : (queries : List QueryTree) (outcomes : List ReadResult) (sinks : Sinks) (out : SinkView) (tally : Tally) (ordered : List (List GameAnswer))
    → Ends queries outcomes sinks tally ordered → WritesOut (outputs_in ordered) sinks.out_after out (Ok tt)
    → AllButLast (texts_of_all queries) outcomes (with_out sinks out) tally.refused (lines_of tally ordered)
outputs_written queries outcomes sinks out tally ordered ends writes = record {
  exports = outputs_in ordered;
  report = fault_lines 1 outcomes;
  are = all_answers queries outcomes sinks tally ordered ends;
  out = grew_on sinks.out.taken sinks.out_after.taken out.taken [] (outputs_in ordered) ends.found.writes.out writes.0;
  err = ends.found.writes.err;
  unfailed = record { out = writes.1 ∙ ends.found.unfailed.out; err = ends.found.unfailed.err };
}

-- a part of them was
outputs_part : (queries : List QueryTree) (outcomes : List ReadResult) (sinks : Sinks) (out : SinkView) (tally : Tally) (ordered : List (List GameAnswer))
    → Ends queries outcomes sinks tally ordered → (count : ℕ) × Grew sinks.out_after.taken out.taken (take count (outputs_in ordered))
    → WritesPart (Unfinished (texts_of_all queries) outcomes) (with_out sinks out)
outputs_part queries outcomes sinks out tally ordered ends part =
    let texts : Texts = record { out = outputs_in ordered; err = fault_lines 1 outcomes ++ lines_of tally ordered } in
    record {
      texts = texts;
      are = inr (tally.refused, all_answers queries outcomes sinks tally ordered ends);
      writes = both_prefix (with_out sinks out) texts (record {
        out = subst (Took sinks.out.taken out.taken) (append-nil (outputs_in ordered))
            (took_on sinks.out.taken sinks.out_after.taken out.taken [] (outputs_in ordered) [] ends.found.writes.out
            (took_count sinks.out_after.taken out.taken (outputs_in ordered) part.0 part.1));
        err = took_front sinks.err.taken sinks.err_after.taken (fault_lines 1 outcomes) (lines_of tally ordered) ends.found.writes.err;
      });
    }

pub outputs_failed : (queries : List QueryTree) (outcomes : List ReadResult) (sinks : Sinks) (out : SinkView) (tally : Tally) (ordered : List (List GameAnswer)) (failed : Failed)
    → Ends queries outcomes sinks tally ordered → WritesOut (outputs_in ordered) sinks.out_after out (Err (Fault failed))
    → WritesAnswer (texts_of_all queries) outcomes (with_out sinks out) WriteFault
outputs_failed queries outcomes sinks out tally ordered failed ends writes =
    (outputs_part queries outcomes sinks out tally ordered ends writes.0, fails_after (then_out sinks out) ends.found.unfailed (inl (writes.1, refl)))

pub outputs_starved : (queries : List QueryTree) (outcomes : List ReadResult) (sinks : Sinks) (out : SinkView) (tally : Tally) (ordered : List (List GameAnswer))
    → Ends queries outcomes sinks tally ordered → WritesOut (outputs_in ordered) sinks.out_after out (Err IsNoMemory)
    → WritesAnswer (texts_of_all queries) outcomes (with_out sinks out) NoMemory
outputs_starved queries outcomes sinks out tally ordered ends writes = (
  outputs_part queries outcomes sinks out tally ordered ends writes.0,
  none_after (then_out sinks out) ends.found.unfailed (record { out = writes.1; err = refl }),
)

-- out of memory to put the matches in order
pub unordered_all : (queries : List QueryTree) (outcomes : List ReadResult) (sinks : Sinks) (tally : Tally) (kept : List (List GameAnswer))
    → FoundByAll queries outcomes sinks tally kept → WritesAnswer (texts_of_all queries) outcomes sinks NoMemory
unordered_all queries outcomes sinks tally kept found =
    (record { texts = faults_alone outcomes; are = inl refl; writes = as_prefix sinks (faults_alone outcomes) found.writes }, found.unfailed)

-- ---- query by query

order_here : (queries : List QueryTree) (ks os : List (List GameAnswer)) (k o : List GameAnswer) (i : ℕ) (q : QueryTree) → AreInOrder queries ks os
    → InOrder (get_or queries (length os) q) k o → (i < length ks) ⊎ (length ks ≤ i) → i < length (ks ++ k ∷ [])
    → InOrder (get_or queries i q) (get_or (ks ++ k ∷ []) i []) (get_or (os ++ o ∷ []) i [])
order_here queries ks os k o i q so order (inr from) below =
    let count = so.count in
    let long = length-append ks (k ∷ []) in
    let here : i ≡ length os = omega (arith, from, below, long, count) in
    subst (λ l. InOrder (get_or queries i q) l (get_or (os ++ o ∷ []) i [])) (sym (get_or_push ks k [] i (omega (arith, here, count))))
    (subst (InOrder (get_or queries i q) k) (sym (get_or_push os o [] i (sym here)))
    (subst (λ j. InOrder (get_or queries j q) k o) (sym here) order))
order_here queries ks os k o i q so order (inl less) below =
    let count = so.count in
    subst (λ l. InOrder (get_or queries i q) l (get_or (os ++ o ∷ []) i [])) (sym (get_or_append_left ks (k ∷ []) [] i less))
    (subst (InOrder (get_or queries i q) (get_or ks i [])) (sym (get_or_append_left os (o ∷ []) [] i (omega (arith, less, count)))) (so.each i q less))

one_more_ordered : (queries : List QueryTree) (ks os : List (List GameAnswer)) (k o : List GameAnswer) → AreInOrder queries ks os
    → ((q : QueryTree) → InOrder (get_or queries (length os) q) k o) → AreInOrder queries (ks ++ k ∷ []) (os ++ o ∷ [])
one_more_ordered queries ks os k o so order = record {
  count = length-append os (o ∷ []) ∙ ap (λ n. n + 1) so.count ∙ sym (length-append ks (k ∷ []));
  each = λ i q below. order_here queries ks os k o i q so (order q) (cases_lt i (length ks)) below;
}

pub none_ordered_yet : (queries : List QueryTree) → AreInOrder queries [] []
none_ordered_yet queries = record { count = refl; each = λ i q below. absurd (omega (arith, below)) }

-- a query of a plan orders the matches that are kept for it
pub ordered_by : (queries : List TypedQuery) (n : ℕ) (t : TypedQuery) (ks os : List GameAnswer) → n < length queries → t ≡ get_or queries n t
    → IsPermutation (filter is_match_kept ks) os
    → (AreOfDistinctGames ks → All (HasKeys (directions (query_tree t.query).items)) ks → AllPairs (ComesBefore (directions (query_tree t.query).items)) os)
    → (q : QueryTree) → InOrder (get_or (trees_of queries) n q) ks os
ordered_by queries n t ks os inside is same order = λ q. subst (λ r. InOrder r ks os) (query_at queries n t q inside is) (record { same = same; order = order })

-- of rows in vectors
pub more_ordered : {X : Type 0} (items : X → List GameAnswer) (queries : List QueryTree) (ys os now : List X) (y o : X) → AreInOrder queries (map items ys) (map items os)
    → now ≡ os ++ o ∷ [] → ((q : QueryTree) → InOrder (get_or queries (length os) q) (items y) (items o)) → AreInOrder queries (map items (ys ++ y ∷ [])) (map items now)
more_ordered items queries ys os now y o so pushed order =
    subst (λ l. AreInOrder queries (map items (ys ++ y ∷ [])) (map items l)) (sym pushed)
    (subst (λ ks. AreInOrder queries ks (map items (os ++ o ∷ []))) (sym (map-append items ys (y ∷ [])))
    (subst (AreInOrder queries (map items ys ++ items y ∷ [])) (sym (map-append items os (o ∷ [])))
    (one_more_ordered queries (map items ys) (map items os) (items y) (items o) so
    (λ q. subst (λ n. InOrder (get_or queries n q) (items y) (items o)) (sym (length-map os items)) (order q)))))

none_left : {X : Type 0} (xs : List X) → length xs ≡ 0 → xs ≡ []
none_left [] e = refl
none_left (x ∷ xs) e = cc

pub all_ordered : {X : Type 0} (items : X → List GameAnswer) (queries : List QueryTree) (kept ys rest os : List X) → kept ≡ ys ++ rest → length rest ≡ 0
    → AreInOrder queries (map items ys) (map items os) → AreInOrder queries (map items kept) (map items os)
all_ordered items queries kept ys rest os is none so =
    subst (λ ks. AreInOrder queries (map items ks) (map items os)) (sym (is ∙ ap (λ l. ys ++ l) (none_left rest none) ∙ append-nil ys)) so

-- so many are put in order before the next
pub ordered_few : {X : Type 0} (items : X → List GameAnswer) (queries : List QueryTree) (kept ys more os : List X) (y : X) → kept ≡ ys ++ y ∷ more
    → AreInOrder queries (map items ys) (map items os) → length os < length kept
ordered_few items queries kept ys more os y is so =
    let count = so.count in
    let a = length-map ys items in
    let b = length-map os items in
    let long = ap length is ∙ length-append ys (y ∷ more) in
    omega (arith, count, a, b, long)

outputs_of_rows : {X : Type 0} (items : X → List GameAnswer) (rows : List X) → outputs_from 1 (map (λ row. exports_of (items row)) rows) ≡ outputs_in (map items rows)
outputs_of_rows items rows = ap (outputs_from 1) (sym (map-map exports_of items rows))

lines_of_rows : {X : Type 0} (items : X → List GameAnswer) (tally : Tally) (rows : List X)
    → flat_map (λ row. summary_line tally.games (length (items row)) tally.refused) rows ≡ lines_of tally (map items rows)
lines_of_rows items tally rows = sym (flat_map-map (λ row. summary_line tally.games (length row) tally.refused) items rows)

-- so that they are written
pub rows_written : {X : Type 0} (items : X → List GameAnswer) (rows given : List X) (before after : SinkView) (result : Result (Unit {0}) (Refusal Failed)) → given ≡ rows
    → WritesOut (outputs_from 1 (map (λ row. exports_of (items row)) given)) before after result → WritesOut (outputs_in (map items rows)) before after result
rows_written items rows given before after result is writes =
    subst (λ t. WritesOut t before after result) (outputs_of_rows items rows)
    (subst (λ xs. WritesOut (outputs_from 1 (map (λ row. exports_of (items row)) xs)) before after result) is writes)

pub rows_told : {X : Type 0} (items : X → List GameAnswer) (tally : Tally) (rows given : List X) (before after : SinkView) (status : Status) → given ≡ rows
    → WritesLast (flat_map (λ row. summary_line tally.games (length (items row)) tally.refused) given) tally.refused before after status
    → WritesLast (lines_of tally (map items rows)) tally.refused before after status
rows_told items tally rows given before after status is writes =
    subst (λ t. WritesLast t tally.refused before after status) (lines_of_rows items tally rows)
    (subst (λ xs. WritesLast (flat_map (λ row. summary_line tally.games (length (items row)) tally.refused) xs) tally.refused before after status) is writes)

pub ends_of : (typed : List TypedQuery) (outcomes : List ReadResult) (sinks : Sinks) (tally : Tally) (kept ordered : List (List GameAnswer)) → 1 ≤ length typed
    → FoundByAll (trees_of typed) outcomes sinks tally kept → AreInOrder (trees_of typed) kept ordered → Ends (trees_of typed) outcomes sinks tally ordered
ends_of typed outcomes sinks tally kept ordered some found sorts =
    let long = length-map typed (λ (q : TypedQuery). query_tree q.query) in
    record { some = omega (arith, some, long); kept = kept; found = found; sorts = sorts }

-- one more for which nothing is kept
pub none_more : {X : Type 0} (items : X → List GameAnswer) (rows : List X) (n : ℕ) (row : X) → map items rows ≡ replicate n [] → items row ≡ []
    → map items (rows ++ row ∷ []) ≡ replicate (n + 1) []
none_more items rows n row none empty =
    map-append items rows (row ∷ []) ∙ ap₂ (λ l r. l ++ r ∷ []) none empty ∙ replicate-append-replicate n 1 []
