-- The search, game by game.
use Rattle.std.proofs.Common.{◌≡◌, ℕ, ◌+◌, ℤ, Bool, true, false, List, [], ◌∷◌, ◌++◌, length, length-append, take, ◌<◌, inl, inr, arith, refl, ap, sym, ◌∙◌, append_assoc, append-nil, cond, subst, Ok, Err, Option}
use Rattle.std.specs.Prelude.{count_by, Result}
use Rattle.std.specs.List.{flat_map}
use Rattle.std.proofs.lemmas.Grind.{flat_map-append}
use Rattle.std.proofs.lemmas.List.Sums.{fold-append}
use Rattle.std.proofs.lemmas.List.{length-take, take_all}
use Rattle.cq_outside.specs.Flow.{Grew}
use Rattle.cq_common.specs.declared.faults.Failed.{Failed}
use Rattle.cq_common.specs.declared.faults.Refusal.{Refusal}
use Rattle.cq_common.specs.declared.faults.Refusal.TheVariants.{Fault, NoMemory as IsNoMemory}
use Rattle.cq_position.specs.Games.{Game}
use Rattle.pgn_export.specs.Export.{export_text}
use Rattle.pgn_reader.specs.declared.fault.GameFault.{GameFault}
use Rattle.cq_search.specs.Sorts.{have_sort}
use Rattle.cq_shards.specs.declared.answers.Answer.TheVariants.{Refused, Miss, Match}
use Rattle.cq_shards.specs.declared.answers.GameAnswer.{GameAnswer}
use Rattle.cq_query_files.specs.declared.status.Status.{Status}
use Rattle.cq_query_files.specs.declared.status.Status.TheVariants.{Done, DoneWithRefusals, QueryRefused, WordsRefused, OpenFault, ReadFault, WriteFault, NoMemory, ArchiveTooLong}
use Rattle.cq_search.specs.declared.tally.Tally.{Tally}
use Rattle.cq_search.specs.AllGames.{AreAnswers, texts_of, texts_so_far, written}
use Rattle.cq_shards.specs.Answers.{found_in, answer_of, answers_from}
use Rattle.cq_shards.specs.ReadResults.{ReadResult}
use Rattle.cql_syntax.specs.Hits.{marked, keys}
use Rattle.cql_syntax.specs.Trees.{QueryTree}
use Rattle.cq_shards.specs.Answers.{has_match}
use Rattle.cq_search.specs.GameOutput.{tally_of, report_of, export_if, fault_if, fault_lines, is_match, is_refused, summary_of}
use Rattle.cq_search.specs.Exports.{AreExports, exports_of, match_if, matches_from}
use Rattle.cq_shards.specs.Order.{values_in}
use Rattle.cq_query_files.specs.Views.{SinkView, Sinks, Texts, Writes, WritesPrefix, IsUnwritten, NoWriteFailed, OneSinkFailed, sinks_of}
use Rattle.cq_search.specs.Promise.{OutputSpec, WritesAll, WritesPart, Unfinished}
use Rattle.cq_search.specs.Internal.Writing.{WritesText, WritesKept, InOrder, AnswersGame, FoundSoFar, WritesAnswer, WritesLast, SearchState, search_state, after_one_game, tallied, kept_if, kept_from, texts_of_game}
use Rattle.cq_search.proofs.Exports.{matches_more, written_none, unsorted_exports, sorted_exports, none_ordered}
use Rattle.cq_query_files.proofs.Sinks.{unwritten, wrote_none, grew_on, Took, took_count, took_on, took_front, prefix_of, Moments, until_now, from_now, in_all, with_out, with_err, then_out, then_err, fails_after, none_after}

pub fault_lines_on : (n : ℕ) (rs ss : List ReadResult) → fault_lines n (rs ++ ss) ≡ fault_lines n rs ++ fault_lines (n + length rs) ss
unfolding fault_lines
fault_lines_on n [] ss = let e : n ≡ n + 0 = omega arith in ap (λ k. fault_lines k ss) e
fault_lines_on n (q ∷ qs) ss =
    let e : (n + 1) + length qs ≡ n + length (q ∷ qs) = omega arith in
    ap (λ l. fault_if n q ++ l) (fault_lines_on (n + 1) qs ss ∙ ap (λ k. fault_lines (n + 1) qs ++ fault_lines k ss) e)
    ∙ sym (append_assoc (fault_if n q) (fault_lines (n + 1) qs) (fault_lines (n + length (q ∷ qs)) ss))

fault_lines_from : (n : ℕ) (r : ReadResult) (rs : List ReadResult) → fault_lines n (r ∷ rs) ≡ fault_if n r ++ fault_lines (n + 1) rs
unfolding fault_lines
fault_lines_from n r rs = refl

pub no_fault_lines : (n : ℕ) → fault_lines n [] ≡ []
unfolding fault_lines
no_fault_lines n = refl

abbrev pub tally_with : ℕ → ℕ → ℕ → Tally
tally_with games matched refused = record { games = games; matched = matched; refused = refused }

pub same_tally : (games games' matched matched' refused refused' : ℕ) → games ≡ games' → matched ≡ matched' → refused ≡ refused'
    → tally_with games matched refused ≡ tally_with games' matched' refused'
same_tally games games' matched matched' refused refused' g m r = cc

-- the same texts and games kept, by the cases that the query has a sort item or none

pub same_stand : (t u : Tally) (ks ls : List GameAnswer) → t ≡ u → ks ≡ ls → search_state t ks ≡ search_state u ls
same_stand t u ks ls e f = cc

all_written : (query : QueryTree) (game : Game) → has_match query game ≡ true → written false query (Ok game) ≡ export_text (marked query game)
all_written query game some = ap (λ b. cond b (export_text (marked query game)) []) some

pub matched_tally : (query : QueryTree) (game : Game) (before : Tally) → has_match query game ≡ true
    → tally_with (before.games + 1) (before.matched + 1) before.refused ≡ tallied query before (Ok game)
matched_tally query game before some = same_tally _ _ _ _ _ _ refl (ap (λ b. before.matched + cond b 1 0) (sym some)) (omega (arith))

-- ---- the answer of one game

no_match : (b : Bool) (text : List ℕ) (values : List ℤ) → cond b (Match text values) Miss ≡ Miss → b ≡ false
no_match true text values e = absurd cc
no_match false text values e = refl

pub is_no_match : (query : QueryTree) (r : ReadResult) → Miss ≡ found_in query r → is_match query r ≡ false
is_no_match query (Ok game) e = no_match (has_match query game) (export_text (marked query game)) (values_in (keys query game)) (sym e)
is_no_match query (Err fault) e = refl

pub record IsFound (query : QueryTree) (r : ReadResult) (text : List ℕ) : Type 0 where
  pub game : Game
  pub is : r ≡ Ok game
  pub some : has_match query game ≡ true
  pub text_is : text ≡ export_text (marked query game)

found_if : (query : QueryTree) (game : Game) (b : Bool) (text : List ℕ) (values : List ℤ) → has_match query game ≡ b
    → Match text values ≡ cond b (Match (export_text (marked query game)) (values_in (keys query game))) Miss → IsFound query (Ok game) text
found_if query game true text values some e = record { game = game; is = refl; some = some; text_is = cc }
found_if query game false text values some e = absurd cc

pub is_found : (query : QueryTree) (r : ReadResult) (text : List ℕ) (values : List ℤ) → Match text values ≡ found_in query r → IsFound query r text
is_found query (Ok game) text values e = found_if query game (has_match query game) text values refl e
is_found query (Err fault) text values e = absurd cc

-- one match more was counted
abbrev pub one_match_more : SearchState → SearchState
one_match_more stand = search_state (tally_with (stand.tally.games + 1) (stand.tally.matched + 1) stand.tally.refused) stand.kept

matched_game : (query : QueryTree) (game : Game) (stand : SearchState) (out out' err : SinkView) (text : List ℕ) (result : Result (Unit {0}) (Refusal Failed))
    → has_match query game ≡ true → text ≡ export_text (marked query game) → WritesText text out out' result
    → AnswersGame false query (Ok game) stand (one_match_more stand) (sinks_of out out' err err) result
matched_game query game stand out out' err text (Ok _) some is wrote = (
  same_stand _ _ _ _ (matched_tally query game stand.tally some) (sym (append-nil stand.kept)),
  record { out = subst (Grew out.taken out'.taken) (is ∙ sym (all_written query game some)) wrote.0; err = unwritten err.taken },
  record { out = wrote.1; err = refl },
)
matched_game query game stand out out' err text (Err (Fault _)) some is wrote = (
  record {
    out_count = wrote.0.0;
    err_count = 0;
    out = subst (λ l. Grew out.taken out'.taken (take wrote.0.0 l)) (is ∙ sym (all_written query game some)) wrote.0.1;
    err = unwritten err.taken;
  },
  inl (wrote.1, refl),
)
matched_game query game stand out out' err text (Err IsNoMemory) some is wrote = absurd wrote

-- a game that matches is counted, and its export is written
pub matched : (query : QueryTree) (r : ReadResult) (stand : SearchState) (out out' err : SinkView) (text : List ℕ) (values : List ℤ) (result : Result (Unit {0}) (Refusal Failed))
    → Match text values ≡ found_in query r → WritesText text out out' result
    → AnswersGame false query r stand (one_match_more stand) (sinks_of out out' err err) result
matched query r stand out out' err text values result is wrote =
    let found = is_found query r text values is in
    subst (λ (q : ReadResult). AnswersGame false query q stand (one_match_more stand) (sinks_of out out' err err) result) (sym found.is)
    (matched_game query found.game stand out out' err text result found.some found.text_is wrote)

faulty_if : (b : Bool) (fault : GameFault) (text : List ℕ) (values : List ℤ) → Refused fault ≡ cond b (Match text values) Miss → ⊥
faulty_if true fault text values e = cc
faulty_if false fault text values e = cc

pub is_faulty : (query : QueryTree) (r : ReadResult) (fault : GameFault) → Refused fault ≡ found_in query r → r ≡ Err fault
is_faulty query (Ok game) fault e = absurd (faulty_if (has_match query game) fault (export_text (marked query game)) (values_in (keys query game)) e)
is_faulty query (Err other) fault e = cc

-- ---- the answers of games

kept_none : (sorted : Bool) (query : QueryTree) (n : ℕ) → kept_from sorted query n [] ≡ []
unfolding matches_from
kept_none true query n = refl
kept_none false query n = refl

kept_on : (sorted : Bool) (query : QueryTree) (rs : List ReadResult) (r : ReadResult)
    → kept_from sorted query 0 rs ++ kept_if sorted query (length rs) r ≡ kept_from sorted query 0 (rs ++ r ∷ [])
kept_on false query rs r = refl
kept_on true query rs r =
    let e : length rs ≡ 0 + length rs = omega arith in
    ap (λ k. matches_from query 0 rs ++ match_if query k r) e ∙ matches_more query 0 rs r

counted_more : (test : ReadResult → Bool) (rs : List ReadResult) (r : ReadResult) → count_by test (rs ++ r ∷ []) ≡ count_by test rs + cond (test r) 1 0
counted_more test rs r = fold-append (λ a x. a + cond (test x) 1 0) 0 rs (r ∷ [])

pub tallied_more : (query : QueryTree) (rs : List ReadResult) (r : ReadResult) → tally_of query (rs ++ r ∷ []) ≡ tallied query (tally_of query rs) r
tallied_more query rs r = same_tally _ _ _ _ _ _ (length-append rs (r ∷ [])) (counted_more (is_match query) rs r) (counted_more is_refused rs r)

exports_more : (sorted : Bool) (query : QueryTree) (rs : List ReadResult) (r : ReadResult) → flat_map (written sorted query) rs ++ written sorted query r ≡ flat_map (written sorted query) (rs ++ r ∷ [])
exports_more sorted query rs r =
    ap (λ l. flat_map (written sorted query) rs ++ l) (sym (append-nil (written sorted query r))) ∙ sym (flat_map-append (written sorted query) rs (r ∷ []))

lines_more : (rs : List ReadResult) (r : ReadResult) (n : ℕ) → length rs ≡ n → fault_lines 1 rs ++ fault_if (n + 1) r ≡ fault_lines 1 (rs ++ r ∷ [])
lines_more rs r n counted =
    let e : n + 1 ≡ 1 + length rs = omega (arith, counted) in
    ap (λ l. fault_lines 1 rs ++ l)
    (ap (λ k. fault_if k r) e ∙ sym (fault_lines_from (1 + length rs) r [] ∙ ap (λ l. fault_if (1 + length rs) r ++ l) (no_fault_lines (1 + length rs + 1)) ∙ append-nil (fault_if (1 + length rs) r)))
    ∙ sym (fault_lines_on 1 rs (r ∷ []))

pub none_found : (sorted : Bool) (query : QueryTree) (out err : SinkView) → FoundSoFar sorted query [] (sinks_of out out err err) (search_state (tally_with 0 0 0) [])
none_found sorted query out err = record {
  is = same_stand _ _ _ _ refl (sym (kept_none sorted query 0));
  writes = record { out = unwritten out.taken; err = subst (Grew err.taken err.taken) (sym (no_fault_lines 1)) (unwritten err.taken) };
  unfailed = record { out = refl; err = refl };
}

-- one more game
pub found_more : (sorted : Bool) (query : QueryTree) (rs : List ReadResult) (r : ReadResult) (at : Moments) (stand new : SearchState)
    → FoundSoFar sorted query rs (until_now at) stand → AnswersGame sorted query r stand new (from_now at) (Ok tt)
    → FoundSoFar sorted query (rs ++ r ∷ []) (in_all at) new
found_more sorted query rs r at stand new so_far (counts, writes, unfailed) =
    let games : stand.tally.games ≡ length rs = ap (λ (t : SearchState). t.tally.games) so_far.is in
    record {
      is = counts ∙ ap (λ t. after_one_game sorted query t r) so_far.is ∙ same_stand _ _ _ _ (sym (tallied_more query rs r)) (kept_on sorted query rs r);
      writes = record {
        out = subst (Grew at.out.taken at.new_out.taken) (exports_more sorted query rs r)
            (grew_on at.out.taken at.now_out.taken at.new_out.taken _ _ so_far.writes.out writes.out);
        err = subst (Grew at.err.taken at.new_err.taken) (lines_more rs r stand.tally.games (sym games))
            (grew_on at.err.taken at.now_err.taken at.new_err.taken _ _ so_far.writes.err writes.err);
      };
      unfailed = none_after at so_far.unfailed unfailed;
    }

-- ---- the texts so far are a prefix of the texts of more games

exports_split : (sorted : Bool) (query : QueryTree) (rs qs : List ReadResult) → flat_map (written sorted query) (rs ++ qs) ≡ flat_map (written sorted query) rs ++ flat_map (written sorted query) qs
exports_split sorted query rs qs = flat_map-append (written sorted query) rs qs

pub record TookBoth (sinks : Sinks) (texts : Texts) : Type 0 where
  pub out : Took sinks.out.taken sinks.out_after.taken texts.out
  pub err : Took sinks.err.taken sinks.err_after.taken texts.err

pub both_prefix : (sinks : Sinks) (texts : Texts) → TookBoth sinks texts → WritesPrefix sinks texts
both_prefix sinks texts took = record {
  out_count = length took.out.part;
  err_count = length took.err.part;
  out = prefix_of sinks.out.taken sinks.out_after.taken texts.out took.out;
  err = prefix_of sinks.err.taken sinks.err_after.taken texts.err took.err;
}

-- a prefix, of a text that goes on
pub took_more : (a b : Option (List ℕ)) (xs more : List ℕ) → Took a b xs → Took a b (xs ++ more)
took_more a b xs more t = record { part = t.part; rest = t.rest ++ more; is = ap (λ l. l ++ more) t.is ∙ append_assoc t.part t.rest more; grew = t.grew }

pub prefix_grows : (sorted : Bool) (query : QueryTree) (rs qs : List ReadResult) (sinks : Sinks) → WritesPrefix sinks (texts_so_far sorted query rs)
    → WritesPrefix sinks (texts_so_far sorted query (rs ++ qs))
prefix_grows sorted query rs qs sinks writes =
    both_prefix sinks (texts_so_far sorted query (rs ++ qs)) (record {
      out = subst (Took sinks.out.taken sinks.out_after.taken) (sym (exports_split sorted query rs qs))
          (took_more sinks.out.taken sinks.out_after.taken (flat_map (written sorted query) rs) (flat_map (written sorted query) qs)
          (took_count sinks.out.taken sinks.out_after.taken (flat_map (written sorted query) rs) writes.out_count writes.out));
      err = subst (Took sinks.err.taken sinks.err_after.taken) (sym (fault_lines_on 1 rs qs))
          (took_more sinks.err.taken sinks.err_after.taken (fault_lines 1 rs) (fault_lines (1 + length rs) qs)
          (took_count sinks.err.taken sinks.err_after.taken (fault_lines 1 rs) writes.err_count writes.err));
    })

-- all texts of the games before, and a part of the texts of the next
pub part_more : (a b c : Option (List ℕ)) (xs ys : List ℕ) (count : ℕ) → Grew a b xs → Grew b c (take count ys) → Took a c (xs ++ ys)
part_more a b c xs ys count f g = subst (λ l. Took a c (xs ++ l)) (append-nil ys) (took_on a b c xs ys [] f (took_count b c ys count g))

pub stopped_at : (sorted : Bool) (query : QueryTree) (rs : List ReadResult) (r : ReadResult) (at : Moments) (stand : SearchState)
    → FoundSoFar sorted query rs (until_now at) stand → WritesPrefix (from_now at) (texts_of_game sorted query stand.tally.games r)
    → WritesPrefix (in_all at) (texts_so_far sorted query (rs ++ r ∷ []))
stopped_at sorted query rs r at stand so_far writes =
    let games : stand.tally.games ≡ length rs = ap (λ (t : SearchState). t.tally.games) so_far.is in
    both_prefix (in_all at) (texts_so_far sorted query (rs ++ r ∷ [])) (record {
      out = subst (Took at.out.taken at.new_out.taken) (exports_more sorted query rs r)
          (part_more at.out.taken at.now_out.taken at.new_out.taken (flat_map (written sorted query) rs) (written sorted query r)
          writes.out_count so_far.writes.out writes.out);
      err = subst (Took at.err.taken at.new_err.taken) (lines_more rs r stand.tally.games (sym games))
          (part_more at.err.taken at.now_err.taken at.new_err.taken (fault_lines 1 rs) (fault_if (stand.tally.games + 1) r)
          writes.err_count so_far.writes.err writes.err);
    })

-- the texts of all games so far are a prefix of themselves
pub as_prefix : (sinks : Sinks) (texts : Texts) → Writes sinks texts → WritesPrefix sinks texts
as_prefix sinks texts writes = both_prefix sinks texts (record {
  out = subst (Took sinks.out.taken sinks.out_after.taken) (append-nil texts.out) (took_front sinks.out.taken sinks.out_after.taken texts.out [] writes.out);
  err = subst (Took sinks.err.taken sinks.err_after.taken) (append-nil texts.err) (took_front sinks.err.taken sinks.err_after.taken texts.err [] writes.err);
})

pub unwritten_since : (at : Moments) (texts : Texts) → Writes (until_now at) texts → IsUnwritten (from_now at) → Writes (in_all at) texts
unwritten_since at texts writes same = record {
  out = subst (λ (s : SinkView). Grew at.out.taken s.taken texts.out) (sym same.out) writes.out;
  err = subst (λ (s : SinkView). Grew at.err.taken s.taken texts.err) (sym same.err) writes.err;
}

-- ---- the answers of a batch, one by one

-- the answer of the next game, after those of `ys`
pub record IsNext (query : QueryTree) (n : ℕ) (ys : List GameAnswer) (outcomes : List ReadResult) (a : GameAnswer) : Type 0 where
  pub r : ReadResult
  pub more : List ReadResult
  pub is : outcomes ≡ take (length ys) outcomes ++ r ∷ more
  pub step : take (length (ys ++ a ∷ [])) outcomes ≡ take (length ys) outcomes ++ r ∷ []
  pub answer : a ≡ answer_of query (n + length ys) r

next_later : (query : QueryTree) (n : ℕ) (y : GameAnswer) (ys : List GameAnswer) (r : ReadResult) (rs : List ReadResult) (a : GameAnswer) → IsNext query (n + 1) ys rs a → IsNext query n (y ∷ ys) (r ∷ rs) a
next_later query n y ys r rs a next = record {
  r = next.r;
  more = next.more;
  is = ap (λ l. r ∷ l) next.is;
  step = ap (λ l. r ∷ l) next.step;
  answer = next.answer ∙ ap (λ j. answer_of query j next.r) (let e : (n + 1) + length ys ≡ n + length (y ∷ ys) = omega arith in e);
}

pub next_of : (query : QueryTree) (n : ℕ) (ys : List GameAnswer) (a : GameAnswer) (more : List GameAnswer) (outcomes : List ReadResult) → ys ++ a ∷ more ≡ answers_from query n outcomes
    → IsNext query n ys outcomes a
unfolding answers_from
next_of query n [] a more [] e = absurd cc
next_of query n [] a more (r ∷ rs) e = record {
  r = r;
  more = rs;
  is = refl;
  step = refl;
  answer = let here : a ≡ answer_of query n r = cc in here ∙ ap (λ j. answer_of query j r) (let e : n ≡ n + 0 = omega arith in e);
}
next_of query n (y ∷ ys) a more [] e = absurd cc
next_of query n (y ∷ ys) a more (r ∷ rs) e =
    let tails : ys ++ a ∷ more ≡ answers_from query (n + 1) rs = cc in
    next_later query n y ys r rs a (next_of query (n + 1) ys a more rs tails)

pub answers_count : (query : QueryTree) (n : ℕ) (outcomes : List ReadResult) → length (answers_from query n outcomes) ≡ length outcomes
unfolding answers_from
answers_count query n [] = refl
answers_count query n (r ∷ rs) = let e = answers_count query (n + 1) rs in omega (arith, e)

pub no_items : (xs : List GameAnswer) → length xs ≡ 0 → xs ≡ []
no_items [] e = refl
no_items (a ∷ xs) e = cc

pub all_of_batch : (query : QueryTree) (n : ℕ) (ys rest items : List GameAnswer) (outcomes : List ReadResult) → items ≡ ys ++ rest → rest ≡ [] → items ≡ answers_from query n outcomes
    → take (length ys) outcomes ≡ outcomes
all_of_batch query n ys rest items outcomes e none is =
    let all : length ys ≡ length outcomes =
    ap length (sym (append-nil ys) ∙ ap (λ l. ys ++ l) (sym none) ∙ sym e ∙ is) ∙ answers_count query n outcomes in
    take_all (length ys) outcomes (let l = all in omega arith)

-- an answer in a batch, after those of `ys`, and the results of reading the games before the batch and those in it
pub record InBatch (query : QueryTree) (a : GameAnswer) : Type 0 where
  pub before : List ReadResult
  pub outcomes : List ReadResult
  pub ys : List GameAnswer
  pub more : List GameAnswer
  pub are : ys ++ a ∷ more ≡ answers_from query (length before) outcomes

pub next_in : (query : QueryTree) (a : GameAnswer) (batch : InBatch query a) → IsNext query (length batch.before) batch.ys batch.outcomes a
next_in query a batch = next_of query (length batch.before) batch.ys a batch.more batch.outcomes batch.are

-- the answer, by the number of games before it
answer_in : (query : QueryTree) (sorted : Bool) (a : GameAnswer) (batch : InBatch query a) (sinks : Sinks) (stand : SearchState)
    → FoundSoFar sorted query (batch.before ++ take (length batch.ys) batch.outcomes) sinks stand
    → a ≡ answer_of query stand.tally.games (next_in query a batch).r
answer_in query sorted a batch sinks stand so_far =
    let next = next_in query a batch in
    let front = take (length batch.ys) batch.outcomes in
    let games : stand.tally.games ≡ length (batch.before ++ front) = ap (λ (t : SearchState). t.tally.games) so_far.is in
    let a = length-append batch.before front in
    let b = length-take (length batch.ys) batch.outcomes in
    let c : length batch.outcomes ≡ length (front ++ next.r ∷ next.more) = ap length next.is in
    let d = length-append front (next.r ∷ next.more) in
    let number : length batch.before + length batch.ys ≡ stand.tally.games = omega (arith, games, a, b, c, d) in
    next.answer ∙ ap (λ j. answer_of query j next.r) number

-- one answer more
pub one_more : (sorted : Bool) (query : QueryTree) (a : GameAnswer) (batch : InBatch query a) (at : Moments) (stand new : SearchState)
    → FoundSoFar sorted query (batch.before ++ take (length batch.ys) batch.outcomes) (until_now at) stand
    → ((r : ReadResult) → a ≡ answer_of query stand.tally.games r → AnswersGame sorted query r stand new (from_now at) (Ok tt))
    → FoundSoFar sorted query (batch.before ++ take (length (batch.ys ++ a ∷ [])) batch.outcomes) (in_all at) new
one_more sorted query a batch at stand new so_far does =
    let next = next_in query a batch in
    let front = take (length batch.ys) batch.outcomes in
    subst (λ rs. FoundSoFar sorted query rs (in_all at) new) (append_assoc batch.before front (next.r ∷ []) ∙ ap (λ l. batch.before ++ l) (sym next.step))
    (found_more sorted query (batch.before ++ front) next.r at stand new so_far (does next.r (answer_in query sorted a batch (until_now at) stand so_far)))

-- a write of it failed
pub one_stopped : (sorted : Bool) (query : QueryTree) (a : GameAnswer) (batch : InBatch query a) (at : Moments) (stand new : SearchState) (failed : Failed)
    → FoundSoFar sorted query (batch.before ++ take (length batch.ys) batch.outcomes) (until_now at) stand
    → ((r : ReadResult) → a ≡ answer_of query stand.tally.games r → AnswersGame sorted query r stand new (from_now at) (Err (Fault failed)))
    → WritesPrefix (in_all at) (texts_so_far sorted query (batch.before ++ batch.outcomes)) × OneSinkFailed (in_all at)
one_stopped sorted query a batch at stand new failed so_far does =
    let next = next_in query a batch in
    let front = take (length batch.ys) batch.outcomes in
    let done = does next.r (answer_in query sorted a batch (until_now at) stand so_far) in
    let rs = batch.before ++ front in (
      subst (λ l. WritesPrefix (in_all at) (texts_so_far sorted query l))
          (append_assoc rs (next.r ∷ []) next.more ∙ append_assoc batch.before front (next.r ∷ next.more) ∙ ap (λ l. batch.before ++ l) (sym next.is))
          (prefix_grows sorted query (rs ++ next.r ∷ []) next.more (in_all at) (stopped_at sorted query rs next.r at stand so_far done.0)),
      fails_after at so_far.unfailed done.1,
    )

-- out of memory for it
pub one_starved : (sorted : Bool) (query : QueryTree) (a : GameAnswer) (batch : InBatch query a) (at : Moments) (stand new : SearchState)
    → FoundSoFar sorted query (batch.before ++ take (length batch.ys) batch.outcomes) (until_now at) stand
    → ((r : ReadResult) → a ≡ answer_of query stand.tally.games r → AnswersGame sorted query r stand new (from_now at) (Err IsNoMemory))
    → WritesPrefix (in_all at) (texts_so_far sorted query (batch.before ++ batch.outcomes)) × NoWriteFailed (in_all at)
one_starved sorted query a batch at stand new so_far does =
    let next = next_in query a batch in
    let front = take (length batch.ys) batch.outcomes in
    let same = does next.r (answer_in query sorted a batch (until_now at) stand so_far) in
    let rs = batch.before ++ front in (
      subst (λ l. WritesPrefix (in_all at) (texts_so_far sorted query l))
          (append_assoc batch.before front (next.r ∷ next.more) ∙ ap (λ l. batch.before ++ l) (sym next.is))
          (prefix_grows sorted query rs (next.r ∷ next.more) (in_all at)
          (as_prefix (in_all at) (texts_so_far sorted query rs) (unwritten_since at (texts_so_far sorted query rs) so_far.writes same))),
      none_after at so_far.unfailed (wrote_none (from_now at) same),
    )

-- ---- the end

-- the exports as games were answered, and then those of the games that were kept
exports_whole : (sorted : Bool) (query : QueryTree) (outcomes : List ReadResult) (answers ordered : List GameAnswer) → have_sort query.items ≡ sorted
    → answers ≡ kept_from sorted query 0 outcomes → InOrder query answers ordered
    → AreExports query outcomes (flat_map (written sorted query) outcomes ++ exports_of ordered)
exports_whole true query outcomes answers ordered sorts are order =
    subst (AreExports query outcomes) (ap (λ l. l ++ exports_of ordered) (sym (written_none query outcomes)))
    (sorted_exports query outcomes ordered (subst (λ ks. InOrder query ks ordered) are order))
exports_whole false query outcomes answers ordered sorts are order =
    let none : ordered ≡ [] = none_ordered query ordered (subst (λ ks. InOrder query ks ordered) are order) in
    subst (AreExports query outcomes)
    (sym (append-nil (flat_map (export_if query) outcomes)) ∙ ap (λ answers. flat_map (export_if query) outcomes ++ exports_of answers) (sym none))
    (unsorted_exports query outcomes sorts)

-- out of memory to put the games in order, or a write of them failed
pub unordered : (sorted : Bool) (query : QueryTree) (rs : List ReadResult) (sinks : Sinks) (out : SinkView) (stand : SearchState) → have_sort query.items ≡ sorted
    → FoundSoFar sorted query rs sinks stand → out ≡ sinks.out_after → WritesAnswer (texts_of query) rs (with_out sinks out) NoMemory
unordered sorted query rs sinks out stand sorts found same =
    let at = then_out sinks out in
    let unmoved : IsUnwritten (from_now at) = record { out = same; err = refl } in (
      record {
        texts = texts_so_far sorted query rs;
        are = inl (ap (λ b. texts_so_far b query rs) (sym sorts));
        writes = as_prefix (with_out sinks out) (texts_so_far sorted query rs) (unwritten_since at (texts_so_far sorted query rs) found.writes unmoved);
      },
      none_after at found.unfailed (wrote_none (from_now at) unmoved),
    )

pub are_answers : (query : QueryTree) (rs : List ReadResult) (exports : List ℕ) → AreExports query rs exports
    → AreAnswers query rs (tally_of query rs).refused (record { out = exports; err = report_of query rs })
are_answers query rs exports are = record { exports = are; report = refl; count = refl }

pub unkept : (sorted : Bool) (query : QueryTree) (rs : List ReadResult) (sinks : Sinks) (out : SinkView) (stand : SearchState) (failed : Failed)
    → have_sort query.items ≡ sorted → FoundSoFar sorted query rs sinks stand
    → WritesKept query stand.kept sinks.out_after out (Err (Fault failed)) → WritesAnswer (texts_of query) rs (with_out sinks out) WriteFault
unkept sorted query rs sinks out stand failed sorts found (ordered, order, part, rose) =
    let exports = flat_map (written sorted query) rs ++ exports_of ordered in
    let texts : Texts = record { out = exports; err = report_of query rs } in
    let are = exports_whole sorted query rs stand.kept ordered sorts (ap (λ (t : SearchState). t.kept) found.is) order in (
      record {
        texts = texts;
        are = inr ((tally_of query rs).refused, are_answers query rs exports are);
        writes = both_prefix (with_out sinks out) texts (record {
          out = part_more sinks.out.taken sinks.out_after.taken out.taken (flat_map (written sorted query) rs) (exports_of ordered)
              part.0 found.writes.out part.1;
          err = took_front sinks.err.taken sinks.err_after.taken (fault_lines 1 rs) (summary_of (tally_of query rs)) found.writes.err;
        });
      },
      fails_after (then_out sinks out) found.unfailed (inl (rose, refl)),
    )

-- all but the last text of the report was written; with it so many games are faulty, and these are the texts of all of them
pub record AllButLast (expected_output : OutputSpec) (outcomes : List ReadResult) (sinks : Sinks) (refused : ℕ) (last : List ℕ) : Type 0 where
  pub exports : List ℕ
  pub report : List ℕ
  pub are : expected_output.ended outcomes refused (record { out = exports; err = report ++ last })
  pub out : Grew sinks.out.taken sinks.out_after.taken exports
  pub err : Grew sinks.err.taken sinks.err_after.taken report
  pub unfailed : NoWriteFailed sinks

-- all exports were written
pub ordered_all : (sorted : Bool) (query : QueryTree) (rs : List ReadResult) (sinks : Sinks) (out : SinkView) (stand : SearchState) → have_sort query.items ≡ sorted
    → FoundSoFar sorted query rs sinks stand → WritesKept query stand.kept sinks.out_after out (Ok tt)
    → AllButLast (texts_of query) rs (with_out sinks out) stand.tally.refused (summary_of stand.tally)
ordered_all sorted query rs sinks out stand sorts found (ordered, order, grew, same) =
    let exports = flat_map (written sorted query) rs ++ exports_of ordered in
    let are = exports_whole sorted query rs stand.kept ordered sorts (ap (λ (t : SearchState). t.kept) found.is) order in
    record {
      exports = exports;
      report = fault_lines 1 rs;
      are = subst (λ (t : SearchState). AreAnswers query rs t.tally.refused (record { out = exports; err = fault_lines 1 rs ++ summary_of t.tally })) (sym found.is)
          (are_answers query rs exports are);
      out = grew_on sinks.out.taken sinks.out_after.taken out.taken (flat_map (written sorted query) rs) (exports_of ordered) found.writes.out grew;
      err = found.writes.err;
      unfailed = record { out = same ∙ found.unfailed.out; err = found.unfailed.err };
    }

-- the last text was written
finished : (expected_output : OutputSpec) (rs : List ReadResult) (sinks : Sinks) (err : SinkView) (refused : ℕ) (last : List ℕ) (AreRefused : ℕ → Type 0)
    → AllButLast expected_output rs sinks refused last → AreRefused refused → Grew sinks.err_after.taken err.taken last
    → WritesAll (expected_output.ended rs) AreRefused (with_err sinks err)
finished expected_output rs sinks err refused last AreRefused found is grew = record {
  refused = refused;
  is = is;
  writes = record {
    texts = record { out = found.exports; err = found.report ++ last };
    are = found.are;
    writes = record {
      out = found.out;
      err = grew_on sinks.err.taken sinks.err_after.taken err.taken found.report last found.err grew;
    };
  };
}

-- it could not be written, or only a part of it
unfinished : (expected_output : OutputSpec) (rs : List ReadResult) (sinks : Sinks) (err : SinkView) (refused : ℕ) (last : List ℕ) (count : ℕ) → AllButLast expected_output rs sinks refused last
    → Grew sinks.err_after.taken err.taken (take count last) → WritesPart (Unfinished expected_output rs) (with_err sinks err)
unfinished expected_output rs sinks err refused last count found grew =
    let texts : Texts = record { out = found.exports; err = found.report ++ last } in
    record {
      texts = texts;
      are = inr (refused, found.are);
      writes = both_prefix (with_err sinks err) texts (record {
        out = subst (Took sinks.out.taken sinks.out_after.taken) (append-nil found.exports)
            (took_front sinks.out.taken sinks.out_after.taken found.exports [] found.out);
        err = part_more sinks.err.taken sinks.err_after.taken err.taken found.report last count found.err grew;
      });
    }

pub ended : (status : Status) (expected_output : OutputSpec) (rs : List ReadResult) (sinks : Sinks) (err : SinkView) (refused : ℕ) (last : List ℕ) → AllButLast expected_output rs sinks refused last
    → WritesLast last refused sinks.err_after err status → WritesAnswer expected_output rs (with_err sinks err) status
ended Done expected_output rs sinks err refused last found writes = (
  finished expected_output rs sinks err refused last (λ n. n ≡ 0) found writes.0 writes.1,
  record { out = found.unfailed.out; err = writes.2 ∙ found.unfailed.err },
)
ended DoneWithRefusals expected_output rs sinks err refused last found writes = (
  finished expected_output rs sinks err refused last (λ n. 0 < n) found writes.0 writes.1,
  record { out = found.unfailed.out; err = writes.2 ∙ found.unfailed.err },
)
ended WriteFault expected_output rs sinks err refused last found writes = (
  unfinished expected_output rs sinks err refused last writes.0.0 found writes.0.1,
  fails_after (then_err sinks err) found.unfailed (inr (writes.1, refl)),
)
ended NoMemory expected_output rs sinks err refused last found writes = (
  unfinished expected_output rs sinks err refused last 0 found
      (subst (λ (s : SinkView). Grew sinks.err_after.taken s.taken []) (sym writes) (unwritten sinks.err_after.taken)),
  record { out = found.unfailed.out; err = ap (λ (s : SinkView). s.faults) writes ∙ found.unfailed.err },
)
ended QueryRefused expected_output rs sinks err refused last found writes = absurd writes
ended WordsRefused expected_output rs sinks err refused last found writes = absurd writes
ended OpenFault expected_output rs sinks err refused last found writes = absurd writes
ended ReadFault expected_output rs sinks err refused last found writes = absurd writes
ended ArchiveTooLong expected_output rs sinks err refused last found writes = absurd writes
