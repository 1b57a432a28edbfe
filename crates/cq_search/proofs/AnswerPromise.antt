-- The promise of `answer`, from the results of its parts.
use Rattle.std.proofs.Common.{◌≡◌, ℕ, ◌+◌, ◌≤◌, List, [], ◌∷◌, ◌++◌, length, length-append, append-nil, Bool, Option, Some, None, refl, ap, sym, ◌∙◌, arith, subst, inl, inr}
use Rattle.std.specs.Io.KnownBytes.{Consumes, IsAtEnd}
use Rattle.pgn_batches.proofs.Filling.{consumes_none}
use Rattle.cq_outside.specs.Flow.{TakesAtMost}
use Rattle.cql_syntax.specs.Trees.{QueryTree}
use Rattle.pgn_cut.specs.Cut.{closed}
use Rattle.pgn_cut.specs.GameTokens.{game_bytes}
use Rattle.pgn_cut.specs.declared.span.Span.{Span}
use Rattle.cq_shards.specs.ReadResults.{ReadResult}
use Rattle.cq_query_files.specs.declared.status.Status.TheVariants.{NoMemory}
use Rattle.cq_search.specs.AllGames.{texts_of, texts_so_far}
use Rattle.cq_search.specs.Internal.ByBatches.{HaveOutcomes}
use Rattle.cq_search.specs.ArchiveGames.{AreRead}
use Rattle.cq_query_files.specs.Views.{SourceView, SinkView, Sinks, Texts, WritesPrefix, sinks_of}
use Rattle.cq_search.specs.Promise.{OutputSpec, SearchCall, AgreesWith, TakesTooMuch, ExceedsLimit, AnswerPromise, ReadsNoMore}
use Rattle.cq_search.specs.Sorts.{have_sort}
use Rattle.cq_search.proofs.GameByGame.{prefix_grows}
use Rattle.cq_query_files.proofs.Sinks.{unwritten}

-- the games of some spans have outcomes
pub outcomes_of : HaveOutcomes → (archive : List ℕ) (spans : List Span) → (outcomes : List ReadResult) × AreRead archive spans outcomes
outcomes_of have archive [] = ([], tt)
outcomes_of have archive (s ∷ ss) =
    let one = have s.start s.first (game_bytes archive s) in
    let rest = outcomes_of have archive ss in
    (one.0 ∷ rest.0, (one.1, rest.1))

pub may_be : (left after : Option (List ℕ)) (bytes : List ℕ) → Consumes left after bytes → IsAtEnd after → AgreesWith left bytes
may_be None after bytes takes end = tt
may_be (Some told) None bytes takes end = absurd takes
may_be (Some told) (Some rest) bytes takes end = takes ∙ ap (λ l. bytes ++ l) end ∙ append-nil bytes

-- of the same bytes less the same rest, as many were taken
same_count : (told few taken : List ℕ) (after : Option (List ℕ)) → Consumes (Some told) after few → Consumes (Some told) after taken → length few ≡ length taken
same_count told few taken None f g = absurd f
same_count told few taken (Some rest) f g =
    let lengths : length (few ++ rest) ≡ length (taken ++ rest) = ap length (sym f ∙ g) in
    omega (arith, length-append few rest, length-append taken rest)

-- if at most the limit was taken, the source is not overrun
pub not_overrun : (limit : ℕ) (source after : SourceView) → TakesAtMost limit source.left after.left → ExceedsLimit limit source after → ⊥
not_overrun limit source after few much =
    let same = same_count much.told few.bytes much.too_much.bytes after.left (subst (λ l. Consumes l after.left few.bytes) much.tells few.takes)
    (subst (λ l. Consumes l after.left much.too_much.bytes) much.tells much.too_much.takes) in
    let a = few.few in
    let b = much.too_much.long in
    omega (arith, same, a, b)

-- bytes that are told and within the limit are not too many
consumed_few : (told bytes : List ℕ) (after : Option (List ℕ)) → Consumes (Some told) after bytes → length bytes ≤ length told
consumed_few told bytes None takes = absurd takes
consumed_few told bytes (Some rest) takes = let e : length told ≡ length (bytes ++ rest) = ap length takes in omega (arith, e, length-append bytes rest)

pub not_too_long : (limit : ℕ) (source after : SourceView) (told : List ℕ) → source.left ≡ Some told → length told ≤ limit → TakesTooMuch limit source after → ⊥
not_too_long limit source after told tells few much =
    let less = consumed_few told much.bytes after.left (subst (λ l. Consumes l after.left much.bytes) tells much.takes) in
    let long = much.long in
    omega (arith, less, few, long)

abbrev pub answer_call : ℕ → SourceView → SourceView → Sinks → SearchCall
answer_call limit source after sinks = record { limit = limit; source = source; source_after = after; sinks = sinks }

-- The expected output of all games of an archive, so that no fewer suffice. The texts of some games before more are read are a prefix of
-- the texts of more.
pub record FullOutput : Type 1 where
  pub expected_output : OutputSpec
  pub so_far : List ReadResult → Texts
  pub reading : (rs : List ReadResult) → expected_output.reading rs (so_far rs)
  pub faulted : (rs : List ReadResult) → expected_output.faulted rs (so_far rs)
  pub never : (rs : List ReadResult) (refused : ℕ) (texts : Texts) → expected_output.early rs refused texts → ⊥
  pub grows : (rs qs : List ReadResult) (sinks : Sinks) → WritesPrefix sinks (so_far rs) → WritesPrefix sinks (so_far (rs ++ qs))

-- the expected output of one query
abbrev pub full_output_of : (sorted : Bool) (query : QueryTree) → have_sort query.items ≡ sorted → FullOutput
full_output_of sorted query sorts = record {
  expected_output = texts_of query;
  so_far = texts_so_far sorted query;
  reading = λ rs. ap (λ s. texts_so_far s query rs) (sym sorts);
  faulted = λ rs. ap (λ s. texts_so_far s query rs) (sym sorts);
  never = λ rs refused texts enough. enough;
  grows = prefix_grows sorted query;
}

pub needs_all : (asked : FullOutput) (limit : ℕ) (source after : SourceView) (sinks : Sinks) → TakesAtMost (limit + 1) source.left after.left
    → ReadsNoMore asked.expected_output (answer_call limit source after sinks)
needs_all asked limit source after sinks some = record {
  front = some.bytes;
  takes = some.takes;
  needed = λ enough. asked.never enough.outcomes enough.refused enough.texts enough.early;
}

-- out of memory before anything was read
pub none_taken : (limit : ℕ) (source : SourceView) → TakesAtMost (limit + 1) source.left source.left
none_taken limit source = record { bytes = []; takes = consumes_none source.left; few = omega arith }

pub none_answered : HaveOutcomes → (asked : FullOutput) (limit : ℕ) (source : SourceView) (out err : SinkView)
    → AnswerPromise asked.expected_output NoMemory (answer_call limit source source (sinks_of out out err err))
none_answered have asked limit source out err =
    let sinks = sinks_of out out err err in
    let rest = outcomes_of have [] (closed []) in
    record {
      says = (
        inl (record {
          front = [];
          outcomes = rest.0;
          takes = consumes_none source.left;
          few = omega arith;
          are_read = rest.1;
          holds = record {
            texts = asked.so_far rest.0;
            are = asked.reading rest.0;
            writes = record { out_count = 0; err_count = 0; out = unwritten out.taken; err = unwritten err.taken };
          };
        }),
        record { source = refl; sinks = record { out = refl; err = refl } },
      );
      takes = none_taken limit source;
      reads_no_more = needs_all asked limit source source sinks (none_taken limit source);
      too_long_always = λ _. inl (inr (inr (inl refl)));
      complete = λ _. inr (inr (inl refl));
    }
