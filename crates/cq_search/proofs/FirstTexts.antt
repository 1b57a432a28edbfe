-- The texts up to the first match, and the reading before it.
use Rattle.std.proofs.Common.{◌≡◌, ℕ, ◌+◌, ◌-◌, ◌<◌, true, false, List, [], ◌∷◌, ◌++◌, length, append_assoc, append-nil, take, refl, ap, ap₂, sym, ◌∙◌, subst, inr}
use Rattle.std.specs.List.{flat_map}
use Rattle.std.specs.Io.KnownBytes.{Consumes}
use Rattle.std.proofs.lemmas.Grind.{flat_map-append}
use Rattle.pgn_batches.specs.Filling.{most_read}
use Rattle.pgn_batches.specs.KeptGames.{KeptGames}
use Rattle.pgn_batches.specs.Visits.{AreLeadingGames}
use Rattle.pgn_batches.specs.Whole.{whole, whole_spans}
use Rattle.cq_outside.specs.Flow.{Grew}
use Rattle.cql_syntax.specs.Trees.{QueryTree}
use Rattle.pgn_cut.specs.GameTokens.{game_bytes}
use Rattle.pgn_cut.specs.declared.span.Span.{Span}
use Rattle.cq_shards.specs.ReadResults.{ReadResult, AreReadResults}
use Rattle.cq_shards.specs.declared.answers.GameAnswer.{GameAnswer}
use Rattle.cq_search.specs.GameOutput.{export_if, fault_lines, summary_of, tally_of}
use Rattle.cq_search.specs.AllGames.{texts_so_far}
use Rattle.cq_search.specs.Internal.ByBatches.{HaveOneOutcome, Laws}
use Rattle.cq_search.specs.FirstGame.{first_export, first_texts, first_texts_of, some_match, up_to_first}
use Rattle.cq_search.specs.ArchiveGames.{AreRead}
use Rattle.cq_search.specs.Promise.{SearchCall, Suffices, ReadsNoMore}
use Rattle.cq_query_files.specs.Views.{SinkView, Sinks, Texts, Writes, WritesPrefix}
use Rattle.cq_search.specs.Internal.Visits.{FirstWritten, refused_of}
use Rattle.cq_search.specs.Internal.Writing.{FoundSoFar, SearchState, WritesSummary, search_state}
use Rattle.cq_query_files.specs.declared.status.Status.{Status}
use Rattle.cq_query_files.specs.declared.status.Status.TheVariants.{Done, DoneWithRefusals, QueryRefused, WordsRefused, OpenFault, ReadFault, WriteFault, NoMemory, ArchiveTooLong}
use Rattle.cq_search.specs.declared.tally.Tally.{Tally}
use Rattle.cq_search.proofs.GameByGame.{both_prefix, fault_lines_on, part_more, took_more}
use Rattle.cq_search.proofs.FirstGames.{first_is, some_grows, texts_same, up_grows, up_same}
use Rattle.cq_search.proofs.Given.{reads_archive, whole_are}
use Rattle.cq_query_files.proofs.Sinks.{Took, with_err, then_err, fails_after, grew_on, took_count, took_front, unwritten}

-- ---- no game of the batches before was a match

-- the results of reading some games are those of the first ones, and those of the others
pub record KeptSplit (gs : KeptGames) (rs : List ReadResult) : Type 0 where
  pub front : List ReadResult
  pub back : List ReadResult
  pub is : rs ≡ front ++ back
  pub read : AreReadResults gs front

pub kept_split : (gs hs : KeptGames) (rs : List ReadResult) → AreReadResults (gs ++ hs) rs → KeptSplit gs rs
kept_split [] hs rs read = record { front = []; back = rs; is = refl; read = tt }
kept_split (g ∷ gs) hs [] read = absurd read
kept_split (g ∷ gs) hs (r ∷ rs) read =
    let rest : KeptSplit gs rs = kept_split gs hs rs read.1 in
    record { front = r ∷ rest.front; back = rest.back; is = ap (λ l. r ∷ l) rest.is; read = (read.0, rest.read) }

-- games are read in one way
pub one_read : HaveOneOutcome → (archive : List ℕ) (spans : List Span) (xs ys : List ReadResult) → AreRead archive spans xs → AreRead archive spans ys → xs ≡ ys
one_read one archive [] [] [] x y = refl
one_read one archive [] [] (r ∷ rs) x y = absurd y
one_read one archive [] (r ∷ rs) ys x y = absurd x
one_read one archive (s ∷ ss) [] ys x y = absurd x
one_read one archive (s ∷ ss) (r ∷ rs) [] x y = absurd y
one_read one archive (s ∷ ss) (q ∷ qs) (r ∷ rs) x y =
    ap₂ (λ o os. o ∷ os) (one s.start s.first (game_bytes archive s) q r x.0 y.0) (one_read one archive ss qs rs x.1 y.1)

pub none_of_both : (query : QueryTree) (rs front back : List ReadResult) → rs ≡ front ++ back → some_match query rs ≡ false → some_match query front ≡ true → ⊥
none_of_both query rs front back is none some = let e : true ≡ false = sym (some_grows query front back some) ∙ ap (some_match query) (sym is) ∙ none in cc

pub not_enough : Laws → (query : QueryTree) (front : List ℕ) (games : KeptGames) (rs : List ReadResult) → AreLeadingGames (whole front) games → AreReadResults games rs
    → some_match query rs ≡ false → Suffices (first_texts query) front → ⊥
not_enough laws query front games rs (more, are) read none enough =
    let split : KeptSplit (whole front) rs = kept_split (whole front) more rs (subst (λ gs. AreReadResults gs rs) are read) in
    let here : AreRead front (whole_spans front) split.front =
    reads_archive laws front (whole_spans front) split.front (subst (λ gs. AreReadResults gs split.front) (whole_are laws front) split.read) in
    let same = one_read laws.one front (whole_spans front) enough.outcomes split.front enough.are_read here in
    none_of_both query rs split.front split.back split.is none (ap (some_match query) (sym same) ∙ enough.early.0)

-- the games that were searched before the last piece was read
pub record Before (query : QueryTree) (call : SearchCall) : Type 0 where
  pub front : List ℕ
  pub games : KeptGames
  pub outcomes : List ReadResult
  pub takes : Consumes call.source.left call.source_after.left front
  pub are_read : AreReadResults games outcomes
  pub none : some_match query outcomes ≡ false
  pub needed : AreLeadingGames (whole (take (length front - most_read) front)) games

pub no_more : Laws → (query : QueryTree) (call : SearchCall) → Before query call → ReadsNoMore (first_texts query) call
no_more laws query call so = record {
  front = so.front;
  takes = so.takes;
  needed = not_enough laws query (take (length so.front - most_read) so.front) so.games so.outcomes so.needed so.are_read so.none;
}

-- ---- texts

-- a prefix of the texts of the games up to the first match is one of the texts of more games
pub first_prefix : (query : QueryTree) (rs more : List ReadResult) (sinks : Sinks) → WritesPrefix sinks (texts_so_far false query (up_to_first query rs))
    → WritesPrefix sinks (first_texts_of query (rs ++ more))
first_prefix query rs more sinks writes =
    let up = up_to_first query rs in
    let g = up_grows query rs more in
    let last = summary_of (tally_of query (up_to_first query (rs ++ more))) in
    let outs : flat_map (export_if query) up ++ flat_map (export_if query) g.0 ≡ first_export query (rs ++ more) =
    sym (flat_map-append (export_if query) up g.0) ∙ ap (flat_map (export_if query)) (sym g.1) ∙ first_is query (rs ++ more) in
    let lines : fault_lines 1 up ++ (fault_lines (1 + length up) g.0 ++ last) ≡ fault_lines 1 (up_to_first query (rs ++ more)) ++ last =
    sym (append_assoc (fault_lines 1 up) (fault_lines (1 + length up) g.0) last) ∙ ap (λ l. l ++ last) (sym (fault_lines_on 1 up g.0) ∙ ap (fault_lines 1) (sym g.1)) in
    both_prefix sinks (first_texts_of query (rs ++ more)) (record {
      out = subst (Took sinks.out.taken sinks.out_after.taken) outs
          (took_more sinks.out.taken sinks.out_after.taken (flat_map (export_if query) up) (flat_map (export_if query) g.0)
          (took_count sinks.out.taken sinks.out_after.taken (flat_map (export_if query) up) writes.out_count writes.out));
      err = subst (Took sinks.err.taken sinks.err_after.taken) lines
          (took_more sinks.err.taken sinks.err_after.taken (fault_lines 1 up) (fault_lines (1 + length up) g.0 ++ last)
          (took_count sinks.err.taken sinks.err_after.taken (fault_lines 1 up) writes.err_count writes.err));
    })

abbrev pub FoundFirst : QueryTree → List ReadResult → Sinks → SearchState → Type 0
FoundFirst query rs sinks stand = FoundSoFar false query (up_to_first query rs) sinks stand

pub tally_is : (query : QueryTree) (rs : List ReadResult) (sinks : Sinks) (tally : Tally) (ks : List GameAnswer) → FoundFirst query rs sinks (search_state tally ks)
    → tally ≡ tally_of query (up_to_first query rs)
tally_is query rs sinks tally ks found = ap (λ (t : SearchState). t.tally) found.is

pub all_written : (query : QueryTree) (rs : List ReadResult) (sinks : Sinks) (err : SinkView) (tally : Tally) (ks : List GameAnswer)
    → FoundFirst query rs sinks (search_state tally ks) → Grew sinks.err_after.taken err.taken (summary_of tally)
    → Writes (with_err sinks err) (first_texts_of query rs)
all_written query rs sinks err tally ks found grew =
    let lines = fault_lines 1 (up_to_first query rs) in
    record {
      out = subst (Grew sinks.out.taken sinks.out_after.taken) (first_is query rs) found.writes.out;
      err = subst (λ t. Grew sinks.err.taken err.taken (lines ++ summary_of t)) (tally_is query rs sinks tally ks found)
          (grew_on sinks.err.taken sinks.err_after.taken err.taken lines (summary_of tally) found.writes.err grew);
    }

pub part_written : (query : QueryTree) (rs : List ReadResult) (sinks : Sinks) (err : SinkView) (tally : Tally) (ks : List GameAnswer) (count : ℕ)
    → FoundFirst query rs sinks (search_state tally ks) → Grew sinks.err_after.taken err.taken (take count (summary_of tally))
    → WritesPrefix (with_err sinks err) (first_texts_of query rs)
part_written query rs sinks err tally ks count found grew =
    let lines = fault_lines 1 (up_to_first query rs) in
    let last = summary_of (tally_of query (up_to_first query rs)) in
    let part : Grew sinks.err_after.taken err.taken (take count last) =
    subst (λ t. Grew sinks.err_after.taken err.taken (take count (summary_of t))) (tally_is query rs sinks tally ks found) grew in
    both_prefix (with_err sinks err) (first_texts_of query rs) (record {
      out = subst (Took sinks.out.taken sinks.out_after.taken) (append-nil (first_export query rs))
          (took_front sinks.out.taken sinks.out_after.taken (first_export query rs) []
          (subst (Grew sinks.out.taken sinks.out_after.taken) (first_is query rs) found.writes.out));
      err = part_more sinks.err.taken sinks.err_after.taken err.taken lines last count found.writes.err part;
    })

pub first_written : (status : Status) (query : QueryTree) (rs : List ReadResult) (sinks : Sinks) (err : SinkView) (tally : Tally) (ks : List GameAnswer)
    → FoundFirst query rs sinks (search_state tally ks) → WritesSummary tally sinks.err_after err status
    → FirstWritten (refused_of query rs) (first_texts_of query rs) (with_err sinks err) status
first_written Done query rs sinks err tally ks found writes = (
  subst (λ (t : Tally). t.refused ≡ 0) (tally_is query rs sinks tally ks found) writes.0,
  all_written query rs sinks err tally ks found writes.1,
  record { out = found.unfailed.out; err = writes.2 ∙ found.unfailed.err },
)
first_written DoneWithRefusals query rs sinks err tally ks found writes = (
  subst (λ (t : Tally). 0 < t.refused) (tally_is query rs sinks tally ks found) writes.0,
  all_written query rs sinks err tally ks found writes.1,
  record { out = found.unfailed.out; err = writes.2 ∙ found.unfailed.err },
)
first_written WriteFault query rs sinks err tally ks found writes = (
  part_written query rs sinks err tally ks writes.0.0 found writes.0.1,
  fails_after (then_err sinks err) found.unfailed (inr (writes.1, refl)),
)
first_written NoMemory query rs sinks err tally ks found writes = (
  part_written query rs sinks err tally ks 0 found
      (subst (λ (s : SinkView). Grew sinks.err_after.taken s.taken []) (sym writes) (unwritten sinks.err_after.taken)),
  record { out = found.unfailed.out; err = ap (λ (s : SinkView). s.faults) writes ∙ found.unfailed.err },
)
first_written QueryRefused query rs sinks err tally ks found writes = absurd writes
first_written WordsRefused query rs sinks err tally ks found writes = absurd writes
first_written OpenFault query rs sinks err tally ks found writes = absurd writes
first_written ReadFault query rs sinks err tally ks found writes = absurd writes
first_written ArchiveTooLong query rs sinks err tally ks found writes = absurd writes

-- games after the match change nothing
pub written_more : (status : Status) (query : QueryTree) (rs qs : List ReadResult) (sinks : Sinks) → some_match query rs ≡ true
    → FirstWritten (refused_of query rs) (first_texts_of query rs) sinks status → FirstWritten (refused_of query (rs ++ qs)) (first_texts_of query (rs ++ qs)) sinks status
written_more status query rs qs sinks some writes =
    subst (λ (t : Texts). FirstWritten (refused_of query (rs ++ qs)) t sinks status) (sym (texts_same query rs qs some))
    (subst (λ us. FirstWritten (tally_of query us).refused (first_texts_of query rs) sinks status) (sym (up_same query rs qs some)) writes)
