-- The texts of batches, one after the other, and their sum.
use Rattle.std.proofs.Common.{◌≡◌, ◌⊎◌, ℕ, ◌+◌, ◌-◌, ◌<◌, ◌≤◌, List, [], ◌++◌, length, length-append, append-nil, append_assoc, map, take, drop, Option, None, Some, refl, ap, ap₂, sym, ◌∙◌, subst, inl, inr, Err, arith}
use Rattle.std.proofs.Math.Seq.{take-add}
use Rattle.std.proofs.lemmas.List.{length-take, length-take-le, take-append-drop, take_all}
use Rattle.pgn_batches.specs.Batching.{left_over}
use Rattle.pgn_batches.specs.Filling.{most_read}
use Rattle.pgn_batches.specs.Games.{games_of, number_of}
use Rattle.pgn_batches.specs.KeptGames.{KeptGames, kept}
use Rattle.pgn_batches.specs.Laws.{Laws}
use Rattle.pgn_batches.specs.Visits.{AreLeadingGames, Gives, HasVisited, ReadsAll, TakesWhole}
use Rattle.pgn_batches.specs.Whole.{closed_games, cut_games, whole, whole_spans}
use Rattle.cq_outside.specs.Flow.{Grew}
use Rattle.cq_report.specs.Games.{summary_line}
use Rattle.pgn_cut.specs.Cut.{closed, cut}
use Rattle.pgn_cut.specs.declared.span.Span.{Span}
use Rattle.pgn_json.specs.Lines.{AreEntries, ArchiveGame, fault_lines, lines, summary}
use Rattle.pgn_json.specs.Internal.Texts.{AnswersBatch, AnswersPart, AreKept, AreTextsOf, HasStopped, HasTaken, HasWritten, HasWrittenFront, IsCutShort, WritesSummary}
use Rattle.cq_program.specs.Views.{SinkView}
use Rattle.pgn_json.specs.Writing.{AreFirstGames, NoWriteFailed, OneWriteFailed, Pipe, ReadsGames, Says, Sinks, Writes, WritesSome, WritesWhole}
use Rattle.cq_program.specs.declared.status.Status.{Status}
use Rattle.cq_program.specs.declared.status.Status.TheVariants.{Done, DoneWithRefusals, QueryRefused, WordsRefused, OpenFault, ReadFault, WriteFault, NoMemory, ArchiveTooLong}
use Rattle.pgn_json.specs.declared.texts.Texts.{Texts}
use Rattle.pgn_json.proofs.Entries.{Decide, archive_of, faults_on, first_spans, kept_count, kept_on, lines_on, faulty_on}
use Rattle.pgn_json.proofs.BatchParts.{UpToPart, next_part}
use Rattle.pgn_json.proofs.Grown.{grew_none, grew_on, rose_on, same_grew}

-- ---- a batch

pub no_games : (mark : List ℕ) (s : Sinks) (count : ℕ) → count ≡ 0 → HasTaken mark s s count []
no_games mark s count none = record {
  entries = [];
  are = tt;
  count_is = none;
  writes = record { out_ = grew_none s.out.taken; err_ = grew_none s.err.taken };
  unfailed = record { out = refl; err = refl };
}

-- some games were written, and these are the texts of the next ones
pub record Step (mark : List ℕ) (was mid : Sinks) : Type 0 where
  pub count : ℕ
  pub games : KeptGames
  pub batch : KeptGames
  pub number : ℕ
  pub t : Texts
  pub taken : HasTaken mark was mid count games
  pub index : number ≡ length games
  pub texts : AreTextsOf mark (number + 1) batch t

none_failed : (was mid now : Sinks) → NoWriteFailed was mid → NoWriteFailed mid now → NoWriteFailed was now
none_failed was mid now before after = record { out = after.out ∙ before.out; err = after.err ∙ before.err }

next_kept : (mark : List ℕ) (was mid : Sinks) (step : Step mark was mid) → AreKept (1 + length step.games) step.batch step.texts.entries
next_kept mark was mid step =
    let is = step.index in subst (λ k. AreKept k step.batch step.texts.entries) (omega (arith, is)) step.texts.are

taken_on : (mark : List ℕ) (was mid now : Sinks) (sum : ℕ) (step : Step mark was mid) → Writes mid now step.t.lines step.t.faults → NoWriteFailed mid now
    → sum ≡ step.count + step.t.faulty → HasTaken mark was now sum (step.games ++ step.batch)
taken_on mark was mid now sum step writes unfailed adds =
    let es = step.taken.entries in
    let ds = step.texts.entries in
    let a = step.taken.count_is in
    let b = step.texts.faulty_ in
    let c = faulty_on es ds in
    record {
      entries = es ++ ds;
      are = kept_on 1 step.games step.batch es ds step.taken.are (next_kept mark was mid step);
      count_is = omega (arith, adds, a, b, c);
      writes = record {
        out_ = subst (Grew was.out.taken now.out.taken) (sym (lines_on mark es ds))
            (grew_on was.out.taken mid.out.taken now.out.taken (lines mark es) (lines mark ds) step.taken.writes.out_
            (subst (Grew mid.out.taken now.out.taken) step.texts.lines_ writes.out_));
        err_ = subst (Grew was.err.taken now.err.taken) (sym (faults_on es ds))
            (grew_on was.err.taken mid.err.taken now.err.taken (fault_lines es) (fault_lines ds) step.taken.writes.err_
            (subst (Grew mid.err.taken now.err.taken) step.texts.faults_ writes.err_));
      };
      unfailed = none_failed was mid now step.taken.unfailed unfailed;
    }

-- ---- a batch, one part after the other

-- the games of a batch up to a part, and those of the part
part_more : (games batch : KeptGames) (first : ℕ) → (games ++ take first batch) ++ take 128 (drop first batch) ≡ games ++ take (first + 128) batch
part_more games batch first =
    append_assoc games (take first batch) (take 128 (drop first batch)) ∙ ap (λ l. games ++ l) (sym (take-add first 128 batch))

part_index : (games batch : KeptGames) (first number : ℕ) → first < length batch → number ≡ length games → number + first ≡ length (games ++ take first batch)
part_index games batch first number less index =
    let a = length-append games (take first batch) in
    let b = length-take-le first batch (omega (arith, less)) in
    omega (arith, a, b, index)

pub batch_starts : (mark : List ℕ) (was now : Sinks) (count : ℕ) (games batch : KeptGames) → HasTaken mark was now count games → HasTaken mark was now count (games ++ take 0 batch)
batch_starts mark was now count games batch taken = subst (HasTaken mark was now count) (sym (append-nil games)) taken

pub batch_ends : (mark : List ℕ) (was now : Sinks) (count : ℕ) (games batch : KeptGames) (first : ℕ) → length batch ≤ first
    → HasTaken mark was now count (games ++ take first batch) → HasTaken mark was now count (games ++ batch)
batch_ends mark was now count games batch first all taken = subst (λ l. HasTaken mark was now count (games ++ l)) (take_all first batch all) taken

-- a part more of a batch
pub batch_more : (at : UpToPart) (now : Sinks) (more sum : ℕ) → HasWritten (next_part at) at.mid now more → sum ≡ at.count + more
    → HasTaken at.mark at.was now sum (at.games ++ take (at.first + 128) (games_of at.batch))
batch_more at now more sum written adds =
    let all = games_of at.batch in
    let part = next_part at in
    subst (HasTaken at.mark at.was now sum) (part_more at.games all at.first)
    (taken_on at.mark at.was at.mid now sum (record {
      count = at.count;
      games = at.games ++ take at.first all;
      batch = part.games;
      number = part.before;
      t = written.texts;
      taken = at.taken;
      index = part_index at.games all at.first (number_of at.batch) at.less at.index;
      texts = written.are;
    }) written.writes written.unfailed (adds ∙ ap (λ n. at.count + n) written.count_is))

-- a prefix of a part
split_at : (batch : KeptGames) (first : ℕ) (games rest : KeptGames) → take 128 (drop first batch) ≡ games ++ rest
    → batch ≡ take first batch ++ (games ++ (rest ++ drop 128 (drop first batch)))
split_at batch first games rest is =
    sym (take-append-drop first batch)
    ∙ ap (λ l. take first batch ++ l) (sym (take-append-drop 128 (drop first batch)) ∙ ap (λ l. l ++ drop 128 (drop first batch)) is
    ∙ append_assoc games rest (drop 128 (drop first batch)))

cut_short : (at : UpToPart) (now : Sinks) → HasWrittenFront (next_part at) at.mid now → IsCutShort at.mark at.was now at.games (games_of at.batch)
cut_short at now front =
    let mark = at.mark in
    let was = at.was in
    let mid = at.mid in
    let taken = at.taken in
    let first = at.first in
    let all = games_of at.batch in
    let place = part_index at.games all first (number_of at.batch) at.less at.index in
    record {
      first = take first all;
      part = front.games;
      rest = front.rest ++ drop 128 (drop first all);
      split = split_at all first front.games front.rest front.split;
      entries = taken.entries;
      next = front.next;
      are = taken.are;
      next_are = subst (λ k. AreKept k front.games front.next) (omega (arith, place)) front.are;
      out_count = front.out_count;
      err_count = front.err_count;
      writes = record {
        out_ = grew_on was.out.taken mid.out.taken now.out.taken (lines mark taken.entries) (take front.out_count (lines mark front.next)) taken.writes.out_ front.writes.out_;
        err_ = grew_on was.err.taken mid.err.taken now.err.taken (fault_lines taken.entries) (take front.err_count (fault_lines front.next)) taken.writes.err_ front.writes.err_;
      };
    }

one_failed : (was mid now : Sinks) → NoWriteFailed was mid → OneWriteFailed mid now → OneWriteFailed was now
one_failed was mid now before (inl (rose, same)) = inl (rose_on was.out.faults mid.out.faults now.out.faults before.out rose, same ∙ before.err)
one_failed was mid now before (inr (rose, same)) = inr (rose_on was.err.faults mid.err.faults now.err.faults before.err rose, same ∙ before.out)

pub batch_stops : (at : UpToPart) (now : Sinks) (status : Status) → AnswersPart (next_part at) at.mid now (Err status) → HasStopped at.mark at.was now at.games (games_of at.batch) status
batch_stops at now WriteFault (front, failed) = (cut_short at now front, one_failed at.was at.mid now at.taken.unfailed failed)
batch_stops at now NoMemory (front, same) = (cut_short at now front, none_failed at.was at.mid now at.taken.unfailed same)
batch_stops at now Done never = absurd never
batch_stops at now DoneWithRefusals never = absurd never
batch_stops at now QueryRefused never = absurd never
batch_stops at now WordsRefused never = absurd never
batch_stops at now OpenFault never = absurd never
batch_stops at now ReadFault never = absurd never
batch_stops at now ArchiveTooLong never = absurd never

-- ---- some first games of an archive

entries_of : Decide → (archive : List ℕ) (ss : List Span) (gs rest : KeptGames) (es : List ArchiveGame) → map (kept archive) ss ≡ gs ++ rest → AreKept 1 gs es
    → AreEntries archive 1 (take (length es) ss) es
entries_of decide archive ss gs rest es split are =
    let count = kept_count 1 gs es are in
    archive_of decide 1 archive (take (length es) ss) es
    (subst (λ l. AreKept 1 l es) (first_spans archive ss gs rest split ∙ ap (λ n. map (kept archive) (take n ss)) (sym count)) are)

-- the games of whole batches are the first closed ones
closed_are : Laws → (front : List ℕ) (gs rest : KeptGames) → whole front ≡ gs ++ rest → map (kept front) (closed front) ≡ gs ++ (rest ++ left_over (closed_games front))
closed_are laws front gs rest split =
    sym (laws.all (closed_games front)) ∙ ap (λ l. l ++ left_over (closed_games front)) split ∙ append_assoc gs rest (left_over (closed_games front))

first_by : Decide → Laws → (limit : ℕ) (was now : Pipe) (front : List ℕ) (gs : KeptGames) (es : List ArchiveGame)
    → AreLeadingGames gs (whole front) ⊎ (ReadsAll limit was.left now.left front × AreLeadingGames gs (cut_games front)) → AreKept 1 gs es → AreFirstGames limit now front es
first_by decide laws limit was now front gs es (inl (rest, split)) are =
    inl (entries_of decide front (closed front) gs (rest ++ left_over (closed_games front)) es (closed_are laws front gs rest split) are)
first_by decide laws limit was now front gs es (inr (all, (rest, split))) are = inr (all.within, all.at_end, entries_of decide front (cut front) gs rest es split are)

-- so many games are in the whole batches of all bytes but those of the last read
needed_by : Laws → (early : List ℕ) (games : KeptGames) (es : List ArchiveGame) → AreLeadingGames (whole early) games → AreKept 1 games es → length (whole_spans early) ≤ length es
needed_by laws early games es (rest, split) are =
    let count = kept_count 1 games es are in
    let sizes : length games ≡ length (whole early ++ rest) = ap length split in
    let parts = length-append (whole early) rest in
    let most = length-take (length (whole early)) (closed early) in
    omega (arith, count, sizes, parts, most)

-- ---- the end of the reading

-- the first games of those that were given
first_part : {A : Type 0} (front : List ℕ) (games batch : KeptGames) → AreLeadingGames (games ++ batch) (whole front) ⊎ (A × AreLeadingGames (games ++ batch) (cut_games front))
    → AreLeadingGames games (whole front) ⊎ (A × AreLeadingGames games (cut_games front))
first_part front games batch (inl (rest, split)) = inl (batch ++ rest, split ∙ append_assoc games batch rest)
first_part front games batch (inr (all, (rest, split))) = inr (all, (batch ++ rest, split ∙ append_assoc games batch rest))

-- these and more games
first_more : (games more all : KeptGames) → AreLeadingGames all games → AreLeadingGames all (games ++ more)
first_more games more all (rest, split) = (rest ++ more, ap (λ l. l ++ more) split ∙ append_assoc all rest more)

-- the games of a batch up to some of them
up_to : (games batch first part rest : KeptGames) → batch ≡ first ++ (part ++ rest) → games ++ batch ≡ ((games ++ first) ++ part) ++ rest
up_to games batch first part rest split =
    ap (λ l. games ++ l) split ∙ sym (append_assoc games first (part ++ rest)) ∙ sym (append_assoc (games ++ first) part rest)

pub stopped_some : Decide → Laws → (limit : ℕ) (mark : List ℕ) (was now : Pipe) (games batch : KeptGames) → Gives limit was.left now.left games batch
    → IsCutShort mark was.sinks now.sinks games batch → WritesSome limit mark was now
stopped_some decide laws limit mark was now games batch gives cut_ =
    let front = gives.front in
    let given = (games ++ cut_.first) ++ cut_.part in
    let first = first_part front given cut_.rest
    (subst (λ l. AreLeadingGames l (whole front) ⊎ (ReadsAll limit was.left now.left front × AreLeadingGames l (cut_games front)))
    (up_to games batch cut_.first cut_.part cut_.rest cut_.split) gives.first) in
    record {
      front = front;
      entries = cut_.entries;
      next = cut_.next;
      reads = gives.reads.takes;
      few = gives.reads.few;
      are = first_by decide laws limit was now front given (cut_.entries ++ cut_.next) first
          (kept_on 1 (games ++ cut_.first) cut_.part cut_.entries cut_.next cut_.are cut_.next_are);
      needed = needed_by laws (take (length front - most_read) front) (games ++ cut_.first) cut_.entries
          (first_more games cut_.first (whole (take (length front - most_read) front)) gives.needed) cut_.are;
      out_count = cut_.out_count;
      err_count = cut_.err_count;
      writes = cut_.writes;
    }

pub taken_some : Decide → Laws → (limit : ℕ) (mark : List ℕ) (was now : Pipe) (games batch : KeptGames) (count : ℕ) → Gives limit was.left now.left games batch
    → HasTaken mark was.sinks now.sinks count games → WritesSome limit mark was now
taken_some decide laws limit mark was now games batch count gives taken = record {
  front = gives.front;
  entries = taken.entries;
  next = [];
  reads = gives.reads.takes;
  few = gives.reads.few;
  are = subst (AreFirstGames limit now gives.front) (sym (append-nil taken.entries))
      (first_by decide laws limit was now gives.front games taken.entries (first_part gives.front games batch gives.first) taken.are);
  needed = needed_by laws (take (length gives.front - most_read) gives.front) games taken.entries gives.needed taken.are;
  out_count = 0;
  err_count = 0;
  writes = record {
    out_ = same_grew was.sinks.out.taken now.sinks.out.taken (lines mark taken.entries) taken.writes.out_;
    err_ = same_grew was.sinks.err.taken now.sinks.err.taken (fault_lines taken.entries) taken.writes.err_;
  };
}

pub stopped : Decide → Laws → (status : Status) (limit : ℕ) (mark : List ℕ) (was now : Pipe) (games batch : KeptGames) → Gives limit was.left now.left games batch
    → HasStopped mark was.sinks now.sinks games batch status → now.read_faults ≡ was.read_faults → Says status limit mark was now
stopped decide laws WriteFault limit mark was now games batch gives (cut_, failed) same =
    (inl (stopped_some decide laws limit mark was now games batch gives cut_), same, failed)
stopped decide laws NoMemory limit mark was now games batch gives (cut_, unfailed) same =
    (inl (stopped_some decide laws limit mark was now games batch gives cut_), same, unfailed)
stopped decide laws Done limit mark was now games batch gives never same = absurd never
stopped decide laws DoneWithRefusals limit mark was now games batch gives never same = absurd never
stopped decide laws QueryRefused limit mark was now games batch gives never same = absurd never
stopped decide laws WordsRefused limit mark was now games batch gives never same = absurd never
stopped decide laws OpenFault limit mark was now games batch gives never same = absurd never
stopped decide laws ReadFault limit mark was now games batch gives never same = absurd never
stopped decide laws ArchiveTooLong limit mark was now games batch gives never same = absurd never

pub broke : Decide → Laws → (limit : ℕ) (mark : List ℕ) (was now : Pipe) (count : ℕ) (AreRead : ℕ → Type 0) (Others : KeptGames → Type 0)
    → TakesWhole limit was.left now.left AreRead (λ games. Others games × HasTaken mark was.sinks now.sinks count games)
    → WritesWhole limit mark AreRead was now × NoWriteFailed was.sinks now.sinks
broke decide laws limit mark was now count AreRead Others whole_ =
    let taken = whole_.taken.1 in
    let front = whole_.front in
    let n = kept_count 1 (whole front) taken.entries taken.are in (
      record {
        front = front;
        entries = taken.entries;
        reads = whole_.reads.takes;
        count = whole_.count;
        few = whole_.reads.few;
        are = subst (λ k. AreEntries front 1 (take k (closed front)) taken.entries) n
            (entries_of decide front (closed front) (whole front) (left_over (closed_games front)) taken.entries (sym (laws.all (closed_games front))) taken.are);
        writes = taken.writes;
      },
      taken.unfailed,
    )

-- ---- all games were written

-- the report's last line, after all games
pub record Ended (limit : ℕ) (mark : List ℕ) (was mid now : Pipe) (count games : ℕ) : Type 0 where
  pub archive : List ℕ
  pub reads : ReadsAll limit was.left now.left archive
  pub taken : HasTaken mark was.sinks mid.sinks count (cut_games archive)
  pub games_ : games ≡ length (cut_games archive)
  pub out_same : now.sinks.out ≡ mid.sinks.out
  pub counts : now.read_faults ≡ was.read_faults

ended_reads : Decide → (limit : ℕ) (mark : List ℕ) (was mid now : Pipe) (count games : ℕ) → (e : Ended limit mark was mid now count games)
    → ReadsGames limit was now e.archive e.taken.entries
ended_reads decide limit mark was mid now count games e = record {
  reads = e.reads.takes;
  within = e.reads.within;
  whole = e.reads.at_end;
  are = archive_of decide 1 e.archive (cut e.archive) e.taken.entries e.taken.are;
}

ended_line : (limit : ℕ) (mark : List ℕ) (was mid now : Pipe) (count games : ℕ) → (e : Ended limit mark was mid now count games)
    → summary_line games (games - count) count ≡ summary e.taken.entries
ended_line limit mark was mid now count games e =
    let n : games ≡ length e.taken.entries = e.games_ ∙ sym (kept_count 1 (cut_games e.archive) e.taken.entries e.taken.are) in
    ap₂ (λ k m. summary_line k (k - m) m) n e.taken.count_is

ended_writes : (limit : ℕ) (mark : List ℕ) (was mid now : Pipe) (count games : ℕ) (text : List ℕ) → (e : Ended limit mark was mid now count games)
    → Grew mid.sinks.err.taken now.sinks.err.taken text → Writes was.sinks now.sinks (lines mark e.taken.entries) (fault_lines e.taken.entries ++ text)
ended_writes limit mark was mid now count games text e grew = record {
  out_ = subst (λ (s : SinkView). Grew was.sinks.out.taken s.taken (lines mark e.taken.entries)) (sym e.out_same) e.taken.writes.out_;
  err_ = grew_on was.sinks.err.taken mid.sinks.err.taken now.sinks.err.taken (fault_lines e.taken.entries) text e.taken.writes.err_ grew;
}

unfailed_on : (was mid now : Sinks) → NoWriteFailed was mid → now.out ≡ mid.out → now.err.faults ≡ mid.err.faults → NoWriteFailed was now
unfailed_on was mid now before out err = record { out = ap (λ (s : SinkView). s.faults) out ∙ before.out; err = err ∙ before.err }

pub ended : Decide → (status : Status) (limit : ℕ) (mark : List ℕ) (was mid now : Pipe) (count games : ℕ) → Ended limit mark was mid now count games
    → WritesSummary games count mid.sinks.err now.sinks.err status → Says status limit mark was now
ended decide Done limit mark was mid now count games e (none, grew, same) = (
  record {
    archive = e.archive;
    entries = e.taken.entries;
    reads = ended_reads decide limit mark was mid now count games e;
    faulty_ = sym e.taken.count_is ∙ none;
    writes = ended_writes limit mark was mid now count games (summary e.taken.entries) e
        (subst (Grew mid.sinks.err.taken now.sinks.err.taken) (ended_line limit mark was mid now count games e) grew);
  },
  e.counts,
  unfailed_on was.sinks mid.sinks now.sinks e.taken.unfailed e.out_same same,
)
ended decide DoneWithRefusals limit mark was mid now count games e (some, grew, same) = (
  record {
    archive = e.archive;
    entries = e.taken.entries;
    reads = ended_reads decide limit mark was mid now count games e;
    faulty_ = subst (λ n. 0 < n) e.taken.count_is some;
    writes = ended_writes limit mark was mid now count games (summary e.taken.entries) e
        (subst (Grew mid.sinks.err.taken now.sinks.err.taken) (ended_line limit mark was mid now count games e) grew);
  },
  e.counts,
  unfailed_on was.sinks mid.sinks now.sinks e.taken.unfailed e.out_same same,
)
ended decide WriteFault limit mark was mid now count games e ((k, grew), rose) = (
  inr (record {
    archive = e.archive;
    entries = e.taken.entries;
    reads = ended_reads decide limit mark was mid now count games e;
    count = k;
    writes = ended_writes limit mark was mid now count games (take k (summary e.taken.entries)) e
        (subst (λ l. Grew mid.sinks.err.taken now.sinks.err.taken (take k l)) (ended_line limit mark was mid now count games e) grew);
  }),
  e.counts,
  inr (
    rose_on was.sinks.err.faults mid.sinks.err.faults now.sinks.err.faults e.taken.unfailed.err rose,
    ap (λ (s : SinkView). s.faults) e.out_same ∙ e.taken.unfailed.out,
  ),
)
ended decide NoMemory limit mark was mid now count games e same = (
  inr (record {
    archive = e.archive;
    entries = e.taken.entries;
    reads = ended_reads decide limit mark was mid now count games e;
    count = 0;
    writes = ended_writes limit mark was mid now count games [] e
        (subst (λ (s : SinkView). Grew mid.sinks.err.taken s.taken []) (sym same) (grew_none mid.sinks.err.taken));
  }),
  e.counts,
  unfailed_on was.sinks mid.sinks now.sinks e.taken.unfailed e.out_same (ap (λ (s : SinkView). s.faults) same),
)
ended decide QueryRefused limit mark was mid now count games e never = absurd never
ended decide WordsRefused limit mark was mid now count games e never = absurd never
ended decide OpenFault limit mark was mid now count games e never = absurd never
ended decide ReadFault limit mark was mid now count games e never = absurd never
ended decide ArchiveTooLong limit mark was mid now count games e never = absurd never

pub starved : Decide → Laws → (limit : ℕ) (mark : List ℕ) (was now : Pipe) (count : ℕ) (Others : KeptGames → Type 0)
    → (games : KeptGames) × Gives limit was.left now.left games [] × (Others games × HasTaken mark was.sinks now.sinks count games)
    → now.read_faults ≡ was.read_faults → Says NoMemory limit mark was now
starved decide laws limit mark was now count Others (games, gives, (others, taken)) same =
    (inl (taken_some decide laws limit mark was now games [] count gives taken), same, taken.unfailed)

-- ---- a batch, as it is taken

pub turned : {A : Type 0} (mark : List ℕ) (was now : Sinks) (count : ℕ) (games batch : KeptGames) (result : Option Status) → A
    → AnswersBatch mark was now count games batch result
    → HasVisited (λ gs. A × HasTaken mark was now count gs) (λ gs next status. HasStopped mark was now gs next status) games batch result
turned mark was now count games batch None given answers = (given, answers)
turned mark was now count games batch (Some status) given answers = answers
