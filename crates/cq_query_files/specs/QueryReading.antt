-- Reading a query or several, from a word or a file, and the lines of their faults.
use Rattle.std.specs.Prelude.{◌≡◌, List, ℕ, Result, Ok, Err}
use Rattle.std.specs.List.{AllZip}
use Rattle.cq_common.specs.declared.faults.Refusal.{Refusal}
use Rattle.cq_common.specs.declared.faults.Refusal.TheVariants.{Fault, NoMemory as IsNoMemory}
use Rattle.cql_syntax.specs.TreeOf.{query_tree}
use Rattle.cql_syntax.specs.Trees.{QueryTree}
use Rattle.cql_syntax.specs.declared.fault.QueryFault.{QueryFault}
use Rattle.cql_syntax.specs.declared.typed_query.TypedQuery.{TypedQuery}
use Rattle.cq_query_files.specs.declared.queries.FileRefusal.{FileRefusal}
use Rattle.cq_query_files.specs.declared.queries.FileRefusal.TheVariants.{Faulty, Unopened, Unread, OutOfMemory}
use Rattle.cq_query_files.specs.declared.query_files.ManyFault.{ManyFault}
use Rattle.cq_query_files.specs.declared.query_files.ManyFault.TheVariants.{Faulty as IsFaulty}
use Rattle.cq_query_files.specs.declared.status.Status.{Status}
use Rattle.cq_query_files.specs.declared.status.Status.TheVariants.{OpenFault, ReadFault, NoMemory}
use Rattle.cq_query_files.specs.Queries.{IsQuery, IsQueryFault}
use Rattle.cq_query_files.specs.QueryFiles.{IsFirstFault}
use Rattle.cq_query_files.specs.Views.{Sinks, DeskView, IsUnwritten}
use Rattle.cq_query_files.specs.Files.{FileKind, query_file_kind, TakesQuery, FailsToOpen, FailsToRead, LacksMemory}
use Rattle.cq_query_files.specs.Lines.{RefusesQuery}

-- reading a text: it is accepted, with the shown value, or has this fault
abbrev pub ReadsText : {Q F T : Type 0} → FileKind Q F → (T → Q) → List ℕ → Result T (Refusal F) → Type 0
ReadsText reading shown text (Ok found) = reading.Is text (shown found)
ReadsText reading shown text (Err (Fault fault)) = reading.Has text fault
ReadsText reading shown text (Err IsNoMemory) = Unit {0}

-- the text of a file is taken
abbrev pub TakesText : {F : Type 0} → ℕ → List ℕ → DeskView → DeskView → Result (List ℕ) (FileRefusal F) → Type 0
TakesText most name desk after (Ok text) = TakesQuery most name desk after text
TakesText most name desk after (Err (Faulty fault)) = ⊥
TakesText most name desk after (Err Unopened) = FailsToOpen desk after
TakesText most name desk after (Err Unread) = FailsToRead most name desk after
TakesText most name desk after (Err OutOfMemory) = LacksMemory most name desk after

-- nothing is accepted of a file: the text that is taken of it has this fault, or nothing is taken
abbrev pub RefusesFile : {Q F : Type 0} → FileKind Q F → List ℕ → DeskView → DeskView → FileRefusal F → Type 0
RefusesFile reading name desk after (Faulty fault) =
    (text : List ℕ) × TakesQuery reading.most name desk after text × reading.Has text fault
RefusesFile reading name desk after Unopened = FailsToOpen desk after
RefusesFile reading name desk after Unread = FailsToRead reading.most name desk after
RefusesFile reading name desk after OutOfMemory = LacksMemory reading.most name desk after

-- reading a file: the text that is taken of it is accepted, with the shown value
abbrev pub ReadsFile : {Q F T : Type 0} → FileKind Q F → (T → Q) → List ℕ → DeskView → DeskView → Result T (FileRefusal F)
    → Type 0
ReadsFile reading shown name desk after (Ok found) =
    (text : List ℕ) × TakesQuery reading.most name desk after text × reading.Is text (shown found)
ReadsFile reading shown name desk after (Err why) = RefusesFile reading name desk after why

-- the line and the status of a file of which nothing is accepted
abbrev pub TellsWhy : {Q F : Type 0} → FileKind Q F → FileRefusal F → Status → Sinks → Type 0
TellsWhy reading (Faulty fault) status sinks = RefusesQuery (reading.line fault) status sinks
TellsWhy reading Unopened status sinks = (status ≡ OpenFault) × IsUnwritten sinks
TellsWhy reading Unread status sinks = (status ≡ ReadFault) × IsUnwritten sinks
TellsWhy reading OutOfMemory status sinks = (status ≡ NoMemory) × IsUnwritten sinks

-- the query that a text spells
abbrev pub ReadsQuery : List ℕ → Result TypedQuery (Refusal QueryFault) → Type 0
ReadsQuery text result = ReadsText query_file_kind (λ typed. query_tree typed.query) text result

-- ---- a file of queries

-- the query that the piece of this number spells
abbrev pub ReadsPiece : ℕ → List ℕ → Result TypedQuery (Refusal ManyFault) → Type 0
ReadsPiece number piece (Ok typed) = IsQuery piece (query_tree typed.query)
ReadsPiece number piece (Err (Fault (IsFaulty found fault))) = (found ≡ number) × IsQueryFault piece fault
ReadsPiece number piece (Err (Fault fault)) = ⊥
ReadsPiece number piece (Err IsNoMemory) = Unit {0}

-- the first fault of some pieces
abbrev pub RefusesPieces : List (List ℕ) → Refusal ManyFault → Type 0
RefusesPieces pieces (Fault (IsFaulty number fault)) = IsFirstFault pieces number fault
RefusesPieces pieces (Fault fault) = ⊥
RefusesPieces pieces IsNoMemory = Unit {0}

-- the queries that some pieces spell
abbrev pub ReadsPieces : {T : Type 0} → (T → List QueryTree) → List (List ℕ) → Result T (Refusal ManyFault) → Type 0
ReadsPieces shown pieces (Ok found) = AllZip IsQuery pieces (shown found)
ReadsPieces shown pieces (Err refusal) = RefusesPieces pieces refusal
