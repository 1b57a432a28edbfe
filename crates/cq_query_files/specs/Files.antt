-- Opening and taking the files of queries, and the kinds of files.
use Rattle.std.specs.Prelude.{◌≡◌, ℕ, ◌+◌, ◌≤◌, List, [], ◌∷◌, ◌++◌, length, Some}
use Rattle.std.specs.Option.{option_map}
use Rattle.std.specs.Io.KnownBytes.{Consumes, IsAtEnd}
use Rattle.cq_outside.specs.Faults.{Rose}
use Rattle.cq_outside.specs.Flow.{TakesAtMost}
use Rattle.cq_outside.specs.DeskFiles.{DeskFiles, bytes_of}
use Rattle.cql_syntax.specs.Limits.{most_bytes}
use Rattle.cql_syntax.specs.Trees.{QueryTree}
use Rattle.cql_syntax.specs.declared.fault.QueryFault.{QueryFault}
use Rattle.cq_report.specs.Queries.{query_line}
use Rattle.cq_query_files.specs.declared.query_files.ManyFault.{ManyFault}
use Rattle.cq_query_files.specs.Queries.{IsQuery, IsQueryFault}
use Rattle.cq_query_files.specs.QueryFiles.{HoldsQueries, IsManyFault, many_line, most_in_file}
use Rattle.cq_query_files.specs.Views.{SourceView, DeskView}

-- a desk on which one more name was opened
abbrev pub with_open : List ℕ → DeskFiles → DeskFiles
with_open name told = record { files = told.files; opened = told.opened ++ name ∷ [] }

-- As far as the desk tells, this name was opened, once, and no other was. The file is that which was opened, before it was read.
pub record Opened (name : List ℕ) (desk after : DeskView) (file : SourceView) : Type 0 where
  pub told : after.told ≡ option_map (with_open name) desk.told
  pub bytes : (told : DeskFiles) → desk.told ≡ Some told → file.left ≡ Some (bytes_of told.files name)
  pub faults : file.faults ≡ desk.file.faults
  pub opens : after.open_faults ≡ desk.open_faults

-- a file could not be opened: the count of failed opens rose, and nothing else changed
pub record FailsToOpen (desk after : DeskView) : Type 0 where
  pub rose : Rose desk.open_faults after.open_faults
  pub told : after.told ≡ desk.told
  pub file : after.file ≡ desk.file

-- The file of a query, or of several, was opened, and these bytes of it were taken: all, or one more than the limit.
pub record TakesQuery (most : ℕ) (name : List ℕ) (desk after : DeskView) (text : List ℕ) : Type 0 where
  pub file : SourceView
  pub opened : Opened name desk after file
  pub takes : Consumes file.left after.file.left text
  pub few : length text ≤ most + 1
  pub whole : length text ≤ most → IsAtEnd after.file.left
  pub faults : after.file.faults ≡ file.faults

-- such a file was opened, and could not be read: its count rose
pub record FailsToRead (most : ℕ) (name : List ℕ) (desk after : DeskView) : Type 0 where
  pub file : SourceView
  pub opened : Opened name desk after file
  pub few : TakesAtMost most file.left after.file.left
  pub rose : Rose file.faults after.file.faults

-- out of memory to open such a file, or to read it
pub data LacksMemory (most : ℕ) (name : List ℕ) (desk after : DeskView) : Type 0 where
  no_memory_to_open : after ≡ desk → LacksMemory most name desk after
  no_memory_to_read : (file : SourceView) → Opened name desk after file → TakesAtMost (most + 1) file.left after.file.left
      → after.file.faults ≡ file.faults → LacksMemory most name desk after

-- A kind of file, with one query or several: the most bytes that count, the queries or the fault of a text, and the line of a fault.
pub record FileKind (Accepted Fault : Type 0) : Type 1 where
  pub most : ℕ
  pub Is : List ℕ → Accepted → Type 0
  pub Has : List ℕ → Fault → Type 0
  pub line : Fault → List ℕ

abbrev pub query_file_kind : FileKind QueryTree QueryFault
query_file_kind = record { most = most_bytes; Is = IsQuery; Has = IsQueryFault; line = query_line }

abbrev pub queries_file_kind : FileKind (List QueryTree) ManyFault
queries_file_kind = record { most = most_in_file; Is = HoldsQueries; Has = IsManyFault; line = many_line }
