-- The lines of a query that is faulty, accepted or explained.
use Rattle.std.specs.Prelude.{ℕ, List, [], ◌++◌, codes}
use Rattle.cql_rewrite.specs.FlatText.{items_text}
use Rattle.cql_syntax.specs.Flat.{flat_query}
use Rattle.cql_syntax.specs.Trees.{QueryTree}
use Rattle.cq_query_files.specs.declared.status.Status.{Status}
use Rattle.cq_query_files.specs.declared.status.Status.TheVariants.{Done, QueryRefused, WriteFault, NoMemory}
use Rattle.cq_query_files.specs.Views.{Sinks, Texts, Writes, WritesPrefix, IsUnwritten, NoWriteFailed, OutFailed, ErrFailed}

-- the texts of a call that writes to one sink alone
abbrev pub text_for_err : List ℕ → Texts
text_for_err text = record { out = []; err = text }

abbrev pub text_for_out : List ℕ → Texts
text_for_out text = record { out = text; err = [] }

-- a query, or a file of queries, has a fault: this line is written
abbrev pub RefusesQuery : List ℕ → Status → Sinks → Type 0
RefusesQuery text QueryRefused sinks = Writes sinks (text_for_err text) × NoWriteFailed sinks
RefusesQuery text WriteFault sinks = WritesPrefix sinks (text_for_err text) × ErrFailed sinks
RefusesQuery text NoMemory sinks = IsUnwritten sinks
RefusesQuery text _ sinks = ⊥

-- a query that is accepted: `ok` is written
abbrev pub accepted_text : List ℕ
accepted_text = codes "ok\n"

abbrev pub AcceptsQuery : Status → Sinks → Type 0
AcceptsQuery Done sinks = Writes sinks (text_for_out accepted_text) × NoWriteFailed sinks
AcceptsQuery WriteFault sinks = WritesPrefix sinks (text_for_out accepted_text) × OutFailed sinks
AcceptsQuery _ sinks = ⊥

-- a query that is explained: its flat items are written, each on its line
unfoldable pub flat_lines : QueryTree → List ℕ
flat_lines query = items_text (flat_query query).items ++ codes "\n"

abbrev pub WritesFlat : QueryTree → Status → Sinks → Type 0
WritesFlat query Done sinks = Writes sinks (text_for_out (flat_lines query)) × NoWriteFailed sinks
WritesFlat query WriteFault sinks = WritesPrefix sinks (text_for_out (flat_lines query)) × OutFailed sinks
WritesFlat query NoMemory sinks = IsUnwritten sinks
WritesFlat query _ sinks = ⊥
