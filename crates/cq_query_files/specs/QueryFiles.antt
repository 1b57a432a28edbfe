-- A file of queries: its pieces, the queries that they spell, and its faults.
use Rattle.std.specs.Prelude.{◌≡◌, ℕ, ◌+◌, ◌≤◌, ◌<◌, ◌==◌, ◌||◌, Bool, List, [], ◌∷◌, ◌++◌, length, map, codes, if◌then◌else◌}
use Rattle.std.specs.List.{AllZip, concat, onto_first, slice_split}
use Rattle.std.specs.Str.{bytes_eq}
use Rattle.cql_syntax.specs.Trees.{QueryTree}
use Rattle.cql_syntax.specs.declared.fault.QueryFault.{QueryFault}
use Rattle.cq_report.specs.Queries.{numbered_query_line}
use Rattle.cq_query_files.specs.Queries.{IsQuery, IsQueryFault}
use Rattle.cq_query_files.specs.declared.query_files.ManyFault.{ManyFault}
use Rattle.cq_query_files.specs.declared.query_files.ManyFault.TheVariants.{TooLong, TooMany, Faulty}

-- the most bytes that a file of queries may have
abbrev pub most_in_file : ℕ
most_in_file = 1048576

-- the most queries that it may have
abbrev pub most_queries : ℕ
most_queries = 16

-- the lines of a text, each with its line feed, which the last one may lack
unfoldable pub lines : List ℕ → List (List ℕ)
lines [] = []
lines (b ∷ text) = if b == 10 then (b ∷ []) ∷ lines text else onto_first b (lines text)

-- a line between two queries: `%%` alone
abbrev pub is_divider : List ℕ → Bool
is_divider line = bytes_eq line (codes "%%\n") || bytes_eq line (codes "%%")

-- the pieces of a file of queries: the lines before, between and after its dividers
unfoldable pub pieces : List ℕ → List (List ℕ)
pieces text = map concat (slice_split is_divider (lines text))

-- A file of queries is accepted as these: it is within the limits, and its pieces are these queries, in order.
pub record HoldsQueries (text : List ℕ) (queries : List QueryTree) : Type 0 where
  pub short : length text ≤ most_in_file
  pub few : length (pieces text) ≤ most_queries
  pub are : AllZip IsQuery (pieces text) queries

-- this fault is the first of some texts, by its number from 1: all texts before it are queries
pub record IsFirstFault (texts : List (List ℕ)) (number : ℕ) (fault : QueryFault) : Type 0 where
  pub before : List (List ℕ)
  pub queries : List QueryTree
  pub are : AllZip IsQuery before queries
  pub text : List ℕ
  pub is : IsQueryFault text fault
  pub after : List (List ℕ)
  pub among : texts ≡ before ++ text ∷ after
  pub number_is : number ≡ length before + 1

-- The fault of a file of queries: too many bytes, else too many pieces, else the first piece with a fault.
abbrev pub IsManyFault : List ℕ → ManyFault → Type 0
IsManyFault text TooLong = most_in_file < length text
IsManyFault text TooMany = (length text ≤ most_in_file) × (most_queries < length (pieces text))
IsManyFault text (Faulty number fault) =
    (length text ≤ most_in_file) × (length (pieces text) ≤ most_queries) × IsFirstFault (pieces text) number fault

-- the line of a fault
abbrev pub many_line : ManyFault → List ℕ
many_line TooLong = codes "queries too long\n"
many_line TooMany = codes "queries too many\n"
many_line (Faulty number fault) = numbered_query_line number fault
