-- The filters of a query, each with its context: outer before inner, and left before right.
use Rattle.std.specs.Prelude.{ℕ, ◌+◌, List, [], ◌∷◌, ◌++◌, Option, None, Some}
use Rattle.cql_syntax.specs.Kinds.{chain_kind}
use Rattle.cql_syntax.specs.Trees.{FilterTree, filter_at, FormTree, designator, number, name, plain, tagged, outcome, elo, unary, direction, chain, sum_of, pair, if_, square, line, played, transform, sort, comment, any, FilterTrees, no_filters, more_filters, TermTrees, no_terms, more_terms, LineTree, path, PartTrees, no_parts, more_parts, BodyTree, atom, group, PlayedTree, move_of, WrittenTree, left_out, written, QueryTree}
use Rattle.cql_syntax.specs.OperandKinds.{unary_operand_kind, pair_operand_kind}
use Rattle.cql_syntax.specs.declared.leaves.Kind.{Kind}
use Rattle.cql_syntax.specs.declared.leaves.Kind.TheVariants.{Position, Set, Number}

-- the context of a filter in its query
pub record TypingContext : Type 0 where
  -- the kind that is required of it
  pub wanted : Kind
  -- the names that are bound there, the innermost first
  pub names : List (List ℕ)
  -- the number of `square` around it
  pub squares : ℕ
  -- for a top item, the number of sort items before it
  pub item : Option ℕ

pub record Occurrence : Type 0 where
  pub standing : TypingContext
  pub at : ℕ
  pub form : FormTree

-- a top item, with so many sort items before it
abbrev pub top_item : ℕ → TypingContext
top_item sorts = record { wanted = Position; names = []; squares = 0; item = Some sorts }

-- a part of a filter, with its required kind
abbrev pub part_of : TypingContext → Kind → TypingContext
part_of s wanted = record { wanted = wanted; names = s.names; squares = s.squares; item = None }

-- a part of a `square`, with its required kind
abbrev pub part_of_square : TypingContext → Kind → TypingContext
part_of_square s wanted = record { wanted = wanted; names = s.names; squares = s.squares + 1; item = None }

-- the condition of a `square`, in which a name is bound
abbrev pub square_condition : TypingContext → List ℕ → TypingContext
square_condition s bound = record { wanted = Position; names = bound ∷ s.names; squares = s.squares + 1; item = None }

-- A filter and all in it. The part of a family may have any kind. The name that a `square` binds is bound in its condition alone.
unfoldable mutual
  pub occurrences : TypingContext → FilterTree → List Occurrence
  occurrences s (filter_at at f) = record { standing = s; at = at; form = f } ∷ inner s f

  pub inner : TypingContext → FormTree → List Occurrence
  inner s (designator d) = []
  inner s (number n) = []
  inner s (name text) = []
  inner s (plain word) = []
  inner s (tagged field text) = []
  inner s (outcome o) = []
  inner s (elo whose) = []
  inner s (unary u f) = occurrences (part_of s (unary_operand_kind u)) f
  inner s (direction way m n f) = occurrences (part_of s Set) f
  inner s (chain c fs) = all_of (part_of s (chain_kind c)) fs
  inner s (sum_of ts) = of_terms (part_of s Number) ts
  inner s (pair c f g) = occurrences (part_of s (pair_operand_kind c)) f ++ occurrences (part_of s (pair_operand_kind c)) g
  inner s (if_ f g h) =
      occurrences (part_of s Position) f ++ (occurrences (part_of s Position) g ++ occurrences (part_of s Position) h)
  inner s (square every text f g) = occurrences (part_of_square s Set) f ++ occurrences (square_condition s text) g
  inner s (line l) = of_line (part_of s Position) l
  inner s (played p) = of_played (part_of s Set) p
  inner s (transform t f) = occurrences (part_of s Position) f
  inner s (sort least text f) = occurrences (part_of s Number) f
  inner s (comment text) = []
  inner s (any kind fs) = all_of (part_of s kind) fs

  pub all_of : TypingContext → FilterTrees → List Occurrence
  all_of s no_filters = []
  all_of s (more_filters f fs) = occurrences s f ++ all_of s fs

  pub of_terms : TypingContext → TermTrees → List Occurrence
  of_terms s no_terms = []
  of_terms s (more_terms minus f ts) = occurrences s f ++ of_terms s ts

  pub of_line : TypingContext → LineTree → List Occurrence
  of_line s (path back primary extent cs) = of_parts s cs

  pub of_played : TypingContext → PlayedTree → List Occurrence
  of_played s (move_of origin goal taken promoted) =
      of_written s origin ++ (of_written s goal ++ (of_written s taken ++ of_written s promoted))

  pub of_written : TypingContext → WrittenTree → List Occurrence
  of_written s left_out = []
  of_written s (written f) = occurrences s f

  pub of_parts : TypingContext → PartTrees → List Occurrence
  of_parts s no_parts = []
  of_parts s (more_parts body mark cs) = of_body s body ++ of_parts s cs

  pub of_body : TypingContext → BodyTree → List Occurrence
  of_body s (atom f) = occurrences s f
  of_body s (group cs) = of_parts s cs

-- the number of sort items, given a filter and the number before it
abbrev pub sorts_with : ℕ → FilterTree → ℕ
sorts_with sorts (filter_at at (sort least text f)) = sorts + 1
sorts_with sorts f = sorts

-- the top items, with so many sort items before them, and all in them
unfoldable pub of_items : ℕ → FilterTrees → List Occurrence
of_items sorts no_filters = []
of_items sorts (more_filters f fs) = occurrences (top_item sorts) f ++ of_items (sorts_with sorts f) fs

-- the filters of a query
abbrev pub all_occurrences : QueryTree → List Occurrence
all_occurrences q = of_items 0 q.items
