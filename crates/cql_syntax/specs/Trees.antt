-- The tree of a query: the variants of its types, with plain lists in place of vectors and plain values in place
-- of boxes.
use Rattle.std.specs.Prelude.{ℕ, Bool, List}
use Rattle.cq_symmetry.specs.declared.families.Family.{Family}
use Rattle.cql_syntax.specs.declared.leaves.Chain.{Chain}
use Rattle.cql_syntax.specs.declared.leaves.Designator.{Designator}
use Rattle.cql_syntax.specs.declared.extents.Extent.{Extent}
use Rattle.cql_syntax.specs.declared.leaves.Field.{Field}
use Rattle.cql_syntax.specs.declared.leaves.Kind.{Kind}
use Rattle.cql_syntax.specs.declared.leaves.Mark.{Mark}
use Rattle.cql_syntax.specs.declared.leaves.Of.{Of}
use Rattle.cql_syntax.specs.declared.leaves.Outcome.{Outcome}
use Rattle.cql_syntax.specs.declared.leaves.Pair.{Pair}
use Rattle.cql_syntax.specs.declared.leaves.Plain.{Plain}
use Rattle.cql_syntax.specs.declared.leaves.Unary.{Unary}
use Rattle.cql_syntax.specs.declared.leaves.Way.{Way}

mutual
  -- the byte at which the filter begins, and its form
  pub data FilterTree : Type 0 where
    filter_at : ℕ → FormTree → FilterTree

  pub data FormTree : Type 0 where
    designator : Designator → FormTree
    number : ℕ → FormTree
    name : List ℕ → FormTree
    plain : Plain → FormTree
    tagged : Field → List ℕ → FormTree
    outcome : Outcome → FormTree
    elo : Of → FormTree
    unary : Unary → FilterTree → FormTree
    direction : Way → ℕ → ℕ → FilterTree → FormTree
    chain : Chain → FilterTrees → FormTree
    sum_of : TermTrees → FormTree
    pair : Pair → FilterTree → FilterTree → FormTree
    if_ : FilterTree → FilterTree → FilterTree → FormTree
    square : Bool → List ℕ → FilterTree → FilterTree → FormTree
    line : LineTree → FormTree
    played : PlayedTree → FormTree
    transform : Family → FilterTree → FormTree
    sort : Bool → List ℕ → FilterTree → FormTree
    comment : List ℕ → FormTree
    any : Kind → FilterTrees → FormTree

  pub data FilterTrees : Type 0 where
    no_filters : FilterTrees
    more_filters : FilterTree → FilterTrees → FilterTrees

  -- each with a flag: true if it is subtracted
  pub data TermTrees : Type 0 where
    no_terms : TermTrees
    more_terms : Bool → FilterTree → TermTrees → TermTrees

  -- a flag for a path that goes up, a flag for first children alone, the allowed lengths, and the parts
  pub data LineTree : Type 0 where
    path : Bool → Bool → Extent → PartTrees → LineTree

  -- the conditions on a move: its origin, its goal, the square of its capture, and its goal if it promotes
  pub data PlayedTree : Type 0 where
    move_of : WrittenTree → WrittenTree → WrittenTree → WrittenTree → PlayedTree

  -- a part that may be left out
  pub data WrittenTree : Type 0 where
    left_out : WrittenTree
    written : FilterTree → WrittenTree

  -- the constituents of a line, each with its mark
  pub data PartTrees : Type 0 where
    no_parts : PartTrees
    more_parts : BodyTree → Mark → PartTrees → PartTrees

  pub data BodyTree : Type 0 where
    atom : FilterTree → BodyTree
    group : PartTrees → BodyTree

pub record QueryTree : Type 0 where
  pub variations : Bool
  pub match_at : ℕ
  pub match_text : List ℕ
  pub items : FilterTrees

-- the trees, and one more at the end
abbrev pub with_filter : FilterTrees → FilterTree → FilterTrees
with_filter no_filters f = more_filters f no_filters
with_filter (more_filters g gs) f = more_filters g (with_filter gs f)

abbrev pub with_term : TermTrees → Bool → FilterTree → TermTrees
with_term no_terms minus f = more_terms minus f no_terms
with_term (more_terms other g gs) minus f = more_terms other g (with_term gs minus f)

abbrev pub with_part : PartTrees → BodyTree → Mark → PartTrees
with_part no_parts body mark = more_parts body mark no_parts
with_part (more_parts other times cs) body mark = more_parts other times (with_part cs body mark)
