-- The places of a line, which bound the states of its automaton. An atom's places count as often as its marks repeat it.
use Rattle.std.specs.Prelude.{ℕ, ◌+◌, ◌*◌, max}
use Rattle.cql_syntax.specs.Trees.{LineTree, path, PartTrees, no_parts, more_parts, BodyTree, atom, group}
use Rattle.cql_syntax.specs.declared.leaves.Mark.{Mark}
use Rattle.cql_syntax.specs.declared.leaves.Mark.TheVariants.{Once, Star, Plus, Maybe, Times}

-- The number of times that the places of a part count. It is the most times that the part may occur, but at least 1; it is 1 if there is no
-- most.
abbrev pub copies : Mark → ℕ
copies Once = 1
copies Star = 1
copies Plus = 1
copies Maybe = 1
copies (Times least most) = max 1 most

-- An atom has one place, and a row of parts their sum. A line inside an atom counts by itself.
abbrev mutual
  pub places : LineTree → ℕ
  places (path back primary extent cs) = parts_places cs

  pub parts_places : PartTrees → ℕ
  parts_places no_parts = 0
  parts_places (more_parts body mark cs) = copies mark * body_places body + parts_places cs

  pub body_places : BodyTree → ℕ
  body_places (atom f) = 1
  body_places (group cs) = parts_places cs
