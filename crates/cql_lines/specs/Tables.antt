-- The contents of a table of atoms.
use Rattle.std.specs.Prelude.{◌==◌, ℕ, List, Bool, length, get_or}
use Rattle.std.specs.Int.{bit_at}
use Rattle.cql_lines.specs.declared.table.AtomTable.{AtomTable}

-- the number of atoms
abbrev pub atoms_of : {L : Type 0} {g : _} → AtomTable L g → ℕ
atoms_of table = table.atoms

-- for each node a word with a bit for each atom
abbrev pub words_of : {L : Type 0} {g : _} → AtomTable L g → List ℕ
words_of table = table.words.items

-- bit a of the word of node n is set
abbrev pub holds : List ℕ → ℕ → ℕ → Bool
holds words a n = bit_at (get_or words n 0) a == 1

abbrev pub nodes_of : {L : Type 0} {g : _} → AtomTable L g → ℕ
nodes_of table = length (words_of table)

-- an atom holds at a node
abbrev pub holds_in : {L : Type 0} {g : _} → AtomTable L g → ℕ → ℕ → Bool
holds_in table a n = holds (words_of table) a n
