-- The value of a line, in one sentence.
use Rattle.std.specs.Prelude.{◌≡◌, ℕ, Bool, true, List, length, Option, pos, option_map}
use Rattle.cq_common.specs.Greatest.{IsGreatest}
use Rattle.cq_common.specs.Spelling.{Pattern, Spells}
use Rattle.cq_position.specs.Games.{IsTree}
use Rattle.cq_position.specs.Search.{SearchedTree, IsPath}
use Rattle.cql_syntax.specs.Contexts.{Context}
use Rattle.cql_syntax.specs.Meaning.{Names, allows, pattern, line_value}
use Rattle.cql_syntax.specs.Trees.{PartTrees, path}
use Rattle.cql_syntax.specs.Values.{Value, holds, as_number}
use Rattle.cql_syntax.specs.declared.extents.Extent.{Extent}

-- some path of so many nodes from n, down or with `back` up, is spelled by a pattern of values that hold, and an extent allows its length
pub record IsSpelledLength (tree : SearchedTree) (back primary : Bool) (extent : Extent) (p : Pattern (ℕ → Value)) (n len : ℕ)
    : Type 0 where
  pub nodes : List ℕ
  pub path : IsPath tree back primary n nodes
  pub spelled : Spells (λ v m. holds (v m)) p nodes
  pub count : length nodes ≡ len
  pub allowed : allows extent len ≡ true

-- The value of a line at a node is the greatest length of those paths from there that its pattern spells and its extent allows. There is no
-- value if there is no such path.
abbrev pub LinesAreLongestPaths : Type 0
LinesAreLongestPaths =
    (tree : SearchedTree) → IsTree tree.game.nodes → (g : Context) (e : Names) (back primary : Bool) (extent : Extent) (parts : PartTrees)
    (n : ℕ) → (longest : Option ℕ) × (line_value tree g e (path back primary extent parts) n ≡ as_number (option_map pos longest))
    × IsGreatest (IsSpelledLength tree back primary extent (pattern tree g e parts) n) longest
