use Rattle.std.proofs.Common.{◌≡◌, ◌++◌, ℕ, ◌-◌, ◌<◌, ◌≤◌, Bool, List, length, Some}
use Rattle.cq_position.specs.Games.{Node, node_at}
use Rattle.pgn_export.specs.Movetext.{line_words, variation_words}
use Rattle.pgn_export.specs.Internal.Page.{Page, with_words}
use Rattle.pgn_export.specs.Internal.NodeWords.{after_node, instead_of}
use Rattle.pgn_export.proofs.movetext.+writing.Given as goal

-- children and siblings have greater numbers
abbrev pub decreases-write_line : goal.decreases-write_line
decreases-write_line l = length l.game.now.nodes - l.of

abbrev pub decreases-write_variations : goal.decreases-write_variations
decreases-write_variations l = length l.game.now.nodes - l.beside

-- the words so far, and those of what is played after the node that is reached, are all
pub record Line (nodes : List Node) (old page : Page) (old_due due : Bool) (of at : ℕ) : Type 0 where
  pub after : of ≤ at
  pub within : at < length nodes
  pub kept : with_words page (line_words (node_at nodes at).position due (after_node nodes at))
      ≡ with_words old (line_words (node_at nodes of).position old_due (after_node nodes of))

abbrev pub invariant-write_line-loop-child : goal.invariant-write_line-loop-child
invariant-write_line-loop-child l = Line l.game.nodes l.fn.page l.page l.fn.due l.due l.fn.of l.at

abbrev pub decreases-write_line-loop-child : goal.decreases-write_line-loop-child
decreases-write_line-loop-child l = length l.game.nodes - l.at

-- the words so far, and those of the siblings that come later, are all
pub record Instead (nodes : List Node) (old page : Page) (parent beside at : ℕ) : Type 0 where
  pub after : beside ≤ at
  pub within : at < length nodes
  pub parent_is : (node_at nodes at).parent ≡ Some parent
  pub kept : with_words page (variation_words (node_at nodes parent).position (instead_of nodes parent at))
      ≡ with_words old (variation_words (node_at nodes parent).position (instead_of nodes parent beside))

abbrev pub invariant-write_variations-loop-sibling : goal.invariant-write_variations-loop-sibling
invariant-write_variations-loop-sibling l = Instead l.game.nodes l.fn.page l.page l.parent l.fn.beside l.at

abbrev pub decreases-write_variations-loop-sibling : goal.decreases-write_variations-loop-sibling
decreases-write_variations-loop-sibling l = length l.game.nodes - l.at
