-- The laws of cells, for both kinds of cells.
use Rattle.std.proofs.Common.{◌≡◌, ℕ, ◌<◌, ◌≤◌, Bool, true, false, List, length, Option, Some, None, sym, subst}
use Rattle.cq_common.specs.Greatest.{IsGreatest}
use Rattle.cql_lines.specs.Internal.Cells.{Represents, both_kinds, place_cell, LeavesRoom, Counts, IsGreatestAllowed, AllowedLength}
use Rattle.cql_lines.specs.Limits.{most_nodes}
use Rattle.cql_lines.specs.Internal.AcceptedLengths.{AcceptedLengthFrom, AcceptedLength}
use Rattle.cql_lines.specs.Internal.LengthSets.{union_in}
use Rattle.cql_lines.specs.Shapes.{joined, Edge}
use Rattle.cql_lines.specs.Tables.{holds}
use Rattle.cql_lines.specs.declared.automaton.Transition.{Transition}
use Rattle.cql_lines.specs.declared.shape.Limits.{Limits}
use Rattle.cql_lines.specs.declared.shape.TreeNode.{TreeNode}
use Rattle.cql_lines.proofs.Below.{Below}
use Rattle.cql_lines.proofs.DownLaw.{same_greatest, greatest_of_two, none_greatest}
use Rattle.cql_lines.proofs.Measures.{Keeps, Joins, HasNone, Goes}
use Rattle.cql_lines.proofs.OwnLaw.{read_found, place_greatest}
use Rattle.cql_lines.proofs.SetsLaw.{same_set, set_of_two, none_set, place_set_known, read_set, longest_between}
use Rattle.cql_lines.proofs.ShortLaw.{below_short, above_short}

pub same_known : (sets : Bool) → Keeps (Represents sets)
same_known true = same_set
same_known false = same_greatest

pub two_known : (sets : Bool) → Joins (Represents sets) (both_kinds sets)
two_known true = set_of_two
two_known false = greatest_of_two

pub none_known : (sets : Bool) → HasNone (Represents sets)
none_known true = none_set
none_known false = none_greatest

pub goes_known : (sets : Bool) → Goes (Represents sets) (place_cell sets)
goes_known true = place_set_known
goes_known false = place_greatest

module _ (primary : Bool) (tree_nodes : List TreeNode) (below : (n p : ℕ) → joined primary tree_nodes n ≡ Some p → p < n) (words : List ℕ) (rules : List Transition) (few : length tree_nodes ≤ most_nodes) where
  pub room_after : (back sets : Bool) (n j m : ℕ) → n < length tree_nodes → Represents sets (Below (holds words) rules (Edge back primary tree_nodes) j n) m → LeavesRoom sets m
  room_after back true n j m low known = tt
  room_after true false n j m low known = above_short primary tree_nodes below words rules n j m low few known
  room_after false false n j m low known = below_short primary tree_nodes below words rules n j m few known

-- the value is the greatest length of those that count
pub read_answer : (words : List ℕ) (rules : List Transition) (E : ℕ → ℕ → Type 0) (first n : ℕ) (cells : ℕ → ℕ) (sets : Bool) (extent : Option Limits) (o : Option ℕ) → Counts sets extent
    → ((i : ℕ) → Represents sets (AcceptedLengthFrom (holds words) rules E i n) (cells i)) → IsGreatestAllowed sets extent first cells (length rules) o
    → IsGreatest (AllowedLength extent (AcceptedLength (holds words) rules E first n)) o
read_answer words rules E first n cells true (Some e) o few known is =
    longest_between (AcceptedLength (holds words) rules E first n) (union_in first cells (length rules)) e.least e.most o few (read_set words rules E first n cells known) is
read_answer words rules E first n cells false None o few known is =
    subst (IsGreatest (AcceptedLength (holds words) rules E first n)) (sym is) (read_found words rules E first n cells known)
read_answer words rules E first n cells true None o few known is = absurd few
read_answer words rules E first n cells false (Some e) o few known is = absurd few
