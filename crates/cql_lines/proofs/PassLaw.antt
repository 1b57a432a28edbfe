-- One node more, in either direction.
use Rattle.std.proofs.Common.{◌≡◌, ℕ, ◌+◌, ◌-◌, ◌<◌, ◌≤◌, Bool, true, false, List, length, get_or, refl, sym, subst, Option, Some, None, arith, slice_get, slice_set}
use Rattle.cql_lines.specs.declared.automaton.Transition.{Transition}
use Rattle.cql_lines.specs.declared.shape.TreeNode.{TreeNode}
use Rattle.cql_lines.specs.Internal.AcceptedLengths.{AcceptedLengthFrom}
use Rattle.cql_lines.specs.Internal.DownwardPass.{cell}
use Rattle.cql_lines.specs.Internal.Lengths.{is_set, at}
use Rattle.cql_lines.specs.Internal.Passes.{IsNextRow, IsUpdate, IsVisited, PassInvariant, turns_before, visited_node}
use Rattle.cql_lines.specs.Internal.UpwardPass.{UpInvariant}
use Rattle.cql_lines.specs.Shapes.{joined, is_searched, Edge}
use Rattle.cql_lines.specs.Tables.{holds}
use Rattle.cql_lines.specs.Values.{GreatestWhere}
use Rattle.cql_lines.proofs.Below.{Below}
use Rattle.cql_lines.proofs.DownLaw.{whole_row, stands_more, stands_same}
use Rattle.cql_lines.proofs.Measures.{Measure, Keeps, Joins, HasNone, Goes}
use Rattle.cql_lines.proofs.OwnLaw.{own_known}
use Rattle.cql_lines.proofs.UpLaw.{row_here, stands_up, stands_up_same, stands_up_first, up_more}
use Rattle.cql_lines.proofs.VisitLaw.{unsearched_by, stands_first, done_more}

module _ (Represents : Measure) (join : ℕ → ℕ → ℕ) (same : Keeps Represents) (two : Joins Represents join) (none : HasNone Represents) (words : List ℕ) (rules : List Transition) (primary : Bool)
    (tree_nodes : List TreeNode) (below : (n p : ℕ) → joined primary tree_nodes n ≡ Some p → p < n) (whole : (n p : ℕ) → joined primary tree_nodes n ≡ Some p → is_searched tree_nodes p ≡ true) where
  pub pass_below : (back : Bool) (n : ℕ) (rows : List (ℕ → ℕ)) (row : ℕ → ℕ) → n < length tree_nodes
      → PassInvariant back Represents words rules primary tree_nodes (turns_before back (length tree_nodes) n) rows → IsNextRow back primary tree_nodes n rows row → (j : ℕ)
      → Represents (Below (holds words) rules (Edge back primary tree_nodes) j n) (row j)
  pass_below true n rows row low s a j = row_here Represents same none words rules primary tree_nodes (λ n p e. (below n p e, whole n p e)) n rows row s a j
  pass_below false n rows row low s a j =
      subst (λ r. Represents (Below (holds words) rules (Edge false primary tree_nodes) j n) (r j)) a
      (whole_row Represents join same two words rules primary tree_nodes below (length tree_nodes - n - 1) rows s n (omega arith) j)

  pub pass_known : (back : Bool) (place : Transition → ℕ → (ℕ → ℕ) → ℕ → ℕ) (goes : Goes Represents place) (n : ℕ) (rows : List (ℕ → ℕ)) (row own : ℕ → ℕ) (held atoms : ℕ) → n < length tree_nodes
      → PassInvariant back Represents words rules primary tree_nodes (turns_before back (length tree_nodes) n) rows → IsNextRow back primary tree_nodes n rows row
      → ((a : ℕ) → a < atoms → is_set held a ≡ is_set (at words n) a) → ((i : ℕ) (r : Transition) → slice_get rules i ≡ Some r → r.atom < atoms)
      → ((i : ℕ) (r : Transition) → slice_get rules i ≡ Some r → own i ≡ place r held row (length rules)) → ((i : ℕ) → length rules ≤ i → own i ≡ 0)
      → (i : ℕ) → Represents (AcceptedLengthFrom (holds words) rules (Edge back primary tree_nodes) i n) (own i)
  pass_known back place goes n rows row own held atoms low s a table few here past =
      own_known Represents none place goes words rules (Edge back primary tree_nodes) n held row own (pass_below back n rows row low s a) (λ i r rule. table r.atom (few i r rule)) here past

  pub pass_updated : (back : Bool) (n : ℕ) (rows new : List (ℕ → ℕ)) (own : ℕ → ℕ) → n < length tree_nodes
      → PassInvariant back Represents words rules primary tree_nodes (turns_before back (length tree_nodes) n) rows
      → ((i : ℕ) → Represents (AcceptedLengthFrom (holds words) rules (Edge back primary tree_nodes) i n) (own i)) → IsUpdate back join primary tree_nodes n rows new own
      → PassInvariant back Represents words rules primary tree_nodes (turns_before back (length tree_nodes) n + 1) new
  pass_updated true n rows new own low s known is =
      subst (UpInvariant Represents words rules primary tree_nodes (n + 1)) (sym is)
      (stands_up Represents same none words rules primary tree_nodes (λ n p e. (below n p e, whole n p e)) n rows own low s known)
  pass_updated false n rows new own low s known is =
      stands_more Represents join same two words rules primary tree_nodes below (length tree_nodes - n - 1) n rows new own (omega arith) s known is

  pub pass_unsearched : (back : Bool) (n : ℕ) (rows : List (ℕ → ℕ)) → n < length tree_nodes
      → PassInvariant back Represents words rules primary tree_nodes (turns_before back (length tree_nodes) n) rows → is_searched tree_nodes n ≡ false
      → PassInvariant back Represents words rules primary tree_nodes (turns_before back (length tree_nodes) n + 1) rows
  pass_unsearched true n rows low s off = stands_up_same Represents same none words rules primary tree_nodes (λ n p e. (below n p e, whole n p e)) n rows s off
  pass_unsearched false n rows low s off =
      stands_same Represents join same two words rules primary tree_nodes below (length tree_nodes - n - 1) n rows (omega arith) s (unsearched_by primary (slice_get tree_nodes n) off)

pub pass_first : (back : Bool) (Represents : Measure) (none : HasNone Represents) (words : List ℕ) (rules : List Transition) (primary : Bool) (tree_nodes : List TreeNode) (rows : List (ℕ → ℕ))
    → length rows ≡ length tree_nodes → ((n j : ℕ) → cell rows n j ≡ 0) → PassInvariant back Represents words rules primary tree_nodes 0 rows
pass_first true Represents none words rules primary tree_nodes rows size blank = stands_up_first Represents words rules primary tree_nodes rows size
pass_first false Represents none words rules primary tree_nodes rows size blank = stands_first Represents none words rules primary tree_nodes rows size blank

-- a row for each node
pub pass_rows : (back : Bool) (Represents : Measure) (words : List ℕ) (rules : List Transition) (primary : Bool) (tree_nodes : List TreeNode) (t : ℕ) (rows : List (ℕ → ℕ))
    → PassInvariant back Represents words rules primary tree_nodes t rows → length rows ≡ length tree_nodes
pass_rows true Represents words rules primary tree_nodes t rows s = s.count
pass_rows false Represents words rules primary tree_nodes t rows s = s.count

-- the node that is visited after some turns, and the turns before it
pub turn_of : (back : Bool) (size turn : ℕ) → turn < size → turns_before back size (visited_node back size turn) ≡ turn
turn_of true size turn low = refl
turn_of false size turn low = omega arith

pub node_low : (back : Bool) (size turn : ℕ) → turn < size → visited_node back size turn < size
node_low true size turn low = low
node_low false size turn low = omega arith

pub none_done : (back : Bool) (size n : ℕ) → IsVisited back size 0 n → n < size → ⊥
none_done true size n early low = omega (arith, early)
none_done false size n late low = omega (arith, late)

pub all_done : (back : Bool) (size nodes turn n : ℕ) → nodes ≡ size → nodes ≤ turn → n < size → IsVisited back size turn n
all_done true size nodes turn n e past low = omega arith
all_done false size nodes turn n e past low = omega arith

-- one value more
pub pass_more : (back : Bool) (P : ℕ → ℕ → Type 0) (searched : ℕ → Bool) (size : ℕ) (values : List (Option ℕ)) (v : Option ℕ) (turn : ℕ) → length values ≡ size → turn < size
    → GreatestWhere (searched (visited_node back size turn)) (P (visited_node back size turn)) v
    → ((n : ℕ) → IsVisited back size turn n → n < size → GreatestWhere (searched n) (P n) (get_or values n None))
    → (n : ℕ) → IsVisited back size (turn + 1) n → n < size → GreatestWhere (searched n) (P n) (get_or (slice_set values (visited_node back size turn) v) n None)
pass_more true P searched size values v turn len low here before n early in_tree =
    up_more P searched values v turn (omega (arith, len)) here (λ m h. before m h (omega (arith, h))) n early
pass_more false P searched size values v turn len low here before n late in_tree =
    done_more P searched size values v turn (size - 1 - turn) len (omega arith) here before n late in_tree
