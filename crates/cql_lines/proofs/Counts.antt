-- The number of searched nodes among the first nodes and among the last, and the looks at them.
use Rattle.std.proofs.Common.{◌≡◌, ℕ, ◌+◌, ◌-◌, ◌*◌, ◌<◌, ◌≤◌, Bool, true, false, List, None, length, take, drop, refl, sym, ap, ◌∙◌, subst, arith}
use Rattle.std.specs.Prelude.{cond}
use Rattle.std.proofs.lemmas.List.Sums.{sum_by_more, sum_by-take-drop}
use Rattle.std.proofs.lemmas.List.{take_all, drop_all}
use Rattle.std.proofs.lemmas.Option.{slice_get-get_or}
use Rattle.cql_lines.specs.declared.shape.TreeNode.{TreeNode}
use Rattle.cql_lines.specs.Internal.Passes.{visited_node}
use Rattle.cql_lines.specs.Shapes.{is_searched, searched_by, searched_count}

abbrev one : TreeNode → ℕ
one s = cond s.searched 1 0

-- a node in place of one that is missing
abbrev blank : TreeNode
blank = record { parent = None; searched = false; first = false }

first_more : (tree_nodes : List TreeNode) (n : ℕ) → n < length tree_nodes → searched_count (take (n + 1) tree_nodes) ≡ searched_count (take n tree_nodes) + cond (is_searched tree_nodes n) 1 0
first_more tree_nodes n low = sum_by_more one tree_nodes n blank low ∙ ap (λ o. searched_count (take n tree_nodes) + cond (searched_by o) 1 0) (sym (slice_get-get_or tree_nodes n blank low))

last_more : (tree_nodes : List TreeNode) (n : ℕ) → n < length tree_nodes → searched_count (drop n tree_nodes) ≡ searched_count (drop (n + 1) tree_nodes) + cond (is_searched tree_nodes n) 1 0
last_more tree_nodes n low =
    let all : searched_count (take n tree_nodes) + searched_count (drop n tree_nodes) ≡ searched_count tree_nodes = sum_by-take-drop one tree_nodes n in
    let same : searched_count (take (n + 1) tree_nodes) + searched_count (drop (n + 1) tree_nodes) ≡ searched_count tree_nodes = sum_by-take-drop one tree_nodes (n + 1) in
    let more = first_more tree_nodes n low in omega arith

times_more : (a m : ℕ) → a * (m + 1) ≡ a * m + a
times_more a m = grind arith

times_same : (a m : ℕ) → a * (m + 0) ≡ a * m
times_same a m = grind arith

-- the looks that are left, of all those at searched nodes, after the looks at one more node
one_more : (atoms a b s n m all : ℕ) (searched : Bool) → (searched ≡ false → b ≡ a) → (searched ≡ true → b ≡ a + atoms)
    → n ≡ m + cond searched 1 0 → a + atoms * n ≡ s + all → b + atoms * m ≡ s + all
one_more atoms a b s n m all true none each e was =
    let is = each refl in
    let more : atoms * n ≡ atoms * m + atoms = ap (λ k. atoms * k) e ∙ times_more atoms m in omega arith
one_more atoms a b s n m all false none each e was =
    let is = none refl in
    let same : atoms * n ≡ atoms * m = ap (λ k. atoms * k) e ∙ times_same atoms m in omega arith

exact_up : (tree_nodes : List TreeNode) (atoms a b s n : ℕ) → n < length tree_nodes
    → (is_searched tree_nodes n ≡ false → b ≡ a) → (is_searched tree_nodes n ≡ true → b ≡ a + atoms)
    → a + atoms * searched_count (drop n tree_nodes) ≡ s + atoms * searched_count tree_nodes
    → b + atoms * searched_count (drop (n + 1) tree_nodes) ≡ s + atoms * searched_count tree_nodes
exact_up tree_nodes atoms a b s n low none each was =
    one_more atoms a b s (searched_count (drop n tree_nodes)) (searched_count (drop (n + 1) tree_nodes)) (atoms * searched_count tree_nodes) (is_searched tree_nodes n)
    none each (last_more tree_nodes n low) was

exact_first : (tree_nodes : List TreeNode) (atoms s : ℕ)
    → s + atoms * searched_count (take (length tree_nodes - 0) tree_nodes) ≡ s + atoms * searched_count tree_nodes
exact_first tree_nodes atoms s = ap (λ l. s + atoms * searched_count l) (take_all (length tree_nodes - 0) tree_nodes (omega arith))

exact_down : (tree_nodes : List TreeNode) (atoms a b s turn n : ℕ) → n + turn + 1 ≡ length tree_nodes
    → (is_searched tree_nodes n ≡ false → b ≡ a) → (is_searched tree_nodes n ≡ true → b ≡ a + atoms)
    → a + atoms * searched_count (take (length tree_nodes - turn) tree_nodes) ≡ s + atoms * searched_count tree_nodes
    → b + atoms * searched_count (take (length tree_nodes - (turn + 1)) tree_nodes) ≡ s + atoms * searched_count tree_nodes
exact_down tree_nodes atoms a b s turn n all none each was =
    let low : n < length tree_nodes = omega arith in
    let e : length tree_nodes - turn ≡ n + 1 = omega arith in
    let f : length tree_nodes - (turn + 1) ≡ n = omega arith in
    let before : a + atoms * searched_count (take (n + 1) tree_nodes) ≡ s + atoms * searched_count tree_nodes =
    subst (λ k. a + atoms * searched_count (take k tree_nodes) ≡ s + atoms * searched_count tree_nodes) e was in
    subst (λ k. b + atoms * searched_count (take k tree_nodes) ≡ s + atoms * searched_count tree_nodes) (sym f)
    (one_more atoms a b s (searched_count (take (n + 1) tree_nodes)) (searched_count (take n tree_nodes)) (atoms * searched_count tree_nodes) (is_searched tree_nodes n)
    none each (first_more tree_nodes n low) before)

none_left : (a atoms all : ℕ) → a + atoms * 0 ≡ all → a ≡ all
none_left a atoms all e = grind arith

-- all nodes are counted
all_up : (tree_nodes : List TreeNode) (atoms a s nodes n : ℕ) → nodes ≡ length tree_nodes → nodes ≤ n
    → a + atoms * searched_count (drop n tree_nodes) ≡ s + atoms * searched_count tree_nodes → a ≡ s + atoms * searched_count tree_nodes
all_up tree_nodes atoms a s nodes n e past was =
    none_left a atoms (s + atoms * searched_count tree_nodes)
    (sym (ap (λ l. a + atoms * searched_count l) (drop_all n tree_nodes (omega arith))) ∙ was)

all_down : (tree_nodes : List TreeNode) (atoms a s nodes n : ℕ) → nodes ≡ length tree_nodes → nodes ≤ n
    → a + atoms * searched_count (take (length tree_nodes - n) tree_nodes) ≡ s + atoms * searched_count tree_nodes → a ≡ s + atoms * searched_count tree_nodes
all_down tree_nodes atoms a s nodes n e past was =
    let none : length tree_nodes - n ≡ 0 = omega arith in
    none_left a atoms (s + atoms * searched_count tree_nodes) (sym (ap (λ k. a + atoms * searched_count (take k tree_nodes)) none) ∙ was)

pub no_more : (a b : ℕ) → a ≡ b → a ≤ b
no_more a b e = omega arith

-- the nodes that a pass has still to visit
abbrev pub left_nodes : Bool → ℕ → List TreeNode → List TreeNode
left_nodes true turn tree_nodes = drop turn tree_nodes
left_nodes false turn tree_nodes = take (length tree_nodes - turn) tree_nodes

pub exact_begun : (back : Bool) (tree_nodes : List TreeNode) (atoms s : ℕ) → s + atoms * searched_count (left_nodes back 0 tree_nodes) ≡ s + atoms * searched_count tree_nodes
exact_begun true tree_nodes atoms s = refl
exact_begun false tree_nodes atoms s = exact_first tree_nodes atoms s

pub exact_more : (back : Bool) (tree_nodes : List TreeNode) (atoms a b s turn : ℕ) → turn < length tree_nodes
    → (is_searched tree_nodes (visited_node back (length tree_nodes) turn) ≡ false → b ≡ a) → (is_searched tree_nodes (visited_node back (length tree_nodes) turn) ≡ true → b ≡ a + atoms)
    → a + atoms * searched_count (left_nodes back turn tree_nodes) ≡ s + atoms * searched_count tree_nodes
    → b + atoms * searched_count (left_nodes back (turn + 1) tree_nodes) ≡ s + atoms * searched_count tree_nodes
exact_more true tree_nodes atoms a b s turn low none each was = exact_up tree_nodes atoms a b s turn low none each was
exact_more false tree_nodes atoms a b s turn low none each was = exact_down tree_nodes atoms a b s turn (length tree_nodes - 1 - turn) (omega arith) none each was

pub all_counted : (back : Bool) (tree_nodes : List TreeNode) (atoms a s nodes n : ℕ) → nodes ≡ length tree_nodes → nodes ≤ n
    → a + atoms * searched_count (left_nodes back n tree_nodes) ≡ s + atoms * searched_count tree_nodes → a ≡ s + atoms * searched_count tree_nodes
all_counted true tree_nodes atoms a s nodes n e past was = all_up tree_nodes atoms a s nodes n e past was
all_counted false tree_nodes atoms a s nodes n e past was = all_down tree_nodes atoms a s nodes n e past was
