-- The nodes of a tree in preorder are those of its continuations.
use Rattle.std.proofs.Common.{◌≡◌, ◌≢◌, ℕ, zero, suc, ◌+◌, ◌-◌, ◌<◌, ◌≤◌, List, [], ◌∷◌, ◌++◌, length, Option, Some, None, refl, sym, ap, ap₂, ◌∙◌, subst, arith, append_assoc, append-nil, length-append}
use Rattle.std.specs.List.{AllByRecursion}
use Rattle.std.proofs.Math.Seq.{get_or-append_seam}
use Rattle.cq_position.specs.declared.moves.Move.{Move}
use Rattle.cq_position.specs.Games.{Node, no_node, node_at, up_from, way_up, IsTree}
use Rattle.cq_position.specs.Continuations.{Played, none, size, node_of, nodes_from, continuations}
use Rattle.cq_position.proofs.Ancestors.{AreParentsFirst, way_step, way_head, way_root, reaches}
use Rattle.cq_position.proofs.Trees.{tree_first}
use Rattle.cq_position.proofs.Nested.{passed_over, taken, nothing_left, by_parent}

-- numbers that fall, all of them below k
pub Falls : ℕ → List ℕ → Type 0
Falls k [] = Unit {0}
Falls k (p ∷ ps) = (p < k) × Falls p ps

-- Nodes numbered from k on, where the node before them has this way up: each hangs on a node of the way up from the node before it.
pub Hangs : List ℕ → ℕ → List Node → Type 0
Hangs way k [] = Unit {0}
Hangs way k (n ∷ ns) = (before : List ℕ) × (p : ℕ) × (above : List ℕ) × (m : Move) × (way ≡ before ++ p ∷ above) × (n.parent ≡ Some p) × (n.led_by ≡ Some m) × Hangs (k ∷ p ∷ above) (k + 1) ns

-- the continuations of the nodes of a way, one after another
pub laid : List ℕ → ℕ → List Node → ℕ → List Node
laid [] k ns at = []
laid (p ∷ ps) k ns at = nodes_from p at (continuations p k ns) ++ laid ps k ns (at + size (continuations p k ns))

falls_from : (k : ℕ) (before : List ℕ) (p : ℕ) (above : List ℕ) → Falls k (before ++ p ∷ above) → Falls k (p ∷ above)
unfolding Falls
falls_from k [] p above falls = falls
falls_from k (q ∷ qs) p above falls =
    let rest = falls_from q qs p above falls.1 in
    (omega (arith, rest.0, falls.0), rest.1)

-- a number that is above all of a way is none of it
not_in : (k q : ℕ) (way : List ℕ) → Falls k way → k ≤ q → AllByRecursion (λ p. p ≢ q) way
unfolding Falls
not_in k q [] falls less = tt
not_in k q (p ∷ ps) falls less = ((λ same. omega (arith, same, falls.0, less)), not_in p q ps falls.1 (omega (arith, falls.0, less)))

last_of : (P : ℕ → Type 0) (before : List ℕ) (p : ℕ) (above : List ℕ) → AllByRecursion P (before ++ p ∷ above) → AllByRecursion P (p ∷ above)
last_of P [] p above all = all
last_of P (q ∷ qs) p above all = last_of P qs p above all.1

-- no later node hangs on a number that isn't on the way
absent : (q k : ℕ) (way : List ℕ) (ns : List Node) → q < k → AllByRecursion (λ p. p ≢ q) way → Hangs way k ns → continuations q k ns ≡ none
unfolding Hangs
absent q k way [] less out hangs = nothing_left q k
absent q k way (n ∷ ns) less out (before, p, above, m, way_is, parent, led, later) =
    let here = last_of (λ x. x ≢ q) before p above (subst (AllByRecursion (λ x. x ≢ q)) way_is out) in
    passed_over q k n ns (by_parent q n (Some p) parent (λ r is same. here.0 (let e : p ≡ r = cc in e ∙ same)))
    ∙ absent q (k + 1) (k ∷ p ∷ above) ns (omega (arith, less)) ((λ same. omega (arith, same, less)), here) later

no_nodes : (parent k : ℕ) → nodes_from parent k none ≡ []
unfolding nodes_from
no_nodes parent k = refl

laid_none : (way : List ℕ) (k at : ℕ) → laid way k [] at ≡ []
unfolding laid
laid_none [] k at = refl
laid_none (p ∷ ps) k at =
    ap₂ (λ c rest. nodes_from p at c ++ rest) (nothing_left p k) (laid_none ps k (at + size (continuations p k [])))
    ∙ ap (λ l. l ++ []) (no_nodes p at)

-- nodes of which none hangs on these lay nothing
laid_skips : (before way : List ℕ) (k : ℕ) (ns : List Node) (at : ℕ) → AllByRecursion (λ q. continuations q k ns ≡ none) before → laid (before ++ way) k ns at ≡ laid way k ns at
unfolding laid
laid_skips [] way k ns at all = refl
laid_skips (q ∷ qs) way k ns at all =
    ap (λ c. nodes_from q at c ++ laid (qs ++ way) k ns (at + size c)) all.0
    ∙ ap (λ l. l ++ laid (qs ++ way) k ns (at + 0)) (no_nodes q at)
    ∙ ap (laid (qs ++ way) k ns) (let e : at + 0 ≡ at = omega arith in e)
    ∙ laid_skips qs way k ns at all.1

laid_same : (way : List ℕ) (k j : ℕ) (ns ms : List Node) (at : ℕ) → AllByRecursion (λ q. continuations q k ns ≡ continuations q j ms) way → laid way k ns at ≡ laid way j ms at
unfolding laid
laid_same [] k j ns ms at all = refl
laid_same (q ∷ qs) k j ns ms at all =
    ap (λ c. nodes_from q at c ++ laid qs k ns (at + size c)) all.0
    ∙ ap (λ l. nodes_from q at (continuations q j ms) ++ l) (laid_same qs k j ns ms (at + size (continuations q j ms)) all.1)

-- the way before a number, and the way above it
before_skips : (k p : ℕ) (before above : List ℕ) (n : Node) (ns : List Node) (m : Move) (i : ℕ) → i ≤ k → Falls i (before ++ p ∷ above) → n.parent ≡ Some p → Hangs (k ∷ p ∷ above) (k + 1) ns
    → AllByRecursion (λ q. continuations q k (n ∷ ns) ≡ none) before
unfolding Falls
before_skips k p [] above n ns m i less falls parent later = tt
before_skips k p (q ∷ qs) above n ns m i less falls parent later =
    let rest = falls_from q qs p above falls.1 in (
      passed_over q k n ns (by_parent q n (Some p) parent (λ r is same. let e : p ≡ r = cc in omega (arith, e, same, rest.0)))
          ∙ absent q (k + 1) (k ∷ p ∷ above) ns (omega (arith, falls.0, less))
          ((λ same. omega (arith, same, falls.0, less)), ((λ same. omega (arith, same, rest.0)), not_in p q above rest.1 (omega (arith, rest.0)))) later,
      before_skips k p qs above n ns m q (omega (arith, falls.0, less)) falls.1 parent later,
    )

above_same : (k p : ℕ) (above : List ℕ) (n : Node) (ns : List Node) (i : ℕ) → i ≤ p → Falls i above → n.parent ≡ Some p
    → AllByRecursion (λ q. continuations q k (n ∷ ns) ≡ continuations q (k + 1) ns) above
unfolding Falls
above_same k p [] n ns i less falls parent = tt
above_same k p (q ∷ qs) n ns i less falls parent = (
  passed_over q k n ns (by_parent q n (Some p) parent (λ r is same. let e : p ≡ r = cc in omega (arith, e, same, falls.0, less))),
  above_same k p qs n ns q (omega (arith, falls.0, less)) falls.1 parent,
)

node_is : (p : ℕ) (n : Node) (m : Move) → n.parent ≡ Some p → n.led_by ≡ Some m → node_of p (record { move = m; position = n.position; nags = n.nags; comments = n.comments }) ≡ n
node_is p n m parent led = ap₂ (λ a b. record { parent = a; led_by = b; position = n.position; nags = n.nags; comments = n.comments }) (sym parent) (sym led)

-- the nodes after a way are what is laid by it
pub all_laid : (way : List ℕ) (k : ℕ) (ns : List Node) → Falls k way → Hangs way k ns → laid way k ns k ≡ ns
unfolding Hangs Falls laid nodes_from
all_laid way k [] falls hangs = laid_none way k k
all_laid way k (n ∷ ns) falls (before, p, above, m, way_is, parent, led, later) =
    let known = subst (Falls k) way_is falls in
    let here = falls_from k before p above known in
    let move : Played = record { move = m; position = n.position; nags = n.nags; comments = n.comments } in
    let inner = continuations k (k + 1) ns in
    let outer = continuations p (k + 1) ns in
    let after = k + (1 + size inner + size outer) in
    ap (λ w. laid w k (n ∷ ns) k) way_is
    ∙ laid_skips before (p ∷ above) k (n ∷ ns) k (before_skips k p before above n ns m k (omega arith) known parent later)
    ∙ ap (λ c. nodes_from p k c ++ laid above k (n ∷ ns) (k + size c)) (taken p k n ns m parent led)
    ∙ ap (λ x. x ∷ ((nodes_from k (k + 1) inner ++ nodes_from p (k + 1 + size inner) outer) ++ laid above k (n ∷ ns) after)) (node_is p n m parent led)
    ∙ ap (λ l. n ∷ l)
    (append_assoc (nodes_from k (k + 1) inner) (nodes_from p (k + 1 + size inner) outer) (laid above k (n ∷ ns) after)
    ∙ ap (λ l. nodes_from k (k + 1) inner ++ (nodes_from p (k + 1 + size inner) outer ++ l))
    (laid_same above k (k + 1) (n ∷ ns) ns after (above_same k p above n ns p (omega arith) here.1 parent)
    ∙ ap (laid above (k + 1) ns) (let e : after ≡ k + 1 + size inner + size outer = omega arith in e))
    ∙ all_laid (k ∷ p ∷ above) (k + 1) ns (omega arith, here) later)

-- the way up falls
up_falls : (nodes : List Node) → AreParentsFirst nodes → (i k : ℕ) (o : Option ℕ) → ((n : ℕ) → o ≡ Some n → n < k) → Falls k (up_from i nodes o)
unfolding Falls
up_falls nodes first zero k o less = tt
up_falls nodes first (suc i) k None less = tt
up_falls nodes first (suc i) k (Some n) less = (less n refl, up_falls nodes first i n (node_at nodes n).parent (λ p is. first.before n p is))

way_falls : (nodes : List Node) → AreParentsFirst nodes → (n k : ℕ) → n < k → Falls k (way_up nodes n)
unfolding way_up
way_falls nodes first n k less = up_falls nodes first (n + 1) k (Some n) (λ m is. let e : n ≡ m = cc in omega (arith, e, less))

-- the later nodes of a tree hang on the way up from the node before them
pub tree_hangs : (xs ns : List Node) → 0 < length xs → IsTree (xs ++ ns) → Hangs (way_up (xs ++ ns) (length xs - 1)) (length xs) ns
unfolding Hangs
tree_hangs xs [] some_ tree = tt
tree_hangs xs (n ∷ ns) some_ tree =
    let nodes = xs ++ n ∷ ns in
    let k = length xs in
    let len = length-append xs (n ∷ ns) in
    let child = tree.children k some_ (omega (arith, len)) in
    let here : node_at nodes k ≡ n = get_or-append_seam xs n ns no_node in
    let first = tree_first nodes tree in
    let r = reaches nodes first (k - 1) child.number child.preorder in
    let split : xs ++ n ∷ ns ≡ (xs ++ n ∷ []) ++ ns = sym (append_assoc xs (n ∷ []) ns) in
    let more = length-append xs (n ∷ []) in
    let rest = tree_hangs (xs ++ n ∷ []) ns (omega (arith, more)) (subst IsTree split tree) in
    let above = up_from child.number nodes (node_at nodes child.number).parent in
    let up : way_up nodes k ≡ k ∷ child.number ∷ above = way_step nodes first k child.number child.parent ∙ ap (λ l. k ∷ l) (way_head nodes first child.number) in (
      r.before,
      child.number,
      above,
      child.move,
      r.is ∙ ap (λ l. r.before ++ l) (way_head nodes first child.number),
      ap (λ x. x.parent) (sym here) ∙ child.parent,
      ap (λ x. x.led_by) (sym here) ∙ child.led_by,
      subst (λ w. Hangs w (k + 1) ns) up
          (subst (λ j. Hangs (way_up nodes j) (k + 1) ns) (let e : length (xs ++ n ∷ []) - 1 ≡ k = omega (arith, more) in e)
          (subst (λ l. Hangs (way_up l (length (xs ++ n ∷ []) - 1)) (k + 1) ns) (sym split)
          (subst (λ j. Hangs (way_up ((xs ++ n ∷ []) ++ ns) (length (xs ++ n ∷ []) - 1)) j ns) more rest))),
    )

-- The nodes of a tree after the root are those of its continuations.
pub nodes_back : (root : Node) (ns : List Node) → IsTree (root ∷ ns) → nodes_from 0 1 (continuations 0 1 ns) ≡ ns
unfolding laid Falls
nodes_back root ns tree =
    let first = tree_first (root ∷ ns) tree in
    let way : way_up (root ∷ ns) 0 ≡ 0 ∷ [] = way_root (root ∷ ns) first 0 tree.root.parent in
    sym (append-nil (nodes_from 0 1 (continuations 0 1 ns)))
    ∙ all_laid (0 ∷ []) 1 ns (omega arith, tt) (subst (λ w. Hangs w 1 ns) way (tree_hangs (root ∷ []) ns (omega arith) tree))
