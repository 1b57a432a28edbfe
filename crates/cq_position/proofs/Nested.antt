-- Nested continuations come back from their nodes.
use Rattle.std.proofs.Common.{◌≡◌, ◌≢◌, ℕ, ◌+◌, ◌<◌, ◌≤◌, ◌⊎◌, inl, inr, ⊎_elim, Bool, true, false, cond, List, [], ◌∷◌, ◌++◌, length, Option, Some, None, refl, sym, ap, ap₂, ◌∙◌, arith, append_assoc, append-nil, length-append, eqb-true}
use Rattle.std.specs.Prelude.{◌==◌}
use Rattle.std.specs.List.{AllByRecursion}
use Rattle.std.proofs.lemmas.Bool.{false_from_ne_true, eq-eqb}
use Rattle.cq_position.specs.declared.moves.Move.{Move}
use Rattle.cq_position.specs.Games.{Node, is_number}
use Rattle.cq_position.specs.Continuations.{Continuations, none, played, size, node_of, nodes_from, with_move, continuations}

-- a node has another parent than this one, or none
pub IsElsewhere : ℕ → Node → Type 0
IsElsewhere parent n = is_number n.parent parent ≡ false

is_number_self : (o : Option ℕ) (p : ℕ) → o ≡ Some p → is_number o p ≡ true
is_number_self o p is = ap (λ x. is_number x p) is ∙ eq-eqb p p refl

pub is_number_other : (o : Option ℕ) (p q : ℕ) → o ≡ Some q → q ≢ p → is_number o p ≡ false
is_number_other o p q is differ = ap (λ x. is_number x p) is ∙ false_from_ne_true (q == p) (λ e. differ (eqb-true q p e))

skip_by : (t : Bool) (c d : Continuations) → t ≡ false → cond t c d ≡ d
skip_by true c d e = absurd cc
skip_by false c d e = refl

take_by : (t : Bool) (c d : Continuations) → t ≡ true → cond t c d ≡ c
take_by true c d e = refl
take_by false c d e = absurd cc

-- a node with another parent is passed over
pub passed_over : (parent k : ℕ) (n : Node) (ns : List Node) → IsElsewhere parent n → continuations parent k (n ∷ ns) ≡ continuations parent (k + 1) ns
unfolding continuations IsElsewhere
passed_over parent k n ns other = skip_by (is_number n.parent parent) (with_move n n.led_by (continuations k (k + 1) ns) (continuations parent (k + 1) ns)) (continuations parent (k + 1) ns) other

-- a node with this parent begins its continuations
pub taken : (parent k : ℕ) (n : Node) (ns : List Node) (m : Move) → n.parent ≡ Some parent → n.led_by ≡ Some m
    → continuations parent k (n ∷ ns) ≡ played (record { move = m; position = n.position; nags = n.nags; comments = n.comments }) (continuations k (k + 1) ns) (continuations parent (k + 1) ns)
unfolding continuations
taken parent k n ns m is led =
    take_by (is_number n.parent parent) (with_move n n.led_by (continuations k (k + 1) ns) (continuations parent (k + 1) ns)) (continuations parent (k + 1) ns) (is_number_self n.parent parent is)
    ∙ ap (λ o. with_move n o (continuations k (k + 1) ns) (continuations parent (k + 1) ns)) led

pub nothing_left : (parent k : ℕ) → continuations parent k [] ≡ none
unfolding continuations
nothing_left parent k = refl

pub skipped : (parent k : ℕ) (xs ys : List Node) → AllByRecursion (IsElsewhere parent) xs → continuations parent k (xs ++ ys) ≡ continuations parent (k + length xs) ys
skipped parent k [] ys all = ap (λ i. continuations parent i ys) (let e : k ≡ k + 0 = omega arith in e)
skipped parent k (x ∷ xs) ys all =
    passed_over parent k x (xs ++ ys) all.0
    ∙ skipped parent (k + 1) xs ys all.1
    ∙ ap (λ i. continuations parent i ys) (let e : k + 1 + length xs ≡ k + length (x ∷ xs) = omega arith in e)

pub none_of_them : (parent k : ℕ) (ys : List Node) → AllByRecursion (IsElsewhere parent) ys → continuations parent k ys ≡ none
none_of_them parent k ys all = ap (continuations parent k) (sym (append-nil ys)) ∙ skipped parent k ys [] all ∙ nothing_left parent (k + length ys)

all_append : (P : Node → Type 0) (xs ys : List Node) → AllByRecursion P xs → AllByRecursion P ys → AllByRecursion P (xs ++ ys)
all_append P [] ys a b = b
all_append P (x ∷ xs) ys a b = (a.0, all_append P xs ys a.1 b)

all_weaker : (P S : Node → Type 0) → ((n : Node) → P n → S n) → (xs : List Node) → AllByRecursion P xs → AllByRecursion S xs
all_weaker P S f [] all = tt
all_weaker P S f (x ∷ xs) all = (f x all.0, all_weaker P S f xs all.1)

pub length_nodes : (parent k : ℕ) (c : Continuations) → length (nodes_from parent k c) ≡ size c
unfolding nodes_from
length_nodes parent k none = refl
length_nodes parent k (played m next others) =
    let a = length-append (nodes_from k (k + 1) next) (nodes_from parent (k + 1 + size next) others) in
    let b = length_nodes k (k + 1) next in
    let c = length_nodes parent (k + 1 + size next) others in
    omega arith

-- the parent of a node is this one, or one of n nodes from number k on
pub record HasParentIn (parent k n : ℕ) (node : Node) : Type 0 where
  pub number : ℕ
  pub is : node.parent ≡ Some number
  pub within : (number ≡ parent) ⊎ ((k ≤ number) × (number < k + n))

parents_in : (parent k : ℕ) (c : Continuations) → AllByRecursion (HasParentIn parent k (size c)) (nodes_from parent k c)
unfolding nodes_from
parents_in parent k none = tt
parents_in parent k (played m next others) = (
  record { number = parent; is = refl; within = inl refl },
  all_append (HasParentIn parent k (1 + size next + size others)) (nodes_from k (k + 1) next) (nodes_from parent (k + 1 + size next) others)
      (all_weaker (HasParentIn k (k + 1) (size next)) (HasParentIn parent k (1 + size next + size others))
      (λ n h. record {
        number = h.number;
        is = h.is;
        within = ⊎_elim (λ is. inr (omega (arith, is), omega (arith, is)))
            (λ both. inr (omega (arith, both.0), omega (arith, both.1))) h.within;
      }) (nodes_from k (k + 1) next) (parents_in k (k + 1) next))
      (all_weaker (HasParentIn parent (k + 1 + size next) (size others)) (HasParentIn parent k (1 + size next + size others))
      (λ n h. record {
        number = h.number;
        is = h.is;
        within = ⊎_elim (λ is. inl is)
            (λ both. inr (omega (arith, both.0), omega (arith, both.1))) h.within;
      }) (nodes_from parent (k + 1 + size next) others)
      (parents_in parent (k + 1 + size next) others)),
)

-- none of these nodes follows a number that is neither their parent nor one of theirs
elsewhere : (of parent k : ℕ) (c : Continuations) → of ≢ parent → of < k → AllByRecursion (IsElsewhere of) (nodes_from parent k c)
unfolding IsElsewhere
elsewhere of parent k c other before =
    all_weaker (HasParentIn parent k (size c)) (IsElsewhere of)
    (λ n h. is_number_other n.parent of h.number h.is (⊎_elim (λ is same. other (sym same ∙ is)) (λ both same. omega (arith, both.0, same)) h.within))
    (nodes_from parent k c) (parents_in parent k c)

-- no parent among these: not this one, and none of n nodes from number k on
pub record IsOutside (parent k n : ℕ) (node : Node) : Type 0 where
  pub other : (q : ℕ) → node.parent ≡ Some q → (q ≢ parent) × ((q < k) ⊎ (k + n ≤ q))

pub by_parent : (of : ℕ) (n : Node) (o : Option ℕ) → n.parent ≡ o → ((q : ℕ) → o ≡ Some q → q ≢ of) → IsElsewhere of n
unfolding IsElsewhere
by_parent of n None is differ = ap (λ x. is_number x of) is
by_parent of n (Some q) is differ = is_number_other n.parent of q is (differ q refl)

-- the continuations that are read back from the nodes of continuations are these, whatever other nodes come after them
pub comes_back : (parent k : ℕ) (c : Continuations) (more : List Node) → parent < k → AllByRecursion (IsOutside parent k (size c)) more
    → continuations parent k (nodes_from parent k c ++ more) ≡ c
unfolding nodes_from
comes_back parent k none more before out = none_of_them parent k more
    (all_weaker (IsOutside parent k 0) (IsElsewhere parent) (λ n h. by_parent parent n n.parent refl (λ q is. (h.other q is).0)) more out)
comes_back parent k (played m next others) more before out =
    let inner = nodes_from k (k + 1) next in
    let outer = nodes_from parent (k + 1 + size next) others in
    let n = length_nodes k (k + 1) next in
    taken parent k (node_of parent m) ((inner ++ outer) ++ more) m.move refl refl
    ∙ ap₂ (λ x y. played m x y)
    (ap (continuations k (k + 1)) (append_assoc inner outer more)
    ∙ comes_back k (k + 1) next (outer ++ more) (omega arith)
    (all_append (IsOutside k (k + 1) (size next)) outer more
    (all_weaker (HasParentIn parent (k + 1 + size next) (size others)) (IsOutside k (k + 1) (size next))
    (λ x h. record {
      other = λ q is. let e : h.number ≡ q = some_is h.number q (sym h.is ∙ is) in
          ⊎_elim (λ at. (λ same. omega (arith, at, same, e, before), inl (omega (arith, at, e, before)))) (λ both. (λ same. omega (arith, both.0, same, e), inr (omega (arith, both.0, e)))) h.within;
    }) outer (parents_in parent (k + 1 + size next) others))
    (all_weaker (IsOutside parent k (1 + size next + size others)) (IsOutside k (k + 1) (size next))
    (λ x h. record {
      other = λ q is. ⊎_elim (λ low. (λ same. omega (arith, low, same), inl (omega (arith, low))))
          (λ high. (λ same. omega (arith, high, same), inr (omega (arith, high)))) (h.other q is).1;
    }) more out)))
    (ap (continuations parent (k + 1)) (append_assoc inner outer more)
    ∙ skipped parent (k + 1) inner (outer ++ more) (elsewhere parent k (k + 1) next (λ is. omega (arith, is)) (omega arith))
    ∙ ap (λ i. continuations parent i (outer ++ more)) (let e : k + 1 + length inner ≡ k + 1 + size next = omega arith in e)
    ∙ comes_back parent (k + 1 + size next) others more (omega arith)
    (all_weaker (IsOutside parent k (1 + size next + size others)) (IsOutside parent (k + 1 + size next) (size others))
    (λ x h. record { other = λ q is. ((h.other q is).0, ⊎_elim (λ low. inl (omega (arith, low))) (λ high. inr (omega (arith, high))) (h.other q is).1) }) more out))
  where
    some_is : (p q : ℕ) → Some p ≡ Some q → p ≡ q
    some_is p q e = cc

-- the continuations of a game are those that made its nodes
pub continuations_back : (c : Continuations) → continuations 0 1 (nodes_from 0 1 c) ≡ c
continuations_back c = ap (continuations 0 1) (sym (append-nil (nodes_from 0 1 c))) ∙ comes_back 0 1 c [] (omega arith) tt
