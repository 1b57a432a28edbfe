-- The way up from a node, its children one by one, and the nodes below it.
use Rattle.std.proofs.Common.{◌≡◌, ℕ, zero, suc, ◌+◌, ◌-◌, ◌<◌, ◌≤◌, Bool, true, false, ◌&&◌, ◌||◌, nat_lt, List, [], ◌∷◌, ◌++◌, length, cond, Option, Some, None, refl, sym, ap, ap₂, ◌∙◌, subst, arith, append_assoc, append-nil, map, eqb-true, ltb-true as ltb_holds, get_or, take, count_by}
use Rattle.std.specs.Prelude.{option_to_list, ◌==◌, IfSome, All, if◌then◌else◌, Contains}
use Rattle.std.specs.List.{filter, find, range_with_len, list_any}
use Rattle.std.proofs.lemmas.Bool.{lt-ltb, le-ltb}
use Rattle.std.proofs.lemmas.List.FromFn.{length-range_with_len, get_or-range_with_len, map-range_with_len_more}
use Rattle.pgn_tree.proofs.MainLine.{filter_more}
use Rattle.std.proofs.lemmas.List.Elements.{All-weaker, All-contains_itself, All-filter}
use Rattle.std.proofs.lemmas.List.Sums.{sum_by_more}
use Rattle.cq_position.specs.Games.{Node, node_at, way_up, up_from, is_below, is_child_of, is_number, children, first_child, next_sibling, is_later_sibling, is_searched, numbers, searched, IsTree}
use Rattle.cq_position.specs.Search.{begins_variation}
use Rattle.cq_position.proofs.Ancestors.{way_head, reaches}
use Rattle.cq_position.proofs.Trees.{tree_first}
use Rattle.cq_position.proofs.WaysUp.{way_from, way_on}
use Rattle.cql_values.proofs.Ranges.{left, right}

abbrev pub left_up : Option ℕ → ℕ
left_up None = 0
left_up (Some n) = n + 1

pub way_more : (nodes : List Node) (way : List ℕ) (m : ℕ) (o : Option ℕ) (whole : List ℕ) → IsTree nodes → o ≡ (node_at nodes m).parent
    → way ++ way_up nodes m ≡ whole → (way ++ m ∷ []) ++ way_from nodes o ≡ whole
way_more nodes way m o whole tree is e = append_assoc way (m ∷ []) (way_from nodes o) ∙ ap (λ l. way ++ l) (sym (way_on nodes m o tree (sym is))) ∙ e

-- all of the way are nodes
pub way_inside : (nodes : List Node) (n : ℕ) → IsTree nodes → n < length nodes → All (λ m. m < length nodes) (way_up nodes n)
way_inside nodes n tree h =
    All-weaker (Contains (way_up nodes n)) (λ m. m < length nodes)
    (λ m on. let r = reaches nodes (tree_first nodes tree) n m on in omega (arith, r.less, h)) (way_up nodes n) (All-contains_itself (way_up nodes n))

in_numbers : (a n : ℕ) → All (λ k. (a ≤ k) × (k < a + n)) (range_with_len a n)
in_numbers a n = λ k d h.
    let low : k < n = omega (arith, h, length-range_with_len a n) in
    let at = get_or-range_with_len a n k d low in
    (omega (arith, at), omega (arith, at, low))

pub numbers_inside : (nodes : List Node) → All (λ m. m < length nodes) (numbers nodes)
numbers_inside nodes = All-weaker (λ k. (0 ≤ k) × (k < 0 + length nodes)) (λ m. m < length nodes) (λ k h. omega (arith, h.1)) (numbers nodes) (in_numbers 0 (length nodes))

pub children_inside : (nodes : List Node) (variations : Bool) (n : ℕ) → All (λ m. m < length nodes) (filter (is_searched variations nodes) (children nodes n))
unfolding children
children_inside nodes variations n =
    All-filter (is_searched variations nodes) (λ m. m < length nodes) (filter (is_child_of nodes n) (numbers nodes))
    (All-filter (is_child_of nodes n) (λ m. m < length nodes) (numbers nodes) (numbers_inside nodes))

pub below_inside : (nodes : List Node) (variations : Bool) (n : ℕ) → All (λ m. m < length nodes) (filter (is_below nodes n) (searched variations nodes))
unfolding searched
below_inside nodes variations n =
    All-filter (is_below nodes n) (λ m. m < length nodes) (filter (is_searched variations nodes) (numbers nodes))
    (All-filter (is_searched variations nodes) (λ m. m < length nodes) (numbers nodes) (numbers_inside nodes))

-- tests that agree on a range
same_filter : (p q : ℕ → Bool) (a n : ℕ) → ((k : ℕ) → a ≤ k → p k ≡ q k) → filter p (range_with_len a n) ≡ filter q (range_with_len a n)
same_filter p q a zero same = refl
same_filter p q a (suc n) same =
    ap₂ (λ b l. cond b (a ∷ l) l) (same a (omega arith)) (same_filter p q (a + 1) n (λ k h. same k (omega (arith, h))))

-- the first that passes, and those after it
abbrev after : (ℕ → Bool) → ℕ → ℕ → Option ℕ → List ℕ
after p a n None = []
after p a n (Some c) = c ∷ filter (λ k. nat_lt c k && p k) (range_with_len a n)

later_only : (p : ℕ → Bool) (a k : ℕ) → a + 1 ≤ k → p k ≡ (nat_lt a k && p k)
later_only p a k h = let less : a < k = omega (arith, h) in rw (lt-ltb a k less) refl

not_self : (p : ℕ → Bool) (a n : ℕ) → filter (λ k. nat_lt a k && p k) (range_with_len a (suc n)) ≡ filter (λ k. nat_lt a k && p k) (range_with_len (a + 1) n)
not_self p a n = let self : a ≤ a = omega arith in ap (λ b. cond (b && p a) (a ∷ filter (λ k. nat_lt a k && p k) (range_with_len (a + 1) n))
    (filter (λ k. nat_lt a k && p k) (range_with_len (a + 1) n))) (le-ltb a a self)

skips : (p : ℕ → Bool) (a n : ℕ) (o : Option ℕ) → p a ≡ false → after p (a + 1) n o ≡ after p a (suc n) o
skips p a n None e = refl
skips p a n (Some c) e =
    ap (λ l. c ∷ l) (sym (ap (λ b. cond b (a ∷ filter (λ k. nat_lt c k && p k) (range_with_len (a + 1) n)) (filter (λ k. nat_lt c k && p k) (range_with_len (a + 1) n)))
    (ap (λ b. nat_lt c a && b) e ∙ and_false (nat_lt c a))))
  where
    and_false : (b : Bool) → (b && false) ≡ false
    and_false true = refl
    and_false false = refl

filter_by : (p : ℕ → Bool) (a n : ℕ) (b : Bool) → p a ≡ b → filter p (range_with_len (a + 1) n) ≡ after p (a + 1) n (find p (range_with_len (a + 1) n))
    → cond b (a ∷ filter p (range_with_len (a + 1) n)) (filter p (range_with_len (a + 1) n)) ≡ after p a (suc n) (cond b (Some a) (find p (range_with_len (a + 1) n)))
filter_by p a n true e ih = ap (λ l. a ∷ l) (same_filter p (λ k. nat_lt a k && p k) (a + 1) n (later_only p a) ∙ sym (not_self p a n))
filter_by p a n false e ih = ih ∙ skips p a n (find p (range_with_len (a + 1) n)) e

filter_is : (p : ℕ → Bool) (a n : ℕ) → filter p (range_with_len a n) ≡ after p a n (find p (range_with_len a n))
filter_is p a zero = refl
filter_is p a (suc n) = filter_by p a n (p a) refl (filter_is p (a + 1) n)

-- the children from one on
abbrev pub children_from : List Node → ℕ → Option ℕ → List ℕ
children_from nodes n None = []
children_from nodes n (Some c) = c ∷ filter (λ k. nat_lt c k && is_child_of nodes n k) (numbers nodes)

as_after : (nodes : List Node) (n : ℕ) (o : Option ℕ) → after (is_child_of nodes n) 0 (length nodes) o ≡ children_from nodes n o
as_after nodes n None = refl
as_after nodes n (Some c) = refl

pub all_children : (nodes : List Node) (n : ℕ) → children nodes n ≡ children_from nodes n (first_child nodes n)
unfolding children first_child
all_children nodes n = filter_is (is_child_of nodes n) 0 (length nodes) ∙ as_after nodes n (find (is_child_of nodes n) (numbers nodes))

found_by : (p : ℕ → Bool) (c a m d : ℕ) (b : Bool) → (nat_lt c a && p a) ≡ b → (find (λ k. nat_lt c k && p k) (range_with_len (a + 1) m) ≡ Some d → c < d)
    → cond b (Some a) (find (λ k. nat_lt c k && p k) (range_with_len (a + 1) m)) ≡ Some d → c < d
found_by p c a m d true t rest f = let same : a ≡ d = cc in omega (arith, same, ltb_holds c a (left (nat_lt c a) (p a) t))
found_by p c a m d false t rest f = rest f

found_after : (p : ℕ → Bool) (c a m d : ℕ) → find (λ k. nat_lt c k && p k) (range_with_len a m) ≡ Some d → c < d
found_after p c a zero d e = absurd (cc)
found_after p c a (suc m) d e = found_by p c a m d (nat_lt c a && p a) refl (found_after p c (a + 1) m d) e

both_after : (x y z : Bool) → (x ≡ true → y ≡ true) → (x && (y && z)) ≡ (x && z)
both_after true y z h = ap (λ b. b && z) (h refl)
both_after false y z h = refl

-- the children after one of them
next_children : (nodes : List Node) (n c : ℕ) (o : Option ℕ) → find (λ k. nat_lt c k && is_child_of nodes n k) (numbers nodes) ≡ o
    → filter (λ k. nat_lt c k && is_child_of nodes n k) (numbers nodes) ≡ children_from nodes n o
next_children nodes n c None e = filter_is (λ k. nat_lt c k && is_child_of nodes n k) 0 (length nodes) ∙ ap (after (λ k. nat_lt c k && is_child_of nodes n k) 0 (length nodes)) e
next_children nodes n c (Some d) e =
    let below = found_after (is_child_of nodes n) c 0 (length nodes) d e in
    filter_is (λ k. nat_lt c k && is_child_of nodes n k) 0 (length nodes) ∙ ap (after (λ k. nat_lt c k && is_child_of nodes n k) 0 (length nodes)) e
    ∙ ap (λ l. d ∷ l) (same_filter (λ k. nat_lt d k && (nat_lt c k && is_child_of nodes n k)) (λ k. nat_lt d k && is_child_of nodes n k) 0 (length nodes)
    (λ k h. both_after (nat_lt d k) (nat_lt c k) (is_child_of nodes n k) (λ t. let more = ltb_holds d k t in lt-ltb c k (omega (arith, below, more)))))

pub child_next : (nodes : List Node) (n c : ℕ) (o : Option ℕ) → (node_at nodes c).parent ≡ Some n → o ≡ next_sibling nodes c → children_from nodes n (Some c) ≡ c ∷ children_from nodes n o
unfolding next_sibling
child_next nodes n c o parent is = ap (λ l. c ∷ l) (next_children nodes n c o (sym (is ∙ ap (λ p. find (is_later_sibling nodes p c) (numbers nodes)) parent)))

abbrev pub left_down : ℕ → Option ℕ → ℕ
left_down count None = 0
left_down count (Some c) = count - c

kept_after : (y : ℕ) (b : Bool) (xs ys zs : List ℕ) → xs ≡ ys ++ zs → cond b (y ∷ xs) xs ≡ cond b (y ∷ ys) ys ++ zs
kept_after y true xs ys zs e = ap (λ l. y ∷ l) e
kept_after y false xs ys zs e = e

filter_snoc : (p : ℕ → Bool) (xs : List ℕ) (x : ℕ) → filter p (xs ++ x ∷ []) ≡ filter p xs ++ cond (p x) (x ∷ []) []
filter_snoc p [] x = refl
filter_snoc p (y ∷ xs) x = kept_after y (p y) (filter p (xs ++ x ∷ [])) (filter p xs) (cond (p x) (x ∷ []) []) (filter_snoc p xs x)

-- one node more that is searched and below another
pub below_more : (nodes : List Node) (variations : Bool) (n k : ℕ) (flags new_flags : List Bool) (found new_found : List ℕ) (below there : Bool)
    → below ≡ is_below nodes n k → there ≡ (is_searched variations nodes k && below)
    → flags ≡ map (is_below nodes n) (range_with_len 0 k) → found ≡ filter (is_below nodes n) (filter (is_searched variations nodes) (range_with_len 0 k))
    → new_flags ≡ flags ++ below ∷ [] → new_found ≡ found ++ (if there then k ∷ [] else [])
    → (new_flags ≡ map (is_below nodes n) (range_with_len 0 (k + 1))) × (new_found ≡ filter (is_below nodes n) (filter (is_searched variations nodes) (range_with_len 0 (k + 1))))
below_more nodes variations n k flags new_flags found new_found below there is both had_flags had_found more_flags more_found = (
  more_flags ∙ ap (λ l. l ++ below ∷ []) had_flags ∙ ap (λ b. map (is_below nodes n) (range_with_len 0 k) ++ b ∷ []) is ∙ sym (map-range_with_len_more (is_below nodes n) 0 k k (omega arith)),
  more_found ∙ ap (λ l. l ++ (if there then k ∷ [] else [])) had_found
      ∙ ap (λ b. filter (is_below nodes n) (filter (is_searched variations nodes) (range_with_len 0 k)) ++ (if b then k ∷ [] else [])) (both ∙ ap (λ b. is_searched variations nodes k && b) is)
      ∙ sym (ap (filter (is_below nodes n)) (filter_more (is_searched variations nodes) k) ∙ last (is_searched variations nodes k) (filter (is_searched variations nodes) (range_with_len 0 k))),
)
  where
    last : (s : Bool) (xs : List ℕ) → filter (is_below nodes n) (xs ++ cond s (k ∷ []) []) ≡ filter (is_below nodes n) xs ++ (if (s && is_below nodes n k) then k ∷ [] else [])
    last true xs = filter_snoc (is_below nodes n) xs k
    last false xs = ap (filter (is_below nodes n)) (append-nil xs) ∙ sym (append-nil (filter (is_below nodes n) xs))

-- a parent is a node
pub within_up : (nodes : List Node) (m : ℕ) (o : Option ℕ) → IsTree nodes → o ≡ (node_at nodes m).parent → m < length nodes → IfSome o (λ p. p < length nodes)
within_up nodes m None tree is h = tt
within_up nodes m (Some p) tree is h = let less = (tree_first nodes tree).before m p (sym is) in omega (arith, less, h)

-- the number of nodes on the way up is at most the number of steps
up_length : (i : ℕ) (nodes : List Node) (o : Option ℕ) → length (up_from i nodes o) ≤ i
up_length zero nodes o = omega arith
up_length (suc i) nodes None = omega arith
up_length (suc i) nodes (Some n) = let rest = up_length i nodes (node_at nodes n).parent in omega (arith, rest)

pub record HasFew (way : List ℕ) : Type 0 where
  pub some_ : 1 ≤ length way
  pub few : length way ≤ 65536

way_few : (nodes : List Node) (n : ℕ) → IsTree nodes → n < length nodes → length (way_up nodes n) ≤ 65536
unfolding way_up
way_few nodes n tree h = let most = up_length (n + 1) nodes (Some n) in omega (arith, most, tree.few, h)

pub way_length : (nodes : List Node) (n : ℕ) (way : List ℕ) → IsTree nodes → n < length nodes → way ≡ way_up nodes n → HasFew way
way_length nodes n way tree h is =
    let head = ap length (is ∙ way_head nodes (tree_first nodes tree) n) in
    let few = way_few nodes n tree h in
    let same = ap length is in
    record { some_ = omega (arith, head); few = omega (arith, few, same) }

-- the number that a search finds passes the test
find_passes_by : (p : ℕ → Bool) (x c : ℕ) (b : Bool) (rest : Option ℕ) → p x ≡ b → (rest ≡ Some c → p c ≡ true) → cond b (Some x) rest ≡ Some c → p c ≡ true
find_passes_by p x c true rest is later e = let same : x ≡ c = cc in sym (ap p same) ∙ is
find_passes_by p x c false rest is later e = later e

find_passes : (p : ℕ → Bool) (xs : List ℕ) (c : ℕ) → find p xs ≡ Some c → p c ≡ true
find_passes p [] c e = absurd (cc)
find_passes p (x ∷ xs) c e = find_passes_by p x c (p x) (find p xs) refl (find_passes p xs c) e

number_is : (o : Option ℕ) (n : ℕ) → is_number o n ≡ true → o ≡ Some n
number_is None n e = cc
number_is (Some m) n e = ap Some (eqb-true m n e)

pub parent_of_first : (nodes : List Node) (n : ℕ) (o : Option ℕ) → o ≡ first_child nodes n → IfSome o (λ c. (node_at nodes c).parent ≡ Some n)
unfolding first_child
parent_of_first nodes n None is = tt
parent_of_first nodes n (Some c) is = number_is (node_at nodes c).parent n (find_passes (is_child_of nodes n) (numbers nodes) c (sym is))

pub parent_of_next : (nodes : List Node) (n c : ℕ) (o : Option ℕ) → (node_at nodes c).parent ≡ Some n → o ≡ next_sibling nodes c → IfSome o (λ d. (node_at nodes d).parent ≡ Some n)
unfolding next_sibling
parent_of_next nodes n c None parent is = tt
parent_of_next nodes n c (Some d) parent is =
    let found : find (is_later_sibling nodes (Some n) c) (numbers nodes) ≡ Some d = ap (λ p. find (is_later_sibling nodes p c) (numbers nodes)) (sym parent) ∙ sym is in
    number_is (node_at nodes d).parent n (right (nat_lt c d) (is_child_of nodes n d) (find_passes (is_later_sibling nodes (Some n) c) (numbers nodes) d found))

pub inside_of : (o : Option ℕ) (k count : ℕ) → IfSome o (λ s. (k < s) × (s < count)) → IfSome o (λ s. s < count)
inside_of None k count h = tt
inside_of (Some s) k count h = h.1

-- one child more, if it is searched
kept_one : (b : Bool) (c : ℕ) (found rest : List ℕ) → (found ++ (if b then c ∷ [] else [])) ++ rest ≡ found ++ cond b (c ∷ rest) rest
kept_one true c found rest = append_assoc found (c ∷ []) rest
kept_one false c found rest = ap (λ l. l ++ rest) (append-nil found)

pub children_more : (nodes : List Node) (variations : Bool) (n c : ℕ) (o : Option ℕ) (found new_found whole : List ℕ) (there : Bool)
    → (node_at nodes c).parent ≡ Some n → o ≡ next_sibling nodes c → there ≡ is_searched variations nodes c → new_found ≡ found ++ (if there then c ∷ [] else [])
    → found ++ filter (is_searched variations nodes) (children_from nodes n (Some c)) ≡ whole → new_found ++ filter (is_searched variations nodes) (children_from nodes n o) ≡ whole
children_more nodes variations n c o found new_found whole there parent is searched_ more had =
    let test = is_searched variations nodes in
    let rest = filter test (children_from nodes n o) in
    ap (λ l. l ++ rest) more ∙ kept_one there c found rest ∙ ap (λ b. found ++ cond b (c ∷ rest) rest) searched_
    ∙ sym (ap (λ l. found ++ filter test l) (child_next nodes n c o parent is)) ∙ had

-- a node on the way up, and those of them that begin variations
pub on_way : (nodes : List Node) (n k d : ℕ) (way : List ℕ) → IsTree nodes → n < length nodes → way ≡ way_up nodes n → k < length way → get_or way k d < length nodes
on_way nodes n k d way tree h is low = subst (All (λ m. m < length nodes)) (sym is) (way_inside nodes n tree h) k d low

pub counted_more : (nodes : List Node) (way : List ℕ) (k d count one : ℕ) → k < length way → one ≡ (if begins_variation nodes (get_or way k d) then 1 else 0)
    → count ≡ count_by (begins_variation nodes) (take k way) → count + one ≡ count_by (begins_variation nodes) (take (k + 1) way)
counted_more nodes way k d count one h is had =
    ap₂ (λ a b. a + b) had is ∙ sym (sum_by_more (λ m. cond (begins_variation nodes m) 1 0) way k d h)

-- a parent is a node, if there is one
one_inside : (count : ℕ) (o : Option ℕ) → IfSome o (λ m. m < count) → All (λ m. m < count) (option_to_list o)
one_inside count None h = λ k d low. absurd (omega (arith, low))
one_inside count (Some m) h = λ k d low. let first : k ≡ 0 = omega (arith, low) in subst (λ i. get_or (m ∷ []) i d < count) (sym first) h

pub parent_inside : (nodes : List Node) (n : ℕ) → IsTree nodes → n < length nodes → All (λ m. m < length nodes) (option_to_list (node_at nodes n).parent)
parent_inside nodes n tree h = one_inside (length nodes) (node_at nodes n).parent (within_up nodes n (node_at nodes n).parent tree refl h)
