-- Changes of one node after another.
use Rattle.std.proofs.Common.{◌≡◌, ℕ, zero, suc, ◌+◌, ◌-◌, ◌<◌, ◌≤◌, Bool, true, false, ◌||◌, List, [], ◌∷◌, ◌++◌, length, take, drop, get_or, map, refl, sym, ap, ◌∙◌, subst, arith, eqb-true, inl, inr}
use Rattle.std.specs.Prelude.{slice_set, All, AllPairs, if◌then◌else◌, ◌==◌}
use Rattle.std.specs.List.{list_any}
use Rattle.std.proofs.lemmas.Bool.{cases_eq, eq-eqb, ne_eqb}
use Rattle.std.proofs.lemmas.List.{get_or-set_same, get_or-set_other, ext_get_or, length-take-le, drop_all, drop_more, get_or-take, get_or_default}
use Rattle.std.proofs.lemmas.List.Sums.{fold-append}
use Rattle.std.proofs.lemmas.List.Folds.{list_any_more, Any-from_list_any}
use Rattle.std.proofs.lemmas.List.FromFn.{length-map-range_with_len, get_or-map-range_with_len}
use Rattle.std.proofs.Math.ListN.{length-set}
use Rattle.cq_position.specs.declared.games.GameResult.{GameResult}
use Rattle.cq_position.specs.Games.{Game, Node, node_at, no_node, numbers, with_node, with_comment}
use Rattle.cql_syntax.specs.Hits.{with_marks, item_texts, comment_texts}
use Rattle.cql_syntax.specs.TreeOf.{filter_tree, filter_trees}
use Rattle.cql_syntax.specs.declared.tree.Filter.{Filter}
use Rattle.cq_annotate.specs.Marking.{node_marked, game_marked}

-- one change and then another
pub twice : (nodes : List Node) (n : ℕ) (f g : Node → Node) → n < length nodes → with_node (with_node nodes n f) n g ≡ with_node nodes n (λ x. g (f x))
twice nodes n f g h =
    let once = with_node nodes n f in
    let len : length once ≡ length nodes = length-set nodes n (f (node_at nodes n)) in
    let here : node_at once n ≡ f (node_at nodes n) = get_or-set_same nodes n (f (node_at nodes n)) no_node h in
    ext_get_or no_node (with_node once n g) (with_node nodes n (λ x. g (f x)))
    (length-set once n (g (node_at once n)) ∙ len ∙ sym (length-set nodes n (g (f (node_at nodes n)))))
    (λ i less. elim (cases_eq i n) [
      | inl same ↦
          ap (node_at (with_node once n g)) same ∙ get_or-set_same once n (g (node_at once n)) no_node (omega (arith, len, h)) ∙ ap g here
          ∙ sym (ap (node_at (with_node nodes n (λ x. g (f x)))) same ∙ get_or-set_same nodes n (g (f (node_at nodes n))) no_node h)
      | inr other ↦
          get_or-set_other once n i (g (node_at once n)) no_node other ∙ get_or-set_other nodes n i (f (node_at nodes n)) no_node other
          ∙ sym (get_or-set_other nodes n i (g (f (node_at nodes n))) no_node other)
    ])

-- no change
pub unchanged : (nodes : List Node) (n : ℕ) → n < length nodes → with_node nodes n (λ x. x) ≡ nodes
unchanged nodes n h =
    ext_get_or no_node (with_node nodes n (λ x. x)) nodes (length-set nodes n (node_at nodes n))
    (λ i less. elim (cases_eq i n) [
      | inl same ↦ ap (node_at (with_node nodes n (λ x. x))) same ∙ get_or-set_same nodes n (node_at nodes n) no_node h ∙ sym (ap (node_at nodes) same)
      | inr other ↦ get_or-set_other nodes n i (node_at nodes n) no_node other
    ])

-- the same change
pub same_change : (nodes : List Node) (n : ℕ) (f g : Node → Node) → ((x : Node) → f x ≡ g x) → with_node nodes n f ≡ with_node nodes n g
same_change nodes n f g e = ap (slice_set nodes n) (e (node_at nodes n))

pub first_of : {A : Type 0} (P : A → Type 0) (x : A) (xs : List A) → All P (x ∷ xs) → P x
first_of P x xs all = all 0 x (omega arith)

pub rest_of : {A : Type 0} (P : A → Type 0) (x : A) (xs : List A) → All P (x ∷ xs) → All P xs
rest_of P x xs all = λ k d h. all (suc k) d (omega (arith, h))

pub left_of : {A : Type 0} (P : A → Type 0) (xs ys : List A) → All P (xs ++ ys) → All P xs
left_of P [] ys all = λ k d h. absurd (omega (arith, h))
left_of P (x ∷ xs) ys all = cons P x xs (first_of P x (xs ++ ys) all) (left_of P xs ys (rest_of P x (xs ++ ys) all))
  where
    cons : {A : Type 0} (P : A → Type 0) (x : A) (xs : List A) → P x → All P xs → All P (x ∷ xs)
    cons P x xs p all zero d h = p
    cons P x xs p all (suc k) d h = all k d (omega (arith, h))

pub right_of : {A : Type 0} (P : A → Type 0) (xs ys : List A) → All P (xs ++ ys) → All P ys
right_of P [] ys all = all
right_of P (x ∷ xs) ys all = right_of P xs ys (rest_of P x (xs ++ ys) all)

-- the change left to a node: it makes of the present node the same as the whole change makes of the old one
pub record IsLeft (old now : Game) (n : ℕ) (left whole : Node → Node) : Type 0 where
  pub tags : now.tags ≡ old.tags
  pub ending : now.result ≡ old.result
  pub count : length now.nodes ≡ length old.nodes
  pub nodes : with_node now.nodes n left ≡ with_node old.nodes n whole

pub all_left : (old : Game) (n : ℕ) (whole : Node → Node) → IsLeft old old n whole whole
all_left old n whole = record { tags = refl; ending = refl; count = refl; nodes = refl }

pub one_less : (old now new : Game) (n : ℕ) (left done rest whole : Node → Node) → n < length old.nodes → new ≡ record now { nodes = with_node now.nodes n done }
    → ((x : Node) → left x ≡ rest (done x)) → IsLeft old now n left whole → IsLeft old new n rest whole
one_less old now new n left done rest whole h is step so_far =
    let inside : n < length now.nodes = omega (arith, h, so_far.count) in
    subst (λ g. IsLeft old g n rest whole) (sym is) (record {
      tags = so_far.tags;
      ending = so_far.ending;
      count = length-set now.nodes n (done (node_at now.nodes n)) ∙ so_far.count;
      nodes = twice now.nodes n done rest inside ∙ sym (same_change now.nodes n left (λ x. rest (done x)) step) ∙ so_far.nodes;
    })

abbrev game_of : List (List ℕ × List ℕ) → GameResult → List Node → Game
game_of tags ending nodes = record { tags = tags; result = ending; nodes = nodes }

same_game : (t u : List (List ℕ × List ℕ)) (r s : GameResult) (m n : List Node) → t ≡ u → r ≡ s → m ≡ n → game_of t r m ≡ game_of u s n
same_game t u r s m n e f g = cc

pub none_left : (old now : Game) (n : ℕ) (left whole : Node → Node) → n < length old.nodes → ((x : Node) → left x ≡ x) → IsLeft old now n left whole
    → now ≡ record old { nodes = with_node old.nodes n whole }
none_left old now n left whole h is so_far =
    let inside : n < length now.nodes = omega (arith, h, so_far.count) in
    let nodes : now.nodes ≡ with_node old.nodes n whole = sym (same_change now.nodes n left (λ x. x) is ∙ unchanged now.nodes n inside) ∙ so_far.nodes in
    same_game now.tags old.tags now.result old.result now.nodes (with_node old.nodes n whole) so_far.tags so_far.ending nodes

-- more comments of items
pub marks_split : (xs ys : List (List ℕ)) (x : Node) → with_marks (xs ++ ys) x ≡ with_marks ys (with_marks xs x)
marks_split xs ys x = fold-append (λ n text. with_comment text n) x xs ys

pub texts_from : (items : List Filter) (i : ℕ) (f : Filter) → i < length items → f ≡ get_or items i f
    → comment_texts (filter_trees (drop i items)) ≡ item_texts (filter_tree f) ++ comment_texts (filter_trees (drop (i + 1) items))
texts_from items i f h is =
    ap (λ l. comment_texts (filter_trees l)) (drop_more items i f h)
    ∙ ap (λ g. item_texts (filter_tree g) ++ comment_texts (filter_trees (drop (i + 1) items))) (sym is)

pub no_texts_left : (items : List Filter) (i : ℕ) → length items ≤ i → (x : Node) → with_marks (comment_texts (filter_trees (drop i items))) x ≡ x
no_texts_left items i h x = ap (λ l. with_marks (comment_texts (filter_trees l)) x) (drop_all i items h)

-- the nodes increase, so that none is marked twice
not_yet : (nodes : List ℕ) (i n : ℕ) → AllPairs (λ a b. a < b) nodes → i < length nodes → n ≡ get_or nodes i n → (b : Bool) → list_any (λ k. k == n) (take i nodes) ≡ b → b ≡ false
not_yet nodes i n rise h is false e = refl
not_yet nodes i n rise h is true e = absurd (
    let found = Any-from_list_any (λ k. k == n) (take i nodes) e in
    let few = length-take-le i nodes (omega (arith, h)) in
    let less : found.0 < i = omega (arith, found.2, few) in
    let same = eqb-true found.1 n found.4 in
    let before = rise found.0 i n less h in
    let here = get_or-take i nodes found.0 found.1 less ∙ get_or_default nodes found.0 found.1 n (omega (arith, less, h)) in
    omega (arith, same, before, here, found.3, is))

old_or : (b : Bool) (texts : List (List ℕ)) (x : Node) → b ≡ false → (if b then with_marks texts x else x) ≡ x
old_or b texts x e = ap (λ t. if t then with_marks texts x else x) e

new_or : (b : Bool) (texts : List (List ℕ)) (x : Node) → b ≡ true → (if b then with_marks texts x else x) ≡ with_marks texts x
new_or b texts x e = ap (λ t. if t then with_marks texts x else x) e

or_true : (b : Bool) → (b || true) ≡ true
or_true true = refl
or_true false = refl

or_false : (b : Bool) → (b || false) ≡ b
or_false true = refl
or_false false = refl

-- the marks of one node more
pub marked_more : (texts : List (List ℕ)) (nodes : List ℕ) (old : Game) (i n : ℕ) → AllPairs (λ a b. a < b) nodes → i < length nodes → n ≡ get_or nodes i n → n < length old.nodes
    → with_node (game_marked texts (take i nodes) old).nodes n (with_marks texts) ≡ (game_marked texts (take (i + 1) nodes) old).nodes
marked_more texts nodes old i n rise h is inside =
    let so_far = game_marked texts (take i nodes) old in
    let next = game_marked texts (take (i + 1) nodes) old in
    let len = length-map-range_with_len (node_marked texts (take i nodes) old) 0 (length old.nodes) in
    let len_next = length-map-range_with_len (node_marked texts (take (i + 1) nodes) old) 0 (length old.nodes) in
    let len_set = length-set so_far.nodes n (with_marks texts (node_at so_far.nodes n)) in
    let at_i : (m : ℕ) → m < length old.nodes → node_at so_far.nodes m ≡ node_marked texts (take i nodes) old m =
    λ m less. get_or-map-range_with_len (node_marked texts (take i nodes) old) 0 (length old.nodes) m m no_node less (omega arith) in
    let at_next : (m : ℕ) → m < length old.nodes → node_at next.nodes m ≡ node_marked texts (take (i + 1) nodes) old m =
    λ m less. get_or-map-range_with_len (node_marked texts (take (i + 1) nodes) old) 0 (length old.nodes) m m no_node less (omega arith) in
    let asked : (m : ℕ) → list_any (λ k. k == m) (take (i + 1) nodes) ≡ (list_any (λ k. k == m) (take i nodes) || (n == m)) =
    λ m. list_any_more (λ k. k == m) nodes i n h ∙ ap (λ k. list_any (λ k. k == m) (take i nodes) || (k == m)) (sym is) in
    ext_get_or no_node (with_node so_far.nodes n (with_marks texts)) next.nodes (len_set ∙ len ∙ sym len_next)
    (λ m less. let small : m < length old.nodes = omega (arith, less, len_set, len) in elim (cases_eq m n) [
      | inl same ↦
          ap (node_at (with_node so_far.nodes n (with_marks texts))) same
          ∙ get_or-set_same so_far.nodes n (with_marks texts (node_at so_far.nodes n)) no_node (omega (arith, inside, len))
          ∙ ap (with_marks texts) (at_i n inside ∙ old_or (list_any (λ k. k == n) (take i nodes)) texts (node_at old.nodes n)
          (not_yet nodes i n rise h is (list_any (λ k. k == n) (take i nodes)) refl))
          ∙ sym (ap (node_at next.nodes) same ∙ at_next n inside ∙ new_or (list_any (λ k. k == n) (take (i + 1) nodes)) texts (node_at old.nodes n)
          (asked n ∙ ap (λ b. list_any (λ k. k == n) (take i nodes) || b) (eq-eqb n n refl) ∙ or_true (list_any (λ k. k == n) (take i nodes))))
      | inr other ↦
          get_or-set_other so_far.nodes n m (with_marks texts (node_at so_far.nodes n)) no_node other ∙ at_i m small
          ∙ sym (at_next m small ∙ ap (λ b. if b then with_marks texts (node_at old.nodes m) else node_at old.nodes m)
          (asked m ∙ ap (λ b. list_any (λ k. k == m) (take i nodes) || b) (ne_eqb n m (λ e. other (sym e))) ∙ or_false (list_any (λ k. k == m) (take i nodes))))
    ])

pub marked_next : (texts : List (List ℕ)) (nodes : List ℕ) (old now new : Game) (i n : ℕ) → AllPairs (λ a b. a < b) nodes → i < length nodes → n ≡ get_or nodes i n → n < length old.nodes
    → now ≡ game_marked texts (take i nodes) old → new ≡ record now { nodes = with_node now.nodes n (with_marks texts) } → new ≡ game_marked texts (take (i + 1) nodes) old
marked_next texts nodes old now new i n rise h is inside so_far step =
    step ∙ ap (λ (g : Game). record g { nodes = with_node g.nodes n (with_marks texts) }) so_far ∙ ap (λ l. record old { nodes = l }) (marked_more texts nodes old i n rise h is inside)

pub none_marked : (texts : List (List ℕ)) (old : Game) → old ≡ game_marked texts (take 0 []) old
none_marked texts old =
    ap (λ l. record old { nodes = l }) (ext_get_or no_node old.nodes (map (node_marked texts [] old) (numbers old.nodes))
    (sym (length-map-range_with_len (node_marked texts [] old) 0 (length old.nodes)))
    (λ m less. sym (get_or-map-range_with_len (node_marked texts [] old) 0 (length old.nodes) m m no_node less (omega arith))))

pub as_many : (texts : List (List ℕ)) (nodes : List ℕ) (old now : Game) → now ≡ game_marked texts nodes old → length now.nodes ≡ length old.nodes
as_many texts nodes old now is = ap (λ g. length g.nodes) is ∙ length-map-range_with_len (node_marked texts nodes old) 0 (length old.nodes)

-- one change of a game and then another
pub two_changes : (old mid new : Game) (n : ℕ) (f g h : Node → Node) → n < length old.nodes → mid ≡ record old { nodes = with_node old.nodes n f }
    → new ≡ record mid { nodes = with_node mid.nodes n g }
    → ((x : Node) → g (f x) ≡ h x) → new ≡ record old { nodes = with_node old.nodes n h }
two_changes old mid new n f g h inside first second both =
    second ∙ ap (λ (m : Game). record m { nodes = with_node m.nodes n g }) first
    ∙ ap (λ (l : List Node). record old { nodes = l }) (twice old.nodes n f g inside ∙ same_change old.nodes n (λ x. g (f x)) h both)
