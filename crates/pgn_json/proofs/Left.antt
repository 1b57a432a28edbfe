-- Nodes one after the other, with a comma between two.
use Rattle.std.proofs.Common.{◌≡◌, ℕ, zero, suc, ◌<◌, ◌+◌, ◌-◌, List, [], ◌∷◌, ◌++◌, length, map, drop, get_or, refl, ap, ◌∙◌, sym, subst, arith, append_assoc, append-nil}
use Rattle.std.proofs.Math.Seq.{drop-cons, drop-length}
use Rattle.std.proofs.lemmas.Grind.{get_or_after_one}
use Rattle.std.proofs.lemmas.List.{length-drop}
use Rattle.std.proofs.lemmas.List.FromFn.{length-range_with_len, get_or-range_with_len}
use Rattle.cq_position.specs.Games.{Node, numbers}
use Rattle.pgn_json.specs.Internal.Remaining.{comma_after, left}

-- the nodes but the start
abbrev pub others : List Node → List ℕ
others nodes = drop 1 (numbers nodes)

pub others_many : (nodes : List Node) → length (others nodes) ≡ length nodes - 1
others_many nodes = omega (arith, length-drop 1 (numbers nodes), length-range_with_len 0 (length nodes))

pub other_at : (nodes : List Node) (i : ℕ) → i < length nodes - 1 → get_or (others nodes) i 0 ≡ i + 1
other_at nodes i low =
    let at = get_or_after_one (numbers nodes) i 0 in
    let number = get_or-range_with_len 0 (length nodes) (1 + i) 0 (omega (arith, low)) in
    omega (arith, at, number)

-- none are left at the end
left_none : (i : ℕ) → left i [] ≡ []
left_none zero = refl
left_none (suc i) = refl

left_some : (i : ℕ) (x : List ℕ) (xs : List (List ℕ)) → comma_after i ++ (x ++ left (suc i) xs) ≡ left i (x ∷ xs)
left_some zero x xs = refl
left_some (suc i) x xs = refl

-- one more is written
pub node_written : (f : ℕ → List ℕ) (nodes : List Node) (i : ℕ) (all line middle later : List ℕ) → i < length nodes - 1
    → middle ≡ line ++ comma_after i → later ≡ middle ++ f (i + 1)
    → line ++ left i (map f (drop i (others nodes))) ≡ all
    → later ++ left (i + 1) (map f (drop (i + 1) (others nodes))) ≡ all
node_written f nodes i all line middle later low is_middle is_later so_far =
    let more : suc i ≡ i + 1 = omega arith in
    let rest = map f (drop (suc i) (others nodes)) in
    let here = f (i + 1) in
    let listed : map f (drop i (others nodes)) ≡ here ∷ rest
    = ap (map f) (drop-cons (others nodes) i 0 (omega (arith, low, others_many nodes))) ∙ ap (λ n. f n ∷ rest) (other_at nodes i low) in
    let some_ : comma_after i ++ (here ++ left (suc i) rest) ≡ left i (map f (drop i (others nodes)))
    = left_some i here rest ∙ ap (left i) (sym listed) in
    let line_is : later ≡ (line ++ comma_after i) ++ here = is_later ∙ ap (λ l. l ++ here) is_middle in
    subst (λ n. later ++ left n (map f (drop n (others nodes))) ≡ all) more
    (ap (λ l. l ++ left (suc i) rest) line_is
    ∙ append_assoc (line ++ comma_after i) here (left (suc i) rest)
    ∙ append_assoc line (comma_after i) (here ++ left (suc i) rest)
    ∙ ap (λ l. line ++ l) some_
    ∙ so_far)

-- all are written
pub nodes_written : (f : ℕ → List ℕ) (nodes : List Node) (i : ℕ) (all line : List ℕ) → i ≡ length nodes - 1
    → line ++ left i (map f (drop i (others nodes))) ≡ all → line ≡ all
nodes_written f nodes i all line end so_far =
    let over : drop i (others nodes) ≡ [] = ap (λ n. drop n (others nodes)) (end ∙ sym (others_many nodes)) ∙ drop-length (others nodes) in
    sym (append-nil line) ∙ ap (λ l. line ++ l) (sym (ap (λ l. left i (map f l)) over ∙ left_none i)) ∙ so_far
