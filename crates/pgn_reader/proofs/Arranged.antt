-- The rows of continuations give their nodes.
use Rattle.std.proofs.Common.{◌≡◌, ℕ, ◌+◌, ◌<◌, ◌≤◌, List, [], ◌∷◌, ◌++◌, length, take, refl, sym, ap, ◌∙◌, arith, append_assoc, append-nil, length-append}
use Rattle.std.specs.Prelude.{slice_index}
use Rattle.std.proofs.lemmas.List.{get_or_append_left, get_or-append-add, get_or-take, length-take-le}
use Rattle.cq_position.specs.Games.{Node}
use Rattle.cq_position.specs.Continuations.{Continuations, none, played, size, nodes_from, node_of}
use Rattle.pgn_reader.specs.Internal.Frame.{NodeRow, rows}
use Rattle.pgn_reader.specs.Internal.GameAssembly.{path_down, nodes_by}

-- two ways agree down to a level
abbrev pub Agree : ℕ → List ℕ → List ℕ → Type 0
Agree level v w = (i : ℕ) → i ≤ level → slice_index v i ≡ slice_index w i

taken : (way : List ℕ) (level : ℕ) → level < length way → length (take (level + 1) way) ≡ level + 1
taken way level deep = length-take-le (level + 1) way (omega arith)

pub length_way : (way : List ℕ) (level k : ℕ) → level < length way → length (path_down way level k) ≡ level + 2
length_way way level k deep =
    let a = length-append (take (level + 1) way) (k ∷ []) in
    let b = taken way level deep in
    let c : length (k ∷ []) ≡ 1 = refl in
    omega (arith, a, b, c)

pub way_below : (way : List ℕ) (level k i : ℕ) → level < length way → i ≤ level → slice_index (path_down way level k) i ≡ slice_index way i
way_below way level k i deep low =
    get_or_append_left (take (level + 1) way) (k ∷ []) 0 i (let e = taken way level deep in omega (arith, e, low)) ∙ get_or-take (level + 1) way i 0 (omega arith)

pub way_end : (way : List ℕ) (level k : ℕ) → level < length way → slice_index (path_down way level k) (level + 1) ≡ k
way_end way level k deep =
    let e : length (take (level + 1) way) + 0 ≡ level + 1 = let a = taken way level deep in omega (arith, a) in
    ap (slice_index (path_down way level k)) (sym e) ∙ get_or-append-add (take (level + 1) way) (k ∷ []) 0 0

nodes_none : (way : List ℕ) (k : ℕ) → nodes_by way k [] ≡ []
unfolding nodes_by
nodes_none way k = refl

-- the rows of continuations give their nodes, and then those of the rows that follow, whichever way agrees down to their level
pub arranged : (c : Continuations) (level k : ℕ) (way : List ℕ) (more : List NodeRow) (later : List Node) → level < length way
    → ((other : List ℕ) → level < length other → Agree level other way → nodes_by other (k + size c) more ≡ later)
    → nodes_by way k (rows level c ++ more) ≡ nodes_from (slice_index way level) k c ++ later
unfolding rows nodes_by nodes_from
arranged none level k way more later deep after = ap (λ n. nodes_by way n more) (let e : k ≡ k + 0 = omega arith in e) ∙ after way deep (λ i low. refl)
arranged (played m next others) level k way more later deep after =
    let down : List ℕ = path_down way level k in
    let beside : List Node = nodes_from (slice_index way level) (k + 1 + size next) others in
    let long : length down ≡ level + 2 = length_way way level k deep in
    let within : nodes_by down (k + 1) (rows (level + 1) next ++ (rows level others ++ more)) ≡ nodes_from (slice_index down (level + 1)) (k + 1) next ++ (beside ++ later) =
    arranged next (level + 1) (k + 1) down (rows level others ++ more) (beside ++ later) (omega (arith, long)) (λ other deep_too agree.
    let same : slice_index other level ≡ slice_index way level = agree level (omega arith) ∙ way_below way level k level deep (omega arith) in
    arranged others level (k + 1 + size next) other more later (omega arith) (λ third deep_three agree_too.
    ap (λ n. nodes_by third n more) (let e : k + 1 + size next + size others ≡ k + (1 + size next + size others) = omega arith in e)
    ∙ after third deep_three (λ i low. agree_too i low ∙ agree i (omega arith) ∙ way_below way level k i deep low))
    ∙ ap (λ n. nodes_from n (k + 1 + size next) others ++ later) same) in
    ap (λ x. node_of (slice_index way level) m ∷ nodes_by down (k + 1) x) (append_assoc (rows (level + 1) next) (rows level others) more)
    ∙ ap (λ x. node_of (slice_index way level) m ∷ x) (within ∙ ap (λ n. nodes_from n (k + 1) next ++ (beside ++ later)) (way_end way level k deep)
    ∙ sym (append_assoc (nodes_from k (k + 1) next) beside later))

pub arranged_all : (c : Continuations) → nodes_by (0 ∷ []) 1 (rows 0 c) ≡ nodes_from 0 1 c
arranged_all c =
    ap (nodes_by (0 ∷ []) 1) (sym (append-nil (rows 0 c)))
    ∙ arranged c 0 1 (0 ∷ []) [] [] (let e : 0 < 1 = omega arith in e) (λ other deep agree. nodes_none other (1 + size c))
    ∙ append-nil (nodes_from 0 1 c)
