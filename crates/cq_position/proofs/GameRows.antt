-- Worked rows of games: the trees of `1. e4 (1. d4) e5` and of a variation within a variation.
use Rattle.std.proofs.Common.{◌≡◌, ℕ, true, false, List, [], ◌∷◌, map, Some, None, refl}
use Rattle.cq_position.specs.declared.men.Promotion.TheVariants.{None as NoPromotion}
use Rattle.cq_position.specs.declared.moves.Move.{Move}
use Rattle.cq_position.specs.Board.{Board, start_board}
use Rattle.cq_position.specs.Legal.{after}
use Rattle.cq_position.specs.Games.{Node, no_node, children, first_child, next_sibling, way_up, is_main, main_line, searched}
use Rattle.cq_position.specs.Continuations.{Played, Continuations, none, played, nodes_from, continuations}

abbrev step : ℕ → ℕ → Move
step a b = record { from = a; to = b; promotion = NoPromotion; null = false }

abbrev play : Board → Move → Played
play p m = record { move = m; position = after p m; nags = []; comments = [] }

abbrev e4 : Played
e4 = play start_board (step 12 28)

abbrev d4 : Played
d4 = play start_board (step 11 27)

abbrev e5 : Played
e5 = play e4.position (step 52 36)

abbrev d5 : Played
d5 = play d4.position (step 51 35)

abbrev f5 : Played
f5 = play d4.position (step 53 37)

abbrev nodes_of : Continuations → List Node
nodes_of c = no_node ∷ nodes_from 0 1 c

-- `1. e4 (1. d4) e5`: e4 is node 1, e5 is node 2, and d4, which is played instead of e4, is node 3
abbrev one_variation : List Node
one_variation = nodes_of (played e4 (played e5 none none) (played d4 none none))

parents : map (λ n. n.parent) one_variation ≡ None ∷ Some 0 ∷ Some 1 ∷ Some 0 ∷ []
unfolding nodes_from
parents = refl

moves : map (λ n. n.led_by) one_variation ≡ None ∷ Some (step 12 28) ∷ Some (step 52 36) ∷ Some (step 11 27) ∷ []
unfolding nodes_from
moves = refl

of_root : children one_variation 0 ≡ 1 ∷ 3 ∷ []
unfolding nodes_from children
of_root = refl

siblings : (next_sibling one_variation 1 ≡ Some 3) × (next_sibling one_variation 2 ≡ None) × (next_sibling one_variation 3 ≡ None)
unfolding nodes_from next_sibling
siblings = (refl, refl, refl)

lines : (main_line one_variation ≡ 0 ∷ 1 ∷ 2 ∷ []) × (searched true one_variation ≡ 0 ∷ 1 ∷ 2 ∷ 3 ∷ [])
unfolding nodes_from main_line searched way_up first_child
lines = (refl, refl)

-- `1. e4 (1. d4 d5 (1... f5)) e5`: e4 1, e5 2, d4 3, d5 4, f5 5; the first child of d4 is not of the main line
abbrev nested : List Node
nested = nodes_of (played e4 (played e5 none none) (played d4 (played d5 none (played f5 none none)) none))

nested_parents : map (λ n. n.parent) nested ≡ None ∷ Some 0 ∷ Some 1 ∷ Some 0 ∷ Some 3 ∷ Some 3 ∷ []
unfolding nodes_from
nested_parents = refl

nested_ways : (way_up nested 5 ≡ 5 ∷ 3 ∷ 0 ∷ []) × (first_child nested 3 ≡ Some 4) × (is_main nested 4 ≡ false)
unfolding nodes_from way_up first_child
nested_ways = (refl, refl, refl)

back : continuations 0 1 (nodes_from 0 1 (played e4 (played e5 none none) (played d4 none none))) ≡ played e4 (played e5 none none) (played d4 none none)
unfolding nodes_from continuations
back = refl
