-- Small games and queries, with the meaning worked out row by row.
use Rattle.std.specs.Prelude.{ℕ, ◌+◌, ◌-◌, ◌^◌, Bool, true, false, List, [], ◌∷◌, replicate, slice_set, fold, filter, Option, Some, None, codes, ℤ}
use Rattle.cq_geometry.specs.Squares.{squares}
use Rattle.cq_position.specs.declared.games.GameResult.TheVariants.{White as WhiteWon, Open}
use Rattle.cq_position.specs.declared.men.Man.{Man}
use Rattle.cq_position.specs.declared.men.Man.TheVariants.{K, Q, P, BlackK, BlackP, Empty}
use Rattle.cq_position.specs.declared.men.Promotion.{Promotion}
use Rattle.cq_position.specs.declared.men.Promotion.TheVariants.{None as NoPromotion, Q as ToQueen}
use Rattle.cq_position.specs.declared.men.Side.{Side}
use Rattle.cq_position.specs.declared.men.Side.TheVariants.{White, Black}
use Rattle.cq_position.specs.declared.moves.Move.{Move}
use Rattle.cq_position.specs.Board.{Board, start_board}
use Rattle.cq_position.specs.Games.{Game, Node}
use Rattle.cq_position.specs.Legal.{after, after_pass}
use Rattle.cq_position.specs.Moves.{null_move}
use Rattle.cq_position.specs.Search.{SearchedTree}
use Rattle.cql_syntax.specs.Meaning.{value}
use Rattle.cql_syntax.specs.TreeLists.{filters_from}
use Rattle.cql_syntax.specs.Trees.{FilterTree, filter_at, FormTree, designator, number, FilterTrees, PartTrees, no_parts, more_parts, atom}
use Rattle.cql_syntax.specs.Values.{holds, has, amount}
use Rattle.cql_syntax.specs.declared.leaves.Mark.{Mark}

-- positions

-- some men on an otherwise empty board
abbrev pub men_on : List (ℕ × Man) → List Man
men_on places = fold (λ men place. slice_set men place.0 place.1) (replicate 64 Empty) places

abbrev pub bare : Side → Option ℕ → List (ℕ × Man) → Board
bare side passant places = record {
  men = men_on places;
  side = side;
  rights = record { white_kingside = false; white_queenside = false; black_kingside = false; black_queenside = false };
  passant = passant;
  number = 1;
}

-- A black king on a8, and White's king on c6. With the queen on b7 it is mate, with the queen on c7 stalemate, with the queen on a4 check.
abbrev pub queen_on : ℕ → Board
queen_on s = bare Black None ((56, BlackK) ∷ (42, K) ∷ (s, Q) ∷ [])

-- games

abbrev pub step : ℕ → ℕ → Promotion → Move
step a b x = record { from = a; to = b; promotion = x; null = false }

abbrev pub root : Board → Node
root p = record { parent = None; led_by = None; position = p; nags = []; comments = [] }

abbrev pub move_node : ℕ → Move → Board → List (List ℕ) → Node
move_node parent m p comments = record { parent = Some parent; led_by = Some m; position = p; nags = []; comments = comments }

abbrev pub after_e4 : Board
after_e4 = after start_board (step 12 28 NoPromotion)

abbrev pub after_e5 : Board
after_e5 = after after_e4 (step 52 36 NoPromotion)

abbrev pub after_d4 : Board
after_d4 = after start_board (step 11 27 NoPromotion)

-- `1. e4 (1. d4) e5 {x}`: e4 is node 1, e5 is node 2 and d4 is node 3
abbrev pub opening : Game
opening = record {
  tags = (codes "White", codes "Tal, M") ∷ (codes "Black", codes "Fine, R") ∷ (codes "Event", codes "Cup")
      ∷ (codes "Site", codes "Riga") ∷ (codes "Date", codes "1960.05.07")
      ∷ (codes "WhiteElo", codes "2700") ∷ (codes "BlackElo", codes "2650") ∷ [];
  result = WhiteWon;
  nodes = root start_board ∷ move_node 0 (step 12 28 NoPromotion) after_e4 []
      ∷ move_node 1 (step 52 36 NoPromotion) after_e5 (codes "x" ∷ [])
      ∷ move_node 0 (step 11 27 NoPromotion) after_d4 [] ∷ [];
}

abbrev pub all_of : SearchedTree
all_of = record { game = opening; variations = true }

abbrev pub main_of : SearchedTree
main_of = record { game = opening; variations = false }

-- a game of one position, without tags or result
abbrev pub alone : Board → SearchedTree
alone p = record { game = record { tags = []; result = Open; nodes = root p ∷ [] }; variations = true }

-- a game of one move
abbrev pub moved : Board → Move → Board → SearchedTree
moved p m q = record { game = record { tags = []; result = Open; nodes = root p ∷ move_node 0 m q [] ∷ [] }; variations = true }

-- exd6 en passant: White's pawn goes from e5 to d6 and takes the pawn on d5
abbrev pub in_passing : SearchedTree
in_passing =
    let p : Board = bare White (Some 43) ((4, K) ∷ (60, BlackK) ∷ (36, P) ∷ (35, BlackP) ∷ []) in
    moved p (step 36 43 NoPromotion) (after p (step 36 43 NoPromotion))

-- a8=Q
abbrev pub promoting : SearchedTree
promoting =
    let p : Board = bare White None ((4, K) ∷ (60, BlackK) ∷ (48, P) ∷ []) in
    moved p (step 48 56 ToQueen) (after p (step 48 56 ToQueen))

abbrev pub passing : SearchedTree
passing = moved start_board null_move (after_pass start_board)

-- filters

abbrev pub at : FormTree → FilterTree
at f = filter_at 0 f

abbrev pub bits_of : List ℕ → ℕ
bits_of [] = 0
bits_of (n ∷ ns) = 2 ^ n + bits_of ns

-- men by their numbers on squares, with no whole ranks or whole files
abbrev pub on : List ℕ → List ℕ → FilterTree
on men places = at (designator (record {
  men = bits_of men;
  part = record { squares = bits_of places; whole_ranks = false; whole_files = false };
}))

-- a man by its number on any square, and any man there
abbrev pub all_squares : ℕ
all_squares = 2 ^ 64 - 1

abbrev pub anywhere : ℕ → FilterTree
anywhere man = at (designator (record { men = 2 ^ man; part = record { squares = all_squares; whole_ranks = true; whole_files = true } }))

abbrev pub any_on : ℕ → FilterTree
any_on s = at (designator (record { men = 2 ^ 13 - 1; part = record { squares = 2 ^ s; whole_ranks = false; whole_files = false } }))

abbrev pub num : ℕ → FilterTree
num n = at (number n)

abbrev pub filters : List FilterTree → FilterTrees
filters fs = filters_from fs

abbrev pub parts : List (FilterTree × Mark) → PartTrees
parts [] = no_parts
parts (c ∷ cs) = more_parts (atom c.0) c.1 (parts cs)

-- the value of a filter in the empty context and without names

abbrev pub found : SearchedTree → FormTree → ℕ → List ℕ
found tree f n = filter (has (value tree [] [] (at f) n)) squares

abbrev pub truth : SearchedTree → FormTree → ℕ → Bool
truth tree f n = holds (value tree [] [] (at f) n)

abbrev pub worked : SearchedTree → FormTree → ℕ → Option ℤ
worked tree f n = amount (value tree [] [] (at f) n)
