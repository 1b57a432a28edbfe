-- Worked rows of attacks and legal moves.
use Rattle.std.proofs.Common.{◌≡◌, ℕ, Bool, true, false, List, [], ◌∷◌, ◌++◌, replicate, set, Option, Some, None, Ok, refl}
use Rattle.std.specs.Prelude.{codes, filter}
use Rattle.std.specs.List.{fold}
use Rattle.cq_geometry.specs.Squares.{squares}
use Rattle.cq_geometry.specs.Lines.{between_squares}
use Rattle.cq_position.specs.declared.men.Man.{Man}
use Rattle.cq_position.specs.declared.men.Man.TheVariants.{K, Q, R, N, P, BlackK, BlackR, BlackP, Empty}
use Rattle.cq_position.specs.declared.men.Promotion.{Promotion}
use Rattle.cq_position.specs.declared.men.Promotion.TheVariants.{None as NoPromotion, Q as ToQueen}
use Rattle.cq_position.specs.declared.men.Side.{Side}
use Rattle.cq_position.specs.declared.men.Side.TheVariants.{White, Black}
use Rattle.cq_position.specs.declared.moves.Move.{Move}
use Rattle.cq_position.specs.Board.{Board, start_board}
use Rattle.cq_position.specs.Fen.{fen_meaning, fields, is_placement, placed_men, position_or_fault}
use Rattle.cq_position.specs.Attacks.{attacks, is_attacked, in_check}
use Rattle.cq_position.specs.Legal.{reaches, is_pseudo_legal, after, after_pass, Legal}

abbrev move : ℕ → ℕ → Promotion → Move
move a b promotion = record { from = a; to = b; promotion = promotion; null = false }

-- men on an empty board
abbrev put : List Man → ℕ × Man → List Man
put men entry = set men entry.0 entry.1

abbrev set_up : List (ℕ × Man) → List Man
set_up entries = fold put (replicate 64 Empty) entries

abbrev board : List (ℕ × Man) → Side → Bool → Option ℕ → Board
board entries side rights passant = record {
  men = set_up entries;
  side = side;
  rights = record { white_kingside = rights; white_queenside = rights; black_kingside = rights; black_queenside = rights };
  passant = passant;
  number = 7;
}

-- a rook on a1 attacks up to and with the first man: a4 is occupied, and so is c1
rook_attacks : filter (attacks (set_up ((0, R) ∷ (24, P) ∷ (2, BlackK) ∷ [])) 0) squares ≡ 1 ∷ 2 ∷ 8 ∷ 16 ∷ 24 ∷ []
unfolding attacks squares between_squares
rook_attacks = refl

-- a pawn attacks the squares diagonally in front of it and not the one ahead
pawn_attacks : filter (attacks (set_up ((8, P) ∷ [])) 8) squares ≡ 17 ∷ []
unfolding attacks squares between_squares
pawn_attacks = refl

-- 1. e4 leads to the position of the standard's example
king_pawn_step : Legal start_board (move 12 28 NoPromotion) (after start_board (move 12 28 NoPromotion))
unfolding is_pseudo_legal reaches after in_check is_attacked attacks squares between_squares
king_pawn_step = record { moves = refl; leads = refl; safe = refl }

king_pawn_board : Ok (after start_board (move 12 28 NoPromotion)) ≡ fen_meaning (codes "rnbqkbnr/pppppppp/8/8/4P3/8/PPPP1PPP/RNBQKBNR b KQkq e3 0 1")
unfolding after fen_meaning fields is_placement placed_men position_or_fault in_check is_attacked attacks squares between_squares
king_pawn_board = refl

no_three_steps : is_pseudo_legal start_board (move 12 36 NoPromotion) ≡ false
unfolding is_pseudo_legal reaches in_check is_attacked attacks squares between_squares
no_three_steps = refl

-- castling: the rook goes over the king; not through an attacked square, and not over a man
abbrev castler : List (ℕ × Man)
castler = (4, K) ∷ (7, R) ∷ (60, BlackK) ∷ []

castles_kingside : is_pseudo_legal (board castler White true None) (move 4 6 NoPromotion) ≡ true
unfolding is_pseudo_legal reaches in_check is_attacked attacks squares between_squares
castles_kingside = refl

castled : (after (board castler White true None) (move 4 6 NoPromotion)).men ≡ set_up ((6, K) ∷ (5, R) ∷ (60, BlackK) ∷ [])
unfolding after
castled = refl

rights_gone : (after (board castler White true None) (move 4 6 NoPromotion)).rights ≡ record { white_kingside = false; white_queenside = false; black_kingside = true; black_queenside = true }
unfolding after
rights_gone = refl

not_through_attack : is_pseudo_legal (board (castler ++ (61, BlackR) ∷ []) White true None) (move 4 6 NoPromotion) ≡ false
unfolding is_pseudo_legal reaches in_check is_attacked attacks squares between_squares
not_through_attack = refl

not_over_a_man : is_pseudo_legal (board (castler ++ (6, N) ∷ []) White true None) (move 4 6 NoPromotion) ≡ false
unfolding is_pseudo_legal reaches in_check is_attacked attacks squares between_squares
not_over_a_man = refl

not_without_right : is_pseudo_legal (board castler White false None) (move 4 6 NoPromotion) ≡ false
unfolding is_pseudo_legal reaches in_check is_attacked attacks squares between_squares
not_without_right = refl

-- en passant: the pawn on d5 is taken from e5 on d6
abbrev passing : Board
passing = board ((4, K) ∷ (36, P) ∷ (35, BlackP) ∷ (60, BlackK) ∷ []) White false (Some 43)

passing_capture : is_pseudo_legal passing (move 36 43 NoPromotion) ≡ true
unfolding is_pseudo_legal reaches in_check is_attacked attacks squares between_squares
passing_capture = refl

captured : (after passing (move 36 43 NoPromotion)).men ≡ set_up ((4, K) ∷ (43, P) ∷ (60, BlackK) ∷ [])
unfolding after
captured = refl

-- a pawn that reaches the last rank promotes, and must
abbrev promoting : Board
promoting = board ((0, K) ∷ (48, P) ∷ (63, BlackK) ∷ []) White false None

promotes : (after promoting (move 48 56 ToQueen)).men ≡ set_up ((0, K) ∷ (56, Q) ∷ (63, BlackK) ∷ [])
unfolding after
promotes = refl

must_promote : is_pseudo_legal promoting (move 48 56 NoPromotion) ≡ false
unfolding is_pseudo_legal reaches in_check is_attacked attacks squares between_squares
must_promote = refl

-- a pinned knight has no legal move: the king would stand in check
pinned : in_check (after (board ((4, K) ∷ (28, N) ∷ (60, BlackR) ∷ (63, BlackK) ∷ []) White false None) (move 28 11 NoPromotion)).men White ≡ true
unfolding after in_check is_attacked attacks squares between_squares
pinned = refl

-- the number rises after Black's move
black_counts : (after_pass (board castler Black false (Some 43))).number ≡ 8
unfolding after_pass
black_counts = refl
