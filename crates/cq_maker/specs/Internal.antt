pub mod DrawnMoves
