-- Bytes at another place with the same tokens.
use Rattle.std.specs.Prelude.{◌≡◌, ℕ, ◌+◌, Bool, List, length, map, Result, Ok, Err}
use Rattle.cq_position.specs.Games.{Game}
use Rattle.pgn_lexer.specs.Lexemes.{tokens_of}
use Rattle.pgn_reader.specs.declared.fault.GameFault.{GameFault}
use Rattle.pgn_reader.specs.Words.{words_of}

-- an outcome, of which a fault is n bytes further on
abbrev pub moved : ℕ → Result Game GameFault → Result Game GameFault
moved n (Ok game) = Ok game
moved n (Err fault) = Err (record { byte = fault.byte + n; reason = fault.reason })

-- As many other bytes, which begin n bytes further on, have the same tokens: each is of the same kind and text, and n
-- bytes further on.
pub record AreSameTokens (n start : ℕ) (first : Bool) (bytes : List ℕ) (other_first : Bool) (other : List ℕ) : Type 0 where
  pub as_many : length other ≡ length bytes
  pub words : words_of (start + n) other_first other ≡ words_of start first bytes
  pub places : map (λ t. t.at) (tokens_of (start + n) other_first other) ≡ map (λ t. t.at + n) (tokens_of start first bytes)
