-- The tables of the code, entry by entry.
use Rattle.std.proofs.Common.{◌≡◌, ℕ, ◌<◌, false, get_or, refl}
use Rattle.std.proofs.lemmas.Bool.{agree_below_at}
use Rattle.pgn_lexer.specs.Bytes.{continues_symbol}
use Rattle.pgn_lexer.specs.declared.reading.TheConstants.{CONTINUES_SYMBOL}

pub symbol_table : (b : ℕ) → b < 256 → get_or CONTINUES_SYMBOL b false ≡ continues_symbol b
symbol_table b less = agree_below_at (λ k. get_or CONTINUES_SYMBOL k false) continues_symbol 256 b refl less
