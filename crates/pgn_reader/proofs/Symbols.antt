-- The meaning of a symbol.
use Rattle.std.proofs.Common.{◌≡◌, ℕ, List, Option, true, false, cond, sym, ap, ◌∙◌}
use Rattle.std.specs.List.{list_all}
use Rattle.std.specs.Char.{is_ascii_digit}
use Rattle.cq_position.specs.declared.games.GameResult.{GameResult}
use Rattle.pgn_reader.specs.Words.{means_nothing, sense_of_marker, sense_of_symbol, result_of_text}

pub symbol_digits : (text : List ℕ) → list_all is_ascii_digit text ≡ true → means_nothing ≡ sense_of_symbol text
unfolding sense_of_symbol
symbol_digits text is = ap (λ b. cond b means_nothing (sense_of_marker text (result_of_text text))) (sym is)

pub symbol_other : (text : List ℕ) (o : Option GameResult) → list_all is_ascii_digit text ≡ false → result_of_text text ≡ o → sense_of_marker text o ≡ sense_of_symbol text
unfolding sense_of_symbol
symbol_other text o is found =
    ap (sense_of_marker text) (sym found) ∙ ap (λ b. cond b means_nothing (sense_of_marker text (result_of_text text))) (sym is)
