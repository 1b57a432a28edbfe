-- Words: symbols that mark no result, and periods, with white space between them. An open game with movetext passes
-- many in one step.
use Rattle.std.specs.Prelude.{◌≡◌, ℕ, Bool, true, false, ◌==◌, ◌||◌, ◌&&◌, List, [], ◌∷◌, codes, if◌then◌else◌}
use Rattle.std.specs.Char.{is_ascii_alphanumeric}
use Rattle.std.specs.List.{AllByRecursion, list_any}
use Rattle.cq_common.specs.Text.{is_white}
use Rattle.pgn_lexer.specs.Bytes.{continues_symbol}
use Rattle.pgn_cut.specs.declared.game.OpenGame.{OpenGame}

-- white space, periods, and the bytes of symbols but - and /, without which no symbol marks a result
abbrev pub is_plain : ℕ → Bool
is_plain b = is_white b || is_ascii_alphanumeric b || list_any (λ c. b == c) (codes "._+#=:")

-- true if a symbol is open after some bytes; `open_` is the value before them
abbrev pub ends_in_symbol : (open_ : Bool) → List ℕ → Bool
ends_in_symbol open_ [] = open_
ends_in_symbol open_ (b ∷ bs) = ends_in_symbol (if open_ then continues_symbol b else is_ascii_alphanumeric b) bs

-- plain bytes that leave no symbol open
abbrev pub AreWords : List ℕ → Type 0
AreWords run = AllByRecursion (λ b. is_plain b ≡ true) run × (ends_in_symbol false run ≡ false)

-- true if words leave the progress of a game as it is: it has movetext, or a tag pair is open
abbrev pub passes_words : OpenGame → Bool
passes_words game = game.has_more && (game.has_movetext || game.in_pair)
