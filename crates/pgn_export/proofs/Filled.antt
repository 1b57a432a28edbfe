-- Words in lines, written word by word.
use Rattle.std.proofs.Common.{◌≡◌, ℕ, ◌+◌, Bool, true, false, cond, List, [], ◌∷◌, ◌++◌, length, refl, ap, ◌∙◌, arith, append_assoc, length-append}
use Rattle.std.specs.Prelude.{nat_le}
use Rattle.pgn_export.specs.Internal.Column.{gap, next_column}
use Rattle.pgn_export.specs.Lines.{filled}

-- the text after a line of `column` bytes
unfoldable pub following : ℕ → List (List ℕ) → List ℕ
following column [] = 10 ∷ []
following column (w ∷ ws) = gap column w ∷ (w ++ following (next_column column w) ws)

by_gap : (t : Bool) (line w : List ℕ) (ws : List (List ℕ)) (long short : List ℕ) (n k : ℕ) → long ≡ line ++ (32 ∷ (w ++ following n ws)) → short ≡ line ++ (10 ∷ (w ++ following k ws))
    → cond t long short ≡ line ++ (cond t 32 10 ∷ (w ++ following (cond t n k) ws))
by_gap true line w ws long short n k e e' = e
by_gap false line w ws long short n k e e' = e'

pub filled_following : (line : List ℕ) (ws : List (List ℕ)) → filled line ws ≡ line ++ following (length line) ws
unfolding filled following
filled_following line [] = refl
filled_following line (w ∷ ws) =
    let longer : List ℕ = line ++ (32 ∷ w) in
    let size : length longer ≡ length line + 1 + length w = length-append line (32 ∷ w) ∙ omega arith in
    by_gap (nat_le (length line + 1 + length w) 79) line w ws (filled longer ws) (line ++ (10 ∷ filled w ws)) (length line + 1 + length w) (length w)
    (filled_following longer ws ∙ ap (λ n. longer ++ following n ws) size ∙ append_assoc line (32 ∷ w) (following (length line + 1 + length w) ws))
    (ap (λ l. line ++ (10 ∷ l)) (filled_following w ws))
