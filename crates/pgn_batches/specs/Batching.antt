-- The split of a list of games into batches.
use Rattle.std.specs.Prelude.{ℕ, Bool, ◌||◌, List, [], ◌∷◌, ◌++◌, length, sum_by, nat_le, if◌then◌else◌}
use Rattle.std.specs.List.{flat_map}
use Rattle.pgn_batches.specs.Limits.{longest}
use Rattle.pgn_batches.specs.KeptGames.{KeptGames}

-- the number of bytes kept of some games
abbrev pub size_of : KeptGames → ℕ
size_of games = sum_by (λ g. length g.bytes) games

-- the number of games that fill a batch
abbrev pub most_games : ℕ
most_games = 1024

-- `games` games, of which `bytes` bytes are kept, fill a batch: 1,024 games, or as many bytes as one game may have
unfoldable pub full_at : (games bytes : ℕ) → Bool
full_at games bytes = nat_le most_games games || nat_le longest bytes

abbrev pub is_full : KeptGames → Bool
is_full games = full_at (length games) (size_of games)

-- the full batches of some games and the games before them of the batch that is not full
unfoldable pub full_from : (before games : KeptGames) → List KeptGames
full_from before [] = []
full_from before (g ∷ gs) =
    if is_full (before ++ g ∷ []) then (before ++ g ∷ []) ∷ full_from [] gs else full_from (before ++ g ∷ []) gs

-- the games after the last full batch
unfoldable pub left_from : (before games : KeptGames) → KeptGames
left_from before [] = before
left_from before (g ∷ gs) = if is_full (before ++ g ∷ []) then left_from [] gs else left_from (before ++ g ∷ []) gs

abbrev pub full_batches : KeptGames → List KeptGames
full_batches games = full_from [] games

abbrev pub left_over : KeptGames → KeptGames
left_over games = left_from [] games

abbrev pub as_last : KeptGames → List KeptGames
as_last [] = []
as_last (g ∷ gs) = (g ∷ gs) ∷ []

-- all batches: the full ones, and then the games that are left
abbrev pub batches : KeptGames → List KeptGames
batches games = full_batches games ++ as_last (left_over games)

-- the games of some batches
abbrev pub flat : List KeptGames → KeptGames
flat bs = flat_map (λ b. b) bs
