-- The results of reading the games that are kept, and the places of those of whole batches.
use Rattle.std.proofs.Common.{◌≡◌, ℕ, Bool, List, [], ◌∷◌, ◌++◌, length, map, take, refl, ap, sym, ◌∙◌, arith}
use Rattle.std.proofs.Math.Seq.{take-append_seam}
use Rattle.std.proofs.lemmas.List.{take-map}
use Rattle.pgn_batches.specs.Batching.{left_over}
use Rattle.pgn_batches.specs.KeptGames.{KeptGames, kept, most_kept}
use Rattle.pgn_batches.specs.Whole.{closed_games, whole, whole_spans}
use Rattle.pgn_cut.specs.Cut.{closed}
use Rattle.pgn_cut.specs.GameTokens.{game_bytes}
use Rattle.pgn_cut.specs.declared.span.Span.{Span}
use Rattle.pgn_reader.specs.Verdict.{IsReadResult}
use Rattle.cq_shards.specs.ReadResults.{ReadResult, AreReadResults}
use Rattle.cq_search.specs.Internal.ByBatches.{HaveOutcomes, Laws}
use Rattle.cq_search.specs.ArchiveGames.{AreRead}

pub record Rest (games : KeptGames) : Type 0 where
  pub outcomes : List ReadResult
  pub are_read : AreReadResults games outcomes

pub rest_of : HaveOutcomes → (games : KeptGames) → Rest games
rest_of have [] = record { outcomes = []; are_read = tt }
rest_of have (g ∷ gs) =
    let one = have g.start g.first g.bytes in
    let rest : Rest gs = rest_of have gs in
    record { outcomes = one.0 ∷ rest.outcomes; are_read = (one.1, rest.are_read) }

pub kept_read_on : (gs hs : KeptGames) (rs qs : List ReadResult) → AreReadResults gs rs → AreReadResults hs qs → AreReadResults (gs ++ hs) (rs ++ qs)
kept_read_on [] hs [] qs before after = after
kept_read_on [] hs (r ∷ rs) qs before after = absurd before
kept_read_on (g ∷ gs) hs [] qs before after = absurd before
kept_read_on (g ∷ gs) hs (r ∷ rs) qs before after = (before.0, kept_read_on gs hs rs qs before.1 after)

-- the bytes that are kept of a game are read as the game
kept_read : Laws → (start : ℕ) (first : Bool) (bytes : List ℕ) (r : ReadResult) → IsReadResult start first (take most_kept bytes) r → IsReadResult start first bytes r
unfolding most_kept
kept_read laws start first bytes r read = (laws.decide start first bytes r).0 read

pub reads_archive : Laws → (archive : List ℕ) (spans : List Span) (rs : List ReadResult) → AreReadResults (map (kept archive) spans) rs → AreRead archive spans rs
reads_archive laws archive [] [] read = tt
reads_archive laws archive [] (r ∷ rs) read = absurd read
reads_archive laws archive (s ∷ ss) [] read = absurd read
reads_archive laws archive (s ∷ ss) (r ∷ rs) read = (kept_read laws s.start s.first (game_bytes archive s) r read.0, reads_archive laws archive ss rs read.1)

pub count_read : (gs : KeptGames) (rs : List ReadResult) → AreReadResults gs rs → length gs ≡ length rs
count_read [] [] read = refl
count_read [] (r ∷ rs) read = absurd read
count_read (g ∷ gs) [] read = absurd read
count_read (g ∷ gs) (r ∷ rs) read = let e = count_read gs rs read.1 in omega (arith, e)

-- the games of the whole batches are the first closed games of the archive
pub whole_are : Laws → (front : List ℕ) → whole front ≡ map (kept front) (whole_spans front)
whole_are laws front =
    sym (take-append_seam (whole front) (left_over (closed_games front))) ∙ ap (take (length (whole front))) (laws.batches.all (closed_games front))
    ∙ take-map (kept front) (length (whole front)) (closed front)
