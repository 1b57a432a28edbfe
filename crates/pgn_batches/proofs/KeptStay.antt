-- The kept games of a prefix stay.
use Rattle.std.proofs.Common.{◌≡◌, ℕ, ◌+◌, ◌-◌, ◌<◌, ◌≤◌, List, [], ◌∷◌, ◌++◌, length, map, take, drop, refl, subst, ap, ap₂, suc, ◌∙◌, All, arith}
use Rattle.std.specs.Prelude.{slice_range, slice_index_or}
use Rattle.std.proofs.lemmas.List.{take-append-le, drop-append-le, length-drop, map-append}
use Rattle.std.proofs.lemmas.List.Elements.{All-get_or, All-take}
use Rattle.std.proofs.Math.Seq.{take-append_seam}
use Rattle.pgn_cut.specs.Cut.{cut, closed}
use Rattle.pgn_cut.specs.Spans.{EndsBy}
use Rattle.pgn_cut.specs.declared.span.Span.{Span}
use Rattle.pgn_batches.specs.declared.kept_game.KeptGame.{KeptGame}
use Rattle.pgn_batches.specs.Batching.{flat, full_batches}
use Rattle.pgn_batches.specs.KeptGames.{KeptGames}
use Rattle.pgn_batches.specs.KeptGames.{most_kept, kept}
use Rattle.pgn_batches.specs.Whole.{closed_games, whole}
use Rattle.pgn_batches.proofs.Batching.{full_grow, flat_append}

range_stays : (f more : List ℕ) (a b : ℕ) → a ≤ b → b ≤ length f → slice_range (f ++ more) a b ≡ slice_range f a b
range_stays f more a b order within = grind (arith, drop-append-le a f more, take-append-le (b - a) (drop a f) more, length-drop a f)

pub kept_stays : (f more : List ℕ) (s : Span) → EndsBy (length f) s → kept (f ++ more) s ≡ kept f s
kept_stays f more s ends = let a = ends.0 in let b = ends.1 in
    ap (λ (l : List ℕ). record { bytes = take most_kept l; start = s.start; first = s.first }) (range_stays f more s.start s.end (omega arith) b)

-- each span of a list begins and ends by a place
kept_stay : (f more : List ℕ) (ss : List Span) → ((k : ℕ) (d : Span) → k < length ss → EndsBy (length f) (slice_index_or ss k d)) → map (kept (f ++ more)) ss ≡ map (kept f) ss
kept_stay f more [] all = refl
kept_stay f more (s ∷ ss) all = ap₂ (λ (x : KeptGame) (xs : KeptGames). x ∷ xs) (kept_stays f more s (all 0 s (omega arith))) (kept_stay f more ss (λ k d less. all (suc k) d (omega arith)))

pub all_stay : (f more : List ℕ) (ss : List Span) → All (EndsBy (length f)) ss → map (kept (f ++ more)) ss ≡ map (kept f) ss
all_stay f more ss all = kept_stay f more ss (λ k d less. All-get_or (EndsBy (length f)) ss k d less all)

-- the closed games of a prefix are whole in it
abbrev pub Grow : Type 0
Grow = (front more : List ℕ) → (rest : List Span) × (closed (front ++ more) ≡ closed front ++ rest)

abbrev pub Within : Type 0
Within = (archive : List ℕ) → All (EndsBy (length archive)) (cut archive)

abbrev pub Split : Type 0
Split = (front : List ℕ) → (last : List Span) × (cut front ≡ closed front ++ last)

pub All_front : (P : Span → Type 0) (xs ys : List Span) → All P (xs ++ ys) → All P xs
All_front P xs ys all = subst (All P) (take-append_seam xs ys) (All-take P (length xs) (xs ++ ys) all)

pub closed_within : Within → Split → (front : List ℕ) → All (EndsBy (length front)) (closed front)
closed_within within whole_ front =
    let w = whole_ front in (All_front (EndsBy (length front)) (closed front) w.0 (subst (All (EndsBy (length front))) w.1 (within front)))

pub closed_grow : Grow → Within → Split → (front more : List ℕ) → (rest : KeptGames) × (closed_games (front ++ more) ≡ closed_games front ++ rest)
closed_grow grow within whole_ front more =
    let g = grow front more in (
      map (kept (front ++ more)) g.0,
      (
          ap (map (kept (front ++ more))) g.1 ∙ map-append (kept (front ++ more)) (closed front) g.0
          ∙ ap (λ (l : KeptGames). l ++ map (kept (front ++ more)) g.0) (all_stay front more (closed front) (closed_within within whole_ front))
          ),
    )

pub whole_grow : Grow → Within → Split → (front more : List ℕ) → (rest : KeptGames) × (whole (front ++ more) ≡ whole front ++ rest)
whole_grow grow within whole_ front more =
    let c = closed_grow grow within whole_ front more in
    let f = full_grow (closed_games front) c.0 in
    (flat f.0, (ap (λ (gs : KeptGames). flat (full_batches gs)) c.1 ∙ ap flat f.1 ∙ flat_append (full_batches (closed_games front)) f.0))
