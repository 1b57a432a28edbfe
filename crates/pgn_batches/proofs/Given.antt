-- The games of the batches that are given.
use Rattle.std.proofs.Common.{◌≡◌, ℕ, ◌+◌, ◌-◌, ◌≤◌, ◌<◌, Bool, true, false, List, [], ◌∷◌, ◌++◌, length, length-append, append-nil, append_assoc, map, take, drop, Some, refl, ap, sym, ◌∙◌, arith}
use Rattle.std.specs.Prelude.{slice_get, if◌then◌else◌}
use Rattle.std.proofs.lemmas.Grind.{flat_map-append}
use Rattle.std.proofs.lemmas.List.{take-append-le, take-append-drop, take_more, map-append, length-map}
use Rattle.std.proofs.lemmas.Option.{slice_get_within, slice_get-get_or, get_or_from_slice_get}
use Rattle.std.proofs.Math.ListN.{get_or-append}
use Rattle.std.proofs.Math.Seq.{take-append-add}
use Rattle.pgn_cut.specs.Cut.{cut, closed}
use Rattle.pgn_cut.specs.Spans.{AreSpansInOrder, FinishesAt}
use Rattle.pgn_cut.specs.declared.span.Span.{Span}
use Rattle.pgn_batches.specs.KeptGames.{KeptGames, kept}
use Rattle.pgn_batches.specs.Batching.{batches, full_batches, full_from, is_full, left_over, as_last, flat}
use Rattle.pgn_batches.specs.Laws.{Laws}
use Rattle.pgn_batches.specs.Whole.{closed_games, cut_games, whole}
use Rattle.pgn_batches.proofs.Streams.{count_within}

-- the games of the first batches of an archive's bytes
abbrev pub given : List ℕ → ℕ → KeptGames
given front m = flat (take m (batches (cut_games front)))

-- the full batches of the closed games are the first ones
pub full_first : Laws → (front : List ℕ) → (rest : List KeptGames) × (batches (cut_games front) ≡ full_batches (closed_games front) ++ rest)
full_first laws front =
    let c = laws.cuts front in
    let last = map (kept front) c.0 in
    let f = laws.full (closed_games front) last in
    let games : cut_games front ≡ closed_games front ++ last = ap (map (kept front)) c.1 ∙ map-append (kept front) (closed front) c.0 in
    let over = as_last (left_over (cut_games front)) in
    (f.0 ++ over, ap (λ gs. full_batches gs ++ over) games ∙ ap (λ l. l ++ over) f.1 ∙ append_assoc (full_batches (closed_games front)) f.0 over)

pub full_low : Laws → (front : List ℕ) → length (full_batches (closed_games front)) ≤ length (batches (cut_games front))
full_low laws front =
    let f = full_first laws front in
    let e : length (batches (cut_games front)) ≡ length (full_batches (closed_games front) ++ f.0) = ap length f.1 in
    let l = length-append (full_batches (closed_games front)) f.0 in omega (arith, e, l)

-- the first batches of an archive's bytes, where they are full ones of closed games
pub given_full : Laws → (front : List ℕ) (m : ℕ) → m ≤ length (full_batches (closed_games front)) → take m (batches (cut_games front)) ≡ take m (full_batches (closed_games front))
given_full laws front m low =
    let f = full_first laws front in
    ap (take m) f.1 ∙ take-append-le m (full_batches (closed_games front)) f.0 low

-- more bytes close at least as many
pub full_grows : Laws → (front more : List ℕ) → (rest : List KeptGames) × (full_batches (closed_games (front ++ more)) ≡ full_batches (closed_games front) ++ rest)
full_grows laws front more =
    let c = laws.closed_ front more in
    let f = laws.full (closed_games front) c.0 in
    (f.0, ap full_batches c.1 ∙ f.1)

pub full_rises : Laws → (front more : List ℕ) → length (full_batches (closed_games front)) ≤ length (full_batches (closed_games (front ++ more)))
full_rises laws front more =
    let f = full_grows laws front more in
    let e : length (full_batches (closed_games (front ++ more))) ≡ length (full_batches (closed_games front) ++ f.0) = ap length f.1 in
    let l = length-append (full_batches (closed_games front)) f.0 in omega (arith, e, l)

pub given_stays : Laws → (front more : List ℕ) (m : ℕ) → m ≤ length (full_batches (closed_games front)) → given (front ++ more) m ≡ given front m
given_stays laws front more m low =
    let f = full_grows laws front more in
    let rises = full_rises laws front more in
    ap flat (given_full laws (front ++ more) m (omega (arith, low, rises)) ∙ ap (take m) f.1 ∙ take-append-le m (full_batches (closed_games front)) f.0 low
    ∙ sym (given_full laws front m low))

-- a batch more
pub within_first : (xs ys : List KeptGames) (m : ℕ) (x : KeptGames) → slice_get xs m ≡ Some x → slice_get (xs ++ ys) m ≡ Some x
within_first xs ys m x at =
    let less = slice_get_within xs m x at in
    let l = length-append xs ys in
    slice_get-get_or (xs ++ ys) m x (omega (arith, less, l)) ∙ ap Some (get_or-append xs ys x m less ∙ get_or_from_slice_get xs m x x at)

pub flat_next : (xs : List KeptGames) (m : ℕ) (x : KeptGames) → slice_get xs m ≡ Some x → flat (take (m + 1) xs) ≡ flat (take m xs) ++ x
flat_next xs m x at =
    let less = slice_get_within xs m x at in
    ap flat (take_more xs m x less ∙ ap (λ y. take m xs ++ y ∷ []) (get_or_from_slice_get xs m x x at))
    ∙ flat_map-append (λ (b : KeptGames). b) (take m xs) (x ∷ []) ∙ ap (λ l. flat (take m xs) ++ l) (append-nil x)

pub last_flat : (games : KeptGames) → flat (as_last games) ≡ games
last_flat [] = refl
last_flat (g ∷ gs) = append-nil (g ∷ gs)

-- all batches are all games
pub all_batches : Laws → (games : KeptGames) → flat (batches games) ≡ games
all_batches laws games =
    flat_map-append (λ (x : KeptGames). x) (full_batches games) (as_last (left_over games)) ∙ ap (λ l. flat (full_batches games) ++ l) (last_flat (left_over games)) ∙ laws.all games

full_if : (b : Bool) (x : KeptGames) (ys zs : List KeptGames) (n : ℕ) → length ys ≤ n → length zs ≤ n → length (if b then x ∷ ys else zs) ≤ n + 1
full_if true x ys zs n f g = omega (arith, f)
full_if false x ys zs n f g = omega (arith, g)

pub full_each : (before games : KeptGames) → length (full_from before games) ≤ length games
unfolding full_from
full_each before [] = omega arith
full_each before (g ∷ gs) =
    let r : length (full_from before (g ∷ gs)) ≤ length gs + 1 =
    full_if (is_full (before ++ g ∷ [])) (before ++ g ∷ []) (full_from [] gs) (full_from (before ++ g ∷ []) gs) (length gs) (full_each [] gs) (full_each (before ++ g ∷ []) gs) in
    omega (arith, r)

pub last_one : (games : KeptGames) → length (as_last games) ≤ 1
last_one [] = omega arith
last_one (g ∷ gs) = omega arith

pub given_few : Laws → (front : List ℕ) (k : ℕ) → length (given front k) ≤ length front
given_few laws front k =
    let bs = batches (cut_games front) in
    let split : given front k ++ flat (drop k bs) ≡ cut_games front =
    sym (flat_map-append (λ (x : KeptGames). x) (take k bs) (drop k bs)) ∙ ap flat (take-append-drop k bs) ∙ all_batches laws (cut_games front) in
    let lengths : length (given front k ++ flat (drop k bs)) ≡ length (cut_games front) = ap length split in
    let parts = length-append (given front k) (flat (drop k bs)) in
    let count = count_within 0 (length front) (cut front) (laws.order front) (omega arith) in
    let same = length-map (cut front) (kept front) in
    omega (arith, lengths, parts, count, same)

-- the games of the whole batches of the first bytes are the first ones of those given
pub given_begins : Laws → (front : List ℕ) (k m : ℕ) → length (full_batches (closed_games (take k front))) ≤ m → (more : KeptGames) × (given front m ≡ whole (take k front) ++ more)
given_begins laws front k m low =
    let full = full_batches (closed_games (take k front)) in
    let grown = full_grows laws (take k front) (drop k front) in
    let first = full_first laws front in
    let more = grown.0 ++ first.0 in
    let are : batches (cut_games front) ≡ full ++ more =
    first.1 ∙ ap (λ f. full_batches (closed_games f) ++ first.0) (sym (take-append-drop k front)) ∙ ap (λ l. l ++ first.0) grown.1 ∙ append_assoc full grown.0 first.0 in
    let parts : m ≡ length full + (m - length full) = omega (arith, low) in
    let taken : take m (full ++ more) ≡ full ++ take (m - length full) more = ap (λ n. take n (full ++ more)) parts ∙ take-append-add full more (m - length full) in
    (flat (take (m - length full) more), ap (λ l. flat (take m l)) are ∙ ap flat taken ∙ flat_map-append (λ (b : KeptGames). b) full (take (m - length full) more))
