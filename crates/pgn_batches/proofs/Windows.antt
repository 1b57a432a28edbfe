-- The part of a game in a window and the piece after it is its kept part.
use Rattle.std.proofs.Common.{◌≡◌, ◌⊎◌, inl, inr, ℕ, ◌+◌, ◌-◌, ◌<◌, ◌≤◌, ◌^◌, zero, suc, List, [], ◌∷◌, ◌++◌, length, map, take, drop, get_or, min, refl, sym, subst, ap, ap₂, ◌∙◌, All, arith, Bool, true, false}
use Rattle.std.specs.Prelude.{slice_range, nat_le}
use Rattle.std.proofs.lemmas.List.{length-append, drop-append-le, take-take, length-map, length-take, length-drop, take_more, drop_all, append_assoc, map-append}
use Rattle.std.proofs.Math.Seq.{drop-append_seam}
use Rattle.std.proofs.lemmas.List.Elements.{All-cons, All-drop, All-head, All-nil}
use Rattle.pgn_cut.specs.Spans.{EndsBy}
use Rattle.pgn_cut.specs.declared.span.Span.{Span}
use Rattle.pgn_batches.specs.KeptGames.{KeptGames, kept, most_kept}
use Rattle.pgn_batches.specs.Windows.{IsInside, IsWindowOf}
use Rattle.pgn_batches.specs.declared.kept_game.KeptGame.{KeptGame}
use Rattle.pgn_batches.specs.declared.state.Window.{Window}

-- ---- lists

take_zero : (xs : List ℕ) → take 0 xs ≡ []
take_zero [] = refl
take_zero (x ∷ xs) = refl

drop_zero : (xs : List ℕ) → drop 0 xs ≡ xs
drop_zero [] = refl
drop_zero (x ∷ xs) = refl

take_append : (n : ℕ) (xs ys : List ℕ) → take n (xs ++ ys) ≡ take n xs ++ take (n - length xs) ys
take_append zero [] ys = refl
take_append zero (x ∷ xs) ys =
    let e : 0 - length (x ∷ xs) ≡ 0 = omega arith in
    sym (ap (λ (k : ℕ). take k ys) e ∙ take_zero ys)
take_append (suc n) [] ys =
    let e : suc n - length {A = ℕ} [] ≡ suc n = omega arith in
    sym (ap (λ (k : ℕ). take k ys) e)
take_append (suc n) (x ∷ xs) ys =
    let e : suc n - length (x ∷ xs) ≡ n - length xs = omega arith in
    ap (λ (l : List ℕ). x ∷ l) (take_append n xs ys ∙ ap (λ (k : ℕ). take n xs ++ take k ys) (sym e))

drop_append : (n : ℕ) (xs ys : List ℕ) → drop n (xs ++ ys) ≡ drop n xs ++ drop (n - length xs) ys
drop_append zero [] ys = refl
drop_append zero (x ∷ xs) ys =
    let e : 0 - length (x ∷ xs) ≡ 0 = omega arith in
    sym (ap (λ (k : ℕ). (x ∷ xs) ++ drop k ys) e ∙ ap (λ (l : List ℕ). (x ∷ xs) ++ l) (drop_zero ys))
drop_append (suc n) [] ys =
    let e : suc n - length {A = ℕ} [] ≡ suc n = omega arith in
    sym (ap (λ (k : ℕ). drop k ys) e)
drop_append (suc n) (x ∷ xs) ys =
    let e : suc n - length (x ∷ xs) ≡ n - length xs = omega arith in
    drop_append n xs ys ∙ ap (λ (k : ℕ). drop n xs ++ drop k ys) (sym e)

take_over : (m n : ℕ) (xs : List ℕ) → n ≤ m → take m (take n xs) ≡ take n xs
take_over zero zero xs less = refl
take_over (suc m) zero xs less = refl
take_over zero (suc n) [] less = refl
take_over (suc m) (suc n) [] less = refl
take_over zero (suc n) (x ∷ xs) less = absurd (omega arith)
take_over (suc m) (suc n) (x ∷ xs) less = ap (λ (l : List ℕ). x ∷ l) (take_over m n xs (omega arith))

-- so many of a list, as far as it has them
take_few : (n : ℕ) (xs : List ℕ) → take (min (length xs) n) xs ≡ take n xs
take_few zero [] = refl
take_few zero (x ∷ xs) = let e : min (length (x ∷ xs)) 0 ≡ 0 = grind arith in ap (λ (k : ℕ). take k (x ∷ xs)) e
take_few (suc n) [] = let e : min (length {A = ℕ} []) (suc n) ≡ 0 = grind arith in ap (λ (k : ℕ). take {A = ℕ} k []) e
take_few (suc n) (x ∷ xs) =
    let e : min (length (x ∷ xs)) (suc n) ≡ suc (min (length xs) n) = grind arith in
    ap (λ (k : ℕ). take k (x ∷ xs)) e ∙ ap (λ (l : List ℕ). x ∷ l) (take_few n xs)

range_from : (xs : List ℕ) (a b : ℕ) → a ≤ length xs → slice_range xs a (min (length xs) b) ≡ take (b - a) (drop a xs)
range_from xs a b inside =
    let l = length-drop a xs in
    let e : min (length xs) b - a ≡ min (length (drop a xs)) (b - a) = grind (arith, l) in
    ap (λ (k : ℕ). take k (drop a xs)) e ∙ take_few (b - a) (drop a xs)

range_first : (xs : List ℕ) (b : ℕ) → slice_range xs 0 (min (length xs) b) ≡ take b xs
range_first xs b = let e : min (length xs) b - 0 ≡ min (length xs) b = omega arith in ap₂ take e (drop_zero xs) ∙ take_few b xs

none_in : (xs : List ℕ) (a b : ℕ) → b ≤ a → slice_range xs a b ≡ []
none_in xs a b less = let e : b - a ≡ 0 = omega arith in ap (λ (k : ℕ). take k (drop a xs)) e

range_case : (b : Bool) (most s e : ℕ) (xs : List ℕ) → nat_le most (e - s) ≡ b → take (min e (s + most) - s) xs ≡ take most (take (e - s) xs)
range_case true most s e xs is =
    let le : most ≤ e - s = grind arith in let n : min e (s + most) - s ≡ most = grind arith in ap (λ (k : ℕ). take k xs) n ∙ sym (take-take most (e - s) xs le)
range_case false most s e xs is =
    let le : e - s ≤ most = grind arith in let n : min e (s + most) - s ≡ e - s = grind arith in ap (λ (k : ℕ). take k xs) n ∙ sym (take_over most (e - s) xs le)

-- ---- a game

-- the part of a list that belongs to a game, as the code takes it; the list's first byte is at `from`
abbrev part_of : List ℕ → ℕ → ℕ → ℕ → List ℕ
part_of bytes from start end = slice_range bytes (min (length bytes) (start - from)) (min (length bytes) (end - from))

-- a game that begins with the window
from_window : (most from at last : ℕ) (archive piece : List ℕ) → length archive ≡ at → from ≤ at → from ≤ last → last - from ≤ most
    → part_of (take most (drop from archive)) from from last ++ part_of piece at from last ≡ take (last - from) (drop from (archive ++ piece))
from_window most from at last archive piece long inside some few =
    let front = drop from archive in
    let bytes = take most front in
    let z : min (length bytes) (from - from) ≡ 0 = grind arith in
    let y : min (length piece) (from - at) ≡ 0 = grind arith in
    let one : part_of bytes from from last ≡ take (last - from) front =
    ap (λ (k : ℕ). slice_range bytes k (min (length bytes) (last - from))) z ∙ range_first bytes (last - from) ∙ take-take (last - from) most front few in
    let two : part_of piece at from last ≡ take (last - at) piece =
    ap (λ (k : ℕ). slice_range piece k (min (length piece) (last - at))) y ∙ range_first piece (last - at) in
    let l = length-drop from archive in
    let n : last - from - length front ≡ last - at = omega (arith, l, long) in
    ap₂ (λ (x y : List ℕ). x ++ y) one (two ∙ ap (λ (k : ℕ). take k piece) (sym n))
    ∙ sym (take_append (last - from) front piece) ∙ ap (take (last - from)) (sym (drop-append-le from archive piece (omega (arith, long))))

-- or in the piece
from_piece : (most from at start last : ℕ) (archive piece : List ℕ) → length archive ≡ at → from ≤ at → at ≤ start → start ≤ last → start ≤ at + length piece
    → part_of (take most (drop from archive)) from start last ++ part_of piece at start last ≡ take (last - start) (drop start (archive ++ piece))
from_piece most from at start last archive piece long inside after some within =
    let bytes = take most (drop from archive) in
    let l = length-take most (drop from archive) in
    let k = length-drop from archive in
    let few : length bytes ≤ at - from = grind (arith, l, k, long) in
    let a : min (length bytes) (start - from) ≡ length bytes = grind (arith, few) in
    let none : part_of bytes from start last ≡ [] =
    ap (λ (n : ℕ). slice_range bytes n (min (length bytes) (last - from))) a ∙ none_in bytes (length bytes) (min (length bytes) (last - from)) (grind arith) in
    let b : min (length piece) (start - at) ≡ start - at = grind arith in
    let n : last - at - (start - at) ≡ last - start = omega arith in
    let some_ : part_of piece at start last ≡ take (last - start) (drop (start - at) piece) =
    ap (λ (n : ℕ). slice_range piece n (min (length piece) (last - at))) b ∙ range_from piece (start - at) (last - at) (omega arith)
    ∙ ap (λ (n : ℕ). take n (drop (start - at) piece)) n in
    let d : drop start (archive ++ piece) ≡ drop (start - at) piece =
    drop_append start archive piece ∙ ap₂ (λ (x y : List ℕ). x ++ y) (drop_all start archive (omega (arith, long))) (ap (λ (n : ℕ). drop (start - n) piece) long) in
    ap₂ (λ (x y : List ℕ). x ++ y) none some_ ∙ ap (take (last - start)) (sym d)

begun : (from at start last : ℕ) (archive piece : List ℕ) → length archive ≡ at → from ≤ at → (start ≡ from) ⊎ (at ≤ start) → start ≤ last → last - start ≤ most_kept
    → start ≤ at + length piece → part_of (take most_kept (drop from archive)) from start last ++ part_of piece at start last ≡ take (last - start) (drop start (archive ++ piece))
begun from at start last archive piece long inside (inl is) some few within =
    subst (λ (s : ℕ). part_of (take most_kept (drop from archive)) from s last ++ part_of piece at s last ≡ take (last - s) (drop s (archive ++ piece))) (sym is)
    (from_window most_kept from at last archive piece long inside (omega (arith, is, some)) (omega (arith, is, few)))
begun from at start last archive piece long inside (inr after) some few within = from_piece most_kept from at start last archive piece long inside after some within

-- the part of a game that the code takes is its kept part
pub cut_out : (w : Window) (at : ℕ) (piece archive : List ℕ) (s : Span) (last : ℕ) → IsWindowOf w archive → length archive ≡ at → IsInside w at (length piece) s → last ≡ min s.end (s.start + most_kept)
    → part_of w.bytes.items w.from s.start last ++ part_of piece at s.start last ≡ take most_kept (slice_range (archive ++ piece) s.start s.end)
cut_out w at piece archive s last shows long inside is =
    let a = inside.some in
    let b = inside.to in
    let c = shows.within in
    subst (λ (l : List ℕ). part_of l w.from s.start last ++ part_of piece at s.start last ≡ take most_kept (slice_range (archive ++ piece) s.start s.end)) (sym shows.is)
    (begun w.from at s.start last archive piece long (omega (arith, c, long)) inside.begins (grind (arith, is, a)) (grind (arith, is, a)) (omega (arith, a, b))
    ∙ ap (λ (k : ℕ). take (k - s.start) (drop s.start (archive ++ piece))) is ∙ range_case (nat_le most_kept (s.end - s.start)) most_kept s.start s.end (drop s.start (archive ++ piece)) refl)

-- the kept part of a game in a list
pub kept_out : (bytes : List ℕ) (s : Span) (last : ℕ) → s.start < s.end → s.end ≤ length bytes → last ≡ min s.end (s.start + most_kept)
    → part_of bytes 0 s.start last ≡ take most_kept (slice_range bytes s.start s.end)
kept_out bytes s last some inside is =
    let a : min (length bytes) (s.start - 0) ≡ s.start = grind (arith, some, inside) in
    let z : last - 0 ≡ last = omega arith in
    ap₂ (slice_range bytes) a (ap (min (length bytes)) z) ∙ range_from bytes s.start last (omega (arith, some, inside))
    ∙ ap (λ (k : ℕ). take (k - s.start) (drop s.start bytes)) is ∙ range_case (nat_le most_kept (s.end - s.start)) most_kept s.start s.end (drop s.start bytes) refl

pub most_is : most_kept ≡ 2 ^ 24 + 1
unfolding most_kept
most_is = refl

-- ---- more bytes

-- the window grows by a piece, as far as it may
grows : (most from : ℕ) (archive piece : List ℕ) (n : ℕ) → from ≤ length archive → n ≡ most - length (take most (drop from archive))
    → take most (drop from archive) ++ take (min (length piece) n) piece ≡ take most (drop from (archive ++ piece))
grows most from archive piece n inside is =
    let l = length-take most (drop from archive) in
    let e : n ≡ most - length (drop from archive) = grind (arith, l, is) in
    ap (λ (x : List ℕ). take most (drop from archive) ++ x) (take_few n piece ∙ ap (λ (k : ℕ). take k piece) e)
    ∙ sym (take_append most (drop from archive) piece) ∙ ap (take most) (sym (drop-append-le from archive piece inside))

pub grown : (was now : Window) (piece : List ℕ) (n : ℕ) → now.from ≡ was.from → now.bytes.items ≡ was.bytes.items ++ take (min (length piece) n) piece
    → n ≡ most_kept - length was.bytes.items → (archive : List ℕ) → IsWindowOf was archive → IsWindowOf now (archive ++ piece)
grown was now piece n from more room archive shows =
    let l = length-append archive piece in
    let w = shows.within in
    record {
      within = omega (arith, l, w, from);
      is = more ∙ ap (λ (x : List ℕ). x ++ take (min (length piece) n) piece) shows.is
          ∙ grows most_kept was.from archive piece n w (room ∙ ap (λ (x : List ℕ). most_kept - length x) shows.is)
          ∙ ap (λ (k : ℕ). take most_kept (drop k (archive ++ piece))) (sym from);
    }

take_none : (n : ℕ) → take {A = ℕ} n [] ≡ []
take_none zero = refl
take_none (suc n) = refl

-- the window begins anew after so many bytes of the piece
pub anew : (mid : Window) (at passed : ℕ) (archive piece : List ℕ) → length archive ≡ at → passed ≤ length piece → mid.from ≡ at + passed → mid.bytes.items ≡ []
    → IsWindowOf mid (archive ++ take passed piece)
anew mid at passed archive piece long few from none =
    let l = length-append archive (take passed piece) in
    let k = length-take passed piece in
    let e : length (archive ++ take passed piece) ≡ at + passed = grind (arith, l, k, long, few) in
    record {
      within = omega (arith, e, from);
      is = none ∙ sym (take_none most_kept) ∙ ap (take most_kept) (sym (drop_all mid.from (archive ++ take passed piece) (omega (arith, e, from))));
    }

pub few_games : (game : Span → KeptGame) (games : KeptGames) (ss : List Span) (i : ℕ) → length games + length ss < 2 ^ 61 → length (games ++ map game (take i ss)) < 2 ^ 61
few_games game games ss i few = omega (arith, length-append games (map game (take i ss)), length-map (take i ss) game, length-take i ss)

-- one game more
pub more_kept : (game : Span → KeptGame) (games : KeptGames) (ss : List Span) (i : ℕ) (d : Span) → i < length ss
    → (games ++ map game (take i ss)) ++ game (get_or ss i d) ∷ [] ≡ games ++ map game (take (i + 1) ss)
more_kept game games ss i d inside =
    append_assoc games (map game (take i ss)) (game (get_or ss i d) ∷ [])
    ∙ ap (λ (l : KeptGames). games ++ l) (sym (map-append game (take i ss) (get_or ss i d ∷ [])) ∙ ap (map game) (sym (take_more ss i d inside)))

span_ends : (archive : List ℕ) (before : List Span) (s : Span) (after : List Span) → All (EndsBy (length archive)) (before ++ s ∷ after) → EndsBy (length archive) s
span_ends archive before s after ends =
    All-head (EndsBy (length archive)) s after
    (subst (All (EndsBy (length archive))) (drop-append_seam before (s ∷ after)) (All-drop (EndsBy (length archive)) (length before) (before ++ s ∷ after) ends))

-- one of some games of an archive
pub inside_of : (archive : List ℕ) (before ss after : List Span) (i : ℕ) (d : Span) → i < length ss → All (EndsBy (length archive)) (before ++ (ss ++ after))
    → EndsBy (length archive) (get_or ss i d)
inside_of archive before [] after i d inside ends = absurd (omega (arith, inside))
inside_of archive before (s ∷ ss) after zero d inside ends = span_ends archive before s (ss ++ after) ends
inside_of archive before (s ∷ ss) after (suc i) d inside ends =
    inside_of archive (before ++ s ∷ []) ss after i d (omega (arith, inside)) (subst (All (EndsBy (length archive))) (sym (append_assoc before (s ∷ []) (ss ++ after))) ends)

-- the games of a batch begin where their archive is
pub starts_of : (archive : List ℕ) (before ss after : List Span) → All (EndsBy (length archive)) (before ++ (ss ++ after)) → length archive < 2 ^ 62
    → All (λ g. g.start < 2 ^ 62) (map (kept archive) ss)
starts_of archive before [] after ends few = All-nil (λ (g : KeptGame). g.start < 2 ^ 62)
starts_of archive before (s ∷ ss) after ends few =
    let here = span_ends archive before s (ss ++ after) ends in
    let some = here.0 in
    let most = here.1 in
    All-cons (λ (g : KeptGame). g.start < 2 ^ 62) (kept archive s) (map (kept archive) ss) (omega (arith, some, most, few))
    (starts_of archive (before ++ s ∷ []) ss after (subst (All (EndsBy (length archive))) (sym (append_assoc before (s ∷ []) (ss ++ after))) ends) few)
