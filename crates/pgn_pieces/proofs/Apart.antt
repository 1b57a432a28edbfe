-- Each piece, cut by itself, has exactly its games.
use Rattle.std.proofs.Common.{◌≡◌, ◌⊎◌, ℕ, zero, suc, ◌+◌, ◌-◌, ◌<◌, ◌≤◌, List, [], ◌∷◌, ◌++◌, length, take, drop, map, slice_range, refl, sym, subst, ap, ap₂, ◌∙◌, arith, append_assoc, inl, inr}
use Rattle.std.proofs.lemmas.Bool.{cases_lt, lt-ltb, le-ltb}
use Rattle.std.specs.List.{AllByRecursion}
use Rattle.std.proofs.lemmas.List.{append-nil, length-append, length-take, length-drop, take_all, take-append-drop, take-append-le, drop-append-le}
use Rattle.pgn_lexer.specs.Bytes.{space}
use Rattle.pgn_lexer.specs.Lexemes.{tokens_of}
use Rattle.pgn_cut.specs.Cut.{cut}
use Rattle.pgn_cut.specs.GameTokens.{game_bytes}
use Rattle.pgn_cut.specs.Seams.{spaced_rest, moved_token, IsMovedGame, AreMovedGames, IsSeam}
use Rattle.pgn_cut.specs.Spans.{AreSpansInOrder}
use Rattle.pgn_cut.specs.declared.span.Span.{Span}
use Rattle.pgn_pieces.specs.Apart.{IsCutInto, HasItsGames}
use Rattle.pgn_pieces.specs.Pieces.{end_of, IsLongEnough, piece_to, piece_bytes, after, start, last_piece, AreFull, ArePieces}
use Rattle.pgn_pieces.specs.declared.piece.Piece.{Piece}
use Rattle.pgn_pieces.specs.declared.piece.PieceStart.{PieceStart}
use Rattle.pgn_pieces.proofs.Fills.{end_append, long_end, next_from, full_end, order_after, end_not_before}
use Rattle.pgn_pieces.proofs.Streams.{Order}

-- the claim of the law of seams
abbrev pub Seams : Type 0
Seams = (archive : List ℕ) (before : List Span) (game : Span) (after : List Span) → cut archive ≡ before ++ game ∷ after → IsSeam archive before game after

-- ---- games that are moved, one by one

-- as the moved games are two parts, so are the games
record AreParted (n : ℕ) (here there : List ℕ) (games front back : List Span) : Type 0 where
  first : List Span
  second : List Span
  are : games ≡ first ++ second
  front_moved : AreMovedGames n here there first front
  back_moved : AreMovedGames n here there second back

parted : (n : ℕ) (here there : List ℕ) (games front back : List Span) → AreMovedGames n here there games (front ++ back) → AreParted n here there games front back
parted n here there games [] back moved = record { first = []; second = games; are = refl; front_moved = tt; back_moved = moved }
parted n here there [] (m ∷ front) back moved = absurd moved
parted n here there (g ∷ games) (m ∷ front) back moved =
    let rest = parted n here there games front back moved.1 in
    record { first = g ∷ rest.first; second = rest.second; are = ap (λ l. g ∷ l) rest.are; front_moved = (moved.0, rest.front_moved); back_moved = rest.back_moved }

-- the last of the moved games is that of a last game
record HasLast (n : ℕ) (here there : List ℕ) (games : List Span) (last : Span) : Type 0 where
  fewer : List Span
  game : Span
  are : games ≡ fewer ++ game ∷ []
  ends : last.end ≡ game.end + n

last_of : (n : ℕ) (here there : List ℕ) (games fewer : List Span) (last : Span) → AreMovedGames n here there games (fewer ++ last ∷ []) → HasLast n here there games last
last_of n here there [] [] last moved = absurd moved
last_of n here there (g ∷ []) [] last moved = record { fewer = []; game = g; are = refl; ends = moved.0.ends }
last_of n here there (g ∷ h ∷ games) [] last moved = absurd moved.1
last_of n here there [] (m ∷ fewer) last moved = absurd moved
last_of n here there (g ∷ games) (m ∷ fewer) last moved =
    let rest = last_of n here there games fewer last moved.1 in
    record { fewer = g ∷ rest.fewer; game = rest.game; are = ap (λ l. g ∷ l) rest.are; ends = rest.ends }

-- a part of a prefix of a text is one of the text
part_of_front : (front more : List ℕ) (from to : ℕ) → from ≤ to → to ≤ length front → slice_range (front ++ more) from to ≡ slice_range front from to
part_of_front front more from to low high =
    ap (take (to - from)) (drop-append-le from front more (omega (arith, low, high)))
    ∙ take-append-le (to - from) (drop from front) more (let len = length-drop from front in omega (arith, len, low, high))

-- games of a prefix of a text are moved alike
moved_in_front : (n : ℕ) (front more there : List ℕ) (from to : ℕ) (games others : List Span) → to ≤ length front → AreSpansInOrder from to games
    → AreMovedGames n (front ++ more) there games others → AreMovedGames n front there games others
moved_in_front n front more there from to [] [] high order moved = tt
moved_in_front n front more there from to [] (m ∷ others) high order moved = absurd moved
moved_in_front n front more there from to (g ∷ games) [] high order moved = absurd moved
moved_in_front n front more there from to (g ∷ games) (m ∷ others) high order moved = (
  record {
    starts = moved.0.starts;
    ends = moved.0.ends;
    tokens = subst (λ bytes. tokens_of m.start m.first (game_bytes there m) ≡ map (moved_token n) (tokens_of g.start g.first bytes))
        (part_of_front front more g.start g.end (let e = order.1.0 in omega (arith, e)) (let e = order.1.1 in omega (arith, e, high))) moved.0.tokens;
  },
  moved_in_front n front more there g.end to games others high order.2 moved.1,
)

-- ---- one piece

-- the end of the games before a piece
abbrev IsBehind : List Span → ℕ → Type 0
IsBehind before from = ((before ≡ []) × (from ≡ 0)) ⊎ ((xs : List Span) × (g : Span) × (before ≡ xs ++ g ∷ []) × (from ≡ g.end) × (0 < from))

module _ (seams : Seams) (order : Order) (archive : List ℕ) where
  -- the bytes after a seam up to the end of one of its games, cut by itself
  between : (xs : List Span) (g : Span) (fewer : List Span) (last : Span) (others : List Span) → 0 < g.end → g.end < last.end
      → cut archive ≡ xs ++ g ∷ ((fewer ++ last ∷ []) ++ others)
      → AreMovedGames (g.end - 1) (space ∷ take (last.end - g.end) (drop g.end archive)) archive (cut (space ∷ take (last.end - g.end) (drop g.end archive))) (fewer ++ last ∷ [])
  between xs g fewer last others some longer are =
      let n : ℕ = g.end - 1 in
      let rest : List ℕ = spaced_rest archive g.end in
      let p = parted n rest archive (cut rest) (fewer ++ last ∷ []) others (seams archive xs g ((fewer ++ last ∷ []) ++ others) are).rest in
      let l = last_of n rest archive p.first fewer last p.front_moved in
      let cut_rest : cut rest ≡ l.fewer ++ l.game ∷ p.second = p.are ∙ ap (λ x. x ++ p.second) l.are ∙ append_assoc l.fewer (l.game ∷ []) p.second in
      let ends = l.ends in
      let bytes : List ℕ = space ∷ take (last.end - g.end) (drop g.end archive) in
      let long : l.game.end ≡ suc (last.end - g.end) = omega (arith, ends, some, longer) in
      let front : cut bytes ≡ p.first = ap (λ k. cut (take k rest)) (sym long) ∙ (seams rest l.fewer l.game p.second cut_rest).front ∙ sym l.are in
      let whole : rest ≡ bytes ++ drop (last.end - g.end) (drop g.end archive) = ap (λ x. space ∷ x) (sym (take-append-drop (last.end - g.end) (drop g.end archive))) in
      subst (λ games. AreMovedGames n bytes archive games (fewer ++ last ∷ [])) (sym front)
      (moved_in_front n bytes (drop (last.end - g.end) (drop g.end archive)) archive 0 (length bytes) p.first (fewer ++ last ∷ []) (omega arith)
      (subst (AreSpansInOrder 0 (length bytes)) front (order bytes))
      (subst (λ text. AreMovedGames n text archive p.first (fewer ++ last ∷ [])) whole p.front_moved))

  alone_by : (bytes : List ℕ) (from : ℕ) (games : List Span) → 0 < from → AreMovedGames (from - 1) (space ∷ bytes) archive (cut (space ∷ bytes)) games → IsCutInto archive bytes from games
  alone_by bytes zero games some moved = absurd (omega (arith, some))
  alone_by bytes (suc k) games some moved = subst (λ n. AreMovedGames n (space ∷ bytes) archive (cut (space ∷ bytes)) games) (let e : suc k - 1 ≡ k = omega arith in e) moved

  -- a full piece
  full_alone : (before fewer : List Span) (last : Span) (others : List Span) (from : ℕ) → IsBehind before from → from < last.end → cut archive ≡ before ++ ((fewer ++ last ∷ []) ++ others)
      → IsCutInto archive (take (last.end - from) (drop from archive)) from (fewer ++ last ∷ [])
  full_alone before fewer last others from (inl none) longer are =
      subst (λ k. IsCutInto archive (take (last.end - k) (drop k archive)) k (fewer ++ last ∷ [])) (sym none.1)
      (ap (λ k. cut (take k archive)) (let e : last.end - 0 ≡ last.end = omega arith in e)
      ∙ (seams archive fewer last others (are ∙ ap (λ b. b ++ ((fewer ++ last ∷ []) ++ others)) none.0 ∙ append_assoc fewer (last ∷ []) others)).front)
  full_alone before fewer last others from (inr (xs, g, xs_are, ends, some)) longer are =
      subst (λ k. IsCutInto archive (take (last.end - k) (drop k archive)) k (fewer ++ last ∷ [])) (sym ends)
      (alone_by (take (last.end - g.end) (drop g.end archive)) g.end (fewer ++ last ∷ []) (omega (arith, some, ends))
      (between xs g fewer last others (omega (arith, some, ends)) (omega (arith, longer, ends))
      (are ∙ ap (λ b. b ++ ((fewer ++ last ∷ []) ++ others)) xs_are ∙ append_assoc xs (g ∷ []) ((fewer ++ last ∷ []) ++ others))))

  -- the last piece
  rest_alone : (before games : List Span) (from : ℕ) → IsBehind before from → cut archive ≡ before ++ games
      → IsCutInto archive (take (length archive - from) (drop from archive)) from games
  rest_alone before games from (inl none) are =
      subst (λ k. IsCutInto archive (take (length archive - k) (drop k archive)) k games) (sym none.1)
      (ap cut (take_all (length archive - 0) archive (omega arith)) ∙ are ∙ ap (λ b. b ++ games) none.0)
  rest_alone before games from (inr (xs, g, xs_are, ends, some)) are =
      let bytes : take (length archive - g.end) (drop g.end archive) ≡ drop g.end archive =
      take_all (length archive - g.end) (drop g.end archive) (let len = length-drop g.end archive in omega (arith, len)) in
      subst (λ k. IsCutInto archive (take (length archive - k) (drop k archive)) k games) (sym ends)
      (alone_by (take (length archive - g.end) (drop g.end archive)) g.end games (omega (arith, some, ends))
      (subst (λ b. AreMovedGames (g.end - 1) (space ∷ b) archive (cut (space ∷ b)) games) (sym bytes)
      (seams archive xs g games (are ∙ ap (λ b. b ++ games) xs_are ∙ append_assoc xs (g ∷ []) games)).rest))

  -- ---- all of them

  abbrev AreApart : List Piece → Type 0
  AreApart ps = AllByRecursion (HasItsGames archive) ps

  -- the pieces after some games: the full ones, and then those that `later` gives of the place at which they stop
  full_apart : (least : ℕ) → 0 < least → (here : PieceStart) (games : List Span) (ps : List Piece) (stop : PieceStart) (before tail : List Span) (more : List Piece) → AreFull least here games ps stop
      → cut archive ≡ before ++ (games ++ tail) → here.first ≡ length before + 1 → IsBehind before here.from
      → ((behind : List Span) → cut archive ≡ behind ++ tail → stop.first ≡ length behind + 1 → IsBehind behind stop.from → AreApart more)
      → AreApart (ps ++ more)
  unfolding AreFull
  full_apart least some here games [] stop before tail more full are first behind later =
      later before (are ∙ ap (λ g. before ++ (g ++ tail)) full.0) (ap (λ (p : PieceStart). p.first) (sym full.1) ∙ first) (subst (λ (p : PieceStart). IsBehind before p.from) full.1 behind)
  full_apart least some here games (p ∷ ps) stop before tail more full are first behind later =
      let mine : List Span = full.0 in
      let others : List Span = full.1 in
      let long = full.3 in
      let ends : end_of here.from mine ≡ long.last.end = long_end least here.from mine long in
      let longer : here.from < long.last.end = (let l = long.long in omega (arith, l, some)) in
      let mine_are : mine ≡ long.fewer ++ long.last ∷ [] = long.are in
      let all : cut archive ≡ before ++ (mine ++ (others ++ tail)) = are ∙ ap (λ g. before ++ (g ++ tail)) full.2 ∙ ap (λ l. before ++ l) (append_assoc mine others tail) in
      let q : Piece = piece_to here (end_of here.from mine) (length mine) in
      let count = length-append before mine in (
        subst (HasItsGames archive) (sym full.4) (record {
          before = before;
          games = mine;
          after = others ++ tail;
          are = all;
          first = first;
          count = refl;
          alone = subst (λ to. IsCutInto archive (take (to - here.from) (drop here.from archive)) here.from mine) (sym ends)
              (subst (λ m. IsCutInto archive (take (long.last.end - here.from) (drop here.from archive)) here.from m) (sym mine_are)
              (full_alone before long.fewer long.last (others ++ tail) here.from behind longer (all ∙ ap (λ m. before ++ (m ++ (others ++ tail))) mine_are)));
        }),
        full_apart least some (after p) others ps stop (before ++ mine) tail more full.5 (all ∙ sym (append_assoc before mine (others ++ tail)))
            (ap (λ (x : Piece). x.first + x.games) full.4 ∙ (let e : here.first + length mine ≡ length (before ++ mine) + 1 = omega (arith, first, count) in e))
            (inr (
              before ++ long.fewer,
              long.last,
              ap (λ m. before ++ m) mine_are ∙ sym (append_assoc before long.fewer (long.last ∷ [])),
              next_from least here p mine long full.4 ∙ ends,
              (let e = next_from least here p mine long full.4 ∙ ends in omega (arith, e, longer)),
            ))
            later,
      )

  last_apart : (stop : PieceStart) (behind rest : List Span) → cut archive ≡ behind ++ rest → stop.first ≡ length behind + 1 → IsBehind behind stop.from
      → (stop.from < length archive) ⊎ (length archive ≤ stop.from) → AreApart (last_piece stop (length archive) (length rest))
  last_apart stop behind rest are first is_behind (inl some) = rw (lt-ltb stop.from (length archive) some) (
    record {
      before = behind;
      games = rest;
      after = [];
      are = are ∙ ap (λ r. behind ++ r) (sym (append-nil rest));
      first = first;
      count = refl;
      alone = rest_alone behind rest stop.from is_behind are;
    },
    tt,
  )
  last_apart stop behind rest are first is_behind (inr none) = rw (le-ltb stop.from (length archive) none) tt

  -- pieces have at least one byte, since the last games would else be short of none
  some_least : (least : ℕ) (pieces : List Piece) → ArePieces least archive pieces → 0 < least
  some_least least pieces are =
      let f = are.fill in
      let ends : end_of 0 f.taken ≡ are.stop.from = full_end least start f.taken are.full are.stop f.full in
      let later : AreSpansInOrder (end_of 0 f.taken) (length archive) f.rest = order_after 0 (length archive) f.taken f.rest (subst (AreSpansInOrder 0 (length archive)) f.are (order archive)) in
      let low = end_not_before are.stop.from (length archive) f.rest (subst (λ k. AreSpansInOrder k (length archive) f.rest) ends later) in
      let short = f.short in
      omega (arith, low, short)

  pub pieces_apart : (least : ℕ) (pieces : List Piece) → ArePieces least archive pieces → AllByRecursion (HasItsGames archive) pieces
  pieces_apart least pieces are =
      let f = are.fill in
      let some = some_least least pieces are in
      subst AreApart (sym are.are)
      (full_apart least some start f.taken are.full are.stop [] f.rest (last_piece are.stop (length archive) (length f.rest)) f.full f.are refl (inl (refl, refl))
      (λ behind are_behind first is_behind. last_apart are.stop behind f.rest are_behind first is_behind (cases_lt are.stop.from (length archive))))
