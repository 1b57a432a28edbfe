-- `Batches` before and after a piece.
use Rattle.std.proofs.Common.{◌≡◌, ◌⊎◌, ℕ, ◌+◌, ◌-◌, ◌<◌, ◌≤◌, ◌^◌, List, [], ◌∷◌, ◌++◌, length, map, drop, get_or, refl, sym, subst, ap, ap₂, ◌∙◌, All, arith, true, false, inl, inr, Option, None, Some, min, Result, Ok, Err, OnOk}
use Rattle.std.specs.Option.{unwrap_or}
use Rattle.std.proofs.lemmas.Bool.{cases_lt}
use Rattle.std.proofs.lemmas.List.{map-append, append_assoc, append-nil, length-append, length-map, drop-drop}
use Rattle.std.proofs.Math.Seq.{drop-append_seam}
use Rattle.std.proofs.lemmas.List.Elements.{All-nil, All-cons, All-head, All-drop}
use Rattle.pgn_cut.specs.Cut.{cut, closed}
use Rattle.pgn_cut.specs.OpenGames.{AreOpenAt, IsOpenAt, later_games}
use Rattle.pgn_cut.specs.Spans.{EndsBy, AreSpansInOrder}
use Rattle.pgn_cut.specs.Streams.{Stands as CutterStands}
use Rattle.pgn_cut.specs.declared.span.Span.{Span}
use Rattle.pgn_cut.specs.declared.cutter.Cutter.{Cutter}
use Rattle.pgn_batches.specs.KeptGames.{KeptGames, kept}
use Rattle.pgn_batches.specs.Queues.{Fills}
use Rattle.pgn_batches.specs.Streams.{Stands}
use Rattle.pgn_batches.specs.Whole.{closed_games, cut_games}
use Rattle.pgn_batches.specs.Windows.{BeginsInWindow, HasOpen, IsInside, IsWindowOf}
use Rattle.pgn_batches.specs.declared.state.Batches.{Batches}
use Rattle.pgn_batches.specs.declared.state.Window.{Window}
use Rattle.pgn_batches.proofs.KeptStay.{Grow, Within, Split, All_front, closed_within, all_stay}

abbrev pub Order : Type 0
Order = (archive : List ℕ) → AreSpansInOrder 0 (length archive) (cut archive)

pub count_within : (a b : ℕ) (ss : List Span) → AreSpansInOrder a b ss → a ≤ b → a + length ss ≤ b
count_within a b [] order low = omega arith
count_within a b (s ∷ ss) order low =
    let r = count_within s.end b ss order.2 order.1.1 in let p = order.0 in let e = order.1.0 in omega arith

-- ---- the games that a piece closes, and those after them

pub record IsFed (front piece : List ℕ) (news : List Span) : Type 0 where
  pub closes : closed (front ++ piece) ≡ closed front ++ news
  pub last : List Span
  pub cuts : cut (front ++ piece) ≡ closed front ++ (news ++ last)

pub piece_is_fed : Grow → Split → (front piece : List ℕ) (news : List Span) → news ≡ drop (length (closed front)) (closed (front ++ piece)) → IsFed front piece news
piece_is_fed grow whole_ front piece news are =
    let g = grow front piece in
    let w = whole_ (front ++ piece) in
    let same : news ≡ g.0 = are ∙ ap (drop (length (closed front))) g.1 ∙ drop-append_seam (closed front) g.0 in
    let closes : closed (front ++ piece) ≡ closed front ++ news = g.1 ∙ ap (λ (l : List Span). closed front ++ l) (sym same) in
    record { closes = closes; last = w.0; cuts = w.1 ∙ ap (λ (l : List Span). l ++ w.0) closes ∙ append_assoc (closed front) news w.0 }

-- the same of the games that the end closes
pub ended : Split → (front : List ℕ) (news : List Span) → news ≡ drop (length (closed front)) (cut front) → cut front ≡ closed front ++ news
ended whole_ front news are =
    let w = whole_ front in
    let same : news ≡ w.0 = are ∙ ap (drop (length (closed front))) w.1 ∙ drop-append_seam (closed front) w.0 in
    w.1 ∙ ap (λ (l : List Span). closed front ++ l) (sym same)

All_back : (P : Span → Type 0) (xs ys : List Span) → All P (xs ++ ys) → All P ys
All_back P xs ys all = subst (All P) (drop-append_seam xs ys) (All-drop P (length xs) (xs ++ ys) all)

-- a property of all games of a cut holds of some of them
middle : (P : Span → Type 0) (all before news last : List Span) → all ≡ before ++ (news ++ last) → All P all → All P news
middle P all before news last is holds = All_front P news last (All_back P before (news ++ last) (subst (All P) is holds))

few_of : Order → (archive : List ℕ) (before news last : List Span) → cut archive ≡ before ++ (news ++ last) → length before + length news ≤ length archive
few_of order archive before news last is =
    let c = count_within 0 (length archive) (cut archive) (order archive) (omega arith) in
    let e : length (cut archive) ≡ length (before ++ (news ++ last)) = ap length is in
    let l = length-append before (news ++ last) in
    let k = length-append news last in
    omega (arith, c, e, l, k)

pub few_closed : Order → (front archive : List ℕ) (news last : List Span) → cut archive ≡ closed front ++ (news ++ last) → length archive < 2 ^ 61
    → length (closed_games front) + length news < 2 ^ 61
few_closed order front archive news last is few =
    let f = few_of order archive (closed front) news last is in
    let k = length-map (closed front) (kept front) in omega (arith, f, k, few)

-- ---- games in the window and the piece

pub inside : Within → (w : Window) (front piece : List ℕ) (news last : List Span) (at : ℕ) → HasOpen w front → at ≡ length front
    → cut (front ++ piece) ≡ closed front ++ (news ++ last) → All (IsInside w at (length piece)) news
inside within w front piece news last at opens here is = λ i d below.
    let later : later_games front piece ≡ news ++ last = ap (drop (length (closed front))) is ∙ drop-append_seam (closed front) (news ++ last) in
    let s = get_or news i d in
    let begins = All_front (BeginsInWindow w (length front)) news last (subst (All (BeginsInWindow w (length front))) later (opens piece)) i d below in
    let ends = middle (EndsBy (length (front ++ piece))) (cut (front ++ piece)) (closed front) news last is (within (front ++ piece)) i d below in
    let some = ends.0 in
    let most = ends.1 in
    let l = length-append front piece in
    record { begins = subst (λ (k : ℕ). BeginsInWindow w k s) (sym here) begins; some = some; to = omega (arith, most, l, here) }

-- ---- where the open game begins after a piece

later_on : Grow → (front piece more : List ℕ) (P : Span → Type 0) → All P (later_games front (piece ++ more)) → All P (later_games (front ++ piece) more)
later_on grow front piece more P all =
    let g = grow front piece in
    let n : length (closed (front ++ piece)) ≡ length (closed front) + length g.0 = ap length g.1 ∙ length-append (closed front) g.0 in
    let d : later_games (front ++ piece) more ≡ drop (length g.0) (later_games front (piece ++ more)) =
    ap₂ drop n (ap cut (append_assoc front piece more)) ∙ sym (drop-drop (length g.0) (length (closed front)) (cut (front ++ (piece ++ more)))) in
    subst (All P) (sym d) (All-drop P (length g.0) (later_games front (piece ++ more)) all)

-- a game begins at a place where a game is open, or at another or after it
abbrev IsAtPlace : Option ℕ → ℕ → Span → Type 0
IsAtPlace None n s = n ≤ s.start
IsAtPlace (Some p) n s = (s.start ≡ p) ⊎ (n ≤ s.start)

first_place : (p n m k : ℕ) → (k ≡ p) ⊎ ((n < m) × (n ≤ k)) → (k ≡ p) ⊎ (n ≤ k)
first_place p n m k (inl is) = inl is
first_place p n m k (inr after) = inr after.1

at_place : (o : Option ℕ) (front more : List ℕ) (games : List Span) → AreOpenAt o front more games → All (IsAtPlace o (length front)) games
at_place None front more games from = from
at_place (Some p) front more [] from = All-nil (IsAtPlace (Some p) (length front))
at_place (Some p) front more (g ∷ games) from =
    All-cons (IsAtPlace (Some p) (length front)) g games (first_place p (length front) _ g.start from.0) (λ i d below. inr (from.1 i d below))

goes_before : (was now : Window) (at size end p : ℕ) (s : Span) → s.start ≡ p → p < at → (p < at → now.from ≡ was.from) → BeginsInWindow was at s → BeginsInWindow now end s
goes_before was now at size end p s is low same (inl old) = inl (old ∙ sym (same low))
goes_before was now at size end p s is low same (inr old) = absurd (omega (arith, old, is, low))

goes_after : (now : Window) (at size end p : ℕ) (s : Span) → end ≡ at + size → s.start ≡ p → now.from ≡ min p (at + size) → (at + size < p) ⊎ (p ≤ at + size) → BeginsInWindow now end s
goes_after now at size end p s long is from (inl beyond) = inr (omega (arith, long, is, beyond))
goes_after now at size end p s long is from (inr within) = inl (let m : min p (at + size) ≡ p = grind (arith, within) in is ∙ sym (from ∙ m))

-- the window moves to where a game is open, or to the end of the piece
pub record MovesTo (was now : Window) (o : Option ℕ) (at size : ℕ) : Type 0 where
  pub place : ℕ
  pub is : place ≡ unwrap_or o (at + size)
  pub same : place < at → now.from ≡ was.from
  pub moved : at ≤ place → now.from ≡ min place (at + size)

begins_by : (was now : Window) (o : Option ℕ) (at size end : ℕ) (s : Span) → (moves : MovesTo was now o at size) → end ≡ at + size → s.start ≡ moves.place
    → BeginsInWindow was at s → (moves.place < at) ⊎ (at ≤ moves.place) → BeginsInWindow now end s
begins_by was now o at size end s moves long is old (inl low) = goes_before was now at size end moves.place s is low moves.same old
begins_by was now o at size end s moves long is old (inr high) = goes_after now at size end moves.place s long is (moves.moved high) (cases_lt (at + size) moves.place)

begins : (was now : Window) (o : Option ℕ) (at size end : ℕ) (s : Span) → MovesTo was now o at size → end ≡ at + size → BeginsInWindow was at s → IsAtPlace o end s → BeginsInWindow now end s
begins was now None at size end s moves long old new = inr new
begins was now (Some p) at size end s moves long old (inr new) = inr new
begins was now (Some p) at size end s moves long old (inl new) = begins_by was now (Some p) at size end s moves long (new ∙ sym moves.is) old (cases_lt moves.place at)

pub opened : Grow → (was now : Window) (o : Option ℕ) (front piece : List ℕ) (at : ℕ) → at ≡ length front → HasOpen was front → IsOpenAt o (front ++ piece)
    → MovesTo was now o at (length piece) → HasOpen now (front ++ piece)
opened grow was now o front piece at here old open_ moves = λ more i d below.
    let l = length-append front piece in
    let olds = later_on grow front piece more (BeginsInWindow was (length front)) (old (piece ++ more)) i d below in
    let news = at_place o (front ++ piece) more (later_games (front ++ piece) more) (open_ more) i d below in
    let s = get_or (later_games (front ++ piece) more) i d in
    begins was now o at (length piece) (length (front ++ piece)) s moves (l ∙ ap (λ (k : ℕ). k + length piece) (sym here))
    (subst (λ (k : ℕ). BeginsInWindow was k s) (sym here) olds) news

-- ---- the state

-- the queue was given the games of these spans
abbrev pub AreQueued : Batches → Batches → List ℕ → List Span → Type 0
AreQueued b now archive news = (games : KeptGames) (m : ℕ) → Fills b.queue games m → Fills now.queue (games ++ map (kept archive) news) m

-- the state after a piece was taken, with the games of these spans
pub record TookPiece (b now : Batches) (front piece : List ℕ) (news : List Span) : Type 0 where
  pub cutter : CutterStands now.cutter (front ++ piece)
  pub taken : now.taken ≡ b.taken + length piece
  pub few : length (front ++ piece) ≤ now.limit + 1
  pub shows : IsWindowOf now.window (front ++ piece)
  pub opens : HasOpen now.window (front ++ piece)
  pub open_ : b.ended ≡ false
  pub still : now.ended ≡ false
  pub fills : AreQueued b now (front ++ piece) news

-- a piece was taken
pub goes_on : Within → Split → (b now : Batches) (front piece : List ℕ) (m : ℕ) (news : List Span) → Stands b front m → IsFed front piece news
    → TookPiece b now front piece news → Stands now (front ++ piece) m
goes_on within whole_ b now front piece m news was is took =
    let games : closed_games (front ++ piece) ≡ closed_games front ++ map (kept (front ++ piece)) news =
    ap (map (kept (front ++ piece))) is.closes ∙ map-append (kept (front ++ piece)) (closed front) news
    ∙ ap (λ (x : KeptGames). x ++ map (kept (front ++ piece)) news) (all_stay front piece (closed front) (closed_within within whole_ front)) in
    record {
      cutter = took.cutter;
      taken = took.taken ∙ ap (λ (n : ℕ). n + length piece) was.taken ∙ sym (length-append front piece);
      few = took.few;
      window = took.shows;
      opens = took.opens;
      open_ = λ o. subst (λ (gs : KeptGames). Fills now.queue gs m) (sym games) (took.fills (closed_games front) m (was.open_ took.open_));
      at_end = λ e. let still = took.still in absurd (grind arith);
    }

-- nothing is closed where nothing was taken
none_ends : (ss : List Span) → All (EndsBy 0) ss → ss ≡ []
none_ends [] all = refl
none_ends (s ∷ ss) all = let h = All-head (EndsBy 0) s ss all in let p = h.0 in let q = h.1 in absurd (omega arith)

pub starts : Within → Split → (b : Batches) → CutterStands b.cutter [] → b.taken ≡ 0 → IsWindowOf b.window [] → Fills b.queue [] 0 → b.ended ≡ false → Stands b [] 0
starts within whole_ b cutter taken window fills reads =
    let none = none_ends (closed []) (closed_within within whole_ []) in
    record {
      cutter = cutter;
      taken = taken;
      few = omega arith;
      window = window;
      opens = λ more i d below. inr (omega arith);
      open_ = λ o. subst (λ (gs : KeptGames). Fills b.queue gs 0) (sym (ap (map (kept [])) none)) fills;
      at_end = λ e. absurd (grind arith);
    }

-- no byte was taken
pub record TookNone (b now : Batches) : Type 0 where
  pub cutter : now.cutter ≡ b.cutter
  pub taken : now.taken ≡ b.taken
  pub limit : now.limit ≡ b.limit
  pub window : now.window ≡ b.window

-- the end was reached
pub comes_to_end : (b now : Batches) (front : List ℕ) (m : ℕ) (news : List Span) → Stands b front m → cut front ≡ closed front ++ news → TookNone b now → b.ended ≡ false
    → now.ended ≡ true → AreQueued b now (front ++ []) news → Stands now front m
comes_to_end b now front m news was is same reads over fills =
    let games : cut_games front ≡ closed_games front ++ map (kept (front ++ [])) news =
    ap (map (kept front)) is ∙ map-append (kept front) (closed front) news ∙ ap (λ (f : List ℕ). closed_games front ++ map (kept f) news) (sym (append-nil front)) in
    record {
      cutter = subst (λ (k : Cutter). CutterStands k front) (sym same.cutter) was.cutter;
      taken = same.taken ∙ was.taken;
      few = subst (λ (n : ℕ). length front ≤ n + 1) (sym same.limit) was.few;
      window = subst (λ (w : Window). IsWindowOf w front) (sym same.window) was.window;
      opens = subst (λ (w : Window). HasOpen w front) (sym same.window) was.opens;
      open_ = λ o. absurd (grind arith);
      at_end = λ e. inl (subst (λ (gs : KeptGames). Fills now.queue gs m) (sym games) (fills (closed_games front) m (was.open_ reads)));
    }

pub on_one : {T E A C : Type 0} (r : Result T E) → OnOk r A → (A → C) → OnOk r C
on_one (Ok x) a f = f a
on_one (Err e) a f = tt
