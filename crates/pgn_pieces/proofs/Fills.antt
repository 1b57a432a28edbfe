-- One game more, and the pieces that are full with it.
use Rattle.std.proofs.Common.{◌≡◌, ℕ, ◌+◌, ◌-◌, ◌<◌, ◌≤◌, List, [], ◌∷◌, ◌++◌, length, take, get_or, zero, suc, refl, sym, subst, ap, ap₂, ◌∙◌, arith, append_assoc}
use Rattle.std.proofs.lemmas.List.{append-nil, length-append, take_more}
use Rattle.std.proofs.lemmas.List.Concat.{flat_map-append}
use Rattle.std.proofs.lemmas.List.Sums.{fold-append}
use Rattle.pgn_cut.specs.Spans.{AreSpansInOrder}
use Rattle.pgn_cut.specs.declared.span.Span.{Span}
use Rattle.pgn_pieces.specs.Pieces.{end_of, IsLongEnough, piece_to, after, start, AreFull}
use Rattle.pgn_pieces.specs.State.{Shows, AddsGames}
use Rattle.pgn_pieces.specs.Table.{line, table}
use Rattle.pgn_pieces.specs.declared.piece.Piece.{Piece}
use Rattle.pgn_pieces.specs.declared.piece.PieceStart.{PieceStart}
use Rattle.pgn_pieces.specs.declared.state.OpenPiece.{OpenPiece}

-- the end of games after others
pub end_append : (from : ℕ) (xs ys : List Span) → end_of from (xs ++ ys) ≡ end_of (end_of from xs) ys
end_append from xs ys = fold-append (λ (place : ℕ) (game : Span). game.end) from xs ys

pub long_end : (least from : ℕ) (games : List Span) (long : IsLongEnough least from games) → end_of from games ≡ long.last.end
long_end least from games long = ap (end_of from) long.are ∙ end_append from long.fewer (long.last ∷ [])

-- a piece ends where the next begins
pub next_from : (least : ℕ) (here : PieceStart) (p : Piece) (games : List Span) → IsLongEnough least here.from games
    → p ≡ piece_to here (end_of here.from games) (length games) → (after p).from ≡ end_of here.from games
next_from least here p games long is =
    let e = long_end least here.from games long in
    let low = long.long in
    let to = end_of here.from games in
    let fits : here.from + (to - here.from) ≡ to = omega (arith, e, low) in
    ap (λ (q : Piece). (after q).from) is ∙ fits

-- full pieces end where the games after them are counted from
pub full_end : (least : ℕ) (here : PieceStart) (games : List Span) (ps : List Piece) (stop : PieceStart) → AreFull least here games ps stop → end_of here.from games ≡ stop.from
unfolding AreFull
full_end least here games [] stop full = ap (end_of here.from) full.0 ∙ ap (λ (p : PieceStart). p.from) full.1
full_end least here games (p ∷ ps) stop full =
    let next = full_end least (after p) full.1 ps stop full.5 in
    ap (end_of here.from) full.2 ∙ end_append here.from full.0 full.1 ∙ ap (λ (k : ℕ). end_of k full.1) (sym (next_from least here p full.0 full.3 full.4)) ∙ next

-- one full piece more
more_full : (least : ℕ) (here : PieceStart) (games : List Span) (ps : List Piece) (stop : PieceStart) (mine : List Span) (p : Piece) → AreFull least here games ps stop
    → IsLongEnough least stop.from mine → p ≡ piece_to stop (end_of stop.from mine) (length mine) → AreFull least here (games ++ mine) (ps ++ p ∷ []) (after p)
unfolding AreFull
more_full least here games [] stop mine p full long is =
    subst (λ (h : PieceStart). AreFull least h (games ++ mine) (p ∷ []) (after p)) (sym full.1)
    (subst (λ (gs : List Span). AreFull least stop (gs ++ mine) (p ∷ []) (after p)) (sym full.0) (mine, [], sym (append-nil mine), long, is, (refl, refl)))
more_full least here games (q ∷ ps) stop mine p full long is = (
  full.0,
  full.1 ++ mine,
  ap (λ (gs : List Span). gs ++ mine) full.2 ∙ append_assoc full.0 full.1 mine,
  full.3,
  full.4,
  more_full least (after q) full.1 ps stop mine p full.5 long is,
)

-- ---- the open piece

pub shows_none : (least : ℕ) (now : OpenPiece) → 0 < least → now.begin ≡ start → now.games ≡ 0 → now.end ≡ 0 → Shows least now [] []
unfolding AreFull
shows_none least now some here games end =
    let from : now.begin.from ≡ 0 = ap (λ (p : PieceStart). p.from) here in record {
      fill = record { taken = []; rest = []; are = refl; full = (refl, sym here); short = omega (arith, some) };
      count = games;
      end = end ∙ sym from;
    }

one_more : (xs taken rest : List Span) (g : Span) → xs ≡ taken ++ rest → xs ++ g ∷ [] ≡ taken ++ (rest ++ g ∷ [])
one_more xs taken rest g are = ap (λ (l : List Span). l ++ g ∷ []) are ∙ append_assoc taken rest (g ∷ [])

-- a game with which the open piece is still too short
pub adds_to_open : (least : ℕ) (was now : OpenPiece) (g : Span) (text : List ℕ) → now.begin ≡ was.begin → now.games ≡ was.games + 1 → now.end ≡ g.end
    → g.end < was.begin.from + least → AddsGames least was now (g ∷ []) text text
adds_to_open least was now g text here games end short = record {
  more = [];
  lines = sym (append-nil text);
  shows = λ before pieces shows.
      let f = shows.fill in
      let from : now.begin.from ≡ was.begin.from = ap (λ (p : PieceStart). p.from) here in
      let last = end_append now.begin.from f.rest (g ∷ []) in
      let count = length-append f.rest (g ∷ []) in
      subst (λ (ps : List Piece). Shows least now (before ++ g ∷ []) ps) (sym (append-nil pieces)) (record {
        fill = record {
          taken = f.taken;
          rest = f.rest ++ g ∷ [];
          are = one_more before f.taken f.rest g f.are;
          full = subst (λ (p : PieceStart). AreFull least start f.taken pieces p) (sym here) f.full;
          short = omega (arith, last, short, from);
        };
        count = omega (arith, games, count, shows.count);
        end = end ∙ sym last;
      });
}

-- a game with which it is full
pub adds_full : (least : ℕ) (was now : OpenPiece) (g : Span) (text longer : List ℕ) → now.begin ≡ after (piece_to was.begin g.end (was.games + 1))
    → now.games ≡ 0 → now.end ≡ g.end → was.begin.from + least ≤ g.end → longer ≡ text ++ line (piece_to was.begin g.end (was.games + 1)) → AddsGames least was now (g ∷ []) text longer
adds_full least was now g text longer here games end long adds = let p = piece_to was.begin g.end (was.games + 1) in record {
  more = p ∷ [];
  lines = adds ∙ ap (λ (l : List ℕ). text ++ l) (sym (append-nil (line p)));
  shows = λ before pieces shows.
      let f = shows.fill in
      let mine = f.rest ++ g ∷ [] in
      let last = end_append was.begin.from f.rest (g ∷ []) in
      let begun = was.begun in
      let some : 0 < least = omega (arith, f.short, shows.end, begun) in
      let count : was.games + 1 ≡ length mine = omega (arith, length-append f.rest (g ∷ []), shows.count) in
      let long_ : IsLongEnough least was.begin.from mine = record { fewer = f.rest; last = g; are = refl; short = f.short; long = long } in
      let same : p ≡ piece_to was.begin (end_of was.begin.from mine) (length mine) = ap₂ (λ (to n : ℕ). piece_to was.begin to n) (sym last) count in
      let from : now.begin.from ≡ g.end = ap (λ (h : PieceStart). h.from) here ∙ next_from least was.begin p mine long_ same ∙ last in
      record {
        fill = record {
          taken = before ++ g ∷ [];
          rest = [];
          are = sym (append-nil (before ++ g ∷ []));
          full = subst (λ (h : PieceStart). AreFull least start (before ++ g ∷ []) (pieces ++ p ∷ []) h) (sym here)
              (subst (λ (gs : List Span). AreFull least start gs (pieces ++ p ∷ []) (after p)) (sym (one_more before f.taken f.rest g f.are))
              (more_full least start f.taken pieces was.begin mine p f.full long_ same));
          short = omega (arith, some);
        };
        count = games;
        end = end ∙ sym from;
      };
}

-- ---- many games, one after the other

pub adds_none : (least : ℕ) (was : OpenPiece) (text : List ℕ) → AddsGames least was was [] text text
adds_none least was text = record {
  more = [];
  lines = sym (append-nil text);
  shows = λ before pieces shows.
      subst (λ (gs : List Span). Shows least was gs (pieces ++ [])) (sym (append-nil before))
      (subst (λ (ps : List Piece). Shows least was before ps) (sym (append-nil pieces)) shows);
}

pub adds_both : (least : ℕ) (was mid now : OpenPiece) (xs ys : List Span) (text longer longest : List ℕ) → AddsGames least was mid xs text longer
    → AddsGames least mid now ys longer longest → AddsGames least was now (xs ++ ys) text longest
adds_both least was mid now xs ys text longer longest one two = record {
  more = one.more ++ two.more;
  lines = two.lines ∙ ap (λ (l : List ℕ). l ++ table two.more) one.lines ∙ append_assoc text (table one.more) (table two.more)
      ∙ ap (λ (l : List ℕ). text ++ l) (sym (flat_map-append line one.more two.more));
  shows = λ before pieces shows.
      subst (λ (gs : List Span). Shows least now gs (pieces ++ (one.more ++ two.more))) (append_assoc before xs ys)
      (subst (λ (ps : List Piece). Shows least now ((before ++ xs) ++ ys) ps) (append_assoc pieces one.more two.more)
      (two.shows (before ++ xs) (pieces ++ one.more) (one.shows before pieces shows)));
}

-- the next of some games
pub adds_next : (least : ℕ) (was now : OpenPiece) (games : List Span) (i : ℕ) (d : Span) (text longer : List ℕ) → i < length games
    → AddsGames least was now (take i games ++ get_or games i d ∷ []) text longer → AddsGames least was now (take (i + 1) games) text longer
adds_next least was now games i d text longer less adds = subst (λ (gs : List Span). AddsGames least was now gs text longer) (sym (take_more games i d less)) adds

pub end_next : (from : ℕ) (games : List Span) (i : ℕ) (d : Span) → i < length games → (get_or games i d).end ≡ end_of from (take (i + 1) games)
end_next from games i d less = sym (ap (end_of from) (take_more games i d less) ∙ end_append from (take i games) (get_or games i d ∷ []))

-- ---- games in order

-- each game ends after those before it, and by the end
pub ends_later : (from to : ℕ) (games : List Span) (i : ℕ) (d : Span) → AreSpansInOrder from to games → i < length games
    → (end_of from (take i games) < (get_or games i d).end) × ((get_or games i d).end ≤ to)
ends_later from to [] i d order less = absurd (omega arith)
ends_later from to (g ∷ gs) zero d order less = let begins = order.0 in let some = order.1.0 in (omega arith, order.1.1)
ends_later from to (g ∷ gs) (suc i) d order less = ends_later g.end to gs i d order.2 (omega arith)

-- games after others are in order from where those end
pub order_after : (from to : ℕ) (xs ys : List Span) → AreSpansInOrder from to (xs ++ ys) → AreSpansInOrder (end_of from xs) to ys
order_after from to [] ys order = order
order_after from to (x ∷ xs) ys order = order_after x.end to xs ys order.2

pub order_before : (from to : ℕ) (xs ys : List Span) → AreSpansInOrder from to (xs ++ ys) → AreSpansInOrder from to xs
order_before from to [] ys order = tt
order_before from to (x ∷ xs) ys order = (order.0, order.1, order_before x.end to xs ys order.2)

-- games in order end where they are counted from, or later
pub end_not_before : (from to : ℕ) (games : List Span) → AreSpansInOrder from to games → from ≤ end_of from games
end_not_before from to [] order = omega arith
end_not_before from to (g ∷ gs) order =
    let begins = order.0 in let some = order.1.0 in let rest = end_not_before g.end to gs order.2 in omega (arith, begins, some, rest)
