-- The pieces before and after some bytes of the archive.
use Rattle.std.proofs.Common.{◌≡◌, ℕ, ◌+◌, List, [], ◌∷◌, ◌++◌, length, drop, refl, sym, subst, ap, ap₂, ◌∙◌, arith, append_assoc, Ok, Err}
use Rattle.std.specs.Prelude.{Result, OnOk}
use Rattle.std.proofs.Math.Seq.{drop-append_seam}
use Rattle.std.proofs.lemmas.List.{append-nil, length-append}
use Rattle.std.proofs.lemmas.List.Concat.{flat_map-append}
use Rattle.pgn_cut.specs.Cut.{cut, closed}
use Rattle.pgn_cut.specs.Spans.{AreSpansInOrder, FinishesAt}
use Rattle.pgn_cut.specs.Streams.{Stands as CutterStands}
use Rattle.pgn_cut.specs.declared.span.Span.{Span}
use Rattle.pgn_pieces.specs.Pieces.{end_of, start, last_piece}
use Rattle.pgn_pieces.specs.State.{Shows, Stands, AddsGames, TakesBytes, ComesToEnd}
use Rattle.pgn_pieces.specs.Table.{line, table}
use Rattle.pgn_pieces.specs.declared.piece.Piece.{Piece}
use Rattle.pgn_pieces.specs.declared.state.OpenPiece.{OpenPiece}
use Rattle.pgn_pieces.specs.declared.state.Pieces.{Pieces}
use Rattle.pgn_pieces.proofs.Fills.{end_append, full_end, order_after, order_before}

-- the claims of the laws of the cut

abbrev pub Grow : Type 0
Grow = (front more : List ℕ) → (rest : List Span) × (closed (front ++ more) ≡ closed front ++ rest)

abbrev pub Whole : Type 0
Whole = (front : List ℕ) → (last : List Span) × (cut front ≡ closed front ++ last) × FinishesAt (length front) last

abbrev pub Order : Type 0
Order = (archive : List ℕ) → AreSpansInOrder 0 (length archive) (cut archive)

-- ---- the games that some bytes close, and those that the end closes

pub fed : Grow → (front bytes : List ℕ) (news : List Span) → news ≡ drop (length (closed front)) (closed (front ++ bytes)) → closed (front ++ bytes) ≡ closed front ++ news
fed grow front bytes news are =
    let g = grow front bytes in
    let same : news ≡ g.0 = are ∙ ap (drop (length (closed front))) g.1 ∙ drop-append_seam (closed front) g.0 in
    g.1 ∙ ap (λ (l : List Span). closed front ++ l) (sym same)

pub ended : Whole → (front : List ℕ) (news : List Span) → news ≡ drop (length (closed front)) (cut front) → cut front ≡ closed front ++ news
ended whole_ front news are =
    let w = whole_ front in
    let same : news ≡ w.0 = are ∙ ap (drop (length (closed front))) w.1 ∙ drop-append_seam (closed front) w.0 in
    w.1 ∙ ap (λ (l : List Span). closed front ++ l) (sym same)

-- the open piece's last game is the last of all
open_end : (least : ℕ) (o : OpenPiece) (games : List Span) (pieces : List Piece) → Shows least o games pieces → end_of 0 games ≡ o.end
open_end least o games pieces shows =
    let f = shows.fill in
    ap (end_of 0) f.are ∙ end_append 0 f.taken f.rest ∙ ap (λ (k : ℕ). end_of k f.rest) (full_end least start f.taken pieces o.begin f.full) ∙ sym shows.end

later_games : Order → (least : ℕ) (o : OpenPiece) (pieces : List Piece) (archive : List ℕ) (before news last : List Span) → Shows least o before pieces
    → cut archive ≡ before ++ (news ++ last) → AreSpansInOrder o.end (length archive) news
later_games order least o pieces archive before news last shows is =
    let to = length archive in
    subst (λ (k : ℕ). AreSpansInOrder k to news) (open_end least o before pieces shows)
    (order_before (end_of 0 before) to news last (order_after 0 to before (news ++ last) (subst (AreSpansInOrder 0 to) is (order archive))))

pub fed_in_order : Order → Whole → (p : Pieces) (pieces : List Piece) (front bytes : List ℕ) (news : List Span) → Stands p front pieces
    → closed (front ++ bytes) ≡ closed front ++ news → AreSpansInOrder p.open_piece.end (length (front ++ bytes)) news
fed_in_order order whole_ p pieces front bytes news stands is =
    let w = whole_ (front ++ bytes) in
    later_games order p.least p.open_piece pieces (front ++ bytes) (closed front) news w.0 stands.shows
    (w.1 ∙ ap (λ (l : List Span). l ++ w.0) is ∙ append_assoc (closed front) news w.0)

pub ended_in_order : Order → (p : Pieces) (pieces : List Piece) (front : List ℕ) (news : List Span) → Stands p front pieces
    → cut front ≡ closed front ++ news → AreSpansInOrder p.open_piece.end (length front) news
ended_in_order order p pieces front news stands is =
    later_games order p.least p.open_piece pieces front (closed front) news [] stands.shows (is ∙ ap (λ (l : List Span). closed front ++ l) (sym (append-nil news)))

-- ---- all that is kept

-- no bytes have no game, and close none

pub no_games : (games : List Span) → AreSpansInOrder 0 0 games → games ≡ []
no_games [] order = refl
no_games (g ∷ gs) order = let e = order.1 in absurd (omega (arith, e.0, e.1))

pub both_none : (xs ys : List Span) → [] ≡ xs ++ ys → xs ≡ []
both_none [] ys are = refl
both_none (x ∷ xs) ys are = cc

pub closed_none : Whole → Order → closed [] ≡ []
closed_none whole_ order = let w = whole_ [] in both_none (closed []) w.0 (sym (no_games (cut []) (order [])) ∙ w.1)

pub stands_for_none : Whole → Order → (p : Pieces) → CutterStands p.cutter [] → p.taken ≡ 0 → Shows p.least p.open_piece [] [] → Stands p [] []
stands_for_none whole_ order p cutter taken shows = record {
  cutter = cutter;
  taken = taken;
  shows = subst (λ (gs : List Span). Shows p.least p.open_piece gs []) (sym (closed_none whole_ order)) shows;
}

-- the clause of a success
pub on_ok : {T E : Type 0} {A B : Type 0} (result : Result T E) → (A → B) → OnOk result A → OnOk result B
on_ok (Ok x) f a = f a
on_ok (Err e) f a = tt

pub takes_bytes : (was now : Pieces) (bytes text longer : List ℕ) (news : List Span) → now.least ≡ was.least → now.taken ≡ was.taken + length bytes
    → ((front : List ℕ) → CutterStands was.cutter front → CutterStands now.cutter (front ++ bytes) × (closed (front ++ bytes) ≡ closed front ++ news))
    → AddsGames was.least was.open_piece now.open_piece news text longer → TakesBytes was now bytes text longer
takes_bytes was now bytes text longer news least taken feeds adds = record {
  more = adds.more;
  lines = adds.lines;
  stands = λ front pieces stands.
      let f = feeds front stands.cutter in
      let long = length-append front bytes in
      record {
        cutter = f.0;
        taken = omega (arith, taken, stands.taken, long);
        shows = subst (λ (k : ℕ). Shows k now.open_piece (closed (front ++ bytes)) (pieces ++ adds.more)) (sym least)
            (subst (λ (gs : List Span). Shows was.least now.open_piece gs (pieces ++ adds.more)) (sym f.1) (adds.shows (closed front) pieces stands.shows));
      };
}

-- lines that were gathered by themselves are added to a text
pub adds_after : (least : ℕ) (was now : OpenPiece) (games : List Span) (none lines text longer : List ℕ) → none ≡ [] → AddsGames least was now games none lines
    → longer ≡ text ++ lines → AddsGames least was now games text longer
adds_after least was now games none lines text longer none_is adds is = record {
  more = adds.more;
  lines = is ∙ ap (λ (l : List ℕ). text ++ l) (adds.lines ∙ ap (λ (l : List ℕ). l ++ table adds.more) none_is);
  shows = adds.shows;
}

pub comes_to_end : (was : Pieces) (last : OpenPiece) (text mid longer : List ℕ) (news : List Span)
    → ((front : List ℕ) → CutterStands was.cutter front → cut front ≡ closed front ++ news) → AddsGames was.least was.open_piece last news text mid
    → longer ≡ mid ++ table (last_piece last.begin was.taken last.games) → ComesToEnd was text longer
comes_to_end was last text mid longer news ends adds is =
    let rest = last_piece last.begin was.taken last.games in record {
      more = adds.more ++ rest;
      lines = is ∙ ap (λ (l : List ℕ). l ++ table rest) adds.lines ∙ append_assoc text (table adds.more) (table rest)
          ∙ ap (λ (l : List ℕ). text ++ l) (sym (flat_map-append line adds.more rest));
      are = λ front pieces stands.
          let shows = adds.shows (closed front) pieces stands.shows in
          let f = shows.fill in record {
            full = pieces ++ adds.more;
            stop = last.begin;
            fill = record { taken = f.taken; rest = f.rest; are = ends front stands.cutter ∙ f.are; full = f.full; short = f.short };
            are = sym (append_assoc pieces adds.more rest)
                ∙ ap₂ (λ (total games : ℕ). (pieces ++ adds.more) ++ last_piece last.begin total games) stands.taken shows.count;
          };
    }
