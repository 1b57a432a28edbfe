use Rattle.std.proofs.Common.{◌≡◌, ℕ, List, ◌+◌, ◌++◌, length, drop, sym, ap, ◌∙◌, arith, rules}
use Rattle.std.proofs.lemmas.List.{length-append}
use Rattle.pgn_cut.specs.Cut.{closed}
use Rattle.pgn_batches.specs.Whole.{closed_games}
use Rattle.pgn_batches.proofs.KeptStay.{Split}
use Rattle.pgn_batches.proofs.Streams.{few_closed, goes_on, inside, on_one, opened, piece_is_fed}
use Rattle.pgn_batches.proofs.state.Batches.feed.Goals as goal

pub keep_all-requires-clause-fills : goal.keep_all-requires-clause-fills
keep_all-requires-clause-fills c =
    let s = c.requires.stands in
    let few = s.3 in
    let most = c.args.self.now.limits.1 in
    let are : c.as_slice.result.now ≡ drop (length (closed s.0)) (closed (s.0 ++ c.args.piece.now)) =
    c.as_slice.ensures.value ∙ c.in_ok-feed.ensures.games s.0 s.2.cutter ∙ ap (λ l. l ++ drop (length (closed s.0)) (closed (s.0 ++ c.args.piece.now))) c.new-spans.ensures.items in
    let is = piece_is_fed c.closed_games_stay.ensures.grow (λ f. (let x = c.closed_games_stay.ensures.whole f in (x.0, x.1))) s.0 c.args.piece.now c.as_slice.result.now are in (
      closed_games s.0,
      s.1,
      s.2.open_ c.requires.reads,
      few_closed c.games_stand_apart.ensures.order s.0 (s.0 ++ c.args.piece.now) c.as_slice.result.now is.last is.cuts (omega (arith, few, most, length-append s.0 c.args.piece.now)),
    )

pub keep_all-requires-clause-size : goal.keep_all-requires-clause-size
keep_all-requires-clause-size c =
    let s = c.requires.stands in
    omega (arith, s.3, s.2.taken, c.args.self.now.limits.1)

pub keep_all-requires-clause-inside : goal.keep_all-requires-clause-inside
keep_all-requires-clause-inside c =
    let s = c.requires.stands in
    let are : c.as_slice.result.now ≡ drop (length (closed s.0)) (closed (s.0 ++ c.args.piece.now)) =
    c.as_slice.ensures.value ∙ c.in_ok-feed.ensures.games s.0 s.2.cutter ∙ ap (λ l. l ++ drop (length (closed s.0)) (closed (s.0 ++ c.args.piece.now))) c.new-spans.ensures.items in
    let is = piece_is_fed c.closed_games_stay.ensures.grow (λ f. (let x = c.closed_games_stay.ensures.whole f in (x.0, x.1))) s.0 c.args.piece.now c.as_slice.result.now are in
    inside c.games_stand_apart.ensures.each c.args.self.now.window s.0 c.args.piece.now c.as_slice.result.now is.last c.args.self.now.taken s.2.opens s.2.taken is.cuts

pub keep_all-requires-clause-archive : goal.keep_all-requires-clause-archive
keep_all-requires-clause-archive c = let s = c.requires.stands in (s.0, s.2.window, sym s.2.taken)

pub returns-clause-stands : goal.returns-clause-stands
returns-clause-stands c =
    on_one c.go_on.result c.go_on.ensures.shows (λ shows. λ front m was few.
    let are : c.as_slice.result.now ≡ drop (length (closed front)) (closed (front ++ c.args.piece.now)) =
    c.as_slice.ensures.value ∙ c.in_ok-feed.ensures.games front was.cutter ∙ ap (λ l. l ++ drop (length (closed front)) (closed (front ++ c.args.piece.now))) c.new-spans.ensures.items in
    let split : Split = λ (f : List ℕ). (let x = c.closed_games_stay.ensures.whole f in (x.0, x.1)) in
    let is = piece_is_fed c.closed_games_stay.ensures.grow split front c.args.piece.now c.as_slice.result.now are in
    let cutter = c.in_ok-feed.ensures.stands front was.cutter in
    goes_on c.games_stand_apart.ensures.each split c.args.self.now _ front c.args.piece.now m c.as_slice.result.now was is (record {
      cutter = cutter;
      taken = search rules;
      few = let l = length-append front c.args.piece.now in omega (arith, l, few);
      shows = shows front was.window (sym was.taken);
      opens = opened c.closed_games_stay.ensures.grow c.args.self.now.window c.go_on.new.self c.open_at.result front c.args.piece.now c.args.self.now.taken was.taken was.opens
          (c.open_at.ensures (front ++ c.args.piece.now) cutter)
          (record { place = c.unwrap_or-place.result; is = search rules; same = c.go_on.ensures.same; moved = c.go_on.ensures.moved });
      open_ = c.requires.reads;
      still = c.requires.reads;
      fills = c.in_ok-keep_all.ensures front was.window (sym was.taken);
    }))
