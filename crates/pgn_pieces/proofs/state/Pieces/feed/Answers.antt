use Rattle.std.proofs.Common.{◌≡◌, List, ◌++◌, length, drop, refl, ap, ◌∙◌, arith}
use Rattle.std.proofs.lemmas.List.{length-append}
use Rattle.pgn_cut.specs.Cut.{closed}
use Rattle.pgn_cut.specs.declared.span.Span.{Span}
use Rattle.pgn_pieces.proofs.Streams.{takes_bytes, adds_after, fed, fed_in_order}
use Rattle.pgn_pieces.proofs.state.Pieces.feed.Goals as goal

pub add_all-requires : goal.add_all-requires
add_all-requires c =
    let s = c.requires in
    let all = s.0 ++ c.args.bytes.now in
    let are : c.as_slice.result.now ≡ drop (length (closed s.0)) (closed all) =
    c.as_slice.ensures.value ∙ c.in_ok-feed.ensures.games s.0 s.2.cutter ∙ ap (λ (l : List Span). l ++ drop (length (closed s.0)) (closed all)) c.new-games.ensures.items in
    record {
      order = (
        length all,
        omega (arith, length-append s.0 c.args.bytes.now, s.3),
        fed_in_order c.games_stand_apart.ensures.order c.closed_games_stay.ensures.whole c.args.self.now s.1 s.0 c.args.bytes.now c.as_slice.result.now s.2
            (fed c.closed_games_stay.ensures.grow s.0 c.args.bytes.now c.as_slice.result.now are),
      );
    }

pub returns-clause-takes : goal.returns-clause-takes
returns-clause-takes c =
    takes_bytes c.args.self.now _ c.args.bytes.now c.args.text.now c.push_all.new.self c.as_slice.result.now refl refl
    (λ front stands. (
      c.in_ok-feed.ensures.stands front stands,
      fed c.closed_games_stay.ensures.grow front c.args.bytes.now c.as_slice.result.now (c.as_slice.ensures.value ∙ c.in_ok-feed.ensures.games front stands
          ∙ ap (λ (l : List Span). l ++ drop (length (closed front)) (closed (front ++ c.args.bytes.now))) c.new-games.ensures.items),
    ))
    (adds_after c.args.self.now.least c.args.self.now.open_piece c.in_ok-open_piece.open_piece c.as_slice.result.now c.new-lines.result c.add_all.new.text c.args.text.now c.push_all.new.self
    c.new-lines.ensures c.in_ok-open_piece.ensures (c.in_ok-push_all.ensures.ok ∙ ap (λ (l : List _). c.args.text.now ++ l) c.as_slice-2.ensures))
