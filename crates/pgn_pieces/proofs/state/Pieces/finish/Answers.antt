use Rattle.std.proofs.Common.{◌≡◌, List, ◌++◌, length, drop, refl, sym, ap, ◌∙◌, append_assoc}
use Rattle.pgn_cut.specs.Cut.{cut, closed}
use Rattle.pgn_cut.specs.declared.span.Span.{Span}
use Rattle.pgn_pieces.specs.Pieces.{last_piece}
use Rattle.pgn_pieces.specs.Table.{table}
use Rattle.pgn_pieces.proofs.Streams.{adds_after, comes_to_end, ended, ended_in_order, on_ok}
use Rattle.pgn_pieces.proofs.state.Pieces.finish.Goals as goal

pub add_all-requires : goal.add_all-requires
add_all-requires c =
    let s = c.requires in
    let are : c.as_slice.result.now ≡ drop (length (closed s.0)) (cut s.0) =
    c.as_slice.ensures.value ∙ c.in_ok-finish.ensures.games s.0 s.2.cutter ∙ ap (λ (l : List Span). l ++ drop (length (closed s.0)) (cut s.0)) c.new-games.ensures.items in
    record {
      order = (
        length s.0,
        s.3,
        ended_in_order c.games_stand_apart.ensures.order c.args.self s.1 s.0 c.as_slice.result.now s.2
            (ended c.closed_games_stay.ensures.whole s.0 c.as_slice.result.now are),
      );
    }

pub returns-clause-ends : goal.returns-clause-ends
returns-clause-ends c =
    let lines = c.args.text.now ++ c.add_all.new.text in
    on_ok c.push_all.result (λ added.
    comes_to_end c.args.self c.in_ok-last.last c.args.text.now lines c.push_all.new.self c.as_slice.result.now
    (λ front stands. ended c.closed_games_stay.ensures.whole front c.as_slice.result.now
    (c.as_slice.ensures.value ∙ c.in_ok-finish.ensures.games front stands ∙ ap (λ (l : List Span). l ++ drop (length (closed front)) (cut front)) c.new-games.ensures.items))
    (adds_after c.args.self.least c.args.self.open_piece c.in_ok-last.last c.as_slice.result.now c.new-lines.result c.add_all.new.text c.args.text.now lines c.new-lines.ensures
    c.in_ok-last.ensures refl)
    (added ∙ ap (λ (l : List _). c.args.text.now ++ l) (c.as_slice-2.ensures ∙ c.in_ok-push_last.ensures)
    ∙ sym (append_assoc c.args.text.now c.add_all.new.text (table (last_piece c.in_ok-last.last.begin c.args.self.taken c.in_ok-last.last.games)))))
    c.push_all.ensures.ok
