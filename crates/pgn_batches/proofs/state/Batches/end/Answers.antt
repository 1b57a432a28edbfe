use Rattle.std.proofs.Common.{◌≡◌, [], ◌+◌, ◌++◌, length, drop, refl, sym, ap, ◌∙◌, arith}
use Rattle.std.proofs.lemmas.List.{append-nil}
use Rattle.pgn_cut.specs.Cut.{cut, closed}
use Rattle.pgn_batches.specs.Whole.{closed_games}
use Rattle.pgn_batches.proofs.Streams.{comes_to_end, ended, few_closed, inside}
use Rattle.pgn_batches.proofs.state.Batches.end.Goals as goal

pub keep_all-requires-clause-fills : goal.keep_all-requires-clause-fills
keep_all-requires-clause-fills c =
    let s = c.requires.stands in
    let few = s.2.few in
    let most = c.args.self.now.limits.1 in
    let are : c.as_slice.result.now ≡ drop (length (closed s.0)) (cut s.0) =
    c.as_slice.ensures.value ∙ c.in_ok-finish.ensures.games s.0 s.2.cutter ∙ ap (λ l. l ++ drop (length (closed s.0)) (cut s.0)) c.new-spans.ensures.items in
    let is = ended (λ f. (let x = c.closed_games_stay.ensures.whole f in (x.0, x.1))) s.0 c.as_slice.result.now are in (
      closed_games s.0,
      s.1,
      s.2.open_ c.requires.reads,
      few_closed c.games_stand_apart.ensures.order s.0 s.0 c.as_slice.result.now [] (is ∙ ap (λ l. closed s.0 ++ l) (sym (append-nil c.as_slice.result.now))) (omega (arith, few, most)),
    )

pub keep_all-requires-clause-size : goal.keep_all-requires-clause-size
keep_all-requires-clause-size c = let s = c.requires.stands in omega (arith, s.2.few, s.2.taken, c.args.self.now.limits.1)

pub keep_all-requires-clause-inside : goal.keep_all-requires-clause-inside
keep_all-requires-clause-inside c =
    let s = c.requires.stands in
    let are : c.as_slice.result.now ≡ drop (length (closed s.0)) (cut s.0) =
    c.as_slice.ensures.value ∙ c.in_ok-finish.ensures.games s.0 s.2.cutter ∙ ap (λ l. l ++ drop (length (closed s.0)) (cut s.0)) c.new-spans.ensures.items in
    let is = ended (λ f. (let x = c.closed_games_stay.ensures.whole f in (x.0, x.1))) s.0 c.as_slice.result.now are in
    inside c.games_stand_apart.ensures.each c.args.self.now.window s.0 [] c.as_slice.result.now [] c.args.self.now.taken s.2.opens s.2.taken
    (ap cut (append-nil s.0) ∙ is ∙ ap (λ l. closed s.0 ++ l) (sym (append-nil c.as_slice.result.now)))

pub keep_all-requires-clause-archive : goal.keep_all-requires-clause-archive
keep_all-requires-clause-archive c = let s = c.requires.stands in (s.0, s.2.window, sym s.2.taken)

pub returns-clause-stands : goal.returns-clause-stands
returns-clause-stands c = λ front m was.
    let are : c.as_slice.result.now ≡ drop (length (closed front)) (cut front) =
    c.as_slice.ensures.value ∙ c.in_ok-finish.ensures.games front was.cutter ∙ ap (λ l. l ++ drop (length (closed front)) (cut front)) c.new-spans.ensures.items in
    let is = ended (λ f. (let x = c.closed_games_stay.ensures.whole f in (x.0, x.1))) front c.as_slice.result.now are in
    comes_to_end c.args.self.now _ front m c.as_slice.result.now was is
    (record { cutter = c.in_ok-finish.ensures.cutter; taken = refl; limit = refl; window = refl }) c.requires.reads refl (c.in_ok-keep_all.ensures front was.window (sym was.taken))
