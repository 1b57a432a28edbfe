use Rattle.std.proofs.Common.{◌∙◌, sym, ⊎_elim, inr, append_assoc, append-nil, ◌++◌, true≢false}
use Rattle.std.specs.Option.{option_to_list}
use Rattle.pgn_cut.specs.Cut.{closed}
use Rattle.pgn_cut.proofs.Marks.{in_mark, no_mark}
use Rattle.pgn_cut.proofs.Streams.{ready_ended, ready_text}
use Rattle.pgn_cut.proofs.cutter.Cutter.step.Goals as goal

pub returns-then-not-takes : goal.returns-then-not-takes
returns-then-not-takes c = λ fed stands.
    let ended = c.ended-before.ensures.ends fed stands in
    let ready = ready_ended c.ended-before.result.0 c.ended-before.result.1 c.args.self.state fed c.args.b ended (sym c.takes.ensures ∙ c.if-not-takes.true) in
    let taken = c.taken-closed.ensures fed (closed fed ++ option_to_list c.ended-before.result.1) ready in
    (inr taken.0, taken.1 ∙ append_assoc (closed fed) (option_to_list c.ended-before.result.1) (option_to_list c.taken-closed.result.1))

pub returns-then-is_in_mark : goal.returns-then-is_in_mark
returns-then-is_in_mark c = λ fed stands.
    let yes_ = sym c.is_in_mark.ensures ∙ c.if-is_in_mark.true in
    let belongs = sym c.takes.ensures ∙ c.if-not-takes.false in
    ⊎_elim (λ mark. let taken = c.marked.ensures fed mark belongs in (taken.0, taken.1 ∙ sym (append-nil (closed fed)))) (λ t. absurd (no_mark c.args.self fed t yes_)) stands

pub returns : goal.returns
returns c = λ fed stands.
    let no_ = sym c.is_in_mark.ensures ∙ c.if-is_in_mark.false in
    let belongs = sym c.takes.ensures ∙ c.if-not-takes.false in
    ⊎_elim
    (λ mark. absurd (true≢false (sym (in_mark c.args.self fed mark) ∙ no_)))
    (λ t. let taken = c.taken-closed-2.ensures fed (closed fed) (ready_text c.args.self fed c.args.b t belongs) in (inr taken.0, taken.1))
    stands
