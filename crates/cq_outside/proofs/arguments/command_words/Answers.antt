use Rattle.std.proofs.Common.{map, Ok, ◌++◌, ap, sym, ◌∙◌}
use Rattle.std.specs.String.{string_bytes}
use Rattle.std.specs.Vec.Iter.{into_iter_items, into_iter_len}
use Rattle.cq_common.proofs.Refused.{always_on_err}
use Rattle.cq_outside.proofs.GivenWords.{first_off, one_kept, name_and_word, all_kept}
use Rattle.cq_outside.proofs.arguments.command_words.Goals as goal

pub loop-word-init : goal.loop-word-init
loop-word-init g c = (
  map string_bytes (into_iter_items c.in-Ok.given),
  c.in-Ok.ensures.gave,
  first_off string_bytes (into_iter_items c.in-Ok.given) (into_iter_items c.next-name.new.self) c.new-words.result.items c.next-name.result
      (into_iter_len c.in-Ok.given) c.next-name.ensures.items c.new-words.ensures.items c.in-Ok.given.rest.ok.0 c.next-name.ensures.variant.1,
)

pub loop-word-preserved : goal.loop-word-preserved
loop-word-preserved g c = (
  c.loop-word.invariant.0,
  c.loop-word.invariant.1,
  one_kept string_bytes c.loop-word.invariant.0 c.loop-word.words.items (into_iter_items c.loop-word.given) (into_iter_items c.next.new.self) c.in-Some.word
      c.loop-word.invariant.2 c.in-Some.ensures.items
      ∙ sym (ap (λ l. map string_bytes l ++ map string_bytes (into_iter_items c.next.new.self)) c.in_ok-push.ensures.items),
)

pub returns-in_err-push-clause-memory : goal.returns-in_err-push-clause-memory
returns-in_err-push-clause-memory g c =
    let all = c.loop-word.invariant.0 in
    always_on_err c.from_residual.result (
      Ok all,
      c.loop-word.invariant.1,
      name_and_word string_bytes all c.loop-word.words.items (into_iter_items c.loop-word.given) (into_iter_items c.next.new.self) c.in-Some.word
          c.loop-word.invariant.2 c.in-Some.ensures.items,
    )

pub returns-clause-words : goal.returns-clause-words
returns-clause-words g c = (
  Ok c.loop-word.invariant.0,
  c.loop-word.invariant.1,
  all_kept string_bytes c.loop-word.invariant.0 c.loop-word.words.items (into_iter_items c.loop-word.given) (into_iter_len c.loop-word.given)
      c.loop-word.invariant.2 c.loop-word.given.rest.ok.0 c.in_default.ensures.variant.1,
)
