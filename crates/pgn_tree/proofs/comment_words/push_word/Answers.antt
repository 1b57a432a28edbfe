use Rattle.std.proofs.Common.{[], ◌∷◌, ◌++◌, get_or, take, append_assoc, sym, ap, ap₂, ◌∙◌}
use Rattle.std.proofs.lemmas.List.{map-append, take_all, take_more}
use Rattle.pgn_tree.specs.Words.{without_brace, without_braces}
use Rattle.pgn_tree.proofs.comment_words.push_word.Goals as goal

pub loop-b-preserved : goal.loop-b-preserved
loop-b-preserved c =
    let before = take c.loop-b.b-index c.args.word.now in
    let byte = get_or c.args.word.now c.loop-b.b-index 0 in
    let more = ap without_braces (take_more c.args.word.now c.loop-b.b-index 0 c.loop-b-test.true) ∙ map-append without_brace before (byte ∷ []) in
    c.in_ok-push.ensures.items
    ∙ ap₂ (λ text b. text ++ b ∷ []) c.loop-b.invariant c.without_brace.ensures
    ∙ append_assoc c.args.text.now.items (without_braces before) (without_brace byte ∷ [])
    ∙ ap (λ added. c.args.text.now.items ++ added) (sym more)

pub returns-in_err-push-clause-front : goal.returns-in_err-push-clause-front
returns-in_err-push-clause-front c =
    (without_braces (take c.loop-b.b-index c.args.word.now), c.in_err-push.ensures.items ∙ c.loop-b.invariant)

pub returns-clause-ok : goal.returns-clause-ok
returns-clause-ok c =
    c.loop-b.invariant
    ∙ ap (λ word. c.args.text.now.items ++ without_braces word) (take_all c.loop-b.b-index c.args.word.now c.loop-b-test.false)

pub returns-clause-front : goal.returns-clause-front
returns-clause-front c = (without_braces (take c.loop-b.b-index c.args.word.now), c.loop-b.invariant)
