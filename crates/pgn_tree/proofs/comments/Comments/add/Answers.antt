use Rattle.std.proofs.Common.{◌≡◌, ◌++◌, ◌∷◌, [], length, sym, ap, ◌∙◌, arith, append-nil}
use Rattle.cq_position.specs.Comments.{words, comment_of}
use Rattle.pgn_tree.specs.Internal.Comments.{parts}
use Rattle.pgn_tree.specs.Words.{without_braces}
use Rattle.pgn_tree.proofs.Parts.{grown, kept_grown, not_grown, same_text, when_ok, pushed}
use Rattle.pgn_tree.proofs.comments.Comments.add.Goals as goal

pub returns-then-len-end-clause-ok : goal.returns-then-len-end-clause-ok
returns-then-len-end-clause-ok c =
    let now_is = when_ok c.push_words.result c.if-is_err.ensures.value c.push_words.ensures.ok in
    let len = c.len.ensures in let end = c.len-end.ensures in let same = c.if-len-end.true in
    let before = c.self.inside.text.ok.0 in let after = c.push_words.new.text.ok.0 in
    let lengths : length c.push_words.new.text.items ≡ length c.self.inside.text.items = omega (arith, len, end, same, before, after) in
    ap (λ t. parts t 0 c.self.inside.ends.items) (same_text c.self.inside.text.items c.push_words.new.text.items c.args.text.now now_is lengths)
    ∙ c.self.view_is ∙ sym (append-nil c.args.self.now)
    ∙ ap (λ x. c.args.self.now ++ x) (sym (not_grown c.self.inside.text.items c.push_words.new.text.items c.args.text.now now_is lengths))

pub invariant_of-self-else-is_err-2 : goal.invariant_of-self-else-is_err-2
invariant_of-self-else-is_err-2 c =
    kept_grown c.self.inside.text.items c.push_words.new.text.items c.self.inside.ends.items c.push.new.self.items c.args.text.now
    (when_ok c.push_words.result c.if-is_err.ensures.value c.push_words.ensures.ok)
    (λ same. c.if-len-end.false
    (let len = c.len.ensures in let end = c.len-end.ensures in let before = c.self.inside.text.ok.0 in let after = c.push_words.new.text.ok.0 in
    omega (arith, len, end, same, before, after)))
    (pushed c.push.result c.push.new.self.items (c.self.inside.ends.items ++ c.len-2.result ∷ []) c.self.inside.ends.items c.if-is_err-2.ensures.value c.push.ensures.items
    ∙ ap (λ n. c.self.inside.ends.items ++ n ∷ []) (c.len-2.ensures ∙ c.push_words.new.text.ok.0))
    c.self.invariant

pub returns-clause-ok : goal.returns-clause-ok
returns-clause-ok c =
    grown c.self.inside.text.items c.push_words.new.text.items c.self.inside.ends.items c.push.new.self.items c.args.text.now
    (when_ok c.push_words.result c.if-is_err.ensures.value c.push_words.ensures.ok)
    (λ same. c.if-len-end.false
    (let len = c.len.ensures in let end = c.len-end.ensures in let before = c.self.inside.text.ok.0 in let after = c.push_words.new.text.ok.0 in
    omega (arith, len, end, same, before, after)))
    (pushed c.push.result c.push.new.self.items (c.self.inside.ends.items ++ c.len-2.result ∷ []) c.self.inside.ends.items c.if-is_err-2.ensures.value c.push.ensures.items
    ∙ ap (λ n. c.self.inside.ends.items ++ n ∷ []) (c.len-2.ensures ∙ c.push_words.new.text.ok.0))
    c.self.invariant.ends_stand
    ∙ ap (λ x. x ++ comment_of (words (without_braces c.args.text.now))) c.self.view_is
