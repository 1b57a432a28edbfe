use Rattle.std.proofs.Common.{◌++◌, ap, ◌∙◌}
use Rattle.std.specs.List.{join_with_byte}
use Rattle.cq_position.specs.Comments.{words}
use Rattle.pgn_tree.specs.Words.{without_braces}
use Rattle.pgn_tree.proofs.Words.{none_joined, first_joined, next_joined, all_joined, begins_on}
use Rattle.pgn_tree.proofs.comment_words.push_words.Goals as goal

pub returns-in_default-clause-ok : goal.returns-in_default-clause-ok
returns-in_default-clause-ok c = none_joined c.args.text.now.items c.args.comment.now c.in_default.ensures.words

pub loop-word-init : goal.loop-word-init
loop-word-init c = record {
  joined = first_joined c.args.text.now.items c.push_word.new.text.items c.args.comment.now c.in-Some.word.now c.in-Some.rest.now c.in-Some.ensures.words c.in_ok-push_word.ensures.ok;
  front = c.in_ok-push_word.ensures.front;
}

pub loop-word-preserved : goal.loop-word-preserved
loop-word-preserved c = record {
  joined = next_joined c.loop-word.text.items c.push_next_word.new.text.items c.loop-word.rest.now c.in-Some-first_word.word.now c.in-Some-first_word.later.now c.in-Some-first_word.ensures.words
      c.in_ok-push_next_word.ensures.ok ∙ c.loop-word.invariant.joined;
  front = begins_on c.args.text.now.items c.loop-word.text.items c.push_next_word.new.text.items c.loop-word.invariant.front c.in_ok-push_next_word.ensures.front;
}

pub returns-clause-ok : goal.returns-clause-ok
returns-clause-ok c =
    all_joined c.loop-word.text.items (c.args.text.now.items ++ join_with_byte 32 (words (without_braces c.args.comment.now))) c.loop-word.rest.now
    c.in_default-first_word.ensures.words c.loop-word.invariant.joined
