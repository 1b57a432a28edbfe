use Rattle.std.proofs.Common.{◌≡◌, ◌++◌, length}
use Rattle.std.specs.List.{join_with_byte}
use Rattle.cq_position.specs.Comments.{words}
use Rattle.pgn_tree.specs.Words.{without_braces, Begins}
use Rattle.pgn_tree.proofs.Words.{left}
use Rattle.pgn_tree.proofs.comment_words.push_words.Given as goal

abbrev pub invariant-loop-word : goal.invariant-loop-word
invariant-loop-word l = record {
  joined : l.text.items ++ left l.rest ≡ l.fn.text.items ++ join_with_byte 32 (words (without_braces l.fn.comment));
  front : Begins l.fn.text.items l.text.items;
}

abbrev pub decreases-loop-word : goal.decreases-loop-word
decreases-loop-word l = length l.rest
