use Rattle.std.proofs.Common.{◌≡◌, ◌++◌, take}
use Rattle.pgn_tree.specs.Words.{without_braces}
use Rattle.pgn_tree.proofs.comment_words.push_word.Given as goal

abbrev pub invariant-loop-b : goal.invariant-loop-b
invariant-loop-b l = l.text.items ≡ l.fn.text.items ++ without_braces (take l.b-index l.fn.word)
