use Rattle.std.proofs.Common.{◌≡◌, ◌++◌, List, ℕ, Ok, drop, map}
use Rattle.std.specs.String.{string_bytes}
use Rattle.std.specs.Vec.Iter.{into_iter_items, into_iter_len}
use Rattle.cq_outside.proofs.arguments.command_words.Given as goal

-- the words that are kept, and those that are still to come, are all after the first
abbrev pub invariant-loop-word : goal.invariant-loop-word
invariant-loop-word g l =
    (all : List (List ℕ)) × g.W.Words.gave (Ok all)
    × (drop 1 all ≡ map string_bytes l.words.items ++ map string_bytes (into_iter_items l.given))

abbrev pub decreases-loop-word : goal.decreases-loop-word
decreases-loop-word g l = into_iter_len l.given
