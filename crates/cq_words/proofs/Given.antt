-- The words of which `clap` returns matches.
use Rattle.std.proofs.Common.{◌≡◌, List, [], true, subst, ap}
use Rattle.clap.specs.Words.{App, HasMatchesOf, Text, fault_of, found_of, is_simple, is_simple_and_free, matches_of, rows_of}
use Rattle.clap.specs.declared.parser.matches.ArgMatches.{ArgMatches}
use Rattle.cq_words.specs.Line.{line}
use Rattle.cq_words.specs.Internal.Promises.{HasMatches}

pub has_matches : (a : App) (words : List Text) (m : ArgMatches) → a ≡ line
    → (is_simple_and_free a ≡ true → fault_of a words ≡ []) → HasMatchesOf a words m → HasMatches words m
has_matches a words m is free has = (
  subst (λ (x : App). fault_of x words ≡ []) is (free (ap is_simple_and_free is)),
  subst (λ (x : App). rows_of (found_of m) ≡ matches_of x words) is (has (ap is_simple is)).0,
)
