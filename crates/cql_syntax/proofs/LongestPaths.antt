-- The value of a line is the greatest length of the paths that its pattern spells.
use Rattle.std.proofs.Common.{◌≡◌, ℕ, ◌≤◌, Bool, ◌&&◌, List, length, Option, Some, None, refl, sym, ap, ap₂, ◌∙◌}
use Rattle.cq_common.specs.Greatest.{IsGreatest, longest}
use Rattle.cq_common.specs.Spelling.{Pattern, spells}
use Rattle.cq_common.proofs.GreatestLaw.{IsListed, greatest_listed}
use Rattle.cq_common.proofs.SpellingLaw.{spelling_law}
use Rattle.cq_common.proofs.WithinLaw.{left, right}
use Rattle.cq_position.specs.Games.{IsTree}
use Rattle.cq_position.specs.Search.{SearchedTree, paths}
use Rattle.cq_position.proofs.Paths.{paths_law}
use Rattle.cql_syntax.specs.LongestPaths.{IsSpelledLength, LinesAreLongestPaths}
use Rattle.cql_syntax.specs.Meaning.{allows, line_value, pattern}
use Rattle.cql_syntax.specs.Values.{Value, holds}
use Rattle.cql_syntax.specs.declared.extents.Extent.{Extent}

-- numbers of one kind have one greatest
same_greatest : (P Q : ℕ → Type 0) (o : Option ℕ) → ((k : ℕ) → P k → Q k) → ((k : ℕ) → Q k → P k) → IsGreatest P o → IsGreatest Q o
same_greatest P Q None to from g = λ k q. g k (from k q)
same_greatest P Q (Some m) to from g = (to m g.0, λ k q. g.1 k (from k q))

module _ (tree : SearchedTree) (is_tree : IsTree tree.game.nodes) (back primary : Bool) (extent : Extent) (p : Pattern (ℕ → Value)) (n : ℕ) where
  abbrev test : List ℕ → Bool
  test w = allows extent (length w) && spells (λ v m. holds (v m)) p w

  from_listed : (len : ℕ) → IsListed test (paths tree back primary n) len → IsSpelledLength tree back primary extent p n len
  from_listed len l =
      let passes = l.3 in
      record {
        nodes = l.0;
        path = (paths_law tree is_tree back primary n l.0).0 l.1;
        spelled = (spelling_law (λ v m. holds (v m)) p l.0).0 (right (allows extent (length l.0)) (spells (λ v m. holds (v m)) p l.0) passes);
        count = l.2;
        allowed = ap (allows extent) (sym l.2) ∙ left (allows extent (length l.0)) (spells (λ v m. holds (v m)) p l.0) passes;
      }

  to_listed : (len : ℕ) → IsSpelledLength tree back primary extent p n len → IsListed test (paths tree back primary n) len
  to_listed len s = (
    s.nodes,
    (paths_law tree is_tree back primary n s.nodes).1 s.path,
    s.count,
    ap₂ (λ a b. a && b) (ap (allows extent) s.count ∙ s.allowed) ((spelling_law (λ v m. holds (v m)) p s.nodes).1 s.spelled),
  )

  greatest : IsGreatest (IsSpelledLength tree back primary extent p n) (longest test (paths tree back primary n))
  greatest = same_greatest (IsListed test (paths tree back primary n)) (IsSpelledLength tree back primary extent p n) (longest test (paths tree back primary n))
      from_listed to_listed (greatest_listed test (paths tree back primary n))

pub lines_are_longest_paths : LinesAreLongestPaths
unfolding line_value
lines_are_longest_paths tree is_tree g e back primary extent parts n = (
  longest (λ w. allows extent (length w) && spells (λ v m. holds (v m)) (pattern tree g e parts) w) (paths tree back primary n),
  refl,
  greatest tree is_tree back primary extent (pattern tree g e parts) n,
)
