-- The value of a line, by the type of lines.
use Rattle.std.proofs.Common.{◌≡◌, ℕ, Bool, true, false, pos, List, ◌∷◌, length, replicate, Option, option_map, refl, subst}
use denote.Hole.Carrier as Carrier
use Rattle.cq_position.specs.Games.{IsTree}
use Rattle.cq_position.specs.Search.{SearchedTree}
use Rattle.cq_common.specs.Spelling.{Pattern}
use Rattle.cql_syntax.specs.Contexts.{Context}
use Rattle.cql_syntax.specs.Meaning.{Names, pattern, line_value, value}
use Rattle.cql_syntax.specs.TreeOf.{line_tree, parts_tree}
use Rattle.cql_syntax.specs.Values.{Value, as_number}
use Rattle.cql_syntax.specs.declared.extents.Extent.{Extent}
use Rattle.cql_syntax.specs.declared.tree.Line.{Line as OneLine, Line', out-Line}
use Rattle.cql_plain.specs.Internal.LineParts.{EndsOf}
use Rattle.cq_common.specs.Greatest.{IsGreatest}
use Rattle.cql_plain.specs.Internal.Paths.{ArePaths, IsLength}
use Rattle.cql_plain.specs.declared.paths.PathStep.{PathStep}
use Rattle.cql_plain.proofs.LineLaw.{line_law}

-- the same of equal lists
pub ends_of : (p : Pattern (ℕ → Value)) (steps same : List (Option PathStep)) (starts begun ends : List Bool) → same ≡ steps → begun ≡ starts → EndsOf same p begun ends
    → EndsOf steps p starts ends
ends_of p steps same starts begun ends is from found = subst (λ s. EndsOf s p starts ends) is (subst (λ t. EndsOf same p t ends) from found)

pub greatest_of : (extent : Extent) (steps same : List (Option PathStep)) (ends found : List Bool) (o : Option ℕ) → same ≡ steps → found ≡ ends → IsGreatest (IsLength same found extent) o
    → IsGreatest (IsLength steps ends extent) o
greatest_of extent steps same ends found o is to best = subst (λ s. IsGreatest (IsLength s ends extent) o) is (subst (λ x. IsGreatest (IsLength same x extent) o) to best)

pub line_is : (tree : SearchedTree) → IsTree tree.game.nodes → (g : Context) (e : Names) (l : OneLine) (n : ℕ) (steps : List (Option PathStep)) (ends : List Bool) (o : Option ℕ)
    → ArePaths tree (out-Line l).back (out-Line l).primary n steps → EndsOf steps (pattern tree g e (parts_tree (out-Line l).parts)) (true ∷ replicate (length steps) false) ends
    → IsGreatest (IsLength steps ends (out-Line l).extent) o → as_number (option_map pos o) ≡ line_value tree g e (line_tree l) n
unfolding value out-Line Carrier.out
line_is tree is_tree g e (Line' back primary extent cs) n steps ends o all found best =
    line_law tree is_tree back primary n steps all extent (pattern tree g e (parts_tree cs)) (true ∷ replicate (length steps) false) ends refl found o best
