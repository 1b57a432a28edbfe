-- The nodes that a word searches.
use Rattle.std.proofs.Common.{◌≡◌, ◌<◌, ℕ, List, length, Some, None, ap, sym, ◌∙◌, subst}
use Rattle.std.specs.Prelude.{All}
use Rattle.cq_position.specs.Games.{IsTree}
use Rattle.cq_position.specs.Search.{SearchedTree}
use Rattle.cql_syntax.specs.Meaning.{position_at, unary_of}
use Rattle.cql_syntax.specs.Values.{Value}
use Rattle.cql_syntax.specs.declared.leaves.Unary.{Unary}
use Rattle.cql_syntax.specs.declared.leaves.Unary.TheVariants.{Not, Complement, Count, Power, Light, Dark, Find, FindUp, Child, Parent}
use Rattle.cql_plain.specs.Internal.Scopes.{candidate_nodes}
use Rattle.cql_values.proofs.Evaluated.{word_here}
use Rattle.cql_values.proofs.Ways.{below_inside, way_inside, children_inside, parent_inside}
use Rattle.cql_values.specs.FilterValues.{unary_result}

one_only : (xs ys : List ℕ) → Some xs ≡ Some ys → xs ≡ ys
one_only xs ys is = cc

inside : (count : ℕ) (xs ys : List ℕ) → Some xs ≡ Some ys → All (λ m. m < count) ys → All (λ m. m < count) xs
inside count xs ys is = subst (All (λ m. m < count)) (sym (one_only xs ys is))

pub looked_inside : (tree : SearchedTree) → IsTree tree.game.nodes → (word : Unary) (n : ℕ) → n < length tree.game.nodes → (nodes : List ℕ) → Some nodes ≡ candidate_nodes tree word n
    → All (λ m. m < length tree.game.nodes) nodes
looked_inside tree is_tree Find n low nodes is = inside (length tree.game.nodes) nodes _ is (below_inside tree.game.nodes tree.variations n)
looked_inside tree is_tree FindUp n low nodes is = inside (length tree.game.nodes) nodes _ is (way_inside tree.game.nodes n is_tree low)
looked_inside tree is_tree Child n low nodes is = inside (length tree.game.nodes) nodes _ is (children_inside tree.game.nodes tree.variations n)
looked_inside tree is_tree Parent n low nodes is = inside (length tree.game.nodes) nodes _ is (parent_inside tree.game.nodes n is_tree low)
looked_inside tree is_tree Not n low nodes is = absurd cc
looked_inside tree is_tree Complement n low nodes is = absurd cc
looked_inside tree is_tree Count n low nodes is = absurd cc
looked_inside tree is_tree Power n low nodes is = absurd cc
looked_inside tree is_tree Light n low nodes is = absurd cc
looked_inside tree is_tree Dark n low nodes is = absurd cc

-- a word that searches no nodes
pub word_alone : (tree : SearchedTree) (word : Unary) (v : ℕ → Value) (n : ℕ) (x : Value) → None ≡ candidate_nodes tree word n → x ≡ v n → unary_result (position_at tree n).men word x ≡ unary_of tree word v n
word_alone tree word v n x none =
    word_here tree word v n x (λ e. let f = none ∙ ap (λ w. candidate_nodes tree w n) e in cc) (λ e. let f = none ∙ ap (λ w. candidate_nodes tree w n) e in cc)
    (λ e. let f = none ∙ ap (λ w. candidate_nodes tree w n) e in cc) (λ e. let f = none ∙ ap (λ w. candidate_nodes tree w n) e in cc)
