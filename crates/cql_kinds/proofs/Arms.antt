-- The results of a walk in the forms that have several parts.
use Rattle.std.proofs.Common.{◌≡◌, Bool, ℕ, List, ◌++◌, refl, ◌∙◌, ap, ap₂}
use Rattle.cq_symmetry.specs.declared.families.Family.{Family}
use Rattle.cql_syntax.specs.Kinds.{chain_kind}
use Rattle.cql_syntax.specs.Occurrences.{TypingContext, part_of, part_of_square, square_condition, occurrences, inner, all_of, of_played, of_terms, of_written}
use Rattle.cql_syntax.specs.Trees.{FilterTree, FilterTrees, PlayedTree, TermTrees, WrittenTree, any, chain, direction, if_, pair, played, sort, square, sum_of, transform, unary}
use Rattle.cql_syntax.specs.TreeOf.{filter_tree, played_tree, held_tree, written_tree}
use Rattle.cql_syntax.specs.OperandKinds.{pair_operand_kind, unary_operand_kind}
use Rattle.cql_syntax.specs.declared.leaves.Chain.{Chain}
use Rattle.cql_syntax.specs.declared.leaves.Kind.{Kind}
use Rattle.cql_syntax.specs.declared.leaves.Kind.TheVariants.{Position, Set, Number}
use Rattle.cql_syntax.specs.declared.leaves.Pair.{Pair}
use Rattle.cql_syntax.specs.declared.leaves.Unary.{Unary}
use Rattle.cql_syntax.specs.declared.leaves.Way.{Way}
use Rattle.cql_syntax.specs.declared.tree.Filter.{Filter}
use Rattle.cql_syntax.specs.declared.tree.Played.{Played, Played', out-Played, outs-Played', Held-Played-origin, view-Played-origin, None', Some'}
use Rattle.cql_kinds.specs.declared.first_breaches.FirstBreaches.{FirstBreaches}
use Rattle.cql_kinds.specs.Internal.TypingContexts.{counted}
use Rattle.cql_kinds.specs.Internal.Walks.{walk_result}
use Rattle.cql_kinds.proofs.Counted.{both_counted}

-- the same filter in the same context
pub same_place : {s t : TypingContext} {f g : Filter} → s ≡ t → f ≡ g → occurrences s (filter_tree f) ≡ occurrences t (filter_tree g)
same_place p q = ap₂ (λ s f. occurrences s (filter_tree f)) p q

pub unary_at : (firsts : FirstBreaches) (s : TypingContext) (u : Unary) (f : FilterTree) → walk_result firsts (inner s (unary u f)) ≡ walk_result firsts (occurrences (part_of s (unary_operand_kind u)) f)
unfolding inner
unary_at firsts s u f = refl

pub steps_at : (firsts : FirstBreaches) (s : TypingContext) (way : Way) (m n : ℕ) (f : FilterTree) → walk_result firsts (inner s (direction way m n f)) ≡ walk_result firsts (occurrences (part_of s Set) f)
unfolding inner
steps_at firsts s way m n f = refl

pub sort_at : (firsts : FirstBreaches) (s : TypingContext) (least : Bool) (text : List ℕ) (f : FilterTree) → walk_result firsts (inner s (sort least text f)) ≡ walk_result firsts (occurrences (part_of s Number) f)
unfolding inner
sort_at firsts s least text f = refl

pub family_at : (firsts : FirstBreaches) (s : TypingContext) (family : Family) (f : FilterTree) → walk_result firsts (inner s (transform family f)) ≡ walk_result firsts (occurrences (part_of s Position) f)
unfolding inner
family_at firsts s family f = refl

pub chain_at : (firsts : FirstBreaches) (s : TypingContext) (c : Chain) (fs : FilterTrees) → walk_result firsts (inner s (chain c fs)) ≡ walk_result firsts (all_of (part_of s (chain_kind c)) fs)
unfolding inner
chain_at firsts s c fs = refl

pub any_at : (firsts : FirstBreaches) (s : TypingContext) (kind : Kind) (fs : FilterTrees) → walk_result firsts (inner s (any kind fs)) ≡ walk_result firsts (all_of (part_of s kind) fs)
unfolding inner
any_at firsts s kind fs = refl

pub sum_at : (firsts : FirstBreaches) (s : TypingContext) (ts : TermTrees) → walk_result firsts (inner s (sum_of ts)) ≡ walk_result firsts (of_terms (part_of s Number) ts)
unfolding inner
sum_at firsts s ts = refl

pub move_at : (firsts : FirstBreaches) (s : TypingContext) (p : PlayedTree) → walk_result firsts (inner s (played p)) ≡ walk_result firsts (of_played (part_of s Set) p)
unfolding inner
move_at firsts s p = refl

pub pair_at : (firsts : FirstBreaches) (s : TypingContext) (p : Pair) (f g : FilterTree) → walk_result firsts (inner s (pair p f g))
    ≡ walk_result firsts (occurrences (part_of s (pair_operand_kind p)) f ++ occurrences (part_of s (pair_operand_kind p)) g)
unfolding inner
pair_at firsts s p f g = refl

pub if_at : (firsts : FirstBreaches) (s : TypingContext) (f g h : FilterTree) → walk_result firsts (inner s (if_ f g h))
    ≡ walk_result firsts (occurrences (part_of s Position) f ++ (occurrences (part_of s Position) g ++ occurrences (part_of s Position) h))
unfolding inner
if_at firsts s f g h = refl

pub square_at : (firsts : FirstBreaches) (s : TypingContext) (every : Bool) (text : List ℕ) (f g : FilterTree) → walk_result firsts (inner s (square every text f g))
    ≡ walk_result firsts (occurrences (counted (part_of_square s Set)) f ++ occurrences (counted (square_condition s text)) g)
unfolding inner
square_at firsts s every text f g = both_counted firsts (part_of_square s Set) (square_condition s text) f g

-- the parts of a move filter
abbrev pub origin_of : Played → WrittenTree
origin_of (Played' origin goal taken promoted) = held_tree origin

abbrev pub goal_of : Played → WrittenTree
goal_of (Played' origin goal taken promoted) = held_tree goal

abbrev pub taken_of : Played → WrittenTree
taken_of (Played' origin goal taken promoted) = held_tree taken

abbrev pub promoted_of : Played → WrittenTree
promoted_of (Played' origin goal taken promoted) = held_tree promoted

held_is : (held : Held-Played-origin) → written_tree (view-Played-origin held) ≡ held_tree held
held_is None' = refl
held_is (Some' p i f) = refl

pub origin_is : (p : Played) → written_tree (out-Played p).origin ≡ origin_of p
origin_is (Played' origin goal taken promoted) = ap (λ y. written_tree y.origin) (outs-Played' origin goal taken promoted) ∙ held_is origin

pub goal_is : (p : Played) → written_tree (out-Played p).goal ≡ goal_of p
goal_is (Played' origin goal taken promoted) = ap (λ y. written_tree y.goal) (outs-Played' origin goal taken promoted) ∙ held_is goal

pub taken_is : (p : Played) → written_tree (out-Played p).taken ≡ taken_of p
taken_is (Played' origin goal taken promoted) = ap (λ y. written_tree y.taken) (outs-Played' origin goal taken promoted) ∙ held_is taken

pub promoted_is : (p : Played) → written_tree (out-Played p).promoted ≡ promoted_of p
promoted_is (Played' origin goal taken promoted) = ap (λ y. written_tree y.promoted) (outs-Played' origin goal taken promoted) ∙ held_is promoted

pub played_at : (firsts : FirstBreaches) (s : TypingContext) (p : Played) → walk_result firsts (of_played s (played_tree p))
    ≡ walk_result firsts (of_written s (origin_of p) ++ (of_written s (goal_of p) ++ (of_written s (taken_of p) ++ of_written s (promoted_of p))))
unfolding of_played
played_at firsts s (Played' origin goal taken promoted) = refl
