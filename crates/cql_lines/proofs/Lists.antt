-- A sequence is its parts from the first to the last, and may be put together from the last to the first.
use Rattle.std.proofs.Common.{◌≡◌, ℕ, suc, ◌+◌, ◌-◌, ◌<◌, ◌≤◌, List, length, get_or, drop, drop-cons, refl, sym, ◌∙◌, ap, arith}
use Rattle.std.proofs.lemmas.List.{drop_all}
use Rattle.cq_common.specs.Spelling.{nothing, joined}
use Rattle.cql_lines.specs.PatternTrees.{pattern_tree, pattern_row, patterns_in, pattern_trees}
use Rattle.cql_lines.specs.declared.pattern.Pattern.{Pattern as Given, Sequence, Row_of-Pattern, end_of-Pattern, more_of-Pattern, items-the_row-Pattern, items_hidden-the_row-Pattern-0}
use Rattle.cql_lines.specs.declared.pattern.Pattern.TheBlock.{hidden-the_row-Pattern-0}
use Rattle.cql_lines.specs.declared.pattern.Patterns.{Patterns}

pattern_row_is : {n : _} (k : Row_of-Pattern n) → pattern_row k ≡ pattern_trees (items-the_row-Pattern n k)
pattern_row_is end_of-Pattern = refl
pattern_row_is (more_of-Pattern p rest) = ap (joined (pattern_tree p)) (pattern_row_is rest)

pub sequence_tree : (ps : Patterns) → pattern_tree (Sequence ps) ≡ pattern_trees (patterns_in ps)
sequence_tree ps = pattern_row_is (hidden-the_row-Pattern-0 ps.items) ∙ ap pattern_trees (items_hidden-the_row-Pattern-0 ps.items)

drop_one : (ps : List Given) (d : Given) (n : ℕ) → n < length ps → pattern_trees (drop n ps) ≡ joined (pattern_tree (get_or ps n d)) (pattern_trees (drop (n + 1) ps))
drop_one ps d n low =
    let e : suc n ≡ n + 1 = omega arith in
    ap pattern_trees (drop-cons ps n d low) ∙ ap (λ k. joined (pattern_tree (get_or ps n d)) (pattern_trees (drop k ps))) e

-- the parts from one on, counted from the end
pub from_end : (ps : List Given) (d : Given) (n : ℕ) → n < length ps
    → pattern_trees (drop (length ps - (n + 1)) ps) ≡ joined (pattern_tree (get_or ps (length ps - 1 - n) d)) (pattern_trees (drop (length ps - n) ps))
from_end ps d n low =
    let a : length ps - (n + 1) ≡ length ps - 1 - n = omega arith in
    let b : length ps - 1 - n + 1 ≡ length ps - n = omega arith in
    ap (λ k. pattern_trees (drop k ps)) a ∙ drop_one ps d (length ps - 1 - n) (omega arith) ∙ ap (λ k. joined (pattern_tree (get_or ps (length ps - 1 - n) d)) (pattern_trees (drop k ps))) b

pub from_none : (ps : List Given) → nothing ≡ pattern_trees (drop (length ps - 0) ps)
from_none ps = sym (ap pattern_trees (drop_all (length ps - 0) ps (omega arith)))

pub from_start : (ps : List Given) (n : ℕ) → length ps ≤ n → pattern_trees (drop (length ps - n) ps) ≡ pattern_trees ps
from_start ps n all = let z : length ps - n ≡ 0 = omega arith in ap (λ k. pattern_trees (drop k ps)) z
