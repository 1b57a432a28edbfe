-- Squares that are left by the column of a filter without open names.
use Rattle.std.proofs.Common.{◌≡◌, ℕ, ◌+◌, ◌≤◌, Bool, true, List, [], sym, ap, ◌∙◌, subst, arith}
use Rattle.cq_position.specs.Games.{node_at}
use Rattle.cq_position.specs.Search.{SearchedTree}
use Rattle.cql_syntax.specs.Meaning.{Names, value}
use Rattle.cql_syntax.specs.Trees.{FilterTree}
use Rattle.cql_syntax.specs.Values.{Value, holds, has, pair_of}
use Rattle.cql_syntax.specs.declared.leaves.Pair.{Pair}
use Rattle.cql_columns.specs.Columns.{IsColumn, is_live, shown}
use Rattle.cql_columns.specs.declared.filter_column.FilterColumn.{FilterColumn}
use Rattle.cql_candidates.specs.Covers.{Agree, AreRetained, HasSome, IsIndependent, IsRelatedSquare, MayHave, MayHold}
use Rattle.cql_candidates.proofs.CoverLaw.{cut_as, cut_wide}

-- it takes no steps
pub no_steps : (before later cost : ℕ) → cost ≡ 0 → later ≤ before + cost → before ≤ later → later ≡ before
no_steps before later cost none most rises = omega (arith, none, most, rises)

-- the column is evaluated at nodes with squares, and has the filter's value whatever is bound to the open names
module _ (tree : SearchedTree) (live some at there : List Bool) (opened outer : Names) (given : List ℕ) (f : FilterTree) (c : FilterColumn) (old new : List ℕ)
    (same : at ≡ some) (same_too : there ≡ some) (has_some : HasSome tree live old some) (free : IsIndependent opened f) (column : IsColumn c at (value tree [] outer f)) where
  shows : (n : ℕ) (inner : Names) → is_live some n ≡ true → Agree opened inner outer → shown c n ≡ value tree [] inner f n
  shows n inner a agree = column n (ap (λ l. is_live l n) same ∙ a) ∙ sym (free.each tree inner outer n agree)

  cut_by : (P Q : ℕ → ℕ → Type 0) → ((n s : ℕ) → is_live some n ≡ true → P n s → Q n s) → AreRetained there Q old new → AreRetained live P old new
  cut_by P Q from cut = cut_wide tree live some P old new has_some (cut_as some P Q old new from (subst (λ l. AreRetained l Q old new) same_too cut))

  pub free_cut : AreRetained there (λ n s. holds (shown c n) ≡ true) old new → AreRetained live (MayHold opened outer given (λ e. value tree [] e f)) old new
  free_cut = cut_by (MayHold opened outer given (λ e. value tree [] e f)) (λ n s. holds (shown c n) ≡ true) (λ n s a m. ap holds (shows n m.inner a m.agree) ∙ m.holds_there)

  pub free_set_cut : AreRetained there (λ n s. has (shown c n) s ≡ true) old new → AreRetained live (MayHave opened outer given (λ e. value tree [] e f)) old new
  free_set_cut = cut_by (MayHave opened outer given (λ e. value tree [] e f)) (λ n s. has (shown c n) s ≡ true)
      (λ n s a m. ap (λ v. has v s) (shows n m.inner a m.agree) ∙ m.has_there)

  pub related_cut : (p : Pair) → AreRetained there (λ n. IsRelatedSquare (node_at tree.game.nodes n).position.men p (shown c n)) old new
      → (v : Names → ℕ → Value) → AreRetained live (MayHave opened outer given (λ e n. pair_of (node_at tree.game.nodes n).position.men p (v e n) (value tree [] e f n))) old new
  related_cut p cut v = cut_by (MayHave opened outer given (λ e n. pair_of (node_at tree.game.nodes n).position.men p (v e n) (value tree [] e f n)))
      (λ n. IsRelatedSquare (node_at tree.game.nodes n).position.men p (shown c n))
      (λ n s a m. record {
        first = v m.inner n;
        has_there = ap (λ y. has (pair_of (node_at tree.game.nodes n).position.men p (v m.inner n) y) s) (shows n m.inner a m.agree) ∙ m.has_there;
      }) cut
