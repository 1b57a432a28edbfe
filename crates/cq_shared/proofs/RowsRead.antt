-- The rows of sort items, as they are read.
use Rattle.std.proofs.Common.{◌≡◌, ℕ, zero, suc, ◌<◌, List, [], ◌∷◌, length, get_or, refl, sym, ap, subst, arith}
use Rattle.cq_position.specs.Games.{Game}
use Rattle.cq_shared.specs.Matching.{HasKeyColumn, HaveKeyColumns}
use Rattle.cq_shared.specs.declared.nodes.NodeSet.{NodeSet}
use Rattle.cq_shared.specs.declared.nodes.KeyColumn.{KeyColumn}
use Rattle.cq_shared.specs.declared.part.Part.{Part}

module _ (game : Game) where
  pub rows_count : (left : List NodeSet) (ps : List Part) (rs : List KeyColumn) → HaveKeyColumns game left ps rs → length rs ≡ length ps
  rows_count left [] [] had = refl
  rows_count left [] (r ∷ rs) had = absurd had
  rows_count left (p ∷ ps) [] had = absurd had
  rows_count left (p ∷ ps) (r ∷ rs) had = ap suc (rows_count left ps rs had.1)

  pub row_read : (left : List NodeSet) (ps : List Part) (rs : List KeyColumn) (k : ℕ) (p : Part) (r : KeyColumn) → k < length ps → p ≡ get_or ps k p → r ≡ get_or rs k r → HaveKeyColumns game left ps rs
      → HasKeyColumn game left p r.numbers.items
  row_read left [] rs k p r low at here had = absurd (omega (arith, low))
  row_read left (x ∷ ps) [] k p r low at here had = absurd had
  row_read left (x ∷ ps) (s ∷ rs) zero p r low at here had =
      subst (λ y. HasKeyColumn game left y r.numbers.items) (sym at) (subst (λ t. HasKeyColumn game left x t.numbers.items) (sym here) had.0)
  row_read left (x ∷ ps) (s ∷ rs) (suc k) p r low at here had = row_read left ps rs k p r (omega (arith, low)) at here had.1
