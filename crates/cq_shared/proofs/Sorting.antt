-- The rows of sort items, part by part.
use Rattle.std.proofs.Common.{◌≡◌, ℕ, ◌+◌, ◌<◌, true, List, [], ◌∷◌, ◌++◌, length, take, get_or, sym, ap, ◌∙◌, subst}
use Rattle.std.proofs.lemmas.List.{take_more}
use Rattle.cq_position.specs.Games.{Game}
use Rattle.cq_shared.specs.Matching.{is_left, HasKeyColumn, HaveKeyColumns}
use Rattle.cq_shared.specs.declared.nodes.NodeSet.{NodeSet}
use Rattle.cq_shared.specs.declared.nodes.KeyColumn.{KeyColumn}
use Rattle.cq_shared.specs.declared.part.Part.{Part}

module _ (game : Game) where
  row_kept : (left later : List NodeSet) (p : Part) (r : KeyColumn) → ((q n : ℕ) → is_left later q n ≡ true → is_left left q n ≡ true) → HasKeyColumn game left p r.numbers.items
      → HasKeyColumn game later p r.numbers.items
  row_kept left later p r fewer had = record { each = λ class q n has there. had.each class q n has (fewer q n there) }

  pub rows_kept : (left later : List NodeSet) (ps : List Part) (rs : List KeyColumn) → ((q n : ℕ) → is_left later q n ≡ true → is_left left q n ≡ true) → HaveKeyColumns game left ps rs
      → HaveKeyColumns game later ps rs
  rows_kept left later [] [] fewer had = tt
  rows_kept left later [] (r ∷ rs) fewer had = had
  rows_kept left later (p ∷ ps) [] fewer had = had
  rows_kept left later (p ∷ ps) (r ∷ rs) fewer had = (row_kept left later p r fewer had.0, rows_kept left later ps rs fewer had.1)

  rows_snoc : (left : List NodeSet) (ps : List Part) (rs : List KeyColumn) (p : Part) (r : KeyColumn) → HaveKeyColumns game left ps rs → HasKeyColumn game left p r.numbers.items
      → HaveKeyColumns game left (ps ++ p ∷ []) (rs ++ r ∷ [])
  rows_snoc left [] [] p r had is = (is, tt)
  rows_snoc left [] (s ∷ rs) p r had is = absurd had
  rows_snoc left (x ∷ ps) [] p r had is = absurd had
  rows_snoc left (x ∷ ps) (s ∷ rs) p r had is = (had.0, rows_snoc left ps rs p r had.1 is)

  pub rows_more : (left later : List NodeSet) (parts : List Part) (rs rows : List KeyColumn) (k : ℕ) (p : Part) (r : KeyColumn) → k < length parts → p ≡ get_or parts k p
      → ((q n : ℕ) → is_left later q n ≡ true → is_left left q n ≡ true) → HaveKeyColumns game left (take k parts) rs → HasKeyColumn game later p r.numbers.items → rows ≡ rs ++ r ∷ []
      → HaveKeyColumns game later (take (k + 1) parts) rows
  rows_more left later parts rs rows k p r low at fewer had is more =
      subst (HaveKeyColumns game later (take (k + 1) parts)) (sym more)
      (subst (λ ps. HaveKeyColumns game later ps (rs ++ r ∷ [])) (ap (λ x. take k parts ++ x ∷ []) at ∙ sym (take_more parts k p low))
      (rows_snoc later (take k parts) rs p r (rows_kept left later (take k parts) rs fewer had) is))
