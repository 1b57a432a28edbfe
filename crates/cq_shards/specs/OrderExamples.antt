-- Keys and answers of which the first comes before the second.
use Rattle.std.specs.Prelude.{◌≡◌, ℕ, ℤ, pos, negsuc, Bool, true, false, List, [], ◌∷◌, codes}
use Rattle.cql_syntax.specs.Samples.{at, filters}
use Rattle.cql_syntax.specs.Trees.{FilterTree, comment, plain, sort}
use Rattle.cql_syntax.specs.declared.leaves.Plain.TheVariants.{Ply, Wtm}
use Rattle.cq_shards.specs.declared.answers.Answer.TheVariants.{Match}
use Rattle.cq_shards.specs.declared.answers.GameAnswer.{GameAnswer}
use Rattle.cq_shards.specs.Order.{ComesBefore, Precede, directions}

abbrev by_ply : Bool → FilterTree
by_ply least = at (sort least (codes "p") (at (plain Ply)))

abbrev found : ℕ → List ℤ → GameAnswer
found index keys = record { index = index; what = Match [] keys }

pub record OrderExamples : Type 0 where
  pub directions_of_the_sort_items :
      directions (filters (at (plain Wtm) ∷ by_ply true ∷ at (comment (codes "c")) ∷ by_ply false ∷ [])) ≡ true ∷ false ∷ []
  pub greater_key : Precede (false ∷ []) (pos 5 ∷ []) (pos 1 ∷ [])
  pub lesser_key_with_min : Precede (true ∷ []) (pos 1 ∷ []) (pos 5 ∷ [])
  pub first_item : Precede (false ∷ true ∷ []) (pos 2 ∷ pos 9 ∷ []) (negsuc 3 ∷ pos 0 ∷ [])
  pub next_item : Precede (false ∷ true ∷ []) (pos 2 ∷ negsuc 0 ∷ []) (pos 2 ∷ pos 0 ∷ [])
  pub better_keys_of_a_later_game : ComesBefore (false ∷ []) (found 7 (pos 5 ∷ [])) (found 3 (pos 1 ∷ []))
  pub same_keys : ComesBefore (false ∷ []) (found 3 (pos 5 ∷ [])) (found 7 (pos 5 ∷ []))
  pub no_sort_item : ComesBefore [] (found 3 []) (found 7 [])
