-- All searched nodes are live, or none is.
use Rattle.std.proofs.Common.{◌≡◌, ℕ, zero, suc, Bool, true, false, List, [], ◌∷◌, length, get_or, sym, ◌∙◌, arith}
use Rattle.std.specs.List.{list_any}
use Rattle.cq_position.specs.Games.{is_searched}
use Rattle.cq_position.specs.Search.{SearchedTree}
use Rattle.cql_columns.proofs.Filling.{Told, live_below}
use Rattle.cql_operators.specs.LineAtoms.{AreAllAsked}

pub all_told : (tree : SearchedTree) (k : ℕ) (items : List Bool) → k ≡ length tree.game.nodes → Told (is_searched tree.variations tree.game.nodes) k items → AreAllAsked tree items
all_told tree k items end had = record {
  asked = record { count = had.count ∙ end; searched = λ n e. sym (had.each n (omega (arith, live_below items n e, had.count))) ∙ e };
  covers = λ n asked. had.each n (omega (arith, asked.1, end)) ∙ asked.0;
}

pub none_live : (live : List Bool) → list_any (λ b. b) live ≡ false → (n : ℕ) → get_or live n false ≡ true → ⊥
none_live [] e zero h = cc
none_live [] e (suc n) h = cc
none_live (true ∷ live) e n h = cc
none_live (false ∷ live) e zero h = cc
none_live (false ∷ live) e (suc n) h = none_live live e n h
