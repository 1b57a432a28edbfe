-- Squares with which a word may hold that evaluates its part at other nodes: those that are brought back from there.
use Rattle.std.proofs.Common.{◌≡◌, ℕ, ◌<◌, true, Bool, List, get_or, sym, subst, arith}
use Rattle.cq_symmetry.specs.Images.{is_in}
use Rattle.cql_syntax.specs.Meaning.{Names, unary_of}
use Rattle.cql_syntax.specs.Values.{Value}
use Rattle.cql_syntax.specs.declared.leaves.Unary.{Unary}
use Rattle.cql_columns.specs.Columns.{is_live, IsNodeSet}
use Rattle.cql_columns.proofs.Filling.{live_below}
use Rattle.cql_operators.specs.OtherNodes.{is_from_other_nodes, CoverSourceNodes, GatherSourceSquares}
use Rattle.cql_operators.proofs.OtherNodesLaw.{holds_at}
use Rattle.cql_candidates.specs.Covers.{AreRetained, MayHold, AreAmong, AreUniform}
use Rattle.cql_candidates.proofs.CoverForms.{KeepsHolding, Tried}

-- the word evaluates its part at other nodes, all of which have the squares of the sets
pub record StandThere (t : Tried) (word : Unary) (wide : List Bool) (old there : List ℕ) : Type 0 where
  pub sure : is_from_other_nodes word ≡ true
  pub looked : CoverSourceNodes t.tree word t.live wide
  pub among : ℕ
  pub all : AreAmong t.live old among
  pub every : AreUniform wide among there

-- of the sets those squares are left that are brought back from there
pub record AreLeftBack (t : Tried) (word : Unary) (left old new : List ℕ) : Type 0 where
  pub back : List ℕ
  pub brought : GatherSourceSquares t.tree.game.nodes word left back
  pub cut : AreRetained t.live (λ n s. is_in (get_or back n 0) s ≡ true) old new

pub elsewhere_cut : (t : Tried) (word : Unary) (v : Names → ℕ → Value) (wide : List Bool) (there left old new : List ℕ) → IsNodeSet t.tree t.live → StandThere t word wide old there
    → AreRetained wide (MayHold t.opened t.outer t.name v) there left → AreLeftBack t word left old new → KeepsHolding t (λ e. unary_of t.tree word (v e)) old new
elsewhere_cut t word v wide there left old new asked stand cut last = record {
  count = last.cut.count;
  within = last.cut.within;
  keeps = λ n s a p h.
      let at = holds_at t.tree word (v p.inner) n stand.sure p.holds_there in
      let wide_there : is_live wide at.m ≡ true = stand.looked.covers n at.m a at.asks at.down in
      let kept : is_in (get_or left at.m 0) s ≡ true = cut.keeps at.m s wide_there
      (record { inner = p.inner; agree = p.agree; binds = p.binds; holds_there = at.holds_there })
      (subst (λ y. is_in y s ≡ true) (sym (stand.every.each at.m wide_there)) (stand.all.each n s a h)) in
      let low = live_below t.live n a in
      last.cut.keeps n s a (last.brought.each n at.m s (omega (arith, low, asked.count)) at.asks kept) h;
}
