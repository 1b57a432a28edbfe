-- The state after the visit of a node.
use Rattle.std.proofs.Common.{◌≡◌, ℕ, ◌+◌, ◌<◌, ◌≤◌, Bool, true, false, List, length, get_or, refl, sym, ap, ◌∙◌, subst, Option, Some, None, inl, inr, arith}
use Rattle.std.proofs.Common.{slice_set}
use Rattle.std.proofs.lemmas.Bool.{cases_eq}
use Rattle.std.proofs.lemmas.Option.{slice_get_past}
use Rattle.std.proofs.lemmas.List.{get_or-set_same, get_or-set_other}
use Rattle.cql_lines.specs.declared.automaton.Transition.{Transition}
use Rattle.cql_lines.specs.declared.shape.TreeNode.{TreeNode}
use Rattle.cql_lines.specs.Shapes.{joined, joined_by, searched_by}
use Rattle.cq_common.specs.Greatest.{IsGreatest}
use Rattle.cql_lines.specs.Values.{GreatestWhere}
use Rattle.cql_lines.specs.Internal.DownwardPass.{cell, LengthBelow, DownInvariant, found}
use Rattle.cql_lines.proofs.Measures.{Measure, HasNone}

pub unsearched_by : (primary : Bool) (o : Option TreeNode) → searched_by o ≡ false → joined_by primary o ≡ None
unsearched_by primary None e = refl
unsearched_by primary (Some s) e = rw e refl

pub below_few : (atom atoms : ℕ) → atom < atoms → atoms ≤ 64 → atom < 64
below_few atom atoms low few = omega arith

pub answered_by : (s : Bool) (P : ℕ → Type 0) (o : Option ℕ) → s ≡ true → IsGreatest P o → GreatestWhere s P o
answered_by true P o e l = l
answered_by false P o e l = absurd (cc)

pub unanswered : (s : Bool) (P : ℕ → Type 0) → s ≡ false → GreatestWhere s P None
unanswered true P e = absurd (cc)
unanswered false P e = refl

pub answered : (s : Bool) (P : ℕ → Type 0) (o : Option ℕ) (m : ℕ) → s ≡ true → IsGreatest P (found m) → o ≡ found m → GreatestWhere s P o
answered true P o m e l is = subst (IsGreatest P) (sym is) l
answered false P o m e l is = absurd (cc)

-- rows without lengths
pub stands_first : (Represents : Measure) (none : HasNone Represents) (words : List ℕ) (rules : List Transition) (primary : Bool) (tree_nodes : List TreeNode) (rows : List (ℕ → ℕ)) → length rows ≡ length tree_nodes
    → ((n j : ℕ) → cell rows n j ≡ 0) → DownInvariant Represents words rules primary tree_nodes 0 rows
stands_first Represents none words rules primary tree_nodes rows size blank = record {
  count = size;
  known = λ n j.
      subst (Represents (LengthBelow words rules primary tree_nodes 0 n j)) (sym (blank n j))
      (none (LengthBelow words rules primary tree_nodes 0 n j) (λ k l.
      let past = slice_get_past tree_nodes l.0 (let h = l.1 in omega arith) in
      let off : joined primary tree_nodes l.0 ≡ None = ap (joined_by primary) past in
      let both = sym off ∙ l.2 in cc));
}

-- the nodes visited so far, from the last one, have their values
abbrev pub HasAnswers : (ℕ → ℕ → Type 0) → (searched : ℕ → Bool) → (size turn : ℕ) → List (Option ℕ) → Type 0
HasAnswers P searched size turn values = (n : ℕ) → size ≤ n + turn → n < size → GreatestWhere (searched n) (P n) (get_or values n None)

-- one value more
pub done_more : (P : ℕ → ℕ → Type 0) (searched : ℕ → Bool) (size : ℕ) (values : List (Option ℕ)) (v : Option ℕ) (turn node : ℕ) → length values ≡ size → node + turn + 1 ≡ size
    → GreatestWhere (searched node) (P node) v → HasAnswers P searched size turn values → HasAnswers P searched size (turn + 1) (slice_set values node v)
done_more P searched size values v turn node len e here before = λ n late low. elim (cases_eq n node) [
  | inl is ↦
      let set : get_or (slice_set values node v) n None ≡ v = ap (λ k. get_or (slice_set values node v) k None) is ∙ get_or-set_same values node v None (omega arith) in
      subst (GreatestWhere (searched n) (P n)) (sym set) (subst (λ k. GreatestWhere (searched k) (P k) v) (sym is) here)
  | inr other ↦
      let set : get_or (slice_set values node v) n None ≡ get_or values n None = get_or-set_other values node n v None other in
      subst (GreatestWhere (searched n) (P n)) (sym set) (before n (omega arith) low)
]
