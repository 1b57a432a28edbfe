-- The greatest length that a table's atoms spell is the value of a line.
use Rattle.std.proofs.Common.{◌≡◌, ℕ, zero, suc, ◌<◌, ◌≤◌, pos, Bool, true, false, ◌&&◌, List, [], ◌∷◌, ◌++◌, length, Option, option_map, refl, sym, ap, ap₂, ◌∙◌, subst, arith}
use Rattle.std.specs.Prelude.{Contains, IfSome}
use Rattle.cq_common.specs.Greatest.{IsGreatest, longest}
use Rattle.cq_common.specs.Spelling.{Pattern, one, nothing, joined, repeated, Spells, Times, spells}
use Rattle.cq_common.specs.Walks.{IsWalk, Line}
use Rattle.cq_common.proofs.GreatestLaw.{IsListed, greatest_listed, one_greatest}
use Rattle.cq_common.proofs.SpellingLaw.{spelling_law}
use Rattle.cq_common.proofs.WithinLaw.{left, right}
use Rattle.cq_position.specs.Games.{IsTree}
use Rattle.cq_position.specs.Search.{SearchedTree, IsStep, Along, IsPath, paths}
use Rattle.cq_position.proofs.Paths.{paths_law}
use Rattle.cq_position.proofs.WaysUp.{searched_up, parent_before}
use Rattle.cql_syntax.specs.Meaning.{allows, line_of}
use Rattle.cql_syntax.specs.LineTables.{AreParents, IsTableStep, IsTableOf, IsSearched, IsSearchedNode, SpellTheSame, TablesGiveLines, SpelledTablesGiveLines}
use Rattle.cql_syntax.specs.Values.{Value, as_number, holds}
use Rattle.cql_syntax.specs.declared.extents.Extent.{Extent}

-- a path that is spelled by a table is spelled by the values that it represents
abbrev AllReached : (ℕ → Type 0) → List ℕ → Type 0
AllReached Reach [] = Unit {0}
AllReached Reach (n ∷ w) = Reach n × AllReached Reach w

reached_left : (Reach : ℕ → Type 0) (u v : List ℕ) → AllReached Reach (u ++ v) → AllReached Reach u
reached_left Reach [] v r = tt
reached_left Reach (n ∷ u) v r = (r.0, reached_left Reach u v r.1)

reached_right : (Reach : ℕ → Type 0) (u v : List ℕ) → AllReached Reach (u ++ v) → AllReached Reach v
reached_right Reach [] v r = r
reached_right Reach (n ∷ u) v r = reached_right Reach u v r.1

times_same : (Reach : ℕ → Type 0) (P Q : List ℕ → Type 0) → ((w : List ℕ) → AllReached Reach w → P w → Q w) → (k : ℕ) (w : List ℕ) → AllReached Reach w → Times P k w → Times Q k w
times_same Reach P Q f zero w r t = t
times_same Reach P Q f (suc k) w r t =
    let parts = subst (AllReached Reach) t.2 r in
    (t.0, t.1, t.2, f t.0 (reached_left Reach t.0 t.1 parts) t.3, times_same Reach P Q f k t.1 (reached_right Reach t.0 t.1 parts) t.4)

module _ (table : ℕ → ℕ → Bool) (Reach : ℕ → Type 0) where
  to_values : (p : Pattern ℕ) (r : Pattern (ℕ → Value)) → IsTableOf table Reach p r → (w : List ℕ) → AllReached Reach w → Spells table p w → Spells (λ v m. holds (v m)) r w
  to_values (one a) (one v) t w all s = (s.0, s.1, sym (t s.0 (subst (AllReached Reach) s.1 all).0) ∙ s.2)
  to_values (one a) nothing t w all s = absurd t
  to_values (one a) (joined _ _) t w all s = absurd t
  to_values (one a) (repeated _ _ _) t w all s = absurd t
  to_values nothing (one _) t w all s = absurd t
  to_values nothing nothing t w all s = s
  to_values nothing (joined _ _) t w all s = absurd t
  to_values nothing (repeated _ _ _) t w all s = absurd t
  to_values (joined p q) (one _) t w all s = absurd t
  to_values (joined p q) nothing t w all s = absurd t
  to_values (joined p q) (joined r x) t w all s =
      let parts = subst (AllReached Reach) s.2 all in
      (s.0, s.1, s.2, to_values p r t.0 s.0 (reached_left Reach s.0 s.1 parts) s.3, to_values q x t.1 s.1 (reached_right Reach s.0 s.1 parts) s.4)
  to_values (joined p q) (repeated _ _ _) t w all s = absurd t
  to_values (repeated l m p) (one _) t w all s = absurd t
  to_values (repeated l m p) nothing t w all s = absurd t
  to_values (repeated l m p) (joined _ _) t w all s = absurd t
  to_values (repeated l m p) (repeated k o r) t w all s =
      (s.0, subst (λ i. i ≤ s.0) t.0 s.1, subst (λ i. IfSome i (λ j. s.0 ≤ j)) t.1 s.2, times_same Reach (Spells table p) (Spells (λ v n. holds (v n)) r) (to_values p r t.2) s.0 w all s.3)

  from_values : (p : Pattern ℕ) (r : Pattern (ℕ → Value)) → IsTableOf table Reach p r → (w : List ℕ) → AllReached Reach w → Spells (λ v m. holds (v m)) r w → Spells table p w
  from_values (one a) (one v) t w all s = (s.0, s.1, t s.0 (subst (AllReached Reach) s.1 all).0 ∙ s.2)
  from_values (one a) nothing t w all s = absurd t
  from_values (one a) (joined _ _) t w all s = absurd t
  from_values (one a) (repeated _ _ _) t w all s = absurd t
  from_values nothing (one _) t w all s = absurd t
  from_values nothing nothing t w all s = s
  from_values nothing (joined _ _) t w all s = absurd t
  from_values nothing (repeated _ _ _) t w all s = absurd t
  from_values (joined p q) (one _) t w all s = absurd t
  from_values (joined p q) nothing t w all s = absurd t
  from_values (joined p q) (joined r x) t w all s =
      let parts = subst (AllReached Reach) s.2 all in
      (s.0, s.1, s.2, from_values p r t.0 s.0 (reached_left Reach s.0 s.1 parts) s.3, from_values q x t.1 s.1 (reached_right Reach s.0 s.1 parts) s.4)
  from_values (joined p q) (repeated _ _ _) t w all s = absurd t
  from_values (repeated l m p) (one _) t w all s = absurd t
  from_values (repeated l m p) nothing t w all s = absurd t
  from_values (repeated l m p) (joined _ _) t w all s = absurd t
  from_values (repeated l m p) (repeated k o r) t w all s = (
    s.0,
    subst (λ i. i ≤ s.0) (sym t.0) s.1,
    subst (λ i. IfSome i (λ j. s.0 ≤ j)) (sym t.1) s.2,
    times_same Reach (Spells (λ v n. holds (v n)) r)
        (Spells table p) (from_values p r t.2) s.0 w all s.3,
  )

-- from searched nodes, a relation is that of the steps of paths
record AreSteps (tree : SearchedTree) (back primary : Bool) (Edge : ℕ → ℕ → Type 0) : Type 0 where
  are_steps : (n m : ℕ) → IsSearched tree n → Edge n m → IsStep tree back primary n m
  all_steps : (n m : ℕ) → IsSearched tree n → IsStep tree back primary n m → Edge n m

steps_of : (tree : SearchedTree) (back primary : Bool) (above : ℕ → Option ℕ) → AreParents tree primary above → AreSteps tree back primary (IsTableStep above back)
steps_of tree true primary above are = record {
  are_steps = λ n m s e. let r = are.are_parents n m e in record { parent = r.1; first = r.2 };
  all_steps = λ n m s step. are.all_parents n m s step.parent step.first;
}
steps_of tree false primary above are = record {
  are_steps = λ n m s e. let r = are.are_parents m n e in record { child = r.1; is_in = r.0; first = r.2 };
  all_steps = λ n m s step. are.all_parents m n step.is_in step.child step.first;
}

-- a step leads to a node of the game, and from a searched one to a searched one
step_inside : (tree : SearchedTree) → IsTree tree.game.nodes → (back primary : Bool) (n m : ℕ) → IsStep tree back primary n m → m < length tree.game.nodes
step_inside tree is_tree true primary n m step = let b = parent_before tree.game.nodes n m is_tree step.parent in omega (arith, b.0, b.1)
step_inside tree is_tree false primary n m step = (parent_before tree.game.nodes m n is_tree step.child).1

step_searched : (tree : SearchedTree) → IsTree tree.game.nodes → (back primary : Bool) (n m : ℕ) → IsSearched tree n → IsStep tree back primary n m → IsSearched tree m
step_searched tree is_tree true primary n m s step = searched_up tree.variations tree.game.nodes n m is_tree step.parent s
step_searched tree is_tree false primary n m s step = step.is_in

module _ (tree : SearchedTree) (is_tree : IsTree tree.game.nodes) (back primary : Bool) (Edge : ℕ → ℕ → Type 0) (are : AreSteps tree back primary Edge) where
  along_of : (n : ℕ) (w : List ℕ) → IsSearched tree n → IsWalk Edge n w → Along (IsStep tree back primary) n w
  along_of n [] s f = tt
  along_of n (m ∷ w) s f = let step = are.are_steps n m s f.0 in (step, along_of m w (step_searched tree is_tree back primary n m s step) f.1)

  follow_of : (n : ℕ) (w : List ℕ) → IsSearched tree n → Along (IsStep tree back primary) n w → IsWalk Edge n w
  follow_of n [] s a = tt
  follow_of n (m ∷ w) s a = (are.all_steps n m s a.0, follow_of m w (step_searched tree is_tree back primary n m s a.0) a.1)

  all_reached : (n : ℕ) (w : List ℕ) → IsSearchedNode tree n → Along (IsStep tree back primary) n w → AllReached (IsSearchedNode tree) (n ∷ w)
  all_reached n [] s a = (s, tt)
  all_reached n (m ∷ w) s a = (s, all_reached m w (step_searched tree is_tree back primary n m s.0 a.0, step_inside tree is_tree back primary n m a.0) a.1)

  alike_of : (table : ℕ → ℕ → Bool) (p : Pattern ℕ) (r : Pattern (ℕ → Value)) → IsTableOf table (IsSearchedNode tree) p r
      → (n : ℕ) → IsSearchedNode tree n → SpellTheSame tree back primary table p r n
  alike_of table p r is n s w goes = (to_values table (IsSearchedNode tree) p r is (n ∷ w) (all_reached n w s goes), from_values table (IsSearchedNode tree) p r is (n ∷ w) (all_reached n w s goes))

  module _ (extent : Extent) (table : ℕ → ℕ → Bool) (p : Pattern ℕ) (r : Pattern (ℕ → Value)) (n : ℕ) (s : IsSearchedNode tree n) (is : SpellTheSame tree back primary table p r n) where
    abbrev test : List ℕ → Bool
    test w = allows extent (length w) && spells (λ v m. holds (v m)) r w

    listed : (len : ℕ) → Line table Edge p n len × (allows extent len ≡ true) → IsListed test (paths tree back primary n) len
    listed len l =
        let w = l.0.0 in
        let goes = along_of n w s.0 l.0.1 in
        let same : length (n ∷ w) ≡ len = sym l.0.2 in (
          n ∷ w,
          (paths_law tree is_tree back primary n (n ∷ w)).1 (record { later = w; begins = refl; goes = goes }),
          same,
          ap₂ (λ a b. a && b) (ap (allows extent) same ∙ l.1)
              ((spelling_law (λ v m. holds (v m)) r (n ∷ w)).1 ((is w goes).0 l.0.3)),
        )

    reached : (len : ℕ) → IsListed test (paths tree back primary n) len → Line table Edge p n len × (allows extent len ≡ true)
    reached len l =
        let path = (paths_law tree is_tree back primary n l.0).0 l.1 in
        let w = path.later in
        let same : length (n ∷ w) ≡ len = ap length (sym path.begins) ∙ l.2 in
        let passes = ap test (sym path.begins) ∙ l.3 in
        let spelled = (spelling_law (λ v m. holds (v m)) r (n ∷ w)).0 (right (allows extent (length (n ∷ w))) (spells (λ v m. holds (v m)) r (n ∷ w)) passes) in (
          (w, follow_of n w s.0 path.goes, sym same, (is w path.goes).1 spelled),
          ap (allows extent) (sym same) ∙ left (allows extent (length (n ∷ w))) (spells (λ v m. holds (v m)) r (n ∷ w)) passes,
        )

    value_is : (o : Option ℕ) → IsGreatest (λ len. Line table Edge p n len × (allows extent len ≡ true)) o → as_number (option_map pos o) ≡ line_of tree back primary extent r n
    value_is o g = ap (λ x. as_number (option_map pos x))
        (one_greatest (λ len. Line table Edge p n len × (allows extent len ≡ true)) (IsListed test (paths tree back primary n)) o (longest test (paths tree back primary n)) listed reached g
        (greatest_listed test (paths tree back primary n)))

pub spelled_lines_are_theirs : SpelledTablesGiveLines
spelled_lines_are_theirs tree is_tree back primary above are extent table p r n s is o g =
    value_is tree is_tree back primary (IsTableStep above back) (steps_of tree back primary above are) extent table p r n s is o g

pub lines_are_theirs : TablesGiveLines
lines_are_theirs tree is_tree back primary above are extent table p r is n s o g =
    spelled_lines_are_theirs tree is_tree back primary above are extent table p r n s
    (alike_of tree is_tree back primary (IsTableStep above back) (steps_of tree back primary above are) table p r is n s) o g
