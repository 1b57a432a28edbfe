-- The greatest length of the paths that a pattern spells is that of the places at which it ends.
use Rattle.std.proofs.Common.{◌≡◌, ℕ, zero, suc, ◌+◌, ◌<◌, ◌≤◌, max, pos, Bool, true, false, ◌&&◌, List, [], ◌∷◌, length, get_or, replicate, Option, Some, None, option_map, refl, sym, ap, ◌∙◌, subst, arith, inl, inr}
use Rattle.std.specs.Prelude.{◌⊎◌, Contains, if◌then◌else◌}
use Rattle.cq_common.specs.Spelling.{Pattern, spells}
use Rattle.cq_common.proofs.SpellingLaw.{spelling_law}
use Rattle.cq_position.specs.Games.{IsTree}
use Rattle.cq_position.specs.Search.{SearchedTree, IsStep, Along, IsPath, paths}
use Rattle.cq_position.proofs.Paths.{paths_law}
use Rattle.cql_syntax.specs.Meaning.{allows, line_of}
use Rattle.cql_syntax.specs.Values.{Value, as_number, holds}
use Rattle.cql_syntax.specs.declared.extents.Extent.{Extent}
use Rattle.cql_plain.specs.Internal.LineParts.{EndsOf}
use Rattle.cq_common.specs.Greatest.{IsGreatest, longest}
use Rattle.cq_common.proofs.GreatestLaw.{IsListed, greatest_listed, one_greatest}
use Rattle.cql_plain.specs.Internal.Paths.{GoesTo, length_at, AreSteps, ArePaths, IsLength}
use Rattle.cql_plain.specs.Internal.PatternEnds.{Spans, HasPlace}
use Rattle.cql_plain.specs.declared.paths.PathStep.{PathStep}
use Rattle.cq_common.proofs.WithinLaw.{left, right}

pub first_only : (m j : ℕ) → get_or (replicate m false) j false ≡ false
first_only zero j = refl
first_only (suc m) zero = refl
first_only (suc m) (suc j) = first_only m j

at_first : (m j : ℕ) → HasPlace (true ∷ replicate m false) j → j ≡ 0
at_first m zero e = refl
at_first m (suc j) e = absurd (let f = first_only m j in cc)

-- along steps a place is as far as the nodes before it
pub slice_length : (steps : List (Option PathStep)) → AreSteps steps → (i : ℕ) (w : List ℕ) (j : ℕ) → Spans (GoesTo steps) i w j → length_at steps j ≡ length_at steps i + length w
slice_length steps sound i [] j s = omega (arith, ap (length_at steps) s)
slice_length steps sound i (k ∷ w) j s = omega (arith, slice_length steps sound (suc k) w j s.1, sound.longer i k s.0)

pub short : (steps : List (Option PathStep)) → AreSteps steps → (i : ℕ) (w : List ℕ) (j : ℕ) → Spans (GoesTo steps) i w j → length w ≤ length steps
short steps sound i w j s = omega (arith, slice_length steps sound i w j s, sound.few j)

module _ (tree : SearchedTree) (is_tree : IsTree tree.game.nodes) (back primary : Bool) (n : ℕ) (steps : List (Option PathStep)) (all : ArePaths tree back primary n steps) where
  along : (m : ℕ) (w : List ℕ) (j : ℕ) → Spans (GoesTo steps) (suc m) w j → Along (IsStep tree back primary) m w
  along m [] j s = tt
  along m (k ∷ w) j s = (all.goes m k s.0, along k w j s.1)

  slice_path : (w : List ℕ) (k : ℕ) → Spans (GoesTo steps) 0 w (suc k) → IsPath tree back primary n w
  slice_path [] k s = absurd (omega (arith, s))
  slice_path (x ∷ w) k s =
      let first = all.begins x s.0 in
      record { later = w; begins = ap (λ y. y ∷ w) first; goes = subst (λ y. Along (IsStep tree back primary) y w) first (along x w (suc k) s.1) }

  path_slice : (h m : ℕ) (w : List ℕ) → GoesTo steps h m → Along (IsStep tree back primary) m w → (k : ℕ) × Spans (GoesTo steps) (suc m) w (suc k)
  path_slice h m [] from s = (m, refl)
  path_slice h m (k ∷ w) from s =
      let next = all.all h m k from s.0 in
      let rest = path_slice (suc m) k w next s.1 in
      (rest.0, (next, rest.1))

  module _ (extent : Extent) (p : Pattern (ℕ → Value)) (starts ends : List Bool) (is : starts ≡ true ∷ replicate (length steps) false) (e : EndsOf steps p starts ends) where
    listed : (len : ℕ) → IsLength steps ends extent len → IsListed (λ w. allows extent (length w) && spells (λ v m. holds (v m)) p w) (paths tree back primary n) len
    listed len l =
        let r = (e.each (suc l.0)).0 l.1 in
        let zero_start = at_first (length steps) r.start (subst (λ xs. HasPlace xs r.start) is r.begins) in
        let s = subst (λ i. Spans (GoesTo steps) i r.path (suc l.0)) zero_start r.leads in
        let same : length r.path ≡ len = omega (arith, slice_length steps all.sound 0 r.path (suc l.0) s, l.2) in (
          r.path,
          (paths_law tree is_tree back primary n r.path).1 (slice_path r.path l.0 s),
          same,
          both (allows extent (length r.path)) (spells (λ v m. holds (v m)) p r.path) (ap (allows extent) same ∙ l.3) ((spelling_law (λ v m. holds (v m)) p r.path).1 r.spelled),
        )
      where
        both : (a b : Bool) → a ≡ true → b ≡ true → (a && b) ≡ true
        both a b x y = rw x y

    reached : (len : ℕ) → IsListed (λ w. allows extent (length w) && spells (λ v m. holds (v m)) p w) (paths tree back primary n) len → IsLength steps ends extent len
    reached len l =
        let path = (paths_law tree is_tree back primary n l.0).0 l.1 in
        let rest = path_slice 0 n path.later all.first path.goes in
        let s : Spans (GoesTo steps) 0 l.0 (suc rest.0) = subst (λ w. Spans (GoesTo steps) 0 w (suc rest.0)) (sym path.begins) (all.first, rest.1) in
        let spelled = (spelling_law (λ v m. holds (v m)) p l.0).0 (right (allows extent (length l.0)) (spells (λ v m. holds (v m)) p l.0) l.3) in
        let begun : HasPlace starts 0 = subst (λ xs. HasPlace xs 0) (sym is) refl in (
          rest.0,
          (e.each (suc rest.0)).1 (record { start = 0; path = l.0; begins = begun; leads = s; spelled = spelled }),
          omega (arith, slice_length steps all.sound 0 l.0 (suc rest.0) s, l.2),
          ap (allows extent) (sym l.2) ∙ left (allows extent (length l.0)) (spells (λ v m. holds (v m)) p l.0) l.3,
        )

    pub line_law : (o : Option ℕ) → IsGreatest (IsLength steps ends extent) o → as_number (option_map pos o) ≡ line_of tree back primary extent p n
    line_law o g = ap (λ x. as_number (option_map pos x))
        (one_greatest (IsLength steps ends extent) (IsListed (λ w. allows extent (length w) && spells (λ v m. holds (v m)) p w) (paths tree back primary n)) o
        (longest (λ w. allows extent (length w) && spells (λ v m. holds (v m)) p w) (paths tree back primary n)) listed reached g
        (greatest_listed (λ w. allows extent (length w) && spells (λ v m. holds (v m)) p w) (paths tree back primary n)))
