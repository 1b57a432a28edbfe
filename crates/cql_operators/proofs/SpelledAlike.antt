-- Patterns on ways that begin at some nodes, part by part.
use Rattle.std.proofs.Common.{◌≡◌, ℕ, zero, suc, ◌≤◌, Bool, true, false, List, [], ◌∷◌, ◌++◌, Option, Some, None, refl, sym, ap, ◌∙◌, subst, arith, ⊎_elim}
use Rattle.std.specs.Prelude.{◌&&◌, ◌||◌, not}
use Rattle.cq_common.specs.Spelling.{Pattern, one, joined, repeated, Spells, Times}
use Rattle.cq_position.specs.Games.{IsTree, is_below}
use Rattle.cq_position.specs.Search.{SearchedTree, IsStep, Along}
use Rattle.cq_position.proofs.WaysUp.{is_below_self, below_parent, parent_before}
use Rattle.cql_lines.specs.declared.table.AtomTable.{AtomTable}
use Rattle.cql_syntax.specs.Meaning.{marked}
use Rattle.cql_syntax.specs.LineTables.{IsSearchedNode, SpellTheSame}
use Rattle.cql_syntax.specs.Values.{Value, holds}
use Rattle.cql_syntax.specs.declared.leaves.Mark.{Mark}
use Rattle.cql_syntax.specs.declared.leaves.Mark.TheVariants.{Once, Star, Plus, Maybe, Times as Repeated}
use Rattle.cql_columns.specs.Columns.{IsNodeSet}
use Rattle.cql_columns.proofs.Filling.{equal_or, live_below}
use Rattle.cql_operators.specs.LineAtoms.{AreAllAsked}
use Rattle.cql_operators.specs.SpelledParts.{IsLive, IsWay, AreAlike, IsNever, AreTabled, Leads, AreOnward, AreReached, LeadsOn, SpellsNothing, is_needed}
use Rattle.cql_operators.specs.Trees.{IsBelowLive, IsAboveLive, AreChildrenOfLive, AreParentsOfLive}
use Rattle.cql_operators.proofs.Raising.{below_up}

-- parts of ways

module _ (Step : ℕ → ℕ → Type 0) where
  along_left : (n : ℕ) (u v : List ℕ) → Along Step n (u ++ v) → Along Step n u
  along_left n [] v a = tt
  along_left n (m ∷ u) v a = (a.0, along_left m u v a.1)

  way_left : (In : ℕ → Type 0) (u v : List ℕ) → IsWay Step In (u ++ v) → IsWay Step In u
  way_left In [] v a = tt
  way_left In (n ∷ u) v a = (a.0, along_left n u v a.1)

  way_wider : (In Out : ℕ → Type 0) → ((n : ℕ) → In n → Out n) → (w : List ℕ) → IsWay Step In w → IsWay Step Out w
  way_wider In Out own [] a = tt
  way_wider In Out own (n ∷ w) a = (own n a.0, a.1)

  way_after : (Next : ℕ → Type 0) (n : ℕ) (w : List ℕ) → ((m : ℕ) → Step n m → Next m) → Along Step n w → IsWay Step Next w
  way_after Next n [] on a = tt
  way_after Next n (m ∷ w) on a = (on m a.0, a.1)

  along_right : (Out : ℕ → Type 0) → ((n m : ℕ) → Out n → Step n m → Out m) → (n : ℕ) (u v : List ℕ) → Out n → Along Step n (u ++ v) → IsWay Step Out v
  along_right Out on n [] v o a = way_after Out n v (λ m s. on n m o s) a
  along_right Out on n (m ∷ u) v o a = along_right Out on m u v (on n m o a.0) a.1

  way_right : (Out : ℕ → Type 0) → ((n m : ℕ) → Out n → Step n m → Out m) → (u v : List ℕ) → IsWay Step Out (u ++ v) → IsWay Step Out v
  way_right Out on [] v a = a
  way_right Out on (n ∷ u) v a = along_right Out on n u v a.0 a.1

  -- patterns that spell the same on them

  alike_wider : (In Out : ℕ → Type 0) → ((n : ℕ) → In n → Out n) → (test : ℕ → ℕ → Bool) (p : Pattern ℕ) (r : Pattern (ℕ → Value)) → AreAlike Step Out test p r → AreAlike Step In test p r
  alike_wider In Out own test p r f w way = f w (way_wider In Out own w way)

  pub atom_alike : (In : ℕ → Type 0) (test : ℕ → ℕ → Bool) (a : ℕ) (v : ℕ → Value) → ((n : ℕ) → In n → test a n ≡ holds (v n)) → AreAlike Step In test (one a) (one v)
  atom_alike In test a v is w way = (
    λ x. (x.0, x.1, sym (is x.0 (subst (IsWay Step In) x.1 way).0) ∙ x.2),
    λ x. (x.0, x.1, is x.0 (subst (IsWay Step In) x.1 way).0 ∙ x.2),
  )

  joined_alike : (In Out : ℕ → Type 0) → ((n : ℕ) → In n → Out n) → ((n m : ℕ) → Out n → Step n m → Out m)
      → (test : ℕ → ℕ → Bool) (p q : Pattern ℕ) (r s : Pattern (ℕ → Value)) → AreAlike Step In test p r → AreAlike Step Out test q s → AreAlike Step In test (joined p q) (joined r s)
  joined_alike In Out own on test p q r s f g w way = (
    λ x. let parts = subst (IsWay Step In) x.2 way in
        (x.0, x.1, x.2, (f x.0 (way_left In x.0 x.1 parts)).0 x.3, (g x.1 (way_right Out on x.0 x.1 (way_wider In Out own (x.0 ++ x.1) parts))).0 x.4),
    λ x. let parts = subst (IsWay Step In) x.2 way in
        (x.0, x.1, x.2, (f x.0 (way_left In x.0 x.1 parts)).1 x.3, (g x.1 (way_right Out on x.0 x.1 (way_wider In Out own (x.0 ++ x.1) parts))).1 x.4),
  )

  -- an atom is one node, and the rest of the pattern follows a node at which the atom holds
  pub after_atom : (In Next : ℕ → Type 0) (test : ℕ → ℕ → Bool) (a : ℕ) (v : ℕ → Value) → ((n : ℕ) → In n → test a n ≡ holds (v n))
      → ((n m : ℕ) → In n → holds (v n) ≡ true → Step n m → Next m)
      → (q : Pattern ℕ) (s : Pattern (ℕ → Value)) → AreAlike Step Next test q s → AreAlike Step In test (joined (one a) q) (joined (one v) s)
  after_atom In Next test a v is next q s g w way = (
    λ x. let there = subst (IsWay Step In) (x.2 ∙ ap (λ u. u ++ x.1) x.3.1) way in
        let held : holds (v x.3.0) ≡ true = sym (is x.3.0 there.0) ∙ x.3.2 in
        (x.0, x.1, x.2, (x.3.0, x.3.1, held), (g x.1 (way_after Next x.3.0 x.1 (λ m e. next x.3.0 m there.0 held e) there.1)).0 x.4),
    λ x. let there = subst (IsWay Step In) (x.2 ∙ ap (λ u. u ++ x.1) x.3.1) way in
        (x.0, x.1, x.2, (x.3.0, x.3.1, is x.3.0 there.0 ∙ x.3.2), (g x.1 (way_after Next x.3.0 x.1 (λ m e. next x.3.0 m there.0 x.3.2 e) there.1)).1 x.4),
  )

  times_way : (Out : ℕ → Type 0) → ((n m : ℕ) → Out n → Step n m → Out m)
      → (P Q : List ℕ → Type 0) → ((w : List ℕ) → IsWay Step Out w → P w → Q w) → (k : ℕ) (w : List ℕ) → IsWay Step Out w → Times P k w → Times Q k w
  times_way Out on P Q f zero w way t = t
  times_way Out on P Q f (suc k) w way t =
      let parts = subst (IsWay Step Out) t.2 way in
      (t.0, t.1, t.2, f t.0 (way_left Out t.0 t.1 parts) t.3, times_way Out on P Q f k t.1 (way_right Out on t.0 t.1 parts) t.4)

  repeated_alike : (Out : ℕ → Type 0) → ((n m : ℕ) → Out n → Step n m → Out m)
      → (test : ℕ → ℕ → Bool) (least : ℕ) (most : Option ℕ) (p : Pattern ℕ) (r : Pattern (ℕ → Value)) → AreAlike Step Out test p r
      → AreAlike Step Out test (repeated least most p) (repeated least most r)
  repeated_alike Out on test least most p r f w way = (
    λ x. (x.0, x.1, x.2, times_way Out on (Spells test p) (Spells (λ v m. holds (v m)) r) (λ u a s. (f u a).0 s) x.0 w way x.3),
    λ x. (x.0, x.1, x.2, times_way Out on (Spells (λ v m. holds (v m)) r) (Spells test p) (λ u a s. (f u a).1 s) x.0 w way x.3),
  )

  marked_alike : (Out : ℕ → Type 0) → ((n m : ℕ) → Out n → Step n m → Out m)
      → (test : ℕ → ℕ → Bool) (m : Mark) (p : Pattern ℕ) (r : Pattern (ℕ → Value)) → AreAlike Step Out test p r → AreAlike Step Out test (marked m p) (marked m r)
  marked_alike Out on test Once p r f = f
  marked_alike Out on test Star p r f = repeated_alike Out on test 0 None p r f
  marked_alike Out on test Plus p r f = repeated_alike Out on test 1 None p r f
  marked_alike Out on test Maybe p r f = repeated_alike Out on test 0 (Some 1) p r f
  marked_alike Out on test (Repeated least most) p r f = repeated_alike Out on test least (Some most) p r f

  -- patterns that are never spelled

  never_after : (In Out : ℕ → Type 0) → ((n : ℕ) → In n → Out n) → ((n m : ℕ) → Out n → Step n m → Out m)
      → (r s : Pattern (ℕ → Value)) → IsNever Step Out s → IsNever Step In (joined r s)
  never_after In Out own on r s f w way x =
      f x.1 (way_right Out on x.0 x.1 (way_wider In Out own (x.0 ++ x.1) (subst (IsWay Step In) x.2 way))) x.4

  never_before : (In : ℕ → Type 0) (r s : Pattern (ℕ → Value)) → IsNever Step In r → IsNever Step In (joined r s)
  never_before In r s f w way x = f x.0 (way_left In x.0 x.1 (subst (IsWay Step In) x.2 way)) x.3

  pub never_one : (In : ℕ → Type 0) (v : ℕ → Value) → ((n : ℕ) → In n → holds (v n) ≡ true → ⊥) → IsNever Step In (one v)
  never_one In v none w way x = none x.0 (subst (IsWay Step In) x.1 way).0 x.2

  times_never : (In : ℕ → Type 0) (P : List ℕ → Type 0) → ((u : List ℕ) → IsWay Step In u → P u → ⊥) → (k : ℕ) (w : List ℕ) → 1 ≤ k → IsWay Step In w → Times P k w → ⊥
  times_never In P f zero w h way t = absurd (omega (arith, h))
  times_never In P f (suc k) w h way t = f t.0 (way_left In t.0 t.1 (subst (IsWay Step In) t.2 way)) t.3

  -- a part that must occur and is never spelled
  marked_never : (In : ℕ → Type 0) (m : Mark) (r : Pattern (ℕ → Value)) → is_needed m ≡ true → IsNever Step In r → IsNever Step In (marked m r)
  marked_never In Once r e f = f
  marked_never In Star r e f = cc
  marked_never In Plus r e f = λ w way x. times_never In (Spells (λ v m. holds (v m)) r) f x.0 w x.1 way x.3
  marked_never In Maybe r e f = cc
  marked_never In (Repeated zero most) r e f = cc
  marked_never In (Repeated (suc least) most) r e f = λ w way x. times_never In (Spells (λ v m. holds (v m)) r) f x.0 w (omega (arith, x.1)) way x.3

  never_wider : (In Out : ℕ → Type 0) → ((n : ℕ) → In n → Out n) → (r : Pattern (ℕ → Value)) → IsNever Step Out r → IsNever Step In r
  never_wider In Out own r f w way x = f w (way_wider In Out own w way) x

  pub never_atom : (In Next : ℕ → Type 0) (v : ℕ → Value) → ((n m : ℕ) → In n → holds (v n) ≡ true → Step n m → Next m)
      → (s : Pattern (ℕ → Value)) → IsNever Step Next s → IsNever Step In (joined (one v) s)
  never_atom In Next v next s f w way x =
      let there = subst (IsWay Step In) (x.2 ∙ ap (λ u. u ++ x.1) x.3.1) way in
      f x.1 (way_after Next x.3.0 x.1 (λ m e. next x.3.0 m there.0 x.3.2 e) there.1) x.4

  pub never_there : (In : ℕ → Type 0) (v : ℕ → Value) → ((n : ℕ) → In n → holds (v n) ≡ true → ⊥) → (s : Pattern (ℕ → Value)) → IsNever Step In (joined (one v) s)
  never_there In v none s w way x = none x.3.0 (subst (IsWay Step In) (x.2 ∙ ap (λ u. u ++ x.1) x.3.1) way).0 x.3.2

-- the goals of ways

-- the nodes that ways lead to from some nodes
abbrev ReachedFrom : SearchedTree → Bool → (ℕ → Type 0) → ℕ → Type 0
ReachedFrom tree back In m = (n : ℕ) × In n × Leads tree back n m

module _ (tree : SearchedTree) (is_tree : IsTree tree.game.nodes) where
  leads_self : (back : Bool) (n : ℕ) → IsSearchedNode tree n → Leads tree back n n
  leads_self true n asked = is_below_self tree.game.nodes n is_tree
  leads_self false n asked = (is_below_self tree.game.nodes n is_tree, asked)

  leads_on : (back : Bool) (n m k : ℕ) → Leads tree back n m → IsStep tree back false m k → Leads tree back n k
  leads_on true n m k leads step = below_up tree.game.nodes is_tree k m n step.parent leads
  leads_on false n m k leads step = (
    ⊎_elim
        (λ same. ap (is_below tree.game.nodes n) same ∙ is_below_self tree.game.nodes n is_tree)
        (λ other. below_parent tree.game.nodes n k m is_tree step.child other ∙ leads.0)
        (equal_or k n),
    (step.is_in, (parent_before tree.game.nodes k m is_tree step.child).1),
  )

  live_asked : (live : List Bool) → IsNodeSet tree live → (n : ℕ) → IsLive live n → IsSearchedNode tree n
  live_asked live asked n l = (asked.searched n l, omega (arith, live_below live n l, asked.count))

  reached_own : (back : Bool) (live : List Bool) → IsNodeSet tree live → (n : ℕ) → IsLive live n → ReachedFrom tree back (IsLive live) n
  reached_own back live asked n l = (n, l, leads_self back n (live_asked live asked n l))

  reached_on : (back : Bool) (live : List Bool) (n m : ℕ) → ReachedFrom tree back (IsLive live) n → IsStep tree back false n m → ReachedFrom tree back (IsLive live) m
  reached_on back live n m from step = (from.0, from.1, leads_on back from.0 n m from.2 step)

  pub children_onward : (live next : List Bool) → AreChildrenOfLive tree live next → AreOnward tree false live next
  children_onward live next is = record {
    asked = is.asked;
    covers = λ n m l step. is.covers n m l step.child (parent_before tree.game.nodes m n is_tree step.child).1 step.is_in;
  }

  pub below_reached : (live wide : List Bool) → IsBelowLive tree live wide → AreReached tree false live wide
  below_reached live wide is = record { asked = is.asked; covers = λ n m l leads. is.covers n m l leads.1.1 leads.0 leads.1.0 }

-- one part

-- the nodes at which a part may begin, and those on ways from there
pub record Reach (tree : SearchedTree) (back : Bool) : Type 0 where
  pub old : List Bool
  pub wide : List Bool
  pub asked : IsNodeSet tree old
  pub reached : AreReached tree back old wide

-- the same for equal sets
abbrev pub reach_from : (tree : SearchedTree) (back : Bool) (old given wide : List Bool) → given ≡ old → IsNodeSet tree old → AreReached tree back given wide → Reach tree back
reach_from tree back old given wide is asked reached = record { old = old; wide = wide; asked = asked; reached = subst (λ l. AreReached tree back l wide) is reached }

-- a pattern of atoms in a table of a type, and the pattern of values that it represents
pub record InTable (T : Type 0) : Type 0 where
  pub table : T
  pub past : ℕ
  pub numbered : Pattern ℕ
  pub stands_for : Pattern (ℕ → Value)

module _ (tree : SearchedTree) (is_tree : IsTree tree.game.nodes) (back : Bool) (from : Reach tree back) where
  in_wide : (n : ℕ) → ReachedFrom tree back (IsLive from.old) n → IsLive from.wide n
  in_wide n x = from.reached.covers x.0 n x.1 x.2

  begins : (n : ℕ) → IsLive from.old n → ReachedFrom tree back (IsLive from.old) n
  begins n l = reached_own tree is_tree back from.old from.asked n l

  goes_on : (n m : ℕ) → ReachedFrom tree back (IsLive from.old) n → IsStep tree back false n m → ReachedFrom tree back (IsLive from.old) m
  goes_on n m x step = reached_on tree is_tree back from.old n m x step

  -- a part that is evaluated at all nodes on ways from those where it may begin, repeated or not
  pub wide_leads : {L : Type 0} {own : _} (shown : List Bool) → shown ≡ from.wide → (part : InTable (AtomTable L own)) (m : Mark)
      → AreTabled tree back (IsLive shown) part.table part.past part.numbered part.stands_for
      → LeadsOn tree back from.old from.wide part.table part.past (marked m part.numbered) (marked m part.stands_for)
  wide_leads shown is part m tabled = record {
    asked = from.reached.asked;
    alike = λ test same q s g. joined_alike (IsStep tree back false) (IsLive from.old) (ReachedFrom tree back (IsLive from.old)) begins
        goes_on test (marked m part.numbered) q (marked m part.stands_for) s
        (alike_wider (IsStep tree back false) (IsLive from.old) (ReachedFrom tree back (IsLive from.old)) begins test (marked m part.numbered) (marked m part.stands_for)
        (marked_alike (IsStep tree back false) (ReachedFrom tree back (IsLive from.old)) goes_on test m part.numbered part.stands_for
        (alike_wider (IsStep tree back false) (ReachedFrom tree back (IsLive from.old)) (IsLive from.wide) in_wide test part.numbered part.stands_for
        (subst (λ l. AreTabled tree back (IsLive l) part.table part.past part.numbered part.stands_for) is tabled test same))))
        (alike_wider (IsStep tree back false) (ReachedFrom tree back (IsLive from.old)) (IsLive from.wide) in_wide test q s g);
    never = λ s g. never_after (IsStep tree back false) (IsLive from.old) (ReachedFrom tree back (IsLive from.old)) begins goes_on (marked m part.stands_for) s
        (never_wider (IsStep tree back false) (ReachedFrom tree back (IsLive from.old)) (IsLive from.wide) in_wide s g);
  }

  -- it is needed, and isn't spelled
  pub wide_ends : (shown : List Bool) → shown ≡ from.wide → (r : Pattern (ℕ → Value)) (m : Mark) → is_needed m ≡ true
      → IsNever (IsStep tree back false) (IsLive shown) r → SpellsNothing tree back from.old (marked m r)
  wide_ends shown is r m e f s = never_before (IsStep tree back false) (IsLive from.old) (marked m r) s
      (marked_never (IsStep tree back false) (IsLive from.old) m r e
      (never_wider (IsStep tree back false) (IsLive from.old) (IsLive from.wide) (λ n l. in_wide n (begins n l)) r
      (subst (λ l. IsNever (IsStep tree back false) (IsLive l) r) is f)))

  -- a group that occurs once
  pub group_leads : {L : Type 0} {own : _} (shown : List Bool) → shown ≡ from.old → (part : InTable (AtomTable L own))
      → AreTabled tree back (IsLive shown) part.table part.past part.numbered part.stands_for
      → LeadsOn tree back from.old from.wide part.table part.past part.numbered part.stands_for
  group_leads shown is part tabled = record {
    asked = from.reached.asked;
    alike = λ test same q s g. joined_alike (IsStep tree back false) (IsLive from.old) (ReachedFrom tree back (IsLive from.old)) begins goes_on test part.numbered q part.stands_for s
        (subst (λ l. AreTabled tree back (IsLive l) part.table part.past part.numbered part.stands_for) is tabled test same)
        (alike_wider (IsStep tree back false) (ReachedFrom tree back (IsLive from.old)) (IsLive from.wide) in_wide test q s g);
    never = λ s g. never_after (IsStep tree back false) (IsLive from.old) (ReachedFrom tree back (IsLive from.old)) begins goes_on part.stands_for s
        (never_wider (IsStep tree back false) (ReachedFrom tree back (IsLive from.old)) (IsLive from.wide) in_wide s g);
  }

pub group_ends : (tree : SearchedTree) (back : Bool) (live : List Bool) (r : Pattern (ℕ → Value)) → IsNever (IsStep tree back false) (IsLive live) r → SpellsNothing tree back live r
group_ends tree back live r f s = never_before (IsStep tree back false) (IsLive live) r s f

pub parents_onward : (tree : SearchedTree) (live next : List Bool) → AreParentsOfLive tree live next → AreOnward tree true live next
parents_onward tree live next is = record { asked = is.asked; covers = λ n m l step. is.covers n m l step.parent }

pub above_reached : (tree : SearchedTree) (live wide : List Bool) → IsAboveLive tree live wide → AreReached tree true live wide
above_reached tree live wide is = record { asked = is.asked; covers = λ n m l leads. is.covers n m l leads }

-- a path whose steps are wider is a way

step_wider : (tree : SearchedTree) (back primary : Bool) (n m : ℕ) → IsStep tree back primary n m → IsStep tree back false n m
step_wider tree true primary n m s = record { parent = s.parent; first = λ e. cc }
step_wider tree false primary n m s = record { child = s.child; is_in = s.is_in; first = λ e. cc }

pub along_wider : (tree : SearchedTree) (back primary : Bool) (n : ℕ) (w : List ℕ) → Along (IsStep tree back primary) n w → Along (IsStep tree back false) n w
along_wider tree back primary n [] a = tt
along_wider tree back primary n (m ∷ w) a = (step_wider tree back primary n m a.0, along_wider tree back primary m w a.1)

pub alike_on : (tree : SearchedTree) (back primary : Bool) (test : ℕ → ℕ → Bool) (p : Pattern ℕ) (r : Pattern (ℕ → Value)) → AreAlike (IsStep tree back false) (IsSearchedNode tree) test p r
    → (n : ℕ) → IsSearchedNode tree n → SpellTheSame tree back primary test p r n
alike_on tree back primary test p r f n asked w goes = f (n ∷ w) (asked, along_wider tree back primary n w goes)

pub not_met : (m i n : Bool) → m ≡ true → (m && (i || not n)) ≡ false → (i ≡ false) × (n ≡ true)
not_met true true n e f = cc
not_met true false true e f = (refl, refl)
not_met true false false e f = cc
not_met false i n e f = cc

-- all searched nodes are live

pub all_tabled : {L : Type 0} {own : _} (tree : SearchedTree) (back : Bool) (all : List Bool) (table : AtomTable L own) (past : ℕ) (p : Pattern ℕ) (r : Pattern (ℕ → Value)) → AreAllAsked tree all
    → AreTabled tree back (IsLive all) table past p r → AreTabled tree back (IsSearchedNode tree) table past p r
all_tabled tree back all table past p r every f test same = alike_wider (IsStep tree back false) (IsSearchedNode tree) (IsLive all) (λ n asked. every.covers n asked) test p r (f test same)

pub all_never : (tree : SearchedTree) (back : Bool) (all : List Bool) (r : Pattern (ℕ → Value)) → AreAllAsked tree all
    → IsNever (IsStep tree back false) (IsLive all) r → IsNever (IsStep tree back false) (IsSearchedNode tree) r
all_never tree back all r every f = never_wider (IsStep tree back false) (IsSearchedNode tree) (IsLive all) (λ n asked. every.covers n asked) r f

-- the same for equal sets

pub leads_at : {L : Type 0} {own : _} (tree : SearchedTree) (back : Bool) (old given new : List Bool) → given ≡ old → (part : InTable (AtomTable L own))
    → LeadsOn tree back given new part.table part.past part.numbered part.stands_for → LeadsOn tree back old new part.table part.past part.numbered part.stands_for
leads_at tree back old given new is part h = subst (λ l. LeadsOn tree back l new part.table part.past part.numbered part.stands_for) is h

pub ends_at : (tree : SearchedTree) (back : Bool) (old given : List Bool) → given ≡ old → (r : Pattern (ℕ → Value)) → SpellsNothing tree back given r → SpellsNothing tree back old r
ends_at tree back old given is r h = subst (λ l. SpellsNothing tree back l r) is h

pub onward_at : (tree : SearchedTree) (back : Bool) (held given next : List Bool) → given ≡ held → AreOnward tree back given next → AreOnward tree back held next
onward_at tree back held given next is h = subst (λ l. AreOnward tree back l next) is h
