-- The step from the reading of places to the spelling of the pattern.
use Rattle.std.proofs.Common.{◌≡◌, ℕ, zero, suc, ◌+◌, ◌-◌, ◌*◌, ◌<◌, ◌≤◌, List, [], ◌∷◌, ◌++◌, length, refl, sym, ap, ◌∙◌, subst, Bool, true, false, Option, Some, None, inl, inr, arith, slice_get}
use Rattle.std.specs.Prelude.{◌⊎◌}
use Rattle.cql_lines.specs.declared.automaton.FollowSet.{FollowSet}
use Rattle.cql_lines.specs.declared.automaton.Transition.{Transition}
use Rattle.cql_lines.specs.declared.binary_pattern.BinaryPattern.{BinaryPattern as Given, Atom, Empty, Both', Star', Plus', Times'}
use Rattle.cq_common.specs.Spelling.{Pattern, one, nothing, joined, repeated}
use Rattle.cql_lines.specs.Building.{begins, null_times, nullable, size, firsts_times, firsts, rows_times, rows, IsPlain, AtomsBelow}
use Rattle.cql_lines.proofs.Built.{Built}
use Rattle.cq_common.specs.Walks.{Line}
use Rattle.cq_common.specs.Greatest.{IsGreatest}
use Rattle.cq_common.proofs.WithinLaw.{is_from_to, from_to_is}
use Rattle.cql_lines.specs.Internal.AcceptedLengths.{AcceptedLength}
use Rattle.cql_lines.specs.Tables.{holds}
use Rattle.cql_lines.specs.Values.{GreatestWhere, allows}
use Rattle.cql_lines.specs.Shapes.{is_searched}
use Rattle.cql_lines.specs.declared.shape.TreeNode.{TreeNode}
use Rattle.cql_lines.specs.Internal.BinaryPatterns.{plain_tree}
use Rattle.cql_lines.specs.declared.automaton.Automaton.{Automaton}
use Rattle.cql_lines.specs.declared.shape.Limits.{Limits}
use Rattle.cql_lines.specs.Automata.{places, IsAutomatonOf}
use Rattle.cql_lines.specs.Internal.Cells.{AllowedLength}
use Rattle.cql_lines.specs.Internal.LengthSets.{Between}
use Rattle.cql_lines.proofs.BuildingLaw.{Sit, rows_built}
use Rattle.cql_lines.proofs.WaysLaw.{end, read_spelled, spelled_read}

pub given_plain : (p : Given) → IsPlain (plain_tree p)
given_plain (Atom a) = tt
given_plain Empty = tt
given_plain (Both' i p j q) = (given_plain p, given_plain q)
given_plain (Star' i p) = given_plain p
given_plain (Plus' i p) = given_plain p
given_plain (Times' m n i p) = given_plain p

get_either : (xs ys : List Transition) (i : ℕ) (r : Transition) → slice_get (xs ++ ys) i ≡ Some r → ((j : ℕ) × (slice_get xs j ≡ Some r)) ⊎ ((j : ℕ) × (slice_get ys j ≡ Some r))
get_either [] ys i r e = inr (i, e)
get_either (x ∷ xs) ys zero r e = inl (0, e)
get_either (x ∷ xs) ys (suc i) r e = elim (get_either xs ys i r e) [
  | inl a ↦ inl (suc a.0, a.1)
  | inr b ↦ inr b
]

-- rules use only atoms below a number
abbrev RulesBelow : List Transition → ℕ → Type 0
RulesBelow rules atoms = (i : ℕ) (r : Transition) → slice_get rules i ≡ Some r → r.atom < atoms

times_atoms : (row : FollowSet → ℕ → List Transition) (first : ℕ → ℕ) (b : Bool) (len atoms : ℕ) → ((next : FollowSet) (k : ℕ) → RulesBelow (row next k) atoms)
    → (m n : ℕ) (next : FollowSet) (k : ℕ) → RulesBelow (rows_times row first b len m n next k) atoms
times_atoms row first b len atoms few m zero next k = λ i r e. absurd (cc)
times_atoms row first b len atoms few m (suc n) next k = λ i r e.
    elim (get_either (rows_times row first b len (m - 1) n next k) (row (begins (firsts_times first b len n k) (null_times b (m - 1) n) next) (k + n * len)) i r e) [
      | inl x ↦ times_atoms row first b len atoms few (m - 1) n next k x.0 r x.1
      | inr y ↦ few (begins (firsts_times first b len n k) (null_times b (m - 1) n) next) (k + n * len) y.0 r y.1
    ]

pub rows_atoms : (p : Pattern ℕ) (atoms : ℕ) → AtomsBelow p atoms → (next : FollowSet) (k i : ℕ) (r : Transition) → slice_get (rows p next k) i ≡ Some r → r.atom < atoms
rows_atoms (one a) atoms few next k zero r e = (let same : record { atom = a; after = next } ≡ r = cc in subst (λ (s : Transition). s.atom < atoms) same few)
rows_atoms (one a) atoms few next k (suc i) r e = absurd (cc)
rows_atoms nothing atoms few next k i r e = absurd (cc)
rows_atoms (joined p q) atoms few next k i r e = elim (get_either (rows q next k) (rows p (begins (firsts q k) (nullable q) next) (k + size q)) i r e) [
  | inl x ↦ rows_atoms q atoms few.1 next k x.0 r x.1
  | inr y ↦ rows_atoms p atoms few.0 (begins (firsts q k) (nullable q) next) (k + size q) y.0 r y.1
]
rows_atoms (repeated least (Some n) p) atoms few next k i r e = times_atoms (rows p) (firsts p) (nullable p) (size p) atoms (rows_atoms p atoms few) least n next k i r e
rows_atoms (repeated least None p) atoms few next k i r e = rows_atoms p atoms few (begins (firsts p k) true next) k i r e

same_longest : (P Q : ℕ → Type 0) (o : Option ℕ) → ((k : ℕ) → P k → Q k) → ((k : ℕ) → Q k → P k) → IsGreatest P o → IsGreatest Q o
same_longest P Q None on back l = λ k q. l k (back k q)
same_longest P Q (Some m) on back l = (on m l.0, λ k q. l.1 k (back k q))

same_answer : (s : Bool) (P Q : ℕ → Type 0) (o : Option ℕ) → ((k : ℕ) → P k → Q k) → ((k : ℕ) → Q k → P k) → GreatestWhere s P o → GreatestWhere s Q o
same_answer true P Q o on back a = same_longest P Q o on back a
same_answer false P Q o on back a = a

-- the automaton has the rules of the pattern
pub record HasRulesOf (a : Automaton) (p : Pattern ℕ) : Type 0 where
  pub rules : a.rules.items ≡ rows p end 0
  pub first : a.first ≡ firsts p 0
  pub plain : IsPlain p

pub automaton_of : (a : Automaton) (p : Pattern ℕ) → HasRulesOf a p → IsAutomatonOf a p
automaton_of a p of =
    let rs = a.rules.items in
    let sit : Sit rs 0 (rows p end 0) = record { at = λ i r h. (let same : 0 + i ≡ i = omega arith in ap (slice_get rs) same ∙ ap (λ x. slice_get x i) of.rules ∙ h) } in
    let built : Built rs p end a.first = subst (Built rs p end) (sym of.first) (rows_built rs p of.plain end 0 sit) in
    record { reads = λ test n w. (λ r. read_spelled test rs p a.first built n w r, λ e. spelled_read test rs p a.first built n w e) }

-- the pattern has no more rules than places
more_times : (n a b : ℕ) → a ≤ b → n * a ≤ n * b
more_times zero a b h = omega arith
more_times (suc n) a b h = (let i = more_times n a b h in grind (arith, h, i))

pub size_places : (p : Pattern ℕ) → size p ≤ places p
size_places (one a) = omega arith
size_places nothing = omega arith
size_places (joined p q) = (let h = size_places p in let i = size_places q in omega arith)
size_places (repeated least None p) = size_places p
size_places (repeated least (Some zero) p) = omega arith
size_places (repeated least (Some (suc n)) p) = more_times (suc n) (size p) (places p) (size_places p)

pub few_rules : (given : Given) (p : Pattern ℕ) (old : List Transition) → places p ≤ 64 → plain_tree given ≡ p → old ≡ [] → length old + size (plain_tree given) ≤ 64
few_rules given p old few is none =
    let a = size_places (plain_tree given) in
    let b : places (plain_tree given) ≡ places p = ap places is in
    let c : length old ≡ 0 = ap length none in
    omega arith

rules_are : (new old : List Transition) (row : ℕ → List Transition) → new ≡ old ++ row (length old) → old ≡ [] → new ≡ row 0
rules_are new old row n o = n ∙ ap (λ (x : List Transition). x ++ row (length x)) o

first_is : (f : ℕ) (old : List Transition) (first : ℕ → ℕ) → f ≡ first (length old) → old ≡ [] → f ≡ first 0
first_is f old first e o = e ∙ ap (λ (x : List Transition). first (length x)) o

pub atoms_on : (new : List Transition) (given : Given) (p : Pattern ℕ) (old : List Transition) → old ≡ [] → plain_tree given ≡ p → new ≡ old ++ rows (plain_tree given) end (length old)
    → (atoms : ℕ) → AtomsBelow p atoms → (i : ℕ) (r : Transition) → slice_get new i ≡ Some r → r.atom < atoms
atoms_on new given p old empty is rules atoms below i r e =
    rows_atoms (plain_tree given) atoms (subst (λ q. AtomsBelow q atoms) (sym is) below) end 0 i r (sym (ap (λ x. slice_get x i) (rules_are new old (rows (plain_tree given) end) rules empty)) ∙ e)

pub built_of : (a : Automaton) (given : Given) (p : Pattern ℕ) → plain_tree given ≡ p → a.rules.items ≡ rows (plain_tree given) end 0 → a.first ≡ firsts (plain_tree given) 0 → HasRulesOf a p
built_of a given p is rules first = subst (HasRulesOf a) is record { rules = rules; first = first; plain = given_plain given }

pub built_on : (a : Automaton) (given : Given) (p : Pattern ℕ) (old : List Transition) → old ≡ [] → plain_tree given ≡ p
    → a.rules.items ≡ old ++ rows (plain_tree given) end (length old) → a.first ≡ firsts (plain_tree given) (length old)
    → HasRulesOf a p
built_on a given p old empty is rules first = built_of a given p is (rules_are a.rules.items old (rows (plain_tree given) end) rules empty)
    (first_is a.first old (firsts (plain_tree given)) first empty)

-- the automaton of a pattern reads exactly the lists that the pattern spells, on the ways from a node
module _ (words : List ℕ) (a : Automaton) (p : Pattern ℕ) (of : IsAutomatonOf a p) (tree_nodes : List TreeNode) (E : ℕ → ℕ → Type 0) where
  line_of : (n k : ℕ) → AcceptedLength (holds words) a.rules.items E a.first n k → Line (holds words) E p n k
  line_of n k r = (r.0, r.1, r.2, (of.reads (holds words) n r.0).0 r.3)

  read_of : (n k : ℕ) → Line (holds words) E p n k → AcceptedLength (holds words) a.rules.items E a.first n k
  read_of n k l = (l.0, l.1, l.2, (of.reads (holds words) n l.0).1 l.3)

  pub value_of : (rules : List Transition) (extent : Option Limits) → rules ≡ a.rules.items → (n : ℕ) (o : Option ℕ)
      → GreatestWhere (is_searched tree_nodes n) (AllowedLength extent (AcceptedLength (holds words) rules E a.first n)) o
      → GreatestWhere (is_searched tree_nodes n) (λ k. Line (holds words) E p n k × (allows extent k ≡ true)) o
  value_of rules None is n o greatest_allowed =
      same_answer (is_searched tree_nodes n) (AcceptedLength (holds words) a.rules.items E a.first n) (λ k. Line (holds words) E p n k × (allows None k ≡ true)) o
      (λ k r. (line_of n k r, refl)) (λ k l. read_of n k l.0)
      (subst (λ rs. GreatestWhere (is_searched tree_nodes n) (AcceptedLength (holds words) rs E a.first n) o) is greatest_allowed)
  value_of rules (Some x) is n o greatest_allowed =
      same_answer (is_searched tree_nodes n) (Between x.least x.most (AcceptedLength (holds words) a.rules.items E a.first n)) (λ k. Line (holds words) E p n k × (allows (Some x) k ≡ true)) o
      (λ k r. (line_of n k r.0, from_to_is x.least x.most k r.1 r.2)) (λ k l. (let h = is_from_to x.least x.most k l.1 in (read_of n k l.0, h.0, h.1)))
      (subst (λ rs. GreatestWhere (is_searched tree_nodes n) (Between x.least x.most (AcceptedLength (holds words) rs E a.first n)) o) is greatest_allowed)
