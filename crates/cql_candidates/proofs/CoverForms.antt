-- The squares with which a form of filter may hold.
use Rattle.std.proofs.Common.{◌≡◌, ◌⊎◌, ⊎_elim, ℕ, ◌<◌, ◌==◌, ◌&&◌, not, nat_lt, Bool, true, false, List, [], ◌∷◌, Option, Some, None, length, take, drop, ◌++◌, refl, sym, ap, ap₂, ◌∙◌, subst, arith}
use Rattle.std.specs.Prelude.{if◌then◌else◌}
use Rattle.std.specs.List.{list_any, list_all, filter}
use Rattle.std.specs.Str.{bytes_eq}
use Rattle.std.proofs.Math.Seq.{take-append_seam}
use Rattle.std.proofs.lemmas.Bool.{lt-ltb}
use Rattle.std.proofs.lemmas.Slice.Eq.{bytes_eq-Decides}
use Rattle.cq_geometry.specs.Squares.{squares}
use Rattle.cq_position.specs.Attacks.{attacks}
use Rattle.cq_position.specs.Led.{PlainLed, led_to}
use Rattle.cq_position.specs.Search.{SearchedTree}
use Rattle.cql_syntax.specs.Meaning.{Names, value, values, unary_of, is_bound_to, position_at, played_value, written_value, meets, meets_all, goal_if, before}
use Rattle.cql_syntax.specs.Trees.{FilterTree, filter_at, FilterTrees, WrittenTree, unary, pair, square, played}
use Rattle.cql_syntax.specs.TreeOf.{filter_tree, filter_trees, played_tree}
use Rattle.cql_syntax.specs.Values.{Value, as_truth, squares_where, holds, has, square_of, chain_of, all_hold, intersection_of, related, pair_of}
use Rattle.cql_syntax.specs.declared.leaves.Chain.{Chain}
use Rattle.cql_syntax.specs.declared.leaves.Chain.TheVariants.{And, All, Intersect}
use Rattle.cql_syntax.specs.declared.leaves.Pair.{Pair}
use Rattle.cql_syntax.specs.declared.leaves.Pair.TheVariants.{Attacks, AttackedBy}
use Rattle.cql_syntax.specs.declared.leaves.Unary.{Unary}
use Rattle.cql_syntax.specs.declared.tree.Filter.{Filter}
use Rattle.cql_syntax.specs.declared.tree.Played.{Played}
use Rattle.cql_values.specs.FilterValues.{settles}
use Rattle.cql_values.proofs.Evaluated.{by_settling}
use Rattle.cql_values.proofs.Ranges.{same_any, some_square, square_found}
use Rattle.cql_candidates.specs.Covers.{Agree, AreRetained, MayHold, MayHave, IsOfMove, AreSetsOf, AreWorthTrying}
use Rattle.cql_values.specs.FilterForms.{Binds, GivesOnlyName, PartGivesOnlyName}
use Rattle.cql_candidates.proofs.CoverLaw.{cut_as, cut_then}
use Rattle.cql_values.proofs.FilterForms.{all_at, some_there}
use Rattle.cql_candidates.proofs.MoveLaw.{move_value, origin_of, goal_of, taken_of, promoted_of}
use Rattle.cql_candidates.proofs.Placing.{Placed}

-- the context in which squares of a name are tried: a searched tree, the live nodes, the open names, and the bindings of others
pub record Tried : Type 0 where
  pub tree : SearchedTree
  pub live : List Bool
  pub opened : Names
  pub outer : Names
  pub name : List ℕ

-- of the sets of squares some are left, among them all with which values may hold, or that values may have
abbrev pub KeepsHolding : Tried → (Names → ℕ → Value) → List ℕ → List ℕ → Type 0
KeepsHolding t v old new = AreRetained t.live (MayHold t.opened t.outer t.name v) old new

abbrev pub KeepsHaving : Tried → (Names → ℕ → Value) → List ℕ → List ℕ → Type 0
KeepsHaving t v old new = AreRetained t.live (MayHave t.opened t.outer t.name v) old new

-- the same values
pub form_cut : (t : Tried) (v w : Names → ℕ → Value) (old new : List ℕ) → ((e : Names) (n : ℕ) → v e n ≡ w e n) → KeepsHolding t w old new → KeepsHolding t v old new
form_cut t v w old new is = cut_as t.live (MayHold t.opened t.outer t.name v) (MayHold t.opened t.outer t.name w) old new
    (λ n s a p. record { inner = p.inner; agree = p.agree; binds = p.binds; holds_there = sym (ap holds (is p.inner n)) ∙ p.holds_there })

pub part_cut : (t : Tried) (v w : Names → ℕ → Value) (old new : List ℕ) → ((e : Names) (n : ℕ) → holds (v e n) ≡ true → holds (w e n) ≡ true)
    → KeepsHolding t w old new → KeepsHolding t v old new
part_cut t v w old new from = cut_as t.live (MayHold t.opened t.outer t.name v) (MayHold t.opened t.outer t.name w) old new
    (λ n s a p. record { inner = p.inner; agree = p.agree; binds = p.binds; holds_there = from p.inner n p.holds_there })

pub part_set_cut : (t : Tried) (v w : Names → ℕ → Value) (old new : List ℕ) → ((e : Names) (n s : ℕ) → has (v e n) s ≡ true → has (w e n) s ≡ true)
    → KeepsHaving t w old new → KeepsHaving t v old new
part_set_cut t v w old new from = cut_as t.live (MayHave t.opened t.outer t.name v) (MayHave t.opened t.outer t.name w) old new
    (λ n s a p. record { inner = p.inner; agree = p.agree; binds = p.binds; has_there = from p.inner n s p.has_there })

-- of a filter that has no other square
pub own_cut : (t : Tried) (f : FilterTree) (old new : List ℕ) → GivesOnlyName t.name (λ r e n. value r [] e f n)
    → KeepsHaving t (λ e. value t.tree [] e f) old new → KeepsHolding t (λ e. value t.tree [] e f) old new
own_cut t f old new own = cut_as t.live (MayHold t.opened t.outer t.name (λ e. value t.tree [] e f)) (MayHave t.opened t.outer t.name (λ e. value t.tree [] e f)) old new
    (λ n s a p. record { inner = p.inner; agree = p.agree; binds = p.binds; has_there = own.some t.tree p.inner n s p.binds p.holds_there })

pub square_cut : (t : Tried) (f a b : FilterTree) (i : ℕ) (every : Bool) (text : List ℕ) (old new : List ℕ) → f ≡ filter_at i (square every text a b)
    → KeepsHolding t (λ e n. square_of every (value t.tree [] e a n) (λ s. holds (value t.tree [] ((text, s) ∷ e) b n))) old new
    → KeepsHolding t (λ e. value t.tree [] e f) old new
unfolding value
square_cut t f a b i every text old new is =
    form_cut t (λ e. value t.tree [] e f) (λ e n. square_of every (value t.tree [] e a n) (λ s. holds (value t.tree [] ((text, s) ∷ e) b n))) old new
    (λ e n. ap (λ g. value t.tree [] e g n) is)

pub square_same : (i : ℕ) (every : Bool) (x y : List ℕ) (a b c d : Filter) → x ≡ y → a ≡ b → c ≡ d
    → filter_at i (square every x (filter_tree a) (filter_tree c)) ≡ filter_at i (square every y (filter_tree b) (filter_tree d))
square_same i every x y a b c d e f g =
    ap₂ (λ t u. filter_at i (square every t (filter_tree u) (filter_tree c))) e f ∙ ap (λ u. filter_at i (square every y (filter_tree b) (filter_tree u))) g

pub unary_cut : (t : Tried) (f part : FilterTree) (i : ℕ) (word : Unary) (old new : List ℕ) → f ≡ filter_at i (unary word part)
    → KeepsHolding t (λ e. unary_of t.tree word (value t.tree [] e part)) old new → KeepsHolding t (λ e. value t.tree [] e f) old new
unfolding value
unary_cut t f part i word old new is =
    form_cut t (λ e. value t.tree [] e f) (λ e. unary_of t.tree word (value t.tree [] e part)) old new (λ e n. ap (λ g. value t.tree [] e g n) is)

-- chains
pub all_cut : (t : Tried) (k : Chain) (fs : FilterTrees) (old new : List ℕ) → (k ≡ And) ⊎ (k ≡ All)
    → KeepsHolding t (λ e n. all_hold (values t.tree [] e fs n)) old new → KeepsHolding t (λ e n. chain_of k (values t.tree [] e fs n)) old new
all_cut t k fs old new which =
    form_cut t (λ e n. chain_of k (values t.tree [] e fs n)) (λ e n. all_hold (values t.tree [] e fs n)) old new
    (λ e n. ⊎_elim (λ same. ap (λ c. chain_of c (values t.tree [] e fs n)) same) (λ same. ap (λ c. chain_of c (values t.tree [] e fs n)) same) which)

pub common_cut : (t : Tried) (k : Chain) (fs : FilterTrees) (old new : List ℕ) → k ≡ Intersect
    → KeepsHaving t (λ e n. intersection_of (values t.tree [] e fs n)) old new → KeepsHaving t (λ e n. chain_of k (values t.tree [] e fs n)) old new
common_cut t k fs old new same =
    part_set_cut t (λ e n. chain_of k (values t.tree [] e fs n)) (λ e n. intersection_of (values t.tree [] e fs n)) old new
    (λ e n s h. sym (ap (λ c. has (chain_of c (values t.tree [] e fs n)) s) same) ∙ h)

-- one more of filters that must all hold, or of sets
pub one_of_all : (t : Tried) (x : Placed) (fs : FilterTrees) (old now later : List ℕ) → filter_trees x.items ≡ fs
    → KeepsHolding t (λ e n. all_hold (values t.tree [] e fs n)) old now → KeepsHolding t (λ e. value t.tree [] e (filter_tree x.filter)) now later
    → KeepsHolding t (λ e n. all_hold (values t.tree [] e fs n)) old later
one_of_all t x fs old now later same first second =
    cut_then t.live (MayHold t.opened t.outer t.name (λ e n. all_hold (values t.tree [] e fs n))) old now later first
    (part_cut t (λ e n. all_hold (values t.tree [] e fs n)) (λ e. value t.tree [] e (filter_tree x.filter)) now later
    (λ e n h. all_at t.tree e n holds x.items x.place x.filter x.low x.is (ap (λ gs. list_all holds (values t.tree [] e gs n)) same ∙ h)) second)

pub second_true : (a b : Bool) → (a && b) ≡ true → b ≡ true
second_true true b e = e
second_true false b e = cc

pub first_true : (a b : Bool) → (a && b) ≡ true → a ≡ true
first_true true b e = refl
first_true false b e = e

pub one_of_sets : (t : Tried) (x : Placed) (fs : FilterTrees) (old now later : List ℕ) → filter_trees x.items ≡ fs
    → KeepsHaving t (λ e n. intersection_of (values t.tree [] e fs n)) old now → KeepsHaving t (λ e. value t.tree [] e (filter_tree x.filter)) now later
    → KeepsHaving t (λ e n. intersection_of (values t.tree [] e fs n)) old later
one_of_sets t x fs old now later same first second =
    cut_then t.live (MayHave t.opened t.outer t.name (λ e n. intersection_of (values t.tree [] e fs n))) old now later first
    (part_set_cut t (λ e n. intersection_of (values t.tree [] e fs n)) (λ e. value t.tree [] e (filter_tree x.filter)) now later
    (λ e n s h. all_at t.tree e n (λ v. has v s) x.items x.place x.filter x.low x.is
    (ap (λ gs. list_all (λ v. has v s) (values t.tree [] e gs n)) same ∙ second_true (nat_lt s 64) (list_all (λ v. has v s) (values t.tree [] e fs n)) h)) second)

pub yes_both : (a b : Bool) → a ≡ true → b ≡ true → (a && b) ≡ true
yes_both true b e f = f
yes_both false b e f = cc

-- pairs
related_has : (test : ℕ → ℕ → Bool) (x y : Value) (s : ℕ) → has (related test x y) s ≡ true → has x s ≡ true
related_has test x y s h = first_true (has x s) (list_any (λ t. has y t && test s t) squares) (second_true (nat_lt s 64) (has x s && list_any (λ t. has y t && test s t) squares) h)

-- the squares of one set that attack some of another, or are attacked from there
pub record IsAttack (f : FilterTree) (p : Pair) (a b : FilterTree) : Type 0 where
  pub at : ℕ
  pub is : f ≡ filter_at at (pair p a b)
  pub which : (p ≡ Attacks) ⊎ (p ≡ AttackedBy)

pub pair_cut : (t : Tried) (f : FilterTree) (p : Pair) (a b : FilterTree) (old now later : List ℕ) → IsAttack f p a b → KeepsHaving t (λ e. value t.tree [] e a) old now
    → ((v : Names → ℕ → Value) → KeepsHaving t (λ e n. pair_of (position_at t.tree n).men p (v e n) (value t.tree [] e b n)) now later)
    → KeepsHaving t (λ e. value t.tree [] e f) old later
unfolding value
pair_cut t f p a b old now later attack first second =
    let tree = t.tree in
    cut_then t.live (MayHave t.opened t.outer t.name (λ e. value tree [] e f)) old now later
    (part_set_cut t (λ e. value tree [] e f) (λ e. value tree [] e a) old now
    (λ e n s h. let there : has (pair_of (position_at tree n).men p (value tree [] e a n) (value tree [] e b n)) s ≡ true = sym (ap (λ g. has (value tree [] e g n) s) attack.is) ∙ h in
    ⊎_elim
    (λ same. related_has (attacks (position_at tree n).men) (value tree [] e a n) (value tree [] e b n) s
    (sym (ap (λ q. has (pair_of (position_at tree n).men q (value tree [] e a n) (value tree [] e b n)) s) same) ∙ there))
    (λ same. related_has (λ u v. attacks (position_at tree n).men v u) (value tree [] e a n) (value tree [] e b n) s
    (sym (ap (λ q. has (pair_of (position_at tree n).men q (value tree [] e a n) (value tree [] e b n)) s) same) ∙ there))
    attack.which) first)
    (part_set_cut t (λ e. value tree [] e f) (λ e n. pair_of (position_at tree n).men p (value tree [] e a n) (value tree [] e b n)) now later
    (λ e n s h. sym (ap (λ g. has (value tree [] e g n) s) attack.is) ∙ h) (second (λ e. value tree [] e a)))

-- the other way round: the second set has the square alone
pub turned_has : (test : ℕ → ℕ → Bool) (x y : Value) (s : ℕ) → ((t : ℕ) → has y t ≡ true → s ≡ t) → holds (related test x y) ≡ true → has (related (λ u t. test t u) y x) s ≡ true
turned_has test x y s only h =
    let a = square_found (λ t. nat_lt t 64 && (has x t && list_any (λ u. has y u && test t u) squares)) h in
    let a_low : a.k < 64 = omega (arith, a.high) in
    let there = second_true (nat_lt a.k 64) (has x a.k && list_any (λ u. has y u && test a.k u) squares) a.passes in
    let b = square_found (λ u. has y u && test a.k u) (second_true (has x a.k) (list_any (λ u. has y u && test a.k u) squares) there) in
    let b_low : b.k < 64 = omega (arith, b.high) in
    let same : s ≡ b.k = only b.k (first_true (has y b.k) (test a.k b.k) b.passes) in
    subst (λ q. has (related (λ u t. test t u) y x) q ≡ true) (sym same)
    (yes_both (nat_lt b.k 64) (has y b.k && list_any (λ t. has x t && test t b.k) squares) (lt-ltb b.k 64 b_low)
    (yes_both (has y b.k) (list_any (λ t. has x t && test t b.k) squares) (first_true (has y b.k) (test a.k b.k) b.passes)
    (some_square (λ t. has x t && test t b.k) a.k a_low
    (yes_both (has x a.k) (test a.k b.k) (first_true (has x a.k) (list_any (λ u. has y u && test a.k u) squares) there) (second_true (has y b.k) (test a.k b.k) b.passes)))))

-- one attack is the converse of the other
pub record AreTurned (p back : Pair) : Type 0 where
  pub attacks : p ≡ Attacks → back ≡ AttackedBy
  pub attacked : p ≡ AttackedBy → back ≡ Attacks

pub turned_cut : (t : Tried) (f : FilterTree) (p back : Pair) (a b : FilterTree) (old new : List ℕ) → IsAttack f p a b → AreTurned p back → GivesOnlyName t.name (λ r e n. value r [] e b n)
    → ((v : Names → ℕ → Value) → KeepsHaving t (λ e n. pair_of (position_at t.tree n).men back (v e n) (value t.tree [] e a n)) old new)
    → KeepsHolding t (λ e. value t.tree [] e f) old new
unfolding value
turned_cut t f p back a b old new attack converse own cut =
    let tree = t.tree in
    cut_as t.live (MayHold t.opened t.outer t.name (λ e. value tree [] e f))
    (MayHave t.opened t.outer t.name (λ e n. pair_of (position_at tree n).men back (value tree [] e b n) (value tree [] e a n))) old new
    (λ n s l m. let there : holds (pair_of (position_at tree n).men p (value tree [] m.inner a n) (value tree [] m.inner b n)) ≡ true =
    sym (ap (λ g. holds (value tree [] m.inner g n)) attack.is) ∙ m.holds_there in
    record {
      inner = m.inner;
      agree = m.agree;
      binds = m.binds;
      has_there = ⊎_elim
          (λ same. ap (λ r. has (pair_of (position_at tree n).men r (value tree [] m.inner b n) (value tree [] m.inner a n)) s) (converse.attacks same)
          ∙ turned_has (attacks (position_at tree n).men) (value tree [] m.inner a n) (value tree [] m.inner b n) s (λ u h. own.only tree m.inner n s u m.binds h)
          (sym (ap (λ r. holds (pair_of (position_at tree n).men r (value tree [] m.inner a n) (value tree [] m.inner b n))) same) ∙ there))
          (λ same. ap (λ r. has (pair_of (position_at tree n).men r (value tree [] m.inner b n) (value tree [] m.inner a n)) s) (converse.attacked same)
          ∙ turned_has (λ u v. attacks (position_at tree n).men v u) (value tree [] m.inner a n) (value tree [] m.inner b n) s (λ u h. own.only tree m.inner n s u m.binds h)
          (sym (ap (λ r. holds (pair_of (position_at tree n).men r (value tree [] m.inner a n) (value tree [] m.inner b n))) same) ∙ there))
          attack.which;
    })
    (cut (λ e. value tree [] e b))

-- a list that is changed in place, and is as long as it was
pub written_sets : (len : ℕ) (new old : List ℕ) → len ≡ length new → take len (new ++ drop (length new) old) ≡ new
written_sets len new old e = ap (λ i. take i (new ++ drop (length new) old)) e ∙ take-append_seam new (drop (length new) old)

-- the move filter
own_meets : (tree : SearchedTree) (given : List ℕ) (w : WrittenTree) (e : Names) (m s : ℕ) (q : Option ℕ) → PartGivesOnlyName given w → Binds e given s → meets (written_value tree [] e w m) q ≡ true → q ≡ Some s
unfolding value
own_meets tree given w e m s q own binds met = by q (sym (ap (λ x. meets (written_value tree [] e x m) q) own.is) ∙ met)
  where
    by : (r : Option ℕ) → meets (Some (value tree [] e own.part m)) r ≡ true → r ≡ Some s
    by None h = cc
    by (Some t) h = ap Some (sym (own.own.only tree e m s t binds h))

some_is : (a b : ℕ) → ◌≡◌ {A = Option ℕ} (Some a) (Some b) → a ≡ b
some_is a b e = cc

-- as far as each is such a part, no square but one meets the three parts of a move
record MeetOnly (a b c : Option Value) (origin goal taken : Bool) (s : ℕ) : Type 0 where
  from_origin : origin ≡ true → (q : Option ℕ) → meets a q ≡ true → q ≡ Some s
  from_goal : goal ≡ true → (q : Option ℕ) → meets b q ≡ true → q ≡ Some s
  from_taken : taken ≡ true → (q : Option ℕ) → meets c q ≡ true → q ≡ Some s

of_move : (l : Option PlainLed) (a b c d : Option Value) (origin goal taken : Bool) (s : ℕ) → MeetOnly a b c origin goal taken s → meets_all l a b c d ≡ true → IsOfMove l origin goal taken s
of_move None a b c d origin goal taken s only all = cc
of_move (Some l) a b c d origin goal taken s only all =
    let three = first_true (meets a (Some l.origin) && meets b (Some l.goal) && meets c l.taken) (meets d (goal_if l.promoted l.goal)) all in
    let two = first_true (meets a (Some l.origin) && meets b (Some l.goal)) (meets c l.taken) three in
    record {
      led = l;
      is = refl;
      at_origin = λ yes. some_is l.origin s (only.from_origin yes (Some l.origin) (first_true (meets a (Some l.origin)) (meets b (Some l.goal)) two));
      at_goal = λ yes. some_is l.goal s (only.from_goal yes (Some l.goal) (second_true (meets a (Some l.origin)) (meets b (Some l.goal)) two));
      at_taken = λ yes. only.from_taken yes l.taken (second_true (meets a (Some l.origin) && meets b (Some l.goal)) (meets c l.taken) three);
    }

pub move_cut : (t : Tried) (p : Played) (origin goal taken : Bool) (old new : List ℕ) → (origin ≡ true → PartGivesOnlyName t.name (origin_of p))
    → (goal ≡ true → PartGivesOnlyName t.name (goal_of p)) → (taken ≡ true → PartGivesOnlyName t.name (taken_of p))
    → AreRetained t.live (λ n. IsOfMove (led_to t.tree.game.nodes n) origin goal taken) old new → KeepsHolding t (λ e n. as_truth (played_value t.tree [] e (played_tree p) n)) old new
move_cut t p origin goal taken old new first second third =
    let tree = t.tree in
    cut_as t.live (MayHold t.opened t.outer t.name (λ e n. as_truth (played_value tree [] e (played_tree p) n))) (λ n. IsOfMove (led_to tree.game.nodes n) origin goal taken) old new
    (λ n s a m. of_move (led_to tree.game.nodes n) (written_value tree [] m.inner (origin_of p) (before tree n)) (written_value tree [] m.inner (goal_of p) n)
    (written_value tree [] m.inner (taken_of p) (before tree n)) (written_value tree [] m.inner (promoted_of p) n) origin goal taken s
    (record {
      from_origin = λ yes q h. own_meets tree t.name (origin_of p) m.inner (before tree n) s q (first yes) m.binds h;
      from_goal = λ yes q h. own_meets tree t.name (goal_of p) m.inner n s q (second yes) m.binds h;
      from_taken = λ yes q h. own_meets tree t.name (taken_of p) m.inner (before tree n) s q (third yes) m.binds h;
    })
    (sym (move_value tree m.inner p n) ∙ m.holds_there))

pub played_cut : (t : Tried) (f : FilterTree) (i : ℕ) (p : Played) (old new : List ℕ) → f ≡ filter_at i (played (played_tree p))
    → KeepsHolding t (λ e n. as_truth (played_value t.tree [] e (played_tree p) n)) old new → KeepsHolding t (λ e. value t.tree [] e f) old new
unfolding value
played_cut t f i p old new is =
    form_cut t (λ e. value t.tree [] e f) (λ e n. as_truth (played_value t.tree [] e (played_tree p) n)) old new (λ e n. ap (λ g. value t.tree [] e g n) is)

-- another name is bound inside
agree_by : (b : Bool) (o : ℕ → Bool) (here there : Bool) (e : Bool) → holds (squares_where (λ u. if b then 0 == u else o u)) ≡ false → (holds (squares_where o) ≡ false → here ≡ there)
    → (if b then e else here) ≡ there
unfolding squares
agree_by true o here there e none same = (let yes : holds (squares_where (λ u. 0 == u)) ≡ true = refl in cc)
agree_by false o here there e none same = same none

pub wider : (opened inner outer : Names) (text : List ℕ) (s : ℕ) → Agree opened inner outer → Agree ((text, 0) ∷ opened) ((text, s) ∷ inner) outer
wider opened inner outer text s agree = record {
  each = λ other closed t. agree_by (bytes_eq text other) (is_bound_to opened other) (is_bound_to inner other t) (is_bound_to outer other t) (s == t) closed (λ none. agree.each other none t);
}

pub still_bound : (inner : Names) (text given : List ℕ) (s t : ℕ) → bytes_eq text given ≡ false → Binds inner given s → Binds ((text, t) ∷ inner) given s
still_bound inner text given s t other binds = λ u. ap (λ b. if b then t == u else is_bound_to inner given u) other ∙ binds u

pub some_kept : (p q : ℕ → Bool) (xs : List ℕ) → list_any p (filter q xs) ≡ true → (t : ℕ) × (p t ≡ true)
some_kept p q xs h = some_there p (filter q xs) h

pub inner_cut : (t : Tried) (wide : Names) (text : List ℕ) (b : FilterTree) (old new : List ℕ) → bytes_eq text t.name ≡ false → wide ≡ (text, 0) ∷ t.opened
    → AreRetained t.live (MayHold wide t.outer t.name (λ e. value t.tree [] e b)) old new
    → (x : Names → ℕ → Value) → KeepsHolding t (λ e n. square_of false (x e n) (λ s. holds (value t.tree [] ((text, s) ∷ e) b n))) old new
inner_cut t wide text b old new other is cut x =
    cut_as t.live (MayHold t.opened t.outer t.name (λ e n. square_of false (x e n) (λ s. holds (value t.tree [] ((text, s) ∷ e) b n))))
    (MayHold wide t.outer t.name (λ e. value t.tree [] e b)) old new
    (λ n s a p. let found = some_kept (λ u. holds (value t.tree [] ((text, u) ∷ p.inner) b n)) (has (x p.inner n)) squares p.holds_there in
    record {
      inner = (text, found.0) ∷ p.inner;
      agree = subst (λ w. Agree w ((text, found.0) ∷ p.inner) t.outer) (sym is) (wider t.opened p.inner t.outer text found.0 p.agree);
      binds = still_bound p.inner text t.name s found.0 other p.binds;
      holds_there = found.1;
    }) cut

-- the name itself
same_text : (a : List ℕ) → bytes_eq a a ≡ true
same_text a = (bytes_eq-Decides a a).1 refl

pub agree_same : (outer : Names) → Agree [] outer outer
agree_same outer = record { each = λ text none t. refl }

pub worth_trying : (tree : SearchedTree) (live : List Bool) (opened outer : Names) (given : List ℕ) (f : FilterTree) (v : ℕ → Value) (old new : List ℕ) → opened ≡ (given, 0) ∷ [] → AreSetsOf v live old
    → AreRetained live (MayHold opened outer given (λ e. value tree [] e f)) old new → AreWorthTrying v live (λ n s. holds (value tree [] ((given, s) ∷ outer) f n)) new
worth_trying tree live opened outer given f v old new is sets cut = record {
  within = λ n s a h. sym (ap (λ t. t s) (sets.each n a)) ∙ cut.within n s h;
  keeps = λ n s a low h there. cut.keeps n s a
      (record {
        inner = (given, s) ∷ outer;
        agree = subst (λ w. Agree w ((given, s) ∷ outer) outer) (sym is) (wider [] outer outer given s (agree_same outer));
        binds = λ t. ap (λ b. if b then s == t else is_bound_to outer given t) (same_text given);
        holds_there = h;
      })
      (ap (λ t. t s) (sets.each n a) ∙ there);
}

-- squares with which nothing holds may be left out
same_both : (a b h : Bool) → (b ≡ true → a ≡ true) → (h ≡ true → a ≡ true → b ≡ true) → (b && h) ≡ (a && h)
same_both true true h f g = refl
same_both true false true f g = g refl refl
same_both true false false f g = refl
same_both false true h f g = (let no : false ≡ true = f refl in cc)
same_both false false h f g = refl

pub tried_same : (every : Bool) (x y : Value) (asked : ℕ → Bool) → every ≡ false → ((s : ℕ) → has y s ≡ true → has x s ≡ true) → ((s : ℕ) → s < 64 → asked s ≡ true → has x s ≡ true → has y s ≡ true)
    → square_of every y asked ≡ square_of every x asked
tried_same true x y asked some within keeps = cc
tried_same false x y asked some within keeps =
    let same = same_any (settles false (has y) asked) (settles false (has x) asked) (λ s low. same_both (has x s) (has y s) (asked s) (within s) (keeps s low)) in
    by_settling false y asked (list_any (settles false (has y) asked) squares) refl
    ∙ ap (λ b. as_truth (if b then not false else false)) same
    ∙ sym (by_settling false x asked (list_any (settles false (has x) asked) squares) refl)
