-- Squares in a relation of attack to the square of another name, which is in a known set.
use Rattle.std.proofs.Common.{◌≡◌, ◌⊎◌, ⊎_elim, ℕ, ◌<◌, ◌==◌, ◌&&◌, nat_lt, Bool, true, false, List, [], ◌∷◌, refl, sym, ap, ◌∙◌, subst, arith}
use Rattle.std.specs.Prelude.{if◌then◌else◌}
use Rattle.std.specs.List.{list_any, list_all}
use Rattle.std.specs.Str.{bytes_eq}
use Rattle.std.proofs.lemmas.Slice.Eq.{bytes_eq-Decides}
use Rattle.cq_geometry.specs.Squares.{squares}
use Rattle.cq_position.specs.Attacks.{attacks}
use Rattle.cq_position.specs.Search.{SearchedTree}
use Rattle.cql_syntax.specs.Meaning.{Names, value, values, is_bound_to, position_at}
use Rattle.cql_syntax.specs.Trees.{FilterTree, filter_at, FilterTrees, pair, square, chain}
use Rattle.cql_syntax.specs.TreeOf.{filter_tree, filter_trees}
use Rattle.cql_syntax.specs.Values.{Value, holds, has, square_of, chain_of, all_hold, related, pair_of}
use Rattle.cql_syntax.specs.declared.leaves.Chain.{Chain}
use Rattle.cql_syntax.specs.declared.leaves.Chain.TheVariants.{And, All}
use Rattle.cql_syntax.specs.declared.leaves.Pair.{Pair}
use Rattle.cql_syntax.specs.declared.leaves.Pair.TheVariants.{Attacks, AttackedBy}
use Rattle.cql_values.proofs.Ranges.{some_square, square_found}
use Rattle.cql_columns.specs.Columns.{shown, IsColumn}
use Rattle.cql_columns.specs.Scopes.{tree_in}
use Rattle.cql_columns.specs.declared.filter_column.FilterColumn.{FilterColumn}
use Rattle.cql_columns.proofs.FindLaw.{any_filtered}
use Rattle.cql_candidates.specs.Covers.{AreRetained, HasSome, IsIndependent, IsRelatedSquare, MayHold, MayPair}
use Rattle.cql_values.specs.FilterForms.{Binds, GivesOnlyName}
use Rattle.cql_candidates.specs.Pairs.{LeavesPaired}
use Rattle.cql_candidates.specs.declared.pairs.PairTrial.{PairTrial}
use Rattle.cql_candidates.proofs.CoverForms.{AreTurned, KeepsHolding, Tried, first_true, second_true, yes_both, turned_has, still_bound}
use Rattle.cql_candidates.proofs.CoverLaw.{cut_as, cut_then, cut_wide}
use Rattle.cql_values.proofs.FilterForms.{all_at, some_there, related_own}
use Rattle.cql_candidates.proofs.Placing.{Placed}

-- the tree that is searched
abbrev pub tree_of : PairTrial → SearchedTree
tree_of p = tree_in p.scope.now

-- if one value holds, another does
pub pair_as : (p : PairTrial) (v w : Names → ℕ → Value) (old new : List ℕ) → ((e : Names) (n : ℕ) → holds (v e n) ≡ true → holds (w e n) ≡ true)
    → LeavesPaired p w old new → LeavesPaired p v old new
pair_as p v w old new from = cut_as p.live.now (MayPair p.name.now p.other.now (shown p.column.now) v) (MayPair p.name.now p.other.now (shown p.column.now) w) old new
    (λ n s a m. record { inner = m.inner; binds = m.binds; t = m.t; binds_other = m.binds_other; has_other = m.has_other; holds_there = from m.inner n m.holds_there })

pub paired_form : (p : PairTrial) (f : FilterTree) (w : Names → ℕ → Value) (old new : List ℕ) → ((e : Names) (n : ℕ) → value (tree_of p) [] e f n ≡ w e n)
    → LeavesPaired p w old new → LeavesPaired p (λ e. value (tree_of p) [] e f) old new
paired_form p f w old new is = pair_as p (λ e. value (tree_of p) [] e f) w old new (λ e n h. sym (ap holds (is e n)) ∙ h)

pub paired_chain : (p : PairTrial) (f : FilterTree) (i : ℕ) (k : Chain) (fs : FilterTrees) (old new : List ℕ) → f ≡ filter_at i (chain k fs)
    → LeavesPaired p (λ e n. chain_of k (values (tree_of p) [] e fs n)) old new → LeavesPaired p (λ e. value (tree_of p) [] e f) old new
unfolding value
paired_chain p f i k fs old new is = paired_form p f (λ e n. chain_of k (values (tree_of p) [] e fs n)) old new (λ e n. ap (λ g. value (tree_of p) [] e g n) is)

pub paired_square : (p : PairTrial) (f a b : FilterTree) (i : ℕ) (every : Bool) (text : List ℕ) (old new : List ℕ) → f ≡ filter_at i (square every text a b)
    → ((v : Names → ℕ → Value) → LeavesPaired p (λ e n. square_of every (v e n) (λ s. holds (value (tree_of p) [] ((text, s) ∷ e) b n))) old new)
    → LeavesPaired p (λ e. value (tree_of p) [] e f) old new
unfolding value
paired_square p f a b i every text old new is cut =
    paired_form p f (λ e n. square_of every (value (tree_of p) [] e a n) (λ s. holds (value (tree_of p) [] ((text, s) ∷ e) b n))) old new
    (λ e n. ap (λ g. value (tree_of p) [] e g n) is) (cut (λ e. value (tree_of p) [] e a))

pub paired_pair : (p : PairTrial) (f a b : FilterTree) (i : ℕ) (k : Pair) (old new : List ℕ) → f ≡ filter_at i (pair k a b)
    → LeavesPaired p (λ e n. pair_of (position_at (tree_of p) n).men k (value (tree_of p) [] e a n) (value (tree_of p) [] e b n)) old new
    → LeavesPaired p (λ e. value (tree_of p) [] e f) old new
unfolding value
paired_pair p f a b i k old new is =
    paired_form p f (λ e n. pair_of (position_at (tree_of p) n).men k (value (tree_of p) [] e a n) (value (tree_of p) [] e b n)) old new
    (λ e n. ap (λ g. value (tree_of p) [] e g n) is)

-- filters that must all hold
pub paired_all : (p : PairTrial) (k : Chain) (fs : FilterTrees) (old new : List ℕ) → (k ≡ And) ⊎ (k ≡ All)
    → LeavesPaired p (λ e n. all_hold (values (tree_of p) [] e fs n)) old new → LeavesPaired p (λ e n. chain_of k (values (tree_of p) [] e fs n)) old new
paired_all p k fs old new which = pair_as p (λ e n. chain_of k (values (tree_of p) [] e fs n)) (λ e n. all_hold (values (tree_of p) [] e fs n)) old new
    (λ e n h. sym (⊎_elim (λ same. ap (λ c. holds (chain_of c (values (tree_of p) [] e fs n))) same) (λ same. ap (λ c. holds (chain_of c (values (tree_of p) [] e fs n))) same) which) ∙ h)

pub paired_one : (p : PairTrial) (x : Placed) (fs : FilterTrees) (old now later : List ℕ) → filter_trees x.items ≡ fs
    → LeavesPaired p (λ e n. all_hold (values (tree_of p) [] e fs n)) old now → LeavesPaired p (λ e. value (tree_of p) [] e (filter_tree x.filter)) now later
    → LeavesPaired p (λ e n. all_hold (values (tree_of p) [] e fs n)) old later
paired_one p x fs old now later same first second =
    cut_then p.live.now (MayPair p.name.now p.other.now (shown p.column.now) (λ e n. all_hold (values (tree_of p) [] e fs n))) old now later first
    (pair_as p (λ e n. all_hold (values (tree_of p) [] e fs n)) (λ e. value (tree_of p) [] e (filter_tree x.filter)) now later
    (λ e n h. all_at (tree_of p) e n holds x.items x.place x.filter x.low x.is (ap (λ gs. list_all holds (values (tree_of p) [] e gs n)) same ∙ h)) second)

some_square_of : (test : ℕ → Bool) (x : Value) → holds (square_of false x test) ≡ true → (t : ℕ) × ((has x t && test t) ≡ true)
some_square_of test x h = some_there (λ t. has x t && test t) squares (sym (any_filtered test (has x) squares) ∙ h)

-- under a third name
pub paired_third : (p : PairTrial) (text : List ℕ) (b : FilterTree) (every : Bool) (old new : List ℕ) → every ≡ false → bytes_eq text p.name.now ≡ false → bytes_eq text p.other.now ≡ false
    → LeavesPaired p (λ e. value (tree_of p) [] e b) old new
    → (v : Names → ℕ → Value) → LeavesPaired p (λ e n. square_of every (v e n) (λ s. holds (value (tree_of p) [] ((text, s) ∷ e) b n))) old new
paired_third p text b every old new some first second cut v =
    cut_as p.live.now (MayPair p.name.now p.other.now (shown p.column.now) (λ e n. square_of every (v e n) (λ s. holds (value (tree_of p) [] ((text, s) ∷ e) b n))))
    (MayPair p.name.now p.other.now (shown p.column.now) (λ e. value (tree_of p) [] e b)) old new
    (λ n s a m.
    let found = some_square_of (λ t. holds (value (tree_of p) [] ((text, t) ∷ m.inner) b n)) (v m.inner n)
    (sym (ap (λ k. holds (square_of k (v m.inner n) (λ t. holds (value (tree_of p) [] ((text, t) ∷ m.inner) b n)))) some) ∙ m.holds_there) in
    record {
      inner = (text, found.0) ∷ m.inner;
      binds = still_bound m.inner text p.name.now s found.0 first m.binds;
      t = m.t;
      binds_other = still_bound m.inner text p.other.now m.t found.0 second m.binds_other;
      has_other = m.has_other;
      holds_there = second_true (has (v m.inner n) found.0) (holds (value (tree_of p) [] ((text, found.0) ∷ m.inner) b n)) found.1;
    }) cut

-- a value so related to a set is so related to any larger set
related_more : (test : ℕ → ℕ → Bool) (x y v : Value) (s : ℕ) → ((u : ℕ) → has y u ≡ true → has v u ≡ true) → has (related test x y) s ≡ true → has (related test x v) s ≡ true
related_more test x y v s more h =
    let rest = second_true (nat_lt s 64) (has x s && list_any (λ u. has y u && test s u) squares) h in
    let found = square_found (λ u. has y u && test s u) (second_true (has x s) (list_any (λ u. has y u && test s u) squares) rest) in
    let low : found.k < 64 = omega (arith, found.high) in
    yes_both (nat_lt s 64) (has x s && list_any (λ u. has v u && test s u) squares) (first_true (nat_lt s 64) (has x s && list_any (λ u. has y u && test s u) squares) h)
    (yes_both (has x s) (list_any (λ u. has v u && test s u) squares) (first_true (has x s) (list_any (λ u. has y u && test s u) squares) rest)
    (some_square (λ u. has v u && test s u) found.k low
    (yes_both (has v found.k) (test s found.k) (more found.k (first_true (has y found.k) (test s found.k) found.passes)) (second_true (has y found.k) (test s found.k) found.passes))))

-- the square of the other name is one of those that are known
known : (tree : SearchedTree) (other : List ℕ) (x : ℕ → Value) (b : FilterTree) (e : Names) (n t : ℕ) → GivesOnlyName other (λ r e n. value r [] e b n) → Binds e other t → has (x n) t ≡ true
    → (u : ℕ) → has (value tree [] e b n) u ≡ true → has (x n) u ≡ true
known tree other x b e n t own binds there u h = subst (λ q. has (x n) q ≡ true) (own.only tree e n t u binds h) there

pub paired_own : (p : PairTrial) (a b : FilterTree) (k : Pair) (old new : List ℕ) → (k ≡ Attacks) ⊎ (k ≡ AttackedBy)
    → GivesOnlyName p.name.now (λ r e n. value r [] e a n) → GivesOnlyName p.other.now (λ r e n. value r [] e b n)
    → AreRetained p.live.now (λ n. IsRelatedSquare (position_at (tree_of p) n).men k (shown p.column.now n)) old new
    → LeavesPaired p (λ e n. pair_of (position_at (tree_of p) n).men k (value (tree_of p) [] e a n) (value (tree_of p) [] e b n)) old new
paired_own p a b k old new which first second =
    let tree = tree_of p in
    let x = shown p.column.now in
    cut_as p.live.now (MayPair p.name.now p.other.now x (λ e n. pair_of (position_at tree n).men k (value tree [] e a n) (value tree [] e b n)))
    (λ n. IsRelatedSquare (position_at tree n).men k (x n)) old new
    (λ n s l m. let known_there = known tree p.other.now x b m.inner n m.t second m.binds_other m.has_other in
    record {
      first = value tree [] m.inner a n;
      has_there = ⊎_elim
          (λ same. ap (λ r. has (pair_of (position_at tree n).men r (value tree [] m.inner a n) (x n)) s) same
          ∙ related_more (attacks (position_at tree n).men) (value tree [] m.inner a n) (value tree [] m.inner b n) (x n) s known_there
          ((related_own p.name.now (λ r j. attacks (position_at r j).men) (λ r e j. value r [] e a j) (λ r e j. value r [] e b j) first).some tree m.inner n s m.binds
          (sym (ap (λ r. holds (pair_of (position_at tree n).men r (value tree [] m.inner a n) (value tree [] m.inner b n))) same) ∙ m.holds_there)))
          (λ same. ap (λ r. has (pair_of (position_at tree n).men r (value tree [] m.inner a n) (x n)) s) same
          ∙ related_more (λ u t. attacks (position_at tree n).men t u) (value tree [] m.inner a n) (value tree [] m.inner b n) (x n) s known_there
          ((related_own p.name.now (λ r j u t. attacks (position_at r j).men t u) (λ r e j. value r [] e a j) (λ r e j. value r [] e b j) first).some tree m.inner n s m.binds
          (sym (ap (λ r. holds (pair_of (position_at tree n).men r (value tree [] m.inner a n) (value tree [] m.inner b n))) same) ∙ m.holds_there)))
          which;
    })

pub paired_turned : (p : PairTrial) (a b : FilterTree) (k back : Pair) (old new : List ℕ) → (k ≡ Attacks) ⊎ (k ≡ AttackedBy) → AreTurned k back
    → GivesOnlyName p.other.now (λ r e n. value r [] e a n) → GivesOnlyName p.name.now (λ r e n. value r [] e b n)
    → AreRetained p.live.now (λ n. IsRelatedSquare (position_at (tree_of p) n).men back (shown p.column.now n)) old new
    → LeavesPaired p (λ e n. pair_of (position_at (tree_of p) n).men k (value (tree_of p) [] e a n) (value (tree_of p) [] e b n)) old new
paired_turned p a b k back old new which converse first second =
    let tree = tree_of p in
    let x = shown p.column.now in
    cut_as p.live.now (MayPair p.name.now p.other.now x (λ e n. pair_of (position_at tree n).men k (value tree [] e a n) (value tree [] e b n)))
    (λ n. IsRelatedSquare (position_at tree n).men back (x n)) old new
    (λ n s l m. let known_there = known tree p.other.now x a m.inner n m.t first m.binds_other m.has_other in
    record {
      first = value tree [] m.inner b n;
      has_there = ⊎_elim
          (λ same. ap (λ r. has (pair_of (position_at tree n).men r (value tree [] m.inner b n) (x n)) s) (converse.attacks same)
          ∙ related_more (λ u t. attacks (position_at tree n).men t u) (value tree [] m.inner b n) (value tree [] m.inner a n) (x n) s known_there
          (turned_has (attacks (position_at tree n).men) (value tree [] m.inner a n) (value tree [] m.inner b n) s (λ t h. second.only tree m.inner n s t m.binds h)
          (sym (ap (λ r. holds (pair_of (position_at tree n).men r (value tree [] m.inner a n) (value tree [] m.inner b n))) same) ∙ m.holds_there)))
          (λ same. ap (λ r. has (pair_of (position_at tree n).men r (value tree [] m.inner b n) (x n)) s) (converse.attacked same)
          ∙ related_more (attacks (position_at tree n).men) (value tree [] m.inner b n) (value tree [] m.inner a n) (x n) s known_there
          (turned_has (λ u t. attacks (position_at tree n).men t u) (value tree [] m.inner a n) (value tree [] m.inner b n) s (λ t h. second.only tree m.inner n s t m.binds h)
          (sym (ap (λ r. holds (pair_of (position_at tree n).men r (value tree [] m.inner a n) (value tree [] m.inner b n))) same) ∙ m.holds_there)))
          which;
    })

-- the column of a filter in which no open name stands
pub record FreeColumn (t : Tried) (some : List Bool) (f : FilterTree) (c : FilterColumn) : Type 0 where
  pub free : IsIndependent t.opened f
  pub column : IsColumn c some (value t.tree [] t.outer f)

-- another name is bound to a square of a set in which no open name stands
pub paired_cut : (t : Tried) (some : List Bool) (text : List ℕ) (a b : FilterTree) (c : FilterColumn) (old new : List ℕ)
    → bytes_eq text t.name ≡ false → HasSome t.tree t.live old some → FreeColumn t some a c
    → AreRetained some (MayPair t.name text (shown c) (λ e. value t.tree [] e b)) old new
    → KeepsHolding t (λ e n. square_of false (value t.tree [] e a n) (λ s. holds (value t.tree [] ((text, s) ∷ e) b n))) old new
paired_cut t some text a b c old new other has_some squares cut =
    let v = λ (e : Names) (n : ℕ). square_of false (value t.tree [] e a n) (λ s. holds (value t.tree [] ((text, s) ∷ e) b n)) in
    cut_wide t.tree t.live some (MayHold t.opened t.outer t.name v) old new has_some
    (cut_as some (MayHold t.opened t.outer t.name v) (MayPair t.name text (shown c) (λ e. value t.tree [] e b)) old new
    (λ n s l p.
    let found = some_square_of (λ u. holds (value t.tree [] ((text, u) ∷ p.inner) b n)) (value t.tree [] p.inner a n) p.holds_there in
    record {
      inner = (text, found.0) ∷ p.inner;
      binds = still_bound p.inner text t.name s found.0 other p.binds;
      t = found.0;
      binds_other = λ u. ap (λ y. if y then found.0 == u else is_bound_to p.inner text u) ((bytes_eq-Decides text text).1 refl);
      has_other = ap (λ w. has w found.0) (squares.column n l ∙ sym (squares.free.each t.tree p.inner t.outer n p.agree))
          ∙ first_true (has (value t.tree [] p.inner a n) found.0) (holds (value t.tree [] ((text, found.0) ∷ p.inner) b n)) found.1;
      holds_there = second_true (has (value t.tree [] p.inner a n) found.0) (holds (value t.tree [] ((text, found.0) ∷ p.inner) b n)) found.1;
    })
    cut)
