-- The test, square by square, that the move went to the square.
use Rattle.std.proofs.Common.{◌≡◌, ◌⊎◌, ⊎_elim, ℕ, ◌<◌, ◌^◌, ◌==◌, ◌&&◌, ◌||◌, not, nat_lt, Bool, true, false, List, [], ◌∷◌, Option, Some, None, refl, sym, ap, ap₂, ◌∙◌, subst}
use Rattle.std.specs.List.{list_any, filter}
use Rattle.std.specs.Prelude.{is_some}
use Rattle.std.proofs.Math.Path.{fun_ext}
use Rattle.std.proofs.lemmas.Bool.{eqb-true, eq-eqb, lt-ltb}
use Rattle.cq_geometry.specs.Squares.{squares}
use Rattle.cq_position.specs.Games.{node_at}
use Rattle.cq_position.specs.Led.{PlainLed, led_to}
use Rattle.cq_position.specs.Search.{SearchedTree}
use Rattle.cq_symmetry.specs.Images.{is_in}
use Rattle.cql_syntax.specs.Meaning.{Names, value, values, meets, meets_all, goal_if, before, played_value, written_value}
use Rattle.cql_syntax.specs.Trees.{FilterTree, filter_at, FilterTrees, PlayedTree, WrittenTree, chain, more_filters, no_filters, played}
use Rattle.cql_syntax.specs.TreeOf.{played_tree}
use Rattle.cql_syntax.specs.Values.{Value, as_truth, as_squares, holds, has, square_of, squares_where, chain_of}
use Rattle.cql_syntax.specs.declared.leaves.Chain.{Chain}
use Rattle.cql_syntax.specs.declared.leaves.Chain.TheVariants.{And, All}
use Rattle.cql_syntax.specs.declared.tree.Played.{Played, out-Played}
use Rattle.cql_values.proofs.Masks.{above}
use Rattle.cql_values.proofs.Ranges.{same_any, same_truth, some_square, square_found}
use Rattle.cql_columns.specs.Columns.{is_live, shown}
use Rattle.cql_columns.specs.Scopes.{tree_in}
use Rattle.cql_columns.specs.declared.binding.Binding.{Binding}
use Rattle.cql_columns.proofs.Filling.{split_at}
use Rattle.cql_columns.proofs.FindLaw.{any_filtered}
use Rattle.cql_candidates.specs.Covers.{IsIndependentPart}
use Rattle.cql_candidates.specs.MoveTargets.{ArePartColumns, TestsGoal, some_goal_matches, move_to_set_matches}
use Rattle.cql_values.specs.FilterForms.{IsNamePart}
use Rattle.cql_candidates.specs.Promoting.{ArePromoting, is_promotion}
use Rattle.cql_candidates.specs.declared.moves.PartColumns.{PartColumns}
use Rattle.cql_candidates.proofs.AttackLaw.{and_true}
use Rattle.cql_candidates.proofs.CoverForms.{first_true, second_true, yes_both, wider, agree_same}
use Rattle.cql_candidates.proofs.MoveLaw.{move_value, origin_of, goal_of, taken_of, promoted_of, only_promoted, left_out}

-- a filter is its form, a chain that of one filter, and the move that of a node
pub goal_form : (tree : SearchedTree) (e : Names) (given : List ℕ) (every : Bool) (x : Value) (n i : ℕ) (f : FilterTree) (p : PlayedTree) → f ≡ filter_at i (played p)
    → square_of every x (λ s. holds (value tree [] ((given, s) ∷ e) f n)) ≡ square_of every x (λ s. played_value tree [] ((given, s) ∷ e) p n)
unfolding value
goal_form tree e given every x n i f p is = ap (λ g. square_of every x (λ s. holds (value tree [] ((given, s) ∷ e) g n))) is

pub goal_chain : (tree : SearchedTree) (e : Names) (given : List ℕ) (every : Bool) (x : Value) (n i : ℕ) (f : FilterTree) (k : Chain) (fs : FilterTrees) → f ≡ filter_at i (chain k fs)
    → square_of every x (λ s. holds (value tree [] ((given, s) ∷ e) f n)) ≡ square_of every x (λ s. holds (chain_of k (values tree [] ((given, s) ∷ e) fs n)))
unfolding value
goal_chain tree e given every x n i f k fs is = ap (λ g. square_of every x (λ s. holds (value tree [] ((given, s) ∷ e) g n))) is

pub goal_alone : (tree : SearchedTree) (e : Names) (given : List ℕ) (every : Bool) (x : Value) (n : ℕ) (k : Chain) (fs : FilterTrees) (g : FilterTree) → (k ≡ And) ⊎ (k ≡ All) → fs ≡ more_filters g no_filters
    → square_of every x (λ s. holds (chain_of k (values tree [] ((given, s) ∷ e) fs n))) ≡ square_of every x (λ s. holds (value tree [] ((given, s) ∷ e) g n))
unfolding value
goal_alone tree e given every x n k fs g which are = ap (square_of every x) (fun_ext each)
  where
    each : (s : ℕ) → holds (chain_of k (values tree [] ((given, s) ∷ e) fs n)) ≡ holds (value tree [] ((given, s) ∷ e) g n)
    each s = ap (λ gs. holds (chain_of k (values tree [] ((given, s) ∷ e) gs n))) are
        ∙ ⊎_elim (λ same. ap (λ c. holds (chain_of c (values tree [] ((given, s) ∷ e) (more_filters g no_filters) n))) same)
        (λ same. ap (λ c. holds (chain_of c (values tree [] ((given, s) ∷ e) (more_filters g no_filters) n))) same) which
        ∙ and_true (holds (value tree [] ((given, s) ∷ e) g n))

-- one square after the other, or all of a set at once
pub moved_once : (l : Option PlainLed) (o t p : Option Value) (set : ℕ) → set < 2 ^ 64 → meets_all l o (Some (as_squares (is_in set))) t p ≡ some_goal_matches l o set t p
moved_once None o t p set fits = same_truth false (list_any (λ s. is_in set s && false) squares) (λ e. cc)
    (λ e. let f = square_found (λ s. is_in set s && false) e in second_true (is_in set f.k) false f.passes)
moved_once (Some l) o t p set fits = same_truth (meets_all (Some l) o (Some (as_squares (is_in set))) t p) (some_goal_matches (Some l) o set t p) down up
  where
    A : Bool
    A = meets o (Some l.origin)

    T : Bool
    T = meets t l.taken

    P : Bool
    P = meets p (goal_if l.promoted l.goal)

    one : ℕ → Bool
    one s = nat_lt l.goal 64 && s == l.goal

    low : is_in set l.goal ≡ true → l.goal < 64
    low h = ⊎_elim (λ less. less) (λ high. (let no = above set l.goal fits high in cc)) (split_at l.goal 64)

    down : (A && is_in set l.goal && T && P) ≡ true → some_goal_matches (Some l) o set t p ≡ true
    down h =
        let three = first_true (A && is_in set l.goal && T) P h in
        let two = first_true (A && is_in set l.goal) T three in
        let there = second_true A (is_in set l.goal) two in
        some_square (λ s. is_in set s && meets_all (Some l) o (Some (squares_where (λ u. s == u))) t p) l.goal (low there)
        (yes_both (is_in set l.goal) (A && one l.goal && T && P) there
        (yes_both (A && one l.goal && T) P
        (yes_both (A && one l.goal) T
        (yes_both A (one l.goal) (first_true A (is_in set l.goal) two) (yes_both (nat_lt l.goal 64) (l.goal == l.goal) (lt-ltb l.goal 64 (low there)) (eq-eqb l.goal l.goal refl)))
        (second_true (A && is_in set l.goal) T three))
        (second_true (A && is_in set l.goal && T) P h)))

    up : some_goal_matches (Some l) o set t p ≡ true → (A && is_in set l.goal && T && P) ≡ true
    up h =
        let f = square_found (λ s. is_in set s && meets_all (Some l) o (Some (squares_where (λ u. s == u))) t p) h in
        let all = second_true (is_in set f.k) (A && one f.k && T && P) f.passes in
        let three = first_true (A && one f.k && T) P all in
        let two = first_true (A && one f.k) T three in
        let same : f.k ≡ l.goal = eqb-true f.k l.goal (second_true (nat_lt l.goal 64) (f.k == l.goal) (second_true A (one f.k) two)) in
        yes_both (A && is_in set l.goal && T) P
        (yes_both (A && is_in set l.goal) T
        (yes_both A (is_in set l.goal) (first_true A (one f.k) two) (subst (λ s. is_in set s ≡ true) same (first_true (is_in set f.k) (A && one f.k && T && P) f.passes)))
        (second_true (A && one f.k) T three))
        (second_true (A && one f.k && T) P all)

free_part : (tree : SearchedTree) (given : List ℕ) (e : Names) (w : WrittenTree) (s n : ℕ) → IsIndependentPart ((given, 0) ∷ []) w → written_value tree [] ((given, s) ∷ e) w n ≡ written_value tree [] e w n
free_part tree given e w s n free = free.each tree ((given, s) ∷ e) e n (wider [] e e given s (agree_same e))

name_part : (tree : SearchedTree) (given : List ℕ) (e : Names) (w : WrittenTree) (s n : ℕ) → IsNamePart given w → written_value tree [] ((given, s) ∷ e) w n ≡ Some (squares_where (λ t. s == t))
unfolding value
name_part tree given e w s n own = ap (λ x. written_value tree [] ((given, s) ∷ e) x n) own.is ∙ ap Some (own.own.each tree e s n)

-- true if the move to a node meets the filter, with a square bound to the name
abbrev pub went : Binding → Played → ℕ → ℕ → Bool
went b p n s = played_value (tree_in b.scope.now) [] ((b.name.now, s) ∷ b.scope.now.names.now) (played_tree p) n

-- at a node that is looked at
moved_is : (b : Binding) (p : Played) (n set : ℕ) (o t q : Option Value) → TestsGoal ((b.name.now, 0) ∷ []) b.name.now p → is_in set ≡ has (shown b.squares.now n)
    → o ≡ written_value (tree_in b.scope.now) [] b.scope.now.names.now (origin_of p) (before (tree_in b.scope.now) n)
    → t ≡ written_value (tree_in b.scope.now) [] b.scope.now.names.now (taken_of p) (before (tree_in b.scope.now) n)
    → q ≡ written_value (tree_in b.scope.now) [] b.scope.now.names.now (promoted_of p) n
    → as_truth (some_goal_matches (led_to (tree_in b.scope.now).game.nodes n) o set t q) ≡ square_of false (shown b.squares.now n) (went b p n)
moved_is b p n set o t q goal same is is_too is_last =
    ap as_truth (same_any (λ s. is_in set s && meets_all led o (Some (squares_where (λ u. s == u))) t q) (λ s. has x s && went b p n s)
    (λ s low. ap₂ (λ y z. y && z) (ap (λ h. h s) same) (sym (asked s)))
    ∙ sym (any_filtered (went b p n) (has x) squares))
  where
    tree : SearchedTree
    tree = tree_in b.scope.now

    given : List ℕ
    given = b.name.now

    e : Names
    e = b.scope.now.names.now

    x : Value
    x = shown b.squares.now n

    led : Option PlainLed
    led = led_to tree.game.nodes n

    asked : (s : ℕ) → went b p n s ≡ meets_all led o (Some (squares_where (λ u. s == u))) t q
    asked s = move_value tree ((given, s) ∷ e) p n
        ∙ ap₂ (λ y z. meets_all led y z (written_value tree [] ((given, s) ∷ e) (taken_of p) (before tree n)) (written_value tree [] ((given, s) ∷ e) (promoted_of p) n))
        (free_part tree given e (origin_of p) s (before tree n) goal.origin ∙ sym is) (name_part tree given e (goal_of p) s n goal.goal)
        ∙ ap₂ (λ y z. meets_all led o (Some (squares_where (λ u. s == u))) y z)
        (free_part tree given e (taken_of p) s (before tree n) goal.taken ∙ sym is_too) (free_part tree given e (promoted_of p) s n goal.promoted ∙ sym is_last)

none_of : (p : ℕ → Bool) (xs : List ℕ) → ((s : ℕ) → p s ≡ false) → list_any p xs ≡ false
none_of p [] away = refl
none_of p (x ∷ xs) away = ap (λ b. b || list_any p xs) (away x) ∙ none_of p xs away

none_asked : (x : Value) (asked : ℕ → Bool) → ((s : ℕ) → asked s ≡ false) → as_truth false ≡ square_of false x asked
none_asked x asked away = ap as_truth (sym (none_of asked (filter (has x) squares) away))

-- at a live node, looked at or not
pub goal_met_is : (b : Binding) (p : Played) (live some : List Bool) (set n : ℕ) (parts : PartColumns) → TestsGoal ((b.name.now, 0) ∷ []) b.name.now p
    → ArePromoting (tree_in b.scope.now) (is_some (out-Played p).promoted) live some → (is_live some n ≡ true → is_in set ≡ has (shown b.squares.now n))
    → ArePartColumns (tree_in b.scope.now) b.scope.now.names.now p some parts → is_live live n ≡ true
    → as_truth (is_live some n && move_to_set_matches (tree_in b.scope.now) parts set n) ≡ square_of false (shown b.squares.now n) (went b p n)
goal_met_is b p live some set n parts goal looked same are l = by_look (is_live some n) refl
  where
    tree : SearchedTree
    tree = tree_in b.scope.now

    wanted : Bool
    wanted = is_some (out-Played p).promoted

    by_look : (there : Bool) → is_live some n ≡ there → as_truth (is_live some n && move_to_set_matches tree parts set n) ≡ square_of false (shown b.squares.now n) (went b p n)
    by_look true in_ = ap (λ y. as_truth (y && move_to_set_matches tree parts set n)) in_
        ∙ moved_is b p n set _ _ _ goal (same in_) (are.origin n in_) (are.taken n in_) (are.promoted n in_)
    by_look false out_ =
        let why = left_out (is_live some n) wanted _ (looked.each n ∙ ap (λ y. y && (not wanted || is_promotion (node_at tree.game.nodes n).led_by)) l) out_ in
        ap (λ y. as_truth (y && move_to_set_matches tree parts set n)) out_
        ∙ none_asked (shown b.squares.now n) (went b p n) (λ s. only_promoted tree ((b.name.now, s) ∷ b.scope.now.names.now) p n why.0 why.1)
