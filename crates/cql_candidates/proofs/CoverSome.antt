-- Squares of sets that are added if one of several filters may hold.
use Rattle.std.proofs.Common.{◌≡◌, ⊎_elim, ℕ, zero, suc, ◌+◌, ◌<◌, ◌≤◌, ◌||◌, Bool, true, false, List, [], ◌∷◌, length, get_or, refl, sym, ap, ◌∙◌, subst, arith}
use Rattle.std.specs.Prelude.{slice_set, bit_or}
use Rattle.std.specs.List.{list_any}
use Rattle.std.proofs.lemmas.List.{get_or-set_same, get_or-set_other, length-set}
use Rattle.cq_position.specs.Search.{SearchedTree}
use Rattle.cq_symmetry.specs.Images.{is_in}
use Rattle.cql_syntax.specs.Meaning.{Names, value, values}
use Rattle.cql_syntax.specs.TreeOf.{filter_tree, filter_trees}
use Rattle.cql_syntax.specs.Trees.{FilterTrees}
use Rattle.cql_syntax.specs.Values.{holds, some_holds, chain_of}
use Rattle.cql_syntax.specs.declared.leaves.Chain.{Chain}
use Rattle.cql_syntax.specs.declared.leaves.Chain.TheVariants.{Or}
use Rattle.cql_syntax.specs.declared.tree.Filter.{Filter}
use Rattle.cql_columns.specs.Columns.{is_live}
use Rattle.cql_columns.proofs.Filling.{split_last, live_below, any_default, equal_or, or_left, or_right}
use Rattle.cql_columns.proofs.Wanting.{in_either}
use Rattle.cql_candidates.specs.Covers.{AreAdded, AreRetained, AreJoined, MayHold}
use Rattle.cql_candidates.proofs.CoverForms.{KeepsHolding, Tried, form_cut}
use Rattle.cql_candidates.proofs.Placing.{Placed}

-- at the first k nodes
pub record JoinedTo (more old : List ℕ) (k : ℕ) (new : List ℕ) : Type 0 where
  pub count : length new ≡ length old
  pub grows : (n s : ℕ) → is_in (get_or old n 0) s ≡ true → is_in (get_or new n 0) s ≡ true
  pub adds : (n s : ℕ) → n < k → is_in (get_or more n 0) s ≡ true → is_in (get_or new n 0) s ≡ true

pub joined_none : (more old : List ℕ) → JoinedTo more old 0 old
joined_none more old = record { count = refl; grows = λ n s h. h; adds = λ n s h. absurd (omega (arith, h)) }

pub joined_more : (more old now later : List ℕ) (k d x : ℕ) → k < length now → later ≡ slice_set now k x → x ≡ bit_or (get_or now k d) (get_or more k 0) → JoinedTo more old k now → JoinedTo more old (k + 1) later
joined_more more old now later k d x low is new had = record {
  count = ap length is ∙ length-set now k x ∙ had.count;
  grows = λ n s h. kept n s (had.grows n s h);
  adds = λ n s h i. ⊎_elim
      (λ less. kept n s (had.adds n s less i))
      (λ same. subst (λ y. is_in y s ≡ true) (sym (at n same)) (in_new s (or_right (is_in (get_or now k d) s) (is_in (get_or more k 0) s) (subst (λ j. is_in (get_or more j 0) s ≡ true) same i))))
      (split_last n k h);
}
  where
    other : (n : ℕ) → (n ≡ k → ⊥) → get_or later n 0 ≡ get_or now n 0
    other n away = ap (λ l. get_or l n 0) is ∙ get_or-set_other now k n x 0 away

    at : (n : ℕ) → n ≡ k → get_or later n 0 ≡ x
    at n same = ap (λ l. get_or l n 0) is ∙ ap (λ i. get_or (slice_set now k x) i 0) same ∙ get_or-set_same now k x 0 low

    in_new : (s : ℕ) → (is_in (get_or now k d) s || is_in (get_or more k 0) s) ≡ true → is_in x s ≡ true
    in_new s h = ap (λ y. is_in y s) new ∙ in_either (get_or now k d) (get_or more k 0) s ∙ h

    kept : (n s : ℕ) → is_in (get_or now n 0) s ≡ true → is_in (get_or later n 0) s ≡ true
    kept n s h = ⊎_elim
        (λ same. subst (λ y. is_in y s ≡ true) (sym (at n same)) (in_new s (or_left (is_in (get_or now k d) s) (is_in (get_or more k 0) s)
        (subst (λ y. is_in y s ≡ true) (ap (λ j. get_or now j 0) same ∙ any_default now k 0 d low) h))))
        (λ away. subst (λ y. is_in y s ≡ true) (sym (other n away)) h)
        (equal_or n k)

pub joined_all : (more old new : List ℕ) (k : ℕ) → length old ≤ k → JoinedTo more old k new → AreJoined more old new
joined_all more old new k end had = record { count = had.count; grows = had.grows; adds = λ n s low h. had.adds n s (omega (arith, low, end)) h }

-- those that a cut leaves are added
pub added_by : (live : List Bool) (P : ℕ → ℕ → Type 0) (sets copy left old new : List ℕ) → copy ≡ sets → length old ≡ length live → AreRetained live P copy left → AreJoined left old new → AreAdded live P sets old new
added_by live P sets copy left old new same long cut joined = record {
  count = joined.count;
  grows = joined.grows;
  adds = λ n s a p h. joined.adds n s (let low = live_below live n a in omega (arith, low, long)) (cut.keeps n s a p (subst (λ l. is_in (get_or l n 0) s ≡ true) (sym same) h));
}

-- of the first k filters each has its squares added
pub record AddedFor (t : Tried) (xs : List Filter) (k : ℕ) (sets old new : List ℕ) : Type 0 where
  pub count : length new ≡ length old
  pub grows : (n s : ℕ) → is_in (get_or old n 0) s ≡ true → is_in (get_or new n 0) s ≡ true
  pub adds : (i : ℕ) (f : Filter) (n s : ℕ) → i < k → f ≡ get_or xs i f → is_live t.live n ≡ true → MayHold t.opened t.outer t.name (λ e. value t.tree [] e (filter_tree f)) n s
      → is_in (get_or sets n 0) s ≡ true → is_in (get_or new n 0) s ≡ true

pub added_none : (t : Tried) (xs : List Filter) (sets old : List ℕ) → AddedFor t xs 0 sets old old
added_none t xs sets old = record { count = refl; grows = λ n s h. h; adds = λ i f n s low. absurd (omega (arith, low)) }

pub added_more : (t : Tried) (x : Placed) (sets old now later : List ℕ) → AddedFor t x.items x.place sets old now
    → AreAdded t.live (MayHold t.opened t.outer t.name (λ e. value t.tree [] e (filter_tree x.filter))) sets now later → AddedFor t x.items (x.place + 1) sets old later
added_more t x sets old now later had added = record {
  count = added.count ∙ had.count;
  grows = λ n s h. added.grows n s (had.grows n s h);
  adds = λ i f n s less at a p h. ⊎_elim
      (λ before. added.grows n s (had.adds i f n s before at a p h))
      (λ same. added.adds n s a
      (subst (λ g. MayHold t.opened t.outer t.name (λ e. value t.tree [] e (filter_tree g)) n s)
      (at ∙ ap (λ j. get_or x.items j f) same ∙ filter_default x.items x.place f x.filter x.low ∙ sym x.is) p) h)
      (split_last i x.place less);
}
  where
    filter_default : (ys : List Filter) (j : ℕ) (f g : Filter) → j < length ys → get_or ys j f ≡ get_or ys j g
    filter_default [] j f g h = absurd (omega (arith, h))
    filter_default (y ∷ ys) zero f g h = refl
    filter_default (y ∷ ys) (suc j) f g h = filter_default ys j f g (omega (arith, h))

-- if the disjunction holds, one of its filters does
record HoldsIn (tree : SearchedTree) (e : Names) (n : ℕ) (xs : List Filter) : Type 0 where
  i : ℕ
  f : Filter
  low : i < length xs
  is : f ≡ get_or xs i f
  holds_there : holds (value tree [] e (filter_tree f) n) ≡ true

later_one : (tree : SearchedTree) (e : Names) (n : ℕ) (x : Filter) (xs : List Filter) → HoldsIn tree e n xs → HoldsIn tree e n (x ∷ xs)
later_one tree e n x xs h = record { i = suc h.i; f = h.f; low = omega (arith, h.low); is = h.is; holds_there = h.holds_there }

one_or_later : (tree : SearchedTree) (e : Names) (n : ℕ) (x : Filter) (xs : List Filter) (b rest : Bool) → holds (value tree [] e (filter_tree x) n) ≡ b → (rest ≡ true → HoldsIn tree e n xs) → (b || rest) ≡ true
    → HoldsIn tree e n (x ∷ xs)
one_or_later tree e n x xs true rest is later h = record { i = 0; f = x; low = omega arith; is = refl; holds_there = is }
one_or_later tree e n x xs false rest is later h = later_one tree e n x xs (later h)

holds_in : (tree : SearchedTree) (e : Names) (n : ℕ) (xs : List Filter) → list_any holds (values tree [] e (filter_trees xs) n) ≡ true → HoldsIn tree e n xs
unfolding value
holds_in tree e n [] h = cc
holds_in tree e n (x ∷ xs) h = one_or_later tree e n x xs (holds (value tree [] e (filter_tree x) n)) (list_any holds (values tree [] e (filter_trees xs) n)) refl (holds_in tree e n xs) h

pub added_all : (t : Tried) (xs : List Filter) (k : ℕ) (fs : FilterTrees) (sets old new : List ℕ) → length xs ≤ k → filter_trees xs ≡ fs → AddedFor t xs k sets old new
    → AreAdded t.live (MayHold t.opened t.outer t.name (λ e n. some_holds (values t.tree [] e fs n))) sets old new
added_all t xs k fs sets old new end same had = record {
  count = had.count;
  grows = had.grows;
  adds = λ n s a p h.
      let one = holds_in t.tree p.inner n xs (ap (λ gs. list_any holds (values t.tree [] p.inner gs n)) same ∙ p.holds_there) in
      had.adds one.i one.f n s (omega (arith, one.low, end)) one.is a (record { inner = p.inner; agree = p.agree; binds = p.binds; holds_there = one.holds_there }) h;
}

-- the squares of the sets that are among those
pub some_cut : (live : List Bool) (P : ℕ → ℕ → Type 0) (start kept old new : List ℕ) → AreAdded live P old start kept → AreRetained live (λ n s. is_in (get_or kept n 0) s ≡ true) old new → AreRetained live P old new
some_cut live P start kept old new added cut = record { count = cut.count; within = cut.within; keeps = λ n s a p h. cut.keeps n s a (added.adds n s a p h) h }

pub or_cut : (t : Tried) (k : Chain) (fs : FilterTrees) (old new : List ℕ) → k ≡ Or
    → KeepsHolding t (λ e n. some_holds (values t.tree [] e fs n)) old new → KeepsHolding t (λ e n. chain_of k (values t.tree [] e fs n)) old new
or_cut t k fs old new same =
    form_cut t (λ e n. chain_of k (values t.tree [] e fs n)) (λ e n. some_holds (values t.tree [] e fs n)) old new (λ e n. ap (λ c. chain_of c (values t.tree [] e fs n)) same)
