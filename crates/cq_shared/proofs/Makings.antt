-- Plans of several queries while they are made.
use Rattle.std.proofs.Common.{◌≡◌, ℕ, zero, suc, ◌+◌, ◌<◌, ◌≤◌, Bool, true, false, ◌&&◌, ◌||◌, List, [], ◌∷◌, ◌++◌, length, take, map, get_or, refl, sym, ap, ap₂, ◌∙◌, subst, arith, append_assoc, length-append, ⊎_elim}
use Rattle.std.specs.Prelude.{◌==◌}
use Rattle.std.proofs.lemmas.Bool.{ne_eqb, eq-eqb, and_from, and_parts, cases_lt}
use Rattle.std.proofs.lemmas.List.{append-nil, take_more}
use Rattle.cql_plan.specs.Plans.{query_of}
use Rattle.cql_syntax.specs.Flat.{flat_query}
use Rattle.cql_syntax.specs.Leaves.{same_flag}
use Rattle.cql_syntax.specs.Same.{same_filter}
use Rattle.cql_syntax.specs.TreeOf.{filter_tree, query_tree}
use Rattle.cql_syntax.specs.Trees.{FilterTree, FilterTrees, QueryTree}
use Rattle.cql_syntax.specs.declared.tree.Filter.{Filter}
use Rattle.cql_syntax.specs.declared.typed_query.TypedQuery.{TypedQuery}
use Rattle.cq_shared.specs.PartOwners.{owner_query, IsOwner, AreOwners}
use Rattle.cq_shared.specs.Interning.{all_shown, is_owned, with_part, with_parts}
use Rattle.cq_shared.specs.Parts.{PartTree, query_parts, top_parts, top_sorts, parts_with, parts_in, parts_in_all, are_at, different, equal_part, equal_parts, Keeps}
use Rattle.cq_shared.specs.PartTables.{is_among}
use Rattle.cql_syntax.specs.QueryTrees.{trees_of}
use Rattle.cq_shared.specs.Plans.{plan_parts}
use Rattle.cq_shared.specs.declared.part.Part.{Part}
use Rattle.cq_shared.specs.declared.part.PartOwner.{PartOwner}
use Rattle.cql_syntax.proofs.SameSound.{same_law}
use Rattle.cq_shared.proofs.Differing.{all_different}
use Rattle.cq_shared.proofs.Gaining.{shown_length}
use Rattle.cq_shared.proofs.Seeking.{all_kept}

or_false : (b : Bool) → (b || false) ≡ b
or_false true = refl
or_false false = refl

and_false : (b : Bool) → (b && false) ≡ false
and_false true = refl
and_false false = refl

and_true : (b : Bool) → (b && true) ≡ b
and_true true = refl
and_true false = refl

-- the different parts of more queries

pub with_both : (seen ps rs : List PartTree) → with_parts seen (ps ++ rs) ≡ with_parts (with_parts seen ps) rs
unfolding with_parts
with_both seen [] rs = refl
with_both seen (p ∷ ps) rs = with_both (with_part seen p) ps rs

all_in_more : (qs : List QueryTree) (q : QueryTree) → parts_in_all (qs ++ q ∷ []) ≡ parts_in_all qs ++ parts_in q
all_in_more [] q = append-nil (parts_in q)
all_in_more (x ∷ qs) q = ap (λ ps. parts_in x ++ ps) (all_in_more qs q) ∙ sym (append_assoc (parts_in x) (parts_in_all qs) (parts_in q))

pub different_more : (qs : List QueryTree) (q : QueryTree) → different (parts_in_all (qs ++ q ∷ [])) ≡ with_parts (different (parts_in_all qs)) (parts_in q)
different_more qs q =
    sym (all_different (parts_in_all (qs ++ q ∷ []))) ∙ ap (with_parts []) (all_in_more qs q) ∙ with_both [] (parts_in_all qs) (parts_in q)
    ∙ ap (λ ps. with_parts ps (parts_in q)) (all_different (parts_in_all qs))

-- the test of equal parts

flag_same : (a : Bool) → same_flag a a ≡ true
flag_same true = refl
flag_same false = refl

flag_is : (a b : Bool) → same_flag a b ≡ true → a ≡ b
flag_is true b e = sym e
flag_is false true e = cc
flag_is false false e = refl

equal_same : (ps : List PartTree) → equal_parts ps ps ≡ true
unfolding equal_parts
equal_same [] = refl
equal_same (p ∷ ps) =
    and_from (equal_part p p) (equal_parts ps ps)
    (and_from (same_flag p.variations p.variations) (same_filter p.filter p.filter) (flag_same p.variations) ((same_law p.filter p.filter).1 refl)) (equal_same ps)

pub equal_if : (ps rs : List PartTree) → ps ≡ rs → equal_parts ps rs ≡ true
equal_if ps rs e = subst (λ xs. equal_parts ps xs ≡ true) e (equal_same ps)

pub equal_is : (ps rs : List PartTree) → equal_parts ps rs ≡ true → ps ≡ rs
unfolding equal_parts
equal_is [] [] e = refl
equal_is [] (r ∷ rs) e = cc
equal_is (p ∷ ps) [] e = cc
equal_is (p ∷ ps) (r ∷ rs) e =
    let parts = and_parts (equal_part p r) (equal_parts ps rs) e in
    let here = and_parts (same_flag p.variations r.variations) (same_filter p.filter r.filter) parts.0 in
    ap₂ (λ x xs. x ∷ xs) (ap₂ (λ v f. record { variations = v; filter = f }) (flag_is p.variations r.variations here.0) ((same_law p.filter r.filter).0 here.1))
    (equal_is ps rs parts.1)

-- the parts of a query, by its flat items
pub parts_are : (q : QueryTree) (variations : Bool) (items : FilterTrees) (found : List FilterTree) → items ≡ (flat_query q).items → variations ≡ q.variations → found ≡ query_parts items
    → parts_with variations found ≡ parts_in q
parts_are q variations items found is searched all = ap₂ parts_with searched (all ∙ ap query_parts is)

-- queries that are kept while parts are added

asker_kept : (parts later : List Part) (q : ℕ) (a : PartOwner) → Keeps (all_shown parts) (all_shown later) → ((k : ℕ) → is_owned later k q ≡ is_owned parts k q) → IsOwner parts q a
    → IsOwner later q a
asker_kept parts later q a keeps same is = record {
  numbers = all_kept (all_shown parts) (all_shown later) a.numbers.items (parts_in (owner_query a)) keeps is.numbers;
  asked = λ k. same k ∙ is.asked k;
  sorts = is.sorts;
}

read_before : (xs : List PartOwner) (y : PartOwner) (k : ℕ) (x : PartOwner) → k < length xs → x ≡ get_or (xs ++ y ∷ []) k x → x ≡ get_or xs k x
read_before [] y k x low reads = absurd (omega (arith, low))
read_before (z ∷ zs) y zero x low reads = reads
read_before (z ∷ zs) y (suc k) x low reads = read_before zs y k x (omega (arith, low)) reads

read_end : (xs : List PartOwner) (y x : PartOwner) → get_or (xs ++ y ∷ []) (length xs) x ≡ y
read_end [] y x = refl
read_end (z ∷ zs) y x = read_end zs y x

-- which queries have a part once one query is added
pub others_asked : (first second : ℕ → ℕ → Bool) (ks : List ℕ) (n : ℕ) → ((k q : ℕ) → second k q ≡ (first k q || (is_among k ks && (n == q))))
    → (k q : ℕ) → (n ≡ q → ⊥) → second k q ≡ first k q
others_asked first second ks n more k q other =
    more k q ∙ ap (λ b. first k q || (is_among k ks && b)) (ne_eqb n q other) ∙ ap (λ b. first k q || b) (and_false (is_among k ks)) ∙ or_false (first k q)

pub this_asked : (first second : ℕ → ℕ → Bool) (ks : List ℕ) (n : ℕ) → ((k q : ℕ) → second k q ≡ (first k q || (is_among k ks && (n == q))))
    → ((k : ℕ) → first k n ≡ false) → (k : ℕ) → second k n ≡ is_among k ks
this_asked first second ks n more fresh k =
    more k n ∙ ap (λ b. b || (is_among k ks && (n == n))) (fresh k) ∙ ap (λ b. is_among k ks && b) (eq-eqb n n refl) ∙ and_true (is_among k ks)

pub askers_more : (parts later : List Part) (owners : List PartOwner) (a : PartOwner) (n : ℕ) → n ≡ length owners → Keeps (all_shown parts) (all_shown later)
    → ((k q : ℕ) → is_owned later k q ≡ (is_owned parts k q || (is_among k a.numbers.items && (n == q)))) → AreOwners parts owners → IsOwner later n a
    → AreOwners later (owners ++ a ∷ [])
askers_more parts later owners a n last keeps more are is = record {
  each = λ q b low reads. ⊎_elim
      (λ before. asker_kept parts later q b keeps (λ k. others_asked (is_owned parts) (is_owned later) a.numbers.items n more k q (λ e. omega (arith, e, last, before)))
      (are.each q b before (read_before owners a q b before reads)))
      (λ past. let e : q ≡ length owners = omega (arith, past, low, length-append owners (a ∷ [])) in
      let here : b ≡ a = reads ∙ ap (λ j. get_or (owners ++ a ∷ []) j b) e ∙ read_end owners a b in
      subst (λ x. IsOwner later q x) (sym here) (subst (λ m. IsOwner later m a) (last ∙ sym e) is))
      (cases_lt q (length owners));
  others = λ k q past.
      let after : length owners + 1 ≤ q = omega (arith, past, length-append owners (a ∷ [])) in
      others_asked (is_owned parts) (is_owned later) a.numbers.items n more k q (λ e. omega (arith, e, last, after)) ∙ are.others k q (omega (arith, after));
}

pub trees_more : (queries : List TypedQuery) (owners : List PartOwner) (a : PartOwner) (q : ℕ) (query : TypedQuery) → q < length queries → query ≡ get_or queries q query
    → map (λ x. owner_query x) owners ≡ trees_of (take q queries) → owner_query a ≡ query_tree query.query
    → map (λ x. owner_query x) (owners ++ a ∷ []) ≡ trees_of (take (q + 1) queries)
trees_more queries owners a q query low reads had is =
    mapped_more owners ∙ ap₂ (λ qs x. qs ++ x ∷ []) had (is ∙ ap (λ x. query_tree x.query) reads) ∙ sym (trees_snoc (take q queries) (get_or queries q query))
    ∙ sym (ap trees_of (take_more queries q query low))
  where
    mapped_more : (xs : List PartOwner) → map (λ x. owner_query x) (xs ++ a ∷ []) ≡ map (λ x. owner_query x) xs ++ owner_query a ∷ []
    mapped_more [] = refl
    mapped_more (x ∷ xs) = ap (λ ys. owner_query x ∷ ys) (mapped_more xs)

    trees_snoc : (xs : List TypedQuery) (y : TypedQuery) → trees_of (xs ++ y ∷ []) ≡ trees_of xs ++ query_tree y.query ∷ []
    trees_snoc [] y = refl
    trees_snoc (x ∷ xs) y = ap (λ ys. query_tree x.query ∷ ys) (trees_snoc xs y)

-- the filters that were found, in two steps
pub collect_verdicts : (items : FilterTrees) (none first all : List Filter) → none ≡ [] → map filter_tree first ≡ map filter_tree none ++ top_parts items
    → map filter_tree all ≡ map filter_tree first ++ top_sorts items → map filter_tree all ≡ query_parts items
collect_verdicts items none first all is tops sorts = sorts ∙ ap (λ ps. ps ++ top_sorts items) (tops ∙ ap (λ xs. map filter_tree xs ++ top_parts items) is)

pub first_count : (items : FilterTrees) (none first : List Filter) → none ≡ [] → map filter_tree first ≡ map filter_tree none ++ top_parts items → length first ≡ length (top_parts items)
first_count items none first is tops = sym (mapped_length first) ∙ ap length (tops ∙ ap (λ xs. map filter_tree xs ++ top_parts items) is)
  where
    mapped_length : (xs : List Filter) → length (map filter_tree xs) ≡ length xs
    mapped_length [] = refl
    mapped_length (x ∷ xs) = ap suc (mapped_length xs)

-- a plan before its first query, and as it is in the end

pub trees_none : (queries : List TypedQuery) (owners : List PartOwner) → owners ≡ [] → map (λ a. owner_query a) owners ≡ trees_of (take 0 queries)
trees_none queries owners none = ap (λ xs. map (λ a. owner_query a) xs) none

pub parts_none : (parts : List Part) (owners : List PartOwner) → parts ≡ [] → owners ≡ [] → all_shown parts ≡ different (parts_in_all (map (λ a. owner_query a) owners))
unfolding different
parts_none parts owners is none = ap all_shown is ∙ sym (ap (λ xs. different (parts_in_all (map (λ a. owner_query a) xs))) none)

pub askers_none : (parts : List Part) (owners : List PartOwner) → parts ≡ [] → owners ≡ [] → AreOwners parts owners
unfolding is_owned
askers_none parts owners is none = record {
  each = λ q a low reads. absurd (omega (arith, low, ap length none));
  others = λ k q past. ap (λ ps. is_owned ps k q) is;
}

pub plan_trees : (owners : List PartOwner) → trees_of (map (λ a. query_of a.plan) owners) ≡ map (λ a. owner_query a) owners
plan_trees [] = refl
plan_trees (a ∷ rest) = ap (λ qs. owner_query a ∷ qs) (plan_trees rest)

pub parts_count : (parts : List Part) (owners : List PartOwner) → equal_parts (all_shown parts) (different (parts_in_all (map (λ a. owner_query a) owners))) ≡ true
    → length parts ≡ length (plan_parts (map (λ a. query_of a.plan) owners))
parts_count parts owners same =
    sym (shown_length parts) ∙ ap length (equal_is (all_shown parts) (different (parts_in_all (map (λ a. owner_query a) owners))) same)
    ∙ ap (λ qs. length (different (parts_in_all qs))) (sym (plan_trees owners))

pub parts_later : (parts later : List Part) (owners : List PartOwner) (a : PartOwner) (q : QueryTree) → all_shown later ≡ with_parts (all_shown parts) (parts_in q) → owner_query a ≡ q
    → all_shown parts ≡ different (parts_in_all (map (λ x. owner_query x) owners)) → all_shown later ≡ different (parts_in_all (map (λ x. owner_query x) (owners ++ a ∷ [])))
parts_later parts later owners a q more is had =
    more ∙ ap₂ (λ ps x. with_parts ps (parts_in x)) had (sym is) ∙ sym (different_more (map (λ x. owner_query x) owners) (owner_query a))
    ∙ ap (λ qs. different (parts_in_all qs)) (sym (mapped owners))
  where
    mapped : (xs : List PartOwner) → map (λ x. owner_query x) (xs ++ a ∷ []) ≡ map (λ x. owner_query x) xs ++ owner_query a ∷ []
    mapped [] = refl
    mapped (x ∷ xs) = ap (λ ys. owner_query x ∷ ys) (mapped xs)

-- a query that is added, by what was found of it
pub asker_by : (old later : List Part) (a : PartOwner) (q : QueryTree) (n : ℕ) (found : List PartTree) → owner_query a ≡ q → found ≡ parts_in q
    → are_at (all_shown later) a.numbers.items found ≡ true → ((k r : ℕ) → is_owned later k r ≡ (is_owned old k r || (is_among k a.numbers.items && (n == r))))
    → ((k : ℕ) → is_owned old k n ≡ false) → a.sorts ≡ length (top_parts (flat_query q).items) → IsOwner later n a
asker_by old later a q n found is all numbers more fresh sorts = record {
  numbers = ap (are_at (all_shown later) a.numbers.items) (ap parts_in is ∙ sym all) ∙ numbers;
  asked = this_asked (is_owned old) (is_owned later) a.numbers.items n more fresh;
  sorts = sorts ∙ ap (λ x. length (top_parts (flat_query x).items)) (sym is);
}

pub counted_more : (owners later : List PartOwner) (a : PartOwner) (q : ℕ) → later ≡ owners ++ a ∷ [] → length owners ≡ q → length later ≡ q + 1
counted_more owners later a q more had = ap length more ∙ length-append owners (a ∷ []) ∙ ap (λ n. n + 1) had
