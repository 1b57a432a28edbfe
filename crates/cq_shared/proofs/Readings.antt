-- The nodes left to a query, and its rows, are its hits and its keys.
use Rattle.std.proofs.Common.{◌≡◌, ◌≢◌, ℕ, zero, suc, ◌+◌, ◌<◌, ◌≤◌, ◌&&◌, Bool, true, false, List, [], ◌∷◌, ◌++◌, length, map, drop, get_or, All, Some, ℤ, refl, sym, ap, ap₂, ◌∙◌, subst, arith, nat_lt}
use Rattle.std.specs.Prelude.{is_some, cond, ◌==◌, if◌then◌else◌}
use Rattle.std.specs.List.{list_all, filter, range_with_len}
use Rattle.std.proofs.lemmas.Bool.{and_parts, and_from, or_left, or_right, eqb-true, eq-eqb, lt-ltb, both_ways}
use Rattle.std.proofs.lemmas.List.{map-id}
use Rattle.std.proofs.lemmas.List.FromFn.{length-range_with_len, get_or-range_with_len, filter_of_map_range_with_len_more}
use Rattle.cq_position.specs.Games.{Game, numbers, is_searched, searched}
use Rattle.cq_position.specs.Search.{SearchedTree}
use Rattle.cql_columns.specs.Columns.{is_live}
use Rattle.cql_candidates.specs.Classes.{filter_class}
use Rattle.cql_plan.specs.Needs.{query_passes}
use Rattle.cql_plan.specs.RowKeys.{key_in}
use Rattle.cql_syntax.specs.Flat.{flat_query}
use Rattle.cql_syntax.specs.Hits.{hits, keys, all_keys, item_keys, is_hit, tree_of}
use Rattle.cql_syntax.specs.Leaves.{same_flag}
use Rattle.cql_syntax.specs.Trees.{FilterTree, FilterTrees, QueryTree}
use Rattle.cql_syntax.specs.Unplaced.{same_unplaced}
use Rattle.cql_syntax.specs.Meaning.{value}
use Rattle.cql_syntax.specs.Values.{holds}
use Rattle.cql_syntax.proofs.FlatHits.{hits_same, keys_same}
use Rattle.cql_values.specs.Trees.{searched_tree}
use Rattle.cq_shared.specs.PartOwners.{owner_query, AreOwners}
use Rattle.cq_shared.specs.Internal.FirstNodes.{is_start_node}
use Rattle.cq_shared.specs.Interning.{all_shown}
use Rattle.cq_shared.specs.Matching.{holds_at, sort_number, tree_for, HaveKeyColumns}
use Rattle.cq_shared.specs.Parts.{PartTree, parts_with, top_parts, top_sorts, same_part, is_at, are_at}
use Rattle.cq_shared.specs.PartTables.{is_among}
use Rattle.cq_shared.specs.Internal.Reading.{nodes_there, is_found, is_least, row_key, row_keys, AreFound, HaveNumbers, IsFoundBy}
use Rattle.cq_shared.specs.Singles.{part_tree, shown}
use Rattle.cq_shared.specs.Verdicts.{IsKeyed}
use Rattle.cq_shared.specs.declared.nodes.NodeSet.{NodeSet}
use Rattle.cq_shared.specs.declared.nodes.KeyColumn.{KeyColumn}
use Rattle.cq_shared.specs.declared.part.PartOwner.{PartOwner}
use Rattle.cq_shared.specs.declared.part.Part.{Part}
use Rattle.cq_shared.proofs.Gaining.{shown_length, shown_read}
use Rattle.cq_shared.proofs.Keyed.{sort_has, sort_keys, is_sort, all_sorted, all_keys_are, item_keyed, class_same, sorts_alike}
use Rattle.cq_shared.proofs.Meeting.{among_at, all_at, element, asked_read, flag_is, hold_at_hits, same_holds}
use Rattle.cq_shared.proofs.PartsHold.{parts_hold}
use Rattle.cq_shared.proofs.Seeking.{at_read, at_below}
use Rattle.cq_shared.proofs.RowsRead.{row_read, rows_count}
use Rattle.cq_shared.proofs.Unions.{left_here}

-- nodes that are found one by one

pub there_more : (there : List Bool) (k : ℕ) → filter (is_live there) (range_with_len 0 (k + 1)) ≡ filter (is_live there) (range_with_len 0 k) ++ cond (is_live there k) (k ∷ []) []
there_more there k =
    ap (filter (is_live there)) (sym (map-id (range_with_len 0 (k + 1)))) ∙ filter_of_map_range_with_len_more (is_live there) (λ n. n) 0 k k (omega arith)
    ∙ ap (λ ns. filter (is_live there) ns ++ cond (is_live there k) (k ∷ []) []) (map-id (range_with_len 0 k))

-- one test after the other is both
both_at : (hit : ℕ → Bool) (n : ℕ) (rest found : List ℕ) (first : Bool) → filter hit rest ≡ found
    → filter hit (if first then n ∷ rest else rest) ≡ (if first && hit n then n ∷ found else found)
both_at hit n rest found true is = ap (λ r. if hit n then n ∷ r else r) is
both_at hit n rest found false is = is

filter_both : (first hit : ℕ → Bool) (ns : List ℕ) → filter hit (filter first ns) ≡ filter (λ n. first n && hit n) ns
filter_both first hit [] = refl
filter_both first hit (n ∷ ns) = both_at hit n (filter first ns) _ (first n) (filter_both first hit ns)

filter_none : (test : ℕ → Bool) (ns : List ℕ) → ((n : ℕ) → test n ≡ false) → filter test ns ≡ []
filter_none test [] none = refl
filter_none test (n ∷ ns) none = ap (λ b. if b then n ∷ filter test ns else filter test ns) (none n) ∙ filter_none test ns none

filter_same : (test other : ℕ → Bool) (ns : List ℕ) → All (λ n. test n ≡ other n) ns → filter test ns ≡ filter other ns
filter_same test other [] same = refl
filter_same test other (n ∷ ns) same =
    ap₂ (λ b xs. if b then n ∷ xs else xs) (same 0 0 (omega arith)) (filter_same test other ns (λ i d low. same (suc i) d (omega (arith, low))))

filter_passes : (test : ℕ → Bool) (ns : List ℕ) → All (λ n. test n ≡ true) (filter test ns)
filter_passes test [] = λ i d low. absurd (omega (arith, low))
filter_passes test (n ∷ ns) = by (filter test ns) (filter_passes test ns) (test n) refl
  where
    first : (ms : List ℕ) → test n ≡ true → All (λ m. test m ≡ true) ms → All (λ m. test m ≡ true) (n ∷ ms)
    first ms here rest = λ i d low. at i d low
      where
        at : (i d : ℕ) → i < length (n ∷ ms) → test (get_or (n ∷ ms) i d) ≡ true
        at zero d low = here
        at (suc i) d low = rest i d (omega (arith, low))

    by : (ms : List ℕ) → All (λ m. test m ≡ true) ms → (b : Bool) → test n ≡ b → All (λ m. test m ≡ true) (if b then n ∷ ms else ms)
    by ms rest true e = first ms e rest
    by ms rest false e = rest

range_is_below : (n : ℕ) → All (λ i. i < n) (range_with_len 0 n)
range_is_below n = λ i d below.
    let inside : i < n = omega (arith, below, length-range_with_len 0 n) in
    omega (arith, inside, get_or-range_with_len 0 n i d inside)

-- the nodes that are left to a query are its hits
pub hits_found : (q : QueryTree) (game : Game) (there : List Bool) → (hits q game ≢ [] → query_passes q game ≡ true) → ((n : ℕ) → is_live there n ≡ is_found game q n)
    → nodes_there game there ≡ hits q game
unfolding hits searched
hits_found q game there law is = by (query_passes q game) refl
  where
    found : ℕ → Bool
    found = λ n. is_searched q.variations game.nodes n && is_hit (tree_of q game) (flat_query q).items n

    true_and : (a b c : Bool) → a ≡ true → b ≡ true → ((a && (b && c)) ≡ c)
    true_and true true c e f = refl
    true_and true false c e f = cc
    true_and false b c e f = cc

    false_and : (a b c d : Bool) → b ≡ false → ((a && (b && c)) && d) ≡ false
    false_and true true c d e = cc
    false_and true false c d e = refl
    false_and false b c d e = refl

    none : (ns : List ℕ) → (ns ≢ [] → query_passes q game ≡ true) → query_passes q game ≡ false → ns ≡ []
    none [] passes refused = refl
    none (n ∷ ns) passes refused = absurd (both_ways (query_passes q game) refused (passes (λ e. cc)))

    by : (b : Bool) → query_passes q game ≡ b → nodes_there game there ≡ hits q game
    by true passes =
        filter_same (is_live there) found (numbers game.nodes)
        (λ i d low.
        let n = get_or (numbers game.nodes) i d in
        let inside = range_is_below (length game.nodes) i d low in
        is n ∙ ap (λ b. b && is_hit (tree_of q game) (flat_query q).items n)
        (true_and (nat_lt n (length game.nodes)) (query_passes q game) (is_searched q.variations game.nodes n) (lt-ltb n (length game.nodes) inside) passes))
        ∙ sym (filter_both (is_searched q.variations game.nodes) (is_hit (tree_of q game) (flat_query q).items) (numbers game.nodes)) ∙ hits_same q game
    by false refused =
        filter_none (is_live there) (numbers game.nodes)
        (λ n. is n ∙ false_and (nat_lt n (length game.nodes)) (query_passes q game) (is_searched q.variations game.nodes n) (is_hit (tree_of q game) (flat_query q).items n) refused)
        ∙ sym (none (hits q game) law refused)

-- the nodes left to all queries, and the rows of their parts
pub record AreSought (game : Game) (parts : List Part) (owners : List PartOwner) (left : List NodeSet) (rows : List KeyColumn) : Type 0 where
  pub askers_ : AreOwners parts owners
  pub found : AreFound game owners left
  pub rows_ : HaveKeyColumns game left parts rows

-- the nodes left and the rows, of one query
pub found_by : (game : Game) (parts : List Part) (owners : List PartOwner) (left : List NodeSet) (rows : List KeyColumn) (q : ℕ) (a : PartOwner) (x : NodeSet) → AreSought game parts owners left rows
    → q < length owners → a ≡ get_or owners q a → x ≡ get_or left q x → IsFoundBy game parts a x rows
found_by game parts owners left rows q a x are low reads here =
    let is = are.askers_.each q a low reads in
    let found = are.found in
    let had = are.rows_ in
    let inside : q < length left = omega (arith, low, found.count) in
    record {
      numbers = is.numbers;
      sorts = is.sorts;
      left = λ n. sym (left_here left x q n inside here) ∙ found.each q a low reads n;
      count = rows_count game left parts rows had;
      each = λ k p r at there below among class n live.
          (row_read game left parts rows k p r below at there had).each class q n (sym (asked_read parts k q p below at) ∙ is.asked k ∙ among) (left_here left x q n inside here ∙ live);
    }

-- parts in a row, and their second half

both_with : (v : Bool) (fs gs : List FilterTree) → parts_with v (fs ++ gs) ≡ parts_with v fs ++ parts_with v gs
both_with v [] gs = refl
both_with v (f ∷ fs) gs = ap (λ ps. part_tree v f ∷ ps) (both_with v fs gs)

count_with : (v : Bool) (fs : List FilterTree) → length (parts_with v fs) ≡ length fs
count_with v [] = refl
count_with v (f ∷ fs) = ap suc (count_with v fs)

sorted_with : (v : Bool) (fs : List FilterTree) → list_all is_sort fs ≡ true → list_all (λ (r : PartTree). is_sort r.filter) (parts_with v fs) ≡ true
sorted_with v [] all = refl
sorted_with v (f ∷ fs) all =
    let both = and_parts (is_sort f) (list_all is_sort fs) all in
    and_from (is_sort f) (list_all (λ (r : PartTree). is_sort r.filter) (parts_with v fs)) both.0 (sorted_with v fs both.1)

at_drop : (ps : List PartTree) (ks : List ℕ) (rs ss : List PartTree) → are_at ps ks (rs ++ ss) ≡ true → are_at ps (drop (length rs) ks) ss ≡ true
unfolding are_at
at_drop ps ks [] ss all = all
at_drop ps [] (r ∷ rs) ss all = cc
at_drop ps (k ∷ ks) (r ∷ rs) ss all = at_drop ps ks rs ss (and_parts (is_at ps k r) (are_at ps ks (rs ++ ss)) all).1

among_later : (ks : List ℕ) (n k : ℕ) → is_among k (drop n ks) ≡ true → is_among k ks ≡ true
among_later [] zero k e = e
among_later [] (suc n) k e = e
among_later (j ∷ ks) zero k e = e
among_later (j ∷ ks) (suc n) k e = or_right (j == k) (is_among k ks) (among_later ks n k e)

among_read : (ks : List ℕ) (i k : ℕ) → i < length ks → k ≡ get_or ks i k → is_among k ks ≡ true
among_read [] i k low reads = absurd (omega (arith, low))
among_read (j ∷ ks) zero k low reads = or_left (j == k) (is_among k ks) (eq-eqb j k (sym reads))
among_read (j ∷ ks) (suc i) k low reads = or_right (j == k) (is_among k ks) (among_read ks i k (omega (arith, low)) reads)

-- a number that is read is among those from one on
pub among_from : (ks : List ℕ) (from i k : ℕ) → from ≤ i → i < length ks → k ≡ get_or ks i k → is_among k (drop from ks) ≡ true
among_from [] from i k high low reads = absurd (omega (arith, low))
among_from (j ∷ ks) zero i k high low reads = among_read (j ∷ ks) i k low reads
among_from (j ∷ ks) (suc from) zero k high low reads = absurd (omega (arith, high))
among_from (j ∷ ks) (suc from) (suc i) k high low reads = among_from ks from i k (omega (arith, high)) (omega (arith, low)) reads

second_all : (h : FilterTree → Bool) (xs ys : List FilterTree) → list_all h (xs ++ ys) ≡ true → list_all h ys ≡ true
second_all h [] ys all = all
second_all h (x ∷ xs) ys all = second_all h xs ys (and_parts (h x) (list_all h (xs ++ ys)) all).1

pub key_at : (parts : List Part) (rows : List KeyColumn) (nodes : List ℕ) (k : ℕ) (p : Part) (r : KeyColumn) → k < length parts → k < length rows → p ≡ get_or parts k p → r ≡ get_or rows k r
    → row_key parts rows nodes k ≡ key_in (is_least (shown p.single).filter) r.numbers.items nodes
unfolding row_key
key_at [] rows nodes k p r low below reads here = absurd (omega (arith, low))
key_at (y ∷ ps) [] nodes k p r low below reads here = absurd (omega (arith, below))
key_at (y ∷ ps) (s ∷ rs) nodes zero p r low below reads here =
    ap₂ (λ (x : Part) (t : KeyColumn). key_in (is_least (shown x.single).filter) t.numbers.items nodes) (sym reads) (sym here)
key_at (y ∷ ps) (s ∷ rs) nodes (suc k) p r low below reads here = key_at ps rs nodes k p r (omega (arith, low)) (omega (arith, below)) reads here

record RowAt (rows : List KeyColumn) (k : ℕ) : Type 0 where
  row : KeyColumn
  reads : row ≡ get_or rows k row

row_at : (rows : List KeyColumn) (k : ℕ) → k < length rows → RowAt rows k
row_at [] k low = absurd (omega (arith, low))
row_at (x ∷ xs) zero low = record { row = x; reads = refl }
row_at (x ∷ xs) (suc k) low = let e = row_at xs k (omega (arith, low)) in record { row = e.row; reads = e.reads }

module _ (game : Game) (parts : List Part) (a : PartOwner) (x : NodeSet) (rows : List KeyColumn) (is : IsFoundBy game parts a x rows) where
  abbrev query : QueryTree
  query = owner_query a

  abbrev items : FilterTrees
  items = (flat_query query).items

  abbrev tree : SearchedTree
  tree = searched_tree game query.variations

  abbrev nodes : List ℕ
  nodes = nodes_there game x.there.items

  abbrev ks : List ℕ
  ks = drop a.sorts a.numbers.items

  live : All (λ n. is_live x.there.items n ≡ true) nodes
  live = filter_passes (is_live x.there.items) (numbers game.nodes)

  sorts_at : are_at (all_shown parts) ks (parts_with query.variations (top_sorts items)) ≡ true
  sorts_at =
      subst (λ i. are_at (all_shown parts) (drop i a.numbers.items) (parts_with query.variations (top_sorts items)) ≡ true)
      (count_with query.variations (top_parts items) ∙ sym is.sorts)
      (at_drop (all_shown parts) a.numbers.items (parts_with query.variations (top_parts items)) (parts_with query.variations (top_sorts items))
      (ap (are_at (all_shown parts) a.numbers.items) (sym (both_with query.variations (top_parts items) (top_sorts items))) ∙ is.numbers))

  -- the part of a number is the same as one of the query's
  record SameAt (k : ℕ) (r : PartTree) : Type 0 where
    part : Part
    low : k < length parts
    reads : part ≡ get_or parts k part
    same : same_part (shown part.single) r ≡ true

  same_at : (k : ℕ) (r : PartTree) → is_at (all_shown parts) k r ≡ true → SameAt k r
  same_at k r here =
      let low : k < length parts = (let l = at_below (all_shown parts) k r here in omega (arith, l, shown_length parts)) in
      let e = element parts k low in
      record {
        part = e.part;
        low = low;
        reads = e.reads;
        same = sym (at_read (all_shown parts) k (shown e.part.single) r (omega (arith, low, shown_length parts)) (shown_read parts k e.part e.reads low)) ∙ here;
      }

  alike : (p r : PartTree) → same_part p r ≡ true → (p.variations ≡ r.variations) × (same_unplaced p.filter r.filter ≡ true)
  alike p r same = let both = and_parts (same_flag p.variations r.variations) (same_unplaced p.filter r.filter) same in (flag_is p.variations r.variations both.0, both.1)

  sorts_hold : (n : ℕ) → is_live x.there.items n ≡ true → list_all (λ r. holds_at game r n) (parts_with query.variations (top_sorts items)) ≡ true
  sorts_hold n there =
      hold_at_hits game query.variations (top_sorts items) n
      ∙ second_all (λ f. holds (value tree [] [] f n)) (top_parts items) (top_sorts items)
      (sym (parts_hold tree items n) ∙ (and_parts (is_start_node game query n) (is_hit (tree_of query game) items n) (sym (is.left n) ∙ there)).1)

  pub have_numbers : HaveNumbers parts rows nodes ks
  unfolding holds_at
  have_numbers = λ k among.
      let found = among_at (all_shown parts) ks (parts_with query.variations (top_sorts items)) k sorts_at among in
      let s = same_at k found.part found.here in
      let p = s.part in
      let sorts : filter_class found.part.filter ≡ 5 =
      eqb-true (filter_class found.part.filter) 5
      (all_at (λ (r : PartTree). is_sort r.filter) (parts_with query.variations (top_sorts items)) found.number found.part
      (sorted_with query.variations (top_sorts items) (all_sorted items)) found.low found.reads) in
      let class : filter_class (shown p.single).filter ≡ 5 = class_same (shown p.single).filter found.part.filter (alike (shown p.single) found.part s.same).1 ∙ sorts in
      record {
        part = s.low;
        row = omega (arith, s.low, is.count);
        some = λ r here i d below.
            let n = get_or nodes i d in
            let there = live i d below in
            ap is_some (is.each k p r s.reads here s.low (among_later a.numbers.items a.sorts k among) (p.class_is ∙ class) n there)
            ∙ sym (sort_has (tree_for game p) (shown p.single).filter n class) ∙ same_holds game (shown p.single) found.part n s.same
            ∙ all_at (λ r. holds_at game r n) (parts_with query.variations (top_sorts items)) found.number found.part (sorts_hold n there) found.low found.reads;
      }

  one_keyed : (k : ℕ) (f : FilterTree) → is_at (all_shown parts) k (part_tree query.variations f) ≡ true → is_sort f ≡ true → is_among k a.numbers.items ≡ true
      → row_key parts rows nodes k ∷ [] ≡ item_keys tree nodes f
  one_keyed k f at sort among =
      let s = same_at k (part_tree query.variations f) at in
      let p = s.part in
      let g = (shown p.single).filter in
      let below : k < length rows = omega (arith, s.low, is.count) in
      let r = row_at rows k below in
      let both = alike (shown p.single) (part_tree query.variations f) s.same in
      let sorts : filter_class f ≡ 5 = eqb-true (filter_class f) 5 sort in
      let class : filter_class g ≡ 5 = class_same g f both.1 ∙ sorts in
      let like = sorts_alike tree g f class sorts both.1 in
      ap (λ o. o ∷ []) (key_at parts rows nodes k p r.row s.low below s.reads r.reads ∙ ap (λ b. key_in b r.row.numbers.items nodes) like.least)
      ∙ item_keyed tree nodes r.row.numbers.items f sorts
      (λ i d low.
      let n = get_or nodes i d in
      is.each k p r.row s.reads r.reads s.low among (p.class_is ∙ class) n (live i d low) ∙ ap (λ v. sort_number (searched_tree game v) g n) both.0 ∙ like.number n)

  rows_keyed : (js : List ℕ) (fs : List FilterTree) → are_at (all_shown parts) js (parts_with query.variations fs) ≡ true → list_all is_sort fs ≡ true
      → ((k : ℕ) → is_among k js ≡ true → is_among k a.numbers.items ≡ true) → row_keys parts rows nodes js ≡ sort_keys tree nodes fs
  unfolding are_at
  rows_keyed [] [] all sorts among = refl
  rows_keyed [] (f ∷ fs) all sorts among = cc
  rows_keyed (j ∷ js) [] all sorts among = cc
  rows_keyed (j ∷ js) (f ∷ fs) all sorts among =
      let r = part_tree query.variations f in
      let here = and_parts (is_at (all_shown parts) j r) (are_at (all_shown parts) js (parts_with query.variations fs)) all in
      let sort = and_parts (is_sort f) (list_all is_sort fs) sorts in
      ap₂ (λ a b. a ++ b) (one_keyed j f here.0 sort.0 (among j (or_left (j == j) (is_among j js) (eq-eqb j j refl))))
      (rows_keyed js fs here.1 sort.1 (λ k later. among k (or_right (j == k) (is_among k js) later)))

  pub keys_are : row_keys parts rows nodes ks ≡ all_keys (tree_of query game) nodes items
  keys_are = rows_keyed ks (top_sorts items) sorts_at (all_sorted items) (among_later a.numbers.items a.sorts) ∙ sym (all_keys_are tree nodes items)

  pub query_keyed : (hits query game ≢ [] → query_passes query game ≡ true) → (ns : List ℕ) (key : List ℤ) → ns ≡ nodes → (ns ≢ [] → map Some key ≡ row_keys parts rows ns ks)
      → (ns ≡ [] → key ≡ []) → IsKeyed game query ns key
  unfolding keys
  query_keyed law ns key same had none = record {
    keys = λ some. had some ∙ ap (λ ms. row_keys parts rows ms ks) same ∙ keys_are
        ∙ ap (λ ms. all_keys (tree_of query game) ms items) (hits_found query game x.there.items law is.left ∙ sym (hits_same query game)) ∙ keys_same query game;
    none = none;
  }
