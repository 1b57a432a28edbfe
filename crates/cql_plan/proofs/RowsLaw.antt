-- The hits and the keys of a query, from its column.
use Rattle.std.proofs.Common.{◌≡◌, ℕ, zero, suc, ◌+◌, ◌<◌, Bool, true, false, ◌&&◌, List, [], ◌∷◌, ◌++◌, length, map, drop, get_or, All, Option, Some, None, ℤ, refl, sym, ap, ap₂, ◌∙◌, subst, arith}
use Rattle.std.specs.Prelude.{fold, is_some}
use Rattle.std.proofs.lemmas.List.FromFn.{get_or-map-range_with_len}
use Rattle.cq_position.specs.Games.{is_searched, searched}
use Rattle.cq_position.specs.Search.{SearchedTree}
use Rattle.cql_eval.specs.Hits.{hit_column, number_at, sort_numbers, item_numbers, AreKeysAtHits}
use Rattle.cql_syntax.specs.Hits.{is_hit, hits_in, key_of, item_keys, chosen}
use Rattle.cql_syntax.specs.Meaning.{value}
use Rattle.cql_syntax.specs.Trees.{FilterTree, filter_at, sort, FilterTrees}
use Rattle.cql_syntax.specs.Values.{Value, as_number, amount, of_both, holds, chosen_from}
use Rattle.cql_plan.specs.RowKeys.{key_in}
use Rattle.cql_plan.specs.Internal.KeyRows.{IsRowOf, AreRowsFrom}
use Rattle.cql_plan.proofs.ItemsLeft.{hits_are_inside}
use Rattle.cql_plan.proofs.Needed.{hits_hit, hit_searched}

-- true if a node is a hit
pub column_hit : (tree : SearchedTree) (items : FilterTrees) (hits : List Bool) (k : ℕ) → hits ≡ hit_column tree items → k < length tree.game.nodes
    → get_or hits k false ≡ (is_searched tree.variations tree.game.nodes k && is_hit tree items k)
column_hit tree items hits k is low =
    ap (λ l. get_or l k false) is
    ∙ get_or-map-range_with_len (λ n. is_searched tree.variations tree.game.nodes n && is_hit tree items n) 0 (length tree.game.nodes) k k false low (omega arith)

-- rows one by one

abbrev tail_of : {A : Type 0} → List A → List A
tail_of [] = []
tail_of (x ∷ xs) = xs

record DropsTo {A : Type 0} (d : A) (all : List A) (k : ℕ) (x : A) (xs : List A) : Type 0 where
  low : k < length all
  here : get_or all k d ≡ x
  rest : drop (k + 1) all ≡ xs

drop_at : {A : Type 0} (d : A) (all : List A) (k : ℕ) (x : A) (xs : List A) → drop k all ≡ x ∷ xs → DropsTo d all k x xs
drop_at d [] zero x xs e = cc
drop_at d [] (suc k) x xs e = cc
drop_at d (y ∷ all) zero x xs e = record { low = omega arith; here = ap (λ l. get_or l 0 d) e; rest = ap tail_of e }
drop_at d (y ∷ all) (suc k) x xs e =
    let m = drop_at d all k x xs e in
    let next : suc k + 1 ≡ suc (k + 1) = omega arith in
    record { low = omega (arith, m.low); here = m.here; rest = ap (λ i. drop i (y ∷ all)) next ∙ m.rest }

rows_from : (tree : SearchedTree) (nodes : List ℕ) (all rows : List (List (Option ℤ))) (k : ℕ) (fs : List FilterTree) → drop k all ≡ rows → map length rows ≡ map (λ f. length tree.game.nodes) fs
    → All (λ n. map (λ row. get_or row n None) rows ≡ map (number_at tree n) fs) nodes → AreRowsFrom tree nodes all k fs
rows_from tree nodes all [] k [] d len each = tt
rows_from tree nodes all [] k (f ∷ fs) d len each = cc
rows_from tree nodes all (r ∷ rows) k [] d len each = cc
rows_from tree nodes all (r ∷ rows) k (f ∷ fs) d len each =
    let m = drop_at [] all k r rows d in (
      m.low,
      record {
        count = ap length m.here ∙ ap (λ l. get_or l 0 0) len;
        entries = λ i e below. ap (λ row. get_or row (get_or nodes i e) None) m.here ∙ ap (λ l. get_or l 0 None) (each i e below);
      },
      rows_from tree nodes all rows (k + 1) fs m.rest (ap tail_of len) (λ i e below. ap tail_of (each i e below)),
    )

pub rows_there : (tree : SearchedTree) (items : FilterTrees) (hits : List Bool) (rows : List (List (Option ℤ))) (nodes : List ℕ) → AreKeysAtHits tree items hits rows
    → All (λ n. get_or hits n false ≡ true) nodes → AreRowsFrom tree nodes rows 0 (sort_numbers items)
rows_there tree items hits rows nodes are hit = rows_from tree nodes rows rows 0 (sort_numbers items) refl are.rows (λ i e below. are.numbers (get_or nodes i e) (hit i e below))

pub record Split (tree : SearchedTree) (nodes : List ℕ) (rows : List (List (Option ℤ))) (k : ℕ) (xs ys : List FilterTree) : Type 0 where
  pub first : AreRowsFrom tree nodes rows k xs
  pub rest : AreRowsFrom tree nodes rows (k + length xs) ys

pub rows_split : (tree : SearchedTree) (nodes : List ℕ) (rows : List (List (Option ℤ))) (k : ℕ) (xs ys : List FilterTree) → AreRowsFrom tree nodes rows k (xs ++ ys)
    → Split tree nodes rows k xs ys
rows_split tree nodes rows k [] ys h = record { first = tt; rest = (let e : k ≡ k + 0 = omega arith in subst (λ j. AreRowsFrom tree nodes rows j ys) e h) }
rows_split tree nodes rows k (x ∷ xs) ys h =
    let m = rows_split tree nodes rows (k + 1) xs ys h.2 in
    let e : k + 1 + length xs ≡ k + length (x ∷ xs) = omega arith in
    record { first = (h.0, h.1, m.first); rest = subst (λ j. AreRowsFrom tree nodes rows j ys) e m.rest }

-- a key depends on the numbers alone

module _ (choose : ℤ → ℤ → ℤ) (f g : ℕ → Value) where
  fold_same : (a b : Option ℤ) (ns : List ℕ) → a ≡ b → All (λ n. amount (f n) ≡ amount (g n)) ns
      → fold (λ c w. of_both (λ x y. Some (choose x y)) c (amount w)) a (map f ns) ≡ fold (λ c w. of_both (λ x y. Some (choose x y)) c (amount w)) b (map g ns)
  fold_same a b [] e all = e
  fold_same a b (n ∷ ns) e all =
      fold_same (of_both (λ x y. Some (choose x y)) a (amount (f n))) (of_both (λ x y. Some (choose x y)) b (amount (g n))) ns
      (ap₂ (of_both (λ x y. Some (choose x y))) e (all 0 0 (omega arith))) (λ i d below. all (suc i) d (omega (arith, below)))

  chosen_same : (ns : List ℕ) → All (λ n. amount (f n) ≡ amount (g n)) ns → chosen_from choose (map f ns) ≡ chosen_from choose (map g ns)
  chosen_same [] all = refl
  chosen_same (n ∷ ns) all = fold_same (amount (f n)) (amount (g n)) ns (all 0 0 (omega arith)) (λ i d below. all (suc i) d (omega (arith, below)))

pub row_key : (tree : SearchedTree) (nodes : List ℕ) (row : List (Option ℤ)) (f : FilterTree) (least : Bool) → IsRowOf tree nodes row f
    → key_in least row nodes ≡ key_of least (map (value tree [] [] f) nodes)
row_key tree nodes row f least is = chosen_same (chosen least) (λ n. as_number (get_or row n None)) (value tree [] [] f) nodes is.entries

-- an item that sorts by a part, by its least value or its greatest
pub record IsSort (item part : FilterTree) (least : Bool) : Type 0 where
  pub at : ℕ
  pub text : List ℕ
  pub is : item ≡ filter_at at (sort least text part)

pub sorts_by : (item part : FilterTree) (at : ℕ) (least : Bool) (text : List ℕ) → item ≡ filter_at at (sort least text part) → IsSort item part least
sorts_by item part at least text is = record { at = at; text = text; is = is }

pub key_added : (tree : SearchedTree) (nodes : List ℕ) (rows : List (List (Option ℤ))) (old : List ℤ) (key : ℤ) (item part : FilterTree) (least : Bool) → IsSort item part least
    → AreRowsFrom tree nodes rows (length old) (item_numbers item) → Some key ≡ key_in least (get_or rows (length old) []) nodes
    → map Some (old ++ key ∷ []) ≡ map Some old ++ item_keys tree nodes item
key_added tree nodes rows old key item part least sorts are found =
    let row = subst (λ g. AreRowsFrom tree nodes rows (length old) (item_numbers g)) sorts.is are in
    map_snoc old key ∙ ap (λ o. map Some old ++ o ∷ []) (found ∙ row_key tree nodes (get_or rows (length old) []) part least row.1)
    ∙ ap (λ g. map Some old ++ item_keys tree nodes g) (sym sorts.is)
  where
    map_snoc : (xs : List ℤ) (x : ℤ) → map Some (xs ++ x ∷ []) ≡ map Some xs ++ Some x ∷ []
    map_snoc [] x = refl
    map_snoc (y ∷ xs) x = ap (λ l. Some y ∷ l) (map_snoc xs x)

-- every hit is found as one
pub hits_told : (tree : SearchedTree) (items : FilterTrees) (hits : List Bool) (nodes : List ℕ) → hits ≡ hit_column tree items → nodes ≡ hits_in tree items
    → All (λ n. get_or hits n false ≡ true) nodes
unfolding searched
hits_told tree items hits nodes is are = subst (All (λ n. get_or hits n false ≡ true)) (sym are) (λ i d below.
    let n = get_or (hits_in tree items) i d in
    let low : n < length tree.game.nodes = hits_are_inside tree items i d below in
    column_hit tree items hits n is low ∙ ap₂ (λ a b. a && b) (hit_searched tree items i d below) (hits_hit tree items i d below))

-- the row of a sort item
pub sort_row : (tree : SearchedTree) (nodes : List ℕ) (rows : List (List (Option ℤ))) (k : ℕ) (item part : FilterTree) (least : Bool) → IsSort item part least
    → AreRowsFrom tree nodes rows k (item_numbers item) → (k < length rows) × IsRowOf tree nodes (get_or rows k []) part
sort_row tree nodes rows k item part least sorts are = let row = subst (λ g. AreRowsFrom tree nodes rows k (item_numbers g)) sorts.is are in (row.0, row.1)

pub row_given : (tree : SearchedTree) (nodes : List ℕ) (rows : List (List (Option ℤ))) (k : ℕ) (item part : FilterTree) (least : Bool) (row : List (Option ℤ)) → IsSort item part least
    → AreRowsFrom tree nodes rows k (item_numbers item) → row ≡ get_or rows k [] → IsRowOf tree nodes row part
row_given tree nodes rows k item part least row sorts are given = subst (λ r. IsRowOf tree nodes r part) (sym given) (sort_row tree nodes rows k item part least sorts are).1

pub entries_there : (tree : SearchedTree) (nodes : List ℕ) (row : List (Option ℤ)) (item part : FilterTree) (least : Bool) → IsSort item part least → IsRowOf tree nodes row part
    → All (λ n. holds (value tree [] [] item n) ≡ true) nodes → All (λ n. is_some (get_or row n None) ≡ true) nodes
unfolding value
entries_there tree nodes row item part least sorts row_is hold = λ i d below.
    let n = get_or nodes i d in
    ap is_some (row_is.entries i d below) ∙ ap (λ g. holds (value tree [] [] g n)) (sym sorts.is) ∙ hold i d below
