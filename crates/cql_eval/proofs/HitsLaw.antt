-- The hits and keys of the items of a query one by one.
use Rattle.std.proofs.Common.{◌≡◌, ℕ, zero, suc, ◌+◌, ◌-◌, ◌<◌, ◌≤◌, ◌&&◌, Bool, true, false, List, [], ◌∷◌, ◌++◌, length, map, take, get_or, refl, sym, ap, ap₂, ◌∙◌, subst, arith, append_assoc, ℤ}
use Rattle.std.specs.Prelude.{if◌then◌else◌, Option, None, is_some}
use Rattle.std.proofs.Math.Path.{fun_ext}
use Rattle.std.specs.List.{list_all, range_with_len}
use Rattle.std.proofs.lemmas.List.{same_lists}
use Rattle.std.proofs.lemmas.List.FromFn.{get_or-map-range_with_len, length-map-range_with_len}
use Rattle.cq_position.specs.Games.{is_searched, numbers}
use Rattle.cq_position.specs.Search.{SearchedTree}
use Rattle.cq_position.specs.Games.{searched}
use Rattle.cql_syntax.specs.Hits.{is_hit}
use Rattle.cql_syntax.specs.Meaning.{value, values}
use Rattle.cql_syntax.specs.Trees.{FilterTree, FormTree, FilterTrees, filter_at, sort, no_filters, more_filters, with_filter}
use Rattle.cql_syntax.specs.TreeOf.{filter_tree, filter_trees, form_tree}
use Rattle.cql_syntax.specs.Values.{Value, holds, amount}
use Rattle.cql_syntax.specs.declared.tree.Filter.{Filter}
use Rattle.cql_syntax.proofs.Lists.{filter_trees_more}
use Rattle.cql_columns.specs.Columns.{is_live, shown, IsNodeSet, IsColumn, IsNarrowed, IsNumbered}
use Rattle.cql_columns.specs.declared.filter_column.FilterColumn.{FilterColumn}
use Rattle.cql_columns.proofs.Chains.{all_begun, all_more, take_whole}
use Rattle.cql_eval.specs.Hits.{hit_column, key_column, key_row_of, number_at, sort_numbers, item_numbers, AreKeysAtHits}
use Rattle.cql_columns.proofs.Filling.{live_below, any_default, both_left, part_asked}
use Rattle.cql_candidates.specs.Classes.{IsLeft}
use Rattle.cql_candidates.proofs.Placing.{Placed}

-- the searched nodes are live
module _ (tree : SearchedTree) (all : List Bool) (is : all ≡ map (is_searched tree.variations tree.game.nodes) (numbers tree.game.nodes)) where
  pub all_at : (n : ℕ) → n < length tree.game.nodes → is_live all n ≡ is_searched tree.variations tree.game.nodes n
  all_at n h = ap (λ l. get_or l n false) is ∙ get_or-map-range_with_len (is_searched tree.variations tree.game.nodes) 0 (length tree.game.nodes) n n false h (omega arith)

  pub all_count : length all ≡ length tree.game.nodes
  all_count = ap length is ∙ length-map-range_with_len (is_searched tree.variations tree.game.nodes) 0 (length tree.game.nodes)

  pub all_asked : IsNodeSet tree all
  all_asked = record { count = all_count; searched = λ n e. sym (all_at n (omega (arith, live_below all n e, all_count))) ∙ e }

-- of the searched nodes those at which the items so far hold
pub record ItemsSoFar (tree : SearchedTree) (all : List Bool) (xs : List Filter) (i : ℕ) (left : List Bool) : Type 0 where
  pub asked : IsNodeSet tree left
  pub each : (n : ℕ) → is_live left n ≡ (is_live all n && list_all holds (values tree [] [] (filter_trees (take i xs)) n))

and_true : (b : Bool) → b ≡ (b && true)
and_true true = refl
and_true false = refl

and_assoc : (a b c : Bool) → ((a && b) && c) ≡ (a && (b && c))
and_assoc true b c = refl
and_assoc false b c = refl

pub items_begun : (tree : SearchedTree) (all left : List Bool) (xs : List Filter) → IsNodeSet tree all → left ≡ all → ItemsSoFar tree all xs 0 left
items_begun tree all left xs asked is = record {
  asked = subst (IsNodeSet tree) (sym is) asked;
  each = λ n. ap (λ l. is_live l n) is ∙ and_true (is_live all n) ∙ ap (λ b. is_live all n && b) (sym (all_begun tree [] [] n xs));
}

pub items_more : (tree : SearchedTree) (all : List Bool) (x : Placed) (left given later : List Bool) → given ≡ left → IsNodeSet tree later
    → ((n : ℕ) → is_live later n ≡ (is_live given n && holds (value tree [] [] (filter_tree x.filter) n))) → ItemsSoFar tree all x.items x.place left
    → ItemsSoFar tree all x.items (x.place + 1) later
items_more tree all x left given later same asked each had = record {
  asked = asked;
  each = λ n. each n ∙ ap (λ l. is_live l n && holds (value tree [] [] (filter_tree x.filter) n)) same ∙ ap (λ b. b && holds (value tree [] [] (filter_tree x.filter) n)) (had.each n)
      ∙ and_assoc (is_live all n) (list_all holds (values tree [] [] (filter_trees (take x.place x.items)) n)) (holds (value tree [] [] (filter_tree x.filter) n))
      ∙ ap (λ b. is_live all n && b) (sym (all_more tree [] [] n x.items x.place x.filter x.low x.is));
}

pub items_within : (tree : SearchedTree) (all : List Bool) (xs : List Filter) (i : ℕ) (left given again : List Bool) → given ≡ left → again ≡ all → ItemsSoFar tree all xs i left
    → (n : ℕ) → is_live given n ≡ true → is_live again n ≡ true
items_within tree all xs i left given again is is_too had n l =
    ap (λ x. is_live x n) is_too
    ∙ both_left (is_live all n) (list_all holds (values tree [] [] (filter_trees (take i xs)) n)) (sym (had.each n) ∙ ap (λ x. is_live x n) (sym is) ∙ l)

pub hits_are : (tree : SearchedTree) (all left : List Bool) (xs : List Filter) (i : ℕ) (fs : FilterTrees) → all ≡ map (is_searched tree.variations tree.game.nodes) (numbers tree.game.nodes)
    → length xs ≤ i → filter_trees xs ≡ fs → ItemsSoFar tree all xs i left → left ≡ hit_column tree fs
hits_are tree all left xs i fs is end same had = same_lists left (hit_column tree fs)
    (had.asked.count ∙ sym (length-map-range_with_len (λ n. is_searched tree.variations tree.game.nodes n && is_hit tree fs n) 0 (length tree.game.nodes)))
    (λ n d h. let low : n < length tree.game.nodes = omega (arith, h, had.asked.count) in
    any_default left n d false h ∙ had.each n ∙ ap₂ (λ a b. a && b) (all_at tree all is n low)
    (ap (λ ys. list_all holds (values tree [] [] (filter_trees ys) n)) (take_whole xs i end) ∙ ap (λ gs. is_hit tree gs n) same)
    ∙ sym (get_or-map-range_with_len (λ m. is_searched tree.variations tree.game.nodes m && is_hit tree fs m) 0 (length tree.game.nodes) n n d low (omega arith)))

pub hits_left : (tree : SearchedTree) (all left : List Bool) (xs : List Filter) (i : ℕ) (fs : FilterTrees) → length xs ≤ i → filter_trees xs ≡ fs
    → ItemsSoFar tree all xs i left → IsLeft tree all (is_hit tree fs) left
hits_left tree all left xs i fs end same had = record {
  asked = had.asked;
  each = λ n. had.each n ∙ ap (λ b. is_live all n && b) (ap (λ ys. list_all holds (values tree [] [] (filter_trees ys) n)) (take_whole xs i end) ∙ ap (λ gs. is_hit tree gs n) same);
}

pub hits_whole : (tree : SearchedTree) (all left : List Bool) (fs : FilterTrees) → all ≡ map (is_searched tree.variations tree.game.nodes) (numbers tree.game.nodes)
    → IsLeft tree all (is_hit tree fs) left → left ≡ hit_column tree fs
hits_whole tree all left fs is had = same_lists left (hit_column tree fs)
    (had.asked.count ∙ sym (length-map-range_with_len (λ n. is_searched tree.variations tree.game.nodes n && is_hit tree fs n) 0 (length tree.game.nodes)))
    (λ n d h. let low : n < length tree.game.nodes = omega (arith, h, had.asked.count) in
    any_default left n d false h ∙ had.each n ∙ ap (λ b. b && is_hit tree fs n) (all_at tree all is n low)
    ∙ sym (get_or-map-range_with_len (λ m. is_searched tree.variations tree.game.nodes m && is_hit tree fs m) 0 (length tree.game.nodes) n n d low (omega arith)))

-- the sort items so far

map_append : {A B : Type 0} (f : A → B) (xs ys : List A) → map f (xs ++ ys) ≡ map f xs ++ map f ys
map_append f [] ys = refl
map_append f (x ∷ xs) ys = ap (λ l. f x ∷ l) (map_append f xs ys)

map_map : {A B C : Type 0} (g : B → C) (f : A → B) (xs : List A) → map g (map f xs) ≡ map (λ x. g (f x)) xs
map_map g f [] = refl
map_map g f (x ∷ xs) = ap (λ l. g (f x) ∷ l) (map_map g f xs)

map_range : {X : Type 0} (f g : ℕ → X) (a k : ℕ) → ((n : ℕ) → n < a + k → f n ≡ g n) → map f (range_with_len a k) ≡ map g (range_with_len a k)
map_range f g a zero h = refl
map_range f g a (suc k) h = ap₂ (λ x xs. x ∷ xs) (h a (omega arith)) (map_range f g (a + 1) k (λ n e. h n (omega (arith, e))))

sorts_snoc : (fs : FilterTrees) (f : FilterTree) → sort_numbers (with_filter fs f) ≡ sort_numbers fs ++ item_numbers f
sorts_snoc no_filters f = append_nil (item_numbers f)
  where
    append_nil : (l : List FilterTree) → l ++ [] ≡ l
    append_nil [] = refl
    append_nil (x ∷ l) = ap (λ k. x ∷ k) (append_nil l)
sorts_snoc (more_filters x fs) f = ap (λ l. item_numbers x ++ l) (sorts_snoc fs f) ∙ sym (append_assoc (item_numbers x) (sort_numbers fs) (item_numbers f))

sorts_more : (xs : List Filter) (i : ℕ) (f : Filter) → i < length xs → f ≡ get_or xs i f
    → sort_numbers (filter_trees (take (i + 1) xs)) ≡ sort_numbers (filter_trees (take i xs)) ++ item_numbers (filter_tree f)
sorts_more xs i f below is = ap sort_numbers (filter_trees_more xs i f below is) ∙ sorts_snoc (filter_trees (take i xs)) (filter_tree f)

sorts_begun : (xs : List Filter) → sort_numbers (filter_trees (take 0 xs)) ≡ []
sorts_begun [] = refl
sorts_begun (x ∷ xs) = refl

-- the result of a function on the sort items so far, one by one
pub made_begun : {A : Type 0} (make : FilterTree → A) (made : List A) (xs : List Filter) → made ≡ [] → made ≡ map make (sort_numbers (filter_trees (take 0 xs)))
made_begun make made xs none = none ∙ sym (ap (map make) (sorts_begun xs))

pub made_more : {A : Type 0} (make : FilterTree → A) (made later : List A) (xs : List Filter) (i : ℕ) (f : Filter) → i < length xs → f ≡ get_or xs i f
    → later ≡ made ++ map make (item_numbers (filter_tree f)) → made ≡ map make (sort_numbers (filter_trees (take i xs))) → later ≡ map make (sort_numbers (filter_trees (take (i + 1) xs)))
made_more make made later xs i f below is more had =
    more ∙ ap (λ r. r ++ map make (item_numbers (filter_tree f))) had ∙ sym (map_append make (sort_numbers (filter_trees (take i xs))) (item_numbers (filter_tree f)))
    ∙ ap (map make) (sym (sorts_more xs i f below is))

pub made_all : {A : Type 0} (make : FilterTree → A) (made : List A) (xs : List Filter) (i : ℕ) (fs : FilterTrees) → length xs ≤ i → filter_trees xs ≡ fs
    → made ≡ map make (sort_numbers (filter_trees (take i xs))) → made ≡ map make (sort_numbers fs)
made_all make made xs i fs end same had = had ∙ ap (λ ys. map make (sort_numbers (filter_trees ys))) (take_whole xs i end) ∙ ap (λ gs. map make (sort_numbers gs)) same

-- at all searched nodes a row is the sort item's column
pub rows_same : (tree : SearchedTree) (all given : List Bool) → all ≡ map (is_searched tree.variations tree.game.nodes) (numbers tree.game.nodes)
    → given ≡ all → (fs : List FilterTree) → map (key_row_of tree given) fs ≡ map (key_column tree) fs
rows_same tree all given is same fs = ap (λ h. map h fs) (fun_ext (λ f.
    map_range (λ n. if is_live given n then number_at tree n f else None) (λ n. if is_searched tree.variations tree.game.nodes n then number_at tree n f else None) 0 (length tree.game.nodes)
    (λ n h. ap (λ b. if b then number_at tree n f else None) (ap (λ l. is_live l n) same ∙ all_at tree all is n (omega (arith, h))))))

-- the entries of a row
row_length : (tree : SearchedTree) (asked : List Bool) (f : FilterTree) → length (key_row_of tree asked f) ≡ length tree.game.nodes
row_length tree asked f = length-map-range_with_len (λ n. if is_live asked n then number_at tree n f else None) 0 (length tree.game.nodes)

row_entry : (tree : SearchedTree) (asked : List Bool) (f : FilterTree) (n : ℕ) → n < length tree.game.nodes → is_live asked n ≡ true → get_or (key_row_of tree asked f) n None ≡ number_at tree n f
row_entry tree asked f n low l =
    get_or-map-range_with_len (λ m. if is_live asked m then number_at tree m f else None) 0 (length tree.game.nodes) n n None low (omega arith) ∙ ap (λ b. if b then number_at tree n f else None) l

-- the rows of the sort items so far, and their entries at the nodes that are left
pub record RowsSoFar (tree : SearchedTree) (xs : List Filter) (i : ℕ) (left : List Bool) (rows : List (List (Option ℤ))) : Type 0 where
  pub lengths : map length rows ≡ map (λ f. length tree.game.nodes) (sort_numbers (filter_trees (take i xs)))
  pub entries : (n : ℕ) → is_live left n ≡ true → map (λ row. get_or row n None) rows ≡ map (number_at tree n) (sort_numbers (filter_trees (take i xs)))

pub rows_begun : (tree : SearchedTree) (xs : List Filter) (left : List Bool) (rows : List (List (Option ℤ))) → rows ≡ [] → RowsSoFar tree xs 0 left rows
rows_begun tree xs left rows none = record {
  lengths = made_begun (λ f. length tree.game.nodes) (map length rows) xs (ap (map length) none);
  entries = λ n l. made_begun (number_at tree n) (map (λ row. get_or row n None) rows) xs (ap (map (λ row. get_or row n None)) none);
}

pub rows_more : (tree : SearchedTree) (x : Placed) (left given later : List Bool) (rows new : List (List (Option ℤ))) → given ≡ left → IsNodeSet tree left
    → ((n : ℕ) → is_live later n ≡ true → is_live left n ≡ true) → new ≡ rows ++ map (key_row_of tree given) (item_numbers (filter_tree x.filter))
    → RowsSoFar tree x.items x.place left rows → RowsSoFar tree x.items (x.place + 1) later new
rows_more tree x left given later rows new same asked within more had = record {
  lengths = made_more (λ g. length tree.game.nodes) (map length rows) (map length new) x.items x.place x.filter x.low x.is
      (ap (map length) more ∙ map_append length rows (map (key_row_of tree given) (item_numbers (filter_tree x.filter)))
      ∙ ap (λ l. map length rows ++ l) (map_map length (key_row_of tree given) (item_numbers (filter_tree x.filter))
      ∙ ap (λ h. map h (item_numbers (filter_tree x.filter))) (fun_ext (λ g. row_length tree given g)))) had.lengths;
  entries = λ n l.
      let live = within n l in
      let low : n < length tree.game.nodes = (let b = live_below left n live in omega (arith, b, asked.count)) in
      made_more (number_at tree n) (map (λ row. get_or row n None) rows) (map (λ row. get_or row n None) new) x.items x.place x.filter x.low x.is
      (ap (map (λ row. get_or row n None)) more ∙ map_append (λ row. get_or row n None) rows (map (key_row_of tree given) (item_numbers (filter_tree x.filter)))
      ∙ ap (λ l. map (λ row. get_or row n None) rows ++ l)
      (map_map (λ row. get_or row n None) (key_row_of tree given) (item_numbers (filter_tree x.filter))
      ∙ ap (λ h. map h (item_numbers (filter_tree x.filter))) (fun_ext (λ g. row_entry tree given g n low (ap (λ y. is_live y n) same ∙ live))))) (had.entries n live);
}

pub rows_all : (tree : SearchedTree) (xs : List Filter) (i : ℕ) (fs : FilterTrees) (left : List Bool) (rows : List (List (Option ℤ))) → length xs ≤ i
    → filter_trees xs ≡ fs → RowsSoFar tree xs i left rows → AreKeysAtHits tree fs left rows
rows_all tree xs i fs left rows end same had = record {
  rows = made_all (λ f. length tree.game.nodes) (map length rows) xs i fs end same had.lengths;
  numbers = λ n l. made_all (number_at tree n) (map (λ row. get_or row n None) rows) xs i fs end same (had.entries n l);
}

-- one sort item: a filter is a sort of this part
pub record IsSort (f part : FilterTree) : Type 0 where
  pub at : ℕ
  pub least : Bool
  pub text : List ℕ
  pub is : f ≡ filter_at at (sort least text part)

pub sort_form : (form : FormTree) (least : Bool) (text : List ℕ) (q p : FilterTree) → form ≡ sort least text q → q ≡ p → form ≡ sort least text p
sort_form form least text q p is same = is ∙ ap (sort least text) same

pub is_sort : (item : Filter) (least : Bool) (text : List ℕ) (q p : FilterTree) → form_tree item.form ≡ sort least text q → q ≡ p → IsSort (filter_tree item) p
is_sort item least text q p is same = record { at = item.at; least = least; text = text; is = ap (filter_at item.at) (sort_form (form_tree item.form) least text q p is same) }

pub row_is : (tree : SearchedTree) (asked : List Bool) (c : FilterColumn) (f : FilterTree) → IsNodeSet tree asked → IsColumn c asked (value tree [] [] f)
    → map (λ n. if is_live asked n then amount (shown c n) else None) (range_with_len 0 (length asked)) ≡ key_row_of tree asked f
row_is tree asked c f are column = ap₂ (λ h k. map h (range_with_len 0 k)) (fun_ext (λ n. by (is_live asked n) (shown c n) (value tree [] [] f n) (column n))) are.count
  where
    by : (b : Bool) (x y : Value) → (b ≡ true → x ≡ y) → (if b then amount x else None) ≡ (if b then amount y else None)
    by true x y e = ap amount (e refl)
    by false x y e = refl

pub sort_asked : (tree : SearchedTree) (left later : List Bool) (c : FilterColumn) → IsNodeSet tree left → IsNumbered left c later → IsNodeSet tree later
sort_asked tree left later c asked is = part_asked tree left later (λ n. is_some (amount (shown c n))) asked is.count is.each

pub sort_each : (tree : SearchedTree) (asked left later : List Bool) (c : FilterColumn) (f part : FilterTree) → IsSort f part
    → ((n : ℕ) → is_live left n ≡ true → is_live asked n ≡ true) → IsColumn c asked (value tree [] [] part) → IsNumbered left c later
    → (n : ℕ) → is_live later n ≡ (is_live left n && holds (value tree [] [] f n))
unfolding value
sort_each tree asked left later c f part sorts within column numbered n =
    numbered.each n ∙ by (is_live left n) (shown c n) (value tree [] [] part n) (λ l. column n (within n l)) ∙ ap (λ g. is_live left n && holds (value tree [] [] g n)) (sym sorts.is)
  where
    by : (b : Bool) (x y : Value) → (b ≡ true → x ≡ y) → (b && is_some (amount x)) ≡ (b && is_some (amount y))
    by true x y e = ap (λ z. is_some (amount z)) (e refl)
    by false x y e = refl

pub row_added : {A : Type 0} (f : A → List (Option ℤ)) (old new : List A) (row : A) (numbers : List (Option ℤ)) → new ≡ old ++ row ∷ [] → f row ≡ numbers
    → map f new ≡ map f old ++ numbers ∷ []
row_added f old new row numbers more is = ap (map f) more ∙ map_append f old (row ∷ []) ∙ ap (λ r. map f old ++ r ∷ []) is

pub sort_keys : {A : Type 0} (f : A → List (Option ℤ)) (tree : SearchedTree) (asked : List Bool) (old new : List A) (row : List (Option ℤ)) (item part : FilterTree) → IsSort item part
    → map f new ≡ map f old ++ row ∷ [] → row ≡ key_row_of tree asked part → map f new ≡ map f old ++ map (key_row_of tree asked) (item_numbers item)
sort_keys f tree asked old new row item part sorts more is_row =
    more ∙ ap (λ r. map f old ++ r ∷ []) is_row ∙ ap (λ g. map f old ++ map (key_row_of tree asked) (item_numbers g)) (sym sorts.is)

-- another item
pub item_each : (left later : List Bool) (c : FilterColumn) (v : ℕ → Value) → IsColumn c left v → IsNarrowed left c true later → (n : ℕ) → is_live later n ≡ (is_live left n && holds (v n))
item_each left later c v column narrowed n = narrowed.each n ∙ by (is_live left n) (holds (shown c n)) (holds (v n)) (λ l. ap holds (column n l))
  where
    by : (b x y : Bool) → (b ≡ true → x ≡ y) → (b && x) ≡ (b && y)
    by true x y e = e refl
    by false x y e = refl
