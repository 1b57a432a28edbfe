-- Rows as their cells.
use Rattle.std.proofs.Common.{◌≡◌, ℕ, zero, suc, ◌<◌, Bool, List, [], ◌∷◌, ◌++◌, length, map, get_or, slice_set, refl, sym, ap, ◌∙◌, Some, inl, inr, arith, slice_get, ◌≤◌, ◌+◌}
use Rattle.std.specs.Prelude.{replicate, max, bit_or}
use Rattle.std.proofs.Math.Nat.{max-zero}
use Rattle.std.specs.Int.Bits.{or_zero_r}
use Rattle.std.proofs.lemmas.Bool.{cases_eq, cases_lt}
use Rattle.std.proofs.lemmas.Option.{get_or_from_slice_get}
use Rattle.std.proofs.lemmas.List.{get_or-map, get_or-set_same, get_or-set_other, length-map, length-set, map-set}
use Rattle.cql_lines.specs.declared.automaton.Transition.{Transition}
use Rattle.cql_lines.specs.declared.shape.TreeNode.{TreeNode}
use Rattle.cql_lines.specs.Internal.DownwardPass.{cell, IsParentUpdate}
use Rattle.cql_lines.specs.Internal.Lengths.{at}
use Rattle.cql_lines.specs.Shapes.{joined}

-- a row of zeros
pub zeros : (n i : ℕ) → at (replicate n 0) i ≡ 0
zeros zero i = refl
zeros (suc n) zero = refl
zeros (suc n) (suc i) = zeros n i

-- the first places of a row have the values of their rules
abbrev pub HasFirst : List Transition → (value : Transition → ℕ) → ℕ → List ℕ → Type 0
HasFirst rules value n own = (i : ℕ) (r : Transition) → i < n → slice_get rules i ≡ Some r → at own i ≡ value r

-- a row that is filled place by place
pub here_more : (rules : List Transition) (own : List ℕ) (n v : ℕ) (value : Transition → ℕ) (d : Transition) → length own ≡ 64 → n < 64 → v ≡ value (get_or rules n d)
    → HasFirst rules value n own → HasFirst rules value (n + 1) (slice_set own n v)
here_more rules own n v value d size low is before = λ i r less e. elim (cases_eq i n) [
  | inl same ↦ ap (λ k. at (slice_set own n v) k) same ∙ get_or-set_same own n v 0 (omega arith) ∙ is ∙ ap (λ k. value (get_or rules k d)) (sym same) ∙ ap value (get_or_from_slice_get rules i r d e)
  | inr other ↦ get_or-set_other own n i v 0 other ∙ before i r (omega arith) e
]

pub past_more : (own : List ℕ) (n v : ℕ) → ((i : ℕ) → n ≤ i → at own i ≡ 0) → (i : ℕ) → n + 1 ≤ i → at (slice_set own n v) i ≡ 0
past_more own n v before i more = get_or-set_other own n i v 0 (omega arith) ∙ before i (omega arith)

-- the first places joined with others that have nothing past them
joined_all : (join : ℕ → ℕ → ℕ) → ((m : ℕ) → join m 0 ≡ m) → (count : ℕ) (row old own : List ℕ) → ((i : ℕ) → i < count → at row i ≡ join (at old i) (at own i))
    → ((i : ℕ) → count ≤ i → at row i ≡ at old i) → ((i : ℕ) → count ≤ i → at own i ≡ 0) → (j : ℕ) → at row j ≡ join (at old j) (at own j)
joined_all join none count row old own first kept past j = elim (cases_lt j count) [
  | inl low ↦ first j low
  | inr high ↦ kept j high ∙ sym (none (at old j)) ∙ ap (join (at old j)) (sym (past j high))
]

pub raised_all : (count : ℕ) (row old own : List ℕ) → ((i : ℕ) → i < count → at row i ≡ max (at old i) (at own i))
    → ((i : ℕ) → count ≤ i → at row i ≡ at old i) → ((i : ℕ) → count ≤ i → at own i ≡ 0) → (j : ℕ) → at row j ≡ max (at old j) (at own j)
raised_all = joined_all max max-zero

pub united_all : (count : ℕ) (row old own : List ℕ) → ((i : ℕ) → i < count → at row i ≡ bit_or (at old i) (at own i))
    → ((i : ℕ) → count ≤ i → at row i ≡ at old i) → ((i : ℕ) → count ≤ i → at own i ≡ 0) → (j : ℕ) → at row j ≡ bit_or (at old j) (at own j)
united_all = joined_all bit_or or_zero_r

module _ {StateLengths : Type 0} (cells : StateLengths → ℕ → ℕ) where
  pub cell_of : (rows : List StateLengths) (n : ℕ) (other : StateLengths) → n < length rows → cell (map cells rows) n ≡ cells (get_or rows n other)
  cell_of rows n other low = get_or-map cells rows n other (λ j. 0) low

  -- as many rows as there are of their cells
  pub as_many : (rows : List StateLengths) (size : ℕ) → length (map cells rows) ≡ size → length rows ≡ size
  as_many rows size count = sym (length-map rows cells) ∙ count

  pub within : (rows : List StateLengths) (size node : ℕ) → node < size → length (map cells rows) ≡ size → node < length rows
  within rows size node low count = let same = as_many rows size count in omega arith

  pub blank_more : (rows : List StateLengths) (row : StateLengths) → ((j : ℕ) → cells row j ≡ 0) → ((n j : ℕ) → cell (map cells rows) n j ≡ 0)
      → (n j : ℕ) → cell (map cells (rows ++ row ∷ [])) n j ≡ 0
  blank_more [] row blank before zero j = blank j
  blank_more [] row blank before (suc n) j = refl
  blank_more (r ∷ rows) row blank before zero j = before zero j
  blank_more (r ∷ rows) row blank before (suc n) j = blank_more rows row blank (λ m k. before (suc m) k) n j

  set_size : (rows : List StateLengths) (n : ℕ) (row : StateLengths) → length (map cells (slice_set rows n row)) ≡ length (map cells rows)
  set_size rows n row = length-map (slice_set rows n row) cells ∙ length-set rows n row ∙ sym (length-map rows cells)

  set_here : (rows : List StateLengths) (n j : ℕ) (row : StateLengths) → n < length rows → cell (map cells (slice_set rows n row)) n j ≡ cells row j
  set_here rows n j row low =
      let within : n < length (map cells rows) = (let e = length-map rows cells in omega arith) in
      ap (λ rs. cell rs n j) (map-set cells rows n row) ∙ ap (λ (r : ℕ → ℕ). r j) (get_or-set_same (map cells rows) n (cells row) (λ k. 0) within)

  set_other : (rows : List StateLengths) (n m j : ℕ) (row : StateLengths) → (m ≡ n → ⊥) → cell (map cells (slice_set rows n row)) m j ≡ cell (map cells rows) m j
  set_other rows n m j row other =
      ap (λ rs. cell rs m j) (map-set cells rows n row) ∙ ap (λ (r : ℕ → ℕ). r j) (get_or-set_other (map cells rows) n m (cells row) (λ k. 0) other)

  pub passed : (join : ℕ → ℕ → ℕ) (primary : Bool) (tree_nodes : List TreeNode) (n above : ℕ) (rows : List StateLengths) (new other : StateLengths) (own : ℕ → ℕ) → joined primary tree_nodes n ≡ Some above
      → above < length rows → ((j : ℕ) → cells new j ≡ join (cells (get_or rows above other) j) (own j))
      → IsParentUpdate join primary tree_nodes n (map cells rows) (map cells (slice_set rows above new)) own
  passed join primary tree_nodes n above rows new other own up low given = record {
    count = set_size rows above new;
    parent = λ p j e. (
        let same : p ≡ above = (let both = sym e ∙ up in cc) in
        ap (λ k. cell (map cells (slice_set rows above new)) k j) same ∙ set_here rows above j new low ∙ given j
        ∙ ap (λ r. join (r j) (own j)) (sym (cell_of rows above other low)) ∙ ap (λ k. join (cell (map cells rows) k j) (own j)) (sym same));
    others = λ p j e. set_other rows above p j new (λ same. e (up ∙ ap Some (sym same)));
  }
