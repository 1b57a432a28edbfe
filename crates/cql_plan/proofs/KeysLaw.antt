-- The key over some nodes, one node after the other.
use Rattle.std.proofs.Common.{◌≡◌, ℕ, ◌+◌, ◌<◌, ◌≤◌, Bool, List, [], ◌∷◌, ◌++◌, length, map, take, get_or, Option, Some, None, ℤ, refl, sym, ap, ap₂, ◌∙◌, arith}
use Rattle.std.proofs.lemmas.List.{take_more, take_all}
use Rattle.std.proofs.lemmas.List.Sums.{fold-append}
use Rattle.cql_syntax.specs.Hits.{chosen}
use Rattle.cql_syntax.specs.Values.{Value, as_number, amount, of_both, chosen_from}
use Rattle.cql_plan.specs.RowKeys.{key_in}

pub key_first : (least : Bool) (row : List (Option ℤ)) (nodes : List ℕ) (n d : ℕ) (key : ℤ) → 0 < length nodes → n ≡ get_or nodes 0 d → get_or row n None ≡ Some key
    → Some key ≡ key_in least row (take 1 nodes)
key_first least row [] n d key some is here = absurd (omega (arith, some))
key_first least row (m ∷ []) n d key some is here = sym here ∙ ap (λ i. get_or row i None) is
key_first least row (m ∷ k ∷ nodes) n d key some is here = sym here ∙ ap (λ i. get_or row i None) is

chosen_snoc : (choose : ℤ → ℤ → ℤ) (vs : List Value) (v : Value) (a b : ℤ) → Some a ≡ chosen_from choose vs → amount v ≡ Some b → Some (choose a b) ≡ chosen_from choose (vs ++ v ∷ [])
chosen_snoc choose [] v a b is here = cc
chosen_snoc choose (w ∷ vs) v a b is here =
    ap₂ (of_both (λ x y. Some (choose x y))) is (sym here) ∙ sym (fold-append (λ c u. of_both (λ x y. Some (choose x y)) c (amount u)) (amount w) vs (v ∷ []))

pub key_next : (least : Bool) (row : List (Option ℤ)) (nodes : List ℕ) (k d : ℕ) (key value : ℤ) → k < length nodes → get_or row (get_or nodes k d) None ≡ Some value
    → Some key ≡ key_in least row (take k nodes) → Some (chosen least key value) ≡ key_in least row (take (k + 1) nodes)
key_next least row nodes k d key value low here had =
    let n = get_or nodes k d in
    chosen_snoc (chosen least) (map shown (take k nodes)) (shown n) key value had here
    ∙ ap (chosen_from (chosen least)) (sym (map_snoc shown (take k nodes) n))
    ∙ ap (key_in least row) (sym (take_more nodes k d low))
  where
    shown : ℕ → Value
    shown m = as_number (get_or row m None)

    map_snoc : (f : ℕ → Value) (xs : List ℕ) (x : ℕ) → map f (xs ++ x ∷ []) ≡ map f xs ++ f x ∷ []
    map_snoc f [] x = refl
    map_snoc f (y ∷ xs) x = ap (λ l. f y ∷ l) (map_snoc f xs x)

pub key_all : (least : Bool) (row : List (Option ℤ)) (nodes : List ℕ) (k : ℕ) (key : ℤ) → length nodes ≤ k → Some key ≡ key_in least row (take k nodes) → Some key ≡ key_in least row nodes
key_all least row nodes k key end had = had ∙ ap (key_in least row) (take_all k nodes end)
