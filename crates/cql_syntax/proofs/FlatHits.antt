-- A query has the hits, marks and keys of the query with its flat items.
use Rattle.std.proofs.Common.{◌≡◌, ℕ, List, [], ◌∷◌, ◌++◌, refl, ap, ap₂, sym, ◌∙◌, map}
use Rattle.std.specs.List.{list_all, filter}
use Rattle.std.proofs.Math.Path.{fun_ext}
use Rattle.cq_position.specs.Games.{Game}
use Rattle.cq_position.specs.Search.{SearchedTree, nodes_in}
use Rattle.cql_syntax.specs.Flat.{flat, flat_form, flat_all, flat_query}
use Rattle.cql_syntax.specs.Hits.{tree_of, hits, form_texts, item_texts, comment_texts, marks, key_of, form_keys, item_keys, all_keys, keys}
use Rattle.cql_syntax.specs.Trees.{FilterTree, filter_at, FormTree, designator, number, name, plain, tagged, outcome, elo, unary, direction, chain, sum_of, pair, if_, square, line, played, transform, sort, comment, any, FilterTrees, no_filters, more_filters, QueryTree}
use Rattle.cql_syntax.specs.Values.{holds}
use Rattle.cql_syntax.proofs.FlatSame.{flat_is_same, all_is_same}

pub hits_same : (q : QueryTree) (game : Game) → hits (flat_query q) game ≡ hits q game
unfolding hits
hits_same q game = ap (λ test. filter test (nodes_in (tree_of q game))) (fun_ext (λ n. ap (list_all holds) (sym (all_is_same (tree_of q game) q.items [] [] n))))

form_texts_same : (f : FormTree) → form_texts (flat_form [] f) ≡ form_texts f
unfolding flat
form_texts_same (designator d) = refl
form_texts_same (number k) = refl
form_texts_same (name text) = refl
form_texts_same (plain word) = refl
form_texts_same (tagged field text) = refl
form_texts_same (outcome o) = refl
form_texts_same (elo whose) = refl
form_texts_same (unary u f) = refl
form_texts_same (direction way m n f) = refl
form_texts_same (chain c fs) = refl
form_texts_same (sum_of ts) = refl
form_texts_same (pair c a b) = refl
form_texts_same (if_ a b c) = refl
form_texts_same (square every text a b) = refl
form_texts_same (line l) = refl
form_texts_same (played p) = refl
form_texts_same (transform t f) = refl
form_texts_same (sort least text f) = refl
form_texts_same (comment text) = refl
form_texts_same (any kind fs) = refl

item_texts_same : (f : FilterTree) → item_texts (flat [] f) ≡ item_texts f
unfolding flat
item_texts_same (filter_at at f) = form_texts_same f

texts_same : (fs : FilterTrees) → comment_texts (flat_all [] fs) ≡ comment_texts fs
unfolding flat
texts_same no_filters = refl
texts_same (more_filters f fs) = ap₂ (λ x y. x ++ y) (item_texts_same f) (texts_same fs)

pub marks_same : (q : QueryTree) → marks (flat_query q) ≡ marks q
unfolding marks
marks_same q = ap (λ texts. q.match_text ∷ texts) (texts_same q.items)

module _ (tree : SearchedTree) (found : List ℕ) where
  form_keys_same : (f : FormTree) → form_keys tree found (flat_form [] f) ≡ form_keys tree found f
  unfolding flat
  form_keys_same (designator d) = refl
  form_keys_same (number k) = refl
  form_keys_same (name text) = refl
  form_keys_same (plain word) = refl
  form_keys_same (tagged field text) = refl
  form_keys_same (outcome o) = refl
  form_keys_same (elo whose) = refl
  form_keys_same (unary u f) = refl
  form_keys_same (direction way m n f) = refl
  form_keys_same (chain c fs) = refl
  form_keys_same (sum_of ts) = refl
  form_keys_same (pair c a b) = refl
  form_keys_same (if_ a b c) = refl
  form_keys_same (square every text a b) = refl
  form_keys_same (line l) = refl
  form_keys_same (played p) = refl
  form_keys_same (transform t f) = refl
  form_keys_same (sort least text f) = ap (λ v. key_of least (map v found) ∷ []) (fun_ext (λ n. sym (flat_is_same tree f [] [] n)))
  form_keys_same (comment text) = refl
  form_keys_same (any kind fs) = refl

  item_keys_same : (f : FilterTree) → item_keys tree found (flat [] f) ≡ item_keys tree found f
  unfolding flat
  item_keys_same (filter_at at f) = form_keys_same f

  all_keys_same : (fs : FilterTrees) → all_keys tree found (flat_all [] fs) ≡ all_keys tree found fs
  unfolding flat
  all_keys_same no_filters = refl
  all_keys_same (more_filters f fs) = ap₂ (λ x y. x ++ y) (item_keys_same f) (all_keys_same fs)

pub keys_same : (q : QueryTree) (game : Game) → keys (flat_query q) game ≡ keys q game
unfolding keys
keys_same q game = ap (λ found. all_keys (tree_of q game) found (flat_all [] q.items)) (hits_same q game) ∙ all_keys_same (tree_of q game) (hits q game) q.items
