-- The exports of the games that match, and their order.
use Rattle.std.proofs.Common.{◌≡◌, ℕ, ◌+◌, ◌<◌, ◌≤◌, ℤ, Bool, true, false, List, [], ◌∷◌, ◌++◌, map, Some, length, filter, All, AllPairs, inr, arith, refl, ap, ap₂, not, ◌==◌, get_or, sym, ◌∙◌, append_assoc, append-nil, cond, subst, Ok, Err}
use Rattle.std.specs.List.{flat_map}
use Rattle.std.specs.List.Sorted.{IsPermutation}
use Rattle.std.proofs.lemmas.Grind.{flat_map-append}
use Rattle.std.proofs.lemmas.List.{length-map}
use Rattle.std.proofs.lemmas.List.Elements.{All-nil, All-cons, All-append, All-head, All-tail}
use Rattle.std.proofs.lemmas.List.Sorted.{IsPermutation-refl, length_permutation}
use Rattle.std.proofs.lemmas.List.Kept.{AllPairs-cons}
use Rattle.pgn_export.specs.Export.{export_text}
use Rattle.cq_position.specs.Games.{Game}
use Rattle.cq_search.specs.Sorts.{is_some, have_sort}
use Rattle.cq_shards.proofs.Counts.{key_count}
use Rattle.cq_shards.proofs.Values.{all_kept}
use Rattle.cq_shards.specs.Order.{AreOfDistinctGames, ComesBefore, IsEarlier, directions, is_match as is_match_kept, keys_in, values_in}
use Rattle.cq_shards.specs.declared.answers.Answer.TheVariants.{Match}
use Rattle.cq_shards.specs.declared.answers.GameAnswer.{GameAnswer}
use Rattle.cql_syntax.specs.Hits.{marked, keys, hits}
use Rattle.cql_syntax.specs.Trees.{FilterTrees, QueryTree}
use Rattle.cq_shards.specs.Answers.{has_match}
use Rattle.cq_search.specs.GameOutput.{export_if}
use Rattle.cq_search.specs.Exports.{AreExports, exports_of, match_if, matches_from}
use Rattle.cq_shards.specs.Answers.{text_of}
use Rattle.cq_shards.specs.ReadResults.{ReadResult}
use Rattle.cq_search.specs.Internal.Writing.{InOrder}
use Rattle.cq_search.specs.AllGames.{written}

pub only_values : (values : List ℤ) → values_in (map Some values) ≡ values
only_values [] = refl
only_values (v ∷ values) = ap (λ l. v ∷ l) (only_values values)

pub first_none : (xs ys : List ℕ) → xs ++ ys ≡ [] → xs ≡ []
first_none [] ys e = refl
first_none (x ∷ xs) ys e = cc

pub written_none : (query : QueryTree) (outcomes : List ReadResult) → flat_map (written true query) outcomes ≡ []
written_none query [] = refl
written_none query (r ∷ rs) = written_none query rs

pub matches_more : (query : QueryTree) (n : ℕ) (rs : List ReadResult) (r : ReadResult) → matches_from query n rs ++ match_if query (n + length rs) r ≡ matches_from query n (rs ++ r ∷ [])
unfolding matches_from
matches_more query n [] r = ap (λ k. match_if query k r) (let e : n + 0 ≡ n = omega arith in e) ∙ sym (append-nil (match_if query n r))
matches_more query n (q ∷ qs) r =
    append_assoc (match_if query n q) (matches_from query (n + 1) qs) (match_if query (n + length (q ∷ qs)) r)
    ∙ ap (λ l. match_if query n q ++ l)
    (ap (λ k. matches_from query (n + 1) qs ++ match_if query k r) (let e : n + length (q ∷ qs) ≡ (n + 1) + length qs = omega arith in e) ∙ matches_more query (n + 1) qs r)

-- ---- each is a match, with its keys, of a game with this number or a later one

pub record IsOfGame (query : QueryTree) (n : ℕ) (a : GameAnswer) : Type 0 where
  pub later : n ≤ a.index
  pub found : is_match_kept a ≡ true
  pub keyed : length (keys_in a.what) ≡ length (directions query.items)

none_of : {A : Type 0} (P : A → Type 0) (xs : List A) → xs ≡ [] → All P xs
none_of P xs e = subst (All P) (sym e) (All-nil P)

hits_some : (ns : List ℕ) → not (length ns == 0) ≡ true → 0 < length ns
hits_some [] some = cc
hits_some (n ∷ ns) some = omega arith

some_hits : (query : QueryTree) (game : Game) → has_match query game ≡ true → 0 < length (hits query game)
some_hits query game some = hits_some (hits query game) some

values_counted : (query : QueryTree) (game : Game) → has_match query game ≡ true → length (values_in (keys query game)) ≡ length (directions query.items)
values_counted query game some =
    sym (length-map (values_in (keys query game)) Some) ∙ ap length (all_kept query game (some_hits query game some)) ∙ key_count query game

one_of_game : (query : QueryTree) (n : ℕ) (game : Game) (b : Bool) → has_match query game ≡ b
    → All (IsOfGame query n) (cond b ((record { index = n; what = Match (export_text (marked query game)) (values_in (keys query game)) }) ∷ []) [])
one_of_game query n game false none = All-nil (IsOfGame query n)
one_of_game query n game true some =
    All-cons (IsOfGame query n) _ [] (record { later = omega arith; found = refl; keyed = values_counted query game some }) (All-nil (IsOfGame query n))

if_of_game : (query : QueryTree) (n : ℕ) (r : ReadResult) → All (IsOfGame query n) (match_if query n r)
if_of_game query n (Ok game) = one_of_game query n game (has_match query game) refl
if_of_game query n (Err fault) = All-nil (IsOfGame query n)

later_too : (query : QueryTree) (n : ℕ) (a : GameAnswer) → IsOfGame query (n + 1) a → IsOfGame query n a
later_too query n a is = record { later = let l = is.later in omega (arith, l); found = is.found; keyed = is.keyed }

all_later : (query : QueryTree) (n : ℕ) (xs : List GameAnswer) → All (IsOfGame query (n + 1)) xs → All (IsOfGame query n) xs
all_later query n xs all = λ i d below. later_too query n (get_or xs i d) (all i d below)

all_of_games : (query : QueryTree) (n : ℕ) (rs : List ReadResult) → All (IsOfGame query n) (matches_from query n rs)
unfolding matches_from
all_of_games query n [] = All-nil (IsOfGame query n)
all_of_games query n (r ∷ rs) =
    All-append (IsOfGame query n) (match_if query n r) (matches_from query (n + 1) rs) (if_of_game query n r)
    (all_later query n (matches_from query (n + 1) rs) (all_of_games query (n + 1) rs))

earlier_than : (query : QueryTree) (n : ℕ) (a b : GameAnswer) → a.index ≡ n → IsOfGame query (n + 1) b → IsEarlier a b
earlier_than query n a b is of = let l = of.later in omega (arith, is, l)

before_if : (query : QueryTree) (n : ℕ) (game : Game) (b : Bool) (more : List GameAnswer) → All (IsOfGame query (n + 1)) more → AllPairs IsEarlier more
    → AllPairs IsEarlier (cond b ((record { index = n; what = Match (export_text (marked query game)) (values_in (keys query game)) }) ∷ []) [] ++ more)
before_if query n game false more all pairs = pairs
before_if query n game true more all pairs =
    let here : GameAnswer = record { index = n; what = Match (export_text (marked query game)) (values_in (keys query game)) } in
    AllPairs-cons IsEarlier here more (λ i d below. earlier_than query n here (get_or more i d) refl (all i d below)) pairs

one_before : (query : QueryTree) (n : ℕ) (r : ReadResult) (more : List GameAnswer) → All (IsOfGame query (n + 1)) more → AllPairs IsEarlier more → AllPairs IsEarlier (match_if query n r ++ more)
one_before query n (Err fault) more all pairs = pairs
one_before query n (Ok game) more all pairs = before_if query n game (has_match query game) more all pairs

in_archive_order : (query : QueryTree) (n : ℕ) (rs : List ReadResult) → AllPairs IsEarlier (matches_from query n rs)
unfolding matches_from
in_archive_order query n [] = λ i j d before below. absurd (omega (arith, below))
in_archive_order query n (r ∷ rs) = one_before query n r (matches_from query (n + 1) rs) (all_of_games query (n + 1) rs) (in_archive_order query (n + 1) rs)

-- ---- without a sort item

none_where_not_some : (ds : List Bool) → is_some ds ≡ false → ds ≡ []
none_where_not_some [] e = refl
none_where_not_some (d ∷ ds) e = absurd cc

no_directions : (fs : FilterTrees) → have_sort fs ≡ false → directions fs ≡ []
no_directions fs = none_where_not_some (directions fs)

game_same : (query : QueryTree) (n : ℕ) (game : Game) (b : Bool)
    → exports_of (cond b ((record { index = n; what = Match (export_text (marked query game)) (values_in (keys query game)) }) ∷ []) []) ≡ cond b (export_text (marked query game)) []
game_same query n game true = append-nil (export_text (marked query game))
game_same query n game false = refl

text_same : (query : QueryTree) (n : ℕ) (r : ReadResult) → exports_of (match_if query n r) ≡ export_if query r
text_same query n (Ok game) = game_same query n game (has_match query game)
text_same query n (Err fault) = refl

pub texts_same : (query : QueryTree) (n : ℕ) (rs : List ReadResult) → exports_of (matches_from query n rs) ≡ flat_map (export_if query) rs
unfolding matches_from
texts_same query n [] = refl
texts_same query n (r ∷ rs) =
    flat_map-append (λ (a : GameAnswer). text_of a.what) (match_if query n r) (matches_from query (n + 1) rs)
    ∙ ap₂ (λ xs ys. xs ++ ys) (text_same query n r) (texts_same query (n + 1) rs)

no_keys : (ks : List ℤ) → length ks ≡ 0 → ks ≡ []
no_keys [] e = refl
no_keys (k ∷ ks) e = cc

keyless : (query : QueryTree) (a : GameAnswer) → directions query.items ≡ [] → IsOfGame query 0 a → keys_in a.what ≡ []
keyless query a none is = no_keys (keys_in a.what) (is.keyed ∙ ap length none)

-- without a sort item archive order is the one order
plain_order : (query : QueryTree) (outcomes : List ReadResult) → directions query.items ≡ [] → AllPairs (ComesBefore []) (matches_from query 0 outcomes)
plain_order query outcomes none = λ i j d before below.
    let all = all_of_games query 0 outcomes in
    let first = keyless query (get_or (matches_from query 0 outcomes) i d) none (all i d (omega (arith, before, below))) in
    let later = keyless query (get_or (matches_from query 0 outcomes) j d) none (all j d below) in
    inr (first ∙ sym later, in_archive_order query 0 outcomes i j d before below)

pub unsorted_exports : (query : QueryTree) (outcomes : List ReadResult) → have_sort query.items ≡ false → AreExports query outcomes (flat_map (export_if query) outcomes)
unsorted_exports query outcomes none = record {
  sorted = matches_from query 0 outcomes;
  same = IsPermutation-refl (matches_from query 0 outcomes);
  order = subst (λ items. AllPairs (ComesBefore items) (matches_from query 0 outcomes)) (sym (no_directions query.items none))
      (plain_order query outcomes (no_directions query.items none));
  is = sym (texts_same query 0 outcomes);
}

-- ---- with one

all_matches : (query : QueryTree) (xs : List GameAnswer) → All (IsOfGame query 0) xs → filter is_match_kept xs ≡ xs
all_matches query [] all = refl
all_matches query (a ∷ xs) all =
    let is = All-head (IsOfGame query 0) a xs all in
    ap (λ b. cond b (a ∷ filter is_match_kept xs) (filter is_match_kept xs)) is.found ∙ ap (λ l. a ∷ l) (all_matches query xs (All-tail (IsOfGame query 0) a xs all))

apart : (xs : List GameAnswer) → AllPairs IsEarlier xs → AreOfDistinctGames xs
apart xs pairs = λ i j d before below same. let less = pairs i j d before below in omega (arith, less, same)

pub sorted_same : (query : QueryTree) (outcomes : List ReadResult) (ordered : List GameAnswer) → InOrder query (matches_from query 0 outcomes) ordered
    → IsPermutation (matches_from query 0 outcomes) ordered
sorted_same query outcomes ordered order = subst (λ xs. IsPermutation xs ordered) (all_matches query (matches_from query 0 outcomes) (all_of_games query 0 outcomes)) order.same

pub sorted_exports : (query : QueryTree) (outcomes : List ReadResult) (ordered : List GameAnswer) → InOrder query (matches_from query 0 outcomes) ordered → AreExports query outcomes (exports_of ordered)
sorted_exports query outcomes ordered order = record {
  sorted = ordered;
  same = sorted_same query outcomes ordered order;
  order = order.order (apart (matches_from query 0 outcomes) (in_archive_order query 0 outcomes))
      (λ i d below found. (all_of_games query 0 outcomes i d below).keyed);
  is = refl;
}

none_long : (xs : List GameAnswer) → length xs ≡ 0 → xs ≡ []
none_long [] e = refl
none_long (a ∷ xs) e = cc

pub none_ordered : (query : QueryTree) (ordered : List GameAnswer) → InOrder query [] ordered → ordered ≡ []
none_ordered query ordered order = none_long ordered (length_permutation [] ordered order.same)
