-- The order of answers: by their games, and matches by the sort items of a query and then by their games.
use Rattle.std.specs.Prelude.{◌≡◌, ◌≢◌, ◌⊎◌, ◌<◌, ◌<ℤ◌, ℕ, ℤ, pos, Bool, true, false, List, [], ◌∷◌, ◌++◌, length, take, slice_index_or, AllPairs, Option, None, Some}
use Rattle.cql_syntax.specs.Trees.{FilterTree, filter_at, FormTree, sort, FilterTrees, no_filters, more_filters}
use Rattle.cq_shards.specs.declared.answers.Answer.{Answer}
use Rattle.cq_shards.specs.declared.answers.Answer.TheVariants.{Refused, Miss, Match}
use Rattle.cq_shards.specs.declared.answers.GameAnswer.{GameAnswer}

-- no two answers are of one game
abbrev pub AreOfDistinctGames : List GameAnswer → Type 0
AreOfDistinctGames answers = AllPairs (λ a b. a.index ≢ b.index) answers

-- one answer is of an earlier game than the other
abbrev pub IsEarlier : GameAnswer → GameAnswer → Type 0
IsEarlier a b = a.index < b.index

-- true if an answer is a match
abbrev pub is_found : Answer → Bool
is_found (Refused fault) = false
is_found Miss = false
is_found (Match text keys) = true

abbrev pub is_match : GameAnswer → Bool
is_match a = is_found a.what

-- the keys of a match; another answer has none
abbrev pub keys_in : Answer → List ℤ
keys_in (Refused fault) = []
keys_in Miss = []
keys_in (Match text keys) = keys

-- for each `sort` among the items of a query, true if it has `min`
abbrev pub form_directions : FormTree → List Bool
form_directions (sort least text f) = least ∷ []
form_directions _ = []

abbrev pub filter_directions : FilterTree → List Bool
filter_directions (filter_at at f) = form_directions f

abbrev pub directions : FilterTrees → List Bool
directions no_filters = []
directions (more_filters f fs) = filter_directions f ++ directions fs

-- the values among keys; at a game with a hit no key is without one (`games_have_a_key_for_each_sort_item`)
abbrev pub values_in : List (Option ℤ) → List ℤ
values_in [] = []
values_in (None ∷ ks) = values_in ks
values_in (Some k ∷ ks) = k ∷ values_in ks

-- a match has one key for each sort item
abbrev pub HasKeys : List Bool → GameAnswer → Type 0
HasKeys items a = is_match a ≡ true → length (keys_in a.what) ≡ length items

-- of two values of an item the greater comes first, with `min` the lesser
abbrev pub ComesFirst : (least : Bool) → ℤ → ℤ → Type 0
ComesFirst true x y = x <ℤ y
ComesFirst false x y = y <ℤ x

abbrev pub key_at : List ℤ → ℕ → ℤ
key_at keys k = slice_index_or keys k (pos 0)

-- the first item at which keys differ decides
pub record Precede (items : List Bool) (xs ys : List ℤ) : Type 0 where
  pub item : ℕ
  pub inside : item < length items
  pub alike : take item xs ≡ take item ys
  pub first : ComesFirst (slice_index_or items item false) (key_at xs item) (key_at ys item)

-- by the keys and, if these are the same, by the games
abbrev pub ComesBefore : List Bool → GameAnswer → GameAnswer → Type 0
ComesBefore items a b = Precede items (keys_in a.what) (keys_in b.what) ⊎ ((keys_in a.what ≡ keys_in b.what) × IsEarlier a b)
