-- The hits and keys of all queries.
use Rattle.std.proofs.Common.{◌≡◌, ℕ, suc, ◌+◌, ◌<◌, ◌≤◌, List, [], ◌∷◌, ◌++◌, length, map, take, get_or, ℤ, refl, sym, ap, ap₂, ◌∙◌, subst, All, AllPairs}
use Rattle.std.specs.Prelude.{slice_index_or}
use Rattle.std.proofs.lemmas.List.{take_more, take_all}
use Rattle.std.proofs.lemmas.List.Elements.{All-map}
use Rattle.cq_position.specs.Games.{Game}
use Rattle.cql_plan.proofs.ItemsLeft.{hits_increase}
use Rattle.cql_syntax.specs.Hits.{hits, tree_of}
use Rattle.cq_shared.specs.PartOwners.{owner_query}
use Rattle.cq_shared.specs.Verdicts.{IsKeyed, HaveKeys}
use Rattle.cq_shared.specs.declared.part.PartOwner.{PartOwner}
use Rattle.cq_shared.specs.declared.verdicts.HitsAndKeys.{HitsAndKeys}

-- query by query

abbrev pub nodes_in_all : List HitsAndKeys → List (List ℕ)
nodes_in_all found = map (λ f. f.nodes.items) found

abbrev pub keys_in_all : List HitsAndKeys → List (List ℤ)
keys_in_all found = map (λ f. f.keys.items) found

pub record AllFound (game : Game) (owners : List PartOwner) (found : List HitsAndKeys) : Type 0 where
  pub nodes : nodes_in_all found ≡ map (λ a. hits (owner_query a) game) owners
  pub keys : HaveKeys game (map (λ a. owner_query a) owners) (nodes_in_all found) (keys_in_all found)

map_snoc : {A B : Type 0} (f : A → B) (xs : List A) (x : A) → map f (xs ++ x ∷ []) ≡ map f xs ++ f x ∷ []
map_snoc f [] x = refl
map_snoc f (y ∷ xs) x = ap (λ l. f y ∷ l) (map_snoc f xs x)

pub found_none : (game : Game) (owners : List PartOwner) (found : List HitsAndKeys) → found ≡ [] → AllFound game (take 0 owners) found
found_none game owners found none = subst (AllFound game []) (sym none) (record { nodes = refl; keys = tt })

keyed_snoc : (game : Game) (owners : List PartOwner) (found : List HitsAndKeys) (a : PartOwner) (f : HitsAndKeys) → HaveKeys game (map (λ a. owner_query a) owners) (nodes_in_all found) (keys_in_all found)
    → IsKeyed game (owner_query a) f.nodes.items f.keys.items
    → HaveKeys game (map (λ a. owner_query a) (owners ++ a ∷ [])) (nodes_in_all (found ++ f ∷ [])) (keys_in_all (found ++ f ∷ []))
keyed_snoc game [] [] a f had is = (is, tt)
keyed_snoc game [] (g ∷ found) a f had is = absurd had
keyed_snoc game (b ∷ owners) [] a f had is = absurd had
keyed_snoc game (b ∷ owners) (g ∷ found) a f had is = (had.0, keyed_snoc game owners found a f had.1 is)

pub found_more : (game : Game) (owners : List PartOwner) (q : ℕ) (a : PartOwner) (found : List HitsAndKeys) (f : HitsAndKeys) → q < length owners → a ≡ get_or owners q a
    → f.nodes.items ≡ hits (owner_query a) game → IsKeyed game (owner_query a) f.nodes.items f.keys.items → AllFound game (take q owners) found
    → AllFound game (take (q + 1) owners) (found ++ f ∷ [])
found_more game owners q a found f low reads nodes keyed had =
    subst (λ xs. AllFound game xs (found ++ f ∷ [])) (ap (λ y. take q owners ++ y ∷ []) reads ∙ sym (take_more owners q a low))
    (record {
      nodes = map_snoc (λ (g : HitsAndKeys). g.nodes.items) found f ∙ ap₂ (λ xs x. xs ++ x ∷ []) had.nodes nodes ∙ sym (map_snoc (λ b. hits (owner_query b) game) (take q owners) a);
      keys = keyed_snoc game (take q owners) found a f had.keys keyed;
    })

pub collect_verdicts : (game : Game) (owners : List PartOwner) (q : ℕ) (found : List HitsAndKeys) → length owners ≤ q → AllFound game (take q owners) found → AllFound game owners found
collect_verdicts game owners q found past had = subst (λ xs. AllFound game xs found) (take_all q owners past) had

-- hits increase

pub all_increase : (game : Game) (owners : List PartOwner) (found : List HitsAndKeys) → nodes_in_all found ≡ map (λ a. hits (owner_query a) game) owners
    → All (λ nodes. AllPairs (λ m n. m < n) nodes) (nodes_in_all found)
unfolding hits
all_increase game owners found is =
    subst (All (λ nodes. AllPairs (λ m n. m < n) nodes)) (sym is)
    (All-map (λ nodes. AllPairs (λ m n. m < n) nodes) (λ a. hits (owner_query a) game) owners (λ i d below. let q = owner_query (slice_index_or owners i d) in hits_increase (tree_of q game) q.items))

pub keys_count : (found : List HitsAndKeys) → length (keys_in_all found) ≡ length (nodes_in_all found)
keys_count [] = refl
keys_count (f ∷ found) = ap suc (keys_count found)
