-- Writing the games that were kept.
use Rattle.std.proofs.Common.{◌≡◌, ℕ, ◌+◌, ◌<◌, List, [], ◌∷◌, ◌++◌, length, take, drop, get_or, filter, All, AllPairs, append-nil, Option, Ok, Err, ap, sym, ◌∙◌, subst}
use Rattle.std.specs.Prelude.{Result}
use Rattle.std.specs.List.Sorted.{IsPermutation}
use Rattle.std.proofs.lemmas.Grind.{flat_map-append}
use Rattle.std.proofs.lemmas.List.{take_more, drop_more, take-append-drop}
use Rattle.cq_outside.specs.Flow.{Grew}
use Rattle.cq_common.specs.declared.faults.Failed.{Failed}
use Rattle.cq_common.specs.declared.faults.Refusal.{Refusal}
use Rattle.cq_common.specs.declared.faults.Refusal.TheVariants.{Fault, NoMemory as IsNoMemory}
use Rattle.cq_shards.specs.Order.{AreOfDistinctGames, ComesBefore, HasKeys, directions, is_match}
use Rattle.cq_shards.specs.declared.answers.GameAnswer.{GameAnswer}
use Rattle.cql_syntax.specs.TreeOf.{query_tree}
use Rattle.cql_syntax.specs.Trees.{QueryTree}
use Rattle.cql_syntax.specs.declared.typed_query.TypedQuery.{TypedQuery}
use Rattle.cq_search.specs.Exports.{exports_of}
use Rattle.cq_shards.specs.Answers.{text_of}
use Rattle.cq_query_files.specs.Views.{SinkView}
use Rattle.cq_search.specs.Internal.Writing.{InOrder, WritesKept, WritesText}
use Rattle.cq_query_files.proofs.Sinks.{grew_on, Took, took_count, took_on, prefix_of}

text_in : GameAnswer → List ℕ
text_in a = text_of a.what

pub exports_more : (xs : List GameAnswer) (i : ℕ) (a : GameAnswer) → i < length xs → a ≡ get_or xs i a → exports_of (take (i + 1) xs) ≡ exports_of (take i xs) ++ text_of a.what
exports_more xs i a inside is =
    ap exports_of (take_more xs i a inside) ∙ ap (λ x. exports_of (take i xs ++ x ∷ [])) (sym is)
    ∙ flat_map-append (λ (x : GameAnswer). text_of x.what) (take i xs) (a ∷ []) ∙ ap (λ l. exports_of (take i xs) ++ l) (append-nil (text_of a.what))

-- an order by the query that a plan gives is one by the plan's
pub in_order : (answers ordered : List GameAnswer) (given held : TypedQuery) → given ≡ held → IsPermutation (filter is_match answers) ordered
    → (AreOfDistinctGames answers → All (HasKeys (directions (query_tree given.query).items)) answers
    → AllPairs (ComesBefore (directions (query_tree given.query).items)) ordered) → InOrder (query_tree held.query) answers ordered
in_order answers ordered given held e same order = subst (λ (t : TypedQuery). InOrder (query_tree t.query) answers ordered) e (record { same = same; order = order })

-- and their exports are written
pub kept_written : (query : QueryTree) (answers ordered : List GameAnswer) (before after : SinkView) (result : Result (Unit {0}) (Refusal Failed))
    → InOrder query answers ordered → WritesText (exports_of ordered) before after result → WritesKept query answers before after result
kept_written query answers ordered before after (Ok _) order writes = (ordered, order, writes.0, writes.1)
kept_written query answers ordered before after (Err (Fault _)) order writes = (ordered, order, writes.0, writes.1)
kept_written query answers ordered before after (Err IsNoMemory) order none = absurd none

-- a kept game at its place, and its export
pub record IsAt (xs : List GameAnswer) (i : ℕ) (a : GameAnswer) (text : List ℕ) : Type 0 where
  pub inside : i < length xs
  pub is : a ≡ get_or xs i a
  pub texts : text ≡ text_of a.what

-- one export more
pub more_written : (xs : List GameAnswer) (i : ℕ) (a : GameAnswer) (old now new : Option (List ℕ)) (text : List ℕ) → IsAt xs i a text
    → Grew old now (exports_of (take i xs)) → Grew now new text → Grew old new (exports_of (take (i + 1) xs))
more_written xs i a old now new text at before grew =
    subst (Grew old new) (ap (λ l. exports_of (take i xs) ++ l) at.texts ∙ sym (exports_more xs i a at.inside at.is))
    (grew_on old now new (exports_of (take i xs)) text before grew)

-- the rest from an export on
rest_of : (xs : List GameAnswer) (i : ℕ) (a : GameAnswer) → i < length xs → a ≡ get_or xs i a
    → exports_of (take i xs) ++ (text_of a.what ++ exports_of (drop (i + 1) xs)) ≡ exports_of xs
rest_of xs i a inside is =
    sym (flat_map-append (λ (x : GameAnswer). text_of x.what) (take i xs) (a ∷ drop (i + 1) xs))
    ∙ ap (λ x. exports_of (take i xs ++ x ∷ drop (i + 1) xs)) is
    ∙ ap (λ l. exports_of (take i xs ++ l)) (sym (drop_more xs i a inside)) ∙ ap exports_of (take-append-drop i xs)

-- a part of an export
pub part_written : (xs : List GameAnswer) (i : ℕ) (a : GameAnswer) (old now new : Option (List ℕ)) (text : List ℕ) (count : ℕ) → IsAt xs i a text
    → Grew old now (exports_of (take i xs)) → Grew now new (take count text) → (k : ℕ) × Grew old new (take k (exports_of xs))
part_written xs i a old now new text count at before grew =
    let part : Took now new (text_of a.what) = took_count now new (text_of a.what) count (subst (λ l. Grew now new (take count l)) at.texts grew) in
    let took : Took old new (exports_of xs) =
    subst (Took old new) (rest_of xs i a at.inside at.is) (took_on old now new (exports_of (take i xs)) (text_of a.what) (exports_of (drop (i + 1) xs)) before part) in
    (length took.part, prefix_of old new (exports_of xs) took)
