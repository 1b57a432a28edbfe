-- Reading the pieces of a file of queries, one by one.
use Rattle.std.proofs.Common.{Bor, ◌≡◌, ℕ, suc, ◌+◌, ◌≤◌, ◌<◌, List, [], ◌∷◌, ◌++◌, length, take, drop, get_or, append_assoc, length-append, arith, Ok, Err, refl, ap, sym, ◌∙◌, subst}
use Rattle.std.specs.Prelude.{Result}
use Rattle.std.specs.List.{AllZip}
use Rattle.std.proofs.lemmas.List.{length-map, length-take, map-append, take_all, take_more, take-append-drop}
use Rattle.cq_common.specs.declared.faults.Refusal.{Refusal}
use Rattle.cq_common.specs.declared.faults.Refusal.TheVariants.{Fault, NoMemory}
use Rattle.cql_syntax.specs.TreeOf.{query_tree}
use Rattle.cql_syntax.specs.Trees.{QueryTree}
use Rattle.cql_syntax.specs.declared.fault.QueryFault.{QueryFault}
use Rattle.cql_syntax.specs.declared.typed_query.TypedQuery.{TypedQuery}
use Rattle.cql_syntax.specs.QueryTrees.{trees_of}
use Rattle.cq_query_files.specs.QueryReading.{ReadsText, ReadsPiece, ReadsPieces, RefusesPieces}
use Rattle.cq_query_files.specs.declared.query_files.ManyFault.{ManyFault}
use Rattle.cq_query_files.specs.declared.query_files.ManyFault.TheVariants.{TooLong, TooMany, Faulty}
use Rattle.cq_query_files.specs.Queries.{IsQuery, IsQueryFault}
use Rattle.cq_query_files.specs.QueryFiles.{HoldsQueries, IsFirstFault, most_in_file, most_queries, pieces}
use Rattle.cq_query_files.specs.Files.{queries_file_kind}
use Rattle.cq_query_files.proofs.Pieces.{some_pieces, texts_of}

zip_on : {A B : Type 0} (R : A → B → Type 0) (xs : List A) (ys : List B) (x : A) (y : B) → AllZip R xs ys → R x y → AllZip R (xs ++ x ∷ []) (ys ++ y ∷ [])
zip_on R [] [] x y all is = (is, tt)
zip_on R [] (b ∷ ys) x y all is = absurd all
zip_on R (a ∷ xs) [] x y all is = absurd all
zip_on R (a ∷ xs) (b ∷ ys) x y all is = (all.0, zip_on R xs ys x y all.1 is)

pub zip_length : {A B : Type 0} (R : A → B → Type 0) (xs : List A) (ys : List B) → AllZip R xs ys → length xs ≡ length ys
zip_length R [] [] all = refl
zip_length R [] (b ∷ ys) all = absurd all
zip_length R (a ∷ xs) [] all = absurd all
zip_length R (a ∷ xs) (b ∷ ys) all = ap suc (zip_length R xs ys all.1)

-- the first of some slices, so many, are these queries
pub record ReadSoFar (slices : List (Bor (List ℕ))) (index : ℕ) (queries : List TypedQuery) : Type 0 where
  pub count : length queries ≡ index
  pub are : AllZip IsQuery (texts_of (take index slices)) (trees_of queries)

-- the first of some slices, one more than so many
with_next : (slices : List (Bor (List ℕ))) (i : ℕ) (d : Bor (List ℕ)) → i < length slices → texts_of (take (i + 1) slices) ≡ texts_of (take i slices) ++ (get_or slices i d).now ∷ []
with_next slices i d inside =
    ap texts_of (take_more slices i d inside) ∙ map-append (λ (x : Bor (List ℕ)). x.now) (take i slices) (get_or slices i d ∷ [])

pub read_on : (slices : List (Bor (List ℕ))) (i : ℕ) (d : Bor (List ℕ)) (old new : List TypedQuery) (typed : TypedQuery) → ReadSoFar slices i old → i < length slices
    → IsQuery (get_or slices i d).now (query_tree typed.query) → new ≡ old ++ typed ∷ [] → ReadSoFar slices (i + 1) new
read_on slices i d old new typed so inside is pushed =
    let gained : trees_of new ≡ trees_of old ++ query_tree typed.query ∷ [] =
    ap trees_of pushed ∙ map-append (λ (q : TypedQuery). query_tree q.query) old (typed ∷ []) in
    let text = (get_or slices i d).now in
    let count = so.count in
    let more = ap length pushed ∙ length-append old (typed ∷ []) in
    record {
      count = omega (arith, count, more);
      are = subst (λ ts. AllZip IsQuery ts (trees_of new)) (sym (with_next slices i d inside))
          (subst (AllZip IsQuery (texts_of (take i slices) ++ text ∷ [])) (sym gained)
          (zip_on IsQuery (texts_of (take i slices)) (trees_of old) text (query_tree typed.query) so.are is));
    }

first_fault : (slices : List (Bor (List ℕ))) (i : ℕ) (d : Bor (List ℕ)) (old : List TypedQuery) (fault : QueryFault) → ReadSoFar slices i old → i < length slices
    → IsQueryFault (get_or slices i d).now fault → IsFirstFault (texts_of slices) (i + 1) fault
first_fault slices i d old fault so inside is =
    let text = (get_or slices i d).now in
    let rest = texts_of (drop (i + 1) slices) in
    let long = length-map (take i slices) (λ (x : Bor (List ℕ)). x.now) in
    let taken = length-take i slices in
    record {
      before = texts_of (take i slices);
      queries = trees_of old;
      are = so.are;
      text = text;
      is = is;
      after = rest;
      among = ap texts_of (sym (take-append-drop (i + 1) slices))
          ∙ map-append (λ (x : Bor (List ℕ)). x.now) (take (i + 1) slices) (drop (i + 1) slices)
          ∙ ap (λ l. l ++ rest) (with_next slices i d inside) ∙ append_assoc (texts_of (take i slices)) (text ∷ []) rest;
      number_is = omega (arith, long, taken, inside);
    }

pub refused_at : (slices : List (Bor (List ℕ))) (i number : ℕ) (d : Bor (List ℕ)) (old : List TypedQuery) (refusal : Refusal ManyFault)
    → ReadSoFar slices i old → i < length slices → number ≡ i + 1 → ReadsPiece number (get_or slices i d).now (Err refusal)
    → RefusesPieces (texts_of slices) refusal
refused_at slices i number d old (Fault (Faulty found fault)) so inside is reads =
    subst (λ n. IsFirstFault (texts_of slices) n fault) (sym (reads.0 ∙ is)) (first_fault slices i d old fault so inside reads.1)
refused_at slices i number d old (Fault TooLong) so inside is reads = absurd reads
refused_at slices i number d old (Fault TooMany) so inside is reads = absurd reads
refused_at slices i number d old NoMemory so inside is reads = tt

pub all_read : (slices : List (Bor (List ℕ))) (i : ℕ) (queries : List TypedQuery) → ReadSoFar slices i queries → length slices ≤ i
    → AllZip IsQuery (texts_of slices) (trees_of queries)
all_read slices i queries so over = subst (λ l. AllZip IsQuery (texts_of l) (trees_of queries)) (take_all i slices over) so.are

-- ---- the file

few_pieces : (text : List ℕ) (slices : List (Bor (List ℕ))) → texts_of slices ≡ pieces text → length slices ≤ most_queries → length (pieces text) ≤ most_queries
few_pieces text slices are few =
    let same = ap length are in
    let long = length-map slices (λ (x : Bor (List ℕ)). x.now) in
    omega (arith, few, same, long)

pub pieces_read : {T : Type 0} (shown : T → List QueryTree) (text : List ℕ) (slices : List (Bor (List ℕ))) (result : Result T (Refusal ManyFault))
    → length text ≤ most_in_file → texts_of slices ≡ pieces text → length slices ≤ most_queries → ReadsPieces shown (texts_of slices) result → ReadsText queries_file_kind shown text result
pieces_read shown text slices (Ok found) short are few reads = record {
  short = short;
  few = few_pieces text slices are few;
  are = subst (λ ts. AllZip IsQuery ts (shown found)) are reads;
}
pieces_read shown text slices (Err (Fault (Faulty number fault))) short are few reads =
    (short, few_pieces text slices are few, subst (λ ts. IsFirstFault ts number fault) are reads)
pieces_read shown text slices (Err (Fault TooLong)) short are few reads = absurd reads
pieces_read shown text slices (Err (Fault TooMany)) short are few reads = absurd reads
pieces_read shown text slices (Err NoMemory) short are few reads = tt

-- a file of queries has one to sixteen
pub held_few : (text : List ℕ) (queries slice : List TypedQuery) → slice ≡ queries → HoldsQueries text (trees_of queries) → (1 ≤ length slice) × (length slice ≤ 16)
held_few text queries slice same holds =
    let some = some_pieces text in
    let few = holds.few in
    let each = zip_length IsQuery (pieces text) (trees_of queries) holds.are in
    let long = length-map queries (λ (q : TypedQuery). query_tree q.query) in
    let as_many = ap length same in
    (omega (arith, some, each, long, as_many), omega (arith, few, each, long, as_many))
