-- A file of queries is one list of queries at most, or has a fault.
use Rattle.std.proofs.Common.{◌≡◌, ℕ, List, [], ◌∷◌, ◌++◌, arith, refl, ap₂, subst}
use Rattle.std.specs.List.{AllZip}
use Rattle.cql_syntax.specs.Trees.{QueryTree}
use Rattle.cql_syntax.specs.declared.fault.QueryFault.{QueryFault}
use Rattle.cq_query_files.specs.declared.query_files.ManyFault.{ManyFault}
use Rattle.cq_query_files.specs.declared.query_files.ManyFault.TheVariants.{TooLong, TooMany, Faulty}
use Rattle.cq_query_files.specs.Queries.{IsQuery, IsQueryFault}
use Rattle.cq_query_files.specs.QueryFiles.{HoldsQueries, IsManyFault, pieces}
use Rattle.cq_query_files.proofs.OneOutcome.{SpellOne, SpellNone, one_query, no_fault}

-- the laws of texts

abbrev pub TextOne : Type 0
TextOne = (text : List ℕ) (q r : QueryTree) → IsQuery text q → IsQuery text r → q ≡ r

abbrev pub TextNone : Type 0
TextNone = (text : List ℕ) (q : QueryTree) (f : QueryFault) → IsQuery text q → IsQueryFault text f → ⊥

same_each : TextOne → (texts : List (List ℕ)) (qs rs : List QueryTree) → AllZip IsQuery texts qs → AllZip IsQuery texts rs → qs ≡ rs
same_each one [] [] [] are also = refl
same_each one [] [] (r ∷ rs) are also = absurd also
same_each one [] (q ∷ qs) rs are also = absurd are
same_each one (t ∷ ts) [] rs are also = absurd are
same_each one (t ∷ ts) (q ∷ qs) [] are also = absurd also
same_each one (t ∷ ts) (q ∷ qs) (r ∷ rs) are also =
    ap₂ (λ (x : QueryTree) (xs : List QueryTree). x ∷ xs) (one t q r are.0 also.0) (same_each one ts qs rs are.1 also.1)

pub held_once : TextOne → (text : List ℕ) (qs rs : List QueryTree) → HoldsQueries text qs → HoldsQueries text rs → qs ≡ rs
held_once one text qs rs holds also = same_each one (pieces text) qs rs holds.are also.are

pub same_queries : SpellOne → (text : List ℕ) (qs rs : List QueryTree) → HoldsQueries text qs → HoldsQueries text rs → qs ≡ rs
same_queries one text qs rs holds also = held_once (one_query one) text qs rs holds also

-- one text among some that are queries is one
query_among : (before : List (List ℕ)) (text : List ℕ) (after : List (List ℕ)) (qs : List QueryTree) → AllZip IsQuery (before ++ text ∷ after) qs
    → (q : QueryTree) × IsQuery text q
query_among [] text after [] are = absurd are
query_among [] text after (q ∷ qs) are = (q, are.0)
query_among (t ∷ ts) text after [] are = absurd are
query_among (t ∷ ts) text after (q ∷ qs) are = query_among ts text after qs are.1

pub held_unfaulty : TextNone → (text : List ℕ) (qs : List QueryTree) (fault : ManyFault) → IsManyFault text fault → HoldsQueries text qs → ⊥
held_unfaulty none text qs TooLong long holds = let short = holds.short in omega (arith, short, long)
held_unfaulty none text qs TooMany is holds = let many = is.1 in let few = holds.few in omega (arith, few, many)
held_unfaulty none text qs (Faulty number fault) is holds =
    let first = is.2 in
    let found = query_among first.before first.text first.after qs (subst (λ ts. AllZip IsQuery ts qs) first.among holds.are) in
    none first.text found.0 fault found.1 first.is

pub no_many_fault : SpellOne → SpellNone → (text : List ℕ) (qs : List QueryTree) (fault : ManyFault) → IsManyFault text fault → HoldsQueries text qs → ⊥
no_many_fault one none text qs fault is holds = held_unfaulty (no_fault one none) text qs fault is holds
