-- Every file of queries is accepted or has a fault, and has one outcome.
use Rattle.std.proofs.Common.{leb-true, leb-false, ◌≡◌, ◌⊎◌, inl, inr, ℕ, zero, suc, ◌+◌, ◌≤◌, Bool, true, false, List, [], ◌∷◌, ◌++◌, length, arith, refl, ap, ap₂, sym, ◌∙◌, subst}
use Rattle.std.specs.Prelude.{nat_le}
use Rattle.std.specs.List.{AllZip}
use Rattle.cql_syntax.specs.Trees.{QueryTree}
use Rattle.cql_syntax.specs.declared.fault.QueryFault.{QueryFault}
use Rattle.cq_query_files.specs.declared.query_files.ManyFault.{ManyFault}
use Rattle.cq_query_files.specs.declared.query_files.ManyFault.TheVariants.{TooLong, TooMany, Faulty}
use Rattle.cq_query_files.specs.Queries.{IsQuery, IsQueryFault}
use Rattle.cq_query_files.specs.QueryFiles.{HoldsQueries, IsFirstFault, IsManyFault, most_in_file, most_queries, pieces}
use Rattle.cq_query_files.proofs.EveryText.{IsOneOfBoth}
use Rattle.cq_query_files.proofs.QueryFiles.{TextNone, held_unfaulty}

-- the laws of texts

abbrev pub EachText : Type 0
EachText = (text : List ℕ) → IsOneOfBoth text

abbrev pub TextFaultOne : Type 0
TextFaultOne = (text : List ℕ) (f g : QueryFault) → IsQueryFault text f → IsQueryFault text g → f ≡ g

not_of_both : (text : List ℕ) (q : QueryTree) (f : QueryFault) → IsOneOfBoth text → IsQuery text q → IsQueryFault text f → ⊥
not_of_both text q f (inl a) is fault = a.1 f fault
not_of_both text q f (inr a) is fault = a.1 q is

pub not_both : EachText → TextNone
not_both each text q f is fault = not_of_both text q f (each text) is fault

-- ---- every file has an outcome

-- some texts are queries, or one of them is the first with a fault
abbrev AreOrFault : List (List ℕ) → Type 0
AreOrFault texts =
    ((qs : List QueryTree) × AllZip IsQuery texts qs) ⊎ ((number : ℕ) × (fault : QueryFault) × IsFirstFault texts number fault)

fault_behind : (text : List ℕ) (texts : List (List ℕ)) (q : QueryTree) (number : ℕ) (fault : QueryFault) → IsQuery text q → IsFirstFault texts number fault
    → IsFirstFault (text ∷ texts) (number + 1) fault
fault_behind text texts q number fault is first =
    let number_is = first.number_is in
    record {
      before = text ∷ first.before;
      queries = q ∷ first.queries;
      are = (is, first.are);
      text = first.text;
      is = first.is;
      after = first.after;
      among = ap (λ ts. text ∷ ts) first.among;
      number_is = omega (arith, number_is);
    }

query_first : (text : List ℕ) (texts : List (List ℕ)) (q : QueryTree) → IsQuery text q → AreOrFault texts → AreOrFault (text ∷ texts)
query_first text texts q is (inl all) = inl (q ∷ all.0, (is, all.1))
query_first text texts q is (inr found) = inr (found.0 + 1, found.1, fault_behind text texts q found.0 found.1 is found.2)

text_first : (text : List ℕ) (texts : List (List ℕ)) → IsOneOfBoth text → AreOrFault texts → AreOrFault (text ∷ texts)
text_first text texts (inl is) rest = query_first text texts is.0.0 is.0.1 rest
text_first text texts (inr is) rest =
    inr (1, is.0.0, record { before = []; queries = []; are = tt; text = text; is = is.0.1; after = texts; among = refl; number_is = refl })

are_or_fault : EachText → (texts : List (List ℕ)) → AreOrFault texts
are_or_fault each [] = inl ([], tt)
are_or_fault each (t ∷ ts) = text_first t ts (each t) (are_or_fault each ts)

abbrev HasOutcome : List ℕ → Type 0
HasOutcome text = ((qs : List QueryTree) × HoldsQueries text qs) ⊎ ((f : ManyFault) × IsManyFault text f)

of_pieces : (text : List ℕ) → length text ≤ most_in_file → length (pieces text) ≤ most_queries → AreOrFault (pieces text) → HasOutcome text
of_pieces text short few (inl all) = inl (all.0, record { short = short; few = few; are = all.1 })
of_pieces text short few (inr found) = inr (Faulty found.0 found.1, (short, few, found.2))

of_short : EachText → (text : List ℕ) → length text ≤ most_in_file → (t : Bool) → nat_le (length (pieces text)) most_queries ≡ t → HasOutcome text
of_short each text short true e = of_pieces text short (leb-true (length (pieces text)) most_queries e) (are_or_fault each (pieces text))
of_short each text short false e = inr (TooMany, (short, leb-false (length (pieces text)) most_queries e))

of_file : EachText → (text : List ℕ) (t : Bool) → nat_le (length text) most_in_file ≡ t → HasOutcome text
of_file each text true e = of_short each text (leb-true (length text) most_in_file e) (nat_le (length (pieces text)) most_queries) refl
of_file each text false e = inr (TooLong, leb-false (length text) most_in_file e)

abbrev HasOneOutcome : List ℕ → Type 0
HasOneOutcome text =
    (((qs : List QueryTree) × HoldsQueries text qs) × ((f : ManyFault) → IsManyFault text f → ⊥))
    ⊎ (((f : ManyFault) × IsManyFault text f) × ((qs : List QueryTree) → HoldsQueries text qs → ⊥))

not_other : TextNone → (text : List ℕ) → HasOutcome text → HasOneOutcome text
not_other none text (inl held) = inl (held, λ f fault. held_unfaulty none text held.0 f fault held.1)
not_other none text (inr found) = inr (found, λ qs holds. held_unfaulty none text qs found.0 found.1 holds)

pub file_outcome : EachText → (text : List ℕ) → HasOneOutcome text
file_outcome each text = not_other (not_both each) text (of_file each text (nat_le (length text) most_in_file) refl)

-- ---- and one

-- after so many queries a text has this fault
abbrev FaultAt : List (List ℕ) → ℕ → QueryFault → Type 0
FaultAt [] n f = ⊥
FaultAt (t ∷ ts) zero f = IsQueryFault t f
FaultAt (t ∷ ts) (suc n) f = ((q : QueryTree) × IsQuery t q) × FaultAt ts n f

fault_at : (before : List (List ℕ)) (qs : List QueryTree) (text : List ℕ) (after : List (List ℕ)) (f : QueryFault) → AllZip IsQuery before qs → IsQueryFault text f
    → FaultAt (before ++ text ∷ after) (length before) f
fault_at [] [] text after f are is = is
fault_at [] (q ∷ qs) text after f are is = absurd are
fault_at (t ∷ ts) [] text after f are is = absurd are
fault_at (t ∷ ts) (q ∷ qs) text after f are is = ((q, are.0), fault_at ts qs text after f are.1 is)

first_at : (texts : List (List ℕ)) (number : ℕ) (f : QueryFault) (first : IsFirstFault texts number f) → FaultAt texts (length first.before) f
first_at texts number f first =
    subst (λ ts. FaultAt ts (length first.before) f) (sym first.among)
    (fault_at first.before first.queries first.text first.after f first.are first.is)

one_place : TextNone → TextFaultOne → (texts : List (List ℕ)) (n m : ℕ) (f g : QueryFault) → FaultAt texts n f → FaultAt texts m g → (n ≡ m) × (f ≡ g)
one_place none one [] n m f g is other = absurd is
one_place none one (t ∷ ts) zero zero f g is other = (refl, one t f g is other)
one_place none one (t ∷ ts) zero (suc m) f g is other = absurd (none t other.0.0 f other.0.1 is)
one_place none one (t ∷ ts) (suc n) zero f g is other = absurd (none t is.0.0 g is.0.1 other)
one_place none one (t ∷ ts) (suc n) (suc m) f g is other =
    let rest = one_place none one ts n m f g is.1 other.1 in
    (ap suc rest.0, rest.1)

one_first : TextNone → TextFaultOne → (texts : List (List ℕ)) (n m : ℕ) (f g : QueryFault) → IsFirstFault texts n f → IsFirstFault texts m g → (n ≡ m) × (f ≡ g)
one_first none one texts n m f g first other =
    let same = one_place none one texts (length first.before) (length other.before) f g (first_at texts n f first) (first_at texts m g other) in
    (first.number_is ∙ ap (λ k. k + 1) same.0 ∙ sym other.number_is, same.1)

pub one_many_fault : TextNone → TextFaultOne → (text : List ℕ) (f g : ManyFault) → IsManyFault text f → IsManyFault text g → f ≡ g
one_many_fault none one text TooLong TooLong is other = refl
one_many_fault none one text TooLong TooMany is other = let short = other.0 in absurd (omega (arith, is, short))
one_many_fault none one text TooLong (Faulty m g) is other = let short = other.0 in absurd (omega (arith, is, short))
one_many_fault none one text TooMany TooLong is other = let short = is.0 in absurd (omega (arith, other, short))
one_many_fault none one text TooMany TooMany is other = refl
one_many_fault none one text TooMany (Faulty m g) is other = let many = is.1 in let few = other.1 in absurd (omega (arith, many, few))
one_many_fault none one text (Faulty n f) TooLong is other = let short = is.0 in absurd (omega (arith, other, short))
one_many_fault none one text (Faulty n f) TooMany is other = let many = other.1 in let few = is.1 in absurd (omega (arith, many, few))
one_many_fault none one text (Faulty n f) (Faulty m g) is other =
    let same = one_first none one (pieces text) n m f g is.2 other.2 in
    ap₂ (λ (k : ℕ) (h : QueryFault). Faulty k h) same.0 same.1
