-- Every text is a query or has a fault, and not both.
use Rattle.std.proofs.Common.{◌≡◌, ◌⊎◌, inl, inr, ℕ, List, Option, None, Some, refl}
use Rattle.cql_syntax.specs.TreeFaults.{tree_fault}
use Rattle.cql_syntax.specs.Trees.{QueryTree}
use Rattle.cql_syntax.specs.declared.fault.QueryFault.{QueryFault}
use Rattle.cql_parser.specs.Texts.{TextSpells, IsTextFault}
use Rattle.cq_query_files.specs.Queries.{IsQuery, IsQueryFault}
use Rattle.cq_query_files.proofs.OneOutcome.{SpellOne, SpellNone, no_fault}

abbrev pub IsOneOfBoth : List ℕ → Type 0
IsOneOfBoth text =
    (((q : QueryTree) × IsQuery text q) × ((f : QueryFault) → IsQueryFault text f → ⊥))
    ⊎ (((f : QueryFault) × IsQueryFault text f) × ((q : QueryTree) → IsQuery text q → ⊥))

is_query : SpellOne → SpellNone → (text : List ℕ) (q : QueryTree) → IsQuery text q → IsOneOfBoth text
is_query one none text q is = inl ((q, is), λ f fault. no_fault one none text q f is fault)

is_faulty : SpellOne → SpellNone → (text : List ℕ) (f : QueryFault) → IsQueryFault text f → IsOneOfBoth text
is_faulty one none text f fault = inr ((f, fault), λ q is. no_fault one none text q f is fault)

spelled : SpellOne → SpellNone → (text : List ℕ) (q : QueryTree) (fault : Option QueryFault) → tree_fault q ≡ fault → TextSpells text q → IsOneOfBoth text
spelled one none text q None is spells =
    is_query one none text q (record { tokens = spells.0; are_tokens = spells.1; spells = spells.2; unbroken = is })
spelled one none text q (Some f) is spells =
    is_faulty one none text f
    (inr (inr (record { tokens = spells.0; are_tokens = spells.1; query = q; spells = spells.2; broken = is })))

faulty : SpellOne → SpellNone → (text : List ℕ) (f : QueryFault) → IsTextFault text f → IsOneOfBoth text
faulty one none text f (inl lexical) = is_faulty one none text f (inl lexical)
faulty one none text f (inr parse) =
    is_faulty one none text f (inr (inl (record { tokens = parse.0; are_tokens = parse.1; is_fault = parse.2 })))

pub one_of_both : SpellOne → SpellNone → (text : List ℕ) → ((q : QueryTree) × TextSpells text q) ⊎ ((f : QueryFault) × IsTextFault text f)
    → IsOneOfBoth text
one_of_both one none text (inl found) = spelled one none text found.0 (tree_fault found.0) refl found.1
one_of_both one none text (inr found) = faulty one none text found.0 found.1
