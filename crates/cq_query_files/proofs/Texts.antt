-- The result of reading a query, from the results of its steps.
use Rattle.std.proofs.Common.{◌≡◌, List, ℕ, Option, Some, None, Ok, Err, subst, inl, inr}
use Rattle.std.specs.Prelude.{Result}
use Rattle.cql_syntax.specs.Limits.{most_open}
use Rattle.cq_common.specs.Refusals.{Gives, Refuses}
use Rattle.cq_common.specs.declared.faults.Refusal.{Refusal}
use Rattle.cq_common.specs.declared.faults.Refusal.TheVariants.{Fault, NoMemory}
use Rattle.cql_syntax.specs.TreeFaults.{tree_fault, checked, ok_unless}
use Rattle.cql_syntax.specs.TreeOf.{query_tree}
use Rattle.cql_syntax.specs.Trees.{QueryTree}
use Rattle.cql_syntax.specs.declared.fault.QueryFault.{QueryFault}
use Rattle.cql_syntax.specs.declared.token.QueryToken.{QueryToken}
use Rattle.cql_syntax.specs.declared.typed_query.TypedQuery.{TypedQuery}
use Rattle.cql_lexer.specs.Tokens.{tokens_of}
use Rattle.cql_parser.specs.PartialFilters.{Spells}
use Rattle.cql_parser.specs.Faults.{IsFault}
use Rattle.cq_query_files.specs.QueryReading.{ReadsQuery}

pub untokened : (text : List ℕ) (refusal : Refusal QueryFault) → Refuses refusal (tokens_of text) → ReadsQuery text (Err refusal)
untokened text (Fault fault) e = inl e
untokened text NoMemory e = tt

abbrev pub Unparsed : List QueryToken → Refusal QueryFault → Type 0
Unparsed tokens (Fault fault) = IsFault tokens fault
Unparsed tokens NoMemory = Unit {0}

pub unparsed : (text : List ℕ) (tokens : List QueryToken) (refusal : Refusal QueryFault) → tokens_of text ≡ Ok tokens → Unparsed tokens refusal → ReadsQuery text (Err refusal)
unparsed text tokens (Fault fault) e is = inr (inl (record { tokens = tokens; are_tokens = e; is_fault = is }))
unparsed text tokens NoMemory e is = tt

ok_is : (o : Option QueryFault) (q t : QueryTree) → ok_unless q o ≡ Ok t → q ≡ t
ok_is None q t e = cc
ok_is (Some f) q t e = cc

fault_is : (o : Option QueryFault) (q : QueryTree) (f : QueryFault) → ok_unless q o ≡ Err f → o ≡ Some f
fault_is None q f e = cc
fault_is (Some g) q f e = cc

pub parsed : (text : List ℕ) (tokens : List QueryToken) (q : QueryTree) (result : Result TypedQuery (Refusal QueryFault)) → tokens_of text ≡ Ok tokens → Spells most_open tokens q
    → Gives (λ typed. query_tree typed.query) result (checked q) → ReadsQuery text result
parsed text tokens q (Ok typed) e spells gives = record {
  tokens = tokens;
  are_tokens = e;
  spells = subst (Spells most_open tokens) (ok_is (tree_fault q) q (query_tree typed.query) gives) spells;
  unbroken = typed.accepted;
}
parsed text tokens q (Err (Fault fault)) e spells gives = inr (inr (record { tokens = tokens; are_tokens = e; query = q; spells = spells; broken = fault_is (tree_fault q) q fault gives }))
parsed text tokens q (Err NoMemory) e spells gives = tt
