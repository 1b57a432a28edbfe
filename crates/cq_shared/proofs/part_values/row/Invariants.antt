use Rattle.std.proofs.Common.{get_or, false, None, [], cond}
use Rattle.cql_eval.specs.Hits.{hits_of, keys_of}
use Rattle.cq_shared.proofs.Unions.{Filled}
use Rattle.cq_shared.proofs.part_values.row.Given as goal

abbrev pub invariant-loop-k : goal.invariant-loop-k
invariant-loop-k l =
    Filled None (λ n. cond (get_or (hits_of l.column) n false) (get_or (get_or (keys_of l.column) 0 []) n None) None) l.k l.row.items
