-- Verdicts as their callers see them.
use Rattle.std.specs.Prelude.{ℕ, ℤ, List}
use Rattle.cql_plan.specs.declared.verdict.Verdict.{Verdict}

-- the numbers of the nodes at which a query hits
abbrev pub nodes_of : Verdict → List ℕ
nodes_of v = v.nodes.items

-- the keys of its sort items
abbrev pub keys_of : Verdict → List ℤ
keys_of v = v.keys.items
