-- The context in which squares of a name are tried, as the lemmas take it.
use Rattle.cql_columns.specs.Scopes.{tree_in}
use Rattle.cql_eval.specs.declared.evaluate.trial.Trial.{Trial}
use Rattle.cql_candidates.proofs.CoverForms.{Tried}

abbrev pub tried : Trial → Tried
tried t = record { tree = tree_in t.scope.now; live = t.live.now; opened = t.opened.now; outer = t.scope.now.names.now; name = t.name.now }
