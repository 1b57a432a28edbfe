use Rattle.std.proofs.Common.{refl}
use Rattle.cql_syntax.specs.TreeOf.{filter_tree}
use Rattle.cql_local.proofs.Seeking.{move_sought, any_sought}
use Rattle.cql_local.proofs.moves_sought.moves_sought.Goals as goal

pub returns-in-Played : goal.returns-in-Played
returns-in-Played c = move_sought c.args.names.now c.args.f.now c.in-Played.played _ c.in-Played.is c.squares_met.ensures c.squares_met-in-Played.ensures

pub returns-in_default : goal.returns-in_default
returns-in_default c = any_sought c.args.names.now (filter_tree c.args.f.now) _ refl
