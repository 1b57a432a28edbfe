use Rattle.std.proofs.Common.{sym, subst}
use Rattle.cql_syntax.specs.Hits.{is_hit}
use Rattle.cql_syntax.specs.TreeOf.{filters_tree}
use Rattle.cql_values.specs.Trees.{searched_tree}
use Rattle.cql_columns.specs.Columns.{IsNodeSet}
use Rattle.cql_candidates.specs.Classes.{IsLeft}
use Rattle.cql_eval.specs.Hits.{hits_of}
use Rattle.cql_eval.proofs.HitsLaw.{all_asked, hits_whole}
use Rattle.cql_eval.proofs.query.hit_columns.Goals as goal

pub columns_of-requires : goal.columns_of-requires
columns_of-requires g c =
    let tree = searched_tree c.args.game.now c.args.query.now.variations in
    subst (IsNodeSet tree) (sym c.deref.ensures.value) (all_asked tree c.in_ok-all.all.items c.in_ok-all.ensures.nodes)

pub returns-clause-hits : goal.returns-clause-hits
returns-clause-hits g c =
    let tree = searched_tree c.args.game.now c.args.query.now.variations in
    let items = filters_tree c.args.query.now.items in
    hits_whole tree c.in_ok-all.all.items (hits_of c.in_ok-column.column) items c.in_ok-all.ensures.nodes
    (subst (λ l. IsLeft tree l (is_hit tree items) (hits_of c.in_ok-column.column)) c.deref.ensures.value c.in_ok-column.ensures.left)

pub returns-clause-nodes : goal.returns-clause-nodes
returns-clause-nodes g c = c.in_ok-column.ensures.left.asked.count
