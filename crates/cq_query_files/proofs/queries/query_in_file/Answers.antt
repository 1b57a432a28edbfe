use Rattle.std.proofs.Common.{Err, ap, ◌∙◌, subst}
use Rattle.std.proofs.lemmas.Result.{err_from_is_err_and}
use Rattle.cql_syntax.specs.TreeOf.{query_tree}
use Rattle.cq_query_files.specs.Views.{desk_view}
use Rattle.cq_query_files.specs.Queries.{IsQuery, IsQueryFault}
use Rattle.cq_query_files.specs.Files.{query_file_kind}
use Rattle.cq_query_files.proofs.Opening.{no_memory_after, untaken}
use Rattle.cq_query_files.proofs.queries.query_in_file.Goals as goal

pub returns-in_err-text : goal.returns-in_err-text
returns-in_err-text g c =
    let view = desk_view g.D.Desk.told g.D.Source.left g.D.Source.faults g.D.Desk.open_faults in
    let p = err_from_is_err_and c.from_residual.result c.from_residual.ensures.1 in
    rw (p.1, p.2)
    (untaken query_file_kind c.args.name.now (view c.args.desk.now) (view c.text_in_file.new.desk) c.in_err-text.field-0.0 c.in_err-text.ensures)

pub returns-in-Ok : goal.returns-in-Ok
returns-in-Ok g c =
    (c.in_ok-text.text, c.in_ok-text.ensures, subst (λ t. IsQuery t (query_tree c.in-Ok.query.query)) c.as_slice.ensures c.in-Ok.ensures)

pub returns-in-Err-Fault : goal.returns-in-Err-Fault
returns-in-Err-Fault g c =
    let e = c.in-Err-Fault.is ∙ ap Err c.in-Err-Fault.field-0-is in
    let faulty = rw e at c.read_query.ensures in
    (c.in_ok-text.text, c.in_ok-text.ensures, subst (λ t. IsQueryFault t c.in-Err-Fault.fault) c.as_slice.ensures faulty)

pub returns : goal.returns
returns g c =
    let view = desk_view g.D.Desk.told g.D.Source.left g.D.Source.faults g.D.Desk.open_faults in
    no_memory_after _ c.args.name.now (view c.args.desk.now) (view c.text_in_file.new.desk) c.in_ok-text.text c.in_ok-text.ensures
