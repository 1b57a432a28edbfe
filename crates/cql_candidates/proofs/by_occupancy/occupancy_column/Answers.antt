use Rattle.std.proofs.Common.{◌≡◌, ◌∙◌, [], sym, subst, arith}
use Rattle.std.specs.List.{list_all}
use Rattle.cql_syntax.specs.Meaning.{values}
use Rattle.cql_syntax.specs.TreeOf.{filter_trees}
use Rattle.cql_syntax.specs.Values.{holds}
use Rattle.cql_columns.specs.Columns.{is_live, AreKept, Where}
use Rattle.cql_columns.proofs.Keeping.{written}
use Rattle.cql_candidates.specs.Occupancy.{AreOccupancies}
use Rattle.cql_candidates.proofs.OccupancyColumnLaw.{kept_there}
use Rattle.cql_candidates.proofs.by_occupancy.occupancy_column.Goals as goal

pub returns-then-told : goal.returns-then-told
returns-then-told c = λ tree e are.
    subst (λ l. Where c.args.live.now (λ n. is_live l n ≡ list_all holds (values tree [] e (filter_trees c.args.parts.now) n)))
    (sym (written c.in_ok-held.held.len c.keep_all-told.new.held c.in_ok-held.held.items (omega (arith, c.keep_all-told.ensures.len, c.deref_mut.ensures.len))))
    (kept_there (λ n. list_all holds (values tree [] e (filter_trees c.args.parts.now) n)) c.args.live.now c.keep_all-told.new.held
    (subst (λ l. AreKept (λ n. list_all holds (values tree [] e (filter_trees c.args.parts.now) n)) l c.keep_all-told.new.held) (c.deref_mut.ensures.value ∙ c.in_ok-held.ensures)
    (c.keep_all-told.ensures.kept c.if-told.true tree e
    (subst (λ l. AreOccupancies tree l c.args.image_scope.now.occupancies.now) (sym (c.deref_mut.ensures.value ∙ c.in_ok-held.ensures)) are))))
