use Rattle.std.proofs.Common.{ℕ, ◌==◌, not, get_or, ◌∙◌, subst, sym, arith}
use Rattle.cql_columns.specs.Columns.{AreKept}
use Rattle.cql_columns.specs.Scopes.{tree_in}
use Rattle.cql_columns.proofs.Filling.{part_asked}
use Rattle.cql_columns.proofs.Keeping.{written}
use Rattle.cql_candidates.specs.Covers.{HasSome}
use Rattle.cql_candidates.proofs.covers.with_squares.Goals as goal

pub returns : goal.returns
returns c =
    let tree = tree_in c.args.scope.now in
    let test = λ (n : ℕ). not (get_or c.args.sets.now n 0 == 0) in
    let left = c.keep_some.new.left in
    let kept = subst (λ l. AreKept test l left) (c.deref_mut.ensures.value ∙ c.in_ok-some.ensures) c.keep_some.ensures in
    subst (HasSome tree c.args.live.now c.args.sets.now)
    (sym (written c.in_ok-some.some.len left c.in_ok-some.some.items (omega (arith, c.keep_some.ensures.count, c.deref_mut.ensures.len))))
    (record { asked = part_asked tree c.args.live.now left test c.requires.asked kept.count kept.each; each = kept.each })
