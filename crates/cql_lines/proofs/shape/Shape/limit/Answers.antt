use Rattle.std.proofs.Common.{◌≡◌, ◌≤◌, subst}
use Rattle.cql_lines.specs.Limits.{longest_limit}
use Rattle.cql_lines.specs.declared.shape.Limits.{Limits}
use Rattle.cql_lines.proofs.shape.Shape.limit.Goals as goal

pub invariant_of-self : goal.invariant_of-self
invariant_of-self c =
    let old = c.args.self.now in
    record {
      below = old.below;
      whole = old.whole;
      short = λ e is. (let same : record { least = c.args.least; most = c.args.most } ≡ e = cc in subst (λ (x : Limits). x.most ≤ longest_limit) same c.requires.most.1);
    }
