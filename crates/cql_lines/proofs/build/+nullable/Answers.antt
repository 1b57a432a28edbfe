use Rattle.std.proofs.Common.{◌∙◌, sym, arith, ap}
use Rattle.std.proofs.lemmas.Bool.{lt-leb}
use Rattle.cql_lines.specs.Building.{nullable}
use Rattle.cql_lines.specs.Internal.BinaryPatterns.{plain_tree}
use Rattle.cql_lines.proofs.BuildSteps.{null_enough, null_few}
use Rattle.cql_lines.proofs.build.+nullable.Goals as goal

pub returns-then-m-n : goal.returns-then-m-n
returns-then-m-n t c = rw c.in-Times.is (let d = c.deref-then-m-n.ensures in c.is_nullable-then-m-n.ensures ∙ ap (λ q. nullable (plain_tree q)) d
    ∙ null_enough (nullable (plain_tree c.in-Times.a.value)) c.in-Times.m c.in-Times.n (omega (arith, c.if-m-eq0.false)) c.if-m-n.true)

pub returns-else-m-n : goal.returns-else-m-n
returns-else-m-n t c = rw c.in-Times.is (lt-leb c.in-Times.m c.in-Times.n c.if-m-n.false ∙ sym (null_few (nullable (plain_tree c.in-Times.a.value)) c.in-Times.m c.in-Times.n c.if-m-n.false))
