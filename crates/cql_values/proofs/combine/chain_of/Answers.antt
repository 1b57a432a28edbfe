use Rattle.std.proofs.Common.{arith, ap, ◌∙◌, sym, inl, inr}
use Rattle.cql_values.specs.ValueModel.{as_value}
use Rattle.cql_syntax.specs.Values as spec
use Rattle.cql_values.proofs.Masks.{union_is, intersection_is}
use Rattle.cql_values.proofs.Ranges.{any_mapped, all_mapped}
use Rattle.cql_values.proofs.combine.chain_of.Goals as goal

pub returns-in-Or : goal.returns-in-Or
returns-in-Or c = rw c.in-Or.is (ap spec.as_truth (c.some_holds.ensures ∙ sym (any_mapped spec.holds as_value c.args.values.now)))

pub returns-in-And : goal.returns-in-And
returns-in-And c = let same = ap spec.as_truth (c.all_hold.ensures ∙ sym (all_mapped spec.holds as_value c.args.values.now)) in elim c.in-And.is [ inl e ↦ rw e same | inr e ↦ rw e same ]

pub returns-in-Union : goal.returns-in-Union
returns-in-Union c = rw c.in-Union.is (ap spec.as_squares (union_is c.union.result c.args.values.now as_value spec.has (omega arith) c.union.ensures))

pub returns-in-Intersect : goal.returns-in-Intersect
returns-in-Intersect c = rw c.in-Intersect.is (ap spec.as_squares (intersection_is c.intersection.result c.args.values.now as_value spec.has (omega arith) c.intersection.ensures))
