use Rattle.std.proofs.Common.{◌∙◌, ap, get_or}
use Rattle.cq_symmetry.specs.Images.{is_in}
use Rattle.cql_eval.proofs.evaluate.goals.moves_to_square.Goals as goal

pub returns : goal.returns
returns c = λ n. (
  get_or c.deref.result.now n 0,
  (λ a. ap (λ s. is_in (get_or s n 0)) c.deref.ensures.value ∙ c.in_ok-sets.ensures.each n a),
  c.in_ok-truths.ensures n,
)
