use Rattle.cq_shards.proofs.OneWay.{one_order_by_keys}
use Rattle.cq_shards.proofs.laws.answers_have_one_order.Goals as goal

pub returns-clause-keys : goal.returns-clause-keys
returns-clause-keys c = one_order_by_keys
