use Rattle.cq_bits.proofs.Union.{all_attacks}
use Rattle.cq_bits.proofs.attacks.attacked_at_once.Goals as goal

pub returns : goal.returns
returns c =
    all_attacks c.args.position.now.men c.args.from c.chosen-empty.result c.chosen-straight.result c.chosen-diagonal.result c.slide.result c.slide-2.result c.slide-3.result
    c.slide-4.result c.slide-5.result c.slide-6.result c.slide-7.result c.slide-8.result c.leaps.result c.chosen-empty.ensures c.chosen-straight.ensures c.chosen-diagonal.ensures
    record {
      up = c.slide.ensures;
      down = c.slide-2.ensures;
      left = c.slide-3.ensures;
      right = c.slide-4.ensures;
      northeast = c.slide-5.ensures;
      northwest = c.slide-6.ensures;
      southeast = c.slide-7.ensures;
      southwest = c.slide-8.ensures;
    }
    c.leaps.ensures
