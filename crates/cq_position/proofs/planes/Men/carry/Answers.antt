use Rattle.std.proofs.Common.{List, refl, sym, ap, ◌∙◌, arith}
use Rattle.std.specs.Prelude.{slice_set}
use Rattle.cq_position.specs.declared.men.Man.{Man}
use Rattle.cq_position.specs.declared.men.Man.TheVariants.{Empty}
use Rattle.cq_position.specs.Board.{man_at}
use Rattle.cq_position.specs.Planes.{man_numbered}
use Rattle.cq_square_sets.specs.Planes.{list_of}
use Rattle.cq_square_sets.proofs.Words.{list_at, with_one, with_one_below}
use Rattle.cq_position.proofs.planes.Men.carry.Goals as goal

pub invariant_of-self : goal.invariant_of-self
invariant_of-self c =
    let i = c.self.inside in
    let a = c.moved_bit-self-inside.ensures.word in let b = c.moved_bit-self-inside-2.ensures.word in
    let d = c.moved_bit-self-inside-3.ensures.word in let e = c.moved_bit-self-inside-4.ensures.word in
    let emptied = with_one_below 13 i.ones i.twos i.fours i.eights a.between b.between d.between e.between c.args.from 0 0 1 1 c.self.invariant (omega arith)
    a.emptied b.emptied d.emptied e.emptied in
    with_one_below 13 a.between b.between d.between e.between _ _ _ _ c.args.to _ _ _ _ emptied
    (c.self.invariant.numbers c.args.from c.moved_bit-self-inside.ensures.from) a.filled b.filled d.filled e.filled

pub returns : goal.returns
returns c =
    let i = c.self.inside in
    let a = c.moved_bit-self-inside.ensures.word in let b = c.moved_bit-self-inside-2.ensures.word in
    let d = c.moved_bit-self-inside-3.ensures.word in let e = c.moved_bit-self-inside-4.ensures.word in
    let there = list_at man_numbered Empty i.ones i.twos i.fours i.eights c.args.from c.moved_bit-self-inside.ensures.from in
    let emptied = with_one man_numbered i.ones i.twos i.fours i.eights a.between b.between d.between e.between c.args.from 0 0 1 1 Empty
    c.moved_bit-self-inside.ensures.from a.emptied b.emptied d.emptied e.emptied refl in
    rw (← c.self.view_is)
    (with_one man_numbered a.between b.between d.between e.between _ _ _ _ c.args.to _ _ _ _
    (man_at (list_of man_numbered i.ones i.twos i.fours i.eights) c.args.from) c.moved_bit-self-inside.ensures.to
    a.filled b.filled d.filled e.filled (sym there)
    ∙ ap (λ (men : List Man). slice_set men c.args.to (man_at (list_of man_numbered i.ones i.twos i.fours i.eights) c.args.from)) emptied)
