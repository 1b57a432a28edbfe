use Rattle.std.proofs.Common.{◌<◌, ◌≤◌, Global, Vec, length, arith}
use Rattle.cq_shards.specs.Many.{answers_in}
use Rattle.cq_shards.specs.declared.answers.GameAnswer.{GameAnswer}
use Rattle.cq_search.proofs.Rows.{none_of_rest, row_of_rest, rows_of_rest}
use Rattle.cq_search.proofs.keeping.keep_rest.Goals as goal

pub loop-i-init : goal.loop-i-init
loop-i-init c = none_of_rest _ _

pub loop-i-preserved : goal.loop-i-preserved
loop-i-preserved c =
    let inside : c.loop-i.i < length c.args.kept.now.items = omega arith in
    row_of_rest (λ (row : Vec GameAnswer Global). row.items) c.loop-i.i (answers_in c.args.answers) (answers_in c.loop-i.rows) (answers_in c.take.new.self)
    c.args.kept.now.items c.loop-i.kept.items c.keep.new.kept c.loop-i.invariant (c.loop-i.auto.i, inside) (record {
      taken = c.take.result.items;
      old = c.index_mut.result.now;
      given = c.take.ensures.given;
      is = c.take.ensures.left;
      value = c.index_mut.ensures.value;
      adds = c.in_ok-keep.ensures;
    })

pub returns : goal.returns
returns c =
    let all : length c.args.kept.now.items ≤ c.loop-i.i = omega arith in
    rows_of_rest (λ (row : Vec GameAnswer Global). row.items) c.loop-i.i (answers_in c.args.answers) (answers_in c.loop-i.rows) c.args.kept.now.items c.loop-i.kept.items
    c.loop-i.invariant all
