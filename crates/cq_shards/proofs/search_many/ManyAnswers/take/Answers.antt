use Rattle.std.proofs.Common.{List, ap, ◌∙◌}
use Rattle.std.proofs.lemmas.List.{map-set}
use Rattle.std.specs.Prelude.{slice_set}
use Rattle.cq_shards.specs.declared.answers.GameAnswer.{GameAnswer}
use Rattle.cq_shards.specs.Many.{answers_in}
use Rattle.cq_shards.specs.declared.search_many.AnswerList.{AnswerList}
use Rattle.cq_shards.proofs.search_many.ManyAnswers.take.Goals as goal

pub returns-clause-left : goal.returns-clause-left
returns-clause-left c =
    let many = c.args.self.now in
    let none = c.new-none.ensures.items in
    map-set (λ (l : AnswerList). l.answers.items) many.lists.items c.args.query (record { answers = c.replace.new.dest })
    ∙ ap (λ (a : List GameAnswer). slice_set (answers_in many) c.args.query a) (rw c.replace.ensures.after none)
