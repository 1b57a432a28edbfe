use Rattle.std.proofs.lemmas.List.{take_rest}
use Rattle.cq_position.proofs.Splitting.{first_of_fields}
use Rattle.cq_position.proofs.fen.fields.first_field.Goals as goal

pub returns : goal.returns
returns c = simp take_rest (rw (c.unwrap_or-end.ensures, c.place_of.ensures) (simp take_rest (first_of_fields c.args.text.now c.in_ok-start.start c.in_ok-start.ensures)))
