use Rattle.std.proofs.Common.{◌≡◌, [], ◌∷◌, sym, subst, rules, codes, IsUtf8, lit<, refl, ap, ◌∙◌, ◌++◌}
use Rattle.std.proofs.lemmas.Bool.{false≢true}
use Rattle.std.proofs.lemmas.Str.{encode_ascii}
use Rattle.cq_outside.specs.Edge.{IsOneMore}
use Rattle.cq_outside.proofs.edge.FileDeskDesk.open.Goals as goal

pub returns-then-is_standard_input-clause-text : goal.returns-then-is_standard_input-clause-text
returns-then-is_standard_input-clause-text g c =
    let name : c.args.name.now ≡ codes "-" = search rules in
    subst IsUtf8 (sym name) (45 ∷ [], (refl, ap (λ l. l ++ []) (encode_ascii 45 (lit< tt))))

pub returns-in-Some-clause-asked : goal.returns-in-Some-clause-asked
returns-in-Some-clause-asked g c =
    let before = ap (λ d. d.openings) c.self.view_is in
    record {
      file = λ text _. subst (λ o. IsOneMore o (g.R.FileSystem.openings c.file_named.new.files)) before (c.file_named.ensures.text text);
      input = λ name. absurd (false≢true (sym c.if-is_standard_input.false ∙ c.is_standard_input.ensures.1 name));
      no_text = λ none. c.file_named.ensures.no_text none ∙ before;
    }

pub returns-clause-asked : goal.returns-clause-asked
returns-clause-asked g c =
    let before = ap (λ d. d.openings) c.self.view_is in
    record {
      file = λ text _. subst (λ o. IsOneMore o (g.R.FileSystem.openings c.file_named.new.files)) before (c.file_named.ensures.text text);
      input = λ name. absurd (false≢true (sym c.if-is_standard_input.false ∙ c.is_standard_input.ensures.1 name));
      no_text = λ none. c.file_named.ensures.no_text none ∙ before;
    }
