use Rattle.std.proofs.Common.{◌≡◌, ◌∙◌, true, false, ap, sym, subst, OnOk}
use Rattle.std.specs.List.{list_any}
use Rattle.cq_shared.specs.Interning.{all_shown}
use Rattle.cq_shared.specs.Parts.{is_at, same_part}
use Rattle.cq_shared.specs.PartTables.{IsTable}
use Rattle.cq_shared.specs.Singles.{shown}
use Rattle.cq_shared.proofs.Seeking.{with_same, with_other}
use Rattle.cq_shared.proofs.interning.add.Goals as goal

pub returns-in_ok-ask-in-Some-clause-parts : goal.returns-in_ok-ask-in-Some-clause-parts
returns-in_ok-ask-in-Some-clause-parts c =
    let r = shown c.args.single in
    c.in_ok-ask-in-Some.ensures.parts
    ∙ sym (with_same (all_shown c.args.parts.now.items) c.in-Some.number r
    (subst (λ ps. is_at (all_shown ps) c.in-Some.number r ≡ true) c.deref.ensures.value c.in-Some.ensures.1))

pub returns-in-None-clause-parts : goal.returns-in-None-clause-parts
returns-in-None-clause-parts c =
    let r = shown c.args.single in
    let none = subst (λ ps. list_any (λ p. same_part p r) (all_shown ps) ≡ false) c.deref.ensures.value c.in-None.ensures in
    subst (λ ps. OnOk c.add_new.result (all_shown c.add_new.new.parts.items ≡ ps)) (sym (with_other (all_shown c.args.parts.now.items) r none)) c.add_new.ensures.parts

pub returns-in_ok-ask-in-Some-clause-table : goal.returns-in_ok-ask-in-Some-clause-table
returns-in_ok-ask-in-Some-clause-table c = subst (IsTable c.args.places.now.items) (sym c.in_ok-ask-in-Some.ensures.parts) c.requires.table

pub returns-in_ok-ask-in-Some-clause-number : goal.returns-in_ok-ask-in-Some-clause-number
returns-in_ok-ask-in-Some-clause-number c =
    subst (λ ps. is_at ps c.in-Some.number (shown c.args.single) ≡ true) (ap all_shown c.deref.ensures.value ∙ sym c.in_ok-ask-in-Some.ensures.parts)
    c.in-Some.ensures.1

pub returns-in_ok-ask-in-Some-clause-asked : goal.returns-in_ok-ask-in-Some-clause-asked
returns-in_ok-ask-in-Some-clause-asked c = c.in_ok-ask-in-Some.ensures.asked

pub returns-in-None-clause-table : goal.returns-in-None-clause-table
returns-in-None-clause-table c = c.add_new.ensures.table

pub returns-in-None-clause-number : goal.returns-in-None-clause-number
returns-in-None-clause-number c = c.add_new.ensures.number

pub returns-in-None-clause-asked : goal.returns-in-None-clause-asked
returns-in-None-clause-asked c = c.add_new.ensures.asked
