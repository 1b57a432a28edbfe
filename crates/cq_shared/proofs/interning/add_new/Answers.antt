use Rattle.std.proofs.Common.{◌≡◌, ◌&&◌, ◌||◌, ◌∙◌, ◌++◌, ◌∷◌, [], length, sym, ap, arith, subst}
use Rattle.std.specs.Prelude.{◌==◌}
use Rattle.cq_shared.specs.Interning.{all_shown, is_owned}
use Rattle.cq_shared.specs.Parts.{is_at}
use Rattle.cq_shared.specs.PartTables.{IsTable}
use Rattle.cq_shared.specs.Singles.{shown}
use Rattle.cq_shared.proofs.Gaining.{asked_new, shown_new, shown_length}
use Rattle.cq_shared.proofs.Seeking.{at_end, same_itself}
use Rattle.cq_shared.proofs.Tables.{put_more}
use Rattle.cq_shared.proofs.interning.add_new.Goals as goal

pub returns-clause-parts : goal.returns-clause-parts
returns-clause-parts c = ap all_shown c.in_ok-push-2.ensures.items ∙ shown_new c.args.parts.now.items _

pub returns-clause-table : goal.returns-clause-table
returns-clause-table c =
    let parts = c.args.parts.now.items in
    subst (IsTable c.put.new.places.items) (sym (returns-clause-parts c))
    (put_more c.args.places.now.items c.put.new.places.items (all_shown parts) (shown c.args.single) c.args.at c.len-number.result c.requires.table c.requires.at
    (omega (arith, c.len-number.ensures, shown_length parts)) c.in_ok-put.ensures.len c.in_ok-put.ensures.here c.in_ok-put.ensures.others)

pub returns-clause-number : goal.returns-clause-number
returns-clause-number c =
    let parts = c.args.parts.now.items in
    let last : c.len-number.result ≡ length (all_shown parts) = omega (arith, c.len-number.ensures, shown_length parts) in
    ap (λ k. is_at (all_shown c.push-2.new.self.items) k (shown c.args.single)) last
    ∙ ap (λ ps. is_at ps (length (all_shown parts)) (shown c.args.single)) (returns-clause-parts c)
    ∙ at_end (all_shown parts) (shown c.args.single) (shown c.args.single) (same_itself (shown c.args.single))

pub returns-clause-asked : goal.returns-clause-asked
returns-clause-asked c = λ j q.
    let parts = c.args.parts.now.items in
    let last : c.len-number.result ≡ length parts = omega (arith, c.len-number.ensures) in
    ap (λ ps. is_owned ps j q) c.in_ok-push-2.ensures.items
    ∙ asked_new parts _ c.args.owner (c.in_ok-push.ensures.items ∙ ap (λ qs. qs ++ c.args.owner ∷ []) c.new-owners.ensures.items) j q
    ∙ ap (λ n. is_owned parts j q || ((n == j) && (c.args.owner == q))) (sym last)
