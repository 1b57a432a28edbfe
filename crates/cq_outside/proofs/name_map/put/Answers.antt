use Rattle.std.proofs.Common.{◌≡◌, ◌≢◌, ◌<◌, All, List, ℕ, [], length, take, get_or, ap, subst, ◌∙◌}
use Rattle.std.specs.FinMap.{from_entries}
use Rattle.cq_outside.proofs.Entries.{replaced, added}
use Rattle.cq_outside.proofs.name_map.put.Goals as goal

pub returns-in-Some-clause-ok : goal.returns-in-Some-clause-ok
returns-in-Some-clause-ok g c =
    let name = c.args.name.now in
    let entries = c.args.entries.now.items in
    let place = c.in-Some.place in
    let e = c.as_slice.ensures.value in
    replaced c.in_ok-from_slice.field-0 name c.args.value entries place ([], c.args.value) c.in_ok-from_slice.ensures
    (subst (λ (l : List (List ℕ × _)). place < length l) e c.in-Some.ensures.bound)
    (subst (λ (l : List (List ℕ × _)). (get_or l place ([], c.args.value)).0 ≡ name) e (c.in-Some.ensures.named ([], c.args.value)))
    (subst (λ (l : List (List ℕ × _)). All (λ f. f.0 ≢ name) (take place l)) e c.in-Some.ensures.first)

pub returns-in_ok-push-in-None-clause-ok : goal.returns-in_ok-push-in-None-clause-ok
returns-in_ok-push-in-None-clause-ok g c =
    let name = c.args.name.now in
    let entries = c.args.entries.now.items in
    ap from_entries c.in_ok-push-in-None.ensures.items ∙ added c.in_ok-from_slice.field-0 name c.args.value entries c.in_ok-from_slice.ensures
    (subst (All (λ (f : List ℕ × _). f.0 ≢ name)) c.as_slice.ensures.value c.in-None.ensures.none)
