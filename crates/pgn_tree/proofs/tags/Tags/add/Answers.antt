use Rattle.std.proofs.Common.{◌≡◌, ℕ, List, [], ◌∷◌, ◌++◌, false, None, ap, ap₂, sym, ◌∙◌, subst}
use Rattle.std.specs.Prelude.{map}
use Rattle.std.specs.Str.{bytes_eq}
use Rattle.std.specs.Option.{is_some}
use Rattle.indexmap.specs.IndexMap.{get}
use Rattle.indexmap.proofs.CallerLemmas.{insert_entry-new}
use Rattle.cq_position.specs.Games.{tag_value, HaveDistinctNames}
use Rattle.pgn_tree.proofs.TagPairs.{seen, kept, put, none_of, shown_append, distinct_put}
use Rattle.pgn_tree.proofs.tags.Tags.add.Goals as goal

pub returns-then-contains_key-clause-ok : goal.returns-then-contains_key-clause-ok
returns-then-contains_key-clause-ok c =
    kept c.args.self.now c.args.name.now c.args.value.now
    (c.if-contains_key.ensures ∙ ap is_some (seen (λ k. k.items) c.args.name.now c.self.inside.pairs.entries ∙ ap (tag_value c.args.name.now) c.self.view_is))

pub returns-clause-ok : goal.returns-clause-ok
returns-clause-ok c =
    let pairs = c.self.inside.pairs in
    let key = c.in_ok-name.name in
    let absent : false ≡ is_some (tag_value c.args.name.now c.args.self.now) =
    c.if-contains_key.ensures ∙ ap is_some (seen (λ k. k.items) c.args.name.now pairs.entries ∙ ap (tag_value c.args.name.now) c.self.view_is) in
    let none : get (λ a b. bytes_eq a.items b.items) pairs key ≡ None =
    seen (λ k. k.items) key.items pairs.entries ∙ ap₂ tag_value c.in_ok-name.ensures.items c.self.view_is ∙ none_of (tag_value c.args.name.now c.args.self.now) absent in
    ap (map {B = List ℕ × List ℕ} (λ e. (e.0.items, e.1))) (c.in_ok-insert.ensures.entries ∙ insert_entry-new (λ a b. bytes_eq a.items b.items) pairs key c.in_ok-value.value none)
    ∙ shown_append (λ k. k.items) pairs.entries key c.in_ok-value.value
    ∙ ap₂ (λ l e. l ++ e ∷ []) c.self.view_is (ap₂ (λ n v. (n, v)) c.in_ok-name.ensures.items c.in_ok-value.ensures)
    ∙ put c.args.self.now c.args.name.now c.args.value.now absent

pub invariant_of-self-2 : goal.invariant_of-self-2
invariant_of-self-2 c =
    let pairs = c.self.inside.pairs in
    let key = c.in_ok-name.name in
    let absent : false ≡ is_some (tag_value c.args.name.now c.args.self.now) =
    c.if-contains_key.ensures ∙ ap is_some (seen (λ k. k.items) c.args.name.now pairs.entries ∙ ap (tag_value c.args.name.now) c.self.view_is) in
    let missing = none_of (tag_value c.args.name.now c.args.self.now) absent in
    let none : get (λ a b. bytes_eq a.items b.items) pairs key ≡ None =
    seen (λ k. k.items) key.items pairs.entries ∙ ap₂ tag_value c.in_ok-name.ensures.items c.self.view_is ∙ missing in
    subst HaveDistinctNames
    (sym (ap (map {B = List ℕ × List ℕ} (λ e. (e.0.items, e.1))) (c.in_ok-insert.ensures.entries ∙ insert_entry-new (λ a b. bytes_eq a.items b.items) pairs key c.in_ok-value.value none)
    ∙ shown_append (λ k. k.items) pairs.entries key c.in_ok-value.value
    ∙ ap₂ (λ l e. l ++ e ∷ []) c.self.view_is (ap₂ (λ n v. (n, v)) c.in_ok-name.ensures.items c.in_ok-value.ensures)))
    (distinct_put c.args.self.now c.args.name.now c.args.value.now missing (subst HaveDistinctNames c.self.view_is c.self.invariant))
