use Rattle.std.proofs.Common.{◌≡◌, ℕ, List, [], ◌∷◌, ◌++◌, false, None, ap, ap₂, sym, ◌∙◌, subst}
use Rattle.std.specs.Prelude.{map}
use Rattle.std.specs.Str.{bytes_eq}
use Rattle.std.specs.Option.{is_some}
use Rattle.indexmap.specs.IndexMap.{get}
use Rattle.indexmap.proofs.CallerLemmas.{insert_entry-new}
use Rattle.cq_position.specs.Games.{tag_value, HaveDistinctNames}
use Rattle.pgn_tree.proofs.TagPairs.{seen, kept, put, none_of, shown_append, distinct_put}
use Rattle.pgn_tree.proofs.tags.Tags.add_owned.Goals as goal

pub returns-then-contains_key-clause-ok : goal.returns-then-contains_key-clause-ok
returns-then-contains_key-clause-ok c =
    kept c.args.self.now c.args.name.items c.args.value.items
    ((rw c.as_slice.ensures.value at c.if-contains_key.ensures) ∙ ap is_some (seen (λ k. k.items) c.args.name.items c.self.inside.pairs.entries ∙ ap (tag_value c.args.name.items) c.self.view_is))

pub returns-clause-ok : goal.returns-clause-ok
returns-clause-ok c =
    let pairs = c.self.inside.pairs in
    let key = c.args.name in
    let absent : false ≡ is_some (tag_value key.items c.args.self.now) =
    (rw c.as_slice.ensures.value at c.if-contains_key.ensures) ∙ ap is_some (seen (λ k. k.items) key.items pairs.entries ∙ ap (tag_value key.items) c.self.view_is) in
    let none : get (λ a b. bytes_eq a.items b.items) pairs key ≡ None =
    seen (λ k. k.items) key.items pairs.entries ∙ ap (tag_value key.items) c.self.view_is ∙ none_of (tag_value key.items c.args.self.now) absent in
    ap (map {B = List ℕ × List ℕ} (λ e. (e.0.items, e.1))) (c.in_ok-insert.ensures.entries ∙ insert_entry-new (λ a b. bytes_eq a.items b.items) pairs key c.from_vec.result none)
    ∙ shown_append (λ k. k.items) pairs.entries key c.from_vec.result
    ∙ ap₂ (λ l v. l ++ (key.items, v) ∷ []) c.self.view_is c.from_vec.ensures
    ∙ put c.args.self.now key.items c.args.value.items absent

pub invariant_of-self-2 : goal.invariant_of-self-2
invariant_of-self-2 c =
    let pairs = c.self.inside.pairs in
    let key = c.args.name in
    let absent : false ≡ is_some (tag_value key.items c.args.self.now) =
    (rw c.as_slice.ensures.value at c.if-contains_key.ensures) ∙ ap is_some (seen (λ k. k.items) key.items pairs.entries ∙ ap (tag_value key.items) c.self.view_is) in
    let missing = none_of (tag_value key.items c.args.self.now) absent in
    let none : get (λ a b. bytes_eq a.items b.items) pairs key ≡ None =
    seen (λ k. k.items) key.items pairs.entries ∙ ap (tag_value key.items) c.self.view_is ∙ missing in
    subst HaveDistinctNames
    (sym (ap (map {B = List ℕ × List ℕ} (λ e. (e.0.items, e.1))) (c.in_ok-insert.ensures.entries ∙ insert_entry-new (λ a b. bytes_eq a.items b.items) pairs key c.from_vec.result none)
    ∙ shown_append (λ k. k.items) pairs.entries key c.from_vec.result
    ∙ ap₂ (λ l v. l ++ (key.items, v) ∷ []) c.self.view_is c.from_vec.ensures))
    (distinct_put c.args.self.now key.items c.args.value.items missing (subst HaveDistinctNames c.self.view_is c.self.invariant))
