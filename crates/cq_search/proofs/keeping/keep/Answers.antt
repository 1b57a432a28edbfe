use Rattle.std.proofs.Common.{◌≡◌, ◌++◌, filter, ◌∙◌, ap, rules}
use Rattle.std.proofs.lemmas.Fn.{filter_same}
use Rattle.cq_shards.specs.Order.{is_match}
use Rattle.cq_search.proofs.keeping.keep.Goals as goal

pub returns : goal.returns
returns c =
    let matches = c.in_ok-matches in
    let kept : c.retain.new.self.items ≡ filter is_match matches.matches.items = filter_same _ _ _ (λ x b f' k. search rules) _ _ c.retain.ensures.filtered in
    (matches.matches.items, (matches.ensures.same, matches.ensures.order), c.in_ok-append.ensures.items ∙ ap (λ l. c.args.kept.now.items ++ l) kept)
