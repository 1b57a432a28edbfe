use Rattle.std.proofs.Common.{◌≡◌, ◌<◌, ◌+◌, ◌-◌, ◌∷◌, length, get_or, take, reverse, ap, sym, ◌∙◌, arith}
use Rattle.std.proofs.lemmas.List.{length-reverse}
use Rattle.cql_values.specs.Bindings.{rebound}
use Rattle.cql_values.proofs.Reversed.{last_first, last_set}
use Rattle.cql_values.proofs.names.Names.rebind.Goals as goal

pub returns : goal.returns
returns c =
    let pairs = c.self.inside.pairs.items in
    let k = c.len-last.result - 1 in
    let pair = c.index_mut.result.now in
    let some_ : 0 < length pairs = (let h : 0 < length (reverse pairs) = rw c.self.view_is c.requires in let l = length-reverse pairs in omega arith) in
    let last : k + 1 ≡ length pairs = omega (arith, some_, c.len-last.ensures) in
    last_set pairs k (pair.0, c.args.s) last
    ∙ ap (λ (name : _). (name, c.args.s) ∷ reverse (take k pairs)) (ap (λ p. p.0) c.index_mut.ensures.value)
    ∙ ap (λ e. rebound e c.args.s) (sym (last_first pairs k pair last) ∙ c.self.view_is)
