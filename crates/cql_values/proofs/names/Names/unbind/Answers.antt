use Rattle.std.proofs.Common.{rules, ◌≡◌, ◌<◌, ◌-◌, length, drop, take, reverse, ap, ◌∙◌, arith}
use Rattle.std.proofs.lemmas.List.{length-reverse}
use Rattle.cql_values.proofs.Reversed.{last_gone}
use Rattle.cql_values.proofs.names.Names.unbind.Goals as goal

pub returns : goal.returns
returns c =
    let pairs = c.self.inside.pairs.items in
    let some_ : 0 < length pairs = (let h : 0 < length (reverse pairs) = rw c.self.view_is c.requires in let l = length-reverse pairs in omega arith) in
    let kept : c.truncate.new.self.items ≡ take (length pairs - 1) pairs = search rules in
    ap reverse kept ∙ last_gone pairs some_ ∙ ap (drop 1) c.self.view_is
