-- The flat items of a query mean what its items mean.
use Rattle.std.proofs.Common.{◌≡◌, [], sym, ap, ◌∙◌}
use Rattle.cql_syntax.specs.Flat.{flat_all}
use Rattle.cql_syntax.specs.Hits as found
use Rattle.cql_syntax.specs.Meaning.{values}
use Rattle.cql_syntax.specs.Trees.{FilterTrees, QueryTree}
use Rattle.cql_syntax.proofs.FlatHits.{hits_same, keys_same}
use Rattle.cql_syntax.proofs.FlatSame.{all_is_same}
use Rattle.cql_rewrite.specs.SameMeaning.{MeansTheSame, with_items}

pub flat_means_the_same : (q : QueryTree) (items : FilterTrees) → items ≡ flat_all [] q.items → MeansTheSame q items
flat_means_the_same q items is = record {
  each = λ tree e n. ap (λ fs. values tree [] e fs n) is ∙ sym (all_is_same tree q.items [] e n);
  hits = λ game. ap (λ fs. found.hits (with_items q fs) game) is ∙ hits_same q game;
  keys = λ game. ap (λ fs. found.keys (with_items q fs) game) is ∙ keys_same q game;
}
