-- Filters at their places in lists.
use Rattle.std.proofs.Common.{◌≡◌, ℕ, ◌<◌, List, length, get_or}
use Rattle.cql_syntax.specs.declared.tree.Filter.{Filter}

-- a filter at its place in a list
pub record Placed : Type 0 where
  pub items : List Filter
  pub place : ℕ
  pub filter : Filter
  pub low : place < length items
  pub is : filter ≡ get_or items place filter
