-- The equality of two filters: of one form, with the same leaves and the same parts, and at the same byte.
use Rattle.std.specs.Prelude.{Bool, true, false, ◌&&◌, ◌==◌}
use Rattle.std.specs.Str.{bytes_eq}
use Rattle.cql_syntax.specs.Leaves.{same_flag, same_plain, same_of, same_outcome, same_unary, same_way, same_chain, same_pair, same_family, same_kind, same_designator, same_field, same_mark, same_extent}
use Rattle.cql_syntax.specs.Trees.{FilterTree, filter_at, FormTree, designator, number, name, plain, tagged, outcome, elo, unary, direction, chain, sum_of, pair, if_, square, line, played, transform, sort, comment, any, FilterTrees, no_filters, more_filters, TermTrees, no_terms, more_terms, LineTree, path, PlayedTree, move_of, WrittenTree, left_out, written, PartTrees, no_parts, more_parts, BodyTree, atom, group}

unfoldable mutual
  pub same_filter : FilterTree → FilterTree → Bool
  same_filter (filter_at i f) (filter_at j g) = (i == j) && same_form f g

  pub same_form : FormTree → FormTree → Bool
  same_form (designator d) (designator e) = same_designator d e
  same_form (number m) (number n) = m == n
  same_form (name a) (name b) = bytes_eq a b
  same_form (plain v) (plain w) = same_plain v w
  same_form (tagged f a) (tagged g b) = same_field f g && bytes_eq a b
  same_form (outcome o) (outcome p) = same_outcome o p
  same_form (elo v) (elo w) = same_of v w
  same_form (unary u f) (unary v g) = same_unary u v && same_filter f g
  same_form (direction v m n f) (direction w i j g) = same_way v w && (m == i) && (n == j) && same_filter f g
  same_form (chain c fs) (chain d gs) = same_chain c d && same_filters fs gs
  same_form (sum_of ts) (sum_of us) = same_terms ts us
  same_form (pair c f g) (pair d h k) = same_pair c d && same_filter f h && same_filter g k
  same_form (if_ f g h) (if_ i j k) = same_filter f i && same_filter g j && same_filter h k
  same_form (square every a f g) (square each b h k) = same_flag every each && bytes_eq a b && same_filter f h && same_filter g k
  same_form (line l) (line m) = same_line l m
  same_form (played p) (played q) = same_played p q
  same_form (transform t f) (transform u g) = same_family t u && same_filter f g
  same_form (sort least a f) (sort lowest b g) = same_flag least lowest && bytes_eq a b && same_filter f g
  same_form (comment a) (comment b) = bytes_eq a b
  same_form (any k fs) (any l gs) = same_kind k l && same_filters fs gs
  same_form f g = false

  pub same_filters : FilterTrees → FilterTrees → Bool
  same_filters no_filters no_filters = true
  same_filters (more_filters f fs) (more_filters g gs) = same_filter f g && same_filters fs gs
  same_filters fs gs = false

  pub same_terms : TermTrees → TermTrees → Bool
  same_terms no_terms no_terms = true
  same_terms (more_terms minus f ts) (more_terms less g us) = same_flag minus less && same_filter f g && same_terms ts us
  same_terms ts us = false

  pub same_line : LineTree → LineTree → Bool
  same_line (path back primary extent cs) (path up first lengths ds) =
      same_flag back up && same_flag primary first && same_extent extent lengths && same_parts cs ds

  pub same_played : PlayedTree → PlayedTree → Bool
  same_played (move_of a b c d) (move_of e f g h) = same_written a e && same_written b f && same_written c g && same_written d h

  pub same_written : WrittenTree → WrittenTree → Bool
  same_written left_out left_out = true
  same_written (written f) (written g) = same_filter f g
  same_written a b = false

  pub same_parts : PartTrees → PartTrees → Bool
  same_parts no_parts no_parts = true
  same_parts (more_parts a m cs) (more_parts b n ds) = same_body a b && same_mark m n && same_parts cs ds
  same_parts cs ds = false

  pub same_body : BodyTree → BodyTree → Bool
  same_body (atom f) (atom g) = same_filter f g
  same_body (group cs) (group ds) = same_parts cs ds
  same_body a b = false
