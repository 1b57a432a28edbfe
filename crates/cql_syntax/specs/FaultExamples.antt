-- The faults of small queries, each with the bytes of its text.
use Rattle.std.specs.Prelude.{◌≡◌, ℕ, ◌+◌, false, List, [], ◌∷◌, ◌++◌, codes, Option, None, Some}
use Rattle.cq_symmetry.specs.declared.families.Family.TheVariants.{Flip}
use Rattle.cql_syntax.specs.Samples.{filters}
use Rattle.cql_syntax.specs.TreeFaults.{tree_fault}
use Rattle.cql_syntax.specs.Trees.{FilterTree, filter_at, name, number, designator, plain, unary, chain, pair, square, line, path, more_parts, no_parts, atom, PartTrees, transform, sort, comment, QueryTree}
use Rattle.cql_syntax.specs.declared.extents.Extent.TheVariants.{Any}
use Rattle.cql_syntax.specs.declared.fault.QueryFault.{QueryFault}
use Rattle.cql_syntax.specs.declared.fault.QueryReason.{QueryReason}
use Rattle.cql_syntax.specs.declared.fault.QueryReason.TheVariants.{KindMismatch, UnknownName, TextHoldsBrace, LineTooLong, TooManyMembers, NotAtTop, TooManySorts, TooManySquares}
use Rattle.cql_syntax.specs.declared.leaves.Chain.TheVariants.{All}
use Rattle.cql_syntax.specs.declared.leaves.Kind.TheVariants.{Position, Set, Number}
use Rattle.cql_syntax.specs.declared.leaves.Mark.{Mark}
use Rattle.cql_syntax.specs.declared.leaves.Mark.TheVariants.{Times}
use Rattle.cql_syntax.specs.declared.leaves.Pair.TheVariants.{Less}
use Rattle.cql_syntax.specs.declared.leaves.Plain.TheVariants.{Check, Mate}
use Rattle.cql_syntax.specs.declared.leaves.Unary.TheVariants.{Not, Count}

abbrev with_text : List ℕ → List FilterTree → QueryTree
with_text text items = record { variations = false; match_at = 4; match_text = text; items = filters items }

abbrev asks : List FilterTree → Option QueryFault
asks items = tree_fault (with_text (codes "CQL") items)

abbrev at : ℕ → QueryReason → Option QueryFault
at byte reason = Some (record { byte = byte; reason = reason })

abbrev check : ℕ → FilterTree
check byte = filter_at byte (plain Check)

abbrev x : ℕ → FilterTree
x byte = filter_at byte (name (codes "x"))

abbrev a : ℕ → FilterTree
a byte = filter_at byte (designator (record { men = 63; part = record { squares = 1; whole_ranks = false; whole_files = false } }))

-- `square x in A F`
abbrev bind : ℕ → FilterTree → FilterTree
bind byte f = filter_at byte (square false (codes "x") (a (byte + 12)) f)

-- five times `square x in A`, and the innermost condition
abbrev five : FilterTree → FilterTree
five f = bind 6 (bind 20 (bind 34 (bind 48 (bind 62 f))))

abbrev sorted : ℕ → FilterTree
sorted byte = filter_at byte (sort false (codes "p") (filter_at (byte + 9) (number 1)))

abbrev parts : FilterTree → Mark → PartTrees
parts f mark = more_parts (atom f) mark no_parts

-- `line --> F{n}`
abbrev run : ℕ → ℕ → FilterTree → FilterTree
run byte n f = filter_at byte (line (path false false Any (parts f (Times n n))))

-- so many times `check`, and a `mate` that occurs no times
abbrev none_of_the_last : FilterTree
none_of_the_last =
    let last : PartTrees = parts (filter_at 25 (plain Mate)) (Times 0 0) in
    filter_at 6 (line (path false false Any (more_parts (atom (check 15)) (Times 64 64) last)))

abbrev flip : ℕ → FilterTree → FilterTree
flip byte f = filter_at byte (transform Flip f)

-- `flip flip flip flip flip check`
abbrev five_flips : ℕ → FilterTree
five_flips byte = flip byte (flip (byte + 5) (flip (byte + 10) (flip (byte + 15) (flip (byte + 20) (check (byte + 25))))))

-- seven times the five flips, and a `check`
abbrev heaviest : List FilterTree
heaviest =
    five_flips 6 ∷ five_flips 37 ∷ five_flips 68 ∷ five_flips 99 ∷ five_flips 130 ∷ five_flips 161 ∷ five_flips 192
    ∷ check 223 ∷ []

pub record RuleExamples : Type 0 where
  pub none : asks (check 6 ∷ []) ≡ None
  pub wrong_kind : asks (filter_at 6 (unary Count (check 7)) ∷ []) ≡ at 7 (KindMismatch Set Position)
  pub outer_first : asks (filter_at 6 (unary Count (filter_at 7 (unary Not (filter_at 11 (unary Count (check 12)))))) ∷ [])
      ≡ at 7 (KindMismatch Set Position)
  pub left_first : asks (filter_at 6 (pair Less (a 6) (check 10)) ∷ []) ≡ at 6 (KindMismatch Number Set)
  pub text_first : tree_fault (with_text (codes "a}") (filter_at 6 (unary Count (check 7)) ∷ [])) ≡ at 4 TextHoldsBrace
  pub sort_in_braces : asks (filter_at 6 (chain All (filters (sorted 8 ∷ []))) ∷ []) ≡ at 8 NotAtTop
  pub comment_below_top : asks (filter_at 6 (unary Not (filter_at 10 (comment (codes "}")))) ∷ []) ≡ at 10 NotAtTop
  pub kind_before_top : asks (filter_at 6 (unary Count (filter_at 7 (comment (codes "c")))) ∷ []) ≡ at 7 (KindMismatch Set Position)
  pub comment_with_brace : asks (filter_at 6 (comment (codes "{}")) ∷ []) ≡ at 6 TextHoldsBrace
  pub four_sorts : asks (sorted 6 ∷ sorted 17 ∷ check 28 ∷ sorted 34 ∷ sorted 45 ∷ []) ≡ None
  pub fifth_sort : asks (sorted 6 ∷ sorted 17 ∷ check 28 ∷ sorted 34 ∷ sorted 45 ∷ sorted 56 ∷ sorted 67 ∷ [])
      ≡ at 56 TooManySorts
  pub unbound : asks (x 6 ∷ []) ≡ at 6 (UnknownName (codes "x"))
  pub bound : asks (bind 6 (x 20) ∷ []) ≡ None
  pub bound_twice : asks (bind 6 (bind 20 (x 34)) ∷ []) ≡ None
  pub outside_its_square : asks (bind 6 (x 20) ∷ x 22 ∷ []) ≡ at 22 (UnknownName (codes "x"))
  pub in_the_squares : asks (filter_at 6 (square false (codes "x") (x 18) (x 20)) ∷ []) ≡ at 18 (UnknownName (codes "x"))

pub record LimitExamples : Type 0 where
  pub longest_line : asks (run 6 64 (check 15) ∷ []) ≡ None
  pub line_too_long : asks (run 6 65 (check 15) ∷ []) ≡ at 6 LineTooLong
  pub none_of_the_last_counts : asks (none_of_the_last ∷ []) ≡ at 6 LineTooLong
  pub line_in_a_line : asks (run 6 2 (run 16 65 (check 25)) ∷ []) ≡ at 16 LineTooLong
  pub outer_line_first : asks (run 6 65 (run 16 65 (check 25)) ∷ []) ≡ at 6 LineTooLong
  pub name_before_line : asks (run 6 65 (check 15) ∷ x 25 ∷ []) ≡ at 25 (UnknownName (codes "x"))
  pub four_squares : asks (bind 6 (bind 20 (bind 34 (bind 48 (x 62)))) ∷ []) ≡ None
  pub fifth_square : asks (five (x 76) ∷ []) ≡ at 62 TooManySquares
  pub sixth_square : asks (five (bind 76 (x 90)) ∷ []) ≡ at 62 TooManySquares
  pub line_before_square : asks (five (x 76) ∷ run 78 65 (check 87) ∷ []) ≡ at 78 LineTooLong
  pub greatest_weight : asks heaviest ≡ None
  pub too_heavy : asks (check 0 ∷ heaviest) ≡ at 6 TooManyMembers
  pub square_before_weight : asks (heaviest ++ five (x 76) ∷ []) ≡ at 62 TooManySquares
