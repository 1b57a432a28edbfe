-- The grammar at worked rows.
use Rattle.std.proofs.Common.{◌≡◌, ℕ, List, [], ◌∷◌, true, false, refl, subst}
use Rattle.std.specs.Prelude.{codes}
use Rattle.cql_syntax.specs.Limits.{most_open}
use Rattle.cql_syntax.specs.Trees.{filter_at, number, plain, chain, sum_of, line, FilterTrees, no_filters, more_filters, no_terms, more_terms, path, no_parts, more_parts, atom, group, QueryTree}
use Rattle.cql_syntax.specs.Words.{word_of, sign_of}
use Rattle.cql_syntax.specs.declared.extents.Extent.TheVariants as extents
use Rattle.cql_syntax.specs.declared.leaves.Chain.TheVariants.{Or, And}
use Rattle.cql_syntax.specs.declared.leaves.Mark.TheVariants.{Once, Star, Times}
use Rattle.cql_syntax.specs.declared.leaves.Plain.TheVariants.{Check, Mate, Wtm}
use Rattle.cql_syntax.specs.declared.token.QueryToken.{QueryToken}
use Rattle.cql_syntax.specs.declared.token.QueryTokenKind.{QueryTokenKind}
use Rattle.cql_syntax.specs.declared.token.QueryTokenKind.TheVariants as tokens
use Rattle.cql_parser.specs.RuleStates.{role, heads, opens, goes, context, least, next, whole, level_of, depth_of, joint, infix_level, takes, spot}
use Rattle.cql_parser.specs.Productions.{production}
use Rattle.cql_parser.specs.Grammar.{Items, none}
use Rattle.cql_parser.specs.PartialFilters.{query_of, opening, Spells}
use Rattle.cql_parser.specs.Internal.Machine.{Done, Stuck, after, feed, begun, written}
use Rattle.cql_parser.proofs.Answer.{done_spells}
use Rattle.cql_parser.proofs.Read.{St, go}

abbrev heads_in : St → List QueryToken
heads_in (Done h b) = h
heads_in s = []

abbrev items_in : St → Items
items_in (Done h b) = b
items_in s = none

abbrev reached : List QueryToken → St
reached ts = go most_open (begun written) ts

row : (ts : List QueryToken) (q : QueryTree) → reached ts ≡ Done (heads_in (reached ts)) (items_in (reached ts))
    → query_of (opening (heads_in (reached ts))) (items_in (reached ts)) ≡ q → Spells most_open ts q
row ts q is tree = subst (Spells most_open ts) tree (done_spells most_open ts (heads_in (reached ts)) (items_in (reached ts)) is)

abbrev at : ℕ → QueryTokenKind → QueryToken
at byte kind = record { at = byte; kind = kind }

-- `cql() ` and then tokens
abbrev query : List QueryToken → List QueryToken
query ts = at 0 (tokens.Word 0) ∷ at 3 (tokens.Mark 15) ∷ at 4 (tokens.Mark 16) ∷ ts

abbrev plainly : FilterTrees → QueryTree
plainly items = record { variations = false; match_at = 0; match_text = codes "CQL"; items = items }

-- `1 - 2 - 3` is one sum
from_the_left : Spells most_open (query
    (at 6 (tokens.Number 1) ∷ at 8 (tokens.Mark 8) ∷ at 10 (tokens.Number 2) ∷ at 12 (tokens.Mark 8) ∷ at 14 (tokens.Number 3) ∷
    at 15 tokens.End ∷ []))
    (plainly (more_filters (filter_at 6
    (sum_of (more_terms false (filter_at 6 (number 1))
    (more_terms true (filter_at 10 (number 2)) (more_terms true (filter_at 14 (number 3)) no_terms))))) no_filters))
unfolding feed after role heads opens goes context least next whole level_of depth_of joint infix_level takes production word_of sign_of spot
from_the_left = row _ _ refl refl

-- `check or mate and wtm`: `and` binds tighter
and_binds_tighter : Spells most_open (query
    (at 6 (tokens.Word 5) ∷ at 12 (tokens.Word 28) ∷ at 15 (tokens.Word 6) ∷ at 20 (tokens.Word 27) ∷ at 24 (tokens.Word 8) ∷ at
    27 tokens.End ∷ []))
    (plainly (more_filters (filter_at 6
    (chain Or (more_filters (filter_at 6 (plain Check))
    (more_filters (filter_at 15 (chain And
    (more_filters (filter_at 15 (plain Mate)) (more_filters (filter_at 24 (plain Wtm)) no_filters)))) no_filters)))) no_filters))
unfolding feed after role heads opens goes context least next whole level_of depth_of joint infix_level takes production word_of sign_of spot
and_binds_tighter = row _ _ refl refl

-- `line --> check {2}`: the brace is the mark of the part
brace_is_a_mark : Spells most_open (query
    (at 6 (tokens.Word 38) ∷ at 11 (tokens.Mark 0) ∷ at 15 (tokens.Word 5) ∷ at 21 (tokens.Mark 17) ∷ at 22 (tokens.Number 2) ∷ at
    23 (tokens.Mark 18) ∷ at 24 tokens.End ∷ []))
    (plainly (more_filters (filter_at 6
    (line (path false false extents.Any (more_parts (atom (filter_at 15 (plain Check))) (Times 2 2) no_parts)))) no_filters))
unfolding feed after role heads opens goes context least next whole level_of depth_of joint infix_level takes production word_of sign_of spot
brace_is_a_mark = row _ _ refl refl

-- `line 2 5 <-- (check <-- mate)*`
line_with_an_extent : Spells most_open
    (query (at 6 (tokens.Word 38) ∷ at 11 (tokens.Number 2) ∷ at 13 (tokens.Number 5) ∷ at 15 (tokens.Mark 1) ∷ at 19
    (tokens.Mark 15) ∷ at 20 (tokens.Word 5) ∷ at 26 (tokens.Mark 1) ∷ at 30 (tokens.Word 6) ∷ at 34 (tokens.Mark 16) ∷ at 35
    (tokens.Mark 9) ∷ at 36 tokens.End ∷ []))
    (plainly (more_filters (filter_at 6
    (line (path true false (extents.Within 2 5)
    (more_parts (group (more_parts (atom (filter_at 20 (plain Check))) Once
    (more_parts (atom (filter_at 30 (plain Mate))) Once no_parts))) Star no_parts)))) no_filters))
unfolding feed after role heads opens goes context least next whole level_of depth_of joint infix_level takes production word_of sign_of spot
line_with_an_extent = row _ _ refl refl

-- `(check) or mate`: the parentheses leave no node, and the filter begins at them
parentheses_keep_the_byte : Spells most_open
    (query (at 6 (tokens.Mark 15) ∷ at 7 (tokens.Word 5) ∷ at 12 (tokens.Mark 16) ∷ at 14 (tokens.Word 28) ∷ at 17 (tokens.Word 6)
    ∷ at 21 tokens.End ∷ []))
    (plainly (more_filters (filter_at 6
    (chain Or (more_filters (filter_at 6 (plain Check)) (more_filters (filter_at 17 (plain Mate)) no_filters)))) no_filters))
unfolding feed after role heads opens goes context least next whole level_of depth_of joint infix_level takes production word_of sign_of spot
parentheses_keep_the_byte = row _ _ refl refl

-- `cql(variations matchstring "x") check`
the_head_of_a_query : Spells most_open
    (at 0 (tokens.Word 0) ∷ at 3 (tokens.Mark 15) ∷ at 4 (tokens.Word 4) ∷ at 15 (tokens.Word 3) ∷ at 27 (tokens.Text (codes "x"))
    ∷ at 30 (tokens.Mark 16) ∷ at 32 (tokens.Word 5) ∷ at 37 tokens.End ∷ [])
    (record { variations = true; match_at = 15; match_text = codes "x"; items = more_filters (filter_at 32 (plain Check)) no_filters })
unfolding feed after role heads opens goes context least next whole level_of depth_of joint infix_level takes production word_of sign_of spot
the_head_of_a_query = row _ _ refl refl

-- `1 < 2 < 3` is stuck at the second sign
no_chain_of_comparisons : go most_open (begun written)
    (query (at 6 (tokens.Number 1) ∷ at 8 (tokens.Mark 5) ∷ at 10 (tokens.Number 2) ∷ at 12 (tokens.Mark 5) ∷ [])) ≡ Stuck
unfolding feed after role heads opens goes context least next whole level_of depth_of joint infix_level takes production word_of sign_of spot
no_chain_of_comparisons = refl

-- `line 1 128` is stuck at the number
extent_above_127 : go most_open (begun written) (query (at 6 (tokens.Word 38) ∷ at 11 (tokens.Number 1) ∷ at 13 (tokens.Number 128) ∷ []))
    ≡ Stuck
unfolding feed after role heads opens goes context least next whole level_of depth_of joint infix_level takes production word_of sign_of spot
extent_above_127 = refl
