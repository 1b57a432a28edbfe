-- The faults of a query's tree, which are searched for once its tokens are parsed.
use Rattle.std.specs.Prelude.{ℕ, Bool, true, false, not, nat_eq, nat_lt, nat_le, unwrap_or, map, filter, List, [], ◌∷◌, ◌++◌, Option, None, Some, Result, Ok, Err, is_none}
use Rattle.std.specs.List.{flat_map, list_any}
use Rattle.std.specs.Str.{bytes_eq}
use Rattle.cq_position.specs.Comments.{closing_brace}
use Rattle.cql_syntax.specs.Kinds.{form_kind}
use Rattle.cql_syntax.specs.Limits.{most_places, most_sorts, most_squares, most_weight}
use Rattle.cql_syntax.specs.Occurrences.{Occurrence, all_occurrences}
use Rattle.cql_syntax.specs.Places.{places}
use Rattle.cql_syntax.specs.Trees.{FormTree, name, square, line, transform, sort, comment, any, QueryTree}
use Rattle.cql_syntax.specs.OperandKinds.{accepts}
use Rattle.cql_syntax.specs.Weights.{query_weight}
use Rattle.cql_syntax.specs.declared.leaves.Kind.{Kind}
use Rattle.cql_syntax.specs.declared.fault.QueryFault.{QueryFault}
use Rattle.cql_syntax.specs.declared.fault.QueryReason.{QueryReason}
use Rattle.cql_syntax.specs.declared.fault.QueryReason.TheVariants.{KindMismatch, UnknownName, TextHoldsBrace, LineTooLong, TooManyMembers, NotAtTop, TooManySorts, TooManySquares}

abbrev pub first : {X : Type 0} → List X → Option X
first [] = None
first (x ∷ xs) = Some x

abbrev pub ok_unless : {X E : Type 0} → X → Option E → Result X E
ok_unless x None = Ok x
ok_unless x (Some e) = Err e

-- this value alone if the flag is true
abbrev pub where_it : {X : Type 0} → Bool → X → List X
where_it true x = x ∷ []
where_it false x = []

-- true if a text has a closing brace
abbrev pub holds_brace : List ℕ → Bool
holds_brace text = list_any (nat_eq closing_brace) text

-- the rules that a form breaks in its context

-- a filter of another kind than the required one
abbrev pub wrong_kind : Kind → Kind → List QueryReason
wrong_kind wanted found = where_it (not (accepts wanted found)) (KindMismatch wanted found)

-- a `sort` or `comment` that is no top item
abbrev pub below_top : Option ℕ → FormTree → List QueryReason
below_top item (sort least text f) = where_it (is_none item) NotAtTop
below_top item (comment text) = where_it (is_none item) NotAtTop
below_top item f = []

-- a sort item after the greatest number of sort items
abbrev pub past_four_sorts : Option ℕ → FormTree → List QueryReason
past_four_sorts (Some sorts) (sort least text f) = where_it (nat_le most_sorts sorts) TooManySorts
past_four_sorts item f = []

-- a name that no `square` around it binds
abbrev pub unbound_name : List (List ℕ) → FormTree → List QueryReason
unbound_name names (name text) = where_it (not (list_any (λ bound. bytes_eq bound text) names)) (UnknownName text)
unbound_name names f = []

-- a comment with a closing brace, which would end the comment in the exported game
abbrev pub brace_in_comment : FormTree → List QueryReason
brace_in_comment (comment text) = where_it (holds_brace text) TextHoldsBrace
brace_in_comment f = []

-- the rules that a filter breaks, in the order of the search
abbrev pub broken_rules : Occurrence → List QueryReason
broken_rules o =
    wrong_kind o.standing.wanted (form_kind o.form)
    ++ (below_top o.standing.item o.form
    ++ (past_four_sorts o.standing.item o.form
    ++ (unbound_name o.standing.names o.form
    ++ brace_in_comment o.form)))

abbrev pub rule_faults : Occurrence → List QueryFault
rule_faults o = map (λ reason. record { byte = o.at; reason = reason }) (broken_rules o)

-- a line of more places than there may be
abbrev pub is_long_line : FormTree → Bool
is_long_line (line l) = nat_lt most_places (places l)
is_long_line f = false

-- a `square` with exactly as many around it as may be nested
abbrev pub is_fifth_square : ℕ → FormTree → Bool
is_fifth_square squares (square every text f g) = nat_eq squares most_squares
is_fifth_square squares f = false

abbrev pub is_family : FormTree → Bool
is_family (transform t f) = true
is_family f = false

abbrev pub is_any : FormTree → Bool
is_any (any kind fs) = true
is_any f = false

-- the bytes of the filters that pass a test
abbrev pub bytes_where : (Occurrence → Bool) → List Occurrence → List ℕ
bytes_where test os = map (λ o. o.at) (filter test os)

-- The faults of a query, in the order of the search. The fault of a query that is too heavy is at its first family, even if another one is
-- heavy. It is at byte 0 if the query has no family.
unfoldable pub tree_faults : QueryTree → List QueryFault
tree_faults q =
    let all : List Occurrence = all_occurrences q in
    where_it (holds_brace q.match_text) (record { byte = q.match_at; reason = TextHoldsBrace })
    ++ (flat_map rule_faults all
    ++ (map (λ byte. record { byte = byte; reason = LineTooLong }) (bytes_where (λ o. is_long_line o.form) all)
    ++ (map (λ byte. record { byte = byte; reason = TooManySquares }) (bytes_where (λ o. is_fifth_square o.standing.squares o.form) all)
    ++ where_it (nat_lt most_weight (query_weight q))
    (record { byte = unwrap_or (first (bytes_where (λ o. is_family o.form) all)) 0; reason = TooManyMembers }))))

-- the fault of a query
unfoldable pub tree_fault : QueryTree → Option QueryFault
tree_fault q = first (tree_faults q)

-- the query, or its fault
abbrev pub checked : QueryTree → Result QueryTree QueryFault
checked q = ok_unless q (tree_fault q)

-- true if the query has an `Any`, which no query text has
unfoldable pub has_any : QueryTree → Bool
has_any q = list_any (λ o. is_any o.form) (all_occurrences q)
