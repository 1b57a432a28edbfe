-- The result of a walk over filters in a row, for the contracts of private functions.
use Rattle.std.specs.Prelude.{ℕ, Bool, List, Option, None, Some, unwrap_or, Result}
use Rattle.std.specs.List.{flat_map}
use Rattle.std.specs.Option.{option_or}
use Rattle.cql_syntax.specs.Occurrences.{Occurrence}
use Rattle.cql_syntax.specs.TreeFaults.{first, where_it, ok_unless, rule_faults, is_long_line, is_fifth_square, is_family, bytes_where}
use Rattle.cql_syntax.specs.declared.fault.QueryFault.{QueryFault}
use Rattle.cql_syntax.specs.declared.fault.QueryReason.{QueryReason}
use Rattle.cql_syntax.specs.declared.fault.QueryReason.TheVariants.{LineTooLong, TooManyMembers, TooManySquares}
use Rattle.cql_kinds.specs.declared.first_breaches.FirstBreaches.{FirstBreaches}

abbrev pub no_breaches : FirstBreaches
no_breaches = record { line = None; square = None; family = None }

-- the byte, or the first of these bytes if there is none
abbrev pub or_first : Option ℕ → List ℕ → Option ℕ
or_first (Some byte) bytes = Some byte
or_first None bytes = first bytes

-- the first of each kind, with these filters after those that were met before
abbrev pub with_breaches : FirstBreaches → List Occurrence → FirstBreaches
with_breaches firsts os = record {
  line = or_first firsts.line (bytes_where (λ o. is_long_line o.form) os);
  square = or_first firsts.square (bytes_where (λ o. is_fifth_square o.standing.squares o.form) os);
  family = or_first firsts.family (bytes_where (λ o. is_family o.form) os);
}

-- the same, or the first fault of a filter that breaks a rule
unfoldable pub walk_result : FirstBreaches → List Occurrence → Result FirstBreaches QueryFault
walk_result firsts os = ok_unless (with_breaches firsts os) (first (flat_map rule_faults os))

-- the fault of a filter at a byte, or none
abbrev pub fault_at : QueryReason → Option ℕ → Option QueryFault
fault_at reason None = None
fault_at reason (Some byte) = Some (record { byte = byte; reason = reason })

-- the first limit that a query exceeds, by the first filters of some kinds and whether it is too heavy
abbrev pub limit_fault : FirstBreaches → Bool → Option QueryFault
limit_fault firsts heavy =
    option_or (fault_at LineTooLong firsts.line)
    (option_or (fault_at TooManySquares firsts.square)
    (first (where_it heavy (record { byte = unwrap_or firsts.family 0; reason = TooManyMembers }))))
