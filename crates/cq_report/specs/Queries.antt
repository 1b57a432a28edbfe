-- The line of a faulty query.
use Rattle.std.specs.Prelude.{ℕ, List, ◌++◌, codes, decimal}
use Rattle.cql_syntax.specs.declared.fault.QueryFault.{QueryFault}
use Rattle.cql_syntax.specs.declared.fault.QueryReason.{QueryReason}
use Rattle.cql_syntax.specs.declared.fault.QueryReason.TheVariants.{BadByte, UnclosedText, UnexpectedToken, UnexpectedEnd, OutsideProfile, KindMismatch, UnknownName, TextHoldsBrace, NumberTooLarge, TooDeep, LineTooLong, TooManyMembers, QueryTooLong, NotAtTop, TooManySorts, TooManySquares}
use Rattle.cql_syntax.specs.declared.leaves.Kind.{Kind}
use Rattle.cql_syntax.specs.declared.leaves.Kind.TheVariants.{Position, Set, Number}

-- the name of a kind
abbrev pub kind_text : Kind → List ℕ
kind_text Position = codes "position"
kind_text Set = codes "set"
kind_text Number = codes "number"

-- the text of each reason
abbrev pub query_reason_text : QueryReason → List ℕ
query_reason_text BadByte = codes "bad byte"
query_reason_text UnclosedText = codes "unclosed text"
query_reason_text UnexpectedToken = codes "unexpected token"
query_reason_text UnexpectedEnd = codes "unexpected end"
query_reason_text (OutsideProfile name) = codes "outside profile " ++ name
query_reason_text (KindMismatch wanted found) = codes "kind mismatch, wanted " ++ kind_text wanted ++ codes ", found " ++ kind_text found
query_reason_text (UnknownName name) = codes "unknown name " ++ name
query_reason_text TextHoldsBrace = codes "text holds brace"
query_reason_text NumberTooLarge = codes "number too large"
query_reason_text TooDeep = codes "too deep"
query_reason_text LineTooLong = codes "line too long"
query_reason_text TooManyMembers = codes "too many members"
query_reason_text QueryTooLong = codes "query too long"
query_reason_text NotAtTop = codes "not at top"
query_reason_text TooManySorts = codes "too many sorts"
query_reason_text TooManySquares = codes "too many squares"

-- the line of a query's fault: its byte, from 0, and the reason
abbrev pub query_line : QueryFault → List ℕ
query_line fault = codes "query byte " ++ decimal fault.byte ++ codes ": " ++ query_reason_text fault.reason ++ codes "\n"

-- the same line in a file of queries: the query's number, from 1, its byte within the query, and the reason
abbrev pub numbered_query_line : ℕ → QueryFault → List ℕ
numbered_query_line number fault =
    codes "query " ++ decimal number ++ codes " byte " ++ decimal fault.byte ++ codes ": " ++ query_reason_text fault.reason ++ codes "\n"
