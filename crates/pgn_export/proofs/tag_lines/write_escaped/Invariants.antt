use Rattle.std.proofs.Common.{◌≡◌, ◌++◌, drop}
use Rattle.pgn_export.specs.TagLines.{escaped}
use Rattle.pgn_export.proofs.tag_lines.write_escaped.Given as goal

-- the written part and the rest are all
abbrev pub invariant-loop-byte : goal.invariant-loop-byte
invariant-loop-byte l = l.out.items ++ escaped (drop l.byte-index l.value) ≡ l.fn.out.items ++ escaped l.fn.value
