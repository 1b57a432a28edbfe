-- The lines of the games of an archive.
use Rattle.std.specs.Prelude.{◌≡◌, ℕ, ◌+◌, ◌-◌, Bool, true, false, List, [], ◌∷◌, length, count_by, Result, Ok, Err}
use Rattle.std.specs.List.{flat_map}
use Rattle.cq_position.specs.Games.{Game}
use Rattle.cq_report.specs.Games.{fault_line, summary_line}
use Rattle.pgn_cut.specs.Cut.{cut}
use Rattle.pgn_cut.specs.GameTokens.{game_bytes}
use Rattle.pgn_cut.specs.declared.span.Span.{Span}
use Rattle.pgn_json.specs.Json.{json_text}
use Rattle.pgn_reader.specs.Verdict.{IsReadResult}
use Rattle.pgn_reader.specs.declared.fault.GameFault.{GameFault}

-- a game of an archive: its number, from 1, the place of its first byte, from 0, and the result of its reading: a game, or its first fault
pub record ArchiveGame : Type 0 where
  pub number : ℕ
  pub byte : ℕ
  pub outcome : Result Game GameFault

-- the games of these spans of an archive, the first having this number
abbrev pub AreEntries : (archive : List ℕ) → ℕ → List Span → List ArchiveGame → Type 0
AreEntries archive number [] [] = Unit {0}
AreEntries archive number [] (e ∷ es) = ⊥
AreEntries archive number (s ∷ ss) [] = ⊥
AreEntries archive number (s ∷ ss) (e ∷ es) =
    ((e.number ≡ number) × (e.byte ≡ s.start) × IsReadResult s.start s.first (game_bytes archive s) e.outcome)
    × AreEntries archive (number + 1) ss es

-- the games of an archive, as it is cut
abbrev pub HasEntries : List ℕ → List ArchiveGame → Type 0
HasEntries archive entries = AreEntries archive 1 (cut archive) entries

-- the line of a game that is read
abbrev pub line_of : (mark : List ℕ) → (number byte : ℕ) → Result Game GameFault → List ℕ
line_of mark number byte (Ok game) = json_text mark number byte game
line_of mark number byte (Err fault) = []

-- the line of a faulty game
abbrev pub fault_of : ℕ → Result Game GameFault → List ℕ
fault_of number (Ok game) = []
fault_of number (Err fault) = fault_line number fault

abbrev pub is_faulty : Result Game GameFault → Bool
is_faulty (Ok game) = false
is_faulty (Err fault) = true

-- the lines of the games that are read, and those of the faulty ones
abbrev pub lines : (mark : List ℕ) → List ArchiveGame → List ℕ
lines mark entries = flat_map (λ e. line_of mark e.number e.byte e.outcome) entries

abbrev pub fault_lines : List ArchiveGame → List ℕ
fault_lines entries = flat_map (λ e. fault_of e.number e.outcome) entries

-- the number of faulty games
abbrev pub faulty : List ArchiveGame → ℕ
faulty entries = count_by (λ e. is_faulty e.outcome) entries

-- the last line of the report: the numbers of all games, of those that are written, and of the faulty ones
abbrev pub summary : List ArchiveGame → List ℕ
summary entries = summary_line (length entries) (length entries - faulty entries) (faulty entries)
