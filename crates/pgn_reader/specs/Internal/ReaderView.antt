-- The view of a game, while it is read, in contracts.
use Rattle.std.specs.Prelude.{◌≡◌, ◌≢◌, ℕ, ◌≤◌, List, [], ◌∷◌, length, reverse, Option, Some, Result, Ok, Err}
use Rattle.cq_common.specs.declared.faults.Refusal.{Refusal}
use Rattle.cq_common.specs.declared.faults.Refusal.TheVariants.{Fault, NoMemory}
use Rattle.pgn_reader.specs.declared.fault.Reason.{Reason}
use Rattle.pgn_reader.specs.declared.fault.Reason.TheVariants.{TooManyPositions}
use Rattle.pgn_reader.specs.declared.token_machine.Reader.{Reader}
use Rattle.pgn_reader.specs.declared.token_machine.Phase.{Phase}
use Rattle.pgn_reader.specs.declared.token_machine.Phase.TheVariants.{Movetext, AfterBracket, AfterName, AfterValue, AfterResult}
use Rattle.pgn_reader.specs.Words.{Sense}
use Rattle.pgn_lexer.specs.declared.token.TokenKind.{TokenKind}
use Rattle.pgn_lexer.specs.declared.token.LexemeKind.{LexemeKind}
use Rattle.pgn_lexer.specs.declared.token.LexemeKind.TheVariants.{EscapeLine, Token}
use Rattle.pgn_reader.specs.ReadingPlace.{fault_at, movetext_fault}
use Rattle.pgn_reader.specs.Internal.Frame.{Frame, place}
use Rattle.pgn_reader.specs.Internal.Machine.{Head, State, opened, named, valued, at, ended, stuck, feed, on_sense}
use Rattle.pgn_reader.specs.Internal.GameAssembly.{reading_place_of}
use Rattle.pgn_reader.specs.Limits.{most_moves}

abbrev pub head_of : Reader → Head
head_of r = record { tags = r.tag_section.tags; start = r.tag_section.start; heading = r.heading; moves = r.moves }

abbrev pub state_by_phase : Phase → Reader → State
state_by_phase Movetext r = at (head_of r) r.line (reverse r.around.items)
state_by_phase AfterBracket r = opened r.tag_section.tags
state_by_phase AfterName r = named r.tag_section.tags r.name.items
state_by_phase AfterValue r = valued r.tag_section.tags r.tag_section.start
state_by_phase (AfterResult result) r = ended (head_of r) r.line result

abbrev pub state_of : Reader → State
state_of r = state_by_phase r.phase r

-- the number of moves that were read
abbrev pub moves_in : State → ℕ
moves_in (at h f k) = h.moves
moves_in (ended h f result) = h.moves
moves_in _ = 0

-- A step of the reader: it reaches a state, or fails. A failure gives the reason. The state would then be stuck, unless
-- the limit of positions is exceeded.
abbrev pub Steps : State → Option Reason → State → Result (Unit {0}) (Refusal Reason) → Type 0
Steps next reason s (Ok done) = (next ≡ s) × (moves_in s ≤ most_moves)
Steps next reason s (Err (Fault found)) = (reason ≡ Some found) × (found ≢ TooManyPositions → next ≡ stuck)
Steps next reason s (Err NoMemory) = Unit {0}

-- the step of a lexeme: that of its token, or none
abbrev pub StepsOver : State → LexemeKind → List ℕ → State → Result (Unit {0}) (Refusal Reason) → Type 0
StepsOver before EscapeLine text s (Ok done) = (before ≡ s) × (moves_in s ≤ most_moves)
StepsOver before EscapeLine text s (Err found) = ⊥
StepsOver before (Token kind) text s result =
    Steps (feed before (record { kind = kind; text = text })) (fault_at (reading_place_of before) (record { kind = kind; text = text })) s result

-- a step of the movetext, by the meaning of a token there
abbrev pub IsSenseStep : Reader → TokenKind → Sense → Reader → Result (Unit {0}) (Refusal Reason) → Type 0
IsSenseStep r kind s t result =
    Steps (on_sense (head_of r) r.line (reverse r.around.items) kind s)
    (movetext_fault r.heading (length (reverse r.around.items)) r.moves (place r.line) kind s) (state_of t) result

-- the levels of the lines that are open are no more than the moves
pub record IsLowLine (moves : ℕ) (f : Frame) : Type 0 where
  pub level : f.level ≤ moves
  pub next : f.next ≤ moves

abbrev pub AreLowLines : ℕ → List Frame → Type 0
AreLowLines moves [] = Unit {0}
AreLowLines moves (f ∷ k) = IsLowLine moves f × AreLowLines moves k

abbrev pub IsLow : State → Type 0
IsLow (at h f k) = AreLowLines h.moves (f ∷ k)
IsLow _ = Unit {0}
