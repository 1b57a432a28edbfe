-- The loop over the tokens.
use Rattle.std.proofs.Common.{◌≡◌, ◌≢◌, ℕ, ◌+◌, ◌<◌, ◌≤◌, List, [], ◌∷◌, ◌++◌, length, take, map, get_or, Some, None, refl, sym, ap, ◌∙◌, subst, arith}
use Rattle.std.proofs.Common.{inl, inr, ◌↔◌, reverse}
use Rattle.cq_position.specs.Position.{IsPosition}
use Rattle.cq_position.specs.Games.{Game, IsTree}
use Rattle.std.proofs.lemmas.List.{take_all, take_more, get_or-map, length-map}
use Rattle.pgn_reader.specs.declared.fault.Reason.{Reason}
use Rattle.pgn_reader.specs.declared.fault.Reason.TheVariants.{TooManyPositions}
use Rattle.pgn_reader.specs.declared.token_machine.Reader.{Reader}
use Rattle.pgn_reader.specs.declared.token_machine.Phase.{Phase}
use Rattle.pgn_reader.specs.declared.token_machine.Phase.TheVariants.{Movetext, AfterBracket, AfterName, AfterValue, AfterResult}
use Rattle.pgn_reader.specs.Words.{Word}
use Rattle.pgn_reader.specs.Games.{Spells}
use Rattle.pgn_reader.specs.ReadingPlace.{fault_at, fault_at_end, variations_fault}
use Rattle.pgn_reader.specs.Internal.Frame.{NodeRow, Frame, whole}
use Rattle.pgn_reader.specs.Verdict.{IsOnlyGame}
use Rattle.pgn_reader.specs.Faults.{IsFault}
use Rattle.pgn_reader.specs.Internal.Machine.{State, at, ended, stuck, feed, run, first}
use Rattle.pgn_reader.specs.Internal.GameAssembly.{reading_place_of, nodes_of_rows}
use Rattle.pgn_reader.specs.Internal.ReaderView.{head_of, state_by_phase, state_of, moves_in, IsLow}
use Rattle.pgn_reader.specs.Internal.Reading.{IsWhole, ending_by, game_of}
use Rattle.pgn_reader.proofs.Read.{run_append}
use Rattle.pgn_reader.proofs.Whole.{IsEnd}
use Rattle.pgn_reader.proofs.Answer.{fault_here, fault_of_end, read_iff}
use Rattle.pgn_reader.proofs.Low.{run_low, first_low}
use Rattle.pgn_reader.proofs.Follows.{tree_shown}

-- the state of a reader is never stuck
shown_lives_by : (p : Phase) (r : Reader) → state_by_phase p r ≡ stuck → ⊥
shown_lives_by Movetext r is = cc
shown_lives_by AfterBracket r is = cc
shown_lives_by AfterName r is = cc
shown_lives_by AfterValue r is = cc
shown_lives_by (AfterResult result) r is = cc

pub shown_lives : (r : Reader) → state_of r ≡ stuck → ⊥
shown_lives r is = shown_lives_by r.phase r is

-- one token more
pub words_on : {A : Type 0} (word : A → Word) (tokens : List A) (i : ℕ) (d : A) → i < length tokens → take (i + 1) (map word tokens) ≡ take i (map word tokens) ++ word (get_or tokens i d) ∷ []
words_on word tokens i d low =
    let len : length (map word tokens) ≡ length tokens = length-map tokens word in
    take_more (map word tokens) i (word d) (omega (arith, low, len)) ∙ ap (λ w. take i (map word tokens) ++ w ∷ []) (get_or-map word tokens i d (word d) low)

pub run_on : {A : Type 0} (word : A → Word) (tokens : List A) (i : ℕ) (d : A) (s t : State) → i < length tokens → run first (take i (map word tokens)) ≡ s → feed s (word (get_or tokens i d)) ≡ t
    → run first (take (i + 1) (map word tokens)) ≡ t
run_on word tokens i d s t low is fed =
    ap (run first) (words_on word tokens i d low) ∙ run_append first (take i (map word tokens)) (word (get_or tokens i d) ∷ []) ∙ ap (λ x. feed x (word (get_or tokens i d))) is ∙ fed

pub low_here : (ts : List Word) (s : State) → run first ts ≡ s → IsLow s
low_here ts s is = subst IsLow is (run_low ts first first_low)

pub fault_in_loop : {A : Type 0} (word : A → Word) (tokens : List A) (i : ℕ) (d : A) (r : Reader) (reason : Reason) → i < length tokens
    → run first (take i (map word tokens)) ≡ state_of r → moves_in (state_of r) ≤ 65535
    → fault_at (reading_place_of (state_of r)) (word (get_or tokens i d)) ≡ Some reason → (reason ≢ TooManyPositions → feed (state_of r) (word (get_or tokens i d)) ≡ stuck)
    → IsFault (map word tokens) i reason
fault_in_loop word tokens i d r reason low is few why dead =
    fault_here (map word tokens) i (word (get_or tokens i d)) (state_of r) reason is (shown_lives r)
    (let len : length (map word tokens) ≡ length tokens = length-map tokens word in omega (arith, low, len)) (words_on word tokens i d low) why dead few

all_run : {A : Type 0} (word : A → Word) (tokens : List A) (i : ℕ) (s : State) → length tokens ≤ i → run first (take i (map word tokens)) ≡ s → run first (map word tokens) ≡ s
all_run word tokens i s all is =
    ap (run first) (sym (take_all i (map word tokens) (let len : length (map word tokens) ≡ length tokens = length-map tokens word in omega (arith, all, len)))) ∙ is

pub end_in_loop : {A : Type 0} (word : A → Word) (tokens : List A) (i : ℕ) (r : Reader) (reason : Reason) → length tokens ≤ i → run first (take i (map word tokens)) ≡ state_of r
    → moves_in (state_of r) ≤ 65535 → fault_at_end (reading_place_of (state_of r)) ≡ Some reason → IsFault (map word tokens) (length tokens) reason
end_in_loop word tokens i r reason all is few why =
    subst (λ n. IsFault (map word tokens) n reason) (length-map tokens word) (fault_of_end (map word tokens) (state_of r) reason (all_run word tokens i (state_of r) all is) (shown_lives r) why few)

pub whole_in_loop : {A : Type 0} (word : A → Word) (tokens : List A) (i : ℕ) (r : Reader) → length tokens ≤ i → run first (take i (map word tokens)) ≡ state_of r
    → moves_in (state_of r) ≤ 65535 → fault_at_end (reading_place_of (state_of r)) ≡ None → IsWhole (map word tokens) r
whole_in_loop word tokens i r all is few ends = record { is_run = all_run word tokens i (state_of r) all is; few = few; ends = ends }

-- the end of all tokens
pub record IsEndOf (ts : List Word) (r : Reader) : Type 0 where
  pub is_end : IsEnd (run first ts) (head_of r) r.line (ending_by r.phase r.tag_section.tags)
  pub few : r.moves ≤ 65535

none_open : (k : List Frame) → variations_fault (length k) ≡ None → k ≡ []
none_open [] is = refl
none_open (f ∷ k) is = absurd cc

end_by_phase : (ts : List Word) (r : Reader) (p : Phase) → r.phase ≡ p → run first ts ≡ state_by_phase p r → moves_in (state_by_phase p r) ≤ 65535 → fault_at_end (reading_place_of (state_by_phase p r)) ≡ None → IsEndOf ts r
end_by_phase ts r Movetext phase is few ends = record {
  is_end = inl (is ∙ ap (at (head_of r) r.line) (none_open (reverse r.around.items) ends), ap (λ p. ending_by p r.tag_section.tags) phase);
  few = few;
}
end_by_phase ts r AfterBracket phase is few ends = absurd (cc)
end_by_phase ts r AfterName phase is few ends = absurd (cc)
end_by_phase ts r AfterValue phase is few ends = absurd (cc)
end_by_phase ts r (AfterResult result) phase is few ends = record { is_end = inr (is ∙ ap (ended (head_of r) r.line) (ap (λ p. ending_by p r.tag_section.tags) (sym phase))); few = few }

pub end_of : (ts : List Word) (r : Reader) → IsWhole ts r → IsEndOf ts r
end_of ts r whole = end_by_phase ts r r.phase refl whole.is_run whole.few whole.ends

-- the one game that is spelled
pub only_game : (ts : List Word) (r : Reader) → IsWhole ts r → IsOnlyGame ts (game_of r)
only_game ts r whole =
    let e : IsEndOf ts r = end_of ts r whole in
    let iff : (g : Game) → Spells ts g ↔ (g ≡ game_of r) = read_iff ts (head_of r) r.line (ending_by r.phase r.tag_section.tags) e.is_end e.few in
    record { spells = (iff (game_of r)).1 refl; alone = λ g spells. (iff g).0 spells }

-- its nodes are a tree
pub tree_of_rows : (ts : List Word) (r : Reader) (rows : List NodeRow) → IsWhole ts r → IsPosition r.tag_section.start → rows ≡ whole r.line → IsTree (nodes_of_rows rows)
tree_of_rows ts r rows whole_ is all =
    let e : IsEndOf ts r = end_of ts r whole_ in
    subst (λ rs. IsTree (nodes_of_rows rs)) (sym all) (tree_shown ts (head_of r) r.line (ending_by r.phase r.tag_section.tags) e.is_end e.few is)

pub some_rows : (rows : List NodeRow) → IsTree (nodes_of_rows rows) → 0 < length rows
some_rows [] tree = tree.rooted
some_rows (r ∷ rows) tree = omega arith
