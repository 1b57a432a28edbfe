-- The result of reading: the one game that is spelled, or the first fault.
use Rattle.std.proofs.Common.{◌≡◌, ◌≢◌, ℕ, suc, ◌+◌, ◌<◌, ◌≤◌, inl, inr, ◌↔◌, List, [], ◌∷◌, ◌++◌, length, take, Some, None, refl, sym, ap, ap₂, ◌∙◌, subst, arith}
use Rattle.std.proofs.lemmas.List.{take_all}
use Rattle.cq_position.specs.declared.games.GameResult.{GameResult}
use Rattle.cq_position.specs.Board.{Board}
use Rattle.cq_position.specs.Games.{Game}
use Rattle.pgn_reader.specs.declared.fault.Reason.{Reason}
use Rattle.pgn_reader.specs.declared.fault.Reason.TheVariants.{TooManyPositions}
use Rattle.pgn_reader.specs.Words.{Word}
use Rattle.pgn_reader.specs.Tags.{result_of_tags}
use Rattle.pgn_reader.specs.Line.{beginning, ParsesLine}
use Rattle.pgn_reader.specs.Games.{SpellsOfAnyLength, Spells}
use Rattle.pgn_reader.specs.ReadingPlace.{OpenLines, outermost, within, depth_of, Reaches, IsReadingPlace, fault_at, fault_at_end, moves_before}
use Rattle.pgn_reader.specs.Faults.{IsViablePrefix, IsFault}
use Rattle.pgn_reader.specs.Internal.Frame.{NodeRow, Frame, place, whole}
use Rattle.pgn_reader.specs.Internal.Machine.{Head, State, opened, named, valued, at, ended, stuck, feed, run, first}
use Rattle.pgn_reader.specs.Internal.ReaderView.{moves_in}
use Rattle.pgn_reader.specs.Internal.GameAssembly.{path_down, nodes_by, nodes_of_rows, game_of_frame, reading_place_of}
use Rattle.pgn_reader.proofs.Read.{run_append}
use Rattle.pgn_reader.proofs.LineTail.{Stack}
use Rattle.pgn_reader.proofs.Stands.{Stands, all_stands}
use Rattle.pgn_reader.proofs.Whole.{IsEnd, IsReadResult, spelled_is_read, Spelled, read_at, read_ended, begins, stuck_is_dead}
use Rattle.pgn_reader.proofs.Count.{run_counts, first_counts, Counts}

-- the place that what has begun reaches, and how many variations are open
pub record Reached (start : Board) (b : OpenLines) (f : Frame) (k : List Frame) : Type 0 where
  pub reaches : Reaches start b (place f)
  pub depth : depth_of b ≡ length k

reached : (start : Board) (b : OpenLines) (f : Frame) (k : List Frame) → Stack start b f k → Reached start b f k
reached start (outermost l) f [] (t, tells, end) = record { reaches = (t, tells, end); depth = refl }
reached start (outermost l) f (g ∷ k) wrong = absurd wrong
reached start (within b o l) f [] wrong = absurd wrong
reached start (within b o l) f (g ∷ k) (around, p, before, shallow, opening, t, tells, end) =
    let outer : Reached start b g k = reached start b g k around in
    record {
      reaches = (place g, outer.reaches, p, before, subst (λ n. n < 100) (sym outer.depth) shallow, opening, t, subst (λ n. ParsesLine (n + 1) (beginning p) l t) (sym outer.depth) tells, end);
      depth = let e : depth_of b + 1 ≡ length (g ∷ k) = let d = outer.depth in omega (arith, d) in e;
    }

-- one game at the end of reading
same_end : (s : State) (h i : Head) (f g : Frame) (a b : GameResult) → IsEnd s h f a → IsEnd s i g b → game_of_frame i g b ≡ game_of_frame h f a
same_end s h i f g a b (inl x) (inl y) =
    let e : at i g [] ≡ at h f [] = sym y.0 ∙ x.0 in
    let heads : i ≡ h = cc in
    let frames : g ≡ f = cc in
    let results : b ≡ a = y.1 ∙ ap (λ z. result_of_tags z.tags) heads ∙ sym x.1 in
    ap₂ (λ z n. game_of_frame z n b) heads frames ∙ ap (game_of_frame h f) results
same_end s h i f g a b (inl x) (inr y) = absurd (let e : ended i g b ≡ at h f [] = sym y ∙ x.0 in cc)
same_end s h i f g a b (inr x) (inl y) = absurd (let e : at i g [] ≡ ended h f a = sym y.0 ∙ x in cc)
same_end s h i f g a b (inr x) (inr y) =
    let e : ended i g b ≡ ended h f a = sym y ∙ x in
    let heads : i ≡ h = cc in
    let frames : g ≡ f = cc in
    let results : b ≡ a = cc in
    ap₂ (λ z n. game_of_frame z n b) heads frames ∙ ap (game_of_frame h f) results

spelled_end : (ts : List Word) (h : Head) (f : Frame) (result : GameResult) → IsEnd (run first ts) h f result → Spelled ts
spelled_end ts h f result (inl there) = read_at ts h f there.0
spelled_end ts h f result (inr there) = read_ended ts h f result there

pub spells_shown : (ts : List Word) (h : Head) (f : Frame) (result : GameResult) → IsEnd (run first ts) h f result → SpellsOfAnyLength ts (game_of_frame h f result)
spells_shown ts h f result is_end =
    let spelled : Spelled ts = spelled_end ts h f result is_end in
    let r : IsReadResult ts spelled.game = spelled_is_read ts spelled.game spelled.spells in
    subst (SpellsOfAnyLength ts) (r.game ∙ same_end (run first ts) h r.head f r.frame result r.result is_end r.is_end) spelled.spells

nodes_length : (rows : List NodeRow) (way : List ℕ) (k : ℕ) → length (nodes_by way k rows) ≡ length rows
unfolding nodes_by
nodes_length [] way k = refl
nodes_length (r ∷ rows) way k = ap suc (nodes_length rows (path_down way r.level k) (k + 1))

pub all_nodes_length : (rows : List NodeRow) → length (nodes_of_rows rows) ≡ length rows
all_nodes_length [] = refl
all_nodes_length (r ∷ rows) = ap suc (nodes_length rows (0 ∷ []) 1)

counts_end : (s : State) (h : Head) (f : Frame) (result : GameResult) → IsEnd s h f result → Counts s → length (whole f) ≡ h.moves + 1
counts_end s h f result (inl there) counts = let e : length (whole f) + 0 ≡ h.moves + 1 = subst Counts there.0 counts in omega (arith, e)
counts_end s h f result (inr there) counts = subst Counts there counts

pub whole_counts : (ts : List Word) (h : Head) (f : Frame) (result : GameResult) → IsEnd (run first ts) h f result → length (whole f) ≡ h.moves + 1
whole_counts ts h f result is_end = counts_end (run first ts) h f result is_end (run_counts ts first first_counts)

pub read_iff : (ts : List Word) (h : Head) (f : Frame) (result : GameResult) → IsEnd (run first ts) h f result → h.moves ≤ 65535 → (g : Game) → Spells ts g ↔ (g ≡ game_of_frame h f result)
read_iff ts h f result is_end few g = (
  λ spells. let r : IsReadResult ts g = spelled_is_read ts g spells.spells in r.game ∙ same_end (run first ts) h r.head f r.frame result r.result is_end r.is_end,
  λ is. subst (Spells ts) (sym is) (record {
    spells = spells_shown ts h f result is_end;
    few = let a = all_nodes_length (whole f) in let b = whole_counts ts h f result is_end in omega (arith, a, b, few);
  }),
)

-- the place of the tokens of a state
stands_by : (ts : List Word) (s : State) → run first ts ≡ s → moves_in s ≤ 65535 → Stands ts s → (s ≡ stuck → ⊥) → IsReadingPlace ts (reading_place_of s)
stands_by ts (opened tags) is few stands live = stands
stands_by ts (named tags name) is few stands live = stands
stands_by ts (valued tags start) is few v live = (v.tags, v.opening, v.name, v.value, v.is_open, v.is_symbol, v.is_text, v.pair)
stands_by ts (at h f k) is few state_of live =
    let r : Reached h.start state_of.begun f k = reached h.start state_of.begun f k state_of.stack in
    record {
      pairs = state_of.pairs;
      tags = h.tags;
      start = h.start;
      has_heading = state_of.has_heading;
      begun = state_of.begun;
      reaches = r.reaches;
      joined = state_of.joined;
      depth_is = sym r.depth;
      moves_are = state_of.moves;
      heading_is = state_of.heading;
    }
stands_by ts (ended h f result) is few m live = record {
  game = game_of_frame h f result;
  spells = (read_iff ts h f result (inr is) few (game_of_frame h f result)).1 refl;
  marked = (m.before, m.marker, result, m.joined, m.marks);
}
stands_by ts stuck is few stands live = absurd (live refl)

pub stands_at : (ts : List Word) (s : State) → run first ts ≡ s → moves_in s ≤ 65535 → (s ≡ stuck → ⊥) → IsReadingPlace ts (reading_place_of s)
stands_at ts s is few live = stands_by ts s is few (subst (Stands ts) is (all_stands ts)) live

few_before : (s : State) → moves_in s ≤ 65535 → moves_before (reading_place_of s) ≤ 65535
few_before (opened tags) few = few
few_before (named tags name) few = few
few_before (valued tags start) few = few
few_before (at h f k) few = few
few_before (ended h f result) few = omega arith
few_before stuck few = few

-- a token at which reading gets stuck, or that makes one position too many
pub fault_here : (ts : List Word) (i : ℕ) (w : Word) (s : State) (reason : Reason) → run first (take i ts) ≡ s → (s ≡ stuck → ⊥) → i < length ts → take (i + 1) ts ≡ take i ts ++ w ∷ []
    → fault_at (reading_place_of s) w ≡ Some reason → (reason ≢ TooManyPositions → feed s w ≡ stuck) → moves_in s ≤ 65535 → IsFault ts i reason
fault_here ts i w s reason is live low more why dead few = record {
  alive = begins (take i ts) s is live;
  standing = reading_place_of s;
  stands = stands_at (take i ts) s is few live;
  few = few_before s few;
  fault = inl (
    w,
    more,
    low,
    record {
      why = why;
      dead = λ other. stuck_is_dead (take i ts ++ w ∷ []) (run_append first (take i ts) (w ∷ []) ∙ ap (λ x. feed x w) is ∙ dead other);
    },
  );
}

pub no_end_fault : (s : State) (h : Head) (f : Frame) (result : GameResult) (reason : Reason) → IsEnd s h f result → fault_at_end (reading_place_of s) ≡ Some reason → ⊥
no_end_fault s h f result reason (inl there) why = let e : None ≡ Some reason = ap (λ x. fault_at_end (reading_place_of x)) (sym there.0) ∙ why in cc
no_end_fault s h f result reason (inr there) why = let e : None ≡ Some reason = ap (λ x. fault_at_end (reading_place_of x)) (sym there) ∙ why in cc

-- the end, where the tokens only begin a game
pub fault_of_end : (ts : List Word) (s : State) (reason : Reason) → run first ts ≡ s → (s ≡ stuck → ⊥) → fault_at_end (reading_place_of s) ≡ Some reason → moves_in s ≤ 65535
    → IsFault ts (length ts) reason
fault_of_end ts s reason is live why few =
    let all : take (length ts) ts ≡ ts = take_all (length ts) ts (let e : length ts ≤ length ts = omega arith in e) in
    record {
      alive = subst IsViablePrefix (sym all) (begins ts s is live);
      standing = reading_place_of s;
      stands = subst (λ x. IsReadingPlace x (reading_place_of s)) (sym all) (stands_at ts s is few live);
      few = few_before s few;
      fault = inr (
        refl,
        record {
          why = why;
          dead = λ g spells. let r : IsReadResult ts g = spelled_is_read ts g spells in
              no_end_fault s r.head r.frame r.result reason (subst (λ x. IsEnd x r.head r.frame r.result) is r.is_end) why;
        },
      );
    }
