-- A game has one outcome: it is one game, or has one fault.
use Rattle.std.proofs.Common.{◌≡◌, ◌⊎◌, ℕ, ◌+◌, ◌<◌, ◌≤◌, ◌^◌, inl, inr, ⊎_elim, List, [], ◌∷◌, ◌++◌, length, take, drop, Some, Result, Ok, Err, Bool, sym, ap, ap₂, ◌∙◌, subst, arith}
use Rattle.std.specs.Prelude.{slice_get}
use Rattle.std.proofs.lemmas.List.{take-append-drop, take_all, take-take}
use Rattle.cq_position.specs.Games.{Game}
use Rattle.pgn_lexer.specs.Lexemes.{tokens_of}
use Rattle.pgn_reader.specs.declared.fault.GameFault.{GameFault}
use Rattle.pgn_reader.specs.declared.fault.Reason.{Reason}
use Rattle.pgn_reader.specs.Internal.GameAssembly.{reading_place_of}
use Rattle.pgn_reader.specs.Faults.{IsFault}
use Rattle.pgn_reader.specs.Games.{Spells}
use Rattle.pgn_reader.specs.Internal.Machine.{State, stuck, feed, run, first}
use Rattle.pgn_reader.specs.Internal.ReaderView.{moves_in}
use Rattle.pgn_reader.specs.ReadingPlace.{fault_at, fault_at_end}
use Rattle.pgn_reader.specs.Verdict.{IsGameFault, IsReadResult, place_or}
use Rattle.pgn_reader.specs.Words.{Word, words_of}
use Rattle.pgn_reader.proofs.Answer.{no_end_fault}
use Rattle.pgn_reader.proofs.Limit.{AtLeast, run_keeps, end_least, live_least, fault_fed}
use Rattle.pgn_reader.proofs.Located.{located, few_moves}
use Rattle.pgn_reader.proofs.Read.{run_append}
use Rattle.pgn_reader.proofs.Whole.{IsEnd, spelled_is_read, stuck_is_dead}

-- a fault as the reader meets it
record Met (ts : List Word) (k : ℕ) (reason : Reason) : Type 0 where
  state : State
  is_run : run first (take k ts) ≡ state
  live : state ≡ stuck → ⊥
  few : moves_in state ≤ 65535
  why : ((w : Word) × (take (k + 1) ts ≡ take k ts ++ w ∷ []) × (k < length ts) × (fault_at (reading_place_of state) w ≡ Some reason))
      ⊎ ((k ≡ length ts) × (fault_at_end (reading_place_of state) ≡ Some reason))

met : (ts : List Word) (k : ℕ) (reason : Reason) → IsFault ts k reason → Met ts k reason
met ts k reason fault =
    let at_ = located (take k ts) fault.standing fault.alive fault.stands fault.few in
    record {
      state = at_.state;
      is_run = at_.is_run;
      live = λ e. stuck_is_dead (take k ts) (at_.is_run ∙ e) fault.alive;
      few = at_.few;
      why = ⊎_elim
          (λ word. inl (word.0, word.1, word.2, ap (λ s. fault_at s word.0) at_.stands ∙ word.3.why))
          (λ end. inr (end.0, ap fault_at_end at_.stands ∙ end.1.why))
          fault.fault;
    }

-- after a faulty token the limit is exceeded, or reading is stuck, whatever follows
after_fault : (ts more : List Word) (k : ℕ) (reason : Reason) (m : Met ts k reason) (w : Word) → fault_at (reading_place_of m.state) w ≡ Some reason
    → AtLeast 65536 (run first ((take k ts ++ w ∷ []) ++ more))
after_fault ts more k reason m w why =
    subst (AtLeast 65536)
    (sym (run_append first (take k ts ++ w ∷ []) more ∙ ap (λ s. run s more) (run_append first (take k ts) (w ∷ []) ∙ ap (λ s. feed s w) m.is_run)))
    (run_keeps 65536 more (feed m.state w) (fault_fed m.state w reason m.live m.few why))

-- the tokens after the first ones
rest_of : (ts : List Word) (k j : ℕ) (w : Word) → k < j → take (k + 1) ts ≡ take k ts ++ w ∷ [] → take j ts ≡ (take k ts ++ w ∷ []) ++ drop (k + 1) (take j ts)
rest_of ts k j w before more =
    sym (take-append-drop (k + 1) (take j ts)) ∙ ap (λ l. l ++ drop (k + 1) (take j ts)) (take-take (k + 1) j ts (omega (arith, before)) ∙ more)

met_within : (ts : List Word) (k : ℕ) (reason : Reason) → Met ts k reason → k ≤ length ts
met_within ts k reason m = ⊎_elim (λ word. let low = word.2 in omega (arith, low)) (λ end. let e = end.0 in omega (arith, e)) m.why

none_before : (ts : List Word) (k j : ℕ) (a b : Reason) → Met ts k a → Met ts j b → k < j → ⊥
none_before ts k j a b m n before =
    ⊎_elim
    (λ word.
    let least = after_fault ts (drop (k + 1) (take j ts)) k a m word.0 word.3 in
    let here : AtLeast 65536 n.state = subst (AtLeast 65536) (ap (run first) (sym (rest_of ts k j word.0 before word.1)) ∙ n.is_run) least in
    let many = live_least 65536 n.state n.live here in
    let few = n.few in
    omega (arith, many, few))
    (λ end. let e = end.0 in let within = met_within ts j b n in omega (arith, e, within, before))
    m.why

some_is : (a b : Reason) → Some a ≡ Some b → a ≡ b
some_is a b e = cc

last_is : (xs : List Word) (v w : Word) → xs ++ v ∷ [] ≡ xs ++ w ∷ [] → v ≡ w
last_is [] v w e = cc
last_is (x ∷ xs) v w e = last_is xs v w (let t : xs ++ v ∷ [] ≡ xs ++ w ∷ [] = cc in t)

same_reason : (ts : List Word) (k : ℕ) (a b : Reason) → Met ts k a → Met ts k b → a ≡ b
same_reason ts k a b m n = by_why m.why n.why
  where
    same : reading_place_of n.state ≡ reading_place_of m.state
    same = ap reading_place_of (sym n.is_run ∙ m.is_run)

    by_why : ((w : Word) × (take (k + 1) ts ≡ take k ts ++ w ∷ []) × (k < length ts) × (fault_at (reading_place_of m.state) w ≡ Some a)) ⊎ ((k ≡ length ts) × (fault_at_end (reading_place_of m.state) ≡ Some a))
        → ((w : Word) × (take (k + 1) ts ≡ take k ts ++ w ∷ []) × (k < length ts) × (fault_at (reading_place_of n.state) w ≡ Some b))
        ⊎ ((k ≡ length ts) × (fault_at_end (reading_place_of n.state) ≡ Some b)) → a ≡ b
    by_why (inl (v, more, low, why)) (inl (w, more', low', why')) =
        let words : w ≡ v = last_is (take k ts) w v (sym more' ∙ more) in
        some_is a b (sym why ∙ ap₂ (λ s x. fault_at s x) (sym same) (sym words) ∙ why')
    by_why (inl (v, more, low, why)) (inr (end, why')) = absurd (omega (arith, low, end))
    by_why (inr (end, why)) (inl (w, more', low', why')) = absurd (omega (arith, low', end))
    by_why (inr (end, why)) (inr (end', why')) = some_is a b (sym why ∙ ap fault_at_end (sym same) ∙ why')

-- so tokens have one fault
record AreOne (k j : ℕ) (a b : Reason) : Type 0 where
  index : k ≡ j
  reason : a ≡ b

same_index : (k j : ℕ) → (k < j → ⊥) → (j < k → ⊥) → k ≡ j
same_index k j a b = grind arith

one_fault : (ts : List Word) (k j : ℕ) (a b : Reason) → IsFault ts k a → IsFault ts j b → AreOne k j a b
one_fault ts k j a b f g =
    let m = met ts k a f in
    let n = met ts j b g in
    let index = same_index k j (none_before ts k j a b m n) (none_before ts j k b a n m) in
    record { index = index; reason = same_reason ts k a b m (subst (λ i. Met ts i b) (sym index) n) }

-- and where they spell a game, none
met_no_game : (ts : List Word) (g : Game) (k : ℕ) (reason : Reason) → Spells ts g → Met ts k reason → ⊥
met_no_game ts g k reason spells m =
    let r = spelled_is_read ts g spells.spells in
    let few = few_moves ts g spells r in
    ⊎_elim
    (λ word.
    let all : ts ≡ (take k ts ++ word.0 ∷ []) ++ drop (k + 1) ts = sym (take-append-drop (k + 1) ts) ∙ ap (λ l. l ++ drop (k + 1) ts) word.1 in
    let least : AtLeast 65536 (run first ts) = subst (λ l. AtLeast 65536 (run first l)) (sym all) (after_fault ts (drop (k + 1) ts) k reason m word.0 word.3) in
    let many = end_least 65536 (run first ts) r.head r.frame r.result r.is_end least in
    omega (arith, many, few))
    (λ end.
    let e = end.0 in
    let whole : run first ts ≡ m.state = ap (run first) (sym (take_all k ts (omega (arith, e)))) ∙ m.is_run in
    no_end_fault m.state r.head r.frame r.result reason (subst (λ s. IsEnd s r.head r.frame r.result) whole r.is_end) end.1)
    m.why

pub no_fault : (ts : List Word) (g : Game) → Spells ts g → (k : ℕ) (reason : Reason) → IsFault ts k reason → ⊥
no_fault ts g spells k reason fault = met_no_game ts g k reason spells (met ts k reason fault)

-- the same of bytes
long_is_not_short : (limit n : ℕ) → limit < n → n ≤ limit → ⊥
long_is_not_short limit n long short = omega (arith, long, short)

same_fault : (a b : GameFault) → a.byte ≡ b.byte → a.reason ≡ b.reason → a ≡ b
same_fault a b bytes reasons = ap₂ (λ x y. record { byte = x; reason = y }) bytes reasons

one_game_fault : (start : ℕ) (first_ : Bool) (bytes : List ℕ) (a b : GameFault) → IsGameFault start first_ bytes a → IsGameFault start first_ bytes b → a ≡ b
one_game_fault start first_ bytes a b (inl f) (inl g) = f.fault ∙ sym g.fault
one_game_fault start first_ bytes a b (inl f) (inr g) = absurd (long_is_not_short (2 ^ 24) (length bytes) f.long g.short)
one_game_fault start first_ bytes a b (inr f) (inl g) = absurd (long_is_not_short (2 ^ 24) (length bytes) g.long f.short)
one_game_fault start first_ bytes a b (inr f) (inr g) =
    let one = one_fault (words_of start first_ bytes) f.index g.index a.reason b.reason f.fault g.fault in
    same_fault a b (f.byte ∙ ap (λ i. place_or (start + length bytes) (slice_get (tokens_of start first_ bytes) i)) one.index ∙ sym g.byte) one.reason

no_game_fault : (start : ℕ) (first_ : Bool) (bytes : List ℕ) (g : Game) (f : GameFault) → IsReadResult start first_ bytes (Ok g) → IsGameFault start first_ bytes f → ⊥
no_game_fault start first_ bytes g f (short, only) (inl long) = long_is_not_short (2 ^ 24) (length bytes) long.long short
no_game_fault start first_ bytes g f (short, only) (inr fault) = no_fault (words_of start first_ bytes) g only.spells fault.index f.reason fault.fault

pub one_outcome : (start : ℕ) (first_ : Bool) (bytes : List ℕ) (a b : Result Game GameFault) → IsReadResult start first_ bytes a → IsReadResult start first_ bytes b → a ≡ b
one_outcome start first_ bytes (Ok g) (Ok h) (short, only) (short', other) = ap (λ x. Ok x) (other.alone g only.spells)
one_outcome start first_ bytes (Ok g) (Err f) x y = absurd (no_game_fault start first_ bytes g f x y)
one_outcome start first_ bytes (Err f) (Ok g) x y = absurd (no_game_fault start first_ bytes g f y x)
one_outcome start first_ bytes (Err f) (Err e) x y = ap (λ z. Err z) (one_game_fault start first_ bytes f e x y)
