-- No game within the limit of positions continues after a faulty token.
use Rattle.std.proofs.Common.{◌≡◌, ◌≢◌, ◌⊎◌, ℕ, zero, suc, ◌+◌, ◌≤◌, Bool, true, false, List, [], ◌∷◌, length, Option, Some, None, Result, Ok, Err, refl, sym, ap, ◌∙◌, subst, inl, inr, ⊎_elim, arith}
use Rattle.std.specs.Prelude.{nat_lt, if◌then◌else◌}
use Rattle.std.specs.List.{list_all}
use Rattle.std.specs.Char.{is_ascii_digit}
use Rattle.std.proofs.lemmas.Bool.{ltb-false}
use Rattle.cq_position.specs.declared.fen.FenFault.{FenFault}
use Rattle.cq_position.specs.declared.games.GameResult.{GameResult}
use Rattle.cq_position.specs.declared.moves.Move.{Move}
use Rattle.cq_position.specs.Board.{Board}
use Rattle.cq_position.specs.Games.{with_tag}
use Rattle.cq_san.specs.declared.fault.SanFault.{SanFault}
use Rattle.cq_san.specs.declared.fault.SanFault.TheVariants.{NotAMove, IllegalMove, AmbiguousMove}
use Rattle.cq_san.specs.San.{san}
use Rattle.pgn_lexer.specs.declared.token.TokenKind.{TokenKind}
use Rattle.pgn_lexer.specs.declared.token.TokenKind.TheVariants.{Open, Close, Text, Symbol, Nag}
use Rattle.pgn_reader.specs.declared.fault.Reason.{Reason}
use Rattle.pgn_reader.specs.declared.fault.Reason.TheVariants.{BadTag, TooDeep, NagRange, TooManyPositions}
use Rattle.pgn_reader.specs.Internal.Frame.{Frame, place}
use Rattle.pgn_reader.specs.Line.{LinePlace}
use Rattle.pgn_reader.specs.Internal.Machine.{Head, State, opened, named, valued, at, ended, stuck, on_move, on_marker, on_opening, on_end, on_bracket, on_sense, feed, run}
use Rattle.pgn_reader.specs.Internal.GameAssembly.{reading_place_of}
use Rattle.pgn_reader.specs.Internal.ReaderView.{moves_in}
use Rattle.pgn_reader.specs.ReadingPlace.{name_fault, value_fault, fen_fault, closing_fault, marker_fault, move_fault, san_reason, variation_fault, end_of_variation_fault, misplaced_fault, movetext_fault, fault_at}
use Rattle.pgn_reader.specs.Tags.{start_of, value_of}
use Rattle.pgn_reader.specs.Words.{Word, Sense, plays, annotates, remarks, ends, opens, closes, means_nothing, out_of_place, sense, sense_of, sense_of_symbol, sense_of_marker, sense_of_glyph, result_of_text}
use Rattle.pgn_reader.proofs.Read.{feed_is}
use Rattle.pgn_reader.proofs.Verdicts.{Passes, step_passes}
use Rattle.pgn_reader.proofs.Whole.{IsEnd}

-- the movetext was reached, with at least this number of moves
pub AtLeast : ℕ → State → Type 0
AtLeast n (at h f k) = (h.heading ≡ false) × (n ≤ h.moves)
AtLeast n (ended h f r) = n ≤ h.moves
AtLeast n stuck = Unit {0}
AtLeast n (opened tags) = ⊥
AtLeast n (named tags name) = ⊥
AtLeast n (valued tags start) = ⊥

move_keeps : (n : ℕ) (h : Head) (f : Frame) (k : List Frame) (r : Result Move SanFault) → n ≤ h.moves → AtLeast n (on_move h f k r)
unfolding AtLeast
move_keeps n h f k (Err fault) low = tt
move_keeps n h f k (Ok m) low = (refl, omega (arith, low))

marker_keeps : (n : ℕ) (h : Head) (f : Frame) (k : List Frame) (r : GameResult) → n ≤ h.moves → AtLeast n (on_marker h f k r)
unfolding AtLeast
marker_keeps n h f [] r low = low
marker_keeps n h f (g ∷ k) r low = (refl, low)

opening_keeps : (n : ℕ) (h : Head) (f : Frame) (k : List Frame) (deep : Bool) (o : Option Board) → n ≤ h.moves → AtLeast n (on_opening h f k deep o)
unfolding AtLeast
opening_keeps n h f k deep None low = tt
opening_keeps n h f k false (Some p) low = tt
opening_keeps n h f k true (Some p) low = (refl, low)

end_keeps : (n : ℕ) (h : Head) (f : Frame) (k : List Frame) (o : Option Board) → n ≤ h.moves → AtLeast n (on_end h f k o)
unfolding AtLeast
end_keeps n h f k None low = tt
end_keeps n h f [] (Some p) low = tt
end_keeps n h f (g ∷ k) (Some p) low = (refl, low)

sense_keeps : (n : ℕ) (h : Head) (f : Frame) (k : List Frame) (kind : TokenKind) (s : Sense) → h.heading ≡ false → n ≤ h.moves → AtLeast n (on_sense h f k kind s)
unfolding AtLeast
sense_keeps n h f k kind (plays m) body low = move_keeps n h f k (san f.reached m) low
sense_keeps n h f k kind (annotates m) body low = (refl, low)
sense_keeps n h f k kind (remarks c) body low = (body, low)
sense_keeps n h f k kind (ends r) body low = marker_keeps n h f k r low
sense_keeps n h f k kind opens body low = opening_keeps n h f k (nat_lt (length k) 100) f.before low
sense_keeps n h f k kind closes body low = end_keeps n h f k f.before low
sense_keeps n h f k kind means_nothing body low = (refl, low)
sense_keeps n h f k kind (out_of_place reason) body low = subst (λ b. AtLeast n (on_bracket b h.tags kind)) (sym body) tt

feed_keeps : (n : ℕ) (s : State) (w : Word) → AtLeast n s → AtLeast n (feed s w)
unfolding AtLeast feed
feed_keeps n (at h f k) w least = sense_keeps n h f k w.kind (sense w) least.0 least.1
feed_keeps n (ended h f r) w least = tt
feed_keeps n stuck w least = tt
feed_keeps n (opened tags) w least = absurd least
feed_keeps n (named tags name) w least = absurd least
feed_keeps n (valued tags start) w least = absurd least

pub run_keeps : (n : ℕ) (ts : List Word) (s : State) → AtLeast n s → AtLeast n (run s ts)
run_keeps n [] s least = least
run_keeps n (t ∷ ts) s least = run_keeps n ts (feed s t) (feed_keeps n s t least)

pub end_least : (n : ℕ) (s : State) (h : Head) (f : Frame) (result : GameResult) → IsEnd s h f result → AtLeast n s → n ≤ h.moves
unfolding AtLeast
end_least n s h f result (inl is) least = (subst (AtLeast n) is.0 least).1
end_least n s h f result (inr is) least = subst (AtLeast n) is least

pub live_least : (n : ℕ) (s : State) → (s ≡ stuck → ⊥) → AtLeast n s → n ≤ moves_in s
unfolding AtLeast
live_least n (at h f k) live least = least.1
live_least n (ended h f r) live least = least
live_least n stuck live least = absurd (live refl)
live_least n (opened tags) live least = absurd least
live_least n (named tags name) live least = absurd least
live_least n (valued tags start) live least = absurd least

after_move : (u : Head) (f : Frame) (k : List Frame) (w : Word) (m : List ℕ) (move : Move) → sense w ≡ plays m → san f.reached m ≡ Ok move → AtLeast (u.moves + 1) (feed (at u f k) w)
unfolding AtLeast
after_move u f k w m move plays_it read =
    subst (AtLeast (u.moves + 1)) (sym (feed_is u f k w (plays m) plays_it ∙ ap (on_move u f k) read)) (refl, omega arith)

fewer_least : (m n : ℕ) (s : State) → m ≤ n → AtLeast n s → AtLeast m s
unfolding AtLeast
fewer_least m n (at h f k) fewer least = (least.0, let l = least.1 in omega (arith, fewer, l))
fewer_least m n (ended h f r) fewer least = omega (arith, fewer, least)
fewer_least m n stuck fewer least = tt
fewer_least m n (opened tags) fewer least = absurd least
fewer_least m n (named tags name) fewer least = absurd least
fewer_least m n (valued tags start) fewer least = absurd least

-- the reasons of tokens, of which one alone is the limit of positions
no_name : (kind : TokenKind) → name_fault kind ≡ Some TooManyPositions → ⊥
no_name Symbol e = cc
no_name _ e = cc

no_start : (r : Result Board FenFault) → fen_fault r ≡ Some TooManyPositions → ⊥
no_start (Ok start) e = cc
no_start (Err fault) e = cc

no_value : (kind : TokenKind) (r : Result Board FenFault) → value_fault kind r ≡ Some TooManyPositions → ⊥
no_value Text r e = no_start r e
no_value _ r e = cc

no_closing : (kind : TokenKind) → closing_fault kind ≡ Some TooManyPositions → ⊥
no_closing Close e = cc
no_closing _ e = cc

either_reason : (t : Bool) (a b : Reason) → a ≢ TooManyPositions → b ≢ TooManyPositions → Some (if t then a else b) ≡ Some TooManyPositions → ⊥
either_reason true a b x y e = x (let i : a ≡ TooManyPositions = cc in i)
either_reason false a b x y e = y (let i : b ≡ TooManyPositions = cc in i)

no_marker : (kind : TokenKind) → marker_fault kind ≡ Some TooManyPositions → ⊥
no_marker (Nag n) e = either_reason (nat_lt n 256) BadTag NagRange (λ i. cc) (λ i. cc) e
no_marker _ e = cc

no_san : (fault : SanFault) → Some (san_reason fault) ≡ Some TooManyPositions → ⊥
no_san NotAMove e = cc
no_san IllegalMove e = cc
no_san AmbiguousMove e = cc

no_opening : (depth : ℕ) (o : Option Board) → variation_fault depth o ≡ Some TooManyPositions → ⊥
no_opening depth None e = cc
no_opening depth (Some p) e = by_depth (nat_lt depth 100) e
  where
    by_depth : (t : Bool) → (if t then None else Some TooDeep) ≡ Some TooManyPositions → ⊥
    by_depth true e = cc
    by_depth false e = cc

no_end : (depth : ℕ) (o : Option Board) → end_of_variation_fault depth o ≡ Some TooManyPositions → ⊥
no_end zero o e = cc
no_end (suc depth) None e = cc
no_end (suc depth) (Some p) e = cc

-- no token is out of place for this reason
no_symbol : (t : Bool) (o : Option GameResult) (text : List ℕ) → (if t then means_nothing else sense_of_marker text o) ≡ out_of_place TooManyPositions → ⊥
no_symbol true o text e = cc
no_symbol false None text e = cc
no_symbol false (Some r) text e = cc

no_glyph : (t : Bool) (n : ℕ) → (if t then annotates n else out_of_place NagRange) ≡ out_of_place TooManyPositions → ⊥
no_glyph true n e = cc
no_glyph false n e = cc

no_sense : (kind : TokenKind) (text : List ℕ) → sense_of kind text ≡ out_of_place TooManyPositions → ⊥
unfolding sense_of_symbol sense_of_glyph
no_sense Symbol text e = no_symbol (list_all is_ascii_digit text) (result_of_text text) text e
no_sense (Nag n) text e = no_glyph (nat_lt n 256) n e
no_sense _ text e = cc

no_misplaced : (heading : Bool) (kind : TokenKind) (reason : Reason) → misplaced_fault heading kind reason ≡ Some TooManyPositions → reason ≡ TooManyPositions
no_misplaced true Open reason e = absurd (let f : None ≡ Some TooManyPositions = e in cc)
no_misplaced true _ reason e = cc
no_misplaced false kind reason e = cc

word_never : (w : Word) → sense w ≡ out_of_place TooManyPositions → ⊥
unfolding sense
word_never w e = no_sense w.kind w.text e

-- the limit is exceeded at a move, after the largest number of moves
record PassesLimit (moves : ℕ) (a : LinePlace) (s : Sense) : Type 0 where
  text : List ℕ
  move : Move
  is : s ≡ plays text
  read : san a.reached text ≡ Ok move
  many : 65535 ≤ moves

room_passed : (t : Bool) (moves : ℕ) → nat_lt moves 65535 ≡ t → (if t then None else Some TooManyPositions) ≡ Some TooManyPositions → 65535 ≤ moves
room_passed true moves is e = absurd (let f : None ≡ Some TooManyPositions = e in cc)
room_passed false moves is e = ltb-false moves 65535 is

move_limit : (moves : ℕ) (a : LinePlace) (text : List ℕ) (r : Result Move SanFault) → san a.reached text ≡ r → move_fault moves r ≡ Some TooManyPositions → PassesLimit moves a (plays text)
move_limit moves a text (Err fault) is e = absurd (no_san fault e)
move_limit moves a text (Ok move) is e = record { text = text; move = move; is = refl; read = is; many = room_passed (nat_lt moves 65535) moves refl e }

never : (s : Sense) (moves : ℕ) (a : LinePlace) → None ≡ Some TooManyPositions → PassesLimit moves a s
never s moves a e = absurd cc

limit_passes : (heading : Bool) (depth moves : ℕ) (a : LinePlace) (kind : TokenKind) (s : Sense) → (s ≡ out_of_place TooManyPositions → ⊥)
    → movetext_fault heading depth moves a kind s ≡ Some TooManyPositions → PassesLimit moves a s
limit_passes heading depth moves a kind (plays m) placed e = move_limit moves a m (san a.reached m) refl e
limit_passes heading depth moves a kind opens placed e = absurd (no_opening depth a.before e)
limit_passes heading depth moves a kind closes placed e = absurd (no_end depth a.before e)
limit_passes heading depth moves a kind (out_of_place reason) placed e = absurd (placed (ap out_of_place (no_misplaced heading kind reason e)))
limit_passes heading depth moves a kind (annotates n) placed e = never (annotates n) moves a e
limit_passes heading depth moves a kind (remarks c) placed e = never (remarks c) moves a e
limit_passes heading depth moves a kind (ends r) placed e = never (ends r) moves a e
limit_passes heading depth moves a kind means_nothing placed e = never means_nothing moves a e

-- beyond the limit of positions, at least 65,536 moves were read
limit_fed : (s : State) (w : Word) → (s ≡ stuck → ⊥) → fault_at (reading_place_of s) w ≡ Some TooManyPositions → AtLeast 65536 (feed s w)
limit_fed (opened tags) w live why = absurd (no_name w.kind why)
limit_fed (named tags name) w live why = absurd (no_value w.kind (start_of (with_tag tags name (value_of w.text))) why)
limit_fed (valued tags start) w live why = absurd (no_closing w.kind why)
limit_fed (ended h f r) w live why = absurd (no_marker w.kind why)
limit_fed stuck w live why = absurd (live refl)
limit_fed (at h f k) w live why =
    let p = limit_passes h.heading (length k) h.moves (place f) w.kind (sense w) (word_never w) why in
    let many = p.many in
    fewer_least 65536 (h.moves + 1) (feed (at h f k) w) (omega (arith, many)) (after_move h f k w p.text p.move p.is p.read)

-- a reason is that limit, or another
is_limit : (reason : Reason) → (reason ≡ TooManyPositions) ⊎ (reason ≢ TooManyPositions)
is_limit TooManyPositions = inl refl
is_limit _ = inr (λ e. cc)

stuck_least : (n : ℕ) → AtLeast n stuck
unfolding AtLeast
stuck_least n = tt

-- after a faulty token reading is stuck, or has passed the limit, and stays so
pub fault_fed : (s : State) (w : Word) (reason : Reason) → (s ≡ stuck → ⊥) → moves_in s ≤ 65535 → fault_at (reading_place_of s) w ≡ Some reason → AtLeast 65536 (feed s w)
fault_fed s w reason live few why =
    ⊎_elim
    (λ limit. limit_fed s w live (why ∙ ap Some limit))
    (λ other. subst (AtLeast 65536) (sym ((subst (Passes (feed s w)) why (step_passes s w live few)) other)) (stuck_least 65536))
    (is_limit reason)
