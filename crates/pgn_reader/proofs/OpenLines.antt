-- If reading can continue, some game begins with the tokens.
use Rattle.std.proofs.Common.{◌≡◌, ℕ, List, [], ◌∷◌, length, Option, Some, None, Result, Ok, Err, Bool, true, false, refl, sym, ap, ◌∙◌, subst}
use Rattle.std.specs.Prelude.{nat_lt, codes}
use Rattle.cq_position.specs.declared.moves.Move.{Move}
use Rattle.cq_position.specs.declared.fen.FenFault.{FenFault}
use Rattle.cq_position.specs.declared.games.GameResult.{GameResult}
use Rattle.cq_position.specs.Board.{Board}
use Rattle.cq_san.specs.declared.fault.SanFault.{SanFault}
use Rattle.cq_san.specs.San.{san}
use Rattle.pgn_lexer.specs.declared.token.TokenKind.{TokenKind}
use Rattle.pgn_lexer.specs.declared.token.TokenKind.TheVariants.{Open, Close, Text, Symbol, Null, RightParen}
use Rattle.pgn_reader.specs.Words.{Word, Sense, plays, annotates, remarks, ends, opens, closes, means_nothing, out_of_place, sense}
use Rattle.cq_position.specs.Games.{with_tag}
use Rattle.pgn_reader.specs.Tags.{Tags, start_of, value_of}
use Rattle.pgn_reader.specs.Line.{position_after}
use Rattle.pgn_reader.specs.Internal.Frame.{Frame, advance, with_variation}
use Rattle.pgn_reader.specs.Internal.Machine.{Head, State, opened, named, valued, at, ended, stuck, in_body, one_more, on_name, on_start, on_value, on_closing, on_move, on_marker, on_opening, on_end, on_bracket, on_sense, feed, run, first}
use Rattle.pgn_reader.proofs.Read.{feed_is, end_read}

-- a move leads from one position to another
pub record Led (p q : Board) : Type 0 where
  pub text : List ℕ
  pub move : Move
  pub means : san p text ≡ Ok move
  pub to : q ≡ position_after p move

-- a line that is open around another has a move
pub record Opened (g : Frame) : Type 0 where
  pub back : Board
  pub before : g.before ≡ Some back
  pub led : Led back g.reached

-- the place of a line: it has a last move, or begins in the position before the last move of the line around it
abbrev pub IsLed : Option Board → Board → List Frame → Type 0
IsLed (Some p) q k = Led p q
IsLed None q [] = Unit {0}
IsLed None q (g ∷ k) = g.before ≡ Some q

abbrev pub AreOpened : List Frame → Type 0
AreOpened [] = Unit {0}
AreOpened (g ∷ k) = Opened g × AreOpened k

pub record Keeps (f : Frame) (k : List Frame) : Type 0 where
  pub here : IsLed f.before f.reached k
  pub around : AreOpened k

abbrev pub Kept : State → Type 0
Kept (at h f k) = Keeps f k
Kept _ = Unit {0}

move_keeps : (h : Head) (f : Frame) (k : List Frame) (m : List ℕ) → Keeps f k → (r : Result Move SanFault) → san f.reached m ≡ r → Kept (on_move h f k r)
move_keeps h f k m keeps (Err fault) is = tt
move_keeps h f k m keeps (Ok move) is = record { here = record { text = m; move = move; means = is; to = refl }; around = keeps.around }

marker_keeps : (h : Head) (f : Frame) (k : List Frame) (r : GameResult) → Keeps f k → Kept (on_marker h f k r)
marker_keeps h f [] r keeps = tt
marker_keeps h f (g ∷ k) r keeps = keeps

opening_keeps : (h : Head) (f : Frame) (k : List Frame) (deep : Bool) → Keeps f k → (o : Option Board) → f.before ≡ o → Kept (on_opening h f k deep o)
opening_keeps h f k deep keeps None is = tt
opening_keeps h f k false keeps (Some p) is = tt
opening_keeps h f k true keeps (Some p) is = record {
  here = is;
  around = (record { back = p; before = is; led = subst (λ o. IsLed o f.reached k) is keeps.here }, keeps.around);
}

end_keeps : (h : Head) (f : Frame) (k : List Frame) → Keeps f k → (o : Option Board) → Kept (on_end h f k o)
end_keeps h f k keeps None = tt
end_keeps h f [] keeps (Some p) = tt
end_keeps h f (g ∷ k) keeps (Some p) = record {
  here = subst (λ o. IsLed o g.reached k) (sym keeps.around.0.before) keeps.around.0.led;
  around = keeps.around.1;
}

bracket_keeps : (may : Bool) (tags : Tags) (kind : TokenKind) → Kept (on_bracket may tags kind)
bracket_keeps true tags Open = tt
bracket_keeps _ tags _ = tt

name_keeps : (tags : Tags) (kind : TokenKind) (text : List ℕ) → Kept (on_name tags kind text)
name_keeps tags Symbol text = tt
name_keeps tags _ text = tt

start_keeps : (tags : Tags) (r : Result Board FenFault) → Kept (on_start tags r)
start_keeps tags (Ok p) = tt
start_keeps tags (Err e) = tt

value_keeps : (tags : Tags) (kind : TokenKind) → Kept (on_value tags kind)
value_keeps tags Text = start_keeps tags (start_of tags)
value_keeps tags _ = tt

closing_keeps : (tags : Tags) (start : Board) (kind : TokenKind) → Kept (on_closing tags start kind)
closing_keeps tags start Close = record { here = tt; around = tt }
closing_keeps tags start _ = tt

sense_keeps : (h : Head) (f : Frame) (k : List Frame) (kind : TokenKind) (s : Sense) → Keeps f k → Kept (on_sense h f k kind s)
sense_keeps h f k kind (plays m) keeps = move_keeps h f k m keeps (san f.reached m) refl
sense_keeps h f k kind (annotates n) keeps = record { here = keeps.here; around = keeps.around }
sense_keeps h f k kind (remarks c) keeps = record { here = keeps.here; around = keeps.around }
sense_keeps h f k kind (ends r) keeps = marker_keeps h f k r keeps
sense_keeps h f k kind opens keeps = opening_keeps h f k (nat_lt (length k) 100) keeps f.before refl
sense_keeps h f k kind closes keeps = end_keeps h f k keeps f.before
sense_keeps h f k kind means_nothing keeps = keeps
sense_keeps h f k kind (out_of_place r) keeps = bracket_keeps h.heading h.tags kind

step_keeps : (s : State) (w : Word) → Kept s → Kept (feed s w)
unfolding feed
step_keeps (opened tags) w kept = name_keeps tags w.kind w.text
step_keeps (named tags name) w kept = value_keeps (with_tag tags name (value_of w.text)) w.kind
step_keeps (valued tags start) w kept = closing_keeps tags start w.kind
step_keeps (at h f k) w kept = sense_keeps h f k w.kind (sense w) kept
step_keeps (ended h f r) w kept = tt
step_keeps stuck w kept = tt

pub run_keeps : (ts : List Word) (s : State) → Kept s → Kept (run s ts)
run_keeps [] s kept = kept
run_keeps (w ∷ ts) s kept = run_keeps ts (feed s w) (step_keeps s w kept)

pub first_keeps : Kept first
first_keeps = record { here = tt; around = tt }

-- tokens after which a game is whole: the place is outside variations
pub record Finish (s : State) : Type 0 where
  pub more : List Word
  pub head : Head
  pub frame : Frame
  pub ends : run s more ≡ at head frame []

-- the tokens that are added: the parenthesis that ends a variation, and a move
abbrev end_word : Word
end_word = record { kind = RightParen; text = codes ")" }

abbrev move_word : List ℕ → Word
move_word m = record { kind = Null; text = m }

end_sense : sense end_word ≡ closes
unfolding sense
end_sense = refl

move_sense : (m : List ℕ) → sense (move_word m) ≡ plays m
unfolding sense
move_sense m = refl

-- a line with a move ends
closed : (h : Head) (f g : Frame) (k : List Frame) (p : Board) → f.before ≡ Some p → Finish (at (in_body h) (with_variation g f) k) → Finish (at h f (g ∷ k))
closed h f g k p is finish = record {
  more = end_word ∷ finish.more;
  head = finish.head;
  frame = finish.frame;
  ends = ap (λ x. run x finish.more) (end_read h f g k end_word p end_sense is) ∙ finish.ends;
}

-- a line without a move gets the move from the position before it
filled : (h : Head) (f : Frame) (k : List Frame) (m : List ℕ) (move : Move) → san f.reached m ≡ Ok move → Finish (at (one_more h) (advance f move (position_after f.reached move)) k) → Finish (at h f k)
filled h f k m move means finish = record {
  more = move_word m ∷ finish.more;
  head = finish.head;
  frame = finish.frame;
  ends = ap (λ x. run x finish.more) (feed_is h f k (move_word m) (plays m) (move_sense m) ∙ ap (on_move h f k) means) ∙ finish.ends;
}

finishes_by : (g : Frame) (k : List Frame) → ((h : Head) (f : Frame) → Keeps f k → Finish (at h f k))
    → (h : Head) (f : Frame) → Keeps f (g ∷ k) → (o : Option Board) → f.before ≡ o → Finish (at h f (g ∷ k))
finishes_by g k outer h f keeps (Some p) is = closed h f g k p is (outer (in_body h) (with_variation g f) (end_keeps h f (g ∷ k) keeps (Some p)))
finishes_by g k outer h f keeps None is =
    let opened = keeps.around.0 in
    let stood : g.before ≡ Some f.reached = subst (λ o. IsLed o f.reached (g ∷ k)) is keeps.here in
    let same : opened.back ≡ f.reached = let e : Some opened.back ≡ Some f.reached = sym opened.before ∙ stood in cc in
    let means : san f.reached opened.led.text ≡ Ok opened.led.move = ap (λ b. san b opened.led.text) (sym same) ∙ opened.led.means in
    let next : Frame = advance f opened.led.move (position_after f.reached opened.led.move) in
    let next_keeps : Keeps next (g ∷ k) = move_keeps h f (g ∷ k) opened.led.text keeps (Ok opened.led.move) means in
    filled h f (g ∷ k) opened.led.text opened.led.move means
    (closed (one_more h) next g k f.reached refl (outer (in_body (one_more h)) (with_variation g next) (end_keeps (one_more h) next (g ∷ k) next_keeps (Some f.reached))))

pub finishes : (k : List Frame) (h : Head) (f : Frame) → Keeps f k → Finish (at h f k)
finishes [] h f keeps = record { more = []; head = h; frame = f; ends = refl }
finishes (g ∷ k) h f keeps = finishes_by g k (finishes k) h f keeps f.before refl
