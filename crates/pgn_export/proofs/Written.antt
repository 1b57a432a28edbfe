-- The line that is written for the moves played, and its meaning.
use Rattle.std.proofs.Common.{◌≡◌, ◌≢◌, ℕ, ◌+◌, ◌<◌, ◌≤◌, Bool, true, false, List, [], ◌∷◌, ◌++◌, Some, refl, sym, ap, ◌∙◌, subst, inl, inr, arith, true≢false, append_assoc, append-nil}
use Rattle.std.specs.Prelude.{Ok, map, not, ◌&&◌, decimal, codes, nat_lt, if◌then◌else◌}
use Rattle.std.specs.List.{AllByRecursion}
use Rattle.std.proofs.lemmas.Bool.{lt-ltb}
use Rattle.cq_position.specs.Board.{Board}
use Rattle.cq_position.specs.Continuations.{Played, Continuations, none, played, Follows}
use Rattle.cq_position.specs.Legal.{Leads, is_pseudo_legal, reaches, promotion_is_right}
use Rattle.cq_position.specs.Position.{IsPosition}
use Rattle.cq_position.specs.declared.men.Side.{Side}
use Rattle.cq_position.specs.declared.men.Side.TheVariants.{White, Black}
use Rattle.cq_position.specs.declared.moves.Move.{Move}
use Rattle.cq_moves.proofs.Kept.{legal_is_position, after_pass_is_position}
use Rattle.cq_san.specs.San.{san}
use Rattle.cq_san.specs.Writing.{san_text}
use Rattle.cq_san.proofs.Means.{written_read}
use Rattle.pgn_lexer.specs.declared.token.TokenKind.{TokenKind}
use Rattle.pgn_lexer.specs.declared.token.TokenKind.TheVariants.{Symbol, Period, LeftParen, RightParen, Nag, Null}
use Rattle.pgn_reader.specs.declared.fault.Reason.TheVariants.{NagRange}
use Rattle.pgn_reader.specs.Line.{Line, nothing, word, variation, text, LinePlace, beginning, position_after, moved, LineTail, tail_with_glyph, tail_with_comment, tail_with_move, ParsesWord, ParsesLine}
use Rattle.pgn_reader.specs.Words.{Word, plays, annotates, opens, closes, means_nothing, out_of_place, sense, sense_of_glyph, sense_of_symbol}
use Rattle.pgn_reader.proofs.Moves.{led_by_null, led_by_other}
use Rattle.pgn_export.specs.Movetext.{is_due}
use Rattle.pgn_export.specs.NormalGames.{levels, levels_beside}
use Rattle.cq_position.specs.Games.{IsComment}
use Rattle.pgn_export.proofs.Remarks.{all_each, remark_word, remark_sense}
use Rattle.pgn_export.proofs.Symbols.{digits_mean_nothing, number_digits, move_is_symbol}

-- the tokens of a move
abbrev pub token_of : TokenKind → List ℕ → Word
token_of kind text = record { kind = kind; text = text }

abbrev pub period : Word
period = token_of Period (codes ".")

abbrev pub number_tokens : Side → (due : Bool) → ℕ → List Word
number_tokens White due n = token_of Symbol (decimal n) ∷ period ∷ []
number_tokens Black true n = token_of Symbol (decimal n) ∷ period ∷ period ∷ period ∷ []
number_tokens Black false n = []

abbrev pub glyph_token : ℕ → Word
glyph_token n = token_of (Nag n) (36 ∷ decimal n)

abbrev pub move_token : Board → Move → Word
move_token p m = token_of (if m.null then Null else Symbol) (san_text p m)

abbrev pub move_tokens : Board → (due : Bool) → Played → List Word
move_tokens p due m = number_tokens p.side due p.number ++ ((move_token p m.move ∷ []) ++ (map glyph_token m.nags ++ map remark_word m.comments))

-- tokens, and a line after them
abbrev pub onto : List Word → Line → Line
onto [] line = line
onto (w ∷ ws) line = word w (onto ws line)

pub text_onto : (ws : List Word) (line : Line) → text (onto ws line) ≡ ws ++ text line
text_onto [] line = refl
text_onto (w ∷ ws) line = ap (λ l. w ∷ l) (text_onto ws line)

onto_append : (xs ys : List Word) (line : Line) → onto (xs ++ ys) line ≡ onto xs (onto ys line)
onto_append [] ys line = refl
onto_append (x ∷ xs) ys line = ap (λ l. word x l) (onto_append xs ys line)

-- the line, and the variations before the rest of one
unfoldable mutual
  pub line_of : Board → (due : Bool) → Continuations → Line
  line_of p due none = nothing
  line_of p due (played m next others) = onto (move_tokens p due m) (variations_of p others (line_of m.position (is_due m others) next))

  pub variations_of : Board → Continuations → Line → Line
  variations_of p none line = line
  variations_of p (played m next others) line =
      variation (token_of LeftParen (codes "(")) (onto (move_tokens p true m) (line_of m.position (is_due m none) next)) (token_of RightParen (codes ")")) (variations_of p others line)

pub text_variations : (p : Board) (c : Continuations) (line : Line) → text (variations_of p c line) ≡ text (variations_of p c nothing) ++ text line
unfolding variations_of
text_variations p none line = refl
text_variations p (played m next others) line =
    let inner = text (onto (move_tokens p true m) (line_of m.position (is_due m none) next)) in
    ap (λ l. token_of LeftParen (codes "(") ∷ (inner ++ token_of RightParen (codes ")") ∷ l)) (text_variations p others line)
    ∙ ap (λ l. token_of LeftParen (codes "(") ∷ l) (sym (append_assoc inner (token_of RightParen (codes ")") ∷ text (variations_of p others nothing)) (text line)))

-- glyphs and comments that a game keeps
pub record HasKeptNotes (ns : List ℕ) (cs : List (List ℕ)) : Type 0 where
  pub nags : AllByRecursion (λ n. n < 256) ns
  pub comments : AllByRecursion IsComment cs

unfoldable pub AreKept : Continuations → Type 0
AreKept none = Unit {0}
AreKept (played m next others) = HasKeptNotes m.nags m.comments × AreKept next × AreKept others

-- the meaning of a line without glyphs and comments before its first move
abbrev pub lined : (variations rest : Continuations) → LinePlace → LineTail
lined variations rest end = record { nags = []; comments = []; variations = variations; rest = rest; end = end }

-- the place at its end
unfoldable pub end_of : LinePlace → Continuations → LinePlace
end_of a none = a
end_of a (played m next others) = end_of (moved a m.move) next

record HasMove (a : LinePlace) : Type 0 where
  before : Board
  is : a.before ≡ Some before

end_has : (c : Continuations) (a : LinePlace) → HasMove a → HasMove (end_of a c)
unfolding end_of
end_has none a has = has
end_has (played m next others) a has = end_has next (moved a m.move) (record { before = a.reached; is = refl })

-- tokens that mean nothing
skips : (depth : ℕ) (a : LinePlace) (w : Word) (line : Line) (t : LineTail) → sense w ≡ means_nothing → ParsesLine depth a line t → ParsesLine depth a (word w line) t
skips depth a w line t nothing_meant tells = (a, t, subst (λ s. ParsesWord depth a s a t t) (sym nothing_meant) (refl, refl), tells)

period_sense : sense (period) ≡ means_nothing
unfolding sense
period_sense = refl

symbol_sense : (text : List ℕ) → sense (token_of Symbol text) ≡ sense_of_symbol text
unfolding sense
symbol_sense text = refl

number_sense : (n : ℕ) → n < 4294967296 → sense (token_of Symbol (decimal n)) ≡ means_nothing
number_sense n small = symbol_sense (decimal n) ∙ digits_mean_nothing (decimal n) (number_digits n small).test

number_tells : (depth : ℕ) (a : LinePlace) (side : Side) (due : Bool) (n : ℕ) (line : Line) (t : LineTail) → n < 4294967296 → ParsesLine depth a line t → ParsesLine depth a (onto (number_tokens side due n) line) t
number_tells depth a White due n line t small tells = skips depth a (token_of Symbol (decimal n)) (word period line) t (number_sense n small) (skips depth a period line t period_sense tells)
number_tells depth a Black true n line t small tells =
    skips depth a (token_of Symbol (decimal n)) (word period (word period (word period line))) t (number_sense n small)
    (skips depth a period (word period (word period line)) t period_sense (skips depth a period (word period line) t period_sense (skips depth a period line t period_sense tells)))
number_tells depth a Black false n line t small tells = tells

-- glyphs and comments
glyph_sense : (n : ℕ) → n < 256 → sense (glyph_token n) ≡ annotates n
unfolding sense sense_of_glyph
glyph_sense n small = ap (λ t. if t then annotates n else out_of_place NagRange) (lt-ltb n 256 small)

glyphs_tell : (depth : ℕ) (a : LinePlace) (ns : List ℕ) (line : Line) (t : LineTail) → AllByRecursion (λ n. n < 256) ns → ParsesLine depth a line t
    → ParsesLine depth a (onto (map glyph_token ns) line) (record t { nags = ns ++ t.nags })
glyphs_tell depth a [] line t all tells = tells
glyphs_tell depth a (n ∷ ns) line t all tells =
    let u = record t { nags = ns ++ t.nags } in
    (a, u, subst (λ s. ParsesWord depth a s a u (tail_with_glyph n u)) (sym (glyph_sense n all.0)) (refl, refl), glyphs_tell depth a ns line t all.1 tells)

pub comments_tell : (depth : ℕ) (a : LinePlace) (cs : List (List ℕ)) (line : Line) (t : LineTail) → AllByRecursion IsComment cs → ParsesLine depth a line t
    → ParsesLine depth a (onto (map remark_word cs) line) (record t { comments = cs ++ t.comments })
comments_tell depth a [] line t all tells = tells
comments_tell depth a (c ∷ cs) line t all tells =
    let u = record t { comments = cs ++ t.comments } in
    let kept : record u { comments = c ∷ u.comments } ≡ tail_with_comment c u = ap (λ l. record u { comments = l ++ u.comments }) (sym all.0.spaced) in (
      a,
      u,
      subst (λ s. ParsesWord depth a s a u (record u { comments = c ∷ u.comments }))
          (sym (remark_sense c (all_each (λ b. b ≢ 125) c all.0.no_brace))) (refl, kept),
      comments_tell depth a cs line t all.1 tells,
    )

-- the position after a move
null_of : (p : Board) (m : Move) → is_pseudo_legal p m ≡ true → m.null ≡ false
unfolding is_pseudo_legal
null_of p m moves = by_null m.null (nat_lt m.to 64) (reaches p m.from m.to) (promotion_is_right p m) moves
  where
    by_null : (null a b c : Bool) → (not null && a && b && c) ≡ true → null ≡ false
    by_null true a b c e = absurd (true≢false (sym e))
    by_null false a b c e = refl

pub led : (p : Board) (m : Move) (q : Board) → Leads p m q → position_after p m ≡ q
led p m q (inl legal) = led_by_other p m (null_of p m legal.moves) ∙ sym legal.leads
led p m q (inr pass) = led_by_null p m (ap (λ (x : Move). x.null) pass.null) ∙ sym pass.leads

pub stays_position : (p : Board) (m : Move) (q : Board) → IsPosition p → Leads p m q → IsPosition q
stays_position p m q kept (inl legal) = legal_is_position p m q kept legal
stays_position p m q kept (inr pass) = subst IsPosition (sym pass.leads) (after_pass_is_position p kept pass.safe)

-- a move's token is read as the move
move_sense_by : (p : Board) (m : Move) (q : Board) (null : Bool) → m.null ≡ null → IsPosition p → Leads p m q → sense (token_of (if null then Null else Symbol) (san_text p m)) ≡ plays (san_text p m)
unfolding sense
move_sense_by p m q true null kept leads = refl
move_sense_by p m q false null kept leads = (move_is_symbol p m q kept leads null).plays_it

move_tells : (depth : ℕ) (a : LinePlace) (p : Board) (due : Bool) (m : Played) (line : Line) (next others : Continuations) (end : LinePlace)
    → a.reached ≡ p → IsPosition p → Leads p m.move m.position → HasKeptNotes m.nags m.comments → ParsesLine depth (moved a m.move) line (lined others next end)
    → ParsesLine depth a (onto (move_tokens p due m) line) (lined none (played m next others) end)
move_tells depth a p due m line next others end at kept leads notes tells =
    let b = moved a m.move in
    let u : LineTail = record { nags = m.nags; comments = m.comments; variations = others; rest = next; end = end } in
    let noted_line = onto (map glyph_token m.nags ++ map remark_word m.comments) line in
    let after_it : ParsesLine depth b noted_line u =
    subst (λ l. ParsesLine depth b l u) (sym (onto_append (map glyph_token m.nags) (map remark_word m.comments) line))
    (subst (λ ns. ParsesLine depth b (onto (map glyph_token m.nags) (onto (map remark_word m.comments) line)) (record u { nags = ns })) (append-nil m.nags)
    (glyphs_tell depth b m.nags (onto (map remark_word m.comments) line) (record u { nags = [] }) notes.nags
    (subst (λ cs. ParsesLine depth b (onto (map remark_word m.comments) line) (record u { nags = []; comments = cs })) (append-nil m.comments)
    (comments_tell depth b m.comments line (lined others next end) notes.comments tells)))) in
    let to : b.reached ≡ m.position = ap (λ x. position_after x m.move) at ∙ led p m.move m.position leads in
    let read : san a.reached (san_text p m.move) ≡ Ok m.move = ap (λ x. san x (san_text p m.move)) at ∙ written_read p m.move m.position kept leads in
    let tells_move : lined none (played m next others) end ≡ tail_with_move m.move b.reached u = ap (λ q. tail_with_move m.move q u) (sym to) in
    let one : ParsesLine depth a (word (move_token p m.move) noted_line) (lined none (played m next others) end) = (
      b,
      u,
      subst (λ s. ParsesWord depth a s b u (lined none (played m next others) end))
          (sym (move_sense_by p m.move m.position m.move.null refl kept leads)) (m.move, read, refl, tells_move),
      after_it,
    ) in
    subst (λ l. ParsesLine depth a l (lined none (played m next others) end))
    (sym (onto_append (number_tokens p.side due p.number) ((move_token p m.move ∷ []) ++ (map glyph_token m.nags ++ map remark_word m.comments)) line))
    (number_tells depth a p.side due p.number (word (move_token p m.move) noted_line) (lined none (played m next others) end) kept.fits one)

left_sense : sense (token_of LeftParen (codes "(")) ≡ opens
unfolding sense
left_sense = refl

right_sense : sense (token_of RightParen (codes ")")) ≡ closes
unfolding sense
right_sense = refl

-- the levels of a line's parts
levels_next : (m : Played) (next others : Continuations) → levels next ≤ levels (played m next others)
unfolding levels
levels_next m next others = omega arith

levels_others : (m : Played) (next others : Continuations) → levels_beside others ≤ levels (played m next others)
unfolding levels
levels_others m next others = omega arith

levels_inner : (m : Played) (next others : Continuations) → 1 + levels next ≤ levels_beside (played m next others)
unfolding levels_beside
levels_inner m next others = omega arith

levels_later : (m : Played) (next others : Continuations) → levels_beside others ≤ levels_beside (played m next others)
unfolding levels_beside
levels_later m next others = omega arith

-- the meaning of the written line is the moves played
mutual
  unfolding line_of variations_of AreKept Follows end_of

  pub line_tells : (c : Continuations) (p : Board) (due : Bool) (depth : ℕ) (a : LinePlace) → a.reached ≡ p → IsPosition p → Follows p c → AreKept c → depth + levels c ≤ 100
      → ParsesLine depth a (line_of p due c) (lined none c (end_of a c))
  line_tells none p due depth a at kept follows notes few = refl
  line_tells (played m next others) p due depth a at kept follows notes few =
      let b = moved a m.move in
      let end = end_of b next in
      let below = levels_next m next others in
      let beside_ = levels_others m next others in
      let to : b.reached ≡ m.position = ap (λ x. position_after x m.move) at ∙ led p m.move m.position follows.0 in
      move_tells depth a p due m (variations_of p others (line_of m.position (is_due m others) next)) next others end at kept follows.0 notes.0
      (variations_tell others p (line_of m.position (is_due m others) next) depth b next end (ap (λ x. Some x) at) kept follows.2 notes.2 (omega (arith, few, beside_))
      (line_tells next m.position (is_due m others) depth b to (stays_position p m.move m.position kept follows.0) follows.1 notes.1 (omega (arith, few, below))))

  pub variations_tell : (others : Continuations) (p : Board) (line : Line) (depth : ℕ) (a : LinePlace) (next : Continuations) (end : LinePlace)
      → a.before ≡ Some p → IsPosition p → Follows p others → AreKept others
      → depth + levels_beside others ≤ 100 → ParsesLine depth a line (lined none next end) → ParsesLine depth a (variations_of p others line) (lined others next end)
  variations_tell none p line depth a next end before kept follows notes few tells = tells
  variations_tell (played m inner others) p line depth a next end before kept follows notes few tells =
      let start = beginning p in
      let b = moved start m.move in
      let last = end_of b inner in
      let above = levels_inner m inner others in
      let later = levels_later m inner others in
      let to : b.reached ≡ m.position = led p m.move m.position follows.0 in
      let has = end_has inner b (record { before = p; is = refl }) in (
        p,
        before,
        omega (arith, few, above),
        left_sense,
        right_sense,
        lined none (played m inner none) last,
        move_tells (depth + 1) start p true m (line_of m.position (is_due m none) inner) inner none last refl kept follows.0 notes.0
            (line_tells inner m.position (is_due m none) (depth + 1) b to (stays_position p m.move m.position kept follows.0) follows.1 notes.1 (omega (arith, few, above))),
        has.before,
        has.is,
        lined others next end,
        variations_tell others p line depth a next end before kept follows.2 notes.2 (omega (arith, few, later)) tells,
        refl,
      )
