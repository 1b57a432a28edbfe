-- The words of the movetext mean the tokens of its line.
use Rattle.std.proofs.Common.{◌≡◌, ℕ, ◌<◌, Bool, true, false, List, [], ◌∷◌, ◌++◌, length, refl, sym, ap, ◌∙◌, subst, arith, append_assoc, append-nil, length-append}
use Rattle.std.specs.Prelude.{map, codes, decimal, if◌then◌else◌}
use Rattle.std.specs.List.{AllByRecursion, flat_map}
use Rattle.cq_position.specs.Board.{Board}
use Rattle.cq_position.specs.Continuations.{Played, Continuations, none, played, Follows}
use Rattle.cq_position.specs.Legal.{Leads}
use Rattle.cq_position.specs.Position.{IsPosition}
use Rattle.cq_position.specs.declared.games.GameResult.{GameResult}
use Rattle.cq_position.specs.declared.games.GameResult.TheVariants.{White as WhiteWon, Black as BlackWon, Draw, Open as Undecided}
use Rattle.cq_position.specs.declared.men.Side.{Side}
use Rattle.cq_position.specs.declared.men.Side.TheVariants.{White, Black}
use Rattle.cq_position.specs.declared.moves.Move.{Move}
use Rattle.cq_san.specs.Writing.{san_text}
use Rattle.pgn_lexer.specs.declared.token.TokenKind.{TokenKind}
use Rattle.pgn_lexer.specs.declared.token.TokenKind.TheVariants.{Symbol, Period, Star, LeftParen, RightParen, Nag, Null}
use Rattle.pgn_reader.specs.Line.{nothing, text}
use Rattle.pgn_reader.specs.Words.{Word, ends, sense, sense_of_symbol, result_of_text}
use Rattle.pgn_export.specs.Lines.{lines}
use Rattle.pgn_export.specs.Movetext.{number_words, nag_word, move_words, is_due, line_words, variation_words}
use Rattle.pgn_tree.specs.Results.{result_text}
use Rattle.pgn_export.specs.Words.{with_suffix, in_parens, comment_words}
use Rattle.pgn_export.proofs.Alike.{AreAlike}
use Rattle.pgn_export.proofs.Glued.{Tell, Said, said_none, said_some, said_more, tell_of, tell_one, tell_closed, tell_parens, period_apart, lines_glued}
use Rattle.pgn_export.proofs.Remarks.{remark_word, comments_said}
use Rattle.pgn_export.proofs.Symbols.{IsSymbolText, number_digits, number_value, number_symbol, move_is_symbol, null_is_dashes}
use Rattle.pgn_export.proofs.ReadTokens.{told, told_nothing, told_white, apart_white}
use Rattle.pgn_export.proofs.Tokens.{one_symbol, one_period, one_star, one_null, one_nag}
use Rattle.pgn_export.proofs.Written.{token_of, number_tokens, glyph_token, move_token, move_tokens, text_onto, line_of, variations_of, text_variations, HasKeptNotes, AreKept, stays_position}

symbol_told : (text : List ℕ) → IsSymbolText text → Tell (text ∷ []) (token_of Symbol text ∷ [])
symbol_told text s = subst (λ t. Tell (t ∷ []) (token_of Symbol t ∷ [])) (sym s.is) (tell_one Symbol s.first s.more (one_symbol s.first s.more s.begins s.goes))

-- numbers
one_period_told : (word : List ℕ) (vs : List Word) → Tell (word ∷ []) vs → Tell ((word ++ codes ".") ∷ []) (vs ++ token_of Period (codes ".") ∷ [])
one_period_told word vs t = tell_closed Period 46 word [] vs one_period period_apart t

number_said : (side : Side) (due : Bool) (n : ℕ) → n < 4294967296 → Said (number_words side due n) (number_tokens side due n)
number_said White due n small =
    said_some (decimal n ++ codes ".") [] (number_tokens White due n)
    (one_period_told (decimal n) (token_of Symbol (decimal n) ∷ []) (symbol_told (decimal n) (number_symbol (decimal n) (number_digits n small))))
number_said Black true n small =
    let one = one_period_told (decimal n) (token_of Symbol (decimal n) ∷ []) (symbol_told (decimal n) (number_symbol (decimal n) (number_digits n small))) in
    let three = one_period_told ((decimal n ++ codes ".") ++ codes ".") _ (one_period_told (decimal n ++ codes ".") _ one) in
    said_some (decimal n ++ codes "...") [] (number_tokens Black true n)
    (subst (λ w. Tell (w ∷ []) (number_tokens Black true n)) (append_assoc (decimal n ++ codes ".") (codes ".") (codes ".") ∙ append_assoc (decimal n) (codes ".") (codes "..")) three)
number_said Black false n small = said_none

-- glyphs
glyph_said : (n : ℕ) → n < 256 → Said (nag_word n ∷ []) (glyph_token n ∷ [])
glyph_said n small =
    let are = number_digits n (omega (arith, small)) in
    let value = number_value n (omega (arith, small)) in
    said_some (nag_word n) [] (glyph_token n ∷ []) (tell_one (Nag n) 36 (decimal n) (one_nag n (decimal n) are.some are.all (omega (arith, small, value))))

glyphs_said : (ns : List ℕ) → AllByRecursion (λ n. n < 256) ns → Said (map nag_word ns) (map glyph_token ns)
glyphs_said [] all = said_none
glyphs_said (n ∷ ns) all = said_more (nag_word n ∷ []) (map nag_word ns) (glyph_token n ∷ []) (map glyph_token ns) (glyph_said n all.0) (glyphs_said ns all.1)

-- moves
san_said : (p : Board) (m : Move) (q : Board) (null : Bool) → m.null ≡ null → IsPosition p → Leads p m q → Said (san_text p m ∷ []) (token_of (if null then Null else Symbol) (san_text p m) ∷ [])
san_said p m q true is kept leads =
    said_some (san_text p m) [] (token_of Null (san_text p m) ∷ [])
    (subst (λ t. Tell (t ∷ []) (token_of Null t ∷ [])) (sym (null_is_dashes p m is)) (tell_one Null 45 (45 ∷ []) one_null))
san_said p m q false is kept leads = said_some (san_text p m) [] (token_of Symbol (san_text p m) ∷ []) (symbol_told (san_text p m) (move_is_symbol p m q kept leads is).symbol)

move_said : (p : Board) (due : Bool) (m : Played) → IsPosition p → Leads p m.move m.position → HasKeptNotes m.nags m.comments → Said (move_words p due m) (move_tokens p due m)
move_said p due m kept leads notes =
    said_more (number_words p.side due p.number) ((san_text p m.move ∷ []) ++ (map nag_word m.nags ++ flat_map comment_words m.comments))
    (number_tokens p.side due p.number) ((move_token p m.move ∷ []) ++ (map glyph_token m.nags ++ map remark_word m.comments))
    (number_said p.side due p.number kept.fits)
    (said_more (san_text p m.move ∷ []) (map nag_word m.nags ++ flat_map comment_words m.comments) (move_token p m.move ∷ []) (map glyph_token m.nags ++ map remark_word m.comments)
    (san_said p m.move m.position m.move.null refl kept leads)
    (said_more (map nag_word m.nags) (flat_map comment_words m.comments) (map glyph_token m.nags) (map remark_word m.comments)
    (glyphs_said m.nags notes.nags) (comments_said m.comments notes.comments)))

move_some : (p : Board) (due : Bool) (m : Played) (more : List (List ℕ)) → 0 < length (move_words p due m ++ more)
move_some p due m more =
    let rest = (san_text p m.move ∷ []) ++ (map nag_word m.nags ++ flat_map comment_words m.comments) in
    let one = length-append (move_words p due m) more in
    let two = length-append (number_words p.side due p.number) rest in
    omega (arith, one, two)

-- variations
abbrev in_brackets : List Word → List Word
in_brackets ws = (token_of LeftParen (codes "(") ∷ ws) ++ token_of RightParen (codes ")") ∷ []

closed_said : (w : List ℕ) (ws : List (List ℕ)) (vs : List Word) → Tell (with_suffix (41 ∷ []) (w ∷ ws)) vs → Said (with_suffix (41 ∷ []) (w ∷ ws)) vs
closed_said w [] vs t = said_some (w ++ 41 ∷ []) [] vs t
closed_said w (v ∷ ws) vs t = said_some w (with_suffix (41 ∷ []) (v ∷ ws)) vs t

parens_said : (ws : List (List ℕ)) (vs : List Word) → 0 < length ws → Said ws vs → Said (in_parens ws) (in_brackets vs)
parens_said [] vs some s = absurd (omega (arith, some))
parens_said (w ∷ ws) vs some s = closed_said (40 ∷ w) ws (in_brackets vs) (tell_parens w ws vs (tell_of w ws vs s))

mutual
  unfolding line_words variation_words line_of variations_of AreKept Follows

  pub line_said : (c : Continuations) (p : Board) (due : Bool) → IsPosition p → Follows p c → AreKept c → Said (line_words p due c) (text (line_of p due c))
  line_said none p due kept follows notes = said_none
  line_said (played m next others) p due kept follows notes =
      let rest = line_of m.position (is_due m others) next in
      let later = text (variations_of p others nothing) in
      subst (λ l. Said (move_words p due m ++ (variation_words p others ++ line_words m.position (is_due m others) next)) l)
      (ap (λ l. move_tokens p due m ++ l) (sym (text_variations p others rest)) ∙ sym (text_onto (move_tokens p due m) (variations_of p others rest)))
      (said_more (move_words p due m) (variation_words p others ++ line_words m.position (is_due m others) next) (move_tokens p due m) (later ++ text rest)
      (move_said p due m kept follows.0 notes.0)
      (said_more (variation_words p others) (line_words m.position (is_due m others) next) later (text rest)
      (variations_said others p kept follows.2 notes.2)
      (line_said next m.position (is_due m others) (stays_position p m.move m.position kept follows.0) follows.1 notes.1)))

  pub variations_said : (c : Continuations) (p : Board) → IsPosition p → Follows p c → AreKept c → Said (variation_words p c) (text (variations_of p c nothing))
  variations_said none p kept follows notes = said_none
  variations_said (played m next others) p kept follows notes =
      let line = line_of m.position (is_due m none) next in
      let inner = move_words p true m ++ line_words m.position (is_due m none) next in
      let tokens = move_tokens p true m ++ text line in
      let later = text (variations_of p others nothing) in
      subst (λ l. Said (in_parens inner ++ variation_words p others) l)
      (append_assoc (token_of LeftParen (codes "(") ∷ tokens) (token_of RightParen (codes ")") ∷ []) later
      ∙ ap (λ l. token_of LeftParen (codes "(") ∷ (l ++ token_of RightParen (codes ")") ∷ later)) (sym (text_onto (move_tokens p true m) line)))
      (said_more (in_parens inner) (variation_words p others) (in_brackets tokens) later
      (parens_said inner tokens (move_some p true m (line_words m.position (is_due m none) next))
      (said_more (move_words p true m) (line_words m.position (is_due m none) next) (move_tokens p true m) (text line)
      (move_said p true m kept follows.0 notes.0)
      (line_said next m.position (is_due m none) (stays_position p m.move m.position kept follows.0) follows.1 notes.1)))
      (variations_said others p kept follows.2 notes.2))

-- the marker
abbrev pub marker_kind : GameResult → TokenKind
marker_kind WhiteWon = Symbol
marker_kind BlackWon = Symbol
marker_kind Draw = Symbol
marker_kind Undecided = Star

abbrev pub marker_token : GameResult → Word
marker_token result = token_of (marker_kind result) (result_text result)

pub marker_said : (result : GameResult) → Said (result_text result ∷ []) (marker_token result ∷ [])
marker_said WhiteWon = said_some (codes "1-0") [] _ (tell_one Symbol 49 (codes "-0") (one_symbol 49 (codes "-0") refl (refl, (refl, tt))))
marker_said BlackWon = said_some (codes "0-1") [] _ (tell_one Symbol 48 (codes "-1") (one_symbol 48 (codes "-1") refl (refl, (refl, tt))))
marker_said Draw = said_some (codes "1/2-1/2") [] _ (tell_one Symbol 49 (codes "/2-1/2") (one_symbol 49 (codes "/2-1/2") refl (refl, (refl, (refl, (refl, (refl, (refl, tt))))))))
marker_said Undecided = said_some (codes "*") [] _ (tell_one Star 42 [] one_star)

pub marker_sense : (result : GameResult) → sense (marker_token result) ≡ ends result
unfolding sense sense_of_symbol result_of_text
marker_sense WhiteWon = refl
marker_sense BlackWon = refl
marker_sense Draw = refl
marker_sense Undecided = refl

-- words in lines, with an empty line after them, are read as tokens like those that they mean
pub record AreRead (first : Bool) (ws : List (List ℕ)) (vs : List Word) : Type 0 where
  pub words : List Word
  pub is : told first (lines ws ++ 10 ∷ []) ≡ words
  pub alike : AreAlike words vs

pub lines_read : (ws : List (List ℕ)) (vs : List Word) (first : Bool) → 0 < length ws → Said ws vs → AreRead first ws vs
lines_read [] vs first some s = absurd (omega (arith, some))
lines_read (w ∷ ws) vs first some s =
    let i = lines_glued w ws in
    let r = tell_of w ws vs s first i.inner (10 ∷ 10 ∷ []) i.glued (apart_white 10 (10 ∷ []) refl) in
    record {
      words = r.words;
      is =
          ap (λ l. told first (l ++ 10 ∷ [])) i.is
          ∙ ap (told first) (append_assoc i.inner (10 ∷ []) (10 ∷ []))
          ∙ r.is
          ∙ ap (λ l. r.words ++ l) (told_white r.column 10 (10 ∷ []) refl ∙ told_white true 10 [] refl ∙ told_nothing true)
          ∙ append-nil r.words;
      alike = r.alike;
    }
