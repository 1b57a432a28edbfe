-- The meaning of words, by any split into lines.
use Rattle.std.proofs.Common.{◌≡◌, ℕ, ◌+◌, Bool, true, false, List, [], ◌∷◌, ◌++◌, length, refl, sym, ap, ◌∙◌, subst, append_assoc, append-nil}
use Rattle.std.specs.Prelude.{nat_le, if◌then◌else◌}
use Rattle.cq_common.specs.Text.{is_white}
use Rattle.pgn_lexer.specs.Bytes.{ends_line}
use Rattle.pgn_lexer.specs.Lexemes.{first_at}
use Rattle.pgn_lexer.specs.SingleLexeme.{IsEndedBy}
use Rattle.pgn_lexer.specs.declared.token.LexemeKind.TheVariants.{Token}
use Rattle.pgn_lexer.specs.declared.token.TokenKind.{TokenKind}
use Rattle.pgn_lexer.specs.declared.token.TokenKind.TheVariants.{LeftParen, RightParen}
use Rattle.pgn_reader.specs.Words.{Word}
use Rattle.pgn_export.specs.Internal.Column.{gap, next_column}
use Rattle.pgn_export.specs.Lines.{lines}
use Rattle.pgn_export.specs.Words.{with_suffix}
use Rattle.pgn_export.proofs.Alike.{AreAlike, alike_same, alike_append}
use Rattle.pgn_export.proofs.Filled.{following, filled_following}
use Rattle.pgn_export.proofs.ReadTokens.{told, told_white, told_one, IsOne, IsApart, apart_white, apart_mark}
use Rattle.pgn_export.proofs.Tokens.{one_left, one_right}

-- words with one byte of white space between two
abbrev pub Glued : List (List ℕ) → List ℕ → Type 0
Glued [] text = text ≡ []
Glued (w ∷ []) text = text ≡ w
Glued (w ∷ v ∷ ws) text = (b : ℕ) × (rest : List ℕ) × (text ≡ w ++ (b ∷ rest)) × (is_white b ≡ true) × Glued (v ∷ ws) rest

-- a text before another is read as tokens like these, and then come those of the other
pub record IsYielded (first : Bool) (text more : List ℕ) (vs : List Word) : Type 0 where
  pub words : List Word
  pub column : Bool
  pub is : told first (text ++ more) ≡ words ++ told column more
  pub alike : AreAlike words vs

-- words mean these tokens, with any white space between two words
abbrev pub Tell : List (List ℕ) → List Word → Type 0
Tell ws vs = (first : Bool) (text more : List ℕ) → Glued ws text → IsApart more → IsYielded first text more vs

-- the same of words of which there may be none
pub Said : List (List ℕ) → List Word → Type 0
Said [] vs = vs ≡ []
Said (w ∷ ws) vs = Tell (w ∷ ws) vs

pub said_none : Said [] []
unfolding Said
said_none = refl

pub said_some : (w : List ℕ) (ws : List (List ℕ)) (vs : List Word) → Tell (w ∷ ws) vs → Said (w ∷ ws) vs
unfolding Said
said_some w ws vs t = t

pub tell_of : (w : List ℕ) (ws : List (List ℕ)) (vs : List Word) → Said (w ∷ ws) vs → Tell (w ∷ ws) vs
unfolding Said
tell_of w ws vs t = t

-- a word of one token
pub tell_one : (kind : TokenKind) (b : ℕ) (bs : List ℕ) → IsOne kind b bs → Tell ((b ∷ bs) ∷ []) ((record { kind = kind; text = b ∷ bs }) ∷ [])
tell_one kind b bs one first text more glued apart = record {
  words = (record { kind = kind; text = b ∷ bs }) ∷ [];
  column = first_at first (b ∷ bs) (length (b ∷ bs));
  is = ap (λ t. told first (t ++ more)) glued ∙ told_one kind first b bs more one (apart (Token kind) one.still);
  alike = alike_same ((record { kind = kind; text = b ∷ bs }) ∷ []);
}

-- words, and words after them
record Parted (ws vs : List (List ℕ)) (text : List ℕ) : Type 0 where
  left : List ℕ
  between : ℕ
  right : List ℕ
  is : text ≡ left ++ (between ∷ right)
  white : is_white between ≡ true
  glued_left : Glued ws left
  glued_right : Glued vs right

parted : (w : List ℕ) (ws : List (List ℕ)) (v : List ℕ) (vs : List (List ℕ)) (text : List ℕ) → Glued ((w ∷ ws) ++ (v ∷ vs)) text → Parted (w ∷ ws) (v ∷ vs) text
parted w [] v vs text (b, rest, is, white, glued) = record { left = w; between = b; right = rest; is = is; white = white; glued_left = refl; glued_right = glued }
parted w (u ∷ us) v vs text (b, rest, is, white, glued) =
    let p = parted u us v vs rest glued in
    record {
      left = w ++ (b ∷ p.left);
      between = p.between;
      right = p.right;
      is = is ∙ ap (λ l. w ++ (b ∷ l)) p.is ∙ sym (append_assoc w (b ∷ p.left) (p.between ∷ p.right));
      white = p.white;
      glued_left = (b, p.left, refl, white, p.glued_left);
      glued_right = p.glued_right;
    }

tell_more : (w : List ℕ) (ws : List (List ℕ)) (v : List ℕ) (vs : List (List ℕ)) (ss rs : List Word) → Tell (w ∷ ws) ss → Tell (v ∷ vs) rs → Tell ((w ∷ ws) ++ (v ∷ vs)) (ss ++ rs)
tell_more w ws v vs ss rs t u first text more glued apart =
    let p = parted w ws v vs text glued in
    let one = t first p.left (p.between ∷ p.right ++ more) p.glued_left (apart_white p.between (p.right ++ more) p.white) in
    let two = u (ends_line p.between) p.right more p.glued_right apart in
    record {
      words = one.words ++ two.words;
      column = two.column;
      is =
          ap (λ l. told first (l ++ more)) p.is
          ∙ ap (told first) (append_assoc p.left (p.between ∷ p.right) more)
          ∙ one.is
          ∙ ap (λ l. one.words ++ l) (told_white one.column p.between (p.right ++ more) p.white ∙ two.is)
          ∙ sym (append_assoc one.words two.words (told two.column more));
      alike = alike_append one.words two.words ss rs one.alike two.alike;
    }

pub said_more : (ws vs : List (List ℕ)) (ss rs : List Word) → Said ws ss → Said vs rs → Said (ws ++ vs) (ss ++ rs)
unfolding Said
said_more [] vs ss rs t u = subst (λ l. Said vs (l ++ rs)) (sym t) u
said_more (w ∷ ws) [] ss rs t u =
    subst (λ l. Said l (ss ++ rs)) (sym (append-nil (w ∷ ws)))
    (subst (λ l. Tell (w ∷ ws) (ss ++ l)) (sym u) (subst (λ l. Tell (w ∷ ws) l) (sym (append-nil ss)) t))
said_more (w ∷ ws) (v ∷ vs) ss rs t u = tell_more w ws v vs ss rs t u

-- a byte before the first word
pub record Begun (c : ℕ) (ws : List (List ℕ)) (text : List ℕ) : Type 0 where
  pub inner : List ℕ
  pub is : text ≡ c ∷ inner
  pub glued : Glued ws inner

pub begun : (c : ℕ) (w : List ℕ) (ws : List (List ℕ)) (text : List ℕ) → Glued ((c ∷ w) ∷ ws) text → Begun c (w ∷ ws) text
begun c w [] text glued = record { inner = w; is = glued; glued = refl }
begun c w (v ∷ vs) text (b, rest, is, white, glued) = record { inner = w ++ (b ∷ rest); is = is; glued = (b, rest, refl, white, glued) }

-- a byte after the last word
pub record Ended (c : ℕ) (ws : List (List ℕ)) (text : List ℕ) : Type 0 where
  pub inner : List ℕ
  pub is : text ≡ inner ++ c ∷ []
  pub glued : Glued ws inner

pub ended : (c : ℕ) (w : List ℕ) (ws : List (List ℕ)) (text : List ℕ) → Glued (with_suffix (c ∷ []) (w ∷ ws)) text → Ended c (w ∷ ws) text
ended c w [] text glued = record { inner = w; is = glued; glued = refl }
ended c w (v ∷ []) text (b, rest, is, white, glued) =
    record { inner = w ++ (b ∷ v); is = is ∙ ap (λ l. w ++ (b ∷ l)) glued ∙ sym (append_assoc w (b ∷ v) (c ∷ [])); glued = (b, v, refl, white, refl) }
ended c w (v ∷ u ∷ us) text (b, rest, is, white, glued) =
    let e = ended c v (u ∷ us) rest glued in
    record {
      inner = w ++ (b ∷ e.inner);
      is = is ∙ ap (λ l. w ++ (b ∷ l)) e.is ∙ sym (append_assoc w (b ∷ e.inner) (c ∷ []));
      glued = (b, e.inner, refl, white, e.glued);
    }

never_left : (more : List ℕ) → IsEndedBy (Token LeftParen) more
never_left [] = tt
never_left (b ∷ bs) = refl

tell_opened : (w : List ℕ) (ws : List (List ℕ)) (ss : List Word) → Tell (w ∷ ws) ss → Tell ((40 ∷ w) ∷ ws) ((record { kind = LeftParen; text = 40 ∷ [] }) ∷ ss)
tell_opened w ws ss t first text more glued apart =
    let b = begun 40 w ws text glued in
    let r = t (first_at first (40 ∷ []) 1) b.inner more b.glued apart in
    record {
      words = (record { kind = LeftParen; text = 40 ∷ [] }) ∷ r.words;
      column = r.column;
      is =
          ap (λ l. told first (l ++ more)) b.is
          ∙ told_one LeftParen first 40 [] (b.inner ++ more) one_left (never_left (b.inner ++ more))
          ∙ ap (λ (l : List Word). (record { kind = LeftParen; text = 40 ∷ [] }) ∷ l) r.is;
      alike = alike_append ((record { kind = LeftParen; text = 40 ∷ [] }) ∷ []) r.words ((record { kind = LeftParen; text = 40 ∷ [] }) ∷ []) ss
          (alike_same ((record { kind = LeftParen; text = 40 ∷ [] }) ∷ [])) r.alike;
    }

-- a token of one byte after the last word
pub tell_closed : (kind : TokenKind) (c : ℕ) (w : List ℕ) (ws : List (List ℕ)) (ss : List Word) → IsOne kind c [] → ((more : List ℕ) → IsApart (c ∷ more)) → Tell (w ∷ ws) ss
    → Tell (with_suffix (c ∷ []) (w ∷ ws)) (ss ++ (record { kind = kind; text = c ∷ [] }) ∷ [])
tell_closed kind c w ws ss one stops t first text more glued apart =
    let e = ended c w ws text glued in
    let r = t first e.inner (c ∷ more) e.glued (stops more) in
    let mark : List Word = (record { kind = kind; text = c ∷ [] }) ∷ [] in
    record {
      words = r.words ++ mark;
      column = first_at r.column (c ∷ []) 1;
      is =
          ap (λ l. told first (l ++ more)) e.is
          ∙ ap (told first) (append_assoc e.inner (c ∷ []) more)
          ∙ r.is
          ∙ ap (λ l. r.words ++ l) (told_one kind r.column c [] more one (apart (Token kind) one.still))
          ∙ sym (append_assoc r.words mark (told (first_at r.column (c ∷ []) 1) more));
      alike = alike_append r.words mark ss mark r.alike (alike_same mark);
    }

pub right_apart : (more : List ℕ) → IsApart (41 ∷ more)
right_apart more = apart_mark 41 more refl refl refl

pub period_apart : (more : List ℕ) → IsApart (46 ∷ more)
period_apart more = apart_mark 46 more refl refl refl

-- words in parentheses
pub tell_parens : (w : List ℕ) (ws : List (List ℕ)) (ss : List Word) → Tell (w ∷ ws) ss
    → Tell (with_suffix (41 ∷ []) ((40 ∷ w) ∷ ws)) (((record { kind = LeftParen; text = 40 ∷ [] }) ∷ ss) ++ (record { kind = RightParen; text = 41 ∷ [] }) ∷ [])
tell_parens w ws ss t = tell_closed RightParen 41 (40 ∷ w) ws ((record { kind = LeftParen; text = 40 ∷ [] }) ∷ ss) one_right right_apart (tell_opened w ws ss t)

-- lines are words with white space between two, and a last LF
pub record AreInLines (ws : List (List ℕ)) (text : List ℕ) : Type 0 where
  pub inner : List ℕ
  pub is : text ≡ inner ++ 10 ∷ []
  pub glued : Glued ws inner

white_by : (t : Bool) → is_white (if t then 32 else 10) ≡ true
white_by true = refl
white_by false = refl

gap_white : (column : ℕ) (w : List ℕ) → is_white (gap column w) ≡ true
gap_white column w = white_by (nat_le (column + 1 + length w) 79)

in_lines : (w : List ℕ) (ws : List (List ℕ)) (column : ℕ) → AreInLines (w ∷ ws) (w ++ following column ws)
unfolding following
in_lines w [] column = record { inner = w; is = refl; glued = refl }
in_lines w (v ∷ vs) column =
    let i = in_lines v vs (next_column column v) in
    record {
      inner = w ++ (gap column v ∷ i.inner);
      is = ap (λ l. w ++ (gap column v ∷ l)) i.is ∙ sym (append_assoc w (gap column v ∷ i.inner) (10 ∷ []));
      glued = (gap column v, i.inner, refl, gap_white column v, i.glued);
    }

pub lines_glued : (w : List ℕ) (ws : List (List ℕ)) → AreInLines (w ∷ ws) (lines (w ∷ ws))
lines_glued w ws =
    let i = in_lines w ws (length w) in
    record { inner = i.inner; is = filled_following w ws ∙ i.is; glued = i.glued }
