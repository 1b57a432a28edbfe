-- Tokens with the same meaning.
use Rattle.std.proofs.Common.{◌≡◌, ◌⊎◌, ℕ, ◌+◌, ◌<◌, List, [], ◌∷◌, ◌++◌, Some, refl, sym, ap, ap₂, ◌∙◌, subst, inl, inr, ⊎_elim}
use Rattle.cq_position.specs.Board.{Board}
use Rattle.cq_position.specs.Comments.{words, comment_of}
use Rattle.pgn_reader.specs.Words.{Word, Sense, remarks, opens, closes, sense}
use Rattle.pgn_reader.specs.Line.{Line, nothing, word, variation, text, LinePlace, beginning, LineTail, tail_with_variation, ParsesWord, ParsesLine}

-- two comments with the same words
pub record SameRemark (v w : Word) : Type 0 where
  pub one : List ℕ
  pub other : List ℕ
  pub one_is : sense v ≡ remarks one
  pub other_is : sense w ≡ remarks other
  pub same : comment_of (words one) ≡ comment_of (words other)

-- the same token, or a comment of the same words
abbrev pub Alike : Word → Word → Type 0
Alike v w = (v ≡ w) ⊎ SameRemark v w

abbrev pub AreAlike : List Word → List Word → Type 0
AreAlike [] [] = Unit {0}
AreAlike [] (w ∷ ws) = ⊥
AreAlike (v ∷ vs) [] = ⊥
AreAlike (v ∷ vs) (w ∷ ws) = Alike v w × AreAlike vs ws

pub alike_same : (ws : List Word) → AreAlike ws ws
alike_same [] = tt
alike_same (w ∷ ws) = (inl refl, alike_same ws)

pub alike_append : (us vs : List Word) (us' vs' : List Word) → AreAlike us us' → AreAlike vs vs' → AreAlike (us ++ vs) (us' ++ vs')
alike_append [] vs [] vs' a b = b
alike_append [] vs (w ∷ ws) vs' a b = absurd a
alike_append (u ∷ us) vs [] vs' a b = absurd a
alike_append (u ∷ us) vs (w ∷ ws) vs' a b = (a.0, alike_append us vs ws vs' a.1 b)

-- tokens that are like two lists come in two parts
pub record Parts (us ws vs : List Word) : Type 0 where
  pub left : List Word
  pub right : List Word
  pub is : us ≡ left ++ right
  pub alike_left : AreAlike left ws
  pub alike_right : AreAlike right vs

pub parts_of : (us ws vs : List Word) → AreAlike us (ws ++ vs) → Parts us ws vs
parts_of us [] vs a = record { left = []; right = us; is = refl; alike_left = tt; alike_right = a }
parts_of [] (w ∷ ws) vs a = absurd a
parts_of (u ∷ us) (w ∷ ws) vs a =
    let p = parts_of us ws vs a.1 in
    record { left = u ∷ p.left; right = p.right; is = ap (λ l. u ∷ l) p.is; alike_left = (a.0, p.alike_left); alike_right = p.alike_right }

-- a token that is no comment is like none but itself
pub alike_other : (v w : Word) (s : Sense) → sense w ≡ s → ((c : List ℕ) → s ≡ remarks c → ⊥) → Alike v w → v ≡ w
alike_other v w s is other a = ⊎_elim (λ same. same) (λ r. absurd (other r.other (sym is ∙ r.other_is))) a

-- the meaning of a token is that of one that is like it
remark_same : (depth : ℕ) (a b : LinePlace) (c d : List ℕ) (u t : LineTail) → comment_of (words c) ≡ comment_of (words d) → ParsesWord depth a (remarks d) b u t → ParsesWord depth a (remarks c) b u t
remark_same depth a b c d u t same tells = (tells.0, tells.1 ∙ ap (λ cs. record u { comments = cs ++ u.comments }) (sym same))

pub tells_alike : (depth : ℕ) (v w : Word) (a b : LinePlace) (u t : LineTail) → Alike v w → ParsesWord depth a (sense w) b u t → ParsesWord depth a (sense v) b u t
tells_alike depth v w a b u t (inl same) tells = subst (λ x. ParsesWord depth a (sense x) b u t) (sym same) tells
tells_alike depth v w a b u t (inr r) tells =
    subst (λ s. ParsesWord depth a s b u t) (sym r.one_is) (remark_same depth a b r.one r.other u t r.same (subst (λ s. ParsesWord depth a s b u t) r.other_is tells))

-- so tokens that are like those of a line are those of a line with the same meaning
pub record LikeLine (depth : ℕ) (a : LinePlace) (us : List Word) (t : LineTail) : Type 0 where
  pub line : Line
  pub is : us ≡ text line
  pub tells : ParsesLine depth a line t

not_remarks_opens : (c : List ℕ) → opens ≡ remarks c → ⊥
not_remarks_opens c e = cc

not_remarks_closes : (c : List ℕ) → closes ≡ remarks c → ⊥
not_remarks_closes c e = cc

-- after a line's `)`
shut : (depth : ℕ) (a : LinePlace) (o opening closing : Word) (inner rest : Line) (p q : Board) (v u t : LineTail) (us left right : List Word)
    → a.before ≡ Some p → depth < 100 → sense opening ≡ opens → sense closing ≡ closes → o ≡ opening → us ≡ left ++ right → LikeLine (depth + 1) (beginning p) left v → v.end.before ≡ Some q
    → ((vs : List Word) → AreAlike vs (text rest) → LikeLine depth a vs u) → t ≡ tail_with_variation v u → AreAlike right (closing ∷ text rest) → LikeLine depth a (o ∷ us) t
shut depth a o opening closing inner rest p q v u t us left [] before few opening_is closing_is same is i end on told alike = absurd alike
shut depth a o opening closing inner rest p q v u t us left (c ∷ right) before few opening_is closing_is same is i end on told alike =
    let r = on right alike.1 in
    let closes_so : c ≡ closing = alike_other c closing closes closing_is not_remarks_closes alike.0 in
    record {
      line = variation o i.line c r.line;
      is = ap (λ l. o ∷ l) (is ∙ ap₂ (λ x y. x ++ (c ∷ y)) i.is r.is);
      tells = (p, before, few, ap sense same ∙ opening_is, ap sense closes_so ∙ closing_is, v, i.tells, q, end, u, r.tells, told);
    }

pub like_line : (line : Line) (depth : ℕ) (a : LinePlace) (us : List Word) (t : LineTail) → AreAlike us (text line) → ParsesLine depth a line t → LikeLine depth a us t
like_line nothing depth a [] t alike tells = record { line = nothing; is = refl; tells = tells }
like_line nothing depth a (u ∷ us) t alike tells = absurd alike
like_line (word w rest) depth a [] t alike tells = absurd alike
like_line (word w rest) depth a (v ∷ us) t alike (b, u, one, more) =
    let r = like_line rest depth b us u alike.1 more in
    record { line = word v r.line; is = ap (λ l. v ∷ l) r.is; tells = (b, u, tells_alike depth v w a b u t alike.0 one, r.tells) }
like_line (variation opening inner closing rest) depth a [] t alike tells = absurd alike
like_line (variation opening inner closing rest) depth a (o ∷ us) t alike (p, before, few, opening_is, closing_is, v, inside, q, end, u, more, is) =
    let parts = parts_of us (text inner) (closing ∷ text rest) alike.1 in
    shut depth a o opening closing inner rest p q v u t us parts.left parts.right before few opening_is closing_is
    (alike_other o opening opens opening_is not_remarks_opens alike.0) parts.is (like_line inner (depth + 1) (beginning p) parts.left v parts.alike_left inside) end
    (λ vs likes. like_line rest depth a vs u likes more) is parts.alike_right
