-- One line after another.
use Rattle.std.proofs.Common.{◌≡◌, ℕ, ◌∷◌, ◌++◌, refl, sym, ap, ◌∙◌, subst, append_assoc}
use Rattle.pgn_reader.specs.Words.{Sense, plays, annotates, remarks, ends, opens, closes, means_nothing, out_of_place, sense}
use Rattle.pgn_reader.specs.Line.{Line, nothing, word, variation, text, LinePlace, LineTail, tail_with_glyph, tail_with_comment, tail_with_move, tail_with_variation, ParsesWord, ParsesLine}

abbrev pub then : Line → Line → Line
then nothing m = m
then (word w rest) m = word w (then rest m)
then (variation o inner c rest) m = variation o inner c (then rest m)

pub text_then : (l m : Line) → text (then l m) ≡ text l ++ text m
text_then nothing m = refl
text_then (word w rest) m = ap (λ x. w ∷ x) (text_then rest m)
text_then (variation o inner c rest) m =
    ap (λ x. o ∷ (text inner ++ c ∷ x)) (text_then rest m) ∙ ap (λ x. o ∷ x) (sym (append_assoc (text inner) (c ∷ text rest) (text m)))

-- the place at which a line ends is that at which its rest ends
pub end_same : (d : ℕ) (a b : LinePlace) (u t : LineTail) (s : Sense) → ParsesWord d a s b u t → u.end ≡ t.end
end_same d a b u t (plays m) tells = ap (λ x. x.end) (sym tells.3)
end_same d a b u t (annotates n) tells = ap (λ x. x.end) (sym tells.1)
end_same d a b u t (remarks c) tells = ap (λ x. x.end) (sym tells.1)
end_same d a b u t (ends r) tells = ap (λ x. x.end) (sym tells.2)
end_same d a b u t means_nothing tells = ap (λ x. x.end) (sym tells.1)
end_same d a b u t opens tells = absurd tells
end_same d a b u t closes tells = absurd tells
end_same d a b u t (out_of_place r) tells = absurd tells

-- a token with another rest
pub record Retold (d : ℕ) (a : LinePlace) (s : Sense) (b : LinePlace) (u : LineTail) : Type 0 where
  pub told : LineTail
  pub tells : ParsesWord d a s b u told

retold : (d : ℕ) (a b : LinePlace) (u t v : LineTail) (s : Sense) → ParsesWord d a s b u t → Retold d a s b v
retold d a b u t v (plays m) (move, means, to, is) = record { told = tail_with_move move b.reached v; tells = (move, means, to, refl) }
retold d a b u t v (annotates n) (to, is) = record { told = tail_with_glyph n v; tells = (to, refl) }
retold d a b u t v (remarks c) (to, is) = record { told = tail_with_comment c v; tells = (to, refl) }
retold d a b u t v (ends r) (deep, to, is) = record { told = v; tells = (deep, to, refl) }
retold d a b u t v means_nothing (to, is) = record { told = v; tells = (to, refl) }
retold d a b u t v opens wrong = absurd wrong
retold d a b u t v closes wrong = absurd wrong
retold d a b u t v (out_of_place r) wrong = absurd wrong

-- a line that continues
pub record Longer (d : ℕ) (a : LinePlace) (l : Line) (e : LinePlace) : Type 0 where
  pub told : LineTail
  pub tells : ParsesLine d a l told
  pub end : told.end ≡ e

pub tells_then : (l m : Line) (d : ℕ) (a : LinePlace) (t u : LineTail) → ParsesLine d a l t → ParsesLine d t.end m u → Longer d a (then l m) u.end
tells_then nothing m d a t u is later = record { told = u; tells = subst (λ x. ParsesLine d x m u) (ap (λ x. x.end) is) later; end = refl }
tells_then (word w rest) m d a t u (b, v, now, within) later =
    let more : Longer d b (then rest m) u.end = tells_then rest m d b v u within (subst (λ x. ParsesLine d x m u) (sym (end_same d a b v t (sense w) now)) later) in
    let again : Retold d a (sense w) b more.told = retold d a b v t more.told (sense w) now in
    record { told = again.told; tells = (b, more.told, again.tells, more.tells); end = sym (end_same d a b more.told again.told (sense w) again.tells) ∙ more.end }
tells_then (variation o inner c rest) m d a t u (p, before, shallow, opening, closing, v, inside, q, has_move, w, within, is) later =
    let more : Longer d a (then rest m) u.end = tells_then rest m d a w u within (subst (λ x. ParsesLine d x m u) (ap (λ x. x.end) is) later) in
    record {
      told = tail_with_variation v more.told;
      tells = (p, before, shallow, opening, closing, v, inside, q, has_move, more.told, more.tells, refl);
      end = more.end;
    }
