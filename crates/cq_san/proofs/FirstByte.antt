-- Texts known by their first byte.
use Rattle.std.proofs.Common.{◌≡◌, ℕ, Bool, true, false, ◌||◌, ◌&&◌, ◌==◌, cond, List, [], ◌∷◌, reverse, Some, refl, ap, ap₂, sym, ◌∙◌}
use Rattle.std.specs.Prelude.{codes}
use Rattle.std.specs.Str.{bytes_eq}
use Rattle.cq_san.specs.ParseFromEnd.{begins_with, is_null, is_short_castling, is_long_castling, move_parts, piece_move}
use Rattle.cq_san.specs.declared.parts.Parts.TheVariants.{Castling}

neither : (s t : Bool) → (s || t) ≡ false → (s ≡ false) × (t ≡ false)
neither true t e = absurd (cc)
neither false t e = (refl, e)

unlike : (c a : ℕ) (rest more : List ℕ) → (c == a) ≡ false → bytes_eq (c ∷ rest) (a ∷ more) ≡ false
unlike c a rest more e = ap (λ t. t && bytes_eq rest more) e

-- if the first byte is none of two, the text is none of two that begin with these
none_of : (a b : ℕ) (x y text : List ℕ) → begins_with a b text ≡ false → (bytes_eq text (a ∷ x) || bytes_eq text (b ∷ y)) ≡ false
none_of a b x y [] e = refl
none_of a b x y (c ∷ rest) e =
    let h = neither (c == a) (c == b) e in
    ap₂ (λ s t. s || t) (unlike c a rest x h.0) (unlike c b rest y h.1)

pub no_null : (text : List ℕ) → begins_with 90 45 text ≡ false → is_null text ≡ false
no_null text e = none_of 90 45 (codes "0") (codes "-") text e

pub no_castling : (text : List ℕ) → begins_with 79 48 text ≡ false → piece_move (reverse text) ≡ move_parts text
no_castling text e =
    let short : is_short_castling text ≡ false = none_of 79 48 (codes "-O") (codes "-0") text e in
    let long : is_long_castling text ≡ false = none_of 79 48 (codes "-O-O") (codes "-0-0") text e in
    sym (ap (λ t. cond t (Some (Castling true)) (cond (is_long_castling text) (Some (Castling false)) (piece_move (reverse text)))) short
    ∙ ap (λ t. cond t (Some (Castling false)) (piece_move (reverse text))) long)
