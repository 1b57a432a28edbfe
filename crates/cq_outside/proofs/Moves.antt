-- Bytes that are moved from a place in a list to the front of a buffer.
use Rattle.std.proofs.Common.{◌≡◌, ℕ, ◌+◌, ◌-◌, ◌≤◌, ◌<◌, length, List, [], ◌++◌, take, drop, min, sym, ap, ◌∙◌, arith, length-drop}
use Rattle.std.proofs.Math.Seq.{take-append_seam}
use Rattle.std.proofs.lemmas.List.{take_all, drop_all, drop-drop, take-append-drop, length-take-le}

-- the bytes left from a place on are the next n bytes and the bytes left after them
pub left_split : (bytes : List ℕ) (at n : ℕ) → drop at bytes ≡ take n (drop at bytes) ++ drop (at + n) bytes
left_split bytes at n = sym (ap (λ l. take n (drop at bytes) ++ l) (sym (drop-drop n at bytes)) ∙ take-append-drop n (drop at bytes))

-- the bytes that were copied to the front of a buffer, and what is left after them
pub moved : (bytes slice copied tail : List ℕ) (at n : ℕ) → slice ≡ bytes → at + n ≤ length bytes
    → copied ≡ take n (take (length slice - at) (drop at slice)) → drop at bytes ≡ take n (copied ++ tail) ++ drop (at + n) bytes
moved bytes slice copied tail at n s h e =
    let all : take (length bytes - at) (drop at bytes) ≡ drop at bytes = take_all (length bytes - at) (drop at bytes) (omega (arith, length-drop at bytes)) in
    let same : copied ≡ take n (drop at bytes) = e ∙ ap (λ l. take n (take (length l - at) (drop at l))) s ∙ ap (take n) all in
    let long : length copied ≡ n = ap length same ∙ length-take-le n (drop at bytes) (omega (arith, length-drop at bytes)) in
    let front : take n (copied ++ tail) ≡ copied = ap (λ m. take m (copied ++ tail)) (sym long) ∙ take-append_seam copied tail in
    left_split bytes at n ∙ ap (λ l. l ++ drop (at + n) bytes) (sym same ∙ sym front)

-- nothing is left if nothing was copied to a buffer that has room
pub moved_all : (bytes : List ℕ) (at n left room : ℕ) → n ≡ min left room → left ≡ length bytes - at → n ≡ 0 → 0 < room → drop (at + n) bytes ≡ []
moved_all bytes at n left room e l z r = drop_all (at + n) bytes (omega arith)
