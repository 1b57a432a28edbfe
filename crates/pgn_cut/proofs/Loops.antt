-- The loop over the bytes of a piece.
use Rattle.std.proofs.Common.{◌≡◌, ℕ, ◌+◌, ◌-◌, ◌<◌, ◌≤◌, ◌^◌, List, ◌++◌, length, take, drop, sym, ap, ap₂, ◌∙◌, subst, arith}
use Rattle.std.proofs.Math.Seq.{take-add, take-append_seam}
use Rattle.std.proofs.lemmas.List.{length-append, length-take-le, length-drop, take_all}
use Rattle.pgn_cut.specs.Streams.{IsSound, Stands, HasGained}
use Rattle.pgn_cut.specs.declared.span.Span.{Span}
use Rattle.pgn_cut.specs.declared.cutter.Cutter.{Cutter}
use Rattle.pgn_cut.proofs.Runs.{gains_none, gains_on, sound_of, place_of}

-- some bytes of a piece are taken, and the cutter has room for the rest
pub record IsFeeding (was now : Cutter) (piece : List ℕ) (at : ℕ) (before after : List Span) : Type 0 where
  pub within : at ≤ length piece
  pub sound : IsSound now
  pub room : now.place + (length piece - at) < 2 ^ 62
  pub gained : HasGained was now (take at piece) before after

pub feeding_start : (was : Cutter) (piece : List ℕ) (spans : List Span) (fed : List ℕ) → Stands was fed → length fed + length piece < 2 ^ 62 → IsFeeding was was piece 0 spans spans
feeding_start was piece spans fed stands few =
    let place = place_of was fed stands in
    record { within = omega arith; sound = sound_of was fed stands; room = omega arith; gained = gains_none was spans }

pub feeding_on : (was now next : Cutter) (piece : List ℕ) (at taken : ℕ) (before after more : List Span) (fed : List ℕ) → Stands was fed → length fed + length piece < 2 ^ 62
    → IsFeeding was now piece at before after → taken ≤ length piece - at → HasGained now next (take taken (drop at piece)) after more → IsFeeding was next piece (at + taken) before more
feeding_on was now next piece at taken before after more fed stands few f fits gained =
    let within = f.within in
    let both = subst (λ l. HasGained was next l before more) (sym (take-add at taken piece)) (gains_on was now next (take at piece) (take taken (drop at piece)) before after more f.gained gained) in
    let there = (both.stands fed stands).0 in
    let place = place_of next (fed ++ take (at + taken) piece) there in
    let size = length-append fed (take (at + taken) piece) in
    let part = length-take-le (at + taken) piece (omega arith) in
    record { within = omega arith; sound = sound_of next (fed ++ take (at + taken) piece) there; room = omega arith; gained = both }

rest_is : (piece : List ℕ) (at : ℕ) → take (length piece - at) (drop at piece) ≡ drop at piece
rest_is piece at = let len = length-drop at piece in take_all (length piece - at) (drop at piece) (omega arith)

pub rest_len : (piece : List ℕ) (at : ℕ) → length (take (length piece - at) (drop at piece)) ≡ length piece - at
rest_len piece at = ap length (rest_is piece at) ∙ length-drop at piece

-- one turn
pub feeding_turn : (was now next : Cutter) (piece : List ℕ) (at taken : ℕ) (before after more : List Span) (fed : List ℕ) → Stands was fed → length fed + length piece < 2 ^ 62
    → IsFeeding was now piece at before after → taken ≤ length (take (length piece - at) (drop at piece)) → HasGained now next (take taken (take (length piece - at) (drop at piece))) after more
    → IsFeeding was next piece (at + taken) before more
feeding_turn was now next piece at taken before after more fed stands few f fits gained =
    feeding_on was now next piece at taken before after more fed stands few f (let len = rest_len piece at in omega (arith, fits))
    (subst (λ l. HasGained now next (take taken l) after more) (rest_is piece at) gained)

-- a call that fails
pub feeding_back : (was now : Cutter) (piece : List ℕ) (at : ℕ) (before after more : List Span) (len : ℕ) → IsFeeding was now piece at before after
    → more ≡ after → len ≡ length before → take len more ≡ before
feeding_back was now piece at before after more len f same len_is =
    ap₂ take len_is (same ∙ f.gained.spans) ∙ take-append_seam before f.gained.gained

-- the whole piece
pub feeding_ends : (was now : Cutter) (piece : List ℕ) (at : ℕ) (before after : List Span) → IsFeeding was now piece at before after → length piece ≤ at → HasGained was now piece before after
feeding_ends was now piece at before after f over = subst (λ l. HasGained was now l before after) (take_all at piece over) f.gained
