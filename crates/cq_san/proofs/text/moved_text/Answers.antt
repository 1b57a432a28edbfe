use Rattle.std.proofs.Common.{◌≤◌, length, sym, ap, ◌∙◌, subst, arith, inl}
use Rattle.cq_san.specs.Writing as writing
use Rattle.cq_san.proofs.Room.{parts_room, parts_on_board, on_board, sign_one}
use Rattle.cq_san.proofs.text.moved_text.Goals as goal

pub push-requires : goal.push-requires
push-requires c =
    let parts = parts_room c.args.position.now c.args.m.now c.is_capture.result (c.args.after.now, inl c.requires.legal) c.requires.null in
    let sign = sign_one c.args.after.now in
    let written = c.write_parts.ensures ∙ ap (writing.parts_text c.is_capture.result) c.san_parts.ensures in
    let wrote : length c.write_parts.new.text.bytes ≤ 7 = subst (λ n. n ≤ 7) (sym (ap length written)) parts in
    let signed : length c.sign_of.result.now ≤ 1 = subst (λ n. n ≤ 1) (sym (ap length c.sign_of.ensures)) sign in
    omega arith

pub write_parts-requires-clause-written : goal.write_parts-requires-clause-written
write_parts-requires-clause-written c =
    subst writing.AreOnBoard (sym c.san_parts.ensures) (parts_on_board c.args.position.now c.args.m.now
    (on_board c.args.position.now c.args.m.now c.args.after.now c.is_position.ensures.kept (inl c.requires.legal)).0)

pub write_parts-requires-clause-room : goal.write_parts-requires-clause-room
write_parts-requires-clause-room c =
    subst (λ parts. length (writing.parts_text c.is_capture.result parts) ≤ 7) (sym c.san_parts.ensures)
    (parts_room c.args.position.now c.args.m.now c.is_capture.result (c.args.after.now, inl c.requires.legal) c.requires.null)
