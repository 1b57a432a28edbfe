use Rattle.std.proofs.Common.{◌∙◌, sym}
use Rattle.cq_outside.proofs.Entries.{bytes_at, no_bytes}
use Rattle.cq_outside.proofs.sure_desk.copy_of.Goals as goal

pub returns-in-Some : goal.returns-in-Some
returns-in-Some c =
    rw (sym (c.as_slice.ensures ∙ bytes_at c.args.name.now c.args.files.now c.in-Some.place c.index-files-place.result c.in-Some.ensures.bound
    (c.in-Some.ensures.named c.index-files-place.result) c.in-Some.ensures.first)) c.from_slice.ensures

pub returns-in-None : goal.returns-in-None
returns-in-None c = c.new.ensures ∙ no_bytes c.args.name.now c.args.files.now c.in-None.ensures.none
