-- The opening of a file at a desk.
use Rattle.std.proofs.Common.{◌≡◌, ℕ, List, Option, Some, None, ap, ◌∙◌}
use Rattle.std.specs.Option.{option_map}
use Rattle.cq_outside.specs.Faults.{Rose}
use Rattle.cq_outside.specs.DeskFiles.{DeskFiles, Opens, bytes_of}
use Rattle.cq_program.specs.Views.{SourceView, DeskView}
use Rattle.cq_program.specs.Opening.{with_open, Opened, FailsToOpen}

opened_told : (name : List ℕ) (before after : Option DeskFiles) (left : Option (List ℕ)) → Opens before after name left → after ≡ option_map (with_open name) before
opened_told name None after left opens = opens
opened_told name (Some told) after left opens = opens.0

opened_bytes : (name : List ℕ) (before after : Option DeskFiles) (left : Option (List ℕ)) → Opens before after name left → (t : DeskFiles) → before ≡ Some t → left ≡ Some (bytes_of t.files name)
opened_bytes name None after left opens t e = cc
opened_bytes name (Some told) after left opens t e =
    let same : told ≡ t = cc in
    opens.1 ∙ ap (λ (x : DeskFiles). Some (bytes_of x.files name)) same

pub opened_of : (name : List ℕ) (desk mid after : DeskView) → Opens desk.told mid.told name mid.file.left → mid.file.faults ≡ desk.file.faults → mid.open_faults ≡ desk.open_faults
    → after.told ≡ mid.told → after.open_faults ≡ mid.open_faults → Opened name desk after mid.file
opened_of name desk mid after opens reads counts told later = record {
  told = told ∙ opened_told name desk.told mid.told mid.file.left opens;
  bytes = opened_bytes name desk.told mid.told mid.file.left opens;
  faults = reads;
  opens = later ∙ counts;
}

same_source : (l m : Option (List ℕ)) (f g : ℕ) → l ≡ m → f ≡ g → ◌≡◌ {A = SourceView} (record { left = l; faults = f }) (record { left = m; faults = g })
same_source l m f g e h = cc

pub unopened_of : (desk after : DeskView) → Rose desk.open_faults after.open_faults → after.told ≡ desk.told → after.file.left ≡ desk.file.left
    → after.file.faults ≡ desk.file.faults → FailsToOpen desk after
unopened_of desk after rose told left reads = record { rose = rose; told = told; file = same_source after.file.left desk.file.left after.file.faults desk.file.faults left reads }

same_desk : (t u : Option DeskFiles) (x y : SourceView) (o p : ℕ) → t ≡ u → x ≡ y → o ≡ p
    → ◌≡◌ {A = DeskView} (record { told = t; file = x; open_faults = o }) (record { told = u; file = y; open_faults = p })
same_desk t u x y o p e h i = cc

pub unmoved_of : (desk after : DeskView) → after.open_faults ≡ desk.open_faults → after.told ≡ desk.told → after.file.left ≡ desk.file.left
    → after.file.faults ≡ desk.file.faults → after ≡ desk
unmoved_of desk after opens told left reads =
    same_desk after.told desk.told after.file desk.file after.open_faults desk.open_faults told
    (same_source after.file.left desk.file.left after.file.faults desk.file.faults left reads) opens
