-- The opening of a file at a desk.
use Rattle.std.specs.Prelude.{◌≡◌, ℕ, List, [], ◌∷◌, ◌++◌, Some}
use Rattle.std.specs.Option.{option_map}
use Rattle.cq_outside.specs.Faults.{Rose}
use Rattle.cq_outside.specs.DeskFiles.{DeskFiles, bytes_of}
use Rattle.cq_program.specs.Views.{SourceView, DeskView}

-- a desk on which one more name was opened
abbrev pub with_open : List ℕ → DeskFiles → DeskFiles
with_open name told = record { files = told.files; opened = told.opened ++ name ∷ [] }

-- As far as the desk tells, this name was opened, once, and no other was. The file is that which was opened, before it was read.
pub record Opened (name : List ℕ) (desk after : DeskView) (file : SourceView) : Type 0 where
  pub told : after.told ≡ option_map (with_open name) desk.told
  pub bytes : (told : DeskFiles) → desk.told ≡ Some told → file.left ≡ Some (bytes_of told.files name)
  pub faults : file.faults ≡ desk.file.faults
  pub opens : after.open_faults ≡ desk.open_faults

-- a file could not be opened: the count of failed opens rose, and nothing else changed
pub record FailsToOpen (desk after : DeskView) : Type 0 where
  pub rose : Rose desk.open_faults after.open_faults
  pub told : after.told ≡ desk.told
  pub file : after.file ≡ desk.file
