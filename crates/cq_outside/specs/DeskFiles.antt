-- The files of a desk, as far as the desk tells them.
use Rattle.std.specs.Prelude.{◌≡◌, ℕ, List, [], ◌∷◌, ◌++◌, Option, None, Some, unwrap_or, refl}
use Rattle.std.specs.Coded.{Coded, code_by, coded×, coded_list, coded_ℕ}
use Rattle.std.specs.Ordering.{nat_cmp}
use Rattle.std.specs.Cmp.Lexicographic.{slice_cmp}
use Rattle.std.specs.FinMap.{FinMap, get, code}

-- files by name; names and contents are bytes
abbrev pub Files : Type 0
Files = FinMap (slice_cmp nat_cmp) (List ℕ)

-- the files of a desk, and the names that it has opened in order; the last is the name of the open file
pub record DeskFiles : Type 0 where
  pub files : Files
  pub opened : List (List ℕ)

-- the bytes of a name, none if there is no such file
abbrev pub bytes_of : Files → List ℕ → List ℕ
bytes_of files name = unwrap_or (get files name) []

-- The effect of opening a name. The name is added to the names opened before, the files are the same, and the bytes left are those of the
-- file.
abbrev pub Opens : Option DeskFiles → Option DeskFiles → List ℕ → Option (List ℕ) → Type 0
Opens None new name left = new ≡ None
Opens (Some old) new name left =
    (new ≡ Some (record { files = old.files; opened = old.opened ++ name ∷ [] }))
    × (left ≡ Some (bytes_of old.files name))

-- a desk that tells all: its files, the names opened, and the bytes left of the open file
pub record KnownDesk : Type 0 where
  pub files : Files
  pub opened : List (List ℕ)
  pub left : List ℕ

-- the part of the desk that concerns its files
abbrev pub desk_files_of : KnownDesk → DeskFiles
desk_files_of desk = record { files = desk.files; opened = desk.opened }

-- the encoding of such a desk by its three parts
abbrev pub known_desk_code : Coded KnownDesk
known_desk_code =
    code_by (Files × (List (List ℕ) × List ℕ))
    (coded× (code (coded_list coded_ℕ) (coded_list coded_ℕ)) (coded× (coded_list (coded_list coded_ℕ)) (coded_list coded_ℕ)))
    (λ d. (d.files, (d.opened, d.left)))
    (λ p. record { files = p.0; opened = p.1.0; left = p.1.1 }) (λ _. refl)
