-- A desk of files in memory that gives its bytes in pieces, and some of whose calls fail.
use Rattle.std.specs.Prelude.{◌≡◌, ℕ, ◌∷◌, [], ◌++◌, Bool, ◌||◌, if◌then◌else◌, List, map, None, Some, is_none, refl}
use Rattle.std.specs.Coded.{Coded, code_by, coded×, coded_list, coded_ℕ}
use Rattle.std.specs.Ordering.{nat_cmp}
use Rattle.std.specs.Cmp.Lexicographic.{slice_cmp}
use Rattle.std.specs.FinMap.{FinMap, get, entries, from_entries, code}
use Rattle.cq_outside.specs.Calls.{one_more, is_listed}
use Rattle.cq_outside.specs.MemSource.{FailingSource, Follows}
use Rattle.cq_outside.specs.DeskFiles.{Files, DeskFiles}

-- a file: its bytes, the most bytes of one read, and the numbers of the reads that fail, counted from its opening
pub record FailingFile : Type 0 where
  pub bytes : List ℕ
  pub piece : ℕ
  pub fails : List ℕ

abbrev pub FailingFiles : Type 0
FailingFiles = FinMap (slice_cmp nat_cmp) FailingFile

-- The files by name, the names opened, and the open source, which counts all reads that failed. The numbers of the openings that fail, the
-- number of openings, and the number of those that failed.
pub record FailingDesk : Type 0 where
  pub files : FailingFiles
  pub opened : List (List ℕ)
  pub current : FailingSource
  pub fails : List ℕ
  pub opens : ℕ
  pub open_faults : ℕ

-- the files of a list of names and files
abbrev pub files_of : List (List ℕ × FailingFile) → FailingFiles
files_of list = from_entries list

-- the bytes of the files by name
abbrev pub bytes_by_name : FailingFiles → Files
bytes_by_name files = from_entries (map (λ e. (e.0, e.1.bytes)) (entries files))

-- the part of the desk that it tells
abbrev pub desk_files_of : FailingDesk → DeskFiles
desk_files_of desk = record { files = bytes_by_name desk.files; opened = desk.opened }

-- true if the next opening fails: its number, counted from 1, is listed, or there is no file of the name
abbrev pub fails_next : FailingDesk → List ℕ → Bool
fails_next desk name = is_listed desk.fails (one_more desk.opens) || is_none (get desk.files name)

-- a file just after its opening, at a desk with this count of failed reads
abbrev pub just_opened : ℕ → FailingFile → FailingSource
just_opened faults file = record { left = file.bytes; piece = file.piece; fails = file.fails; reads = 0; faults = faults }

-- the desk after an opening that fails, and after an opening of one of its files
abbrev pub after_fault : FailingDesk → FailingDesk
after_fault desk = record desk { opens = one_more desk.opens; open_faults = one_more desk.open_faults }

abbrev pub after_file : FailingDesk → List ℕ → FailingFile → FailingDesk
after_file desk name file =
    record desk { opens = one_more desk.opens; opened = desk.opened ++ name ∷ []; current = just_opened desk.current.faults file }

-- the desk after one opening, unless memory ran out
abbrev pub after_open : FailingDesk → List ℕ → FailingDesk
after_open desk name =
    if is_listed desk.fails (one_more desk.opens) then after_fault desk
    else elim (get desk.files name) [ None ↦ after_fault desk | Some file ↦ after_file desk name file ]

-- a desk after a list of reads, perhaps empty: only the open source has changed
abbrev pub ReadsOn : FailingDesk → FailingDesk → Type 0
ReadsOn before now = (now ≡ record before { current = now.current }) × Follows before.current now.current

-- the encodings of files and desks
abbrev pub file_code : Coded FailingFile
file_code =
    code_by (List ℕ × (ℕ × List ℕ)) (coded× (coded_list coded_ℕ) (coded× coded_ℕ (coded_list coded_ℕ)))
    (λ f. (f.bytes, (f.piece, f.fails))) (λ p. record { bytes = p.0; piece = p.1.0; fails = p.1.1 }) (λ _. refl)

abbrev pub source_code : Coded FailingSource
source_code =
    code_by (List ℕ × (ℕ × (List ℕ × (ℕ × ℕ))))
    (coded× (coded_list coded_ℕ) (coded× coded_ℕ (coded× (coded_list coded_ℕ) (coded× coded_ℕ coded_ℕ))))
    (λ s. (s.left, (s.piece, (s.fails, (s.reads, s.faults)))))
    (λ p. record { left = p.0; piece = p.1.0; fails = p.1.1.0; reads = p.1.1.1.0; faults = p.1.1.1.1 }) (λ _. refl)

abbrev pub desk_code : Coded FailingDesk
desk_code =
    code_by (FailingFiles × (List (List ℕ) × (FailingSource × (List ℕ × (ℕ × ℕ)))))
    (coded× (code (coded_list coded_ℕ) file_code)
    (coded× (coded_list (coded_list coded_ℕ)) (coded× source_code (coded× (coded_list coded_ℕ) (coded× coded_ℕ coded_ℕ)))))
    (λ d. (d.files, (d.opened, (d.current, (d.fails, (d.opens, d.open_faults))))))
    (λ p. record {
      files = p.0;
      opened = p.1.0;
      current = p.1.1.0;
      fails = p.1.1.1.0;
      opens = p.1.1.1.1.0;
      open_faults = p.1.1.1.1.1;
    }) (λ _. refl)
