-- A list of names with their values, and the finite map that it represents.
use Rattle.std.proofs.Common.{◌≡◌, ◌≢◌, ℕ, zero, suc, ◌<◌, Bool, true, false, cond, List, [], ◌∷◌, ◌++◌, length, take, map, get_or, Option, None, Some, refl, sym, ap, ap₂, ◌∙◌, arith, All, unwrap_or, option_map, Ordering, Less, Equal, Greater, is_eq}
use Rattle.std.proofs.Math.ListN.{set}
use Rattle.std.specs.List.{AllByRecursion}
use Rattle.std.proofs.lemmas.List.Elements.{recursion_from_All}
use Rattle.std.specs.Ordering.{eq_by_cmp, nat_cmp}
use Rattle.std.specs.Cmp.{eq_by_cmp_equiv}
use Rattle.std.specs.Cmp.Lexicographic.{slice_cmp, nat_list_cmp_total}
use Rattle.std.specs.FinMap.{find, get, entries, get-entries, insert, from_entries, get-from_entries, get-insert, same_map, from_entries_push, slice_cmp-IsAntisymmetric, nat_cmp-IsAntisymmetric, IsAntisymmetric}
use Rattle.cq_outside.specs.DeskFiles.{Files, Opens, bytes_of}
use Rattle.cq_outside.specs.MemSource.{FailingSource}
use Rattle.cq_outside.specs.MemDesk.{FailingDesk, FailingFile, FailingFiles, bytes_by_name, desk_files_of}

-- true if two names are the same
abbrev names : List ℕ → List ℕ → Bool
names = eq_by_cmp (slice_cmp nat_cmp)

exact : IsAntisymmetric (slice_cmp nat_cmp)
exact = slice_cmp-IsAntisymmetric nat_cmp-IsAntisymmetric

-- none of these entries has the name
abbrev Lacks : {X : Type 0} → List ℕ → List (List ℕ × X) → Type 0
Lacks {X} k es = AllByRecursion (λ (f : List ℕ × X). f.0 ≢ k) es

is_equal : (r : Ordering) → is_eq r ≡ true → r ≡ Equal
is_equal Less e = cc
is_equal Equal e = refl
is_equal Greater e = cc

names_equal : (q k : List ℕ) → names q k ≡ true → q ≡ k
names_equal q k e = exact q k (is_equal (slice_cmp nat_cmp q k) e)

names_same : (k x : List ℕ) → x ≡ k → names k x ≡ true
names_same k x e = ap (names k) e ∙ (eq_by_cmp_equiv nat_list_cmp_total).refl k

names_differ : (k x : List ℕ) → x ≢ k → names k x ≡ false
names_differ k x n =
    elim (names k x) as (λ b. names k x ≡ b → names k x ≡ false) [ true ↦ λ e. absurd (n (sym (names_equal k x e))) | false ↦ λ e. e ] refl

shadowed : {X : Type 0} (b : Bool) (x y z : Option X) → cond b x z ≡ cond b x (cond b y z)
shadowed true x y z = refl
shadowed false x y z = refl

swapped : {X : Type 0} (a b : Bool) (x y z : Option X) → (a ≡ true → b ≡ true → ⊥) → cond a x (cond b y z) ≡ cond b y (cond a x z)
swapped true true x y z n = absurd (n refl refl)
swapped true false x y z n = refl
swapped false b x y z n = refl

-- the value that the list has at a name that it lacks
find_none : {X : Type 0} (k : List ℕ) (es : List (List ℕ × X)) → Lacks k es → find (slice_cmp nat_cmp) k es ≡ None
find_none k [] h = refl
find_none k (f ∷ es) h = ap (λ b. cond b (Some f.1) (find (slice_cmp nat_cmp) k es)) (names_differ k f.0 h.0) ∙ find_none k es h.1

-- the value that the list has at a name whose first entry is at index i
find_at : {X : Type 0} (k : List ℕ) (es : List (List ℕ × X)) (i : ℕ) (d : List ℕ × X) → i < length es → (get_or es i d).0 ≡ k → Lacks k (take i es)
    → find (slice_cmp nat_cmp) k es ≡ Some (get_or es i d).1
find_at k [] i d l e h = absurd (omega arith)
find_at k (f ∷ es) zero d l e h = ap (λ b. cond b (Some f.1) (find (slice_cmp nat_cmp) k es)) (names_same k f.0 e)
find_at k (f ∷ es) (suc i) d l e h =
    ap (λ b. cond b (Some f.1) (find (slice_cmp nat_cmp) k es)) (names_differ k f.0 h.0) ∙ find_at k es i d (omega arith) e h.1

find_set : {X : Type 0} (q k : List ℕ) (v : X) (es : List (List ℕ × X)) (i : ℕ) (d : List ℕ × X) → i < length es → (get_or es i d).0 ≡ k
    → Lacks k (take i es) → find (slice_cmp nat_cmp) q (set es i (k, v)) ≡ cond (names q k) (Some v) (find (slice_cmp nat_cmp) q es)
find_set q k v [] i d l e h = absurd (omega arith)
find_set q k v (f ∷ es) zero d l e h =
    shadowed (names q k) (Some v) (Some f.1) (find (slice_cmp nat_cmp) q es)
    ∙ ap (λ n. cond (names q k) (Some v) (cond (names q n) (Some f.1) (find (slice_cmp nat_cmp) q es))) (sym e)
find_set q k v (f ∷ es) (suc i) d l e h =
    ap (cond (names q f.0) (Some f.1)) (find_set q k v es i d (omega arith) e h.1)
    ∙ swapped (names q f.0) (names q k) (Some f.1) (Some v) (find (slice_cmp nat_cmp) q es) (λ a b. h.0 (sym (names_equal q f.0 a) ∙ names_equal q k b))

-- to replace the first entry of a name is to insert it in the map
pub replaced : {X : Type 0} (n k : List ℕ) (v : X) (es : List (List ℕ × X)) (i : ℕ) (d : List ℕ × X) → n ≡ k → i < length es → (get_or es i d).0 ≡ k
    → All (λ f. f.0 ≢ k) (take i es) → from_entries {R = slice_cmp nat_cmp} (set es i (n, v)) ≡ insert (from_entries es) k v
replaced {X} n k v es i d p l e h =
    let lacks : Lacks k (take i es) = recursion_from_All (λ (f : List ℕ × X). f.0 ≢ k) (take i es) h in
    (λ j. from_entries {R = slice_cmp nat_cmp} (set es i (p j, v)))
    ∙ same_map nat_list_cmp_total exact _ _ (λ q.
    get-from_entries nat_list_cmp_total (set es i (k, v)) q ∙ find_set q k v es i d l e lacks
    ∙ sym (get-insert nat_list_cmp_total (from_entries es) k v q ∙ ap (cond (names q k) (Some v)) (get-from_entries nat_list_cmp_total es q)))

-- so it is to add an entry of a new name
pub added : {X : Type 0} (n k : List ℕ) (v : X) (es : List (List ℕ × X)) → n ≡ k → All (λ f. f.0 ≢ k) es → from_entries {R = slice_cmp nat_cmp} (es ++ (n, v) ∷ []) ≡ insert (from_entries es) k v
added {X} n k v es p h =
    (λ j. from_entries {R = slice_cmp nat_cmp} (es ++ (p j, v) ∷ []))
    ∙ from_entries_push nat_list_cmp_total exact es k v (find_none k es (recursion_from_All (λ (f : List ℕ × X). f.0 ≢ k) es h))

-- the value that the map has at a name whose first entry is at index i, and at a name without an entry
pub entry_at : {X : Type 0} (k : List ℕ) (es : List (List ℕ × X)) (i : ℕ) (d : List ℕ × X) → i < length es → (get_or es i d).0 ≡ k
    → All (λ f. f.0 ≢ k) (take i es) → get (from_entries {R = slice_cmp nat_cmp} es) k ≡ Some (get_or es i d).1
entry_at {X} k es i d l e h =
    get-from_entries nat_list_cmp_total es k ∙ find_at k es i d l e (recursion_from_All (λ (f : List ℕ × X). f.0 ≢ k) (take i es) h)

pub no_entry : {X : Type 0} (k : List ℕ) (es : List (List ℕ × X)) → All (λ f. f.0 ≢ k) es → get (from_entries {R = slice_cmp nat_cmp} es) k ≡ None
no_entry {X} k es h =
    get-from_entries nat_list_cmp_total es k ∙ find_none k es (recursion_from_All (λ (f : List ℕ × X). f.0 ≢ k) es h)

-- the bytes of a name whose first file is at index i, and of a name without a file
pub bytes_at : (k : List ℕ) (es : List (List ℕ × List ℕ)) (i : ℕ) (d : List ℕ × List ℕ) → i < length es → (get_or es i d).0 ≡ k
    → All (λ f. f.0 ≢ k) (take i es) → (get_or es i d).1 ≡ bytes_of (from_entries es) k
bytes_at k es i d l e h = sym (ap (λ o. unwrap_or o []) (entry_at k es i d l e h))

pub no_bytes : (k : List ℕ) (es : List (List ℕ × List ℕ)) → All (λ f. f.0 ≢ k) es → [] ≡ bytes_of (from_entries es) k
no_bytes k es h = sym (ap (λ o. unwrap_or o []) (no_entry k es h))

mapped_cond : {X Y : Type 0} (change : X → Y) (b : Bool) (x y : Option X) → cond b (option_map change x) (option_map change y) ≡ option_map change (cond b x y)
mapped_cond change true x y = refl
mapped_cond change false x y = refl

-- the value that a map of changed values has at a name
find_changed : {X Y : Type 0} (change : X → Y) (k : List ℕ) (es : List (List ℕ × X)) → find (slice_cmp nat_cmp) k (map (λ e. (e.0, change e.1)) es) ≡ option_map change (find (slice_cmp nat_cmp) k es)
find_changed change k [] = refl
find_changed change k (e ∷ es) =
    ap (cond (names k e.0) (Some (change e.1))) (find_changed change k es)
    ∙ mapped_cond change (names k e.0) (Some e.1) (find (slice_cmp nat_cmp) k es)

-- the bytes of a file
pub bytes_named : (files : FailingFiles) (k : List ℕ) (o : Option FailingFile) → get files k ≡ o → get (bytes_by_name files) k ≡ option_map (λ f. f.bytes) o
bytes_named files k o is =
    get-from_entries nat_list_cmp_total (map (λ e. (e.0, e.1.bytes)) (entries files)) k ∙ find_changed (λ f. f.bytes) k (entries files)
    ∙ ap (option_map (λ f. f.bytes)) (sym (get-entries files k) ∙ is)

-- the files that a desk tells after it has opened a file, and the bytes then left
pub opened_tells : (now inside : FailingDesk) (opened : List (List ℕ)) (name : List ℕ) (file : FailingFile) (source : FailingSource) → inside ≡ now
    → opened ≡ inside.opened ++ name ∷ [] → get inside.files name ≡ Some file → source.left ≡ file.bytes
    → Opens (Some (desk_files_of now)) (Some (record { files = bytes_by_name inside.files; opened = opened })) name (Some source.left)
opened_tells now inside opened name file source same grown has left = (
  ap Some (ap₂ (λ (f : Files) (o : List (List ℕ)). record { files = f; opened = o }) (ap (λ (d : FailingDesk). bytes_by_name d.files) same)
      (grown ∙ ap (λ (d : FailingDesk). d.opened ++ name ∷ []) same)),
  ap Some (left
      ∙ sym (ap (λ o. unwrap_or o []) (ap (λ (d : FailingDesk). get (bytes_by_name d.files) name) (sym same) ∙ bytes_named inside.files name (Some file) has))),
)
