-- The files of a map from texts to bytes: what a look-up finds, and what an insert leaves.
use Rattle.std.proofs.Common.{◌≡◌, ◌≢◌, ℕ, true, false, cond, Option, Some, option_map, List, [], ◌∷◌, map, refl, sym, ap, ◌∙◌}
use Rattle.std.specs.declared.string.String.{String}
use Rattle.std.specs.String.{string_bytes, string_cmp}
use Rattle.std.specs.declared.vec.Vec.{Vec}
use Rattle.std.specs.declared.cmp.Ordering.{Ordering}
use Rattle.std.specs.declared.cmp.Ordering.TheVariants.{Less, Equal, Greater}
use Rattle.std.specs.Cmp.Lexicographic.{slice_cmp}
use Rattle.std.specs.Ordering.{nat_cmp, match_ordering, eq_by_cmp, is_eq}
use Rattle.std.proofs.lemmas.Cmp.{nat_list_cmp_total, tied_itself}
use Rattle.std.specs.Map.{lookup}
use Rattle.std.specs.BTreeMap.{insert_entry, is_at}
use Rattle.std.specs.FinMap.{get, find, put, get-from_entries, get-insert, same_map, slice_cmp-IsAntisymmetric, nat_cmp-IsAntisymmetric}
use Rattle.std.specs.FinMap.Entries.{find-put, by_order}
use Rattle.ror_io.specs.Files.{Files, file, with_file}
use Rattle.ror_io.specs.ShelfMemory.{files_of}

-- an entry, as files show it
abbrev entry_shown : {X Y : Type 0} → String X × Vec ℕ Y → List ℕ × List ℕ
entry_shown entry = (string_bytes entry.0, entry.1.items)

find-shown : {X Y : Type 0} (entries : List (String X × Vec ℕ Y)) (name : List ℕ) → find (slice_cmp nat_cmp) name (map entry_shown entries) ≡ option_map (λ v. v.items) (lookup (is_at (λ key. slice_cmp nat_cmp name (string_bytes key))) entries)
find-shown [] name = refl
find-shown (e ∷ es) name =
    elim (eq_by_cmp (slice_cmp nat_cmp) name (string_bytes e.0)) as (λ b. cond b (Some e.1.items) (find (slice_cmp nat_cmp) name (map entry_shown es)) ≡ option_map (λ v. v.items) (cond b (Some e.1) (lookup (is_at (λ key. slice_cmp nat_cmp name (string_bytes key))) es))) [
      | true ↦ refl
      | false ↦ find-shown es name
    ]

-- the file of a name is what a look-up of the name finds
pub file-files_of : {X Y : Type 0} (entries : List (String X × Vec ℕ Y)) (name : List ℕ) → file (files_of entries) name ≡ option_map (λ v. v.items) (lookup (is_at (λ key. slice_cmp nat_cmp name (string_bytes key))) entries)
file-files_of entries name = get-from_entries nat_list_cmp_total (map entry_shown entries) name ∙ find-shown entries name

-- what such a look-up found is the file
pub file_found : {X Y : Type 0} (entries : List (String X × Vec ℕ Y)) (name : List ℕ) (found : Option (Vec ℕ Y)) → found ≡ lookup (is_at (λ key. slice_cmp nat_cmp name (string_bytes key))) entries → option_map (λ v. v.items) found ≡ file (files_of entries) name
file_found entries name found is = ap (option_map (λ v. v.items)) is ∙ sym (file-files_of entries name)

shown-insert_entry : {X Y : Type 0} (entries : List (String X × Vec ℕ Y)) (key : String X) (value : Vec ℕ Y) → map entry_shown (insert_entry string_cmp entries key value) ≡ put (slice_cmp nat_cmp) (string_bytes key) value.items (map entry_shown entries)
shown-insert_entry [] key value = refl
shown-insert_entry (e ∷ es) key value =
    elim (string_cmp key e.0) as (λ r. map entry_shown (match_ordering r ((key, value) ∷ e ∷ es) ((e.0, value) ∷ es) (e ∷ insert_entry string_cmp es key value)) ≡ by_order r ((string_bytes key, value.items) ∷ map entry_shown (e ∷ es)) ((string_bytes e.0, value.items) ∷ map entry_shown es) (entry_shown e ∷ put (slice_cmp nat_cmp) (string_bytes key) value.items (map entry_shown es))) [
      | Less ↦ refl
      | Equal ↦ refl
      | Greater ↦ ap (λ rest. entry_shown e ∷ rest) (shown-insert_entry es key value)
    ]

-- to insert an entry is to put a file
pub files_of-insert_entry : {X Y : Type 0} (entries : List (String X × Vec ℕ Y)) (key : String X) (value : Vec ℕ Y) → files_of (insert_entry string_cmp entries key value) ≡ with_file (files_of entries) (string_bytes key) value.items
files_of-insert_entry entries key value =
    same_map nat_list_cmp_total (slice_cmp-IsAntisymmetric nat_cmp-IsAntisymmetric) _ _ (λ q.
    get-from_entries nat_list_cmp_total (map entry_shown (insert_entry string_cmp entries key value)) q
    ∙ ap (find (slice_cmp nat_cmp) q) (shown-insert_entry entries key value)
    ∙ find-put (slice_cmp nat_cmp) nat_list_cmp_total q (string_bytes key) value.items (map entry_shown entries)
    ∙ sym (get-insert nat_list_cmp_total (files_of entries) (string_bytes key) value.items q
    ∙ ap (cond (eq_by_cmp (slice_cmp nat_cmp) q (string_bytes key)) (Some value.items)) (get-from_entries nat_list_cmp_total (map entry_shown entries) q)))

-- the file that was put is there
pub file-with_file : (files : Files) (name bytes : List ℕ) → file (with_file files name bytes) name ≡ Some bytes
file-with_file files name bytes =
    get-insert nat_list_cmp_total files name bytes name
    ∙ ap (λ r. cond (is_eq r) (Some bytes) (get files name)) (tied_itself nat_list_cmp_total name)

other_key : (r : Ordering) (P : Type 0) → (r ≡ Equal → P) → ¬ P → is_eq r ≡ false
other_key Less P same differs = refl
other_key Equal P same differs = absurd (differs (same refl))
other_key Greater P same differs = refl

-- and every other file stays
pub file-with_file_other : (files : Files) (name bytes other : List ℕ) → other ≢ name → file (with_file files name bytes) other ≡ file files other
file-with_file_other files name bytes other differs =
    get-insert nat_list_cmp_total files name bytes other
    ∙ ap (λ b. cond b (Some bytes) (get files other)) (other_key (slice_cmp nat_cmp other name) (other ≡ name) (slice_cmp-IsAntisymmetric nat_cmp-IsAntisymmetric other name) differs)
