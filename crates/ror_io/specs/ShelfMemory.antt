-- What shelves in memory hold.
use Rattle.std.specs.Prelude.{ℕ, List, map, refl}
use Rattle.std.specs.declared.string.String.{String}
use Rattle.std.specs.String.{string_bytes}
use Rattle.std.specs.declared.vec.Vec.{Vec}
use Rattle.std.specs.FinMap.{from_entries, code}
use Rattle.std.specs.Coded.{Coded, code_by, coded×, coded_ℕ, coded_list}
use Rattle.ror_io.specs.Files.{Files}
use Rattle.ror_io.specs.Calls.{Calls}

-- the files, the fetches, and how many of them failed by a fault
pub record ShelfMemory : Type 0 where
  pub files : Files
  pub calls : Calls
  pub faults : ℕ

-- the files, and how many fetches were made
pub record SteadyShelfMemory : Type 0 where
  pub files : Files
  pub fetches : ℕ

-- none of them fails by a fault
abbrev pub no_faults : SteadyShelfMemory → ℕ
no_faults shelf = 0

-- files are stored by their entries
abbrev pub files_code : Coded Files
files_code = code (coded_list coded_ℕ) (coded_list coded_ℕ)

-- it is stored as the files, the failing calls, how many were made, and the faults
abbrev pub shelf_memory_code : Coded ShelfMemory
shelf_memory_code =
    code_by (Files × (List ℕ × (ℕ × ℕ))) (coded× files_code (coded× (coded_list coded_ℕ) (coded× coded_ℕ coded_ℕ))) (λ shelf. (shelf.files, (shelf.calls.failing, (shelf.calls.made, shelf.faults)))) (λ parts. record { files = parts.0; calls = record { failing = parts.1.0; made = parts.1.1.0 }; faults = parts.1.1.1 }) (λ _. refl)

-- it is stored as the files, and how many fetches were made
abbrev pub steady_shelf_memory_code : Coded SteadyShelfMemory
steady_shelf_memory_code =
    code_by (Files × ℕ) (coded× files_code coded_ℕ) (λ shelf. (shelf.files, shelf.fetches)) (λ parts. record { files = parts.0; fetches = parts.1 }) (λ _. refl)

-- the files of a map from texts to bytes, by its entries
abbrev pub files_of : {X Y : Type 0} → List (String X × Vec ℕ Y) → Files
files_of entries = from_entries (map (λ entry. (string_bytes entry.0, entry.1.items)) entries)
