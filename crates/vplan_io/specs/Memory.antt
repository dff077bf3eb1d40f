-- What the sources and sinks in memory hold, and when they fail.
use Rattle.std.specs.Prelude.{ℕ, ◌+◌, List, length, Bool, ◌||◌, is_none, nat_eq, nat_lt, string_bytes}
use Rattle.std.specs.List.{list_any}
use Rattle.std.specs.declared.option.Option.{Option}
use Rattle.std.specs.declared.option.Option.TheVariants.{Some}
use Rattle.vplan_io.specs.Causes.{raised}
use Rattle.vplan_io.specs.Shelves.{file_of, or_empty}
use Rattle.vplan_io.specs.declared.memory.Shelf.{Shelf}
use Rattle.vplan_io.specs.declared.memory.SureShelf.{SureShelf}
use Rattle.vplan_io.specs.declared.memory.Tray.{Tray}

-- the number is one of the list
abbrev pub is_listed : List ℕ → ℕ → Bool
is_listed numbers n = list_any (λ m. nat_eq m n) numbers

-- the bytes of the shelf's file of that name, if it has one
abbrev pub told_by_shelf : Shelf → List ℕ → Option (List ℕ)
told_by_shelf shelf name = file_of string_bytes (λ v. v.items) shelf.files.items name

-- the numbers of the loads that fail, from 1
abbrev pub failing_loads : Shelf → List ℕ
failing_loads shelf = shelf.failing.items

-- how many loads there were
abbrev pub loads_made : Shelf → ℕ
loads_made shelf = shelf.loads

-- how many loads failed, of any name
abbrev pub shelf_faults : Shelf → ℕ
shelf_faults shelf = shelf.faults

-- how many bytes the last load took
abbrev pub shelf_last : Shelf → ℕ
shelf_last shelf = shelf.last

-- the next load fails: its number is listed, or there is no file of that name
abbrev pub load_fails : Shelf → List ℕ → Bool
load_fails shelf name = is_listed (failing_loads shelf) (raised (loads_made shelf)) || is_none (told_by_shelf shelf name)

-- the bytes of the shelf's file of that name, which is empty where it has none
abbrev pub told_by_sure_shelf : SureShelf → List ℕ → Option (List ℕ)
told_by_sure_shelf shelf name = Some (or_empty (file_of string_bytes (λ v. v.items) shelf.files.items name))

-- the bytes that the tray took
abbrev pub tray_bytes : Tray → List ℕ
tray_bytes tray = tray.bytes.items

-- how many bytes it has room for in all
abbrev pub tray_room : Tray → ℕ
tray_room tray = tray.room

-- the numbers of the puts that fail, from 1
abbrev pub failing_puts : Tray → List ℕ
failing_puts tray = tray.failing.items

-- how many puts there were
abbrev pub puts_made : Tray → ℕ
puts_made tray = tray.puts

-- how many puts failed
abbrev pub tray_faults : Tray → ℕ
tray_faults tray = tray.faults

-- the next put fails: its number is listed, or there is too little room
abbrev pub put_fails : Tray → List ℕ → Bool
put_fails tray bytes =
    is_listed (failing_puts tray) (raised (puts_made tray)) || nat_lt (tray_room tray) (length (tray_bytes tray) + length bytes)
