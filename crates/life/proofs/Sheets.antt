-- What the law uses of sheets: their cubes are over n variables, and what is written is a sheet.
use Rattle.std.proofs.Common.{◌≡◌, ℕ, ◌≤◌, List, [], ◌∷◌, map, length, subst}
use Rattle.cube.specs.Slots.{Cube, Cover, blank_above}
use Rattle.sheet.specs.Sheet.{Sheet, Each, shown}
use Rattle.sheet.specs.Writing.{write_sheet}
use Rattle.sheet.proofs.Lengths.{written_is_a_sheet as text-is-a-sheet}
use Rattle.sheet.proofs.Sheets.{sheet_twenty, sheet_blank}
use Rattle.life.proofs.Overs.{Every, every_blank}

-- the cubes of a sheet
every_of : (n : ℕ) (F : Cover) → Each (λ (c : Cube). length c ≡ 20) F → map (blank_above n) F ≡ F → Every n F
every_of n [] l e = tt
every_of n (c ∷ F) l e =
    let here : blank_above n c ≡ c = cc in
    let more : map (blank_above n) F ≡ F = cc in
    (record { twenty = l.0; above = here }, every_of n F l.1 more)

pub sheet_over : (n most : ℕ) (bytes : List ℕ) (F : Cover) → Sheet n most bytes F → Every n F
sheet_over n most bytes F s = every_of n F (sheet_twenty n most bytes F s) (sheet_blank n most bytes F s)

pub shown_sheet : (n most : ℕ) (bytes : List ℕ) (F : Cover) → Sheet n most bytes F → Sheet n most bytes (shown bytes)
shown_sheet n most bytes F s = subst (Sheet n most bytes) s.shows s

pub every_twenty : (n : ℕ) (F : Cover) → Every n F → Each (λ (c : Cube). length c ≡ 20) F
every_twenty n [] e = tt
every_twenty n (c ∷ F) e = (e.0.twenty, every_twenty n F e.1)

-- what is written of a cover over n variables is a sheet of it
pub written_is_a_sheet : (n most : ℕ) (F : Cover) → n ≤ 20 → length F ≤ 256 → Every n F → length F ≤ most → Sheet n most (write_sheet n F) F
written_is_a_sheet n most F top few e room = text-is-a-sheet n most F top few (every_twenty n F e) (every_blank n F e) room
