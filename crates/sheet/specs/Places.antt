-- How many cubes a reader has begun, and that there is room for them.
use Rattle.std.specs.Prelude.{◌≡◌, ℕ, ◌+◌, ◌*◌, ◌<◌, ◌≤◌, Some, None, Option}
use Rattle.sheet.specs.declared.reading.ReaderState.{ReaderState}
use Rattle.sheet.specs.declared.reading.ReaderState.TheVariants.{BeforeLine1, BeforeLine2, AmongCubes}
use Rattle.sheet.specs.declared.reading.Deed.{Deed}
use Rattle.sheet.specs.declared.reading.Deed.TheVariants.{Open, Put}

-- c cubes have been begun, and there is room for those to come
abbrev pub Room : ℕ → ReaderState → ℕ → Type 0
Room most BeforeLine1 c = c ≡ 0
Room most (BeforeLine2 fresh) c = c ≡ 0
Room most (AmongCubes left None) c = c + left ≤ most
Room most (AmongCubes left (Some line)) c = (c + left ≤ most) × (line.left ≤ 20 * c)

-- how many cubes there are after a deed
abbrev pub counted : Option Deed → ℕ → ℕ
counted None c = c
counted (Some Open) c = c + 1
counted (Some (Put variable slot)) c = c

-- a deed has the place that it needs
abbrev pub Ready : ℕ → Option Deed → ℕ → Type 0
Ready most None c = Unit {0}
Ready most (Some Open) c = c < most
Ready most (Some (Put variable slot)) c = (0 < c) × (c ≤ most)

-- a deed names a variable up to n
abbrev pub Within : ℕ → Option Deed → Type 0
Within n None = Unit {0}
Within n (Some Open) = Unit {0}
Within n (Some (Put variable slot)) = (0 < variable) × (variable ≤ n)
