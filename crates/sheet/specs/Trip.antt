-- What is written is read again.
use Rattle.std.specs.Prelude.{◌≡◌, ℕ, ◌≤◌, List, length, take, Ok, Err, Result}
use Rattle.cube.specs.declared.refusal.Refusal.{Refusal}
use Rattle.cube.specs.Slots.{Cover}
use Rattle.sheet.specs.Reading.{read_sheet}
use Rattle.sheet.specs.Sheet.{Sheet}

-- what is written is a sheet of the cubes
abbrev pub Wrote : ℕ → Cover → Result ℕ Refusal → List ℕ → Type 0
Wrote n cubes (Ok k) out = Sheet n (length cubes) (take k out) cubes
Wrote n cubes (Err f) out = Unit {0}

-- what is written is read as the cubes, wherever there is room for them
abbrev pub Returns : ℕ → Cover → Result ℕ Refusal → List ℕ → Type 0
Returns n cubes (Ok k) out = (most : ℕ) → length cubes ≤ most → read_sheet n most (take k out) ≡ Ok cubes
Returns n cubes (Err f) out = Unit {0}
