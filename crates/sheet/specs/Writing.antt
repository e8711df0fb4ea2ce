-- The text of a sheet, and what a writer leaves.
use Rattle.std.specs.Prelude.{◌≡◌, ℕ, suc, ◌+◌, ◌<◌, ◌≤◌, ◌⊎◌, List, [], ◌∷◌, ◌++◌, map, length, drop, Ok, Err, decimal, Result}
use Rattle.cube.specs.declared.refusal.Refusal.{Refusal}
use Rattle.cube.specs.declared.slot.Slot.{Slot}
use Rattle.cube.specs.declared.slot.Slot.TheVariants.{No, Yes, Blank}
use Rattle.cube.specs.Refusals.{fault, fault_of}
use Rattle.cube.specs.Slots.{Cube, Cover, blank_above}

-- cubes as a sheet over n variables shows them: their slots above n are taken as Blank
abbrev pub blanked : {C : Type 0} → ℕ → (C → Cube) → List C → Cover
blanked n slots cubes = map (blank_above n) (map slots cubes)

-- how many slots are not Blank
abbrev pub filled : Cube → ℕ
filled [] = 0
filled (No ∷ c) = suc (filled c)
filled (Yes ∷ c) = suc (filled c)
filled (Blank ∷ c) = filled c

-- a space and -k for No, k for Yes of the variable k
abbrev pub write_literal : ℕ → Slot → List ℕ
write_literal k No = 32 ∷ 45 ∷ decimal k
write_literal k Yes = 32 ∷ decimal k
write_literal k Blank = []

-- the literals of the variables from k on
abbrev pub write_literals : ℕ → Cube → List ℕ
write_literals k [] = []
write_literals k (v ∷ c) = write_literal k v ++ write_literals (k + 1) c

-- the line of a cube: how many literals, and then these
abbrev pub write_cube : Cube → List ℕ
write_cube c = decimal (filled c) ++ (write_literals 1 c ++ 10 ∷ [])

abbrev pub write_cubes : Cover → List ℕ
write_cubes [] = []
write_cubes (c ∷ cs) = write_cube c ++ write_cubes cs

-- line 1 holds n, line 2 the number of cubes, and each other line a cube
abbrev pub write_sheet : ℕ → Cover → List ℕ
write_sheet n cs = decimal n ++ 10 ∷ (decimal (length cs) ++ 10 ∷ write_cubes cs)

-- the text, at the front of out, or, where out or a sheet is too short for it, nothing
abbrev pub Writes : List ℕ → List ℕ → Result ℕ Refusal → List ℕ → Type 0
Writes text out (Ok k) out' = (length text ≤ length out) × (length text ≤ 65535) × (k ≡ length text) × (out' ≡ text ++ drop k out)
Writes text out (Err f) out' = ((length out < length text) ⊎ (65535 < length text)) × (fault_of f ≡ fault 8 0) × (out' ≡ out)

-- up to 256 cubes are refused only where out is too short
abbrev pub Exact : ℕ → List ℕ → List ℕ → Result ℕ Refusal → Type 0
Exact count text out (Ok k) = Unit {0}
Exact count text out (Err f) = count ≤ 256 → length out < length text
