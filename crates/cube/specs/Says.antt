-- What a cube and a cover say of a state.
use Rattle.std.specs.Prelude.{ℕ, zero, suc, ◌/◌, ◌%◌, Bool, true, false, not, ◌&&◌, ◌||◌, List, [], ◌∷◌, ◌==◌}
use Rattle.cube.specs.declared.slot.Slot.{Slot}
use Rattle.cube.specs.declared.slot.Slot.TheVariants.{No, Yes, Blank}
use Rattle.cube.specs.Slots.{Cube, Cover}

-- the n lowest bits of a state: the values of x1 to xn, x1 first
unfoldable pub bits : ℕ → ℕ → List Bool
bits zero s = []
bits (suc n) s = (s % 2 == 1) ∷ bits n (s / 2)

-- a No slot meets a 0, a Yes slot a 1, a Blank slot either
abbrev pub slot_says : Slot → Bool → Bool
slot_says No b = not b
slot_says Yes b = b
slot_says Blank b = true

-- a cube at the values of its variables: every slot meets its value
abbrev pub cube_says : Cube → List Bool → Bool
cube_says [] values = true
cube_says (v ∷ c) [] = true
cube_says (v ∷ c) (b ∷ values) = slot_says v b && cube_says c values

-- a cover says yes where one of its cubes does
abbrev pub cover_says : Cover → List Bool → Bool
cover_says [] values = false
cover_says (c ∷ F) values = cube_says c values || cover_says F values

-- a truth value at each state
abbrev pub Truth : Type 0
Truth = ℕ → Bool

-- a cube of 20 slots at a state: bits beyond the twentieth are not looked at
abbrev pub says : Cube → Truth
says c s = cube_says c (bits 20 s)

abbrev pub yes_at : Cover → Truth
yes_at F s = cover_says F (bits 20 s)
