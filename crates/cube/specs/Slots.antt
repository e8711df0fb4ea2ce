-- Cubes as lists of slots, the slot of x1 first, and what the functions of a notation answer.
use Rattle.std.specs.Prelude.{ℕ, zero, suc, ◌-◌, Bool, true, false, ◌&&◌, List, [], ◌∷◌, replicate, Some, None, Option, slice_index_or, slice_set}
use Rattle.cube.specs.declared.slot.Slot.{Slot}
use Rattle.cube.specs.declared.slot.Slot.TheVariants.{No, Yes, Blank}

-- what a cube means: its 20 slots
abbrev pub Cube : Type 0
Cube = List Slot

-- a cover is a list of cubes
abbrev pub Cover : Type 0
Cover = List Cube

abbrev pub blank_cube : Cube
blank_cube = replicate 20 Blank

-- the slot of xi, with i from 1
abbrev pub slot_at : Cube → ℕ → Slot
slot_at c i = slice_index_or c (i - 1) Blank

-- the cube with another slot of xi
abbrev pub with_slot : Cube → ℕ → Slot → Cube
with_slot c i v = slice_set c (i - 1) v

-- the value that either holds; none where one is No and the other Yes
abbrev pub slot_meet : Slot → Slot → Option Slot
slot_meet No No = Some No
slot_meet No Yes = None
slot_meet No Blank = Some No
slot_meet Yes No = None
slot_meet Yes Yes = Some Yes
slot_meet Yes Blank = Some Yes
slot_meet Blank s = Some s

abbrev pub prepend : Option Slot → Option Cube → Option Cube
prepend None o = None
prepend (Some s) None = None
prepend (Some s) (Some rest) = Some (s ∷ rest)

abbrev pub cube_meet : Cube → Cube → Option Cube
cube_meet [] q = Some []
cube_meet (a ∷ p) [] = Some []
cube_meet (a ∷ p) (b ∷ q) = prepend (slot_meet a b) (cube_meet p q)

-- Blank, or the same
abbrev pub slot_covers : Slot → Slot → Bool
slot_covers No No = true
slot_covers No Yes = false
slot_covers No Blank = false
slot_covers Yes No = false
slot_covers Yes Yes = true
slot_covers Yes Blank = false
slot_covers Blank b = true

abbrev pub cube_covers : Cube → Cube → Bool
cube_covers [] q = true
cube_covers (a ∷ p) [] = true
cube_covers (a ∷ p) (b ∷ q) = slot_covers a b && cube_covers p q

-- the cube with the slots of the variables above n Blank
abbrev pub blank_above : ℕ → Cube → Cube
blank_above n [] = []
blank_above zero (v ∷ c) = Blank ∷ blank_above zero c
blank_above (suc n) (v ∷ c) = v ∷ blank_above n c
