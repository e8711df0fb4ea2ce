-- The slots that a pair of words means.
use Rattle.std.specs.Prelude.{ℕ, zero, suc, ◌/◌, ◌%◌, ◌≤◌, List, [], ◌∷◌}
use Rattle.cube.specs.declared.slot.Slot.{Slot}
use Rattle.cube.specs.declared.slot.Slot.TheVariants.{No, Yes, Blank}

-- the least and the greatest value that the slot lets through: 0 and 0, 1 and 1, else blank
abbrev pub slot_of : ℕ → ℕ → Slot
slot_of zero zero = No
slot_of zero (suc high) = Blank
slot_of (suc low) zero = Blank
slot_of (suc low) (suc high) = Yes

unfoldable pub pair_slots : ℕ → ℕ → ℕ → List Slot
pair_slots zero low high = []
pair_slots (suc n) low high = slot_of (low % 2) (high % 2) ∷ pair_slots n (low / 2) (high / 2)

-- none of the n lowest slots has min 1 and max 0
unfoldable pub ProperPair : ℕ → ℕ → ℕ → Type 0
ProperPair zero low high = Unit {0}
ProperPair (suc n) low high = (low % 2 ≤ high % 2) × ProperPair n (low / 2) (high / 2)
