-- The slots that one word means, two bits to a slot, the bits of x1 lowest.
use Rattle.std.specs.Prelude.{ℕ, zero, suc, ◌+◌, ◌-◌, ◌*◌, ◌/◌, ◌%◌, ◌<◌, List, [], ◌∷◌}
use Rattle.cube.specs.declared.slot.Slot.{Slot}
use Rattle.cube.specs.declared.slot.Slot.TheVariants.{No, Yes, Blank}

-- 10 is No, 01 is Yes, 11 and 00 are Blank
abbrev pub field_slot : ℕ → Slot
field_slot zero = Blank
field_slot (suc zero) = Yes
field_slot (suc (suc zero)) = No
field_slot (suc (suc (suc more))) = Blank

unfoldable pub word_slots : ℕ → ℕ → List Slot
word_slots zero w = []
word_slots (suc n) w = field_slot (w % 4) ∷ word_slots n (w / 4)

-- none of the n lowest fields is 00
unfoldable pub ProperWord : ℕ → ℕ → Type 0
ProperWord zero w = Unit {0}
ProperWord (suc n) w = (0 < w % 4) × ProperWord n (w / 4)

-- 11 in place of 00
abbrev pub filled_field : ℕ → ℕ
filled_field zero = 3
filled_field (suc more) = suc more

-- the n lowest fields, none of them 00
unfoldable pub filled_word : ℕ → ℕ → ℕ
filled_word zero w = 0
filled_word (suc n) w = filled_word n (w / 4) * 4 + filled_field (w % 4)

-- the n lowest digits of a state, each the lower bit of a field
unfoldable pub spread_word : ℕ → ℕ → ℕ
spread_word zero s = 0
spread_word (suc n) s = spread_word n (s / 2) * 4 + s % 2

-- the n lowest digits of a state as fields: 10 for 0 and 01 for 1
unfoldable pub state_pattern : ℕ → ℕ → ℕ
state_pattern zero s = 0
state_pattern (suc n) s = state_pattern n (s / 2) * 4 + (2 - s % 2)
