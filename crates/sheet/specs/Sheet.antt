-- What a sheet is, in lines, words and numbers.
use Rattle.std.specs.Prelude.{◌≡◌, ℕ, suc, ◌+◌, ◌-◌, ◌*◌, ◌^◌, ◌<◌, ◌≤◌, cond, ◌⊎◌, List, [], ◌∷◌, map, length, take, drop, ℤ, pos, negsuc, Ok, Err, Result, ◌==◌}
use Rattle.cube.specs.declared.refusal.Refusal.{Refusal}
use Rattle.cube.specs.declared.slot.Slot.{Slot}
use Rattle.cube.specs.declared.slot.Slot.TheVariants.{No, Yes}
use Rattle.cube.specs.Slots.{Cube, Cover, blank_cube, with_slot}
use Rattle.text.specs.Numerals.{negative}
use Rattle.text.specs.Words.{Word, lines_of}
use Rattle.sheet.specs.Reading.{read_sheet}

abbrev pub Each : {X : Type 0} → (X → Type 0) → List X → Type 0
Each P [] = Unit {0}
Each P (x ∷ xs) = P x × Each P xs

abbrev pub Decimal : ℕ → Type 0
Decimal b = (48 ≤ b) × (b ≤ 57)

-- one to five digits
pub record Digits (ds : Word) : Type 0 where
  pub each : Each Decimal ds
  pub some : 0 < length ds
  pub few : length ds ≤ 5

-- digits, with or without a minus
abbrev pub Numeral : Word → Type 0
Numeral [] = ⊥
Numeral (b ∷ ds) = ((b ≡ 45) × Digits ds) ⊎ Digits (b ∷ ds)

-- the value of digits: each counts ten times as much as the next
abbrev pub value : Word → ℕ
value [] = 0
value (d ∷ ds) = (d - 48) * 10 ^ length ds + value ds

-- the number that a numeral is
abbrev pub number_in : Word → ℤ
number_in [] = pos 0
number_in (b ∷ ds) = cond (b == 45) (negative (value ds)) (pos (value (b ∷ ds)))

-- the numbers on the lines that have any
abbrev pub numbers_on : List ℕ → List (List ℤ)
numbers_on text = map (map number_in) (lines_of text)

-- a literal is k for Yes and -k for No of the variable k
abbrev pub variable_of : ℤ → ℕ
variable_of (pos k) = k
variable_of (negsuc k) = suc k

abbrev pub slot_of_literal : ℤ → Slot
slot_of_literal (pos k) = Yes
slot_of_literal (negsuc k) = No

-- variables above last, in rising order, none above n
abbrev pub Rising : ℕ → ℕ → List ℤ → Type 0
Rising n last [] = Unit {0}
Rising n last (z ∷ zs) = (last < variable_of z) × (variable_of z ≤ n) × Rising n (variable_of z) zs

-- the cube with the slots of these literals
abbrev pub literals_over : List ℤ → Cube → Cube
literals_over [] c = c
literals_over (z ∷ zs) c = literals_over zs (with_slot c (variable_of z) (slot_of_literal z))

-- the cube on a line: how many literals, and then these; the other slots are Blank
abbrev pub cube_on : List ℤ → Cube
cube_on [] = blank_cube
cube_on (count ∷ literals) = literals_over literals blank_cube

-- the cubes that a text shows: those on its lines from the third on
abbrev pub shown : List ℕ → Cover
shown text = map cube_on (drop 2 (numbers_on text))

abbrev pub CubeLine : ℕ → List ℤ → Type 0
CubeLine n [] = ⊥
CubeLine n (count ∷ literals) = (count ≡ pos (length literals)) × Rising n 0 literals

-- line 1 holds n, line 2 the number of cubes, and each other line a cube
abbrev pub Lines : ℕ → ℕ → List (List ℤ) → Type 0
Lines n most [] = ⊥
Lines n most (first ∷ []) = ⊥
Lines n most (first ∷ second ∷ rows) = (first ≡ pos n ∷ []) × (second ≡ pos (length rows) ∷ []) × (length rows ≤ most) × Each (CubeLine n) rows

-- the text is a sheet over n variables of these cubes, at most so many
pub record Sheet (n most : ℕ) (text : List ℕ) (cubes : Cover) : Type 0 where
  pub short : length text ≤ 65535
  pub numerals : Each (Each Numeral) (lines_of text)
  pub lines : Lines n most (numbers_on text)
  pub shows : cubes ≡ shown text

-- the sheets are the texts that are read, with the same cubes
abbrev pub SheetsAreRead : Type 0
SheetsAreRead =
    (n most : ℕ) (text : List ℕ) (cubes : Cover) →
    (read_sheet n most text ≡ Ok cubes → Sheet n most text cubes) × (Sheet n most text cubes → read_sheet n most text ≡ Ok cubes)

-- into a table of so many places: the text is a sheet of the cubes at its front, or it is no sheet
abbrev pub Accepts : ℕ → ℕ → ℕ → List ℕ → Result ℕ Refusal → Cover → Type 0
Accepts n most places text (Ok k) table = (most ≤ places) × Sheet n most text (take k table)
Accepts n most places text (Err f) table = most ≤ places → (cubes : Cover) → Sheet n most text cubes → ⊥
