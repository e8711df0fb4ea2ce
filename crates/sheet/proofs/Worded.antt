-- A sheet in words, by the values that the reader gives them.
use Rattle.std.proofs.Common.{◌≡◌, ℕ, ◌<◌, ◌≤◌, false, cond, List, [], ◌∷◌, length, Ok}
use Rattle.cube.specs.declared.slot.Slot.{Slot}
use Rattle.cube.specs.declared.slot.Slot.TheVariants.{No, Yes}
use Rattle.cube.specs.Slots.{Cube, Cover, blank_cube, with_slot}
use Rattle.text.specs.Numerals.{size_in, minus_in}
use Rattle.sheet.specs.Reading.{read_sheet}
use Rattle.sheet.specs.Sheet.{Each, Numeral}
use Rattle.text.specs.Words.{Word, lines_of}

abbrev pub Line : Type 0
Line = List Word

-- the word is the number k
abbrev pub Number : Word → ℕ → Type 0
Number w k = (minus_in w ≡ false) × (size_in w ≡ k)

-- the line is one word, the number k
abbrev pub Alone : Line → ℕ → Type 0
Alone [] k = ⊥
Alone (w ∷ []) k = Number w k
Alone (w ∷ v ∷ ws) k = ⊥

-- literals of variables above last, in rising order, none above n
abbrev pub Rising : ℕ → ℕ → Line → Type 0
Rising n last [] = Unit {0}
Rising n last (w ∷ ws) = (last < size_in w) × (size_in w ≤ n) × Rising n (size_in w) ws

abbrev pub ticked : Word → Slot
ticked w = cond (minus_in w) No Yes

-- the cube with each literal's slot filled
abbrev pub filling : Line → Cube → Cube
filling [] c = c
filling (w ∷ ws) c = filling ws (with_slot c (size_in w) (ticked w))

-- the line of a cube: how many literals, and these
abbrev pub Row : ℕ → Line → Cube → Type 0
Row n [] c = ⊥
Row n (w ∷ ws) c = Number w (length ws) × Rising n 0 ws × (c ≡ filling ws blank_cube)

abbrev pub Rows : ℕ → List Line → Cover → Type 0
Rows n [] [] = Unit {0}
Rows n [] (c ∷ cs) = ⊥
Rows n (l ∷ ls) [] = ⊥
Rows n (l ∷ ls) (c ∷ cs) = Row n l c × Rows n ls cs

-- from the second line on
abbrev pub Counted : ℕ → ℕ → List Line → Cover → Type 0
Counted n most [] cs = ⊥
Counted n most (l ∷ ls) cs = Alone l (length cs) × (length cs ≤ most) × Rows n ls cs

abbrev pub Lines : ℕ → ℕ → List Line → Cover → Type 0
Lines n most [] cs = ⊥
Lines n most (l ∷ ls) cs = Alone l n × Counted n most ls cs

pub record Worded (n most : ℕ) (text : List ℕ) (cubes : Cover) : Type 0 where
  pub short : length text ≤ 65535
  pub numerals : Each (Each Numeral) (lines_of text)
  pub lines : Lines n most (lines_of text) cubes

-- the sheets are the texts that are read, with the same cubes
abbrev pub WordedAreRead : Type 0
WordedAreRead =
    (n most : ℕ) (text : List ℕ) (cubes : Cover) →
    (read_sheet n most text ≡ Ok cubes → Worded n most text cubes) × (Worded n most text cubes → read_sheet n most text ≡ Ok cubes)
