-- A sheet in numbers is a sheet in words: so the sheets are the texts that are read. What follows of a sheet's cubes.
use Rattle.std.proofs.Common.{◌≡◌, ℕ, zero, suc, ◌-◌, ◌<◌, ◌≤◌, false, ltb, List, [], ◌∷◌, map, length, take, drop, set, replicate, ℤ, pos, Ok, Err, Result, sym, refl, ap, ◌∙◌, subst, arith, length-set}
use Rattle.std.proofs.lemmas.Bool.{le-ltb, cond-false}
use Rattle.std.proofs.lemmas.Bool.Decides.{nat_tests}
use Rattle.std.proofs.lemmas.List.{length-map}
use Rattle.cube.specs.Refusals.{Fault}
use Rattle.cube.specs.declared.refusal.Refusal.{Refusal}
use Rattle.cube.specs.declared.slot.Slot.{Slot}
use Rattle.cube.specs.declared.slot.Slot.TheVariants.{Blank}
use Rattle.cube.specs.Slots.{Cube, Cover, blank_cube, with_slot, blank_above}
use Rattle.text.specs.Numerals.{size_in}
use Rattle.sheet.specs.Reading.{read_sheet, read_into, Reads}
use Rattle.sheet.specs.Sheet.{Each, Numeral, number_in, numbers_on, variable_of, slot_of_literal, Rising, literals_over, cube_on, CubeLine, Lines, Sheet, SheetsAreRead, Accepts}
use Rattle.text.specs.Words.{lines_of}
use Rattle.sheet.proofs.Worded as worded
use Rattle.sheet.proofs.Worded.{Line, Worded, filling}
use Rattle.sheet.proofs.Values.{numeral_tells, number_is, is_number, ticked_is}
use Rattle.sheet.proofs.Accepts.{worded_are_read, long_not_ok}

abbrev numbers : Line → List ℤ
numbers l = map number_in l

alone_number : (l : Line) (k : ℕ) → Each Numeral l → worded.Alone l k → numbers l ≡ pos k ∷ []
alone_number [] k ns h = absurd h
alone_number (w ∷ []) k ns h = ap (λ z. z ∷ []) (number_is w ns.0 k h)
alone_number (w ∷ v ∷ l) k ns h = absurd h

number_alone : (l : Line) (k : ℕ) → Each Numeral l → numbers l ≡ pos k ∷ [] → worded.Alone l k
number_alone [] k ns e = let o : ◌≡◌ {A = ℕ} 0 1 = cc in absurd (omega arith)
number_alone (w ∷ []) k ns e = is_number w ns.0 k (cc)
number_alone (w ∷ v ∷ l) k ns e = let o : ◌≡◌ {A = ℕ} 0 1 = cc in absurd (omega arith)

rising_numbers : (n last : ℕ) (l : Line) → Each Numeral l → worded.Rising n last l → Rising n last (numbers l)
rising_numbers n last [] ns h = tt
rising_numbers n last (w ∷ l) ns h =
    let e = (numeral_tells w ns.0).0 in
    let more = rising_numbers n (size_in w) l ns.1 h.2 in
    (omega (arith, h.0), omega (arith, h.1), subst (λ k. Rising n k (numbers l)) e more)

numbers_rising : (n last : ℕ) (l : Line) → Each Numeral l → Rising n last (numbers l) → worded.Rising n last l
numbers_rising n last [] ns h = tt
numbers_rising n last (w ∷ l) ns h =
    let e = (numeral_tells w ns.0).0 in
    let more = numbers_rising n (variable_of (number_in w)) l ns.1 h.2 in
    (omega (arith, h.0), omega (arith, h.1), subst (λ k. worded.Rising n k l) (sym e) more)

filling_is : (l : Line) (c : Cube) → Each Numeral l → filling l c ≡ literals_over (numbers l) c
filling_is [] c ns = refl
filling_is (w ∷ l) c ns =
    filling_is l _ ns.1 ∙ ap (λ s. literals_over (numbers l) (set c (size_in w - 1) s)) (ticked_is w ns.0) ∙ ap (λ k. literals_over (numbers l) (with_slot c k (slot_of_literal (number_in w)))) (numeral_tells w ns.0).0

row_line : (n : ℕ) (l : Line) (c : Cube) → Each Numeral l → worded.Row n l c → CubeLine n (numbers l) × (c ≡ cube_on (numbers l))
row_line n [] c ns h = absurd h
row_line n (w ∷ l) c ns h =
    ((number_is w ns.0 (length l) h.0 ∙ ap pos (sym (length-map l number_in)), rising_numbers n 0 l ns.1 h.1), h.2 ∙ filling_is l blank_cube ns.1)

line_row : (n : ℕ) (l : Line) → Each Numeral l → CubeLine n (numbers l) → worded.Row n l (cube_on (numbers l))
line_row n [] ns h = absurd h
line_row n (w ∷ l) ns h =
    (is_number w ns.0 (length l) (h.0 ∙ ap pos (length-map l number_in)), numbers_rising n 0 l ns.1 h.1, sym (filling_is l blank_cube ns.1))

-- the lines of the cubes cs
record RowsAre (n : ℕ) (rows : List (List ℤ)) (cs : Cover) : Type 0 where
  pub each : Each (CubeLine n) rows
  pub cubes : cs ≡ map cube_on rows
  pub count : length cs ≡ length rows

rows_lines : (n : ℕ) (ls : List Line) (cs : Cover) → Each (Each Numeral) ls → worded.Rows n ls cs → RowsAre n (map numbers ls) cs
rows_lines n [] [] ns h = record { each = tt; cubes = refl; count = refl }
rows_lines n [] (c ∷ cs) ns h = absurd h
rows_lines n (l ∷ ls) [] ns h = absurd h
rows_lines n (l ∷ ls) (c ∷ cs) ns h =
    let here = row_line n l c ns.0 h.0 in
    let more = rows_lines n ls cs ns.1 h.1 in
    record { each = (here.0, more.each); cubes = ap (λ x. x ∷ cs) here.1 ∙ ap (λ xs. cube_on (numbers l) ∷ xs) more.cubes; count = ap suc more.count }

lines_rows : (n : ℕ) (ls : List Line) → Each (Each Numeral) ls → Each (CubeLine n) (map numbers ls) → worded.Rows n ls (map cube_on (map numbers ls))
lines_rows n [] ns h = tt
lines_rows n (l ∷ ls) ns h = (line_row n l ns.0 h.0, lines_rows n ls ns.1 h.1)

to_lines : (n most : ℕ) (ls : List Line) (cs : Cover) → Each (Each Numeral) ls → worded.Lines n most ls cs → Lines n most (map numbers ls) × (cs ≡ map cube_on (drop 2 (map numbers ls)))
to_lines n most [] cs ns h = absurd h
to_lines n most (f ∷ []) cs ns h = absurd h.1
to_lines n most (f ∷ s ∷ ls) cs ns h =
    let rows = rows_lines n ls cs ns.1.1 h.1.2 in
    let few : length (map numbers ls) ≤ most = omega (arith, rows.count, h.1.1) in
    ((alone_number f n ns.0 h.0, alone_number s (length cs) ns.1.0 h.1.0 ∙ ap (λ k. pos k ∷ []) rows.count, few, rows.each), rows.cubes)

from_lines : (n most : ℕ) (ls : List Line) → Each (Each Numeral) ls → Lines n most (map numbers ls) → worded.Lines n most ls (map cube_on (drop 2 (map numbers ls)))
from_lines n most [] ns h = absurd h
from_lines n most (f ∷ []) ns h = absurd h
from_lines n most (f ∷ s ∷ ls) ns h =
    let many = length-map (map numbers ls) cube_on in
    let few : length (map cube_on (map numbers ls)) ≤ most = omega (arith, many, h.2) in
    (number_alone f n ns.0 h.0, (number_alone s (length (map cube_on (map numbers ls))) ns.1.0 (h.1 ∙ ap (λ k. pos k ∷ []) (sym many)), few, lines_rows n ls ns.1.1 h.3))

pub sheet_from_worded : (n most : ℕ) (text : List ℕ) (cubes : Cover) → Worded n most text cubes → Sheet n most text cubes
sheet_from_worded n most text cubes w =
    let t = to_lines n most (lines_of text) cubes w.numerals w.lines in
    record { short = w.short; numerals = w.numerals; lines = t.0; shows = t.1 }

pub worded_from_sheet : (n most : ℕ) (text : List ℕ) (cubes : Cover) → Sheet n most text cubes → Worded n most text cubes
worded_from_sheet n most text cubes s =
    record { short = s.short; numerals = s.numerals; lines = subst (worded.Lines n most (lines_of text)) (sym s.shows) (from_lines n most (lines_of text) s.numerals s.lines) }

pub sheets_are_read : SheetsAreRead
sheets_are_read n most text cubes =
    let w = worded_are_read n most text cubes in
    (λ e. sheet_from_worded n most text cubes (w.0 e), λ s. w.1 (worded_from_sheet n most text cubes s))

reads_ok : (x : Result Cover Fault) (k : ℕ) (out : Cover) → Reads x (Ok k) out → x ≡ Ok (take k out)
reads_ok (Ok cs) k out h = ap Ok (sym h.1)
reads_ok (Err f) k out h = absurd h

reads_none : (x : Result Cover Fault) (f : Refusal) (out cs : Cover) → Reads x (Err f) out → x ≡ Ok cs → ⊥
reads_none (Ok c) f out cs h e = h
reads_none (Err g) f out cs h e = cc

not_below : (a b : ℕ) → ltb a b ≡ false → b ≤ a
not_below a b e = grind (arith, nat_tests)

pub accepts_from : (n most places : ℕ) (text : List ℕ) (r : Result ℕ Refusal) (out : Cover) → Reads (read_into n most places text) r out → Accepts n most places text r out
accepts_from n most places text (Ok k) out h =
    let q = long_not_ok (ltb places most) _ (read_sheet n most text) (take k out) (reads_ok (read_into n most places text) k out h) in
    (not_below places most q.0, (sheets_are_read n most text (take k out)).0 q.1)
accepts_from n most places text (Err f) out h = λ le cubes s. reads_none (read_into n most places text) f out cubes h (cond-false _ _ _ (le-ltb _ _ le) ∙ (sheets_are_read n most text cubes).1 s)

lines_few : (n most : ℕ) (rows : List (List ℤ)) → Lines n most rows → length (map cube_on (drop 2 rows)) ≤ most
lines_few n most [] h = absurd h
lines_few n most (f ∷ []) h = absurd h
lines_few n most (f ∷ s ∷ rows) h = omega (arith, length-map rows cube_on, h.2)

over_length : (zs : List ℤ) (c : Cube) → length (literals_over zs c) ≡ length c
over_length [] c = refl
over_length (z ∷ zs) c = over_length zs _ ∙ length-set c (variable_of z - 1) (slot_of_literal z)

cube_twenty : (row : List ℤ) → length (cube_on row) ≡ 20
cube_twenty [] = refl
cube_twenty (z ∷ zs) = over_length zs blank_cube

cubes_twenty : (rows : List (List ℤ)) → Each (λ (c : Cube). length c ≡ 20) (map cube_on rows)
cubes_twenty [] = tt
cubes_twenty (row ∷ rows) = (cube_twenty row, cubes_twenty rows)

blank_above_set : (n : ℕ) (c : Cube) (i : ℕ) (v : Slot) → i < n → blank_above n (set c i v) ≡ set (blank_above n c) i v
blank_above_set n [] i v h = refl
blank_above_set zero (x ∷ c) i v h = absurd (omega arith)
blank_above_set (suc n) (x ∷ c) zero v h = refl
blank_above_set (suc n) (x ∷ c) (suc i) v h = ap (λ l. x ∷ l) (blank_above_set n c i v (omega arith))

blank_above_blank : (n k : ℕ) → blank_above n (replicate k Blank) ≡ replicate k Blank
blank_above_blank n zero = refl
blank_above_blank zero (suc k) = ap (λ l. Blank ∷ l) (blank_above_blank zero k)
blank_above_blank (suc n) (suc k) = ap (λ l. Blank ∷ l) (blank_above_blank n k)

over_blank : (n last : ℕ) (zs : List ℤ) (c : Cube) → Rising n last zs → blank_above n c ≡ c → blank_above n (literals_over zs c) ≡ literals_over zs c
over_blank n last [] c h e = e
over_blank n last (z ∷ zs) c h e =
    let inside : variable_of z - 1 < n = omega (arith, h.0, h.1) in
    over_blank n (variable_of z) zs _ h.2 (blank_above_set n c (variable_of z - 1) (slot_of_literal z) inside ∙ ap (λ x. set x (variable_of z - 1) (slot_of_literal z)) e)

line_blank : (n : ℕ) (row : List ℤ) → CubeLine n row → blank_above n (cube_on row) ≡ cube_on row
line_blank n [] h = absurd h
line_blank n (count ∷ zs) h = over_blank n 0 zs blank_cube h.1 (blank_above_blank n 20)

lines_blank : (n : ℕ) (rows : List (List ℤ)) → Each (CubeLine n) rows → map (blank_above n) (map cube_on rows) ≡ map cube_on rows
lines_blank n [] h = refl
lines_blank n (row ∷ rows) h = ap (λ c. c ∷ map (blank_above n) (map cube_on rows)) (line_blank n row h.0) ∙ ap (λ cs. cube_on row ∷ cs) (lines_blank n rows h.1)

shown_blank : (n most : ℕ) (rows : List (List ℤ)) → Lines n most rows → map (blank_above n) (map cube_on (drop 2 rows)) ≡ map cube_on (drop 2 rows)
shown_blank n most [] h = absurd h
shown_blank n most (f ∷ []) h = absurd h
shown_blank n most (f ∷ s ∷ rows) h = lines_blank n rows h.3

module _ (n most : ℕ) (text : List ℕ) (cubes : Cover) (s : Sheet n most text cubes) where
  pub sheet_few : length cubes ≤ most
  sheet_few = subst (λ cs. length cs ≤ most) (sym s.shows) (lines_few n most (numbers_on text) s.lines)

  pub sheet_twenty : Each (λ (c : Cube). length c ≡ 20) cubes
  sheet_twenty = subst (Each (λ (c : Cube). length c ≡ 20)) (sym s.shows) (cubes_twenty (drop 2 (numbers_on text)))

  pub sheet_blank : map (blank_above n) cubes ≡ cubes
  sheet_blank = subst (λ cs. map (blank_above n) cs ≡ cs) (sym s.shows) (shown_blank n most (numbers_on text) s.lines)

-- a text shows one list of cubes, whatever the shape that it is read in
pub sheet_one : (n most m many : ℕ) (text : List ℕ) (cubes others : Cover) → Sheet n most text cubes → Sheet m many text others → cubes ≡ others
sheet_one n most m many text cubes others s t = s.shows ∙ sym t.shows
