-- How long the text of a sheet can be, and that the texts of covers are sheets.
use Rattle.std.proofs.Common.{◌≡◌, ℕ, ◌+◌, ◌*◌, ◌<◌, ◌≤◌, List, [], ◌∷◌, ◌++◌, map, length, decimal, ◌∙◌, subst, arith}
use Rattle.std.proofs.lemmas.Fmt.{length-decimal-le}
use Rattle.std.proofs.lemmas.List.{length-append, length-map}
use Rattle.cube.specs.declared.slot.Slot.{Slot}
use Rattle.cube.specs.declared.slot.Slot.TheVariants.{No, Yes, Blank}
use Rattle.cube.specs.Slots.{Cube, Cover, blank_above}
use Rattle.sheet.specs.Sheet.{Sheet, Each}
use Rattle.sheet.specs.Writing.{filled, write_literal, write_literals, write_cube, write_cubes, write_sheet}
use Rattle.sheet.proofs.Sheets.{sheets_are_read}
use Rattle.sheet.proofs.Trips.{Good, sheets_return}
use Rattle.sheet.proofs.Wrotes.{length_above, under_above}

few_digits : (k : ℕ) → k < 100000 → length (decimal k) ≤ 5
few_digits k h = length-decimal-le 5 k (omega arith) h (omega arith)

filled_few : (c : Cube) → filled c ≤ length c
filled_few [] = omega arith
filled_few (No ∷ c) = let h = filled_few c in omega arith
filled_few (Yes ∷ c) = let h = filled_few c in omega arith
filled_few (Blank ∷ c) = let h = filled_few c in omega arith

literal_short : (k : ℕ) (v : Slot) → k < 100000 → length (write_literal k v) ≤ 7
literal_short k No h = let d = few_digits k h in omega arith
literal_short k Yes h = let d = few_digits k h in omega arith
literal_short k Blank h = omega arith

literals_short : (k : ℕ) (c : Cube) → k + length c < 100000 → length (write_literals k c) ≤ 7 * length c
literals_short k [] h = omega arith
literals_short k (v ∷ c) h =
    let one = literal_short k v (omega arith) in
    let rest = literals_short (k + 1) c (omega arith) in
    omega (arith, length-append (write_literal k v) (write_literals (k + 1) c))

cube_short : (c : Cube) → length c ≡ 20 → length (write_cube c) ≤ 150
cube_short c e =
    let f = filled_few c in
    let d = few_digits (filled c) (omega arith) in
    let l = literals_short 1 c (omega arith) in
    omega (arith, length-append (decimal (filled c)) (write_literals 1 c ++ 10 ∷ []), length-append (write_literals 1 c) (10 ∷ []))

cubes_short : (cs : Cover) → Each (λ c. length c ≡ 20) cs → length (write_cubes cs) ≤ 150 * length cs
cubes_short [] h = omega arith
cubes_short (c ∷ cs) h =
    let one = cube_short c h.0 in
    let rest = cubes_short cs h.1 in
    omega (arith, length-append (write_cube c) (write_cubes cs))

pub sheet_short : (n : ℕ) (cs : Cover) → n ≤ 20 → length cs < 100000 → Each (λ c. length c ≡ 20) cs → length (write_sheet n cs) ≤ 12 + 150 * length cs
sheet_short n cs top few h =
    let a = few_digits n (omega arith) in
    let b = few_digits (length cs) few in
    let r = cubes_short cs h in
    omega (arith, length-append (decimal n) (10 ∷ (decimal (length cs) ++ 10 ∷ write_cubes cs)), length-append (decimal (length cs)) (10 ∷ write_cubes cs))

good_each : (n : ℕ) (cs : Cover) → Each (λ c. length c ≡ 20) cs → Good n (map (blank_above n) cs)
good_each n [] h = tt
good_each n (c ∷ cs) h = (length_above n c ∙ h.0, under_above n n 1 c (omega arith), good_each n cs h.1)

-- the text of at most 256 cubes, Blank above n, is a sheet of them
pub written_is_a_sheet : (n most : ℕ) (cs : Cover) → n ≤ 20 → length cs ≤ 256 → Each (λ c. length c ≡ 20) cs → map (blank_above n) cs ≡ cs → length cs ≤ most
    → Sheet n most (write_sheet n cs) cs
written_is_a_sheet n most cs top few twenty above fits =
    let short = sheet_short n cs top (omega arith) twenty in
    (sheets_are_read n most (write_sheet n cs) cs).0 (sheets_return n most cs top fits (omega arith) (subst (Good n) above (good_each n cs twenty)) (omega arith))

twenty_above : {X : Type 0} (n : ℕ) (f : X → Cube) (xs : List X) → ((x : X) → length (f x) ≡ 20) → Each (λ c. length c ≡ 20) (map (blank_above n) (map f xs))
twenty_above n f [] h = tt
twenty_above n f (x ∷ xs) h = (length_above n (f x) ∙ h x, twenty_above n f xs h)

-- the text of at most 256 cubes of a notation has room in a sheet
pub above_short : {X : Type 0} (n : ℕ) (f : X → Cube) (xs : List X) → n ≤ 20 → length xs ≤ 256 → ((x : X) → length (f x) ≡ 20) → length (write_sheet n (map (blank_above n) (map f xs))) ≤ 65535
above_short n f xs top few twenty =
    let l = length-map (map f xs) (blank_above n) in
    let l' = length-map xs f in
    omega (arith, sheet_short n (map (blank_above n) (map f xs)) top (omega arith) (twenty_above n f xs twenty))
