-- What is written is a sheet of the cubes, and is read as them.
use Rattle.std.proofs.Common.{◌≡◌, ℕ, zero, suc, ◌+◌, ◌<◌, ◌≤◌, List, [], ◌∷◌, ◌++◌, map, length, take, drop, Ok, Err, Result, refl, ap, ◌∙◌, arith}
use Rattle.std.proofs.Math.Seq.{take-append_seam}
use Rattle.cube.specs.declared.refusal.Refusal.{Refusal}
use Rattle.cube.specs.declared.slot.Slot.TheVariants.{No, Yes, Blank}
use Rattle.cube.specs.Slots.{Cube, Cover, blank_above}
use Rattle.sheet.specs.Reading.{read_sheet}
use Rattle.sheet.specs.Writing.{write_sheet, Writes}
use Rattle.sheet.specs.Trip.{Wrote, Returns}
use Rattle.sheet.proofs.Lines.{sheet_long}
use Rattle.sheet.proofs.Trips.{Under, Good, sheets_return}
use Rattle.sheet.proofs.Sheets.{sheets_are_read}

pub length_above : (n : ℕ) (c : Cube) → length (blank_above n c) ≡ length c
length_above n [] = refl
length_above zero (v ∷ c) = ap suc (length_above zero c)
length_above (suc n) (v ∷ c) = ap suc (length_above n c)

under_none : (n k : ℕ) (c : Cube) → Under n k (blank_above zero c)
under_none n k [] = tt
under_none n k (v ∷ c) = under_none n (k + 1) c

pub under_above : (n m k : ℕ) (c : Cube) → k + m ≡ n + 1 → Under n k (blank_above m c)
under_above n m k [] e = tt
under_above n zero k (v ∷ c) e = under_none n (k + 1) c
under_above n (suc m) k (No ∷ c) e = (omega arith, under_above n m (k + 1) c (omega arith))
under_above n (suc m) k (Yes ∷ c) e = (omega arith, under_above n m (k + 1) c (omega arith))
under_above n (suc m) k (Blank ∷ c) e = under_above n m (k + 1) c (omega arith)

pub good_above : {X : Type 0} (n : ℕ) (f : X → Cube) (xs : List X) → ((x : X) → length (f x) ≡ 20) → Good n (map (blank_above n) (map f xs))
good_above n f [] h = tt
good_above n f (x ∷ xs) h = (length_above n (f x) ∙ h x, under_above n n 1 (f x) (omega arith), good_above n f xs h)

pub returns_from : (n : ℕ) (cs : Cover) (out out' : List ℕ) (r : Result ℕ Refusal) → n ≤ 20 → Good n cs → Writes (write_sheet n cs) out r out' → Returns n cs r out'
returns_from n cs out out' (Err f) top good w = tt
returns_from n cs out out' (Ok k) top good w =
    let text = write_sheet n cs in
    let few : length cs < 100000 = omega (arith, w.1, sheet_long n cs) in
    let front : take k out' ≡ text = ap (take k) w.3 ∙ ap (λ i. take i (text ++ drop k out)) w.2 ∙ take-append_seam text (drop k out) in
    λ most room. ap (read_sheet n most) front ∙ sheets_return n most cs top room few good w.1

pub wrote_from : (n : ℕ) (cs : Cover) (out : List ℕ) (r : Result ℕ Refusal) → Returns n cs r out → Wrote n cs r out
wrote_from n cs out (Err f) h = tt
wrote_from n cs out (Ok k) h = (sheets_are_read n (length cs) (take k out) cs).0 (h (length cs) (omega arith))
