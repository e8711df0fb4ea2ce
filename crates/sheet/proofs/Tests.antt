-- The tests of a step, as facts about numbers, and what is left of a step after them.
use Rattle.std.proofs.Common.{◌≡◌, ℕ, suc, ◌-◌, ◌<◌, ◌≤◌, Bool, true, false, cond, not, ◌&&◌, ◌||◌, eqb, ltb, leb, Some, Ok, Option, Result, arith}
use Rattle.std.proofs.lemmas.Bool.Decides.{nat_tests}
use Rattle.cube.specs.Refusals.{Fault}
use Rattle.text.specs.Numerals.{size_in, minus_in}
use Rattle.text.specs.Words.{Word}
use Rattle.sheet.specs.declared.reading.ReaderState.{ReaderState}
use Rattle.sheet.specs.declared.reading.Deed.{Deed}
use Rattle.sheet.specs.declared.reading.Deed.TheVariants.{Open, Put}
use Rattle.sheet.specs.Reading.{refuse, on_line}
use Rattle.sheet.proofs.Worded.{ticked}

-- what is left of a step after its first tests
abbrev pub opening : ℕ → ℕ → Word → Result (ReaderState × Option Deed) Fault
opening n left w = Ok (on_line (left - 1) (size_in w) 0, Some Open)

abbrev pub opening? : ℕ → ℕ → Word → ℕ → Result (ReaderState × Option Deed) Fault
opening? n left w at = cond (minus_in w || ltb n (size_in w)) (refuse 32 at) (opening n left w)

abbrev pub putting : ℕ → ℕ → Word → Result (ReaderState × Option Deed) Fault
putting left literals w = Ok (on_line left (literals - 1) (size_in w), Some (Put (size_in w) (ticked w)))

abbrev pub rising? : ℕ → ℕ → ℕ → Word → ℕ → Result (ReaderState × Option Deed) Fault
rising? left literals last w at = cond (leb (size_in w) last) (refuse 34 at) (putting left literals w)

abbrev pub putting? : ℕ → ℕ → ℕ → ℕ → Word → ℕ → Result (ReaderState × Option Deed) Fault
putting? n left literals last w at = cond (eqb (size_in w) 0 || ltb n (size_in w)) (refuse 33 at) (rising? left literals last w at)

module _ (m : Bool) (k n : ℕ) where
  pub is_n : (m || not (eqb k n)) ≡ false → (m ≡ false) × (k ≡ n)
  is_n e = (grind (arith, nat_tests), grind (arith, nat_tests))

  pub n_is : m ≡ false → k ≡ n → (m || not (eqb k n)) ≡ false
  n_is e f = grind (arith, nat_tests)

  pub up_to : (m || ltb n k) ≡ false → (m ≡ false) × (k ≤ n)
  up_to e = (grind (arith, nat_tests), grind (arith, nat_tests))

  pub to_up : m ≡ false → k ≤ n → (m || ltb n k) ≡ false
  to_up e f = grind (arith, nat_tests)

pub variable_in : (k n : ℕ) → (eqb k 0 || ltb n k) ≡ false → (0 < k) × (k ≤ n)
variable_in k n e = (grind (arith, nat_tests), grind (arith, nat_tests))

pub in_variable : (k n : ℕ) → 0 < k → k ≤ n → (eqb k 0 || ltb n k) ≡ false
in_variable k n e f = grind (arith, nat_tests)

pub above : (k last : ℕ) → leb k last ≡ false → last < k
above k last e = grind (arith, nat_tests)

pub below_it : (k last : ℕ) → last < k → leb k last ≡ false
below_it k last e = grind (arith, nat_tests)

pub some : (k : ℕ) → eqb k 0 ≡ false → 0 < k
some k e = grind (arith, nat_tests)

pub none : (k : ℕ) → ltb 0 k ≡ false → k ≡ 0
none k e = grind (arith, nat_tests)

pub zero_is : (k : ℕ) → eqb k 0 ≡ true → 0 ≡ k
zero_is k e = grind (arith, nat_tests)

pub both_zero : (j k : ℕ) → (eqb j 0 && eqb k 0) ≡ true → (0 ≡ j) × (0 ≡ k)
both_zero j k e = (grind (arith, nat_tests), grind (arith, nat_tests))

pub is_zero : (k : ℕ) → 0 ≡ k → eqb k 0 ≡ true
is_zero k e = grind (arith, nat_tests)

pub not_zero : (j k : ℕ) → suc j ≡ k → eqb k 0 ≡ false
not_zero j k e = grind (arith, nat_tests)

pub not_some : (k : ℕ) → 0 ≡ k → ltb 0 k ≡ false
not_some k e = grind (arith, nat_tests)

pub zeros : (j k : ℕ) → 0 ≡ j → 0 ≡ k → (eqb j 0 && eqb k 0) ≡ true
zeros j k e f = grind (arith, nat_tests)

pub short_text : (k : ℕ) → ltb 65535 k ≡ false → k ≤ 65535
short_text k e = grind (arith, nat_tests)
