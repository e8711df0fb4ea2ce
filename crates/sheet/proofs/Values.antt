-- The reader's value of a numeral is the number that the numeral is.
use Rattle.std.proofs.Common.{◌≡◌, ℕ, zero, suc, ◌+◌, ◌-◌, ◌*◌, ◌^◌, Bool, true, false, cond, eqb, ltb, [], ◌∷◌, length, ℤ, pos, negsuc, sym, refl, ap, ◌∙◌, subst, inl, inr, mul_assoc, add-mul, mul-one, arith}
use native.Mathlib.Nat.{pow-succ'}
use Rattle.std.proofs.lemmas.Bool.Decides.{nat_tests}
use Rattle.cube.specs.declared.slot.Slot.TheVariants.{No, Yes}
use Rattle.text.specs.Numerals.{size_from, size_with, size_in, minus_in, negative}
use Rattle.sheet.specs.Sheet.{Each, Decimal, Numeral, value, number_in, variable_of, slot_of_literal}
use Rattle.text.specs.Words.{Word}
use Rattle.sheet.proofs.Worded.{Number, ticked}

with_decimal : (v d : ℕ) → Decimal d → size_with v d ≡ v * 10 + (d - 48)
with_decimal v d h = grind (arith, nat_tests, h.0, h.1)

size_value : (v : ℕ) (ds : Word) → Each Decimal ds → size_from v ds ≡ v * 10 ^ length ds + value ds
size_value v [] h = omega (arith, mul-one v)
size_value v (d ∷ ds) h =
    let p = 10 ^ length ds in
    let e = with_decimal v d h.0 in
    size_value (size_with v d) ds h.1 ∙ rw e (omega (arith, add-mul (v * 10) (d - 48) p, mul_assoc v 10 p, ap (λ x. v * x) (pow-succ' 10 (length ds))))

-- the accumulating value of digits is their value by weights
pub value_is : (ds : Word) → Each Decimal ds → size_from 0 ds ≡ value ds
value_is ds h = size_value 0 ds h ∙ omega arith

abbrev pub below_zero : ℤ → Bool
below_zero (pos k) = false
below_zero (negsuc k) = true

-- the size and the minus of the number
abbrev Tells : ℕ → Bool → ℤ → Type 0
Tells size minus z = (size ≡ variable_of z) × (minus ≡ below_zero z)

tells_negative : (k : ℕ) → Tells k (ltb 0 k) (negative k)
tells_negative zero = (refl, refl)
tells_negative (suc k) = (refl, grind (arith, nat_tests))

not_minus : (b : ℕ) → Decimal b → eqb b 45 ≡ false
not_minus b d = grind (arith, nat_tests, d.0, d.1)

pub numeral_tells : (w : Word) → Numeral w → Tells (size_in w) (minus_in w) (number_in w)
numeral_tells [] h = absurd h
numeral_tells (b ∷ ds) (inl h) =
    subst (λ x. Tells (size_in (x ∷ ds)) (minus_in (x ∷ ds)) (number_in (x ∷ ds))) (sym h.0)
    (subst (λ k. Tells (size_from 0 ds) (ltb 0 (size_from 0 ds)) (negative k)) (value_is ds h.1.each) (tells_negative (size_from 0 ds)))
numeral_tells (b ∷ ds) (inr h) =
    let e = not_minus b h.each.0 in
    rw e (value_is (b ∷ ds) h.each, refl)

number_at : (z : ℤ) (k : ℕ) → below_zero z ≡ false → variable_of z ≡ k → z ≡ pos k
number_at (pos j) k e f = ap pos f
number_at (negsuc j) k e f = let o : ◌≡◌ {A = ℕ} 0 1 = cc in absurd (omega arith)

module _ (w : Word) (n : Numeral w) where
  pub number_is : (k : ℕ) → Number w k → number_in w ≡ pos k
  number_is k h = let t = numeral_tells w n in number_at (number_in w) k (sym t.1 ∙ h.0) (sym t.0 ∙ h.1)

  pub is_number : (k : ℕ) → number_in w ≡ pos k → Number w k
  is_number k e = let t = numeral_tells w n in (t.1 ∙ ap below_zero e, t.0 ∙ ap variable_of e)

ticked_of : (z : ℤ) → cond (below_zero z) No Yes ≡ slot_of_literal z
ticked_of (pos k) = refl
ticked_of (negsuc k) = refl

pub ticked_is : (w : Word) → Numeral w → ticked w ≡ slot_of_literal (number_in w)
ticked_is w n = ap (λ m. cond m No Yes) (numeral_tells w n).1 ∙ ticked_of (number_in w)
