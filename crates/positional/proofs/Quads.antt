-- The bit operations in base 4, and a rule on digits proved at each of them. Assumes nothing.
use Rattle.std.proofs.Common.{◌≡◌, ℕ, ◌/◌, ◌%◌, ◌&&◌, eqb, ◌⊎◌, sym, subst, inl, inr, ⊎_elim, arith}
use lib.Bits.{bit_and, bit_or, bit_xor, and_shr, or_shr, xor_shr, and_mod, or_mod, xor_mod}
use Rattle.std.proofs.lemmas.Bool.Decides.{nat_tests}
use Rattle.std.proofs.lemmas.Bool.{cases_eq}

pub and_quarter : (a b : ℕ) → bit_and a b / 4 ≡ bit_and (a / 4) (b / 4)
and_quarter a b = and_shr a b 2

pub or_quarter : (a b : ℕ) → bit_or a b / 4 ≡ bit_or (a / 4) (b / 4)
or_quarter a b = or_shr a b 2

pub xor_quarter : (a b : ℕ) → bit_xor a b / 4 ≡ bit_xor (a / 4) (b / 4)
xor_quarter a b = xor_shr a b 2

pub and_quad : (a b : ℕ) → bit_and a b % 4 ≡ bit_and (a % 4) (b % 4)
and_quad a b = and_mod a b 2

pub or_quad : (a b : ℕ) → bit_or a b % 4 ≡ bit_or (a % 4) (b % 4)
or_quad a b = or_mod a b 2

pub xor_quad : (a b : ℕ) → bit_xor a b % 4 ≡ bit_xor (a % 4) (b % 4)
xor_quad a b = xor_mod a b 2

-- two words are equal where their last digits and the rest are
pub same_quads : (x y : ℕ) → x % 4 ≡ y % 4 → x / 4 ≡ y / 4 → x ≡ y
same_quads x y p q = omega arith

pub eqb_quads : (x y : ℕ) → eqb x y ≡ (eqb (x % 4) (y % 4) && eqb (x / 4) (y / 4))
eqb_quads x y = grind (arith, nat_tests)

quad : (x : ℕ) → (0 ≡ x % 4) ⊎ ((1 ≡ x % 4) ⊎ ((2 ≡ x % 4) ⊎ (3 ≡ x % 4)))
quad x =
    ⊎_elim (λ e. inl (sym e)) (λ n. inr (
    ⊎_elim (λ e. inl (sym e)) (λ m. inr (
    ⊎_elim (λ e. inl (sym e)) (λ l. inr (omega arith)) (cases_eq (x % 4) 2))) (cases_eq (x % 4) 1)))
    (cases_eq (x % 4) 0)

-- a rule at each digit
abbrev pub Each : (ℕ → Type 0) → Type 0
Each P = P 0 × P 1 × P 2 × P 3

pub at_quad : (P : ℕ → Type 0) → Each P → (x : ℕ) → P (x % 4)
at_quad P h x =
    ⊎_elim (λ e. subst P e h.0)
    (⊎_elim (λ e. subst P e h.1) (⊎_elim (λ e. subst P e h.2) (λ e. subst P e h.3))) (quad x)

pub at_quads_2 : (P : ℕ → ℕ → Type 0) → Each (λ p. Each (P p)) → (x y : ℕ) → P (x % 4) (y % 4)
at_quads_2 P h x y = at_quad (P (x % 4)) (at_quad (λ p. Each (P p)) h x) y
