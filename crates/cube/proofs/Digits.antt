-- The bit operations digit by digit, in base 2, and a rule on digits proved at each of them. Assumes nothing.
use Rattle.std.proofs.Common.{◌≡◌, ℕ, zero, suc, ◌+◌, ◌*◌, ◌/◌, ◌%◌, ◌^◌, ◌<◌, ◌&&◌, eqb, ◌⊎◌, sym, refl, ap, ◌∙◌, subst, ap₂, inl, inr, ⊎_elim, mul-one, div-one, arith}
use lib.Bits.{bit_and, bit_or, bit_xor, xor_zero_r, xor_lt, and_mask, shifted_half, shifted_even, and_shr}
use lib.Bits.{or_shr, xor_shr, and_mod, or_mod, xor_mod}
use Rattle.std.proofs.lemmas.Nat.{shl_whole, shr-shr}
use Rattle.std.proofs.lemmas.Bool.Decides.{nat_tests}
use Rattle.std.proofs.lemmas.Bool.{cases_eq}

-- the library's at one digit, with 2 in place of a power, so that `simp` finds them in a goal
pub and_half : (a b : ℕ) → bit_and a b / 2 ≡ bit_and (a / 2) (b / 2)
and_half a b = and_shr a b 1

pub or_half : (a b : ℕ) → bit_or a b / 2 ≡ bit_or (a / 2) (b / 2)
or_half a b = or_shr a b 1

pub xor_half : (a b : ℕ) → bit_xor a b / 2 ≡ bit_xor (a / 2) (b / 2)
xor_half a b = xor_shr a b 1

pub and_odd : (a b : ℕ) → bit_and a b % 2 ≡ bit_and (a % 2) (b % 2)
and_odd a b = and_mod a b 1

pub or_odd : (a b : ℕ) → bit_or a b % 2 ≡ bit_or (a % 2) (b % 2)
or_odd a b = or_mod a b 1

pub xor_odd : (a b : ℕ) → bit_xor a b % 2 ≡ bit_xor (a % 2) (b % 2)
xor_odd a b = xor_mod a b 1

-- the word whose n low digits are all 1
abbrev pub ones : ℕ → ℕ
ones zero = 0
ones (suc n) = ones n * 2 + 1

pub ones_half : (n : ℕ) → (ones n * 2 + 1) / 2 ≡ ones n
ones_half n = omega arith

pub ones_odd : (n : ℕ) → (ones n * 2 + 1) % 2 ≡ 1
ones_odd n = omega arith

-- a word is 0 where its last digit and the rest are
pub zero_digits : (x : ℕ) → eqb x 0 ≡ (eqb (x % 2) 0 && eqb (x / 2) 0)
zero_digits x = grind (arith, nat_tests)

digit : (x : ℕ) → (0 ≡ x % 2) ⊎ (1 ≡ x % 2)
digit x = ⊎_elim (λ e. inl (sym e)) (λ n. inr (omega arith)) (cases_eq (x % 2) 0)

-- a rule at both digits
abbrev pub Both : (ℕ → Type 0) → Type 0
Both P = P 0 × P 1

pub at_digit : (P : ℕ → Type 0) → Both P → (x : ℕ) → P (x % 2)
at_digit P h x =
    ⊎_elim (λ e. subst P e h.0) (λ e. subst P e h.1) (digit x)

pub at_digits_2 : (P : ℕ → ℕ → Type 0) → Both (λ p. Both (P p)) → (x y : ℕ) → P (x % 2) (y % 2)
at_digits_2 P h x y = at_digit (P (x % 2)) (at_digit (λ p. Both (P p)) h x) y

pub at_digits_3 : (P : ℕ → ℕ → ℕ → Type 0) → Both (λ p. Both (λ q. Both (P p q))) → (x y z : ℕ)
    → P (x % 2) (y % 2) (z % 2)
at_digits_3 P h x y z = at_digits_2 (P (x % 2)) (at_digit (λ p. Both (λ q. Both (P p q))) h x) y z

pub at_digits_4 : (P : ℕ → ℕ → ℕ → ℕ → Type 0) → Both (λ p. Both (λ q. Both (λ r. Both (P p q r))))
    → (x y z w : ℕ) → P (x % 2) (y % 2) (z % 2) (w % 2)
at_digits_4 P h x y z w =
    at_digits_3 (P (x % 2)) (at_digit (λ p. Both (λ q. Both (λ r. Both (P p q r)))) h x) y z w

-- ---- one digit

-- a digit read past its lowest k is the same digit of the half, read past one less
pub past_half : (x k : ℕ) → x / 2 ^ suc k ≡ x / 2 / 2 ^ k
past_half x k = ap (λ j. x / 2 ^ j) (omega arith) ∙ sym (shr-shr x 1 k)

-- the word x with the digit d in place of its own at k, as xor writes it
abbrev pub put : ℕ → ℕ → ℕ → ℕ
put x k d = bit_xor x (bit_xor (x / 2 ^ k % 2) d * 2 ^ k)

-- as the code does at 32 bits
pub put_code : (x k d : ℕ) → d < 2 → k < 31
    → bit_xor x ((bit_xor (bit_and (x / 2 ^ k) 1) d * 2 ^ k) % 2 ^ 32) ≡ put x k d
put_code x k d hd hk =
    ap (bit_xor x) (ap (λ e. (bit_xor e d * 2 ^ k) % 2 ^ 32) (and_mask (x / 2 ^ k) 1)
    ∙ shl_whole (bit_xor (x / 2 ^ k % 2) d) 1 k 32 (xor_lt 1 _ _ (omega arith) hd) (omega arith))

put_here : (x d : ℕ) → put x 0 d ≡ bit_xor x (bit_xor (x % 2) d)
put_here x d = ap (bit_xor x) (mul-one _ ∙ ap (λ y. bit_xor (y % 2) d) (div-one x))

pub put_here_half : (x d : ℕ) → d < 2 → put x 0 d / 2 ≡ x / 2
put_here_half x d h =
    let p : x % 2 / 2 ≡ 0 = omega arith in
    let q : d / 2 ≡ 0 = omega arith in
    ap (λ y. y / 2) (put_here x d) ∙ xor_half x (bit_xor (x % 2) d)
    ∙ ap (bit_xor (x / 2)) (xor_half (x % 2) d ∙ ap₂ bit_xor p q) ∙ xor_zero_r (x / 2)

pub put_here_odd : (x d : ℕ) → d < 2 → put x 0 d % 2 ≡ d
put_here_odd x d h =
    let e : d % 2 ≡ d = omega arith in
    ap (λ y. y % 2) (put_here x d) ∙ xor_odd x (bit_xor (x % 2) d)
    ∙ ap (bit_xor (x % 2)) (xor_odd (x % 2) d ∙ ap (λ y. bit_xor y (d % 2)) (omega arith))
    ∙ at_digits_2 (λ p q. bit_xor p (bit_xor p q) ≡ q) ((refl, refl), (refl, refl)) x d ∙ e

pub put_later_half : (x k d : ℕ) → put x (suc k) d / 2 ≡ put (x / 2) k d
put_later_half x k d =
    xor_half x (bit_xor (x / 2 ^ suc k % 2) d * 2 ^ suc k)
    ∙ ap (bit_xor (x / 2)) (shifted_half (bit_xor (x / 2 ^ suc k % 2) d) k
    ∙ ap (λ y. bit_xor (y % 2) d * 2 ^ k) (past_half x k))

pub put_later_odd : (x k d : ℕ) → put x (suc k) d % 2 ≡ x % 2
put_later_odd x k d =
    xor_odd x (bit_xor (x / 2 ^ suc k % 2) d * 2 ^ suc k)
    ∙ ap (bit_xor (x % 2)) (shifted_even (bit_xor (x / 2 ^ suc k % 2) d) k) ∙ xor_zero_r (x % 2)
