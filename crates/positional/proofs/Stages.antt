-- Five shifts and masks spread twenty digits apart.
-- Each is linear over `or`, so it is enough to see where each digit goes, which antt computes.
-- Assumes nothing.
use Rattle.std.proofs.Common.{◌≡◌, ℕ, zero, suc, ◌+◌, ◌*◌, ◌/◌, ◌%◌, ◌^◌, ◌<◌, ◌≤◌, Bool, true, ◌&&◌, eqb, sym, refl, ap, ◌∙◌, subst, ap₂, ⊎_elim, add-zero, mod-lt, zero-mul, div-one, arith, lit<, lit≤, pow_pos}
use native.Mathlib.Nat.{mod-one}
use lib.Arith.{half_le}
use lib.Bits.{bit_and, bit_or, or_block, or_comm, or_shifted, and_le_r, and_mask}
use Rattle.std.proofs.lemmas.Nat.{mod-pow-add, shl_whole, pow-add}
use Rattle.std.proofs.lemmas.Bool.{eqb-true, and_parts, cases_eq}
use Rattle.positional.specs.Fields.{spread_word}
use Rattle.cube.proofs.Digits.{and_half, or_half, and_odd, or_odd, past_half, Both, at_digit, at_digits_3}
use Rattle.positional.proofs.Word.{shifted}

-- ---- two expressions of three words that work digit by digit are equal where they are at digits
module _ (F G : ℕ → ℕ → ℕ → ℕ)
    (F-half : (a b c : ℕ) → F a b c / 2 ≡ F (a / 2) (b / 2) (c / 2))
    (G-half : (a b c : ℕ) → G a b c / 2 ≡ G (a / 2) (b / 2) (c / 2))
    (F-odd : (a b c : ℕ) → F a b c % 2 ≡ F (a % 2) (b % 2) (c % 2))
    (G-odd : (a b c : ℕ) → G a b c % 2 ≡ G (a % 2) (b % 2) (c % 2))
    (table : Both (λ p. Both (λ q. Both (λ r. F p q r ≡ G p q r)))) where
  upto : (n a b c : ℕ) → a ≤ n → b ≤ n → c ≤ n → F a b c ≡ G a b c
  upto zero a b c ha hb hc =
      let p : a ≡ 0 = omega arith in
      let q : b ≡ 0 = omega arith in
      let r : c ≡ 0 = omega arith in
      ap (λ x. F x b c) p ∙ ap (λ y. F 0 y c) q ∙ ap (F 0 0) r ∙ table.0.0.0
      ∙ sym (ap (λ x. G x b c) p ∙ ap (λ y. G 0 y c) q ∙ ap (G 0 0) r)
  upto (suc n) a b c ha hb hc =
      let hi : F a b c / 2 ≡ G a b c / 2 =
      F-half a b c ∙ upto n (a / 2) (b / 2) (c / 2) (half_le ha) (half_le hb) (half_le hc) ∙ sym (G-half a b c) in
      let lo : F a b c % 2 ≡ G a b c % 2 =
      F-odd a b c ∙ at_digits_3 (λ p q r. F p q r ≡ G p q r) table a b c ∙ sym (G-odd a b c) in
      omega arith

  pub by_digits : (a b c : ℕ) → F a b c ≡ G a b c
  by_digits a b c = upto (a + b + c) a b c (omega arith) (omega arith) (omega arith)

pub or_assoc : (a b c : ℕ) → bit_or (bit_or a b) c ≡ bit_or a (bit_or b c)
or_assoc = by_digits (λ a b c. bit_or (bit_or a b) c) (λ a b c. bit_or a (bit_or b c))
    (λ a b c. simp or_half) (λ a b c. simp or_half) (λ a b c. simp or_odd) (λ a b c. simp or_odd)
    (((refl, refl), (refl, refl)), ((refl, refl), (refl, refl)))

pub and_or : (a b c : ℕ) → bit_and (bit_or a b) c ≡ bit_or (bit_and a c) (bit_and b c)
and_or = by_digits (λ a b c. bit_and (bit_or a b) c) (λ a b c. bit_or (bit_and a c) (bit_and b c))
    (λ a b c. simp (and_half, or_half)) (λ a b c. simp (and_half, or_half))
    (λ a b c. simp (and_odd, or_odd)) (λ a b c. simp (and_odd, or_odd))
    (((refl, refl), (refl, refl)), ((refl, refl), (refl, refl)))

or_swap : (a b c d : ℕ) → bit_or (bit_or a b) (bit_or c d) ≡ bit_or (bit_or a c) (bit_or b d)
or_swap a b c d =
    or_assoc a b (bit_or c d)
    ∙ ap (bit_or a) (sym (or_assoc b c d) ∙ ap (λ x. bit_or x d) (or_comm b c) ∙ or_assoc c b d)
    ∙ sym (or_assoc a c (bit_or b d))

or_shl : (a b s : ℕ) → bit_or a b * 2 ^ s ≡ bit_or (a * 2 ^ s) (b * 2 ^ s)
or_shl a b s =
    sym (ap₂ bit_or (sym (add-zero (a * 2 ^ s))) (sym (add-zero (b * 2 ^ s)))
    ∙ or_block s a b 0 0 (pow_pos s) (pow_pos s) ∙ add-zero _)

-- ---- one stage, and all five

abbrev pub stage : ℕ → ℕ → ℕ → ℕ
stage s m x = bit_and (bit_or x (x * 2 ^ s)) m

-- as the code does at 64 bits
pub stage_code : (j s m x : ℕ) → x < 2 ^ j → j + s ≤ 64
    → bit_and (bit_or x ((x * 2 ^ s) % 2 ^ 64)) m ≡ stage s m x
stage_code j s m x h k = ap (λ y. bit_and (bit_or x y) m) (shl_whole x j s 64 h k)

stage_or : (s m a b : ℕ) → stage s m (bit_or a b) ≡ bit_or (stage s m a) (stage s m b)
stage_or s m a b =
    ap (λ y. bit_and (bit_or (bit_or a b) y) m) (or_shl a b s)
    ∙ ap (λ y. bit_and y m) (or_swap a b (a * 2 ^ s) (b * 2 ^ s))
    ∙ and_or (bit_or a (a * 2 ^ s)) (bit_or b (b * 2 ^ s)) m

unfoldable pub stages : ℕ → ℕ
stages x =
    stage 1 0x5555555555
    (stage 2 0x3333333333 (stage 4 0xf0f0f0f0f (stage 8 0xf00ff00ff (stage 16 0xf0000ffff x))))

stages_or : (a b : ℕ) → stages (bit_or a b) ≡ bit_or (stages a) (stages b)
unfolding stages
stages_or a b = simp stage_or

-- ---- where each digit goes

abbrev below : (ℕ → Bool) → ℕ → Bool
below f zero = true
below f (suc n) = f n && below f n

at_below : (f : ℕ → Bool) (n k : ℕ) → below f n ≡ true → k < n → f k ≡ true
at_below f zero k t h = absurd (omega arith)
at_below f (suc n) k t h =
    let parts = and_parts (f n) (below f n) t in
    ⊎_elim (λ e. subst (λ x. f x ≡ true) (sym e) parts.0) (λ ne. at_below f n k parts.1 (omega arith))
    (cases_eq k n)

abbrev lands : ℕ → Bool
lands n = eqb (stages (1 * 2 ^ n)) (1 * 2 ^ (2 * n))

one_lands : (n : ℕ) → n < 20 → stages (1 * 2 ^ n) ≡ 1 * 2 ^ (2 * n)
unfolding stages
one_lands n h = eqb-true _ _ (at_below lands 20 n refl h)

digit_lands : (n x : ℕ) → n < 20 → stages (x % 2 * 2 ^ n) ≡ x % 2 * 2 ^ (2 * n)
unfolding stages
digit_lands n x h =
    let none : stages (0 * 2 ^ n) ≡ 0 * 2 ^ (2 * n) = ap stages (zero-mul (2 ^ n)) ∙ sym (zero-mul (2 ^ (2 * n))) in
    at_digit (λ d. stages (d * 2 ^ n) ≡ d * 2 ^ (2 * n)) (none, one_lands n h) x

-- ---- the word as the sum of its digits, the highest first

spread_more : (n s : ℕ) → spread_word (suc n) s ≡ s / 2 ^ n % 2 * 2 ^ (2 * n) + spread_word n s
unfolding spread_word
spread_more zero s = let e : s / 1 ≡ s = div-one s in omega (arith, e)
spread_more (suc n) s =
    let ih = spread_more n (s / 2) in
    let e = shifted (s / 2 ^ suc n % 2) n in
    let f = ap (λ y. y % 2 * 2 ^ (2 * n)) (past_half s n) in
    omega (arith, ih, e, f)

spread_below : (n s : ℕ) → spread_word n s < 2 ^ (2 * n)
unfolding spread_word
spread_below zero s = omega arith
spread_below (suc n) s =
    let p : 2 ^ (2 * suc n) ≡ 2 ^ (2 * n) * 4 = ap (λ j. 2 ^ j) (omega arith) ∙ pow-add 2 (2 * n) 2 in
    omega (arith, p, spread_below n (s / 2))

spreads : (n s : ℕ) → n ≤ 20 → stages (s % 2 ^ n) ≡ spread_word n s
unfolding spread_word stages
spreads zero s h = ap stages (mod-one s)
spreads (suc n) s h =
    let e = s / 2 ^ n % 2 in
    let one : suc n ≡ 1 + n = omega arith in
    let low : s % 2 ^ n < 2 ^ n = mod-lt s (pow_pos n) in
    ap stages (ap (λ j. s % 2 ^ j) one ∙ mod-pow-add s 1 n ∙ sym (or_shifted e n (s % 2 ^ n) low))
    ∙ stages_or (e * 2 ^ n) (s % 2 ^ n)
    ∙ ap₂ bit_or (digit_lands n (s / 2 ^ n) (omega arith)) (spreads n s (omega arith))
    ∙ or_shifted e (2 * n) (spread_word n s) (spread_below n s)
    ∙ sym (spread_more n s)

pub stages_spread : (s : ℕ) → stages (s % 2 ^ 20) ≡ spread_word 20 s
stages_spread s = spreads 20 s (omega arith)

-- ---- the code

abbrev pub stage64 : ℕ → ℕ → ℕ → ℕ
stage64 s m x = bit_and (bit_or x ((x * 2 ^ s) % 2 ^ 64)) m

-- a stage of the code after others, and where it ends
after : (j s m x y : ℕ) → x ≡ y → x < 2 ^ j → j + s ≤ 64 → stage64 s m x ≡ stage s m y
after j s m x y e h k = stage_code j s m x h k ∙ ap (stage s m) e

masked : (s m x k : ℕ) → m < 2 ^ k → stage64 s m x < 2 ^ k
masked s m x k h = omega (arith, and_le_r (bit_or x ((x * 2 ^ s) % 2 ^ 64)) m)

pub spread_code : (s : ℕ)
    → stage64 1 0x5555555555 (stage64 2 0x3333333333 (stage64 4 0xf0f0f0f0f
    (stage64 8 0xf00ff00ff (stage64 16 0xf0000ffff (bit_and s 0xfffff)))))
    ≡ spread_word 20 s
unfolding stages
spread_code s =
    let x0 = bit_and s 0xfffff in
    let e0 : x0 ≡ s % 2 ^ 20 = and_mask s 20 in
    let l0 : x0 < 2 ^ 20 = omega (arith, and_le_r s 0xfffff) in
    let x1 = stage64 16 0xf0000ffff x0 in
    let e1 = after 20 16 0xf0000ffff x0 _ e0 l0 (lit≤ tt) in
    let x2 = stage64 8 0xf00ff00ff x1 in
    let e2 = after 36 8 0xf00ff00ff x1 _ e1 (masked 16 0xf0000ffff x0 36 (lit< tt)) (lit≤ tt) in
    let x3 = stage64 4 0xf0f0f0f0f x2 in
    let e3 = after 36 4 0xf0f0f0f0f x2 _ e2 (masked 8 0xf00ff00ff x1 36 (lit< tt)) (lit≤ tt) in
    let x4 = stage64 2 0x3333333333 x3 in
    let e4 = after 36 2 0x3333333333 x3 _ e3 (masked 4 0xf0f0f0f0f x2 36 (lit< tt)) (lit≤ tt) in
    after 38 1 0x5555555555 x4 _ e4 (masked 2 0x3333333333 x3 38 (lit< tt)) (lit≤ tt) ∙ stages_spread s
