-- The operations on a pair of words, against the slots that they mean. Assumes nothing.
use Rattle.std.proofs.Common.{◌≡◌, ℕ, zero, suc, ◌+◌, ◌-◌, ◌*◌, ◌/◌, ◌%◌, ◌^◌, ◌<◌, ◌≤◌, ◌&&◌, eqb, [], ◌∷◌, get_or, set, true, sym, refl, ap, ◌∙◌, subst, ap₂, le_of_suc-le-suc, not-suc-le-zero, div-one, arith}
use lib.Bits.{bit_and, bit_or, bit_xor, and_zero_r, and_mask}
use Rattle.std.proofs.lemmas.Bool.{eqb-true}
use Rattle.cube.specs.declared.slot.Slot.TheVariants.{Blank}
use Rattle.cube.specs.Says.{bits, slot_says, cube_says}
use Rattle.cube.specs.Slots.{slot_at, with_slot, slot_covers, cube_covers, prepend, slot_meet, cube_meet}
use Rattle.min_max.specs.MinMax.{slot_of, pair_slots, ProperPair}
use Rattle.std.specs.Bool.{then_some}
use Rattle.cube.proofs.Meets.{prepend_then_some}
use Rattle.cube.proofs.Digits.{put_code, ones, ones_half, ones_odd, zero_digits, and_half, or_half, xor_half, and_odd}
use Rattle.cube.proofs.Digits.{or_odd, xor_odd, put, past_half, put_here_half, put_here_odd, put_later_half}
use Rattle.cube.proofs.Digits.{put_later_odd, at_digits_2, at_digits_3, at_digits_4}

abbrev pub outside : ℕ → ℕ → ℕ → ℕ → ℕ → ℕ
outside m a A b B =
    bit_and (bit_or (bit_and (bit_and a A) (bit_xor (bit_and b B) m))
    (bit_and (bit_or b B) (bit_xor (bit_or a A) m))) m

outside_half : (m a A b B : ℕ) → outside m a A b B / 2 ≡ outside (m / 2) (a / 2) (A / 2) (b / 2) (B / 2)
outside_half m a A b B = simp (and_half, or_half, xor_half)

outside_odd : (m a A b B : ℕ) → outside m a A b B % 2 ≡ outside (m % 2) (a % 2) (A % 2) (b % 2) (B % 2)
outside_odd m a A b B = simp (and_odd, or_odd, xor_odd)

covers_digit : (a A b B : ℕ) → eqb (outside 1 (a % 2) (A % 2) (b % 2) (B % 2)) 0
    ≡ slot_covers (slot_of (a % 2) (A % 2)) (slot_of (b % 2) (B % 2))
covers_digit =
    at_digits_4 (λ p q r s. eqb (outside 1 p q r s) 0 ≡ slot_covers (slot_of p q) (slot_of r s)) (
      (((refl, refl), (refl, refl)), ((refl, refl), (refl, refl))),
      (((refl, refl), (refl, refl)), ((refl, refl), (refl, refl))),
    )

pub covers_pair : (n a A b B : ℕ)
    → eqb (outside (ones n) a A b B) 0 ≡ cube_covers (pair_slots n a A) (pair_slots n b B)
unfolding pair_slots
covers_pair zero a A b B = ap (λ x. eqb x 0) (and_zero_r _)
covers_pair (suc n) a A b B =
    let m = ones n * 2 + 1 in
    let last : outside m a A b B % 2 ≡ outside 1 (a % 2) (A % 2) (b % 2) (B % 2) =
    outside_odd m a A b B ∙ ap (λ x. outside x (a % 2) (A % 2) (b % 2) (B % 2)) (ones_odd n) in
    let rest : outside m a A b B / 2 ≡ outside (ones n) (a / 2) (A / 2) (b / 2) (B / 2) =
    outside_half m a A b B ∙ ap (λ x. outside x (a / 2) (A / 2) (b / 2) (B / 2)) (ones_half n) in
    zero_digits (outside m a A b B)
    ∙ ap₂ ◌&&◌ (ap (λ x. eqb x 0) last ∙ covers_digit a A b B)
    (ap (λ x. eqb x 0) rest ∙ covers_pair n (a / 2) (A / 2) (b / 2) (B / 2))

-- ---- a state

abbrev pub apart : ℕ → ℕ → ℕ → ℕ → ℕ
apart m a A s = bit_and (bit_or (bit_and (bit_and a A) (bit_xor s m)) (bit_and s (bit_xor (bit_or a A) m))) m

apart_half : (m a A s : ℕ) → apart m a A s / 2 ≡ apart (m / 2) (a / 2) (A / 2) (s / 2)
apart_half m a A s = simp (and_half, or_half, xor_half)

apart_odd : (m a A s : ℕ) → apart m a A s % 2 ≡ apart (m % 2) (a % 2) (A % 2) (s % 2)
apart_odd m a A s = simp (and_odd, or_odd, xor_odd)

says_digit : (a A s : ℕ)
    → eqb (apart 1 (a % 2) (A % 2) (s % 2)) 0 ≡ slot_says (slot_of (a % 2) (A % 2)) (eqb (s % 2) 1)
says_digit = at_digits_3 (λ p q r. eqb (apart 1 p q r) 0 ≡ slot_says (slot_of p q) (eqb r 1))
    (((refl, refl), (refl, refl)), ((refl, refl), (refl, refl)))

pub says_pair : (n a A s : ℕ) → eqb (apart (ones n) a A s) 0 ≡ cube_says (pair_slots n a A) (bits n s)
unfolding pair_slots bits
says_pair zero a A s = ap (λ x. eqb x 0) (and_zero_r _)
says_pair (suc n) a A s =
    let m = ones n * 2 + 1 in
    let last : apart m a A s % 2 ≡ apart 1 (a % 2) (A % 2) (s % 2) =
    apart_odd m a A s ∙ ap (λ x. apart x (a % 2) (A % 2) (s % 2)) (ones_odd n) in
    let rest : apart m a A s / 2 ≡ apart (ones n) (a / 2) (A / 2) (s / 2) =
    apart_half m a A s ∙ ap (λ x. apart x (a / 2) (A / 2) (s / 2)) (ones_half n) in
    zero_digits (apart m a A s)
    ∙ ap₂ ◌&&◌ (ap (λ x. eqb x 0) last ∙ says_digit a A s)
    (ap (λ x. eqb x 0) rest ∙ says_pair n (a / 2) (A / 2) (s / 2))

-- ---- a meet

abbrev pub lowest : ℕ → ℕ → ℕ → ℕ → ℕ
lowest a A b B = bit_or (bit_and a A) (bit_and b B)

abbrev pub highest : ℕ → ℕ → ℕ → ℕ → ℕ
highest a A b B = bit_and (bit_or a A) (bit_or b B)

-- the digits that low has and high lacks
abbrev pub over : ℕ → ℕ → ℕ → ℕ
over m low high = bit_and (bit_and low (bit_xor high m)) m

over_half : (m low high : ℕ) → over m low high / 2 ≡ over (m / 2) (low / 2) (high / 2)
over_half m low high = simp (and_half, xor_half)

over_odd : (m low high : ℕ) → over m low high % 2 ≡ over (m % 2) (low % 2) (high % 2)
over_odd m low high = simp (and_odd, xor_odd)

abbrev pub clash : ℕ → ℕ → ℕ → ℕ → ℕ → ℕ
clash m a A b B = over m (lowest a A b B) (highest a A b B)

clash_half : (m a A b B : ℕ) → clash m a A b B / 2 ≡ clash (m / 2) (a / 2) (A / 2) (b / 2) (B / 2)
clash_half m a A b B = simp (and_half, or_half, xor_half)

clash_odd : (m a A b B : ℕ) → clash m a A b B % 2 ≡ clash (m % 2) (a % 2) (A % 2) (b % 2) (B % 2)
clash_odd m a A b B = simp (and_odd, or_odd, xor_odd)

meet_digit : (a A b B : ℕ) → slot_meet (slot_of (a % 2) (A % 2)) (slot_of (b % 2) (B % 2))
    ≡ then_some (eqb (clash 1 (a % 2) (A % 2) (b % 2) (B % 2)) 0)
    (slot_of (lowest (a % 2) (A % 2) (b % 2) (B % 2)) (highest (a % 2) (A % 2) (b % 2) (B % 2)))
meet_digit =
    at_digits_4 (λ p q r s. slot_meet (slot_of p q) (slot_of r s)
    ≡ then_some (eqb (clash 1 p q r s) 0) (slot_of (lowest p q r s) (highest p q r s))) (
      (((refl, refl), (refl, refl)), ((refl, refl), (refl, refl))),
      (((refl, refl), (refl, refl)), ((refl, refl), (refl, refl))),
    )

joined_digit : (n a A b B : ℕ) →
    slot_of (lowest (a % 2) (A % 2) (b % 2) (B % 2)) (highest (a % 2) (A % 2) (b % 2) (B % 2))
    ∷ pair_slots n (lowest (a / 2) (A / 2) (b / 2) (B / 2)) (highest (a / 2) (A / 2) (b / 2) (B / 2))
    ≡ slot_of (lowest a A b B % 2) (highest a A b B % 2)
    ∷ pair_slots n (lowest a A b B / 2) (highest a A b B / 2)
joined_digit n a A b B = simp (and_half, or_half, and_odd, or_odd)

pub meet_pair : (n a A b B : ℕ) → cube_meet (pair_slots n a A) (pair_slots n b B)
    ≡ then_some (eqb (clash (ones n) a A b B) 0) (pair_slots n (lowest a A b B) (highest a A b B))
unfolding pair_slots
meet_pair zero a A b B = ap (λ x. then_some (eqb x 0) []) (sym (and_zero_r _))
meet_pair (suc n) a A b B =
    let m = ones n * 2 + 1 in
    let low = lowest (a % 2) (A % 2) (b % 2) (B % 2) in
    let high = highest (a % 2) (A % 2) (b % 2) (B % 2) in
    let lows = lowest (a / 2) (A / 2) (b / 2) (B / 2) in
    let highs = highest (a / 2) (A / 2) (b / 2) (B / 2) in
    let last : clash m a A b B % 2 ≡ over 1 low high =
    clash_odd m a A b B ∙ ap (λ x. over x low high) (ones_odd n) in
    let rest : clash m a A b B / 2 ≡ over (ones n) lows highs =
    clash_half m a A b B ∙ ap (λ x. over x lows highs) (ones_half n) in
    let zeros : eqb (clash m a A b B) 0 ≡ (eqb (over 1 low high) 0 && eqb (over (ones n) lows highs) 0) =
    zero_digits (clash m a A b B) ∙ ap₂ (λ x y. eqb x 0 && eqb y 0) last rest in
    ap₂ prepend (meet_digit a A b B) (meet_pair n (a / 2) (A / 2) (b / 2) (B / 2))
    ∙ prepend_then_some (eqb (over 1 low high) 0) (eqb (over (ones n) lows highs) 0) (slot_of low high)
    (pair_slots n lows highs)
    ∙ ap₂ then_some (sym zeros) (joined_digit n a A b B)

-- ---- one slot

pub slot_pair : (n k a A : ℕ) → k < n
    → slot_of (a / 2 ^ k % 2) (A / 2 ^ k % 2) ≡ get_or (pair_slots n a A) k Blank
unfolding pair_slots
slot_pair zero k a A h = absurd (not-suc-le-zero h)
slot_pair (suc n) zero a A h = ap₂ (λ x y. slot_of (x % 2) (y % 2)) (div-one a) (div-one A)
slot_pair (suc n) (suc k) a A h =
    ap₂ (λ x y. slot_of (x % 2) (y % 2)) (past_half a k) (past_half A k)
    ∙ slot_pair n k (a / 2) (A / 2) (le_of_suc-le-suc h)

pub set_pair : (n k a A d D : ℕ) → d < 2 → D < 2
    → pair_slots n (put a k d) (put A k D) ≡ set (pair_slots n a A) k (slot_of d D)
unfolding pair_slots
set_pair zero k a A d D h H = refl
set_pair (suc n) zero a A d D h H =
    ap₂ ◌∷◌ (ap₂ slot_of (put_here_odd a d h) (put_here_odd A D H))
    (ap₂ (pair_slots n) (put_here_half a d h) (put_here_half A D H))
set_pair (suc n) (suc k) a A d D h H =
    ap₂ ◌∷◌ (ap₂ slot_of (put_later_odd a k d) (put_later_odd A k D))
    (ap₂ (pair_slots n) (put_later_half a k d) (put_later_half A k D)
    ∙ set_pair n k (a / 2) (A / 2) d D h H)

-- ---- no slot has min 1 and max 0

pub proper_blank : (n : ℕ) → ProperPair n 0 (ones n)
unfolding ProperPair
proper_blank zero = tt
proper_blank (suc n) = (omega arith, subst (ProperPair n 0) (sym (ones_half n)) (proper_blank n))

pub proper_put : (n k a A d D : ℕ) → d ≤ D → D < 2 → ProperPair n a A
    → ProperPair n (put a k d) (put A k D)
unfolding ProperPair
proper_put zero k a A d D le h proper = tt
proper_put (suc n) zero a A d D le h proper =
    let g : d < 2 = omega arith in (
      rw (put_here_odd a d g, put_here_odd A D h) le,
      rw (put_here_half a d g, put_here_half A D h) proper.1,
    )
proper_put (suc n) (suc k) a A d D le h proper = (
  rw (put_later_odd a k d, put_later_odd A k D) proper.0,
  rw (put_later_half a k d, put_later_half A k D) (proper_put n k (a / 2) (A / 2) d D le h proper.1),
)

not_over : (low high : ℕ) → over 1 (low % 2) (high % 2) ≡ 0 → low % 2 ≤ high % 2
not_over = at_digits_2 (λ p q. over 1 p q ≡ 0 → p ≤ q)
    (((λ e. omega arith), (λ e. omega arith)), ((λ e. omega arith), (λ e. omega arith)))

pub proper_meet : (n low high : ℕ) → over (ones n) low high ≡ 0 → ProperPair n low high
unfolding ProperPair
proper_meet zero low high e = tt
proper_meet (suc n) low high e =
    let m = ones n * 2 + 1 in
    let last : over (m % 2) (low % 2) (high % 2) ≡ 0 = sym (over_odd m low high) ∙ ap (λ x. x % 2) e in
    let rest : over (m / 2) (low / 2) (high / 2) ≡ 0 = sym (over_half m low high) ∙ ap (λ x. x / 2) e in
    (not_over low high (rw (ones_odd n) at last), proper_meet n (low / 2) (high / 2) (rw (ones_half n) at rest))

-- ---- the twenty slots, as the code spells them

pub covers_code : (a A b B : ℕ) → eqb (outside 0xfffff a A b B) 0 ≡ cube_covers (pair_slots 20 a A) (pair_slots 20 b B)
covers_code = covers_pair 20

pub says_code : (a A s : ℕ) → eqb (apart 0xfffff a A s) 0 ≡ cube_says (pair_slots 20 a A) (bits 20 s)
says_code = says_pair 20

pub slot_code : (a A i : ℕ) → 1 ≤ i → i ≤ 20
    → slot_of (bit_and (a / 2 ^ (i - 1)) 1) (bit_and (A / 2 ^ (i - 1)) 1) ≡ slot_at (pair_slots 20 a A) i
slot_code a A i low high =
    ap₂ slot_of (and_mask (a / 2 ^ (i - 1)) 1) (and_mask (A / 2 ^ (i - 1)) 1) ∙ slot_pair 20 (i - 1) a A (omega arith)

-- the word with the digit d at i, as the code writes it
abbrev pub with_digit : ℕ → ℕ → ℕ → ℕ
with_digit w i d = bit_xor w ((bit_xor (bit_and (w / 2 ^ (i - 1)) 1) d * 2 ^ (i - 1)) % 2 ^ 32)

pub set_code : (a A i d D : ℕ) → i ≤ 20 → d ≤ D → D < 2
    → pair_slots 20 (with_digit a i d) (with_digit A i D) ≡ with_slot (pair_slots 20 a A) i (slot_of d D)
set_code a A i d D high le h =
    ap₂ (pair_slots 20) (put_code a (i - 1) d (omega arith) (omega arith)) (put_code A (i - 1) D h (omega arith))
    ∙ set_pair 20 (i - 1) a A d D (omega arith) h

pub set_stays_proper : (a A i d D : ℕ) → i ≤ 20 → d ≤ D → D < 2 → ProperPair 20 a A
    → ProperPair 20 (with_digit a i d) (with_digit A i D)
set_stays_proper a A i d D high le h proper =
    let low : d < 2 = omega arith in
    let near : i - 1 < 31 = omega arith in
    rw (put_code a (i - 1) d low near, put_code A (i - 1) D h near) (proper_put 20 (i - 1) a A d D le h proper)

pub meet_code : (a A b B : ℕ) → then_some (eqb (clash 0xfffff a A b B) 0) (pair_slots 20 (lowest a A b B) (highest a A b B))
    ≡ cube_meet (pair_slots 20 a A) (pair_slots 20 b B)
meet_code a A b B = sym (meet_pair 20 a A b B)

pub proper_meet_code : (low high : ℕ) → eqb (over 0xfffff low high) 0 ≡ true → ProperPair 20 low high
proper_meet_code low high e = proper_meet 20 low high (eqb-true _ _ e)
