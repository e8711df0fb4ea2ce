-- The operations on one word of two-bit fields, against the slots that it means. Assumes nothing.
use Rattle.std.proofs.Common.{◌≡◌, ℕ, zero, suc, ◌+◌, ◌-◌, ◌*◌, ◌/◌, ◌%◌, ◌^◌, ◌<◌, ◌≤◌, Bool, true, ◌&&◌, eqb, ◌∷◌, get_or, set, sym, refl, ap, ◌∙◌, subst, ap₂, le_of_suc-le-suc, not-suc-le-zero, mul_assoc, mul-one, div-one, arith}
use lib.Bits.{bit_and, bit_or, bit_xor, and_zero_r, and_mask, xor_zero_r, xor_lt}
use Rattle.std.proofs.lemmas.Bool.{eqb-true}
use Rattle.std.proofs.lemmas.Nat.{field_of, shl_whole, shr-shr, pow-add}
use Rattle.cube.specs.declared.slot.Slot.TheVariants.{Blank}
use Rattle.cube.specs.Says.{bits, slot_says, cube_says}
use Rattle.cube.specs.Slots.{slot_at, with_slot, slot_covers, cube_covers, prepend, slot_meet, cube_meet}
use Rattle.positional.specs.Fields.{field_slot, word_slots, filled_field, filled_word, spread_word, state_pattern}
use Rattle.positional.specs.Fields.{ProperWord}
use Rattle.cube.proofs.Digits.{or_odd, Both, at_digit}
use Rattle.std.specs.Bool.{then_some}
use Rattle.cube.proofs.Meets.{prepend_then_some}
use Rattle.positional.proofs.Quads.{and_quarter, or_quarter, xor_quarter, and_quad, or_quad, xor_quad, same_quads}
use Rattle.positional.proofs.Quads.{eqb_quads, at_quad, at_quads_2}

-- the word whose n lowest fields are all d
abbrev pub fields : ℕ → ℕ → ℕ
fields d zero = 0
fields d (suc n) = fields d n * 4 + d

-- ---- the test that no field is 00

abbrev pub full : ℕ → ℕ → ℕ
full m w = bit_and (bit_or w (w / 2)) m

full_quarter : (m w : ℕ) → full m w / 4 ≡ full (m / 4) (w / 4)
full_quarter m w =
    let e : w / 2 / 4 ≡ w / 4 / 2 = omega arith in
    and_quarter (bit_or w (w / 2)) m
    ∙ ap (λ x. bit_and x (m / 4)) (or_quarter w (w / 2) ∙ ap (bit_or (w / 4)) e)

-- of the half only the digit that stays in the field counts
full_quad : (m w : ℕ) → m % 4 ≡ 1 → full m w % 4 ≡ full 1 (w % 4)
full_quad m w h =
    let g : w / 2 % 4 % 2 ≡ w / 2 % 2 % 2 = omega arith in
    let f : w / 2 % 4 % 2 ≡ w % 4 / 2 % 2 = g ∙ ap (λ x. x % 2) (sym (field_of w 1 1)) in
    and_quad (bit_or w (w / 2)) m ∙ ap₂ bit_and (or_quad w (w / 2)) h
    ∙ and_mask (bit_or (w % 4) (w / 2 % 4)) 1 ∙ or_odd (w % 4) (w / 2 % 4) ∙ ap (bit_or (w % 4 % 2)) f
    ∙ sym (and_mask (bit_or (w % 4) (w % 4 / 2)) 1 ∙ or_odd (w % 4) (w % 4 / 2))

-- ---- filled

filled_quad : (n w : ℕ) → filled_word (suc n) w % 4 ≡ filled_field (w % 4)
unfolding filled_word
filled_quad n w =
    let h : filled_field (w % 4) < 4 =
    at_quad (λ f. filled_field f < 4) (omega arith, omega arith, omega arith, omega arith) w in
    omega arith

filled_quarter : (n w : ℕ) → filled_word (suc n) w / 4 ≡ filled_word n (w / 4)
unfolding filled_word
filled_quarter n w =
    let h : filled_field (w % 4) < 4 =
    at_quad (λ f. filled_field f < 4) (omega arith, omega arith, omega arith, omega arith) w in
    omega arith

abbrev empties : ℕ → ℕ → ℕ
empties m w = bit_xor (full m w) m

abbrev fill_by_bits : ℕ → ℕ → ℕ → ℕ
fill_by_bits t m w = bit_or (bit_and w t) (empties m w * 3)

fill_field : (w : ℕ) → bit_or (bit_and (w % 4) 3) (bit_xor (full 1 (w % 4)) 1 * 3) ≡ filled_field (w % 4)
fill_field = at_quad (λ f. bit_or (bit_and f 3) (bit_xor (full 1 f) 1 * 3) ≡ filled_field f)
    (refl, refl, refl, refl)

pub fill_code : (n w : ℕ) → fill_by_bits (fields 3 n) (fields 1 n) w ≡ filled_word n w
unfolding filled_word
fill_code zero w = ap₂ (λ x y. bit_or x (bit_xor y 0 * 3)) (and_zero_r w) (and_zero_r (bit_or w (w / 2)))
fill_code (suc n) w =
    let t = fields 3 n * 4 + 3 in
    let m = fields 1 n * 4 + 1 in
    let t4 : t % 4 ≡ 3 = omega arith in
    let tq : t / 4 ≡ fields 3 n = omega arith in
    let m4 : m % 4 ≡ 1 = omega arith in
    let mq : m / 4 ≡ fields 1 n = omega arith in
    let e4 : empties m w % 4 ≡ bit_xor (full 1 (w % 4)) 1 =
    xor_quad (full m w) m ∙ ap₂ bit_xor (full_quad m w m4) m4 in
    let eq : empties m w / 4 ≡ empties (fields 1 n) (w / 4) =
    xor_quarter (full m w) m ∙ ap₂ bit_xor (full_quarter m w ∙ ap (λ x. full x (w / 4)) mq) mq in
    let small : bit_xor (full 1 (w % 4)) 1 < 2 =
    at_quad (λ f. bit_xor (full 1 f) 1 < 2) (omega arith, omega arith, omega arith, omega arith) w in
    let p : empties m w * 3 % 4 ≡ bit_xor (full 1 (w % 4)) 1 * 3 = omega arith in
    let q : empties m w * 3 / 4 ≡ empties (fields 1 n) (w / 4) * 3 = omega arith in
    same_quads (fill_by_bits t m w) (filled_word (suc n) w)
    (or_quad (bit_and w t) (empties m w * 3) ∙ ap₂ bit_or (and_quad w t ∙ ap (bit_and (w % 4)) t4) p
    ∙ fill_field w ∙ sym (filled_quad n w))
    (or_quarter (bit_and w t) (empties m w * 3) ∙ ap₂ bit_or (and_quarter w t ∙ ap (bit_and (w / 4)) tq) q
    ∙ fill_code n (w / 4) ∙ sym (filled_quarter n w))

-- ---- covers

-- b has no bit that a lacks
abbrev pub inside : ℕ → ℕ → Bool
inside a b = eqb (bit_and a b) b

inside_quads : (a b : ℕ) → inside a b ≡ (inside (a % 4) (b % 4) && inside (a / 4) (b / 4))
inside_quads a b = eqb_quads (bit_and a b) b
    ∙ ap₂ (λ x y. eqb x (b % 4) && eqb y (b / 4)) (and_quad a b) (and_quarter a b)

covers_field : (a b : ℕ) → inside (filled_field (a % 4)) (filled_field (b % 4))
    ≡ slot_covers (field_slot (a % 4)) (field_slot (b % 4))
covers_field =
    at_quads_2 (λ p q. inside (filled_field p) (filled_field q) ≡ slot_covers (field_slot p) (field_slot q))
    ((refl, refl, refl, refl), (refl, refl, refl, refl), (refl, refl, refl, refl), (refl, refl, refl, refl))

pub covers_word : (n a b : ℕ)
    → inside (filled_word n a) (filled_word n b) ≡ cube_covers (word_slots n a) (word_slots n b)
unfolding word_slots filled_word
covers_word zero a b = refl
covers_word (suc n) a b =
    inside_quads (filled_word (suc n) a) (filled_word (suc n) b)
    ∙ ap₂ ◌&&◌ (ap₂ inside (filled_quad n a) (filled_quad n b) ∙ covers_field a b)
    (ap₂ inside (filled_quarter n a) (filled_quarter n b) ∙ covers_word n (a / 4) (b / 4))

-- ---- meet

meet_field : (a b : ℕ) → slot_meet (field_slot (a % 4)) (field_slot (b % 4))
    ≡ then_some (eqb (full 1 (bit_and (filled_field (a % 4)) (filled_field (b % 4)))) 1)
    (field_slot (bit_and (filled_field (a % 4)) (filled_field (b % 4))))
meet_field = at_quads_2 (λ p q. slot_meet (field_slot p) (field_slot q)
    ≡ then_some (eqb (full 1 (bit_and (filled_field p) (filled_field q))) 1)
    (field_slot (bit_and (filled_field p) (filled_field q))))
    ((refl, refl, refl, refl), (refl, refl, refl, refl), (refl, refl, refl, refl), (refl, refl, refl, refl))

abbrev pub common : ℕ → ℕ → ℕ → ℕ
common n a b = bit_and (filled_word n a) (filled_word n b)

common_quad : (n a b : ℕ) → common (suc n) a b % 4 ≡ bit_and (filled_field (a % 4)) (filled_field (b % 4))
common_quad n a b = and_quad (filled_word (suc n) a) (filled_word (suc n) b)
    ∙ ap₂ bit_and (filled_quad n a) (filled_quad n b)

common_quarter : (n a b : ℕ) → common (suc n) a b / 4 ≡ common n (a / 4) (b / 4)
common_quarter n a b = and_quarter (filled_word (suc n) a) (filled_word (suc n) b)
    ∙ ap₂ bit_and (filled_quarter n a) (filled_quarter n b)

abbrev pub is_full : ℕ → ℕ → Bool
is_full m w = eqb (full m w) m

full_test : (n w : ℕ) → is_full (fields 1 (suc n)) w ≡ (is_full 1 (w % 4) && is_full (fields 1 n) (w / 4))
full_test n w =
    let m = fields 1 n * 4 + 1 in
    let m4 : m % 4 ≡ 1 = omega arith in
    let mq : m / 4 ≡ fields 1 n = omega arith in
    eqb_quads (full m w) m
    ∙ ap₂ ◌&&◌ (ap₂ eqb (full_quad m w m4) m4) (ap₂ eqb (full_quarter m w ∙ ap (λ x. full x (w / 4)) mq) mq)

pub meet_word : (n a b : ℕ) → cube_meet (word_slots n a) (word_slots n b)
    ≡ then_some (is_full (fields 1 n) (common n a b)) (word_slots n (common n a b))
unfolding word_slots filled_word
meet_word zero a b = refl
meet_word (suc n) a b =
    let w = common (suc n) a b in
    ap₂ prepend (meet_field a b) (meet_word n (a / 4) (b / 4))
    ∙ ap₂ (λ x y. prepend (then_some (is_full 1 x) (field_slot x))
    (then_some (is_full (fields 1 n) y) (word_slots n y)))
    (sym (common_quad n a b)) (sym (common_quarter n a b))
    ∙ prepend_then_some (is_full 1 (w % 4)) (is_full (fields 1 n) (w / 4)) (field_slot (w % 4))
    (word_slots n (w / 4))
    ∙ ap (λ t. then_some t (field_slot (w % 4) ∷ word_slots n (w / 4))) (sym (full_test n w))

-- ---- one field

pub past_quarter : (x k : ℕ) → x / 2 ^ (2 * suc k) ≡ x / 4 / 2 ^ (2 * k)
past_quarter x k = ap (λ j. x / 2 ^ j) (omega arith) ∙ sym (shr-shr x 2 (2 * k))

pub slot_word : (n k w : ℕ) → k < n → field_slot (w / 2 ^ (2 * k) % 4) ≡ get_or (word_slots n w) k Blank
unfolding word_slots
slot_word zero k w h = absurd (not-suc-le-zero h)
slot_word (suc n) zero w h = ap (λ x. field_slot (x % 4)) (div-one w)
slot_word (suc n) (suc k) w h = ap (λ x. field_slot (x % 4)) (past_quarter w k)
    ∙ slot_word n k (w / 4) (le_of_suc-le-suc h)

-- the word x with the field d in place of its own at k, as xor writes it
abbrev pub put_field : ℕ → ℕ → ℕ → ℕ
put_field x k d = bit_xor x (bit_xor (x / 2 ^ (2 * k) % 4) d * 2 ^ (2 * k))

pub put_field_code : (x k d : ℕ) → d < 4 → k < 31
    → bit_xor x ((bit_xor (bit_and (x / 2 ^ (2 * k)) 3) d * 2 ^ (2 * k)) % 2 ^ 64) ≡ put_field x k d
put_field_code x k d hd hk =
    ap (bit_xor x) (ap (λ e. (bit_xor e d * 2 ^ (2 * k)) % 2 ^ 64) (and_mask (x / 2 ^ (2 * k)) 2)
    ∙ shl_whole (bit_xor (x / 2 ^ (2 * k) % 4) d) 2 (2 * k) 64 (xor_lt 2 _ _ (omega arith) hd) (omega arith))

here : (x d : ℕ) → put_field x 0 d ≡ bit_xor x (bit_xor (x % 4) d)
here x d = ap (bit_xor x) (mul-one _ ∙ ap (λ y. bit_xor (y % 4) d) (div-one x))

here_quarter : (x d : ℕ) → d < 4 → put_field x 0 d / 4 ≡ x / 4
here_quarter x d h =
    let p : x % 4 / 4 ≡ 0 = omega arith in
    let q : d / 4 ≡ 0 = omega arith in
    ap (λ y. y / 4) (here x d) ∙ xor_quarter x (bit_xor (x % 4) d)
    ∙ ap (bit_xor (x / 4)) (xor_quarter (x % 4) d ∙ ap₂ bit_xor p q) ∙ xor_zero_r (x / 4)

here_quad : (x d : ℕ) → d < 4 → put_field x 0 d % 4 ≡ d
here_quad x d h =
    let e : d % 4 ≡ d = omega arith in
    let f : x % 4 % 4 ≡ x % 4 = omega arith in
    ap (λ y. y % 4) (here x d) ∙ xor_quad x (bit_xor (x % 4) d)
    ∙ ap (bit_xor (x % 4)) (xor_quad (x % 4) d ∙ ap (λ y. bit_xor y (d % 4)) f)
    ∙ at_quads_2 (λ p q. bit_xor p (bit_xor p q) ≡ q) (
      (refl, refl, refl, refl),
      (refl, refl, refl, refl),
      (refl, refl, refl, refl),
      (refl, refl, refl, refl),
    ) x d ∙ e

pub shifted : (e k : ℕ) → e * 2 ^ (2 * suc k) ≡ e * 2 ^ (2 * k) * 4
shifted e k = ap (λ j. e * 2 ^ j) (omega arith) ∙ ap (λ y. e * y) (pow-add 2 (2 * k) 2)
    ∙ sym (mul_assoc e (2 ^ (2 * k)) 4)

shifted_quarter : (e k : ℕ) → e * 2 ^ (2 * suc k) / 4 ≡ e * 2 ^ (2 * k)
shifted_quarter e k = ap (λ y. y / 4) (shifted e k) ∙ omega arith

shifted_quad : (e k : ℕ) → e * 2 ^ (2 * suc k) % 4 ≡ 0
shifted_quad e k = ap (λ y. y % 4) (shifted e k) ∙ omega arith

later_quarter : (x k d : ℕ) → put_field x (suc k) d / 4 ≡ put_field (x / 4) k d
later_quarter x k d =
    xor_quarter x (bit_xor (x / 2 ^ (2 * suc k) % 4) d * 2 ^ (2 * suc k))
    ∙ ap (bit_xor (x / 4)) (shifted_quarter (bit_xor (x / 2 ^ (2 * suc k) % 4) d) k
    ∙ ap (λ y. bit_xor (y % 4) d * 2 ^ (2 * k)) (past_quarter x k))

later_quad : (x k d : ℕ) → put_field x (suc k) d % 4 ≡ x % 4
later_quad x k d =
    xor_quad x (bit_xor (x / 2 ^ (2 * suc k) % 4) d * 2 ^ (2 * suc k))
    ∙ ap (bit_xor (x % 4)) (shifted_quad (bit_xor (x / 2 ^ (2 * suc k) % 4) d) k) ∙ xor_zero_r (x % 4)

pub set_word : (n k w d : ℕ) → d < 4
    → word_slots n (put_field w k d) ≡ set (word_slots n w) k (field_slot d)
unfolding word_slots
set_word zero k w d h = refl
set_word (suc n) zero w d h =
    ap₂ ◌∷◌ (ap field_slot (here_quad w d h)) (ap (word_slots n) (here_quarter w d h))
set_word (suc n) (suc k) w d h =
    ap₂ ◌∷◌ (ap field_slot (later_quad w k d)) (ap (word_slots n) (later_quarter w k d)
    ∙ set_word n k (w / 4) d h)

-- ---- a state

pub pattern_and_spread : (n s : ℕ) → state_pattern n s + spread_word n s ≡ fields 2 n
unfolding state_pattern spread_word
pattern_and_spread zero s = refl
pattern_and_spread (suc n) s = omega (arith, pattern_and_spread n (s / 2))

pattern_quad : (n s : ℕ) → state_pattern (suc n) s % 4 ≡ 2 - s % 2
unfolding state_pattern
pattern_quad n s = omega arith

pattern_quarter : (n s : ℕ) → state_pattern (suc n) s / 4 ≡ state_pattern n (s / 2)
unfolding state_pattern
pattern_quarter n s = omega arith

says_field : (w s : ℕ)
    → inside (filled_field (w % 4)) (2 - s % 2) ≡ slot_says (field_slot (w % 4)) (eqb (s % 2) 1)
says_field w =
    at_digit (λ d. inside (filled_field (w % 4)) (2 - d) ≡ slot_says (field_slot (w % 4)) (eqb d 1))
    (at_quad (λ f. Both (λ d. inside (filled_field f) (2 - d) ≡ slot_says (field_slot f) (eqb d 1)))
    ((refl, refl), (refl, refl), (refl, refl), (refl, refl)) w)

pub says_word : (n w s : ℕ)
    → inside (filled_word n w) (state_pattern n s) ≡ cube_says (word_slots n w) (bits n s)
unfolding word_slots filled_word state_pattern bits
says_word zero w s = refl
says_word (suc n) w s =
    inside_quads (filled_word (suc n) w) (state_pattern (suc n) s)
    ∙ ap₂ ◌&&◌ (ap₂ inside (filled_quad n w) (pattern_quad n s) ∙ says_field w s)
    (ap₂ inside (filled_quarter n w) (pattern_quarter n s) ∙ says_word n (w / 4) (s / 2))

-- ---- no field is 00

pub proper_blank : (n : ℕ) → ProperWord n (fields 3 n)
unfolding ProperWord
proper_blank zero = tt
proper_blank (suc n) =
    let e : (fields 3 n * 4 + 3) / 4 ≡ fields 3 n = omega arith in
    (omega arith, subst (ProperWord n) (sym e) (proper_blank n))

pub proper_put : (n k w d : ℕ) → 0 < d → d < 4 → ProperWord n w → ProperWord n (put_field w k d)
unfolding ProperWord
proper_put zero k w d some h proper = tt
proper_put (suc n) zero w d some h proper =
    (rw (here_quad w d h) some, rw (here_quarter w d h) proper.1)
proper_put (suc n) (suc k) w d some h proper = (
  rw (later_quad w k d) proper.0,
  rw (later_quarter w k d) (proper_put n k (w / 4) d some h proper.1),
)

some_field : (w : ℕ) → full 1 (w % 4) ≡ 1 → 0 < w % 4
some_field = at_quad (λ f. full 1 f ≡ 1 → 0 < f)
    ((λ e. omega arith), (λ e. omega arith), (λ e. omega arith), (λ e. omega arith))

pub proper_full : (n w : ℕ) → full (fields 1 n) w ≡ fields 1 n → ProperWord n w
unfolding ProperWord
proper_full zero w e = tt
proper_full (suc n) w e =
    let m = fields 1 n * 4 + 1 in
    let m4 : m % 4 ≡ 1 = omega arith in
    let mq : m / 4 ≡ fields 1 n = omega arith in
    let last : full 1 (w % 4) ≡ 1 = sym (full_quad m w m4) ∙ ap (λ x. x % 4) e ∙ m4 in
    let rest : full (m / 4) (w / 4) ≡ m / 4 = sym (full_quarter m w) ∙ ap (λ x. x / 4) e in
    (some_field w last, proper_full n (w / 4) (rw mq at rest))

-- ---- the twenty fields, as the code spells them

pub filled_code : (w : ℕ) → bit_or (bit_and w 0xffffffffff) (bit_xor (bit_and (bit_or w (w / 2)) 0x5555555555) 0x5555555555 * 3)
    ≡ filled_word 20 w
filled_code w = fill_code 20 w

pub spread_fits : (s : ℕ) → spread_word 20 s ≤ 0xaaaaaaaaaa
spread_fits s = omega (arith, pattern_and_spread 20 s)

pub pattern_code : (s : ℕ) → 0xaaaaaaaaaa - spread_word 20 s ≡ state_pattern 20 s
pattern_code s = omega (arith, pattern_and_spread 20 s)

pub meet_code : (a b f g : ℕ) → f ≡ filled_word 20 a → g ≡ filled_word 20 b
    → then_some (is_full 0x5555555555 (bit_and f g)) (word_slots 20 (bit_and f g)) ≡ cube_meet (word_slots 20 a) (word_slots 20 b)
meet_code a b f g p q =
    ap₂ (λ x y. then_some (is_full 0x5555555555 (bit_and x y)) (word_slots 20 (bit_and x y))) p q ∙ sym (meet_word 20 a b)

pub proper_meet_code : (w : ℕ) → is_full 0x5555555555 w ≡ true → ProperWord 20 w
proper_meet_code w e = proper_full 20 w (eqb-true _ _ e)

pub slot_code : (w i : ℕ) → 1 ≤ i → i ≤ 20 → field_slot (bit_and (w / 2 ^ (2 * (i - 1))) 3) ≡ slot_at (word_slots 20 w) i
slot_code w i low high = ap field_slot (and_mask (w / 2 ^ (2 * (i - 1))) 2) ∙ slot_word 20 (i - 1) w (omega arith)

-- the word with the field d at i, as the code writes it
abbrev pub with_field : ℕ → ℕ → ℕ → ℕ
with_field w i d = bit_xor w ((bit_xor (bit_and (w / 2 ^ (2 * (i - 1))) 3) d * 2 ^ (2 * (i - 1))) % 2 ^ 64)

pub set_code : (w i d : ℕ) → i ≤ 20 → d < 4 → word_slots 20 (with_field w i d) ≡ with_slot (word_slots 20 w) i (field_slot d)
set_code w i d high h = ap (word_slots 20) (put_field_code w (i - 1) d h (omega arith)) ∙ set_word 20 (i - 1) w d h

pub set_stays_proper : (w i d : ℕ) → i ≤ 20 → 0 < d → d < 4 → ProperWord 20 w → ProperWord 20 (with_field w i d)
set_stays_proper w i d high some h proper =
    rw (put_field_code w (i - 1) d h (omega arith)) (proper_put 20 (i - 1) w d some h proper)
