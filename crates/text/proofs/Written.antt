-- A written number is read again.
use Rattle.std.proofs.Common.{◌≡◌, ℕ, suc, ◌+◌, ◌-◌, ◌*◌, ◌/◌, ◌%◌, ◌^◌, ◌<◌, ◌≤◌, true, false, eqb, ◌⊎◌, List, [], ◌∷◌, ◌++◌, length, get_or, decimal, refl, ap, ◌∙◌, inl, inr, append_assoc, append-nil, add-zero, arith}
use Rattle.std.proofs.lemmas.Bool.{lt-ltb, le-ltb, cond-false, and_left}
use Rattle.std.proofs.lemmas.Bool.Decides.{nat_tests}
use Rattle.std.proofs.lemmas.Fmt.{decimal_by_steps, length-decimal-le, decimal_nonempty}
use Rattle.text.specs.declared.bytes.Kind.TheVariants.{Separator, LineFeed, Digit}
use Rattle.text.specs.Bytes.{kind}
use Rattle.text.specs.Tokens.{num, tok, stream, between, minus, digits, closed}
use Rattle.text.specs.Numerals.{size_from, size_with, size_in, minus_in}

-- a byte that may follow a number
abbrev pub Ends : ℕ → Type 0
Ends b = (kind b ≡ Separator) ⊎ (kind b ≡ LineFeed)

abbrev AllDigits : List ℕ → Type 0
AllDigits [] = Unit {0}
AllDigits (d ∷ ds) = (kind d ≡ Digit) × AllDigits ds

digits_run : (start first p : ℕ) (acc ds rest : List ℕ) → AllDigits ds → stream (digits start first acc) p (ds ++ rest) ≡ stream (digits start first (acc ++ ds)) (p + length ds) rest
digits_run start first p acc [] rest h = rw (append-nil, add-zero)
digits_run start first p acc (d ∷ ds) rest h =
    let e : p + 1 + length ds ≡ p + suc (length ds) = omega arith in
    rw (stream, h.0) (digits_run start first (p + 1) (acc ++ d ∷ []) ds rest h.1 ∙ rw (append_assoc, e))

closes_at : (start first p b : ℕ) (text rest : List ℕ) → Ends b → stream (digits start first text) p (b ∷ rest) ≡ closed start first text p (stream between p (b ∷ rest))
closes_at start first p b text rest (inl e) = rw (stream, e)
closes_at start first p b text rest (inr e) = rw (stream, e)

size_push : (v : ℕ) (ds : List ℕ) (d : ℕ) → size_from v (ds ++ d ∷ []) ≡ size_with (size_from v ds) d
size_push v [] d = refl
size_push v (x ∷ ds) d = size_push (size_with v x) ds d

all_push : (ds : List ℕ) (d : ℕ) → AllDigits ds → kind d ≡ Digit → AllDigits (ds ++ d ∷ [])
all_push [] d h k = (k, tt)
all_push (x ∷ ds) d h k = (h.0, all_push ds d h.1 k)

is_digit : (d : ℕ) → d < 10 → kind (48 + d) ≡ Digit
is_digit d h = grind (arith, nat_tests)

with_digit : (v d : ℕ) → d < 10 → size_with v (48 + d) ≡ v * 10 + d
with_digit v d h = grind (arith, nat_tests)

not_minus : (d : ℕ) → kind d ≡ Digit → eqb d 45 ≡ false
not_minus d e = grind (arith, nat_tests)

-- digits that write n
abbrev Writes : ℕ → List ℕ → Type 0
Writes n ds = AllDigits ds × (size_from 0 ds ≡ n)

writes_decimal : (n : ℕ) → n < 2 ^ 64 → Writes n (decimal n)
writes_decimal =
    decimal_by_steps Writes
    (λ n h. ((is_digit n h, tt), with_digit 0 n h ∙ omega arith))
    (λ n ds h w.
    let r : n % 10 < 10 = omega arith in
    (all_push ds (48 + n % 10) w.0 (is_digit (n % 10) r), size_push 0 ds (48 + n % 10) ∙ ap (λ v. size_with v (48 + n % 10)) w.1 ∙ with_digit (n / 10) (n % 10) r ∙ omega arith))

number_lexed : (ds : List ℕ) (p b : ℕ) (rest : List ℕ) → AllDigits ds → 0 < length ds → length ds ≤ 5 → Ends b → stream between p (ds ++ b ∷ rest) ≡ tok (num ds p) (stream between (p + length ds) (b ∷ rest))
number_lexed [] p b rest h some few k = absurd (omega arith)
number_lexed (d ∷ ds) p b rest h some few k =
    let e : p + 1 + length ds ≡ p + suc (length ds) = omega arith in
    let m : p + suc (length ds) - p ≤ 5 = omega arith in
    rw (stream, h.0) (digits_run p p (p + 1) (d ∷ []) ds (b ∷ rest) h.1 ∙ rw e (closes_at p p (p + suc (length ds)) b (d ∷ ds) rest k ∙ cond-false _ _ _ (le-ltb _ _ m)))

first_not_minus : (ds : List ℕ) → AllDigits ds → eqb (get_or ds 0 0) 45 ≡ false
first_not_minus [] h = refl
first_not_minus (d ∷ ds) h = not_minus d h.0

-- a text that may follow a number
abbrev pub Begins : List ℕ → Type 0
Begins [] = ⊥
Begins (b ∷ rest) = Ends b

minus_lexed : (ds : List ℕ) (at p b : ℕ) (rest : List ℕ) → AllDigits ds → 0 < length ds → length ds ≤ 5 → Ends b → stream (minus at) p (ds ++ b ∷ rest) ≡ tok (num (45 ∷ ds) at) (stream between (p + length ds) (b ∷ rest))
minus_lexed [] at p b rest h some few k = absurd (omega arith)
minus_lexed (d ∷ ds) at p b rest h some few k =
    let e : p + 1 + length ds ≡ p + suc (length ds) = omega arith in
    let m : p + suc (length ds) - p ≤ 5 = omega arith in
    rw (stream, h.0) (digits_run at p (p + 1) (45 ∷ d ∷ []) ds (b ∷ rest) h.1 ∙ rw e (closes_at at p (p + suc (length ds)) b (45 ∷ d ∷ ds) rest k ∙ cond-false _ _ _ (le-ltb _ _ m)))

pub written : (k p : ℕ) (zs : List ℕ) → k < 100000 → Begins zs → stream between p (decimal k ++ zs) ≡ tok (num (decimal k) p) (stream between (p + length (decimal k)) zs)
written k p [] small h = absurd h
written k p (b ∷ zs) small h =
    number_lexed (decimal k) p b zs (writes_decimal k (omega arith)).0 (decimal_nonempty k (omega arith)) (length-decimal-le 5 k (omega arith) small (omega arith)) h

pub written_minus : (k at p : ℕ) (zs : List ℕ) → k < 100000 → Begins zs → stream (minus at) p (decimal k ++ zs) ≡ tok (num (45 ∷ decimal k) at) (stream between (p + length (decimal k)) zs)
written_minus k at p [] small h = absurd h
written_minus k at p (b ∷ zs) small h =
    minus_lexed (decimal k) at p b zs (writes_decimal k (omega arith)).0 (decimal_nonempty k (omega arith)) (length-decimal-le 5 k (omega arith) small (omega arith)) h

pub size_written : (k : ℕ) → k < 100000 → size_in (decimal k) ≡ k
size_written k small = (writes_decimal k (omega arith)).1

pub size_written_minus : (k : ℕ) → k < 100000 → size_in (45 ∷ decimal k) ≡ k
size_written_minus k small = size_written k small

pub no_minus_written : (k : ℕ) → k < 100000 → minus_in (decimal k) ≡ false
no_minus_written k small = and_left _ _ (first_not_minus (decimal k) (writes_decimal k (omega arith)).0)

pub minus_written : (k : ℕ) → 0 < k → k < 100000 → minus_in (45 ∷ decimal k) ≡ true
minus_written k some small = rw (size_written k small) (lt-ltb 0 k some)
