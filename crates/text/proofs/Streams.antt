-- How a stream goes on at each kind of byte.
use Rattle.std.proofs.Common.{◌≡◌, ℕ, ◌+◌, ◌-◌, ◌<◌, ◌≤◌, ◌⊎◌, List, [], ◌∷◌, ◌++◌, length, get_or, take, drop, sym, refl, ap, ◌∙◌, inl, inr, ⊎_elim, arith, length-drop, get_or-drop}
use Rattle.std.proofs.lemmas.Bool.{cases_lt, lt-ltb, le-ltb, cond-true, cond-false}
use Rattle.std.proofs.lemmas.Bool.Decides.{nat_tests}
use Rattle.std.proofs.lemmas.List.{at_drop_more, at_drop_all, take_more, drop_more}
use Rattle.text.specs.declared.bytes.Kind.TheVariants.{Separator, LineFeed, Minus, Digit, Other}
use Rattle.text.specs.Bytes.{kind}
use Rattle.text.specs.Tokens.{tok, end, bad, between, minus, digits, stream, closed, eol, span, tokens_from}
use Rattle.text.specs.Scanning.{Opens, Closes}
use Rattle.text.proofs.Runs.{same_up_to}

module _ (xs : List ℕ) (p : ℕ) (h : p < length xs) where
  pub separator_more : kind (get_or xs p 0) ≡ Separator → stream between p (drop p xs) ≡ stream between (p + 1) (drop (p + 1) xs)
  separator_more k = at_drop_more (stream between p) xs p 0 h ∙ rw (stream, k)

  pub digit_more : (start first : ℕ) → start ≤ p → kind (get_or xs p 0) ≡ Digit → stream (digits start first (span xs start p)) p (drop p xs) ≡ stream (digits start first (span xs start (p + 1))) (p + 1) (drop (p + 1) xs)
  digit_more start first s k =
      let back : start + (p - start) ≡ p = omega arith in
      let one : p + 1 - start ≡ p - start + 1 = omega arith in
      let room : p - start < length (drop start xs) = simp length-drop (omega arith) in
      let more = take_more (drop start xs) (p - start) 0 room in
      let here : get_or (drop start xs) (p - start) 0 ≡ get_or xs p 0 = get_or-drop start xs (p - start) 0 ∙ ap (λ i. get_or xs i 0) back in
      let grown : span xs start (p + 1) ≡ span xs start p ++ get_or xs p 0 ∷ [] = ap (λ n. take n (drop start xs)) one ∙ more ∙ ap (λ x. span xs start p ++ x ∷ []) here in
      at_drop_more (stream (digits start first (span xs start p)) p) xs p 0 h ∙ rw (stream, k) (ap (λ t. stream (digits start first t) (p + 1) (drop (p + 1) xs)) (sym grown))

  pub feed_more : kind (get_or xs p 0) ≡ LineFeed → stream between p (drop p xs) ≡ tok (eol p) (stream between (p + 1) (drop (p + 1) xs))
  feed_more k = at_drop_more (stream between p) xs p 0 h ∙ rw (stream, k)

  pub minus_more : kind (get_or xs p 0) ≡ Minus → stream between p (drop p xs) ≡ stream (minus p) (p + 1) (drop (p + 1) xs)
  minus_more k = at_drop_more (stream between p) xs p 0 h ∙ rw (stream, k)

  pub stray : (kind (get_or xs p 0) ≡ Separator → ⊥) → (kind (get_or xs p 0) ≡ LineFeed → ⊥) → (kind (get_or xs p 0) ≡ Minus → ⊥) → (kind (get_or xs p 0) ≡ Digit → ⊥) → stream between p (drop p xs) ≡ bad 20 p
  stray s l m d =
      at_drop_more (stream between p) xs p 0 h ∙ elim (kind (get_or xs p 0)) as (λ k. kind (get_or xs p 0) ≡ k → stream between p (get_or xs p 0 ∷ drop (p + 1) xs) ≡ bad 20 p) [
        | Separator ↦ λ e. absurd (s e)
        | LineFeed ↦ λ e. absurd (l e)
        | Minus ↦ λ e. absurd (m e)
        | Digit ↦ λ e. absurd (d e)
        | Other ↦ λ e. rw (stream, e)
      ] refl

  pub minus_stray : (at : ℕ) → (kind (get_or xs p 0) ≡ Digit → ⊥) → stream (minus at) p (drop p xs) ≡ bad 22 at
  minus_stray at d =
      at_drop_more (stream (minus at) p) xs p 0 h ∙ elim (kind (get_or xs p 0)) as (λ k. kind (get_or xs p 0) ≡ k → stream (minus at) p (get_or xs p 0 ∷ drop (p + 1) xs) ≡ bad 22 at) [
        | Separator ↦ λ e. rw (stream, e)
        | LineFeed ↦ λ e. rw (stream, e)
        | Minus ↦ λ e. rw (stream, e)
        | Digit ↦ λ e. absurd (d e)
        | Other ↦ λ e. rw (stream, e)
      ] refl

  pub digits_stray : (start first : ℕ) (text : List ℕ) → (kind (get_or xs p 0) ≡ Separator → ⊥) → (kind (get_or xs p 0) ≡ LineFeed → ⊥) → (kind (get_or xs p 0) ≡ Digit → ⊥) → stream (digits start first text) p (drop p xs) ≡ bad 20 p
  digits_stray start first text s l d =
      at_drop_more (stream (digits start first text) p) xs p 0 h ∙ elim (kind (get_or xs p 0)) as (λ k. kind (get_or xs p 0) ≡ k → stream (digits start first text) p (get_or xs p 0 ∷ drop (p + 1) xs) ≡ bad 20 p) [
        | Separator ↦ λ e. absurd (s e)
        | LineFeed ↦ λ e. absurd (l e)
        | Minus ↦ λ e. rw (stream, e)
        | Digit ↦ λ e. absurd (d e)
        | Other ↦ λ e. rw (stream, e)
      ] refl

  pub digits_closed : (start first : ℕ) (text : List ℕ) → (kind (get_or xs p 0) ≡ Separator) ⊎ (kind (get_or xs p 0) ≡ LineFeed) → stream (digits start first text) p (drop p xs) ≡ closed start first text p (stream between p (drop p xs))
  digits_closed start first text (inl e) = at_drop_more (stream (digits start first text) p) xs p 0 h ∙ rw (stream, e) (ap (closed start first text p) (sym (separator_more e)))
  digits_closed start first text (inr e) = at_drop_more (stream (digits start first text) p) xs p 0 h ∙ rw (stream, e) (ap (closed start first text p) (sym (feed_more e)))

  pub digit_opens : kind (get_or xs p 0) ≡ Digit → stream between p (drop p xs) ≡ stream (digits p p (span xs p (p + 1))) (p + 1) (drop (p + 1) xs)
  digit_opens k =
      let one : p + 1 - p ≡ 1 = omega arith in
      let grown : span xs p (p + 1) ≡ get_or xs p 0 ∷ [] = ap (λ n. take n (drop p xs)) one ∙ ap (take 1) (drop_more xs p 0 h) in
      at_drop_more (stream between p) xs p 0 h ∙ rw (stream, k) (ap (λ t. stream (digits p p t) (p + 1) (drop (p + 1) xs)) (sym grown))

pub is_minus : (b : ℕ) → kind b ≡ Minus → b ≡ 45
is_minus b e = grind (arith, nat_tests)

pub opens_digit : (xs : List ℕ) (p : ℕ) → p < length xs → kind (get_or xs p 0) ≡ Digit → Opens xs p p
opens_digit xs p h k = record { after = omega arith; near = omega arith; within = h; same = digit_opens xs p h k }

pub opens_minus : (xs : List ℕ) (p : ℕ) → p < length xs → p + 1 < length xs → kind (get_or xs p 0) ≡ Minus → kind (get_or xs (p + 1) 0) ≡ Digit → Opens xs p (p + 1)
opens_minus xs p h h' m k =
    let two : p + 1 + 1 - p ≡ 2 = omega arith in
    let grown : span xs p (p + 1 + 1) ≡ 45 ∷ get_or xs (p + 1) 0 ∷ [] = ap (λ n. take n (drop p xs)) two ∙ ap (take 2) (drop_more xs p 0 h) ∙ ap (λ l. get_or xs p 0 ∷ take 1 l) (drop_more xs (p + 1) 0 h') ∙ ap (λ b. b ∷ get_or xs (p + 1) 0 ∷ []) (is_minus (get_or xs p 0) m) in
    record {
      after = omega arith;
      near = omega arith;
      within = h';
      same = minus_more xs p h m ∙ at_drop_more (stream (minus p) (p + 1)) xs (p + 1) 0 h' ∙ rw (stream, k) (ap (λ t. stream (digits p (p + 1) t) (p + 1 + 1) (drop (p + 1 + 1) xs)) (sym grown));
    }

-- at the end of the digits
pub ends : (xs : List ℕ) (start first p : ℕ) (text : List ℕ) → p ≤ length xs → (p < length xs → (kind (get_or xs p 0) ≡ Separator) ⊎ (kind (get_or xs p 0) ≡ LineFeed)) → stream (digits start first text) p (drop p xs) ≡ closed start first text p (tokens_from xs p)
ends xs start first p text h k =
    ⊎_elim
    (λ lt. digits_closed xs p lt start first text (k lt))
    (λ ge. at_drop_all (stream (digits start first text) p) xs p ge ∙ ap (closed start first text p) (sym (at_drop_all (stream between p) xs p ge)))
    (cases_lt p (length xs))

-- a minus that no digit follows
pub lone_minus : (xs : List ℕ) (p : ℕ) → p < length xs → kind (get_or xs p 0) ≡ Minus → (p + 1 < length xs → kind (get_or xs (p + 1) 0) ≡ Digit → ⊥) → tokens_from xs p ≡ bad 22 p
lone_minus xs p h m d =
    minus_more xs p h m ∙ ⊎_elim
    (λ lt. minus_stray xs (p + 1) lt p (d lt))
    (λ ge. at_drop_all (stream (minus p) (p + 1)) xs (p + 1) ge)
    (cases_lt (p + 1) (length xs))

-- the digits from start, the first of them at first, go on to end
module _ (xs : List ℕ) (start first end : ℕ) (opens : Opens xs start first) (more : stream (digits start first (span xs start (first + 1))) (first + 1) (drop (first + 1) xs) ≡ stream (digits start first (span xs start end)) end (drop end xs)) where
  pub stray_after : end < length xs → (kind (get_or xs end 0) ≡ Separator → ⊥) → (kind (get_or xs end 0) ≡ LineFeed → ⊥) → (kind (get_or xs end 0) ≡ Digit → ⊥) → tokens_from xs start ≡ bad 20 end
  stray_after h s l d = opens.same ∙ more ∙ digits_stray xs end h start first (span xs start end) s l d

  module _ (h : end ≤ length xs) (k : end < length xs → (kind (get_or xs end 0) ≡ Separator) ⊎ (kind (get_or xs end 0) ≡ LineFeed)) where
    closed_at : tokens_from xs start ≡ closed start first (span xs start end) end (tokens_from xs end)
    closed_at = opens.same ∙ more ∙ ends xs start first end (span xs start end) h k

    pub sixth_digit : 5 < end - first → tokens_from xs start ≡ bad 21 start
    sixth_digit many = closed_at ∙ cond-true _ _ _ (lt-ltb _ _ many)

    pub closes : first + 1 ≤ end → end - first ≤ 5 → Closes xs start end
    closes some few =
        record {
          after = omega (arith, opens.after);
          near = omega (arith, opens.near);
          within = h;
          same = closed_at ∙ cond-false _ _ _ (le-ltb _ _ few);
        }

module _ (xs : List ℕ) (p q : ℕ) (h : p ≤ q) (w : q ≤ length xs) where
  module _ (is : (k : ℕ) → p + k < q → kind (get_or xs (p + k) 0) ≡ Separator) where
    pub separators_pass : tokens_from xs p ≡ tokens_from xs q
    separators_pass = same_up_to (tokens_from xs) p q h (λ k l. separator_more xs (p + k) (omega arith) (is k l))

    pub ended : q ≡ length xs → tokens_from xs p ≡ end (length xs)
    ended e = separators_pass ∙ at_drop_all (stream between q) xs q (omega arith) ∙ ap end e

  pub digits_pass : (start first : ℕ) → start ≤ p → ((k : ℕ) → p + k < q → kind (get_or xs (p + k) 0) ≡ Digit)
      → stream (digits start first (span xs start p)) p (drop p xs) ≡ stream (digits start first (span xs start q)) q (drop q xs)
  digits_pass start first s is =
      same_up_to (λ r. stream (digits start first (span xs start r)) r (drop r xs)) p q h (λ k l. digit_more xs (p + k) (omega arith) start first (omega arith) (is k l))
