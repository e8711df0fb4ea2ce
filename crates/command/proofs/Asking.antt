-- What a line asks, from a place on.
use Rattle.std.specs.Result.{IsErrAnd}
use Rattle.std.proofs.Common.{◌≡◌, ℕ, ◌+◌, ◌-◌, ◌<◌, ◌≤◌, min, Bool, true, false, cond, List, length, get_or, take, drop, None, Ok, Err, Option, Result, sym, ap, ◌∙◌, ⊎_elim, arith, length-drop}
use Rattle.std.proofs.lemmas.List.{at_drop_more, at_drop_all, take_rest, drop_more}
use Rattle.std.proofs.lemmas.Bool.{cases_lt, cond-true, cond-false}
use Rattle.std.proofs.lemmas.Bool.Decides.{nat_tests}
use Rattle.std.proofs.lemmas.Result.{err_from_is_err_and}
use Rattle.cube.specs.declared.refusal.Refusal.{Refusal}
use Rattle.cube.specs.Refusals.{fault, fault_of}
use Rattle.text.specs.declared.bytes.Kind.TheVariants.{Separator}
use Rattle.text.specs.Bytes.{kind}
use Rattle.text.specs.Words.{gap}
use Rattle.text.specs.Tokens.{tokens_from}
use Rattle.text.proofs.Runs.{same_up_to}
use Rattle.command.specs.Asked.{Asked, admitted, asked_on, numbers_in, parsed_as, with_numbers}

pub is_gap : (b : ℕ) → kind b ≡ Separator → gap b ≡ true
is_gap b e = grind (arith, nat_tests)

no_gap : (b : ℕ) → (kind b ≡ Separator → ⊥) → gap b ≡ false
no_gap b e = grind (arith, nat_tests)

module _ (first : Bool) (xs : List ℕ) (p : ℕ) where
  pub no_letter : length xs ≤ p → asked_on first p (drop p xs) ≡ Ok None
  no_letter h = at_drop_all (asked_on first p) xs p h

  pub gap_more : p < length xs → gap (get_or xs p 0) ≡ true → asked_on first p (drop p xs) ≡ asked_on first (p + 1) (drop (p + 1) xs)
  gap_more h e = at_drop_more (asked_on first p) xs p 0 h ∙ cond-true _ _ _ e

-- the bytes from p on, as the code slices them
abbrev pub rest : List ℕ → ℕ → List ℕ
rest xs p = take (length xs - p) (drop p xs)

pub length_rest : (xs : List ℕ) (p : ℕ) → length (rest xs p) ≡ length xs - p
length_rest xs p = ap length (take_rest xs p) ∙ length-drop p xs

-- the separators from `from` on end at p
module _ (first : Bool) (xs : List ℕ) (from p : ℕ) (after : min from (length xs) ≤ p) (within : p ≤ length xs) (stopped : p < length xs → kind (get_or xs p 0) ≡ Separator → ⊥) (passed : (k : ℕ) → from + k < p → kind (get_or xs (from + k) 0) ≡ Separator) where
  past_gaps : asked_on first from (drop from xs) ≡ asked_on first p (drop p xs)
  past_gaps =
      ⊎_elim
      (λ lt. same_up_to (λ i. asked_on first i (drop i xs)) from p (omega arith) (λ k h. gap_more first xs (from + k) (omega arith) (is_gap (get_or xs (from + k) 0) (passed k h))))
      (λ ge. no_letter first xs from ge ∙ sym (no_letter first xs p (omega arith)))
      (cases_lt from (length xs))

  -- nothing stands after them
  pub idle : length (rest xs p) ≤ 0 → asked_on first from (drop from xs) ≡ Ok None
  idle none = past_gaps ∙ no_letter first xs p (omega (arith, length_rest xs p))

  -- the letter b stands after them, and the rest begins one place later
  module _ (b : ℕ) (some : 1 ≤ length (rest xs p)) (is : b ≡ get_or (rest xs p) 0 0) where
    at_letter : asked_on first from (drop from xs) ≡ cond (admitted first b) (with_numbers b (numbers_in (tokens_from xs (length xs - length (rest (rest xs p) 1))))) (Err (fault 50 p))
    at_letter =
        let h : p < length xs = omega (arith, length_rest xs p) in
        let next : p + 1 ≡ length xs - length (rest (rest xs p) 1) = omega (arith, length_rest xs p, length_rest (rest xs p) 1) in
        let here : get_or xs p 0 ≡ b = sym (is ∙ ap (λ l. get_or l 0 0) (take_rest xs p ∙ drop_more xs p 0 h)) in
        past_gaps
        ∙ at_drop_more (asked_on first p) xs p 0 h
        ∙ cond-false _ _ _ (no_gap (get_or xs p 0) (stopped h))
        ∙ ap (λ l. cond (admitted first l) (with_numbers l (numbers_in (tokens_from xs (p + 1)))) (Err (fault 50 p))) here
        ∙ ap (λ n. cond (admitted first b) (with_numbers b (numbers_in (tokens_from xs n))) (Err (fault 50 p))) next

    -- and may begin a command
    pub begun : true ≡ admitted first b → asked_on first from (drop from xs) ≡ with_numbers b (numbers_in (tokens_from xs (length xs - length (rest (rest xs p) 1))))
    begun may = at_letter ∙ cond-true _ _ _ (sym may)

    -- and may not
    pub refused : false ≡ admitted first b → asked_on first from (drop from xs) ≡ Err (fault 50 p)
    refused may = at_letter ∙ cond-false _ _ _ (sym may)

-- a refusal that `?` hands on is seen as it was
pub handed_on : {T : Type 0} (see : T → Asked) (r : Result (Option T) Refusal) (f : Refusal) → IsErrAnd r (λ y. y ≡ f) → parsed_as see r ≡ Err (fault_of f)
handed_on see r f h =
    let p = err_from_is_err_and r h in
    ap (parsed_as see) p.1 ∙ ap (λ y. Err (fault_of y)) p.2
