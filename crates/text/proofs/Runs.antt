-- What each place of a run keeps.
use Rattle.std.proofs.Common.{◌≡◌, ℕ, zero, suc, ◌+◌, ◌-◌, ◌<◌, ◌≤◌, sym, ap, ◌∙◌, add-zero, arith}

through : {X : Type 0} (f : ℕ → X) (p d : ℕ) → ((k : ℕ) → p + k < p + d → f (p + k) ≡ f (p + k + 1)) → f p ≡ f (p + d)
through f p zero keeps = sym (rw add-zero)
through f p (suc d) keeps =
    let e : p + d + 1 ≡ p + suc d = omega arith in
    through f p d (λ k h. keeps k (omega arith)) ∙ keeps d (omega arith) ∙ ap f e

-- what each step from p up to q keeps is the same at both
pub same_up_to : {X : Type 0} (f : ℕ → X) (p q : ℕ) → p ≤ q → ((k : ℕ) → p + k < q → f (p + k) ≡ f (p + k + 1)) → f p ≡ f q
same_up_to f p q h keeps =
    let e : p + (q - p) ≡ q = omega arith in
    through f p (q - p) (λ k l. keeps k (omega arith)) ∙ ap f e
