-- The numbers of a line as commands take them.
use Rattle.std.proofs.Common.{◌≡◌, ℕ, ◌<◌, ◌≤◌, List, [], ◌∷◌, ◌++◌, length, take, ℤ, pos, negsuc, Some, Ok, Err, Option, Result, OnOk, OnErr, refl, sym, ap, ◌∙◌, inl, inr, append_assoc, arith}
use Rattle.std.proofs.lemmas.List.{take-append-le}
use Rattle.std.proofs.lemmas.Bool.Decides.{nat_tests}
use Rattle.arrayvec.specs.ArrayVec.{ArrayVec}
use Rattle.cube.specs.Ranges.{Outside}
use Rattle.cube.specs.Refusals.{Fault, fault}
use Rattle.command.specs.Asked.{Asked, asked_by, of_register, and_then, with_numbers}
use Rattle.command.specs.Counted.{first_two, two_of}

-- v is w with z pushed, where there is room for it
pub two_more : {U E : Type 0} (r : Result U E) (v w : ArrayVec ℤ) (z : ℤ) (s : Result (List ℤ) Fault) → OnOk r (w.items ≡ v.items ++ z ∷ []) → OnErr r (w ≡ v) → OnErr r (length v.items ≡ 2) → two_of v.items (and_then z s) ≡ two_of w.items s
two_more r v w z (Err f) ok err full = refl
two_more (Ok u) v w z (Ok zs) ok err full = ap (λ l. Ok (take 2 l)) (sym (append_assoc v.items (z ∷ []) zs) ∙ ap (λ l. l ++ zs) (sym ok))
two_more (Err e) v w z (Ok zs) ok err full =
    let two : 2 ≤ length v.items = omega (arith, full) in
    ap Ok (take-append-le 2 v.items (z ∷ zs) two ∙ sym (take-append-le 2 v.items zs two)) ∙ ap (λ x. Ok (take 2 (x.items ++ zs))) (sym err)

-- more numbers than two are as two
asked_by_two : (b : ℕ) (zs : List ℤ) → asked_by b (take 2 zs) ≡ asked_by b zs
asked_by_two b [] = refl
asked_by_two b (z ∷ []) = refl
asked_by_two b (z ∷ y ∷ zs) = refl

pub faulty : (b : ℕ) (r : Result (List ℤ) Fault) (f : Fault) → Err f ≡ first_two r → with_numbers b r ≡ Err f
faulty b (Ok zs) f e = let no : ◌≡◌ {A = ℕ} 0 1 = cc in absurd (omega arith)
faulty b (Err g) f e = cc

abbrev pub some_of : Result Asked Fault → Result (Option Asked) Fault
some_of (Ok a) = Ok (Some a)
some_of (Err f) = Err f

pub counted : (b : ℕ) (r : Result (List ℤ) Fault) (numbers : List ℤ) (a : Result Asked Fault) → Ok numbers ≡ first_two r → a ≡ asked_by b numbers → with_numbers b r ≡ some_of a
counted b (Ok zs) numbers a e is =
    let same : numbers ≡ take 2 zs = cc in
    ap some_of (sym (is ∙ ap (asked_by b) same ∙ asked_by_two b zs))
counted b (Err g) numbers a e is = let no : ◌≡◌ {A = ℕ} 0 1 = cc in absurd (omega arith)

pub asked_at : {letter l : ℕ} {zs ys : List ℤ} → letter ≡ l → zs ≡ ys → asked_by l ys ≡ asked_by letter zs
asked_at e f = cc

pub is_register : (ask : ℕ → Asked) (k : ℕ) (z : ℤ) → k < 32 → pos k ≡ z → Ok (ask k) ≡ of_register ask z
is_register ask k z h e = let near : Ok (ask k) ≡ of_register ask (pos k) = grind (arith, nat_tests) in near ∙ ap (of_register ask) e

pub no_register : (ask : ℕ → Asked) (z : ℤ) → Outside 0 31 z → Err (fault 1 0) ≡ of_register ask z
no_register ask (pos k) (inl h) = absurd (omega arith)
no_register ask (pos k) (inr h) = grind (arith, nat_tests)
no_register ask (negsuc k) h = refl
