-- What a line can ask: the first command makes a calculator, and a later one reads or prints one of the 32 registers, or ends the run.
use Rattle.std.proofs.Common.{◌≡◌, ℕ, ◌+◌, ◌<◌, Bool, true, false, eqb, leb, List, [], ◌∷◌, ℤ, pos, negsuc, IfOk, Some, None, Ok, Err, Option, Result, sym, refl, subst, arith}
use Rattle.std.proofs.lemmas.Bool.{cond_both, leb-true, eqb-true}
use Rattle.std.proofs.lemmas.Bool.Decides.{nat_tests}
use Rattle.cube.specs.Refusals.{Fault, fault}
use Rattle.text.specs.Words.{gap}
use Rattle.text.specs.Tokens.{stream, between}
use Rattle.command.specs.Asked.{Asked, admitted, one, none, of_register, asked_by, numbers_in, with_numbers, asked_on}
use Rattle.command.specs.Asked.Asked.{make, read, print, quit}
use Rattle.command.specs.Lines.{Line}

-- what a line asks has a property, if it asks anything
abbrev Asks : (Asked → Type 0) → Result (Option Asked) Fault → Type 0
Asks P (Ok None) = Unit {0}
Asks P (Ok (Some a)) = P a
Asks P (Err f) = Unit {0}

abbrev some_of : Result Asked Fault → Result (Option Asked) Fault
some_of (Ok a) = Ok (Some a)
some_of (Err f) = Err f

asks_some : (P : Asked → Type 0) (a : Result Asked Fault) → IfOk a P → Asks P (some_of a)
asks_some P (Ok a) h = h
asks_some P (Err f) h = tt

module _ (P : Asked → Type 0) (first : Bool) (by : (b : ℕ) (zs : List ℤ) → admitted first b ≡ true → IfOk (asked_by b zs) P) where
  asks_with : (b : ℕ) → admitted first b ≡ true → (r : Result (List ℤ) Fault) → Asks P (with_numbers b r)
  asks_with b h (Ok zs) = asks_some P (asked_by b zs) (by b zs h)
  asks_with b h (Err f) = tt

  asks_on : (at : ℕ) (bytes : List ℕ) → Asks P (asked_on first at bytes)
  asks_on at [] = tt
  asks_on at (b ∷ rest) =
      cond_both (gap b) (asked_on first (at + 1) rest) _ (Asks P) (λ _. asks_on (at + 1) rest)
      (λ _. cond_both (admitted first b) (with_numbers b (numbers_in (stream between (at + 1) rest))) (Err (fault 50 at)) (Asks P) (λ h. asks_with b h _) (λ _. tt))

made_one : (P : Asked → Type 0) (f : ℤ → Result Asked Fault) → ((z : ℤ) → IfOk (f z) P) → (zs : List ℤ) → IfOk (one f zs) P
made_one P f h [] = tt
made_one P f h (z ∷ []) = h z
made_one P f h (z ∷ y ∷ zs) = tt

made_none : (P : Asked → Type 0) (a : Asked) → P a → (zs : List ℤ) → IfOk (none a zs) P
made_none P a h [] = h
made_none P a h (z ∷ zs) = tt

made_register : (P : Asked → Type 0) (ask : ℕ → Asked) → ((k : ℕ) → k < 32 → P (ask k)) → (z : ℤ) → IfOk (of_register ask z) P
made_register P ask h (pos k) =
    cond_both (leb k 31) (Ok (ask k)) (Err (fault 1 0)) (λ r. IfOk r P) (λ e. h k (omega (arith, leb-true k 31 e))) (λ _. tt)
made_register P ask h (negsuc k) = tt

-- the first command
abbrev First : Asked → Type 0
First (make z) = Unit {0}
First (read k) = ⊥
First (print k) = ⊥
First quit = ⊥

first_by : (b : ℕ) (zs : List ℤ) → admitted true b ≡ true → IfOk (asked_by b zs) First
first_by b zs h = subst (λ l. IfOk (asked_by l zs) First) (sym (eqb-true b 118 h)) (made_one First _ (λ z. tt) zs)

is_make : (a : Asked) → First a → (z : ℤ) × (a ≡ make z)
is_make (make z) h = (z, refl)
is_make (read k) h = absurd h
is_make (print k) h = absurd h
is_make quit h = absurd h

-- a later one
abbrev Later : Asked → Type 0
Later (make z) = ⊥
Later (read k) = k < 32
Later (print k) = k < 32
Later quit = Unit {0}

never_first : (b : ℕ) → eqb b 118 ≡ true → admitted false b ≡ true → ⊥
never_first b e h = grind (arith, nat_tests)

later_by : (b : ℕ) (zs : List ℤ) → admitted false b ≡ true → IfOk (asked_by b zs) Later
later_by b zs h =
    cond_both (eqb b 118) _ _ (λ r. IfOk r Later) (λ e. absurd (never_first b e h))
    (λ _. cond_both (eqb b 114) _ _ (λ r. IfOk r Later) (λ _. made_one Later _ (made_register Later read (λ k below. below)) zs)
    (λ _. cond_both (eqb b 112) _ _ (λ r. IfOk r Later) (λ _. made_one Later _ (made_register Later print (λ k below. below)) zs)
    (λ _. made_none Later quit tt zs)))

module _ (l : Line) where
  pub first_makes : (a : Asked) → asked_on true l.at l.bytes ≡ Ok (Some a) → (z : ℤ) × (a ≡ make z)
  first_makes a e = is_make a (subst (Asks First) e (asks_on First true first_by l.at l.bytes))

  later : (a : Asked) → asked_on false l.at l.bytes ≡ Ok (Some a) → Later a
  later a e = subst (Asks Later) e (asks_on Later false later_by l.at l.bytes)

  pub never_makes : (z : ℤ) → asked_on false l.at l.bytes ≡ Ok (Some (make z)) → ⊥
  never_makes z e = later (make z) e

  pub read_below : (k : ℕ) → asked_on false l.at l.bytes ≡ Ok (Some (read k)) → k < 32
  read_below k e = later (read k) e

  pub print_below : (k : ℕ) → asked_on false l.at l.bytes ≡ Ok (Some (print k)) → k < 32
  print_below k e = later (print k) e
