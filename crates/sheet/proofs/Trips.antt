-- A written sheet is read again.
use Rattle.std.proofs.Common.{◌≡◌, ℕ, suc, ◌+◌, ◌-◌, ◌<◌, ◌≤◌, Bool, true, false, cond, List, [], ◌∷◌, ◌++◌, length, get_or, replicate, Some, None, Ok, decimal, sym, refl, ap, ◌∙◌, inl, inr, append_assoc, append-nil, arith}
use Rattle.std.proofs.lemmas.List.{length_push, get_or_at, set_at}
use Rattle.std.proofs.lemmas.Bool.{le-ltb, cond-false}
use Rattle.std.proofs.lemmas.Bool.Decides.{nat_tests}
use Rattle.cube.specs.declared.slot.Slot.{Slot}
use Rattle.cube.specs.declared.slot.Slot.TheVariants.{No, Yes, Blank}
use Rattle.cube.specs.Slots.{Cube, Cover}
use Rattle.text.specs.Tokens.{num, stream, between, tokens_from}
use Rattle.text.specs.Numerals.{size_in, minus_in}
use Rattle.text.proofs.Written.{Begins, written, written_minus, size_written, size_written_minus, no_minus_written, minus_written}
use Rattle.sheet.specs.declared.reading.ReaderState.TheVariants.{BeforeLine1, BeforeLine2, AmongCubes}
use Rattle.sheet.specs.declared.reading.Deed.TheVariants.{Open, Put}
use Rattle.sheet.specs.Reading.{act, run, step_of, on_line, read_sheet}
use Rattle.sheet.specs.Writing.{filled, write_sheet}
use Rattle.sheet.proofs.Lines.{literals_onto, cubes_onto, onto_cubes}
use Rattle.sheet.proofs.Runs.{run_ok}

-- no slot of a variable above n is filled
abbrev pub Under : ℕ → ℕ → Cube → Type 0
Under n k [] = Unit {0}
Under n k (No ∷ ss) = (k ≤ n) × Under n (k + 1) ss
Under n k (Yes ∷ ss) = (k ≤ n) × Under n (k + 1) ss
Under n k (Blank ∷ ss) = Under n (k + 1) ss

abbrev pub Good : ℕ → Cover → Type 0
Good n [] = Unit {0}
Good n (c ∷ cs) = (length c ≡ 20) × Under n 1 c × Good n cs

begins : (k : ℕ) (ss : Cube) (r : List ℕ) → Begins (literals_onto k ss (10 ∷ r))
begins k [] r = inr refl
begins k (No ∷ ss) r = inl refl
begins k (Yes ∷ ss) r = inl refl
begins k (Blank ∷ ss) r = begins (k + 1) ss r

put_step : (n most left lits last k at : ℕ) (text : List ℕ) (m : Bool) → size_in text ≡ k → minus_in text ≡ m → 0 < k → k ≤ n → last < k → step_of n most (on_line left (suc lits) last) (num text at) ≡ Ok (on_line left lits k, Some (Put k (cond m No Yes)))
put_step n most left lits last k at text m s e some fits rises = grind (arith, nat_tests)

act_put : (k : ℕ) (v : Slot) (done : Cover) (pre bl : Cube) → length pre + 1 ≡ k → act (Some (Put k v)) (done ++ (pre ++ Blank ∷ bl) ∷ []) ≡ done ++ ((pre ++ v ∷ []) ++ bl) ∷ []
act_put k v done pre bl e =
    let l : length (done ++ (pre ++ Blank ∷ bl) ∷ []) - 1 ≡ length done = simp length_push (omega arith) in
    let g : get_or (done ++ (pre ++ Blank ∷ bl) ∷ []) (length done) [] ≡ pre ++ Blank ∷ bl = get_or_at done (pre ++ Blank ∷ bl) [] [] (length done) refl in
    let k' : length pre ≡ k - 1 = omega arith in
    rw (l, g, set_at pre Blank bl v (k - 1) k', set_at done (pre ++ Blank ∷ bl) [] (pre ++ v ∷ bl) (length done) refl, append_assoc)

blanks : Cube → Cube
blanks [] = []
blanks (s ∷ ss) = Blank ∷ blanks ss

-- the rest of a cube's line
literals_run : (n most left last k p : ℕ) (done : Cover) (pre ss : Cube) (r : List ℕ) → n ≤ 20 → length pre + 1 ≡ k → last < k → Under n k ss →
    (q : ℕ) × (run n most (on_line left (filled ss) last) (done ++ (pre ++ blanks ss) ∷ []) (stream between p (literals_onto k ss (10 ∷ r))) ≡ run n most (AmongCubes left None) (done ++ (pre ++ ss) ∷ []) (stream between q r))
unfolding blanks
literals_run n most left last k p done pre [] r top e rises u = (p + 1, refl)
literals_run n most left last k p done pre (Blank ∷ ss) r top e rises u =
    let more = literals_run n most left last (k + 1) p done (pre ++ Blank ∷ []) ss r top (simp length_push (omega arith)) (omega arith) u in
    (more.0, simp append_assoc at more.1)
literals_run n most left last k p done pre (Yes ∷ ss) r top e rises u =
    let more = literals_run n most left k (k + 1) (p + 1 + length (decimal k)) done (pre ++ Yes ∷ []) ss r top (simp length_push (omega arith)) (omega arith) u.1 in
    let zs = literals_onto (k + 1) ss (10 ∷ r) in (
      more.0,
      run_ok n most _ _ _ (num (decimal k) (p + 1)) _ (on_line left (filled ss) k, Some (Put k Yes)) (written k (p + 1) zs (omega (arith, u.0)) (begins (k + 1) ss r)) (sym (put_step n most left (filled ss) last k (p + 1) (decimal k) false (size_written k (omega (arith, u.0))) (no_minus_written k (omega (arith, u.0))) (omega arith) u.0 rises))
          ∙ ap (λ cs. run n most (on_line left (filled ss) k) cs (stream between (p + 1 + length (decimal k)) zs)) (act_put k Yes done pre (blanks ss) e)
          ∙ more.1 ∙ ap (λ c. run n most (AmongCubes left None) (done ++ c ∷ []) (stream between more.0 r)) (append_assoc pre (Yes ∷ []) ss),
    )
literals_run n most left last k p done pre (No ∷ ss) r top e rises u =
    let more = literals_run n most left k (k + 1) (p + 1 + 1 + length (decimal k)) done (pre ++ No ∷ []) ss r top (simp length_push (omega arith)) (omega arith) u.1 in
    let zs = literals_onto (k + 1) ss (10 ∷ r) in (
      more.0,
      run_ok n most _ _ _ (num (45 ∷ decimal k) (p + 1)) _ (on_line left (filled ss) k, Some (Put k No)) (written_minus k (p + 1) (p + 1 + 1) zs (omega (arith, u.0)) (begins (k + 1) ss r)) (sym (put_step n most left (filled ss) last k (p + 1) (45 ∷ decimal k) true (size_written_minus k (omega (arith, u.0))) (minus_written k (omega arith) (omega (arith, u.0))) (omega arith) u.0 rises))
          ∙ ap (λ cs. run n most (on_line left (filled ss) k) cs (stream between (p + 1 + 1 + length (decimal k)) zs)) (act_put k No done pre (blanks ss) e)
          ∙ more.1 ∙ ap (λ c. run n most (AmongCubes left None) (done ++ c ∷ []) (stream between more.0 r)) (append_assoc pre (No ∷ []) ss),
    )

blank_cube_is : (k : ℕ) (ss : Cube) → length ss ≡ k → replicate k Blank ≡ blanks ss
unfolding blanks
blank_cube_is k [] e = rw (sym e)
blank_cube_is k (s ∷ ss) e = rw (sym e) (ap (λ l. Blank ∷ l) (blank_cube_is (length ss) ss refl))

-- no more literals than variables up to n
filled_under : (n k : ℕ) (ss : Cube) → Under n k ss → filled ss ≤ n + 1 - k
filled_under n k [] u = omega arith
filled_under n k (No ∷ ss) u = omega (arith, u.0, filled_under n (k + 1) ss u.1)
filled_under n k (Yes ∷ ss) u = omega (arith, u.0, filled_under n (k + 1) ss u.1)
filled_under n k (Blank ∷ ss) u = omega (arith, filled_under n (k + 1) ss u)

open_step : (n most left c at : ℕ) (text : List ℕ) → size_in text ≡ c → minus_in text ≡ false → c ≤ n → step_of n most (AmongCubes (suc left) None) (num text at) ≡ Ok (on_line left c 0, Some Open)
open_step n most left c at text s e fits = grind (arith, nat_tests)

cubes_run : (n most p : ℕ) (done cs : Cover) → n ≤ 20 → Good n cs → run n most (AmongCubes (length cs) None) done (stream between p (cubes_onto cs)) ≡ Ok (done ++ cs)
cubes_run n most p done [] top g = ap Ok (sym (append-nil done))
cubes_run n most p done (c ∷ cs) top g =
    let few : filled c ≤ n = omega (arith, filled_under n 1 c g.1) in
    let small : filled c < 100000 = omega arith in
    let line = literals_run n most (length cs) 0 1 (p + length (decimal (filled c))) done [] c (cubes_onto cs) top refl (omega arith) g.1 in
    run_ok n most _ _ _ (num (decimal (filled c)) p) _ (on_line (length cs) (filled c) 0, Some Open) (written (filled c) p _ small (begins 1 c (cubes_onto cs))) (sym (open_step n most (length cs) (filled c) p (decimal (filled c)) (size_written (filled c) small) (no_minus_written (filled c) small) few))
    ∙ ap (λ b. run n most (on_line (length cs) (filled c) 0) (done ++ b ∷ []) (stream between (p + length (decimal (filled c))) (literals_onto 1 c (10 ∷ cubes_onto cs)))) (blank_cube_is 20 c g.0)
    ∙ line.1 ∙ cubes_run n most line.0 (done ++ c ∷ []) cs top g.2 ∙ ap Ok (append_assoc done (c ∷ []) cs)

first_step : (n most at : ℕ) (text : List ℕ) → size_in text ≡ n → minus_in text ≡ false → step_of n most BeforeLine1 (num text at) ≡ Ok (BeforeLine2 false, None)
first_step n most at text s e = grind (arith, nat_tests)

second_step : (n most c at : ℕ) (text : List ℕ) → size_in text ≡ c → minus_in text ≡ false → c ≤ most → step_of n most (BeforeLine2 true) (num text at) ≡ Ok (on_line c 0 0, None)
second_step n most c at text s e fits = grind (arith, nat_tests)

pub sheets_return : (n most : ℕ) (cs : Cover) → n ≤ 20 → length cs ≤ most → length cs < 100000 → Good n cs → length (write_sheet n cs) ≤ 65535 → read_sheet n most (write_sheet n cs) ≡ Ok cs
sheets_return n most cs top room small g short =
    let ns : n < 100000 = omega arith in
    let c = length cs in
    let after = 0 + length (decimal n) + 1 in
    cond-false _ _ _ (le-ltb _ _ short)
    ∙ ap (λ z. run n most BeforeLine1 [] (tokens_from (decimal n ++ 10 ∷ (decimal c ++ 10 ∷ z)) 0)) (onto_cubes cs)
    ∙ run_ok n most BeforeLine1 [] _ (num (decimal n) 0) _ (BeforeLine2 false, None) (written n 0 (10 ∷ (decimal c ++ 10 ∷ cubes_onto cs)) ns (inr refl)) (sym (first_step n most 0 (decimal n) (size_written n ns) (no_minus_written n ns)))
    ∙ run_ok n most (BeforeLine2 true) [] _ (num (decimal c) after) _ (on_line c 0 0, None) (written c after (10 ∷ cubes_onto cs) small (inr refl)) (sym (second_step n most c after (decimal c) (size_written c small) (no_minus_written c small) room))
    ∙ cubes_run n most (after + length (decimal c) + 1) [] cs top g
