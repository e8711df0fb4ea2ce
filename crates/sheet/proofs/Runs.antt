-- How a reading goes on at each token.
use Rattle.std.proofs.Common.{◌≡◌, ◌+◌, map, ℕ, ◌-◌, ◌<◌, ◌≤◌, List, [], length, get_or, take, set, Some, Ok, Err, Option, Result, sym, ap, ◌∙◌, arith, length-take-le, get_or-take}
use Rattle.std.proofs.Math.Seq.{take-set-lt}
use Rattle.std.proofs.lemmas.Bool.{le-ltb, cond-false}
use Rattle.std.proofs.lemmas.List.{take_more_set, map-set, length-map, get_or-map}
use Rattle.cube.specs.Refusals.{Fault, fault_of, told}
use Rattle.cube.specs.declared.refusal.Refusal.{Refusal}
use Rattle.cube.specs.declared.slot.Slot.{Slot}
use Rattle.sheet.specs.declared.reading.ReaderState.{ReaderState}
use Rattle.sheet.specs.declared.reading.ReaderState.TheVariants.{BeforeLine1}
use Rattle.sheet.specs.declared.reading.Deed.{Deed}
use Rattle.sheet.specs.declared.reading.Deed.TheVariants.{Open, Put}
use Rattle.text.specs.Tokens.{Tok, Stream, tok, bad, tokens_from}
use Rattle.cube.specs.Slots.{Cube, Cover, blank_cube, with_slot}
use Rattle.sheet.specs.Reading.{act, run, step_of, read_sheet}

pub put_last : (xs : Cover) (c k : ℕ) (v : Slot) → 0 < c → c ≤ length xs → take c (set xs (c - 1) (set (get_or xs (c - 1) []) (k - 1) v)) ≡ act (Some (Put k v)) (take c xs)
put_last xs c k v some fits =
    let l : length (take c xs) ≡ c = length-take-le c xs fits in
    let g : get_or (take c xs) (c - 1) [] ≡ get_or xs (c - 1) [] = get_or-take c xs (c - 1) [] (omega arith) in
    take-set-lt c xs (c - 1) (set (get_or xs (c - 1) []) (k - 1) v) (omega arith) ∙ rw (l, g)

-- the same at the cubes of a table, whatever the notation
module _ {X : Type 0} (f : X → Cube) (xs : List X) (n : ℕ) where
  pub opens_cube : (x : X) → n < length xs → f x ≡ blank_cube → take (n + 1) (map f (set xs n x)) ≡ act (Some Open) (take n (map f xs))
  opens_cube x h e =
      let ready : n < length (map f xs) = omega (arith, length-map xs f) in
      ap (take (n + 1)) (map-set f xs n x ∙ ap (set (map f xs) n) e) ∙ take_more_set (map f xs) n blank_cube ready

  pub puts_slot : (x y : X) (k : ℕ) (v : Slot) → 0 < n → n ≤ length xs → x ≡ get_or xs (n - 1) x → f y ≡ with_slot (f x) k v → take n (map f (set xs (n - 1) y)) ≡ act (Some (Put k v)) (take n (map f xs))
  puts_slot x y k v some h is e =
      let here : f x ≡ get_or (map f xs) (n - 1) [] = ap f is ∙ sym (get_or-map f xs (n - 1) x [] (omega arith)) in
      let fits : n ≤ length (map f xs) = omega (arith, length-map xs f) in
      ap (take n) (map-set f xs (n - 1) y ∙ ap (set (map f xs) (n - 1)) (e ∙ ap (λ c. with_slot c k v) here)) ∙ put_last (map f xs) n k v some fits

module _ (n most : ℕ) (s : ReaderState) (cs : Cover) where
  pub run_ok : (z : Stream) (t : Tok) (rest : Stream) (p : ReaderState × Option Deed) → z ≡ tok t rest → Ok p ≡ step_of n most s t → run n most s cs z ≡ run n most p.0 (act p.1 cs) rest
  run_ok z t rest p e h = ap (run n most s cs) e ∙ rw (run, ← h)

  pub run_err : (z : Stream) (t : Tok) (rest : Stream) (f : Fault) → z ≡ tok t rest → Err f ≡ step_of n most s t → run n most s cs z ≡ Err f
  run_err z t rest f e h = ap (run n most s cs) e ∙ rw (run, ← h)

-- a reading that has come to p, in state s with the cubes cs
module _ (n most : ℕ) (s : ReaderState) (cs : Cover) (xs text : List ℕ) (p : ℕ) (short : length text ≤ 65535) (same : xs ≡ text) (so : run n most s cs (tokens_from text p) ≡ run n most BeforeLine1 [] (tokens_from text 0)) where
  come : read_sheet n most text ≡ run n most s cs (tokens_from xs p)
  come = cond-false _ _ _ (le-ltb _ _ short) ∙ sym so ∙ ap (λ t. run n most s cs (tokens_from t p)) (sym same)

  pub refused_token : (f : Refusal) → tokens_from xs p ≡ bad (fault_of f).number (fault_of f).offset → read_sheet n most text ≡ Err (fault_of f)
  refused_token f b = come ∙ ap (run n most s cs) b

  pub refused_step : (t : Tok) (rest : Stream) (r : Result (ReaderState × Option Deed) Refusal) (f : Refusal) → tokens_from xs p ≡ tok t rest → told r ≡ step_of n most s t → r ≡ Err f → read_sheet n most text ≡ Err (fault_of f)
  refused_step t rest r f b v e = come ∙ run_err n most s cs (tokens_from xs p) t rest (fault_of f) b (ap told (sym e) ∙ v)
