-- What is read is a sheet in words, and every sheet in words is read.
use Rattle.std.proofs.Common.{◌≡◌, ℕ, suc, ◌+◌, ◌-◌, ◌≤◌, Bool, true, false, cond, not, ◌&&◌, ◌||◌, eqb, ltb, leb, List, [], ◌∷◌, ◌++◌, length, get_or, set, Some, None, Ok, Err, Option, Result, sym, refl, ap, ◌∙◌, subst, append_assoc, append-nil, arith}
use Rattle.std.proofs.lemmas.Bool.{le-ltb, cond-true, cond-false}
use Rattle.std.proofs.lemmas.List.{length_push, get_or_at, set_at, nil_from_length}
use Rattle.cube.specs.Refusals.{Fault}
use Rattle.cube.specs.declared.slot.Slot.{Slot}
use Rattle.sheet.specs.declared.reading.ReaderState.{ReaderState}
use Rattle.sheet.specs.declared.reading.ReaderState.TheVariants.{BeforeLine1, BeforeLine2, AmongCubes}
use Rattle.sheet.specs.declared.reading.Deed.{Deed}
use Rattle.sheet.specs.declared.reading.Deed.TheVariants.{Put}
use Rattle.text.specs.Tokens.{Tok, Stream, tok, end, bad, num, eol, between, tokens_from}
use Rattle.cube.specs.Slots.{Cube, Cover, blank_cube}
use Rattle.text.specs.Numerals.{size_in, minus_in}
use Rattle.sheet.specs.Reading.{act, run, refuse, on_line}
use Rattle.sheet.specs.Sheet.{Each, Numeral}
use Rattle.text.specs.Words.{Word, onto}
use Rattle.sheet.proofs.Worded.{Line, Number, Alone, Rising, ticked, filling, Rows, Counted, Lines, WordedAreRead}
use Rattle.sheet.proofs.Tests.{opening, opening?, putting, rising?, putting?, is_n, n_is, up_to, to_up, variable_in, in_variable, above, below_it, some, none, zero_is, both_zero, is_zero, not_zero, not_some, zeros, short_text}
use Rattle.sheet.proofs.Splits.{here, below, ahead, after, Clean, each_onto, each_off, lexes, lines_are}

act_last : (cs : Cover) (c : Cube) (k : ℕ) (v : Slot) → act (Some (Put k v)) (cs ++ c ∷ []) ≡ cs ++ set c (k - 1) v ∷ []
act_last cs c k v =
    let l : length (cs ++ c ∷ []) - 1 ≡ length cs = simp length_push (omega arith) in
    let g : get_or (cs ++ c ∷ []) (length cs) [] ≡ c = get_or_at cs c [] [] (length cs) refl in
    rw (l, g, set_at cs c [] (set c (k - 1) v) (length cs) refl)

-- the literals of a line, put into the last cube one by one
abbrev puts : Line → Cover → Cover
puts [] cs = cs
puts (w ∷ ws) cs = puts ws (act (Some (Put (size_in w) (ticked w))) cs)

puts_last : (l : Line) (cs : Cover) (c : Cube) → puts l (cs ++ c ∷ []) ≡ cs ++ filling l c ∷ []
puts_last [] cs c = refl
puts_last (w ∷ ws) cs c = ap (puts ws) (act_last cs c (size_in w) (ticked w)) ∙ puts_last ws cs (set c (size_in w - 1) (ticked w))

-- what is still to come in state s, after the cubes cs: the words l of this line and the lines ls give the cubes that follow
abbrev Rest : ℕ → ℕ → ReaderState → Cover → Line → List Line → Cover → Cover → Type 0
Rest n most BeforeLine1 cs l ls cubes out = (out ≡ cs ++ cubes) × Lines n most (onto l ls) cubes
Rest n most (BeforeLine2 false) cs l ls cubes out = (out ≡ cs ++ cubes) × (l ≡ []) × Counted n most ls cubes
Rest n most (BeforeLine2 true) cs l ls cubes out = (out ≡ cs ++ cubes) × Counted n most (onto l ls) cubes
Rest n most (AmongCubes left None) cs l ls cubes out = (out ≡ cs ++ cubes) × (length cubes ≡ left) × Rows n (onto l ls) cubes
Rest n most (AmongCubes left (Some line)) cs l ls cubes out = (out ≡ puts l cs ++ cubes) × (length l ≡ line.left) × Rising n line.last l × (length cubes ≡ left) × Rows n ls cubes

record Comes (n most : ℕ) (s : ReaderState) (cs : Cover) (z : Stream) (out : Cover) : Type 0 where
  pub clean : Clean z
  pub cubes : Cover
  pub rest : Rest n most s cs (ahead z) (after z) cubes out

abbrev go : ℕ → ℕ → Cover → Stream → Result (ReaderState × Option Deed) Fault → Result Cover Fault
go n most cs s x = elim x [ Ok p ↦ run n most p.0 (act p.1 cs) s | Err f ↦ Err f ]

module _ (n most : ℕ) (cs : Cover) (s : Stream) (out : Cover) where
  passes : (b : Bool) (code at : ℕ) (x : Result (ReaderState × Option Deed) Fault) → go n most cs s (cond b (refuse code at) x) ≡ Ok out → (b ≡ false) × (go n most cs s x ≡ Ok out)
  passes true code at x e = cc
  passes false code at x e = (refl, e)

  passed : (b : Bool) (code at : ℕ) (x : Result (ReaderState × Option Deed) Fault) → b ≡ false → go n most cs s x ≡ Ok out → go n most cs s (cond b (refuse code at) x) ≡ Ok out
  passed true code at x f e = cc
  passed false code at x f e = e

stops : (b : Bool) (cs out : Cover) (f : Fault) → cond b (Ok cs) (Err f) ≡ Ok out → (b ≡ true) × (cs ≡ out)
stops true cs out f e = (refl, (cc))
stops false cs out f e = cc

alone_of : (w : Word) (l : Line) (k : ℕ) → l ≡ [] → Number w k → Alone (w ∷ l) k
alone_of w [] k e h = h
alone_of w (v ∷ l) k e h = cc

-- what comes from a token on, where the same cubes come after it
leads : {n most : ℕ} {s s' : ReaderState} {cs cs' : Cover} {t : Tok} {z : Stream} {out : Cover} (r : Comes n most s cs z out) → Rest n most s' cs' (ahead (tok t z)) (after (tok t z)) r.cubes out → Comes n most s' cs' (tok t z) out
leads r rest = record { clean = r.clean; cubes = r.cubes; rest = rest }

accepted : (n most : ℕ) (s : ReaderState) (cs : Cover) (z : Stream) (out : Cover) → run n most s cs z ≡ Ok out → Comes n most s cs z out
accepted n most s cs (bad code at) out e = cc
accepted n most BeforeLine1 cs (end at) out e = cc
accepted n most (BeforeLine2 fresh) cs (end at) out e = cc
accepted n most (AmongCubes left None) cs (end at) out e =
    let q = stops (eqb left 0) cs out _ e in
    record { clean = tt; cubes = []; rest = (sym q.1 ∙ sym (append-nil cs), zero_is left q.0, tt) }
accepted n most (AmongCubes left (Some line)) cs (end at) out e =
    let q = stops (eqb left 0 && eqb line.left 0) cs out _ e in
    let o = both_zero left line.left q.0 in
    record { clean = tt; cubes = []; rest = (sym q.1 ∙ sym (append-nil cs), o.1, tt, o.0, tt) }
accepted n most BeforeLine1 cs (tok (num w at) z) out e =
    let q = passes n most cs z out _ 30 at _ e in
    let r = accepted n most (BeforeLine2 false) cs z out q.1 in
    let k = is_n (minus_in w) (size_in w) n q.0 in
    leads r (r.rest.0, (alone_of w (ahead z) n r.rest.1 k, r.rest.2))
accepted n most (BeforeLine2 false) cs (tok (num w at) z) out e = cc
accepted n most (BeforeLine2 true) cs (tok (num w at) z) out e =
    let q = passes n most cs z out (minus_in w || ltb most (size_in w)) 31 at (Ok (on_line (size_in w) 0 0, None)) e in
    let r = accepted n most (on_line (size_in w) 0 0) cs z out q.1 in
    let k = up_to (minus_in w) (size_in w) most q.0 in
    let l = nil_from_length (ahead z) r.rest.1 in
    leads r (r.rest.0 ∙ ap (λ x. puts x cs ++ r.cubes) l, (alone_of w (ahead z) (length r.cubes) l (k.0, sym r.rest.3), omega (arith, r.rest.3, k.1), r.rest.4))
accepted n most (AmongCubes left None) cs (tok (num w at) z) out e =
    let q = passes n most cs z out (eqb left 0) 35 at (opening? n left w at) e in
    let q' = passes n most cs z out (minus_in w || ltb n (size_in w)) 32 at (opening n left w) q.1 in
    let r = accepted n most (on_line (left - 1) (size_in w) 0) (cs ++ blank_cube ∷ []) z out q'.1 in
    let k = up_to (minus_in w) (size_in w) n q'.0 in
    let left_is : suc (length r.cubes) ≡ left = omega (arith, some left q.0, r.rest.3) in
    record {
      clean = r.clean;
      cubes = filling (ahead z) blank_cube ∷ r.cubes;
      rest = (r.rest.0 ∙ ap (λ x. x ++ r.cubes) (puts_last (ahead z) cs blank_cube) ∙ append_assoc cs (filling (ahead z) blank_cube ∷ []) r.cubes, left_is, (((k.0, sym r.rest.1), r.rest.2, refl), r.rest.4));
    }
accepted n most (AmongCubes left (Some line)) cs (tok (num w at) z) out e =
    let v = size_in w in
    let q = passes n most cs z out (eqb line.left 0) 35 at (putting? n left line.left line.last w at) e in
    let q' = passes n most cs z out (eqb v 0 || ltb n v) 33 at (rising? left line.left line.last w at) q.1 in
    let q'' = passes n most cs z out (leb v line.last) 34 at (putting left line.left w) q'.1 in
    let r = accepted n most (on_line left (line.left - 1) v) (act (Some (Put v (ticked w))) cs) z out q''.1 in
    let k = variable_in v n q'.0 in
    let all : suc (length (ahead z)) ≡ line.left = omega (arith, some line.left q.0, r.rest.1) in
    leads r (r.rest.0, all, (above v line.last q''.0, k.1, r.rest.2), r.rest.3, r.rest.4)
accepted n most BeforeLine1 cs (tok (eol at) z) out e = let r = accepted n most BeforeLine1 cs z out e in leads r r.rest
accepted n most (BeforeLine2 false) cs (tok (eol at) z) out e =
    let r = accepted n most (BeforeLine2 true) cs z out e in
    leads r (r.rest.0, refl, r.rest.1)
accepted n most (BeforeLine2 true) cs (tok (eol at) z) out e = let r = accepted n most (BeforeLine2 true) cs z out e in leads r r.rest
accepted n most (AmongCubes left None) cs (tok (eol at) z) out e = let r = accepted n most (AmongCubes left None) cs z out e in leads r r.rest
accepted n most (AmongCubes left (Some line)) cs (tok (eol at) z) out e =
    let q = passes n most cs z out _ 36 at _ e in
    let r = accepted n most (AmongCubes left None) cs z out q.1 in
    leads r (r.rest.0, sym (none line.left q.0), tt, r.rest.1, r.rest.2)

alone_is : (w : Word) (l : Line) (k : ℕ) → Alone (w ∷ l) k → (l ≡ []) × Number w k
alone_is w [] k h = (refl, h)
alone_is w (v ∷ l) k h = absurd h

rising_fits : (n last : ℕ) (l : Line) → Rising n last l → last ≤ n → last + length l ≤ n
rising_fits n last [] h le = omega arith
rising_fits n last (w ∷ l) h le = omega (arith, h.0, rising_fits n (size_in w) l h.2 h.1)

stopped : (b : Bool) (cs out : Cover) (f : Fault) → b ≡ true → out ≡ cs ++ [] → cond b (Ok cs) (Err f) ≡ Ok out
stopped b cs out f e o = cond-true _ _ _ e ∙ ap Ok (sym (append-nil cs) ∙ sym o)

reached : (n most : ℕ) (s : ReaderState) (cs : Cover) (z : Stream) (cubes out : Cover) → Clean z → Rest n most s cs (ahead z) (after z) cubes out → run n most s cs z ≡ Ok out
reached n most s cs (bad code at) cubes out c r = absurd c
reached n most BeforeLine1 cs (end at) cubes out c r = absurd r.1
reached n most (BeforeLine2 false) cs (end at) cubes out c r = absurd r.2
reached n most (BeforeLine2 true) cs (end at) cubes out c r = absurd r.1
reached n most (AmongCubes left None) cs (end at) [] out c r = stopped (eqb left 0) cs out _ (is_zero left r.1) r.0
reached n most (AmongCubes left None) cs (end at) (x ∷ cubes) out c r = absurd r.2
reached n most (AmongCubes left (Some line)) cs (end at) [] out c r = stopped (eqb left 0 && eqb line.left 0) cs out _ (zeros left line.left r.3 r.1) r.0
reached n most (AmongCubes left (Some line)) cs (end at) (x ∷ cubes) out c r = absurd r.4
reached n most BeforeLine1 cs (tok (num w at) z) cubes out c r =
    let a = alone_is w (ahead z) n r.1.0 in
    passed n most cs z out (minus_in w || not (eqb (size_in w) n)) 30 at (Ok (BeforeLine2 false, None)) (n_is (minus_in w) (size_in w) n a.1.0 a.1.1)
    (reached n most (BeforeLine2 false) cs z cubes out c (r.0, a.0, r.1.1))
reached n most (BeforeLine2 false) cs (tok (num w at) z) cubes out c r = cc r.1
reached n most (BeforeLine2 true) cs (tok (num w at) z) cubes out c r =
    let a = alone_is w (ahead z) (length cubes) r.1.0 in
    passed n most cs z out (minus_in w || ltb most (size_in w)) 31 at (Ok (on_line (size_in w) 0 0, None)) (to_up (minus_in w) (size_in w) most a.1.0 (omega (arith, a.1.1, r.1.1)))
    (reached n most (on_line (size_in w) 0 0) cs z cubes out c (r.0 ∙ ap (λ x. puts x cs ++ cubes) (sym a.0), ap length a.0, subst (Rising n 0) (sym a.0) tt, sym a.1.1, r.1.2))
reached n most (AmongCubes left None) cs (tok (num w at) z) [] out c r = absurd r.2
reached n most (AmongCubes left None) cs (tok (num w at) z) (x ∷ cubes) out c r =
    let row = r.2.0 in
    let fits = rising_fits n 0 (ahead z) row.1 (omega arith) in
    let o : out ≡ puts (ahead z) (cs ++ blank_cube ∷ []) ++ cubes = r.0 ∙ ap (λ y. cs ++ y ∷ cubes) row.2 ∙ sym (ap (λ y. y ++ cubes) (puts_last (ahead z) cs blank_cube) ∙ append_assoc cs (filling (ahead z) blank_cube ∷ []) cubes) in
    let one : length cubes ≡ left - 1 = omega (arith, r.1) in
    passed n most cs z out (eqb left 0) 35 at (opening? n left w at) (not_zero (length cubes) left r.1)
    (passed n most cs z out (minus_in w || ltb n (size_in w)) 32 at (opening n left w) (to_up (minus_in w) (size_in w) n row.0.0 (omega (arith, row.0.1)))
    (reached n most (on_line (left - 1) (size_in w) 0) (cs ++ blank_cube ∷ []) z cubes out c (o, sym row.0.1, row.1, one, r.2.1)))
reached n most (AmongCubes left (Some line)) cs (tok (num w at) z) cubes out c r =
    let v = size_in w in
    let one : length (ahead z) ≡ line.left - 1 = omega (arith, r.1) in
    passed n most cs z out (eqb line.left 0) 35 at (putting? n left line.left line.last w at) (not_zero (length (ahead z)) line.left r.1)
    (passed n most cs z out (eqb v 0 || ltb n v) 33 at (rising? left line.left line.last w at) (in_variable v n (omega (arith, r.2.0)) r.2.1)
    (passed n most cs z out (leb v line.last) 34 at (putting left line.left w) (below_it v line.last r.2.0)
    (reached n most (on_line left (line.left - 1) v) (act (Some (Put v (ticked w))) cs) z cubes out c (r.0, one, r.2.2, r.3, r.4))))
reached n most BeforeLine1 cs (tok (eol at) z) cubes out c r = reached n most BeforeLine1 cs z cubes out c r
reached n most (BeforeLine2 false) cs (tok (eol at) z) cubes out c r = reached n most (BeforeLine2 true) cs z cubes out c (r.0, r.2)
reached n most (BeforeLine2 true) cs (tok (eol at) z) cubes out c r = reached n most (BeforeLine2 true) cs z cubes out c r
reached n most (AmongCubes left None) cs (tok (eol at) z) cubes out c r = reached n most (AmongCubes left None) cs z cubes out c r
reached n most (AmongCubes left (Some line)) cs (tok (eol at) z) cubes out c r =
    passed n most cs z out (ltb 0 line.left) 36 at (Ok (AmongCubes left None, None)) (not_some line.left r.1) (reached n most (AmongCubes left None) cs z cubes out c (r.0, r.3, r.4))

pub long_not_ok : (b : Bool) (f : Fault) (x : Result Cover Fault) (out : Cover) → cond b (Err f) x ≡ Ok out → (b ≡ false) × (x ≡ Ok out)
long_not_ok true f x out e = cc
long_not_ok false f x out e = (refl, e)

pub worded_are_read : WordedAreRead
worded_are_read n most text cubes =
    let both = lexes between 0 text tt in
    let is = lines_are text in (
      (λ e.
          let q = long_not_ok (ltb 65535 (length text)) _ (run n most BeforeLine1 [] (tokens_from text 0)) cubes e in
          let a = accepted n most BeforeLine1 [] (tokens_from text 0) cubes q.1 in
          let x = both.0 a.clean in
          record {
            short = short_text (length text) q.0;
            numerals = subst (Each (Each Numeral)) (sym is) (each_onto (here [] text) (below [] text) x.each x.eachs);
            lines = subst (λ ls. Lines n most ls cubes) (ap (λ l. onto l (after (tokens_from text 0))) x.words ∙ ap (onto (here [] text)) x.lines ∙ sym is) (subst (Lines n most (onto (ahead (tokens_from text 0)) (after (tokens_from text 0)))) (sym a.rest.0) a.rest.1);
          }),
      (λ s.
          let o = each_off (here [] text) (below [] text) (subst (Each (Each Numeral)) is s.numerals) in
          let c = both.1 o.0 o.1 in
          let x = both.0 c in
          cond-false _ _ _ (le-ltb _ _ s.short)
          ∙ reached n most BeforeLine1 [] (tokens_from text 0) cubes cubes c (refl, subst (λ ls. Lines n most ls cubes) (is ∙ sym (ap (λ l. onto l (after (tokens_from text 0))) x.words ∙ ap (onto (here [] text)) x.lines)) s.lines)),
    )
