-- Texts laid over bytes, one after another.
use Rattle.std.proofs.Common.{◌≡◌, ℕ, suc, ◌+◌, ◌-◌, ◌^◌, ◌<◌, ◌≤◌, min, List, [], ◌∷◌, ◌++◌, length, drop, set, sym, refl, ap, ◌∙◌, subst, ⊎_elim, add-zero, arith, length-append}
use Rattle.std.proofs.lemmas.Bool.{cases_lt}
use Rattle.std.proofs.lemmas.List.{set_past}
use Rattle.text.specs.Output.{overlay, Overlaid, Lays}
use Rattle.text.specs.declared.output.Writer.{Writer}

pub overlay_append : (out : List ℕ) (at : ℕ) (xs ys : List ℕ) → overlay out at (xs ++ ys) ≡ overlay (overlay out at xs) (at + length xs) ys
overlay_append out at [] ys = rw add-zero
overlay_append out at (x ∷ xs) ys =
    let e : at + 1 + length xs ≡ at + suc (length xs) = omega arith in
    overlay_append (set out at x) (at + 1) xs ys ∙ rw e

overlay_under : (b : ℕ) (out : List ℕ) (at : ℕ) (xs : List ℕ) → overlay (b ∷ out) (suc at) xs ≡ b ∷ overlay out at xs
overlay_under b out at [] = refl
overlay_under b out at (x ∷ xs) =
    let e : suc at + 1 ≡ suc (at + 1) = omega arith in
    ap (λ i. overlay (b ∷ set out at x) i xs) e ∙ overlay_under b (set out at x) (at + 1) xs

pub overlay_fits : (out text : List ℕ) → length text ≤ length out → overlay out 0 text ≡ text ++ drop (length text) out
overlay_fits out [] h = refl
overlay_fits [] (b ∷ text) h = absurd (omega arith)
overlay_fits (o ∷ out) (b ∷ text) h = overlay_under b out 0 text ∙ ap (λ l. b ∷ l) (overlay_fits out text (omega arith))

overlay_past : (out : List ℕ) (at : ℕ) (xs : List ℕ) → length out ≤ at → overlay out at xs ≡ out
overlay_past out at [] h = refl
overlay_past out at (x ∷ xs) h = rw (set_past out at x h) (overlay_past out (at + 1) xs (omega arith))

-- where a place is counted no further, it is past the end
overlay_counted : (out : List ℕ) (at : ℕ) (xs : List ℕ) → length out < 2 ^ 64 → overlay out (min (2 ^ 64 - 1) at) xs ≡ overlay out at xs
overlay_counted out at xs h =
    ⊎_elim
    (λ lt. let e : min (2 ^ 64 - 1) at ≡ at = omega arith in ap (λ i. overlay out i xs) e)
    (λ ge. overlay_past out (min (2 ^ 64 - 1) at) xs (omega arith) ∙ sym (overlay_past out at xs (omega arith)))
    (cases_lt at (2 ^ 64))

pub laid_front : {out text out' : List ℕ} {r : ℕ} → Overlaid out 0 text r out' → length text ≤ length out → length out < 2 ^ 64 → (r ≡ length text) × (out' ≡ text ++ drop r out)
laid_front {out} {text} {out'} {r} l h few =
    let e : r ≡ length text = omega (arith, l.place) in
    (e, l.over ∙ overlay_fits out text h ∙ ap (λ k. text ++ drop k out) (sym e))

pub lays_none : (w : Writer) → Lays w [] w
lays_none w = record { same_reference = refl; laid = record { place = omega (arith, w.countable.1); over = refl } }

pub lays_then : {w m w' : Writer} {xs ys : List ℕ} → Lays w xs m → Lays m ys w' → Lays w (xs ++ ys) w'
lays_then {w} {m} {w'} {xs} {ys} a b =
    record {
      same_reference = b.same_reference ∙ a.same_reference;
      laid = record {
        place = omega (arith, a.laid.place, b.laid.place, length-append xs ys);
        over = b.laid.over ∙ ap (λ i. overlay m.out.now i ys) a.laid.place ∙ overlay_counted m.out.now (w.end + length xs) ys m.countable.0 ∙ ap (λ o. overlay o (w.end + length xs) ys) a.laid.over ∙ sym (overlay_append w.out.now w.end xs ys);
      };
    }

pub lays_as : {w w' : Writer} {xs ys : List ℕ} → xs ≡ ys → Lays w xs w' → Lays w ys w'
lays_as {w} {w'} e a = subst (λ z. Lays w z w') e a
