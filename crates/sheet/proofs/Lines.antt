-- The text of a sheet, piece by piece.
use Rattle.std.proofs.Common.{◌≡◌, ◌≢◌, ℕ, zero, suc, ◌+◌, ◌-◌, ◌<◌, ◌≤◌, List, [], ◌∷◌, ◌++◌, map, length, get_or, take, decimal, sym, refl, ap, ◌∙◌, append_assoc, append-nil, add-zero, arith, length-append, length-take-le}
use Rattle.std.proofs.lemmas.List.{take_more, map_push}
use Rattle.cube.specs.declared.slot.Slot.{Slot}
use Rattle.cube.specs.declared.slot.Slot.TheVariants.{No, Yes, Blank}
use Rattle.cube.specs.Slots.{Cube, Cover, blank_above}
use Rattle.text.specs.Output.{Lays}
use Rattle.text.specs.declared.output.Writer.{Writer}
use Rattle.text.proofs.Overlays.{lays_then, lays_as}
use Rattle.sheet.specs.Writing.{filled, write_literal, write_literals, write_cube, write_cubes, write_sheet}

literals_push : (k : ℕ) (c : Cube) (v : Slot) → write_literals k (c ++ v ∷ []) ≡ write_literals k c ++ write_literal (k + length c) v
literals_push k [] v = append-nil (write_literal k v) ∙ ap (λ i. write_literal i v) (sym (add-zero k))
literals_push k (x ∷ c) v =
    let e : k + 1 + length c ≡ k + suc (length c) = omega arith in
    ap (λ z. write_literal k x ++ z) (literals_push (k + 1) c v ∙ ap (λ i. write_literals (k + 1) c ++ write_literal i v) e)
    ∙ sym (append_assoc (write_literal k x) (write_literals (k + 1) c) (write_literal (k + suc (length c)) v))

pub literals_more : (c : Cube) (i : ℕ) → i < length c → write_literals 1 (take i c) ++ write_literal (i + 1) (get_or c i Blank) ≡ write_literals 1 (take (i + 1) c)
literals_more c i h =
    let l : length (take i c) ≡ i = length-take-le i c (omega arith) in
    let e : i + 1 ≡ 1 + length (take i c) = omega arith in
    ap (λ j. write_literals 1 (take i c) ++ write_literal j (get_or c i Blank)) e ∙ sym (literals_push 1 (take i c) (get_or c i Blank)) ∙ ap (write_literals 1) (sym (take_more c i Blank h))

-- the literal of the variable v, after those of the variables before it
pub literal_next : {w m w' : Writer} (c : Cube) (v k : ℕ) (s : Slot) → 0 < v → v ≤ length c → k ≡ v → s ≡ get_or c (v - 1) Blank → Lays w (write_literals 1 (take (v - 1) c)) m → Lays m (write_literal v s) w' → Lays w (write_literals 1 (take k c)) w'
literal_next c v k s some fits e is a b =
    let i : v - 1 + 1 ≡ v = omega arith in
    lays_as (ap (λ x. write_literals 1 (take (v - 1) c) ++ write_literal v x) is ∙ ap (λ j. write_literals 1 (take (v - 1) c) ++ write_literal j (get_or c (v - 1) Blank)) (sym i) ∙ literals_more c (v - 1) (omega arith) ∙ ap (λ j. write_literals 1 (take j c)) (i ∙ sym e)) (lays_then a b)

filled_push : (c : Cube) (v : Slot) → filled (c ++ v ∷ []) ≡ filled c + filled (v ∷ [])
filled_push [] No = refl
filled_push [] Yes = refl
filled_push [] Blank = refl
filled_push (No ∷ c) v = omega (arith, filled_push c v)
filled_push (Yes ∷ c) v = omega (arith, filled_push c v)
filled_push (Blank ∷ c) v = filled_push c v

pub filled_more : (c : Cube) (i : ℕ) → i < length c → filled (take (i + 1) c) ≡ filled (take i c) + filled (get_or c i Blank ∷ [])
filled_more c i h = ap filled (take_more c i Blank h) ∙ filled_push (take i c) (get_or c i Blank)

-- as many as before the variable v, and one more if its slot is not Blank
pub filled_next : (c : Cube) (v : ℕ) (s : Slot) → 0 < v → v ≤ length c → s ≡ get_or c (v - 1) Blank → filled (take v c) ≡ filled (take (v - 1) c) + filled (s ∷ [])
filled_next c v s some fits is =
    let i : v - 1 + 1 ≡ v = omega arith in
    ap (λ j. filled (take j c)) (sym i) ∙ filled_more c (v - 1) (omega arith) ∙ ap (λ x. filled (take (v - 1) c) + filled (x ∷ [])) (sym is)

pub filled_one : (s : Slot) → s ≢ Blank → filled (s ∷ []) ≡ 1
filled_one No h = refl
filled_one Yes h = refl
filled_one Blank h = absurd (h refl)

pub filled_none : (s : Slot) → s ≡ Blank → filled (s ∷ []) ≡ 0
filled_none s e = ap (λ x. filled (x ∷ [])) e

pub filled_few : (s : Slot) → filled (s ∷ []) ≤ 1
filled_few No = omega arith
filled_few Yes = omega arith
filled_few Blank = omega arith

no_literals : (k : ℕ) (c : Cube) → write_literals k (blank_above zero c) ≡ []
no_literals k [] = refl
no_literals k (v ∷ c) = no_literals (k + 1) c

literals_above : (n k : ℕ) (c : Cube) → write_literals k (blank_above n c) ≡ write_literals k (take n c)
literals_above zero k c = no_literals k c
literals_above (suc n) k [] = refl
literals_above (suc n) k (v ∷ c) = ap (λ z. write_literal k v ++ z) (literals_above n (k + 1) c)

none_filled : (c : Cube) → filled (blank_above zero c) ≡ 0
none_filled [] = refl
none_filled (v ∷ c) = none_filled c

filled_above : (n : ℕ) (c : Cube) → filled (blank_above n c) ≡ filled (take n c)
filled_above zero c = none_filled c
filled_above (suc n) [] = refl
filled_above (suc n) (No ∷ c) = ap suc (filled_above n c)
filled_above (suc n) (Yes ∷ c) = ap suc (filled_above n c)
filled_above (suc n) (Blank ∷ c) = filled_above n c

pub cube_above : (n : ℕ) (c : Cube) → decimal (filled (take n c)) ++ (write_literals 1 (take n c) ++ 10 ∷ []) ≡ write_cube (blank_above n c)
cube_above n c =
    ap (λ k. decimal k ++ (write_literals 1 (take n c) ++ 10 ∷ [])) (sym (filled_above n c))
    ∙ ap (λ z. decimal (filled (blank_above n c)) ++ (z ++ 10 ∷ [])) (sym (literals_above n 1 c))

-- the line of a cube, with as many literals as there are
pub cube_lays : {w a b w' : Writer} (n k : ℕ) (c : Cube) → Lays w (decimal k) a → Lays a (write_literals 1 (take n c)) b → Lays b (10 ∷ []) w' → k ≡ filled (take n c) → Lays w (write_cube (blank_above n c)) w'
cube_lays n k c x y z e = lays_as (ap (λ i. decimal i ++ (write_literals 1 (take n c) ++ 10 ∷ [])) e ∙ cube_above n c) (lays_then x (lays_then y z))

cubes_push : (cs : Cover) (c : Cube) → write_cubes (cs ++ c ∷ []) ≡ write_cubes cs ++ write_cube c
cubes_push [] c = append-nil (write_cube c)
cubes_push (x ∷ cs) c = ap (λ z. write_cube x ++ z) (cubes_push cs c) ∙ sym (append_assoc (write_cube x) (write_cubes cs) (write_cube c))

-- the lines of one more cube, whatever the notation
pub cubes_more : {X : Type 0} (n : ℕ) (f : X → Cube) (xs : List X) (i : ℕ) (x : X) → i < length xs → x ≡ get_or xs i x → write_cubes (map (blank_above n) (map f (take i xs))) ++ write_cube (blank_above n (f x)) ≡ write_cubes (map (blank_above n) (map f (take (i + 1) xs)))
cubes_more n f xs i x h e =
    let grown : take (i + 1) xs ≡ take i xs ++ x ∷ [] = take_more xs i x h ∙ ap (λ y. take i xs ++ y ∷ []) (sym e) in
    sym (cubes_push (map (blank_above n) (map f (take i xs))) (blank_above n (f x)))
    ∙ ap write_cubes (sym (map_push (blank_above n) (map f (take i xs)) (f x)) ∙ ap (map (blank_above n)) (sym (map_push f (take i xs) x) ∙ ap (map f) (sym grown)))

pub sheet_pieces : (n : ℕ) (cs : Cover) → (decimal n ++ 10 ∷ (decimal (length cs) ++ 10 ∷ [])) ++ write_cubes cs ≡ write_sheet n cs
sheet_pieces n cs = append_assoc (decimal n) (10 ∷ (decimal (length cs) ++ 10 ∷ [])) (write_cubes cs) ∙ ap (λ z. decimal n ++ 10 ∷ z) (append_assoc (decimal (length cs)) (10 ∷ []) (write_cubes cs))

cubes_long : (cs : Cover) → length cs ≤ length (write_cubes cs)
cubes_long [] = omega arith
cubes_long (c ∷ cs) = omega (arith, cubes_long cs, length-append (write_cube c) (write_cubes cs), length-append (decimal (filled c)) (write_literals 1 c ++ 10 ∷ []), length-append (write_literals 1 c) (10 ∷ []))

-- a sheet has more bytes than cubes
pub sheet_long : (n : ℕ) (cs : Cover) → length cs ≤ length (write_sheet n cs)
sheet_long n cs = omega (arith, cubes_long cs, ap length (sheet_pieces n cs), length-append (decimal n ++ 10 ∷ (decimal (length cs) ++ 10 ∷ [])) (write_cubes cs))

-- the same texts with what follows them, which a reading takes apart from the front
abbrev pub literals_onto : ℕ → Cube → List ℕ → List ℕ
literals_onto k [] rest = rest
literals_onto k (No ∷ c) rest = 32 ∷ 45 ∷ (decimal k ++ literals_onto (k + 1) c rest)
literals_onto k (Yes ∷ c) rest = 32 ∷ (decimal k ++ literals_onto (k + 1) c rest)
literals_onto k (Blank ∷ c) rest = literals_onto (k + 1) c rest

abbrev pub cubes_onto : Cover → List ℕ
cubes_onto [] = []
cubes_onto (c ∷ cs) = decimal (filled c) ++ literals_onto 1 c (10 ∷ cubes_onto cs)

onto_literals : (k : ℕ) (c : Cube) (rest : List ℕ) → write_literals k c ++ rest ≡ literals_onto k c rest
onto_literals k [] rest = refl
onto_literals k (No ∷ c) rest = ap (λ z. 32 ∷ 45 ∷ z) (append_assoc (decimal k) (write_literals (k + 1) c) rest ∙ ap (λ z. decimal k ++ z) (onto_literals (k + 1) c rest))
onto_literals k (Yes ∷ c) rest = ap (λ z. 32 ∷ z) (append_assoc (decimal k) (write_literals (k + 1) c) rest ∙ ap (λ z. decimal k ++ z) (onto_literals (k + 1) c rest))
onto_literals k (Blank ∷ c) rest = onto_literals (k + 1) c rest

pub onto_cubes : (cs : Cover) → write_cubes cs ≡ cubes_onto cs
onto_cubes [] = refl
onto_cubes (c ∷ cs) =
    append_assoc (decimal (filled c)) (write_literals 1 c ++ 10 ∷ []) (write_cubes cs)
    ∙ ap (λ z. decimal (filled c) ++ z) (append_assoc (write_literals 1 c) (10 ∷ []) (write_cubes cs) ∙ onto_literals 1 c (10 ∷ write_cubes cs) ∙ ap (λ z. literals_onto 1 c (10 ∷ z)) (onto_cubes cs))
