-- The tokens of a text are the words of its lines.
use Rattle.std.proofs.Common.{◌≡◌, ℕ, ◌+◌, ◌-◌, ◌<◌, ◌≤◌, true, false, cond, ◌⊎◌, List, [], ◌∷◌, ◌++◌, map, length, sym, refl, ap, ◌∙◌, subst, inl, inr, ⊎_elim, append_assoc, append-nil, arith}
use Rattle.std.proofs.lemmas.Bool.{lt-ltb, le-ltb, cond-true, cond-false, cases_lt}
use Rattle.std.proofs.lemmas.Bool.Decides.{nat_tests}
use Rattle.std.proofs.lemmas.List.{length_push}
use Rattle.text.specs.declared.bytes.Kind.{Kind}
use Rattle.text.specs.declared.bytes.Kind.TheVariants.{Separator, LineFeed, Minus, Digit, Other}
use Rattle.text.specs.Bytes.{kind}
use Rattle.text.specs.Tokens.{Stream, tok, end, bad, num, eol, Mode, between, minus, digits, stream, closed}
use Rattle.sheet.specs.Sheet.{Each, Decimal, Numeral}
use Rattle.text.specs.Words.{Word, split, onto, kept, feed, gap, words_of, lines_of}
use Rattle.sheet.proofs.Worded.{Line}

-- the words of the line at hand, with w before the text; the lines after it
abbrev pub here : Word → List ℕ → Line
here w [] = onto w []
here w (b ∷ bs) = cond (feed b) (onto w []) (cond (gap b) (onto w (here [] bs)) (here (w ++ b ∷ []) bs))

abbrev pub below : Word → List ℕ → List Line
below w [] = []
below w (b ∷ bs) = cond (feed b) (onto (here [] bs) (below [] bs)) (cond (gap b) (below [] bs) (below (w ++ b ∷ []) bs))

onto_end : {X : Type 0} (x : List X) (xs ys : List (List X)) → onto x (xs ++ ys) ≡ onto x xs ++ ys
onto_end [] xs ys = refl
onto_end (a ∷ x) xs ys = refl

-- p is the line up to here: ws are its words, and w is the word at hand
split_lines : (p w : List ℕ) (ws : Line) (bs : List ℕ) → ((r : List ℕ) → words_of (p ++ r) ≡ ws ++ kept (split gap w r)) → kept (map words_of (split feed p bs)) ≡ onto (ws ++ here w bs) (below w bs)
split_lines p w ws [] h = ap (λ l. onto l []) (sym (ap words_of (append-nil p)) ∙ h [])
split_lines p w ws (b ∷ bs) h =
    elim (feed b) as (λ f. feed b ≡ f → kept (map words_of (split feed p (b ∷ bs))) ≡ onto (ws ++ here w (b ∷ bs)) (below w (b ∷ bs))) [
      | true ↦ λ f. rw f (ap (λ l. onto l (kept (map words_of (split feed [] bs)))) (sym (ap words_of (append-nil p)) ∙ h []) ∙ ap (onto (ws ++ onto w [])) (split_lines [] [] [] bs (λ r. refl)))
      | false ↦ λ f. rw f (elim (gap b) as (λ g. gap b ≡ g → kept (map words_of (split feed (p ++ b ∷ []) bs)) ≡ onto (ws ++ cond (gap b) (onto w (here [] bs)) (here (w ++ b ∷ []) bs)) (cond (gap b) (below [] bs) (below (w ++ b ∷ []) bs))) [
        | true ↦ λ g. rw g (split_lines (p ++ b ∷ []) [] (ws ++ onto w []) bs (λ r. ap words_of (append_assoc p (b ∷ []) r) ∙ h (b ∷ r) ∙ rw g (ap (λ z. ws ++ z) (onto_end w [] (kept (split gap [] r))) ∙ sym (append_assoc ws (onto w []) (kept (split gap [] r))))) ∙ ap (λ l. onto l (below [] bs)) (append_assoc ws (onto w []) (here [] bs) ∙ ap (λ z. ws ++ z) (sym (onto_end w [] (here [] bs)))))
        | false ↦ λ g. rw g (split_lines (p ++ b ∷ []) (w ++ b ∷ []) ws bs (λ r. ap words_of (append_assoc p (b ∷ []) r) ∙ h (b ∷ r) ∙ rw g))
      ] refl)
    ] refl

pub lines_are : (text : List ℕ) → lines_of text ≡ onto (here [] text) (below [] text)
lines_are text = split_lines [] [] [] text (λ r. refl)

-- the words and lines that a stream has
abbrev pub ahead : Stream → Line
ahead (tok (num w at) s) = w ∷ ahead s
ahead (tok (eol at) s) = []
ahead (end at) = []
ahead (bad code at) = []

abbrev pub after : Stream → List Line
after (tok (num w at) s) = after s
after (tok (eol at) s) = onto (ahead s) (after s)
after (end at) = []
after (bad code at) = []

abbrev pub Clean : Stream → Type 0
Clean (tok t s) = Clean s
Clean (end at) = Unit {0}
Clean (bad code at) = ⊥

-- the stream has the words l and then the lines ls, all numerals
pub record Lexed (s : Stream) (l : Line) (ls : List Line) : Type 0 where
  pub words : ahead s ≡ l
  pub lines : after s ≡ ls
  pub each : Each Numeral l
  pub eachs : Each (Each Numeral) ls

abbrev pub Both : Stream → Line → List Line → Type 0
Both s l ls = (Clean s → Lexed s l ls) × (Each Numeral l → Each (Each Numeral) ls → Clean s)

both_by : (s t : Stream) (l k : Line) (ls ks : List Line) → s ≡ t → l ≡ k → ls ≡ ks → Both t k ks → Both s l ls
both_by s t l k ls ks e f g h = subst (λ x. Both x l ls) (sym e) (subst (λ x. Both t x ls) (sym f) (subst (λ x. Both t k x) (sym g) h))

both_end : (p : ℕ) → Both (end p) [] []
both_end p = (λ _. record { words = refl; lines = refl; each = tt; eachs = tt }, λ _ _. tt)

pub each_onto : (l : Line) (ls : List Line) → Each Numeral l → Each (Each Numeral) ls → Each (Each Numeral) (onto l ls)
each_onto [] ls h hs = hs
each_onto (w ∷ l) ls h hs = (h, hs)

pub each_off : (l : Line) (ls : List Line) → Each (Each Numeral) (onto l ls) → Each Numeral l × Each (Each Numeral) ls
each_off [] ls hs = (tt, hs)
each_off (w ∷ l) ls hs = hs

both_eol : (p : ℕ) (s : Stream) (l : Line) (ls : List Line) → Both s l ls → Both (tok (eol p) s) [] (onto l ls)
both_eol p s l ls h = (
  λ c. let x = h.0 c in record { words = refl; lines = ap (λ z. onto z (after s)) x.words ∙ ap (onto l) x.lines; each = tt; eachs = each_onto l ls x.each x.eachs },
  λ _ es. let x = each_off l ls es in h.1 x.0 x.1,
)

both_num : (w : Word) (at : ℕ) (s : Stream) (l : Line) (ls : List Line) → Numeral w → Both s l ls → Both (tok (num w at) s) (w ∷ l) ls
both_num w at s l ls n h = (
  λ c. let x = h.0 c in record { words = ap (λ z. w ∷ z) x.words; lines = x.lines; each = (n, x.each); eachs = x.eachs },
  λ e es. h.1 e.1 es,
)

both_bad : (code at : ℕ) (l : Line) (ls : List Line) → (Each Numeral l → ⊥) → Both (bad code at) l ls
both_bad code at l ls never = (λ c. absurd c, λ e _. never e)

module _ (b : ℕ) where
  separates : kind b ≡ Separator → (feed b ≡ false) × (gap b ≡ true)
  separates e = (grind (arith, nat_tests), grind (arith, nat_tests))

  feeds : kind b ≡ LineFeed → feed b ≡ true
  feeds e = grind (arith, nat_tests)

  minus_is : kind b ≡ Minus → b ≡ 45
  minus_is e = grind (arith, nat_tests)

  digit_is : kind b ≡ Digit → Decimal b
  digit_is e = (grind (arith, nat_tests), grind (arith, nat_tests))

  digit_not : (kind b ≡ Digit → ⊥) → Decimal b → ⊥
  digit_not never d = never (grind (arith, nat_tests))

  fills_minus : kind b ≡ Minus → (feed b ≡ false) × (gap b ≡ false)
  fills_minus e = (grind (arith, nat_tests), grind (arith, nat_tests))

  fills_digit : kind b ≡ Digit → (feed b ≡ false) × (gap b ≡ false)
  fills_digit e = (grind (arith, nat_tests), grind (arith, nat_tests))

  fills_other : kind b ≡ Other → (feed b ≡ false) × (gap b ≡ false)
  fills_other e = (grind (arith, nat_tests), grind (arith, nat_tests))

module _ (w : Word) (b : ℕ) (bs : List ℕ) where
  here_feed : feed b ≡ true → here w (b ∷ bs) ≡ onto w []
  here_feed f = rw (here, f)

  below_feed : feed b ≡ true → below w (b ∷ bs) ≡ onto (here [] bs) (below [] bs)
  below_feed f = rw (below, f)

  here_gap : (feed b ≡ false) × (gap b ≡ true) → here w (b ∷ bs) ≡ onto w (here [] bs)
  here_gap h = rw (here, h.0, h.1)

  below_gap : (feed b ≡ false) × (gap b ≡ true) → below w (b ∷ bs) ≡ below [] bs
  below_gap h = rw (below, h.0, h.1)

  here_more : (feed b ≡ false) × (gap b ≡ false) → here w (b ∷ bs) ≡ here (w ++ b ∷ []) bs
  here_more h = rw (here, h.0, h.1)

  below_more : (feed b ≡ false) × (gap b ≡ false) → below w (b ∷ bs) ≡ below (w ++ b ∷ []) bs
  below_more h = rw (below, h.0, h.1)

-- a word goes on to its end
grown : (a : ℕ) (w : Word) (bs : List ℕ) → (u : List ℕ) × (l : Line) × (here (a ∷ w) bs ≡ (a ∷ (w ++ u)) ∷ l)
grown a w [] = ([], [], ap (λ z. (a ∷ z) ∷ []) (sym (append-nil w)))
grown a w (b ∷ bs) =
    elim (feed b) as (λ f. feed b ≡ f → (u : List ℕ) × (l : Line) × (here (a ∷ w) (b ∷ bs) ≡ (a ∷ (w ++ u)) ∷ l)) [
      | true ↦ λ f. ([], [], here_feed (a ∷ w) b bs f ∙ ap (λ z. (a ∷ z) ∷ []) (sym (append-nil w)))
      | false ↦ λ f. elim (gap b) as (λ g. gap b ≡ g → (u : List ℕ) × (l : Line) × (here (a ∷ w) (b ∷ bs) ≡ (a ∷ (w ++ u)) ∷ l)) [
        | true ↦ λ g. ([], here [] bs, here_gap (a ∷ w) b bs (f, g) ∙ ap (λ z. (a ∷ z) ∷ here [] bs) (sym (append-nil w)))
        | false ↦ λ g. let h = grown a (w ++ b ∷ []) bs in (b ∷ h.0, h.1, here_more (a ∷ w) b bs (f, g) ∙ h.2 ∙ ap (λ z. (a ∷ z) ∷ h.1) (append_assoc w (b ∷ []) h.0))
      ] refl
    ] refl

hopeless : (a : ℕ) (w : Word) (bs : List ℕ) → ((u : List ℕ) → Numeral (a ∷ (w ++ u)) → ⊥) → Each Numeral (here (a ∷ w) bs) → ⊥
hopeless a w bs never h = let g = grown a w bs in never g.0 (subst (Each Numeral) g.2 h).0

-- the bytes of a number so far, whose first digit is at first
abbrev Begun : Word → ℕ → ℕ → Type 0
Begun [] first p = ⊥
Begun (b ∷ ds) first p = ((b ≡ 45) × Each Decimal ds × (0 < length ds) × (p ≡ first + length ds)) ⊎ (Each Decimal (b ∷ ds) × (p ≡ first + length (b ∷ ds)))

abbrev Fits : Mode → ℕ → Type 0
Fits between p = Unit {0}
Fits (minus at) p = Unit {0}
Fits (digits start first text) p = Begun text first p

abbrev pending : Mode → Word
pending between = []
pending (minus at) = 45 ∷ []
pending (digits start first text) = text

each_first : (ds us : Word) → Each Decimal (ds ++ us) → Each Decimal us
each_first [] us h = h
each_first (d ∷ ds) us h = each_first ds us h.1

each_push : (ds : Word) (b : ℕ) → Each Decimal ds → Decimal b → Each Decimal (ds ++ b ∷ [])
each_push [] b h d = (d, tt)
each_push (x ∷ ds) b h d = (h.0, each_push ds b h.1 d)

-- a byte that is no digit, after the digits so far
stray : (b c : ℕ) (ds us : Word) → (Decimal c → ⊥) → Numeral (b ∷ ((ds ++ c ∷ []) ++ us)) → ⊥
stray b c ds us never (inl m) = never (each_first ds (c ∷ us) (subst (Each Decimal) (append_assoc ds (c ∷ []) us) m.1.each)).0
stray b c ds us never (inr m) = never (each_first ds (c ∷ us) (subst (Each Decimal) (append_assoc ds (c ∷ []) us) m.each.1)).0

lone_minus : Numeral (45 ∷ []) → ⊥
lone_minus (inl m) = omega (arith, m.1.some)
lone_minus (inr m) = omega (arith, m.each.0.0)

stray_first : (b : ℕ) (us : Word) → (b ≡ 45 → ⊥) → (Decimal b → ⊥) → Numeral (b ∷ us) → ⊥
stray_first b us m d (inl x) = m x.0
stray_first b us m d (inr x) = d x.each.0

begun_numeral : (b : ℕ) (ds : Word) (first p : ℕ) → Begun (b ∷ ds) first p → p - first ≤ 5 → Numeral (b ∷ ds)
begun_numeral b ds first p (inl h) few = inl (h.0, record { each = h.1; some = h.2; few = omega (arith, h.3) })
begun_numeral b ds first p (inr h) few = inr (record { each = h.0; some = omega arith; few = omega (arith, h.1) })

begun_long : (b : ℕ) (ds : Word) (first p : ℕ) → Begun (b ∷ ds) first p → 5 < p - first → Numeral (b ∷ ds) → ⊥
begun_long b ds first p (inl h) long (inl n) = omega (arith, h.3, n.1.few)
begun_long b ds first p (inl h) long (inr n) = omega (arith, h.0, n.each.0.0)
begun_long b ds first p (inr h) long (inl n) = omega (arith, n.0, h.0.0.0)
begun_long b ds first p (inr h) long (inr n) = omega (arith, h.1, n.few)

begun_more : (b : ℕ) (ds : Word) (first p c : ℕ) → Begun (b ∷ ds) first p → Decimal c → Begun (b ∷ (ds ++ c ∷ [])) first (p + 1)
begun_more b ds first p c (inl h) d = inl (h.0, each_push ds c h.1 d, simp length_push (omega arith), simp length_push (omega (arith, h.3)))
begun_more b ds first p c (inr h) d = inr (each_push (b ∷ ds) c h.0 d, simp length_push (omega (arith, h.1)))

both_closed : (start first p b : ℕ) (ds : Word) (s : Stream) (l : Line) (ls : List Line) → Begun (b ∷ ds) first p → Both s l ls → Both (closed start first (b ∷ ds) p s) ((b ∷ ds) ∷ l) ls
both_closed start first p b ds s l ls f h =
    ⊎_elim
    (λ lt. subst (λ z. Both z ((b ∷ ds) ∷ l) ls) (sym (cond-true _ _ _ (lt-ltb _ _ lt))) (both_bad 21 start ((b ∷ ds) ∷ l) ls (λ e. begun_long b ds first p f lt e.0)))
    (λ ge. subst (λ z. Both z ((b ∷ ds) ∷ l) ls) (sym (cond-false _ _ _ (le-ltb _ _ ge))) (both_num (b ∷ ds) start s l ls (begun_numeral b ds first p f ge) h))
    (cases_lt 5 (p - first))

abbrev Meets : Mode → ℕ → List ℕ → Type 0
Meets m p bs = Both (stream m p bs) (here (pending m) bs) (below (pending m) bs)

kinds_differ : {k : Kind} → k ≡ Other → k ≡ Digit → ⊥
kinds_differ e f = let z : ◌≡◌ {A = ℕ} 0 1 = cc in omega arith

minus_not_digit : {k : Kind} → k ≡ Minus → k ≡ Digit → ⊥
minus_not_digit e f = let z : ◌≡◌ {A = ℕ} 0 1 = cc in omega arith

other_not_minus : (b : ℕ) → kind b ≡ Other → b ≡ 45 → ⊥
other_not_minus b e f = grind (arith, nat_tests)

pub lexes : (m : Mode) (p : ℕ) (bs : List ℕ) → Fits m p → Meets m p bs
lexes between p [] f = both_end p
lexes between p (b ∷ bs) f =
    elim (kind b) as (λ k. kind b ≡ k → Meets between p (b ∷ bs)) [
      | Separator ↦ λ e. both_by _ _ _ _ _ _ (rw (stream, e)) (here_gap [] b bs (separates b e)) (below_gap [] b bs (separates b e)) (lexes between (p + 1) bs tt)
      | LineFeed ↦ λ e. both_by _ _ _ _ _ _ (rw (stream, e)) (here_feed [] b bs (feeds b e)) (below_feed [] b bs (feeds b e)) (both_eol p _ _ _ (lexes between (p + 1) bs tt))
      | Minus ↦ λ e. both_by _ _ _ _ _ _ (rw (stream, e)) (here_more [] b bs (fills_minus b e) ∙ ap (λ z. here (z ∷ []) bs) (minus_is b e)) (below_more [] b bs (fills_minus b e) ∙ ap (λ z. below (z ∷ []) bs) (minus_is b e)) (lexes (minus p) (p + 1) bs tt)
      | Digit ↦ λ e. both_by _ _ _ _ _ _ (rw (stream, e)) (here_more [] b bs (fills_digit b e)) (below_more [] b bs (fills_digit b e)) (lexes (digits p p (b ∷ [])) (p + 1) bs (inr ((digit_is b e, tt), refl)))
      | Other ↦ λ e. both_by _ _ _ _ _ _ (rw (stream, e)) (here_more [] b bs (fills_other b e)) (below_more [] b bs (fills_other b e)) (both_bad 20 p _ _ (hopeless b [] bs (λ u. stray_first b u (other_not_minus b e) (digit_not b (λ d. kinds_differ e d)))))
    ] refl
lexes (minus at) p [] f = both_bad 22 at _ _ (λ e. lone_minus e.0)
lexes (minus at) p (b ∷ bs) f =
    elim (kind b) as (λ k. kind b ≡ k → Meets (minus at) p (b ∷ bs)) [
      | Separator ↦ λ e. both_by _ _ _ _ _ _ (rw (stream, e)) (here_gap (45 ∷ []) b bs (separates b e)) (below_gap (45 ∷ []) b bs (separates b e)) (both_bad 22 at _ _ (λ h. lone_minus h.0))
      | LineFeed ↦ λ e. both_by _ _ _ _ _ _ (rw (stream, e)) (here_feed (45 ∷ []) b bs (feeds b e)) (below_feed (45 ∷ []) b bs (feeds b e)) (both_bad 22 at _ _ (λ h. lone_minus h.0))
      | Minus ↦ λ e. both_by _ _ _ _ _ _ (rw (stream, e)) (here_more (45 ∷ []) b bs (fills_minus b e)) (below_more (45 ∷ []) b bs (fills_minus b e)) (both_bad 22 at _ _ (hopeless 45 (b ∷ []) bs (λ u. stray 45 b [] u (digit_not b (λ d. minus_not_digit e d)))))
      | Digit ↦ λ e. both_by _ _ _ _ _ _ (rw (stream, e)) (here_more (45 ∷ []) b bs (fills_digit b e)) (below_more (45 ∷ []) b bs (fills_digit b e)) (lexes (digits at p (45 ∷ b ∷ [])) (p + 1) bs (inl (refl, (digit_is b e, tt), omega arith, refl)))
      | Other ↦ λ e. both_by _ _ _ _ _ _ (rw (stream, e)) (here_more (45 ∷ []) b bs (fills_other b e)) (below_more (45 ∷ []) b bs (fills_other b e)) (both_bad 22 at _ _ (hopeless 45 (b ∷ []) bs (λ u. stray 45 b [] u (digit_not b (λ d. kinds_differ e d)))))
    ] refl
lexes (digits start first []) p bs f = absurd f
lexes (digits start first (t ∷ ts)) p [] f = both_closed start first p t ts (end p) [] [] f (both_end p)
lexes (digits start first (t ∷ ts)) p (b ∷ bs) f =
    elim (kind b) as (λ k. kind b ≡ k → Meets (digits start first (t ∷ ts)) p (b ∷ bs)) [
      | Separator ↦ λ e. both_by _ _ _ _ _ _ (rw (stream, e)) (here_gap (t ∷ ts) b bs (separates b e)) (below_gap (t ∷ ts) b bs (separates b e)) (both_closed start first p t ts _ _ _ f (lexes between (p + 1) bs tt))
      | LineFeed ↦ λ e. both_by _ _ _ _ _ _ (rw (stream, e)) (here_feed (t ∷ ts) b bs (feeds b e)) (below_feed (t ∷ ts) b bs (feeds b e)) (both_closed start first p t ts _ _ _ f (both_eol p _ _ _ (lexes between (p + 1) bs tt)))
      | Minus ↦ λ e. both_by _ _ _ _ _ _ (rw (stream, e)) (here_more (t ∷ ts) b bs (fills_minus b e)) (below_more (t ∷ ts) b bs (fills_minus b e)) (both_bad 20 p _ _ (hopeless t (ts ++ b ∷ []) bs (λ u. stray t b ts u (digit_not b (λ d. minus_not_digit e d)))))
      | Digit ↦ λ e. both_by _ _ _ _ _ _ (rw (stream, e)) (here_more (t ∷ ts) b bs (fills_digit b e)) (below_more (t ∷ ts) b bs (fills_digit b e)) (lexes (digits start first (t ∷ (ts ++ b ∷ []))) (p + 1) bs (begun_more t ts first p b f (digit_is b e)))
      | Other ↦ λ e. both_by _ _ _ _ _ _ (rw (stream, e)) (here_more (t ∷ ts) b bs (fills_other b e)) (below_more (t ∷ ts) b bs (fills_other b e)) (both_bad 20 p _ _ (hopeless t (ts ++ b ∷ []) bs (λ u. stray t b ts u (digit_not b (λ d. kinds_differ e d)))))
    ] refl
