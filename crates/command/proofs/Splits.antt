-- A text split at its line feeds, from a place on.
use Rattle.std.proofs.Common.{◌≡◌, ℕ, ◌+◌, ◌<◌, ◌≤◌, min, List, [], ◌∷◌, ◌++◌, length, get_or, take, drop, sym, ap, ◌∙◌, ⊎_elim, arith, length-drop, length-take}
use lib.Seq.{drop-append-le}
use Rattle.std.proofs.lemmas.List.{at_drop_more, at_drop_all, take_more}
use Rattle.std.proofs.lemmas.Bool.{cases_lt, eq-eqb, ne_eqb, cond-true, cond-false}
use Rattle.text.specs.Words.{split, feed}
use Rattle.text.proofs.Runs.{same_up_to}
use Rattle.command.specs.Lines.{numbered}

pub no_line : (xs : List ℕ) (from : ℕ) → split feed (drop from (take from xs)) (drop from xs) ≡ split feed [] (drop from xs)
no_line xs from = at_drop_all (λ w. split feed w (drop from xs)) (take from xs) from (simp length-take (omega arith))

module _ (xs : List ℕ) (p : ℕ) (h : p < length xs) where
  pub no_feed : (from : ℕ) → from ≤ p → (get_or xs p 0 ≡ 10 → ⊥) → split feed (drop from (take p xs)) (drop p xs) ≡ split feed (drop from (take (p + 1) xs)) (drop (p + 1) xs)
  no_feed from s ne =
      let room : from ≤ length (take p xs) = simp length-take (omega arith) in
      let grown : drop from (take (p + 1) xs) ≡ drop from (take p xs) ++ get_or xs p 0 ∷ [] = ap (drop from) (take_more xs p 0 h) ∙ drop-append-le from (take p xs) _ room in
      at_drop_more (split feed (drop from (take p xs))) xs p 0 h ∙ cond-false _ _ _ (ne_eqb _ _ ne) ∙ ap (λ w. split feed w (drop (p + 1) xs)) (sym grown)

  pub at_feed : (w : List ℕ) → get_or xs p 0 ≡ 10 → split feed w (drop p xs) ≡ w ∷ split feed [] (drop (p + 1) xs)
  at_feed w e = at_drop_more (split feed w) xs p 0 h ∙ cond-true _ _ _ (eq-eqb _ _ e)

-- the line from `from` up to the line feed at p comes first, and after p the other lines
pub line_then : (xs : List ℕ) (number from p : ℕ) → from ≤ p → p < length xs → get_or xs p 0 ≡ 10 → split feed [] (drop from xs) ≡ split feed (drop from (take p xs)) (drop p xs) → numbered number from (split feed [] (drop from xs)) ≡ record { number = number; at = from; bytes = drop from (take p xs) } ∷ numbered (number + 1) (p + 1) (split feed [] (drop (p + 1) xs))
line_then xs number from p s h e same =
    let next : from + length (drop from (take p xs)) + 1 ≡ p + 1 = simp (length-drop, length-take) (omega arith) in
    ap (numbered number from) (same ∙ at_feed xs p h (drop from (take p xs)) e) ∙ ap (λ at. record { number = number; at = from; bytes = drop from (take p xs) } ∷ numbered (number + 1) at (split feed [] (drop (p + 1) xs))) next

pub line_last : (xs : List ℕ) (number from p : ℕ) → length xs ≤ p → split feed [] (drop from xs) ≡ split feed (drop from (take p xs)) (drop p xs) → numbered number from (split feed [] (drop from xs)) ≡ record { number = number; at = from; bytes = drop from (take p xs) } ∷ []
line_last xs number from p h same = ap (numbered number from) (same ∙ at_drop_all (split feed (drop from (take p xs))) xs p h)

-- no line ends before p
pub up_to_feed : (xs : List ℕ) (from p : ℕ) → min from (length xs) ≤ p → p ≤ length xs → ((k : ℕ) → from + k < p → get_or xs (from + k) 0 ≡ 10 → ⊥) → split feed [] (drop from xs) ≡ split feed (drop from (take p xs)) (drop p xs)
up_to_feed xs from p after within none =
    ⊎_elim
    (λ lt. sym (no_line xs from) ∙ same_up_to (λ q. split feed (drop from (take q xs)) (drop q xs)) from p (omega arith) (λ k h. no_feed xs (from + k) (omega arith) from (omega arith) (none k h)))
    (λ ge. at_drop_all (split feed []) xs from ge ∙ sym (at_drop_all (λ w. split feed w (drop p xs)) (take p xs) from (simp length-take (omega arith)) ∙ at_drop_all (split feed []) xs p (omega arith)))
    (cases_lt from (length xs))
