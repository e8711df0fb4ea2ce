-- The lines of a command text.
use Rattle.std.specs.Prelude.{ℕ, ◌+◌, List, [], ◌∷◌, length}
use Rattle.text.specs.Words.{split, feed}

-- its number from 1, the offset of its first byte, and its bytes without the LF
pub record Line : Type 0 where
  pub number : ℕ
  pub at : ℕ
  pub bytes : List ℕ

abbrev pub numbered : ℕ → ℕ → List (List ℕ) → List Line
numbered number at [] = []
numbered number at (bytes ∷ rest) = record { number = number; at = at; bytes = bytes } ∷ numbered (number + 1) (at + length bytes + 1) rest

-- an LF ends a line; the last needs none
abbrev pub lines_of : List ℕ → List Line
lines_of text = numbered 1 0 (split feed [] text)
