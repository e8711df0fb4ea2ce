-- Signed numbers within a range.
use Rattle.std.specs.Prelude.{ℕ, ◌<◌, ◌⊎◌, ℤ, pos, negsuc}

-- z is not among the numbers from low to high
abbrev pub Outside : ℕ → ℕ → ℤ → Type 0
Outside low high (pos k) = (k < low) ⊎ (high < k)
Outside low high (negsuc k) = Unit {0}
