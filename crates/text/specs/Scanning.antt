-- Where a number begins and ends.
use Rattle.std.specs.Prelude.{◌≡◌, ℕ, ◌+◌, ◌<◌, ◌≤◌, List, length, drop}
use Rattle.text.specs.Tokens.{num, tok, digits, stream, span, tokens_from}

-- a number begins at start, and its first digit is at first
pub record Opens (xs : List ℕ) (start first : ℕ) : Type 0 where
  pub after : start ≤ first
  pub near : first ≤ start + 1
  pub within : first < length xs
  pub same : tokens_from xs start ≡ stream (digits start first (span xs start (first + 1))) (first + 1) (drop (first + 1) xs)

-- the token at start is a number, and it ends at end
pub record Closes (xs : List ℕ) (start end : ℕ) : Type 0 where
  pub after : start < end
  pub near : end ≤ start + 6
  pub within : end ≤ length xs
  pub same : tokens_from xs start ≡ tok (num (span xs start end) start) (tokens_from xs end)
