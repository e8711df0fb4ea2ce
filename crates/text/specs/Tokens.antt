-- What a text says, token by token.
use Rattle.std.specs.Prelude.{◌≡◌, ℕ, ◌+◌, ◌-◌, ◌<◌, ◌≤◌, cond, List, [], ◌∷◌, ◌++◌, length, take, drop, Some, None, Ok, Err, Option, Result, nat_lt}
use Rattle.cube.specs.declared.refusal.Refusal.{Refusal}
use Rattle.cube.specs.Refusals.{fault_of}
use Rattle.text.specs.declared.bytes.Kind.TheVariants.{Separator, LineFeed, Minus, Digit, Other}
use Rattle.text.specs.declared.tokens.Token.{Token}
use Rattle.text.specs.declared.tokens.Token.TheVariants.{Number, LineEnd}
use Rattle.text.specs.Bytes.{kind}

-- a number's bytes and the offset of its first, or the offset of a line feed
pub data Tok : Type 0 where
  num : List ℕ → ℕ → Tok
  eol : ℕ → Tok

-- the tokens, and how they end: with the text, at its length, or at a fault, by number and offset
pub data Stream : Type 0 where
  tok : Tok → Stream → Stream
  end : ℕ → Stream
  bad : ℕ → ℕ → Stream

-- between tokens; right after a minus at `at`; in the digits of a number from `start`, whose first digit is at `first`, with the bytes so far
pub data Mode : Type 0 where
  between : Mode
  minus : ℕ → Mode
  digits : ℕ → ℕ → List ℕ → Mode

-- a number has ended at p: it has at most five digits
abbrev pub closed : ℕ → ℕ → List ℕ → ℕ → Stream → Stream
closed start first text p rest = cond (nat_lt 5 (p - first)) (bad 21 start) (tok (num text start) rest)

abbrev pub stream : Mode → ℕ → List ℕ → Stream
stream between p [] = end p
stream between p (b ∷ bs) =
    elim (kind b) [
      | Separator ↦ stream between (p + 1) bs
      | LineFeed ↦ tok (eol p) (stream between (p + 1) bs)
      | Minus ↦ stream (minus p) (p + 1) bs
      | Digit ↦ stream (digits p p (b ∷ [])) (p + 1) bs
      | Other ↦ bad 20 p
    ]
stream (minus at) p [] = bad 22 at
stream (minus at) p (b ∷ bs) =
    elim (kind b) [
      | Separator ↦ bad 22 at
      | LineFeed ↦ bad 22 at
      | Minus ↦ bad 22 at
      | Digit ↦ stream (digits at p (45 ∷ b ∷ [])) (p + 1) bs
      | Other ↦ bad 22 at
    ]
stream (digits start first text) p [] = closed start first text p (end p)
stream (digits start first text) p (b ∷ bs) =
    elim (kind b) [
      | Separator ↦ closed start first text p (stream between (p + 1) bs)
      | LineFeed ↦ closed start first text p (tok (eol p) (stream between (p + 1) bs))
      | Minus ↦ bad 20 p
      | Digit ↦ stream (digits start first (text ++ b ∷ [])) (p + 1) bs
      | Other ↦ bad 20 p
    ]

-- the bytes from start up to p
abbrev pub span : List ℕ → ℕ → ℕ → List ℕ
span xs start p = take (p - start) (drop start xs)

-- the tokens of xs from p on, with p between two tokens
abbrev pub tokens_from : List ℕ → ℕ → Stream
tokens_from xs p = stream between p (drop p xs)

abbrev pub tok_of : Token → Tok
tok_of (Number numeral at) = num numeral.text.now at
tok_of (LineEnd at) = eol at

-- the token t comes first in xs from p on, and it ends at q
pub record Step (xs : List ℕ) (p : ℕ) (t : Tok) (q : ℕ) : Type 0 where
  pub further : p < q
  pub within : q ≤ length xs
  pub same : tokens_from xs p ≡ tok t (tokens_from xs q)

-- the first thing in xs from p on is the fault f
abbrev pub Faulty : List ℕ → ℕ → Refusal → Type 0
Faulty xs p f = tokens_from xs p ≡ bad (fault_of f).number (fault_of f).offset

-- r is what comes first in xs from p on, and q is where it ends; a fault ends with the text
abbrev pub Next : List ℕ → ℕ → Option (Result Token Refusal) → ℕ → Type 0
Next xs p (Some (Ok t)) q = Step xs p (tok_of t) q
Next xs p (Some (Err f)) q = Faulty xs p f × (q ≡ length xs)
Next xs p None q = (tokens_from xs p ≡ end (length xs)) × (q ≡ length xs)
