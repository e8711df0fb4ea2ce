-- What a call of the tokens' iterator gives.
use Rattle.std.specs.Prelude.{◌≡◌, ◌-◌, length, Option, Result}
use Rattle.std.specs.Iterator.{Count, at_most}
use Rattle.cube.specs.declared.refusal.Refusal.{Refusal}
use Rattle.text.specs.declared.tokens.Token.{Token}
use Rattle.text.specs.declared.tokens.Tokens.{Tokens}
use Rattle.text.specs.Tokens.{Next}

-- the call gave r, what came first from the iterator's place on, and left it at r's end in the same text
abbrev pub Gives : Tokens → Option (Result Token Refusal) → Tokens → Type 0
Gives s r t = (t.text.now ≡ s.text.now) × Next s.text.now s.place r t.place

-- each token takes a byte at least
abbrev pub bytes_left : Tokens → Count
bytes_left s = at_most (length s.text.now - s.place)
