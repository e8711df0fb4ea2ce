-- What each byte is to a text of numbers.
use Rattle.std.specs.Prelude.{ℕ, Bool, cond, ◌&&◌, ◌||◌, ◌==◌, nat_le}
use Rattle.text.specs.declared.bytes.Kind.{Kind}
use Rattle.text.specs.declared.bytes.Kind.TheVariants.{Separator, LineFeed, Minus, Digit, Other}

abbrev pub digit : ℕ → Bool
digit b = nat_le 48 b && nat_le b 57

-- space, tab and CR separate; LF ends a line
abbrev pub kind : ℕ → Kind
kind b = cond (b == 32 || (b == 9 || b == 13)) Separator (cond (b == 10) LineFeed (cond (b == 45) Minus (cond (digit b) Digit Other)))
