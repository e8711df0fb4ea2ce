-- The sheets of the working folder.
use Rattle.std.specs.Prelude.{ℕ, List, Some, None, vec_items, Option, Vec, slice_index_or}
use Rattle.std.specs.Borrow.{Bor}
use Rattle.std.specs.declared.alloc.Global.{Global}
use Rattle.command.specs.declared.files.Files.{Files}

abbrev pub held : Option (Vec ℕ Global) → Option (List ℕ)
held None = None
held (Some bytes) = Some (vec_items bytes)

-- what the file of register k holds, if there is one
abbrev pub file_of : Files → ℕ → Option (List ℕ)
file_of files k = held (slice_index_or (vec_items files.sheets) k None)

abbrev pub lent : Option (Bor (List ℕ)) → Option (List ℕ)
lent None = None
lent (Some bytes) = Some bytes.now
