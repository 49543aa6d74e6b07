-- The marks of a part of the file.
use Rattle.std.specs.Prelude.{ℕ, List}
use Rattle.std.proofs.Math.Seq.{slice}
use Rattle.formats.specs.Inner.Layout.{pairs}

-- the marks number from up to to
abbrev pub part : List ℕ → ℕ → ℕ → List (ℕ × ℕ)
part bytes from to = slice from to (pairs bytes)
