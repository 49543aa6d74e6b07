-- What a function that writes a piece of text promises.
use Rattle.std.specs.Prelude.{ℕ, ◌+◌, ◌≤◌, List, ◌++◌, length}
use Rattle.trees.specs.Alphabets.{alphabet_check}
use Rattle.trees.specs.Refusal.{Checks, done}
use Rattle.formats.specs.Sheet.{sheet_check}
use Rattle.formats.specs.Inner.Written.{Wrote}
use Rattle.earliest.specs.Answers.{form_check}
use Rattle.report.specs.Answers.{Sizes}
use Rattle.report.specs.Text.{first_word, second_word, sizes_line}

-- what a file has to pass so that it has a normal form: refusals 2, 4, 5 and 7
abbrev pub clean_check : List ℕ → List ℕ → Checks
clean_check stock s = alphabet_check stock (sheet_check stock s (form_check stock s done))

-- the line of the normal form of the transducer of the file s was written: at most nine bytes behind the word
pub record WroteNormal (stock s word before after : List ℕ) (at to : ℕ) : Type 0 where
  pub states : ℕ
  pub marks : ℕ
  pub sizes : Sizes stock s states marks
  pub line : Wrote before after at to (sizes_line word states marks)
  pub short : to ≤ at + length word + 9

-- the lines of the normal forms of two were, from the start of the text on: at most 15 and 16 bytes
pub record WroteBoth (stock s s' before after : List ℕ) (to : ℕ) : Type 0 where
  pub states : ℕ
  pub marks : ℕ
  pub first : Sizes stock s states marks
  pub states' : ℕ
  pub marks' : ℕ
  pub second : Sizes stock s' states' marks'
  pub lines : Wrote before after 0 to (sizes_line first_word states marks ++ sizes_line second_word states' marks')
  pub short : to ≤ 31
