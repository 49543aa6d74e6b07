-- A form in a table of starts and marks, and the file of it.
use Rattle.std.specs.Prelude.{Err, None, Ok, Option, Result, Some, ℕ, ◌+◌, ◌-◌, ◌*◌, ◌≤◌, ◌<◌, List, ◌≡◌, length, get_or}
use Rattle.trees.specs.declared.refusal.Refusal.{Refusal}
use Rattle.forms.specs.declared.write.Form.{Form}
use Rattle.forms.specs.Answers.{form}
use Rattle.std.proofs.lemmas.List.Edits.{sets}
use Rattle.theory.specs.NormalForm.{Identical}
use Rattle.theory.specs.Transducer.{Transducer}
use Rattle.trees.specs.Alphabets.{Leaf, Alphabets, inputs, outputs}
use Rattle.formats.specs.Inner.Layout.{body_count, count_at}
use Rattle.formats.specs.Sheet.{longest, file, Encodes}
use Rattle.trees.specs.declared.refusal.Refusal.TheVariants.{OverLimits}
use Rattle.forms.specs.Alphabet.{alphabet}
use Rattle.forms.specs.Inner.Tables.{machine, Layout, Packed}

-- the counts of m bodies by the table of their starts
pub record FillsCounts (starts : List ℕ) (m : ℕ) (counts : List ℕ) : Type 0 where
  pub each : (j : ℕ) → j < m → count_at counts j ≡ get_or starts (j + 1) 0 - get_or starts j 0

-- what writing the form with k states asks
pub record Writable (stock starts bytes : List ℕ) (k : ℕ) (area : List ℕ) : Type 0 where
  pub alphabets : Alphabets stock
  pub layout : Layout (inputs stock) (outputs stock) starts bytes k
  pub packed : Packed (inputs stock) starts k
  pub room : longest ≤ length area

-- the area begins with the file of the form, whose length is r
pub record WritesForm (stock starts bytes : List ℕ) (k : ℕ) (before after : List ℕ) (r : ℕ) : Type 0 where
  pub counts : List ℕ
  pub marks : List ℕ
  pub form : Transducer ℕ
  pub encodes : Encodes (inputs stock) (outputs stock) k counts marks form
  pub same : (l : Leaf (inputs stock)) → Identical (alphabet (inputs stock) l) form (machine (inputs stock) (outputs stock) starts bytes k) k k
  pub long : length marks ≡ 2 * get_or starts (body_count (inputs stock) k) 0
  pub size : r ≡ length (file k counts marks)
  pub wrote : after ≡ sets before 0 (file k counts marks)

-- what writing the form that was found asks: it stands in the table
pub record FoundWritable (stock : List ℕ) (found : Option ℕ) (starts bytes area : List ℕ) : Type 0 where
  pub each : (k : ℕ) → found ≡ Some k → Writable stock starts bytes k area

-- the form with k states was written: r says how many states and marks it has, and how long its file is
pub record FormWritten (stock : List ℕ) (k : ℕ) (starts bytes before after : List ℕ) (r : Result Form Refusal) : Type 0 where
  pub marks : ℕ
  pub size : ℕ
  pub answer : r ≡ Ok (form k marks size)
  pub many : marks ≡ get_or starts (body_count (inputs stock) k) 0
  pub written : WritesForm stock starts bytes k before after size

-- what it does: the form that was found is written; refusal 7 where it is over the limits
pub record WritesFound (stock : List ℕ) (found : Option ℕ) (starts bytes before after : List ℕ) (r : Result Form Refusal) : Type 0 where
  pub over : found ≡ None → (r ≡ Err OverLimits) × (after ≡ before)
  pub form : (k : ℕ) → found ≡ Some k → FormWritten stock k starts bytes before after r
