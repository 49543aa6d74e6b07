-- What is answered where a form of a transducer is written: how large it is, and its file.
use Rattle.std.specs.Prelude.{ℕ, ◌*◌, List, ◌≡◌, length}
use Rattle.forms.specs.declared.write.Form.{Form}
use Rattle.std.proofs.lemmas.List.Edits.{sets}
use Rattle.formats.specs.Sheet.{file}

-- a form with k states and m marks, whose file has n bytes
abbrev pub form : ℕ → ℕ → ℕ → Form
form k m n = record { states = k; marks = m; bytes = n }

-- v says how many states and marks a form has and how long its file is, and the area begins with the file; the rest of the area stays
pub record FileOf (v : Form) (counts bytes before after : List ℕ) : Type 0 where
  pub marks : 2 * v.marks ≡ length bytes
  pub size : v.bytes ≡ length (file v.states counts bytes)
  pub wrote : after ≡ sets before 0 (file v.states counts bytes)
