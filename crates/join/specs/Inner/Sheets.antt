-- What is said of the parts of two files, each as one value.
use Rattle.std.specs.Prelude.{Option, Result, ℕ, List}
use Rattle.trees.specs.declared.refusal.Refusal.{Refusal}
use Rattle.forms.specs.declared.write.Form.{Form}
use Rattle.join.specs.Inner.Parts.{Joinable, JoinsParts, JoinsFile}
use Rattle.join.specs.declared.join.Sheet.{Sheet}

abbrev pub JoinableOf : Sheet → Sheet → Type 0
JoinableOf a b = Joinable a.stock.now b.stock.now a.states a.counts.now a.marks.now b.states b.counts.now b.marks.now

-- the joined transducer was discovered, or is over the limits
abbrev pub JoinsPartsOf : Sheet → Sheet → List ℕ → List ℕ → Option ℕ → Type 0
JoinsPartsOf a b starts out r = JoinsParts a.stock.now b.stock.now a.states a.counts.now a.marks.now b.states b.counts.now b.marks.now starts out r

abbrev pub JoinsFileOf : Sheet → Sheet → List ℕ → List ℕ → Result Form Refusal → Type 0
JoinsFileOf a b before after r = JoinsFile a.stock.now b.stock.now a.states a.counts.now a.marks.now b.states b.counts.now b.marks.now before after r
