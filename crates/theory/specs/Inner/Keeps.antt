-- Entries into a registry, and a program that keeps one.
use Rattle.std.specs.Prelude.{ℕ, ◌≡◌, List, []}
use Rattle.std.proofs.Math.Option.{Option, some, none as nothing}
use Rattle.theory.specs.Registry.{Enter}

-- one entry into R: of an item, which answers a number, or a refusal, which answers none and changes nothing
pub data Entry {I : Type 0} (R : List I) : Option I → Option ℕ → List I → Type 0 where
  accepted : {x : I} {n : ℕ} {R' : List I} → Enter R x n R' → Entry R (some x) (some n) R'
  refused : Entry R nothing nothing R

-- the program keeps a registry: its states stand for lists of items, and a step with the thing t is an entry of its item, or a refusal; Item says which
pub record Keeps {S T I : Type 0} (First : S → Type 0) (Step : S → T → Option ℕ → S → Type 0) (items : S → List I) (Item : T → Option I → Type 0) : Type 0 where
  pub empty : (s : S) → First s → items s ≡ []
  pub entry : (s s' : S) (t : T) (answer : Option ℕ) → Step s t answer s' → (x : Option I) × Item t x × Entry (items s) x answer (items s')
