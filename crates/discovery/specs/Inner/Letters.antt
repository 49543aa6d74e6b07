-- Right-hand sides as lists of letters: a number below 64 is a symbol, 65,536 · i + c the call of state c on child i.
use Rattle.std.specs.Prelude.{ℕ, ◌+◌, ◌*◌, List, [], ◌∷◌}
use Rattle.theory.specs.Term.{Term}
use Rattle.trees.specs.Code.{preorder}

-- the letter of a call
abbrev pub call_letter : ℕ × ℕ → ℕ
call_letter e = 65536 * e.0 + e.1

-- the letters of a term
abbrev pub spelt : Term (ℕ × ℕ) → List ℕ
spelt t = preorder (λ e. call_letter e ∷ []) (λ k. k) t
