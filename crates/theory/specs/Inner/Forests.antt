-- Lists of trees: how many letters they have, and one list behind another.
use Rattle.std.specs.Prelude.{ℕ, suc, ◌+◌}
use Rattle.theory.specs.Term.{Term, var, node, Terms, none, more}

-- how many letters a term has, the calls too
unfoldable mutual
  pub letters : {A : Type 0} → Term A → ℕ
  letters (var a) = 1
  letters (node k ts) = suc (letters_all ts)

  pub letters_all : {A : Type 0} → Terms A → ℕ
  letters_all none = 0
  letters_all (more t ts) = letters t + letters_all ts

-- some trees and others behind them
abbrev pub joined : {A : Type 0} → Terms A → Terms A → Terms A
joined none us = us
joined (more t ts) us = more t (joined ts us)
