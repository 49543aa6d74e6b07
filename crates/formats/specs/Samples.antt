-- The files of the samples of document 01, and the head of one: what their bytes are. What is proved of them stands in the proofs of the crates above.
use Rattle.std.specs.Prelude.{ℕ, List, [], ◌∷◌}
use Rattle.theory.specs.Prefix.{Pattern}
use Rattle.theory.specs.Term.{Term, var, node, none, more}

-- ---- over the alphabets S
-- two input symbols, a with one child and the leaf e; two output symbols, f with two children and the leaf e
abbrev pub S : List ℕ
S = 2 ∷ 1 ∷ 0 ∷ 2 ∷ 2 ∷ 0 ∷ []

-- initial term f(q(x), q(x)); q(a(x)) = f(q(x), q(x)), q(e) = e
abbrev pub T : List ℕ
T = 1 ∷ 0 ∷ 3 ∷ 0 ∷ 3 ∷ 0 ∷ 1 ∷ 0 ∷ 0 ∷ 1 ∷ 0 ∷ 1 ∷ 0 ∷ 0 ∷ 0 ∷ 1 ∷ 0 ∷ 1 ∷ 0 ∷ 0 ∷ 1 ∷ []

-- T': initial term q(x); q(a(x)) = f(q(x), q(x)), q(e) = f(e, e)
abbrev pub T' : List ℕ
T' = 1 ∷ 0 ∷ 1 ∷ 0 ∷ 3 ∷ 0 ∷ 3 ∷ 1 ∷ 0 ∷ 0 ∷ 0 ∷ 1 ∷ 0 ∷ 1 ∷ 0 ∷ 0 ∷ 0 ∷ 0 ∷ 1 ∷ 0 ∷ 1 ∷ []

-- U: T' with the initial term f(q(x), q(x))
abbrev pub U : List ℕ
U = 1 ∷ 0 ∷ 3 ∷ 0 ∷ 3 ∷ 0 ∷ 3 ∷ 0 ∷ 0 ∷ 1 ∷ 0 ∷ 1 ∷ 0 ∷ 0 ∷ 0 ∷ 1 ∷ 0 ∷ 1 ∷ 0 ∷ 0 ∷ 0 ∷ 0 ∷ 1 ∷ 0 ∷ 1 ∷ []

-- U clean: T with the initial term f(f(q(x), q(x)), f(q(x), q(x)))
abbrev pub U-clean : List ℕ
U-clean = 1 ∷ 0 ∷ 7 ∷ 0 ∷ 3 ∷ 0 ∷ 1 ∷ 0 ∷ 0 ∷ 0 ∷ 0 ∷ 1 ∷ 0 ∷ 1 ∷ 0 ∷ 0 ∷ 0 ∷ 1 ∷ 0 ∷ 1 ∷ 0 ∷ 0 ∷ 0 ∷ 1 ∷ 0 ∷ 1 ∷ 0 ∷ 0 ∷ 1 ∷ []

-- no state: the initial term is e
abbrev pub leaf_file : List ℕ
leaf_file = 0 ∷ 0 ∷ 1 ∷ 0 ∷ 1 ∷ []

-- ---- over the alphabets `pairs`
-- two input symbols, a with two children and the leaf e; two output symbols, d with two children and the leaf e
abbrev pub pairs : List ℕ
pairs = 2 ∷ 2 ∷ 0 ∷ 2 ∷ 2 ∷ 0 ∷ []

-- initial term q(x); q(a(x, y)) = d(q(x), d(q(x), e)), q(e) = d(d(e, e), d(e, e))
abbrev pub M : List ℕ
M = 1 ∷ 0 ∷ 1 ∷ 0 ∷ 5 ∷ 0 ∷ 7 ∷ 1 ∷ 0 ∷ 0 ∷ 0 ∷ 1 ∷ 0 ∷ 0 ∷ 0 ∷ 1 ∷ 0 ∷ 0 ∷ 1 ∷ 0 ∷ 0 ∷ 0 ∷ 0 ∷ 0 ∷ 1 ∷ 0 ∷ 1 ∷ 0 ∷ 0 ∷ 0 ∷ 1 ∷ 0 ∷ 1 ∷ []

-- d(s, t) and e, as output terms
abbrev pub d : {A : Type 0} → Term A → Term A → Term A
d s t = node 0 (more s (more t none))

abbrev pub e : {A : Type 0} → Term A
e = node 1 none

-- pref(q) is d(d(⊤, ⊤), d(⊤, e))
abbrev pub M-pref : Pattern
M-pref = d (d (var tt) (var tt)) (d (var tt) e)

-- M clean: initial term d(d(p(x), q(x)), d(r(x), e)); p(a(x, y)) = d(p(x), q(x)), q(a(x, y)) = d(r(x), e), r(a(x, y)) = d(d(p(x), q(x)), d(r(x), e)), and each gives e on e
abbrev pub M-clean : List ℕ
M-clean = 3 ∷ 0 ∷ 7 ∷ 0 ∷ 3 ∷ 0 ∷ 1 ∷ 0 ∷ 3 ∷ 0 ∷ 1 ∷ 0 ∷ 7 ∷ 0 ∷ 1 ∷ 0 ∷ 0 ∷ 0 ∷ 0 ∷ 1 ∷ 0 ∷ 1 ∷ 1 ∷ 0 ∷ 0 ∷ 1 ∷ 2 ∷ 0 ∷ 1 ∷ 0 ∷ 0 ∷ 1 ∷ 0 ∷ 1 ∷ 1 ∷ 0 ∷ 1 ∷ 0 ∷ 0 ∷ 1 ∷ 2 ∷ 0 ∷ 1 ∷ 0 ∷ 1 ∷ 0 ∷ 0 ∷ 0 ∷ 0 ∷ 1 ∷ 0 ∷ 1 ∷ 1 ∷ 0 ∷ 0 ∷ 1 ∷ 2 ∷ 0 ∷ 1 ∷ 0 ∷ 1 ∷ []
