-- How long the lines are: the numbers of a tree and of an address are low, and so are the symbols.
-- Assumes nothing.
use Prim.Native.Nat.{ℕ, suc, ◌+◌, ◌*◌, ◌≤◌, ◌<◌}
use native.Mathlib.Nat.{mul-suc}
use native.Mathlib.Omega.{arith}
use mathlib.Core.List.{List, [], ◌∷◌, ◌++◌}
use mathlib.Core.Option.{some}
use mathlib.Core.Path.{◌≡◌}
use lib.ListN.{length, get_or, length-append}
use Rattle.theory.specs.Size.{size}
use Rattle.theory.specs.Term.{Tree, Symbol, var, node, Terms, none, more, count, sub, subs, root, symbol_at}
use Rattle.theory.proofs.Terms.{conflict}
use Rattle.trees.specs.Code.{Ranked, AllRanked, preorder, preorders, code}
use Rattle.transducer.proofs.Outputs.{code_size}
use Rattle.report.specs.Text.{number_text, rest, separated, place_text}
use Rattle.report.proofs.Decimals.{number_one, number_two}

-- ---- lists of numbers below m
abbrev pub Low : ℕ → List ℕ → Type 0
Low m [] = Unit {0}
Low m (x ∷ xs) = (x < m) × Low m xs

low_append : (m : ℕ) (xs ys : List ℕ) → Low m xs → Low m ys → Low m (xs ++ ys)
low_append m [] ys l k = k
low_append m (x ∷ xs) ys l k = (l.0, low_append m xs ys l.1 k)

-- with a byte between them, if each has at most n digits
module _ (s m n : ℕ) (digits : (x : ℕ) → x < m → length (number_text x) ≤ n) where
  rest_long : (xs : List ℕ) → Low m xs → length (rest s xs) ≤ (n + 1) * length xs
  unfolding rest
  rest_long [] l = omega arith
  rest_long (x ∷ xs) l = omega (arith, length-append (s ∷ number_text x) (rest s xs), digits x l.0, rest_long xs l.1, mul-suc (n + 1) (length xs))

  separated_long : (xs : List ℕ) → Low m xs → 1 ≤ length xs → length (separated s xs) + 1 ≤ (n + 1) * length xs
  unfolding separated
  separated_long [] l h = absurd (omega arith)
  separated_long (x ∷ xs) l h = omega (arith, length-append (number_text x) (rest s xs), digits x l.0, rest_long xs l.1, mul-suc (n + 1) (length xs))

-- ---- the symbols of a tree over an alphabet
module _ (ins : List ℕ) where
  mutual
    unfolding Ranked preorder

    pub code_low : (d : Tree) → Ranked (λ x. ⊥) ins d → Low (length ins) (code d)
    code_low (var x) r = absurd x
    code_low (node k ts) r = (r.0, codes_low ts r.2)

    codes_low : (ts : Terms ⊥) → AllRanked (λ x. ⊥) ins ts → Low (length ins) (preorders (λ x. absurd x) (λ k. k) ts)
    codes_low none r = tt
    codes_low (more t ts) r = low_append (length ins) (code t) (preorders (λ x. absurd x) (λ k. k) ts) (code_low t r.0) (codes_low ts r.1)

-- ---- an address at which a tree over an alphabet has a symbol, and the symbol
module _ (outs : List ℕ) (low : (k : ℕ) → k < length outs → get_or outs k 0 ≤ 4) where
  mutual
    unfolding Ranked symbol_at root sub count

    pub address_low : {b : Symbol} (t : Tree) (v : List ℕ) → Ranked (λ x. ⊥) outs t → symbol_at t v ≡ some b → Low 5 v × (b.0 < length outs)
    address_low (var x) v r e = absurd x
    address_low {b} (node k ts) [] r e = let same : ◌≡◌ {A = Symbol} (k, count ts) b = cc in (tt, rw (← same) r.0)
    address_low (node k ts) (i ∷ v) r e = let w = addresses_low ts i v r.2 e in ((omega (arith, w.0, r.1, low k r.0), w.1), w.2)

    addresses_low : {b : Symbol} (ts : Terms ⊥) (i : ℕ) (v : List ℕ) → AllRanked (λ x. ⊥) outs ts → root (subs ts i v) ≡ some b → (i ≤ count ts) × Low 5 v × (b.0 < length outs)
    addresses_low none i v r e = conflict (cc)
    addresses_low (more t ts) ℕ.zero v r e = conflict (cc)
    addresses_low (more t ts) (suc ℕ.zero) v r e = let w = address_low t v r.0 e in (omega arith, w.0, w.1)
    addresses_low (more t ts) (suc (suc i)) v r e = let w = addresses_low ts (suc i) v r.1 e in (omega arith, w.1, w.2)

-- ---- how long the tree and the address are in the line of a difference
pub tree_long : (ins : List ℕ) (d : Tree) → length ins ≤ 16 → Ranked (λ x. ⊥) ins d → size d ≤ 1536 → length (separated 44 (code d)) ≤ 4607
unfolding size
tree_long ins d few r small = let n = code_size d in omega (arith, separated_long 44 (length ins) 2 (λ x h. number_two x (omega arith)) (code d) (code_low ins d r) (omega (arith, n, size_some d)), n)
  where
    size_some : (d : Tree) → 1 ≤ size d
    size_some (var x) = absurd x
    size_some (node k ts) = omega arith

pub address_long : (v : List ℕ) → Low 5 v → length v ≤ 16128 → length (place_text v) ≤ 32255
address_long [] l h = omega arith
address_long (x ∷ v) l h = omega (arith, separated_long 46 5 1 (λ x h. number_one x (omega arith)) (x ∷ v) l (omega arith))
