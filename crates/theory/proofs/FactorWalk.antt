-- The walk that finds a factor, letter by letter, as a program does it on the code of a term: what is written and what is left, and how each step changes them; and how many letters there are.
use Prim.Native.Nat.{ℕ, suc, ◌≤◌, ◌+◌, ◌*◌}
use native.Mathlib.Nat.{suc-mul, add-mul, zero-mul}
use native.Mathlib.Omega.{arith}
use mathlib.Core.Path.{◌≡◌, refl, sym, ap, ap₂, ◌∙◌}
use mathlib.Core.List.{List, [], ◌∷◌, ◌++◌, append-nil, append_assoc}
use mathlib.Core.Option.{Option, some, none as nothing, some-injective, bind as obind}
use lib.ListN.{length, length-append}
use Rattle.theory.specs.Inner.Forests.{letters, letters_all, joined}
use Rattle.theory.specs.OneState.{moved, copies, stepped}
use Rattle.theory.specs.Term.{Term, Terms, var, node, none, more, bind, binds, mapT}
use Rattle.theory.specs.Transducer.{Transducer}
use Rattle.theory.specs.Vars.{AllVars, one, each, EachVars, done, both}
use Rattle.theory.proofs.Factors.{copy_of, factor, factors, factor_copy, factor_node, factor_stray}
use Rattle.theory.proofs.Terms.{conflict}

-- the letters of a term in preorder: a symbol k is written s k, and a call e is written c e
unfoldable mutual
  pub spelled : {X : Type 0} → (ℕ × ℕ → X) → (ℕ → X) → Term (ℕ × ℕ) → List X
  spelled c s (var e) = c e ∷ []
  spelled c s (node k ts) = s k ∷ spelled_in c s ts

  pub spelled_in : {X : Type 0} → (ℕ × ℕ → X) → (ℕ → X) → Terms (ℕ × ℕ) → List X
  spelled_in c s none = []
  spelled_in c s (more t ts) = spelled c s t ++ spelled_in c s ts

-- the factors of joined trees are the factors of the first and of the others, joined
factors_joined : (A : Term (ℕ × ℕ)) (ts us : Terms (ℕ × ℕ)) → factors A (joined ts us) ≡ obind (factors A ts) (λ rs. obind (factors A us) (λ xs. some (joined rs xs)))
unfolding factors obind
factors_joined A none us = go (factors A us)
  where
    go : (o : Option (Terms (ℕ × ℕ))) → o ≡ obind o (λ xs. some xs)
    go nothing = refl
    go (some xs) = refl
factors_joined A (more t ts) us = ap (λ o. obind (factor A t) (λ r. obind o (λ rs. some (more r rs)))) (factors_joined A ts us) ∙ go (factor A t) (factors A ts) (factors A us)
  where
    go : (o : Option (Term (ℕ × ℕ))) (p q : Option (Terms (ℕ × ℕ))) → obind o (λ r. obind (obind p (λ rs. obind q (λ xs. some (joined rs xs)))) (λ rs. some (more r rs))) ≡ obind (obind o (λ r. obind p (λ rs. some (more r rs)))) (λ rs. obind q (λ xs. some (joined rs xs)))
    go nothing p q = refl
    go (some r) nothing q = refl
    go (some r) (some rs) nothing = refl
    go (some r) (some rs) (some xs) = refl

module _ {X : Type 0} (c : ℕ × ℕ → X) (s : ℕ → X) where
  -- letters of joined trees
  pub spelled_joined : (ts us : Terms (ℕ × ℕ)) → spelled_in c s (joined ts us) ≡ spelled_in c s ts ++ spelled_in c s us
  unfolding spelled_in
  spelled_joined none us = refl
  spelled_joined (more t ts) us = ap (λ w. spelled c s t ++ w) (spelled_joined ts us) ∙ sym (append_assoc (spelled c s t) (spelled_in c s ts) (spelled_in c s us))

  -- The loop's invariant: the letters of the factor of t, if there is one, are those written, w, and then those of the factors of the trees that are left, us.
  pub record Walking (A t : Term (ℕ × ℕ)) (us : Terms (ℕ × ℕ)) (w : List X) : Type 0 where
    pub so_far : obind (factor A t) (λ r. some (spelled c s r)) ≡ obind (factors A us) (λ rs. some (w ++ spelled_in c s rs))

  module _ {A t : Term (ℕ × ℕ)} where
    -- at the start t is left
    pub walk_start : Walking A t (more t none) []
    unfolding factors obind spelled_in
    walk_start = record { so_far = go (factor A t) }
      where
        go : (o : Option (Term (ℕ × ℕ))) → obind o (λ r. some (spelled c s r)) ≡ obind (obind o (λ r. some (more r none))) (λ rs. some (spelled_in c s rs))
        go nothing = refl
        go (some r) = ap some (sym (append-nil (spelled c s r)))

    -- the next tree is a copy, moved to child i: the call of state 0 on child i is written
    pub walk_copy : {u : Term (ℕ × ℕ)} {us : Terms (ℕ × ℕ)} {w : List X} {i : ℕ} → Walking A t (more u us) w → copy_of A u ≡ some i → Walking A t us (w ++ c (i, 0) ∷ [])
    unfolding factors obind spelled_in
    walk_copy {u} {us} {w} {i} k h = record { so_far = k.so_far ∙ (ap (λ o. obind (obind o (λ r. obind (factors A us) (λ rs. some (more r rs)))) (λ rs. some (w ++ spelled_in c s rs))) (factor_copy A u h) ∙ go (factors A us)) }
      where
        go : (o : Option (Terms (ℕ × ℕ))) → obind (obind o (λ rs. some (more (var (i, 0)) rs))) (λ rs. some (w ++ spelled_in c s rs)) ≡ obind o (λ rs. some ((w ++ c (i, 0) ∷ []) ++ spelled_in c s rs))
        go nothing = refl
        go (some rs) = ap some (sym (append_assoc w (c (i, 0) ∷ []) (spelled_in c s rs)))

    -- the next tree is no copy, and has symbol k at its root: the symbol is written, and its children are left in its place
    pub walk_symbol : {k : ℕ} {ts us : Terms (ℕ × ℕ)} {w : List X} → Walking A t (more (node k ts) us) w → copy_of A (node k ts) ≡ nothing → Walking A t (joined ts us) (w ++ s k ∷ [])
    unfolding factors obind spelled_in
    walk_symbol {k} {ts} {us} {w} h z = record {
      so_far = h.so_far
          ∙ (ap (λ o. obind (obind o (λ r. obind (factors A us) (λ rs. some (more r rs)))) (λ rs. some (w ++ spelled_in c s rs))) (factor_node A k ts z)
          ∙ (go (factors A ts) (factors A us) ∙ ap (λ o. obind o (λ rs. some ((w ++ s k ∷ []) ++ spelled_in c s rs))) (sym (factors_joined A ts us))));
    }
      where
        go : (p q : Option (Terms (ℕ × ℕ))) → obind (obind (obind p (λ rs. some (node k rs))) (λ r. obind q (λ rs. some (more r rs)))) (λ rs. some (w ++ spelled_in c s rs)) ≡ obind (obind p (λ rs. obind q (λ xs. some (joined rs xs)))) (λ rs. some ((w ++ s k ∷ []) ++ spelled_in c s rs))
        go nothing q = refl
        go (some rs) nothing = refl
        go (some rs) (some xs) = ap some (ap (λ v. w ++ s k ∷ v) (sym (spelled_joined rs xs)) ∙ sym (append_assoc w (s k ∷ []) (spelled_in c s (joined rs xs))))

    -- the next tree is a call that is no copy: there is no factor
    pub walk_stray : {e : ℕ × ℕ} {us : Terms (ℕ × ℕ)} {w : List X} → Walking A t (more (var e) us) w → copy_of A (var e) ≡ nothing → factor A t ≡ nothing
    unfolding factors obind
    walk_stray {e} {us} {w} h z = go (factor A t) (h.so_far ∙ ap (λ o. obind (obind o (λ r. obind (factors A us) (λ rs. some (more r rs)))) (λ rs. some (w ++ spelled_in c s rs))) (factor_stray A e z))
      where
        go : (o : Option (Term (ℕ × ℕ))) → obind o (λ r. some (spelled c s r)) ≡ nothing → o ≡ nothing
        go nothing e = refl
        go (some r) e = conflict (cc)

    -- no tree is left: what was written is the factor
    pub walk_end : {w : List X} → Walking A t none w → (r : Term (ℕ × ℕ)) × (factor A t ≡ some r) × (spelled c s r ≡ w)
    unfolding factors obind spelled_in
    walk_end {w} h = go (factor A t) refl h.so_far
      where
        go : (o : Option (Term (ℕ × ℕ))) → factor A t ≡ o → obind o (λ r. some (spelled c s r)) ≡ some (w ++ []) → (r : Term (ℕ × ℕ)) × (factor A t ≡ some r) × (spelled c s r ≡ w)
        go nothing z e = conflict (cc)
        go (some r) z e = (r, z, some-injective _ _ e ∙ append-nil w)

module _ {X : Type 0} (c : ℕ × ℕ → X) (s : ℕ → X) where
  mutual
    unfolding spelled letters

    -- it is the length of its code
    pub spelled_length : (t : Term (ℕ × ℕ)) → length (spelled c s t) ≡ letters t
    spelled_length (var e) = refl
    spelled_length (node k ts) = ap suc (spelled_lengths ts)

    spelled_lengths : (ts : Terms (ℕ × ℕ)) → length (spelled_in c s ts) ≡ letters_all ts
    spelled_lengths none = refl
    spelled_lengths (more t ts) = length-append (spelled c s t) (spelled_in c s ts) ∙ ap₂ ◌+◌ (spelled_length t) (spelled_lengths ts)

module _ {A B : Type 0} (f : A → Term B) (m : ℕ) where
  mutual
    unfolding bind letters

    -- with terms of at most m letters for its variables, a term has at most m times as many letters
    pub bind_letters : {t : Term A} → AllVars (λ a. letters (f a) ≤ m) t → 1 ≤ m → letters (bind t f) ≤ letters t * m
    bind_letters (one l) p = omega arith
    bind_letters (each {ts = ts} ls) p = let h = binds_letters ls p in omega (arith, suc-mul (letters_all ts) m)

    binds_letters : {ts : Terms A} → EachVars (λ a. letters (f a) ≤ m) ts → 1 ≤ m → letters_all (binds ts f) ≤ letters_all ts * m
    binds_letters done p = omega (arith, zero-mul m)
    binds_letters (both {t} {ts} l ls) p = let h = bind_letters l p in let g = binds_letters ls p in omega (arith, add-mul (letters t) (letters_all ts) m)

-- a term has a letter
pub letters_pos : {A : Type 0} (t : Term A) → 1 ≤ letters t
unfolding letters
letters_pos (var a) = omega arith
letters_pos (node k ts) = omega arith

mutual
  unfolding letters bind

  -- a substitution leaves no fewer letters
  pub letters_bind : {A B : Type 0} (f : A → Term B) (t : Term A) → letters t ≤ letters (bind t f)
  letters_bind f (var a) = letters_pos (f a)
  letters_bind f (node k ts) = let h = letters_binds f ts in omega arith

  letters_binds : {A B : Type 0} (f : A → Term B) (ts : Terms A) → letters_all ts ≤ letters_all (binds ts f)
  letters_binds f none = omega arith
  letters_binds f (more t ts) = let h = letters_bind f t in let g = letters_binds f ts in omega arith

module _ {X : Type 0} (c : ℕ × ℕ → X) (s : ℕ → X) (i : ℕ) where
  mutual
    unfolding spelled bind

    spelled_map : (t : Term (ℕ × ℕ)) → spelled c s (bind t (λ e. var (i, e.1))) ≡ spelled (λ e. c (i, e.1)) s t
    spelled_map (var e) = refl
    spelled_map (node k ts) = ap (λ w. s k ∷ w) (spelled_maps ts)

    spelled_maps : (ts : Terms (ℕ × ℕ)) → spelled_in c s (binds ts (λ e. var (i, e.1))) ≡ spelled_in (λ e. c (i, e.1)) s ts
    spelled_maps none = refl
    spelled_maps (more t ts) = ap₂ ◌++◌ (spelled_map t) (spelled_maps ts)

  -- the code of a moved term is that of the term, each call written as one on child i
  pub spelled_moved : (A : Term (ℕ × ℕ)) → spelled c s (moved A i) ≡ spelled (λ e. c (i, e.1)) s A
  unfolding moved mapT
  spelled_moved A = spelled_map A

-- a moved term has as many letters as the term
pub moved_letters : (A : Term (ℕ × ℕ)) (i : ℕ) → letters (moved A i) ≡ letters A
moved_letters A i = sym (spelled_length (λ e. e) (λ k. (0, k)) (moved A i)) ∙ (ap length (spelled_moved (λ e. e) (λ k. (0, k)) i A) ∙ spelled_length (λ e. (i, e.1)) (λ k. (0, k)) A)

-- A factor has no more letters than the term.
pub copies_letters : (A r : Term (ℕ × ℕ)) → letters r ≤ letters (copies A r)
unfolding copies
copies_letters A r = letters_bind _ r

-- What a transducer does at a node has at most 64 · 64 letters, if its initial term and its right-hand sides have at most 64.
pub stepped_letters : (M : Transducer ℕ) (a : ℕ) → letters M.initial ≤ 64 → AllVars (λ e. letters (M.rhs e.1 a) ≤ 64) M.initial → letters (stepped M a) ≤ 4096
unfolding stepped
stepped_letters M a l ls = let h = bind_letters (λ e. M.rhs e.1 a) 64 ls (omega arith) in omega arith
