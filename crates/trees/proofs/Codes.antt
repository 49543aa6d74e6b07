-- Code and decoding: a word is the code of one term just if all of it is read as one, and it is the code of no other.
-- Assumes nothing.
use Prim.Native.Nat.{◌+◌, ℕ, suc, ◌<◌}
use native.Mathlib.Omega.{arith}
use mathlib.Core.Bool.{Bool, true, false}
use mathlib.Core.Logic.{◌↔◌}
use mathlib.Core.Path.{◌≡◌, refl, sym, ap, ap₂, ◌∙◌}
use mathlib.Core.List.{List, [], ◌∷◌, ◌++◌, append_assoc, append-nil}
use lib.Dec.{leb}
use lib.ListN.{length, get_or, take, length-append}
use lib.Seq.{take_all}
use borrow.Author.Tests.{le-leb, leb-true}
use Rattle.theory.specs.Term.{Term, var, node, Terms, none, more, count, bind, binds}
use Rattle.trees.specs.Code.{preorder, preorders}
use Rattle.theory.specs.Inner.Forests.{letters, letters_all, joined}
use Rattle.trees.specs.Inner.Decode.{Letter, call, symbol, unknown, firsts, rests, node_if, put, forest, first, Whole, Over, AllOver}
use Rattle.trees.proofs.Forest.{joined_count, Known, say, says, front, count_firsts}

-- ---- substitution
module _ {A B X : Type 0} (g : B → List X) (y : ℕ → X) (f : A → Term B) where
  mutual
    unfolding preorder bind

    pub preorder_bind : (t : Term A) → preorder g y (bind t f) ≡ preorder (λ a. preorder g y (f a)) y t
    preorder_bind (var a) = refl
    preorder_bind (node k ts) = ap (◌∷◌ (y k)) (preorders_binds ts)

    preorders_binds : (ts : Terms A) → preorders g y (binds ts f) ≡ preorders (λ a. preorder g y (f a)) y ts
    preorders_binds none = refl
    preorders_binds (more t ts) = ap₂ ◌++◌ (preorder_bind t) (preorders_binds ts)

-- ---- from the term to its code and back
-- of some trees and others behind them the first are those
joined_firsts : {A : Type 0} (ts us : Terms A) → firsts (count ts) (joined ts us) ≡ ts
unfolding count firsts
joined_firsts none us = refl
joined_firsts (more t ts) us = ap (more t) (joined_firsts ts us)

-- and the others are these
joined_rests : {A : Type 0} (ts us : Terms A) → rests (count ts) (joined ts us) ≡ us
unfolding count rests
joined_rests none us = refl
joined_rests (more t ts) us = joined_rests ts us

-- the word of a term, a letter for each symbol and each variable
abbrev pub word : {A X : Type 0} → (A → X) → (ℕ → X) → Term A → List X
word c y t = preorder (λ a. c a ∷ []) y t

abbrev pub words : {A X : Type 0} → (A → X) → (ℕ → X) → Terms A → List X
words c y ts = preorders (λ a. c a ∷ []) y ts

module _ {A X : Type 0} (f : X → Letter A) (c : A → X) (y : ℕ → X) where
  mutual
    unfolding preorder Over forest put

    pub decode : (t : Term A) (rest : List X) → Over f c y t → forest f (word c y t ++ rest) ≡ more t (forest f rest)
    decode (var a) rest o = rw o
    decode (node k ts) rest o =
        rw (o.0, decodes ts rest o.1, le-leb (count ts) (count (joined ts (forest f rest))) (omega (arith, joined_count ts (forest f rest))), joined_firsts, joined_rests)

    decodes : (ts : Terms A) (rest : List X) → AllOver f c y ts → forest f (words c y ts ++ rest) ≡ joined ts (forest f rest)
    decodes none rest o = refl
    decodes (more t ts) rest o = rw (append_assoc, decode t (words c y ts ++ rest) o.0, decodes ts rest o.1)

  pub reads_back : (t : Term A) → Over f c y t → first (forest f (word c y t)) ≡ t
  unfolding first
  reads_back t o = ap (λ l. first (forest f l)) (sym (append-nil (word c y t))) ∙ ap first (decode t [] o)

  -- unique decoding
  pub unique : (t u : Term A) → Over f c y t → Over f c y u → word c y t ≡ word c y u → t ≡ u
  unfolding first
  unique t u o p e = ap first (sym (decode t [] o) ∙ ap (λ l. forest f (l ++ [])) e ∙ decode u [] p)

  mutual
    unfolding preorder letters

    pub word_length : (t : Term A) → length (word c y t) ≡ letters t
    word_length (var a) = refl
    word_length (node k ts) = ap suc (words_length ts)

    words_length : (ts : Terms A) → length (words c y ts) ≡ letters_all ts
    words_length none = refl
    words_length (more t ts) = length-append (word c y t) (words c y ts) ∙ ap₂ ◌+◌ (word_length t) (words_length ts)

  pub code_whole : (t : Term A) → Over f c y t → Whole f (word c y t)
  unfolding count letters forest
  code_whole t o =
      let d : forest f (word c y t) ≡ more t none = sym (ap (forest f) (append-nil (word c y t))) ∙ decode t [] o in
      record { one = ap count d; all = ap letters_all d ∙ omega (arith, word_length t) }

-- ---- from the code to the term and back
-- a letter of f is written in one way
pub record Faithful {A X : Type 0} (f : X → Letter A) (c : A → X) (y : ℕ → X) : Type 0 where
  pub calls : (x : X) (a : A) → f x ≡ call a → c a ≡ x
  pub symbols : (x : X) (k n : ℕ) → f x ≡ symbol k n → y k ≡ x

firsts_all : {A : Type 0} (ts : Terms A) → firsts (count ts) ts ≡ ts
unfolding firsts count
firsts_all none = refl
firsts_all (more t ts) = ap (more t) (firsts_all ts)

pub single : {A : Type 0} (ts : Terms A) → count ts ≡ 1 → ts ≡ more (first ts) none
unfolding count first
single none h = absurd (omega arith)
single (more t none) h = refl
single (more t (more u ts)) h = absurd (omega arith)

-- all letters are known, and the term spells them all
pub record Spelled {A X Y : Type 0} (f : X → Letter A) (g : A → List Y) (y : ℕ → Y) (d : X) (s : List X) : Type 0 where
  pub known : (j : ℕ) → j < length s → Known (f (get_or s j d))
  pub spelled : preorder g y (first (forest f s)) ≡ says f g y s

pub whole_spelled : {A X Y : Type 0} (f : X → Letter A) (g : A → List Y) (y : ℕ → Y) (d : X) (s : List X) → Whole f s → Spelled f g y d s
unfolding preorder
whole_spelled f g y d s W =
    let F = forest f s in
    let r = front f g y d s (count F) (omega arith) in
    let e : letters_all (firsts (count F) F) ≡ length s = ap letters_all (firsts_all F) ∙ W.all in
    record {
      known = λ j h. r.known j (omega arith);
      spelled = sym (append-nil (preorder g y (first F))) ∙ sym (ap (preorders g y) (single F W.one)) ∙ sym (ap (preorders g y) (firsts_all F)) ∙ r.spelled ∙ ap (λ n. says f g y (take n s)) e ∙ ap (says f g y) (take_all (length s) s (omega arith));
    }

module _ {A X : Type 0} (f : X → Letter A) (c : A → X) (y : ℕ → X) (faithful : Faithful f c y) where
  say_letter : (x : X) (l : Letter A) → f x ≡ l → Known l → say (λ a. c a ∷ []) y l ≡ x ∷ []
  say_letter x (call a) e k = ap (λ z. z ∷ []) (faithful.calls x a e)
  say_letter x (symbol k n) e h = ap (λ z. z ∷ []) (faithful.symbols x k n e)
  say_letter x unknown e k = absurd k

  says_word : (d : X) (s : List X) → ((j : ℕ) → j < length s → Known (f (get_or s j d))) → says f (λ a. c a ∷ []) y s ≡ s
  says_word d [] k = refl
  says_word d (x ∷ s) k = ap₂ ◌++◌ (say_letter x (f x) refl (k 0 (omega arith))) (says_word d s (λ j h. k (suc j) (omega arith)))

  over_firsts : (n : ℕ) (ts : Terms A) → AllOver f c y ts → AllOver f c y (firsts n ts)
  unfolding firsts Over
  over_firsts ℕ.zero ts o = tt
  over_firsts (suc n) none o = tt
  over_firsts (suc n) (more t ts) o = (o.0, over_firsts n ts o.1)

  over_rests : (n : ℕ) (ts : Terms A) → AllOver f c y ts → AllOver f c y (rests n ts)
  unfolding rests Over
  over_rests ℕ.zero ts o = o
  over_rests (suc n) none o = tt
  over_rests (suc n) (more t ts) o = over_rests n ts o.1

  over_put : (x : X) (l : Letter A) (G : Terms A) → f x ≡ l → AllOver f c y G → AllOver f c y (put l G)
  unfolding put Over
  over_put x (call a) G e o = (ap f (faithful.calls x a e) ∙ e, o)
  over_put x (symbol k n) G e o = go (leb n (count G)) refl
    where
      go : (b : Bool) → leb n (count G) ≡ b → AllOver f c y (node_if b k n G)
      go true h = ((ap f (faithful.symbols x k n e) ∙ e ∙ ap (symbol k) (sym (count_firsts n G (leb-true n (count G) h))), over_firsts n G o), over_rests n G o)
      go false h = tt
  over_put x unknown G e o = tt

  pub over_forest : (s : List X) → AllOver f c y (forest f s)
  unfolding forest Over
  over_forest [] = tt
  over_forest (x ∷ s) = over_put x (f x) (forest f s) refl (over_forest s)

  pub over_first : (ts : Terms A) → count ts ≡ 1 → AllOver f c y ts → Over f c y (first ts)
  unfolding first Over count
  over_first none h o = absurd (omega arith)
  over_first (more t ts) h o = o.0

  -- all of s is read as one tree exactly if s is the word of a term, and it is the first tree read
  pub exactly : (d : X) (s : List X) → Whole f s ↔ ((t : Term A) × Over f c y t × (word c y t ≡ s))
  exactly d s = (there, back)
    where
      there : Whole f s → (t : Term A) × Over f c y t × (word c y t ≡ s)
      there W =
          let r = whole_spelled f (λ a. c a ∷ []) y d s W in
          (first (forest f s), over_first (forest f s) W.one (over_forest s), r.spelled ∙ says_word d s r.known)

      back : (t : Term A) × Over f c y t × (word c y t ≡ s) → Whole f s
      back w = rw (← w.2) (code_whole f c y w.0 w.1)
