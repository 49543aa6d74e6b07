-- What a transducer gives on partial input trees, in terms of files: there is one such tree; a normal form has every symbol that an equivalent transducer has; without variables it is the output tree.
use Prim.Native.Nat.{ℕ}
use mathlib.Core.List.{List}
use mathlib.Core.Path.{◌≡◌, refl, sym, ◌∙◌}
use Rattle.theory.specs.Equivalent.{Equivalent}
use Rattle.theory.specs.OpenTrees.{AllowedOpen, translate_open}
use Rattle.theory.specs.Prefix.{Prefix}
use Rattle.theory.specs.Term.{Term, var, bind, Tree, mapT}
use Rattle.theory.specs.Transducer.{Transducer, run, output, closed, translate}
use Rattle.theory.proofs.Equivalences.{equivalent_trans, equivalent_sym}
use Rattle.theory.proofs.Identity.{identical_open}
use Rattle.theory.proofs.NothingEarlier.{open_prefix, open_largest, earliest_first}
use Rattle.theory.proofs.OpenRuns.{run_bind}
use Rattle.theory.proofs.Prefixes.{prefix_symbol, prefix_sub}
use Rattle.theory.proofs.Terms.{bind_bind, bind_cong}
use Rattle.trees.specs.Alphabets.{Leaf, Alphabets, inputs, outputs}
use Rattle.trees.specs.Code.{Ranked}
use Rattle.formats.specs.Sheet.{file, Sheet}
use Rattle.forms.specs.Alphabet.{alphabet}
use Rattle.forms.proofs.Files.{encoded_wf, same_file}
use Rattle.discovery.proofs.Ranks.{ranked_open, ranked_bind}
use Rattle.canonical.specs.Answers.{SewAlike, NormalFile}
use Rattle.canonical.proofs.Alike.{equivalent_alike, allowed_ranked}
use Rattle.canonical.proofs.Laws.{all_alike, clean_alike}
use Rattle.partial.specs.Partial.{PartialTree, Lays, HasAll, NothingEarlier, whole}

-- ---- partial input trees over an alphabet are those of its grammar
pub partial_allowed : {A : Type 0} {ins : List ℕ} (l : Leaf ins) (d : Term A) → PartialTree ins d → AllowedOpen (alphabet ins l) (λ x. 0) 0 d
partial_allowed {ins = ins} l d r = ranked_open (λ x. Unit {0}) ins l d r

-- ---- what the transducer of a file gives
module _ {stock s : List ℕ} {n : ℕ} {M : Transducer ℕ} (S : Sheet (inputs stock) (outputs stock) s n M) {A : Type 0} where
  -- Every file of a transducer lays something for every partial input tree.
  pub lays : (d : Term A) → PartialTree (inputs stock) d → Lays stock s d (translate_open M d)
  lays d r = record { states = n; machine = M; is_sheet = S; is_partial = r; given = refl }

  -- For one variable that is the initial term.
  pub lays_initial : (x : A) → Lays stock s (var x) (mapT (λ e. (x, e.1)) M.initial)
  unfolding Ranked translate_open run mapT
  lays_initial x = record { states = n; machine = M; is_sheet = S; is_partial = tt; given = refl }

  module _ (alphabets : Alphabets stock) {d : Term A} {t : Term (A × ℕ)} (L : Lays stock s d t) where
    -- whichever transducer of the file is taken, it gives t
    pub lays_given : translate_open M d ≡ t
    lays_given =
        let l = alphabets.leaf in
        identical_open (same_file l S L.is_sheet) (encoded_wf alphabets.ins.few l S.encodes) (partial_allowed l d L.is_partial) ∙ L.given

    -- However the variables are filled in, what was laid is a prefix of the output tree.
    pub lays_prefix : (f : A → Tree) → Prefix t (translate M (bind d f))
    lays_prefix f = rw (← lays_given) (open_prefix M d f)

-- A file lays one tree for a partial input tree.
pub lays_one : {A : Type 0} {stock s : List ℕ} {d : Term A} {t t' : Term (A × ℕ)} → Alphabets stock → Lays stock s d t → Lays stock s d t' → t ≡ t'
lays_one alphabets L L' = sym L.given ∙ lays_given L.is_sheet alphabets L'

-- ---- a partial input tree without variables
module _ {A : Type 0} where
  run_whole : (M : Transducer ℕ) (d : Tree) (q : ℕ) → run M (whole {A = A} d) q ≡ whole (output M d q)
  unfolding output closed
  run_whole M d q = run_bind M (λ x. absurd x) d q ∙ (bind_cong (run M d q) (λ e. absurd e.0) ∙ sym (bind_bind (run M d q) _ _))

  translate_whole : (M : Transducer ℕ) (d : Tree) → translate_open M (whole {A = A} d) ≡ whole (translate M d)
  unfolding translate translate_open
  translate_whole M d = bind_cong M.initial (λ e. run_whole M d e.1) ∙ sym (bind_bind M.initial _ _)

  -- Without variables what is laid is the output tree.
  pub lays_whole : {stock s : List ℕ} {n : ℕ} {M : Transducer ℕ} → Sheet (inputs stock) (outputs stock) s n M → (d : Tree) → Ranked (λ x. ⊥) (inputs stock) d → Lays {A = A} stock s (whole d) (whole (translate M d))
  lays_whole {stock} {n = n} {M} S d r = record { states = n; machine = M; is_sheet = S; is_partial = ranked_bind (λ x. ⊥) (inputs stock) (λ x. Unit {0}) (λ x. absurd x) (λ x e. absurd x) d r; given = translate_whole M d }

-- ---- nothing is earlier than a normal form
-- of a prefix all is there
prefix_all : {A B : Type 0} {t : Term A} {u : Term B} → Prefix t u → HasAll t u
prefix_all p = record { symbols = λ v b e. prefix_symbol p v e; calls = λ v e i. prefix_sub p v i }

module _ {stock s : List ℕ} {k : ℕ} {counts bytes : List ℕ} (F : NormalFile stock s k counts bytes) where
  -- whichever transducer of the file s is taken, the normal form gives its output trees
  form_plan : {n : ℕ} {M : Transducer ℕ} → Sheet (inputs stock) (outputs stock) s n M → (d : Tree) → Ranked (λ y. ⊥) (inputs stock) d → translate M d ≡ translate F.form d
  form_plan S d r =
      let itself : SewAlike stock s s = record { states = F.states; machine = F.machine; sheet = F.sheet; states' = F.states; machine' = F.machine; sheet' = F.sheet; alike = record { plans = λ d r. refl } } in
      (all_alike F.alphabets itself S F.sheet).plans d r ∙ (clean_alike F).plans d r

  module _ {A : Type 0} {d : Term A} {u : Term (A × ℕ)} (U : Lays stock (file k counts bytes) d u) where
    -- the normal form gives what its file lays
    form_given : translate_open F.form d ≡ u
    form_given = lays_given (record { counts = counts; bytes = bytes; coded = refl; encodes = F.encodes }) F.alphabets U

    -- What the file of a normal form lays is the largest common prefix of the output trees, over all input trees that d stands for: what is a prefix of them all is one of it.
    pub clean_largest : {B : Type 0} {h : Term B} {n : ℕ} {M : Transducer ℕ} → Sheet (inputs stock) (outputs stock) s n M → ((f : A → Tree) → ((x : A) → Ranked (λ y. ⊥) (inputs stock) (f x)) → Prefix h (translate M (bind d f))) → Prefix h u
    clean_largest S common =
        let l = F.alphabets.leaf in
        let C = (F.normal l).canonical in
        rw (← form_given) (open_largest C.wf C.earliest (partial_allowed l d U.is_partial) (λ f good.
        let filled : (x : A) → Ranked (λ y. ⊥) (inputs stock) (f x) = λ x. allowed_ranked l (f x) (good x) in
        rw (← form_plan S (bind d f) (ranked_bind (λ x. Unit {0}) (inputs stock) (λ y. ⊥) f (λ x e. filled x) d U.is_partial)) (common f filled)))

    -- What a file of an equivalent transducer lays is a prefix of it.
    pub clean_first : {s' : List ℕ} {t : Term (A × ℕ)} → SewAlike stock s s' → Lays stock s' d t → Prefix t u
    clean_first a L =
        let l = F.alphabets.leaf in
        let N = F.normal l in
        let same : Equivalent (alphabet (inputs stock) l) F.form L.machine = equivalent_trans (equivalent_sym N.equivalent) ((equivalent_alike l).1 (all_alike F.alphabets a F.sheet L.is_sheet)) in
        rw (← form_given, ← L.given) (earliest_first N.canonical.wf N.canonical.earliest (partial_allowed l d U.is_partial) same)

  -- Nothing is earlier than the file of a normal form.
  pub nothing_earlier : NothingEarlier stock s (file k counts bytes)
  nothing_earlier = record { first = λ a L U. prefix_all (clean_first U a L) }
