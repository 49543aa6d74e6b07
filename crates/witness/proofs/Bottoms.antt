-- Below a clash of two terms: the tree of the steps, at the child that matters, makes the two terms two symbols.
-- Assumes nothing.
use Prim.Native.Nat.{ℕ, suc, ◌+◌, ◌-◌, ◌*◌, ◌≤◌, ◌<◌}
use native.Mathlib.Decide.{ℕ_discrete}
use native.Mathlib.Omega.{arith}
use mathlib.Core.List.{List, [], ◌∷◌}
use mathlib.Core.Logic.{◌≢◌, by_cases}
use mathlib.Core.Option.{some}
use mathlib.Core.Path.{◌≡◌, refl, sym, ap, ap₂, ◌∙◌, subst}
use lib.ListN.{length, get_or}
use Rattle.theory.specs.Grammar.{Grammar, Allowed, AllAllowed}
use Rattle.theory.specs.Inner.Leaves.{put, leaf_of}
use Rattle.theory.specs.Inner.Nodes.{symbol}
use Rattle.theory.specs.Inner.Slim.{Slim}
use Rattle.theory.specs.Size.{levels}
use Rattle.theory.specs.Term.{Term, Terms, Tree, var, node, none, more, bind}
use Rattle.theory.specs.Transducer.{Transducer, output}
use Rattle.theory.specs.Vars.{AllVars, each, EachVars, both}
use Rattle.theory.specs.Wf.{Fits, nth}
use Rattle.theory.proofs.Along.{Along, here, under, Alongs, first, later}
use Rattle.theory.proofs.Leaves.{put_allowed, put_leaves, call_put, call_other}
use Rattle.theory.proofs.OtherRoot.{falls_levels, falls_other}
use Rattle.theory.proofs.Runs.{fill, output_node}
use Rattle.theory.proofs.Slim.{leaf_slim}
use Rattle.theory.proofs.Terms.{conflict, count_binds}
use Rattle.theory.proofs.Vars.{all_one}
use Rattle.trees.specs.Alphabets.{Leaf}
use Rattle.trees.specs.Code.{Mark, Ranked, AllRanked}
use Rattle.formats.specs.Inner.Layout.{body_number, transducer}
use Rattle.formats.specs.Inner.Marked.{part}
use Rattle.formats.proofs.Pairs.{pairs_at}
use Rattle.forms.specs.Alphabet.{alphabet}
use Rattle.forms.specs.Inner.Tables.{machine, Layout}
use Rattle.forms.proofs.Files.{machine_wf}
use Rattle.witness.specs.Inner.Bottoms.{RootOnLeafAsked, PathFromFound, RootOnLeaf, BottomFound, no_path, second_path, first_path}
use Rattle.witness.specs.Inner.Other.{first_mark}
use Rattle.pairs.specs.declared.pairs.Pair.{Pair}
use Rattle.pairs.specs.declared.pairs.Side.{Side}
use Rattle.pairs.specs.Inner.Pairs.{pair_state, body_of}
use Rattle.witness.specs.Inner.Shown.{steps_tree}
use Rattle.witness.proofs.Firsts.{First, first_symbol, first_call, first_mark_lem, mark_fits}
use Rattle.pairs.proofs.Stepping.{Begin, Root, root_call}

-- two ground trees with these root symbols, over the output alphabet
pub record RootsAre (outs : List ℕ) (b b' : ℕ) (T U : Tree) : Type 0 where
  pub left : symbol T ≡ (b, get_or outs b 0)
  pub right : symbol U ≡ (b', get_or outs b' 0)

-- a slim tree of at most 129 levels
abbrev pub Small : Tree → Type 0
Small d = Slim d × (levels d ≤ 129)

-- ---- what stands at an address of two terms
pub record Ended {A B : Type 0} (R : Term A → Term B → Type 0) (outs : List ℕ) (P F : A → Type 0) (P' F' : B → Type 0) (t : Term A) (u : Term B) : Type 0 where
  pub holds : R t u
  pub ranked : Ranked P outs t
  pub ranked' : Ranked P' outs u
  pub vars : AllVars F t
  pub vars' : AllVars F' u

module _ {A B : Type 0} {R : Term A → Term B → Type 0} (outs : List ℕ) {P F : A → Type 0} {P' F' : B → Type 0} where
  mutual
    unfolding Ranked

    -- it is ranked, and has only variables of the whole
    pub along_ended : {X : Term A} {Y : Term B} {v : List ℕ} → Along R X Y v → Ranked P outs X → Ranked P' outs Y → AllVars F X → AllVars F' Y → Along (Ended R outs P F P' F') X Y v
    along_ended (here r) o p f g = here (record { holds = r; ranked = o; ranked' = p; vars = f; vars' = g })
    along_ended (under e ms) o p (each f) (each g) = under e (alongs_ended ms o.2 p.2 f g)

    alongs_ended : {X : Terms A} {Y : Terms B} {i : ℕ} {v : List ℕ} → Alongs R X Y i v → AllRanked P outs X → AllRanked P' outs Y → EachVars F X → EachVars F' Y → Alongs (Ended R outs P F P' F') X Y i v
    alongs_ended (first m) o p (both f fs) (both g gs) = first (along_ended m o.0 p.0 f g)
    alongs_ended (later ms) o p (both f fs) (both g gs) = later (alongs_ended ms o.1 p.1 fs gs)

-- a symbol stays, whatever is put for the calls
node_symbol : (outs : List ℕ) (P : ℕ × ℕ → Type 0) (f : ℕ × ℕ → Tree) {c x : ℕ} (t : Term (ℕ × ℕ)) → Root (c, x) t → Ranked P outs t → c ≡ 0 → symbol (bind t f) ≡ (x, get_or outs x 0)
unfolding Root Ranked bind symbol
node_symbol outs P f (var e) r o z = absurd (omega (arith, r.1, ap (λ (m : Mark). m.0) r.0))
node_symbol outs P f {c} {x} (node k ts) r o z = let e : k ≡ x = ap (λ (m : Mark). m.1) r in ap₂ (λ a b. (a, b)) e (count_binds ts f ∙ o.1 ∙ ap (λ a. get_or outs a 0) e)

-- ---- a call
module _ (G : Grammar) (N : Transducer ℕ) {Valid : ℕ → Type 0} (sorts : List ℕ) (d : Tree) (c x : ℕ) (t : Term (ℕ × ℕ)) (r : Root (c, x) t) (h : 0 < c) (f : AllVars (Fits N Valid sorts) t) where
  call_fits : Fits N Valid sorts (c, x)
  call_fits = all_one (rw (root_call (c, x) t r h) at f)

  -- on the child d it gives the output of its state
  call_there : fill N (put G sorts c d) t ≡ output N d x
  unfolding bind
  call_there = ap (λ u. fill N (put G sorts c d) u) (root_call (c, x) t r h) ∙ call_put G d N sorts c x call_fits.sort

  -- on another child the output on a leaf
  call_else : (i : ℕ) → i ≢ c → fill N (put G sorts i d) t ≡ output N (leaf_of G (N.sort x)) x
  unfolding bind
  call_else i g = ap (λ u. fill N (put G sorts i d) u) (root_call (c, x) t r h) ∙ call_other G d N sorts i c x call_fits.sort g

-- if there is one child, a call that fits reads it
put_alone : (G : Grammar) (d : Tree) (s i : ℕ) {r : ℕ} → nth (s ∷ []) i ≡ some r → put G (s ∷ []) i d ≡ more d none
unfolding put nth
put_alone G d s ℕ.zero h = conflict (cc)
put_alone G d s (suc ℕ.zero) h = refl
put_alone G d s (suc (suc i)) h = conflict (cc)

-- ---- one transducer
module _ {ins outs starts bytes : List ℕ} {n : ℕ} (L : Layout ins outs starts bytes n) (l : Leaf ins) where
  abbrev G : Grammar
  G = alphabet ins l

  abbrev M : Transducer ℕ
  M = machine ins outs starts bytes n

  -- where such a path leads
  pub record PathShown (q b : ℕ) (d : Tree) (x : ℕ) : Type 0 where
    pub shown : symbol (output M d q) ≡ (x, get_or outs x 0)
    pub other : x ≢ b
    pub allowed : Allowed G 0 d
    pub small : Small d

  pub path_shown : {q b : ℕ} {steps : List ℕ} {count x : ℕ} → q < n → PathFromFound ins starts bytes q b steps count x → PathShown q b (steps_tree ins l (part steps 0 count)) x
  unfolding transducer
  path_shown h F =
      let T = F.path.leads outs l n L h in
      let O = falls_other (machine_wf l L.wholes) h T.path in
      record { shown = T.shown; other = F.path.other; allowed = O.allowed; small = (O.thin, omega (arith, falls_levels T.path, F.path.few)) }

  leaf_by : (x : ℕ) {r : ℕ} {t : Term (ℕ × ℕ)} {m : Mark} → r ≡ 0 → M.rhs x l.symbol ≡ t → First outs n r t m → symbol (output M (leaf_of G 0) x) ≡ (m.1, get_or outs m.1 0)
  unfolding leaf_of alphabet bind symbol
  leaf_by x z e (first_symbol {ts = ts} h f) = rw (output_node M x l.symbol none, e, count_binds ts _, f)
  leaf_by x z e (first_call c) = absurd (omega (arith, c.child))

  -- on a leaf a state has the root symbol of its right-hand side
  pub leaf_shown : {x e : ℕ} → x < n → l.symbol ≡ e → symbol (output M (leaf_of G 0) x) ≡ ((first_mark ins starts bytes x e).1, get_or outs (first_mark ins starts bytes x e).1 0)
  leaf_shown {x} h z = subst (λ a. symbol (output M (leaf_of G 0) x) ≡ ((first_mark ins starts bytes x a).1, get_or outs (first_mark ins starts bytes x a).1 0)) z (leaf_by x l.rank refl (first_mark_lem L h l.there))

-- ---- two terms at the address of a clash
module _ {ins outs starts bytes starts' bytes' : List ℕ} {n n' : ℕ} (L : Layout ins outs starts bytes n) (L' : Layout ins outs starts' bytes' n') (l : Leaf ins) (sorts : List ℕ) where
  abbrev K : Transducer ℕ
  K = machine ins outs starts bytes n

  abbrev K' : Transducer ℕ
  K' = machine ins outs starts' bytes' n'

  -- they begin with these marks, are ranked, and call on children of these sorts
  abbrev pub Ends : Mark → Mark → (ℕ × ℕ → Type 0) → (ℕ × ℕ → Type 0) → Term (ℕ × ℕ) → Term (ℕ × ℕ) → Type 0
  Ends e e' P P' = Ended (Begin e e') outs P (Fits K (λ q. q < n) sorts) P' (Fits K' (λ q. q < n') sorts)

  -- child d at the spot, among leaves, shows two symbols
  pub record Separates (spot : ℕ) (d : Tree) (b b' : ℕ) (t u : Term (ℕ × ℕ)) : Type 0 where
    pub roots : RootsAre outs b b' (fill K (put (alphabet ins l) sorts spot d) t) (fill K' (put (alphabet ins l) sorts spot d) u)
    pub unlike : b ≢ b'
    pub small : Small d
    pub allowed : AllAllowed (alphabet ins l) sorts (put (alphabet ins l) sorts spot d)
    pub alone : sorts ≡ 0 ∷ [] → put (alphabet ins l) (0 ∷ []) spot d ≡ more d none

  module _ {e : ℕ} (leaf : l.symbol ≡ e) (c x c' x' : ℕ) {P P' : ℕ × ℕ → Type 0} {t u : Term (ℕ × ℕ)} (E : Ends (c, x) (c', x') P P' t u) where
    -- two symbols
    separates_neither : c ≡ 0 → c' ≡ 0 → x ≢ x' → Separates 0 (leaf_of (alphabet ins l) 0) x x' t u
    unfolding leaf_of levels put
    separates_neither z z' o = record {
      roots = record { left = node_symbol outs P _ t E.holds.0 E.ranked z; right = node_symbol outs P' _ u E.holds.1 E.ranked' z' };
      unlike = o;
      small = (leaf_slim (alphabet ins l) (leaf_of (alphabet ins l) 0) 0, omega arith);
      allowed = put_leaves (alphabet ins l) sorts _;
      alone = λ y. refl;
    }

    -- a symbol and a call
    separates_second : {d : Tree} {b' : ℕ} → c ≡ 0 → 0 < c' → (x' < n' → PathShown L' l x' x d b') → Separates c' d x b' t u
    unfolding transducer
    separates_second {d} z h F =
        let g = call_fits (alphabet ins l) K' sorts d c' x' u E.holds.1 h E.vars' in
        let D = F g.valid in
        record {
          roots = record { left = node_symbol outs P _ t E.holds.0 E.ranked z; right = ap symbol (call_there (alphabet ins l) K' sorts d c' x' u E.holds.1 h E.vars') ∙ D.shown };
          unlike = λ y. D.other (sym y);
          small = D.small;
          allowed = put_allowed (alphabet ins l) sorts c' g.sort D.allowed;
          alone = λ y. put_alone (alphabet ins l) d 0 c' (rw y at g.sort);
        }

    -- the second term, if the child of the first is no child of its own
    leaf_root_shown : (d : Tree) {b' : ℕ} → RootOnLeaf ins starts' bytes' e c' x' b' → (0 < c' → c ≢ c') → symbol (fill K' (put (alphabet ins l) sorts c d) u) ≡ (b', get_or outs b' 0)
    unfolding transducer
    leaf_root_shown d {b'} F o = by_cases (ℕ_discrete c' 0)
        (λ z. node_symbol outs P' _ u E.holds.1 E.ranked' z ∙ ap (λ b. (b, get_or outs b 0)) (sym (F.symbol z)))
        (λ z.
        let h : 0 < c' = omega arith in
        let g = call_fits (alphabet ins l) K' sorts d c' x' u E.holds.1 h E.vars' in
        ap symbol (call_else (alphabet ins l) K' sorts d c' x' u E.holds.1 h E.vars' c (o h)) ∙ leaf_shown L' l g.valid leaf ∙ ap (λ b. (b, get_or outs b 0)) (sym (F.call h)))

    -- a call
    separates_first : {d : Tree} {b b' : ℕ} → 0 < c → (0 < c' → c ≢ c') → RootOnLeaf ins starts' bytes' e c' x' b' → (x < n → PathShown L l x b' d b) → Separates c d b b' t u
    unfolding transducer
    separates_first {d} h o A F =
        let g = call_fits (alphabet ins l) K sorts d c x t E.holds.0 h E.vars in
        let D = F g.valid in
        record {
          roots = record { left = ap symbol (call_there (alphabet ins l) K sorts d c x t E.holds.0 h E.vars) ∙ D.shown; right = leaf_root_shown d A o };
          unlike = D.other;
          small = D.small;
          allowed = put_allowed (alphabet ins l) sorts c g.sort D.allowed;
          alone = λ y. put_alone (alphabet ins l) d 0 c (rw y at g.sort);
        }

    pub separates : {steps : List ℕ} {child count b b' : ℕ} → (c ≡ 0 → c' ≡ 0 → x ≢ x') → (0 < c → 0 < c' → c ≢ c') → BottomFound ins starts bytes starts' bytes' e c x c' x' steps child count b b' → Separates child (steps_tree ins l (part steps 0 count)) b b' t u
    unfolding steps_tree
    separates o p (no_path z z') = separates_neither z z' (o z z')
    separates o p (second_path z h F) = separates_second z h (λ v. path_shown L' l v F)
    separates o p (first_path h A F) = separates_first h (p h) A (λ v. path_shown L l v F)

-- the path has at most 128 steps, and each step has a symbol and one of its children, or 0
pub bottom_few : {ins starts bytes starts' bytes' : List ℕ} {e c x c' x' : ℕ} {steps : List ℕ} {child count b b' : ℕ} → BottomFound ins starts bytes starts' bytes' e c x c' x' steps child count b b' → count ≤ 128
bottom_few (no_path z z') = omega arith
bottom_few (second_path z h F) = F.path.few
bottom_few (first_path h A F) = F.path.few

-- ---- the symbol that a call shows on a leaf
module _ {ins starts bytes : List ℕ} {e c x : ℕ} (F : RootOnLeafAsked ins starts bytes e c x) (h : 0 < c) where
  pub leaf_mark_inside : {at : ℕ} → at ≡ get_or starts (body_number ins x e) 0 → 2 * at + 1 < length bytes
  leaf_mark_inside f = omega (arith, mark_fits F.layout (F.state h) F.leaf)

  pub leaf_root : {at b : ℕ} → at ≡ get_or starts (body_number ins x e) 0 → b ≡ get_or bytes (2 * at + 1) 0 → RootOnLeaf ins starts bytes e c x b
  leaf_root f g = record {
    symbol = λ z. absurd (omega arith);
    call = λ z. g ∙ ap (λ k. get_or bytes (2 * k + 1) 0) f ∙ sym (ap (λ (m : Mark). m.1) (pairs_at bytes (get_or starts (body_number ins x e) 0) (mark_fits F.layout (F.state h) F.leaf)));
  }

-- ---- the number of a body
module _ (ins : List ℕ) (P : List Pair) (side : Side) (a : ℕ) where
  pub body_top : (q : ℕ) → q ≡ 0 → 0 ≡ body_of ins P side q a
  unfolding body_of
  body_top ℕ.zero e = refl
  body_top (suc p) e = absurd (omega arith)

  pub body_pair : (q : ℕ) → q ≢ 0 → {x : ℕ} → x ≡ pair_state P side (q - 1) → body_number ins x a ≡ body_of ins P side q a
  unfolding body_of
  body_pair ℕ.zero o f = absurd (o refl)
  body_pair (suc p) o f = let z : suc p - 1 ≡ p = omega arith in ap (λ x. body_number ins x a) (f ∙ ap (λ k. pair_state P side k) z)
