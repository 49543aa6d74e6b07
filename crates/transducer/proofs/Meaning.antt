-- What is written is the code of what the transducer of the sheet gives.
-- Assumes nothing.
use Prim.Native.Nat.{ℕ, suc, ◌+◌, ◌-◌, ◌*◌, ◌≤◌, ◌<◌}
use native.Mathlib.Omega.{arith}
use mathlib.Core.Bool.{Bool, true, false}
use mathlib.Core.Path.{◌≡◌, refl, sym, ap, ap₂, ◌∙◌}
use mathlib.Core.List.{◌++◌, List, [], ◌∷◌}
use lib.Dec.{ltb, leb}
use lib.ListN.{length, get_or}
use lib.Seq.{slice, length-slice}
use borrow.Author.Tests.{ltb-true, leb-true}
use Rattle.theory.specs.Term.{var, node, Terms, none, more, count, Tree}
use Rattle.theory.specs.Transducer.{output, translate, run, pick}
use Rattle.theory.proofs.Runs.{output_node, call as called-tree}
use Rattle.trees.specs.Code.{preorder, code, Mark}
use Rattle.trees.specs.Inner.Decode.{call, symbol, forest, first, Whole, Over, AllOver}
use Rattle.trees.specs.Inner.Symbols.{symbol_if, symbol_of, trees, tree, IsTree}
use Rattle.formats.specs.Inner.Layout.{call_if, mark_of, pairs, offset, mark_at, body_number, body_count, body, transducer, Wholes}
use Rattle.transducer.specs.Inner.Written.{spell, written, called, made, made_below, body_at, walked, Callable, Table}
use Rattle.trees.proofs.Forest.{Known, say, says}
use Rattle.trees.proofs.Codes.{preorder_bind, single, whole_spelled, over_forest, over_first}
use Rattle.trees.proofs.Letters.{symbol_inside, faithful_symbols}
use Rattle.formats.proofs.Offsets.{offset_ordered, offset_most}
use Rattle.formats.proofs.Pairs.{number_less, pairs_length, getD_slice}
use Rattle.transducer.proofs.Walks.{spell_same}

-- the bodies are whole, of at most 64 marks, and lie in the file
pub record Bodies (ins outs : List ℕ) (n : ℕ) (counts bytes : List ℕ) : Type 0 where
  pub wholes : Wholes ins outs n (offset counts) bytes
  pub inside : 2 * offset counts (body_count ins n) ≤ length bytes
  pub states : n ≤ 128
  pub few : (j : ℕ) → j < body_count ins n → offset counts (j + 1) ≤ offset counts j + 64

-- ---- letters
known_symbol : {A : Type 0} (rs : List ℕ) (b : ℕ) → Known (symbol_of {A = A} rs b) → symbol_of {A = A} rs b ≡ symbol b (get_or rs b 0)
unfolding symbol_of
known_symbol {A} rs b k = go (ltb b (length rs)) k
  where
    go : (t : Bool) → Known (symbol_if {A = A} t b (get_or rs b 0)) → symbol_if {A = A} t b (get_or rs b 0) ≡ symbol b (get_or rs b 0)
    go true k = refl
    go false k = absurd k

known_call : (n r i q : ℕ) → Known (call_if (leb (suc i) r) (ltb q n) (suc i, q)) → (suc i ≤ r) × (q < n) × (call_if (leb (suc i) r) (ltb q n) (suc i, q) ≡ call (suc i, q))
known_call n r i q k = go (leb (suc i) r) (ltb q n) refl refl k
  where
    go : (b d : Bool) → leb (suc i) r ≡ b → ltb q n ≡ d → Known (call_if b d (suc i, q)) → (suc i ≤ r) × (q < n) × (call_if b d (suc i, q) ≡ call (suc i, q))
    go true true e f k = (leb-true _ _ e, ltb-true _ _ f, refl)
    go true false e f k = absurd k
    go false d e f k = absurd k

pub known_callable : (outs : List ℕ) (n r i x : ℕ) → Known (mark_of outs n r (i, x)) → Callable n r (i, x)
unfolding mark_of
known_callable outs n r ℕ.zero x k h = absurd (omega arith)
known_callable outs n r (suc i) x k h = let c = known_call n r i x k in (c.0, c.1)

known_ranked : (outs : List ℕ) (n r i x : ℕ) → Known (mark_of outs n r (i, x)) → i ≡ 0 → x < length outs
unfolding mark_of symbol_of
known_ranked outs n r (suc i) x k z = absurd (omega arith)
known_ranked outs n r ℕ.zero x k z = go (ltb x (length outs)) refl k
  where
    go : (b : Bool) → ltb x (length outs) ≡ b → Known (symbol_if {A = ℕ × ℕ} b x (get_or outs x 0)) → x < length outs
    go true e k = ltb-true _ _ e
    go false e k = absurd k

-- the marks of a body, read as letters or as bytes
says_spell : (outs : List ℕ) (n r : ℕ) (g : ℕ × ℕ → List ℕ) (ms : List Mark) → ((j : ℕ) → j < length ms → Known (mark_of outs n r (get_or ms j (0, 0)))) → says (mark_of outs n r) g (λ k. k) ms ≡ spell (λ i q. g (i, q)) ms
unfolding spell mark_of
says_spell outs n r g [] k = refl
says_spell outs n r g ((ℕ.zero, b) ∷ ms) k =
    ap₂ ◌++◌ (ap (say g (λ k. k)) (known_symbol outs b (k 0 (omega arith)))) (says_spell outs n r g ms (λ j h. k (suc j) (omega arith)))
says_spell outs n r g ((suc i, q) ∷ ms) k =
    ap₂ ◌++◌ (ap (say g (λ k. k)) (known_call n r i q (k 0 (omega arith))).2) (says_spell outs n r g ms (λ j h. k (suc j) (omega arith)))

-- what a whole body gives, with g for its calls; its calls can be made, and its symbols have ranks
pub record BodyRead (outs : List ℕ) (n r : ℕ) (ms : List Mark) : Type 0 where
  pub spelled : (g : ℕ × ℕ → List ℕ) → preorder g (λ k. k) (first (forest (mark_of outs n r) ms)) ≡ spell (λ i q. g (i, q)) ms
  pub callable : (j : ℕ) → j < length ms → Callable n r (get_or ms j (0, 0))
  pub ranked : (j : ℕ) → j < length ms → (get_or ms j (0, 0)).0 ≡ 0 → (get_or ms j (0, 0)).1 < length outs

pub body_read : (outs : List ℕ) (n r : ℕ) (ms : List Mark) → Whole (mark_of outs n r) ms → BodyRead outs n r ms
body_read outs n r ms W = record {
  spelled = λ g. let w = whole_spelled (mark_of outs n r) g (λ k. k) (0, 0) ms W in w.spelled ∙ says_spell outs n r g ms w.known;
  callable = λ j h. let w = whole_spelled {Y = ℕ} (mark_of outs n r) (λ e. []) (λ k. k) (0, 0) ms W in known_callable outs n r _ _ (w.known j h);
  ranked = λ j h z. let w = whole_spelled {Y = ℕ} (mark_of outs n r) (λ e. []) (λ k. k) (0, 0) ms W in known_ranked outs n r _ _ (w.known j h) z;
}

-- ---- states and trees
rhs_spelled : (ins outs : List ℕ) (n : ℕ) (counts bytes : List ℕ) (q a : ℕ) (g : ℕ × ℕ → List ℕ) → BodyRead outs n (get_or ins a 0) (body (offset counts) bytes (body_number ins q a)) → preorder g (λ k. k) ((transducer ins outs n (offset counts) bytes).rhs q a) ≡ spell (λ i q. g (i, q)) (body (offset counts) bytes (body_number ins q a))
unfolding transducer
rhs_spelled ins outs n counts bytes q a g R = R.spelled g

module _ (ins outs : List ℕ) (n : ℕ) (counts bytes : List ℕ) (B : Bodies ins outs n counts bytes)
    (bodies : ℕ → ℕ → List Mark) (same : (q a : ℕ) → q < n → a < length ins → bodies q a ≡ body (offset counts) bytes (body_number ins q a)) where
  mutual
    unfolding Over made made_below called-tree output run pick count

    pub output_written : (d : Tree) (q : ℕ) → Over (symbol_of ins) (λ x. absurd x) (λ k. k) d → q < n → code (output (transducer ins outs n (offset counts) bytes) d q) ≡ written bodies d q
    output_written (var x) q o h = absurd x
    output_written (node a ds) q o h =
        let M = transducer ins outs n (offset counts) bytes in
        let i = symbol_inside ins a a (count ds) o.0 in
        let R = body_read outs n (get_or ins a 0) (body (offset counts) bytes (body_number ins q a)) (B.wholes.rhs q a h i.1) in
        ap code (output_node M q a ds)
        ∙ preorder_bind (λ x. absurd x) (λ k. k) (called-tree M ds) (M.rhs q a)
        ∙ rhs_spelled ins outs n counts bytes q a (λ e. code (called-tree M ds e)) R
        ∙ spell_same (λ i r. code (called-tree M ds (i, r))) (λ i r. called bodies ds i r) n (get_or ins a 0) (body (offset counts) bytes (body_number ins q a)) R.callable
        (λ i' r p l m. output_called ds i' r o.1 p (omega arith) m)
        ∙ ap (spell (λ i r. called bodies ds i r)) (sym (same q a h i.1))

    output_called : (ds : Terms ⊥) (i r : ℕ) → AllOver (symbol_of ins) (λ x. absurd x) (λ k. k) ds → 0 < i → i ≤ count ds → r < n → code (called-tree (transducer ins outs n (offset counts) bytes) ds (i, r)) ≡ called bodies ds i r
    output_called none i r o p l m = absurd (omega arith)
    output_called (more d ds) ℕ.zero r o p l m = absurd (omega arith)
    output_called (more d ds) (suc ℕ.zero) r o p l m = output_written d r o.0 m
    output_called (more d ds) (suc (suc i)) r o p l m = output_called ds (suc i) r o.1 (omega arith) (omega arith) m

  pub translate_written : (d : Tree) → Over (symbol_of ins) (λ x. absurd x) (λ k. k) d → code (translate (transducer ins outs n (offset counts) bytes) d) ≡ spell (λ i r. called bodies (more d none) i r) (body (offset counts) bytes 0)
  unfolding translate transducer made_below
  translate_written d o =
      let M = transducer ins outs n (offset counts) bytes in
      let R = body_read outs n 1 (body (offset counts) bytes 0) B.wholes.initial in
      preorder_bind (λ x. absurd x) (λ k. k) (λ e. output M d e.1) M.initial
      ∙ R.spelled (λ e. code (output M d e.1))
      ∙ spell_same (λ i r. code (output M d r)) (λ i r. called bodies (more d none) i r) n 1 (body (offset counts) bytes 0) R.callable (λ i r p l m. on_one i r p l m)
    where
      on_one : (i r : ℕ) → 0 < i → i ≤ 1 → r < n → code (output (transducer ins outs n (offset counts) bytes) d r) ≡ called bodies (more d none) i r
      on_one ℕ.zero r p l m = absurd (omega arith)
      on_one (suc ℕ.zero) r p l m = output_written d r o m
      on_one (suc (suc i)) r p l m = absurd (omega arith)

-- ---- the table of starts
module _ (ins outs : List ℕ) (n : ℕ) (counts bytes starts : List ℕ) (B : Bodies ins outs n counts bytes)
    (long : body_count ins n < length starts) (right : (j : ℕ) → j ≤ body_count ins n → get_or starts j 0 ≡ offset counts j) where
  pub body_same : (q a : ℕ) → q < n → a < length ins → body_at ins starts bytes q a ≡ body (offset counts) bytes (body_number ins q a)
  unfolding body_at body
  body_same q a h k =
      let l = number_less ins q n a h k in
      rw (right (body_number ins q a) (omega arith), right (body_number ins q a + 1) (omega arith))

  pub callable_at : (q a j : ℕ) → q < n → a < length ins → get_or starts (body_number ins q a) 0 ≤ j → j < get_or starts (body_number ins q a + 1) 0 → Callable n (get_or ins a 0) (mark_at bytes j)
  unfolding body
  callable_at q a j h k f t =
      let l = number_less ins q n a h k in
      let x = right (body_number ins q a) (omega arith) in
      let y = right (body_number ins q a + 1) (omega arith) in
      let most = offset_most counts (body_number ins q a + 1) (body_count ins n) (omega arith) in
      let inside = pairs_length bytes (offset counts (body_number ins q a + 1)) (omega (arith, B.inside)) in
      let i = j - offset counts (body_number ins q a) in
      let less : i < length (slice (offset counts (body_number ins q a)) (offset counts (body_number ins q a + 1)) (pairs bytes)) = omega (arith, length-slice (offset counts (body_number ins q a)) (offset counts (body_number ins q a + 1)) (pairs bytes) inside) in
      let d = getD_slice (offset counts (body_number ins q a)) (offset counts (body_number ins q a + 1)) i (pairs bytes) inside less in
      let e : offset counts (body_number ins q a) + i ≡ j = omega arith in
      let c = (body_read outs n (get_or ins a 0) (body (offset counts) bytes (body_number ins q a)) (B.wholes.rhs q a h k)).callable i less in
      rw (← e, ← d.1) c

  unfoldable pub table : Table ins starts bytes
  unfolding body
  table = record {
    states = n;
    few_states = B.states;
    long = long;
    ordered = λ j h. rw (right j (omega arith), right (j + 1) (omega arith)) (offset_ordered counts j);
    few = λ j h. rw (right j (omega arith), right (j + 1) (omega arith)) (B.few j h);
    inside = λ j h. rw (right j h) (omega (arith, B.inside, offset_most counts j (body_count ins n) h));
    callable = λ q a j h k f t. callable_at q a j h k f t;
  }

  pub translate_walked : (s : List ℕ) → IsTree ins s → code (translate (transducer ins outs n (offset counts) bytes) (tree ins s)) ≡ walked ins starts bytes s 0 (get_or starts 0 0) (get_or starts 1 0)
  unfolding tree trees body
  translate_walked s W =
      let F = forest (symbol_of ins) s in
      let o = over_first (symbol_of ins) (λ x. absurd x) (λ k. k) (faithful_symbols ins) F W.one (over_forest (symbol_of ins) (λ x. absurd x) (λ k. k) (faithful_symbols ins) s) in
      translate_written ins outs n counts bytes B (body_at ins starts bytes) body_same (tree ins s) o
      ∙ ap₂ (λ G ms. spell (λ i r. called (body_at ins starts bytes) G i r) ms) (sym (single F W.one)) (rw (right 0 (omega arith), right 1 (omega arith)))
