-- The levels that are counted are those of what the transducer of the sheet gives.
-- Assumes nothing.
use Prim.Native.Nat.{ℕ, suc, ◌≤◌, ◌<◌}
use native.Mathlib.Omega.{arith}
use mathlib.Core.Path.{◌≡◌, sym, ap, ap₂, ◌∙◌}
use mathlib.Core.List.{List, []}
use lib.ListN.{length, get_or}
use lib.Seq.{slice}
use Rattle.theory.specs.Size.{levels}
use Rattle.theory.specs.Term.{var, node, Terms, none, more, count, Tree}
use Rattle.theory.specs.Transducer.{output, translate, run, pick}
use Rattle.theory.proofs.Levels.{output_levels, translate_levels}
use Rattle.theory.proofs.Runs.{call as called-tree}
use Rattle.trees.specs.Inner.Decode.{forest, Over, AllOver}
use Rattle.trees.specs.Inner.Symbols.{symbol_of, trees, tree, IsTree}
use Rattle.trees.proofs.Codes.{single, over_forest, over_first}
use Rattle.trees.proofs.Letters.{symbol_inside, faithful_symbols}
use Rattle.formats.specs.Inner.Layout.{pairs, offset, body_number, body_count, body, transducer}
use Rattle.formats.proofs.Pairs.{number_less}
use Rattle.transducer.specs.Inner.Depth.{depths_of, DepthsAt}
use Rattle.transducer.specs.Inner.Written.{lowest, made, made_below, body_at, levels_by, walked_levels}
use Rattle.transducer.proofs.Levels.{body_levels, lowest_same}
use Rattle.transducer.proofs.Meaning.{Bodies, body_read, body_same}

-- rhs finds the levels of a right-hand side by the depths of its marks
module _ (ins outs : List ℕ) (n : ℕ) (counts bytes : List ℕ) (B : Bodies ins outs n counts bytes) (rhs : (ℕ → ℕ → ℕ) → ℕ → ℕ → ℕ)
    (right : (q a : ℕ) → q < n → a < length ins → (g : ℕ → ℕ → ℕ) → rhs g q a ≡ lowest g (depths_of outs [] (body (offset counts) bytes (body_number ins q a))) (body (offset counts) bytes (body_number ins q a))) where
  mutual
    unfolding Over made made_below called-tree output run pick count transducer

    output_counted : (d : Tree) (q : ℕ) → Over (symbol_of ins) (λ x. absurd x) (λ k. k) d → q < n → levels (output (transducer ins outs n (offset counts) bytes) d q) ≡ made rhs 0 d q
    output_counted (var x) q o h = absurd x
    output_counted (node a ds) q o h =
        let M = transducer ins outs n (offset counts) bytes in
        let i = symbol_inside ins a a (count ds) o.0 in
        let b = body (offset counts) bytes (body_number ins q a) in
        let W = B.wholes.rhs q a h i.1 in
        output_levels M q a ds
        ∙ sym (body_levels outs n (get_or ins a 0) (λ i r. levels (called-tree M ds (i, r))) b W)
        ∙ lowest_same (λ i r. levels (called-tree M ds (i, r))) (λ i r. made_below rhs 0 ds i r) n (get_or ins a 0) (depths_of outs [] b) b (body_read outs n (get_or ins a 0) b W).callable
        (λ i' r p l m. calls_counted ds i' r o.1 p (omega arith) m)
        ∙ sym (right q a h i.1 (λ i r. made_below rhs 0 ds i r))

    calls_counted : (ds : Terms ⊥) (i r : ℕ) → AllOver (symbol_of ins) (λ x. absurd x) (λ k. k) ds → 0 < i → i ≤ count ds → r < n → levels (called-tree (transducer ins outs n (offset counts) bytes) ds (i, r)) ≡ made_below rhs 0 ds i r
    calls_counted none i r o p l m = absurd (omega arith)
    calls_counted (more d ds) ℕ.zero r o p l m = absurd (omega arith)
    calls_counted (more d ds) (suc ℕ.zero) r o p l m = output_counted d r o.0 m
    calls_counted (more d ds) (suc (suc i)) r o p l m = calls_counted ds (suc i) r o.1 (omega arith) (omega arith) m

  translate_counted : (d : Tree) → Over (symbol_of ins) (λ x. absurd x) (λ k. k) d → levels (translate (transducer ins outs n (offset counts) bytes) d) ≡ lowest (λ i r. made_below rhs 0 (more d none) i r) (depths_of outs [] (body (offset counts) bytes 0)) (body (offset counts) bytes 0)
  unfolding transducer made_below
  translate_counted d o =
      let M = transducer ins outs n (offset counts) bytes in
      let b = body (offset counts) bytes 0 in
      translate_levels M d
      ∙ sym (body_levels outs n 1 (λ i r. levels (output M d r)) b B.wholes.initial)
      ∙ lowest_same (λ i r. levels (output M d r)) (λ i r. made_below rhs 0 (more d none) i r) n 1 (depths_of outs [] b) b (body_read outs n 1 b B.wholes.initial).callable on_one
    where
      on_one : (i r : ℕ) → 0 < i → i ≤ 1 → r < n → levels (output (transducer ins outs n (offset counts) bytes) d r) ≡ made_below rhs 0 (more d none) i r
      on_one ℕ.zero r p l m = absurd (omega arith)
      on_one (suc ℕ.zero) r p l m = output_counted d r o m
      on_one (suc (suc i)) r p l m = absurd (omega arith)

-- ---- the table of starts, and of depths
module _ (ins outs : List ℕ) (n : ℕ) (counts bytes starts : List ℕ) (B : Bodies ins outs n counts bytes)
    (long : body_count ins n < length starts) (right : (j : ℕ) → j ≤ body_count ins n → get_or starts j 0 ≡ offset counts j) where
  pub levels_walked : (s : List ℕ) → IsTree ins s → (depths : List ℕ) → ((j : ℕ) → j < body_count ins n → DepthsAt outs starts bytes depths j) → levels (translate (transducer ins outs n (offset counts) bytes) (tree ins s)) ≡ walked_levels ins starts bytes depths s 0 (get_or starts 0 0) (get_or starts 1 0)
  unfolding tree trees body levels_by body_at
  levels_walked s W depths D =
      let F = forest (symbol_of ins) s in
      let o = over_first (symbol_of ins) (λ x. absurd x) (λ k. k) (faithful_symbols ins) F W.one (over_forest (symbol_of ins) (λ x. absurd x) (λ k. k) (faithful_symbols ins) s) in
      let R = levels_by ins starts bytes depths in
      translate_counted ins outs n counts bytes B R by_table_lem (tree ins s) o
      ∙ ap₂ (λ G ms. lowest (λ i r. made_below R 0 G i r) (depths_of outs [] ms) ms) (sym (single F W.one)) (rw (right 0 (omega arith), right 1 (omega arith)))
      ∙ ap (λ ds. lowest (λ i r. made_below R 0 F i r) ds (slice (get_or starts 0 0) (get_or starts 1 0) (pairs bytes))) (sym (D 0 (omega arith)))
    where
      by_table_lem : (q a : ℕ) → q < n → a < length ins → (g : ℕ → ℕ → ℕ) → levels_by ins starts bytes depths g q a ≡ lowest g (depths_of outs [] (body (offset counts) bytes (body_number ins q a))) (body (offset counts) bytes (body_number ins q a))
      by_table_lem q a h k g =
          ap (λ ds. lowest g ds (body_at ins starts bytes q a)) (D (body_number ins q a) (number_less ins q n a h k))
          ∙ ap (λ ms. lowest g (depths_of outs [] ms) ms) (body_same ins outs n counts bytes starts B long right q a h k)
