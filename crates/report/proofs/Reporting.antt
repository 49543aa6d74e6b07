-- The lines for two files: what cleaning and comparing them answered, and what was written of it.
-- Assumes nothing.
use Rattle.std.specs.Prelude.{Err, None, Ok, Option, Result, Some, true}
use Rattle.std.specs.Result.{is_ok}
use Rattle.forms.specs.declared.write.Form.{Form}
use Rattle.witness.specs.declared.witness.Shown.{Shown}
use Prim.Native.Nat.{ℕ, ◌+◌, ◌≤◌, ◌<◌}
use native.Mathlib.Omega.{arith}
use mathlib.Core.List.{List, ◌++◌}
use mathlib.Core.Logic.{◌⊎◌, inl, inr}
use mathlib.Core.Path.{◌≡◌, refl, sym, ap, ap₂, ◌∙◌}
use lib.ListN.{length, take}
use Rattle.theory.specs.Size.{size}
use Rattle.theory.specs.Term.{Tree}
use Rattle.theory.specs.Transducer.{Transducer, translate}
use Rattle.trees.specs.Alphabets.{inputs, outputs}
use Rattle.trees.specs.Refusal.{refusal_number, accepted, refused, done, Holds}
use Rattle.trees.specs.Code.{code}
use Rattle.formats.specs.Sheet.{longest, Sheet}
use Rattle.trees.specs.declared.refusal.Refusal.{Refusal}
use Rattle.trees.proofs.Judging.{pass, accept, accepted_holds, refused_fails, refused_early}
use Rattle.formats.proofs.Laws.{written_take}
use Rattle.transducer.proofs.Outputs.{code_size}
use Rattle.canonical.specs.Answers.{SewAlike, Cleans}
use Rattle.witness.specs.Difference.{tree_area, address_area, Difference}
use Rattle.comparison.specs.Answers.{Differ, pair_check, Compares}
use Rattle.comparison.proofs.Comparing.{past}
use Rattle.report.specs.Answers.{text_area, Sizes, Shows, Report, Lines, Reports}
use Rattle.formats.specs.Inner.Written.{Wrote}
use Rattle.report.specs.Inner.Writing.{clean_check, WroteNormal, WroteBoth}
use Rattle.report.specs.Text.{separated, first_word, second_word, refused_line, sizes_line, alike_line, place_text, differ_line}
use Rattle.discovery.proofs.Ranks.{translate_ranked}
use Rattle.report.proofs.Bounds.{address_low, tree_long, address_long}
use Rattle.report.proofs.Decimals.{number_three, number_four}
use Rattle.formats.proofs.Writing.{then}
use Rattle.report.proofs.Pieces.{sizes_long, differ_long}

-- ---- a normal form
-- it has few states and marks
module _ {stock s : List ℕ} {k m : ℕ} (S : Sizes stock s k m) where
  pub states_few : k ≤ 128
  states_few = S.normal.encodes.contents.states

  pub marks_few : m ≤ 8192
  marks_few = let E = S.normal.encodes in omega (arith, S.two, E.contents.all, ap length E.marks_coded)

  -- so its line is short
  pub line_short : (word : List ℕ) → length (sizes_line word k m) ≤ length word + 9
  line_short word = omega (arith, sizes_long word k m, number_three k (omega (arith, states_few)), number_four m)

  pub normal_written : {word t u : List ℕ} {at to : ℕ} → Wrote t u at to (sizes_line word k m) → WroteNormal stock s word t u at to
  normal_written {word} W = record { states = k; marks = m; sizes = S; line = W; short = omega (arith, W.behind, line_short word) }

-- cleaning a file that passes all checks gives it
module _ {stock s before after : List ℕ} {r : Result Form Refusal} (J : Cleans stock s before after r) where
  pub normal_sizes : {v : Form} → r ≡ Ok v → Sizes stock s v.states v.marks
  unfolding Holds
  normal_sizes e =
      let w = accepted_holds (rw e at J) in
      record { counts = w.1.0; bytes = w.1.1.0; normal = w.1.1.1.0; two = sym w.1.1.1.1.marks }

-- and is not refused then
pub normal_there : {stock s before after : List ℕ} (r : Result Form Refusal) → Cleans stock s before after r → longest ≤ length before → Holds (clean_check stock s) → is_ok r ≡ true
unfolding Holds
normal_there (Ok v) J h w = refl
normal_there (Err x) J h w = absurd ((refused_fails J).0 (h, w))

-- ---- two: what both pass, each passes
pub record BothHold (stock s s' : List ℕ) : Type 0 where
  pub first : Holds (clean_check stock s)
  pub second : Holds (clean_check stock s')

pub both_hold : (stock s s' : List ℕ) → Holds (pair_check stock s s') → BothHold stock s s'
unfolding Holds
both_hold stock s s' H = record { first = (H.0, (H.1.0, (H.1.1.0, (H.1.1.1.1.1.0, tt)))); second = (H.0, (H.1.1.1.0, (H.1.1.1.1.0, (H.1.1.1.1.1.1.0, tt)))) }

pub both_written : {stock s s' t u w : List ℕ} {m to : ℕ} → WroteNormal stock s first_word t u 0 m → WroteNormal stock s' second_word u w m to → WroteBoth stock s s' t w to
both_written A B = record { states = A.states; marks = A.marks; first = A.sizes; states' = B.states; marks' = B.marks; second = B.sizes; lines = then A.line B.line; short = omega (arith, A.short, B.short) }

-- ---- the answer
module _ {stock s s' area : List ℕ} (room : text_area ≤ length area) where
  -- the area begins with the text
  printed_text : {text after : List ℕ} {n : ℕ} → Lines stock s s' text → Wrote area after 0 n text → Reports stock s s' area after (Ok n)
  printed_text {text} L W = pass room (accept (record { text = text; lines = L; size = omega (arith, W.behind); wrote = W.wrote }))

  -- three lines, where all checks hold
  three_lines : {line u after : List ℕ} {m n : ℕ} → Holds (pair_check stock s s') → (SewAlike stock s s' × (line ≡ alike_line)) ⊎ Shows stock s s' line → WroteBoth stock s s' area u m → Wrote u after m n line → Reports stock s s' area after (Ok n)
  unfolding Holds
  three_lines {line} H verdict B W =
      let text = sizes_line first_word B.states B.marks ++ sizes_line second_word B.states' B.marks' ++ line in
      let R : Report stock s s' text = record { states = B.states; marks = B.marks; first = B.first; states' = B.states'; marks' = B.marks'; second = B.second; line = line; verdict = verdict; says = refl } in
      printed_text (record { outcome = accepted text; judged = pass H.0 (pass H.1.0 (pass H.1.1.0 (pass H.1.1.1.0 (pass H.1.1.1.1.0 (pass H.1.1.1.1.1.0 (pass H.1.1.1.1.1.1.0 (accept R))))))); says = refl }) (then B.lines W)

-- ---- a difference
-- the transducers of two files have this difference
abbrev Differing : List ℕ → List ℕ → List ℕ → Tree → List ℕ → ℕ → ℕ → Type 0
Differing stock s s' d v b b' = (n n' : ℕ) (M M' : Transducer ℕ) → Sheet (inputs stock) (outputs stock) s n M → Sheet (inputs stock) (outputs stock) s' n' M' → Difference (inputs stock) (outputs stock) M M' d v b b'

-- a difference is small, and so is its line
pub record Bounded (d : Tree) (v : List ℕ) (b b' : ℕ) : Type 0 where
  pub nodes : size d ≤ 1536
  pub numbers : length v ≤ 16128
  pub left : b < 64
  pub right : b' < 64
  pub line : length (differ_line (code d) v b b') ≤ 36880

module _ (stock s s' : List ℕ) (H : Holds (pair_check stock s s')) {d : Tree} {v : List ℕ} {b b' : ℕ} (D : Differing stock s s' d v b b') where
  pub differing_bounded : Bounded d v b b'
  unfolding Holds
  differing_bounded =
      let A = H.0 in
      let S = H.1.1.0 in
      let S' = H.1.1.1.1.0 in
      let F = D S.0 S'.0 S.1.0 S'.1.0 S.1.1 S'.1.1 in
      let w = address_low (outputs stock) A.outs.low (translate S.1.0 d) v (translate_ranked S.1.1.encodes.over d F.ranked) F.left in
      let w' = address_low (outputs stock) A.outs.low (translate S'.1.0 d) v (translate_ranked S'.1.1.encodes.over d F.ranked) F.right in
      record {
        nodes = F.small;
        numbers = F.short;
        left = omega (arith, w.1, A.outs.few);
        right = omega (arith, w'.1, A.outs.few);
        line = omega (arith, differ_long (code d) v b b', tree_long (inputs stock) d A.ins.few F.ranked F.small, address_long v w.0 F.short);
      }

-- ---- what the comparison answered
module _ {stock s s' tree tree' address address' : List ℕ} {r : Result (Option Shown) Refusal} (J : Compares stock s s' tree tree' address address' r) where
  module _ (e : r ≡ Ok None) where
    pub alike_holds : Holds (pair_check stock s s')
    unfolding Holds
    alike_holds = (accepted_holds (rw e at J)).0.1

    pub alike_reported : {area u after : List ℕ} {m n : ℕ} → text_area ≤ length area → WroteBoth stock s s' area u m → Wrote u after m n alike_line → Reports stock s s' area after (Ok n)
    alike_reported room B W = three_lines room alike_holds (inl ((accepted_holds (rw e at J)).1.0, refl)) B W

  module _ {v : Shown} (e : r ≡ Ok (Some v)) where
    pub differ_holds : Holds (pair_check stock s s')
    unfolding Holds
    differ_holds = (accepted_holds (rw e at J)).0.1

    pub answer : Differ stock s s' tree tree' address address' v.nodes v.numbers v.left v.right
    answer = (accepted_holds (rw e at J)).1

    pub differ_bounded : Bounded answer.shown answer.place v.left v.right
    differ_bounded = differing_bounded stock s s' differ_holds answer.differ

    pub nodes_few : v.nodes ≤ 1536
    nodes_few = omega (arith, answer.written.nodes_are, differ_bounded.nodes)

    pub numbers_few : v.numbers ≤ 16128
    numbers_few = omega (arith, answer.written.numbers_are, differ_bounded.numbers)

    -- the areas begin with the tree and the address
    module _ (h : tree_area ≤ length tree) (h' : address_area ≤ length address) where
      tree_is : take v.nodes tree' ≡ code answer.shown
      tree_is = let n = code_size answer.shown in written_take (code answer.shown) tree tree' v.nodes (answer.written.nodes_are ∙ sym n) (omega (arith, n, differ_bounded.nodes)) answer.written.tree_wrote

      address_is : take v.numbers address' ≡ answer.place
      address_is = written_take answer.place address address' v.numbers answer.written.numbers_are (omega (arith, differ_bounded.numbers)) answer.written.address_wrote

      line_is : differ_line (take v.nodes tree') (take v.numbers address') v.left v.right ≡ differ_line (code answer.shown) answer.place v.left v.right
      line_is = ap₂ (λ x y. differ_line x y v.left v.right) tree_is address_is

      pub differ_short : length (separated 44 (take v.nodes tree')) + length (place_text (take v.numbers address')) + 18 ≤ 36880
      differ_short = omega (arith, ap length line_is, differ_bounded.line, differ_long (take v.nodes tree') (take v.numbers address') v.left v.right)

      pub differ_reported : {area u after : List ℕ} {m n : ℕ} → text_area ≤ length area → WroteBoth stock s s' area u m → Wrote u after m n (differ_line (take v.nodes tree') (take v.numbers address') v.left v.right) → Reports stock s s' area after (Ok n)
      differ_reported room B W = three_lines room differ_holds (inr (record { tree = answer.shown; place = answer.place; left = v.left; right = v.right; differ = answer.differ; says = line_is })) B W

  pub refusal_reported : {x : Refusal} {area after : List ℕ} {n : ℕ} → r ≡ Err x → tree_area ≤ length tree → address_area ≤ length address → text_area ≤ length area → Wrote area after 0 n (refused_line (refusal_number x)) → Reports stock s s' area after (Ok n)
  refusal_reported {x} e h h' room W = printed_text room (record { outcome = refused (refusal_number x); judged = refused_early (pair_check stock s s') done tt (past (h, h') (rw e at J)); says = refl }) W
