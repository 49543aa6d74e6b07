-- Every row is so; and T' is not as early as T.
-- Assumes nothing.
use Prim.Native.Nat.{ℕ}
use native.Mathlib.Omega.{arith}
use mathlib.Core.List.{List, []}
use mathlib.Core.Path.{◌≡◌, refl}
use lib.ListN.{length}
use Rattle.theory.specs.OpenTrees.{translate_open}
use Rattle.theory.specs.Term.{Term, var, node, none, more, bind, count, sub, root, symbol_at}
use Rattle.theory.specs.Transducer.{Transducer, run, pick}
use Rattle.theory.proofs.Terms.{conflict}
use Rattle.trees.specs.Alphabets.{inputs, outputs}
use Rattle.trees.specs.Code.{Ranked, preorder}
use Rattle.formats.specs.Samples.{S, T, T'}
use Rattle.formats.specs.Sheet.{Sheet}
use Rattle.transducer.proofs.Samples.{T-machine, T-sheet, twice, line}
use Rattle.prefixes.proofs.Samples.{M-machine, M-sheet, line as M-line}
use Rattle.canonical.specs.Answers.{SewAlike}
use Rattle.canonical.proofs.Samples.{one_state_lem, late, T'-sheet}
use Rattle.partial.specs.Partial.{PartialTree, NothingEarlier, partial_code}
use Rattle.partial.specs.Rows.{lays, Says, AllSay, rows}
use Rattle.partial.proofs.Laws.{lays as laid}

-- ---- partial input trees
-- _
abbrev one_blank : Term ℕ
one_blank = var 0

-- a(_)
abbrev a_blank : Term ℕ
a_blank = node 0 (more (var 0) none)

-- a(e)
abbrev a_e : Term ℕ
a_e = node 0 (more (node 1 none) none)

-- a(_, _)
abbrev a_blanks : Term ℕ
a_blanks = node 0 (more (var 0) (more (var 1) none))

shows : {stock sheet : List ℕ} {n : ℕ} {N : Transducer ℕ} {design given : List ℕ} → Sheet (inputs stock) (outputs stock) sheet n N → (d : Term ℕ) → PartialTree (inputs stock) d → partial_code (length (inputs stock)) d ≡ design → partial_code (length (outputs stock)) (translate_open N d) ≡ given → Says (lays stock sheet design given)
shows S d r e f = (d, (_, (laid S d r, e, f)))

pub rows_say : AllSay rows
unfolding T-machine twice line one_state_lem late M-machine M-line inputs outputs Ranked count preorder translate_open bind run pick
rows_say = (
  shows T'-sheet one_blank tt refl refl,
  (
    shows T-sheet one_blank tt refl refl,
    (
      shows T'-sheet a_blank (omega arith) refl refl,
      (
        shows T-sheet a_blank (omega arith) refl refl,
        (
          shows T'-sheet a_e (omega arith) refl refl,
          (
            shows T-sheet a_e (omega arith) refl refl,
            (shows M-sheet a_blanks (omega arith) refl refl, tt),
          ),
        ),
      ),
    ),
  ),
)

-- ---- T and T' changed round: for one variable T has f at the root, where T' has a call
pub T'-later : NothingEarlier S T T' → ⊥
unfolding T-machine twice one_state_lem Ranked count translate_open bind run symbol_at root sub
T'-later N =
    let same : SewAlike S T T = record { states = 1; machine = T-machine; sheet = T-sheet; states' = 1; machine' = T-machine; sheet' = T-sheet; alike = record { plans = λ d r. refl } } in
    let e = (N.first same (laid T-sheet one_blank tt) (laid T'-sheet one_blank tt)).symbols [] (0, 2) refl in
    conflict (cc)
