-- A transducer as a table: where its bodies start, and their marks.
use Rattle.std.specs.Prelude.{ℕ, ◌+◌, ◌≤◌, ◌<◌, List, ◌≡◌, length, get_or}
use Rattle.theory.specs.Transducer.{Transducer}
use Rattle.formats.specs.Inner.Layout.{body_count, transducer, InBounds, Wholes}

-- the transducer with n states whose bodies start where the table of starts says
abbrev pub machine : List ℕ → List ℕ → List ℕ → List ℕ → ℕ → Transducer ℕ
machine ins outs starts bytes n = transducer ins outs n (λ j. get_or starts j 0) bytes

-- its right-hand sides are whole and lie where the table says, at most 64 marks each
pub record Layout (ins outs starts bytes : List ℕ) (n : ℕ) : Type 0 where
  pub few_symbols : length outs ≤ 64
  pub few_states : n ≤ 128
  pub few_inputs : length ins ≤ 16
  pub bounds : InBounds ins n starts bytes
  pub few : (j : ℕ) → j < body_count ins n → get_or starts (j + 1) 0 ≤ get_or starts j 0 + 64
  pub wholes : Wholes ins outs n (λ j. get_or starts j 0) bytes

-- the bodies of n states lie one behind the other from the first mark on, none of them is empty, and there are at most 8,192 marks
pub record Packed (ins starts : List ℕ) (n : ℕ) : Type 0 where
  pub start : get_or starts 0 0 ≡ 0
  pub increasing : (j : ℕ) → j < body_count ins n → get_or starts j 0 < get_or starts (j + 1) 0
  pub all : get_or starts (body_count ins n) 0 ≤ 8192

-- the bodies of at most 128 states lie inside, whatever their marks
pub record Bounded (ins starts bytes : List ℕ) (n : ℕ) : Type 0 where
  pub few_states : n ≤ 128
  pub few_inputs : length ins ≤ 16
  pub bounds : InBounds ins n starts bytes
