-- `take_first` meets its contract: a word with a flag is not zero, and less without it. Assumes nothing.
use Prim.Native.Nat.{ℕ, suc, ◌-◌, ◌<◌, ◌≤◌}
use native.Mathlib.Omega.{arith}
use mathlib.Core.Path.{ap}
use lib.Bits.{and_le_r}
use lib.Count.{count_trailing_zeros, trailing_of_zero}
use Rattle.prefixes.specs.Inner.Heads.{weight}
use Rattle.prefixes.proofs.callers.Flags.take_first.Goals as goal
use Rattle.prefixes.proofs.callers.Flags.take_first.Goals.{then-self-n, else-self-n}

-- a word with a flag below the 128th is not zero
some_set : (word n : ℕ) → n ≤ 128 → count_trailing_zeros 128 word < n → 0 < word
some_set ℕ.zero n f h = absurd (omega (arith, trailing_of_zero 128))
some_set (suc word) n f h = omega arith

pub overflow_sub-self : goal.overflow_sub-self
overflow_sub-self c = some_set c.if-self-n.self.round c.args.n c.requires c.if-first-n.false

pub returns : goal.returns
returns c =
    let x = c.if-self-n.self.round in
    let s : 0 < x = some_set x c.args.n c.requires c.if-first-n.false in (
      c.if-first-n.false,
      elim c.if-self-n.branch [
        | then-self-n w ↦ omega (arith, and_le_r x (x - 1), ap (λ f. weight f.round f.next) w.self-is)
        | else-self-n w ↦ omega (arith, and_le_r x (x - 1), ap (λ f. weight f.round f.next) w.self-is)
      ],
    )
