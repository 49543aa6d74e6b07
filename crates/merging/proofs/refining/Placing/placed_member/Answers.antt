-- `Placing::placed_member` meets its contract. The states from `start` on, and then those before. Assumes nothing.
use Rattle.merging.proofs.Rounds.{none_if}
use mathlib.Core.Logic.{by_cases}
use mathlib.Core.Path.{sym, ◌∙◌}
use native.Mathlib.Decide.{dec_lt}
use native.Mathlib.Omega.{arith}
use Rattle.merging.proofs.refining.Placing.placed_member.Goals as goal

pub returns : goal.returns
returns c =
    let b = c.find_placed-behind in
    let f = c.find_placed.ensures in
    record {
      found = λ q e. let w = f.found q e in (omega (arith, w.0, c.requires.1), w.1, w.2);
      none = λ e q h x z. by_cases (dec_lt q c.args.start) (λ l. f.none e q (omega arith) l x z) (λ l. b.ensures.none (none_if b.result (sym c.is_some.ensures ∙ c.if-is_some.false)) q (omega arith) h x z);
    }
