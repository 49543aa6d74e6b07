-- The two numbering rules (02, F-12): rule 1, the present one, is the order of first meeting; rule 2, the new numbering, is the depth-first order.
use Rattle.std.specs.Prelude.{ℕ, suc}
use Rattle.theory.specs.Discovered.{Discovered}
use Rattle.theory.specs.Grammar.{Grammar}
use Rattle.theory.specs.Preorder.{Preordered}
use Rattle.theory.specs.Rule.{Order}

-- rule 1: the initial term is read first, then the right-hand sides of the first state listed by symbol, of the second, and so on
abbrev pub first_meeting : Grammar → Order
first_meeting G M n L = Discovered G M L

-- rule 2: the right-hand sides of a state are read when it is first met, before the next letter
abbrev pub depth_first : Grammar → Order
depth_first G M n L = Preordered G M L

-- the rule with number k, which is 1 or 2
unfoldable pub order_of : ℕ → Grammar → Order
order_of ℕ.zero G = first_meeting G
order_of (suc ℕ.zero) G = first_meeting G
order_of (suc (suc k)) G = depth_first G
