-- The callers of states: what is flagged stays so, and every call is flagged.
-- Assumes nothing.
use Prim.Native.Nat.{ℕ, ◌+◌, ◌*◌, ◌<◌}
use native.Mathlib.Decide.{ℕ_discrete}
use native.Mathlib.Omega.{arith}
use mathlib.Core.List.{List}
use mathlib.Core.Logic.{by_cases}
use mathlib.Core.Path.{◌≡◌}
use lib.ListN.{length}
use Rattle.formats.specs.Inner.Layout.{body_count}
use Rattle.classes.specs.Inner.Classes.{at}
use Rattle.merging.specs.declared.refining.Row.{Row}
use Rattle.merging.specs.Inner.Refining.{Flagged, StillFlagged, FlaggedCalls, Callers}

-- ---- the calls in a part
pub still_refl : {callers : List Row} → length callers ≡ 128 → StillFlagged callers callers
still_refl T = record { room = T; still = λ r p F. F }

pub still_trans : {callers callers' callers'' : List Row} → StillFlagged callers callers' → StillFlagged callers' callers'' → StillFlagged callers callers''
still_trans S T = record { room = T.room; still = λ r p F. T.still r p (S.still r p F) }

-- what was flagged is so before mark number j, and the calls before it are
pub record CallsLoop (bytes : List ℕ) (from p : ℕ) (callers₀ callers : List Row) (j : ℕ) : Type 0 where
  pub still : StillFlagged callers₀ callers
  pub calls : FlaggedCalls bytes from j p callers

module _ {bytes : List ℕ} {from p : ℕ} {callers₀ callers : List Row} {j : ℕ} (L : CallsLoop bytes from p callers₀ callers j) where
  next_call : {callers' : List Row} → StillFlagged callers callers' → (0 < at bytes (2 * j) → at bytes (2 * j + 1) < 128 → Flagged callers' (at bytes (2 * j + 1)) p) → CallsLoop bytes from p callers₀ callers' (j + 1)
  next_call S f = record {
    still = still_trans L.still S;
    calls = record { each = λ k b l z w. by_cases (ℕ_discrete k j) (λ e. rw e (f (rw e at z) (rw e at w))) (λ e. S.still (at bytes (2 * k + 1)) p (L.calls.each k b (omega arith) z w)) };
  }

  -- a call
  pub next_flagged : {callers' : List Row} {r : ℕ} → r ≡ at bytes (2 * j + 1) → StillFlagged callers callers' × Flagged callers' r p → CallsLoop bytes from p callers₀ callers' (j + 1)
  next_flagged e S = next_call S.0 (λ z w. rw e at S.1)

  -- no call of one of 128 states
  pub next_other : (0 < at bytes (2 * j) → at bytes (2 * j + 1) < 128 → ⊥) → CallsLoop bytes from p callers₀ callers (j + 1)
  next_other f = next_call (still_refl L.still.room) (λ z w. absurd (f z w))

-- ---- the calls of all states
pub record StatesLoop (ins starts bytes : List ℕ) (callers₀ callers : List Row) (p : ℕ) : Type 0 where
  pub still : StillFlagged callers₀ callers
  pub calls : Callers ins starts bytes p callers

pub next_state : {ins starts bytes : List ℕ} {callers₀ callers callers' : List Row} {p from to : ℕ} → StatesLoop ins starts bytes callers₀ callers p → StillFlagged callers callers' × FlaggedCalls bytes from to p callers' → from ≡ at starts (body_count ins p) → to ≡ at starts (body_count ins p + length ins) → StatesLoop ins starts bytes callers₀ callers' (p + 1)
next_state {bytes = bytes} {p = p} L S f t = record {
  still = still_trans L.still S.0;
  calls = record { each = λ q l. by_cases (ℕ_discrete q p) (λ e. rw (e, ← f, ← t) S.1) (λ e. let F = L.calls.each q (omega arith) in record { each = λ j b m z w. S.0.still (at bytes (2 * j + 1)) q (F.each j b m z w) }) };
}
