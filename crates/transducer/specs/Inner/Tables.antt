-- What is said of a translation's tables and of its notes, each as one value.
use Rattle.std.specs.Prelude.{ℕ, ◌+◌, ◌<◌, List, Option, Some, None, ◌≡◌, length}
use Rattle.transducer.specs.declared.translate.Emission.{Emission}
use Rattle.transducer.specs.declared.translate.Notes.{Notes}
use Rattle.transducer.specs.declared.translate.Tables.{Tables}
use Rattle.transducer.specs.Inner.Written.{applied, walked, applied_levels, walked_levels, Ready, Walkable, few_levels, Noted, Standing, Depths, Wrote}

-- what state q writes on the tree at p, and its levels
abbrev pub applied_by : Tables → ℕ → ℕ → List ℕ
applied_by t q p = applied t.ins.now t.starts.now t.marks.now t.s.now q p

abbrev pub applied_levels_by : Tables → ℕ → ℕ → ℕ
applied_levels_by t q p = applied_levels t.ins.now t.starts.now t.marks.now t.depths.now t.s.now q p

-- what marks write, over the trees from `below` on, and its levels
abbrev pub walked_by : Tables → ℕ → ℕ → ℕ → List ℕ
walked_by t below from to = walked t.ins.now t.starts.now t.marks.now t.s.now below from to

abbrev pub walked_levels_by : Tables → ℕ → ℕ → ℕ → ℕ
walked_levels_by t below from to = walked_levels t.ins.now t.starts.now t.marks.now t.depths.now t.s.now below from to

-- that can be done, with at most `left` levels
abbrev pub CanApply : Tables → ℕ → ℕ → ℕ → Type 0
CanApply t q p left = Ready t.ins.now t.starts.now t.marks.now t.s.now t.ends.now q p left × Depths t.marks.now t.depths.now

abbrev pub CanWalk : Tables → ℕ → ℕ → ℕ → ℕ → Type 0
CanWalk t from to below left = Walkable t.ins.now t.starts.now t.marks.now t.s.now t.ends.now from to below left × Depths t.marks.now t.depths.now

-- the notes are right; and the places are those of an area that was written up to `at`
abbrev pub NotedBy : Tables → Notes → Type 0
NotedBy t n = Noted t.ins.now t.starts.now t.marks.now t.depths.now t.s.now n.keys n.sizes

abbrev pub Stands : Tables → Notes → List ℕ → ℕ → Type 0
Stands t n area at = Standing t.ins.now t.starts.now t.marks.now t.depths.now t.s.now n.keys n.sizes n.places area at

-- w, of l levels, was written from `at` on, and what is noted stands; or, if r is none, w ends past the limit
pub record EmittedBy (t : Tables) (w : List ℕ) (l at limit : ℕ) (before after : List ℕ) (notes : Notes) (r : Option Emission) : Type 0 where
  pub over : r ≡ None → limit < at + length w
  pub wrote : (e : Emission) → r ≡ Some e → Wrote w at limit before after e.end
  pub levels : (e : Emission) → r ≡ Some e → e.levels ≡ few_levels l
  pub standing : (e : Emission) → r ≡ Some e → Stands t notes after e.end
