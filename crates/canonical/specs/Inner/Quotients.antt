-- Writing the quotient of a transducer by classes of its states: the initial term and the right-hand sides of the least members, with classes for states.
use Rattle.std.specs.Prelude.{ℕ, ◌+◌, ◌-◌, ◌*◌, ◌≤◌, ◌<◌, List, ◌≡◌, length, get_or, set}
use Rattle.std.proofs.lemmas.List.Edits.{sets}
use Rattle.theory.specs.NormalForm.{Identical}
use Rattle.theory.specs.Quotient.{Classes, quotient}
use Rattle.trees.specs.Alphabets.{Leaf}
use Rattle.formats.specs.Inner.Layout.{body_number}
use Rattle.formats.specs.Inner.Marked.{part}
use Rattle.formats.specs.Sheet.{mark_bytes}
use Rattle.forms.specs.Alphabet.{alphabet}
use Rattle.forms.specs.Inner.Tables.{machine, Layout, Packed}
use Rattle.classes.specs.Inner.Classes.{keyed, body_marks, at, Keyable}

-- what writing asks: a transducer with n states in `count` classes, which are numbered in the order of their least members, and room
pub record Mergeable (ins outs starts bytes classes least : List ℕ) (n count : ℕ) (starts' bytes' : List ℕ) : Type 0 where
  pub layout : Layout ins outs starts bytes n
  pub packed : Packed ins starts n
  pub long : length classes ≡ n
  pub few : count ≤ length least
  pub classed : Classes (λ q. at classes q) (λ k. at least k) n count
  pub starts_room : 2050 ≤ length starts'
  pub bytes_room : length bytes' ≡ 16384

-- what it does: the quotient stands there
pub record Merges (ins outs starts bytes classes least : List ℕ) (n count : ℕ) (starts' bytes' : List ℕ) : Type 0 where
  pub layout : Layout ins outs starts' bytes' count
  pub packed : Packed ins starts' count
  pub merged : (l : Leaf ins) → Identical (alphabet ins l) (machine ins outs starts' bytes' count) (quotient (machine ins outs starts bytes n) (λ q. at classes q) (λ k. at least k)) count count

-- the marks number `from` up to `to` were written with classes for states, from mark number w on
pub record Keys (classes bytes : List ℕ) (from to : ℕ) (out : List ℕ) (w : ℕ) (out' : List ℕ) : Type 0 where
  pub wrote : out' ≡ sets out (2 * w) (mark_bytes (keyed classes (part bytes from to)))

-- ---- one body after the other
-- how many marks body j has
abbrev pub size_of : List ℕ → ℕ → ℕ
size_of starts j = get_or starts (j + 1) 0 - get_or starts j 0

-- the table says where the bodies before number b lie: one behind the other from the first mark on, 1 to 64 marks each
pub record Front (starts : List ℕ) (b : ℕ) : Type 0 where
  pub start : get_or starts 0 0 ≡ 0
  pub increasing : (j : ℕ) → j < b → get_or starts j 0 < get_or starts (j + 1) 0
  pub few : (j : ℕ) → j < b → get_or starts (j + 1) 0 ≤ get_or starts j 0 + 64

-- body b of the new file is body j of the old one, with classes for states
pub record Copied (starts bytes classes : List ℕ) (j : ℕ) (starts' bytes' : List ℕ) (b : ℕ) : Type 0 where
  pub same : body_marks starts' bytes' b ≡ keyed classes (body_marks starts bytes j)

-- the starts up to number b, and the marks before start b, are as they were
pub record Kept (starts bytes starts' bytes' : List ℕ) (b : ℕ) : Type 0 where
  pub start : (j : ℕ) → j ≤ b → get_or starts' j 0 ≡ get_or starts j 0
  pub marks : (from to : ℕ) → to ≤ get_or starts b 0 → part bytes' from to ≡ part bytes from to

-- what copying body j as body b asks: the body stands there, and there is room
pub record Copyable (starts bytes classes : List ℕ) (j b : ℕ) (starts' bytes' : List ℕ) : Type 0 where
  pub there : j + 1 < length starts
  pub ordered : get_or starts j 0 ≤ get_or starts (j + 1) 0
  pub keyable : Keyable classes bytes (get_or starts j 0) (size_of starts j)
  pub starts_room : b + 1 < length starts'
  pub bytes_room : length bytes' ≡ 16384
  pub all : get_or starts' b 0 + size_of starts j ≤ 8192

-- what it does: the marks stand from start b on, and the next start behind them
pub record Copies (starts bytes classes : List ℕ) (j b : ℕ) (starts' bytes' starts'' bytes'' : List ℕ) : Type 0 where
  pub next : starts'' ≡ set starts' (b + 1) (get_or starts' b 0 + size_of starts j)
  pub wrote : bytes'' ≡ sets bytes' (2 * get_or starts' b 0) (mark_bytes (keyed classes (body_marks starts bytes j)))

-- what writing the right-hand sides of class k asks: the bodies before them are written, and take no more marks than those before the least member's
pub record StateMergeable (ins starts bytes classes least : List ℕ) (k : ℕ) (starts' bytes' : List ℕ) : Type 0 where
  pub outs : List ℕ
  pub count : ℕ
  pub whole : Mergeable ins outs starts bytes classes least (length classes) count starts' bytes'
  pub class : k < count
  pub front : Front starts' (body_number ins k 0)
  pub place : get_or starts' (body_number ins k 0) 0 ≤ get_or starts (body_number ins (at least k) 0) 0

-- what it does for the symbols before a: their right-hand sides are those of the least member
pub record MergesState (ins starts bytes classes least : List ℕ) (k a : ℕ) (starts' bytes' starts'' bytes'' : List ℕ) : Type 0 where
  pub front : Front starts'' (body_number ins k a)
  pub kept : Kept starts' bytes' starts'' bytes'' (body_number ins k 0)
  pub place : get_or starts'' (body_number ins k a) 0 ≤ get_or starts (body_number ins (at least k) a) 0
  pub copied : (d : ℕ) → d < a → Copied starts bytes classes (body_number ins (at least k) d) starts'' bytes'' (body_number ins k d)
