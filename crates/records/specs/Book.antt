-- The registry (01: book): a head, records and an area of bodies. Record 0 is that of the alphabets (01: stock), records 1 to `held` those of normal forms.
use Rattle.std.specs.Prelude.{ℕ, zero, suc, ◌+◌, ◌≤◌, ◌<◌, List, ◌≡◌, length, get_or, take, drop}
use Rattle.trees.specs.Alphabets.{Alphabets}
use Rattle.records.specs.declared.book.Head.{Head}
use Rattle.records.specs.declared.book.Record.{Record}

-- ---- the head and its updates
-- how many answers are counted
abbrev pub answers_of : Head → ℕ
answers_of h = h.answered

-- as many answers can not be counted
abbrev pub too_many : ℕ
too_many = 18446744073709551615

-- the head of a registry that holds nothing but alphabets of this size
abbrev pub new_head : ℕ → Head
new_head size = record { held = 0; used = size; answered = 0 }

-- one answer more
abbrev pub counted_head : Head → Head
counted_head h = record { held = h.held; used = h.used; answered = h.answered + 1 }

-- one body more, of this size, which is answered
abbrev pub grown_head : Head → ℕ → Head
grown_head h size = counted_head (record { held = h.held + 1; used = h.used + size; answered = h.answered })

-- ---- the records and their updates
-- an unused record, that of alphabets, that of a body which is added and answered, and one with an answer more
abbrev pub no_record : Record
no_record = record { start = 0; size = 0; count = 0 }

abbrev pub stock_record : ℕ → Record
stock_record size = record { start = 0; size = size; count = 0 }

abbrev pub body_record : ℕ → ℕ → Record
body_record start size = record { start = start; size = size; count = 1 }

abbrev pub counted_record : Record → Record
counted_record r = record { start = r.start; size = r.size; count = r.count + 1 }

-- the record with number i, and the body that it tells
abbrev pub record_at : List Record → ℕ → Record
record_at rs i = get_or rs i no_record

abbrev pub body : List Record → List ℕ → ℕ → List ℕ
body rs area i = take (record_at rs i).size (drop (record_at rs i).start area)

-- how long the first n bodies are together
unfoldable pub total : List Record → ℕ → ℕ
total rs zero = 0
total rs (suc n) = total rs n + (record_at rs n).size

-- bodies 0 to `held` follow one another without gaps from byte 0, up to byte `used`
pub record Follow (held used : ℕ) (rs : List Record) : Type 0 where
  pub starts : (i : ℕ) → i ≤ held → (record_at rs i).start ≡ total rs i
  pub sum : used ≡ total rs (suc held)

-- the records behind `held`, up to the 33rd, are unused
pub record Unused (held : ℕ) (rs : List Record) : Type 0 where
  pub none : (i : ℕ) → held < i → i < 33 → record_at rs i ≡ no_record

-- how the bodies lie
pub record Lies (h : Head) (rs : List Record) (area : List ℕ) : Type 0 where
  pub many : 33 ≤ length rs
  pub few : h.held ≤ 32
  pub follow : Follow h.held h.used rs
  pub inside : h.used ≤ length area
  pub unused : Unused h.held rs
  pub stock : Alphabets (body rs area 0)

-- what the first n records count together
unfoldable pub tally : List Record → ℕ → ℕ
tally rs zero = 0
tally rs (suc n) = tally rs n + (record_at rs n).count

-- the counts are sound: the records count all that is answered, that of the alphabets nothing (nor do unused ones), and one more answer can be counted
pub record Sound (h : Head) (rs : List Record) : Type 0 where
  pub countable : answers_of h < too_many
  pub stock : (record_at rs 0).count ≡ 0
  pub sum : tally rs 33 ≡ answers_of h

-- head, records and area are a registry
pub record Chained (h : Head) (rs : List Record) (area : List ℕ) : Type 0 where
  pub lies : Lies h rs area
  pub counts : Sound h rs
