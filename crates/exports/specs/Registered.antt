-- What the exported functions of the registry return and leave.
use Rattle.std.specs.Prelude.{Result, ℕ, zero, suc, ◌<◌, List, [], ◌⊎◌, ◌≡◌, length, take, drop}
use Rattle.trees.specs.declared.refusal.Refusal.{Refusal}
use Rattle.records.specs.declared.book.Foretold.{Foretold}
use Rattle.trees.specs.Refusal.{outcome_of}
use Rattle.records.specs.Answers.{Makes, Enters, Questions, Commits, HandsBody}
use Rattle.records.specs.Book.{record_at}
use Rattle.records.specs.declared.book.Head.{Head}
use Rattle.records.specs.declared.book.Record.{Record}
use Rattle.exports.specs.Exported.{Exported}

-- what is told of an answer to a question, whose values are the number that an entry would get and the length of the clean file
abbrev pub TellsReply : Result Foretold Refusal → ℕ × ℕ → ℕ × ℕ → ℕ → Type 0
TellsReply a before after r = Exported (λ e. e ≡ a) outcome_of (λ (v : Foretold) after. after ≡ (v.number, v.size)) before after r

abbrev pub ExportsMaking : List ℕ → Head → List Record → List ℕ → Head → List Record → List ℕ → ℕ → Type 0
ExportsMaking stock h rs area h' rs' area' r = Exported (Makes stock h rs area h' rs' area') outcome_of (λ v after. after ≡ v) tt tt r

abbrev pub ExportsEntry : List ℕ → Head → List Record → List ℕ → Head → List Record → List ℕ → ℕ → ℕ → ℕ → Type 0
ExportsEntry s h rs area h' rs' area' before after r = Exported (Enters s h rs area h' rs' area') outcome_of (λ v after. after ≡ v) before after r

abbrev pub ExportsQuestion : List ℕ → Head → List Record → List ℕ → List ℕ → List ℕ → ℕ × ℕ → ℕ × ℕ → ℕ → Type 0
ExportsQuestion s h rs area out out' before after r = Exported (Questions s h rs area out out') outcome_of (λ (v : Foretold) after. after ≡ (v.number, v.size)) before after r

abbrev pub ExportsCommit : List ℕ → ℕ → Head → List Record → List ℕ → Head → List Record → List ℕ → ℕ → ℕ → ℕ → Type 0
ExportsCommit s m h rs area h' rs' area' before after r = Exported (Commits s m h rs area h' rs' area') outcome_of (λ v after. after ≡ v) before after r

-- where a part of this size that a record tells starts: 0 for an empty one
abbrev pub start_of : Record → ℕ → ℕ
start_of r zero = 0
start_of r (suc n) = r.start

-- the length of the body that is handed out, and where it starts, as its record says; 0 and 0 for an empty part
pub record ExportsBody (h : Head) (rs : List Record) (area : List ℕ) (i start size : ℕ) : Type 0 where
  pub part : List ℕ
  pub handed : HandsBody h rs area i part
  pub length_is : size ≡ length part
  pub there : part ≡ take size (drop start area)
  pub start_is : ((part ≡ []) × (start ≡ 0)) ⊎ ((0 < length part) × (start ≡ (record_at rs i).start))
