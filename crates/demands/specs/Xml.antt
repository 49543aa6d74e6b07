-- Request F-4 of document 02, plans as XML, of whatever keeps the promises of the writer and the reader: each field is a sentence of its text. That the checks are made in their order is two fields of demand 1.
use Rattle.std.specs.Prelude.{Result, ℕ, ◌≤◌, List, [], ◌∷◌, ◌↔◌, ◌≡◌, length, take}
use Rattle.trees.specs.declared.refusal.Refusal.{Refusal}
use Rattle.trees.specs.Refusal.{outcome_of, accepted, done, check, Judged}
use Rattle.std.proofs.lemmas.List.Edits.{sets}
use Rattle.theory.specs.Term.{Tree, node, none, more}
use Rattle.trees.specs.Alphabets.{Alphabets, alphabet_check}
use Rattle.trees.specs.Code.{code}
use Rattle.xml.specs.Answers.{InForm, forms_check, WritesXml, ReadsXml}
use Rattle.xml.specs.Xml.{xml, OutputTree}

-- the conversion was accepted, and x stands at the start of the area that it left
pub record Gave (r : Result ℕ Refusal) (after x : List ℕ) : Type 0 where
  pub answer : outcome_of r ≡ accepted (length x)
  pub bytes : take (length x) after ≡ x

-- the writer gives this text for some plan under the stock
pub record WriterGives (stock text : List ℕ) : Type 0 where
  pub plan : List ℕ
  pub before : List ℕ
  pub after : List ℕ
  pub r : Result ℕ Refusal
  pub promise : WritesXml stock plan before after r
  pub gave : Gave r after text

-- f(e, e) under the stock S of document 01, and `<A1><A2/><A2/></A1>`
abbrev pub plan_sample : Tree
plan_sample = node 0 (more (node 1 none) (more (node 1 none) none))

abbrev pub text_sample : List ℕ
text_sample = 60 ∷ 65 ∷ 49 ∷ 62 ∷ 60 ∷ 65 ∷ 50 ∷ 47 ∷ 62 ∷ 60 ∷ 65 ∷ 50 ∷ 47 ∷ 62 ∷ 60 ∷ 47 ∷ 65 ∷ 49 ∷ 62 ∷ []

pub record Request4 : Type 0 where
  -- An accepted writing is such a call, of what stands at the start of its area.
  pub writes : {stock s before after : List ℕ} {n : ℕ} (r : Result ℕ Refusal) → WritesXml stock s before after r → outcome_of r ≡ accepted n → WriterGives stock (take n after)
  -- A plan is written as XML elements named by the block codes, `<A1>` with its sub-trees and `</A1>`, and `<A2/>` for a block with no places (`xml`), and the same text is read back.
  pub written : {stock s before after : List ℕ} {t : Tree} (r : Result ℕ Refusal) → Alphabets stock → InForm code stock s t → WritesXml stock s before after r → length (xml t) ≤ length before → Gave r after (xml t)
  pub read : {stock text before after : List ℕ} {t : Tree} (r : Result ℕ Refusal) → Alphabets stock → InForm xml stock text t → ReadsXml stock text before after r → length (code t) ≤ length before → Gave r after (code t)
  -- For f(e, e) under stock S that is `<A1><A2/><A2/></A1>`.
  pub sample : xml plan_sample ≡ text_sample
  -- The reader accepts exactly the texts that the writer gives for plans of 1 to 4,096 blocks under that stock.
  pub exactly : {stock text before after : List ℕ} (r : Result ℕ Refusal) → Alphabets stock → ReadsXml stock text before after r → 4096 ≤ length before → ((n : ℕ) × (outcome_of r ≡ accepted n)) ↔ WriterGives stock text
  -- Each conversion undoes the other, with an area long enough.
  pub read_written : {stock s before after area area' : List ℕ} {n : ℕ} (r r' : Result ℕ Refusal) → WritesXml stock s before after r → outcome_of r ≡ accepted n → ReadsXml stock (take n after) area area' r' → length s ≤ length area → Gave r' area' s
  pub written_read : {stock text before after area area' : List ℕ} {n : ℕ} (r r' : Result ℕ Refusal) → ReadsXml stock text before after r → outcome_of r ≡ accepted n → WritesXml stock (take n after) area area' r' → length text ≤ length area → Gave r' area' text
  -- An area of 36,860 bytes is long enough for every text, and one of 4,096 bytes for every plan.
  pub longest_text : {outs : List ℕ} {t : Tree} → OutputTree outs t → length (xml t) ≤ 36860
  pub longest_plan : {outs : List ℕ} {t : Tree} → OutputTree outs t → length (code t) ≤ 4096

-- what the request says of a plan that is written as XML, into an area `text`, and read back: 12 where the one area is shorter than the text, and where the other is shorter than the plan; else the plan stands at the start of the other, which keeps its rest
abbrev pub ReadsBack : List ℕ → List ℕ → List ℕ → List ℕ → List ℕ → Result ℕ Refusal → Type 0
ReadsBack stock s text before after r =
    Judged (after ≡ before) (λ n. (n ≡ length s) × (after ≡ sets before 0 s))
    (alphabet_check stock (forms_check code xml stock s text (check 12 (length s ≤ length before) done)))
    (outcome_of r)
