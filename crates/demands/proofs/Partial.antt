-- Request F-10 is met.
-- Assumes nothing.
use Rattle.std.specs.Prelude.{Result}
use Rattle.trees.specs.declared.refusal.Refusal.{Refusal}
use Rattle.trees.specs.Refusal.{outcome_of, accepted}
use Prim.Native.Nat.{ℕ, ◌<◌}
use mathlib.Core.List.{List}
use mathlib.Core.Path.{◌≡◌, refl, sym, ◌∙◌}
use lib.ListN.{length}
use Rattle.theory.specs.Term.{node, none}
use Rattle.theory.specs.Transducer.{Transducer}
use Rattle.trees.specs.Alphabets.{inputs, outputs}
use Rattle.trees.proofs.Judging.{accepted_holds}
use Rattle.trees.proofs.Stock.{stock_reads, stock_reads_outputs}
use Rattle.formats.specs.Answers.{ReadsFile}
use Rattle.formats.specs.Sheet.{file, Sheet}
use Rattle.canonical.proofs.Laws.{Cleaned, cleaned}
use Rattle.partial.specs.AsSymbol.{one_more, blank_stock, BlankSheet}
use Rattle.partial.proofs.AsSymbol.{wider_written}
use Rattle.partial.proofs.Laws.{lays, lays_one, lays_initial, lays_whole, lays_prefix, nothing_earlier, clean_largest}
use Rattle.partial.proofs.Rows.{T'-later}
use Rattle.demands.specs.Partial.{CleansTo, Request10}

module _ {stock s x : List ℕ} (Q : CleansTo stock s x) where
  clean_sheet : Cleaned stock s Q.after Q.wrote.values
  clean_sheet = cleaned Q.answer Q.promise Q.wrote.answer

  file_is : x ≡ file Q.wrote.values.states clean_sheet.counts clean_sheet.bytes
  file_is = sym Q.wrote.bytes ∙ clean_sheet.begins

-- a file under the wider alphabets
as_wider : (stock : List ℕ) {x : List ℕ} {n : ℕ} {W : Transducer ℕ} → Sheet (inputs (blank_stock stock)) (outputs (blank_stock stock)) x n W → Sheet (one_more (inputs stock)) (one_more (outputs stock)) x n W
as_wider stock S = let ins = one_more (inputs stock) in let outs = one_more (outputs stock) in rw (stock_reads ins outs, stock_reads_outputs ins outs) at S

-- two files that the reader accepts, and the transducers of which agree
widened : {stock s x : List ℕ} {n : ℕ} (r r' : Result ℕ Refusal) → ReadsFile stock s r → outcome_of r ≡ accepted n → ReadsFile (blank_stock stock) x r' → outcome_of r' ≡ accepted n
    → ((M W : Transducer ℕ) → Sheet (inputs stock) (outputs stock) s n M → Sheet (inputs (blank_stock stock)) (outputs (blank_stock stock)) x n W
    → (W.initial ≡ M.initial) × ((q a : ℕ) → q < n → a < length (inputs stock) → W.rhs q a ≡ M.rhs q a) × ((q : ℕ) → q < n → W.rhs q (length (inputs stock)) ≡ node (length (outputs stock)) none))
    → BlankSheet stock s x
widened {stock} {n = n} r r' R e R' e' agree =
    let w = (accepted_holds (rw e at R)).1 in
    let w' = (accepted_holds (rw e' at R')).1 in
    let g = agree w.0 w'.0 w.1 w'.1 in
    record { states = n; machine = w.0; sheet = w.1; wider = w'.0; wider_sheet = as_wider stock w'.1; initial = g.0; rhs = g.1; blank = g.2 }

pub partial_designs : Request10
partial_designs = record {
  cleans = λ {before = before} {after = after} r J e. record { before = before; after = after; answer = r; promise = J; wrote = record { values = _; answer = e; bytes = refl } };
  blank_sheet = widened;
  lays = λ S d r. (_, lays S d r);
  lays_one = lays_one;
  opening = λ S x. lays_initial S x;
  plan = λ S d r. lays_whole S d r;
  nothing_earlier = λ Q. rw (file_is Q) (nothing_earlier (clean_sheet Q).normal);
  not_round = T'-later;
  stays = λ A S L f. lays_prefix S A L f;
  all_sure = λ Q S U common. clean_largest (clean_sheet Q).normal (rw (file_is Q) at U) S common;
  sewn = λ r A B L J e. wider_written A B L r J e;
}
