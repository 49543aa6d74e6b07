-- A form written as a file: the counts that the table of starts gives, and that the file is the one of the form.
-- Assumes nothing.
use Rattle.std.specs.Prelude.{Err, None, Ok, Option, Result, Some}
use Rattle.trees.specs.Refusal.{Holds}
use mathlib.Core.Bool.{true}
use Rattle.std.specs.Result.{is_ok}
use Prim.Native.Nat.{ℕ, suc, ◌+◌, ◌-◌, ◌*◌, ◌/◌, ◌%◌, ◌≤◌, ◌<◌}
use native.Mathlib.Nat.{div-add-mod, mul-le-mul}
use native.Mathlib.Numerals.{add-one}
use native.Mathlib.Omega.{arith}
use mathlib.Core.List.{List, [], ◌∷◌}
use mathlib.Core.Path.{◌≡◌, refl, sym, ap, ap₂, ◌∙◌}
use lib.ListN.{length, get_or, take, drop, set, replicate, length-set, length-replicate}
use lib.Seq.{sets, get_or-set_same, get_or-set_other, get_or-take, take-take, take-nil, length-take-le}
use borrow.Author.Count.{below_more}
use Rattle.theory.specs.NormalForm.{Identical}
use Rattle.theory.specs.Transducer.{Transducer}
use Rattle.theory.proofs.Terms.{conflict}
use Rattle.trees.specs.Alphabets.{Leaf, Alphabets, inputs, outputs}
use Rattle.formats.specs.Answers.{WritesFile}
use Rattle.trees.specs.Inner.Decode.{forest, first}
use Rattle.formats.specs.Inner.Layout.{pairs, offset, mark_of, body, body_number, body_count, count_at, transducer, Right, Starts, Wholes}
use Rattle.formats.specs.Sheet.{longest, file, Encodes}
use Rattle.trees.specs.declared.refusal.Refusal.{Refusal}
use Rattle.trees.specs.declared.refusal.Refusal.TheVariants.{OverLimits}
use Rattle.trees.proofs.Judging.{must_answer}
use Rattle.formats.proofs.Offsets.{offset_next}
use Rattle.formats.proofs.Pairs.{number_less}
use Rattle.formats.proofs.Sheets.{right_counted, wholes_encodes}
use Rattle.forms.specs.Alphabet.{alphabet, children_inside}
use Rattle.forms.specs.Inner.Tables.{machine, Layout, Packed}
use Rattle.forms.specs.Answers.{form}
use Rattle.forms.specs.Inner.Writing.{FillsCounts, Writable, WritesForm, FoundWritable, WritesFound}

-- ---- the counts
-- the counts after count j was written as two bytes
module _ (counts : List ℕ) (j s : ℕ) (room : 2 * j + 1 < length counts) where
  abbrev written : List ℕ
  written = set (set counts (2 * j) (s / 256)) (2 * j + 1) (s % 256)

  count_other : (k : ℕ) → k < j → count_at written k ≡ count_at counts k
  count_other k h = ap₂ (λ x y. 256 * x + y) (other (2 * k) (omega arith)) (other (2 * k + 1) (omega arith))
    where
      other : (i : ℕ) → i < 2 * j → get_or written i 0 ≡ get_or counts i 0
      other i g = get_or-set_other (set counts (2 * j) (s / 256)) (2 * j + 1) i (s % 256) 0 (omega arith) ∙ get_or-set_other counts (2 * j) i (s / 256) 0 (omega arith)

  count_same : count_at written j ≡ s
  count_same = ap₂ (λ x y. 256 * x + y)
      (get_or-set_other (set counts (2 * j) (s / 256)) (2 * j + 1) (2 * j) (s % 256) 0 (omega arith) ∙ get_or-set_same counts (2 * j) (s / 256) 0 (omega arith))
      (get_or-set_same (set counts (2 * j) (s / 256)) (2 * j + 1) (s % 256) 0 (omega (arith, length-set counts (2 * j) (s / 256))))
      ∙ div-add-mod s 256

  -- one count more
  pub count_more : (starts : List ℕ) → s ≡ get_or starts (j + 1) 0 - get_or starts j 0 → FillsCounts starts j counts → FillsCounts starts (j + 1) written
  count_more starts e F = record { each = below_more (λ k. count_at written k ≡ get_or starts (k + 1) 0 - get_or starts k 0) j (λ k h. count_other k h ∙ F.each k h) (count_same ∙ e) }

-- the counts alone, without what stands behind them
counts_cut : {starts counts : List ℕ} (m : ℕ) → FillsCounts starts m counts → FillsCounts starts m (take (2 * m) counts)
counts_cut {counts = counts} m F = record { each = λ j h. ap₂ (λ x y. 256 * x + y) (get_or-take (2 * m) counts (2 * j) 0 (omega arith)) (get_or-take (2 * m) counts (2 * j + 1) 0 (omega arith)) ∙ F.each j h }

-- ---- bodies that are the same
-- the first marks are those of the first bytes
pairs_take : (n : ℕ) (s : List ℕ) → pairs (take (2 * n) s) ≡ take n (pairs s)
unfolding pairs
pairs_take ℕ.zero s = refl
pairs_take (suc n) [] = rw take-nil
pairs_take (suc n) (x ∷ []) = let e : 2 * suc n ≡ suc (suc (2 * n)) = omega arith in rw e
pairs_take (suc n) (i ∷ x ∷ s) = let e : 2 * suc n ≡ suc (suc (2 * n)) = omega arith in rw e (ap (◌∷◌ (i, x)) (pairs_take n s))

-- a body that ends before mark n is one of the first n marks
body_cut : (start : ℕ → ℕ) (n : ℕ) (bytes : List ℕ) (j : ℕ) → start (j + 1) ≤ n → body start (take (2 * n) bytes) j ≡ body start bytes j
unfolding body
body_cut start n bytes j h = rw pairs_take (ap (drop (start j)) (take-take (start (j + 1)) n (pairs bytes) h))

-- a body depends on where it starts and where the next one does
pub body_from : (start start' : ℕ → ℕ) (bytes : List ℕ) (j : ℕ) → start j ≡ start' j → start (j + 1) ≡ start' (j + 1) → body start bytes j ≡ body start' bytes j
unfolding body
body_from start start' bytes j e f = rw (e, f)

-- the bodies of n states are the same in two lists of marks, each with its own starts
pub record SameBodies (ins : List ℕ) (n : ℕ) (start : ℕ → ℕ) (bytes : List ℕ) (start' : ℕ → ℕ) (bytes' : List ℕ) : Type 0 where
  pub same : (j : ℕ) → j < body_count ins n → body start bytes j ≡ body start' bytes' j

-- so they are whole alike, and the transducers read from them are one
module _ {ins : List ℕ} {n : ℕ} {start start' : ℕ → ℕ} {bytes bytes' : List ℕ} (B : SameBodies ins n start bytes start' bytes') where
  same_back : SameBodies ins n start' bytes' start bytes
  same_back = record { same = λ j h. sym (B.same j h) }

  pub wholes_same : {outs : List ℕ} → Wholes ins outs n start bytes → Wholes ins outs n start' bytes'
  wholes_same W = record {
    initial = rw (B.same 0 (omega arith)) at W.initial;
    rhs = λ q a h k. rw (B.same (body_number ins q a) (number_less ins q n a h k)) at (W.rhs q a h k);
  }

  pub bodies_identical : (outs : List ℕ) (l : Leaf ins) → Identical (alphabet ins l) (transducer ins outs n start bytes) (transducer ins outs n start' bytes') n n
  unfolding transducer alphabet
  bodies_identical outs l = record {
    number = refl;
    initial = ap (λ s. first (forest (mark_of outs n 1) s)) (B.same 0 (omega arith));
    sort = λ p h. refl;
    rhs = λ p a sorts h k. ap (λ s. first (forest (mark_of outs n (get_or ins a 0)) s)) (B.same (body_number ins p a) (number_less ins p n a h (children_inside ins a k).0));
  }

-- ---- the file of a form
module _ {ins outs starts bytes : List ℕ} {k : ℕ} (L : Layout ins outs starts bytes k) (P : Packed ins starts k) where
  -- there are at most 2,049 bodies
  pub form_few : body_count ins k ≤ 2049
  form_few = omega (arith, mul-le-mul L.few_states L.few_inputs)

  -- no body ends behind the last
  starts_most : (i j : ℕ) → i + j ≡ body_count ins k → get_or starts j 0 ≤ get_or starts (body_count ins k) 0
  starts_most ℕ.zero j e = let z : j ≡ body_count ins k = omega arith in rw z (omega arith)
  starts_most (suc i) j e = omega (arith, starts_most i (j + 1) (omega arith), P.increasing j (omega arith))

  module _ (counts : List ℕ) (long : length counts ≡ 2 * body_count ins k) (F : FillsCounts starts (body_count ins k) counts) where
    abbrev marks : List ℕ
    marks = take (2 * get_or starts (body_count ins k) 0) bytes

    form_starts : Starts counts starts (body_count ins k)
    unfolding offset
    form_starts ℕ.zero h = P.start
    form_starts (suc j) h = rw (← add-one j) (omega (arith, form_starts j (omega arith), offset_next counts j (omega arith), F.each j (omega arith), P.increasing j (omega arith)))

    form_long : length marks ≡ 2 * get_or starts (body_count ins k) 0
    form_long = length-take-le (2 * get_or starts (body_count ins k) 0) bytes (L.bounds.inside (body_count ins k) (omega arith))

    form_right : Right ins k counts marks
    form_right = record {
      symbols = L.few_inputs;
      states = L.few_states;
      long = long;
      sums = record {
        each = λ j h. (omega (arith, F.each j h, P.increasing j h), omega (arith, F.each j h, L.few j h));
        few = omega (arith, P.all, form_starts (body_count ins k) (omega arith));
        all = omega (arith, form_long, form_starts (body_count ins k) (omega arith));
      };
    }

    form_bodies : SameBodies ins k (λ j. get_or starts j 0) bytes (offset counts) marks
    form_bodies = record {
      same = λ j h. sym (body_cut (λ j. get_or starts j 0) (get_or starts (body_count ins k) 0) bytes j (starts_most (body_count ins k - (j + 1)) (j + 1) (omega arith)))
          ∙ body_from (λ j. get_or starts j 0) (offset counts) marks j (form_starts j (omega arith)) (form_starts (j + 1) (omega arith));
    }

    form_encodes : Encodes ins outs k counts marks (transducer ins outs k (offset counts) marks)
    form_encodes = wholes_encodes ins outs k counts marks form_right (wholes_same form_bodies L.wholes)

    form_same : (l : Leaf ins) → Identical (alphabet ins l) (transducer ins outs k (offset counts) marks) (machine ins outs starts bytes k) k k
    form_same = bodies_identical (same_back form_bodies) outs

-- what the code asks on the way, with the ranks of the input symbols that it reads
module _ {stock starts bytes area ins : List ℕ} {k : ℕ} (A : Writable stock starts bytes k area) (i : ins ≡ inputs stock) where
  pub form_layout : Layout ins (outputs stock) starts bytes k
  form_layout = rw i A.layout

  form_packed : Packed ins starts k
  form_packed = rw i A.packed

  pub form_bounds : (body_count ins k ≤ 2049) × (body_count ins k < length starts) × (get_or starts (body_count ins k) 0 ≤ 8192) × (2 * get_or starts (body_count ins k) 0 ≤ length bytes)
  form_bounds = (form_few form_layout form_packed, form_layout.bounds.long, form_packed.all, form_layout.bounds.inside (body_count ins k) (omega arith))

  -- the counts and the marks as they are lent
  module _ (counts : List ℕ) (long : length counts ≡ 4098) (F : FillsCounts starts (body_count ins k) counts) {total : ℕ} (t : total ≡ get_or starts (body_count ins k) 0) {after : List ℕ} (r : Result ℕ Refusal)
      (J : WritesFile stock k (take (2 * body_count ins k) counts) (take (2 * total) bytes) area after r) where
    abbrev counted : List ℕ
    counted = take (2 * body_count (inputs stock) k) counts

    abbrev marked : List ℕ
    marked = take (2 * get_or starts (body_count (inputs stock) k) 0) bytes

    long_counted : length counted ≡ 2 * body_count (inputs stock) k
    long_counted = length-take-le (2 * body_count (inputs stock) k) counts (omega (arith, form_few A.layout A.packed))

    filled : FillsCounts starts (body_count (inputs stock) k) counted
    filled = counts_cut (body_count (inputs stock) k) (rw i at F)

    judged_form : WritesFile stock k counted marked area after r
    judged_form = rw (t, i) at J

    encoded : Encodes (inputs stock) (outputs stock) k counted marked (transducer (inputs stock) (outputs stock) k (offset counted) marked)
    encoded = form_encodes A.layout A.packed counted long_counted filled

    -- every check holds
    form_accepted : (a : ℕ) × ((r ≡ Ok a) × ((a ≡ length (file k counted marked)) × (after ≡ sets area 0 (file k counted marked))))
    unfolding Holds
    form_accepted = must_answer (A.room, (A.alphabets, (right_counted (inputs stock) k counted marked (form_right A.layout A.packed counted long_counted filled), ((_, encoded), tt)))) judged_form

    -- so there was no refusal, and what was written is the file of the form
    pub form_written : (n : ℕ) → r ≡ Ok n → WritesForm stock starts bytes k area after n
    form_written n e =
        let w = form_accepted in
        let z : n ≡ w.0 = cc in
        record {
          counts = counted;
          marks = marked;
          form = transducer (inputs stock) (outputs stock) k (offset counted) marked;
          encodes = encoded;
          same = form_same A.layout A.packed counted long_counted filled;
          long = form_long A.layout A.packed counted long_counted filled;
          size = z ∙ w.1.1.0;
          wrote = w.1.1.1;
        }

    pub form_accepted_lem : is_ok r ≡ true
    form_accepted_lem = rw form_accepted.1.0 refl

-- ---- the file that a table can be written as
-- some counts for the table of starts
filled_counts : (starts : List ℕ) (all m : ℕ) → 2 * m ≤ all → (counts : List ℕ) × ((length counts ≡ all) × FillsCounts starts m counts)
filled_counts starts all ℕ.zero h = (replicate all 0, (length-replicate all 0, record { each = λ j g. absurd (omega arith) }))
filled_counts starts all (suc m) h =
    let r = filled_counts starts all m (omega arith) in
    let s = get_or starts (m + 1) 0 - get_or starts m 0 in
    (set (set r.0 (2 * m) (s / 256)) (2 * m + 1) (s % 256), (length-set (set r.0 (2 * m) (s / 256)) (2 * m + 1) (s % 256) ∙ length-set r.0 (2 * m) (s / 256) ∙ r.1.0, rw (← add-one m) (count_more r.0 m s (omega (arith, r.1.0)) starts refl r.1.1)))

-- A form in a table without gaps has a file.
pub packed_encoded : {stock starts bytes : List ℕ} {k : ℕ} → Alphabets stock → Layout (inputs stock) (outputs stock) starts bytes k → Packed (inputs stock) starts k
    → (counts marks : List ℕ) × (N : Transducer ℕ) × Encodes (inputs stock) (outputs stock) k counts marks N × ((l : Leaf (inputs stock)) → Identical (alphabet (inputs stock) l) N (machine (inputs stock) (outputs stock) starts bytes k) k k)
packed_encoded {stock} {starts} {bytes} {k} A L P =
    let m = body_count (inputs stock) k in
    let F = filled_counts starts (2 * m) m (omega arith) in
    (F.0, take (2 * get_or starts m 0) bytes, _, form_encodes L P F.0 F.1.0 F.1.1, form_same L P F.0 F.1.0 F.1.1)

-- ---- the file of the form that was found
module _ {stock starts bytes area : List ℕ} {found : Option ℕ} where
  -- it stands in the table, and there is room
  pub found_writable : Alphabets stock → ((k : ℕ) → found ≡ Some k → Layout (inputs stock) (outputs stock) starts bytes k) → ((k : ℕ) → found ≡ Some k → Packed (inputs stock) starts k) → longest ≤ length area → FoundWritable stock found starts bytes area
  found_writable A L P h = record { each = λ k e. record { alphabets = A; layout = L k e; packed = P k e; room = h } }

  -- the contract of `write_found`: it is over the limits, or it is written
  pub writes_over : found ≡ None → WritesFound stock found starts bytes area area (Err OverLimits)
  writes_over e = record { over = λ z. (refl, refl); form = λ k z. conflict (cc) }

  pub writes_form : {k : ℕ} → found ≡ Some k → {ins after : List ℕ} {m size : ℕ} → ins ≡ inputs stock → m ≡ get_or starts (body_count ins k) 0 → WritesForm stock starts bytes k area after size → WritesFound stock found starts bytes area after (Ok (form k m size))
  writes_form {k} e i t W = record { over = λ z. conflict (cc); form = λ k' z. let h : k ≡ k' = cc in rw (← h) (record { marks = _; size = _; answer = refl; many = rw i at t; written = W }) }
