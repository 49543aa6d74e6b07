-- When a form is over the limits of a file: no form that the reading of E finds has a file.
-- Assumes nothing.
use Prim.Native.Nat.{ℕ, suc, ◌+◌, ◌*◌, ◌/◌, ◌%◌, ◌≤◌, ◌<◌}
use native.Mathlib.Decide.{ℕ_discrete}
use native.Mathlib.Nat.{suc-mul}
use native.Mathlib.Numerals.{add-one}
use native.Mathlib.Omega.{arith}
use mathlib.Core.Path.{◌≡◌, sym, ap, ◌∙◌}
use mathlib.Core.Logic.{◌⊎◌, ⊎_elim}
use mathlib.Core.List.{List, []}
use mathlib.Core.Option.{some}
use lib.ListN.{length, get_or, get_elem?}
use Rattle.theory.specs.Discovered.{read_initial}
use Rattle.theory.specs.Inner.Follows.{Follows}
use Rattle.theory.specs.Inner.ReadCalls.{ReadCalls}
use Rattle.theory.specs.Transducer.{Transducer}
use Rattle.theory.proofs.DiscoveryExists.{read}
use Rattle.theory.proofs.Lists.{get_lt}
use Rattle.trees.specs.Alphabets.{Leaf}
use Rattle.theory.specs.Inner.Forests.{letters}
use Rattle.trees.specs.Inner.Decode.{unknown}
use Rattle.formats.specs.Inner.Layout.{body_number, body_count, offset}
use Rattle.formats.specs.Sheet.{Encodes, bodies_of, count_bytes, terms}
use Rattle.trees.proofs.Codes.{word_length}
use Rattle.formats.proofs.Cuts.{count_at_lem, length-count_bytes, length-body_bytes}
use Rattle.formats.proofs.Lines.{row_of, bodies_at}
use Rattle.formats.proofs.Offsets.{offset_next, offset_most}
use Rattle.formats.proofs.Pairs.{number_less}
use Rattle.forms.specs.Alphabet.{alphabet, children_of_lem}
use Rattle.discovery.specs.Inner.Letters.{spelt}
use Rattle.discovery.specs.Inner.Queue.{met_of, letter_calls}
use Rattle.discovery.specs.Inner.Bodies.{TooLarge, BodiesBefore}
use Rattle.discovery.specs.Inner.Discovering.{ByNumbers, Empty}
use Rattle.discovery.proofs.Queues.{spelt_length, renamed_letters, get_take}
use Rattle.discovery.proofs.Stages.{Stage, read_first, stage_place, stage_read, met_length}

-- ---- the bodies of a file
module _ {ins outs counts bytes : List ℕ} {N : Transducer ℕ} {k : ℕ} (C : Encodes ins outs k counts bytes N) where
  -- the marks up to body j are those before it and its own
  sum_next : (j : ℕ) → j < body_count ins k → offset (count_bytes (bodies_of (length ins) k N)) (j + 1) ≡ offset (count_bytes (bodies_of (length ins) k N)) j + length (get_or (bodies_of (length ins) k N) j [])
  sum_next j h =
      let bs = bodies_of (length ins) k N in
      offset_next (count_bytes bs) j (omega (arith, length-count_bytes bs, C.contents.bodies)) ∙ ap (λ m. offset (count_bytes bs) j + m) (count_at_lem bs j (omega (arith, C.contents.bodies)))

  -- there are at most 8,192
  sum_most : (j : ℕ) → j ≤ body_count ins k → offset (count_bytes (bodies_of (length ins) k N)) j ≤ 8192
  sum_most j h =
      let bs = bodies_of (length ins) k N in
      omega (arith, offset_most (count_bytes bs) j (length bs) (omega (arith, C.contents.bodies)), length-body_bytes bs, C.contents.all)

  module _ (l : Leaf ins) {E : Transducer ℕ} {L : List ℕ} (F : Follows (alphabet ins l) E L N k) where
    -- each body has as many marks as the right-hand side of E has letters
    initial_long : length (get_or (bodies_of (length ins) k N) 0 []) ≡ length (spelt E.initial)
    unfolding terms
    initial_long = word_length (λ x. unknown) (λ e. e) (λ b. (0, b)) N.initial ∙ ap letters F.initial ∙ renamed_letters F.name E.initial ∙ sym (spelt_length E.initial)

    rhs_long : (q c a : ℕ) → get_elem? L q ≡ some c → a < length ins → length (get_or (bodies_of (length ins) k N) (body_number ins q a) []) ≡ length (spelt (E.rhs c a))
    unfolding alphabet
    rhs_long q c a e h =
        ap length (bodies_at (length ins) k N q a (omega (arith, get_lt L q e, F.few)) h) ∙ word_length (λ x. unknown) (λ e. e) (λ b. (0, b)) (N.rhs q a)
        ∙ ap letters (F.rhs q c a _ e (children_of_lem ins a h)) ∙ renamed_letters F.name (E.rhs c a) ∙ sym (spelt_length (E.rhs c a))

  -- ---- a right-hand side more
  module _ (l : Leaf ins) {E : Transducer ℕ} {w p a met : ℕ} {starts out list place : List ℕ} (F : Follows (alphabet ins l) E (met_of list met) N k)
      (G : BodiesBefore ins E w (body_number ins p a) starts out list place met) (state : p < met) (there : a < length ins) where
    met_at_lem : (q : ℕ) → q < met → get_elem? (met_of list met) q ≡ some (get_or list q 0)
    met_at_lem q h = get_take list met q h (omega (arith, G.queue.long, G.queue.few))

    start_next : (j : ℕ) → j < body_number ins p a → get_or starts (j + 1) 0 ≡ get_or starts j 0 + length (get_or (bodies_of (length ins) k N) j [])
    start_next ℕ.zero h = (G.initial (omega arith)).ends ∙ ap (λ m. get_or starts 0 0 + m) (sym (initial_long l F))
    start_next (suc i) h =
        let P = length ins in
        let w = row_of (p + 1) P i (omega (arith, suc-mul p P, ap (λ m. m * P) (add-one p))) in
        let e : suc i ≡ body_number ins (i / P) (i % P) = omega arith in
        rw e ((G.rhs (i / P) (i % P) w.1 (omega arith)).ends ∙ ap (λ m. get_or starts (body_number ins (i / P) (i % P)) 0 + m) (sym (rhs_long l F (i / P) (get_or list (i / P) 0) (i % P) (met_at_lem (i / P) (omega arith)) w.1)))

    state_few : p < k
    state_few = omega (arith, F.few, met_length G.queue)

    -- the bodies start where the counts of the file say
    start_sum : (j : ℕ) → j ≤ body_number ins p a → get_or starts j 0 ≡ offset (count_bytes (bodies_of (length ins) k N)) j
    unfolding offset
    start_sum ℕ.zero h = G.start
    start_sum (suc j) h =
        let e : suc j ≡ j + 1 = omega arith in
        rw e (start_next j (omega arith) ∙ ap (λ m. m + length (get_or (bodies_of (length ins) k N) j [])) (start_sum j (omega arith)) ∙ sym (sum_next j (omega (arith, number_less ins p k a state_few there))))

    -- so its letters are within the limits
    long_few : length (spelt (E.rhs (get_or list p 0) a)) ≤ 64
    long_few = omega (arith, rhs_long l F p (get_or list p 0) a (met_at_lem p state) there, C.contents.few (body_number ins p a) (omega (arith, C.contents.bodies, number_less ins p k a state_few there)))

    sum_few : get_or starts (body_number ins p a) 0 + length (spelt (E.rhs (get_or list p 0) a)) ≤ 8192
    sum_few =
        let b = body_number ins p a in
        let g = number_less ins p k a state_few there in
        omega (arith, rhs_long l F p (get_or list p 0) a (met_at_lem p state) there, start_sum b (omega arith), sum_next b g, sum_most (b + 1) (omega arith))

-- ---- over the limits
module _ {ins outs : List ℕ} {w : ℕ} {E : Transducer ℕ} {Valid : ℕ → Type 0} (X : ByNumbers ins outs w E Valid) where
  -- with the next right-hand side
  pub stage_over : {p c a met : ℕ} {L starts' out list place s : List ℕ} → Stage ins E w p c a L starts' out list place met → a < length ins → s ≡ spelt (E.rhs c a)
      → (64 < length s) ⊎ (8192 < get_or starts' (body_number ins p a) 0 + length s) ⊎ ((L' : List ℕ) × (ReadCalls (letter_calls s) (met_of list met) L' × (128 < length L'))) → TooLarge ins outs E
  unfolding alphabet
  stage_over {p} {c} {a} {met} {L} {list = list} {s = s} T h e o l N k counts code W C =
      let F = W.stage p c a L (met_of list met) (T.first l) T.there (T.read l) (omega arith) in
      let k = stage_place X l T in
      let z : length s ≡ length (spelt (E.rhs (get_or list p 0) a)) = ap length e ∙ ap (λ d. length (spelt (E.rhs d a))) (sym k.1) in
      ⊎_elim (λ g. omega (arith, long_few C l F T.bodies k.0 h))
      (⊎_elim (λ g. omega (arith, sum_few C l F T.bodies k.0 h))
      (λ g. omega (arith, (W.stage p c (a + 1) L g.0 (T.first l) T.there (stage_read X l T h l (rw e at g.1.0)) (omega arith)).few, C.contents.states, g.1.1))) o

  -- with the initial term
  pub initial_over : {starts' out list place s : List ℕ} → Empty w starts' out list place → s ≡ spelt E.initial
      → (64 < length s) ⊎ (8192 < get_or starts' 0 0 + length s) ⊎ ((L' : List ℕ) × (ReadCalls (letter_calls s) (met_of list 0) L' × (128 < length L'))) → TooLarge ins outs E
  initial_over {s = s} M e o l N k counts code W C =
      let r = read ℕ_discrete E.initial [] in
      let F = W.states 0 r.0 (read_initial r.1) (omega arith) in
      let z : length s ≤ 64 = omega (arith, ap length e, initial_long C l F, C.contents.few 0 (omega (arith, C.contents.bodies))) in
      ⊎_elim (λ g. omega arith)
      (⊎_elim (λ g. omega (arith, M.start))
      (λ g. omega (arith, (W.states 0 g.0 (read_initial (read_first X (rw e at g.1.0))) (omega arith)).few, C.contents.states, g.1.1))) o
