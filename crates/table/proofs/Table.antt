-- Every row of the table is so.
-- Assumes nothing.
use Rattle.trees.specs.Refusal.{outcome_of, accepted, refused, done, Holds}
use Prim.Native.Nat.{ℕ, ◌*◌, ◌≤◌}
use native.Mathlib.Omega.{arith}
use mathlib.Core.List.{List, Memᴰ, [], ◌∷◌}
use mathlib.Core.Path.{◌≡◌, refl, sym, ap, subst}
use lib.ListN.{length}
use Rattle.theory.specs.Size.{size, levels}
use Rattle.theory.specs.Term.{Tree}
use Rattle.trees.specs.Alphabets.{Alphabets, alphabet_check}
use Rattle.trees.specs.Code.{code}
use Rattle.formats.specs.Samples.{S, T, T', U, pairs, M, M-pref}
use Rattle.formats.specs.Sheet.{file, sheet_check}
use Rattle.formats.proofs.Sheets.{sheet_counted}
use Rattle.trees.specs.Tree.{tree_check}
use Rattle.transducer.specs.Answers.{room_check, levels_check}
use Rattle.transducer.specs.Output.{Output}
use Rattle.transducer.proofs.Laws.{must_translate}
use Rattle.transducer.proofs.Samples.{S-alphabets, T-machine, T-sheet, leaf_design, chain_design, T-output, on_leaf, on_chain, room_chain, few_levels_chain}
use Rattle.queries.proofs.Samples.{T-not_linear}
use Rattle.prefixes.proofs.Samples.{M-machine, M-sheet, M-is_pref}
use Rattle.earliest.specs.Answers.{EarliestFile}
use Rattle.canonical.specs.Answers.{NormalFile}
use Rattle.canonical.proofs.Laws.{clean_accepted}
use Rattle.canonical.proofs.SampleM.{M-cleans, M-trims}
use Rattle.canonical.proofs.SampleTrimmed.{T'-trims, U-trims}
use Rattle.canonical.proofs.Samples.{leaf_cleans, T-cleans, T-marks, T'-cleans, U-cleans}
use Rattle.registry.specs.Questions.{entry, commit, question}
use Rattle.table.specs.Table.{Row, translates, fits, not_linear, prefix, cleans, normal, earliest, registers, Clean, Says, rows}
use Rattle.table.proofs.Differences.{T-U_differ}
use Rattle.table.proofs.Registers.{just_made, entries_with_room, entries_without_room, questions_with_room, questions_without_room}

-- ---- what shows a row
module _ {stock sheet : List ℕ} where
  gives : {design plan : List ℕ} {t : Tree} → Output stock sheet design t → code t ≡ plan → Says (translates stock sheet design plan)
  gives O e = (_, (O, e))

  -- where there is an output of at most 256 levels, every file is right, and an area with room for it is long enough
  room_holds : {design : List ℕ} {t : Tree} → Alphabets stock → Output stock sheet design t → (area : List ℕ) → size t ≤ length area → levels t ≤ 256 → Holds (alphabet_check stock (sheet_check stock sheet (tree_check stock design (room_check stock sheet design area (levels_check stock sheet design done)))))
  unfolding Holds
  room_holds {t = t} A O area h l = (A, (sheet_counted O.is_sheet, ((O.states, (O.machine, O.is_sheet)), ((O.input, O.is_tree), ((t, (O, h)), ((t, (O, l)), tt))))))

  has_room : {design : List ℕ} {t : Tree} {k : ℕ} → Alphabets stock → Output stock sheet design t → size t ≤ k → levels t ≤ 256 → Says (fits stock sheet design k)
  has_room {t = t} A O h l = record {
    checks = λ area e. room_holds A O area (omega (arith, e, h)) l;
    answer = λ before after r e J. (size t, ap outcome_of (must_translate A O before after r (omega (arith, e, h)) l J).0);
  }

  -- a transducer whose earliest form is within the limits is accepted for cleaning
  clean_form : {k n : ℕ} {counts bytes cs bs : List ℕ} → NormalFile stock sheet k counts bytes → EarliestFile stock sheet n cs bs → Clean stock sheet k counts bytes
  unfolding Holds
  clean_form F E = record { checks = (E.alphabets, (sheet_counted E.sheet, ((E.states, (E.machine, E.sheet)), ((_, (_, (_, E))), tt)))); normal = F }

  form_is : {k : ℕ} {counts bytes clean : List ℕ} → Clean stock sheet k counts bytes → file k counts bytes ≡ clean → Says (cleans stock sheet clean)
  form_is C e = (_, (_, (_, (C, e))))

  form_has : {k : ℕ} {counts bytes : List ℕ} (marks : ℕ) → Clean stock sheet k counts bytes → length bytes ≡ 2 * marks → Says (normal stock sheet k marks)
  form_has marks C e = (_, (_, (C, e)))

  -- so is one that is its own normal form
  clean_self : {k : ℕ} {counts bytes : List ℕ} → NormalFile stock sheet k counts bytes → file k counts bytes ≡ sheet → Clean stock sheet k counts bytes
  clean_self F e = record { checks = rw e at (clean_accepted F); normal = F }

  early_has : {k : ℕ} {counts bytes : List ℕ} → EarliestFile stock sheet k counts bytes → Says (earliest stock sheet k)
  early_has F = (_, (_, F))

M-shares : Says (prefix pairs M 0 M-pref)
M-shares = (1, (M-machine, (M-sheet, omega arith, M-is_pref)))

T-calls_twice : Says (not_linear S T)
unfolding Holds
T-calls_twice = ((S-alphabets, (sheet_counted T-sheet, ((1, (T-machine, T-sheet)), tt))), T-not_linear)

-- T, T' and U entered, and asked about first, with room for U and without
entered_60 : Says (registers S 60 ((entry T, accepted 1) ∷ (entry T', accepted 1) ∷ (entry U, accepted 2) ∷ []) 56 3 (0 ∷ 2 ∷ 1 ∷ []))
entered_60 = record { made = just_made 60 (omega arith); every = λ b M e. entries_with_room (omega arith) M e (omega arith) }

entered_55 : Says (registers S 55 ((entry T, accepted 1) ∷ (entry T', accepted 1) ∷ (entry U, refused 8) ∷ []) 27 2 (0 ∷ 2 ∷ []))
entered_55 = record { made = just_made 55 (omega arith); every = λ b M e. entries_without_room (omega arith) M e (omega arith) }

asked_60 : Says (registers S 60 ((question T, accepted 1) ∷ (entry T, accepted 1) ∷ (question T', accepted 1) ∷ (question U, accepted 2) ∷ (commit U 1, refused 13) ∷ (commit U 2, accepted 2) ∷ []) 56 2 (0 ∷ 1 ∷ 1 ∷ []))
asked_60 = record { made = just_made 60 (omega arith); every = λ b M e. questions_with_room (omega arith) M e (omega arith) }

asked_55 : Says (registers S 55 ((entry T, accepted 1) ∷ (question U, refused 8) ∷ (commit U 2, refused 8) ∷ (commit U 1, refused 8) ∷ []) 27 1 (0 ∷ 1 ∷ []))
asked_55 = record { made = just_made 55 (omega arith); every = λ b M e. questions_without_room (omega arith) M e (omega arith) }

-- ---- every row
data All : List Row → Type 0 where
  no_more : All []
  ◌also◌ : {row : Row} {rs : List Row} → Says row → All rs → All (row ∷ rs)

infixr 5 ◌also◌
all_rows : All rows
all_rows =
    S-alphabets
    also gives (T-output leaf_design) on_leaf
    also gives (T-output chain_design) on_chain
    also has_room S-alphabets (T-output chain_design) room_chain few_levels_chain
    also form_is (clean_self T-cleans T-sheet.coded) T-sheet.coded
    also form_is (clean_form T'-cleans T'-trims) T-sheet.coded
    also early_has T'-trims
    also form_has 7 (clean_form T'-cleans T'-trims) T-marks
    also T-U_differ
    also form_is (clean_form U-cleans U-trims) refl
    also form_has 11 (clean_form U-cleans U-trims) refl
    also M-shares
    also form_is (clean_form M-cleans M-trims) refl
    also form_has 23 (clean_form M-cleans M-trims) refl
    also form_is (clean_self leaf_cleans refl) refl
    also form_has 1 (clean_self leaf_cleans refl) refl
    also T-calls_twice
    also entered_60
    also entered_55
    also asked_60
    also asked_55
    also no_more

listed : {rs : List Row} {row : Row} → All rs → Memᴰ row rs → Says row
listed {row = row} no_more x3 = elim x3 [ ]
listed (w also ws) (Memᴰ.head e) = subst Says (sym e) w
listed (w also ws) (Memᴰ.tail m) = listed ws m

-- each row of the table is so
pub table : (row : Row) → Memᴰ row rows → Says row
table row m = listed all_rows m
