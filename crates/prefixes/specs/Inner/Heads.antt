-- The table of the states' patterns: how it starts, what a cut does to it, and how it ends. Its states are those below the length of the list of sizes.
use Rattle.std.specs.Prelude.{ℕ, ◌+◌, ◌-◌, ◌*◌, ◌≤◌, ◌<◌, Bool, true, false, List, map, ◌≢◌, ◌≡◌, length, get_or, set}
use Rattle.std.proofs.lemmas.List.Edits.{sets}
use Rattle.theory.specs.Inner.Graft.{graft}
use Rattle.theory.specs.Inner.Total.{total}
use Rattle.theory.specs.Lcp.{lcp}
use Rattle.theory.specs.Pref.{CommonPrefix, Prefs}
use Rattle.theory.specs.Prefix.{Pattern, Prefix}
use Rattle.theory.specs.Term.{Term, mapT}
use Rattle.theory.specs.Transducer.{Transducer}
use Rattle.prefixes.specs.declared.tables.Tables.{Tables}
use Rattle.prefixes.specs.declared.pattern.Patterns.{Patterns}
use Rattle.trees.specs.Alphabets.{Leaf}
use Rattle.trees.specs.Inner.Decode.{forest, first, Whole}
use Rattle.formats.specs.Inner.Layout.{mark_of}
use Rattle.formats.specs.Inner.Marked.{part}
use Rattle.trees.specs.Refusal.{Decides}
use Rattle.forms.specs.Alphabet.{alphabet}
use Rattle.forms.specs.Inner.Tables.{machine, Layout}
use Rattle.prefixes.specs.Inner.Patterns.{IsPattern, read_pattern, head_at}

-- of the tables of a transducer
abbrev pub of_tables : {A : Type 1} → (List ℕ → List ℕ → List ℕ → List ℕ → A) → Tables → A
of_tables f m = f m.ins.now m.outs.now m.starts.now m.marks.now

-- of a table of patterns before and after a cut
abbrev pub of_cut : {A : Type 1} → (List ℕ → List ℕ → List ℕ → List ℕ → A) → Patterns → Patterns → A
of_cut f p p' = f p.heads.now p.sizes.now p'.heads.now p'.sizes.now

-- a table of patterns stays where it is
pub record Stays (p p' : Patterns) : Type 0 where
  pub heads : p'.heads.ghost_name ≡ p.heads.ghost_name
  pub sizes : p'.sizes.ghost_name ≡ p.sizes.ghost_name
  pub long_heads : length p'.heads.now ≡ length p.heads.now
  pub long_sizes : length p'.sizes.now ≡ length p.sizes.now

-- each state has a pattern of at most 64 bytes
pub record Heads (outs heads sizes : List ℕ) : Type 0 where
  pub long : 64 * length sizes ≤ length heads
  pub small : (q : ℕ) → q < length sizes → get_or sizes q 0 ≤ 64
  pub each : (q : ℕ) → q < length sizes → IsPattern outs (head_at heads sizes q)

-- the pattern of state q
unfoldable pub head_of : List ℕ → List ℕ → List ℕ → ℕ → Pattern
head_of outs heads sizes q = read_pattern outs (head_at heads sizes q)

-- the right-hand side of the marks number `from` up to `to`, over r children
abbrev pub body_term : List ℕ → List ℕ → ℕ → List ℕ → ℕ → ℕ → Term (ℕ × ℕ)
body_term outs sizes r bytes from to = first (forest (mark_of outs (length sizes) r) (part bytes from to))

-- what a cut asks: at most 64 marks that are one right-hand side over some number of children, and an area with room for it grafted
pub record Cuttable (outs heads sizes bytes : List ℕ) (from to q : ℕ) (other : List ℕ) : Type 0 where
  pub table : Heads outs heads sizes
  pub few_symbols : length outs ≤ 64
  pub state : q < length sizes
  pub ordered : from ≤ to
  pub inside : 2 * to ≤ length bytes
  pub few : to ≤ from + 64
  pub children : ℕ
  pub whole : Whole (mark_of outs (length sizes) children) (part bytes from to)
  pub room : 4096 ≤ length other

-- what it does: the pattern of q becomes what it shares with the grafted right-hand side, and the others stay; b says whether anything was cut
pub record CutBy (outs bytes : List ℕ) (from to q : ℕ) (heads sizes heads' sizes' : List ℕ) (b : Bool) : Type 0 where
  pub table : Heads outs heads' sizes'
  pub cut : (r : ℕ) → Whole (mark_of outs (length sizes) r) (part bytes from to) → head_of outs heads' sizes' q ≡ lcp (head_of outs heads sizes q) (graft (head_of outs heads sizes) (body_term outs sizes r bytes from to))
  pub others : (p : ℕ) → p ≢ q → head_of outs heads' sizes' p ≡ head_of outs heads sizes p
  pub told : Decides (head_of outs heads' sizes' q ≡ head_of outs heads sizes q → ⊥) b

-- ---- the transducer of a table, each of whose states has a pattern
pub record Bodies (ins outs starts bytes heads sizes other : List ℕ) : Type 0 where
  pub table : Heads outs heads sizes
  pub layout : Layout ins outs starts bytes (length sizes)
  pub room : 4096 ≤ length other

-- no right-hand side of q cuts the pattern of q, but perhaps that for the leaf
abbrev pub FixedAt : List ℕ → ℕ → Transducer ℕ → (ℕ → Pattern) → ℕ → Type 0
FixedAt ins leaf M h q = (a : ℕ) → a < length ins → a ≢ leaf → lcp (h q) (graft h (M.rhs q a)) ≡ h q

-- every common prefix of the outputs of a state is a prefix of its pattern
abbrev pub AllAbove : (ins : List ℕ) → Leaf ins → Transducer ℕ → ℕ → (ℕ → Pattern) → Type 0
AllAbove ins l M n h = (q : ℕ) → q < n → (g : Pattern) → CommonPrefix (alphabet ins l) M q g → Prefix g (h q)

-- every pattern of p is a prefix of that of h
abbrev pub AllUnder : ℕ → (ℕ → Pattern) → (ℕ → Pattern) → Type 0
AllUnder n p h = (q : ℕ) → q < n → Prefix (p q) (h q)

-- every pattern is a prefix of the right-hand side of its state for the leaf
abbrev pub UnderLeaf : Transducer ℕ → ℕ → ℕ → (ℕ → Pattern) → Type 0
UnderLeaf M leaf n h = (q : ℕ) → q < n → Prefix (h q) (M.rhs q leaf)

-- what any number of cuts do to the patterns h: they stay above the common prefixes, and have fewer symbols or stay as they were, as b says
pub record Cuts (ins : List ℕ) (M : Transducer ℕ) (n : ℕ) (h h' : ℕ → Pattern) (b : Bool) : Type 0 where
  pub above : (l : Leaf ins) → AllAbove ins l M n h → AllAbove ins l M n h'
  pub under : AllUnder n h' h
  pub less : b ≡ true → total h' n < total h n
  pub kept : b ≡ false → (p : ℕ) → h' p ≡ h p

-- of the right-hand side of q and a: if nothing was cut, it does not cut, but perhaps for the leaf
pub record CutRhs (ins outs starts bytes : List ℕ) (leaf q a : ℕ) (heads sizes heads' sizes' : List ℕ) (b : Bool) : Type 0 where
  pub table : Heads outs heads' sizes'
  pub cuts : Cuts ins (machine ins outs starts bytes (length sizes)) (length sizes) (head_of outs heads sizes) (head_of outs heads' sizes') b
  pub fixed : b ≡ false → a ≢ leaf → lcp (head_of outs heads sizes q) (graft (head_of outs heads sizes) ((machine ins outs starts bytes (length sizes)).rhs q a)) ≡ head_of outs heads sizes q

-- of one state: if nothing was cut, none of its right-hand sides cuts
pub record CutState (ins outs starts bytes : List ℕ) (leaf q : ℕ) (heads sizes heads' sizes' : List ℕ) (b : Bool) : Type 0 where
  pub table : Heads outs heads' sizes'
  pub cuts : Cuts ins (machine ins outs starts bytes (length sizes)) (length sizes) (head_of outs heads sizes) (head_of outs heads' sizes') b
  pub fixed : b ≡ false → FixedAt ins leaf (machine ins outs starts bytes (length sizes)) (head_of outs heads sizes) q

-- of all of them
pub record Swept (ins outs starts bytes : List ℕ) (leaf : ℕ) (heads sizes heads' sizes' : List ℕ) (b : Bool) : Type 0 where
  pub table : Heads outs heads' sizes'
  pub cuts : Cuts ins (machine ins outs starts bytes (length sizes)) (length sizes) (head_of outs heads sizes) (head_of outs heads' sizes') b
  pub fixed : b ≡ false → (q : ℕ) → q < length sizes → FixedAt ins leaf (machine ins outs starts bytes (length sizes)) (head_of outs heads sizes) q

-- ---- cuts of the states whose callees changed
-- the flags that are set, of this round and of the next: a sum of words
abbrev pub weight : ℕ → ℕ → ℕ
weight round next = round + next

-- any number of cuts
pub record Followed (ins outs starts bytes heads sizes heads' sizes' : List ℕ) : Type 0 where
  pub table : Heads outs heads' sizes'
  pub any : Bool
  pub cuts : Cuts ins (machine ins outs starts bytes (length sizes)) (length sizes) (head_of outs heads sizes) (head_of outs heads' sizes') any

-- ---- the end
-- the patterns are the common prefixes, if they were above them and the right-hand side for the leaf cuts nothing
pub record Settled (ins outs starts bytes : List ℕ) (leaf : ℕ) (heads sizes heads' sizes' : List ℕ) : Type 0 where
  pub table : Heads outs heads' sizes'
  pub prefs : (l : Leaf ins) → AllAbove ins l (machine ins outs starts bytes (length sizes)) (length sizes) (head_of outs heads sizes) → UnderLeaf (machine ins outs starts bytes (length sizes)) leaf (length sizes) (head_of outs heads sizes) → Prefs (alphabet ins l) (machine ins outs starts bytes (length sizes)) (λ q. q < length sizes) (head_of outs heads' sizes')

-- ---- the start: the right-hand sides for a leaf, which have no calls
-- the second bytes of the marks number `from` up to `to`
abbrev pub names : List ℕ → ℕ → ℕ → List ℕ
names bytes from to = map (λ m. m.1) (part bytes from to)

-- what the start of state q asks: at most 64 marks, and room for them in the table
pub record Startable (bytes : List ℕ) (from to : ℕ) (heads sizes : List ℕ) (q : ℕ) : Type 0 where
  pub ordered : from ≤ to
  pub inside : 2 * to ≤ length bytes
  pub few : to ≤ from + 64
  pub state : q < length sizes
  pub room : 64 * q + 64 ≤ length heads

-- what it does: the bytes of the marks stand for state q
pub record Started (bytes : List ℕ) (from to : ℕ) (heads sizes : List ℕ) (q : ℕ) (heads' sizes' : List ℕ) : Type 0 where
  pub wrote : heads' ≡ sets heads (64 * q) (names bytes from to)
  pub size : sizes' ≡ set sizes q (to - from)

-- what the start of all states asks: the bodies of a transducer, a leaf of its input alphabet, and room for 64 bytes a state
pub record AllStartable (ins starts bytes : List ℕ) (leaf : ℕ) (heads sizes : List ℕ) : Type 0 where
  pub outs : List ℕ
  pub layout : Layout ins outs starts bytes (length sizes)
  pub there : leaf < length ins
  pub rank : get_or ins leaf 0 ≡ 0
  pub long : 64 * length sizes ≤ length heads

-- what it does: the pattern of each state is its right-hand side for the leaf
pub record AllStarted (ins starts bytes : List ℕ) (leaf : ℕ) (sizes heads' sizes' : List ℕ) : Type 0 where
  pub table : (outs : List ℕ) → Layout ins outs starts bytes (length sizes) → Heads outs heads' sizes'
  pub started : (outs : List ℕ) → Layout ins outs starts bytes (length sizes) → (q : ℕ) → q < length sizes → head_of outs heads' sizes' q ≡ mapT (λ e. tt) ((machine ins outs starts bytes (length sizes)).rhs q leaf)

-- ---- the common prefixes
-- what they ask: the bodies of a transducer, a leaf, room for 64 bytes a state and for a grafted right-hand side
pub record Prefixable (ins outs starts bytes heads sizes other : List ℕ) : Type 0 where
  pub layout : Layout ins outs starts bytes (length sizes)
  pub leaf : Leaf ins
  pub long : 64 * length sizes ≤ length heads
  pub room : 4096 ≤ length other

-- the pattern of each state is its common prefix
pub record Prefixes (ins outs starts bytes sizes heads' sizes' : List ℕ) : Type 0 where
  pub table : Heads outs heads' sizes'
  pub same : length sizes' ≡ length sizes
  pub prefs : (l : Leaf ins) → Prefs (alphabet ins l) (machine ins outs starts bytes (length sizes)) (λ q. q < length sizes) (head_of outs heads' sizes')
