-- Output trees (01: plans) as XML 1.0 elements, named by the codes of their symbols (02, F-4).
use Rattle.std.specs.Prelude.{ℕ, ◌≤◌, List, [], ◌∷◌, ◌++◌}
use Rattle.theory.specs.Size.{size}
use Rattle.theory.specs.Term.{Tree, Terms, var, node, none, more}
use Rattle.trees.specs.Code.{Ranked}
use Rattle.codes.specs.Codes.{symbol_code}

-- a tag: the code of symbol k between two words of brackets and slashes
abbrev pub tag : List ℕ → ℕ → List ℕ → List ℕ
tag before k behind = before ++ (symbol_code k ++ behind)

-- <A1>, </A1> and <A1/>
abbrev pub opening : ℕ → List ℕ
opening k = tag (60 ∷ []) k (62 ∷ [])

abbrev pub closing : ℕ → List ℕ
closing k = tag (60 ∷ 47 ∷ []) k (62 ∷ [])

abbrev pub empty : ℕ → List ℕ
empty k = tag (60 ∷ []) k (47 ∷ 62 ∷ [])

-- a node with the text of its children: one tag where it has none, else the children between two, with nothing between
abbrev pub element : ℕ → Terms ⊥ → List ℕ → List ℕ
element k none inner = empty k
element k (more t ts) inner = opening k ++ (inner ++ closing k)

unfoldable mutual
  pub xml : Tree → List ℕ
  xml (var x) = absurd x
  xml (node k ts) = element k ts (xmls ts)

  pub xmls : Terms ⊥ → List ℕ
  xmls none = []
  xmls (more t ts) = xml t ++ xmls ts

-- t is over the output alphabet with the ranks outs and has 1 to 4,096 nodes; every tree has one
pub record OutputTree (outs : List ℕ) (t : Tree) : Type 0 where
  pub ranked : Ranked (λ x. ⊥) outs t
  pub small : size t ≤ 4096
