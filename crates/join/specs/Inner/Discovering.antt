-- What is said of two transducers that are joined, as one value.
use Rattle.std.specs.Prelude.{ℕ}
use Rattle.theory.specs.Transducer.{Transducer}
use Rattle.join.specs.Inner.Pairs.{product, Tables, IsPair}
use Rattle.join.specs.declared.discover.Product.{Product}

-- two transducers: the second after the first, that they stand in tables, and a pair of their states
abbrev pub product_of : Product → Transducer ℕ
product_of m = product m.first.now m.second.now m.starts1.now m.marks1.now m.starts2.now m.marks2.now

abbrev pub TablesOf : Product → Type 0
TablesOf m = Tables m.first.now m.second.now m.starts1.now m.marks1.now m.starts2.now m.marks2.now

abbrev pub IsPairOf : Product → ℕ → Type 0
IsPairOf m c = IsPair m.first.now m.second.now m.starts1.now m.marks1.now m.starts2.now m.marks2.now c
