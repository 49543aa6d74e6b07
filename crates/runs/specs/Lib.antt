-- What a state of one transducer gives on a right-hand side of another: no promise of an entry point needs it, so all stands in Inner.
pub mod Inner
