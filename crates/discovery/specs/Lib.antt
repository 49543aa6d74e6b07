-- The states of a transducer, numbered as they are first met, and its bodies in a table: no promise of an entry point needs it, so all stands in Inner.
pub mod Inner
