-- What the definitions are written in: truth values, lists, numbers, texts and the tests on them, all from the toolchain's libraries, and the
-- public types of `src/lib.rt` with their cases. Nothing is defined here.
pub use Rattle.std.specs.Prelude.{Bool, true, false, cond, not, ◌&&◌, ◌||◌, List, [], ◌∷◌, ◌++◌, map, ℕ, zero, suc, ◌+◌, ◌-◌, ◌*◌, ◌/◌, ◌%◌, ◌^◌, min, max, eqb, leb, ltb, length, take, drop, get_or, replicate, Result, Ok, Err, Option, Some, None}
pub use Prim.Native.String.{String, len, char_at}
pub use Prim.Native.Char.{code}
pub use Rattle.std.specs.Int.Bits.{bit_xor}
pub use Rattle.definitions.specs.declared.Selection.{Selection}
pub use Rattle.definitions.specs.declared.Position.{Position}
pub use Rattle.definitions.specs.declared.Position.TheVariants.{Start, After}
pub use Rattle.definitions.specs.declared.PageRequest.{PageRequest}
pub use Rattle.definitions.specs.declared.Refusal.{Refusal}
pub use Rattle.definitions.specs.declared.Refusal.TheVariants.{WrongDegree, WrongDimension, IllFormedPair, NotPrimitive, QuotientNotLinear}
pub use Rattle.definitions.specs.declared.Refusal.TheVariants.{StepNotCoprime, ShortSlice, BeyondPeriod, IllFormedCatalogue, DegreeMissing}
pub use Rattle.definitions.specs.declared.Refusal.TheVariants.{StepBelowFloor, WrongFloor, NotAscending, FileTooLong}
pub use Rattle.definitions.specs.declared.QuotientDegrees.{QuotientDegrees}
pub use Rattle.definitions.specs.declared.Page.{Page}
pub use Rattle.definitions.specs.declared.Lookup.{Lookup}
pub use Rattle.definitions.specs.declared.Row.{Row}
pub use Rattle.definitions.specs.declared.Asked.{Asked}
