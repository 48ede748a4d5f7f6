-- The places in a row. Assumes nothing.
use Rattle.std.specs.Prelude.{ℕ, suc}
use Rattle.definitions.specs.declared.Selection.{Selection}

-- The place behind t(T) in a row of a list.
abbrev pub values_end : Selection → ℕ
values_end l = suc l.top
