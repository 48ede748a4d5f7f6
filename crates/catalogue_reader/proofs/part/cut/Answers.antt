-- `catalogue_reader::part::cut` meets its contract. Assumes nothing.
use mathlib.Core.Path.{◌≡◌, ap}
use Prim.Native.Nat.{ℕ, ◌+◌, ◌-◌}
use native.Mathlib.Omega.{arith}
use lib.ListN.{take, drop}
use Rattle.catalogue_reader.proofs.part.cut.Goals as goal

pub returns : goal.returns
returns c =
    let a = c.args in
    let size : a.offset + a.size - a.offset ≡ a.size = omega arith in
    ap (λ (n : ℕ). take n (drop a.offset a.file.now)) size
