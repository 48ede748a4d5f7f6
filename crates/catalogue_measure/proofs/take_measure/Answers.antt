-- `take_measure` goes from entry to entry. Assumes nothing.
use mathlib.Core.Path.{◌≡◌, refl}
use mathlib.Core.List.{List}
use Prim.Native.Nat.{ℕ, ◌+◌, ◌*◌, ◌^◌, ◌<◌}
use native.Mathlib.Omega.{arith}
use lib.ListN.{length}
use Rattle.definitions.specs.declared.Selection.{Selection}
use Rattle.definitions.specs.Ranking.{ranked}
use Rattle.definitions.specs.Catalogue.{row_size}
use Rattle.definitions.specs.Writing.{entries_of}
use Rattle.writing_laws.specs.RankedFile.{entry_at_lem}
use Rattle.catalogue_measure.proofs.MeasureLaws as laws
use Rattle.catalogue_measure.proofs.take_measure.Goals as goal
use Rattle.catalogue_measure.proofs.take_measure.Goals.{After-entry_size-contents, At-loop-k, In-loop-k}

abbrev listed : At-loop-k → List Selection
listed c = let a = c.args in entries_of a.floor a.entries.now

-- There are so many entries at every floor.
count_is : (c : At-loop-k) → c.count-n.result ≡ length (listed c)
count_is c = c.count-n.ensures c.args.floor

inside : (c : In-loop-k) → c.loop-k.k < length (listed (goal.at.In-loop-k c).At-loop-k)
inside c = omega (arith, c.loop-k-test.true, count_is (goal.at.In-loop-k c).At-loop-k)

more : (c : After-entry_size-contents) (b : ℕ) → let l = c.loop-k in let x = c.entry-list.result in
    b ≡ length (ranked x) * row_size x.degree x.top x.gaps
    → laws.Measured (listed (goal.at.After-entry_size-contents c).At-loop-k) (l.k + 1) (l.contents + c.entry_size-contents.result) (l.bodies + b)
more c b e =
    let l = c.loop-k in
    laws.measured_more (listed (goal.at.After-entry_size-contents c).At-loop-k) c.requires l.k l.contents l.bodies l.invariant (inside (goal.at.After-entry_size-contents c).In-loop-k) c.entry-list.ensures
    c.entry_size-contents.ensures e

sums_fit : (c : After-entry_size-contents) (b : ℕ) → let l = c.loop-k in let x = c.entry-list.result in
    b ≡ length (ranked x) * row_size x.degree x.top x.gaps → l.contents + c.entry_size-contents.result + (l.bodies + b) < 2 ^ 32
sums_fit c b e =
    let l = c.loop-k in
    laws.sum_fits (listed (goal.at.After-entry_size-contents c).At-loop-k) c.requires (l.k + 1) (l.contents + c.entry_size-contents.result) (l.bodies + b) (more c b e)

pub overflow_add-contents : goal.overflow_add-contents
overflow_add-contents c = omega (arith, sums_fit c _ refl)

pub body_size-bodies-requires : goal.body_size-bodies-requires
body_size-bodies-requires c =
    let l = entry_at_lem c.requires c.loop-k.k (inside (goal.at.body_size-bodies-requires c).In-loop-k) in
    rw c.entry-list.ensures (record { degree = l.degree_lawful; top = l.top_lawful })

pub overflow_add-bodies : goal.overflow_add-bodies
overflow_add-bodies c = omega (arith, sums_fit (goal.at.overflow_add-bodies c).After-entry_size-contents c.body_size-bodies.result c.body_size-bodies.ensures)

pub loop-k-preserved : goal.loop-k-preserved
loop-k-preserved c = more (goal.at.loop-k-preserved c).After-entry_size-contents c.body_size-bodies.result c.body_size-bodies.ensures

pub overflow_add-result : goal.overflow_add-result
overflow_add-result c =
    let l = c.loop-k in
    omega (arith, laws.sum_fits (listed (goal.at.overflow_add-result c).At-loop-k) c.requires l.k l.contents l.bodies l.invariant)

pub returns : goal.returns
returns c =
    let known = (goal.at.returns c).At-loop-k in
    let l = c.loop-k in
    laws.measured_end (listed known) c.requires l.k l.contents l.bodies l.invariant (omega (arith, c.loop-k-test.false, count_is known))
