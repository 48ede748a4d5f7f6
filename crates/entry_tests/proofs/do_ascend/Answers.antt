-- `do_ascend` asks of the entry at each place but the first. Assumes nothing.
use Rattle.std.proofs.Common.{rules, ◌≡◌, ℕ, ◌+◌, ◌-◌, ltb, get_or, refl, ap₂, ap, suc, arith, ◌∙◌}
use Rattle.std.proofs.lemmas.Iterator.{YieldsList-from_range}
use Rattle.std.proofs.lemmas.Iterator.Search.{all_from_yields_List}
use Rattle.definitions.specs.Number.{every}
use Rattle.definitions.specs.Writing.{entries_of}
use Rattle.number_laws.specs.Every.{every_ext}
use Rattle.number_laws.specs.Ranges.{every_from}
use Rattle.writing_laws.specs.RankedFile.{no_entry}
use Rattle.entry_tests.proofs.ByPlace.{all_ascend}
use Rattle.entry_tests.proofs.do_ascend.Goals as goal

pub returns : goal.returns
returns c =
    let l = entries_of c.args.floor c.args.entries.now in
    let n = c.count-n.result in
    let before = λ (i j : ℕ). ltb (get_or l i no_entry).degree (get_or l j no_entry).degree in
    let above = λ (k : ℕ). before (k - 1) k in
    all_from_yields_List above _ _ _ c.all.ensures.ran (YieldsList-from_range 1 n (n - 1) refl refl) (λ k b q called. search rules)
    ∙ every_from (n - 1) 1 above
    ∙ every_ext (n - 1) _ (λ k. before k (suc k)) (λ k small. let i : 1 + k - 1 ≡ k = omega arith in let j : 1 + k ≡ suc k = omega arith in ap₂ before i j)
    ∙ ap (λ (m : ℕ). every (m - 1) (λ k. before k (suc k))) (c.count-n.ensures c.args.floor)
    ∙ all_ascend l
