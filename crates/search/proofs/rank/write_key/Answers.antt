-- `rank::write_key` weighs the pair in a search that has no position and room left: there a key is neither low nor high. Then Δ is written. Assumes
-- nothing.
use mathlib.Core.Path.{refl}
use Rattle.search.proofs.RankLaws as laws
use Rattle.search.proofs.rank.write_key.Goals as goal

pub weigh-requires : goal.weigh-requires
weigh-requires c =
    let pre = c.requires in
    record { searching = laws.free_searching c.args.list _ pre.lawful_list refl; well_formed = pre.well_formed; q_value = pre.q_value; row_len = pre.row_len }

pub write_delta-requires : goal.write_delta-requires
write_delta-requires c =
    let a = c.args in
    record { lawful_list = c.requires.lawful_list; well_formed = c.requires.well_formed; valued = laws.free_open a.list _ a.p a.q _ c.weigh.result c.weigh.ensures }

pub returns : goal.returns
returns c = c.write_delta.ensures
