-- One count after the other is removed.
use Rattle.std.proofs.Common.{◌<◌, length, get_or, arith}
use Rattle.fk_replay_phases.specs.declared.acting.Acting.{Acting}
use Rattle.fk_replay_phases.proofs.Highest.{element}
use Rattle.fk_replay_phases.proofs.Emptied.{dismisses_within, dismisses_more, dismisses_end}
use Rattle.fk_replay_phases.proofs.acting.dismiss.Goals as goal

abbrev nobody : Acting
nobody = record { number = 0; node = 0; lowest = 0; highest = 0 }

pub index_mut-requires : goal.index_mut-requires
index_mut-requires c =
    let i = c.loop-member.member-index in
    let lt : i < length c.args.acting.now = omega arith in
    let within : (get_or c.args.acting.now i (record { number = 0; node = 0; lowest = 0; highest = 0 })).number < length c.loop-member.counts.items =
    dismisses_within c.args.acting.now c.args.counts.now.items i c.loop-member.counts.items (get_or c.args.acting.now i nobody) c.loop-member.invariant lt (element c.args.acting.now i nobody lt) in
    let items = c.loop-member.counts.ok.0 in
    omega arith

pub loop-member-preserved : goal.loop-member-preserved
loop-member-preserved c =
    let i = c.loop-member.member-index in
    let lt : i < length c.args.acting.now = omega arith in
    dismisses_more c.args.acting.now c.args.counts.now.items i c.loop-member.counts.items (get_or c.args.acting.now i nobody) c.loop-member.invariant lt (element c.args.acting.now i nobody lt)

pub returns : goal.returns
returns c = record {
  counts = dismisses_end c.args.acting.now c.args.counts.now.items c.loop-member.member-index c.loop-member.counts.items c.loop-member.invariant (omega arith);
}
