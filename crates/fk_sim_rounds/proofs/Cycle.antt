-- From one cycle of the machine to the next.
use Rattle.std.proofs.Common.{inl, inr, ⊎_elim}
use Rattle.fk_machine.specs.Cycle.{turns}
use Rattle.fk_sim_nodes.specs.Node.{AreAsMany}
use Rattle.fk_sim_match.proofs.Left.{first_alike, second_alike, both_alike, what_is_left}
use Rattle.fk_sim_block.specs.Owner.{core_source}
use Rattle.fk_sim_match.specs.Nodes.{first_of, plan_of}
use Rattle.fk_sim_match.specs.Behind.{joining_blocks_of}
use Rattle.fk_sim_match.proofs.Joining.{joins_bound, cycles_leave_apart}
use Rattle.fk_sim_match.proofs.Meeters.{cycles_are_rounds}
use Rattle.fk_sim_rounds.specs.Rounds.{IsBefore}
use Rattle.fk_sim_rounds.specs.Cycle.{CyclesBindAgain}
use Rattle.fk_sim_rounds.proofs.Sum.{rounds_bind_again}

pub cycles_bind_again : CyclesBindAgain
cycles_bind_again core image places nestings cycles firsts main setting tree spaces nodes t earlier stages hs ps own sh s the_law leads before few shows has binds nobody =
    let plan = plan_of tree spaces nodes in
    let joining = joining_blocks_of core image places nestings setting plan (first_of spaces) in
    let joined = joins_bound core image places nestings setting plan (first_of spaces) t stages hs ps own binds in
    let source = core_source core setting in
    let done = turns t 0 hs sh in
    let planned = cycles_are_rounds core image places nestings setting tree spaces nodes t earlier stages hs ps own sh s before.spaced shows has binds in (
      planned.counts,
      ⊎_elim
          (λ whole.
          let left = cycles_leave_apart core image places nestings setting plan (first_of spaces) t stages done.harts ps whole.did own whole.own nobody
          (what_is_left source image plan joining t stages hs done.harts ps whole.did own whole.own joined whole.as_many whole.after) in
          let many : AreAsMany nodes done.harts ps
          = both_alike nodes done.harts ps (first_alike nodes done.harts whole.did whole.as_many) (second_alike nodes hs ps before.as_many) in
          let behind : IsBefore core image setting tree spaces nodes t stages done.harts ps
          = record {
            running = before.running;
            sound = before.sound;
            spaced = before.spaced;
            stand = before.stand;
            many = before.many;
            as_many = many;
            landed = before.landed;
            due = before.due;
          } in
          inl (record {
            whole = whole;
            left = left;
            again = λ nodes' known new there many' on next.
                rounds_bind_again core image places nestings cycles firsts main setting tree spaces nodes nodes' t stages hs done.harts ps whole.did own whole.own done.shared.control the_law leads behind few binds
                left whole.has known new there many' on next;
          }))
          (λ cut. inr cut) planned.round,
    )
