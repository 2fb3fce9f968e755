-- No image of a text traps, since a trap agrees with no stand of a run.
use Rattle.fk_meaning.specs.Schedule.{SourceStand, SourceRunning, SourceFinished, SourceFaulted}
use Rattle.fk_machine.specs.declared.stand.Stand.{Stand}
use Rattle.fk_machine.specs.declared.stand.Stand.TheVariants.{Running, Finished, Faulted, Trapped}
use Rattle.fk_sim_rounds.specs.Follows.{StandsAgree}
use Rattle.fk_compile.specs.Laws.{IsUntrapped, NeverTraps}

untrapped : (stand : Stand) (source : SourceStand) → StandsAgree stand source → IsUntrapped stand
untrapped Running source agree = tt
untrapped Finished source agree = tt
untrapped (Faulted site hart) source agree = tt
untrapped (Trapped hart pc kind) SourceRunning agree = absurd agree
untrapped (Trapped hart pc kind) SourceFinished agree = absurd agree
untrapped (Trapped hart pc kind) (SourceFaulted fault) agree = absurd agree

pub never_traps : NeverTraps
never_traps source image input p n faithful within some few bound =
    untrapped _ _ (faithful.faithful.follows input p n within some few bound).agrees.stand
