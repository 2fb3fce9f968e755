-- A round, from its parts.
use Rattle.std.proofs.Common.{map, None, subst}
use Rattle.fk_tree.specs.View.{processors}
use Rattle.fk_meaning_state.specs.View.{setting_of}
use Rattle.fk_core.specs.Next.{Position, next}
use Rattle.fk_replay_text.specs.View.{range_of}
use Rattle.fk_replay_text.specs.Rounds.{round_of}
use Rattle.fk_replay_stops.proofs.There.{faults_of_the_last_stop}
use Rattle.fk_replay_run.specs.Runs.{state_of}
use Rattle.fk_replay_take.specs.declared.rounds.Outcome.{Outcome}
use Rattle.fk_replay_take.specs.Asked.{IsAskedAs}
use Rattle.fk_replay_take.proofs.Composed.{together}
use Rattle.fk_replay_take.proofs.Served.{arrived_many, given_low}
use Rattle.fk_replay_take.proofs.Taking.{is_neither_begun}
use Rattle.fk_replay_take.proofs.rounds.take_round.Goals as goal

pub finish-requires : goal.finish-requires
finish-requires c =
    let ops = c.args.ops.now in
    let old = c.args.run.now in
    let round = round_of (processors old.tree) (map range_of c.args.acts.now) in
    let now = c.ask.new.run in
    let x = subst (λ (o : Outcome). IsAskedAs ops round old now o) c.in-Possible.is c.in_ok-ask.ensures.asked in
    record {
      few = c.requires.few;
      asked = (round, old, x);
      arrived = arrived_many ops round old now None x c.requires.arrived;
      given = given_low ops round old now None x c.requires.given;
    }

pub stop-requires-clause-asked : goal.stop-requires-clause-asked
stop-requires-clause-asked c =
    let ops = c.args.ops.now in
    let old = c.args.run.now in
    let round = round_of (processors old.tree) (map range_of c.args.acts.now) in
    let x = subst (λ (o : Outcome). IsAskedAs ops round old c.ask.new.run o) c.in-Stopped.is c.in_ok-ask.ensures.asked in
    (round, old, x)

pub returns-in-NotPossible : goal.returns-in-NotPossible
returns-in-NotPossible c =
    let ops = c.args.ops.now in
    let old = c.args.run.now in
    let round = round_of (processors old.tree) (map range_of c.args.acts.now) in
    let cannot = subst (λ (o : Outcome). IsAskedAs ops round old c.ask.new.run o) c.in-NotPossible.is c.in_ok-ask.ensures.asked in
    record {
      taken = is_neither_begun ops round old _ cannot
          (faults_of_the_last_stop Position (next ops) (setting_of old.setting) round (state_of old) (together ops (setting_of old.setting) round (state_of old) c.requires.steady));
    }
