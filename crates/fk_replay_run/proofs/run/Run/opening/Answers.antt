-- All parts of the run are those before the first round.
use Rattle.std.proofs.Common.{subst, arith}
use Rattle.fk_meaning.specs.Processor as processor
use Rattle.fk_meaning.specs.Processor.{Setting}
use Rattle.fk_replay_run.specs.declared.run.Run.{Run}
use Rattle.fk_replay_run.specs.Openings.{AreFirst}
use Rattle.fk_replay_run.proofs.Opening.{is_opening, none_in}
use Rattle.fk_replay_run.proofs.run.Run.opening.Goals as goal

pub returns : goal.returns
returns c =
    let first : AreFirst (processor.setting_of c.args.processors c.args.words.now c.args.input.now) c.args.main c.args.firsts.now c.args.processors c.in_ok-first_actors.field-0.items =
    subst (λ (σ : Setting). AreFirst σ c.args.main c.args.firsts.now σ.processors c.in_ok-first_actors.field-0.items) c.of-setting.ensures c.in_ok-first_actors.ensures in
    let size = c.in_ok-first_actors.field-0.ok.0 in
    let many = first.many in
    let run : Run = record {
      alloc = c.args.alloc;
      setting = c.of-setting.result;
      store = c.in_ok-new.field-0;
      tree = c.in_ok-root.field-0;
      actors = c.in_ok-first_actors.field-0;
      pace = c.in_ok-new-2.field-0;
      counts = c.in_ok-vec.field-0;
      acting = c.new-3.result;
      arrived = c.in_ok-none_arrived.field-0;
    } in
    is_opening c.args.main c.args.words.now c.args.firsts.now c.args.input.now c.args.processors run c.requires.few
    c.in_ok-new.ensures.opening c.in_ok-new.ensures.processors c.in_ok-root.ensures.tree c.in_ok-root.ensures.processors c.of-setting.ensures
    first (omega arith) (none_in c.args.processors c.in_ok-vec.field-0.items (c.in_ok-vec.ensures.items_if_clones_equal (λ y e. e))) c.in_ok-new-2.ensures c.in_ok-none_arrived.ensures
