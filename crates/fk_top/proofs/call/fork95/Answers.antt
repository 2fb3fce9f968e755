use Rattle.std.proofs.Common.{refl, map, string_bytes, Global, sym, ◌∙◌}
use Rattle.fk_ports.proofs.Given.{append_known-nil}
use Rattle.fk_top.specs.Ending.{outcome_of}
use Rattle.fk_top.specs.Call.{given_of, request_of, sunk_of}
use Rattle.fk_top.proofs.Answered.{same_ends, same_cause, nothing_of, steady_read}
use Rattle.fk_top.proofs.Whole.{answer_of}
use Rattle.fk_top.proofs.call.fork95.Goals as goal

pub returns-in-Ok : goal.returns-in-Ok
returns-in-Ok g c =
    let words = map (string_bytes {Z = Global}) c.args.words.now in
    let input = given_of g.S.Source.left g.S.Source.faults c.args.input.now c.find_ending.new.input in
    let request = request_of g.F.Store.files g.F.Store.fetch_faults words c.args.files.now c.give_ending.new.files input in
    let ends = c.in-Ok.ensures.ends in
    let given = c.give_ending.ensures in
    let steady = steady_read (outcome_of c.in-Ok.ending) c.give_ending.result c.in-Ok.ensures.steady given.status in
    record {
      call = answer_of _ _
          (same_cause request _ _ _ _ _ _ (sunk_of g.K.Sink.taken g.K.Sink.faults c.args.out.now c.give_ending.new.out) (sunk_of g.E.Sink.taken g.E.Sink.faults c.args.err.now c.give_ending.new.err) c.give_ending.result
          c.find_ending.ensures.files c.find_ending.ensures.put_faults
          (given.cause request (same_ends words _ input _ _ _ (outcome_of c.in-Ok.ending) given.fetch_faults ends)))
          (record {
            fetch = λ no_write no_read. given.fetch_faults ∙ (steady no_write no_read).0;
            input = λ no_write no_read. (steady no_write no_read).1;
            put = λ not. given.put not ∙ c.find_ending.ensures.put_faults;
            out = given.out;
            err = given.err;
          })
          (λ not. given.fetch_faults ∙ c.find_ending.ensures.fetch_faults not)
          c.find_ending.ensures.left
          c.find_ending.ensures.input_faults
          (λ not. given.nothing_put (nothing_of _ (outcome_of c.in-Ok.ending) ends not) ∙ c.find_ending.ensures.put_faults);
    }

pub returns-in-Err : goal.returns-in-Err
returns-in-Err g c =
    record {
      call = answer_of _ _
          (record { took = c.in-Err.ensures.lost; put = c.find_ending.ensures.files; out_took = sym (append_known-nil _); err_took = sym (append_known-nil _) })
          (record {
            fetch = λ _ _. c.in-Err.ensures.unread.0;
            input = λ _ _. c.in-Err.ensures.unread.1;
            put = λ _. c.find_ending.ensures.put_faults;
            out = λ _. refl;
            err = λ _. refl;
          })
          c.find_ending.ensures.fetch_faults
          c.find_ending.ensures.left
          c.find_ending.ensures.input_faults
          (λ _. c.find_ending.ensures.put_faults);
    }
