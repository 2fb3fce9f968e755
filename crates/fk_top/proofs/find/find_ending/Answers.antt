use Rattle.std.proofs.Common.{[], Err, map, string_bytes, Global, refl, ap, inl, inr}
use Rattle.fk_top_words.specs.Command.{command_of}
use Rattle.fk_top.specs.Call.{given_of, request_of}
use Rattle.fk_top.specs.Words.{most_input}
use Rattle.fk_top.proofs.Lost.{none_lost, no_more, moved, few_input, lost_or_not}
use Rattle.fk_top.proofs.Unread.{no_command_ends, read_ends, unread_ends, unread_told}
use Rattle.fk_top.proofs.find.find_ending.Goals as goal

pub returns-in-Err-clause-ends : goal.returns-in-Err-clause-ends
returns-in-Err-clause-ends g c =
    let words = map (string_bytes {Z = Global}) c.args.words.now in
    let input = given_of g.S.Source.left g.S.Source.faults c.args.input.now c.args.input.now in
    let request = request_of g.F.Store.files g.F.Store.fetch_faults words c.args.files.now c.args.files.now input in
    no_command_ends c.no_command.result c.in-Err.fault request (λ is. c.in-Err.ensures.usage is) c.no_command.ensures.usage c.no_command.ensures.memory

pub returns-in-Err-read_files-clause-ends : goal.returns-in-Err-read_files-clause-ends
returns-in-Err-read_files-clause-ends g c =
    let words = map (string_bytes {Z = Global}) c.args.words.now in
    let input = given_of g.S.Source.left g.S.Source.faults c.args.input.now c.args.input.now in
    let request = request_of g.F.Store.files g.F.Store.fetch_faults words c.args.files.now c.read_files.new.files input in
    let command = command_of c.in-Ok.command in
    unread_ends c.unread.result c.in-Err-read_files.fault request
    (λ is. record {
      command = command;
      reads = c.in-Ok.ensures.reads;
      cause = inl (record { fault = c.in-Err-read_files.ensures.fault (ap Err is); left = refl; steady = refl });
    })
    c.unread.ensures.fault c.unread.ensures.memory

pub returns-in-Ok-take_input-clause-ends : goal.returns-in-Ok-take_input-clause-ends
returns-in-Ok-take_input-clause-ends g c =
    let words = map (string_bytes {Z = Global}) c.args.words.now in
    let input = given_of g.S.Source.left g.S.Source.faults c.args.input.now c.take_input.new.input in
    let request = request_of g.F.Store.files g.F.Store.fetch_faults words c.args.files.now c.read_files.new.files input in
    read_ends c.command_ending.result request (command_of c.in-Ok.command) c.in-Ok-read_files.read.file.items c.in-Ok-read_files.read.trace.items c.in-Ok-take_input.text.items _ c.as_slice.ensures.value
    c.in-Ok.ensures.reads c.in-Ok-read_files.ensures.file c.in-Ok-read_files.ensures.trace c.in-Ok-take_input.ensures.taken c.command_ending.ensures

pub returns-in-Ok-take_input-clause-left : goal.returns-in-Ok-take_input-clause-left
returns-in-Ok-take_input-clause-left g c = λ not. c.take_input.ensures.left (λ takes. not (command_of c.in-Ok.command, c.in-Ok.ensures.reads, takes))

pub returns-clause-ends : goal.returns-clause-ends
returns-clause-ends g c =
    let words = map (string_bytes {Z = Global}) c.args.words.now in
    let input = given_of g.S.Source.left g.S.Source.faults c.args.input.now c.take_input.new.input in
    let request = request_of g.F.Store.files g.F.Store.fetch_faults words c.args.files.now c.read_files.new.files input in
    unread_ends c.unread-in-Err-take_input.result c.in-Err-take_input.fault request
    (λ is. record {
      command = command_of c.in-Ok.command;
      reads = c.in-Ok.ensures.reads;
      cause = inr (record {
        takes = c.in-Err-take_input.ensures.takes (ap Err is);
        fetched = c.in-Ok-read_files.ensures.steady;
        rose = c.in-Err-take_input.ensures.fault (ap Err is);
        lost = c.in-Err-take_input.ensures.lost;
      });
    })
    c.unread-in-Err-take_input.ensures.fault c.unread-in-Err-take_input.ensures.memory

pub returns-clause-left : goal.returns-clause-left
returns-clause-left g c = λ not. c.take_input.ensures.left (λ takes. not (command_of c.in-Ok.command, c.in-Ok.ensures.reads, takes))

pub returns-clause-input_faults : goal.returns-clause-input_faults
returns-clause-input_faults g c = λ not. c.take_input.ensures.input_faults (λ takes. not (command_of c.in-Ok.command, c.in-Ok.ensures.reads, takes))

pub returns-in-Err-read_files-clause-steady : goal.returns-in-Err-read_files-clause-steady
returns-in-Err-read_files-clause-steady g c = unread_told _ c.unread.result c.in-Err-read_files.fault c.unread.ensures.fault c.unread.ensures.memory

pub returns-clause-steady : goal.returns-clause-steady
returns-clause-steady g c = unread_told _ c.unread-in-Err-take_input.result c.in-Err-take_input.fault c.unread-in-Err-take_input.ensures.fault c.unread-in-Err-take_input.ensures.memory

pub returns-in-Err-clause-lost : goal.returns-in-Err-clause-lost
returns-in-Err-clause-lost g c = lost_or_not c.no_command.result 1048577 _ _ (none_lost 1048577 (g.S.Source.left c.args.input.now))

pub returns-in-Err-read_files-clause-lost : goal.returns-in-Err-read_files-clause-lost
returns-in-Err-read_files-clause-lost g c = lost_or_not c.unread.result 1048577 _ _ (none_lost 1048577 (g.S.Source.left c.args.input.now))

pub returns-in-Ok-take_input-clause-lost : goal.returns-in-Ok-take_input-clause-lost
returns-in-Ok-take_input-clause-lost g c =
    let command = command_of c.in-Ok.command in
    lost_or_not c.command_ending.result 1048577 _ _ (no_more (most_input command) 1048577 _ _ (few_input command) (moved (most_input command) _ _ [] _ c.in-Ok-take_input.ensures.taken))

pub returns-clause-lost : goal.returns-clause-lost
returns-clause-lost g c =
    let command = command_of c.in-Ok.command in
    lost_or_not c.unread-in-Err-take_input.result 1048577 _ _ (no_more (most_input command) 1048577 _ _ (few_input command) c.in-Err-take_input.ensures.lost)

pub returns-in-Err-read_files-clause-fetch_faults : goal.returns-in-Err-read_files-clause-fetch_faults
returns-in-Err-read_files-clause-fetch_faults g c = λ not.
    c.read_files.ensures.fetch_faults (λ is. not (command_of c.in-Ok.command, c.in-Ok.ensures.reads, is))

pub returns-in-Ok-take_input-clause-fetch_faults : goal.returns-in-Ok-take_input-clause-fetch_faults
returns-in-Ok-take_input-clause-fetch_faults g c = λ not. c.in-Ok-read_files.ensures.steady

pub returns-clause-fetch_faults : goal.returns-clause-fetch_faults
returns-clause-fetch_faults g c = λ not. c.in-Ok-read_files.ensures.steady
