use Rattle.std.proofs.Common.{refl, inr}
use Rattle.std.proofs.lemmas.Result.{IfErr-weaker}
use Rattle.fk_replay_text.proofs.Whole.{bad_title, no_harts, no_second, whole_fault}
use Rattle.fk_replay_text.proofs.reading.read_trace.Goals as goal

pub returns-in_default-clause-fault : goal.returns-in_default-clause-fault
returns-in_default-clause-fault c = inr (1, refl, bad_title c.args.bytes.now c.in_default.ensures)

pub returns-in_default-cut-clause-fault : goal.returns-in_default-cut-clause-fault
returns-in_default-cut-clause-fault c = inr (2, refl, no_second c.args.bytes.now c.in-Some.rest.now c.in-Some.ensures c.in_default-cut.ensures)

pub returns-in_default-read_harts-clause-fault : goal.returns-in_default-read_harts-clause-fault
returns-in_default-read_harts-clause-fault c =
    inr (2, refl, no_harts c.args.bytes.now c.in-Some.rest.now c.in-Some-cut.line.now c.in-Some-cut.body.now c.in-Some.ensures c.in-Some-cut.ensures c.in_default-read_harts.ensures)

pub returns-clause-fault : goal.returns-clause-fault
returns-clause-fault c =
    IfErr-weaker c.read_body.result _ _
    (λ fault is. whole_fault c.args.bytes.now c.in-Some.rest.now c.in-Some-cut.line.now c.in-Some-cut.body.now c.in-Some-read_harts.harts fault
    c.in-Some.ensures c.in-Some-cut.ensures c.in-Some-read_harts.ensures.0 c.in-Some-read_harts.ensures.1 c.in-Some-read_harts.ensures.2 is)
    c.read_body.ensures.fault
