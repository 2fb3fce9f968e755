use Rattle.std.proofs.Common.{Err, refl, ap, inl, inr}
use Rattle.fk_ports.specs.declared.faults.StoreFault.TheVariants.{Fault}
use Rattle.fk_top.proofs.Fetched.{faulted, passed, read_of}
use Rattle.fk_top.proofs.reading.read_files.Goals as goal

pub returns-in_err-file-clause-fault : goal.returns-in_err-file-clause-fault
returns-in_err-file-clause-fault g c = λ is.
    inl (faulted _ _ _ _ _ _ _ refl c.origin_of.ensures refl
    (c.in_err-file.ensures.fault (ap Err (passed c.from_residual.result _ Fault c.from_residual.ensures.1 is))))

pub returns-in_err-trace-clause-fault : goal.returns-in_err-trace-clause-fault
returns-in_err-trace-clause-fault g c = λ is.
    inr (faulted _ _ _ _ _ _ _ c.read_bytes.ensures.files c.trace_origin_of.ensures c.in_ok-file.ensures.steady
    (c.in_err-trace.ensures.fault (ap Err (passed c.from_residual-in_err-trace.result _ Fault c.from_residual-in_err-trace.ensures.1 is))))

pub returns-clause-trace : goal.returns-clause-trace
returns-clause-trace g c = read_of _ _ _ _ _ c.read_bytes.ensures.files c.trace_origin_of.ensures c.in_ok-trace.ensures.read
