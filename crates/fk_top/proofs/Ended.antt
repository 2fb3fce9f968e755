-- A call that has ended as its outcome says has its cause.
use Rattle.std.proofs.Common.{◌≡◌, sym, ap, subst, ◌∙◌, inl, inr}
use Rattle.fk_top.specs.declared.status.Status.{Status}
use Rattle.fk_top.specs.declared.status.Status.TheVariants.{Done, Refused, Usage, ReadFault, WriteFault, Memory, SourceFault, CycleBound, Trap, ImageRefused, InputRefused, TraceRefused, ElfRefused}
use Rattle.fk_top.specs.Outcome.{Outcome}
use Rattle.fk_top.specs.Call.{Call, Request, Ends, HasEnded, HasCause}
use Rattle.fk_top.proofs.Statuses.{IsOf, outcome_is_of}

-- no outcome is want of memory, or a write that fails
no_memory : (request : Request) (outcome : Outcome) → outcome.status ≡ Memory → Ends request outcome → ⊥
no_memory request outcome is (inl none) = let e : Memory ≡ Usage = sym is ∙ ap (λ (o : Outcome). o.status) none.1 in absurd (cc)
no_memory request outcome is (inr (inl unread)) = let e : Memory ≡ ReadFault = sym is ∙ ap (λ (o : Outcome). o.status) unread.1 in absurd (cc)
no_memory request outcome is (inr (inr read)) =
    subst (λ s. IsOf s read.command) is (outcome_is_of request.words read.command read.bytes read.trace read.text outcome read.reads read.comes_to)

no_write_fault : (request : Request) (outcome : Outcome) → outcome.status ≡ WriteFault → Ends request outcome → ⊥
no_write_fault request outcome is (inl none) = let e : WriteFault ≡ Usage = sym is ∙ ap (λ (o : Outcome). o.status) none.1 in absurd (cc)
no_write_fault request outcome is (inr (inl unread)) = let e : WriteFault ≡ ReadFault = sym is ∙ ap (λ (o : Outcome). o.status) unread.1 in absurd (cc)
no_write_fault request outcome is (inr (inr read)) =
    subst (λ s. IsOf s read.command) is (outcome_is_of request.words read.command read.bytes read.trace read.text outcome read.reads read.comes_to)

pub ended_as : (call : Call) (outcome : Outcome) (status : Status) → outcome.status ≡ status → Ends call.request outcome → HasEnded call status → HasCause call status
ended_as call outcome WriteFault is ends ended = absurd (no_write_fault call.request outcome is ends)
ended_as call outcome Memory is ends ended = absurd (no_memory call.request outcome is ends)
ended_as call outcome Done is ends ended = ended
ended_as call outcome Refused is ends ended = ended
ended_as call outcome Usage is ends ended = ended
ended_as call outcome ReadFault is ends ended = ended
ended_as call outcome SourceFault is ends ended = ended
ended_as call outcome CycleBound is ends ended = ended
ended_as call outcome Trap is ends ended = ended
ended_as call outcome ImageRefused is ends ended = ended
ended_as call outcome InputRefused is ends ended = ended
ended_as call outcome TraceRefused is ends ended = ended
ended_as call outcome ElfRefused is ends ended = ended
