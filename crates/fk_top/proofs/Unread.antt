-- What a call comes to where the words, or something else, could not be read.
use Rattle.std.proofs.Common.{◌≡◌, ◌⊎◌, ℕ, List, [], Result, Ok, Err, IfOk, refl, subst, inl, inr}
use Rattle.std.specs.Prelude.{IsErr, IsOkAnd}
use Rattle.std.specs.declared.alloc.AllocError.{AllocError}
use Rattle.fk_ports.specs.Known.{MovesFirst}
use Rattle.fk_ports.specs.declared.faults.StoreFault.{StoreFault}
use Rattle.fk_ports.specs.declared.faults.StoreFault.TheVariants.{Fault, Memory}
use Rattle.fk_top_words.specs.Command.{Command, Reads}
use Rattle.fk_top_words.specs.declared.fault.WordsFault.{WordsFault}
use Rattle.fk_top_words.specs.declared.fault.WordsFault.TheVariants as words
use Rattle.fk_top.specs.declared.ending.Ending.{Ending}
use Rattle.fk_top.specs.declared.report.Report.TheVariants as reports
use Rattle.fk_top.specs.declared.status.Status.TheVariants.{ReadFault, Usage}
use Rattle.fk_top.specs.Words.{origin_of, trace_origin_of, most_input}
use Rattle.fk_top.specs.Report.{line_of}
use Rattle.fk_top.specs.Ending.{outcome_of}
use Rattle.fk_top.specs.Outcome.{ComesTo, silent}
use Rattle.fk_top.specs.Call.{Request, Ends, IsNoCommand, IsUnread, AreRead}

-- words that are no command have their ending, but want of memory has none
pub no_command_ends : (r : Result Ending AllocError) (fault : WordsFault) (request : Request) → (fault ≡ words.Usage → IsNoCommand request.words)
    → (fault ≡ words.Usage → IsOkAnd r (λ e. outcome_of e ≡ silent Usage (line_of reports.CommandLine))) → (fault ≡ words.Memory → IsErr r) → IfOk r (λ e. Ends request (outcome_of e))
no_command_ends (Ok e) words.Usage request none is memory = inl (none refl, is refl)
no_command_ends (Ok e) words.Memory request none is memory = absurd (let bad = memory refl in cc)
no_command_ends (Err error) fault request none is memory = tt

-- what could not be read has its ending, but want of memory has none
pub unread_ends : (r : Result Ending AllocError) (fault : StoreFault) (request : Request) → (fault ≡ Fault → IsUnread request)
    → (fault ≡ Fault → IsOkAnd r (λ e. outcome_of e ≡ silent ReadFault (line_of reports.ReadFault))) → (fault ≡ Memory → IsErr r) → IfOk r (λ e. Ends request (outcome_of e))
unread_ends (Ok e) Fault request unread is none = inr (inl (unread refl, is refl))
unread_ends (Ok e) Memory request unread is none = absurd (let bad = none refl in cc)
unread_ends (Err error) fault request unread is none = tt

-- what could not be read is told, or nothing more is said of it
pub unread_told : (X : Type 0) (r : Result Ending AllocError) (fault : StoreFault) → (fault ≡ Fault → IsOkAnd r (λ e. outcome_of e ≡ silent ReadFault (line_of reports.ReadFault))) → (fault ≡ Memory → IsErr r)
    → IfOk r (λ e. (outcome_of e ≡ silent ReadFault (line_of reports.ReadFault)) ⊎ X)
unread_told X (Ok e) Fault is none = inl (is refl)
unread_told X (Ok e) Memory is none = absurd (let bad = none refl in cc)
unread_told X (Err error) fault is none = tt

-- what was read has its ending
pub read_ends : (r : Result Ending AllocError) (request : Request) (command : Command) (bytes trace input text : List ℕ) → text ≡ input
    → Reads request.words command → AreRead request.files (origin_of command) bytes → AreRead request.files (trace_origin_of command) trace
    → MovesFirst (most_input command) request.input.left.before request.input.left.after [] input
    → IfOk r (λ e. ComesTo command bytes trace text (outcome_of e)) → IfOk r (λ e. Ends request (outcome_of e))
read_ends (Ok e) request command bytes trace input text also reads are_read trace_is_read moves comes =
    inr (inr (record {
      command = command;
      reads = reads;
      bytes = bytes;
      are_read = are_read;
      trace = trace;
      trace_is_read = trace_is_read;
      text = input;
      first_input = moves;
      comes_to = subst (λ t. ComesTo command bytes trace t (outcome_of e)) also comes;
    }))
read_ends (Err error) request command bytes trace input text also reads are_read trace_is_read moves comes = tt
