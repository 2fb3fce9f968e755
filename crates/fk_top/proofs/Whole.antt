-- From the cause of an answer to all that holds of it.
use Rattle.std.proofs.Common.{◌≡◌, ◌≢◌, ℕ, List, Option, Some, None, take, sym, ap, subst, ◌∙◌, inl, inr}
use Rattle.std.specs.Prelude.{IsSomeAnd}
use Rattle.fk_ports.specs.Files.{Files}
use Rattle.fk_top.specs.declared.status.Status.{Status}
use Rattle.fk_top.specs.declared.status.Status.TheVariants.{Usage, ReadFault, SourceFault, Trap, InputRefused, TraceRefused}
use Rattle.fk_top_words.specs.Command.{Command, Reads}
use Rattle.fk_top_words.proofs.OneCommand.{one_command}
use Rattle.fk_top.specs.Words.{IsRun, HasInput, IsPut, IsExec, IsReplay, IsFetch, Origin, FirstOf, Generated, Nowhere, origin_of, trace_origin_of}
use Rattle.fk_top.specs.Outcome.{Outcome, Put}
use Rattle.fk_top.specs.Call.{Call, Request, Stored, HasPut, IsSame, Ends, IsNoCommand, IsUnread, HasRead, HasEnded, HasCause, IsCut, AreCut, FailsToWrite, TellsFaults, IsAbsent, LacksOrigin, AreRead, IsOfAbsent, IsOfNoCommand, IsAnswer}
use Rattle.fk_top.proofs.Answered.{nothing_of}
use Rattle.fk_top.proofs.Causes.{ByAnswer, by_answer, puts_by, accepted, unreadable, untraced, unaccepted}
use Rattle.fk_top.proofs.Statuses.{IsOf, outcome_is_of, is_exec, is_replay, is_run, has_input}

-- the status of an outcome that a command came to
status_of_read : (request : Request) (outcome : Outcome) (status : Status) (read : HasRead request outcome) → outcome.status ≡ status → IsOf status read.command
status_of_read request outcome status read same =
    subst (λ s. IsOf s read.command) same (outcome_is_of request.words read.command read.bytes read.trace read.text outcome read.reads read.comes_to)

-- ---- words that are no command

usage : (call : Call) → HasEnded call Usage → IsNoCommand call.request.words
usage call ended = go ended.cause
  where
    go : Ends call.request ended.outcome → IsNoCommand call.request.words
    go (inl none) = none.0
    go (inr (inl unread)) = let e = sym ended.status_is ∙ ap (λ (o : Outcome). o.status) unread.1 in absurd (cc)
    go (inr (inr read)) = absurd (status_of_read call.request ended.outcome Usage read ended.status_is)

no_command : (call : Call) (status : Status) → HasCause call status → IsNoCommand call.request.words → IsOfNoCommand status
no_command call status cause none = go (by_answer call status cause)
  where
    of : (ended : HasEnded call status) → Ends call.request ended.outcome → IsOfNoCommand status
    of ended (inl wrong) = inl (sym ended.status_is ∙ ap (λ (o : Outcome). o.status) wrong.1)
    of ended (inr (inl unread)) = absurd (none unread.0.command unread.0.reads)
    of ended (inr (inr read)) = absurd (none read.command read.reads)

    go : ByAnswer call status → IsOfNoCommand status
    go (inl cut) = inr (inl cut.0)
    go (inr (inl memory)) = inr (inr memory.0)
    go (inr (inr ended)) = of ended ended.cause

-- ---- a file that can't be read

read_fault : (call : Call) → HasEnded call ReadFault → IsUnread call.request
read_fault call ended = go ended.cause
  where
    go : Ends call.request ended.outcome → IsUnread call.request
    go (inl none) = let e = sym ended.status_is ∙ ap (λ (o : Outcome). o.status) none.1 in absurd (cc)
    go (inr (inl unread)) = unread.0
    go (inr (inr read)) = absurd (status_of_read call.request ended.outcome ReadFault read ended.status_is)

-- a file that is absent is not read
not_read : (known : Option Files) (origin : Origin) (bytes : List ℕ) → LacksOrigin known origin → AreRead known origin bytes → ⊥
not_read None (FirstOf file most) bytes lacks read = lacks
not_read (Some files) (FirstOf file most) bytes lacks read = subst (λ (o : Option (List ℕ)). IsSomeAnd o (λ b. bytes ≡ take most b)) lacks read.0
not_read known (Generated statements) bytes lacks read = lacks
not_read known Nowhere bytes lacks read = lacks

absent : (call : Call) (status : Status) → HasCause call status → IsAbsent call.request → IsOfAbsent status
absent call status cause lost = go (by_answer call status cause)
  where
    of : (ended : HasEnded call status) → Ends call.request ended.outcome → IsOfAbsent status
    of ended (inl none) = absurd (none.0 lost.command lost.reads)
    of ended (inr (inl unread)) = inl (sym ended.status_is ∙ ap (λ (o : Outcome). o.status) unread.1)
    of ended (inr (inr read)) =
        let same = one_command call.request.words lost.command read.command lost.reads read.reads in
        elim lost.lacks [
          | inl file ↦ absurd (not_read call.request.files (origin_of read.command) read.bytes (subst (λ (c : Command). LacksOrigin call.request.files (origin_of c)) same file) read.are_read)
          | inr trace ↦
              absurd (not_read call.request.files (trace_origin_of read.command) read.trace (subst (λ (c : Command). LacksOrigin call.request.files (trace_origin_of c)) same trace) read.trace_is_read)
        ]

    go : ByAnswer call status → IsOfAbsent status
    go (inl cut) = inr (inl cut.0)
    go (inr (inl memory)) = inr (inr memory.0)
    go (inr (inr ended)) = of ended ended.cause

-- ---- a write that fails

write_fault : (call : Call) → IsCut call → FailsToWrite call
write_fault call cut = go cut.cut
  where
    go : AreCut call.store call.out call.err cut.outcome → FailsToWrite call
    go (inl f) = inl (puts_by call.request cut.outcome cut.cause f.0.some, f.0.rose)
    go (inr (inl f)) = inr (inl f.1.rose)
    go (inr (inr f)) = inr (inr f.2.rose)

-- ---- a run that fails

module _ (call : Call) (status : Status) (ended : HasEnded call status) (no_usage : status ≢ Usage) (no_fault : status ≢ ReadFault) where
  by_read : (D : Type 0) → ((command : Command) → Reads call.request.words command → IsOf status command → D) → D
  by_read D of_command = go ended.cause
    where
      go : Ends call.request ended.outcome → D
      go (inl none) = absurd (no_usage (sym ended.status_is ∙ ap (λ (o : Outcome). o.status) none.1))
      go (inr (inl unread)) = absurd (no_fault (sym ended.status_is ∙ ap (λ (o : Outcome). o.status) unread.1))
      go (inr (inr read)) = of_command read.command read.reads (status_of_read call.request ended.outcome status read ended.status_is)

-- ---- only a command that puts a file does

same_files : (store : Stored) (put : Option Put) → put ≡ None → HasPut store put → IsSame store.files
same_files store put none has = subst (λ (p : Option Put). HasPut store p) none has

files : (call : Call) (status : Status) → HasCause call status → ¬ IsPut call.request.words → IsSame call.store.files
files call status cause not = go (by_answer call status cause)
  where
    of : (outcome : Outcome) → Ends call.request outcome → HasPut call.store outcome.put → IsSame call.store.files
    of outcome ends has = same_files call.store outcome.put (nothing_of call.request outcome ends not) has

    cut-of : (cut : IsCut call) → AreCut call.store call.out call.err cut.outcome → IsSame call.store.files
    cut-of cut (inl f) = f.0.same
    cut-of cut (inr (inl f)) = of cut.outcome cut.cause f.0
    cut-of cut (inr (inr f)) = of cut.outcome cut.cause f.0

    go : ByAnswer call status → IsSame call.store.files
    go (inl cut) = cut-of cut.1 cut.1.cut
    go (inr (inl memory)) = memory.1.put
    go (inr (inr ended)) = of ended.outcome ended.cause ended.put

-- ---- all of it

pub answer_of : (call : Call) (status : Status) → HasCause call status → TellsFaults call status → (¬ IsFetch call.request.words → IsSame call.request.faults)
    → (¬ HasInput call.request.words → IsSame call.request.input.left) → (¬ HasInput call.request.words → IsSame call.request.input.faults) → (¬ IsPut call.request.words → IsSame call.store.faults)
    → IsAnswer call status
answer_of call status cause told fetch left input_faults steady = record {
  answer = cause;
  usage = λ is. usage call (subst (HasCause call) is cause);
  no_command = no_command call status cause;
  read_fault = λ is. read_fault call (subst (HasCause call) is cause);
  absent = absent call status cause;
  write_fault = λ is. write_fault call (subst (HasCause call) is cause);
  told = told;
  traced = λ is. by_read call TraceRefused (subst (HasCause call) is cause) (λ e. cc) (λ e. cc) (IsReplay call.request.words) (is_replay call.request.words);
  source_fault = λ is. by_read call SourceFault (subst (HasCause call) is cause) (λ e. cc) (λ e. cc) (IsRun call.request.words) (is_run call.request.words);
  trap = λ is. by_read call Trap (subst (HasCause call) is cause) (λ e. cc) (λ e. cc) (IsExec call.request.words) (is_exec call.request.words);
  fetch_faults = fetch;
  input = λ is. by_read call InputRefused (subst (HasCause call) is cause) (λ e. cc) (λ e. cc) (HasInput call.request.words) (has_input call.request.words);
  left = left;
  input_faults = input_faults;
  complete = λ command bytes trace text order. accepted call status command bytes trace text order cause;
  refused = λ command bytes trace text order. unreadable call status command bytes trace text order cause;
  trace_refused = λ command bytes trace text order. untraced call status command bytes trace text order cause;
  input_refused = λ command bytes trace text order. unaccepted call status command bytes trace text order cause;
  files = files call status cause;
  put_faults = steady;
}
