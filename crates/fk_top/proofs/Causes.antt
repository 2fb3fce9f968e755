-- Which answers come where no fault rose.
use Rattle.std.proofs.Common.{◌≡◌, ℕ, ◌≤◌, Bool, true, false, List, [], ◌∷◌, Option, Some, None, Result, Ok, Err, IsSome, take, length, refl, sym, ap, subst, ◌∙◌, arith, ◌⊎◌, inl, inr}
use Rattle.std.specs.Prelude.{IfSome, IsSomeAnd, nat_lt, vec_len}
use Rattle.std.proofs.lemmas.Bool.{ltb-true, ltb-false, lt-ltb}
use Rattle.std.proofs.lemmas.List.{take_all, length-take}
use Rattle.fk_syntax.specs.declared.facts.Facts.{Facts}
use Rattle.fk_syntax.specs.Program.{ProgramTree}
use Rattle.fk_ports.specs.Files.{Files, AppendsFile, LacksFile}
use Rattle.fk_ports.specs.Known.{GivesAtMost, MovesFirst}
use Rattle.fk_image.specs.declared.Image.{Image}
use Rattle.fk_image.specs.Spelling.{IsImageOf}
use Rattle.fk_image.proofs.Same.{one_image}
use Rattle.fk_elf.specs.Files.{IsElfOf}
use Rattle.fk_top_input.specs.declared.fault.InputFault.{InputFault}
use Rattle.fk_top_input.specs.Input.{input_of}
use Rattle.fk_top_words.specs.Arguments.{Text}
use Rattle.fk_top_words.specs.Command.{Command, Run, Build, Exec, ListCode, Elf, Unelf, Audit, Trace, Replay, Selftest, Locks}
use Rattle.fk_top_words.proofs.OneCommand.{one_command}
use Rattle.fk_layout_globals.specs.Rows.{Row}
use Rattle.fk_compile_text.specs.Text.{IsChecked, HasGlobal}
use Rattle.fk_compile.specs.Faithful.{IsFaithful, words_by}
use Rattle.fk_trace_laws.proofs.OneProgram.{one_words}
use Rattle.fk_top.specs.declared.status.Status.{Status}
use Rattle.fk_top.specs.declared.status.Status.TheVariants.{Done, Refused, Usage, ReadFault, WriteFault, Memory, SourceFault, CycleBound, Trap, ImageRefused, InputRefused, TraceRefused, ElfRefused}
use Rattle.fk_replay_text.specs.declared.fault.ReplayFault.{ReplayFault}
use Rattle.fk_replay_text.specs.declared.fault.ReplayFault.TheVariants as faults
use Rattle.fk_replay_text.specs.Lines.{IsBadLine}
use Rattle.fk_replay_text.specs.Trace.{IsTraceText}
use Rattle.fk_replay.specs.declared.end.Replayed.{Replayed}
use Rattle.fk_replay_source.specs.Answer.{sites_by}
use Rattle.fk_top.specs.Words.{TakesInput, Puts, IsPut, Origin, FirstOf, Generated, Nowhere, origin_of, trace_origin_of, most_input, most_trace_bytes}
use Rattle.fk_top.specs.Outcome.{Outcome, Writing, Prints, Traces, EndsOn, EndsAudit, EndsReplay, ReplaysTrace, ComesTo, RefusesSource, RefusesImage, RefusesElf, LacksGlobal, IsShown, most_numbers, test_harts, test_cycles, test_shown}
use Rattle.fk_top.specs.declared.report.Report.{Report}
use Rattle.fk_top.specs.Refused.{IsRefusedBy, IsNoElfAs, IsNoImageAs, trace_report_of}
use Rattle.fk_top.specs.Call.{Call, Request, Change, Rose, Ends, IsUnread, IsFileUnread, OriginFaults, AreRead, AreThere, IsHeld, IsInputUnread, IsCut, IsOutOfMemory, HasEnded, HasCause, IsInOrder, IsReadable, IsAccepted, IsInputBeside, IsOfStand, IsOfAccepted, IsOfAnswer, IsOfReplay, IsInputOfText, IsOfUnreadable, IsOfUntraced, IsTraced, IsOfUnaccepted, IsText, IsImage, IsElf, AreCut}
use Rattle.fk_top.proofs.Inputs.{none_refused}
use Rattle.fk_top.proofs.Lost.{no_more, moved, few_input}
use Rattle.fk_top.proofs.Replayed.{answered_as, replay_as}
use Rattle.fk_top.proofs.Readable.{whole, variable_there, text_accepted, image_accepted, image_short, elf_accepted, elf_short}

-- ---- the read

-- what is read of all the bytes of an origin
abbrev pub cut_to : Origin → List ℕ → List ℕ
cut_to (FirstOf file most) bytes = take most bytes
cut_to (Generated statements) bytes = bytes
cut_to Nowhere bytes = bytes

read-held : (known : Option Files) (name bytes read : List ℕ) (most : ℕ) → IsHeld known name bytes → AppendsFile known name most [] read → read ≡ take most bytes
read-held known name bytes read most held appended =
    let a = subst (λ (k : Option Files). AppendsFile k name most [] read) held.told appended in
    subst (λ (o : Option (List ℕ)). IsSomeAnd o (λ b. read ≡ take most b)) held.held a

read-there : (known : Option Files) (origin : Origin) (bytes read : List ℕ) → AreThere known origin bytes → AreRead known origin read → read ≡ cut_to origin bytes
read-there known (FirstOf file most) bytes read there is = read-held known file bytes read most there is.0
read-there known (Generated statements) bytes read there is = is ∙ sym there
read-there known Nowhere bytes read there is = is ∙ sym there

not_lacked : (known : Option Files) (name bytes : List ℕ) → IsHeld known name bytes → LacksFile known name → ⊥
not_lacked known name bytes held lacks =
    let a = subst (λ (k : Option Files). LacksFile k name) held.told lacks in
    let b : Some bytes ≡ None = sym held.held ∙ a in
    absurd (cc)

no_fault : (known : Option Files) (origin : Origin) (bytes : List ℕ) (faults : Change ℕ) → AreThere known origin bytes → ¬ Rose faults → OriginFaults known origin faults → ⊥
no_fault known (FirstOf file most) bytes faults there steady (inl rose) = steady rose
no_fault known (FirstOf file most) bytes faults there steady (inr lacks) = not_lacked known file bytes there lacks.0
no_fault known (Generated statements) bytes faults there steady none = none
no_fault known Nowhere bytes faults there steady none = none

not_unread : (call : Call) (command : Command) (bytes trace text : List ℕ) → IsInOrder call command bytes trace text → IsUnread call.request → ⊥
not_unread call command bytes trace text order unread = go (one_command _ _ _ unread.reads order.reads) unread.cause
  where
    go : unread.command ≡ command → IsFileUnread call.request unread.command ⊎ IsInputUnread call.request unread.command → ⊥
    go same (inl file) = elim file.fault [
      | inl lost ↦
          no_fault call.request.files (origin_of command) bytes call.request.faults order.there order.fetch_steady
          (subst (λ (c : Command). OriginFaults call.request.files (origin_of c) call.request.faults) same lost)
      | inr lost ↦
          no_fault call.request.files (trace_origin_of command) trace call.request.faults order.trace_there order.fetch_steady
          (subst (λ (c : Command). OriginFaults call.request.files (trace_origin_of c) call.request.faults) same lost)
    ]
    go same (inr input) = order.input_steady (subst TakesInput same input.takes) input.rose

-- the text that a command takes of what is left of the input
abbrev pub taken : Command → List ℕ → List ℕ
taken (Run f p n s) text = take 1048577 text
taken (Build f i) text = []
taken (Exec f p n) text = take 1048577 text
taken (ListCode f) text = []
taken (Elf i f) text = []
taken (Unelf f i) text = []
taken (Audit f p n) text = take 1048577 text
taken (Trace f p n) text = take 1048577 text
taken (Replay f t) text = take 1048577 text
taken (Selftest k) text = []
taken Locks text = []

no_bytes : (bytes : List ℕ) → length bytes ≤ 0 → bytes ≡ []
no_bytes [] le = refl
no_bytes (b ∷ bytes) le = absurd (omega arith)

first_of_told : (left now : Option (List ℕ)) (text got : List ℕ) (most : ℕ) → left ≡ Some text → MovesFirst most left now [] got → got ≡ take most text
first_of_told left now text got most told moves =
    moves.appended ∙ subst (λ (k : Option (List ℕ)). IfSome k (λ l. moves.bytes ≡ take most l)) told moves.first

taken_is : (request : Request) (command : Command) (text got : List ℕ) → (TakesInput command → request.input.left.before ≡ Some text) → MovesFirst (most_input command) request.input.left.before request.input.left.after [] got → got ≡ taken command text
taken_is request (Run f p n s) text got told moves = first_of_told _ _ text got 1048577 (told tt) moves
taken_is request (Build f i) text got told moves = moves.appended ∙ no_bytes moves.bytes moves.few
taken_is request (Exec f p n) text got told moves = first_of_told _ _ text got 1048577 (told tt) moves
taken_is request (ListCode f) text got told moves = moves.appended ∙ no_bytes moves.bytes moves.few
taken_is request (Elf i f) text got told moves = moves.appended ∙ no_bytes moves.bytes moves.few
taken_is request (Unelf f i) text got told moves = moves.appended ∙ no_bytes moves.bytes moves.few
taken_is request (Audit f p n) text got told moves = first_of_told _ _ text got 1048577 (told tt) moves
taken_is request (Trace f p n) text got told moves = first_of_told _ _ text got 1048577 (told tt) moves
taken_is request (Replay f t) text got told moves = first_of_told _ _ text got 1048577 (told tt) moves
taken_is request (Selftest k) text got told moves = moves.appended ∙ no_bytes moves.bytes moves.few
taken_is request Locks text got told moves = moves.appended ∙ no_bytes moves.bytes moves.few

-- what a command comes to over what it reads of these bytes and of the input
abbrev pub ComesToFirst : Command → (bytes trace text : List ℕ) → Outcome → Type 0
ComesToFirst command bytes trace text outcome =
    ComesTo command (cut_to (origin_of command) bytes) (cut_to (trace_origin_of command) trace) (taken command text) outcome

come : (call : Call) (command : Command) (bytes trace text : List ℕ) (outcome : Outcome) → IsInOrder call command bytes trace text → Ends call.request outcome → ComesToFirst command bytes trace text outcome
come call command bytes trace text outcome order (inl none) = absurd (none.0 command order.reads)
come call command bytes trace text outcome order (inr (inl unread)) = absurd (not_unread call command bytes trace text order unread.0)
come call command bytes trace text outcome order (inr (inr read)) =
    let same = one_command _ _ _ read.reads order.reads in
    let first = subst (λ (c : Command). AreRead call.request.files (origin_of c) read.bytes) same read.are_read in
    let moves = subst (λ (c : Command). MovesFirst (most_input c) call.request.input.left.before call.request.input.left.after [] read.text) same read.first_input in
    let is = read-there call.request.files (origin_of command) bytes read.bytes order.there first in
    let input = taken_is call.request command text read.text order.left moves in
    let beside = subst (λ (c : Command). AreRead call.request.files (trace_origin_of c) read.trace) same read.trace_is_read in
    let trace_is = read-there call.request.files (trace_origin_of command) trace read.trace order.trace_there beside in
    subst (λ (t : List ℕ). ComesTo command (cut_to (origin_of command) bytes) (cut_to (trace_origin_of command) trace) t outcome) input
    (subst (λ (t : List ℕ). ComesTo command (cut_to (origin_of command) bytes) t read.text outcome) trace_is
    (subst (λ (b : List ℕ). ComesTo command b read.trace read.text outcome) is (subst (λ (c : Command). ComesTo c read.bytes read.trace read.text outcome) same read.comes_to)))

-- ---- the writes

nothing_put : (outcome other : Outcome) → outcome ≡ other → other.put ≡ None → IsSome outcome.put → ⊥
nothing_put outcome other is none some = let e = ap (λ (o : Outcome). o.put) is ∙ none in cc

-- only some commands put
no_put_run : (image : Image) (text : List ℕ) (p n : ℕ) (writing : Writing) (outcome : Outcome) → EndsOn image text p n writing outcome → IsSome outcome.put → ⊥
no_put_run image text p n writing outcome (inl r) some = nothing_put outcome _ r.is refl some
no_put_run image text p n writing outcome (inr r) some = nothing_put outcome _ r.is refl some

no_put_audit : (image : Image) (text : List ℕ) (p n : ℕ) (outcome : Outcome) → EndsAudit image text p n outcome → IsSome outcome.put → ⊥
no_put_audit image text p n outcome (inl r) some = nothing_put outcome _ r.is refl some
no_put_audit image text p n outcome (inr r) some = nothing_put outcome _ r.is refl some

put_by : (command : Command) (bytes trace text : List ℕ) (outcome : Outcome) → ComesTo command bytes trace text outcome → IsSome outcome.put → Puts command
put_by (Run f p n s) bytes trace text outcome (inl r) some = nothing_put outcome _ r.is refl some
put_by (Run f p n s) bytes trace text outcome (inr (inl r)) some = nothing_put outcome _ r.is refl some
put_by (Run f p n s) bytes trace text outcome (inr (inr r)) some = no_put_run r.image text p n (Prints r.shown) outcome r.ends some
put_by (Build f i) bytes trace text outcome comes some = tt
put_by (Exec f p n) bytes trace text outcome (inl r) some = nothing_put outcome _ r.is refl some
put_by (Exec f p n) bytes trace text outcome (inr r) some = no_put_run r.image text p n (Prints None) outcome r.ends some
put_by (ListCode f) bytes trace text outcome (inl r) some = nothing_put outcome _ r.is refl some
put_by (ListCode f) bytes trace text outcome (inr r) some = nothing_put outcome _ r.is refl some
put_by (Elf i f) bytes trace text outcome comes some = tt
put_by (Unelf f i) bytes trace text outcome comes some = tt
put_by (Audit f p n) bytes trace text outcome (inl r) some = nothing_put outcome _ r.is refl some
put_by (Audit f p n) bytes trace text outcome (inr r) some = no_put_audit r.image text p n outcome r.ends some
put_by (Trace f p n) bytes trace text outcome (inl r) some = nothing_put outcome _ r.is refl some
put_by (Trace f p n) bytes trace text outcome (inr r) some = no_put_run r.image text p n Traces outcome r.ends some
put_by (Replay f t) bytes trace text outcome (inl r) some = nothing_put outcome _ r.is refl some
put_by (Replay f t) bytes trace text outcome (inr r) some =
    absurd (replay_as r.program r.facts trace text outcome (λ (o : Outcome). IsSome o.put → ⊥) (λ sites run cycles is. cc) (λ line is. cc) (λ line is. cc) r.ends some)
put_by (Selftest k) bytes trace text outcome (inl r) some = nothing_put outcome _ r.is refl some
put_by (Selftest k) bytes trace text outcome (inr (inl r)) some = nothing_put outcome _ r.is refl some
put_by (Selftest k) bytes trace text outcome (inr (inr r)) some = no_put_run r.image [] test_harts test_cycles (Prints r.shown) outcome r.ends some
put_by Locks bytes trace text outcome is some = nothing_put outcome _ is refl some

-- the words of a call that puts are those of one
pub puts_by : (request : Request) (outcome : Outcome) → Ends request outcome → IsSome outcome.put → IsPut request.words
puts_by request outcome (inl none) some = absurd (nothing_put outcome _ none.1 refl some)
puts_by request outcome (inr (inl unread)) some = absurd (nothing_put outcome _ unread.1 refl some)
puts_by request outcome (inr (inr read)) some = (read.command, read.reads, put_by read.command read.bytes read.trace read.text outcome read.comes_to some)

-- nor has it taken more of the input than one may
pub put_takes : (request : Request) (outcome : Outcome) → Ends request outcome → IsSome outcome.put → GivesAtMost 1048577 request.input.left.before request.input.left.after
put_takes request outcome (inl none) some = absurd (nothing_put outcome _ none.1 refl some)
put_takes request outcome (inr (inl unread)) some = absurd (nothing_put outcome _ unread.1 refl some)
put_takes request outcome (inr (inr read)) some =
    no_more (most_input read.command) 1048577 _ _ (few_input read.command) (moved (most_input read.command) _ _ [] read.text read.first_input)

not_cut : (call : Call) (command : Command) (bytes trace text : List ℕ) → IsInOrder call command bytes trace text → IsCut call → ⊥
not_cut call command bytes trace text order cut = go cut.cut
  where
    puts : IsSome cut.outcome.put → Puts command
    puts some = put_by command _ _ _ cut.outcome (come call command bytes trace text cut.outcome order cut.cause) some

    go : AreCut call.store call.out call.err cut.outcome → ⊥
    go (inl f) = order.put_steady (puts f.0.some) f.0.rose
    go (inr (inl f)) = order.out_steady f.1.rose
    go (inr (inr f)) = order.err_steady f.2.rose

-- ---- the answers

-- a write fault, want of memory, or an answer that an outcome has
abbrev pub ByAnswer : Call → Status → Type 0
ByAnswer call status = ((status ≡ WriteFault) × IsCut call) ⊎ ((status ≡ Memory) × IsOutOfMemory call) ⊎ HasEnded call status

pub by_answer : (call : Call) (status : Status) → HasCause call status → ByAnswer call status
by_answer call WriteFault cause = inl (refl, cause)
by_answer call Memory cause = inr (inl (refl, cause))
by_answer call Done cause = inr (inr cause)
by_answer call Refused cause = inr (inr cause)
by_answer call Usage cause = inr (inr cause)
by_answer call ReadFault cause = inr (inr cause)
by_answer call SourceFault cause = inr (inr cause)
by_answer call CycleBound cause = inr (inr cause)
by_answer call Trap cause = inr (inr cause)
by_answer call ImageRefused cause = inr (inr cause)
by_answer call InputRefused cause = inr (inr cause)
by_answer call TraceRefused cause = inr (inr cause)
by_answer call ElfRefused cause = inr (inr cause)

-- an answer where no fault rose
abbrev pub IsAnswered : Command → (bytes trace text : List ℕ) → Status → Type 0
IsAnswered command bytes trace text status = (status ≡ Memory) ⊎ ((outcome : Outcome) × (outcome.status ≡ status) × ComesToFirst command bytes trace text outcome)

answers : (call : Call) (status : Status) (command : Command) (bytes trace text : List ℕ) → IsInOrder call command bytes trace text → HasCause call status → IsAnswered command bytes trace text status
answers call status command bytes trace text order cause = go (by_answer call status cause)
  where
    go : ByAnswer call status → IsAnswered command bytes trace text status
    go (inl cut) = absurd (not_cut call command bytes trace text order cut.1)
    go (inr (inl memory)) = inl memory.0
    go (inr (inr ended)) = inr (ended.outcome, ended.status_is, come call command bytes trace text ended.outcome order ended.cause)

-- the status of an outcome
status-of : (outcome other : Outcome) (status : Status) → outcome ≡ other → outcome.status ≡ status → status ≡ other.status
status-of outcome other status is same = sym same ∙ ap (λ (o : Outcome). o.status) is

-- ---- the file

-- a source that is a text was read whole, and so was one that was built
read_text : (source : List ℕ) → IsText source → take 1048577 source ≡ source
read_text source text = let short = text.short in take_all 1048577 source (omega arith)

read_short : (source : List ℕ) → length (take 1048577 source) ≤ 1048576 → take 1048577 source ≡ source
read_short source short = whole 1048577 source (omega arith)

text_built : (source : List ℕ) (image : Image) → IsFaithful source image → IsText source
text_built source image b = record { short = b.short; laid = record { tree = b.program; facts = b.facts; checked = b.checked; fits = b.fits } }

read_built : (source : List ℕ) (image : Image) → IsFaithful (take 1048577 source) image → IsText source
read_built source image b = subst IsText (read_short source b.short) (text_built (take 1048577 source) image b)

read_image : (bytes : List ℕ) (image : Image) → IsImageOf bytes image → take 5434905 bytes ≡ bytes
read_image bytes image is = let short = image_short bytes image is in take_all 5434905 bytes (omega arith)

read_whole : (bytes : List ℕ) (image : Image) → IsImageOf (take 5434905 bytes) image → take 5434905 bytes ≡ bytes
read_whole bytes image is = let short = image_short (take 5434905 bytes) image is in whole 5434905 bytes (omega arith)

image_read : (bytes : List ℕ) (image : Image) → IsImageOf (take 5434905 bytes) image → IsImage bytes
image_read bytes image is = (image, subst (λ (b : List ℕ). IsImageOf b image) (read_whole bytes image is) is)

read_file : (bytes : List ℕ) (image : Image) → IsElfOf bytes image → take 5435037 bytes ≡ bytes
read_file bytes image is = let short = elf_short bytes image is in take_all 5435037 bytes (omega arith)

file_read : (bytes : List ℕ) (image : Image) → IsElfOf (take 5435037 bytes) image → IsElf bytes
file_read bytes image is =
    let short = elf_short (take 5435037 bytes) image is in
    (image, subst (λ (b : List ℕ). IsElfOf b image) (whole 5435037 bytes (omega arith)) is)

-- what is in order is not refused
not_refused : (source : List ℕ) (outcome : Outcome) → IsText source → RefusesSource (take 1048577 source) outcome → ⊥
not_refused source outcome text r =
    text_accepted source r.line text (subst (λ (s : List ℕ). IsRefusedBy s r.line) (read_text source text) r.refused)

not_image_refused : (bytes : List ℕ) (outcome : Outcome) → IsImage bytes → RefusesImage (take 5434905 bytes) outcome → ⊥
not_image_refused bytes outcome image r =
    image_accepted bytes r.report image (subst (λ (b : List ℕ). IsNoImageAs b r.report) (read_image bytes image.0 image.1) r.refused)

not_elf_refused : (bytes : List ℕ) (outcome : Outcome) → IsElf bytes → RefusesElf (take 5435037 bytes) outcome → ⊥
not_elf_refused bytes outcome file r =
    elf_accepted bytes r.report file (subst (λ (b : List ℕ). IsNoElfAs b r.report) (read_file bytes file.0 file.1) r.refused)

asked_there : (source : List ℕ) (show : Option Text) (shown : Option Row) (name : Text) → IsShown source show shown → show ≡ Some name → HasGlobal source name None → ⊥
asked_there source None shown name is e none = absurd (cc)
asked_there source (Some other) None name is e none = absurd is
asked_there source (Some other) (Some row) name is e none =
    let same : other ≡ name = cc in
    variable_there source name row none (subst (λ (n : Text). HasGlobal source n (Some row)) same is)

not_lacking : (source : List ℕ) (show : Option Text) (outcome : Outcome) (shown : Option Row) → IsText source → IsShown source show shown → LacksGlobal (take 1048577 source) show outcome → ⊥
not_lacking source show outcome shown text is r =
    asked_there source show shown r.name is r.asked (subst (λ (s : List ℕ). HasGlobal s r.name None) (read_text source text) r.none)

-- ---- the input

-- a text that is too long is told by one byte more
input_of_taken : (limit : ℕ) (text : List ℕ) → input_of limit (take 1048577 text) ≡ input_of limit text
input_of_taken limit text = by (nat_lt 1048576 (length text)) refl
  where
    by : (b : Bool) → nat_lt 1048576 (length text) ≡ b → input_of limit (take 1048577 text) ≡ input_of limit text
    by true long =
        let many = ltb-true 1048576 (length text) long in
        let cut = lt-ltb 1048576 (length (take 1048577 text)) (omega (arith, length-take 1048577 text)) in
        rw (cut, long) refl
    by false short = ap (input_of limit) (take_all 1048577 text (let few = ltb-false 1048576 (length text) short in omega arith))

-- an image has so many globals as the shared variables of its text have words
globals_of : (source : List ℕ) (image : Image) (program : ProgramTree) (facts : Facts) → IsFaithful source image → IsChecked source program facts
    → vec_len image.globals ≡ length (words_by program facts)
globals_of source image program facts faithful checked =
    let same = one_words source faithful.program program faithful.facts facts faithful.checked checked in
    omega (arith, image.globals.ok.0, ap length faithful.faithful.globals_are, ap length same)

beside : (globals other : ℕ) (text numbers : List ℕ) → globals ≡ other → input_of (most_numbers globals) (take 1048577 text) ≡ Ok numbers → IsInputBeside other text
beside globals other text numbers same is = subst (λ (g : ℕ). IsInputBeside g text) same (numbers, sym (input_of_taken (most_numbers globals) text) ∙ is)

not_beside : (globals other : ℕ) (text : List ℕ) (fault : InputFault) → globals ≡ other → input_of (most_numbers globals) (take 1048577 text) ≡ Err fault → IsInputBeside other text → ⊥
not_beside globals other text fault same refused accepted =
    let here = subst (λ (g : ℕ). IsInputBeside g text) (sym same) accepted in
    let both : Ok here.0 ≡ Err fault = sym here.1 ∙ sym (input_of_taken (most_numbers globals) text) ∙ refused in
    absurd (cc)

same_count : (a b : Image) → a.globals.items ≡ b.globals.items → vec_len a.globals ≡ vec_len b.globals
same_count a b same = omega (arith, a.globals.ok.0, b.globals.ok.0, ap length same)

-- bytes are those of one image
same_image : (bytes : List ℕ) (a b : Image) → IsImageOf bytes a → IsImageOf bytes b → a.globals.items ≡ b.globals.items
same_image bytes a b is other = (one_image bytes a b is other).globals

-- ---- what is in order

-- what comes of an image and an input that is in order beside its globals
accepted_run : (image : Image) (text : List ℕ) (p n globals : ℕ) (writing : Writing) (outcome : Outcome) (status : Status) → vec_len image.globals ≡ globals
    → IsInputBeside globals text → outcome.status ≡ status → EndsOn image (take 1048577 text) p n writing outcome → IsOfStand image text p n status
accepted_run image text p n globals writing outcome status count input same (inl r) =
    absurd (not_beside (vec_len image.globals) globals text r.fault count r.refused input)
accepted_run image text p n globals writing outcome status count input same (inr r) =
    (r.input, sym (input_of_taken (most_numbers (vec_len image.globals)) text) ∙ r.numbers, status-of outcome _ status r.is same)

accepted_audit : (image : Image) (text : List ℕ) (p n globals : ℕ) (outcome : Outcome) (status : Status) → vec_len image.globals ≡ globals
    → IsInputBeside globals text → outcome.status ≡ status → EndsAudit image (take 1048577 text) p n outcome → IsOfStand image text p n status
accepted_audit image text p n globals outcome status count input same (inl r) =
    absurd (not_beside (vec_len image.globals) globals text r.fault count r.refused input)
accepted_audit image text p n globals outcome status count input same (inr r) =
    (r.input, sym (input_of_taken (most_numbers (vec_len image.globals)) text) ∙ r.numbers, status-of outcome _ status r.is same)

-- a run without numbers
accepted_alone : (image : Image) (p n : ℕ) (writing : Writing) (outcome : Outcome) (status : Status) → outcome.status ≡ status → EndsOn image [] p n writing outcome → IsOfStand image [] p n status
accepted_alone image p n writing outcome status same (inl r) = absurd (none_refused image r.fault r.refused)
accepted_alone image p n writing outcome status same (inr r) = (r.input, r.numbers, status-of outcome _ status r.is same)

-- no line of a trace text is bad
not_bad : (trace : List ℕ) (line : ℕ) → IsTraceText trace → IsBadLine IsTraceText line trace → ⊥
not_bad trace line traced bad = bad.here (record { other = trace; form = traced; same = refl })

-- the status of an answer that refuses a trace
refusing_status : (fault : ReplayFault) (report : Report) (status : Status) → trace_report_of fault ≡ Some report → TraceRefused ≡ status → IsOfAnswer (Err fault) status
refusing_status (faults.BadTrace line) report status says is = sym is
refusing_status (faults.NotPossible round) report status says is = sym is
refusing_status (faults.Pace round processor) report status says is = sym is
refusing_status faults.Memory report status says is = absurd (cc)

-- what comes of a program, a trace and an input that are in order
accepted_replay : (source trace text : List ℕ) (program : ProgramTree) (facts : Facts) → IsChecked source program facts → (outcome : Outcome) (status : Status) → IsTraceText (take most_trace_bytes trace) → IsInputOfText source text
    → outcome.status ≡ status → EndsReplay program facts (take most_trace_bytes trace) (take 1048577 text) outcome → IsOfReplay source trace text status
accepted_replay source trace text program facts checked outcome status traced input same (inl bad) = absurd (not_bad (take most_trace_bytes trace) bad.line traced bad.bad)
accepted_replay source trace text program facts checked outcome status traced input same (inr r) = elim r.ends [
  | inl refuses ↦
      let count = ap length (one_words source program input.0 facts input.1 checked input.2) in
      absurd (not_beside (length (words_by program facts)) (length (words_by input.0 input.1)) text refuses.fault count refuses.refused input.3)
  | inr runs ↦ record {
    program = program;
    facts = facts;
    checked = checked;
    harts = r.harts;
    cycles = r.cycles;
    lines = r.lines;
    told = r.told;
    input = runs.input;
    numbers = sym (input_of_taken (most_numbers (length (words_by program facts))) text) ∙ runs.numbers;
    answer = runs.answer;
    is_answer = runs.is_answer;
    status_is = answered_as (sites_by program facts) runs.answer r.cycles outcome (λ (o : Outcome). o.status ≡ status → IsOfAnswer runs.answer status)
        (λ run is e. subst (λ (a : Result Replayed ReplayFault). IsOfAnswer a status) (sym is) (sym e)) (λ fault report is says e. subst (λ (a : Result Replayed ReplayFault). IsOfAnswer a status) (sym is) (refusing_status fault report status says e)) runs.is same;
  }
]

accepted_ends : (command : Command) (bytes trace text : List ℕ) (outcome : Outcome) (status : Status) → IsReadable command bytes → IsTraced command trace → IsAccepted command bytes text → outcome.status ≡ status → ComesToFirst command bytes trace text outcome → IsOfAccepted command bytes trace text status
accepted_ends (Run f p n s) source trace text outcome status is traced input same (inl r) = absurd (not_refused source outcome is.0 r)
accepted_ends (Run f p n s) source trace text outcome status is traced input same (inr (inl r)) = absurd (not_lacking source s outcome is.1 is.0 is.2 r)
accepted_ends (Run f p n s) source trace text outcome status is traced input same (inr (inr r)) =
    let built = subst (λ (b : List ℕ). IsFaithful b r.image) (read_text source is.0) r.compiled in
    let count = globals_of source r.image input.0 input.1 built input.2 in
    inr (r.image, built, accepted_run r.image text p n (length (words_by input.0 input.1)) (Prints r.shown) outcome status count input.3 same r.ends)
accepted_ends (Build f i) source trace text outcome status is traced input same (inl r) = absurd (not_refused source outcome is r)
accepted_ends (Build f i) source trace text outcome status is traced input same (inr r) = inr (status-of outcome _ status r.is same)
accepted_ends (Exec f p n) bytes trace text outcome status is traced input same (inl r) = absurd (not_image_refused bytes outcome is r)
accepted_ends (Exec f p n) bytes trace text outcome status is traced input same (inr r) =
    let spelled = subst (λ (b : List ℕ). IsImageOf b r.image) (read_image bytes is.0 is.1) r.spelled in
    let count = same_count r.image input.0 (same_image bytes r.image input.0 spelled input.1) in
    inr (r.image, spelled, accepted_run r.image text p n (vec_len input.0.globals) (Prints None) outcome status count input.2 same r.ends)
accepted_ends (ListCode f) bytes trace text outcome status is traced input same (inl r) = absurd (not_image_refused bytes outcome is r)
accepted_ends (ListCode f) bytes trace text outcome status is traced input same (inr r) = inr (status-of outcome _ status r.is same)
accepted_ends (Elf i f) bytes trace text outcome status is traced input same (inl r) = absurd (not_image_refused bytes outcome is r)
accepted_ends (Elf i f) bytes trace text outcome status is traced input same (inr r) = inr (status-of outcome _ status r.is same)
accepted_ends (Unelf f i) bytes trace text outcome status is traced input same (inl r) = absurd (not_elf_refused bytes outcome is r)
accepted_ends (Unelf f i) bytes trace text outcome status is traced input same (inr r) = inr (status-of outcome _ status r.is same)
accepted_ends (Audit f p n) source trace text outcome status is traced input same (inl r) = absurd (not_refused source outcome is r)
accepted_ends (Audit f p n) source trace text outcome status is traced input same (inr r) =
    let built = subst (λ (b : List ℕ). IsFaithful b r.image) (read_text source is) r.compiled in
    let count = globals_of source r.image input.0 input.1 built input.2 in
    inr (r.image, built, accepted_audit r.image text p n (length (words_by input.0 input.1)) outcome status count input.3 same r.ends)
accepted_ends (Trace f p n) source trace text outcome status is traced input same (inl r) = absurd (not_refused source outcome is r)
accepted_ends (Trace f p n) source trace text outcome status is traced input same (inr r) =
    let built = subst (λ (b : List ℕ). IsFaithful b r.image) (read_text source is) r.compiled in
    let count = globals_of source r.image input.0 input.1 built input.2 in
    inr (r.image, built, accepted_run r.image text p n (length (words_by input.0 input.1)) Traces outcome status count input.3 same r.ends)
accepted_ends (Replay f t) source trace text outcome status is traced input same (inl r) = absurd (not_refused source outcome is r)
accepted_ends (Replay f t) source trace text outcome status is traced input same (inr r) =
    let checked = subst (λ (b : List ℕ). IsChecked b r.program r.facts) (read_text source is) r.checked in
    inr (accepted_replay source trace text r.program r.facts checked outcome status traced input same r.ends)
accepted_ends (Selftest k) source trace text outcome status is traced input same (inl r) = absurd (text_accepted source r.line is.0 r.refused)
accepted_ends (Selftest k) source trace text outcome status is traced input same (inr (inl r)) = absurd (asked_there source test_shown is.1 r.name is.2 r.asked r.none)
accepted_ends (Selftest k) source trace text outcome status is traced input same (inr (inr r)) =
    inr (r.image, r.compiled, accepted_alone r.image test_harts test_cycles (Prints r.shown) outcome status same r.ends)
accepted_ends Locks bytes trace text outcome status is traced input same comes = inr (status-of outcome _ status comes same)

-- where what is read isn't
unreadable_ends : (command : Command) (bytes trace text : List ℕ) (outcome : Outcome) (status : Status) → ¬ IsReadable command bytes → outcome.status ≡ status → ComesToFirst command bytes trace text outcome → IsOfUnreadable command status
unreadable_ends (Run f p n s) source trace text outcome status none same (inl r) = inr (status-of outcome _ status r.is same)
unreadable_ends (Run f p n s) source trace text outcome status none same (inr (inl r)) = inr (status-of outcome _ status r.is same)
unreadable_ends (Run f p n s) source trace text outcome status none same (inr (inr r)) =
    absurd (none (read_built source r.image r.compiled, r.shown, subst (λ (b : List ℕ). IsShown b s r.shown) (read_short source r.compiled.short) r.is_shown))
unreadable_ends (Build f i) source trace text outcome status none same (inl r) = inr (status-of outcome _ status r.is same)
unreadable_ends (Build f i) source trace text outcome status none same (inr r) = absurd (none (read_built source r.image r.compiled))
unreadable_ends (Exec f p n) bytes trace text outcome status none same (inl r) = inr (status-of outcome _ status r.is same)
unreadable_ends (Exec f p n) bytes trace text outcome status none same (inr r) = absurd (none (image_read bytes r.image r.spelled))
unreadable_ends (ListCode f) bytes trace text outcome status none same (inl r) = inr (status-of outcome _ status r.is same)
unreadable_ends (ListCode f) bytes trace text outcome status none same (inr r) = absurd (none (image_read bytes r.image r.spelled))
unreadable_ends (Elf i f) bytes trace text outcome status none same (inl r) = inr (status-of outcome _ status r.is same)
unreadable_ends (Elf i f) bytes trace text outcome status none same (inr r) = absurd (none (image_read bytes r.image r.spelled))
unreadable_ends (Unelf f i) bytes trace text outcome status none same (inl r) = inr (status-of outcome _ status r.is same)
unreadable_ends (Unelf f i) bytes trace text outcome status none same (inr r) = absurd (none (file_read bytes r.image r.made))
unreadable_ends (Audit f p n) source trace text outcome status none same (inl r) = inr (status-of outcome _ status r.is same)
unreadable_ends (Audit f p n) source trace text outcome status none same (inr r) = absurd (none (read_built source r.image r.compiled))
unreadable_ends (Trace f p n) source trace text outcome status none same (inl r) = inr (status-of outcome _ status r.is same)
unreadable_ends (Trace f p n) source trace text outcome status none same (inr r) = absurd (none (read_built source r.image r.compiled))
unreadable_ends (Replay f t) source trace text outcome status none same (inl r) = inr (status-of outcome _ status r.is same)
unreadable_ends (Replay f t) source trace text outcome status none same (inr r) =
    absurd (none (subst IsText (read_short source r.short) (record { short = r.short; laid = record { tree = r.program; facts = r.facts; checked = r.checked; fits = r.fits } })))
unreadable_ends (Selftest k) source trace text outcome status none same (inl r) = inr (status-of outcome _ status r.is same)
unreadable_ends (Selftest k) source trace text outcome status none same (inr (inl r)) = inr (status-of outcome _ status r.is same)
unreadable_ends (Selftest k) source trace text outcome status none same (inr (inr r)) = absurd (none (text_built source r.image r.compiled, r.shown, r.is_shown))
unreadable_ends Locks bytes trace text outcome status none same comes = absurd (none tt)

-- where the trace isn't
untraced_ends : (command : Command) (bytes trace text : List ℕ) (outcome : Outcome) (status : Status) → IsReadable command bytes → ¬ IsTraced command trace → outcome.status ≡ status → ComesToFirst command bytes trace text outcome → IsOfUntraced status
untraced_ends (Run f p n s) source trace text outcome status is none same comes = absurd (none tt)
untraced_ends (Build f i) source trace text outcome status is none same comes = absurd (none tt)
untraced_ends (Exec f p n) bytes trace text outcome status is none same comes = absurd (none tt)
untraced_ends (ListCode f) bytes trace text outcome status is none same comes = absurd (none tt)
untraced_ends (Elf i f) bytes trace text outcome status is none same comes = absurd (none tt)
untraced_ends (Unelf f i) bytes trace text outcome status is none same comes = absurd (none tt)
untraced_ends (Audit f p n) source trace text outcome status is none same comes = absurd (none tt)
untraced_ends (Trace f p n) source trace text outcome status is none same comes = absurd (none tt)
untraced_ends (Replay f t) source trace text outcome status is none same (inl r) = absurd (not_refused source outcome is r)
untraced_ends (Replay f t) source trace text outcome status is none same (inr r) = elim r.ends [
  | inl bad ↦ inr (status-of outcome _ status bad.is same)
  | inr q ↦ absurd (none (record { harts = q.harts; last = q.cycles; lines = q.lines; is = q.told }))
]
untraced_ends (Selftest k) source trace text outcome status is none same comes = absurd (none tt)
untraced_ends Locks bytes trace text outcome status is none same comes = absurd (none tt)

-- and where the input isn't
unaccepted_ends : (command : Command) (bytes trace text : List ℕ) (outcome : Outcome) (status : Status) → IsReadable command bytes → IsTraced command trace → ¬ IsAccepted command bytes text → outcome.status ≡ status → ComesToFirst command bytes trace text outcome → IsOfUnaccepted status
unaccepted_ends (Run f p n s) source trace text outcome status is traced none same (inl r) = absurd (not_refused source outcome is.0 r)
unaccepted_ends (Run f p n s) source trace text outcome status is traced none same (inr (inl r)) = absurd (not_lacking source s outcome is.1 is.0 is.2 r)
unaccepted_ends (Run f p n s) source trace text outcome status is traced none same (inr (inr r)) = by r.ends
  where
    faithful : IsFaithful source r.image
    faithful = subst (λ (b : List ℕ). IsFaithful b r.image) (read_text source is.0) r.compiled

    by : EndsOn r.image (take 1048577 text) p n (Prints r.shown) outcome → IsOfUnaccepted status
    by (inl refuses) = inr (status-of outcome _ status refuses.is same)
    by (inr runs) =
        let count = globals_of source r.image faithful.program faithful.facts faithful faithful.checked in
        absurd (none (faithful.program, faithful.facts, faithful.checked, beside (vec_len r.image.globals) _ text runs.input count runs.numbers))
unaccepted_ends (Build f i) source trace text outcome status is traced none same comes = absurd (none tt)
unaccepted_ends (Exec f p n) bytes trace text outcome status is traced none same (inl r) = absurd (not_image_refused bytes outcome is r)
unaccepted_ends (Exec f p n) bytes trace text outcome status is traced none same (inr r) = by r.ends
  where
    by : EndsOn r.image (take 1048577 text) p n (Prints None) outcome → IsOfUnaccepted status
    by (inl refuses) = inr (status-of outcome _ status refuses.is same)
    by (inr runs) =
        let spelled = subst (λ (b : List ℕ). IsImageOf b r.image) (read_image bytes is.0 is.1) r.spelled in
        absurd (none (r.image, spelled, beside (vec_len r.image.globals) _ text runs.input refl runs.numbers))
unaccepted_ends (ListCode f) bytes trace text outcome status is traced none same comes = absurd (none tt)
unaccepted_ends (Elf i f) bytes trace text outcome status is traced none same comes = absurd (none tt)
unaccepted_ends (Unelf f i) bytes trace text outcome status is traced none same comes = absurd (none tt)
unaccepted_ends (Audit f p n) source trace text outcome status is traced none same (inl r) = absurd (not_refused source outcome is r)
unaccepted_ends (Audit f p n) source trace text outcome status is traced none same (inr r) = by r.ends
  where
    faithful : IsFaithful source r.image
    faithful = subst (λ (b : List ℕ). IsFaithful b r.image) (read_text source is) r.compiled

    by : EndsAudit r.image (take 1048577 text) p n outcome → IsOfUnaccepted status
    by (inl refuses) = inr (status-of outcome _ status refuses.is same)
    by (inr runs) =
        let count = globals_of source r.image faithful.program faithful.facts faithful faithful.checked in
        absurd (none (faithful.program, faithful.facts, faithful.checked, beside (vec_len r.image.globals) _ text runs.input count runs.numbers))
unaccepted_ends (Trace f p n) source trace text outcome status is traced none same (inl r) = absurd (not_refused source outcome is r)
unaccepted_ends (Trace f p n) source trace text outcome status is traced none same (inr r) = by r.ends
  where
    faithful : IsFaithful source r.image
    faithful = subst (λ (b : List ℕ). IsFaithful b r.image) (read_text source is) r.compiled

    by : EndsOn r.image (take 1048577 text) p n Traces outcome → IsOfUnaccepted status
    by (inl refuses) = inr (status-of outcome _ status refuses.is same)
    by (inr runs) =
        let count = globals_of source r.image faithful.program faithful.facts faithful faithful.checked in
        absurd (none (faithful.program, faithful.facts, faithful.checked, beside (vec_len r.image.globals) _ text runs.input count runs.numbers))
unaccepted_ends (Replay f t) source trace text outcome status is traced none same (inl r) = absurd (not_refused source outcome is r)
unaccepted_ends (Replay f t) source trace text outcome status is traced none same (inr r) = by r.ends
  where
    checked : IsChecked source r.program r.facts
    checked = subst (λ (b : List ℕ). IsChecked b r.program r.facts) (read_text source is) r.checked

    ends : ReplaysTrace r.program r.facts (take most_trace_bytes trace) (take 1048577 text) outcome → IsOfUnaccepted status
    ends q = elim q.ends [
      | inl refuses ↦ inr (status-of outcome _ status refuses.is same)
      | inr runs ↦ absurd (none (r.program, r.facts, checked, beside (length (words_by r.program r.facts)) _ text runs.input refl runs.numbers))
    ]

    by : EndsReplay r.program r.facts (take most_trace_bytes trace) (take 1048577 text) outcome → IsOfUnaccepted status
    by (inl bad) = absurd (not_bad (take most_trace_bytes trace) bad.line traced bad.bad)
    by (inr q) = ends q
unaccepted_ends (Selftest k) source trace text outcome status is traced none same comes = absurd (none tt)
unaccepted_ends Locks bytes trace text outcome status is traced none same comes = absurd (none tt)

-- want of memory is an answer in any case
memory_accepted : (command : Command) (bytes trace text : List ℕ) (status : Status) → status ≡ Memory → IsOfAccepted command bytes trace text status
memory_accepted (Run f p n s) bytes trace text status is = inl is
memory_accepted (Build f i) bytes trace text status is = inl is
memory_accepted (Exec f p n) bytes trace text status is = inl is
memory_accepted (ListCode f) bytes trace text status is = inl is
memory_accepted (Elf i f) bytes trace text status is = inl is
memory_accepted (Unelf f i) bytes trace text status is = inl is
memory_accepted (Audit f p n) bytes trace text status is = inl is
memory_accepted (Trace f p n) bytes trace text status is = inl is
memory_accepted (Replay f t) bytes trace text status is = inl is
memory_accepted (Selftest k) bytes trace text status is = inl is
memory_accepted Locks bytes trace text status is = inl is

memory_unreadable : (command : Command) (status : Status) → status ≡ Memory → IsOfUnreadable command status
memory_unreadable (Run f p n s) status is = inl is
memory_unreadable (Build f i) status is = inl is
memory_unreadable (Exec f p n) status is = inl is
memory_unreadable (ListCode f) status is = inl is
memory_unreadable (Elf i f) status is = inl is
memory_unreadable (Unelf f i) status is = inl is
memory_unreadable (Audit f p n) status is = inl is
memory_unreadable (Trace f p n) status is = inl is
memory_unreadable (Replay f t) status is = inl is
memory_unreadable (Selftest k) status is = inl is
memory_unreadable Locks status is = is

-- ---- the answers to what is in order, and to what isn't

module _ (call : Call) (status : Status) (command : Command) (bytes trace text : List ℕ) (order : IsInOrder call command bytes trace text) (cause : HasCause call status) where
  pub accepted : IsReadable command bytes → IsTraced command trace → IsAccepted command bytes text → IsOfAccepted command bytes trace text status
  accepted is traced input = go (answers call status command bytes trace text order cause)
    where
      go : IsAnswered command bytes trace text status → IsOfAccepted command bytes trace text status
      go (inl memory) = memory_accepted command bytes trace text status memory
      go (inr ended) = accepted_ends command bytes trace text ended.0 status is traced input ended.1 ended.2

  pub unreadable : ¬ IsReadable command bytes → IsOfUnreadable command status
  unreadable none = go (answers call status command bytes trace text order cause)
    where
      go : IsAnswered command bytes trace text status → IsOfUnreadable command status
      go (inl memory) = memory_unreadable command status memory
      go (inr ended) = unreadable_ends command bytes trace text ended.0 status none ended.1 ended.2

  pub untraced : IsReadable command bytes → ¬ IsTraced command trace → IsOfUntraced status
  untraced is none = go (answers call status command bytes trace text order cause)
    where
      go : IsAnswered command bytes trace text status → IsOfUntraced status
      go (inl memory) = inl memory
      go (inr ended) = untraced_ends command bytes trace text ended.0 status is none ended.1 ended.2

  pub unaccepted : IsReadable command bytes → IsTraced command trace → ¬ IsAccepted command bytes text → IsOfUnaccepted status
  unaccepted is traced none = go (answers call status command bytes trace text order cause)
    where
      go : IsAnswered command bytes trace text status → IsOfUnaccepted status
      go (inl memory) = inl memory
      go (inr ended) = unaccepted_ends command bytes trace text ended.0 status is traced none ended.1 ended.2
