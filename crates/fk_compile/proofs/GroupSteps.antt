-- Members of a group in lockstep come to one operation in a round, so what they alone touch takes one step.
use Rattle.std.proofs.Common.{◌≡◌, ℕ, zero, suc, ◌≤◌, ◌&&◌, true, List, slice_get, Option, Some, None, refl, sym, ap, ◌∙◌}
use Rattle.std.specs.Prelude.{slice_index, is_none}
use Rattle.std.proofs.lemmas.Bool.{and_parts}
use Rattle.fk_tree.specs.Tree.{kind}
use Rattle.fk_tree.specs.Sound.{Has}
use Rattle.fk_tree.specs.declared.node.Kind.TheVariants.{Lockstep}
use Rattle.fk_meaning_operation.specs.Kinds.{class_of}
use Rattle.fk_meaning_operation.specs.declared.operation.Operation.{Operation}
use Rattle.fk_meaning_operation.specs.declared.operation.Operation.TheVariants as o
use Rattle.fk_meaning_operation.specs.declared.kinds.Class.{Class}
use Rattle.fk_meaning_operation.specs.declared.kinds.Class.TheVariants as class
use Rattle.fk_meaning_store.specs.declared.request.Request.{Request}
use Rattle.fk_meaning.specs.Processor.{Setting}
use Rattle.fk_meaning.specs.Round.{Step, Runner, State, Round, Acting, taking, do_local, local_phase, after_locals, begin, begin_all, asking, is_allowed, is_possible, result}
use Rattle.fk_meaning.specs.Schedule.{Schedule, run, IsLawful}
use Rattle.fk_meaning.specs.Next.{Work}
use Rattle.fk_meaning.specs.Program.{next_in, main_work, program_opening}
use Rattle.fk_meaning.specs.Touch.{operation_due, touch_of, Touches, IsGroupStep}
use Rattle.fk_meaning.proofs.GroupSteps.{reads, writes, combines}
use Rattle.fk_syntax.specs.declared.facts.Facts.{Facts}
use Rattle.fk_syntax.specs.Program.{ProgramTree}
use Rattle.fk_lex.specs.Reading.{Spelled, Tokens}
use Rattle.fk_parse.specs.Parses.{SpellsProgram}
use Rattle.fk_layout.specs.Layout.{tables_by}
use Rattle.fk_layout.specs.Refusal.{Fits}
use Rattle.fk_check_laws.specs.Correct.{IsCorrect}
use Rattle.fk_parse_laws.specs.Trim.{TextsAreTrim}
use Rattle.fk_lower_names.specs.Proper.{TextsAreProper}
use Rattle.fk_check_laws.specs.Valid.{may_call}
use Rattle.fk_check_laws.proofs.PlacedPrograms.{valid_programs_are_in_place}
use Rattle.fk_lockstep.specs.Counts.{Counts}
use Rattle.fk_lockstep.proofs.Acting.{untrue, Here, after_passing, passing_is}
use Rattle.fk_lockstep.proofs.Rounds.{begin_at, map_at}
use Rattle.fk_lockstep.proofs.Round.{first_is, Ordered, Acts, acts, one_count}
use Rattle.fk_lockstep.proofs.ProgramRuns.{Good, grouped_at, member_is, good_run, good_start}
use Rattle.fk_lockstep_structure.specs.Ahead.{all_outs}
use Rattle.fk_lockstep_structure.specs.InPlace.{IsInPlace}
use Rattle.fk_lockstep_structure.specs.Pending.{fork_counts}
use Rattle.fk_lockstep_structure.proofs.Programs.{programs_follow, gives_of, none_pending, programs_are_counted}
use Rattle.fk_compile.specs.GroupSteps.{ActAsOne, TouchAlone, StepAsOne, TextsActAsOne, TextsStepAsOne}
use Rattle.fk_compile.proofs.OneProgram.{valid, laid_out}

none_of : {A : Type 0} (a : Option A) → is_none a ≡ true → a ≡ None
none_of None e = refl
none_of (Some a) e = untrue e

module _ {W : Type 0} (next : W → Option (Step W)) (outs : W → List W) (counts : Counts W) where
  -- ---- one round

  module _ (set : Setting) (round : Round) (s : State W) (p : ℕ) (good : Good next outs counts p s) (possible : is_possible next set round s ≡ true) where
    ordered : Ordered next outs counts set round s p
    ordered = record { many = good.many; numbers = good.numbers }

    abbrev ActsHere : ℕ → Type 0
    ActsHere h = Acts next outs counts set round s p good.here good.behind good.inv ordered possible h

    no_fault : (result next set round s).fault ≡ None
    no_fault = none_of (result next set round s).fault (and_parts (is_none s.fault && is_allowed next set round s) (is_none (result next set round s).fault) possible).1

    -- the operation that is still due where a processor has taken one
    abbrev left_by : Class → Operation → Option Operation
    left_by class.Local op = None
    left_by class.Request op = Some op
    left_by class.Tree op = Some op

    abbrev left_due : Option (Step W) → Option Operation
    left_due None = None
    left_due (Some step) = left_by (class_of step.operation) step.operation

    due_left : (r : Runner W) (due : Option (Step W)) → operation_due (local_phase next set (taking r due) due).due ≡ left_due due
    due_left r None = refl
    due_left r (Some step) = by (class_of step.operation)
      where
        by : (c : Class) → operation_due (do_local next set (taking r (Some step)) c step).due ≡ left_by c step.operation
        by class.Local = refl
        by class.Request = refl
        by class.Tree = refl

    -- a processor in the round, before the requests
    abbrev asked : (count : ℕ) → Runner W → Acting W
    asked count r = let a = begin next set count r in local_phase next set a a.due

    asking_at : (h : ℕ) (a : ActsHere h) → slice_get (asking next set round s.runners) h ≡ Some (asked a.count a.runner)
    asking_at h a =
        map_at (λ (b : Acting W). local_phase next set b b.due) (begin_all next set round s.runners) h (begin next set a.count a.runner)
        (begin_at next set round s.runners h a.count a.runner a.counted a.is)

    -- ---- a group in lockstep

    module _ (n : ℕ) (locked : kind s.tree n ≡ Some Lockstep) where
      -- what its members have still due after so many operations
      abbrev due_of : (count : ℕ) → Here W → Option Operation
      due_of zero x = None
      due_of (suc c) x = left_due (next (after_passing next outs counts set c x).left)

      asked_due : (count h : ℕ) → Has s.tree n h → (r : Runner W) → slice_get s.runners h ≡ Some r → operation_due (asked count r).due ≡ due_of count (good.here n)
      asked_due zero h in_h r at = refl
      asked_due (suc c) h in_h r at =
          let q = after_locals next set c r in
          due_left q (next q.left)
          ∙ ap (λ (w : W). left_due (next w)) (passing_is next outs counts set c (good.behind n) (good.here n) (grouped_at next outs counts p s good n locked) r (member_is next outs counts p s good n locked h in_h r at)).left

      due_is : (h : ℕ) (b : Acting W) → Has s.tree n h → slice_get (asking next set round s.runners) h ≡ Some b → (a : ActsHere h) → operation_due b.due ≡ due_of a.count (good.here n)
      due_is h b in_h at a =
          ap (λ (x : Acting W). operation_due x.due) (first_is b (asked a.count a.runner) (sym at ∙ asking_at h a)) ∙ asked_due a.count h in_h a.runner a.is

      same_due : (g h : ℕ) (a b : Acting W) → Has s.tree n g → Has s.tree n h → slice_get (asking next set round s.runners) g ≡ Some a → slice_get (asking next set round s.runners) h ≡ Some b
          → operation_due b.due ≡ operation_due a.due
      same_due g h a b in_g in_h at_g at_h =
          let within = good.inv.sound.within in
          let first : ActsHere g = acts next outs counts set round s p good.here good.behind good.inv ordered possible g (within n g in_g) in
          let second : ActsHere h = acts next outs counts set round s p good.here good.behind good.inv ordered possible h (within n h in_h) in
          due_is h b in_h at_h second
          ∙ ap (λ (c : ℕ). due_of c (good.here n)) (one_count next outs counts set round s p good.here good.behind good.inv ordered possible n locked g h first second in_g in_h)
          ∙ sym (due_is g a in_g at_g first)

      pub acts_as_one : (g h : ℕ) (a b : Acting W) → Has s.tree n g → Has s.tree n h → slice_get (asking next set round s.runners) g ≡ Some a
          → slice_get (asking next set round s.runners) h ≡ Some b → ActAsOne next set round s g h a b
      acts_as_one g h a b in_g in_h at_g at_h =
          let within = good.inv.sound.within in
          let first : ActsHere g = acts next outs counts set round s p good.here good.behind good.inv ordered possible g (within n g in_g) in
          let second : ActsHere h = acts next outs counts set round s p good.here good.behind good.inv ordered possible h (within n h in_h) in
          record {
            counts = first.counted ∙ ap Some (sym (one_count next outs counts set round s p good.here good.behind good.inv ordered possible n locked g h first second in_g in_h)) ∙ sym second.counted;
            operation = sym (same_due g h a b in_g in_h at_g at_h);
          }

      -- who touches a word stands at a read, a write or a multiprefix
      module _ (x : ℕ) (alone : TouchAlone next set round s n x) (h : ℕ) (q : Request) (touched : Touches next set round s x h q) where
        is_step : (op : Operation) → operation_due touched.0.due ≡ Some op → IsGroupStep next set round s n x op
        is_step op is = record {
          lockstep = locked;
          no_fault = no_fault;
          alone = alone.alone;
          one = λ g a at r touches. same_due h g touched.0 a (alone.alone h q touched) (alone.alone g r (a, at, touches)) touched.1 at ∙ is;
        }

        by_operation : (op : Operation) → operation_due touched.0.due ≡ Some op → touch_of x touched.0.runner.has (Some op) ≡ Some q → StepAsOne next set round s n x
        by_operation o.Read is touches = record { operation = o.Read; all = is_step o.Read is; becomes = reads next set round s n x (is_step o.Read is) }
        by_operation o.Write is touches = record { operation = o.Write; all = is_step o.Write is; becomes = writes next set round s n x (is_step o.Write is) }
        by_operation (o.Combine by) is touches =
            record { operation = o.Combine by; all = is_step (o.Combine by) is; becomes = combines next set round s n x by (is_step (o.Combine by) is) }
        by_operation op is touches = absurd (cc)

        by_due : (due : Option Operation) → operation_due touched.0.due ≡ due → StepAsOne next set round s n x
        by_due None is = let nobody : None ≡ Some q = sym (ap (touch_of x touched.0.runner.has) is) ∙ touched.2 in absurd (cc)
        by_due (Some op) is = by_operation op is (sym (ap (touch_of x touched.0.runner.has) is) ∙ touched.2)

        pub steps_as_one : StepAsOne next set round s n x
        steps_as_one = by_due (operation_due touched.0.due) refl

-- ---- texts

module _ (trim : TextsAreTrim) (proper : TextsAreProper) (source : List ℕ) (tokens : List Spelled) (program : ProgramTree) (facts : Facts) (spelled : Tokens source tokens)
    (spells : SpellsProgram tokens program) (correct : IsCorrect program facts) (fits : Fits (tables_by program facts) program.items) where
  placed : IsInPlace (tables_by program facts) program (may_call program)
  placed = valid_programs_are_in_place program facts (valid program facts (laid_out trim proper source tokens program facts spelled spells correct fits))

  abbrev next_of : Work → Option (Step Work)
  next_of = next_in (tables_by program facts) program

  abbrev counts_of : Counts Work
  counts_of = fork_counts (gives_of (tables_by program facts) program (may_call program) placed)

  not_faulted : (set : Setting) (round : Round) (s : State Work) → is_possible next_of set round s ≡ true → s.fault ≡ None
  not_faulted set round s is =
      none_of s.fault
      (and_parts (is_none s.fault) (is_allowed next_of set round s) (and_parts (is_none s.fault && is_allowed next_of set round s) (is_none (result next_of set round s).fault) is).0).0

  -- what holds of a run after a lawful schedule
  good_of : (set : Setting) (schedule : Schedule) (words firsts input : List ℕ) (processors : ℕ) → 1 ≤ processors
      → let first = program_opening (tables_by program facts) program words firsts input processors in
      IsLawful next_of set schedule first → (round : Round) → is_possible next_of set round (run next_of set schedule first) ≡ true
      → Good next_of all_outs counts_of processors (run next_of set schedule first)
  good_of set schedule words firsts input processors some lawful round possible =
      let tables = tables_by program facts in
      let first = program_opening tables program words firsts input processors in
      let good =
      good_start next_of all_outs counts_of (main_work tables program) (programs_follow tables program (may_call program) placed) (none_pending tables program (may_call program) placed)
      (programs_are_counted tables program (may_call program) placed) processors words input (slice_index firsts) some in
      good_run next_of all_outs counts_of set schedule processors first good lawful.possible (not_faulted set round (run next_of set schedule first) possible)

pub texts_act_as_one : TextsAreTrim → TextsAreProper → TextsActAsOne
texts_act_as_one trim proper source tokens program facts spelled spells correct fits set schedule words firsts input processors some lawful round possible n g h a b are =
    let next = next_in (tables_by program facts) program in
    let counts = counts_of trim proper source tokens program facts spelled spells correct fits in
    let s = run next set schedule (program_opening (tables_by program facts) program words firsts input processors) in
    let good = good_of trim proper source tokens program facts spelled spells correct fits set schedule words firsts input processors some lawful round possible in
    acts_as_one next all_outs counts set round s processors good possible n are.lockstep g h a b are.first are.second are.first_is are.second_is

pub texts_step_as_one : TextsAreTrim → TextsAreProper → TextsStepAsOne
texts_step_as_one trim proper source tokens program facts spelled spells correct fits set schedule words firsts input processors some lawful round possible n x alone h q touched =
    let next = next_in (tables_by program facts) program in
    let counts = counts_of trim proper source tokens program facts spelled spells correct fits in
    let s = run next set schedule (program_opening (tables_by program facts) program words firsts input processors) in
    let good = good_of trim proper source tokens program facts spelled spells correct fits set schedule words firsts input processors some lawful round possible in
    steps_as_one next all_outs counts set round s processors good possible n alone.lockstep x alone h q touched
