-- From the hart behind a block, which stands for what has become of its processor, to the law of the block.
use Rattle.std.proofs.Common.{◌≡◌, ℕ, zero, suc, ◌+◌, ◌*◌, ◌≤◌, List, [], ◌∷◌, ◌++◌, length, Some, true, false, sym, ap, ◌∙◌, arith, refl, ◌⊎◌, inl, inr, ⊎_elim}
use Rattle.std.specs.Prelude.{if◌then◌else◌}
use Rattle.std.proofs.lemmas.List.{length-append}
use Rattle.fk_num.specs.Word.{word_sum}
use Rattle.fk_meaning_operation.specs.Kinds.{class_of}
use Rattle.fk_meaning_operation.specs.declared.kinds.Class.TheVariants.{Local, Request, Tree}
use Rattle.fk_meaning_operation.specs.declared.operation.Operation.TheVariants.{Heap}
use Rattle.fk_meaning_operation.specs.declared.kinds.FaultKind.{FaultKind}
use Rattle.fk_meaning_operation.specs.declared.operation.Operation.{Operation}
use Rattle.fk_meaning_store.specs.Store.{Store, heap_start}
use Rattle.fk_meaning_store.specs.Serve.{Served, Faults as Refused, serve}
use Rattle.fk_meaning.specs.Processor.{Setting}
use Rattle.fk_meaning.specs.Local.{local, is_onward}
use Rattle.fk_meaning.specs.Request.{request, with_answer}
use Rattle.fk_meaning.specs.Round.{done, taking, do_local, request_phase, do_request, answered}
use Rattle.fk_core.specs.declared.op.CoreOp.{CoreOp}
use Rattle.fk_core.specs.Next.{next, follows}
use Rattle.fk_image.specs.declared.Image.{Image}
use Rattle.fk_isa.specs.declared.instruction.Instruction.{Instruction}
use Rattle.fk_machine.specs.declared.stand.Stand.TheVariants.{Faulted}
use Rattle.fk_machine.specs.Hart.{Hart, Shared, Setting as MachineSetting, Goes, Stops}
use Rattle.fk_machine.specs.Step.{perform}
use Rattle.fk_machine.specs.Run.{count_in}
use Rattle.fk_sim_nodes.specs.Source.{Passes, Breaks, Shows}
use Rattle.fk_sim_nodes.specs.Alone.{Holds, IsAt, RunsPrivately, later, in_cycles}
use Rattle.fk_sim_nodes.proofs.InPlace.{step_at}
use Rattle.fk_sim_block.specs.Owner.{Commons, Owner, Doing, number_of, owner_of, commons_of, found, as_part, is_hire, hires, asks as phase_of, part, core_source}
use Rattle.fk_sim_block.specs.Stands.{Places, StandsFor, StandsAt}
use Rattle.fk_sim_block.specs.Next.{OpAt, step_at as step_of}
use Rattle.fk_sim_block.specs.Block.{Enters, Does, most_before, most_behind}
use Rattle.fk_sim_block.proofs.Standing.{operations_are_next}
use Rattle.fk_asm.specs.Block.{MarkedLine}
use Rattle.fk_gen.specs.Lines.{commits}
use Rattle.fk_gen.specs.InPlace.{LinesAt, HasBlock}
use Rattle.fk_gen.specs.Keeps.{DoesAnd}
use Rattle.fk_gen.proofs.Walk.{told_of, Reached, after, CanRun, can_run_goes, can_run_goes_on, Quiets, quiet_lines, walk, CanWalk, walked}

pub quiet_length : (ls : Quiets) → length (quiet_lines ls) ≡ length ls
quiet_length [] = refl
quiet_length (l ∷ ls) = ap suc (quiet_length ls)

length_both : (xs : List MarkedLine) (m : MarkedLine) (ys : List MarkedLine) → length (xs ++ m ∷ ys) ≡ length xs + suc (length ys)
length_both xs m ys = length-append xs (m ∷ ys)

pub holds_in_cycles : (image : Image) (d : ℕ) (t : MachineSetting) → Holds image t → Holds image (in_cycles d t)
holds_in_cycles image zero t holds = holds
holds_in_cycles image (suc d) t holds = holds_in_cycles image d (later t) holds

-- steps of the tree ask for no block of the global heap
pub tree_hires_none : (operation : Operation) → class_of operation ≡ Tree → is_hire operation ≡ false
tree_hires_none Heap e = absurd (cc)
tree_hires_none operation e = refl

module _ (core : List CoreOp) (image : Image) (places : Places) where
  -- ---- local operations

  -- what a local operation makes of its processor
  abbrev pub local_doing : Setting → (i : ℕ) → CoreOp → Operation → Owner → Doing
  local_doing setting i op operation p = record {
    acting = done (step_of core i op operation p.runner.left.callers) (is_onward operation p.runner.has) (local setting operation p.runner.has);
    heap = p.heap;
  }

  pub local_part : (setting : Setting) (i : ℕ) (op : CoreOp) (operation : Operation) (s : Commons) (p : Owner) → OpAt core i op operation
      → class_of operation ≡ Local → p.runner.left.at ≡ i → part core setting 1 s p ≡ Passes s (local_doing setting i op operation p)
  local_part setting i op operation s p stands kind e =
      let step = step_of core i op operation p.runner.left.callers in
      operations_are_next core i op operation setting 0 s p stands e
      ∙ ap (λ c. let b = do_local (next core) setting (taking p.runner (Some step)) c step in phase_of core setting s p b b.due) kind

  -- one that commits with its first instruction, and then runs privately to where its processor goes on
  pub local_does_by : (setting : Setting) (t : MachineSetting) (i : ℕ) (op : CoreOp) (operation : Operation) (p : Owner) (h : Hart)
      → OpAt core i op operation → class_of operation ≡ Local → Enters core image places setting t i op operation p h
      → (first : Instruction) (r : Reached) → IsAt image (places.block i) first 1 → CanRun first r h
      → (behind : ℕ) → behind ≤ most_behind → (h' : Hart)
      → RunsPrivately image (later t) (number_of p) behind (after (told_of t (number_of p)) first r h) h'
      → StandsAt places (owner_of (local_doing setting i op operation p)) h'
      → (Also : Hart → Type 0) → Also h' → DoesAnd core image places setting t 1 p h 0 behind Also
  local_does_by setting t i op operation p h stands kind en first r at can behind few h' runs stands' Also also =
      let number = number_of p in
      let pc : h.pc ≡ 4 * places.block i = en.at.at ∙ ap (λ j. 4 * places.block j) en.index in
      record {
        few_before = omega arith;
        few_behind = few;
        does = record {
          committing = h;
          runs = refl;
          commits = record {
            live = en.at.live;
            counted = ap (count_in image.commits.items) pc ∙ at.counted;
            does = λ s. inl (record {
              hart = after (told_of t number) first r h;
              store = s;
              done = local_doing setting i op operation p;
              part = local_part setting i op operation s p stands kind en.index;
              goes = λ earlier sh shows.
                  let alone = can_run_goes first r h can t number sh in (
                    record sh { reserved = alone.0 },
                    step_at image (places.block i) 1 first at t en.running.code number h sh pc ∙ alone.1,
                    record { words = shows.words; output = shows.output; common = shows.common },
                    λ j e. refl,
                  );
              follows = (h', runs, (record { done = refl; at = stands' }, also));
            });
          };
        };
      }

  -- a hart that has come to word k and walks to the next block
  pub walks_on : (bound : ℕ → ℕ) (t : MachineSetting) (number : ℕ) (i k : ℕ) (rest : Quiets) (p : Owner) (h : Hart) → Holds image t
      → LinesAt image bound k (quiet_lines rest) → h.pc ≡ 4 * k → h.ended ≡ false → CanWalk (told_of t number) rest h
      → places.block (suc i) ≡ k + length rest → p.runner.left.at ≡ suc i → StandsFor places p (walk (told_of t number) rest h)
      → RunsPrivately image t number (length rest) h (walk (told_of t number) rest h) × StandsAt places p (walk (told_of t number) rest h)
  walks_on bound t number i k rest p h holds at pc live can next on stands =
      let w = walked image bound t number holds rest k h at pc live can in (
        w.runs,
        record { live = w.live; at = w.pc ∙ ap (λ j. 4 * j) (sym next) ∙ ap (λ j. 4 * places.block j) (sym on); stands = stands },
      )

  -- one whose lines run straight on to the next block
  pub local_does : (bound : ℕ → ℕ) (setting : Setting) (t : MachineSetting) (i : ℕ) (op : CoreOp) (operation : Operation) (p : Owner) (h : Hart)
      → OpAt core i op operation → class_of operation ≡ Local → Enters core image places setting t i op operation p h
      → (first : Instruction) (r : Reached) (rest : Quiets) → HasBlock image bound places i (commits 1 first ∷ quiet_lines rest)
      → length rest ≤ most_behind → CanWalk (told_of t (number_of p)) ((first, r) ∷ rest) h
      → (follows core operation i op.target p.runner.left.callers (is_onward operation p.runner.has)).at ≡ suc i
      → StandsFor places (owner_of (local_doing setting i op operation p)) (walk (told_of t (number_of p)) ((first, r) ∷ rest) h)
      → (Also : Hart → Type 0) → Also (walk (told_of t (number_of p)) ((first, r) ∷ rest) h) → DoesAnd core image places setting t 1 p h 0 (length rest) Also
  local_does bound setting t i op operation p h stands kind en first r rest has few can on stands' Also also =
      let number = number_of p in
      let told = told_of t number in
      let h1 = after told first r h in
      let goes = can_run_goes_on told first r h can.0 in
      let goes-pc : h1.pc ≡ word_sum h.pc 4 = goes.0 in
      let pc : h.pc ≡ 4 * places.block i = en.at.at ∙ ap (λ j. 4 * places.block j) en.index in
      let within = has.lines.0.within in
      let pc1 : h1.pc ≡ 4 * suc (places.block i) = omega arith in
      let n = quiet_length rest in
      let after-all : places.block (suc i) ≡ places.block i + suc (length (quiet_lines rest)) = has.next in
      let next : places.block (suc i) ≡ suc (places.block i) + length rest = omega arith in
      let w = walks_on bound (later t) number i (suc (places.block i)) rest (owner_of (local_doing setting i op operation p)) h1 en.running.code has.lines.1 pc1 (goes.1 ∙ en.at.live) can.1 next on stands' in
      local_does_by setting t i op operation p h stands kind en first r has.lines.0 can.0 (length rest) few (walk told rest h1) w.0 w.1 Also also

  -- ---- requests

  -- what an answered request makes of its processor
  abbrev pub request_doing : (i : ℕ) → CoreOp → Operation → Owner → Store → (answer : ℕ) → Doing
  request_doing i op operation p store answer = record {
    acting = done (step_of core i op operation p.runner.left.callers) true (with_answer operation answer p.runner.has);
    heap = record (p.heap) { words = store.heaps (number_of p) };
  }

  pub asks : (setting : Setting) (i : ℕ) (op : CoreOp) (operation : Operation) (s : Commons) (p : Owner) → OpAt core i op operation
      → class_of operation ≡ Request → is_hire operation ≡ false → p.runner.left.at ≡ i
      → part core setting 1 s p
      ≡ as_part s.asked p (answered (step_of core i op operation p.runner.left.callers) p.runner.has (serve (request operation p.runner.has) (found s p.heap) (number_of p)))
  asks setting i op operation s p stands kind other e =
      let step = step_of core i op operation p.runner.left.callers in
      let a = taking p.runner (Some step) in
      operations_are_next core i op operation setting 0 s p stands e
      ∙ ap (λ c. let b = do_local (next core) setting a c step in phase_of core setting s p b b.due) kind
      ∙ ap (λ b. if b then hires (heap_start (setting.globals + setting.inputs)) s p a step else as_part s.asked p (request_phase (found s p.heap) a (Some step))) other
      ∙ ap (λ c. as_part s.asked p (do_request (found s p.heap) a c step)) kind

  -- a request for a block of the global heap
  pub hired_part : (setting : Setting) (i : ℕ) (op : CoreOp) (operation : Operation) (s : Commons) (p : Owner) → OpAt core i op operation
      → class_of operation ≡ Request → is_hire operation ≡ true → p.runner.left.at ≡ i
      → part core setting 1 s p
      ≡ hires (heap_start (setting.globals + setting.inputs)) s p (taking p.runner (Some (step_of core i op operation p.runner.left.callers))) (step_of core i op operation p.runner.left.callers)
  hired_part setting i op operation s p stands kind hire e =
      let step = step_of core i op operation p.runner.left.callers in
      let a = taking p.runner (Some step) in
      operations_are_next core i op operation setting 0 s p stands e
      ∙ ap (λ c. let b = do_local (next core) setting a c step in phase_of core setting s p b b.due) kind
      ∙ ap (λ b. if b then hires (heap_start (setting.globals + setting.inputs)) s p a step else as_part s.asked p (request_phase (found s p.heap) a (Some step))) hire

  pub served_part : (setting : Setting) (i : ℕ) (op : CoreOp) (operation : Operation) (s : Commons) (p : Owner) → OpAt core i op operation
      → class_of operation ≡ Request → is_hire operation ≡ false → p.runner.left.at ≡ i → (store : Store) (answer : ℕ)
      → serve (request operation p.runner.has) (found s p.heap) (number_of p) ≡ Served store answer
      → part core setting 1 s p ≡ Passes (commons_of s.asked store) (request_doing i op operation p store answer)
  served_part setting i op operation s p stands kind other e store answer f =
      asks setting i op operation s p stands kind other e
      ∙ ap (λ a. as_part s.asked p (answered (step_of core i op operation p.runner.left.callers) p.runner.has a)) f

  pub refused_part : (setting : Setting) (i : ℕ) (op : CoreOp) (operation : Operation) (s : Commons) (p : Owner) → OpAt core i op operation
      → class_of operation ≡ Request → is_hire operation ≡ false → p.runner.left.at ≡ i → (kind : FaultKind)
      → serve (request operation p.runner.has) (found s p.heap) (number_of p) ≡ Refused kind
      → part core setting 1 s p ≡ Breaks op.site
  refused_part setting i op operation s p stands class other e kind f =
      asks setting i op operation s p stands class other e
      ∙ ap (λ a. as_part s.asked p (answered (step_of core i op operation p.runner.left.callers) p.runner.has a)) f

  -- from hart h1 an instruction serves the request of a processor on a store, and the hart runs privately to where its
  -- processor goes on
  pub record ServesRequest (setting : Setting) (t : MachineSetting) (i : ℕ) (op : CoreOp) (operation : Operation) (p : Owner) (c : Instruction) (behind : ℕ) (h1 : Hart) (Also : Hart → Type 0) (s : Commons) : Type 0 where
    pub hart : Hart
    pub store : Store
    pub answer : ℕ
    pub served : serve (request operation p.runner.has) (found s p.heap) (number_of p) ≡ Served store answer
    pub goes : (earlier : List ℕ) (sh : Shared) → Shows (core_source core setting) earlier sh s
        → (sh' : Shared) × (perform t (number_of p) c h1 sh ≡ Goes hart sh') × Shows (core_source core setting) earlier sh' (commons_of s.asked store)
        × ((j : ℕ) → sh'.control j ≡ sh.control j)
    pub end : Hart
    pub runs : RunsPrivately image (later t) (number_of p) behind hart end
    pub at : StandsAt places (owner_of (request_doing i op operation p store answer)) end
    pub also : Also end

  -- or it is refused, and the instruction is its fault
  pub record RefusesRequest (setting : Setting) (t : MachineSetting) (op : CoreOp) (operation : Operation) (p : Owner) (c : Instruction) (h1 : Hart) (s : Commons) : Type 0 where
    pub kind : FaultKind
    pub refused : serve (request operation p.runner.has) (found s p.heap) (number_of p) ≡ Refused kind
    pub stops : (earlier : List ℕ) (sh : Shared) → Shows (core_source core setting) earlier sh s
        → perform t (number_of p) c h1 sh ≡ Stops (Faulted op.site (number_of p))

  abbrev pub Answers : Setting → MachineSetting → (i : ℕ) → CoreOp → Operation → Owner → Instruction → (behind : ℕ) → Hart → (Also : Hart → Type 0) → Commons → Type 0
  Answers setting t i op operation p c behind h1 Also s =
      ServesRequest setting t i op operation p c behind h1 Also s ⊎ RefusesRequest setting t op operation p c h1 s

  -- a request that commits after private instructions
  pub request_does_by : (setting : Setting) (t : MachineSetting) (i : ℕ) (op : CoreOp) (operation : Operation) (p : Owner) (h : Hart)
      → OpAt core i op operation → class_of operation ≡ Request → is_hire operation ≡ false → Enters core image places setting t i op operation p h
      → (before behind : ℕ) → before ≤ most_before → behind ≤ most_behind → (h1 : Hart) → RunsPrivately image t (number_of p) before h h1
      → (k : ℕ) (c : Instruction) → IsAt image k c 1 → h1.pc ≡ 4 * k → h1.ended ≡ false
      → (Also : Hart → Type 0) → ((s : Commons) → Answers setting (in_cycles before t) i op operation p c behind h1 Also s)
      → DoesAnd core image places setting t 1 p h before behind Also
  request_does_by setting t i op operation p h stands kind other en before behind few_before few_behind h1 runs k c at pc live Also answers =
      let number = number_of p in
      let t1 = in_cycles before t in
      let holds = holds_in_cycles image before t en.running.code in
      record {
        few_before = few_before;
        few_behind = few_behind;
        does = record {
          committing = h1;
          runs = runs;
          commits = record {
            live = live;
            counted = ap (count_in image.commits.items) pc ∙ at.counted;
            does = λ s.
                ⊎_elim
                (λ y. inl (record {
                  hart = y.hart;
                  store = commons_of s.asked y.store;
                  done = request_doing i op operation p y.store y.answer;
                  part = served_part setting i op operation s p stands kind other en.index y.store y.answer y.served;
                  goes = λ earlier sh shows.
                      let g = y.goes earlier sh shows in
                      (g.0, step_at image k 1 c at t1 holds number h1 sh pc ∙ g.1, g.2, λ j e. g.3 j);
                  follows = (y.end, y.runs, (record { done = refl; at = y.at }, y.also));
                }))
                (λ n. inr (record {
                  site = op.site;
                  part = refused_part setting i op operation s p stands kind other en.index n.kind n.refused;
                  stops = λ earlier sh shows. step_at image k 1 c at t1 holds number h1 sh pc ∙ n.stops earlier sh shows;
                }))
                (answers s);
          };
        };
      }

  -- ---- without what holds more

  pub does_of : (setting : Setting) (t : MachineSetting) (p : Owner) (h : Hart) (before behind : ℕ) (Also : Hart → Type 0) → DoesAnd core image places setting t 1 p h before behind Also
      → Does core image places setting t 1 p h
  does_of setting t p h before behind Also does =
      let one = does.does in
      record {
        before = before;
        behind = behind;
        few_before = does.few_before;
        few_behind = does.few_behind;
        does = record {
          committing = one.committing;
          runs = one.runs;
          commits = record {
            live = one.commits.live;
            counted = one.commits.counted;
            does = λ s.
                ⊎_elim
                (λ v. inl (record {
                  hart = v.hart;
                  store = v.store;
                  done = v.done;
                  part = v.part;
                  goes = v.goes;
                  follows = (v.follows.0, v.follows.1, v.follows.2.0);
                }))
                inr
                (one.commits.does s);
          };
        };
      }
