-- All members of a group come to the lines that count, and commit there in one cycle.
use Rattle.std.proofs.Common.{◌≡◌, ◌≢◌, ℕ, suc, ◌+◌, ◌*◌, List, [], ◌∷◌, false, sym, subst, arith}
use Rattle.fk_num.specs.Word.{Memory}
use Rattle.fk_image.specs.declared.Image.{Image}
use Rattle.fk_machine.specs.Hart.{Hart, Setting as MachineSetting}
use Rattle.fk_sim_nodes.specs.Node.{Member, Words, AreApart}
use Rattle.fk_sim_nodes.specs.Alone.{Holds, RunsPrivately, AllRunPrivately, NodeCycle, in_cycles, with_harts}
use Rattle.fk_sim_nodes.specs.Together.{AllTake, Commits, Together}
use Rattle.fk_sim_nodes.specs.OnePlace.{AllAreAt}
use Rattle.fk_sim_nodes.proofs.Runs.{cycle_map, private_run}
use Rattle.fk_sim_nodes.proofs.Members.{cycle_commits, run_leads}
use Rattle.fk_sim_block.specs.Owner.{Owner, Doing, core_source}
use Rattle.fk_meaning.specs.Processor.{Setting}
use Rattle.fk_core.specs.declared.op.CoreOp.{CoreOp}
use Rattle.fk_gen.specs.InPlace.{LinesAt}
use Rattle.fk_gen.proofs.Does.{holds_in_cycles}
use Rattle.fk_gen_group.specs.Splits.{counting_lines}
use Rattle.fk_gen_group.proofs.Members.{Both}
use Rattle.fk_gen_group.proofs.Counting.{IsToCount, Gives, Knows, Cleared, Added, gives, clear_cycle, add_cycle, load_cycle, last_cycle}

-- ---- each comes by itself

-- a member that comes to a place in so many cycles
pub record Comes (image : Image) (t : MachineSetting) (steps k : ℕ) (Ready : Member → Owner → Type 0) (m : Member) (p : Owner) : Type 0 where
  pub hart : Hart
  pub runs : RunsPrivately image t m.number steps m.hart hart
  pub at : hart.pc ≡ 4 * k
  pub live : hart.ended ≡ false
  pub ready : Ready (record m { hart = hart }) p

module _ (image : Image) (t : MachineSetting) (steps k : ℕ) (Ready : Member → Owner → Type 0) where
  abbrev came_harts : (ms : List Member) (ps : List Owner) → Both (Comes image t steps k Ready) ms ps → List Hart
  came_harts [] [] all = []
  came_harts (m ∷ ms) (p ∷ ps) all = all.0.hart ∷ came_harts ms ps all.1
  came_harts ms ps all = []

  all_run : (ms : List Member) (ps : List Owner) → (all : Both (Comes image t steps k Ready) ms ps) → AllRunPrivately image t steps ms (came_harts ms ps all)
  all_run [] [] all = tt
  all_run (m ∷ ms) (p ∷ ps) all = (all.0.runs, all_run ms ps all.1)
  all_run ms ps all = absurd (assumption all)

  all_there : (ms : List Member) (ps : List Owner) → (all : Both (Comes image t steps k Ready) ms ps) → AllAreAt k (with_harts ms (came_harts ms ps all))
  all_there [] [] all = tt
  all_there (m ∷ ms) (p ∷ ps) all = (all.0.at, all.0.live, all_there ms ps all.1)
  all_there ms ps all = absurd (assumption all)

  all_ready : (ms : List Member) (ps : List Owner) → (all : Both (Comes image t steps k Ready) ms ps) → Both Ready (with_harts ms (came_harts ms ps all)) ps
  all_ready [] [] all = tt
  all_ready (m ∷ ms) (p ∷ ps) all = (all.0.ready, all_ready ms ps all.1)
  all_ready ms ps all = absurd (assumption all)

-- ---- they count

module _ (core : List CoreOp) (image : Image) (bound : ℕ → ℕ) (setting : Setting) (mine : Words) (register : ℕ) (other : ◌≢◌ {A = ℕ} 6 5) (word count : Owner → ℕ) (Ready : Member → Owner → Type 0)
    (to_count : (m : Member) (p : Owner) → Ready m p → IsToCount mine 6 register word count m p) (k : ℕ) (lines : LinesAt image bound k (counting_lines register)) (ps : List Owner) (ds : List Doing)
    (apart : AreApart mine (core_source core setting).common) (Then : List Member → Memory → Type 0) where
  abbrev GivesOf : Member → Owner → Type 0
  GivesOf m p = Gives image mine 6 register other word count Ready to_count m p

  abbrev KnowsOf : Memory → Member → Owner → Type 0
  KnowsOf v m p = Knows image mine 6 register other word count Ready to_count v m p

  abbrev ClearedBy : (offset : ℕ) → Memory → Memory → Type 0
  ClearedBy offset own own' = Cleared image mine 6 register other word count Ready to_count offset ps own own'

  abbrev AddedBy : Memory → Memory → Type 0
  AddedBy own own' = Added image mine 6 register other word count Ready to_count ps own own'

  abbrev Goal : List Member → List Doing → Memory → Type 0
  Goal ms' ds' own' = (ds' ≡ ds) × Then ms' own'

  -- what is known of those that have counted
  abbrev pub Ends : (own : Memory) → Type 0
  Ends own =
      (own1 own2 summed own' : Memory) (ms' : List Member) → ClearedBy 1 own own1 → ClearedBy 0 own1 own2 → AddedBy own2 summed → ClearedBy 0 summed own'
      → AllAreAt (suc (suc (suc (suc (suc k))))) ms' → Both (KnowsOf summed) ms' ps → Then ms' own'

  abbrev pub AllDue : Type 0
  AllDue = (v : Memory) (ms' : List Member) → Both (KnowsOf v) ms' ps → AllTake (core_source core setting) 1 ms' ps ds

  given_all : (ms : List Member) (qs : List Owner) → Both Ready ms qs → Both GivesOf ms qs
  given_all [] [] all = tt
  given_all (m ∷ ms) (p ∷ qs) all = (gives image mine 6 register other word count Ready to_count m p all.0, given_all ms qs all.1)
  given_all ms qs all = absurd (assumption all)

  module _ (t : MachineSetting) (holds : Holds image t) (due : AllDue) (own : Memory) (ends : Ends own) where
    abbrev AtCommit : List Member → Memory → Type 0
    AtCommit ms v = Commits (core_source core setting) image mine (in_cycles 4 t) 1 ms ps v Goal

    abbrev AtLoad : List Member → Memory → Type 0
    AtLoad ms v = NodeCycle image mine (in_cycles 3 t) 0 ms v (λ ms' own'. AtCommit ms' own')

    abbrev AtAdd : List Member → Memory → Type 0
    AtAdd ms v = NodeCycle image mine (in_cycles 2 t) 0 ms v (λ ms' own'. AtLoad ms' own')

    abbrev AtClear : List Member → Memory → Type 0
    AtClear ms v = NodeCycle image mine (in_cycles 1 t) 0 ms v (λ ms' own'. AtAdd ms' own')

    commit_step : (own1 own2 summed : Memory) (ms : List Member) → ClearedBy 1 own own1 → ClearedBy 0 own1 own2 → AddedBy own2 summed → AllAreAt (suc (suc (suc (suc k)))) ms
        → Both (KnowsOf summed) ms ps → AtCommit ms summed
    commit_step own1 own2 summed ms one two sum stand all =
        let cycle4 = in_cycles 4 t in
        let k4 = suc (suc (suc (suc k))) in
        cycle_commits (core_source core setting) image mine cycle4 1 ms ps ds summed Then apart (due summed ms all)
        (cycle_map image mine cycle4 1 ms summed (λ ms' own'. AllAreAt (suc k4) ms' × Both (KnowsOf summed) ms' ps × ClearedBy 0 summed own') Then
        (λ ms' own' x. ends own1 own2 summed own' ms' one two sum x.2 x.0 x.1)
        (last_cycle image mine 6 register other word count Ready to_count summed cycle4 k4 ms ps summed (holds_in_cycles image 4 t holds) lines.1.1.1.1.0 stand all))

    load_step : (own1 own2 summed : Memory) (ms : List Member) → ClearedBy 1 own own1 → ClearedBy 0 own1 own2 → AddedBy own2 summed → AllAreAt (suc (suc (suc k))) ms
        → Both GivesOf ms ps → AtLoad ms summed
    load_step own1 own2 summed ms one two sum stand all =
        let cycle3 = in_cycles 3 t in
        let k3 = suc (suc (suc k)) in
        cycle_map image mine cycle3 0 ms summed (λ ms' own'. AllAreAt (suc k3) ms' × Both (KnowsOf summed) ms' ps × (own' ≡ summed)) (λ ms' own'. AtCommit ms' own')
        (λ ms' own' x. subst (AtCommit ms') (sym x.2) (commit_step own1 own2 summed ms' one two sum x.0 x.1))
        (load_cycle image mine 6 register other word count Ready to_count cycle3 k3 ms ps summed (holds_in_cycles image 3 t holds) lines.1.1.1.0 stand all)

    add_step : (own1 own2 : Memory) (ms : List Member) → ClearedBy 1 own own1 → ClearedBy 0 own1 own2 → AllAreAt (suc (suc k)) ms → Both GivesOf ms ps → AtAdd ms own2
    add_step own1 own2 ms one two stand all =
        let cycle2 = in_cycles 2 t in
        let k2 = suc (suc k) in
        cycle_map image mine cycle2 0 ms own2 (λ ms' own'. AllAreAt (suc k2) ms' × Both GivesOf ms' ps × AddedBy own2 own') (λ ms' own'. AtLoad ms' own')
        (λ ms' own' x. load_step own1 own2 own' ms' one two x.2 x.0 x.1)
        (add_cycle image mine 6 register other word count Ready to_count cycle2 k2 ms ps own2 (holds_in_cycles image 2 t holds) lines.1.1.0 stand all)

    clear_step : (own1 : Memory) (ms : List Member) → ClearedBy 1 own own1 → AllAreAt (suc k) ms → Both GivesOf ms ps → AtClear ms own1
    clear_step own1 ms one stand all =
        let cycle1 = in_cycles 1 t in
        cycle_map image mine cycle1 0 ms own1 (λ ms' own'. AllAreAt (suc (suc k)) ms' × Both GivesOf ms' ps × ClearedBy 0 own1 own') (λ ms' own'. AtAdd ms' own')
        (λ ms' own' x. add_step own1 own' ms' one x.2 x.0 x.1)
        (clear_cycle image mine 6 register other word count Ready to_count cycle1 (suc k) 0 ms ps own1 (omega arith) (holds_in_cycles image 1 t holds) lines.1.0 stand all)

    pub count_together : (ms : List Member) → AllAreAt k ms → Both Ready ms ps → Together (core_source core setting) image mine t 1 4 ms ps own Goal
    count_together ms stand all =
        cycle_map image mine t 0 ms own (λ ms' own'. AllAreAt (suc k) ms' × Both GivesOf ms' ps × ClearedBy 1 own own') (λ ms' own'. AtClear ms' own')
        (λ ms' own' x. clear_step own' ms' x.2 x.0 x.1)
        (clear_cycle image mine 6 register other word count Ready to_count t k 1 ms ps own (omega arith) holds lines.0 stand (given_all ms ps all))

  -- after each has come by itself
  pub come_and_count : (t : MachineSetting) (steps : ℕ) → Holds image t → AllDue → (own : Memory) → Ends own → (ms : List Member) → Both (Comes image t steps k Ready) ms ps
      → Together (core_source core setting) image mine t 1 (steps + 4) ms ps own Goal
  come_and_count t steps holds due own ends ms all =
      let harts = came_harts image t steps k Ready ms ps all in
      run_leads (core_source core setting) image mine t 1 steps 4 ms ps own Goal
      (private_run image mine t steps ms harts own (λ ms' own'. Together (core_source core setting) image mine (in_cycles steps t) 1 4 ms' ps own' Goal)
      (all_run image t steps k Ready ms ps all)
      (count_together (in_cycles steps t) (holds_in_cycles image steps t holds) due own ends (with_harts ms harts)
      (all_there image t steps k Ready ms ps all) (all_ready image t steps k Ready ms ps all)))
