-- Members at one place, each with its processor.
use Rattle.std.proofs.Common.{◌≡◌, ◌≢◌, ℕ, suc, ◌+◌, ◌*◌, ◌<◌, List, [], ◌∷◌, map, true, false, Some, None, ap, ◌∙◌, arith, refl, eq-eqb}
use Rattle.std.specs.Prelude.{if◌then◌else◌}
use Rattle.std.proofs.lemmas.Bool.{ne_eqb}
use Rattle.fk_num.specs.Word.{word_sum}
use Rattle.fk_meaning_operation.specs.Kinds.{class_of}
use Rattle.fk_meaning_operation.specs.declared.kinds.Class.TheVariants.{Tree}
use Rattle.fk_meaning_operation.specs.declared.operation.Operation.{Operation}
use Rattle.fk_meaning_store.specs.Store.{heap_start}
use Rattle.fk_meaning.specs.Processor.{Setting, values, last}
use Rattle.fk_meaning.specs.Round.{Passes as Going, Breaks as Broken, taking, do_local, request_phase, do_request}
use Rattle.fk_meaning.specs.Group.{has_room}
use Rattle.fk_core.specs.declared.op.CoreOp.{CoreOp}
use Rattle.fk_core.specs.Next.{next}
use Rattle.fk_image.specs.declared.Image.{Image}
use Rattle.fk_machine.specs.Hart.{Hart, Shared, Setting as MachineSetting}
use Rattle.fk_machine.specs.Step.{perform}
use Rattle.fk_machine.proofs.Places.{place_of-control}
use Rattle.fk_sim_nodes.specs.Node.{Member, Words, add}
use Rattle.fk_sim_nodes.specs.Source.{Passes, Breaks}
use Rattle.fk_sim_nodes.specs.Alone.{GoesAlone}
use Rattle.fk_sim_nodes.specs.Together.{AllTake}
use Rattle.fk_sim_nodes.specs.OnePlace.{AllAreAt, on_each, AllGoAlone, IsOwnWord, AllAtOwn, values_for, last_or}
use Rattle.fk_sim_block.specs.Owner.{Commons, Owner, as_part, found, hires, asks as phase_of, part, core_source}
use Rattle.fk_sim_block.specs.Stands.{Places}
use Rattle.fk_sim_block.specs.Next.{OpAt, step_at}
use Rattle.fk_sim_block.specs.Block.{Enters}
use Rattle.fk_sim_block.proofs.Standing.{operations_are_next}
use Rattle.fk_sim_block.specs.Node.{Nestings, OwnsHeader, control_address}
use Rattle.fk_sim_block.specs.Lockstep.{IsMember, AllEnter, highest_value, is_due}
use Rattle.fk_gen.proofs.Does.{tree_hires_none}

-- something holds of each with its processor
abbrev pub Both : (Member → Owner → Type 0) → List Member → List Owner → Type 0
Both P [] [] = Unit {0}
Both P (m ∷ ms) (p ∷ ps) = P m p × Both P ms ps
Both P ms ps = ⊥

pub each_on : (P Q : Member → Owner → Type 0) (f : Member → Hart) (ms : List Member) (ps : List Owner) → ((m : Member) (p : Owner) → P m p → Q (record m { hart = f m }) p)
    → Both P ms ps → Both Q (on_each f ms) ps
each_on P Q f [] [] g all = tt
each_on P Q f (m ∷ ms) (p ∷ ps) g all = (g m p all.0, each_on P Q f ms ps g all.1)
each_on P Q f ms ps g all = absurd (assumption all)

pub each_so : (P Q : Member → Owner → Type 0) (ms : List Member) (ps : List Owner) → ((m : Member) (p : Owner) → P m p → Q m p) → Both P ms ps → Both Q ms ps
each_so P Q [] [] g all = tt
each_so P Q (m ∷ ms) (p ∷ ps) g all = (g m p all.0, each_so P Q ms ps g all.1)
each_so P Q ms ps g all = absurd (assumption all)

-- members that all stand at a word of the code
pub each_standing : (k : ℕ) (P Q : Member → Owner → Type 0) (f : Member → Hart) (ms : List Member) (ps : List Owner)
    → ((m : Member) (p : Owner) → m.hart.pc ≡ 4 * k → P m p → Q (record m { hart = f m }) p) → AllAreAt k ms → Both P ms ps → Both Q (on_each f ms) ps
each_standing k P Q f [] [] g stand all = tt
each_standing k P Q f (m ∷ ms) (p ∷ ps) g stand all = (g m p stand.0 all.0, each_standing k P Q f ms ps g stand.2 all.1)
each_standing k P Q f ms ps g stand all = absurd (assumption all)

pub stand_on : (k : ℕ) (f : Member → Hart) (ms : List Member) → k < 262144 → ((m : Member) → ((f m).pc ≡ word_sum m.hart.pc 4) × ((f m).ended ≡ m.hart.ended))
    → AllAreAt k ms → AllAreAt (suc k) (on_each f ms)
stand_on k f [] lt next stand = tt
stand_on k f (m ∷ ms) lt next stand = let n = next m in (omega (arith, n.0, stand.0, lt), n.1 ∙ stand.1, stand_on k f ms lt next stand.2)

-- all stand where each does
pub all_stand : (k : ℕ) (P : Member → Owner → Type 0) (ms : List Member) (ps : List Owner) → ((m : Member) (p : Owner) → P m p → (m.hart.pc ≡ 4 * k) × (m.hart.ended ≡ false))
    → Both P ms ps → AllAreAt k ms
all_stand k P [] [] g all = tt
all_stand k P (m ∷ ms) (p ∷ ps) g all = let q = g m p all.0 in (q.0, q.1, all_stand k P ms ps g all.1)
all_stand k P ms ps g all = absurd (assumption all)

pub all_alone : (P : Member → Owner → Type 0) (t : MachineSetting) (i : _) (f : Member → Hart) (ms : List Member) (ps : List Owner)
    → ((m : Member) (p : Owner) → P m p → (s : Shared) → GoesAlone (perform t m.number i m.hart s) (f m) s) → Both P ms ps → AllGoAlone t i f ms
all_alone P t i f [] [] g all = tt
all_alone P t i f (m ∷ ms) (p ∷ ps) g all = (g m p all.0, all_alone P t i f ms ps g all.1)
all_alone P t i f ms ps g all = absurd (assumption all)

pub all_at_own : (P : Member → Owner → Type 0) (mine : Words) (address : Hart → ℕ) (word : ℕ) (ms : List Member) (ps : List Owner)
    → ((m : Member) (p : Owner) → P m p → IsOwnWord mine (address m.hart) word) → Both P ms ps → AllAtOwn mine address (λ m. word) ms
all_at_own P mine address word [] [] g all = tt
all_at_own P mine address word (m ∷ ms) (p ∷ ps) g all = (g m p all.0, all_at_own P mine address word ms ps g all.1)
all_at_own P mine address word ms ps g all = absurd (assumption all)

-- a word of the header of a node
pub own_word : (mine : Words) (first word register : ℕ) → OwnsHeader mine first → word < 8 → register ≡ control_address first
    → IsOwnWord mine (word_sum register (4 * word)) (first + word)
own_word mine first word register owns lt e =
    let within = owns.within in
    record {
      aligned = omega arith;
      place = place_of-control _ (first + word) (omega arith) (omega arith);
      own = owns.own word lt;
    }

-- what is in a register of each, which is stored to one word; and nothing is to any other
pub values_of : (P : Member → Owner → Type 0) (register w : ℕ) (f : Owner → ℕ) (ms : List Member) (ps : List Owner) → ((m : Member) (p : Owner) → P m p → m.hart.registers register ≡ f p) → Both P ms ps
    → values_for (λ m. w) register w ms ≡ map f ps
values_of P register w f [] [] g all = refl
values_of P register w f (m ∷ ms) (p ∷ ps) g all =
    ap (λ b. add b (m.hart.registers register) (values_for (λ m. w) register w ms)) (eq-eqb w w refl) ∙ ap (λ v. v ∷ values_for (λ m. w) register w ms) (g m p all.0)
    ∙ ap (λ vs. f p ∷ vs) (values_of P register w f ms ps g all.1)
values_of P register w f ms ps g all = absurd (assumption all)

pub no_values : (register w j : ℕ) (ms : List Member) → j ≢ w → values_for (λ m. w) register j ms ≡ []
no_values register w j [] ne = refl
no_values register w j (m ∷ ms) ne =
    ap (λ b. add b (m.hart.registers register) (values_for (λ m. w) register j ms)) (ne_eqb j w ne) ∙ no_values register w j ms ne

-- what is last of all values is the highest member's, where there is a member
pub told_highest : (P : (v : ℕ) → Member → Owner → Type 0) (v : ℕ) (ms : List Member) (ps : List Owner)
    → Both (P (last_or v (map (λ p. last (values p.runner.has)) ps))) ms ps → Both (P (highest_value ps)) ms ps
told_highest P v [] [] all = tt
told_highest P v (m ∷ ms) (p ∷ ps) all = all
told_highest P v ms ps all = absurd (assumption all)

-- ---- members that come to the block of a step

module _ (core : List CoreOp) (image : Image) (places : Places) (nestings : Nestings) (i : ℕ) (op : CoreOp) (operation : Operation) (setting : Setting) (t : MachineSetting) (first : ℕ) where
  abbrev pub Comes : Member → Owner → Type 0
  Comes m p = Enters core image places setting t i op operation p m.hart × IsMember places nestings setting None first m p

  pub entered : (ms : List Member) (ps : List Owner) → AllEnter core image places nestings i op operation setting t None first ms ps → Both Comes ms ps
  entered [] [] all = tt
  entered (m ∷ ms) (p ∷ ps) all = ((all.0, all.1), entered ms ps all.2)
  entered ms ps all = absurd (assumption all)

  pub at_block : (m : Member) (p : Owner) → Enters core image places setting t i op operation p m.hart → (m.hart.pc ≡ 4 * places.block i) × (m.hart.ended ≡ false)
  at_block m p en = (en.at.at ∙ ap (λ j. 4 * places.block j) en.index, en.at.live)

-- ---- what is due

module _ (core : List CoreOp) (setting : Setting) (i : ℕ) (op : CoreOp) (operation : Operation) where
  pub due_part : (s : Commons) (p : Owner) → OpAt core i op operation → class_of operation ≡ Tree → has_room operation p.runner.has ≡ true → p.runner.left.at ≡ i
      → part core setting 1 s p ≡ Passes s (is_due core i op operation p)
  due_part s p stands kind room e =
      let step = step_at core i op operation p.runner.left.callers in
      let a = taking p.runner (Some step) in
      operations_are_next core i op operation setting 0 s p stands e
      ∙ ap (λ c. let b = do_local (next core) setting a c step in phase_of core setting s p b b.due) kind
      ∙ ap (λ b. if b then hires (heap_start (setting.globals + setting.inputs)) s p a step else as_part s.asked p (request_phase (found s p.heap) a (Some step))) (tree_hires_none operation kind)
      ∙ ap (λ c. as_part s.asked p (do_request (found s p.heap) a c step)) kind
      ∙ ap (λ b. as_part s.asked p (if b then Going (found s p.heap) a else Broken op.site)) room

  pub fault_part : (s : Commons) (p : Owner) → OpAt core i op operation → class_of operation ≡ Tree → has_room operation p.runner.has ≡ false → p.runner.left.at ≡ i
      → part core setting 1 s p ≡ Breaks op.site
  fault_part s p stands kind full e =
      let step = step_at core i op operation p.runner.left.callers in
      let a = taking p.runner (Some step) in
      operations_are_next core i op operation setting 0 s p stands e
      ∙ ap (λ c. let b = do_local (next core) setting a c step in phase_of core setting s p b b.due) kind
      ∙ ap (λ b. if b then hires (heap_start (setting.globals + setting.inputs)) s p a step else as_part s.asked p (request_phase (found s p.heap) a (Some step))) (tree_hires_none operation kind)
      ∙ ap (λ c. as_part s.asked p (do_request (found s p.heap) a c step)) kind
      ∙ ap (λ b. as_part s.asked p (if b then Going (found s p.heap) a else Broken op.site)) full

  pub all_due : (P : Member → Owner → Type 0) (ms : List Member) (ps : List Owner) → OpAt core i op operation → class_of operation ≡ Tree
      → ((m : Member) (p : Owner) → P m p → (has_room operation p.runner.has ≡ true) × (p.runner.left.at ≡ i)) → Both P ms ps
      → AllTake (core_source core setting) 1 ms ps (map (is_due core i op operation) ps)
  all_due P [] [] stands kind f all = tt
  all_due P (m ∷ ms) (p ∷ ps) stands kind f all =
      let q = f m p all.0 in
      (λ s. due_part s p stands kind q.0 q.1, all_due P ms ps stands kind f all.1)
  all_due P ms ps stands kind f all = absurd (assumption all)
