-- Calls and their ends keep their harts in their nodes.
use Rattle.std.proofs.Common.{◌≡◌, ℕ, suc, ◌-◌, List, [], ◌∷◌, length, Bool, true, false, Option, sym, ap, subst, ◌∙◌, arith, refl}
use Rattle.std.specs.Prelude.{◌==◌}
use Rattle.fk_meaning_operation.specs.declared.operation.Operation.TheVariants.{Leave, Enter}
use Rattle.fk_meaning_store.specs.Serve.{Answer, Served, Faults as Refused, serve}
use Rattle.fk_meaning.specs.Processor.{Call, Processor, Setting, values, last, before}
use Rattle.fk_meaning.specs.Local.{to_caller, unframed}
use Rattle.fk_meaning.specs.Request.{request}
use Rattle.fk_meaning.specs.Round.{answered}
use Rattle.fk_core.specs.declared.op.CoreOp.{CoreOp}
use Rattle.fk_core.specs.Next.{Position, position, behind_jump, returned}
use Rattle.fk_image.specs.declared.Image.{Image}
use Rattle.fk_machine.specs.Hart.{Hart, Setting as MachineSetting}
use Rattle.fk_sim_nodes.specs.Node.{Member}
use Rattle.fk_sim_nodes.specs.Source.{Passes}
use Rattle.fk_sim_block.specs.Owner.{Commons, Owner, Doing, number_of, owner_of, found, as_part, part}
use Rattle.fk_sim_block.specs.Stands.{Places, HasWaiting, frame_end}
use Rattle.fk_sim_block.specs.Next.{OpAt, step_at}
use Rattle.fk_sim_block.specs.Block.{Enters, HasDone}
use Rattle.fk_gen.proofs.Does.{local_part, asks}
use Rattle.fk_gen.proofs.Values.{length_before}
use Rattle.fk_gen_flow.specs.Keeps.{KeepsBelow, frames_behind, result_word}
use Rattle.fk_gen_flow.proofs.Frames.{last_of}
use Rattle.fk_sim_block.specs.Node.{Nestings, StandsInNode, HasOuter, HasNestings, LieBelow, space_frames}
use Rattle.fk_sim_block.specs.Lockstep.{IsMember}
use Rattle.fk_gen_group.specs.InNode.{GivesLevels, HasNoLevels}
use Rattle.fk_gen_group.proofs.Levels.{lies_below, values_behind, outer_of_call, outer_of_caller, many_callers}
use Rattle.fk_gen_group.proofs.InNode.{SameGroup, stands_in_node, stands_with_frames, done_of}

-- ---- a call

module _ (core : List CoreOp) (image : Image) (places : Places) (nestings : Nestings) (i : ℕ) (op : CoreOp) (n : ℕ) (stands : OpAt core i op (Enter n))
    (levels : GivesLevels core places nestings i op.depth n) (setting : Setting) (p : Owner) where
  -- where it returns
  abbrev back : ℕ
  back = behind_jump core (suc i)

  abbrev waiting_call : Call
  waiting_call = record (p.runner.has.call) { values = before n (values p.runner.has) }

  pub record HasEntered (d : Doing) : Type 0 where
    pub group : SameGroup p.runner.has (owner_of d).runner.has
    pub left : (owner_of d).runner.left ≡ position (suc i) (back ∷ p.runner.left.callers)
    pub callers : (owner_of d).runner.has.callers ≡ waiting_call ∷ p.runner.has.callers

  by_answer : (d : Doing) (s s' : Commons) (o : Answer) → as_part s.asked p (answered (step_at core i op (Enter n) p.runner.left.callers) p.runner.has o) ≡ Passes s' d → HasEntered d
  by_answer d s s' (Served store answer) e =
      subst HasEntered (ap (λ y. done_of y d) e) (record { group = record { number = refl; level = refl; outer = refl }; left = refl; callers = refl })
  by_answer d s s' (Refused kind) e = absurd (cc)

  pub has_entered : (d : Doing) (s s' : Commons) → p.runner.left.at ≡ i → part core setting 1 s p ≡ Passes s' d → HasEntered d
  has_entered d s s' at e =
      by_answer d s s' (serve (request (Enter n) p.runner.has) (found s p.heap) (number_of p)) (sym (asks core image places setting i op (Enter n) s p stands refl refl at) ∙ e)

  pub enters_in_node : (t : MachineSetting) (runs : Option ℕ) (first : ℕ) (m : Member) (h' : Hart) (d : Doing) → Enters core image places setting t i op (Enter n) p m.hart
      → IsMember places nestings setting runs first m p → HasDone core image places d h' → KeepsBelow (frame_end (length p.runner.has.callers)) (space_frames m.hart) m.hart h' → HasEntered d
      → StandsInNode places nestings setting runs (owner_of d) h'
  enters_in_node t runs first m h' d en member done keeps did =
      let w = length p.runner.has.callers in
      let callers = p.runner.left.callers in
      let calls = waiting_call ∷ p.runner.has.callers in
      let depth = en.ready.depth in
      let many = many_callers places nestings m.hart.local callers p.runner.has.callers en.at.stands.waiting in
      let waiting : HasWaiting places h'.local (back ∷ callers) calls =
      subst (λ cs. HasWaiting places h'.local (back ∷ callers) cs) did.callers
      (subst (λ (l : Position). HasWaiting places h'.local l.callers (owner_of d).runner.has.callers) did.left done.at.stands.waiting) in
      let home : places.frames.is_main back ≡ (w == 0) = waiting.1.home in
      let left = length_before n (values p.runner.has) in
      let behind = values_behind places nestings w back (suc (op.depth - n)) (lies_below places nestings w back (suc (op.depth - n)) home levels.room) in
      let entry = levels.entry.room in
      let on =
      outer_of_call places nestings setting.processors (number_of p) m.hart.local h'.local i back (suc i) callers p.runner.has.outer levels.few levels.stay levels.none (omega arith)
      (λ x lt. keeps.words x (omega arith))
      (subst (λ a. HasOuter places nestings setting.processors (number_of p) m.hart.local (a ∷ callers) p.runner.has.outer) en.index member.node.outer.0) in
      stands_in_node places nestings setting runs first m p (owner_of d) h' member keeps.node keeps.body keeps.frames_end keeps.blocks did.group
      (subst (λ cs. HasNestings places nestings setting.processors (number_of p) h'.local (owner_of d).runner.left.at (owner_of d).runner.left.callers cs p.runner.has.outer) (sym did.callers)
      (subst (λ (l : Position). HasNestings places nestings setting.processors (number_of p) h'.local l.at l.callers calls p.runner.has.outer) (sym did.left)
      (on, (omega arith, member.node.outer.1))))

-- ---- the end of a call

abbrev past : List Call → List Call
past [] = []
past (c ∷ calls) = calls

record IsCaller (p q : Processor) (calls : List Call) : Type 0 where
  pub group : SameGroup p q
  pub callers : q.callers ≡ past calls

is_caller : (gives : Bool) (v : ℕ) (p : Processor) (calls : List Call) → p.callers ≡ calls → IsCaller p (to_caller gives v p calls) calls
is_caller gives v p [] e = record { group = record { number = refl; level = refl; outer = refl }; callers = e }
is_caller gives v p (c ∷ calls) e = record { group = record { number = refl; level = refl; outer = refl }; callers = refl }

unframed_callers : (framed : Bool) (p : Processor) → (unframed framed p).callers ≡ p.callers
unframed_callers true p = refl
unframed_callers false p = refl

-- with the space that the end of the call leaves
left_node : (framed : Bool) (places : Places) (nestings : Nestings) (setting : Setting) (runs : Option ℕ) (first : ℕ) (m : Member) (p q : Owner) (h' : Hart) (word : ℕ)
    → IsMember places nestings setting runs first m p → KeepsBelow word (frames_behind framed p.runner.has m.hart) m.hart h' → SameGroup (unframed framed p.runner.has) q.runner.has
    → HasNestings places nestings setting.processors (number_of p) h'.local q.runner.left.at q.runner.left.callers q.runner.has.callers p.runner.has.outer
    → StandsInNode places nestings setting runs q h'
left_node true places nestings setting runs first m p q h' word member keeps group held =
    stands_with_frames places nestings setting runs first (p.runner.has.call.frames 0) m p q h' member keeps.node keeps.body keeps.frames_end keeps.blocks group.number group.level group.outer held
left_node false places nestings setting runs first m p q h' word member keeps group held =
    stands_in_node places nestings setting runs first m p q h' member keeps.node keeps.body keeps.frames_end keeps.blocks group held

module _ (core : List CoreOp) (image : Image) (places : Places) (nestings : Nestings) (i : ℕ) (op : CoreOp) (gives framed : Bool) (stands : OpAt core i op (Leave gives framed))
    (levels : HasNoLevels places nestings i) (setting : Setting) (p : Owner) where
  pub record HasLeft (d : Doing) : Type 0 where
    pub group : SameGroup (unframed framed p.runner.has) (owner_of d).runner.has
    pub left : (owner_of d).runner.left ≡ returned core p.runner.left.callers
    pub callers : (owner_of d).runner.has.callers ≡ past p.runner.has.callers

  pub has_left : (d : Doing) (s s' : Commons) → p.runner.left.at ≡ i → part core setting 1 s p ≡ Passes s' d → HasLeft d
  has_left d s s' at e =
      let caller = is_caller gives (last (values p.runner.has)) (unframed framed p.runner.has) p.runner.has.callers (unframed_callers framed p.runner.has) in
      subst HasLeft (ap (λ y. done_of y d) (sym (local_part core image places setting i op (Leave gives framed) s p stands refl at) ∙ e))
      (record { group = caller.group; left = refl; callers = caller.callers })

  pub leaves_in_node : (t : MachineSetting) (runs : Option ℕ) (first : ℕ) (m : Member) (h' : Hart) (d : Doing) → Enters core image places setting t i op (Leave gives framed) p m.hart
      → IsMember places nestings setting runs first m p → KeepsBelow (result_word p.runner.has.callers) (frames_behind framed p.runner.has m.hart) m.hart h' → HasLeft d
      → StandsInNode places nestings setting runs (owner_of d) h'
  leaves_in_node t runs first m h' d en member keeps did =
      let l = last_of places m.hart.local p.runner.left.callers p.runner.has.callers en.at.stands.waiting en.ready.may in
      let below =
      subst (λ cs. LieBelow places nestings (l.back ∷ l.backs') cs) l.are_calls
      (subst (λ bs. LieBelow places nestings bs p.runner.has.callers) l.are_backs member.node.outer.1) in
      let held =
      subst (λ bs. HasOuter places nestings setting.processors (number_of p) m.hart.local (i ∷ bs) p.runner.has.outer) l.are_backs
      (subst (λ a. HasOuter places nestings setting.processors (number_of p) m.hart.local (a ∷ p.runner.left.callers) p.runner.has.outer) en.index member.node.outer.0) in
      let word = ap result_word l.are_calls in
      let many = many_callers places nestings m.hart.local l.backs' l.calls' l.others in
      let on =
      outer_of_caller places nestings setting.processors (number_of p) m.hart.local h'.local i l.back l.call l.backs' l.calls' p.runner.has.outer levels.few levels.none below many
      (λ x lt. keeps.words x (omega arith)) held in
      left_node framed places nestings setting runs first m p (owner_of d) h' (result_word p.runner.has.callers) member keeps did.group
      (subst (λ cs. HasNestings places nestings setting.processors (number_of p) h'.local (owner_of d).runner.left.at (owner_of d).runner.left.callers cs p.runner.has.outer)
      (sym (did.callers ∙ ap past l.are_calls))
      (subst (λ (x : Position). HasNestings places nestings setting.processors (number_of p) h'.local x.at x.callers l.calls' p.runner.has.outer)
      (sym (did.left ∙ ap (returned core) l.are_backs)) (on, below.1)))
