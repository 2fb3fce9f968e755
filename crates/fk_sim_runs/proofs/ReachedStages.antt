-- Rounds by stages: who has committed had something left to do, and nobody begins a group.
use Rattle.std.proofs.Common.{◌≡◌, ◌≢◌, ⊎_elim, ℕ, suc, ◌<◌, true, false, List, [], ◌∷◌, length, Option, Some, None, refl, sym, ap, ◌∙◌, subst, arith}
use Rattle.std.specs.Prelude.{map, slice_get, slice_index}
use Rattle.fk_space.specs.Space.{Space}
use Rattle.fk_meaning_operation.specs.Kinds.{joint_of}
use Rattle.fk_meaning_operation.specs.declared.kinds.Joint.{Joint}
use Rattle.fk_meaning_operation.specs.declared.kinds.Joint.TheVariants.{Alone, Starting}
use Rattle.fk_meaning_operation.specs.declared.operation.Operation.{Operation}
use Rattle.fk_meaning_operation.specs.declared.operation.Operation.TheVariants as o
use Rattle.fk_tree.specs.Tree as trees
use Rattle.fk_tree.specs.Tree.{Tree}
use Rattle.fk_tree.proofs.Lists.{below-has}
use Rattle.fk_meaning.specs.Processor.{Setting}
use Rattle.fk_meaning.specs.Round.{Step, Runner, State, Acting}
use Rattle.fk_lockstep.proofs.Rounds.{map_at}
use Rattle.fk_core.specs.declared.op.CoreOp.{CoreOp}
use Rattle.fk_core.specs.Next.{Position, landing, next}
use Rattle.fk_sim_nodes.specs.Phase.{Phase, Leaving}
use Rattle.fk_sim_match.specs.Stage.{Commits, Unites, Stage, Ended, Acts, Meets, count_of_stage, counts_for, Pairwise, Remains, IsOver}
use Rattle.fk_lockstep.proofs.Round.{first_is, some_at}
use Rattle.fk_lockstep_tree.proofs.Acts.{acts, counts_as}
use Rattle.fk_sim_block.specs.Owner.{Owner, Doing}
use Rattle.fk_sim_block.specs.Next.{OpAt, step_at}
use Rattle.fk_sim_block.specs.Node.{Nestings}
use Rattle.fk_sim_match.specs.Nodes.{is_lockstep}
use Rattle.fk_sim_match.specs.Rounds.{joint_at_word, ending_of, IsDueAt, AllDue}
use Rattle.fk_sim_rounds.specs.Next.{JumpsLead, AllAbout}
use Rattle.fk_sim_rounds.specs.After.{runners_of, DoesStep}
use Rattle.fk_lockstep_nodes.specs.Steps.{KeepsOrDoes, only}
use Rattle.fk_sim_rounds.specs.Rounds.{IsKnownRound}
use Rattle.fk_sim_rounds.specs.Beside.{landed_runner, landed_state}
use Rattle.fk_sim_rounds.proofs.Landed.{next_landed}
use Rattle.fk_sim_runs.specs.Lists.{IsOfTree}
use Rattle.fk_sim_runs.specs.Facts.{BeginsGroup}
use Rattle.fk_sim_runs.specs.Behind.{HadNext, UnitedHadNext, IsRoundOf, AreReached, ReachedStagesGoOn}
use Rattle.fk_sim_runs.proofs.Ways.{next_at}
use Rattle.fk_sim_runs.proofs.Known.{reached_rounds_are_known}
use Rattle.fk_sim_runs.proofs.Behind.{single, landing_possible, actors_are, did_many, many, reached_rounds_go_on}

module _ (core : List CoreOp) (tree : Tree) (spaces : ℕ → Space) where
  -- a stage that is over is that of one who had something left to do
  over_next : (g : ℕ) (x : Stage) (r : Runner Position) → IsOver x → IsDueAt core tree spaces g x r → next core r.left ≢ None
  over_next g Ended r over due none = let clash : ◌≡◌ {A = Option ℕ} None (Some 0) = over in cc
  over_next g (Acts d inner) r over due none = let clash : None ≡ Some due.step = sym none ∙ due.next_is in cc
  over_next g (Meets e w f) r over due none = let clash : None ≡ Some due.1.step = sym none ∙ due.1.next_is in cc

  remained_next : (g : ℕ) (x : Stage) (a : Option Stage) (r : Runner Position) → Remains x a → IsDueAt core tree spaces g x r → a ≡ None → next core r.left ≢ None
  remained_next g x None r over due gone = over_next g x r over due
  remained_next g x (Some y) r stays due gone = absurd (cc)

  had : (leads : JumpsLead core) (number : ℕ) (stages : List Stage) (afters : List (Option Stage)) (rs : List (Runner Position))
      → AllDue core tree spaces number stages (map (landed_runner core) rs) → Pairwise Remains stages afters → HadNext core afters rs
  had leads number [] [] [] due stay = tt
  had leads number (x ∷ stages) (a ∷ afters) (r ∷ rs) due stay = (
    (λ gone none. remained_next (tree.places number) x a (landed_runner core r) stay.0 due.1 gone (next_landed core leads r.left ∙ none)),
    had leads (suc number) stages afters rs due.2 stay.1,
  )
  had leads number [] (a ∷ afters) rs due stay = absurd stay
  had leads number (x ∷ stages) [] rs due stay = absurd stay
  had leads number [] [] (r ∷ rs) due stay = absurd due
  had leads number (x ∷ stages) (a ∷ afters) [] due stay = absurd due

  -- who commits by itself in the root doesn't begin a group: those who do unite first
  begins_alone : (op : Operation) → op ≡ o.Begin → joint_of op ≡ Alone → ⊥
  begins_alone op e alone = let clash : Starting ≡ Alone = sym (ap joint_of e) ∙ alone in cc

  starts_by : (j : Joint) → j ≡ Starting → Commits ≡ ending_of j → ⊥
  starts_by j e ends = let clash : Commits ≡ Unites = ends ∙ ap ending_of e in cc

  united_count : (w : ℕ) (f : Phase) → count_of_stage (Meets Unites w f) ≡ 0
  united_count w (Leaving d) = refl
  united_count w f = refl

  begins_none : (g : ℕ) (x : Stage) (r : Runner Position) (step : Step Position) → count_of_stage x ≡ 1 → IsDueAt core tree spaces g x r → is_lockstep (trees.kind tree g) ≡ false
      → next core r.left ≡ Some step → step.operation ≡ o.Begin → ⊥
  begins_none g Ended r step one due free e begins = let both : 0 ≡ 1 = one in omega (arith, both)
  begins_none g (Acts d inner) r step one due free e begins =
      let same : due.step ≡ step = first_is due.step step (sym due.next_is ∙ e) in
      begins_alone due.step.operation (ap (λ (x : Step Position). x.operation) same ∙ begins) (due.joint free)
  begins_none g (Meets Commits w f) r step one due free e begins =
      let m = due.1 in
      let same : m.step ≡ step = first_is m.step step (sym m.next_is ∙ e) in
      let op : m.step.operation ≡ o.Begin = ap (λ (x : Step Position). x.operation) same ∙ begins in
      starts_by (joint_at_word g (trees.kind tree g) m.offset) (sym m.joint ∙ ap joint_of op) m.ends
  begins_none g (Meets Unites w f) r step one due free e begins = let none = united_count w f in omega (arith, one, none)

-- of the first processor
first_due : (core : List CoreOp) (tree : Tree) (spaces : ℕ → Space) (stages : List Stage) (rs : List (Runner Position)) (r : Runner Position) → AllDue core tree spaces 0 stages rs
    → slice_get rs 0 ≡ Some r → (x : Stage) × IsDueAt core tree spaces (tree.places 0) x r × (slice_index (counts_for stages) 0 ≡ count_of_stage x)
first_due core tree spaces (x ∷ stages) (q ∷ rs) r due at = (x, subst (IsDueAt core tree spaces (tree.places 0) x) (first_is q r at) due.1, refl)
first_due core tree spaces [] [] r due at = absurd (cc)
first_due core tree spaces [] (q ∷ rs) r due at = absurd due
first_due core tree spaces (x ∷ stages) [] r due at = absurd due

module _ (core : List CoreOp) (nestings : Nestings) (main : ℕ) (setting : Setting) (s : State Position) (stages : List Stage) (did : List Doing) (list : IsOfTree core nestings main)
    (reached : AreReached core setting s stages nestings) (round : IsRoundOf core setting s stages did) (spaces : ℕ → Space) (due : AllDue core s.tree spaces 0 stages (landed_state core s).runners) where
  no_group : BeginsGroup s.tree did → ⊥
  no_group begins =
      let some = reached.before.stands.sound.some in
      let size = did_many core nestings main setting s stages did list reached round in
      let long = many core nestings main setting s stages did list reached round in
      let d = some_at did 0 (omega (arith, some, size)) in
      let r = some_at s.runners 0 (omega (arith, some, long)) in
      let at : slice_get (map (landed_runner core) s.runners) 0 ≡ Some (landed_runner core r.0) = map_at (landed_runner core) s.runners 0 r.0 r.1 in
      let one = single core nestings main setting s stages did list reached round in
      let can = landing_possible core nestings main setting s stages did list reached round in
      let landing = landed_state core s in
      let b = acts (next core) setting (counts_for stages) landing one can 0 (below landing.runners (landed_runner core r.0) at) in
      let runner : b.runner ≡ landed_runner core r.0 = first_is b.runner (landed_runner core r.0) (sym b.is ∙ at) in
      let same : b.acting ≡ d.0.acting
      = first_is b.acting d.0.acting
      (sym b.at ∙ ap (λ l. slice_get l 0) (actors_are core nestings main setting s stages did list reached round) ∙ map_at (λ (x : Doing). x.acting) did 0 d.0 d.1) in
      let place : s.tree.places 0 ≡ 0 = begins.stand 0 (subst (λ (l : List ℕ). trees.is_member 0 l ≡ true) (sym reached.before.stands.sound.root) (below-has setting.processors 0 [] (omega (arith, some)))) in
      let x = first_due core s.tree spaces stages (map (landed_runner core) s.runners) (landed_runner core r.0) due at in
      let free : is_lockstep (trees.kind s.tree (s.tree.places 0)) ≡ false = ap (λ (n : ℕ). is_lockstep (trees.kind s.tree n)) place ∙ ap is_lockstep begins.kind in
      let does : DoesStep o.Begin d.0.acting.due = first_does did d.0 d.1 begins place in
      let does_too : DoesStep o.Begin b.acting.due = subst (λ (a : Acting Position). DoesStep o.Begin a.due) (sym same) does in
      ⊎_elim
      (λ idle. subst (DoesStep o.Begin) (ap (λ (a : Acting Position). a.due) idle.0) does_too)
      (λ busy. ⊎_elim
      (λ moved. subst (DoesStep o.Begin) moved.due does_too)
      (λ z.
      let begun : z.step.operation ≡ o.Begin = subst (DoesStep o.Begin) (ap (λ (a : Acting Position). a.due) z.is) does_too in
      begins_none core s.tree spaces (s.tree.places 0) x.0 (landed_runner core r.0) z.step (sym x.2 ∙ counts_as (next core) setting (counts_for stages) landing one can 0 b ∙ busy.0) x.1 free
      (ap (λ (q : Runner Position). next core q.left) (sym runner) ∙ z.next_is) begun)
      busy.1)
      b.comes
    where
      below : (rs : List (Runner Position)) (q : Runner Position) → slice_get rs 0 ≡ Some q → 0 < length rs
      below [] q at = absurd (cc)
      below (q' ∷ rs) q at = omega arith

      first_does : (ds : List Doing) (d : Doing) → slice_get ds 0 ≡ Some d → BeginsGroup s.tree ds → s.tree.places 0 ≡ 0 → DoesStep o.Begin d.acting.due
      first_does [] d at begins' place = absurd (cc)
      first_does (c ∷ ds) d at begins' place =
          subst (λ (x : Doing). DoesStep o.Begin x.acting.due) (first_is c d at)
          (subst (λ (n : ℕ). KeepsOrDoes (only 0 o.Begin n) c.acting.due) place begins'.steps.1)

  known : IsKnownRound s.tree did
  known =
      ⊎_elim (λ is. is) (λ begins. absurd (no_group begins))
      (reached_rounds_are_known core nestings main setting stages s round.ps did round.shared round.shared' list reached.before round.order round.beside round.singles round.possible round.passes)

pub reached_stages_go_on : ReachedStagesGoOn
reached_stages_go_on core nestings main setting s stages afters did spaces list limit reached round due stay = (
  known core nestings main setting s stages did list reached round spaces due,
  reached_rounds_go_on core nestings main setting s stages afters did list limit reached round
      (had core s.tree spaces list.jumps 0 stages afters s.runners due stay),
)

-- ---- where all begin

pub united_had_next : UnitedHadNext
united_had_next core setting s ps shared i op afters leads beside stands about as_many = by s.runners ps afters beside.runners about as_many
  where
    by : (rs : List (Runner Position)) (qs : List Owner) (as' : List (Option Stage)) → runners_of qs ≡ map (landed_runner core) rs → AllAbout i op o.Begin qs → length as' ≡ length rs → HadNext core as' rs
    by [] qs [] same all long = tt
    by (r ∷ rs) (q ∷ qs) (a ∷ as') same all long =
        let first : q.runner ≡ landed_runner core r = cc in
        let rest : runners_of qs ≡ map (landed_runner core) rs = cc in
        let at : landing core r.left.at ≡ i = sym (ap (λ (x : Runner Position). x.left.at) first) ∙ all.0 in
        let next_is = next_at core r.left op o.Begin (subst (λ (j : ℕ). OpAt core j op o.Begin) (sym at) stands) in (
          (λ gone none. let clash : None ≡ Some (step_at core (landing core r.left.at) op o.Begin r.left.callers) = sym none ∙ next_is in cc),
          by rs qs as' rest all.2 (omega (arith, long)),
        )
    by [] qs (a ∷ as') same all long = absurd (omega (arith, long))
    by (r ∷ rs) qs [] same all long = absurd (omega (arith, long))
    by (r ∷ rs) [] (a ∷ as') same all long = absurd (cc)
