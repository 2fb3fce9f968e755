-- The chain of a node whose members are each at a stage by themselves.
use Rattle.std.proofs.Common.{◌≡◌, ◌≢◌, ℕ, zero, suc, List, [], ◌∷◌, Option, Some, None, Bool, true, false, cond, sym, ap, subst, ◌∙◌, refl, ◌⊎◌, inl, inr, eq-eqb}
use Rattle.std.proofs.lemmas.Bool.{cases_eq, ne_eqb}
use Rattle.std.specs.Prelude.{◌==◌, ◌&&◌}
use Rattle.fk_num.specs.Word.{Memory}
use Rattle.fk_image.specs.declared.Image.{Image}
use Rattle.fk_machine.specs.Hart.{Hart, Shared, Setting}
use Rattle.fk_machine.specs.Cycle.{before, turn}
use Rattle.fk_machine.specs.Run.{count_of}
use Rattle.fk_sim_nodes.specs.Node.{Member, Has, AreApart}
use Rattle.fk_sim_nodes.specs.Source.{Source, Shows}
use Rattle.fk_sim_nodes.specs.Chain.{runs, Passing, Faulting, Chain}
use Rattle.fk_sim_nodes.specs.Alone.{later, RunsPrivately}
use Rattle.fk_sim_nodes.specs.OneHart.{OneCommits}
use Rattle.fk_sim_nodes.proofs.Runs.{private_stays}
use Rattle.fk_sim_nodes.proofs.Members.{runs_at, stays_passing}
use Rattle.fk_sim_nodes.proofs.OneHart.{one_passes}
use Rattle.fk_sim_nodes.specs.Phase.{Phase, Outside, Away, Coming, Waiting, Leaving, is_odd, word_after, polled, Moves, AllMove}
use Rattle.fk_sim_match.specs.Stage.{Ending, Commits, Unites, Stage, Ended, Acts, Meets, distance, count_of_stage, kept, absent, phase_of, Remains}
use Rattle.fk_sim_match.specs.Plan.{Plan, IsOpen, phases_of, Blocks, told_by, IsInside, IsIdle, StandsAt, AllStandAt, Turn, JointBlocksTurn}
use Rattle.fk_sim_match.specs.Cycle.{Went, Leaves, HaveMoved, StagesAreChains}

-- who is in no phase at a word leaves it as it is
absent_word : (member : Bool) (v : ℕ) → word_after (absent member) v ≡ v
absent_word true v = refl
absent_word false v = refl

absent_moves : (t n lead v : ℕ) (member : Bool) → Moves t n lead v (absent member) (absent member)
absent_moves t n lead v true = tt
absent_moves t n lead v false = refl

-- or it stands at another word, or at this one
abbrev AtWord : ℕ → ℕ → Type 0
AtWord v w = (v ≡ w) ⊎ (v ≢ w)

module _ {S P D : Type 0} (source : Source S P D) (image : Image) (plan : Plan) (blocks : Blocks P D) where
  -- the phase of a member at a word
  abbrev here_at : ℕ → Member → Option Stage → Phase
  here_at w m a = phase_of w (plan.member w m.number) a

  -- the turn of one member
  record One (t : Setting) (g : ℕ) (s : Stage) (p : P) (own : Memory) (m' : Member) (d : D) (own' : Memory) : Type 0 where
    after : Option Stage
    stays : Remains s after
    went : Went source image plan blocks (later t) g after m' p d
    leaves : Leaves source image plan blocks (later t) g s m' p d
    moves : (w : ℕ) → IsOpen plan g w → Moves t.finished (plan.size w) blocks.lead (own w) (here_at w m' (Some s)) (here_at w m' after)
    here : (w : ℕ) → own' w ≡ word_after (here_at w m' (Some s)) (own w)
    others : (i : ℕ) → plan.arrivals i ≡ false → own' i ≡ own i

  -- who is free leaves the node's words
  free : (t : Setting) (g : ℕ) (s : Stage) (a : Option Stage) (p : P) (own : Memory) (m' : Member) (d : D)
      → ((w : ℕ) (member : Bool) → phase_of w member (Some s) ≡ absent member) → ((w : ℕ) (member : Bool) → phase_of w member a ≡ absent member)
      → Remains s a → Went source image plan blocks (later t) g a m' p d → Leaves source image plan blocks (later t) g s m' p d → One t g s p own m' d own
  free t g s a p own m' d e f stays went leaves = record {
    after = a;
    stays = stays;
    went = went;
    leaves = leaves;
    moves = λ w is_open.
        let member = plan.member w m'.number in
        subst (λ x. Moves t.finished (plan.size w) blocks.lead (own w) x (phase_of w member a)) (sym (e w member))
        (subst (λ x. Moves t.finished (plan.size w) blocks.lead (own w) (absent member) x) (sym (f w member)) (absent_moves t.finished (plan.size w) blocks.lead (own w) member));
    here = λ w. let member = plan.member w m'.number in sym (ap (λ x. word_after x (own w)) (e w member) ∙ absent_word member (own w));
    others = λ i no_arrival. refl;
  }

  -- who is in a phase of a joint block
  after_at : (ending : Ending) (v w : ℕ) (member : Bool) (f : Phase) → AtWord v w → (v ≡ w → member ≡ true) → (own words : Memory) → words v ≡ word_after f (own v)
      → ((i : ℕ) → i ≢ v → words i ≡ own i) → words w ≡ word_after (phase_of w member (Some (Meets ending v f))) (own w)
  after_at ending v w member f (inl e) is own words here others =
      ap words (sym e) ∙ here ∙ ap (λ k. word_after f (own k)) e ∙ ap (λ b. word_after (cond b f (absent member)) (own w)) (sym (eq-eqb v w e))
  after_at ending v w member f (inr ne) is own words here others =
      others w (λ e. ne (sym e)) ∙ sym (absent_word member (own w)) ∙ ap (λ b. word_after (cond b f (absent member)) (own w)) (sym (ne_eqb v w ne))

  -- the phase after its turn, at its own word and at others
  abbrev IsAfter : ℕ → Option Stage → Phase → Type 0
  IsAfter v a f' = ((w : ℕ) (member : Bool) → (v ≡ w → member ≡ true) → v ≡ w → phase_of w member a ≡ f') × ((w : ℕ) (member : Bool) → v ≢ w → phase_of w member a ≡ absent member)

  is_after_some : (ending : Ending) (v : ℕ) (f' : Phase) → IsAfter v (Some (Meets ending v f')) f'
  is_after_some ending v f' =
      (λ w member is e. ap (λ b. cond b f' (absent member)) (eq-eqb v w e), λ w member ne. ap (λ b. cond b f' (absent member)) (ne_eqb v w ne))

  is_after_none : (v : ℕ) → IsAfter v None Away
  is_after_none v = (λ w member is e. ap absent (is e), λ w member ne. refl)

  moves_at : (ending : Ending) (t : Setting) (v w : ℕ) (member : Bool) (f f' : Phase) (a : Option Stage) (own : Memory) → AtWord v w → (v ≡ w → member ≡ true) → IsAfter v a f'
      → Moves t.finished (plan.size v) blocks.lead (own v) f f' → Moves t.finished (plan.size w) blocks.lead (own w) (phase_of w member (Some (Meets ending v f))) (phase_of w member a)
  moves_at ending t v w member f f' a own (inl e) is after moves =
      subst (λ x. Moves t.finished (plan.size w) blocks.lead (own w) (phase_of w member (Some (Meets ending v f))) x) (sym (after.0 w member is e))
      (subst (λ b. Moves t.finished (plan.size w) blocks.lead (own w) (cond b f (absent member)) f') (sym (eq-eqb v w e))
      (subst (λ k. Moves t.finished (plan.size k) blocks.lead (own k) f f') e moves))
  moves_at ending t v w member f f' a own (inr ne) is after moves =
      subst (λ x. Moves t.finished (plan.size w) blocks.lead (own w) (phase_of w member (Some (Meets ending v f))) x) (sym (after.1 w member ne))
      (subst (λ b. Moves t.finished (plan.size w) blocks.lead (own w) (cond b f (absent member)) (absent member)) (sym (ne_eqb v w ne))
      (absent_moves t.finished (plan.size w) blocks.lead (own w) member))

  met_by : (t : Setting) (g : ℕ) (ending : Ending) (v : ℕ) (f : Phase) (a : Option Stage) (m : Member) (p : P) (own : Memory) → IsOpen plan g v → plan.member v m.number ≡ true
      → (took : Turn source image plan blocks t g ending v f m p own) → Remains (Meets ending v f) a → IsAfter v a took.phase
      → Went source image plan blocks (later t) g a (record m { hart = took.hart }) p took.done
      → Leaves source image plan blocks (later t) g (Meets ending v f) (record m { hart = took.hart }) p took.done
      → One t g (Meets ending v f) p own (record m { hart = took.hart }) took.done took.words
  met_by t g ending v f a m p own is_open member took stays after went leaves =
      let is : (w : ℕ) → v ≡ w → plan.member w m.number ≡ true = λ w e. subst (λ k. plan.member k m.number ≡ true) e member in
      record {
        after = a;
        stays = stays;
        went = went;
        leaves = leaves;
        moves = λ w o. moves_at ending t v w (plan.member w m.number) f took.phase a own (cases_eq v w) (is w) after took.moves;
        here = λ w. after_at ending v w (plan.member w m.number) f (cases_eq v w) (is w) own took.words took.arrivals took.others;
        others = λ i no_arrival. took.others i (λ e. let x : false ≡ true = sym no_arrival ∙ ap plan.arrivals e ∙ is_open.1 in cc);
      }

  inside_polled : (b : Bool) → IsInside (polled blocks.lead b)
  inside_polled true = tt
  inside_polled false = tt

  abbrev MetOne : Setting → (g : ℕ) → Ending → (v : ℕ) → Phase → Member → P → Memory → Type 0
  MetOne t g ending v f m p own =
      (took : Turn source image plan blocks t g ending v f m p own) → One t g (Meets ending v f) p own (record m { hart = took.hart }) took.done took.words

  met : (t : Setting) (g : ℕ) (ending : Ending) (v : ℕ) (f : Phase) (m : Member) (p : P) (own : Memory) → IsInside f → IsOpen plan g v → plan.member v m.number ≡ true
      → MetOne t g ending v f m p own
  met t g ending v Outside m p own inside is_open member took = absurd inside
  met t g ending v Away m p own inside is_open member took = absurd inside
  met t g ending v (Coming zero) m p own inside is_open member took =
      met_by t g ending v (Coming zero) (Some (Meets ending v took.phase)) m p own is_open member took (refl, tt, (refl, refl), refl) (is_after_some ending v took.phase)
      (took.follows.0, (subst IsInside (sym took.moves) tt, is_open, member, took.follows.1)) tt
  met t g ending v (Coming (suc d)) m p own inside is_open member took =
      met_by t g ending v (Coming (suc d)) (Some (Meets ending v took.phase)) m p own is_open member took (refl, tt, (refl, refl), refl) (is_after_some ending v took.phase)
      (took.follows.0, (subst IsInside (sym took.moves) tt, is_open, member, took.follows.1)) tt
  met t g ending v Waiting m p own inside is_open member took =
      met_by t g ending v Waiting (Some (Meets ending v took.phase)) m p own is_open member took (refl, tt, (refl, refl), refl) (is_after_some ending v took.phase)
      (took.follows.0, (subst IsInside (sym took.moves) (inside_polled (is_odd t.finished && own v == plan.size v)), is_open, member, took.follows.1)) tt
  met t g Commits v (Leaving zero) m p own inside is_open member took =
      met_by t g Commits v (Leaving zero) None m p own is_open member took refl (subst (IsAfter v None) (sym took.follows.0) (is_after_none v)) (inl took.follows.1) took.follows.1
  met t g Unites v (Leaving zero) m p own inside is_open member took =
      met_by t g Unites v (Leaving zero) None m p own is_open member took refl (subst (IsAfter v None) (sym took.follows.0) (is_after_none v)) (inr took.follows.1) took.follows.1
  met t g Commits v (Leaving (suc d)) m p own inside is_open member took =
      met_by t g Commits v (Leaving (suc d)) (Some (Meets Commits v took.phase)) m p own is_open member took (refl, ap (λ f. distance (Meets Commits v f)) took.moves, (refl, refl), refl)
      (is_after_some Commits v took.phase) (took.follows.0, (subst IsInside (sym took.moves) tt, is_open, member, took.follows.1)) tt
  met t g Unites v (Leaving (suc d)) m p own inside is_open member took =
      met_by t g Unites v (Leaving (suc d)) (Some (Meets Unites v took.phase)) m p own is_open member took (refl, tt, (refl, refl), refl) (is_after_some Unites v took.phase)
      (took.follows.0, (subst IsInside (sym took.moves) tt, is_open, member, took.follows.1)) tt

  one_turn : (t : Setting) (g : ℕ) (s : Stage) (m : Member) (p : P) (own : Memory) (earlier : List ℕ) (sh : Shared) (st : S) (Then : Hart → D → Memory → Type 0)
      → IsIdle source blocks.idle → JointBlocksTurn source image plan blocks → AreApart (plan.words g) source.common
      → StandsAt source image plan blocks t g s m p → Shows source earlier sh st → Has (plan.words g) sh.control own
      → ((h : Hart) (d : D) (own' : Memory) → One t g s p own (record m { hart = h }) d own' → Then h d own')
      → Passing source image (plan.words g) t m p earlier sh st Then ⊎ Faulting source image (plan.words g) t m p sh st
  one_turn t g Ended m p own earlier sh st Then idle joint apart stands shows has follows =
      let at : runs m.hart ≡ None = ap (λ e. cond e None (Some m.hart.pc)) stands in
      inl (record {
        hart = m.hart;
        shared = sh;
        own = own;
        store = st;
        done = blocks.idle p;
        part = ap (λ r. source.part (count_of image r) st p) at ∙ idle st p;
        turned = λ hs others. ap (λ e. turn e t m.number m.hart hs others sh) stands ∙ ap (λ r. before m.hart r (others sh)) (sym at);
        shows = shows;
        has = has;
        keeps = λ i e f. refl;
        follows = follows m.hart (blocks.idle p) own (free t g Ended (Some Ended) p own m (blocks.idle p) (λ w b. refl) (λ w b. refl) (refl, tt, tt, refl) (refl, stands) tt);
      })
  one_turn t g (Acts (suc d) inner) m p own earlier sh st Then idle joint apart stands shows has follows =
      let l = stands.1 in
      inl (stays_passing source image (plan.words g) t 0 m p (blocks.idle p) own l.runs.0 own earlier sh st Then apart shows has
      (private_stays image (plan.words g) t m own l.runs.0 l.runs.1) (idle st p)
      (follows l.runs.0 (blocks.idle p) own
      (free t g (Acts (suc d) inner) (Some (Acts d inner)) p own (record m { hart = l.runs.0 }) (blocks.idle p) (λ w b. refl) (λ w b. refl) (refl, refl, refl, refl)
      (refl, (stands.0, record { committing = l.committing; runs = l.runs.2; commits = l.commits })) tt)))
  one_turn t g (Acts zero inner) m p own earlier sh st Then idle joint apart stands shows has follows =
      let l = stands.1 in
      let After : Hart → D → Type 0 = λ h x. (h' : Hart) × RunsPrivately image (later t) m.number stands.0 h h' × blocks.AfterOne g stands.0 (record m { hart = h' }) p x in
      let c = subst (λ h. OneCommits source image t (suc inner) (record m { hart = h }) p After) (sym l.runs) l.commits in
      one_passes source image (plan.words g) t (suc inner) m p own earlier sh st After Then apart shows has c
      (λ h d x. follows h d own (free t g (Acts zero inner) None p own (record m { hart = h }) d (λ w b. refl) (λ w b. refl) refl (inl (stands.0, x.0, x.1, x.2)) (stands.0, x.0, x.1, x.2))) (c.does st)
  one_turn t g (Meets ending v f) m p own earlier sh st Then idle joint apart stands shows has follows =
      let took = joint t g ending v f m p own stands.0 stands.1 stands.3 in
      inl (stays_passing source image (plan.words g) t (count_of_stage (Meets ending v f)) m p took.done own took.hart took.words earlier sh st Then apart shows has took.stays (took.takes st)
      (follows took.hart took.done took.words (met t g ending v f m p own stands.0 stands.1 stands.2 took)))

  -- ---- all members

  no_one : (t : Setting) (g : ℕ) (own : Memory) → HaveMoved source image plan blocks t g [] [] own [] [] own
  no_one t g own = record { afters = []; went = tt; leave = tt; moves = λ w is_open. refl; others = λ i no_arrival. refl }

  one_more : (t : Setting) (g : ℕ) (s : Stage) (stages : List Stage) (p : P) (ps : List P) (own own1 own' : Memory) (m' : Member) (ms' : List Member) (d : D) (ds : List D)
      → One t g s p own m' d own1 → HaveMoved source image plan blocks t g stages ps own1 ms' ds own'
      → HaveMoved source image plan blocks t g (s ∷ stages) (p ∷ ps) own (m' ∷ ms') (d ∷ ds) own'
  one_more t g s stages p ps own own1 own' m' ms' d ds o r = record {
    afters = o.after ∷ r.afters;
    went = (o.stays, o.went, r.went);
    leave = (o.leaves, r.leave);
    moves = λ w is_open. (
      o.moves w is_open,
      subst (λ v. AllMove t.finished (plan.size w) blocks.lead (phases_of plan w ms' (kept stages)) v (phases_of plan w ms' r.afters) (own' w)) (o.here w) (r.moves w is_open),
    );
    others = λ i no_arrival. r.others i no_arrival ∙ o.others i no_arrival;
  }

  pub stages_chain : (t : Setting) (g : ℕ) (stages : List Stage) (ms : List Member) (ps : List P) (own : Memory) (Then : List Member → List D → Memory → Type 0)
      → IsIdle source blocks.idle → JointBlocksTurn source image plan blocks → AreApart (plan.words g) source.common
      → AllStandAt source image plan blocks t g stages ms ps
      → ((ms' : List Member) (ds : List D) (own' : Memory) → HaveMoved source image plan blocks t g stages ps own ms' ds own' → Then ms' ds own')
      → Chain source image (plan.words g) t ms ps own Then
  stages_chain t g [] [] [] own Then idle joint apart all follows = follows [] [] own (no_one t g own)
  stages_chain t g (s ∷ stages) (m ∷ ms) (p ∷ ps) own Then idle joint apart all follows =
      λ earlier sh st shows has.
      one_turn t g s m p own earlier sh st
      (λ h d own1. Chain source image (plan.words g) t ms ps own1 (λ ms' ds. Then (record m { hart = h } ∷ ms') (d ∷ ds)))
      idle joint apart all.0 shows has
      (λ h d own1 o.
      stages_chain t g stages ms ps own1 (λ ms' ds. Then (record m { hart = h } ∷ ms') (d ∷ ds)) idle joint apart all.1
      (λ ms' ds own' r. follows (record m { hart = h } ∷ ms') (d ∷ ds) own' (one_more t g s stages p ps own own1 own' (record m { hart = h }) ms' d ds o r)))
  stages_chain t g stages ms ps own Then idle joint apart all follows = absurd (assumption all)

  -- ---- the counts

  pub stage_count : (t : Setting) (g : ℕ) (s : Stage) (m : Member) (p : P) → JointBlocksTurn source image plan blocks
      → StandsAt source image plan blocks t g s m p → count_of image (runs m.hart) ≡ count_of_stage s
  stage_count t g Ended m p joint stands = ap (λ e. count_of image (cond e None (Some m.hart.pc))) stands
  stage_count t g (Acts (suc d) inner) m p joint stands = let l = stands.1 in ap (count_of image) (runs_at m.hart l.runs.1.live) ∙ l.runs.1.counted
  stage_count t g (Acts zero inner) m p joint stands =
      let l = stands.1 in
      let After : Hart → D → Type 0 = λ h x. (h' : Hart) × RunsPrivately image (later t) m.number stands.0 h h' × blocks.AfterOne g stands.0 (record m { hart = h' }) p x in
      let c = subst (λ h. OneCommits source image t (suc inner) (record m { hart = h }) p After) (sym l.runs) l.commits in
      ap (count_of image) (runs_at m.hart c.live) ∙ c.counted
  stage_count t g (Meets ending v f) m p joint stands =
      let took = joint t g ending v f m p (λ i. 0) stands.0 stands.1 stands.3 in
      ap (count_of image) (runs_at m.hart took.stays.live) ∙ took.stays.counted

pub stages_are_chains : (S P D : Type 0) → StagesAreChains S P D
stages_are_chains S P D source image plan tests t g stages ms ps own idle joint apart all =
    stages_chain source image plan (told_by tests) t g stages ms ps own (HaveMoved source image plan (told_by tests) t g stages ps own) idle joint apart all
    (λ ms' ds own' moved. moved)
