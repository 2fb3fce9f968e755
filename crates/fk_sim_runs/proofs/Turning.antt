-- Behind a cycle those who meet have moved, and all are in time.
use Rattle.std.proofs.Common.{◌≡◌, ◌≢◌, ℕ, zero, suc, ◌+◌, ◌<◌, ◌^◌, List, [], ◌∷◌, length, Option, Some, None, Bool, true, false, sym, ap, subst, ◌∙◌, refl, arith, ⊎_elim, eq-eqb}
use Rattle.std.specs.Prelude.{◌==◌, ◌&&◌, slice_get}
use Rattle.std.proofs.lemmas.Bool.{false≢true}
use Rattle.std.proofs.lemmas.Option.{slice_get_within}
use Rattle.fk_num.specs.Word.{Memory}
use Rattle.fk_image.specs.declared.Image.{Image}
use Rattle.fk_machine.specs.Hart.{Hart, Setting}
use Rattle.fk_sim_nodes.specs.Node.{Member, numbered}
use Rattle.fk_sim_nodes.specs.Source.{Source}
use Rattle.fk_sim_nodes.specs.Alone.{later}
use Rattle.fk_sim_nodes.specs.Phase.{Phase, Outside, Away, Coming, Waiting, Leaving, is_odd, word_after, polled, Moves, AllMove}
use Rattle.fk_sim_match.specs.Stage.{Ending, Commits, Unites, Stage, Ended, Acts, Meets, count_of_stage, IsOver, Pairwise, Remains, kept}
use Rattle.fk_sim_match.specs.Plan.{Plan, Blocks, IsInside, phases, told_by, IsBound}
use Rattle.fk_sim_match.specs.Change.{AllAreNew, Changes, AllChange, TreeChanges, GoesOn}
use Rattle.fk_sim_block.specs.Joint.{lead}
use Rattle.fk_sim_match.specs.Uniting.{unites_now, NobodyUnites}
use Rattle.fk_sim_rounds.proofs.Agreed.{some_elem}
use Rattle.fk_sim_rounds.proofs.Groups.{many_length}
use Rattle.fk_sim_runs.specs.Pace.{IsInTime, AreInTime, MovesOn, Turns}
use Rattle.fk_sim_runs.specs.Turning.{AreFreshInTime, NobodyHasUnited, PlansTurn}
use Rattle.fk_sim_runs.proofs.Stages.{related_at, kept_get, meets_get, free_there, meets_there}

-- ---- elements

pub in_time_at : (stages : List Stage) (h : ℕ) (s : Stage) → AreInTime stages → slice_get stages h ≡ Some s → IsInTime s
in_time_at [] h s all at = absurd (cc)
in_time_at (x ∷ stages) zero s all at = let same : x ≡ s = cc in subst IsInTime same all.0
in_time_at (x ∷ stages) (suc h) s all at = in_time_at stages h s all.1 at

in_time_by : (stages : List Stage) → ((h : ℕ) (s : Stage) → slice_get stages h ≡ Some s → IsInTime s) → AreInTime stages
in_time_by [] at = tt
in_time_by (x ∷ stages) at = (at 0 x refl, in_time_by stages (λ h s here. at (suc h) s here))

fresh_at : (afters : List (Option Stage)) (stages : List Stage) (h : ℕ) (s : Stage) → AreFreshInTime afters stages → slice_get afters h ≡ Some None → slice_get stages h ≡ Some s → IsInTime s
fresh_at [] [] h s all gone at = absurd (cc)
fresh_at (a ∷ afters) (x ∷ stages) zero s all gone at = let none : a ≡ None = cc in let same : x ≡ s = cc in subst IsInTime same (all.0 none)
fresh_at (a ∷ afters) (x ∷ stages) (suc h) s all gone at = fresh_at afters stages h s all.1 gone at
fresh_at afters stages h s all gone at = absurd (assumption all)

new_at : (g : ℕ) (ns : List ℕ) (afters : List (Option Stage)) (h : ℕ) (a : Option Stage) → AllAreNew g ns afters → slice_get ns h ≡ Some g → slice_get afters h ≡ Some a → a ≡ None
new_at g [] [] h a all here at = absurd (cc)
new_at g (n ∷ ns) (b ∷ afters) zero a all here at = let node : n ≡ g = cc in let same : b ≡ a = cc in sym same ∙ all.0 (eq-eqb n g node)
new_at g (n ∷ ns) (b ∷ afters) (suc h) a all here at = new_at g ns afters h a all.1 here at
new_at g ns afters h a all here at = absurd (assumption all)

record MovesAt (t n l : ℕ) (f f' : Phase) : Type 0 where
  found : ℕ
  moves : Moves t n l found f f'

move_at : (t n l : ℕ) (fs fs' : List Phase) (v v' h : ℕ) (f f' : Phase) → AllMove t n l fs v fs' v' → slice_get fs h ≡ Some f → slice_get fs' h ≡ Some f' → MovesAt t n l f f'
move_at t n l [] [] v v' h f f' all at at' = absurd (cc)
move_at t n l (x ∷ fs) (y ∷ fs') v v' zero f f' all at at' =
    let same : x ≡ f = cc in
    let same' : y ≡ f' = cc in
    record { found = v; moves = subst (λ z. Moves t n l v z f') same (subst (λ z. Moves t n l v x z) same' all.0) }
move_at t n l (x ∷ fs) (y ∷ fs') v v' (suc h) f f' all at at' = move_at t n l fs fs' (word_after x v) v' h f f' all.1 at at'
move_at t n l fs fs' v v' h f f' all at at' = absurd (assumption all)

-- ---- phases in time

polled_in_time : (e : Ending) (w : ℕ) (all : Bool) → IsInTime (Meets e w (polled lead all))
polled_in_time e w true = omega arith
polled_in_time e w false = tt

moves_in_time : (t n v w : ℕ) (e : Ending) (f f' : Phase) → IsInside f → f ≢ Leaving 0 → IsInTime (Meets e w f) → Moves t n lead v f f' → IsInTime (Meets e w f')
moves_in_time t n v w e Outside f' inside ne few moves = absurd inside
moves_in_time t n v w e Away f' inside ne few moves = absurd inside
moves_in_time t n v w e (Coming zero) f' inside ne few moves = subst (λ x. IsInTime (Meets e w x)) (sym moves) tt
moves_in_time t n v w e (Coming (suc d)) f' inside ne few moves = subst (λ x. IsInTime (Meets e w x)) (sym moves) (omega (arith, few))
moves_in_time t n v w e Waiting f' inside ne few moves = subst (λ x. IsInTime (Meets e w x)) (sym moves) (polled_in_time e w (is_odd t && (v == n)))
moves_in_time t n v w e (Leaving zero) f' inside ne few moves = absurd (ne refl)
moves_in_time t n v w e (Leaving (suc d)) f' inside ne few moves = subst (λ x. IsInTime (Meets e w x)) (sym moves) (omega (arith, few))

-- it is over where it leaves
over_leaving : (e : Ending) (w : ℕ) (f : Phase) → IsOver (Meets e w f) → f ≡ Leaving 0
over_leaving Unites w f over = over
over_leaving Commits w (Leaving d) over = let e : d ≡ 0 = cc in ap (λ k. Leaving k) e
over_leaving Commits w Outside over = absurd (cc)
over_leaving Commits w Away over = absurd (cc)
over_leaving Commits w (Coming d) over = absurd (cc)
over_leaving Commits w Waiting over = absurd (cc)

-- who stays by itself is in time
acts_in_time : (d inner : ℕ) (s' : Stage) → Remains (Acts d inner) (Some s') → IsInTime (Acts d inner) → IsInTime s'
acts_in_time d inner Ended r few = absurd r.2
acts_in_time d inner (Meets e w f) r few = absurd r.2
acts_in_time zero inner (Acts d' inner') r few = absurd (let one = r.0 in omega (arith, one))
acts_in_time (suc d) inner (Acts d' inner') r few = let near = r.1 in let e : d' ≡ d = cc in omega (arith, few, e)

pub stay_length : (stages : List Stage) (afters : List (Option Stage)) → Pairwise Remains stages afters → length stages ≡ length afters
stay_length [] [] stay = refl
stay_length (s ∷ stages) (a ∷ afters) stay = ap suc (stay_length stages afters stay.1)
stay_length stages afters stay = absurd (assumption stay)

module _ {S P D : Type 0} (source : Source S P D) (image : Image) (plan : Plan) (blocks : Blocks P D) (plan' : Plan) (blocks' : Blocks P D) where
  -- one hart, before and behind the change
  record Changed (ns ns' : List ℕ) (afters : List (Option Stage)) (stages' : List Stage) (h : ℕ) : Type 0 where
    node : ℕ
    here : slice_get ns h ≡ Some node
    after : Option Stage
    left_at : slice_get afters h ≡ Some after
    node' : ℕ
    here' : slice_get ns' h ≡ Some node'
    stage' : Stage
    at' : slice_get stages' h ≡ Some stage'
    stays : (s : Stage) → after ≡ Some s → (node' ≡ node) × (stage' ≡ s)

  changed : (t : Setting) (number : ℕ) (hs : List Hart) (ns ns' : List ℕ) (afters : List (Option Stage)) (stages' : List Stage) (ps ps' : List P) (h : ℕ) → h < length hs
      → AllChange source image plan blocks plan' blocks' t (numbered number hs) ns ns' afters stages' ps ps' → Changed ns ns' afters stages' h
  changed t number [] ns ns' afters stages' ps ps' h lt all = absurd (omega (arith, lt))
  changed t number (x ∷ hs) (n ∷ ns) (n' ∷ ns') (a ∷ afters) (s' ∷ stages') (p ∷ ps) (p' ∷ ps') zero lt all = record {
    node = n;
    here = refl;
    after = a;
    left_at = refl;
    node' = n';
    here' = refl;
    stage' = s';
    at' = refl;
    stays = λ s is.
        let m : Member = record { number = number; hart = x } in
        let c = subst (λ b. Changes source image plan blocks plan' blocks' t m n n' b s' p p') is all.0 in
        (c.0, c.1);
  }
  changed t number (x ∷ hs) (n ∷ ns) (n' ∷ ns') (a ∷ afters) (s' ∷ stages') (p ∷ ps) (p' ∷ ps') (suc h) lt all =
      let r = changed t (suc number) hs ns ns' afters stages' ps ps' h (omega (arith, lt)) all.1 in
      record { node = r.node; here = r.here; after = r.after; left_at = r.left_at; node' = r.node'; here' = r.here'; stage' = r.stage'; at' = r.at'; stays = r.stays }
  changed t number hs ns ns' afters stages' ps ps' h lt all = absurd (assumption all)

  change_length : (t : Setting) (number : ℕ) (hs : List Hart) (ns ns' : List ℕ) (afters : List (Option Stage)) (stages' : List Stage) (ps ps' : List P)
      → AllChange source image plan blocks plan' blocks' t (numbered number hs) ns ns' afters stages' ps ps' → length afters ≡ length hs
  change_length t number [] [] [] [] [] [] [] all = refl
  change_length t number (x ∷ hs) (n ∷ ns) (n' ∷ ns') (a ∷ afters) (s' ∷ stages') (p ∷ ps) (p' ∷ ps') all = ap suc (change_length t (suc number) hs ns ns' afters stages' ps ps' all.1)
  change_length t number hs ns ns' afters stages' ps ps' all = absurd (assumption all)

  module _ (t : Setting) (stages stages' : List Stage) (afters : List (Option Stage)) (hs hs' : List Hart) (ps qs qs' : List P) (control control' : Memory) (few : length hs < 2 ^ 31)
      (lead_is : blocks.lead ≡ lead) (bound : IsBound source image plan blocks t stages hs ps (λ g. control)) (stay : Pairwise Remains stages afters)
      (changes : TreeChanges source image plan blocks plan' blocks' t hs' afters stages' qs qs' control')
      (goes : GoesOn source image plan blocks plan' blocks' t stages stages' hs' qs' (λ g. control) control')
      (nobody : NobodyHasUnited stages) (in_time : AreInTime stages) (fresh : AreFreshInTime afters stages') where
    as_many : length stages ≡ length hs'
    as_many = stay_length stages afters stay ∙ change_length (later t) 0 hs' plan.nodes plan'.nodes afters stages' qs qs' changes.harts

    change : (h : ℕ) → h < length stages → Changed plan.nodes plan'.nodes afters stages' h
    change h lt = let e = as_many in changed (later t) 0 hs' plan.nodes plan'.nodes afters stages' qs qs' h (omega (arith, lt, e)) changes.harts

    -- who meets at a word and doesn't leave stays there
    record StaysAtWord (h : ℕ) (e : Ending) (g w : ℕ) : Type 0 where
      phase : Phase
      left_at : slice_get afters h ≡ Some (Some (Meets e w phase))
      here : slice_get plan'.nodes h ≡ Some g
      at : slice_get stages' h ≡ Some (Meets e w phase)

    stays_by : (h : ℕ) (e : Ending) (g w : ℕ) (f : Phase) → slice_get plan.nodes h ≡ Some g → Changed plan.nodes plan'.nodes afters stages' h → f ≢ Leaving 0
        → (a : Option Stage) → slice_get afters h ≡ Some a → Remains (Meets e w f) a → StaysAtWord h e g w
    stays_by h e g w f here c ne None at r = absurd (ne (over_leaving e w f r))
    stays_by h e g w f here c ne (Some Ended) at r = absurd r.2
    stays_by h e g w f here c ne (Some (Acts d inner)) at r = absurd r.2
    stays_by h e g w f here c ne (Some (Meets e1 w1 f1)) at r =
        let was = c.left_at in
        let node = c.here in
        let same : c.after ≡ Some (Meets e1 w1 f1) = cc in
        let one : c.node ≡ g = cc in
        let k = c.stays (Meets e1 w1 f1) same in
        let name = ap (λ x. Meets x w1 f1) r.2.0 ∙ ap (λ x. Meets e x f1) r.2.1 in
        record {
          phase = f1;
          left_at = at ∙ ap (λ x. Some (Some x)) name;
          here = c.here' ∙ ap (λ x. Some x) (k.0 ∙ one);
          at = c.at' ∙ ap (λ x. Some x) (k.1 ∙ name);
        }

    stays : (h : ℕ) (e : Ending) (g w : ℕ) (f : Phase) → slice_get plan.nodes h ≡ Some g → slice_get stages h ≡ Some (Meets e w f) → f ≢ Leaving 0 → StaysAtWord h e g w
    stays h e g w f here at ne =
        let r = related_at Remains stages afters h (Meets e w f) stay at in
        stays_by h e g w f here (change h (slice_get_within stages h (Meets e w f) at)) ne r.other r.at r.related

    meets_on : (h : ℕ) (e : Ending) (g w : ℕ) (f : Phase) → slice_get plan.nodes h ≡ Some g → slice_get stages h ≡ Some (Meets e w f) → StaysAtWord h e g w
        → MovesOn (record { plan = plan; stages = stages; control = control; finished = t.finished }) (record { plan = plan'; stages = stages'; control = control'; finished = t.finished + 1 }) h e g w
    meets_on h e g w f here at on =
        let free = free_there source image plan blocks t stages hs ps (λ k. control) bound h g w e f here at in
        let was = meets_there source image plan blocks t stages hs ps (λ k. control) bound h g w e f here at in
        let free' = free_there source image plan' blocks' (later t) stages' hs' qs' (λ k. control') goes.bound h g w e on.phase on.here on.at in
        let is = meets_there source image plan' blocks' (later t) stages' hs' qs' (λ k. control') goes.bound h g w e on.phase on.here on.at in
        record {
          phase = on.phase;
          stands = record { here = on.here; at = on.at; member = is.2; inside = is.0 };
          settled = bound.counts g w free was.1;
          moves =
              subst (λ l. AllMove t.finished (plan.size w) l (phases plan g w (kept stages)) (control w) (phases plan' g w (kept stages')) (control' w)) lead_is
              (⊎_elim (λ still. goes.moves g w free' still)
              (λ opens. let none = new_at g plan'.nodes afters h (Some (Meets e w on.phase)) opens.new on.here on.left_at in absurd (cc))
              (changes.meetings g w free' is.1));
        }

    -- ---- in time

    meets_in_time : (h : ℕ) (e : Ending) (g w : ℕ) (f : Phase) → slice_get plan.nodes h ≡ Some g → slice_get stages h ≡ Some (Meets e w f) → f ≢ Leaving 0 → (s' : Stage)
        → slice_get stages' h ≡ Some s' → IsInTime s'
    meets_in_time h e g w f here at ne s' at' =
        let on = stays h e g w f here at ne in
        let was = meets_there source image plan blocks t stages hs ps (λ k. control) bound h g w e f here at in
        let moved = meets_on h e g w f here at on in
        let one = move_at t.finished (plan.size w) lead (phases plan g w (kept stages)) (phases plan' g w (kept stages')) (control w) (control' w) h f on.phase moved.moves
        (meets_get plan g w (kept stages) h e f here (kept_get stages h (Meets e w f) at) was.2)
        (meets_get plan' g w (kept stages') h e on.phase on.here (kept_get stages' h (Meets e w on.phase) on.at) moved.stands.member) in
        let there = on.at in
        let same : Meets e w on.phase ≡ s' = cc in
        subst IsInTime same (moves_in_time t.finished (plan.size w) one.found w e f on.phase was.0 ne (in_time_at stages h (Meets e w f) in_time at) one.moves)

    not_leaving : (h : ℕ) (e : Ending) (w : ℕ) (f : Phase) (s' : Stage) → slice_get stages h ≡ Some (Meets e w f) → Remains (Meets e w f) (Some s') → f ≢ Leaving 0
    not_leaving h Commits w f s' at r is =
        let one = r.0 in
        absurd (leaves f is one)
      where
        leaves : (f : Phase) → f ≡ Leaving 0 → count_of_stage (Meets Commits w f) ≡ 0 → ⊥
        leaves (Leaving zero) is one = omega (arith, one)
        leaves f is one = cc
    not_leaving h Unites w f s' at r is = nobody h w (at ∙ ap (λ x. Some (Meets Unites w x)) is)

    remains_in_time : (h : ℕ) (g : ℕ) (s s' : Stage) → slice_get plan.nodes h ≡ Some g → slice_get stages h ≡ Some s → slice_get stages' h ≡ Some s' → Remains s (Some s') → IsInTime s'
    remains_in_time h g Ended Ended here at at' r = tt
    remains_in_time h g Ended (Acts d inner) here at at' r = absurd r.2
    remains_in_time h g Ended (Meets e w f) here at at' r = absurd r.2
    remains_in_time h g (Acts d inner) s' here at at' r = acts_in_time d inner s' r (in_time_at stages h (Acts d inner) in_time at)
    remains_in_time h g (Meets e w f) s' here at at' r = meets_in_time h e g w f here at (not_leaving h e w f s' at r) s' at'

    one_in_time : (h : ℕ) (c : Changed plan.nodes plan'.nodes afters stages' h) (s : Stage) → slice_get stages h ≡ Some s → (a : Option Stage) → slice_get afters h ≡ Some a → Remains s a
        → IsInTime c.stage'
    one_in_time h c s at None at' r = fresh_at afters stages' h c.stage' fresh at' c.at'
    one_in_time h c s at (Some s1) at' r =
        let was = c.left_at in
        let same : c.after ≡ Some s1 = cc in
        let is = (c.stays s1 same).1 in
        remains_in_time h c.node s c.stage' c.here at c.at' (subst (λ x. Remains s (Some x)) (sym is) r)

    all_in_time : AreInTime stages'
    all_in_time =
        in_time_by stages'
        (λ h s' at'.
        let many = (many_length plan'.nodes hs' stages' changes.stages_as_many) in
        let here = many.0 in
        let there = many.1 in
        let lt = slice_get_within stages' h s' at' in
        let e = as_many in
        let lt' : h < length stages = omega (arith, lt, here, there, e) in
        let s = some_elem stages h lt' in
        let c = change h lt' in
        let r = related_at Remains stages afters h s.is stay s.at in
        let at = c.at' in
        let same : c.stage' ≡ s' = cc in
        subst IsInTime same (one_in_time h c s.is s.at r.other r.at r.related))

    pub turns :
        AreInTime stages'
        × Turns (record { plan = plan; stages = stages; control = control; finished = t.finished }) (record { plan = plan'; stages = stages'; control = control'; finished = t.finished + 1 })
    turns = (
      all_in_time,
      record {
        few =
            let a = (many_length plan.nodes hs stages bound.stages_as_many).1 in
            let b = (many_length plan.nodes hs stages bound.stages_as_many).0 in
            omega (arith, few, a, b);
        next = refl;
        near = goes.near;
        meet = λ h e g w f stands ne. meets_on h e g w f stands.here stands.at (stays h e g w f stands.here stands.at ne);
        unite = λ h w at. absurd (nobody h w at);
      },
    )

pub plans_turn : (S P D : Type 0) → PlansTurn S P D
plans_turn S P D source image plan plan' tests tests' t stages stages' afters hs hs' ps qs qs' control control' few lead_is bound stay changes goes nobody in_time fresh =
    turns source image plan (told_by tests) plan' (told_by tests') t stages stages' afters hs hs' ps qs qs' control control' few lead_is bound stay changes goes nobody in_time fresh

-- nobody leaves those with whom it unites
pub nobody_has_united : (stages : List Stage) → NobodyUnites stages → NobodyHasUnited stages
nobody_has_united [] nobody h w at = absurd (cc)
nobody_has_united (s ∷ stages) nobody zero w at = let same : s ≡ Meets Unites w (Leaving 0) = cc in absurd (false≢true (sym nobody.0 ∙ ap unites_now same))
nobody_has_united (s ∷ stages) nobody (suc h) w at = nobody_has_united stages nobody.1 h w at
