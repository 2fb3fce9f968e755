-- The stage of one hart, by the node where it stands.
use Rattle.std.proofs.Common.{◌≡◌, ℕ, zero, suc, ◌+◌, List, [], ◌∷◌, Option, Some, Bool, true, false, cond, sym, ap, subst, ◌∙◌, refl, arith, ⊎_elim, eq-eqb}
use Rattle.std.specs.Prelude.{◌==◌, slice_get}
use Rattle.std.proofs.lemmas.Bool.{cases_Bool}
use Rattle.fk_num.specs.Word.{Memory}
use Rattle.fk_image.specs.declared.Image.{Image}
use Rattle.fk_machine.specs.Hart.{Hart, Setting}
use Rattle.fk_sim_nodes.specs.Node.{Member, numbered, add, of_node, AreAsMany}
use Rattle.fk_sim_nodes.specs.Source.{Source}
use Rattle.fk_sim_nodes.specs.Phase.{Phase}
use Rattle.fk_sim_match.specs.Stage.{Ending, Stage, Ended, Acts, Meets, Pairwise, kept, absent, phase_of}
use Rattle.fk_sim_match.specs.Plan.{Plan, Blocks, IsInside, IsOpen, phase_at, phases_from, StandsAt, AllStandAt, AllAct, InLockstep, Binds, IsBound}

-- ---- of two lists

pub record Related {A B : Type 0} (R : A → B → Type 0) (ys : List B) (h : ℕ) (x : A) : Type 0 where
  pub other : B
  pub at : slice_get ys h ≡ Some other
  pub related : R x other

pub related_at : {A B : Type 0} (R : A → B → Type 0) (xs : List A) (ys : List B) (h : ℕ) (x : A) → Pairwise R xs ys → slice_get xs h ≡ Some x → Related R ys h x
related_at R [] [] h x all at = absurd (cc)
related_at R (z ∷ xs) (y ∷ ys) zero x all at = let same : z ≡ x = cc in record { other = y; at = refl; related = subst (λ u. R u y) same all.0 }
related_at R (z ∷ xs) (y ∷ ys) (suc h) x all at = let r = related_at R xs ys h x all.1 at in record { other = r.other; at = r.at; related = r.related }
related_at R xs ys h x all at = absurd (assumption all)

-- ---- its phase at a word

pub phase_get : (plan : Plan) (g w number : ℕ) (ns : List ℕ) (afters : List (Option Stage)) (h k n : ℕ) (a : Option Stage) → number + h ≡ k → slice_get ns h ≡ Some n → slice_get afters h ≡ Some a
    → slice_get (phases_from plan g w number ns afters) h ≡ Some (phase_at (n == g) (plan.member w k) (phase_of w (plan.member w k) a))
phase_get plan g w number (j ∷ ns) (b ∷ afters) zero k n a e here at =
    let node : j ≡ n = cc in
    let stage : b ≡ a = cc in
    let same : number ≡ k = omega (arith, e) in
    ap (λ x. Some (phase_at (x == g) (plan.member w number) (phase_of w (plan.member w number) b))) node
    ∙ ap (λ x. Some (phase_at (n == g) (plan.member w number) (phase_of w (plan.member w number) x))) stage
    ∙ ap (λ x. Some (phase_at (n == g) (plan.member w x) (phase_of w (plan.member w x) a))) same
phase_get plan g w number (j ∷ ns) (b ∷ afters) (suc h) k n a e here at = phase_get plan g w (suc number) ns afters h k n a (omega (arith, e)) here at
phase_get plan g w number [] afters h k n a e here at = absurd (cc)
phase_get plan g w number (j ∷ ns) [] h k n a e here at = absurd (cc)

pub kept_get : (stages : List Stage) (h : ℕ) (s : Stage) → slice_get stages h ≡ Some s → slice_get (kept stages) h ≡ Some (Some s)
kept_get [] h s at = absurd (cc)
kept_get (x ∷ stages) zero s at = let same : x ≡ s = cc in ap (λ y. Some (Some y)) same
kept_get (x ∷ stages) (suc h) s at = kept_get stages h s at

-- one who meets there
pub meets_get : (plan : Plan) (g w : ℕ) (afters : List (Option Stage)) (h : ℕ) (e : Ending) (f : Phase) → slice_get plan.nodes h ≡ Some g → slice_get afters h ≡ Some (Some (Meets e w f))
    → plan.member w h ≡ true → slice_get (phases_from plan g w 0 plan.nodes afters) h ≡ Some f
meets_get plan g w afters h e f here at member =
    phase_get plan g w 0 plan.nodes afters h h g (Some (Meets e w f)) (omega arith) here at
    ∙ ap (λ b. Some (phase_at b (plan.member w h) (phase_of w (plan.member w h) (Some (Meets e w f))))) (eq-eqb g g refl)
    ∙ ap (λ b. Some (phase_of w b (Some (Meets e w f)))) member
    ∙ ap (λ b. Some (cond b f (absent true))) (eq-eqb w w refl)

-- ---- in a group, and by itself

module _ {S P D : Type 0} (source : Source S P D) (image : Image) (plan : Plan) (blocks : Blocks P D) (t : Setting) where
  past_act : (d inner : ℕ) (b : Bool) (x : Stage) (m : Member) (q : P) (xs : List Stage) (ms : List Member) (qs : List P) → AllAct source image plan blocks d inner (add b x xs) (add b m ms) (add b q qs)
      → AllAct source image plan blocks d inner xs ms qs
  past_act d inner true x m q xs ms qs all = all.1
  past_act d inner false x m q xs ms qs all = all

  pub acts_there : (d inner g number : ℕ) (ns : List ℕ) (stages : List Stage) (hs : List Hart) (qs : List P) (h : ℕ) (x : Stage) → AreAsMany ns hs qs → AreAsMany ns hs stages
      → AllAct source image plan blocks d inner (of_node g ns stages) (of_node g ns (numbered number hs)) (of_node g ns qs) → slice_get ns h ≡ Some g → slice_get stages h ≡ Some x → x ≡ Acts d inner
  acts_there d inner g number (n ∷ ns) (y ∷ stages) (k ∷ hs) (q ∷ qs) zero x many many' all here at =
      let node : n ≡ g = cc in
      let stage : y ≡ x = cc in
      let m : Member = record { number = number; hart = k } in
      sym stage
      ∙ (subst (λ b. AllAct source image plan blocks d inner (add b y (of_node g ns stages)) (add b m (of_node g ns (numbered (suc number) hs))) (add b q (of_node g ns qs))) (eq-eqb n g node) all).0
  acts_there d inner g number (n ∷ ns) (y ∷ stages) (k ∷ hs) (q ∷ qs) (suc h) x many many' all here at =
      let m : Member = record { number = number; hart = k } in
      acts_there d inner g (suc number) ns stages hs qs h x many many' (past_act d inner (n == g) y m q (of_node g ns stages) (of_node g ns (numbered (suc number) hs)) (of_node g ns qs) all) here at
  acts_there d inner g number [] stages hs qs h x many many' all here at = absurd (cc)
  acts_there d inner g number (n ∷ ns) [] hs qs h x many many' all here at = absurd (cc)
  acts_there d inner g number ns stages hs qs h x many many' all here at = absurd (assumption (many, many'))

  past_stand : (g : ℕ) (b : Bool) (x : Stage) (m : Member) (q : P) (xs : List Stage) (ms : List Member) (qs : List P) → AllStandAt source image plan blocks t g (add b x xs) (add b m ms) (add b q qs)
      → AllStandAt source image plan blocks t g xs ms qs
  past_stand g true x m q xs ms qs all = all.1
  past_stand g false x m q xs ms qs all = all

  -- who meets at a word is one of those who do
  abbrev pub Belongs : (g k : ℕ) → Stage → Type 0
  Belongs g k (Meets e w f) = IsInside f × IsOpen plan g w × (plan.member w k ≡ true)
  Belongs g k s = Unit {0}

  belongs : (g : ℕ) (x : Stage) (m : Member) (q : P) → StandsAt source image plan blocks t g x m q → Belongs g m.number x
  belongs g Ended m q stands = tt
  belongs g (Acts d inner) m q stands = tt
  belongs g (Meets e w f) m q stands = (stands.0, stands.1, stands.2)

  pub belongs_there : (g number : ℕ) (ns : List ℕ) (stages : List Stage) (hs : List Hart) (qs : List P) (h k : ℕ) (x : Stage) → number + h ≡ k → AreAsMany ns hs qs → AreAsMany ns hs stages
      → AllStandAt source image plan blocks t g (of_node g ns stages) (of_node g ns (numbered number hs)) (of_node g ns qs) → slice_get ns h ≡ Some g → slice_get stages h ≡ Some x → Belongs g k x
  belongs_there g number (n ∷ ns) (y ∷ stages) (j ∷ hs) (q ∷ qs) zero k x e many many' all here at =
      let node : n ≡ g = cc in
      let stage : y ≡ x = cc in
      let same : number ≡ k = omega (arith, e) in
      let m : Member = record { number = number; hart = j } in
      let first = (subst
      (λ b. AllStandAt source image plan blocks t g (add b y (of_node g ns stages)) (add b m (of_node g ns (numbered (suc number) hs))) (add b q (of_node g ns qs))) (eq-eqb n g node) all).0 in
      subst (λ i. Belongs g i x) same (subst (λ z. Belongs g number z) stage (belongs g y m q first))
  belongs_there g number (n ∷ ns) (y ∷ stages) (j ∷ hs) (q ∷ qs) (suc h) k x e many many' all here at =
      let m : Member = record { number = number; hart = j } in
      belongs_there g (suc number) ns stages hs qs h k x (omega (arith, e)) many many'
      (past_stand g (n == g) y m q (of_node g ns stages) (of_node g ns (numbered (suc number) hs)) (of_node g ns qs) all) here at
  belongs_there g number [] stages hs qs h k x e many many' all here at = absurd (cc)
  belongs_there g number (n ∷ ns) [] hs qs h k x e many many' all here at = absurd (cc)
  belongs_there g number ns stages hs qs h k x e many many' all here at = absurd (assumption (many, many'))

  -- where the plan binds all harts, who meets at a word is at a node that is no group
  module _ (stages : List Stage) (hs : List Hart) (ps : List P) (own : ℕ → Memory) (bound : IsBound source image plan blocks t stages hs ps own) (h g w : ℕ) (e : Ending) (f : Phase)
      (here : slice_get plan.nodes h ≡ Some g) (at : slice_get stages h ≡ Some (Meets e w f)) where
    pub free_there : plan.in_lockstep g ≡ false
    free_there =
        ⊎_elim
        (λ is.
        let group : InLockstep source image plan blocks t g (of_node g plan.nodes stages) (of_node g plan.nodes (numbered 0 hs)) (of_node g plan.nodes ps) (own g)
        = subst (λ b. Binds source image plan blocks b t g (of_node g plan.nodes stages) (of_node g plan.nodes (numbered 0 hs)) (of_node g plan.nodes ps) (own g)) is (bound.binds g) in
        let acts = acts_there group.distance group.inner g 0 plan.nodes stages hs ps h (Meets e w f) bound.as_many bound.stages_as_many group.alike here at in
        absurd (cc))
        (λ no. no)
        (cases_Bool (plan.in_lockstep g))

    pub meets_there : IsInside f × IsOpen plan g w × (plan.member w h ≡ true)
    meets_there =
        belongs_there g 0 plan.nodes stages hs ps h h (Meets e w f) (omega arith) bound.as_many bound.stages_as_many
        (subst (λ b. Binds source image plan blocks b t g (of_node g plan.nodes stages) (of_node g plan.nodes (numbered 0 hs)) (of_node g plan.nodes ps) (own g)) free_there (bound.binds g)) here at
