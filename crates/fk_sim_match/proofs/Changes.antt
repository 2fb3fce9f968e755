-- After the tree has changed all are bound again.
use Rattle.std.proofs.Common.{◌≡◌, ◌≢◌, ℕ, zero, suc, ◌+◌, ◌%◌, ◌^◌, ◌<◌, List, [], ◌∷◌, length, Option, Some, None, Bool, true, false, cond, sym, ap, subst, ◌∙◌, refl, arith, ◌⊎◌, inl, inr, ⊎_elim, eq-eqb}
use Rattle.std.proofs.lemmas.Bool.{cases_eq, ne_eqb, eqb-true}
use Rattle.std.specs.Prelude.{◌==◌, ◌&&◌}
use Rattle.fk_num.specs.Word.{Memory}
use Rattle.fk_image.specs.declared.Image.{Image}
use Rattle.fk_machine.specs.Hart.{Hart, Setting}
use Rattle.fk_sim_nodes.specs.Node.{Member, numbered, add, of_node, AreAsMany, Words, Has}
use Rattle.fk_sim_nodes.specs.Source.{Source}
use Rattle.fk_sim_nodes.specs.Alone.{later, in_cycles, RunsPrivately}
use Rattle.fk_sim_nodes.specs.OneHart.{Serves, Faults, OneCommits, OneDoes}
use Rattle.fk_sim_nodes.specs.Together.{Together}
use Rattle.fk_sim_nodes.proofs.Members.{together_map, together_same}
use Rattle.fk_sim_nodes.specs.Phase.{Phase, Outside, Away, Coming, Waiting, Leaving, is_odd, word_after, polled, Moves, AllMove, Each, Settled, SetsOut, AllSetOut, IsIdle}
use Rattle.fk_sim_nodes.proofs.Between.{members_may_set_out, words_open_at_zero}
use Rattle.fk_sim_match.specs.Stage.{Commits, Unites, Stage, Ended, Acts, Meets, distance, IsOver, Nears, Pairwise, AllNear, Remains, kept, absent, phase_of}
use Rattle.fk_sim_match.specs.Plan.{Plan, phase_at, phases_from, phases, Blocks, told_by, StandsAt, AllStandAt, AllAct, InLockstep, Binds, IsBound}
use Rattle.fk_sim_match.specs.Cycle.{AllHaveCommitted, AllKeep, Went, AllAreLeft, NodeIsLeft, IsLeft}
use Rattle.fk_sim_match.specs.Change.{IsFresh, HasSame, StaysMember, AllAreNew, StaysOpen, Changes, AllChange, GroupStays, MeetingStays, TreeChanges, GoesOn, PlansGoOn, RunsLeadToStages}
use Rattle.fk_sim_match.proofs.Left.{meeting_is_kept}

-- ---- phases

-- a turn, and then a start between two cycles, are a turn
away_polled : (lead : ℕ) (b : Bool) → Away ≡ polled lead b → ⊥
away_polled lead true e = absurd (cc)
away_polled lead false e = absurd (cc)

moves_then_out : (t n lead v : ℕ) (f f' f2 : Phase) → Moves t n lead v f f' → SetsOut (t + 1) f' f2 → Moves t n lead v f f2
moves_then_out t n lead v Outside Away f2 moves out = absurd (cc)
moves_then_out t n lead v Away Away f2 moves out = out
moves_then_out t n lead v (Coming zero) Away f2 moves out = absurd (cc)
moves_then_out t n lead v (Coming (suc d)) Away f2 moves out = absurd (cc)
moves_then_out t n lead v Waiting Away f2 moves out = absurd (away_polled lead (is_odd t && v == n) moves)
moves_then_out t n lead v (Leaving zero) Away f2 moves out = out
moves_then_out t n lead v (Leaving (suc d)) Away f2 moves out = absurd (cc)
moves_then_out t n lead v f Outside f2 moves out = subst (Moves t n lead v f) (sym out) moves
moves_then_out t n lead v f (Coming d) f2 moves out = subst (Moves t n lead v f) (sym out) moves
moves_then_out t n lead v f Waiting f2 moves out = subst (Moves t n lead v f) (sym out) moves
moves_then_out t n lead v f (Leaving d) f2 moves out = subst (Moves t n lead v f) (sym out) moves

all_move_then_out : (t n lead v v' : ℕ) (fs fs' fs2 : List Phase) → AllMove t n lead fs v fs' v' → AllSetOut (t + 1) fs' fs2 → AllMove t n lead fs v fs2 v'
all_move_then_out t n lead v v' [] [] [] moves out = moves
all_move_then_out t n lead v v' (f ∷ fs) (f' ∷ fs') (f2 ∷ fs2) moves out =
    (moves_then_out t n lead v f f' f2 moves.0 out.0, all_move_then_out t n lead (word_after f v) v' fs fs' fs2 moves.1 out.1)
all_move_then_out t n lead v v' fs fs' fs2 moves out = absurd (assumption (moves, out))

sets_same : (t : ℕ) (f : Phase) → SetsOut t f f
sets_same t Outside = refl
sets_same t Away = tt
sets_same t (Coming d) = refl
sets_same t Waiting = refl
sets_same t (Leaving d) = refl

-- who is at a word is a member of those who meet there
abbrev IsMemberAt : (word : ℕ) → (member : Bool) → Stage → Type 0
IsMemberAt w member (Meets ending v f) = v ≡ w → member ≡ true
IsMemberAt w member s = Unit {0}

coming_out : (t d v w : ℕ) (member : Bool) → (t + d) % 2 ≡ 0 → (v ≡ w → member ≡ true) → ((v ≡ w) ⊎ (v ≢ w)) → SetsOut t (absent member) (cond (v == w) (Coming d) (absent member))
coming_out t d v w member fresh is (inl e) =
    subst (λ b. SetsOut t (absent member) (cond b (Coming d) (absent member))) (sym (eq-eqb v w e))
    (subst (λ b. SetsOut t (absent b) (Coming d)) (sym (is e)) fresh)
coming_out t d v w member fresh is (inr ne) =
    subst (λ b. SetsOut t (absent member) (cond b (Coming d) (absent member))) (sym (ne_eqb v w ne)) (sets_same t (absent member))

-- one who has just committed may set out
fresh_out : (t : Setting) (w : ℕ) (member : Bool) (s : Stage) → IsFresh t s → IsMemberAt w member s → SetsOut t.finished (absent member) (phase_of w member (Some s))
fresh_out t w member Ended fresh is = sets_same t.finished (absent member)
fresh_out t w member (Acts d inner) fresh is = sets_same t.finished (absent member)
fresh_out t w member (Meets ending v (Coming d)) fresh is = coming_out t.finished d v w member fresh is (cases_eq v w)
fresh_out t w member (Meets ending v f) fresh is = absurd (assumption fresh)

idle_absent : (t : ℕ) (member : Bool) → IsIdle t (absent member)
idle_absent t true = tt
idle_absent t false = tt

idle_by : (t d : ℕ) (b member : Bool) → (t + d) % 2 ≡ 0 → IsIdle t (cond b (Coming d) (absent member))
idle_by t d true member fresh = fresh
idle_by t d false member fresh = idle_absent t member

fresh_idle : (t : Setting) (w : ℕ) (member : Bool) (s : Stage) → IsFresh t s → IsIdle t.finished (phase_of w member (Some s))
fresh_idle t w member Ended fresh = idle_absent t.finished member
fresh_idle t w member (Acts d inner) fresh = idle_absent t.finished member
fresh_idle t w member (Meets ending v (Coming d)) fresh = idle_by t.finished d (v == w) member fresh
fresh_idle t w member (Meets ending v f) fresh = absurd (assumption fresh)

-- who stands elsewhere is in no phase
out_new : (t : Setting) (w : ℕ) (b b' member : Bool) (s' : Stage) → IsFresh t s' → (b' ≡ true → IsMemberAt w member s')
    → SetsOut t.finished (phase_at b member (absent member)) (phase_at b' member (phase_of w member (Some s')))
out_new t w true true member s' fresh is = fresh_out t w member s' fresh (is refl)
out_new t w false true member s' fresh is = fresh_out t w member s' fresh (is refl)
out_new t w true false member s' fresh is = sets_same t.finished (absent member)
out_new t w false false member s' fresh is = sets_same t.finished (absent member)

idle_at : (t : Setting) (w : ℕ) (b member : Bool) (s : Stage) → (b ≡ true → IsFresh t s) → IsIdle t.finished (phase_at b member (phase_of w member (Some s)))
idle_at t w true member s fresh = fresh_idle t w member s (fresh refl)
idle_at t w false member s fresh = idle_absent t.finished member

-- ---- lists by node

pub same_of : {A : Type 0} (g : ℕ) (ns ns' : List ℕ) (xs : List A) → HasSame g ns ns' → of_node g ns' xs ≡ of_node g ns xs
same_of g [] [] xs same = refl
same_of g (n ∷ ns) (n' ∷ ns') [] same = refl
same_of g (n ∷ ns) (n' ∷ ns') (x ∷ xs) same =
    ap (λ b. add b x (of_node g ns' xs)) (sym same.0) ∙ ap (add (n == g) x) (same_of g ns ns' xs same.1)
same_of g [] (n' ∷ ns') xs same = absurd same
same_of g (n ∷ ns) [] xs same = absurd same

keep_first : (s : Stage) (b : Bool) (a : Option Stage) (afters : List (Option Stage)) → AllKeep s (add b a afters) → b ≡ true → a ≡ Some s
keep_first s true a afters keep e = keep.0
keep_first s false a afters keep e = absurd (cc)

keep_rest : (s : Stage) (b : Bool) (a : Option Stage) (afters : List (Option Stage)) → AllKeep s (add b a afters) → AllKeep s afters
keep_rest s true a afters keep = keep.1
keep_rest s false a afters keep = keep

module _ {S P D : Type 0} (source : Source S P D) (image : Image) where
  -- ---- what holds afterwards may be weakened

  serves_map : (t : Setting) (c : ℕ) (m : Member) (p : P) (s : S) (Then Then' : Hart → D → Type 0) → ((h : Hart) (d : D) → Then h d → Then' h d)
      → Serves source image t c m p s Then ⊎ Faults source image t c m p s → Serves source image t c m p s Then' ⊎ Faults source image t c m p s
  serves_map t c m p s Then Then' f (inl v) =
      inl (record { hart = v.hart; store = v.store; done = v.done; part = v.part; goes = v.goes; follows = f v.hart v.done v.follows })
  serves_map t c m p s Then Then' f (inr v) = inr v

  commits_map : (t : Setting) (c : ℕ) (m : Member) (p : P) (Then Then' : Hart → D → Type 0) → ((h : Hart) (d : D) → Then h d → Then' h d)
      → OneCommits source image t c m p Then → OneCommits source image t c m p Then'
  commits_map t c m p Then Then' f x = record { live = x.live; counted = x.counted; does = λ s. serves_map t c m p s Then Then' f (x.does s) }

  pub does_map : (t : Setting) (c a b : ℕ) (m : Member) (p : P) (Then Then' : Hart → D → Type 0) → ((h : Hart) (d : D) → Then h d → Then' h d)
      → OneDoes source image t c a b m p Then → OneDoes source image t c a b m p Then'
  does_map t c a b m p Then Then' f x = record {
    committing = x.committing;
    runs = x.runs;
    commits = commits_map (in_cycles a t) c (record m { hart = x.committing }) p
        (λ h d. (h' : Hart) × RunsPrivately image (later (in_cycles a t)) m.number b h h' × Then h' d)
        (λ h d. (h' : Hart) × RunsPrivately image (later (in_cycles a t)) m.number b h h' × Then' h' d)
        (λ h d y. (y.0, y.1, f y.0 d y.2)) x.commits;
  }

  pub does_later : (t : Setting) (c a b n : ℕ) (m : Member) (h : Hart) (p : P) (Then : Hart → D → Type 0) → RunsPrivately image t m.number n m.hart h
      → OneDoes source image (in_cycles n t) c a b (record m { hart = h }) p Then → OneDoes source image t c (n + a) b m p Then
  does_later t c a b zero m h p Then runs x =
      let same : a ≡ 0 + a = omega arith in
      subst (λ k. OneDoes source image t c k b m p Then) same (subst (λ y. OneDoes source image t c a b (record m { hart = y }) p Then) (sym runs) x)
  does_later t c a b (suc n) m h p Then runs x =
      let same : suc (n + a) ≡ suc n + a = omega arith in
      let r = does_later (later t) c a b n (record m { hart = runs.0 }) h p Then runs.2 x in
      subst (λ k. OneDoes source image t c k b m p Then) same (record { committing = r.committing; runs = (runs.0, runs.1, r.runs); commits = r.commits })

  pub together_on : (mine : Words) (t : Setting) (c d : ℕ) (ms : List Member) (ps : List P) (own own2 : Memory) (Then : List Member → List D → Memory → Type 0)
      → (length ms ≡ 0 → ⊥) → Has mine own own2 → Together source image mine t c d ms ps own Then → Together source image mine t c d ms ps own2 Then
  together_on mine t c d [] ps own own2 Then some same x = absurd (some refl)
  together_on mine t c d (m ∷ ms) ps own own2 Then some same x = together_same source image mine t c d m ms ps own own2 Then same x

module _ {S P D : Type 0} (source : Source S P D) (image : Image) (plan : Plan) (blocks : Blocks P D) (plan' : Plan) (blocks' : Blocks P D) where
  -- ---- harts by themselves

  stands_map : (t : Setting) (g : ℕ) (s : Stage) (m : Member) (p : P) → StaysOpen source image plan blocks plan' blocks' g → StaysMember plan' g m.number s
      → StandsAt source image plan blocks t g s m p → StandsAt source image plan' blocks' t g s m p
  stands_map t g Ended m p stays member x = x
  stands_map t g (Acts d inner) m p stays member x = (
    x.0,
    does_map source image t (suc inner) d x.0 m p (λ h y. blocks.AfterOne g x.0 (record m { hart = h }) p y) (λ h y. blocks'.AfterOne g x.0 (record m { hart = h }) p y)
        (λ h y z. stays.after x.0 (record m { hart = h }) p y z) x.1,
  )
  stands_map t g (Meets ending w f) m p stays member x = (x.0, member.0, member.1, stays.stands t ending w f m p member.0 x.3)

  abbrev AllPlaced : Setting → List Member → List ℕ → List Stage → List P → Type 0
  AllPlaced t [] [] [] [] = Unit {0}
  AllPlaced t (m ∷ ms) (n' ∷ ns') (s' ∷ stages') (p' ∷ ps') =
      (plan'.in_lockstep n' ≡ false → StandsAt source image plan' blocks' t n' s' m p') × AllPlaced t ms ns' stages' ps'
  AllPlaced t ms ns' stages' ps' = ⊥

  placed : (t : Setting) (m : Member) (n n' : ℕ) (a : Option Stage) (s' : Stage) (p p' : P) (d : D) → Changes source image plan blocks plan' blocks' t m n n' a s' p p'
      → (plan.in_lockstep n ≡ false → Went source image plan blocks t n a m p d) → plan'.in_lockstep n' ≡ false → StandsAt source image plan' blocks' t n' s' m p'
  placed t m n n' (Some s) s' p p' d change went alone =
      let stays = change.4 alone in
      let was = went (subst (λ k. plan.in_lockstep k ≡ false) change.0 stays.alone) in
      subst (λ q. StandsAt source image plan' blocks' t n' s' m q) (sym change.2)
      (subst (λ x. StandsAt source image plan' blocks' t n' x m p) (sym change.1)
      (stands_map t n' s m p stays change.3 (subst (λ k. StandsAt source image plan blocks t k s m p) (sym change.0) was.1)))
  placed t m n n' None s' p p' d change went alone = change.1 alone

  pub left_first : (t : Setting) (g : ℕ) (b : Bool) (a : Option Stage) (afters : List (Option Stage)) (m : Member) (ms : List Member) (p : P) (ps : List P) (d : D) (ds : List D) → b ≡ true
      → AllAreLeft source image plan blocks t g (add b a afters) (add b m ms) (add b p ps) (add b d ds) → Went source image plan blocks t g a m p d
  left_first t g true a afters m ms p ps d ds e left = left.0
  left_first t g false a afters m ms p ps d ds e left = absurd (cc)

  pub left_rest : (t : Setting) (g : ℕ) (b : Bool) (a : Option Stage) (afters : List (Option Stage)) (m : Member) (ms : List Member) (p : P) (ps : List P) (d : D) (ds : List D)
      → AllAreLeft source image plan blocks t g (add b a afters) (add b m ms) (add b p ps) (add b d ds) → AllAreLeft source image plan blocks t g afters ms ps ds
  left_rest t g true a afters m ms p ps d ds left = left.1
  left_rest t g false a afters m ms p ps d ds left = left

  all_placed : (t : Setting) (ms : List Member) (ns ns' : List ℕ) (afters : List (Option Stage)) (stages' : List Stage) (hs : List Hart) (ps ps' : List P) (ds : List D)
      → AllChange source image plan blocks plan' blocks' t ms ns ns' afters stages' ps ps' → AreAsMany ns hs ds
      → ((g : ℕ) → plan.in_lockstep g ≡ false → AllAreLeft source image plan blocks t g (of_node g ns afters) (of_node g ns ms) (of_node g ns ps) (of_node g ns ds))
      → AllPlaced t ms ns' stages' ps'
  all_placed t [] [] [] [] [] hs [] [] ds change many left = tt
  all_placed t (m ∷ ms) (n ∷ ns) (n' ∷ ns') (a ∷ afters) (s' ∷ stages') (h ∷ hs) (p ∷ ps) (p' ∷ ps') (d ∷ ds) change many left = (
    placed t m n n' a s' p p' d change.0
        (λ e. left_first t n (n == n) a (of_node n ns afters) m (of_node n ns ms) p (of_node n ns ps) d (of_node n ns ds) (eq-eqb n n refl) (left n e)),
    all_placed t ms ns ns' afters stages' hs ps ps' ds change.1 many
        (λ g e. left_rest t g (n == g) a (of_node g ns afters) m (of_node g ns ms) p (of_node g ns ps) d (of_node g ns ds) (left g e)),
  )
  all_placed t ms ns ns' afters stages' hs ps ps' ds change many left = absurd (assumption (change, many))

  stand_add : (t : Setting) (g : ℕ) (b : Bool) (s : Stage) (stages : List Stage) (m : Member) (ms : List Member) (p : P) (ps : List P)
      → (b ≡ true → StandsAt source image plan' blocks' t g s m p) → AllStandAt source image plan' blocks' t g stages ms ps
      → AllStandAt source image plan' blocks' t g (add b s stages) (add b m ms) (add b p ps)
  stand_add t g true s stages m ms p ps one all = (one refl, all)
  stand_add t g false s stages m ms p ps one all = all

  stand_of : (t : Setting) (g : ℕ) (ms : List Member) (ns' : List ℕ) (stages' : List Stage) (ps' : List P) → plan'.in_lockstep g ≡ false → AllPlaced t ms ns' stages' ps'
      → AllStandAt source image plan' blocks' t g (of_node g ns' stages') (of_node g ns' ms) (of_node g ns' ps')
  stand_of t g [] [] [] [] alone all = tt
  stand_of t g (m ∷ ms) (n' ∷ ns') (s' ∷ stages') (p' ∷ ps') alone all =
      stand_add t g (n' == g) s' (of_node g ns' stages') m (of_node g ns' ms) p' (of_node g ns' ps')
      (λ e. let same = eqb-true n' g e in
      subst (λ k. StandsAt source image plan' blocks' t k s' m p') same (all.0 (subst (λ k. plan'.in_lockstep k ≡ false) (sym same) alone)))
      (stand_of t g ms ns' stages' ps' alone all.1)
  stand_of t g ms ns' stages' ps' alone all = absurd (assumption all)

  -- ---- groups

  kept_change : (t : Setting) (d inner : ℕ) (m : Member) (n n' : ℕ) (a : Option Stage) (s' : Stage) (p p' : P) → a ≡ Some (Acts d inner)
      → Changes source image plan blocks plan' blocks' t m n n' a s' p p' → (s' ≡ Acts d inner) × (p' ≡ p)
  kept_change t d inner m n n' (Some s) s' p p' e change = let same : s ≡ Acts d inner = cc in (change.1 ∙ same, change.2)
  kept_change t d inner m n n' None s' p p' e change = absurd (cc)

  act_add : (d inner : ℕ) (b : Bool) (s : Stage) (stages : List Stage) (m : Member) (ms : List Member) (p : P) (ps : List P) → (b ≡ true → s ≡ Acts d inner)
      → AllAct source image plan' blocks' d inner stages ms ps → AllAct source image plan' blocks' d inner (add b s stages) (add b m ms) (add b p ps)
  act_add d inner true s stages m ms p ps one all = (one refl, all)
  act_add d inner false s stages m ms p ps one all = all

  group_alike : (t : Setting) (d inner g : ℕ) (ms : List Member) (ns ns' : List ℕ) (afters : List (Option Stage)) (stages' : List Stage) (ps ps' : List P)
      → AllChange source image plan blocks plan' blocks' t ms ns ns' afters stages' ps ps' → AllKeep (Acts d inner) (of_node g ns afters)
      → AllAct source image plan' blocks' d inner (of_node g ns stages') (of_node g ns ms) (of_node g ns ps')
  group_alike t d inner g [] [] [] [] [] [] [] change keep = tt
  group_alike t d inner g (m ∷ ms) (n ∷ ns) (n' ∷ ns') (a ∷ afters) (s' ∷ stages') (p ∷ ps) (p' ∷ ps') change keep =
      act_add d inner (n == g) s' (of_node g ns stages') m (of_node g ns ms) p' (of_node g ns ps')
      (λ e. (kept_change t d inner m n n' a s' p p' (keep_first (Acts d inner) (n == g) a (of_node g ns afters) keep e) change.0).0)
      (group_alike t d inner g ms ns ns' afters stages' ps ps' change.1 (keep_rest (Acts d inner) (n == g) a (of_node g ns afters) keep))
  group_alike t d inner g ms ns ns' afters stages' ps ps' change keep = absurd (assumption change)

  same_add : (b : Bool) (p p' : P) (ps ps' : List P) → (b ≡ true → p' ≡ p) → ps' ≡ ps → add b p' ps' ≡ add b p ps
  same_add true p p' ps ps' one e = ap (λ q. q ∷ ps') (one refl) ∙ ap (λ l. p ∷ l) e
  same_add false p p' ps ps' one e = e

  group_same : (t : Setting) (d inner g : ℕ) (ms : List Member) (ns ns' : List ℕ) (afters : List (Option Stage)) (stages' : List Stage) (ps ps' : List P)
      → AllChange source image plan blocks plan' blocks' t ms ns ns' afters stages' ps ps' → AllKeep (Acts d inner) (of_node g ns afters)
      → of_node g ns ps' ≡ of_node g ns ps
  group_same t d inner g [] [] [] [] [] [] [] change keep = refl
  group_same t d inner g (m ∷ ms) (n ∷ ns) (n' ∷ ns') (a ∷ afters) (s' ∷ stages') (p ∷ ps) (p' ∷ ps') change keep =
      same_add (n == g) p p' (of_node g ns ps) (of_node g ns ps')
      (λ e. (kept_change t d inner m n n' a s' p p' (keep_first (Acts d inner) (n == g) a (of_node g ns afters) keep e) change.0).1)
      (group_same t d inner g ms ns ns' afters stages' ps ps' change.1 (keep_rest (Acts d inner) (n == g) a (of_node g ns afters) keep))
  group_same t d inner g ms ns ns' afters stages' ps ps' change keep = absurd (assumption change)

  length_add : {A B : Type 0} (b : Bool) (x : A) (xs : List A) (y : B) (ys : List B) → length xs ≡ length ys → length (add b x xs) ≡ length (add b y ys)
  length_add true x xs y ys e = ap suc e
  length_add false x xs y ys e = e

  length_of : (t : Setting) (g : ℕ) (ms : List Member) (ns ns' : List ℕ) (afters : List (Option Stage)) (stages' : List Stage) (ps ps' : List P)
      → AllChange source image plan blocks plan' blocks' t ms ns ns' afters stages' ps ps' → length (of_node g ns afters) ≡ length (of_node g ns ms)
  length_of t g [] [] [] [] [] [] [] change = refl
  length_of t g (m ∷ ms) (n ∷ ns) (n' ∷ ns') (a ∷ afters) (s' ∷ stages') (p ∷ ps) (p' ∷ ps') change =
      length_add (n == g) a (of_node g ns afters) m (of_node g ns ms) (length_of t g ms ns ns' afters stages' ps ps' change.1)
  length_of t g ms ns ns' afters stages' ps ps' change = absurd (assumption change)

  none_left : (afters : List (Option Stage)) → length afters ≡ 0 → AllHaveCommitted afters
  none_left [] e = tt
  none_left (a ∷ afters) e = absurd (omega arith)

  group_stays : (t : Setting) (g : ℕ) (ms : List Member) (afters : List (Option Stage)) (stages' : List Stage) (ps ps' : List P) (ds : List D) (own control : Memory)
      → AllChange source image plan blocks plan' blocks' t ms plan.nodes plan'.nodes afters stages' ps ps' → GroupStays source image plan blocks plan' blocks' g afters
      → Has (plan.words g) control own
      → NodeIsLeft source image plan blocks true t g (of_node g plan.nodes afters) (of_node g plan.nodes ms) (of_node g plan.nodes ps) ds own
      → InLockstep source image plan' blocks' t g (of_node g plan'.nodes stages') (of_node g plan'.nodes ms) (of_node g plan'.nodes ps') control
  group_stays t g ms afters stages' ps ps' ds own control change stays has (inl x) = absurd (stays.busy x.0)
  group_stays t g ms afters stages' ps ps' ds own control change stays has (inr (d, inner, keep, idle, together)) =
      let ns = plan.nodes in
      let some : length (of_node g ns ms) ≡ 0 → ⊥ = λ e. stays.busy (none_left (of_node g ns afters) (length_of t g ms ns plan'.nodes afters stages' ps ps' change ∙ e)) in
      let goes = together_map source image (plan.words g) t (suc inner) d (of_node g ns ms) (of_node g ns ps) control (blocks.AfterAll (later (in_cycles d t)) g) (blocks'.AfterAll (later (in_cycles d t)) g) (stays.after (later (in_cycles d t)))
      (together_on source image (plan.words g) t (suc inner) d (of_node g ns ms) (of_node g ns ps) own control (blocks.AfterAll (later (in_cycles d t)) g) some (λ i o. sym (has i o)) together) in
      let here : InLockstep source image plan' blocks' t g (of_node g ns stages') (of_node g ns ms) (of_node g ns ps') control = record {
        distance = d;
        inner = inner;
        alike = group_alike t d inner g ms ns plan'.nodes afters stages' ps ps' change keep;
        together =
            subst (λ l. Together source image (plan'.words g) t (suc inner) d (of_node g ns ms) l control (blocks'.AfterAll (later (in_cycles d t)) g)) (sym (group_same t d inner g ms ns plan'.nodes afters stages' ps ps' change keep))
            (subst (λ w. Together source image w t (suc inner) d (of_node g ns ms) (of_node g ns ps) control (blocks'.AfterAll (later (in_cycles d t)) g)) (sym stays.words) goes);
      } in
      subst (λ l. InLockstep source image plan' blocks' t g l (of_node g plan'.nodes ms) (of_node g plan'.nodes ps') control) (sym (same_of g ns plan'.nodes stages' stays.same))
      (subst (λ l. InLockstep source image plan' blocks' t g (of_node g ns stages') l (of_node g plan'.nodes ps') control) (sym (same_of g ns plan'.nodes ms stays.same))
      (subst (λ l. InLockstep source image plan' blocks' t g (of_node g ns stages') (of_node g ns ms) l control) (sym (same_of g ns plan'.nodes ps' stays.same)) here))

  -- ---- arrival words

  at_member : (t : Setting) (w : ℕ) (m : Member) (g : ℕ) (s' : Stage) (p' : P) → StandsAt source image plan' blocks' t g s' m p' → IsMemberAt w (plan'.member w m.number) s'
  at_member t w m g Ended p' stands = tt
  at_member t w m g (Acts d inner) p' stands = tt
  at_member t w m g (Meets ending v f) p' stands = λ e. subst (λ k. plan'.member k m.number ≡ true) e stands.2

  out_one : (t : Setting) (g w : ℕ) (m : Member) (n n' : ℕ) (a : Option Stage) (s' : Stage) (p p' : P) → Changes source image plan blocks plan' blocks' t m n n' a s' p p'
      → plan'.in_lockstep g ≡ false → plan'.member w m.number ≡ plan.member w m.number
      → SetsOut t.finished (phase_at (n == g) (plan.member w m.number) (phase_of w (plan.member w m.number) a)) (phase_at (n' == g) (plan'.member w m.number) (phase_of w (plan'.member w m.number) (Some s')))
  out_one t g w m n n' None s' p p' change alone same =
      subst (λ b. SetsOut t.finished (phase_at (n == g) b (absent b)) (phase_at (n' == g) (plan'.member w m.number) (phase_of w (plan'.member w m.number) (Some s')))) same
      (out_new t w (n == g) (n' == g) (plan'.member w m.number) s' change.0
      (λ e. at_member t w m n' s' p' (change.1 (subst (λ k. plan'.in_lockstep k ≡ false) (sym (eqb-true n' g e)) alone))))
  out_one t g w m n n' (Some s) s' p p' change alone same =
      let member = plan.member w m.number in
      let before = phase_at (n == g) member (phase_of w member (Some s)) in
      subst (λ b. SetsOut t.finished before (phase_at (n' == g) b (phase_of w b (Some s')))) (sym same)
      (subst (λ x. SetsOut t.finished before (phase_at (n' == g) member (phase_of w member (Some x)))) (sym change.1)
      (subst (λ k. SetsOut t.finished before (phase_at (k == g) member (phase_of w member (Some s)))) (sym change.0) (sets_same t.finished before)))

  all_out : (t : Setting) (g w number : ℕ) (hs : List Hart) (ns ns' : List ℕ) (afters : List (Option Stage)) (stages' : List Stage) (ps ps' : List P)
      → AllChange source image plan blocks plan' blocks' t (numbered number hs) ns ns' afters stages' ps ps' → plan'.in_lockstep g ≡ false
      → ((k : ℕ) → plan'.member w k ≡ plan.member w k)
      → AllSetOut t.finished (phases_from plan g w number ns afters) (phases_from plan' g w number ns' (kept stages'))
  all_out t g w number [] [] [] [] [] [] [] change alone same = tt
  all_out t g w number (h ∷ hs) (n ∷ ns) (n' ∷ ns') (a ∷ afters) (s' ∷ stages') (p ∷ ps) (p' ∷ ps') change alone same = (
    out_one t g w (record { number = number; hart = h }) n n' a s' p p' change.0 alone (same number),
    all_out t g w (suc number) hs ns ns' afters stages' ps ps' change.1 alone same,
  )
  all_out t g w number hs ns ns' afters stages' ps ps' change alone same = absurd (assumption change)

  new_fresh : (t : Setting) (m : Member) (n n' : ℕ) (a : Option Stage) (s' : Stage) (p p' : P) → a ≡ None → Changes source image plan blocks plan' blocks' t m n n' a s' p p' → IsFresh t s'
  new_fresh t m n n' None s' p p' e change = change.0
  new_fresh t m n n' (Some s) s' p p' e change = absurd (cc)

  all_idle : (t : Setting) (g w number : ℕ) (ms : List Member) (ns ns' : List ℕ) (afters : List (Option Stage)) (stages' : List Stage) (ps ps' : List P)
      → AllChange source image plan blocks plan' blocks' t ms ns ns' afters stages' ps ps' → AllAreNew g ns' afters
      → Each (IsIdle t.finished) (phases_from plan' g w number ns' (kept stages'))
  all_idle t g w number [] [] [] [] [] [] [] change new = tt
  all_idle t g w number (m ∷ ms) (n ∷ ns) (n' ∷ ns') (a ∷ afters) (s' ∷ stages') (p ∷ ps) (p' ∷ ps') change new = (
    idle_at t w (n' == g) (plan'.member w number) s' (λ e. new_fresh t m n n' a s' p p' (new.0 e) change.0),
    all_idle t g w (suc number) ms ns ns' afters stages' ps ps' change.1 new.1,
  )
  all_idle t g w number ms ns ns' afters stages' ps ps' change new = absurd (assumption change)

  -- ---- distances

  -- who has not committed keeps its stage
  abbrev Keeps : Option Stage → Stage → Type 0
  Keeps None s' = Unit {0}
  Keeps (Some s) s' = s' ≡ s

  keeps_one : (t : Setting) (m : Member) (n n' : ℕ) (a : Option Stage) (s' : Stage) (p p' : P) → Changes source image plan blocks plan' blocks' t m n n' a s' p p' → Keeps a s'
  keeps_one t m n n' None s' p p' change = tt
  keeps_one t m n n' (Some s) s' p p' change = change.1

  all_keep : (t : Setting) (ms : List Member) (ns ns' : List ℕ) (afters : List (Option Stage)) (stages' : List Stage) (ps ps' : List P)
      → AllChange source image plan blocks plan' blocks' t ms ns ns' afters stages' ps ps' → Pairwise Keeps afters stages'
  all_keep t [] [] [] [] [] [] [] change = tt
  all_keep t (m ∷ ms) (n ∷ ns) (n' ∷ ns') (a ∷ afters) (s' ∷ stages') (p ∷ ps) (p' ∷ ps') change =
      (keeps_one t m n n' a s' p p' change.0, all_keep t ms ns ns' afters stages' ps ps' change.1)
  all_keep t ms ns ns' afters stages' ps ps' change = absurd (assumption change)

  near_one : (s : Stage) (a : Option Stage) (s' : Stage) → Remains s a → Keeps a s' → Nears (distance s) (distance s')
  near_one s None s' stays keeps = over_near s (distance s') stays
    where
      over_near : (s : Stage) (d' : Option ℕ) → IsOver s → Nears (distance s) d'
      over_near Ended d' over = tt
      over_near (Acts d inner) d' over = subst (λ x. Nears x d') (sym over) tt
      over_near (Meets Commits w f) d' over = subst (λ x. Nears x d') (sym over) tt
      over_near (Meets Unites w f) d' over = subst (λ x. Nears (distance (Meets Unites w x)) d') (sym over) tt
  near_one s (Some s1) s' stays keeps = subst (λ x. Nears (distance s) (distance x)) (sym keeps) stays.1

  all_near : (stages : List Stage) (afters : List (Option Stage)) (stages' : List Stage) → Pairwise Remains stages afters → Pairwise Keeps afters stages' → AllNear stages stages'
  all_near [] [] [] stay keep = tt
  all_near (s ∷ stages) (a ∷ afters) (s' ∷ stages') stay keep = (near_one s a s' stay.0 keep.0, all_near stages afters stages' stay.1 keep.1)
  all_near stages afters stages' stay keep = absurd (assumption (stay, keep))

  -- ---- all of it

  binds_by : (b : Bool) (t : Setting) (g : ℕ) (stages : List Stage) (ms : List Member) (ps : List P) (own : Memory) → plan'.in_lockstep g ≡ b
      → (plan'.in_lockstep g ≡ true → InLockstep source image plan' blocks' t g stages ms ps own) → (plan'.in_lockstep g ≡ false → AllStandAt source image plan' blocks' t g stages ms ps)
      → Binds source image plan' blocks' b t g stages ms ps own
  binds_by true t g stages ms ps own e group alone = group e
  binds_by false t g stages ms ps own e group alone = alone e

  pub left_alone : (b : Bool) (t : Setting) (g : ℕ) (afters : List (Option Stage)) (ms : List Member) (ps : List P) (ds : List D) (own : Memory) → b ≡ false
      → NodeIsLeft source image plan blocks b t g afters ms ps ds own → AllAreLeft source image plan blocks t g afters ms ps ds
  left_alone b t g afters ms ps ds own e left = subst (λ c. NodeIsLeft source image plan blocks c t g afters ms ps ds own) e left

  pub left_group : (b : Bool) (t : Setting) (g : ℕ) (afters : List (Option Stage)) (ms : List Member) (ps : List P) (ds : List D) (own : Memory) → b ≡ true
      → NodeIsLeft source image plan blocks b t g afters ms ps ds own → NodeIsLeft source image plan blocks true t g afters ms ps ds own
  left_group b t g afters ms ps ds own e left = subst (λ c. NodeIsLeft source image plan blocks c t g afters ms ps ds own) e left

  pub plan_goes_on : (t : Setting) (stages stages' : List Stage) (hs hs' : List Hart) (ps ps' : List P) (ds : List D) (own own' : ℕ → Memory) (control : Memory)
      → length hs < 2 ^ 31 → IsBound source image plan blocks t stages hs ps own → (left : IsLeft source image plan blocks t stages hs' ps ds own own')
      → ((g : ℕ) → Has (plan.words g) control (own' g)) → TreeChanges source image plan blocks plan' blocks' t hs' left.afters stages' ps ps' control
      → GoesOn source image plan blocks plan' blocks' t stages stages' hs' ps' own control
  plan_goes_on t stages stages' hs hs' ps ps' ds own own' control few bound left has changes =
      let t' = later t in
      let ms = numbered 0 hs' in
      let afters = left.afters in
      let all = all_placed t' ms plan.nodes plan'.nodes afters stages' hs' ps ps' ds changes.harts left.done_as_many
      (λ g e. left_alone (plan.in_lockstep g) t' g (of_node g plan.nodes afters) (of_node g plan.nodes ms) (of_node g plan.nodes ps) (of_node g plan.nodes ds) (own' g) e (left.nodes g)) in
      let group : (g : ℕ) → plan'.in_lockstep g ≡ true → InLockstep source image plan' blocks' t' g (of_node g plan'.nodes stages') (of_node g plan'.nodes ms) (of_node g plan'.nodes ps') control =
      λ g e. ⊎_elim
      (λ stays. group_stays t' g ms afters stages' ps ps' (of_node g plan.nodes ds) (own' g) control changes.harts stays (has g)
      (left_group (plan.in_lockstep g) t' g (of_node g plan.nodes afters) (of_node g plan.nodes ms) (of_node g plan.nodes ps) (of_node g plan.nodes ds) (own' g) stays.grouped (left.nodes g)))
      (λ begins. begins) (changes.groups g e) in
      let out : (g w : ℕ) → plan'.in_lockstep g ≡ false → MeetingStays source image plan blocks plan' blocks' g w → AllSetOut t'.finished (phases plan g w afters) (phases plan' g w (kept stages')) =
      λ g w alone stays. all_out t' g w 0 hs' plan.nodes plan'.nodes afters stages' ps ps' changes.harts alone stays.same in
      let same_word : (g w : ℕ) → (stays : MeetingStays source image plan blocks plan' blocks' g w) → own' g w ≡ control w =
      λ g w stays. sym (has g w stays.was.0) in
      record {
        bound = record {
          as_many = changes.as_many;
          stages_as_many = changes.stages_as_many;
          binds = λ g. binds_by (plan'.in_lockstep g) t' g (of_node g plan'.nodes stages') (of_node g plan'.nodes ms) (of_node g plan'.nodes ps') control refl (group g)
              (λ e. stand_of t' g ms plan'.nodes stages' ps' e all);
          counts = λ g w alone is_open.
              let fs = phases plan' g w (kept stages') in
              ⊎_elim
              (λ stays.
              let now = meeting_is_kept source image plan blocks t stages hs hs' ps ds own own' few bound left g w stays.alone stays.was in
              let settled = members_may_set_out t'.finished (plan.size w) (own' g w) (phases plan g w afters) fs now.settled (out g w alone stays) in
              subst (λ n. Settled t'.finished n (control w) fs) (sym stays.size) (subst (λ v. Settled t'.finished (plan.size w) v fs) (same_word g w stays) settled))
              (λ opens.
              subst (λ v. Settled t'.finished (plan'.size w) v fs) (sym opens.empty)
              (subst (λ n. Settled t'.finished n 0 fs) opens.size
              (words_open_at_zero t'.finished fs (all_idle t' g w 0 ms plan.nodes plan'.nodes afters stages' ps ps' changes.harts opens.new))))
              (changes.meetings g w alone is_open);
        };
        near = all_near stages afters stages' left.stay (all_keep t' ms plan.nodes plan'.nodes afters stages' ps ps' changes.harts);
        moves = λ g w alone stays.
            subst (λ v. AllMove t.finished (plan.size w) blocks.lead (phases plan g w (kept stages)) (own g w) (phases plan' g w (kept stages')) v) (same_word g w stays)
            (all_move_then_out t.finished (plan.size w) blocks.lead (own g w) (own' g w) (phases plan g w (kept stages)) (phases plan g w afters) (phases plan' g w (kept stages'))
            (left.moved g w stays.alone stays.was) (out g w alone stays));
      }

pub plans_go_on : (S P D : Type 0) → PlansGoOn S P D
plans_go_on S P D source image plan plan' tests tests' t stages stages' hs hs' ps ps' ds own own' control few bound left has changes =
    plan_goes_on source image plan (told_by tests) plan' (told_by tests') t stages stages' hs hs' ps ps' ds own own' control few bound left has changes

pub runs_lead_to_stages : (S P D : Type 0) → RunsLeadToStages S P D
runs_lead_to_stages S P D source image plan tests t g cycles d inner m hart p runs stands =
    (stands.0, does_later source image t (suc inner) d stands.0 cycles m hart p (λ h x. tests.after_one g stands.0 (record m { hart = h }) p x ≡ true) runs stands.1)
