-- What becomes of the spaces and frames that nodes keep by all that is done in a round before the steps that change the tree.
use Rattle.std.proofs.Common.{◌≡◌, ◌≢◌, ◌⊎◌, inl, inr, ⊎_elim, ℕ, zero, suc, ◌<◌, Bool, true, false, true≢false, List, [], ◌∷◌, length, slice_get, Option, Some, None, is_some, refl, sym, ap, ◌∙◌, subst, subst₂, if◌then◌else◌}
use Rattle.std.specs.Prelude.{slice_index, option_map}
use Rattle.fk_meaning_operation.specs.Kinds.{class_of}
use Rattle.fk_meaning_operation.specs.declared.operation.Operation.{Operation}
use Rattle.fk_meaning_operation.specs.declared.operation.Operation.TheVariants as o
use Rattle.fk_meaning_operation.specs.declared.kinds.Class.{Class}
use Rattle.fk_meaning_operation.specs.declared.kinds.Class.TheVariants as class
use Rattle.fk_tree.specs.declared.node.Kind.{Kind}
use Rattle.fk_tree.specs.declared.node.Kind.TheVariants.{Lockstep, Waiting, Asynchronous}
use Rattle.fk_tree.specs.Tree as t
use Rattle.fk_tree.specs.Tree.{Tree, members, parent, kind}
use Rattle.fk_tree.specs.Sound.{Has, awaits}
use Rattle.fk_tree.proofs.Shapes.{has_some}
use Rattle.fk_meaning.specs.Processor.{Processor, Setting, values, last}
use Rattle.fk_meaning.specs.Local.{local, is_onward}
use Rattle.fk_meaning.specs.Request.{with_answer}
use Rattle.fk_meaning.specs.Group.{does}
use Rattle.fk_meaning.specs.Round.{Step, Runner, State, Round, Acting, taking, done, do_local, lowest, agreed, local_phase, after_locals, is_possible}
use Rattle.fk_lockstep.specs.Untouched.{changes_tree}
use Rattle.fk_lockstep.proofs.Rounds.{Outcome}
use Rattle.fk_lockstep.specs.Counts.{Counts}
use Rattle.fk_lockstep.specs.Course.{Context, InGroup, ByItself, Does, FollowsFor}
use Rattle.fk_lockstep.proofs.Acting.{untrue, Here, Out, told, HasValue, Is, within, Grouped, Parted, LonerOrNone, Apart, AtNode, ahead_of, does_so, alone_plain as stays_alone, going_on, taken_by, acting_elim, after_passing, passing_grouped, passing_is, closed_grouped, closed_is, quietly, lone_many, wait_many, wait_closed, Settles, plain_way}
use Rattle.fk_lockstep.proofs.Trees.{NodeIs, IsThere, Inv}
use Rattle.fk_lockstep.proofs.Round as rounds
use Rattle.fk_lockstep.proofs.Round.{first_is, lowest_member, index_at, actings as actings_of, settle as settle_of, new as new_of, has_at, Sound, Ordered, quiet as quiet_of, now_has as now_has_of}
use Rattle.fk_lockstep.specs.Frames.{Leaves, calling}
use Rattle.fk_lockstep.proofs.Tiers.{Tier, plain_own}
use Rattle.fk_lockstep.proofs.Stands.{Tiers, all_of, with_own, local_own, request_own, Marks, InIt, Alone, marked_of, GoOn, framed_so, in_local, in_request, in_plain, alone_local, alone_request, alone_plain, local_plain, local_not_tree, request_not_tree}

-- what a node keeps, beside those further out
abbrev pub head_of : List (List Tier) → List Tier
head_of [] = []
head_of (x ∷ xs) = x

leave_onward : (op : Operation) (p : Processor) → calling op ≡ Leaves → is_onward op p ≡ true
leave_onward (o.Leave gives framed) p e = refl
leave_onward op p e = absurd (cc)

module _ {W : Type 0} (next : W → Option (Step W)) (outs : W → List W) where
  -- at a halt one is in no body
  halt_outside : (F : Context → W → Type 0) (alone : Bool) (w : W) (rest : Bool → W) → Does next outs F (ByItself alone) o.Halt w rest → alone ≡ false
  halt_outside F true w rest h = absurd h
  halt_outside F false w rest h = refl

  -- a block stands behind an agree
  block_agreed : (F : Context → W → Type 0) (agreed : Bool) (w : W) (rest : Bool → W) → Does next outs F (InGroup agreed) o.Block w rest → agreed ≡ true
  block_agreed F agreed w rest h = h.0

is_halt : (op : Operation) → (op ≡ o.Halt) ⊎ (op ≢ o.Halt)
is_halt o.Halt = inl refl
is_halt op = inr (λ e. cc)

not_halt : (op : Operation) → class_of op ≡ class.Local → op ≢ o.Halt
not_halt o.Halt is = absurd (cc)
not_halt op is = λ e. cc

not_halt' : (op : Operation) → class_of op ≡ class.Request → op ≢ o.Halt
not_halt' o.Halt is = absurd (cc)
not_halt' op is = λ e. cc

abbrev value_of : Option ℕ → ℕ
value_of None = 0
value_of (Some v) = v

-- a block takes as many words as the group has agreed on
known_value : {W : Type 0} (next : W → Option (Step W)) (outs : W → List W) (F : Context → W → Type 0) (a : Option ℕ) (op : Operation) (w : W) (rest : Bool → W) (r : Runner W) (t' : Tier)
    → Does next outs F (InGroup (is_some a)) op w rest → HasValue a r → plain_own op (value_of a) t' ≡ plain_own op (last (values r.has)) t'
known_value next outs F None o.Block w rest r t' h value = untrue (h.0)
known_value next outs F (Some v) o.Block w rest r t' h value = ap (λ (u : ℕ). plain_own o.Block u t') (sym value)
known_value next outs F a op w rest r t' h value = refl

module _ {W : Type 0} (next : W → Option (Step W)) (outs : W → List W) (counts : Counts W) (depth : W → ℕ) (set : Setting) where
  abbrev Fits : Tiers → Runner W → Type 0
  Fits x r = InIt next outs depth x r

  abbrev pub Ordinary : List (List Tier) → Tiers → Type 0
  Ordinary b x = x.round ≡ head_of b

  -- no group is round the root
  abbrev pub RoundIs : ℕ → List (List Tier) → Tiers → Type 0
  RoundIs zero b x = x.round ≡ []
  RoundIs (suc n) b x = x.round ≡ head_of b

  abbrev pub Outer : ℕ → List (List Tier) → Tiers → Type 0
  Outer n b x = RoundIs n b x × (within n ≡ false → length x.own.frames ≡ 1)

  abbrev pub Single : ℕ → List (List Tier) → Tiers → Runner W → Type 0
  Single n b x r = RoundIs n b x × Alone next outs depth n x r

  -- a group
  abbrev passed_class : Tier → Class → Operation → Tier
  passed_class u class.Local op = local_own op u
  passed_class u class.Request op = u
  passed_class u class.Tree op = u

  abbrev passed_tier : Tier → Option (Step W) → Tier
  passed_tier u None = u
  passed_tier u (Some step) = passed_class u (class_of step.operation) step.operation

  abbrev after_tiers : (count : ℕ) → Here W → Tier → Tier
  after_tiers zero x u = u
  after_tiers (suc c) x u = after_tiers c (after_passing next outs counts set 1 x) (passed_tier u (next x.left))

  abbrev closed_class : Option ℕ → Tier → Class → Operation → Tier
  closed_class a u class.Local op = local_own op u
  closed_class a u class.Request op = request_own op u
  closed_class a u class.Tree op = if changes_tree op then u else plain_own op (value_of a) u

  abbrev closed_tier : Here W → Tier → Option (Step W) → Tier
  closed_tier x u None = u
  closed_tier x u (Some step) = closed_class x.agreed u (class_of step.operation) step.operation

  module _ (behind : List (Out W)) (y : Tiers) where
    pub group_one : (x : Here W) → Grouped next outs counts behind x → (r : Runner W) → Is next outs counts x r → (u : Tier) → Fits (with_own y u) r
        → Fits (with_own y (passed_tier u (next x.left))) (after_locals next set 1 r)
    group_one x g r is u f =
        subst (λ (due : Option (Step W)). Fits (with_own y (passed_tier u due)) (after_locals next set 1 r)) (ap next is.left) (by (next r.left) refl)
      where
        after : Runner W
        after = after_locals next set 1 r

        same : outs after.left ≡ outs r.left
        same =
            ap outs (passing_is next outs counts set 1 behind x g r is).left ∙ (passing_grouped next outs counts set 1 behind x g).outs_are
            ∙ sym g.outs_are ∙ ap outs (sym is.left)

        by_class : (step : Step W) → next r.left ≡ Some step → (c : Class) → class_of step.operation ≡ c
            → outs (do_local next set (taking r (Some step)) c step).runner.left ≡ outs r.left
            → Fits (with_own y (passed_class u c step.operation)) (do_local next set (taking r (Some step)) c step).runner
        by_class step e class.Local is' same' =
            in_local next outs depth (with_own y u) r f set step.operation step.rest (is_onward step.operation r.has) is'
            (framed_so next outs depth (length y.round) false r.left step f.framed e) same' (leave_onward step.operation r.has)
        by_class step e class.Request is' same' = f
        by_class step e class.Tree is' same' = f

        by : (due : Option (Step W)) → next r.left ≡ due → Fits (with_own y (passed_tier u due)) after
        by None e = subst (λ (due : Option (Step W)). Fits (with_own y u) (local_phase next set (taking r due) due).runner) (sym e) f
        by (Some step) e =
            let now : Acting W = do_local next set (taking r (Some step)) (class_of step.operation) step in
            let is_now : after ≡ now.runner = ap (λ (due : Option (Step W)). (local_phase next set (taking r due) due).runner) e in
            subst (Fits (with_own y (passed_tier u (Some step)))) (sym is_now)
            (by_class step e (class_of step.operation) refl (subst (λ (q : Runner W). outs q.left ≡ outs r.left) is_now same))

    pub group_many : (count : ℕ) (x : Here W) → Grouped next outs counts behind x → (r : Runner W) → Is next outs counts x r → (u : Tier) → Fits (with_own y u) r
        → Fits (with_own y (after_tiers count x u)) (after_locals next set count r)
    group_many zero x g r is u f = f
    group_many (suc c) x g r is u f =
        group_many c (after_passing next outs counts set 1 x) (passing_grouped next outs counts set 1 behind x g) (after_locals next set 1 r)
        (passing_is next outs counts set 1 behind x g r is) (passed_tier u (next x.left)) (group_one x g r is u f)

    module _ (settle : Runner W → Option (Step W) → Runner W) (none : (r : Runner W) → settle r None ≡ r) (v : ℕ) where
      abbrev quiet : Acting W → Runner W
      quiet b = quietly next outs counts set settle b

      pub group_last : (x : Here W) → Grouped next outs counts behind x → (q : Runner W) → Is next outs counts x q
          → ((step : Step W) → changes_tree step.operation ≡ false → Settles next outs counts v step q (settle q (Some step)))
          → (u : Tier) → Fits (with_own y u) q → (b : Acting W) → Outcome (taken_by next outs counts set q) (taken_by next outs counts set q).due b
          → Fits (with_own y (closed_tier x u (next x.left))) (quiet b)
      group_last x g q is some u f b out =
          subst (λ (due : Option (Step W)). Fits (with_own y (closed_tier x u due)) (quiet b)) (ap next is.left)
          (acting_elim next outs counts set (λ (c : Acting W). outs (quiet c).left ≡ outs q.left → Fits (with_own y (closed_tier x u (next q.left))) (quiet c)) q b
          (λ e same. subst₂ (λ (due : Option (Step W)) (r : Runner W). Fits (with_own y (closed_tier x u due)) r) (sym e) (sym (none q)) f)
          (λ step e c same. by_local step e c same)
          (λ step a e c same. by_request step a e c same)
          (λ step e c same. by_tree step e c (changes_tree step.operation) refl same)
          out same_after)
        where
          same_after : outs (quiet b).left ≡ outs q.left
          same_after =
              ap outs (closed_is next outs counts set settle behind x g v q is none some b out).left ∙ (closed_grouped next outs counts set v behind x g).outs_are
              ∙ sym g.outs_are ∙ ap outs (sym is.left)

          go_on : (step : Step W) → next q.left ≡ Some step → GoOn next outs depth (length y.round) false step.operation q.left step.rest
          go_on step e = framed_so next outs depth (length y.round) false q.left step f.framed e

          along : (step : Step W) → next q.left ≡ Some step → (c : Class) → class_of step.operation ≡ c → (r : Runner W) → Fits (with_own y (closed_class x.agreed u c step.operation)) r
              → Fits (with_own y (closed_tier x u (next q.left))) r
          along step e c is' r h =
              subst (λ (due : Option (Step W)). Fits (with_own y (closed_tier x u due)) r) (sym e)
              (subst (λ (c' : Class). Fits (with_own y (closed_class x.agreed u c' step.operation)) r) (sym is') h)

          by_local : (step : Step W) → next q.left ≡ Some step → class_of step.operation ≡ class.Local
              → let r = (done step (is_onward step.operation q.has) (local set step.operation q.has)).runner in
              outs (settle r None).left ≡ outs q.left → Fits (with_own y (closed_tier x u (next q.left))) (settle r None)
          by_local step e c same =
              let r = (done step (is_onward step.operation q.has) (local set step.operation q.has)).runner in
              along step e class.Local c (settle r None)
              (subst (Fits (with_own y (local_own step.operation u))) (sym (none r))
              (in_local next outs depth (with_own y u) q f set step.operation step.rest (is_onward step.operation q.has) c (go_on step e)
              (subst (λ (r' : Runner W). outs r'.left ≡ outs q.left) (none r) same) (leave_onward step.operation q.has)))

          by_request : (step : Step W) (a : ℕ) → next q.left ≡ Some step → class_of step.operation ≡ class.Request
              → let r = (done step true (with_answer step.operation a q.has)).runner in
              outs (settle r None).left ≡ outs q.left → Fits (with_own y (closed_tier x u (next q.left))) (settle r None)
          by_request step a e c same =
              let r = (done step true (with_answer step.operation a q.has)).runner in
              along step e class.Request c (settle r None)
              (subst (Fits (with_own y (request_own step.operation u))) (sym (none r))
              (in_request next outs depth (with_own y u) q f a step.operation step.rest c (go_on step e)
              (subst (λ (r' : Runner W). outs r'.left ≡ outs q.left) (none r) same)))

          by_tree : (step : Step W) → next q.left ≡ Some step → class_of step.operation ≡ class.Tree → (changes : Bool) → changes_tree step.operation ≡ changes
              → outs (if changes_tree step.operation then q else settle q (Some step)).left ≡ outs q.left
              → Fits (with_own y (closed_tier x u (next q.left))) (if changes_tree step.operation then q else settle q (Some step))
          by_tree step e c true changes same =
              along step e class.Tree c (if changes_tree step.operation then q else settle q (Some step))
              (subst (λ (b' : Bool). Fits (with_own y (if b' then u else plain_own step.operation (value_of x.agreed) u)) (if b' then q else settle q (Some step))) (sym changes) f)
          by_tree step e c false changes same =
              let so = some step changes in
              let same' : outs (settle q (Some step)).left ≡ outs q.left = subst (λ (b' : Bool). outs (if b' then q else settle q (Some step)).left ≡ outs q.left) changes same in
              let made = in_plain next outs depth (with_own y u) q f step.operation (value_of x.agreed) v so.size step.rest c changes (go_on step e) (ap outs (sym so.left) ∙ same')
              (known_value next outs (FollowsFor next outs 0) x.agreed step.operation x.left step.rest q u
              (does_so next outs counts (InGroup (is_some x.agreed)) x.left step g.follows (ap next (sym is.left) ∙ e) 0) is.value) in
              along step e class.Tree c (if changes_tree step.operation then q else settle q (Some step))
              (subst (λ (b' : Bool). Fits (with_own y (if b' then u else plain_own step.operation (value_of x.agreed) u)) (if b' then q else settle q (Some step))) (sym changes)
              (runner_is (with_own y (plain_own step.operation (value_of x.agreed) u)) (settle q (Some step)) (step.rest true) (does step.operation v so.size q.has) so.left so.has made))
            where
              runner_is : (z : Tiers) (r : Runner W) (w : W) (p : Processor) → r.left ≡ w → r.has ≡ p → Fits z (record { left = w; has = p }) → Fits z r
              runner_is z r w p e' f' h = subst₂ (λ (w' : W) (p' : Processor). Fits z (record { left = w'; has = p' })) (sym e') (sym f') h

  -- by itself
  module _ (n : ℕ) (y : Tiers) (ahead : List W) (ns : List ℕ) (Holds : Type 0) where
    abbrev Goes : Runner W → Type 0
    Goes r = LonerOrNone next outs counts (within n) ahead ns Holds r

    abbrev Has1 : Runner W → Type 0
    Has1 r = Alone next outs depth n y r

    does_by_itself : (r : Runner W) → Goes r → (step : Step W) → next r.left ≡ Some step → Does next outs (FollowsFor next outs 0) (ByItself (within n)) step.operation r.left step.rest
    does_by_itself r h step e = does_so next outs counts (ByItself (within n)) r.left step (going_on next outs counts (within n) ahead ns Holds r h step e).follows e 0

    go_alone : (r : Runner W) → Has1 r → (step : Step W) → next r.left ≡ Some step → GoOn next outs depth (length y.round) true step.operation r.left step.rest
    go_alone r a step e = framed_so next outs depth (length y.round) true r.left step a.at.framed e

    one_local : (r : Runner W) → Goes r → Has1 r → (step : Step W) → next r.left ≡ Some step → class_of step.operation ≡ class.Local
        → Has1 (done step (is_onward step.operation r.has) (local set step.operation r.has)).runner
    one_local r h a step e c =
        alone_local next outs depth n y r a set step.operation step.rest (is_onward step.operation r.has) c (go_alone r a step e)
        (stays_alone next outs counts (FollowsFor next outs 0) (within n) step.operation r.left step.rest (local_plain step.operation class.Local c local_not_tree) (not_halt step.operation c) (does_by_itself r h step e) (is_onward step.operation r.has)).0
        (leave_onward step.operation r.has)

    pub lone_one : (r : Runner W) → Goes r → Has1 r → Has1 (after_locals next set 1 r)
    lone_one r h a = by (next r.left) refl
      where
        by_class : (step : Step W) → next r.left ≡ Some step → (c : Class) → class_of step.operation ≡ c → Has1 (do_local next set (taking r (Some step)) c step).runner
        by_class step e class.Local is' = one_local r h a step e is'
        by_class step e class.Request is' = a
        by_class step e class.Tree is' = a

        by : (due : Option (Step W)) → next r.left ≡ due → Has1 (local_phase next set (taking r due) due).runner
        by None e = a
        by (Some step) e = by_class step e (class_of step.operation) refl

    pub lone_all : (count : ℕ) (r : Runner W) → Goes r → Has1 r → Has1 (after_locals next set count r)
    lone_all zero r h a = a
    lone_all (suc c) r h a =
        lone_all c (after_locals next set 1 r) (lone_many next outs counts set (λ q due. q) (within n) ahead ns Holds 1 r h) (lone_one r h a)

    pub lone_last : (settle : Runner W → Option (Step W) → Runner W) (q : Runner W) → Goes q → Has1 q → ((r : Runner W) → settle r None ≡ r) → (v : ℕ)
        → ((step : Step W) → changes_tree step.operation ≡ false → Settles next outs counts v step q (settle q (Some step)))
        → (b : Acting W) → Outcome (taken_by next outs counts set q) (taken_by next outs counts set q).due b → Has1 (quietly next outs counts set settle b)
    lone_last settle q h a none v some b out =
        acting_elim next outs counts set (λ (c : Acting W). Has1 (quietly next outs counts set settle c)) q b
        (λ e. subst Has1 (sym (none q)) a)
        (λ step e c. subst Has1 (sym (none (done step (is_onward step.operation q.has) (local set step.operation q.has)).runner)) (one_local q h a step e c))
        (λ step w e c. subst Has1 (sym (none (done step true (with_answer step.operation w q.has)).runner)) (one_request step w e c))
        (λ step e c. by_tree step e c (changes_tree step.operation) refl)
        out
      where
        one_request : (step : Step W) (w : ℕ) → next q.left ≡ Some step → class_of step.operation ≡ class.Request → Has1 (done step true (with_answer step.operation w q.has)).runner
        one_request step w e c =
            alone_request next outs depth n y q a w step.operation step.rest c (go_alone q a step e)
            (stays_alone next outs counts (FollowsFor next outs 0) (within n) step.operation q.left step.rest (local_plain step.operation class.Request c request_not_tree) (not_halt' step.operation c) (does_by_itself q h step e) true).0

        outside : (m : ℕ) → within m ≡ false → (ws : List W) → Marks next outs depth ws (marked_of next outs depth m y)
        outside zero e ws = tt
        outside (suc m) e ws = absurd (true≢false e)

        marks_then : (step : Step W) → next q.left ≡ Some step → changes_tree step.operation ≡ false → Marks next outs depth (outs (step.rest true)) (marked_of next outs depth n y)
        marks_then step e quiet =
            ⊎_elim
            (λ halt. outside n (halt_outside next outs (FollowsFor next outs 0) (within n) q.left step.rest
            (subst (λ (op : Operation). Does next outs (FollowsFor next outs 0) (ByItself (within n)) op q.left step.rest) halt (does_by_itself q h step e))) (outs (step.rest true)))
            (λ other. subst (λ (ws : List W). Marks next outs depth ws (marked_of next outs depth n y))
            (sym (stays_alone next outs counts (FollowsFor next outs 0) (within n) step.operation q.left step.rest quiet other (does_by_itself q h step e) true).0) a.at.marks)
            (is_halt step.operation)

        by_tree : (step : Step W) → next q.left ≡ Some step → class_of step.operation ≡ class.Tree → (changes : Bool) → changes_tree step.operation ≡ changes
            → Has1 (if changes_tree step.operation then q else settle q (Some step))
        by_tree step e c true changes = subst (λ (b' : Bool). Has1 (if b' then q else settle q (Some step))) (sym changes) a
        by_tree step e c false changes =
            let so = some step changes in
            subst (λ (b' : Bool). Has1 (if b' then q else settle q (Some step))) (sym changes)
            (subst (λ (p : Processor). Has1 (record { left = (settle q (Some step)).left; has = p })) (sym so.has)
            (alone_plain next outs depth n y q a step.operation v so.size step.rest (settle q (Some step)).left c changes (go_alone q a step e) so.left (marks_then step e changes)))

-- a round
module _ {W : Type 0} (next : W → Option (Step W)) (outs : W → List W) (counts : Counts W) (depth : W → ℕ) (set : Setting) (round : Round) (s : State W)
    (p : ℕ) (here : ℕ → Here W) (behind : ℕ → List (Out W)) (inv : Sound next outs counts set round s p s.tree (has_at next outs counts set round s) here behind)
    (ordered : Ordered next outs counts set round s p) (possible : is_possible next set round s ≡ true) where
  abbrev pub actings : List (Acting W)
  actings = actings_of next outs counts set round s

  abbrev settle : Runner W → Option (Step W) → Runner W
  settle r due = settle_of next outs counts set round s r due

  abbrev pub Levelled : (tree : Tree) (has : ℕ → Option (Runner W)) (keeps : ℕ → Tiers) (round_it : ℕ → List (List Tier)) → Type 0
  Levelled tree has keeps round_it =
      Inv all_of (Ordinary next outs counts depth set) (Outer next outs counts depth set) (Single next outs counts depth set) (InIt next outs depth) p tree has keeps round_it

  -- what each processor does
  abbrev Acts : ℕ → Type 0
  Acts h = rounds.Acts next outs counts set round s p here behind inv ordered possible h

  abbrev acts : (h : ℕ) → h < p → Acts h
  acts h lt = rounds.acts next outs counts set round s p here behind inv ordered possible h lt

  abbrev idles : (h : ℕ) (a : Acts h) → a.count ≡ 0 → a.acting ≡ taking a.runner None
  idles h a e = rounds.idles next outs counts set round s p here behind inv ordered possible h a e

  abbrev q_of : (h : ℕ) (a : Acts h) (c : ℕ) → Runner W
  q_of h a c = after_locals next set c a.runner

  abbrev q_number : (h : ℕ) (a : Acts h) (c : ℕ) → (q_of h a c).has.number ≡ h
  q_number h a c = rounds.q_number next outs counts set round s p here behind inv ordered possible h a c

  abbrev takes : (h : ℕ) (a : Acts h) (c : ℕ) → a.count ≡ suc c → Outcome (taken_by next outs counts set (q_of h a c)) (taken_by next outs counts set (q_of h a c)).due a.acting
  takes h a c e = rounds.takes next outs counts set round s p here behind inv ordered possible h a c e

  abbrev cases_count : (c : ℕ) → (c ≡ 0) ⊎ ((d : ℕ) × (c ≡ suc d))
  cases_count c = rounds.cases_count next outs counts set round s p here behind inv ordered possible c

  abbrev value : ℕ → ℕ
  value n = agreed actings (members s.tree n)

  settles : (v : ℕ) (r : Runner W) → agreed actings (members s.tree (s.tree.places r.has.number)) ≡ v → (step : Step W) → changes_tree step.operation ≡ false
      → Settles next outs counts v step r (settle r (Some step))
  settles v r same step e =
      let new = new_of next outs counts set round s in
      record {
        size = length (members new (new.places r.has.number));
        left = ap step.rest (plain_way step.operation (agreed actings (members s.tree (s.tree.places r.has.number))) (lowest (members s.tree (s.tree.places r.has.number))) r.has e);
        has = ap (λ (v' : ℕ). does step.operation v' (length (members new (new.places r.has.number))) r.has) same;
      }

  module _ (keeps : ℕ → Tiers) (round_it : ℕ → List (List Tier)) (levelled : Levelled s.tree (has_at next outs counts set round s) keeps round_it) where
    abbrev counted_own : (count n : ℕ) → Tier
    counted_own zero n = (keeps n).own
    counted_own (suc c) n =
        closed_tier next outs counts depth set (after_passing next outs counts set c (here n)) (after_tiers next outs counts depth set c (here n) (keeps n).own)
        (next (after_passing next outs counts set c (here n)).left)

    abbrev keeps_by : Option Kind → ℕ → Tiers
    keeps_by None n = keeps n
    keeps_by (Some Lockstep) n = with_own (keeps n) (counted_own (slice_index round (lowest (members s.tree n))) n)
    keeps_by (Some (Waiting first k)) n = keeps n
    keeps_by (Some (Asynchronous alone)) n = keeps n

    abbrev pub now_keeps : ℕ → Tiers
    now_keeps n = keeps_by (kind s.tree n) n

    abbrev hushed : Acting W → Runner W
    hushed b = quiet_of next outs counts set round s p here behind inv ordered possible b

    abbrev pub now_has : ℕ → Option (Runner W)
    now_has h = now_has_of next outs counts set round s p here behind inv ordered possible h

    abbrev IsNow : (n : ℕ) (k : Option Kind) (x : Tiers) (r : Runner W) → Type 0
    IsNow n k x r = IsThere all_of (Ordinary next outs counts depth set) (Outer next outs counts depth set) (Single next outs counts depth set) (InIt next outs depth) p n k (round_it n) x r

    abbrev NodeNow : (n : ℕ) (k : Option Kind) (x : Tiers) → Type 0
    NodeNow n k x = NodeIs all_of (Ordinary next outs counts depth set) (Outer next outs counts depth set) (Single next outs counts depth set) (InIt next outs depth) p n k (round_it n) x

    abbrev WasThere : (n : ℕ) (k : Option Kind) (r : Runner W) → Type 0
    WasThere n k r = IsThere (told {W = W}) (Grouped next outs counts) (Parted next outs counts) (Apart next outs counts) (Is next outs counts) p n k (behind n) (here n) r

    abbrev WasNode : (n : ℕ) (k : Option Kind) → Type 0
    WasNode n k = NodeIs (told {W = W}) (Grouped next outs counts) (Parted next outs counts) (Apart next outs counts) (Is next outs counts) p n k (behind n) (here n)

    counted_in : (n h : ℕ) (a : Acts h) → s.tree.places h ≡ n → Grouped next outs counts (behind n) (here n) → Is next outs counts (here n) a.runner → InIt next outs depth (keeps n) a.runner
        → (c : ℕ) → a.count ≡ c → InIt next outs depth (with_own (keeps n) (counted_own c n)) (hushed a.acting)
    counted_in n h a place g is f zero e = subst (λ (b : Acting W). InIt next outs depth (keeps n) (hushed b)) (sym (idles h a e)) f
    counted_in n h a place g is f (suc c) e =
        let q = q_of h a c in
        let x = after_passing next outs counts set c (here n) in
        let number : q.has.number ≡ h = q_number h a c in
        group_last next outs counts depth set (behind n) (keeps n) settle (λ r. refl) (value n) x (passing_grouped next outs counts set c (behind n) (here n) g) q
        (passing_is next outs counts set c (behind n) (here n) g a.runner is)
        (settles (value n) q (ap value (ap s.tree.places number ∙ place)))
        (after_tiers next outs counts depth set c (here n) (keeps n).own)
        (group_many next outs counts depth set (behind n) (keeps n) c (here n) g a.runner is (keeps n).own f)
        a.acting (takes h a c e)

    group_in : (n h : ℕ) (a : Acts h) → h < p → s.tree.places h ≡ n → kind s.tree n ≡ Some Lockstep → Grouped next outs counts (behind n) (here n) → Is next outs counts (here n) a.runner
        → InIt next outs depth (keeps n) a.runner → InIt next outs depth (keeps_by (Some Lockstep) n) (hushed a.acting)
    group_in n h a lt place locked g is f =
        let in_h : Has s.tree n h = subst (λ (m : ℕ). Has s.tree m h) place (inv.sound.placed h lt).member in
        let l = lowest (members s.tree n) in
        let in_l : Has s.tree n l = lowest_member h (members s.tree n) in_h in
        let b = acts l (inv.sound.within n l in_l) in
        let same : a.count ≡ slice_index round l = rounds.one_count next outs counts set round s p here behind inv ordered possible n locked l h b a in_l in_h ∙ sym (index_at round l b.count b.counted) in
        counted_in n h a place g is f (slice_index round l) same

    wait_in : (n h : ℕ) (a : Acts h) → Parted next outs counts n (behind n) (here n) → Is next outs counts (here n) a.runner → InIt next outs depth (keeps n) a.runner → InIt next outs depth (keeps n) (hushed a.acting)
    wait_in n h a g is f =
        ⊎_elim
        (λ none. subst (λ (b : Acting W). InIt next outs depth (keeps n) (hushed b)) (sym (idles h a none)) f)
        (λ d.
        let r = a.runner in
        let q = q_of h a d.0 in
        let same : q ≡ r = wait_many next outs counts set settle n (behind n) (here n) g d.0 r is.left in
        let left : q.left ≡ (here n).left = ap (λ (u : Runner W). u.left) same ∙ is.left in
        subst (InIt next outs depth (keeps n)) (sym (wait_closed next outs counts set settle n (behind n) (here n) g q left (λ u. refl) a.acting (takes h a d.0 d.1) ∙ same)) f)
        (cases_count a.count)

    lone_in : (n h : ℕ) (a : Acts h) → Apart next outs counts n (behind n) (here n) a.runner → Alone next outs depth n (keeps n) a.runner → Alone next outs depth n (keeps n) (hushed a.acting)
    lone_in n h a g f =
        ⊎_elim
        (λ none. subst (λ (b : Acting W). Alone next outs depth n (keeps n) (hushed b)) (sym (idles h a none)) f)
        (λ d.
        let q = q_of h a d.0 in
        let ahead = ahead_of next outs counts n (behind n) (here n) in
        let ns = (here n).numbers in
        let Holds = AtNode next outs counts (behind n) (here n) in
        lone_last next outs counts depth set n (keeps n) ahead ns Holds settle q
        (lone_many next outs counts set settle (within n) ahead ns Holds d.0 a.runner g)
        (lone_all next outs counts depth set n (keeps n) ahead ns Holds d.0 a.runner g f)
        (λ u. refl) (agreed actings (members s.tree (s.tree.places q.has.number))) (settles (agreed actings (members s.tree (s.tree.places q.has.number))) q refl) a.acting (takes h a d.0 d.1))
        (cases_count a.count)

    kind_none : (o' : Option t.Node) → t.kind_of o' ≡ None → o' ≡ None
    kind_none None e = refl
    kind_none (Some a) e = cc

    there_by : (n h : ℕ) (a : Acts h) → h < p → s.tree.places h ≡ n → (k : Option Kind) → kind s.tree n ≡ k → WasNode n k → WasThere n k a.runner → IsNow n k (keeps n) a.runner
        → IsNow n k (keeps_by k n) (hushed a.acting)
    there_by n h a lt place None e node was f =
        absurd (has_some s.tree n h (subst (λ (m : ℕ). Has s.tree m h) place (inv.sound.placed h lt).member) (kind_none (s.tree.nodes n) e))
    there_by n h a lt place (Some Lockstep) e node was f = group_in n h a lt place e node was f
    there_by n h a lt place (Some (Waiting first k)) e node was f = wait_in n h a node was f
    there_by n h a lt place (Some (Asynchronous alone)) e node was f = (f.0, lone_in n h a was f.1)

    mapped : (h : ℕ) (b : Acting W) (r : Runner W) → slice_get actings h ≡ Some b → now_has h ≡ Some r → r ≡ hushed b
    mapped h b r at e = first_is r (hushed b) (sym e ∙ ap (λ (o' : Option (Acting W)). option_map hushed o') at)

    now_there : (h : ℕ) (r : Runner W) → h < p → now_has h ≡ Some r → IsNow (s.tree.places h) (kind s.tree (s.tree.places h)) (now_keeps (s.tree.places h)) r
    now_there h r lt e =
        let a = acts h lt in
        let n = s.tree.places h in
        subst (IsNow n (kind s.tree n) (now_keeps n)) (sym (mapped h a.acting r a.at e))
        (there_by n h a lt refl (kind s.tree n) refl (inv.node n) (inv.there h a.runner lt a.is) (levelled.there h a.runner lt a.is))

    node_by : (n : ℕ) (k : Option Kind) → NodeNow n k (keeps n) → NodeNow n k (keeps_by k n)
    node_by n None g = tt
    node_by n (Some Lockstep) g = g
    node_by n (Some (Waiting first k)) g = g
    node_by n (Some (Asynchronous alone)) g = tt

    waiting_same : (o' : Option Kind) (m n : ℕ) → awaits o' m ≡ true → keeps_by o' n ≡ keeps n
    waiting_same None m n e = refl
    waiting_same (Some Lockstep) m n e = untrue e
    waiting_same (Some (Waiting first k)) m n e = refl
    waiting_same (Some (Asynchronous alone)) m n e = refl

    pub now_levelled : Levelled s.tree now_has now_keeps round_it
    now_levelled = record {
      sound = inv.sound;
      chain = λ m ne some.
          let up = parent s.tree m in
          levelled.chain m ne some ∙ ap (λ (x : Tiers). all_of x ∷ round_it up) (sym (waiting_same (kind s.tree up) m up (inv.sound.awaited m ne some)));
      node = λ n. node_by n (kind s.tree n) (levelled.node n);
      there = now_there;
    }
