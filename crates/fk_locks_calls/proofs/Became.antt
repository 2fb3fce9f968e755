-- What becomes of a processor in a round.
use Rattle.std.proofs.Common.{◌≡◌, ℕ, zero, suc, Bool, true, false, List, [], ◌∷◌, Option, Some, None, ap, ◌∙◌, refl, sym, subst}
use Rattle.std.specs.Prelude.{slice_get, if◌then◌else◌, ◌==◌}
use Rattle.fk_space.specs.Space.{Space, frame, block}
use Rattle.fk_tree.specs.Tree as t
use Rattle.fk_meaning_operation.specs.declared.operation.Operation.{Operation}
use Rattle.fk_meaning_operation.specs.declared.operation.Operation.TheVariants as o
use Rattle.fk_meaning_operation.specs.declared.operation.SplitKind.{SplitKind}
use Rattle.fk_meaning_operation.specs.declared.kinds.Class.{Class}
use Rattle.fk_meaning_operation.specs.declared.kinds.Class.TheVariants.{Local, Request, Tree}
use Rattle.fk_meaning_operation.specs.Kinds.{class_of}
use Rattle.fk_meaning_store.specs.Store.{Store}
use Rattle.fk_meaning_store.specs.Serve.{Answer, Served, Faults, serve, words_of}
use Rattle.fk_meaning.specs.Processor.{Level, Processor, Setting, values, last, drop_last, in_place, enter_level, to_outer, leave_level}
use Rattle.fk_meaning.specs.Request.{request, with_answer}
use Rattle.fk_meaning.specs.Group.{part, divided, start_level, is_taken, framed, allotted, with_size, stays, does, has_room, goes_onward}
use Rattle.fk_meaning.specs.Round.{Step, Runner, State, Round, Acting, Phase, Passes, Breaks, Phases, done, answered, do_request, request_phase, after_phase, all_requests, all_changes, settled_by, settled, tree_phase, local_phase, do_local, begin, asking, after_locals, after_one, taking, result}
use Rattle.fk_meaning.proofs.Stopped.{phase_fault}
use Rattle.fk_lockstep.proofs.Moves.{local_number}

-- ---- steps of the tree keep the number of a processor

outer_number : (p : Processor) (ls : List Level) → (to_outer p ls).number ≡ p.number
outer_number p [] = refl
outer_number p (l ∷ ls) = refl

framed_number : (nesting : ℕ) (p : Processor) (s : Option Space) → (framed nesting p s).number ≡ p.number
framed_number nesting p None = refl
framed_number nesting p (Some s) = refl

allotted_number : (p : Processor) (b : Option (ℕ × Space)) → (allotted p b).number ≡ p.number
allotted_number p None = refl
allotted_number p (Some b) = refl

divided_number : (by : SplitKind) (size : ℕ) (p : Processor) (o : Option ℕ) → (divided by size p o).number ≡ p.number
divided_number by size p None = refl
divided_number by size p (Some i) = refl

either_number : (b : Bool) (p q : Processor) (n : ℕ) → p.number ≡ n → q.number ≡ n → (if b then p else q).number ≡ n
either_number true p q n e f = e
either_number false p q n e f = f

does_number : (op : Operation) (highest size : ℕ) (p : Processor) → (does op highest size p).number ≡ p.number
does_number o.Begin highest size p = either_number (is_taken highest p) (enter_level (start_level p size) (drop_last 1 p)) (drop_last 1 p) p.number refl refl
does_number (o.Frame nesting words) highest size p = framed_number nesting p (frame p.level.space words)
does_number o.Block highest size p =
    let words = words_of (last (values p)) in
    either_number (words == 0) (in_place 0 p) (allotted p (block p.level.space words)) p.number refl (allotted_number p (block p.level.space words))
does_number (o.Split by) highest size p = divided_number by size p (part by (values p))
does_number o.Shrink highest size p =
    either_number (stays p) (with_size size (drop_last 1 p)) (leave_level (drop_last 1 p)) p.number refl (outer_number (drop_last 1 p) (drop_last 1 p).outer)
does_number o.End highest size p = outer_number p p.outer
does_number op highest size p = refl

module _ {W : Type 0} where
  -- ---- requests and steps of the tree

  -- An operation that isn't local is done by a processor.
  pub data Does (s : Step W) (p : Processor) (r : Runner W) : Type 0 where
    Answered : (v : ℕ) → class_of s.operation ≡ Request → r ≡ record { left = s.rest true; has = with_answer s.operation v p } → Does s p r
    Steps : (onward : Bool) → class_of s.operation ≡ Tree → r.left ≡ s.rest onward → r.has.number ≡ p.number → Does s p r

  pub data Becomes (a : Acting W) (r : Runner W) : Type 0 where
    Same : a.due ≡ None → r ≡ a.runner → Becomes a r
    Done : (s : Step W) → a.due ≡ Some s → Does s a.runner.has r → Becomes a r

  -- what isn't local
  abbrev pub NotLocal : Option (Step W) → Type 0
  NotLocal None = Unit {0}
  NotLocal (Some s) = class_of s.operation ≡ Local → ⊥

  -- a processor after the requests: its request is served, or it has none
  data Passed (a b : Acting W) : Type 0 where
    Kept : b ≡ a → ((s : Step W) → a.due ≡ Some s → class_of s.operation ≡ Tree) → Passed a b
    Serves : (s : Step W) (v : ℕ) → a.due ≡ Some s → class_of s.operation ≡ Request → b ≡ done s true (with_answer s.operation v a.runner.has) → Passed a b

  abbrev PassedIn : (a : Acting W) → Phase W → Type 0
  PassedIn a (Passes s b) = Passed a b
  PassedIn a (Breaks site) = Unit {0}

  passes_answer : (a : Acting W) (step : Step W) (given : Answer) → a.due ≡ Some step → class_of step.operation ≡ Request → PassedIn a (answered step a.runner.has given)
  passes_answer a step (Served s v) e c = Serves step v e c refl
  passes_answer a step (Faults kind) e c = tt

  same_step : (s u : Step W) → Some s ≡ Some u → s ≡ u
  same_step s u e = cc

  passes_tree : (a : Acting W) (st : Store) (step : Step W) (room : Bool) → a.due ≡ Some step → class_of step.operation ≡ Tree → PassedIn a (if room then Passes st a else Breaks step.site)
  passes_tree a st step true e c = Kept refl (λ s f. ap (λ (u : Step W). class_of u.operation) (same_step s step (sym f ∙ e)) ∙ c)
  passes_tree a st step false e c = tt

  passes_class : (st : Store) (a : Acting W) (step : Step W) (c : Class) → a.due ≡ Some step → class_of step.operation ≡ c → (c ≡ Local → ⊥) → PassedIn a (do_request st a c step)
  passes_class st a step Local e f differs = absurd (differs refl)
  passes_class st a step Request e f differs = passes_answer a step (serve (request step.operation a.runner.has) st a.runner.has.number) e f
  passes_class st a step Tree e f differs = passes_tree a st step (has_room step.operation a.runner.has) e f

  passes : (st : Store) (a : Acting W) (due : Option (Step W)) → a.due ≡ due → NotLocal due → PassedIn a (request_phase st a due)
  passes st a None e differs = Kept refl (λ s f. let bad : None ≡ Some s = sym e ∙ f in absurd (cc))
  passes st a (Some step) e differs = passes_class st a step (class_of step.operation) e refl differs

  -- all of them
  record PassedAt (actings others : List (Acting W)) (h : ℕ) (a : Acting W) : Type 0 where
    acting : Acting W
    at : slice_get others h ≡ Some acting
    passed : Passed a acting

  pub same_acting : (a b : Acting W) → Some a ≡ Some b → a ≡ b
  same_acting a b e = cc

  pass_at : (number : ℕ) (actings : List (Acting W)) (st : Store) (h : ℕ) (a : Acting W) → (all_requests number actings st).fault ≡ None
      → slice_get actings h ≡ Some a → NotLocal a.due → PassedAt actings (all_requests number actings st).acting h a
  pass_at number [] st h a e at differs = absurd (cc)
  pass_at number (c ∷ actings) st zero a e at differs = by (request_phase st c c.due) (subst (λ (b : Acting W). PassedIn b (request_phase st b b.due)) (sym same) (passes st a a.due refl differs)) e
    where
      same : c ≡ a
      same = same_acting c a at

      by : (phase : Phase W) → PassedIn c phase → (after_phase number st c actings (all_requests (suc number) actings) phase).fault ≡ None
          → PassedAt (c ∷ actings) (after_phase number st c actings (all_requests (suc number) actings) phase).acting 0 a
      by (Passes st' b) f e' = record { acting = b; at = refl; passed = subst (λ (d : Acting W). Passed d b) same f }
      by (Breaks site) f e' = absurd (cc)
  pass_at number (c ∷ actings) st (suc h) a e at differs = by (λ st' e'. pass_at (suc number) actings st' h a e' at differs) (request_phase st c c.due) e
    where
      by : ((st' : Store) → (all_requests (suc number) actings st').fault ≡ None → PassedAt actings (all_requests (suc number) actings st').acting h a)
          → (phase : Phase W) → (after_phase number st c actings (all_requests (suc number) actings) phase).fault ≡ None
          → PassedAt (c ∷ actings) (after_phase number st c actings (all_requests (suc number) actings) phase).acting (suc h) a
      by others (Passes st' b) e' = let r = others st' e' in record { acting = r.acting; at = r.at; passed = r.passed }
      by others (Breaks site) e' = absurd (cc)

  -- the phase of the tree
  settled_at : (actings : List (Acting W)) (old new : t.Tree) (others : List (Acting W)) (h : ℕ) (b : Acting W)
      → slice_get others h ≡ Some b → slice_get (settled actings old new others) h ≡ Some (settled_by actings old new b.runner b.due)
  settled_at actings old new [] h b at = absurd (cc)
  settled_at actings old new (c ∷ others) zero b at = ap (λ (d : Acting W). Some (settled_by actings old new d.runner d.due)) (same_acting c b at)
  settled_at actings old new (c ∷ others) (suc h) b at = settled_at actings old new others h b at

  settles : (actings : List (Acting W)) (old new : t.Tree) (a b : Acting W) (due : Option (Step W)) → a.due ≡ due → NotLocal due → Passed a b → Becomes a (settled_by actings old new b.runner b.due)
  settles actings old new a b None e differs (Kept is tree) =
      Same e (ap (λ (d : Acting W). settled_by actings old new d.runner d.due) is ∙ ap (settled_by actings old new a.runner) e)
  settles actings old new a b (Some s) e differs (Kept is tree) =
      let whole : settled_by actings old new b.runner b.due ≡ settled_by actings old new a.runner (Some s)
      = ap (λ (d : Acting W). settled_by actings old new d.runner d.due) is ∙ ap (settled_by actings old new a.runner) e in
      Done s e (subst (Does s a.runner.has) (sym whole) (Steps (goes_onward s.operation _ _ a.runner.has) (tree s e) refl (does_number s.operation _ _ a.runner.has)))
  settles actings old new a b due e differs (Serves s v f c is) =
      Done s f (Answered v c (ap (λ (d : Acting W). settled_by actings old new d.runner d.due) is))

  -- whoever is there afterwards has asked
  pass_none : (number : ℕ) (actings : List (Acting W)) (st : Store) (h : ℕ) → (all_requests number actings st).fault ≡ None → slice_get actings h ≡ None
      → slice_get (all_requests number actings st).acting h ≡ None
  pass_none number [] st h e at = refl
  pass_none number (c ∷ actings) st zero e at = cc
  pass_none number (c ∷ actings) st (suc h) e at = by (λ st' e'. pass_none (suc number) actings st' h e' at) (request_phase st c c.due) e
    where
      by : ((st' : Store) → (all_requests (suc number) actings st').fault ≡ None → slice_get (all_requests (suc number) actings st').acting h ≡ None)
          → (phase : Phase W) → (after_phase number st c actings (all_requests (suc number) actings) phase).fault ≡ None
          → slice_get (after_phase number st c actings (all_requests (suc number) actings) phase).acting (suc h) ≡ None
      by others (Passes st' b) e' = others st' e'
      by others (Breaks site) e' = absurd (cc)

  settled_none : (actings : List (Acting W)) (old new : t.Tree) (others : List (Acting W)) (h : ℕ) → slice_get others h ≡ None → slice_get (settled actings old new others) h ≡ None
  settled_none actings old new [] h at = refl
  settled_none actings old new (c ∷ others) zero at = cc
  settled_none actings old new (c ∷ others) (suc h) at = settled_none actings old new others h at

  module _ (next : W → Option (Step W)) (set : Setting) (round : Round) (s : State W) (no_fault : (result next set round s).fault ≡ None) where
    abbrev asks : List (Acting W)
    asks = asking next set round s.runners

    abbrev phases : Phases W
    phases = all_requests 0 asks s.store

    none : phases.fault ≡ None
    none = sym (phase_fault s.tree phases.store phases.acting phases.fault) ∙ no_fault

    pub record BecomesAt (h : ℕ) (a : Acting W) : Type 0 where
      pub runner : Runner W
      pub is_at : slice_get (result next set round s).runners h ≡ Some runner
      pub becomes : Becomes a runner

    pub becomes_at : (h : ℕ) (a : Acting W) → slice_get asks h ≡ Some a → NotLocal a.due → BecomesAt h a
    becomes_at h a at differs =
        let p = pass_at 0 asks s.store h a none at differs in
        let new = all_changes phases.acting s.tree phases.acting s.tree in
        let is : result next set round s ≡ tree_phase s.tree phases.store phases.acting None = ap (tree_phase s.tree phases.store phases.acting) none in
        record {
          runner = settled_by phases.acting s.tree new p.acting.runner p.acting.due;
          is_at = ap (λ (u : State W). slice_get u.runners h) is ∙ settled_at phases.acting s.tree new phases.acting h p.acting p.at;
          becomes = settles phases.acting s.tree new a p.acting a.due refl differs p.passed;
        }

    pub asks_at : (h : ℕ) (r : Runner W) → slice_get (result next set round s).runners h ≡ Some r → (a : Acting W) × (slice_get asks h ≡ Some a)
    asks_at h r at = by (slice_get asks h) refl
      where
        by : (o : Option (Acting W)) → slice_get asks h ≡ o → (a : Acting W) × (slice_get asks h ≡ Some a)
        by (Some a) e = (a, e)
        by None e =
            let new = all_changes phases.acting s.tree phases.acting s.tree in
            let is : result next set round s ≡ tree_phase s.tree phases.store phases.acting None = ap (tree_phase s.tree phases.store phases.acting) none in
            let gone : slice_get (result next set round s).runners h ≡ None
            = ap (λ (u : State W). slice_get u.runners h) is ∙ settled_none phases.acting s.tree new phases.acting h (pass_none 0 asks s.store h none e) in
            absurd (cc)

-- ---- the local operations of a round

module _ {W : Type 0} (next : W → Option (Step W)) (set : Setting) where
  abbrev pub acted : ℕ → Runner W → Acting W
  acted c r = let b = begin next set c r in local_phase next set b b.due

  pub record AskedFrom (rs : List (Runner W)) (h : ℕ) (a : Acting W) : Type 0 where
    pub runner : Runner W
    pub is_at : slice_get rs h ≡ Some runner
    pub count : ℕ
    pub is_acted : a ≡ acted count runner

  pub asked_from : (round : Round) (rs : List (Runner W)) (h : ℕ) (a : Acting W) → slice_get (asking next set round rs) h ≡ Some a → AskedFrom rs h a
  asked_from [] rs h a at = absurd (cc)
  asked_from (c ∷ round) [] h a at = absurd (cc)
  asked_from (c ∷ round) (r ∷ rs) zero a at = record { runner = r; is_at = refl; count = c; is_acted = sym (same_acting (acted c r) a at) }
  asked_from (c ∷ round) (r ∷ rs) (suc h) a at = let f = asked_from round rs h a at in record { runner = f.runner; is_at = f.is_at; count = f.count; is_acted = f.is_acted }

  -- the number of the processor is the same
  class_number : (a : Acting W) (s : Step W) (c : Class) → (do_local next set a c s).runner.has.number ≡ a.runner.has.number
  class_number a s Local = local_number set s.operation a.runner.has
  class_number a s Request = refl
  class_number a s Tree = refl

  phase_number : (a : Acting W) (o : Option (Step W)) → (local_phase next set a o).runner.has.number ≡ a.runner.has.number
  phase_number a None = refl
  phase_number a (Some s) = class_number a s (class_of s.operation)

  locals_number : (c : ℕ) (r : Runner W) → (after_locals next set c r).has.number ≡ r.has.number
  locals_number zero r = refl
  locals_number (suc c) r = locals_number c (after_one next set r) ∙ phase_number (taking r (next r.left)) (next r.left)

  pub acted_number : (c : ℕ) (r : Runner W) → (acted c r).runner.has.number ≡ r.has.number
  acted_number zero r = refl
  acted_number (suc c) r = let q = after_locals next set c r in phase_number (taking q (next q.left)) (next q.left) ∙ locals_number c r
