-- What the code finds of one token is what the rules say.
use Rattle.std.proofs.Common.{◌≡◌, ◌≢◌, ◌⊎◌, inl, inr, Bool, true, false, ◌&&◌, List, Option, Some, None, refl, sym, ap, subst, ◌∙◌}
use Rattle.fk_syntax.specs.declared.program.Mode.{Mode}
use Rattle.fk_syntax.specs.declared.program.Mode.TheVariants.{Sync, Async, Straight}
use Rattle.fk_check_rules.specs.declared.rule.Rule.{Rule}
use Rattle.fk_check_rules.specs.declared.rule.Rule.TheVariants as r
use Rattle.fk_regions.specs.declared.around.Holder.{Holder}
use Rattle.fk_regions.specs.declared.around.Region.{Region}
use Rattle.fk_regions.specs.declared.around.Region.TheVariants.{Synchronous, Asynchronous, Neither}
use Rattle.fk_regions.specs.declared.around.Loops.{Loops}
use Rattle.fk_regions.specs.declared.around.Loops.TheVariants.{Outside, Inside, Beyond}
use Rattle.fk_regions.specs.declared.token.Word.{Word}
use Rattle.fk_regions.specs.declared.token.Word.TheVariants as w
use Rattle.fk_regions.specs.declared.token.Spelling.{Spelling}
use Rattle.fk_regions.specs.declared.token.Spelling.TheVariants as s
use Rattle.fk_regions.specs.declared.callee.Callee.{Callee}
use Rattle.fk_regions.specs.declared.callee.Callee.TheVariants as c
use Rattle.fk_regions.specs.Around.{region, loops, is_straight, is_in_main, is_in_body}
use Rattle.fk_regions.specs.Misplaced.{Misplaced, Decides, start_elsewhere, farm_outside, seq_outside, fork_outside, barrier_inside, sync_called_outside, async_called_inside, shalloc_outside, break_outside, continue_outside, return_inside, break_leaves, continue_leaves, if_decides, loop_decides, sign_decides, barrier_waits, call_decides}
use Rattle.fk_regions.specs.Judged.{unless_synchronous, where_synchronous, unless, where_true, called_rule, leaving_rule, misplaced_rule, is_not_straight, is_deciding, straight_rule}
use Rattle.fk_regions.specs.Retold.{around_of}

-- ---- one rule by its condition

unless-finds : (a : Region) (rule : Rule) → a ≢ Synchronous → unless_synchronous a rule ≡ Some rule
unless-finds Synchronous rule h = absurd (h refl)
unless-finds Asynchronous rule h = refl
unless-finds Neither rule h = refl

unless-tells : (a : Region) (rule found : Rule) → unless_synchronous a rule ≡ Some found → (a ≢ Synchronous) × (rule ≡ found)
unless-tells Synchronous rule found e = absurd (cc)
unless-tells Asynchronous rule found e = (λ same. cc, cc)
unless-tells Neither rule found e = (λ same. cc, cc)

where-finds : (a : Region) (rule : Rule) → a ≡ Synchronous → where_synchronous a rule ≡ Some rule
where-finds a rule h = rw h refl

where-tells : (a : Region) (rule found : Rule) → where_synchronous a rule ≡ Some found → (a ≡ Synchronous) × (rule ≡ found)
where-tells Synchronous rule found e = (refl, cc)
where-tells Asynchronous rule found e = absurd (cc)
where-tells Neither rule found e = absurd (cc)

test-tells : (b : Bool) (rule found : Rule) → where_true b rule ≡ Some found → (b ≡ true) × (rule ≡ found)
test-tells true rule found e = (refl, cc)
test-tells false rule found e = absurd (cc)

test-fails : (b : Bool) (rule found : Rule) → unless b rule ≡ Some found → (b ≡ false) × (rule ≡ found)
test-fails true rule found e = absurd (cc)
test-fails false rule found e = (refl, cc)

leaving-tells : (a : Loops) (found : Rule) → leaving_rule a ≡ Some found → ((a ≡ Outside) × (r.NoLoop ≡ found)) ⊎ ((a ≡ Beyond) × (r.LoopLeavesBody ≡ found))
leaving-tells Outside found e = inl (refl, cc)
leaving-tells Inside found e = absurd (cc)
leaving-tells Beyond found e = inr (refl, cc)

-- ---- all rules on what holds a token

module _ (holders : List Holder) (calls : Callee → Type 0) (callee : Option Callee)
    (to : (c : Callee) → calls c → callee ≡ Some c) (from : (c : Callee) → callee ≡ Some c → calls c) where
  called-finds : (a : Region) (spelling : Spelling) (mode : Mode) (rule : Rule) → calls (c.Function mode) → called_rule a spelling (Some (c.Function mode)) ≡ Some rule → called_rule a spelling callee ≡ Some rule
  called-finds a spelling mode rule h e = ap (called_rule a spelling) (to (c.Function mode) h) ∙ e

  pub misplaced-finds : (word : Word) (rule : Rule) → Misplaced holders calls word rule → misplaced_rule (around_of holders) word callee ≡ Some rule
  misplaced-finds word rule (start_elsewhere h) = ap (λ b. unless b r.StartNotInMain) h
  misplaced-finds word rule (farm_outside h) = unless-finds (region holders) r.FarmOutside h
  misplaced-finds word rule (seq_outside h) = unless-finds (region holders) r.SeqOutside h
  misplaced-finds word rule (fork_outside h) = unless-finds (region holders) r.ForkOutside h
  misplaced-finds word rule (barrier_inside h) = where-finds (region holders) r.BarrierInside h
  misplaced-finds word rule (sync_called_outside spelling k h) = called-finds (region holders) spelling Sync r.SyncCalledOutside k (unless-finds (region holders) r.SyncCalledOutside h)
  misplaced-finds word rule (async_called_inside spelling k h) = called-finds (region holders) spelling Async r.AsyncCalledInside k (where-finds (region holders) r.AsyncCalledInside h)
  misplaced-finds word rule (shalloc_outside k h) = ap (called_rule (region holders) s.Shalloc) (to c.Predeclared k) ∙ unless-finds (region holders) r.ShallocOutside h
  misplaced-finds word rule (break_outside h) = ap leaving_rule h
  misplaced-finds word rule (continue_outside h) = ap leaving_rule h
  misplaced-finds word rule (return_inside h) = ap (λ b. where_true b r.ReturnFromBody) h
  misplaced-finds word rule (break_leaves h) = ap leaving_rule h
  misplaced-finds word rule (continue_leaves h) = ap leaving_rule h

  -- where the rule that the code names is broken, the one that it finds is
  told : (word : Word) (rule found : Rule) → Misplaced holders calls word rule → rule ≡ found → Misplaced holders calls word found
  told word rule found h e = subst (Misplaced holders calls word) e h

  called-tells : (spelling : Spelling) (other : Option Callee) → callee ≡ other → (found : Rule) → called_rule (region holders) spelling other ≡ Some found → Misplaced holders calls (w.Name spelling) found
  called-tells spelling None e found h = absurd (cc)
  called-tells spelling (Some (c.Function Sync)) e found h =
      let t = unless-tells (region holders) r.SyncCalledOutside found h in
      told (w.Name spelling) r.SyncCalledOutside found (sync_called_outside spelling (from (c.Function Sync) e) t.0) t.1
  called-tells spelling (Some (c.Function Async)) e found h =
      let t = where-tells (region holders) r.AsyncCalledInside found h in
      told (w.Name spelling) r.AsyncCalledInside found (async_called_inside spelling (from (c.Function Async) e) t.0) t.1
  called-tells spelling (Some (c.Function Straight)) e found h = absurd (cc)
  called-tells s.Shalloc (Some c.Predeclared) e found h =
      let t = unless-tells (region holders) r.ShallocOutside found h in
      told (w.Name s.Shalloc) r.ShallocOutside found (shalloc_outside (from c.Predeclared e) t.0) t.1
  called-tells s.Other (Some c.Predeclared) e found h = absurd (cc)

  leaves-break : (found : Rule) → ((loops holders ≡ Outside) × (r.NoLoop ≡ found)) ⊎ ((loops holders ≡ Beyond) × (r.LoopLeavesBody ≡ found)) → Misplaced holders calls w.Break found
  leaves-break found (inl t) = told w.Break r.NoLoop found (break_outside t.0) t.1
  leaves-break found (inr t) = told w.Break r.LoopLeavesBody found (break_leaves t.0) t.1

  leaves-continue : (found : Rule) → ((loops holders ≡ Outside) × (r.NoLoop ≡ found)) ⊎ ((loops holders ≡ Beyond) × (r.LoopLeavesBody ≡ found)) → Misplaced holders calls w.Continue found
  leaves-continue found (inl t) = told w.Continue r.NoLoop found (continue_outside t.0) t.1
  leaves-continue found (inr t) = told w.Continue r.LoopLeavesBody found (continue_leaves t.0) t.1

  pub misplaced-tells : (word : Word) (found : Rule) → misplaced_rule (around_of holders) word callee ≡ Some found → Misplaced holders calls word found
  misplaced-tells w.Start found h = let t = test-fails (is_in_main holders) r.StartNotInMain found h in told w.Start r.StartNotInMain found (start_elsewhere t.0) t.1
  misplaced-tells w.Farm found h = let t = unless-tells (region holders) r.FarmOutside found h in told w.Farm r.FarmOutside found (farm_outside t.0) t.1
  misplaced-tells w.Seq found h = let t = unless-tells (region holders) r.SeqOutside found h in told w.Seq r.SeqOutside found (seq_outside t.0) t.1
  misplaced-tells w.Fork found h = let t = unless-tells (region holders) r.ForkOutside found h in told w.Fork r.ForkOutside found (fork_outside t.0) t.1
  misplaced-tells w.Barrier found h = let t = where-tells (region holders) r.BarrierInside found h in told w.Barrier r.BarrierInside found (barrier_inside t.0) t.1
  misplaced-tells (w.Name spelling) found h = called-tells spelling callee refl found h
  misplaced-tells w.Break found h = leaves-break found (leaving-tells (loops holders) found h)
  misplaced-tells w.Continue found h = leaves-continue found (leaving-tells (loops holders) found h)
  misplaced-tells w.Return found h = let t = test-tells (is_in_body holders) r.ReturnFromBody found h in told w.Return r.ReturnFromBody found (return_inside t.0) t.1
  misplaced-tells w.If found h = absurd (cc)
  misplaced-tells w.Loop found h = absurd (cc)
  misplaced-tells w.Branching found h = absurd (cc)
  misplaced-tells w.Other found h = absurd (cc)

  -- ---- the rule on straight functions

  not_straight-finds : (mode : Mode) → mode ≢ Straight → is_not_straight (Some (c.Function mode)) ≡ true
  not_straight-finds Sync h = refl
  not_straight-finds Async h = refl
  not_straight-finds Straight h = absurd (h refl)

  pub deciding-finds : (word : Word) → Decides calls word → is_deciding word callee ≡ true
  deciding-finds word if_decides = refl
  deciding-finds word loop_decides = refl
  deciding-finds word sign_decides = refl
  deciding-finds word barrier_waits = refl
  deciding-finds word (call_decides spelling mode k h) = ap is_not_straight (to (c.Function mode) k) ∙ not_straight-finds mode h

  not_straight-tells : (spelling : Spelling) (other : Option Callee) → callee ≡ other → is_not_straight other ≡ true → Decides calls (w.Name spelling)
  not_straight-tells spelling None e h = absurd (cc)
  not_straight-tells spelling (Some (c.Function Sync)) e h = call_decides spelling Sync (from (c.Function Sync) e) (λ same. cc)
  not_straight-tells spelling (Some (c.Function Async)) e h = call_decides spelling Async (from (c.Function Async) e) (λ same. cc)
  not_straight-tells spelling (Some (c.Function Straight)) e h = absurd (cc)
  not_straight-tells spelling (Some c.Predeclared) e h = absurd (cc)

  pub deciding-tells : (word : Word) → is_deciding word callee ≡ true → Decides calls word
  deciding-tells w.If h = if_decides
  deciding-tells w.Loop h = loop_decides
  deciding-tells w.Branching h = sign_decides
  deciding-tells w.Barrier h = barrier_waits
  deciding-tells (w.Name spelling) h = not_straight-tells spelling callee refl h
  deciding-tells w.Start h = absurd (cc)
  deciding-tells w.Fork h = absurd (cc)
  deciding-tells w.Farm h = absurd (cc)
  deciding-tells w.Seq h = absurd (cc)
  deciding-tells w.Break h = absurd (cc)
  deciding-tells w.Continue h = absurd (cc)
  deciding-tells w.Return h = absurd (cc)
  deciding-tells w.Other h = absurd (cc)

  and-tells : (a b : Bool) → (a && b) ≡ true → (a ≡ true) × (b ≡ true)
  and-tells true true h = (refl, refl)
  and-tells true false h = absurd (cc)
  and-tells false b h = absurd (cc)

  pub straight-finds : (word : Word) → is_straight holders ≡ true → Decides calls word → straight_rule (around_of holders) word callee ≡ Some r.NotStraight
  straight-finds word a d = ap (λ b. where_true (b && is_deciding word callee) r.NotStraight) a ∙ ap (λ b. where_true b r.NotStraight) (deciding-finds word d)

  pub straight-tells : (word : Word) (found : Rule) → straight_rule (around_of holders) word callee ≡ Some found → (found ≡ r.NotStraight) × (is_straight holders ≡ true) × Decides calls word
  straight-tells word found h =
      let t = test-tells (is_straight holders && is_deciding word callee) r.NotStraight found h in
      let u = and-tells (is_straight holders) (is_deciding word callee) t.0 in
      (sym t.1, u.0, deciding-tells word u.1)
