-- Blocks that run straight do their operation.
use Rattle.std.proofs.Common.{◌≡◌, ℕ, suc, ◌+◌, ◌*◌, ◌≤◌, List, ◌∷◌, length, map, false, Some, ap, subst, sym, ◌∙◌, arith, refl, ◌⊎◌, inl, inr, length-append}
use Rattle.std.proofs.lemmas.List.{length-map}
use Rattle.fk_num.specs.Word.{word_sum}
use Rattle.fk_meaning_operation.specs.declared.operation.Operation.{Operation}
use Rattle.fk_meaning.specs.Processor.{Setting}
use Rattle.fk_meaning.specs.Round.{taking}
use Rattle.fk_core.specs.declared.op.CoreOp.{CoreOp}
use Rattle.fk_image.specs.declared.Image.{Image}
use Rattle.fk_machine.specs.declared.stand.Stand.TheVariants.{Faulted}
use Rattle.fk_machine.specs.Hart.{Hart, Shared, Goes, Stops, Setting as MachineSetting}
use Rattle.fk_machine.specs.Step.{perform}
use Rattle.fk_machine.specs.Run.{count_in}
use Rattle.fk_sim_nodes.specs.Alone.{RunsPrivately, in_cycles, later}
use Rattle.fk_sim_nodes.specs.Source.{Part, Passes, Breaks, Shows}
use Rattle.fk_sim_nodes.proofs.InPlace.{step_at}
use Rattle.fk_sim_block.specs.Owner.{Commons, Owner, Doing, number_of, idle, phases, core_source}
use Rattle.fk_sim_block.specs.Stands.{Places, StandsFor}
use Rattle.fk_sim_block.specs.Next.{OpAt, step_at as step_of}
use Rattle.fk_sim_block.specs.Suits.{nothing}
use Rattle.fk_sim_block.specs.Block.{Enters, most_before, most_behind}
use Rattle.fk_sim_block.proofs.Standing.{operations_are_next}
use Rattle.fk_gen.specs.Lines.{quiet, commits}
use Rattle.fk_gen.specs.InPlace.{LinesAt, HasBlock}
use Rattle.fk_gen.specs.Keeps.{Keeps, DoesAnd}
use Rattle.fk_gen.proofs.Walk.{Told, told_of, walked, lines_split}
use Rattle.fk_gen.proofs.Does.{holds_in_cycles}
use Rattle.fk_gen_access.specs.Blocks.{Straight, lines}
use Rattle.fk_gen_access.proofs.Walk.{quiets, quiets_lines, quiets_length, walk_straight, CanWalkStraight}

length_of : (b : Straight) → length (lines b) ≡ length (map quiet b.before) + suc (length b.behind)
length_of b =
    length-append (map quiet b.before) (commits 1 b.commit ∷ map quiet b.behind)
    ∙ ap (λ n. length (map quiet b.before) + suc n) (length-map b.behind quiet)

module _ (core : List CoreOp) (image : Image) (places : Places) (i : ℕ) (op : CoreOp) (operation : Operation) (setting : Setting) (p : Owner) where
  -- the part of a processor that is about to do the operation
  abbrev pub part_of : Commons → Part Commons Doing
  part_of s = phases core setting s p (taking p.runner (Some (step_of core i op operation p.runner.left.callers)))

  -- what its block keeps
  abbrev pub KeepsMost : Hart → Hart → Type 0
  KeepsMost h h' = Keeps places (length p.runner.has.callers) op.depth nothing h h'

  -- on a store that is shown the instruction that commits does the operation, and what follows leads to the next block
  pub record Commits (b : Straight) (h committing : Hart) (s : Commons) : Type 0 where
    pub hart : Hart
    pub store : Commons
    pub owner : Owner
    pub part : part_of s ≡ Passes store (idle owner)
    pub goes : (t : MachineSetting) (earlier : List ℕ) (sh : Shared) → Shows (core_source core setting) earlier sh s
        → (sh' : Shared) × (perform t (number_of p) b.commit committing sh ≡ Goes hart sh') × Shows (core_source core setting) earlier sh' store
        × (sh'.control ≡ sh.control)
    pub pc : hart.pc ≡ word_sum committing.pc 4
    pub live : hart.ended ≡ false
    pub can : (told : Told) → CanWalkStraight told b.behind hart
    pub at : owner.runner.left.at ≡ suc i
    pub stands : (told : Told) → StandsFor places owner (walk_straight told b.behind hart) × KeepsMost h (walk_straight told b.behind hart)

  -- or it is refused
  pub record Refuses (b : Straight) (committing : Hart) (s : Commons) : Type 0 where
    pub site : ℕ
    pub part : part_of s ≡ Breaks site
    pub stops : (t : MachineSetting) (earlier : List ℕ) (sh : Shared) → Shows (core_source core setting) earlier sh s
        → perform t (number_of p) b.commit committing sh ≡ Stops (Faulted site (number_of p))

  -- the hart that comes to the commit
  abbrev pub committing_of : Straight → MachineSetting → Hart → Hart
  committing_of b t h = walk_straight (told_of t (number_of p)) b.before h

  pub does : (b : Straight) (bound : ℕ → ℕ) (t : MachineSetting) (h : Hart) → OpAt core i op operation → Enters core image places setting t i op operation p h
      → HasBlock image bound places i (lines b) → length b.before ≤ most_before → length b.behind ≤ most_behind
      → CanWalkStraight (told_of t (number_of p)) b.before h
      → ((s : Commons) → Commits b h (committing_of b t h) s ⊎ Refuses b (committing_of b t h) s)
      → DoesAnd core image places setting t 1 p h (length b.before) (length b.behind) (KeepsMost h)
  does b bound t h op_at en has few_before few_behind can each =
      let number = number_of p in
      let told = told_of t number in
      let before = quiets told b.before h in
      let committing = committing_of b t h in
      let parts = lines_split image bound (places.block i) (map quiet b.before) (commits 1 b.commit ∷ map quiet b.behind) has.lines in
      let k = places.block i + length (map quiet b.before) in
      let entry : h.pc ≡ 4 * places.block i = en.at.at ∙ ap (λ j. 4 * places.block j) en.index in
      let first = walked image bound t number en.running.code before (places.block i) h
      (subst (LinesAt image bound (places.block i)) (sym (quiets_lines told b.before h)) parts.0) entry en.at.live can in
      let t1 = in_cycles (length before) t in
      let told1 = told_of (later t1) number in
      let holds = holds_in_cycles image (length before) t en.running.code in
      let at = parts.1.0 in
      let count = quiets_length told b.before h in
      let same = length-map b.before quiet in
      let first-pc = first.pc in
      let within = at.within in
      let pc : committing.pc ≡ 4 * k = omega arith in
      let whole = length_of b in
      let next = has.next in
      subst (λ n. DoesAnd core image places setting t 1 p h n (length b.behind) (KeepsMost h)) count
      (record {
        few_before = omega (arith, few_before, count);
        few_behind = few_behind;
        does = record {
          committing = committing;
          runs = first.runs;
          commits = record {
            live = first.live;
            counted = ap (count_in image.commits.items) pc ∙ at.counted;
            does = λ s. elim (each s) [
              | inl c ↦ inl (
                  let behind = quiets told1 b.behind c.hart in
                  let c-pc = c.pc in
                  let pc' : c.hart.pc ≡ 4 * suc k = omega arith in
                  let rest = walked image bound (later t1) number holds behind (suc k) c.hart
                  (subst (LinesAt image bound (suc k)) (sym (quiets_lines told1 b.behind c.hart)) parts.1.1) pc' c.live (c.can told1) in
                  let count' = quiets_length told1 b.behind c.hart in
                  let rest-pc = rest.pc in
                  let end : (walk_straight told1 b.behind c.hart).pc ≡ 4 * places.block c.owner.runner.left.at
                  = omega (arith, rest-pc, next, whole, count', ap places.block c.at) in
                  record {
                    hart = c.hart;
                    store = c.store;
                    done = idle c.owner;
                    part = operations_are_next core i op operation setting 0 s p op_at en.index ∙ c.part;
                    goes = λ earlier sh shows.
                        let g = c.goes t1 earlier sh shows in
                        (g.0, step_at image k 1 b.commit at t1 holds number committing sh pc ∙ g.1, g.2, λ j e. ap (λ m. m j) g.3);
                    follows = (
                      walk_straight told1 b.behind c.hart,
                      subst (λ n. RunsPrivately image (later t1) number n c.hart (walk_straight told1 b.behind c.hart)) count' rest.runs,
                      (record { done = refl; at = record { live = rest.live; at = end; stands = (c.stands told1).0 } }, (c.stands told1).1),
                    );
                  })
              | inr r ↦ inr (record {
                site = r.site;
                part = operations_are_next core i op operation setting 0 s p op_at en.index ∙ r.part;
                stops = λ earlier sh shows. step_at image k 1 b.commit at t1 holds number committing sh pc ∙ r.stops t1 earlier sh shows;
              })
            ];
          };
        };
      })
