-- Cycles and runs of a node alone.
use Rattle.std.proofs.Common.{◌≡◌, ℕ, zero, suc, ◌+◌, List, [], ◌∷◌, true, sym, ap, subst, ◌∙◌, arith, refl}
use Rattle.fk_num.specs.Word.{Memory}
use Rattle.fk_image.specs.declared.Image.{Image}
use Rattle.fk_machine.specs.Hart.{Hart, Setting}
use Rattle.fk_sim_nodes.specs.Node.{Member, Words}
use Rattle.fk_sim_nodes.specs.Alone.{later, in_cycles, IsPrivateIn, Stays, NodeCycle, NodeRun, AllRunPrivately, with_harts, PrivateRunsAreNodeRuns, NodeRunsJoin}

module _ (image : Image) (mine : Words) where
  -- what follows from what holds after a cycle holds after it
  pub cycle_map : (t : Setting) (c : ℕ) (ms : List Member) (own : Memory) (Then Then' : List Member → Memory → Type 0)
      → ((ms' : List Member) (own' : Memory) → Then ms' own' → Then' ms' own') → NodeCycle image mine t c ms own Then → NodeCycle image mine t c ms own Then'
  cycle_map t c [] own Then Then' f x = f [] own x
  cycle_map t c (m ∷ ms) own Then Then' f x = (
    x.0,
    x.1,
    x.2,
    cycle_map t c ms x.1 (λ ms' own'. Then (record m { hart = x.0 } ∷ ms') own') (λ ms' own'. Then' (record m { hart = x.0 } ∷ ms') own')
        (λ ms' own' y. f (record m { hart = x.0 } ∷ ms') own' y) x.3,
  )

  pub run_map : (t : Setting) (d : ℕ) (ms : List Member) (own : Memory) (Then Then' : List Member → Memory → Type 0)
      → ((ms' : List Member) (own' : Memory) → Then ms' own' → Then' ms' own') → NodeRun image mine t d ms own Then → NodeRun image mine t d ms own Then'
  run_map t zero ms own Then Then' f x = f ms own x
  run_map t (suc d) ms own Then Then' f x =
      cycle_map t 0 ms own (λ ms' own'. NodeRun image mine (later t) d ms' own' Then) (λ ms' own'. NodeRun image mine (later t) d ms' own' Then')
      (λ ms' own' y. run_map (later t) d ms' own' Then Then' f y) x

  pub run_join : (t : Setting) (d e : ℕ) (ms : List Member) (own : Memory) (Then : List Member → Memory → Type 0)
      → NodeRun image mine t d ms own (λ ms' own'. NodeRun image mine (in_cycles d t) e ms' own' Then) → NodeRun image mine t (d + e) ms own Then
  run_join t zero e ms own Then x =
      let same : e ≡ 0 + e = omega arith in
      subst (λ k. NodeRun image mine t k ms own Then) same x
  run_join t (suc d) e ms own Then x =
      let same : suc (d + e) ≡ suc d + e = omega arith in
      subst (λ k. NodeRun image mine t k ms own Then) same
      (cycle_map t 0 ms own (λ ms' own'. NodeRun image mine (later t) d ms' own' (λ ms2 own2. NodeRun image mine (in_cycles d (later t)) e ms2 own2 Then))
      (λ ms' own'. NodeRun image mine (later t) (d + e) ms' own' Then)
      (λ ms' own' y. run_join (later t) d e ms' own' Then y) x)

  -- a private instruction leaves the node's words
  pub private_stays : (t : Setting) (m : Member) (own : Memory) (h' : Hart) → IsPrivateIn image t m.number m.hart h' → Stays image mine t 0 m own h' own
  private_stays t m own h' p = record {
    live = p.live;
    counted = p.counted;
    goes = λ sh has.
        let alone = p.goes sh in
        record { control = sh.control; reserved = alone.0; goes = alone.1; has = has; keeps = λ i others. refl };
  }

  first_cycle : (t : Setting) (d : ℕ) (ms : List Member) (hs' : List Hart) (own : Memory) (Then : List Member → Memory → Type 0)
      → AllRunPrivately image t (suc d) ms hs'
      → ((ms1 : List Member) → AllRunPrivately image (later t) d ms1 hs' → with_harts ms1 hs' ≡ with_harts ms hs' → Then ms1 own)
      → NodeCycle image mine t 0 ms own Then
  first_cycle t d [] [] own Then all then = then [] tt refl
  first_cycle t d (m ∷ ms) (h' ∷ hs') own Then all then =
      let one = all.0 in (
        one.0,
        own,
        private_stays t m own one.0 one.1,
        first_cycle t d ms hs' own (λ ms' own'. Then (record m { hart = one.0 } ∷ ms') own') all.1
            (λ ms1 rest same. then (record m { hart = one.0 } ∷ ms1) (one.2, rest) (ap (λ l. record m { hart = h' } ∷ l) same)),
      )
  first_cycle t d ms hs' own Then all then = absurd (assumption all)

all_there : (image : Image) (t : Setting) (ms : List Member) (hs' : List Hart) → AllRunPrivately image t 0 ms hs' → ms ≡ with_harts ms hs'
all_there image t [] [] all = refl
all_there image t (m ∷ ms) (h' ∷ hs') all =
    ap (λ h. let m' : Member = record { number = m.number; hart = h } in m' ∷ ms) all.0
    ∙ ap (λ l. record m { hart = h' } ∷ l) (all_there image t ms hs' all.1)
all_there image t ms hs' all = absurd (assumption all)

-- members at different places that have the same number of private steps to go
pub private_run : (image : Image) (mine : Words) (t : Setting) (d : ℕ) (ms : List Member) (hs' : List Hart) (own : Memory) (Then : List Member → Memory → Type 0)
    → AllRunPrivately image t d ms hs' → Then (with_harts ms hs') own → NodeRun image mine t d ms own Then
private_run image mine t zero ms hs' own Then all then = subst (λ l. Then l own) (sym (all_there image t ms hs' all)) then
private_run image mine t (suc d) ms hs' own Then all then =
    first_cycle image mine t d ms hs' own (λ ms' own'. NodeRun image mine (later t) d ms' own' Then) all
    (λ ms1 rest same. private_run image mine (later t) d ms1 hs' own Then rest (subst (λ l. Then l own) (sym same) then))

pub private_runs_are_node_runs : PrivateRunsAreNodeRuns
private_runs_are_node_runs image mine t d ms hs' own all =
    private_run image mine t d ms hs' own (λ ms' own'. (ms' ≡ with_harts ms hs') × (own' ≡ own)) all (refl, refl)

pub node_runs_join : NodeRunsJoin
node_runs_join image mine t d e ms own test x = run_join image mine t d e ms own (λ ms'' own''. test ms'' own'' ≡ true) x
