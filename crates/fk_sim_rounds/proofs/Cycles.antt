-- Cycles one after another.
use Rattle.std.proofs.Common.{◌≡◌, ℕ, zero, suc, ◌+◌, sym, ap, subst, ◌∙◌, arith}
use Rattle.fk_meaning.specs.Processor.{Setting}
use Rattle.fk_image.specs.declared.Image.{Image}
use Rattle.fk_machine.specs.Hart.{Hart, Setting as MachineSetting}
use Rattle.fk_sim_nodes.specs.Alone.{later, in_cycles, RunsPrivately}
use Rattle.fk_sim_block.specs.Block.{IsRunning}

pub finished_in : (n : ℕ) (t : MachineSetting) → (in_cycles n t).finished ≡ t.finished + n
finished_in zero t = omega arith
finished_in (suc n) t = finished_in n (later t) ∙ omega arith

pub in_cycles_join : (m n : ℕ) (t : MachineSetting) → in_cycles (m + n) t ≡ in_cycles n (in_cycles m t)
in_cycles_join zero n t = let e : 0 + n ≡ n = omega arith in ap (λ k. in_cycles k t) e
in_cycles_join (suc m) n t = let e : suc m + n ≡ suc (m + n) = omega arith in ap (λ k. in_cycles k t) e ∙ in_cycles_join m n (later t)

-- private runs
pub runs_join : (image : Image) (number m n : ℕ) (t : MachineSetting) (h h1 h2 : Hart) → RunsPrivately image t number m h h1
    → RunsPrivately image (in_cycles m t) number n h1 h2 → RunsPrivately image t number (m + n) h h2
runs_join image number zero n t h h1 h2 a b =
    let e : n ≡ 0 + n = omega arith in
    subst (λ k. RunsPrivately image t number k h h2) e (subst (λ g. RunsPrivately image t number n g h2) (sym a) b)
runs_join image number (suc m) n t h h1 h2 a b =
    let e : suc (m + n) ≡ suc m + n = omega arith in
    subst (λ k. RunsPrivately image t number k h h2) e (a.0, a.1, runs_join image number m n (later t) a.0 h1 h2 a.2 b)

-- the machine goes on
pub runs_later : (image : Image) (set : Setting) (n : ℕ) (t : MachineSetting) → IsRunning image set t → IsRunning image set (in_cycles n t)
runs_later image set zero t r = r
runs_later image set (suc n) t r =
    runs_later image set n (later t) (record { code = r.code; processors = r.processors; inputs = r.inputs; globals = r.globals; few = r.few; few_inputs = r.few_inputs })
