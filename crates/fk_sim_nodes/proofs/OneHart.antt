-- What is so of one hart is so of a group.
use Rattle.std.proofs.Common.{◌≡◌, ℕ, ◌+◌, List, [], ◌∷◌, true, sym, ap, subst, ◌∙◌, arith, refl, ◌⊎◌, inl, inr}
use Rattle.fk_num.specs.Word.{Memory}
use Rattle.fk_image.specs.declared.Image.{Image}
use Rattle.fk_machine.specs.Hart.{Hart, Shared, Setting}
use Rattle.fk_machine.specs.Cycle.{before, after_effect, turn}
use Rattle.fk_machine.specs.Run.{count_of}
use Rattle.fk_sim_nodes.specs.Node.{Member, Words, Has, AreApart}
use Rattle.fk_sim_nodes.specs.Source.{Source, Shows}
use Rattle.fk_sim_nodes.specs.Chain.{Passing, Faulting, Chain}
use Rattle.fk_sim_nodes.specs.Alone.{later, in_cycles, RunsPrivately, NodeRun, AllRunPrivately, with_harts}
use Rattle.fk_sim_nodes.specs.Together.{AllCount, Commits, Together}
use Rattle.fk_sim_nodes.specs.OneHart.{Serves, Faults, OneCommits, EachDoes, AllReach, MembersDoAsEach}
use Rattle.fk_sim_nodes.proofs.Runs.{private_run}
use Rattle.fk_sim_nodes.proofs.Members.{runs_at, run_leads}

module _ {S P D : Type 0} (source : Source S P D) (image : Image) (mine : Words) where
  -- ---- each at its commit

  pub one_passes : (t : Setting) (c : ℕ) (m : Member) (p : P) (own : Memory) (earlier : List ℕ) (sh : Shared) (s : S) (One : Hart → D → Type 0) (Then : Hart → D → Memory → Type 0)
      → AreApart mine source.common → Shows source earlier sh s → Has mine sh.control own → (one : OneCommits source image t c m p One)
      → ((h : Hart) (d : D) → One h d → Then h d own) → (Serves source image t c m p s One ⊎ Faults source image t c m p s)
      → Passing source image mine t m p earlier sh s Then ⊎ Faulting source image mine t m p sh s
  one_passes t c m p own earlier sh s One Then apart shows has one f (inl v) =
      let did = v.goes earlier sh shows in
      let at = runs_at m.hart one.live in
      inl (record {
        hart = v.hart;
        shared = did.0;
        own = own;
        store = v.store;
        done = v.done;
        part = ap (λ r. source.part (count_of image r) s p) at ∙ ap (λ n. source.part n s p) one.counted ∙ v.part;
        turned = λ hs others.
            ap (λ e. turn e t m.number m.hart hs others sh) one.live
            ∙ ap (after_effect m.hart hs others sh) did.1
            ∙ ap (λ r. before v.hart r (others did.0)) (sym at);
        shows = did.2;
        has = λ i o. did.3 i (apart i o) ∙ has i o;
        keeps = λ i others common. did.3 i common;
        follows = f v.hart v.done v.follows;
      })
  one_passes t c m p own earlier sh s One Then apart shows has one f (inr v) =
      let at = runs_at m.hart one.live in
      inr (record {
        site = v.site;
        live = one.live;
        part = ap (λ r. source.part (count_of image r) s p) at ∙ ap (λ n. source.part n s p) one.counted ∙ v.part;
        turned = λ hs others.
            ap (λ e. turn e t m.number m.hart hs others sh) one.live
            ∙ ap (after_effect m.hart hs others sh) (v.stops earlier sh shows);
      })

  abbrev EachCommits : Setting → ℕ → (ℕ → P → Hart → D → Type 0) → List Member → List P → Type 0
  EachCommits t c Goal [] [] = Unit {0}
  EachCommits t c Goal (m ∷ ms) (p ∷ ps) = OneCommits source image t c m p (Goal m.number p) × EachCommits t c Goal ms ps
  EachCommits t c Goal ms ps = ⊥

  all_counted : (t : Setting) (c : ℕ) (Goal : ℕ → P → Hart → D → Type 0) (ms : List Member) (ps : List P) → EachCommits t c Goal ms ps → AllCount image c ms
  all_counted t c Goal [] [] all = tt
  all_counted t c Goal (m ∷ ms) (p ∷ ps) all =
      (ap (count_of image) (runs_at m.hart all.0.live) ∙ all.0.counted, all_counted t c Goal ms ps all.1)
  all_counted t c Goal ms ps all = absurd (assumption all)

  each_chain : (t : Setting) (c : ℕ) (Goal : ℕ → P → Hart → D → Type 0) (ms : List Member) (ps : List P) (own : Memory) (Then : List Member → List D → Memory → Type 0)
      → AreApart mine source.common → EachCommits t c Goal ms ps → ((ms' : List Member) (ds : List D) → AllReach Goal ps ms' ds → Then ms' ds own)
      → Chain source image mine t ms ps own Then
  each_chain t c Goal [] [] own Then apart all f = f [] [] tt
  each_chain t c Goal (m ∷ ms) (p ∷ ps) own Then apart all f =
      λ earlier sh s shows has.
      one_passes t c m p own earlier sh s (Goal m.number p)
      (λ h d own'. Chain source image mine t ms ps own' (λ ms' ds. Then (record m { hart = h } ∷ ms') (d ∷ ds)))
      apart shows has all.0
      (λ h d x. each_chain t c Goal ms ps own (λ ms' ds. Then (record m { hart = h } ∷ ms') (d ∷ ds)) apart all.1
      (λ ms' ds rest. f (record m { hart = h } ∷ ms') (d ∷ ds) (x, rest)))
      (all.0.does s)
  each_chain t c Goal ms ps own Then apart all f = absurd (assumption all)

  -- ---- before it, and after it

  committings : (t : Setting) (c a b : ℕ) (Goal : ℕ → P → Hart → D → Type 0) (ms : List Member) (ps : List P) → EachDoes source image t c a b Goal ms ps → List Hart
  committings t c a b Goal [] [] all = []
  committings t c a b Goal (m ∷ ms) (p ∷ ps) all = all.0.committing ∷ committings t c a b Goal ms ps all.1
  committings t c a b Goal ms ps all = absurd (assumption all)

  each_private : (t : Setting) (c a b : ℕ) (Goal : ℕ → P → Hart → D → Type 0) (ms : List Member) (ps : List P) (all : EachDoes source image t c a b Goal ms ps)
      → AllRunPrivately image t a ms (committings t c a b Goal ms ps all)
  unfolding committings
  each_private t c a b Goal [] [] all = tt
  each_private t c a b Goal (m ∷ ms) (p ∷ ps) all = (all.0.runs, each_private t c a b Goal ms ps all.1)
  each_private t c a b Goal ms ps all = absurd (assumption all)

  -- what is to hold of a member so many private steps later
  abbrev coming : Setting → ℕ → (ℕ → P → Hart → D → Type 0) → ℕ → P → Hart → D → Type 0
  coming t b Goal number p h d = (h' : Hart) × RunsPrivately image t number b h h' × Goal number p h' d

  each_at : (t : Setting) (c a b : ℕ) (Goal : ℕ → P → Hart → D → Type 0) (ms : List Member) (ps : List P) (all : EachDoes source image t c a b Goal ms ps)
      → EachCommits (in_cycles a t) c (coming (later (in_cycles a t)) b Goal) (with_harts ms (committings t c a b Goal ms ps all)) ps
  unfolding committings
  each_at t c a b Goal [] [] all = tt
  each_at t c a b Goal (m ∷ ms) (p ∷ ps) all = (all.0.commits, each_at t c a b Goal ms ps all.1)
  each_at t c a b Goal ms ps all = absurd (assumption all)

  finals : (t : Setting) (b : ℕ) (Goal : ℕ → P → Hart → D → Type 0) (ps : List P) (ms : List Member) (ds : List D) → AllReach (coming t b Goal) ps ms ds → List Hart
  finals t b Goal [] [] [] all = []
  finals t b Goal (p ∷ ps) (m ∷ ms) (d ∷ ds) all = all.0.0 ∷ finals t b Goal ps ms ds all.1
  finals t b Goal ps ms ds all = absurd (assumption all)

  finals_private : (t : Setting) (b : ℕ) (Goal : ℕ → P → Hart → D → Type 0) (ps : List P) (ms : List Member) (ds : List D) (all : AllReach (coming t b Goal) ps ms ds)
      → AllRunPrivately image t b ms (finals t b Goal ps ms ds all)
  unfolding finals
  finals_private t b Goal [] [] [] all = tt
  finals_private t b Goal (p ∷ ps) (m ∷ ms) (d ∷ ds) all = (all.0.1, finals_private t b Goal ps ms ds all.1)
  finals_private t b Goal ps ms ds all = absurd (assumption all)

  finals_reach : (t : Setting) (b : ℕ) (Goal : ℕ → P → Hart → D → Type 0) (ps : List P) (ms : List Member) (ds : List D) (all : AllReach (coming t b Goal) ps ms ds)
      → AllReach Goal ps (with_harts ms (finals t b Goal ps ms ds all)) ds
  unfolding finals
  finals_reach t b Goal [] [] [] all = tt
  finals_reach t b Goal (p ∷ ps) (m ∷ ms) (d ∷ ds) all = (all.0.2, finals_reach t b Goal ps ms ds all.1)
  finals_reach t b Goal ps ms ds all = absurd (assumption all)

  goes_on : (t : Setting) (b : ℕ) (Goal : ℕ → P → Hart → D → Type 0) (ps : List P) (ms : List Member) (ds : List D) (own : Memory) → AllReach (coming t b Goal) ps ms ds
      → NodeRun image mine t b ms own (λ ms' own'. (own' ≡ own) × AllReach Goal ps ms' ds)
  goes_on t b Goal ps ms ds own all =
      private_run image mine t b ms (finals t b Goal ps ms ds all) own (λ ms' own'. (own' ≡ own) × AllReach Goal ps ms' ds)
      (finals_private t b Goal ps ms ds all) (refl, finals_reach t b Goal ps ms ds all)

  -- whatever is to hold of each member
  pub each_does : (t : Setting) (c a b : ℕ) (Goal : ℕ → P → Hart → D → Type 0) (ms : List Member) (ps : List P) (own : Memory)
      → AreApart mine source.common → EachDoes source image t c a b Goal ms ps
      → Together source image mine t c a ms ps own
      (λ ms' ds own'. NodeRun image mine (later (in_cycles a t)) b ms' own' (λ ms'' own''. (own'' ≡ own) × AllReach Goal ps ms'' ds))
  each_does t c a b Goal ms ps own apart all =
      let Then : List Member → List D → Memory → Type 0 = λ ms' ds own'. NodeRun image mine (later (in_cycles a t)) b ms' own' (λ ms'' own''. (own'' ≡ own) × AllReach Goal ps ms'' ds) in
      let hs = committings t c a b Goal ms ps all in
      let at = each_at t c a b Goal ms ps all in
      let Goal' = coming (later (in_cycles a t)) b Goal in
      let same : a + 0 ≡ a = omega arith in
      subst (λ k. Together source image mine t c k ms ps own Then) same
      (run_leads source image mine t c a 0 ms ps own Then
      (private_run image mine t a ms hs own (λ ms' own'. Commits source image mine (in_cycles a t) c ms' ps own' Then) (each_private t c a b Goal ms ps all)
      (record {
        counted = all_counted (in_cycles a t) c Goal' (with_harts ms hs) ps at;
        chain = each_chain (in_cycles a t) c Goal' (with_harts ms hs) ps own Then apart at (λ ms' ds reach. goes_on (later (in_cycles a t)) b Goal ps ms' ds own reach);
      })))

pub members_do_as_each : (S P D : Type 0) → MembersDoAsEach S P D
members_do_as_each S P D source image mine t c before after test ms ps own apart each =
    each_does source image mine t c before after (λ number p h d. test number p h d ≡ true) ms ps own apart each
