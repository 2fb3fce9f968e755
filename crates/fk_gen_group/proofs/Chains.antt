-- A node some of whose members meet while others go on by themselves.
use Rattle.std.proofs.Common.{◌≡◌, ℕ, zero, suc, List, [], ◌∷◌, Bool, true, sym, ap, subst, ◌∙◌, refl, inl, inr, ⊎_elim}
use Rattle.fk_num.specs.Word.{Memory}
use Rattle.fk_image.specs.declared.Image.{Image}
use Rattle.fk_machine.specs.Hart.{Hart, Setting}
use Rattle.fk_sim_nodes.specs.Node.{Member, Words, AreApart}
use Rattle.fk_sim_nodes.specs.Source.{Source}
use Rattle.fk_sim_nodes.specs.Chain.{Chain}
use Rattle.fk_sim_nodes.specs.Alone.{Holds}
use Rattle.fk_sim_nodes.proofs.Members.{stays_passing}
use Rattle.fk_sim_nodes.specs.Phase.{Phase, Outside, Away, Coming, Waiting, Leaving, Moves, AllMove, word_after}
use Rattle.fk_gen_group.specs.Meeting.{Meeting, Continues, count_for, lead}
use Rattle.fk_gen_group.specs.Together.{Comer, phases}
use Rattle.fk_gen_group.specs.Chains.{TurnsElsewhere, TurnsInside, Turns, AllTurn, Became, HaveTurned, MeetersHaveChains}
use Rattle.fk_gen_group.proofs.Steps.{harts_move}

module _ {S P D : Type 0} (source : Source S P D) (g : Meeting) (image : Image) (bound : ℕ → ℕ) (mine : Words) (w n : ℕ) (test : Member → P → Hart → D → Bool) where
  abbrev Turned : Setting → List Comer → List Member → List P → List D → Memory → List Member → List D → Memory → Type 0
  Turned t cs ms ps ds before ms' ds' own = HaveTurned source g image bound mine w n test t cs ms ps ds before ms' ds' own

  -- one turn before the others
  more : (t : Setting) (f f' : Phase) (c : Comer) (m : Member) (p : P) (d : D) (h : Hart) (d' : D) (cs : List Comer) (ms : List Member) (ps : List P) (ds : List D) (own own1 own' : Memory) (ms' : List Member) (ds' : List D)
      → c.phase ≡ f → own1 w ≡ word_after f (own w) → Moves t.finished n lead (own w) f f' → Became source g image bound mine w n test t f c m p d f' h d'
      → Turned t cs ms ps ds own1 ms' ds' own' → Turned t (c ∷ cs) (m ∷ ms) (p ∷ ps) (d ∷ ds) own (record m { hart = h } ∷ ms') (d' ∷ ds') own'
  more t f f' c m p d h d' cs ms ps ds own own1 own' ms' ds' e word moves became rest = record {
    phases' = f' ∷ rest.phases';
    moves = (
      subst (λ x. Moves t.finished n lead (own w) x f') (sym e) moves,
      subst (λ x. AllMove t.finished n lead (phases cs) x rest.phases' (own' w)) (word ∙ ap (λ x. word_after x (own w)) (sym e)) rest.moves,
    );
    became = (refl, subst (λ x. Became source g image bound mine w n test t x c m p d f' h d') (sym e) became, rest.became);
  }

  abbrev Rest : Setting → List Comer → List Member → List P → List D → Type 1
  Rest t cs ms ps ds =
      (own : Memory) (Then : List Member → List D → Memory → Type 0)
      → ((ms' : List Member) (ds' : List D) (own' : Memory) → Turned t cs ms ps ds own ms' ds' own' → Then ms' ds' own') → Chain source image mine t ms ps own Then

  abbrev One : Setting → Comer → Member → P → List Comer → List Member → List P → D → List D → Memory → (List Member → List D → Memory → Type 0) → Type 0
  One t c m p cs ms ps d ds own Then =
      ((ms' : List Member) (ds' : List D) (own' : Memory) → Turned t (c ∷ cs) (m ∷ ms) (p ∷ ps) (d ∷ ds) own ms' ds' own' → Then ms' ds' own')
      → Chain source image mine t (m ∷ ms) (p ∷ ps) own Then

  elsewhere : (t : Setting) (f : Phase) (c : Comer) (m : Member) (p : P) (d : D) (cs : List Comer) (ms : List Member) (ps : List P) (ds : List D) (own : Memory) (Then : List Member → List D → Memory → Type 0)
      → c.phase ≡ f → ((v : ℕ) → word_after f v ≡ v) → ((v : ℕ) → Moves t.finished n lead v f f)
      → ((h : Hart) (d' : D) → test m p h d' ≡ true → Became source g image bound mine w n test t f c m p d f h d')
      → TurnsElsewhere source g image bound mine w n test t m p → Rest t cs ms ps ds → One t c m p cs ms ps d ds own Then
  elsewhere t f c m p d cs ms ps ds own Then e still moves became turn rest follows = λ earlier sh s shows has.
      ⊎_elim
      (λ one. inl (record {
        hart = one.hart;
        shared = one.shared;
        own = one.own;
        store = one.store;
        done = one.done;
        part = one.part;
        turned = one.turned;
        shows = one.shows;
        has = one.has;
        keeps = one.keeps;
        follows =
            rest one.own (λ ms' ds'. Then (record m { hart = one.hart } ∷ ms') (one.done ∷ ds'))
            (λ ms' ds' own' x. follows (record m { hart = one.hart } ∷ ms') (one.done ∷ ds') own'
            (more t f f c m p d one.hart one.done cs ms ps ds own one.own own' ms' ds' e (one.follows.0 ∙ sym (still (own w))) (moves (own w)) (became one.hart one.done one.follows.1) x));
      }))
      (λ one. inr one)
      (turn own earlier sh s shows has)

  within : (t : Setting) (f : Phase) (c : Comer) (m : Member) (p : P) (d : D) (cs : List Comer) (ms : List Member) (ps : List P) (ds : List D) (own : Memory) (Then : List Member → List D → Memory → Type 0)
      → AreApart mine source.common → mine w ≡ true → Holds image t → c.phase ≡ f
      → ((f' : Phase) (h : Hart) → Continues g image c.lines n c.first t m.number (own w) f f' h → Became source g image bound mine w n test t f c m p d f' h d)
      → TurnsInside source g image bound mine w n test t c m p d → Rest t cs ms ps ds → One t c m p cs ms ps d ds own Then
  within t f c m p d cs ms ps ds own Then apart is holds e became inside rest follows =
      let s = inside.stands in
      let turn = harts_move g image bound mine c.lines w n t c.first c.phase m own s.meeting is holds s.ready s.stands in
      let arrivals = turn.arrivals ∙ ap (λ x. word_after x (own w)) e in
      let moves = subst (λ x. Moves t.finished n lead (own w) x turn.phase) e turn.moves in
      let on = subst (λ x. Continues g image c.lines n c.first t m.number (own w) x turn.phase turn.hart) e turn.continues in
      λ earlier sh store shows has.
      inl (stays_passing source image mine t (count_for g c.phase) m p d own turn.hart turn.words earlier sh store
      (λ h d' own'. Chain source image mine t ms ps own' (λ ms' ds'. Then (record m { hart = h } ∷ ms') (d' ∷ ds')))
      apart shows has turn.stays (inside.takes store)
      (rest turn.words (λ ms' ds'. Then (record m { hart = turn.hart } ∷ ms') (d ∷ ds'))
      (λ ms' ds' own' x. follows (record m { hart = turn.hart } ∷ ms') (d ∷ ds') own'
      (more t f turn.phase c m p d turn.hart d cs ms ps ds own turn.words own' ms' ds' e arrivals moves (became turn.phase turn.hart on) x))))

  one_turn : (t : Setting) (f : Phase) (c : Comer) (m : Member) (p : P) (d : D) (cs : List Comer) (ms : List Member) (ps : List P) (ds : List D) (own : Memory) (Then : List Member → List D → Memory → Type 0)
      → AreApart mine source.common → mine w ≡ true → Holds image t → c.phase ≡ f → Turns source g image bound mine w n test t f c m p d → Rest t cs ms ps ds
      → One t c m p cs ms ps d ds own Then
  one_turn t Outside c m p d cs ms ps ds own Then apart is holds e turn rest =
      elsewhere t Outside c m p d cs ms ps ds own Then e (λ v. refl) (λ v. refl) (λ h d' x. (refl, x)) turn rest
  one_turn t Away c m p d cs ms ps ds own Then apart is holds e turn rest =
      elsewhere t Away c m p d cs ms ps ds own Then e (λ v. refl) (λ v. tt) (λ h d' x. (refl, x)) turn rest
  one_turn t (Coming k) c m p d cs ms ps ds own Then apart is holds e turn rest =
      within t (Coming k) c m p d cs ms ps ds own Then apart is holds e (λ f' h x. ((own w, x), refl)) turn rest
  one_turn t Waiting c m p d cs ms ps ds own Then apart is holds e turn rest =
      within t Waiting c m p d cs ms ps ds own Then apart is holds e (λ f' h x. ((own w, x), refl)) turn rest
  one_turn t (Leaving zero) c m p d cs ms ps ds own Then apart is holds e turn rest =
      within t (Leaving zero) c m p d cs ms ps ds own Then apart is holds e (λ f' h x. ((own w, x), refl)) turn rest
  one_turn t (Leaving (suc k)) c m p d cs ms ps ds own Then apart is holds e turn rest =
      within t (Leaving (suc k)) c m p d cs ms ps ds own Then apart is holds e (λ f' h x. ((own w, x), refl)) turn rest

  chained : (t : Setting) (cs : List Comer) (ms : List Member) (ps : List P) (ds : List D) → AreApart mine source.common → mine w ≡ true → Holds image t
      → AllTurn source g image bound mine w n test t cs ms ps ds → Rest t cs ms ps ds
  chained t [] [] [] [] apart is holds all own Then follows = follows [] [] own (record { phases' = []; moves = refl; became = tt })
  chained t (c ∷ cs) (m ∷ ms) (p ∷ ps) (d ∷ ds) apart is holds all own Then follows =
      one_turn t c.phase c m p d cs ms ps ds own Then apart is holds refl all.0 (chained t cs ms ps ds apart is holds all.1) follows
  chained t cs ms ps ds apart is holds all own Then follows = absurd (assumption all)

pub meeters_have_chains : (S P D : Type 0) → MeetersHaveChains S P D
meeters_have_chains S P D source g image bound mine w n test t cs ms ps ds own apart is holds all =
    chained source g image bound mine w n test t cs ms ps ds apart is holds all own
    (λ ms' ds' own'. HaveTurned source g image bound mine w n test t cs ms ps ds own ms' ds' own') (λ ms' ds' own' x. x)
