-- The chains of all nodes together are the whole cycle.
use Rattle.std.proofs.Common.{◌≡◌, ℕ, suc, ◌+◌, List, [], ◌∷◌, Some, None, Bool, true, false, cond, sym, ap, subst, ◌∙◌, arith, refl, inl, inr, ⊎_elim, eq-eqb}
use Rattle.std.proofs.lemmas.Bool.{eqb-true, eqb-false}
use Rattle.std.specs.Prelude.{◌==◌, map}
use Rattle.fk_num.specs.Word.{Memory}
use Rattle.fk_image.specs.declared.Image.{Image}
use Rattle.fk_machine.specs.declared.stand.Stand.TheVariants.{Faulted}
use Rattle.fk_machine.specs.Hart.{Hart, Shared, Setting, Stops}
use Rattle.fk_machine.specs.Cycle.{before, no_address, after_effect, turns}
use Rattle.fk_machine.specs.Run.{count_of}
use Rattle.fk_sim_nodes.specs.Node.{Member, numbered, add, of_node, AreAsMany, Words, Has, KeepsOthers, OwnApart}
use Rattle.fk_sim_nodes.specs.Source.{Source, Passes, Shows}
use Rattle.fk_sim_nodes.specs.Chain.{runs, Faulting, Chain}
use Rattle.fk_sim_nodes.specs.Whole.{planned, first_of, IsRound, ChainsAreTheCycle}

-- ---- the words of all nodes after one turn

abbrev choose : {A : Type 0} → Bool → A → A → A
choose true x y = x
choose false x y = y

-- node n has new words
abbrev renewed : ℕ → Memory → (ℕ → Memory) → ℕ → Memory
renewed n own' own g = choose (n == g) own' (own g)

has_after : (words : ℕ → Words) (common : Words) → OwnApart words common → (n g : ℕ) (before after own own' : Memory) (b : Bool) → (n == g) ≡ b
    → Has (words g) before own → Has (words n) after own' → KeepsOthers (words n) common before after → Has (words g) after (choose b own' own)
has_after words common apart n g before after own own' true e held has keeps = subst (λ j. Has (words j) after own') (eqb-true n g e) has
has_after words common apart n g before after own own' false e held has keeps =
    λ i o. keeps i (apart.nodes g n (λ f. eqb-false n g e (sym f)) i o) (apart.from_common g i o) ∙ held i o

zeros : (image : Image) (hs : List Hart) → map (count_of image) (map no_address hs) ≡ first_of 0 (planned image hs)
zeros image [] = refl
zeros image (h ∷ hs) = ap (λ r. 0 ∷ r) (zeros image hs)

module _ {S P D : Type 0} (source : Source S P D) (image : Image) (words : ℕ → Words) (t : Setting) where
  -- what is still to hold of each node, with what one member has become
  abbrev rest_of : (ℕ → List Member → List D → Memory → Type 0) → ℕ → Member → D → ℕ → List Member → List D → Memory → Type 0
  rest_of After n m d g ms ds = After g (add (n == g) m ms) (add (n == g) d ds)

  -- the chain of each node after one turn
  chain_after : (After : ℕ → List Member → List D → Memory → Type 0) (n g : ℕ) (ns : List ℕ) (m m' : Member) (all : List Member) (p : P) (ps : List P) (d : D) (own own' : Memory) (b : Bool)
      → (n == g) ≡ b
      → Chain source image (words n) t (of_node n ns all) (of_node n ns ps) own' (λ ms ds. After n (m' ∷ ms) (d ∷ ds))
      → Chain source image (words g) t (add b m (of_node g ns all)) (add b p (of_node g ns ps)) own (After g)
      → Chain source image (words g) t (of_node g ns all) (of_node g ns ps) (choose b own' own) (λ ms ds. After g (add b m' ms) (add b d ds))
  chain_after After n g ns m m' all p ps d own own' true e rest chain =
      subst (λ j. Chain source image (words j) t (of_node j ns all) (of_node j ns ps) own' (λ ms ds. After j (m' ∷ ms) (d ∷ ds))) (eqb-true n g e) rest
  chain_after After n g ns m m' all p ps d own own' false e rest chain = chain

  -- ---- one turn, and the turns of the others

  one_more : (After : ℕ → List Member → List D → Memory → Type 0) (earlier : List ℕ) (number n : ℕ) (ns : List ℕ) (h : Hart) (hs : List Hart) (p : P) (ps : List P) (s s' : S) (h' : Hart) (d : D) (sh' : Shared)
      → source.part (count_of image (runs h)) s p ≡ Passes s' d
      → IsRound source image words (rest_of After n (record { number = number; hart = h' }) d) earlier (suc number) ns hs ps s' (turns t (suc number) hs sh')
      → IsRound source image words After earlier number (n ∷ ns) (h ∷ hs) (p ∷ ps) s (before h' (runs h) (turns t (suc number) hs sh'))
  one_more After earlier number n ns h hs p ps s s' h' d sh' part (inl r) = inl (record {
    own = r.own;
    store = r.store;
    did = d ∷ r.did;
    as_many = r.as_many;
    going = r.going;
    counts = ap (λ counts. count_of image (runs h) ∷ counts) r.counts;
    parts = (s', part, r.parts);
    shows = r.shows;
    has = r.has;
    after = r.after;
  })
  one_more After earlier number n ns h hs p ps s s' h' d sh' part (inr r) =
      let place : suc number + r.place ≡ number + suc r.place = omega arith in
      inr (record {
        site = r.site;
        place = suc r.place;
        store = r.store;
        stops = r.stops ∙ ap (λ k. Some (Faulted r.site k)) place;
        counts = ap (λ counts. count_of image (runs h) ∷ counts) r.counts;
        faults = (s', d, part, r.faults);
        shows = r.shows;
      })

  broken : (After : ℕ → List Member → List D → Memory → Type 0) (earlier : List ℕ) (number n : ℕ) (ns : List ℕ) (h : Hart) (hs : List Hart) (p : P) (ps : List P) (mine : Words) (sh : Shared) (s : S)
      → Shows source earlier sh s → (one : Faulting source image mine t (record { number = number; hart = h }) p sh s)
      → IsRound source image words After earlier number (n ∷ ns) (h ∷ hs) (p ∷ ps) s (after_effect h hs (turns t (suc number) hs) sh (Stops (Faulted one.site number)))
  broken After earlier number n ns h hs p ps mine sh s shows one =
      let at : runs h ≡ Some h.pc = ap (λ e. cond e None (Some h.pc)) one.live in
      let place : number ≡ number + 0 = omega arith in
      inr (record {
        site = one.site;
        place = 0;
        store = s;
        stops = ap (λ k. Some (Faulted one.site k)) place;
        counts = ap (λ r. count_of image r ∷ map (count_of image) (map no_address hs)) (sym at) ∙ ap (λ r. count_of image (runs h) ∷ r) (zeros image hs);
        faults = (one.part, refl);
        shows = shows;
      })

  -- whatever is to hold of each node
  pub projected : (After : ℕ → List Member → List D → Memory → Type 0) (earlier : List ℕ) (number : ℕ) (ns : List ℕ) (hs : List Hart) (ps : List P) (own : ℕ → Memory) (sh : Shared) (s : S)
      → OwnApart words source.common → AreAsMany ns hs ps → Shows source earlier sh s → ((g : ℕ) → Has (words g) sh.control (own g))
      → ((g : ℕ) → Chain source image (words g) t (of_node g ns (numbered number hs)) (of_node g ns ps) (own g) (After g))
      → IsRound source image words After earlier number ns hs ps s (turns t number hs sh)
  projected After earlier number [] [] [] own sh s apart many shows has chains = inl (record {
    own = own;
    store = s;
    did = [];
    as_many = tt;
    going = refl;
    counts = refl;
    parts = refl;
    shows = shows;
    has = has;
    after = chains;
  })
  projected After earlier number (n ∷ ns) (h ∷ hs) (p ∷ ps) own sh s apart many shows has chains =
      let m : Member = record { number = number; hart = h } in
      let here = subst (λ b. Chain source image (words n) t (add b m (of_node n ns (numbered (suc number) hs))) (add b p (of_node n ns ps)) (own n) (After n)) (eq-eqb n n refl) (chains n) in
      ⊎_elim
      (λ one.
      let m' : Member = record { number = number; hart = one.hart } in
      subst (IsRound source image words After earlier number (n ∷ ns) (h ∷ hs) (p ∷ ps) s) (sym (one.turned hs (turns t (suc number) hs)))
      (one_more After earlier number n ns h hs p ps s one.store one.hart one.done one.shared one.part
      (projected (rest_of After n m' one.done) earlier (suc number) ns hs ps (renewed n one.own own) one.shared one.store apart many one.shows
      (λ g. has_after words source.common apart n g sh.control one.shared.control (own g) one.own (n == g) refl (has g) one.has one.keeps)
      (λ g. chain_after After n g ns m m' (numbered (suc number) hs) p ps one.done (own g) one.own (n == g) refl one.follows (chains g)))))
      (λ one.
      subst (IsRound source image words After earlier number (n ∷ ns) (h ∷ hs) (p ∷ ps) s) (sym (one.turned hs (turns t (suc number) hs)))
      (broken After earlier number n ns h hs p ps (words n) sh s shows one))
      (here earlier sh s shows (has n))
  projected After earlier number ns hs ps own sh s apart many shows has chains = absurd (assumption many)

pub chains_are_the_cycle : (S P D : Type 0) → ChainsAreTheCycle S P D
chains_are_the_cycle S P D source image words t test earlier nodes hs ps own sh s apart many shows has chains =
    projected source image words t (λ g ms ds own'. test g ms ds own' ≡ true) earlier 0 nodes hs ps own sh s apart many shows has chains
