-- The turn of one who meets others, whether leaving is its commit or nothing.
use Rattle.std.proofs.Common.{◌≡◌, ◌≢◌, ℕ, zero, suc, ◌%◌, sym, ap, subst, ◌∙◌, refl, arith, inl, inr, ⊎_elim, eq-eqb}
use Rattle.std.specs.Prelude.{◌==◌, ◌&&◌, true}
use Rattle.std.proofs.lemmas.Bool.{cases_eq, ne_eqb}
use Rattle.fk_num.specs.Word.{Memory}
use Rattle.fk_image.specs.declared.Image.{Image}
use Rattle.fk_machine.specs.Hart.{Hart, Setting as MachineSetting}
use Rattle.fk_sim_nodes.specs.Node.{Words}
use Rattle.fk_sim_nodes.specs.Alone.{Holds, Stays, later}
use Rattle.fk_sim_nodes.proofs.Runs.{private_stays}
use Rattle.fk_sim_nodes.specs.Phase.{Phase, Outside, Away, Coming, Waiting, Leaving, polled, word_after, Moves}
use Rattle.fk_sim_match.specs.Plan.{IsInside}
use Rattle.fk_sim_block.specs.Node.{Polling}
use Rattle.fk_sim_block.specs.Joint.{lead, Polls, IsArriving, GoesToPoll, KeepsPolling, IsInPhaseBy}

-- leaving alone is an instruction of a count
abbrev pub count_in : (count : ℕ) → Phase → ℕ
count_in count (Leaving zero) = count
count_in count f = 0

module _ (image : Image) (word number n count : ℕ) (polling : Polling) (first : Hart) (Left : Hart → Type 0) (mine : Words) where
  abbrev pub Standing : MachineSetting → Phase → Hart → Type 0
  Standing t f h = IsInPhaseBy image word number polling first n Left count t f h

  -- it has left, or stands in its next phase
  abbrev pub Follows : MachineSetting → (f f' : Phase) → Hart → Type 0
  Follows t (Leaving zero) f' h = (f' ≡ Away) × Left h
  Follows t f f' h = Standing t f' h

  pub record Turned (t : MachineSetting) (f : Phase) (h : Hart) (own : Memory) : Type 0 where
    pub hart : Hart
    pub words : Memory
    pub phase : Phase
    pub stays : Stays image mine t (count_in count f) (record { number = number; hart = h }) own hart words
    pub arrivals : words word ≡ word_after f (own word)
    pub others : (i : ℕ) → i ≢ word → words i ≡ own i
    pub moves : Moves t.finished n lead (own word) f phase
    pub follows : Follows (later t) f phase hart

  module _ (t : MachineSetting) (h : Hart) (own : Memory) (code : Holds image t) (owned : mine word ≡ true) (polls : KeepsPolling image word number polling first n Left count) where
    arriving : Standing t (Coming 0) h → Turned t (Coming 0) h own
    arriving s =
        let even = s.0 in
        let at : IsArriving image word number polling first n Left t h = subst (λ k. IsArriving image word number polling first n Left t k) (sym s.1.1) s.1.2 in
        let turn = at mine own owned in
        record {
          hart = turn.hart;
          words = turn.words;
          phase = Waiting;
          stays = turn.stays;
          arrivals = turn.arrivals;
          others = turn.others;
          moves = refl;
          follows = inl (omega (arith, even), turn.follows);
        }

    coming : (d : ℕ) → Standing t (Coming (suc d)) h → Turned t (Coming (suc d)) h own
    coming d s =
        let even = s.0 in
        record {
          hart = s.1.1.0;
          words = own;
          phase = Coming d;
          stays = private_stays image mine t (record { number = number; hart = h }) own s.1.1.0 s.1.1.1;
          arrivals = refl;
          others = λ i ne. refl;
          moves = refl;
          follows = (omega (arith, even), (s.1.0, s.1.1.2, s.1.2));
        }

    found : t.finished % 2 ≡ 1 → Polls polling first h → Turned t Waiting h own
    found odd at =
        let turn = polls t h code odd at mine own owned in
        let by_word : polled lead (t.finished % 2 == 1 && own word == n) ≡ polled lead (own word == n) = ap (λ k. polled lead (k == 1 && own word == n)) odd in
        ⊎_elim
        (λ all.
        record {
          hart = turn.hart;
          words = turn.words;
          phase = Leaving 1;
          stays = turn.stays;
          arrivals = turn.arrivals;
          others = turn.others;
          moves = sym (by_word ∙ ap (λ b. polled lead b) (eq-eqb (own word) n all));
          follows = (omega (arith, odd), turn.follows.0 all);
        })
        (λ some.
        record {
          hart = turn.hart;
          words = turn.words;
          phase = Waiting;
          stays = turn.stays;
          arrivals = turn.arrivals;
          others = turn.others;
          moves = sym (by_word ∙ ap (λ b. polled lead b) (ne_eqb (own word) n some));
          follows = inr (omega (arith, odd), turn.follows.1 some);
        })
        (cases_eq (own word) n)

    back : t.finished % 2 ≡ 0 → GoesToPoll image word number polling first n Left t h → Turned t Waiting h own
    back even goes =
        let turn = goes mine own owned in
        record {
          hart = turn.hart;
          words = turn.words;
          phase = Waiting;
          stays = turn.stays;
          arrivals = turn.arrivals;
          others = turn.others;
          moves = sym (ap (λ k. polled lead (k == 1 && own word == n)) even);
          follows = inl (omega (arith, even), turn.follows);
        }

    seeing : Standing t (Leaving 1) h → Turned t (Leaving 1) h own
    seeing s =
        let even = s.0 in
        let turn = s.1 mine own owned in
        record {
          hart = turn.hart;
          words = turn.words;
          phase = Leaving 0;
          stays = turn.stays;
          arrivals = turn.arrivals;
          others = turn.others;
          moves = refl;
          follows = (omega (arith, even), turn.follows);
        }

    leaving : Standing t (Leaving 0) h → Turned t (Leaving 0) h own
    leaving s =
        let turn = s.1 mine own owned in
        record {
          hart = turn.hart;
          words = turn.words;
          phase = Away;
          stays = turn.stays;
          arrivals = turn.arrivals;
          others = turn.others;
          moves = tt;
          follows = (refl, turn.follows);
        }

    pub turned : (f : Phase) → IsInside f → Standing t f h → Turned t f h own
    turned Outside inside s = absurd (assumption inside)
    turned Away inside s = absurd (assumption inside)
    turned (Coming zero) inside s = arriving s
    turned (Coming (suc d)) inside s = coming d s
    turned Waiting inside s = ⊎_elim (λ at. found at.0 at.1) (λ at. back at.0 at.1) s
    turned (Leaving zero) inside s = leaving s
    turned (Leaving (suc zero)) inside s = seeing s
    turned (Leaving (suc (suc d))) inside s = absurd s
