-- Harts in lines of a meeting meet by phases.
use Rattle.std.proofs.Common.{◌≡◌, ◌≢◌, ℕ, zero, suc, ◌+◌, ◌*◌, ◌%◌, true, false, sym, ap, subst, ◌∙◌, arith, refl, ◌⊎◌, inl, inr, eq-eqb}
use Rattle.std.specs.Prelude.{◌==◌, ◌||◌, ◌&&◌}
use Rattle.std.proofs.lemmas.Bool.{ne_eqb}
use Rattle.fk_image.specs.declared.Image.{Image}
use Rattle.fk_machine.specs.Hart.{Hart, Setting}
use Rattle.fk_sim_nodes.specs.Node.{Member}
use Rattle.fk_sim_nodes.specs.Alone.{Holds, later, in_cycles}
use Rattle.fk_sim_nodes.specs.Phase.{Phase, Coming, Waiting, Leaving, polled}
use Rattle.fk_sim_block.specs.Node.{Polling}
use Rattle.fk_sim_block.specs.Joint.{Polls, IsArriving, IsLeaving, GoesToLeave, GoesToPoll, KeepsPolling, IsInPhaseBy}
use Rattle.fk_gen.proofs.Does.{holds_in_cycles}
use Rattle.fk_gen.specs.Registers.{t0}
use Rattle.fk_gen_group.specs.Meeting as lines
use Rattle.fk_gen_group.specs.Meeting.{Meeting, HasMeeting, IsReadyToMeet, Keeps, HasLeft, count_of_leaving, lead}
use Rattle.fk_gen_group.specs.Blocks.{meeting_of}
use Rattle.fk_gen_group.specs.Meet.{counted_by, event_by}
use Rattle.fk_gen_group.specs.Laws.{BlocksMeet}
use Rattle.fk_gen_group.proofs.Steps.{harts_move}
use Rattle.fk_gen_group.proofs.Meets.{blocks_come}

finished_in : (d : ℕ) (t : Setting) → (in_cycles d t).finished ≡ t.finished + d
finished_in zero t = omega arith
finished_in (suc d) t = let e = finished_in d (later t) in omega (arith, e)

-- a hart in the lines that has all else that it had at first
pub kept_at : (g : Meeting) (first h : Hart) (at : ℕ) → first.ended ≡ false → Keeps g first h → h.pc ≡ 4 * at → Polls (record { at = at; changes = λ r. (r == 5) || (r == 6) }) first h
kept_at g first h at live keeps pc = record {
  live = keeps.live ∙ live;
  at = pc;
  local = keeps.local;
  others = λ r e.
      keeps.others r (λ a. let x : true ≡ false = subst (λ y. ((y == 5) || (y == 6)) ≡ false) a e in absurd (cc))
      (λ a. let x : true ≡ false = subst (λ y. ((y == 5) || (y == 6)) ≡ false) a e in absurd (cc));
}

module _ (g : Meeting) (image : Image) (bound : ℕ → ℕ) (k w n number : ℕ) (first : Hart) (has : HasMeeting g image bound k) (ready : IsReadyToMeet g w n first)
    (Left : Hart → Type 0) (leaves : (h : Hart) → HasLeft g image k n first h → Left h) where
  abbrev count : ℕ
  count = count_of_leaving g.leaving

  abbrev polling : Polling
  polling = record { at = k + 7; changes = λ r. (r == 5) || (r == 6) }

  abbrev InLines : Setting → Phase → Hart → Type 0
  InLines t f h = lines.IsInPhase g image k n first t number f h

  abbrev member : Hart → Member
  member h = record { number = number; hart = h }

  keeps_of : (h : Hart) → Polls polling first h → Keeps g first h
  keeps_of h p = record {
    live = p.live ∙ sym ready.live;
    local = p.local;
    others = λ r a b. p.others r (ap (λ x. x || (r == 6)) (ne_eqb r 5 a) ∙ ne_eqb r 6 b);
  }

  polls_of : (h : Hart) → Keeps g first h → h.pc ≡ 4 * (k + 7) → Polls polling first h
  polls_of h keeps pc = kept_at g first h (k + 7) ready.live keeps pc

  polls_by : (t : Setting) (h : Hart) → t.finished % 2 ≡ 1 → Keeps g first h
      → ((t.finished % 2 ≡ 1) × (h.pc ≡ 4 * (k + 7))) ⊎ ((t.finished % 2 ≡ 0) × (h.pc ≡ 4 * (k + 8)) × (h.registers t0 ≢ n)) → Polls polling first h
  polls_by t h odd keeps (inl at) = polls_of h keeps at.1
  polls_by t h odd keeps (inr at) = let even = at.0 in absurd (omega (arith, odd, even))

  arrives : (t : Setting) (h : Hart) → Holds image t → t.finished % 2 ≡ 0 → lines.IsArriving g image k n first h
      → IsArriving image w number polling first n Left t h
  arrives t h holds even is = λ mine own is_mine.
      let stand : InLines t (Coming 0) h = (omega (arith, even), (h, refl, is)) in
      let turn = harts_move g image bound mine k w n t first (Coming 0) (member h) own has is_mine holds ready stand in
      let next : InLines (later t) Waiting turn.hart = subst (λ f. InLines (later t) f turn.hart) turn.moves turn.continues in
      record {
        hart = turn.hart;
        words = turn.words;
        stays = turn.stays;
        arrivals = turn.arrivals;
        others = turn.others;
        follows = polls_by (later t) turn.hart (omega (arith, even)) next.0 next.1;
      }

  is_leaving : (t : Setting) (h : Hart) → Holds image t → InLines t (Leaving 0) h → IsLeaving image w number polling first n Left count t h
  is_leaving t h holds stand = λ mine own is_mine.
      let turn = harts_move g image bound mine k w n t first (Leaving 0) (member h) own has is_mine holds ready stand in
      record {
        hart = turn.hart;
        words = turn.words;
        stays = turn.stays;
        arrivals = turn.arrivals;
        others = turn.others;
        follows = leaves turn.hart turn.continues.1;
      }

  goes_to_leave : (t : Setting) (h : Hart) → Holds image t → InLines t (Leaving 1) h → GoesToLeave image w number polling first n Left count t h
  goes_to_leave t h holds stand = λ mine own is_mine.
      let turn = harts_move g image bound mine k w n t first (Leaving 1) (member h) own has is_mine holds ready stand in
      record {
        hart = turn.hart;
        words = turn.words;
        stays = turn.stays;
        arrivals = turn.arrivals;
        others = turn.others;
        follows = is_leaving (later t) turn.hart holds (subst (λ f. InLines (later t) f turn.hart) turn.moves turn.continues);
      }

  goes_to_poll : (t : Setting) (h : Hart) → Holds image t → t.finished % 2 ≡ 0 → InLines t Waiting h → GoesToPoll image w number polling first n Left t h
  goes_to_poll t h holds even stand = λ mine own is_mine.
      let turn = harts_move g image bound mine k w n t first Waiting (member h) own has is_mine holds ready stand in
      let still : turn.phase ≡ Waiting = turn.moves ∙ ap (λ x. polled lead ((x == 1) && (own w == n))) even in
      let next : InLines (later t) Waiting turn.hart = subst (λ f. InLines (later t) f turn.hart) still turn.continues in
      record {
        hart = turn.hart;
        words = turn.words;
        stays = turn.stays;
        arrivals = turn.arrivals;
        others = turn.others;
        follows = polls_by (later t) turn.hart (omega (arith, even)) next.0 next.1;
      }

  pub keeps_polling : KeepsPolling image w number polling first n Left count
  keeps_polling t h holds odd p = λ mine own is_mine.
      let stand : InLines t Waiting h = (keeps_of h p, inl (odd, p.at)) in
      let turn = harts_move g image bound mine k w n t first Waiting (member h) own has is_mine holds ready stand in
      let by_word : turn.phase ≡ polled lead (own w == n) = turn.moves ∙ ap (λ x. polled lead ((x == 1) && (own w == n))) odd in
      record {
        hart = turn.hart;
        words = turn.words;
        stays = turn.stays;
        arrivals = turn.arrivals;
        others = turn.others;
        follows = (
          λ e. goes_to_leave (later t) turn.hart holds (subst (λ f. InLines (later t) f turn.hart) (by_word ∙ ap (polled lead) (eq-eqb (own w) n e)) turn.continues),
          λ ne.
              goes_to_poll (later t) turn.hart holds (omega (arith, odd))
              (subst (λ f. InLines (later t) f turn.hart) (by_word ∙ ap (polled lead) (ne_eqb (own w) n ne)) turn.continues),
        );
      }

  pub on_its_way : (t : Setting) (d : ℕ) (h : Hart) → Holds image t → InLines t (Coming d) h → IsInPhaseBy image w number polling first n Left count t (Coming d) h
  on_its_way t d h holds stand =
      let even = stand.0 in
      let e = finished_in d t in (
        even,
        (stand.1.0, stand.1.1, arrives (in_cycles d t) stand.1.0 (holds_in_cycles image d t holds) (omega (arith, even, e)) stand.1.2),
      )

pub blocks_meet : BlocksMeet
blocks_meet core image bound places nestings i op operation is place setting t mine runs first n m p owns en member so_many =
    let comes = blocks_come core image bound places nestings i op operation is place setting t mine runs first n m p owns en member so_many in
    let c = comes.comer in
    let at = comes.stands in (
      comes.steps,
      comes.few,
      record {
        polling = record { at = c.lines + 7; changes = λ r. (r == 5) || (r == 6) };
        first = c.first;
        code = en.running.code;
        polls = keeps_polling (meeting_of (event_by operation) (counted_by operation)) image bound c.lines _ n m.number c.first at.meeting at.ready _ comes.leaves;
        stands =
            on_its_way (meeting_of (event_by operation) (counted_by operation)) image bound c.lines _ n m.number c.first at.meeting at.ready _ comes.leaves t comes.steps m.hart en.running.code
            (subst (λ f. lines.IsInPhase (meeting_of (event_by operation) (counted_by operation)) image c.lines n c.first t m.number f m.hart) comes.comes at.stands);
      },
    )
