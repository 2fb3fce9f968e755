-- Each turn of a hart that meets.
use Rattle.std.proofs.Common.{◌≡◌, ℕ, zero, suc, ◌+◌, ◌-◌, ◌*◌, ◌%◌, ◌^◌, ◌<◌, ◌≤◌, ◌≢◌, true, false, Option, Some, None, sym, ap, subst, ◌∙◌, arith, refl, ◌⊎◌, inl, inr, eq-eqb}
use Rattle.std.specs.Prelude.{◌==◌, bit_and, if◌then◌else◌}
use Rattle.std.proofs.lemmas.Bool.{cases_eq, ne_eqb}
use Rattle.std.proofs.lemmas.Nat.{and_mask}
use Rattle.fk_num.specs.Word.{Memory, put, word_sum}
use Rattle.fk_image.specs.declared.Image.{Image}
use Rattle.fk_image.specs.declared.event.Event.{Event}
use Rattle.fk_image.specs.declared.event.Event.TheVariants.{Split, Shrink, End, Resume, Meet, Agree}
use Rattle.fk_isa.specs.declared.instruction.Instruction.{Instruction}
use Rattle.fk_isa.specs.declared.instruction.Instruction.TheVariants.{Lui, Lw, Sw, Addi, Andi, Beq, Bne, AmoAddW}
use Rattle.fk_machine.specs.Hart.{Hart, Shared, Setting, Reservations, Goes}
use Rattle.fk_machine.specs.Reach.{cleared}
use Rattle.fk_machine.specs.Step.{step}
use Rattle.fk_machine.specs.Run.{count_in}
use Rattle.fk_machine.proofs.Places.{place_of-control}
use Rattle.fk_machine.proofs.Performs.{writes, moves, lui, addi, lw-control, sw-control}
use Rattle.fk_sim_nodes.specs.Node.{Member, Words, Has}
use Rattle.fk_sim_nodes.specs.Alone.{Holds, IsAt, RunsPrivately, GoesWithin, Stays, later, in_cycles}
use Rattle.fk_sim_nodes.proofs.InPlace.{step_at, amoadd-control}
use Rattle.fk_sim_nodes.specs.Phase.{Outside, Away, Coming, Waiting, Leaving}
use Rattle.fk_gen.specs.InPlace.{LinesAt, resolved, count_of_commit}
use Rattle.fk_gen.proofs.Walk.{private}
use Rattle.fk_gen.proofs.Values.{same_word, other_word}
use Rattle.fk_sim_block.specs.Stands.{zero_register}
use Rattle.fk_gen.specs.Registers.{t0, t1}
use Rattle.fk_gen_group.specs.Meeting.{Meeting, HasMeeting, IsReadyToMeet, Keeps, IsArriving, IsInPhase, Turn, leaving_line, count_of_leaving, meeting_lines, HartsArrive, HartsMove}
use Rattle.fk_gen_group.proofs.Performs.{place_of-cycle, lw-cycle, andi, goes_to, beq-taken, beq-passed, bne-taken, bne-passed}

-- ---- what stays

pub keeps_first : (g : Meeting) (h : Hart) → Keeps g h h
keeps_first g h = record { live = refl; local = refl; others = λ r a b. refl }

keeps_t0 : (g : Meeting) (first h : Hart) (v : ℕ) → Keeps g first h → Keeps g first (writes h t0 v)
keeps_t0 g first h v k = record { live = k.live; local = k.local; others = λ r a b. rw (ne_eqb r 5 a) (k.others r a b) }

keeps_t1 : (g : Meeting) (first h : Hart) (v : ℕ) → Keeps g first h → Keeps g first (writes h t1 v)
keeps_t1 g first h v k = record { live = k.live; local = k.local; others = λ r a b. rw (ne_eqb r 6 b) (k.others r a b) }

-- a hart that only moves
keeps_pc : (g : Meeting) (first h : Hart) (pc : ℕ) → Keeps g first h → Keeps g first (goes_to h pc)
keeps_pc g first h pc k = record { live = k.live; local = k.local; others = k.others }

-- ---- to the addition

abbrev first_1 : Hart → Hart
first_1 h = writes h t0 (0x30000 * 4096)

abbrev first_2 : Setting → Hart → Hart
first_2 t h = writes (first_1 h) 5 (t.finished + 1)

abbrev first_3 : Setting → Hart → Hart
first_3 t h = writes (first_2 t h) 5 (bit_and (t.finished + 1) 1)

abbrev first_4 : Setting → Hart → Hart
first_4 t h = writes (first_3 t h) 6 (word_sum (h.registers zero_register) 1)

keeps_4 : (g : Meeting) (t : Setting) (h : Hart) → Keeps g h (first_4 t h)
keeps_4 g t h = keeps_t1 g h (first_3 t h) _ (keeps_t0 g h (first_2 t h) _ (keeps_t0 g h (first_1 h) _ (keeps_t0 g h h _ (keeps_first g h))))

four : (g : Meeting) (image : Image) (bound : ℕ → ℕ) (k number d : ℕ) (t : Setting) (h h' : Hart) → LinesAt image bound k (meeting_lines g) → Holds image t → h.ended ≡ false → h.pc ≡ 4 * k
    → RunsPrivately image (in_cycles 4 t) number d (first_4 t h) h' → RunsPrivately image t number (suc (suc (suc (suc d)))) h h'
four g image bound k number d t h h' at holds live pc rest =
    let w = at.1.1.1.0.within in (
      first_1 h,
      private image t number k (Lui t0 0x30000) h (first_1 h) holds at.0 pc live (λ s. (s.reserved, lui t number 5 0x30000 h s)),
      (
        first_2 t h,
        private image (later t) number (suc k) (Lw t0 t0 16) (first_1 h) (first_2 t h) holds at.1.0 (omega arith) live
            (λ s. (s.reserved, lw-cycle (later t) number 5 5 16 (first_1 h) s refl place_of-cycle)),
        (
          first_3 t h,
          private image (later (later t)) number (suc (suc k)) (Andi t0 t0 1) (first_2 t h) (first_3 t h) holds at.1.1.0 (omega arith) live
              (λ s. (s.reserved, andi (later (later t)) number 5 5 1 (first_2 t h) s)),
          (
            first_4 t h,
            private image (later (later (later t))) number (suc (suc (suc k))) (Addi t1 zero_register 1) (first_3 t h) (first_4 t h) holds at.1.1.1.0 (omega arith) live
                (λ s. (s.reserved, addi (later (later (later t))) number 6 0 1 (first_3 t h) s)),
            rest,
          ),
        ),
      ),
    )

pc_4 : (k : ℕ) (t : Setting) (h : Hart) → k < 262144 → h.pc ≡ 4 * k → (first_4 t h).pc ≡ 4 * (k + 4)
pc_4 k t h lt pc = omega arith

last_bit : (n : ℕ) → bit_and n 1 ≡ n % 2
last_bit n = and_mask n 1

-- where the cycle of the load is even the branch is taken
abbrev taken : Setting → Hart → Hart
taken t h = goes_to (first_4 t h) (word_sum (first_4 t h).pc 8)

taken_arrives : (g : Meeting) (image : Image) (k n : ℕ) (t : Setting) (h : Hart) → k < 262144 → h.pc ≡ 4 * k → h.registers zero_register ≡ 0 → IsArriving g image k n h (taken t h)
taken_arrives g image k n t h lt pc zero_is = record {
  at = let e = pc_4 k t h lt pc in omega arith;
  keeps = keeps_pc g h (first_4 t h) _ (keeps_4 g t h);
  one = omega arith;
}

abbrev Arrives : Meeting → Image → (k n : ℕ) → Hart → Setting → (number : ℕ) → Type 0
Arrives g image k n h t number = (d : ℕ) × (5 ≤ d) × (d ≤ 6) × IsInPhase g image k n h t number (Coming d) h

arrives_even : (g : Meeting) (image : Image) (bound : ℕ → ℕ) (k w n number : ℕ) (t : Setting) (h : Hart) → LinesAt image bound k (meeting_lines g) → Holds image t
    → IsReadyToMeet g w n h → h.pc ≡ 4 * k → (t.finished + 1) % 2 ≡ 0 → Arrives g image k n h t number
arrives_even g image bound k w n number t h at holds r pc even =
    let lt = at.1.1.1.1.0.within in
    let zero_is = r.nought in
    let pc4 = pc_4 k t h (omega arith) pc in
    let same : bit_and (t.finished + 1) 1 ≡ h.registers zero_register = last_bit (t.finished + 1) ∙ even ∙ sym zero_is in (
      5,
      omega arith,
      omega arith,
      (
        omega arith,
        (
          taken t h,
          four g image bound k number 1 t h (taken t h) at holds r.live pc (
            taken t h,
            private image (in_cycles 4 t) number (suc (suc (suc (suc k)))) (Beq t0 zero_register 8) (first_4 t h) (taken t h) holds at.1.1.1.1.0 (omega arith) r.live
                (λ s. (s.reserved, beq-taken (in_cycles 4 t) number 5 0 8 (first_4 t h) s same (omega arith))),
            refl,
          ),
          taken_arrives g image k n t h (omega arith) pc zero_is,
        ),
      ),
    )

-- where it is odd one instruction more is run
abbrev passed : Setting → Hart → Hart
passed t h = writes (moves (first_4 t h)) 0 (word_sum (h.registers zero_register) 0)

passed_arrives : (g : Meeting) (image : Image) (k n : ℕ) (t : Setting) (h : Hart) → k + 6 < 262144 → h.pc ≡ 4 * k → h.registers zero_register ≡ 0 → IsArriving g image k n h (passed t h)
passed_arrives g image k n t h lt pc zero_is = record {
  at = let e = pc_4 k t h (omega arith) pc in omega arith;
  keeps = keeps_pc g h (first_4 t h) _ (keeps_4 g t h);
  one = omega arith;
}

arrives_odd : (g : Meeting) (image : Image) (bound : ℕ → ℕ) (k w n number : ℕ) (t : Setting) (h : Hart) → LinesAt image bound k (meeting_lines g) → Holds image t
    → IsReadyToMeet g w n h → h.pc ≡ 4 * k → (t.finished + 1) % 2 ≡ 1 → Arrives g image k n h t number
arrives_odd g image bound k w n number t h at holds r pc odd =
    let lt = at.1.1.1.1.1.1.0.within in
    let zero_is = r.nought in
    let pc4 = pc_4 k t h (omega arith) pc in
    let bit = last_bit (t.finished + 1) in
    let differ : (bit_and (t.finished + 1) 1 == h.registers zero_register) ≡ false = ne_eqb _ _ (λ e. omega (arith, e)) in (
      6,
      omega arith,
      omega arith,
      (
        omega arith,
        (
          passed t h,
          four g image bound k number 2 t h (passed t h) at holds r.live pc (
            moves (first_4 t h),
            private image (in_cycles 4 t) number (suc (suc (suc (suc k)))) (Beq t0 zero_register 8) (first_4 t h) (moves (first_4 t h)) holds at.1.1.1.1.0 (omega arith) r.live
                (λ s. (s.reserved, beq-passed (in_cycles 4 t) number 5 0 8 (first_4 t h) s differ)),
            (
              passed t h,
              private image (in_cycles 5 t) number (suc (suc (suc (suc (suc k))))) (Addi zero_register zero_register 0) (moves (first_4 t h)) (passed t h) holds at.1.1.1.1.1.0 (omega arith) r.live
                  (λ s. (s.reserved, addi (in_cycles 5 t) number 0 0 0 (moves (first_4 t h)) s)),
              refl,
            ),
          ),
          passed_arrives g image k n t h (omega arith) pc zero_is,
        ),
      ),
    )

arrives_by : (g : Meeting) (image : Image) (bound : ℕ → ℕ) (k w n number : ℕ) (t : Setting) (h : Hart) → LinesAt image bound k (meeting_lines g) → Holds image t
    → IsReadyToMeet g w n h → h.pc ≡ 4 * k → ((t.finished + 1) % 2 ≡ 0) ⊎ ((t.finished + 1) % 2 ≡ 1) → Arrives g image k n h t number
arrives_by g image bound k w n number t h at holds r pc (inl even) = arrives_even g image bound k w n number t h at holds r pc even
arrives_by g image bound k w n number t h at holds r pc (inr odd) = arrives_odd g image bound k w n number t h at holds r pc odd

parity : (t : ℕ) → (t % 2 ≡ 0) ⊎ (t % 2 ≡ 1)
parity t = grind arith

pub harts_arrive : HartsArrive
harts_arrive g image bound k w n number t h has holds r pc = arrives_by g image bound k w n number t h has.lines holds r pc (parity (t.finished + 1))

-- ---- the lines in their places

at_addition : (g : Meeting) (image : Image) (bound : ℕ → ℕ) (k : ℕ) → LinesAt image bound k (meeting_lines g) → IsAt image (k + 6) (AmoAddW 0 g.arrivals 6 false false) 0
at_addition g image bound k at =
    let e : suc (suc (suc (suc (suc (suc k))))) ≡ k + 6 = omega arith in subst (λ j. IsAt image j (AmoAddW 0 g.arrivals 6 false false) 0) e at.1.1.1.1.1.1.0

at_load : (g : Meeting) (image : Image) (bound : ℕ → ℕ) (k : ℕ) → LinesAt image bound k (meeting_lines g) → IsAt image (k + 7) (Lw t0 g.arrivals 0) 0
at_load g image bound k at =
    let e : suc (suc (suc (suc (suc (suc (suc k)))))) ≡ k + 7 = omega arith in subst (λ j. IsAt image j (Lw t0 g.arrivals 0) 0) e at.1.1.1.1.1.1.1.0

at_branch : (g : Meeting) (image : Image) (bound : ℕ → ℕ) (k : ℕ) → LinesAt image bound k (meeting_lines g) → IsAt image (k + 8) (Bne t0 g.size (2 ^ 32 - 4)) 0
at_branch g image bound k at =
    let e : suc (suc (suc (suc (suc (suc (suc (suc k))))))) ≡ k + 8 = omega arith in subst (λ j. IsAt image j (Bne t0 g.size (2 ^ 32 - 4)) 0) e at.1.1.1.1.1.1.1.1.0

leaving_at : (image : Image) (bound : ℕ → ℕ) (k : ℕ) (leaving : Option Event) (i : Instruction) → IsAt image k (resolved bound k (leaving_line leaving i).line) (count_of_commit (leaving_line leaving i).commit)
    → IsAt image k i (count_of_leaving leaving)
leaving_at image bound k (Some Split) i at = at
leaving_at image bound k (Some Shrink) i at = at
leaving_at image bound k (Some End) i at = at
leaving_at image bound k (Some Resume) i at = at
leaving_at image bound k (Some Meet) i at = at
leaving_at image bound k (Some Agree) i at = at
leaving_at image bound k None i at = at

at_leaving : (g : Meeting) (image : Image) (bound : ℕ → ℕ) (k : ℕ) → LinesAt image bound k (meeting_lines g) → IsAt image (k + 9) (Sw g.arrivals 0 0) (count_of_leaving g.leaving)
at_leaving g image bound k at =
    let e : suc (suc (suc (suc (suc (suc (suc (suc (suc k)))))))) ≡ k + 9 = omega arith in
    subst (λ j. IsAt image j (Sw g.arrivals 0 0) (count_of_leaving g.leaving)) e
    (leaving_at image bound (suc (suc (suc (suc (suc (suc (suc (suc (suc k))))))))) g.leaving (Sw g.arrivals 0 0) at.1.1.1.1.1.1.1.1.1.0)

counted_at : (image : Image) (h : Hart) (j c : ℕ) → h.pc ≡ 4 * j → count_in image.commits.items (4 * j) ≡ c → count_in image.commits.items h.pc ≡ c
counted_at image h j c pc e = ap (count_in image.commits.items) pc ∙ e

-- ---- what a step leaves of the node's words

-- none is changed
within_none : (mine : Words) (t : Setting) (number : ℕ) (h h' : Hart) (sh : Shared) (own : Memory) (reserved : Reservations) → Has mine sh.control own
    → step t number h sh ≡ Goes h' (record sh { reserved = reserved }) → GoesWithin mine (step t number h sh) h' sh own
within_none mine t number h h' sh own reserved has e = record { control = sh.control; reserved = reserved; goes = e; has = has; keeps = λ j others. refl }

-- one of them is
within_put : (mine : Words) (t : Setting) (number w v u : ℕ) (h h' : Hart) (sh : Shared) (own : Memory) (reserved : Reservations) → mine w ≡ true → Has mine sh.control own → v ≡ u
    → step t number h sh ≡ Goes h' (record sh { control = put sh.control w v; reserved = reserved }) → GoesWithin mine (step t number h sh) h' sh (put own w u)
within_put mine t number w v u h h' sh own reserved is has same e = record {
  control = put sh.control w v;
  reserved = reserved;
  goes = e;
  has = λ j o. ap (λ x. put sh.control w x j) same ∙ ap (λ y. if j == w then u else y) (has j o);
  keeps = λ j others. other_word sh.control w v j (λ f. let x : false ≡ true = sym others ∙ ap mine f ∙ is in cc);
}

still : (g : Meeting) (first h : Hart) (r v : ℕ) → Keeps g first h → r ≢ 5 → r ≢ 6 → first.registers r ≡ v → h.registers r ≡ v
still g first h r v k a b e = k.others r a b ∙ e

-- ---- the turns

coming_turn : (g : Meeting) (image : Image) (mine : Words) (k w n d : ℕ) (t : Setting) (first : Hart) (m : Member) (own : Memory)
    → IsInPhase g image k n first t m.number (Coming (suc d)) m.hart → Turn g image mine k w n first t (Coming (suc d)) m own
coming_turn g image mine k w n d t first m own s =
    let run = s.1.1 in
    let one = run.1 in
    let parity = s.0 in
    record {
      hart = run.0;
      words = own;
      phase = Coming d;
      stays = record {
        live = one.live;
        counted = one.counted;
        goes = λ sh has. let does = one.goes sh in within_none mine t m.number m.hart run.0 sh own does.0 has does.1;
      };
      arrivals = refl;
      others = λ j ne. refl;
      moves = refl;
      continues = (omega arith, (s.1.0, run.2, s.1.2));
    }

arriving_turn : (g : Meeting) (image : Image) (bound : ℕ → ℕ) (mine : Words) (k w n : ℕ) (t : Setting) (first : Hart) (m : Member) (own : Memory) → HasMeeting g image bound k → mine w ≡ true → Holds image t
    → IsReadyToMeet g w n first → IsArriving g image k n first m.hart → t.finished % 2 ≡ 0 → Turn g image mine k w n first t (Coming 0) m own
arriving_turn g image bound mine k w n t first m own has is holds r a even =
    let i = at_addition g image bound k has.lines in
    let lt = i.within in
    let wide = r.within in
    let pc = a.at in
    let h = m.hart in
    let word : h.registers g.arrivals ≡ 0x18000000 + 4 * w = still g first h g.arrivals _ a.keeps has.fits.arrivals_t0 has.fits.arrivals_t1 r.arrivals in
    record {
      hart = h';
      words = put own w (word_sum (own w) 1);
      phase = Waiting;
      stays = record {
        live = a.keeps.live ∙ r.live;
        counted = counted_at image h (k + 6) 0 pc i.counted;
        goes = λ sh holds_own. within_put mine t m.number w _ _ h h' sh own _ is holds_own
            (ap (word_sum (sh.control w)) a.one ∙ ap (λ v. word_sum v 1) (holds_own w is)) (goes sh);
      };
      arrivals = same_word own w (word_sum (own w) 1);
      others = λ j ne. other_word own w (word_sum (own w) 1) j ne;
      moves = refl;
      continues = (keeps_zero, inl (omega arith, omega arith));
    }
  where
    h' : Hart
    h' = goes_to m.hart (word_sum m.hart.pc 4)

    keeps_zero : Keeps g first h'
    keeps_zero = keeps_pc g first m.hart _ a.keeps

    goes : (sh : Shared) → step t m.number m.hart sh
        ≡ Goes h' (record sh { control = put sh.control w (word_sum (sh.control w) (m.hart.registers t1)); reserved = cleared sh.reserved (m.hart.registers g.arrivals) })
    goes sh =
        let i = at_addition g image bound k has.lines in
        let wide = r.within in
        let word : m.hart.registers g.arrivals ≡ 0x18000000 + 4 * w = still g first m.hart g.arrivals _ a.keeps has.fits.arrivals_t0 has.fits.arrivals_t1 r.arrivals in
        step_at image (k + 6) 0 (AmoAddW 0 g.arrivals 6 false false) i t holds m.number m.hart sh a.at
        ∙ amoadd-control t m.number 0 g.arrivals 6 w m.hart sh (omega arith) (place_of-control _ w wide word)

loading_turn : (g : Meeting) (image : Image) (bound : ℕ → ℕ) (mine : Words) (k w n : ℕ) (t : Setting) (first : Hart) (m : Member) (own : Memory) → HasMeeting g image bound k → mine w ≡ true → Holds image t
    → IsReadyToMeet g w n first → Keeps g first m.hart → t.finished % 2 ≡ 1 → m.hart.pc ≡ 4 * (k + 7) → (own w ≡ n) ⊎ (own w ≢ n) → Turn g image mine k w n first t Waiting m own
loading_turn g image bound mine k w n t first m own has is holds r keeps odd pc full = turned full
  where
    h' : Hart
    h' = writes m.hart 5 (own w)

    stays : Stays image mine t 0 m own h' own
    stays = record {
      live = keeps.live ∙ r.live;
      counted = counted_at image m.hart (k + 7) 0 pc (at_load g image bound k has.lines).counted;
      goes = λ sh holds_own.
          let i = at_load g image bound k has.lines in
          let wide = r.within in
          let word : m.hart.registers g.arrivals ≡ 0x18000000 + 4 * w = still g first m.hart g.arrivals _ keeps has.fits.arrivals_t0 has.fits.arrivals_t1 r.arrivals in
          within_none mine t m.number m.hart h' sh own sh.reserved holds_own
          (step_at image (k + 7) 0 (Lw t0 g.arrivals 0) i t holds m.number m.hart sh pc
          ∙ lw-control t m.number 5 g.arrivals 0 w m.hart sh (omega arith) (place_of-control _ w wide (omega arith))
          ∙ ap (λ v. Goes (writes m.hart 5 v) sh) (holds_own w is));
    }

    turned : (own w ≡ n) ⊎ (own w ≢ n) → Turn g image mine k w n first t Waiting m own
    turned (inl all) =
        let lt = (at_load g image bound k has.lines).within in
        record {
          hart = h';
          words = own;
          phase = Leaving 1;
          stays = stays;
          arrivals = refl;
          others = λ j ne. refl;
          moves = sym (rw (odd, eq-eqb (own w) n all) refl);
          continues = (keeps_t0 g first m.hart _ keeps, omega arith, omega arith, all);
        }
    turned (inr few) =
        let lt = (at_load g image bound k has.lines).within in
        record {
          hart = h';
          words = own;
          phase = Waiting;
          stays = stays;
          arrivals = refl;
          others = λ j ne. refl;
          moves = sym (rw (odd, ne_eqb (own w) n few) refl);
          continues = (keeps_t0 g first m.hart _ keeps, inr (omega arith, omega arith, few));
        }

looping_turn : (g : Meeting) (image : Image) (bound : ℕ → ℕ) (mine : Words) (k w n : ℕ) (t : Setting) (first : Hart) (m : Member) (own : Memory) → HasMeeting g image bound k → Holds image t
    → IsReadyToMeet g w n first → Keeps g first m.hart → t.finished % 2 ≡ 0 → m.hart.pc ≡ 4 * (k + 8) → m.hart.registers t0 ≢ n → Turn g image mine k w n first t Waiting m own
looping_turn g image bound mine k w n t first m own has holds r keeps even pc few =
    let i = at_branch g image bound k has.lines in
    let lt = i.within in
    let h = m.hart in
    let size : h.registers g.size ≡ n = still g first h g.size _ keeps has.fits.size_t0 has.fits.size_t1 r.size in
    let h' = goes_to h (word_sum h.pc (2 ^ 32 - 4)) in
    record {
      hart = h';
      words = own;
      phase = Waiting;
      stays = record {
        live = keeps.live ∙ r.live;
        counted = counted_at image h (k + 8) 0 pc i.counted;
        goes = λ sh holds_own. within_none mine t m.number h h' sh own sh.reserved holds_own
            (step_at image (k + 8) 0 (Bne t0 g.size (2 ^ 32 - 4)) i t holds m.number h sh pc
            ∙ bne-taken t m.number 5 g.size (2 ^ 32 - 4) h sh (ne_eqb _ _ (λ e. few (e ∙ size))) (omega arith));
      };
      arrivals = refl;
      others = λ j ne. refl;
      moves = sym (rw even refl);
      continues = (keeps_pc g first h _ keeps, inl (omega arith, omega arith));
    }

passing_turn : (g : Meeting) (image : Image) (bound : ℕ → ℕ) (mine : Words) (k w n : ℕ) (t : Setting) (first : Hart) (m : Member) (own : Memory) → HasMeeting g image bound k → Holds image t
    → IsReadyToMeet g w n first → Keeps g first m.hart → t.finished % 2 ≡ 0 → m.hart.pc ≡ 4 * (k + 8) → m.hart.registers t0 ≡ n → Turn g image mine k w n first t (Leaving 1) m own
passing_turn g image bound mine k w n t first m own has holds r keeps even pc all =
    let i = at_branch g image bound k has.lines in
    let lt = i.within in
    let h = m.hart in
    let size : h.registers g.size ≡ n = still g first h g.size _ keeps has.fits.size_t0 has.fits.size_t1 r.size in
    record {
      hart = moves h;
      words = own;
      phase = Leaving 0;
      stays = record {
        live = keeps.live ∙ r.live;
        counted = counted_at image h (k + 8) 0 pc i.counted;
        goes = λ sh holds_own. within_none mine t m.number h (moves h) sh own sh.reserved holds_own
            (step_at image (k + 8) 0 (Bne t0 g.size (2 ^ 32 - 4)) i t holds m.number h sh pc ∙ bne-passed t m.number 5 g.size (2 ^ 32 - 4) h sh (all ∙ sym size));
      };
      arrivals = refl;
      others = λ j ne. refl;
      moves = refl;
      continues = (keeps_pc g first h _ keeps, omega arith, omega arith);
    }

leaving_turn : (g : Meeting) (image : Image) (bound : ℕ → ℕ) (mine : Words) (k w n : ℕ) (t : Setting) (first : Hart) (m : Member) (own : Memory) → HasMeeting g image bound k → mine w ≡ true → Holds image t
    → IsReadyToMeet g w n first → Keeps g first m.hart → m.hart.pc ≡ 4 * (k + 9) → Turn g image mine k w n first t (Leaving 0) m own
leaving_turn g image bound mine k w n t first m own has is holds r keeps pc =
    let i = at_leaving g image bound k has.lines in
    let lt = i.within in
    let wide = r.within in
    let h = m.hart in
    let c = count_of_leaving g.leaving in
    let word : h.registers g.arrivals ≡ 0x18000000 + 4 * w = still g first h g.arrivals _ keeps has.fits.arrivals_t0 has.fits.arrivals_t1 r.arrivals in
    record {
      hart = moves h;
      words = put own w 0;
      phase = Away;
      stays = record {
        live = keeps.live ∙ r.live;
        counted = counted_at image h (k + 9) c pc i.counted;
        goes = λ sh holds_own. within_put mine t m.number w _ 0 h (moves h) sh own _ is holds_own
            (still g first h 0 _ keeps (omega arith) (omega arith) r.nought)
            (step_at image (k + 9) c (Sw g.arrivals 0 0) i t holds m.number h sh pc
            ∙ sw-control t m.number g.arrivals 0 0 w h sh (omega arith) (place_of-control _ w wide (omega arith)));
      };
      arrivals = same_word own w 0;
      others = λ j ne. other_word own w 0 j ne;
      moves = tt;
      continues = (refl, record { at = omega arith; keeps = keeps_pc g first h _ keeps });
    }

waiting_turn : (g : Meeting) (image : Image) (bound : ℕ → ℕ) (mine : Words) (k w n : ℕ) (t : Setting) (first : Hart) (m : Member) (own : Memory) → HasMeeting g image bound k → mine w ≡ true → Holds image t
    → IsReadyToMeet g w n first → Keeps g first m.hart
    → (((t.finished % 2 ≡ 1) × (m.hart.pc ≡ 4 * (k + 7))) ⊎ ((t.finished % 2 ≡ 0) × (m.hart.pc ≡ 4 * (k + 8)) × (m.hart.registers t0 ≢ n)))
    → Turn g image mine k w n first t Waiting m own
waiting_turn g image bound mine k w n t first m own has is holds r keeps (inl (odd, pc)) =
    loading_turn g image bound mine k w n t first m own has is holds r keeps odd pc (cases_eq (own w) n)
waiting_turn g image bound mine k w n t first m own has is holds r keeps (inr (even, pc, few)) =
    looping_turn g image bound mine k w n t first m own has holds r keeps even pc few

pub harts_move : HartsMove
harts_move g image bound mine k w n t first Outside m own has is holds r s = absurd s
harts_move g image bound mine k w n t first Away m own has is holds r s = absurd s
harts_move g image bound mine k w n t first (Coming zero) m own has is holds r s =
    let a = subst (IsArriving g image k n first) (sym s.1.1) s.1.2 in
    arriving_turn g image bound mine k w n t first m own has is holds r a (omega (arith, s.0))
harts_move g image bound mine k w n t first (Coming (suc d)) m own has is holds r s = coming_turn g image mine k w n d t first m own s
harts_move g image bound mine k w n t first Waiting m own has is holds r s = waiting_turn g image bound mine k w n t first m own has is holds r s.0 s.1
harts_move g image bound mine k w n t first (Leaving zero) m own has is holds r s = leaving_turn g image bound mine k w n t first m own has is holds r s.0 s.2
harts_move g image bound mine k w n t first (Leaving (suc zero)) m own has is holds r s = passing_turn g image bound mine k w n t first m own has holds r s.0 s.1 s.2 s.3
harts_move g image bound mine k w n t first (Leaving (suc (suc d))) m own has is holds r s = absurd s
