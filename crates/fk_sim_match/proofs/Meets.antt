-- The assumptions on those who meet, met by two harts at one word: each adds 1 to it in an even cycle, polls it in odd ones till
-- it finds 2 there, and commits by the store of 0, or unites with the other by it. Then it commits in each cycle, by a jump to itself.
use Rattle.std.proofs.Common.{◌≡◌, ◌≢◌, ℕ, zero, suc, ◌*◌, ◌/◌, ◌%◌, ◌<◌, ◌^◌, List, [], ◌∷◌, length, Option, Some, None, Bool, true, false, sym, ap, subst, ◌∙◌, refl, arith, ◌⊎◌, inl, inr, eq-eqb}
use Rattle.std.proofs.lemmas.Bool.{cases_eq, ne_eqb, eqb-true}
use Rattle.std.specs.Prelude.{◌==◌, if◌then◌else◌}
use Rattle.fk_num.specs.Word.{Memory, put, word_sum}
use Rattle.fk_image.specs.declared.Image.{Image}
use Rattle.fk_isa.specs.declared.instruction.Instruction.TheVariants.{AmoAddW, Lw, Bne, Sw, Jal}
use Rattle.fk_machine.specs.declared.place.Location.TheVariants.{ControlWord}
use Rattle.fk_machine.specs.Place.{place_of}
use Rattle.fk_machine.specs.Hart.{Hart, Shared, Setting, Reservations, Goes}
use Rattle.fk_machine.specs.Reach.{cleared}
use Rattle.fk_machine.specs.Step.{perform, step}
use Rattle.fk_machine.specs.Run.{count_in}
use Rattle.fk_machine.proofs.Places.{place_of-control}
use Rattle.fk_machine.proofs.Performs.{writes, moves, lw-control, sw-control}
use Rattle.fk_sim_nodes.specs.Node.{Member, Words, Has, numbered, of_node}
use Rattle.fk_sim_nodes.specs.Alone.{Holds, IsAt, GoesWithin, Stays, RunsPrivately, later, in_cycles}
use Rattle.fk_sim_nodes.specs.OneHart.{OneCommits, OneDoes}
use Rattle.fk_sim_nodes.proofs.InPlace.{step_at, amoadd-control}
use Rattle.fk_sim_nodes.specs.Phase.{Phase, Away, Coming, Waiting, Leaving, Settled}
use Rattle.fk_sim_match.specs.Stage.{Ending, Commits, Unites, Stage, Ended, Acts, Meets, count_of_stage, kept}
use Rattle.fk_sim_nodes.specs.Source.{Passes}
use Rattle.fk_sim_match.specs.Plan.{Plan, Blocks, phases, IsInside, IsOpen, HasLeft, StandsAt, AllStandAt, IsBound, Turn, JointBlocksTurn}
use Rattle.fk_sim_match.specs.Cycle.{Went, AllAreLeft, IsLeft}
use Rattle.fk_sim_match.specs.Change.{StaysMember, Changes, TreeChanges, GoesOn}
use Rattle.fk_sim_match.proofs.Changes.{plan_goes_on}
use Rattle.fk_sim_match.proofs.Example.{Stored, counting, lengths}

-- the store of 0 counts as the meeting ends
record HasLines (ending : Ending) (image : Image) : Type 0 where
  at0 : IsAt image 0 (AmoAddW 0 7 6 false false) 0
  at1 : IsAt image 1 (Lw 5 7 0) 0
  at2 : IsAt image 2 (Bne 5 28 0xfffffffc) 0
  at3 : IsAt image 3 (Sw 7 0 0) (count_of_stage (Meets ending 0 (Leaving 0)))
  at4 : IsAt image 4 (Jal 0 0) 1

record IsReady (h : Hart) : Type 0 where
  live : h.ended ≡ false
  address : h.registers 7 ≡ 0x18000000
  one : h.registers 6 ≡ 1
  two : h.registers 28 ≡ 2
  nought : h.registers 0 ≡ 0

-- by its phase
abbrev InPhase : (t : ℕ) → Phase → Hart → Type 0
InPhase t (Coming zero) h = (t % 2 ≡ 0) × (h.pc ≡ 0)
InPhase t Waiting h = ((t % 2 ≡ 1) × (h.pc ≡ 4)) ⊎ ((t % 2 ≡ 0) × (h.pc ≡ 8) × (h.registers 5 ≢ 2))
InPhase t (Leaving zero) h = (t % 2 ≡ 1) × (h.pc ≡ 12)
InPhase t (Leaving (suc zero)) h = (t % 2 ≡ 0) × (h.pc ≡ 8) × (h.registers 5 ≡ 2)
InPhase t f h = ⊥

abbrev IsLooping : Hart → Type 0
IsLooping h = (h.ended ≡ false) × (h.pc ≡ 16)

abbrev blocks_of : Ending → Image → Blocks ℕ ℕ
blocks_of ending image = record {
  lead = 1;
  idle = λ p. p;
  AfterAll = λ t g ms ds own. ⊥;
  AfterOne = λ g behind m p d. IsLooping m.hart;
  StandsIn = λ g t e w f m p. (e ≡ ending) × Holds image t × IsReady m.hart × InPhase t.finished f m.hart;
  Joins = λ t g m p. IsLooping m.hart;
}

abbrev is_first : ℕ → ℕ → Bool
is_first zero w = w == 0
is_first (suc g) w = false

-- both stand in node 0, whose arrival word is word 0
abbrev meeting : Plan
meeting = record {
  nodes = 0 ∷ 0 ∷ [];
  words = is_first;
  in_lockstep = λ g. false;
  arrivals = λ w. w == 0;
  size = λ w. 2;
  member = λ w number. true;
}

-- ---- instructions

at_word : (h : Hart) → IsReady h → place_of (h.registers 7) ≡ ControlWord 0
at_word h r = ap place_of r.address ∙ place_of-control 0x18000000 0 (omega arith) refl

at_sum : (h : Hart) → IsReady h → word_sum (h.registers 7) 0 ≡ 0x18000000
at_sum h r = ap (λ a. word_sum a 0) r.address

at_sum_word : (h : Hart) → IsReady h → place_of (word_sum (h.registers 7) 0) ≡ ControlWord 0
at_sum_word h r = ap place_of (at_sum h r) ∙ place_of-control 0x18000000 0 (omega arith) refl

bne_taken : (t : Setting) (number : ℕ) (h : Hart) (s : Shared) → (h.registers 5 == h.registers 28) ≡ false → word_sum h.pc 0xfffffffc % 4 ≡ 0
    → perform t number (Bne 5 28 0xfffffffc) h s ≡ Goes (record h { pc = word_sum h.pc 0xfffffffc }) s
bne_taken t number h s e a = let aligned = eq-eqb _ 0 a in rw (e, aligned)

bne_passed : (t : Setting) (number : ℕ) (h : Hart) (s : Shared) → h.registers 5 ≡ h.registers 28 → perform t number (Bne 5 28 0xfffffffc) h s ≡ Goes (moves h) s
bne_passed t number h s e = let same = eq-eqb _ _ e in rw same

jumps_back : (t : Setting) (number : ℕ) (h : Hart) (s : Shared) → word_sum h.pc 0 % 4 ≡ 0 → perform t number (Jal 0 0) h s ≡ Goes (record h { pc = word_sum h.pc 0 }) s
jumps_back t number h s a = let aligned = eq-eqb _ 0 a in rw aligned

-- one word of the node is changed
put_within : (mine : Words) (t : Setting) (number v u : ℕ) (h h' : Hart) (sh : Shared) (own : Memory) (reserved : Reservations) → mine 0 ≡ true → Has mine sh.control own → v ≡ u
    → step t number h sh ≡ Goes h' (record sh { control = put sh.control 0 v; reserved = reserved }) → GoesWithin mine (step t number h sh) h' sh (put own 0 u)
put_within mine t number v u h h' sh own reserved is has same e = record {
  control = put sh.control 0 v;
  reserved = reserved;
  goes = e;
  has = λ i o. ap (λ x. put sh.control 0 x i) same ∙ ap (λ y. if i == 0 then u else y) (has i o);
  keeps = λ i off. rw (ne_eqb i 0 (λ f. let x : false ≡ true = sym off ∙ ap mine f ∙ is in cc)) refl;
}

same_within : (mine : Words) (t : Setting) (number : ℕ) (h h' : Hart) (sh : Shared) (own : Memory) → Has mine sh.control own → step t number h sh ≡ Goes h' sh
    → GoesWithin mine (step t number h sh) h' sh own
same_within mine t number h h' sh own has e = record { control = sh.control; reserved = sh.reserved; goes = e; has = has; keeps = λ i off. refl }

ready_moved : (h : Hart) (pc : ℕ) → IsReady h → IsReady (record h { pc = pc })
ready_moved h pc r = record { live = r.live; address = r.address; one = r.one; two = r.two; nought = r.nought }

ready_written : (h : Hart) (v : ℕ) → IsReady h → IsReady (writes h 5 v)
ready_written h v r = record { live = r.live; address = r.address; one = r.one; two = r.two; nought = r.nought }

-- a processor counts its commits
abbrev left_with : Ending → ℕ → ℕ
left_with Commits p = suc p
left_with Unites p = p

-- a cycle before it leaves
none_yet : (ending : Ending) → count_of_stage (Meets ending 0 (Leaving 1)) ≡ 0
none_yet Commits = refl
none_yet Unites = refl

takes_by : (ending : Ending) (s : Stored) (p : ℕ) → counting.part (count_of_stage (Meets ending 0 (Leaving 0))) s p ≡ Passes s (left_with ending p)
takes_by Commits s p = refl
takes_by Unites s p = refl

module _ (ending : Ending) (image : Image) (code : HasLines ending image) where
  abbrev blocks : Blocks ℕ ℕ
  blocks = blocks_of ending image

  counted : (h : Hart) (k c : ℕ) → h.pc ≡ 4 * k → count_in image.commits.items (4 * k) ≡ c → count_in image.commits.items h.pc ≡ c
  counted h k c e at = ap (count_in image.commits.items) e ∙ at

  abbrev TurnAt : Setting → (g : ℕ) → Phase → Member → ℕ → Memory → Type 0
  TurnAt t g f m p own = Turn counting image meeting blocks t g ending 0 f m p own

  arrives : (t : Setting) (g : ℕ) (m : Member) (p : ℕ) (own : Memory) → is_first g 0 ≡ true → Holds image t → IsReady m.hart → InPhase t.finished (Coming zero) m.hart → TurnAt t g (Coming zero) m p own
  arrives t g m p own is holds r at = record {
    hart = moves m.hart;
    words = put own 0 (word_sum (own 0) 1);
    phase = Waiting;
    done = p;
    stays = record {
      live = r.live;
      counted = counted m.hart 0 0 at.1 code.at0.counted;
      goes = λ sh has.
          put_within (is_first g) t m.number (word_sum (sh.control 0) (m.hart.registers 6)) (word_sum (own 0) 1) m.hart (moves m.hart) sh own (cleared sh.reserved (m.hart.registers 7)) is has
          (ap (λ a. word_sum a (m.hart.registers 6)) (has 0 is) ∙ ap (λ b. word_sum (own 0) b) r.one)
          (step_at image 0 0 (AmoAddW 0 7 6 false false) code.at0 t holds m.number m.hart sh at.1
          ∙ amoadd-control t m.number 0 7 6 0 m.hart sh (ap (λ a. a % 4) r.address) (at_word m.hart r));
    };
    arrivals = refl;
    others = λ i ne. rw (ne_eqb i 0 ne) refl;
    moves = refl;
    takes = λ s. refl;
    follows = (refl, (refl, holds, ready_moved m.hart _ r, inl (let e = at.0 in omega arith, ap (λ a. word_sum a 4) at.1)));
  }

  -- what it finds
  abbrev found : Member → Memory → Hart
  found m own = writes m.hart 5 (own 0)

  polls : (t : Setting) (g : ℕ) (m : Member) (own : Memory) → is_first g 0 ≡ true → Holds image t → IsReady m.hart → m.hart.pc ≡ 4 → Stays image (is_first g) t 0 m own (found m own) own
  polls t g m own is holds r at = record {
    live = r.live;
    counted = counted m.hart 1 0 at code.at1.counted;
    goes = λ sh has.
        same_within (is_first g) t m.number m.hart (found m own) sh own has
        (step_at image 1 0 (Lw 5 7 0) code.at1 t holds m.number m.hart sh at
        ∙ lw-control t m.number 5 7 0 0 m.hart sh (ap (λ a. a % 4) (at_sum m.hart r)) (at_sum_word m.hart r)
        ∙ ap (λ v. Goes (writes m.hart 5 v) sh) (has 0 is));
  }

  polled_now : (t : Setting) (g : ℕ) (m : Member) (p : ℕ) (own : Memory) → is_first g 0 ≡ true → Holds image t → IsReady m.hart → t.finished % 2 ≡ 1 → m.hart.pc ≡ 4
      → ((own 0 ≡ 2) ⊎ (own 0 ≢ 2)) → TurnAt t g Waiting m p own
  polled_now t g m p own is holds r odd at (inl e) = record {
    hart = found m own;
    words = own;
    phase = Leaving 1;
    done = p;
    stays = polls t g m own is holds r at;
    arrivals = refl;
    others = λ i ne. refl;
    moves = rw (odd, eq-eqb (own 0) 2 e) refl;
    takes = λ s. refl;
    follows = (refl, (refl, holds, ready_written m.hart (own 0) r, (omega arith, ap (λ a. word_sum a 4) at, e)));
  }
  polled_now t g m p own is holds r odd at (inr ne) = record {
    hart = found m own;
    words = own;
    phase = Waiting;
    done = p;
    stays = polls t g m own is holds r at;
    arrivals = refl;
    others = λ i ne'. refl;
    moves = rw (odd, ne_eqb (own 0) 2 ne) refl;
    takes = λ s. refl;
    follows = (refl, (refl, holds, ready_written m.hart (own 0) r, inr (omega arith, ap (λ a. word_sum a 4) at, ne)));
  }

  tries_again : (t : Setting) (g : ℕ) (m : Member) (p : ℕ) (own : Memory) → Holds image t → IsReady m.hart → t.finished % 2 ≡ 0 → m.hart.pc ≡ 8 → m.hart.registers 5 ≢ 2 → TurnAt t g Waiting m p own
  tries_again t g m p own holds r even at ne =
      let target : word_sum m.hart.pc 0xfffffffc ≡ 4 = ap (λ a. word_sum a 0xfffffffc) at in
      let differ : (m.hart.registers 5 == m.hart.registers 28) ≡ false = ne_eqb _ _ (λ e. ne (e ∙ r.two)) in
      record {
        hart = record m.hart { pc = word_sum m.hart.pc 0xfffffffc };
        words = own;
        phase = Waiting;
        done = p;
        stays = record {
          live = r.live;
          counted = counted m.hart 2 0 at code.at2.counted;
          goes = λ sh has.
              same_within (is_first g) t m.number m.hart (record m.hart { pc = word_sum m.hart.pc 0xfffffffc }) sh own has
              (step_at image 2 0 (Bne 5 28 0xfffffffc) code.at2 t holds m.number m.hart sh at ∙ bne_taken t m.number m.hart sh differ (ap (λ a. a % 4) target));
        };
        arrivals = refl;
        others = λ i ne'. refl;
        moves = rw even refl;
        takes = λ s. refl;
        follows = (refl, (refl, holds, ready_moved m.hart _ r, inl (omega arith, target)));
      }

  sees_all : (t : Setting) (g : ℕ) (m : Member) (p : ℕ) (own : Memory) → Holds image t → IsReady m.hart → InPhase t.finished (Leaving 1) m.hart → TurnAt t g (Leaving 1) m p own
  sees_all t g m p own holds r at = record {
    hart = moves m.hart;
    words = own;
    phase = Leaving 0;
    done = p;
    stays = record {
      live = r.live;
      counted = counted m.hart 2 0 at.1 code.at2.counted ∙ sym (none_yet ending);
      goes = λ sh has.
          same_within (is_first g) t m.number m.hart (moves m.hart) sh own has
          (step_at image 2 0 (Bne 5 28 0xfffffffc) code.at2 t holds m.number m.hart sh at.1 ∙ bne_passed t m.number m.hart sh (at.2 ∙ sym r.two));
    };
    arrivals = refl;
    others = λ i ne. refl;
    moves = refl;
    takes = λ s. ap (λ c. counting.part c s p) (none_yet ending);
    follows = (refl, (refl, holds, ready_moved m.hart _ r, (let e = at.0 in omega arith, ap (λ a. word_sum a 4) at.1)));
  }

  left_by : (ending' : Ending) (t : Setting) (g : ℕ) (m : Member) (p : ℕ) (h : Hart) → IsLooping h → HasLeft counting image meeting blocks ending' t g (record m { hart = h }) p (left_with ending' p)
  left_by Commits t g m p h at = (0, h, refl, at)
  left_by Unites t g m p h at = (refl, at)

  leaves : (t : Setting) (g : ℕ) (m : Member) (p : ℕ) (own : Memory) → is_first g 0 ≡ true → Holds image t → IsReady m.hart → InPhase t.finished (Leaving 0) m.hart → TurnAt t g (Leaving 0) m p own
  leaves t g m p own is holds r at = record {
    hart = moves m.hart;
    words = put own 0 0;
    phase = Away;
    done = left_with ending p;
    stays = record {
      live = r.live;
      counted = counted m.hart 3 (count_of_stage (Meets ending 0 (Leaving 0))) at.1 code.at3.counted;
      goes = λ sh has.
          put_within (is_first g) t m.number (m.hart.registers 0) 0 m.hart (moves m.hart) sh own (cleared sh.reserved (word_sum (m.hart.registers 7) 0 / 4 * 4)) is has r.nought
          (step_at image 3 (count_of_stage (Meets ending 0 (Leaving 0))) (Sw 7 0 0) code.at3 t holds m.number m.hart sh at.1
          ∙ sw-control t m.number 7 0 0 0 m.hart sh (ap (λ a. a % 4) (at_sum m.hart r)) (at_sum_word m.hart r));
    };
    arrivals = refl;
    others = λ i ne. rw (ne_eqb i 0 ne) refl;
    moves = tt;
    takes = λ s. takes_by ending s p;
    follows = (refl, left_by ending (later t) g m p (moves m.hart) (r.live, ap (λ a. word_sum a 4) at.1));
  }

  turn_at : (t : Setting) (g : ℕ) (f : Phase) (m : Member) (p : ℕ) (own : Memory) → IsInside f → is_first g 0 ≡ true → Holds image t → IsReady m.hart → InPhase t.finished f m.hart → TurnAt t g f m p own
  turn_at t g (Coming zero) m p own inside is holds r at = arrives t g m p own is holds r at
  turn_at t g Waiting m p own inside is holds r (inl (odd, at)) = polled_now t g m p own is holds r odd at (cases_eq (own 0) 2)
  turn_at t g Waiting m p own inside is holds r (inr (even, at, ne)) = tries_again t g m p own holds r even at ne
  turn_at t g (Leaving zero) m p own inside is holds r at = leaves t g m p own is holds r at
  turn_at t g (Leaving (suc zero)) m p own inside is holds r at = sees_all t g m p own holds r at
  turn_at t g f m p own inside is holds r at = absurd (assumption (inside, at))

  turns : JointBlocksTurn counting image meeting blocks
  turns t g end w f m p own inside is_open stands =
      let e : w ≡ 0 = eqb-true w 0 is_open.1 in
      subst (λ x. Turn counting image meeting blocks t g x w f m p own) (sym stands.0)
      (subst (λ k. Turn counting image meeting blocks t g ending k f m p own) (sym e)
      (turn_at t g f m p own inside (subst (λ k. is_first g k ≡ true) e is_open.0) stands.1 stands.2 stands.3))

  -- ---- who has left commits in each cycle

  loops : (t : Setting) (number p : ℕ) (h : Hart) (Then : Hart → ℕ → Type 0) → Holds image t → IsLooping h → ((h' : Hart) → IsLooping h' → Then h' (suc p))
      → OneCommits counting image t 1 (record { number = number; hart = h }) p Then
  loops t number p h Then holds at follow =
      let target : word_sum h.pc 0 ≡ 16 = ap (λ a. word_sum a 0) at.1 in
      record {
        live = at.0;
        counted = counted h 4 1 at.1 code.at4.counted;
        does = λ s. inl (record {
          hart = record h { pc = word_sum h.pc 0 };
          store = s;
          done = suc p;
          part = refl;
          goes = λ earlier sh shows.
              (sh, step_at image 4 1 (Jal 0 0) code.at4 t holds number h sh at.1 ∙ jumps_back t number h sh (ap (λ a. a % 4) target), shows, λ i e. refl);
          follows = follow (record h { pc = word_sum h.pc 0 }) (at.0, target);
        });
      }

  holds_in : (n : ℕ) (t : Setting) → Holds image t → Holds image (in_cycles n t)
  holds_in zero t holds = holds
  holds_in (suc n) t holds = holds_in n (later t) holds

  loops_after : (t : Setting) (m : Member) (p n : ℕ) (h : Hart) → Holds image t → RunsPrivately image t m.number n m.hart h → IsLooping h → OneDoes counting image t 1 n 0 m p (λ h' d. IsLooping h')
  loops_after t m p n h holds runs at = record {
    committing = h;
    runs = runs;
    commits = loops (in_cycles n t) m.number p h (λ h' d. (h2 : Hart) × RunsPrivately image (later (in_cycles n t)) m.number 0 h' h2 × IsLooping h2) (holds_in n t holds) at
        (λ h' looping. (h', refl, looping));
  }

  -- ---- both of them

  meets_at : (t : Setting) (p q : ℕ) (h k : Hart) (g : ℕ) → Holds image t → t.finished % 2 ≡ 0 → IsReady h → IsReady k → h.pc ≡ 0 → k.pc ≡ 0
      → AllStandAt counting image meeting blocks t g (of_node g meeting.nodes (Meets ending 0 (Coming 0) ∷ Meets ending 0 (Coming 0) ∷ [])) (of_node g meeting.nodes (numbered 0 (h ∷ k ∷ []))) (of_node g meeting.nodes (p ∷ q ∷ []))
  meets_at t p q h k zero holds even a b c d = ((tt, (refl, refl), refl, (refl, holds, a, (even, c))), ((tt, (refl, refl), refl, (refl, holds, b, (even, d))), tt))
  meets_at t p q h k (suc g) holds even a b c d = rw (ne_eqb 0 (suc g) (λ e. omega arith)) tt

  none_there : {A : Type 0} (g w : ℕ) → IsOpen meeting (suc g) w → A
  none_there g w is_open = absurd (let e = is_open.0 in cc)

  settled_at : (t : Setting) (g w : ℕ) (own : Memory) → t.finished % 2 ≡ 0 → own 0 ≡ 0 → IsOpen meeting g w
      → Settled t.finished 2 (own w) (phases meeting g w (kept (Meets ending 0 (Coming 0) ∷ Meets ending 0 (Coming 0) ∷ [])))
  settled_at t zero w own even empty is_open =
      let e : w ≡ 0 = eqb-true w 0 is_open.1 in
      let fs = phases meeting 0 0 (kept (Meets ending 0 (Coming 0) ∷ Meets ending 0 (Coming 0) ∷ [])) in
      let here : Settled t.finished 2 0 fs = record { size = refl; count = refl; in_step = (omega arith, (omega arith, tt)); together = inl (tt, (tt, tt)) } in
      subst (λ v. Settled t.finished 2 (own v) (phases meeting 0 v (kept (Meets ending 0 (Coming 0) ∷ Meets ending 0 (Coming 0) ∷ [])))) (sym e)
      (subst (λ v. Settled t.finished 2 v fs) (sym empty) here)
  settled_at t (suc g) w own even empty is_open = none_there g w is_open

  meets_bound : (t : Setting) (p q : ℕ) (h k : Hart) (own : ℕ → Memory) → Holds image t → t.finished % 2 ≡ 0 → IsReady h → IsReady k → h.pc ≡ 0 → k.pc ≡ 0
      → ((g : ℕ) → own g 0 ≡ 0) → IsBound counting image meeting blocks t (Meets ending 0 (Coming 0) ∷ Meets ending 0 (Coming 0) ∷ []) (h ∷ k ∷ []) (p ∷ q ∷ []) own
  meets_bound t p q h k own holds even a b c d empty = record {
    as_many = tt;
    stages_as_many = tt;
    binds = λ g. meets_at t p q h k g holds even a b c d;
    counts = λ g w alone is_open. settled_at t g w (own g) even (empty g) is_open;
  }

  -- ---- they go on

  next_stage : (t : Setting) (a : Option Stage) (m : Member) (p d : ℕ) → Went counting image meeting blocks t 0 a m p d → Stage
  next_stage t (Some s) m p d went = s
  next_stage t None m p d (inl went) = Acts went.0 0
  next_stage t None m p d (inr went) = Acts 0 0

  still_member : (t : Setting) (s : Stage) (m : Member) (p : ℕ) → StandsAt counting image meeting blocks t 0 s m p → StaysMember meeting 0 m.number s
  still_member t Ended m p stands = tt
  still_member t (Acts d inner) m p stands = tt
  still_member t (Meets e w f) m p stands = (stands.1, stands.2)

  one_changes : (t : Setting) (a : Option Stage) (m : Member) (p d : ℕ) → Holds image t → (went : Went counting image meeting blocks t 0 a m p d)
      → Changes counting image meeting blocks meeting blocks t m 0 0 a (next_stage t a m p d went) p d
  unfolding next_stage
  one_changes t (Some s) m p d holds went =
      (refl, refl, went.0, still_member t s m p went.1, λ e. record { alone = refl; after = λ behind m p d x. x; stands = λ t e w f m p is_open x. x })
  one_changes t None m p d holds (inl went) = (tt, λ e. (0, loops_after t m d went.0 went.1 holds went.2 went.3))
  one_changes t None m p d holds (inr went) = (tt, λ e. (0, loops_after t m d 0 m.hart holds refl went.1))

  both_change : (t : Setting) (hs : List Hart) (afters : List (Option Stage)) (ps ds : List ℕ) (control : Memory) → Holds image t → length hs ≡ 2 → length afters ≡ 2 → length ps ≡ 2 → length ds ≡ 2
      → AllAreLeft counting image meeting blocks (later t) 0 (of_node 0 meeting.nodes afters) (of_node 0 meeting.nodes (numbered 0 hs)) (of_node 0 meeting.nodes ps) (of_node 0 meeting.nodes ds)
      → (stages' : List Stage) × TreeChanges counting image meeting blocks meeting blocks t hs afters stages' ps ds control
  both_change t (h ∷ k ∷ []) (a ∷ b ∷ []) (p ∷ q ∷ []) (d ∷ e ∷ []) control holds l0 l1 l2 l3 left =
      let m : Member = record { number = 0; hart = h } in
      let n : Member = record { number = 1; hart = k } in (
        next_stage (later t) a m p d left.0 ∷ next_stage (later t) b n q e left.1.0 ∷ [],
        record {
          as_many = tt;
          stages_as_many = tt;
          harts = (one_changes (later t) a m p d holds left.0, (one_changes (later t) b n q e holds left.1.0, tt));
          groups = λ g e. absurd (cc);
          meetings = λ g w alone is_open. inl (record { alone = refl; was = is_open; size = refl; same = λ number. refl });
        },
      )
  both_change t hs afters ps ds control holds l0 l1 l2 l3 left = absurd (omega arith)

  -- wherever they stand, they are bound again after a cycle
  meets_go_on : (t : Setting) (stages : List Stage) (hs hs' : List Hart) (ps ds : List ℕ) (own own' : ℕ → Memory) (control : Memory) → Holds image t
      → IsBound counting image meeting blocks t stages hs ps own → IsLeft counting image meeting blocks t stages hs' ps ds own own' → ((g : ℕ) → Has (meeting.words g) control (own' g))
      → (stages' : List Stage) × GoesOn counting image meeting blocks meeting blocks t stages stages' hs' ds own control
  meets_go_on t stages hs hs' ps ds own own' control holds bound left has =
      let many = lengths meeting.nodes hs ps bound.as_many in
      let few : length hs < 2 ^ 31 = let e = many.0 in omega arith in
      let tree = both_change t hs' left.afters ps ds control holds (lengths meeting.nodes hs' ds left.done_as_many).0 (lengths meeting.nodes hs' left.afters left.as_many).1 many.1
      (lengths meeting.nodes hs' ds left.done_as_many).1 (left.nodes 0) in
      (tree.0, plan_goes_on counting image meeting blocks meeting blocks t stages tree.0 hs hs' ps ds ds own own' control few bound left has tree.1)
