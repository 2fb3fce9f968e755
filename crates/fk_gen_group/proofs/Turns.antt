-- All who meet at an arrival word.
use Rattle.std.proofs.Common.{◌≡◌, ◌≢◌, ℕ, zero, suc, ◌+◌, ◌^◌, ◌<◌, ◌≤◌, List, [], ◌∷◌, length, Bool, true, sym, ap, subst, ◌∙◌, arith, refl, ◌⊎◌, inl, inr, ⊎_elim, eq-eqb}
use Rattle.std.specs.Prelude.{◌==◌}
use Rattle.fk_num.specs.Word.{Memory}
use Rattle.fk_image.specs.declared.Image.{Image}
use Rattle.fk_machine.specs.Hart.{Hart, Shared, Setting, Effect, Goes}
use Rattle.fk_machine.specs.Step.{step}
use Rattle.fk_sim_nodes.specs.Node.{Member, Words}
use Rattle.fk_sim_nodes.specs.Alone.{Holds, Stays, NodeCycle, NodeRun, later, in_cycles}
use Rattle.fk_sim_nodes.proofs.Runs.{cycle_map, run_map}
use Rattle.fk_sim_nodes.specs.Phase.{Phase, Outside, Away, Coming, Waiting, Leaving, Moves, AllMove, Each, Leaves, AreTogether, Settled, HasTime, IsNear, IsDue, word_after, Stays as IsStaying}
use Rattle.fk_sim_nodes.specs.Meeting.{IsKept}
use Rattle.fk_sim_nodes.proofs.Leaving.{cycles_keep_arrivals}
use Rattle.fk_gen_group.specs.Meeting.{Meeting, IsInPhase, Continues, HasLeft, count_for, count_of_leaving, lead}
use Rattle.fk_gen_group.specs.Together.{Comer, phases, IsInside, IsInLines, TakesTurn, AllTakeTurns, GoesOn, AllGoOn, AllAreInLines, AllHaveLeft, HaveMet, LeaveAfter, TurnsAreMoves, MembersLeaveTogether, HasCome, MembersLeaveInTen}
use Rattle.fk_gen_group.proofs.Steps.{harts_move}

-- ---- whatever the others do

abbrev same_hart : Effect → Hart → Hart
same_hart (Goes h s) d = h
same_hart e d = d

abbrev same_shared : Effect → Shared → Shared
same_shared (Goes h s) d = s
same_shared e d = d

module _ (g : Meeting) (image : Image) (bound : ℕ → ℕ) (w n : ℕ) where
  -- one turn of somebody who is in the lines, on the whole of what is shared
  record Moved (t : Setting) (f : Phase) (c : Comer) (m : Member) (sh : Shared) (h : Hart) (sh' : Shared) : Type 0 where
    pub phase : Phase
    pub word : sh'.control w ≡ word_after f (sh.control w)
    pub moves : Moves t.finished n lead (sh.control w) f phase
    pub on : Continues g image c.lines n c.first t m.number (sh.control w) f phase h

  moved : (t : Setting) (c : Comer) (m : Member) (sh : Shared) (h : Hart) (sh' : Shared) → Holds image t → IsInLines g image bound w n t c m
      → step t m.number m.hart sh ≡ Goes h sh' → Moved t c.phase c m sh h sh'
  moved t c m sh h sh' holds s goes =
      let own : ℕ → Bool = λ j. j == w in
      let turn = harts_move g image bound own c.lines w n t c.first c.phase m sh.control s.meeting (eq-eqb w w refl) holds s.ready s.stands in
      let within = turn.stays.goes sh (λ j e. refl) in
      let both : Goes turn.hart (record sh { control = within.control; reserved = within.reserved }) ≡ Goes h sh' = sym within.goes ∙ goes in
      let hart : turn.hart ≡ h = ap (λ e. same_hart e h) both in
      let shared : record sh { control = within.control; reserved = within.reserved } ≡ sh' = ap (λ e. same_shared e sh') both in
      record {
        phase = turn.phase;
        word = ap (λ (s : Shared). s.control w) (sym shared) ∙ within.has w (eq-eqb w w refl) ∙ turn.arrivals;
        moves = turn.moves;
        on = subst (λ x. Continues g image c.lines n c.first t m.number (sh.control w) c.phase turn.phase x) hart turn.continues;
      }

  -- that of one is the first move of all
  record MovedAll (t : Setting) (cs : List Comer) (ms : List Member) (hs : List Hart) (v v' : ℕ) : Type 0 where
    pub phases' : List Phase
    pub moves : AllMove t.finished n lead (phases cs) v phases' v'
    pub on : AllGoOn g image bound w n t cs ms phases' hs

  more : (t : Setting) (f : Phase) (c : Comer) (m : Member) (h : Hart) (cs : List Comer) (ms : List Member) (hs : List Hart) (v v1 v2 v' : ℕ) (f' : Phase) → c.phase ≡ f
      → v1 ≡ word_after f v → v2 ≡ v1 → Moves t.finished n lead v f f' → GoesOn g image bound w n t f c m f' h → MovedAll t cs ms hs v2 v'
      → MovedAll t (c ∷ cs) (m ∷ ms) (h ∷ hs) v v'
  more t f c m h cs ms hs v v1 v2 v' f' e word same moves on rest = record {
    phases' = f' ∷ rest.phases';
    moves = (
      subst (λ x. Moves t.finished n lead v x f') (sym e) moves,
      subst (λ x. AllMove t.finished n lead (phases cs) x rest.phases' v') (same ∙ word ∙ ap (λ x. word_after x v) (sym e)) rest.moves,
    );
    on = (subst (λ x. GoesOn g image bound w n t x c m f' h) (sym e) on, rest.on);
  }

  turn_of : (t : Setting) (f : Phase) (c : Comer) (m : Member) (sh : Shared) (h : Hart) (sh1 : Shared) (cs : List Comer) (ms : List Member) (hs : List Hart) (v' : ℕ) → Holds image t → c.phase ≡ f
      → TakesTurn g image bound w n t f c m sh h sh1 → MovedAll t cs ms hs (sh1.control w) v' → MovedAll t (c ∷ cs) (m ∷ ms) (h ∷ hs) (sh.control w) v'
  turn_of t Outside c m sh h sh1 cs ms hs v' holds e turn rest = more t Outside c m h cs ms hs (sh.control w) (sh.control w) (sh1.control w) v' Outside e refl turn refl refl rest
  turn_of t Away c m sh h sh1 cs ms hs v' holds e turn rest = more t Away c m h cs ms hs (sh.control w) (sh.control w) (sh1.control w) v' Away e refl turn tt refl rest
  turn_of t (Coming zero) c m sh h sh1 cs ms hs v' holds e turn rest =
      let one = subst (λ x. Moved t x c m sh h sh1) e (moved t c m sh h sh1 holds turn.0 turn.1) in
      more t (Coming zero) c m h cs ms hs (sh.control w) (sh1.control w) (sh1.control w) v' one.phase e one.word refl one.moves (sh.control w, one.on) rest
  turn_of t (Coming (suc d)) c m sh h sh1 cs ms hs v' holds e turn rest =
      let one = subst (λ x. Moved t x c m sh h sh1) e (moved t c m sh h sh1 holds turn.0 turn.1) in
      more t (Coming (suc d)) c m h cs ms hs (sh.control w) (sh1.control w) (sh1.control w) v' one.phase e one.word refl one.moves (sh.control w, one.on) rest
  turn_of t Waiting c m sh h sh1 cs ms hs v' holds e turn rest =
      let one = subst (λ x. Moved t x c m sh h sh1) e (moved t c m sh h sh1 holds turn.0 turn.1) in
      more t Waiting c m h cs ms hs (sh.control w) (sh1.control w) (sh1.control w) v' one.phase e one.word refl one.moves (sh.control w, one.on) rest
  turn_of t (Leaving zero) c m sh h sh1 cs ms hs v' holds e turn rest =
      let one = subst (λ x. Moved t x c m sh h sh1) e (moved t c m sh h sh1 holds turn.0 turn.1) in
      more t (Leaving zero) c m h cs ms hs (sh.control w) (sh1.control w) (sh1.control w) v' one.phase e one.word refl one.moves (sh.control w, one.on) rest
  turn_of t (Leaving (suc d)) c m sh h sh1 cs ms hs v' holds e turn rest =
      let one = subst (λ x. Moved t x c m sh h sh1) e (moved t c m sh h sh1 holds turn.0 turn.1) in
      more t (Leaving (suc d)) c m h cs ms hs (sh.control w) (sh1.control w) (sh1.control w) v' one.phase e one.word refl one.moves (sh.control w, one.on) rest

  all_moved : (t : Setting) (cs : List Comer) (ms : List Member) (hs : List Hart) (sh sh' : Shared) → Holds image t → AllTakeTurns g image bound w n t cs ms sh hs sh'
      → MovedAll t cs ms hs (sh.control w) (sh'.control w)
  all_moved t [] [] [] sh sh' holds all = record { phases' = []; moves = ap (λ (s : Shared). s.control w) all; on = tt }
  all_moved t (c ∷ cs) (m ∷ ms) (h ∷ hs) sh sh' holds all =
      turn_of t c.phase c m sh h all.0 cs ms hs (sh'.control w) holds refl all.1 (all_moved t cs ms hs all.0 sh' holds all.2)
  all_moved t cs ms hs sh sh' holds all = absurd (assumption all)

pub turns_are_moves : TurnsAreMoves
turns_are_moves g image bound w n t cs ms hs sh sh' holds all =
    let r = all_moved g image bound w n t cs ms hs sh sh' holds all in
    (r.phases', r.moves, r.on)

-- ---- a node whose members are all in the lines

module _ (g : Meeting) (image : Image) (bound : ℕ → ℕ) (mine : Words) (w n : ℕ) where
  -- the comers in their next phases
  abbrev with_phases : List Comer → List Phase → List Comer
  with_phases (c ∷ cs) (f ∷ fs) = record c { phase = f } ∷ with_phases cs fs
  with_phases [] fs = []
  with_phases (c ∷ cs) [] = []

  -- none of them leaves in this cycle
  abbrev Remains : Phase → Type 0
  Remains (Leaving zero) = ⊥
  Remains f = IsInside f

  abbrev AllRemain : List Comer → Type 0
  AllRemain [] = Unit {0}
  AllRemain (c ∷ cs) = Remains c.phase × AllRemain cs

  remains_uncounted : (f : Phase) → Remains f → count_for g f ≡ 0
  remains_uncounted Outside r = refl
  remains_uncounted Away r = refl
  remains_uncounted (Coming d) r = refl
  remains_uncounted Waiting r = refl
  remains_uncounted (Leaving zero) r = absurd r
  remains_uncounted (Leaving (suc d)) r = refl

  remains_standing : (c : Comer) (t : Setting) (number v : ℕ) (f f' : Phase) (h : Hart) → Remains f → Continues g image c.lines n c.first t number v f f' h
      → IsInPhase g image c.lines n c.first (later t) number f' h
  remains_standing c t number v Outside f' h r s = s
  remains_standing c t number v Away f' h r s = s
  remains_standing c t number v (Coming d) f' h r s = s
  remains_standing c t number v Waiting f' h r s = s
  remains_standing c t number v (Leaving zero) f' h r s = absurd r
  remains_standing c t number v (Leaving (suc d)) f' h r s = s

  inside : (c : Comer) (t : Setting) (number : ℕ) (f : Phase) (h : Hart) → IsInPhase g image c.lines n c.first t number f h → IsInside f
  inside c t number Outside h s = absurd s
  inside c t number Away h s = absurd s
  inside c t number (Coming d) h s = tt
  inside c t number Waiting h s = tt
  inside c t number (Leaving d) h s = tt

  -- a cycle in which nobody leaves
  record Remained (t : Setting) (cs : List Comer) (ms : List Member) (own : Memory) : Type 1 where
    pub members : List Member
    pub words : Memory
    pub phases' : List Phase
    pub fits : phases (with_phases cs phases') ≡ phases'
    pub many : length phases' ≡ length (phases cs)
    pub moves : AllMove t.finished n lead (phases cs) (own w) phases' (words w)
    pub stand : AllAreInLines g image bound w n (later t) (with_phases cs phases') members
    pub others : (j : ℕ) → j ≢ w → words j ≡ own j
    pub cycle : (Then : List Member → Memory → Type 0) → Then members words → NodeCycle image mine t 0 ms own Then

  remained : (t : Setting) (cs : List Comer) (ms : List Member) (own : Memory) → Holds image t → mine w ≡ true → AllAreInLines g image bound w n t cs ms → AllRemain cs → Remained t cs ms own
  remained t [] [] own holds is stand remain = record {
    members = [];
    words = own;
    phases' = [];
    fits = refl;
    many = refl;
    moves = refl;
    stand = tt;
    others = λ j ne. refl;
    cycle = λ Then x. x;
  }
  remained t (c ∷ cs) (m ∷ ms) own holds is stand remain =
      let s = stand.1 in
      let turn = harts_move g image bound mine c.lines w n t c.first c.phase m own s.meeting is holds s.ready s.stands in
      let stands' = remains_standing c t m.number (own w) c.phase turn.phase turn.hart remain.0 turn.continues in
      let r = remained t cs ms turn.words holds is stand.2 remain.1 in
      record {
        members = record m { hart = turn.hart } ∷ r.members;
        words = r.words;
        phases' = turn.phase ∷ r.phases';
        fits = ap (λ fs. turn.phase ∷ fs) r.fits;
        many = ap (λ k. suc k) r.many;
        moves = (turn.moves, subst (λ v. AllMove t.finished n lead (phases cs) v r.phases' (r.words w)) turn.arrivals r.moves);
        stand = (
          inside c (later t) m.number turn.phase turn.hart stands',
          record { meeting = s.meeting; ready = s.ready; stands = stands' },
          r.stand,
        );
        others = λ j ne. r.others j ne ∙ turn.others j ne;
        cycle = λ Then x. (
          turn.hart,
          turn.words,
          subst (λ k. Stays image mine t k m own turn.hart turn.words) (remains_uncounted c.phase remain.0) turn.stays,
          r.cycle (λ ms' own'. Then (record m { hart = turn.hart } ∷ ms') own') x,
        );
      }
  remained t cs ms own holds is stand remain = absurd (assumption stand)

  -- one in which all leave
  record Left (t : Setting) (cs : List Comer) (ms : List Member) (own : Memory) : Type 1 where
    pub members : List Member
    pub words : Memory
    pub left : AllHaveLeft g image bound w n cs members
    pub nobody : (own w ≡ 0) ⊎ (cs ≡ [] → ⊥) → words w ≡ 0
    pub others : (j : ℕ) → j ≢ w → words j ≡ own j
    pub cycle : (Then : List Member → Memory → Type 0) → Then members words → NodeCycle image mine t (count_of_leaving g.leaving) ms own Then

  record LeftOne (t : Setting) (c : Comer) (m : Member) (own : Memory) : Type 0 where
    pub hart : Hart
    pub words : Memory
    pub left : HasLeft g image c.lines n c.first hart
    pub nobody : words w ≡ 0
    pub others : (j : ℕ) → j ≢ w → words j ≡ own j
    pub stays : Stays image mine t (count_of_leaving g.leaving) m own hart words

  left_one : (t : Setting) (f : Phase) (c : Comer) (m : Member) (own : Memory) → Holds image t → mine w ≡ true → IsInLines g image bound w n t c m → c.phase ≡ f → IsInside f → Leaves 0 f → LeftOne t c m own
  left_one t (Leaving zero) c m own holds is s e inside leaves =
      let turn = harts_move g image bound mine c.lines w n t c.first (Leaving zero) m own s.meeting is holds s.ready (subst (λ f. IsInPhase g image c.lines n c.first t m.number f m.hart) e s.stands) in
      record { hart = turn.hart; words = turn.words; left = turn.continues.1; nobody = turn.arrivals; others = turn.others; stays = turn.stays }
  left_one t (Leaving (suc d)) c m own holds is s e inside leaves = absurd (omega (arith, leaves))
  left_one t f c m own holds is s e inside leaves = absurd (assumption (inside, leaves))

  left : (t : Setting) (cs : List Comer) (ms : List Member) (own : Memory) → Holds image t → mine w ≡ true → AllAreInLines g image bound w n t cs ms → Each (Leaves 0) (phases cs) → Left t cs ms own
  left t [] [] own holds is stand leaves = record {
    members = [];
    words = own;
    left = tt;
    nobody = λ e. ⊎_elim (λ z. z) (λ some. absurd (some refl)) e;
    others = λ j ne. refl;
    cycle = λ Then x. x;
  }
  left t (c ∷ cs) (m ∷ ms) own holds is stand leaves =
      let one = left_one t c.phase c m own holds is stand.1 refl stand.0 leaves.0 in
      let r = left t cs ms one.words holds is stand.2 leaves.1 in
      record {
        members = record m { hart = one.hart } ∷ r.members;
        words = r.words;
        left = (one.left, r.left);
        nobody = λ e. r.nobody (inl one.nobody);
        others = λ j ne. r.others j ne ∙ one.others j ne;
        cycle = λ Then x. (one.hart, one.words, one.stays, r.cycle (λ ms' own'. Then (record m { hart = one.hart } ∷ ms') own') x);
      }
  left t cs ms own holds is stand leaves = absurd (assumption stand)

  -- ---- which of the two it is

  staying : (t : Setting) (cs : List Comer) (ms : List Member) → AllAreInLines g image bound w n t cs ms → Each IsStaying (phases cs) → AllRemain cs
  staying t [] [] stand each = tt
  staying t (c ∷ cs) (m ∷ ms) stand each = (remains_by c.phase stand.0 each.0, staying t cs ms stand.2 each.1)
    where
      remains_by : (f : Phase) → IsInside f → IsStaying f → Remains f
      remains_by (Leaving d) i k = absurd k
      remains_by (Coming d) i k = tt
      remains_by Waiting i k = tt
      remains_by f i k = absurd (assumption i)
  staying t cs ms stand each = absurd (assumption stand)

  leaving_later : (d : ℕ) (t : Setting) (cs : List Comer) (ms : List Member) → AllAreInLines g image bound w n t cs ms → Each (Leaves (suc d)) (phases cs) → AllRemain cs
  leaving_later d t [] [] stand each = tt
  leaving_later d t (c ∷ cs) (m ∷ ms) stand each = (remains_by c.phase stand.0 each.0, leaving_later d t cs ms stand.2 each.1)
    where
      remains_by : (f : Phase) → IsInside f → Leaves (suc d) f → Remains f
      remains_by (Leaving zero) i k = absurd (omega (arith, k))
      remains_by (Leaving (suc e)) i k = tt
      remains_by f i k = absurd (assumption (i, k))
  leaving_later d t cs ms stand each = absurd (assumption stand)

  abbrev Due : (k : ℕ) → Setting → List Comer → List Member → Memory → Type 0
  Due k t cs ms own = (d : ℕ) × (d ≤ k) × LeaveAfter g image bound w n mine d t cs ms own

  -- with nobody there the word is 0
  word_of_none : (t : ℕ) (v : ℕ) (cs : List Comer) → Settled t n v (phases cs) → (v ≡ 0) ⊎ (cs ≡ [] → ⊥)
  word_of_none t v [] s = inl (sym s.count)
  word_of_none t v (c ∷ cs) s = inr (λ e. absurd (cc))

  due_now : (k : ℕ) (t : Setting) (cs : List Comer) (ms : List Member) (own : Memory) → Holds image t → mine w ≡ true → AllAreInLines g image bound w n t cs ms
      → Settled t.finished n (own w) (phases cs) → Each (Leaves 0) (phases cs) → Due k t cs ms own
  due_now k t cs ms own holds is stand settled leaves =
      let l = left t cs ms own holds is stand leaves in (
        0,
        omega arith,
        l.cycle (λ ms' own'. HaveMet g image bound w n cs own ms' own') (record {
          left = l.left;
          nobody = l.nobody (word_of_none t.finished (own w) cs settled);
          others = l.others;
        }),
      )

  same_left : (cs : List Comer) (fs : List Phase) (ms : List Member) → AllHaveLeft g image bound w n (with_phases cs fs) ms → length fs ≡ length cs → AllHaveLeft g image bound w n cs ms
  same_left [] fs [] all many = tt
  same_left (c ∷ cs) (f ∷ fs) (m ∷ ms) all many = (all.0, same_left cs fs ms all.1 (omega arith))
  same_left (c ∷ cs) [] ms all many = absurd (omega arith)
  same_left cs fs ms all many = absurd (assumption all)

  many_phases : (cs : List Comer) → length (phases cs) ≡ length cs
  many_phases [] = refl
  many_phases (c ∷ cs) = ap (λ k. suc k) (many_phases cs)

  due_later : (k : ℕ) (t : Setting) (cs : List Comer) (ms : List Member) (own : Memory) → (r : Remained t cs ms own) → Due k (later t) (with_phases cs r.phases') r.members r.words → Due (suc k) t cs ms own
  due_later k t cs ms own r due =
      let le = due.1 in
      let d = due.0 in
      let c = count_of_leaving g.leaving in
      let cs' = with_phases cs r.phases' in
      let many : length r.phases' ≡ length cs = r.many ∙ many_phases cs in
      let After : List Member → Memory → Type 0 = λ ms' own'. NodeRun image mine (later t) d ms' own'
      (λ ms'' own''. NodeCycle image mine (in_cycles d (later t)) c ms'' own'' (λ ms3 own3. HaveMet g image bound w n cs own ms3 own3)) in (
        suc d,
        omega arith,
        r.cycle After
            (run_map image mine (later t) d r.members r.words
            (λ ms'' own''. NodeCycle image mine (in_cycles d (later t)) c ms'' own'' (λ ms3 own3. HaveMet g image bound w n cs' r.words ms3 own3))
            (λ ms'' own''. NodeCycle image mine (in_cycles d (later t)) c ms'' own'' (λ ms3 own3. HaveMet g image bound w n cs own ms3 own3))
            (λ ms'' own'' x. cycle_map image mine (in_cycles d (later t)) c ms'' own'' (λ ms3 own3. HaveMet g image bound w n cs' r.words ms3 own3) (λ ms3 own3. HaveMet g image bound w n cs own ms3 own3)
            (λ ms3 own3 y. record {
              left = same_left cs r.phases' ms3 y.left many;
              nobody = y.nobody;
              others = λ j ne. y.others j ne ∙ r.others j ne;
            })
            x)
            due.2),
      )

  -- in the cycle after one in which nobody has left
  due_after : (k : ℕ) (t : Setting) (cs : List Comer) (ms : List Member) (own : Memory) → Holds image t → mine w ≡ true → length (phases cs) < 2 ^ 31 → AllAreInLines g image bound w n t cs ms
      → Settled t.finished n (own w) (phases cs) → IsDue lead (suc k) t.finished (phases cs) → (r : Remained t cs ms own)
      → IsKept t.finished n lead (own w) (r.words w) (phases cs) r.phases'
      → (IsDue lead k (t.finished + 1) r.phases' → Due k (later t) (with_phases cs r.phases') r.members r.words) → Due (suc k) t cs ms own
  due_after k t cs ms own holds is few stand settled due r kept again =
      ⊎_elim (λ leaves. due_now (suc k) t cs ms own holds is stand settled leaves) (λ due'. due_later k t cs ms own r (again due')) (kept.nearer k due)

  due_zero : (t : Setting) (cs : List Comer) (ms : List Member) (own : Memory) → Holds image t → mine w ≡ true → AllAreInLines g image bound w n t cs ms
      → Settled t.finished n (own w) (phases cs) → IsNear lead 0 t.finished (phases cs) → Due 0 t cs ms own
  due_zero t cs ms own holds is stand settled (inl near) = absurd (omega arith)
  due_zero t cs ms own holds is stand settled (inr near) =
      let none = near.1 in
      let e : near.0 ≡ 0 = omega arith in
      due_now 0 t cs ms own holds is stand settled (subst (λ d. Each (Leaves d) (phases cs)) e near.2)

  due_by : (k : ℕ) (t : Setting) (cs : List Comer) (ms : List Member) (own : Memory) → Holds image t → mine w ≡ true → length (phases cs) < 2 ^ 31 → AllAreInLines g image bound w n t cs ms
      → Settled t.finished n (own w) (phases cs) → IsDue lead (suc k) t.finished (phases cs)
      → ((r : Remained t cs ms own) → IsDue lead k (t.finished + 1) r.phases' → IsKept t.finished n lead (own w) (r.words w) (phases cs) r.phases' → Due k (later t) (with_phases cs r.phases') r.members r.words)
      → AreTogether (phases cs) → Due (suc k) t cs ms own
  due_by k t cs ms own holds is few stand settled due again (inl stays) =
      let r = remained t cs ms own holds is stand (staying t cs ms stand stays) in
      let q = cycles_keep_arrivals t.finished n lead (own w) (r.words w) (phases cs) r.phases' few settled r.moves in
      due_after k t cs ms own holds is few stand settled due r q (λ due'. again r due' q)
  due_by k t cs ms own holds is few stand settled due again (inr (zero, leaves)) = due_now (suc k) t cs ms own holds is stand settled leaves
  due_by k t cs ms own holds is few stand settled due again (inr (suc d, leaves)) =
      let r = remained t cs ms own holds is stand (leaving_later d t cs ms stand leaves) in
      let q = cycles_keep_arrivals t.finished n lead (own w) (r.words w) (phases cs) r.phases' few settled r.moves in
      due_after k t cs ms own holds is few stand settled due r q (λ due'. again r due' q)

  due_within : (k : ℕ) (t : Setting) (cs : List Comer) (ms : List Member) (own : Memory) → Holds image t → mine w ≡ true → length (phases cs) < 2 ^ 31 → AllAreInLines g image bound w n t cs ms
      → Settled t.finished n (own w) (phases cs) → IsDue lead k t.finished (phases cs) → Due k t cs ms own
  due_within zero t cs ms own holds is few stand settled due = due_zero t cs ms own holds is stand settled due.near
  due_within (suc k) t cs ms own holds is few stand settled due =
      due_by k t cs ms own holds is few stand settled due
      (λ r due' q.
      let many = r.many in
      let fits = sym r.fits in
      due_within k (later t) (with_phases cs r.phases') r.members r.words holds is (subst (λ fs. length fs < 2 ^ 31) fits (omega arith)) r.stand
      (subst (λ fs. Settled (t.finished + 1) n (r.words w) fs) fits q.settled)
      (subst (λ fs. IsDue lead k (t.finished + 1) fs) fits due'))
      settled.together

pub members_leave_together : MembersLeaveTogether
members_leave_together g image bound mine w n k t cs ms own holds is few stand settled due =
    let many = many_phases g image bound mine w n cs in
    due_within g image bound mine w n k t cs ms own holds is (omega arith) stand settled due

-- ---- who has just come

has_time : (g : Meeting) (image : Image) (k n number : ℕ) (first : Hart) (t : Setting) (f : Phase) (h : Hart) → IsInside f → IsInPhase g image k n first t number f h → HasCome f → HasTime lead 10 f
has_time g image k n number first t Outside h i s c = absurd i
has_time g image k n number first t Away h i s c = absurd i
has_time g image k n number first t (Coming d) h i s c = omega arith
has_time g image k n number first t Waiting h i s c = tt
has_time g image k n number first t (Leaving zero) h i s c = omega arith
has_time g image k n number first t (Leaving (suc zero)) h i s c = omega arith
has_time g image k n number first t (Leaving (suc (suc d))) h i s c = absurd s

all_have_time : (g : Meeting) (image : Image) (bound : ℕ → ℕ) (w n : ℕ) (t : Setting) (cs : List Comer) (ms : List Member) → AllAreInLines g image bound w n t cs ms → Each HasCome (phases cs)
    → Each (HasTime lead 10) (phases cs)
all_have_time g image bound w n t [] [] stand come = tt
all_have_time g image bound w n t (c ∷ cs) (m ∷ ms) stand come = (
  has_time g image c.lines n m.number c.first t c.phase m.hart stand.0 stand.1.stands come.0,
  all_have_time g image bound w n t cs ms stand.2 come.1,
)
all_have_time g image bound w n t cs ms stand come = absurd (assumption stand)

pub members_leave_in_ten : MembersLeaveInTen
members_leave_in_ten g image bound mine w n t cs ms own holds is few stand settled come =
    members_leave_together g image bound mine w n 10 t cs ms own holds is few stand settled
    (record { time = all_have_time g image bound w n t cs ms stand come; near = inl (omega arith) })
