-- Runs of a list stay in trees, where those of the program that stands in it do.
use Rattle.std.proofs.Common.{◌≡◌, ℕ, zero, suc, ◌≤◌, Bool, true, false, List, [], ◌∷◌, ◌++◌, length, map, Option, Some, None, ap, ◌∙◌, sym, refl, subst, arith}
use Rattle.std.specs.Prelude.{option_map, slice_get, slice_index}
use Rattle.std.proofs.lemmas.List.{length-map}
use Rattle.fk_space.specs.Space.{Space, IsSpace}
use Rattle.fk_meaning_operation.specs.declared.operation.Operation.TheVariants as o
use Rattle.fk_tree.specs.Tree as t
use Rattle.fk_tree.specs.Tree.{Tree}
use Rattle.fk_tree.specs.Sound.{IsSound, Has}
use Rattle.fk_tree.specs.declared.node.Kind.TheVariants.{Lockstep}
use Rattle.fk_tree.proofs.Turns.{leaf_by, idle-lockstep}
use Rattle.fk_tree.proofs.Shapes.{has_some}
use Rattle.fk_meaning.specs.Processor.{Processor, Setting, setting_of, group_space}
use Rattle.fk_meaning.specs.Round.{Step, Runner, State}
use Rattle.fk_meaning.specs.Schedule.{Schedule, opening, run}
use Rattle.fk_meaning.proofs.Natural.{step_by, runner_by, state_by, runs}
use Rattle.fk_meaning_forms.specs.Code.{Code}
use Rattle.fk_meaning.specs.Next as source
use Rattle.fk_meaning.specs.Next.{Work, going}
use Rattle.fk_meaning.specs.Behind.{past, works, waiting, outs}
use Rattle.fk_core.specs.declared.op.CoreOp.{CoreOp}
use Rattle.fk_core.specs.Next.{Position, position, landing, next}
use Rattle.fk_core.specs.CodeAt.{CodeAt}
use Rattle.fk_core.specs.WellFormed.{LeadsOn}
use Rattle.fk_core.proofs.Running.{IsAt, AllStand, same_next, body_at, as_many_callers, outs_stand}
use Rattle.fk_lockstep.specs.Course.{Waits, ByItself, Does, DoesNext, FollowsFor, Follows}
use Rattle.fk_lockstep.specs.Counts.{Counts, ArePending, IsCounted}
use Rattle.fk_lockstep.specs.Frames.{IsFramed}
use Rattle.fk_lockstep.specs.OneProgram.{AreTogether, HaveOneProgram, KeepOneProgram}
use Rattle.fk_lockstep.specs.OneSpace.{HaveSameLevels, spaces_of, KeepOneSpace}
use Rattle.fk_lockstep_frames.specs.Lists.{HasLocalFrames}
use Rattle.fk_lockstep_frames.proofs.Lists.{lists_tell_frames}
use Rattle.fk_lockstep_structure.specs.Ahead.{outermost, starts_in, starts, all_outs}
use Rattle.fk_lockstep_tree.specs.Where.{Where, InRoot, InGroup, GoesNext, GoesFor, Goes}
use Rattle.fk_lockstep_tree.specs.Ranges.{ranges_of}
use Rattle.fk_lockstep_tree.specs.Placed.{IsPlaced, IsInTree, HasTree}
use Rattle.fk_lockstep_tree.specs.Rounds.{HaveOwnSpaces}
use Rattle.fk_lockstep_tree.specs.Runs.{BeginAtOne, StandsInTree, AlwaysInTree}
use Rattle.fk_lockstep_tree.specs.Led.{AreLed}
use Rattle.fk_lockstep_tree.specs.Lists.{HasOwnSites, ListsStayInTrees}
use Rattle.fk_lockstep_tree.proofs.Paths.{at_node, lockstep_place}
use Rattle.fk_lockstep_tree.proofs.Ranges.{has_tree}
use Rattle.fk_lockstep_tree.proofs.Runs.{AllPossible, are_all, all_are, all_to, all_from, runs_stay_in_trees}
use Rattle.fk_lockstep_tree.proofs.Held.{is_joint, last_of, last_end, seat, seat_joint, seat_plain}
use Rattle.fk_lockstep_tree.proofs.Beside.{Held, held, rest_of, carried, next_raw, next_held, seated, place_of, natural_place, natural_seat, opening_by, from, there}
use Rattle.fk_lockstep_tree.proofs.Carried.{group_plain, AllShallow, AllJoin, IsCarried, outs_held, depth_held, IsBeside, follows_held, goes_held, framed_held, counts_held, counted_held}
use Rattle.fk_lockstep_tree.proofs.Run as led

-- a node in lockstep has no parts: its members are at it
member_place : (p n h : ℕ) (tree : Tree) → IsSound p tree → t.kind tree n ≡ Some Lockstep → Has tree n h → tree.places h ≡ n
member_place p n h tree sound kind has =
    sym (sound.only h n (record {
      member = has;
      own = λ m ne up has'. leaf_by p n Lockstep tree sound idle-lockstep kind m ne (has_some tree m h has') up;
    }))

module _ {V : Type 0} (next_in : V → Option (Step V)) (core : List CoreOp) (leads_on : LeadsOn core) where
  -- each goes on in the list as with its seat
  goes_raw : (n : ℕ) (place : Where) (x : Held V) → GoesFor (next_held next_in core) n place (seated next_in core x) → GoesFor (next core) n place x.at
  goes_raw zero place x g = tt
  goes_raw (suc n) place x g =
      by (λ to y h. goes_raw n to y h) (next core x.at)
      (subst (GoesNext (next_held next_in core) (GoesFor (next_held next_in core) n) place) (natural_seat next_in core leads_on x) g)
    where
      by : ((to : Where) (y : Held V) → GoesFor (next_held next_in core) n to (seated next_in core y) → GoesFor (next core) n to y.at) → (b : Option (Step Position))
          → GoesNext (next_held next_in core) (GoesFor (next_held next_in core) n) place (option_map (step_by (seated next_in core)) (option_map (carried (λ p. p) x.work (next_in x.work)) b))
          → GoesNext (next core) (GoesFor (next core) n) place b
      by more None h = h
      by more (Some u) h = λ onward. let to = h onward in (to.0, to.1, more to.0 (held (rest_of x.work (next_in x.work) onward) (u.rest onward)) to.2)

  -- a group in lockstep does nothing at which it would have a seat
  at_seat : (n : ℕ) (x : Held V) → Goes (next_held next_in core) (InGroup n) (seated next_in core x) → seat core x.at ≡ x.at
  at_seat n x g = by (next core x.at) refl (goes_raw 1 (InGroup n) x (g 1))
    where
      by : (b : Option (Step Position)) → next core x.at ≡ b → GoesNext (next core) (GoesFor (next core) 0) (InGroup n) b → seat core x.at ≡ x.at
      by None e h = absurd (cc)
      by (Some u) e h = let to = h true in seat_plain core x.at u e (group_plain n u.operation to.0 to.1)

  -- one who goes on in a group
  abbrev IsInGroup : Held V → Type 0
  IsInGroup x = (n : ℕ) × Goes (next_held next_in core) (InGroup n) (seated next_in core x)

  same_at : (x y : Held V) → seated next_in core x ≡ seated next_in core y → IsInGroup x → IsInGroup y → x.at ≡ y.at
  same_at x y e g h = sym (at_seat g.0 x g.1) ∙ ap (λ (z : Held V). z.at) e ∙ at_seat h.0 y h.1

  -- a state of the list
  module _ (set : Setting) (s : State (Held V)) where
    abbrev with_seats : State (Held V)
    with_seats = state_by (seated next_in core) s

    abbrev of_list : State Position
    of_list = state_by (place_of next_in core) s

    placed : (spaces : ℕ → Space) → IsInTree (next_held next_in core) set spaces with_seats → (h : ℕ) (r : Runner Position) → slice_get of_list.runners h ≡ Some r → IsPlaced (next core) set spaces s.tree h r
    placed spaces has h r at =
        let x = from (place_of next_in core) s.runners h r at in
        let p = has.placed h (runner_by (seated next_in core) x.runner) (there (seated next_in core) s.runners h x.runner x.at) in
        subst (λ (q : Runner Position). IsPlaced (next core) set spaces s.tree h q) x.is
        (record { number_is = p.number_is; place = p.place; there = p.there; goes = λ n. goes_raw n p.place x.runner.left (p.goes n); levels = p.levels })

    list_has_tree : (p : ℕ) → p ≡ set.processors → IsSound p s.tree → HasTree (next_held next_in core) set with_seats → HasTree (next core) set of_list
    list_has_tree p few sound has =
        has_tree (next core) set of_list (subst (λ n. IsSound n s.tree) few sound) (ranges_of with_seats) (record {
          many = length-map s.runners (runner_by (place_of next_in core)) ∙ sym (length-map s.runners (runner_by (seated next_in core))) ∙ has.many;
          upward = has.upward;
          placed = placed (ranges_of with_seats) has;
          ranges = has.ranges;
        })

    -- a member of a group in lockstep stands in it
    stands_in : (p n h : ℕ) → IsSound p s.tree → HasTree (next_held next_in core) set with_seats → t.kind s.tree n ≡ Some Lockstep → t.is_member h (t.members s.tree n) ≡ true
        → (r : Runner (Held V)) → slice_get s.runners h ≡ Some r → IsInGroup r.left
    stands_in p n h sound has kind member r at =
        let q = has.placed h (runner_by (seated next_in core) r) (there (seated next_in core) s.runners h r at) in
        let above = length r.has.outer in
        let runs' = t.is_member h (t.runs Lockstep (t.members s.tree n)) in
        let p' = lockstep_place above runs' q.place (sym (at_node s.tree h above n Lockstep (member_place p n h s.tree sound kind member) kind) ∙ q.there) in
        (p'.depth, subst (λ (place : Where). Goes (next_held next_in core) place (seated next_in core r.left)) p'.is q.goes)

    branch_so : (x : Held V) (step : Step Position) → next core x.at ≡ Some step
        → (u : Step (Held V)) × (next_held next_in core (seated next_in core x) ≡ Some u) × (u.operation ≡ step.operation)
    branch_so x step e =
        let u = carried (λ p. p) x.work (next_in x.work) step in
        (step_by (seated next_in core) u, natural_seat next_in core leads_on x ∙ ap (λ b. option_map (step_by (seated next_in core)) (option_map (carried (λ p. p) x.work (next_in x.work)) b)) e, refl)

    list_has_program : (p : ℕ) → KeepOneProgram (next_held next_in core) p with_seats → HasTree (next_held next_in core) set with_seats → HaveOneProgram (next core) of_list
    list_has_program p keep has n g h r q kind in_g in_h r_is q_is =
        let x = from (place_of next_in core) s.runners g r r_is in
        let y = from (place_of next_in core) s.runners h q q_is in
        let tg = keep.members n g h (runner_by (seated next_in core) x.runner) (runner_by (seated next_in core) y.runner) kind in_g in_h
        (there (seated next_in core) s.runners g x.runner x.at) (there (seated next_in core) s.runners h y.runner y.at) in
        subst (λ (r' : Runner Position). AreTogether (next core) of_list n r' q) x.is
        (subst (λ (q' : Runner Position). AreTogether (next core) of_list n (runner_by (place_of next_in core) x.runner) q') y.is
        (record {
          left = same_at x.runner.left y.runner.left tg.left (stands_in p n g keep.tree has kind in_g x.runner x.at) (stands_in p n h keep.tree has kind in_h y.runner y.at);
          branch = λ step onward e is. let b = branch_so x.runner.left step e in tg.branch b.0 onward b.1 (b.2 ∙ is);
          divide = λ step by e is. let b = branch_so x.runner.left step e in tg.divide b.0 by b.1 (b.2 ∙ is);
          groups = tg.groups;
          size = tg.size;
        }))

    -- the levels are those of the processors, wherever they stand
    list_has_space : KeepOneSpace with_seats → KeepOneSpace of_list
    list_has_space keep = record {
      members = λ n g h r q kind in_g in_h r_is q_is.
          let x = from (place_of next_in core) s.runners g r r_is in
          let y = from (place_of next_in core) s.runners h q q_is in
          two g h r q x.runner y.runner x.is y.is
          (keep.members n g h (runner_by (seated next_in core) x.runner) (runner_by (seated next_in core) y.runner) kind in_g in_h
          (there (seated next_in core) s.runners g x.runner x.at) (there (seated next_in core) s.runners h y.runner y.at));
      waiters = λ g h first parts r q same kind r_is q_is.
          let x = from (place_of next_in core) s.runners g r r_is in
          let y = from (place_of next_in core) s.runners h q q_is in
          two g h r q x.runner y.runner x.is y.is
          (keep.waiters g h first parts (runner_by (seated next_in core) x.runner) (runner_by (seated next_in core) y.runner) same kind
          (there (seated next_in core) s.runners g x.runner x.at) (there (seated next_in core) s.runners h y.runner y.at));
      nodes = λ g h r q same r_is q_is.
          let x = from (place_of next_in core) s.runners g r r_is in
          let y = from (place_of next_in core) s.runners h q q_is in
          subst (λ (r' : Runner Position). spaces_of r'.has ≡ spaces_of q.has) x.is
          (subst (λ (q' : Runner Position). spaces_of x.runner.has ≡ spaces_of q'.has) y.is
          (keep.nodes g h (runner_by (seated next_in core) x.runner) (runner_by (seated next_in core) y.runner) same
          (there (seated next_in core) s.runners g x.runner x.at) (there (seated next_in core) s.runners h y.runner y.at)));
    }
      where
        two : (g h : ℕ) (r q : Runner Position) (x y : Runner (Held V)) → runner_by (place_of next_in core) x ≡ r → runner_by (place_of next_in core) y ≡ q → HaveSameLevels x.has y.has → HaveSameLevels r.has q.has
        two g h r q x y e f same =
            subst (λ (r' : Runner Position). HaveSameLevels r'.has q.has) e (subst (λ (q' : Runner Position). HaveSameLevels x.has q'.has) f same)

    -- and so are the spaces
    spaces_held : HaveOwnSpaces of_list → HaveOwnSpaces with_seats
    spaces_held spaces h r at =
        let x = from (seated next_in core) s.runners h r at in
        subst (λ (r' : Runner (Held V)). IsSpace r'.has.level.space) x.is
        (spaces h (runner_by (place_of next_in core) x.runner) (there (place_of next_in core) s.runners h x.runner x.at))

    -- who begins the group of a `start` has a seat
    begins_at_seat : (x : Held V) (a : Step Position) → next core x.at ≡ Some a → a.operation ≡ o.Begin → (seat core x.at).at ≡ landing core x.at.at
    begins_at_seat x a e is = ap (λ (w : Position). w.at) (seat_joint core x.at a e (ap is_joint is))

    list_begins : (p : ℕ) → KeepOneProgram (next_held next_in core) p with_seats → BeginAtOne (next core) (λ w. landing core w.at) of_list
    list_begins p keep g h r q a b at_g at_h e f is is' =
        let x = from (place_of next_in core) s.runners g r at_g in
        let y = from (place_of next_in core) s.runners h q at_h in
        let e' : next core x.runner.left.at ≡ Some a = ap (λ (r' : Runner Position). next core r'.left) x.is ∙ e in
        let f' : next core y.runner.left.at ≡ Some b = ap (λ (r' : Runner Position). next core r'.left) y.is ∙ f in
        let a' = branch_so x.runner.left a e' in
        let b' = branch_so y.runner.left b f' in
        let same = keep.beginners g h (runner_by (seated next_in core) x.runner) (runner_by (seated next_in core) y.runner) a'.0 b'.0
        (there (seated next_in core) s.runners g x.runner x.at) (there (seated next_in core) s.runners h y.runner y.at) a'.1 b'.1 (a'.2 ∙ is) (b'.2 ∙ is') in
        sym (ap (λ (r' : Runner Position). landing core r'.left.at) x.is) ∙ sym (begins_at_seat x.runner.left a e' is)
        ∙ ap (λ (z : Held V). z.at.at) same
        ∙ begins_at_seat y.runner.left b f' is' ∙ ap (λ (r' : Runner Position). landing core r'.left.at) y.is

module _ {V : Type 0} (next_in : V → Option (Step V)) (outs_in : V → List V) (depth : V → ℕ) (core : List CoreOp) (R : V → Position → Type 0) (Good : V → Type 0) (is_carried : IsCarried next_in outs_in depth core R Good)
    (program : V) (main : ℕ) (related : R program (position main [])) (good : Good program) (shallow : depth program ≡ 0)
    (follows : Follows next_in outs_in (ByItself false) program) (counts : Counts V) (none_pending : (p : Processor) → ArePending next_in outs_in counts program p [])
    (counted : IsCounted next_in outs_in counts program) (framed : IsFramed next_in outs_in depth 0 true program) (gone : Goes next_in InRoot program) (frames : HasLocalFrames core main) where
  abbrev leads_on : LeadsOn core
  leads_on = is_carried.leads_on

  abbrev begin : Position
  begin = position main []

  abbrev x0 : Held V
  x0 = held program begin

  x0_beside : IsBeside next_in outs_in depth core R Good is_carried (seated next_in core x0)
  x0_beside = record { raw = begin; related = related; at = refl; good = good }

  -- a run, at positions as they are
  module _ (n : ℕ) (globals firsts input : List ℕ) where
    abbrev set : Setting
    set = setting_of n globals input

    abbrev own : ℕ → ℕ
    own = slice_index firsts

    abbrev s0 : State (Held V)
    s0 = opening n globals input own x0

    abbrev raw_run : Schedule → State (Held V)
    raw_run schedule = run (next_raw next_in core) set schedule s0

    held_run : (schedule : Schedule) → run (next_held next_in core) set schedule (opening n globals input own (seated next_in core x0)) ≡ state_by (seated next_in core) (raw_run schedule)
    held_run schedule =
        ap (run (next_held next_in core) set schedule) (sym (opening_by (seated next_in core) n globals input own x0))
        ∙ runs (next_raw next_in core) (next_held next_in core) set (seated next_in core) (natural_seat next_in core leads_on) schedule s0

    list_run : (schedule : Schedule) → run (next core) set schedule (opening n globals input own begin) ≡ state_by (place_of next_in core) (raw_run schedule)
    list_run schedule =
        ap (run (next core) set schedule) (sym (opening_by (place_of next_in core) n globals input own x0))
        ∙ runs (next_raw next_in core) (next core) set (place_of next_in core) (natural_place next_in core) schedule s0

    -- the frames of the list tell that processors have spaces
    list_spaces : IsSpace (group_space set) → (schedule : Schedule) → HaveOwnSpaces (run (next core) set schedule (opening n globals input own begin))
    list_spaces space schedule h r at =
        let told = lists_tell_frames core main frames globals firsts input n schedule space h r at in
        let taken = told.nests.spaces in
        taken.0.space

    held_spaces : IsSpace (group_space set) → (schedule : Schedule) → HaveOwnSpaces (run (next_held next_in core) set schedule (opening n globals input own (seated next_in core x0)))
    held_spaces space schedule =
        subst HaveOwnSpaces (sym (held_run schedule))
        (spaces_held next_in core leads_on set (raw_run schedule) (subst HaveOwnSpaces (list_run schedule) (list_spaces space schedule)))

  always : AlwaysInTree (next core) (λ w. landing core w.at) begin
  always n globals firsts input schedule some space possible single none =
      let set' = setting_of n globals input in
      let own' : ℕ → ℕ = slice_index firsts in
      let s1 : State (Held V) = opening n globals input own' x0 in
      let all = are_all (next core) set' schedule (opening n globals input own' begin) possible none in
      let raw = all_from (next_raw next_in core) (next core) set' (place_of next_in core) (natural_place next_in core) schedule s1
      (subst (λ u. AllPossible (next core) set' schedule u) (sym (opening_by (place_of next_in core) n globals input own' x0)) all) in
      let seats = subst (λ u. AllPossible (next_held next_in core) set' schedule u) (opening_by (seated next_in core) n globals input own' x0)
      (all_to (next_raw next_in core) (next_held next_in core) set' (seated next_in core) (natural_seat next_in core leads_on) schedule s1 raw) in
      let s : State (Held V) = run (next_raw next_in core) set' schedule s1 in
      let in_held = held_run n globals firsts input schedule in
      let in_list = list_run n globals firsts input schedule in
      let held_none = ap (λ (u : State (Held V)). u.fault) in_held ∙ sym (ap (λ (u : State Position). u.fault) in_list) ∙ none in
      let outs' = outs_held next_in outs_in depth core R Good is_carried in
      let depth' = depth_held next_in outs_in depth core R Good is_carried in
      let both = subst (λ u. KeepOneProgram (next_held next_in core) n u × KeepOneSpace u × HasTree (next_held next_in core) set' u) in_held
      (runs_stay_in_trees (Held V) (next_held next_in core) outs' (counts_held next_in outs_in depth core R Good is_carried counts) depth' (seated next_in core x0) n globals input own' schedule
      (λ k. follows_held next_in outs_in depth core R Good is_carried k (ByItself false) (seated next_in core x0) x0_beside follows) (λ p. none_pending p)
      (λ k. counted_held next_in outs_in depth core R Good is_carried counts k (seated next_in core x0) x0_beside counted)
      (λ k. goes_held next_in outs_in depth core R Good is_carried k InRoot (seated next_in core x0) x0_beside gone)
      shallow
      (λ k. framed_held next_in outs_in depth core R Good is_carried k 0 true (seated next_in core x0) x0_beside framed)
      (λ before. held_spaces n globals firsts input space before)
      some (all_are (next_held next_in core) set' schedule (opening n globals input own' (seated next_in core x0)) seats) single held_none) in
      subst (StandsInTree (next core) (λ w. landing core w.at) set') (sym in_list)
      (record {
        sound = both.0.tree;
        one_program = list_has_program next_in core leads_on set' s n both.0 both.2;
        one_space = list_has_space next_in core leads_on set' s both.1;
        tree = list_has_tree next_in core leads_on set' s n refl both.0.tree both.2;
        beginners = list_begins next_in core leads_on set' s n both.0;
      })

-- ---- what is left of a program

abbrev depth_of : Work → ℕ
depth_of work = length work.callers

shallow_more : (m n : ℕ) (ws : List Work) → m ≤ n → AllShallow depth_of m ws → AllShallow depth_of n ws
shallow_more m n [] le h = tt
shallow_more m n (w ∷ ws) le h = (let a = h.0 in omega (arith, le, a), shallow_more m n ws le h.1)

shallow_append : (n : ℕ) (ws us : List Work) → AllShallow depth_of n ws → AllShallow depth_of n us → AllShallow depth_of n (ws ++ us)
shallow_append n [] us h g = g
shallow_append n (w ∷ ws) us h g = (h.0, shallow_append n ws us h.1 g)

shallow_works : (callers codes : List (Code ℕ)) → AllShallow depth_of (length callers) (works callers codes)
shallow_works callers [] = tt
shallow_works callers (code ∷ codes) = (omega arith, shallow_works callers codes)

shallow_waiting : (callers : List (Code ℕ)) → AllShallow depth_of (length callers) (waiting callers)
shallow_waiting [] = tt
shallow_waiting (code ∷ callers) =
    shallow_more (length callers) (suc (length callers)) (works callers (past code) ++ waiting callers) (omega arith)
    (shallow_append (length callers) (works callers (past code)) (waiting callers) (shallow_works callers (past code)) (shallow_waiting callers))

shallow_starts : (n : ℕ) (codes : List (Code ℕ)) → AllShallow depth_of n (map (λ code. let at : Work = record { left = code; callers = [] } in at) codes)
shallow_starts n [] = tt
shallow_starts n (code ∷ codes) = (omega arith, shallow_starts n codes)

shallow_outs : (work : Work) → AllShallow depth_of (depth_of work) (all_outs work)
shallow_outs work =
    shallow_append (length work.callers) (outs work) (starts work)
    (shallow_append (length work.callers) (works work.callers (past work.left)) (waiting work.callers) (shallow_works work.callers (past work.left)) (shallow_waiting work.callers))
    (shallow_starts (length work.callers) (starts_in (outermost work.left work.callers)))

-- ---- where they meet

module _ (may_call : (in_group : Bool) → (function : ℕ) → Bool) (bodies : (binding : ℕ) → Code ℕ) (core : List CoreOp) (entry : (binding : ℕ) → ℕ) (main : ℕ) (leads_on : LeadsOn core)
    (stands : (binding : ℕ) → CodeAt core entry (bodies binding) None (entry binding) (length core)) (own : HasOwnSites core) (facts : AreLed may_call bodies main) where
  abbrev R : Work → Position → Type 0
  R = IsAt core entry leads_on bodies stands

  abbrev Good : Work → Type 0
  Good w = (place : Where) × led.IsAt may_call bodies main facts place w

  outs_join : (ws : List Work) → led.AllOuts may_call bodies main facts ws → AllJoin (source.next bodies) ws
  outs_join [] all = tt
  outs_join (w ∷ ws) all = (all.0.joins, outs_join ws all.1)

  starts_join : (ws : List Work) → led.AllBegin may_call bodies main facts ws → AllJoin (source.next bodies) ws
  starts_join [] all = tt
  starts_join (w ∷ ws) all = let b = all.0 in (record { step = b.step; next_is = b.next_is; is = ap is_joint b.is }, starts_join ws all.1)

  both_join : (ws us : List Work) → AllJoin (source.next bodies) ws → AllJoin (source.next bodies) us → AllJoin (source.next bodies) (ws ++ us)
  both_join [] us a b = b
  both_join (w ∷ ws) us a b = (a.0, both_join ws us a.1 b)

  all_join : (w : Work) → Good w → AllJoin (source.next bodies) (all_outs w)
  all_join w good =
      both_join (outs w) (starts w) (outs_join (outs w) (led.outs_meet may_call bodies main facts good.0 w good.1)) (starts_join (starts w) (led.all_starts_begin may_call bodies main facts w))

  -- who waits after parts doesn't begin a group
  begins_none : (parent : Work) → led.Begins may_call bodies main facts parent → ((m : ℕ) → FollowsFor (source.next bodies) all_outs m (Waits true) parent) → ⊥
  begins_none parent b follows =
      let one = subst (λ s. DoesNext (source.next bodies) all_outs (FollowsFor (source.next bodies) all_outs 0) (Waits true) parent s) b.next_is (follows 1) in
      subst (λ op. Does (source.next bodies) all_outs (FollowsFor (source.next bodies) all_outs 0) (Waits true) op parent b.step.rest) b.is one

  abbrev Parent : Work → Position → Type 0
  Parent parent p = Good parent × ((i : ℕ) × R parent (position i (last_of (length parent.callers) p.callers)))

  parent_there : (p : Position) (ws us : List Work) (parent : Work) (behind : List Work) → ws ++ us ≡ parent ∷ behind → AllStand core entry leads_on bodies stands p.callers ws
      → led.AllOuts may_call bodies main facts ws → led.AllBegin may_call bodies main facts us → ((m : ℕ) → FollowsFor (source.next bodies) all_outs m (Waits true) parent) → Parent parent p
  parent_there p [] [] parent behind e stand outs' begin follows = absurd (cc)
  parent_there p [] (u ∷ us) parent behind e stand outs' begin follows =
      let same : u ≡ parent = cc in absurd (begins_none parent (subst (led.Begins may_call bodies main facts) same begin.0) follows)
  parent_there p (w ∷ ws) us parent behind e stand outs' begin follows =
      let same : w ≡ parent = cc in
      let out = outs'.0 in
      let at = stand.0 in
      let many = as_many_callers core entry leads_on bodies stands w (position at.index at.calls) at.stands in
      let calls : at.calls ≡ last_of (length w.callers) p.callers = sym (last_end at.calls p.callers at.ends) ∙ ap (λ (k : ℕ). last_of k p.callers) many in
      subst (λ (x : Work). Parent x p) same
      ((out.place, out.at), (at.index, subst (λ (cs : List ℕ). R w (position at.index cs)) calls at.stands))

  program_is_carried : IsCarried (source.next bodies) all_outs depth_of core R Good
  program_is_carried = record {
    leads_on = leads_on;
    own = own;
    same = same_next core entry leads_on bodies stands;
    as_many = as_many_callers core entry leads_on bodies stands;
    shallow = shallow_outs;
    goes_on = λ w s good e onward. led.goes_next may_call bodies main facts good.0 w s good.1 e onward;
    joins = all_join;
    parents = λ w p parent behind r good e follows.
        parent_there p (outs w) (starts w) parent behind e (outs_stand core entry leads_on bodies stands w p r) (led.outs_meet may_call bodies main facts good.0 w good.1)
        (led.all_starts_begin may_call bodies main facts w) follows;
  }

pub lists_stay_in_trees : ListsStayInTrees
lists_stay_in_trees may_call bodies core entry main counts leads_on stands own frames facts follows none_pending counted framed =
    let begins = led.begins may_call bodies main facts in
    always (source.next bodies) all_outs depth_of core (R may_call bodies core entry main leads_on stands own facts) (Good may_call bodies core entry main leads_on stands own facts)
    (program_is_carried may_call bodies core entry main leads_on stands own facts) (going (bodies main) []) (entry main)
    (body_at core entry leads_on bodies stands main) (InRoot, begins) refl follows counts none_pending counted framed (led.goes_from may_call bodies main facts InRoot (going (bodies main) []) begins) frames
