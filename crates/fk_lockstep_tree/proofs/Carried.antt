-- Where a program goes through its groups and bodies in their order, so does a list, its positions with seats.
use Rattle.std.proofs.Common.{◌≡◌, ℕ, zero, suc, ◌≤◌, Bool, true, false, List, [], ◌∷◌, length, map, Option, Some, None, ap, ap₂, ◌∙◌, sym, refl, subst, arith}
use Rattle.std.specs.Prelude.{option_map}
use Rattle.fk_meaning_operation.specs.declared.operation.Operation.{Operation}
use Rattle.fk_meaning_operation.specs.declared.operation.Operation.TheVariants as o
use Rattle.fk_meaning_operation.specs.declared.operation.SplitKind.{SplitKind}
use Rattle.fk_meaning_operation.specs.declared.operation.SplitKind.TheVariants.{IfElse, Fork}
use Rattle.fk_meaning_operation.specs.Kinds.{class_of}
use Rattle.fk_meaning_operation.specs.declared.kinds.Class.{Class}
use Rattle.fk_meaning_operation.specs.declared.kinds.Class.TheVariants as class
use Rattle.fk_meaning.specs.Alike.{Same}
use Rattle.fk_meaning.specs.Round.{Step}
use Rattle.fk_core.specs.declared.op.CoreOp.{CoreOp}
use Rattle.fk_core.specs.Next.{Position, position, landing, follows, next}
use Rattle.fk_core.specs.WellFormed.{LeadsOn}
use Rattle.fk_lockstep.specs.Course.{Context, InGroup, Waits, ByItself, Stays, Parts, Does, DoesNext, FollowsFor, Follows}
use Rattle.fk_lockstep.specs.Counts as counting
use Rattle.fk_lockstep.specs.Counts.{Counts, AsMany, NoMore, CountsGoOn, CountedNext, CountedFor, IsCounted}
use Rattle.fk_lockstep.specs.Frames.{Calling, Enters, Leaves, Remains, calling, round_after, alone_after, NoDeeper, Higher, AsDeep, Calls, FramesGoOn, FramedNext, FramedFor, IsFramed}
use Rattle.fk_lockstep_tree.specs.Where as places
use Rattle.fk_lockstep_tree.specs.Where.{Where, goes, GoesNext, GoesFor, Goes}
use Rattle.fk_lockstep_tree.proofs.Moves.{goes_on}
use Rattle.fk_lockstep_tree.specs.Lists.{HasOwnSites}
use Rattle.fk_lockstep_tree.proofs.Held.{is_joint, Joins, last_of, last_all, last_again, last_turned, turned, is_of_group, stay_called, Found, found, index_in, index_is, seat, seat_callers, seat_joint, seat_next}
use Rattle.fk_lockstep_tree.proofs.Beside.{Held, held, carried, next_held}

-- a group in lockstep does no joint operation
pub group_plain : (n : ℕ) (op : Operation) (to : Where) → goes (places.InGroup n) op true ≡ Some to → is_joint op ≡ false
group_plain n o.Begin to e = absurd (cc)
group_plain n o.Resume to e = absurd (cc)
group_plain n (o.Meet true) to e = absurd (cc)
group_plain n (o.Meet false) to e = absurd (cc)
group_plain n op to e = refl

-- with at most so many calls under way
abbrev pub AllShallow : {V : Type 0} → (depth : V → ℕ) → ℕ → List V → Type 0
AllShallow depth n [] = Unit {0}
AllShallow depth n (v ∷ vs) = (depth v ≤ n) × AllShallow depth n vs

-- what is left at each point where others are met has a joint operation next
abbrev pub AllJoin : {V : Type 0} → (next : V → Option (Step V)) → List V → Type 0
AllJoin next [] = Unit {0}
AllJoin next (v ∷ vs) = Joins next v × AllJoin next vs

first_joins : {V : Type 0} (next : V → Option (Step V)) (vs : List V) (v : V) (us : List V) → vs ≡ v ∷ us → AllJoin next vs → Joins next v
first_joins next vs v us e all = let both = subst (AllJoin next) e all in both.0

-- A program whose work stands beside positions of a list. `Good` holds of its work, and of what comes after each operation
pub record IsCarried {V : Type 0} (next_in : V → Option (Step V)) (outs_in : V → List V) (depth : V → ℕ) (core : List CoreOp) (R : V → Position → Type 0) (Good : V → Type 0) : Type 0 where
  pub leads_on : LeadsOn core
  pub own : HasOwnSites core
  pub same : (v : V) (p : Position) → R v p → Same R (next_in v) (next core p)
  pub as_many : (v : V) (p : Position) → R v p → length p.callers ≡ depth v
  pub shallow : (v : V) → AllShallow depth (depth v) (outs_in v)
  pub goes_on : (v : V) (s : Step V) → Good v → next_in v ≡ Some s → (onward : Bool) → Good (s.rest onward)
  pub joins : (v : V) → Good v → AllJoin next_in (outs_in v)
  -- who waits after parts stands in the list too, with the last calls of those who are in the parts
  pub parents : (v : V) (p : Position) (parent : V) (behind : List V) → R v p → Good v → outs_in v ≡ parent ∷ behind → ((m : ℕ) → FollowsFor next_in outs_in m (Waits true) parent)
      → Good parent × ((i : ℕ) × R parent (position i (last_of (depth parent) p.callers)))

module _ {V : Type 0} (next_in : V → Option (Step V)) (outs_in : V → List V) (depth : V → ℕ) (core : List CoreOp) (R : V → Position → Type 0) (Good : V → Type 0)
    (is_carried : IsCarried next_in outs_in depth core R Good) where
  leads_on : LeadsOn core
  leads_on = is_carried.leads_on

  abbrev pub site_of : Option (Step V) → ℕ
  site_of None = 0
  site_of (Some s) = s.site

  -- what is left where others are met, with this many calls under way
  abbrev pub met : List ℕ → V → Held V
  met cs v = held v (position (index_in core (site_of (next_in v))) (last_of (depth v) cs))

  abbrev pub outs_held : Held V → List (Held V)
  outs_held x = map (met x.at.callers) (outs_in x.work)

  abbrev pub depth_held : Held V → ℕ
  depth_held x = depth x.work

  pub record IsBeside (x : Held V) : Type 0 where
    pub raw : Position
    pub related : R x.work raw
    pub at : x.at ≡ seat core raw
    pub good : Good x.work

  -- who comes to a joint operation has a seat there, which its site tells
  is_met_by : (v : V) (p : Position) (s : Step V) (cs : List ℕ) → R v p → next_in v ≡ Some s → is_joint s.operation ≡ true → p.callers ≡ last_of (depth v) cs → held v (seat core p) ≡ met cs v
  is_met_by v p s cs r e j c = by (next core p) refl (subst (λ (a : Option (Step V)). Same R a (next core p)) e (is_carried.same v p r))
    where
      by : (u : Option (Step Position)) → next core p ≡ u → Same R (Some s) u → held v (seat core p) ≡ met cs v
      by None g h = absurd h
      by (Some u) g h =
          let f = found core p u g in
          let index : index_in core (site_of (next_in v)) ≡ landing core p.at
          = ap (λ a. index_in core (site_of a)) e ∙ ap (index_in core) (h.1 ∙ sym f.site) ∙ index_is core is_carried.own (landing core p.at) f.op u.operation f.stands f.is_read in
          ap (held v)
          (seat_joint core p u g (subst (λ (op : Operation). is_joint op ≡ true) h.0 j) ∙ ap₂ (λ i ds. position i ds) (sym index) c)

  is_met : (v : V) (p : Position) (s : Step V) (cs : List ℕ) → R v p → next_in v ≡ Some s → is_joint s.operation ≡ true → p.callers ≡ cs → held v (seat core p) ≡ met cs v
  is_met v p s cs r e j c = is_met_by v p s cs r e j (sym (ap (last_of (depth v)) (sym c) ∙ last_all (depth v) p.callers (is_carried.as_many v p r)))

  -- such a place in front of others
  listed : (v : V) (us vs : List V) (y : Held V) (cs ds : List ℕ) → us ≡ v ∷ vs → y ≡ met cs v → cs ≡ ds → map (met cs) us ≡ y ∷ map (met ds) vs
  listed v us vs y cs ds e f g = ap (map (met cs)) e ∙ ap₂ (λ (x : Held V) (ks : List ℕ). x ∷ map (met ks) vs) (sym f) g

  all_same : (n m : ℕ) (cs ds : List ℕ) (us : List V) → ((k : ℕ) → k ≤ n → k ≤ m → last_of k ds ≡ last_of k cs) → AllShallow depth n us → AllShallow depth m us → map (met ds) us ≡ map (met cs) us
  all_same n m cs ds [] h a b = refl
  all_same n m cs ds (u ∷ us) h a b =
      ap₂ (λ (ks : List ℕ) (xs : List (Held V)). held u (position (index_in core (site_of (next_in u))) ks) ∷ xs) (h (depth u) a.0 b.0) (all_same n m cs ds us h a.1 b.1)

  -- one operation
  module _ (n : ℕ) (v : V) (raw : Position) (r : R v raw) (good : Good v) (s : Step V) (u : Step Position)
      (next_is : next_in v ≡ Some s) (core_next : next core raw ≡ Some u) (h : Same R (Some s) (Some u))
      (more : (context : Context) (y : Held V) → IsBeside y → Follows next_in outs_in context y.work → FollowsFor (next_held next_in core) outs_held n context y) where
    abbrev x : Held V
    x = held v (seat core raw)

    abbrev rest : Bool → Held V
    rest onward = held (s.rest onward) (seat core (u.rest onward))

    abbrev F' : Context → Held V → Type 0
    F' context y = FollowsFor (next_held next_in core) outs_held n context y

    good_rest : (onward : Bool) → Good (s.rest onward)
    good_rest onward = is_carried.goes_on v s good next_is onward

    beside : (onward : Bool) → IsBeside (rest onward)
    beside onward = record { raw = u.rest onward; related = h.2 onward; at = refl; good = good_rest onward }

    on : (context : Context) (onward : Bool) → ((m : ℕ) → FollowsFor next_in outs_in m context (s.rest onward)) → F' context (rest onward)
    on context onward f = more context (rest onward) (beside onward) f

    f : Found core raw u
    f = found core raw u core_next

    goes_so : (onward : Bool) → u.rest onward ≡ follows core u.operation (landing core raw.at) f.op.target raw.callers onward
    goes_so onward = ap (λ (k : Bool → Position). k onward) f.rest

    -- the calls under way
    here_calls : x.at.callers ≡ raw.callers
    here_calls = seat_callers core raw

    rest_calls : (onward : Bool) → (rest onward).at.callers ≡ (u.rest onward).callers
    rest_calls onward = seat_callers core (u.rest onward)

    calls_stay : is_of_group core s.operation ≡ true → (onward : Bool) → (u.rest onward).callers ≡ raw.callers
    calls_stay e onward =
        ap (λ (p : Position). p.callers) (goes_so onward)
        ∙ stay_called core u.operation (landing core raw.at) f.op.target raw.callers onward (subst (λ (op : Operation). is_of_group core op ≡ true) h.0 e)

    rest_here : is_of_group core s.operation ≡ true → (onward : Bool) → (rest onward).at.callers ≡ x.at.callers
    rest_here e onward = rest_calls onward ∙ calls_stay e onward ∙ sym here_calls

    outs_stay : (onward : Bool) → outs_in (s.rest onward) ≡ outs_in v → outs_held (rest onward) ≡ outs_held x
    outs_stay onward e =
        ap (map (met (rest onward).at.callers)) e
        ∙ all_same (depth v) (depth (s.rest onward)) x.at.callers (rest onward).at.callers (outs_in v)
        (λ k a b.
        ap (last_of k) (rest_calls onward ∙ ap (λ (p : Position). p.callers) (goes_so onward))
        ∙ last_turned k raw.callers (follows core u.operation (landing core raw.at) f.op.target raw.callers onward).callers
        (let m = is_carried.as_many v raw r in omega (arith, m, a))
        (let m = ap (λ (p : Position). length p.callers) (sym (goes_so onward)) ∙ is_carried.as_many (s.rest onward) (u.rest onward) (h.2 onward) in omega (arith, m, b))
        (turned core u.operation (landing core raw.at) f.op.target raw.callers onward)
        ∙ ap (last_of k) (sym here_calls))
        (is_carried.shallow v) (subst (AllShallow depth (depth (s.rest onward))) e (is_carried.shallow (s.rest onward)))

    stays : (context : Context) → ((m : ℕ) → Stays next_in outs_in (FollowsFor next_in outs_in m) context v s.rest) → Stays (next_held next_in core) outs_held F' context x rest
    stays context k onward = (outs_stay onward ((k 0) onward).0, on context onward (λ m. ((k m) onward).1))

    -- here, and behind the operation, others are met
    here_met : is_joint s.operation ≡ true → x ≡ met x.at.callers v
    here_met j = is_met v raw s x.at.callers r next_is j (sym here_calls)

    rest_met : (onward : Bool) → Joins next_in (s.rest onward) → (cs : List ℕ) → (rest onward).at.callers ≡ cs → rest onward ≡ met cs (s.rest onward)
    rest_met onward j cs e = is_met (s.rest onward) (u.rest onward) j.step cs (h.2 onward) j.next_is j.is (sym (rest_calls onward) ∙ e)

    -- the first of those that are met, here and behind the operation
    here_joins : (w : V) (vs : List V) → outs_in v ≡ w ∷ vs → Joins next_in w
    here_joins w vs e = first_joins next_in (outs_in v) w vs e (is_carried.joins v good)

    rest_joins : (onward : Bool) (w : V) (vs : List V) → outs_in (s.rest onward) ≡ w ∷ vs → Joins next_in w
    rest_joins onward w vs e = first_joins next_in (outs_in (s.rest onward)) w vs e (is_carried.joins (s.rest onward) (good_rest onward))

    abbrev D : ℕ → Context → Operation → Type 0
    D m context op = Does next_in outs_in (FollowsFor next_in outs_in m) context op v s.rest

    abbrev D' : Context → Operation → Type 0
    D' context op = Does (next_held next_in core) outs_held F' context op x rest

    grouped : (op : Operation) → s.operation ≡ op → is_of_group core op ≡ true → is_of_group core s.operation ≡ true
    grouped op e g = ap (is_of_group core) e ∙ g

    opens : is_of_group core s.operation ≡ true
        → ((m : ℕ) → (outs_in (s.rest true) ≡ s.rest false ∷ outs_in v) × (outs_in (s.rest false) ≡ s.rest false ∷ outs_in v)
        × FollowsFor next_in outs_in m (ByItself true) (s.rest true) × FollowsFor next_in outs_in m (ByItself true) (s.rest false))
        → (outs_held (rest true) ≡ rest false ∷ outs_held x) × (outs_held (rest false) ≡ rest false ∷ outs_held x) × F' (ByItself true) (rest true) × F' (ByItself true) (rest false)
    opens g k =
        let j = rest_joins false (s.rest false) (outs_in v) (k 0).1 in (
          listed (s.rest false) (outs_in (s.rest true)) (outs_in v) (rest false) (rest true).at.callers x.at.callers (k 0).0
              (rest_met false j (rest true).at.callers (rest_here g false ∙ sym (rest_here g true))) (rest_here g true),
          listed (s.rest false) (outs_in (s.rest false)) (outs_in v) (rest false) (rest false).at.callers x.at.callers (k 0).1
              (rest_met false j (rest false).at.callers refl) (rest_here g false),
          on (ByItself true) true (λ m. (k m).2),
          on (ByItself true) false (λ m. (k m).3),
        )

    nothing : (onward : Bool) → next_in (s.rest onward) ≡ None → next_held next_in core (rest onward) ≡ None
    nothing onward none =
        by (next core (seat core (u.rest onward)))
        (subst (λ (b : Option (Step Position)). Same R None b) (sym (seat_next core leads_on (u.rest onward)))
        (subst (λ (a : Option (Step V)). Same R a (next core (u.rest onward))) none (is_carried.same (s.rest onward) (u.rest onward) (h.2 onward))))
      where
        by : (b : Option (Step Position)) → Same R None b → option_map (carried (seat core) (s.rest onward) (next_in (s.rest onward))) b ≡ None
        by None g = refl
        by (Some t) g = absurd g

    -- ---- a group is divided

    -- those that are met after the parts
    met_behind : is_of_group core s.operation ≡ true → (behind : List V) → behind ≡ outs_in v → map (met (rest true).at.callers) behind ≡ outs_held x
    met_behind g behind e = ap (map (met (rest true).at.callers)) e ∙ ap (λ (cs : List ℕ). map (met cs) (outs_in v)) (rest_here g true)

    -- those that are met after who waits has gone on
    met_parent : is_of_group core s.operation ≡ true → (parent : V) → outs_in parent ≡ outs_in v → outs_held (met (rest true).at.callers parent) ≡ outs_held x
    met_parent g parent e =
        let cs = (rest true).at.callers in
        ap (map (met (last_of (depth parent) cs))) e
        ∙ all_same (depth v) (depth parent) cs (last_of (depth parent) cs) (outs_in v) (λ k a b. last_again k (depth parent) cs b) (is_carried.shallow v)
        (subst (AllShallow depth (depth parent)) e (is_carried.shallow parent))
        ∙ ap (λ (ds : List ℕ). map (met ds) (outs_in v)) (rest_here g true)

    -- who waits goes on in the list
    parent_follows : is_of_group core s.operation ≡ true → (parent : V) (behind : List V) → outs_in (s.rest true) ≡ parent ∷ behind → ((m : ℕ) → FollowsFor next_in outs_in m (Waits true) parent)
        → F' (Waits true) (met (rest true).at.callers parent)
    parent_follows g parent behind e k =
        let p = is_carried.parents (s.rest true) (u.rest true) parent behind (h.2 true) (good_rest true) e k in
        let raw' : Position = position p.1.0 (last_of (depth parent) (u.rest true).callers) in
        let j = rest_joins true parent behind e in
        let is_there : held parent (seat core raw') ≡ met (rest true).at.callers parent
        = is_met_by parent raw' j.step (rest true).at.callers p.1.1 j.next_is j.is (ap (last_of (depth parent)) (sym (rest_calls true))) in
        subst (F' (Waits true)) is_there (more (Waits true) (held parent (seat core raw')) (record { raw = raw'; related = p.1.1; at = refl; good = p.0 }) k)

    abbrev P : ℕ → SplitKind → List V → Type 0
    P m by us = Parts next_in outs_in (FollowsFor next_in outs_in m) by v s.rest us

    abbrev P' : SplitKind → List (Held V) → Type 0
    P' by ys = Parts (next_held next_in core) outs_held F' by x rest ys

    -- where who waits has not entered a part
    waits_here : is_of_group core s.operation ≡ true → (parent : V) (behind : List V) → outs_in (s.rest true) ≡ parent ∷ behind → s.rest false ≡ parent → rest false ≡ met (rest true).at.callers parent
    waits_here g parent behind e same =
        let j = subst (λ (w : V). Joins next_in w) (sym same) (rest_joins true parent behind e) in
        rest_met false j (rest true).at.callers (rest_here g false ∙ sym (rest_here g true)) ∙ ap (met (rest true).at.callers) same

    parts_held : is_of_group core s.operation ≡ true → (by : SplitKind) (us : List V) → outs_in (s.rest true) ≡ us → ((m : ℕ) → P m by us) → P' by (map (met (rest true).at.callers) us)
    parts_held g IfElse [] e k = k 0
    parts_held g IfElse (parent ∷ behind) e k = (
      met_behind g behind (k 0).0,
      met_parent g parent (k 0).1,
      parent_follows g parent behind e (λ m. (k m).2),
      on (InGroup false) true (λ m. (k m).3),
      on (InGroup false) false (λ m. (k m).4),
      ap (map (met (rest false).at.callers)) (k 0).5 ∙ ap (λ (cs : List ℕ). map (met cs) (parent ∷ behind)) (rest_here g false ∙ sym (rest_here g true)),
    )
    parts_held g by [] e k = k 0
    parts_held g by (parent ∷ behind) e k = (
      met_behind g behind (k 0).0,
      met_parent g parent (k 0).1,
      parent_follows g parent behind e (λ m. (k m).2),
      on (InGroup false) true (λ m. (k m).3),
      waits_here g parent behind e (k 0).4,
    )

    does : (context : Context) (op : Operation) → s.operation ≡ op → ((m : ℕ) → D m context op) → D' context op
    does (InGroup a) (o.Branch b) e k = ((k 0).0, stays (InGroup false) (λ m. (k m).1))
    does (InGroup a) o.Block e k = ((k 0).0, stays (InGroup false) (λ m. (k m).1))
    does (InGroup a) o.Agree e k = stays (InGroup true) k
    does (InGroup a) (o.Split by) e k = parts_held (grouped (o.Split by) e refl) by (outs_in (s.rest true)) refl k
    does (InGroup a) o.Shrink e k =
        let g = grouped o.Shrink e refl in (
          outs_stay true (k 0).0,
          on (InGroup false) true (λ m. (k m).1),
          listed (s.rest false) (outs_in v) (outs_in (s.rest false)) (rest false) x.at.callers (rest false).at.callers (k 0).2
              (rest_met false (here_joins (s.rest false) (outs_in (s.rest false)) (k 0).2) x.at.callers (rest_here g false)) (sym (rest_here g false)),
        )
    does (InGroup a) o.End e k =
        let g = grouped o.End e refl in
        listed (s.rest true) (outs_in v) (outs_in (s.rest true)) (rest true) x.at.callers (rest true).at.callers (k 0)
        (rest_met true (here_joins (s.rest true) (outs_in (s.rest true)) (k 0)) x.at.callers (rest_here g true)) (sym (rest_here g true))
    does (InGroup a) o.Farm e k = opens (grouped o.Farm e refl) k
    does (InGroup a) o.Seq e k = opens (grouped o.Seq e refl) k
    does (InGroup a) o.Begin e k = k 0
    does (InGroup a) o.Resume e k = k 0
    does (InGroup a) (o.Meet true) e k = k 0
    does (InGroup a) o.Halt e k = k 0
    does (InGroup a) op e k = stays (InGroup false) k
    does (Waits b) o.Resume e k = (outs_stay true (k 0).0, on _ true (λ m. (k m).1))
    does (Waits b) op e k = k 0
    does (ByItself b) (o.Split by) e k = k 0
    does (ByItself b) o.Shrink e k = k 0
    does (ByItself b) o.End e k = k 0
    does (ByItself b) o.Farm e k = k 0
    does (ByItself b) o.Seq e k = k 0
    does (ByItself b) o.Resume e k = k 0
    does (ByItself true) o.Begin e k = k 0
    does (ByItself false) o.Begin e k =
        let g = grouped o.Begin e refl in
        let j = rest_joins true (s.rest false) (outs_in (s.rest false)) (k 0).2 in (
          listed v (outs_in v) (outs_in (s.rest false)) x x.at.callers (rest false).at.callers (k 0).0 (here_met (ap is_joint e)) (sym (rest_here g false)),
          on (Waits false) false (λ m. (k m).1),
          listed (s.rest false) (outs_in (s.rest true)) (outs_in (s.rest false)) (rest false) (rest true).at.callers (rest false).at.callers (k 0).2
              (rest_met false j (rest true).at.callers (rest_here g false ∙ sym (rest_here g true))) (rest_here g true ∙ sym (rest_here g false)),
          on (InGroup false) true (λ m. (k m).3),
        )
    does (ByItself true) (o.Meet true) e k =
        let g = grouped (o.Meet true) e refl in (
          listed v (outs_in v) (outs_in (s.rest true)) x x.at.callers (rest true).at.callers (k 0).0 (here_met (ap is_joint e)) (sym (rest_here g true)),
          on (InGroup false) true (λ m. (k m).1),
        )
    does (ByItself false) (o.Meet true) e k = k 0
    does (ByItself true) o.Halt e k = k 0
    does (ByItself false) o.Halt e k = λ onward. nothing onward ((k 0) onward)
    does (ByItself b) op e k = stays (ByItself b) k

    does_next : (context : Context) → ((m : ℕ) → D m context s.operation) → D' context u.operation
    does_next context k = subst (D' context) h.0 (does context s.operation refl k)

  -- so far
  pub follows_held : (n : ℕ) (context : Context) (x : Held V) → IsBeside x → Follows next_in outs_in context x.work → FollowsFor (next_held next_in core) outs_held n context x
  follows_held zero context x is fs = tt
  follows_held (suc n) context x is fs =
      let v = x.work in
      subst (λ (p : Position). DoesNext (next_held next_in core) outs_held (λ context' y. FollowsFor (next_held next_in core) outs_held n context' y) context (held v p) (option_map (carried (seat core) v (next_in v)) (next core p))) (sym is.at)
      (subst (λ (b : Option (Step Position)). DoesNext (next_held next_in core) outs_held (λ context' y. FollowsFor (next_held next_in core) outs_held n context' y) context (held v (seat core is.raw)) (option_map (carried (seat core) v (next_in v)) b))
      (sym (seat_next core leads_on is.raw))
      (by (λ context' y b f'. follows_held n context' y b f') (next_in v) refl (next core is.raw) refl (is_carried.same v is.raw is.related) (λ m. fs (suc m))))
    where
      by : ((context' : Context) (y : Held V) → IsBeside y → Follows next_in outs_in context' y.work → FollowsFor (next_held next_in core) outs_held n context' y)
          → (a : Option (Step V)) → next_in x.work ≡ a → (b : Option (Step Position)) → next core is.raw ≡ b → Same R a b
          → ((m : ℕ) → DoesNext next_in outs_in (FollowsFor next_in outs_in m) context x.work a)
          → DoesNext (next_held next_in core) outs_held (λ context' y. FollowsFor (next_held next_in core) outs_held n context' y) context (held x.work (seat core is.raw)) (option_map (carried (seat core) x.work a) b)
      by more None e None g h k = tt
      by more (Some s) e (Some u) g h k = does_next n x.work is.raw is.related is.good s u e g h more context k
      by more None e (Some u) g h k = absurd h
      by more (Some s) e None g h k = absurd h

  pub goes_held : (n : ℕ) (place : Where) (x : Held V) → IsBeside x → Goes next_in place x.work → GoesFor (next_held next_in core) n place x
  goes_held zero place x is gs = tt
  goes_held (suc n) place x is gs =
      let v = x.work in
      subst (λ (p : Position). GoesNext (next_held next_in core) (GoesFor (next_held next_in core) n) place (option_map (carried (seat core) v (next_in v)) (next core p))) (sym is.at)
      (subst (λ (b : Option (Step Position)). GoesNext (next_held next_in core) (GoesFor (next_held next_in core) n) place (option_map (carried (seat core) v (next_in v)) b))
      (sym (seat_next core leads_on is.raw))
      (by (λ to y b g. goes_held n to y b g) (next_in v) refl (next core is.raw) (is_carried.same v is.raw is.related)))
    where
      by : ((to : Where) (y : Held V) → IsBeside y → Goes next_in to y.work → GoesFor (next_held next_in core) n to y) → (a : Option (Step V)) → next_in x.work ≡ a → (b : Option (Step Position)) → Same R a b
          → GoesNext (next_held next_in core) (GoesFor (next_held next_in core) n) place (option_map (carried (seat core) x.work a) b)
      by more None e None h = subst (GoesNext next_in (GoesFor next_in 0) place) e (gs 1)
      by more (Some s) e (Some u) h =
          λ onward.
          let to = goes_on next_in place x.work s gs e onward in (
            to.0,
            ap (λ op. goes place op onward) (sym h.0) ∙ to.1,
            more to.0 (held (s.rest onward) (seat core (u.rest onward)))
                (record { raw = u.rest onward; related = h.2 onward; at = refl; good = is_carried.goes_on x.work s is.good e onward }) to.2,
          )
      by more None e (Some u) h = absurd h
      by more (Some s) e None h = absurd h

  -- ---- frames

  no_deeper : (d : ℕ) (cs : List ℕ) (us : List V) → NoDeeper next_in outs_in depth d us → NoDeeper (next_held next_in core) outs_held depth_held d (map (met cs) us)
  no_deeper d cs [] e = tt
  no_deeper d cs (u ∷ us) e = e

  higher : (d : ℕ) (cs : List ℕ) (us : List V) → Higher next_in outs_in depth d us → Higher (next_held next_in core) outs_held depth_held d (map (met cs) us)
  higher d cs [] e = tt
  higher d cs (u ∷ us) e = e

  as_deep : (d : ℕ) (cs : List ℕ) (us : List V) → AsDeep next_in outs_in depth d us → AsDeep (next_held next_in core) outs_held depth_held d (map (met cs) us)
  as_deep d cs [] e = tt
  as_deep d cs (u ∷ us) e = e

  calls_held : (c : Calling) (v : V) (p : Position) (rest : Bool → V) (at : Bool → Position) → Calls next_in outs_in depth c v rest
      → Calls (next_held next_in core) outs_held depth_held c (held v p) (λ onward. held (rest onward) (at onward))
  calls_held Enters v p rest at e = e
  calls_held Leaves v p rest at e = (e.0, no_deeper (depth (rest true)) p.callers (outs_in v) e.1)
  calls_held Remains v p rest at e = e

  abbrev Next : (n round : ℕ) → Bool → Held V → Option (Step (Held V)) → Type 0
  Next n round alone y t = FramedNext (next_held next_in core) outs_held depth_held (FramedFor (next_held next_in core) outs_held depth_held n) round alone y t

  pub framed_held : (n round : ℕ) (alone : Bool) (x : Held V) → IsBeside x → IsFramed next_in outs_in depth round alone x.work → FramedFor (next_held next_in core) outs_held depth_held n round alone x
  framed_held zero round alone x is fs = tt
  framed_held (suc n) round alone x is fs =
      let v = x.work in
      subst (λ (p : Position). Next n round alone (held v p) (option_map (carried (seat core) v (next_in v)) (next core p))) (sym is.at)
      (subst (λ (b : Option (Step Position)). Next n round alone (held v (seat core is.raw)) (option_map (carried (seat core) v (next_in v)) b)) (sym (seat_next core leads_on is.raw))
      (by (λ round' alone' y b f'. framed_held n round' alone' y b f') (next_in v) refl (next core is.raw) (is_carried.same v is.raw is.related) (λ m. fs (suc m))))
    where
      one : ((round' : ℕ) (alone' : Bool) (y : Held V) → IsBeside y → IsFramed next_in outs_in depth round' alone' y.work → FramedFor (next_held next_in core) outs_held depth_held n round' alone' y) → (s : Step V) (u : Step Position) → next_in x.work ≡ Some s → Same R (Some s) (Some u)
          → ((m : ℕ) → FramesGoOn next_in outs_in depth (FramedFor next_in outs_in depth m) round alone s.operation x.work s.rest)
          → FramesGoOn (next_held next_in core) outs_held depth_held (FramedFor (next_held next_in core) outs_held depth_held n) round alone s.operation (held x.work (seat core is.raw))
          (λ onward. held (s.rest onward) (seat core (u.rest onward)))
      one more s u e h k =
          let first = k 0 in
          record {
            calls = calls_held (calling s.operation) x.work (seat core is.raw) s.rest (λ onward. seat core (u.rest onward)) first.calls;
            in_group = first.in_group;
            own = λ own_frame. higher (depth x.work) (seat core is.raw).callers (outs_in x.work) (first.own own_frame);
            outermost = first.outermost;
            met = λ split. as_deep (depth x.work) (seat core (u.rest true)).callers (outs_in (s.rest true)) (first.met split);
            goes_on = λ onward.
                more (round_after s.operation onward round) (alone_after s.operation round alone) (held (s.rest onward) (seat core (u.rest onward)))
                (record { raw = u.rest onward; related = h.2 onward; at = refl; good = is_carried.goes_on x.work s is.good e onward }) (λ m. (k m).goes_on onward);
          }

      by : ((round' : ℕ) (alone' : Bool) (y : Held V) → IsBeside y → IsFramed next_in outs_in depth round' alone' y.work → FramedFor (next_held next_in core) outs_held depth_held n round' alone' y)
          → (a : Option (Step V)) → next_in x.work ≡ a → (b : Option (Step Position)) → Same R a b
          → ((m : ℕ) → FramedNext next_in outs_in depth (FramedFor next_in outs_in depth m) round alone x.work a)
          → Next n round alone (held x.work (seat core is.raw)) (option_map (carried (seat core) x.work a) b)
      by more None e None h k = tt
      by more (Some s) e (Some u) h k =
          subst (λ (op : Operation). FramesGoOn (next_held next_in core) outs_held depth_held (FramedFor (next_held next_in core) outs_held depth_held n) round alone op (held x.work (seat core is.raw))
          (λ onward. held (s.rest onward) (seat core (u.rest onward)))) h.0 (one more s u e h k)
      by more None e (Some u) h k = absurd h
      by more (Some s) e None h k = absurd h

  -- ---- numbers of parts

  module _ (counts : Counts V) where
    abbrev pub counts_held : Counts (Held V)
    counts_held = record {
      pending = λ x. counts.pending x.work;
      are_pending = λ x p ns. counts.are_pending x.work p ns;
      many = λ x p ns pending. counts.many x.work p ns pending;
    }

    as_many : (n : ℕ) (cs : List ℕ) (us : List V) → AsMany next_in outs_in counts n us → AsMany (next_held next_in core) outs_held counts_held n (map (met cs) us)
    as_many n cs [] e = tt
    as_many n cs (u ∷ us) e = e

    no_more : (n : ℕ) (cs : List ℕ) (us : List V) → NoMore next_in outs_in counts n us → NoMore (next_held next_in core) outs_held counts_held n (map (met cs) us)
    no_more n cs [] e = tt
    no_more n cs (u ∷ us) e = e

    leaves_held : (c : Class) (op : Operation) (v : V) (p : Position) (rest : Bool → V) (at : Bool → Position) → counting.Leaves next_in outs_in counts c op v rest
        → counting.Leaves (next_held next_in core) outs_held counts_held c op (held v p) (λ onward. held (rest onward) (at onward))
    leaves_held class.Local op v p rest at e = e
    leaves_held class.Request op v p rest at e = e
    leaves_held class.Tree op v p rest at e = e

    counts_go : (op : Operation) (v : V) (p : Position) (rest : Bool → V) (at : Bool → Position) → CountsGoOn next_in outs_in counts op v rest
        → CountsGoOn (next_held next_in core) outs_held counts_held op (held v p) (λ onward. held (rest onward) (at onward))
    counts_go o.Agree v p rest at e = e
    counts_go (o.Split Fork) v p rest at e = (e.0, no_more (counts.pending (rest true)) p.callers (outs_in v) e.1)
    counts_go (o.Split IfElse) v p rest at e = (e.0, as_many (counts.pending v) (at true).callers (outs_in (rest true)) e.1)
    counts_go (o.Split by) v p rest at e = e
    counts_go o.Farm v p rest at e = (e.0, as_many (counts.pending v) (at true).callers (outs_in (rest true)) e.1)
    counts_go o.Begin v p rest at e = e
    counts_go op v p rest at e = leaves_held (class_of op) op v p rest at e

    abbrev CountsNext : (n : ℕ) → Held V → Option (Step (Held V)) → Type 0
    CountsNext n y t = CountedNext (next_held next_in core) outs_held counts_held (CountedFor (next_held next_in core) outs_held counts_held n) y t

    pub counted_held : (n : ℕ) (x : Held V) → IsBeside x → IsCounted next_in outs_in counts x.work → CountedFor (next_held next_in core) outs_held counts_held n x
    counted_held zero x is fs = tt
    counted_held (suc n) x is fs =
        let v = x.work in
        subst (λ (p : Position). CountsNext n (held v p) (option_map (carried (seat core) v (next_in v)) (next core p))) (sym is.at)
        (subst (λ (b : Option (Step Position)). CountsNext n (held v (seat core is.raw)) (option_map (carried (seat core) v (next_in v)) b)) (sym (seat_next core leads_on is.raw))
        (by (λ y b f'. counted_held n y b f') (next_in v) refl (next core is.raw) (is_carried.same v is.raw is.related) (λ m. fs (suc m))))
      where
        by : ((y : Held V) → IsBeside y → IsCounted next_in outs_in counts y.work → CountedFor (next_held next_in core) outs_held counts_held n y)
            → (a : Option (Step V)) → next_in x.work ≡ a → (b : Option (Step Position)) → Same R a b
            → ((m : ℕ) → CountedNext next_in outs_in counts (CountedFor next_in outs_in counts m) x.work a)
            → CountsNext n (held x.work (seat core is.raw)) (option_map (carried (seat core) x.work a) b)
        by more None e None h k = tt
        by more (Some s) e (Some u) h k = (
          subst (λ (op : Operation). CountsGoOn (next_held next_in core) outs_held counts_held op (held x.work (seat core is.raw)) (λ onward. held (s.rest onward) (seat core (u.rest onward)))) h.0
              (counts_go s.operation x.work (seat core is.raw) s.rest (λ onward. seat core (u.rest onward)) (k 0).0),
          λ onward.
              more (held (s.rest onward) (seat core (u.rest onward)))
              (record { raw = u.rest onward; related = h.2 onward; at = refl; good = is_carried.goes_on x.work s is.good e onward }) (λ m. (k m).1 onward),
        )
        by more None e (Some u) h k = absurd h
        by more (Some s) e None h k = absurd h
