-- The code of every form leads from a place to its end: first expressions.
use Rattle.std.proofs.Common.{◌≡◌, ℕ, suc, Bool, true, false, true≢false, not, List, [], ◌∷◌, length, Option, Some, None, ap, ◌∙◌, sym, refl, subst}
use Rattle.std.specs.Prelude.{if◌then◌else◌}
use Rattle.fk_syntax.specs.declared.place.Place.{Place}
use Rattle.fk_syntax.specs.declared.place.Spot.{Spot}
use Rattle.fk_syntax.specs.Tree.{Named, Tree}
use Rattle.fk_syntax.specs.Program.{DeclaredTree}
use Rattle.fk_meaning_operation.specs.declared.kinds.Class.TheVariants.{Request}
use Rattle.fk_meaning_operation.specs.declared.operation.Operation.{Operation}
use Rattle.fk_meaning_operation.specs.declared.operation.Operation.TheVariants as o
use Rattle.fk_meaning_operation.specs.declared.operation.OwnValue.TheVariants as own
use Rattle.fk_meaning_operation.specs.declared.operation.Variable.TheVariants as v
use Rattle.fk_meaning_operation.specs.declared.operation.Multiprefix.{Multiprefix}
use Rattle.fk_meaning_operation.specs.declared.operation.Multiprefix.TheVariants.{MpAdd, MpMax, MpAnd, MpOr}
use Rattle.fk_meaning_operation.specs.declared.operation.SplitKind.{SplitKind}
use Rattle.fk_meaning_operation.specs.declared.operation.SplitKind.TheVariants as sk
use Rattle.fk_meaning_operation.specs.Kinds.{class_of}
use Rattle.fk_meaning_forms.specs.declared.tables.Region.{Region}
use Rattle.fk_meaning_forms.specs.Code.{done, perform, choose}
use Rattle.fk_meaning_forms.specs.Tables.{Tables, note, slot, frame_at}
use Rattle.fk_meaning_forms.specs.Expressions.{Coded, nowhere, plain, ResultLocation, Signature, agreed, addressed, assigned, dropped, variable, framed, parameters, value}
use Rattle.fk_meaning.specs.Shape.{Exits, none, of_arm, ends_part, has_two_parts, waits, Shape}
use Rattle.fk_meaning.proofs.Spine.{untrue}
use Rattle.fk_meaning.proofs.Kept.{entered}
use Rattle.fk_lockstep.proofs.Kept as k
use Rattle.fk_lockstep.proofs.Kept.{SharesAgree, all_agree, IsKept}
use Rattle.fk_lockstep_tree.specs.Where.{Where, InRoot, Waits, InGroup, InBody, goes, stays}
use Rattle.fk_lockstep_structure.specs.Placed.{Who, OfGroup, OfBody, OfMain, is_group, inner}
use Rattle.fk_lockstep_structure.specs.InPlace.{Splits, Calls, InPlace, NoneShared}
use Rattle.fk_lockstep_structure.proofs.Behind.{either_no}
use Rattle.fk_lockstep_tree.specs.Leads.{is_in_group, Comes, Loop, turning, Leads}

-- who runs code: processors by themselves in `main`, or in a function that is called in the root; a group, with so many groups around it;
-- or the processors of a group by themselves, in its body
pub data Base : Type 0 where
  Main : Base
  Root : Base
  Group : (depth : ℕ) → Base
  Body : (depth : ℕ) → Base

abbrev pub place_of : Base → Where
place_of Main = InRoot
place_of Root = InRoot
place_of (Group n) = InGroup n
place_of (Body n) = InBody n

abbrev pub in_group : Base → Bool
in_group (Group n) = true
in_group base = false

abbrev pub who_of : Base → (outermost : Bool) → Who
who_of Main outermost = OfMain outermost
who_of Root outermost = OfBody
who_of (Group n) outermost = OfGroup
who_of (Body n) outermost = OfBody

pub inner_is : (b : Base) (outermost : Bool) → inner (who_of b outermost) ≡ who_of b false
inner_is Main outermost = refl
inner_is Root outermost = refl
inner_is (Group n) outermost = refl
inner_is (Body n) outermost = refl

pub group_is : (b : Base) (outermost : Bool) → is_group (who_of b outermost) ≡ in_group b
group_is Main outermost = refl
group_is Root outermost = refl
group_is (Group n) outermost = refl
group_is (Body n) outermost = refl

called_in : (b : Base) → is_in_group (place_of b) ≡ in_group b
called_in Main = refl
called_in Root = refl
called_in (Group n) = refl
called_in (Body n) = refl

-- which group that is
abbrev pub IsGroup : Base → Type 0
IsGroup b = (depth : ℕ) × (b ≡ Group depth)

pub group_of : (b : Base) → in_group b ≡ true → IsGroup b
group_of Main e = untrue e
group_of Root e = untrue e
group_of (Group n) e = (n, refl)
group_of (Body n) e = untrue e

-- operations that leave a processor where it is
abbrev pub keeps : Operation → Bool
keeps (o.Leave gives framed) = not framed
keeps o.Begin = false
keeps o.Agree = false
keeps (o.Frame nesting words) = false
keeps o.Block = false
keeps (o.Split by) = false
keeps o.Shrink = false
keeps o.End = false
keeps o.Resume = false
keeps o.Farm = false
keeps o.Seq = false
keeps (o.Meet closes) = false
keeps o.Halt = false
keeps op = true

is_request : (by : Multiprefix) → class_of (o.Combine by) ≡ Request
is_request MpAdd = refl
is_request MpMax = refl
is_request MpAnd = refl
is_request MpOr = refl

pub keeps_at : (b : Base) (op : Operation) → keeps op ≡ true → Comes (place_of b) op (place_of b)
keeps_at b o.Begin e way = untrue e
keeps_at b o.Agree e way = untrue e
keeps_at b (o.Frame nesting words) e way = untrue e
keeps_at b o.Block e way = untrue e
keeps_at b (o.Split by) e way = untrue e
keeps_at b o.Shrink e way = untrue e
keeps_at b o.End e way = untrue e
keeps_at b o.Resume e way = untrue e
keeps_at b o.Farm e way = untrue e
keeps_at b o.Seq e way = untrue e
keeps_at b (o.Meet closes) e way = untrue e
keeps_at b o.Halt e way = untrue e
keeps_at b (o.Leave gives true) e way = untrue e
keeps_at Main (o.Combine by) e way = ap (λ c. stays c InRoot) (is_request by)
keeps_at Root (o.Combine by) e way = ap (λ c. stays c InRoot) (is_request by)
keeps_at (Group n) (o.Combine by) e way = ap (λ c. stays c (InGroup n)) (is_request by)
keeps_at (Body n) (o.Combine by) e way = ap (λ c. stays c (InBody n)) (is_request by)
keeps_at Main (o.Leave gives false) e way = refl
keeps_at Root (o.Leave gives false) e way = refl
keeps_at (Group n) (o.Leave gives false) e way = refl
keeps_at (Body n) (o.Leave gives false) e way = refl
keeps_at Main op e way = refl
keeps_at Root op e way = refl
keeps_at (Group n) op e way = refl
keeps_at (Body n) op e way = refl

-- so do operations that expressions perform by themselves
keeps_of : (op : Operation) → k.is_quiet op ≡ true → keeps op ≡ true
keeps_of (o.Leave gives framed) e = untrue e
keeps_of o.Begin e = untrue e
keeps_of o.Agree e = untrue e
keeps_of (o.Frame nesting words) e = untrue e
keeps_of o.Block e = untrue e
keeps_of (o.Split by) e = untrue e
keeps_of o.Shrink e = untrue e
keeps_of o.End e = untrue e
keeps_of o.Resume e = untrue e
keeps_of o.Farm e = untrue e
keeps_of o.Seq e = untrue e
keeps_of (o.Meet closes) e = untrue e
keeps_of o.Halt e = untrue e
keeps_of op e = refl

pub no_end : (op : Operation) → k.is_quiet op ≡ true → ends_part op ≡ false
no_end o.End e = untrue e
no_end op e = refl

-- the place at which a loop is left: that of its turns, if all leave it together. The members of the part of a private loop leave it one
-- by one, and wait
abbrev pub IsLeft : (shrinking : Bool) → Base → (left : Where) → Type 0
IsLeft true base left = (depth : ℕ) × (base ≡ Group (suc depth)) × (left ≡ Waits (suc depth))
IsLeft false base left = left ≡ place_of base

-- a loop around code, whose turns begin at the code's place, or which is left there
abbrev pub TurnsAt : Where → Option Loop → Type 0
TurnsAt at loop = (left : Where) × (loop ≡ Some (turning at left))

abbrev pub LeftAt : Where → Option Loop → Type 0
LeftAt at loop = (from : Where) × (loop ≡ Some (turning from at))

-- what is wanted of code: who runs it, in which function and loop, which exits it may take, and whether it ends a part
pub record Want : Type 0 where
  pub base : Base
  pub outermost : Bool
  pub function : Where
  pub loop : Option Loop
  pub exits : Exits
  pub part : Bool
  pub breaks : exits.breaks ≡ true → LeftAt (place_of base) loop
  pub continues : exits.continues ≡ true → TurnsAt (place_of base) loop
  pub tests : exits.tests ≡ true → (left : Where) × (loop ≡ Some (turning (place_of base) left)) × IsLeft exits.shrinking base left
  pub returns : exits.returns ≡ true → place_of base ≡ function
  pub parted : part ≡ true → IsGroup base

-- who ends a part waits for the others
abbrev pub waiting_of : Base → Where
waiting_of (Group n) = Waits n
waiting_of base = Waits 0

abbrev pub end_of_part : Base → (part : Bool) → Where
end_of_part base part = if part then waiting_of base else place_of base

-- in an arm
abbrev pub arm : Want → Want
arm w = record {
  base = w.base;
  outermost = false;
  function = w.function;
  loop = w.loop;
  exits = of_arm w.exits;
  part = false;
  breaks = w.breaks;
  continues = w.continues;
  tests = λ e. untrue e;
  returns = w.returns;
  parted = λ e. untrue e;
}

-- in a part that a group makes
abbrev pub within : Want → (depth : ℕ) → (part : Bool) → Want
within w depth part = record {
  base = Group (suc depth);
  outermost = false;
  function = w.function;
  loop = w.loop;
  exits = none;
  part = part;
  breaks = λ e. untrue e;
  continues = λ e. untrue e;
  tests = λ e. untrue e;
  returns = λ e. untrue e;
  parted = λ e. (suc depth, refl);
}

-- what is wanted of code, or of all arms and parts that may stand in it
pub record Wanted : Type 0 where
  pub want : Want
  pub inner : Bool

abbrev pub exactly : Want → Wanted
exactly w = record { want = w; inner = false }

abbrev pub inside : Wanted → Wanted
inside w = record { want = w.want; inner = true }

module _ (tables : Tables) (functions : (binding : ℕ) → Signature) (may_call : (in_group : Bool) → (function : ℕ) → Bool)
    (unshared : (binding : ℕ) → may_call false binding ≡ true → NoneShared (functions binding).parameters)
    (frameless : (binding : ℕ) → may_call false binding ≡ true → frame_at tables (functions binding).at 0 ≡ None) where
  -- code of the right shape leads
  abbrev pub Fine : Want → Coded → Type 0
  Fine w code = Shape w.part false w.exits code → Leads may_call w.function w.loop (place_of w.base) code (end_of_part w.base w.part)

  pub ends_here : (w : Want) → w.part ≡ false → place_of w.base ≡ end_of_part w.base w.part
  ends_here w e = sym (ap (λ b. if b then waiting_of w.base else place_of w.base) e)

  -- what a group does in its group
  in_its_group : (w : Want) (t : Place) (op : Operation) → ((n : ℕ) → Comes (InGroup n) op (InGroup n)) → ends_part op ≡ false → in_group w.base ≡ true → (rest : Coded) → Fine w rest → Fine w (perform t op rest)
  in_its_group w t op comes no_part g rest p = λ shape. (place_of w.base, by w.base g, p (either_no (ends_part op) _ _ shape.2 no_part))
    where
      by : (b : Base) → in_group b ≡ true → Comes (place_of b) op (place_of b)
      by Main f = untrue f
      by Root f = untrue f
      by (Group n) f = comes n
      by (Body n) f = untrue f

  pub agrees : (w : Want) → in_group w.base ≡ true → (rest : Coded) → Fine w rest → Fine w (plain o.Agree rest)
  agrees w g rest p = in_its_group w nowhere o.Agree (λ n way. refl) refl g rest p

  pub frames : (w : Want) → in_group w.base ≡ true → (r : Option Region) (place : Place) (rest : Coded) → Fine w rest → Fine w (framed tables functions r place rest)
  frames w g None place rest p = p
  frames w g (Some r) place rest p = in_its_group w place (o.Frame r.level r.words) (λ n way. refl) refl g rest p

  allots : (w : Want) → in_group w.base ≡ true → (rest : Coded) → Fine w rest → Fine w (plain o.Agree (plain o.Block rest))
  allots w g rest p = agrees w g (plain o.Block rest) (in_its_group w nowhere o.Block (λ n way. refl) refl g rest p)

  pub agrees_or : (w : Want) (sync : Bool) → (sync ≡ true → in_group w.base ≡ true) → (rest : Coded) → Fine w rest → Fine w (agreed sync rest)
  agrees_or w true e rest p = agrees w (e refl) rest p
  agrees_or w false e rest p = p

  pub agreed_there : (w : Want) (at : ℕ) → Splits tables may_call (in_group w.base) at → (note tables at).sync ≡ true → in_group w.base ≡ true
  agreed_there w at splits is = splits.1 is

  pub performs : (w : Want) (t : Place) (op : Operation) (rest : Coded) → k.is_quiet op ≡ true → Fine w rest → Fine w (perform t op rest)
  performs w t op rest e p = λ shape. (place_of w.base, keeps_at w.base op (keeps_of op e), p (either_no (ends_part op) _ _ shape.2 (no_end op e)))

  pub chooses : (w : Want) (t : Place) (on : Bool) (a b rest : Coded) → Fine (arm w) a → Fine (arm w) b → Fine w rest → Fine w (choose t (o.Branch on) a b rest)
  chooses w t on a b rest p q r = λ shape. (
    place_of w.base,
    place_of w.base,
    place_of w.base,
    place_of w.base,
    keeps_at w.base (o.Branch on) refl true,
    keeps_at w.base (o.Branch on) refl false,
    p shape.2,
    q shape.3,
    r shape.6,
    r shape.6,
  )

  branches : (w : Want) (spot : Spot) (onward : Bool) (a b rest : Coded) → Splits tables may_call (in_group w.base) spot.at → Fine (arm w) a → Fine (arm w) b → Fine w rest
      → Fine w (agreed (note tables spot.at).sync (choose nowhere (o.Branch onward) a b rest))
  branches w spot onward a b rest splits p q r =
      agrees_or w (note tables spot.at).sync (agreed_there w spot.at splits) (choose nowhere (o.Branch onward) a b rest) (chooses w nowhere onward a b rest p q r)

  -- ---- groups that split

  -- a group goes on where the members waited for its parts
  resumes : (w : Want) (n : ℕ) → w.base ≡ Group n → (rest : Coded) → Leads may_call w.function w.loop (place_of w.base) rest (end_of_part w.base w.part)
      → Leads may_call w.function w.loop (Waits (suc n)) (plain o.Resume rest) (end_of_part w.base w.part)
  resumes w n e rest p =
      (InGroup n, (λ way. refl), subst (λ (b : Base). Leads may_call w.function w.loop (place_of b) rest (end_of_part w.base w.part)) e p)

  -- a split into one part, for which the others wait; and into two
  divides_once : (w : Want) (n : ℕ) → w.base ≡ Group n → (t : Place) (by : SplitKind) → has_two_parts (o.Split by) ≡ false → waits (o.Split by) ≡ true
      → (a b rest : Coded) → Fine (within w n true) a → Fine w rest → Fine w (choose t (o.Split by) a b (plain o.Resume rest))
  divides_once w n e t by one waiting a b rest p r = λ shape.
      let behind = resumes w n e rest (r shape.6.2) in (
        InGroup (suc n),
        Waits (suc n),
        Waits (suc n),
        Waits (suc n),
        subst (λ (base : Base). goes (place_of base) (o.Split by) true ≡ Some (InGroup (suc n))) (sym e) (enters by one),
        subst (λ (base : Base). goes (place_of base) (o.Split by) false ≡ Some (Waits (suc n))) (sym e) (remains by one),
        p shape.2,
        subst (λ (code : Coded). Leads may_call w.function w.loop (Waits (suc n)) code (Waits (suc n))) (sym (shape.4 waiting)) refl,
        behind,
        behind,
      )
    where
      enters : (by' : SplitKind) → has_two_parts (o.Split by') ≡ false → goes (InGroup n) (o.Split by') true ≡ Some (InGroup (suc n))
      enters sk.IfAlone f = refl
      enters sk.IfElse f = absurd (true≢false f)
      enters sk.AndThen f = refl
      enters sk.OrElse f = refl
      enters sk.Loop f = refl
      enters sk.Fork f = refl

      remains : (by' : SplitKind) → has_two_parts (o.Split by') ≡ false → goes (InGroup n) (o.Split by') false ≡ Some (Waits (suc n))
      remains sk.IfAlone f = refl
      remains sk.IfElse f = absurd (true≢false f)
      remains sk.AndThen f = refl
      remains sk.OrElse f = refl
      remains sk.Loop f = refl
      remains sk.Fork f = refl

  divides_twice : (w : Want) (n : ℕ) → w.base ≡ Group n → (t : Place) (a b rest : Coded) → Fine (within w n true) a → Fine (within w n true) b → Fine w rest
      → Fine w (choose t (o.Split sk.IfElse) a b (plain o.Resume rest))
  divides_twice w n e t a b rest p q r = λ shape.
      let behind = resumes w n e rest (r shape.6.2) in
      let enters = λ (way : Bool). subst (λ (base : Base). goes (place_of base) (o.Split sk.IfElse) way ≡ Some (InGroup (suc n))) (sym e) refl in (
        InGroup (suc n),
        InGroup (suc n),
        Waits (suc n),
        Waits (suc n),
        enters true,
        enters false,
        p shape.2,
        q shape.3,
        behind,
        behind,
      )

  pub divides : (w : Want) (n : ℕ) → w.base ≡ Group n → (t : Place) (by : SplitKind) (a b rest : Coded) → Fine (within w n true) a → Fine (within w n true) b → Fine w rest
      → Fine w (choose t (o.Split by) a b (plain o.Resume rest))
  divides w n e t sk.IfAlone a b rest p q r = divides_once w n e t sk.IfAlone refl refl a b rest p r
  divides w n e t sk.IfElse a b rest p q r = divides_twice w n e t a b rest p q r
  divides w n e t sk.AndThen a b rest p q r = divides_once w n e t sk.AndThen refl refl a b rest p r
  divides w n e t sk.OrElse a b rest p q r = divides_once w n e t sk.OrElse refl refl a b rest p r
  divides w n e t sk.Loop a b rest p q r = divides_once w n e t sk.Loop refl refl a b rest p r
  divides w n e t sk.Fork a b rest p q r = divides_once w n e t sk.Fork refl refl a b rest p r

  pub ended : (w : Want) → Fine w done
  ended w = λ shape. ends_here w shape.1

  pub part_ended : (w : Want) → Fine w (plain o.End done)
  part_ended w = λ shape.
      let group = w.parted shape.2.0 in (
        Waits group.0,
        subst (λ (b : Base). Comes (place_of b) o.End (Waits group.0)) (sym group.1) (λ way. refl),
        sym (ap (λ b. if b then waiting_of w.base else place_of w.base) shape.2.0 ∙ ap waiting_of group.1),
      )

  -- the words of `sh` parameters get their values
  opens : (b : Base) (i : ℕ) (xs : List DeclaredTree) → Leads may_call (place_of b) None (place_of b) (parameters tables functions i xs) (place_of b)
  opens b i [] = refl
  opens b i (x ∷ xs) = by x.shared (opens b (suc i) xs)
    where
      p : Where
      p = place_of b

      word : Operation
      word = o.Get (own.FrameAddress 0 (slot tables (note tables x.name.at).binding).index)

      value_given : Operation
      value_given = o.Get (own.Value (v.Private i))

      others : Coded
      others = parameters tables functions (suc i) xs

      by : (shared : Bool) → Leads may_call p None p others p
          → Leads may_call p None p (if shared then plain word (plain value_given (plain o.Write (plain o.DropLast others))) else others) p
      by true more =
          (p, keeps_at b word refl, (p, keeps_at b value_given refl, (p, keeps_at b o.Write refl, (p, keeps_at b o.DropLast refl, more))))
      by false more = more

  some_is_none : {A : Type 0} (r : Region) → Some r ≡ None → A
  some_is_none r e = absurd (cc)

  -- only a group enters a function with a frame
  opens_framed : (b : Base) (r : Option Region) (place : Place) (i : ℕ) (xs : List DeclaredTree) → (in_group b ≡ false → r ≡ None)
      → Leads may_call (place_of b) None (place_of b) (framed tables functions r place (parameters tables functions i xs)) (place_of b)
  opens_framed b None place i xs only = opens b i xs
  opens_framed Main (Some r) place i xs only = some_is_none r (only refl)
  opens_framed Root (Some r) place i xs only = some_is_none r (only refl)
  opens_framed (Group n) (Some r) place i xs only = (InGroup n, (λ way. refl), opens (Group n) i xs)
  opens_framed (Body n) (Some r) place i xs only = some_is_none r (only refl)

  enters : (w : Want) (name : Named) (rest : Coded) → Calls tables may_call (in_group w.base) name → Fine w rest → Fine w (entered tables functions name rest)
  enters w name rest means p =
      let function = functions (note tables name.at).binding in
      λ shape. (
        keeps_at w.base (o.Enter (length function.parameters)) refl,
        subst (λ b. may_call b (note tables name.at).binding ≡ true) (sym (called_in w.base)) means.0,
        opens_framed w.base (frame_at tables function.at 0) name.place 0 function.parameters
            (λ alone. frameless (note tables name.at).binding (subst (λ b. may_call b (note tables name.at).binding ≡ true) alone means.0)),
        p shape.3,
      )

  -- ---- all arms and parts that may stand in code

  abbrev FineBy : Want → (inner : Bool) → Coded → Type 0
  FineBy w false code = Fine w code
  FineBy w true code = Fine (arm w) code × ((depth : ℕ) (part : Bool) → in_group w.base ≡ true → Fine (within w depth part) code)

  abbrev pub FineIn : Wanted → Coded → Type 0
  FineIn w code = FineBy w.want w.inner code

  -- what each of them makes of code, and of two pieces of code
  every : (w : Want) (inner : Bool) (code : Coded) → ((x : Want) → in_group x.base ≡ in_group w.base → Fine x code) → FineBy w inner code
  every w false code go = go w refl
  every w true code go = (go (arm w) refl, λ depth part g. go (within w depth part) (sym g))

  each : (w : Want) (inner : Bool) (code made : Coded) → ((x : Want) → in_group x.base ≡ in_group w.base → Fine x code → Fine x made) → FineBy w inner code → FineBy w inner made
  each w false code made go p = go w refl p
  each w true code made go p = (go (arm w) refl p.0, λ depth part g. go (within w depth part) (sym g) (p.1 depth part g))

  branch_each : (w : Want) (inner : Bool) (spot : Spot) (onward : Bool) (a b rest : Coded) → Splits tables may_call (in_group w.base) spot.at → FineBy w true a → FineBy w true b
      → FineBy w inner rest → FineBy w inner (agreed (note tables spot.at).sync (choose nowhere (o.Branch onward) a b rest))
  branch_each w false spot onward a b rest splits p q r = branches w spot onward a b rest splits p.0 q.0 r
  branch_each w true spot onward a b rest splits p q r = (
    branches (arm w) spot onward a b rest splits p.0 q.0 r.0,
    λ depth part g. branches (within w depth part) spot onward a b rest ((λ e. refl), (λ e. refl)) (p.1 depth false g) (q.1 depth false g) (r.1 depth part g),
  )

  divide_each : (w : Want) (inner : Bool) (t : Place) (by : SplitKind) (a b rest : Coded) → in_group w.base ≡ true → FineBy w true a → FineBy w true b → FineBy w inner rest
      → FineBy w inner (choose t (o.Split by) a b (plain o.Resume rest))
  divide_each w false t by a b rest g p q r = let group = group_of w.base g in divides w group.0 group.1 t by a b rest (p.1 group.0 true g) (q.1 group.0 true g) r
  divide_each w true t by a b rest g p q r =
      let group = group_of w.base g in (
        divides (arm w) group.0 group.1 t by a b rest (p.1 group.0 true g) (q.1 group.0 true g) r.0,
        λ depth part f. divides (within w depth part) (suc depth) refl t by a b rest (p.1 (suc depth) true g) (q.1 (suc depth) true g) (r.1 depth part f),
      )

  share_each : (w : Want) (inner : Bool) (name : Named) → Calls tables may_call (in_group w.base) name
      → SharesAgree FineIn (record { want = w; inner = inner }) (functions (note tables name.at).binding).parameters
  share_each w inner name means = by (in_group w.base) refl means.0
    where
      never : (xs : List DeclaredTree) → NoneShared xs → SharesAgree FineIn (record { want = w; inner = inner }) xs
      never [] h = tt
      never (x ∷ xs) h = ((λ e rest p. absurd (true≢false (sym e ∙ h.0))), never xs h.1)

      by : (b : Bool) → in_group w.base ≡ b → may_call b (note tables name.at).binding ≡ true
          → SharesAgree FineIn (record { want = w; inner = inner }) (functions (note tables name.at).binding).parameters
      by true is may =
          all_agree FineIn (record { want = w; inner = inner }) (λ rest p. each w inner rest (plain o.Agree rest) (λ x same. agrees x (same ∙ is) rest) p)
          (functions (note tables name.at).binding).parameters
      by false is may = never (functions (note tables name.at).binding).parameters (unshared (note tables name.at).binding may)

  called_there : (a b : Bool) (name : Named) → a ≡ b → Calls tables may_call b name → Calls tables may_call a name
  called_there a b name e h = subst (λ c. Calls tables may_call c name) (sym e) h

  pub kept : IsKept tables functions Wanted FineIn (λ w. Splits tables may_call (in_group w.want.base)) (λ w. Calls tables may_call (in_group w.want.base))
  kept = record {
    inner = inside;
    told = λ w e h. h;
    performs = λ w t op rest e p. each w.want w.inner rest (perform t op rest) (λ x same. performs x t op rest e) p;
    allots = λ w name rest means a p. each w.want w.inner rest (plain o.Agree (plain o.Block rest)) (λ x same. allots x (same ∙ means.1 a) rest) p;
    ends = λ w. every w.want w.inner done (λ x same. ended x);
    part_ends = λ w. every w.want w.inner (plain o.End done) (λ x same. part_ended x);
    divides = λ w spot by a b rest e splits is p q r. divide_each w.want w.inner spot.place by a b rest (splits.0 is) p q r;
    branches = λ w spot onward a b rest splits p q r. branch_each w.want w.inner spot onward a b rest splits p q r;
    shares = λ w name means. share_each w.want w.inner name means;
    enters = λ w name rest means p.
        each w.want w.inner rest (entered tables functions name rest) (λ x same. enters x name rest (called_there (in_group x.base) (in_group w.want.base) name same means)) p;
  }

  pub addresses : (w : Want) (s : ResultLocation) (rest : Coded) → Fine w rest → Fine w (addressed tables functions s rest)
  addresses w s rest p = k.addresses kept (exactly w) s rest p

  pub assigns : (w : Want) (s : ResultLocation) (rest : Coded) → Fine w rest → Fine w (assigned tables functions s rest)
  assigns w s rest p = k.assigns kept (exactly w) s rest p

  pub drops : (w : Want) (at : ℕ) (rest : Coded) → Fine w rest → Fine w (dropped tables functions at rest)
  drops w at rest p = k.drops kept (exactly w) at rest p

  pub names : (w : Want) (name : Named) → Calls tables may_call (in_group w.base) name → k.Good kept (exactly w) (variable tables functions name)
  names w name means = k.names kept (exactly w) name means

  pub value_leads : (w : Want) (e : Tree) → InPlace tables may_call (in_group w.base) e → (rest : Coded) → Fine w rest → Fine w (value tables functions e rest)
  value_leads w e told rest p = k.value_is_kept kept (exactly w) e told rest p
