-- The code of statements and functions is well typed.
use Rattle.std.proofs.Common.{◌≡◌, inl, inr, ℕ, suc, Bool, true, false, List, [], ◌∷◌, Option, Some, None, refl, sym, subst, ◌∙◌, arith}
use Rattle.std.specs.Prelude.{not, is_some, if◌then◌else◌}
use Rattle.std.proofs.lemmas.Bool.{false≢true}
use Rattle.fk_syntax.specs.declared.place.Place as y
use Rattle.fk_syntax.specs.declared.place.Spot.{Spot}
use Rattle.fk_syntax.specs.Tree.{Tree}
use Rattle.fk_syntax.specs.Program as m
use Rattle.fk_syntax.specs.Program.{DeclaredTree, Statement, Statements}
use Rattle.fk_meaning_operation.specs.declared.operation.Operation.TheVariants as o
use Rattle.fk_meaning_operation.specs.declared.operation.OwnValue.TheVariants as n
use Rattle.fk_meaning_operation.specs.declared.operation.SplitKind.TheVariants as kinds
use Rattle.fk_meaning_forms.specs.declared.tables.Region.{Region}
use Rattle.fk_meaning.specs.Shape.{Exits, none, of_function, of_turn}
use Rattle.fk_meaning.specs.Shaped.{of_branch, StatementShaped, StatementsShaped}
use Rattle.fk_meaning_forms.specs.Code as c
use Rattle.fk_meaning_forms.specs.Code.{done, choose, quit, ends}
use Rattle.fk_meaning_forms.specs.Tables.{Tables, note, is_void, frame_at}
use Rattle.fk_meaning_forms.specs.Expressions.{Coded, nowhere, plain, agreed, token, Signature, addressed, assigned, dropped, variable, framed, evaluated, value}
use Rattle.fk_meaning_forms.specs.Statements.{Inside, is_scalar, used, used_or, value_or, declared, all_declared, part_frame, leaving, tested, looping, left_by, executed, all_executed, end_of, body_of}
use Rattle.fk_core_liveness.specs.declared.places.FunctionKind.{FunctionKind}
use Rattle.fk_core_liveness.specs.declared.places.FunctionKind.TheVariants.{Main, Called}
use Rattle.fk_core_liveness.specs.Frames.{is_main_place}
use Rattle.fk_lockstep_frames.specs.Nests.{Nest, OfPart, nesting, IsInPart}
use Rattle.fk_core_typing.specs.Values.{Unknown, Place, with_frame, entered, place_behind, State}
use Rattle.fk_core_typing.specs.Typed.{Loop}
use Rattle.fk_lower_laws.specs.Ways.{gives, named_way, way}
use Rattle.fk_lower_laws.specs.Parts.{HasLevel, level_in, StatementHasLevels, StatementsHaveLevels, StartsStay, AllStartsStay}
use Rattle.fk_lower_laws.specs.Asked.{ValueAsked, OptionValueAsked, UsedAsked, OptionUsedAsked, ScalarAsked, VariablesAsked, ReturnAsked, StatementAsked, StatementsAsked, in_part, in_split, Opens, frame_with, frame_for}
use Rattle.fk_lower_names.specs.OpenFrames.{frame_words}
use Rattle.fk_lower_laws.proofs.TypedOk.{level, Acts, Ok, ended, on, branch, looped, looped_first, quits, LeftIn, TurnsIn, broken, continued, left}
use Rattle.fk_lower_laws.proofs.Acting.{simply, takes_frame, push, get, drop_last, agree}
use Rattle.fk_lower_laws.proofs.TypedForms.{after, held, IsWithin, Fine, Pushes, agrees, drops, holds, assigns, names, value_is, a_value, branches, resumes, tree_good}

-- the place of a function: `main`, or one that gives a value or not
abbrev pub place_with : (main void : Bool) → FunctionKind
place_with main void = if main then Main else Called (not void)

abbrev pub IsInside : FunctionKind → (main : Bool) → Type 0
IsInside Main main = main ≡ true
IsInside (Called gives) main = main ≡ false

-- where the code of a function begins, with the region of its frame
abbrev pub outermost : FunctionKind → Option Region → Place
outermost kind r = with_frame kind (frame_with kind r)

has_frame : (gives : Bool) (r : Option Region) → is_some (frame_with (Called gives) r) ≡ is_some r
has_frame gives None = refl
has_frame gives (Some r) = refl

main_begins : (kind : FunctionKind) (r : Option Region) → is_main_place kind ≡ true → outermost kind r ≡ entered Main
main_begins Main r is = refl
main_begins (Called gives) r is = absurd (false≢true is)

module _ (tables : Tables) (functions : (binding : ℕ) → Signature) (place_of : (binding : ℕ) → FunctionKind)
    (opens : (binding : ℕ) (gives : Bool) → place_of binding ≡ Called gives → Opens tables (place_of binding) (functions binding)) where
  abbrev frame_of : ℕ → Option ℕ
  frame_of = frame_for tables functions place_of

  -- ends of functions
  halts : {l : Option Loop} {e : State} {rest : Coded} → Fine tables functions place_of opens (entered Main) l [] rest e
      → Fine tables functions place_of opens (entered Main) l [] (ends nowhere o.Halt rest) e
  halts q = left (simply (entered Main) true o.Halt [] tt (omega arith) (omega arith) (λ ws. tt) (λ ns c ws. refl)) (λ s is. is) q

  leaves_with : {l : Option Loop} {e : State} {rest : Coded} (frame : Option ℕ) (own : Bool) → is_some frame ≡ own → Fine tables functions place_of opens (with_frame (Called true) frame) l [] rest e
      → Fine tables functions place_of opens (with_frame (Called true) frame) l (Unknown ∷ []) (ends nowhere (o.Leave true own) rest) e
  leaves_with frame own same q =
      left (simply (with_frame (Called true) frame) true (o.Leave true own) (Unknown ∷ []) tt (omega arith) (omega arith) (λ ws. tt) (λ ns c ws. refl)) (λ s is. (frame, is, same)) q

  leaves_without : {l : Option Loop} {e : State} {rest : Coded} (frame : Option ℕ) (own : Bool) → is_some frame ≡ own → Fine tables functions place_of opens (with_frame (Called false) frame) l [] rest e
      → Fine tables functions place_of opens (with_frame (Called false) frame) l [] (ends nowhere (o.Leave false own) rest) e
  leaves_without frame own same q =
      left (simply (with_frame (Called false) frame) true (o.Leave false own) [] tt (omega arith) (omega arith) (λ ws. tt) (λ ns c ws. refl)) (λ s is. (frame, is, same)) q

  values : (p : Place) → IsWithin p → (e : Tree) → ValueAsked tables functions place_of p.nests e → Pushes tables functions place_of opens p true (value tables functions e)
  values p within e asks = a_value tables functions place_of opens p (evaluated tables functions e) (way tables place_of e) (tree_good tables functions place_of opens p within e asks.0) asks.1

  -- in a function of a kind, with a region for its frame or without
  module _ (r : Option Region) (own : Bool) (same : own ≡ is_some r) where
    ends_by : (kind : FunctionKind) (main : Bool) → IsInside kind main → ReturnAsked tables functions place_of (outermost kind r).nests kind None → (l : Option Loop) (rest : Coded) (e : State)
        → Fine tables functions place_of opens (outermost kind r) l [] rest e → Fine tables functions place_of opens (outermost kind r) l [] (ends nowhere (if main then o.Halt else o.Leave false own) rest) e
    ends_by Main true is asks l rest e q = halts q
    ends_by Main false is asks l rest e q = absurd (false≢true is)
    ends_by (Called gives) true is asks l rest e q = absurd (false≢true (sym is))
    ends_by (Called true) false is asks l rest e q = absurd (false≢true (sym asks))
    ends_by (Called false) false is asks l rest e q = leaves_without (frame_with (Called false) r) own (has_frame false r ∙ sym same) q

    value_ends : (kind : FunctionKind) (main : Bool) (x : Tree) → IsInside kind main → ReturnAsked tables functions place_of (outermost kind r).nests kind (Some x) → (l : Option Loop) (rest : Coded) (e : State)
        → Fine tables functions place_of opens (outermost kind r) l [] rest e
        → Fine tables functions place_of opens (outermost kind r) l [] (value tables functions x (if main then plain o.DropLast (ends nowhere o.Halt rest) else ends nowhere (o.Leave true own) rest)) e
    value_ends Main true x is asks l rest e q = values (entered Main) tt x asks [] l (plain o.DropLast (ends nowhere o.Halt rest)) e (on drop_last (halts q))
    value_ends Main false x is asks l rest e q = absurd (false≢true is)
    value_ends (Called gives) true x is asks l rest e q = absurd (false≢true (sym is))
    value_ends (Called true) false x is asks l rest e q =
        values (outermost (Called true) r) tt x asks.1 [] l (ends nowhere (o.Leave true own) rest) e (leaves_with (frame_with (Called true) r) own (has_frame true r ∙ sym same) q)
    value_ends (Called false) false x is asks l rest e q = absurd (false≢true asks.0)

    end_fine : (main void : Bool) → let p = outermost (place_with main void) r in Fine tables functions place_of opens p None [] (
        if main then ends nowhere o.Halt done
        else if void then ends nowhere (o.Leave false own) done
        else plain (o.Push 0) (ends nowhere (o.Leave true own) done)) (level p [])
    end_fine true void = halts ended
    end_fine false true = leaves_without (frame_with (Called false) r) own (has_frame false r ∙ sym same) ended
    end_fine false false = on (push 0) (leaves_with (frame_with (Called true) r) own (has_frame true r ∙ sym same) ended)

  returns : (r : Option Region) (kind : FunctionKind) (inside : Inside) → inside.framed ≡ is_some r → IsInside kind inside.main → (x : Option Tree) → ReturnAsked tables functions place_of (outermost kind r).nests kind x
      → (l : Option Loop) (rest : Coded) (e : State)
      → Fine tables functions place_of opens (outermost kind r) l [] rest e → Fine tables functions place_of opens (outermost kind r) l [] (left_by tables functions inside x rest) e
  returns r kind inside same is None asks l rest e q = ends_by r inside.framed same kind inside.main is asks l rest e q
  returns r kind inside same is (Some x) asks l rest e q = value_ends r inside.framed same kind inside.main x is asks l rest e q

  module _ (p : Place) where
    abbrev whole : State
    whole = level p []

    -- code before code, between which no values are kept
    abbrev pub Runs : Option Loop → (Coded → Coded) → Type 0
    Runs l f = (rest : Coded) (e : State) → Fine tables functions place_of opens p l [] rest e → Fine tables functions place_of opens p l [] (f rest) e

    uses : IsWithin p → (x : Tree) → UsedAsked tables functions place_of p.nests x → (l : Option Loop) → Runs l (used tables functions x)
    uses within x asks l rest e q =
        value_is tables functions place_of opens p (evaluated tables functions x) (way tables place_of x) (tree_good tables functions place_of opens p within x asks.0) []
        l (dropped tables functions (token x) rest) e
        (drops tables functions place_of opens p (is_void tables (token x)) (gives (way tables place_of x)) asks.1 [] l rest e q)

    uses_or : IsWithin p → (x : Option Tree) → OptionUsedAsked tables functions place_of p.nests x → (l : Option Loop) → Runs l (used_or tables functions x)
    uses_or within None asks l rest e q = q
    uses_or within (Some x) asks l rest e q = uses within x asks l rest e q

    gives_or : IsWithin p → (absent : Coded → Coded) → Pushes tables functions place_of opens p true absent → (x : Option Tree) → OptionValueAsked tables functions place_of p.nests x
        → Pushes tables functions place_of opens p true (value_or tables functions absent x)
    gives_or within absent pushes None asks = pushes
    gives_or within absent pushes (Some x) asks = values p within x asks

    pushes_one : (number : ℕ) → Pushes tables functions place_of opens p true (plain (o.Push number))
    pushes_one number vs l rest e q = on (push number) q

    -- declarations
    declares : IsWithin p → (x : DeclaredTree) → ScalarAsked tables functions place_of p.nests (is_scalar x) x → (l : Option Loop) → Runs l (declared tables functions x)
    declares within x asks l rest e q = by (is_scalar x) asks
      where
        by : (scalar : Bool) → ScalarAsked tables functions place_of p.nests scalar x → Fine tables functions place_of opens p l [] (
            if scalar
            then variable tables functions x.name (λ standing. addressed tables functions standing
            (value_or tables functions (plain (o.Push 0)) x.first (assigned tables functions standing (plain o.DropLast rest))))
            else rest) e
        by false asks = q
        by true asks =
            let w = named_way tables place_of x.name in
            names tables functions place_of opens p x.name asks.0 l []
            (λ standing. addressed tables functions standing (value_or tables functions (plain (o.Push 0)) x.first (assigned tables functions standing (plain o.DropLast rest)))) e
            (λ st i.
            let stored = assigned tables functions st (plain o.DropLast rest) in
            holds tables functions place_of opens p w asks.1 st i l [] (value_or tables functions (plain (o.Push 0)) x.first stored) e
            (gives_or within (plain (o.Push 0)) (pushes_one 0) x.first asks.2 (held w []) l stored e
            (assigns tables functions place_of opens p w asks.1 st i [] l (plain o.DropLast rest) e (on drop_last q))))

    all_declare : IsWithin p → (xs : List DeclaredTree) → VariablesAsked tables functions place_of p.nests xs → (l : Option Loop) → Runs l (all_declared tables functions xs)
    all_declare within [] asks l rest e q = q
    all_declare within (x ∷ xs) asks l rest e q = declares within x asks.0 l (all_declared tables functions xs rest) e (all_declare within xs asks.1 l rest e q)

    arms : (l : Option Loop) (body : Coded → Coded) → Runs l body → Fine tables functions place_of opens p l [] (body done) whole
    arms l body runs = runs done whole ended

    resumed : {l : Option Loop} {e : State} {rest : Coded} → Fine tables functions place_of opens p l [] rest e → Fine tables functions place_of opens p l [] (plain o.Resume rest) e
    resumed q = on (resumes tables functions place_of opens p []) q

    -- a part, with a frame or without
    abbrev started : (numbered : Bool) (frame : Option ℕ) → Place
    started numbered frame = record p { nests = OfPart numbered frame ∷ p.nests }

    starts : p ≡ entered Main → (onward : Bool) → Acts onward o.Begin (level p (Unknown ∷ [])) (level (place_behind o.Begin onward p) [])
    starts is onward = simply p onward o.Begin (Unknown ∷ []) is (omega arith) (omega arith) (λ ws. tt) (λ ns c ws. refl)

    -- splits of statements: those who enter the part, and those who wait
    if_enters : Acts true (o.Split kinds.IfAlone) (level p (Unknown ∷ [])) (level (started false None) [])
    if_enters = simply p true (o.Split kinds.IfAlone) (Unknown ∷ []) tt (omega arith) (omega arith) (λ ws. tt) (λ ns c ws. refl)

    if_waits : Acts false (o.Split kinds.IfAlone) (level p (Unknown ∷ [])) whole
    if_waits = simply p false (o.Split kinds.IfAlone) (Unknown ∷ []) tt (omega arith) (omega arith) (λ ws. tt) (λ ns c ws. refl)

    enters_either : (onward : Bool) → Acts onward (o.Split kinds.IfElse) (level p (Unknown ∷ [])) (level (started false None) [])
    enters_either onward = simply p onward (o.Split kinds.IfElse) (Unknown ∷ []) tt (omega arith) (omega arith) (λ ws. tt) (λ ns c ws. refl)

    loop_enters : Acts true (o.Split kinds.Loop) whole (level (started false None) [])
    loop_enters = simply p true (o.Split kinds.Loop) [] tt (omega arith) (omega arith) (λ ws. tt) (λ ns c ws. refl)

    loop_waits : Acts false (o.Split kinds.Loop) whole whole
    loop_waits = simply p false (o.Split kinds.Loop) [] tt (omega arith) (omega arith) (λ ws. tt) (λ ns c ws. refl)

    fork_enters : Acts true (o.Split kinds.Fork) (level p (Unknown ∷ Unknown ∷ Unknown ∷ [])) (level (started true None) [])
    fork_enters = simply p true (o.Split kinds.Fork) (Unknown ∷ Unknown ∷ Unknown ∷ []) tt (omega arith) (omega arith) (λ ws. tt) (λ ns c ws. refl)

    fork_waits : Acts false (o.Split kinds.Fork) (level p (Unknown ∷ Unknown ∷ Unknown ∷ [])) whole
    fork_waits = simply p false (o.Split kinds.Fork) (Unknown ∷ Unknown ∷ Unknown ∷ []) tt (omega arith) (omega arith) (λ ws. tt) (λ ns c ws. refl)

    part_frames : {l : Option Loop} {e : State} {code : Coded} (numbered : Bool) (r : Option Region) (place : y.Place) → HasLevel (suc (nesting p.nests)) r
        → Ok place_of frame_of l (level (started numbered (frame_words r)) []) code e → Ok place_of frame_of l (level (started numbered None) []) (framed tables functions r place code) e
    part_frames numbered None place level' h = h
    part_frames numbered (Some r) place level' h = on (takes_frame (started numbered None) r.level r.words (OfPart numbered None) p.nests refl level' refl) h

    in_any : (numbered : Bool) (frame : Option ℕ) → IsWithin p → IsInPart (OfPart numbered frame ∷ p.nests)
    in_any numbered frame within = by p.nests within
      where
        by : (nests : List Nest) → IsInPart (OfPart false None ∷ nests) → IsInPart (OfPart numbered frame ∷ nests)
        by [] is = absurd is
        by (nest ∷ nests) is = tt

    part_ends : IsWithin p → (numbered : Bool) (frame : Option ℕ) → Acts true o.End (level (started numbered frame) []) whole
    part_ends within numbered frame = simply (started numbered frame) true o.End [] (in_any numbered frame within) (omega arith) (omega arith) (λ ws. tt) (λ ns c ws. refl)

    farms : (onward : Bool) → Acts onward o.Farm whole whole
    farms onward = simply p onward o.Farm [] tt (omega arith) (omega arith) (λ ws. tt) (λ ns c ws. refl)

    seqs : (onward : Bool) → Acts onward o.Seq whole whole
    seqs onward = simply p onward o.Seq [] tt (omega arith) (omega arith) (λ ws. tt) (λ ns c ws. refl)

    meets : (closes : Bool) → Acts true (o.Meet closes) whole whole
    meets closes = simply p true (o.Meet closes) [] tt (omega arith) (omega arith) (λ ws. tt) (λ ns c ws. refl)

    -- a statement where the group splits, and where it doesn't
    split_or : {l : Option Loop} {t e : State} (splits : Bool) (c d : Coded) → (splits ≡ true → Ok place_of frame_of l t c e) → (splits ≡ false → Ok place_of frame_of l t d e)
        → Ok place_of frame_of l t (if splits then c else d) e
    split_or true c d h k = h refl
    split_or false c d h k = k refl

    -- loops: one that isn't split, and one whose turns are in a part
    abbrev plain_loop : Loop
    plain_loop = record { turn = whole; left = whole; even = refl }

    abbrev part_loop : (frame : Option ℕ) → Loop
    part_loop frame = record { turn = level (started false frame) []; left = whole; even = refl }

    -- their tests
    leaves : (sync splits : Bool) → splits ≡ false
        → Ok place_of frame_of (Some plain_loop) (level p (Unknown ∷ [])) (if splits then quit nowhere o.Shrink done else agreed sync (quit nowhere (o.Branch true) done)) whole
    leaves sync true is = absurd (false≢true (sym is))
    leaves sync false is =
        agrees tables functions place_of opens p sync [] (Some plain_loop) (quit nowhere (o.Branch true) done) whole
        (quits plain_loop (branches tables functions place_of opens p true true []) (branches tables functions place_of opens p true false []))

    shrinks : IsWithin p → (frame : Option ℕ) (onward : Bool) → Acts onward o.Shrink (level (started false frame) (Unknown ∷ [])) (level (place_behind o.Shrink onward (started false frame)) [])
    shrinks within frame onward = simply (started false frame) onward o.Shrink (Unknown ∷ []) (in_any false frame within, refl) (omega arith) (omega arith) (λ ws. tt) (λ ns c ws. refl)

    leaves_part : IsWithin p → (frame : Option ℕ) (sync splits : Bool) → splits ≡ true
        → Ok place_of frame_of (Some (part_loop frame)) (level (started false frame) (Unknown ∷ []))
        (if splits then quit nowhere o.Shrink done else agreed sync (quit nowhere (o.Branch true) done)) (level (started false frame) [])
    leaves_part within frame sync true is = quits (part_loop frame) (shrinks within frame true) (shrinks within frame false)
    leaves_part within frame sync false is = absurd (false≢true is)

    -- a loop, by both
    loops : (spot : Spot) (l : Option Loop) (f : Coded → Coded) → ((note tables spot.at).splits ≡ false → Runs l f)
        → ((note tables spot.at).splits ≡ true → HasLevel (suc (nesting p.nests)) (frame_at tables spot.at 0))
        → ((note tables spot.at).splits ≡ true → Ok place_of frame_of l (level (started false (frame_words (frame_at tables spot.at 0))) []) (f done) whole)
        → Runs l (looping tables functions spot f)
    loops spot l f runs level' parted rest e q =
        split_or (note tables spot.at).splits
        (choose spot.place (o.Split kinds.Loop) (part_frame tables functions spot 0 (f done)) done (plain o.Resume rest)) (f rest)
        (λ is. branch refl loop_enters loop_waits (part_frames false (frame_at tables spot.at 0) spot.place (level' is) (parted is)) ended (resumed q))
        (λ is. runs is rest e q)

  tests : (p : Place) → IsWithin p → (spot : Spot) (condition : Option Tree) → (note tables spot.at).splits ≡ false → OptionValueAsked tables functions place_of p.nests condition
      → Ok place_of frame_of (Some (plain_loop p)) (whole p) (tested tables functions spot condition) (whole p)
  tests p within spot condition is asks =
      let here = note tables spot.at in
      gives_or p within (plain (o.Push 1)) (pushes_one p 1) condition asks [] (Some (plain_loop p)) (leaving tables functions here) (whole p) (leaves p here.sync here.splits is)

  part_tests : (p : Place) → IsWithin p → (frame : Option ℕ) (spot : Spot) (condition : Option Tree) → (note tables spot.at).splits ≡ true
      → OptionValueAsked tables functions place_of (started p false frame).nests condition
      → Ok place_of frame_of (Some (part_loop p frame)) (whole (started p false frame)) (tested tables functions spot condition) (whole (started p false frame))
  part_tests p within frame spot condition is asks =
      let here = note tables spot.at in
      let q = started p false frame in
      gives_or q tt (plain (o.Push 1)) (pushes_one q 1) condition asks [] (Some (part_loop p frame)) (leaving tables functions here) (whole q) (leaves_part p within frame here.sync here.splits is)

  -- where a statement of a function stands, with what may lead out of it: outside of everything that is around statements of the
  -- function, or not; and in the loop round it
  pub record Where (kind : FunctionKind) (r : Option Region) (p : Place) (x : Exits) (own : Bool) (l : Option Loop) : Type 0 where
    pub within : IsWithin p
    pub returns : x.returns ≡ true → p ≡ outermost kind r
    pub outside : own ≡ true → p ≡ outermost kind r
    pub breaks : x.breaks ≡ true → LeftIn l (level p [])
    pub continues : x.continues ≡ true → TurnsIn l (level p [])

  module _ (kind : FunctionKind) (r : Option Region) (inside : Inside) (same : inside.framed ≡ is_some r) (is : IsInside kind inside.main) where
    abbrev At : Place → Exits → (own : Bool) → Option Loop → Type 0
    At p x own loop = Where kind r p x own loop

    abbrev Stays : (own : Bool) → Statement → Type 0
    Stays own s = StartsStay (is_main_place kind) own s

    abbrev Shaped : Exits → Statement → Type 0
    Shaped x s = StatementShaped tables functions x s

    abbrev Asks : Statement → List Nest → Type 0
    Asks s nests = StatementAsked tables functions place_of kind nests s

    abbrev Value : Tree → List Nest → Type 0
    Value x nests = ValueAsked tables functions place_of nests x

    abbrev OptionValue : Option Tree → List Nest → Type 0
    OptionValue x nests = OptionValueAsked tables functions place_of nests x

    abbrev OptionUsed : Option Tree → List Nest → Type 0
    OptionUsed x nests = OptionUsedAsked tables functions place_of nests x

    never : {X : Type 0} → false ≡ true → X
    never e = absurd (false≢true e)

    -- inside another statement, in what nothing leads out of, in a part, and in loops
    inner : {p : Place} {x : Exits} {own : Bool} {loop : Option Loop} → At p x own loop → At p x false loop
    inner at = record { within = at.within; returns = at.returns; outside = never; breaks = at.breaks; continues = at.continues }

    shut : {p : Place} {x : Exits} {own : Bool} {loop : Option Loop} → At p x own loop → At p none false loop
    shut at = record { within = at.within; returns = never; outside = never; breaks = never; continues = never }

    in_part_of : (p : Place) (numbered : Bool) (frame : Option ℕ) (loop : Option Loop) → At (started p numbered frame) none false loop
    in_part_of p numbered frame loop = record { within = tt; returns = never; outside = never; breaks = never; continues = never }

    in_loop : {p : Place} {x : Exits} {own : Bool} {loop : Option Loop} → At p x own loop → At p (of_turn false x) false (Some (plain_loop p))
    in_loop {p} at = record { within = at.within; returns = at.returns; outside = never; breaks = λ e. (plain_loop p, refl, refl); continues = λ e. (plain_loop p, refl, refl) }

    in_part_loop : (p : Place) (x : Exits) (frame : Option ℕ) → At (started p false frame) (of_turn true x) false (Some (part_loop p frame))
    in_part_loop p x frame = record { within = tt; returns = never; outside = never; breaks = never; continues = λ e. (part_loop p frame, refl, refl) }

    -- what is told of a body, which is a part if the group splits
    pub record Told (p : Place) (x : Exits) (s : Statement) : Type 0 where
      pub asks : Asks s p.nests
      pub shaped : Shaped x s
      pub levels : StatementHasLevels tables (nesting p.nests) s

    told_here : (p : Place) (X : Bool → Exits) (spot : Spot) (number : ℕ) (s : Statement) → (note tables spot.at).splits ≡ false → Asks s (in_split tables spot.at number p.nests)
        → Shaped (X (note tables spot.at).splits) s → StatementHasLevels tables (level_in tables (nesting p.nests) spot.at) s → Told p (X false) s
    told_here p X spot number s whole_group asks shaped levels = record {
      asks = subst (λ (b : Bool). Asks s (if b then in_part tables false spot.at number p.nests else p.nests)) whole_group asks;
      shaped = subst (λ (b : Bool). Shaped (X b) s) whole_group shaped;
      levels = subst (λ (b : Bool). StatementHasLevels tables (if b then suc (nesting p.nests) else nesting p.nests) s) whole_group levels;
    }

    told_part : (p : Place) (X : Bool → Exits) (spot : Spot) (number : ℕ) (s : Statement) → (note tables spot.at).splits ≡ true → Asks s (in_split tables spot.at number p.nests)
        → Shaped (X (note tables spot.at).splits) s → StatementHasLevels tables (level_in tables (nesting p.nests) spot.at) s
        → Told (started p false (frame_words (frame_at tables spot.at number))) (X true) s
    told_part p X spot number s parted asks shaped levels = record {
      asks = subst (λ (b : Bool). Asks s (if b then in_part tables false spot.at number p.nests else p.nests)) parted asks;
      shaped = subst (λ (b : Bool). Shaped (X b) s) parted shaped;
      levels = subst (λ (b : Bool). StatementHasLevels tables (if b then suc (nesting p.nests) else nesting p.nests) s) parted levels;
    }

    -- what is asked of other things there
    asked_here : (p : Place) (Of : List Nest → Type 0) (spot : Spot) → (note tables spot.at).splits ≡ false → Of (in_split tables spot.at 0 p.nests) → Of p.nests
    asked_here p Of spot whole_group asks = subst (λ (b : Bool). Of (if b then in_part tables false spot.at 0 p.nests else p.nests)) whole_group asks

    asked_part : (p : Place) (Of : List Nest → Type 0) (spot : Spot) → (note tables spot.at).splits ≡ true → Of (in_split tables spot.at 0 p.nests)
        → Of (started p false (frame_words (frame_at tables spot.at 0))).nests
    asked_part p Of spot parted asks = subst (λ (b : Bool). Of (if b then in_part tables false spot.at 0 p.nests else p.nests)) parted asks

    -- the code of a part, to its end
    part_runs : (p : Place) → IsWithin p → (numbered : Bool) (spot : Spot) (number : ℕ) (loop : Option Loop) (body : Coded → Coded) → HasLevel (suc (nesting p.nests)) (frame_at tables spot.at number)
        → Runs (started p numbered (frame_words (frame_at tables spot.at number))) loop body
        → Ok place_of frame_of loop (level (started p numbered None) []) (part_frame tables functions spot number (body (plain o.End done))) (whole p)
    part_runs p within numbered spot number loop body level' runs =
        let frame = frame_words (frame_at tables spot.at number) in
        part_frames p numbered (frame_at tables spot.at number) spot.place level' (runs (plain o.End done) (whole p) (on (part_ends p within numbered frame) ended))

    mutual
      statement : (p : Place) (x : Exits) (own : Bool) (loop : Option Loop) → At p x own loop → (s : Statement) → Told p x s → Stays own s → Runs p loop (executed tables functions inside s)
      statement p x own loop at m.Empty told stays rest e q = q
      statement p x own loop at (m.Expression e') told stays rest e q = uses p at.within e' told.asks loop rest e q
      statement p x own loop at (m.Block statements) told stays rest e q =
          all_statements p x false loop (inner at) statements told.asks told.shaped told.levels stays rest e q
      statement p x own loop at (m.Declare variables) told stays rest e q = all_declare p at.within variables told.asks loop rest e q
      statement p x own loop at (m.If spot condition first) told stays rest e q =
          let here = note tables spot.at in
          let body = executed tables functions inside first in
          let parted = choose spot.place (o.Split kinds.IfAlone) (part_frame tables functions spot 0 (body (plain o.End done))) done (plain o.Resume rest) in
          let branched = choose nowhere (o.Branch true) (body done) done rest in
          let asks = told.asks in
          let shaped = told.shaped in
          let levels = told.levels in
          let frame = frame_words (frame_at tables spot.at 0) in
          let X : Bool → Exits = λ b. of_branch tables functions b x in
          values p at.within condition asks.0 [] loop (if here.splits then parted else agreed here.sync branched) e
          (split_or p here.splits parted (agreed here.sync branched)
          (λ parted.
          branch refl (if_enters p) (if_waits p)
          (part_runs p at.within false spot 0 loop body (levels.0 parted)
          (statement (started p false frame) none false loop (in_part_of p false frame loop) first (told_part p X spot 0 first parted asks.1 shaped.1 levels.1) stays)) ended (resumed p q))
          (λ whole_group.
          agrees tables functions place_of opens p here.sync [] loop branched e
          (branch refl (branches tables functions place_of opens p true true []) (branches tables functions place_of opens p true false [])
          (arms p loop body (statement p x false loop (inner at) first (told_here p X spot 0 first whole_group asks.1 shaped.1 levels.1) stays)) ended q)))
      statement p x own loop at (m.IfElse spot condition first second) told stays rest e q =
          let here = note tables spot.at in
          let a = executed tables functions inside first in
          let z = executed tables functions inside second in
          let parted = choose spot.place (o.Split kinds.IfElse) (part_frame tables functions spot 0 (a (plain o.End done))) (part_frame tables functions spot 1 (z (plain o.End done))) (plain o.Resume rest) in
          let branched = choose nowhere (o.Branch true) (a done) (z done) rest in
          let asks = told.asks in
          let shaped = told.shaped in
          let levels = told.levels in
          let frame = frame_words (frame_at tables spot.at 0) in
          let frame' = frame_words (frame_at tables spot.at 1) in
          let X : Bool → Exits = λ b. of_branch tables functions b x in
          values p at.within condition asks.0 [] loop (if here.splits then parted else agreed here.sync branched) e
          (split_or p here.splits parted (agreed here.sync branched)
          (λ parted.
          branch refl (enters_either p true) (enters_either p false)
          (part_runs p at.within false spot 0 loop a (levels.0 parted)
          (statement (started p false frame) none false loop (in_part_of p false frame loop) first (told_part p X spot 0 first parted asks.1 shaped.1 levels.2) stays.0))
          (part_runs p at.within false spot 1 loop z (levels.1 parted)
          (statement (started p false frame') none false loop (in_part_of p false frame' loop) second (told_part p X spot 1 second parted asks.2 shaped.2 levels.3) stays.1)) (resumed p q))
          (λ whole_group.
          agrees tables functions place_of opens p here.sync [] loop branched e
          (branch refl (branches tables functions place_of opens p true true []) (branches tables functions place_of opens p true false [])
          (arms p loop a (statement p x false loop (inner at) first (told_here p X spot 0 first whole_group asks.1 shaped.1 levels.2) stays.0))
          (arms p loop z (statement p x false loop (inner at) second (told_here p X spot 1 second whole_group asks.2 shaped.2 levels.3) stays.1)) q)))
      statement p x own loop at (m.While spot condition body) told stays rest e q =
          let run = executed tables functions inside body in
          let turn = c.while (tested tables functions spot (Some condition)) (run done) done in
          let asks = told.asks in
          let shaped = told.shaped in
          let levels = told.levels in
          let frame = frame_words (frame_at tables spot.at 0) in
          let X : Bool → Exits = λ b. of_turn b x in
          loops p spot loop turn
          (λ whole_group rest' e' q'.
          looped (plain_loop p) (λ n. inl refl) (tests p at.within spot (Some condition) whole_group (asked_here p (Value condition) spot whole_group asks.0))
          (arms p (Some (plain_loop p)) run (statement p (of_turn false x) false (Some (plain_loop p)) (in_loop at) body (told_here p X spot 0 body whole_group asks.1 shaped.1 levels.1) stays)) ended q')
          levels.0
          (λ parted.
          looped (part_loop p frame) (λ n. inr refl) (part_tests p at.within frame spot (Some condition) parted (asked_part p (Value condition) spot parted asks.0))
          (arms (started p false frame) (Some (part_loop p frame)) run
          (statement (started p false frame) (of_turn true x) false (Some (part_loop p frame)) (in_part_loop p x frame) body (told_part p X spot 0 body parted asks.1 shaped.1 levels.1) stays)) ended ended)
          rest e q
      statement p x own loop at (m.DoWhile spot body condition) told stays rest e q =
          let run = executed tables functions inside body in
          let turn = c.until (run done) (tested tables functions spot (Some condition)) in
          let asks = told.asks in
          let shaped = told.shaped in
          let levels = told.levels in
          let frame = frame_words (frame_at tables spot.at 0) in
          let X : Bool → Exits = λ b. of_turn b x in
          loops p spot loop turn
          (λ whole_group rest' e' q'.
          looped_first (plain_loop p) (λ n. inl refl)
          (arms p (Some (plain_loop p)) run (statement p (of_turn false x) false (Some (plain_loop p)) (in_loop at) body (told_here p X spot 0 body whole_group asks.1 shaped.1 levels.1) stays))
          (tests p at.within spot (Some condition) whole_group (asked_here p (Value condition) spot whole_group asks.0)) q')
          levels.0
          (λ parted.
          looped_first (part_loop p frame) (λ n. inr refl)
          (arms (started p false frame) (Some (part_loop p frame)) run
          (statement (started p false frame) (of_turn true x) false (Some (part_loop p frame)) (in_part_loop p x frame) body (told_part p X spot 0 body parted asks.1 shaped.1 levels.1) stays))
          (part_tests p at.within frame spot (Some condition) parted (asked_part p (Value condition) spot parted asks.0)) ended)
          rest e q
      statement p x own loop at (m.For spot before condition after body) told stays rest e q =
          let run = executed tables functions inside body in
          let turn = c.while (tested tables functions spot condition) (run done) (used_or tables functions after done) in
          let asks = told.asks in
          let shaped = told.shaped in
          let levels = told.levels in
          let frame = frame_words (frame_at tables spot.at 0) in
          let X : Bool → Exits = λ b. of_turn b x in
          uses_or p at.within before asks.0 loop (looping tables functions spot turn rest) e
          (loops p spot loop turn
          (λ whole_group rest' e' q'.
          looped (plain_loop p) (λ n. inl refl) (tests p at.within spot condition whole_group (asked_here p (OptionValue condition) spot whole_group asks.1))
          (arms p (Some (plain_loop p)) run (statement p (of_turn false x) false (Some (plain_loop p)) (in_loop at) body (told_here p X spot 0 body whole_group asks.3 shaped.3 levels.1) stays))
          (uses_or p at.within after (asked_here p (OptionUsed after) spot whole_group asks.2) (Some (plain_loop p)) done (whole p) ended) q')
          levels.0
          (λ parted.
          looped (part_loop p frame) (λ n. inr refl) (part_tests p at.within frame spot condition parted (asked_part p (OptionValue condition) spot parted asks.1))
          (arms (started p false frame) (Some (part_loop p frame)) run
          (statement (started p false frame) (of_turn true x) false (Some (part_loop p frame)) (in_part_loop p x frame) body (told_part p X spot 0 body parted asks.3 shaped.3 levels.1) stays))
          (uses_or (started p false frame) tt after (asked_part p (OptionUsed after) spot parted asks.2) (Some (part_loop p frame)) done (whole (started p false frame)) ended) ended)
          rest e q)
      statement p x own loop at (m.Start spot count body) told stays rest e q =
          let run = executed tables functions inside body in
          let begins : p ≡ entered Main = at.outside stays.1 ∙ main_begins kind r stays.0 in
          let frame = frame_words (frame_at tables spot.at 0) in
          let asks = told.asks in
          let shaped = told.shaped in
          let levels = told.levels in
          gives_or p at.within (plain (o.Get n.Processors)) (λ vs l' rest' e' q'. on (get n.Processors refl) q') count asks.0 [] loop
          (choose nowhere o.Begin (part_frame tables functions spot 0 (run (plain o.End done))) done (plain o.Resume rest)) e
          (branch refl (starts p begins true) (starts p begins false)
          (part_runs p at.within true spot 0 loop run levels.0
          (statement (started p true frame) none false loop (in_part_of p true frame loop) body (record { asks = asks.1; shaped = shaped.1; levels = levels.1 }) stays.2))
          ended (resumed p q))
      statement p x own loop at (m.Fork spot k number rank body) told stays rest e q =
          let run = executed tables functions inside body in
          let split = choose spot.place (o.Split kinds.Fork) (part_frame tables functions spot 0 (run (plain o.End done))) done (plain o.Resume rest) in
          let ranked = value_or tables functions (plain (o.Get n.Rank)) rank split in
          let numbered' = value tables functions number ranked in
          let asks = told.asks in
          let shaped = told.shaped in
          let levels = told.levels in
          let frame = frame_words (frame_at tables spot.at 0) in
          values p at.within k asks.0 [] loop (plain o.Agree numbered') e (on agree
          (values p at.within number asks.1 (Unknown ∷ []) loop ranked e
          (gives_or p at.within (plain (o.Get n.Rank)) (λ vs l' rest' e' q'. on (get n.Rank refl) q') rank asks.2 (Unknown ∷ Unknown ∷ []) loop split e
          (branch refl (fork_enters p) (fork_waits p)
          (part_runs p at.within true spot 0 loop run levels.0
          (statement (started p true frame) none false loop (in_part_of p true frame loop) body (record { asks = asks.3; shaped = shaped.3; levels = levels.1 }) stays))
          ended (resumed p q)))))
      statement p x own loop at (m.Farm spot body) told stays rest e q =
          branch refl (farms p true) (farms p false)
          (arms p loop (executed tables functions inside body) (statement p none false loop (shut at) body (record { asks = told.asks; shaped = told.shaped; levels = told.levels }) stays))
          ended (on (meets p true) q)
      statement p x own loop at (m.Seq spot body) told stays rest e q =
          branch refl (seqs p true) (seqs p false)
          (arms p loop (executed tables functions inside body) (statement p none false loop (shut at) body (record { asks = told.asks; shaped = told.shaped; levels = told.levels }) stays))
          ended (on (meets p true) q)
      statement p x own loop at (m.Barrier spot) told stays rest e q = on (meets p false) q
      statement p x own loop at (m.Break spot) told stays rest e q = broken (at.breaks told.shaped) q
      statement p x own loop at (m.Continue spot) told stays rest e q = continued (at.continues told.shaped) q
      statement p x own loop at (m.Return spot e') told stays rest e q =
          let shaped = told.shaped in
          subst (λ (place : Place). ReturnAsked tables functions place_of place.nests kind e' → Fine tables functions place_of opens place loop [] rest e
          → Fine tables functions place_of opens place loop [] (left_by tables functions inside e' rest) e) (sym (at.returns shaped.0))
          (λ asks' q'. returns r kind inside same is e' asks' loop rest e q') told.asks q

      pub all_statements : (p : Place) (x : Exits) (own : Bool) (loop : Option Loop) → At p x own loop → (statements : Statements) → StatementsAsked tables functions place_of kind p.nests statements
          → StatementsShaped tables functions x statements → StatementsHaveLevels tables (nesting p.nests) statements → AllStartsStay (is_main_place kind) own statements
          → Runs p loop (all_executed tables functions inside statements)
      all_statements p x own loop at m.no_statements asks shaped levels stays rest e q = q
      all_statements p x own loop at (m.statement first others) asks shaped levels stays rest e q =
          statement p x own loop at first (record { asks = asks.0; shaped = shaped.0; levels = levels.0 }) stays.0 (all_executed tables functions inside others rest) e
          (all_statements p x own loop at others asks.1 shaped.1 levels.1 stays.1 rest e q)

  inside_with : (main void : Bool) → IsInside (place_with main void) main
  inside_with true void = refl
  inside_with false void = refl

  pub body_fine : (inside : Inside) (r : Option Region) → inside.framed ≡ is_some r → (void : Bool) (statements : Statements) → let kind = place_with inside.main void in
      StatementsAsked tables functions place_of kind (outermost kind r).nests statements → StatementsShaped tables functions of_function statements
      → StatementsHaveLevels tables 0 statements → AllStartsStay (is_main_place kind) true statements
      → Ok place_of frame_of None (level (outermost kind r) []) (body_of tables functions inside void statements) (level (outermost kind r) [])
  body_fine inside r same void statements asks shaped levels stays =
      let kind = place_with inside.main void in
      let p = outermost kind r in
      all_statements kind r inside same (inside_with inside.main void) p of_function true None
      (record { within = tt; returns = λ e. refl; outside = λ e. refl; breaks = λ e. absurd (false≢true e); continues = λ e. absurd (false≢true e) }) statements asks shaped levels stays
      (end_of tables functions inside void) (level p []) (end_fine r inside.framed same inside.main void)
