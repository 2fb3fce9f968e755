-- Where the rules allow frames: `sh` variables, splits and forks are in groups, and a `start` is on the outermost level of `main`.
use Rattle.std.proofs.Common.{◌≡◌, ◌⊎◌, inl, inr, ℕ, suc, Bool, true, false, List, [], ◌∷◌, ◌++◌, Option, Some, None, slice_get, refl, sym, subst, ◌∙◌}
use Rattle.std.specs.Prelude.{if◌then◌else◌}
use Rattle.std.proofs.lemmas.Bool.{false≢true, true_from_ne_false}
use Rattle.fk_syntax.specs.declared.facts.Facts.{Facts}
use Rattle.fk_syntax.specs.declared.place.Spot.{Spot}
use Rattle.fk_syntax.specs.declared.program.Mode.{Mode}
use Rattle.fk_syntax.specs.declared.program.Mode.TheVariants.{Sync, Async, Straight}
use Rattle.fk_syntax.specs.Program as p
use Rattle.fk_syntax.specs.Program.{DeclaredTree, Statement, Statements, FunctionTree, ItemTree, ProgramTree, StructItem, VariablesItem, FunctionItem}
use Rattle.fk_check_rules.specs.declared.rule.Rule.{Rule}
use Rattle.fk_check_rules.specs.declared.rule.Rule.TheVariants as rules
use Rattle.fk_sharing_class.specs.declared.thing.Thing.{Thing}
use Rattle.fk_sharing_class.specs.Class.{is_shared}
use Rattle.fk_regions.specs.declared.around.Holder as gh
use Rattle.fk_regions.specs.declared.around.Holder.TheVariants as g
use Rattle.fk_regions.specs.declared.around.Region.{Region}
use Rattle.fk_regions.specs.declared.around.Region.TheVariants.{Synchronous, Asynchronous, Neither}
use Rattle.fk_regions.specs.Around as ra
use Rattle.fk_regions.specs.Around.{region_by, is_in_main}
use Rattle.fk_regions.specs.declared.token.Word.TheVariants as w
use Rattle.fk_regions.specs.Misplaced as mis
use Rattle.fk_regions.specs.Tokens as r
use Rattle.fk_sharing.specs.declared.around.Holder as hh
use Rattle.fk_sharing.specs.declared.around.Holder.TheVariants as h
use Rattle.fk_sharing.specs.declared.token.Word.TheVariants as sw
use Rattle.fk_sharing.specs.Around as sa
use Rattle.fk_sharing.specs.Broken as sb
use Rattle.fk_sharing.specs.Tokens as s
use Rattle.fk_meaning_forms.specs.Tables.{Tables, note}
use Rattle.fk_meaning_forms.specs.Program.{functions_of, with_body, is_main}
use Rattle.fk_lockstep_structure.specs.Placed.{Who, OfGroup, OfBody, OfMain, is_group, is_outermost, inner}
use Rattle.fk_lockstep_structure.proofs.Forms.{inner_group}
use Rattle.fk_check_laws.specs.Correct.{IsCorrect}
use Rattle.fk_check_laws.proofs.Each.{Each, each, front_of, rest_of, three_of}
use Rattle.fk_check_laws.proofs.Notes.{tables, Theirs, Unmisplaced, unmisplaced}
use Rattle.fk_check_laws.proofs.PlacedNotes.{split_region, async_by}
use Rattle.fk_check_laws.proofs.Things.{thing as thing_of, thing_tells}

-- ---- statements that stand so

module _ (known : Tables) where
  abbrev pub OfGroupAlone : Who → List DeclaredTree → Type 0
  OfGroupAlone who [] = Unit {0}
  OfGroupAlone who (x ∷ xs) = (x.shared ≡ true → is_group who ≡ true) × OfGroupAlone who xs

  abbrev pub SplitsAlone : Who → Spot → Type 0
  SplitsAlone who spot = (note known spot.at).splits ≡ true → is_group who ≡ true

  abbrev mutual
    pub Placed : Who → Statement → Type 0
    Placed who (p.Block statements) = AllPlaced who statements
    Placed who (p.Declare variables) = OfGroupAlone who variables
    Placed who (p.If spot condition first) = SplitsAlone who spot × Placed (inner who) first
    Placed who (p.IfElse spot condition first second) = SplitsAlone who spot × Placed (inner who) first × Placed (inner who) second
    Placed who (p.While spot condition body) = SplitsAlone who spot × Placed (inner who) body
    Placed who (p.DoWhile spot body condition) = SplitsAlone who spot × Placed (inner who) body
    Placed who (p.For spot before condition after body) = SplitsAlone who spot × Placed (inner who) body
    Placed who (p.Start spot count body) = (is_outermost who ≡ true) × Placed OfGroup body
    Placed who (p.Fork spot parts part rank body) = (is_group who ≡ true) × Placed OfGroup body
    Placed who (p.Farm spot body) = Placed OfBody body
    Placed who (p.Seq spot body) = Placed OfBody body
    Placed who x = Unit {0}

    pub AllPlaced : Who → Statements → Type 0
    AllPlaced who p.no_statements = Unit {0}
    AllPlaced who (p.statement first others) = Placed who first × AllPlaced who others

synchronous_or : (here : Region) → (here ≡ Synchronous) ⊎ (here ≡ Synchronous → ⊥)
synchronous_or Synchronous = inl refl
synchronous_or Asynchronous = inr (λ e. cc)
synchronous_or Neither = inr (λ e. cc)

module _ (program : ProgramTree) (facts : Facts) (valid : IsCorrect program facts) where
  abbrev T : Tables
  T = tables program facts valid

  abbrev thing : ℕ → Option Thing
  thing = thing_of program valid.well_formed

  -- ---- what is known of the tokens

  abbrev Token : Type 0
  Token = Theirs program facts valid

  -- it breaks no rule, and only a group splits there
  record IsRight (x : Token) : Type 0 where
    pub unbroken : Unmisplaced program facts valid x
    pub alone : (note T x.spot.at).splits ≡ true → ra.region x.around ≡ Synchronous

  all_right : Each IsRight (r.tokens program)
  all_right = each IsRight (r.tokens program) (λ i x is. record {
    unbroken = unmisplaced program facts valid i x is;
    alone = split_region program facts valid i x is;
  })

  abbrev IsMine : s.TokenIn (List hh.Holder) → Type 0
  IsMine x = (rule : Rule) → sb.BreaksRule x.around x.word rule → ⊥

  all_mine : Each IsMine (s.tokens thing program)
  all_mine = each IsMine (s.tokens thing program)
      (λ i x is rule broken. valid.known.sharing.kept x.spot.place rule (thing, thing_tells program valid.well_formed, i, x, is, refl, broken))

  -- ---- where a statement stands

  record Where (who : Who) (outer : List gh.Holder) (held : List hh.Holder) : Type 0 where
    pub region : sa.region held ≡ ra.region outer
    pub group : ra.region outer ≡ Synchronous → is_group who ≡ true
    pub outermost : is_in_main outer ≡ true → is_outermost who ≡ true
    pub inside : sa.is_in_function held ≡ true

  in_block : {who : Who} {outer : List gh.Holder} {held : List hh.Holder} → Where who outer held → Where who (g.Block ∷ outer) held
  in_block at = record { region = at.region; group = at.group; outermost = λ e. absurd (false≢true e); inside = at.inside }

  in_arm : {who : Who} {outer : List gh.Holder} {held : List hh.Holder} (shared : Bool) → Where who outer held → Where (inner who) (g.Branch ∷ outer) (h.Branch shared ∷ held)
  in_arm {who} shared at = record { region = at.region; group = λ e. inner_group who ∙ at.group e; outermost = λ e. absurd (false≢true e); inside = at.inside }

  in_loop : {who : Who} {outer : List gh.Holder} {held : List hh.Holder} (shared : Bool) → Where who outer held → Where (inner who) (g.Loop ∷ outer) (h.Loop shared ∷ held)
  in_loop {who} shared at = record { region = at.region; group = λ e. inner_group who ∙ at.group e; outermost = λ e. absurd (false≢true e); inside = at.inside }

  in_start : {outer : List gh.Holder} {held : List hh.Holder} → Where OfGroup (g.Start ∷ outer) (h.Body Synchronous ∷ held)
  in_start = record { region = refl; group = λ e. refl; outermost = λ e. absurd (false≢true e); inside = refl }

  in_fork : {outer : List gh.Holder} {held : List hh.Holder} → Where OfGroup (g.Fork ∷ outer) (h.Body Synchronous ∷ held)
  in_fork = record { region = refl; group = λ e. refl; outermost = λ e. absurd (false≢true e); inside = refl }

  apart : Asynchronous ≡ Synchronous → ⊥
  apart e = cc

  in_farm : {outer : List gh.Holder} {held : List hh.Holder} → Where OfBody (g.Farm ∷ outer) (h.Body Asynchronous ∷ held)
  in_farm = record { region = refl; group = λ e. absurd (apart e); outermost = λ e. absurd (false≢true e); inside = refl }

  in_seq : {outer : List gh.Holder} {held : List hh.Holder} → Where OfBody (g.Seq ∷ outer) (h.Body Asynchronous ∷ held)
  in_seq = record { region = refl; group = λ e. absurd (apart e); outermost = λ e. absurd (false≢true e); inside = refl }

  -- ---- statements

  declared_placed : {who : Who} {outer : List gh.Holder} {held : List hh.Holder} → Where who outer held → (xs : List DeclaredTree)
      → Each IsMine (s.variables_tokens thing held xs) → OfGroupAlone T who xs
  declared_placed at [] o = tt
  declared_placed {who} {outer} {held} at (x ∷ xs) o = (
    one x.shared (rest_of IsMine (s.optional_tokens thing held x.first) (s.bare held (r.spot_of x.name) (sw.Variable x.shared (s.form_of x)) ∷ [])
        (front_of IsMine (s.variable_tokens thing held x) (s.variables_tokens thing held xs) o)).0,
    declared_placed at xs (rest_of IsMine (s.variable_tokens thing held x) (s.variables_tokens thing held xs) o),
  )
    where
      one : (shared : Bool) → IsMine (s.bare held (r.spot_of x.name) (sw.Variable shared (s.form_of x))) → shared ≡ true → is_group who ≡ true
      one false mine e = absurd (false≢true e)
      one true mine e = elim (synchronous_or (sa.region held)) [
        | inl sync ↦ at.group (sym at.region ∙ sync)
        | inr differs ↦ absurd (mine rules.SharedOutside (sb.shared_outside (s.form_of x) at.inside differs))
      ]

  -- a misplaced word
  forked : {who : Who} {outer : List gh.Holder} {held : List hh.Holder} → Where who outer held → (spot : Spot) → IsRight (r.token_in outer spot w.Fork) → is_group who ≡ true
  forked {who} {outer} at spot right = elim (synchronous_or (ra.region outer)) [
    | inl sync ↦ at.group sync
    | inr differs ↦ absurd (right.unbroken rules.ForkOutside (inl (mis.fork_outside differs)))
  ]

  started : {who : Who} {outer : List gh.Holder} {held : List hh.Holder} → Where who outer held → (spot : Spot) → IsRight (r.token_in outer spot w.Start) → is_outermost who ≡ true
  started {who} {outer} at spot right =
      at.outermost (true_from_ne_false (is_in_main outer) (λ differs. right.unbroken rules.StartNotInMain (inl (mis.start_elsewhere differs))))

  mutual
    statement_placed : (who : Who) (outer : List gh.Holder) (held : List hh.Holder) → Where who outer held → (x : Statement)
        → Each IsRight (r.statement_tokens ◌∷◌ outer x) → Each IsMine (s.statement_tokens thing ◌∷◌ held x) → Placed T who x
    statement_placed who outer held at p.Empty a o = tt
    statement_placed who outer held at (p.Expression e) a o = tt
    statement_placed who outer held at (p.Block list) a o = statements_placed who (g.Block ∷ outer) held (in_block at) list a o
    statement_placed who outer held at (p.Declare variables) a o = declared_placed at variables o
    statement_placed who outer held at (p.If spot condition first) a o =
        let arm = h.Branch (is_shared thing condition) ∷ held in (
          (λ e. at.group (a.0.alone e)),
          statement_placed (inner who) (g.Branch ∷ outer) arm (in_arm (is_shared thing condition) at) first
              (rest_of IsRight (r.tree_tokens outer condition) (r.statement_tokens ◌∷◌ (g.Branch ∷ outer) first) a.1)
              (rest_of IsMine (s.condition_tokens thing held spot condition) (s.statement_tokens thing ◌∷◌ arm first) o),
        )
    statement_placed who outer held at (p.IfElse spot condition first second) a o =
        let arm = h.Branch (is_shared thing condition) ∷ held in
        let a' = three_of IsRight (r.tree_tokens outer condition) (r.statement_tokens ◌∷◌ (g.Branch ∷ outer) first) (r.statement_tokens ◌∷◌ (g.Branch ∷ outer) second) a.1 in
        let o' = three_of IsMine (s.condition_tokens thing held spot condition) (s.statement_tokens thing ◌∷◌ arm first) (s.statement_tokens thing ◌∷◌ arm second) o in (
          (λ e. at.group (a.0.alone e)),
          statement_placed (inner who) (g.Branch ∷ outer) arm (in_arm (is_shared thing condition) at) first a'.1 o'.1,
          statement_placed (inner who) (g.Branch ∷ outer) arm (in_arm (is_shared thing condition) at) second a'.2 o'.2,
        )
    statement_placed who outer held at (p.While spot condition body) a o =
        let turn = h.Loop (is_shared thing condition) ∷ held in (
          (λ e. at.group (a.0.alone e)),
          statement_placed (inner who) (g.Loop ∷ outer) turn (in_loop (is_shared thing condition) at) body
              (rest_of IsRight (r.tree_tokens outer condition) (r.statement_tokens ◌∷◌ (g.Loop ∷ outer) body) a.1)
              (rest_of IsMine (s.condition_tokens thing held spot condition) (s.statement_tokens thing ◌∷◌ turn body) o),
        )
    statement_placed who outer held at (p.DoWhile spot body condition) a o =
        let turn = h.Loop (is_shared thing condition) ∷ held in (
          (λ e. at.group (a.0.alone e)),
          statement_placed (inner who) (g.Loop ∷ outer) turn (in_loop (is_shared thing condition) at) body
              (rest_of IsRight (r.tree_tokens outer condition) (r.statement_tokens ◌∷◌ (g.Loop ∷ outer) body) a.1)
              (rest_of IsMine (s.condition_tokens thing held spot condition) (s.statement_tokens thing ◌∷◌ turn body) o),
        )
    statement_placed who outer held at (p.For spot before condition after body) a o =
        let turn = h.Loop (s.is_condition_shared thing condition) ∷ held in (
          (λ e. at.group (a.0.alone e)),
          statement_placed (inner who) (g.Loop ∷ outer) turn (in_loop (s.is_condition_shared thing condition) at) body
              (rest_of IsRight (r.optional_tokens outer before ++ r.optional_tokens outer condition ++ r.optional_tokens outer after) (r.statement_tokens ◌∷◌ (g.Loop ∷ outer) body) a.1)
              (rest_of IsMine (s.head_tokens thing held spot before condition after) (s.statement_tokens thing ◌∷◌ turn body) o),
        )
    statement_placed who outer held at (p.Start spot count body) a o = (
      started at spot a.0,
      statement_placed OfGroup (g.Start ∷ outer) (h.Body Synchronous ∷ held) in_start body
          (rest_of IsRight (r.optional_tokens outer count) (r.statement_tokens ◌∷◌ (g.Start ∷ outer) body) a.1)
          (rest_of IsMine (s.optional_tokens thing held count) (s.statement_tokens thing ◌∷◌ (h.Body Synchronous ∷ held) body) o),
    )
    statement_placed who outer held at (p.Fork spot parts part rank body) a o = (
      forked at spot a.0,
      statement_placed OfGroup (g.Fork ∷ outer) (h.Body Synchronous ∷ held) in_fork body
          (rest_of IsRight (r.tree_tokens outer parts ++ r.tree_tokens outer part ++ r.optional_tokens outer rank) (r.statement_tokens ◌∷◌ (g.Fork ∷ outer) body) a.1)
          (rest_of IsMine (s.parts_tokens thing held parts part rank) (s.statement_tokens thing ◌∷◌ (h.Body Synchronous ∷ held) body) o),
    )
    statement_placed who outer held at (p.Farm spot body) a o = statement_placed OfBody (g.Farm ∷ outer) (h.Body Asynchronous ∷ held) in_farm body a.1 o
    statement_placed who outer held at (p.Seq spot body) a o = statement_placed OfBody (g.Seq ∷ outer) (h.Body Asynchronous ∷ held) in_seq body a.1 o
    statement_placed who outer held at (p.Barrier spot) a o = tt
    statement_placed who outer held at (p.Break spot) a o = tt
    statement_placed who outer held at (p.Continue spot) a o = tt
    statement_placed who outer held at (p.Return spot e) a o = tt

    statements_placed : (who : Who) (outer : List gh.Holder) (held : List hh.Holder) → Where who outer held → (xs : Statements)
        → Each IsRight (r.statements_tokens ◌∷◌ outer xs) → Each IsMine (s.statements_tokens thing ◌∷◌ held xs) → AllPlaced T who xs
    statements_placed who outer held at p.no_statements a o = tt
    statements_placed who outer held at (p.statement first others) a o = (
      statement_placed who outer held at first
          (front_of IsRight (r.statement_tokens ◌∷◌ outer first) (r.statements_tokens ◌∷◌ outer others) a)
          (front_of IsMine (s.statement_tokens thing ◌∷◌ held first) (s.statements_tokens thing ◌∷◌ held others) o),
      statements_placed who outer held at others
          (rest_of IsRight (r.statement_tokens ◌∷◌ outer first) (r.statements_tokens ◌∷◌ outer others) a)
          (rest_of IsMine (s.statement_tokens thing ◌∷◌ held first) (s.statements_tokens thing ◌∷◌ held others) o),
    )

  -- ---- functions

  -- by whom a function is run, and that its variables and parts are placed so
  pub record IsPlaced (f : FunctionTree) : Type 0 where
    pub who : Who
    pub callable : is_group who ≡ true → is_main f ≡ false
    pub main : is_main f ≡ true → is_group who ≡ false
    pub parameters : OfGroupAlone T who f.parameters
    pub body : (statements : Statements) → f.body ≡ Some statements → AllPlaced T who statements

  -- who runs a function with a mode
  abbrev who_by : Mode → Who
  who_by Sync = OfGroup
  who_by Async = OfBody
  who_by Straight = OfBody

  shared_parameters : (who : Who) (mode : Mode) → (mode ≡ Sync → is_group who ≡ true) → (xs : List DeclaredTree) → Each IsMine (s.parameters_tokens [] mode xs) → OfGroupAlone T who xs
  shared_parameters who mode sync [] o = tt
  shared_parameters who mode sync (x ∷ xs) o = (one x.shared mode sync o.0, shared_parameters who mode sync xs o.1)
    where
      one : (shared : Bool) (mode' : Mode) → (mode' ≡ Sync → is_group who ≡ true) → IsMine (s.bare [] (r.spot_of x.name) (sw.Parameter shared mode')) → shared ≡ true → is_group who ≡ true
      one false mode' sync' mine e = absurd (false≢true e)
      one true Sync sync' mine e = sync' refl
      one true Async sync' mine e = absurd (mine rules.SharedParameter (sb.shared_parameter Async (λ same. cc)))
      one true Straight sync' mine e = absurd (mine rules.SharedParameter (sb.shared_parameter Straight (λ same. cc)))

  module _ (f : FunctionTree) (index : ℕ) (there : slice_get program.items index ≡ Some (FunctionItem f)) where
    by_main : (main : Bool) → is_main f ≡ main → (mode : Mode) → f.mode ≡ mode → (Where (if main then OfMain true else who_by mode) ((if main then g.Main mode else g.Function mode) ∷ []) (h.Body (region_by mode) ∷ []))
        × (mode ≡ Sync → is_group (if main then OfMain true else who_by mode) ≡ true)
    by_main true is Sync e = absurd (async_by program facts valid f index there is Sync e (λ same. cc))
    by_main true is Straight e = absurd (async_by program facts valid f index there is Straight e (λ same. cc))
    by_main true is Async e = (record { region = refl; group = λ same. absurd (apart same); outermost = λ same. refl; inside = refl }, λ same. absurd (cc))
    by_main false is Sync e = (record { region = refl; group = λ same. refl; outermost = λ same. absurd (false≢true same); inside = refl }, λ same. refl)
    by_main false is Async e = (record { region = refl; group = λ same. absurd (apart same); outermost = λ same. absurd (false≢true same); inside = refl }, λ same. absurd (cc))
    by_main false is Straight e = (record { region = refl; group = λ same. absurd (cc); outermost = λ same. absurd (false≢true same); inside = refl }, λ same. absurd (cc))

    placed_by : (main : Bool) → is_main f ≡ main
        → ((statements : Statements) → f.body ≡ Some statements → Each IsRight (r.statements_tokens ◌∷◌ ((if main then g.Main f.mode else g.Function f.mode) ∷ []) statements))
        → ((statements : Statements) → f.body ≡ Some statements → Each IsMine (s.statements_tokens thing ◌∷◌ (h.Body (region_by f.mode) ∷ []) statements))
        → Each IsMine (s.parameters_tokens [] f.mode f.parameters) → IsPlaced f
    placed_by true is a o q =
        let at = by_main true is f.mode refl in
        record {
          who = OfMain true;
          callable = λ e. absurd (false≢true e);
          main = λ e. refl;
          parameters = shared_parameters (OfMain true) f.mode at.1 f.parameters q;
          body = λ statements has. statements_placed (OfMain true) (g.Main f.mode ∷ []) (h.Body (region_by f.mode) ∷ []) at.0 statements (a statements has) (o statements has);
        }
    placed_by false is a o q =
        let at = by_main false is f.mode refl in
        record {
          who = who_by f.mode;
          callable = λ e. is;
          main = λ e. absurd (false≢true (sym is ∙ e));
          parameters = shared_parameters (who_by f.mode) f.mode at.1 f.parameters q;
          body = λ statements has. statements_placed (who_by f.mode) (g.Function f.mode ∷ []) (h.Body (region_by f.mode) ∷ []) at.0 statements (a statements has) (o statements has);
        }

  right_body : (holder : gh.Holder) (o : Option Statements) → Each IsRight (r.body_tokens ◌∷◌ (holder ∷ []) o) → (list : Statements) → o ≡ Some list
      → Each IsRight (r.statements_tokens ◌∷◌ (holder ∷ []) list)
  right_body holder o a list has = subst (λ body. Each IsRight (r.body_tokens ◌∷◌ (holder ∷ []) body)) has a

  mine_body : (held : List hh.Holder) (o : Option Statements) → Each IsMine (s.body_tokens thing ◌∷◌ held o) → (list : Statements) → o ≡ Some list
      → Each IsMine (s.statements_tokens thing ◌∷◌ held list)
  mine_body held o a list has = subst (λ body. Each IsMine (s.body_tokens thing ◌∷◌ held body)) has a

  functions_placed : (xs : List ItemTree) → ((j : ℕ) (x : ItemTree) → slice_get xs j ≡ Some x → (i : ℕ) × (slice_get program.items i ≡ Some x))
      → Each IsRight (r.items_tokens ◌∷◌ [] xs) → Each IsMine (s.items_tokens thing ◌∷◌ [] xs) → Each IsPlaced (functions_of xs)
  functions_placed [] at a o = tt
  functions_placed (StructItem name members ∷ xs) at a o = functions_placed xs (λ j x is. at (suc j) x is) a o
  functions_placed (VariablesItem variables ∷ xs) at a o =
      functions_placed xs (λ j x is. at (suc j) x is) (rest_of IsRight (r.variables_tokens [] variables) (r.items_tokens ◌∷◌ [] xs) a)
      (rest_of IsMine (s.variables_tokens thing [] variables) (s.items_tokens thing ◌∷◌ [] xs) o)
  functions_placed (FunctionItem f ∷ xs) at a o =
      let here = at 0 (FunctionItem f) refl in
      let item = FunctionItem f in
      let a' = front_of IsRight (r.item_tokens ◌∷◌ [] item) (r.items_tokens ◌∷◌ [] xs) a in
      let o' = front_of IsMine (s.item_tokens thing ◌∷◌ [] item) (s.items_tokens thing ◌∷◌ [] xs) o in
      by f.body
      (placed_by f here.0 here.1 (is_main f) refl (right_body (r.holder_of f) f.body a')
      (mine_body (h.Body (region_by f.mode) ∷ []) f.body (rest_of IsMine (s.parameters_tokens [] f.mode f.parameters) (s.body_tokens thing ◌∷◌ (h.Body (region_by f.mode) ∷ []) f.body) o'))
      (front_of IsMine (s.parameters_tokens [] f.mode f.parameters) (s.body_tokens thing ◌∷◌ (h.Body (region_by f.mode) ∷ []) f.body) o'))
      (functions_placed xs (λ j x is. at (suc j) x is) (rest_of IsRight (r.item_tokens ◌∷◌ [] item) (r.items_tokens ◌∷◌ [] xs) a)
      (rest_of IsMine (s.item_tokens thing ◌∷◌ [] item) (s.items_tokens thing ◌∷◌ [] xs) o))
    where
      by : (o : Option Statements) → IsPlaced f → Each IsPlaced (functions_of xs) → Each IsPlaced (with_body f o (functions_of xs))
      by None placed others = others
      by (Some body) placed others = (placed, others)

  pub all_placed : Each IsPlaced (functions_of program.items)
  all_placed = functions_placed program.items (λ j x is. (j, is)) all_right all_mine
