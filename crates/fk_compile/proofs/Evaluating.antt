-- An expression that is as well typed code asks it leaves one value or none.
use Rattle.std.proofs.Common.{◌≡◌, ℕ, Bool, true, false, List, refl, sym, ap, ◌∙◌, subst}
use Rattle.std.specs.Prelude.{◌==◌, not, codes, if◌then◌else◌}
use Rattle.fk_syntax.specs.declared.sign.Sign.{Sign}
use Rattle.fk_syntax.specs.declared.sign.Sign.TheVariants as g
use Rattle.fk_syntax.specs.Tree as t
use Rattle.fk_syntax.specs.Tree.{Named, Tree, Links, Trees, Suffixes}
use Rattle.fk_types_structs.specs.declared.types.DataType.{DataType}
use Rattle.fk_types_operators.specs.declared.values.ExpressionType.{ExpressionType}
use Rattle.fk_types_operators.specs.declared.values.ExpressionType.TheVariants.{Stored, Computed, Nothing}
use Rattle.fk_meaning_forms.specs.declared.tables.Home.{Home}
use Rattle.fk_meaning_forms.specs.declared.tables.Home.TheVariants as h
use Rattle.fk_meaning_forms.specs.Tables.{Tables, no_binding, note, slot}
use Rattle.fk_meaning_forms.specs.Expressions.{Signature, is_name, token}
use Rattle.fk_core_liveness.specs.declared.places.FunctionKind.{FunctionKind}
use Rattle.fk_lockstep_structure.specs.Valued as c
use Rattle.fk_lockstep_structure.specs.Valued.{Evaluates, LinksEvaluate, SuffixesEvaluate, AllEvaluate}
use Rattle.fk_lockstep_frames.specs.Nests.{Nest}
use Rattle.fk_core_typing.specs.declared.constants.Constant.{Constant as Address}
use Rattle.fk_lower_laws.specs.Ways as w
use Rattle.fk_lower_laws.specs.Asked as a
use Rattle.fk_lower_laws.specs.Asked.{Asked, LinksAsked, SuffixesAsked, AllAsked}
use Rattle.fk_lower_laws.specs.Typed.{IsNothing, IsWayOf}
use Rattle.fk_lower_laws.proofs.Typing.{typed_is_asked}
use Rattle.fk_compile.specs.OneProgram.{GiveResults, AskedEvaluates, TypedEvaluates}

-- the ways of well typed code tell more of an address
abbrev coarse : w.Way → c.Way
coarse w.Valued = c.Valued
coarse w.Absent = c.Absent
coarse w.Unchecked = c.Placed
coarse (w.Constant address) = c.Placed
coarse w.Array = c.Placed
coarse w.Word = c.Word
coarse (w.Function name) = c.Function name

gives_same : (x : w.Way) → c.gives (coarse x) ≡ w.gives x
gives_same w.Absent = refl
gives_same (w.Function name) = refl
gives_same x = refl

result_same : (b : Bool) → c.result b ≡ coarse (w.result b)
result_same true = refl
result_same false = refl

prefix_same : (sign : Sign) → c.prefix_way sign ≡ coarse (w.prefix_way sign)
prefix_same g.Star = refl
prefix_same sign = refl

target_same : (x : w.Way) → a.IsTarget x → c.IsTarget (coarse x)
target_same w.Unchecked h = tt
target_same (w.Constant address) h = tt
target_same w.Word h = tt
target_same x h = absurd h

address_same : (x : w.Way) → a.HasAddress x → c.HasAddress (coarse x)
address_same w.Unchecked h = tt
address_same (w.Constant address) h = tt
address_same w.Array h = tt
address_same x h = absurd h

has_same : (x : w.Way) (y : c.Way) → y ≡ coarse x → w.gives x ≡ true → c.gives y ≡ true
has_same x y e h = ap c.gives e ∙ gives_same x ∙ h

needs_same : (sign : Sign) (x : w.Way) → a.PrefixAsks sign x → c.PrefixNeeds sign (coarse x)
needs_same g.Ampersand x h = address_same x h
needs_same g.Increment x h = target_same x h
needs_same g.Decrement x h = target_same x h
needs_same sign x h = gives_same x ∙ h

predeclared_same : (name : Named) → c.predeclared_way name ≡ coarse (w.predeclared_way name)
predeclared_same name = by (is_name name (codes "__PROC_NR__")) (is_name name (codes "__STARTED_PROCS__")) (is_name name (codes "__inputs")) (is_name name (codes "__input"))
  where
    by : (p q r s : Bool)
        → (if p then c.Valued else if q then c.Valued else if r then c.Valued else if s then c.Placed else c.Function name)
        ≡ coarse (if p then w.Valued else if q then w.Valued else if r then w.Valued else if s then w.Array else w.Function name)
    by true q r s = refl
    by false true r s = refl
    by false false true s = refl
    by false false false true = refl
    by false false false false = refl

placed_same : (tables : Tables) (home : Home) (i : ℕ) (name : Named) → c.placed_way home name ≡ coarse (w.placed_way tables home i name)
placed_same tables h.Global i name = refl
placed_same tables h.FilePrivate i name = refl
placed_same tables h.Private i name = refl
placed_same tables (h.Group r) i name = refl
placed_same tables h.NoWord i name = refl

module _ (tables : Tables) (functions : (binding : ℕ) → Signature) (place_of : (binding : ℕ) → FunctionKind) (results : GiveResults functions place_of) (nests : List Nest) where
  abbrev the_way : Tree → w.Way
  the_way x = w.way tables place_of x

  abbrev our_way : Tree → c.Way
  our_way x = c.way tables functions x

  dotted_same : (at : ℕ) (x : w.Way) → c.Placed ≡ coarse (w.dotted_way tables place_of at x)
  dotted_same at (w.Constant address) = refl
  dotted_same at x = refl

  named : (name : Named) → c.named_way tables functions name ≡ coarse (w.named_way tables place_of name)
  named name = by ((note tables name.at).binding == no_binding)
    where
      by : (b : Bool) → (if b then c.predeclared_way name else c.placed_way (slot tables (note tables name.at).binding).home name)
          ≡ coarse (if b then w.predeclared_way name else w.placed_way tables (slot tables (note tables name.at).binding).home (slot tables (note tables name.at).binding).index name)
      by true = predeclared_same name
      by false = placed_same tables (slot tables (note tables name.at).binding).home (slot tables (note tables name.at).binding).index name

  -- it stands as it does in well typed code
  record Stands (E : Type 0) (x : c.Way) (y : w.Way) : Type 0 where
    evaluates : E
    same : x ≡ coarse y

  joined_same : (sign : Sign) (x : c.Way) (y : w.Way) → x ≡ coarse y → c.joined_way sign x ≡ coarse (w.joined_way sign y)
  joined_same g.Comma x y e = ap (λ (z : c.Way). c.result (c.gives z)) e ∙ ap c.result (gives_same y) ∙ result_same (w.gives y)
  joined_same sign x y e = refl

  joins_same : (sign : Sign) (l r : w.Way) (at : ℕ) → a.JoinAsks tables functions place_of nests sign l at r → c.JoinNeeds tables functions sign (coarse l) at (coarse r)
  joins_same g.Comma l r at h = gives_same l ∙ h
  joins_same sign l r at h = (gives_same l ∙ h.0, gives_same r ∙ h.1)

  -- who is called, with its arguments, gives what it says
  gives_by : (predeclared : Bool) (name : Named) (given : Trees) → a.NameTakes tables functions place_of nests predeclared name given
      → c.call_gives tables functions predeclared name ≡ (if predeclared then c.predeclared_gives name else w.place_gives (place_of (note tables name.at).binding))
  gives_by true name given h = refl
  gives_by false name given h = sym (results (note tables name.at).binding h.called)

  calls_same : (y : w.Way) (given : Trees) → a.CallAsks tables functions place_of nests y given → c.called_way tables functions (coarse y) ≡ coarse (w.called_way tables place_of y)
  calls_same (w.Function name) given h =
      ap c.result (gives_by ((note tables name.at).binding == no_binding) name given h) ∙ result_same (w.call_gives tables place_of name)
  calls_same y given h = absurd h

  takes_same : (predeclared : Bool) (name : Named) (given : Trees) → a.NameTakes tables functions place_of nests predeclared name given → c.NameTakes tables functions predeclared name given
  takes_same true name given h = h
  takes_same false name given h = h.enough

  call_needs : (y : w.Way) (given : Trees) → a.CallAsks tables functions place_of nests y given → c.CallNeeds tables functions (coarse y) given
  call_needs (w.Function name) given h = takes_same ((note tables name.at).binding == no_binding) name given h
  call_needs y given h = absurd h

  dot_needs : (at : ℕ) (y : w.Way) → a.DotAsks tables functions place_of nests at y → c.HasAddress (coarse y)
  dot_needs at w.Unchecked h = tt
  dot_needs at (w.Constant address) h = tt
  dot_needs at y h = absurd h

  mutual
    stands : (x : Tree) → Asked tables functions place_of nests x → Stands (Evaluates tables functions x) (our_way x) (the_way x)
    stands (t.Number spot value unsigned) h = record { evaluates = tt; same = refl }
    stands (t.Puts spot text) h = record { evaluates = tt; same = refl }
    stands (t.Sizeof spot type) h = record { evaluates = tt; same = refl }
    stands (t.Variable name) h = record { evaluates = tt; same = named name }
    stands (t.GroupNumber spot) h = record { evaluates = tt; same = refl }
    stands (t.GroupRank spot) h = record { evaluates = tt; same = refl }
    stands (t.Prefix spot sign operand) h =
        let s = stands operand h.0 in
        record {
          evaluates = (s.evaluates, subst (c.PrefixNeeds sign) (sym s.same) (needs_same sign (the_way operand) h.1));
          same = prefix_same sign;
        }
    stands (t.Cast spot type operand) h =
        let s = stands operand h.0 in
        record { evaluates = (s.evaluates, has_same (the_way operand) (our_way operand) s.same h.1); same = refl }
    stands (t.Chain first links) h =
        let s = stands first h.0 in
        let l = links_stand (our_way first) (the_way first) (token first) links s.same h.1 in
        record { evaluates = (s.evaluates, l.evaluates); same = l.same }
    stands (t.Postfix whole suffixes) h =
        let s = stands whole h.0 in
        let l = suffixes_stand (our_way whole) (the_way whole) suffixes s.same h.1 in
        record { evaluates = (s.evaluates, l.evaluates); same = l.same }
    stands (t.Assign spot sign target value) h =
        let s = stands target h.0 in
        let v = stands value h.2 in
        record {
          evaluates = (
            s.evaluates,
            subst c.IsTarget (sym s.same) (target_same (the_way target) h.1),
            v.evaluates,
            has_same (the_way value) (our_way value) v.same h.3,
          );
          same = refl;
        }
    stands (t.Choose spot condition first second) h =
        let d = stands condition h.0 in
        let x = stands first h.2 in
        let y = stands second h.3 in
        let first_gives : c.gives (our_way first) ≡ w.gives (the_way first) = ap c.gives x.same ∙ gives_same (the_way first) in
        let second_gives : c.gives (our_way second) ≡ w.gives (the_way second) = ap c.gives y.same ∙ gives_same (the_way second) in
        record {
          evaluates = (
            d.evaluates,
            has_same (the_way condition) (our_way condition) d.same h.1,
            x.evaluates,
            y.evaluates,
            second_gives ∙ h.4 ∙ sym first_gives,
          );
          same = ap c.result first_gives ∙ result_same (w.gives (the_way first));
        }

    links_stand : (x : c.Way) (y : w.Way) (at : ℕ) (links : Links) → x ≡ coarse y
        → LinksAsked tables functions place_of nests y at links
        → Stands (LinksEvaluate tables functions x at links) (c.chain_way tables functions x links) (w.chain_way tables place_of y links)
    links_stand x y at t.no_links e h = record { evaluates = tt; same = e }
    links_stand x y at (t.link spot sign right others) e h =
        let r = stands right h.0 in
        let l = links_stand (c.joined_way sign (our_way right)) (w.joined_way sign (the_way right)) spot.at others
        (joined_same sign (our_way right) (the_way right) r.same) h.2 in
        record {
          evaluates = (
            r.evaluates,
            subst (λ (v : c.Way). c.JoinNeeds tables functions sign x at v) (sym r.same)
                (subst (λ (u : c.Way). c.JoinNeeds tables functions sign u at (coarse (the_way right))) (sym e) (joins_same sign y (the_way right) at h.1)),
            l.evaluates,
          );
          same = l.same;
        }

    suffixes_stand : (x : c.Way) (y : w.Way) (suffixes : Suffixes) → x ≡ coarse y
        → SuffixesAsked tables functions place_of nests y suffixes
        → Stands (SuffixesEvaluate tables functions x suffixes) (c.suffixed_way tables functions x suffixes) (w.suffixed_way tables place_of y suffixes)
    suffixes_stand x y t.no_suffixes e h = record { evaluates = tt; same = e }
    suffixes_stand x y (t.index spot by others) e h =
        let b = stands by h.1 in
        let l = suffixes_stand c.Placed w.Unchecked others refl h.3 in
        record { evaluates = (has_same y x e h.0, b.evaluates, has_same (the_way by) (our_way by) b.same h.2, l.evaluates); same = l.same }
    suffixes_stand x y (t.call spot given others) e h =
        let l = suffixes_stand (c.called_way tables functions x) (w.called_way tables place_of y) others (ap (c.called_way tables functions) e ∙ calls_same y given h.0) h.2 in
        record {
          evaluates = (subst (λ (u : c.Way). c.CallNeeds tables functions u given) (sym e) (call_needs y given h.0), all_stand given h.1, l.evaluates);
          same = l.same;
        }
    suffixes_stand x y (t.dot spot name others) e h =
        let l = suffixes_stand c.Placed (w.dotted_way tables place_of name.at y) others (dotted_same name.at y) h.1 in
        record { evaluates = (subst c.HasAddress (sym e) (dot_needs name.at y h.0), l.evaluates); same = l.same }
    suffixes_stand x y (t.arrow spot name others) e h =
        let l = suffixes_stand c.Placed w.Unchecked others refl h.1 in
        record { evaluates = (has_same y x e h.0, l.evaluates); same = l.same }
    suffixes_stand x y (t.up spot others) e h =
        let l = suffixes_stand c.Valued w.Valued others refl h.1 in
        record { evaluates = (subst c.IsTarget (sym e) (target_same y h.0), l.evaluates); same = l.same }
    suffixes_stand x y (t.down spot others) e h =
        let l = suffixes_stand c.Valued w.Valued others refl h.1 in
        record { evaluates = (subst c.IsTarget (sym e) (target_same y h.0), l.evaluates); same = l.same }

    all_stand : (xs : Trees) → AllAsked tables functions place_of nests xs → AllEvaluate tables functions xs
    all_stand t.no_trees h = tt
    all_stand (t.tree first others) h =
        let s = stands first h.0 in
        (s.evaluates, has_same (the_way first) (our_way first) s.same h.1, all_stand others h.2)

  pub evaluates_as : (x : Tree) → Asked tables functions place_of nests x → Evaluates tables functions x × (c.gives (our_way x) ≡ w.gives (the_way x))
  evaluates_as x h = let s = stands x h in (s.evaluates, ap c.gives s.same ∙ gives_same (the_way x))

pub asked_evaluates : AskedEvaluates
asked_evaluates tables functions place_of results nests x h = evaluates_as tables functions place_of results nests x h

stands_gives : (Room : Address → DataType → Type 0) (y : w.Way) (type : ExpressionType) → IsWayOf Room y type → w.gives y ≡ not (IsNothing type)
stands_gives Room w.Valued (Computed value) s = refl
stands_gives Room w.Absent Nothing s = refl
stands_gives Room w.Unchecked (Stored type) s = refl
stands_gives Room (w.Constant address) (Stored type) s = refl
stands_gives Room w.Array (Stored type) s = refl
stands_gives Room w.Word (Stored type) s = refl
stands_gives Room y type s = absurd s

pub typed_evaluates : TypedEvaluates
typed_evaluates nests has_room may env tables functions place_of results x known type typed =
    let asked = typed_is_asked nests has_room may env tables functions place_of x known type typed in
    let e = evaluates_as tables functions place_of results nests x asked.0 in
    (e.0, e.1 ∙ stands_gives (λ address type'. has_room address type' ≡ true) (w.way tables place_of x) type asked.1)
