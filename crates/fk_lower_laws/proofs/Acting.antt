-- What the operations of forms make of values.
use Rattle.std.proofs.Common.{◌≡◌, ℕ, ◌≤◌, Bool, true, false, List, [], ◌∷◌, length, Option, Some, None, refl, sym, subst, ◌∙◌, arith}
use Rattle.std.specs.Prelude.{if◌then◌else◌}
use Rattle.std.proofs.lemmas.Bool.{false≢true}
use Rattle.fk_num.specs.Word.{word}
use Rattle.fk_num.specs.declared.operator.Op.{Op}
use Rattle.fk_num.specs.declared.operator.Op.TheVariants as f
use Rattle.fk_meaning_operation.specs.declared.operation.Operation.{Operation}
use Rattle.fk_meaning_operation.specs.declared.operation.Operation.TheVariants as o
use Rattle.fk_meaning_operation.specs.declared.operation.OwnValue.{OwnValue}
use Rattle.fk_meaning_operation.specs.declared.operation.OwnValue.TheVariants.{FrameAddress}
use Rattle.fk_meaning_operation.specs.declared.operation.Unary.{Unary}
use Rattle.fk_meaning_operation.specs.declared.operation.Multiprefix.{Multiprefix}
use Rattle.fk_meaning_operation.specs.declared.operation.Variable.{Variable}
use Rattle.fk_meaning_store.specs.Serve.{may_use}
use Rattle.fk_layout_sizes.specs.Operations.{takes}
use Rattle.fk_core_typing.specs.LocalDepths.{needs, leaves}
use Rattle.fk_sim_block.specs.Suits.{looks_at}
use Rattle.fk_core_typing.specs.declared.constants.Constants.{Constants}
use Rattle.fk_core_typing.specs.AddressValues.{constants, joined_constant, is_address}
use Rattle.fk_core_typing.specs.declared.constants.Constant.{Constant as Address}
use Rattle.fk_core_typing.specs.declared.constants.Constant.TheVariants.{Number, FrameWord}
use Rattle.fk_lockstep_frames.specs.Nests.{Nest, frame_of, nesting, has_word, MayTake}
use Rattle.fk_core_typing.specs.Values.{Value, Unknown, Usable, Shared, is_known, of_number, of_constant, checked, Place, place_behind, State, changed, values_behind, MayBeIn, Asks, May, IsAsGood, AreAsGood}
use Rattle.fk_core_typing.proofs.Granting.{none_same, none_asked, good_as_itself, as_long}
use Rattle.fk_lower_laws.proofs.TypedOk.{level, noted, Acts, as_unknown, acts_so, less}

may : (op : Operation) (s t : State) → MayBeIn op s.place → AreAsGood s.values t.values → needs op ≤ length t.values → looks_at op ≤ length t.values
    → Asks op s.values → May op s
may op s t place g few looks asks =
    let long = sym (as_long s.values t.values g) in
    record { place = place; values = subst (λ h. needs op ≤ h) long few; looks = subst (λ h. looks_at op ≤ h) long looks; asks = asks }

pub known_shared : (c : ℕ) → may_use true c ≡ true → IsAsGood (of_number c) Shared
known_shared c is = by (may_use true c) (may_use false c) is
  where
    by : (a b : Bool) → a ≡ true → IsAsGood (if a then Shared else if b then Usable else Unknown) Shared
    by true b e shared_alone k = refl
    by false b e shared_alone k = absurd (false≢true e)

-- a known address
pub known_address : (nests : List Nest) (c : Address) → is_address true nests (Some c) ≡ true → IsAsGood (of_constant nests (Some c)) Shared
known_address nests (Number n) is = known_shared n is
known_address nests (FrameWord nesting word) is = by (has_word nests nesting word) is
  where
    by : (b : Bool) → b ≡ true → IsAsGood (if b then Shared else Unknown) Shared
    by true e shared_alone k = refl
    by false e shared_alone k = absurd (false≢true e)

pub checked_usable : (v : Value) → IsAsGood (checked false v) Usable
checked_usable Unknown shared_alone e = e
checked_usable Usable shared_alone e = e
checked_usable Shared shared_alone e = refl

-- the address of a member, behind that of its struct
joins_known : (l r : Option Address) (c d result : Address) → l ≡ Some c → r ≡ Some d → joined_constant f.Add false (Some c) (Some d) ≡ Some result
    → joined_constant f.Add false l r ≡ Some result
joins_known l r c d result is also joined =
    subst (λ x. joined_constant f.Add false x r ≡ Some result) (sym is)
    (subst (λ x. joined_constant f.Add false (Some c) x ≡ Some result) (sym also) joined)

join_good : (nests : List Nest) (sign : Op) (turned : Bool) (known : Constants) (ws : List Value) (x y v : Value) (vs : List Value) → AreAsGood ws (x ∷ y ∷ vs)
    → IsAsGood (of_constant nests (joined_constant sign turned known.second known.last)) v
    → AreAsGood (values_behind nests (o.Binary sign turned) true known ws) (v ∷ vs)
join_good nests sign turned known [] x y v vs h k = absurd h
join_good nests sign turned known (b ∷ []) x y v vs h k = absurd h.1
join_good nests sign turned known (b ∷ a ∷ ws) x y v vs h k = (k, h.1.1)

copy_good : (nests : List Nest) (known : Constants) (ws : List Value) (v : Value) (vs : List Value) → AreAsGood ws (v ∷ vs)
    → AreAsGood (values_behind nests o.CopyLast true known ws) (v ∷ v ∷ vs)
copy_good nests known [] v vs h = absurd h
copy_good nests known (w ∷ ws) v vs h = (h.0, h)

check_good : (nests : List Nest) (shared_alone : Bool) (known : Constants) (ws : List Value) (v w : Value) (vs : List Value) → AreAsGood ws (v ∷ vs)
    → ((u : Value) → IsAsGood (checked shared_alone u) w)
    → AreAsGood (values_behind nests (o.Check shared_alone) true known ws) (w ∷ vs)
check_good nests shared_alone known [] v w vs h k = absurd h
check_good nests shared_alone known (u ∷ ws) v w vs h k = (k u, h.1)

agree_good : (nests : List Nest) (known : Constants) (ws : List Value) (v : Value) (vs : List Value) → AreAsGood ws (v ∷ vs)
    → AreAsGood (values_behind nests o.Agree true known ws) (Unknown ∷ vs)
agree_good nests known [] v vs h = absurd h
agree_good nests known (w ∷ ws) v vs h = (as_unknown Unknown, h.1)

read_asks : (ws : List Value) (v : Value) (vs : List Value) → AreAsGood ws (v ∷ vs) → is_known false v ≡ true → Asks o.Read ws
read_asks [] v vs h e = absurd h
read_asks (w ∷ ws) v vs h e = h.0 false e

write_asks : (ws : List Value) (u v : Value) (vs : List Value) → AreAsGood ws (u ∷ v ∷ vs) → is_known false v ≡ true → Asks o.Write ws
write_asks [] u v vs h e = absurd h
write_asks (x ∷ []) u v vs h e = absurd h.1
write_asks (x ∷ w ∷ ws) u v vs h e = h.1.0 false e

combine_asks : (by : Multiprefix) (ws : List Value) (u v : Value) (vs : List Value) → AreAsGood ws (u ∷ v ∷ vs) → is_known true v ≡ true → Asks (o.Combine by) ws
combine_asks by [] u v vs h e = absurd h
combine_asks by (x ∷ []) u v vs h e = absurd h.1
combine_asks by (x ∷ w ∷ ws) u v vs h e = h.1.0 true e

abbrev is_frame_word : OwnValue → Bool
is_frame_word (FrameAddress nesting word) = true
is_frame_word known = false

abbrev pub Does : Place → Operation → (before after : List Value) → Type 0
Does p op ts us = Acts true op (level p ts) (level p us)

-- a number, and one that is a constant address of shared data
pushed_so : (n : ℕ) (t : State) → Acts true (o.Push n) t (record { place = t.place; values = of_number (word n) ∷ t.values; constants = constants (Some (Number (word n))) t.constants.last })
pushed_so n t = record {
  acts = λ s g. (
    may (o.Push n) s t tt g.values (omega arith) (omega arith) tt,
    record {
      place = g.place;
      values = (λ shared_alone e. e, g.values);
      constants = record { last = λ m e. e; second = g.constants.last };
    },
  );
}

-- a number of bytes, behind a known address
abbrev pub with_offset : Place → Address → (offset : ℕ) → List Value → State
with_offset p c d vs = record { place = p; values = Unknown ∷ Shared ∷ vs; constants = constants (Some (Number d)) (Some c) }

-- all others
pub simply : (p : Place) (onward : Bool) (op : Operation) (ts : List Value) → MayBeIn op p → needs op ≤ length ts → looks_at op ≤ length ts → ((ws : List Value) → Asks op ws)
    → ((nests : List Nest) (known : Constants) (ws : List Value) → values_behind nests op onward known ws ≡ changed (takes op) (leaves op onward) ws)
    → Acts onward op (level p ts) (level (place_behind op onward p) (changed (takes op) (leaves op onward) ts))
simply p onward op ts may few looks asks same = acts_so onward op (level p ts) may few looks (λ ws g. asks ws) same

-- a frame is taken in the innermost nest, which has none
pub takes_frame : (q : Place) (number words : ℕ) (nest : Nest) (nests : List Nest) → q.nests ≡ nest ∷ nests → number ≡ nesting (nest ∷ nests) → frame_of nest ≡ None
    → Acts true (o.Frame number words) (level q []) (level (place_behind (o.Frame number words) true q) [])
takes_frame q number words nest nests is level' none =
    simply q true (o.Frame number words) [] (subst (MayTake number) (sym is) (level', none)) (omega arith) (omega arith) (λ ws. tt) (λ ns c ws. refl)

module _ {p : Place} {vs : List Value} where
  pub push : (n : ℕ) → Does p (o.Push n) vs (Unknown ∷ vs)
  push n = less (pushed_so n (level p vs)) (record { place = refl; values = (as_unknown (of_number (word n)), good_as_itself vs); constants = none_asked _ })

  pub push_address : (n : ℕ) → may_use true (word n) ≡ true → Acts true (o.Push n) (level p vs) (noted p (Number (word n)) vs)
  push_address n is = less (pushed_so n (level p vs)) (record {
    place = refl;
    values = (known_shared (word n) is, good_as_itself vs);
    constants = record { last = λ m e. e; second = λ m e. e };
  })

  pub push_offset : (c : Address) (n : ℕ) → Acts true (o.Push n) (noted p c vs) (with_offset p c (word n) vs)
  push_offset c n = less (pushed_so n (noted p c vs)) (record {
    place = refl;
    values = (as_unknown (of_number (word n)), good_as_itself (Shared ∷ vs));
    constants = record { last = λ m e. e; second = λ m e. e };
  })

  pub add_offset : (c : Address) (d : ℕ) (result : Address) → joined_constant f.Add false (Some c) (Some (Number d)) ≡ Some result → is_address true p.nests (Some result) ≡ true
      → Acts true (o.Binary f.Add false) (with_offset p c d vs) (noted p result vs)
  add_offset c d result joined is = record {
    acts = λ s g.
        let same = joins_known s.constants.second s.constants.last c (Number d) result (g.constants.second c refl) (g.constants.last (Number d) refl) joined in
        let may_be = subst (λ (place : Place). is_address true place.nests (Some result) ≡ true) (sym g.place) is in (
          may (o.Binary f.Add false) s (with_offset p c d vs) tt g.values (omega arith) (omega arith) tt,
          record {
            place = g.place;
            values = join_good s.place.nests f.Add false s.constants s.values Unknown Shared Shared vs g.values
                (subst (λ x. IsAsGood (of_constant s.place.nests x) Shared) (sym same) (known_address s.place.nests result may_be));
            constants = record { last = λ m e. same ∙ e; second = λ m e. e };
          },
        );
  }

  pub join : {u v : Value} → (sign : Op) (turned : Bool) → Does p (o.Binary sign turned) (u ∷ v ∷ vs) (Unknown ∷ vs)
  join {u = u} {v = v} sign turned = record {
    acts = λ s g. (
      may (o.Binary sign turned) s (level p (u ∷ v ∷ vs)) tt g.values (omega arith) (omega arith) tt,
      record {
        place = g.place;
        values = join_good s.place.nests sign turned s.constants s.values u v Unknown vs g.values (as_unknown (of_constant s.place.nests (joined_constant sign turned s.constants.second s.constants.last)));
        constants = none_asked _;
      },
    );
  }

  pub copy : {v : Value} → Does p o.CopyLast (v ∷ vs) (v ∷ v ∷ vs)
  copy {v = v} = record {
    acts = λ s g. (
      may o.CopyLast s (level p (v ∷ vs)) tt g.values (omega arith) (omega arith) tt,
      record { place = g.place; values = copy_good s.place.nests s.constants s.values v vs g.values; constants = none_asked _ },
    );
  }

  check_so : (shared_alone : Bool) (v w : Value) → ((u : Value) → IsAsGood (checked shared_alone u) w) → Does p (o.Check shared_alone) (v ∷ vs) (w ∷ vs)
  check_so shared_alone v w is = record {
    acts = λ s g. (
      may (o.Check shared_alone) s (level p (v ∷ vs)) tt g.values (omega arith) (omega arith) tt,
      record { place = g.place; values = check_good s.place.nests shared_alone s.constants s.values v w vs g.values is; constants = none_asked _ },
    );
  }

  pub check : {v : Value} → Does p (o.Check false) (v ∷ vs) (Usable ∷ vs)
  check {v = v} = check_so false v Usable checked_usable

  pub check_shared : {v : Value} → Does p (o.Check true) (v ∷ vs) (Shared ∷ vs)
  check_shared {v = v} = check_so true v Shared (λ u shared_alone e. e)

  pub read : (v : Value) → is_known false v ≡ true → Does p o.Read (v ∷ vs) (Unknown ∷ vs)
  read v is = acts_so true o.Read (level p (v ∷ vs)) tt (omega arith) (omega arith) (λ ws g. read_asks ws v vs g is) (λ nests known ws. refl)

  pub write : (v : Value) → is_known false v ≡ true → Does p o.Write (Unknown ∷ v ∷ vs) (Unknown ∷ vs)
  write v is = acts_so true o.Write (level p (Unknown ∷ v ∷ vs)) tt (omega arith) (omega arith) (λ ws g. write_asks ws Unknown v vs g is) (λ nests known ws. refl)

  pub combine : (by : Multiprefix) → Does p (o.Combine by) (Unknown ∷ Shared ∷ vs) (Unknown ∷ vs)
  combine by = acts_so true (o.Combine by) (level p (Unknown ∷ Shared ∷ vs)) tt (omega arith) (omega arith) (λ ws g. combine_asks by ws Unknown Shared vs g refl) (λ nests known ws. refl)

  -- a value that a processor knows by itself, and that isn't the address of a word of a frame
  pub get : (known : OwnValue) → is_frame_word known ≡ false → Does p (o.Get known) vs (Unknown ∷ vs)
  get (FrameAddress nesting word) is = absurd (false≢true (sym is))
  get known is = simply p true (o.Get known) vs tt (omega arith) (omega arith) (λ ws. tt) (λ ns c ws. refl)

  pub get_own : (nesting word : ℕ) → has_word p.nests nesting word ≡ true → Acts true (o.Get (FrameAddress nesting word)) (level p vs) (noted p (FrameWord nesting word) vs)
  get_own nesting word is = record {
    acts = λ s g.
        let here = subst (λ (place : Place). has_word place.nests nesting word ≡ true) (sym g.place) is in (
          may (o.Get (FrameAddress nesting word)) s (level p vs) here g.values (omega arith) (omega arith) tt,
          record {
            place = g.place;
            values = (known_address s.place.nests (FrameWord nesting word) here, g.values);
            constants = record { last = λ m e. e; second = none_same s.constants.last };
          },
        );
  }

  pub set : (variable : Variable) → Does p (o.Set variable) (Unknown ∷ vs) (Unknown ∷ vs)
  set variable = simply p true (o.Set variable) (Unknown ∷ vs) tt (omega arith) (omega arith) (λ ws. tt) (λ ns c ws. refl)

  pub drop_last : Does p o.DropLast (Unknown ∷ vs) vs
  drop_last = simply p true o.DropLast (Unknown ∷ vs) tt (omega arith) (omega arith) (λ ws. tt) (λ ns c ws. refl)

  pub apply : (sign : Unary) → Does p (o.Apply sign) (Unknown ∷ vs) (Unknown ∷ vs)
  apply sign = simply p true (o.Apply sign) (Unknown ∷ vs) tt (omega arith) (omega arith) (λ ws. tt) (λ ns c ws. refl)

  pub index : (size : ℕ) → Does p (o.Index size) (Unknown ∷ Unknown ∷ vs) (Unknown ∷ vs)
  index size = simply p true (o.Index size) (Unknown ∷ Unknown ∷ vs) tt (omega arith) (omega arith) (λ ws. tt) (λ ns c ws. refl)

  pub agree : Does p o.Agree (Unknown ∷ vs) (Unknown ∷ vs)
  agree = record {
    acts = λ s g. (
      may o.Agree s (level p (Unknown ∷ vs)) tt g.values (omega arith) (omega arith) tt,
      record { place = g.place; values = agree_good s.place.nests s.constants s.values Unknown vs g.values; constants = none_asked _ },
    );
  }
