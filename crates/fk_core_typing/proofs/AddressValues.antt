-- What is known of values, and what operations make of it.
use Rattle.std.proofs.Common.{None, Option, Bool, List, Some, [], ap, arith, eqb-true, false, if◌then◌else◌, length, nat_lt, not, refl, slice_get, subst, suc, sym, true, zero, ℕ, ◌+◌, ◌-◌, ◌/◌, ◌%◌, ◌^◌, ◌==◌, ◌||◌, ◌∙◌, ◌∷◌, ◌≡◌, ◌≤◌}
use Rattle.fk_meaning_store.specs.Store.{address_of, private_words, private_address}
use Rattle.fk_meaning_store.specs.Serve.{may_use}
use Rattle.fk_meaning.specs.Processor.{Level, Processor, values, last, before, in_place, to_outer}
use Rattle.fk_meaning.specs.Group.{taken_by, divided, enters}
use Rattle.fk_meaning_operation.specs.declared.operation.SplitKind.{SplitKind}
use Rattle.fk_meaning_operation.specs.declared.operation.SplitKind.TheVariants as s
use Rattle.fk_num.specs.Word.{Memory, word}
use Rattle.fk_num.specs.Op.{applied}
use Rattle.fk_num.specs.declared.operator.Op.{Op}
use Rattle.fk_num.specs.declared.operator.Op.TheVariants.{Add}
use Rattle.fk_meaning.specs.Local.{joined, taken, in_order}
use Rattle.fk_lockstep_frames.specs.Nests.{Nest, has_word}
use Rattle.fk_core_typing.specs.declared.constants.Constant.{Constant}
use Rattle.fk_core_typing.specs.declared.constants.Constant.TheVariants.{Number, FrameWord}
use Rattle.fk_core_typing.specs.declared.constants.Constants.{Constants}
use Rattle.fk_core_typing.specs.AddressValues as ch
use Rattle.fk_core_typing.specs.AddressValues.{pushed, after, pushed_by, constants, no_constants, joined_constant, is_address}
use Rattle.fk_core_typing.specs.LocalAddresses.{AreSameIn}

-- a value is there, and is an address
pub record Holds (shared_alone : Bool) (vs : List ℕ) (value : ℕ) : Type 0 where
  pub address : ℕ
  pub at : slice_get vs value ≡ Some address
  pub may : may_use shared_alone address ≡ true

abbrev pub Knows : (shared_alone : Bool) → (known : ℕ → Bool) → List ℕ → Type 0
Knows shared_alone known vs = (value : ℕ) → known value ≡ true → Holds shared_alone vs value

before_at : (n : ℕ) (vs : List ℕ) (k : ℕ) → slice_get (before n vs) k ≡ slice_get vs (n + k)
before_at zero vs k = let e : k ≡ 0 + k = omega arith in ap (slice_get vs) e
before_at (suc n) [] k = refl
before_at (suc n) (v ∷ vs) k =
    let e : suc (n + k) ≡ suc n + k = omega arith in
    before_at n vs k ∙ ap (slice_get (v ∷ vs)) e

pub nothing : (shared_alone : Bool) (known : ℕ → Bool) (vs : List ℕ) → ((value : ℕ) → known value ≡ false) → Knows shared_alone known vs
nothing shared_alone known vs none value e = let f = none value in absurd (cc)

pub dropped : (shared_alone : Bool) (known : ℕ → Bool) (n : ℕ) (vs : List ℕ) → Knows shared_alone known vs
    → Knows shared_alone (λ v. known (n + v)) (before n vs)
dropped shared_alone known n vs knows value e =
    let h = knows (n + value) e in
    record { address = h.address; at = before_at n vs value ∙ h.at; may = h.may }

pub all_kept : (shared_alone : Bool) (known : ℕ → Bool) (vs : List ℕ) → Knows shared_alone known vs → Knows shared_alone (λ v. known (0 + v)) vs
all_kept shared_alone known vs knows = dropped shared_alone known 0 vs knows

pub one_pushed : (shared_alone : Bool) (known : ℕ → Bool) (b : Bool) (v : ℕ) (vs : List ℕ) → (b ≡ true → may_use shared_alone v ≡ true)
    → Knows shared_alone known vs → Knows shared_alone (pushed (Some b) known) (v ∷ vs)
one_pushed shared_alone known b v vs may knows zero e = record { address = v; at = refl; may = may e }
one_pushed shared_alone known b v vs may knows (suc value) e = let h = knows value e in record { address = h.address; at = h.at; may = h.may }

never : (A : Type 0) → false ≡ true → A
never A e = absurd (cc)

-- a value of which nothing is known
pub any_pushed : (shared_alone : Bool) (known : ℕ → Bool) (v : ℕ) (vs : List ℕ) → Knows shared_alone known vs
    → Knows shared_alone (pushed (Some false) known) (v ∷ vs)
any_pushed shared_alone known v vs knows = one_pushed shared_alone known false v vs (λ e. never (may_use shared_alone v ≡ true) e) knows

pub one_replaced : (shared_alone : Bool) (known : ℕ → Bool) (v : ℕ) (vs : List ℕ) → Knows shared_alone known vs
    → Knows shared_alone (pushed (Some false) (λ k. known (1 + k))) (v ∷ before 1 vs)
one_replaced shared_alone known v vs knows =
    any_pushed shared_alone (λ k. known (1 + k)) v (before 1 vs) (dropped shared_alone known 1 vs knows)

before_two : (vs : List ℕ) → before 2 vs ≡ before 1 (before 1 vs)
before_two [] = refl
before_two (v ∷ []) = refl
before_two (v ∷ w ∷ vs) = refl

pub two_replaced : (shared_alone : Bool) (known : ℕ → Bool) (v : ℕ) (vs : List ℕ) → Knows shared_alone known vs
    → Knows shared_alone (pushed (Some false) (λ k. known (2 + k))) (v ∷ before 1 (before 1 vs))
two_replaced shared_alone known v vs knows =
    any_pushed shared_alone (λ k. known (2 + k)) v (before 1 (before 1 vs))
    (subst (λ (ws : List ℕ). Knows shared_alone (λ k. known (2 + k)) ws) (before_two vs) (dropped shared_alone known 2 vs knows))

-- nothing stands behind the end
past_none : (value : ℕ) (shared_alone : Bool) → Holds shared_alone [] value → ⊥
past_none value shared_alone h = let at = h.at in absurd (cc)

past_one : (x value : ℕ) (shared_alone : Bool) → Holds shared_alone (x ∷ []) (2 + value) → ⊥
past_one x value shared_alone h =
    let e : 2 + value ≡ suc (suc value) = omega arith in
    let at : slice_get (x ∷ []) (suc (suc value)) ≡ Some h.address = subst (λ i. slice_get (x ∷ []) i ≡ Some h.address) e h.at in
    absurd (cc)

pub two_joined : (shared_alone : Bool) (known : ℕ → Bool) (b : Bool) (f : ℕ → ℕ → ℕ) (vs : List ℕ)
    → ((v w : ℕ) → slice_get vs 0 ≡ Some w → slice_get vs 1 ≡ Some v → b ≡ true → may_use shared_alone (f v w) ≡ true)
    → ((b ≡ true) → 2 ≤ length vs) → Knows shared_alone known vs
    → Knows shared_alone (pushed (Some b) (λ k. known (2 + k))) (joined f vs)
two_joined shared_alone known b f [] may two knows zero e = let n = two e in absurd (omega (arith, n))
two_joined shared_alone known b f [] may two knows (suc value) e = absurd (past_none (2 + value) shared_alone (knows (2 + value) e))
two_joined shared_alone known b f (x ∷ []) may two knows zero e = let n = two e in absurd (omega (arith, n))
two_joined shared_alone known b f (x ∷ []) may two knows (suc value) e = absurd (past_one x value shared_alone (knows (2 + value) e))
two_joined shared_alone known b f (x ∷ y ∷ vs) may two knows value e =
    one_pushed shared_alone (λ k. known (2 + k)) b (f y x) vs (may y x refl refl) (dropped shared_alone known 2 (x ∷ y ∷ vs) knows) value e

-- of two values nothing is known
pub any_joined : (shared_alone : Bool) (known : ℕ → Bool) (f : ℕ → ℕ → ℕ) (vs : List ℕ) → Knows shared_alone known vs
    → Knows shared_alone (pushed (Some false) (λ k. known (2 + k))) (joined f vs)
any_joined shared_alone known f vs knows =
    two_joined shared_alone known false f vs (λ v w a b e. never (may_use shared_alone (f v w) ≡ true) e) (λ e. never (2 ≤ length vs) e) knows

-- an address that a check passes may be used as one that it asks for, and for less
pub weaker : (asked checked : Bool) (address : ℕ) → checked || not asked ≡ true → may_use checked address ≡ true → may_use asked address ≡ true
weaker true true address e may = may
weaker false false address e may = may
weaker false true address e may = grind arith
weaker true false address e may = absurd (cc)

-- what a constant is, by the first words of the frames of its call
abbrev pub value_of : (frames : Memory) → Constant → ℕ
value_of frames (Number n) = n
value_of frames (FrameWord nesting offset) = word (address_of (frames nesting + offset))

-- the constants among the last values
pub record HasConstants (frames : Memory) (known : Constants) (vs : List ℕ) : Type 0 where
  pub last : (c : Constant) → known.last ≡ Some c → slice_get vs 0 ≡ Some (value_of frames c)
  pub second : (c : Constant) → known.second ≡ Some c → slice_get vs 1 ≡ Some (value_of frames c)

never_some : (A : Type 0) (c : Constant) → None ≡ Some c → A
never_some A c e = absurd (cc)

pub no_constant : (frames : Memory) (vs : List ℕ) → HasConstants frames no_constants vs
no_constant frames vs = record {
  last = λ c e. never_some (slice_get vs 0 ≡ Some (value_of frames c)) c e;
  second = λ c e. never_some (slice_get vs 1 ≡ Some (value_of frames c)) c e;
}

pub fewer_constants : (frames : Memory) (here elsewhere : Constants) (vs : List ℕ) → AreSameIn here elsewhere → HasConstants frames elsewhere vs → HasConstants frames here vs
fewer_constants frames here elsewhere vs same has = record { last = λ c e. has.last c (same.last c e); second = λ c e. has.second c (same.second c e) }

same_constant : (c d : Constant) → Some c ≡ Some d → c ≡ d
same_constant c d e = cc

pub constant_pushed : (frames : Memory) (c : Constant) (known : Constants) (vs : List ℕ) → HasConstants frames known vs
    → HasConstants frames (constants (Some c) known.last) (value_of frames c ∷ vs)
constant_pushed frames c known vs has = record { last = λ d e. ap (λ b. Some (value_of frames b)) (same_constant c d e); second = λ d e. has.last d e }

-- what an operator gives of two constants
bytes_on : (first offset bytes : ℕ) → bytes % 4 ≡ 0
    → (word (address_of (first + offset)) + bytes) % 2 ^ 32 ≡ word (address_of (first + (offset + bytes / 4)))
bytes_on first offset bytes e = omega (arith, e)

bytes_before : (first offset bytes : ℕ) → bytes % 4 ≡ 0
    → (bytes + word (address_of (first + offset))) % 2 ^ 32 ≡ word (address_of (first + (offset + bytes / 4)))
bytes_before first offset bytes e = omega (arith, e)

module _ (frames : Memory) where
  word_behind : (turned : Bool) (nesting offset bytes : ℕ) (c : Constant) (whole : Bool) → (bytes % 4 == 0) ≡ whole
      → (if whole then Some (FrameWord nesting (offset + bytes / 4)) else None) ≡ Some c
      → in_order turned (applied Add) (value_of frames (FrameWord nesting offset)) bytes ≡ value_of frames c
  word_behind turned nesting offset bytes c false is e = absurd (cc)
  word_behind true nesting offset bytes c true is e =
      bytes_before (frames nesting) offset bytes (eqb-true (bytes % 4) 0 is) ∙ ap (value_of frames) (same_constant (FrameWord nesting (offset + bytes / 4)) c e)
  word_behind false nesting offset bytes c true is e =
      bytes_on (frames nesting) offset bytes (eqb-true (bytes % 4) 0 is) ∙ ap (value_of frames) (same_constant (FrameWord nesting (offset + bytes / 4)) c e)

  joined_is : (op : Op) (turned : Bool) (a b c : Constant) → joined_constant op turned (Some a) (Some b) ≡ Some c
      → in_order turned (applied op) (value_of frames a) (value_of frames b) ≡ value_of frames c
  joined_is op turned (Number a) (Number b) c e = ap (value_of frames) (same_constant (Number (in_order turned (applied op) a b)) c e)
  joined_is Add turned (FrameWord nesting offset) (Number bytes) c e = word_behind turned nesting offset bytes c (bytes % 4 == 0) refl e
  joined_is op turned a b c e = absurd (cc)

  no_last : (op : Op) (turned : Bool) (a c : Constant) → joined_constant op turned (Some a) None ≡ Some c → ⊥
  no_last op turned (Number n) c e = absurd (cc)
  no_last Add turned (FrameWord nesting offset) c e = absurd (cc)
  no_last op turned (FrameWord nesting offset) c e = absurd (cc)

  -- the values of two constants stand last, and their join is one
  record Joined (op : Op) (turned : Bool) (vs : List ℕ) (c : Constant) : Type 0 where
    a : ℕ
    b : ℕ
    rest : List ℕ
    two : vs ≡ b ∷ a ∷ rest
    is : in_order turned (applied op) a b ≡ value_of frames c

  two_last : (op : Op) (turned : Bool) (a b c : Constant) (vs : List ℕ) → slice_get vs 1 ≡ Some (value_of frames a) → slice_get vs 0 ≡ Some (value_of frames b)
      → joined_constant op turned (Some a) (Some b) ≡ Some c → Joined op turned vs c
  two_last op turned a b c [] s l e = absurd (cc)
  two_last op turned a b c (x ∷ []) s l e = absurd (cc)
  two_last op turned a b c (x ∷ y ∷ vs) s l e =
      let v : y ≡ value_of frames a = cc in
      let w : x ≡ value_of frames b = cc in
      record {
        a = y;
        b = x;
        rest = vs;
        two = refl;
        is = ap (λ y. in_order turned (applied op) y x) v ∙ ap (λ x. in_order turned (applied op) (value_of frames a) x) w ∙ joined_is op turned a b c e;
      }

  joined_last : (op : Op) (turned : Bool) (known : Constants) (vs : List ℕ) → HasConstants frames known vs
      → (c : Constant) → joined_constant op turned known.second known.last ≡ Some c → Joined op turned vs c
  joined_last op turned known vs has c e = by known.second known.last has.second has.last e
    where
      by : (second last : Option Constant) → ((c : Constant) → second ≡ Some c → slice_get vs 1 ≡ Some (value_of frames c))
          → ((c : Constant) → last ≡ Some c → slice_get vs 0 ≡ Some (value_of frames c)) → joined_constant op turned second last ≡ Some c → Joined op turned vs c
      by None last s l e = absurd (cc)
      by (Some a) None s l e = absurd (no_last op turned a c e)
      by (Some a) (Some b) s l e = two_last op turned a b c vs (s a refl) (l b refl) e

  pub constant_joined : (op : Op) (turned : Bool) (known : Constants) (vs : List ℕ) → HasConstants frames known vs
      → HasConstants frames (constants (joined_constant op turned known.second known.last) None) (joined (in_order turned (applied op)) vs)
  constant_joined op turned known vs has = record {
    last = λ c e.
        let j = joined_last op turned known vs has c e in
        subst (λ (ws : List ℕ). slice_get (joined (in_order turned (applied op)) ws) 0 ≡ Some (value_of frames c)) (sym j.two) (ap (λ v. Some v) j.is);
    second = λ c e. never_some (slice_get (joined (in_order turned (applied op)) vs) 1 ≡ Some (value_of frames c)) c e;
  }

  -- the words of the frames may be used
  module _ (nests : List Nest) (usable : (nesting offset : ℕ) → has_word nests nesting offset ≡ true → may_use true (value_of frames (FrameWord nesting offset)) ≡ true) where
    pub constant_may : (shared_alone : Bool) (c : Constant) → is_address shared_alone nests (Some c) ≡ true → may_use shared_alone (value_of frames c) ≡ true
    constant_may shared_alone (Number n) e = e
    constant_may shared_alone (FrameWord nesting offset) e = weaker shared_alone true (value_of frames (FrameWord nesting offset)) refl (usable nesting offset e)

    joined_address : (shared_alone : Bool) (op : Op) (turned : Bool) (known : Constants) (vs : List ℕ) → HasConstants frames known vs
        → is_address shared_alone nests (joined_constant op turned known.second known.last) ≡ true
        → (c : Constant) × Joined op turned vs c × (may_use shared_alone (value_of frames c) ≡ true)
    joined_address shared_alone op turned known vs has e = by (joined_constant op turned known.second known.last) refl e
      where
        by : (made : Option Constant) → joined_constant op turned known.second known.last ≡ made → is_address shared_alone nests made ≡ true
            → (c : Constant) × Joined op turned vs c × (may_use shared_alone (value_of frames c) ≡ true)
        by None is e = absurd (cc)
        by (Some c) is e = (c, joined_last op turned known vs has c is, constant_may shared_alone c e)

    pub joined_may : (shared_alone : Bool) (op : Op) (turned : Bool) (known : Constants) (vs : List ℕ) → HasConstants frames known vs
        → (v w : ℕ) → slice_get vs 0 ≡ Some w → slice_get vs 1 ≡ Some v
        → is_address shared_alone nests (joined_constant op turned known.second known.last) ≡ true → may_use shared_alone (in_order turned (applied op) v w) ≡ true
    joined_may shared_alone op turned known vs has v w l s e =
        let h = joined_address shared_alone op turned known vs has e in
        let j = h.1 in
        let last : Some j.b ≡ Some w = ap (λ (ws : List ℕ). slice_get ws 0) (sym j.two) ∙ l in
        let second : Some j.a ≡ Some v = ap (λ (ws : List ℕ). slice_get ws 1) (sym j.two) ∙ s in
        let x : j.a ≡ v = cc in
        let y : j.b ≡ w = cc in
        subst (λ v. may_use shared_alone (in_order turned (applied op) v w) ≡ true) x
        (subst (λ w. may_use shared_alone (in_order turned (applied op) j.a w) ≡ true) y
        (subst (λ n. may_use shared_alone n ≡ true) (sym j.is) h.2))

    pub joined_two : (shared_alone : Bool) (op : Op) (turned : Bool) (known : Constants) (vs : List ℕ) → HasConstants frames known vs
        → is_address shared_alone nests (joined_constant op turned known.second known.last) ≡ true → 2 ≤ length vs
    joined_two shared_alone op turned known vs has e =
        let h = joined_address shared_alone op turned known vs has e in
        let j = h.1 in
        subst (λ (ws : List ℕ). 2 ≤ length ws) (sym j.two) (omega arith)

pub words_taken : (shared_alone : Bool) (known : ℕ → Bool) (words : ℕ) (p : Processor) → Knows shared_alone known (values p)
    → Knows shared_alone (pushed (Some false) (λ k. known (1 + k))) (values (taken words p))
words_taken shared_alone known words p knows = by (words == 0) (nat_lt (private_words - p.top) words)
  where
    by : (none large : Bool) → Knows shared_alone (pushed (Some false) (λ k. known (1 + k)))
        (values (if none then in_place 0 p else if large then in_place 0 p else in_place (private_address p.top) (record p { top = p.top + words })))
    by true large = one_replaced shared_alone known 0 (values p) knows
    by false true = one_replaced shared_alone known 0 (values p) knows
    by false false = one_replaced shared_alone known (private_address p.top) (values p) knows

pub passed : (asked checked : Bool) (known : ℕ → Bool) (vs : List ℕ) → may_use checked (last vs) ≡ true → Knows asked known vs
    → Knows asked (pushed (Some (known 0 || (checked || not asked))) (λ k. known (1 + k))) vs
passed asked checked known [] may knows value e = never_passes checked may
  where
    never_passes : (checked : Bool) → may_use checked 0 ≡ true → Holds asked [] value
    never_passes true e = absurd (cc)
    never_passes false e = absurd (cc)
passed asked checked known (v ∷ vs) may knows zero e = by (known 0) refl (checked || not asked) refl
  where
    by : (a : Bool) → known 0 ≡ a → (b : Bool) → checked || not asked ≡ b → Holds asked (v ∷ vs) 0
    by true f b g = knows 0 f
    by false f true g = record { address = v; at = refl; may = weaker asked checked v g may }
    by false f false g = absurd (cc)
passed asked checked known (v ∷ vs) may knows (suc value) e =
    let n : 1 + value ≡ suc value = omega arith in subst (Holds asked (v ∷ vs)) n (knows (1 + value) e)

pub taken_callers : (words : ℕ) (p : Processor) → (taken words p).callers ≡ p.callers
taken_callers words p = by (words == 0) (nat_lt (private_words - p.top) words)
  where
    by : (none large : Bool)
        → (if none then in_place 0 p else if large then in_place 0 p else in_place (private_address p.top) (record p { top = p.top + words })).callers ≡ p.callers
    by true large = refl
    by false true = refl
    by false false = refl

pub last_holds : (shared_alone : Bool) (vs : List ℕ) → Holds shared_alone vs 0 → may_use shared_alone (last vs) ≡ true
last_holds shared_alone [] h = absurd (past_none 0 shared_alone h)
last_holds shared_alone (v ∷ vs) h = let at = h.at in let same : h.address ≡ v = cc in subst (λ a. may_use shared_alone a ≡ true) same h.may

pub second_holds : (shared_alone : Bool) (vs : List ℕ) → Holds shared_alone vs 1 → may_use shared_alone (last (before 1 vs)) ≡ true
second_holds shared_alone [] h = absurd (past_none 1 shared_alone h)
second_holds shared_alone (v ∷ vs) h =
    last_holds shared_alone vs (record { address = h.address; at = h.at; may = h.may })

-- a level left for the one round it
pub outer_values : (p : Processor) (levels : List Level) → values (to_outer p levels) ≡ values p
outer_values p [] = refl
outer_values p (l ∷ ls) = refl

pub outer_callers : (p : Processor) (levels : List Level) → (to_outer p levels).callers ≡ p.callers
outer_callers p [] = refl
outer_callers p (l ∷ ls) = refl

-- what a split leaves of the values of a member
pub divides : (shared_alone : Bool) (known : ℕ → Bool) (split : SplitKind) (size : ℕ) (p : Processor) (part : Option ℕ) → Knows shared_alone known (values p)
    → Knows shared_alone (after (ch.by (taken_by split) (pushed_by split (enters split part))) known) (values (divided split size p part))
divides sh known s.IfAlone size p None knows = dropped sh known 1 (values p) knows
divides sh known s.IfElse size p None knows = dropped sh known 1 (values p) knows
divides sh known s.AndThen size p None knows = one_replaced sh known 0 (values p) knows
divides sh known s.OrElse size p None knows = one_replaced sh known 1 (values p) knows
divides sh known s.Loop size p None knows = dropped sh known 0 (values p) knows
divides sh known s.Fork size p None knows = dropped sh known 3 (values p) knows
divides sh known s.IfAlone size p (Some i) knows = dropped sh known 1 (values p) knows
divides sh known s.IfElse size p (Some i) knows = dropped sh known 1 (values p) knows
divides sh known s.AndThen size p (Some i) knows = dropped sh known 1 (values p) knows
divides sh known s.OrElse size p (Some i) knows = dropped sh known 1 (values p) knows
divides sh known s.Loop size p (Some i) knows = dropped sh known 0 (values p) knows
divides sh known s.Fork size p (Some i) knows = dropped sh known 3 (values p) knows
