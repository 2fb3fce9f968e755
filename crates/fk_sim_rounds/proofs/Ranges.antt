-- In every run values and variables are words.
use Rattle.std.proofs.Common.{ℕ, zero, suc, ◌+◌, ◌-◌, ◌*◌, ◌^◌, ◌<◌, ◌≤◌, List, [], ◌∷◌, length, Bool, true, false, arith, ◌⊎◌, inl, inr}
use Rattle.std.specs.Prelude.{◌==◌, if◌then◌else◌, nat_lt}
use Rattle.std.proofs.lemmas.Bool.{cases_lt, lt-ltb, le-ltb}
use Rattle.fk_num.specs.Word.{Memory, put, word}
use Rattle.fk_num.specs.Op.{applied}
use Rattle.fk_num.specs.declared.operator.Op.TheVariants.{Sub, Xor, Eq}
use Rattle.fk_meaning_operation.specs.declared.operation.OwnValue.{OwnValue}
use Rattle.fk_meaning_operation.specs.declared.operation.OwnValue.TheVariants as k
use Rattle.fk_meaning_operation.specs.declared.operation.Unary.{Unary}
use Rattle.fk_meaning_operation.specs.declared.operation.Unary.TheVariants.{Negate, Complement, Not}
use Rattle.fk_meaning_operation.specs.declared.operation.Operation.{Operation}
use Rattle.fk_meaning_operation.specs.declared.operation.Operation.TheVariants as o
use Rattle.fk_meaning_operation.specs.declared.operation.Variable.{Variable}
use Rattle.fk_meaning_operation.specs.declared.operation.Variable.TheVariants.{Private, OfFile}
use Rattle.fk_meaning_store.specs.Store.{address_of, private_address, private_words, shared_words}
use Rattle.fk_meaning_store.specs.Serve.{words_of}
use Rattle.fk_meaning.specs.Processor.{Level, Call, Processor, Setting, values, last, before, with_values, push, drop_last, in_place}
use Rattle.fk_meaning.specs.Local.{value_of, known, stored, applied_to, joined, in_order, taken, handed, unframed, to_caller, local}
use Rattle.fk_sim_rounds.proofs.Words.{if_either, IsWord, word_is, applied-is}

-- ---- processors

abbrev pub AreWords : List ℕ → Type 0
AreWords [] = Unit {0}
AreWords (v ∷ vs) = IsWord v × AreWords vs

pub record IsCall (c : Call) : Type 0 where
  pub values : AreWords c.values
  pub privates : (i : ℕ) → IsWord (c.privates i)

abbrev pub AreCalls : List Call → Type 0
AreCalls [] = Unit {0}
AreCalls (c ∷ calls) = IsCall c × AreCalls calls

-- what a processor has of a group, whose blocks lie in shared data
pub record IsLevel (l : Level) : Type 0 where
  pub number : IsWord l.number
  pub rank : IsWord l.rank
  pub size : IsWord l.size
  pub blocks : l.space.blocks ≤ shared_words

abbrev pub AreLevels : List Level → Type 0
AreLevels [] = Unit {0}
AreLevels (l ∷ levels) = IsLevel l × AreLevels levels

pub record IsSound (p : Processor) : Type 0 where
  pub number : IsWord p.number
  pub level : IsLevel p.level
  pub outer : AreLevels p.outer
  pub call : IsCall p.call
  pub callers : AreCalls p.callers
  pub own : (i : ℕ) → IsWord (p.own i)
  pub top : p.top ≤ private_words
  pub waiting : length p.callers < 256

pub record IsSmall (set : Setting) : Type 0 where
  pub processors : IsWord set.processors
  pub inputs : IsWord set.inputs
  pub globals : IsWord (address_of set.globals)

pub last-is : (vs : List ℕ) → AreWords vs → IsWord (last vs)
last-is [] all = omega arith
last-is (v ∷ vs) all = all.0

pub before-are : (n : ℕ) (vs : List ℕ) → AreWords vs → AreWords (before n vs)
before-are zero vs all = all
before-are (suc n) [] all = tt
before-are (suc n) (v ∷ vs) all = before-are n vs all.1

pub put-is : (m : Memory) (i v : ℕ) → ((j : ℕ) → IsWord (m j)) → IsWord v → (j : ℕ) → IsWord (put m i v j)
put-is m i v all w j = if_either {A = ℕ} IsWord (j == i) v (m j) w (all j)

pub with_values-sound : (p : Processor) (vs : List ℕ) → IsSound p → AreWords vs → IsSound (with_values p vs)
with_values-sound p vs s all = record {
  number = s.number;
  level = s.level;
  outer = s.outer;
  call = record { values = all; privates = s.call.privates };
  callers = s.callers;
  own = s.own;
  top = s.top;
  waiting = s.waiting;
}

pub in_place-sound : (v : ℕ) (p : Processor) → IsSound p → IsWord v → IsSound (in_place v p)
in_place-sound v p s w = with_values-sound p (v ∷ before 1 (values p)) s (w, before-are 1 (values p) s.call.values)

push-sound : (v : ℕ) (p : Processor) → IsSound p → IsWord v → IsSound (push v p)
push-sound v p s w = with_values-sound p (v ∷ values p) s (w, s.call.values)

pub drop-sound : (n : ℕ) (p : Processor) → IsSound p → IsSound (drop_last n p)
drop-sound n p s = with_values-sound p (before n (values p)) s (before-are n (values p) s.call.values)

value-is : (p : Processor) (variable : Variable) → IsSound p → IsWord (value_of p variable)
value-is p (Private i) s = s.call.privates i
value-is p (OfFile i) s = s.own i

known-is : (set : Setting) (p : Processor) (known' : OwnValue) → IsSmall set → IsSound p → IsWord (known set p known')
known-is set p (k.Value variable) small s = value-is p variable s
known-is set p k.Rank small s = s.level.rank
known-is set p k.GroupNumber small s = s.level.number
known-is set p k.ProcessorNumber small s = s.number
known-is set p k.Processors small s = small.processors
known-is set p k.GroupSize small s = s.level.size
known-is set p k.InputLength small s = small.inputs
known-is set p (k.FrameAddress nesting i) small s = word_is (address_of (p.call.frames nesting + i))
known-is set p k.InputAddress small s = small.globals

stored-sound : (v : ℕ) (variable : Variable) (p : Processor) → IsSound p → IsWord v → IsSound (stored v variable p)
stored-sound v (Private i) p s w = record {
  number = s.number;
  level = s.level;
  outer = s.outer;
  call = record { values = s.call.values; privates = put-is p.call.privates i v s.call.privates w };
  callers = s.callers;
  own = s.own;
  top = s.top;
  waiting = s.waiting;
}
stored-sound v (OfFile i) p s w = record {
  number = s.number;
  level = s.level;
  outer = s.outer;
  call = s.call;
  callers = s.callers;
  own = put-is p.own i v s.own w;
  top = s.top;
  waiting = s.waiting;
}

sign-is : (sign : Unary) (v : ℕ) → IsWord v → IsWord (applied_to sign v)
sign-is Negate v w = applied-is Sub 0 v (omega arith) w
sign-is Complement v w = applied-is Xor v (2 ^ 32 - 1) w (omega arith)
sign-is Not v w = applied-is Eq v 0 w (omega arith)

joined-are : (g : ℕ → ℕ → ℕ) (vs : List ℕ) → ((a b : ℕ) → IsWord a → IsWord b → IsWord (g a b)) → AreWords vs → AreWords (joined g vs)
joined-are g [] is all = all
joined-are g (a ∷ []) is all = all
joined-are g (b ∷ a ∷ vs) is all = (is a b all.1.0 all.0, all.1.1)

taken-by : (words : ℕ) (p : Processor) → IsSound p → ((private_words - p.top < words) ⊎ (words ≤ private_words - p.top))
    → IsSound (if nat_lt (private_words - p.top) words then in_place 0 p else in_place (private_address p.top) (record p { top = p.top + words }))
taken-by words p s (inl lt) = rw (lt-ltb (private_words - p.top) words lt) (in_place-sound 0 p s (omega arith))
taken-by words p s (inr le) =
    let top = s.top in
    rw (le-ltb (private_words - p.top) words le)
    (in_place-sound (private_address p.top) (record p { top = p.top + words })
    (record {
      number = s.number;
      level = s.level;
      outer = s.outer;
      call = s.call;
      callers = s.callers;
      own = s.own;
      top = omega arith;
      waiting = s.waiting;
    })
    (omega arith))

taken-sound : (words : ℕ) (p : Processor) → IsSound p → IsSound (taken words p)
taken-sound words p s =
    if_either {A = Processor} IsSound (words == 0) _ _ (in_place-sound 0 p s (omega arith)) (taken-by words p s (cases_lt (private_words - p.top) words))

handed-is : (gives : Bool) (v : ℕ) (c : Call) → IsCall c → IsWord v → IsCall (handed gives v c)
handed-is true v c is w = record { values = (w, is.values); privates = is.privates }
handed-is false v c is w = is

unframed-sound : (framed : Bool) (p : Processor) → IsSound p → IsSound (unframed framed p)
unframed-sound true p s = record {
  number = s.number;
  level = record { number = s.level.number; rank = s.level.rank; size = s.level.size; blocks = s.level.blocks };
  outer = s.outer;
  call = s.call;
  callers = s.callers;
  own = s.own;
  top = s.top;
  waiting = s.waiting;
}
unframed-sound false p s = s

returned-sound : (gives : Bool) (v : ℕ) (p : Processor) (calls : List Call) → IsSound p → AreCalls calls → length calls < 256 → IsWord v → IsSound (to_caller gives v p calls)
returned-sound gives v p [] s all lt w = s
returned-sound gives v p (c ∷ calls) s all lt w = record {
  number = s.number;
  level = s.level;
  outer = s.outer;
  call = handed-is gives v c all.0 w;
  callers = all.1;
  own = s.own;
  top = s.top;
  waiting = omega arith;
}

order-is : (turned : Bool) (g : ℕ → ℕ → ℕ) → ((a b : ℕ) → IsWord a → IsWord b → IsWord (g a b)) → (a b : ℕ) → IsWord a → IsWord b → IsWord (in_order turned g a b)
order-is false g is a b p q = is a b p q
order-is true g is a b p q = is b a q p

pub local-sound : (set : Setting) (operation : Operation) (p : Processor) → IsSmall set → IsSound p → IsSound (local set operation p)
local-sound set (o.Push n) p small s = push-sound (word n) p s (word_is n)
local-sound set (o.Get known') p small s = push-sound (known set p known') p s (known-is set p known' small s)
local-sound set (o.Set variable) p small s = stored-sound (last (values p)) variable p s (last-is (values p) s.call.values)
local-sound set o.DropLast p small s = drop-sound 1 p s
local-sound set o.CopyLast p small s = push-sound (last (values p)) p s (last-is (values p) s.call.values)
local-sound set (o.Apply sign) p small s = in_place-sound (applied_to sign (last (values p))) p s (sign-is sign (last (values p)) (last-is (values p) s.call.values))
local-sound set (o.Binary op turned) p small s =
    with_values-sound p (joined (in_order turned (applied op)) (values p)) s (joined-are (in_order turned (applied op)) (values p) (order-is turned (applied op) (λ a b u v. applied-is op a b u v)) s.call.values)
local-sound set (o.Index size) p small s =
    with_values-sound p (joined (λ address i. word (address + i * size)) (values p)) s (joined-are (λ address i. word (address + i * size)) (values p) (λ a b u v. word_is (a + b * size)) s.call.values)
local-sound set (o.Branch onward) p small s = drop-sound 1 p s
local-sound set o.Take p small s = taken-sound (words_of (last (values p))) p s
local-sound set (o.Leave gives framed) p small s =
    returned-sound gives (last (values p)) (unframed framed p) p.callers (unframed-sound framed p s) s.callers s.waiting (last-is (values p) s.call.values)
local-sound set operation p small s = s
