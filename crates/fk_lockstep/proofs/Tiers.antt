-- What a processor has of its own group's space and of its calls' frames, and what operations make of it.
use Rattle.std.proofs.Common.{◌≡◌, ℕ, zero, suc, ◌+◌, ◌-◌, ◌≤◌, ◌==◌, nat_lt, Bool, true, false, true≢false, List, [], ◌∷◌, length, map, Option, Some, None, refl, ap, arith, if◌then◌else◌}
use Rattle.std.proofs.lemmas.Bool.{ne_eqb}
use Rattle.fk_space.specs.Space.{Space, frame, block}
use Rattle.fk_meaning_store.specs.Store.{private_words, private_address}
use Rattle.fk_meaning_store.specs.Serve.{words_of}
use Rattle.fk_meaning_operation.specs.declared.operation.Operation.{Operation}
use Rattle.fk_meaning_operation.specs.declared.operation.Operation.TheVariants as o
use Rattle.fk_meaning_operation.specs.declared.operation.Variable.{Variable}
use Rattle.fk_meaning_operation.specs.declared.operation.Variable.TheVariants as v
use Rattle.fk_meaning.specs.Processor.{Level, Call, Processor, Setting, values, last, in_place}
use Rattle.fk_meaning.specs.Local.{local, taken, stored, unframed, to_caller}
use Rattle.fk_meaning.specs.Request.{with_answer}
use Rattle.fk_meaning.specs.Group.{does, with_block, allotted, framed}
use Rattle.fk_lockstep.specs.Untouched.{changes_tree}
use Rattle.fk_lockstep.specs.Frames.{Remains, calling, takes_space}

-- a group's space, and the frames of a processor's calls, the running one first
pub record Tier : Type 0 where
  pub space : Space
  pub frames : List ℕ

abbrev pub frames_in : List Call → List ℕ
frames_in cs = map (λ c. c.frames 0) cs

abbrev pub own_of : Processor → Tier
own_of p = record { space = p.level.space; frames = p.call.frames 0 ∷ frames_in p.callers }

abbrev pub spaces_in : List Level → List Space
spaces_in ls = map (λ l. l.space) ls

abbrev pub top_of : List ℕ → ℕ
top_of [] = 0
top_of (f ∷ fs) = f

abbrev pub rest_of : List ℕ → List ℕ
rest_of [] = []
rest_of (f ∷ fs) = fs

-- both as they were
pub record Kept (p p' : Processor) : Type 0 where
  pub own : own_of p' ≡ own_of p
  pub outer : p'.outer ≡ p.outer

takes : (words : ℕ) (p : Processor) → Kept p (taken words p)
takes words p = by (words == 0) (nat_lt (private_words - p.top) words)
  where
    by : (none full : Bool) → Kept p (
        if none then in_place 0 p
        else if full then in_place 0 p
        else in_place (private_address p.top) (record p { top = p.top + words }))
    by true full = record { own = refl; outer = refl }
    by false true = record { own = refl; outer = refl }
    by false false = record { own = refl; outer = refl }

stores : (w : ℕ) (variable : Variable) (p : Processor) → Kept p (stored w variable p)
stores w (v.Private i) p = record { own = refl; outer = refl }
stores w (v.OfFile i) p = record { own = refl; outer = refl }

pub local_keeps : (set : Setting) (op : Operation) (p : Processor) → calling op ≡ Remains → Kept p (local set op p)
local_keeps set (o.Set variable) p e = stores (last (values p)) variable p
local_keeps set o.Take p e = takes (words_of (last (values p))) p
local_keeps set (o.Leave gives framed) p e = absurd (cc)
local_keeps set op p e = record { own = refl; outer = refl }

pub answer_keeps : (op : Operation) (a : ℕ) (p : Processor) → calling op ≡ Remains → Kept p (with_answer op a p)
answer_keeps (o.Enter arguments) a p e = absurd (cc)
answer_keeps o.Read a p e = record { own = refl; outer = refl }
answer_keeps op a p e = record { own = refl; outer = refl }

pub plain_keeps : (op : Operation) (highest size : ℕ) (p : Processor) → changes_tree op ≡ false → takes_space op ≡ false → Kept p (does op highest size p)
plain_keeps o.Begin highest size p e f = absurd (true≢false e)
plain_keeps (o.Split by) highest size p e f = absurd (true≢false e)
plain_keeps o.Shrink highest size p e f = absurd (true≢false e)
plain_keeps o.End highest size p e f = absurd (true≢false e)
plain_keeps (o.Frame nesting words) highest size p e f = absurd (true≢false f)
plain_keeps o.Block highest size p e f = absurd (true≢false f)
plain_keeps op highest size p e f = record { own = refl; outer = refl }

-- a call begins, and ends
pub enter_makes : (arguments a : ℕ) (p : Processor) → own_of (with_answer (o.Enter arguments) a p) ≡ record { space = p.level.space; frames = 0 ∷ (own_of p).frames }
enter_makes arguments a p = refl

pub enter_outer : (arguments a : ℕ) (p : Processor) → (with_answer (o.Enter arguments) a p).outer ≡ p.outer
enter_outer arguments a p = refl

abbrev pub left_space : (framed : Bool) → Tier → Space
left_space true t = record (t.space) { frames = top_of t.frames }
left_space false t = t.space

pub leave_makes : (set : Setting) (gives framed : Bool) (p : Processor) → 2 ≤ length (own_of p).frames
    → own_of (local set (o.Leave gives framed) p) ≡ record { space = left_space framed (own_of p); frames = rest_of (own_of p).frames }
leave_makes set gives framed p le = by p.callers refl framed gives le
  where
    by : (cs : List Call) → p.callers ≡ cs → (framed' gives' : Bool) → 2 ≤ suc (length (frames_in cs))
        → own_of (to_caller gives' (last (values p)) (unframed framed' p) cs) ≡ record { space = left_space framed' (own_of p); frames = frames_in cs }
    by [] e framed' gives' le' = absurd (omega arith)
    by (c ∷ cs) e true true le' = refl
    by (c ∷ cs) e true false le' = refl
    by (c ∷ cs) e false true le' = refl
    by (c ∷ cs) e false false le' = refl

pub leave_outer : (set : Setting) (gives framed : Bool) (p : Processor) → (local set (o.Leave gives framed) p).outer ≡ p.outer
leave_outer set gives framed p = by p.callers framed gives
  where
    by : (cs : List Call) → (framed' gives' : Bool) → (to_caller gives' (last (values p)) (unframed framed' p) cs).outer ≡ p.outer
    by [] true gives' = refl
    by [] false gives' = refl
    by (c ∷ cs) true gives' = refl
    by (c ∷ cs) false gives' = refl

-- what is taken of the space, by those whose last value it is
abbrev pub with_frame : (nesting : ℕ) → Tier → Option Space → Tier
with_frame nesting t None = t
with_frame zero t (Some s) = record { space = s; frames = t.space.frames ∷ rest_of t.frames }
with_frame (suc nesting) t (Some s) = record { space = s; frames = t.frames }

abbrev pub with_allotted : Tier → Option (ℕ × Space) → Tier
with_allotted t None = t
with_allotted t (Some b) = record { space = b.1; frames = t.frames }

abbrev pub with_words : (words : ℕ) → Tier → Tier
with_words words t = if words == 0 then t else with_allotted t (block t.space words)

abbrev pub plain_own : Operation → (value : ℕ) → Tier → Tier
plain_own (o.Frame nesting words) value t = with_frame nesting t (frame t.space words)
plain_own o.Block value t = with_words (words_of value) t
plain_own op value t = t

-- a processor that has a tier then
pub record Makes (t : Tier) (p p' : Processor) : Type 0 where
  pub own : own_of p' ≡ t
  pub outer : p'.outer ≡ p.outer

frame_makes : (nesting : ℕ) (p : Processor) (o' : Option Space) → Makes (with_frame nesting (own_of p) o') p (framed nesting p o')
frame_makes nesting p None = record { own = refl; outer = refl }
frame_makes zero p (Some s) = record { own = refl; outer = refl }
frame_makes (suc nesting) p (Some s) = record {
  own = ap (λ (first : Bool). let t : Tier = record { space = s; frames = (if first then p.level.space.frames else p.call.frames 0) ∷ frames_in p.callers } in t)
      (ne_eqb 0 (suc nesting) (λ e. omega (arith, e)));
  outer = refl;
}

allots : (p : Processor) (o' : Option (ℕ × Space)) → Makes (with_allotted (own_of p) o') p (allotted p o')
allots p None = record { own = refl; outer = refl }
allots p (Some b) = record { own = refl; outer = refl }

block_makes : (words : ℕ) (p : Processor) → Makes (with_words words (own_of p)) p (with_block words p)
block_makes words p = by (words == 0)
  where
    by : (none : Bool) → Makes (if none then own_of p else with_allotted (own_of p) (block p.level.space words)) p
        (if none then in_place 0 p else allotted p (block p.level.space words))
    by true = record { own = refl; outer = refl }
    by false = allots p (block p.level.space words)

pub plain_makes : (op : Operation) (highest size : ℕ) (p : Processor) → changes_tree op ≡ false → Makes (plain_own op (last (values p)) (own_of p)) p (does op highest size p)
plain_makes o.Begin highest size p e = absurd (true≢false e)
plain_makes (o.Split by) highest size p e = absurd (true≢false e)
plain_makes o.Shrink highest size p e = absurd (true≢false e)
plain_makes o.End highest size p e = absurd (true≢false e)
plain_makes (o.Frame nesting words) highest size p e = frame_makes nesting p (frame p.level.space words)
plain_makes o.Block highest size p e = block_makes (words_of (last (values p))) p
plain_makes op highest size p e = record { own = refl; outer = refl }

pub plain_same : (op : Operation) (value : ℕ) (t : Tier) → takes_space op ≡ false → plain_own op value t ≡ t
plain_same (o.Frame nesting words) value t e = absurd (true≢false e)
plain_same o.Block value t e = absurd (true≢false e)
plain_same op value t e = refl
