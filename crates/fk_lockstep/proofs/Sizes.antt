-- The numbers and the sizes of groups: each processor has those of its node and of all nodes round it.
use Rattle.std.proofs.Common.{◌≡◌, ℕ, ◌+◌, ◌-◌, ◌==◌, nat_lt, Bool, true, false, true≢false, List, [], ◌∷◌, map, Option, Some, None, refl, ◌∙◌, if◌then◌else◌}
use Rattle.fk_space.specs.Space.{Space, frame, block}
use Rattle.fk_meaning_store.specs.Store.{private_words, private_address}
use Rattle.fk_meaning_store.specs.Serve.{words_of}
use Rattle.fk_meaning_operation.specs.declared.operation.Operation.{Operation}
use Rattle.fk_meaning_operation.specs.declared.operation.Operation.TheVariants as o
use Rattle.fk_meaning_operation.specs.declared.operation.Variable.{Variable}
use Rattle.fk_meaning_operation.specs.declared.operation.Variable.TheVariants as v
use Rattle.fk_meaning.specs.Processor.{Level, Call, Processor, Setting, values, last, in_place, to_outer, leave_level}
use Rattle.fk_meaning.specs.Local.{local, taken, stored, unframed, to_caller}
use Rattle.fk_meaning.specs.Request.{with_answer}
use Rattle.fk_meaning.specs.Group.{does, with_block, allotted, framed}
use Rattle.fk_lockstep.specs.Untouched.{changes_tree}
use Rattle.fk_lockstep.specs.OneProgram.{groups_of}

-- a local operation, a request and a step that doesn't change the tree leave them as they are
takes_groups : (words : ℕ) (p : Processor) → groups_of (taken words p) ≡ groups_of p
takes_groups words p = by (words == 0) (nat_lt (private_words - p.top) words)
  where
    by : (none full : Bool) → groups_of (
        if none then in_place 0 p
        else if full then in_place 0 p
        else in_place (private_address p.top) (record p { top = p.top + words })) ≡ groups_of p
    by true full = refl
    by false true = refl
    by false false = refl

stores_groups : (w : ℕ) (variable : Variable) (p : Processor) → groups_of (stored w variable p) ≡ groups_of p
stores_groups w (v.Private i) p = refl
stores_groups w (v.OfFile i) p = refl

unframed_groups : (framed : Bool) (p : Processor) → groups_of (unframed framed p) ≡ groups_of p
unframed_groups true p = refl
unframed_groups false p = refl

caller_groups : (gives : Bool) (w : ℕ) (p : Processor) (cs : List Call) → groups_of (to_caller gives w p cs) ≡ groups_of p
caller_groups gives w p [] = refl
caller_groups gives w p (c ∷ cs) = refl

pub local_groups : (set : Setting) (op : Operation) (p : Processor) → groups_of (local set op p) ≡ groups_of p
local_groups set (o.Set variable) p = stores_groups (last (values p)) variable p
local_groups set o.Take p = takes_groups (words_of (last (values p))) p
local_groups set (o.Leave gives framed) p = caller_groups gives (last (values p)) (unframed framed p) p.callers ∙ unframed_groups framed p
local_groups set op p = refl

pub answer_groups : (op : Operation) (a : ℕ) (p : Processor) → groups_of (with_answer op a p) ≡ groups_of p
answer_groups o.Read a p = refl
answer_groups op a p = refl

framed_groups : (nesting : ℕ) (p : Processor) (o' : Option Space) → groups_of (framed nesting p o') ≡ groups_of p
framed_groups nesting p None = refl
framed_groups nesting p (Some sp) = refl

allotted_groups : (p : Processor) (o' : Option (ℕ × Space)) → groups_of (allotted p o') ≡ groups_of p
allotted_groups p None = refl
allotted_groups p (Some sp) = refl

block_groups : (words : ℕ) (p : Processor) → groups_of (with_block words p) ≡ groups_of p
block_groups words p = by (words == 0)
  where
    by : (none : Bool) → groups_of (if none then in_place 0 p else allotted p (block p.level.space words)) ≡ groups_of p
    by true = refl
    by false = allotted_groups p (block p.level.space words)

pub plain_groups : (op : Operation) (highest size : ℕ) (p : Processor) → changes_tree op ≡ false → groups_of (does op highest size p) ≡ groups_of p
plain_groups o.Begin highest size p e = absurd (true≢false e)
plain_groups (o.Split by) highest size p e = absurd (true≢false e)
plain_groups o.Shrink highest size p e = absurd (true≢false e)
plain_groups o.End highest size p e = absurd (true≢false e)
plain_groups (o.Frame nesting words) highest size p e = framed_groups nesting p (frame p.level.space words)
plain_groups o.Block highest size p e = block_groups (words_of (last (values p))) p
plain_groups op highest size p e = refl

-- the groups round the innermost one
abbrev pub round_it : List (ℕ × ℕ) → List (ℕ × ℕ)
round_it [] = []
round_it (g ∷ gs) = gs

-- who leaves
pub left_groups : (p : Processor) (g : ℕ × ℕ) (gs : List (ℕ × ℕ)) → groups_of p ≡ (p.level.number, p.level.size) ∷ g ∷ gs → groups_of (leave_level p) ≡ g ∷ gs
left_groups p g gs e = by p.outer refl e
  where
    by : (ls : List Level) → p.outer ≡ ls → (p.level.number, p.level.size) ∷ map (λ (l : Level). (l.number, l.size)) ls ≡ (p.level.number, p.level.size) ∷ g ∷ gs
        → groups_of (to_outer p ls) ≡ g ∷ gs
    by [] is e' = absurd (cc)
    by (l ∷ ls) is e' = cc
