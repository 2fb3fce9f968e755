-- A processor whose values go with the depths of a list, and what an operation makes of it.
use Rattle.std.proofs.Common.{◌≡◌, ℕ, zero, suc, ◌+◌, ◌-◌, ◌≤◌, Bool, true, false, if◌then◌else◌, List, [], ◌∷◌, length, slice_get, Option, None, refl, sym, ap, ◌∙◌, subst, arith}
use Rattle.std.proofs.lemmas.Option.{slice_get_past}
use Rattle.fk_meaning_operation.specs.declared.operation.Operation.{Operation}
use Rattle.fk_meaning_operation.specs.declared.operation.Operation.TheVariants as o
use Rattle.fk_meaning_operation.specs.declared.operation.Multiprefix.{Multiprefix}
use Rattle.fk_meaning_operation.specs.declared.operation.Multiprefix.TheVariants.{MpAdd, MpMax, MpAnd, MpOr}
use Rattle.fk_meaning_operation.specs.declared.kinds.Class.TheVariants.{Local, Request, Tree}
use Rattle.fk_meaning_operation.specs.Kinds.{class_of}
use Rattle.fk_meaning.specs.Processor.{Call, Processor, Setting, values, last, before, drop_last, enter_level, leave_level}
use Rattle.fk_meaning.specs.Local.{local, is_onward, to_caller, unframed}
use Rattle.fk_meaning.specs.Request.{with_answer}
use Rattle.fk_meaning.specs.Group.{does, goes_onward, stays as stays_in, is_taken, part, start_level, with_size}
use Rattle.fk_layout_sizes.specs.Operations.{takes}
use Rattle.fk_core.specs.declared.op.CoreOp.{CoreOp}
use Rattle.fk_core.specs.Next.{Position, position, led_by, landing_by, behind_jump, follows, returned}
use Rattle.fk_core_typing.specs.declared.places.Within.{Within}
use Rattle.fk_core_typing.specs.declared.places.Within.TheVariants.{Main, Called}
use Rattle.fk_core_typing.specs.LocalDepths.{results, needs, leaves, Comes, GoesOn}
use Rattle.fk_core_typing.proofs.DepthValues.{Leaves, length_before, stays, pushed, dropped, replaced, replaced_two, kept_last, stored_in, joins, takes_words, frames, blocks, outer, divides}

-- a multiprefix is a request
pub no_local : (by : Multiprefix) → class_of (o.Combine by) ≡ Local → ⊥
no_local MpAdd e = absurd (cc)
no_local MpMax e = absurd (cc)
no_local MpAnd e = absurd (cc)
no_local MpOr e = absurd (cc)

pub no_step : (by : Multiprefix) → class_of (o.Combine by) ≡ Tree → ⊥
no_step MpAdd e = absurd (cc)
no_step MpMax e = absurd (cc)
no_step MpAnd e = absurd (cc)
no_step MpOr e = absurd (cc)

module _ (core : List CoreOp) (within : ℕ → Within) where
  -- the calls that wait: each goes on with its values and the result of the one that it waits for
  abbrev pub Waits : Within → (callers : List ℕ) → (calls : List Call) → Type 0
  Waits Main [] calls = Unit {0}
  Waits (Called gives) (back ∷ callers) (call ∷ calls) =
      (place : Within) × Comes core within back (length call.values + results gives) place × Waits place callers calls
  Waits place callers calls = ⊥

  -- the values of the running call, and of those that wait
  pub record Fits (left : Position) (p : Processor) : Type 0 where
    pub place : Within
    pub comes : Comes core within left.at (length (values p)) place
    pub waits : Waits place left.callers p.callers

  -- an operation that goes on in its function
  goes : {less more : ℕ} {p q : Processor} (place : Within) (callers : List ℕ) (to depth : ℕ) → Waits place callers p.callers → length (values p) ≡ depth
      → Comes core within to (depth - less + more) place → Leaves less more p q → Fits (position to callers) q
  goes {less = less} {more = more} {p = p} {q = q} place callers to depth waits e comes x =
      let n = x.count in
      let m : depth - less + more ≡ length (values q) = omega (arith, n, e) in
      record {
        place = place;
        comes = subst (λ v. Comes core within to v place) m comes;
        waits = subst (λ (calls : List Call). Waits place callers calls) (sym x.callers) waits;
      }

  -- no operation stands behind the end of the list
  nowhere : (count i : ℕ) → slice_get core i ≡ None → landing_by core count i ≡ i
  nowhere zero i e = refl
  nowhere (suc count) i e = ap (λ (op : Option CoreOp). led_by op (landing_by core count) i) e

  at_end : (values : ℕ) (place : Within) → Comes core within (length core) values place
  at_end values place op h =
      let past = slice_get_past core (length core) (omega arith) in
      let none = ap (λ (i : ℕ). slice_get core i) (nowhere (length core) (length core) past) ∙ past in
      absurd (cc)

  -- the end of the program, and that of a call
  stops : (callers : List ℕ) (p : Processor) → Waits Main callers p.callers → Fits (returned core callers) p
  stops [] p waits = record { place = Main; comes = at_end (length (values p)) Main; waits = tt }
  stops (back ∷ callers) p waits = absurd waits

  returns : (gives : Bool) (v : ℕ) (p : Processor) (callers : List ℕ) (calls : List Call) → Waits (Called gives) callers calls
      → Fits (returned core callers) (to_caller gives v p calls)
  returns gives v p [] calls waits = absurd waits
  returns gives v p (back ∷ callers) [] waits = absurd waits
  returns true v p (back ∷ callers) (call ∷ calls) waits =
      let n : length call.values + 1 ≡ suc (length call.values) = omega arith in
      record { place = waits.0; comes = subst (λ m. Comes core within back m waits.0) n waits.1; waits = waits.2 }
  returns false v p (back ∷ callers) (call ∷ calls) waits =
      let n : length call.values + 0 ≡ length call.values = omega arith in
      record { place = waits.0; comes = subst (λ m. Comes core within back m waits.0) n waits.1; waits = waits.2 }

  -- a processor at an operation
  pub record Ready (op : Operation) (index target : ℕ) (callers : List ℕ) (p : Processor) : Type 0 where
    pub place : Within
    pub depth : ℕ
    pub count : length (values p) ≡ depth
    pub enough : needs op ≤ depth
    pub on : GoesOn core within op index target depth place
    pub waits : Waits place callers p.callers

  module _ (index target : ℕ) (callers : List ℕ) (p : Processor) where
    abbrev Going : Operation → Bool → Processor → Type 0
    Going op onward q = Fits (follows core op index target callers onward) q

    pub by_local : (set : Setting) (op : Operation) → Ready op index target callers p → class_of op ≡ Local → Going op (is_onward op p) (local set op p)
    by_local set (o.Push n) r e = goes r.place callers (suc index) r.depth r.waits r.count (r.on true) (pushed _ p)
    by_local set (o.Get k) r e = goes r.place callers (suc index) r.depth r.waits r.count (r.on true) (pushed _ p)
    by_local set (o.Set variable) r e = goes r.place callers (suc index) r.depth r.waits r.count (r.on true) (stored_in _ variable p)
    by_local set o.DropLast r e = goes r.place callers (suc index) r.depth r.waits r.count (r.on true) (dropped 1 p)
    by_local set o.CopyLast r e = goes r.place callers (suc index) r.depth r.waits r.count (r.on true) (pushed _ p)
    by_local set (o.Apply sign) r e = goes r.place callers (suc index) r.depth r.waits r.count (r.on true) (replaced _ p)
    by_local set (o.Binary sign turned) r e =
        let n = r.count in let m = r.enough in goes r.place callers (suc index) r.depth r.waits r.count (r.on true) (joins _ p (omega (arith, n, m)))
    by_local set (o.Index size) r e =
        let n = r.count in let m = r.enough in goes r.place callers (suc index) r.depth r.waits r.count (r.on true) (joins _ p (omega (arith, n, m)))
    by_local set (o.Branch onward) r e = branch (is_onward (o.Branch onward) p)
      where
        branch : (way : Bool) → Going (o.Branch onward) way (local set (o.Branch onward) p)
        branch true = goes {p = p} r.place callers (suc index) r.depth r.waits r.count (r.on true) (dropped 1 p)
        branch false = goes {p = p} r.place callers target r.depth r.waits r.count (r.on false) (dropped 1 p)
    by_local set o.Take r e = goes r.place callers (suc index) r.depth r.waits r.count (r.on true) (takes_words _ p)
    by_local set (o.Leave gives framed) r e =
        returns gives (last (values p)) (unframed framed p) callers p.callers (subst (λ (place : Within). Waits place callers p.callers) r.on r.waits)
    by_local set (o.Combine by) r e = absurd (no_local by e)
    by_local set op r e = absurd (cc)

    pub by_request : (v : ℕ) (op : Operation) → Ready op index target callers p → class_of op ≡ Request → Going op true (with_answer op v p)
    by_request v (o.Check shared_alone) r e = goes r.place callers (suc index) r.depth r.waits r.count (r.on true) (stays p p refl refl)
    by_request v o.Read r e = goes r.place callers (suc index) r.depth r.waits r.count (r.on true) (replaced v p)
    by_request v o.Write r e = goes r.place callers (suc index) r.depth r.waits r.count (r.on true) (replaced_two v p)
    by_request v (o.Combine by) r e = goes r.place callers (suc index) r.depth r.waits r.count (r.on true) (replaced_two v p)
    by_request v o.PrintNumber r e = goes r.place callers (suc index) r.depth r.waits r.count (r.on true) (dropped 1 p)
    by_request v o.PrintByte r e = goes r.place callers (suc index) r.depth r.waits r.count (r.on true) (dropped 1 p)
    by_request v o.Heap r e = goes r.place callers (suc index) r.depth r.waits r.count (r.on true) (replaced v p)
    by_request v (o.Enter n) r e =
        let l = length_before n (values p) in
        let c = r.count in
        let gives = r.on.0 in
        let m : r.depth - n + results gives ≡ length (before n (values p)) + results gives = omega (arith, l, c) in
        let next : index + 1 ≡ suc index = omega arith in
        let back = subst (λ i. Comes core within (behind_jump core i) (r.depth - n + results gives) r.place) next r.on.1.1 in
        record {
          place = Called gives;
          comes = subst (λ i. Comes core within i 0 (Called gives)) next r.on.1.0;
          waits = (r.place, subst (λ k. Comes core within (behind_jump core (suc index)) k r.place) m back, r.waits);
        }
    by_request v op r e = absurd (cc)

    pub by_tree : (highest lowest size : ℕ) (op : Operation) → Ready op index target callers p → class_of op ≡ Tree
        → Going op (goes_onward op highest lowest p) (does op highest size p)
    by_tree highest lowest size o.Begin r e = begin (is_taken highest p)
      where
        begin : (way : Bool) → Going o.Begin way (if way then enter_level (start_level p size) (drop_last 1 p) else drop_last 1 p)
        begin true = goes {p = p} r.place callers (suc index) r.depth r.waits r.count (r.on true) (let x = dropped 1 p in record { count = x.count; callers = x.callers })
        begin false = goes {p = p} r.place callers target r.depth r.waits r.count (r.on false) (dropped 1 p)
    by_tree highest lowest size o.Agree r e =
        let n = r.count in let m = r.enough in goes r.place callers (suc index) r.depth r.waits r.count (r.on true) (kept_last highest p (omega (arith, n, m)))
    by_tree highest lowest size (o.Frame nesting words) r e = goes r.place callers (suc index) r.depth r.waits r.count (r.on true) (frames nesting p _)
    by_tree highest lowest size o.Block r e = goes r.place callers (suc index) r.depth r.waits r.count (r.on true) (blocks _ p)
    by_tree highest lowest size (o.Split by) r e =
        divided_to (goes_onward (o.Split by) highest lowest p) (divides by size p (part by (values p)))
      where
        divided_to : (way : Bool) → Leaves (takes (o.Split by)) (leaves (o.Split by) way) p (does (o.Split by) highest size p)
            → Going (o.Split by) way (does (o.Split by) highest size p)
        divided_to true x = goes {p = p} r.place callers (suc index) r.depth r.waits r.count (r.on true) x
        divided_to false x = goes {p = p} r.place callers target r.depth r.waits r.count (r.on false) x
    by_tree highest lowest size o.Shrink r e = shrink (stays_in p)
      where
        shrink : (way : Bool) → Going o.Shrink way (if way then with_size size (drop_last 1 p) else leave_level (drop_last 1 p))
        shrink true = goes {p = p} r.place callers (suc index) r.depth r.waits r.count (r.on true) (let x = dropped 1 p in record { count = x.count; callers = x.callers })
        shrink false = goes {p = p} r.place callers target r.depth r.waits r.count (r.on false) (outer _ _ (dropped 1 p))
    by_tree highest lowest size o.End r e = goes r.place callers target r.depth r.waits r.count (r.on true) (outer p _ (stays p p refl refl))
    by_tree highest lowest size o.Resume r e = goes r.place callers (suc index) r.depth r.waits r.count (r.on true) (stays p p refl refl)
    by_tree highest lowest size o.Farm r e = goes r.place callers (suc index) r.depth r.waits r.count (r.on true) (stays p p refl refl)
    by_tree highest lowest size o.Seq r e = body (goes_onward o.Seq highest lowest p)
      where
        body : (way : Bool) → Going o.Seq way p
        body true = goes {p = p} r.place callers (suc index) r.depth r.waits r.count (r.on true) (stays p p refl refl)
        body false = goes {p = p} r.place callers target r.depth r.waits r.count (r.on false) (stays p p refl refl)
    by_tree highest lowest size (o.Meet closing) r e = goes r.place callers (suc index) r.depth r.waits r.count (r.on true) (stays p p refl refl)
    by_tree highest lowest size o.Halt r e = stops callers p (subst (λ (place : Within). Waits place callers p.callers) r.on r.waits)
    by_tree highest lowest size (o.Combine by) r e = absurd (no_step by e)
    by_tree highest lowest size op r e = absurd (cc)
