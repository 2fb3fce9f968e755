-- A program has one table of facts at most.
use Rattle.std.proofs.Common.{◌≡◌, ℕ, Bool, true, false, List, length, get_or, Option, Some, slice_get, refl, sym, ap, subst, ◌∙◌, arith}
use Rattle.std.specs.Prelude.{◌↔◌, IsTrue}
use Rattle.std.proofs.lemmas.Bool.{false≢true}
use Rattle.std.proofs.lemmas.Option.{same_Some, slice_get_within, slice_get-get_or}
use Rattle.std.specs.declared.alloc.Global.{Global}
use Rattle.std.specs.declared.vec.Vec.{Vec}
use Rattle.fk_syntax.specs.declared.facts.Kind.{Kind}
use Rattle.fk_syntax.specs.declared.facts.Note.{Note}
use Rattle.fk_syntax.specs.declared.facts.Facts.{Facts}
use Rattle.fk_syntax.specs.Program.{ProgramTree}
use Rattle.fk_types.proofs.OneNumbering.{same_lists}
use Rattle.fk_types.proofs.OneFacts as types
use Rattle.fk_regions.specs.Broken.{SaysRegion, AreRegions}
use Rattle.fk_sharing.specs.Broken.{SaysSharing, AreShared}
use Rattle.fk_check.specs.Known.{AreAllFacts}
use Rattle.fk_check.specs.Laws.{AreSame, HasOneFacts}

-- tests of the same
same_test : (P : Type 0) (a b : Bool) → (IsTrue a ↔ P) → (IsTrue b ↔ P) → a ≡ b
same_test P true true h k = refl
same_test P true false h k = absurd (false≢true (k.1 (h.0 refl)))
same_test P false true h k = absurd (false≢true (h.1 (k.0 refl)))
same_test P false false h k = refl

-- notes that are made of notes by a rule which gives one of each
module _ (Says : ℕ → Note → Option Note → Type 0) (once : (at : ℕ) (old a b : Note) → Says at old (Some a) → Says at old (Some b) → a ≡ b)
    (old one two : List Note) (size : length one ≡ length old) (again : length two ≡ length old)
    (first : (at : ℕ) (note : Note) → slice_get old at ≡ Some note → Says at note (slice_get one at)) (second : (at : ℕ) (note : Note) → slice_get old at ≡ Some note → Says at note (slice_get two at)) where
  same_notes : one ≡ two
  same_notes = same_lists one two each (omega (arith, size, again))
    where
      each : (i : ℕ) (a : Note) → slice_get one i ≡ Some a → slice_get two i ≡ Some a
      each i a e =
          let inside = slice_get_within one i a e in
          let before = slice_get-get_or old i a (omega (arith, inside, size)) in
          let here = slice_get-get_or two i a (omega (arith, inside, size, again)) in
          let note = get_or old i a in
          let x : Says i note (Some a) = subst (λ (o : Option Note). Says i note o) e (first i note before) in
          let y : Says i note (Some (get_or two i a)) = subst (λ (o : Option Note). Says i note o) here (second i note before) in
          here ∙ ap Some (sym (once i note a (get_or two i a) x y))

module _ (program : ProgramTree) where
  one_region : (at : ℕ) (old a b : Note) → SaysRegion program at old (Some a) → SaysRegion program at old (Some b) → a ≡ b
  one_region at old a b h k =
      same_Some a (record old { sync = h.0 }) h.1
      ∙ ap (λ sync. record old { sync = sync }) (same_test _ h.0 k.0 h.2 k.2)
      ∙ sym (same_Some b (record old { sync = k.0 }) k.1)

  one_sharing : (at : ℕ) (old a b : Note) → SaysSharing program at old (Some a) → SaysSharing program at old (Some b) → a ≡ b
  one_sharing at old a b h k =
      same_Some a (record old { shared = h.0; splits = h.1 }) h.2
      ∙ ap (λ shared. record old { shared = shared; splits = h.1 }) (same_test _ h.0 k.0 h.3 k.3)
      ∙ ap (λ splits. record old { shared = k.0; splits = splits }) (same_test _ h.1 k.1 h.4 k.4)
      ∙ sym (same_Some b (record old { shared = k.0; splits = k.1 }) k.2)

  placed_alike : (one two a b : Facts) → one.notes.items ≡ two.notes.items → AreRegions program one a → AreRegions program two b → a.notes.items ≡ b.notes.items
  placed_alike one two a b same h k =
      same_notes (SaysRegion program) one_region one.notes.items a.notes.items b.notes.items h.length
      (k.length ∙ sym (ap (λ (ns : List Note). length ns) same)) h.notes
      (subst (λ (ns : List Note). (at : ℕ) (note : Note) → slice_get ns at ≡ Some note → SaysRegion program at note (slice_get b.notes.items at)) (sym same) k.notes)

  shared_alike : (one two a b : Facts) → one.notes.items ≡ two.notes.items → AreShared program one a → AreShared program two b → a.notes.items ≡ b.notes.items
  shared_alike one two a b same h k =
      same_notes (SaysSharing program) one_sharing one.notes.items a.notes.items b.notes.items h.length
      (k.length ∙ sym (ap (λ (ns : List Note). length ns) same)) h.notes
      (subst (λ (ns : List Note). (at : ℕ) (note : Note) → slice_get ns at ≡ Some note → SaysSharing program at note (slice_get b.notes.items at)) (sym same) k.notes)

pub one_facts : HasOneFacts
one_facts program one other a b =
    let typed = types.one_facts program a.typed b.typed a.types b.types in
    let placed = placed_alike program a.typed b.typed a.placed b.placed typed.0 a.regions b.regions in
    let mine = a.sharing.kinds ∙ a.regions.kinds in
    let its = b.sharing.kinds ∙ b.regions.kinds in
    record {
      notes = shared_alike program a.placed b.placed one other placed a.sharing b.sharing;
      kinds = ap (λ (ks : Vec Kind Global). ks.items) mine ∙ typed.1 ∙ sym (ap (λ (ks : Vec Kind Global). ks.items) its);
    }
