-- The notes that two tables make.
use Rattle.std.proofs.Common.{◌≡◌, ℕ, zero, suc, ◌+◌, ◌<◌, false, List, [], ◌∷◌, ◌++◌, length, take, get_or, Some, slice_get, refl, sym, ap, ◌∙◌, arith}
use Rattle.std.proofs.lemmas.Option.{none-some, same_Some}
use Rattle.fk_syntax.specs.declared.facts.Note.{Note}
use Rattle.fk_types.specs.Notes.{note_of, notes_of}

pub length-notes_of : (kinds bindings : List ℕ) → length bindings ≡ length kinds → length (notes_of kinds bindings) ≡ length kinds
length-notes_of [] bindings same = refl
length-notes_of (k ∷ kinds) [] same = absurd (omega (arith, same))
length-notes_of (k ∷ kinds) (b ∷ bindings) same = ap suc (length-notes_of kinds bindings (omega (arith, same)))

one_more : (kinds bindings : List ℕ) (i : ℕ) → i < length kinds → i < length bindings
    → notes_of (take (suc i) kinds) (take (suc i) bindings) ≡ notes_of (take i kinds) (take i bindings) ++ note_of (get_or kinds i 0) (get_or bindings i 0) ∷ []
one_more [] bindings i l m = absurd (omega (arith, l))
one_more (k ∷ kinds) [] i l m = absurd (omega (arith, m))
one_more (k ∷ kinds) (b ∷ bindings) zero l m = refl
one_more (k ∷ kinds) (b ∷ bindings) (suc i) l m = ap (λ ns. note_of k b ∷ ns) (one_more kinds bindings i (omega (arith, l)) (omega (arith, m)))

-- one token more
pub notes_of-more : (kinds bindings : List ℕ) (i : ℕ) → i < length kinds → i < length bindings
    → notes_of (take (i + 1) kinds) (take (i + 1) bindings) ≡ notes_of (take i kinds) (take i bindings) ++ note_of (get_or kinds i 0) (get_or bindings i 0) ∷ []
notes_of-more kinds bindings i l m =
    let next : i + 1 ≡ suc i = omega arith in
    ap (λ n. notes_of (take n kinds) (take n bindings)) next ∙ one_more kinds bindings i l m

-- a note is of the number and the binding of its token
pub record IsNoteOf (kinds bindings : List ℕ) (at : ℕ) (note : Note) : Type 0 where
  pub kind : slice_get kinds at ≡ Some note.kind
  pub binding : slice_get bindings at ≡ Some note.binding
  pub sync : note.sync ≡ false
  pub shared : note.shared ≡ false
  pub splits : note.splits ≡ false

pub note_at : (kinds bindings : List ℕ) (at : ℕ) (note : Note) → slice_get (notes_of kinds bindings) at ≡ Some note → IsNoteOf kinds bindings at note
note_at [] bindings at note e = absurd (none-some note e)
note_at (k ∷ kinds) [] at note e = absurd (none-some note e)
note_at (k ∷ kinds) (b ∷ bindings) zero note e =
    let same : note_of k b ≡ note = same_Some (note_of k b) note e in
    record {
      kind = ap (λ (n : Note). Some n.kind) same;
      binding = ap (λ (n : Note). Some n.binding) same;
      sync = sym (ap (λ (n : Note). n.sync) same);
      shared = sym (ap (λ (n : Note). n.shared) same);
      splits = sym (ap (λ (n : Note). n.splits) same);
    }
note_at (k ∷ kinds) (b ∷ bindings) (suc at) note e =
    let x = note_at kinds bindings at note e in
    record { kind = x.kind; binding = x.binding; sync = x.sync; shared = x.shared; splits = x.splits }

-- and each token that has a number has a note
pub note_there : (kinds bindings : List ℕ) → length bindings ≡ length kinds → (at number : ℕ) → slice_get kinds at ≡ Some number
    → (note : Note) × (slice_get (notes_of kinds bindings) at ≡ Some note) × (note.kind ≡ number)
note_there [] bindings same at number e = absurd (none-some number e)
note_there (k ∷ kinds) [] same at number e = absurd (omega (arith, same))
note_there (k ∷ kinds) (b ∷ bindings) same zero number e = (note_of k b, refl, same_Some k number e)
note_there (k ∷ kinds) (b ∷ bindings) same (suc at) number e = note_there kinds bindings (omega (arith, same)) at number e
