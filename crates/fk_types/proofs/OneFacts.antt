-- A program has one table of facts at most, as far as its types and names say them.
use Rattle.std.proofs.Common.{◌≡◌, inl, inr, ℕ, ◌<◌, List, length, get_or, Some, None, slice_get, Contains, refl, sym, ap, subst, ◌∙◌, arith}
use Rattle.std.proofs.lemmas.Bool.{cases_lt}
use Rattle.std.proofs.lemmas.Option.{same_Some, slice_get_within, slice_get-get_or}
use Rattle.std.proofs.Math.Nat.{eq-or-lt_of_le}
use Rattle.fk_syntax.specs.declared.facts.Note.{Note}
use Rattle.fk_syntax.specs.declared.facts.Kind.{Kind}
use Rattle.fk_syntax.specs.declared.facts.Facts.{Facts}
use Rattle.fk_syntax.specs.Program.{ProgramTree}
use Rattle.fk_types_structs.specs.Types.{StructTree, type_spelled, member_named}
use Rattle.fk_types_structs.specs.Sizes.{HasTypeWords, HasOffset}
use Rattle.fk_types_operators.specs.declared.values.ExpressionType.{ExpressionType}
use Rattle.fk_types_judgments.specs.Names.{Env, IsEnv}
use Rattle.fk_types_judgments.specs.Typing.{Noted}
use Rattle.fk_types_references.specs.References.{ReferenceTree}
use Rattle.fk_types_rules.specs.Kinds.{IsKind}
use Rattle.fk_types_rules.specs.Noted.{HasTypeAt}
use Rattle.fk_types_rules.specs.Bound.{Refers, declared, predeclared, member, size, IsBound, refers, declares}
use Rattle.fk_types_rules.specs.Facts.{IsNote, AreFactsIn, AreFacts}
use Rattle.fk_types_rules.proofs.Alike.{alike-noted}
use Rattle.fk_types.proofs.OneKind.{one_kind}
use Rattle.fk_types.proofs.OneNumbering.{IsNumbering, Agree, same_lists, one_list}

-- numbers that aren't told apart are the same
stable : (m n : ℕ) → ((m ≡ n → ⊥) → ⊥) → m ≡ n
stable m n together = elim (cases_lt m n) [
  | inl less ↦ absurd (together (λ e. omega (arith, e, less)))
  | inr past ↦ elim (eq-or-lt_of_le past) [
    | inl same ↦ sym same
    | inr less ↦ absurd (together (λ e. omega (arith, e, less)))
  ]
]

-- ---- what a token names does not rest on the environment

module _ (program : ProgramTree) (env other : Env) (structs : env.structs ≡ other.structs) (types : (at : ℕ) (type : ExpressionType) → HasTypeAt env program at type → HasTypeAt other program at type) where
  refers_too : {r : ReferenceTree} {number : ℕ} → Refers env program r number → Refers other program r number
  refers_too (declared name number means) = declared name number means
  refers_too (predeclared name means) = predeclared name means
  refers_too (member whole is_arrow name type index place words typed before named offset) =
      member whole is_arrow name type index place words (types whole type typed) before
      (subst (λ (ss : List StructTree). member_named ss index name.bytes ≡ Some place) structs named)
      (subst (λ (ss : List StructTree). HasOffset ss index place words) structs offset)
  refers_too (size spot tree type words spelled has) =
      size spot tree type words
      (subst (λ (ss : List StructTree). type_spelled ss tree None ≡ Some type) structs spelled)
      (subst (λ (ss : List StructTree). HasTypeWords ss type words) structs has)

  bound_too : {at number : ℕ} → IsBound env program at number → IsBound other program at number
  bound_too (refers r number there here is) = refers r number there here (refers_too is)
  bound_too (declares d here meant there token stands) = declares d here meant there token stands

-- ---- kinds and notes

module _ (program : ProgramTree) (one two : Facts) (env other : Env) (right : IsEnv program env) (fits : IsEnv program other)
    (first : AreFactsIn env program one) (second : AreFactsIn other program two) where
  structs : env.structs ≡ other.structs
  structs = right.structs ∙ sym fits.structs

  there : (at : ℕ) (type : ExpressionType) → HasTypeAt env program at type → HasTypeAt other program at type
  there at type has = subst (λ (ns : List Noted). Contains ns (record { at = at; type = Some type })) (alike-noted program env other right fits) has

  back : (at : ℕ) (type : ExpressionType) → HasTypeAt other program at type → HasTypeAt env program at type
  back at type has = subst (λ (ns : List Noted). Contains ns (record { at = at; type = Some type })) (sym (alike-noted program env other right fits)) has

  -- the note of a token has the number of the kind of its type
  record HasNumber (e : Env) (facts : Facts) (at number : ℕ) : Type 0 where
    note : Note
    type : ExpressionType
    noted : slice_get facts.notes.items at ≡ Some note
    typed : HasTypeAt e program at type
    is : note.kind ≡ number

  numbering : (e : Env) (facts : Facts) → AreFactsIn e program facts → IsNumbering facts.kinds.items (HasNumber e facts)
  numbering e facts known = record {
    once = λ at m n h k. sym h.is ∙ ap (λ (n : Note). n.kind) (same_Some h.note k.note (sym h.noted ∙ k.noted)) ∙ k.is;
    distinct = known.distinct;
    met = λ n inside.
        let met = known.met n inside in
        let here = met.1.here in (
          met.0,
          record { note = here.0; type = here.1; noted = here.2; typed = here.3; is = here.4 },
          λ before m earlier h. subst (λ k. k < n) h.is (met.1.first before h.note h.type earlier h.noted h.typed),
        );
  }

  same_length : length two.notes.items ≡ length one.notes.items
  same_length = second.tokens ∙ sym first.tokens

  -- a token with a type has the same kind in both
  same_kind : (at : ℕ) (type : ExpressionType) (a b : Note) → HasTypeAt env program at type → slice_get one.notes.items at ≡ Some a → slice_get two.notes.items at ≡ Some b
      → (kind : Kind) × (slice_get one.kinds.items a.kind ≡ Some kind) × (slice_get two.kinds.items b.kind ≡ Some kind)
  same_kind at type a b typed e f =
      let x = (first.notes at a e).kind type typed in
      let y = (second.notes at b f).kind type (there at type typed) in
      let again : IsKind env.structs type y.0 = subst (λ (ss : List StructTree). IsKind ss type y.0) (sym structs) y.2 in
      let same : y.0 ≡ x.0 = one_kind env.structs type y.0 x.0 again x.2 in
      (x.0, x.1, y.1 ∙ ap Some same)

  agree : Agree one.kinds.items two.kinds.items (HasNumber env one) (HasNumber other two)
  agree = record {
    there = λ at m h.
        let note = slice_get-get_or two.notes.items at h.note (omega (arith, slice_get_within one.notes.items at h.note h.noted, same_length)) in
        ((get_or two.notes.items at h.note).kind, record { note = get_or two.notes.items at h.note; type = h.type; noted = note; typed = there at h.type h.typed; is = refl });
    back = λ at n h.
        let note = slice_get-get_or one.notes.items at h.note (omega (arith, slice_get_within two.notes.items at h.note h.noted, same_length)) in
        ((get_or one.notes.items at h.note).kind, record { note = get_or one.notes.items at h.note; type = h.type; noted = note; typed = back at h.type h.typed; is = refl });
    same = λ at m n h k.
        let both = same_kind at h.type h.note k.note h.typed h.noted k.noted in
        (both.0, ap (slice_get one.kinds.items) (sym h.is) ∙ both.1, ap (slice_get two.kinds.items) (sym k.is) ∙ both.2);
  }

  same_kinds : one.kinds.items ≡ two.kinds.items
  same_kinds = one_list one.kinds.items two.kinds.items (HasNumber env one) (HasNumber other two) (numbering env one first) (numbering other two second) agree

  module _ (at : ℕ) (a b : Note) (e : slice_get one.notes.items at ≡ Some a) (f : slice_get two.notes.items at ≡ Some b) where
    mine : IsNote env program one.kinds.items at a
    mine = first.notes at a e

    its : IsNote other program two.kinds.items at b
    its = second.notes at b f

    same_number : a.kind ≡ b.kind
    same_number = stable a.kind b.kind (λ apart. apart (mine.untyped (λ type has. apart (numbered type has)) ∙ sym (its.untyped (λ type has. apart (numbered type (back at type has))))))
      where
        numbered : (type : ExpressionType) → HasTypeAt env program at type → a.kind ≡ b.kind
        numbered type has =
            let both = same_kind at type a b has e f in
            first.distinct a.kind b.kind both.0 both.1 (ap (λ (ks : List Kind). slice_get ks b.kind) same_kinds ∙ both.2)

    same_binding : a.binding ≡ b.binding
    same_binding = stable a.binding b.binding (λ apart. apart (mine.unbound (λ number is. apart (bound number is)) ∙ sym (its.unbound (λ number is. apart (bound number (bound_too program other env (sym structs) back is))))))
      where
        bound : (number : ℕ) → IsBound env program at number → a.binding ≡ b.binding
        bound number is = mine.binding number is ∙ sym (its.binding number (bound_too program env other structs there is))

    pub same_note : a ≡ b
    same_note = λ i. record {
      kind = same_number i;
      binding = same_binding i;
      sync = (mine.sync ∙ sym its.sync) i;
      shared = (mine.shared ∙ sym its.shared) i;
      splits = (mine.splits ∙ sym its.splits) i;
    }

  pub one_table : (one.notes.items ≡ two.notes.items) × (one.kinds.items ≡ two.kinds.items)
  one_table = (same_lists one.notes.items two.notes.items same_at_each (omega (arith, same_length)), same_kinds)
    where
      same_at_each : (i : ℕ) (a : Note) → slice_get one.notes.items i ≡ Some a → slice_get two.notes.items i ≡ Some a
      same_at_each i a e =
          let f = slice_get-get_or two.notes.items i a (omega (arith, slice_get_within one.notes.items i a e, same_length)) in
          f ∙ ap Some (sym (same_note i a (get_or two.notes.items i a) e f))

pub one_facts : (program : ProgramTree) (one two : Facts) → AreFacts program one → AreFacts program two → (one.notes.items ≡ two.notes.items) × (one.kinds.items ≡ two.kinds.items)
one_facts program one two a b = one_table program one two a.env b.env a.right b.right a.known b.known
