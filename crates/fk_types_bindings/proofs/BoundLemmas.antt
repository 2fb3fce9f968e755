-- What is set at tokens that are apart is what they name.
use Rattle.std.proofs.Common.{◌≡◌, inl, inr, ℕ, zero, suc, ◌<◌, List, length, replicate, Option, Some, refl, sym, subst, ◌∙◌, arith}
use Rattle.std.specs.Prelude.{Contains, slice_get}
use Rattle.std.proofs.lemmas.Option.{none-some, same_Some, slice_get_read, slice_get_within, get_or_from_slice_get}
use Rattle.fk_syntax.specs.Program.{ProgramTree}
use Rattle.fk_syntax.specs.WellFormed.{IsWellFormed}
use Rattle.fk_types_names.specs.Outline.{declarations, outline}
use Rattle.fk_types_names.specs.Means.{binding}
use Rattle.fk_types_judgments.specs.Names.{Env}
use Rattle.fk_types_obligations.specs.Pieces.{pieces}
use Rattle.fk_types_rules.specs.Bound.{IsBound, refers, declares, AreBound, AreUnbound, pieces_references, token_of}
use Rattle.fk_types_rules.specs.Apart.{AreTokensApart}
use Rattle.fk_types_bindings.specs.Bodies.{AreBodies}
use Rattle.fk_types_bindings.specs.Bound.{AreDeclared, AreReferred, name_token}
use Rattle.fk_types_bindings.proofs.Below.{references_below, declared_below}
use Rattle.fk_types_bindings.proofs.BodyLemmas.{declared_here, declared_from, meant-stands, stands}

zeros : (count at number : ℕ) → slice_get (replicate count 0) at ≡ Some number → number ≡ 0
zeros zero at number e = absurd (none-some number e)
zeros (suc count) zero number e = sym (same_Some 0 number e)
zeros (suc count) (suc at) number e = zeros count at number e

module _ (env : Env) (program : ProgramTree) (bodies : List ℕ → Option ℕ) (start mid end : List ℕ) (sound : IsWellFormed program) (apart : AreTokensApart program) (size : length start ≡ program.tokens)
    (are : AreBodies (declarations program) bodies) (declared : AreDeclared bodies (declarations program) start mid) (referred : AreReferred env program (pieces_references (pieces program)) mid end) where
  pub all-bound : AreBound env program end
  all-bound = λ at number bound. by at bound
    where
      by : (at : ℕ) {number : ℕ} → IsBound env program at number → slice_get end at ≡ Some number
      by at (refers r number there here is) =
          let rs = pieces_references (pieces program) in
          let found : slice_get rs there.0 ≡ Some r = slice_get_read rs (length rs) there.0 r refl there.1 (sym there.2) in
          let inside : token_of r < length mid = omega (arith, references_below program sound r there, size, declared.same_length) in
          subst (λ k. slice_get end k ≡ Some number) here (referred.each apart.references there.0 r number found inside is)
      by at (declares d here meant there token stands) =
          let ds = declarations program in
          let i = binding (outline program) here in
          let number = binding (outline program) meant in
          let found : slice_get ds i ≡ Some d = declared_here (outline program) here d there in
          let held : Contains ds d = (i, slice_get_within ds i d found, get_or_from_slice_get ds i d d found) in
          let inside : name_token d < length start = omega (arith, declared_below program sound d held, size) in
          let own : slice_get mid (name_token d) ≡ Some number = declared.each apart.declared i d number found inside (sym (meant-stands (outline program) bodies are here meant d stands)) in
          let kept : slice_get end (name_token d) ≡ slice_get mid (name_token d) = referred.others (name_token d) (λ r named same. apart.never_both d r held named (sym same)) in
          subst (λ k. slice_get end k ≡ Some number) token (kept ∙ own)

-- what names nothing keeps the 0 that it began with
module _ (env : Env) (program : ProgramTree) (bodies : List ℕ → Option ℕ) (count : ℕ) (mid end : List ℕ) (are : AreBodies (declarations program) bodies)
    (declared : AreDeclared bodies (declarations program) (replicate count 0) mid) (referred : AreReferred env program (pieces_references (pieces program)) mid end) where
  at_first : (at number : ℕ) → ((bound : ℕ) → ¬ IsBound env program at bound) → slice_get mid at ≡ Some number → number ≡ 0
  at_first at number none there = elim (declared.only at number there) [
    | inl stood ↦ zeros count at number stood
    | inr by ↦
        let mark = declared_from (outline program) by.index by.thing by.there in
        let meant = stands (outline program) bodies are mark.0 by.thing in
        absurd (none (binding (outline program) meant.0) (declares by.thing mark.0 meant.0 mark.1 by.here meant.1))
  ]

  pub all-unbound : AreUnbound env program end
  all-unbound = λ at number none there. elim (referred.only at number there) [
    | inl before ↦ at_first at number none before
    | inr by ↦
        let rs = pieces_references (pieces program) in
        let held : Contains rs by.thing = (by.index, slice_get_within rs by.index by.thing by.there, get_or_from_slice_get rs by.index by.thing by.thing by.there) in
        absurd (none number (refers by.thing number held by.here by.has))
  ]
