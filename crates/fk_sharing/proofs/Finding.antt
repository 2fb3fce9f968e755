-- What the code finds of the tokens that it keeps is what the program breaks.
use Rattle.std.proofs.Common.{◌≡◌, ℕ, ◌+◌, ◌<◌, length, get_or, List, map, Option, Some, slice_get, sym, ap, subst, ◌∙◌}
use Rattle.std.proofs.lemmas.Option.{slice_get-get_or}
use Rattle.fk_syntax.specs.declared.place.Place.{Place}
use Rattle.fk_syntax.specs.Program.{ProgramTree}
use Rattle.fk_check_rules.specs.declared.rule.Rule.{Rule}
use Rattle.fk_check_rules.specs.declared.fault.Fault.{Fault}
use Rattle.fk_check_rules.specs.Least.{IsEarlier, IsLeast, among, among_first}
use Rattle.fk_check_rules.proofs.LeastLemmas.{IsLeast-same, IsLeast-one_more}
use Rattle.fk_types_names.specs.declared.names.Names.{Names}
use Rattle.fk_types_names.specs.Names.{AreNames}
use Rattle.fk_sharing_class.specs.declared.thing.Thing.{Thing}
use Rattle.fk_sharing_class.specs.Things.{thing_in}
use Rattle.fk_sharing_class.proofs.Telling.{names-tell, same-telling}
use Rattle.fk_regions.proofs.Finding.{get-map, map-get}
use Rattle.fk_sharing.specs.declared.around.Holder.{Holder}
use Rattle.fk_sharing.specs.declared.around.Around.{Around}
use Rattle.fk_sharing.specs.declared.token.Token.{Token}
use Rattle.fk_sharing.specs.Tokens.{TokenIn, tokens}
use Rattle.fk_sharing.specs.Collected.{seen}
use Rattle.fk_sharing.specs.Retold.{retold}
use Rattle.fk_sharing.specs.Judged.{Breaks}
use Rattle.fk_sharing.specs.Found.{TokenBreaks}
use Rattle.fk_sharing.specs.Broken.{BreaksRule, Broken}
use Rattle.fk_sharing.proofs.Judging.{rule-finds, rule-tells}

-- one token more
pub one-more : (list : List Token) (n : ℕ) (d : Token) → n < length list → (a b r : Option Fault) → IsLeast (among_first n TokenBreaks list) a → IsLeast (Breaks (seen (get_or list n d))) b → IsEarlier a b r → IsLeast (among_first (n + 1) TokenBreaks list) r
one-more list n d within a b r l m f = IsLeast-one_more TokenBreaks list n (get_or list n d) (slice_get-get_or list n d within) a b r l m f

-- by what the names of the program are
abbrev BrokenBy : ProgramTree → (ℕ → Option Thing) → Place → Rule → Type 0
BrokenBy program thing place rule = (i : ℕ) × (token : TokenIn (List Holder)) × (slice_get (tokens thing program) i ≡ Some token) × (token.spot.place ≡ place) × BreaksRule token.around token.word rule

module _ (program : ProgramTree) (names : Names) (are : AreNames program names) (list : List Token) (same : map seen list ≡ map retold (tokens (thing_in names) program)) where
  broken-of : (place : Place) (rule : Rule) → among TokenBreaks list place rule → Broken program place rule
  broken-of place rule h =
      let there = ap (λ l. slice_get l h.0) (sym same) ∙ get-map seen list h.0 h.1 h.2 in
      let x = map-get retold (tokens (thing_in names) program) h.0 (seen h.1) there in
      let b = subst (λ z. Breaks z place rule) (sym x.2) h.3 in
      (thing_in names, names-tell program names are, h.0, x.0, x.1, sym b.0, rule-tells x.0.around x.0.word rule b.1)

  found-by : (place : Place) (rule : Rule) → BrokenBy program (thing_in names) place rule → among TokenBreaks list place rule
  found-by place rule h =
      let there = ap (λ l. slice_get l h.0) same ∙ get-map retold (tokens (thing_in names) program) h.0 h.1 h.2 in
      let t = map-get seen list h.0 (retold h.1) there in
      let P = λ (z : TokenIn Around). Breaks z place rule in
      (h.0, t.0, t.1, subst P (sym t.2) (sym h.3, rule-finds h.1.around h.1.word rule h.4))

  found-of : (place : Place) (rule : Rule) → Broken program place rule → among TokenBreaks list place rule
  found-of place rule h = found-by place rule
      (subst (λ thing. BrokenBy program thing place rule) (same-telling program h.0 (thing_in names) h.1 (names-tell program names are)) (h.2, h.3, h.4, h.5, h.6))

  pub least-broken : (r : Option Fault) → IsLeast (among TokenBreaks list) r → IsLeast (Broken program) r
  least-broken = IsLeast-same (among TokenBreaks list) (Broken program) broken-of found-of
