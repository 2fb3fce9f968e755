-- What the code finds of the tokens that it keeps is what the program breaks.
use Rattle.std.proofs.Common.{◌≡◌, inl, inr, ℕ, zero, suc, ◌+◌, ◌<◌, length, get_or, List, [], ◌∷◌, map, Option, Some, slice_get, refl, sym, ap, subst, ◌∙◌}
use Rattle.std.proofs.lemmas.Option.{slice_get-get_or}
use Rattle.fk_syntax.specs.declared.place.Place.{Place}
use Rattle.fk_syntax.specs.Program.{ProgramTree}
use Rattle.fk_check_rules.specs.declared.rule.Rule.{Rule}
use Rattle.fk_check_rules.specs.declared.fault.Fault.{Fault}
use Rattle.fk_check_rules.specs.Least.{IsEarlier, IsLeast, among, among_first}
use Rattle.fk_check_rules.proofs.LeastLemmas.{IsLeast-same, IsLeast-one_more}
use Rattle.fk_types_names.specs.declared.names.Names.{Names}
use Rattle.fk_types_names.specs.Names.{AreNames}
use Rattle.fk_regions.specs.declared.around.Holder.{Holder}
use Rattle.fk_regions.specs.declared.around.Around.{Around}
use Rattle.fk_regions.specs.declared.token.Token.{Token}
use Rattle.fk_regions.specs.declared.callee.Callee.{Callee}
use Rattle.fk_regions.specs.Tokens.{TokenIn, tokens}
use Rattle.fk_regions.specs.Called.{Calls, callee_in}
use Rattle.fk_regions.specs.Collected.{seen}
use Rattle.fk_regions.specs.Retold.{retold}
use Rattle.fk_regions.specs.Judged.{Breaks}
use Rattle.fk_regions.specs.Found.{TokenBreaks}
use Rattle.fk_regions.specs.Broken.{BreaksRule, Broken}
use Rattle.fk_regions.proofs.Judging.{misplaced-finds, misplaced-tells, straight-finds, straight-tells}
use Rattle.fk_regions.proofs.Calling.{calls-finds, calls-tells}

pub get-map : {X Y : Type 0} (f : X → Y) (xs : List X) (i : ℕ) (x : X) → slice_get xs i ≡ Some x → slice_get (map f xs) i ≡ Some (f x)
get-map f [] i x e = absurd (cc)
get-map f (y ∷ xs) zero x e = let same : y ≡ x = cc in ap (λ z. Some (f z)) same
get-map f (y ∷ xs) (suc i) x e = get-map f xs i x e

pub map-get : {X Y : Type 0} (f : X → Y) (xs : List X) (i : ℕ) (y : Y) → slice_get (map f xs) i ≡ Some y → (x : X) × (slice_get xs i ≡ Some x) × (f x ≡ y)
map-get f [] i y e = absurd (cc)
map-get f (x ∷ xs) zero y e = (x, refl, cc)
map-get f (x ∷ xs) (suc i) y e = map-get f xs i y e

-- one token more
pub one-more : (names : Names) (list : List Token) (n : ℕ) (d : Token) → n < length list → (a b r : Option Fault) (callee : Option Callee) → IsLeast (among_first n (TokenBreaks names) list) a → callee ≡ callee_in names (get_or list n d).spot.at → IsLeast (Breaks callee (seen (get_or list n d))) b → IsEarlier a b r → IsLeast (among_first (n + 1) (TokenBreaks names) list) r
one-more names list n d within a b r callee l e m f = IsLeast-one_more (TokenBreaks names) list n (get_or list n d) (slice_get-get_or list n d within) a b r l (subst (λ k. IsLeast (Breaks k (seen (get_or list n d))) b) e m) f

module _ (program : ProgramTree) (names : Names) (are : AreNames program names) where
  -- what the code finds of a token that is told shorter
  abbrev Finds : TokenIn Around → Place → Rule → Type 0
  Finds x place rule = Breaks (callee_in names x.spot.at) x place rule

  tells : (x : TokenIn (List Holder)) (place : Place) (rule : Rule) → Finds (retold x) place rule → (x.spot.place ≡ place) × BreaksRule (Calls program x.spot.at) x rule
  tells x place rule (inl h) = (sym h.0, inl (misplaced-tells x.around (Calls program x.spot.at) (callee_in names x.spot.at) (calls-finds program names are x.spot.at) (calls-tells program names are x.spot.at) x.word rule h.1))
  tells x place rule (inr h) = (sym h.0, inr (straight-tells x.around (Calls program x.spot.at) (callee_in names x.spot.at) (calls-finds program names are x.spot.at) (calls-tells program names are x.spot.at) x.word rule h.1))

  finds : (x : TokenIn (List Holder)) (place : Place) (rule : Rule) → x.spot.place ≡ place → BreaksRule (Calls program x.spot.at) x rule → Finds (retold x) place rule
  finds x place rule e (inl h) = inl (sym e, misplaced-finds x.around (Calls program x.spot.at) (callee_in names x.spot.at) (calls-finds program names are x.spot.at) (calls-tells program names are x.spot.at) x.word rule h)
  finds x place rule e (inr h) = inr (sym e, straight-finds x.around (Calls program x.spot.at) (callee_in names x.spot.at) (calls-finds program names are x.spot.at) (calls-tells program names are x.spot.at) x.word h.1 h.2 ∙ ap Some (sym h.0))

  module _ (list : List Token) (same : map seen list ≡ map retold (tokens program)) where
    broken-of : (place : Place) (rule : Rule) → among (TokenBreaks names) list place rule → Broken program place rule
    broken-of place rule h =
        let there = ap (λ l. slice_get l h.0) (sym same) ∙ get-map seen list h.0 h.1 h.2 in
        let x = map-get retold (tokens program) h.0 (seen h.1) there in
        let t = tells x.0 place rule (subst (λ z. Finds z place rule) (sym x.2) h.3) in
        (h.0, x.0, x.1, t.0, t.1)

    found-of : (place : Place) (rule : Rule) → Broken program place rule → among (TokenBreaks names) list place rule
    found-of place rule h =
        let there = ap (λ l. slice_get l h.0) same ∙ get-map retold (tokens program) h.0 h.1 h.2 in
        let t = map-get seen list h.0 (retold h.1) there in
        (h.0, t.0, t.1, subst (λ z. Finds z place rule) (sym t.2) (finds h.1 place rule h.3 h.4))

    pub least-broken : (r : Option Fault) → IsLeast (among (TokenBreaks names) list) r → IsLeast (Broken program) r
    least-broken = IsLeast-same (among (TokenBreaks names) list) (Broken program) broken-of found-of
