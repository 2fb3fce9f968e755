-- What signs and suffixes make of an expression.
use Rattle.std.proofs.Common.{◌≡◌, ◌≢◌, Bool, true, false, ◌||◌, List, [], ◌∷◌, map, length, refl, sym, ap, ◌∙◌, arith}
use Rattle.std.proofs.lemmas.Bool.{or_right}
use Rattle.fk_syntax.specs.declared.place.Spot.{Spot}
use Rattle.fk_syntax.specs.declared.sign.Sign.{Sign}
use Rattle.fk_syntax.specs.declared.sign.Sign.TheVariants as s
use Rattle.fk_syntax.specs.declared.expression.Suffix.{Suffix}
use Rattle.fk_syntax.specs.Tree.{Links, SuffixTree, Suffixes, suffix, suffixes_of}
use Rattle.fk_syntax.specs.Tree as t
use Rattle.fk_syntax.specs.View.{suffix_of}
use Rattle.fk_types_judgments.specs.Term as m
use Rattle.fk_types_judgments.specs.Term.{Term, term_of, with_links, with_arguments, with_suffixes, prefix_term, joined_term}
use Rattle.fk_types_judgments.specs.Names.{Env}
use Rattle.fk_types_forms.proofs.NameLemmas.{prefix-other}
use Rattle.fk_types_rules.specs.Constant.{is_more}

-- either of two, where the second is known
pub or-true : (b : Bool) → true ≡ (b || true)
or-true true = refl
or-true false = refl

pub or-false : (b : Bool) → (b || false) ≡ b
or-false true = refl
or-false false = refl

module _ (env : Env) where
  -- a sign between two expressions
  pub more-joined : (spot : Spot) (sign : Sign) (l r : Term) → is_more env (joined_term spot sign l r) ≡ (is_more env l || is_more env r)
  more-joined spot s.Comma l r = refl
  more-joined spot _ l r = refl

  -- a sign before a value
  pub more-prefix : (spot : Spot) (sign : Sign) (u : Term) → sign ≢ s.Star → sign ≢ s.Ampersand → sign ≢ s.Increment → sign ≢ s.Decrement → is_more env (prefix_term spot sign u) ≡ is_more env u
  more-prefix spot sign u a b c d = ap (is_more env) (sym (prefix-other spot sign u a b c d))

  -- what holds more does so with signs behind it
  pub more-links : (before : Term) (links : Links) → is_more env before ≡ true → is_more env (with_links before links) ≡ true
  more-links before t.no_links more = more
  more-links before (t.link spot sign right others) more = more-links (joined_term spot sign before (term_of right)) others
      (more-joined spot sign before (term_of right) ∙ ap (λ b. b || is_more env (term_of right)) more)

  -- and with suffixes
  pub more-suffixes : (before : Term) (suffixes : Suffixes) → is_more env before ≡ true → is_more env (with_suffixes before suffixes) ≡ true
  more-suffixes before t.no_suffixes more = more
  more-suffixes before (t.index spot by others) more = more-suffixes (m.Index spot before (term_of by)) others refl
  more-suffixes before (t.call spot arguments others) more = more-suffixes (m.Call spot before (with_arguments m.no_terms arguments)) others refl
  more-suffixes before (t.dot spot member others) more = more-suffixes (m.Member spot before member) others refl
  more-suffixes before (t.arrow spot member others) more = more-suffixes (m.Through spot before member) others refl
  more-suffixes before (t.up spot others) more = more-suffixes (m.Count spot false before) others refl
  more-suffixes before (t.down spot others) more = more-suffixes (m.Count spot false before) others refl

  -- what has suffixes holds more
  pub more-suffix : (whole : Term) (s : SuffixTree) (others : Suffixes) → is_more env (with_suffixes whole (suffix s others)) ≡ true
  more-suffix whole (t.Index spot by) others = more-suffixes (m.Index spot whole (term_of by)) others refl
  more-suffix whole (t.Call spot arguments) others = more-suffixes (m.Call spot whole (with_arguments m.no_terms arguments)) others refl
  more-suffix whole (t.Dot spot member) others = more-suffixes (m.Member spot whole member) others refl
  more-suffix whole (t.Arrow spot member) others = more-suffixes (m.Through spot whole member) others refl
  more-suffix whole (t.Up spot) others = more-suffixes (m.Count spot false whole) others refl
  more-suffix whole (t.Down spot) others = more-suffixes (m.Count spot false whole) others refl

  pub more-some : (whole : Term) (xs : List Suffix) → ¬ (length xs ≡ 0) → is_more env (with_suffixes whole (suffixes_of (map suffix_of xs))) ≡ true
  more-some whole [] some = absurd (some refl)
  more-some whole (x ∷ xs) some = more-suffix whole (suffix_of x) (suffixes_of (map suffix_of xs))

  pub more-none : (whole : Term) (xs : List Suffix) → length xs ≡ 0 → is_more env (with_suffixes whole (suffixes_of (map suffix_of xs))) ≡ is_more env whole
  more-none whole [] none = refl
  more-none whole (x ∷ xs) none = absurd (omega arith)

  -- a link behind what stands before it
  pub more-link : (spot : Spot) (sign : Sign) (before right : Term) (links : Links) → is_more env right ≡ true → is_more env (with_links (joined_term spot sign before right) links) ≡ true
  more-link spot sign before right links more = more-links (joined_term spot sign before right) links (more-joined spot sign before right ∙ or_right (is_more env before) (is_more env right) more)

  pub no-more-link : (spot : Spot) (sign : Sign) (before right : Term) → is_more env right ≡ false → is_more env (joined_term spot sign before right) ≡ is_more env before
  no-more-link spot sign before right plain = more-joined spot sign before right ∙ ap (λ b. is_more env before || b) plain ∙ or-false (is_more env before)
