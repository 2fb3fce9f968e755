-- Chains and suffixes stand one step after the other.
use Rattle.std.proofs.Common.{◌≡◌, ℕ, refl, ◌∙◌, ap, sym}
use Rattle.fk_syntax.specs.declared.place.Spot.{Spot}
use Rattle.fk_syntax.specs.declared.sign.Sign.{Sign}
use Rattle.fk_syntax.specs.declared.sign.Sign.TheVariants as g
use Rattle.fk_syntax.specs.Tree as t
use Rattle.fk_syntax.specs.Tree.{Tree, Links, Suffixes, SuffixTree, suffix}
use Rattle.fk_meaning_forms.specs.Tables.{Tables}
use Rattle.fk_meaning_forms.specs.Expressions.{Coded, ResultLocation, Signature, Evaluation, evaluated, token, joined, linked, suffixed, assignment}
use Rattle.fk_layout_walk.specs.Suffix.{one_suffix, suffix_at, chained, followed, assigned_to}

module _ (tables : Tables) (functions : (binding : ℕ) → Signature) where
  -- a sign does first what stands on its left
  joined_first : (spot : Spot) (sign : Sign) (e : Evaluation) (left : ℕ) (b : Evaluation) (right : ℕ) (k : ResultLocation → Coded) → joined tables functions spot sign e left b right k ≡ e (λ s. joined tables functions spot sign (λ j. j s) left b right k)
  joined_first spot g.Comma e left b right k = refl
  joined_first spot g.AndAnd e left b right k = refl
  joined_first spot g.OrOr e left b right k = refl
  joined_first spot sign e left b right k = refl

  pub linked_first : (e : Evaluation) (at : ℕ) (links : Links) (k : ResultLocation → Coded) → linked tables functions e at links k ≡ e (λ s. linked tables functions (λ j. j s) at links k)
  linked_first e at t.no_links k = refl
  linked_first e at (t.link spot sign right others) k =
      linked_first (joined tables functions spot sign e at (evaluated tables functions right) (token right)) spot.at others k
      ∙ joined_first spot sign e at (evaluated tables functions right) (token right) (λ s. linked tables functions (λ j. j s) spot.at others k)
      ∙ ap e (λ i. λ s. sym (linked_first (joined tables functions spot sign (λ j. j s) at (evaluated tables functions right) (token right)) spot.at others k) i)

  pub linked_step : (s : ResultLocation) (at : ℕ) (spot : Spot) (sign : Sign) (right : Tree) (others : Links) (k : ResultLocation → Coded) → linked tables functions (λ j. j s) at (t.link spot sign right others) k ≡ joined tables functions spot sign (λ j. j s) at (evaluated tables functions right) (token right) (λ s. linked tables functions (λ j. j s) spot.at others k)
  linked_step s at spot sign right others k = linked_first (joined tables functions spot sign (λ j. j s) at (evaluated tables functions right) (token right)) spot.at others k

  one-of : (e : Evaluation) (at : ℕ) (x : SuffixTree) (others : Suffixes) (k : ResultLocation → Coded) → suffixed tables functions e at (suffix x others) k ≡ suffixed tables functions (λ j. e (λ s. one_suffix tables functions s at x j)) (suffix_at x) others k
  one-of e at (t.Index spot by) others k = refl
  one-of e at (t.Call spot arguments) others k = refl
  one-of e at (t.Dot spot member) others k = refl
  one-of e at (t.Arrow spot member) others k = refl
  one-of e at (t.Up spot) others k = refl
  one-of e at (t.Down spot) others k = refl

  after-one : (x : SuffixTree) (others : Suffixes) (k : ResultLocation → Coded) → ((e : Evaluation) (at : ℕ) → suffixed tables functions e at others k ≡ e (λ s. suffixed tables functions (λ j. j s) at others k)) → (e : Evaluation) (at : ℕ) → suffixed tables functions e at (suffix x others) k ≡ e (λ s. suffixed tables functions (λ j. j s) at (suffix x others) k)
  after-one x others k h e at =
      one-of e at x others k
      ∙ h (λ j. e (λ s. one_suffix tables functions s at x j)) (suffix_at x)
      ∙ ap e (λ i. λ s. sym (one-of (λ j. j s) at x others k ∙ h (λ j. one_suffix tables functions s at x j) (suffix_at x)) i)

  pub suffixed_first : (e : Evaluation) (at : ℕ) (xs : Suffixes) (k : ResultLocation → Coded) → suffixed tables functions e at xs k ≡ e (λ s. suffixed tables functions (λ j. j s) at xs k)
  suffixed_first e at t.no_suffixes k = refl
  suffixed_first e at (t.index spot by others) k = after-one (t.Index spot by) others k (λ f a. suffixed_first f a others k) e at
  suffixed_first e at (t.call spot arguments others) k = after-one (t.Call spot arguments) others k (λ f a. suffixed_first f a others k) e at
  suffixed_first e at (t.dot spot member others) k = after-one (t.Dot spot member) others k (λ f a. suffixed_first f a others k) e at
  suffixed_first e at (t.arrow spot member others) k = after-one (t.Arrow spot member) others k (λ f a. suffixed_first f a others k) e at
  suffixed_first e at (t.up spot others) k = after-one (t.Up spot) others k (λ f a. suffixed_first f a others k) e at
  suffixed_first e at (t.down spot others) k = after-one (t.Down spot) others k (λ f a. suffixed_first f a others k) e at

  pub suffixed_step : (s : ResultLocation) (at : ℕ) (x : SuffixTree) (others : Suffixes) (k : ResultLocation → Coded) → suffixed tables functions (λ j. j s) at (suffix x others) k ≡ one_suffix tables functions s at x (λ s. suffixed tables functions (λ j. j s) (suffix_at x) others k)
  suffixed_step s at x others k = one-of (λ j. j s) at x others k ∙ suffixed_first (λ j. one_suffix tables functions s at x j) (suffix_at x) others k

  linked-chained : (s : ResultLocation) (at : ℕ) (links : Links) (k : ResultLocation → Coded) → linked tables functions (λ j. j s) at links k ≡ chained tables functions s at links k
  linked-chained s at t.no_links k = refl
  linked-chained s at (t.link spot sign right others) k =
      linked_step s at spot sign right others k
      ∙ ap (joined tables functions spot sign (λ j. j s) at (evaluated tables functions right) (token right)) (λ i. λ j. linked-chained j spot.at others k i)

  pub chain_first : (first : Tree) (at : ℕ) (links : Links) (k : ResultLocation → Coded) → linked tables functions (evaluated tables functions first) at links k ≡ evaluated tables functions first (λ s. chained tables functions s at links k)
  chain_first first at links k = linked_first (evaluated tables functions first) at links k ∙ ap (evaluated tables functions first) (λ i. λ s. linked-chained s at links k i)

  pub followed_step : (s : ResultLocation) (at : ℕ) (x : SuffixTree) (others : Suffixes) (k : ResultLocation → Coded) → followed tables functions s at (suffix x others) k ≡ one_suffix tables functions s at x (λ j. followed tables functions j (suffix_at x) others k)
  followed_step s at (t.Index spot by) others k = refl
  followed_step s at (t.Call spot arguments) others k = refl
  followed_step s at (t.Dot spot member) others k = refl
  followed_step s at (t.Arrow spot member) others k = refl
  followed_step s at (t.Up spot) others k = refl
  followed_step s at (t.Down spot) others k = refl

  then-followed : (x : SuffixTree) (others : Suffixes) (k : ResultLocation → Coded) → ((s : ResultLocation) (at : ℕ) → suffixed tables functions (λ j. j s) at others k ≡ followed tables functions s at others k) → (s : ResultLocation) (at : ℕ) → suffixed tables functions (λ j. j s) at (suffix x others) k ≡ followed tables functions s at (suffix x others) k
  then-followed x others k h s at =
      suffixed_step s at x others k
      ∙ ap (one_suffix tables functions s at x) (λ i. λ j. h j (suffix_at x) i)
      ∙ sym (followed_step s at x others k)

  suffixed-followed : (s : ResultLocation) (at : ℕ) (xs : Suffixes) (k : ResultLocation → Coded) → suffixed tables functions (λ j. j s) at xs k ≡ followed tables functions s at xs k
  suffixed-followed s at t.no_suffixes k = refl
  suffixed-followed s at (t.index spot by others) k = then-followed (t.Index spot by) others k (λ j a. suffixed-followed j a others k) s at
  suffixed-followed s at (t.call spot arguments others) k = then-followed (t.Call spot arguments) others k (λ j a. suffixed-followed j a others k) s at
  suffixed-followed s at (t.dot spot member others) k = then-followed (t.Dot spot member) others k (λ j a. suffixed-followed j a others k) s at
  suffixed-followed s at (t.arrow spot member others) k = then-followed (t.Arrow spot member) others k (λ j a. suffixed-followed j a others k) s at
  suffixed-followed s at (t.up spot others) k = then-followed (t.Up spot) others k (λ j a. suffixed-followed j a others k) s at
  suffixed-followed s at (t.down spot others) k = then-followed (t.Down spot) others k (λ j a. suffixed-followed j a others k) s at

  pub suffixes_first : (whole : Tree) (at : ℕ) (xs : Suffixes) (k : ResultLocation → Coded) → suffixed tables functions (evaluated tables functions whole) at xs k ≡ evaluated tables functions whole (λ s. followed tables functions s at xs k)
  suffixes_first whole at xs k = suffixed_first (evaluated tables functions whole) at xs k ∙ ap (evaluated tables functions whole) (λ i. λ s. suffixed-followed s at xs k i)

  pub target_first : (sign : Sign) (target right : Tree) (at : ℕ) (k : ResultLocation → Coded) → assignment tables functions sign (evaluated tables functions target) at (evaluated tables functions right) (token right) k ≡ evaluated tables functions target (λ s. assigned_to tables functions s at sign right k)
  unfolding assigned_to
  target_first g.Assign target right at k = refl
  target_first sign target right at k = refl
