-- What sets of live words keep at an operation and at a jump.
use Rattle.std.proofs.Common.{◌≡◌, ℕ, Bool, true, false, List, [], slice_get, Some, refl, ap, ◌∙◌}
use Rattle.std.specs.Prelude.{◌==◌, ◌||◌, ◌&&◌, not, nat_lt, if◌then◌else◌, ◌<◌}
use Rattle.std.proofs.lemmas.Bool.{lt-ltb}
use Rattle.std.proofs.Common.{eq-eqb}
use Rattle.fk_meaning_operation.specs.declared.operation.Operation.{Operation}
use Rattle.fk_meaning_operation.specs.declared.operation.Operation.TheVariants as o
use Rattle.fk_meaning_operation.specs.declared.operation.OwnValue.TheVariants as n
use Rattle.fk_meaning_operation.specs.declared.operation.Variable.TheVariants as v
use Rattle.fk_core.specs.declared.op.CoreOp.{CoreOp}
use Rattle.fk_core.specs.Numbers.{operation_of}
use Rattle.fk_core.specs.Next.{is_jump, follows}
use Rattle.fk_core_typing.specs.LocalDepths.{is_ordinary}
use Rattle.fk_sim_block.specs.Next.{OpAt}
use Rattle.fk_sim_block.specs.Suits.{writes}
use Rattle.fk_core_liveness.specs.Live.{reads, needed, kept_behind, asked_by, asked_of, asked, IsLive}

or_true : (a : Bool) → (a || true) ≡ true
or_true true = refl
or_true false = refl

module _ (core : List CoreOp) (keeps : (index word : ℕ) → Bool) where
  pub at_operation : (i : ℕ) (op : CoreOp) (operation : Operation) → OpAt core i op operation → (word : ℕ)
      → asked core keeps i word ≡ needed operation (kept_behind core keeps operation i op.target word) word
  at_operation i op operation stands word =
      ap (λ o. asked_of core keeps o i word) stands.stands
      ∙ ap (λ b. if b then keeps op.target word else asked_by core keeps (operation_of op.kind op.number) i op.target word) stands.no_jump
      ∙ ap (λ o. asked_by core keeps o i op.target word) stands.is_read

  pub at_jump : (i : ℕ) (op : CoreOp) → slice_get core i ≡ Some op → is_jump op ≡ true → (word : ℕ) → asked core keeps i word ≡ keeps op.target word
  at_jump i op e z word =
      ap (λ o. asked_of core keeps o i word) e
      ∙ ap (λ b. if b then keeps op.target word else asked_by core keeps (operation_of op.kind op.number) i op.target word) z

  -- what has to be kept behind an operation that goes on in its function
  pub behind_ordinary : (op : Operation) (i target word : ℕ) → is_ordinary op ≡ true
      → kept_behind core keeps op i target word
      ≡ (keeps (follows core op i target [] true).at word || keeps (follows core op i target [] false).at word)
  behind_ordinary (o.Enter x) i target word e = absurd (cc)
  behind_ordinary (o.Leave gives framed) i target word e = absurd (cc)
  behind_ordinary o.Halt i target word e = absurd (cc)
  behind_ordinary op i target word e = refl

  on_either : (a b : Bool) (onward : Bool) → (if onward then a else b) ≡ true → (a || b) ≡ true
  on_either a b true e = ap (λ x. x || b) e
  on_either a b false e = ap (λ x. a || x) e ∙ or_true a

  pub behind_either : (op : Operation) (i target word : ℕ) → is_ordinary op ≡ true → (onward : Bool)
      → keeps (follows core op i target [] onward).at word ≡ true → kept_behind core keeps op i target word ≡ true
  behind_either op i target word e onward k =
      behind_ordinary op i target word e
      ∙ on_either (keeps (follows core op i target [] true).at word) (keeps (follows core op i target [] false).at word) onward (by onward k)
    where
      by : (onward : Bool) → keeps (follows core op i target [] onward).at word ≡ true
          → (if onward then keeps (follows core op i target [] true).at word else keeps (follows core op i target [] false).at word) ≡ true
      by true k = k
      by false k = k

  module _ (live : IsLive core keeps) where
    pub kept_before : (i : ℕ) (op : CoreOp) (operation : Operation) → OpAt core i op operation → (word : ℕ)
        → kept_behind core keeps operation i op.target word ≡ true → writes operation word ≡ false → keeps i word ≡ true
    kept_before i op operation stands word k w =
        live i word (at_operation i op operation stands word ∙ ap (λ a. (a && not (writes operation word)) || reads operation word) k
        ∙ ap (λ b. (true && not b) || reads operation word) w)

    pub read_before : (i : ℕ) (op : CoreOp) (word : ℕ) → OpAt core i op (o.Get (n.Value (v.Private word))) → word < 64 → keeps i word ≡ true
    read_before i op word stands low =
        live i word (at_operation i op (o.Get (n.Value (v.Private word))) stands word
        ∙ ap (λ b. (kept_behind core keeps (o.Get (n.Value (v.Private word))) i op.target word && true) || b) here
        ∙ or_true (kept_behind core keeps (o.Get (n.Value (v.Private word))) i op.target word && true))
      where
        here : ((word == word) && nat_lt word 64) ≡ true
        here = ap (λ b. b && nat_lt word 64) (eq-eqb word word refl) ∙ lt-ltb word 64 low

    pub jump_before : (i : ℕ) (op : CoreOp) → slice_get core i ≡ Some op → is_jump op ≡ true → (word : ℕ) → keeps op.target word ≡ true → keeps i word ≡ true
    jump_before i op e z word k = live i word (at_jump i op e z word ∙ k)
