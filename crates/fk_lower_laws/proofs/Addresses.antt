-- Addresses of shared data, and where a type has its words at one.
use Rattle.std.proofs.Common.{◌≡◌, inl, inr, ℕ, ◌+◌, ◌*◌, ◌%◌, ◌^◌, ◌≤◌, nat_lt, true, List, Option, Some, sym, ap, ◌∙◌, subst, arith}
use Rattle.std.proofs.lemmas.Bool.{and_from, or_left, or_right, le-leb, lt-ltb, eq-eqb, cases_lt}
use Rattle.fk_meaning_store.specs.Serve.{may_use}
use Rattle.fk_lockstep_frames.specs.Nests.{Nest, frame_at, frame_has}
use Rattle.fk_core_typing.specs.declared.constants.Constant.{Constant as Address}
use Rattle.fk_core_typing.specs.declared.constants.Constant.TheVariants.{Number, FrameWord}
use Rattle.fk_core_typing.specs.AddressValues.{is_address}
use Rattle.fk_types_structs.specs.declared.types.DataType.{DataType}
use Rattle.fk_types_structs.specs.Types.{StructTree}
use Rattle.fk_types_structs.specs.Sizes.{HasTypeWords}

shared_address : (i : ℕ) → i ≤ 524288 → may_use true (0x10000000 + 4 * i) ≡ true
shared_address i low =
    let a = 0x10000000 + 4 * i in
    and_from _ _ (eq-eqb (a % 4) 0 (omega arith))
    (or_left _ _ (and_from _ _ (le-leb 0x10000000 a (omega arith)) (lt-ltb a (0x10000000 + 4 * 2 ^ 20) (omega (arith, low)))))

module _ (structs : List StructTree) where
  -- a type has its words at an address, among those of the shared variables
  pub record HasRoom (address : ℕ) (type : DataType) : Type 0 where
    pub index : ℕ
    pub words : ℕ
    pub is : address ≡ 0x10000000 + 4 * index
    pub has : HasTypeWords structs type words
    pub within : index + words ≤ 524288

  -- and in a group frame, unless it is told as one of too many words
  pub record HasFrameRoom (nests : List Nest) (nesting first : ℕ) (type : DataType) : Type 0 where
    pub words : ℕ
    pub region : ℕ
    pub has : HasTypeWords structs type words
    pub some : 1 ≤ words
    pub few : words ≤ 524288
    pub frame : frame_at nests nesting ≡ Some region
    pub within : region ≤ 2 ^ 20 → first + words ≤ region

  abbrev pub HasRoomAt : List Nest → Address → DataType → Type 0
  HasRoomAt nests (Number address) type = HasRoom address type
  HasRoomAt nests (FrameWord nesting first) type = HasFrameRoom nests nesting first type

  frame_may : (first words region : ℕ) → 1 ≤ words → (region ≤ 2 ^ 20 → first + words ≤ region) → frame_has (Some region) first ≡ true
  frame_may first words region some within =
      elim (cases_lt (2 ^ 20) region) as (λ x. frame_has (Some region) first ≡ true) [
        | inl large ↦ or_right (nat_lt first region) _ (lt-ltb (2 ^ 20) region large)
        | inr small ↦ let fits = within small in or_left _ (nat_lt (2 ^ 20) region) (lt-ltb first region (omega (arith, some, fits)))
      ]

  pub room_may : (nests : List Nest) (address : Address) (type : DataType) → HasRoomAt nests address type → is_address true nests (Some address) ≡ true
  room_may nests (Number address) type room = subst (λ a. may_use true a ≡ true) (sym room.is) (shared_address room.index (let few = room.within in omega (arith, few)))
  room_may nests (FrameWord nesting first) type room =
      ap (λ (frame : Option ℕ). frame_has frame first) room.frame ∙ frame_may first room.words room.region room.some room.within
