-- What is asked of an expression is asked in a part too, which has no frame.
use Rattle.std.proofs.Common.{◌≡◌, ℕ, suc, ◌≤◌, Bool, true, false, List, [], ◌∷◌, Some, None, refl, arith}
use Rattle.std.specs.Prelude.{◌==◌, if◌then◌else◌}
use Rattle.std.proofs.lemmas.Bool.{false≢true, eqb-true}
use Rattle.fk_syntax.specs.declared.sign.Sign.{Sign}
use Rattle.fk_syntax.specs.declared.sign.Sign.TheVariants as g
use Rattle.fk_syntax.specs.Tree as t
use Rattle.fk_syntax.specs.Tree.{Named, Tree, Links, Trees, Suffixes}
use Rattle.fk_meaning_forms.specs.Tables.{Tables, no_binding, note}
use Rattle.fk_meaning_forms.specs.Expressions.{Signature, token}
use Rattle.fk_core_liveness.specs.declared.places.FunctionKind.{FunctionKind}
use Rattle.fk_lockstep_frames.specs.Nests.{Nest, OfFunction, OfPart, nesting, frame_at, frame_has, has_word}
use Rattle.fk_core_typing.specs.declared.constants.Constant.{Constant as Address}
use Rattle.fk_core_typing.specs.declared.constants.Constant.TheVariants.{Number, FrameWord}
use Rattle.fk_core_typing.specs.AddressValues.{is_address}
use Rattle.fk_lower_laws.specs.Ways.{Way, Valued, Unchecked, Constant, Function, called_way, dotted_way, joined_way, named_way, way}
use Rattle.fk_lower_laws.specs.Asked.{NameAsks, DotAsks, JoinAsks, NameTakes, CallAsks, Asked, LinksAsked, SuffixesAsked, AllAsked}

-- a frame with a word is that of a nest of the running function
pub low_number : (nests : List Nest) (number word : ℕ) → has_word nests number word ≡ true → number ≤ nesting nests
low_number [] number word has = absurd (false≢true has)
low_number (OfFunction frame ∷ nests) number word has = by (number == 0) refl has
  where
    by : (b : Bool) → (number == 0) ≡ b → frame_has (if b then frame else None) word ≡ true → number ≤ 0
    by true is has' = let zero = eqb-true number 0 is in omega (arith, zero)
    by false is has' = absurd (false≢true has')
low_number (OfPart numbered frame ∷ nests) number word has = by (number == suc (nesting nests)) refl has (low_number nests number word)
  where
    by : (b : Bool) → (number == suc (nesting nests)) ≡ b → frame_has (if b then frame else frame_at nests number) word ≡ true
        → (has_word nests number word ≡ true → number ≤ nesting nests) → number ≤ suc (nesting nests)
    by true is has' below = let same = eqb-true number (suc (nesting nests)) is in omega (arith, same)
    by false is has' below = let low = below has' in omega (arith, low)

pub deeper_word : (nests : List Nest) (number word : ℕ) → has_word nests number word ≡ true → has_word (OfPart false None ∷ nests) number word ≡ true
deeper_word nests number word has = by (number == suc (nesting nests)) refl
  where
    by : (b : Bool) → (number == suc (nesting nests)) ≡ b → frame_has (if b then None else frame_at nests number) word ≡ true
    by true is = absurd (let same = eqb-true number (suc (nesting nests)) is in let low = low_number nests number word has in omega (arith, same, low))
    by false is = has

module _ (tables : Tables) (functions : (binding : ℕ) → Signature) (place_of : (binding : ℕ) → FunctionKind) (nests : List Nest) where
  abbrev inner : List Nest
  inner = OfPart false None ∷ nests

  address_deeper : (c : Address) → is_address true nests (Some c) ≡ true → is_address true inner (Some c) ≡ true
  address_deeper (Number n) h = h
  address_deeper (FrameWord number word) h = deeper_word nests number word h

  name_deeper : (at : ℕ) (w : Way) → NameAsks tables functions place_of nests at w → NameAsks tables functions place_of inner at w
  name_deeper at (Constant c) h = address_deeper c h
  name_deeper at w h = h

  dot_deeper : (at : ℕ) (w : Way) → DotAsks tables functions place_of nests at w → DotAsks tables functions place_of inner at w
  dot_deeper at (Constant c) h = name_deeper at (dotted_way tables place_of at (Constant c)) h
  dot_deeper at w h = h

  join_deeper : (sign : Sign) (left : Way) (at : ℕ) (right : Way) → JoinAsks tables functions place_of nests sign left at right → JoinAsks tables functions place_of inner sign left at right
  join_deeper g.Comma left at right h = h
  join_deeper sign left at right h = h

  takes_deeper : (predeclared : Bool) (name : Named) (arguments : Trees) → NameTakes tables functions place_of nests predeclared name arguments
      → NameTakes tables functions place_of inner predeclared name arguments
  takes_deeper true name arguments h = h
  takes_deeper false name arguments h = record { called = h.called; enough = h.enough }

  call_deeper : (w : Way) (arguments : Trees) → CallAsks tables functions place_of nests w arguments → CallAsks tables functions place_of inner w arguments
  call_deeper (Function name) arguments h = takes_deeper ((note tables name.at).binding == no_binding) name arguments h
  call_deeper w arguments h = absurd h

  mutual
    pub asked_deeper : (x : Tree) → Asked tables functions place_of nests x → Asked tables functions place_of inner x
    asked_deeper (t.Variable name) h = name_deeper name.at (named_way tables place_of name) h
    asked_deeper (t.Prefix spot sign operand) h = (asked_deeper operand h.0, h.1)
    asked_deeper (t.Cast spot type operand) h = (asked_deeper operand h.0, h.1)
    asked_deeper (t.Chain first links) h = (asked_deeper first h.0, links_deeper (way tables place_of first) (token first) links h.1)
    asked_deeper (t.Postfix whole suffixes) h = (asked_deeper whole h.0, suffixes_deeper (way tables place_of whole) suffixes h.1)
    asked_deeper (t.Assign spot sign target value) h = (asked_deeper target h.0, h.1, asked_deeper value h.2, h.3)
    asked_deeper (t.Choose spot condition first second) h = (asked_deeper condition h.0, h.1, asked_deeper first h.2, asked_deeper second h.3, h.4)
    asked_deeper (t.Number spot number unsigned) h = tt
    asked_deeper (t.Puts spot text) h = tt
    asked_deeper (t.Sizeof spot type) h = tt
    asked_deeper (t.GroupNumber spot) h = tt
    asked_deeper (t.GroupRank spot) h = tt

    links_deeper : (w : Way) (at : ℕ) (x : Links) → LinksAsked tables functions place_of nests w at x → LinksAsked tables functions place_of inner w at x
    links_deeper w at t.no_links h = tt
    links_deeper w at (t.link spot sign right others) h = (
      asked_deeper right h.0,
      join_deeper sign w at (way tables place_of right) h.1,
      links_deeper (joined_way sign (way tables place_of right)) spot.at others h.2,
    )

    suffixes_deeper : (w : Way) (x : Suffixes) → SuffixesAsked tables functions place_of nests w x → SuffixesAsked tables functions place_of inner w x
    suffixes_deeper w t.no_suffixes h = tt
    suffixes_deeper w (t.index spot by others) h = (h.0, asked_deeper by h.1, h.2, suffixes_deeper Unchecked others h.3)
    suffixes_deeper w (t.call spot arguments others) h =
        (call_deeper w arguments h.0, all_deeper arguments h.1, suffixes_deeper (called_way tables place_of w) others h.2)
    suffixes_deeper w (t.dot spot name others) h = (dot_deeper name.at w h.0, suffixes_deeper (dotted_way tables place_of name.at w) others h.1)
    suffixes_deeper w (t.arrow spot name others) h = (h.0, suffixes_deeper Unchecked others h.1)
    suffixes_deeper w (t.up spot others) h = (h.0, suffixes_deeper Valued others h.1)
    suffixes_deeper w (t.down spot others) h = (h.0, suffixes_deeper Valued others h.1)

    all_deeper : (x : Trees) → AllAsked tables functions place_of nests x → AllAsked tables functions place_of inner x
    all_deeper t.no_trees h = tt
    all_deeper (t.tree first others) h = (asked_deeper first h.0, h.1, all_deeper others h.2)
