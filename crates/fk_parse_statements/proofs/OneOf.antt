-- Whether a kind is one of several, one `||` behind the other as the definitions have them.
use Rattle.std.proofs.Common.{◌≡◌, List, [], ◌∷◌, Bool, true, false, ◌||◌, ◌⊎◌, inl, inr, refl}
use Rattle.std.proofs.lemmas.Bool.{or_left, or_right}
use Rattle.fk_lex.specs.declared.token.TokenKind.{TokenKind}
use Rattle.fk_parse_combinators.specs.Kinds.{just}
use Rattle.fk_parse_combinators.proofs.SameKind.{just_same, just_other}

-- one of these
abbrev pub IsOne : TokenKind → List TokenKind → Type 0
IsOne t [] = ⊥
IsOne t (k ∷ []) = t ≡ k
IsOne t (k ∷ j ∷ ks) = t ≡ k ⊎ IsOne t (j ∷ ks)

-- none of these
abbrev pub IsNone : TokenKind → List TokenKind → Type 0
IsNone t [] = Unit {0}
IsNone t (k ∷ ks) = (t ≡ k → ⊥) × IsNone t ks

-- behind a test
abbrev pub or_one : Bool → List TokenKind → TokenKind → Bool
or_one b [] t = b
or_one b (k ∷ ks) t = or_one (b || just k t) ks t

pub found_before : (b : Bool) (ks : List TokenKind) (t : TokenKind) → b ≡ true → or_one b ks t ≡ true
found_before b [] t h = h
found_before b (k ∷ ks) t h = found_before (b || just k t) ks t (or_left b (just k t) h)

pub found : (b : Bool) (ks : List TokenKind) (t : TokenKind) → IsOne t ks → or_one b ks t ≡ true
found b [] t h = absurd h
found b (k ∷ []) t h = or_right b (just k t) (just_same k t h)
found b (k ∷ j ∷ ks) t (inl h) = found_before (b || just k t) (j ∷ ks) t (or_right b (just k t) (just_same k t h))
found b (k ∷ j ∷ ks) t (inr h) = found (b || just k t) (j ∷ ks) t h

pub not_found : (b : Bool) (ks : List TokenKind) (t : TokenKind) → b ≡ false → IsNone t ks → or_one b ks t ≡ false
not_found b [] t h none = h
not_found b (k ∷ ks) t h none =
    let other = just_other k t none.0 in
    not_found (b || just k t) ks t (rw (h, other) refl) none.1
