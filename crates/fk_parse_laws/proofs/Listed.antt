-- The numbers that a value lists are indices of tokens of the stretch that spells it, in their order.
use Rattle.std.proofs.Common.{◌≡◌, ℕ, List, [], ◌∷◌, ◌++◌, Bool, inl, inr, refl, sym, subst}
use Rattle.std.specs.Prelude.{flat_map}
use Rattle.fk_lex.specs.declared.token.TokenKind.{TokenKind}
use Rattle.fk_parse_combinators.specs.Languages.{Placed, Stretch, Language, token, ◌then◌, ◌or◌, making, many, nothing}
use Rattle.fk_parse_combinators.proofs.Uses.{places, places-append}
use Rattle.fk_parse_statements.specs.Statements.{accepted, not_before}
use Rattle.fk_parse_laws.proofs.Picked.{Picked, picked_append}

-- numbers are among others, in their order
abbrev pub Among : List ℕ → List ℕ → Type 0
Among = Picked (λ (n : ℕ). n)

-- what a value lists
abbrev pub Listing : Type 0 → Type 0
Listing A = A → List ℕ

pub record Lists {A : Type 0} (L : Language A) (u : Listing A) : Type 0 where
  pub lists : (s : Stretch) (a : A) → L s a → Among (u a) (places s)

abbrev pub nothing_of : {A : Type 0} → Listing A
nothing_of a = []

abbrev pub place_of : Listing Placed
place_of t = t.at ∷ []

abbrev pub both : {A B : Type 0} → Listing A → Listing B → Listing (A × B)
both u v x = u x.0 ++ v x.1

pub lists_none : {A : Type 0} {L : Language A} → Lists L (λ a. nothing_of a)
lists_none = record { lists = λ s a l. tt }

pub lists_token : (level : ℕ) (is : TokenKind) → Lists (token level is) place_of
lists_token level is = record { lists = λ s t l. rw (l.0) (inl (refl, tt)) }

infixr 40 ◌next_to◌
pub ◌next_to◌ : {A B : Type 0} {L : Language A} {M : Language B} {u : Listing A} {v : Listing B} → Lists L u → Lists M v → Lists (L then M) (both u v)
◌next_to◌ {u = u} {v = v} h g = record {
  lists = λ s x l.
      let w = picked_append (λ (n : ℕ). n) (u x.0) (v x.1) (places l.0) (places l.1) (h.lists l.0 x.0 l.3) (g.lists l.1 x.1 l.4) in
      rw (l.2, places-append l.0 l.1) w;
}

pub lists_or : {A : Type 0} {L M : Language A} {u : Listing A} → Lists L u → Lists M u → Lists (L or M) u
lists_or {A} {L} {M} {u} h g = record { lists = lists }
  where
    lists : (s : Stretch) (a : A) → (L or M) s a → Among (u a) (places s)
    lists s a (inl l) = h.lists s a l
    lists s a (inr m) = g.lists s a m

pub lists_making : {A B : Type 0} (f : A → B) {L : Language A} {u : Listing A} {v : Listing B} → Lists L u → ((a : A) → v (f a) ≡ u a) → Lists (making f L) v
lists_making f {v = v} h same = record {
  lists = λ s b l. subst (λ z. Among (v z) (places s)) (sym l.2) (subst (λ z. Among z (places s)) (sym (same l.0)) (h.lists s l.0 l.1));
}

pub lists_many : {A : Type 0} {L : Language A} {u : Listing A} → Lists L u → Lists (many L) (flat_map u)
lists_many {A} {L} {u} h = record { lists = lists }
  where
    lists : (s : Stretch) (list : List A) → many L s list → Among (flat_map u list) (places s)
    lists s [] l = tt
    lists s (x ∷ xs) l =
        let w = picked_append (λ (n : ℕ). n) (u x) (flat_map u xs) (places l.0) (places l.1) (h.lists l.0 x l.3) (lists l.1 xs l.4) in
        rw (l.2, places-append l.0 l.1) w

pub lists_nothing : {A : Type 0} (u : Listing A) → Lists (nothing {A = A}) u
lists_nothing u = record { lists = λ s a l. absurd l }

pub lists_accepted : {A : Type 0} (test : A → Bool) {L : Language A} {u : Listing A} → Lists L u → Lists (accepted test L) u
lists_accepted test h = record { lists = λ s a x. h.lists s a x.0 }

pub lists_not_before : {A : Type 0} (is : TokenKind) {L : Language A} {u : Listing A} → Lists L u → Lists (not_before is L) u
lists_not_before is h = record { lists = λ s a x. h.lists s a x.0 }
