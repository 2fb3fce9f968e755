-- What a value lists stands behind the first token of the stretch that spells it.
use Rattle.std.proofs.Common.{◌≡◌, ℕ, List, [], ◌∷◌, ◌++◌, inl, inr, sym, subst}
use Rattle.std.specs.Prelude.{flat_map}
use Rattle.fk_lex.specs.declared.token.TokenKind.{TokenKind}
use Rattle.fk_parse_combinators.specs.Languages.{Stretch, Language, token, ◌then◌, ◌or◌, making, many}
use Rattle.fk_parse_combinators.proofs.Uses.{places, places-append}
use Rattle.fk_parse_laws.proofs.Picked.{picked_skip, picked_behind, picked_append}
use Rattle.fk_parse_laws.proofs.Listed.{Among, Listing, Lists, nothing_of, both}

-- all but the first
abbrev pub behind : List ℕ → List ℕ
behind [] = []
behind (n ∷ ns) = ns

among_all : (xs ns : List ℕ) → Among xs (behind ns) → Among xs ns
among_all xs [] w = w
among_all xs (n ∷ ns) w = picked_skip (λ (m : ℕ). m) n xs ns w

behind_append : (xs zs ns ms : List ℕ) → Among xs (behind ns) → Among zs (behind ms) → Among (xs ++ zs) (behind (ns ++ ms))
behind_append xs zs [] ms v w = picked_append (λ (n : ℕ). n) xs zs [] (behind ms) v w
behind_append xs zs (n ∷ ns) ms v w = picked_append (λ (m : ℕ). m) xs zs ns ms v (among_all zs ms w)

pub record ListsBehind {A : Type 0} (L : Language A) (u : Listing A) : Type 0 where
  pub lists : (s : Stretch) (a : A) → L s a → Among (u a) (behind (places s))

-- ---- each stretch of a language has a token

abbrev HasTokens : Stretch → Type 0
HasTokens [] = ⊥
HasTokens (m ∷ s) = Unit {0}

has_append : (s t : Stretch) → HasTokens s → HasTokens (s ++ t)
has_append [] t h = absurd h
has_append (m ∷ s) t h = tt

pub record Begins {A : Type 0} (L : Language A) : Type 0 where
  pub begins : (s : Stretch) (a : A) → L s a → HasTokens s

pub begins_token : (level : ℕ) (is : TokenKind) → Begins (token level is)
begins_token level is = record { begins = λ s t l. rw (l.0) tt }

pub begins_then : {A B : Type 0} {L : Language A} (M : Language B) → Begins L → Begins (L then M)
begins_then M h = record { begins = λ s x l. rw (l.2) (has_append l.0 l.1 (h.begins l.0 x.0 l.3)) }

pub begins_or : {A : Type 0} {L M : Language A} → Begins L → Begins M → Begins (L or M)
begins_or {A} {L} {M} h g = record { begins = begins }
  where
    begins : (s : Stretch) (a : A) → (L or M) s a → HasTokens s
    begins s a (inl l) = h.begins s a l
    begins s a (inr m) = g.begins s a m

pub begins_making : {A B : Type 0} (f : A → B) {L : Language A} → Begins L → Begins (making f L)
begins_making f h = record { begins = λ s b l. h.begins s l.0 l.1 }

-- ---- listings

pub behind_none : {A : Type 0} {L : Language A} → ListsBehind L (λ a. nothing_of a)
behind_none = record { lists = λ s a l. tt }

-- behind what begins
pub behind_first : {A B : Type 0} {L : Language A} {M : Language B} {v : Listing B} → Begins L → Lists M v → ListsBehind (L then M) (both (λ a. nothing_of a) v)
behind_first {A} {B} {L} {M} {v} h g = record { lists = λ s x l. rw (l.2, places-append l.0 l.1) (by x l.1 l.0 (h.begins l.0 x.0 l.3) (g.lists l.1 x.1 l.4)) }
  where
    by : (x : A × B) (back front : Stretch) → HasTokens front → Among (v x.1) (places back) → Among (v x.1) (behind (places front ++ places back))
    by x back [] has w = absurd has
    by x back (m ∷ front) has w = picked_behind (λ (n : ℕ). n) (v x.1) (places front) (places back) w

pub behind_next : {A B : Type 0} {L : Language A} {M : Language B} {u : Listing A} {v : Listing B} → ListsBehind L u → ListsBehind M v → ListsBehind (L then M) (both u v)
behind_next {u = u} {v = v} h g = record {
  lists = λ s x l.
      let w = behind_append (u x.0) (v x.1) (places l.0) (places l.1) (h.lists l.0 x.0 l.3) (g.lists l.1 x.1 l.4) in
      rw (l.2, places-append l.0 l.1) w;
}

pub behind_or : {A : Type 0} {L M : Language A} {u : Listing A} → ListsBehind L u → ListsBehind M u → ListsBehind (L or M) u
behind_or {A} {L} {M} {u} h g = record { lists = lists }
  where
    lists : (s : Stretch) (a : A) → (L or M) s a → Among (u a) (behind (places s))
    lists s a (inl l) = h.lists s a l
    lists s a (inr m) = g.lists s a m

pub behind_making : {A B : Type 0} (f : A → B) {L : Language A} {u : Listing A} {v : Listing B} → ListsBehind L u → ((a : A) → v (f a) ≡ u a) → ListsBehind (making f L) v
behind_making f {v = v} h same = record {
  lists = λ s b l.
      subst (λ z. Among (v z) (behind (places s))) (sym l.2) (subst (λ z. Among z (behind (places s))) (sym (same l.0)) (h.lists s l.0 l.1));
}

pub behind_many : {A : Type 0} {L : Language A} {u : Listing A} → ListsBehind L u → ListsBehind (many L) (flat_map u)
behind_many {A} {L} {u} h = record { lists = lists }
  where
    lists : (s : Stretch) (list : List A) → many L s list → Among (flat_map u list) (behind (places s))
    lists s [] l = tt
    lists s (x ∷ xs) l =
        let w = behind_append (u x) (flat_map u xs) (places l.0) (places l.1) (h.lists l.0 x l.3) (lists l.1 xs l.4) in
        rw (l.2, places-append l.0 l.1) w
