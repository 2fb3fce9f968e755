-- States that grant what is asked in others.
use Rattle.std.proofs.Common.{◌≡◌, suc, List, [], ◌∷◌, length, Option, None, ap, ◌∙◌, refl}
use Rattle.fk_core_typing.specs.declared.constants.Constant.{Constant}
use Rattle.fk_core_typing.specs.declared.constants.Constants.{Constants}
use Rattle.fk_core_typing.specs.AddressValues.{no_constants}
use Rattle.fk_core_typing.specs.LocalAddresses.{IsSameIn, AreSameIn}
use Rattle.fk_core_typing.specs.Values.{Value, State, AreAsGood, Grants}

pub none_same : (known : Option Constant) → IsSameIn None known
none_same known c e = absurd (cc)

pub none_asked : (known : Constants) → AreSameIn no_constants known
none_asked known = record { last = none_same known.last; second = none_same known.second }

pub same_both : (a b c : Constants) → AreSameIn a b → AreSameIn b c → AreSameIn a c
same_both a b c p q = record { last = λ n e. q.last n (p.last n e); second = λ n e. q.second n (p.second n e) }

pub good_as_itself : (vs : List Value) → AreAsGood vs vs
good_as_itself [] = tt
good_as_itself (v ∷ vs) = (λ shared_alone e. e, good_as_itself vs)

good_both : (us vs ws : List Value) → AreAsGood us vs → AreAsGood vs ws → AreAsGood us ws
good_both [] [] [] p q = tt
good_both (u ∷ us) (v ∷ vs) (w ∷ ws) p q = (λ shared_alone e. p.0 shared_alone (q.0 shared_alone e), good_both us vs ws p.1 q.1)
good_both [] [] (w ∷ ws) p q = absurd q
good_both [] (v ∷ vs) ws p q = absurd p
good_both (u ∷ us) [] ws p q = absurd p
good_both (u ∷ us) (v ∷ vs) [] p q = absurd q

-- lists of which one is as good as the other are as long
pub as_long : (vs ws : List Value) → AreAsGood vs ws → length vs ≡ length ws
as_long [] [] p = refl
as_long (v ∷ vs) (w ∷ ws) p = ap (λ n. suc n) (as_long vs ws p.1)
as_long [] (w ∷ ws) p = absurd p
as_long (v ∷ vs) [] p = absurd p

pub grants_itself : (s : State) → Grants s s
grants_itself s = record { place = refl; values = good_as_itself s.values; constants = record { last = λ n e. e; second = λ n e. e } }

pub grants_both : (s t u : State) → Grants s t → Grants t u → Grants s u
grants_both s t u p q = record {
  place = p.place ∙ q.place;
  values = good_both s.values t.values u.values p.values q.values;
  constants = same_both u.constants t.constants s.constants q.constants p.constants;
}
