-- A list that has flat code has the code standing in it.
use Rattle.std.proofs.Common.{false, true≢false, length, None, sym, subst}
use Rattle.fk_meaning_forms.specs.Program.{bodies_of}
use Rattle.fk_core.specs.CodeAt.{CodeAt}
use Rattle.fk_core_flat.specs.Shape.{is_closed}
use Rattle.fk_core_flat.specs.Laws.{FlatListsHaveCode}
use Rattle.fk_core_flat.proofs.CodeAt.{code_at}
use Rattle.fk_core_flat.proofs.Jumps.{leads_on}

pub flat_lists_have_code : FlatListsHaveCode
flat_lists_have_code tables program core entry shaped is_flat =
    let bodies = bodies_of tables program in
    record {
      leads_on = leads_on bodies core entry shaped is_flat;
      stands = λ f. subst (λ i. CodeAt core entry (bodies f) None i (length core)) (sym (is_flat.begins f))
          (code_at core entry (λ f. is_closed (bodies f)) (bodies f) false None (is_flat.place f) (length core) (shaped f).0 (is_flat.has f)
          (λ near. absurd (true≢false (sym near))));
    }
