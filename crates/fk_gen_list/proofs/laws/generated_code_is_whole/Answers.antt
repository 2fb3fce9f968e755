use Rattle.fk_gen_list.proofs.Generated.{generated_code_is_whole}
use Rattle.fk_gen_list.proofs.laws.generated_code_is_whole.Goals as goal

pub returns : goal.returns
returns c = generated_code_is_whole
