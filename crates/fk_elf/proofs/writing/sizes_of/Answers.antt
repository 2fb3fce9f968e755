use Rattle.std.proofs.Common.{arith}
use Rattle.fk_image.proofs.Commits.{few_of_image}
use Rattle.fk_elf.proofs.writing.sizes_of.Goals as goal

pub overflow_cast-result-4 : goal.overflow_cast-result-4
overflow_cast-result-4 c = omega (arith, few_of_image c.args.image.now c.requires)

pub overflow_mul-result-4 : goal.overflow_mul-result-4
overflow_mul-result-4 c = omega (arith, few_of_image c.args.image.now c.requires)

pub overflow_add-result-2 : goal.overflow_add-result-2
overflow_add-result-2 c = omega (arith, few_of_image c.args.image.now c.requires)
