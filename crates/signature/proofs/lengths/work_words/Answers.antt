use Rattle.signature.proofs.KeyRanges.{columns-fit, rest-fit, rows_fit, polys-fit, words-fit}
use Rattle.signature.proofs.lengths.work_words.Goals as goal

pub overflow_mul-result-2 : goal.overflow_mul-result-2
overflow_mul-result-2 c = record { fits = columns-fit c.args.p c.requires }

pub overflow_add-result : goal.overflow_add-result
overflow_add-result c = record { fits = rest-fit c.args.p c.requires }

pub overflow_add-result-2 : goal.overflow_add-result-2
overflow_add-result-2 c = record { fits = rows_fit c.args.p c.requires }

pub overflow_add-result-3 : goal.overflow_add-result-3
overflow_add-result-3 c = record { fits = polys-fit c.args.p c.requires }

pub overflow_mul-result-5 : goal.overflow_mul-result-5
overflow_mul-result-5 c = record { fits = words-fit c.args.p c.requires }
