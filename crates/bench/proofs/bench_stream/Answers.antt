use Rattle.bench.proofs.bench_stream.Goals as goal

pub returns : goal.returns
returns c = let s = c in rw (s.squeeze.ensures.0, s.begin.ensures)
