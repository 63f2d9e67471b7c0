use Rattle.sharing.proofs.encoding.+zero_encoding.Given as goal

abbrev pub decreases-zero_encoding : goal.decreases-zero_encoding
decreases-zero_encoding l = l.d
