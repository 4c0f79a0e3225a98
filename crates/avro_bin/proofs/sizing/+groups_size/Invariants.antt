use Rattle.avro_bin.proofs.sizing.+groups_size.Given as goal

abbrev pub decreases-groups_size : goal.decreases-groups_size
decreases-groups_size l = l.most
