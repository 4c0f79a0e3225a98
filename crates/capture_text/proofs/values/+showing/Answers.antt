use Rattle.avro_bin.proofs.ViewLemmas.{value_double}
use Rattle.capture_text.proofs.values.+showing.Goals as goal

pub put_value-returns-in-Double : goal.put_value-returns-in-Double
put_value-returns-in-Double t c = rw (c.in-Double.is, value_double) (rw c.to_be_bytes-in-Double.ensures at c.put_marked-in-Double.ensures)
